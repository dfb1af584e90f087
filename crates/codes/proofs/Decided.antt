-- What a decision says of the two points: which of them lies beyond which side.
-- The rule on codes is computed over all pairs of codes, and a bit of a code is the test of its side.
use mathlib.Core.Path.{◌≡◌, refl, sym, subst, ◌∙◌}
use mathlib.Core.Bool.{Bool, true, false, not, ◌&&◌, beq}
use Prim.Native.Nat.{ℕ, ◌/◌, ◌%◌, ◌^◌, ◌<◌, ◌≤◌}
use lib.Bits.{bit_and, bit_or}
use lib.Count.{count_trailing_zeros}
use lib.Dec.{T, eqb, leb, ltb, eqb→eq, eqb_refl, ltb→lt, le→leb, lt→ltb, not_T}
use lib.IntN.{pos}
use lib.Signed.{◌≤ℤ◌, ◌<ℤ◌, lt_z, lt_z_yes, lt_z_no}
use mir.Facts.{and_yes, yes_and}
use Rattle.whole.specs.Choice.{when◌then◌else◌}
use Rattle.fraction.specs.declared.Fraction.{Fraction}
use Rattle.grid.specs.declared.Stroke.{Stroke}
use Rattle.grid.specs.declared.Window.{Window}
use Rattle.grid.specs.Sides.{Side, left, right, bottom, top, place_of, side_at}
use Rattle.codes.specs.Codes.{past, code, keep, missed, shorten_start, shorten_end, lowest_bit, decision}
use Rattle.codes.specs.Steps.{decided}
use Rattle.codes.proofs.Everywhere.{implies, implied, bits, every_side, sides, some_side, side, every_pair, pairs}

-- ---- the rule on codes, as numbers
-- bit k of a is set
abbrev set : Side → ℕ → Bool
set k a = eqb (a / 2 ^ place_of k % 2) 1

-- the bits of side k in the codes of the start and the end
abbrev neither : Side → ℕ → ℕ → Bool
neither k a b = not (set k a) && not (set k b)

abbrev both : Side → ℕ → ℕ → Bool
both k a b = set k a && set k b

abbrev first_only : Side → ℕ → ℕ → Bool
first_only k a b = set k a && not (set k b)

abbrev last_only : Side → ℕ → ℕ → Bool
last_only k a b = not (set k a) && set k b

-- no side of a lower number than that of k has its bit set
abbrev lowest_set : Side → ℕ → Bool
lowest_set k a = every_side (λ j. implies (ltb (place_of j) (place_of k)) (not (set j a)))

abbrev is : ℕ → ℕ → ℕ → Bool
is n a b = eqb (decision a b) n

abbrev always : (ℕ → ℕ → Bool) → (ℕ → ℕ → Bool) → Bool
always p q = every_pair (λ a b. implies (p a b) (q a b))

module _ {a b : ℕ} (ha : a < 16) (hb : b < 16) where
  found : (p q : ℕ → ℕ → Bool) → T (always p q) → T (p a b) → T (q a b)
  found p q t h = implied (p a b) (q a b) (pairs (λ a b. implies (p a b) (q a b)) t ha hb) h

  where_is : (n : ℕ) (q : ℕ → ℕ → Bool) → T (always (is n) q) → decision a b ≡ n → T (q a b)
  where_is n q t e = found (is n) q t (subst (λ (m : ℕ). T (eqb m n)) (sym e) (eqb_refl n))

  keep_clear : decision a b ≡ keep → (k : Side) → T (neither k a b)
  unfolding decision count_trailing_zeros
  keep_clear e k = sides (λ k. neither k a b) (where_is keep (λ a b. every_side (λ k. neither k a b)) tt e) k

  missed_shared : decision a b ≡ missed → (k : Side) × T (both k a b)
  unfolding decision count_trailing_zeros
  missed_shared e = side (λ k. both k a b) (where_is missed (λ a b. some_side (λ k. both k a b)) tt e)

  start_set : (k : Side) → decision a b ≡ shorten_start (place_of k) → T (first_only k a b)
  unfolding decision count_trailing_zeros
  start_set k e = where_is (shorten_start (place_of k)) (first_only k) (sides (λ k. always (is (shorten_start (place_of k))) (first_only k)) tt k) e

  end_set : (k : Side) → decision a b ≡ shorten_end (place_of k) → T (last_only k a b)
  unfolding decision count_trailing_zeros
  end_set k e = where_is (shorten_end (place_of k)) (last_only k) (sides (λ k. always (is (shorten_end (place_of k))) (last_only k)) tt k) e

  -- of the bits that are set, that of a shortening is the lowest
  start_lowest : (k : Side) → decision a b ≡ shorten_start (place_of k) → T (lowest_set k a)
  unfolding decision count_trailing_zeros
  start_lowest k e = where_is (shorten_start (place_of k)) (λ a b. lowest_set k a) (sides (λ k. always (is (shorten_start (place_of k))) (λ a b. lowest_set k a)) tt k) e

  end_lowest : (k : Side) → decision a b ≡ shorten_end (place_of k) → T (lowest_set k b)
  unfolding decision count_trailing_zeros
  end_lowest k e = where_is (shorten_end (place_of k)) (λ a b. lowest_set k b) (sides (λ k. always (is (shorten_end (place_of k))) (λ a b. lowest_set k b)) tt k) e

  -- a shortening is at the side whose number is the count of trailing zeros
  pub start_side : 2 ≤ decision a b → decision a b < 6 → decision a b ≡ shorten_start (place_of (side_at (lowest_bit a)))
  unfolding decision count_trailing_zeros
  start_side l h = eqb→eq (decision a b) (shorten_start (place_of (side_at (lowest_bit a))))
      (found (λ a b. leb 2 (decision a b) && ltb (decision a b) 6) (λ a b. is (shorten_start (place_of (side_at (lowest_bit a)))) a b) tt
      (yes_and (leb 2 (decision a b)) (ltb (decision a b) 6) (le→leb 2 (decision a b) l) (lt→ltb (decision a b) 6 h)))

  pub end_side : 6 ≤ decision a b → decision a b ≡ shorten_end (place_of (side_at (lowest_bit b)))
  unfolding decision count_trailing_zeros
  end_side l = eqb→eq (decision a b) (shorten_end (place_of (side_at (lowest_bit b))))
      (found (λ a b. leb 6 (decision a b)) (λ a b. is (shorten_end (place_of (side_at (lowest_bit b)))) a b) tt (le→leb 6 (decision a b) l))

  pub start_place : 2 ≤ decision a b → decision a b < 6 → place_of (side_at (lowest_bit a)) ≡ lowest_bit a
  unfolding decision count_trailing_zeros
  start_place l h = eqb→eq (place_of (side_at (lowest_bit a))) (lowest_bit a)
      (found (λ a b. leb 2 (decision a b) && ltb (decision a b) 6) (λ a b. eqb (place_of (side_at (lowest_bit a))) (lowest_bit a)) tt
      (yes_and (leb 2 (decision a b)) (ltb (decision a b) 6) (le→leb 2 (decision a b) l) (lt→ltb (decision a b) 6 h)))

  pub end_place : 6 ≤ decision a b → place_of (side_at (lowest_bit b)) ≡ lowest_bit b
  unfolding decision count_trailing_zeros
  end_place l = eqb→eq (place_of (side_at (lowest_bit b))) (lowest_bit b)
      (found (λ a b. leb 6 (decision a b)) (λ a b. eqb (place_of (side_at (lowest_bit b))) (lowest_bit b)) tt (le→leb 6 (decision a b) l))

  -- the plain cases
  pub or_keep : bit_or a b ≡ 0 → decision a b ≡ keep
  unfolding decision count_trailing_zeros
  or_keep e = eqb→eq (decision a b) keep (found (λ a b. eqb (bit_or a b) 0) (is keep) tt (subst (λ (m : ℕ). T (eqb m 0)) (sym e) tt))

  pub and_missed : (bit_and a b ≡ 0 → ⊥) → decision a b ≡ missed
  unfolding decision count_trailing_zeros
  and_missed h = eqb→eq (decision a b) missed (found (λ a b. not (eqb (bit_and a b) 0)) (is missed) tt (not_T (eqb (bit_and a b) 0) (λ t. h (eqb→eq (bit_and a b) 0 t))))

-- ---- the bits of a point's code
abbrev joined : Bool → Bool → Bool → Bool → ℕ
joined l r b t = bit_or (bit_or (when l then 1 else 0) (when r then 2 else 0)) (bit_or (when b then 4 else 0) (when t then 8 else 0))

abbrev choice : Bool → Bool → Bool → Bool → Side → Bool
choice l r b t left = l
choice l r b t right = r
choice l r b t bottom = b
choice l r b t top = t

abbrev right_bits : Bool → Bool → Bool → Bool → Bool
right_bits l r b t = ltb (joined l r b t) 16 && every_side (λ k. beq (set k (joined l r b t)) (choice l r b t k))

same_bit : (a b : Bool) → T (beq a b) → a ≡ b
same_bit true true t = refl
same_bit true false t = absurd t
same_bit false true t = absurd t
same_bit false false t = refl

module _ (w : Window) (s : Stroke) (f : Fraction) where
  abbrev beyond : Side → Bool
  beyond k = lt_z (pos 0) (past w s k f)

  abbrev chosen : Side → Bool
  chosen k = choice (beyond left) (beyond right) (beyond bottom) (beyond top) k

  chosen_is : (k : Side) → chosen k ≡ beyond k
  chosen_is left = refl
  chosen_is right = refl
  chosen_is bottom = refl
  chosen_is top = refl

  abbrev each : Bool
  each = every_side (λ k. beq (set k (code w s f)) (chosen k))

  tested : T (ltb (code w s f) 16) × T each
  unfolding code
  tested = and_yes (ltb (code w s f) 16) each (bits right_bits tt (beyond left) (beyond right) (beyond bottom) (beyond top))

  pub code_small : code w s f < 16
  code_small = ltb→lt (code w s f) 16 tested.0

  code_bit : (k : Side) → set k (code w s f) ≡ beyond k
  code_bit k = same_bit (set k (code w s f)) (chosen k) (sides (λ k. beq (set k (code w s f)) (chosen k)) tested.1 k) ∙ chosen_is k

  set_beyond : (k : Side) → T (set k (code w s f)) → pos 0 <ℤ past w s k f
  set_beyond k t = lt_z_yes (subst T (code_bit k) t)

  clear_inside : (k : Side) → T (not (set k (code w s f))) → past w s k f ≤ℤ pos 0
  clear_inside k t = lt_z_no (subst (λ (b : Bool). T (not b)) (code_bit k) t)

-- ---- what a decision says of the two points
module _ (w : Window) (s : Stroke) (f g : Fraction) where
  abbrev a : ℕ
  a = code w s f

  abbrev b : ℕ
  b = code w s g

  pub keep_inside : decided w s f g ≡ keep → (k : Side) → (past w s k f ≤ℤ pos 0) × (past w s k g ≤ℤ pos 0)
  keep_inside e k =
      let t = and_yes (not (set k a)) (not (set k b)) (keep_clear (code_small w s f) (code_small w s g) e k) in
      (clear_inside w s f k t.0, clear_inside w s g k t.1)

  pub missed_beyond : decided w s f g ≡ missed → (k : Side) × (pos 0 <ℤ past w s k f) × (pos 0 <ℤ past w s k g)
  missed_beyond e =
      let k = missed_shared (code_small w s f) (code_small w s g) e in
      let t = and_yes (set k.0 a) (set k.0 b) k.1 in
      (k.0, set_beyond w s f k.0 t.0, set_beyond w s g k.0 t.1)

  pub start_beyond : (k : Side) → decided w s f g ≡ shorten_start (place_of k) → (pos 0 <ℤ past w s k f) × (past w s k g ≤ℤ pos 0)
  start_beyond k e =
      let t = and_yes (set k a) (not (set k b)) (start_set (code_small w s f) (code_small w s g) k e) in
      (set_beyond w s f k t.0, clear_inside w s g k t.1)

  pub end_beyond : (k : Side) → decided w s f g ≡ shorten_end (place_of k) → (past w s k f ≤ℤ pos 0) × (pos 0 <ℤ past w s k g)
  end_beyond k e =
      let t = and_yes (not (set k a)) (set k b) (end_set (code_small w s f) (code_small w s g) k e) in
      (clear_inside w s f k t.0, set_beyond w s g k t.1)

  -- the point lies beyond no side of a lower number
  lower_inside : (f : Fraction) (k : Side) → T (lowest_set k (code w s f)) → (j : Side) → place_of j < place_of k → past w s j f ≤ℤ pos 0
  lower_inside f k t j l =
      clear_inside w s f j
      (implied (ltb (place_of j) (place_of k)) (not (set j (code w s f))) (sides (λ j. implies (ltb (place_of j) (place_of k)) (not (set j (code w s f)))) t j)
      (lt→ltb (place_of j) (place_of k) l))

  pub start_lower : (k : Side) → decided w s f g ≡ shorten_start (place_of k) → (j : Side) → place_of j < place_of k → past w s j f ≤ℤ pos 0
  start_lower k e = lower_inside f k (start_lowest (code_small w s f) (code_small w s g) k e)

  pub end_lower : (k : Side) → decided w s f g ≡ shorten_end (place_of k) → (j : Side) → place_of j < place_of k → past w s j g ≤ℤ pos 0
  end_lower k e = lower_inside g k (end_lowest (code_small w s f) (code_small w s g) k e)
