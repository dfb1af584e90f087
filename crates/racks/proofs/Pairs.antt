-- Pairs of places are compared lane by lane. What is above 0 in a lane stays so, and becomes so only where two strips share area; so what some
-- comparisons find one after the other is what they find together, and once all pairs have met it tells whether the rack is crowded.
use mathlib.Core.Path.{◌≡◌, refl, sym, ap, ◌∙◌, subst}
use mathlib.Core.Logic.{◌⊎◌, inl, inr, ⊎_elim}
use mathlib.Core.Bool.{Bool, true, false, ◌||◌}
use mathlib.Core.List.{List, [], ◌∷◌}
use Prim.Native.Nat.{ℕ, zero, suc, ◌+◌, ◌^◌, ◌≤◌, ◌<◌}
use native.Mathlib.Numerals.{add-one}
use native.Mathlib.Omega.{arith}
use borrow.Author.Tests.{ltb-true, ltb-false}
use lib.Dec.{ltb}
use lib.IntN.{ℤ, pos}
use lib.ListN.{length, drop, get_or, set, drop_of_length-le}
use lib.Seq.{drop-cons}
use lib.Signed.{lt_z, mag}
use mir.Syntax.{w16}
use mir.Val.{SFits, of_z}
use mir.Facts.{sfits_lit}
use Rattle.whole.specs.Extremes.{lesser, greater}
use Rattle.whole.specs.Within.{Within}
use Rattle.whole.proofs.Comparisons.{tt_ff, bits_eq}
use Rattle.whole.proofs.Order.{zarith}
use Rattle.grid.specs.Table.{farthest}
use Rattle.grid.specs.declared.Window.{Window}
use Rattle.racks.specs.Areas.{shares_area}
use Rattle.racks.specs.Members.{any}
use Rattle.racks.specs.Racks.{strip_at, vacant, Carries}
use Rattle.racks.specs.Pairs.{share, above, Met, Sharing, Compares, Crowd}
use Rattle.racks.proofs.Common.{across, upward, across_fits, upward_fits, share_test, greater_test}
use Rattle.racks.proofs.Holding.{place, vacant_none}

-- ---- the strips at two places, or what stands there
pub record Measured (v s : Window) : Type 0 where
  pub wide : SFits w16 (across v s)
  pub tall : SFits w16 (upward v s)
  pub test : lt_z (pos 0) (lesser (across v s) (upward v s)) ≡ shares_area v s

both_vacant : Measured vacant vacant
unfolding lesser greater shares_area
both_vacant = record { wide = sfits_lit {z = pos 0} tt; tall = sfits_lit {z = pos 0} tt; test = refl }

module _ {rack : List ℤ} {ws : List Window} (hold : Carries rack ws) {p q : ℕ} (l : p < q) (m : q < 72) where
  no_strips : length ws ≤ p → (strip_at rack p ≡ vacant) × (strip_at rack q ≡ vacant)
  no_strips h = (hold.rest p h (omega arith), hold.rest q (omega arith) m)

  pub measured : Measured (strip_at rack p) (strip_at rack q)
  measured = go (ltb p (length ws)) refl
    where
      go : (t : Bool) → ltb p (length ws) ≡ t → Measured (strip_at rack p) (strip_at rack q)
      go true e =
          let on = hold.on p (ltb-true p (length ws) e) in
          let at = place on hold q m in
          record { wide = across_fits on at; tall = upward_fits on at; test = share_test on at }
      go false e =
          let none = no_strips (ltb-false p (length ws) e) in
          subst (λ (v : Window). Measured v (strip_at rack q)) (sym none.0) (subst (Measured vacant) (sym none.1) both_vacant)

  -- two places share area only where both have a strip
  pub both_strips : share rack p q ≡ true → q < length ws
  unfolding shares_area
  both_strips s = go (ltb q (length ws)) refl
    where
      off : length ws ≤ q → (t : Bool) → ltb p (length ws) ≡ t → share rack p q ≡ false
      off h true e = ap (shares_area (strip_at rack p)) (hold.rest q h m) ∙ vacant_none (hold.on p (ltb-true p (length ws) e))
      off h false e = let none = no_strips (ltb-false p (length ws) e) in λ i. shares_area (none.0 i) (none.1 i)

      go : (t : Bool) → ltb q (length ws) ≡ t → q < length ws
      go true e = ltb-true q (length ws) e
      go false e = absurd (tt_ff (sym s ∙ off (ltb-false q (length ws) e) (ltb p (length ws)) refl))

-- ---- a place behind the last strip is told by its first number
module _ {rack : List ℤ} {ws : List Window} (hold : Carries rack ws) (j : ℕ) where
  pub strip_there : j < 72 → (of_z w16 (get_or rack j (pos 0)) ≡ 16384 → ⊥) → j < length ws
  strip_there h n = go (ltb j (length ws)) refl
    where
      go : (t : Bool) → ltb j (length ws) ≡ t → j < length ws
      go true e = ltb-true j (length ws) e
      go false e = absurd (n (ap (λ (w : Window). of_z w16 w.left) (hold.rest j (ltb-false j (length ws) e) h)))

  pub none_there : mag (get_or rack j (pos 0)) < 2 ^ 15 → of_z w16 (get_or rack j (pos 0)) ≡ 16384 → length ws ≤ j
  none_there f e = go (ltb j (length ws)) refl
    where
      is : get_or rack j (pos 0) ≡ pos 16384
      is = bits_eq w16 {x = get_or rack j (pos 0)} {y = pos 16384} (record { sfits = f }) (sfits_lit {z = pos 16384} tt) e

      go : (t : Bool) → ltb j (length ws) ≡ t → length ws ≤ j
      go true l = let h = subst (Within farthest) is (hold.on j (ltb-true j (length ws) l)).left in absurd (omega (zarith, h.high))
      go false l = ltb-false j (length ws) l

-- ---- one number of some is raised
or_assoc : (a b c : Bool) → ((a || b) || c) ≡ (a || (b || c))
or_assoc true b c = refl
or_assoc false b c = refl

or_swap : (a b c : Bool) → (a || (b || c)) ≡ (b || (a || c))
or_swap true true c = refl
or_swap true false c = refl
or_swap false b c = refl

or_true : (a : Bool) → (a || true) ≡ true
or_true true = refl
or_true false = refl

or_false : (a : Bool) → (a || false) ≡ a
or_false true = refl
or_false false = refl

or_either : (a b : Bool) → (a || b) ≡ true → (a ≡ true) ⊎ (b ≡ true)
or_either true b e = inl refl
or_either false b e = inr e

raised : (zs : List ℤ) (e : ℕ) (c : ℤ) → e < length zs → above (set zs e (greater (get_or zs e (pos 0)) c)) ≡ (lt_z (pos 0) c || above zs)
unfolding any
raised [] e c h = absurd (omega arith)
raised (z ∷ zs) zero c h = ap (λ (t : Bool). t || above zs) (greater_test (pos 0) z c) ∙ or_assoc (lt_z (pos 0) c) (lt_z (pos 0) z) (above zs)
raised (z ∷ zs) (suc e) c h =
    ap (λ (t : Bool). lt_z (pos 0) z || t) (raised zs e c (omega arith)) ∙ or_swap (lt_z (pos 0) z) (lt_z (pos 0) c) (above zs)

-- ---- comparisons one after the other
module _ {rack : List ℤ} where
  pub nothing_met : {K : ℕ → ℕ → Type 0} {a : List ℤ} → ((p q : ℕ) → K p q → ⊥) → Compares rack K a a
  nothing_met n = record { keeps = λ h. h; finds = λ p q k s. absurd (n p q k); only = inl }

  pub fewer_met : {K M : ℕ → ℕ → Type 0} {a b : List ℤ} → Compares rack M a b → ((p q : ℕ) → K p q → M p q) → Compares rack K a b
  fewer_met c f = record { keeps = c.keeps; finds = λ p q k s. c.finds p q (f p q k) s; only = c.only }

  pub both_met : {K M N : ℕ → ℕ → Type 0} {a b c : List ℤ} → Compares rack M a b → Compares rack N b c
      → ((p q : ℕ) → K p q → M p q ⊎ N p q) → Compares rack K a c
  both_met one two split = record {
    keeps = λ h. two.keeps (one.keeps h);
    finds = λ p q k s. ⊎_elim (λ m. two.keeps (one.finds p q m s)) (λ n. two.finds p q n s) (split p q k);
    only = λ h. ⊎_elim one.only inr (two.only h);
  }

  -- one lane: the strips at the places p and q
  pub lane_met : (p q e : ℕ) (found : List ℤ) (c : ℤ) → p < q → q < 72 → e < length found → lt_z (pos 0) c ≡ share rack p q
      → Compares rack (λ (x y : ℕ). (x ≡ p) × (y ≡ q)) found (set found e (greater (get_or found e (pos 0)) c))
  lane_met p q e found c l m h test =
      let is = raised found e c h in
      record {
        keeps = λ k. is ∙ ap (λ (t : Bool). lt_z (pos 0) c || t) k ∙ or_true (lt_z (pos 0) c);
        finds = λ x y k s. is ∙ ap (λ (t : Bool). t || above found) (test ∙ (λ i. share rack (sym k.0 i) (sym k.1 i)) ∙ s);
        only = λ k. ⊎_elim
            (λ t. inr (record { one = p; other = q; behind = l; there = m; shares = sym test ∙ t }))
            inl (or_either (lt_z (pos 0) c) (above found) (sym is ∙ k));
      }

  -- places behind, and places behind those
  pub further_met : {i from to next end : ℕ} {a b c : List ℤ} → Compares rack (Met i from to) a b → Compares rack (Met i next end) b c → next ≡ to
      → Compares rack (Met i from end) a c
  further_met {i} {from} {to} {next} {end} one two e = both_met one two (λ p q k. go p q k (ltb (q + i) (to + p)) refl)
    where
      go : (p q : ℕ) → Met i from end p q → (t : Bool) → ltb (q + i) (to + p) ≡ t → Met i from to p q ⊎ Met i next end p q
      go p q k true f = inl (record { first = k.first; last = k.last; near = k.near; far = ltb-true (q + i) (to + p) f })
      go p q k false f = inr (record { first = k.first; last = k.last; near = omega (arith, e, ltb-false (q + i) (to + p) f); far = k.far })

  -- eight places, and those behind them, once the places before have met all behind them
  pub block_met : {i n : ℕ} {a b c : List ℤ} → Compares rack (λ (p q : ℕ). (p < i) × (p < q) × (q < n)) a b → Compares rack (Met i (i + 1) n) b c
      → Compares rack (λ (p q : ℕ). (p < i + 8) × (p < q) × (q < n)) a c
  block_met {i} {n} one two = both_met one two (λ p q k. go p q k (ltb p i) refl)
    where
      go : (p q : ℕ) → (p < i + 8) × (p < q) × (q < n) → (t : Bool) → ltb p i ≡ t → ((p < i) × (p < q) × (q < n)) ⊎ Met i (i + 1) n p q
      go p q k true f = inl (ltb-true p i f, k.1, k.2)
      go p q k false f =
          let h = ltb-false p i f in
          let l = k.1 in
          let m = k.2 in
          inr (record { first = h; last = k.0; near = omega arith; far = omega arith })

-- ---- all pairs have met
pub crowd : {rack : List ℤ} {ws : List Window} {n : ℕ} {before after : List ℤ} {r : Bool} → Carries rack ws → n ≡ length ws → r ≡ above after
    → above before ≡ false → Compares rack (λ (p q : ℕ). (p < q) × (q < n)) before after → Crowd rack n r
crowd {rack} {ws} {n} {before} {after} {r} hold e is none all = record {
  apart = λ f p q l m. go f p q (l, m) (share rack p q) refl;
  sharing = λ t. ⊎_elim (λ h. absurd (tt_ff (sym h ∙ none))) one (all.only (sym is ∙ t));
}
  where
    go : r ≡ false → (p q : ℕ) → (p < q) × (q < n) → (t : Bool) → share rack p q ≡ t → share rack p q ≡ false
    go f p q k true s = absurd (tt_ff (sym (all.finds p q k s) ∙ sym is ∙ f))
    go f p q k false s = s

    one : Sharing rack → (p : ℕ) × (q : ℕ) × (p < q) × (q < n) × (share rack p q ≡ true)
    one s = (s.one, s.other, s.behind, omega (arith, e, both_strips hold s.behind s.there s.shares), s.shares)

-- ---- numbers looked at one after the other
pub next_above : (zs : List ℤ) (e : ℕ) (m : ℤ) → e < length zs
    → (lt_z (pos 0) (greater m (get_or zs e (pos 0))) || above (drop (e + 1) zs)) ≡ (lt_z (pos 0) m || above (drop e zs))
unfolding any
next_above zs e m h =
    (λ i. greater_test (pos 0) m (get_or zs e (pos 0)) i || above (drop (add-one e i) zs))
    ∙ or_assoc (lt_z (pos 0) (get_or zs e (pos 0))) (lt_z (pos 0) m) (above (drop (suc e) zs))
    ∙ or_swap (lt_z (pos 0) (get_or zs e (pos 0))) (lt_z (pos 0) m) (above (drop (suc e) zs))
    ∙ ap (λ (ys : List ℤ). lt_z (pos 0) m || above ys) (sym (drop-cons zs e (pos 0) h))

pub none_above : (zs : List ℤ) (e : ℕ) (t : Bool) → length zs ≤ e → (t || above (drop e zs)) ≡ t
unfolding any
none_above zs e t h = ap (λ (ys : List ℤ). t || above ys) (drop_of_length-le zs {i = e} h) ∙ or_false t
