-- Where the digits before the point end, and with them the whole shape of a number, is known from the text alone.
use Rattle.std.specs.Prelude.{Some}
use mathlib.Core.Path.{◌≡◌, refl, sym, ap, ap₂, ◌∙◌, subst}
use mathlib.Core.Bool.{Bool, true, false}
use mathlib.Core.List.{List, [], ◌∷◌, ◌++◌, append-nil}
use Prim.Native.Nat.{ℕ, suc, ◌+◌, ◌-◌, ◌^◌, ◌<◌, ◌≤◌}
use native.Mathlib.Nat.{le_trans, le_of_eq, le_of_lt, le_antisymm, lt_of_lt_of_le, one-mul, pow-le-pow_right}
use native.Mathlib.Numerals.{add-one}
use native.Mathlib.Omega.{arith}
use lib.Dec.{lit<}
use lib.ListN.{length, get_or, take, drop, length-append, length-drop}
use lib.Seq.{split_at, take_all, length-take-le, take-length, get_or-append_seam, drop-append-add}
use Rattle.whole.specs.Choice.{when◌then◌else◌}
use Rattle.decimal.specs.Decimals.{is_digit, AllDigits, none, ◌and◌, with_digits, pointed, Plain, bits_of}
use Rattle.text.specs.Runs.{run}
use Rattle.text.proofs.Runs.{run_passed, run_le}
use Rattle.decimal.specs.Workers.{ReadsPlain, number}
use Rattle.decimal.proofs.Texts.{with_digits-append, with_digits_below}

-- ---- lists of digits

pub digits_left : (ds es : List ℕ) → AllDigits (ds ++ es) → AllDigits ds
digits_left [] es a = none
digits_left (d ∷ ds) es (e and a) = e and digits_left ds es a

pub digits_right : (ds es : List ℕ) → AllDigits (ds ++ es) → AllDigits es
digits_right [] es a = a
digits_right (d ∷ ds) es (e and a) = digits_right ds es a

pub digits_join : {ds es : List ℕ} → AllDigits ds → AllDigits es → AllDigits (ds ++ es)
digits_join none b = b
digits_join (e and a) b = e and digits_join a b

-- ---- digits up to a point, or to the end

stop : (es : List ℕ) → run is_digit (pointed es) ≡ 0
unfolding run is_digit
stop [] = refl
stop (e ∷ es) = refl

ends : {ds : List ℕ} (es : List ℕ) → AllDigits ds → run is_digit (ds ++ pointed es) ≡ length ds
ends {ds = []} es none = stop es
ends {ds = d ∷ ds} es (e and a) = run_passed is_digit d (ds ++ pointed es) e ∙ ap suc (ends es a)

pub all_digits : {ds : List ℕ} → AllDigits ds → run is_digit ds ≡ length ds
all_digits {ds} a = ap (run is_digit) (sym (append-nil ds)) ∙ ends [] a

-- the digits that a text starts with
pub digits_front : (bs : List ℕ) → AllDigits (take (run is_digit bs) bs)
unfolding run
digits_front [] = none
digits_front (b ∷ bs) = go (is_digit b) refl (digits_front bs)
  where
    go : (t : Bool) → is_digit b ≡ t → AllDigits (take (run is_digit bs) bs) → AllDigits (take (when t then suc (run is_digit bs) else 0) (b ∷ bs))
    go true e a = e and a
    go false e a = none

pub digits_of_all : (bs : List ℕ) → run is_digit bs ≡ length bs → AllDigits bs
digits_of_all bs e = subst AllDigits (ap (λ (k : ℕ). take k bs) e ∙ take-length bs) (digits_front bs)

-- at most 9 digits are a number below 10 ^ 9
pub small : {ds : List ℕ} → AllDigits ds → length ds ≤ 9 → with_digits 0 ds < 10 ^ 9
small {ds} a h = lt_of_lt_of_le (with_digits_below 0 ds a) (le_trans (le_of_eq (one-mul (10 ^ length ds))) (pow-le-pow_right (lit< tt) h))

-- ---- what a number's text shows

module _ {t : List ℕ} {n k f : ℕ} (p : Plain t n k) (e : f ≡ run is_digit t) where
  pub front_is : f ≡ length p.front
  front_is = e ∙ ap (run is_digit) p.spelled ∙ ends p.behind (digits_left p.front p.behind p.digits)

  total : length t ≡ f + length (pointed p.behind)
  total = ap length p.spelled ∙ length-append p.front (pointed p.behind) ∙ ap (λ (z : ℕ). z + length (pointed p.behind)) (sym front_is)

  pub few_digits : f + length p.behind ≤ 9
  few_digits = omega (arith, p.few, front_is, length-append p.front p.behind)

  pub some_digits : 0 < f
  some_digits = omega (arith, p.some, front_is)

  -- what follows the first digits is a point and digits
  pub record Follows : Type 0 where
    pub point : get_or t f 0 ≡ 46
    pub rest : drop (f + 1) t ≡ p.behind
    pub some : 0 < length p.behind
    pub digits : run is_digit (drop (f + 1) t) ≡ length (drop (f + 1) t)

  pub follows : f < length t → Follows
  follows h = go p.behind refl
    where
      go : (b : List ℕ) → p.behind ≡ b → Follows
      go [] z = absurd (omega (arith, total, ap (λ (b : List ℕ). length (pointed b)) z))
      go (d ∷ ds) z =
          let s : t ≡ p.front ++ 46 ∷ d ∷ ds = p.spelled ∙ ap (λ (b : List ℕ). p.front ++ pointed b) z in
          let r : drop (f + 1) t ≡ p.behind = rw (s, front_is) (drop-append-add p.front (46 ∷ d ∷ ds) 1 ∙ sym z) in
          record {
            point = rw (s, front_is) (get_or-append_seam p.front 46 (d ∷ ds) 0);
            rest = r;
            some = rw z (omega arith);
            digits = rw r (all_digits (digits_right p.front p.behind p.digits));
          }

-- ---- and texts that are numbers: digits alone

pub whole_number : (t : List ℕ) → 0 < length t → length t ≤ 9 → AllDigits t → Plain t (with_digits 0 t) 0
whole_number t s h a =
    record {
      front = t;
      behind = [];
      spelled = sym (append-nil t);
      digits = rw append-nil a;
      some = s;
      few = rw append-nil h;
      number = rw append-nil refl;
      places = refl;
    }

-- and f digits, a point, and digits
pub record Pointed (t : List ℕ) (f : ℕ) : Type 0 where
  pub is : f ≡ run is_digit t
  pub some : 0 < f
  pub inside : f < length t
  pub point : get_or t f 0 ≡ 46
  pub more : 0 < length (drop (f + 1) t)
  pub behind : AllDigits (drop (f + 1) t)
  pub few : f + length (drop (f + 1) t) ≤ 9

module _ {t : List ℕ} {f : ℕ} (p : Pointed t f) where
  pub front : AllDigits (take f t)
  front = subst (λ (z : ℕ). AllDigits (take z t)) (sym p.is) (digits_front t)

  front_length : length (take f t) ≡ f
  front_length = length-take-le f t (le_of_lt p.inside)

  both : length (take f t ++ drop (f + 1) t) ≤ 9
  both = omega (arith, length-append (take f t) (drop (f + 1) t), front_length, p.few)

  pub front_small : with_digits 0 (take f t) < 10 ^ 9
  front_small = small front (omega (arith, front_length, p.few))

  pub number_small : with_digits (with_digits 0 (take f t)) (drop (f + 1) t) < 10 ^ 9
  number_small = subst (λ (z : ℕ). z < 10 ^ 9) (with_digits-append 0 (take f t) (drop (f + 1) t)) (small (digits_join front p.behind) both)

  after_point : (ds : List ℕ) → 0 < length ds → get_or t f 0 ∷ ds ≡ pointed ds
  after_point [] h = absurd (omega arith)
  after_point (d ∷ ds) h = ap (λ (x : ℕ). x ∷ d ∷ ds) p.point

  pub with_point : Plain t (with_digits (with_digits 0 (take f t)) (drop (f + 1) t)) (length (drop (f + 1) t))
  with_point =
      record {
        front = take f t;
        behind = drop (f + 1) t;
        spelled = split_at t f 0 p.inside
            ∙ ap (λ (z : List ℕ). take f t ++ z) (ap (λ (z : ℕ). get_or t f 0 ∷ drop z t) (sym (add-one f)) ∙ after_point (drop (f + 1) t) p.more);
        digits = digits_join front p.behind;
        some = omega (arith, front_length, p.some);
        few = both;
        number = sym (with_digits-append 0 (take f t) (drop (f + 1) t));
        places = refl;
      }

-- ---- what was computed as m / 10^j is read by its bits
pub reads : {t : List ℕ} {n k m j b : ℕ} → Plain t n k → m ≡ n → j ≡ k → (b ≡ bits_of false m j) × (b < 2 ^ 31) → ReadsPlain t (Some b)
reads {t} {n} {k} {m} {j} {b} p e d h =
    let z : b ≡ bits_of false n k = h.0 ∙ ap₂ (bits_of false) e d in
    subst (λ (x : ℕ). ReadsPlain t (Some x)) (sym z) (number p (subst (λ (x : ℕ). x < 2 ^ 31) z h.1))

-- ---- a text whose first digits end at f, and what a slice of all behind the point is

pub behind_is : (t : List ℕ) (f : ℕ) → take (length t - (f + 1)) (drop (f + 1) t) ≡ drop (f + 1) t
behind_is t f = take_all _ _ (le_of_eq (length-drop (f + 1) t))

pub shape : {t : List ℕ} {f d : ℕ} (b : List ℕ) → b ≡ drop (f + 1) t → f ≡ run is_digit t → (0 < f) × (f < length t) → get_or t f 0 ≡ 46
    → (length b ≡ 0 → ⊥) → d ≡ run is_digit b → length b ≤ d → f + length b ≤ 9 → Pointed t f
shape {t} {f} {d} b r is h point more run_is digits few =
    let s : length b ≡ length (drop (f + 1) t) = ap length r in
    record {
      is = is;
      some = h.0;
      inside = h.1;
      point = point;
      more = omega arith;
      behind = subst AllDigits r (digits_of_all b (le_antisymm (run_le is_digit b) (omega arith)));
      few = omega arith;
    }
