-- The sides in each order are an arrangement of the four: one after the other is taken out of those that are left.
use mathlib.Core.Path.{◌≡◌, refl, ap, ◌∙◌}
use mathlib.Core.List.Permᴰ
use mathlib.Core.List.{List, [], ◌∷◌, map, Permᴰ}
use Prim.Native.Nat.{ℕ, zero, suc, ◌/◌, ◌%◌, ◌<◌, ◌≤◌}
use native.Mathlib.Omega.{arith}
use lib.ListN.{length, get_or, drop, length-map, get_or-map}
use lib.Seq.{drop-cons}
use Rattle.grid.specs.declared.Window.{Window}
use Rattle.grid.specs.Sides.{Side, left, right, bottom, top, place_of, side_at}
use Rattle.rings.specs.Windows.{side_lines}
use Rattle.limits.specs.Sides.{side_line}
use Rattle.limits.proofs.Sides.{place_below, side_place}
use Rattle.passes.specs.Orders.{without, sides_in, side_in, lines_in, places_of}

-- ---- one taken out
taken : (k : ℕ) (xs : List Side) → k < length xs → Permᴰ xs (get_or xs k left ∷ without k xs)
taken k [] h = absurd (omega arith)
taken zero (x ∷ xs) h = Permᴰ.refl (x ∷ xs)
taken (suc k) (x ∷ xs) h = Permᴰ.trans (Permᴰ.cons refl (taken k xs (omega arith))) (Permᴰ.swap refl refl)

without_length : (k : ℕ) (xs : List Side) → k < length xs → suc (length (without k xs)) ≡ length xs
without_length k [] h = absurd (omega arith)
without_length zero (x ∷ xs) h = refl
without_length (suc k) (x ∷ xs) h = ap suc (without_length k xs (omega arith))

-- ---- all four
module _ (o : ℕ) (h : o ≤ 23) where
  abbrev all : List Side
  all = left ∷ right ∷ bottom ∷ top ∷ []

  abbrev three : List Side
  three = without (o / 6) all

  abbrev two : List Side
  two = without (o % 6 / 2) three

  three_length : suc (length three) ≡ 4
  three_length = without_length (o / 6) all (omega arith)

  two_length : suc (length two) ≡ length three
  two_length = without_length (o % 6 / 2) three (omega (arith, three_length))

  sides_arranged : Permᴰ all (sides_in o)
  unfolding sides_in
  sides_arranged =
      Permᴰ.trans (taken (o / 6) all (omega arith)) (Permᴰ.cons refl
      (Permᴰ.trans (taken (o % 6 / 2) three (omega (arith, three_length))) (Permᴰ.cons refl
      (taken (o % 2) two (omega (arith, three_length, two_length))))))

  sides_length : length (sides_in o) ≡ 4
  unfolding sides_in
  sides_length = omega (arith, three_length, two_length, without_length (o % 2) two (omega (arith, three_length, two_length)))

  -- the k-th side, as the program numbers it
  module _ (k : ℕ) (l : k < 4) {n : ℕ} (e : n ≡ get_or (places_of (sides_in o)) k 0) where
    pub place_is : n ≡ place_of (side_in o k)
    place_is = e ∙ get_or-map place_of (sides_in o) k left

    pub side_is : side_at n ≡ side_in o k
    side_is = ap side_at place_is ∙ side_place (side_in o k)

map_arranged : {A B : Type 0} {xs ys : List A} (f : A → B) → Permᴰ xs ys → Permᴰ (map f xs) (map f ys)
map_arranged f Permᴰ.nil = Permᴰ.nil
map_arranged f (Permᴰ.cons e d) = Permᴰ.cons (ap f e) (map_arranged f d)
map_arranged f (Permᴰ.swap d e) = Permᴰ.swap (ap f d) (ap f e)
map_arranged f (Permᴰ.trans d e) = Permᴰ.trans (map_arranged f d) (map_arranged f e)

module _ (o : ℕ) (w : Window) (h : o ≤ 23) where
  pub lines_arranged : Permᴰ (side_lines w.left w.bottom w.right w.top) (lines_in o w)
  unfolding lines_in
  lines_arranged = map_arranged (side_line w) (sides_arranged o h)

  pub lines_length : length (lines_in o w) ≡ 4
  unfolding lines_in
  lines_length = omega (arith, length-map (sides_in o) (side_line w), sides_length o h)

  -- the lines from the k-th on
  pub lines_from : (k : ℕ) → k < 4 → drop k (lines_in o w) ≡ side_line w (side_in o k) ∷ drop (suc k) (lines_in o w)
  unfolding lines_in
  lines_from k l = rw (drop-cons (lines_in o w) k (side_line w left) (omega (arith, lines_length)), get_or-map (side_line w) (sides_in o) k left)

pub places_below : (ss : List Side) (k : ℕ) → k < length ss → get_or (places_of ss) k 0 < 4
places_below [] k h = absurd (omega arith)
places_below (s ∷ ss) zero h = place_below s
places_below (s ∷ ss) (suc k) h = places_below ss k (omega arith)
