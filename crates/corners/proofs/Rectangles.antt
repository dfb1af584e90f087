-- A rectangle as a corner window, from any of its corners on: what is refused is what the rectangle's
-- call refuses, and what is kept are the points of the closed window.
use mathlib.Core.Path.{◌≡◌, refl, sym, ap, ◌∙◌}
use mathlib.Core.Bool.{Bool, true, false}
use mathlib.Core.List.{List, [], ◌∷◌}
use mathlib.Core.Logic.{◌↔◌, ◌⊎◌, inl, inr, ⊎_elim}
use Prim.Native.Nat.{ℕ, suc, ◌<◌}
use native.Mathlib.Omega.{arith}
use borrow.Author.Tests.{lt-ltb, le-ltb}
use lib.IntN.{ℤ, pos, ◌*ℤ◌}
use lib.ListN.{length}
use lib.Signed.{◌≤ℤ◌, ◌<ℤ◌}
use Rattle.whole.specs.Choice.{when◌then◌else◌}
use Rattle.whole.specs.Within.{Within}
use Rattle.whole.proofs.Expressions.{Expr, Env, var, con, ◌⊖◌, ◌⊗◌}
use Rattle.whole.proofs.Certificates.{Cone, ge, gt, ge_by, clash, po, nn, le, lt, ◌⊞◌, ◌⊠◌}
use Rattle.whole.proofs.Order.{zarith, ≤_total, <→≤}
use Rattle.fraction.specs.declared.Fraction.{Fraction}
use Rattle.grid.specs.Refusals.{window_off, no_window, refuse, none, first, off_table, no_area}
use Rattle.grid.specs.Refusals.{window_refusal, stroke_refusal}
use Rattle.grid.specs.Table.{farthest, first_off, on_table, sides, WindowOnTable}
use Rattle.grid.specs.declared.Refusal.{Refusal}
use Rattle.grid.specs.declared.Stroke.{Stroke}
use Rattle.grid.specs.declared.Window.{Window}
use Rattle.grid.proofs.Ranges.{on_within, within_on}
use Rattle.grid.proofs.Refusals.{stops, goes_on, window_fine, bad_area}
use Rattle.rings.specs.Lists.{All, ∅, ◌◂◌, last, step, closed, Turned}
use Rattle.rings.specs.Points.{Point, Left, LeftOn, value, through}
use Rattle.rings.specs.Rings.{InRing}
use Rattle.rings.specs.Windows.{InWindow}
use Rattle.rings.proofs.Lists.{∅ᵖ, ◌◂ᵖ◌, all_head, pairs_head, edges_turned, turned_all, turned_back, turned_length}
use Rattle.rings.proofs.Convex.{CCW, ∅ᶜ, ◌◂ᶜ◌, ccw_star, ccw_turned}
use Rattle.rings.proofs.Plane.{nought}
use Rattle.rings.proofs.Theorems.{convex_ccw}
use Rattle.convex.specs.Corners.{grid_point, corners_of, strictly_convex, right_count, count_refusal, convex_refusal}
use Rattle.convex.proofs.Convexity.{convex_same}
use Rattle.convex.proofs.Places.{side_by}
use Rattle.spans.specs.Parts.{Time, Part}
use Rattle.spans.proofs.Parts.{part_same}
use Rattle.corners.specs.Corners.{cyrus_beck_refusal, point_at, KeepsIn}
use Rattle.corners.specs.Rectangles.{RectangleCorners, from_left_bottom, from_right_bottom, from_right_top}
use Rattle.corners.specs.Rectangles.{from_left_top, TurnedOver}

-- the window's points, at a fraction of the stroke
pub record KeepsInWindow (w : Window) (s : Stroke) (n d : ℤ) : Type 0 where
  pub time : Time n d
  pub inside : InWindow w.left w.bottom w.right w.top (point_at s n d)

module _ (w : Window) where
  abbrev a : Point
  a = grid_point w.left w.bottom

  abbrev b : Point
  b = grid_point w.right w.bottom

  abbrev c : Point
  c = grid_point w.right w.top

  abbrev d : Point
  d = grid_point w.left w.top

  abbrev corners : List Point
  corners = a ∷ b ∷ c ∷ d ∷ []

  numbers : {zs : List ℤ} → RectangleCorners w zs → Turned (w.left ∷ w.bottom ∷ w.right ∷ w.bottom ∷ w.right ∷ w.top ∷ w.left ∷ w.top ∷ []) zs
  numbers from_left_bottom = record { front = []; back = _; was = refl; now = refl }
  numbers from_right_bottom = record { front = w.left ∷ w.bottom ∷ []; back = _; was = refl; now = refl }
  numbers from_right_top = record { front = w.left ∷ w.bottom ∷ w.right ∷ w.bottom ∷ []; back = _; was = refl; now = refl }
  numbers from_left_top = record { front = w.left ∷ w.bottom ∷ w.right ∷ w.bottom ∷ w.right ∷ w.top ∷ []; back = _; was = refl; now = refl }

  turned : {zs : List ℤ} → RectangleCorners w zs → Turned corners (corners_of zs)
  unfolding corners_of
  turned from_left_bottom = record { front = []; back = _; was = refl; now = refl }
  turned from_right_bottom = record { front = a ∷ []; back = _; was = refl; now = refl }
  turned from_right_top = record { front = a ∷ b ∷ []; back = _; was = refl; now = refl }
  turned from_left_top = record { front = a ∷ b ∷ c ∷ []; back = _; was = refl; now = refl }

  abbrev l : Expr
  l = var 0

  abbrev u : Expr
  u = var 1

  abbrev r : Expr
  r = var 2

  abbrev t : Expr
  t = var 3

  abbrev X : Expr
  X = var 4

  abbrev Y : Expr
  Y = var 5

  abbrev W : Expr
  W = var 6

  abbrev ρ : Point → Env
  ρ p = w.left ∷ w.bottom ∷ w.right ∷ w.top ∷ p.X ∷ p.Y ∷ p.W ∷ []

  -- ---- a window without area, and not turned over, has no strictly convex corners: the first three do not turn left
  abbrev Flat : Type 0
  Flat = ((w.right ≤ℤ w.left) × (w.bottom ≤ℤ w.top)) ⊎ ((w.left ≤ℤ w.right) × (w.top ≤ℤ w.bottom))

  area_or_flat : (TurnedOver w → ⊥) → ((w.left <ℤ w.right) × (w.bottom <ℤ w.top)) ⊎ Flat
  area_or_flat over = go (≤_total w.right w.left) (≤_total w.top w.bottom)
    where
      go : (w.right ≤ℤ w.left) ⊎ (w.left <ℤ w.right) → (w.top ≤ℤ w.bottom) ⊎ (w.bottom <ℤ w.top)
          → ((w.left <ℤ w.right) × (w.bottom <ℤ w.top)) ⊎ Flat
      go (inr p) (inr q) = inl (p, q)
      go (inr p) (inl q) = inr (inr (<→≤ p, q))
      go (inl p) (inr q) = inr (inl (p, <→≤ q))
      go (inl p) (inl q) = ⊎_elim
          (λ l. inr (inr (l, q)))
          (λ l. ⊎_elim (λ h. inr (inl (p, h))) (λ h. absurd (over (l, h))) (≤_total w.bottom w.top))
          (≤_total w.left w.right)

  flat_bare : Flat → WindowOnTable w → ⊥
  flat_bare (inl f) h = let l = f.0 in let r = h.wide in omega zarith
  flat_bare (inr f) h = let l = f.1 in let r = h.tall in omega zarith

  not_left : Flat → Left a b c → ⊥
  unfolding value through
  not_left (inl f) h = clash (ρ a) (po (side_by l u r u r t (con (pos 1))) h.left ⊞ le r l f.0 ⊠ le u t f.1)
      tt
  not_left (inr f) h = clash (ρ a) (po (side_by l u r u r t (con (pos 1))) h.left ⊞ le l r f.0 ⊠ le t u f.1)
      tt

  flat_refused : {zs : List ℤ} → RectangleCorners w zs → Flat → strictly_convex (corners_of zs) ≡ false
  flat_refused {zs} k f = go (strictly_convex (corners_of zs)) refl
    where
      go : (v : Bool) → strictly_convex (corners_of zs) ≡ v → strictly_convex (corners_of zs) ≡ false
      go true e =
          let strictly = (convex_same (corners_of zs)).0 e in
          let ccw = ccw_turned (turned_back (turned k)) ((convex_ccw (corners_of zs)).0 strictly) in
          absurd (not_left f (all_head (pairs_head (ccw_star ccw))))
      go false e = e

  module _ (wide : w.left <ℤ w.right) (tall : w.bottom <ℤ w.top) where
    across : {p : Point} → Cone (ρ p) true (r ⊖ l)
    across = lt l r wide

    up : {p : Point} → Cone (ρ p) true (t ⊖ u)
    up = lt u t tall

    -- ---- the points in the four corners' ring are those of the closed window
    module _ (p : Point) where
      below : LeftOn a b p → (w.bottom *ℤ p.W) ≤ℤ p.Y
      unfolding value through
      below h = ge_by (ρ p) across (u ⊗ W) Y (nn (side_by l u r u X Y W) h.left_on) tt

      right : LeftOn b c p → p.X ≤ℤ (w.right *ℤ p.W)
      unfolding value through
      right h = ge_by (ρ p) up X (r ⊗ W) (nn (side_by r u r t X Y W) h.left_on) tt

      above : LeftOn c d p → p.Y ≤ℤ (w.top *ℤ p.W)
      unfolding value through
      above h = ge_by (ρ p) across Y (t ⊗ W) (nn (side_by r t l t X Y W) h.left_on) tt

      left : LeftOn d a p → (w.left *ℤ p.W) ≤ℤ p.X
      unfolding value through
      left h = ge_by (ρ p) up (l ⊗ W) X (nn (side_by l t l u X Y W) h.left_on) tt

      in_ring : InRing corners p → InWindow w.left w.bottom w.right w.top p
      in_ring (closed (step ab (step bc (step cd (last da))))) = record { left = left da; right = right bc; bottom = below ab; top = above cd }

      in_window : InWindow w.left w.bottom w.right w.top p → InRing corners p
      unfolding value through
      in_window h =
          closed
          (step (record { left_on = ge (ρ p) nought (side_by l u r u X Y W) (across ⊠ le (u ⊗ W) Y h.bottom) tt })
          (step (record { left_on = ge (ρ p) nought (side_by r u r t X Y W) (up ⊠ le X (r ⊗ W) h.right) tt })
          (step (record { left_on = ge (ρ p) nought (side_by r t l t X Y W) (across ⊠ le Y (t ⊗ W) h.top) tt })
          (last (record { left_on = ge (ρ p) nought (side_by l t l u X Y W) (up ⊠ le (l ⊗ W) X h.left) tt })))))

    -- ---- every three of the corners turn left: the determinant is the window's area
    area : {p : Point} → Cone (ρ p) true ((r ⊖ l) ⊗ (t ⊖ u))
    area = across ⊠ up

    corners_ccw : CCW corners
    unfolding value through
    corners_ccw =
        let abc : Left a b c = record { left = gt (ρ a) nought (side_by l u r u r t (con (pos 1))) area tt } in
        let abd : Left a b d = record { left = gt (ρ a) nought (side_by l u r u l t (con (pos 1))) area tt } in
        let acd : Left a c d = record { left = gt (ρ a) nought (side_by l u r t l t (con (pos 1))) area tt } in
        let bcd : Left b c d = record { left = gt (ρ a) nought (side_by r u r t l t (con (pos 1))) area tt } in
        ((abc ◂ (abd ◂ ∅)) ◂ᵖ ((acd ◂ ∅) ◂ᵖ (∅ ◂ᵖ ∅ᵖ))) ◂ᶜ (((bcd ◂ ∅) ◂ᵖ (∅ ◂ᵖ ∅ᵖ)) ◂ᶜ ((∅ ◂ᵖ ∅ᵖ) ◂ᶜ (∅ᵖ ◂ᶜ ∅ᶜ)))

    convex : {zs : List ℤ} → RectangleCorners w zs → strictly_convex (corners_of zs) ≡ true
    convex {zs} k = (convex_same (corners_of zs)).1 ((convex_ccw (corners_of zs)).1 (ccw_turned (turned k) corners_ccw))

    pub keeps_same : {zs : List ℤ} (s : Stroke) → RectangleCorners w zs → (n d : ℤ) → KeepsIn (corners_of zs) s n d ↔ KeepsInWindow w s n d
    keeps_same s k n d = (
      λ h. record { time = h.time; inside = in_ring (point_at s n d) (edges_turned (turned_back (turned k)) h.inside) },
      λ h. record { time = h.time; inside = edges_turned (turned k) (in_window (point_at s n d) h.inside) },
    )

-- ---- all numbers of a list are on the table, or one is refused
abbrev number : Refusal → ℕ
number r = r.number

all_on_lem : {zs : List ℤ} → All (Within farthest) zs → first_off zs ≡ length zs
unfolding first_off
all_on_lem ∅ = refl
all_on_lem {zs = z ∷ zs} (h ◂ r) = simp (within_on z h, all_on_lem r)

none_off : (n : ℕ) {zs : List ℤ} → All (Within farthest) zs → off_table n zs ≡ none
unfolding off_table
none_off n {zs} h = simp (all_on_lem h, le-ltb (length zs) (length zs) (omega arith))

on_or_off : (zs : List ℤ) → All (Within farthest) zs ⊎ (first_off zs < length zs)
unfolding first_off
on_or_off [] = inl ∅
on_or_off (z ∷ zs) = go (on_table z) refl (on_or_off zs)
  where
    go : (v : Bool) → on_table z ≡ v → All (Within farthest) zs ⊎ (first_off zs < length zs)
        → All (Within farthest) (z ∷ zs) ⊎ ((when v then suc (first_off zs) else 0) < suc (length zs))
    go true e (inl h) = inl (on_within z e ◂ h)
    go true e (inr h) = inr (omega arith)
    go false e h = inr (omega arith)

off_first : (zs : List ℤ) (rs : List Refusal) → first_off zs < length zs
    → first (off_table window_off zs ∷ rs) ≡ refuse window_off (first_off zs)
unfolding first off_table
off_first zs rs h = simp (lt-ltb (first_off zs) (length zs) h)

on_first : {zs : List ℤ} (rs : List Refusal) → All (Within farthest) zs → first (off_table window_off zs ∷ rs) ≡ first rs
on_first rs h = goes_on _ _ (ap number (none_off window_off h))

-- ---- what is refused of a rectangle's corners is what is refused of the rectangle
-- the same number, and the same place but where a number of the window is off the table, which the two lists have at
-- different places
abbrev pub Alike : Refusal → Refusal → Type 0
Alike q r = (q.number ≡ r.number) × ((q.number ≡ window_off → ⊥) → q.place ≡ r.place)

module _ {w : Window} {zs : List ℤ} (k : RectangleCorners w zs) where
  all_four : All (Within farthest) zs → All (Within farthest) (sides w)
  all_four h = go (turned_all (turned_back (numbers w k)) h)
    where
      go : {l b r t : ℤ} → All (Within farthest) (l ∷ b ∷ r ∷ b ∷ r ∷ t ∷ l ∷ t ∷ [])
          → All (Within farthest) (l ∷ b ∷ r ∷ t ∷ [])
      go (hl ◂ (hb ◂ (hr ◂ (_ ◂ (_ ◂ (ht ◂ _)))))) = hl ◂ (hb ◂ (hr ◂ (ht ◂ ∅)))

  all_corners : All (Within farthest) (sides w) → All (Within farthest) zs
  all_corners (hl ◂ (hb ◂ (hr ◂ (ht ◂ ∅)))) =
      turned_all (numbers w k) (hl ◂ (hb ◂ (hr ◂ (hb ◂ (hr ◂ (ht ◂ (hl ◂ (ht ◂ ∅))))))))

  module _ (s : Stroke) where
    counted : cyrus_beck_refusal zs s ≡ first (off_table window_off zs ∷ convex_refusal no_window zs ∷ stroke_refusal s ∷ [])
    unfolding cyrus_beck_refusal first count_refusal right_count
    counted = simp (turned_length (numbers w k))

    convex_goes_on : strictly_convex (corners_of zs) ≡ true
        → first (convex_refusal no_window zs ∷ stroke_refusal s ∷ []) ≡ first (stroke_refusal s ∷ [])
    unfolding first convex_refusal
    convex_goes_on e = simp e

    flat_stops : strictly_convex (corners_of zs) ≡ false
        → first (convex_refusal no_window zs ∷ stroke_refusal s ∷ []) ≡ refuse no_window 0
    unfolding first convex_refusal
    flat_stops e = simp e

    abbrev as_corners : Refusal
    as_corners = cyrus_beck_refusal zs s

    abbrev as_rectangle : Refusal
    as_rectangle = first (window_refusal w ∷ stroke_refusal s ∷ [])

    on_table_lem : All (Within farthest) zs → as_corners ≡ first (convex_refusal no_window zs ∷ stroke_refusal s ∷ [])
    on_table_lem h = counted ∙ on_first _ h

    stops_by : {r : Refusal} → window_refusal w ≡ r → (r.number ≡ 0 → ⊥) → as_rectangle ≡ r
    stops_by e n = stops _ _ (λ z. n (sym (ap number e) ∙ z)) ∙ e

    on_same : (TurnedOver w → ⊥) → All (Within farthest) zs → All (Within farthest) (sides w) → as_corners ≡ as_rectangle
    unfolding window_refusal first
    on_same over h (hl ◂ (hb ◂ (hr ◂ (ht ◂ ∅)))) = go (area_or_flat w over)
      where
        go : ((w.left <ℤ w.right) × (w.bottom <ℤ w.top)) ⊎ Flat w → as_corners ≡ as_rectangle
        go (inl p) =
            let fine = window_fine w
            (record { left = hl; bottom = hb; right = hr; top = ht; wide = p.0; tall = p.1 }) in
            on_table_lem h ∙ convex_goes_on (convex w p.0 p.1 k)
            ∙ sym (goes_on (window_refusal w) (stroke_refusal s ∷ []) (sym (ap number fine)))
        go (inr f) =
            let four : All (Within farthest) (sides w) = hl ◂ (hb ◂ (hr ◂ (ht ◂ ∅))) in
            let bare = bad_area w (omega (arith, all_on_lem four)) (flat_bare w f) in
            on_table_lem h ∙ flat_stops (flat_refused w k f)
            ∙ sym (stops_by (on_first (no_area w ∷ []) four ∙ ap (λ (r : Refusal). first (r ∷ [])) bare)
            (λ z. omega arith))

    pub same_refusal : (TurnedOver w → ⊥) → Alike as_corners as_rectangle
    unfolding window_refusal
    same_refusal over = go (on_or_off zs) (on_or_off (sides w))
      where
        go : All (Within farthest) zs ⊎ (first_off zs < length zs)
            → All (Within farthest) (sides w) ⊎ (first_off (sides w) < length (sides w)) → Alike as_corners as_rectangle
        go (inl h) (inl g) = let e = on_same over h g in (ap number e, λ _. ap (λ (r : Refusal). r.place) e)
        go (inl h) (inr g) = absurd (omega (arith, all_on_lem (all_four h)))
        go (inr h) (inl g) = absurd (omega (arith, all_on_lem (all_corners g)))
        go (inr h) (inr g) =
            let e = counted ∙ off_first zs _ h in
            let f = stops_by (off_first (sides w) _ g) (λ z. omega arith) in
            (ap number e ∙ sym (ap number f), λ n. absurd (n (ap number e)))

-- ---- what is kept of the corners is what K, the window's own condition, keeps
pub rectangle : {w : Window} {s : Stroke} {zs : List ℤ} {K : ℤ → ℤ → Type 0} {kept : Bool} {f g : Fraction}
    → WindowOnTable w → RectangleCorners w zs
    → ((n d : ℤ) → KeepsInWindow w s n d ↔ K n d) → Part (KeepsIn (corners_of zs) s) kept f g → Part K kept f g
rectangle {w} {s} hw k e p = part_same e (part_same (keeps_same w hw.wide hw.tall s k) p)
