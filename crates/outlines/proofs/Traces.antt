-- What holds of every edge is kept by a cut: each new edge is part of an old one, or joins two corners on the line of the cut.
use mathlib.Core.Path.{◌≡◌, refl, sym, subst}
use mathlib.Core.List.{List, [], ◌∷◌, ◌++◌, append-nil}
use mathlib.Core.Logic.{◌⊎◌, inl, inr}
use mathlib.Core.Option.{some}
use lib.IntN.{pos}
use lib.Signed.{clash_ℤ}
use Rattle.whole.proofs.Order.{<→≤, ≡→≤, ≤_antisym, ≤_total}
use Rattle.rings.specs.Lists.{All, ◌◂◌, Walk, last, step, Edges, nothing, closed}
use Rattle.rings.specs.Points.{Point, Line, value, In, Over, Out, Under, On}
use Rattle.rings.specs.Cuts.{Crossing, Across, leaves, enters, Kept, stays, goes, Added, crossed, uncrossed, Pass, ends, goes_on, CutBy, empty, round, Cuts, no_more, cut}
use Rattle.rings.proofs.Arcs.{in_out}

-- R of the two corners of an edge, Q of a corner
module _ (R : Point → Point → Type 0) (Q : Point → Type 0) where
  pub record Traced (h : Line) : Type 0 where
    pub first : (u v : Point) → R u v → Q u
    pub second : (u v : Point) → R u v → Q v
    pub crossing : (u v c : Point) → R u v → Across h u v → Crossing h u v c → R u c × Q c × R c v
    pub runs : (a b : Point) → Q a → Q b → On h a → On h b → R a b

  module _ {h : Line} (t : Traced h) where
    -- a corner on the line
    record Stop (a : Point) : Type 0 where
      is : Q a
      on : On h a

    -- from a by way of xs towards z: to z where it lies inside, else to a corner on the line
    data Led (z : Point) : Point → List Point → Type 0 where
      arrives : {a : Point} → In h z → R a z → Led z a []
      halts : {a : Point} → Out h z → Stop a → Led z a []
      on_to : {a b : Point} {xs : List Point} → R a b → Led z b xs → Led z a (b ∷ xs)

    -- what is left of a walk to z, from u inside, and from a corner outside
    data Inside (z : Point) : Point → List Point → Type 0 where
      at_end : Inside z z []
      kept : {u : Point} {xs : List Point} → Led z u xs → Inside z u (u ∷ xs)

    data Outside (z : Point) : List Point → Type 0 where
      stays_out : Out h z → Outside z []
      ends_on : Stop z → Outside z []
      comes_in : {a : Point} {xs : List Point} → Stop a → Led z a xs → Outside z (a ∷ xs)

    abbrev Leaves : Point → Point → List Point → Type 0
    Leaves z u s = (In h u → Inside z u s) × (Out h u → Outside z s)

    -- from a corner on the line to one outside
    goes_out : {a z : Point} {xs : List Point} → Stop a → Outside z xs → Led z a xs
    goes_out s (stays_out o) = halts o s
    goes_out {a} {z} s (ends_on e) = arrives (≡→≤ (sym e.on)) (t.runs a z s.is e.is s.on e.on)
    goes_out {a} s (comes_in {a = b} e l) = on_to (t.runs a b s.is e.is s.on e.on) l

    -- by an edge to a corner inside: from one inside, and from one on the line
    goes_on_in : {u v z : Point} {s : List Point} → R u v → In h v → Inside z v s → Led z u s
    goes_on_in r i at_end = arrives i r
    goes_on_in r i (kept l) = on_to r l

    arrives_on : {v z : Point} {s : List Point} → Stop v → Inside z v s → Outside z s
    arrives_on s at_end = ends_on s
    arrives_on s (kept l) = comes_in s l

    -- of two corners not across, the one inside lies on the line where the other lies outside
    on_unless : (u : Point) → In h u → (Over h u → ⊥) → On h u
    on_unless u i f = go (≤_total (value h u) (pos 0))
      where
        go : Under h u ⊎ Over h u → On h u
        go (inl k) = ≤_antisym k i
        go (inr k) = absurd (f k)

    leaves_on : (u v : Point) → R u v → (Across h u v → ⊥) → In h u → Out h v → Stop u
    leaves_on u v r n i o = record { is = t.first u v r; on = on_unless u i (λ k. n (leaves k o)) }

    enters_on : (u v : Point) → R u v → (Across h u v → ⊥) → Out h u → In h v → Stop v
    enters_on u v r n o i = record { is = t.second u v r; on = on_unless v i (λ k. n (enters o k)) }

    -- ---- one step of a pass
    further : {u v z : Point} {a b s : List Point} → R u v → Kept h u a → Added h u v b → Leaves z v s → Leaves z u (a ++ (b ++ s))
    further {u} {v} r (stays i) (crossed {c} (leaves p q) x) w =
        let k = t.crossing u v c r (leaves p q) x in
        (λ _. kept (on_to k.0 (goes_out (record { is = k.1; on = x.on }) (w.1 q))), λ o. clash_ℤ o i)
    further r (stays i) (crossed (enters p q) x) w = clash_ℤ p i
    further {u} {v} {z} {s = s} r (stays i) (uncrossed n) w = (λ _. kept (go (in_out h v)), λ o. clash_ℤ o i)
      where
        go : In h v ⊎ Out h v → Led z u s
        go (inl k) = goes_on_in r k (w.0 k)
        go (inr k) = goes_out (leaves_on u v r n i k) (w.1 k)
    further r (goes o) (crossed (leaves p q) x) w = clash_ℤ p (<→≤ o)
    further {u} {v} r (goes o) (crossed {c} (enters p q) x) w =
        let k = t.crossing u v c r (enters p q) x in
        (λ i. clash_ℤ o i, λ _. comes_in (record { is = k.1; on = x.on }) (goes_on_in k.2 (<→≤ q) (w.0 (<→≤ q))))
    further {u} {v} {z} {s = s} r (goes o) (uncrossed n) w = (λ i. clash_ℤ o i, λ _. go (in_out h v))
      where
        go : In h v ⊎ Out h v → Outside z s
        go (inl k) = arrives_on (enters_on u v r n o k) (w.0 k)
        go (inr k) = w.1 k

    pass_leaves : {u z : Point} {r s : List Point} → Walk R u r z → Pass h u r z s → Leaves z u s
    pass_leaves {u} {z} (last r) (ends {a = a} {b = b} k d) = subst (λ (l : List Point). Leaves z u (a ++ l)) (append-nil b) (further r k d (λ _. at_end, stays_out))
    pass_leaves (step r w) (goes_on k d p) = further r k d (pass_leaves w p)

    -- ---- all round
    back_in : {z a : Point} {xs : List Point} → In h z → Led z a xs → Walk R a xs z
    back_in i (arrives j r) = last r
    back_in i (halts o s) = clash_ℤ o i
    back_in i (on_to r l) = step r (back_in i l)

    back_on : {z b a : Point} {xs : List Point} → Out h z → Stop b → Led z a xs → Walk R a xs b
    back_on o e (arrives i r) = clash_ℤ o i
    back_on {b = b} {a = a} o e (halts k s) = last (t.runs a b s.is e.is s.on e.on)
    back_on o e (on_to r l) = step r (back_on o e l)

    pub cut_traced : {r s : List Point} → Edges R r → CutBy h r s → Edges R s
    cut_traced nothing empty = nothing
    cut_traced {s} (closed w) (round {v} p) = go (in_out h v) (pass_leaves w p)
      where
        from_in : {u : Point} {s : List Point} → u ≡ v → In h v → Inside v u s → Edges R s
        from_in e i at_end = nothing
        from_in {u} e i (kept {xs = xs} l) = closed (subst (λ (z : Point). Walk R u xs z) (sym e) (back_in i l))

        from_out : {s : List Point} → Out h v → Outside v s → Edges R s
        from_out o (stays_out k) = nothing
        from_out o (ends_on e) = nothing
        from_out o (comes_in e l) = closed (back_on o e l)

        go : In h v ⊎ Out h v → Leaves v v s → Edges R s
        go (inl i) k = from_in refl i (k.0 i)
        go (inr o) k = from_out o (k.1 o)

  pub cuts_traced : {hs : List Line} {r s : List Point} → All Traced hs → Edges R r → Cuts hs r (some s) → Edges R s
  cuts_traced a e no_more = e
  cuts_traced (t ◂ a) e (cut c l m) = cuts_traced a (cut_traced t e c.rule) m
