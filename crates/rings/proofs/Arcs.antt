-- How a counterclockwise list that starts inside a line lies to it: all inside, or, started
-- elsewhere, one corner inside, a run outside, a run inside; else two diagonals would not cross.
use mathlib.Core.Path.{◌≡◌, refl, sym, ap, subst}
use mathlib.Core.List.{List, [], ◌∷◌, ◌++◌}
use mathlib.Core.Logic.{◌⊎◌, inl, inr, ⊎_elim}
use lib.IntN.{pos}
use Rattle.whole.proofs.Order.{≤_total}
use Rattle.rings.specs.Lists.{All, ∅, ◌◂◌, Turned}
use Rattle.rings.specs.Points.{Point, Line, value, In, Out}
use Rattle.rings.proofs.Plane.{diagonals}
use Rattle.rings.proofs.Lists.{Any, here, there, ◌◂ᵖ◌, ◌⊑◌, done, take, part_right, all_at, either}
use Rattle.rings.proofs.Convex.{CCW, ◌◂ᶜ◌, ccw_part, ccw_turn, ccw_turned}

pub data Arc (h : Line) (r : List Point) : Type 0 where
  inside : All (In h) r → Arc h r
  one_run : (l n : Point) (ns : List Point) → Turned r (l ∷ n ∷ ns) → In h l → All (Out h) (n ∷ ns) → Arc h r
  two_runs : (l n : Point) (ns : List Point) (f : Point) (q : List Point) → Turned r (l ∷ n ∷ (ns ++ (f ∷ q))) → In h l → All (Out h) (n ∷ ns)
      → All (In h) (f ∷ q) → Arc h r

module _ (h : Line) where
  pub in_out : (u : Point) → In h u ⊎ Out h u
  in_out u = ≤_total (pos 0) (value h u)

  -- a corner inside with the next one outside
  record Leaving (r : List Point) : Type 0 where
    front : List Point
    l : Point
    n : Point
    back : List Point
    is : r ≡ front ++ (l ∷ n ∷ back)
    hl : In h l
    hn : Out h n

  leave : (f : Point) (s : List Point) → In h f → Any (Out h) s → Leaving (f ∷ s)
  leave f [] hf x = elim x [ ]
  leave f (g ∷ s) hf (here q) = record { front = []; l = f; n = g; back = s; is = refl; hl = hf; hn = q }
  leave f (g ∷ s) hf (there a) = go (in_out g) (λ hg. leave g s hg a)
    where
      go : In h g ⊎ Out h g → (In h g → Leaving (g ∷ s)) → Leaving (f ∷ g ∷ s)
      go (inr q) k = record { front = []; l = f; n = g; back = s; is = refl; hl = hf; hn = q }
      go (inl q) k = let t = k q in record { front = f ∷ t.front; l = t.l; n = t.n; back = t.back; is = ap (λ l. f ∷ l) t.is; hl = t.hl; hn = t.hn }

  -- the run outside
  data Run : List Point → Type 0 where
    to_end : {r : List Point} → All (Out h) r → Run r
    until : (ns : List Point) (f : Point) (q : List Point) → All (Out h) ns → In h f → Run (ns ++ (f ∷ q))

  run : (r : List Point) → Run r
  run [] = to_end ∅
  run (f ∷ s) = go (in_out f) (run s)
    where
      go : {s : List Point} → In h f ⊎ Out h f → Run s → Run (f ∷ s)
      go {s} (inl k) t = until [] f s ∅ k
      go (inr k) (to_end a) = to_end (k ◂ a)
      go (inr k) (until ns g q a i) = until (f ∷ ns) g q (k ◂ a) i

  -- a ring goes out and comes in only once
  no_four : {a b c d : Point} → CCW (a ∷ b ∷ c ∷ d ∷ []) → In h a → Out h b → In h c → Out h d → ⊥
  no_four (((abc ◂ (abd ◂ ∅)) ◂ᵖ ((acd ◂ ∅) ◂ᵖ q)) ◂ᶜ (((bcd ◂ ∅) ◂ᵖ p) ◂ᶜ e)) ha hb hc hd = diagonals h bcd abd acd abc ha hb hc hd

  -- three corners with runs between them, and one of the rest
  with_one : {a b c x : Point} (xs ys front back : List Point) {q : List Point} → CCW (a ∷ (xs ++ (b ∷ (ys ++ (c ∷ q))))) → q ≡ front ++ (x ∷ back)
      → CCW (a ∷ b ∷ c ∷ x ∷ [])
  with_one {x = x} xs ys front back k e =
      ccw_part (take (part_right xs (take (part_right ys (take (subst (λ q. (x ∷ []) ⊑ q) (sym e) (part_right front (take done)))))))) k

  pub rest_inside : {u f : Point} (n : Point) (r ns : List Point) {q : List Point} → CCW (u ∷ (r ++ (n ∷ (ns ++ (f ∷ q))))) → In h u → Out h n
      → In h f → All (In h) (f ∷ q)
  rest_inside n r ns {q} c hu hn hf = hf ◂ all_at q (λ xs x ys e. ⊎_elim (λ i. i) (λ o. absurd (no_four (with_one r ns xs ys c e) hu hn hf o)) (in_out x))

  pub rest_outside : {n m : Point} (u : Point) (ns r : List Point) {q : List Point} → CCW (n ∷ (ns ++ (u ∷ (r ++ (m ∷ q))))) → Out h n → In h u
      → Out h m → All (Out h) (m ∷ q)
  rest_outside {n} {m} u ns r {q} c hn hu hm =
      hm ◂ all_at q (λ xs x ys e. ⊎_elim (λ i. absurd (no_four (ccw_turn (n ∷ []) (u ∷ m ∷ x ∷ []) (with_one ns r xs ys c e)) hu hm i hn)) (λ o. o) (in_out x))

  pub arc : (f : Point) (s : List Point) → In h f → CCW (f ∷ s) → Arc h (f ∷ s)
  arc f s hf c = go (either s in_out)
    where
      runs : {l n : Point} {rest : List Point} → Turned (f ∷ s) (l ∷ n ∷ rest) → In h l → Out h n → Run rest → Arc h (f ∷ s)
      runs {l} {n} {rest} t hl hn (to_end a) = one_run l n rest t hl (hn ◂ a)
      runs {l} {n} t hl hn (until ns g q a i) = two_runs l n ns g q t hl (hn ◂ a) (rest_inside n [] ns (ccw_turned t c) hl hn i)

      go : All (In h) s ⊎ Any (Out h) s → Arc h (f ∷ s)
      go (inl a) = inside (hf ◂ a)
      go (inr a) =
          let t = leave f s hf a in
          runs {l = t.l} {n = t.n} {rest = t.back ++ t.front} (record { front = t.front; back = t.l ∷ t.n ∷ t.back; was = t.is; now = refl })
          t.hl t.hn (run (t.back ++ t.front))
