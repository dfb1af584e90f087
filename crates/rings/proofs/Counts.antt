-- One pass a line: what is left is what the cuts leave, and the counts on the way are determined, since the cuts of alike rings are alike.
use mathlib.Core.Path.{◌≡◌, refl}
use mathlib.Core.List.{List, ◌∷◌}
use mathlib.Core.Option.{some}
use Prim.Native.Nat.{ℕ}
use Rattle.rings.specs.Points.{Point, Line, Real, Alike}
use Rattle.rings.specs.Rings.{Ring}
use Rattle.rings.specs.Cuts.{CutBy, OnePass, Cuts, no_more, cut, Passes, no_pass, pass}
use Rattle.rings.proofs.OneCut.{one_cut}
use Rattle.rings.proofs.Alike.{alike_length, alike_cut}

pub one_pass : {h : Line} {r s : List Point} → Real h → Ring r → CutBy h r s → OnePass h r s
one_pass real g c = record { rule = c; promise = one_cut real g c }

pub passes_cuts : {hs : List Line} {r t : List Point} {ns : List ℕ} → Passes hs r ns t → Cuts hs r (some t)
passes_cuts no_pass = no_more
passes_cuts (pass p l q) = cut p l (passes_cuts q)

pub counts_unique : {hs : List Line} {r r' t t' : List Point} {ns ns' : List ℕ} → Alike r r' → Passes hs r ns t → Passes hs r' ns' t'
    → ns ≡ ns'
counts_unique a no_pass no_pass = refl
counts_unique a (pass p l q) (pass p' l' q') =
    let b = alike_cut a p.rule p'.rule in
    λ i. alike_length b i ∷ counts_unique b q q' i
