-- Lists: what holds of all members, of two lists place by place, of all steps of a walk, of all edges of a closed list; and a list started at
-- another place.
--   All P r       P holds of every member of r
--   Each R xs ys  two lists of one length, R of the members at each place
--   Walk R a r z  R holds of every step of the walk from a, by way of r, to z
--   Edges R r     R holds of every edge of the closed list r: each member and the next, the last and the first
--   Turned r s    s is r, started at another place
use Rattle.std.specs.Prelude.{◌≡◌, List, [], ◌∷◌, ◌++◌}

infixr 60 ◌◂◌
pub data All {A : Type 0} (P : A → Type 0) : List A → Type 0 where
  ∅ : All P []
  ◌◂◌ : {x : A} {xs : List A} → P x → All P xs → All P (x ∷ xs)

pub data Each {A B : Type 0} (R : A → B → Type 0) : List A → List B → Type 0 where
  none : Each R [] []
  ◌and◌ : {x : A} {y : B} {xs : List A} {ys : List B} → R x y → Each R xs ys → Each R (x ∷ xs) (y ∷ ys)

pub data Walk {A : Type 0} (R : A → A → Type 0) : A → List A → A → Type 0 where
  last : {a z : A} → R a z → Walk R a [] z
  step : {a b z : A} {xs : List A} → R a b → Walk R b xs z → Walk R a (b ∷ xs) z

pub data Edges {A : Type 0} (R : A → A → Type 0) : List A → Type 0 where
  nothing : Edges R []
  closed : {a : A} {xs : List A} → Walk R a xs a → Edges R (a ∷ xs)

pub record Turned {A : Type 0} (r s : List A) : Type 0 where
  pub front : List A
  pub back : List A
  pub was : r ≡ front ++ back
  pub now : s ≡ back ++ front
