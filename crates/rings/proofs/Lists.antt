-- Laws of lists: all members, some member, all pairs in order, all steps of a walk, all
-- edges of a closed list, parts that keep the order, lists started at another place.
use mathlib.Core.Path.{◌≡◌, refl, sym, ap, ◌∙◌, subst}
use mathlib.Core.List.{List, [], ◌∷◌, ◌++◌, append-nil}
use mathlib.Core.Logic.{◌⊎◌, inl, inr}
use Prim.Native.Nat.{◌≤◌}
use native.Mathlib.Omega.{arith}
use lib.ListN.{length, length-append}
use Rattle.rings.specs.Lists.{All, ∅, ◌◂◌, Walk, last, step, Edges, nothing, closed, Turned}

pub data Any {A : Type 0} (P : A → Type 0) : List A → Type 0 where
  here : {x : A} {xs : List A} → P x → Any P (x ∷ xs)
  there : {x : A} {xs : List A} → Any P xs → Any P (x ∷ xs)

-- a member of which P holds, and what stands before and after it
pub record One {A : Type 0} (P : A → Type 0) (xs : List A) : Type 0 where
  pub front : List A
  pub x : A
  pub back : List A
  pub is : xs ≡ front ++ (x ∷ back)
  pub holds : P x

-- R x y for every x before y
infixr 60 ◌◂ᵖ◌
pub data Pairs {A : Type 0} (R : A → A → Type 0) : List A → Type 0 where
  ∅ᵖ : Pairs R []
  ◌◂ᵖ◌ : {x : A} {xs : List A} → All (R x) xs → Pairs R xs → Pairs R (x ∷ xs)

-- the first list is what is left of the second when some of its members are dropped
infix 50 ◌⊑◌
pub data ◌⊑◌ {A : Type 0} : List A → List A → Type 0 where
  done : {ys : List A} → [] ⊑ ys
  skip : {y : A} {xs ys : List A} → xs ⊑ ys → xs ⊑ (y ∷ ys)
  take : {x : A} {xs ys : List A} → xs ⊑ ys → (x ∷ xs) ⊑ (x ∷ ys)

module _ {A : Type 0} where
  -- ---- All
  module _ {P : A → Type 0} where
    pub all_append : {xs ys : List A} → All P xs → All P ys → All P (xs ++ ys)
    all_append ∅ b = b
    all_append (p ◂ a) b = p ◂ all_append a b

    pub all_left : (xs ys : List A) → All P (xs ++ ys) → All P xs
    all_left [] ys a = ∅
    all_left (x ∷ xs) ys (p ◂ a) = p ◂ all_left xs ys a

    pub all_right : (xs : List A) {ys : List A} → All P (xs ++ ys) → All P ys
    all_right [] a = a
    all_right (x ∷ xs) (p ◂ a) = all_right xs a

    pub all_head : {x : A} {xs : List A} → All P (x ∷ xs) → P x
    all_head (p ◂ a) = p

    pub all_tail : {x : A} {xs : List A} → All P (x ∷ xs) → All P xs
    all_tail (p ◂ a) = a

    pub all_part : {xs ys : List A} → xs ⊑ ys → All P ys → All P xs
    all_part done a = ∅
    all_part (skip s) (p ◂ a) = all_part s a
    all_part (take s) (p ◂ a) = p ◂ all_part s a

    pub all_of : {xs : List A} → ((x : A) → P x) → All P xs
    all_of {xs = []} f = ∅
    all_of {xs = x ∷ xs} f = f x ◂ all_of {xs = xs} f

    -- what holds of each member in its place
    pub all_at : (r : List A) → ((xs : List A) (x : A) (ys : List A) → r ≡ xs ++ (x ∷ ys) → P x) → All P r
    all_at [] f = ∅
    all_at (x ∷ r) f = f [] x r refl ◂ all_at r (λ xs y ys e. f (x ∷ xs) y ys (ap (λ l. x ∷ l) e))

  module _ {P Q : A → Type 0} where
    pub all_map : {xs : List A} → ((x : A) → P x → Q x) → All P xs → All Q xs
    all_map f ∅ = ∅
    all_map f (p ◂ a) = f _ p ◂ all_map f a

    pub either : (xs : List A) → ((x : A) → P x ⊎ Q x) → All P xs ⊎ Any Q xs
    either [] f = inl ∅
    either (x ∷ xs) f = go (f x) (either xs f)
      where
        go : P x ⊎ Q x → All P xs ⊎ Any Q xs → All P (x ∷ xs) ⊎ Any Q (x ∷ xs)
        go (inr q) r = inr (here q)
        go (inl p) (inl a) = inl (p ◂ a)
        go (inl p) (inr a) = inr (there a)

  pub all_zip : {P Q S : A → Type 0} {xs : List A} → ((x : A) → P x → Q x → S x) → All P xs → All Q xs → All S xs
  all_zip f ∅ ∅ = ∅
  all_zip f (p ◂ a) (q ◂ b) = f _ p q ◂ all_zip f a b

  pub any_all : {P Q : A → Type 0} {C : Type 0} {xs : List A} → ((x : A) → P x → Q x → C) → Any P xs → All Q xs → C
  any_all f (here p) (q ◂ b) = f _ p q
  any_all f (there a) (q ◂ b) = any_all f a b

  pub any_long : {P : A → Type 0} {xs : List A} → Any P xs → 1 ≤ length xs
  any_long (here p) = omega arith
  any_long (there a) = omega arith

  pub one : {P : A → Type 0} {xs : List A} → Any P xs → One P xs
  one (here {x = y} {xs} p) = record { front = []; x = y; back = xs; is = refl; holds = p }
  one (there {x = y} a) = let o = one a in record { front = y ∷ o.front; x = o.x; back = o.back; is = ap (λ l. y ∷ l) o.is; holds = o.holds }

  -- ---- Pairs
  pub pairs_map : {R S : A → A → Type 0} {xs : List A} → ((x y : A) → R x y → S x y) → Pairs R xs → Pairs S xs
  pairs_map f ∅ᵖ = ∅ᵖ
  pairs_map f (a ◂ᵖ q) = all_map (λ y. f _ y) a ◂ᵖ pairs_map f q

  pub pairs_zip : {R S T : A → A → Type 0} {xs : List A} → ((x y : A) → R x y → S x y → T x y) → Pairs R xs → Pairs S xs → Pairs T xs
  pairs_zip f ∅ᵖ ∅ᵖ = ∅ᵖ
  pairs_zip f (a ◂ᵖ q) (b ◂ᵖ r) = all_zip (λ y. f _ y) a b ◂ᵖ pairs_zip f q r

  module _ {R : A → A → Type 0} where
    pub pairs_part : {xs ys : List A} → xs ⊑ ys → Pairs R ys → Pairs R xs
    pairs_part done q = ∅ᵖ
    pairs_part (skip s) (a ◂ᵖ q) = pairs_part s q
    pairs_part (take s) (a ◂ᵖ q) = all_part s a ◂ᵖ pairs_part s q

    pub pairs_snoc : {xs : List A} {z : A} → Pairs R xs → All (λ x. R x z) xs → Pairs R (xs ++ (z ∷ []))
    pairs_snoc ∅ᵖ ∅ = ∅ ◂ᵖ ∅ᵖ
    pairs_snoc (a ◂ᵖ q) (p ◂ b) = all_append a (p ◂ ∅) ◂ᵖ pairs_snoc q b

    pub pairs_head : {x : A} {xs : List A} → Pairs R (x ∷ xs) → All (R x) xs
    pairs_head (a ◂ᵖ q) = a

    pub pairs_tail : {x : A} {xs : List A} → Pairs R (x ∷ xs) → Pairs R xs
    pairs_tail (a ◂ᵖ q) = q

  -- ---- Walk, Edges
  module _ {R : A → A → Type 0} where
    pub walk_join : {a b z : A} {xs ys : List A} → Walk R a xs b → Walk R b ys z → Walk R a (xs ++ (b ∷ ys)) z
    walk_join (last r) v = step r v
    walk_join (step r w) v = step r (walk_join w v)

    pub walk_left : {a b z : A} (xs ys : List A) → Walk R a (xs ++ (b ∷ ys)) z → Walk R a xs b
    walk_left [] ys (step r w) = last r
    walk_left {a = a} (x ∷ xs) ys (step r w) = step r (walk_left {a = x} xs ys w)

    pub walk_right : {a b z : A} (xs : List A) {ys : List A} → Walk R a (xs ++ (b ∷ ys)) z → Walk R b ys z
    walk_right [] (step r w) = w
    walk_right {a = a} (x ∷ xs) (step r w) = walk_right {a = x} xs w

    pub edges_turn : (xs ys : List A) → Edges R (xs ++ ys) → Edges R (ys ++ xs)
    edges_turn [] ys e = subst (Edges R) (sym (append-nil ys)) e
    edges_turn (x ∷ xs) [] e = subst (Edges R) (append-nil (x ∷ xs)) e
    edges_turn (x ∷ xs) (y ∷ ys) (closed w) = closed (walk_join (walk_right xs w) (walk_left xs ys w))

    pub edges_turned : {r s : List A} → Turned r s → Edges R r → Edges R s
    edges_turned t e = subst (Edges R) (sym t.now) (edges_turn t.front t.back (subst (Edges R) t.was e))

    pub walk_of : {a z : A} {xs : List A} → ((x y : A) → R x y) → Walk R a xs z
    walk_of {xs = []} f = last (f _ _)
    walk_of {a = a} {xs = x ∷ xs} f = step (f _ _) (walk_of {a = x} {xs = xs} f)

    pub edges_of : {xs : List A} → ((x y : A) → R x y) → Edges R xs
    edges_of {xs = []} f = nothing
    edges_of {xs = x ∷ xs} f = closed (walk_of f)

  pub walk_map : {R S : A → A → Type 0} {a z : A} {xs : List A} → ((x y : A) → R x y → S x y) → Walk R a xs z → Walk S a xs z
  walk_map f (last r) = last (f _ _ r)
  walk_map f (step r w) = step (f _ _ r) (walk_map f w)

  pub edges_map : {R S : A → A → Type 0} {xs : List A} → ((x y : A) → R x y → S x y) → Edges R xs → Edges S xs
  edges_map f nothing = nothing
  edges_map f (closed w) = closed (walk_map f w)

  pub walk_zip : {R S T : A → A → Type 0} {a z : A} {xs : List A} → ((x y : A) → R x y → S x y → T x y) → Walk R a xs z → Walk S a xs z → Walk T a xs z
  walk_zip f (last r) (last s) = last (f _ _ r s)
  walk_zip f (step r w) (step s v) = step (f _ _ r s) (walk_zip f w v)

  pub edges_zip : {R S T : A → A → Type 0} {xs : List A} → ((x y : A) → R x y → S x y → T x y) → Edges R xs → Edges S xs → Edges T xs
  edges_zip f nothing nothing = nothing
  edges_zip f (closed w) (closed v) = closed (walk_zip f w v)

  -- each x has all edges: each edge has all x
  pub edges_all : {B : Type 0} {R : B → A → A → Type 0} {r : List A} {s : List B} → All (λ x. Edges (R x) r) s → Edges (λ a b. All (λ x. R x a b) s) r
  edges_all ∅ = edges_of (λ x y. ∅)
  edges_all (e ◂ a) = edges_zip (λ x y p q. p ◂ q) e (edges_all a)

  -- ---- parts
  pub part_refl : {xs : List A} → xs ⊑ xs
  part_refl {xs = []} = done
  part_refl {xs = x ∷ xs} = take (part_refl {xs = xs})

  pub part_right : {xs : List A} (zs : List A) {ys : List A} → xs ⊑ ys → xs ⊑ (zs ++ ys)
  part_right [] s = s
  part_right (z ∷ zs) s = skip (part_right zs s)

  pub part_append : {xs ys zs us : List A} → xs ⊑ ys → zs ⊑ us → (xs ++ zs) ⊑ (ys ++ us)
  part_append {ys} done t = part_right ys t
  part_append (skip s) t = skip (part_append s t)
  part_append (take s) t = take (part_append s t)

  -- ---- lists started at another place
  pub turned_length : {r s : List A} → Turned r s → length s ≡ length r
  turned_length t = ap length t.now ∙ length-append t.back t.front ∙ (let k = length-append t.front t.back in let j = ap length t.was in omega arith)

  pub turned_all : {P : A → Type 0} {r s : List A} → Turned r s → All P r → All P s
  turned_all {P} t a =
      let b = subst (All P) t.was a in
      subst (All P) (sym t.now) (all_append (all_right t.front b) (all_left t.front t.back b))

  pub turned_back : {r s : List A} → Turned r s → Turned s r
  turned_back t = record { front = t.back; back = t.front; was = t.now; now = t.was }

  -- ---- the last member
  abbrev pub final : A → List A → A
  final a [] = a
  final a (b ∷ xs) = final b xs

  pub final_all : {P : A → Type 0} (a : A) (xs : List A) → All P (a ∷ xs) → P (final a xs)
  final_all a [] (p ◂ q) = p
  final_all a (b ∷ xs) (p ◂ q) = final_all b xs q

  pub final_walk : {R : A → A → Type 0} {a z : A} {xs : List A} → Walk R a xs z → R (final a xs) z
  final_walk (last r) = r
  final_walk (step r w) = final_walk w

  pub final_part : (a : A) (xs : List A) → (final a xs ∷ []) ⊑ (a ∷ xs)
  final_part a [] = take done
  final_part a (b ∷ xs) = skip (final_part b xs)
