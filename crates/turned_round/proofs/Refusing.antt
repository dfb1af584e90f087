-- What is refused in strokes that are turned round: as many numbers are given, and one of them is off the table where one was before.
use mathlib.Core.Path.{◌≡◌, refl, sym, ap, ◌∙◌, subst}
use mathlib.Core.Bool.{Bool, true, false, not, ◌&&◌}
use mathlib.Core.List.{List, [], ◌∷◌, ◌++◌}
use Prim.Native.Nat.{ℕ, suc, ◌*◌, ◌%◌}
use native.Mathlib.Omega.{arith}
use borrow.Author.Tests.{lt-ltb}
use lib.Dec.{eqb, leb, ltb, leb-suc-suc}
use lib.IntN.{ℤ}
use lib.ListN.{length}
use Rattle.whole.specs.Choice.{when◌then◌else◌}
use Rattle.grid.specs.declared.Refusal.{Refusal}
use Rattle.grid.specs.declared.Stroke.{Stroke}
use Rattle.grid.specs.declared.Window.{Window}
use Rattle.grid.specs.Refusals.{first, none, refuse, off_table, number_off, bad_strokes, most_strokes, wrong_length}
use Rattle.grid.specs.Refusals.{window_refusal, stroke_refusal, strokes_refusal}
use Rattle.grid.specs.Table.{on_table, first_off, ends}
use Rattle.strokes.specs.Strokes.{stroke_call_refusal}
use Rattle.corners.specs.Corners.{cyrus_beck_refusal}
use Rattle.batch.specs.Batches.{batch_refusal}
use Rattle.turned_round.specs.Laws.{turn_round, swap, strokes_turned_round}

-- refused alike, but that a number off the table may have another place
pub record SameRefusal (r q : Refusal) : Type 0 where
  pub number : q.number ≡ r.number
  pub place : (r.number ≡ number_off → ⊥) → q.place ≡ r.place

same : (r : Refusal) → SameRefusal r r
same r = record { number = refl; place = λ _. refl }

-- ---- whether all numbers are on the table
unfoldable all_on : List ℤ → Bool
all_on [] = true
all_on (z ∷ zs) = on_table z && all_on zs

some_off : (zs : List ℤ) → ltb (first_off zs) (length zs) ≡ not (all_on zs)
unfolding all_on first_off
some_off [] = refl
some_off (z ∷ zs) = go (on_table z) (some_off zs)
  where
    go : (b : Bool) → ltb (first_off zs) (length zs) ≡ not (all_on zs)
        → ltb (when b then suc (first_off zs) else 0) (suc (length zs)) ≡ not (b && all_on zs)
    go true e = leb-suc-suc (suc (first_off zs)) (length zs) ∙ e
    go false e = lt-ltb 0 (suc (length zs)) (omega arith)

exchange : (p q r s t : Bool) → r && (s && (p && (q && t))) ≡ p && (q && (r && (s && t)))
exchange true true r s t = refl
exchange true false true true t = refl
exchange true false true false t = refl
exchange true false false s t = refl
exchange false q true true t = refl
exchange false q true false t = refl
exchange false q false s t = refl

all_on_lem : (which : ℕ → Bool) (k : ℕ) (zs : List ℤ) → all_on (strokes_turned_round which k zs) ≡ all_on zs
unfolding all_on strokes_turned_round
all_on_lem which k [] = refl
all_on_lem which k (a ∷ []) = refl
all_on_lem which k (a ∷ b ∷ []) = refl
all_on_lem which k (a ∷ b ∷ c ∷ []) = refl
all_on_lem which k (a ∷ b ∷ c ∷ d ∷ zs) =
    go (which k) (strokes_turned_round which (suc k) zs)
    ∙ ap (λ (t : Bool). on_table a && (on_table b && (on_table c && (on_table d && t)))) (all_on_lem which (suc k) zs)
  where
    go : (turn : Bool) (rest : List ℤ) → all_on (swap turn a b c d ++ rest) ≡ on_table a && (on_table b && (on_table c && (on_table d && all_on rest)))
    go true rest = exchange (on_table a) (on_table b) (on_table c) (on_table d) (all_on rest)
    go false rest = refl

turned_length : (which : ℕ → Bool) (k : ℕ) (zs : List ℤ) → length (strokes_turned_round which k zs) ≡ length zs
unfolding strokes_turned_round
turned_length which k [] = refl
turned_length which k (a ∷ []) = refl
turned_length which k (a ∷ b ∷ []) = refl
turned_length which k (a ∷ b ∷ c ∷ []) = refl
turned_length which k (a ∷ b ∷ c ∷ d ∷ zs) = go (which k) ∙ ap (λ (n : ℕ). suc (suc (suc (suc n)))) (turned_length which (suc k) zs)
  where
    rest : List ℤ
    rest = strokes_turned_round which (suc k) zs

    go : (turn : Bool) → length (swap turn a b c d ++ rest) ≡ suc (suc (suc (suc (length rest))))
    go true = refl
    go false = refl

-- ---- the refusals of a list, and of one stroke
off_alike : (zs ys : List ℤ) → all_on ys ≡ all_on zs → SameRefusal (off_table number_off zs) (off_table number_off ys)
unfolding off_table
off_alike zs ys h = go (ltb (first_off zs) (length zs)) (some_off ys ∙ ap not h ∙ sym (some_off zs))
  where
    chosen : Bool → List ℤ → Refusal
    chosen b xs = when b then refuse number_off (first_off xs) else none

    go : (b : Bool) → ltb (first_off ys) (length ys) ≡ b → SameRefusal (chosen b zs) (chosen (ltb (first_off ys) (length ys)) ys)
    go true e = record { number = ap (λ (b : Bool). (chosen b ys).number) e; place = λ n. absurd (n refl) }
    go false e = record { number = ap (λ (b : Bool). (chosen b ys).number) e; place = λ _. ap (λ (b : Bool). (chosen b ys).place) e }

bad_alike : (zs ys : List ℤ) → length ys ≡ length zs → bad_strokes ys ≡ bad_strokes zs
unfolding bad_strokes
bad_alike zs ys h = ap (λ (n : ℕ). when eqb (n % 4) 0 && leb n (4 * most_strokes) then none else refuse wrong_length 0) h

-- ---- the first that applies
only_turned : {r q : Refusal} → SameRefusal r q → SameRefusal (first (r ∷ [])) (first (q ∷ []))
unfolding first
only_turned {r} {q} h =
    subst (λ (n : ℕ). SameRefusal (when eqb r.number 0 then none else r) (when eqb n 0 then none else q)) (sym h.number) (go (eqb r.number 0))
  where
    go : (b : Bool) → SameRefusal (when b then none else r) (when b then none else q)
    go true = same none
    go false = h

later_turned : (r : Refusal) (rs qs : List Refusal) → SameRefusal (first rs) (first qs) → SameRefusal (first (r ∷ rs)) (first (r ∷ qs))
unfolding first
later_turned r rs qs h = go (eqb r.number 0)
  where
    go : (b : Bool) → SameRefusal (when b then first rs else r) (when b then first qs else r)
    go true = h
    go false = same r

stroke_turned : (s : Stroke) → SameRefusal (stroke_refusal s) (stroke_refusal (turn_round s))
unfolding stroke_refusal all_on
stroke_turned s = off_alike (ends s) (ends (turn_round s)) (exchange (on_table s.x1) (on_table s.y1) (on_table s.x2) (on_table s.y2) true)

pub call_turned : (w : Window) (s : Stroke) → SameRefusal (stroke_call_refusal w s) (stroke_call_refusal w (turn_round s))
unfolding stroke_call_refusal
call_turned w s = later_turned (window_refusal w) (stroke_refusal s ∷ []) (stroke_refusal (turn_round s) ∷ []) (only_turned (stroke_turned s))

pub corners_turned : (zs : List ℤ) (s : Stroke) → SameRefusal (cyrus_beck_refusal zs s) (cyrus_beck_refusal zs (turn_round s))
unfolding cyrus_beck_refusal
corners_turned zs s =
    later_turned _ _ _ (later_turned _ _ _ (later_turned _ (stroke_refusal s ∷ []) (stroke_refusal (turn_round s) ∷ []) (only_turned (stroke_turned s))))

module _ (which : ℕ → Bool) (zs : List ℤ) where
  abbrev ys : List ℤ
  ys = strokes_turned_round which 0 zs

  strokes_turned : SameRefusal (strokes_refusal zs) (strokes_refusal ys)
  unfolding strokes_refusal
  strokes_turned =
      subst (λ (r : Refusal). SameRefusal (strokes_refusal zs) (first (r ∷ off_table number_off ys ∷ []))) (sym (bad_alike zs ys (turned_length which 0 zs)))
      (later_turned (bad_strokes zs) (off_table number_off zs ∷ []) (off_table number_off ys ∷ []) (only_turned (off_alike zs ys (all_on_lem which 0 zs))))

  pub batch_turned : (w : Window) → SameRefusal (batch_refusal w zs) (batch_refusal w (strokes_turned_round which 0 zs))
  unfolding batch_refusal
  batch_turned w = later_turned (window_refusal w) (strokes_refusal zs ∷ []) (strokes_refusal ys ∷ []) (only_turned strokes_turned)
