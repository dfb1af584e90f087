-- The laws of specs/Laws.antt. A call that is done gave the computed rows. Going from stroke to stroke, each row is of a stroke that is given, the rows
-- are in order, and each stroke that is given has one.
use mathlib.Core.Path.{◌≡◌, refl, sym, ap, ◌∙◌, subst, transport}
use mathlib.Core.Bool.{Bool, true, false}
use mathlib.Core.List.{List, [], ◌∷◌, ◌++◌}
use mathlib.Core.Logic.{◌⊎◌, inl, inr, ⊎_elim, ◌↔◌}
use Prim.Native.Nat.{ℕ, zero, suc, ◌+◌, ◌*◌, ◌/◌, ◌<◌, ◌≤◌}
use native.Mathlib.Omega.{arith}
use borrow.Author.Tests.{le-leb, lt-leb}
use lib.IntN.{ℤ, pos}
use lib.ListN.{length, take, drop, get_or}
use lib.Seq.{take-append_seam}
use lib.Signed.{◌≤ℤ◌, ◌<ℤ◌}
use Rattle.whole.specs.Choice.{when◌then◌else◌}
use Rattle.whole.proofs.Comparisons.{ff_tt}
use Rattle.whole.proofs.Order.{zarith, ≤_total}
use Rattle.grid.specs.declared.Answer.{Answer}
use Rattle.grid.specs.declared.Refusal.{Refusal}
use Rattle.grid.specs.declared.Window.{Window}
use Rattle.grid.specs.Calls.{Given, answered_by, gives_all, refused_by}
use Rattle.grid.specs.Refusals.{no_room, refuse, room_refusal}
use Rattle.grid.specs.Table.{stroke_at, WindowOnTable, StrokesOnTable}
use Rattle.grid.proofs.Calls.{lent_cases, given_cases}
use Rattle.grid.proofs.Refusals.{done_or_refused, window_fine, stroke_fine}
use Rattle.grid.proofs.StrokeLists.{stroke_of_list}
use Rattle.strokes.specs.Laws.{InClosedWindow}
use Rattle.strokes.specs.Strokes.{Clipped, Clipping}
use Rattle.strokes.specs.declared.StrokeAnswer.{StrokeAnswer}
use Rattle.strokes.proofs.Computed.{clipped_of, clipped_of_is}
use Rattle.strokes.proofs.Laws.{clipped_inside, dot_kept}
use Rattle.strokes.proofs.Refusing.{not_refused, done_stroke}
use Rattle.strokes.proofs.Unique.{clipped_unique}
use Rattle.cuts.specs.Cuts.{is_given}
use Rattle.cuts.proofs.Given.{missed_left_out, given_kept, kept_given, given_exactly, touch_exactly}
use Rattle.batch.specs.Batches.{five_of, RowsGiven, RowsCall, batch_refusal}
use Rattle.batch.specs.Laws.{numbers_given, RowIs, HasRow, RowExactly, KeptHaveRows, TouchesHaveNone, MeantDots}
use Rattle.batch.specs.Laws.{RowOfAStroke, RowsInOrder, RowInside, RowsStayInside, NeedIsGiven}
use Rattle.batch.specs.Laws.{OnlyTouches, RowsBut, no_more, stays, left_out, TouchesLeftOut}
use Rattle.batch.proofs.Refusing.{on_table_lem}
use Rattle.batch.proofs.Rows.{rows_from, rows_more, rows_none, rows_unique, computed_rows}

-- ---- a row that is put before others
module _ (a b c d e : ℤ) (ys : List ℤ) where
  -- five numbers further on
  past : (j i : ℕ) → get_or (a ∷ b ∷ c ∷ d ∷ e ∷ ys) (5 * suc j + i) (pos 0) ≡ get_or ys (5 * j + i) (pos 0)
  past j i =
      let five : 5 * suc j + i ≡ suc (suc (suc (suc (suc (5 * j + i))))) = omega arith in
      ap (λ (n : ℕ). get_or (a ∷ b ∷ c ∷ d ∷ e ∷ ys) n (pos 0)) five

  past_index : (j : ℕ) → get_or (a ∷ b ∷ c ∷ d ∷ e ∷ ys) (5 * suc j) (pos 0) ≡ get_or ys (5 * j) (pos 0)
  past_index j =
      let five : 5 * suc j ≡ suc (suc (suc (suc (suc (5 * j))))) = omega arith in
      ap (λ (n : ℕ). get_or (a ∷ b ∷ c ∷ d ∷ e ∷ ys) n (pos 0)) five

  row_past : {j k : ℕ} {s : StrokeAnswer} → RowIs ys j k s → RowIs (a ∷ b ∷ c ∷ d ∷ e ∷ ys) (suc j) k s
  row_past {j} r = record {
    within = let h = r.within in omega arith;
    index = past_index j ∙ r.index;
    start = (past j 1 ∙ r.start.0, past j 2 ∙ r.start.1);
    finish = (past j 3 ∙ r.finish.0, past j 4 ∙ r.finish.1);
  }

same_or_later : (k m : ℕ) → k ≤ m → (m ≡ k) ⊎ (suc k ≤ m)
same_or_later k m h = ⊎_elim (λ l. inl (omega zarith)) (λ l. inr (omega zarith)) (≤_total (pos m) (pos k))

-- ---- the rows from the place p on, in a list of strokes on the table
module _ (touches : Bool) {w : Window} {zs : List ℤ} (on : WindowOnTable w) (t : StrokesOnTable zs) where
  abbrev answer : ℕ → StrokeAnswer
  answer k = clipped_of w (stroke_at zs (4 * k))

  -- with those of the stroke at p before those that follow
  record Next (k : ℕ) : Type 0 where
    given : is_given touches (answer k) ≡ true → rows_from touches w zs (4 * k)
        ≡ five_of k (answer k) ++ rows_from touches w zs (4 * suc k)
    passed : is_given touches (answer k) ≡ false → rows_from touches w zs (4 * k) ≡ rows_from touches w zs (4 * suc k)

  next : (k : ℕ) → 4 * k < length zs → Next k
  next k h =
      let four : 4 * k + 4 ≤ length zs = omega (arith, t.by_four) in
      let here : 4 * k / 4 ≡ k = omega arith in
      let on_by : 4 * k + 4 ≡ 4 * suc k = omega arith in
      let more : rows_from touches w zs (4 * k)
      ≡ (when is_given touches (answer k) then five_of k (answer k) else [])
      ++ rows_from touches w zs (4 * suc k) =
      rows_more touches w zs (4 * k) four
      ∙ (λ i. (when is_given touches (answer k) then five_of (here i) (answer k) else [])
      ++ rows_from touches w zs (on_by i)) in
      let by : Bool → List ℤ = λ b.
      (when b then five_of k (answer k) else []) ++ rows_from touches w zs (4 * suc k) in
      record { given = λ e. more ∙ ap by e; passed = λ e. more ∙ ap by e }

  -- row j of xs is of a stroke that is given
  record RowAt (xs : List ℤ) (j : ℕ) : Type 0 where
    stroke : ℕ
    listed : 4 * stroke < length zs
    given : is_given touches (answer stroke) ≡ true
    is : RowIs xs j stroke (answer stroke)

  -- xs are the rows of the strokes from k on
  record Walk (k : ℕ) (xs : List ℤ) : Type 0 where
    each : (j : ℕ) → 5 * j < length xs → RowAt xs j
    behind : (j : ℕ) (l : 5 * j < length xs) → k ≤ (each j l).stroke
    rising : (i j : ℕ) (l : 5 * i < length xs) (m : 5 * j < length xs) → i < j → (each i l).stroke < (each j m).stroke
    has : (m : ℕ) → k ≤ m → 4 * m < length zs → is_given touches (answer m) ≡ true → HasRow xs m (answer m)

  walk_past : {k : ℕ} {xs : List ℤ} → is_given touches (answer k) ≡ false → Walk (suc k) xs → Walk k xs
  walk_past {k} {xs} e later = record {
    each = later.each;
    behind = λ j l. let h = later.behind j l in omega arith;
    rising = later.rising;
    has = λ m l i g.
        ⊎_elim (λ s. absurd (ff_tt (sym e ∙ ap (λ (n : ℕ). is_given touches (answer n)) (sym s) ∙ g))) (λ l. later.has m l i g) (same_or_later k m l);
  }

  walk_row : {k : ℕ} {xs : List ℤ} → 4 * k < length zs → is_given touches (answer k) ≡ true → Walk (suc k) xs
      → Walk k (five_of k (answer k) ++ xs)
  walk_row {k} {xs} h e later = record {
    each = at;
    behind = behind;
    rising = rising;
    has = λ m l i g.
        ⊎_elim (λ s. subst (λ (n : ℕ). HasRow all n (answer n)) (sym s) (record { at = 0; is = own }))
        (λ l. let r = later.has m l i g in record { at = suc r.at; is = row_past _ _ _ _ _ xs r.is }) (same_or_later k m l);
  }
    where
      all : List ℤ
      all = five_of k (answer k) ++ xs

      own : RowIs all 0 k (answer k)
      own = record { within = omega arith; index = refl; start = (refl, refl); finish = (refl, refl) }

      closer : (j : ℕ) → 5 * suc j < length all → 5 * j < length xs
      closer j l = omega arith

      at : (j : ℕ) → 5 * j < length all → RowAt all j
      at zero l = record { stroke = k; listed = h; given = e; is = own }
      at (suc j) l = let r = later.each j (closer j l) in
          record { stroke = r.stroke; listed = r.listed; given = r.given; is = row_past _ _ _ _ _ xs r.is }

      behind : (j : ℕ) (l : 5 * j < length all) → k ≤ (at j l).stroke
      behind zero l = omega arith
      behind (suc j) l = let b = later.behind j (closer j l) in omega arith

      rising : (i j : ℕ) (l : 5 * i < length all) (m : 5 * j < length all) → i < j → (at i l).stroke < (at j m).stroke
      rising i zero l m o = absurd (omega arith)
      rising zero (suc j) l m o = later.behind j (closer j m)
      rising (suc i) (suc j) l m o = later.rising i j (closer i l) (closer j m) (omega arith)

  walk : (f k : ℕ) → 4 * (k + f) ≡ length zs → Walk k (rows_from touches w zs (4 * k))
  walk zero k e =
      let none = rows_none touches w zs (4 * k) (omega arith) in
      subst (Walk k) (sym none) (record {
        each = λ j l. absurd (omega arith);
        behind = λ j l. absurd (omega arith);
        rising = λ i j l m o. absurd (omega arith);
        has = λ m l i g. absurd (omega arith);
      })
  walk (suc f) k e = go (is_given touches (answer k)) refl (walk f (suc k) (omega arith))
    where
      more : 4 * k < length zs
      more = omega arith

      go : (b : Bool) → is_given touches (answer k) ≡ b → Walk (suc k) (rows_from touches w zs (4 * suc k)) → Walk k (rows_from touches w zs (4 * k))
      go true g later = subst (Walk k) (sym ((next k more).given g)) (walk_row more g later)
      go false g later = subst (Walk k) (sym ((next k more).passed g)) (walk_past g later)

  whole_walk : Walk 0 (rows_from touches w zs 0)
  whole_walk = walk (length zs / 4) 0 (omega (arith, t.by_four))

-- ---- what a done call gave
pub record Done (touches : Bool) (w : Window) (zs : List ℤ) (a : Answer) (after : List ℤ) : Type 0 where
  pub on : WindowOnTable w
  pub strokes : StrokesOnTable zs
  pub nothing : (batch_refusal w zs).number ≡ 0
  pub are : numbers_given a after ≡ rows_from touches w zs 0
  pub count : a.count ≡ length (rows_from touches w zs 0)

pub done : {touches : Bool} {w : Window} {zs : List ℤ} {a : Answer} {before after : List ℤ} → RowsCall touches w zs a before after → a.number ≡ 0
    → Done touches w zs a after
done {touches} {w} {zs} {a} {before} {after} p e =
    done_or_refused (batch_refusal w zs)
    (λ z. let g = p.done z in let on = on_table_lem w zs z in
    ⊎_elim
    (λ r. absurd (omega (arith, sym (ap (λ (b : Answer). b.number) r) ∙ e)))
    (λ (r, o).
    let same = rows_unique g.gives (computed_rows touches on.0 on.1) in record {
      on = on.0;
      strokes = on.1;
      nothing = z;
      are = (λ i. take (r i).count (o i)) ∙ take-append_seam g.numbers (drop (length g.numbers) before) ∙ same;
      count = ap (λ (b : Answer). b.count) r ∙ ap length same;
    })
    (given_cases g))
    (λ n. absurd (n (ap (λ (b : Answer). b.number) (sym (p.refused n).answer) ∙ e)))

-- ---- the single answer of a listed stroke is the computed one
module _ {w : Window} {zs : List ℤ} (on : WindowOnTable w) (t : StrokesOnTable zs) (k : ℕ) (h : 4 * k < length zs) where
  listed : Clipped w (stroke_at zs (4 * k)) (clipped_of w (stroke_at zs (4 * k)))
  listed = clipped_of_is on (stroke_of_list (4 * k) t (omega (arith, t.by_four)))

  single : {s : StrokeAnswer} → Clipping w (stroke_at zs (4 * k)) s → clipped_of w (stroke_at zs (4 * k)) ≡ s
  single p =
      clipped_unique listed
      (p.done (not_refused w (stroke_at zs (4 * k)) (ap (λ (r : Refusal). r.number) (sym (window_fine w on)))
      (ap (λ (r : Refusal). r.number) (sym (stroke_fine (stroke_at zs (4 * k)) (stroke_of_list (4 * k) t (omega (arith, t.by_four))))))))

  itself : Clipping w (stroke_at zs (4 * k)) (clipped_of w (stroke_at zs (4 * k)))
  itself =
      done_stroke (ap (λ (r : Refusal). r.number) (sym (window_fine w on)))
      (ap (λ (r : Refusal). r.number) (sym (stroke_fine (stroke_at zs (4 * k)) (stroke_of_list (4 * k) t (omega (arith, t.by_four)))))) listed

-- ---- which strokes have a row
pub row_exactly : {touches : Bool} {w : Window} {zs : List ℤ} {a : Answer} {after : List ℤ} → Done touches w zs a after
    → (k : ℕ) → 4 * k < length zs → {s : StrokeAnswer} → Clipping w (stroke_at zs (4 * k)) s
    → RowExactly (is_given touches s ≡ true) (numbers_given a after) k s
row_exactly {touches} {w} {zs} {a} {after} d k h {s} p =
    let walked = whole_walk touches d.on d.strokes in
    let one = single d.on d.strokes k h p in
    subst (λ (xs : List ℤ). RowExactly (is_given touches s ≡ true) xs k s) (sym d.are)
    (subst (λ (s : StrokeAnswer). RowExactly (is_given touches s ≡ true) (rows_from touches w zs 0) k s) one
    (record {
      has = walked.has k (omega arith) h;
      only = λ j l e. let r = walked.each j l in
          let same : r.stroke ≡ k = omega (zarith, sym r.is.index ∙ e) in
          subst (λ (n : ℕ). is_given touches (clipped_of w (stroke_at zs (4 * n))) ≡ true) same r.given;
    }))

-- the same said in other words
exactly_as : {P Q : Type 0} {xs : List ℤ} {k : ℕ} {s : StrokeAnswer} → P ↔ Q → RowExactly P xs k s → RowExactly Q xs k s
exactly_as (to, from) r = record { has = λ q. r.has (from q); only = λ j l e. to (r.only j l e) }

pub kept_have_rows : KeptHaveRows
kept_have_rows w zs a before after p z k h s q = exactly_as (given_kept s true, kept_given s) (row_exactly (done p z) k h q)

pub touches_have_none : TouchesHaveNone
touches_have_none w zs a before after p z k h s q =
    let d = done p z in
    let c = subst (Clipped w (stroke_at zs (4 * k))) (single d.on d.strokes k h q) (listed d.on d.strokes k h) in
    exactly_as (given_exactly c) (row_exactly d k h q)

pub meant_dots : MeantDots
meant_dots w zs a before after p z k h x y inside s q =
    let d = done p z in
    let number = sym (ap (λ (b : StrokeAnswer). b.number) (single d.on d.strokes k h q)) ∙ (listed d.on d.strokes k h).number in
    let whole = dot_kept w (stroke_at zs (4 * k)) s q number x y inside in
    (touches_have_none w zs a before after p z k h s q).has
    (whole.0, λ t. let u = sym whole.1 ∙ t ∙ whole.2 in let one : pos 0 ≡ pos 1 = λ i. (u i).num in omega zarith)

-- ---- where their points are
some_given : {touches : Bool} {w : Window} {zs : List ℤ} {a : Answer} {before after : List ℤ} → RowsCall touches w zs a before after → 0 < a.count
    → a.number ≡ 0
some_given {a = a} p h =
    ⊎_elim (λ r. absurd (omega (arith, ap (λ (b : Answer). b.count) r)))
    (λ g. ⊎_elim (λ r. absurd (omega (arith, ap (λ (b : Answer). b.count) r))) (λ (r, o). ap (λ (b : Answer). b.number) r) (given_cases g))
    (lent_cases p)

pub rows_stay_inside : RowsStayInside
rows_stay_inside touches w zs a before after p j h =
    let d = done p (some_given p (omega arith)) in
    let r = (whole_walk touches d.on d.strokes).each j (omega (arith, d.count)) in
    let kept = given_kept (clipped_of w (stroke_at zs (4 * r.stroke))) touches r.given in
    let inside = clipped_inside (listed d.on d.strokes r.stroke r.listed) kept in
    subst (λ (xs : List ℤ). RowInside w xs j) (sym d.are) (
      transport (λ i. InClosedWindow w (sym r.is.start.0 i) (sym r.is.start.1 i)) inside.0,
      transport (λ i. InClosedWindow w (sym r.is.finish.0 i) (sym r.is.finish.1 i)) inside.1,
    )

-- ---- in which order they are
pub rows_in_order : RowsInOrder
rows_in_order touches w zs a before after p = (each, rising)
  where
    each : (j : ℕ) → 5 * j < a.count → RowOfAStroke w zs (numbers_given a after) j
    each j h =
        let d = done p (some_given p (omega arith)) in
        let r = (whole_walk touches d.on d.strokes).each j (omega (arith, d.count)) in record {
          stroke = r.stroke;
          listed = r.listed;
          answer = _;
          right = itself d.on d.strokes r.stroke r.listed;
          is = subst (λ (xs : List ℤ). RowIs xs j r.stroke (clipped_of w (stroke_at zs (4 * r.stroke)))) (sym d.are) r.is;
        }

    rising : (i j : ℕ) → i < j → 5 * j < a.count → get_or (numbers_given a after) (5 * i) (pos 0) <ℤ get_or (numbers_given a after) (5 * j) (pos 0)
    rising i j o h =
        let d = done p (some_given p (omega arith)) in
        let walked = whole_walk touches d.on d.strokes in
        let l : 5 * i < length (rows_from touches w zs 0) = omega (arith, d.count) in
        let m : 5 * j < length (rows_from touches w zs 0) = omega (arith, d.count) in
        let less = walked.rising i j l m o in
        let first = (walked.each i l).is.index in
        let last = (walked.each j m).is.index in
        subst (λ (xs : List ℤ). get_or xs (5 * i) (pos 0) <ℤ get_or xs (5 * j) (pos 0)) (sym d.are) (omega (zarith, first, last, less))

-- ---- one call and the other
module _ {w : Window} {zs : List ℤ} (on : WindowOnTable w) (t : StrokesOnTable zs) where
  abbrev Touch : ℕ → Type 0
  Touch k = OnlyTouches w (stroke_at zs (4 * k))

  abbrev kth : ℕ → StrokeAnswer
  kth k = clipped_of w (stroke_at zs (4 * k))

  is_touch : (k : ℕ) → 4 * k < length zs → (kth k).kept ≡ true → is_given false (kth k) ≡ false → Touch k
  is_touch k h e g = record { answer = kth k; right = itself on t k h; kept = e; one = touch_exactly (listed on t k h) e g }

  no_touch : (k : ℕ) → 4 * k < length zs → is_given false (kth k) ≡ true → Touch k → ⊥
  no_touch k h g touch =
      ((given_exactly (listed on t k h)).0 g).1 (subst (λ (s : StrokeAnswer). s.t0 ≡ s.t1) (sym (single on t k h touch.right)) touch.one)

  rows_but : (f k : ℕ) → 4 * (k + f) ≡ length zs → RowsBut Touch (rows_from true w zs (4 * k)) (rows_from false w zs (4 * k))
  rows_but zero k e =
      transport (λ i. RowsBut Touch (sym (rows_none true w zs (4 * k) (omega arith)) i) (sym (rows_none false w zs (4 * k) (omega arith)) i)) no_more
  rows_but (suc f) k e = go (kth k).kept refl (is_given false (kth k)) refl (rows_but f (suc k) (omega arith))
    where
      more : 4 * k < length zs
      more = omega arith

      go : (b : Bool) → (kth k).kept ≡ b → (c : Bool) → is_given false (kth k) ≡ c
          → RowsBut Touch (rows_from true w zs (4 * suc k)) (rows_from false w zs (4 * suc k))
          → RowsBut Touch (rows_from true w zs (4 * k)) (rows_from false w zs (4 * k))
      go true p true q later =
          transport (λ i. RowsBut Touch (sym ((next true on t k more).given (kept_given (kth k) p)) i) (sym ((next false on t k more).given q) i))
          (stays (no_touch k more q) later)
      go true p false q later =
          transport (λ i. RowsBut Touch (sym ((next true on t k more).given (kept_given (kth k) p)) i) (sym ((next false on t k more).passed q) i))
          (left_out (is_touch k more p q) later)
      go false p true q later = absurd (ff_tt (sym p ∙ given_kept (kth k) false q))
      go false p false q later =
          let left = missed_left_out (kth k) true p in
          transport (λ i. RowsBut Touch (sym ((next true on t k more).passed left) i) (sym ((next false on t k more).passed q) i)) later

pub touches_left_out : TouchesLeftOut
touches_left_out w zs a b before after before' after' p y q z =
    let d = done p y in
    let e = done q z in
    transport (λ i. RowsBut (λ k. OnlyTouches w (stroke_at zs (4 * k))) (sym e.are i) (sym d.are i))
    (rows_but d.on d.strokes (length zs / 4) 0 (omega (arith, d.strokes.by_four)))

-- ---- how much room a call needs
pub need_is_given : NeedIsGiven
unfolding answered_by room_refusal
need_is_given touches w zs a b before after before' after' p q z = ⊎_elim enough short (≤_total (pos (length xs)) (pos (length before)))
  where
    d : Done touches w zs b after'
    d = done q z

    g : Given (RowsGiven touches w zs) a before after
    g = p.done d.nothing

    xs : List ℤ
    xs = g.numbers

    as_many : length xs ≡ b.count
    as_many = ap length (rows_unique g.gives (computed_rows touches d.on d.strokes)) ∙ sym d.count

    enough : (pos (length xs)) ≤ℤ (pos (length before))
        → ((a.number ≡ no_room) ↔ (length before < b.count)) × (a.number ≡ no_room → a.place ≡ b.count)
    enough h =
        let fits : length xs ≤ length before = omega zarith in
        let full : a ≡ gives_all xs = g.answer ∙ simp (le-leb _ _ fits) in
        let done : a.number ≡ 0 = ap (λ (x : Answer). x.number) full in
        ((λ e. absurd (omega (arith, sym done ∙ e)), λ l. absurd (omega (arith, as_many))), λ e. absurd (omega (arith, sym done ∙ e)))

    short : (pos (length before)) <ℤ (pos (length xs))
        → ((a.number ≡ no_room) ↔ (length before < b.count)) × (a.number ≡ no_room → a.place ≡ b.count)
    short h =
        let more : length before < length xs = omega zarith in
        let eight : a ≡ refused_by (refuse no_room (length xs)) = g.answer ∙ simp (lt-leb _ _ more) in
        ((λ e. omega (arith, as_many), λ l. ap (λ (x : Answer). x.number) eight), λ e. ap (λ (x : Answer). x.place) eight ∙ as_many)
