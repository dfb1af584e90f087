-- `strokes::plain::lies` meets its contract: what `lies_along` and `beyond` say of the numbers as they are read. Assumes nothing.
use mathlib.Core.Path.{◌≡◌, subst}
use borrow.Author.Rules.{rules}
use Rattle.grid.specs.declared.Stroke.{Stroke}
use Rattle.grid.specs.declared.Window.{Window}
use Rattle.strokes.specs.declared.plain.Plainly.{Plainly}
use Rattle.strokes.specs.declared.plain.Plainly.TheVariants.{Inside, Outside, Neither}
use Rattle.strokes.specs.Workers.{EndsBetween, LiesAlong, Lies}
use Rattle.strokes.proofs.Reading.{read, four_plain}
use Rattle.strokes.proofs.plain.lies.Statement.{statement}
use Rattle.strokes.proofs.plain.lies.Tie as tie

-- between the window's sides by its x, a stroke is where it is by its y
by_y : (w : Window) (s : Stroke) (p : Plainly) → EndsBetween w.left w.right s.x1 s.x2
    → LiesAlong w.bottom w.top s.y1 s.y2 p → Lies w s p
by_y w s Inside e h = record { x = e; y = h }
by_y w s Outside e h = λ n d k. h n d k.time k.y
by_y w s Neither e h = record { x = record { up = λ _. e.b_low; down = λ _ _ _. e.b_high }; y = h }

-- where the stroke is by its x, and by its y, of the numbers in the window and the stroke
module _ (c : tie.After-lies_along) where
  abbrev w : Window
  w = c.before.before.before.before.before.args.w

  abbrev s : Stroke
  s = c.before.before.before.before.before.args.s

  x_at : {p : Plainly} → c.lies_along.result ≡ p → LiesAlong w.left w.right s.x1 s.x2 p
  x_at {p} e =
      let gw = c.before.before.before.before.struct_told-1.given in
      let gs = c.before.before.struct_told-3-1.given in
      four_plain (λ lo hi a b. LiesAlong lo hi a b p) gw.0.1 gw.1.1.0.1 gs.0.1 gs.1.1.0.1
      (subst (LiesAlong _ _ _ _) e c.lies_along.ensures)

  y_at : (p : Plainly) → LiesAlong (read w.bottom) (read w.top) (read s.y1) (read s.y2) p
      → LiesAlong w.bottom w.top s.y1 s.y2 p
  y_at p h =
      let gw = c.before.before.before.before.struct_told-1.given in
      let gs = c.before.before.struct_told-3-1.given in
      four_plain (λ lo hi a b. LiesAlong lo hi a b p) gw.1.0.1 gw.1.1.1.0.1 gs.1.0.1 gs.1.1.1.0.1 h

lies-along-requires : tie.Need-lies_along-requires
lies-along-requires c κs = search rules

enum_told : tie.Need-enum_told-1
enum_told c = search rules

lies-along-requires-2 : tie.Need-lies_along-requires-in-Inside
lies-along-requires-2 c κs = search rules

enum-told-2 : tie.Need-enum_told-in-Outside
enum-told-2 c = search rules

enum-told-3 : tie.Need-enum_told-in-Neither
enum-told-3 c = search rules

beyond-requires : tie.Need-beyond-requires
beyond-requires c κs = search rules

returns : tie.Need-returns-then-beyond
returns c n d k =
    let a = c.before.before.before.before.before.before.before in
    y_at a Outside (c.before.beyond.ensures.0 c.if-beyond.true) n d k.time k.y

returns-2 : tie.Need-returns-in-Inside
returns-2 c =
    let a = c.before.before.before.before.before.before in
    let r = c.lies_along-in-Inside.result in
    by_y _ _ r (x_at a c.before.before.before.before.before.in-Inside.is) (y_at a r c.lies_along-in-Inside.ensures)

returns-3 : tie.Need-returns-in-Outside
returns-3 c n d k = x_at c.before c.in-Outside.is n d k.time k.x

returns-4 : tie.Need-returns-else-beyond
returns-4 c =
    let a = c.before.before.before.before.before.before.before in record {
      x = x_at a c.before.before.before.before.before.before.in-Neither.is;
      y = y_at a Neither (c.before.beyond.ensures.1 c.if-beyond.false);
    }

pub lies_spec : {M : Type 1} → statement M
lies_spec =
    tie.close
    (tie.spec
    lies-along-requires
    enum_told
    lies-along-requires-2
    enum-told-2
    enum-told-3
    beyond-requires
    returns
    returns-2
    returns-3
    returns-4)
