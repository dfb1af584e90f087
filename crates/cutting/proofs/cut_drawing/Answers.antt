-- The reading has room for every drawing, and the batch refuses nothing of it (`proofs/Readings.antt`).
use Rattle.std.proofs.Common.{sym, arith}
use lib.Seq.{length-take-le}
use Rattle.cutting.specs.Sheets.{cut}
use Rattle.cutting.proofs.Readings.{read, kept}
use Rattle.cutting.proofs.cut_drawing.Goals as goal

pub returns-then-read-ne0 : goal.returns-then-read-ne0
returns-then-read-ne0 c =
    (read c.requires.in_bounds c.read_drawing-read.auto.out c.read_drawing-read.ensures).refuses (λ z. omega arith) _

pub overflow_mul-numbers : goal.overflow_mul-numbers
overflow_mul-numbers c =
    let d = (read c.requires.in_bounds c.read_drawing-read.auto.out c.read_drawing-read.ensures).draws (omega arith) in
    omega (arith, d.few, d.count)

pub slice_bounds-batch-end : goal.slice_bounds-batch-end
slice_bounds-batch-end c =
    let d = (read c.requires.in_bounds c.read_drawing-read.auto.out c.read_drawing-read.ensures).draws (omega arith) in
    d.fits

pub slice_bounds-batch-end-2 : goal.slice_bounds-batch-end-2
slice_bounds-batch-end-2 c =
    let d = (read c.requires.in_bounds c.read_drawing-read.auto.out c.read_drawing-read.ensures).draws (omega arith) in
    sym (length-take-le _ _ d.fits)

pub returns : goal.returns
returns c =
    let d = (read c.requires.in_bounds c.read_drawing-read.auto.out c.read_drawing-read.ensures).draws (omega arith) in
    let k = kept d c.requires.in_bounds_2 c.batch-answer.ensures in
    cut (record {
      lines = d.lines;
      means = d.means;
      area = d.area;
      kept_rows = k.numbers;
      are = k.are;
      count = d.count;
      kept_count = k.count;
      strokes_start = d.start;
      rows_start = k.start;
    })
