use Rattle.std.proofs.Common.{refl, arith}
use Rattle.csv.specs.Records.{fields_of}
use Rattle.twp_plat.proofs.lots.sheet.RowFacts.{next_cell}
use Rattle.twp_plat.proofs.lots.sheet.row.write_cells.Goals as goal

pub loop-index-preserved : goal.loop-index-preserved
loop-index-preserved c = record {
  least = omega arith;
  written = next_cell (fields_of c.args.cells.now) c.loop-index.index c.args.plain.now.items _
      c.loop-index.invariant.least (omega arith)
      (rw (c.in_ok-write_cell_at.ensures, c.in_ok-push.ensures.items, c.loop-index.invariant.written) refl);
}
