use Rattle.std.proofs.Common.{◌≡◌, [], drop}
use Rattle.csv.specs.Records.{fields_of, partial_of}
use Rattle.twp_plat.specs.steps.CellCuts.{with_cells, cells_from, cells_of}
use Rattle.twp_plat.proofs.lots.sheet.cells.cells_of.Given as goal

abbrev pub invariant-loop-byte : goal.invariant-loop-byte
invariant-loop-byte l = record {
  cells : with_cells (fields_of l.cells)
      (cells_from l.separator l.place l.cell.items (drop l.byte-index l.line))
      ≡ cells_of l.separator l.line;
  partial : partial_of l.cells ≡ [];
}
