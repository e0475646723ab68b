use Rattle.std.proofs.Common.{◌≡◌, ◌≤◌, ◌++◌, take}
use Rattle.csv.specs.Records.{fields_of}
use Rattle.twp_plat.specs.PlainTables.{with_acres, row_text}
use Rattle.twp_plat.proofs.lots.sheet.row.write_cells.Given as goal

abbrev pub invariant-loop-index : goal.invariant-loop-index
invariant-loop-index l = record {
  least : 1 ≤ l.index;
  written : l.plain.items ≡ l.fn.plain.items ++ row_text (take l.index (with_acres (fields_of l.cells)));
}
