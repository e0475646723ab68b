use Rattle.std.proofs.Common.{◌≡◌, ◌≤◌, length, take}
use Rattle.csv.specs.Records.{fields_of}
use Rattle.twp_plat.specs.PlainTables.{trimmed}
use Rattle.twp_plat.proofs.lots.sheet.row.filled_count.Given as goal

abbrev pub invariant-loop-count : goal.invariant-loop-count
invariant-loop-count l = record {
  within : l.count ≤ length (fields_of l.cells);
  same : trimmed (take l.count (fields_of l.cells)) ≡ trimmed (fields_of l.cells);
}

abbrev pub decreases-loop-count : goal.decreases-loop-count
decreases-loop-count l = l.count
