use Rattle.std.proofs.Common.{◌≡◌, ◌≤◌, ◌++◌, drop}
use Rattle.std.specs.Prelude.{slice_range}
use Rattle.twp_plat.specs.steps.CellCuts.{plain_from, plain_lines}
use Rattle.twp_plat.proofs.lots.sheet.write_lines.Given as goal

abbrev pub invariant-loop-at : goal.invariant-loop-at
invariant-loop-at l = record {
  order : l.start ≤ l.at;
  written : l.plain.items
      ++ plain_from l.separator l.unclosed (slice_range l.text l.start l.at) (drop l.at l.text)
      ≡ l.fn.plain.items ++ plain_lines l.text;
}
