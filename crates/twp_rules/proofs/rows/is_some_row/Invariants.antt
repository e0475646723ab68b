use Rattle.std.proofs.Common.{◌≡◌, drop}
use Rattle.std.specs.List.{list_any}
use Rattle.twp_rules.specs.Rules.{is_entry}
use Rattle.twp_rules.specs.steps.Rows.{entry_of}
use Rattle.twp_rules.proofs.rows.is_some_row.Given as goal

-- the rest decides
abbrev pub invariant-loop-row : goal.invariant-loop-row
invariant-loop-row g l =
    list_any (λ row. is_entry l.fn.seen l.fn.written (entry_of row)) (drop l.row-index l.rows)
    ≡ list_any (λ row. is_entry l.fn.seen l.fn.written (entry_of row)) l.rows
