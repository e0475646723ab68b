use Rattle.std.proofs.Common.{◌≡◌, drop}
use Rattle.std.specs.List.{list_any}
use Rattle.twp_rules.specs.Edges.{ends_with}
use Rattle.twp_rules.specs.steps.Rows.{end_of}
use Rattle.twp_rules.proofs.rows.has_some_end.Given as goal

-- the rest decides
abbrev pub invariant-loop-row : goal.invariant-loop-row
invariant-loop-row g l =
    list_any (λ row. ends_with l.fn.seen (end_of row)) (drop l.row-index l.rows)
    ≡ list_any (λ row. ends_with l.fn.seen (end_of row)) l.rows
