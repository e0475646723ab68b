use Rattle.std.proofs.Common.{◌≡◌, drop}
use Rattle.std.specs.List.{list_any}
use Rattle.std.specs.Str.{str_to_ascii_lowercase}
use Rattle.twp_grammar.specs.Tokens.{same_bytes}
use Rattle.twp_rules.specs.steps.Rows.{front_of}
use Rattle.twp_rules.proofs.rows.is_some_word.Given as goal

-- the rest decides
abbrev pub invariant-loop-row : goal.invariant-loop-row
invariant-loop-row g l =
    list_any (λ row. same_bytes (str_to_ascii_lowercase l.fn.word) (front_of row)) (drop l.row-index l.rows)
    ≡ list_any (λ row. same_bytes (str_to_ascii_lowercase l.fn.word) (front_of row)) l.rows
