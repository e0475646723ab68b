-- `\u{`, the digits, and `}`.
use Rattle.std.proofs.Common.{ℕ, List, ◌∷◌, [], ◌++◌, true}
use Rattle.std.specs.Fmt.{digits}
use Rattle.twp_excerpt.proofs.AddingFacts.{adding_failed, adding_then}
use Rattle.twp_excerpt.proofs.escaped.write_code.Goals as goal

abbrev front : List ℕ
front = 92 ∷ 117 ∷ 123 ∷ []

abbrev rest : ℕ → List ℕ
rest code = digits 16 true code ++ 125 ∷ []

pub returns-in_err-push_printable : goal.returns-in_err-push_printable
returns-in_err-push_printable c =
    adding_failed front (rest c.args.character) _ _ _ _ c.from_residual.ensures.0
    c.push_printable.ensures.added

pub returns-in_err-write_hex : goal.returns-in_err-write_hex
returns-in_err-write_hex c =
    adding_then front (rest c.args.character) _ _ _ _ c.in_ok-push_printable.ensures.added.whole
    (adding_failed (digits 16 true c.args.character) (125 ∷ []) _ _ _ _
    c.from_residual-in_err-write_hex.ensures.0 c.write_hex.ensures)

pub returns : goal.returns
returns c =
    adding_then front (rest c.args.character) _ _ _ _ c.in_ok-push_printable.ensures.added.whole
    (adding_then (digits 16 true c.args.character) (125 ∷ []) _ _ _ _ c.in_ok-write_hex.ensures.whole
    c.push_printable-2.ensures.added)
