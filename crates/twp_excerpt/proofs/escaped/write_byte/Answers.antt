-- `\x`, and two digits.
use Rattle.std.proofs.Common.{ℕ, List, ◌∷◌, [], ◌/◌, ◌%◌}
use Rattle.twp_excerpt.specs.Signs.{hex_digit}
use Rattle.twp_excerpt.proofs.AddingFacts.{adding_failed, adding_then}
use Rattle.twp_excerpt.proofs.escaped.write_byte.Goals as goal

abbrev front : List ℕ
front = 92 ∷ 120 ∷ []

abbrev digit : ℕ → List ℕ
digit value = hex_digit value ∷ []

abbrev both : ℕ → List ℕ
both byte = hex_digit (byte / 16) ∷ hex_digit (byte % 16) ∷ []

pub returns-in_err-push_printable : goal.returns-in_err-push_printable
returns-in_err-push_printable c =
    adding_failed front (both c.args.byte) _ _ _ _ c.from_residual.ensures.0 c.push_printable.ensures.added

pub returns-in_err-push_hex_digit : goal.returns-in_err-push_hex_digit
returns-in_err-push_hex_digit c =
    adding_then front (both c.args.byte) _ _ _ _ c.in_ok-push_printable.ensures.added.whole
    (adding_failed (digit (c.args.byte / 16)) (digit (c.args.byte % 16)) _ _ _ _
    c.from_residual-in_err-push_hex_digit.ensures.0 c.push_hex_digit.ensures)

pub returns : goal.returns
returns c =
    adding_then front (both c.args.byte) _ _ _ _ c.in_ok-push_printable.ensures.added.whole
    (adding_then (digit (c.args.byte / 16)) (digit (c.args.byte % 16)) _ _ _ _
    c.in_ok-push_hex_digit.ensures.whole
    c.push_hex_digit-2.ensures)
