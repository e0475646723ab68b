-- A colon and the digits.
use Rattle.std.proofs.Common.{◌≡◌, ℕ, ◌^◌, ◌<◌, true, List, sym, subst, arith}
use Rattle.std.specs.Prelude.{codes, string_bytes}
use Rattle.std.specs.Fmt.{decimal}
use Rattle.std.specs.List.{list_all}
use Rattle.twp_excerpt.specs.Signs.{Adding}
use Rattle.twp_excerpt.specs.steps.Looks.{is_printable}
use Rattle.twp_excerpt.proofs.AddingFacts.{adding_failed, adding_then}
use Rattle.twp_excerpt.proofs.ShownFacts.{number_printable}
use Rattle.twp_excerpt.proofs.message.write_number.Goals as goal

pub push_printable-requires-2 : goal.push_printable-requires-2
push_printable-requires-2 c =
    let Prints : List ℕ → Type 0 = λ text. list_all is_printable text ≡ true in
    let small : c.args.number < 2 ^ 64 = omega arith in
    subst Prints (sym c.format.ensures.text) (number_printable c.args.number small)

pub returns-in_err-push_printable-clause-number : goal.returns-in_err-push_printable-clause-number
returns-in_err-push_printable-clause-number c =
    adding_failed (codes ":") (decimal c.args.number) _ _ _ _ c.from_residual.ensures.0
    c.push_printable.ensures.added

pub returns-clause-number : goal.returns-clause-number
returns-clause-number c =
    adding_then (codes ":") (decimal c.args.number) _ _ _ _ c.in_ok-push_printable.ensures.added.whole
    (subst
    (λ t.
    Adding t c.push_printable-2.result (string_bytes c.push_printable.new.out)
    (string_bytes c.push_printable-2.new.out))
    c.format.ensures.text
    c.push_printable-2.ensures.added)
