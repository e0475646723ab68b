-- The last digit, after the other digits.
use Rattle.std.proofs.Common.{◌≡◌, ℕ, ◌∷◌, [], ◌/◌, ◌%◌, true, sym, subst, arith, List}
use Rattle.std.specs.Fmt.{digits}
use Rattle.std.specs.Prelude.{string_bytes}
use Rattle.twp_excerpt.specs.Signs.{Adding, hex_digit}
use Rattle.twp_excerpt.proofs.AddingFacts.{adding_failed, adding_then}
use Rattle.twp_excerpt.proofs.HexFacts.{hex_last, hex_step}
use Rattle.twp_excerpt.proofs.escaped.+write_hex.Goals as goal

pub returns-then-number-lt16 : goal.returns-then-number-lt16
returns-then-number-lt16 t c =
    let same : c.args.number % 16 ≡ c.args.number = omega (arith, c.if-number-lt16.true) in
    let AddsIt : List ℕ → Type 0 =
    λ text. Adding text c.push_hex_digit.result (string_bytes c.args.out.now)
    (string_bytes c.push_hex_digit.new.out) in
    subst AddsIt (sym (hex_last c.args.number c.if-number-lt16.true))
    (subst (λ n. AddsIt (hex_digit n ∷ [])) (sym same) c.push_hex_digit.ensures)

pub returns-in_err-write_hex : goal.returns-in_err-write_hex
returns-in_err-write_hex t c =
    subst
    (λ text.
    Adding text c.from_residual.result (string_bytes c.args.out.now) (string_bytes c.write_hex.new.out))
    (sym (hex_step c.args.number c.if-number-lt16.false (omega arith)))
    (adding_failed (digits 16 true (c.args.number / 16)) (hex_digit (c.args.number % 16) ∷ []) _ _ _ _
    c.from_residual.ensures.0
    c.write_hex.ensures)

pub returns : goal.returns
returns t c =
    subst
    (λ text.
    Adding text c.push_hex_digit-2.result (string_bytes c.args.out.now)
    (string_bytes c.push_hex_digit-2.new.out))
    (sym (hex_step c.args.number c.if-number-lt16.false (omega arith)))
    (adding_then (digits 16 true (c.args.number / 16)) (hex_digit (c.args.number % 16) ∷ []) _ _ _ _
    c.in_ok-write_hex.ensures.whole
    c.push_hex_digit-2.ensures)
