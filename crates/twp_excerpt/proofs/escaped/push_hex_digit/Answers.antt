-- A digit is printable ASCII.
use Rattle.std.proofs.Common.{◌∷◌, [], subst}
use Rattle.std.specs.Prelude.{string_bytes}
use Rattle.twp_excerpt.specs.Signs.{Adding}
use Rattle.twp_excerpt.proofs.ShownFacts.{shown_low}
use Rattle.twp_excerpt.proofs.escaped.push_hex_digit.Goals as goal

pub push_shown-requires : goal.push_shown-requires
push_shown-requires c =
    shown_low c.digit_character.result c.digit_character.ensures.printable.0
    c.digit_character.ensures.printable.1

pub returns : goal.returns
returns c =
    subst
    (λ d.
    Adding (d ∷ []) c.push_shown.result (string_bytes c.args.out.now) (string_bytes c.push_shown.new.out))
    c.digit_character.ensures.value
    c.push_shown.ensures.added
