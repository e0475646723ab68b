-- Place by place, the parts of the square are written.
use Rattle.std.proofs.Common.{◌∷◌, arith}
use Rattle.twp_grid.specs.Places.{PLACE_DIGITS}
use Rattle.twp_spell.proofs.WritingFacts.{quarters_added}
use Rattle.twp_spell.proofs.fine_parts.push_single_places.Goals as goal

pub returns-clause-parts : goal.returns-clause-parts
returns-clause-parts c = λ held quarters level path_is short are none.
    quarters_added PLACE_DIGITS held (c.args.outer ∷ quarters) c.args.buffer.now
    c.push_single_place.new.buffer c.push_single_place-2.new.buffer c.push_single_place-3.new.buffer
    c.push_single_place-4.new.buffer
    (omega (arith, level)) short
    (c.push_single_place.ensures.parts held quarters level path_is short are none)
    (c.push_single_place-2.ensures.parts held quarters level path_is short are none)
    (c.push_single_place-3.ensures.parts held quarters level path_is short are none)
    (c.push_single_place-4.ensures.parts held quarters level path_is short are none)
