-- Quarter by quarter, the parts of the square are written, each on its own if no half is full.
use Rattle.std.proofs.Common.{sym, ◌∙◌, arith}
use Rattle.twp_grid.specs.Places.{PLACE_DIGITS}
use Rattle.twp_spell.proofs.HalfQuarters.{no_choice}
use Rattle.twp_spell.proofs.WritingFacts.{quarters_added}
use Rattle.twp_spell.proofs.fine_parts.push_fine_square.Goals as goal

pub returns-then-has_half : goal.returns-then-has_half
returns-then-has_half c = λ held quarters level path_is short full ne nw sw se.
    quarters_added PLACE_DIGITS held quarters c.args.buffer.now c.push_quarter_of.new.buffer
    c.push_quarter_of-then-has_half.new.buffer c.push_quarter_of-then-has_half-2.new.buffer
    c.push_quarter_of-then-has_half-3.new.buffer
    (omega (arith, level)) short
    (c.push_quarter_of.ensures.parts held quarters level path_is short full ne)
    (c.push_quarter_of-then-has_half.ensures.parts held quarters level path_is short full nw)
    (c.push_quarter_of-then-has_half-2.ensures.parts held quarters level path_is short full sw)
    (c.push_quarter_of-then-has_half-3.ensures.parts held quarters level path_is short full se)

pub returns : goal.returns
returns c = λ held quarters level path_is short full ne nw sw se.
    let none = no_choice c.args.full (sym c.has_half.ensures ∙ c.if-has_half.false) in
    quarters_added PLACE_DIGITS held quarters c.args.buffer.now c.push_single_quarter.new.buffer
    c.push_single_quarter-2.new.buffer c.push_single_quarter-3.new.buffer c.push_single_quarter-4.new.buffer
    (omega (arith, level)) short
    (c.push_single_quarter.ensures.parts held quarters level path_is short full none ne)
    (c.push_single_quarter-2.ensures.parts held quarters level path_is short full none nw)
    (c.push_single_quarter-3.ensures.parts held quarters level path_is short full none sw)
    (c.push_single_quarter-4.ensures.parts held quarters level path_is short full none se)
