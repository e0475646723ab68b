-- If no half is full, a quarter of a fine square is written as a quarter or by its places.
use Rattle.std.proofs.Common.{◌∷◌, sym, ◌∙◌, arith}
use Rattle.std.proofs.lemmas.Bool.{false≢true}
use Rattle.twp_grid.specs.Places.{PLACE_DIGITS}
use Rattle.twp_spell.proofs.HalfQuarters.{no_choice, off_all}
use Rattle.twp_spell.proofs.PathFacts.{path_of_quarter}
use Rattle.twp_spell.proofs.WritingFacts.{full_added, inner_added}
use Rattle.twp_spell.proofs.fine_parts.push_single_quarter.Goals as goal

pub returns-then-at-clause-parts : goal.returns-then-at-clause-parts
returns-then-at-clause-parts c = λ held quarters level path_is short are none are_places.
    full_added PLACE_DIGITS held quarters c.args.corner c.args.path.now c.args.buffer.now
    c.push_quarter.new.self
    path_is short
    (off_all PLACE_DIGITS held quarters c.args.full c.args.corner (omega (arith, level)) none are short)
    ((are c.args.corner).0 (sym c.at.ensures ∙ c.if-at.true)) c.push_quarter.ensures.text

pub returns-then-has_half-clause-parts : goal.returns-then-has_half-clause-parts
returns-then-has_half-clause-parts c = λ held quarters level path_is short are none are_places.
    inner_added PLACE_DIGITS held quarters c.args.corner c.args.buffer.now c.push_places.new.buffer
    (off_all PLACE_DIGITS held quarters c.args.full c.args.corner (omega (arith, level)) none are short)
    (c.push_places.ensures.parts held (c.args.corner ∷ quarters) (omega (arith, level))
    (path_of_quarter c.args.corner quarters c.args.path.now c.quarter.result (omega (arith, level)) path_is
    c.quarter.ensures)
    (λ whole. false≢true (sym c.if-at.false ∙ c.at.ensures ∙ (are c.args.corner).1 whole)) are_places)

pub returns-clause-parts : goal.returns-clause-parts
returns-clause-parts c = λ held quarters level path_is short are none are_places.
    inner_added PLACE_DIGITS held quarters c.args.corner c.args.buffer.now c.push_single_places.new.buffer
    (off_all PLACE_DIGITS held quarters c.args.full c.args.corner (omega (arith, level)) none are short)
    (c.push_single_places.ensures.parts held quarters level path_is
    (λ whole. false≢true (sym c.if-at.false ∙ c.at.ensures ∙ (are c.args.corner).1 whole)) are_places
    (no_choice c.args.places (sym c.has_half.ensures ∙ c.if-has_half.false)))
