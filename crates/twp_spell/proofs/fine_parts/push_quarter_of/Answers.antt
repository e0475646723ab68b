-- A quarter of a fine square is written as the half that it begins, or as a quarter, or by its places.
use Rattle.std.proofs.Common.{◌∷◌, sym, ◌∙◌, arith}
use Rattle.std.proofs.lemmas.Bool.{false≢true}
use Rattle.twp_grid.specs.Places.{PLACE_DIGITS}
use Rattle.twp_spell.proofs.HalfQuarters.{choice_made}
use Rattle.twp_spell.proofs.PathFacts.{path_of_quarter}
use Rattle.twp_spell.proofs.WritingFacts.{half_added, off_choice, choice_is, full_added, inner_added}
use Rattle.twp_spell.proofs.fine_parts.push_quarter_of.Goals as goal

pub returns-in-Some-clause-parts : goal.returns-in-Some-clause-parts
returns-in-Some-clause-parts c = λ held quarters level path_is short are are_places.
    let choice =
    choice_made PLACE_DIGITS held quarters c.args.full c.chosen_half.result (omega (arith, level))
    c.chosen_half.ensures are short in
    half_added PLACE_DIGITS held quarters c.in-Some.side c.args.corner c.args.path.now c.args.buffer.now
    c.push_half_if_first.new.buffer
    (choice_is PLACE_DIGITS held quarters c.chosen_half.result c.in-Some.side choice c.in-Some.ensures.0)
    c.in-Some.ensures.1 path_is c.push_half_if_first.ensures.first c.push_half_if_first.ensures.second

pub returns-then-at-clause-parts : goal.returns-then-at-clause-parts
returns-then-at-clause-parts c = λ held quarters level path_is short are are_places.
    let choice =
    choice_made PLACE_DIGITS held quarters c.args.full c.chosen_half.result (omega (arith, level))
    c.chosen_half.ensures are short in
    full_added PLACE_DIGITS held quarters c.args.corner c.args.path.now c.args.buffer.now
    c.push_quarter.new.self
    path_is short
    (off_choice PLACE_DIGITS held quarters c.chosen_half.result c.args.corner choice c.in_default.ensures)
    ((are c.args.corner).0 (sym c.at.ensures ∙ c.if-at.true)) c.push_quarter.ensures.text

pub returns-clause-parts : goal.returns-clause-parts
returns-clause-parts c = λ held quarters level path_is short are are_places.
    let choice =
    choice_made PLACE_DIGITS held quarters c.args.full c.chosen_half.result (omega (arith, level))
    c.chosen_half.ensures are short in
    inner_added PLACE_DIGITS held quarters c.args.corner c.args.buffer.now c.push_places.new.buffer
    (off_choice PLACE_DIGITS held quarters c.chosen_half.result c.args.corner choice c.in_default.ensures)
    (c.push_places.ensures.parts held (c.args.corner ∷ quarters) (omega (arith, level))
    (path_of_quarter c.args.corner quarters c.args.path.now c.quarter.result (omega (arith, level)) path_is
    c.quarter.ensures)
    (λ whole. false≢true (sym c.if-at.false ∙ c.at.ensures ∙ (are c.args.corner).1 whole)) are_places)
