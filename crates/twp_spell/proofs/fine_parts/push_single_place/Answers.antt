-- If no half is full, a place is written as a quarter or not at all.
use Rattle.std.proofs.Common.{◌∷◌, ◌++◌, sym, ap, ◌∙◌, arith}
use Rattle.twp_spell.specs.CanonicalText.{step_text}
use Rattle.twp_grammar.specs.declared.item.Step.TheVariants.{Quarter}
use Rattle.std.proofs.lemmas.Bool.{false≢true}
use Rattle.twp_grid.specs.Places.{PLACE_DIGITS}
use Rattle.twp_spell.proofs.DescentLists.{of_empty}
use Rattle.twp_spell.proofs.HalfQuarters.{off_all}
use Rattle.twp_spell.proofs.SquareBlocks.{finest_empty}
use Rattle.twp_spell.proofs.WritingFacts.{full_added, none_written}
use Rattle.twp_spell.proofs.fine_parts.push_single_place.Goals as goal

pub returns-then-at-clause-parts : goal.returns-then-at-clause-parts
returns-then-at-clause-parts c = λ held quarters level path_is short are none.
    full_added PLACE_DIGITS held (c.args.outer ∷ quarters) c.args.corner
    (step_text (Quarter c.args.outer) ++ c.args.path.now) c.args.buffer.now c.push_inner.new.self
    (ap (λ path. step_text (Quarter c.args.outer) ++ path) path_is) short
    (off_all PLACE_DIGITS held (c.args.outer ∷ quarters) c.args.full c.args.corner (omega (arith, level))
    none are short)
    ((are c.args.corner).0 (sym c.at.ensures ∙ c.if-at.true)) c.push_inner.ensures.text

pub returns-clause-parts : goal.returns-clause-parts
returns-clause-parts c = λ held quarters level path_is short are none.
    none_written PLACE_DIGITS held (c.args.outer ∷ quarters) c.args.corner c.args.buffer.now
    (off_all PLACE_DIGITS held (c.args.outer ∷ quarters) c.args.full c.args.corner (omega (arith, level))
    none are short)
    (of_empty PLACE_DIGITS held (c.args.corner ∷ (c.args.outer ∷ quarters)) (omega (arith, level))
    (finest_empty PLACE_DIGITS held (c.args.corner ∷ (c.args.outer ∷ quarters)) (omega (arith, level))
    (λ full. false≢true (sym c.if-at.false ∙ c.at.ensures ∙ (are c.args.corner).1 full))))
