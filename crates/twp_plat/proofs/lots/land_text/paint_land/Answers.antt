-- The tokens of a record's land lead on, or show that it is no sequence of parts.
use Rattle.std.proofs.Common.{◌≡◌, None, Some, [], ◌∷◌, ◌++◌, refl, sym, ◌∙◌}
use Rattle.twp_plat.proofs.lots.LandReading.{AreLandSteps, none_read, one_read, not_parts, not_ended}
use Rattle.twp_plat.proofs.lots.LandReading.{all_read}
use Rattle.twp_plat.proofs.lots.LandReading.{parted, continued}
use Rattle.twp_plat.proofs.lots.PaintedParts.{none_painted}
use Rattle.twp_plat.proofs.lots.land_text.paint_land.Goals as goal
use Rattle.twp_plat.proofs.lots.land_text.paint_land.Goals.{then-ends_part}
use Rattle.twp_plat.proofs.lots.land_text.paint_land.Goals.{else-ends_part+in-Some-step_of+in_ok-push}
use Rattle.twp_plat.proofs.lots.land_text.paint_land.Goals.{else-ends_part+in_default-step_of}

pub tokens-init : goal.tokens-init
tokens-init c = rw c.none-steps.ensures (record {
  parts = [];
  read = none_read c.args.text.now;
  painted = none_painted c.args.section c.args.mark c.args.marks.now.sections;
})

pub returns-in_default-after-clause-fault : goal.returns-in_default-after-clause-fault
returns-in_default-after-clause-fault c = λ parts are.
    not_parts c.args.text.now _ _ _ _ _ c.tokens.invariant.read c.in-Some.ensures
    (sym c.in_default-after.ensures) parts are

pub tokens-preserved : goal.tokens-preserved
tokens-preserved c =
    let read =
    one_read c.args.text.now _ _ _ _ _ _ c.tokens.invariant.read c.in-Some.ensures
    (sym c.in-Some-after.ensures) in
    elim c.if-ends_part.branch [
      | then-ends_part w ↦ rw (w.steps-is, w.painting-is, w.marks-is) (record {
        parts = c.tokens.invariant.parts ++ c.tokens.steps ∷ [];
        read =
            rw w.none-steps-then-ends_part.ensures
            (parted c.args.text.now _ _ _ _ _ _ read (sym c.ends_part.ensures ∙ w.if-ends_part.true));
        painted = w.paint_part-painting.ensures _ _ c.tokens.invariant.painted;
      })
      | else-ends_part+in-Some-step_of+in_ok-push w ↦ rw (w.steps-is, w.painting-is, w.marks-is) (record {
        parts = c.tokens.invariant.parts;
        read =
            rw w.in_ok-push.ensures.added
            (continued c.args.text.now _ _ _ _ _ _ _ read (sym c.ends_part.ensures ∙ w.if-ends_part.false)
            (sym w.in-Some-step_of.ensures));
        painted = c.tokens.invariant.painted;
      })
      | else-ends_part+in_default-step_of w ↦ rw (w.steps-is, w.painting-is, w.marks-is) (record {
        parts = c.tokens.invariant.parts;
        read =
            continued c.args.text.now _ _ _ _ _ _ _ read (sym c.ends_part.ensures ∙ w.if-ends_part.false)
            (sym w.in_default-step_of.ensures);
        painted = c.tokens.invariant.painted;
      })
    ]

pub returns-in-Painted-clause-painted : goal.returns-in-Painted-clause-painted
returns-in-Painted-clause-painted c = (
  _,
  all_read c.args.text.now _ _ _ _ c.tokens.invariant.read c.in_default.ensures c.in-Step.is,
  c.in-Painted.ensures _ _ c.tokens.invariant.painted,
)

pub returns-in-Shared-clause-fault : goal.returns-in-Shared-clause-fault
returns-in-Shared-clause-fault c = (
  _,
  all_read c.args.text.now _ _ _ _ c.tokens.invariant.read c.in_default.ensures c.in-Step.is,
  (c.in-Shared.ensures _ _ c.tokens.invariant.painted).0,
  (c.in-Shared.ensures _ _ c.tokens.invariant.painted).1,
)

pub returns-clause-fault : goal.returns-clause-fault
returns-clause-fault c = (
  _,
  all_read c.args.text.now _ _ _ _ c.tokens.invariant.read c.in_default.ensures c.in-Step.is,
  c.in-TooFine.ensures _ _ c.tokens.invariant.painted,
)

pub returns-in_default-reached : goal.returns-in_default-reached
returns-in_default-reached c = record {
  painted = tt;
  fault = λ parts are.
      not_ended c.args.text.now _ _ _ _ c.tokens.invariant.read c.in_default.ensures
      c.in_default-reached.not-Step parts are;
}
