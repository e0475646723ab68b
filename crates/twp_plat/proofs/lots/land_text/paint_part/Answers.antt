-- Whether one more part is painted.
use Rattle.std.proofs.Common.{◌≡◌, ◌∷◌, [], refl, subst}
use Rattle.twp_plat.proofs.lots.PaintedParts.{painted_more, shared_last, shared_more, fine_more}
use Rattle.twp_plat.proofs.lots.PaintedParts.{too_fine_more, too_fine_last}
use Rattle.twp_plat.proofs.lots.land_text.paint_part.Goals as goal

pub returns-in_default : goal.returns-in_default
returns-in_default c = λ parts old so_far. too_fine_last parts c.args.steps.now c.in_default.ensures

pub returns-then-paint : goal.returns-then-paint
returns-then-paint c = λ parts old so_far.
    painted_more c.args.section parts c.args.steps.now c.args.mark old c.args.marks.now.sections
    c.paint.new.self.sections c.requires (rw c.in-Painted.is at so_far) c.in-Some.ensures.0
    (rw c.in-Some.ensures.1 at (c.if-paint.ensures.painted refl)) c.if-paint.ensures.others

pub returns-else-paint : goal.returns-else-paint
returns-else-paint c = λ parts old so_far.
    let painted = rw c.in-Painted.is at so_far in (
      fine_more parts c.args.steps.now painted.fine c.in-Some.ensures.0,
      shared_last c.args.section parts c.args.steps.now c.args.mark old c.args.marks.now.sections painted
          c.in-Some.ensures.0 (rw c.in-Some.ensures.1 at (c.if-paint.ensures.taken refl)),
    )

pub returns-in-Shared : goal.returns-in-Shared
returns-in-Shared c = λ parts old so_far.
    let shared = rw c.in-Shared.is at so_far in (
      fine_more parts c.args.steps.now shared.0 c.in-Some.ensures.0,
      shared_more c.args.section parts c.args.steps.now old shared.1,
    )

pub returns-in-TooFine : goal.returns-in-TooFine
returns-in-TooFine c = λ parts old so_far.
    too_fine_more parts c.args.steps.now (rw c.in-TooFine.is at so_far)
