use Rattle.std.proofs.Common.{◌≡◌, ◌+◌, ◌==◌, ◌&&◌, get_or, ap, subst, sym, ◌∙◌, arith}
use Rattle.twp_land.specs.LotMarks.{all_below}
use Rattle.twp_land.proofs.DividingFacts.{all_next}
use Rattle.twp_land.proofs.dividing.are_all.Goals as goal

pub loop-within-preserved : goal.loop-within-preserved
loop-within-preserved c =
    let marks = c.args.marks.now in
    record {
      alike =
          ap
          (λ b. b && (get_or marks (c.args.first + c.loop-within.within) 0 == c.args.mark))
          c.loop-within.invariant.alike
          ∙ sym
          (all_next c.loop-within.within
          (λ n. get_or marks (c.args.first + n) 0 == c.args.mark));
    }

pub returns : goal.returns
returns c =
    let all : c.loop-within.within ≡ 64 = omega arith in
    subst
    (λ m.
    c.loop-within.alike
    ≡ all_below m
    (λ n. get_or c.args.marks.now (c.args.first + n) 0 == c.args.mark))
    all c.loop-within.invariant.alike
