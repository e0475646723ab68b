-- One land more was compared with those before it.
use Rattle.std.proofs.Common.{◌≡◌, length, arith}
use Rattle.twp_answers.proofs.OverlapFacts.{all_found, next_second, none_found}
use Rattle.twp_answers.proofs.overlaps.overlaps_of.Goals as goal

pub loop-second-init : goal.loop-second-init
loop-second-init g c =
    λ rows are. none_found (g.M.Measuring.measure c.args.by.now) rows _ c.new-overlaps.ensures.items

pub loop-second-preserved : goal.loop-second-preserved
loop-second-preserved g c = λ rows are.
    next_second (g.M.Measuring.measure c.args.by.now) rows c.loop-second.second _
    (c.in_ok-add_overlaps.ensures rows are (c.loop-second.invariant rows are))

pub returns : goal.returns
returns g c = λ rows are.
    let all : c.loop-second.second ≡ length rows = omega (arith, are.count_is) in
    all_found (g.M.Measuring.measure c.args.by.now) rows c.loop-second.second c.loop-second.overlaps.items all
    (c.loop-second.invariant rows are)
