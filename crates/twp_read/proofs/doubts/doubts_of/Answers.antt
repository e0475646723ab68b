-- One more token is looked at.
use Rattle.std.proofs.Common.{◌<◌, ◌≤◌, ◌-◌, arith, length}
use Rattle.twp_read.proofs.DoubtFacts.{all_from, next_found, next_none, room_left}
use Rattle.twp_read.proofs.doubts.doubts_of.Goals as goal

pub count_of-requires : goal.count_of-requires
count_of-requires c =
    let some : 0 < c.loop-index.index = c.loop-index-test.true in
    let small : length c.args.tokens.now < 18446744073709551616 = c.loop-index.invariant.small in
    let left : length c.args.tokens.now - c.loop-index.index < 18446744073709551615 = omega arith in
    room_left c.args.tokens.now c.loop-index.index c.loop-index.found 18446744073709551615 left
    c.loop-index.invariant.found

pub loop-index-preserved-in-Some : goal.loop-index-preserved-in-Some
loop-index-preserved-in-Some c =
    let some : 0 < c.loop-index.index = c.loop-index-test.true in
    let within : c.loop-index.index ≤ length c.args.tokens.now = c.loop-index.invariant.within in
    record {
      found = next_found c.args.tokens.now c.loop-index.index c.loop-index.found c.in-Some.first
          c.count_of.result some within c.loop-index.invariant.found
          (all_from c.args.tokens.now (c.loop-index.index - 1) _ c.in-Some.ensures) c.count_of.ensures;
      within = omega arith;
      small = c.loop-index.invariant.small;
    }

pub loop-index-preserved : goal.loop-index-preserved
loop-index-preserved c =
    let some : 0 < c.loop-index.index = c.loop-index-test.true in
    let within : c.loop-index.index ≤ length c.args.tokens.now = c.loop-index.invariant.within in
    record {
      found = next_none c.args.tokens.now c.loop-index.index c.loop-index.found some within
          c.loop-index.invariant.found
          (all_from c.args.tokens.now (c.loop-index.index - 1) _ c.in_default.ensures);
      within = omega arith;
      small = c.loop-index.invariant.small;
    }
