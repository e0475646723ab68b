-- Past the last offsets, the phrases so far are all.
use Rattle.std.proofs.Common.{map, arith}
use Rattle.twp_calls.proofs.SetAsideCallFacts.{all_given}
use Rattle.twp_calls.proofs.setting_aside.phrases_between.Goals as goal

pub returns : goal.returns
returns c = (
  λ index within. c.loop-index.invariant.1 index (omega (arith, within, c.requires, c.loop-index-test.false)),
  all_given c.args.bytes.now c.args.offsets.now (map (λ phrase. phrase.now) c.loop-index.given.items)
      c.loop-index.index (omega (arith, c.requires, c.loop-index-test.false)) c.loop-index.invariant.0,
)
