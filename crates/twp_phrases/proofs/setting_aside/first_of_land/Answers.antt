-- One more phrase can be set aside.
use Rattle.std.proofs.Common.{sym, ◌∙◌}
use Rattle.twp_phrases.proofs.SetAsideFacts.{one_more}
use Rattle.twp_phrases.proofs.setting_aside.first_of_land.Goals as goal

pub loop-index-preserved : goal.loop-index-preserved
loop-index-preserved c =
    one_more c.args.phrases.now c.loop-index.index _ c.loop-index-test.true
    (sym c.is_remark.ensures ∙ c.if-not-is_remark.false) c.loop-index.invariant
