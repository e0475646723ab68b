use Rattle.std.proofs.Common.{arith, sym}
use Rattle.twp_rules.proofs.SameTexts.{begins_when}
use Rattle.twp_rules.proofs.same.begins_with.Goals as goal

pub returns : goal.returns
returns c =
    begins_when c.is_text.result c.args.seen.now c.args.front.now _ (omega arith)
    (sym c.split_at.ensures.front) c.is_text.ensures
