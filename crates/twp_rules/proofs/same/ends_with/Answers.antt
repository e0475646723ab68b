use Rattle.std.proofs.Common.{arith, sym}
use Rattle.twp_rules.proofs.SameTexts.{ends_when}
use Rattle.twp_rules.proofs.same.ends_with.Goals as goal

pub returns : goal.returns
returns c =
    ends_when c.is_text.result c.args.seen.now c.args.end.now _ (omega arith) (sym c.split_at.ensures.back)
    c.is_text.ensures
