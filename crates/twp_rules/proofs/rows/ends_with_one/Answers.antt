use Rattle.twp_rules.proofs.HeadFacts.{no_end}
use Rattle.twp_rules.proofs.rows.ends_with_one.Goals as goal

pub returns-then-not-is_head : goal.returns-then-not-is_head
returns-then-not-is_head g c =
    no_end c.args.ends c.to_ascii_lowercase-last.result c.last_byte.result c.is_head.result
    c.args.seen.now c.args.rows.now c.requires c.last_byte.ensures c.to_ascii_lowercase-last.ensures.value
    c.is_head.ensures c.if-not-is_head.true
