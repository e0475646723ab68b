use Rattle.twp_rules.proofs.HeadFacts.{no_word, no_word_at}
use Rattle.twp_rules.proofs.rows.is_one_of.Goals as goal

pub returns-then-not-is_head : goal.returns-then-not-is_head
returns-then-not-is_head g c =
    no_word c.args.heads c.byte_or.result c.is_head.result c.args.word.now
    c.args.rows.now c.requires.heads c.byte_or.ensures
    c.is_head.ensures c.if-not-is_head.true

pub returns-then-not-is_head-2 : goal.returns-then-not-is_head-2
returns-then-not-is_head-2 g c =
    no_word_at 1 c.args.seconds c.byte_or-2.result c.is_head-2.result c.args.word.now
    c.args.rows.now c.requires.seconds c.byte_or-2.ensures c.is_head-2.ensures
    c.if-not-is_head-2.true

pub returns-then-not-is_head-3 : goal.returns-then-not-is_head-3
returns-then-not-is_head-3 g c =
    no_word_at 2 c.args.thirds c.byte_or-3.result c.is_head-3.result c.args.word.now
    c.args.rows.now c.requires.thirds c.byte_or-3.ensures c.is_head-3.ensures
    c.if-not-is_head-3.true
