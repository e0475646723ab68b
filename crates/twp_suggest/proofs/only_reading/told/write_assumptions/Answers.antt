use Rattle.twp_suggest.proofs.ToldFacts.{all_told}
use Rattle.twp_suggest.proofs.only_reading.told.write_assumptions.Goals as goal

pub returns : goal.returns
returns c =
    all_told c.args.text.now c.args.changes.now _ _ _ _ _ _ c.in_ok-write_assumption.ensures.said
    c.in_ok-write_assumption-2.ensures.said c.in_ok-write_assumption-2.ensures.more
    c.in_ok-write_assumption-3.ensures.said c.in_ok-write_assumption-3.ensures.more
    c.in_ok-write_assumption-4.ensures.said c.in_ok-write_assumption-4.ensures.more
    c.in_ok-write_assumption-5.ensures.said c.in_ok-write_assumption-5.ensures.more
    c.in_ok-write_assumption-6.ensures.said c.in_ok-write_assumption-6.ensures.more
