-- One division more.
use Rattle.twp_suggest.proofs.meaning.ExceptingFacts.{last_division, next_division, none_so_far}
use Rattle.twp_suggest.proofs.meaning.kept.divide.Goals as goal

pub divisions-init : goal.divisions-init
divisions-init c =
    rw (c.in_ok-whole.ensures.items, c.in_ok-excepted.ensures.items) (none_so_far c.args.made.now)

pub returns-in_default : goal.returns-in_default
returns-in_default c =
    last_division c.args.made.now c.divisions.rest.now c.divisions.whole.items c.add_division.new.whole.items
    c.divisions.excepted.items c.add_division.new.excepted.items c.first_division-division.result.text.now
    c.divisions.mark c.in_ok-mark.mark c.divisions.invariant c.in_ok-mark.ensures
    (rw c.in_default.is at c.first_division-division.ensures.rest)

pub divisions-preserved : goal.divisions-preserved
divisions-preserved c =
    rw (c.in_ok-push.ensures.items, c.in_ok-push-2.ensures.items)
    (next_division c.args.made.now c.divisions.rest.now c.in-Some.more.now c.divisions.whole.items
    c.add_division.new.whole.items c.divisions.excepted.items c.add_division.new.excepted.items
    c.first_division-division.result.text.now c.divisions.mark c.in_ok-mark.mark c.divisions.invariant
    c.in_ok-mark.ensures (rw c.in-Some.is at c.first_division-division.ensures.rest))
