-- A division without an exception is added, or one with it.
use Rattle.twp_suggest.proofs.meaning.ExceptingFacts.{exception_added, land_added}
use Rattle.twp_suggest.proofs.meaning.kept.add_division.Goals as goal

pub returns-in_ok-add_exception-in-Some : goal.returns-in_ok-add_exception-in-Some
returns-in_ok-add_exception-in-Some c =
    exception_added c.args.text.now c.args.mark c.args.whole.now.items c.add_exception.new.whole.items
    c.args.excepted.now.items c.add_exception.new.excepted.items c.in-Some.parts.whole.now
    c.in-Some.parts.excepted.now c.requires c.in-Some.ensures c.in_ok-add_exception-in-Some.ensures.whole
    c.in_ok-add_exception-in-Some.ensures.excepted

pub returns-in_ok-add_land-in-None : goal.returns-in_ok-add_land-in-None
returns-in_ok-add_land-in-None c =
    land_added c.args.text.now c.args.mark c.args.whole.now.items c.add_land.new.whole.items
    c.args.excepted.now.items c.add_land.new.excepted.items c.requires c.in-None.ensures
    c.in_ok-add_land-in-None.ensures.whole (c.in_ok-add_land-in-None.ensures.excepted c.args.mark)
