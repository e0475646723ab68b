use Rattle.std.proofs.Common.{◌≡◌, sym}
use Rattle.twp_suggest.proofs.ClosedFacts.{any_here}
use Rattle.twp_suggest.proofs.closed.have_text.Goals as goal

pub returns-then-has_text : goal.returns-then-has_text
returns-then-has_text c = λ _.
    any_here (λ reading. reading.text.items ≡ c.args.text.now) c.args.readings.now
    c.loop-reading.reading-index
    c.reading-item.result c.reading-item.result c.loop-reading-test.true (sym c.reading-item.is)
    (c.has_text.ensures.0 c.if-has_text.true)
