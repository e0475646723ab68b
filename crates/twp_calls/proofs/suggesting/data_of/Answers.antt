use Rattle.twp_calls.specs.Suggestions.{rooms}
use Rattle.twp_calls.proofs.SuggestionFacts.{next_reading}
use Rattle.std.proofs.Common.{subst}
use Rattle.twp_calls.specs.steps.Suggesting.{IsReadingAdded}
use Rattle.twp_calls.proofs.suggesting.data_of.Goals as goal

pub loop-reading-preserved : goal.loop-reading-preserved
loop-reading-preserved c =
    let old = rooms c.loop-reading.made.items c.loop-reading.changes.items c.loop-reading.bytes.items in
    let new =
    rooms c.add_reading.new.readings.items c.add_reading.new.changes.items c.add_reading.new.bytes.items in
    next_reading c.args.text.now c.args.readings.now c.loop-reading.reading-index c.reading-item.result old
    new
    c.loop-reading-test.true c.loop-reading.invariant
    (subst (λ reading. IsReadingAdded c.args.text.now reading old new) c.reading-item.is
    c.in_ok-add_reading.ensures)
