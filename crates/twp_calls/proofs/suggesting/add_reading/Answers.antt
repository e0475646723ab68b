use Rattle.twp_calls.specs.Suggestions.{rooms}
use Rattle.twp_calls.specs.steps.Suggesting.{AreChangesAdded}
use Rattle.twp_calls.proofs.SuggestionFacts.{reading_added}
use Rattle.std.proofs.Common.{rules, subst}
use Rattle.twp_calls.proofs.suggesting.add_reading.Goals as goal

pub returns : goal.returns
returns c =
    reading_added c.args.text.now c.args.reading.now
    (rooms c.args.readings.now.items c.args.changes.now.items c.args.bytes.now.items)
    (rooms c.push.new.self.items c.add_changes.new.changes.items c.add_changes.new.bytes.items) (record {
      text = c.len-start.result;
      text_length = c.len.result;
      changes = c.len-first.result;
      changes_length = c.len-2.result;
      manner = c.manner_number.result;
      reserved = 0;
    })
    c.extend_from_slice.new.self.items (search rules)
    (subst
    (λ list. AreChangesAdded c.args.text.now list c.args.changes.now.items c.add_changes.new.changes.items
    c.extend_from_slice.new.self.items c.add_changes.new.bytes.items) c.as_slice-2.ensures.value
    c.in_ok-add_changes.ensures)
    (search rules) (search rules) (search rules) (search rules) (search rules) (search rules) (search rules)
