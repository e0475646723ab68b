use Rattle.std.proofs.Common.{◌≤◌, ◌-◌, List, drop, length}
use Rattle.twp_grammar.specs.declared.item.Item.{Item}
use Rattle.twp_read.proofs.ReaderFacts.{Front}
use Rattle.twp_suggest.proofs.meaning.clear.goes_wrong.Given as goal

-- the tokens so far led here, with some items
abbrev pub invariant-loop-token : goal.invariant-loop-token
invariant-loop-token l =
    (l.at ≤ length l.text) × (items : List Item) × Front l.text l.at (drop l.at l.text) l.state items

abbrev pub decreases-loop-token : goal.decreases-loop-token
decreases-loop-token l = length l.text - l.at
