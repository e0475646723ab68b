use Rattle.std.proofs.Common.{◌≡◌, ◌≤◌, ℕ, List, ◌∷◌, true, length, ◌-◌}
use Rattle.twp_grammar.specs.declared.item.Item.{Item}
use Rattle.twp_grammar.specs.declared.item.Item.TheVariants.{Chain}
use Rattle.twp_grammar.specs.Machine.{is_in_chain}
use Rattle.twp_read.specs.steps.Usual.{Leads}
use Rattle.twp_read.proofs.usual.chain.take_row_of.Given as goal

-- the steps so far led here, wherever their chain begins and whatever is before it
abbrev pub invariant-loop-after : goal.invariant-loop-after
invariant-loop-after l =
    (l.reached.at ≤ length l.text)
    × (l.fn.from.at ≤ l.reached.at)
    × (is_in_chain l.reached.state ≡ true)
    × ((place : ℕ) (items : List Item)
    → Leads l.text l.fn.from.at l.fn.from.state (Chain l.fn.steps place ∷ items)
    l.reached.at l.reached.state (Chain l.steps place ∷ items))

abbrev pub decreases-loop-after : goal.decreases-loop-after
decreases-loop-after l = length l.text - l.reached.at
