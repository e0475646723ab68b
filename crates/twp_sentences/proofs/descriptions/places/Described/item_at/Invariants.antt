use Rattle.std.proofs.Common.{◌≡◌, ◌≢◌, ℕ, ◌<◌, Some, slice_get}
use Rattle.twp_grammar.specs.declared.item.Item.{Item}
use Rattle.twp_resolve.specs.PlaceFaults.{start_of}
use Rattle.twp_sentences.proofs.descriptions.places.Described.item_at.Given as goal

-- none of the items so far begins there
abbrev pub invariant-loop-item : goal.invariant-loop-item
invariant-loop-item g l = (index : ℕ) (other : Item) → index < l.item-index
    → slice_get l.item-items index ≡ Some other → start_of other ≢ l.at
