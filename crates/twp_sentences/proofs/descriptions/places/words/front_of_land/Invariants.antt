use Rattle.std.proofs.Common.{length, ◌≤◌}
use Rattle.twp_sentences.proofs.descriptions.places.words.front_of_land.Given as goal

abbrev pub invariant-loop-index : goal.invariant-loop-index
invariant-loop-index l = l.front ≤ length l.land
