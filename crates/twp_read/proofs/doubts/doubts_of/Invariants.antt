use Rattle.std.proofs.Common.{drop, length, map, ◌≤◌, ◌<◌}
use Rattle.twp_grammar.specs.Tokens.{seen}
use Rattle.twp_read.specs.Doubts.{doubts}
use Rattle.twp_read.proofs.DoubtFacts.{AreFound}
use Rattle.twp_read.proofs.doubts.doubts_of.Given as goal

-- the places of the tokens from here on were found
abbrev pub invariant-loop-index : goal.invariant-loop-index
invariant-loop-index l = record {
  found : AreFound (doubts (drop l.index (map seen l.tokens))) l.found;
  within : l.index ≤ length l.tokens;
  small : length l.tokens < 18446744073709551616;
}

abbrev pub decreases-loop-index : goal.decreases-loop-index
decreases-loop-index l = l.index
