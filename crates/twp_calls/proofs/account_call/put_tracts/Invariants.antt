use Rattle.std.proofs.Common.{◌≡◌, length, take}
use Rattle.std.specs.List.{All, SameFrom, flat_map}
use Rattle.twp_answers.specs.AccountFigures.{line_of as figure_line}
use Rattle.twp_calls.specs.Accounts.{HasEndedName, line_of}
use Rattle.twp_calls.specs.steps.Plain.{ArePlainTractsTo}
use Rattle.twp_calls.proofs.account_call.put_tracts.Given as goal

-- the tracts so far were put there
abbrev pub invariant-loop-index : goal.invariant-loop-index
invariant-loop-index l = record {
  length_is : length l.tracts ≡ length l.fn.tracts;
  lines : flat_map line_of (take l.index l.tracts)
      ≡ flat_map figure_line (take l.index l.figures);
  plain : ArePlainTractsTo l.index l.figures l.tracts;
  ended : All HasEndedName (take l.index l.tracts);
  kept : SameFrom l.fn.tracts l.tracts l.index;
}
