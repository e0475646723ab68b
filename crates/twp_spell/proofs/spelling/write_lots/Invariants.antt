use Rattle.std.proofs.Common.{◌≡◌, ◌++◌, ◌≤◌, length}
use Rattle.std.proofs.Math.ListN.{take}
use Rattle.twp_spell.proofs.SpellingFacts.{lead_of, numbers_text}
use Rattle.twp_spell.proofs.spelling.write_lots.Given as goal

-- the numbers of the lots so far were written
abbrev pub invariant-loop-index : goal.invariant-loop-index
invariant-loop-index l = record {
  written : l.text.items ≡ l.fn.text.items ++ (lead_of (length l.lots) ++ numbers_text (take l.index l.lots));
  within : l.index ≤ length l.lots;
  first : 1 ≤ l.index;
}
