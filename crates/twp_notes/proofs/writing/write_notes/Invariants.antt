use Rattle.twp_notes.proofs.TextFacts.{IsWrittenTo}
use Rattle.twp_notes.proofs.writing.write_notes.Given as goal

-- the lines so far were written
abbrev pub invariant-loop-index : goal.invariant-loop-index
invariant-loop-index l = record { written : IsWrittenTo l.notes l.index l.fn.out.items l.out.items }
