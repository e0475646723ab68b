use Rattle.std.proofs.Common.{◌≡◌, ◌++◌}
use Rattle.twp_suggest.specs.Excepting.{blanks}
use Rattle.twp_suggest.proofs.meaning.kept.add_blanks.Given as goal

-- as many blanks were added
abbrev pub invariant-loop-index : goal.invariant-loop-index
invariant-loop-index l = l.text.items ≡ l.fn.text.items ++ blanks l._index
