use Rattle.std.proofs.Common.{◌≡◌, drop}
use Rattle.twp_suggest.specs.Descriptions.{without_first_line}
use Rattle.twp_suggest.proofs.meaning.wording.without_first_line.Given as goal

-- the first line ends in the rest
abbrev pub invariant-loop-index : goal.invariant-loop-index
invariant-loop-index l = without_first_line l.text ≡ without_first_line (drop l.index l.text)
