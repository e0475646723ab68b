use Rattle.std.proofs.Common.{◌≡◌, drop}
use Rattle.twp_suggest.specs.Repeats.{is_without}
use Rattle.twp_suggest.proofs.last_land.is_without.Given as goal

-- the rest decides
abbrev pub invariant-loop-index : goal.invariant-loop-index
invariant-loop-index l = is_without l.word l.text ≡ is_without l.word (drop l.index l.text)
