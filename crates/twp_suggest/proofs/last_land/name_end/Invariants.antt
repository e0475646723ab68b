use Rattle.std.proofs.Common.{◌≡◌, ◌+◌, drop}
use Rattle.twp_suggest.specs.Repeats.{name_end}
use Rattle.twp_suggest.proofs.last_land.name_end.Given as goal

-- the name goes on in the rest
abbrev pub invariant-loop-index : goal.invariant-loop-index
invariant-loop-index l = name_end l.text ≡ l.index + name_end (drop l.index l.text)
