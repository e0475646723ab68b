use Rattle.twp_suggest.proofs.closed.have_land.Given as goal

abbrev pub invariant-loop-reading : goal.invariant-loop-reading
invariant-loop-reading g l = Unit {0}
