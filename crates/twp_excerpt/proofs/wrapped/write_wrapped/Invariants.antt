use Rattle.std.proofs.Common.{string_bytes}
use Rattle.twp_excerpt.specs.Shown.{AddsLines}
use Rattle.twp_excerpt.proofs.wrapped.write_wrapped.Given as goal

abbrev pub invariant-loop-word : goal.invariant-loop-word
invariant-loop-word l = AddsLines (string_bytes l.initial.out) (string_bytes l.out)
