-- The half miles of a line, by which of the two it is.
use Rattle.std.specs.Prelude.{ℤ}
use Rattle.twp_notes.specs.declared.parsing.Returned.{Returned}
use Rattle.twp_plat.specs.Closing.{first_half, second_half}
use Rattle.twp_plat.specs.declared.fault.HalfMile.{HalfMile}
use Rattle.twp_plat.specs.declared.fault.HalfMile.TheVariants as half

-- a line's first or second half mile
abbrev pub half_mile_of : HalfMile → Returned → ℤ
half_mile_of half.First returned = first_half returned
half_mile_of half.Second returned = second_half returned
