use Rattle.std.proofs.Common.{◌≡◌, ◌^◌, ◌<◌, take}
use Rattle.std.specs.Str.Parse.{digits_value}
use Rattle.twp_measure.proofs.numeral.numeral_value.Given as goal

-- the value so far is the number spelled by the digits so far
abbrev pub invariant-loop-byte : goal.invariant-loop-byte
invariant-loop-byte l =
    (l.value ≡ digits_value 10 (take l.byte-index l.digits)) × (l.value < 10 ^ l.byte-index)
