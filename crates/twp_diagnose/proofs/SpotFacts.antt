-- Two offsets that are one place of a file, over plain values.
use Rattle.std.proofs.Common.{◌≡◌, ◌≤◌, ◌+◌, ℕ, Option, Some, None, subst}
use Rattle.twp_excerpt.specs.Spots.{line_of, column_of}
use Rattle.twp_excerpt.specs.declared.spot.Spot.{Spot}
use Rattle.twp_diagnose.specs.Spots.{in_file, IsSpotIn, IsSpotAt}
use Rattle.twp_diagnose.specs.declared.location.Given.{Given}

pub same_spot : (file : Given) (at at' : ℕ) (spot : Spot) → in_file file at ≡ in_file file at'
    → IsSpotIn file at spot → IsSpotIn file at' spot
same_spot file at at' spot same is = record {
  line =
      subst (λ n. line_of file.bytes.now n + file.first_line ≤ 4294967295
      → spot.line + 1 ≡ line_of file.bytes.now n + file.first_line) same is.line;
  column = subst (λ n. spot.column ≡ column_of file.bytes.now n) same is.column;
}

pub same_spot_at : (file : Given) (at at' : ℕ) (spot : Option Spot) → in_file file at ≡ in_file file at'
    → IsSpotAt file at spot → IsSpotAt file at' spot
same_spot_at file at at' None same is = is
same_spot_at file at at' (Some spot) same is = same_spot file at at' spot same is
