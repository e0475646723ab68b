-- Which tracts of a list share land.
use Rattle.std.specs.Prelude.{◌≡◌, ℕ, ◌-◌, ◌≤◌, ◌<◌, Bool, List}
use Rattle.twp_grid.specs.Townships.{Designation}
use Rattle.twp_grid.specs.Lands.{intersection}
use Rattle.twp_notes.specs.Records.{Fields, record_at}
use Rattle.twp_answers.specs.Tracts.{Overlap, tract_records}
use Rattle.twp_diagnose.specs.RecordFields.{number_listed, IsListedAt}
use Rattle.twp_diagnose.specs.declared.listed.Listed.{Listed}
use Rattle.twp_explain.specs.BlamedTracts.{FIRST_TRACT}
use Rattle.twp_grid.specs.Lands.{Lotting}

-- The earlier tract is the first that has a place in common with the one at the index, and these
-- are all the places that the two have in common.
pub record IsFirstOverlapping (lots : Lotting) (township : Designation) (rows : List Fields)
    (index earlier : ℕ)
    (common : ℕ → ℕ → ℕ → Bool) : Type 0 where
  pub is_earlier : earlier < index
  pub overlap : Overlap lots township (record_at rows earlier) (record_at rows index)
  pub first : (tract : ℕ) → tract < earlier
      → ¬ Overlap lots township (record_at rows tract) (record_at rows index)
  pub common_is : common ≡ intersection overlap.places overlap.more

-- The earlier record of a list is that of the first tract that shares land with another's, and this is all
-- the land that the two have in common.
pub record IsFirstSharingRecord (lots : Lotting) (township : Designation) (listed earlier : Listed)
    (common : ℕ → ℕ → ℕ → Bool) : Type 0 where
  pub listed_is : IsListedAt listed.file (number_listed earlier) earlier
  pub after_heading : FIRST_TRACT ≤ number_listed earlier
  pub first : IsFirstOverlapping lots township (tract_records listed.file.bytes.now)
      (number_listed listed - FIRST_TRACT) (number_listed earlier - FIRST_TRACT) common
