-- Lists of tracts of which no description has a place that can be read in two ways.
use Rattle.std.specs.Prelude.{ℕ, ◌<◌, List, length}
use Rattle.twp_notes.specs.Records.{Fields, record_at}
use Rattle.twp_read.specs.Doubts.{HasNoDoubtfulPlace}
use Rattle.twp_answers.specs.Tracts.{description_in, tract_records}

-- none of the first tracts, up to this number, has a description with such a place
abbrev pub AreClearTracts : List Fields → ℕ → Type 0
AreClearTracts rows count = (index : ℕ) → index < count
    → HasNoDoubtfulPlace (description_in (record_at rows index))

-- no tract of a list has one
abbrev pub IsClearList : List ℕ → Type 0
IsClearList bytes = AreClearTracts (tract_records bytes) (length (tract_records bytes))
