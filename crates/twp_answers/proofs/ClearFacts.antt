-- Lists of tracts without a doubtful place, over plain values.
use Rattle.std.proofs.Common.{ℕ, ◌+◌, List, inl, inr}
use Rattle.twp_notes.specs.Records.{Fields, record_at}
use Rattle.twp_read.specs.Doubts.{HasNoDoubtfulPlace}
use Rattle.twp_answers.specs.ClearTracts.{AreClearTracts}
use Rattle.twp_answers.specs.Tracts.{description_in}
use Rattle.twp_answers.proofs.TractLands.{earlier_or_last}

-- the first tracts are clear, and so is the next one
pub one_more_clear : (rows : List Fields) (count : ℕ) → AreClearTracts rows count
    → HasNoDoubtfulPlace (description_in (record_at rows count)) → AreClearTracts rows (count + 1)
one_more_clear rows count before is index below = elim (earlier_or_last count index below) [
  | inl earlier ↦ before index earlier
  | inr next ↦ rw next is
]
