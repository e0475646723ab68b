-- Where it is explained that a description is refused.
use Rattle.std.specs.Prelude.{◌≡◌, ◌<◌, ◌⊎◌, ⊤, MatchOption, length, drop}
use Rattle.std.specs.List.{AllPass}
use Rattle.twp_excerpt.specs.Spots.{is_white, end_of}
use Rattle.twp_excerpt.specs.declared.spot.Spot.{Spot}
use Rattle.twp_grid.specs.declared.refusal.Refusal.{Refusal}
use Rattle.twp_sentences.specs.ShownPlaces.{TOO_LARGE}
use Rattle.twp_diagnose.specs.Spots.{MOST_BYTES, IsSpotIn, IsSpotOf}
use Rattle.twp_diagnose.specs.declared.explanation.Explanation.{Explanation}
use Rattle.twp_diagnose.specs.declared.location.Given.{Given}
use Rattle.twp_diagnose.specs.declared.finding.SearchStop.{SearchStop}
use Rattle.twp_diagnose.specs.declared.finding.SearchStop.TheVariants.{Found, Memory}

-- the spot is the one of what was found
abbrev pub IsSpotOfStop : Given → SearchStop → Explanation → Type 0
IsSpotOfStop file (Found finding) explanation =
    (finding.refusal ≡ explanation.refusal) × IsSpotOf file finding.place explanation.spot
IsSpotOfStop file Memory explanation = ⊤

-- the spot is where a description is refused, or where it ends but for white space if nothing else follows
abbrev pub IsSpotRefused : Given → Refusal → Spot → Type 0
IsSpotRefused file refusal spot = IsSpotIn file refusal.at spot
    ⊎ (AllPass is_white (drop refusal.at file.bytes.now) × IsSpotIn file (end_of file.bytes.now) spot)

-- the explanation gives the line and the column where the description is refused; none where it is too
-- large, or longer than any that is read
abbrev pub IsExplainedWhereRefused : Given → Explanation → Type 0
IsExplainedWhereRefused file explanation =
    MatchOption explanation.spot
    ((explanation.refusal.number ≡ TOO_LARGE) ⊎ (MOST_BYTES < length file.bytes.now))
    (IsSpotRefused file explanation.refusal)
