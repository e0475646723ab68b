-- How the end of a field is sought.
use Rattle.std.specs.Prelude.{◌≡◌, ℕ, true, false, Option, Some, None}
use Rattle.csv.specs.Machine.{step}
use Rattle.csv.specs.Reading.{default_config}
use Rattle.csv.specs.declared.parser.State.{State}
use Rattle.csv.specs.declared.parser.State.TheVariants as state
use Rattle.twp_diagnose.specs.RecordFields.{ends_field}
use Rattle.twp_diagnose.specs.declared.records.Quoting.{Quoting}
use Rattle.twp_diagnose.specs.declared.records.Quoting.TheVariants as quoting

-- the state of the grammar of the records
abbrev pub state_of : Quoting → State
state_of quoting.Start = state.StartField
state_of quoting.Plain = state.InField
state_of quoting.Quoted = state.InQuoted
state_of quoting.Ended = state.AfterQuote

-- the byte ends the field, or goes on with it in the next state
abbrev pub GoesOn : State → ℕ → Option State → Type 0
GoesOn from byte None = ends_field (step default_config from byte).1 ≡ true
GoesOn from byte (Some next) =
    (ends_field (step default_config from byte).1 ≡ false) × ((step default_config from byte).0 ≡ next)
