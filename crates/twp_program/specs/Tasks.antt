-- The task that a command line asks for.
use Rattle.std.specs.Prelude.{◌≡◌, ◌≢◌, List, [], ◌∷◌, Option, Some, codes, ⊤}
use Rattle.clap.specs.Words.{App, IsAmong, Row, Text, fault_of, first_of, subcommand_of}
use Rattle.clap.specs.declared.error.kind.ErrorKind.{ErrorKind}
use Rattle.clap.specs.declared.error.kind.ErrorKind.TheVariants.{DisplayHelp}
use Rattle.twp_plat.specs.declared.land_area.Account.{Account}
use Rattle.twp_program.specs.Commands.{IsTownship, account_name}
use Rattle.twp_program.specs.declared.task.Task.{Task}
use Rattle.twp_program.specs.declared.task.Task.TheVariants.{Plat, Acres, Normal, Report}
use Rattle.twp_program.specs.declared.task.TaskFault.{TaskFault}
use Rattle.twp_program.specs.declared.task.TaskFault.TheVariants.{Usage, Help, Memory}

-- a word or an option of a subcommand, and its value
pub record GivenOption : Type 0 where
  pub word : Text
  pub value : Text

-- they have these values in the rows of a parse
abbrev pub HaveValues : List Row → List GivenOption → Type 0
HaveValues rows [] = ⊤
HaveValues rows (given ∷ more) =
    (first_of given.word rows ≡ Some given.value) × HaveValues rows more

abbrev pub given_notes : Text → GivenOption
given_notes name = record { word = codes "NOTES"; value = name }

abbrev pub given_description : Text → GivenOption
given_description name = record { word = codes "DESCRIPTION"; value = name }

abbrev pub given_tracts : Text → GivenOption
given_tracts name = record { word = codes "TRACTS"; value = name }

-- the value that the words give the option, or its default if they do not name it
abbrev pub given_account : Account → GivenOption
given_account account = record { word = codes "ACCOUNT"; value = account_name account }

-- the subcommand that asks for a task
abbrev pub subcommand_name : Task → Text
subcommand_name (Plat notes) = codes "plat"
subcommand_name (Acres notes description account) = codes "acres"
subcommand_name (Normal notes description) = codes "normal"
subcommand_name (Report notes tracts) = codes "report"

-- the subcommand's words and option, with the task's files and account
abbrev pub given_of : Task → List GivenOption
given_of (Plat notes) = given_notes notes ∷ []
given_of (Acres notes description account) =
    given_notes notes ∷ given_description description ∷ given_account account ∷ []
given_of (Normal notes description) = given_notes notes ∷ given_description description ∷ []
given_of (Report notes tracts) = given_notes notes ∷ given_tracts tracts ∷ []

-- the subcommand that was entered, with the values of its words, is the task
pub record IsTaskIn (entered : Option (Text × List Row)) (task : Task) : Type 0 where
  pub rows : List Row
  pub entered_is : entered ≡ Some (subcommand_name task, rows)
  pub values_are : HaveValues rows (given_of task)

-- the words ask for the task: clap's rules accept them, and enter the task's subcommand
pub record IsTaskOf (words : List Text) (task : Task) : Type 0 where
  pub app : App
  pub is_township : IsTownship app
  pub taken : fault_of app words ≡ []
  pub entered : IsTaskIn (subcommand_of app words) task

-- by clap's rules, there is a fault of this kind in the words
pub record HasKindAt (words : List Text) (kind : ErrorKind) : Type 0 where
  pub app : App
  pub is_township : IsTownship app
  pub among : IsAmong kind (fault_of app words)

-- the words are misused, or ask for help, by clap's rules; or memory ran out
abbrev pub IsFaultOf : List Text → TaskFault → Type 0
IsFaultOf words (Usage text) = (kind : ErrorKind) × HasKindAt words kind × (kind ≢ DisplayHelp)
IsFaultOf words (Help text) = HasKindAt words DisplayHelp
IsFaultOf words Memory = ⊤
