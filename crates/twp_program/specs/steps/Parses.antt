-- The result of parsing the command line, before it is a task or a fault.
use Rattle.std.specs.Prelude.{◌≡◌, ◌≢◌, ◌⊎◌, List, Option, Some, None, codes, ⊤}
use Rattle.clap.specs.Words.{Row, Text, first_of}
use Rattle.clap.specs.declared.error.kind.ErrorKind.{ErrorKind}
use Rattle.clap.specs.declared.error.kind.ErrorKind.TheVariants.{DisplayHelp, OutOfMemory}
use Rattle.twp_plat.specs.declared.land_area.Account.{Account}
use Rattle.twp_program.specs.Commands.{account_name}
use Rattle.twp_program.specs.declared.task.TaskFault.{TaskFault}
use Rattle.twp_program.specs.declared.task.TaskFault.TheVariants.{Usage, Help, Memory}

-- the word has a value
abbrev pub HasValue : Text → List Row → Type 0
HasValue word rows = (value : Text) × (first_of word rows ≡ Some value)

-- the value of the option is an account's name
abbrev pub HasAccountName : List Row → Type 0
HasAccountName rows =
    (account : Account) × (first_of (codes "ACCOUNT") rows ≡ Some (account_name account))

-- the subcommand that a parse entered is one of the command's, and its words and its option have
-- values
abbrev pub IsWhole : Option (Text × List Row) → Type 0
IsWhole None = ⊥
IsWhole (Some entered) = HasValue (codes "NOTES") entered.1
    × ((entered.0 ≡ codes "plat")
    ⊎ ((entered.0 ≡ codes "report") × HasValue (codes "TRACTS") entered.1)
    ⊎ ((entered.0 ≡ codes "normal") × HasValue (codes "DESCRIPTION") entered.1)
    ⊎ ((entered.0 ≡ codes "acres") × HasValue (codes "DESCRIPTION") entered.1
    × HasAccountName entered.1))

-- an error of this kind can appear as this fault: as help if it asks for help, as misuse if it is
-- neither that nor a lack of memory, and in any case as a lack of memory
abbrev pub ShowsAs : ErrorKind → TaskFault → Type 0
ShowsAs kind (Usage text) = (kind ≢ DisplayHelp) × (kind ≢ OutOfMemory)
ShowsAs kind (Help text) = kind ≡ DisplayHelp
ShowsAs kind Memory = ⊤
