-- From the subcommand that a parse entered to its task.
use Rattle.std.proofs.Common.{◌≡◌, ◌⊎◌, ◌∙◌, ap, true, [], Option, Some, None, refl, sym, inl}
use Rattle.std.proofs.Common.{inr, subst}
use Rattle.std.specs.Prelude.{option_map, codes, List, Box}
use Rattle.std.specs.Box.{box_value}
use Rattle.clap.specs.Simple.{subcommand_rows}
use Rattle.clap.specs.declared.parser.matches.SubCommand.{SubCommand}
use Rattle.clap.specs.Words.{App, IsAmong, Row, Text, fault_of, is_simple, is_simple_and_free}
use Rattle.clap.specs.Words.{matches_of, subcommand_name_of, subcommand_of, subcommand_rows_of}
use Rattle.clap.specs.declared.error.kind.ErrorKind.{ErrorKind}
use Rattle.clap.specs.declared.error.kind.ErrorKind.TheVariants.{DisplayHelp, OutOfMemory}
use Rattle.clap.specs.declared.parser.matches.ArgMatches.{ArgMatches}
use Rattle.clap.specs.declared.parser.matches.ArgMatches.TheViews.{out-ArgMatches, out-SubCommand}
use Rattle.twp_program.specs.Commands.{IsTownship, township}
use Rattle.twp_program.specs.steps.Parses.{HasValue, IsWhole, ShowsAs}
use Rattle.twp_program.specs.Tasks.{IsFaultOf, IsTaskIn, IsTaskOf}
use Rattle.twp_program.specs.declared.task.Task.{Task}
use Rattle.twp_program.specs.declared.task.TaskFault.{TaskFault}
use Rattle.twp_program.specs.declared.task.TaskFault.TheVariants.{Usage, Help, Memory}
use Rattle.twp_program.proofs.TownshipWords.{township_whole}

module _ {Z : Type 0} where
  entered_names : (o : Option (Box SubCommand Z))
      → option_map (λ p. p.0) (subcommand_rows o)
      ≡ option_map (λ b. (out-SubCommand (box_value b)).name.now) o
  entered_names None = refl
  entered_names (Some b) = refl

-- the name that the parse entered
pub entered_name : (m : ArgMatches) → option_map (λ p. p.0) (subcommand_rows_of m) ≡ subcommand_name_of m
entered_name m = entered_names (out-ArgMatches m).subcommand

-- a subcommand that is neither `plat` nor `report` has a value for its description
pub land_words : (entered : Option (Text × List Row)) (name : Text) (rows : List Row) → IsWhole entered
    → option_map (λ p. p.0) entered ≡ Some name → option_map (λ p. p.1) entered ≡ Some rows
    → (name ≡ codes "plat" → ⊥) → (name ≡ codes "report" → ⊥) → HasValue (codes "DESCRIPTION") rows
land_words None name rows whole named found no_plat no_report = absurd whole
land_words (Some e) name rows whole named found no_plat no_report =
    let same : e.0 ≡ name = cc in
    let those : e.1 ≡ rows = cc in
    elim whole.1 [
      | inl is ↦ absurd (no_plat (sym same ∙ is))
      | inr (inl is) ↦ absurd (no_report (sym same ∙ is.0))
      | inr (inr (inl is)) ↦ subst (HasValue (codes "DESCRIPTION")) those is.1
      | inr (inr (inr is)) ↦ subst (HasValue (codes "DESCRIPTION")) those is.1
    ]

simple : (app : App) → IsTownship app → is_simple app ≡ true
simple app is = rw is.2 refl

simple_and_free : (app : App) → IsTownship app → is_simple_and_free app ≡ true
simple_and_free app is = rw is.2 refl

-- the subcommand that a successful parse entered has all its values
pub parse_whole : (app : App) (words : List Text) (rows : List Row) (entered : Option (Text × List Row))
    → IsTownship app
    → (is_simple_and_free app ≡ true → fault_of app words ≡ [])
    → (is_simple app ≡ true → (rows ≡ matches_of app words) × (entered ≡ subcommand_of app words))
    → IsWhole entered
parse_whole app words rows entered is taken matches =
    let none : fault_of (township is.0) words ≡ [] =
    subst (λ a. fault_of a words ≡ []) is.2 (taken (simple_and_free app is)) in
    let same : entered ≡ subcommand_of (township is.0) words =
    (matches (simple app is)).1 ∙ ap (λ a. subcommand_of a words) is.2 in
    rw same (township_whole is.0 words is.1 none)

-- its task is the one that the words ask for
pub parse_task : (app : App) (words : List Text) (rows : List Row) (entered : Option (Text × List Row))
    (task : Task)
    → IsTownship app
    → (is_simple_and_free app ≡ true → fault_of app words ≡ [])
    → (is_simple app ≡ true → (rows ≡ matches_of app words) × (entered ≡ subcommand_of app words))
    → IsTaskIn entered task → IsTaskOf words task
parse_task app words rows entered task is taken matches asks = record {
  app = app;
  is_township = is;
  taken = taken (simple_and_free app is);
  entered = subst (λ e. IsTaskIn e task) (matches (simple app is)).1 asks;
}

-- the error of a parse gives the fault of the words
pub parse_fault : (app : App) (words : List Text) (kind : ErrorKind) (fault : TaskFault) → IsTownship app
    → (is_simple_and_free app ≡ true → (kind ≡ OutOfMemory) ⊎ IsAmong kind (fault_of app words))
    → ShowsAs kind fault → IsFaultOf words fault
parse_fault app words kind fault is fails shows = go fault shows (fails (simple_and_free app is))
  where
    go : (f : TaskFault) → ShowsAs kind f → (kind ≡ OutOfMemory) ⊎ IsAmong kind (fault_of app words)
        → IsFaultOf words f
    go (Usage text) h (inl none) = absurd (h.1 none)
    go (Usage text) h (inr among) = (kind, record { app = app; is_township = is; among = among }, h.0)
    go (Help text) h (inl none) = let bad : OutOfMemory ≡ DisplayHelp = rw none at h in cc
    go (Help text) h (inr among) =
        record { app = app; is_township = is; among = subst (λ k. IsAmong k (fault_of app words)) h among }
    go Memory h e = tt
