-- The subcommands other than `plat` and `report` have a value for the description.
use Rattle.std.proofs.Common.{◌≡◌, rules, Some, false, true}
use Rattle.std.specs.Prelude.{option_map, codes}
use Rattle.clap.specs.Words.{rows_of, found_of, subcommand_rows_of}
use Rattle.twp_program.proofs.TaskFacts.{entered_name, land_words}
use Rattle.twp_program.proofs.task.task_of.Goals as goal

pub name_of-requires-2 : goal.name_of-requires-2
name_of-requires-2 c =
    let entered = subcommand_rows_of c.args.matches.now in
    let rows = rows_of (found_of c.in-Some.found.now) in
    let named : option_map (λ p. p.0) entered ≡ Some c.in-Some.name.now =
    rw (entered_name c.args.matches.now) (search rules) in
    let found : option_map (λ p. p.1) entered ≡ Some rows = search rules in
    let no_plat : c.in-Some.name.now ≡ codes "plat" → ⊥ =
    λ is. let bad : false ≡ true = rw is at c.if-eq.ensures in cc in
    let no_report : c.in-Some.name.now ≡ codes "report" → ⊥ =
    λ is. let bad : false ≡ true = rw is at c.if-eq-2.ensures in cc in
    record {
      value = land_words entered c.in-Some.name.now rows c.requires.whole named found no_plat no_report;
    }
