-- The parser accepts the names in the code's list.
use Rattle.std.proofs.Common.{◌≡◌, rules}
use Rattle.clap.specs.declared.builder.value_parser.ValueParser.TheVariants.{Names}
use Rattle.twp_program.specs.Commands.{TakesAccounts}
use Rattle.twp_program.proofs.command.account.Goals as goal

pub returns-clause-rule : goal.returns-clause-rule
returns-clause-rule c =
    let given = c.value_parser.ensures.given in
    let names : given.0 ≡ Names c.as_slice.result = given.2 in
    let takes : TakesAccounts given.0 = rw names (search rules) in
    (given.0, takes, search rules)
