-- The parts of the command where an account is named.
use Rattle.std.specs.Prelude.{◌≡◌}
use Rattle.clap.specs.Words.{Rule, Shape}
use Rattle.clap.specs.declared.builder.value_parser.ValueParser.{ValueParser}
use Rattle.twp_program.specs.Commands.{TakesAccounts, account_option, acres}

-- the option of one of the accounts
abbrev pub IsAccountOption : Rule → Type 0
IsAccountOption rule =
    (parser : ValueParser) × TakesAccounts parser × (rule ≡ account_option parser)

-- the subcommand that writes acres by one of the accounts
abbrev pub IsAcres : Shape → Type 0
IsAcres shape = (parser : ValueParser) × TakesAccounts parser × (shape ≡ acres parser)
