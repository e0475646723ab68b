-- The command line, in the terms of clap's own rules.
use Rattle.std.specs.Prelude.{◌≡◌, true, false, List, [], ◌∷◌, Some, map, codes}
use Rattle.clap.specs.Walk.{texts}
use Rattle.clap.specs.Words.{App, Rule, Shape, Text, new_rule}
use Rattle.clap.specs.Simple.{new_shape}
use Rattle.clap.specs.declared.builder.value_parser.ValueParser.{ValueParser}
use Rattle.clap.specs.declared.builder.value_parser.ValueParser.TheVariants.{Names}
use Rattle.twp_plat.specs.declared.land_area.Account.{Account}
use Rattle.twp_plat.specs.declared.land_area.Account.TheVariants.{Exact, Plat}

-- a required word of a subcommand
abbrev pub required_word : Text → Rule
required_word id = record (new_rule id) { required = true }

-- a subcommand with these words and options
abbrev pub subcommand_of_rules : Text → List Rule → Shape
subcommand_of_rules name rules = record (new_shape name) { rules = rules }

-- a subcommand, with its required words in order
abbrev pub subcommand_with : Text → List Text → Shape
subcommand_with name ids = subcommand_of_rules name (map required_word ids)

-- the command `township`, which requires one of these subcommands
abbrev pub township_with : List Shape → App
township_with subcommands = record {
  top = record (new_shape (codes "township")) { is_leaf = false; subcommand_required = true };
  subs = subcommands;
}

-- the subcommand that writes a plat
abbrev pub plat : Shape
plat = subcommand_with (codes "plat") (codes "NOTES" ∷ [])

-- the name of an account on the command line
abbrev pub account_name : Account → Text
account_name Exact = codes "exact"
account_name Plat = codes "plat"

-- the parser accepts these values and no others
abbrev pub TakesOnly : List Text → ValueParser → Type 0
TakesOnly values (Names names) = texts names.now ≡ values
TakesOnly values other = ⊥

-- the parser accepts the names of accounts
abbrev pub TakesAccounts : ValueParser → Type 0
TakesAccounts = TakesOnly (map account_name (Exact ∷ Plat ∷ []))

-- the option that names an account; the exact one is the default
abbrev pub account_option : ValueParser → Rule
account_option parser = record (new_rule (codes "ACCOUNT")) {
  long = Some (codes "account");
  parser = Some parser;
  defaults = account_name Exact ∷ [];
}

-- the subcommand that writes acres, by an account
abbrev pub acres : ValueParser → Shape
acres parser = subcommand_of_rules (codes "acres")
    (required_word (codes "NOTES") ∷ required_word (codes "DESCRIPTION")
    ∷ account_option parser ∷ [])

-- the subcommand for a description of land on a plat
abbrev pub normal : Shape
normal = subcommand_with (codes "normal") (codes "NOTES" ∷ codes "DESCRIPTION" ∷ [])

-- the subcommand for a list of tracts on a plat
abbrev pub report : Shape
report = subcommand_with (codes "report") (codes "NOTES" ∷ codes "TRACTS" ∷ [])

-- the command `township`, whose option accepts the values of the parser
abbrev pub township : ValueParser → App
township parser = township_with (plat ∷ acres parser ∷ normal ∷ report ∷ [])

-- the command with the subcommands `plat`, `acres`, and these others, in this order
abbrev pub IsTownshipWith : List Shape → App → Type 0
IsTownshipWith others app = (parser : ValueParser) × TakesAccounts parser
    × (app ≡ township_with (plat ∷ acres parser ∷ others))

-- the program's command, with its subcommands in order
abbrev pub IsTownship : App → Type 0
IsTownship = IsTownshipWith (normal ∷ report ∷ [])
