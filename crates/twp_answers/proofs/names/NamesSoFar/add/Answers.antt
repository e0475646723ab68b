-- The set has one more name.
use Rattle.std.proofs.Common.{◌∙◌}
use Rattle.std.specs.Str.{bytes_eq}
use Rattle.twp_answers.specs.Names.{has_name}
use Rattle.twp_answers.proofs.NameFacts.{one_name_more}
use Rattle.twp_answers.proofs.TractFacts.{either_of}
use Rattle.twp_answers.proofs.names.NamesSoFar.add.Goals as goal

pub returns-clause-names : goal.returns-clause-names
returns-clause-names c other =
    rw (← c.in-Ok.ensures.ok)
    (one_name_more c.in-Ok.name c.args.self.now.names c.insert.new.self c.in-Ok-insert.ensures.updates other
    ∙ either_of (bytes_eq c.in-Ok.name.bytes other) (has_name c.args.self.now other))
