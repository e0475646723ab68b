use Rattle.std.proofs.Common.{arith, sym}
use Rattle.twp_rules.proofs.RowFacts.{longer_written}
use Rattle.twp_rules.proofs.rows.is_before_filling.Goals as goal

pub returns-then-size-rest : goal.returns-then-size-rest
returns-then-size-rest c = sym (longer_written c.args.written.now c.args.rest.now (omega arith))
