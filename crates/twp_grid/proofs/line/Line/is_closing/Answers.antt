use Rattle.std.proofs.Common.{◌<◌, arith}
use Rattle.std.proofs.lemmas.Bool.Decides.{nat_tests}
use Rattle.twp_grid.proofs.LineFacts.{closing_north}
use Rattle.twp_grid.proofs.line.Line.is_closing.Goals as goal

pub returns-then-index-lt7 : goal.returns-then-index-lt7
returns-then-index-lt7 c =
    let below : c.args.self < 7 = rw c.self.view_is at c.if-index-lt7.true in
    (λ _. closing_north c.args.self below, λ _. grind (arith, nat_tests))
