-- An escape without a letter is not that of a tab.
use Rattle.std.proofs.Common.{refl}
use Rattle.twp_excerpt.proofs.LookFacts.{other_drawn}
use Rattle.twp_excerpt.proofs.escaped.Sign.in_line.Goals as goal

pub returns-in_default : goal.returns-in_default
returns-in_default c = record {
  safe = c.requires;
  size = refl;
  drawn = λ sign is. other_drawn sign c.args.self c.in_default.not-Letter is;
}
