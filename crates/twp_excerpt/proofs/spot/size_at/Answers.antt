use Rattle.std.proofs.Common.{ap, ◌∙◌}
use Rattle.std.proofs.lemmas.List.{take_rest}
use Rattle.twp_excerpt.specs.Spots.{first_size}
use Rattle.twp_excerpt.proofs.SpotFacts.{ascii_takes_one}
use Rattle.twp_excerpt.proofs.spot.size_at.Goals as goal

pub returns-then-bytes-at-lt128-clause-value : goal.returns-then-bytes-at-lt128-clause-value
returns-then-bytes-at-lt128-clause-value c =
    ascii_takes_one c.args.bytes.now c.args.at c.requires c.if-bytes-at-lt128.true

pub returns-clause-value : goal.returns-clause-value
returns-clause-value c =
    c.first_size.ensures.value ∙ ap first_size (take_rest c.args.bytes.now c.args.at)
