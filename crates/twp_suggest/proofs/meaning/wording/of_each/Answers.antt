-- What is kept and taken is that of the divisions.
use Rattle.std.proofs.Common.{refl}
use Rattle.twp_suggest.specs.Excepting.{of_each}
use Rattle.twp_suggest.proofs.meaning.wording.of_each.Goals as goal

pub remainder-requires-clause-parted : goal.remainder-requires-clause-parted
remainder-requires-clause-parted g c =
    of_each c.args._parts.whole.now c.args._parts.excepted.now c.requires.split c.requires.more
    (rw (c.as_slice-whole.ensures.value, c.as_slice-excepted.ensures.value) c.in_ok-both.ensures) refl
