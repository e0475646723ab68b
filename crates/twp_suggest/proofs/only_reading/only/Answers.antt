use Rattle.std.proofs.Common.{subst}
use Rattle.twp_suggest.specs.Told.{AreSaid}
use Rattle.std.proofs.Common.{string_bytes}
use Rattle.twp_suggest.proofs.only_reading.only.Goals as goal

pub returns-clause-told : goal.returns-clause-told
returns-clause-told g c = record {
  reading = c.args.reading.now;
  only = c.requires;
  told =
      subst (λ changes. AreSaid c.args.text.now changes (string_bytes c.write_assumptions.new.out))
      c.as_slice-2.ensures.value c.in_ok-write_assumptions.ensures;
}
