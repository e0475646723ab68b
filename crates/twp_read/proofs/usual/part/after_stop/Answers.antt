use Rattle.std.proofs.Common.{refl, sym}
use Rattle.twp_grammar.specs.declared.tokens.Kind.TheVariants.{Stop}
use Rattle.twp_read.proofs.FrontFacts.{a_full_stop}
use Rattle.twp_read.proofs.Leading.{mark_leads}
use Rattle.twp_read.proofs.usual.part.after_stop.Goals as goal

pub returns-in-Some : goal.returns-in-Some
returns-in-Some c items =
    mark_leads c.args.text.now c.args.from.at 46 Stop c.args.from.state c.in-Some.state items a_full_stop
    (sym c.in-Some.ensures) (c.if-not-goes_on.ensures.spelled refl) (c.if-not-goes_on.ensures.within refl)
