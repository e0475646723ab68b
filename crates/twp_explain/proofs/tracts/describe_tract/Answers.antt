-- The description is the field of the record.
use Rattle.std.proofs.Common.{subst}
use Rattle.twp_diagnose.specs.Origins.{IsFieldAt}
use Rattle.twp_grid.specs.Lands.{lotting}
use Rattle.twp_excerpt.specs.declared.spot.Span.{Span}
use Rattle.twp_explain.proofs.TractFacts.{refused_tract}
use Rattle.twp_explain.proofs.tracts.describe_tract.Goals as goal

pub returns-clause-shown : goal.returns-clause-shown
returns-clause-shown g c =
    refused_tract c.describe.result c.of_field-origin.result (lotting (g.P.Lotting.layout c.args.lots.now))
    c.args.township c.args.listed.now
    c.field.result.now
    (record {
      file_is = c.of_field-origin.ensures.file;
      in_its_field =
          subst (λ (span : Span). IsFieldAt span.start c.of_field-origin.result) c.span.ensures
          c.of_field-origin.ensures.field;
    })
    c.field.ensures
    c.describe.ensures.shown
