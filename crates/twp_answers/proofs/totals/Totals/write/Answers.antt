-- Both lines were appended.
use Rattle.twp_answers.proofs.TallyFacts.{four_appended}
use Rattle.twp_answers.proofs.totals.Totals.write.Goals as goal

pub returns : goal.returns
returns c = λ plat places are. record {
  total = c.hundredths.result;
  total_is = record { area = c.args.self.now.total; area_is = are.total_is; rounded = c.hundredths.ensures };
  remaining = c.hundredths-2.result;
  remaining_is = record {
    area = c.args.self.now.remaining;
    area_is = are.remaining_is;
    rounded = c.hundredths-2.ensures;
  };
  text_is =
      four_appended _ _ _ _ _ _ _ _ _ c.in_ok-extend_from_slice.ensures.items
      c.in_ok-write_acres_line.ensures.ok c.in_ok-extend_from_slice-2.ensures.items
      c.in_ok-write_acres_line-2.ensures.ok;
}
