use Rattle.twp_answers.proofs.runs.OneReport as reports
use Rattle.twp_answers.proofs.laws.one_report_answer.Goals as goal

pub returns : goal.returns
returns c = reports.one_report_answer
