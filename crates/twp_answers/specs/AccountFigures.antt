-- The figures of an account, as numbers. Written out, they are the text of the account.
use Rattle.std.specs.Prelude.{ℕ, List, ◌++◌}
use Rattle.std.specs.List.{flat_map}
use Rattle.twp_answers.specs.ReportAnswers.{tract_line, total_lines}
use Rattle.twp_answers.specs.declared.account_figures.AccountFigures.{AccountFigures}
use Rattle.twp_answers.specs.declared.account_figures.TractFigure.{TractFigure}

-- the line of a tract with this name and these hundredths of an acre
abbrev pub line_of : TractFigure → List ℕ
line_of figure = tract_line figure.name.bytes figure.hundredths

-- the text of an account with these figures
abbrev pub text_of_figures : AccountFigures → List ℕ
text_of_figures figures =
    flat_map line_of figures.tracts.items ++ total_lines figures.total figures.remaining
