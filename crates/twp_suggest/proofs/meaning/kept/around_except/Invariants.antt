use Rattle.twp_suggest.specs.Excepting.{HasNoExceptBefore}
use Rattle.twp_suggest.proofs.meaning.kept.around_except.Given as goal

-- no `except` was passed
abbrev pub invariant-loop-at : goal.invariant-loop-at
invariant-loop-at l = HasNoExceptBefore l.text l.at
