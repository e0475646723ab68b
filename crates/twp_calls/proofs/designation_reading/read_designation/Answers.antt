-- The text spells the township that was read, and no other; or it spells none.
use Rattle.std.proofs.Common.{◌≤◌, ℕ, Ok, sym, ap, subst, arith, length}
use Rattle.twp_read.specs.TextFaults.{TEXT_LIMIT, refusal}
use Rattle.twp_calls.specs.DesignationTexts.{IsNoDesignation}
use Rattle.twp_calls.proofs.DesignationFacts.{spelled_there, read_there, refused_there}
use Rattle.twp_calls.proofs.designation_reading.read_designation.Goals as goal

pub returns-in-Some-clause-spelled : goal.returns-in-Some-clause-spelled
returns-in-Some-clause-spelled c =
    let within : length c.args.text.now ≤ TEXT_LIMIT = omega (arith, c.if-text-gt-TEXT_LIMIT.false) in
    spelled_there c.args.text.now c.progress_in-progress.result c.in-Some.township within
    c.progress_in-progress.ensures.is c.in-Some.ensures.0

pub returns-in-Some-clause-taken : goal.returns-in-Some-clause-taken
returns-in-Some-clause-taken c = λ township spelling.
    ap (λ found. Ok found)
    (sym (c.in-Some.ensures.1 township
    (read_there c.args.text.now c.progress_in-progress.result township c.progress_in-progress.ensures.is
    spelling)))

pub returns-in-None-clause-taken : goal.returns-in-None-clause-taken
returns-in-None-clause-taken c = λ township spelling.
    absurd (c.in-None.ensures township
    (read_there c.args.text.now c.progress_in-progress.result township c.progress_in-progress.ensures.is
    spelling))

pub returns-in-None-clause-refused : goal.returns-in-None-clause-refused
returns-in-None-clause-refused c =
    let within : length c.args.text.now ≤ TEXT_LIMIT = omega (arith, c.if-text-gt-TEXT_LIMIT.false) in
    subst
    (λ (n : ℕ). IsNoDesignation c.args.text.now (refusal n c.progress_in-progress.result.at))
    (sym c.refusal_number.ensures)
    (refused_there c.args.text.now c.progress_in-progress.result within
    c.progress_in-progress.ensures.is c.in-None.ensures)
