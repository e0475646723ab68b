use Rattle.std.proofs.Common.{rules}
use Rattle.twp_answers.proofs.runs.DeviceFacts.{appends_piece}
use Rattle.twp_answers.proofs.runs.answer.write_whole.Goals as goal

pub pieces-preserved : goal.pieces-preserved
pieces-preserved g c = record {
  is_open = search rules;
  taken = appends_piece _ _ _ _ _ _ c.pieces.invariant.taken c.in_ok-at.ensures.bytes;
  within = search rules;
}
