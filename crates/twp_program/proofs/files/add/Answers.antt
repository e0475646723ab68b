use Rattle.std.proofs.Common.{◌∙◌, arith}
use Rattle.twp_program.proofs.KeptFacts.{piece_added}
use Rattle.twp_program.proofs.files.add.Goals as goal

pub pieces-preserved : goal.pieces-preserved
pieces-preserved c = record {
  within = omega (arith, c.min-end.ensures, c.pieces-test.true);
  copied = c.in_ok-extend_from_slice.ensures.items
      ∙ piece_added c.args.bytes.now c.args.copy.now.items c.pieces.copy.items c.pieces.at c.min-end.result
      (omega (arith, c.min-end.ensures, c.saturating_add.ensures, c.pieces-test.true))
      c.pieces.invariant.copied;
}
