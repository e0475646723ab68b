-- The text comes after the bytes so far.
use Rattle.std.proofs.Common.{refl, arith}
use Rattle.twp_spell.proofs.BufferFacts.{put_after}
use Rattle.twp_spell.proofs.line_start.LineStart.push.Goals as goal

pub returns : goal.returns
returns c =
    put_after c.self.inside.bytes c.copy_from_slice.new.self c.args.piece.now c.args.self.now
    c.self.inside.len _ _
    c.self.view_is (omega (arith, c.self.told, c.self.invariant)) c.copy_from_slice.ensures.after refl
