use Rattle.std.proofs.Common.{◌≡◌, ◌++◌, ◌+◌, ◌≤◌, [], length, arith}
use Rattle.std.proofs.lemmas.List.{length-take}
use Rattle.std.specs.Prelude.{unwrap_or}
use Rattle.twp_notes.proofs.DeviceFacts.{tells_read, read_most, most_taken}
use Rattle.twp_notes.proofs.reading.read_up_to.Goals as goal

pub returns-clause-bytes : goal.returns-clause-bytes
returns-clause-bytes g c =
    let rest = unwrap_or (g.S.Source.remaining c.pieces.source) [] in
    let long : length c.pieces.read.items ≡ c.args.most = omega arith in (
      c.pieces.read.items ++ rest,
      tells_read _ _ _ c.pieces.invariant.taken,
      read_most c.pieces.read.items rest c.args.most long,
    )

pub returns-in_err-extend_from_slice-clause-most : goal.returns-in_err-extend_from_slice-clause-most
returns-in_err-extend_from_slice-clause-most g c =
    let piece : length c.fill.new.buffer ≤ c.min-room.result =
    simp (c.fill.auto.buffer, length-take) (omega arith) in
    let fits : length c.pieces.read.items + length c.fill.new.buffer ≤ c.args.most = omega arith in
    most_taken _ _ _ c.pieces.read.items c.fill.new.buffer c.in_ok-count.count (length c.fill.new.buffer)
    c.args.most
    c.pieces.invariant.taken c.in_ok-count.ensures.bytes.0 c.in_ok-count.ensures.within fits
