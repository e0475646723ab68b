-- Blocks share a place if their columns overlap and their rows overlap.
use Rattle.twp_land.proofs.LotBlocks.{share_place, sharing}
use Rattle.twp_land.proofs.lots.share_place.Goals as goal

pub returns-then-across : goal.returns-then-across
returns-then-across c =
    let across = rw (
      c.column.ensures.value,
      c.width.ensures.value,
      c.column-2.ensures.value,
      c.width-2.ensures.value,
    ) at c.cross-across.ensures in
    let upward = rw (
      c.row.ensures.value,
      c.height.ensures.value,
      c.row-2.ensures.value,
      c.height-2.ensures.value,
    ) at c.cross-upward.ensures in (
      λ h.
          share_place c.args.block c.args.other c.column.ensures.dyadic.some c.column-2.ensures.dyadic.some
          c.row.ensures.dyadic.some c.row-2.ensures.dyadic.some
          (across.0 c.if-across.true) (upward.0 h),
      λ meets. upward.1 (sharing c.args.block c.args.other meets).1,
    )
