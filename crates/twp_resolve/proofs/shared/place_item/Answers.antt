use Rattle.twp_resolve.proofs.RoomFacts.{room_for_each}
use Rattle.twp_resolve.proofs.shared.place_item.Goals as goal

pub resolve_item-requires-clause-room : goal.resolve_item-requires-clause-room
resolve_item-requires-clause-room g c =
    room_for_each _ c.args.section c.args.item.now (g.met.L.Land.roomy c.clear.new.self)
