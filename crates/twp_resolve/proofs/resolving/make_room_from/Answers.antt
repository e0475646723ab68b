-- There is room for one more section, or one more number is no section's.
use Rattle.std.proofs.Common.{◌∙◌}
use Rattle.twp_resolve.proofs.resolving.make_room_from.Goals as goal

pub returns-then-not-make_room-clause-places : goal.returns-then-not-make_room-clause-places
returns-then-not-make_room-clause-places g c = c.make_room.ensures.places ∙ c.loop-number.invariant.places
