use Rattle.std.proofs.Common.{◌≡◌, ℕ, ◌<◌, ◌≤◌, IsTrue}
use Rattle.twp_grid.specs.Winding.{IsSection}
use Rattle.twp_resolve.proofs.resolving.make_room_from.Given as goal

-- there is room for the sections so far, and the places are the same
abbrev pub invariant-loop-number : goal.invariant-loop-number
invariant-loop-number g l = record {
  places : g.L.PlaceSet.places l.land ≡ g.L.PlaceSet.places l.initial.land;
  room : (section : ℕ) → IsSection section → l.first ≤ section → section < l.number
      → IsTrue (g.L.GrowingSet.has_room l.land section);
}
