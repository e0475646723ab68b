-- The first item that shares land with the refused one.
use Rattle.twp_resolve.proofs.shared.shared_into.Goals as goal

pub returns : goal.returns
returns g c =
    let refused = c.in_ok-later.ensures.refused in
    let sharing = c.in_ok-earlier.ensures in
    rw (← c.items-items.ensures.items) (record {
      refused = refused.refused;
      later_is = refused.index_is;
      in_turn = sharing.in_turn;
      share = sharing.share;
      first = sharing.first;
      places_are = sharing.places_are;
    })
