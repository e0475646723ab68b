-- The two items that share land, and the earlier one of them.
use Rattle.twp_sentences.specs.OtherPlaces.{overlap}
use Rattle.twp_sentences.proofs.descriptions.places.Described.earlier.Goals as goal

pub returns-in_default-span_of : goal.returns-in_default-span_of
returns-in_default-span_of g c =
    let shared = rw c.in-Some.is at c.in_ok-shared.ensures in
    overlap c.in-Some.shared.items shared.places shared.both c.in_default-span_of.ensures

pub returns : goal.returns
returns g c =
    let shared = rw c.in-Some.is at c.in_ok-shared.ensures in
    overlap c.in-Some.shared.items shared.places shared.both
    (record {
      span = c.in-Some-span_of.span;
      span_is = c.in-Some-span_of.ensures;
      in_file = c.other_place.ensures;
    })
