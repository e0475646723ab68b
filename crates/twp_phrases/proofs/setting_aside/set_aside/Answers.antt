-- One place is passed; and past the end, those so far are all.
use Rattle.std.proofs.Common.{sym, ◌∙◌, arith, ◌<◌, length}
use Rattle.twp_phrases.proofs.SetAsideFacts.{all_found, all_from_next}
use Rattle.twp_phrases.proofs.setting_aside.set_aside.Goals as goal

pub places-preserved-in_default : goal.places-preserved-in_default
places-preserved-in_default c =
    let within : c.places.at < length c.args.text.now = c.places-test.true in (
      omega (arith, within),
      all_from_next c.args.phrases.now c.args.text.now c.places.at c.places.found.items
          (sym c.in_default.is ∙ c.length_at.ensures.length) c.places.invariant.1,
    )

pub returns : goal.returns
returns c =
    all_found c.args.phrases.now c.args.text.now c.places.at c.places.found.items
    (omega (arith, c.places-test.false)) c.places.invariant.1
