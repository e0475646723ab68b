-- A lot that is known by one of its places, or that consists of one block.
use Rattle.std.proofs.Common.{◌≡◌, ◌==◌, ℕ, ◌+◌, ◌-◌, ◌*◌, ◌/◌, ◌%◌, ◌<◌, ◌&&◌, ◌↔◌, Bool, true, List, get_or}
use Rattle.std.proofs.Common.{sym, ap, subst, ◌∙◌, inl, inr, arith}
use Rattle.std.proofs.Math.Path.{fun_ext}
use Rattle.std.proofs.lemmas.Bool.{cases_Bool, false≢true}
use Rattle.twp_grid.specs.Spans.{Rectangle, in_rectangle}
use Rattle.twp_grid.specs.Lands.{ContainsAll, HasLot, HoldsAll, IsLotHeld, IsNextLot, Meets, SharePlace}
use Rattle.twp_grid.specs.Lands.{block_places, lot_places, lotting}
use Rattle.twp_land.specs.LotMaps.{layout_of_bytes, mark_in, mark_of}
use Rattle.twp_land.specs.steps.Marked.{PLACES, marked, IsNextBlock}
use Rattle.twp_land.proofs.LotBlocks.{meets_of_share, share_of_meets}
use Rattle.twp_land.proofs.LottingFacts.{contains_held}
use Rattle.twp_land.proofs.MarkedFacts.{marked_parts, number_of}
use Rattle.twp_land.proofs.MarkedLots.{at_lot, lot_of_marked, lot_places_are, marked_of_lot}
use Rattle.twp_land.proofs.SectionMarks.{lot_of_number, whole_mark}

-- a lot with a place
pub lot_of_place : (positions divided : List ℕ) (s lot c r : ℕ)
    → marked positions divided s lot lot c r ≡ true
    → 0 < lot → lot < 100 → HasLot (lotting (layout_of_bytes positions divided)) s lot
lot_of_place positions divided s lot c r is some few =
    let parts = marked_parts positions divided s lot lot c r is in
    (c, r, at_lot positions divided s lot c r parts.0 (omega (arith, parts.1, parts.2)) some few)

-- a lot with a position
pub lot_of_byte : (positions divided : List ℕ) (s lot index : ℕ) → index < 16
    → get_or positions ((s - 1) * 16 + index) 0 ≡ lot → 0 < lot → lot < 100
    → HasLot (lotting (layout_of_bytes positions divided)) s lot
lot_of_byte positions divided s lot index less is some few =
    let here : index * 64 / 64 ≡ index = omega arith in
    let mark : mark_of positions divided s (index * 64) ≡ lot =
    ap (λ n. mark_in divided (get_or positions ((s - 1) * 16 + n) 0) (index * 64 % 64)) here
    ∙ ap (λ b. mark_in divided b (index * 64 % 64)) is
    ∙ whole_mark divided lot (index * 64 % 64) (omega (arith, few)) in
    lot_of_number positions divided s lot (index * 64) (omega (arith, less)) mark some few

-- each lot has a place with its mark
pub place_of_lot : (positions divided : List ℕ) (s lot : ℕ)
    → HasLot (lotting (layout_of_bytes positions divided)) s lot
    → (c : ℕ) × (r : ℕ) × (marked positions divided s lot lot c r ≡ true)
place_of_lot positions divided s lot has =
    (has.0, has.1, marked_of_lot positions divided s lot has.0 has.1 has.2)

-- the next number, if it is that of a lot
pub following_lot : (positions divided : List ℕ) (s after : ℕ)
    → HasLot (lotting (layout_of_bytes positions divided)) s (after + 1)
    → IsNextLot (lotting (layout_of_bytes positions divided)) s after (after + 1)
following_lot positions divided s after has = record {
  has = has;
  after = omega arith;
  first = λ other has' later. omega (arith, later);
}

-- the places of a lot that consists of a block
only_places : (positions divided : List ℕ) (s lot : ℕ) (block : Rectangle)
    → IsNextBlock (marked positions divided s lot lot) 0 block PLACES → (c r : ℕ)
    → in_rectangle block c r ≡ marked positions divided s lot lot c r
only_places positions divided s lot block next c r = elim (cases_Bool (in_rectangle block c r)) [
  | inl inside ↦ inside ∙ sym (next.is_set c r inside)
  | inr outside ↦ elim (cases_Bool (marked positions divided s lot lot c r)) [
    | inr other ↦ outside ∙ sym other
    | inl is ↦
        let number = number_of c r (marked_parts positions divided s lot lot c r is).0 in
        absurd (false≢true (sym outside ∙ next.all c r is (omega arith) number.0))
  ]
]

pub only_lot : (positions divided : List ℕ) (s lot : ℕ) (block : Rectangle)
    → HasLot (lotting (layout_of_bytes positions divided)) s lot
    → IsNextBlock (marked positions divided s lot lot) 0 block PLACES
    → block_places s block ≡ lot_places (lotting (layout_of_bytes positions divided)) s lot
only_lot positions divided s lot block has next =
    fun_ext (λ o. fun_ext (λ c. fun_ext (λ r.
    ap (λ b. (s == o) && b) (only_places positions divided s lot block next c r))))
    ∙ lot_places_are positions divided s lot has

pub only_apart : (positions divided : List ℕ) (places : ℕ → ℕ → ℕ → Bool) (s lot : ℕ) (block : Rectangle)
    → HasLot (lotting (layout_of_bytes positions divided)) s lot
    → IsNextBlock (marked positions divided s lot lot) 0 block PLACES → ¬ Meets (places s) block
    → ¬ SharePlace places (lot_places (lotting (layout_of_bytes positions divided)) s lot)
only_apart positions divided places s lot block has next apart shared =
    apart (meets_of_share places s block
    (subst (λ p. SharePlace places p) (sym (only_lot positions divided s lot block has next)) shared))

pub only_shared : (positions divided : List ℕ) (places : ℕ → ℕ → ℕ → Bool) (s lot : ℕ) (block : Rectangle)
    → HasLot (lotting (layout_of_bytes positions divided)) s lot
    → IsNextBlock (marked positions divided s lot lot) 0 block PLACES → Meets (places s) block
    → SharePlace places (lot_places (lotting (layout_of_bytes positions divided)) s lot)
only_shared positions divided places s lot block has next met =
    subst (λ p. SharePlace places p) (only_lot positions divided s lot block has next)
    (share_of_meets places s block met)

pub only_met : (positions divided : List ℕ) (s lot : ℕ) (held : ℕ → ℕ → Bool) (block : Rectangle)
    → HasLot (lotting (layout_of_bytes positions divided)) s lot
    → IsNextBlock (marked positions divided s lot lot) 0 block PLACES
    → Meets held block ↔ IsLotHeld (lotting (layout_of_bytes positions divided)) s held lot
only_met positions divided s lot held block has next = (
  λ met.
      let there = lot_of_marked positions divided s lot met.column met.row has
      (next.is_set met.column met.row met.inside) in
      record {
        column = met.column;
        row = met.row;
        place = there.0;
        of_lot = there.1;
        is_held = met.is_held;
      },
  λ lot'. record {
    column = lot'.column;
    row = lot'.row;
    inside =
        only_places positions divided s lot block next lot'.column lot'.row
        ∙ marked_of_lot positions divided s lot lot'.column lot'.row lot'.of_lot;
    is_held = lot'.is_held;
  },
)

pub only_held : (positions divided : List ℕ) (places : ℕ → ℕ → ℕ → Bool) (s lot : ℕ) (block : Rectangle)
    → HasLot (lotting (layout_of_bytes positions divided)) s lot
    → IsNextBlock (marked positions divided s lot lot) 0 block PLACES
    → HoldsAll (places s) block
    ↔ ContainsAll places (lot_places (lotting (layout_of_bytes positions divided)) s lot)
only_held positions divided places s lot block has next =
    let both =
    contains_held places s (marked positions divided s lot lot)
    (lot_places (lotting (layout_of_bytes positions divided)) s lot)
    (lot_places_are positions divided s lot has) in (
      λ all. both.0 (λ c r is. all c r (only_places positions divided s lot block next c r ∙ is)),
      λ all c r inside. both.1 all c r (next.is_set c r inside),
    )
