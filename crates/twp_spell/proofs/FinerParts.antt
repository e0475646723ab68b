-- If each place is divided into four, the written parts are the same.
use Rattle.std.proofs.Common.{◌≡◌, ℕ, suc, ◌*◌, ◌/◌, ◌%◌, ◌<◌, ◌↔◌, Bool, true, List, [], ◌∷◌, length, sym}
use Rattle.std.proofs.Common.{ap, subst, ◌∙◌, inl, inr, arith}
use Rattle.std.proofs.Math.Nat.{pow-succ'}
use Rattle.std.proofs.lemmas.Bool.{cases_lt}
use Rattle.twp_grid.specs.declared.block.Side.{Side}
use Rattle.twp_grid.specs.declared.block.Corner.{Corner}
use Rattle.twp_grid.specs.Cuts.{AreWithin}
use Rattle.twp_grid.specs.Places.{IsPlace}
use Rattle.twp_grid.specs.FinerLands.{cut_in_four}
use Rattle.twp_grammar.specs.ItemPlaces.{cuts_of, in_chain}
use Rattle.twp_spell.specs.WrittenParts.{Part, steps_of_part, IsInPart, IsFull, IsChosenHalf, IsWritten}
use Rattle.twp_spell.specs.WrittenParts.{quarter_named, address, ComesBefore, AreWrittenParts}
use Rattle.twp_spell.specs.WrittenParts.Part.{square, half_of_square}
use Rattle.twp_grammar.proofs.Membership.{Among, among_contains}
use Rattle.twp_grammar.proofs.FinerItems.{chain_coarser, within_greater}
use Rattle.twp_spell.proofs.Listings.{other_pairs}
use Rattle.twp_spell.proofs.SquareFacts.{square_within, square_fits, half_within, half_fits}
use Rattle.twp_spell.proofs.SquarePlaces.{up, in_square, square_in, up_all, one_place, turn_small}
use Rattle.twp_spell.proofs.HalfPlaces.{in_half}
use Rattle.twp_spell.proofs.WrittenFacts.{parent_of}
use Rattle.twp_spell.proofs.PartOrder.{some_place, full_part, has_parts, one_parts}

-- the places of a part that is no smaller than the larger places
pub place_coarser : (g column row : ℕ) → IsPlace (suc g) column row → IsPlace g (column / 2) (row / 2)
place_coarser g column row place =
    let power = pow-succ' 2 g in
    let across = place.0 in
    let upward = place.1 in
    (omega arith, omega arith)

pub place_finer : (g column row : ℕ) → IsPlace g column row → IsPlace (suc g) (2 * column) (2 * row)
place_finer g column row place =
    let power = pow-succ' 2 g in
    let across = place.0 in
    let upward = place.1 in
    (omega arith, omega arith)

pub twice : (n : ℕ) → 2 * n / 2 ≡ n
twice n = omega arith

in_coarser : (g : ℕ) (part : Part) (column row : ℕ) → AreWithin g (cuts_of (steps_of_part part))
    → IsInPart (suc g) part column row → IsInPart g part (column / 2) (row / 2)
in_coarser g part column row within inside = record {
  place = place_coarser g column row inside.place;
  asked = sym (chain_coarser g (steps_of_part part) column row within) ∙ inside.asked;
}

in_finer : (g : ℕ) (part : Part) (column row : ℕ) → AreWithin g (cuts_of (steps_of_part part))
    → IsInPart g part column row → IsInPart (suc g) part (2 * column) (2 * row)
in_finer g part column row within inside = record {
  place = place_finer g column row inside.place;
  asked = chain_coarser g (steps_of_part part) (2 * column) (2 * row) within
      ∙ ap (λ n. in_chain g (steps_of_part part) n (2 * row / 2)) (twice column)
      ∙ ap (λ n. in_chain g (steps_of_part part) column n) (twice row)
      ∙ inside.asked;
}

full_finer : (g : ℕ) (held : ℕ → ℕ → Bool) (part : Part) → IsFull g held part
    → IsFull (suc g) (cut_in_four held) part
full_finer g held part full = record {
  within = within_greater g (suc g) (steps_of_part part) (omega arith) full.within;
  each =
      λ column row inside. full.each (column / 2) (row / 2) (in_coarser g part column row full.within inside);
}

full_coarser : (g : ℕ) (held : ℕ → ℕ → Bool) (part : Part) → AreWithin g (cuts_of (steps_of_part part))
    → IsFull (suc g) (cut_in_four held) part → IsFull g held part
full_coarser g held part within full = record {
  within = within;
  each = λ column row inside.
      ap (λ n. held n row) (sym (twice column)) ∙ ap (λ n. held (2 * column / 2) n) (sym (twice row))
      ∙ full.each (2 * column) (2 * row) (in_finer g part column row within inside);
}

-- if one of the four parts of a larger place is in the land, the larger place is wholly in it
whole_place : (g : ℕ) (held : ℕ → ℕ → Bool) (quarters : List Corner) (column row : ℕ) → length quarters ≡ g
    → IsPlace (suc g) column row
    → up (suc g) (length quarters) column row ≡ quarters → cut_in_four held column row ≡ true
    → IsFull (suc g) (cut_in_four held) (square quarters)
whole_place g held quarters column row level place there is =
    record { within = square_within (suc g) quarters (omega arith); each = each }
  where
    fits : AreWithin g (cuts_of (steps_of_part (square quarters)))
    fits = square_within g quarters (omega arith)

    each : (column' row' : ℕ) → IsInPart (suc g) (square quarters) column' row'
        → cut_in_four held column' row' ≡ true
    each column' row' inside =
        let first : IsInPart g (square quarters) (column / 2) (row / 2) =
        in_coarser g (square quarters) column row fits
        (record { place = place; asked = square_in (suc g) quarters column row (omega arith) there }) in
        let second = in_coarser g (square quarters) column' row' fits inside in
        let path_first =
        subst (λ k. up g k (column / 2) (row / 2) ≡ quarters) level
        (in_square g quarters (column / 2) (row / 2) (omega arith) first.asked) in
        let path_second =
        subst (λ k. up g k (column' / 2) (row' / 2) ≡ quarters) level
        (in_square g quarters (column' / 2) (row' / 2) (omega arith) second.asked) in
        let one = one_place g (column' / 2) (row' / 2) (column / 2) (row / 2) second.place first.place
        (sym (up_all g (column' / 2) (row' / 2))
        ∙ path_second
        ∙ sym path_first
        ∙ up_all g (column / 2) (row / 2)) in
        ap (λ n. held n (row' / 2)) one.0 ∙ ap (λ n. held (column / 2) n) one.1 ∙ is

finest_square : (g : ℕ) (held : ℕ → ℕ → Bool) (corner : Corner) (parent : List Corner) → length parent ≡ g
    → IsFull (suc g) (cut_in_four held) (square (corner ∷ parent))
    → IsFull (suc g) (cut_in_four held) (square parent)
finest_square g held corner parent level full =
    let there = some_place (suc g) (cut_in_four held) (square (corner ∷ parent)) full in
    let fits = square_fits (suc g) (corner ∷ parent) full.within in
    let above =
    parent_of (suc g) corner parent there.column there.row fits
    (in_square (suc g) (corner ∷ parent) there.column there.row fits there.inside.asked) in
    whole_place g held parent there.column there.row level there.inside.place above.1
    (full.each there.column there.row there.inside)

finest_half : (g : ℕ) (held : ℕ → ℕ → Bool) (side : Side) (quarters : List Corner) → length quarters ≡ g
    → IsFull (suc g) (cut_in_four held) (half_of_square side quarters)
    → IsFull (suc g) (cut_in_four held) (square quarters)
finest_half g held side quarters level full =
    let there = some_place (suc g) (cut_in_four held) (half_of_square side quarters) full in
    let above =
    in_half (suc g) side quarters there.column there.row (half_fits (suc g) side quarters full.within)
    there.inside.asked in
    whole_place g held quarters there.column there.row level there.inside.place above.0
    (full.each there.column there.row there.inside)

-- which parts are chosen and written
chosen_finer : (g : ℕ) (held : ℕ → ℕ → Bool) (quarters : List Corner) (side : Side)
    → IsChosenHalf g held quarters side → IsChosenHalf (suc g) (cut_in_four held) quarters side
chosen_finer g held quarters side chosen =
    let less = half_fits g side quarters chosen.full.within in
    record {
      square_is_not = λ full.
          chosen.square_is_not
          (full_coarser g held (square quarters) (square_within g quarters (omega arith)) full);
      full = full_finer g held (half_of_square side quarters) chosen.full;
      first = λ other before full.
          chosen.first other before
          (full_coarser g held (half_of_square other quarters) (half_within g other quarters less) full);
    }

chosen_coarser : (g : ℕ) (held : ℕ → ℕ → Bool) (quarters : List Corner) (side : Side) → length quarters < g
    → IsChosenHalf (suc g) (cut_in_four held) quarters side → IsChosenHalf g held quarters side
chosen_coarser g held quarters side less chosen = record {
  square_is_not = λ full. chosen.square_is_not (full_finer g held (square quarters) full);
  full = full_coarser g held (half_of_square side quarters) (half_within g side quarters less) chosen.full;
  first =
      λ other before full. chosen.first other before (full_finer g held (half_of_square other quarters) full);
}

written_finer : (g : ℕ) (held : ℕ → ℕ → Bool) (part : Part) → IsWritten g held part
    → IsWritten (suc g) (cut_in_four held) part
written_finer g held (half_of_square side quarters) chosen = chosen_finer g held quarters side chosen
written_finer g held (square []) full = full_finer g held (square []) full
written_finer g held (square (corner ∷ parent)) written =
    let less = square_fits g (corner ∷ parent) written.0.within in (
      full_finer g held (square (corner ∷ parent)) written.0,
      (λ full. written.1 (full_coarser g held (square parent) (square_within g parent (omega arith)) full)),
      (λ side chosen on. written.2 side (chosen_coarser g held parent side less chosen) on),
    )

written_coarser : (g : ℕ) (held : ℕ → ℕ → Bool) (part : Part) → IsWritten (suc g) (cut_in_four held) part
    → IsWritten g held part
written_coarser g held (half_of_square side quarters) chosen =
    let fits = half_fits (suc g) side quarters chosen.full.within in
    elim (cases_lt (length quarters) g) [
      | inl less ↦ chosen_coarser g held quarters side less chosen
      | inr last ↦ absurd (chosen.square_is_not (finest_half g held side quarters (omega arith) chosen.full))
    ]
written_coarser g held (square []) full =
    full_coarser g held (square []) (square_within g [] (omega arith)) full
written_coarser g held (square (corner ∷ parent)) written =
    let fits = square_fits (suc g) (corner ∷ parent) written.0.within in
    elim (cases_lt (length parent) g) [
      | inl less ↦ (
        full_coarser g held (square (corner ∷ parent)) (square_within g (corner ∷ parent) (omega arith))
            written.0,
        (λ full. written.1 (full_finer g held (square parent) full)),
        (λ side chosen on. written.2 side (chosen_finer g held parent side chosen) on),
      )
      | inr last ↦ absurd (written.1 (finest_square g held corner parent (omega arith) written.0))
    ]

-- the order of parts
ahead_finer : (g : ℕ) (part other : Part) → AreWithin g (cuts_of (steps_of_part part))
    → AreWithin g (cuts_of (steps_of_part other)) → ComesBefore g part other → ComesBefore (suc g) part other
ahead_finer g part other within within' ahead = record {
  column = 2 * ahead.column;
  row = 2 * ahead.row;
  inside = in_finer g part ahead.column ahead.row within ahead.inside;
  lower = λ column' row' inside.
      let less = ahead.lower (column' / 2) (row' / 2) (in_coarser g other column' row' within' inside) in
      let small = turn_small (quarter_named (2 * ahead.column % 2) (2 * ahead.row % 2)) in
      let same : address g (2 * ahead.column / 2) (2 * ahead.row / 2) ≡ address g ahead.column ahead.row =
      ap (λ n. address g n (2 * ahead.row / 2)) (twice ahead.column)
      ∙ ap (λ n. address g ahead.column n) (twice ahead.row) in
      omega arith;
}

parts_finer : (g : ℕ) (held : ℕ → ℕ → Bool) (parts : List Part) → AreWrittenParts g held parts
    → AreWrittenParts (suc g) (cut_in_four held) parts
parts_finer g held parts are = record {
  listed = λ part. (
    (λ written. (are.listed part).0 (written_coarser g held part written)),
    λ there. written_finer g held part ((are.listed part).1 there),
  );
  ordered =
      other_pairs (ComesBefore g) (ComesBefore (suc g)) parts are.ordered (λ part other there there' ahead.
      ahead_finer g part other (within part there) (within other there') ahead);
}
  where
    within : (part : Part) → Among part parts → AreWithin g (cuts_of (steps_of_part part))
    within part there = (full_part g held part ((are.listed part).1 (among_contains part parts there))).within

pub same_parts : (g : ℕ) (held : ℕ → ℕ → Bool) (parts : List Part)
    → AreWrittenParts g held parts ↔ AreWrittenParts (suc g) (cut_in_four held) parts
same_parts g held parts = (parts_finer g held parts, back)
  where
    back : AreWrittenParts (suc g) (cut_in_four held) parts → AreWrittenParts g held parts
    back are =
        let found = has_parts g held in
        let same : found.0 ≡ parts =
        one_parts (suc g) (cut_in_four held) found.0 parts (parts_finer g held found.0 found.1) are in
        subst (λ p. AreWrittenParts g held p) same found.1
