-- Pieces and views as the code stores them.
use Rattle.std.proofs.Common.{◌≡◌, ℕ, ◌+◌, ◌-◌, ◌/◌, ◌<◌, ◌≤◌, Bool, true, false, not, cond, List, length}
use Rattle.std.proofs.Common.{refl, sym, ap, subst, ◌∙◌, arith, nat_le, le-leb, leb-true, leb-false, max, min}
use Rattle.std.proofs.Common.{⊎_elim, true≢false}
use Rattle.std.specs.Fmt.{decimal}
use Rattle.std.proofs.lemmas.Bool.{cases_Bool}
use Rattle.twp_excerpt.specs.declared.kept_part.KeptPart.{KeptPart}
use Rattle.twp_excerpt.specs.Signs.{Sign, signs}
use Rattle.twp_excerpt.specs.Excerpts.{ShownPart, whole_piece, piece_width, line_width, front_piece}
use Rattle.twp_excerpt.specs.Excerpts.{end_piece}
use Rattle.twp_excerpt.specs.Excerpts.{begun, least_ahead, piece_before, piece_ahead, view_of, front_within}
use Rattle.twp_excerpt.specs.Excerpts.{View as ViewOf, between, line_end, view_in, excerpt, excerpt_lines}
use Rattle.twp_excerpt.specs.Spots.{line_start}
use Rattle.twp_excerpt.specs.steps.Views.{IsPart, IsKept}

-- a piece by the way in which signs are cut
abbrev pub piece_by : (ℕ → List Sign → List Sign) → ℕ → List Sign → ShownPart
piece_by within room line =
    cond (nat_le (line_width line) room) (whole_piece line)
    (record { kept = within (room - 2) line; is_cut = true })

abbrev pub KeepsWhole : (ℕ → List Sign → List Sign) → Type 0
KeepsWhole within = (room : ℕ) (line : List Sign) → line_width line ≤ room → within room line ≡ line

piece_whole : (within : ℕ → List Sign → List Sign) (room : ℕ) (line : List Sign) → line_width line ≤ room
    → piece_by within room line ≡ whole_piece line
piece_whole within room line fits =
    ap (λ b. cond b (whole_piece line) (record { kept = within (room - 2) line; is_cut = true }))
    (le-leb (line_width line) room fits)

piece_cut : (within : ℕ → List Sign → List Sign) (room : ℕ) (line : List Sign)
    → nat_le (line_width line) room ≡ false
    → piece_by within room line ≡ record { kept = within (room - 2) line; is_cut = true }
piece_cut within room line over =
    ap (λ b. cond b (whole_piece line) (record { kept = within (room - 2) line; is_cut = true })) over

not_false : (a : Bool) → not a ≡ false → a ≡ true
not_false true h = refl
not_false false h = absurd (true≢false h)

not_true : (a : Bool) → not a ≡ true → a ≡ false
not_true true h = absurd (true≢false (sym h))
not_true false h = refl

-- a part that is not cut is the whole
pub part_whole : (within : ℕ → List Sign → List Sign) (room : ℕ) (line : List Sign) (part : KeptPart)
    → KeepsWhole within → signs part.bytes.now ≡ within room line
    → part.cut ≡ not (nat_le (line_width line) room) → part.columns ≡ line_width (signs part.bytes.now)
    → part.cut ≡ false → IsPart (piece_by within room line) part
part_whole within room line part whole kept cut columns no_cut =
    let fits = leb-true (line_width line) room (not_false _ (sym cut ∙ no_cut)) in
    let same : signs part.bytes.now ≡ line = kept ∙ whole room line fits in
    subst (λ p. IsPart p part) (sym (piece_whole within room line fits)) (record {
      kept_is = same;
      cut_is = no_cut;
      columns_is = omega (arith, columns, ap line_width same);
    })

-- otherwise it is cut to two columns fewer
pub part_cut : (within : ℕ → List Sign → List Sign) (room : ℕ) (line : List Sign) (first part : KeptPart)
    → first.cut ≡ not (nat_le (line_width line) room) → first.cut ≡ true
    → signs part.bytes.now ≡ within (room - 2) line
    → part.cut ≡ not (nat_le (line_width line) (room - 2))
    → part.columns ≡ line_width (signs part.bytes.now)
    → IsPart (piece_by within room line) (record part { columns = part.columns + 2 })
part_cut within room line first part first_cut is_cut kept cut columns =
    let over : nat_le (line_width line) room ≡ false = not_true _ (sym first_cut ∙ is_cut) in
    let wide : room < line_width line = leb-false (line_width line) room over in
    let more : nat_le (line_width line) (room - 2) ≡ false = ⊎_elim
    (λ fits.
    let no = leb-true (line_width line) (room - 2) fits in
    absurd (omega (arith, no, wide)))
    (λ over. over)
    (cases_Bool (nat_le (line_width line) (room - 2))) in
    subst (λ p. IsPart p (record part { columns = part.columns + 2 })) (sym (piece_cut within room line over))
    (record {
      kept_is = kept;
      cut_is = cut ∙ ap not more;
      columns_is = omega (arith, columns, ap line_width kept);
    })

-- a prefix that is whole in little room is whole in more room
pub whole_widened : (least room : ℕ) (line : List Sign) (part : KeptPart)
    → IsPart (front_piece least line) part
    → part.cut ≡ false → part.columns ≤ room → IsPart (front_piece room line) part
whole_widened least room line part is no_cut fits = ⊎_elim
    (λ all.
    let same = piece_whole front_within least line (leb-true (line_width line) least all) in
    let whole = subst (λ p. IsPart p part) same is in
    subst (λ p. IsPart p part)
    (sym (piece_whole front_within room line (omega (arith, whole.columns_is, fits)))) whole)
    (λ over.
    let same = piece_cut front_within least line over in
    let cut = subst (λ p. IsPart p part) same is in
    absurd (true≢false (sym cut.cut_is ∙ no_cut)))
    (cases_Bool (nat_le (line_width line) least))

-- the columns of the signs without dots are no more than those of the part
pub part_narrow : (piece : ShownPart) (part : KeptPart) → IsPart piece part
    → line_width (signs part.bytes.now) ≤ part.columns
part_narrow piece part is = omega (arith, is.columns_is, ap line_width is.kept_is)

pub kept_view : (room before_room ahead_room size carets : ℕ) (before ahead : List Sign)
    (least first rest : KeptPart) → IsPart (front_piece (room - room / 2) ahead) least
    → before_room ≡ room - max least.columns 1 → IsPart (end_piece before_room before) first
    → ahead_room ≡ room - first.columns → IsPart (front_piece ahead_room ahead) rest
    → carets ≡ max (line_width (begun size (signs rest.bytes.now))) 1
    → IsKept (view_of room before ahead size) (record { before = first; ahead = rest; carets = carets })
kept_view room before_room ahead_room size carets before ahead least first rest least_is before_room_is
    first_is
    ahead_room_is rest_is carets_is =
    let before_same : before_room ≡ room - least_ahead room ahead =
    omega (arith, before_room_is, least_is.columns_is) in
    let first_kept : IsPart (piece_before room before ahead) first =
    subst (λ n. IsPart (end_piece n before) first) before_same first_is in
    let ahead_same : ahead_room ≡ room - piece_width (piece_before room before ahead) =
    omega (arith, ahead_room_is, first_kept.columns_is) in
    let rest_kept : IsPart (piece_ahead room before ahead) rest =
    subst (λ n. IsPart (front_piece n ahead) rest) ahead_same rest_is in
    record {
      before_is = first_kept;
      ahead_is = rest_kept;
      carets_is =
          omega (arith, carets_is, ap (λ s. line_width (begun size s)) rest_kept.kept_is);
    }

-- the view of a span by the places in its line
pub view_is : (room : ℕ) (text : List ℕ) (start end from to place : ℕ) → from ≡ line_start text start
    → to ≡ line_end text start → place ≡ min start to
    → view_of room (signs (between text from place)) (signs (between text place to)) (min end to - place)
    ≡ view_in room text start end
unfolding view_in
view_is room text start end from to place from_is to_is place_is =
    let View : ℕ → ℕ → ℕ → ViewOf =
    λ f t p.
    view_of room (signs (between text f p)) (signs (between text p t)) (min end t - p) in
    ap (λ f. View f to place) from_is ∙ ap (λ t. View (line_start text start) t place) to_is
    ∙ ap (View (line_start text start) (line_end text start)) (place_is ∙ ap (min start) to_is)

-- the text of an excerpt, by the digits of the number
pub excerpt_is : (text number : List ℕ) (start end line : ℕ) → number ≡ decimal line
    → excerpt_lines number (view_in (100 - length number - 5) text start end) ≡ excerpt text start end line
unfolding excerpt
excerpt_is text number start end line is =
    ap (λ n. excerpt_lines n (view_in (100 - length n - 5) text start end)) is
