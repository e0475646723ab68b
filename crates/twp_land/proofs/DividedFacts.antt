-- The marks of half a divided position, as its bits show them, and the lowest mark of a position.
use Rattle.std.proofs.Common.{◌≡◌, ◌==◌, ℕ, ◌+◌, ◌-◌, ◌*◌, ◌/◌, ◌%◌, ◌^◌, ◌<◌, ◌≤◌, ◌&&◌, ◌↔◌, Bool, true}
use Rattle.std.proofs.Common.{false}
use Rattle.std.proofs.Common.{List, cond, get_or, length, map, min, nat_le, nat_lt, leb, refl, sym, ap, ◌∙◌}
use Rattle.std.proofs.Common.{inl, inr}
use Rattle.std.proofs.Common.{arith, if◌then◌else◌}
use Rattle.std.proofs.lemmas.Bool.{cases_Bool, cases_lt, eqb-true}
use Rattle.std.proofs.lemmas.Bool.Decides.{nat_tests}
use Rattle.std.proofs.lemmas.List.{get_or-map, get_or_default, length-map}
use Rattle.std.proofs.lemmas.Simd.{bit_mask_l, get_or-chunk, length-chunk}
use native.Mathlib.Nat.{zero-div}
use lib.Lanes.{chunk, mask_l}
use Rattle.twp_land.specs.LotMaps.{NO_LAND, mark_in}
use Rattle.twp_land.specs.LotMarks.{all_below}
use Rattle.twp_land.specs.declared.lot_map.bytes.Columns.{Columns}
use Rattle.twp_land.specs.declared.lot_map.bytes.Columns.TheVariants.{All, East, West}
use Rattle.twp_land.specs.steps.LotBytes.{AreColumns, AreNone, IsLowest, bytes_less, in_columns, mark_at}
use Rattle.twp_land.proofs.DividingFacts.{all_each}
use Rattle.twp_land.proofs.SectionMarks.{divided_mark}

-- one more mark
pub lower_mark : (divided : List ℕ) (first count after lowest byte here new : ℕ)
    → byte ≡ get_or divided (first + count) 0 → first + count < length divided → after < 100
    → here ≡ (if nat_lt after byte then min byte 100 else 100) → new ≡ min lowest here
    → IsLowest divided first count after lowest → IsLowest divided first (count + 1) after new
lower_mark divided first count after lowest byte here new is room few is_here is_new so_far =
    let mark : mark_at divided (first + count) ≡ min byte 100 =
    ap (λ n. min n 100) (get_or_default divided (first + count) NO_LAND 0 room ∙ sym is) in
    elim (cases_lt after byte) [
      | inl later ↦
          let test : nat_lt after byte ≡ true = grind (arith, nat_tests, later) in
          let found : here ≡ min byte 100 = is_here ∙ rw test refl in
          next (omega (arith, found, later, few)) (omega (arith, found)) (omega (arith, mark, found))
          (λ _. omega (arith, mark, found))
      | inr before ↦
          let test : nat_lt after byte ≡ false = grind (arith, nat_tests, before) in
          let found : here ≡ 100 = is_here ∙ rw test refl in
          next (omega (arith, found, few)) (omega (arith, found)) (omega (arith, mark, found))
          (λ less. omega (arith, found, less))
    ]
  where
    next : after < here → here ≤ 100
        → (after < mark_at divided (first + count) → here ≤ mark_at divided (first + count))
        → (here < 100 → mark_at divided (first + count) ≡ here) → IsLowest divided first (count + 1) after new
    next more most least has = record {
      more = omega (arith, is_new, more, so_far.more);
      most = omega (arith, is_new, most);
      is = λ less. elim (cases_lt here lowest) [
        | inl lower ↦
            let same : new ≡ here = omega (arith, is_new, lower) in
            (count, omega arith, has (omega (arith, same, less)) ∙ sym same)
        | inr not_lower ↦
            let same : new ≡ lowest = omega (arith, is_new, not_lower) in
            let place = so_far.is (omega (arith, same, less)) in
            let within : place.0 < count = place.1 in
            (place.0, omega (arith, within), place.2 ∙ sym same)
      ];
      least = λ within less later. elim (cases_lt within count) [
        | inl before ↦ omega (arith, is_new, so_far.least within before later)
        | inr last ↦
            let same : within ≡ count = omega (arith, last, less) in
            let there : mark_at divided (first + within) ≡ mark_at divided (first + count) =
            ap (λ n. mark_at divided (first + n)) same in
            omega (arith, is_new, there, least (omega (arith, there, later)))
      ];
    }

-- the bits of columns
abbrev pub bits_of : Columns → ℕ
bits_of All = 4294967295
bits_of East = 252645135
bits_of West = 4042322160

abbrev has_bit : Columns → ℕ → Bool
has_bit columns within = bits_of columns / 2 ^ within % 2 == cond (in_columns columns within) 1 0

have_bits : (columns : Columns) → all_below 32 (λ n. has_bit columns n) ≡ true
have_bits All = refl
have_bits East = refl
have_bits West = refl

abbrev bit : Bool → ℕ
bit b = cond b 1 0

same_test : (a b : Bool) → bit a ≡ bit b → a ≡ b
same_test true true is = refl
same_test true false is = absurd (omega (arith, is))
same_test false true is = absurd (omega (arith, is))
same_test false false is = refl

-- a byte less another is in a range exactly if its mark is
in_range : (byte least most top : ℕ) → byte < 256 → least ≤ 100 → least ≤ most → most ≤ top → top < 256
    → (min byte 100 ≤ most ↔ byte ≤ top)
    → leb ((byte + (256 - least)) % 256) (top - least)
    ≡ (nat_le least (min byte 100) && nat_le (min byte 100) most)
in_range byte least most top small few range above below marks = elim (cases_lt byte least) [
  | inl less ↦
      let low : nat_le least (min byte 100) ≡ false = grind (arith, nat_tests, less, few) in
      let far : leb ((byte + (256 - least)) % 256) (top - least) ≡ false =
      grind (arith, nat_tests, less, few, below, small) in
      rw (low, far) refl
  | inr more ↦
      let low : nat_le least (min byte 100) ≡ true = grind (arith, nat_tests, more, few) in
      let moved : (byte + (256 - least)) % 256 ≡ byte - least = omega (arith, more, small, few) in
      elim (cases_lt top byte) [
        | inl beyond ↦
            let far : leb (byte - least) (top - least) ≡ false =
            grind (arith, nat_tests, beyond, range, above) in
            let high : nat_le (min byte 100) most ≡ false =
            elim (cases_Bool (nat_le (min byte 100) most)) [
              | inr not_in ↦ not_in
              | inl is_in ↦ absurd (omega (arith, beyond, marks.0 (grind (arith, nat_tests, is_in))))
            ] in
            rw (low, high, moved, far) refl
        | inr within ↦
            let near : leb (byte - least) (top - least) ≡ true = grind (arith, nat_tests, within) in
            let high : nat_le (min byte 100) most ≡ true =
            grind (arith, nat_tests, marks.1 (omega (arith, within))) in
            rw (low, high, moved, near) refl
      ]
]

-- the bit of a place of half a position
place_bit : (divided : List ℕ) (first least most top within : ℕ) → first + 32 ≤ length divided
    → ((k : ℕ) → get_or divided k 0 < 256) → least ≤ 100 → least ≤ most → most ≤ top → top < 256
    → ((byte : ℕ) → byte < 256 → (min byte 100 ≤ most ↔ byte ≤ top)) → within < 32
    → mask_l (map (λ b. leb b (top - least)) (bytes_less least (chunk first 32 divided))) / 2 ^ within % 2
    ≡ cond (nat_le least (mark_at divided (first + within)) && nat_le (mark_at divided (first + within)) most)
    1 0
place_bit divided first least most top within room small few range above below marks less =
    let p : ℕ → Bool = λ b. leb b (top - least) in
    let bytes = bytes_less least (chunk first 32 divided) in
    let long : length (chunk first 32 divided) ≡ 32 = length-chunk first 32 divided room in
    let count : length bytes ≡ 32 =
    length-map (chunk first 32 divided) (λ x. (x + (256 - least)) % 256) ∙ long in
    let byte = get_or divided (first + within) 0 in
    let at : get_or bytes within 0 ≡ (byte + (256 - least)) % 256 =
    get_or-map (λ x. (x + (256 - least)) % 256) (chunk first 32 divided) within 0 0
    (omega (arith, long, less))
    ∙ ap (λ n. (n + (256 - least)) % 256) (get_or-chunk first 32 divided within 0 less) in
    bit_mask_l (map p bytes) within
    ∙ ap bit
    (get_or-map p bytes within 0 false (omega (arith, count, less))
    ∙ ap p at
    ∙ in_range byte least most top (small (first + within)) few range above below
    (marks byte (small (first + within)))
    ∙ ap (λ n. nat_le least (min n 100) && nat_le (min n 100) most)
    (get_or_default divided (first + within) 0 NO_LAND (omega (arith, room, less))))

pub columns_held : (divided : List ℕ) (first least most top bits : ℕ) (columns : Columns)
    → first + 32 ≤ length divided
    → ((k : ℕ) → get_or divided k 0 < 256) → least ≤ 100 → least ≤ most → most ≤ top → top < 256
    → ((byte : ℕ) → byte < 256 → (min byte 100 ≤ most ↔ byte ≤ top))
    → bits ≡ mask_l (map (λ b. leb b (top - least)) (bytes_less least (chunk first 32 divided)))
    → bits ≡ bits_of columns → AreColumns divided first least most columns
columns_held divided first least most top bits columns room small few range above below marks is found
    within less =
    let bit : (bits_of columns / 2 ^ within % 2 == cond (in_columns columns within) 1 0) ≡ true =
    all_each 32 within (λ n. has_bit columns n) less (have_bits columns) in
    same_test
    (nat_le least (mark_at divided (first + within)) && nat_le (mark_at divided (first + within)) most)
    (in_columns columns within)
    (sym (place_bit divided first least most top within room small few range above below marks less)
    ∙ ap (λ n. n / 2 ^ within % 2) (sym is ∙ found)
    ∙ eqb-true _ _ bit)

pub none_held : (divided : List ℕ) (first least most top bits : ℕ) → first + 32 ≤ length divided
    → ((k : ℕ) → get_or divided k 0 < 256) → least ≤ 100 → least ≤ most → most ≤ top → top < 256
    → ((byte : ℕ) → byte < 256 → (min byte 100 ≤ most ↔ byte ≤ top))
    → bits ≡ mask_l (map (λ b. leb b (top - least)) (bytes_less least (chunk first 32 divided)))
    → bits ≡ 0 → AreNone divided first 32 least most
none_held divided first least most top bits room small few range above below marks is none within less low
    high =
    let test : (nat_le least (mark_at divided (first + within))
    && nat_le (mark_at divided (first + within)) most)
    ≡ true =
    grind (arith, nat_tests, low, high) in
    let bit : 0 / 2 ^ within % 2 ≡ 1 =
    ap (λ n. n / 2 ^ within % 2) (sym none ∙ is)
    ∙ place_bit divided first least most top within room small few range above below marks less
    ∙ ap bit test in
    absurd (omega (arith, zero_bit (2 ^ within), bit))
  where
    zero_bit : (n : ℕ) → 0 / n % 2 ≡ 0
    zero_bit n = ap (λ m. m % 2) (zero-div n)

-- half of a divided position
half_mark : (divided : List ℕ) (byte first start half within : ℕ) → 100 < byte → first ≡ (byte - 101) * 64
    → half ≡ first + start → mark_in divided byte (start + within) ≡ mark_at divided (half + within)
half_mark divided byte first start half within great is at =
    let same : first + (start + within) ≡ half + within = omega (arith, at) in
    divided_mark divided byte first (start + within) great is ∙ ap (λ n. mark_at divided n) same

pub half_columns : (divided : List ℕ) (byte first start half least most : ℕ) (columns : Columns) → 100 < byte
    → first ≡ (byte - 101) * 64 → half ≡ first + start → AreColumns divided half least most columns
    → (within : ℕ) → within < 32
    → (nat_le least (mark_in divided byte (start + within))
    && nat_le (mark_in divided byte (start + within)) most)
    ≡ in_columns columns within
half_columns divided byte first start half least most columns great is at held within less =
    ap (λ m. nat_le least m && nat_le m most) (half_mark divided byte first start half within great is at)
    ∙ held within less

pub half_none : (divided : List ℕ) (byte first start half least most : ℕ) → 100 < byte
    → first ≡ (byte - 101) * 64 → half ≡ first + start → AreNone divided half 32 least most
    → (within : ℕ) → within < 32 → least ≤ mark_in divided byte (start + within)
    → ¬ (mark_in divided byte (start + within) ≤ most)
half_none divided byte first start half least most great is at none within less low high =
    let mark = half_mark divided byte first start half within great is at in
    none within less (omega (arith, mark, low)) (omega (arith, mark, high))

pub position_none : (divided : List ℕ) (byte first south north least most : ℕ) → 100 < byte
    → first ≡ (byte - 101) * 64 → south ≡ first → north ≡ first + 32 → AreNone divided south 32 least most
    → AreNone divided north 32 least most
    → (within : ℕ) → within < 64 → least ≤ mark_in divided byte within
    → ¬ (mark_in divided byte within ≤ most)
position_none divided byte first south north least most great is at at' none none' within less low high =
    elim (cases_lt within 32) [
      | inl before ↦
          let mark : mark_in divided byte (0 + within) ≡ mark_in divided byte within =
          ap (λ n. mark_in divided byte n) (omega arith) in
          half_none divided byte first 0 south least most great is (omega (arith, at)) none within before
          (omega (arith, mark, low)) (omega (arith, mark, high))
      | inr after ↦
          let back : 32 + (within - 32) ≡ within = omega (arith, after) in
          let mark : mark_in divided byte (32 + (within - 32)) ≡ mark_in divided byte within =
          ap (λ n. mark_in divided byte n) back in
          half_none divided byte first 32 north least most great is at' none' (within - 32)
          (omega (arith, less, after)) (omega (arith, mark, low)) (omega (arith, mark, high))
    ]
