-- Positions whose places have the same mark, and the bytes of positions so far.
use Rattle.std.proofs.Common.{◌≡◌, ℕ, zero, suc, ◌+◌, ◌-◌, ◌*◌, ◌/◌, ◌%◌, ◌<◌, ◌≤◌, ◌==◌, ◌&&◌, Bool}
use Rattle.std.proofs.Common.{true, false}
use Rattle.std.proofs.Common.{List, [], get_or, set, length, min, nat_lt, refl, sym, ap, subst}
use Rattle.std.proofs.Common.{◌∙◌, inl, inr, arith}
use Rattle.std.proofs.lemmas.List.{get_or-replicate, get_or-set_same, get_or-set_other, get_or_past}
use Rattle.std.proofs.lemmas.List.{length-replicate}
use Rattle.std.proofs.Math.ListN.{replicate}
use Rattle.std.proofs.lemmas.Bool.{and_parts, cases_Bool, cases_lt, eq-eqb, eqb-true}
use Rattle.std.proofs.lemmas.Bool.Decides.{nat_tests}
use Rattle.twp_grid.specs.Spans.{total, one_where}
use Rattle.twp_grid.proofs.TotalFacts.{total-add, total-all_zero, total-next, total-zero}
use Rattle.twp_land.specs.LotMaps.{NO_LAND, mark_in}
use Rattle.twp_land.specs.LotMarks.{HasMarks, all_below, are_alike, is_divided, divided_count}
use Rattle.twp_land.specs.steps.Dividing.{AreDivided}

-- one more number
pub all_next : (n : ℕ) (test : ℕ → Bool) → all_below (n + 1) test ≡ (all_below n test && test n)
all_next n test =
    let next : n + 1 ≡ suc n = omega arith in
    ap (λ m. all_below m test) next

-- a test that holds for all numbers below one, and for it
pub all_more : (n : ℕ) (test : ℕ → Bool) → all_below n test ≡ true → test n ≡ true
    → all_below (n + 1) test ≡ true
all_more n test all last =
    let next : suc n ≡ n + 1 = omega arith in
    subst (λ m. all_below m test ≡ true) next (both (all_below n test) (test n) all last)
  where
    both : (a b : Bool) → a ≡ true → b ≡ true → (a && b) ≡ true
    both true true x y = refl
    both true false x y = cc y
    both false b x y = cc x

pub not_all : (k n : ℕ) (test : ℕ → Bool) → n < k → test n ≡ false → all_below k test ≡ false
not_all zero n test less fails = absurd (omega (arith, less))
not_all (suc k) n test less fails = elim (cases_lt n k) [
  | inl before ↦ first (all_below k test) (test k) (not_all k n test before fails)
  | inr last ↦
      let same : n ≡ k = omega (arith, less, last) in
      second (all_below k test) (test k) (ap test (sym same) ∙ fails)
]
  where
    first : (a b : Bool) → a ≡ false → (a && b) ≡ false
    first false b x = refl
    first true b x = cc x

    second : (a b : Bool) → b ≡ false → (a && b) ≡ false
    second true b x = x
    second false b x = refl

pub all_each : (k n : ℕ) (test : ℕ → Bool) → n < k → all_below k test ≡ true → test n ≡ true
all_each zero n test less all = absurd (omega (arith, less))
all_each (suc k) n test less all =
    let parts = and_parts (all_below k test) (test k) all in
    elim (cases_lt n k) [
      | inl before ↦ all_each k n test before parts.0
      | inr last ↦
          let same : k ≡ n = omega (arith, less, last) in
          ap test (sym same) ∙ parts.1
    ]

-- the places of such a position
pub alike_marks : (marks : List ℕ) (first n : ℕ) → n < 64 → are_alike marks first ≡ true
    → get_or marks (first + n) 0 ≡ get_or marks first 0
alike_marks marks first n less alike =
    eqb-true (get_or marks (first + n) 0) (get_or marks first 0)
    (all_each 64 n (λ n. get_or marks (first + n) 0 == get_or marks first 0) less alike)

whole_byte : (divided : List ℕ) (byte n : ℕ) → byte ≤ 100 → mark_in divided byte n ≡ byte
whole_byte divided byte n few =
    let low : nat_lt NO_LAND byte ≡ false = grind (arith, nat_tests, few) in
    rw low refl

at_most : (mark : ℕ) → min mark 100 ≤ 100
at_most mark = omega arith

pub alike_divided : (sections : List (List ℕ)) (index used : ℕ) (positions divided : List ℕ)
    → index < length positions
    → AreDivided sections index used positions divided
    → are_alike (get_or sections (index / 16) []) (index % 16 * 64) ≡ true
    → AreDivided sections (index + 1) used
    (set positions index (min (get_or (get_or sections (index / 16) []) (index % 16 * 64) 0) 100)) divided
alike_divided sections index used positions divided fits so_far alike = record {
  most = so_far.most;
  count =
      let none : one_where (is_divided sections index) ≡ 0 = rw alike refl in
      so_far.count
      ∙ omega (arith, none, total-next index (λ i. one_where (is_divided sections i)));
  bytes = λ i less. elim (cases_lt i index) [
    | inl before ↦
        omega (
          arith,
          so_far.bytes i before,
          get_or-set_other positions index i byte 0 (λ same. absurd (omega (arith, same, before))),
        )
    | inr last ↦
        let same : i ≡ index = omega (arith, less, last) in
        rw same (omega (arith, get_or-set_same positions index byte 0 fits, at_most first))
  ];
  marks = λ i n less few. elim (cases_lt i index) [
    | inl before ↦
        ap (λ b. mark_in divided b n)
        (get_or-set_other positions index i byte 0 (λ same. absurd (omega (arith, same, before))))
        ∙ so_far.marks i n before few
    | inr last ↦
        let same : i ≡ index = omega (arith, less, last) in
        rw same
        (ap (λ b. mark_in divided b n) (get_or-set_same positions index byte 0 fits)
        ∙ whole_byte divided byte n (at_most first)
        ∙ ap (λ m. min m 100)
        (sym (alike_marks (get_or sections (index / 16) []) (index % 16 * 64) n few alike)))
  ];
}
  where
    first : ℕ
    first = get_or (get_or sections (index / 16) []) (index % 16 * 64) 0

    byte : ℕ
    byte = min first 100

pub more_divided : (sections : List (List ℕ)) (index used : ℕ) (positions divided new : List ℕ)
    → index < length positions → used < 128
    → AreDivided sections index used positions divided
    → are_alike (get_or sections (index / 16) []) (index % 16 * 64) ≡ false
    → ((n d : ℕ) → n < 64 → get_or new (used * 64 + n) d
    ≡ get_or (get_or sections (index / 16) []) (index % 16 * 64 + n) 0)
    → ((i d : ℕ) → i < used * 64 → get_or new i d ≡ get_or divided i d)
    → AreDivided sections (index + 1) (used + 1) (set positions index (101 + used)) new
more_divided sections index used positions divided new fits room so_far other copied kept = record {
  most = omega (arith, room);
  count =
      let one : one_where (is_divided sections index) ≡ 1 = rw other refl in
      omega (arith, so_far.count, one, total-next index (λ i. one_where (is_divided sections i)));
  bytes = λ i less. elim (cases_lt i index) [
    | inl before ↦
        omega (
          arith,
          so_far.bytes i before,
          get_or-set_other positions index i (101 + used) 0 (λ same. absurd (omega (arith, same, before))),
        )
    | inr last ↦
        let same : i ≡ index = omega (arith, less, last) in
        rw same (omega (arith, get_or-set_same positions index (101 + used) 0 fits))
  ];
  marks = λ i n less few. elim (cases_lt i index) [
    | inl before ↦
        ap (λ b. mark_in new b n)
        (get_or-set_other positions index i (101 + used) 0 (λ same. absurd (omega (arith, same, before))))
        ∙ as_before (get_or positions i 0) n (so_far.bytes i before) few
        ∙ so_far.marks i n before few
    | inr last ↦
        let same : i ≡ index = omega (arith, less, last) in
        rw same
        (ap (λ b. mark_in new b n) (get_or-set_same positions index (101 + used) 0 fits) ∙ in_new n few)
  ];
}
  where
    as_before : (byte n : ℕ) → byte ≤ 100 + used → n < 64 → mark_in new byte n ≡ mark_in divided byte n
    as_before byte n most few = elim (cases_Bool (nat_lt NO_LAND byte)) [
      | inr low ↦ rw low refl
      | inl high ↦
          let greater : 100 < byte = grind (arith, nat_tests, high) in
          let less : (byte - 101) * 64 + n < used * 64 = omega (arith, greater, most, few) in
          rw high (ap (λ m. min m NO_LAND) (kept ((byte - 101) * 64 + n) NO_LAND less))
    ]

    in_new : (n : ℕ) → n < 64 → mark_in new (101 + used) n
        ≡ min (get_or (get_or sections (index / 16) []) (index % 16 * 64 + n) 0) 100
    in_new n few =
        let high : nat_lt NO_LAND (101 + used) ≡ true = grind (arith, nat_tests) in
        let number : 101 + used - 101 ≡ used = omega arith in
        rw high
        (ap (λ k. min (get_or new (k * 64 + n) NO_LAND) NO_LAND) number
        ∙ ap (λ m. min m 100) (copied n NO_LAND few))

-- the marks of a position, by the index of its section
pub mark_there : (sections : List (List ℕ)) (section : List ℕ) (index position n : ℕ) → position < 16
    → section ≡ get_or sections index []
    → get_or (get_or sections ((index * 16 + position) / 16) []) ((index * 16 + position) % 16 * 64 + n) 0
    ≡ get_or section (position * 64 + n) 0
mark_there sections section index position n few is =
    let here : (index * 16 + position) / 16 ≡ index = omega (arith, few) in
    let within : (index * 16 + position) % 16 * 64 + n ≡ position * 64 + n = omega (arith, few) in
    ap (λ k. get_or (get_or sections k []) ((index * 16 + position) % 16 * 64 + n) 0) here
    ∙ ap (λ k. get_or (get_or sections index []) k 0) within
    ∙ ap (λ s. get_or s (position * 64 + n) 0) (sym is)

pub first_there : (sections : List (List ℕ)) (section : List ℕ) (index position : ℕ) → position < 16
    → section ≡ get_or sections index []
    → get_or (get_or sections ((index * 16 + position) / 16) []) ((index * 16 + position) % 16 * 64) 0
    ≡ get_or section (position * 64) 0
first_there sections section index position few is =
    let none : (n : ℕ) → n + 0 ≡ n = λ n. omega arith in
    rw (none ((index * 16 + position) % 16 * 64), none (position * 64)) at
    (mark_there sections section index position 0 few is)

pub alike_there : (sections : List (List ℕ)) (section : List ℕ) (index position : ℕ) → position < 16
    → section ≡ get_or sections index []
    → are_alike (get_or sections ((index * 16 + position) / 16) []) ((index * 16 + position) % 16 * 64)
    ≡ are_alike section (position * 64)
alike_there sections section index position few is =
    let here : (index * 16 + position) / 16 ≡ index = omega (arith, few) in
    let within : (index * 16 + position) % 16 * 64 ≡ position * 64 = omega (arith, few) in
    ap (λ k. are_alike (get_or sections k []) ((index * 16 + position) % 16 * 64)) here
    ∙ ap (are_alike (get_or sections index [])) within
    ∙ ap (λ s. are_alike s (position * 64)) (sym is)

all_true : (k : ℕ) (test : ℕ → Bool) → ((n : ℕ) → test n ≡ true) → all_below k test ≡ true
all_true zero test each = refl
all_true (suc k) test each = rw (all_true k test each, each k) refl

-- zeros, and nothing after them
pub zeros : (n i : ℕ) → ◌≡◌ {A = ℕ} (get_or (replicate n 0) i 0) 0
zeros n i = elim (cases_lt i n) [
  | inl less ↦ get_or-replicate n i 0 0 less
  | inr past ↦
      let long = length-replicate {A = ℕ} n 0 in
      get_or_past (replicate n 0) i 0 (omega (arith, long, past))
]

-- a section without marks is not divided
not_divided : (sections : List (List ℕ)) (index position : ℕ) → position < 16
    → ((number : ℕ) → get_or (get_or sections index []) number 0 ≡ 0)
    → one_where (is_divided sections (index * 16 + position)) ≡ 0
not_divided sections index position few clear =
    let here : (index * 16 + position) / 16 ≡ index = omega (arith, few) in
    let none : (number : ℕ) → get_or (get_or sections ((index * 16 + position) / 16) []) number 0 ≡ 0 =
    λ number. ap (λ s. get_or (get_or sections s []) number 0) here ∙ clear number in
    let alike : are_alike (get_or sections ((index * 16 + position) / 16) [])
    ((index * 16 + position) % 16 * 64) ≡ true =
    let first = (index * 16 + position) % 16 * 64 in
    all_true 64 _ (λ n. eq-eqb _ _ (none (first + n) ∙ sym (none first))) in
    rw alike refl

-- the positions of a section without marks have the byte 0
pub clear_divided : (sections : List (List ℕ)) (index used : ℕ) (positions divided : List ℕ)
    → AreDivided sections (index * 16) used positions divided
    → ((number : ℕ) → get_or (get_or sections index []) number 0 ≡ 0)
    → ((i : ℕ) → index * 16 ≤ i → get_or positions i 0 ≡ 0)
    → AreDivided sections (index * 16 + 16) used positions divided
clear_divided sections index used positions divided so_far clear zeros = record {
  most = so_far.most;
  count =
      let sum = total-add (index * 16) 16 (λ i. one_where (is_divided sections i)) in
      let none =
      total-all_zero 16 (λ k. one_where (is_divided sections (index * 16 + k)))
      (λ k few. not_divided sections index k few clear) in
      omega (arith, so_far.count, sum, none);
  bytes = λ i less. elim (cases_lt i (index * 16)) [
    | inl before ↦ so_far.bytes i before
    | inr after ↦ omega (arith, zeros i after)
  ];
  marks = λ i n less few. elim (cases_lt i (index * 16)) [
    | inl before ↦ so_far.marks i n before few
    | inr after ↦
        let here : i / 16 ≡ index = omega (arith, less, after) in
        let none : get_or (get_or sections (i / 16) []) (i % 16 * 64 + n) 0 ≡ 0 =
        ap (λ s. get_or (get_or sections s []) (i % 16 * 64 + n) 0) here ∙ clear (i % 16 * 64 + n) in
        ap (λ b. mark_in divided b n) (zeros i after)
        ∙ whole_byte divided 0 n (omega arith)
        ∙ sym (ap (λ m. min m 100) none)
  ];
}

-- all positions
pub all_divided : (sections : List (List ℕ)) (used : ℕ) (positions divided : List ℕ)
    → AreDivided sections 576 used positions divided → HasMarks positions divided sections
all_divided sections used positions divided all section number range less =
    let index = (section - 1) * 16 + number / 64 in
    let below : index < 576 = omega (arith, range.0, range.1, less) in
    let of_section : index / 16 ≡ section - 1 = omega (arith, less) in
    let within : index % 16 * 64 + number % 64 ≡ number = omega (arith, less) in
    let rest : number % 64 < 64 = omega arith in
    all.marks index (number % 64) below rest
    ∙ ap (λ n. min (get_or (get_or sections n []) (index % 16 * 64 + number % 64) 0) 100) of_section
    ∙ ap (λ n. min (get_or (get_or sections (section - 1) []) n 0) 100) within

-- more positions are divided than can be
total_least : (k n : ℕ) (f : ℕ → ℕ) → n ≤ k → total n f ≤ total k f
unfolding total
total_least zero n f most = let none : n ≡ 0 = omega (arith, most) in rw none (omega arith)
total_least (suc k) n f most = elim (cases_lt n (suc k)) [
  | inl less ↦ omega (arith, total_least k n f (omega (arith, less)))
  | inr last ↦ let same : n ≡ suc k = omega (arith, most, last) in rw same (omega arith)
]

pub too_many : (sections : List (List ℕ)) (index used : ℕ) (positions divided : List ℕ) → index < 576
    → used ≡ 128 → AreDivided sections index used positions divided
    → are_alike (get_or sections (index / 16) []) (index % 16 * 64) ≡ false
    → 128 < divided_count sections
too_many sections index used positions divided less full so_far other =
    let f = λ (i : ℕ). one_where (is_divided sections i) in
    let one : one_where (is_divided sections index) ≡ 1 = rw other refl in
    omega
    (arith, full, so_far.count, one, total-next index f, total_least 576 (index + 1) f (omega (arith, less)))

pub none_divided : (sections : List (List ℕ)) (positions divided : List ℕ)
    → AreDivided sections 0 0 positions divided
none_divided sections positions divided = record {
  most = omega arith;
  count = sym (total-zero (λ i. one_where (is_divided sections i)));
  bytes = λ i less. absurd (omega (arith, less));
  marks = λ i n less few. absurd (omega (arith, less));
}

pub few_divided : (sections : List (List ℕ)) (used : ℕ) (positions divided : List ℕ)
    → AreDivided sections 576 used positions divided → divided_count sections ≤ 128
few_divided sections used positions divided all = omega (arith, all.most, all.count)
