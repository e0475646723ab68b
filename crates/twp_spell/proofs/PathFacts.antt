-- Paths of squares: the bytes of a quarter before those of its square.
use Rattle.std.proofs.Common.{◌-◌, ◌≡◌, ℕ, zero, suc, ◌+◌, ◌*◌, ◌<◌, ◌≤◌, List, [], ◌∷◌, ◌++◌, length}
use Rattle.std.proofs.Common.{length-append, take, min, refl, sym, ap, ◌∙◌, inl, inr, arith}
use Rattle.std.proofs.lemmas.Bool.{cases_lt}
use Rattle.std.proofs.lemmas.List.{take-append-le, length-take}
use Rattle.twp_grid.specs.declared.block.Corner.{Corner}
use Rattle.twp_grid.specs.declared.block.Corner.TheVariants.{NE, NW, SW, SE}
use Rattle.twp_grammar.specs.declared.item.Step.TheVariants.{Quarter}
use Rattle.twp_spell.specs.CanonicalText.{step_text}
use Rattle.twp_spell.specs.steps.Spelling.{QUARTER_LENGTH, PATH_MOST, quarters_text}
use Rattle.twp_grid.specs.Places.{PLACE_DIGITS}

pub take_front : (n k : ℕ) (xs ys : List ℕ) → n ≡ length xs + k → take n (xs ++ ys) ≡ xs ++ take k ys
take_front n k [] ys is = let same : n ≡ k = omega arith in ap (λ m. take m ys) same
take_front zero k (x ∷ xs) ys is = absurd (omega arith)
take_front (suc n) k (x ∷ xs) ys is = ap (λ l. x ∷ l) (take_front n k xs ys (omega arith))

pub take_less : (n m : ℕ) (xs : List ℕ) → n ≤ m → take n (take m xs) ≡ take n xs
take_less zero m xs less = refl
take_less (suc n) zero xs less = absurd (omega arith)
take_less (suc n) (suc m) [] less = refl
take_less (suc n) (suc m) (x ∷ xs) less = ap (λ l. x ∷ l) (take_less n m xs (omega arith))

take_more : (n m : ℕ) (xs : List ℕ) → m ≤ n → take n (take m xs) ≡ take m xs
take_more zero zero xs more = refl
take_more (suc n) zero xs more = refl
take_more zero (suc m) xs more = absurd (omega arith)
take_more (suc n) (suc m) [] more = refl
take_more (suc n) (suc m) (x ∷ xs) more = ap (λ l. x ∷ l) (take_more n m xs (omega arith))

pub long_quarter : (corner : Corner) → length (step_text (Quarter corner)) ≡ 5
long_quarter NE = refl
long_quarter NW = refl
long_quarter SW = refl
long_quarter SE = refl

-- the bytes that are left of a path when a quarter is added before it
abbrev SHORT : ℕ
SHORT = PATH_MOST - QUARTER_LENGTH

-- the bytes of a step, followed by as many of a path's as there is room for
pub longer : (step more rest : List ℕ) (len end : ℕ) → length step ≡ 5 → length more ≡ PATH_MOST
    → (len ≤ SHORT → end ≡ len + 5) → (SHORT < len → end ≡ PATH_MOST)
    → take end (step ++ (take SHORT more ++ rest)) ≡ take PATH_MOST (step ++ take len more)
longer step more rest len end five sixteen short long = elim (cases_lt SHORT len) [
  | inl past ↦
      let ends = long past in
      take_front end SHORT step (take SHORT more ++ rest) (omega arith)
      ∙ ap (λ l. step ++ l)
      (take-append-le SHORT (take SHORT more) rest (eleven past)
      ∙ take_less SHORT SHORT more (omega arith)
      ∙ sym (take_less SHORT len more (omega arith)))
      ∙ sym (take_front PATH_MOST SHORT step (take len more) (omega arith))
  | inr within ↦
      let ends = short (omega arith) in
      take_front end len step (take SHORT more ++ rest) (omega arith)
      ∙ ap (λ l. step ++ l)
      (take-append-le len (take SHORT more) rest (enough (omega arith))
      ∙ take_less len SHORT more (omega arith)
      ∙ sym (take_more SHORT len more (omega arith)))
      ∙ sym (take_front PATH_MOST SHORT step (take len more) (omega arith))
]
  where
    long_take : length (take SHORT more) ≡ SHORT
    long_take = rw (length-take SHORT more, sixteen) refl

    eleven : SHORT < len → SHORT ≤ length (take SHORT more)
    eleven past = let same = long_take in omega arith

    enough : len ≤ SHORT → len ≤ length (take SHORT more)
    enough less = let same = long_take in omega arith

-- a path of no more quarters than this is complete
pub long_path : (quarters : List Corner) → length (quarters_text quarters) ≡ 5 * length quarters
long_path [] = refl
long_path (corner ∷ parent) =
    long_both (step_text (Quarter corner)) (quarters_text parent) (length parent) (long_quarter corner)
    (long_path parent)
  where
    long_both : (step more : List ℕ) (k : ℕ) → length step ≡ 5 → length more ≡ 5 * k
        → length (step ++ more) ≡ 5 * suc k
    long_both step more k a b =
        let all : length (step ++ more) ≡ length step + length more = length-append step more in omega arith

take_all : (n : ℕ) (xs : List ℕ) → length xs ≤ n → take n xs ≡ xs
take_all zero [] fits = refl
take_all zero (x ∷ xs) fits = absurd (omega arith)
take_all (suc n) [] fits = refl
take_all (suc n) (x ∷ xs) fits = ap (λ l. x ∷ l) (take_all n xs (omega arith))

pub longer_path : (corner : Corner) (front zeros mid rest text path : List ℕ) (len end : ℕ)
    → front ≡ step_text (Quarter corner) → mid ≡ take SHORT text → length text ≡ PATH_MOST
    → take len text ≡ path → len ≤ PATH_MOST → end ≡ min PATH_MOST (len + 5)
    → take end (take 5 (front ++ zeros) ++ (mid ++ rest))
    ≡ take PATH_MOST (step_text (Quarter corner) ++ path)
longer_path corner front zeros mid rest text path len end front_is mid_is sixteen path_is within end_is =
    let five = long_quarter corner in
    let long : length front ≡ 5 = ap length front_is ∙ five in
    ap (λ l. take end (l ++ (mid ++ rest)))
    (take-append-le 5 front zeros (omega arith) ∙ take_all 5 front (omega arith) ∙ front_is)
    ∙ ap (λ m. take end (step_text (Quarter corner) ++ (m ++ rest))) mid_is
    ∙ longer (step_text (Quarter corner)) text rest len end five sixteen (λ less. omega arith)
    (λ more. omega arith)
    ∙ ap (λ p. take PATH_MOST (step_text (Quarter corner) ++ p)) path_is

pub path_of_quarter : (corner : Corner) (quarters : List Corner) (path inner : List ℕ)
    → length quarters < PLACE_DIGITS - 1
    → path ≡ quarters_text quarters
    → inner ≡ take PATH_MOST (step_text (Quarter corner) ++ path) → inner ≡ quarters_text (corner ∷ quarters)
path_of_quarter corner quarters path inner less path_is inner_is =
    inner_is ∙ ap (λ p. take PATH_MOST (step_text (Quarter corner) ++ p)) path_is
    ∙ take_all PATH_MOST (quarters_text (corner ∷ quarters))
    (let long = long_path (corner ∷ quarters) in omega arith)
