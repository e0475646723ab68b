-- A plain row is its own plain row.
use Rattle.std.proofs.Common.{◌≡◌, ◌==◌, ◌&&◌, ℕ, ◌+◌, ◌-◌, Bool, true, false, not, List, [], ◌∷◌, ◌++◌}
use Rattle.std.proofs.Common.{length, take, get_or, refl, ap, sym, ◌∙◌, arith, if◌then◌else◌}
use Rattle.std.specs.Char.{is_ascii_digit}
use Rattle.std.specs.List.{list_all}
use Rattle.std.specs.Prelude.{codes}
use Rattle.std.proofs.lemmas.Bool.{eqb-true, false≢true}
use Rattle.std.proofs.lemmas.List.{get_or_append_left, get_or-append-add, length-append}
use Rattle.std.proofs.lemmas.List.Folds.{list_all-append}
use Rattle.twp_plat.specs.PlainTables.{decimal_point, before_empty, trimmed, is_digits, has_one_decimal}
use Rattle.twp_plat.specs.PlainTables.{with_two_decimals, with_acres}

-- trimming twice
before_some : (cell next : List ℕ) (more : List (List ℕ))
    → before_empty cell (next ∷ more) ≡ cell ∷ next ∷ more
before_some [] next more = refl
before_some (byte ∷ bytes) next more = refl

before_trimmed : (cell : List ℕ) (cells : List (List ℕ)) → trimmed cells ≡ cells
    → trimmed (before_empty cell cells) ≡ before_empty cell cells
before_trimmed [] [] is = refl
before_trimmed [] (next ∷ more) is = ap (before_empty []) is
before_trimmed (byte ∷ bytes) cells is = ap (λ (cells : List (List ℕ)). (byte ∷ bytes) ∷ cells) is

pub trimmed_twice : (cells : List (List ℕ)) → trimmed (trimmed cells) ≡ trimmed cells
trimmed_twice [] = refl
trimmed_twice (cell ∷ cells) = before_trimmed cell (trimmed cells) (trimmed_twice cells)

-- the tail of a trimmed row is trimmed
tail_by : (cell : List ℕ) (cells made : List (List ℕ)) → before_empty cell made ≡ cell ∷ cells
    → made ≡ cells
tail_by [] cells [] is = cc
tail_by [] cells (next ∷ more) is = cc
tail_by (byte ∷ bytes) cells made is = cc

trimmed_tail : (cell : List ℕ) (cells : List (List ℕ)) → trimmed (cell ∷ cells) ≡ cell ∷ cells
    → trimmed cells ≡ cells
trimmed_tail cell cells is = tail_by cell cells (trimmed cells) is

-- a number with more decimals is no empty cell
decimals_some : (byte : ℕ) (bytes : List ℕ) (digits tenths : Bool) (more : List (List ℕ))
    → before_empty
    (if digits then (byte ∷ bytes) ++ codes ".00"
    else (if tenths then (byte ∷ bytes) ++ codes "0" else (byte ∷ bytes))) more
    ≡ (if digits then (byte ∷ bytes) ++ codes ".00"
    else (if tenths then (byte ∷ bytes) ++ codes "0" else (byte ∷ bytes))) ∷ more
decimals_some byte bytes true tenths more = refl
decimals_some byte bytes false true more = refl
decimals_some byte bytes false false more = refl

decimals_before : (cell : List ℕ) (more : List (List ℕ)) → before_empty cell more ≡ cell ∷ more
    → before_empty (with_two_decimals cell) more ≡ with_two_decimals cell ∷ more
decimals_before [] more is = is
decimals_before (byte ∷ bytes) more is =
    decimals_some byte bytes (is_digits (byte ∷ bytes)) (has_one_decimal (byte ∷ bytes)) more

pub acres_trimmed : (cells : List (List ℕ)) → trimmed cells ≡ cells
    → trimmed (with_acres cells) ≡ with_acres cells
acres_trimmed [] is = is
acres_trimmed (section ∷ []) is = is
acres_trimmed (section ∷ lot ∷ []) is = is
acres_trimmed (section ∷ lot ∷ acres ∷ more) is =
    let third : trimmed (acres ∷ more) ≡ acres ∷ more =
    trimmed_tail lot (acres ∷ more) (trimmed_tail section (lot ∷ acres ∷ more) is) in
    let rest : trimmed more ≡ more = trimmed_tail acres more third in
    let here : before_empty acres more ≡ acres ∷ more =
    ap (before_empty acres) (sym rest) ∙ third in
    let made : before_empty (with_two_decimals acres) (trimmed more) ≡ with_two_decimals acres ∷ more =
    ap (before_empty (with_two_decimals acres)) rest ∙ decimals_before acres more here in
    ap (λ (cells : List (List ℕ)). before_empty section (before_empty lot cells)) made
    ∙ ap (before_empty section) (before_some lot (with_two_decimals acres) more)
    ∙ before_some section lot (with_two_decimals acres ∷ more)

-- two decimals once more
both : (a b : Bool) → (a && b) ≡ true → (a ≡ true) × (b ≡ true)
both true b is = (refl, is)
both false b is = absurd (false≢true is)

and_false : (a b : Bool) → b ≡ false → (a && b) ≡ false
and_false true b is = is
and_false false b is = refl

not_digits : (cell decimals : List ℕ) → list_all is_ascii_digit decimals ≡ false
    → is_digits (cell ++ decimals) ≡ false
not_digits cell decimals none =
    and_false _ _ (list_all-append is_ascii_digit cell decimals ∙ and_false _ _ none)

not_empty : (byte : ℕ) (text : List ℕ) → (length (byte ∷ text) == 0) ≡ false
not_empty byte text = grind arith

all_by : (some all : Bool) → (not some && all) ≡ false → some ≡ false → all ≡ false
all_by true all is none = absurd (false≢true (sym none))
all_by false all is none = is

digits_more : (cell : List ℕ) → is_digits cell ≡ false → has_one_decimal cell ≡ true
    → is_digits (cell ++ codes "0") ≡ false
digits_more [] none tenths = absurd (false≢true tenths)
digits_more (byte ∷ cell) none tenths =
    let all : list_all is_ascii_digit (byte ∷ cell) ≡ false =
    all_by (length (byte ∷ cell) == 0) _ none (not_empty byte cell) in
    and_false _ _
    (list_all-append is_ascii_digit (byte ∷ cell) (codes "0")
    ∙ ap (λ (all : Bool). all && list_all is_ascii_digit (codes "0")) all)

-- the byte before the last is a point in a number with one decimal, and not in one with two
middle_false : (a b c : Bool) → b ≡ false → (a && b && c) ≡ false
middle_false true true c is = absurd (false≢true (sym is))
middle_false true false c is = refl
middle_false false b c is = refl

last_true : (a b c : Bool) → (a && b && c) ≡ true → c ≡ true
last_true true true c is = is
last_true true false c is = absurd (false≢true is)
last_true false b c is = absurd (false≢true is)

no_point : (byte : ℕ) → (byte == decimal_point) ≡ false → (text : List ℕ)
    → get_or text (length text - 2) 0 ≡ byte → has_one_decimal text ≡ false
no_point byte other text is =
    middle_false _ _ _ (ap (λ (byte : ℕ). byte == decimal_point) is ∙ other)

digit_is_no_point : (byte : ℕ) → is_ascii_digit byte ≡ true → (point : Bool)
    → (byte == decimal_point) ≡ point → (byte == decimal_point) ≡ false
digit_is_no_point byte digit true is =
    let same : byte ≡ decimal_point = eqb-true byte decimal_point is in
    absurd (false≢true (ap is_ascii_digit (sym same) ∙ digit))
digit_is_no_point byte digit false is = is

-- the byte before the last of the longer number
before_zeros : (cell : List ℕ) → get_or (cell ++ codes ".00") (length (cell ++ codes ".00") - 2) 0 ≡ 48
before_zeros cell =
    let e : length (cell ++ codes ".00") - 2 ≡ length cell + 1 =
    simp length-append (omega arith) in
    rw e (get_or-append-add cell (codes ".00") 1 0)

before_zero : (cell : List ℕ) → has_one_decimal cell ≡ true
    → get_or (cell ++ codes "0") (length (cell ++ codes "0") - 2) 0 ≡ get_or cell (length cell - 1) 0
before_zero [] tenths = absurd (false≢true tenths)
before_zero (byte ∷ cell) tenths =
    let e : length ((byte ∷ cell) ++ codes "0") - 2 ≡ length (byte ∷ cell) - 1 =
    simp length-append (omega arith) in
    rw e (get_or_append_left (byte ∷ cell) (codes "0") 0 (length (byte ∷ cell) - 1) (omega arith))

twice_by : (cell : List ℕ) (digits tenths : Bool) → is_digits cell ≡ digits
    → has_one_decimal cell ≡ tenths
    → with_two_decimals
    (if digits then cell ++ codes ".00" else (if tenths then cell ++ codes "0" else cell))
    ≡ (if digits then cell ++ codes ".00" else (if tenths then cell ++ codes "0" else cell))
twice_by cell true tenths digits one =
    rw (not_digits cell (codes ".00") refl, no_point 48 refl (cell ++ codes ".00") (before_zeros cell)) refl
twice_by cell false true digits one =
    let last : ℕ = get_or cell (length cell - 1) 0 in
    let other : (last == decimal_point) ≡ false =
    digit_is_no_point last
    (last_true (is_digits (take (length cell - 2) cell))
    (get_or cell (length cell - 2) 0 == decimal_point) _ one)
    _ refl in
    rw (digits_more cell digits one, no_point last other (cell ++ codes "0") (before_zero cell one)) refl
twice_by cell false false digits one = rw (digits, one) refl

pub decimals_twice : (cell : List ℕ)
    → with_two_decimals (with_two_decimals cell) ≡ with_two_decimals cell
decimals_twice cell = twice_by cell _ _ refl refl

pub acres_twice : (cells : List (List ℕ)) → with_acres (with_acres cells) ≡ with_acres cells
acres_twice [] = refl
acres_twice (section ∷ []) = refl
acres_twice (section ∷ lot ∷ []) = refl
acres_twice (section ∷ lot ∷ acres ∷ more) =
    ap (λ (acres : List ℕ). section ∷ lot ∷ acres ∷ more) (decimals_twice acres)
