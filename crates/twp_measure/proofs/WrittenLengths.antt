-- The text that is written for a length is a text of that length.
use Rattle.std.proofs.Common.{◌≡◌, ◌==◌, ℕ, ◌+◌, ◌*◌, ◌/◌, ◌%◌, ◌<◌, Bool, true, false, [], ◌∷◌}
use Rattle.std.proofs.Common.{◌++◌, decimal, refl, sym, inr, arith, if◌then◌else◌}
use Rattle.std.specs.Char.{digit_value}
use Rattle.std.proofs.lemmas.Bool.{eqb-true}
use Rattle.std.proofs.lemmas.Fmt.{decimal_is_IsNumeral, length-decimal-le}
use Rattle.std.proofs.lemmas.Str.{digit_value_digit}
use Rattle.twp_measure.specs.LengthTexts.{IsLength, point, digit_byte, length_text, IsShortNumber}
use Rattle.twp_measure.specs.LengthTexts.{IsDecimals, IsLengthText}

digit_value-byte : (digit : ℕ) → digit < 10 → digit_value (digit_byte digit) ≡ digit
digit_value-byte digit small =
    let worth : digit_value (digit_byte digit) + 48 ≡ digit_byte digit =
    digit_value_digit (digit_byte digit) (omega arith) in
    omega arith

-- two decimals, or three
two_decimals : (a b : ℕ) → a < 10 → b < 10 → IsDecimals (digit_byte a ∷ digit_byte b ∷ []) (100 * a + 10 * b)
two_decimals a b small-a small-b =
    let first : digit_value (digit_byte a) ≡ a = digit_value-byte a small-a in
    let second : digit_value (digit_byte b) ≡ b = digit_value-byte b small-b in
    record {
      numeral = (omega arith, (omega arith, (omega arith, tt)));
      places = omega arith;
      value = omega arith;
    }

three_decimals : (a b c : ℕ) → a < 10 → b < 10 → c < 10
    → IsDecimals (digit_byte a ∷ digit_byte b ∷ digit_byte c ∷ []) (100 * a + 10 * b + c)
three_decimals a b c small-a small-b small-c =
    let first : digit_value (digit_byte a) ≡ a = digit_value-byte a small-a in
    let second : digit_value (digit_byte b) ≡ b = digit_value-byte b small-b in
    let third : digit_value (digit_byte c) ≡ c = digit_value-byte c small-c in
    record {
      numeral = (omega arith, (omega arith, (omega arith, (omega arith, tt))));
      places = omega arith;
      value = omega arith;
    }

whole_chains : (chains : ℕ) → chains < 100 → IsShortNumber (decimal chains) chains
whole_chains chains small =
    let numeral = decimal_is_IsNumeral chains (omega arith) in
    record {
      numeral = numeral.0;
      places = length-decimal-le 2 chains (omega arith) small (omega arith);
      value = sym numeral.1;
    }

written_by : (v : ℕ) (third : Bool) → IsLength v → (v % 10 == 0) ≡ third
    → IsLengthText
    (decimal (v / 1000) ++ point ∷ digit_byte (v / 100 % 10) ∷ digit_byte (v / 10 % 10)
    ∷ (if third then [] else digit_byte (v % 10) ∷ []))
    v
written_by v true bound none =
    let zero_third : v % 10 ≡ 0 = eqb-true _ _ none in
    inr (record {
      whole = decimal (v / 1000);
      decimals = digit_byte (v / 100 % 10) ∷ digit_byte (v / 10 % 10) ∷ [];
      chains = v / 1000;
      thousandths = 100 * (v / 100 % 10) + 10 * (v / 10 % 10);
      before = whole_chains (v / 1000) (omega arith);
      after = two_decimals (v / 100 % 10) (v / 10 % 10) (omega arith) (omega arith);
      text_is = refl;
      value = omega arith;
    })
written_by v false bound some =
    inr (record {
      whole = decimal (v / 1000);
      decimals = digit_byte (v / 100 % 10) ∷ digit_byte (v / 10 % 10) ∷ digit_byte (v % 10) ∷ [];
      chains = v / 1000;
      thousandths = 100 * (v / 100 % 10) + 10 * (v / 10 % 10) + v % 10;
      before = whole_chains (v / 1000) (omega arith);
      after = three_decimals (v / 100 % 10) (v / 10 % 10) (v % 10) (omega arith) (omega arith) (omega arith);
      text_is = refl;
      value = omega arith;
    })

pub written_is_length : (v : ℕ) → IsLength v → IsLengthText (length_text v) v
written_is_length v bound = written_by v (v % 10 == 0) bound refl
