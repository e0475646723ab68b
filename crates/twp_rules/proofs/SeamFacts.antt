-- Whether bytes end with a step, from the last byte backward; over plain values.
use Rattle.std.proofs.Common.{◌≡◌, ◌<◌, ◌≤◌, ◌+◌, ◌-◌, Bool, true, false, List, ℕ, zero, suc, refl, ◌∙◌}
use Rattle.std.proofs.Common.{arith, drop, if◌then◌else◌, length, slice_index}
use Rattle.std.proofs.Math.Seq.{drop-cons}
use Rattle.twp_grammar.specs.Tokens.{is_white}
use Rattle.twp_rules.specs.Apart.{ends_after, ends_step}

-- a byte, and the rest after it
next_byte : (ends : Bool) (bytes : List ℕ) (at : ℕ) → at < length bytes
    → ends_after ends bytes at (drop at bytes)
    ≡ ends_after (if is_white (slice_index bytes at) then ends else ends_step bytes at) bytes (suc at)
    (drop (suc at) bytes)
next_byte ends bytes at within =
    let e = drop-cons bytes at 0 within in
    rw e refl

-- what the bytes from a place on decide, whatever is before them, all bytes decide
from_beginning : (bytes : List ℕ) (at : ℕ) (answer : Bool) → at ≤ length bytes
    → ((ends : Bool) → ends_after ends bytes at (drop at bytes) ≡ answer)
    → (ends : Bool) → ends_after ends bytes 0 bytes ≡ answer
from_beginning bytes zero answer within decides ends = decides ends
from_beginning bytes (suc at) answer within decides ends =
    from_beginning bytes at answer (omega arith)
    (λ (before : Bool). next_byte before bytes at (omega arith)
    ∙ decides (if is_white (slice_index bytes at) then before else ends_step bytes at)) ends

-- white space is passed over
pub white_is_passed : (bytes : List ℕ) (count : ℕ) → count < length bytes
    → is_white (slice_index bytes (length bytes - 1 - count)) ≡ true
    → ((ends : Bool)
    → ends_after ends bytes (length bytes - count) (drop (length bytes - count) bytes) ≡ ends)
    → (ends : Bool)
    → ends_after ends bytes (length bytes - (count + 1)) (drop (length bytes - (count + 1)) bytes) ≡ ends
white_is_passed bytes count within white rest ends =
    let here : length bytes - (count + 1) ≡ length bytes - 1 - count = omega arith in
    let next : length bytes - count ≡ suc (length bytes - 1 - count) = omega arith in
    rw here (next_byte ends bytes (length bytes - 1 - count) (omega arith)
    ∙ rw white (rw next at rest ends))

-- the last byte that isn't white space decides
pub last_decides : (ends : Bool) (bytes : List ℕ) (count : ℕ) → count < length bytes
    → is_white (slice_index bytes (length bytes - 1 - count)) ≡ false
    → ((ends : Bool)
    → ends_after ends bytes (length bytes - count) (drop (length bytes - count) bytes) ≡ ends)
    → ends_after ends bytes 0 bytes ≡ ends_step bytes (length bytes - 1 - count)
last_decides ends bytes count within solid rest =
    let at = length bytes - 1 - count in
    let next : length bytes - count ≡ suc (length bytes - 1 - count) = omega arith in
    from_beginning bytes (length bytes - 1 - count) (ends_step bytes (length bytes - 1 - count)) (omega arith)
    (λ (before : Bool). next_byte before bytes (length bytes - 1 - count) (omega arith)
    ∙ rw solid (rw next at rest (ends_step bytes (length bytes - 1 - count)))) ends

-- if there is none, what is before them does
pub none_decides : (ends : Bool) (bytes : List ℕ)
    → ((ends : Bool) → ends_after ends bytes (length bytes - length bytes)
    (drop (length bytes - length bytes) bytes) ≡ ends)
    → ends_after ends bytes 0 bytes ≡ ends
none_decides ends bytes rest =
    let none : length bytes - length bytes ≡ 0 = omega arith in
    (rw none at rest) ends
