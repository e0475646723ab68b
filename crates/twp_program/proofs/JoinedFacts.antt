-- The place of the first line feed.
use Rattle.std.proofs.Common.{◌≡◌, ◌==◌, ℕ, List, Option, Some, None, length, sym, inl, inr, arith}
use Rattle.std.specs.Prelude.{unwrap_or}
use Rattle.std.specs.List.{position_or_len}
use Rattle.std.proofs.lemmas.Bool.{cases_Bool}
use Rattle.std.proofs.lemmas.List.Sums.{position_or_len_is}
use Rattle.memchr.specs.Find.{IsFirstByte, is_byte}

pub first_byte : (bytes : List ℕ) (byte : ℕ) (found : Option ℕ) → IsFirstByte (is_byte byte) bytes found
    → unwrap_or found (length bytes) ≡ position_or_len (λ b. b == byte) bytes
first_byte bytes byte None none =
    sym
    (position_or_len_is (λ b. b == byte) bytes (length bytes) 0 (omega arith)
    (λ k below. elim (cases_Bool _) [
      | inl is ↦ absurd (none k (omega arith) below is)
      | inr not ↦ not
    ]) (λ below. absurd (omega arith)))
first_byte bytes byte (Some at_) is =
    sym
    (position_or_len_is (λ b. b == byte) bytes at_ 0 (omega (arith, is.0.high))
    (λ k below. elim (cases_Bool _) [
      | inl passes ↦ absurd (is.0.before k (omega arith) below passes)
      | inr not ↦ not
    ]) (λ _. is.1))
