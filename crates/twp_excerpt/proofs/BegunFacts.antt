-- The loop that counts the columns of the signs that begin before a place.
use Rattle.std.proofs.Common.{◌≡◌, ℕ, zero, suc, ◌+◌, ◌-◌, ◌<◌, ◌≤◌, List, [], ◌∷◌, length, drop, refl, sym}
use Rattle.std.proofs.Common.{ap}
use Rattle.std.proofs.Common.{◌∙◌, arith, length-drop, drop-drop}
use Rattle.std.proofs.lemmas.List.{drop_all, take_rest}
use Rattle.twp_excerpt.specs.Signs.{Sign, sign_size, first_sign, signs, in_line, width}
use Rattle.twp_excerpt.specs.Excerpts.{line_width, begun}
use Rattle.twp_excerpt.proofs.ExcerptFacts.{line_width_next}
use Rattle.twp_excerpt.proofs.SignFacts.{signs_step, no_signs}
use Rattle.twp_excerpt.proofs.SoFar.{sign_at}

begun_next : (size : ℕ) (sign : Sign) (rest : List Sign) → 0 < size
    → begun size (sign ∷ rest) ≡ sign ∷ begun (size - sign_size sign) rest
unfolding begun
begun_next zero sign rest some = let no : ⊥ = omega arith in absurd no
begun_next (suc size) sign rest some = refl

begun_none : (size : ℕ) → begun size [] ≡ []
unfolding begun
begun_none zero = refl
begun_none (suc size) = refl

begun_zero : (line : List Sign) → begun 0 line ≡ []
unfolding begun
begun_zero line = refl

-- the columns so far
pub record BegunSoFar (bytes : List ℕ) (place at columns : ℕ) : Type 0 where
  pub all : columns + line_width (signs (drop at bytes)) ≡ line_width (signs bytes)
  pub begun_is : columns + line_width (begun (place - at) (signs (drop at bytes)))
      ≡ line_width (begun place (signs bytes))

pub begun_begins : (bytes : List ℕ) (place : ℕ) → BegunSoFar bytes place 0 0
begun_begins bytes place =
    let whole : place - 0 ≡ place = omega arith in
    record {
      all = omega arith;
      begun_is = omega (arith, ap (λ n. line_width (begun n (signs bytes))) whole);
    }

step_at : (bytes : List ℕ) (at size : ℕ) → at < length bytes → size ≡ sign_size (sign_at bytes at)
    → signs (drop at bytes) ≡ sign_at bytes at ∷ signs (drop (at + size) bytes)
step_at bytes at size within size_is =
    let rest = drop at bytes in
    let same : first_sign rest ≡ sign_at bytes at = ap first_sign (sym (take_rest bytes at)) in
    signs_step rest (omega (arith, length-drop at bytes))
    ∙ ap (λ s. s ∷ signs (drop (sign_size s) rest)) same
    ∙ ap (λ n. sign_at bytes at ∷ signs (drop n rest)) (sym size_is)
    ∙ ap (λ l. sign_at bytes at ∷ signs l) (drop-drop size at bytes)

pub begun_grows : (bytes : List ℕ) (place at columns size more : ℕ) → at < length bytes → at < place
    → size ≡ sign_size (sign_at bytes at) → more ≡ width (in_line (sign_at bytes at))
    → BegunSoFar bytes place at columns → BegunSoFar bytes place (at + size) (columns + more)
begun_grows bytes place at columns size more within ahead size_is more_is so_far =
    let sign = sign_at bytes at in
    let rest = signs (drop (at + size) bytes) in
    let step = step_at bytes at size within size_is in
    let left : place - at - sign_size sign ≡ place - (at + size) = omega (arith, size_is) in
    let next : begun (place - at) (signs (drop at bytes)) ≡ sign ∷ begun (place - (at + size)) rest =
    ap (begun (place - at)) step ∙ begun_next (place - at) sign rest (omega arith)
    ∙ ap (λ n. sign ∷ begun n rest) left in
    record {
      all = omega (arith, so_far.all, ap line_width step, line_width_next sign rest, more_is);
      begun_is =
          omega (
            arith,
            so_far.begun_is,
            ap line_width next,
            line_width_next sign (begun (place - (at + size)) rest),
            more_is,
          );
    }

pub begun_at_end : (bytes : List ℕ) (place at columns : ℕ) → length bytes ≤ at
    → BegunSoFar bytes place at columns → columns ≡ line_width (begun place (signs bytes))
begun_at_end bytes place at columns over so_far =
    let none : begun (place - at) (signs (drop at bytes)) ≡ [] =
    ap (λ l. begun (place - at) (signs l)) (drop_all at bytes over)
    ∙ ap (begun (place - at)) no_signs ∙ begun_none (place - at) in
    omega (arith, so_far.begun_is, ap line_width none)

pub begun_at_place : (bytes : List ℕ) (place at columns : ℕ) → place ≤ at
    → BegunSoFar bytes place at columns → columns ≡ line_width (begun place (signs bytes))
begun_at_place bytes place at columns over so_far =
    let zero_is : place - at ≡ 0 = omega arith in
    let none : begun (place - at) (signs (drop at bytes)) ≡ [] =
    ap (λ n. begun n (signs (drop at bytes))) zero_is ∙ begun_zero (signs (drop at bytes)) in
    omega (arith, so_far.begun_is, ap line_width none)
