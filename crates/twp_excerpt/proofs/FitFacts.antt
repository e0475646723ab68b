-- The loops that look for the longest prefix and the longest suffix that fit, and the loop that
-- counts carets.
use Rattle.std.proofs.Common.{◌≡◌, ℕ, ◌+◌, ◌-◌, ◌<◌, ◌≤◌, Bool, true, false, not, List, [], ◌∷◌}
use Rattle.std.proofs.Common.{◌++◌, length, take, drop, refl, sym, ap, ap₂, subst, ◌∙◌, arith}
use Rattle.std.proofs.Common.{append_assoc, nat_le, nat_lt, le-leb, le-ltb, lt-ltb, true≢false}
use Rattle.std.proofs.lemmas.Bool.{lt-leb}
use Rattle.std.proofs.lemmas.List.{append-nil, drop_all, take_rest}
use Rattle.twp_excerpt.specs.Signs.{Sign, sign_size, first_sign, signs, in_line, width}
use Rattle.twp_excerpt.specs.Excerpts.{line_width, front_within}
use Rattle.twp_excerpt.specs.steps.Views.{IsBetweenSigns}
use Rattle.twp_excerpt.proofs.ExcerptFacts.{front_goes_on, front_stops, front_of_none, line_width_append}
use Rattle.twp_excerpt.proofs.ExcerptFacts.{line_width_next, line_width_last, NextSign, next_sign}
use Rattle.twp_excerpt.proofs.SignFacts.{no_signs}
use Rattle.twp_excerpt.proofs.SoFar.{sign_at}

-- whether a prefix or a suffix is cut, by the columns of all signs
pub cut_if : (over : Bool) (wide room : ℕ) → (over ≡ false → wide ≤ room) → (over ≡ true → room < wide)
    → over ≡ not (nat_le wide room)
cut_if true wide room fits exceeds = ap not (sym (lt-leb wide room (exceeds refl)))
cut_if false wide room fits exceeds = ap not (sym (le-leb wide room (fits refl)))

pub next_at : (bytes : List ℕ) (at : ℕ) → at < length bytes → IsBetweenSigns bytes at
    → NextSign bytes at (sign_at bytes at)
next_at bytes at more between =
    next_sign bytes at (sign_at bytes at) more between (ap first_sign (sym (take_rest bytes at)))

-- a prefix that fits so far
pub record FrontSoFar (bytes : List ℕ) (room at columns : ℕ) : Type 0 where
  pub between : IsBetweenSigns bytes at
  pub columns_is : columns ≡ line_width (signs (take at bytes))
  pub kept : front_within room (signs bytes)
      ≡ signs (take at bytes) ++ front_within (room - columns) (signs (drop at bytes))

pub front_begins : (bytes : List ℕ) (room : ℕ) → FrontSoFar bytes room 0 0
front_begins bytes room = let all : room - 0 ≡ room = omega arith in record {
  between = ap (λ s. s ++ signs bytes) (sym no_signs);
  columns_is = ap line_width (sym no_signs);
  kept = ap₂ (λ s n. s ++ front_within n (signs bytes)) (sym no_signs) (sym all);
}

front_grows_by : (bytes : List ℕ) (room at columns : ℕ) (sign : Sign) → NextSign bytes at sign
    → columns + width (in_line sign) ≤ room → FrontSoFar bytes room at columns
    → FrontSoFar bytes room (at + sign_size sign) (columns + width (in_line sign))
front_grows_by bytes room at columns sign next fits so_far =
    let more = width (in_line sign) in
    let front = signs (take at bytes) in
    let rest = signs (drop (at + sign_size sign) bytes) in
    let left : room - columns - more ≡ room - (columns + more) = omega arith in
    record {
      between = next.between;
      columns_is =
          omega (arith, so_far.columns_is, line_width_last front sign, ap line_width next.front_is);
      kept =
          so_far.kept
          ∙ ap (λ s. front ++ front_within (room - columns) s) next.rest_is
          ∙ ap (λ s. front ++ s) (front_goes_on (room - columns) sign rest (omega arith))
          ∙ ap (λ n. front ++ (sign ∷ front_within n rest)) left
          ∙ sym (append_assoc front (sign ∷ []) (front_within (room - (columns + more)) rest))
          ∙ ap (λ s. s ++ front_within (room - (columns + more)) rest) (sym next.front_is);
    }

pub front_grows : (bytes : List ℕ) (room at columns size more : ℕ) → at < length bytes
    → size ≡ sign_size (sign_at bytes at) → more ≡ width (in_line (sign_at bytes at))
    → columns + more ≤ room → FrontSoFar bytes room at columns
    → FrontSoFar bytes room (at + size) (columns + more)
front_grows bytes room at columns size more within size_is more_is fits so_far =
    let sign = sign_at bytes at in
    subst (λ n. FrontSoFar bytes room (at + n) (columns + more)) (sym size_is)
    (subst (λ n. FrontSoFar bytes room (at + sign_size sign) (columns + n)) (sym more_is)
    (front_grows_by bytes room at columns sign (next_at bytes at within so_far.between)
    (omega (arith, more_is)) so_far))

-- the prefix is found: all signs, or those before one that does not fit
pub record FrontFound (bytes : List ℕ) (room at : ℕ) : Type 0 where
  pub kept : signs (take at bytes) ≡ front_within room (signs bytes)
  pub cut : nat_lt at (length bytes) ≡ not (nat_le (line_width (signs bytes)) room)

width_at : (bytes : List ℕ) (room at columns : ℕ) → FrontSoFar bytes room at columns
    → line_width (signs bytes) ≡ columns + line_width (signs (drop at bytes))
width_at bytes room at columns so_far =
    omega (
      arith,
      ap line_width so_far.between,
      line_width_append (signs (take at bytes)) (signs (drop at bytes)),
      so_far.columns_is,
    )

pub front_whole_found : (bytes : List ℕ) (room at columns : ℕ) → length bytes ≤ at → columns ≤ room
    → FrontSoFar bytes room at columns → FrontFound bytes room at
front_whole_found bytes room at columns over fits so_far =
    let none : signs (drop at bytes) ≡ [] = ap signs (drop_all at bytes over) ∙ no_signs in
    let wide = width_at bytes room at columns so_far in
    let none_wide = ap line_width none in
    let all : line_width (signs bytes) ≤ room = omega (arith, wide, none_wide) in
    record {
      kept =
          sym (so_far.kept
          ∙ ap (λ s. signs (take at bytes) ++ front_within (room - columns) s) none
          ∙ ap (λ s. signs (take at bytes) ++ s) (front_of_none (room - columns))
          ∙ append-nil (signs (take at bytes)));
      cut =
          cut_if (nat_lt at (length bytes)) _ room (λ _. all)
          (λ more. absurd (true≢false (sym more ∙ le-ltb at (length bytes) over)));
    }

pub front_cut_found : (bytes : List ℕ) (room at columns more : ℕ) → at < length bytes
    → more ≡ width (in_line (sign_at bytes at)) → columns ≤ room → room < columns + more
    → FrontSoFar bytes room at columns → FrontFound bytes room at
front_cut_found bytes room at columns more within more_is fits over so_far =
    let sign = sign_at bytes at in
    let next = next_at bytes at within so_far.between in
    let rest = signs (drop (at + sign_size sign) bytes) in
    let wide = width_at bytes room at columns so_far in
    let next_wide = ap line_width next.rest_is ∙ line_width_next sign rest in
    let all : room < line_width (signs bytes) = omega (arith, wide, next_wide, more_is) in
    record {
      kept =
          sym (so_far.kept
          ∙ ap (λ s. signs (take at bytes) ++ front_within (room - columns) s) next.rest_is
          ∙ ap (λ s. signs (take at bytes) ++ s)
          (front_stops (room - columns) sign rest (omega (arith, more_is)))
          ∙ append-nil (signs (take at bytes)));
      cut =
          cut_if (nat_lt at (length bytes)) _ room
          (λ no_more. absurd (true≢false (sym (lt-ltb at (length bytes) within) ∙ no_more))) (λ _. all);
    }
