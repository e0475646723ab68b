-- The loop that looks for the longest suffix that fits.
use Rattle.std.proofs.Common.{◌≡◌, ℕ, ◌+◌, ◌-◌, ◌<◌, ◌≤◌, not, List, [], ◌∷◌, true≢false}
use Rattle.std.proofs.Common.{◌++◌, length, take, drop, reverse, sym, ap, ap₂, ◌∙◌, arith}
use Rattle.std.proofs.Common.{append_assoc, nat_le, nat_lt, le-ltb, lt-ltb, take_all}
use Rattle.std.proofs.lemmas.List.{append-nil, reverse-append, reverse-reverse, drop_all, take_rest}
use Rattle.twp_excerpt.specs.Signs.{Sign, signs, in_line, width}
use Rattle.twp_excerpt.specs.Excerpts.{line_width, front_within, end_within}
use Rattle.twp_excerpt.specs.steps.Views.{IsBetweenSigns}
use Rattle.twp_excerpt.proofs.ExcerptFacts.{between_end, front_goes_on, front_stops, front_of_none}
use Rattle.twp_excerpt.proofs.ExcerptFacts.{line_width_append, line_width_next, line_width_last, PastSign}
use Rattle.twp_excerpt.proofs.FitFacts.{cut_if}
use Rattle.twp_excerpt.proofs.SignFacts.{no_signs}

-- a suffix that fits so far
pub record EndSoFar (bytes : List ℕ) (room at columns : ℕ) : Type 0 where
  pub between : IsBetweenSigns bytes at
  pub columns_is : columns ≡ line_width (signs (drop at bytes))
  pub kept : front_within room (reverse (signs bytes))
      ≡ reverse (signs (drop at bytes))
      ++ front_within (room - columns) (reverse (signs (take at bytes)))

pub end_begins : (bytes : List ℕ) (room : ℕ) → EndSoFar bytes room (length bytes) 0
end_begins bytes room =
    let none : signs (drop (length bytes) bytes) ≡ [] =
    ap signs (drop_all (length bytes) bytes (omega arith)) ∙ no_signs in
    let nothing_off : room - 0 ≡ room = omega arith in
    let all : take (length bytes) bytes ≡ bytes = take_all (length bytes) bytes (omega arith) in
    record {
      between = between_end bytes;
      columns_is = ap line_width (sym none);
      kept =
          ap₂ (λ s l. reverse s ++ front_within room (reverse (signs l))) (sym none) (sym all)
          ∙ ap
          (λ n.
          reverse (signs (drop (length bytes) bytes))
          ++ front_within n (reverse (signs (take (length bytes) bytes))))
          (sym nothing_off);
    }

pub end_grows : (bytes : List ℕ) (room at columns size more : ℕ) (sign : Sign) → PastSign bytes at size sign
    → more ≡ width (in_line sign) → columns + more ≤ room → EndSoFar bytes room at columns
    → EndSoFar bytes room (at - size) (columns + more)
end_grows bytes room at columns size more sign past more_is fits so_far =
    let before = signs (take (at - size) bytes) in
    let after = signs (drop at bytes) in
    let turned : reverse (before ++ sign ∷ []) ≡ sign ∷ reverse before =
    reverse-append before (sign ∷ []) in
    let left : room - columns - width (in_line sign) ≡ room - (columns + more) = omega (arith, more_is) in
    record {
      between = past.between;
      columns_is =
          omega (arith, so_far.columns_is, more_is, line_width_next sign after, ap line_width past.rest_is);
      kept =
          so_far.kept
          ∙ ap (λ s. reverse after ++ front_within (room - columns) (reverse s)) past.front_is
          ∙ ap (λ s. reverse after ++ front_within (room - columns) s) turned
          ∙ ap (λ s. reverse after ++ s)
          (front_goes_on (room - columns) sign (reverse before) (omega (arith, more_is)))
          ∙ ap (λ n. reverse after ++ (sign ∷ front_within n (reverse before))) left
          ∙ sym
          (append_assoc (reverse after) (sign ∷ []) (front_within (room - (columns + more)) (reverse before)))
          ∙ ap (λ s. s ++ front_within (room - (columns + more)) (reverse before))
          (sym (reverse-append (sign ∷ []) after))
          ∙ ap (λ s. reverse s ++ front_within (room - (columns + more)) (reverse before)) (sym past.rest_is);
    }

-- the suffix is found: all signs, or those after one that does not fit
pub record EndFound (bytes : List ℕ) (room at : ℕ) : Type 0 where
  pub kept : signs (take (length bytes - at) (drop at bytes)) ≡ end_within room (signs bytes)
  pub cut : nat_lt 0 at ≡ not (nat_le (line_width (signs bytes)) room)

width_at : (bytes : List ℕ) (room at columns : ℕ) → EndSoFar bytes room at columns
    → line_width (signs bytes) ≡ line_width (signs (take at bytes)) + columns
width_at bytes room at columns so_far =
    omega (
      arith,
      ap line_width so_far.between,
      line_width_append (signs (take at bytes)) (signs (drop at bytes)),
      so_far.columns_is,
    )

-- reversing the signs twice gives the same signs
turned_back : (bytes : List ℕ) (at : ℕ) (rest all : List Sign)
    → all ≡ reverse (signs (drop at bytes)) ++ rest → rest ≡ []
    → signs (take (length bytes - at) (drop at bytes)) ≡ reverse all
turned_back bytes at rest all is none =
    ap signs (take_rest bytes at) ∙ sym (reverse-reverse (signs (drop at bytes)))
    ∙ ap reverse
    (sym (append-nil (reverse (signs (drop at bytes))))
    ∙ ap (λ s. reverse (signs (drop at bytes)) ++ s) (sym none)
    ∙ sym is)

pub end_whole_found : (bytes : List ℕ) (room at columns : ℕ) → at ≤ 0 → columns ≤ room
    → EndSoFar bytes room at columns → EndFound bytes room at
end_whole_found bytes room at columns start fits so_far =
    let zero_is : at ≡ 0 = omega arith in
    let none : signs (take at bytes) ≡ [] = ap (λ n. signs (take n bytes)) zero_is ∙ no_signs in
    let wide = width_at bytes room at columns so_far in
    let none_wide = ap line_width none in
    let all : line_width (signs bytes) ≤ room = omega (arith, wide, none_wide) in
    record {
      kept =
          turned_back bytes at _ _ so_far.kept
          (ap (λ s. front_within (room - columns) (reverse s)) none ∙ front_of_none (room - columns));
      cut =
          cut_if (nat_lt 0 at) _ room (λ _. all)
          (λ more. absurd (true≢false (sym more ∙ le-ltb 0 at (omega arith))));
    }

pub end_cut_found : (bytes : List ℕ) (room at columns size more : ℕ) (sign : Sign) → 0 < at
    → PastSign bytes at size sign → more ≡ width (in_line sign) → columns ≤ room → room < columns + more
    → EndSoFar bytes room at columns → EndFound bytes room at
end_cut_found bytes room at columns size more sign within past more_is fits over so_far =
    let before = signs (take (at - size) bytes) in
    let turned : reverse (before ++ sign ∷ []) ≡ sign ∷ reverse before =
    reverse-append before (sign ∷ []) in
    let wide = width_at bytes room at columns so_far in
    let past_wide = ap line_width past.front_is ∙ line_width_last before sign in
    let all : room < line_width (signs bytes) = omega (arith, wide, past_wide, more_is) in
    record {
      kept =
          turned_back bytes at _ _ so_far.kept
          (ap (λ s. front_within (room - columns) (reverse s)) past.front_is
          ∙ ap (front_within (room - columns)) turned
          ∙ front_stops (room - columns) sign (reverse before) (omega (arith, more_is)));
      cut =
          cut_if (nat_lt 0 at) _ room
          (λ no_more. absurd (true≢false (sym (lt-ltb 0 at within) ∙ no_more))) (λ _. all);
    }
