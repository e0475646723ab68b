-- Columns of signs, the longest prefix and suffix that fit, and the carets.
use Rattle.std.proofs.Common.{◌≡◌, ℕ, ◌+◌, ◌-◌, ◌<◌, ◌≤◌, cond, List, []}
use Rattle.std.proofs.Common.{◌∷◌, ◌++◌, length, take, drop, reverse, refl, sym, ap, ap₂, ◌∙◌, arith}
use Rattle.std.proofs.Common.{append_assoc, le-leb, length-drop, length-take-le, take_all, take-take}
use Rattle.std.proofs.Common.{drop-drop}
use Rattle.std.proofs.lemmas.Bool.{lt-leb}
use Rattle.std.proofs.lemmas.List.{append-nil, reverse-append, reverse-reverse, drop_all}
use Rattle.std.specs.List.{flat_map}
use Rattle.twp_excerpt.specs.Signs.{Sign, sign_size, first_sign, signs, in_line, width}
use Rattle.twp_excerpt.specs.Excerpts.{line_text, line_width, front_within, end_within}
use Rattle.twp_excerpt.specs.steps.Views.{IsBetweenSigns}
use Rattle.twp_excerpt.proofs.SignFacts.{signs_step, no_signs, sizes, sizes_append, sizes_of_one, signs_total}
use Rattle.twp_excerpt.proofs.SignFacts.{cut_at}

pub texts_append : (write : Sign → List ℕ) (xs ys : List Sign)
    → flat_map write (xs ++ ys) ≡ flat_map write xs ++ flat_map write ys
texts_append write [] ys = refl
texts_append write (x ∷ xs) ys =
    ap (λ t. write x ++ t) (texts_append write xs ys)
    ∙ sym (append_assoc (write x) (flat_map write xs) (flat_map write ys))

width_append : (xs ys : List ℕ) → width (xs ++ ys) ≡ width xs + width ys
width_append [] ys = omega arith
width_append (x ∷ xs) ys = omega (arith, width_append xs ys)

pub line_width_append : (xs ys : List Sign) → line_width (xs ++ ys) ≡ line_width xs + line_width ys
line_width_append xs ys =
    ap width (texts_append in_line xs ys) ∙ width_append (line_text xs) (line_text ys)

pub line_width_next : (sign : Sign) (rest : List Sign)
    → line_width (sign ∷ rest) ≡ width (in_line sign) + line_width rest
line_width_next sign rest = width_append (in_line sign) (line_text rest)

pub line_width_last : (xs : List Sign) (sign : Sign)
    → line_width (xs ++ sign ∷ []) ≡ line_width xs + width (in_line sign)
line_width_last xs sign =
    omega (arith, line_width_append xs (sign ∷ []), line_width_next sign [])

line_width_reverse : (xs : List Sign) → line_width (reverse xs) ≡ line_width xs
line_width_reverse [] = refl
line_width_reverse (x ∷ xs) =
    omega (
      arith,
      ap line_width (reverse-append (x ∷ []) xs),
      line_width_last (reverse xs) x,
      line_width_reverse xs,
      line_width_next x xs,
    )

-- the next sign fits, or it does not
pub front_goes_on : (room : ℕ) (sign : Sign) (rest : List Sign) → width (in_line sign) ≤ room
    → front_within room (sign ∷ rest) ≡ sign ∷ front_within (room - width (in_line sign)) rest
unfolding front_within
front_goes_on room sign rest fits =
    ap (λ b. cond b (sign ∷ front_within (room - width (in_line sign)) rest) [])
    (le-leb (width (in_line sign)) room fits)

pub front_stops : (room : ℕ) (sign : Sign) (rest : List Sign) → room < width (in_line sign)
    → front_within room (sign ∷ rest) ≡ []
unfolding front_within
front_stops room sign rest over =
    ap (λ b. cond b (sign ∷ front_within (room - width (in_line sign)) rest) [])
    (lt-leb (width (in_line sign)) room over)

pub front_of_none : (room : ℕ) → front_within room [] ≡ []
unfolding front_within
front_of_none room = refl

-- signs that fit are their own longest prefix and suffix
pub front_whole : (room : ℕ) (line : List Sign) → line_width line ≤ room → front_within room line ≡ line
front_whole room [] fits = front_of_none room
front_whole room (sign ∷ rest) fits =
    let wide = line_width_next sign rest in
    front_goes_on room sign rest (omega (arith, wide))
    ∙ ap (λ l. sign ∷ l) (front_whole (room - width (in_line sign)) rest (omega (arith, wide)))

pub end_whole : (room : ℕ) (line : List Sign) → line_width line ≤ room → end_within room line ≡ line
end_whole room line fits =
    ap reverse (front_whole room (reverse line) (omega (arith, line_width_reverse line)))
    ∙ reverse-reverse line

-- the signs of a text up to a place, and the next one
pub record NextSign (bytes : List ℕ) (at : ℕ) (sign : Sign) : Type 0 where
  pub between : IsBetweenSigns bytes (at + sign_size sign)
  pub front_is : signs (take (at + sign_size sign) bytes) ≡ signs (take at bytes) ++ sign ∷ []
  pub rest_is : signs (drop at bytes) ≡ sign ∷ signs (drop (at + sign_size sign) bytes)

pub between_start : (bytes : List ℕ) → IsBetweenSigns bytes 0
between_start bytes = ap (λ s. s ++ signs bytes) (sym no_signs)

pub between_end : (bytes : List ℕ) → IsBetweenSigns bytes (length bytes)
between_end bytes =
    sym (append-nil (signs bytes))
    ∙ ap₂ (λ a b. signs a ++ b) (sym (take_all (length bytes) bytes (omega arith)))
    (sym no_signs ∙ ap signs (sym (drop_all (length bytes) bytes (omega arith))))

sizes_before : (bytes : List ℕ) (at : ℕ) → at ≤ length bytes → sizes (signs (take at bytes)) ≡ at
sizes_before bytes at within = signs_total (take at bytes) ∙ length-take-le at bytes within

pub next_sign : (bytes : List ℕ) (at : ℕ) (sign : Sign) → at < length bytes → IsBetweenSigns bytes at
    → first_sign (drop at bytes) ≡ sign → NextSign bytes at sign
next_sign bytes at sign more between first =
    let front = signs (take at bytes) in
    let size = sign_size sign in
    let left = drop (at + size) bytes in
    let long = length-drop at bytes in
    let rest_is : signs (drop at bytes) ≡ sign ∷ signs left =
    signs_step (drop at bytes) (omega arith)
    ∙ ap (λ s. s ∷ signs (drop (sign_size s) (drop at bytes))) first
    ∙ ap (λ l. sign ∷ signs l) (drop-drop size at bytes) in
    let whole : signs bytes ≡ (front ++ sign ∷ []) ++ signs left =
    between ∙ ap (λ s. front ++ s) rest_is ∙ sym (append_assoc front (sign ∷ []) (signs left)) in
    let cut = cut_at (front ++ sign ∷ []) (signs left) bytes whole in
    let size_is : sizes (front ++ sign ∷ []) ≡ at + size =
    omega (arith, sizes_append front (sign ∷ []), sizes_before bytes at (omega arith), sizes_of_one sign) in
    let front_is : signs (take (at + size) bytes) ≡ front ++ sign ∷ [] =
    ap (λ n. signs (take n bytes)) (sym size_is) ∙ cut.front_is in
    record {
      between = whole ∙ ap (λ s. s ++ signs left) (sym front_is);
      front_is = front_is;
      rest_is = rest_is;
    }

-- the signs of a text from a place on, and the one before it
pub record PastSign (bytes : List ℕ) (at size : ℕ) (sign : Sign) : Type 0 where
  pub between : IsBetweenSigns bytes (at - size)
  pub front_is : signs (take at bytes) ≡ signs (take (at - size) bytes) ++ sign ∷ []
  pub rest_is : signs (drop (at - size) bytes) ≡ sign ∷ signs (drop at bytes)

pub past_sign : (bytes : List ℕ) (at size : ℕ) (sign : Sign) → at ≤ length bytes → IsBetweenSigns bytes at
    → signs (take at bytes) ≡ signs (take (length (take at bytes) - size) (take at bytes)) ++ sign ∷ []
    → PastSign bytes at size sign
past_sign bytes at size sign within between last =
    let front = signs (take (at - size) bytes) in
    let rest = signs (drop at bytes) in
    let shorter : take (length (take at bytes) - size) (take at bytes) ≡ take (at - size) bytes =
    ap (λ n. take (n - size) (take at bytes)) (length-take-le at bytes within)
    ∙ take-take (at - size) at bytes (omega arith) in
    let front_is : signs (take at bytes) ≡ front ++ sign ∷ [] =
    last ∙ ap (λ l. signs l ++ sign ∷ []) shorter in
    let whole : signs bytes ≡ front ++ (sign ∷ rest) =
    between ∙ ap (λ s. s ++ rest) front_is ∙ append_assoc front (sign ∷ []) rest in
    let cut = cut_at front (sign ∷ rest) bytes whole in
    let size_is : sizes front ≡ at - size = sizes_before bytes (at - size) (omega arith) in
    let rest_is : signs (drop (at - size) bytes) ≡ sign ∷ rest =
    ap (λ n. signs (drop n bytes)) (sym size_is) ∙ cut.rest_is in
    record {
      between = whole ∙ ap (λ s. front ++ s) (sym rest_is);
      front_is = front_is;
      rest_is = rest_is;
    }
