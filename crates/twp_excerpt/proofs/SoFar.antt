-- The loops that write sign by sign.
use Rattle.std.proofs.Common.{◌≡◌, ℕ, ◌+◌, ◌-◌, ◌<◌, ◌≤◌, List, ◌++◌, length, take, drop, sym, ap}
use Rattle.std.proofs.Common.{◌∙◌, arith, length-drop, drop-drop}
use Rattle.std.specs.Prelude.{Result, Ok, IsErr, encode_utf8_all}
use Rattle.std.specs.List.{flat_map}
use Rattle.std.proofs.lemmas.List.{take_rest, drop_all}
use Rattle.std.proofs.lemmas.Result.{IfOk-from_err}
use Rattle.twp_excerpt.specs.Signs.{Sign, Adding, AddsFront, first_sign, sign_size, signs}
use Rattle.twp_excerpt.proofs.AddingFacts.{AddedSoFar, so_far_next, so_far_failed, so_far_end}
use Rattle.twp_excerpt.proofs.SignFacts.{signs_step, no_signs}

-- the first sign from a place on
abbrev pub sign_at : List ℕ → ℕ → Sign
sign_at bytes at = first_sign (take (length bytes - at) (drop at bytes))

-- the text that remains to be written from a place on
abbrev pub left_at : (Sign → List ℕ) → List ℕ → ℕ → List ℕ
left_at write bytes at = flat_map write (signs (drop at bytes))

module _ (write : Sign → List ℕ) (bytes : List ℕ) (at size : ℕ) (more : at < length bytes)
    (size_is : size ≡ sign_size (sign_at bytes at)) where
  pub left_next : left_at write bytes at ≡ write (sign_at bytes at) ++ left_at write bytes (at + size)
  left_next =
      let rest = drop at bytes in
      let same : first_sign rest ≡ sign_at bytes at = ap first_sign (sym (take_rest bytes at)) in
      let size_same : sign_size (first_sign rest) ≡ size = ap sign_size same ∙ sym size_is in
      ap (flat_map write) (signs_step rest (omega (arith, length-drop at bytes)))
      ∙ ap (λ s. write s ++ flat_map write (signs (drop (sign_size (first_sign rest)) rest))) same
      ∙ ap (λ n. write (sign_at bytes at) ++ flat_map write (signs (drop n rest))) size_same
      ∙ ap (λ l. write (sign_at bytes at) ++ flat_map write (signs l)) (drop-drop size at bytes)

  pub sign_added : (text old out new : List ℕ) → text ≡ write (sign_at bytes at)
      → AddedSoFar (flat_map write (signs bytes)) (left_at write bytes at) old out
      → new ≡ out ++ encode_utf8_all text
      → AddedSoFar (flat_map write (signs bytes)) (left_at write bytes (at + size)) old new
  sign_added text old out new is so_far e =
      so_far_next _ _ text _ old out new so_far
      (left_next ∙ ap (λ t. t ++ left_at write bytes (at + size)) (sym is)) e

  pub sign_failed : {Value Error : Type 0} (text old out new : List ℕ) (failed : Result Value Error)
      → IsErr failed → text ≡ write (sign_at bytes at)
      → AddedSoFar (flat_map write (signs bytes)) (left_at write bytes at) old out
      → AddsFront text out new → Adding (flat_map write (signs bytes)) failed old new
  sign_failed text old out new failed is_err is so_far front = record {
    whole = IfOk-from_err failed _ is_err;
    front =
        so_far_failed _ _ text _ old out new so_far
        (left_next ∙ ap (λ t. t ++ left_at write bytes (at + size)) (sym is)) front;
  }

pub signs_done : {Value Error : Type 0} (write : Sign → List ℕ) (bytes old out : List ℕ) (at : ℕ)
    (value : Value) → length bytes ≤ at
    → AddedSoFar (flat_map write (signs bytes)) (left_at write bytes at) old out
    → Adding {Value = Value} {Error = Error} (flat_map write (signs bytes)) (Ok value) old out
signs_done write bytes old out at value over so_far =
    so_far_end _ _ old out value so_far
    (ap (flat_map write) (ap signs (drop_all at bytes over) ∙ no_signs))
