-- Pieces of lines and views, as the code stores them. No public contract cites this module.
use Rattle.std.specs.Prelude.{◌≡◌, ℕ, ◌++◌, List, take, drop}
use Rattle.twp_excerpt.specs.declared.kept_part.KeptPart.{KeptPart}
use Rattle.twp_excerpt.specs.declared.excerpt.View.{View as Kept}
use Rattle.twp_excerpt.specs.Signs.{signs}
use Rattle.twp_excerpt.specs.Excerpts.{ShownPart, View, piece_width}

-- the piece is stored like this
pub record IsPart (piece : ShownPart) (part : KeptPart) : Type 0 where
  pub kept_is : signs part.bytes.now ≡ piece.kept
  pub cut_is : part.cut ≡ piece.is_cut
  pub columns_is : part.columns ≡ piece_width piece

-- the view is stored like this
pub record IsKept (view : View) (kept : Kept) : Type 0 where
  pub before_is : IsPart view.before kept.before
  pub ahead_is : IsPart view.ahead kept.ahead
  pub carets_is : kept.carets ≡ view.carets

-- a place in some bytes that does not split a sign
abbrev pub IsBetweenSigns : List ℕ → ℕ → Type 0
IsBetweenSigns bytes at = signs bytes ≡ signs (take at bytes) ++ signs (drop at bytes)
