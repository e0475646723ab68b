-- Parts one after another in one array.
use Rattle.std.proofs.Common.{◌≡◌, ℕ, ◌+◌, ◌≤◌, List, ◌++◌, length, length-take-le, take, refl, sym, ap, ◌∙◌}
use Rattle.std.proofs.Common.{arith, codes}
use Rattle.std.proofs.lemmas.Slice.{take-put_mid}
use Rattle.twp_grid.specs.declared.block.Corner.{Corner}
use Rattle.twp_grid.specs.declared.block.Corner.TheVariants.{NE, NW, SW, SE}
use Rattle.twp_grid.specs.declared.block.Side.{Side}
use Rattle.twp_grid.specs.declared.block.Side.TheVariants.{N, S, E, W}
use Rattle.twp_grammar.specs.declared.item.Step.TheVariants.{Half, Quarter}
use Rattle.twp_spell.specs.CanonicalText.{step_text}
use Rattle.twp_spell.proofs.PathFacts.{take_front, take_less}
use borrow.Rule.Slice.PartMut.{put_mid}

-- a step is written after the bytes so far
pub put_after : (bytes front step old : List ℕ) (len n wide : ℕ) → take len bytes ≡ old → len ≤ length bytes
    → front ≡ step → length step ≡ n
    → take (len + n) (put_mid len wide bytes front) ≡ old ++ step
put_after bytes front step old len n wide old_is within front_is long =
    let same : length front ≡ n = ap length front_is ∙ long in
    take-put_mid len wide bytes front (len + n) (omega (arith, same)) within
    ∙ ap (λ l. l ++ front) old_is ∙ ap (λ l. old ++ l) front_is

-- so is a path, only part of which counts
pub path_after : (bytes text path old : List ℕ) (len count wide end : ℕ) → take len bytes ≡ old
    → len ≤ length bytes → take count text ≡ path → count ≤ length text → end ≡ len + count
    → take end (put_mid len wide bytes text) ≡ old ++ path
path_after bytes text path old len count wide end old_is within path_is few end_is =
    sym (take_less end (len + length text) (put_mid len wide bytes text) (omega (arith, few, end_is)))
    ∙ ap (λ l. take end l) (take-put_mid len wide bytes text (len + length text) refl within)
    ∙ take_front end count (take len bytes) text
    (let most = length-take-le len bytes within in omega (arith, end_is))
    ∙ ap (λ l. take len bytes ++ l) path_is
    ∙ ap (λ l. l ++ path) old_is

-- a list of known bytes is as long as the number of bytes kept
pub known_length : (bytes known : List ℕ) (len : ℕ) → take len bytes ≡ known → len ≤ length bytes
    → length known ≡ len
known_length bytes known len is within = ap length (sym is) ∙ length-take-le len bytes within

-- a quarter after a comma takes seven bytes, and a half six
pub long_quarter_step : (corner : Corner) → length (codes ", " ++ step_text (Quarter corner)) ≡ 7
long_quarter_step NE = refl
long_quarter_step NW = refl
long_quarter_step SW = refl
long_quarter_step SE = refl

pub long_half_step : (side : Side) → length (codes ", " ++ step_text (Half side)) ≡ 6
long_half_step N = refl
long_half_step S = refl
long_half_step E = refl
long_half_step W = refl
