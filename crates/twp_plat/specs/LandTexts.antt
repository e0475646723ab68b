-- Land of a section as a lot table gives it: one or more aliquot parts, by the grammar of descriptions.
use Rattle.std.specs.Prelude.{◌≡◌, ◌⊎◌, ℕ, List, [], ◌∷◌, map, count_by}
use Rattle.twp_grid.specs.Places.{PLACE_DIGITS}
use Rattle.twp_grammar.specs.declared.item.Step.{Step}
use Rattle.twp_grammar.specs.Tokens.{Token, HasTokens}
use Rattle.twp_grammar.specs.Grammar.{Ebnf, ◌⨾◌, many, chain, separator}
use Rattle.twp_grammar.specs.Items.{Tree, ◌&◌, after, step_of}
use Rattle.twp_grammar.specs.Items as derived
use Rattle.twp_grammar.specs.ItemPlaces.{in_chain}

-- one or more aliquot parts: NE1/4, S1/2NW1/4
abbrev pub aliquot_parts : Ebnf
aliquot_parts = chain ⨾ many (separator ⨾ chain)

-- the halves and quarters of an aliquot part, in the order in which they are written
abbrev pub steps_of : Tree chain → List Step
steps_of (first & more) = step_of first ∷ map (after step_of) more

-- the halves and quarters of each aliquot part
abbrev pub parts_of : Tree aliquot_parts → List (List Step)
parts_of (first & more) = steps_of first ∷ map (after steps_of) more

-- the text is these aliquot parts: the grammar derives its tokens
pub record AreAliquotParts (text : List ℕ) (parts : List (List Step)) : Type 0 where
  pub tokens : List Token
  pub cut : HasTokens 0 text tokens
  pub tree : Tree aliquot_parts
  pub spelled : derived.tokens aliquot_parts tree ≡ tokens
  pub read_off : parts_of tree ≡ parts

-- how many of the parts contain the place at this column and row
abbrev pub parts_at : List (List Step) → ℕ → ℕ → ℕ
parts_at parts column row = count_by (λ steps. in_chain PLACE_DIGITS steps column row) parts

-- it is one of the parts
abbrev pub IsOneOf : List Step → List (List Step) → Type 0
IsOneOf part [] = ⊥
IsOneOf part (first ∷ parts) = (part ≡ first) ⊎ IsOneOf part parts
