-- How a text is split: one heading after another, with the end of the land before each.
use Rattle.std.specs.Prelude.{◌≡◌, ℕ, ◌+◌, ◌<◌, ◌≤◌, List, [], ◌∷◌, ◌++◌, Option, Some, None, length, drop, ⊤}
use Rattle.twp_grammar.specs.Tokens.{Token, HasTokens}
use Rattle.twp_grammar.specs.declared.tokens.Kind.{Kind}
use Rattle.twp_grammar.specs.declared.tokens.Kind.TheVariants.{And, Semicolon}
use Rattle.twp_answers.specs.declared.stop.Stop.{Stop}
use Rattle.twp_answers.specs.declared.stop.Stop.TheVariants.{Refused, Failed}
use Rattle.twp_calls.specs.Splits.{BeginsHeading, NoHeading, EndInSeparator, end_of_tokens, AreParts}
use Rattle.twp_calls.specs.Splits.{IsNoSplit}
use Rattle.twp_calls.specs.declared.land_end.Separator.{Separator}
use Rattle.twp_calls.specs.declared.land_end.Separator.TheVariants as separator
use Rattle.twp_calls.specs.declared.land_end.LandEnd.{LandEnd}
use Rattle.twp_calls.specs.declared.next_heading.NextHeading.{NextHeading}
use Rattle.twp_calls.specs.declared.unread.TownshipStretch.{TownshipStretch}

-- where land ends, where the tokens after it end, and what they are
abbrev pub land_end : ℕ → ℕ → Separator → LandEnd
land_end land end separator = record { land = land; end = end; separator = separator }

-- after one more token that is no part of a separator
abbrev pub after_land : ℕ → LandEnd
after_land place = land_end place place separator.Nothing

-- after the word `and`, which belongs to a separator only after a semicolon
abbrev pub after_and : Separator → ℕ → ℕ → LandEnd
after_and separator.Semicolon land place = land_end land place separator.SemicolonAnd
after_and other land place = after_land place

-- after one more token of this kind, which ends at this place
abbrev pub after_token : LandEnd → Kind → ℕ → LandEnd
after_token before Semicolon place = land_end before.end place separator.Semicolon
after_token before And place = after_and before.separator before.land place
after_token before kind place = after_land place

-- where the land of tokens ends that follow a place
abbrev pub end_of_land : LandEnd → List Token → LandEnd
end_of_land before [] = before
end_of_land before (token ∷ tokens) =
    end_of_land (after_token before token.kind (token.at + length token.text)) tokens

-- the next heading after a place, and where the land before it ends
pub record IsNextHeading (text : List ℕ) (from : ℕ) (next : NextHeading) : Type 0 where
  pub between : List Token
  pub none : NoHeading between
  pub heading : Token
  pub begins : BeginsHeading heading
  pub at_is : next.at ≡ heading.at
  pub end_is : next.end ≡ heading.at + length heading.text
  pub within : next.end ≤ length text
  pub further : from < next.end
  pub land : List Token
  pub separator : List Token
  pub separated : EndInSeparator between land separator
  pub land_end_is : next.land_end ≡ end_of_tokens from land
  pub joins : (more : List Token) → HasTokens (heading.at + length heading.text) (drop next.end text) more
      → HasTokens from (drop from text) (between ++ (heading ∷ more))

-- no heading is after the place
pub record HasNoHeadingAfter (text : List ℕ) (from : ℕ) : Type 0 where
  pub tokens : List Token
  pub cut : HasTokens from (drop from text) tokens
  pub none : NoHeading tokens

abbrev pub GivesHeading : List ℕ → ℕ → Option NextHeading → Type 0
GivesHeading text from None = HasNoHeadingAfter text from
GivesHeading text from (Some next) = IsNextHeading text from next

-- the parts of a text whose first token begins a heading and ends at this place
pub record AreHeadedParts (text : List ℕ) (from : ℕ) (parts : List TownshipStretch) : Type 0 where
  pub of : (heading : Token) → BeginsHeading heading → heading.at + length heading.text ≡ from
      → (tokens : List Token) × HasTokens from (drop from text) tokens
      × AreParts 0 (length text) (heading ∷ tokens) parts

-- why the text is not split
abbrev pub IsSplitStop : List ℕ → Stop → Type 0
IsSplitStop text (Refused answer) = IsNoSplit text answer
IsSplitStop text (Failed fault) = ⊤
