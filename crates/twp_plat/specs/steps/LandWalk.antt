-- How the tokens of a record's land are read, one after another. No public contract cites this module.
use Rattle.std.specs.Prelude.{◌&&◌, Bool, true, false, List, [], ◌∷◌, ◌++◌, Option, Some, None, if◌then◌else◌}
use Rattle.twp_grid.specs.declared.township.NorthSouth.TheVariants as ns
use Rattle.twp_grid.specs.declared.township.EastWest.TheVariants as ew
use Rattle.twp_grammar.specs.declared.item.Step.{Step}
use Rattle.twp_grammar.specs.declared.item.Step.TheVariants.{Half, Quarter}
use Rattle.twp_grammar.specs.declared.tokens.Kind.{Kind}
use Rattle.twp_grammar.specs.declared.tokens.Kind.TheVariants as kind
use Rattle.twp_grammar.specs.Tokens.{Token}
use Rattle.twp_grammar.specs.Grammar.{Class, class_of, north_south, east_west, corner, half, quarter, of}
use Rattle.twp_grammar.specs.Grammar.{the, comma, and}
use Rattle.twp_grammar.specs.Items.{north_or_south, east_or_west}
use Rattle.twp_plat.specs.declared.lots.land_text.LandState.{LandState}
use Rattle.twp_plat.specs.declared.lots.land_text.LandState.TheVariants as past

-- after the first token of a step
abbrev pub step_begun : Class → Option LandState
step_begun north_south = Some past.Side
step_begun east_west = Some past.Side
step_begun corner = Some past.Corner
step_begun _ = None

-- the state after one more token
abbrev pub next : LandState → Class → Option LandState
next past.Comma and = Some past.Part
next past.Side half = Some past.Step
next past.Side _ = None
next past.Corner quarter = Some past.Step
next past.Corner _ = None
next past.Step comma = Some past.Comma
next past.Step and = Some past.Part
next past.Step of = Some past.Of
next past.Of the = Some past.OfThe
next _ class = step_begun class

-- a part ends before this token
abbrev pub ends_part : LandState → Class → Bool
ends_part past.Step comma = true
ends_part past.Step and = true
ends_part _ _ = false

-- the step whose first token is of this kind
abbrev pub step_of : Kind → Option Step
step_of (kind.NorthSouth side) = Some (Half (north_or_south side))
step_of (kind.EastWest side) = Some (Half (east_or_west side))
step_of (kind.Corner which) = Some (Quarter which)
step_of _ = None

-- the steps of a part with one more, if there is one
abbrev pub with_step : Option Step → List Step → List Step
with_step None steps = steps
with_step (Some step) steps = steps ++ step ∷ []

-- the parts so far, and the steps of the one that has begun, after one more token
abbrev pub parts_after : LandState → Kind → List (List Step) → List Step → List (List Step)
parts_after reached kind parts steps =
    if ends_part reached (class_of kind) then parts ++ steps ∷ [] else parts

abbrev pub steps_after : LandState → Kind → List Step → List Step
steps_after reached kind steps =
    if ends_part reached (class_of kind) then [] else with_step (step_of kind) steps

-- the parts when all tokens are read, if they are a sequence of parts
abbrev pub walk : Option LandState → List (List Step) → List Step → List Token → Option (List (List Step))
walk None parts steps tokens = None
walk (Some past.Step) parts steps [] = Some (parts ++ steps ∷ [])
walk (Some _) parts steps [] = None
walk (Some reached) parts steps (token ∷ tokens) =
    walk (next reached (class_of token.kind)) (parts_after reached token.kind parts steps)
    (steps_after reached token.kind steps) tokens
