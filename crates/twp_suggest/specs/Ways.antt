-- The places of a text that can be read in two ways, and the other way to read each: white space between two
-- parts, which are two, or one; and `of` after one of two parts, which may be for both.
use Rattle.std.specs.Prelude.{◌==◌, ◌||◌, ◌&&◌, ℕ, ◌+◌, ◌-◌, Bool, true, false, List, [], ◌∷◌, ◌++◌}
use Rattle.std.specs.Prelude.{if◌then◌else◌, codes, drop, length, nat_le, nat_lt, not, slice_index}
use Rattle.std.specs.Prelude.{slice_range, take, Option, Some, None}
use Rattle.twp_rules.specs.declared.rule.Rule.{Rule}
use Rattle.twp_rules.specs.declared.rule.Rule.TheVariants.{Comma, CopiedStep, OnePart}
use Rattle.twp_rules.specs.Changes.{Change}
use Rattle.twp_rules.specs.Edges.{without_white}
use Rattle.twp_rules.specs.Naming.{is_side}
use Rattle.twp_suggest.specs.declared.way.Way.{Way}
use Rattle.twp_suggest.specs.declared.way.Way.TheVariants.{Again, Apart, LeftOut}

-- a text in which other bytes replace those from one place up to another
abbrev pub text_with : List ℕ → ℕ → List ℕ → ℕ → List ℕ
text_with made from written to = take from made ++ written ++ drop to made

-- a text in which a place is read in its other way
abbrev pub text_by : List ℕ → Way → List ℕ
text_by made (Apart at) = text_with made at (codes ", ") at
text_by made (LeftOut from to) = text_with made from [] to
text_by made (Again at first end) = text_with made at (slice_range made first end) at

-- these two bytes end a step: the last digit of a fraction after its slash, or the sign for one
abbrev pub ends_fraction : ℕ → ℕ → Bool
ends_fraction before last =
    (before == 47) && ((last == 50) || (last == 52)) || (before == 194) && ((last == 188) || (last == 189))

-- a step ends at a place
abbrev pub ends_step_at : List ℕ → ℕ → Bool
ends_step_at made at = nat_le 2 at && ends_fraction (slice_index made (at - 2)) (slice_index made (at - 1))

-- a step begins at a place
abbrev pub begins_step_at : List ℕ → ℕ → Bool
begins_step_at made at = is_side (slice_index made at)

-- the place of the next byte that isn't white space
abbrev pub solid_at : List ℕ → ℕ → ℕ
solid_at bytes at = length bytes - length (without_white (drop at bytes))

-- the next change leaves out the byte at a place
abbrev pub leave_out : ℕ → List Change → Bool
leave_out place [] = false
leave_out place (change ∷ changes) =
    nat_le change.start place && nat_lt place change.end && (length change.written == 0)

-- in the text, only white space is between a place and the next step, which stays
abbrev pub is_beside_step : List ℕ → ℕ → List Change → Bool
is_beside_step text at changes =
    begins_step_at text (solid_at text at) && not (leave_out (solid_at text at) changes)

-- nothing is from one place of a text up to another, or a period
abbrev pub is_no_mark : List ℕ → ℕ → ℕ → Bool
is_no_mark text start end =
    (start == end) || nat_lt start end && (end - start == 1) && (slice_index text start == 46)

-- a comma is written between two steps, where the text has nothing but white space, or a period
abbrev pub parts_steps : List ℕ → List ℕ → ℕ → Change → List Change → Bool
parts_steps text made at change changes =
    ends_step_at made at && begins_step_at made (solid_at made (at + 1))
    && is_no_mark text change.start change.end && is_beside_step text change.end changes

-- a change that begins at a place writes a step again at another
abbrev pub copies_at : Rule → ℕ → ℕ → Bool
copies_at (CopiedStep from to) start place = start == place
copies_at rule start place = false

-- the number of bytes of the steps that are repeated at a place
abbrev pub copied_length : ℕ → List Change → ℕ
copied_length place [] = 0
copied_length place (change ∷ changes) =
    if copies_at change.rule change.start place then length change.written + copied_length place changes
    else 0

-- steps that are written again are of a part of the text: the last ones of it, or the first ones
abbrev pub are_shared : List ℕ → ℕ → ℕ → Bool
are_shared made from to = ends_step_at made from || begins_step_at made to

-- a way, if there is that place
abbrev pub way_if : Bool → Way → Option Way
way_if is way = if is then Some way else None

-- without steps of so many bytes that are written again at a place
abbrev pub without_copies : List ℕ → ℕ → ℕ → Option Way
without_copies made at size = way_if (are_shared made at (at + size)) (LeftOut at (at + size))

-- without a comma that is written between two steps
abbrev pub without_comma : List ℕ → List ℕ → ℕ → Change → List Change → Option Way
without_comma text made at change changes =
    way_if (parts_steps text made at change changes) (LeftOut at (solid_at made (at + 1)))

-- THE OTHER WAY AT A CHANGE, which is at this place of the text that the changes make: without the steps that
-- are written again; with a comma where white space between two steps was left out; and the other way round
abbrev pub way_by : Rule → List ℕ → List ℕ → ℕ → Change → List Change → Option Way
way_by (CopiedStep from to) text made at change changes =
    without_copies made at (length change.written + copied_length change.start changes)
way_by OnePart text made at change changes =
    way_if (ends_step_at made at && begins_step_at made at) (Apart at)
way_by Comma text made at change changes = without_comma text made at change changes
way_by rule text made at change changes = None

-- a change goes on with what the one before it does: both write steps again, or leave out white space
abbrev pub goes_on : Rule → Rule → Bool
goes_on (CopiedStep from to) (CopiedStep first end) = true
goes_on OnePart OnePart = true
goes_on before rule = false

-- the other way at a change that doesn't
abbrev pub way_after : Rule → ℕ → List ℕ → List ℕ → ℕ → Change → List Change → Option Way
way_after before at text made place change changes =
    if goes_on before change.rule && (at == change.start) then None
    else way_by change.rule text made place change changes

-- there is no other way, or it is given
abbrev pub IfWay : (Way → Type 0) → Option Way → Type 0
IfWay IsGiven None = Unit {0}
IfWay IsGiven (Some way) = IsGiven way

-- THE OTHER WAYS AT CHANGES ARE GIVEN, from a change on; the change before it is by a rule, and ends at one
-- place of the text and at another of the changed text
abbrev pub AreTurned : (Way → Type 0) → List ℕ → List ℕ → Rule → ℕ → ℕ → List Change → Type 0
AreTurned IsGiven text made before at place [] = Unit {0}
AreTurned IsGiven text made before at place (change ∷ changes) =
    IfWay IsGiven (way_after before at text made (place + (change.start - at)) change changes)
    × AreTurned IsGiven text made change.rule change.end
    (place + (change.start - at) + length change.written) changes
