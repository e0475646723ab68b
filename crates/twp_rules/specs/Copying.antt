-- Steps of a part that are written again: all steps of the part, those after an `of`, or those before one,
-- and never only some of these.
use Rattle.std.specs.Prelude.{◌==◌, ◌||◌, ◌&&◌, ℕ, ◌+◌, ◌-◌, Bool, true, false, List, [], ◌∷◌, Option}
use Rattle.std.specs.Prelude.{Some, None, if◌then◌else◌, codes, drop, length, nat_le, nat_lt, not}
use Rattle.std.specs.Prelude.{slice_range, take}
use Rattle.twp_grammar.specs.Tokens.{is_white}
use Rattle.twp_rules.specs.Apart.{begins_with_step, ends_after}
use Rattle.twp_rules.specs.Changes.{Change, changed_from}
use Rattle.twp_rules.specs.Edges.{begins_with, ends_with_one, is_one_of, without_white}
use Rattle.twp_rules.specs.Lists.{texts, words}
use Rattle.twp_rules.specs.declared.run.CopiedSteps.{CopiedSteps}
use Rattle.twp_rules.specs.declared.rule.Rule.{Rule}
use Rattle.twp_rules.specs.declared.rule.Rule.TheVariants.{CopiedStep}

-- where a place of the text is in the changed text, before what is written there
abbrev pub seat : ℕ → ℕ → List Change → ℕ → ℕ
seat at place [] spot = place + (spot - at)
seat at place (change ∷ changes) spot =
    if nat_lt change.start spot
    then seat change.end (place + (change.start - at) + length change.written) changes spot
    else place + (spot - at)

-- only letters of `of` and `the`, and white space, are in a text: it may be between two steps of one part
abbrev pub is_joint : List ℕ → Bool
is_joint [] = true
is_joint (byte ∷ bytes) =
    (is_white byte || is_one_of (byte ∷ []) (words (codes "o f t h e"))) && is_joint bytes

-- steps from one place up to another are not right after a step, nor right before one; and if `of` is before
-- them, it is not after them, too
abbrev pub are_cut_at_of : List ℕ → ℕ → ℕ → Bool
are_cut_at_of made from to =
    not (ends_after false (take from made) 0 (take from made))
    && not (begins_with_step (without_white (drop to made)))
    && not (ends_with_one (take from made) (texts (codes "of |of the "))
    && begins_with (without_white (drop to made)) (codes "of"))

-- the steps that were written again are all of their part, those after an `of`, or those before one
abbrev pub is_whole : List ℕ → List Change → CopiedSteps → Bool
is_whole made all run = are_cut_at_of made (seat 0 0 all run.from) (seat 0 0 all run.to)

-- so are those before a change, unless it writes the next step of their part at the same place
abbrev pub fits_run : List ℕ → List Change → Option CopiedSteps → ℕ → Rule → Bool
fits_run made all None start rule = true
fits_run made all (Some run) start (CopiedStep from to) =
    if run.place == start
    then nat_le run.to from && is_joint (slice_range made (seat 0 0 all run.to) (seat 0 0 all from))
    else is_whole made all run
fits_run made all (Some run) start rule = is_whole made all run

-- the steps that were written again, after a change at a place
abbrev pub run_after : Option CopiedSteps → ℕ → Rule → Option CopiedSteps
run_after (Some run) start (CopiedStep from to) =
    if run.place == start then Some (record { place = start; from = run.from; to = to })
    else Some (record { place = start; from = from; to = to })
run_after None start (CopiedStep from to) = Some (record { place = start; from = from; to = to })
run_after run start rule = None

-- so are all steps that are written again, from a change on
abbrev pub keep_steps : List ℕ → List Change → Option CopiedSteps → List Change → Bool
keep_steps made all None [] = true
keep_steps made all (Some run) [] = is_whole made all run
keep_steps made all run (change ∷ changes) =
    fits_run made all run change.start change.rule
    && keep_steps made all (run_after run change.start change.rule) changes

-- STEPS ARE COPIED WHOLE: those that changes of a text write again
abbrev pub copy_whole : List ℕ → List Change → Bool
copy_whole text changes = keep_steps (changed_from 0 text changes) changes None changes
