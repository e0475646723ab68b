-- What forms leave to be read after a token: again forms, their derivative by its sort.
use Rattle.std.proofs.Common.{◌≡◌, ◌==◌, ℕ, Bool, true, false, cond, ◌&&◌, List, [], ◌∷◌, ◌++◌, get_or}
use Rattle.std.proofs.Common.{refl, sym, ap, subst, ◌∙◌, inl, inr}
use Rattle.std.proofs.lemmas.Bool.{eqb-true}
use Rattle.twp_grammar.proofs.Membership.{Among, among_contains, contains_among, among_either, among_left}
use Rattle.twp_grammar.proofs.Membership.{among_right}
use Rattle.twp_calls.specs.DesignationTexts.{MarkSort, tier_word, range_word, complete, unit, tens, filled}
use Rattle.twp_calls.specs.DesignationTexts.{north_south}
use Rattle.twp_calls.specs.DesignationTexts.{east_west, stop, comma, hyphen, slash, other, FormSlot}
use Rattle.twp_calls.specs.DesignationTexts.{SpellingForm, Fills}
use Rattle.twp_calls.specs.DesignationTexts.{AreFormed}

-- a number for each sort
abbrev pub all_sorts : List MarkSort
all_sorts =
    tier_word ∷ range_word ∷ complete ∷ unit ∷ tens ∷ filled ∷ north_south ∷ east_west
    ∷ stop ∷ comma ∷ hyphen ∷ slash ∷ other ∷ []

abbrev pub place_of_sort : MarkSort → ℕ
place_of_sort tier_word = 0
place_of_sort range_word = 1
place_of_sort complete = 2
place_of_sort unit = 3
place_of_sort tens = 4
place_of_sort filled = 5
place_of_sort north_south = 6
place_of_sort east_west = 7
place_of_sort stop = 8
place_of_sort comma = 9
place_of_sort hyphen = 10
place_of_sort slash = 11
place_of_sort other = 12

sort_at_place : (sort : MarkSort) → get_or all_sorts (place_of_sort sort) tier_word ≡ sort
sort_at_place tier_word = refl
sort_at_place range_word = refl
sort_at_place complete = refl
sort_at_place unit = refl
sort_at_place tens = refl
sort_at_place filled = refl
sort_at_place north_south = refl
sort_at_place east_west = refl
sort_at_place stop = refl
sort_at_place comma = refl
sort_at_place hyphen = refl
sort_at_place slash = refl
sort_at_place other = refl

abbrev pub same_sort : MarkSort → MarkSort → Bool
same_sort sort other_sort = place_of_sort sort == place_of_sort other_sort

pub same_sort_tells : (c d : MarkSort) → same_sort c d ≡ true → c ≡ d
same_sort_tells c d h =
    sym (sort_at_place c)
    ∙ ap (λ n. get_or all_sorts n tier_word) (eqb-true (place_of_sort c) (place_of_sort d) h)
    ∙ sort_at_place d

same_sort_self : (c : MarkSort) → same_sort c c ≡ true
same_sort_self tier_word = refl
same_sort_self range_word = refl
same_sort_self complete = refl
same_sort_self unit = refl
same_sort_self tens = refl
same_sort_self filled = refl
same_sort_self north_south = refl
same_sort_self east_west = refl
same_sort_self stop = refl
same_sort_self comma = refl
same_sort_self hyphen = refl
same_sort_self slash = refl
same_sort_self other = refl

same_sort_is : (c d : MarkSort) → c ≡ d → same_sort c d ≡ true
same_sort_is c d e = subst (λ (x : MarkSort). same_sort c x ≡ true) e (same_sort_self c)

-- a form whose first slot was begun
abbrev pub left_of : List MarkSort → SpellingForm → SpellingForm
left_of [] form = form
left_of (d ∷ chosen) form = ((d ∷ chosen) ∷ []) ∷ form

-- the forms left after a sort that begins a choice of the slot
abbrev pub heads : MarkSort → FormSlot → SpellingForm → List SpellingForm
heads c [] form = []
heads c ([] ∷ slot) form = heads c slot form
heads c ((d ∷ chosen) ∷ slot) form =
    cond (same_sort c d) (left_of chosen form ∷ heads c slot form) (heads c slot form)

-- the slot may be left empty
abbrev pub has_empty : FormSlot → Bool
has_empty [] = false
has_empty ([] ∷ slot) = true
has_empty ((d ∷ chosen) ∷ slot) = has_empty slot

abbrev pub after_form : MarkSort → SpellingForm → List SpellingForm
after_form c [] = []
after_form c (slot ∷ form) = heads c slot form ++ cond (has_empty slot) (after_form c form) []

abbrev pub after_forms : MarkSort → List SpellingForm → List SpellingForm
after_forms c [] = []
after_forms c (form ∷ forms) = after_form c form ++ after_forms c forms

abbrev pub after_sorts : List SpellingForm → List MarkSort → List SpellingForm
after_sorts forms [] = forms
after_sorts forms (c ∷ cs) = after_sorts (after_forms c forms) cs

abbrev pub may_end : SpellingForm → Bool
may_end [] = true
may_end (slot ∷ form) = has_empty slot && may_end form

abbrev pub have_end : List SpellingForm → Bool
have_end [] = false
have_end (form ∷ forms) = cond (may_end form) true (have_end forms)

-- the sorts fill the slots, with members in place of indexes
abbrev Filled : SpellingForm → List MarkSort → Type 0
Filled [] cs = cs ≡ []
Filled (slot ∷ form) cs =
    (chosen : List MarkSort) × (more : List MarkSort) × Among chosen slot × (cs ≡ chosen ++ more)
    × Filled form more

abbrev Formed : List SpellingForm → List MarkSort → Type 0
Formed forms cs = (form : SpellingForm) × Among form forms × Filled form cs

filled_from : (form : SpellingForm) (cs : List MarkSort) → Fills form cs → Filled form cs
filled_from [] cs f = f
filled_from (slot ∷ form) cs (chosen, more, there, is, f) =
    (chosen, more, contains_among chosen slot there, is, filled_from form more f)

filled_to : (form : SpellingForm) (cs : List MarkSort) → Filled form cs → Fills form cs
filled_to [] cs f = f
filled_to (slot ∷ form) cs (chosen, more, there, is, f) =
    (chosen, more, among_contains chosen slot there, is, filled_to form more f)

formed_from : (forms : List SpellingForm) (cs : List MarkSort) → AreFormed forms cs → Formed forms cs
formed_from forms cs (form, there, f) = (form, contains_among form forms there, filled_from form cs f)

formed_to : (forms : List SpellingForm) (cs : List MarkSort) → Formed forms cs → AreFormed forms cs
formed_to forms cs (form, there, f) = (form, among_contains form forms there, filled_to form cs f)

-- one more choice in a slot, and more forms
one_more : (a : List MarkSort) (slot : FormSlot) (form : SpellingForm) (cs : List MarkSort)
    → Filled (slot ∷ form) cs
    → Filled ((a ∷ slot) ∷ form) cs
one_more a slot form cs (chosen, more, there, is, f) = (chosen, more, inr there, is, f)

-- from the derivative to the form
left_fills : (c d : MarkSort) (chosen : List MarkSort) (slot : FormSlot) (form : SpellingForm)
    (cs : List MarkSort)
    → c ≡ d → Filled (left_of chosen form) cs → Filled (((d ∷ chosen) ∷ slot) ∷ form) (c ∷ cs)
left_fills c d [] slot form cs same f = (d ∷ [], cs, inl refl, ap (λ x. x ∷ cs) same, f)
left_fills c d (e ∷ chosen) slot form cs same (whole, more, inl here, is, f) = (
  d ∷ e ∷ chosen,
  more,
  inl refl,
  (ap (λ x. x ∷ cs) same ∙ ap (λ xs. d ∷ xs) (is ∙ ap (λ xs. xs ++ more) here)),
  f,
)
left_fills c d (e ∷ chosen) slot form cs same (whole, more, inr later, is, f) = absurd later

-- by whether the first choice of a slot begins with the sort
first_choice : (x : Bool) (c d : MarkSort) (chosen : List MarkSort) (slot : FormSlot)
    (form left : SpellingForm) (cs : List MarkSort)
    → same_sort c d ≡ x → Filled left cs
    → (Among left (heads c slot form) → Filled (slot ∷ form) (c ∷ cs))
    → Among left (cond x (left_of chosen form ∷ heads c slot form) (heads c slot form))
    → Filled (((d ∷ chosen) ∷ slot) ∷ form) (c ∷ cs)
first_choice true c d chosen slot form left cs e f others (inl here) =
    left_fills c d chosen slot form cs (same_sort_tells c d e)
    (subst (λ (g : SpellingForm). Filled g cs) here f)
first_choice true c d chosen slot form left cs e f others (inr later) =
    one_more (d ∷ chosen) slot form (c ∷ cs) (others later)
first_choice false c d chosen slot form left cs e f others later =
    one_more (d ∷ chosen) slot form (c ∷ cs) (others later)

heads_fill : (c : MarkSort) (slot : FormSlot) (form left : SpellingForm) (cs : List MarkSort)
    → Among left (heads c slot form)
    → Filled left cs → Filled (slot ∷ form) (c ∷ cs)
heads_fill c [] form left cs there f = absurd there
heads_fill c ([] ∷ slot) form left cs there f =
    one_more [] slot form (c ∷ cs) (heads_fill c slot form left cs there f)
heads_fill c ((d ∷ chosen) ∷ slot) form left cs there f =
    first_choice (same_sort c d) c d chosen slot form left cs refl f
    (λ later. heads_fill c slot form left cs later f) there

empty_there : (slot : FormSlot) → has_empty slot ≡ true → Among [] slot
empty_there [] e = cc e
empty_there ([] ∷ slot) e = inl refl
empty_there ((d ∷ chosen) ∷ slot) e = inr (empty_there slot e)

-- the slots after one that may be left empty
past_slot : (x : Bool) (c : MarkSort) (slot : FormSlot) (form left : SpellingForm) (cs : List MarkSort)
    → has_empty slot ≡ x
    → (Among left (after_form c form) → Filled form (c ∷ cs)) → Among left (cond x (after_form c form) [])
    → Filled (slot ∷ form) (c ∷ cs)
past_slot true c slot form left cs e others later = ([], c ∷ cs, empty_there slot e, refl, others later)
past_slot false c slot form left cs e others later = absurd later

form_takes : (c : MarkSort) (form left : SpellingForm) (cs : List MarkSort) → Among left (after_form c form)
    → Filled left cs → Filled form (c ∷ cs)
form_takes c [] left cs there f = absurd there
form_takes c (slot ∷ form) left cs there f =
    elim (among_either left (heads c slot form) (cond (has_empty slot) (after_form c form) []) there) [
      | inl here ↦ heads_fill c slot form left cs here f
      | inr later ↦ past_slot (has_empty slot) c slot form left cs refl
          (λ there'. form_takes c form left cs there' f) later
    ]

forms_take : (c : MarkSort) (forms : List SpellingForm) (cs : List MarkSort) → Formed (after_forms c forms) cs
    → Formed forms (c ∷ cs)
forms_take c [] cs (left, there, f) = absurd there
forms_take c (form ∷ forms) cs (left, there, f) =
    elim (among_either left (after_form c form) (after_forms c forms) there) [
      | inl here ↦ (form, inl refl, form_takes c form left cs here f)
      | inr later ↦
          let found = forms_take c forms cs (left, later, f) in
          (found.0, inr found.1, found.2)
    ]

-- from the form to the derivative
abbrev first_or : MarkSort → List MarkSort → MarkSort
first_or c [] = c
first_or c (d ∷ ds) = d

abbrev without_first : List MarkSort → List MarkSort
without_first [] = []
without_first (d ∷ ds) = ds

left_filled : (chosen : List MarkSort) (form : SpellingForm) (cs more : List MarkSort) → cs ≡ chosen ++ more
    → Filled form more → Filled (left_of chosen form) cs
left_filled [] form cs more is f = subst (λ (xs : List MarkSort). Filled form xs) (sym is) f
left_filled (d ∷ chosen) form cs more is f = (d ∷ chosen, more, inl refl, is, f)

-- by whether the first choice of a slot begins with the sort
first_begun : (x : Bool) (c d e : MarkSort) (chosen others : List MarkSort) (slot : FormSlot)
    (form : SpellingForm)
    (cs more : List MarkSort)
    → same_sort c e ≡ x → c ≡ d → cs ≡ chosen ++ more → Filled form more
    → (Among (d ∷ chosen) slot → Formed (heads c slot form) cs)
    → Among (d ∷ chosen) ((e ∷ others) ∷ slot)
    → Formed (cond x (left_of others form ∷ heads c slot form) (heads c slot form)) cs
first_begun true c d e chosen others slot form cs more h same is f later_begun (inl here) = (
  left_of others form,
  inl refl,
  left_filled others form cs more (is ∙ ap (λ xs. without_first xs ++ more) here) f,
)
first_begun true c d e chosen others slot form cs more h same is f later_begun (inr later) =
    let found = later_begun later in (found.0, inr found.1, found.2)
first_begun false c d e chosen others slot form cs more h same is f later_begun (inl here) =
    let is_same : same_sort c e ≡ true = same_sort_is c e (same ∙ ap (first_or c) here) in
    let never : false ≡ true = sym h ∙ is_same in
    cc never
first_begun false c d e chosen others slot form cs more h same is f later_begun (inr later) =
    later_begun later

begun : (c d : MarkSort) (chosen : List MarkSort) (slot : FormSlot) (form : SpellingForm)
    (cs more : List MarkSort)
    → Among (d ∷ chosen) slot → c ≡ d → cs ≡ chosen ++ more → Filled form more
    → Formed (heads c slot form) cs
begun c d chosen [] form cs more there same is f = absurd there
begun c d chosen ([] ∷ slot) form cs more (inl here) same is f = cc here
begun c d chosen ([] ∷ slot) form cs more (inr later) same is f =
    begun c d chosen slot form cs more later same is f
begun c d chosen ((e ∷ others) ∷ slot) form cs more there same is f =
    first_begun (same_sort c e) c d e chosen others slot form cs more refl same is f
    (λ later. begun c d chosen slot form cs more later same is f) there

has_it : (slot : FormSlot) → Among [] slot → has_empty slot ≡ true
has_it [] there = absurd there
has_it ([] ∷ slot) there = refl
has_it ((d ∷ chosen) ∷ slot) (inl here) = cc here
has_it ((d ∷ chosen) ∷ slot) (inr later) = has_it slot later

slot_passed : (x : Bool) (c : MarkSort) (slot : FormSlot) (form : SpellingForm) (cs : List MarkSort)
    → has_empty slot ≡ x
    → Among [] slot → Formed (after_form c form) cs
    → Formed (heads c slot form ++ cond x (after_form c form) []) cs
slot_passed true c slot form cs e there found =
    (found.0, among_right found.0 (heads c slot form) (after_form c form) found.1, found.2)
slot_passed false c slot form cs e there found =
    let never : false ≡ true = sym e ∙ has_it slot there in cc never

form_left : (c : MarkSort) (form : SpellingForm) (cs : List MarkSort) → Filled form (c ∷ cs)
    → Formed (after_form c form) cs
form_left c [] cs f = cc f
form_left c (slot ∷ form) cs ([], more, there, is, f) =
    slot_passed (has_empty slot) c slot form cs refl there
    (form_left c form cs (subst (λ (xs : List MarkSort). Filled form xs) (sym is) f))
form_left c (slot ∷ form) cs (d ∷ chosen, more, there, is, f) =
    let found =
    begun c d chosen slot form cs more there (ap (first_or c) is) (ap without_first is) f in (
      found.0,
      among_left found.0 (heads c slot form) (cond (has_empty slot) (after_form c form) []) found.1,
      found.2,
    )

one_form : (c : MarkSort) (form : SpellingForm) (forms : List SpellingForm) (cs : List MarkSort)
    → Among form forms
    → Filled form (c ∷ cs) → Formed (after_forms c forms) cs
one_form c form [] cs there f = absurd there
one_form c form (first ∷ forms) cs (inl here) f =
    let found = form_left c first cs (subst (λ (g : SpellingForm). Filled g (c ∷ cs)) here f) in
    (found.0, among_left found.0 (after_form c first) (after_forms c forms) found.1, found.2)
one_form c form (first ∷ forms) cs (inr later) f =
    let found = one_form c form forms cs later f in
    (found.0, among_right found.0 (after_form c first) (after_forms c forms) found.1, found.2)

-- the forms have the sorts after this one exactly if what they leave has them
pub taken_on : (c : MarkSort) (forms : List SpellingForm) (cs : List MarkSort)
    → AreFormed (after_forms c forms) cs
    → AreFormed forms (c ∷ cs)
taken_on c forms cs f =
    formed_to forms (c ∷ cs) (forms_take c forms cs (formed_from (after_forms c forms) cs f))

pub left_after : (c : MarkSort) (forms : List SpellingForm) (cs : List MarkSort) → AreFormed forms (c ∷ cs)
    → AreFormed (after_forms c forms) cs
left_after c forms cs f =
    let g : Formed forms (c ∷ cs) = formed_from forms (c ∷ cs) f in
    formed_to (after_forms c forms) cs (one_form c g.0 forms cs g.1 g.2)

both : (x y : Bool) → (x && y) ≡ true → (x ≡ true) × (y ≡ true)
both true y h = (refl, h)
both false y h = cc h

ended : (form : SpellingForm) → may_end form ≡ true → Filled form []
ended [] e = refl
ended (slot ∷ form) e =
    let parts = both (has_empty slot) (may_end form) e in
    ([], [], empty_there slot parts.0, refl, ended form parts.1)

one_ended : (x : Bool) (form : SpellingForm) (forms : List SpellingForm) → may_end form ≡ x
    → (have_end forms ≡ true → Formed forms []) → cond x true (have_end forms) ≡ true
    → Formed (form ∷ forms) []
one_ended true form forms e others h = (form, inl refl, ended form e)
one_ended false form forms e others h = let later = others h in (later.0, inr later.1, later.2)

formed_none : (forms : List SpellingForm) → have_end forms ≡ true → Formed forms []
formed_none [] e = cc e
formed_none (form ∷ forms) e = one_ended (may_end form) form forms refl (formed_none forms) e

-- forms that may end have the empty list, and others do not
pub have_none : (forms : List SpellingForm) → have_end forms ≡ true → AreFormed forms []
have_none forms e = formed_to forms [] (formed_none forms e)

ends : (form : SpellingForm) → Filled form [] → may_end form ≡ true
ends [] f = refl
ends (slot ∷ form) ([], more, there, is, f) =
    let e : has_empty slot ≡ true = has_it slot there in
    let later : may_end form ≡ true = ends form (subst (λ (xs : List MarkSort). Filled form xs) (sym is) f) in
    ap (λ (x : Bool). x && may_end form) e ∙ later
ends (slot ∷ form) (d ∷ chosen, more, there, is, f) = cc is

or_true : (x y : Bool) → y ≡ true → cond x true y ≡ true
or_true true y e = refl
or_true false y e = e

ended_of : (form : SpellingForm) (forms : List SpellingForm) → Among form forms → Filled form []
    → have_end forms ≡ true
ended_of form [] there f = absurd there
ended_of form (first ∷ forms) (inl here) f =
    let e : may_end first ≡ true = ends first (subst (λ (g : SpellingForm). Filled g []) here f) in
    ap (λ (x : Bool). cond x true (have_end forms)) e
ended_of form (first ∷ forms) (inr later) f =
    or_true (may_end first) (have_end forms) (ended_of form forms later f)

pub none_had : (forms : List SpellingForm) → AreFormed forms [] → have_end forms ≡ true
none_had forms f =
    let g : Formed forms [] = formed_from forms [] f in ended_of g.0 forms g.1 g.2

-- some sorts are left for forms that a way leads out of
pub way_leads : (forms : List SpellingForm) (way : List MarkSort) → have_end (after_sorts forms way) ≡ true
    → AreFormed forms way
way_leads forms [] e = have_none forms e
way_leads forms (c ∷ way) e = taken_on c forms way (way_leads (after_forms c forms) way e)

pub nothing_left : (forms : List SpellingForm) (cs : List MarkSort) → forms ≡ [] → ¬ AreFormed forms cs
nothing_left forms cs e f =
    let g : Formed [] cs = formed_from [] cs (subst (λ (fs : List SpellingForm). AreFormed fs cs) e f) in
    absurd g.1
