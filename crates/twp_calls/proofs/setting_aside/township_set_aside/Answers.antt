-- The first phrase of land is among at most 65,536; and if there is none, the places of the phrases are put.
use Rattle.std.proofs.Common.{◌≡◌, ◌<◌, ◌+◌, arith, map, refl}
use Rattle.twp_phrases.specs.SetAside.{IsFirstOfLand}
use Rattle.twp_calls.specs.ManyAnswers.{count_between}
use Rattle.twp_calls.specs.SetAsides.{AreRanges, names_land, phrases_between}
use Rattle.twp_calls.proofs.SetAsideCallFacts.{are_put, few_before, first_between, given_of}
use Rattle.twp_calls.proofs.setting_aside.township_set_aside.Goals as goal

pub overflow_cast-index : goal.overflow_cast-index
overflow_cast-index c =
    let are : AreRanges c.args.phrases.now c.args.offsets.now
    × (map (λ phrase. phrase.now) c.in-Ok-Some.given.items
    ≡ phrases_between c.args.phrases.now c.args.offsets.now) =
    given_of (¬ AreRanges c.args.phrases.now c.args.offsets.now)
    (λ given. AreRanges c.args.phrases.now c.args.offsets.now
    × (map (λ phrase. phrase.now) given.items ≡ phrases_between c.args.phrases.now c.args.offsets.now))
    c.in-Ok-Some.field-0 c.in-Ok-Some.given c.in-Ok-Some.field-0-is c.in-Ok-Some.ensures in
    let first : IsFirstOfLand (phrases_between c.args.phrases.now c.args.offsets.now) c.in-Some.index =
    first_between c.args.phrases.now c.args.offsets.now c.in-Ok-Some.given.items c.as_slice.result.now
    c.in-Some.index c.as_slice.ensures.value are.1 c.in-Some.ensures in
    let few : c.in-Some.index < count_between c.args.offsets.now =
    few_before c.args.phrases.now c.args.offsets.now c.in-Some.index first in
    omega (arith, few, c.saturating_sub-count.ensures, c.if-count-gt-PHRASES_LIMIT.false)

pub overflow_add-index : goal.overflow_add-index
overflow_add-index c =
    let are : AreRanges c.args.phrases.now c.args.offsets.now
    × (map (λ phrase. phrase.now) c.in-Ok-Some.given.items
    ≡ phrases_between c.args.phrases.now c.args.offsets.now) =
    given_of (¬ AreRanges c.args.phrases.now c.args.offsets.now)
    (λ given. AreRanges c.args.phrases.now c.args.offsets.now
    × (map (λ phrase. phrase.now) given.items ≡ phrases_between c.args.phrases.now c.args.offsets.now))
    c.in-Ok-Some.field-0 c.in-Ok-Some.given c.in-Ok-Some.field-0-is c.in-Ok-Some.ensures in
    let first : IsFirstOfLand (phrases_between c.args.phrases.now c.args.offsets.now) c.in-Some.index =
    first_between c.args.phrases.now c.args.offsets.now c.in-Ok-Some.given.items c.as_slice.result.now
    c.in-Some.index c.as_slice.ensures.value are.1 c.in-Some.ensures in
    let few : c.in-Some.index < count_between c.args.offsets.now =
    few_before c.args.phrases.now c.args.offsets.now c.in-Some.index first in
    omega (arith, few, c.saturating_sub-count.ensures, c.if-count-gt-PHRASES_LIMIT.false)

pub returns-in-Some-clause-answer : goal.returns-in-Some-clause-answer
returns-in-Some-clause-answer c =
    let are : AreRanges c.args.phrases.now c.args.offsets.now
    × (map (λ phrase. phrase.now) c.in-Ok-Some.given.items
    ≡ phrases_between c.args.phrases.now c.args.offsets.now) =
    given_of (¬ AreRanges c.args.phrases.now c.args.offsets.now)
    (λ given. AreRanges c.args.phrases.now c.args.offsets.now
    × (map (λ phrase. phrase.now) given.items ≡ phrases_between c.args.phrases.now c.args.offsets.now))
    c.in-Ok-Some.field-0 c.in-Ok-Some.given c.in-Ok-Some.field-0-is c.in-Ok-Some.ensures in
    let first : IsFirstOfLand (phrases_between c.args.phrases.now c.args.offsets.now) c.in-Some.index =
    first_between c.args.phrases.now c.args.offsets.now c.in-Ok-Some.given.items c.as_slice.result.now
    c.in-Some.index c.as_slice.ensures.value are.1 c.in-Some.ensures in
    names_land are.0 (record {
      refusal = record { number = 51; at = c.in-Some.index + 1 };
      first = record { index = c.in-Some.index; first = first; is = refl };
      answer_is = c.of_refusal-in-Some.ensures;
    })

pub returns-in-Ok-clause-answer : goal.returns-in-Ok-clause-answer
returns-in-Ok-clause-answer c =
    let are : AreRanges c.args.phrases.now c.args.offsets.now
    × (map (λ phrase. phrase.now) c.in-Ok-Some.given.items
    ≡ phrases_between c.args.phrases.now c.args.offsets.now) =
    given_of (¬ AreRanges c.args.phrases.now c.args.offsets.now)
    (λ given. AreRanges c.args.phrases.now c.args.offsets.now
    × (map (λ phrase. phrase.now) given.items ≡ phrases_between c.args.phrases.now c.args.offsets.now))
    c.in-Ok-Some.field-0 c.in-Ok-Some.given c.in-Ok-Some.field-0-is c.in-Ok-Some.ensures in
    are_put c.args.description.now c.args.phrases.now c.args.offsets.now c.in-Ok-Some.given.items
    c.as_slice.result.now c.as_slice-2.result.now c.in-Ok.found.items c.as_slice-in-Ok.result.now
    c.args.aside.now c.put_stretches.new.room c.put_stretches.result c.as_slice.ensures.value
    c.as_slice-2.ensures.value are.0 are.1 (rw c.in_default.is at c.first_of_land.ensures) c.in-Ok.ensures
    c.as_slice-in-Ok.ensures.value c.put_stretches.ensures.put
