-- Words that begin nowhere in a text, place by place; over plain values.
use Rattle.std.proofs.Common.{◌≡◌, ◌<◌, ◌+◌, ℕ, List, true, false, add-one, drop, length, refl}
use Rattle.std.proofs.Math.Seq.{drop-cons}
use Rattle.twp_rules.specs.Edges.{begins_with}
use Rattle.twp_suggest.specs.Repeats.{is_without}

-- a word begins here
pub begins_here : (word text : List ℕ) (index : ℕ) → index < length text
    → begins_with (drop index text) word ≡ true → is_without word (drop index text) ≡ false
begins_here word text index within here =
    let e = drop-cons text index 0 within in
    rw (e, rw e at here) refl

-- or it doesn't, and the rest decides
pub begins_later : (word text : List ℕ) (index : ℕ) → index < length text
    → begins_with (drop index text) word ≡ false
    → is_without word (drop index text) ≡ is_without word (drop (index + 1) text)
begins_later word text index within other =
    let e = drop-cons text index 0 within in
    let f = add-one index in
    rw (f, e, rw e at other) refl
