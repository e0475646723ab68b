-- What a quiet token leaves as it was.
use Rattle.std.proofs.Common.{◌≡◌, ℕ, ◌&&◌, ◌||◌, not, Bool, true, false, Some, refl, sym}
use Rattle.std.proofs.Common.{if◌then◌else◌}
use Rattle.twp_grammar.specs.declared.tokens.Kind.{Kind}
use Rattle.twp_grammar.specs.declared.tokens.Kind.TheVariants.{Sec, Lot, And, To, NorthSouth, EastWest}
use Rattle.twp_grammar.specs.declared.tokens.Kind.TheVariants.{Corner}
use Rattle.twp_grammar.specs.declared.tokens.Kind.TheVariants.{Number}
use Rattle.twp_grammar.specs.declared.state.State.{State}
use Rattle.twp_grammar.specs.Tokens.{Token}
use Rattle.twp_read.specs.declared.watch.ListWord.{ListWord}
use Rattle.twp_read.specs.declared.watch.ListWord.TheVariants as word
use Rattle.twp_read.specs.declared.watch.Watch.{Watch}
use Rattle.twp_read.specs.steps.Watching.{is_step, is_quiet, is_pending, word_after, clouds, joins_parts}
use Rattle.twp_read.specs.steps.Watching.{watch_after}

either : (b : Bool) (it : ListWord) → it ≡ word.Usual → (if b then it else word.Usual) ≡ it
either true it is = refl
either false it is = sym is

or_false : (a b : Bool) → b ≡ false → (a || b) ≡ a
or_false true b h = refl
or_false false b h = h

no : (b : Bool) → not b ≡ true → b ≡ false
no false h = refl
no true h = cc h

quiet_word : (it : ListWord) (state : State) (token : Token) (after : State) (kind : Kind)
    → is_quiet state kind ≡ true → it ≡ word.Usual → word_after kind token.text (Some after) it ≡ it
quiet_word it state token after Sec quiet usual = cc quiet
quiet_word it state token after Lot quiet usual = cc quiet
quiet_word it state token after _ quiet usual = either (is_pending after) it usual

and_no : (a b : Bool) → a ≡ false → (a && b) ≡ false
and_no false b h = refl
and_no true b h = cc h

quiet_clouds : (it : ListWord) (state : State) (end : ℕ) (token : Token) (kind : Kind)
    → is_quiet state kind ≡ true → clouds true it state end token kind ≡ false
quiet_clouds it state end token And quiet = cc quiet
quiet_clouds it state end token To quiet = cc quiet
quiet_clouds it state end token (Number value) quiet = cc quiet
quiet_clouds it state end token (NorthSouth which) quiet = and_no (is_step state) _ (no (is_step state) quiet)
quiet_clouds it state end token (EastWest which) quiet = and_no (is_step state) _ (no (is_step state) quiet)
quiet_clouds it state end token (Corner which) quiet = and_no (is_step state) _ (no (is_step state) quiet)
quiet_clouds it state end token _ quiet = refl

quiet_parts : (state : State) (kind : Kind) → is_quiet state kind ≡ true → joins_parts state kind ≡ false
quiet_parts state And quiet = cc quiet
quiet_parts state _ quiet = refl

same : (w : Watch) (it : ListWord) (parts clouded : Bool) → it ≡ w.word → parts ≡ w.joins_parts
    → clouded ≡ w.is_clouded
    → record { word = it; joins_parts = parts; is_clouded = clouded } ≡ w
same w it parts clouded is are clouds_are = rw (is, are, clouds_are) refl

pub quiet_is_same : (w : Watch) (state : State) (end : ℕ) (token : Token) (after : State)
    → w.word ≡ word.Usual → is_quiet state token.kind ≡ true → w ≡ watch_after w state end token after
quiet_is_same w state end token after usual quiet =
    sym
    (same w _ _ _ (quiet_word w.word state token after token.kind quiet usual)
    (or_false w.joins_parts (joins_parts state token.kind) (quiet_parts state token.kind quiet))
    (or_false w.is_clouded (clouds true w.word state end token token.kind)
    (quiet_clouds w.word state end token token.kind quiet)))
