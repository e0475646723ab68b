-- What the reader's loop has watched for says that a text has no doubtful place.
use Rattle.std.proofs.Common.{◌≡◌, ℕ, ◌&&◌, ◌||◌, not, Bool, true, false, List, [], ◌∷◌, Option}
use Rattle.std.proofs.Common.{Some, drop, refl, sym, ap, subst, ◌∙◌, arith}
use Rattle.std.proofs.Common.{inl, inr}
use Rattle.std.specs.List.{AllPass}
use Rattle.twp_grammar.specs.declared.item.Item.{Item}
use Rattle.twp_grammar.specs.declared.tokens.Kind.{Kind}
use Rattle.twp_grammar.specs.declared.tokens.Kind.TheVariants.{And}
use Rattle.twp_grammar.specs.declared.state.State.{State}
use Rattle.twp_grammar.specs.declared.state.State.TheVariants.{Start}
use Rattle.twp_grammar.specs.Tokens.{Token, StartsWith, is_white}
use Rattle.twp_grammar.specs.Grammar.{class_of}
use Rattle.twp_grammar.specs.Machine.{next}
use Rattle.twp_read.specs.declared.watch.ListWord.{ListWord}
use Rattle.twp_read.specs.declared.watch.ListWord.TheVariants as word
use Rattle.twp_read.specs.declared.watch.Watch.{Watch}
use Rattle.twp_read.specs.Doubts.{end_of, HasNoDoubtfulPlace}
use Rattle.twp_read.specs.steps.TokenSteps.{take_token}
use Rattle.twp_read.specs.declared.description.Reached.{Reached}
use Rattle.twp_read.specs.steps.Usual.{Leads, MovesOn}
use Rattle.twp_read.specs.steps.Watching.{is_step, end_from, clouds}
use Rattle.twp_read.specs.steps.Watching.{joins_parts, begins_list, word_after, word_from, watch_after}
use Rattle.twp_read.specs.steps.Watching.{Unclouded}
use Rattle.twp_read.proofs.ReaderFacts.{Front, front_next, all_tokens}
use Rattle.twp_read.proofs.Leading.{goes_further}
use Rattle.twp_read.proofs.WatchFacts.{end_from-append, stays_then, unclouded_then, word_then, unclouded_or}
use Rattle.twp_read.proofs.WatchFacts.{moved_clouds, moved_unclouded, word_end, one_unclouded}
use Rattle.twp_read.proofs.NoDoubts.{no_doubts}

-- what the loop knows
pub record Watched (text : List ℕ) (at : ℕ) (state : State) (its : List Item) (watch : Watch) : Type 0 where
  pub front : Front text at (drop at text) state its
  pub clear : watch.is_clouded ≡ false
      → Unclouded watch.joins_parts word.Usual 0 (Some Start) front.tokens
  pub word_is : word_from word.Usual (Some Start) front.tokens ≡ watch.word
  pub place : is_step state ≡ true → at ≡ end_from 0 front.tokens

-- what clouds no text but by an `and` after a step that is let pass
lets : (section step_there ands : Bool) → (section || (step_there && false)) ≡ false
    → (section || (step_there && not (ands || step_there))) ≡ false
lets true step_there ands h = cc h
lets false false ands h = refl
lets false true false h = refl
lets false true true h = refl

clouds_with : (ands : Bool) (it : ListWord) (state : State) (end : ℕ) (token : Token) (kind : Kind)
    → clouds true it state end token kind ≡ false
    → clouds (ands || joins_parts state kind) it state end token kind ≡ false
clouds_with ands it state end token And h = lets (begins_list it state) (is_step state) ands h
clouds_with ands it state end token _ h = h

-- nothing was read
pub watched_nothing : (text : List ℕ) (watch : Watch) → watch.word ≡ word.Usual
    → Watched text 0 Start [] watch
watched_nothing text watch usual = record {
  front = record {
    tokens = [];
    before = record { joins = λ left has. has };
    walked = refl;
    within = omega arith;
  };
  clear = λ clouded. tt;
  word_is = sym usual;
  place = λ step. refl;
}

-- what is taken in its usual spelling
pub watched_usual : (text : List ℕ) (at : ℕ) (state : State) (its : List Item) (watch : Watch) (to : ℕ)
    (after : State) (grown : List Item)
    → watch.word ≡ word.Usual → Watched text at state its watch → Leads text at state its to after grown
    → Watched text to after grown watch
unfolding goes_further
watched_usual text at state its watch to after grown usual w l =
    let fs : List Token = w.front.tokens in
    let further : Front text to (drop to text) after grown =
    goes_further text at state its to after grown w.front l in
    let here : Unclouded false word.Usual (end_from 0 fs) (Some state) l.tokens =
    moved_unclouded false word.Usual state at (end_from 0 fs) l.tokens w.place l.clear in
    let still : word_from word.Usual (Some Start) fs ≡ word.Usual = w.word_is ∙ usual in
    record {
      front = further;
      clear = λ clouded.
          unclouded_then watch.joins_parts word.Usual 0 (Some Start) [] state its fs l.tokens
          (w.clear clouded) w.front.walked
          (subst (λ (v : ListWord). Unclouded watch.joins_parts v (end_from 0 fs) (Some state) l.tokens)
          (sym still)
          (unclouded_or false watch.joins_parts word.Usual (end_from 0 fs) (Some state) l.tokens here));
      word_is =
          word_then word.Usual (Some Start) [] state its fs l.tokens w.front.walked
          ∙ ap (λ (v : ListWord). word_from v (Some state) l.tokens) still
          ∙ l.ended
          ∙ sym usual;
      place = λ step.
          stays_then 0 at to state its after grown fs l.tokens w.place l.walked l.stays step;
    }

pub watched_further : (text : List ℕ) (from : Reached) (its : List Item) (watch : Watch) (grown : List Item)
    (to : Reached)
    → Watched text from.at from.state its watch → MovesOn watch.word text from its grown to
    → Watched text to.at to.state grown watch
watched_further text from its watch grown to w (inl (usual, leads)) =
    watched_usual text from.at from.state its watch to.at to.state grown usual w leads
watched_further text from its watch grown to w (inr (same, kept)) =
    subst (λ (r : Reached). Watched text r.at r.state grown watch) (sym same)
    (subst (λ (is : List Item). Watched text from.at from.state is watch) (sym kept) w)

-- one more token
neither : (a b : Bool) → (a || b) ≡ false → (a ≡ false) × (b ≡ false)
neither false b h = (refl, h)
neither true b h = cc h

pub watched_next : (text : List ℕ) (at : ℕ) (state after : State) (its : List Item) (watch : Watch)
    (token : Token)
    → Watched text at state its watch → StartsWith at (drop at text) token (drop (end_of token) text)
    → next state (class_of token.kind) ≡ Some after
    → Watched text (end_of token) after (take_token state token.kind token.at its)
    (watch_after watch state at token after)
unfolding front_next
watched_next text at state after its watch token w starts step =
    let fs : List Token = w.front.tokens in
    let ands : Bool = watch.joins_parts || joins_parts state token.kind in
    let before : ListWord = word_from word.Usual (Some Start) fs in
    record {
      front =
          front_next text at (drop at text) state after its token (end_of token) (drop (end_of token) text)
          w.front starts refl step;
      clear = λ clouded.
          let parts : (watch.is_clouded ≡ false)
          × (clouds true watch.word state at token token.kind ≡ false) =
          neither watch.is_clouded (clouds true watch.word state at token token.kind) clouded in
          let here : clouds ands watch.word state (end_from 0 fs) token token.kind ≡ false =
          moved_clouds ands watch.word state at (end_from 0 fs) token token.kind w.place
          (clouds_with watch.joins_parts watch.word state at token token.kind parts.1) in
          unclouded_then ands word.Usual 0 (Some Start) [] state its fs (token ∷ [])
          (unclouded_or watch.joins_parts (joins_parts state token.kind) word.Usual 0 (Some Start) fs
          (w.clear parts.0)) w.front.walked
          (one_unclouded ands before (end_from 0 fs) state after token
          (subst (λ (v : ListWord). clouds ands v state (end_from 0 fs) token token.kind ≡ false)
          (sym w.word_is) here) step);
      word_is =
          word_then word.Usual (Some Start) [] state its fs (token ∷ []) w.front.walked
          ∙ word_end (word_after token.kind token.text (next state (class_of token.kind)) before)
          (next state (class_of token.kind))
          ∙ ap (λ (o : Option State). word_after token.kind token.text o before) step
          ∙ ap (word_after token.kind token.text (Some after)) w.word_is;
      place = λ is. sym (end_from-append 0 fs (token ∷ []));
    }

-- all was read
pub is_clear : (text : List ℕ) (at : ℕ) (state : State) (its : List Item) (watch : Watch)
    → Watched text at state its watch → AllPass is_white (drop at text)
    → watch.joins_parts ≡ false → watch.is_clouded ≡ false → HasNoDoubtfulPlace text
is_clear text at state its watch w white parts clouded =
    let fs : List Token = w.front.tokens in
    record {
      tokens = fs;
      cut = all_tokens text at (drop at text) fs w.front.before white;
      places_are =
          no_doubts watch.joins_parts word.Usual 0 (Some Start) fs (w.clear clouded)
          (λ yes. let both : true ≡ false = sym yes ∙ parts in absurd (cc both));
    }
