-- What is true of clap's walk over the words of a subcommand if each argument either needs a value
-- or asks for help: each row has a value, and its values are those that its id can have.
use Rattle.std.proofs.Common.{zero, suc, ◌≡◌, ◌⊎◌, ◌++◌, ◌<◌, ◌&&◌, ℕ, Bool, true, false, List, [], ◌∷◌}
use Rattle.std.proofs.Common.{length, drop, is_some, Option, Some, None, refl, inl, inr, sym, subst, arith}
use Rattle.std.proofs.Common.{length-append}
use Rattle.std.specs.Prelude.{⊤, find, fold, slice_get, if◌then◌else◌, nat_lt, encode_utf8}
use Rattle.std.specs.Option.{option_map_or}
use Rattle.std.specs.Str.{bytes_eq, chars}
use Rattle.std.proofs.lemmas.Bool.{ne_eqb}
use Rattle.std.proofs.lemmas.Slice.Eq.{bytes_eq-Decides}
use Rattle.clap.specs.Lexer.{long_of, short_of}
use Rattle.clap.specs.Kinds.{Kinds, or_else, range_kinds, value_kinds}
use Rattle.clap.specs.Walk.{Held, Names, Outcome, Row, Rule, Step, Text, Waiting, Walk, action_of, after_flag}
use Rattle.clap.specs.Walk.{after_step, arg_by_id, arg_by_index, arg_by_long, arg_by_short, attached_value}
use Rattle.clap.specs.Walk.{bundle, bundle_met, bundle_step, done, flag_met, idle, is_empty, is_pending}
use Rattle.clap.specs.Walk.{long_met, long_or_other, more_values, most_values, next, nothing_held, option}
use Rattle.clap.specs.Walk.{option_met, option_word, plain, plain_word, positional, reacted, reading_by}
use Rattle.clap.specs.Walk.{refused, settled, settled_rows, short_met, short_or_plain, subcommand}
use Rattle.clap.specs.Walk.{subcommand_met, subcommand_or_other, takes_several, takes_values, to_positional}
use Rattle.clap.specs.Walk.{trailing, used, used_as, used_by_id, value, values_or_missing, waits, walk}
use Rattle.clap.specs.Walk.{walk_from, walked, walked_from, with_values, without, word_met}
use Rattle.clap.specs.Facts.{parser_of_value, unwrap_or_range}
use Rattle.clap.specs.Simple.{Shape}
use Rattle.clap.specs.Faults.{action_fault, bundle_fault, bundle_step_fault, flag_word_fault, flags_fault}
use Rattle.clap.specs.Faults.{long_fault, option_fault, other_fault, positional_fault, react_fault}
use Rattle.clap.specs.Faults.{repeat_fault, settle_fault, short_fault, step_fault, stray_fault, turn_fault}
use Rattle.clap.specs.Faults.{use_fault, values_fault, walk_fault, word_fault}
use Rattle.clap.specs.declared.error.kind.ErrorKind.TheVariants.{TooManyValues}
use Rattle.clap.specs.declared.builder.action.ArgAction.{ArgAction}
use Rattle.clap.specs.declared.builder.action.ArgAction.TheVariants.{Set, Append, SetTrue, SetFalse, Count}
use Rattle.clap.specs.declared.builder.action.ArgAction.TheVariants.{Help, HelpShort, HelpLong, Version}
use Rattle.clap.specs.declared.builder.value_parser.Reading.{Reading}
use Rattle.clap.specs.declared.parser.matches.ValueSource.{ValueSource}
use Rattle.clap.specs.declared.parser.matches.ValueSource.TheVariants.{CommandLine}
use Rattle.twp_program.proofs.HelpWords.{IsNoHelp, StoppedWell, RefusesHelp, no_help}

pub first_empty : (xs ys : Kinds) → or_else xs ys ≡ [] → xs ≡ []
first_empty [] ys h = refl
first_empty (k ∷ ks) ys h = cc

pub second_empty : (xs ys : Kinds) → or_else xs ys ≡ [] → ys ≡ []
second_empty [] ys h = h
second_empty (k ∷ ks) ys h = cc

pub same_id : (x y : Text) → bytes_eq x y ≡ true → x ≡ y
same_id x y t = (bytes_eq-Decides x y).0 t

pub some_not_empty : (v : Text) (vs : List Text) → is_empty (v ∷ vs) ≡ false
some_not_empty v vs = ne_eqb _ _ (λ e. omega arith)

-- a step of the walk does not enter `help`
abbrev pub PlainStep : Step → Type 0
PlainStep (next w) = ⊤
PlainStep (trailing p) = ⊤
PlainStep (subcommand name) = IsNoHelp name
PlainStep value = ⊤

-- the argument asks for help
abbrev pub AsksForHelp : Rule → Type 0
AsksForHelp a = action_of a ≡ Help

-- a use of the argument has at least one value
abbrev pub WantsValue : Rule → Type 0
WantsValue a = nat_lt 0 (unwrap_or_range a.range).start_inclusive ≡ true

-- P says which values an id can have
module _ (P : Text → Text → Type 0) where
  abbrev pub EachMay : Text → List Text → Type 0
  EachMay id [] = ⊤
  EachMay id (v ∷ vs) = P id v × EachMay id vs

  -- each row has a value, and only values that its id can have
  abbrev pub Good : List Row → Type 0
  Good [] = ⊤
  Good (r ∷ rs) = (0 < length r.values) × EachMay r.id r.values × Good rs

  -- the argument asks for help, or needs a value, and its parser accepts only values that its id
  -- can have
  abbrev pub Fits : Rule → Type 0
  Fits a = AsksForHelp a ⊎ (WantsValue a
      × ((v : Text) → value_kinds a.ignore_case (parser_of_value a.parser) v ≡ [] → P a.id v))

  abbrev pub EachFits : List Rule → Type 0
  EachFits [] = ⊤
  EachFits (a ∷ rest) = Fits a × EachFits rest

  found_fits : (p : Rule → Bool) (c : List Rule) (a : Rule) → EachFits c → find p c ≡ Some a → Fits a
  found_fits p [] a h is = cc
  found_fits p (x ∷ xs) a h is = go (p x) refl (λ rest. found_fits p xs a h.1 rest)
    where
      go : (t : Bool) → p x ≡ t → (find p xs ≡ Some a → Fits a) → Fits a
      go true t rest =
          let same : Some x ≡ Some a = rw t at is in
          let one : x ≡ a = cc in
          subst Fits one h.0
      go false t rest = rest (rw t at is)

  more_may : (id : Text) (xs ys : List Text) → EachMay id xs → EachMay id ys → EachMay id (xs ++ ys)
  more_may id [] ys h g = g
  more_may id (x ∷ xs) ys h g = (h.0, more_may id xs ys h.1 g)

  more_good : (xs ys : List Row) → Good xs → Good ys → Good (xs ++ ys)
  more_good [] ys h g = g
  more_good (x ∷ xs) ys h g = (h.0, h.1, more_good xs ys h.2 g)

  without_good : (id : Text) (rows : List Row) → Good rows → Good (without id rows)
  without_good id [] h = tt
  without_good id (r ∷ rs) h = go (bytes_eq r.id id) (without_good id rs h.2)
    where
      go : (t : Bool) → Good (without id rs) → Good (if t then [] ++ rs else r ∷ without id rs)
      go true rest = h.2
      go false rest = (h.0, h.1, rest)

  pub with_values_good : (id : Text) (how : Reading) (source : ValueSource) (v : Text) (vs : List Text)
      (rows : List Row)
      → EachMay id (v ∷ vs) → Good rows → Good (with_values id how source (v ∷ vs) rows)
  with_values_good id how source v vs [] may h = (omega arith, may, tt)
  with_values_good id how source v vs (r ∷ rs) may h =
      go (bytes_eq r.id id) refl (with_values_good id how source v vs rs may h.2)
    where
      go : (t : Bool) → bytes_eq r.id id ≡ t → Good (with_values id how source (v ∷ vs) rs)
          → Good
          (if t then more_values source (v ∷ vs) r ++ rs else r ∷ with_values id how source (v ∷ vs) rs)
      go true t rest =
          let own : EachMay r.id (v ∷ vs) = subst (λ x. EachMay x (v ∷ vs)) (sym (same_id r.id id t)) may in
          let longer : 0 < length (r.values ++ v ∷ vs) = rw (length-append r.values (v ∷ vs)) (omega arith) in
          (longer, more_may r.id r.values (v ∷ vs) h.1 own, h.2)
      go false t rest = (h.0, h.1, rest)

  -- an id can have the values that the parser accepts
  pub taken_may : (a : Rule)
      → ((v : Text) → value_kinds a.ignore_case (parser_of_value a.parser) v ≡ [] → P a.id v)
      → (vs : List Text) → values_fault a vs ≡ [] → EachMay a.id vs
  taken_may a takes [] e = tt
  taken_may a takes (v ∷ vs) e =
      let first = value_kinds a.ignore_case (parser_of_value a.parser) v in
      (takes v (first_empty first _ e), taken_may a takes vs (second_empty first _ e))

  used_good : (again : Bool) (a : Rule) (values : List Text) (rows : List Row) → Fits a → Good rows
      → use_fault again a values rows ≡ [] → Good (used a values rows)
  used_good again a values rows (inl help) g e =
      let act =
      second_empty (range_kinds (unwrap_or_range a.range).start_inclusive (most_values a) (length values))
      _ e in
      let bad : action_fault Help again a (values_or_missing a values) rows ≡ [] = rw help at act in
      cc
  used_good again a [] rows (inr fits) g e =
      let range = first_empty (range_kinds (unwrap_or_range a.range).start_inclusive (most_values a) 0) _ e in
      let bad = rw fits.0 at range in
      cc
  used_good again a (v ∷ vs) rows (inr fits) g e =
      go (action_of a)
      (second_empty (range_kinds (unwrap_or_range a.range).start_inclusive (most_values a) (length (v ∷ vs)))
      _ e)
    where
      may : values_fault a (v ∷ vs) ≡ [] → EachMay a.id (v ∷ vs)
      may f = taken_may a fits.1 (v ∷ vs) f

      anew : values_fault a (v ∷ vs) ≡ []
          → Good (with_values a.id (reading_by a) CommandLine (v ∷ vs) (without a.id rows))
      anew f =
          with_values_good a.id (reading_by a) CommandLine v vs (without a.id rows) (may f)
          (without_good a.id rows g)

      go : (act : ArgAction) → action_fault act again a (v ∷ vs) rows ≡ []
          → Good (used_as act a.id (reading_by a) (v ∷ vs) rows)
      go Set f = anew (second_empty (repeat_fault again a.id rows) _ f)
      go SetTrue f = anew (second_empty (repeat_fault again a.id rows) _ f)
      go SetFalse f = anew (second_empty (repeat_fault again a.id rows) _ f)
      go Append f = with_values_good a.id (reading_by a) CommandLine v vs rows (may f) g
      go Count f = anew f
      go Help f = g
      go HelpShort f = g
      go HelpLong f = g
      go Version f = g

  pub settled_good : (c : List Rule) (again : Bool) (h : Held) → EachFits c → Good h.rows
      → settle_fault c again h ≡ [] → Good (settled c h).rows
  settled_good c again h each g e = go h.pending refl e
    where
      at : (p : Text × List Text) (a : Option Rule) → arg_by_id c p.0 ≡ a
          → settle_fault c again (record h { pending = Some p }) ≡ [] → Good (used_by_id a p.1 h.rows)
      at p None is f = g
      at p (Some a) is f = used_good again a p.1 h.rows (found_fits _ c a each is) g (rw is at f)

      go : (p : Option (Text × List Text)) → h.pending ≡ p
          → settle_fault c again (record h { pending = p }) ≡ [] → Good (settled_rows c p h.rows)
      go None is f = g
      go (Some p) is f = at p (arg_by_id c p.0) refl f

  reacted_good : (c : List Rule) (again : Bool) (a : Rule) (values : List Text) (h : Held) → EachFits c
      → Fits a → Good h.rows
      → react_fault c again a values h ≡ [] → Good (reacted c a values h).rows
  reacted_good c again a values h each fits g e =
      used_good again a values (settled c h).rows fits (settled_good c again h each g (first_empty _ _ e))
      (second_empty (settle_fault c again h) _ e)

  option_good : (c : List Rule) (again : Bool) (a : Rule) (v : Option Text) (h : Held) → EachFits c → Fits a
      → Good h.rows
      → option_fault c again a v h ≡ [] → Good (option_met c a v h).0.rows
  option_good c again a None h each fits g e = settled_good c again h each g e
  option_good c again a (Some v) h each fits g e = reacted_good c again a (v ∷ []) h each fits g e

  long_good : (c : List Rule) (again : Bool) (a : Option Rule) (name : Text) (v : Option Text) (h : Held)
      → EachFits c
      → arg_by_long c name ≡ a → Good h.rows → long_fault c again a v h ≡ [] → Good (long_met c a v h).0.rows
  long_good c again None name v h each is g e = g
  long_good c again (Some a) name v h each is g e = go (takes_values a) v e
    where
      fits : Fits a
      fits = found_fits _ c a each is

      go : (t : Bool) (v : Option Text)
          → (if t then option_fault c again a v h else
          (if is_some v then TooManyValues ∷ [] else react_fault c again a [] h))
          ≡ []
          → Good (if t then option_met c a v h else flag_met c a v h).0.rows
      go true v e = option_good c again a v h each fits g e
      go false None e = reacted_good c again a [] h each fits g e
      go false (Some v) e = g

  -- the rest of a word of short flags leaves the rows good
  abbrev RestGood : List Rule → Bool → ℕ → Type 0
  RestGood c again k = (flags : Text) (skip : ℕ) (so_far : Outcome) (h : Held) → Good h.rows
      → flags_fault c again k flags skip h ≡ [] → Good (bundle_met c k flags skip so_far h).0.rows

  short_good : (c : List Rule) (again : Bool) (k : ℕ) (a : Option Rule) (x : ℕ) (rest : Text) (h : Held)
      → EachFits c → RestGood c again k
      → arg_by_short c x ≡ a → Good h.rows → short_fault c again a rest h (flags_fault c again k rest 0) ≡ []
      → Good (short_met c a rest h (bundle_met c k rest 0 done)).0.rows
  short_good c again k None x rest h each below is g e = g
  short_good c again k (Some a) x rest h each below is g e = go (takes_values a) e
    where
      fits : Fits a
      fits = found_fits _ c a each is

      go : (t : Bool)
          → (if t then option_fault c again a (attached_value rest) h
          else or_else (react_fault c again a [] h) (flags_fault c again k rest 0 (reacted c a [] h))) ≡ []
          → Good
          (if t then option_met c a (attached_value rest) h else bundle_met c k rest 0 done
          (reacted c a [] h)).0.rows
      go true e = option_good c again a (attached_value rest) h each fits g e
      go false e =
          below rest 0 done (reacted c a [] h) (reacted_good c again a [] h each fits g (first_empty _ _ e))
          (second_empty (react_fault c again a [] h) _ e)

  flags_good : (c : List Rule) (again : Bool) (k : ℕ) → EachFits c → RestGood c again k
  unfolding flags_fault bundle_met
  flags_good c again zero each flags skip so_far h g e = g
  flags_good c again (suc k) each flags skip so_far h g e =
      go (slice_get (chars flags) 0) skip (flags_good c again k each) e
    where
      go : (o : Option ℕ) (skip : ℕ) → RestGood c again k
          → bundle_step_fault c again o flags skip h (flags_fault c again k) ≡ []
          → Good (bundle_step c o flags skip so_far h (bundle_met c k)).0.rows
      go None skip below e = g
      go (Some x) zero below e =
          short_good c again k (arg_by_short c x) x (drop (length (encode_utf8 x)) flags) h each below refl g
          e
      go (Some x) (suc skip) below e = below (drop (length (encode_utf8 x)) flags) skip so_far h g e

  -- the rows are good, and the walk continues without help
  pub record IsMet (met : Held × Step) : Type 0 where
    pub rows : Good met.0.rows
    pub step : PlainStep met.1

  plain_met : (c : List Rule) (waiting : Waiting) (word : Text) (h : Held) → Good h.rows
      → IsMet (plain_word c waiting word h)
  plain_met c idle word h g = record { rows = g; step = tt }
  plain_met c (option id) word h g = go (arg_by_id c id)
    where
      go : (a : Option Rule) → IsMet ((option_word a id word h).0, next (option_word a id word h).1)
      go None = record { rows = g; step = tt }
      go (Some a) = record { rows = g; step = tt }
  plain_met c positional word h g = record { rows = g; step = tt }

  after_flag_met : (c : List Rule) (waiting : Waiting) (word : Text) (h : Held) (o : Outcome) → Good h.rows
      → IsMet (after_flag c waiting word h o)
  after_flag_met c waiting word h done g = record { rows = g; step = tt }
  after_flag_met c waiting word h (waits id) g = record { rows = g; step = tt }
  after_flag_met c waiting word h plain g = plain_met c waiting word h g
  after_flag_met c waiting word h refused g = plain_met c waiting word h g

  flag_is_met : (c : List Rule) (again : Bool) (waiting : Waiting) (word : Text) (h : Held) → EachFits c
      → Good h.rows
      → flag_word_fault c again (long_of word) word h ≡ []
      → IsMet (long_or_other c waiting word (long_of word) h)
  flag_is_met c again waiting word h each g e = go (long_of word) e
    where
      shorts : (s : Option Text) → option_map_or (λ flags. bundle_fault c again flags h) s [] ≡ []
          → IsMet (short_or_plain c waiting word s h)
      shorts None e = plain_met c waiting word h g
      shorts (Some flags) e =
          after_flag_met c waiting word _ (bundle c flags h).1
          (flags_good c again (length flags) each flags h.skip plain (record h { skip = 0 }) g e)

      go : (l : Option (Text × Option Text)) → flag_word_fault c again l word h ≡ []
          → IsMet (long_or_other c waiting word l h)
      go (Some p) e =
          after_flag_met c waiting word _ (long_met c (arg_by_long c p.0) p.1 h).1
          (long_good c again (arg_by_long c p.0) p.0 p.1 h each refl g e)
      go None e = shorts (short_of word) e

  word_is_met : (s : Shape) (names : Names) (is_trailing : Bool) (waiting : Waiting) (position : ℕ)
      (word : Text) (h : Held)
      → EachFits s.rules
      → RefusesHelp s names → Good h.rows → word_fault s names is_trailing waiting word h ≡ []
      → IsMet (word_met s.rules names is_trailing waiting position word h)
  word_is_met s names true waiting position word h each help g e = record { rows = g; step = tt }
  word_is_met s names false waiting position word h each help g e =
      go (subcommand_met names waiting word) refl e
    where
      at : (t : Bool) → bytes_eq word (45 ∷ 45 ∷ []) ≡ t → other_fault s None word h ≡ []
          → IsMet (subcommand_or_other s.rules None waiting position word h)
      at true t e = rw t (record { rows = g; step = tt })
      at false t e = rw t (flag_is_met s.rules s.args_override_self waiting word h each g (rw t at e))

      go : (o : Option Text) → subcommand_met names waiting word ≡ o → other_fault s o word h ≡ []
          → IsMet (subcommand_or_other s.rules o waiting position word h)
      go (Some name) is e = record { rows = g; step = no_help s names waiting word name h help is e }
      go None is e = at (bytes_eq word (45 ∷ 45 ∷ [])) refl e

  -- the facts about a walk whose words have had no fault so far
  pub record IsWalked (w : Walk) : Type 0 where
    pub rows : Good w.held.rows
    pub stopped : StoppedWell w.stopped

  value_walked : (s : Shape) (o : Option Rule) (word : Text) (w : Walk) (h : Held) → EachFits s.rules
      → IsWalked w → Good h.rows
      → option_map_or (λ a. positional_fault s.rules s.args_override_self a h) o (stray_fault s) ≡ []
      → IsWalked (to_positional s.rules o word w h)
  value_walked s None word w h each walked g e = record { rows = g; stopped = walked.stopped }
  value_walked s (Some a) word w h each walked g e =
      record { rows = go (is_pending a h.pending && takes_several a) e; stopped = tt }
    where
      go : (t : Bool) → (if t then [] else settle_fault s.rules s.args_override_self h) ≡ []
          → Good (if t then h else settled s.rules h).rows
      go true e = g
      go false e = settled_good s.rules s.args_override_self h each g e

  step_walked : (s : Shape) (word : Text) (w : Walk) (h : Held) (step : Step) → EachFits s.rules → IsWalked w
      → Good h.rows → PlainStep step
      → step_fault s w.position h step ≡ [] → IsWalked (after_step s.rules word w h step)
  step_walked s word w h (next waiting) each walked g ok e = record { rows = g; stopped = walked.stopped }
  step_walked s word w h (trailing position) each walked g ok e =
      record { rows = g; stopped = walked.stopped }
  step_walked s word w h (subcommand name) each walked g ok e = record { rows = g; stopped = ok }
  step_walked s word w h value each walked g ok e =
      value_walked s (arg_by_index s.rules w.position) word w h each walked g e

  turn_walked : (s : Shape) (names : Names) (w : Walk) (word : Text) → EachFits s.rules → RefusesHelp s names
      → IsWalked w
      → turn_fault s names w word ≡ [] → IsWalked (walked s.rules names w word)
  unfolding walked
  turn_walked s names w word each help walked e = go w.stopped refl
    where
      go : (o : Option (Text × List Text)) → w.stopped ≡ o → IsWalked (walked_from s.rules names o w word)
      go (Some p) is = record { rows = walked.rows; stopped = rw is at walked.stopped }
      go None is =
          let faults = rw is at e in
          let words = word_fault s names w.is_trailing w.waiting word w.held in
          let met =
          word_is_met s names w.is_trailing w.waiting w.position word w.held each help walked.rows
          (first_empty words _ faults) in
          step_walked s word w _ _ each walked met.rows met.step (second_empty words _ faults)

  walk_walked : (s : Shape) (names : Names) (w : Walk) (words : List Text) → EachFits s.rules
      → RefusesHelp s names → IsWalked w
      → walk_fault s names w words ≡ [] → IsWalked (fold (walked s.rules names) w words)
  unfolding walk_fault
  walk_walked s names w [] each help walked e = walked
  walk_walked s names w (word ∷ rest) each help so_far e =
      let turned = turn_walked s names w word each help so_far (first_empty _ _ e) in
      walk_walked s names (walked s.rules names w word) rest each help turned (second_empty _ _ e)

  -- a walk over all the words, if none is a fault
  pub is_walked : (s : Shape) (names : Names) (words : List Text) → EachFits s.rules → RefusesHelp s names
      → walk_fault s names (walk_from nothing_held) words ≡ []
      → IsWalked (walk s.rules names nothing_held words)
  is_walked s names words each help e =
      walk_walked s names (walk_from nothing_held) words each help (record { rows = tt; stopped = tt }) e
