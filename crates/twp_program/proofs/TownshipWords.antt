-- If clap's rules accept the words of the command line, the subcommand that they name has all its
-- values, and its option has an account's name.
use Rattle.std.proofs.Common.{◌≡◌, ◌∙◌, ◌&&◌, ◌||◌, ap, Bool, true, false, not, List, [], ◌∷◌, Option}
use Rattle.std.proofs.Common.{Some, None, is_some, refl, inl, inr, sym}
use Rattle.std.specs.Prelude.{⊤, option_map, codes, find, if◌then◌else◌}
use Rattle.std.specs.List.{list_any}
use Rattle.std.specs.Option.{option_map_or}
use Rattle.std.specs.Str.{bytes_eq}
use Rattle.std.specs.Borrow.{Bor}
use Rattle.std.proofs.lemmas.Slice.Eq.{bytes_eq-Decides}
use Rattle.clap.specs.Words.{Row, Rule, Shape, Text, built, fault_of, same_text, subcommand_of}
use Rattle.clap.specs.Kinds.{Kinds, check_kinds, or_else, value_kinds}
use Rattle.clap.specs.Values.{refused_kind}
use Rattle.clap.specs.Walk.{Names, answers_to, finished, nothing_held, rows_after, settled, texts, walk}
use Rattle.clap.specs.Walk.{walk_from}
use Rattle.clap.specs.Facts.{explicit_source}
use Rattle.clap.specs.Simple.{argument_words, built_leaf, entered, help_shape, inherited, label_of}
use Rattle.clap.specs.Simple.{marked_built, names_of, rows_at, with_leaf_noted}
use Rattle.clap.specs.Takes.{is_given}
use Rattle.clap.specs.Faults.{check_fault, defaults_fault, entered_fault, level_fault, settle_fault}
use Rattle.clap.specs.Faults.{walk_fault}
use Rattle.clap.specs.declared.builder.value_parser.ValueParser.{ValueParser}
use Rattle.clap.specs.declared.builder.value_parser.ValueParser.TheVariants as vp
use Rattle.twp_plat.specs.declared.land_area.Account.{Account}
use Rattle.twp_plat.specs.declared.land_area.Account.TheVariants as account
use Rattle.twp_program.specs.Commands.{TakesAccounts, account_name, acres, normal, plat, report, township}
use Rattle.twp_program.specs.Commands.{township_with}
use Rattle.twp_program.specs.steps.Parses.{HasAccountName, HasValue, IsWhole}
use Rattle.twp_program.proofs.HelpWords.{IsNoHelp, StoppedWell}
use Rattle.twp_program.proofs.CommandWalk.{EachFits, Good, first_empty, second_empty, is_walked}
use Rattle.twp_program.proofs.CommandDefaults.{defaulted_row, finished_good, given_row, row_value}

nothing_wanted : (help subcommand argument : Bool) → check_kinds help subcommand argument ≡ []
    → (subcommand ≡ false) × (argument ≡ false)
nothing_wanted true s a e = cc
nothing_wanted false true a e = cc
nothing_wanted false false true e = cc
nothing_wanted false false false e = (refl, refl)

abbrev is_missing : List Row → Rule → Bool
is_missing rows a = a.required && not (is_given a.id rows)

-- what each step of a level means if none has a fault
record LevelPasses (s : Shape) (names : Names) (words : List Text) (has_subcommand : Bool) (below : Kinds)
    : Type 0 where
  pub walks : walk_fault s names (walk_from nothing_held) words ≡ []
  pub enters : below ≡ []
  pub settles : settle_fault s.rules s.args_override_self (walk s.rules names nothing_held words).held ≡ []
  pub defaults : defaults_fault (settled s.rules (walk s.rules names nothing_held words).held).rows s.rules
      ≡ []
  pub subcommand : not has_subcommand && s.subcommand_required ≡ false
  pub arguments : not (s.subcommand_negates_reqs && has_subcommand)
      && list_any (is_missing (rows_after s.rules names words)) s.rules
      ≡ false

level_passes : (s : Shape) (names : Names) (words : List Text) (has_subcommand : Bool) (below : Kinds)
    → level_fault s names nothing_held words has_subcommand below ≡ []
    → LevelPasses s names words has_subcommand below
level_passes s names words has_subcommand below e =
    let end = (walk s.rules names nothing_held words).held in
    let walks = walk_fault s names (walk_from nothing_held) words in
    let settles = settle_fault s.rules s.args_override_self end in
    let defaults = defaults_fault (settled s.rules end).rows s.rules in
    let check = check_fault s (finished s.rules end) has_subcommand in
    let after = second_empty walks (or_else below (or_else settles (or_else defaults check))) e in
    let ended = second_empty below (or_else settles (or_else defaults check)) after in
    let checked = second_empty settles (or_else defaults check) ended in
    let last = second_empty defaults check checked in
    let wanted = nothing_wanted
    (not has_subcommand
    && (s.arg_required_else_help && not (list_any (λ r. explicit_source r.source) (finished s.rules end))))
    (not has_subcommand && s.subcommand_required)
    (not (s.subcommand_negates_reqs && has_subcommand)
    && list_any (is_missing (finished s.rules end)) s.rules)
    last in
    record {
      walks = first_empty walks (or_else below (or_else settles (or_else defaults check))) e;
      enters = first_empty below (or_else settles (or_else defaults check)) after;
      settles = first_empty settles (or_else defaults check) ended;
      defaults = first_empty defaults check checked;
      subcommand = wanted.0;
      arguments = wanted.1;
    }

-- the values of the option are accounts' names
abbrev MayHave : Text → Text → Type 0
MayHave id value = bytes_eq id (codes "ACCOUNT") ≡ true → (account : Account) × (value ≡ account_name account)

no_option : (id value : Text) → bytes_eq id (codes "ACCOUNT") ≡ false → MayHave id value
no_option id value other is = let bad : false ≡ true = sym other ∙ is in absurd (cc bad)

same_texts : (names : List (Bor Text)) (value : Text)
    → list_any (λ name. same_text false name.now value) names
    ≡ list_any (λ text. bytes_eq text value) (texts names)
same_texts [] value = refl
same_texts (name ∷ names) value = rw (same_texts names value) refl

account_of_name : (value : Text)
    → list_any (λ text. bytes_eq text value) (codes "exact" ∷ codes "plat" ∷ []) ≡ true
    → (account : Account) × (value ≡ account_name account)
account_of_name value e = go (bytes_eq (codes "exact") value) (bytes_eq (codes "plat") value) refl refl e
  where
    go : (exact plat : Bool) → bytes_eq (codes "exact") value ≡ exact → bytes_eq (codes "plat") value ≡ plat
        → exact || (plat || false) ≡ true
        → (account : Account) × (value ≡ account_name account)
    go true plat t p e = (account.Exact, sym ((bytes_eq-Decides (codes "exact") value).0 t))
    go false true t p e = (account.Plat, sym ((bytes_eq-Decides (codes "plat") value).0 p))
    go false false t p e = cc

-- a value that the option's parser accepts is an account's name
option_takes : (parser : ValueParser) (value : Text) → TakesAccounts parser
    → value_kinds false parser value ≡ [] → MayHave (codes "ACCOUNT") value
option_takes (vp.Names names) value takes e is =
    account_of_name value (rw takes at (rw (same_texts names.now value) at passed))
  where
    passes : (t : Bool) → (if t then [] else refused_kind (vp.Names names) ∷ []) ≡ [] → t ≡ true
    passes true e = refl
    passes false e = cc

    passed : list_any (λ name. same_text false name.now value) names.now ≡ true
    passed = passes (list_any (λ name. same_text false name.now value) names.now) e
option_takes other value takes e is = absurd takes

-- the rows that the words give a subcommand are valid, and no required word is missing
record IsGiven (s : Shape) (words : List Text) : Type 0 where
  pub rows : Good MayHave (rows_after s.rules [] words)
  pub required : list_any (is_missing (rows_after s.rules [] words)) s.rules ≡ false

leaf_given : (s : Shape) (words : List Text) → EachFits MayHave s.rules → s.subcommand_negates_reqs ≡ false
    → level_fault s [] nothing_held words false [] ≡ [] → IsGiven s words
leaf_given s words each negates e =
    let level = level_passes s [] words false [] e in
    let walked = is_walked MayHave s [] words each (inr refl) level.walks in
    let held = (walk s.rules [] nothing_held words).held in
    record {
      rows =
          finished_good MayHave s.rules s.args_override_self held each walked.rows level.settles
          level.defaults;
      required = rw negates at level.arguments;
    }

-- a word that is not missing has a value
has_value : (id : Text) (rows : List Row) (rest : Bool) → Good MayHave rows
    → not (is_given id rows) || rest ≡ false → HasValue id rows
has_value id rows rest good e =
    let found = row_value MayHave id rows good (given_row id rows (go (is_given id rows) e)) in
    (found.0, found.1)
  where
    go : (t : Bool) → not t || rest ≡ false → t ≡ true
    go true e = refl
    go false e = cc

rest_of : (x y : Bool) → x || y ≡ false → y ≡ false
rest_of true y e = cc
rest_of false y e = e

-- the subcommands as they are built
abbrev leaf : Shape → Shape
leaf s = built_leaf (inherited (with_leaf_noted (marked_built (township_with []).top)) s)

abbrev help : Shape
help = built_leaf help_shape

abbrev leaf_fault : Shape → List Text → Kinds
leaf_fault s words = level_fault s [] nothing_held words false []

-- the words after a subcommand give it all its values, if none is a fault
abbrev GivesWhole : List Text → Shape → Type 0
GivesWhole words s = leaf_fault s words ≡ [] → IsWhole (Some (rows_at s words))

plat_whole : (words : List Text) → GivesWhole words (leaf plat)
plat_whole words e =
    let given =
    leaf_given (leaf plat) words (inr (refl, λ v f. no_option (codes "NOTES") v refl), (inl refl, tt)) refl
    e in
    (has_value (codes "NOTES") (rows_after (leaf plat).rules [] words) _ given.rows given.required, inl refl)

acres_whole : (parser : ValueParser) (words : List Text) → TakesAccounts parser
    → GivesWhole words (leaf (acres parser))
acres_whole parser words takes e =
    let s = leaf (acres parser) in
    let given = leaf_given s words (
      inr (refl, λ v f. no_option (codes "NOTES") v refl),
      (
        inr (refl, λ v f. no_option (codes "DESCRIPTION") v refl),
        (inr (refl, λ v f. option_takes parser v takes f), (inl refl, tt)),
      ),
    ) refl e in
    let rows = rows_after s.rules [] words in
    let walked = (settled s.rules (walk s.rules [] nothing_held words).held).rows in
    let named =
    row_value MayHave (codes "ACCOUNT") rows given.rows
    (defaulted_row (codes "ACCOUNT") walked s.rules (inr (inr (inl (refl, refl))))) in
    let is = named.2 refl in
    let account : HasAccountName rows = (is.0, named.1 ∙ ap (λ (value : Text). Some value) is.1) in (
      has_value (codes "NOTES") rows _ given.rows given.required,
      inr (inr (inr (
        refl,
        has_value (codes "DESCRIPTION") rows _ given.rows (rest_of _ _ given.required),
        account,
      ))),
    )

normal_whole : (words : List Text) → GivesWhole words (leaf normal)
normal_whole words e =
    let given = leaf_given (leaf normal) words (
      inr (refl, λ v f. no_option (codes "NOTES") v refl),
      (inr (refl, λ v f. no_option (codes "DESCRIPTION") v refl), (inl refl, tt)),
    ) refl e in
    let rows = rows_after (leaf normal).rules [] words in (
      has_value (codes "NOTES") rows _ given.rows given.required,
      inr (inr (inl (refl, has_value (codes "DESCRIPTION") rows _ given.rows (rest_of _ _ given.required)))),
    )

report_whole : (words : List Text) → GivesWhole words (leaf report)
report_whole words e =
    let given = leaf_given (leaf report) words (
      inr (refl, λ v f. no_option (codes "NOTES") v refl),
      (inr (refl, λ v f. no_option (codes "TRACTS") v refl), (inl refl, tt)),
    ) refl e in
    let rows = rows_after (leaf report).rules [] words in (
      has_value (codes "NOTES") rows _ given.rows given.required,
      inr (inl (refl, has_value (codes "TRACTS") rows _ given.rows (rest_of _ _ given.required))),
    )

abbrev named : List Shape → Text → Option Shape
named subs name = find (λ s. answers_to name (label_of s)) subs

-- each of these subcommands that has this name gets all its values
abbrev AllWhole : Text → List Text → List Shape → Type 0
AllWhole name words [] = ⊤
AllWhole name words (s ∷ rest) =
    (answers_to name (label_of s) ≡ true → GivesWhole words s) × AllWhole name words rest

-- so does the one that is entered
one_of : (subs : List Shape) (name : Text) (words : List Text) → AllWhole name words subs
    → option_map_or (λ s. leaf_fault s words) (named subs name) [] ≡ []
    → is_some (option_map (λ s. rows_at s words) (named subs name)) ≡ true
    → IsWhole (option_map (λ s. rows_at s words) (named subs name))
one_of [] name words each e some = cc
one_of (s ∷ rest) name words each e some =
    go (answers_to name (label_of s)) (named rest name) refl (one_of rest name words each.1) e some
  where
    go : (t : Bool) (others : Option Shape) → answers_to name (label_of s) ≡ t
        → (option_map_or (λ s. leaf_fault s words) others [] ≡ []
        → is_some (option_map (λ s. rows_at s words) others) ≡ true
        → IsWhole (option_map (λ s. rows_at s words) others))
        → option_map_or (λ s. leaf_fault s words) (if t then Some s else others) [] ≡ []
        → is_some (option_map (λ s. rows_at s words) (if t then Some s else others)) ≡ true
        → IsWhole (option_map (λ s. rows_at s words) (if t then Some s else others))
    go true others answers below e some = each.0 answers e
    go false others answers below e some = below e some

no_answer : (name : Text) → IsNoHelp name → answers_to name (label_of help) ≡ true → ⊥
no_answer name free answers = go (bytes_eq (codes "help") name) refl
  where
    go : (t : Bool) → bytes_eq (codes "help") name ≡ t → ⊥
    go false t = let bad : false || false ≡ true = rw t at answers in cc
    go true t =
        let same : codes "help" ≡ name = (bytes_eq-Decides (codes "help") name).0 t in
        let bad : bytes_eq (codes "help") (codes "help") ≡ false = rw (← same) at free in
        cc

entered_whole : (parser : ValueParser) (stop : Option (Text × List Text)) → TakesAccounts parser
    → StoppedWell stop
    → entered_fault (built (township parser)) stop ≡ []
    → is_some (entered (built (township parser)) stop) ≡ true
    → IsWhole (entered (built (township parser)) stop)
entered_whole parser None takes well e some = cc
entered_whole parser (Some p) takes well e some =
    one_of (leaf plat ∷ leaf (acres parser) ∷ leaf normal ∷ leaf report ∷ help ∷ []) p.0 p.1 (
      λ _. plat_whole p.1,
      (
        λ _. acres_whole parser p.1 takes,
        (
          λ _. normal_whole p.1,
          (λ _. report_whole p.1, (λ answers. absurd (no_answer p.0 well answers), tt)),
        ),
      ),
    ) e some

was_entered : (b : Bool) → not b && true ≡ false → b ≡ true
was_entered true e = refl
was_entered false e = cc

pub township_whole : (parser : ValueParser) (words : List Text) → TakesAccounts parser
    → fault_of (township parser) words ≡ []
    → IsWhole (subcommand_of (township parser) words)
township_whole parser words takes e =
    let command = built (township parser) in
    let top = command.top in
    let names = names_of command in
    let after = argument_words (township parser) words in
    let stop = (walk top.rules names nothing_held after).stopped in
    let level =
    level_passes top names after (is_some (entered command stop)) (entered_fault command stop) e in
    let walked = is_walked MayHave top names after (inl refl, tt) (inl refl) level.walks in
    entered_whole parser stop takes walked.stopped level.enters
    (was_entered (is_some (entered command stop)) level.subcommand)
