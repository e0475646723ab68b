-- clap's rows after the defaults are applied: each has a value that its id can have, and each
-- argument with a default has a row.
use Rattle.std.proofs.Common.{◌≡◌, ◌⊎◌, ◌++◌, ◌<◌, ◌||◌, Bool, true, false, List, [], ◌∷◌, length, Some, refl}
use Rattle.std.proofs.Common.{inl, inr, subst, arith}
use Rattle.std.specs.Prelude.{fold, slice_get, if◌then◌else◌}
use Rattle.std.specs.Str.{bytes_eq}
use Rattle.std.proofs.lemmas.Slice.Eq.{bytes_eq-Decides}
use Rattle.clap.specs.Kinds.{request_kinds}
use Rattle.clap.specs.Walk.{Held, Row, Rule, Text, action_of, default_rows, finished, first_of, has_row}
use Rattle.clap.specs.Walk.{is_empty, more_values, reading_by, settled, with_default, with_values}
use Rattle.clap.specs.Takes.{is_given}
use Rattle.clap.specs.Faults.{default_fault, defaults_fault, given_default_fault, settle_fault}
use Rattle.clap.specs.declared.builder.action.ArgAction.TheVariants.{Help}
use Rattle.clap.specs.declared.builder.value_parser.Reading.{Reading}
use Rattle.clap.specs.declared.parser.matches.ValueSource.{ValueSource}
use Rattle.clap.specs.declared.parser.matches.ValueSource.TheVariants.{DefaultValue}
use Rattle.twp_program.proofs.CommandWalk.{first_empty, second_empty, same_id, some_not_empty, EachMay, Good}
use Rattle.twp_program.proofs.CommandWalk.{Fits, EachFits, with_values_good, taken_may, settled_good}

-- P says which values an id can have
module _ (P : Text → Text → Type 0) where
  -- a default is applied if the argument has no row
  default_good : (rows : List Row) (a : Rule) → Fits P a → Good P rows → default_fault rows a ≡ []
      → Good P (with_default rows a)
  default_good rows a fits g e = go (has_row a.id rows) e
    where
      at : (vs : List Text) → (if is_empty vs then [] else given_default_fault a vs) ≡ [] → Fits P a
          → Good P (default_rows a.id (reading_by a) vs rows)
      at [] e fits = g
      at (v ∷ vs) e fits = some (rw (some_not_empty v vs) at e) fits
        where
          some : given_default_fault a (v ∷ vs) ≡ [] → Fits P a
              → Good P (default_rows a.id (reading_by a) (v ∷ vs) rows)
          some e (inl help) =
              let asks : request_kinds (action_of a) ≡ [] = first_empty (request_kinds (action_of a)) _ e in
              let bad : request_kinds Help ≡ [] = rw help at asks in
              let none : ⊥ = cc in
              absurd none
          some e (inr fits) =
              let may = taken_may P a fits.1 (v ∷ vs) (second_empty (request_kinds (action_of a)) _ e) in
              with_values_good P a.id (reading_by a) DefaultValue v vs rows may g

      go : (t : Bool) → (if t || is_empty a.defaults then [] else given_default_fault a a.defaults) ≡ []
          → Good P (if t then rows else default_rows a.id (reading_by a) a.defaults rows)
      go true e = g
      go false e = at a.defaults e fits

  defaults_good : (rows : List Row) (c : List Rule) → EachFits P c → Good P rows → defaults_fault rows c ≡ []
      → Good P (fold with_default rows c)
  unfolding defaults_fault
  defaults_good rows [] each g e = g
  defaults_good rows (a ∷ rest) each g e =
      defaults_good (with_default rows a) rest each.1 (default_good rows a each.0 g (first_empty _ _ e))
      (second_empty (default_fault rows a) _ e)

  -- the resulting rows are good
  pub finished_good : (c : List Rule) (again : Bool) (h : Held) → EachFits P c → Good P h.rows
      → settle_fault c again h ≡ []
      → defaults_fault (settled c h).rows c ≡ [] → Good P (finished c h)
  finished_good c again h each g settles defaults =
      defaults_good (settled c h).rows c each (settled_good P c again h each g settles) defaults

  -- an argument with a row has a first value that it can have
  pub row_value : (id : Text) (rows : List Row) → Good P rows → has_row id rows ≡ true
      → (value : Text) × (first_of id rows ≡ Some value) × P id value
  row_value id [] h has = cc
  row_value id (r ∷ rs) h has = go (bytes_eq r.id id) refl (λ rest. row_value id rs h.2 rest)
    where
      at : (values : List Text) → 0 < length values → EachMay P r.id values
          → (value : Text) × (slice_get values 0 ≡ Some value) × P r.id value
      at [] lt may = absurd (omega arith)
      at (v ∷ vs) lt may = (v, refl, may.0)

      go : (t : Bool) → bytes_eq r.id id ≡ t
          → (has_row id rs ≡ true → (value : Text) × (first_of id rs ≡ Some value) × P id value)
          → (value : Text) × (first_of id (r ∷ rs) ≡ Some value) × P id value
      go true t rest =
          let first = at r.values h.0 h.1 in
          (first.0, rw t first.1, subst (λ x. P x first.0) (same_id r.id id t) first.2)
      go false t rest =
          let more : has_row id rs ≡ true = rw t at has in
          let found = rest more in
          (found.0, rw t found.1, found.2)

-- an argument that is given has a row
pub given_row : (id : Text) (rows : List Row) → is_given id rows ≡ true → has_row id rows ≡ true
given_row id [] given = cc
given_row id (r ∷ rs) given = go (bytes_eq r.id id) refl (given_row id rs)
  where
    go : (t : Bool) → bytes_eq r.id id ≡ t → (is_given id rs ≡ true → has_row id rs ≡ true)
        → t || has_row id rs ≡ true
    go true t rest = refl
    go false t rest = rest (rw t at given)

-- more values for an id leave it a row, and leave the rows of every other id unchanged
with_values_row : (id : Text) (how : Reading) (source : ValueSource) (vs : List Text) (rows : List Row)
    → has_row id (with_values id how source vs rows) ≡ true
with_values_row id how source vs [] = rw ((bytes_eq-Decides id id).1 refl) refl
with_values_row id how source vs (r ∷ rs) = go (bytes_eq r.id id) refl (with_values_row id how source vs rs)
  where
    go : (t : Bool) → bytes_eq r.id id ≡ t → has_row id (with_values id how source vs rs) ≡ true
        → has_row id (if t then more_values source vs r ++ rs else r ∷ with_values id how source vs rs) ≡ true
    go true t rest = rw t refl
    go false t rest = rw t rest

others_stay : (id other : Text) (how : Reading) (source : ValueSource) (vs : List Text) (rows : List Row)
    → has_row id rows ≡ true
    → has_row id (with_values other how source vs rows) ≡ true
others_stay id other how source vs [] has = cc
others_stay id other how source vs (r ∷ rs) has =
    go (bytes_eq r.id other) (at (bytes_eq r.id id) has (others_stay id other how source vs rs))
  where
    at : (t : Bool) → t || has_row id rs ≡ true
        → (has_row id rs ≡ true → has_row id (with_values other how source vs rs) ≡ true)
        → t || has_row id (with_values other how source vs rs) ≡ true
    at true h rest = refl
    at false h rest = rest h

    go : (t : Bool) → has_row id (r ∷ with_values other how source vs rs) ≡ true
        → has_row id (if t then more_values source vs r ++ rs else r ∷ with_values other how source vs rs)
        ≡ true
    go true below = has
    go false below = below

default_stays : (id : Text) (rows : List Row) (a : Rule) → has_row id rows ≡ true
    → has_row id (with_default rows a) ≡ true
default_stays id rows a has = go (has_row a.id rows)
  where
    at : (vs : List Text) → has_row id (default_rows a.id (reading_by a) vs rows) ≡ true
    at [] = has
    at (v ∷ vs) = others_stay id a.id (reading_by a) DefaultValue (v ∷ vs) rows has

    go : (t : Bool) → has_row id (if t then rows else default_rows a.id (reading_by a) a.defaults rows) ≡ true
    go true = has
    go false = at a.defaults

defaults_stay : (id : Text) (rows : List Row) (c : List Rule) → has_row id rows ≡ true
    → has_row id (fold with_default rows c) ≡ true
defaults_stay id rows [] has = has
defaults_stay id rows (a ∷ rest) has =
    defaults_stay id (with_default rows a) rest (default_stays id rows a has)

default_row : (rows : List Row) (a : Rule) → is_empty a.defaults ≡ false
    → has_row a.id (with_default rows a) ≡ true
default_row rows a some = go (has_row a.id rows) refl
  where
    at : (vs : List Text) → is_empty vs ≡ false
        → has_row a.id (default_rows a.id (reading_by a) vs rows) ≡ true
    at [] e = cc
    at (v ∷ vs) e = with_values_row a.id (reading_by a) DefaultValue (v ∷ vs) rows

    go : (t : Bool) → has_row a.id rows ≡ t
        → has_row a.id (if t then rows else default_rows a.id (reading_by a) a.defaults rows) ≡ true
    go true t = t
    go false t = at a.defaults some

-- one of the arguments has this id, and a default
abbrev pub HasDefault : Text → List Rule → Type 0
HasDefault id [] = ⊥
HasDefault id (a ∷ rest) = ((a.id ≡ id) × (is_empty a.defaults ≡ false)) ⊎ HasDefault id rest

-- so it has a row in the end
pub defaulted_row : (id : Text) (rows : List Row) (c : List Rule) → HasDefault id c
    → has_row id (fold with_default rows c) ≡ true
defaulted_row id rows [] h = absurd h
defaulted_row id rows (a ∷ rest) (inl h) =
    defaults_stay id (with_default rows a) rest
    (subst (λ x. has_row x (with_default rows a) ≡ true) h.0 (default_row rows a h.1))
defaulted_row id rows (a ∷ rest) (inr h) = defaulted_row id (with_default rows a) rest h
