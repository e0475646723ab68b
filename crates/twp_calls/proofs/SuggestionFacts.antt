-- The data of readings, one more at a time; over plain values.
use Prim.{tt}
use Rattle.std.proofs.Common.{◌≡◌, ◌<◌, ◌+◌, ℕ, ◌++◌, ◌∷◌, List, [], length, take, get_or}
use Rattle.std.proofs.Common.{ap, sym, refl, ◌∙◌, subst, append_assoc, append-nil, arith}
use Rattle.std.proofs.Common.{Result, Ok, Err, IfOk}
use Rattle.std.proofs.lemmas.List.{take_more}
use Rattle.std.proofs.lemmas.Slice.Zip.{AllZip-long}
use Rattle.std.specs.List.{AllZip}
use Rattle.twp_grid.specs.Lands.{Lotting}
use Rattle.twp_rules.specs.declared.change.Change.{Change}
use Rattle.twp_suggest.specs.declared.reading.Reading.{Reading}
use Rattle.twp_calls.specs.Suggestions.{IsChangeData, IsPiece, IsReadingData, IsReasonPut, Rooms, manner_of}
use Rattle.twp_calls.specs.Suggestions.{none}
use Rattle.twp_calls.specs.Suggestions.{one}
use Rattle.twp_calls.specs.declared.suggestion.TownshipChange.{TownshipChange}
use Rattle.twp_calls.specs.declared.suggestion.TownshipReading.{TownshipReading}
use Rattle.twp_calls.specs.declared.suggestion.TownshipSuggestion.{TownshipSuggestion}
use Rattle.twp_calls.specs.steps.Suggesting.{AreChangesAdded, AreDataOf, HasNoReadings, AreFoundReadings}
use Rattle.twp_calls.specs.steps.Suggesting.{IsReadingAdded}
use Rattle.twp_calls.specs.steps.Suggesting.{change_data, no_reason, shown, suggestion_of}
use Rattle.twp_calls.specs.declared.suggesting.FoundReadings.{FoundReadings}
use Rattle.twp_calls.specs.declared.suggesting.Reason.{Reason}
use Rattle.twp_suggest.specs.Readings.{AreReadings}

-- a piece is where it was if more is added at the end
piece_grown : {T : Type 0} (all more : List T) (start count : ℕ) (piece : List T)
    → IsPiece all start count piece → IsPiece (all ++ more) start count piece
piece_grown all more start count piece is = record {
  before = is.before;
  after = is.after ++ more;
  all_is =
      ap (λ l. l ++ more) is.all_is
      ∙ append_assoc is.before (piece ++ is.after) more
      ∙ ap (λ l. is.before ++ l) (append_assoc piece is.after more);
  start_is = is.start_is;
  count_is = is.count_is;
}

-- what is added at the end is a piece
piece_added : {T : Type 0} (all piece : List T) → IsPiece (all ++ piece) (length all) (length piece) piece
piece_added all piece = record {
  before = all;
  after = [];
  all_is = ap (λ l. all ++ l) (sym (append-nil piece));
  start_is = refl;
  count_is = refl;
}

-- a relation of two lists follows from another
zip_mapped : {A B : Type 0} (P Q : A → B → Type 0) → ((a : A) (b : B) → P a b → Q a b)
    → (xs : List A) (ys : List B) → AllZip P xs ys → AllZip Q xs ys
zip_mapped P Q follows [] [] all = all
zip_mapped P Q follows [] (y ∷ ys) all = all
zip_mapped P Q follows (x ∷ xs) [] all = all
zip_mapped P Q follows (x ∷ xs) (y ∷ ys) (first, rest) =
    (follows x y first, zip_mapped P Q follows xs ys rest)

-- one more at the end of both
-- lists of a relation are as long as each other
zip_long : {A B : Type 0} (R : A → B → Type 0) (xs : List A) (ys : List B) → AllZip R xs ys
    → length xs ≡ length ys
zip_long R xs ys all = sym (AllZip-long R xs ys all)

zip_push : {A B : Type 0} (R : A → B → Type 0) (xs : List A) (ys : List B) (x : A) (y : B)
    → AllZip R xs ys → R x y → AllZip R (xs ++ x ∷ []) (ys ++ y ∷ [])
zip_push R [] [] x y all last = (last, all)
zip_push R [] (z ∷ ys) x y all last = absurd all
zip_push R (w ∷ xs) [] x y all last = absurd all
zip_push R (w ∷ xs) (z ∷ ys) x y (first, rest) last = (first, zip_push R xs ys x y rest last)

change_grown : (text bytes more : List ℕ) (change : Change) (made : TownshipChange)
    → IsChangeData text bytes change made → IsChangeData text (bytes ++ more) change made
change_grown text bytes more change made is = record {
  start_is = is.start_is;
  end_is = is.end_is;
  written_is =
      piece_grown bytes more made.written made.written_length change.written.now is.written_is;
  copied_is = is.copied_is;
  copied_end_is = is.copied_end_is;
  rule_is = is.rule_is;
  assumes_is = is.assumes_is;
}

changes_grown : (text bytes more : List ℕ) (list : List Change) (made : List TownshipChange)
    → AllZip (IsChangeData text bytes) list made → AllZip (IsChangeData text (bytes ++ more)) list made
changes_grown text bytes more =
    zip_mapped (IsChangeData text bytes) (IsChangeData text (bytes ++ more)) (change_grown text bytes more)

reading_grown : (text : List ℕ) (changes more : List TownshipChange) (bytes others : List ℕ)
    (reading : Reading)
    (made : TownshipReading) → IsReadingData text changes bytes reading made
    → IsReadingData text (changes ++ more) (bytes ++ others) reading made
reading_grown text changes more bytes others reading made is = record {
  text_is = piece_grown bytes others made.text made.text_length reading.text.items is.text_is;
  list = is.list;
  changes_are = piece_grown changes more made.changes made.changes_length is.list is.changes_are;
  each = changes_grown text bytes others reading.changes.items is.list is.each;
  manner_is = is.manner_is;
  reserved_is = is.reserved_is;
}

-- no change yet
pub no_changes : (text : List ℕ) (changes : List TownshipChange) (bytes : List ℕ)
    → AreChangesAdded text [] changes changes bytes bytes
no_changes text changes bytes = record {
  made = [];
  new_is = sym (append-nil changes);
  more = [];
  bytes_are = sym (append-nil bytes);
  each = tt;
}

-- one more change
one_more_change : (text : List ℕ) (list : List Change) (change : Change)
    (old before after : List TownshipChange)
    (bytes bytes_before bytes_after : List ℕ) → AreChangesAdded text list old before bytes bytes_before
    → bytes_after ≡ bytes_before ++ change.written.now
    → after ≡ before ++ (change_data text change (length bytes_before) ∷ [])
    → AreChangesAdded text (list ++ change ∷ []) old after bytes bytes_after
one_more_change text list change old before after bytes bytes_before bytes_after added bytes_are is = record {
  made = added.made ++ (change_data text change (length bytes_before) ∷ []);
  new_is =
      is
      ∙ ap (λ l. l ++ (change_data text change (length bytes_before) ∷ [])) added.new_is
      ∙ append_assoc old added.made (change_data text change (length bytes_before) ∷ []);
  more = added.more ++ change.written.now;
  bytes_are =
      bytes_are
      ∙ ap (λ l. l ++ change.written.now) added.bytes_are
      ∙ append_assoc bytes added.more change.written.now;
  each =
      subst
      (λ b. AllZip (IsChangeData text b) (list ++ change ∷ [])
      (added.made ++ (change_data text change (length bytes_before) ∷ [])))
      (sym bytes_are)
      (zip_push (IsChangeData text (bytes_before ++ change.written.now)) list added.made change
      (change_data text change (length bytes_before))
      (changes_grown text bytes_before change.written.now list added.made added.each) (record {
        start_is = refl;
        end_is = refl;
        written_is = piece_added bytes_before change.written.now;
        copied_is = refl;
        copied_end_is = refl;
        rule_is = refl;
        assumes_is = refl;
      }));
}

-- a reading whose text and changes were added
pub reading_added : (text : List ℕ) (reading : Reading) (old new : Rooms) (made : TownshipReading)
    (bytes_between : List ℕ) → bytes_between ≡ old.bytes ++ reading.text.items
    → AreChangesAdded text reading.changes.items old.changes new.changes bytes_between new.bytes
    → new.readings ≡ old.readings ++ (made ∷ []) → made.text ≡ length old.bytes
    → made.text_length ≡ length reading.text.items → made.changes ≡ length old.changes
    → made.changes_length ≡ length reading.changes.items → made.manner ≡ manner_of reading.manner
    → made.reserved ≡ 0 → IsReadingAdded text reading old new
reading_added text reading old new made bytes_between text_is added readings_are text_at long changes_at count
    manner
    reserved =
    record {
      made = made;
      new_is = readings_are;
      changes = added.made;
      changes_are = added.new_is;
      bytes = reading.text.items ++ added.more;
      bytes_are =
          added.bytes_are ∙ ap (λ l. l ++ added.more) text_is
          ∙ append_assoc old.bytes reading.text.items added.more;
      is = record {
        text_is = record {
          before = old.bytes;
          after = added.more;
          all_is =
              added.bytes_are ∙ ap (λ l. l ++ added.more) text_is
              ∙ append_assoc old.bytes reading.text.items added.more;
          start_is = text_at;
          count_is = long;
        };
        list = added.made;
        changes_are = record {
          before = old.changes;
          after = [];
          all_is = added.new_is ∙ ap (λ l. old.changes ++ l) (sym (append-nil added.made));
          start_is = changes_at;
          count_is =
              count ∙ zip_long (IsChangeData text new.bytes) reading.changes.items added.made added.each;
        };
        each = added.each;
        manner_is = manner;
        reserved_is = reserved;
      };
    }

-- one more reading
one_more_reading : (text : List ℕ) (list : List Reading) (reading : Reading) (old new : Rooms)
    → AreDataOf text list old → IsReadingAdded text reading old new
    → AreDataOf text (list ++ reading ∷ []) new
one_more_reading text list reading old new all added =
    subst (λ d. AllZip (IsReadingData text new.changes new.bytes) (list ++ reading ∷ []) d) (sym added.new_is)
    (zip_push (IsReadingData text new.changes new.bytes) list old.readings reading added.made
    (subst (λ c. AllZip (IsReadingData text c new.bytes) list old.readings) (sym added.changes_are)
    (subst (λ b. AllZip (IsReadingData text (old.changes ++ added.changes) b) list old.readings)
    (sym added.bytes_are)
    (zip_mapped (IsReadingData text old.changes old.bytes)
    (IsReadingData text (old.changes ++ added.changes) (old.bytes ++ added.bytes))
    (reading_grown text old.changes added.changes old.bytes added.bytes) list old.readings all)))
    added.is)

-- the next change of a list
pub next_change : (text : List ℕ) (list : List Change) (i at : ℕ) (d : Change) (made : TownshipChange)
    (old before after : List TownshipChange) (bytes bytes_before bytes_after : List ℕ)
    → made ≡ change_data text (get_or list i d) at → at ≡ length bytes_before → i < length list
    → AreChangesAdded text (take i list) old before bytes bytes_before
    → bytes_after ≡ bytes_before ++ (get_or list i d).written.now → after ≡ before ++ (made ∷ [])
    → AreChangesAdded text (take (i + 1) list) old after bytes bytes_after
next_change text list i at d made old before after bytes bytes_before bytes_after is at_end within added
    bytes_are
    after_is =
    subst (λ l. AreChangesAdded text l old after bytes bytes_after) (sym (take_more list i d within))
    (one_more_change text (take i list) (get_or list i d) old before after bytes bytes_before bytes_after
    added
    bytes_are
    (after_is
    ∙ ap (λ m. before ++ (m ∷ [])) (is ∙ ap (λ n. change_data text (get_or list i d) n) at_end)))

-- the next reading of a list
pub next_reading : (text : List ℕ) (list : List Reading) (i : ℕ) (d : Reading) (old new : Rooms)
    → i < length list
    → AreDataOf text (take i list) old → IsReadingAdded text (get_or list i d) old new
    → AreDataOf text (take (i + 1) list) new
next_reading text list i d old new within all added =
    subst (λ l. AreDataOf text l new) (sym (take_more list i d within))
    (one_more_reading text (take i list) (get_or list i d) old new all added)

-- there is nothing
pub nothing_found : (found : FoundReadings) → found.readings.items ≡ [] → found.reason ≡ no_reason
    → HasNoReadings found
nothing_found found empty is = record {
  empty = empty;
  reason =
      none (ap (λ (r : Reason). r.at) is) (ap (λ (r : Reason). r.length) is) (ap (λ (r : Reason). r.start) is)
      (ap (λ (r : Reason). r.end) is);
}

-- there is only a reason
pub reason_found : (found : FoundReadings) → found.readings.items ≡ [] → found.reason.at ≡ 0
    → found.reason.length ≡ length found.bytes.items → HasNoReadings found
reason_found found empty first long = record {
  empty = empty;
  reason = one found.bytes.items empty (record {
    before = [];
    after = [];
    all_is = sym (append-nil found.bytes.items);
    start_is = first;
    count_is = long;
  });
}

-- there are no readings
pub none_found : (lots : Lotting) (text : List ℕ) (readings : List Reading) (found : FoundReadings)
    → AreReadings lots text readings → readings ≡ [] → HasNoReadings found → AreFoundReadings lots text found
none_found lots text readings found are empty without = record {
  readings = record {
    readings = [];
    are = subst (AreReadings lots text) empty are;
    each =
        subst (λ l. AllZip (IsReadingData text found.changes.items found.bytes.items) [] l)
        (sym without.empty) tt;
  };
  reason = without.reason;
}

-- a result that has this has that
pub if_ok : {T E : Type 0} (result : Result T E) (P Q : T → Type 0) → ((x : T) → P x → Q x)
    → IfOk result P → IfOk result Q
if_ok (Ok x) P Q follows is = follows x is
if_ok (Err fault) P Q follows is = is

-- an empty list
pub empty_when : {T : Type 0} (list : List T) → length list ≡ 0 → list ≡ []
empty_when [] is = refl
empty_when (x ∷ list) is = absurd (omega arith)

-- it is said how much was found
pub said : (lots : Lotting) (text : List ℕ) (found : FoundReadings) (suggestion : TownshipSuggestion)
    → suggestion ≡ suggestion_of found → AreFoundReadings lots text found
    → IsReasonPut (shown found) suggestion
said lots text found suggestion is in_text =
    subst (IsReasonPut (shown found)) (sym is) (record {
      sizes = record { readings = refl; changes = refl; bytes = refl };
      reason = in_text.reason;
    })
