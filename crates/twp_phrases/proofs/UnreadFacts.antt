-- Runs, word by word.
use Rattle.std.proofs.Common.{◌≡◌, ◌+◌, ◌<◌, ◌≤◌, ◌⊎◌, ℕ, suc, zero, Bool, true, false, List, [], ◌∷◌}
use Rattle.std.proofs.Common.{◌++◌, length, refl, sym, ap, subst, ◌∙◌, arith}
use Rattle.std.proofs.Common.{inl, inr, leb, ltb, drop, min, ◌&&◌}
use Rattle.std.proofs.lemmas.Bool.{cases_lt, false≢true, le-ltb, lt-ltb, lt-leb}
use Rattle.std.proofs.lemmas.Grind.{common_steps}
use Rattle.std.proofs.lemmas.List.Elements.{Contains-append_left, Contains-push, Contains-push_cases}
use Rattle.std.specs.List.{Contains}
use Rattle.std.specs.Prelude.{slice_index, slice_range, if◌then◌else◌}
use Rattle.twp_rules.specs.Edges.{is_one_of}
use Rattle.twp_phrases.specs.declared.stretches.Stretch.{Stretch}
use Rattle.twp_phrases.specs.Unread.{AreRunsBetween, AreRunsUpTo, AreUnread, HasNoWord, IsLeft, IsNextWord}
use Rattle.twp_phrases.specs.Unread.{covers, left_at}
use Rattle.twp_phrases.specs.Unread.{IsUnreadRun, IsUnreadWord, IsWithin, IsWord, is_break, is_of_word}
use Rattle.twp_phrases.specs.Unread.{connectives}

-- what is between two places is between wider ones
pub widened : (left : List ℕ) (from at to : ℕ) (runs : List Stretch) → AreRunsBetween left from at runs
    → at ≤ to → AreRunsBetween left from to runs
widened left from at to [] is more = omega arith
widened left from at to (run ∷ runs) is more =
    (is.0, is.1, widened left run.end at to runs is.2 more)

-- one more run
pub one_more : (left : List ℕ) (from at to : ℕ) (runs : List Stretch) (new : Stretch)
    → AreRunsBetween left from at runs → at ≤ new.start → IsUnreadRun left new → new.end ≤ to
    → AreRunsBetween left from to (runs ++ new ∷ [])
one_more left from at to [] new is after run before = (omega arith, run, before)
one_more left from at to (first ∷ runs) new is after run before =
    (is.0, is.1, one_more left first.end at to runs new is.2 after run before)

-- a longer last run
pub longer : (left : List ℕ) (from at to : ℕ) (runs : List Stretch) (last new : Stretch)
    → AreRunsBetween left from at (runs ++ last ∷ []) → new.start ≡ last.start → IsUnreadRun left new
    → new.end ≤ to → AreRunsBetween left from to (runs ++ new ∷ [])
longer left from at to [] last new is same run before =
    let first : from ≤ last.start = is.0 in (omega arith, run, before)
longer left from at to (first ∷ runs) last new is same run before =
    (is.0, is.1, longer left first.end at to runs last new is.2 same run before)

-- the last run
pub last_run : (left : List ℕ) (from at : ℕ) (runs : List Stretch) (last : Stretch)
    → AreRunsBetween left from at (runs ++ last ∷ []) → IsUnreadRun left last × (last.end ≤ at)
last_run left from at [] last is = (is.1, is.2)
last_run left from at (first ∷ runs) last is = last_run left first.end at runs last is.2

-- within one more run
pub within_more : (runs : List Stretch) (new : Stretch) (start end : ℕ) → IsWithin runs start end
    → IsWithin (runs ++ new ∷ []) start end
within_more runs new start end is = record {
  run = is.run;
  listed = Contains-append_left runs (new ∷ []) is.run is.listed;
  from = is.from;
  to = is.to;
}

-- within the last run
pub within_last : (runs : List Stretch) (new : Stretch) (start end : ℕ) → new.start ≤ start → end ≤ new.end
    → IsWithin (runs ++ new ∷ []) start end
within_last runs new start end from to = record {
  run = new;
  listed = Contains-push runs new;
  from = from;
  to = to;
}

-- within a longer last run
pub within_longer : (runs : List Stretch) (last new : Stretch) (start end : ℕ)
    → IsWithin (runs ++ last ∷ []) start end → new.start ≡ last.start → last.end ≤ new.end
    → IsWithin (runs ++ new ∷ []) start end
within_longer runs last new start end is same more =
    by_run (Contains-push_cases runs last is.run is.listed)
  where
    by_run : Contains runs is.run ⊎ (last ≡ is.run) → IsWithin (runs ++ new ∷ []) start end
    by_run (inl listed) = record {
      run = is.run;
      listed = Contains-append_left runs (new ∷ []) is.run listed;
      from = is.from;
      to = is.to;
    }
    by_run (inr is_last) =
        let from : last.start ≤ start = subst (λ (run : Stretch). run.start ≤ start) (sym is_last) is.from in
        let to : end ≤ last.end = subst (λ (run : Stretch). end ≤ run.end) (sym is_last) is.to in
        within_last runs new start end (omega arith) (omega arith)

-- a byte of a word is no break
pub no_break : (byte : ℕ) → is_of_word byte ≡ true → is_break byte ≡ false
no_break byte is = by_test (is_break byte) refl
  where
    by_test : (test : Bool) → is_break byte ≡ test → test ≡ false
    by_test false e = refl
    by_test true e = grind (arith, common_steps)

-- no byte is both
pub not_both : (test : Bool) → test ≡ true → test ≡ false → ⊥
not_both true a b = false≢true (sym b)
not_both false a b = false≢true a

-- a word that begins from a place on, and before the next word ends, is the next word
pub is_next : (left : List ℕ) (from : ℕ) (next : Stretch) (start end : ℕ) → IsNextWord left from next
    → IsWord left start end → from ≤ start → start < next.end → (start ≡ next.start) × (end ≡ next.end)
is_next left from next start end is word after before = (begins, ends)
  where
    not_earlier : next.start ≤ start
    not_earlier = elim (cases_lt start next.start) [
      | inl less ↦
          absurd (not_both (is_of_word (slice_index left start))
          (word.bytes start (omega arith) word.nonempty) (is.none_before start after less))
      | inr more ↦ more
    ]

    not_later : start ≤ next.start
    not_later = elim (cases_lt next.start start) [
      | inl less ↦ by_before start less before word.begins
      | inr more ↦ more
    ]
      where
        by_before : (at : ℕ) → next.start < at → at < next.end
            → ((k : ℕ) → suc k ≡ at → is_of_word (slice_index left k) ≡ false) → at ≤ next.start
        by_before zero less h none = omega arith
        by_before (suc k) less h none =
            absurd (not_both (is_of_word (slice_index left k)) (is.bytes k (omega arith) (omega arith))
            (none k refl))

    begins : start ≡ next.start
    begins = omega (arith, not_earlier, not_later)

    not_longer : end ≤ next.end
    not_longer = elim (cases_lt next.end end) [
      | inl less ↦
          absurd (not_both (is_of_word (slice_index left next.end))
          (word.bytes next.end (omega arith) less) is.ends)
      | inr more ↦ more
    ]

    not_shorter : next.end ≤ end
    not_shorter = elim (cases_lt end next.end) [
      | inl less ↦
          absurd (not_both (is_of_word (slice_index left end))
          (is.bytes end (omega (arith, not_earlier, word.nonempty)) less) word.ends)
      | inr more ↦ more
    ]

    ends : end ≡ next.end
    ends = omega (arith, not_longer, not_shorter)

-- the longer last run, on one line and outside of phrases
pub longer_run : (left : List ℕ) (from : ℕ) (last next : Stretch) → IsUnreadRun left last → last.end ≤ from
    → IsNextWord left from next
    → ((at : ℕ) → last.end ≤ at → at < next.start → is_break (slice_index left at) ≡ false)
    → IsUnreadRun left (record { start = last.start; end = next.end })
longer_run left from last next run before is clear = record {
  nonempty = omega (arith, run.nonempty, is.after, is.nonempty);
  unbroken = λ at low high. elim (cases_lt at last.end) [
    | inl in_last ↦ run.unbroken at low in_last
    | inr past_last ↦ elim (cases_lt at next.start) [
      | inl between ↦ clear at past_last between
      | inr in_next ↦ no_break (slice_index left at) (is.bytes at in_next high)
    ]
  ];
}

-- a word is a run
pub word_run : (left : List ℕ) (from : ℕ) (next : Stretch) → IsNextWord left from next → IsUnreadRun left next
word_run left from next is = record {
  nonempty = is.nonempty;
  unbroken = λ at low high. no_break (slice_index left at) (is.bytes at low high);
}

-- each unread word that begins before the next word ends
complete_with : (left : List ℕ) (from : ℕ) (old new : List Stretch) (next : Stretch)
    → AreRunsUpTo left from old → IsNextWord left from next
    → ((start end : ℕ) → IsWithin old start end → IsWithin new start end)
    → IsWithin new next.start next.end
    → (start end : ℕ) → start < next.end → IsUnreadWord left start end → IsWithin new start end
complete_with left from old new next are is kept within start end before unread =
    elim (cases_lt start from) [
      | inl earlier ↦ kept start end (are.complete start end earlier unread)
      | inr later ↦
          let same = is_next left from next start end is unread.word later before in
          subst (λ s. IsWithin new s end) (sym same.0)
          (subst (λ e. IsWithin new next.start e) (sym same.1) within)
    ]

-- the next word as one more run
pub added_apart : (left : List ℕ) (from : ℕ) (runs : List Stretch) (next : Stretch)
    → AreRunsUpTo left from runs → IsNextWord left from next
    → AreRunsUpTo left next.end (runs ++ next ∷ [])
added_apart left from runs next are is = record {
  ordered =
      one_more left 0 from next.end runs next are.ordered is.after (word_run left from next is) (omega arith);
  complete =
      complete_with left from runs (runs ++ next ∷ []) next are is (within_more runs next)
      (within_last runs next next.start next.end (omega arith) (omega arith));
}

-- the same without an earlier run
pub first_added : (left : List ℕ) (from : ℕ) (runs : List Stretch) (next : Stretch) → runs ≡ []
    → AreRunsUpTo left from runs → IsNextWord left from next → AreRunsUpTo left next.end (next ∷ [])
first_added left from runs next none are is =
    added_apart left from [] next (subst (λ list. AreRunsUpTo left from list) none are) is

-- the next word in the last run
pub added_longer : (left : List ℕ) (from : ℕ) (runs : List Stretch) (last next : Stretch)
    → AreRunsUpTo left from (runs ++ last ∷ []) → IsNextWord left from next
    → ((at : ℕ) → last.end ≤ at → at < next.start → is_break (slice_index left at) ≡ false)
    → AreRunsUpTo left next.end (runs ++ record { start = last.start; end = next.end } ∷ [])
added_longer left from runs last next are is clear =
    let new : Stretch = record { start = last.start; end = next.end } in
    let final = last_run left 0 from runs last are.ordered in
    let run : IsUnreadRun left new = longer_run left from last next final.0 final.1 is clear in
    record {
      ordered = longer left 0 from next.end runs last new are.ordered refl run (omega arith);
      complete =
          complete_with left from (runs ++ last ∷ []) (runs ++ new ∷ []) next are is
          (λ start end within. within_longer runs last new start end within refl
          (omega (arith, final.1, is.after, is.nonempty)))
          (within_last runs new next.start next.end (omega (arith, final.1, is.after, final.0.nonempty))
          (omega arith));
    }

-- a word that joins phrases is in no run
pub passed : (left : List ℕ) (from : ℕ) (runs : List Stretch) (next : Stretch)
    → AreRunsUpTo left from runs → IsNextWord left from next
    → is_one_of (slice_range left next.start next.end) connectives ≡ true
    → AreRunsUpTo left next.end runs
passed left from runs next are is joins = record {
  ordered = widened left 0 from next.end runs are.ordered (omega (arith, is.after, is.nonempty));
  complete = λ start end before unread. elim (cases_lt start from) [
    | inl earlier ↦ are.complete start end earlier unread
    | inr later ↦
        let same = is_next left from next start end is unread.word later before in
        let words = λ (s e : ℕ). is_one_of (slice_range left s e) connectives in
        absurd (not_both (words next.start next.end) joins
        (subst (λ s. words s next.end ≡ false) same.0
        (subst (λ e. words start e ≡ false) same.1 unread.is_unread)))
  ];
}

-- no runs yet
pub no_runs : (left : List ℕ) → AreRunsUpTo left 0 []
no_runs left = record { ordered = omega arith; complete = λ start end before unread. absurd (omega arith) }

-- the runs, where no word is left
pub all_runs : (left : List ℕ) (from : ℕ) (runs : List Stretch) → AreRunsUpTo left from runs
    → from ≤ length left → HasNoWord left from → AreRunsUpTo left (length left) runs
all_runs left from runs are within none = record {
  ordered = widened left 0 from (length left) runs are.ordered within;
  complete = λ start end before unread. elim (cases_lt start from) [
    | inl earlier ↦ are.complete start end earlier unread
    | inr later ↦
        absurd (not_both (is_of_word (slice_index left start))
        (unread.word.bytes start (omega arith) unread.word.nonempty) (none start later))
  ];
}

-- the unread runs of a text
pub are_unread : (text left : List ℕ) (phrases runs : List Stretch) → IsLeft text phrases left
    → AreRunsUpTo left (length left) runs → AreUnread text phrases runs
are_unread text left phrases runs is are = record {
  left = left;
  is_left = is;
  ordered = widened left 0 (length left) (length text) runs are.ordered (omega (arith, is.size));
  complete = λ start end unread.
      are.complete start end (omega (arith, unread.word.nonempty, unread.word.within)) unread;
}

-- past the end there is 0
past_end : (bytes : List ℕ) (k : ℕ) → length bytes ≤ k → slice_index bytes k ≡ 0
past_end [] k past = refl
past_end (byte ∷ bytes) zero past = absurd (omega arith)
past_end (byte ∷ bytes) (suc k) past = past_end bytes k (omega arith)

-- 0 either way
zero_either : (test : Bool) → ◌≡◌ {A = ℕ} (if test then 0 else 0) 0
zero_either true = refl
zero_either false = refl

-- a phrase whose bytes were written over up to a place: that where it ends, or where the text does
pub all_blank : (start at end k : ℕ) (bytes : List ℕ) → start ≤ at → min end (length bytes) ≤ at
    → (start < at → at ≤ min end (length bytes))
    → (if (leb start k && ltb k at) then 0 else slice_index bytes k)
    ≡ (if (leb start k && ltb k end) then 0 else slice_index bytes k)
all_blank start at end k bytes from past upto = elim (cases_lt k (length bytes)) [
  | inl inside ↦ ap (λ test. if test then 0 else slice_index bytes k) (same_test inside)
  | inr outside ↦
      subst (λ byte. (if (leb start k && ltb k at) then 0 else byte)
      ≡ (if (leb start k && ltb k end) then 0 else byte)) (sym (past_end bytes k outside))
      (zero_either (leb start k && ltb k at) ∙ sym (zero_either (leb start k && ltb k end)))
]
  where
    same_end : start ≤ k → k < length bytes → ltb k at ≡ ltb k end
    same_end low inside = elim (cases_lt k end) [
      | inl before ↦ lt-ltb k at (omega arith) ∙ sym (lt-ltb k end before)
      | inr after ↦ le-ltb k at (by_start after low) ∙ sym (le-ltb k end after)
    ]
      where
        by_start : end ≤ k → start ≤ k → at ≤ k
        by_start after low = elim (cases_lt start at) [
          | inl more ↦ let bound = upto more in omega arith
          | inr none ↦ omega arith
        ]

    same_test : k < length bytes → (leb start k && ltb k at) ≡ (leb start k && ltb k end)
    same_test inside = elim (cases_lt k start) [
      | inl before ↦
          ap (λ test. test && ltb k at) (lt-leb start k before)
          ∙ sym (ap (λ test. test && ltb k end) (lt-leb start k before))
      | inr low ↦ ap (λ test. leb start k && test) (same_end low inside)
    ]

-- the next phrase leaves what it doesn't cover
pub next_left : (phrases : List Stretch) (i k byte new : ℕ) (phrase : Stretch)
    → drop i phrases ≡ phrase ∷ drop (i + 1) phrases → new ≡ (if covers phrase k then 0 else byte)
    → left_at (drop (i + 1) phrases) k new ≡ left_at (drop i phrases) k byte
next_left phrases i k byte new phrase next is =
    ap (left_at (drop (i + 1) phrases) k) is ∙ sym (ap (λ list. left_at list k byte) next)
