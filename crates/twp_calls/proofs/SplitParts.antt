-- The parts of a text with headings, and that there are no others.
use Rattle.std.proofs.Common.{◌≡◌, ℕ, ◌+◌, ◌<◌, ◌≤◌, List, [], ◌∷◌, ◌++◌, length, drop, refl, sym, ap, subst}
use Rattle.std.proofs.Common.{◌∙◌, inl, inr, arith, length-append}
use Rattle.std.specs.List.{AllPass}
use Rattle.std.proofs.lemmas.List.{append_assoc}
use Rattle.twp_grid.specs.declared.refusal.Refusal.{Refusal}
use Rattle.twp_grammar.specs.Tokens.{Token, HasTokens, is_white}
use Rattle.twp_grammar.specs.Cutting.{IsFirstIn}
use Rattle.twp_grammar.proofs.TokenFacts.{has_token_list, one_token_list}
use Rattle.twp_calls.specs.Splits.{BeginsHeading, NoHeading, EndInSeparator, end_of_tokens, part_between}
use Rattle.twp_calls.specs.Splits.{IsFirstOfSeveral, HaveOneTownship, AreParts, IsSplit}
use Rattle.twp_calls.specs.Splits.{IsNoSplit, too_large, no_heading, SPLIT_LIMIT}
use Rattle.twp_calls.specs.steps.SplitSteps.{IsNextHeading, HasNoHeadingAfter, AreHeadedParts}
use Rattle.twp_calls.specs.declared.next_heading.NextHeading.{NextHeading}
use Rattle.twp_calls.specs.declared.unread.TownshipStretch.{TownshipStretch}

-- parts from a heading on complete those before it
pub record LeadOn (text : List ℕ) (from start : ℕ) (first heading : Token) (left : List Token)
    (parts : List TownshipStretch) : Type 0 where
  pub tokens : List Token
  pub cut : HasTokens from (drop from text) tokens
  pub are : (rest : List TownshipStretch) → AreParts start (length text) (heading ∷ left) rest
      → AreParts 0 (length text) (first ∷ tokens) (parts ++ rest)

-- the parts before a heading that begins at one place, and whose first token ends at another
pub record ReachHeading (text : List ℕ) (from start at : ℕ) (first : Token) (parts : List TownshipStretch)
    : Type 0 where
  pub heading : Token
  pub begins : BeginsHeading heading
  pub ends : heading.at + length heading.text ≡ at
  pub joins : (left : List Token) → HasTokens at (drop at text) left
      → LeadOn text from start first heading left parts

pub record AtHeading (text : List ℕ) (from start at : ℕ) (parts : List TownshipStretch) : Type 0 where
  pub within : at ≤ length text
  pub reached : (first : Token) → BeginsHeading first → first.at + length first.text ≡ from
      → ReachHeading text from start at first parts

pub at_first_heading : (text : List ℕ) (from : ℕ) (parts : List TownshipStretch) → from ≤ length text
    → parts ≡ [] → AtHeading text from 0 from parts
at_first_heading text from parts within none =
    subst (λ (ps : List TownshipStretch). AtHeading text from 0 from ps) (sym none) (record {
      within = within;
      reached = λ first begins ends. record {
        heading = first;
        begins = begins;
        ends = ends;
        joins = λ left has. record { tokens = left; cut = has; are = λ rest are. are };
      };
    })

-- the part before the next heading
first_of_several : (text : List ℕ) (start at : ℕ) (heading : Token) (next : NextHeading)
    (left : List Token) (found : IsNextHeading text at next)
    → BeginsHeading heading → heading.at + length heading.text ≡ at
    → IsFirstOfSeveral start (heading ∷ (found.between ++ (found.heading ∷ left)))
    (part_between start next.land_end) found.heading left
first_of_several text start at heading next left found begins ends = record {
  heading = heading;
  begins = begins;
  between = found.between;
  no_other = found.none;
  next_begins = found.begins;
  spelled = refl;
  land = found.land;
  separator = found.separator;
  separated = found.separated;
  part_is =
      ap (λ n. part_between start n)
      (found.land_end_is ∙ ap (λ n. end_of_tokens n found.land) (sym ends));
}

lead_to_next : (text : List ℕ) (from start at : ℕ) (first : Token) (parts : List TownshipStretch)
    (next : NextHeading) (found : IsNextHeading text at next)
    (reach : ReachHeading text from start at first parts)
    → ReachHeading text from next.at next.end first (parts ++ part_between start next.land_end ∷ [])
lead_to_next text from start at first parts next found reach = record {
  heading = found.heading;
  begins = found.begins;
  ends = sym found.end_is;
  joins = λ left has.
      let part : TownshipStretch = part_between start next.land_end in
      let there : HasTokens (found.heading.at + length found.heading.text) (drop next.end text) left =
      subst (λ (n : ℕ). HasTokens n (drop next.end text) left) found.end_is has in
      let on = reach.joins (found.between ++ (found.heading ∷ left)) (found.joins left there) in
      record {
        tokens = on.tokens;
        cut = on.cut;
        are = λ rest are.
            let from_next : AreParts found.heading.at (length text) (found.heading ∷ left) rest =
            subst (λ (n : ℕ). AreParts n (length text) (found.heading ∷ left) rest) found.at_is are in
            subst (λ (ps : List TownshipStretch). AreParts 0 (length text) (first ∷ on.tokens) ps)
            (sym (append_assoc parts (part ∷ []) rest))
            (on.are (part ∷ rest)
            (inr (
              found.heading,
              left,
              first_of_several text start at reach.heading next left found reach.begins reach.ends,
              from_next,
            )));
      };
}

pub at_next_heading : (text : List ℕ) (from start at : ℕ) (parts : List TownshipStretch)
    (next : NextHeading) (part : TownshipStretch) → AtHeading text from start at parts
    → IsNextHeading text at next → part ≡ part_between start next.land_end
    → AtHeading text from next.at next.end (parts ++ part ∷ [])
at_next_heading text from start at parts next part s found part_is =
    subst (λ (p : TownshipStretch). AtHeading text from next.at next.end (parts ++ p ∷ [])) (sym part_is)
    (record {
      within = found.within;
      reached = λ first begins ends.
          lead_to_next text from start at first parts next found (s.reached first begins ends);
    })

-- the last part
pub headed_parts_are : (text : List ℕ) (from start at : ℕ) (parts : List TownshipStretch)
    (part : TownshipStretch) → AtHeading text from start at parts → HasNoHeadingAfter text at
    → part ≡ part_between start (length text) → AreHeadedParts text from (parts ++ part ∷ [])
headed_parts_are text from start at parts part s none part_is = record {
  of = λ first begins ends.
      let reach = s.reached first begins ends in
      let on = reach.joins none.tokens none.cut in (
        on.tokens,
        on.cut,
        on.are (part ∷ []) (inl (record { no_others = refl; one = none.none; part_is = part_is })),
      );
}

-- a text whose first token begins a heading
pub split_with_heading : (text : List ℕ) (from : ℕ) (token : Token) (parts : List TownshipStretch)
    → length text ≤ SPLIT_LIMIT → IsFirstIn text 0 token → BeginsHeading token
    → token.at + length token.text ≡ from → AreHeadedParts text from parts → IsSplit text parts
split_with_heading text from token parts within first begins ends headed =
    let found = headed.of token begins ends in
    let there : HasTokens (token.at + length token.text) (drop (token.at + length token.text) text) found.0 =
    subst (λ (n : ℕ). HasTokens n (drop n text) found.0) (sym ends) found.1 in
    record {
      within = within;
      tokens = token ∷ found.0;
      cut = (drop (token.at + length token.text) text, first.starts, there);
      are = found.2;
    }

-- a text with no heading after its first token, which begins none
pub split_without_heading : (text : List ℕ) (from : ℕ) (token : Token) (parts : List TownshipStretch)
    → length text ≤ SPLIT_LIMIT → IsFirstIn text 0 token → token.at + length token.text ≡ from
    → HasNoHeadingAfter text from → parts ≡ part_between 0 (length text) ∷ [] → IsSplit text parts
split_without_heading text from token parts within first ends none parts_are =
    let there : HasTokens (token.at + length token.text) (drop (token.at + length token.text) text)
    none.tokens =
    subst (λ (n : ℕ). HasTokens n (drop n text) none.tokens) (sym ends) none.cut in
    record {
      within = within;
      tokens = token ∷ none.tokens;
      cut = (drop (token.at + length token.text) text, first.starts, there);
      are =
          subst (λ (ps : List TownshipStretch). AreParts 0 (length text) (token ∷ none.tokens) ps)
          (sym parts_are) (inl (record { no_others = refl; one = none.none; part_is = refl }));
    }

-- a text of white space
pub split_of_nothing : (text : List ℕ) (parts : List TownshipStretch) → length text ≤ SPLIT_LIMIT
    → AllPass is_white text → parts ≡ part_between 0 (length text) ∷ [] → IsSplit text parts
split_of_nothing text parts within white parts_are = record {
  within = within;
  tokens = [];
  cut = white;
  are =
      subst (λ (ps : List TownshipStretch). AreParts 0 (length text) [] ps) (sym parts_are)
      (inl (record { no_others = refl; one = tt; part_is = refl }));
}

-- a heading after something else
pub refused_at : (text : List ℕ) (from : ℕ) (token : Token) (next : NextHeading)
    → length text ≤ SPLIT_LIMIT → IsFirstIn text 0 token → ¬ BeginsHeading token
    → token.at + length token.text ≡ from → IsNextHeading text from next
    → IsNoSplit text (record { number = 38; at = next.at })
refused_at text from token next within first not ends found =
    let left = has_token_list (found.heading.at + length found.heading.text) (drop next.end text) in
    let tail : HasTokens from (drop from text) (found.between ++ (found.heading ∷ left.0)) =
    found.joins left.0 left.1 in
    let there : HasTokens (token.at + length token.text) (drop (token.at + length token.text) text)
    (found.between ++ (found.heading ∷ left.0)) =
    subst (λ (n : ℕ). HasTokens n (drop n text) (found.between ++ (found.heading ∷ left.0))) (sym ends)
    tail in
    no_heading within (record {
      before = token ∷ found.between;
      some = omega arith;
      none = (not, found.none);
      heading = found.heading;
      begins = found.begins;
      more = left.0;
      cut = (drop (token.at + length token.text) text, first.starts, there);
      is = ap (λ n. record { number = 38; at = n }) found.at_is;
    })

-- the first heading of tokens is the only one with none before it
record AreSameAround (between other : List Token) (next heading : Token) (more left : List Token)
    : Type 0 where
  pub betweens : between ≡ other
  pub nexts : next ≡ heading
  pub mores : more ≡ left

same_around : (between other : List Token) (next heading : Token) (more left : List Token)
    → NoHeading between → NoHeading other → BeginsHeading next → BeginsHeading heading
    → between ++ (next ∷ more) ≡ other ++ (heading ∷ left)
    → AreSameAround between other next heading more left
same_around [] [] next heading more left none none' begins begins' e =
    record { betweens = refl; nexts = cc e; mores = cc e }
same_around [] (token ∷ other) next heading more left none none' begins begins' e =
    let same : next ≡ token = cc e in
    absurd (none'.0 (subst BeginsHeading same begins))
same_around (token ∷ between) [] next heading more left none none' begins begins' e =
    let same : token ≡ heading = cc e in
    absurd (none.0 (subst BeginsHeading (sym same) begins'))
same_around (token ∷ between) (token' ∷ other) next heading more left none none' begins begins' e =
    let firsts : token ≡ token' = cc e in
    let rests : between ++ (next ∷ more) ≡ other ++ (heading ∷ left) = cc e in
    let same = same_around between other next heading more left none.1 none'.1 begins begins' rests in
    record {
      betweens = ap (λ ts. token ∷ ts) same.betweens ∙ ap (λ t. t ∷ other) firsts;
      nexts = same.nexts;
      mores = same.mores;
    }

not_among : (between more : List Token) (next : Token) → NoHeading (between ++ (next ∷ more))
    → ¬ BeginsHeading next
not_among [] more next none = none.0
not_among (token ∷ between) more next none = not_among between more next none.1

-- tokens end in only one longest separator
same_split : (land land' separator separator' : List Token) → length separator ≡ length separator'
    → land ++ separator ≡ land' ++ separator' → land ≡ land'
same_split [] [] separator separator' sizes e = refl
same_split [] (token ∷ land') separator separator' sizes e =
    let long : length separator ≡ length (token ∷ land' ++ separator') = ap length e in
    absurd (let total : length (token ∷ land' ++ separator') ≡ length (token ∷ land') + length separator' =
    length-append (token ∷ land') separator' in omega (arith, long, total, sizes))
same_split (token ∷ land) [] separator separator' sizes e =
    let long : length (token ∷ land ++ separator) ≡ length separator' = ap length e in
    absurd (let total : length (token ∷ land ++ separator) ≡ length (token ∷ land) + length separator =
    length-append (token ∷ land) separator in omega (arith, long, total, sizes))
same_split (token ∷ land) (token' ∷ land') separator separator' sizes e =
    let firsts : token ≡ token' = cc e in
    let rests : land ++ separator ≡ land' ++ separator' = cc e in
    ap (λ ts. token ∷ ts) (same_split land land' separator separator' sizes rests)
    ∙ ap (λ t. t ∷ land') firsts

same_land : (tokens land separator land' separator' : List Token) → EndInSeparator tokens land separator
    → EndInSeparator tokens land' separator' → land ≡ land'
same_land tokens land separator land' separator' one other =
    let some : length separator' ≤ length separator =
    one.longest land' separator' other.joined other.separates in
    let others : length separator ≤ length separator' =
    other.longest land separator one.joined one.separates in
    same_split land land' separator separator' (omega (arith, some, others)) (sym one.joined ∙ other.joined)

-- what two first parts of the same tokens have in common
record AreSameParts (part part' : TownshipStretch) (next next' : Token) (more more' : List Token)
    : Type 0 where
  pub parts : part ≡ part'
  pub nexts : next ≡ next'
  pub mores : more ≡ more'

same_first : (start : ℕ) (tokens : List Token) (part part' : TownshipStretch) (next next' : Token)
    (more more' : List Token) → IsFirstOfSeveral start tokens part next more
    → IsFirstOfSeveral start tokens part' next' more'
    → AreSameParts part part' next next' more more'
same_first start tokens part part' next next' more more' one other =
    let e : one.heading ∷ (one.between ++ (next ∷ more))
    ≡ other.heading ∷ (other.between ++ (next' ∷ more')) =
    sym one.spelled ∙ other.spelled in
    let headings : one.heading ≡ other.heading = cc e in
    let rests : one.between ++ (next ∷ more) ≡ other.between ++ (next' ∷ more') = cc e in
    let same = same_around one.between other.between next next' more more' one.no_other other.no_other
    one.next_begins other.next_begins rests in
    let separated : EndInSeparator one.between other.land other.separator =
    subst (λ (ts : List Token). EndInSeparator ts other.land other.separator) (sym same.betweens)
    other.separated in
    let lands : one.land ≡ other.land =
    same_land one.between one.land one.separator other.land other.separator one.separated separated in
    record {
      parts =
          one.part_is
          ∙ ap (λ (t : Token). part_between start (end_of_tokens (t.at + length t.text) one.land)) headings
          ∙ ap (λ ts. part_between start
          (end_of_tokens (other.heading.at + length other.heading.text) ts)) lands
          ∙ sym other.part_is;
      nexts = same.nexts;
      mores = same.mores;
    }

not_one : (tokens : List Token) (start : ℕ) (part : TownshipStretch) (next : Token) (more : List Token)
    → HaveOneTownship tokens → ¬ IsFirstOfSeveral start tokens part next more
not_one tokens start part next more one first =
    let none : NoHeading (first.between ++ (next ∷ more)) =
    subst HaveOneTownship first.spelled one in
    not_among first.between more next none first.next_begins

-- tokens have only one list of parts
pub same_parts : (parts parts' : List TownshipStretch) (start end : ℕ) (tokens : List Token)
    → AreParts start end tokens parts → AreParts start end tokens parts' → parts ≡ parts'
same_parts [] parts' start end tokens are are' = absurd are
same_parts (part ∷ parts) [] start end tokens are are' = absurd are'
same_parts (part ∷ parts) (part' ∷ parts') start end tokens (inl only) (inl only') =
    ap (λ p. p ∷ parts) (only.part_is ∙ sym only'.part_is)
    ∙ ap (λ ps. part' ∷ ps) (only.no_others ∙ sym only'.no_others)
same_parts (part ∷ parts) (part' ∷ parts') start end tokens (inl only) (inr several) =
    absurd (not_one tokens start part' several.0 several.1 only.one several.2)
same_parts (part ∷ parts) (part' ∷ parts') start end tokens (inr several) (inl only) =
    absurd (not_one tokens start part several.0 several.1 only.one several.2)
same_parts (part ∷ parts) (part' ∷ parts') start end tokens (inr several) (inr several') =
    let same = same_first start tokens part part' several.0 several'.0 several.1 several'.1 several.2
    several'.2 in
    let there : AreParts several.0.at end (several.0 ∷ several.1) parts' =
    subst (λ (ts : List Token). AreParts several.0.at end (several.0 ∷ ts) parts') (sym same.mores)
    (subst (λ (t : Token). AreParts t.at end (t ∷ several'.1) parts') (sym same.nexts) several'.3) in
    ap (λ p. p ∷ parts) same.parts
    ∙ ap (λ ps. part' ∷ ps)
    (same_parts parts parts' several.0.at end (several.0 ∷ several.1) several.3 there)

pub only_split : (text : List ℕ) (parts other : List TownshipStretch) → IsSplit text parts
    → IsSplit text other → other ≡ parts
only_split text parts other one two =
    let same : two.tokens ≡ one.tokens = one_token_list 0 text two.tokens one.tokens two.cut one.cut in
    same_parts other parts 0 (length text) one.tokens
    (subst (λ (ts : List Token). AreParts 0 (length text) ts other) same two.are) one.are

-- a text that is refused has no parts
not_headed : (before more tokens : List Token) (heading : Token) (start : ℕ) (part : TownshipStretch)
    (next : Token) (left : List Token) → 0 < length before → NoHeading before
    → tokens ≡ before ++ (heading ∷ more) → ¬ IsFirstOfSeveral start tokens part next left
not_headed [] more tokens heading start part next left some none e first = absurd (omega (arith, some))
not_headed (token ∷ before) more tokens heading start part next left some none e first =
    let spelled : first.heading ∷ (first.between ++ (next ∷ left)) ≡ token ∷ (before ++ (heading ∷ more)) =
    sym first.spelled ∙ e in
    let same : first.heading ≡ token = cc spelled in
    none.0 (subst BeginsHeading same first.begins)

not_only : (before more tokens : List Token) (heading : Token) → 0 < length before → BeginsHeading heading
    → tokens ≡ before ++ (heading ∷ more) → ¬ HaveOneTownship tokens
not_only [] more tokens heading some begins e one = absurd (omega (arith, some))
not_only (token ∷ before) more tokens heading some begins e one =
    let none : NoHeading (before ++ (heading ∷ more)) = subst HaveOneTownship e one in
    not_among before more heading none begins

no_parts_of : (parts : List TownshipStretch) (before more tokens : List Token) (heading : Token)
    (start end : ℕ) → 0 < length before → NoHeading before → BeginsHeading heading
    → tokens ≡ before ++ (heading ∷ more) → ¬ AreParts start end tokens parts
no_parts_of [] before more tokens heading start end some none begins e are = are
no_parts_of (part ∷ parts) before more tokens heading start end some none begins e (inl only) =
    not_only before more tokens heading some begins e only.one
no_parts_of (part ∷ parts) before more tokens heading start end some none begins e (inr several) =
    not_headed before more tokens heading start part several.0 several.1 some none e several.2

pub no_split : (text : List ℕ) (answer : Refusal) → IsNoSplit text answer
    → (parts : List TownshipStretch) → ¬ IsSplit text parts
no_split text answer (too_large large is) parts split =
    let within : length text ≤ SPLIT_LIMIT = split.within in absurd (omega (arith, large, within))
no_split text answer (no_heading within without) parts split =
    let same : split.tokens ≡ without.before ++ (without.heading ∷ without.more) =
    one_token_list 0 text split.tokens (without.before ++ (without.heading ∷ without.more)) split.cut
    without.cut in
    no_parts_of parts without.before without.more split.tokens without.heading 0 (length text) without.some
    without.none without.begins same split.are
