-- Halves and quarters that are taken token by token: a first one, and further ones after `of` or `of the`.
use Rattle.std.proofs.Common.{◌≡◌, ℕ, ◌+◌, true, false, List, [], ◌∷◌, ◌++◌}
use Rattle.std.proofs.Common.{Option}
use Rattle.std.proofs.Common.{Some, None, length, refl, sym, ap, subst, ◌∙◌, inl, inr, append_assoc}
use Rattle.std.proofs.lemmas.Bool.{cases_Bool}
use Rattle.std.proofs.lemmas.List.{append-nil}
use Rattle.twp_grammar.specs.declared.tokens.Kind.{Kind}
use Rattle.twp_grammar.specs.declared.tokens.Kind.TheVariants.{NorthSouth, EastWest, Corner, Half, Quarter}
use Rattle.twp_grammar.specs.declared.tokens.Kind.TheVariants.{Of, The}
use Rattle.twp_grammar.specs.Tokens.{Token, Left, seen}
use Rattle.twp_grammar.specs.declared.tokens.Token.{Token as Piece}
use Rattle.twp_grammar.specs.Grammar.{Ebnf, step, maybe, one, of, the, ◌⨾◌}
use Rattle.twp_grammar.specs.Items.{Tree, tokens, ◌&◌}
use Rattle.twp_diagnose.specs.Marks.{end_of}
use Rattle.twp_diagnose.specs.steps.Marking.{AreLeft, GivesFirstOf, is_step, is_of}
use Rattle.twp_diagnose.specs.steps.Marking.{is_the}
use Rattle.twp_diagnose.specs.steps.Marking.{after_second, after_chain_step, after_of_word, after_the}
use Rattle.twp_diagnose.specs.steps.Marking.{after_link}
use Rattle.twp_diagnose.specs.steps.Marking.{link, IsSecond, TakesSecond, IsLink, TakesLink, tokens_of_links}
use Rattle.twp_diagnose.specs.steps.Marking.{EndsLinks}

abbrev with_kind : Kind → Token → Token
with_kind kind token = record { kind = kind; text = token.text; at = token.at }

-- a half or a quarter is derived
pub record IsStepTree (first second : Token) : Type 0 where
  pub tree : Tree step
  pub spelled : tokens step tree ≡ first ∷ second ∷ []

two_alike : (k k' : Kind) (first second : Token) → first.kind ≡ k → second.kind ≡ k'
    → with_kind k first ∷ with_kind k' second ∷ [] ≡ first ∷ second ∷ []
two_alike k k' first second e e' =
    sym
    (ap (λ q. with_kind q first ∷ second ∷ []) e ∙ ap (λ q. with_kind k first ∷ with_kind q second ∷ []) e')

step_tree_of : (k k' : Kind) (first second : Token) → first.kind ≡ k → second.kind ≡ k'
    → is_step k k' ≡ true → IsStepTree first second
step_tree_of (NorthSouth side) Half first second e e' is = record {
  tree = inl (inl (record { value = side; text = first.text; at = first.at })
      & record { value = tt; text = second.text; at = second.at });
  spelled = two_alike (NorthSouth side) Half first second e e';
}
step_tree_of (EastWest side) Half first second e e' is = record {
  tree = inl (inr (record { value = side; text = first.text; at = first.at })
      & record { value = tt; text = second.text; at = second.at });
  spelled = two_alike (EastWest side) Half first second e e';
}
step_tree_of (Corner corner) Quarter first second e e' is = record {
  tree = inr (record { value = corner; text = first.text; at = first.at }
      & record { value = tt; text = second.text; at = second.at });
  spelled = two_alike (Corner corner) Quarter first second e e';
}
step_tree_of _ _ first second e e' is = cc is

pub step_tree : (first second : Token) → is_step first.kind second.kind ≡ true → IsStepTree first second
step_tree first second is = step_tree_of first.kind second.kind first second refl refl is

of_is : (k : Kind) → is_of k ≡ true → k ≡ Of
of_is Of h = refl
of_is _ h = cc h

the_is : (k : Kind) → is_the k ≡ true → k ≡ The
the_is The h = refl
the_is _ h = cc h

-- what comes before a half or a quarter
abbrev lead : Ebnf
lead = maybe (one of ⨾ maybe (one the))

record HasLead (list rest : List Token) : Type 0 where
  tree : Tree lead
  list_is : list ≡ tokens lead tree ++ rest

lead_after : (token : Token) (more : List Token) → token.kind ≡ Of → HasLead (token ∷ more) (after_the more)
lead_after token [] e = record {
  tree = inl (record { value = tt; text = token.text; at = token.at } & inr tt);
  list_is = ap (λ k. with_kind k token ∷ []) e;
}
lead_after token (next ∷ more) e = elim (cases_Bool (is_the next.kind)) [
  | inl said ↦ rw said (record {
    tree = inl (record { value = tt; text = token.text; at = token.at }
        & inl (record { value = tt; text = next.text; at = next.at }));
    list_is =
        ap (λ k. with_kind k token ∷ next ∷ more) e
        ∙ ap (λ k. with_kind Of token ∷ with_kind k next ∷ more) (the_is next.kind said);
  })
  | inr not ↦ rw not (record {
    tree = inl (record { value = tt; text = token.text; at = token.at } & inr tt);
    list_is = ap (λ k. with_kind k token ∷ next ∷ more) e;
  })
]

lead_of : (list : List Token) → HasLead list (after_of_word list)
lead_of [] = record { tree = inr tt; list_is = refl }
lead_of (token ∷ more) = elim (cases_Bool (is_of token.kind)) [
  | inl said ↦ rw said (lead_after token more (of_is token.kind said))
  | inr not ↦ rw not (record { tree = inr tt; list_is = refl })
]

end_of_two : (start : ℕ) (before : List Token) (first second : Token)
    → end_of start (before ++ first ∷ second ∷ []) ≡ second.at + length second.text
end_of_two start [] first second = refl
end_of_two start (token ∷ before) first second =
    end_of_two (token.at + length token.text) before first second

-- a token that makes a half or a quarter, or none
pub second_taken : (old after : Left) (first : Kind) (second : Piece)
    → ((list : List Token) → AreLeft old list → GivesFirstOf list (Some second) after)
    → is_step first second.kind ≡ true → (list : List Token) → AreLeft old list
    → IsSecond first list (second.at + length second.text.now) after
second_taken old after first second found is list has =
    let there = found list has in
    record {
      second = seen second;
      rest = there.0;
      list_is = there.1;
      step_is = is;
      end_is = refl;
      left = there.2;
    }

pub no_second : (old after : Left) (first : Kind) (second : Piece)
    → ((list : List Token) → AreLeft old list → GivesFirstOf list (Some second) after)
    → is_step first second.kind ≡ false → (list : List Token) → AreLeft old list
    → after_second first list ≡ None
no_second old after first second found not list has =
    let there = found list has in ap (λ l. after_second first l) there.1 ∙ rw not refl

-- a token after `the`
pub no_the : (old after : Left) (first : Piece)
    → ((list : List Token) → AreLeft old list → GivesFirstOf list (Some first) after)
    → is_the first.kind ≡ false → (list : List Token) → AreLeft old list
    → GivesFirstOf (after_the list) (Some first) after
no_the old after first found not list has =
    let there = found list has in (there.0, ap after_the there.1 ∙ rw not refl, there.2)

pub after_a_the : (old mid after : Left) (first : Piece) (o : Option Piece)
    → ((list : List Token) → AreLeft old list → GivesFirstOf list (Some first) mid)
    → is_the first.kind ≡ true
    → ((list : List Token) → AreLeft mid list → GivesFirstOf list o after)
    → (list : List Token) → AreLeft old list → GivesFirstOf (after_the list) o after
after_a_the old mid after first o found is more list has =
    let there = found list has in
    let left : after_the list ≡ there.0 = ap after_the there.1 ∙ rw is refl in
    subst (λ (l : List Token). GivesFirstOf l o after) (sym left) (more there.0 there.2)

-- a token after `of` or `of the`
pub no_of : (old after : Left) (first : Piece)
    → ((list : List Token) → AreLeft old list → GivesFirstOf list (Some first) after)
    → is_of first.kind ≡ false → (list : List Token) → AreLeft old list
    → GivesFirstOf (after_of_word list) (Some first) after
no_of old after first found not list has =
    let there = found list has in (there.0, ap after_of_word there.1 ∙ rw not refl, there.2)

pub after_an_of : (old mid after : Left) (first : Piece) (o : Option Piece)
    → ((list : List Token) → AreLeft old list → GivesFirstOf list (Some first) mid)
    → is_of first.kind ≡ true
    → ((list : List Token) → AreLeft mid list → GivesFirstOf (after_the list) o after)
    → (list : List Token) → AreLeft old list → GivesFirstOf (after_of_word list) o after
after_an_of old mid after first o found is more list has =
    let there = found list has in
    let left : after_of_word list ≡ after_the there.0 = ap after_of_word there.1 ∙ rw is refl in
    subst (λ (l : List Token). GivesFirstOf l o after) (sym left) (more there.0 there.2)

-- a further half or quarter, or none
pub no_first : (old after : Left)
    → ((list : List Token) → AreLeft old list → GivesFirstOf (after_of_word list) None after)
    → (list : List Token) → AreLeft old list → after_link list ≡ None
no_first old after found list has = ap after_chain_step (found list has)

link_of : (list rest : List Token) (first : Token) (end : ℕ) (after : Left)
    → after_of_word list ≡ first ∷ rest → IsSecond first.kind rest end after → IsLink list end after
link_of list rest first end after e s =
    let before = lead_of list in
    let step_is = step_tree first s.second s.step_is in
    let spelled : tokens lead before.tree ++ tokens step step_is.tree
    ≡ tokens lead before.tree ++ first ∷ s.second ∷ [] =
    ap (λ l. tokens lead before.tree ++ l) step_is.spelled in
    record {
      tree = before.tree & step_is.tree;
      rest = s.rest;
      list_is =
          before.list_is
          ∙ ap (λ l. tokens lead before.tree ++ l) (e ∙ ap (λ l. first ∷ l) s.list_is)
          ∙ sym (append_assoc (tokens lead before.tree) (first ∷ s.second ∷ []) s.rest)
          ∙ ap (λ l. l ++ s.rest) (sym spelled);
      end_is = λ start.
          ap (λ l. end_of start l) spelled
          ∙ end_of_two start (tokens lead before.tree) first s.second
          ∙ s.end_is;
      left = s.left;
    }

pub link_taken : (old mid after : Left) (first : Piece) (o : Option ℕ)
    → ((list : List Token) → AreLeft old list → GivesFirstOf (after_of_word list) (Some first) mid)
    → ((list : List Token) → AreLeft mid list → TakesSecond first.kind list o after)
    → (list : List Token) → AreLeft old list → TakesLink list o after
link_taken old mid after first None found second list has =
    let there = found list has in ap after_chain_step there.1 ∙ second there.0 there.2
link_taken old mid after first (Some end) found second list has =
    let there = found list has in
    link_of list there.0 (seen first) end after there.1 (second there.0 there.2)

-- further halves and quarters, so far
pub record AreLinks (list : List Token) (start end : ℕ) (after : Left) : Type 0 where
  pub links : List (Tree link)
  pub rest : List Token
  pub list_is : list ≡ tokens_of_links links ++ rest
  pub end_is : end_of start (tokens_of_links links) ≡ end
  pub left : AreLeft after rest

pub links_begin : (list : List Token) (start : ℕ) (left : Left) → AreLeft left list
    → AreLinks list start start left
links_begin list start left has =
    record { links = []; rest = list; list_is = refl; end_is = refl; left = has }

end_of_both : (start : ℕ) (before more : List Token)
    → end_of start (before ++ more) ≡ end_of (end_of start before) more
end_of_both start [] more = refl
end_of_both start (token ∷ before) more = end_of_both (token.at + length token.text) before more

one_more_link : (links : List (Tree link)) (v : Tree link)
    → tokens_of_links (links ++ v ∷ []) ≡ tokens_of_links links ++ tokens link v
one_more_link [] v = append-nil (tokens link v)
one_more_link (w ∷ links) v =
    ap (λ l. tokens link w ++ l) (one_more_link links v)
    ∙ sym (append_assoc (tokens link w) (tokens_of_links links) (tokens link v))

pub links_go_on : (list : List Token) (start end further : ℕ) (mid after : Left)
    → AreLinks list start end mid
    → ((list : List Token) → AreLeft mid list → TakesLink list (Some further) after)
    → AreLinks list start further after
links_go_on list start end further mid after so_far taken =
    let more = taken so_far.rest so_far.left in
    let all = one_more_link so_far.links more.tree in
    record {
      links = so_far.links ++ more.tree ∷ [];
      rest = more.rest;
      list_is =
          so_far.list_is
          ∙ ap (λ l. tokens_of_links so_far.links ++ l) more.list_is
          ∙ sym (append_assoc (tokens_of_links so_far.links) (tokens link more.tree) more.rest)
          ∙ ap (λ l. l ++ more.rest) (sym all);
      end_is =
          ap (λ l. end_of start l) all
          ∙ end_of_both start (tokens_of_links so_far.links) (tokens link more.tree)
          ∙ more.end_is (end_of start (tokens_of_links so_far.links));
      left = more.left;
    }

pub links_end : (list : List Token) (start end : ℕ) (mid after : Left)
    → AreLinks list start end mid
    → ((list : List Token) → AreLeft mid list → TakesLink list None after)
    → EndsLinks list start end
links_end list start end mid after so_far taken = record {
  links = so_far.links;
  rest = so_far.rest;
  list_is = so_far.list_is;
  end_is = so_far.end_is;
  none = taken so_far.rest so_far.left;
}
