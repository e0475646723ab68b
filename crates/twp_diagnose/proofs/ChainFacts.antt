-- The longest aliquot part that some tokens begin with.
use Rattle.std.proofs.Common.{◌≡◌, ℕ, ◌+◌, ◌≤◌, List, [], ◌∷◌, ◌++◌}
use Rattle.std.proofs.Common.{Option}
use Rattle.std.proofs.Common.{Some, None, length, refl, sym, ap, ◌∙◌, inl, inr, append_assoc, arith}
use Rattle.std.proofs.Common.{length-append}
use Rattle.twp_grammar.specs.Tokens.{Token, Left, seen}
use Rattle.twp_grammar.specs.declared.tokens.Token.{Token as Piece}
use Rattle.twp_grammar.specs.Grammar.{step, chain}
use Rattle.twp_grammar.specs.Items.{Tree, tokens, ◌&◌}
use Rattle.twp_diagnose.specs.Marks.{end_of, AreLongestPart}
use Rattle.twp_diagnose.specs.Marks.{BeginWithPart, a_part, a_token}
use Rattle.twp_diagnose.specs.steps.Marking.{AreLeft}
use Rattle.twp_diagnose.specs.steps.Marking.{after_second, after_chain_step, after_link}
use Rattle.twp_diagnose.specs.steps.Marking.{link, IsSecond, TakesSecond, tokens_of_links}
use Rattle.twp_diagnose.specs.steps.Marking.{EndsLinks, EndsPart}
use Rattle.twp_diagnose.proofs.StepFacts.{step_tree}

-- a derivation is cut off as it was put together
step_complete : (v : Tree step) (rest : List Token) → after_chain_step (tokens step v ++ rest) ≡ Some rest
step_complete (inl (inl side & half)) rest = refl
step_complete (inl (inr side & half)) rest = refl
step_complete (inr (corner & quarter)) rest = refl

link_complete : (v : Tree link) (rest : List Token) → after_link (tokens link v ++ rest) ≡ Some rest
link_complete (inl (word & inl article) & inl (inl side & half)) rest = refl
link_complete (inl (word & inl article) & inl (inr side & half)) rest = refl
link_complete (inl (word & inl article) & inr (corner & quarter)) rest = refl
link_complete (inl (word & inr _) & inl (inl side & half)) rest = refl
link_complete (inl (word & inr _) & inl (inr side & half)) rest = refl
link_complete (inl (word & inr _) & inr (corner & quarter)) rest = refl
link_complete (inr _ & inl (inl side & half)) rest = refl
link_complete (inr _ & inl (inr side & half)) rest = refl
link_complete (inr _ & inr (corner & quarter)) rest = refl

abbrev some_of : List Token → Option (List Token) → List Token
some_of other None = other
some_of other (Some list) = list

after_links : (v : Tree link) (links : List (Tree link)) (rest : List Token)
    → after_link (tokens_of_links (v ∷ links) ++ rest) ≡ Some (tokens_of_links links ++ rest)
after_links v links rest =
    ap after_link (append_assoc (tokens link v) (tokens_of_links links) rest)
    ∙ link_complete v (tokens_of_links links ++ rest)

-- where no more follow, other halves and quarters leave no fewer tokens
no_fewer : (links others : List (Tree link)) (rest rest' : List Token) → after_link rest ≡ None
    → tokens_of_links links ++ rest ≡ tokens_of_links others ++ rest' → length rest ≤ length rest'
no_fewer [] [] rest rest' none e = rw e (omega arith)
no_fewer [] (v ∷ others) rest rest' none e =
    let apart : ◌≡◌ {A = Option (List Token)} None (Some (tokens_of_links others ++ rest')) =
    sym none ∙ ap after_link e ∙ after_links v others rest' in
    cc apart
no_fewer (v ∷ links) [] rest rest' none e =
    let long : length (tokens_of_links (v ∷ links)) + length rest ≡ length rest' =
    sym (length-append (tokens_of_links (v ∷ links)) rest) ∙ ap length e in
    omega arith
no_fewer (v ∷ links) (w ∷ others) rest rest' none e =
    no_fewer links others rest rest' none
    (ap (some_of []) (sym (after_links v links rest) ∙ ap after_link e ∙ after_links w others rest'))

after_the_first : (v : Tree step) (links : List (Tree link)) (rest : List Token)
    → after_chain_step (tokens chain (v & links) ++ rest) ≡ Some (tokens_of_links links ++ rest)
after_the_first v links rest =
    ap after_chain_step (append_assoc (tokens step v) (tokens_of_links links) rest)
    ∙ step_complete v (tokens_of_links links ++ rest)

no_longer : (v : Tree step) (links : List (Tree link)) (rest : List Token) → after_link rest ≡ None
    → (tree : Tree chain) (other rest' : List Token) → tokens chain tree ≡ other
    → tokens chain (v & links) ++ rest ≡ other ++ rest' → length other ≤ length (tokens chain (v & links))
no_longer v links rest none (w & others) other rest' is e =
    let whole : tokens chain (v & links) ++ rest ≡ tokens chain (w & others) ++ rest' =
    e ∙ ap (λ l. l ++ rest') (sym is) in
    let less : length rest ≤ length rest' =
    no_fewer links others rest rest' none
    (ap (some_of [])
    (sym (after_the_first v links rest) ∙ ap after_chain_step whole ∙ after_the_first w others rest')) in
    let sum : length (tokens chain (v & links)) + length rest ≡ length other + length rest' =
    sym (length-append (tokens chain (v & links)) rest) ∙ ap length e ∙ length-append other rest' in
    omega arith

not_nothing : (first : Token) (more : List Token) → ¬ (first ∷ more ≡ [])
not_nothing first more e = cc e

-- no aliquot part begins with the token
no_part_there : (first : Token) (list : List Token) → after_second first.kind list ≡ None
    → ¬ BeginWithPart (first ∷ list)
no_part_there first list none b = by_tree b.is.0 b.is.1
  where
    by_tree : (tree : Tree chain) → tokens chain tree ≡ b.part → ⊥
    by_tree (v & links) is =
        let apart : ◌≡◌ {A = Option (List Token)} None (Some (tokens_of_links links ++ b.rest)) =
        sym none
        ∙ ap after_chain_step (b.first ∙ ap (λ l. l ++ b.rest) (sym is))
        ∙ after_the_first v links b.rest in
        cc apart

pub no_part : (old after : Left) (first : Piece)
    → ((list : List Token) → AreLeft old list → TakesSecond first.kind list None after)
    → (list : List Token) → AreLeft old list
    → EndsPart (seen first ∷ list) (first.at + length first.text.now)
no_part old after first none list has = record {
  marked = seen first ∷ [];
  rest = list;
  marked_are = a_token (no_part_there (seen first) list (none list has)) refl;
  list_is = refl;
  end_is = refl;
  some = not_nothing (seen first) [];
}

longest_part : (all : List Token) (v : Tree step) (links : List (Tree link)) (rest : List Token)
    → all ≡ tokens chain (v & links) ++ rest → after_link rest ≡ None
    → AreLongestPart all (tokens chain (v & links))
longest_part all v links rest is none = record {
  rest = rest;
  first = is;
  is = (v & links, refl);
  longest = λ other behind e part. no_longer v links rest none part.0 other behind part.1 (sym is ∙ e);
}

part_of : (first : Token) (list : List Token) (end last : ℕ) (mid : Left)
    → (s : IsSecond first.kind list end mid) → EndsLinks s.rest end last → EndsPart (first ∷ list) last
part_of first list end last mid s l =
    let begin = step_tree first s.second s.step_is in
    let two : tokens step begin.tree ++ tokens_of_links l.links
    ≡ first ∷ s.second ∷ tokens_of_links l.links =
    ap (λ t. t ++ tokens_of_links l.links) begin.spelled in
    let all : first ∷ list ≡ tokens chain (begin.tree & l.links) ++ l.rest =
    ap (λ t. first ∷ t) (s.list_is ∙ ap (λ t. s.second ∷ t) l.list_is)
    ∙ ap (λ t. t ++ l.rest) (sym two) in
    record {
      marked = tokens chain (begin.tree & l.links);
      rest = l.rest;
      marked_are = a_part (longest_part (first ∷ list) begin.tree l.links l.rest all l.none);
      list_is = all;
      end_is =
          ap (λ t. end_of 0 t) two
          ∙ ap (λ n. end_of n (tokens_of_links l.links)) s.end_is
          ∙ l.end_is;
      some = λ e. not_nothing first (s.second ∷ tokens_of_links l.links) (sym two ∙ e);
    }

pub part_ends : (old mid : Left) (first : Piece) (end last : ℕ)
    → ((list : List Token) → AreLeft old list → TakesSecond first.kind list (Some end) mid)
    → ((list : List Token) → AreLeft mid list → EndsLinks list end last)
    → (list : List Token) → AreLeft old list → EndsPart (seen first ∷ list) last
part_ends old mid first end last second links list has =
    let s = second list has in part_of (seen first) list end last mid s (links s.rest s.left)

-- and none begins where there is no token
pub no_part_of_none : ¬ BeginWithPart []
no_part_of_none b = by_tree b.is.0 b.is.1
  where
    by_tree : (tree : Tree chain) → tokens chain tree ≡ b.part → ⊥
    by_tree (v & links) is =
        let apart : ◌≡◌ {A = Option (List Token)} None (Some (tokens_of_links links ++ b.rest)) =
        ap after_chain_step (b.first ∙ ap (λ l. l ++ b.rest) (sym is)) ∙ after_the_first v links b.rest in
        cc apart
