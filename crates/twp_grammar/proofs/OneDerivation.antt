-- A sentence has only one derivation. In a grammar, a derivation of a token and more is made from
-- one in the grammar's derivative, so two of them are the same if those are; and the empty list of
-- tokens has only one derivation.
use Rattle.std.proofs.Common.{◌≡◌, Bool, true, false, not, cond, ◌&&◌, List, [], ◌∷◌, ◌++◌, Option, Some}
use Rattle.std.proofs.Common.{None, refl, sym, ap, subst, ◌∙◌, inl, inr}
use Rattle.twp_grammar.specs.declared.state.State.{State}
use Rattle.twp_grammar.specs.declared.state.State.TheVariants.{Start}
use Rattle.twp_grammar.specs.Tokens.{Token}
use Rattle.twp_grammar.specs.Grammar.{Class, sec, lot, all, and, to, inclusive, of, the, t, r, north_south}
use Rattle.twp_grammar.specs.Grammar.{east_west, corner, half, quarter, number, comma, semicolon, colon, stop}
use Rattle.twp_grammar.specs.Grammar.{other, bad_number, bad_byte, class_of, Ebnf, never, nothing, one, ◌⨾◌}
use Rattle.twp_grammar.specs.Grammar.{◌∣◌, many}
use Rattle.twp_grammar.specs.Items.{Leaf, token_of, ◌&◌, Tree, tokens, items}
use Rattle.twp_grammar.specs.Machine.{next}
use Rattle.twp_grammar.specs.Laws.{OneItemList, OneDerivation}
use Rattle.twp_grammar.proofs.Derivatives.{is_nullable, seq, alt, after, derives_none, both, has_one_empty}
use Rattle.twp_grammar.proofs.Table as table
use Rattle.twp_grammar.proofs.DerivedTrees.{StandFor, alternatives, sequences, either, by_either, join}
use Rattle.twp_grammar.proofs.DerivedTrees.{by_both, past, past_first, past_sequence, in_front, with_none}
use Rattle.twp_grammar.proofs.DerivedTrees.{in_sequence, put}

-- the tree is made from one in another grammar, with these tokens
record IsMade (g h : Ebnf) (make : Tree g → Tree h) (v : Tree h) (ts : List Token) : Type 0 where
  tree : Tree g
  spelled : tokens g tree ≡ ts
  back : make tree ≡ v

-- a derivation of a token and more is made from a derivation of the rest
abbrev IsStripped : (token : Token) (g : Ebnf) → Tree g → List Token → Type 0
IsStripped token g v ts = IsMade (past token g) g (put token g) v ts

abbrev Strips : Ebnf → Type 0
Strips g = (token : Token) (ts : List Token) (v : Tree g) → tokens g v ≡ token ∷ ts → IsStripped token g v ts

-- the same for a sequence
abbrev IsSequenceStripped : (token : Token) (g h : Ebnf) (b : Bool) → is_nullable g ≡ b → Tree (g ⨾ h)
    → List Token → Type 0
IsSequenceStripped token g h b empty v ts =
    IsMade (past_sequence token g h b) (g ⨾ h) (in_sequence token g h b empty (put token g) (put token h)) v
    ts

made_left : (g h k : Ebnf) (f : Tree g → Tree k) (f' : Tree h → Tree k) (v : Tree k) (ts : List Token)
    → IsMade g k f v ts → IsMade (alt g h) k (by_either g h k f f') v ts
made_left g h k f f' v ts made =
    let stand : StandFor (alt g h) (g ∣ h) = alternatives g h in
    record {
      tree = stand.out (inl made.tree);
      spelled = stand.spelled (inl made.tree) ∙ made.spelled;
      back = ap (either f f') (stand.back (inl made.tree)) ∙ made.back;
    }

made_right : (g h k : Ebnf) (f : Tree g → Tree k) (f' : Tree h → Tree k) (v : Tree k) (ts : List Token)
    → IsMade h k f' v ts → IsMade (alt g h) k (by_either g h k f f') v ts
made_right g h k f f' v ts made =
    let stand : StandFor (alt g h) (g ∣ h) = alternatives g h in
    record {
      tree = stand.out (inr made.tree);
      spelled = stand.spelled (inr made.tree) ∙ made.spelled;
      back = ap (either f f') (stand.back (inr made.tree)) ∙ made.back;
    }

made_of_both : (g h k : Ebnf) (f : Tree g → Tree h → Tree k) (x : Tree g) (y : Tree h)
    → IsMade (seq g h) k (by_both g h k f) (f x y) (tokens g x ++ tokens h y)
made_of_both g h k f x y =
    let stand : StandFor (seq g h) (g ⨾ h) = sequences g h in
    record {
      tree = stand.out (x & y);
      spelled = stand.spelled (x & y);
      back = ap (join f) (stand.back (x & y));
    }

-- a token of the class has the leaf that it was made from
its_leaf : (c : Class) (leaf : Leaf c)
    → IsMade (past (token_of c leaf) (one c)) (one c) (put (token_of c leaf) (one c)) leaf []
its_leaf sec leaf = record { tree = tt; spelled = refl; back = refl }
its_leaf lot leaf = record { tree = tt; spelled = refl; back = refl }
its_leaf all leaf = record { tree = tt; spelled = refl; back = refl }
its_leaf and leaf = record { tree = tt; spelled = refl; back = refl }
its_leaf to leaf = record { tree = tt; spelled = refl; back = refl }
its_leaf inclusive leaf = record { tree = tt; spelled = refl; back = refl }
its_leaf of leaf = record { tree = tt; spelled = refl; back = refl }
its_leaf the leaf = record { tree = tt; spelled = refl; back = refl }
its_leaf t leaf = record { tree = tt; spelled = refl; back = refl }
its_leaf r leaf = record { tree = tt; spelled = refl; back = refl }
its_leaf north_south leaf = record { tree = tt; spelled = refl; back = refl }
its_leaf east_west leaf = record { tree = tt; spelled = refl; back = refl }
its_leaf corner leaf = record { tree = tt; spelled = refl; back = refl }
its_leaf half leaf = record { tree = tt; spelled = refl; back = refl }
its_leaf quarter leaf = record { tree = tt; spelled = refl; back = refl }
its_leaf number leaf = record { tree = tt; spelled = refl; back = refl }
its_leaf comma leaf = record { tree = tt; spelled = refl; back = refl }
its_leaf semicolon leaf = record { tree = tt; spelled = refl; back = refl }
its_leaf colon leaf = record { tree = tt; spelled = refl; back = refl }
its_leaf stop leaf = record { tree = tt; spelled = refl; back = refl }
its_leaf other leaf = record { tree = tt; spelled = refl; back = refl }
its_leaf bad_number leaf = record { tree = tt; spelled = refl; back = refl }
its_leaf bad_byte leaf = record { tree = tt; spelled = refl; back = refl }

abbrev first_or : Token → List Token → Token
first_or token [] = token
first_or token (first ∷ ts) = first

abbrev but_first : List Token → List Token
but_first [] = []
but_first (first ∷ ts) = ts

leaf_stripped : (c : Class) (leaf : Leaf c) (token : Token) (ts : List Token)
    → token_of c leaf ∷ [] ≡ token ∷ ts → IsStripped token (one c) leaf ts
leaf_stripped c leaf token ts h =
    let is_token : token_of c leaf ≡ token = ap (first_or token) h in
    let is_rest : [] ≡ ts = ap but_first h in
    subst (λ (us : List Token). IsStripped token (one c) leaf us) is_rest
    (subst (λ (u : Token). IsMade (past u (one c)) (one c) (put u (one c)) leaf []) is_token
    (its_leaf c leaf))

-- the empty list of tokens
none_of_two : (ts us : List Token) → ts ++ us ≡ [] → (ts ≡ []) × (us ≡ [])
none_of_two [] us h = (refl, h)
none_of_two (token ∷ ts) us h = cc h

or_true : (x : Bool) → cond x true true ≡ true
or_true true = refl
or_true false = refl

nullable : (g : Ebnf) (v : Tree g) → tokens g v ≡ [] → is_nullable g ≡ true
nullable never v h = absurd v
nullable nothing v h = refl
nullable (one c) v h = cc h
nullable (g ⨾ k) (v & w) h =
    let parts = none_of_two (tokens g v) (tokens k w) h in
    let left : is_nullable g ≡ true = nullable g v parts.0 in
    let right : is_nullable k ≡ true = nullable k w parts.1 in
    rw (left, right) refl
nullable (g ∣ k) (inl v) h = let left : is_nullable g ≡ true = nullable g v h in rw left refl
nullable (g ∣ k) (inr w) h =
    let right : is_nullable k ≡ true = nullable k w h in rw right (or_true (is_nullable g))
nullable (many g) v h = refl

not_both : (x y : Bool) → not (x && y) ≡ true → x ≡ true → y ≡ true → ⊥
not_both true true h e e' = cc h
not_both true false h e e' = cc e'
not_both false y h e e' = cc e

never_nullable : (x : Bool) → not x ≡ true → x ≡ true → ⊥
never_nullable true h e = cc h
never_nullable false h e = cc e

some_tokens : (g : Ebnf) → has_one_empty (many g) ≡ true → (v : Tree g) → tokens g v ≡ [] → ⊥
some_tokens g single v e =
    never_nullable (is_nullable g) (both (has_one_empty g) (not (is_nullable g)) single).1 (nullable g v e)

of_choice : (g h : Ebnf) → has_one_empty (g ∣ h) ≡ true
    → (has_one_empty h ≡ true) × (not (is_nullable g && is_nullable h) ≡ true)
of_choice g h single =
    both (has_one_empty h) (not (is_nullable g && is_nullable h))
    (both (has_one_empty g) (has_one_empty h && not (is_nullable g && is_nullable h)) single).1

-- the empty list of tokens has only one derivation
one_empty : (g : Ebnf) → has_one_empty g ≡ true → (v w : Tree g) → tokens g v ≡ [] → tokens g w ≡ [] → v ≡ w
one_empty never single v w e e' = absurd v
one_empty nothing single v w e e' = refl
one_empty (one c) single v w e e' = cc e
one_empty (g ⨾ h) single (x & y) (x' & y') e e' =
    let each = both (has_one_empty g) (has_one_empty h) single in
    let parts = none_of_two (tokens g x) (tokens h y) e in
    let parts' = none_of_two (tokens g x') (tokens h y') e' in
    let left : x ≡ x' = one_empty g each.0 x x' parts.0 parts'.0 in
    let right : y ≡ y' = one_empty h each.1 y y' parts.1 parts'.1 in
    rw (left, right) refl
one_empty (g ∣ h) single (inl x) (inl x') e e' =
    ap (λ v. inl v)
    (one_empty g (both (has_one_empty g) (has_one_empty h && not (is_nullable g && is_nullable h)) single).0
    x x' e e')
one_empty (g ∣ h) single (inr y) (inr y') e e' =
    ap (λ w. inr w) (one_empty h (of_choice g h single).0 y y' e e')
one_empty (g ∣ h) single (inl x) (inr y) e e' =
    absurd
    (not_both (is_nullable g) (is_nullable h) (of_choice g h single).1 (nullable g x e) (nullable h y e'))
one_empty (g ∣ h) single (inr y) (inl x) e e' =
    absurd
    (not_both (is_nullable g) (is_nullable h) (of_choice g h single).1 (nullable g x e') (nullable h y e))
one_empty (many g) single [] [] e e' = refl
one_empty (many g) single (x ∷ xs) w e e' =
    absurd (some_tokens g single x (none_of_two (tokens g x) (tokens (many g) xs) e).0)
one_empty (many g) single [] (x ∷ xs) e e' =
    absurd (some_tokens g single x (none_of_two (tokens g x) (tokens (many g) xs) e').0)

-- the first token belongs to the first tree
front_stripped : (g h : Ebnf) → Strips g → (token : Token) (us ts : List Token) (x : Tree g) (y : Tree h)
    → tokens g x ≡ token ∷ us → us ++ tokens h y ≡ ts
    → IsMade (past_first token g h) (g ⨾ h) (in_front token g h (put token g)) (x & y) ts
front_stripped g h strips token us ts x y first rest =
    let behind : IsStripped token g x us = strips token us x first in
    let made = made_of_both (past token g) h (g ⨾ h) (λ a b. put token g a & b) behind.tree y in
    record {
      tree = made.tree;
      spelled = made.spelled ∙ ap (λ vs. vs ++ tokens h y) behind.spelled ∙ rest;
      back = made.back ∙ ap (λ a. a & y) behind.back;
    }

more_stripped : (g : Ebnf) → Strips g → (token : Token) (us ts : List Token) (x : Tree g) (xs : Tree (many g))
    → tokens g x ≡ token ∷ us → us ++ tokens (many g) xs ≡ ts → IsStripped token (many g) (x ∷ xs) ts
more_stripped g strips token us ts x xs first rest =
    let behind : IsStripped token g x us = strips token us x first in
    let made = made_of_both (past token g) (many g) (many g) (λ a b. put token g a ∷ b) behind.tree xs in
    record {
      tree = made.tree;
      spelled = made.spelled ∙ ap (λ vs. vs ++ tokens (many g) xs) behind.spelled ∙ rest;
      back = made.back ∙ ap (λ a. a ∷ xs) behind.back;
    }

-- the first token belongs to the second tree
second_stripped : (g h : Ebnf) → has_one_empty g ≡ true → Strips h
    → (empty : is_nullable g ≡ true) (token : Token) (ts : List Token) (x : Tree g) (y : Tree h)
    → tokens g x ≡ [] → tokens h y ≡ token ∷ ts
    → IsMade (past token h) (g ⨾ h) (λ w. with_none g h empty (put token h w)) (x & y) ts
second_stripped g h single strips empty token ts x y none first =
    let behind : IsStripped token h y ts = strips token ts y first in
    let derived = derives_none g empty in
    let left : derived.tree ≡ x = one_empty g single derived.tree x derived.spelled none in
    record {
      tree = behind.tree;
      spelled = behind.spelled;
      back = ap (λ b. derived.tree & b) behind.back ∙ ap (λ a. a & y) left;
    }

sequence_stripped : (g h : Ebnf) → has_one_empty g ≡ true → Strips g → Strips h
    → (token : Token) (ts : List Token) (x : Tree g) (y : Tree h) (xs : List Token) → tokens g x ≡ xs
    → xs ++ tokens h y ≡ token ∷ ts → (b : Bool) (empty : is_nullable g ≡ b)
    → IsSequenceStripped token g h b empty (x & y) ts
sequence_stripped g h single strips_g strips_h token ts x y [] none first true empty =
    made_right (past_first token g h) (past token h) (g ⨾ h) (in_front token g h (put token g))
    (λ w. with_none g h empty (put token h w)) (x & y) ts
    (second_stripped g h single strips_h empty token ts x y none first)
sequence_stripped g h single strips_g strips_h token ts x y [] none first false empty =
    let apart : true ≡ false = sym (nullable g x none) ∙ empty in cc apart
sequence_stripped g h single strips_g strips_h token ts x y (u ∷ us) front first b empty =
    let is_token : u ≡ token = ap (first_or token) first in
    let made =
    front_stripped g h strips_g token us ts x y (front ∙ ap (λ a. a ∷ us) is_token) (ap but_first first) in
    either_way b empty made
  where
    either_way : (b : Bool) (empty : is_nullable g ≡ b)
        → IsMade (past_first token g h) (g ⨾ h) (in_front token g h (put token g)) (x & y) ts
        → IsSequenceStripped token g h b empty (x & y) ts
    either_way false empty made = made
    either_way true empty made =
        made_left (past_first token g h) (past token h) (g ⨾ h) (in_front token g h (put token g))
        (λ w. with_none g h empty (put token h w)) (x & y) ts made

left_stripped : (g h : Ebnf) → Strips g → (token : Token) (ts : List Token) (x : Tree g)
    → tokens g x ≡ token ∷ ts → IsStripped token (g ∣ h) (inl x) ts
left_stripped g h strips token ts x first =
    let behind : IsStripped token g x ts = strips token ts x first in
    made_left (past token g) (past token h) (g ∣ h) (λ a. inl (put token g a)) (λ b. inr (put token h b))
    (inl x) ts
    (record { tree = behind.tree; spelled = behind.spelled; back = ap (λ a. inl a) behind.back })

right_stripped : (g h : Ebnf) → Strips h → (token : Token) (ts : List Token) (y : Tree h)
    → tokens h y ≡ token ∷ ts → IsStripped token (g ∣ h) (inr y) ts
right_stripped g h strips token ts y first =
    let behind : IsStripped token h y ts = strips token ts y first in
    made_right (past token g) (past token h) (g ∣ h) (λ a. inl (put token g a)) (λ b. inr (put token h b))
    (inr y) ts
    (record { tree = behind.tree; spelled = behind.spelled; back = ap (λ b. inr b) behind.back })

many_stripped : (g : Ebnf) → has_one_empty (many g) ≡ true → Strips g
    → (token : Token) (ts : List Token) (x : Tree g) (xs : Tree (many g)) (us : List Token) → tokens g x ≡ us
    → us ++ tokens (many g) xs ≡ token ∷ ts → IsStripped token (many g) (x ∷ xs) ts
many_stripped g single strips token ts x xs [] none first = absurd (some_tokens g single x none)
many_stripped g single strips token ts x xs (u ∷ us) front first =
    let is_token : u ≡ token = ap (first_or token) first in
    more_stripped g strips token us ts x xs (front ∙ ap (λ a. a ∷ us) is_token) (ap but_first first)

stripped : (g : Ebnf) → has_one_empty g ≡ true → Strips g
stripped never single token ts v first = absurd v
stripped nothing single token ts v first = cc first
stripped (one c) single token ts v first = leaf_stripped c v token ts first
stripped (g ⨾ h) single token ts (x & y) first =
    let each = both (has_one_empty g) (has_one_empty h) single in
    sequence_stripped g h each.0 (stripped g each.0) (stripped h each.1) token ts x y (tokens g x) refl first
    (is_nullable g) refl
stripped (g ∣ h) single token ts (inl x) first =
    left_stripped g h
    (stripped g (both (has_one_empty g) (has_one_empty h && not (is_nullable g && is_nullable h)) single).0)
    token ts x first
stripped (g ∣ h) single token ts (inr y) first =
    right_stripped g h (stripped h (of_choice g h single).0) token ts y first
stripped (many g) single token ts [] first = cc first
stripped (many g) single token ts (x ∷ xs) first =
    many_stripped g single (stripped g (both (has_one_empty g) (not (is_nullable g)) single).0) token ts x xs
    (tokens g x) refl first

-- derivations of the same tokens are the same
abbrev HasOneTree : Ebnf → List Token → Type 0
HasOneTree g ts = (v w : Tree g) → tokens g v ≡ ts → tokens g w ≡ ts → v ≡ w

one_after : (s : State) (c : Class) (ts : List Token) → ((s' : State) → HasOneTree (table.rest s') ts)
    → (o : Option State) → next s c ≡ o → HasOneTree (after c (table.rest s)) ts
one_after s c ts each None stuck v w e e' = absurd (subst (λ (g : Ebnf). Tree g) (table.no_edge s c stuck) v)
one_after s c ts each (Some s') step v w e e' =
    subst (λ (g : Ebnf). HasOneTree g ts) (sym (table.edge s s' c step)) (each s') v w e e'

one_of_rest : (ts : List Token) (s : State) → HasOneTree (table.rest s) ts
one_of_rest [] s v w e e' = one_empty (table.rest s) (table.one_empty s) v w e e'
one_of_rest (token ∷ ts) s v w e e' =
    let made = stripped (table.rest s) (table.one_empty s) token ts v e in
    let made' = stripped (table.rest s) (table.one_empty s) token ts w e' in
    let behind : HasOneTree (past token (table.rest s)) ts =
    one_after s (class_of token.kind) ts (one_of_rest ts) (next s (class_of token.kind)) refl in
    let same : made.tree ≡ made'.tree = behind made.tree made'.tree made.spelled made'.spelled in
    sym made.back ∙ ap (put token (table.rest s)) same ∙ made'.back

pub one_derivation : OneDerivation
one_derivation v w same =
    subst (λ (g : Ebnf). (a b : Tree g) → tokens g a ≡ tokens g b → a ≡ b) table.rest_at_start
    (λ a b e. one_of_rest (tokens (table.rest Start) b) Start a b e refl) v w same

-- a list of tokens is read as only one list of items
pub one_item_list : OneItemList
one_item_list ts is is' has has' =
    let same : has.tree ≡ has'.tree = one_derivation has.tree has'.tree (has.spelled ∙ sym has'.spelled) in
    sym has.read_off ∙ ap (λ v. items v) same ∙ has'.read_off
