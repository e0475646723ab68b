-- The tokens of a tree, put before others; and the first items of a sentence.
use Rattle.std.proofs.Common.{◌≡◌, List, [], ◌∷◌, ◌++◌, refl, sym, ap, ◌∙◌, inl, inr, append_assoc, Bool}
use Rattle.std.proofs.Common.{true, false, map}
use Rattle.std.specs.List.{flat_map}
use Rattle.twp_grammar.specs.Tokens.{Token}
use Rattle.twp_grammar.specs.Grammar.{Ebnf, never, nothing, one, ◌⨾◌, ◌∣◌, many, heading, description}
use Rattle.twp_grammar.specs.Items.{token_of, ◌&◌, Tree, tokens, after, items, numeral, end_of, range_of}
use Rattle.twp_grammar.specs.Items.{whole_sections_item, parts_items, group_items, heading_item}
use Rattle.twp_grammar.specs.Items.{BeginWithSections}
use Rattle.twp_grammar.specs.declared.item.Item.{Item}
use Rattle.twp_grammar.specs.declared.item.Numeral.{Numeral}
use Rattle.twp_grammar.specs.declared.item.Item.TheVariants as item

-- the tokens of trees, before others
abbrev pub each_onto : {A : Type 0} → (A → List Token → List Token) → List A → List Token → List Token
each_onto f [] ts = ts
each_onto f (v ∷ vs) ts = f v (each_onto f vs ts)

abbrev pub onto : (g : Ebnf) → Tree g → List Token → List Token
onto never v ts = ts
onto nothing v ts = ts
onto (one class) leaf ts = token_of class leaf ∷ ts
onto (g ⨾ h) (v & w) ts = onto g v (onto h w ts)
onto (g ∣ h) (inl v) ts = onto g v ts
onto (g ∣ h) (inr w) ts = onto h w ts
onto (many g) vs ts = each_onto (λ v us. onto g v us) vs ts

each_onto_is : {A : Type 0} (f : A → List Token → List Token) (spelled : A → List Token)
    → ((v : A) (us : List Token) → f v us ≡ spelled v ++ us) → (vs : List A) (ts : List Token)
    → each_onto f vs ts ≡ flat_map spelled vs ++ ts
each_onto_is f spelled each [] ts = refl
each_onto_is f spelled each (v ∷ vs) ts =
    each v (each_onto f vs ts)
    ∙ ap (λ us. spelled v ++ us) (each_onto_is f spelled each vs ts)
    ∙ sym (append_assoc (spelled v) (flat_map spelled vs) ts)

pub onto_is : (g : Ebnf) (v : Tree g) (ts : List Token) → onto g v ts ≡ tokens g v ++ ts
onto_is never v ts = refl
onto_is nothing v ts = refl
onto_is (one class) leaf ts = refl
onto_is (g ⨾ h) (v & w) ts =
    onto_is g v (onto h w ts)
    ∙ ap (λ us. tokens g v ++ us) (onto_is h w ts)
    ∙ sym (append_assoc (tokens g v) (tokens h w) ts)
onto_is (g ∣ h) (inl v) ts = onto_is g v ts
onto_is (g ∣ h) (inr w) ts = onto_is h w ts
onto_is (many g) vs ts = each_onto_is (λ v us. onto g v us) (λ v. tokens g v) (λ v us. onto_is g v us) vs ts

-- a sentence names sections first
after_heading : (h : Tree heading) (first last : Numeral) (whole : Bool) (more : List Item)
    → BeginWithSections (heading_item h ∷ item.Sections first last whole ∷ more)
after_heading (letter & st & n & side & st2 & c & r & st3 & m & way & st4 & c2) first last whole more = tt

pub tree_begins : (v : Tree description) → BeginWithSections (items v)
tree_begins (inl h & inl (word & st & n & inl (mark & v)) & more & end) =
    after_heading h (numeral n) (numeral n) false
    (parts_items v ++ flat_map (after (after group_items)) more)
tree_begins (inl h & inl (word & st & n & inr _) & more & end) =
    after_heading h (numeral n) (numeral n) true (flat_map (after (after group_items)) more)
tree_begins (inl h & inr (word & st & (n & inl thru & others) & w) & more & end) =
    after_heading h (numeral n) (end_of thru) true
    (map whole_sections_item (map (after range_of) others) ++ flat_map (after (after group_items)) more)
tree_begins (inl h & inr (word & st & (n & inr (s & second) & others) & w) & more & end) =
    after_heading h (numeral n) (numeral n) true
    (whole_sections_item (range_of second) ∷ map whole_sections_item (map (after range_of) others)
    ++ flat_map (after (after group_items)) more)
tree_begins (inr _ & inl (word & st & n & inl (mark & v)) & more & end) = tt
tree_begins (inr _ & inl (word & st & n & inr _) & more & end) = tt
tree_begins (inr _ & inr (word & st & (n & inl thru & others) & w) & more & end) = tt
tree_begins (inr _ & inr (word & st & (n & inr (s & second) & others) & w) & more & end) = tt
