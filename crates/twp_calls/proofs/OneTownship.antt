-- No token of a description but the first begins a heading, so a description is its own only part.
use Rattle.std.proofs.Common.{◌≡◌, ℕ, ◌≤◌, ◌&&◌, Bool, true, false, List, [], ◌∷◌, ◌++◌, length, refl}
use Rattle.std.proofs.Common.{subst, inl, inr, arith}
use Rattle.std.proofs.lemmas.Bool.{and_parts}
use Rattle.twp_grammar.specs.declared.item.Item.{Item}
use Rattle.twp_grammar.specs.declared.tokens.Kind.TheVariants.{T}
use Rattle.twp_grammar.specs.Tokens.{Token}
use Rattle.twp_grammar.specs.Grammar.{Class, Value, kind_of, t, Ebnf, never, nothing, one, ◌⨾◌, ◌∣◌, many}
use Rattle.twp_grammar.specs.Grammar.{maybe, stop, number, north_south, comma, r, east_west, semicolon, and}
use Rattle.twp_grammar.specs.Grammar.{group, description}
use Rattle.twp_grammar.specs.Items.{◌&◌, Tree, tokens}
use Rattle.twp_grammar.specs.Sentences.{IsReadAs}
use Rattle.twp_calls.specs.Splits.{NoHeading, HaveOneTownship, IsSplit, part_between}

no_heading_in_both : (some more : List Token) → NoHeading some → NoHeading more → NoHeading (some ++ more)
no_heading_in_both [] more none none' = none'
no_heading_in_both (token ∷ some) more none none' =
    (none.0, no_heading_in_both some more none.1 none')

-- a class of tokens other than the T of a heading
abbrev is_other : Class → Bool
is_other t = false
is_other _ = true

other_class : (class : Class) (value : Value class) → is_other class ≡ true → ¬ (kind_of class value ≡ T)
other_class t value h = λ same. cc h
other_class class value h = λ same. cc same

-- no sentence of the grammar has such a token
abbrev has_none : Ebnf → Bool
has_none never = true
has_none nothing = true
has_none (one class) = is_other class
has_none (g ⨾ h) = has_none g && has_none h
has_none (g ∣ h) = has_none g && has_none h
has_none (many g) = has_none g

none_in_each : (g : Ebnf) → ((tree : Tree g) → NoHeading (tokens g tree)) → (trees : List (Tree g))
    → NoHeading (tokens (many g) trees)
none_in_each g each [] = tt
none_in_each g each (tree ∷ trees) =
    no_heading_in_both (tokens g tree) (tokens (many g) trees) (each tree) (none_in_each g each trees)

none_in : (g : Ebnf) → has_none g ≡ true → (tree : Tree g) → NoHeading (tokens g tree)
none_in never h tree = tt
none_in nothing h tree = tt
none_in (one class) h leaf = (other_class class leaf.value h, tt)
none_in (g ⨾ g') h (tree & tree') =
    let parts = and_parts (has_none g) (has_none g') h in
    no_heading_in_both (tokens g tree) (tokens g' tree') (none_in g parts.0 tree) (none_in g' parts.1 tree')
none_in (g ∣ g') h (inl tree) = none_in g (and_parts (has_none g) (has_none g') h).0 tree
none_in (g ∣ g') h (inr tree) = none_in g' (and_parts (has_none g) (has_none g') h).1 tree
none_in (many g) h trees = none_in_each g (λ tree. none_in g h tree) trees

one_of_none : (some : List Token) → NoHeading some → HaveOneTownship some
one_of_none [] none = tt
one_of_none (token ∷ some) none = none.1

-- a heading after its T, and a description after its heading
abbrev heading_after : Ebnf
heading_after =
    maybe (one stop) ⨾ one number ⨾ one north_south ⨾ maybe (one stop) ⨾ maybe (one comma)
    ⨾ one r ⨾ maybe (one stop) ⨾ one number ⨾ one east_west ⨾ maybe (one stop) ⨾ maybe (one comma)

abbrev groups : Ebnf
groups = group ⨾ many (one semicolon ⨾ maybe (one and) ⨾ group) ⨾ maybe (one stop)

-- the tokens of a description
has_one : (tree : Tree description) → HaveOneTownship (tokens description tree)
has_one (inl (first & heading) & land) =
    no_heading_in_both (tokens heading_after heading) (tokens groups land)
    (none_in heading_after refl heading) (none_in groups refl land)
has_one (inr tree & land) = one_of_none (tokens groups land) (none_in groups refl land)

pub one_part : (text : List ℕ) (items : List Item) → IsReadAs text items
    → IsSplit text (part_between 0 (length text) ∷ [])
one_part text items read = record {
  within = let within : length text ≤ 65536 = read.within in omega (arith, within);
  tokens = read.tokens;
  cut = read.cut;
  are = inl (record {
    no_others = refl;
    one = subst HaveOneTownship read.named.spelled (has_one read.named.tree);
    part_is = refl;
  });
}
