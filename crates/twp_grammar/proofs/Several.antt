-- Several entries are the entries that are not one number alone.
use Rattle.std.proofs.Common.{◌≡◌, List, [], ◌∷◌, refl, sym, subst, ◌∙◌, inl, inr}
use Rattle.twp_grammar.specs.Tokens.{Token}
use Rattle.twp_grammar.specs.Grammar.{entries, several}
use Rattle.twp_grammar.specs.Items.{◌&◌, Tree, tokens}
use Rattle.twp_grammar.specs.Laws.{IsOneNumber, SeveralAreEntries}

-- several entries as entries
abbrev as_entries : Tree several → Tree entries
as_entries (n & inl thru & more) = (n & inl thru) & more
as_entries (n & inr (s & e) & more) = (n & inr tt) & ((s & e) ∷ more)

as_entries_spelled : (v : Tree several) → tokens entries (as_entries v) ≡ tokens several v
as_entries_spelled (n & inl thru & more) = refl
as_entries_spelled (n & inr (s & e) & more) = refl

not_alone : (v : Tree several) → ¬ IsOneNumber (tokens several v)
not_alone (n & inl (word & thru) & more) (m, same) = cc
not_alone (n & inr (inl (c & a) & e) & more) (m, same) = cc
not_alone (n & inr (inr a & e) & more) (m, same) = cc

-- entries that are not one number alone
record IsSeveral (ts : List Token) : Type 0 where
  tree : Tree several
  spelled : tokens several tree ≡ ts

as_several : (v : Tree entries) → ¬ IsOneNumber (tokens entries v) → IsSeveral (tokens entries v)
as_several ((n & inl thru) & more) apart =
    record { tree = n & inl thru & more; spelled = sym (as_entries_spelled (n & inl thru & more)) }
as_several ((n & inr tt) & []) apart = absurd (apart (n, refl))
as_several ((n & inr tt) & ((s & e) ∷ more)) apart =
    record { tree = n & inr (s & e) & more; spelled = sym (as_entries_spelled (n & inr (s & e) & more)) }

pub several_are_entries : SeveralAreEntries
several_are_entries ts = (
  λ (v, spelled). (
    (as_entries v, as_entries_spelled v ∙ spelled),
    subst (λ (us : List Token). ¬ IsOneNumber us) spelled (not_alone v),
  ),
  λ ((v, spelled), apart).
      let found : IsSeveral (tokens entries v) =
      as_several v (subst (λ (us : List Token). ¬ IsOneNumber us) (sym spelled) apart) in
      (found.tree, found.spelled ∙ spelled),
)
