-- The machine agrees with the grammar: in each state it accepts the tokens that the grammar leaves
-- to be read there.
use Rattle.std.proofs.Common.{◌≡◌, ℕ, zero, suc, ◌<◌, ◌≤◌, Bool, true, false, ◌&&◌, List, [], ◌∷◌, Option}
use Rattle.std.proofs.Common.{Some, None, length, get_or, refl, ap, subst, inl, inr, arith}
use Rattle.std.specs.List.{list_all, list_any}
use Rattle.std.specs.Option.{is_some}
use Rattle.twp_grammar.specs.declared.state.State.{State}
use Rattle.twp_grammar.specs.declared.state.State.TheVariants as past
use Rattle.twp_grammar.specs.Grammar.{Class, sec, lot, all, and, to, inclusive, of, the, t, r, north_south}
use Rattle.twp_grammar.specs.Grammar.{east_west, corner, half, quarter, number, comma, semicolon, colon, stop}
use Rattle.twp_grammar.specs.Grammar.{other, bad_number, bad_byte, Ebnf, never, nothing, one, ◌⨾◌, ◌∣◌, many}
use Rattle.twp_grammar.specs.Grammar.{description}
use Rattle.twp_grammar.specs.Machine.{next, is_final}
use Rattle.twp_grammar.specs.Expected.{reported, named, expected_of, IsClassNamed}
use Rattle.twp_grammar.proofs.Derivatives.{classes, place_of_class, class_at_place, same_class}
use Rattle.twp_grammar.proofs.Derivatives.{same_class_tells, is_nullable, has_one_empty, both, after}

-- the state after some classes, starting from Start
after_all : Ebnf → List Class → Ebnf
after_all g [] = g
after_all g (c ∷ cs) = after_all (after c g) cs

-- a shortest way to each state
abbrev way_to : State → List Class
way_to past.Start = []
way_to past.Township = t ∷ []
way_to past.TownshipStop = t ∷ stop ∷ []
way_to past.TownshipNumber = t ∷ number ∷ []
way_to past.TownshipSide = t ∷ number ∷ north_south ∷ []
way_to past.TownshipSideStop = t ∷ number ∷ north_south ∷ stop ∷ []
way_to past.TownshipComma = t ∷ number ∷ north_south ∷ comma ∷ []
way_to past.Range = t ∷ number ∷ north_south ∷ r ∷ []
way_to past.RangeStop = t ∷ number ∷ north_south ∷ r ∷ stop ∷ []
way_to past.RangeNumber = t ∷ number ∷ north_south ∷ r ∷ number ∷ []
way_to past.RangeSide = t ∷ number ∷ north_south ∷ r ∷ number ∷ east_west ∷ []
way_to past.RangeSideStop = t ∷ number ∷ north_south ∷ r ∷ number ∷ east_west ∷ stop ∷ []
way_to past.SectionWord = sec ∷ []
way_to past.SectionStop = sec ∷ stop ∷ []
way_to past.SectionNumber = sec ∷ number ∷ []
way_to past.SectionComma = sec ∷ number ∷ comma ∷ []
way_to past.Semicolon = sec ∷ number ∷ semicolon ∷ []
way_to past.BeforeGroup = sec ∷ number ∷ semicolon ∷ and ∷ []
way_to past.End = sec ∷ number ∷ stop ∷ []
way_to past.ListTo = sec ∷ number ∷ to ∷ []
way_to past.ListAnd = sec ∷ number ∷ and ∷ []
way_to past.ListNumber = sec ∷ number ∷ and ∷ number ∷ []
way_to past.ListLast = sec ∷ number ∷ to ∷ number ∷ []
way_to past.ListInclusive = sec ∷ number ∷ to ∷ number ∷ inclusive ∷ []
way_to past.ListComma = sec ∷ number ∷ and ∷ number ∷ comma ∷ []
way_to past.ListLastComma = sec ∷ number ∷ to ∷ number ∷ comma ∷ []
way_to past.ListColon = sec ∷ number ∷ and ∷ number ∷ colon ∷ []
way_to past.ListAll = sec ∷ number ∷ and ∷ number ∷ all ∷ []
way_to past.Lot = sec ∷ number ∷ lot ∷ []
way_to past.LotNumber = sec ∷ number ∷ lot ∷ number ∷ []
way_to past.LotTo = sec ∷ number ∷ lot ∷ number ∷ to ∷ []
way_to past.LotLast = sec ∷ number ∷ lot ∷ number ∷ to ∷ number ∷ []
way_to past.LotInclusive = sec ∷ number ∷ lot ∷ number ∷ to ∷ number ∷ inclusive ∷ []
way_to past.LotComma = sec ∷ number ∷ lot ∷ number ∷ comma ∷ []
way_to past.LotLastComma = sec ∷ number ∷ lot ∷ number ∷ to ∷ number ∷ comma ∷ []
way_to past.LotAnd = sec ∷ number ∷ lot ∷ number ∷ and ∷ []
way_to past.BeforePart = sec ∷ number ∷ colon ∷ []
way_to past.Side = sec ∷ number ∷ north_south ∷ []
way_to past.Corner = sec ∷ number ∷ corner ∷ []
way_to past.All = sec ∷ number ∷ all ∷ []
way_to past.PartComma = sec ∷ number ∷ all ∷ comma ∷ []
way_to past.Step = sec ∷ number ∷ north_south ∷ half ∷ []
way_to past.Of = sec ∷ number ∷ north_south ∷ half ∷ of ∷ []
way_to past.OfThe = sec ∷ number ∷ north_south ∷ half ∷ of ∷ the ∷ []

-- a shortest way from each state to the end of a sentence
abbrev pub way_out : State → List Class
way_out past.Start = sec ∷ number ∷ []
way_out past.Township = number ∷ north_south ∷ r ∷ number ∷ east_west ∷ sec ∷ number ∷ []
way_out past.TownshipStop = number ∷ north_south ∷ r ∷ number ∷ east_west ∷ sec ∷ number ∷ []
way_out past.TownshipNumber = north_south ∷ r ∷ number ∷ east_west ∷ sec ∷ number ∷ []
way_out past.TownshipSide = r ∷ number ∷ east_west ∷ sec ∷ number ∷ []
way_out past.TownshipSideStop = r ∷ number ∷ east_west ∷ sec ∷ number ∷ []
way_out past.TownshipComma = r ∷ number ∷ east_west ∷ sec ∷ number ∷ []
way_out past.Range = number ∷ east_west ∷ sec ∷ number ∷ []
way_out past.RangeStop = number ∷ east_west ∷ sec ∷ number ∷ []
way_out past.RangeNumber = east_west ∷ sec ∷ number ∷ []
way_out past.RangeSide = sec ∷ number ∷ []
way_out past.RangeSideStop = sec ∷ number ∷ []
way_out past.SectionWord = number ∷ []
way_out past.SectionStop = number ∷ []
way_out past.SectionNumber = []
way_out past.SectionComma = all ∷ []
way_out past.Semicolon = sec ∷ number ∷ []
way_out past.BeforeGroup = sec ∷ number ∷ []
way_out past.End = []
way_out past.ListTo = number ∷ []
way_out past.ListAnd = number ∷ []
way_out past.ListNumber = []
way_out past.ListLast = []
way_out past.ListInclusive = []
way_out past.ListComma = all ∷ []
way_out past.ListLastComma = all ∷ []
way_out past.ListColon = all ∷ []
way_out past.ListAll = []
way_out past.Lot = number ∷ []
way_out past.LotNumber = []
way_out past.LotTo = number ∷ []
way_out past.LotLast = []
way_out past.LotInclusive = []
way_out past.LotComma = all ∷ []
way_out past.LotLastComma = all ∷ []
way_out past.LotAnd = all ∷ []
way_out past.BeforePart = all ∷ []
way_out past.Side = half ∷ []
way_out past.Corner = quarter ∷ []
way_out past.All = []
way_out past.PartComma = all ∷ []
way_out past.Step = []
way_out past.Of = north_south ∷ half ∷ []
way_out past.OfThe = north_south ∷ half ∷ []

-- the grammar of the tokens that remain to be read in a state
unfoldable pub rest : State → Ebnf
unfolding after_all
rest s = after_all description (way_to s)

-- two grammars are the same
abbrev same : Ebnf → Ebnf → Bool
same never never = true
same nothing nothing = true
same (one c) (one d) = same_class c d
same (g ⨾ h) (k ⨾ l) = same g k && same h l
same (g ∣ h) (k ∣ l) = same g k && same h l
same (many g) (many k) = same g k
same _ _ = false

-- a token of the class leads to the state for what remains after it, or cannot come next
abbrev is_edge : State → Class → Option State → Bool
is_edge s c None = same (after c (rest s)) never
is_edge s c (Some s') = same (after c (rest s)) (rest s')

-- in a final state nothing remains that has to be read
abbrev is_end : State → Bool → Bool
is_end s true = is_nullable (rest s)
is_end s false = true

-- some classes lead from a state to a final one
abbrev pub leads_out : Option State → List Class → Bool
leads_out None cs = false
leads_out (Some s) [] = is_final s
leads_out (Some s) (c ∷ cs) = leads_out (next s c) cs

-- a token that may follow is among the expected ones
abbrev is_among : Class → Option State → List Class → Bool
is_among c None cs = true
is_among c (Some s) cs = list_any (λ d. same_class c d) cs

record Row (s : State) : Type 0 where
  edges : list_all (λ c. is_edge s c (next s c)) classes ≡ true
  end : is_end s (is_final s) ≡ true
  empty : has_one_empty (rest s) ≡ true
  out : leads_out (Some s) (way_out s) ≡ true
  few : length (way_out s) ≤ 7
  no_byte : next s bad_byte ≡ None
  no_number : next s bad_number ≡ None
  no_word : next s other ≡ None
  names_all : list_all (λ c. is_among c (next s c) (named (expected_of s))) classes ≡ true
  tells_all : list_all (λ c. is_some (next s c)) (reported (expected_of s)) ≡ true

a_row : {s : State} → list_all (λ c. is_edge s c (next s c)) classes ≡ true → is_end s (is_final s) ≡ true
    → has_one_empty (rest s) ≡ true → leads_out (Some s) (way_out s) ≡ true → length (way_out s) ≤ 7
    → next s bad_byte ≡ None → next s bad_number ≡ None → next s other ≡ None
    → list_all (λ c. is_among c (next s c) (named (expected_of s))) classes ≡ true
    → list_all (λ c. is_some (next s c)) (reported (expected_of s)) ≡ true
    → Row s
a_row edges end empty out few no_byte no_number no_word names_all tells_all = record {
  edges = edges;
  end = end;
  empty = empty;
  out = out;
  few = few;
  no_byte = no_byte;
  no_number = no_number;
  no_word = no_word;
  names_all = names_all;
  tells_all = tells_all;
}

row : (s : State) → Row s
unfolding rest after_all
row past.Start = a_row refl refl refl refl (omega arith) refl refl refl refl refl
row past.Township = a_row refl refl refl refl (omega arith) refl refl refl refl refl
row past.TownshipStop = a_row refl refl refl refl (omega arith) refl refl refl refl refl
row past.TownshipNumber = a_row refl refl refl refl (omega arith) refl refl refl refl refl
row past.TownshipSide = a_row refl refl refl refl (omega arith) refl refl refl refl refl
row past.TownshipSideStop = a_row refl refl refl refl (omega arith) refl refl refl refl refl
row past.TownshipComma = a_row refl refl refl refl (omega arith) refl refl refl refl refl
row past.Range = a_row refl refl refl refl (omega arith) refl refl refl refl refl
row past.RangeStop = a_row refl refl refl refl (omega arith) refl refl refl refl refl
row past.RangeNumber = a_row refl refl refl refl (omega arith) refl refl refl refl refl
row past.RangeSide = a_row refl refl refl refl (omega arith) refl refl refl refl refl
row past.RangeSideStop = a_row refl refl refl refl (omega arith) refl refl refl refl refl
row past.SectionWord = a_row refl refl refl refl (omega arith) refl refl refl refl refl
row past.SectionStop = a_row refl refl refl refl (omega arith) refl refl refl refl refl
row past.SectionNumber = a_row refl refl refl refl (omega arith) refl refl refl refl refl
row past.SectionComma = a_row refl refl refl refl (omega arith) refl refl refl refl refl
row past.Semicolon = a_row refl refl refl refl (omega arith) refl refl refl refl refl
row past.BeforeGroup = a_row refl refl refl refl (omega arith) refl refl refl refl refl
row past.End = a_row refl refl refl refl (omega arith) refl refl refl refl refl
row past.ListTo = a_row refl refl refl refl (omega arith) refl refl refl refl refl
row past.ListAnd = a_row refl refl refl refl (omega arith) refl refl refl refl refl
row past.ListNumber = a_row refl refl refl refl (omega arith) refl refl refl refl refl
row past.ListLast = a_row refl refl refl refl (omega arith) refl refl refl refl refl
row past.ListInclusive = a_row refl refl refl refl (omega arith) refl refl refl refl refl
row past.ListComma = a_row refl refl refl refl (omega arith) refl refl refl refl refl
row past.ListLastComma = a_row refl refl refl refl (omega arith) refl refl refl refl refl
row past.ListColon = a_row refl refl refl refl (omega arith) refl refl refl refl refl
row past.ListAll = a_row refl refl refl refl (omega arith) refl refl refl refl refl
row past.Lot = a_row refl refl refl refl (omega arith) refl refl refl refl refl
row past.LotNumber = a_row refl refl refl refl (omega arith) refl refl refl refl refl
row past.LotTo = a_row refl refl refl refl (omega arith) refl refl refl refl refl
row past.LotLast = a_row refl refl refl refl (omega arith) refl refl refl refl refl
row past.LotInclusive = a_row refl refl refl refl (omega arith) refl refl refl refl refl
row past.LotComma = a_row refl refl refl refl (omega arith) refl refl refl refl refl
row past.LotLastComma = a_row refl refl refl refl (omega arith) refl refl refl refl refl
row past.LotAnd = a_row refl refl refl refl (omega arith) refl refl refl refl refl
row past.BeforePart = a_row refl refl refl refl (omega arith) refl refl refl refl refl
row past.Side = a_row refl refl refl refl (omega arith) refl refl refl refl refl
row past.Corner = a_row refl refl refl refl (omega arith) refl refl refl refl refl
row past.All = a_row refl refl refl refl (omega arith) refl refl refl refl refl
row past.PartComma = a_row refl refl refl refl (omega arith) refl refl refl refl refl
row past.Step = a_row refl refl refl refl (omega arith) refl refl refl refl refl
row past.Of = a_row refl refl refl refl (omega arith) refl refl refl refl refl
row past.OfThe = a_row refl refl refl refl (omega arith) refl refl refl refl refl

same_tells : (g h : Ebnf) → same g h ≡ true → g ≡ h
same_tells never never e = refl
same_tells nothing nothing e = refl
same_tells (one c) (one d) e = ap (λ x. one x) (same_class_tells c d e)
same_tells (g ⨾ h) (k ⨾ l) e =
    let parts = both (same g k) (same h l) e in
    let left : g ≡ k = same_tells g k parts.0 in
    let right : h ≡ l = same_tells h l parts.1 in
    rw (left, right) refl
same_tells (g ∣ h) (k ∣ l) e =
    let parts = both (same g k) (same h l) e in
    let left : g ≡ k = same_tells g k parts.0 in
    let right : h ≡ l = same_tells h l parts.1 in
    rw (left, right) refl
same_tells (many g) (many k) e = ap (λ x. many x) (same_tells g k e)
same_tells _ _ e = cc e

-- a fact about all classes holds for each
of_each : (p : Class → Bool) (cs : List Class) (k : ℕ) → list_all p cs ≡ true → k < length cs
    → p (get_or cs k sec) ≡ true
of_each p [] k each below = absurd (omega arith)
of_each p (c ∷ cs) zero each below = (both (p c) (list_all p cs) each).0
of_each p (c ∷ cs) (suc k) each below = of_each p cs k (both (p c) (list_all p cs) each).1 (omega arith)

in_classes : (c : Class) → place_of_class c < length classes
in_classes sec = omega arith
in_classes lot = omega arith
in_classes all = omega arith
in_classes and = omega arith
in_classes to = omega arith
in_classes inclusive = omega arith
in_classes of = omega arith
in_classes the = omega arith
in_classes t = omega arith
in_classes r = omega arith
in_classes north_south = omega arith
in_classes east_west = omega arith
in_classes corner = omega arith
in_classes half = omega arith
in_classes quarter = omega arith
in_classes number = omega arith
in_classes comma = omega arith
in_classes semicolon = omega arith
in_classes colon = omega arith
in_classes stop = omega arith
in_classes other = omega arith
in_classes bad_number = omega arith
in_classes bad_byte = omega arith

of_class : (p : Class → Bool) (c : Class) → list_all p classes ≡ true → p c ≡ true
of_class p c each = rw class_at_place at (of_each p classes (place_of_class c) each (in_classes c))

-- a token that the machine accepts leaves the grammar's derivative
pub edge : (s s' : State) (c : Class) → next s c ≡ Some s' → after c (rest s) ≡ rest s'
edge s s' c e =
    let found : is_edge s c (next s c) ≡ true = of_class (λ d. is_edge s d (next s d)) c (row s).edges in
    same_tells (after c (rest s)) (rest s') (subst (λ (o : Option State). is_edge s c o ≡ true) e found)

-- the grammar derives no token that the machine does not accept
pub no_edge : (s : State) (c : Class) → next s c ≡ None → after c (rest s) ≡ never
no_edge s c e =
    let found : is_edge s c (next s c) ≡ true = of_class (λ d. is_edge s d (next s d)) c (row s).edges in
    same_tells (after c (rest s)) never (subst (λ (o : Option State). is_edge s c o ≡ true) e found)

pub one_empty : (s : State) → has_one_empty (rest s) ≡ true
one_empty s = (row s).empty

pub end : (s : State) → is_final s ≡ true → is_nullable (rest s) ≡ true
end s e = subst (λ (x : Bool). is_end s x ≡ true) e (row s).end

pub leads : (s : State) → leads_out (Some s) (way_out s) ≡ true
leads s = (row s).out

pub few : (s : State) → length (way_out s) ≤ 7
few s = (row s).few

pub rest_at_start : rest past.Start ≡ description
unfolding rest after_all
rest_at_start = refl

-- no state accepts a bad token
pub takes_no_bad_byte : (s : State) → next s bad_byte ≡ None
takes_no_bad_byte s = (row s).no_byte

pub takes_no_bad_number : (s : State) → next s bad_number ≡ None
takes_no_bad_number s = (row s).no_number

-- no state accepts an unknown word
pub takes_no_other : (s : State) → next s other ≡ None
takes_no_other s = (row s).no_word

-- every token that may follow in a state is expected there
pub follows_named : (s s' : State) (c : Class) → next s c ≡ Some s'
    → list_any (λ d. same_class c d) (named (expected_of s)) ≡ true
follows_named s s' c e =
    let found : is_among c (next s c) (named (expected_of s)) ≡ true =
    of_class (λ d. is_among d (next s d) (named (expected_of s))) c (row s).names_all in
    subst (λ (o : Option State). is_among c o (named (expected_of s)) ≡ true) e found

-- every token that is reported as expected in a state may follow there
told_among : (s : State) (c : Class) (cs : List Class) → list_all (λ d. is_some (next s d)) cs ≡ true
    → IsClassNamed c cs → is_some (next s c) ≡ true
told_among s c [] each is = absurd is
told_among s c (d ∷ ds) each is =
    let parts = both (is_some (next s d)) (list_all (λ e. is_some (next s e)) ds) each in
    elim is [
      | inl same ↦ rw same parts.0
      | inr later ↦ told_among s c ds parts.1 later
    ]

pub told_follows : (s : State) (c : Class) → IsClassNamed c (reported (expected_of s))
    → is_some (next s c) ≡ true
told_follows s c is = told_among s c (reported (expected_of s)) (row s).tells_all is
