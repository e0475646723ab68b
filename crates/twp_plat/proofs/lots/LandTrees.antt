-- The tokens of a record's land are read as the grammar derives them.
use Rattle.std.proofs.Common.{◌≡◌, ℕ, true, List, [], ◌∷◌, ◌++◌, Option, Some, None, refl, sym, ap, subst}
use Rattle.std.proofs.Common.{◌∙◌}
use Rattle.std.proofs.Common.{inl, inr, map, append_assoc, append-nil}
use Rattle.std.specs.List.{flat_map}
use Rattle.twp_grammar.specs.declared.item.Step.{Step}
use Rattle.twp_grammar.specs.Tokens.{Token}
use Rattle.twp_grammar.specs.Grammar.{Class, class_of, Ebnf, one, ◌⨾◌, many, maybe, of, the, chain, separator}
use Rattle.twp_grammar.specs.Grammar.{step}
use Rattle.twp_grammar.specs.Grammar.{north_south, east_west, corner, half, quarter, comma, and}
use Rattle.twp_grammar.specs.Items.{◌&◌, Tree}
use Rattle.twp_grammar.specs.Items as derived
use Rattle.twp_grammar.proofs.Derivatives.{Derives, after, seq, from_seq, derives_none, takes_token}
use Rattle.twp_grammar.proofs.TreeFacts.{onto, onto_is}
use Rattle.twp_plat.specs.declared.lots.land_text.LandState.{LandState}
use Rattle.twp_plat.specs.declared.lots.land_text.LandState.TheVariants as past
use Rattle.twp_plat.specs.LandTexts.{aliquot_parts, steps_of, parts_of}
use Rattle.twp_plat.specs.steps.LandWalk.{next, walk, parts_after, steps_after}

-- a sequence of parts, and what may follow a step
abbrev from_part : Ebnf
from_part = seq chain (many (separator ⨾ chain))

abbrev from_step : Ebnf
from_step = after half (after north_south from_part)

-- what may follow in each state
rest : LandState → Ebnf
rest past.Part = from_part
rest past.Comma = after comma from_step
rest past.Side = after north_south from_part
rest past.Corner = after corner from_part
rest past.Step = from_step
rest past.Of = after of from_step
rest past.OfThe = after the (after of from_step)

abbrev Leaves : Ebnf → Option LandState → Type 0
Leaves g None = Unit {0}
Leaves g (Some reached) = g ≡ rest reached

edge : (reached : LandState) (class : Class) → Leaves (after class (rest reached)) (next reached class)
unfolding rest
edge past.Part north_south = refl
edge past.Part east_west = refl
edge past.Part corner = refl
edge past.Part _ = tt
edge past.Comma and = refl
edge past.Comma north_south = refl
edge past.Comma east_west = refl
edge past.Comma corner = refl
edge past.Comma _ = tt
edge past.Side half = refl
edge past.Side _ = tt
edge past.Corner quarter = refl
edge past.Corner _ = tt
edge past.Step comma = refl
edge past.Step and = refl
edge past.Step of = refl
edge past.Step north_south = refl
edge past.Step east_west = refl
edge past.Step corner = refl
edge past.Step _ = tt
edge past.Of the = refl
edge past.Of north_south = refl
edge past.Of east_west = refl
edge past.Of corner = refl
edge past.Of _ = tt
edge past.OfThe north_south = refl
edge past.OfThe east_west = refl
edge past.OfThe corner = refl
edge past.OfThe _ = tt

-- a step may be the last one
step_ends : Derives (rest past.Step) []
unfolding rest
step_ends = derives_none from_step refl

part_is : from_part ≡ rest past.Part
unfolding rest
part_is = refl

-- tokens that are read to the end are derived
derived_from : (reached : Option LandState) (g : Ebnf) (parts : List (List Step)) (steps : List Step)
    (ts : List Token)
    (all : List (List Step)) → Leaves g reached → walk reached parts steps ts ≡ Some all
    → Derives g ts
derived_from None g parts steps ts all leaves h = cc h
derived_from (Some reached) g parts steps (token ∷ ts) all leaves h =
    subst (λ (k : Ebnf). Derives k (token ∷ ts)) (sym leaves)
    (takes_token (rest reached) token ts
    (derived_from (next reached (class_of token.kind)) (after (class_of token.kind) (rest reached))
    (parts_after reached token.kind parts steps) (steps_after reached token.kind steps) ts all
    (edge reached (class_of token.kind)) h))
derived_from (Some past.Step) g parts steps [] all leaves h =
    subst (λ (k : Ebnf). Derives k []) (sym leaves) step_ends
derived_from (Some _) g parts steps [] all leaves h = cc h

-- a step begins in one of these states
data Before : Type 0 where
  at_part at_comma at_step at_of at_of_the : Before

abbrev before : Before → LandState
before at_part = past.Part
before at_comma = past.Comma
before at_step = past.Step
before at_of = past.Of
before at_of_the = past.OfThe

begin_step : (from : Before) (v : Tree step) (parts : List (List Step)) (steps : List Step) (ts : List Token)
    → walk (Some (before from)) parts steps (onto step v ts)
    ≡ walk (Some past.Step) parts (steps ++ derived.step_of v ∷ []) ts
begin_step at_part (inl (inl side & _)) parts steps ts = refl
begin_step at_part (inl (inr side & _)) parts steps ts = refl
begin_step at_part (inr (which & _)) parts steps ts = refl
begin_step at_comma (inl (inl side & _)) parts steps ts = refl
begin_step at_comma (inl (inr side & _)) parts steps ts = refl
begin_step at_comma (inr (which & _)) parts steps ts = refl
begin_step at_step (inl (inl side & _)) parts steps ts = refl
begin_step at_step (inl (inr side & _)) parts steps ts = refl
begin_step at_step (inr (which & _)) parts steps ts = refl
begin_step at_of (inl (inl side & _)) parts steps ts = refl
begin_step at_of (inl (inr side & _)) parts steps ts = refl
begin_step at_of (inr (which & _)) parts steps ts = refl
begin_step at_of_the (inl (inl side & _)) parts steps ts = refl
begin_step at_of_the (inl (inr side & _)) parts steps ts = refl
begin_step at_of_the (inr (which & _)) parts steps ts = refl

-- of, or of the, or nothing, between two steps
abbrev link : Ebnf
link = maybe (one of ⨾ maybe (one the))

abbrev after_link : Tree link → Before
after_link (inl (_ & inl _)) = at_of_the
after_link (inl (_ & inr _)) = at_of
after_link (inr _) = at_step

read_link : (v : Tree link) (parts : List (List Step)) (steps : List Step) (ts : List Token)
    → walk (Some past.Step) parts steps (onto link v ts) ≡ walk (Some (before (after_link v))) parts steps ts
read_link (inl (_ & inl _)) parts steps ts = refl
read_link (inl (_ & inr _)) parts steps ts = refl
read_link (inr _) parts steps ts = refl

abbrev further : Ebnf
further = many (link ⨾ step)

read_further : (vs : Tree further) (parts : List (List Step)) (steps : List Step) (ts : List Token)
    → walk (Some past.Step) parts steps (onto further vs ts)
    ≡ walk (Some past.Step) parts (steps ++ map (derived.after derived.step_of) vs) ts
read_further [] parts steps ts =
    ap (λ (ss : List Step). walk (Some past.Step) parts ss ts) (sym (append-nil steps))
read_further ((l & v) ∷ vs) parts steps ts =
    read_link l parts steps (onto step v (onto further vs ts))
    ∙ begin_step (after_link l) v parts steps (onto further vs ts)
    ∙ read_further vs parts (steps ++ derived.step_of v ∷ []) ts
    ∙ ap (λ (ss : List Step). walk (Some past.Step) parts ss ts)
    (append_assoc steps (derived.step_of v ∷ []) (map (derived.after derived.step_of) vs))

read_chain : (from : Before) (v : Tree chain) (parts : List (List Step)) (ts : List Token)
    → walk (Some (before from)) parts [] (onto chain v ts) ≡ walk (Some past.Step) parts (steps_of v) ts
read_chain from (first & more) parts ts =
    begin_step from first parts [] (onto further more ts)
    ∙ read_further more parts (derived.step_of first ∷ []) ts

abbrev after_separator : Tree separator → Before
after_separator (inl (_ & inl _)) = at_part
after_separator (inl (_ & inr _)) = at_comma
after_separator (inr _) = at_part

read_separator : (v : Tree separator) (parts : List (List Step)) (steps : List Step) (ts : List Token)
    → walk (Some past.Step) parts steps (onto separator v ts)
    ≡ walk (Some (before (after_separator v))) (parts ++ steps ∷ []) [] ts
read_separator (inl (_ & inl _)) parts steps ts = refl
read_separator (inl (_ & inr _)) parts steps ts = refl
read_separator (inr _) parts steps ts = refl

read_parts : (vs : Tree (many (separator ⨾ chain))) (parts : List (List Step)) (steps : List Step)
    → walk (Some past.Step) parts steps (onto (many (separator ⨾ chain)) vs [])
    ≡ Some (parts ++ steps ∷ map (derived.after steps_of) vs)
read_parts [] parts steps = refl
read_parts ((s & v) ∷ vs) parts steps =
    read_separator s parts steps (onto chain v (onto (many (separator ⨾ chain)) vs []))
    ∙ read_chain (after_separator s) v (parts ++ steps ∷ []) (onto (many (separator ⨾ chain)) vs [])
    ∙ read_parts vs (parts ++ steps ∷ []) (steps_of v)
    ∙ ap (λ (all : List (List Step)). Some all)
    (append_assoc parts (steps ∷ []) (steps_of v ∷ map (derived.after steps_of) vs))

-- the tokens of a tree are read as its parts
pub walk_of_tree : (v : Tree aliquot_parts)
    → walk (Some past.Part) [] [] (derived.tokens aliquot_parts v) ≡ Some (parts_of v)
walk_of_tree (first & more) =
    ap (λ (ts : List Token). walk (Some past.Part) [] [] ts)
    (sym (onto_is aliquot_parts (first & more) [] ∙ append-nil (derived.tokens aliquot_parts (first & more))))
    ∙ read_chain at_part first [] (onto (many (separator ⨾ chain)) more [])
    ∙ read_parts more [] (steps_of first)

-- if tokens are read as parts, a tree has these tokens and these parts
pub record IsTreeOf (ts : List Token) (all : List (List Step)) : Type 0 where
  pub tree : Tree aliquot_parts
  pub spelled : derived.tokens aliquot_parts tree ≡ ts
  pub read_off : parts_of tree ≡ all

pub tree_of_walk : (ts : List Token) (all : List (List Step)) → walk (Some past.Part) [] [] ts ≡ Some all
    → IsTreeOf ts all
tree_of_walk ts all h =
    let made : Derives aliquot_parts ts =
    from_seq chain (many (separator ⨾ chain)) ts
    (derived_from (Some past.Part) from_part [] [] ts all part_is h) in
    let same : Some (parts_of made.tree) ≡ Some all =
    sym (walk_of_tree made.tree)
    ∙ ap (λ (us : List Token). walk (Some past.Part) [] [] us) made.spelled
    ∙ h in
    record { tree = made.tree; spelled = made.spelled; read_off = only same }
  where
    value_or : Option (List (List Step)) → List (List Step)
    value_or None = []
    value_or (Some some) = some

    only : {x y : List (List Step)} → Some x ≡ Some y → x ≡ y
    only e = ap value_or e
