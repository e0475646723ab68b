-- The tokens of a record's land that were read so far.
use Rattle.std.proofs.Common.{◌≡◌, ◌≢◌, ℕ, ◌+◌, ◌≤◌, ◌<◌, List, [], ◌∷◌, ◌++◌, Option, Some, None, length}
use Rattle.std.proofs.Common.{drop, refl}
use Rattle.std.proofs.Common.{sym, ap, subst, ◌∙◌, arith, append_assoc, Bool, true, false, if◌then◌else◌}
use Rattle.std.specs.List.{AllPass}
use Rattle.twp_grammar.specs.declared.item.Step.{Step}
use Rattle.twp_grammar.specs.declared.tokens.Kind.{Kind}
use Rattle.twp_grammar.specs.Tokens.{Token, HasTokens, StartsWith, is_white}
use Rattle.twp_grammar.specs.Grammar.{class_of}
use Rattle.twp_grammar.specs.Cutting.{IsFirstIn}
use Rattle.twp_grammar.proofs.TokenFacts.{one_token_list, has_token_list}
use Rattle.twp_plat.specs.declared.lots.land_text.LandState.{LandState}
use Rattle.twp_plat.specs.declared.lots.land_text.LandState.TheVariants as past
use Rattle.twp_plat.specs.declared.lots.land_text.Painting.{Painting}
use Rattle.twp_plat.specs.LandTexts.{AreAliquotParts}
use Rattle.twp_plat.specs.steps.LandWalk.{next, walk, parts_after, steps_after, ends_part, with_step, step_of}
use Rattle.twp_plat.specs.steps.LandPaints.{IsPainting}
use Rattle.twp_plat.proofs.lots.LandTrees.{walk_of_tree, tree_of_walk, IsTreeOf}

-- the tokens of the text before this place led to this state, to whole parts, and to the steps of one that
-- has begun
pub record AreReadTo (text : List ℕ) (at : ℕ) (reached : LandState) (parts : List (List Step))
    (steps : List Step) : Type 0 where
  pub within : at ≤ length text
  pub tokens : List Token
  pub joins : (left : List Token) → HasTokens at (drop at text) left → HasTokens 0 text (tokens ++ left)
  pub walked : (left : List Token) → walk (Some past.Part) [] [] (tokens ++ left)
      ≡ walk (Some reached) parts steps left

-- before the first token
pub none_read : (text : List ℕ) → AreReadTo text 0 past.Part [] []
none_read text = record {
  within = omega arith;
  tokens = [];
  joins = λ left has. has;
  walked = λ left. refl;
}

-- one more token
pub one_read : (text : List ℕ) (at : ℕ) (reached after : LandState) (parts : List (List Step))
    (steps : List Step)
    (token : Token)
    → AreReadTo text at reached parts steps → IsFirstIn text at token
    → next reached (class_of token.kind) ≡ Some after
    → AreReadTo text (token.at + length token.text) after (parts_after reached token.kind parts steps)
    (steps_after reached token.kind steps)
one_read text at reached after parts steps token read first leads = record {
  within = first.within;
  tokens = read.tokens ++ token ∷ [];
  joins = λ left has.
      subst (λ (ts : List Token). HasTokens 0 text ts) (sym (append_assoc read.tokens (token ∷ []) left))
      (read.joins (token ∷ left) (drop (token.at + length token.text) text, first.starts, has));
  walked = λ left.
      ap (λ (ts : List Token). walk (Some past.Part) [] [] ts) (append_assoc read.tokens (token ∷ []) left)
      ∙ read.walked (token ∷ left)
      ∙ ap
      (λ o. walk o (parts_after reached token.kind parts steps) (steps_after reached token.kind steps) left)
      leads;
}

-- what a text's only list of tokens is read as
parts_are : (text : List ℕ) (ts : List Token) (o : Option (List (List Step))) → HasTokens 0 text ts
    → walk (Some past.Part) [] [] ts ≡ o → (parts : List (List Step)) → AreAliquotParts text parts
    → o ≡ Some parts
parts_are text ts o has walked parts are =
    let same : are.tokens ≡ ts = one_token_list 0 text are.tokens ts are.cut has in
    sym walked
    ∙ ap (λ (us : List Token). walk (Some past.Part) [] [] us) (sym same ∙ sym are.spelled)
    ∙ walk_of_tree are.tree
    ∙ ap (λ (all : List (List Step)). Some all) are.read_off

-- no sequence of parts begins with the tokens so far and the next one
pub not_parts : (text : List ℕ) (at : ℕ) (reached : LandState) (parts : List (List Step)) (steps : List Step)
    (token : Token)
    → AreReadTo text at reached parts steps → IsFirstIn text at token
    → next reached (class_of token.kind) ≡ None → (all : List (List Step)) → AreAliquotParts text all → ⊥
not_parts text at reached parts steps token read first leads all are =
    let end : ℕ = token.at + length token.text in
    let left = has_token_list end (drop end text) in
    let has = read.joins (token ∷ left.0) (drop end text, first.starts, left.1) in
    let walked = read.walked (token ∷ left.0)
    ∙ ap
    (λ o. walk o (parts_after reached token.kind parts steps) (steps_after reached token.kind steps) left.0)
    leads in
    cc (parts_are text (read.tokens ++ token ∷ left.0) None has walked all are)

-- the tokens end in the middle of a step or before a part
pub not_ended : (text : List ℕ) (at : ℕ) (reached : LandState) (parts : List (List Step)) (steps : List Step)
    → AreReadTo text at reached parts steps → AllPass is_white (drop at text) → reached ≢ past.Step
    → (all : List (List Step)) → AreAliquotParts text all → ⊥
not_ended text at reached parts steps read white other all are =
    cc (parts_are text (read.tokens ++ []) None (read.joins [] white)
    (read.walked [] ∙ none reached other) all are)
  where
    none : (state : LandState) → state ≢ past.Step → walk (Some state) parts steps [] ≡ None
    none past.Step other = absurd (other refl)
    none _ other = refl

-- the tokens end after a step
pub all_read : (text : List ℕ) (at : ℕ) (reached : LandState) (parts : List (List Step)) (steps : List Step)
    → AreReadTo text at reached parts steps → AllPass is_white (drop at text) → reached ≡ past.Step
    → AreAliquotParts text (parts ++ steps ∷ [])
all_read text at reached parts steps read white is =
    let walked : walk (Some past.Part) [] [] (read.tokens ++ []) ≡ Some (parts ++ steps ∷ []) =
    read.walked [] ∙ ap (λ (state : LandState). walk (Some state) parts steps []) is in
    let made : IsTreeOf (read.tokens ++ []) (parts ++ steps ∷ []) =
    tree_of_walk (read.tokens ++ []) (parts ++ steps ∷ []) walked in
    record {
      tokens = read.tokens ++ [];
      cut = read.joins [] white;
      tree = made.tree;
      spelled = made.spelled;
      read_off = made.read_off;
    }

-- a text is only one sequence of parts
pub one_parts : (text : List ℕ) (parts parts' : List (List Step)) → AreAliquotParts text parts
    → AreAliquotParts text parts' → parts ≡ parts'
one_parts text parts parts' are are' =
    let walked : walk (Some past.Part) [] [] are.tokens ≡ Some parts =
    ap (λ (ts : List Token). walk (Some past.Part) [] [] ts) (sym are.spelled)
    ∙ walk_of_tree are.tree
    ∙ ap (λ (all : List (List Step)). Some all) are.read_off in
    only (parts_are text are.tokens (Some parts) are.cut walked parts' are')
  where
    value_or : Option (List (List Step)) → List (List Step)
    value_or None = []
    value_or (Some some) = some

    only : {x y : List (List Step)} → Some x ≡ Some y → x ≡ y
    only e = ap value_or e

-- the tokens so far were read, and the whole parts painted
pub record AreLandSteps (text : List ℕ) (at : ℕ) (reached : LandState) (steps : List Step)
    (painting : Painting)
    (section mark : ℕ) (old new : List (List ℕ)) : Type 0 where
  pub parts : List (List Step)
  pub read : AreReadTo text at reached parts steps
  pub painted : IsPainting painting section parts mark old new

-- the next token separates two parts
pub parted : (text : List ℕ) (end : ℕ) (reached after : LandState) (kind : Kind) (parts : List (List Step))
    (steps : List Step)
    → AreReadTo text end after (parts_after reached kind parts steps) (steps_after reached kind steps)
    → ends_part reached (class_of kind) ≡ true → AreReadTo text end after (parts ++ steps ∷ []) []
parted text end reached after kind parts steps read ends =
    subst (λ (b : Bool). AreReadTo text end after (if b then parts ++ steps ∷ [] else parts)
    (if b then [] else with_step (step_of kind) steps)) ends read

-- it does not
pub continued : (text : List ℕ) (end : ℕ) (reached after : LandState) (kind : Kind) (parts : List (List Step))
    (steps : List Step) (step : Option Step)
    → AreReadTo text end after (parts_after reached kind parts steps) (steps_after reached kind steps)
    → ends_part reached (class_of kind) ≡ false → step_of kind ≡ step
    → AreReadTo text end after parts (with_step step steps)
continued text end reached after kind parts steps step read not is =
    subst (λ (o : Option Step). AreReadTo text end after parts (with_step o steps)) is
    (subst (λ (b : Bool). AreReadTo text end after (if b then parts ++ steps ∷ [] else parts)
    (if b then [] else with_step (step_of kind) steps)) not read)
