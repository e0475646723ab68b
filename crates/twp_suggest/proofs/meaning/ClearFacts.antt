-- A text with a doubtful place isn't clear.
use Rattle.std.proofs.Common.{◌≡◌, ◌↔◌, List, [], ◌∷◌, ℕ, Option, Some, None, IsTrue, false, ap, sym, ◌∙◌}
use Rattle.twp_grid.specs.declared.refusal.Refusal.{Refusal}
use Rattle.twp_grammar.specs.declared.item.Item.{Item}
use Rattle.twp_grammar.specs.Sentences.{IsReadAs}
use Rattle.twp_read.specs.TextFaults.{refusal_of}
use Rattle.twp_read.specs.declared.fault.TextFault.{TextFault}
use Rattle.twp_read.specs.declared.fault.TextFault.TheVariants.{Memory, Syntax}
use Rattle.twp_grammar.proofs.TokenFacts.{one_token_list}
use Rattle.twp_read.specs.declared.doubt.DoubtfulPlace.{DoubtfulPlace}
use Rattle.twp_read.specs.declared.doubt.Doubts.{Doubts}
use Rattle.twp_read.specs.Doubts.{AreDoubts, HasDoubts, doubts}
use Rattle.twp_grammar.specs.declared.expected.Expected.{Expected}
use Rattle.twp_read.specs.TextFaults.{NamesWhatFollows}
use Rattle.twp_read.proofs.OneAnswer.{no_fault}
use Rattle.twp_suggest.specs.Descriptions.{IsAccepted, IsClear}

none_is_none : (first : DoubtfulPlace) (more : List DoubtfulPlace) → [] ≡ first ∷ more → ⊥
none_is_none first more same = cc same

-- the tokens of a text are one list, so its doubtful places are
one_list : (text : List ℕ) (places places' : List DoubtfulPlace)
    → HasDoubts text places → HasDoubts text places' → places ≡ places'
one_list text places places' has has' =
    sym has.places_are
    ∙ ap doubts (one_token_list 0 text has.tokens has'.tokens has.cut has'.cut)
    ∙ has'.places_are

never_clear : (text : List ℕ) (found : Doubts) → AreDoubts text found → IsClear text → ⊥
never_clear text found are clear =
    none_is_none found.first are.found_is.more
    (one_list text [] are.places clear.clear are.all ∙ are.found_is.first)

pub with_doubt : (text : List ℕ) (found : Doubts) → AreDoubts text found → IsTrue false ↔ IsClear text
with_doubt text found are = (λ no. cc no, λ clear. absurd (never_clear text found are clear))

none_is_some : (refusal : Refusal) (found : Option Refusal) → found ≡ None → found ≡ Some refusal → ⊥
none_is_some refusal found is has = cc (sym is ∙ has)

-- a text that is refused isn't clear
pub if_refused : (text : List ℕ) (fault : TextFault) (refusal : Refusal)
    → ((items : List Item) → IsReadAs text items → fault ≡ Memory) → refusal_of fault ≡ Some refusal
    → IsTrue false ↔ IsClear text
if_refused text fault refusal taken refused = (
  λ no. cc no,
  λ clear.
      absurd
      (none_is_some refusal (refusal_of fault)
      (ap refusal_of (taken clear.accepted.items clear.accepted.read)) refused),
)

-- nor accepted
pub never_accepted : (text : List ℕ) (fault : TextFault) (refusal : Refusal)
    → ((items : List Item) → IsReadAs text items → fault ≡ Memory) → refusal_of fault ≡ Some refusal
    → ¬ IsAccepted text
never_accepted text fault refusal taken refused accepted =
    none_is_some refusal (refusal_of fault) (ap refusal_of (taken accepted.items accepted.read)) refused

-- nor is one clear that isn't accepted
pub if_wrong : (text : List ℕ) → ¬ IsAccepted text → IsTrue false ↔ IsClear text
if_wrong text wrong = (λ no. cc no, λ clear. absurd (wrong clear.accepted))

-- a text that goes wrong isn't accepted
pub wrong_text : (text : List ℕ) (at : ℕ) (expected : Expected) → NamesWhatFollows text at expected
    → ¬ IsAccepted text
wrong_text text at expected wrong accepted =
    no_fault text accepted.items (Syntax at expected) accepted.read wrong.wrong
