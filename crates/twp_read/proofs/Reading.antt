-- What the machine finds is what the definitions say: sentences and their items, and the place of a fault.
use Rattle.std.proofs.Common.{◌≡◌, ◌+◌, true, false, List, [], ◌∷◌, ◌++◌, map, length, take, Option, Some}
use Rattle.std.proofs.Common.{None, refl, sym, ap, subst, ◌∙◌, inl, inr, append_assoc, arith, length-append}
use Rattle.std.specs.List.{list_any}
use Rattle.std.specs.Option.{is_some}
use Rattle.std.proofs.lemmas.Bool.{cases_Bool}
use Rattle.std.proofs.lemmas.List.{append-nil, length-map, map-append, take_all}
use Rattle.std.proofs.Math.Seq.{take-append_seam, take-append-add}
use Rattle.twp_grammar.specs.declared.item.Item.{Item}
use Rattle.twp_grammar.specs.declared.state.State.{State}
use Rattle.twp_grammar.specs.declared.state.State.TheVariants.{Start}
use Rattle.twp_grid.specs.declared.township.NorthSouth.TheVariants as ns
use Rattle.twp_grid.specs.declared.township.EastWest.TheVariants as ew
use Rattle.twp_grid.specs.declared.block.Corner.TheVariants as which
use Rattle.twp_grammar.specs.Tokens.{Token}
use Rattle.twp_grammar.specs.Grammar.{Class, sec, lot, all, and, to, inclusive, of, the, t, r, north_south}
use Rattle.twp_grammar.specs.Grammar.{east_west, corner, half, quarter, number, comma, semicolon, colon, stop}
use Rattle.twp_grammar.specs.Grammar.{other, bad_number, bad_byte, Value, class_of, kind_of, description}
use Rattle.twp_grammar.specs.Items.{items}
use Rattle.twp_grammar.specs.Sentences.{HasItems, IsSentence, IsFront, IsFault, MayFollow}
use Rattle.twp_read.specs.Laws.{classes_of, ClassesDecide}
use Rattle.twp_grammar.specs.Machine.{next, is_final}
use Rattle.twp_read.specs.steps.TokenSteps.{take_token, run}
use Rattle.twp_grammar.specs.Expected.{reported, named, expected_of, IsClassNamed}
use Rattle.twp_grammar.proofs.Derivatives.{same_class, same_class_tells, Derives, derives_none, takes_token}
use Rattle.twp_grammar.proofs.Table as table
use Rattle.twp_read.proofs.ListWalk.{newest_first}
use Rattle.twp_read.proofs.Walk.{IsRead, read_description}

-- reversed twice
turned : (xs ys zs : List Item) → newest_first (newest_first xs ys) zs ≡ newest_first ys (xs ++ zs)
turned [] ys zs = refl
turned (it ∷ xs) ys zs = turned xs (it ∷ ys) zs

pub oldest_first : (xs : List Item) → newest_first (newest_first xs []) [] ≡ xs
oldest_first xs = turned xs [] [] ∙ append-nil xs

abbrev pub Outcome : Type 0
Outcome = Option (State × List Item)

-- the state and the items that a run ends with
abbrev state_of : Outcome → State
state_of None = Start
state_of (Some (end, its)) = end

abbrev items_of : Outcome → List Item
items_of None = []
items_of (Some (end, its)) = its

abbrev pub ended : State → List Item → Outcome
ended end its = Some (end, its)

read_sentence : (ts : List Token) (is_sentence : IsSentence ts) → IsRead ts (items is_sentence.tree)
read_sentence ts s = subst (λ (us : List Token). IsRead us (items s.tree)) s.spelled (read_description s.tree)

-- what the machine takes from a state to its end, the grammar derives there
record Leaves (o : Option State) (ts : List Token) : Type 0 where
  state : State
  is : o ≡ Some state
  rest : Derives (table.rest state) ts

leaves : (o : Option State) (ts : List Token) (its : List Item) (e : State) (its' : List Item)
    → run o its ts ≡ ended e its' → is_final e ≡ true → Leaves o ts
leaves None ts its e its' h final = cc h
leaves (Some s) [] its e its' h final = record {
  state = s;
  is = refl;
  rest =
      derives_none (table.rest s)
      (table.end s (subst (λ (x : State). is_final x ≡ true) (sym (ap state_of h)) final));
}
leaves (Some s) (token ∷ ts) its e its' h final =
    let more : Leaves (next s (class_of token.kind)) ts =
    leaves (next s (class_of token.kind)) ts (take_token s token.kind token.at its) e its' h final in
    record {
      state = s;
      is = refl;
      rest =
          takes_token (table.rest s) token ts
          (subst (λ g. Derives g ts) (sym (table.edge s more.state (class_of token.kind) more.is)) more.rest);
    }

-- a run from the start to a final state is the reading of a sentence
pub accepted : (ts : List Token) (e : State) (its : List Item) → run (Some Start) [] ts ≡ ended e its
    → is_final e ≡ true → HasItems ts (newest_first its [])
accepted ts e its h final =
    let all_left : Leaves (Some Start) ts = leaves (Some Start) ts [] e its h final in
    let at_start : Start ≡ all_left.state = ap state_or_start all_left.is in
    let d : Derives description ts =
    subst (λ g. Derives g ts) (ap table.rest (sym at_start) ∙ table.rest_at_start) all_left.rest in
    let read : IsRead ts (items d.tree) =
    subst (λ us. IsRead us (items d.tree)) d.spelled (read_description d.tree) in
    let same : its ≡ newest_first (items d.tree) [] = ap items_of (sym h ∙ read.read) in
    record {
      tree = d.tree;
      spelled = d.spelled;
      read_off = sym (ap (λ js. newest_first js []) same ∙ oldest_first (items d.tree));
    }
  where
    state_or_start : Option State → State
    state_or_start None = Start
    state_or_start (Some s) = s

-- a run continues where it ended
abbrev pub go_on : Outcome → List Token → Outcome
go_on None ts = None
go_on (Some (s, its)) ts = run (Some s) its ts

pub run-append : (o : Option State) (its : List Item) (ts us : List Token)
    → run o its (ts ++ us) ≡ go_on (run o its ts) us
run-append None its ts us = refl
run-append (Some s) its [] us = refl
run-append (Some s) its (token ∷ ts) us =
    run-append (next s (class_of token.kind)) (take_token s token.kind token.at its) ts us

-- a token of each class
abbrev any_value : (c : Class) → Value c
any_value sec = tt
any_value lot = tt
any_value all = tt
any_value and = tt
any_value to = tt
any_value inclusive = tt
any_value of = tt
any_value the = tt
any_value t = tt
any_value r = tt
any_value north_south = ns.N
any_value east_west = ew.E
any_value corner = which.NE
any_value half = tt
any_value quarter = tt
any_value number = 0
any_value comma = tt
any_value semicolon = tt
any_value colon = tt
any_value stop = tt
any_value other = tt
any_value bad_number = tt
any_value bad_byte = tt

abbrev any_token : Class → Token
any_token c = record { kind = kind_of c (any_value c); text = []; at = 0 }

class_of_any : (c : Class) → class_of (any_token c).kind ≡ c
class_of_any sec = refl
class_of_any lot = refl
class_of_any all = refl
class_of_any and = refl
class_of_any to = refl
class_of_any inclusive = refl
class_of_any of = refl
class_of_any the = refl
class_of_any t = refl
class_of_any r = refl
class_of_any north_south = refl
class_of_any east_west = refl
class_of_any corner = refl
class_of_any half = refl
class_of_any quarter = refl
class_of_any number = refl
class_of_any comma = refl
class_of_any semicolon = refl
class_of_any colon = refl
class_of_any stop = refl
class_of_any other = refl
class_of_any bad_number = refl
class_of_any bad_byte = refl

-- classes that lead to a final state are completed by tokens of theirs
record Finishes (o : Option State) (its : List Item) (ts : List Token) : Type 0 where
  end : State
  newest : List Item
  read : run o its ts ≡ ended end newest
  final : is_final end ≡ true

finishes : (o : Option State) (cs : List Class) (its : List Item) → table.leads_out o cs ≡ true
    → Finishes o its (map any_token cs)
finishes None cs its h = cc h
finishes (Some s) [] its h = record { end = s; newest = its; read = refl; final = h }
finishes (Some s) (c ∷ cs) its h =
    let token : Token = any_token c in
    let its' : List Item = take_token s token.kind token.at its in
    let more : Finishes (next s c) its' (map any_token cs) = finishes (next s c) cs its' h in
    record {
      end = more.end;
      newest = more.newest;
      read = ap (λ d. run (next s d) its' (map any_token cs)) (class_of_any c) ∙ more.read;
      final = more.final;
    }

-- the tokens of a run begin a sentence
pub front : (ts : List Token) (s : State) (its : List Item) → run (Some Start) [] ts ≡ ended s its
    → IsFront ts
front ts s its h =
    let more : List Token = map any_token (table.way_out s) in
    let out : Finishes (Some s) its more = finishes (Some s) (table.way_out s) its (table.leads s) in
    let read : run (Some Start) [] (ts ++ more) ≡ ended out.end out.newest =
    run-append (Some Start) [] ts more ∙ ap (λ o. go_on o more) h ∙ out.read in
    let has : HasItems (ts ++ more) (newest_first out.newest []) =
    accepted (ts ++ more) out.end out.newest read out.final in
    (more, rw length-map (table.few s), record { tree = has.tree; spelled = has.spelled })

-- the machine takes each sentence
pub not_stuck : (ts : List Token) → run (Some Start) [] ts ≡ None → ¬ IsSentence ts
not_stuck ts h is_sentence =
    let read : IsRead ts (items is_sentence.tree) = read_sentence ts is_sentence in
    let apart : None ≡ ended read.end (newest_first (items is_sentence.tree) []) = sym h ∙ read.read in
    cc apart

pub ends_finally : (ts : List Token) (s : State) (its : List Item) → run (Some Start) [] ts ≡ ended s its
    → is_final s ≡ false → ¬ IsSentence ts
ends_finally ts s its h final is_sentence =
    let read : IsRead ts (items is_sentence.tree) = read_sentence ts is_sentence in
    let same : s ≡ read.end = ap state_of (sym h ∙ read.read) in
    let apart : false ≡ true = sym final ∙ ap is_final same ∙ read.final in
    cc apart

-- a token that the machine can't take is where the text goes wrong
pub fault_here : (before after_it : List Token) (token : Token) (s : State) (its : List Item)
    → run (Some Start) [] before ≡ ended s its → next s (class_of token.kind) ≡ None
    → IsFault (before ++ token ∷ after_it) (length before)
fault_here before after_it token s its h stuck =
    let up_to : take (length before) (before ++ token ∷ after_it) ≡ before =
    take-append_seam before (token ∷ after_it) in
    let with_it : take (length before + 1) (before ++ token ∷ after_it) ≡ before ++ token ∷ [] =
    take-append-add before (token ∷ after_it) 1 in
    record {
      within = rw (length-append before (token ∷ after_it)) (omega arith);
      before = rw up_to (front before s its h);
      here = λ _ more.
          rw with_it
          (not_stuck ((before ++ token ∷ []) ++ more)
          (rw append_assoc
          (run-append (Some Start) [] before (token ∷ more)
          ∙ ap (λ o. go_on o (token ∷ more)) h
          ∙ ap (λ o. run o (take_token s token.kind token.at its) more) stuck)));
      at_end = λ e.
          let longer : length before ≡ length before + length (token ∷ after_it) =
          rw (length-append before (token ∷ after_it)) at e in
          absurd (omega arith);
    }

-- tokens that end too early
pub fault_at_end : (ts : List Token) (s : State) (its : List Item) → run (Some Start) [] ts ≡ ended s its
    → is_final s ≡ false → IsFault ts (length ts)
fault_at_end ts s its h final =
    let up_to : take (length ts) ts ≡ ts = take_all (length ts) ts (omega arith) in
    record {
      within = omega arith;
      before = rw up_to (front ts s its h);
      here = λ below. absurd (omega arith);
      at_end = λ _. ends_finally ts s its h final;
    }

-- what a beginning of a sentence lacks is at most seven tokens
pub short_completion : (ts more : List Token) → IsSentence (ts ++ more) → IsFront ts
short_completion ts more is_sentence = by_run (run (Some Start) [] ts) refl
  where
    by_run : (o : Outcome) → run (Some Start) [] ts ≡ o → IsFront ts
    by_run None h =
        absurd
        (not_stuck (ts ++ more) (run-append (Some Start) [] ts more ∙ ap (λ o. go_on o more) h) is_sentence)
    by_run (Some (s, its)) h = front ts s its h

named_of : (c : Class) (cs : List Class) → list_any (λ d. same_class c d) cs ≡ true → IsClassNamed c cs
named_of c [] h = cc h
named_of c (d ∷ ds) h = elim (cases_Bool (same_class c d)) [
  | inl same ↦ inl (same_class_tells c d same)
  | inr apart ↦ inr (named_of c ds (rw apart at h))
]

-- whatever a sentence has after some tokens is named in the state that they lead to
pub what_follows : (before : List Token) (token : Token) (more : List Token) (s : State) (its : List Item)
    → run (Some Start) [] before ≡ ended s its → IsSentence (before ++ token ∷ more)
    → IsClassNamed (class_of token.kind) (named (expected_of s))
what_follows before token more s its h is = follows (next s (class_of token.kind)) refl
  where
    follows : (o : Option State) → next s (class_of token.kind) ≡ o
        → IsClassNamed (class_of token.kind) (named (expected_of s))
    follows None stuck =
        absurd
        (not_stuck (before ++ token ∷ more)
        (run-append (Some Start) [] before (token ∷ more)
        ∙ ap (λ o. go_on o (token ∷ more)) h
        ∙ ap (λ o. run o (take_token s token.kind token.at its) more) stuck)
        is)
    follows (Some s') step =
        named_of (class_of token.kind) (named (expected_of s))
        (table.follows_named s s' (class_of token.kind) step)

-- a sentence has a token of each class that is reported in the state that some tokens lead to
pub what_is_told : (before : List Token) (s : State) (its : List Item)
    → run (Some Start) [] before ≡ ended s its → (c : Class) → IsClassNamed c (reported (expected_of s))
    → MayFollow before c
what_is_told before s its h c is = follows (next s c) refl (table.told_follows s c is)
  where
    follows : (o : Option State) → next s c ≡ o → is_some o ≡ true → MayFollow before c
    follows None step some = cc some
    follows (Some s') step some =
        let token : Token = any_token c in
        let its' : List Item = take_token s token.kind token.at its in
        let read : run (Some Start) [] (before ++ token ∷ []) ≡ ended s' its' =
        run-append (Some Start) [] before (token ∷ [])
        ∙ ap (λ o. go_on o (token ∷ [])) h
        ∙ ap (λ d. run (next s d) its' []) (class_of_any c)
        ∙ ap (λ o. run o its' []) step in
        let goes_on = front (before ++ token ∷ []) s' its' read in
        record {
          token = token;
          more = goes_on.0;
          of_class = class_of_any c;
          sentence = subst (λ ts. IsSentence ts) (append_assoc before (token ∷ []) goes_on.0) goes_on.2;
        }

-- where a run of the machine leads depends on the classes of the tokens alone
record LeadsTo (o : Option State) (its : List Item) (ts : List Token) (s : State) : Type 0 where
  newest : List Item
  read : run o its ts ≡ ended s newest

abbrev first_class : Class → List Class → Class
first_class c [] = c
first_class c (d ∷ ds) = d

abbrev later_classes : List Class → List Class
later_classes [] = []
later_classes (c ∷ cs) = cs

led_alike : (o : Option State) (ts us : List Token) (its its' : List Item) (s : State)
    → classes_of ts ≡ classes_of us → LeadsTo o its ts s → LeadsTo o its' us s
led_alike None ts us its its' s same leads = let none : None ≡ ended s leads.newest = leads.read in cc none
led_alike (Some from) [] [] its its' s same leads =
    record { newest = its'; read = ap (λ x. ended x its') (ap state_of leads.read) }
led_alike (Some from) [] (token' ∷ us) its its' s same leads = cc same
led_alike (Some from) (token ∷ ts) [] its its' s same leads = cc same
led_alike (Some from) (token ∷ ts) (token' ∷ us) its its' s same leads =
    let its_class : class_of token.kind ≡ class_of token'.kind =
    ap (first_class (class_of token.kind)) same in
    let now : List Item = take_token from token.kind token.at its in
    let now' : List Item = take_token from token'.kind token'.at its' in
    let more = led_alike (next from (class_of token.kind)) ts us now now' s (ap later_classes same) (record {
      newest = leads.newest;
      read = leads.read;
    }) in
    record { newest = more.newest; read = ap (λ c. run (next from c) now' us) (sym its_class) ∙ more.read }

sentence_alike : (ts us : List Token) → classes_of ts ≡ classes_of us → IsSentence ts → IsSentence us
sentence_alike ts us same is =
    let read : IsRead ts (items is.tree) = read_sentence ts is in
    let led : LeadsTo (Some Start) [] us read.end = led_alike (Some Start) ts us [] [] read.end same (record {
      newest = newest_first (items is.tree) [];
      read = read.read;
    }) in
    let has : HasItems us (newest_first led.newest []) =
    accepted us read.end led.newest led.read read.final in
    record { tree = has.tree; spelled = has.spelled }

front_alike : (ts us : List Token) → classes_of ts ≡ classes_of us → IsFront ts → IsFront us
front_alike ts us same (more, few, is) = (
  more,
  few,
  sentence_alike (ts ++ more) (us ++ more)
      (map-append (λ token. class_of token.kind) ts more
      ∙ ap (λ cs. cs ++ classes_of more) same
      ∙ sym (map-append (λ token. class_of token.kind) us more))
      is,
)

-- whether tokens are a sentence, or begin one, depends on their classes alone
pub classes_decide : ClassesDecide
classes_decide ts us same = (
  (sentence_alike ts us same, sentence_alike us ts (sym same)),
  (front_alike ts us same, front_alike us ts (sym same)),
)
