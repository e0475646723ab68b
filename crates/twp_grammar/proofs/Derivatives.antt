-- The texts that may follow a token in a grammar form a grammar too, the grammar's derivative by
-- the token's class. Trees of the derivative give trees of the grammar.
use Rattle.std.proofs.Common.{◌≡◌, ◌==◌, ℕ, Bool, true, false, not, cond, ◌&&◌, List, [], ◌∷◌, ◌++◌, get_or}
use Rattle.std.proofs.Common.{refl, sym, ap, subst, ◌∙◌, inl, inr, append_assoc}
use Rattle.std.proofs.lemmas.Bool.{eqb-true}
use Rattle.twp_grammar.specs.declared.tokens.Kind.{Kind}
use Rattle.twp_grammar.specs.declared.tokens.Kind.TheVariants.{Sec, Lot, All, And, To, Inclusive, Of, The, T}
use Rattle.twp_grammar.specs.declared.tokens.Kind.TheVariants.{R}
use Rattle.twp_grammar.specs.declared.tokens.Kind.TheVariants.{NorthSouth, EastWest, Corner, Half, Quarter}
use Rattle.twp_grammar.specs.declared.tokens.Kind.TheVariants.{Number, Comma, Semicolon, Colon, Stop, Other}
use Rattle.twp_grammar.specs.declared.tokens.Kind.TheVariants.{BadNumber, BadByte}
use Rattle.twp_grammar.specs.Tokens.{Token}
use Rattle.twp_grammar.specs.Grammar.{Class, sec, lot, all, and, to, inclusive, of, the, t, r, north_south}
use Rattle.twp_grammar.specs.Grammar.{east_west, corner, half, quarter, number, comma, semicolon, colon, stop}
use Rattle.twp_grammar.specs.Grammar.{other, bad_number, bad_byte, Value, class_of, kind_of, Ebnf, never}
use Rattle.twp_grammar.specs.Grammar.{nothing, one, ◌⨾◌, ◌∣◌, many}
use Rattle.twp_grammar.specs.Items.{Leaf, token_of, ◌&◌, Tree, tokens}

-- the classes, and a number for each
abbrev pub classes : List Class
classes =
    sec ∷ lot ∷ all ∷ and ∷ to ∷ inclusive ∷ of ∷ the ∷ t ∷ r ∷ north_south ∷ east_west ∷ corner ∷ half
    ∷ quarter ∷ number
    ∷ comma ∷ semicolon ∷ colon ∷ stop ∷ other ∷ bad_number ∷ bad_byte ∷ []

abbrev pub place_of_class : Class → ℕ
place_of_class sec = 0
place_of_class lot = 1
place_of_class all = 2
place_of_class and = 3
place_of_class to = 4
place_of_class inclusive = 5
place_of_class of = 6
place_of_class the = 7
place_of_class t = 8
place_of_class r = 9
place_of_class north_south = 10
place_of_class east_west = 11
place_of_class corner = 12
place_of_class half = 13
place_of_class quarter = 14
place_of_class number = 15
place_of_class comma = 16
place_of_class semicolon = 17
place_of_class colon = 18
place_of_class stop = 19
place_of_class other = 20
place_of_class bad_number = 21
place_of_class bad_byte = 22

pub class_at_place : (c : Class) → get_or classes (place_of_class c) sec ≡ c
class_at_place sec = refl
class_at_place lot = refl
class_at_place all = refl
class_at_place and = refl
class_at_place to = refl
class_at_place inclusive = refl
class_at_place of = refl
class_at_place the = refl
class_at_place t = refl
class_at_place r = refl
class_at_place north_south = refl
class_at_place east_west = refl
class_at_place corner = refl
class_at_place half = refl
class_at_place quarter = refl
class_at_place number = refl
class_at_place comma = refl
class_at_place semicolon = refl
class_at_place colon = refl
class_at_place stop = refl
class_at_place other = refl
class_at_place bad_number = refl
class_at_place bad_byte = refl

abbrev pub same_class : Class → Class → Bool
same_class c d = place_of_class c == place_of_class d

pub same_class_tells : (c d : Class) → same_class c d ≡ true → c ≡ d
same_class_tells c d h =
    sym (class_at_place c)
    ∙ ap (λ n. get_or classes n sec) (eqb-true (place_of_class c) (place_of_class d) h)
    ∙ class_at_place d

-- the value of a token
abbrev pub value_of : (k : Kind) → Value (class_of k)
value_of Sec = tt
value_of Lot = tt
value_of All = tt
value_of And = tt
value_of To = tt
value_of Inclusive = tt
value_of Of = tt
value_of The = tt
value_of T = tt
value_of R = tt
value_of (NorthSouth side) = side
value_of (EastWest side) = side
value_of (Corner which) = which
value_of Half = tt
value_of Quarter = tt
value_of (Number value) = value
value_of Comma = tt
value_of Semicolon = tt
value_of Colon = tt
value_of Stop = tt
value_of Other = tt
value_of BadNumber = tt
value_of BadByte = tt

pub kind_of_value : (k : Kind) → kind_of (class_of k) (value_of k) ≡ k
kind_of_value Sec = refl
kind_of_value Lot = refl
kind_of_value All = refl
kind_of_value And = refl
kind_of_value To = refl
kind_of_value Inclusive = refl
kind_of_value Of = refl
kind_of_value The = refl
kind_of_value T = refl
kind_of_value R = refl
kind_of_value (NorthSouth side) = refl
kind_of_value (EastWest side) = refl
kind_of_value (Corner which) = refl
kind_of_value Half = refl
kind_of_value Quarter = refl
kind_of_value (Number value) = refl
kind_of_value Comma = refl
kind_of_value Semicolon = refl
kind_of_value Colon = refl
kind_of_value Stop = refl
kind_of_value Other = refl
kind_of_value BadNumber = refl
kind_of_value BadByte = refl

-- each token is a leaf with its class
abbrev pub leaf_of : (token : Token) → Leaf (class_of token.kind)
leaf_of token = record { value = value_of token.kind; text = token.text; at = token.at }

pub token_of_leaf : (token : Token) → token_of (class_of token.kind) (leaf_of token) ≡ token
token_of_leaf token =
    ap (λ k. let made : Token = record { kind = k; text = token.text; at = token.at } in made)
    (kind_of_value token.kind)

-- the grammar derives the tokens
pub record Derives (g : Ebnf) (ts : List Token) : Type 0 where
  pub tree : Tree g
  pub spelled : tokens g tree ≡ ts

-- the empty list of tokens is derived
abbrev pub is_nullable : Ebnf → Bool
is_nullable never = false
is_nullable nothing = true
is_nullable (one c) = false
is_nullable (g ⨾ h) = is_nullable g && is_nullable h
is_nullable (g ∣ h) = cond (is_nullable g) true (is_nullable h)
is_nullable (many g) = true

-- the empty list of tokens is derived in at most one way, here and in each part
abbrev pub has_one_empty : Ebnf → Bool
has_one_empty never = true
has_one_empty nothing = true
has_one_empty (one c) = true
has_one_empty (g ⨾ h) = has_one_empty g && has_one_empty h
has_one_empty (g ∣ h) = has_one_empty g && (has_one_empty h && not (is_nullable g && is_nullable h))
has_one_empty (many g) = has_one_empty g && not (is_nullable g)

-- a sequence and an alternative, with empty parts left out
abbrev pub seq : Ebnf → Ebnf → Ebnf
seq never k = never
seq nothing k = k
seq (g ⨾ h) k = g ⨾ seq h k
seq (one c) k = one c ⨾ k
seq (g ∣ h) k = (g ∣ h) ⨾ k
seq (many g) k = many g ⨾ k

abbrev pub alt : Ebnf → Ebnf → Ebnf
alt never h = h
alt g never = g
alt g h = g ∣ h

-- the grammar of the texts that may follow a token of the class
abbrev pub after : Class → Ebnf → Ebnf
after c never = never
after c nothing = never
after c (one d) = cond (same_class c d) nothing never
after c (g ⨾ h) = cond (is_nullable g) (alt (seq (after c g) h) (after c h)) (seq (after c g) h)
after c (g ∣ h) = alt (after c g) (after c h)
after c (many g) = seq (after c g) (many g)

pub both : (x y : Bool) → (x && y) ≡ true → (x ≡ true) × (y ≡ true)
both true y h = (refl, h)
both false y h = cc h

none_of_either : (g k : Ebnf) (x : Bool) → is_nullable g ≡ x → cond x true (is_nullable k) ≡ true
    → (is_nullable g ≡ true → Derives g []) → (is_nullable k ≡ true → Derives k []) → Derives (g ∣ k) []
none_of_either g k true e h on_left on_right =
    let v = on_left e in record { tree = inl v.tree; spelled = v.spelled }
none_of_either g k false e h on_left on_right =
    let v = on_right h in record { tree = inr v.tree; spelled = v.spelled }

pub derives_none : (g : Ebnf) → is_nullable g ≡ true → Derives g []
derives_none never h = cc h
derives_none nothing h = record { tree = tt; spelled = refl }
derives_none (one c) h = cc h
derives_none (g ⨾ k) h =
    let parts = both (is_nullable g) (is_nullable k) h in
    let v : Derives g [] = derives_none g parts.0 in
    let w : Derives k [] = derives_none k parts.1 in
    record { tree = v.tree & w.tree; spelled = rw (v.spelled, w.spelled) refl }
derives_none (g ∣ k) h = none_of_either g k (is_nullable g) refl h (derives_none g) (derives_none k)
derives_none (many g) h = record { tree = []; spelled = refl }

-- trees of a sequence, split
with_parts : (g k : Ebnf) (P : List Token → Type 0) (v : Tree (g ⨾ k))
    → ((x : Tree g) (y : Tree k) → P (tokens g x ++ tokens k y)) → P (tokens (g ⨾ k) v)
with_parts g k P (x & y) use_parts = use_parts x y

regrouped : (g h k : Ebnf) (x : Tree g) (us : List Token) → Derives (h ⨾ k) us
    → Derives ((g ⨾ h) ⨾ k) (tokens g x ++ us)
regrouped g h k x us d =
    subst (λ (ts : List Token). Derives ((g ⨾ h) ⨾ k) (tokens g x ++ ts)) d.spelled
    (with_parts h k (λ ts. Derives ((g ⨾ h) ⨾ k) (tokens g x ++ ts)) d.tree
    (λ y z. record { tree = (x & y) & z; spelled = rw append_assoc refl }))

pub from_seq : (g k : Ebnf) (ts : List Token) → Derives (seq g k) ts → Derives (g ⨾ k) ts
from_seq never k ts d = absurd d.tree
from_seq nothing k ts d = record { tree = tt & d.tree; spelled = d.spelled }
from_seq (one c) k ts d = d
from_seq (g ⨾ h) k ts d =
    subst (λ (us : List Token). Derives ((g ⨾ h) ⨾ k) us) d.spelled
    (with_parts g (seq h k) (λ us. Derives ((g ⨾ h) ⨾ k) us) d.tree
    (λ x y. regrouped g h k x (tokens (seq h k) y) (from_seq h k (tokens (seq h k) y) (record {
      tree = y;
      spelled = refl;
    }))))
from_seq (g ∣ h) k ts d = d
from_seq (many g) k ts d = d

from_left : (g h : Ebnf) (ts : List Token) → Derives g ts → Derives (g ∣ h) ts
from_left g h ts d = record { tree = inl d.tree; spelled = d.spelled }

from_right : (g h : Ebnf) (ts : List Token) → Derives h ts → Derives (g ∣ h) ts
from_right g h ts d = record { tree = inr d.tree; spelled = d.spelled }

pub from_alt : (g h : Ebnf) (ts : List Token) → Derives (alt g h) ts → Derives (g ∣ h) ts
from_alt never h ts d = from_right never h ts d
from_alt nothing never ts d = from_left nothing never ts d
from_alt nothing nothing ts d = d
from_alt nothing (one c) ts d = d
from_alt nothing (g ⨾ h) ts d = d
from_alt nothing (g ∣ h) ts d = d
from_alt nothing (many g) ts d = d
from_alt (one c) never ts d = from_left (one c) never ts d
from_alt (one c) nothing ts d = d
from_alt (one c) (one e) ts d = d
from_alt (one c) (g ⨾ h) ts d = d
from_alt (one c) (g ∣ h) ts d = d
from_alt (one c) (many g) ts d = d
from_alt (x ⨾ y) never ts d = from_left (x ⨾ y) never ts d
from_alt (x ⨾ y) nothing ts d = d
from_alt (x ⨾ y) (one e) ts d = d
from_alt (x ⨾ y) (g ⨾ h) ts d = d
from_alt (x ⨾ y) (g ∣ h) ts d = d
from_alt (x ⨾ y) (many g) ts d = d
from_alt (x ∣ y) never ts d = from_left (x ∣ y) never ts d
from_alt (x ∣ y) nothing ts d = d
from_alt (x ∣ y) (one e) ts d = d
from_alt (x ∣ y) (g ⨾ h) ts d = d
from_alt (x ∣ y) (g ∣ h) ts d = d
from_alt (x ∣ y) (many g) ts d = d
from_alt (many x) never ts d = from_left (many x) never ts d
from_alt (many x) nothing ts d = d
from_alt (many x) (one e) ts d = d
from_alt (many x) (g ⨾ h) ts d = d
from_alt (many x) (g ∣ h) ts d = d
from_alt (many x) (many g) ts d = d

-- if the derivative derives some tokens, the grammar derives them after the token
abbrev TakesOn : Ebnf → Type 0
TakesOn g =
    (c : Class) (leaf : Leaf c) (ts : List Token) → Derives (after c g) ts → Derives g (token_of c leaf ∷ ts)

one_leaf : (c d : Class) (x : Bool) (leaf : Leaf c) (ts : List Token) → same_class c d ≡ x
    → Derives (cond x nothing never) ts → Derives (one d) (token_of c leaf ∷ ts)
one_leaf c d true leaf ts same v =
    subst (λ (e : Class). Derives (one e) (token_of c leaf ∷ ts)) (same_class_tells c d same)
    (record { tree = leaf; spelled = ap (λ us. token_of c leaf ∷ us) v.spelled })
one_leaf c d false leaf ts same v = absurd v.tree

in_front : (g h : Ebnf) → TakesOn g → (c : Class) (leaf : Leaf c) (ts : List Token)
    → Derives (seq (after c g) h) ts → Derives (g ⨾ h) (token_of c leaf ∷ ts)
in_front g h takes c leaf ts d =
    let d' : Derives (after c g ⨾ h) ts = from_seq (after c g) h ts d in
    subst (λ (us : List Token). Derives (g ⨾ h) (token_of c leaf ∷ us)) d'.spelled
    (with_parts (after c g) h (λ us. Derives (g ⨾ h) (token_of c leaf ∷ us)) d'.tree (λ x y.
    let v : Derives g (token_of c leaf ∷ tokens (after c g) x) =
    takes c leaf (tokens (after c g) x) (record { tree = x; spelled = refl }) in
    record { tree = v.tree & y; spelled = ap (λ us. us ++ tokens h y) v.spelled }))

past_nothing : (g h : Ebnf) → is_nullable g ≡ true → (ts : List Token) → Derives h ts → Derives (g ⨾ h) ts
past_nothing g h empty ts d =
    let v : Derives g [] = derives_none g empty in
    record { tree = v.tree & d.tree; spelled = rw (v.spelled, d.spelled) refl }

in_sequence : (g h : Ebnf) (x : Bool) → is_nullable g ≡ x → TakesOn g → TakesOn h
    → (c : Class) (leaf : Leaf c) (ts : List Token)
    → Derives (cond x (alt (seq (after c g) h) (after c h)) (seq (after c g) h)) ts
    → Derives (g ⨾ h) (token_of c leaf ∷ ts)
in_sequence g h false empty takes_g takes_h c leaf ts d = in_front g h takes_g c leaf ts d
in_sequence g h true empty takes_g takes_h c leaf ts d =
    let d' : Derives (seq (after c g) h ∣ after c h) ts = from_alt (seq (after c g) h) (after c h) ts d in
    elim d'.tree as
    (λ v. tokens (seq (after c g) h ∣ after c h) v ≡ ts → Derives (g ⨾ h) (token_of c leaf ∷ ts)) [
      | inl v ↦ λ e. in_front g h takes_g c leaf ts (record { tree = v; spelled = e })
      | inr w ↦ λ e. past_nothing g h empty (token_of c leaf ∷ ts) (takes_h c leaf ts (record {
        tree = w;
        spelled = e;
      }))
    ] d'.spelled

in_choice : (g h : Ebnf) → TakesOn g → TakesOn h → TakesOn (g ∣ h)
in_choice g h takes_g takes_h c leaf ts d =
    let d' : Derives (after c g ∣ after c h) ts = from_alt (after c g) (after c h) ts d in
    elim d'.tree as (λ v. tokens (after c g ∣ after c h) v ≡ ts → Derives (g ∣ h) (token_of c leaf ∷ ts)) [
      | inl v ↦
          λ e. from_left g h (token_of c leaf ∷ ts) (takes_g c leaf ts (record { tree = v; spelled = e }))
      | inr w ↦
          λ e. from_right g h (token_of c leaf ∷ ts) (takes_h c leaf ts (record { tree = w; spelled = e }))
    ] d'.spelled

many_more : (g : Ebnf) (ts : List Token) → Derives (g ⨾ many g) ts → Derives (many g) ts
many_more g ts d =
    subst (λ (us : List Token). Derives (many g) us) d.spelled
    (with_parts g (many g) (λ us. Derives (many g) us) d.tree
    (λ x y. record { tree = x ∷ y; spelled = refl }))

pub takes_on : (g : Ebnf) → TakesOn g
takes_on never c leaf ts d = absurd d.tree
takes_on nothing c leaf ts d = absurd d.tree
takes_on (one e) c leaf ts d = one_leaf c e (same_class c e) leaf ts refl d
takes_on (g ⨾ h) c leaf ts d = in_sequence g h (is_nullable g) refl (takes_on g) (takes_on h) c leaf ts d
takes_on (g ∣ h) c leaf ts d = in_choice g h (takes_on g) (takes_on h) c leaf ts d
takes_on (many g) c leaf ts d =
    many_more g (token_of c leaf ∷ ts) (in_front g (many g) (takes_on g) c leaf ts d)

-- the same for any token
pub takes_token : (g : Ebnf) (token : Token) (ts : List Token) → Derives (after (class_of token.kind) g) ts
    → Derives g (token ∷ ts)
takes_token g token ts d =
    subst (λ (u : Token). Derives g (u ∷ ts)) (token_of_leaf token)
    (takes_on g (class_of token.kind) (leaf_of token) ts d)
