-- Trees of a derivative, and the trees that they give with the token before them again.
use Rattle.std.proofs.Common.{◌≡◌, Bool, true, false, cond, ◌⊎◌, ◌∷◌, ◌++◌, refl, sym, ap, ◌∙◌, inl, inr}
use Rattle.std.proofs.Common.{append_assoc}
use Rattle.twp_grid.specs.declared.township.NorthSouth.TheVariants as ns
use Rattle.twp_grid.specs.declared.township.EastWest.TheVariants as ew
use Rattle.twp_grid.specs.declared.block.Corner.TheVariants as which
use Rattle.twp_grammar.specs.declared.tokens.Kind.{Kind}
use Rattle.twp_grammar.specs.declared.tokens.Kind.TheVariants as kind
use Rattle.twp_grammar.specs.Tokens.{Token}
use Rattle.twp_grammar.specs.Grammar.{Class, sec, lot, all, and, to, inclusive, of, the, t, r, north_south}
use Rattle.twp_grammar.specs.Grammar.{east_west, corner, half, quarter, number, comma, semicolon, colon, stop}
use Rattle.twp_grammar.specs.Grammar.{other, bad_number, bad_byte, Value, class_of, Ebnf, never, nothing, one}
use Rattle.twp_grammar.specs.Grammar.{◌⨾◌, ◌∣◌, many}
use Rattle.twp_grammar.specs.Items.{Leaf, Then, ◌&◌, Tree, tokens}
use Rattle.twp_grammar.proofs.Derivatives.{is_nullable, seq, alt, after, derives_none}

-- the value of a token of the class
abbrev value_at : (c : Class) → Kind → Value c
value_at sec k = tt
value_at lot k = tt
value_at all k = tt
value_at and k = tt
value_at to k = tt
value_at inclusive k = tt
value_at of k = tt
value_at the k = tt
value_at t k = tt
value_at r k = tt
value_at north_south (kind.NorthSouth side) = side
value_at north_south _ = ns.N
value_at east_west (kind.EastWest side) = side
value_at east_west _ = ew.E
value_at corner (kind.Corner named) = named
value_at corner _ = which.NE
value_at half k = tt
value_at quarter k = tt
value_at number (kind.Number value) = value
value_at number _ = 0
value_at comma k = tt
value_at semicolon k = tt
value_at colon k = tt
value_at stop k = tt
value_at other k = tt
value_at bad_number k = tt
value_at bad_byte k = tt

abbrev leaf_at : (c : Class) → Token → Leaf c
leaf_at c token = record { value = value_at c token.kind; text = token.text; at = token.at }

-- trees of one grammar represent those of another: each comes from one with the same tokens
pub record StandFor (g h : Ebnf) : Type 0 where
  pub into : Tree g → Tree h
  pub out : Tree h → Tree g
  pub back : (v : Tree h) → into (out v) ≡ v
  pub spelled : (v : Tree h) → tokens g (out v) ≡ tokens h v

themselves : (g : Ebnf) → StandFor g g
themselves g = record { into = λ v. v; out = λ v. v; back = λ v. refl; spelled = λ v. refl }

-- an alternative in which one grammar has no trees
abbrev only_left : (g : Ebnf) → Tree (g ∣ never) → Tree g
only_left g (inl v) = v
only_left g (inr none) = absurd none

only_left_back : (g : Ebnf) (v : Tree (g ∣ never)) → inl (only_left g v) ≡ v
only_left_back g (inl v) = refl
only_left_back g (inr none) = absurd none

only_left_spelled : (g : Ebnf) (v : Tree (g ∣ never)) → tokens g (only_left g v) ≡ tokens (g ∣ never) v
only_left_spelled g (inl v) = refl
only_left_spelled g (inr none) = absurd none

abbrev only_right : (h : Ebnf) → Tree (never ∣ h) → Tree h
only_right h (inl none) = absurd none
only_right h (inr w) = w

only_right_back : (h : Ebnf) (v : Tree (never ∣ h)) → inr (only_right h v) ≡ v
only_right_back h (inl none) = absurd none
only_right_back h (inr w) = refl

only_right_spelled : (h : Ebnf) (v : Tree (never ∣ h)) → tokens h (only_right h v) ≡ tokens (never ∣ h) v
only_right_spelled h (inl none) = absurd none
only_right_spelled h (inr w) = refl

alone_left : (g : Ebnf) → StandFor g (g ∣ never)
alone_left g =
    record { into = λ v. inl v; out = only_left g; back = only_left_back g; spelled = only_left_spelled g }

alone_right : (h : Ebnf) → StandFor h (never ∣ h)
alone_right h =
    record { into = λ w. inr w; out = only_right h; back = only_right_back h; spelled = only_right_spelled h }

pub alternatives : (g h : Ebnf) → StandFor (alt g h) (g ∣ h)
alternatives never h = alone_right h
alternatives g never = alone_left g
alternatives g h = themselves (g ∣ h)

-- a sequence in which the first grammar has no trees, or no tokens
abbrev after_never : (k : Ebnf) → Tree (never ⨾ k) → ⊥
after_never k (none & w) = none

abbrev after_nothing : (k : Ebnf) → Tree (nothing ⨾ k) → Tree k
after_nothing k (_ & w) = w

after_nothing_back : (k : Ebnf) (v : Tree (nothing ⨾ k)) → tt & after_nothing k v ≡ v
after_nothing_back k (_ & w) = refl

after_nothing_spelled : (k : Ebnf) (v : Tree (nothing ⨾ k))
    → tokens k (after_nothing k v) ≡ tokens (nothing ⨾ k) v
after_nothing_spelled k (_ & w) = refl

-- two and one more, regrouped as one and two more
abbrev with_two : (g h k : Ebnf) → Tree g → Tree (h ⨾ k) → Tree ((g ⨾ h) ⨾ k)
with_two g h k x (y & z) = (x & y) & z

abbrev grouped : (g h k : Ebnf) (stand : StandFor (seq h k) (h ⨾ k)) → Tree (g ⨾ seq h k) → Tree ((g ⨾ h) ⨾ k)
grouped g h k stand (x & u) = with_two g h k x (stand.into u)

abbrev apart : (g h k : Ebnf) (stand : StandFor (seq h k) (h ⨾ k)) → Tree ((g ⨾ h) ⨾ k)
    → Tree (g ⨾ seq h k)
apart g h k stand ((x & y) & z) = x & stand.out (y & z)

grouped_apart : (g h k : Ebnf) (stand : StandFor (seq h k) (h ⨾ k)) (v : Tree ((g ⨾ h) ⨾ k))
    → grouped g h k stand (apart g h k stand v) ≡ v
grouped_apart g h k stand ((x & y) & z) = ap (with_two g h k x) (stand.back (y & z))

apart_spelled : (g h k : Ebnf) (stand : StandFor (seq h k) (h ⨾ k)) (v : Tree ((g ⨾ h) ⨾ k))
    → tokens (g ⨾ seq h k) (apart g h k stand v) ≡ tokens ((g ⨾ h) ⨾ k) v
apart_spelled g h k stand ((x & y) & z) =
    ap (λ us. tokens g x ++ us) (stand.spelled (y & z))
    ∙ sym (append_assoc (tokens g x) (tokens h y) (tokens k z))

pub sequences : (g k : Ebnf) → StandFor (seq g k) (g ⨾ k)
sequences never k = record {
  into = λ none. absurd none;
  out = after_never k;
  back = λ v. absurd (after_never k v);
  spelled = λ v. absurd (after_never k v);
}
sequences nothing k = record {
  into = λ w. tt & w;
  out = after_nothing k;
  back = after_nothing_back k;
  spelled = after_nothing_spelled k;
}
sequences (g ⨾ h) k =
    let stand : StandFor (seq h k) (h ⨾ k) = sequences h k in
    record {
      into = grouped g h k stand;
      out = apart g h k stand;
      back = grouped_apart g h k stand;
      spelled = apart_spelled g h k stand;
    }
sequences g k = themselves (g ⨾ k)

-- the derivative by a token, and a derivation in it with the token before it again
abbrev pub either : {A B C : Type 0} → (A → C) → (B → C) → A ⊎ B → C
either f g (inl x) = f x
either f g (inr y) = g y

abbrev pub by_either : (g h k : Ebnf) → (Tree g → Tree k) → (Tree h → Tree k) → Tree (alt g h) → Tree k
by_either g h k f f' u = either f f' ((alternatives g h).into u)

abbrev pub join : {A B C : Type 0} → (A → B → C) → Then A B → C
join f (x & y) = f x y

abbrev pub by_both : (g h k : Ebnf) → (Tree g → Tree h → Tree k) → Tree (seq g h) → Tree k
by_both g h k f u = join f ((sequences g h).into u)

abbrev pub past : Token → Ebnf → Ebnf
past token g = after (class_of token.kind) g

-- the derivative of a sequence whose first part may be empty
abbrev pub past_first : Token → Ebnf → Ebnf → Ebnf
past_first token g h = seq (past token g) h

abbrev pub past_sequence : Token → Ebnf → Ebnf → Bool → Ebnf
past_sequence token g h b = cond b (alt (past_first token g h) (past token h)) (past_first token g h)

abbrev pub in_front : (token : Token) (g h : Ebnf) → (Tree (past token g) → Tree g)
    → Tree (past_first token g h)
    → Tree (g ⨾ h)
in_front token g h put_g = by_both (past token g) h (g ⨾ h) (λ x y. put_g x & y)

abbrev pub with_none : (g h : Ebnf) → is_nullable g ≡ true → Tree h → Tree (g ⨾ h)
with_none g h empty w = (derives_none g empty).tree & w

abbrev pub in_sequence : (token : Token) (g h : Ebnf) (b : Bool) → is_nullable g ≡ b
    → (Tree (past token g) → Tree g) → (Tree (past token h) → Tree h) → Tree (past_sequence token g h b)
    → Tree (g ⨾ h)
in_sequence token g h false empty put_g put_h = in_front token g h put_g
in_sequence token g h true empty put_g put_h =
    by_either (past_first token g h) (past token h) (g ⨾ h) (in_front token g h put_g)
    (λ w. with_none g h empty (put_h w))

abbrev pub put : (token : Token) (g : Ebnf) → Tree (past token g) → Tree g
put token never none = absurd none
put token nothing none = absurd none
put token (one c) _ = leaf_at c token
put token (g ⨾ h) u = in_sequence token g h (is_nullable g) refl (put token g) (put token h) u
put token (g ∣ h) u =
    by_either (past token g) (past token h) (g ∣ h) (λ x. inl (put token g x)) (λ y. inr (put token h y)) u
put token (many g) u = by_both (past token g) (many g) (many g) (λ x xs. put token g x ∷ xs) u
