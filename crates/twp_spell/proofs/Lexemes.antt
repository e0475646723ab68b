-- A derivation without the places of its tokens in a text: each token with the white space before
-- it. If each is a token before what follows it, the bytes of the whole have the tokens of the
-- derivation.
use Rattle.std.proofs.Common.{◌⊎◌, ℕ, ◌+◌, List, [], ◌∷◌, ◌++◌, length, refl, sym, ◌∙◌, inl, inr}
use Rattle.std.specs.List.{AllPass}
use Rattle.std.proofs.lemmas.List.{append-nil}
use Rattle.twp_grammar.specs.Tokens.{Token, is_white, IsGoodToken, good, HasTokens}
use Rattle.twp_grammar.specs.Grammar.{Class, Value, kind_of, Ebnf, never, nothing, one, ◌⨾◌, ◌∣◌, many}
use Rattle.twp_grammar.specs.Grammar.{description}
use Rattle.twp_grammar.specs.Items.{Then, ◌&◌, Tree, tokens, items}
use Rattle.twp_grammar.specs.Sentences.{HasItems}
use Rattle.twp_grammar.proofs.TreeFacts.{onto, onto_is}

-- a token that is to be written: white space, and then the bytes of the token
pub record Mark (class : Class) : Type 0 where
  pub space : List ℕ
  pub value : Value class
  pub text : List ℕ

abbrev pub mark : (class : Class) → Value class → List ℕ → List ℕ → Mark class
mark class value space text = record { space = space; value = value; text = text }

-- a derivation without places
abbrev pub Draft : Ebnf → Type 0
Draft never = ⊥
Draft nothing = Unit {0}
Draft (one class) = Mark class
Draft (g ⨾ h) = Then (Draft g) (Draft h)
Draft (g ∣ h) = Draft g ⊎ Draft h
Draft (many g) = List (Draft g)

-- the bytes of drafts, with other bytes after them
abbrev pub bytes_each : {A : Type 0} → (A → List ℕ → List ℕ) → List A → List ℕ → List ℕ
bytes_each f [] rest = rest
bytes_each f (v ∷ vs) rest = f v (bytes_each f vs rest)

abbrev pub bytes : (g : Ebnf) → Draft g → List ℕ → List ℕ
bytes never v rest = rest
bytes nothing v rest = rest
bytes (one class) m rest = m.space ++ (m.text ++ rest)
bytes (g ⨾ h) (v & w) rest = bytes g v (bytes h w rest)
bytes (g ∣ h) (inl v) rest = bytes g v rest
bytes (g ∣ h) (inr w) rest = bytes h w rest
bytes (many g) vs rest = bytes_each (λ v us. bytes g v us) vs rest

-- where a draft ends that begins at a place
abbrev pub end_each : {A : Type 0} → (ℕ → A → ℕ) → ℕ → List A → ℕ
end_each f at [] = at
end_each f at (v ∷ vs) = end_each f (f at v) vs

abbrev pub end_at : (g : Ebnf) → ℕ → Draft g → ℕ
end_at never at v = at
end_at nothing at v = at
end_at (one class) at m = at + length m.space + length m.text
end_at (g ⨾ h) at (v & w) = end_at h (end_at g at v) w
end_at (g ∣ h) at (inl v) = end_at g at v
end_at (g ∣ h) at (inr w) = end_at h at w
end_at (many g) at vs = end_each (λ here v. end_at g here v) at vs

-- the derivation of a draft that begins at a place
abbrev pub placed_each : {A B : Type 0} → (ℕ → A → B) → (ℕ → A → ℕ) → ℕ → List A → List B
placed_each f end at [] = []
placed_each f end at (v ∷ vs) = f at v ∷ placed_each f end (end at v) vs

abbrev pub placed : (g : Ebnf) → ℕ → Draft g → Tree g
placed never at v = v
placed nothing at v = tt
placed (one class) at m = record { value = m.value; text = m.text; at = at + length m.space }
placed (g ⨾ h) at (v & w) = placed g at v & placed h (end_at g at v) w
placed (g ∣ h) at (inl v) = inl (placed g at v)
placed (g ∣ h) at (inr w) = inr (placed h at w)
placed (many g) at vs = placed_each (λ here v. placed g here v) (λ here v. end_at g here v) at vs

-- each token of a draft is one before the bytes that follow it
abbrev pub fit_each : {A : Type 0} → (A → List ℕ → Type 0) → (A → List ℕ → List ℕ) → List A → List ℕ → Type 0
fit_each f spelled [] rest = Unit {0}
fit_each f spelled (v ∷ vs) rest = f v (bytes_each spelled vs rest) × fit_each f spelled vs rest

abbrev pub Fits : (g : Ebnf) → Draft g → List ℕ → Type 0
Fits never v rest = Unit {0}
Fits nothing v rest = Unit {0}
Fits (one class) m rest = AllPass is_white m.space × IsGoodToken m.text rest (kind_of class m.value)
Fits (g ⨾ h) (v & w) rest = Fits g v (bytes h w rest) × Fits h w rest
Fits (g ∣ h) (inl v) rest = Fits g v rest
Fits (g ∣ h) (inr w) rest = Fits h w rest
Fits (many g) vs rest = fit_each (λ v us. Fits g v us) (λ v us. bytes g v us) vs rest

-- the bytes of a draft have its tokens
abbrev TokensOf : (g : Ebnf) → Draft g → Type 0
TokensOf g v = (at : ℕ) (rest : List ℕ) (ts : List Token) → Fits g v rest → HasTokens (end_at g at v) rest ts
    → HasTokens at (bytes g v rest) (onto g (placed g at v) ts)

has_each : (g : Ebnf) → ((v : Draft g) → TokensOf g v) → (vs : List (Draft g)) → TokensOf (many g) vs
has_each g each [] at rest ts fits has = has
has_each g each (v ∷ vs) at rest ts fits has =
    each v at (bytes (many g) vs rest) (onto (many g) (placed (many g) (end_at g at v) vs) ts) fits.0
    (has_each g each vs (end_at g at v) rest ts fits.1 has)

has_tokens : (g : Ebnf) (v : Draft g) → TokensOf g v
has_tokens never v at rest ts fits has = absurd v
has_tokens nothing v at rest ts fits has = has
has_tokens (one class) m at rest ts fits has =
    (rest, record { space = m.space; white = fits.0; spelled = refl; place = refl; is = good fits.1 }, has)
has_tokens (g ⨾ h) (v & w) at rest ts fits has =
    has_tokens g v at (bytes h w rest) (onto h (placed h (end_at g at v) w) ts) fits.0
    (has_tokens h w (end_at g at v) rest ts fits.1 has)
has_tokens (g ∣ h) (inl v) at rest ts fits has = has_tokens g v at rest ts fits has
has_tokens (g ∣ h) (inr w) at rest ts fits has = has_tokens h w at rest ts fits has
has_tokens (many g) vs at rest ts fits has = has_each g (λ v. has_tokens g v) vs at rest ts fits has

-- a drafted description is split into its tokens, which are read as its items
pub record IsDrafted (text : List ℕ) (v : Draft description) : Type 0 where
  pub tokens : List Token
  pub cut : HasTokens 0 text tokens
  pub named : HasItems tokens (items (placed description 0 v))

pub drafted : (v : Draft description) (rest : List ℕ) → Fits description v rest → AllPass is_white rest
    → IsDrafted (bytes description v rest) v
drafted v rest fits white = record {
  tokens = onto description (placed description 0 v) [];
  cut = has_tokens description v 0 rest [] fits white;
  named = record {
    tree = placed description 0 v;
    spelled =
        sym
        (onto_is description (placed description 0 v) []
        ∙ append-nil (tokens description (placed description 0 v)));
    read_off = refl;
  };
}
