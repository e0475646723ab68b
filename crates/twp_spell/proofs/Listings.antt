-- Lists of all things with a property: there is only one.
use Rattle.std.proofs.Common.{◌≡◌, ℕ, zero, suc, ◌<◌, ◌⊎◌, List, [], ◌∷◌, ◌++◌, length, refl, sym, ap, ◌∙◌}
use Rattle.std.proofs.Common.{inl, inr, arith}
use Rattle.std.specs.List.{Contains, AllPairs}
use Rattle.std.proofs.Math.ListN.{get_or}
use Rattle.twp_grid.specs.Listing.{AreListed}
use Rattle.twp_grammar.proofs.Membership.{Among, among_contains, contains_among, among_either, among_left}
use Rattle.twp_grammar.proofs.Membership.{among_right}

-- each thing comes before all that come after it in the list
abbrev pub InOrder : {T : Type 0} → (T → T → Type 0) → List T → Type 0
InOrder before [] = Unit {0}
InOrder {T = T} before (first ∷ list) =
    ((thing : T) → Among thing list → before first thing) × InOrder before list

pub among_at : {T : Type 0} (list : List T) (k : ℕ) (d : T) → k < length list → Among (get_or list k d) list
among_at [] k d within = absurd (omega arith)
among_at (first ∷ list) zero d within = inl refl
among_at (first ∷ list) (suc k) d within = inr (among_at list k d (omega arith))

order_step : {T : Type 0} (before : T → T → Type 0) (first : T) (list : List T)
    → ((thing : T) → Among thing list → before first thing) → AllPairs before list
    → (i j : ℕ) (d : T) → i < j → j < length (first ∷ list)
    → before (get_or (first ∷ list) i d) (get_or (first ∷ list) j d)
order_step before first list ahead later i zero d less within = absurd (omega arith)
order_step before first list ahead later zero (suc j) d less within =
    ahead (get_or list j d) (among_at list j d (omega arith))
order_step before first list ahead later (suc i) (suc j) d less within =
    later i j d (omega arith) (omega arith)

pub order_pairs : {T : Type 0} (before : T → T → Type 0) (list : List T) → InOrder before list
    → AllPairs before list
order_pairs before [] order = λ i j d less within. absurd (omega arith)
order_pairs before (first ∷ list) order =
    order_step before first list order.0 (order_pairs before list order.1)

pub pairs_order : {T : Type 0} (before : T → T → Type 0) (list : List T) → AllPairs before list
    → InOrder before list
pairs_order before [] pairs = tt
pairs_order {T = T} before (first ∷ list) pairs = (
  ahead,
  pairs_order before list (λ i j d less within. pairs (suc i) (suc j) d (omega arith) (omega arith)),
)
  where
    ahead : (thing : T) → Among thing list → before first thing
    ahead thing there =
        let found = among_contains thing list there in
        let place = found.1 in
        let is = found.2 in
        let pair : before first (get_or list found.0 thing) =
        pairs 0 (suc found.0) thing (omega arith) (omega arith) in
        rw is at pair

-- if two lists begin with the same thing, the second contains all things of the first: that thing
-- does not come again in the first, so the things that follow it there follow it in the second
after_both : {T : Type 0} (before : T → T → Type 0) → ((x y : T) → before x y → before y x → ⊥) → (x y : T)
    → x ≡ y → (list more : List T)
    → ((z : T) → Among z list → before x z) → ((z : T) → Among z (x ∷ list) → Among z (y ∷ more)) → (z : T)
    → Among z list → Among z more
after_both before apart x y same list more ahead to z there = elim (to z (inr there)) [
  | inl is ↦
      let self : before x z = ahead z there in
      let at : z ≡ x = is ∙ sym same in
      let itself : before x x = rw at at self in
      absurd (apart x x itself itself)
  | inr later ↦ later
]

one_first : {T : Type 0} (before : T → T → Type 0) → ((x y : T) → before x y → before y x → ⊥)
    → (x y : T) (list more : List T)
    → ((z : T) → Among z list → before x z) → ((z : T) → Among z more → before y z) → (x ≡ y) ⊎ Among x more
    → (y ≡ x) ⊎ Among y list → x ≡ y
one_first before apart x y list more ahead ahead' (inl same) other = same
one_first before apart x y list more ahead ahead' (inr later) (inl same) = sym same
one_first before apart x y list more ahead ahead' (inr later) (inr later') =
    absurd (apart x y (ahead y later') (ahead' x later))

-- two ordered lists of the same things are equal
pub same_list : {T : Type 0} (before : T → T → Type 0) → ((x y : T) → before x y → before y x → ⊥)
    → (list more : List T)
    → InOrder before list → InOrder before more → ((x : T) → Among x list → Among x more)
    → ((x : T) → Among x more → Among x list) → list ≡ more
same_list before apart [] [] order order' to from = refl
same_list before apart (first ∷ list) [] order order' to from = absurd (to first (inl refl))
same_list before apart [] (first ∷ more) order order' to from = absurd (from first (inl refl))
same_list before apart (x ∷ list) (y ∷ more) order order' to from =
    let same = one_first before apart x y list more order.0 order'.0 (to x (inl refl)) (from y (inl refl)) in
    ap (λ l. x ∷ l) (same_list before apart list more order.1 order'.1
    (after_both before apart x y same list more order.0 to)
    (after_both before apart y x (sym same) more list order'.0 from))
    ∙ ap (λ z. z ∷ more) same

-- two lists of all things with a property are equal
pub one_listing : {T : Type 0} (has : T → Type 0) (before : T → T → Type 0)
    → ((x y : T) → before x y → before y x → ⊥) → (list more : List T)
    → AreListed has before list → AreListed has before more → list ≡ more
one_listing has before apart list more is is' =
    same_list before apart list more (pairs_order before list is.ordered)
    (pairs_order before more is'.ordered)
    (λ x there. contains_among x more ((is'.listed x).0 ((is.listed x).1 (among_contains x list there))))
    (λ x there. contains_among x list ((is.listed x).0 ((is'.listed x).1 (among_contains x more there))))

-- those candidates that have the property, in order
record Collected {T : Type 0} (has : T → Type 0) (before : T → T → Type 0) (candidates : List T)
    : Type 0 where
  list : List T
  order : InOrder before list
  sound : (x : T) → Among x list → has x
  whole : (x : T) → Among x candidates → has x → Among x list

-- the list with one more thing
record Inserted {T : Type 0} (before : T → T → Type 0) (thing : T) (list : List T) : Type 0 where
  all : List T
  order : InOrder before all
  new : (x : T) → Among x all → (x ≡ thing) ⊎ Among x list
  here : Among thing all
  kept : (x : T) → Among x list → Among x all

-- two things with the property are in an order, or are the same
abbrev pub AreCompared : {T : Type 0} → (T → Type 0) → (T → T → Type 0) → Type 0
AreCompared {T} has before = (x y : T) → has x → has y → before x y ⊎ (x ≡ y) ⊎ before y x

insert_here : {T : Type 0} (before : T → T → Type 0) → ((x y z : T) → before x y → before y z → before x z)
    → (thing first : T) (list : List T)
    → before thing first → InOrder before (first ∷ list) → Inserted before thing (first ∷ list)
insert_here {T = T} before through thing first list less order = record {
  all = thing ∷ first ∷ list;
  order = (ahead_of, order);
  new = λ x there. there;
  here = inl refl;
  kept = λ x there. inr there;
}
  where
    ahead_of : (x : T) → (x ≡ first) ⊎ Among x list → before thing x
    ahead_of x (inl here) = rw here less
    ahead_of x (inr later) = through thing first x less (order.0 x later)

insert_later : {T : Type 0} (before : T → T → Type 0) (thing first : T) (list : List T)
    → before first thing → InOrder before (first ∷ list) → Inserted before thing list
    → Inserted before thing (first ∷ list)
insert_later {T = T} before thing first list more order rest = record {
  all = first ∷ rest.all;
  order = ((λ x there. behind x (rest.new x there)), rest.order);
  new = placed;
  here = inr rest.here;
  kept = still;
}
  where
    behind : (x : T) → (x ≡ thing) ⊎ Among x list → before first x
    behind x (inl same) = rw same more
    behind x (inr later) = order.0 x later

    placed : (x : T) → (x ≡ first) ⊎ Among x rest.all → (x ≡ thing) ⊎ ((x ≡ first) ⊎ Among x list)
    placed x (inl here) = inr (inl here)
    placed x (inr later) = elim (rest.new x later) [ inl same ↦ inl same | inr there ↦ inr (inr there) ]

    still : (x : T) → (x ≡ first) ⊎ Among x list → (x ≡ first) ⊎ Among x rest.all
    still x (inl here) = inl here
    still x (inr later) = inr (rest.kept x later)

insert : {T : Type 0} (has : T → Type 0) (before : T → T → Type 0)
    → ((x y z : T) → before x y → before y z → before x z) → AreCompared has before
    → (thing : T) → has thing → (list : List T) → ((x : T) → Among x list → has x) → InOrder before list
    → Inserted before thing list
insert has before through compare thing it [] sound order = record {
  all = thing ∷ [];
  order = ((λ x there. absurd there), tt);
  new = λ x there. there;
  here = inl refl;
  kept = λ x there. absurd there;
}
insert has before through compare thing it (first ∷ list) sound order =
    elim (compare thing first it (sound first (inl refl))) [
      | inl less ↦ insert_here before through thing first list less order
      | inr others ↦ elim others [
        | inl same ↦ record {
          all = first ∷ list;
          order = order;
          new = λ x there. inr there;
          here = inl same;
          kept = λ x there. there;
        }
        | inr more ↦
            insert_later before thing first list more order
            (insert has before through compare thing it list (λ x there. sound x (inr there)) order.1)
      ]
    ]

without : {T : Type 0} (has : T → Type 0) (before : T → T → Type 0) (first : T) (candidates : List T)
    → ¬ has first → Collected has before candidates → Collected has before (first ∷ candidates)
without {T = T} has before first candidates not rest =
    record { list = rest.list; order = rest.order; sound = rest.sound; whole = whole }
  where
    whole : (x : T) → (x ≡ first) ⊎ Among x candidates → has x → Among x rest.list
    whole x (inl here) it = absurd (not (rw here at it))
    whole x (inr later) it = rest.whole x later it

with_first : {T : Type 0} (has : T → Type 0) (before : T → T → Type 0) (first : T) (candidates : List T)
    → has first → (rest : Collected has before candidates)
    → Inserted before first rest.list → Collected has before (first ∷ candidates)
with_first {T = T} has before first candidates it rest more = record {
  list = more.all;
  order = more.order;
  sound = λ x there. sound x (more.new x there);
  whole = whole;
}
  where
    sound : (x : T) → (x ≡ first) ⊎ Among x rest.list → has x
    sound x (inl same) = rw same it
    sound x (inr there) = rest.sound x there

    whole : (x : T) → (x ≡ first) ⊎ Among x candidates → has x → Among x more.all
    whole x (inl here) has_it = rw here more.here
    whole x (inr later) has_it = more.kept x (rest.whole x later has_it)

collect : {T : Type 0} (has : T → Type 0) (before : T → T → Type 0)
    → ((x y z : T) → before x y → before y z → before x z) → AreCompared has before
    → ((x : T) → has x ⊎ ¬ has x) → (candidates : List T) → Collected has before candidates
collect has before through compare decide [] =
    record { list = []; order = tt; sound = λ x there. absurd there; whole = λ x there it. there }
collect has before through compare decide (first ∷ candidates) =
    let rest = collect has before through compare decide candidates in
    elim (decide first) [
      | inl it ↦
          with_first has before first candidates it rest
          (insert has before through compare first it rest.list rest.sound rest.order)
      | inr not ↦ without has before first candidates not rest
    ]

-- if the candidates are all things that can have a property, there is a list of all things with it
pub has_listing : {T : Type 0} (has : T → Type 0) (before : T → T → Type 0)
    → ((x y z : T) → before x y → before y z → before x z) → AreCompared has before
    → ((x : T) → has x ⊎ ¬ has x) → (candidates : List T) → ((x : T) → has x → Among x candidates)
    → (list : List T) × AreListed has before list
has_listing has before through compare decide candidates complete =
    let found = collect has before through compare decide candidates in (
      found.list,
      record {
        listed = λ x. (
          (λ it. among_contains x found.list (found.whole x (complete x it) it)),
          λ there. found.sound x (contains_among x found.list there),
        );
        ordered = order_pairs before found.list found.order;
      },
    )

-- if one order implies another for the things of a list, a list in the first is in the second
pub other_pairs : {T : Type 0} (before after : T → T → Type 0) (list : List T) → AllPairs before list
    → ((x y : T) → Among x list → Among y list → before x y → after x y) → AllPairs after list
other_pairs before after list pairs follows i j d less within =
    follows (get_or list i d) (get_or list j d) (among_at list i d (omega arith)) (among_at list j d within)
    (pairs i j d less within)

pub order_both : {T : Type 0} (before : T → T → Type 0) (list more : List T) → InOrder before list
    → InOrder before more → ((x y : T) → Among x list → Among y more → before x y)
    → InOrder before (list ++ more)
order_both before [] more order order' across = order'
order_both {T = T} before (first ∷ list) more order order' across =
    (ahead, order_both before list more order.1 order' (λ x y there there'. across x y (inr there) there'))
  where
    ahead : (thing : T) → Among thing (list ++ more) → before first thing
    ahead thing there = elim (among_either thing list more there) [
      | inl here ↦ order.0 thing here
      | inr behind ↦ across first thing (inl refl) behind
    ]

pub listed_both : {T : Type 0} (has has' : T → Type 0) (before : T → T → Type 0) (list more : List T)
    → AreListed has before list → AreListed has' before more
    → ((x y : T) → has x → has' y → before x y) → AreListed (λ x. has x ⊎ has' x) before (list ++ more)
listed_both {T = T} has has' before list more are are' across = record {
  listed = λ x. (to x, from x);
  ordered =
      order_pairs before (list ++ more)
      (order_both before list more (pairs_order before list are.ordered)
      (pairs_order before more are'.ordered)
      (λ x y there there'.
      across x y ((are.listed x).1 (among_contains x list there))
      ((are'.listed y).1 (among_contains y more there'))));
}
  where
    to : (x : T) → has x ⊎ has' x → Contains (list ++ more) x
    to x (inl it) =
        among_contains x (list ++ more) (among_left x list more (contains_among x list ((are.listed x).0 it)))
    to x (inr it) =
        among_contains x (list ++ more)
        (among_right x list more (contains_among x more ((are'.listed x).0 it)))

    from : (x : T) → Contains (list ++ more) x → has x ⊎ has' x
    from x there = elim (among_either x list more (contains_among x (list ++ more) there)) [
      | inl here ↦ inl ((are.listed x).1 (among_contains x list here))
      | inr behind ↦ inr ((are'.listed x).1 (among_contains x more behind))
    ]

-- the same property under another name
pub listed_as : {T : Type 0} (has has' : T → Type 0) (before : T → T → Type 0) (list : List T)
    → ((x : T) → has x → has' x) → ((x : T) → has' x → has x) → AreListed has before list
    → AreListed has' before list
listed_as has has' before list to from are = record {
  listed = λ x. ((λ it. (are.listed x).0 (from x it)), (λ there. to x ((are.listed x).1 there)));
  ordered = are.ordered;
}

pub listed_none : {T : Type 0} (has : T → Type 0) (before : T → T → Type 0) → ((x : T) → ¬ has x)
    → AreListed has before []
listed_none has before none = record {
  listed = λ x. ((λ it. absurd (none x it)), (λ there. let within = there.1 in absurd (omega arith)));
  ordered = λ i j d less within. absurd (omega arith);
}

pub listed_one : {T : Type 0} (has : T → Type 0) (before : T → T → Type 0) (only : T) → has only
    → ((x : T) → has x → x ≡ only) → AreListed has before (only ∷ [])
listed_one has before only it one = record {
  listed = λ x. (
    (λ is. among_contains x (only ∷ []) (inl (one x is))),
    (λ there. elim (contains_among x (only ∷ []) there) [ inl same ↦ rw same it | inr none ↦ absurd none ]),
  );
  ordered = λ i j d less within. absurd (omega arith);
}
