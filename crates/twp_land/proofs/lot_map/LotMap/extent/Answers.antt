-- Half of a divided position, or both halves.
use Rattle.std.proofs.Common.{◌≡◌, ◌+◌, ◌%◌, refl, arith}
use Rattle.std.proofs.lemmas.Bool.Decides.{nat_tests}
use Rattle.twp_land.proofs.DividedFacts.{half_columns, half_none, position_none}
use Rattle.twp_land.proofs.lot_map.LotMap.extent.Goals as goal

pub returns-then-place-ne0-2-clause-nothing : goal.returns-then-place-ne0-2-clause-nothing
returns-then-place-ne0-2-clause-nothing c is =
    let start : c.args.place % 64 ≡ 32 =
    grind (arith, nat_tests, c.if-place-ne0.false, c.if-place-ne0-2.true) in
    rw start
    (half_none c.args.self.now.divided c.args.position c.in-Some.first 32 (c.in-Some.first + 32) c.args.least
    c.args.most (omega (arith, c.if-position-le-NO_LAND.false)) c.in-Some.ensures.1 refl
    (c.extent_in.ensures.nothing is))

pub returns-then-place-ne0-2-clause-whole : goal.returns-then-place-ne0-2-clause-whole
returns-then-place-ne0-2-clause-whole c is = absurd (c.extent_in.ensures.half is)

pub returns-then-place-ne0-2-clause-empty : goal.returns-then-place-ne0-2-clause-empty
returns-then-place-ne0-2-clause-empty c is = absurd (c.extent_in.ensures.half is)

pub returns-in-Nothing-extent_in-clause-empty : goal.returns-in-Nothing-extent_in-clause-empty
returns-in-Nothing-extent_in-clause-empty c _ =
    position_none c.args.self.now.divided c.args.position c.in-Some.first c.in-Some.first
    (c.in-Some.first + 32)
    c.args.least c.args.most (omega (arith, c.if-position-le-NO_LAND.false)) c.in-Some.ensures.1 refl refl
    (c.in-Nothing.ensures.nothing refl) (c.in-Nothing-extent_in.ensures.nothing refl)

pub returns-in_default-south : goal.returns-in_default-south
returns-in_default-south c =
    let first : c.args.place % 64 ≡ 0 = grind (arith, nat_tests, c.if-place-ne0-2.false) in
    record {
      first = λ _. grind (arith, nat_tests, c.if-place-ne0.false);
      held = λ columns is. rw first
          (half_columns c.args.self.now.divided c.args.position c.in-Some.first 0 c.in-Some.first c.args.least
          c.args.most columns (omega (arith, c.if-position-le-NO_LAND.false)) c.in-Some.ensures.1
          (omega arith)
          (c.extent_in-south.ensures.held columns is));
      nothing = λ is. absurd (c.in_default-south.not-Nothing is);
      whole = λ _. first;
      empty = λ is. absurd (c.extent_in-south.ensures.half is);
    }
