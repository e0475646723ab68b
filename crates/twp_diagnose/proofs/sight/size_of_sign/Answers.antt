use Rattle.std.proofs.Common.{rules, sym, subst}
use Rattle.twp_grammar.specs.Tokens.{seen}
use Rattle.twp_diagnose.specs.Sights.{TakesSign}
use Rattle.twp_diagnose.proofs.SignFacts.{begins_them, token_takes, byte_takes}
use Rattle.twp_diagnose.proofs.sight.size_of_sign.Goals as goal

pub returns-then-is_bad_byte-clause-dark : goal.returns-then-is_bad_byte-clause-dark
returns-then-is_bad_byte-clause-dark c white =
    let begins =
    begins_them c.args.bytes.now c.new.result c.next.new.self c.in-Some.token c.new.ensures
    c.in-Some.ensures.steps in
    absurd (begins.has.dark white)

pub returns-then-is_bad_byte-clause-sign : goal.returns-then-is_bad_byte-clause-sign
returns-then-is_bad_byte-clause-sign c =
    let begins =
    begins_them c.args.bytes.now c.new.result c.next.new.self c.in-Some.token c.new.ensures
    c.in-Some.ensures.steps in
    subst (TakesSign c.args.bytes.now) (sym c.first_size.ensures.value)
    (byte_takes c.args.bytes.now (seen c.in-Some.token) begins (search rules))

pub returns-clause-within : goal.returns-clause-within
returns-clause-within c =
    let begins =
    begins_them c.args.bytes.now c.new.result c.next.new.self c.in-Some.token c.new.ensures
    c.in-Some.ensures.steps in
    begins.fits

pub returns-clause-dark : goal.returns-clause-dark
returns-clause-dark c white =
    let begins =
    begins_them c.args.bytes.now c.new.result c.next.new.self c.in-Some.token c.new.ensures
    c.in-Some.ensures.steps in
    absurd (begins.has.dark white)

pub returns-clause-sign : goal.returns-clause-sign
returns-clause-sign c =
    let begins =
    begins_them c.args.bytes.now c.new.result c.next.new.self c.in-Some.token c.new.ensures
    c.in-Some.ensures.steps in
    token_takes c.args.bytes.now (seen c.in-Some.token) begins (search rules)
