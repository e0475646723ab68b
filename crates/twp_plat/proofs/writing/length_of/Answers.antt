-- The text is read as the length.
use Rattle.std.proofs.Common.{◌≡◌, ◌∙◌, Ok, refl, sym}
use Rattle.twp_plat.proofs.PlatNoteFacts.{is_text_of}
use Rattle.twp_plat.proofs.writing.length_of.Goals as goal

pub unwrap-requires : goal.unwrap-requires
unwrap-requires c =
    let read : c.read.result ≡ Ok c.args.thousandths =
    c.read.ensures.taken c.args.thousandths
    (is_text_of c.args.thousandths _ _ _ _ _ c.requires c.digit.ensures c.digit-2.ensures c.digit-3.ensures
    c.digit-4.ensures c.digit-5.ensures) in
    rw read refl

pub returns : goal.returns
returns c =
    let read : c.read.result ≡ Ok c.args.thousandths =
    c.read.ensures.taken c.args.thousandths
    (is_text_of c.args.thousandths _ _ _ _ _ c.requires c.digit.ensures c.digit-2.ensures c.digit-3.ensures
    c.digit-4.ensures c.digit-5.ensures) in
    cc (sym c.unwrap.ensures ∙ read)
