-- The quarter comes after the parts so far, then the outer one, and then the path.
use Rattle.std.proofs.Common.{◌+◌, ◌++◌, refl, codes, ◌∙◌, arith, append_assoc}
use Rattle.twp_spell.specs.CanonicalText.{step_text}
use Rattle.twp_grammar.specs.declared.item.Step.TheVariants.{Quarter}
use Rattle.twp_spell.proofs.PathFacts.{long_quarter}
use Rattle.twp_spell.proofs.BufferFacts.{put_after, path_after, known_length, long_quarter_step}
use Rattle.twp_spell.proofs.part_text.PartBuffer.push_inner.Goals as goal
use borrow.Rule.Slice.PartMut.{same_len_mid}

pub returns-clause-text : goal.returns-clause-text
returns-clause-text c =
    let step = codes ", " ++ step_text (Quarter c.args.corner) in
    let outer = step_text (Quarter c.args.outer) in
    let room =
    same_len_mid c.self.inside.len _ c.self.inside.bytes c.copy_from_slice.new.self
    c.copy_from_slice.ensures.len in
    let room' =
    same_len_mid (c.self.inside.len + 7) _ _ c.copy_from_slice-2.new.self c.copy_from_slice-2.ensures.len in
    let known =
    known_length c.self.inside.bytes c.args.self.now c.self.inside.len c.self.view_is
    (omega (arith, c.self.told, c.self.invariant)) in
    let first =
    put_after c.self.inside.bytes c.copy_from_slice.new.self step c.args.self.now c.self.inside.len 7 _
    c.self.view_is (omega (arith, c.self.told, c.self.invariant))
    (c.copy_from_slice.ensures.after ∙ c.quarter_step.ensures) (long_quarter_step c.args.corner) in
    let second =
    put_after _ c.copy_from_slice-2.new.self outer (c.args.self.now ++ step) (c.self.inside.len + 7) 5 _
    first (omega (arith, room, c.self.told, known, c.requires))
    (c.copy_from_slice-2.ensures.after ∙ c.quarter_text.ensures) (long_quarter c.args.outer) in
    path_after _ c.copy_from_slice-3.new.self c.args.path.now ((c.args.self.now ++ step) ++ outer)
    (c.self.inside.len + 7 + 5) c.len.result _ _ second
    (omega (arith, room, room', c.self.told, known, c.requires))
    (rw (c.len.ensures.value, c.copy_from_slice-3.ensures.after) c.bytes.ensures)
    (omega (arith, c.len.ensures.most)) refl
    ∙ append_assoc (c.args.self.now ++ step) outer c.args.path.now
    ∙ append_assoc c.args.self.now step (outer ++ c.args.path.now)
