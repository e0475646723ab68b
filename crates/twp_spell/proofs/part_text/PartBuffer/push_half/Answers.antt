-- The half comes after the parts so far, and the path after the half.
use Rattle.std.proofs.Common.{◌+◌, ◌++◌, refl, codes, ◌∙◌, arith, append_assoc}
use Rattle.twp_spell.specs.CanonicalText.{step_text}
use Rattle.twp_grammar.specs.declared.item.Step.TheVariants.{Half}
use Rattle.twp_spell.proofs.BufferFacts.{put_after, path_after, known_length, long_half_step}
use Rattle.twp_spell.proofs.part_text.PartBuffer.push_half.Goals as goal
use borrow.Rule.Slice.PartMut.{same_len_mid}

pub returns-clause-text : goal.returns-clause-text
returns-clause-text c =
    let step = codes ", " ++ step_text (Half c.args.side) in
    let room =
    same_len_mid c.self.inside.len _ c.self.inside.bytes c.copy_from_slice.new.self
    c.copy_from_slice.ensures.len in
    let known =
    known_length c.self.inside.bytes c.args.self.now c.self.inside.len c.self.view_is
    (omega (arith, c.self.told, c.self.invariant)) in
    let first =
    put_after c.self.inside.bytes c.copy_from_slice.new.self step c.args.self.now c.self.inside.len 6 _
    c.self.view_is (omega (arith, c.self.told, c.self.invariant))
    (c.copy_from_slice.ensures.after ∙ c.half_step.ensures) (long_half_step c.args.side) in
    path_after _ c.copy_from_slice-2.new.self c.args.path.now (c.args.self.now ++ step)
    (c.self.inside.len + 6) c.len.result _ _ first (omega (arith, room, c.self.told, known, c.requires))
    (rw (c.len.ensures.value, c.copy_from_slice-2.ensures.after) c.bytes.ensures)
    (omega (arith, c.len.ensures.most)) refl
    ∙ append_assoc c.args.self.now step c.args.path.now
