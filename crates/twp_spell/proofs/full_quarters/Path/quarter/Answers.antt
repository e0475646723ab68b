-- The quarter's bytes are followed by as many of the path's as there is room for.
use Rattle.std.proofs.Common.{◌∙◌}
use Rattle.twp_spell.proofs.PathFacts.{longer_path}
use Rattle.twp_spell.proofs.full_quarters.Path.quarter.Goals as goal

pub returns : goal.returns
returns c =
    longer_path c.args.corner c.copy_from_slice.new.self _ c.copy_from_slice-2.new.self _ c.self.inside.text
    c.args.self.now c.self.inside.len c.min-len.result
    (c.copy_from_slice.ensures.after ∙ c.quarter_text.ensures) c.copy_from_slice-2.ensures.after c.self.told
    c.self.view_is c.self.invariant c.min-len.ensures
