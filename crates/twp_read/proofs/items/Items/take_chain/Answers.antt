use Rattle.std.proofs.Common.{sym}
use Rattle.twp_read.proofs.items.Items.take_chain.Goals as goal

pub returns : goal.returns
returns c = rw (sym c.in_ok-push_chain.ensures) (rw c.after_chain_step.ensures at c.take_more.ensures)
