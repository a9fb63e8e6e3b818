use Rattle.std.proofs.Common.{sym, arith}
use Rattle.chains.proofs.Chains.{follow_links, follow_breaks}
use Rattle.chains.proofs.follow.Goals as goal

pub returns-then-is_link : goal.returns-then-is_link
returns-then-is_link g c = follow_links c.args.records.now c.args.moves c.args.node c.link_at-parent.result.0 c.link_at-parent.result.1 c.requires (omega arith) c.link_at-parent.ensures.parent c.link_at-parent.ensures.step (sym c.if-is_link.ensures)

pub returns-else-is_link : goal.returns-else-is_link
returns-else-is_link g c = follow_breaks c.args.records.now c.args.moves c.args.node c.link_at-parent.result.0 c.link_at-parent.result.1 c.link_at-parent.ensures.parent c.link_at-parent.ensures.step (sym c.if-is_link.ensures)
