use Rattle.std.proofs.Common.{◌∙◌}
use Rattle.std.proofs.lemmas.List.{set-get_or}
use Rattle.chains.proofs.Ways.{link_reads, written_stored, written_more, written_all}
use Rattle.chains.proofs.write_chain.Goals as goal

pub returns-then-is_root : goal.returns-then-is_root
returns-then-is_root g c = λ moves ns chain le. set-get_or _ _ 0 ∙ written_all c.args.records.now moves ns c.args.out.now (c.loop-cell.invariant moves ns chain le) c.if-is_root.ensures

pub link_at-parent-requires : goal.link_at-parent-requires
link_at-parent-requires g c =
    let p = c.requires in
    written_stored c.args.records.now p.0 p.1 c.args.out.now (c.loop-cell.invariant p.0 p.1 p.2 p.3) c.if-is_root.ensures

pub loop-cell-preserved : goal.loop-cell-preserved
loop-cell-preserved g c = λ moves ns chain le.
    written_more c.args.records.now moves ns c.args.out.now c.link_at-parent.result.1 c.link_at-parent.result.0 (c.loop-cell.invariant moves ns chain le) le c.if-is_root.ensures
    (link_reads c.args.records.now moves c.loop-cell.at c.link_at-parent.result.1 c.link_at-parent.result.0 c.link_at-parent.ensures.step c.link_at-parent.ensures.parent)
