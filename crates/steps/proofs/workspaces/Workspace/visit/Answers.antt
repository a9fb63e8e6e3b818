use Rattle.std.proofs.Common.{length, sym, ap, ◌∙◌, subst}
use Rattle.rows.specs.Rows.{covers}
use Rattle.store.specs.Stores.{CoverAt, Uncovered}
use Rattle.uniform.specs.Steps.{skipped}
use Rattle.steps.specs.Steps.{Visit, Upto, skips, finds, expands, Kept}
use Rattle.steps.specs.Answers.{memory_in, task_in}
use Rattle.steps.proofs.Moves.{found_some, found_none}
use Rattle.steps.proofs.Readies.{keep_granted, ready_next, visits_stop}
use Rattle.steps.proofs.Additions.{granted_err, lent_at}
use Rattle.steps.proofs.workspaces.Workspace.visit.Goals as goal

pub returns-in-Some-clause-visits : goal.returns-in-Some-clause-visits
returns-in-Some-clause-visits g c = λ o sd.
    let w = c.args.self.now in (
      subst g.Q.Queue.ordered (sym c.answer.ensures.tables.1) o,
      subst (λ z. Visit g.K.Cost (task_in w) w.progress.capacity w.node (memory_in g.S.Store g.Q.Queue w) skipped z) (sym c.answer.ensures.answered)
          (skips (subst (λ z. CoverAt (g.S.Store.kept w.store.now) z c.in-Some.rank) c.fetch.ensures (found_some c.in-Some.is c.in_ok-rank.ensures.1))),
    )

pub returns-then-agrees-clause-visits : goal.returns-then-agrees-clause-visits
returns-then-agrees-clause-visits g c = λ o sd.
    let w = c.args.self.now in
    (o, finds (subst (λ z. Uncovered (g.S.Store.kept w.store.now) z) c.fetch.ensures (found_none c.in_default.is c.in_ok-rank.ensures.1)) (ap (λ z. covers z (task_in w).start) (sym c.fetch.ensures) ∙ sym c.if-agrees.ensures))

pub returns-in_err-keep-clause-granted : goal.returns-in_err-keep-clause-granted
returns-in_err-keep-clause-granted g c = λ sd.
    absurd (keep_granted g.K.Cost g.S.Store g.Q.Queue c.args.self.now c.keep.new.self _ c.in_err-keep.field-0.0 c.in_ok-rank.ensures.0 (found_none c.in_default.is c.in_ok-rank.ensures.1) c.in_err-keep.ensures.answer sd)

pub returns-in_err-keep-clause-visits : goal.returns-in_err-keep-clause-visits
returns-in_err-keep-clause-visits g c = λ o sd.
    absurd (keep_granted g.K.Cost g.S.Store g.Q.Queue c.args.self.now c.keep.new.self _ c.in_err-keep.field-0.0 c.in_ok-rank.ensures.0 (found_none c.in_default.is c.in_ok-rank.ensures.1) c.in_err-keep.ensures.answer sd)

pub returns-in_err-expand-clause-granted : goal.returns-in_err-expand-clause-granted
returns-in_err-expand-clause-granted g c = λ sd.
    granted_err (Unit {0}) _ _ _ c.from_residual-in_err-expand.ensures.1
    (c.in_err-expand.ensures.granted (ready_next g.K.Cost g.S.Store g.Q.Queue c.args.self.now c.keep.new.self _ c.in_ok-keep.ensures sd))

pub returns-in_err-expand-clause-visits : goal.returns-in_err-expand-clause-visits
returns-in_err-expand-clause-visits g c = λ o sd.
    let w = c.args.self.now in
    let mid = c.keep.new.self in
    let k = c.in_ok-keep.ensures in
    visits_stop g.K.Cost g.S.Store g.Q.Queue w mid c.expand.new.self _ _ c.from_residual-in_err-expand.ensures.1 k.lent
    (subst (λ z. Uncovered (g.S.Store.kept w.store.now) z) c.fetch.ensures (found_none c.in_default.is c.in_ok-rank.ensures.1))
    (ap (λ z. covers z (task_in w).start) (sym c.fetch.ensures) ∙ sym c.if-agrees.ensures)
    (subst (λ z. Kept g.K.Cost (task_in w) z (memory_in g.S.Store g.Q.Queue w) (memory_in g.S.Store g.Q.Queue mid)) c.fetch.ensures k.answer)
    (c.in_err-expand.ensures.expands (subst g.Q.Queue.ordered (sym k.queue) o) (ready_next g.K.Cost g.S.Store g.Q.Queue w mid _ k sd))

pub returns-clause-visits : goal.returns-clause-visits
returns-clause-visits g c = λ o sd.
    let w = c.args.self.now in
    let mid = c.keep.new.self in
    let k = c.in_ok-keep.ensures in
    let h = c.in_ok-expand.ensures.expands (subst g.Q.Queue.ordered (sym k.queue) o) (ready_next g.K.Cost g.S.Store g.Q.Queue w mid _ k sd) in (
      h.0,
      expands (subst (λ z. Uncovered (g.S.Store.kept w.store.now) z) c.fetch.ensures (found_none c.in_default.is c.in_ok-rank.ensures.1))
          (ap (λ z. covers z (task_in w).start) (sym c.fetch.ensures) ∙ sym c.if-agrees.ensures)
          (subst (λ z. Kept g.K.Cost (task_in w) z (memory_in g.S.Store g.Q.Queue w) (memory_in g.S.Store g.Q.Queue mid)) c.fetch.ensures k.answer)
          (lent_at w mid (λ task cap n. Upto g.K.Cost task cap n (memory_in g.S.Store g.Q.Queue mid) (length task.moves) (memory_in g.S.Store g.Q.Queue c.expand.new.self)) k.lent h.1),
    )
