use Rattle.steps.specs.Steps.{Upto}
use Rattle.steps.specs.Answers.{memory_in, task_in, Lent, ReadyAt, Grown}
use Rattle.steps.proofs.workspaces.Workspace.expand.Given as goal

abbrev pub invariant-loop-m : goal.invariant-loop-m
invariant-loop-m g l = record {
  lent : Lent l.fn.self l.self;
  counts : Grown g.S.Store g.Q.Queue l.fn.self l.self;
  granted : ReadyAt g.K.Cost g.S.Store g.Q.Queue l.fn.self l.fn.self → ReadyAt g.K.Cost g.S.Store g.Q.Queue l.fn.self l.self;
  expands : g.Q.Queue.ordered l.fn.self.queue.now → ReadyAt g.K.Cost g.S.Store g.Q.Queue l.fn.self l.fn.self
      → g.Q.Queue.ordered l.self.queue.now × Upto g.K.Cost (task_in l.fn.self) l.fn.self.progress.capacity l.fn.self.node (memory_in g.S.Store g.Q.Queue l.fn.self) l.m (memory_in g.S.Store g.Q.Queue l.self);
}
