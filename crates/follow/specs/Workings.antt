-- What opening and working make of tables, said of the run that they hold.
use Rattle.std.specs.Prelude.{ℕ, ◌+◌, ◌<◌}
use Rattle.rows.specs.Tasks.{Task, Accepted}
use Rattle.cost.specs.declared.costs.Cost as cost
use Rattle.planning.specs.Regressions.{regression}
use Rattle.uniform.specs.Runs.{Run, opened}
use Rattle.uniform.specs.Steps.{Outcome, After}
use Rattle.uniform.specs.Steps as run
use Rattle.steps.specs.Memories.{Memory}
use Rattle.steps.specs.Turns.{Standing, Intact, Known, Goes, Ends}
use Rattle.steps.specs.Holdings.{Held, Ample}
use Rattle.steps.specs.Begins.{capacity, New, Began}

module _ {K : Type 0} (C : cost.Ghosts K) (task : Task) where
  -- tables that were new and in which a job began hold a run as it is opened, with space for as many nodes as their capacity says
  abbrev pub OpensHold : Type 0
  OpensHold = (s t : Memory K) → Accepted task → New task s → 0 < capacity task s → Began C task s t
      → Held C task t (opened C.arithmetic (regression task)) × Ample C task (capacity task s) t

  -- the tables of a job, which knows how full they are, hold a run that goes on after so many steps
  pub record Follows (cap i : ℕ) (h : Standing K) (r : Run C.arithmetic (regression task)) : Type 0 where
    pub after : After C.arithmetic (regression task) cap i r
    pub held : Held C task h.memory r
    pub ample : Ample C task cap h.memory
    pub known : Known C task cap h

  -- such tables are not torn. Steps that are not the last lead to such tables, after so many more steps; and where the last step
  -- ends the work, it ends the run in the same way, and the tables hold what it leads to
  pub record WorksAlike : Type 0 where
    pub intact : (cap i : ℕ) (h : Standing K) (r : Run C.arithmetic (regression task)) → Accepted task → Follows cap i h r → Intact C task cap h
    pub goes : (cap i n : ℕ) (h g : Standing K) (r : Run C.arithmetic (regression task)) → Accepted task → Follows cap i h r → Goes C task cap h n g
        → (q : Run C.arithmetic (regression task)) × Follows cap (i + n) g q
    pub ends : (cap i n : ℕ) (h : Standing K) (o : Outcome) (t : Memory K) (r : Run C.arithmetic (regression task)) → Accepted task → Follows cap i h r → Ends C task cap h n o t
        → (q : Run C.arithmetic (regression task)) × run.Ends C.arithmetic (regression task) cap (i + n) o q × Held C task t q × Ample C task cap t
