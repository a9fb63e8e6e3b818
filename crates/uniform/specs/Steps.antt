-- What one step does to a run of some capacity, and the runs that steps lead to. Nothing is left open but the rank of a cover.
use Rattle.std.specs.Prelude.{◌≡◌, ℕ, ◌+◌, ◌<◌, ◌≤◌, Bool, true, false, [], length, Some, None}
use Rattle.cost.specs.Costs.{Arithmetic}
use Rattle.planning.specs.Spaces.{Space}
use Rattle.uniform.specs.Runs.{Node, Run, opened, CoverAt, Uncovered, Least, answered, taken, keeping, storing, child}

-- how a step went: a kept row covered the node's row; or its row was kept and all its moves tried; or the run ended
pub data Outcome : Type 0 where
  skipped : Outcome
  expanded : Outcome
  found : ℕ → Outcome
  no_plan : Outcome
  out_of_space : Outcome

-- the run goes on
abbrev pub going : Outcome → Bool
going skipped = true
going expanded = true
going (found n) = false
going no_plan = false
going out_of_space = false

module _ (a : Arithmetic) (p : Space) (cap : ℕ) where
  -- move m is tried at node n, x: its row is not taken back, or to a row that a kept one covers, or to one that is stored
  pub data One (n : ℕ) (x : Node a p) (m : ℕ) (s : Run a p) : Run a p → Type 0 where
    unmoved : p.back m x.row ≡ None → One n x m s s
    covered : {r : p.Row} {rank : ℕ} → p.back m x.row ≡ Some r → CoverAt a p s.kept r rank → One n x m s (answered a p s rank)
    stored : {r : p.Row} → p.back m x.row ≡ Some r → Uncovered a p s.kept r → length s.nodes < cap → One n x m s (storing a p s (child a p n x m r))

  -- the moves below m are tried, in order
  pub data Upto (n : ℕ) (x : Node a p) (s : Run a p) : ℕ → Run a p → Type 0 where
    none : Upto n x s 0 s
    more : {m : ℕ} {t u : Run a p} → Upto n x s m t → One n x m t u → Upto n x s (m + 1) u

  -- move m takes the row back to one that no kept row covers, and as many nodes as there may be are stored
  pub record Crowded (x : Node a p) (m : ℕ) (s : Run a p) : Type 0 where
    pub row : p.Row
    pub result : p.back m x.row ≡ Some row
    pub uncovered : Uncovered a p s.kept row
    pub full : cap ≤ length s.nodes

  pub data Step (s : Run a p) : Outcome → Run a p → Type 0 where
    -- nothing waits
    ends : s.waiting ≡ [] → Step s no_plan s
    -- the least node that waits is taken: a kept row covers its row
    skips : {n : ℕ} {x : Node a p} {rank : ℕ} → Least a p s n x → CoverAt a p s.kept x.row rank → Step s skipped (answered a p (taken a p s n) rank)
    -- or its row holds where a plan may begin
    finds : {n : ℕ} {x : Node a p} → Least a p s n x → Uncovered a p s.kept x.row → p.meets x.row ≡ true → Step s (found n) (taken a p s n)
    -- or its row is kept, and every move is tried
    expands : {n : ℕ} {x : Node a p} {t : Run a p} → Least a p s n x → Uncovered a p s.kept x.row → p.meets x.row ≡ false
        → Upto n x (keeping a p (taken a p s n) x.row) p.moves t → Step s expanded t
    -- or a move finds no space
    crowds : {n m : ℕ} {x : Node a p} {t : Run a p} → Least a p s n x → Uncovered a p s.kept x.row → p.meets x.row ≡ false
        → Upto n x (keeping a p (taken a p s n) x.row) m t → m < p.moves → Crowded x m t → Step s out_of_space t

  -- a run that was opened, with space for node 0, and still goes on after so many steps
  pub data After : ℕ → Run a p → Type 0 where
    opening : 0 < cap → After 0 (opened a p)
    onward : {i : ℕ} {o : Outcome} {s t : Run a p} → After i s → going o ≡ true → Step s o t → After (i + 1) t

  -- a run that ends in step i, and how
  pub record Ends (i : ℕ) (o : Outcome) (t : Run a p) : Type 0 where
    pub before : ℕ
    pub last : Run a p
    pub after : After before last
    pub step : Step last o t
    pub ended : going o ≡ false
    pub count : i ≡ before + 1
