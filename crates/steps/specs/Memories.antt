-- What a job's tables mean, with the number of nodes stored and the last cover.
use Rattle.std.specs.Prelude.{◌≡◌, ℕ, ◌*◌, ◌<◌, List, length, take, drop, Option, slice_index_or}
use Rattle.std.proofs.Math.Seq.{paste}
use Rattle.rows.specs.Rows.{Row}
use Rattle.rows.specs.Tasks.{Task}
use Rattle.store.specs.declared.stores.Store as store
use Rattle.queue.specs.declared.entries.Entry.{Entry}
use Rattle.queue.specs.declared.queues.Queue as queue
use Rattle.steps.specs.declared.tables.Record.{Record}
use Rattle.steps.specs.declared.tables.Tables.{Tables}

pub record Memory (K : Type 0) : Type 0 where
  -- the row bytes and the records, in use or not
  pub bytes : List ℕ
  pub records : List (Record K)
  -- the store: its values table, the rows kept, and its capacity
  pub table : List ℕ
  pub kept : List Row
  pub space : ℕ
  -- the queue: the entries that wait, as a collection, and its capacity
  pub waiting : List (Entry K)
  pub room : ℕ
  -- the nodes stored, and the last cover
  pub stored : ℕ
  pub cover : Option ℕ

abbrev pub memory : {K S Q : Type 0} → store.Ghosts S → queue.Ghosts Q K → Tables K S Q → ℕ → Option ℕ → Memory K
memory s q t n c = record {
  bytes = t.rows.now;
  records = t.records.now;
  table = s.table t.store;
  kept = s.kept t.store;
  space = s.space t.store;
  waiting = q.entries t.queue;
  room = q.room t.queue;
  stored = n;
  cover = c;
}

-- x stands at place n
pub record At {X : Type 0} (xs : List X) (n : ℕ) (x : X) : Type 0 where
  pub below : n < length xs
  pub is : slice_index_or xs n x ≡ x

-- V, the number of variables
abbrev pub width : Task → ℕ
width t = length t.values

-- row n among bytes, at v bytes a row
abbrev pub row_at : ℕ → List ℕ → ℕ → Row
row_at v bytes n = take v (drop (n * v) bytes)

-- bytes with a row written from a place on; the others keep theirs
abbrev pub written : List ℕ → ℕ → Row → List ℕ
written bs at r = paste bs at r (length r)
