-- Tables in the device's memory are new, and have its capacity.
use Rattle.std.proofs.Common.{◌≡◌, ◌/◌, min, true, cond, ◌&&◌, ltb, leb, [], length, ap, ◌∙◌, div-le_self, arith}
use Rattle.std.proofs.lemmas.Bool.{and_parts, and_from}
use Rattle.rows.specs.Rows.{valued, usable}
use Rattle.task.specs.Files.{Bodies, width, counts, positions, task_of}
use Rattle.store.specs.Stores.{space_of}
use Rattle.steps.specs.Memories.{Memory}
use Rattle.steps.specs.Begins.{capacity, New}
use Rattle.device.specs.Answers.{capacity_of}

-- what the reader looked for makes the values table usable
pub read_usable : (b : Bodies) → counts b ≡ true → positions b ≡ true → usable b.values ≡ true
read_usable b c p =
    let cs = and_parts (ltb 0 (width b) && leb (width b) 64) _ c in
    let v = and_parts (valued b.values) _ p in
    and_from (ltb 0 (width b) && leb (width b) 64) (valued b.values) cs.0 v.0

-- tables in memory of these sizes: 4,096 bytes, 1,024 records, 4,097 cells and 1,024 entries
pub record Sized {K : Type 0} (b : Bodies) (m : Memory K) : Type 0 where
  pub bytes : length m.bytes ≡ 4096
  pub records : length m.records ≡ 1024
  pub table : m.table ≡ b.values
  pub kept : m.kept ≡ []
  pub space : m.space ≡ space_of b.values 4096
  pub waiting : m.waiting ≡ []
  pub room : m.room ≡ 1024

pub sized_new : {K : Type 0} (b : Bodies) (m : Memory K) → Sized b m → New (task_of b) m
sized_new b m s = record { kept = s.kept; waiting = s.waiting; table = s.table }

pub sized_capacity : {K : Type 0} (b : Bodies) (m : Memory K) → usable b.values ≡ true → Sized b m → capacity (task_of b) m ≡ capacity_of (width b)
sized_capacity b m u s =
    let few = div-le_self 4096 (width b) in
    let space : m.space ≡ min 65535 (4096 / width b) = s.space ∙ ap (λ t. cond t (min 65535 (4096 / width b)) 0) u in
    let bytes : length m.bytes / width b ≡ 4096 / width b = ap (λ n. n / width b) s.bytes in
    omega (arith, few, space, bytes, s.records, s.room)
