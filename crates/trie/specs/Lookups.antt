-- What the two lookups of a trie, and the way down to a row, ask and answer.
use Rattle.std.specs.Prelude.{◌≡◌, ℕ, ◌+◌, ◌-◌, ◌<◌, ◌≤◌, true, List, length, Some, None, Option, ◌≢◌, slice_index}
use Rattle.rows.specs.Rows.{Row, covers, covers_at}
use Rattle.trie.specs.declared.cells.Cell.{Cell}
use Rattle.trie.specs.Cells.{at, up, parent_of, depth_of, leaf_of, kept_row}

-- the first n bytes on the way to c, which lies in the level l, cover those of the row
abbrev pub Led : List Cell → Row → ℕ → ℕ → ℕ → Type 0
Led cells row l n c = (v : ℕ) → v < n → covers_at (at cells (up cells (l - (v + 1)) c)).byte (slice_index row v) ≡ true

-- a lookup may look into the cell c, which lies in the level `level`
pub record Looks (values row : List ℕ) (cells : List Cell) (used count c level : ℕ) : Type 0 where
  pub wide : length row ≡ length values
  pub some : 0 < count
  pub within : c < used
  pub here : depth_of cells c ≡ level
  pub led : Led cells row level level c

-- a lookup may go along the branches from b on, which lie one level below `level`
pub record Goes (values row : List ℕ) (cells : List Cell) (used count b level : ℕ) : Type 0 where
  pub wide : length row ≡ length values
  pub some : 0 < count
  pub within : b < used
  pub shallow : level < length values
  pub here : 0 < b → depth_of cells b ≡ level + 1
  pub led : 0 < b → Led cells row (level + 1) level b

-- what is answered of the kept rows that go by the cell c
abbrev pub Looked : List ℕ → Row → List Cell → ℕ → ℕ → ℕ → ℕ → Option ℕ → Type 0
Looked values row cells used count c level (Some k) = (k < count) × (covers (kept_row (length values) cells used k) row ≡ true)
Looked values row cells used count c level None = (k : ℕ) → k < count → up cells (length values - level) (leaf_of cells used k) ≡ c → covers (kept_row (length values) cells used k) row ≢ true

-- and of those that go by the branch b or an older one of the same cell
abbrev pub Gone : List ℕ → Row → List Cell → ℕ → ℕ → ℕ → ℕ → Option ℕ → Type 0
Gone values row cells used count b level (Some k) = (k < count) × (covers (kept_row (length values) cells used k) row ≡ true)
Gone values row cells used count b level None = (k : ℕ) → k < count
    → 0 < up cells (length values - (level + 1)) (leaf_of cells used k)
    → up cells (length values - (level + 1)) (leaf_of cells used k) ≤ b
    → parent_of cells (up cells (length values - (level + 1)) (leaf_of cells used k)) ≡ parent_of cells b
    → covers (kept_row (length values) cells used k) row ≢ true

-- a branch of the cell c with a byte
abbrev pub Branch : List Cell → ℕ → ℕ → ℕ → Option ℕ → Type 0
Branch cells used c byte (Some b) = (0 < b) × (b < used) × (parent_of cells b ≡ c) × ((at cells b).byte ≡ byte)
Branch cells used c byte None = (d : ℕ) → 0 < d → d < used → parent_of cells d ≡ c → (at cells d).byte ≢ byte

-- the deepest cell c on the way of a row, in the level l
pub record Deepest (values row : List ℕ) (cells : List Cell) (used c l : ℕ) : Type 0 where
  pub within : c < used
  pub here : depth_of cells c ≡ l
  pub deep : l ≤ length values
  pub same : (v : ℕ) → v < l → (at cells (up cells (l - (v + 1)) c)).byte ≡ slice_index row v
  pub fresh : l < length values → (d : ℕ) → 0 < d → d < used → parent_of cells d ≡ c → (at cells d).byte ≢ slice_index row l
