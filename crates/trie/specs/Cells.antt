-- What a trie's cells mean.
--
-- Cell 0 is the root. A branch of a cell fixes one more variable to its byte; the cells of the last level end a row each.
-- The branches of a cell hang in a chain from its head along next to 0, the newest first. A row's new cells lie one after the
-- other, so the oldest branch of a cell lies right after it: this tells each cell's parent, which is not stored.
use Rattle.std.specs.Prelude.{◌≡◌, ℕ, zero, suc, ◌+◌, ◌-◌, ◌*◌, ◌<◌, ◌≤◌, true, cond, List, map, length, ◌==◌, ◌≢◌, nat_lt, slice_index, slice_index_or}
use Rattle.std.specs.List.{range_with_len}
use Rattle.rows.specs.Rows.{Row, fits_at}
use Rattle.trie.specs.declared.cells.Cell.{Cell}

abbrev pub blank : Cell
blank = record { head = 0; next = 0; rank = 0; byte = 0 }

abbrev pub at : List Cell → ℕ → Cell
at cells c = slice_index_or cells c blank

-- the end of the chain from c on, at most n steps away
abbrev pub oldest : List Cell → ℕ → ℕ → ℕ
oldest cells zero c = c
oldest cells (suc n) c = cond ((at cells c).next == 0) c (oldest cells n (at cells c).next)

-- the cell that c is a branch of; each step along a chain goes to a lower place, so c steps are enough
unfoldable pub parent_of : List Cell → ℕ → ℕ
parent_of cells c = oldest cells c c - 1

-- n steps up
abbrev pub up : List Cell → ℕ → ℕ → ℕ
up cells zero c = c
up cells (suc n) c = parent_of cells (up cells n c)

-- the number of steps up to the root, at most n
abbrev pub depth_in : List Cell → ℕ → ℕ → ℕ
depth_in cells zero c = 0
depth_in cells (suc n) c = cond (c == 0) 0 (depth_in cells n (parent_of cells c) + 1)

-- the level of the cell c: the number of variables that are fixed on the way to it
unfoldable pub depth_of : List Cell → ℕ → ℕ
depth_of cells c = depth_in cells c c

-- the row that ends in the cell c, of the last level
abbrev pub row_to : ℕ → List Cell → ℕ → Row
row_to width cells c = map (λ v. (at cells (up cells (width - (v + 1)) c)).byte) (range_with_len 0 width)

-- the cell in which the row of rank r ends: the last of the first n cells that was made for it
abbrev pub leaf_of : List Cell → ℕ → ℕ → ℕ
leaf_of cells zero r = 0
leaf_of cells (suc n) r = cond ((at cells n).rank == r) n (leaf_of cells n r)

abbrev pub kept_row : ℕ → List Cell → ℕ → ℕ → Row
kept_row width cells used r = row_to width cells (leaf_of cells used r)

-- the rows kept in the first `used` cells
abbrev pub rows_in : ℕ → List Cell → ℕ → ℕ → List Row
rows_in width cells used count = map (kept_row width cells used) (range_with_len 0 count)

-- the shape that a trie's cells have
pub record Sound (values : List ℕ) (cells : List Cell) (used count : ℕ) : Type 0 where
  pub inside : 0 < count → used ≤ length cells
  pub few : used ≤ 1 + count * length values
  pub many : count < used
  pub deep : (c : ℕ) → 0 < c → c < used → depth_of cells c ≤ length values
  -- a cell above the last level has a branch, once a row is kept
  pub goes_on : (c : ℕ) → 0 < count → c < used → depth_of cells c < length values → 0 < (at cells c).head
  pub head_in : (c : ℕ) → c < used → 0 < (at cells c).head → (at cells c).head < used
  pub head_up : (c : ℕ) → c < used → 0 < (at cells c).head → parent_of cells (at cells c).head ≡ c
  pub next_in : (c : ℕ) → 0 < c → c < used → (at cells c).next < c
  -- the head is the newest of the branches, and the next the newest one before
  pub first : (c : ℕ) → 0 < c → c < used → c ≤ (at cells (parent_of cells c)).head
  pub then : (c d : ℕ) → 0 < d → d < c → c < used → parent_of cells d ≡ parent_of cells c → d ≤ (at cells c).next
  -- branches of one cell differ in their bytes
  pub apart : (c d : ℕ) → 0 < d → d < c → c < used → parent_of cells d ≡ parent_of cells c → (at cells d).byte ≢ (at cells c).byte
  pub ranked : (c : ℕ) → 0 < c → c < used → depth_of cells c ≡ length values → (at cells c).rank < count
  pub noted : (c : ℕ) → 0 < c → c < used → depth_of cells c ≡ length values → leaf_of cells used (at cells c).rank ≡ c
  pub kept_in : (r : ℕ) → r < count → leaf_of cells used r < used
  pub kept_deep : (r : ℕ) → r < count → depth_of cells (leaf_of cells used r) ≡ length values
  pub kept_rank : (r : ℕ) → r < count → (at cells (leaf_of cells used r)).rank ≡ r
  pub fit : (c : ℕ) → 0 < c → c < used → fits_at (slice_index values (depth_of cells c - 1)) (at cells c).byte ≡ true

-- as a ghost field has it, which must be a proposition
abbrev pub IsSound : List ℕ → List Cell → ℕ → ℕ → Type 0
IsSound values cells used count = (Sound values cells used count → ⊥) → ⊥

-- the i-th of k new cells of a row of that rank, which lie from the place `from` on: the first one becomes the newest branch of a
-- cell with the branches from `head` on, and each next one the only branch of the one before
abbrev pub linked : ℕ → ℕ → ℕ → ℕ → ℕ → ℕ → Cell
linked head from k rank i byte = record {
  head = cond (nat_lt (i + 1) k) (from + i + 1) 0;
  next = cond (i == 0) head 0;
  rank = rank;
  byte = byte;
}

abbrev pub headed : Cell → ℕ → Cell
headed y v = record { head = v; next = y.next; rank = y.rank; byte = y.byte }
