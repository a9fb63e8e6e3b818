-- What a store means, and what its calls answer.
--
-- A store means a list of distinct rows in the order kept (a row's place in it, from 0, is its rank), the values table that they
-- fit, and a capacity.
use Rattle.std.specs.Prelude.{◌≡◌, ℕ, ◌/◌, ◌<◌, ◌≤◌, min, true, false, cond, List, [], ◌∷◌, ◌++◌, length, Some, None, Ok, Err, Option, Result, ◌≢◌, slice_index_or}
use Rattle.rows.specs.declared.refusals.Refusal.{Refusal}
use Rattle.rows.specs.declared.refusals.Refusal.TheVariants.{Stub, Contents, Count, Position, Price, Name, BadFile, NoSpace, Used, Idle, Torn, ShortBuffer, Full, Misfit, Long, Known}
use Rattle.rows.specs.Rows.{Row, covers, fits, usable}

-- no two rows of the list are equal
abbrev pub Distinct : List Row → Type 0
Distinct rows = (i j : ℕ) → i < j → j < length rows → slice_index_or rows i [] ≢ slice_index_or rows j []

abbrev pub AllFit : List ℕ → List Row → Type 0
AllFit values rows = (r : ℕ) → r < length rows → fits values (slice_index_or rows r []) ≡ true

-- what holds of every store: of its values table, the rows kept, and its capacity
pub record Lawful (values : List ℕ) (rows : List Row) (space : ℕ) : Type 0 where
  pub distinct : Distinct rows
  pub fitting : AllFit values rows
  pub within : length rows ≤ space
  pub short : space ≤ 65535
  pub unusable : usable values ≡ false → space ≡ 0

-- the capacity over memory of that size, where each variable of a row takes one unit
abbrev pub space_of : List ℕ → ℕ → ℕ
space_of values size = cond (usable values) (min 65535 (size / length values)) 0

-- a kept row equals the row
abbrev pub Holds : List Row → Row → Type 0
Holds rows row = (r : ℕ) × (r < length rows) × (slice_index_or rows r [] ≡ row)

-- the kept row of rank r covers the row
pub record CoverAt (rows : List Row) (row : Row) (r : ℕ) : Type 0 where
  pub below : r < length rows
  pub over : covers (slice_index_or rows r []) row ≡ true

-- no kept row covers the row
abbrev pub Uncovered : List Row → Row → Type 0
Uncovered rows row = (r : ℕ) → CoverAt rows row r → ⊥

-- the ranks that the cover question may name: where several kept rows cover the row, which of them is open.
-- A promise of the lowest would stand here.
abbrev pub MayName : List Row → Row → ℕ → Type 0
MayName rows row r = CoverAt rows row r

abbrev pub CoverFound : List Row → Row → Option ℕ → Type 0
CoverFound rows row (Some r) = MayName rows row r
CoverFound rows row None = Uncovered rows row

-- the cover question: refused exactly if the row does not fit
abbrev pub CoverAnswer : List ℕ → List Row → Row → Result (Option ℕ) Refusal → Type 0
CoverAnswer values rows row (Ok o) = (fits values row ≡ true) × CoverFound rows row o
CoverAnswer values rows row (Err e) = (e ≡ Misfit) × (fits values row ≡ false)

-- the grounds on which keeping is refused: the row does not fit; else an equal one is kept; else the store is full
abbrev pub KeepRefused : List ℕ → List Row → ℕ → Row → Refusal → Type 0
KeepRefused values rows space row Misfit = fits values row ≡ false
KeepRefused values rows space row Known = (fits values row ≡ true) × Holds rows row
KeepRefused values rows space row Full = (fits values row ≡ true) × (Holds rows row → ⊥) × (space ≤ length rows)
KeepRefused values rows space row Stub = ⊥
KeepRefused values rows space row Contents = ⊥
KeepRefused values rows space row Count = ⊥
KeepRefused values rows space row Position = ⊥
KeepRefused values rows space row Price = ⊥
KeepRefused values rows space row Name = ⊥
KeepRefused values rows space row BadFile = ⊥
KeepRefused values rows space row NoSpace = ⊥
KeepRefused values rows space row Used = ⊥
KeepRefused values rows space row Idle = ⊥
KeepRefused values rows space row Torn = ⊥
KeepRefused values rows space row ShortBuffer = ⊥
KeepRefused values rows space row Long = ⊥

-- keeping: the row is added at the end, or nothing is
abbrev pub KeepAnswer : List ℕ → List Row → ℕ → Row → List Row → Result Unit Refusal → Type 0
KeepAnswer values rows space row after (Ok o) = (fits values row ≡ true) × (Holds rows row → ⊥) × (length rows < space) × (after ≡ rows ++ row ∷ [])
KeepAnswer values rows space row after (Err e) = (after ≡ rows) × KeepRefused values rows space row e

-- a refusal leaves the whole value as it was
abbrev pub Still : {X T E : Type 0} → Result T E → X → X → Type 0
Still (Ok o) before after = Unit {0}
Still (Err e) before after = after ≡ before

-- keeping a row that no kept row covers. An equal row would cover it, so only two grounds of refusal are left.
pub record Kept (values : List ℕ) (rows : List Row) (space : ℕ) (row : Row) (after : List Row) : Type 0 where
  pub fit : fits values row ≡ true
  pub uncovered : Uncovered rows row
  pub spare : length rows < space
  pub added : after ≡ rows ++ row ∷ []

pub record Declined (values : List ℕ) (rows : List Row) (space : ℕ) (row : Row) (e : Refusal) : Type 0 where
  pub misfit : fits values row ≡ false → e ≡ Misfit
  pub full : fits values row ≡ true → (e ≡ Full) × Uncovered rows row × (space ≤ length rows)

abbrev pub UnlessCovered : List ℕ → List Row → ℕ → Row → List Row → Result (Option ℕ) Refusal → Type 0
UnlessCovered values rows space row after (Ok (Some r)) = (fits values row ≡ true) × MayName rows row r × (after ≡ rows)
UnlessCovered values rows space row after (Ok None) = Kept values rows space row after
UnlessCovered values rows space row after (Err e) = (after ≡ rows) × Declined values rows space row e

-- only a keeping changes the value
abbrev pub StillUnless : {X E : Type 0} → Result (Option ℕ) E → X → X → Type 0
StillUnless (Ok (Some r)) before after = after ≡ before
StillUnless (Ok None) before after = Unit {0}
StillUnless (Err e) before after = after ≡ before
