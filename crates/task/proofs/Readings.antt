-- What is known where the reader accepts.
use Rattle.std.proofs.Common.{◌≡◌, ℕ, ◌≤◌, Bool, true, false, cond, not, ltb, List, length, Ok, Err, Result, sym, refl, ap, ◌∙◌, arith}
use Rattle.std.proofs.lemmas.Bool.{ltb-false, not-false, le-ltb}
use Rattle.task.specs.declared.faults.Fault.TheVariants.{Stub, Contents, Count, Position, Price, Name}
use Rattle.task.specs.Files.{Bodies, bodies, tiles, counts, positions, prices, names, judged, reading}

pub no_err : {T E : Type 0} (e : E) (y : T) → ◌≡◌ {A = Result T E} (Err e) (Ok y) → ⊥
no_err e y h = let z : ◌≡◌ {A = ℕ} 0 1 = cc in omega arith

-- a test that did not refuse
pub past : {T E : Type 0} (t : Bool) (e : E) (x : Result T E) (y : T) → cond t (Err e) x ≡ Ok y → (t ≡ false) × (x ≡ Ok y)
past true e x y h = absurd (no_err e y h)
past false e x y h = (refl, h)

pub record Judged (b : Bodies) : Type 0 where
  pub counted : counts b ≡ true
  pub positioned : positions b ≡ true
  pub priced : prices b ≡ true
  pub named : names b ≡ true

pub judged_parts : (b d : Bodies) → judged b ≡ Ok d → (b ≡ d) × Judged b
judged_parts b d h =
    let p = past (not (counts b)) Count _ d h in
    let q = past (not (positions b)) Position _ d p.1 in
    let r = past (not (prices b)) Price _ d q.1 in
    let s = past (not (names b)) Name (Ok b) d r.1 in
    let same : b ≡ d = cc s.1 in (
      same,
      record {
        counted = not-false (counts b) p.0;
        positioned = not-false (positions b) q.0;
        priced = not-false (prices b) r.0;
        named = not-false (names b) s.0;
      },
    )

pub judged_from : (b : Bodies) → Judged b → judged b ≡ Ok b
judged_from b j = rw (j.counted, j.positioned, j.priced, j.named)

pub record Read (file : List ℕ) (b : Bodies) : Type 0 where
  pub long : 40 ≤ length file
  pub tiled : tiles file ≡ true
  pub is : bodies file ≡ b
  pub judged : Judged b

pub read_parts : (file : List ℕ) (b : Bodies) → reading file ≡ Ok b → Read file b
read_parts file b h =
    let p = past (ltb (length file) 40) Stub _ b h in
    let q = past (not (tiles file)) Contents _ b p.1 in
    let j = judged_parts (bodies file) b q.1 in
    record {
      long = ltb-false (length file) 40 p.0;
      tiled = not-false (tiles file) q.0;
      is = j.0;
      judged = rw j.0 at j.1;
    }

-- a file is read as one task
pub read_one : (file : List ℕ) (b d : Bodies) → reading file ≡ Ok b → reading file ≡ Ok d → b ≡ d
read_one file b d p q = sym (read_parts file b p).is ∙ (read_parts file d q).is

pub read_from : (file : List ℕ) (b : Bodies) → Read file b → reading file ≡ Ok b
read_from file b r =
    rw (le-ltb (length file) 40 r.long, r.tiled) (ap judged r.is ∙ judged_from b r.judged)
