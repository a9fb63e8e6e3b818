-- What writing answers where the bodies are sound; and both round trips.
use Rattle.std.proofs.Common.{◌≡◌, ℕ, ◌+◌, ◌*◌, ◌/◌, ◌%◌, ◌<◌, ◌≤◌, Bool, true, false, cond, ltb, List, ◌++◌, length, take, drop, Ok, Err, Result, sym, refl, ap, ◌∙◌, mod-eq_of_lt, div-add-mod', arith, length-append}
use native.Mathlib.Nat.{div-div-eq-div-mul}
use Rattle.std.proofs.lemmas.List.{take_at, drop_at}
use Rattle.std.proofs.lemmas.Nat.{div_below}
use Rattle.std.proofs.lemmas.Bool.{le-ltb}
use Rattle.rows.specs.declared.refusals.Refusal.{Refusal}
use Rattle.rows.specs.declared.refusals.Refusal.TheVariants.{ShortBuffer}
use Rattle.task.specs.declared.faults.Fault.{Fault}
use Rattle.task.specs.Answers.{refusal_of}
use Rattle.rows.specs.Calls.{over}
use Rattle.task.specs.Files.{Bodies, judged, reading}
use Rattle.task.specs.Laws.{Tiles}
use Rattle.task.specs.Layouts.{contents, parts, layout, total, Writing, laid, laid_if, writing, ReadsBack}
use Rattle.task.proofs.Readings.{Judged, read_from, judged_parts, no_err}
use Rattle.task.proofs.Layouts.{tiled, bodies_are}
use Rattle.task.proofs.Judgings.{not_long}

pub wrote : (b : Bodies) (out new : List ℕ) (n : ℕ) → judged b ≡ Ok b → total b ≤ length out → n ≡ total b → new ≡ over (layout b) out
    → ◌≡◌ {A = Writing} (record { answer = Ok n; buffer = new }) (writing b out)
wrote b out new n j l e h =
    let there : laid b out ≡ record { answer = Ok (total b); buffer = over (layout b) out } = rw (le-ltb (length out) (total b) l) in
    rw (e, h) (sym (ap (λ r. laid_if r out) j ∙ there))

-- a 32-bit number back from its bytes
pub coded_back : (n : ℕ) → n < 4294967296 → n % 256 + n / 256 % 256 * 256 + n / 65536 % 256 * 65536 + n / 16777216 % 256 * 16777216 ≡ n
coded_back n l =
    let a : n / 256 / 256 ≡ n / 65536 = div-div-eq-div-mul n 256 256 in
    let b : n / 65536 / 256 ≡ n / 16777216 = div-div-eq-div-mul n 65536 256 in
    let top : n / 16777216 < 256 = div_below n 16777216 256 (omega arith) (omega arith) in
    omega (arith, a, b, mod-eq_of_lt top, div-add-mod' n 256, div-add-mod' (n / 256) 256, div-add-mod' (n / 65536) 256)

-- the layout of bodies that are not too long tiles
pub layout_tiles : (b : Bodies) → total b < 4294967296 → Tiles (layout b) b
layout_tiles b l = record {
  long = omega (arith, length-append (contents b) (parts b));
  parts = drop_at (contents b) (parts b) 40 refl;
  values = (refl, coded_back (length b.values) (omega arith));
  start = (coded_back (40 + length b.values) (omega arith), coded_back (length b.start) (omega arith));
  goal = (coded_back (40 + length b.values + length b.start) (omega arith), coded_back (length b.goal) (omega arith));
  moves = (coded_back (40 + length b.values + length b.start + length b.goal) (omega arith), coded_back (length b.moves) (omega arith));
  names = (coded_back (40 + length b.values + length b.start + length b.goal + length b.moves) (omega arith), coded_back (length b.names) (omega arith));
}

-- what is written reads back
pub reads_back : (b : Bodies) → Judged b → reading (layout b) ≡ Ok b
reads_back b j =
    let t = layout_tiles b (not_long b j) in
    read_from (layout b) b (record { long = t.long; tiled = tiled (layout b) b t; is = bodies_are (layout b) b t; judged = j })

layout_length : (b : Bodies) → length (layout b) ≡ total b
layout_length b =
    omega (
      arith,
      length-append b.values (b.start ++ (b.goal ++ (b.moves ++ b.names))),
      length-append b.start (b.goal ++ (b.moves ++ b.names)),
      length-append b.goal (b.moves ++ b.names),
      length-append b.moves b.names,
    )

back_from : (t : Bool) (b : Bodies) (out new : List ℕ) (n : ℕ) → Judged b
    → ◌≡◌ {A = Writing} (record { answer = Ok n; buffer = new }) (cond t (record { answer = Err ShortBuffer; buffer = out }) (record { answer = Ok (total b); buffer = over (layout b) out }))
    → reading (take n new) ≡ Ok b
back_from true b out new n j h = absurd (no_err ShortBuffer n (sym (ap (λ (w : Writing). w.answer) h)))
back_from false b out new n j h =
    let is : Ok n ≡ Ok (total b) = ap (λ (w : Writing). w.answer) h in
    let e : n ≡ total b = cc is in
    let held : new ≡ over (layout b) out = ap (λ (w : Writing). w.buffer) h in
    ap reading (ap (take n) held ∙ take_at (layout b) (drop (length (layout b)) out) n (layout_length b ∙ sym e)) ∙ reads_back b j

back_by : (j : Result Bodies Fault) (b : Bodies) (out new : List ℕ) (r : Result ℕ Refusal) → judged b ≡ j
    → ◌≡◌ {A = Writing} (record { answer = r; buffer = new }) (laid_if j out) → ReadsBack b new r
back_by j b out new (Err e) h w = tt
back_by (Err e) b out new (Ok n) h w = absurd (no_err (refusal_of e) n (sym (ap (λ (x : Writing). x.answer) w)))
back_by (Ok d) b out new (Ok n) h w =
    let p = judged_parts b d h in
    let same : laid d out ≡ laid b out = ap (λ x. laid x out) (sym p.0) in
    back_from (ltb (length out) (total b)) b out new n p.1 (w ∙ same)

pub back : (b : Bodies) (out new : List ℕ) (r : Result ℕ Refusal) → ◌≡◌ {A = Writing} (record { answer = r; buffer = new }) (writing b out) → ReadsBack b new r
back b out new r w = back_by (judged b) b out new r refl w
