-- What the reader answers, in the format's own words; and where names lie.
use Rattle.std.proofs.Common.{◌≡◌, ℕ, zero, suc, ◌+◌, ◌-◌, ◌≤◌, List, [], ◌∷◌, length, take, drop, Some, None, Ok, Err, Option, Result, sym, refl, ap, ◌∙◌, subst, arith, length-drop, Bor}
use Rattle.std.proofs.lemmas.List.{take_all, drop-drop}
use Rattle.task.specs.declared.faults.Fault.{Fault}
use Rattle.task.specs.declared.accepted.Accepted.{Accepted}
use Rattle.task.specs.Files.{Bodies, place, size, body, reading, name_in, name_from}
use Rattle.task.specs.Laws.{Tiles, Sound, Reads, Accepts}
use Rattle.task.specs.Answers.{held, LooksUp, NamesMove, LiesInFile}
use Rattle.task.proofs.Readings.{read_parts, read_from, no_err}
use Rattle.task.proofs.Layouts.{chain, laid, tiled, bodies_are}
use Rattle.task.proofs.Judgings.{sound_from, judged_if_sound}

pub laid_out : (file : List ℕ) (b : Bodies) → reading file ≡ Ok b → Tiles file b × Sound b
laid_out file b h =
    let r = read_parts file b h in
    (subst (Tiles file) r.is (laid file r.long r.tiled), sound_from b r.judged)

pub read_if_sound : (file : List ℕ) (b : Bodies) → Tiles file b → Sound b → reading file ≡ Ok b
read_if_sound file b t s = read_from file b (record {
  long = t.long;
  tiled = tiled file b t;
  is = bodies_are file b t;
  judged = judged_if_sound b s;
})

pub accepts : (file : List ℕ) (r : Result Accepted Fault) → Reads file r → Accepts file r
accepts file (Ok a) h = laid_out file (held a.task) h
accepts file (Err e) h = λ b t s. no_err e b (sym h ∙ read_if_sound file b t s)

-- the names stand at the end of an accepted file
pub record Ending (file : List ℕ) (b : Bodies) : Type 0 where
  pub within : length b.names ≤ length file
  pub at : length file - length b.names ≡ place file 4
  pub is : drop (place file 4) file ≡ b.names

pub ending : (file : List ℕ) (b : Bodies) → reading file ≡ Ok b → Ending file b
ending file b h =
    let r = read_parts file b h in
    let c = chain file r.tiled in
    let rest : length (drop (place file 4) file) ≡ size file 4 = omega (arith, length-drop (place file 4) file, c.names) in
    let e : drop (place file 4) file ≡ body file 4 = sym (take_all (size file 4) (drop (place file 4) file) (omega (arith, rest))) in
    let is : drop (place file 4) file ≡ b.names = e ∙ ap (λ (x : Bodies). x.names) r.is in
    let l : length b.names ≡ size file 4 = ap length (sym is) ∙ rest in
    record { within = omega (arith, l, c.names); at = omega (arith, l, c.names); is = is }

none_some : {X : Type 0} (x : X) → ◌≡◌ {A = Option X} None (Some x) → ⊥
none_some x h = let z : ◌≡◌ {A = ℕ} 0 1 = cc in omega arith

after : (file : List ℕ) (at n : ℕ) (rest : List ℕ) → drop at file ≡ n ∷ rest → drop (at + 1) file ≡ rest
after file at n rest e = sym (drop-drop 1 at file) ∙ ap (drop 1) e

take_min : (n : ℕ) (xs : List ℕ) → take (length (take n xs)) xs ≡ take n xs
take_min zero xs = refl
take_min (suc n) [] = refl
take_min (suc n) (x ∷ xs) = ap (λ t. x ∷ t) (take_min n xs)

-- a name that is found from a place of the file on lies in the file
lies : (file : List ℕ) (k base : ℕ) (bs : List ℕ) → drop base file ≡ bs → (name : List ℕ) (at : ℕ) → name_in base bs k ≡ Some (name, at)
    → name ≡ take (length name) (drop at file)
lies file k base [] e name at h = absurd (none_some (name, at) h)
lies file zero base (n ∷ rest) e name at h =
    let same : ◌≡◌ {A = List ℕ × ℕ} (take n rest, base + 1) (name, at) = cc h in
    let is : take n rest ≡ name = ap (λ (p : List ℕ × ℕ). p.0) same in
    let to : base + 1 ≡ at = ap (λ (p : List ℕ × ℕ). p.1) same in
    let next : drop at file ≡ rest = ap (λ i. drop i file) (sym to) ∙ after file base n rest e in
    rw (next, ← is) (sym (take_min n rest))
lies file (suc k) base (n ∷ rest) e name at h =
    lies file k (base + 1 + n) (drop n rest) (sym (drop-drop n (base + 1) file) ∙ ap (drop n) (after file base n rest e)) name at h

pub named_in_file : (file : List ℕ) (b : Bodies) (k : ℕ) (r : Option (Bor (List ℕ) × ℕ)) → reading file ≡ Ok b → LooksUp (length file - length b.names) b.names k r
    → NamesMove file k (Ok r) × LiesInFile file (Ok r)
named_in_file file b k None h l =
    let e = ending file b h in
    (ap (name_from file k) h ∙ ap (λ i. Ok (name_in i b.names k)) (sym e.at) ∙ ap Ok l, tt)
named_in_file file b k (Some x) h l =
    let e = ending file b h in
    let l' : name_in (place file 4) b.names k ≡ Some (x.0.now, x.1) = ap (λ i. name_in i b.names k) (sym e.at) ∙ l in
    (ap (name_from file k) h ∙ ap Ok l', lies file k (place file 4) b.names e.is x.0.now x.1 l')
