-- Names as the reader tests them, and as they are spelled.
use Rattle.std.proofs.Common.{◌≡◌, ℕ, zero, suc, ◌≤◌, true, false, ◌&&◌, leb, List, [], ◌∷◌, ◌++◌, length, take, drop, sym, refl, ap, ◌∙◌, arith, length-append}
use Rattle.std.specs.List.{AllByRecursion}
use Rattle.std.proofs.lemmas.List.{take-append-drop, length-take-le, take_at, drop_at}
use Rattle.std.proofs.lemmas.Bool.{and_parts, and_from, leb-true, le-leb, both_ways}
use Rattle.rows.specs.Rows.{all}
use Rattle.task.specs.Files.{named, begins, printable}
use Rattle.task.specs.Laws.{Spelling, spelled}

all_printable : (cs : List ℕ) → all printable cs ≡ true → AllByRecursion (λ c. (33 ≤ c) × (c ≤ 126)) cs
all_printable [] h = tt
all_printable (c ∷ cs) h =
    let p = and_parts (printable c) (all printable cs) h in
    let q = and_parts (leb 33 c) (leb c 126) p.0 in
    ((leb-true 33 c q.0, leb-true c 126 q.1), all_printable cs p.1)

printable_all : (cs : List ℕ) → AllByRecursion (λ c. (33 ≤ c) × (c ≤ 126)) cs → all printable cs ≡ true
printable_all [] h = refl
printable_all (c ∷ cs) h =
    and_from (printable c) (all printable cs) (and_from (leb 33 c) (leb c 126) (le-leb 33 c h.0.0) (le-leb c 126 h.0.1)) (printable_all cs h.1)

-- names one after another, as a list of names
pub record Spelled (m : ℕ) (bs : List ℕ) : Type 0 where
  pub list : List (List ℕ)
  pub is : bs ≡ spelled list
  pub count : length list ≡ m
  pub each : AllByRecursion Spelling list

pub spelled_from : (m : ℕ) (bs : List ℕ) → named m bs ≡ true → Spelled m bs
spelled_from zero [] h = record { list = []; is = refl; count = refl; each = tt }
spelled_from zero (n ∷ rest) h = absurd (both_ways false refl h)
spelled_from (suc m) [] h = absurd (both_ways false refl h)
spelled_from (suc m) (n ∷ rest) h =
    let p = and_parts (begins (n ∷ rest)) (named m (drop n rest)) h in
    let q = and_parts (leb 1 n && leb n 40) (leb n (length rest) && all printable (take n rest)) p.0 in
    let r = and_parts (leb 1 n) (leb n 40) q.0 in
    let s = and_parts (leb n (length rest)) (all printable (take n rest)) q.1 in
    let ih = spelled_from m (drop n rest) p.1 in
    let l : length (take n rest) ≡ n = length-take-le n rest (leb-true n (length rest) s.0) in
    record {
      list = take n rest ∷ ih.list;
      is = rw l (ap (λ t. n ∷ t) (sym (take-append-drop n rest) ∙ ap (λ t. take n rest ++ t) ih.is));
      count = ap suc ih.count;
      each = (
        record {
          some = omega (arith, l, leb-true 1 n r.0);
          short = omega (arith, l, leb-true n 40 r.1);
          printable = all_printable (take n rest) s.1;
        },
        ih.each,
      );
    }

pub named_from : (ns : List (List ℕ)) → AllByRecursion Spelling ns → named (length ns) (spelled ns) ≡ true
named_from [] h = refl
named_from (n ∷ ns) h =
    let s = h.0 in
    let rest = n ++ spelled ns in
    let inside : length n ≤ length rest = omega (arith, length-append n (spelled ns)) in
    let text : all printable (take (length n) rest) ≡ true = rw (take_at n (spelled ns) (length n) refl) (printable_all n s.printable) in
    and_from (begins (length n ∷ rest)) (named (length ns) (drop (length n) rest))
    (and_from (leb 1 (length n) && leb (length n) 40) (leb (length n) (length rest) && all printable (take (length n) rest))
    (and_from (leb 1 (length n)) (leb (length n) 40) (le-leb 1 (length n) s.some) (le-leb (length n) 40 s.short))
    (and_from (leb (length n) (length rest)) (all printable (take (length n) rest)) (le-leb (length n) (length rest) inside) text))
    (rw (drop_at n (spelled ns) (length n) refl) (named_from ns h.1))
