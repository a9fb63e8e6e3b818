-- The lines of variables, from one place on.
use Rattle.std.proofs.Common.{◌≡◌, ℕ, ◌+◌, ◌<◌, List, [], ◌∷◌, ◌++◌, length, get_or, drop, min, sym, refl, ap, ◌∙◌, arith, length-drop}
use Rattle.std.specs.List.{zip, enumerate_from}
use Rattle.std.proofs.lemmas.List.{drop_more}
use Rattle.std.proofs.lemmas.List.FromFn.{length-enumerate_from, get_or-enumerate_from}
use Rattle.std.proofs.lemmas.Slice.Zip.{length-zip, get_or-zip}
use Rattle.description.specs.Texts.{variable_line, variable_lines}

lines_none : (v : ℕ) (ns ss gs : List ℕ) → min (min (length ns) (length ss)) (length gs) ≡ 0 → variable_lines v ns ss gs ≡ []
lines_none v [] ss gs h = refl
lines_none v (a ∷ ns) [] gs h = refl
lines_none v (a ∷ ns) (b ∷ ss) [] h = refl
lines_none v (a ∷ ns) (b ∷ ss) (d ∷ gs) h = absurd (omega arith)

module _ (ns ss gs : List ℕ) where
  long : length (enumerate_from 0 (zip (zip ns ss) gs)) ≡ min (min (length ns) (length ss)) (length gs)
  long = length-enumerate_from 0 (zip (zip ns ss) gs) ∙ length-zip (zip ns ss) gs ∙ ap (λ n. min n (length gs)) (length-zip ns ss)

  pub lines_end : (n : ℕ) → n ≡ length (enumerate_from 0 (zip (zip ns ss) gs)) → variable_lines n (drop n ns) (drop n ss) (drop n gs) ≡ []
  lines_end n e = lines_none n (drop n ns) (drop n ss) (drop n gs) (omega (arith, e, long, length-drop n ns, length-drop n ss, length-drop n gs))

  pub lines_more : (n v a b d : ℕ)
      → (n < length (enumerate_from 0 (zip (zip ns ss) gs))) × ((v, ((a, b), d)) ≡ get_or (enumerate_from 0 (zip (zip ns ss) gs)) n (v, ((a, b), d)))
      → variable_lines n (drop n ns) (drop n ss) (drop n gs) ≡ variable_line v a b d ++ variable_lines (n + 1) (drop (n + 1) ns) (drop (n + 1) ss) (drop (n + 1) gs)
  lines_more n v a b d t =
      let in_ns : n < length ns = omega (arith, t.0, long) in
      let in_ss : n < length ss = omega (arith, t.0, long) in
      let in_gs : n < length gs = omega (arith, t.0, long) in
      let inner : n < length (zip ns ss) = omega (arith, length-zip ns ss) in
      let whole : n < length (zip (zip ns ss) gs) = omega (arith, length-zip (zip ns ss) gs) in
      let same : (v, ((a, b), d)) ≡ (n, ((get_or ns n a, get_or ss n b), get_or gs n d))
      = t.1 ∙ get_or-enumerate_from 0 (zip (zip ns ss) gs) n (v, ((a, b), d)) whole ∙ ap (λ i. (i, get_or (zip (zip ns ss) gs) n ((a, b), d))) (omega arith)
      ∙ ap (λ p. (n, p)) (get_or-zip (zip ns ss) gs n ((a, b), d) inner in_gs) ∙ ap (λ p. (n, (p, get_or gs n d))) (get_or-zip ns ss n (a, b) in_ns in_ss) in
      rw (drop_more ns n a in_ns, drop_more ss n b in_ss, drop_more gs n d in_gs)
      (ap (λ (q : ℕ × ((ℕ × ℕ) × ℕ)). variable_line q.0 q.1.0.0 q.1.0.1 q.1.1 ++ variable_lines (n + 1) (drop (n + 1) ns) (drop (n + 1) ss) (drop (n + 1) gs)) (sym same))
