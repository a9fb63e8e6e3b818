-- What is said of rows place by place, as lists of what stands side by side.
use Rattle.std.proofs.Common.{◌≡◌, ℕ, min, List, [], ◌∷◌, map, length, refl, ap, sym, ◌∙◌, arith}
use Rattle.std.proofs.lemmas.List.{length-map}
use Rattle.std.proofs.lemmas.Slice.Zip.{length-zip}
use Rattle.std.specs.List.{zip}
use Rattle.rows.specs.Rows.{backed, backed_at, overlaid, overlaid_at}

pub backed_pairs : (g c e : List ℕ) → map (λ (q : (ℕ × ℕ) × ℕ). backed_at q.0.0 q.0.1 q.1) (zip (zip g c) e) ≡ backed g c e
backed_pairs [] c e = refl
backed_pairs (b ∷ g) [] e = refl
backed_pairs (b ∷ g) (y ∷ c) [] = refl
backed_pairs (b ∷ g) (y ∷ c) (x ∷ e) = ap (λ t. backed_at b y x ∷ t) (backed_pairs g c e)

pub overlaid_pairs : (e s : List ℕ) → length e ≡ length s → map (λ (q : ℕ × ℕ). overlaid_at q.0 q.1) (zip e s) ≡ overlaid e s
overlaid_pairs [] [] h = refl
overlaid_pairs [] (b ∷ s) h = absurd (omega arith)
overlaid_pairs (x ∷ e) [] h = absurd (omega arith)
overlaid_pairs (x ∷ e) (b ∷ s) h = ap (λ t. overlaid_at x b ∷ t) (overlaid_pairs e s (omega arith))

pub length_backed : (g c e : List ℕ) → length (backed g c e) ≡ min (min (length g) (length c)) (length e)
length_backed g c e =
    ap length (sym (backed_pairs g c e)) ∙ length-map (zip (zip g c) e) _ ∙ length-zip (zip g c) e ∙ ap (λ n. min n (length e)) (length-zip g c)

pub length_overlaid : (e s : List ℕ) → length e ≡ length s → length (overlaid e s) ≡ length s
length_overlaid e s h = ap length (sym (overlaid_pairs e s h)) ∙ length-map (zip e s) _ ∙ length-zip e s ∙ omega arith
