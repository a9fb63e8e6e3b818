-- Texts that are put into a buffer one behind the other.
use Rattle.std.proofs.Common.{◌≡◌, ℕ, ◌+◌, ◌/◌, ◌%◌, ◌^◌, ◌<◌, ◌≤◌, List, [], ◌∷◌, ◌++◌, length, get_or, take, drop, decimal, sym, ap, ◌∙◌, subst, append_assoc, mod-eq_of_lt, arith, length-append}
use Rattle.std.proofs.lemmas.List.{append-nil, flat_map_more, at_drop_more, at_drop_all, take_more, take_all}
use Rattle.std.proofs.lemmas.Fmt.{decimal_digit, decimal_step, length-decimal-le}
use Rattle.rows.specs.Calls.{over}
use Rattle.task.specs.Files.{Bodies}
use Rattle.task.proofs.Pieces.{next, from}
use Rattle.device.specs.Texts.{newline, name_of, name_line, name_lines, cost_line, plan_text, Placed}

-- two texts, one behind the other
pub placed_then : {at m e : ℕ} {a b old mid after : List ℕ} → at ≤ length old → Placed at a old m mid → Placed m b mid e after → Placed at (a ++ b) old e after
placed_then {at} {m} {e} {a} {b} {old} {mid} {after} le p q =
    let d = next b (next a (from at old le) p.ends p.holds) q.ends q.holds in
    record {
      ends = omega (arith, p.ends, q.ends, length-append a b);
      holds = d.is ∙ ap (λ x. over x old) (append_assoc (take at old) a b);
    }

-- nothing is put
pub placed_none : (at : ℕ) (old : List ℕ) → at ≤ length old → Placed at [] old at old
placed_none at old le =
    record { ends = omega arith; holds = (from at old le).is ∙ ap (λ x. over x old) (sym (append-nil (take at old))) }

pub placed_as : {at e : ℕ} {a b old after : List ℕ} → a ≡ b → Placed at a old e after → Placed at b old e after
placed_as {at} {e} {a} {b} {old} {after} h p = subst (λ x. Placed at x old e after) h p

pub one_digit : (n : ℕ) → n < 10 → (48 + n % 10) ∷ [] ≡ decimal n
one_digit n l = ap (λ x. (48 + x) ∷ []) (mod-eq_of_lt l) ∙ sym (decimal_digit n l)

-- lines of names, one more
pub names_left : (b : Bodies) (ks : List ℕ) (i : ℕ) → i < length ks → length (name_lines b (drop i ks)) ≡ length (name_of b (get_or ks i 0)) + 1 + length (name_lines b (drop (i + 1) ks))
names_left b ks i l =
    let e : length (name_lines b (drop i ks)) ≡ length (name_line b (get_or ks i 0) ++ name_lines b (drop (i + 1) ks)) = at_drop_more (λ x. length (name_lines b x)) ks i 0 l in
    e ∙ length-append (name_line b (get_or ks i 0)) (name_lines b (drop (i + 1) ks)) ∙ ap (λ z. z + length (name_lines b (drop (i + 1) ks))) (length-append (name_of b (get_or ks i 0)) newline)

pub none_left : (b : Bodies) (ks : List ℕ) (i : ℕ) → length ks ≤ i → length (name_lines b (drop i ks)) ≡ 0
none_left b ks i l = at_drop_all (λ x. length (name_lines b x)) ks i l

pub names_more : (b : Bodies) (ks : List ℕ) (i : ℕ) → i < length ks → name_lines b (take i ks) ++ name_line b (get_or ks i 0) ≡ name_lines b (take (i + 1) ks)
names_more b ks i l = flat_map_more (name_line b) [] (take i ks) (get_or ks i 0) ∙ ap (name_lines b) (sym (take_more ks i 0 l))

pub names_all : (b : Bodies) (ks : List ℕ) (i : ℕ) → length ks ≤ i → name_lines b (take i ks) ≡ name_lines b ks
names_all b ks i l = ap (name_lines b) (take_all i ks l)

pub few_digits : (n : ℕ) → n < 2 ^ 64 → length (decimal n) ≤ 20
few_digits n l = length-decimal-le 20 n (omega arith) (omega arith) l

pub digits_one : (n : ℕ) → n < 10 → length (decimal n) ≡ 1
digits_one n l = ap length (decimal_digit n l)

pub digits_more : (n : ℕ) → 10 ≤ n → n < 2 ^ 64 → length (decimal n) ≡ length (decimal (n / 10)) + 1
digits_more n l h = ap length (decimal_step n l h) ∙ length-append (decimal (n / 10)) ((48 + n % 10) ∷ [])

pub cost_length : (n : ℕ) → length (cost_line n) ≡ length (decimal n) + 6
cost_length n = omega (arith, length-append (decimal n) newline)

pub plan_length : (b : Bodies) (n : ℕ) (ks : List ℕ) → length (plan_text b n ks) ≡ length (decimal n) + 6 + length (name_lines b ks)
plan_length b n ks = omega (arith, length-append (decimal n ++ newline) (name_lines b ks), length-append (decimal n) newline)

-- a text at the first place that fits
pub placed_fits : {e : ℕ} {text out after : List ℕ} → Placed 0 text out e after → length text ≤ length out → (e ≡ length text) × (e ≤ length out) × (after ≡ over text out)
placed_fits p le = (omega (arith, p.ends), omega (arith, p.ends), p.holds)

pub length_line : (text : List ℕ) → length (text ++ newline) ≡ length text + 1
length_line text = length-append text newline
