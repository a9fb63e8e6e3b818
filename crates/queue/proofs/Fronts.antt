-- The places in use, as the first places of a row of memory.
use Rattle.std.proofs.Common.{◌≡◌, ℕ, ◌-◌, ◌<◌, ◌≤◌, List, [], ◌∷◌, ◌++◌, length, get_or, take, set, sym, ap, ◌∙◌, not-suc-le-zero, arith}
use Rattle.std.specs.List.{swap, swap_remove}
use Rattle.std.specs.List.Sorted.{IsPermutation}
use Rattle.std.proofs.Math.Seq.{take-set-lt}
use Rattle.std.proofs.lemmas.List.{length-take-le, length-set, get_or-take, get_or_default, take-take}
use Rattle.std.proofs.lemmas.List.Edits.{swap_is, length-swap}
use Rattle.std.proofs.lemmas.List.Sorted.{IsPermutation-to_front, IsPermutation-sym, IsPermutation-swap_remove}
use Rattle.queue.specs.Places.{used, front, length_front}

some_of : {X : Type 0} (xs : List X) (i : ℕ) → i < length xs → X
some_of [] i h = absurd (not-suc-le-zero h)
some_of (x ∷ xs) i h = x

-- a count within the memory and the limit is how many places are in use
pub front_is : {X : Type 0} (count : ℕ) (xs : List X) → count ≤ length xs → count ≤ 65535 → front count xs ≡ take count xs
front_is count xs h few = let e : used count (length xs) ≡ count = omega arith in ap (λ n. take n xs) e

-- what stands at a place in use
pub front_read : {X : Type 0} (count : ℕ) (xs : List X) (at : ℕ) (r : X) → count ≤ length xs → count ≤ 65535 → at < count → get_or xs at r ≡ get_or (front count xs) at (get_or xs at r)
front_read count xs at r h few lt =
    let d = get_or xs at r in
    sym (ap (λ l. get_or l at d) (front_is count xs h few) ∙ get_or-take count xs at d lt ∙ get_or_default xs at d r (omega arith))

take_swap : {X : Type 0} (xs : List X) (n a b : ℕ) → n ≤ length xs → a < n → b < n → take n (swap xs a b) ≡ swap (take n xs) a b
take_swap xs n a b h ha hb =
    let d = some_of xs a (omega arith) in
    let long = length-take-le n xs h in
    ap (take n) (sym (swap_is xs a b d (omega arith) (omega arith)))
    ∙ take-set-lt n (set xs a (get_or xs b d)) b (get_or xs a d) hb
    ∙ ap (λ l. set l b (get_or xs a d)) (take-set-lt n xs a (get_or xs b d) ha)
    ∙ rw (← get_or-take n xs a d ha, ← get_or-take n xs b d hb) (swap_is (take n xs) a b d (omega arith) (omega arith))

-- two of the places in use are exchanged
pub front_swap : {X : Type 0} (count : ℕ) (xs : List X) (a b : ℕ) → a < length (front count xs) → b < length (front count xs) →
    front count (swap xs a b) ≡ swap (front count xs) a b
front_swap count xs a b ha hb =
    let long = length_front count xs in
    ap (λ n. take (used count n) (swap xs a b)) (length-swap xs a b) ∙ take_swap xs (used count (length xs)) a b (omega arith) (omega arith) (omega arith)

-- one of the places in use is left, and the last moves there
pub front_swap_remove : {X : Type 0} (count : ℕ) (xs : List X) (at : ℕ) (x y : X) → count ≤ length xs → count ≤ 65535 → at < length (front count xs) →
    front (count - 1) (set xs at (get_or xs (count - 1) y)) ≡ swap_remove (front count xs) at x
front_swap_remove {X} count xs at x y h few ha =
    let here : at < count = omega (arith, length_front count xs) in
    let m = count - 1 in
    let z = get_or xs m y in
    let p = take count xs in
    let long : length p ≡ count = length-take-le count xs h in
    let long' : length (set xs at z) ≡ length xs = length-set xs at z in
    let last : z ≡ get_or p m x = sym (get_or-take count xs m x (omega arith) ∙ get_or_default xs m x y (omega arith)) in
    front_is m (set xs at z) (omega arith) (omega arith)
    ∙ sym (take-take m count (set xs at z) (omega arith))
    ∙ ap (take m) (take-set-lt count xs at z here ∙ ap (set p at) last)
    ∙ ap (λ (n : ℕ). take (n - 1) (set p at (get_or p (n - 1) x))) (sym long)
    ∙ ap (λ (q : List X). swap_remove q at x) (sym (front_is count xs h few))

-- one more in the collection, and one less
pub added_at_end : {X : Type 0} (xs ys : List X) (x : X) → ys ≡ xs ++ x ∷ [] → IsPermutation (x ∷ xs) ys
added_at_end xs ys x e = rw e (IsPermutation-sym _ _ (IsPermutation-to_front xs x))

pub taken_out : {X : Type 0} (xs ys : List X) (at : ℕ) (x : X) → at < length xs → x ≡ get_or xs at x → ys ≡ swap_remove xs at x → IsPermutation (x ∷ ys) xs
taken_out xs ys at x h r e = rw e (IsPermutation-sym _ _ (IsPermutation-swap_remove xs at x h r))
