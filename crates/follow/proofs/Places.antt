-- What stands at a place, said in the ways of tables and of runs.
use Rattle.std.proofs.Common.{◌≡◌, ℕ, zero, suc, ◌<◌, List, [], ◌∷◌, map, length, get_or, set, Some, sym, refl, ap, ◌∙◌, inl, inr, arith, length-set, get_or-set_same}
use Rattle.std.specs.List.{ContainsAt as Has}
use Rattle.rows.specs.Tasks.{nth}
use Rattle.planning.specs.Lists.{In}
use Rattle.planning.proofs.Lists.{none_some, some_inj}
use Rattle.steps.specs.Memories.{At}

pub at_set : {X : Type 0} (xs : List X) (i : ℕ) (a : X) → i < length xs → At (set xs i a) i a
at_set xs i a h = record { below = simp length-set h; is = get_or-set_same xs i a a h }

-- one element stands at a place
pub at_one : {X : Type 0} (xs : List X) (n : ℕ) (x y : X) → At xs n x → At xs n y → x ≡ y
at_one [] n x y a b = absurd (let z = a.below in omega arith)
at_one (w ∷ xs) zero x y a b = sym a.is ∙ b.is
at_one (w ∷ xs) (suc n) x y a b =
    at_one xs n x y (record { below = let z = a.below in omega arith; is = a.is }) (record { below = let z = b.below in omega arith; is = b.is })

-- the element at a place, by its default
pub nth_get_or : {X : Type 0} (xs : List X) (n : ℕ) (x d : X) → nth xs n ≡ Some x → get_or xs n d ≡ x
nth_get_or [] n x d e = none_some x e
nth_get_or (y ∷ xs) zero x d e = some_inj y x e
nth_get_or (y ∷ xs) (suc n) x d e = nth_get_or xs n x d e

-- what a list has, its image has
pub has_in : {X : Type 0} (f : X → ℕ) (xs : List X) (x : X) → Has xs x → In (f x) (map f xs)
has_in f [] x h = absurd (let z = h.1 in omega arith)
has_in f (y ∷ xs) x (zero, lt, at) = inl (ap f (sym (at x)))
has_in f (y ∷ xs) x (suc k, lt, at) = inr (has_in f xs x (k, omega arith, at))

-- what an image has, it has from an element
pub in_has : {X : Type 0} (f : X → ℕ) (xs : List X) (m : ℕ) → In m (map f xs) → (x : X) × Has xs x × (f x ≡ m)
in_has f [] m i = absurd i
in_has f (y ∷ xs) m (inl e) = (y, (0, omega arith, λ d. refl), sym e)
in_has f (y ∷ xs) m (inr i) = let r = in_has f xs m i in let h = r.1 in (r.0, (suc h.0, (let z = h.1 in omega arith), h.2), r.2)
