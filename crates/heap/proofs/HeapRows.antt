-- The heap of a row of entries.
use Rattle.std.proofs.Common.{◌≡◌, ℕ, ◌+◌, ◌-◌, ◌*◌, ◌/◌, ◌<◌, ◌≤◌, ◌≢◌, true, false, List, [], ◌∷◌, ◌++◌, length, get_or, set, sym, ap, ◌∙◌, subst, ⊎_elim, arith}
use Rattle.std.specs.List.Sorted.{IsPermutation}
use Rattle.std.specs.List.{swap, swap_remove}
use Rattle.std.proofs.lemmas.List.{length-take-le, length-set, length_push, get_or-take, get_or-set_other, get_or_append_left}
use Rattle.std.proofs.lemmas.List.Edits.{length-swap, swapped_from_swap}
use Rattle.std.proofs.lemmas.List.Sorted.{IsPermutation-trans, IsPermutation-swap}
use Rattle.cost.specs.declared.costs.Cost as cost
use Rattle.queue.specs.declared.entries.Entry.{Entry}
use Rattle.queue.specs.Orders.{goes, Leads, Least}
use Rattle.heap.specs.Heaps.{Heaped, Rooted, Lower}
use Rattle.std.proofs.lemmas.Bool.{cases_eq}
use Rattle.queue.proofs.Order.{goes_refl, goes_asym, goes_trans}
use Rattle.queue.proofs.Scans.{leads_least}
use Rattle.heap.proofs.Sifts.{UpTo, DownTo, up_step, up_done, down_step, down_done, root_first}

module _ {K : Type 0} (C : cost.Ghosts K) where
  -- x does not come after y
  abbrev pub Not_after : Entry K → Entry K → Type 0
  Not_after x y = goes C y x ≡ false

  abbrev pub at : List (Entry K) → Entry K → ℕ → Entry K
  at xs d k = get_or xs k d

  -- in order but for place i and the one above it
  abbrev pub Raising : List (Entry K) → ℕ → ℕ → Type 0
  Raising xs n i = (d : Entry K) → UpTo Not_after n (at xs d) i

  abbrev pub Sinking : List (Entry K) → ℕ → ℕ → Type 0
  Sinking xs n i = (d : Entry K) → DownTo Not_after n (at xs d) i

pub length_exchanged : {X : Type 0} (xs ys : List X) (a b : ℕ) → ys ≡ swap xs a b → length ys ≡ length xs
length_exchanged xs ys a b e = ap length e ∙ length-swap xs a b

-- two places are exchanged once more
pub shuffled_more : {X : Type 0} (zs xs ys : List X) (a b : ℕ) → a < length xs → b < length xs → ys ≡ swap xs a b → IsPermutation zs xs → IsPermutation zs ys
shuffled_more zs xs ys a b ha hb e sh = IsPermutation-trans _ _ _ sh (IsPermutation-swap xs ys a b ha hb e)

module _ {K : Type 0} (C : cost.Ghosts K) where
  tr : (a b c : Entry K) → Not_after C a b → Not_after C b c → Not_after C a c
  tr a b c p q = goes_trans C a b c p q

  pub raising_start : (xs : List (Entry K)) → Heaped C xs (length xs - 1) → Raising C xs (length xs) (length xs - 1)
  raising_start xs h d = record {
    others = λ j hj jn ne. h j d hj (omega arith);
    below = λ j hj jn e pos. absurd (omega arith);
  }

  pub raising_step : (xs ys : List (Entry K)) (i : ℕ) → 0 < i → i < length xs → ((d : Entry K) → true ≡ goes C (get_or xs i d) (get_or xs ((i - 1) / 2) d)) → ys ≡ swap xs i ((i - 1) / 2) → Raising C xs (length xs) i → Raising C ys (length ys) ((i - 1) / 2)
  raising_step xs ys i pos lt go e u =
      rw (length_exchanged xs ys i ((i - 1) / 2) e)
      (λ d. up_step (Not_after C) tr (length xs) (at C xs d) (at C ys d) i pos lt (goes_asym C _ _ (sym (go d)))
      (swapped_from_swap xs ys i ((i - 1) / 2) d lt (omega arith) e) (u d))

  pub raising_done : (xs : List (Entry K)) (n i : ℕ) → Raising C xs n i → (0 < i → (d : Entry K) → goes C (get_or xs i d) (get_or xs ((i - 1) / 2) d) ≡ false) → Heaped C xs n
  raising_done xs n i u here j d hj jn = up_done (Not_after C) tr n (at C xs d) i (u d) (λ pos. here pos d) j hj jn

  pub heaped_leads : (xs : List (Entry K)) (n : ℕ) → 0 < n → Heaped C xs n → Leads C xs n 0
  heaped_leads xs n pos h = record {
    below = pos;
    least = λ k d lt. root_first (Not_after C) tr n (at C xs d) (goes_refl C) (λ j hj jn. h j d hj jn) k lt;
  }

  pub lower_left : (xs : List (Entry K)) (n i : ℕ) → 2 * i + 1 < n → (2 * i + 2 < n → (d : Entry K) → false ≡ goes C (get_or xs (2 * i + 2) d) (get_or xs (2 * i + 1) d)) → Lower C xs n i (2 * i + 1)
  lower_left xs n i h t = record {
    pos = omega arith;
    below = h;
    child = omega arith;
    least = λ s d hs sn e.
        ⊎_elim
        (λ (q : s ≡ 2 * i + 1). subst (λ (k : ℕ). goes C (get_or xs k d) (get_or xs (2 * i + 1) d) ≡ false) (sym q) (goes_refl C _))
        (λ (ne : s ≡ 2 * i + 1 → ⊥).
        let q : s ≡ 2 * i + 2 = omega arith in
        subst (λ (k : ℕ). goes C (get_or xs k d) (get_or xs (2 * i + 1) d) ≡ false) (sym q) (sym (t (omega arith) d)))
        (cases_eq s (2 * i + 1));
  }

  pub lower_right : (xs : List (Entry K)) (n i : ℕ) → 2 * i + 2 < n → ((d : Entry K) → true ≡ goes C (get_or xs (2 * i + 2) d) (get_or xs (2 * i + 1) d)) → Lower C xs n i (2 * i + 2)
  lower_right xs n i h t = record {
    pos = omega arith;
    below = h;
    child = omega arith;
    least = λ s d hs sn e.
        ⊎_elim
        (λ (q : s ≡ 2 * i + 2). subst (λ (k : ℕ). goes C (get_or xs k d) (get_or xs (2 * i + 2) d) ≡ false) (sym q) (goes_refl C _))
        (λ (ne : s ≡ 2 * i + 2 → ⊥).
        let q : s ≡ 2 * i + 1 = omega arith in
        subst (λ (k : ℕ). goes C (get_or xs k d) (get_or xs (2 * i + 2) d) ≡ false) (sym q) (goes_asym C _ _ (sym (t d))))
        (cases_eq s (2 * i + 2));
  }

  pub sinking_start : (xs : List (Entry K)) (n : ℕ) → Rooted C xs n → Sinking C xs n 0
  sinking_start xs n h d = record {
    others = λ j hj jn ne. h j d (omega arith) jn;
    below = λ j hj jn e pos. absurd (omega arith);
  }

  pub sinking_step : (xs ys : List (Entry K)) (i c : ℕ) → Lower C xs (length xs) i c → ((d : Entry K) → true ≡ goes C (get_or xs c d) (get_or xs i d)) → ys ≡ swap xs i c → Sinking C xs (length xs) i → Sinking C ys (length ys) c
  sinking_step xs ys i c low go e u =
      let hc = low.below in
      let ci = low.child in
      rw (length_exchanged xs ys i c e)
      (λ d. down_step (Not_after C) tr (length xs) (at C xs d) (at C ys d) i c low.pos low.below low.child (goes_asym C _ _ (sym (go d)))
      (λ s hs sn e. low.least s d hs sn e)
      (swapped_from_swap xs ys i c d (omega arith) hc e) (u d))

  pub sinking_done : (xs : List (Entry K)) (n i c : ℕ) → Lower C xs n i c → ((d : Entry K) → false ≡ goes C (get_or xs c d) (get_or xs i d)) → Sinking C xs n i → Heaped C xs n
  sinking_done xs n i c low go u j d hj jn =
      down_done (Not_after C) tr n (at C xs d) i (u d)
      (λ s hs sn e. tr (get_or xs i d) (get_or xs c d) (get_or xs s d) (sym (go d)) (low.least s d hs sn e)) j hj jn

  pub sinking_end : (xs : List (Entry K)) (n i : ℕ) → n / 2 ≤ i → Sinking C xs n i → Heaped C xs n
  sinking_end xs n i h u j d hj jn = down_done (Not_after C) tr n (at C xs d) i (u d) (λ s hs sn e. absurd (omega arith)) j hj jn

  -- the root is taken out, and the last moves there
  pub rooted_from : (xs ys : List (Entry K)) (x : Entry K) → ys ≡ swap_remove xs 0 x → Heaped C xs (length xs) → Rooted C ys (length ys)
  rooted_from xs ys x e h j d hu jn =
      let n = length xs - 1 in
      let y = get_or xs n x in
      let long : length ys ≡ n = ap length e ∙ length-take-le n (set xs 0 y) (simp length-set (omega arith)) in
      let read : (k : ℕ) → 0 < k → k < n → get_or ys k d ≡ get_or xs k d =
      λ k hk kn. ap (λ l. get_or l k d) e ∙ get_or-take n (set xs 0 y) k d kn ∙ get_or-set_other xs 0 k y d (λ z. omega arith) in
      rw (read j (omega arith) (omega arith), read ((j - 1) / 2) hu (omega arith)) (h j d (omega arith) (omega arith))

  -- the same of any entry put there, with one place less
  pub rooted_set : (xs : List (Entry K)) (n : ℕ) (y : Entry K) → Heaped C xs n → Rooted C (set xs 0 y) (n - 1)
  rooted_set xs n y h j d hu jn =
      let nj : j ≢ 0 = λ e. omega arith in
      let nu : (j - 1) / 2 ≢ 0 = λ e. omega arith in
      rw (get_or-set_other xs 0 j y d nj, get_or-set_other xs 0 ((j - 1) / 2) y d nu) (h j d (omega arith) (omega arith))

  pub root_least : (xs : List (Entry K)) (x : Entry K) → 0 < length xs → x ≡ get_or xs 0 x → Heaped C xs (length xs) → Least C xs x
  root_least xs x pos r h = leads_least C xs 0 x (heaped_leads xs (length xs) pos h) r

  -- one entry more at the end
  pub heaped_push : (xs ys : List (Entry K)) (x : Entry K) → ys ≡ xs ++ x ∷ [] → Heaped C xs (length xs) → Heaped C ys (length ys - 1)
  heaped_push xs ys x e h j d hj jn =
      let long : length ys ≡ length xs + 1 = ap length e ∙ length_push xs x in
      let read : (k : ℕ) → k < length xs → get_or ys k d ≡ get_or xs k d = λ k kn. ap (λ l. get_or l k d) e ∙ get_or_append_left xs (x ∷ []) d k kn in
      rw (read j (omega arith), read ((j - 1) / 2) (omega arith)) (h j d hj (omega arith))
