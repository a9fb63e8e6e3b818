-- The entry that comes first, as a row is gone through.
use Rattle.std.proofs.Common.{◌≡◌, ℕ, ◌+◌, ◌<◌, true, false, List, length, get_or, Some, None, Option, IfSome, MatchOption, sym, subst, below_more}
use Rattle.std.proofs.lemmas.List.{get_or_read}
use Rattle.cost.specs.declared.costs.Cost as cost
use Rattle.queue.specs.declared.entries.Entry.{Entry}
use Rattle.queue.specs.Orders.{goes, Leads, Least, Added}
use Rattle.std.specs.List.{swap_remove}
use Rattle.queue.proofs.Fronts.{taken_out}
use Rattle.queue.proofs.Order.{goes_refl, goes_asym, goes_trans}

module _ {K : Type 0} (C : cost.Ghosts K) (xs : List (Entry K)) where
  -- none of the first i comes before place b
  abbrev pub First : ℕ → ℕ → Type 0
  First i b = (k : ℕ) (d : Entry K) → k < i → goes C (get_or xs k d) (get_or xs b d) ≡ false

  pub first_kept : (i b : ℕ) (x y : Entry K) → i < length xs → b < length xs → First i b → x ≡ get_or xs i x → y ≡ get_or xs b y → false ≡ goes C x y → First (i + 1) b
  first_kept i b x y h hb l rx ry n k d =
      below_more (λ k. goes C (get_or xs k d) (get_or xs b d) ≡ false) i (λ k h. l k d h)
      (rw (← get_or_read xs i x h rx d, ← get_or_read xs b y hb ry d) (sym n)) k

  pub first_moved : (i b : ℕ) (x y : Entry K) → i < length xs → b < length xs → First i b → x ≡ get_or xs i x → y ≡ get_or xs b y → true ≡ goes C x y → First (i + 1) i
  first_moved i b x y h hb l rx ry y' k d =
      below_more (λ k. goes C (get_or xs k d) (get_or xs i d) ≡ false) i
      (λ k h'. goes_trans C (get_or xs i d) (get_or xs b d) (get_or xs k d)
      (rw (← get_or_read xs i x h rx d, ← get_or_read xs b y hb ry d) (goes_asym C x y (sym y'))) (l k d h'))
      (goes_refl C (get_or xs i d)) k

  pub leads_least : (b : ℕ) (x : Entry K) → Leads C xs (length xs) b → x ≡ get_or xs b x → Least C xs x
  leads_least b x l r = record {
    there = (b, l.below, λ e. sym (get_or_read xs b x l.below r e));
    least = λ e has. rw (get_or_read xs b x l.below r e) (subst (λ (f : Entry K). goes C f (get_or xs b e) ≡ false) (has.2 e) (l.least has.0 e has.1));
  }

  -- the place of such an entry is emptied
  pub least_taken : (ys : List (Entry K)) (b : ℕ) (o : Option (Entry K)) (A : Type 0) → Leads C xs (length xs) b
      → MatchOption o A (λ x. (b < length xs) × (x ≡ get_or xs b x) × (ys ≡ swap_remove xs b x)) → IfSome o (λ e. Least C xs e × Added ys e xs)
  least_taken ys b None A l h = tt
  least_taken ys b (Some x) A l h = (leads_least b x l h.1, taken_out xs ys b x l.below h.1 h.2)
