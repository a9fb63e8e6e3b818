-- Entries that are put, or taken, one after the other.
use Rattle.std.proofs.Common.{◌≡◌, ℕ, suc, ◌+◌, ◌<◌, false, List, [], ◌∷◌, ◌++◌, length, get_or, take, drop, set, Ok, Err, Result, sym, refl, ap, ◌∙◌, subst, append_assoc, add-zero, arith, MatchResult}
use Rattle.std.specs.List.Sorted.{IsPermutation}
use Rattle.std.specs.List.{AllByRecursion}
use Rattle.std.proofs.ByRecursion.{All-push, All-weaker, all-has, all_has_itself, all_shuffled}
use Rattle.std.proofs.lemmas.List.{take_more, length-take-le, map_push, drop-drop, drop-set-lt}
use Rattle.std.proofs.lemmas.List.Sorted.{IsPermutation-refl, IsPermutation-sym, IsPermutation-trans, IsPermutation-cons, IsPermutation-middle, IsPermutation-append_right}
use Rattle.cost.specs.declared.costs.Cost as cost
use Rattle.queue.specs.declared.entries.Entry.{Entry}
use Rattle.queue.specs.Orders.{goes, Least, Added}
use Rattle.queue.specs.Batches.{numbered, InOrder, Drained}

-- what two clauses say of an answer that is no refusal
pub of_ok : {T E : Type 0} (r : Result T E) (P P' : T → Type 0) (Q Q' : E → Type 0) → MatchResult r P Q → MatchResult r P' Q' → ((e : E) → Q e → ⊥) → (t : T) × P t × P' t
of_ok (Ok t) P P' Q Q' h h' none = (t, h, h')
of_ok (Err e) P P' Q Q' h h' none = absurd (none e h)

numbered_push : {K : Type 0} (ks : List K) (k : K) (i n : ℕ) → n ≡ i + length ks → numbered (ks ++ k ∷ []) i ≡ numbered ks i ++ record { cost = k; number = n } ∷ []
numbered_push {K} [] k i n e =
    let one : ℕ → List (Entry K) = λ m. record { cost = k; number = m } ∷ [] in
    ap one (sym (e ∙ add-zero i))
numbered_push (a ∷ ks) k i n e = ap (◌∷◌ (record { cost = a; number = i })) (numbered_push ks k (suc i) n (omega arith))

pub put_more : {K : Type 0} (xs : List (Entry K)) (ks : List K) (n : ℕ) (ys zs : List (Entry K)) (k : K) → n < length ks → k ≡ get_or ks n k → IsPermutation (numbered (take n ks) 0 ++ xs) ys → Added ys (record { cost = k; number = n }) zs → IsPermutation (numbered (take (n + 1) ks) 0 ++ xs) zs
put_more {K} xs ks n ys zs k h is so add =
    let e : Entry K = record { cost = k; number = n } in
    let N = numbered (take n ks) 0 in
    let long : n ≡ 0 + length (take n ks) = omega (arith, length-take-le n ks (omega arith)) in
    let pushed : take (n + 1) ks ≡ take n ks ++ k ∷ [] = take_more ks n k h ∙ ap (λ y. take n ks ++ y ∷ []) (sym is) in
    let split : numbered (take (n + 1) ks) 0 ++ xs ≡ N ++ e ∷ xs =
    ap (λ l. numbered l 0 ++ xs) pushed ∙ ap (λ l. l ++ xs) (numbered_push (take n ks) k 0 n long) ∙ append_assoc N (e ∷ []) xs in
    subst (λ (l : List (Entry K)). IsPermutation l zs) (sym split)
    (IsPermutation-trans _ _ _ (IsPermutation-middle N e xs) (IsPermutation-trans _ _ _ (IsPermutation-cons e _ _ so) add))

-- one element of a slice is written, and those after it are as before
pub rest_more : {X : Type 0} (xs ys : List X) (i : ℕ) (x : X) → drop i ys ≡ drop i xs → drop (i + 1) (set ys i x) ≡ drop (i + 1) xs
rest_more xs ys i x e = drop-set-lt (i + 1) ys i x (omega arith) ∙ sym (drop-drop 1 i ys) ∙ ap (drop 1) e ∙ drop-drop 1 i xs

module _ {K : Type 0} (C : cost.Ghosts K) where
  in_order_push : (es : List (Entry K)) (x : Entry K) → InOrder C es → AllByRecursion (λ e. goes C x e ≡ false) es → InOrder C (es ++ x ∷ [])
  in_order_push [] x o a = (tt, tt)
  in_order_push (e ∷ es) x (h, o) (b, a) = (All-push (λ d. goes C d e ≡ false) es x h b, in_order_push es x o a)

  pub drained_none : (xs : List (Entry K)) → Drained C xs [] xs
  drained_none xs = record { out = []; numbers = refl; order = tt; later = tt; same = IsPermutation-refl xs }

  -- of those that are left once x is gone, too
  less : (P : Entry K → Type 0) (x : Entry K) (ys zs : List (Entry K)) → IsPermutation (x ∷ zs) ys → AllByRecursion P ys → AllByRecursion P zs
  less P x ys zs sh a = (all_shuffled P ys (x ∷ zs) (IsPermutation-sym (x ∷ zs) ys sh) a).1

  pub drained_more : (xs : List (Entry K)) (ns : List ℕ) (ys zs : List (Entry K)) (x : Entry K) → Drained C xs ns ys → Least C ys x → Added zs x ys → Drained C xs (ns ++ x.number ∷ []) zs
  drained_more xs ns ys zs x d l add =
      let out = d.out in
      record {
        out = out ++ x ∷ [];
        numbers = ap (λ ms. ms ++ x.number ∷ []) d.numbers ∙ sym (map_push (λ e. e.number) out x);
        order = in_order_push out x d.order (All-weaker _ _ (λ e a. all-has (λ y. goes C y e ≡ false) ys x a l.there) out d.later);
        later = All-push (λ e. AllByRecursion (λ y. goes C y e ≡ false) zs) out x
            (All-weaker _ _ (λ e a. less (λ y. goes C y e ≡ false) x ys zs add a) out d.later)
            (less (λ y. goes C y x ≡ false) x ys zs add (All-weaker _ _ (λ y h. l.least y h) ys (all_has_itself ys)));
        same = subst (λ (l : List (Entry K)). IsPermutation l xs) (sym (append_assoc out (x ∷ []) zs)) (IsPermutation-trans _ _ _ (IsPermutation-append_right out (x ∷ zs) ys add) d.same);
      }

  pub drained_from : (xs ws : List (Entry K)) (ns : List ℕ) (ys : List (Entry K)) → IsPermutation ws xs → Drained C xs ns ys → Drained C ws ns ys
  drained_from xs ws ns ys sh d = record {
    out = d.out;
    numbers = d.numbers;
    order = d.order;
    later = d.later;
    same = IsPermutation-trans _ _ _ d.same (IsPermutation-sym ws xs sh);
  }
