-- What steps keep: the search is closed, no kept row comes after what waits, and no kept row holds where a plan may begin.
use Rattle.std.specs.Prelude.{◌≡◌, ℕ, ◌+◌, ◌<◌, true, false, ◌⊎◌, List, [], ◌∷◌, ◌++◌, map, length, Some, refl}
use Rattle.std.proofs.Common.{sym, ◌∙◌, ap, subst, inl, inr, arith, length-append}
use Rattle.std.proofs.lemmas.Bool.{both_ways}
use Rattle.rows.specs.Tasks.{nth}
use Rattle.cost.specs.Costs.{Arithmetic, NotAfter}
use Rattle.planning.specs.Lists.{In}
use Rattle.planning.specs.Spaces.{Space, Lawful, Solves, worth}
use Rattle.planning.proofs.Lists.{some_inj, none_some, nth_below, nth_in, nth_left, nth_push, in_push, in_left, in_last}
use Rattle.uniform.specs.Runs.{Node, Run, opened, root, CoverAt, Least, answered, taken, keeping, storing, child}
use Rattle.uniform.specs.Steps.{One, unmoved, covered, stored, Upto, none, more}
use Rattle.uniform.proofs.Waits.{in_without, without_or, map_push, in_map}
use Rattle.uniform.proofs.Reach.{reflexive, onto, by_kept, by_waiting, Closed, Closing, Or, other, it, kept_holds, waits, reach}
use Rattle.uniform.proofs.Reach as reach

module _ (a : Arithmetic) (p : Space) (law : Lawful p) where
  -- the nodes that wait
  abbrev pub Waits : Run a p → Node a p → Type 0
  Waits s w = (n : ℕ) × In n s.waiting × (nth s.nodes n ≡ Some w)

  abbrev pub rows : List (Node a p) → List p.Row
  rows xs = map (λ x. x.row) xs

  -- xs are the nodes whose rows were kept, in order
  pub record Front (s : Run a p) (xs : List (Node a p)) : Type 0 where
    pub closed : Closed a p law (λ k. In k xs) (Waits s)
    pub before : (k w : Node a p) → In k xs → Waits s w → NotAfter a k.cost w.cost
    pub away : (k : Node a p) → In k xs → p.meets k.row ≡ false
    pub kept : s.kept ≡ rows xs
    pub numbers : (n : ℕ) → In n s.waiting → n < length s.nodes

  -- the same while the moves of node x from m on are still to be tried
  pub record Mid (s : Run a p) (xs : List (Node a p)) (x : Node a p) (m : ℕ) : Type 0 where
    pub closing : Closing a p law (λ k. In k xs) (λ k. In k (xs ++ x ∷ [])) (Waits s) x m
    pub before : (k w : Node a p) → In k (xs ++ x ∷ []) → Waits s w → NotAfter a k.cost w.cost
    pub below : (k : Node a p) → In k (xs ++ x ∷ []) → NotAfter a k.cost x.cost
    pub away : (k : Node a p) → In k (xs ++ x ∷ []) → p.meets k.row ≡ false
    pub kept : s.kept ≡ rows (xs ++ x ∷ [])
    pub numbers : (n : ℕ) → In n s.waiting → n < length s.nodes

  -- a cover is the row of a kept node
  covering : (xs : List (Node a p)) (ks : List p.Row) (r : p.Row) (rank : ℕ) → ks ≡ rows xs → CoverAt a p ks r rank → (k : Node a p) × In k xs × (p.covers k.row r ≡ true)
  covering xs ks r rank e c =
      let h = in_map (λ x. x.row) xs c.by (subst (λ z. In c.by z) e (nth_in ks rank c.by c.kept)) in
      (h.0, h.1, subst (λ z. p.covers z r ≡ true) (sym h.2) c.over)

  -- what waits once a node is stored: what waited, or that node
  waits_up : (s : Run a p) (y w : Node a p) → Waits s w → Waits (storing a p s y) w
  waits_up s y w z = (z.0, in_left z.0 (length s.nodes) s.waiting z.1, nth_left s.nodes (y ∷ []) z.0 (nth_below s.nodes z.0 w z.2) ∙ z.2)

  waits_new : (s : Run a p) (y : Node a p) → Waits (storing a p s y) y
  waits_new s y = (length s.nodes, in_last (length s.nodes) s.waiting, nth_push s.nodes y (length s.nodes) refl)

  waits_down : (s : Run a p) (y w : Node a p) → ((n : ℕ) → In n s.waiting → n < length s.nodes) → Waits (storing a p s y) w → (w ≡ y) ⊎ Waits s w
  waits_down s y w num z = elim (in_push z.0 (length s.nodes) s.waiting z.1) [
    | inl e ↦ inl (some_inj w y (sym z.2 ∙ nth_push s.nodes y z.0 e))
    | inr i ↦ inr (z.0, i, sym (nth_left s.nodes (y ∷ []) z.0 (num z.0 i)) ∙ z.2)
  ]

  mid_one : {cap n m : ℕ} {x : Node a p} {s t : Run a p} {xs : List (Node a p)} → Mid s xs x m → One a p cap n x m s t → Mid t xs x (m + 1)
  mid_one {s = s} {xs = xs} md (unmoved q) = record {
    closing = reach.moved a p law (λ w z. z) (λ h b. none_some h (sym q ∙ b)) md.closing;
    before = md.before;
    below = md.below;
    away = md.away;
    kept = md.kept;
    numbers = md.numbers;
  }
  mid_one {m = m} {x = x} {s = s} {xs = xs} md (covered {r} {rank} q c) = record {
    closing = reach.moved a p law (λ w z. z)
        (λ h b.
        let k = covering (xs ++ x ∷ []) s.kept r rank md.kept c in
        by_kept k.0 k.1 (subst (λ z. p.covers k.0.row z ≡ true) (some_inj r h (sym q ∙ b)) k.2) (a.transitive _ _ _ (md.below k.0 k.1) (a.never_before_rest _ _)))
        md.closing;
    before = md.before;
    below = md.below;
    away = md.away;
    kept = md.kept;
    numbers = md.numbers;
  }
  mid_one {cap} {n} {m} {x} {s} {t} {xs} md (stored {r} q un lt) =
      let y : Node a p = child a p n x m r in
      record {
        closing = reach.moved a p law (waits_up s y)
            (λ h b. by_waiting y (waits_new s y) (subst (λ z. p.covers r z ≡ true) (some_inj r h (sym q ∙ b)) (law.itself r)) (reflexive a (onto a p law m x.cost)))
            md.closing;
        before = λ k w i z. elim (waits_down s y w md.numbers z) [
          | inl e ↦ subst (λ v. NotAfter a k.cost v.cost) (sym e) (a.transitive _ _ _ (md.below k i) (a.never_before_rest _ _))
          | inr v ↦ md.before k w i v
        ];
        below = md.below;
        away = md.away;
        kept = md.kept;
        numbers = λ k i. elim (in_push k (length s.nodes) s.waiting i) [
          | inl e ↦ omega (arith, length-append s.nodes (y ∷ []))
          | inr j ↦ (let l = md.numbers k j in omega (arith, length-append s.nodes (y ∷ [])))
        ];
      }

  pub mid_upto : {cap n : ℕ} {x : Node a p} {s : Run a p} {xs : List (Node a p)} → Mid s xs x 0 → {m : ℕ} {t : Run a p} → Upto a p cap n x s m t → Mid t xs x m
  mid_upto md none = md
  mid_upto md (more us o) = mid_one (mid_upto md us) o

  -- what waits once node n, x, is taken
  waits_or : (s : Run a p) (n : ℕ) (x : Node a p) → nth s.nodes n ≡ Some x → (w : Node a p) → Waits s w → Or a p law (Waits (taken a p s n)) x w
  waits_or s n x at w z = elim (without_or n z.0 s.waiting z.1) [
    | inl e ↦ it (some_inj w x (sym z.2 ∙ ap (nth s.nodes) e ∙ at))
    | inr i ↦ other (z.0, i, z.2)
  ]

  still_waits : (s : Run a p) (n : ℕ) (w : Node a p) → Waits (taken a p s n) w → Waits s w
  still_waits s n w z = (z.0, in_without n z.0 s.waiting z.1, z.2)

  pub front_skip : {s : Run a p} {xs : List (Node a p)} {n rank : ℕ} {x : Node a p} → Front s xs → Least a p s n x → CoverAt a p s.kept x.row rank → Front (answered a p (taken a p s n) rank) xs
  front_skip {s} {xs} {n} {rank} {x} f l c =
      let k = covering xs s.kept x.row rank f.kept c in
      record {
        closed = reach.skipped a p law k.0 (waits_or s n x l.node) k.1 k.2 (f.before k.0 x k.1 (n, l.waits, l.node)) f.closed;
        before = λ i w m z. f.before i w m (still_waits s n w z);
        away = f.away;
        kept = f.kept;
        numbers = λ i m. f.numbers i (in_without n i s.waiting m);
      }

  pub front_keep : {s : Run a p} {xs : List (Node a p)} {n : ℕ} {x : Node a p} → Front s xs → Least a p s n x → p.meets x.row ≡ false → Mid (keeping a p (taken a p s n) x.row) xs x 0
  front_keep {s} {xs} {n} {x} f l far = record {
    closing = reach.kept a p law (λ k i. in_left k x xs i) (in_last x xs) (waits_or s n x l.node) f.closed;
    before = λ k w i z. elim (in_push k x xs i) [
      | inl e ↦ subst (λ v. NotAfter a v.cost w.cost) (sym e) (l.first z.0 w (in_without n z.0 s.waiting z.1) z.2).0
      | inr j ↦ f.before k w j (still_waits s n w z)
    ];
    below = λ k i. elim (in_push k x xs i) [
      | inl e ↦ subst (λ v. NotAfter a v.cost x.cost) (sym e) (reflexive a x.cost)
      | inr j ↦ f.before k x j (n, l.waits, l.node)
    ];
    away = λ k i. elim (in_push k x xs i) [
      | inl e ↦ subst (λ v. p.meets v.row ≡ false) (sym e) far
      | inr j ↦ f.away k j
    ];
    kept = ap (λ z. z ++ x.row ∷ []) f.kept ∙ sym (map_push (λ z. z.row) xs x);
    numbers = λ i m. f.numbers i (in_without n i s.waiting m);
  }

  pub front_spread : {s : Run a p} {xs : List (Node a p)} {x : Node a p} → Mid s xs x p.moves → Front s (xs ++ x ∷ [])
  front_spread {s} {xs} {x} md = record {
    closed = reach.closed a p law (λ k i. elim (in_push k x xs i) [ inl e ↦ it e | inr j ↦ other j ]) (λ n h b. law.below n x.row h b) md.closing;
    before = md.before;
    away = md.away;
    kept = md.kept;
    numbers = md.numbers;
  }

  -- no plan costs less than the least node that waits
  pub least_first : {s : Run a p} {xs : List (Node a p)} {n : ℕ} {x : Node a p} {ns : List ℕ} → Front s xs → Least a p s n x → Solves p ns → NotAfter a x.cost (worth p a ns)
  least_first {s} {xs} {n} {x} {ns} f l sol = elim (reach a p law f.closed sol.2) [
    | kept_holds k i holds le ↦ absurd (both_ways (p.meets k.row) (f.away k i) (law.meets_all k.row sol.0 sol.1 holds))
    | waits w z le ↦ a.transitive _ _ _ (l.first z.0 w z.1 z.2).0 le
  ]

  -- where nothing waits there is no plan
  pub none_missed : {s : Run a p} {xs : List (Node a p)} {ns : List ℕ} → Front s xs → s.waiting ≡ [] → Solves p ns → ⊥
  none_missed {s} {xs} {ns} f e sol = elim (reach a p law f.closed sol.2) [
    | kept_holds k i holds le ↦ both_ways (p.meets k.row) (f.away k i) (law.meets_all k.row sol.0 sol.1 holds)
    | waits w z le ↦ subst (λ y. In z.0 y) e z.1
  ]

  pub front_opened : Front (opened a p) []
  front_opened = record {
    closed = record {
      goal_seen = by_waiting (root a p) (0, inl refl, refl) (law.itself p.goal) (reflexive a a.nothing);
      moves_seen = λ k i n h b. absurd i;
    };
    before = λ k w i z. absurd i;
    away = λ k i. absurd i;
    kept = refl;
    numbers = λ n i. elim i [ inl e ↦ omega arith | inr j ↦ absurd j ];
  }
