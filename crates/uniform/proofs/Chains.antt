-- Each stored node's chain of moves leads from wherever its row holds to the goal, at the node's cost.
use Rattle.std.specs.Prelude.{◌≡◌, ℕ, zero, suc, ◌≤◌, true, ◌⊎◌, List, [], ◌∷◌, ◌++◌, length, Some, refl}
use Rattle.std.proofs.Common.{sym, ◌∙◌, ap, subst, inl, inr, arith, length-append}
use Rattle.std.proofs.lemmas.Bool.{cases_lt}
use Rattle.rows.specs.Tasks.{nth}
use Rattle.cost.specs.Costs.{Arithmetic}
use Rattle.planning.specs.Spaces.{Space, Lawful, Route, there, then, worth}
use Rattle.planning.proofs.Lists.{some_inj, none_some, nth_below, nth_left, nth_push}
use Rattle.uniform.specs.Runs.{Node, Run, Reads, done, link, root, child}
use Rattle.uniform.specs.Steps.{One, unmoved, covered, stored, Upto, none, more}

-- what stands in a list that is one longer stood there before, or is the last
last_or : {X : Type 0} (xs : List X) (y x : X) (n : ℕ) → nth (xs ++ y ∷ []) n ≡ Some x → ((n ≡ length xs) × (x ≡ y)) ⊎ (nth xs n ≡ Some x)
last_or xs y x n e = elim (cases_lt n (length xs)) [
  | inl l ↦ inr (sym (nth_left xs (y ∷ []) n l) ∙ e)
  | inr ge ↦ (let b = nth_below (xs ++ y ∷ []) n x e in let is : n ≡ length xs = omega (arith, length-append xs (y ∷ [])) in inl (is, some_inj x y (sym e ∙ nth_push xs y n is)))
]

module _ (a : Arithmetic) (p : Space) where
  pub reads_length : {nodes : List (Node a p)} {n : ℕ} {ns : List ℕ} → Reads a p nodes n ns → length ns ≤ n
  reads_length done = omega arith
  reads_length (link pos at lt mv r) = omega (arith, reads_length r)

  reads_more : {nodes : List (Node a p)} (y : Node a p) {n : ℕ} {ns : List ℕ} → Reads a p nodes n ns → Reads a p (nodes ++ y ∷ []) n ns
  reads_more y done = done
  reads_more {nodes} y (link {n} {x} pos at lt mv r) = link pos (nth_left nodes (y ∷ []) n (nth_below nodes n x at) ∙ at) lt mv (reads_more y r)

  -- no more than one list of moves is read from a node
  pub reads_unique : {nodes : List (Node a p)} {n : ℕ} {ns : List ℕ} → Reads a p nodes n ns → {m : ℕ} {ms : List ℕ} → Reads a p nodes m ms → n ≡ m → ns ≡ ms
  reads_unique done done e = refl
  reads_unique done (link pos at lt mv r) e = absurd (omega arith)
  reads_unique (link pos at lt mv r) done e = absurd (omega arith)
  reads_unique {nodes} (link {n} {x} {ns} pos at lt mv r) (link {n = m} {x = y} pos' at' lt' mv' r') e =
      let s : x ≡ y = some_inj x y (sym at ∙ ap (nth nodes) e ∙ at') in
      let t = reads_unique r r' (ap (λ z. z.parent) s) in
      ap (λ z. z.move ∷ ns) s ∙ ap (λ z. y.move ∷ z) t

module _ (a : Arithmetic) (p : Space) (law : Lawful p) where
  pub record Chain (nodes : List (Node a p)) (n : ℕ) (x : Node a p) : Type 0 where
    pub moves : List ℕ
    pub reads : Reads a p nodes n moves
    pub cost : x.cost ≡ worth p a moves
    pub leads : (z : p.Situation) → p.Holds x.row z → Route p z moves
    pub fit : p.fits x.row ≡ true

  abbrev pub Chains : List (Node a p) → Type 0
  Chains nodes = (n : ℕ) (x : Node a p) → nth nodes n ≡ Some x → Chain nodes n x

  -- a row taken back over a move of a node is stored as the next node
  chains_stored : (nodes : List (Node a p)) (n m : ℕ) (x : Node a p) (r : p.Row) → Chains nodes → nth nodes n ≡ Some x → p.back m x.row ≡ Some r → Chains (nodes ++ child a p n x m r ∷ [])
  chains_stored nodes n m x r cs at b = λ k y e.
      let z : Node a p = child a p n x m r in
      let c = cs n x at in
      elim (last_or nodes z y k e) [
        | inl l ↦
            (let lt = nth_below nodes n x at in
            let kn : k ≡ length nodes = l.0 in
            let fresh : Chain (nodes ++ z ∷ []) k z = record {
              moves = m ∷ c.moves;
              reads = link {x = z} (omega arith) (nth_push nodes z k kn) (omega arith) (law.below m x.row r b) (reads_more a p z c.reads);
              cost = ap (λ v. a.joined (a.priced (p.price m)) v) c.cost;
              leads = λ s h. let g = law.sound m x.row r s c.fit b h in then g.1 (c.leads g.0 g.2);
              fit = law.back_fits m x.row r c.fit b;
            } in
            subst (λ w. Chain (nodes ++ z ∷ []) k w) (sym l.1) fresh)
        | inr old ↦
            (let d = cs k y old in
            record { moves = d.moves; reads = reads_more a p z d.reads; cost = d.cost; leads = d.leads; fit = d.fit })
      ]

  chains_one : {cap n m : ℕ} {x : Node a p} {s t : Run a p} → Chains s.nodes → nth s.nodes n ≡ Some x → One a p cap n x m s t → Chains t.nodes × (nth t.nodes n ≡ Some x)
  chains_one cs at (unmoved q) = (cs, at)
  chains_one cs at (covered q c) = (cs, at)
  chains_one {cap} {n} {m} {x} {s} {t} cs at (stored {r} q un lt) =
      (chains_stored s.nodes n m x r cs at q, nth_left s.nodes (child a p n x m r ∷ []) n (nth_below s.nodes n x at) ∙ at)

  pub chains_upto : {cap n : ℕ} {x : Node a p} {s : Run a p} → Chains s.nodes → nth s.nodes n ≡ Some x → {m : ℕ} {t : Run a p} → Upto a p cap n x s m t → Chains t.nodes × (nth t.nodes n ≡ Some x)
  chains_upto cs at none = (cs, at)
  chains_upto cs at (more us o) = let h = chains_upto cs at us in chains_one h.0 h.1 o

  pub chains_opened : Chains (root a p ∷ [])
  chains_opened zero x e = subst (λ w. Chain (root a p ∷ []) 0 w) (some_inj (root a p) x e)
      (record { moves = []; reads = done; cost = refl; leads = λ z h. there h; fit = law.goal_fits })
  chains_opened (suc n) x e = none_some x e
