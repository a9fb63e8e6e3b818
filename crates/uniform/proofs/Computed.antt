-- A step computed: the first cover is answered. So every run can go on to an ending.
use Rattle.std.specs.Prelude.{◌≡◌, ℕ, zero, suc, ◌+◌, ◌<◌, ◌≤◌, Bool, true, false, cond, not, ◌&&◌, ◌||◌, ◌⊎◌, List, [], ◌∷◌, length, Some, None, Option, nat_lt, refl}
use Rattle.std.proofs.Common.{sym, ◌∙◌, ap, subst, inl, inr, arith}
use Rattle.std.proofs.lemmas.Bool.{both_ways, cond_both, or_cases, or_parts, and_parts, and_cases, ltb-true, ltb-false, not-true}
use Rattle.rows.specs.Tasks.{nth}
use Rattle.cost.specs.Costs.{Arithmetic, NotAfter}
use Rattle.planning.specs.Lists.{In}
use Rattle.planning.specs.Spaces.{Space}
use Rattle.planning.proofs.Lists.{some_inj, none_some, nth_some}
use Rattle.uniform.specs.Runs.{Node, Run, CoverAt, Uncovered, Least, answered, taken, keeping, storing, child}
use Rattle.uniform.specs.Steps.{Outcome, skipped, expanded, found, no_plan, out_of_space, One, unmoved, covered, stored, Upto, none, more, Crowded, Step, ends, skips, finds, expands, crowds}
use Rattle.uniform.proofs.Reach.{reflexive}

abbrev later : Option ℕ → Option ℕ
later None = None
later (Some k) = Some (suc k)

-- by what there is, or by nothing
abbrev pub bind : {X Y : Type 0} → Option X → Y → (X → Y) → Y
bind None y f = y
bind (Some x) y f = f x

module _ (a : Arithmetic) (p : Space) where
  -- the first rank whose row covers
  abbrev cover_of : List p.Row → p.Row → Option ℕ
  cover_of [] r = None
  cover_of (k ∷ ks) r = cond (p.covers k r) (Some 0) (later (cover_of ks r))

  abbrev Answers : List p.Row → p.Row → Option ℕ → Type 0
  Answers ks r None = Uncovered a p ks r
  Answers ks r (Some rank) = CoverAt a p ks r rank

  none_at : (k : p.Row) (ks : List p.Row) (r : p.Row) → p.covers k r ≡ false → Uncovered a p ks r → (rank : ℕ) → CoverAt a p (k ∷ ks) r rank → ⊥
  none_at k ks r f u zero c = both_ways (p.covers k r) f (subst (λ z. p.covers z r ≡ true) (sym (some_inj k c.by c.kept)) c.over)
  none_at k ks r f u (suc rank) c = u rank (record { by = c.by; kept = c.kept; over = c.over })

  answers_later : (k : p.Row) (ks : List p.Row) (r : p.Row) (o : Option ℕ) → p.covers k r ≡ false → Answers ks r o → Answers (k ∷ ks) r (later o)
  answers_later k ks r None f u = none_at k ks r f u
  answers_later k ks r (Some rank) f c = record { by = c.by; kept = c.kept; over = c.over }

  cover_of_answers : (ks : List p.Row) (r : p.Row) → Answers ks r (cover_of ks r)
  cover_of_answers [] r = λ rank c. none_some c.by c.kept
  cover_of_answers (k ∷ ks) r =
      cond_both (p.covers k r) (Some 0) (later (cover_of ks r)) (λ o. Answers (k ∷ ks) r o)
      (λ t. record { by = k; kept = refl; over = t })
      (λ f. answers_later k ks r (cover_of ks r) f (cover_of_answers ks r))

  -- a node with its number; d comes before c
  pub record Choice : Type 0 where
    pub number : ℕ
    pub node : Node a p

  abbrev precedes : Choice → Choice → Bool
  precedes d c = a.before d.node.cost c.node.cost || (not (a.before c.node.cost d.node.cost) && nat_lt d.number c.number)

  abbrev choose : Choice → Option Choice → Option Choice
  choose c None = Some c
  choose c (Some d) = cond (precedes d c) (Some d) (Some c)

  -- the least of those that wait
  abbrev least_choice : List (Node a p) → List ℕ → Option Choice
  least_choice nodes [] = None
  least_choice nodes (n ∷ ws) = bind (nth nodes n) None (λ x. choose (record { number = n; node = x }) (least_choice nodes ws))

  pub record First (nodes : List (Node a p)) (ws : List ℕ) (c : Choice) : Type 0 where
    pub waits : In c.number ws
    pub node : nth nodes c.number ≡ Some c.node
    pub first : (m : ℕ) (y : Node a p) → In m ws → nth nodes m ≡ Some y → NotAfter a c.node.cost y.cost × (NotAfter a y.cost c.node.cost → c.number ≤ m)

  abbrev Chosen : List (Node a p) → List ℕ → Option Choice → Type 0
  Chosen nodes ws None = ws ≡ []
  Chosen nodes ws (Some c) = First nodes ws c

  -- the node itself
  self_first : (nodes : List (Node a p)) (c : Choice) (m : ℕ) (y : Node a p) → nth nodes c.number ≡ Some c.node → m ≡ c.number → nth nodes m ≡ Some y → NotAfter a c.node.cost y.cost × (NotAfter a y.cost c.node.cost → c.number ≤ m)
  self_first nodes c m y at e my =
      let q : c.node ≡ y = some_inj c.node y (sym at ∙ ap (nth nodes) (sym e) ∙ my) in
      (subst (λ z. NotAfter a c.node.cost z.cost) q (reflexive a c.node.cost), λ t. omega arith)

  -- of two, the one that comes before
  ahead : (d c : Choice) → precedes d c ≡ true → NotAfter a d.node.cost c.node.cost × (NotAfter a c.node.cost d.node.cost → d.number ≤ c.number)
  ahead d c h = elim (or_cases (a.before d.node.cost c.node.cost) (not (a.before c.node.cost d.node.cost) && nat_lt d.number c.number) h) [
    | inl b ↦ (elim (a.total d.node.cost c.node.cost) [ inl e ↦ e | inr e ↦ absurd (both_ways (a.before d.node.cost c.node.cost) e b) ], λ t. absurd (both_ways (a.before d.node.cost c.node.cost) t b))
    | inr b ↦ (let k = and_parts (not (a.before c.node.cost d.node.cost)) (nat_lt d.number c.number) b in (not-true (a.before c.node.cost d.node.cost) k.0, λ t. (let l = ltb-true d.number c.number k.1 in omega arith)))
  ]

  behind : (d c : Choice) → precedes d c ≡ false → NotAfter a c.node.cost d.node.cost × (NotAfter a d.node.cost c.node.cost → c.number ≤ d.number)
  behind d c h =
      let k = or_parts (a.before d.node.cost c.node.cost) (not (a.before c.node.cost d.node.cost) && nat_lt d.number c.number) h in (
        k.0,
        λ t. elim (and_cases (not (a.before c.node.cost d.node.cost)) (nat_lt d.number c.number) k.1) [
          | inl e ↦ absurd (let z : not false ≡ false = subst (λ b. not b ≡ false) t e in both_ways true z refl)
          | inr e ↦ ltb-false d.number c.number e
        ],
      )

  chosen_more : (nodes : List (Node a p)) (ws : List ℕ) (c : Choice) (o : Option Choice) → nth nodes c.number ≡ Some c.node → Chosen nodes ws o → Chosen nodes (c.number ∷ ws) (choose c o)
  chosen_more nodes ws c None at e = record {
    waits = inl refl;
    node = at;
    first = λ m y i my. elim i [ inl q ↦ self_first nodes c m y at q my | inr j ↦ absurd (subst (λ z. In m z) e j) ];
  }
  chosen_more nodes ws c (Some d) at f =
      cond_both (precedes d c) (Some d) (Some c) (λ o. Chosen nodes (c.number ∷ ws) o)
      (λ t. let h = ahead d c t in record {
        waits = inr f.waits;
        node = f.node;
        first = λ m y i my. elim i [
          | inl q ↦ (let e : c.node ≡ y = some_inj c.node y (sym at ∙ ap (nth nodes) (sym q) ∙ my) in (subst (λ z. NotAfter a d.node.cost z.cost) e h.0, λ u. (let l = h.1 (subst (λ z. NotAfter a z.cost d.node.cost) (sym e) u) in omega arith)))
          | inr j ↦ f.first m y j my
        ];
      })
      (λ t. let h = behind d c t in record {
        waits = inl refl;
        node = at;
        first = λ m y i my. elim i [
          | inl q ↦ self_first nodes c m y at q my
          | inr j ↦ (let g = f.first m y j my in (a.transitive _ _ _ h.0 g.0, λ u. (let l1 = g.1 (a.transitive _ _ _ u h.0) in let l2 = h.1 (a.transitive _ _ _ g.0 u) in omega arith)))
        ];
      })

  least_of : (nodes : List (Node a p)) (ws : List ℕ) → ((n : ℕ) → In n ws → n < length nodes) → Chosen nodes ws (least_choice nodes ws)
  least_of nodes [] f = refl
  least_of nodes (n ∷ ws) f =
      let x = nth_some nodes n (f n (inl refl)) in
      subst (λ o. Chosen nodes (n ∷ ws) (bind o None (λ y. choose (record { number = n; node = y }) (least_choice nodes ws)))) (sym x.1)
      (chosen_more nodes ws (record { number = n; node = x.0 }) (least_choice nodes ws) x.1 (least_of nodes ws (λ m i. f m (inr i))))

  module _ (cap : ℕ) where
    -- one move tried: the run that it leaves, or nothing where there is no space
    abbrev room : ℕ → Node a p → ℕ → p.Row → Run a p → Option (Run a p)
    room n x m r s = cond (nat_lt (length s.nodes) cap) (Some (storing a p s (child a p n x m r))) None

    abbrev place : ℕ → Node a p → ℕ → p.Row → Run a p → Option ℕ → Option (Run a p)
    place n x m r s o = bind o (room n x m r s) (λ rank. Some (answered a p s rank))

    abbrev tried : ℕ → Node a p → ℕ → Run a p → Option (Run a p)
    tried n x m s = bind (p.back m x.row) (Some s) (λ r. place n x m r s (cover_of s.kept r))

    abbrev Tried : ℕ → Node a p → ℕ → Run a p → Option (Run a p) → Type 0
    Tried n x m s None = Crowded a p cap x m s
    Tried n x m s (Some t) = One a p cap n x m s t

    place_is : (n : ℕ) (x : Node a p) (m : ℕ) (r : p.Row) (s : Run a p) (o : Option ℕ) → p.back m x.row ≡ Some r → Answers s.kept r o → Tried n x m s (place n x m r s o)
    place_is n x m r s None b u =
        cond_both (nat_lt (length s.nodes) cap) (Some (storing a p s (child a p n x m r))) None (λ o. Tried n x m s o)
        (λ t. stored b u (ltb-true (length s.nodes) cap t))
        (λ f. record { row = r; result = b; uncovered = u; full = ltb-false (length s.nodes) cap f })
    place_is n x m r s (Some rank) b c = covered b c

    back_is : (n : ℕ) (x : Node a p) (m : ℕ) (s : Run a p) (o : Option p.Row) → p.back m x.row ≡ o → Tried n x m s (bind o (Some s) (λ r. place n x m r s (cover_of s.kept r)))
    back_is n x m s None b = unmoved b
    back_is n x m s (Some r) b = place_is n x m r s (cover_of s.kept r) b (cover_of_answers s.kept r)

    tried_is : (n : ℕ) (x : Node a p) (m : ℕ) (s : Run a p) → Tried n x m s (tried n x m s)
    tried_is n x m s = back_is n x m s (p.back m x.row) refl

    -- the next moves, so many of them: the run that they leave, or where one found no space
    abbrev spread : ℕ → Node a p → ℕ → ℕ → Run a p → Run a p ⊎ Run a p
    spread n x zero m s = inl s
    spread n x (suc k) m s = bind (tried n x m s) (inr s) (λ t. spread n x k (m + 1) t)

    abbrev Spread : ℕ → Node a p → Run a p → Run a p ⊎ Run a p → Type 0
    Spread n x s (inl t) = Upto a p cap n x s p.moves t
    Spread n x s (inr t) = (m : ℕ) × Upto a p cap n x s m t × (m < p.moves) × Crowded a p cap x m t

    spread_bind : (n : ℕ) (x : Node a p) (s t : Run a p) (m : ℕ) (o : Option (Run a p)) (f : Run a p → Run a p ⊎ Run a p) → m < p.moves → Upto a p cap n x s m t → Tried n x m t o
        → ((u : Run a p) → Upto a p cap n x s (m + 1) u → Spread n x s (f u)) → Spread n x s (bind o (inr t) f)
    spread_bind n x s t m None f lt us cr g = (m, us, lt, cr)
    spread_bind n x s t m (Some u) f lt us o g = g u (more us o)

    spread_is : (n : ℕ) (x : Node a p) (s : Run a p) (k m : ℕ) (t : Run a p) → m + k ≡ p.moves → Upto a p cap n x s m t → Spread n x s (spread n x k m t)
    spread_is n x s zero m t e us = subst (λ z. Upto a p cap n x s z t) (omega arith) us
    spread_is n x s (suc k) m t e us =
        spread_bind n x s t m (tried n x m t) (λ u. spread n x k (m + 1) u) (omega arith) us (tried_is n x m t)
        (λ u vs. spread_is n x s k (m + 1) u (omega arith) vs)

    -- a step: how it went, and the run that it leaves
    pub record Went : Type 0 where
      pub how : Outcome
      pub run : Run a p

    abbrev expansion : Run a p ⊎ Run a p → Went
    expansion (inl t) = record { how = expanded; run = t }
    expansion (inr t) = record { how = out_of_space; run = t }

    abbrev visit : Run a p → Choice → Option ℕ → Went
    visit s c None =
        cond (p.meets c.node.row) (record { how = found c.number; run = taken a p s c.number })
        (expansion (spread c.number c.node p.moves 0 (keeping a p (taken a p s c.number) c.node.row)))
    visit s c (Some rank) = record { how = skipped; run = answered a p (taken a p s c.number) rank }

    abbrev pub stepped : Run a p → Went
    stepped s = bind (least_choice s.nodes s.waiting) (record { how = no_plan; run = s }) (λ c. visit s c (cover_of s.kept c.node.row))

    least_is : (s : Run a p) (c : Choice) → First s.nodes s.waiting c → Least a p s c.number c.node
    least_is s c f = record { waits = f.waits; node = f.node; first = f.first }

    abbrev Stepped : Run a p → Went → Type 0
    Stepped s w = Step a p cap s w.how w.run

    expansion_is : (s : Run a p) (c : Choice) (o : Run a p ⊎ Run a p) → Least a p s c.number c.node → Uncovered a p s.kept c.node.row → p.meets c.node.row ≡ false
        → Spread c.number c.node (keeping a p (taken a p s c.number) c.node.row) o → Stepped s (expansion o)
    expansion_is s c (inl t) l u f sp = expands l u f sp
    expansion_is s c (inr t) l u f sp = crowds l u f sp.1 sp.2 sp.3

    visit_is : (s : Run a p) (c : Choice) (o : Option ℕ) → Least a p s c.number c.node → Answers s.kept c.node.row o → Stepped s (visit s c o)
    visit_is s c None l u =
        cond_both (p.meets c.node.row) (record { how = found c.number; run = taken a p s c.number })
        (expansion (spread c.number c.node p.moves 0 (keeping a p (taken a p s c.number) c.node.row))) (λ w. Stepped s w)
        (λ t. finds l u t)
        (λ f. expansion_is s c (spread c.number c.node p.moves 0 (keeping a p (taken a p s c.number) c.node.row)) l u f
        (spread_is c.number c.node (keeping a p (taken a p s c.number) c.node.row) p.moves 0 (keeping a p (taken a p s c.number) c.node.row) (omega arith) none))
    visit_is s c (Some rank) l k = skips l k

    choice_is : (s : Run a p) (o : Option Choice) → Chosen s.nodes s.waiting o → Stepped s (bind o (record { how = no_plan; run = s }) (λ c. visit s c (cover_of s.kept c.node.row)))
    choice_is s None e = ends e
    choice_is s (Some c) f = visit_is s c (cover_of s.kept c.node.row) (least_is s c f) (cover_of_answers s.kept c.node.row)

    -- where the numbers that wait are stored, it is a step
    pub stepped_is : (s : Run a p) → ((n : ℕ) → In n s.waiting → n < length s.nodes) → Step a p cap s (stepped s).how (stepped s).run
    stepped_is s f = choice_is s (least_choice s.nodes s.waiting) (least_of s.nodes s.waiting f)
