-- Why uniform-cost search with cover misses no cheaper plan: if every kept row's results, and the goal, are seen (covered by a
-- row that is kept or waits, at no more than their cost), then each route to the goal is met by a waiting node that costs no
-- more, or by a kept row that holds there at no more cost.
use Rattle.std.specs.Prelude.{◌≡◌, ℕ, ◌+◌, ◌<◌, true, List, Some}
use Rattle.std.proofs.Common.{sym, subst, inl, inr, ⊎_elim, arith}
use Rattle.std.proofs.lemmas.Bool.{cases_eq}
use Rattle.cost.specs.Costs.{Arithmetic, NotAfter}
use Rattle.planning.specs.Spaces.{Space, Lawful, Route, there, then, worth}
use Rattle.uniform.specs.Runs.{Node}

pub reflexive : (a : Arithmetic) (x : a.Value) → NotAfter a x x
reflexive a x = ⊎_elim (λ e. e) (λ e. e) (a.total x x)

module _ (a : Arithmetic) (p : Space) (law : Lawful p) where
  -- a move's cost joined to that of going on
  abbrev pub onto : ℕ → a.Value → a.Value
  onto n c = a.joined (a.priced (p.price n)) c

  -- the row, at no more than that cost, is covered by a kept row or by a waiting one
  pub data Seen (Kept Waits : Node a p → Type 0) (r : p.Row) (c : a.Value) : Type 0 where
    by_kept : (k : Node a p) → Kept k → p.covers k.row r ≡ true → NotAfter a k.cost c → Seen Kept Waits r c
    by_waiting : (w : Node a p) → Waits w → p.covers w.row r ≡ true → NotAfter a w.cost c → Seen Kept Waits r c

  pub record Closed (Kept Waits : Node a p → Type 0) : Type 0 where
    pub goal_seen : Seen Kept Waits p.goal a.nothing
    pub moves_seen : (k : Node a p) → Kept k → (n : ℕ) (h : p.Row) → p.back n k.row ≡ Some h → Seen Kept Waits h (onto n k.cost)

  -- the same while the moves of x from m on are still to come: Old are the rows kept before x
  pub record Closing (Old Kept Waits : Node a p → Type 0) (x : Node a p) (m : ℕ) : Type 0 where
    pub goal_seen : Seen Kept Waits p.goal a.nothing
    pub old_seen : (k : Node a p) → Old k → (n : ℕ) (h : p.Row) → p.back n k.row ≡ Some h → Seen Kept Waits h (onto n k.cost)
    pub new_seen : (n : ℕ) (h : p.Row) → n < m → p.back n x.row ≡ Some h → Seen Kept Waits h (onto n x.cost)

  pub data Reached (Kept Waits : Node a p → Type 0) (s : p.Situation) (c : a.Value) : Type 0 where
    kept_holds : (k : Node a p) → Kept k → p.Holds k.row s → NotAfter a k.cost c → Reached Kept Waits s c
    waits : (w : Node a p) → Waits w → NotAfter a w.cost c → Reached Kept Waits s c

  module _ {Kept Waits : Node a p → Type 0} where
    from_seen : {r : p.Row} {c d : a.Value} {s : p.Situation} → Seen Kept Waits r c → p.Holds r s → NotAfter a c d → Reached Kept Waits s d
    from_seen (by_kept k m over le) holds cd = kept_holds k m (law.wider _ _ _ over holds) (a.transitive _ _ _ le cd)
    from_seen (by_waiting w m over le) holds cd = waits w m (a.transitive _ _ _ le cd)

    onward : {n : ℕ} {s s' : p.Situation} {c : a.Value} → Closed Kept Waits → p.Goes n s s' → Reached Kept Waits s' c → Reached Kept Waits s (onto n c)
    onward inv goes (waits w m le) = waits w m (a.transitive _ _ _ le (a.never_before_rest _ _))
    onward {n = n} inv goes (kept_holds k m holds le) =
        ⊎_elim
        (λ still. kept_holds k m still (a.transitive _ _ _ le (a.never_before_rest _ _)))
        (λ b. from_seen (inv.moves_seen k m n b.0 b.1) b.2 (a.kept_by_join _ _ _ le))
        (law.complete _ _ _ _ goes holds)

    pub reach : {s : p.Situation} {ns : List ℕ} → Closed Kept Waits → Route p s ns → Reached Kept Waits s (worth p a ns)
    reach inv (there holds) = from_seen inv.goal_seen holds (reflexive a _)
    reach inv (then goes rest) = onward inv goes (reach inv rest)

  -- more rows kept or waiting leave a row seen
  pub seen_more : {K₁ W₁ K₂ W₂ : Node a p → Type 0} {r : p.Row} {c : a.Value} → ((k : Node a p) → K₁ k → K₂ k) → ((w : Node a p) → W₁ w → W₂ w) → Seen K₁ W₁ r c → Seen K₂ W₂ r c
  seen_more f g (by_kept k m o le) = by_kept k (f k m) o le
  seen_more f g (by_waiting w m o le) = by_waiting w (g w m) o le

  -- a waiting row that is taken: each waiting row still waits, or costs as much as x and is its row
  pub data Or (W : Node a p → Type 0) (x w : Node a p) : Type 0 where
    other : W w → Or W x w
    it : w ≡ x → Or W x w

  -- x is dropped, since a kept row that costs no more covers it
  seen_skip : {Kept W V : Node a p → Type 0} {x : Node a p} {r : p.Row} {c : a.Value} (k : Node a p) → ((w : Node a p) → W w → Or V x w) → Kept k → p.covers k.row x.row ≡ true → NotAfter a k.cost x.cost → Seen Kept W r c → Seen Kept V r c
  seen_skip k f mk over le (by_kept k₁ m o l) = by_kept k₁ m o l
  seen_skip {Kept} {W} {V} {x} {r} {c} k f mk over le (by_waiting w m o l) = elim (f w m) [
    | other v ↦ by_waiting w v o l
    | it e ↦ by_kept k mk (law.through _ _ _ over (subst (λ z. p.covers z.row r ≡ true) e o)) (a.transitive _ _ _ le (subst (λ z. NotAfter a z.cost c) e l))
  ]

  pub skipped : {Kept W V : Node a p → Type 0} {x : Node a p} (k : Node a p) → ((w : Node a p) → W w → Or V x w) → Kept k → p.covers k.row x.row ≡ true → NotAfter a k.cost x.cost → Closed Kept W → Closed Kept V
  skipped {Kept} {W} {V} k f mk over le c = record {
    goal_seen = seen_skip k f mk over le c.goal_seen;
    moves_seen = λ i m n h b. seen_skip k f mk over le (c.moves_seen i m n h b);
  }

  -- x is kept
  seen_keep : {Old Kept W V : Node a p → Type 0} {x : Node a p} {r : p.Row} {c : a.Value} → ((k : Node a p) → Old k → Kept k) → Kept x → ((w : Node a p) → W w → Or V x w) → Seen Old W r c → Seen Kept V r c
  seen_keep g mk f (by_kept k m o l) = by_kept k (g k m) o l
  seen_keep {Old} {Kept} {W} {V} {x} {r} {c} g mk f (by_waiting w m o l) = elim (f w m) [
    | other v ↦ by_waiting w v o l
    | it e ↦ by_kept x mk (subst (λ z. p.covers z.row r ≡ true) e o) (subst (λ z. NotAfter a z.cost c) e l)
  ]

  pub kept : {Old Kept W V : Node a p → Type 0} {x : Node a p} → ((k : Node a p) → Old k → Kept k) → Kept x → ((w : Node a p) → W w → Or V x w) → Closed Old W → Closing Old Kept V x 0
  kept g mk f c = record {
    goal_seen = seen_keep g mk f c.goal_seen;
    old_seen = λ k m n h b. seen_keep g mk f (c.moves_seen k m n h b);
    new_seen = λ n h lt b. absurd (omega arith);
  }

  -- one more move of x: its result, if there is one, is seen
  pub moved : {Old Kept V V' : Node a p → Type 0} {x : Node a p} {m : ℕ} → ((w : Node a p) → V w → V' w) → ((h : p.Row) → p.back m x.row ≡ Some h → Seen Kept V' h (onto m x.cost)) → Closing Old Kept V x m → Closing Old Kept V' x (m + 1)
  moved {Old} {Kept} {V} {V'} {x} {m} f s c = record {
    goal_seen = seen_more (λ k z. z) f c.goal_seen;
    old_seen = λ k o n h b. seen_more (λ k z. z) f (c.old_seen k o n h b);
    new_seen = λ n h lt b. elim (cases_eq n m) [
      | inl e ↦ subst (λ z. Seen Kept V' h (onto z x.cost)) (sym e) (s h (subst (λ z. p.back z x.row ≡ Some h) e b))
      | inr ne ↦ seen_more (λ k z. z) f (c.new_seen n h (omega arith) b)
    ];
  }

  -- every move of x is done
  pub closed : {Old Kept V : Node a p → Type 0} {x : Node a p} {m : ℕ} → ((k : Node a p) → Kept k → Or Old x k) → ((n : ℕ) (h : p.Row) → p.back n x.row ≡ Some h → n < m) → Closing Old Kept V x m → Closed Kept V
  closed {Old} {Kept} {V} {x} {m} f few c = record {
    goal_seen = c.goal_seen;
    moves_seen = λ k mk n h b. elim (f k mk) [
      | other o ↦ c.old_seen k o n h b
      | it e ↦ subst (λ z. Seen Kept V h (onto n z.cost)) (sym e) (let b' = subst (λ z. p.back n z.row ≡ Some h) e b in c.new_seen n h (few n h b') b')
    ];
  }
