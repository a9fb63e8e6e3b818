-- A node has one chain at most, of no more moves than its number.
use Rattle.std.proofs.Common.{◌≡◌, ℕ, zero, suc, ◌<◌, ◌≤◌, true, false, ◌&&◌, ltb, List, [], ◌∷◌, ◌++◌, length, get_or, drop, Some, Ok, Err, Result, sym, refl, ap, ◌∙◌, subst, arith}
use Rattle.std.proofs.lemmas.Bool.{and_parts, ltb-true}
use Rattle.std.proofs.lemmas.Bool.Decides.{nat_tests}
use Rattle.rows.specs.declared.refusals.Refusal.{Refusal}
use Rattle.rows.specs.Tasks.{nth}
use Rattle.planning.proofs.Lists.{some_inj, nth_below, nth_some}
use Rattle.steps.specs.declared.tables.Record.{Record}
use Rattle.chains.specs.Chains.{Link, Chain, done, link, Broken, here, beyond, Refused, torn, short, Reading}

-- what stands at a place is what is read there, at any default
pub nth_reads : {X : Type 0} (xs : List X) (n : ℕ) (x : X) → nth xs n ≡ Some x → (d : X) → get_or xs n d ≡ x
nth_reads [] n x e d = absurd (let b = nth_below [] n x e in omega arith)
nth_reads (y ∷ xs) zero x e d = some_inj y x e
nth_reads (y ∷ xs) (suc n) x e d = nth_reads xs n x e d

fails : (a b c d : ℕ) → (ltb a b && ltb c d) ≡ false → a < b → c < d → ⊥
fails a b c d t l k = grind (arith, nat_tests)

module _ {K : Type 0} (records : List (Record K)) (moves : ℕ) where
  pub few_moves : {n : ℕ} {ns : List ℕ} → Chain records moves n ns → length ns ≤ n
  few_moves done = omega arith
  few_moves (link l c) = omega (arith, few_moves c, l.falls)

  chains_same : {n : ℕ} {ns : List ℕ} → Chain records moves n ns → {m : ℕ} {ms : List ℕ} → Chain records moves m ms → n ≡ m → ns ≡ ms
  chains_same done done e = refl
  chains_same done (link l c) e = absurd (omega (arith, l.later))
  chains_same (link l c) done e = absurd (omega (arith, l.later))
  chains_same (link {n} {x} {ns} l c) (link {n = m} {x = y} k b) e =
      let s : x ≡ y = some_inj x y (sym l.stored ∙ ap (nth records) e ∙ k.stored) in
      let t = chains_same c b (ap (λ z. z.parent) s) in
      ap (λ z. z.step ∷ ns) s ∙ ap (λ z. y.step ∷ z) t

  pub one_chain : (n : ℕ) (ns ms : List ℕ) → Chain records moves n ns → Chain records moves n ms → ns ≡ ms
  one_chain n ns ms c b = chains_same c b refl

  -- how the chain of a node, not node 0, begins
  pub record Begun (n : ℕ) (ns : List ℕ) : Type 0 where
    pub first : Record K
    pub rest : List ℕ
    pub linked : Link records moves n first
    pub chain : Chain records moves first.parent rest
    pub is : ns ≡ first.step ∷ rest

  pub begun : {n : ℕ} {ns : List ℕ} → Chain records moves n ns → 0 < n → Begun n ns
  begun done pos = absurd (omega arith)
  begun (link {n} {x} {ns} l c) pos = record { first = x; rest = ns; linked = l; chain = c; is = refl }

  -- a node has one record, so that its chain goes the same way as the broken one
  pub never_both : {n : ℕ} {ns : List ℕ} → Broken records moves n → Chain records moves n ns → ⊥
  never_both (here pos none) c = let b = begun c pos in none b.first b.linked
  never_both (beyond {n} {x} l d) c =
      let b = begun c l.later in
      let e : b.first ≡ x = some_inj b.first x (sym b.linked.stored ∙ l.stored) in
      never_both d (subst (λ z. Chain records moves z.parent b.rest) e b.chain)

  -- a chain that fits is not refused
  none_refused : {n : ℕ} {out : List ℕ} {e : Refusal} (ns : List ℕ) → Chain records moves n ns → length ns ≤ length out → Refused records moves n out e → ⊥
  none_refused ns c le (torn b) = never_both b c
  none_refused {n} ns c le (short {ns = ms} k lt) = omega (arith, ap length (one_chain n ns ms c k))

  one_refusal : {n : ℕ} {out : List ℕ} {e f : Refusal} → Refused records moves n out e → Refused records moves n out f → e ≡ f
  one_refusal (torn b) (torn d) = refl
  one_refusal (torn b) (short {ns} c lt) = absurd (never_both b c)
  one_refusal (short {ns} c lt) (torn b) = absurd (never_both b c)
  one_refusal (short c lt) (short k gt) = refl

  pub one_reading : (n : ℕ) (out : List ℕ) (r s : Result ℕ Refusal) (after later : List ℕ) → Reading records moves n out r after → Reading records moves n out s later → (r ≡ s) × (after ≡ later)
  one_reading n out (Ok a) (Ok b) after later x y =
      let e = one_chain n x.plan y.plan x.chain y.chain in
      (ap Ok (x.counted ∙ ap length e ∙ sym y.counted), x.written ∙ ap (λ z. z ++ drop (length z) out) e ∙ sym y.written)
  one_reading n out (Ok a) (Err f) after later x y = absurd (none_refused x.plan x.chain x.fits y.0)
  one_reading n out (Err e) (Ok b) after later x y = absurd (none_refused y.plan y.chain y.fits x.0)
  one_reading n out (Err e) (Err f) after later x y = (ap Err (one_refusal x.0 y.0), x.1 ∙ sym y.1)

  pub ended : {n : ℕ} {ns : List ℕ} → Chain records moves n ns → n ≡ 0 → ns ≡ []
  ended done e = refl
  ended (link l c) e = absurd (omega (arith, l.later))

  -- a record that passes both tests is a link, and one that fails is none
  pub follow_links : (n p m : ℕ) → 0 < n → n < length records → ((d : Record K) → p ≡ (get_or records n d).parent) → ((d : Record K) → m ≡ (get_or records n d).step) → (ltb p n && ltb m moves) ≡ true
      → (x : Record K) × Link records moves n x × (p ≡ x.parent)
  follow_links n p m pos lt parent step t =
      let s = nth_some records n lt in
      let x = s.0 in
      let at = nth_reads records n x s.1 x in
      let b = and_parts (ltb p n) (ltb m moves) t in
      let e : p ≡ x.parent = parent x ∙ ap (λ z. z.parent) at in
      let f : m ≡ x.step = step x ∙ ap (λ z. z.step) at in
      (x, record { later = pos; stored = s.1; falls = subst (λ z. z < n) e (ltb-true p n b.0); known = subst (λ z. z < moves) f (ltb-true m moves b.1) }, e)

  pub follow_breaks : (n p m : ℕ) → ((d : Record K) → p ≡ (get_or records n d).parent) → ((d : Record K) → m ≡ (get_or records n d).step) → (ltb p n && ltb m moves) ≡ false → (x : Record K) → Link records moves n x → ⊥
  follow_breaks n p m parent step t x l =
      let at = nth_reads records n x l.stored x in
      fails p n m moves t (subst (λ z. z < n) (sym (parent x ∙ ap (λ z. z.parent) at)) l.falls) (subst (λ z. z < moves) (sym (step x ∙ ap (λ z. z.step) at)) l.known)
