-- On the way along a chain: counting its moves, and writing them.
use Rattle.std.proofs.Common.{◌≡◌, ℕ, ◌+◌, ◌<◌, ◌≤◌, List, [], ◌∷◌, ◌++◌, length, get_or, drop, set, sym, refl, ap, ◌∙◌, subst, arith, length-append}
use Rattle.std.proofs.lemmas.List.{append-nil, append_assoc, length_push, drop_more, set_at}
use Rattle.planning.proofs.Lists.{nth_below}
use Rattle.steps.specs.declared.tables.Record.{Record}
use Rattle.chains.specs.Chains.{Link, Chain, done, link, Broken, here, beyond}
use Rattle.chains.proofs.Chains.{nth_reads, begun, ended}

module _ {K : Type 0} (records : List (Record K)) (moves : ℕ) where
  -- so many links lead from the node to where the way has come
  pub record Counted (node at count : ℕ) : Type 0 where
    pub falls : count + at ≤ node
    pub onto : (ns : List ℕ) → Chain records moves at ns → (all : List ℕ) × Chain records moves node all × (length all ≡ count + length ns)
    pub back : Broken records moves at → Broken records moves node

  pub counted_none : (node : ℕ) → Counted node node 0
  counted_none node = record { falls = omega arith; onto = λ ns c. (ns, c, omega arith); back = λ b. b }

  pub counted_more : {node at count : ℕ} (x : Record K) → Counted node at count → Link records moves at x → Counted node x.parent (count + 1)
  counted_more {node} {at} {count} x w l = record {
    falls = omega (arith, w.falls, l.falls);
    onto = λ ns c. (let h = w.onto (x.step ∷ ns) (link l c) in (h.0, h.1, omega (arith, h.2)));
    back = λ b. w.back (beyond l b);
  }

  pub counted_broken : {node at count : ℕ} → Counted node at count → 0 < at → ((x : Record K) → Link records moves at x → ⊥) → Broken records moves node
  counted_broken w pos none = w.back (here pos none)

  pub counted_all : {node at count : ℕ} → Counted node at count → at ≡ 0 → (all : List ℕ) × Chain records moves node all × (count ≡ length all)
  counted_all w e = let h = w.onto [] (subst (λ z. Chain records moves z []) (sym e) done) in (h.0, h.1, omega (arith, h.2))

  -- what is read at a place is its record's
  pub link_reads : (at m p : ℕ) → ((d : Record K) → m ≡ (get_or records at d).step) → ((d : Record K) → p ≡ (get_or records at d).parent) → (x : Record K) → Link records moves at x → (m ≡ x.step) × (p ≡ x.parent)
  link_reads at m p step parent x l =
      let e = nth_reads records at x l.stored x in
      (step x ∙ ap (λ z. z.step) e, parent x ∙ ap (λ z. z.parent) e)

-- of all the moves so many are written over a buffer, and the rest is the chain of where the way has come
pub record Written {K : Type 0} (records : List (Record K)) (moves : ℕ) (all out : List ℕ) (at count : ℕ) (after : List ℕ) : Type 0 where
  pub front : List ℕ
  pub rest : List ℕ
  pub chain : Chain records moves at rest
  pub parts : all ≡ front ++ rest
  pub counted : length front ≡ count
  pub holds : after ≡ front ++ drop count out

module _ {K : Type 0} (records : List (Record K)) (moves : ℕ) (all out : List ℕ) where
  pub written_none : {node : ℕ} → Chain records moves node all → Written records moves all out node 0 out
  written_none c = record { front = []; rest = all; chain = c; parts = refl; counted = refl; holds = refl }

  pub written_room : {at count : ℕ} {after : List ℕ} → Written records moves all out at count after → length all ≤ length out → 0 < at → count < length out
  written_room {at} {count} w le pos =
      let b = begun records moves w.chain pos in
      omega (arith, ap length w.parts, length-append w.front w.rest, ap length b.is, w.counted)

  pub written_stored : {at count : ℕ} {after : List ℕ} → Written records moves all out at count after → 0 < at → at < length records
  written_stored {at} w pos = let b = begun records moves w.chain pos in nth_below records at b.first b.linked.stored

  pub written_falls : {at count : ℕ} {after : List ℕ} (m p : ℕ) → Written records moves all out at count after → 0 < at → ((x : Record K) → Link records moves at x → (m ≡ x.step) × (p ≡ x.parent)) → p < at
  written_falls m p w pos reads = let b = begun records moves w.chain pos in omega (arith, b.linked.falls, (reads b.first b.linked).1)

  pub written_more : {at count : ℕ} {after : List ℕ} (m p : ℕ) → Written records moves all out at count after → length all ≤ length out → 0 < at
      → ((x : Record K) → Link records moves at x → (m ≡ x.step) × (p ≡ x.parent)) → Written records moves all out p (count + 1) (set after count m)
  written_more {at} {count} {after} m p w le pos reads =
      let b = begun records moves w.chain pos in
      let r = reads b.first b.linked in
      let room = written_room w le pos in
      record {
        front = w.front ++ m ∷ [];
        rest = b.rest;
        chain = subst (λ z. Chain records moves z b.rest) (sym r.1) b.chain;
        parts = w.parts ∙ ap (λ z. w.front ++ z) (b.is ∙ ap (λ z. z ∷ b.rest) (sym r.0)) ∙ sym (append_assoc w.front (m ∷ []) b.rest);
        counted = length_push w.front m ∙ ap (λ z. z + 1) w.counted;
        holds = ap (λ z. set z count m) (w.holds ∙ ap (λ z. w.front ++ z) (drop_more out count 0 room)) ∙ set_at w.front (get_or out count 0) (drop (count + 1) out) m count w.counted ∙ sym (append_assoc w.front (m ∷ []) (drop (count + 1) out));
      }

  pub written_all : {at count : ℕ} {after : List ℕ} → Written records moves all out at count after → at ≡ 0 → after ≡ all ++ drop (length all) out
  written_all {at} {count} {after} w e =
      let whole : all ≡ w.front = w.parts ∙ ap (λ z. w.front ++ z) (ended records moves w.chain e) ∙ append-nil w.front in
      w.holds ∙ ap (λ z. z ++ drop count out) (sym whole) ∙ ap (λ z. all ++ drop z out) (sym w.counted ∙ ap length (sym whole))
