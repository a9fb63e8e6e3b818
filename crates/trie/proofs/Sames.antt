-- Cells that mean the same: past the used ones they may hold anything.
use Rattle.std.proofs.Common.{◌≡◌, ℕ, ◌-◌, ◌<◌, List, length, get_or, sym, ap, ◌∙◌, arith}
use Rattle.rows.specs.Rows.{fits_at}
use Rattle.trie.specs.declared.cells.Cell.{Cell}
use Rattle.trie.specs.Cells.{at, parent_of, depth_of, leaf_of, Sound}
use Rattle.trie.specs.Chains.{upward, parent_same, depth_same, leaf_same}

module _ (values : List ℕ) (cs ds : List Cell) (used count : ℕ) (long : length ds ≡ length cs) (old : (x : ℕ) → x < used → at ds x ≡ at cs x) (s : Sound values cs used count) where
  parent : (x : ℕ) → x < used → parent_of ds x ≡ parent_of cs x
  parent = parent_same cs ds used s.next_in (λ x h. ap (λ y. y.next) (old x h))

  level : (x : ℕ) → x < used → depth_of ds x ≡ depth_of cs x
  level = depth_same cs ds used s.next_in (λ x h. ap (λ y. y.next) (old x h))

  leaf : (r : ℕ) → leaf_of ds used r ≡ leaf_of cs used r
  leaf r = leaf_same cs ds used r (λ x h. ap (λ y. y.rank) (old x h))

  head : (x : ℕ) → x < used → (at ds x).head ≡ (at cs x).head
  head x h = ap (λ y. y.head) (old x h)

  next : (x : ℕ) → x < used → (at ds x).next ≡ (at cs x).next
  next x h = ap (λ y. y.next) (old x h)

  rank : (x : ℕ) → x < used → (at ds x).rank ≡ (at cs x).rank
  rank x h = ap (λ y. y.rank) (old x h)

  byte : (x : ℕ) → x < used → (at ds x).byte ≡ (at cs x).byte
  byte x h = ap (λ y. y.byte) (old x h)

  pub same_sound : Sound values ds used count
  same_sound = record {
    inside = λ h. omega (arith, s.inside h);
    few = s.few;
    many = s.many;
    deep = λ c a b. omega (arith, level c b, s.deep c a b);
    goes_on = λ c n b d. omega (arith, head c b, s.goes_on c n b (omega (arith, level c b)));
    head_in = λ c a b. omega (arith, head c a, s.head_in c a (omega (arith, head c a)));
    head_up = λ c a b.
        let p : 0 < (at cs c).head = omega (arith, head c a) in
        ap (parent_of ds) (head c a) ∙ parent (at cs c).head (s.head_in c a p) ∙ s.head_up c a p;
    next_in = λ c a b. omega (arith, next c b, s.next_in c a b);
    first = λ c a b.
        let p : parent_of cs c < used = omega (arith, upward cs used s.next_in c a b) in
        let e = ap (λ x. (at ds x).head) (parent c b) ∙ head (parent_of cs c) p in
        omega (arith, e, s.first c a b);
    then = λ c d p l h e.
        let q : d < used = omega arith in
        omega (arith, next c h, s.then c d p l h (sym (parent d q) ∙ e ∙ parent c h));
    apart = λ c d p l h e b.
        let q : d < used = omega arith in
        s.apart c d p l h (sym (parent d q) ∙ e ∙ parent c h) (sym (byte d q) ∙ b ∙ byte c h);
    ranked = λ c a b e. omega (arith, rank c b, s.ranked c a b (sym (level c b) ∙ e));
    noted = λ c a b e. ap (leaf_of ds used) (rank c b) ∙ leaf (at cs c).rank ∙ s.noted c a b (sym (level c b) ∙ e);
    kept_in = λ r h. omega (arith, leaf r, s.kept_in r h);
    kept_deep = λ r h. ap (depth_of ds) (leaf r) ∙ level (leaf_of cs used r) (s.kept_in r h) ∙ s.kept_deep r h;
    kept_rank = λ r h. ap (λ x. (at ds x).rank) (leaf r) ∙ rank (leaf_of cs used r) (s.kept_in r h) ∙ s.kept_rank r h;
    fit = λ c a b. ap (λ x. fits_at (get_or values (x - 1) 0) (at ds c).byte) (level c b) ∙ ap (fits_at (get_or values (depth_of cs c - 1) 0)) (byte c b) ∙ s.fit c a b;
  }
