-- The entries tile a file exactly if it is the layout of its bodies.
use Rattle.std.proofs.Common.{◌≡◌, ℕ, ◌+◌, ◌≤◌, true, eqb, List, [], ◌++◌, length, take, drop, sym, refl, ap, ◌∙◌, append-nil, arith, length-append, length-drop, length-take}
use Rattle.std.proofs.lemmas.List.{take-append-drop, drop-drop, drop_all, take_at, drop_at}
use Rattle.std.proofs.lemmas.Bool.{and_parts, and_from, eqb-true, eq-eqb}
use Rattle.task.specs.Files.{Bodies, place, size, body, bodies, ends, tiles}
use Rattle.task.specs.Laws.{Tiles}

module _ (file : List ℕ) where
  -- what the test of the entries tells
  pub record Chain : Type 0 where
    pub first : place file 0 ≡ 40
    pub values : place file 0 + size file 0 ≡ place file 1
    pub start : place file 1 + size file 1 ≡ place file 2
    pub goal : place file 2 + size file 2 ≡ place file 3
    pub moves : place file 3 + size file 3 ≡ place file 4
    pub names : place file 4 + size file 4 ≡ length file

  pub chain : tiles file ≡ true → Chain
  chain h =
      let p = and_parts (eqb (place file 0) 40) _ h in
      let q = and_parts (ends file 0 (place file 1)) _ p.1 in
      let r = and_parts (ends file 1 (place file 2)) _ q.1 in
      let s = and_parts (ends file 2 (place file 3)) _ r.1 in
      let t = and_parts (ends file 3 (place file 4)) (ends file 4 (length file)) s.1 in
      record {
        first = eqb-true (place file 0) 40 p.0;
        values = eqb-true (place file 0 + size file 0) (place file 1) q.0;
        start = eqb-true (place file 1 + size file 1) (place file 2) r.0;
        goal = eqb-true (place file 2 + size file 2) (place file 3) s.0;
        moves = eqb-true (place file 3 + size file 3) (place file 4) t.0;
        names = eqb-true (place file 4 + size file 4) (length file) t.1;
      }

  pub tiles_from : Chain → tiles file ≡ true
  tiles_from c =
      and_from (eqb (place file 0) 40) _ (eq-eqb (place file 0) 40 c.first)
      (and_from (ends file 0 (place file 1)) _ (eq-eqb (place file 0 + size file 0) (place file 1) c.values)
      (and_from (ends file 1 (place file 2)) _ (eq-eqb (place file 1 + size file 1) (place file 2) c.start)
      (and_from (ends file 2 (place file 3)) _ (eq-eqb (place file 2 + size file 2) (place file 3) c.goal)
      (and_from (ends file 3 (place file 4)) (ends file 4 (length file)) (eq-eqb (place file 3 + size file 3) (place file 4) c.moves)
      (eq-eqb (place file 4 + size file 4) (length file) c.names)))))

  body_length : (i : ℕ) → place file i + size file i ≤ length file → size file i ≡ length (body file i)
  body_length i h = omega (arith, length-take (size file i) (drop (place file i) file), length-drop (place file i) file)

  -- what begins at body i is the body, and then what begins at its end
  one : (i to : ℕ) → place file i + size file i ≡ to → drop (place file i) file ≡ body file i ++ drop to file
  one i to e =
      sym (take-append-drop (size file i) (drop (place file i) file))
      ∙ ap (λ r. body file i ++ r) (drop-drop (size file i) (place file i) file ∙ ap (λ n. drop n file) e)

  side_by_side : Chain → drop 40 file ≡ body file 0 ++ (body file 1 ++ (body file 2 ++ (body file 3 ++ body file 4)))
  side_by_side c =
      ap (λ n. drop n file) (sym c.first)
      ∙ one 0 (place file 1) c.values
      ∙ ap (λ r. body file 0 ++ r) (one 1 (place file 2) c.start
      ∙ ap (λ r. body file 1 ++ r) (one 2 (place file 3) c.goal
      ∙ ap (λ r. body file 2 ++ r) (one 3 (place file 4) c.moves
      ∙ ap (λ r. body file 3 ++ r) (one 4 (length file) c.names
      ∙ ap (λ r. body file 4 ++ r) (drop_all (length file) file (omega arith))
      ∙ append-nil (body file 4)))))

  pub laid : 40 ≤ length file → tiles file ≡ true → Tiles file (bodies file)
  laid long h =
      let c = chain h in
      let s0 = body_length 0 (omega arith) in
      let s1 = body_length 1 (omega arith) in
      let s2 = body_length 2 (omega arith) in
      let s3 = body_length 3 (omega arith) in
      let s4 = body_length 4 (omega arith) in
      record {
        long = long;
        parts = side_by_side c;
        values = (c.first, s0);
        start = (omega (arith, s0), s1);
        goal = (omega (arith, s0, s1), s2);
        moves = (omega (arith, s0, s1, s2), s3);
        names = (omega (arith, s0, s1, s2, s3), s4);
      }

  -- a part that stands at a place
  part_is : (at n : ℕ) (xs ys : List ℕ) → drop at file ≡ xs ++ ys → n ≡ length xs → take n (drop at file) ≡ xs
  part_is at n xs ys e l = ap (take n) e ∙ take_at xs ys n (sym l)

  part_next : (at : ℕ) (xs ys : List ℕ) → drop at file ≡ xs ++ ys → drop (at + length xs) file ≡ ys
  part_next at xs ys e = sym (drop-drop (length xs) at file) ∙ ap (drop (length xs)) e ∙ drop_at xs ys (length xs) refl

  body_is : (i at : ℕ) (xs ys : List ℕ) → drop at file ≡ xs ++ ys → place file i ≡ at → size file i ≡ length xs → body file i ≡ xs
  body_is i at xs ys e p l = ap (λ n. take (size file i) (drop n file)) p ∙ part_is at (size file i) xs ys e l

  module _ (b : Bodies) (t : Tiles file b) where
    whole_length : length file ≡ 40 + length b.values + length b.start + length b.goal + length b.moves + length b.names
    whole_length =
        omega (
          arith,
          ap length t.parts,
          length-drop 40 file,
          t.long,
          length-append b.values (b.start ++ (b.goal ++ (b.moves ++ b.names))),
          length-append b.start (b.goal ++ (b.moves ++ b.names)),
          length-append b.goal (b.moves ++ b.names),
          length-append b.moves b.names,
        )

    pub tiled : tiles file ≡ true
    tiled = let w = whole_length in tiles_from (record {
      first = t.values.0;
      values = omega (arith, t.values, t.start);
      start = omega (arith, t.start, t.goal);
      goal = omega (arith, t.goal, t.moves);
      moves = omega (arith, t.moves, t.names);
      names = omega (arith, t.names, w);
    })

    pub bodies_are : bodies file ≡ b
    bodies_are =
        let n1 = part_next 40 b.values _ t.parts in
        let n2 = part_next (40 + length b.values) b.start _ n1 in
        let n3 = part_next (40 + length b.values + length b.start) b.goal _ n2 in
        let n4 = part_next (40 + length b.values + length b.start + length b.goal) b.moves b.names n3 in
        let e0 = body_is 0 40 b.values _ t.parts t.values.0 t.values.1 in
        let e1 = body_is 1 (40 + length b.values) b.start _ n1 t.start.0 t.start.1 in
        let e2 = body_is 2 (40 + length b.values + length b.start) b.goal _ n2 t.goal.0 t.goal.1 in
        let e3 = body_is 3 (40 + length b.values + length b.start + length b.goal) b.moves b.names n3 t.moves.0 t.moves.1 in
        let e4 = body_is 4 _ b.names [] (n4 ∙ sym (append-nil b.names)) t.names.0 t.names.1 in
        rw (e0, e1, e2, e3, e4)
