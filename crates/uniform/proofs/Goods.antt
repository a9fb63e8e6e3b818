-- What every run keeps from the opening on, and what its endings mean.
use Rattle.std.specs.Prelude.{◌≡◌, ℕ, ◌+◌, ◌<◌, ◌≤◌, true, false, List, [], ◌∷◌, ◌++◌, length, refl}
use Rattle.std.proofs.Common.{subst, arith}
use Rattle.std.proofs.lemmas.Bool.{both_ways}
use Rattle.cost.specs.Costs.{Arithmetic, NotAfter}
use Rattle.planning.specs.Spaces.{Space, Lawful, Solves, worth}
use Rattle.planning.proofs.Lists.{nth_below}
use Rattle.uniform.specs.Runs.{Node, Run}
use Rattle.uniform.specs.Steps.{Outcome, skipped, expanded, found, no_plan, out_of_space, going, Step, ends, skips, finds, expands, crowds, After, opening, onward, Ends}
use Rattle.uniform.specs.Promises.{most, ReadsBest, FoundIsCheapest, NoPlanIsNone, RunsAreOrderly, FewNodes, JoinsFew}
use Rattle.uniform.proofs.Fronts.{Front, front_opened, front_skip, front_keep, front_spread, mid_upto, least_first, none_missed}
use Rattle.uniform.proofs.Chains.{Chains, chains_opened, chains_upto, reads_length, reads_unique}
use Rattle.uniform.proofs.Tallies.{Tally, tally_few, tally_skip, tally_spread, tally_crowd, tally_opened}

module _ (a : Arithmetic) (p : Space) (law : Lawful p) where
  pub record Good (cap i : ℕ) (s : Run a p) : Type 0 where
    pub spread : List (Node a p)
    pub front : Front a p law s spread
    pub chains : Chains a p law s.nodes
    pub tally : Tally a p law cap i s

  -- what a step leaves, by how it went
  abbrev Next : ℕ → ℕ → Outcome → Run a p → Type 0
  Next cap i skipped t = Good cap (i + 1) t
  Next cap i expanded t = Good cap (i + 1) t
  Next cap i (found n) t = ReadsBest a p t.nodes n × (length t.nodes ≤ 1 + most p)
  Next cap i no_plan t = ((ns : List ℕ) → Solves p ns → ⊥) × (length t.nodes ≤ 1 + most p)
  Next cap i out_of_space t = (cap ≤ length t.nodes) × (length t.nodes < 1 + most p)

  step_next : {cap i : ℕ} {o : Outcome} {s t : Run a p} → Good cap i s → Step a p cap s o t → Next cap i o t
  step_next g (ends e) = (λ ns sol. none_missed a p law g.front e sol, tally_few a p law g.tally)
  step_next g (skips l c) = record {
    spread = g.spread;
    front = front_skip a p law g.front l c;
    chains = g.chains;
    tally = (let t = tally_skip a p law g.tally l in record { steps = t.steps; within = t.within; stored = t.stored; each = t.each; apart = t.apart; fit = t.fit });
  }
  step_next g (finds {n} {x} l un m) =
      let c = g.chains n x l.node in
      let w = law.met x.row m in (
        record {
          moves = c.moves;
          reads = c.reads;
          only = λ ms r. reads_unique a p r c.reads refl;
          best = ((w.0, w.1, c.leads w.0 w.2), λ ms sol. subst (λ z. NotAfter a z (worth p a ms)) c.cost (least_first a p law g.front l sol));
          node = x;
          there = l.node;
          cost = c.cost;
        },
        tally_few a p law g.tally,
      )
  step_next g (expands {n} {x} l un far us) =
      let c = g.chains n x l.node in
      record {
        spread = g.spread ++ x ∷ [];
        front = front_spread a p law (mid_upto a p law (front_keep a p law g.front l far) us);
        chains = (chains_upto a p law g.chains l.node us).0;
        tally = tally_spread a p law g.tally l un c.fit us;
      }
  step_next g (crowds {n} {m} {x} l un far us lt cr) =
      let c = g.chains n x l.node in
      (cr.full, tally_crowd a p law g.tally l un c.fit us lt)

  going_next : (cap i : ℕ) (t : Run a p) (o : Outcome) → going o ≡ true → Next cap i o t → Good cap (i + 1) t
  going_next cap i t skipped e h = h
  going_next cap i t expanded e h = h
  going_next cap i t (found n) e h = absurd (both_ways false refl e)
  going_next cap i t no_plan e h = absurd (both_ways false refl e)
  going_next cap i t out_of_space e h = absurd (both_ways false refl e)

  pub after_good : {cap i : ℕ} {s : Run a p} → After a p cap i s → Good cap i s
  after_good (opening pos) = record { spread = []; front = front_opened a p law; chains = chains_opened a p law; tally = tally_opened a p law pos }
  after_good {cap} (onward {i} {o} {s} {t} af e st) = going_next cap i t o e (step_next (after_good af) st)

  ends_next : {cap i : ℕ} {o : Outcome} {t : Run a p} (e : Ends a p cap i o t) → Next cap e.before o t
  ends_next e = step_next (after_good e.after) e.step

  pub found_cheapest : FoundIsCheapest a p
  found_cheapest cap i n t e = (ends_next e).0

  pub no_plan_none : NoPlanIsNone a p
  no_plan_none cap i t ns e sol = (ends_next e).0 ns sol

  nodes_end : (cap i : ℕ) (t : Run a p) (o : Outcome) → going o ≡ false → Next cap i o t → length t.nodes ≤ 1 + most p
  nodes_end cap i t skipped e h = absurd (both_ways true e refl)
  nodes_end cap i t expanded e h = absurd (both_ways true e refl)
  nodes_end cap i t (found n) e h = h.1
  nodes_end cap i t no_plan e h = h.1
  nodes_end cap i t out_of_space e h = let z = h.1 in omega arith

  still : (cap i : ℕ) (s : Run a p) → After a p cap i s → i < 2 + most p
  still cap i s af = let t = (after_good af).tally in omega (arith, t.steps, tally_few a p law t)

  pub few_nodes : FewNodes a p
  few_nodes = record {
    nodes = λ cap i s af. tally_few a p law (after_good af).tally;
    nodes_at_end = λ cap i o t e. nodes_end cap e.before t o e.ended (ends_next e);
    space = λ cap i t le e. let h = ends_next e in let z = h.0 in let y = h.1 in omega arith;
    steps = still;
    steps_at_end = λ cap i o t e. let b = still cap e.before e.last e.after in omega (arith, e.count);
  }

  pub runs_orderly : RunsAreOrderly a p
  runs_orderly cap i s af =
      let g = after_good af in
      let t = g.tally in
      record {
        within = t.within;
        counted = omega (arith, t.steps, t.each);
        stored = g.front.numbers;
        fit = λ n x at. (g.chains n x at).fit;
        apart = t.apart;
      }

  pub joins_few : (n : ℕ) → JoinsFew a p n n
  joins_few n cap i s x af at =
      let g = after_good af in
      let c = g.chains n x at in
      let l = reads_length a p c.reads in
      (c.moves, c.reads, c.cost, l, omega (arith, nth_below s.nodes n x at, g.tally.within))
