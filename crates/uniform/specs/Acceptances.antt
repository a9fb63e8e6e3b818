-- A task that passes the tests of the reader is accepted: what makes the sample line a lawful space.
use Rattle.std.specs.Prelude.{◌≡◌, ℕ, zero, suc, Bool, true, ◌&&◌, List, [], ◌∷◌, length, Some, nat_le}
use Rattle.std.proofs.Common.{subst}
use Rattle.std.proofs.lemmas.Bool.{and_parts, leb-true}
use Rattle.rows.specs.Rows.{Move, fits, complete, usable}
use Rattle.rows.specs.Tasks.{Task, nth, MoveFits, Accepted}
use Rattle.planning.proofs.Lists.{some_inj, none_some}

-- the price is allowed, and condition and effect fit
abbrev pub fit : List ℕ → Move → Bool
fit vs m = (nat_le m.price 1000000000 && fits vs m.condition) && fits vs m.effect

abbrev pub fit_all : List ℕ → List Move → Bool
fit_all vs [] = true
fit_all vs (m ∷ ms) = fit vs m && fit_all vs ms

-- what every accepted task has, as one test
abbrev pub accepts : Task → Bool
accepts t = ((usable t.values && complete t.values t.start) && (fits t.values t.goal && nat_le (length t.moves) 4096)) && fit_all t.values t.moves

fit_is : (vs : List ℕ) (m : Move) → fit vs m ≡ true → MoveFits vs m
fit_is vs m h =
    let a = and_parts (nat_le m.price 1000000000 && fits vs m.condition) (fits vs m.effect) h in
    let b = and_parts (nat_le m.price 1000000000) (fits vs m.condition) a.0 in
    record { price = leb-true m.price 1000000000 b.0; condition = b.1; effect = a.1 }

fit_at : (vs : List ℕ) (ms : List Move) → fit_all vs ms ≡ true → (n : ℕ) (m : Move) → nth ms n ≡ Some m → MoveFits vs m
fit_at vs [] h n m e = none_some m e
fit_at vs (x ∷ ms) h zero m e = fit_is vs m (subst (λ z. fit vs z ≡ true) (some_inj x m e) (and_parts (fit vs x) (fit_all vs ms) h).0)
fit_at vs (x ∷ ms) h (suc n) m e = fit_at vs ms (and_parts (fit vs x) (fit_all vs ms) h).1 n m e

pub accepted : (t : Task) → accepts t ≡ true → Accepted t
accepted t h =
    let a = and_parts ((usable t.values && complete t.values t.start) && (fits t.values t.goal && nat_le (length t.moves) 4096)) (fit_all t.values t.moves) h in
    let b = and_parts (usable t.values && complete t.values t.start) (fits t.values t.goal && nat_le (length t.moves) 4096) a.0 in
    let c = and_parts (usable t.values) (complete t.values t.start) b.0 in
    let d = and_parts (fits t.values t.goal) (nat_le (length t.moves) 4096) b.1 in
    record { usable = c.0; start = c.1; goal = d.0; few = leb-true (length t.moves) 4096 d.1; move = fit_at t.values t.moves a.1 }
