-- A cost kind's own arithmetic, without limit, and its laws.
use Rattle.std.specs.Prelude.{◌≡◌, ℕ, Bool, false, ◌⊎◌, List, [], ◌∷◌}

pub record Arithmetic : Type 1 where
  pub Value : Type 0
  -- the cost of nothing, and of one move at a price
  pub nothing : Value
  pub priced : ℕ → Value
  -- a first cost joined to a rest
  pub joined : Value → Value → Value
  -- the first comes before the second
  pub before : Value → Value → Bool
  -- not coming after is total and transitive; two costs may tie
  pub total : (x y : Value) → (before y x ≡ false) ⊎ (before x y ≡ false)
  pub transitive : (x y z : Value) → before y x ≡ false → before z y ≡ false → before z x ≡ false
  -- a rest that does not come after another still does not once the same first cost is joined to both
  pub kept_by_join : (f x y : Value) → before y x ≡ false → before (joined f y) (joined f x) ≡ false
  -- a join never comes before its rest
  pub never_before_rest : (f x : Value) → before (joined f x) x ≡ false

-- x comes before y or ties with it
abbrev pub NotAfter : (a : Arithmetic) → a.Value → a.Value → Type 0
NotAfter a x y = a.before y x ≡ false

-- what moves of these prices cost, done in this order: the first one's cost joined to that of the others, however many they are
abbrev pub cost_of : (a : Arithmetic) → List ℕ → a.Value
cost_of a [] = a.nothing
cost_of a (p ∷ ps) = a.joined (a.priced p) (cost_of a ps)
