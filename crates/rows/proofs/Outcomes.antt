-- What a call that may write a row has answered, from what its tests said.
use Rattle.std.proofs.Common.{◌≡◌, ℕ, ◌<◌, Bool, true, false, ◌&&◌, cond, eqb, List, ◌++◌, length, Some, None, Err, Option, sym, refl, ap, ◌∙◌, append-nil, arith}
use Rattle.std.proofs.lemmas.List.{drop_all}
use Rattle.std.proofs.lemmas.Bool.{and_parts, eqb-true, lt-ltb, and_from, eq-eqb, both_ways}
use Rattle.rows.specs.declared.refusals.Refusal.TheVariants.{ShortBuffer}
use Rattle.rows.specs.Rows.{Row}
use Rattle.rows.specs.Calls.{over, Outcome, written, misfit, Placing, placed, placing, even}

module _ (fit test : Bool) (row : Row) (out : List ℕ) (f : fit ≡ true) (t : test ≡ true) where
  pub too_short : length out < length row
      → ◌≡◌ {A = Outcome} (record { answer = Err ShortBuffer; buffer = out }) (cond fit (written (cond test (Some row) None) out) (misfit out))
  too_short l = rw (f, t, lt-ltb (length out) (length row) l)

  pub placed_whole : (new : List ℕ) → length row ≡ length out → new ≡ over row out
      → ◌≡◌ {A = Placing} (record { answer = true; buffer = new }) (placing fit (cond test (Some row) None) out)
  placed_whole new l e =
      let whole : new ≡ row = e ∙ ap (λ r. row ++ r) (drop_all (length row) out (omega arith)) ∙ append-nil row in
      rw (f, t, whole)

pub even_from : (c e g : Row) (out : List ℕ) → length c ≡ length g → length e ≡ length g → length out ≡ length g → even c e g out ≡ true
even_from c e g out h k l =
    and_from (eqb (length c) (length g)) _ (eq-eqb (length c) (length g) h)
    (and_from (eqb (length e) (length g)) (eqb (length out) (length g)) (eq-eqb (length e) (length g) k) (eq-eqb (length out) (length g) l))

pub record Even (c e g : Row) (out : List ℕ) : Type 0 where
  pub condition : length c ≡ length g
  pub effect : length e ≡ length g
  pub buffer : length out ≡ length g

pub even_parts : (c e g : Row) (out : List ℕ) → even c e g out ≡ true → Even c e g out
even_parts c e g out h =
    let p = and_parts (eqb (length c) (length g)) (eqb (length e) (length g) && eqb (length out) (length g)) h in
    let q = and_parts (eqb (length e) (length g)) (eqb (length out) (length g)) p.1 in
    record { condition = eqb-true (length c) (length g) p.0; effect = eqb-true (length e) (length g) q.0; buffer = eqb-true (length out) (length g) q.1 }

placed_some : (o : Option Row) (out new : List ℕ) → ◌≡◌ {A = Placing} (record { answer = true; buffer = new }) (placed o out) → o ≡ Some new
placed_some None out new h = absurd (both_ways false refl (sym (ap (λ (w : Placing). w.answer) h)))
placed_some (Some row) out new h = ap Some (sym (ap (λ (w : Placing). w.buffer) h))

placed_none : (o : Option Row) (out new : List ℕ) → ◌≡◌ {A = Placing} (record { answer = false; buffer = new }) (placed o out) → (o ≡ None) × (new ≡ out)
placed_none None out new h = (refl, ap (λ (w : Placing). w.buffer) h)
placed_none (Some row) out new h = absurd (both_ways false refl (ap (λ (w : Placing). w.answer) h))

-- what an inner call that writes a row tells: the row, or that there is none
pub placing_some : (fit : Bool) (o : Option Row) (out new : List ℕ) → fit ≡ true → ◌≡◌ {A = Placing} (record { answer = true; buffer = new }) (placing fit o out) → o ≡ Some new
placing_some fit o out new f h = placed_some o out new (h ∙ ap (λ t. placing t o out) f)

pub placing_none : (fit : Bool) (o : Option Row) (out new : List ℕ) → fit ≡ true → ◌≡◌ {A = Placing} (record { answer = false; buffer = new }) (placing fit o out) → (o ≡ None) × (new ≡ out)
placing_none fit o out new f h = placed_none o out new (h ∙ ap (λ t. placing t o out) f)
