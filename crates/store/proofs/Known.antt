-- A row that no kept row covers is not known, so keeping it is refused only if it does not fit or the store is full.
use Rattle.std.proofs.Common.{◌≡◌, ℕ, ◌≤◌, true, not, eqb, List, length, get_or, refl, ap, ◌∙◌}
use Rattle.std.proofs.lemmas.Bool.{eq-eqb, or_right, both_ways}
use Rattle.rows.specs.declared.refusals.Refusal.{Refusal}
use Rattle.rows.specs.declared.refusals.Refusal.TheVariants.{Stub, Contents, Count, Position, Price, Name, BadFile, NoSpace, Used, Idle, Torn, ShortBuffer, Full, Misfit, Long, Known}
use Rattle.rows.specs.Rows.{Row, covers, covers_at, fixed, fits}
use Rattle.rows.proofs.Both.{both_from}
use Rattle.store.specs.Stores.{Holds, Uncovered, KeepRefused, Declined}

-- a row covers itself
pub covers_self : (row : Row) → covers row row ≡ true
covers_self row = both_from covers_at row row refl (λ v h. or_right (not (fixed (get_or row v 0))) (eqb (get_or row v 0) (get_or row v 0)) (eq-eqb (get_or row v 0) (get_or row v 0) refl))

pub not_held : (rows : List Row) (row : Row) → Uncovered rows row → Holds rows row → ⊥
not_held rows row u h = u h.0 (record { below = h.1; over = ap (λ x. covers x row) h.2 ∙ covers_self row })

pub only_full : (values : List ℕ) (rows : List Row) (space : ℕ) (row : Row) (e : Refusal)
    → fits values row ≡ true → (Holds rows row → ⊥) → KeepRefused values rows space row e → (e ≡ Full) × (space ≤ length rows)
only_full values rows space row Full f n k = (refl, k.2)
only_full values rows space row Misfit f n k = absurd (both_ways (fits values row) k f)
only_full values rows space row Known f n k = absurd (n k.1)
only_full values rows space row Stub f n k = absurd k
only_full values rows space row Contents f n k = absurd k
only_full values rows space row Count f n k = absurd k
only_full values rows space row Position f n k = absurd k
only_full values rows space row Price f n k = absurd k
only_full values rows space row Name f n k = absurd k
only_full values rows space row BadFile f n k = absurd k
only_full values rows space row NoSpace f n k = absurd k
only_full values rows space row Used f n k = absurd k
only_full values rows space row Idle f n k = absurd k
only_full values rows space row Torn f n k = absurd k
only_full values rows space row ShortBuffer f n k = absurd k
only_full values rows space row Long f n k = absurd k

pub declined : (values : List ℕ) (rows : List Row) (space : ℕ) (row : Row) (e : Refusal)
    → fits values row ≡ true → Uncovered rows row → KeepRefused values rows space row e → Declined values rows space row e
declined values rows space row e f u k =
    let o = only_full values rows space row e f (not_held rows row u) k in
    record { misfit = λ n. absurd (both_ways (fits values row) n f); full = λ y. (o.0, u, o.1) }
