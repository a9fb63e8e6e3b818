-- Text that is appended piece by piece: what is there and what is left make the whole.
use Rattle.std.proofs.Common.{◌≡◌, ℕ, List, [], ◌++◌, sym, ap, ◌∙◌, append_assoc, append-nil}

module _ (had rest whole : List ℕ) (all : had ++ rest ≡ whole) where
  pub one_more : (has piece left : List ℕ) → has ≡ had ++ piece → rest ≡ piece ++ left → has ++ left ≡ whole
  one_more has piece left e f =
      ap (λ t. t ++ left) e ∙ append_assoc had piece left ∙ ap (λ t. had ++ t) (sym f) ∙ all

  pub no_more : rest ≡ [] → had ≡ whole
  no_more e = sym (append-nil had) ∙ ap (λ t. had ++ t) (sym e) ∙ all
