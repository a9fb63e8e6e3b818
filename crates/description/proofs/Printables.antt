-- Printable bytes are text.
use Rattle.std.proofs.Common.{◌≡◌, ℕ, ◌<◌, true, List, length, get_or, IsUtf8, arith}
use Rattle.std.proofs.lemmas.Str.Ascii.{IsAscii-from_reads}
use Rattle.std.proofs.lemmas.Str.{IsUtf8-from_ascii}
use Rattle.std.proofs.lemmas.Bool.Decides.{nat_tests}
use Rattle.rows.specs.Rows.{all}
use Rattle.rows.proofs.Alls.{all_at}
use Rattle.task.specs.Files.{printable}

small : (c : ℕ) → printable c ≡ true → c < 128
small c h = grind (arith, nat_tests)

pub printable_text : (bs : List ℕ) → all printable bs ≡ true → IsUtf8 bs
printable_text bs h = IsUtf8-from_ascii bs (IsAscii-from_reads bs (length bs) (omega arith) (λ k l. small (get_or bs k 0) (all_at printable bs h k l)))
