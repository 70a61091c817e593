-- That a put's write may come next on the tape, for the law of it.
use Rattle.std.{proofs.Common.{ℕ, ap, sym}, specs.FinMap.get}
use Rattle.mt_rows.specs.Rows.{Bytes}
use Rattle.mt_insert.proofs.laws.a_placed_write_is_next.Goals as goal

pub returns : goal.returns
returns c = λ floor step entries contents task put later. record { later = later; before = ap (λ (q : ℕ × Bytes). get contents q) (sym put.owner) }
