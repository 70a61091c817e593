-- the greatest so far, of the number and the stamps before this place
use Rattle.std.{proofs.Common.{Some, ℕ, ◌<◌, ◌≡◌, ◌≤◌}, specs.List.slice_get}
use Rattle.mt_rows.specs.{declared.record.TenantPair.TenantPair, TenantPairs.AreStampedUpto}
use Rattle.mt_checkpoint.proofs.checkpoint.greatest_stamp.Given as goal

abbrev pub invariant-loop-place : goal.invariant-loop-place
invariant-loop-place l = record {
  more : l.least ≤ l.greatest;
  covers : (i : ℕ) (p : TenantPair) → i < l.place → slice_get l.pairs i ≡ Some p → p.row.stamp ≤ l.greatest;
  least : (n : ℕ) → l.least ≤ n → AreStampedUpto n l.pairs → l.greatest ≤ n;
}
