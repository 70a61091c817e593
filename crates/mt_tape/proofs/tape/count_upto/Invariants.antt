-- What is before has a step up to this one, and what is behind a later one.
use Rattle.std.{proofs.Common.{◌≡◌, ◌<◌, ◌≤◌, ◌-◌, ℕ, Some, length}, specs.Prelude.slice_get}
use Rattle.mt_tape.specs.declared.entry.Entry.{Entry}
use Rattle.mt_tape.proofs.tape.count_upto.Given as goal

abbrev pub invariant-loop-low : goal.invariant-loop-low
invariant-loop-low l = record {
  order : l.low ≤ l.high;
  within : l.high ≤ length l.entries.items;
  before : (k : ℕ) (e : Entry) → k < l.low → slice_get l.entries.items k ≡ Some e → e.step ≤ l.step;
  behind : (k : ℕ) (e : Entry) → l.high ≤ k → slice_get l.entries.items k ≡ Some e → l.step < e.step;
}

abbrev pub decreases-loop-low : goal.decreases-loop-low
decreases-loop-low l = l.high - l.low
