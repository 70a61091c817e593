-- The steps to what is replayed: one walk over the ranges of void numbers for stamps that rise.
use Rattle.std.specs.{Prelude.{◌≡◌, ℕ, ◌≤◌, Bool, not, ◌&&◌, ◌||◌, nat_lt, List, drop}, List.filter, List.Sorted.IsPermutation}
use Rattle.mt_rows.specs.{declared.record.Record.Record, Tenants.{Contents as Pairs}}
use Rattle.mt_log.specs.Contents.{Contents}
use Rattle.mt_crashes.specs.Fronts.{Numbers, is_void, all_voids, all_records, is_replayed, Rise, after_replay}
use Rattle.mt_recover.specs.{Changes.{Changes, AreAfter}, Merges.{Taken, all_taken}, Twice.AreApart, declared.voids.Walk.Walk}

-- Whether a number is void, as a walk knows it: the ranges behind it count as if they held all numbers up to where they reach, and those that are left are
-- looked at. Of a walk that has not begun this is `is_void`.
abbrev pub is_void_behind : List Numbers → Walk → ℕ → Bool
is_void_behind voids walk n = (nat_lt 0 n && not (nat_lt walk.reach n)) || is_void (drop walk.next voids) n

-- two tests agree on a number and all over it
abbrev pub AgreeFrom : ℕ → (ℕ → Bool) → (ℕ → Bool) → Type 0
AgreeFrom from p q = (n : ℕ) → from ≤ n → p n ≡ q n

-- a walk knows of each number from this one on whether it is void
abbrev pub Knows : List Numbers → ℕ → Walk → Type 0
Knows voids from walk = AgreeFrom from (is_void_behind voids walk) (is_void voids)

-- whether a record of this stamp is replayed
abbrev pub counts : List Numbers → ℕ → ℕ → ℕ → Bool
counts voids base cutoff stamp = nat_lt base stamp && not (nat_lt cutoff stamp) && not (is_void voids stamp)

-- of the records that were taken those that are replayed
abbrev pub replayed_of : List Numbers → ℕ → ℕ → List Taken → List Record
replayed_of voids base cutoff taken = filter (is_replayed voids base cutoff) (all_taken taken)

-- pairs after the records that were taken, as far as they are replayed
abbrev pub HaveReplayed : List Numbers → ℕ → ℕ → List Taken → Pairs → Changes → Type 0
HaveReplayed voids base cutoff taken old changes = AreAfter changes old (after_replay old (replayed_of voids base cutoff taken))

-- what is replayed of logs: each record that counts once, by stamps that rise; and no stamp stands in two logs
pub record IsReplayOf (fronts : List Contents) (base cutoff : ℕ) (records : List Record) : Type 0 where
  pub same : IsPermutation (filter (is_replayed (all_voids fronts) base cutoff) (all_records fronts)) records
  pub rises : Rise base records
  pub apart : AreApart fronts

-- what it leaves at each key that changes
abbrev pub AreReplayed : List Contents → ℕ → ℕ → Pairs → Changes → Type 0
AreReplayed fronts base cutoff old changes = (records : List Record) × IsReplayOf fronts base cutoff records × AreAfter changes old (after_replay old records)

-- and the pairs after it
abbrev pub IsReplayed : List Contents → ℕ → ℕ → Pairs → Pairs → Type 0
IsReplayed fronts base cutoff old new = (records : List Record) × IsReplayOf fronts base cutoff records × (new ≡ after_replay old records)
