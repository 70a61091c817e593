-- What a worker's log is given.
use Rattle.std.specs.Prelude.{◌≡◌, ◌⊎◌, ℕ, ◌+◌, ◌<◌, ◌≤◌, ◌==◌, Bool, not, ◌&&◌, nat_lt, List, ◌++◌, map, length, drop, Option, Some, None, slice_get}
use Rattle.std.specs.List.{All, filter}
use Rattle.mt_rows.specs.{declared.record.Record.Record, declared.record.Batch.Batch}
use Rattle.mt_tape.specs.{declared.entry.Entry.Entry, Histories.logged}

-- a placed change, as it is logged: the step that placed it, and what it did to the key's row
abbrev pub record_of : Entry → Record
record_of e = record { stamp = e.step; tenant = e.tenant; key = e.key; write = logged e }

-- whether a change was placed by a worker's operation, over one step and up to another
abbrev pub is_between : ℕ → ℕ → ℕ → Entry → Bool
is_between worker from to e = (e.worker == worker) && nat_lt from e.step && not (nat_lt to e.step)

-- the changes that a worker's operations placed over one step and up to another, the oldest first
abbrev pub records_between : ℕ → ℕ → ℕ → List Entry → List Record
records_between worker from to entries = map record_of (filter (is_between worker from to) entries)

-- The next batch of a worker's log, which has the worker's changes up to a step: those after that, all of them up to the last step that was made, or the
-- first 4,096 up to the last of these.
pub record IsNextBatch (worker from steps : ℕ) (entries : List Entry) (b : Batch) : Type 0 where
  pub begins : b.from ≡ from
  pub records : b.records ≡ records_between worker from b.to entries
  pub made : b.to ≤ steps
  pub ends : (b.to ≡ steps) ⊎ (length b.records ≡ 4096)

-- the changes of a worker's operations among some writes
abbrev pub records_of : ℕ → List Entry → List Record
records_of worker entries = map record_of (filter (λ e. e.worker == worker) entries)

-- Records were gathered from a place of the tape on: all that the worker has from there; or 4,096, of which the last was placed by a step, where others
-- may come after it.
abbrev pub Gathers : ℕ → ℕ → List Entry → List Record → Option ℕ → Type 0
Gathers worker place entries records None = records ≡ records_of worker (drop place entries)
Gathers worker place entries records (Some step) =
    (last : ℕ) × (e : Entry) × (slice_get entries last ≡ Some e) × (e.step ≡ step) × (length records ≡ 4096) × All (λ r. r.stamp < step + 1) records
    × (records ++ records_of worker (drop (last + 1) entries) ≡ records_of worker (drop place entries))
