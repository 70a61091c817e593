-- What a `MemDisk` shows: the state of an honest disk, and the plan by which its calls fail.
use Rattle.std.specs.{Prelude.{ℕ, List, [], ◌∷◌, ◌++◌, map, Vec, Option, Some, None, nat_lt, if◌then◌else◌}, declared.alloc.Global.Global}
use Rattle.mt_disk.specs.{Disk.{Range, Moment, DiskState, Plan}, declared.mem.MemDisk.MemDisk}

-- what it keeps of a moment
abbrev pub moment_of : Vec ℕ Global × Vec Range Global → Moment
moment_of kept = record { durable = kept.0.items; dirty = kept.1.items }

-- the moments that it kept, and one more behind them
abbrev pub moments_and : List (Vec ℕ Global × Vec Range Global) → List ℕ → List Range → List Moment
moments_and past durable dirty = map moment_of past ++ record { durable = durable; dirty = dirty } ∷ []

-- what a read of it gives, what a crash may leave, and what it might have left before
abbrev pub mem_state : MemDisk → DiskState
mem_state m = record { image = m.image.items; now = record { durable = m.durable.items; dirty = m.dirty.items }; past = map moment_of m.past.items }

-- the plan of a `MemDisk`
abbrev pub plan_of : MemDisk → Plan
plan_of m = record { calls = m.calls; fails = m.fails.items; stop = m.stop }

-- the call at which a disk is to stop, unless it has stopped there already
abbrev pub still_to_come : Option ℕ → ℕ → Option ℕ
still_to_come None calls = None
still_to_come (Some first) calls = if nat_lt calls first then Some first else None

-- the plan behind a crash: its calls count on, and a stop that has come is over
abbrev pub plan_found : Plan → Plan
plan_found p = record { calls = p.calls; fails = p.fails; stop = still_to_come p.stop p.calls }
