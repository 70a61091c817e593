-- When the logs have a turn for the number of a worker's answers, and which.
use Rattle.std.specs.Prelude.{◌≡◌, ◌≢◌, ℕ, zero, suc, ◌+◌, ◌%◌, ◌<◌, ◌≤◌, ◌⊎◌, Result}
use Rattle.mt_rows.specs.declared.refusal.Refusal.{Refusal}
use Rattle.mt_settle.specs.Turns.{Turn, BroughtUp}

-- what a worker's answers are kept in: the logs, the worker, how many answers there were since its own log last had a turn for their number, and
-- which log of the round is next
pub record Kept (K : Type 0) : Type 0 where
  pub logs : K
  pub worker : ℕ
  pub since : ℕ
  pub next : ℕ

abbrev pub keeping : {K : Type 0} → K → ℕ → ℕ → ℕ → Kept K
keeping logs worker since next = record { logs = logs; worker = worker; since = since; next = next }

-- logs have a turn with the next answer: it is the 1,024th of a worker that has a log
abbrev pub IsTurnNext : {K : Type 0} → (K → ℕ) → Kept K → Type 0
IsTurnNext logs old = (old.since + 1 ≡ 1024) × (old.worker < logs old.logs)

module _ {K : Type 0} (does : K → Turn → K → Type 0) (logs : K → ℕ) where
  -- a log had a turn, whatever it told
  abbrev pub HasTurn : ℕ → K → K → Type 0
  HasTurn log old new = (told : Result ℕ Refusal) × does old (BroughtUp log told) new

  -- a log had a turn, unless it is the worker's own
  abbrev pub HasTurnUnlessOwn : ℕ → ℕ → K → K → Type 0
  HasTurnUnlessOwn worker log old new = ((log ≡ worker) × (new ≡ old)) ⊎ ((log ≢ worker) × HasTurn log old new)

  -- fewer than 1,024 answers so far: one more is counted
  abbrev pub CountsOn : Kept K → Kept K → Type 0
  CountsOn old new = (old.since + 1 < 1024) × (new ≡ record old { since = old.since + 1 })

  -- the 1,024th of a worker that has no log: counting begins anew
  abbrev pub CountsAnew : Kept K → Kept K → Type 0
  CountsAnew old new = (old.since + 1 ≡ 1024) × (logs old.logs ≤ old.worker) × (new ≡ record old { since = 0 })

  -- The 1,024th: the worker's own log had a turn, and then the next one of the round over all logs. Counting begins anew, and the round goes on.
  pub record GivesTurns (old new : Kept K) : Type 0 where
    pub full : old.since + 1 ≡ 1024
    pub has : old.worker < logs old.logs
    pub mid : K
    pub own : HasTurn old.worker old.logs mid
    pub other : HasTurnUnlessOwn old.worker (old.next % logs old.logs) mid new.logs
    pub rest : new ≡ record old { logs = new.logs; since = 0; next = old.next % logs old.logs + 1 }

  -- one answer more
  abbrev pub Counts : Kept K → Kept K → Type 0
  Counts old new = CountsOn old new ⊎ CountsAnew old new ⊎ GivesTurns old new

-- which log's turn it is, in a round over so many logs of which this one is next, after so many turns more
abbrev pub turn_after : ℕ → ℕ → ℕ → ℕ
turn_after count next zero = next % count
turn_after count next (suc turns) = turn_after count (next % count + 1) turns
