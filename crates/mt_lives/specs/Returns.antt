-- What a recovery makes of a store's logs, and with what its next life begins.
use Rattle.std.specs.Prelude.{◌≡◌, ◌⊎◌, ℕ, ◌+◌, true, List, [], length}
use Rattle.mt_rows.specs.{Accounts.Accounts, declared.refusal.Refusal.Refusal, declared.refusal.Refusal.TheVariants.Memory}
use Rattle.mt_disk.specs.{declared.mem.MemDisk.MemDisk, Mem.mem_state}
use Rattle.mt_core.specs.{Restores.IsRestored, Rights.IsRightState}
use Rattle.mt_recover.specs.declared.recovering.Recovered.{Recovered}
use Rattle.mt_slots.specs.declared.store_slots.StoreSlots.{StoreSlots}
use Rattle.mt_store_logs.specs.{declared.fault.StoreRefusal.StoreRefusal, declared.store_log.StoreLog.StoreLog}
use Rattle.mt_store_logs.specs.Recovers.{refusal_in, ServesAgain, IsNotRecovered}
use Rattle.mt_lives.specs.declared.serving.Serving.{Serving}

-- no event has been named, and no Settle has begun
pub record IsFresh (serving : Serving) : Type 0 where
  pub tickets : serving.roster.tickets.entries ≡ []
  pub names : serving.roster.names.entries ≡ []
  pub settles : serving.settles.entries ≡ []

-- a life begins with what was recovered
pub record Begins (accounts : Accounts) (r : Recovered) (logs : List (StoreLog MemDisk)) (serving : Serving) : Type 0 where
  pub state : IsRestored r.resume (length logs) accounts r.pairs.items serving.state
  pub right : IsRightState serving.state
  pub fresh : IsFresh serving

-- The store was recovered, and its next turn goes to the generation after that from which its logs stand.
abbrev pub AreRecovered : Accounts → StoreSlots MemDisk → StoreSlots MemDisk → Recovered → ℕ → List (StoreLog MemDisk) → List (StoreLog MemDisk) → Type 0
AreRecovered accounts slots now r next old new =
    (generation : ℕ) × (next ≡ generation + 1) × ServesAgain (λ (d : MemDisk). true) mem_state (λ d. d.failures) accounts r generation old slots new now

-- it was not, or there was no memory for a state
pub record AreNotRecovered (accounts : Accounts) (slots now : StoreSlots MemDisk) (e : Refusal) (old new : List (StoreLog MemDisk)) : Type 0 where
  pub cause :
      ((refused : StoreRefusal) × (refusal_in refused ≡ e) × IsNotRecovered (λ (d : MemDisk). true) mem_state (λ d. d.failures) accounts refused old slots new now)
      ⊎ ((e ≡ Memory) × ((r : Recovered) × (next : ℕ) × AreRecovered accounts slots now r next old new))
