-- Workers that serve one connection at a time, or many: what led them.
use Rattle.std.specs.{Prelude.{◌≡◌, ◌≢◌, ℕ, Bool, List, map, vec_len}, List.AllZip}
use Rattle.mt_disk.specs.Disk.{DiskState}
use Rattle.mt_state.specs.Views.{StateView}
use Rattle.mt_crew.specs.{Servings.IsServed, declared.crew.Served.Served}
use Rattle.mt_loop.specs.Deeds.{Led}
use Rattle.mt_service.specs.{declared.callers.DeskCaller.DeskCaller, declared.workers.SessionWorker.SessionWorker, Sessions.{AsksBook, SeeFronts, Within}}
use Rattle.mt_service.specs.declared.loops.{LoopWorker.LoopWorker, Workers.Workers, Workers.TheVariants.{Alone, Sharing}}

-- Another session of a caller has its turn. The opened tenant may be another one, and nothing else is.
abbrev pub Resumes : {L R D S K : Type 0} → DeskCaller L R D S K → DeskCaller L R D S K → Type 0
Resumes old new = new ≡ record old { opened = new.opened }

-- sessions that share a worker's caller led it to another
abbrev pub IsLed : {L J R D : Type 0} (is_honest : D → Bool) (state : D → DiskState) (failures : D → ℕ) (was_refused : D → Bool) → SessionWorker L J R D → SessionWorker L J R D → Type 0
IsLed is_honest state failures was_refused old new = Led (AsksBook is_honest state failures was_refused) Resumes old.caller new.caller

-- so of a worker that is done, and each exchange was made over a beginning of this history
abbrev pub IsLedOver : {L J R D : Type 0} (is_honest : D → Bool) (state : D → DiskState) (failures : D → ℕ) (was_refused : D → Bool) → List StateView → SessionWorker L J R D → Served (SessionWorker L J R D) → Type 0
IsLedOver is_honest state failures was_refused history old served =
    Led (Within (SeeFronts history) (AsksBook is_honest state failures was_refused)) Resumes old.caller served.worker.caller

-- how many workers there are
abbrev pub count_of : {W E : Type 0} → Workers W E → ℕ
count_of (Alone workers) = vec_len workers
count_of (Sharing loops doors) = vec_len loops

-- what came back: each worker at its place, led on by its sessions, or left by its loop
abbrev pub AreServed : {W E : Type 0} (serves : W → Bool → W → Type 0) (leaves : E → W → Type 0) → Workers W E → List (Served W) → Type 0
AreServed serves leaves (Alone workers) served = AllZip (IsServed serves) workers.items served
AreServed serves leaves (Sharing loops doors) served = AllZip (λ one done. leaves one done.worker) loops.items served

-- these workers serve one connection at a time
abbrev pub AreAlone : {L J R D : Type 0} → List (SessionWorker L J R D) → Workers (SessionWorker L J R D) (LoopWorker L J R D) → Type 0
AreAlone workers (Alone others) = others.items ≡ workers
AreAlone workers (Sharing loops doors) = ⊥

-- each of these workers has a loop of its own
abbrev pub AreLoopsOf : {L J R D : Type 0} → List (SessionWorker L J R D) → Workers (SessionWorker L J R D) (LoopWorker L J R D) → Type 0
AreLoopsOf workers (Alone others) = ⊥
AreLoopsOf workers (Sharing loops doors) = map (λ one. one.worker) loops.items ≡ workers

-- these workers serve as the options say: one connection at a time, or each with a loop of its own
abbrev pub AreMadeOf : {L J R D : Type 0} → ℕ → List (SessionWorker L J R D) → Workers (SessionWorker L J R D) (LoopWorker L J R D) → Type 0
AreMadeOf connections workers made =
    (connections ≡ 1 → AreAlone workers made) × (connections ≢ 1 → AreLoopsOf workers made)
