-- The lives of a store, and what a list of events with its notes may be.
use Rattle.std.specs.Prelude.{◌≡◌, ◌≢◌, ◌⊎◌, ℕ, ◌+◌, ◌≤◌, ◌==◌, if◌then◌else◌, min, max, true, List, [], ◌∷◌, ◌++◌, Option, Some, None, Result, Ok, Err}
use Rattle.mt_rows.specs.{Tenants.{Contents as Pairs, tenant_map}, TenantPairs.pairs_of, Maps.is_scan, declared.refusal.Refusal.Refusal}
use Rattle.mt_rows.specs.declared.refusal.Refusal.TheVariants.{Memory, Device, Spent}
use Rattle.mt_runs.specs.{declared.event.Answer.Answer, declared.event.Event.Event, declared.event.Event.TheVariants.{Begin, Step}, declared.event.Told.{Told as Answered}, declared.event.Told.TheVariants.Done}
use Rattle.mt_runs.specs.Runs.{Run, Story, Asked, Finished as IsFinished, story_of, last_step}
use Rattle.mt_runs.specs.Placings.{Quotas, Maps, Placing, Fits, IsLegal, AreScansLawful, HasOneOrder, map_upto}
use Rattle.mt_lives.specs.{declared.events.StoreEvent.StoreEvent, declared.events.StoreEvent.TheVariants.{Core, Move, Take, Tidy, Flush, Reopen, SettleBegin, SettleNext, CheckBegin, CheckStep, Crash}}
use Rattle.mt_lives.specs.declared.events.StoreNote.{StoreNote}
use Rattle.mt_lives.specs.declared.events.StoreNote.TheVariants.{Told, Finished, Took, Tidied, Flushed, Reopened, Begun, Turned, Settled, CheckBegun, CheckTurned, CheckWrites, CheckTold, CheckAdded, CheckEnded, TurnEnded, Recovered, Refused, NoSuch}
use Rattle.std.specs.FinMap as pairs

-- A life of a store, from one recovery to the next: the pairs that it began with, how many steps were made before, and what happened to its operations.
pub record Life : Type 0 where
  pub first : Pairs
  pub base : ℕ
  pub run : Run

-- a life in which nothing has happened
abbrev pub life_from : Pairs → ℕ → Life
life_from first base = record { first = first; base = base; run = [] }

-- with one event more
abbrev pub with_event : Life → Event → Answered → Life
with_event life e t = record { first = life.first; base = life.base; run = life.run ++ (e, t) ∷ [] }

abbrev pub story_in : Life → Story
story_in life = story_of life.base life.run

-- each tenant's map when it began
abbrev pub firsts : Life → Maps
firsts life t = tenant_map t life.first

-- its last step
abbrev pub steps_in : Life → ℕ
steps_in life = last_step (story_in life)

-- one order explains it
abbrev pub HasOrder : Quotas → Life → Type 0
HasOrder quotas life = HasOneOrder quotas (firsts life) (story_in life)

-- By one order that explains a life, these are the pairs of all tenants after its changes up to a number.
pub record AreLeftOf (quotas : Quotas) (life : Life) (number : ℕ) (found : Pairs) : Type 0 where
  pub order : Placing
  pub fits : Fits quotas (firsts life) (story_in life) order
  pub legal : IsLegal quotas (firsts life) (story_in life) order
  pub scans : AreScansLawful quotas (firsts life) (story_in life) order
  pub maps : (t : ℕ) → tenant_map t found ≡ map_upto quotas (firsts life) (story_in life) order t number

-- A life that has ended, and the number up to which its changes are kept.
pub record Past : Type 0 where
  pub life : Life
  pub kept : ℕ

-- A recovery that was stopped, without a note of what it recovered: it kept the changes up to a cutoff, at least every number that was settled.
pub record KeepsUpto (settled : ℕ) (old new : Past) : Type 0 where
  pub cutoff : ℕ
  pub settled_so : settled ≤ cutoff
  pub same : new.life ≡ old.life
  pub kept : new.kept ≡ min old.kept cutoff

-- what a refused recovery keeps
abbrev pub MayKeep : ℕ → Past → Past → Type 0
MayKeep settled old new = (new ≡ old) ⊎ KeepsUpto settled old new

-- How a store stands after some events: after how many steps each open Settle began; the greatest number that a Settle has answered; after how many steps
-- the turn that is made began, if one is; and the life that it serves, or the one that has ended and was not recovered yet.
pub record Standing : Type 0 where
  pub begun : ℕ → Option ℕ
  pub settled : ℕ
  pub check : Option ℕ
  pub now : Result Life Past

-- a new store
abbrev pub new_standing : Standing
new_standing = record { begun = λ id. None; settled = 0; check = None; now = Ok (life_from pairs.empty 0) }

-- what a crash now ends: all changes of the life that is served are kept, of one that has ended those that were
abbrev pub past_of : Result Life Past → Past
past_of (Ok life) = record { life = life; kept = steps_in life }
past_of (Err past) = past

-- the store serves a life
abbrev pub Lives : Standing → Life → Type 0
Lives standing life = standing.now ≡ Ok life

abbrev pub IsServing : Standing → Type 0
IsServing standing = (life : Life) × Lives standing life

-- one Settle stands so from now on, and every other as it did
abbrev pub with_settle : ℕ → Option ℕ → (ℕ → Option ℕ) → ℕ → Option ℕ
with_settle id at begun q = if q == id then at else begun q

abbrev pub settling : ℕ → Option ℕ → Standing → Standing
settling id begun standing = record { begun = with_settle id begun standing.begun; settled = standing.settled; check = standing.check; now = standing.now }

-- a Settle has answered a number
abbrev pub settled_by : ℕ → ℕ → Standing → Standing
settled_by id number standing =
    record { begun = with_settle id None standing.begun; settled = max standing.settled number; check = standing.check; now = standing.now }

-- a turn is made that began after so many steps, or none is
abbrev pub checking : Option ℕ → Standing → Standing
checking check standing = record { begun = standing.begun; settled = standing.settled; check = check; now = standing.now }

-- the life goes on
abbrev pub living : Life → Standing → Standing
living life standing = record { begun = standing.begun; settled = standing.settled; check = standing.check; now = Ok life }

-- a crash: no Settle is open, and no turn is made
abbrev pub crashed_to : Result Life Past → Standing → Standing
crashed_to now standing = record { begun = λ id. None; settled = standing.settled; check = None; now = now }

abbrev pub IsMemoryOrDevice : Refusal → Type 0
IsMemoryOrDevice e = (e ≡ Memory) ⊎ (e ≡ Device)

-- or the numbers of generations are spent
abbrev pub StopsTurn : Refusal → Type 0
StopsTurn e = IsMemoryOrDevice e ⊎ (e ≡ Spent)

-- an event of a scan: it begins one, or an operation makes a step that was begun with one
abbrev pub IsOfScan : Life → Event → Type 0
IsOfScan life (Begin op worker tenant command) = is_scan command ≡ true
IsOfScan life (Step op) = (a : Asked) × ((story_in life).asked op ≡ Some a) × (is_scan a.command ≡ true)

-- What may be noted of an event, and how the store stands then.
--
-- An operation's event gives its life one event more, which one order explains. So does a step alone; the last one stands with an answer. A take tells the answer with which its
-- operation finished in that life. A tidying changes nothing. A flush tells the last step that was made, or it gave 4,096 changes, and
-- tells the step of the last one. A Settle answers at least the step after which it began. A crash that is recovered begins the next life, with the pairs of the last one after its changes up to the cutoff, as far as
-- they were kept; the cutoff is at least each number that was settled, and the next life's numbers are all over the cutoff. A crash, a flush, a reopening and a Settle are refused for memory or the device alone.
-- A checkpoint's turn begins after the last step that was made. The checkpoint begins in it after the last one that was made then, and so it ends. Each event
-- of its walk's scans gives the life one event more, as an operation's does. A turn that is refused, or whose scan doesn't go on, is given up. So is one at a
-- crash, also if the disks may not leave what the crash tells.
-- NoSuch is noted of an operation's event and of a tidying if the store serves no life, of a Settle if it is open already or is not, and of a part of a turn if none is made. It
-- is noted of the beginning of a turn, if one may not begin. If the store serves no life it is noted of all but a crash.
abbrev pub IsNoted : Quotas → Standing → StoreEvent → StoreNote → Standing → Type 0
IsNoted quotas old (Core e) (Told t) new =
    (life : Life) × Lives old life × HasOrder quotas (with_event life e t) × (new ≡ living (with_event life e t) old)
IsNoted quotas old (Move op) (Told t) new =
    (life : Life) × Lives old life × HasOrder quotas (with_event life (Step op) t) × (new ≡ living (with_event life (Step op) t) old)
IsNoted quotas old (Move op) Finished new =
    (life : Life) × (answer : Answer) × Lives old life × HasOrder quotas (with_event life (Step op) (Done answer)) × (new ≡ living (with_event life (Step op) (Done answer)) old)
IsNoted quotas old (Take op) (Took answer) new = (life : Life) × Lives old life × IsFinished (story_in life) op answer × (new ≡ old)
IsNoted quotas old Tidy Tidied new = IsServing old × (new ≡ old)
IsNoted quotas old (Flush worker) (Flushed number) new =
    (life : Life) × Lives old life × (number ≤ steps_in life) × ((number ≡ steps_in life) ⊎ (life.base + 4096 ≤ number)) × (new ≡ old)
IsNoted quotas old (Flush worker) (Refused e) new = IsServing old × IsMemoryOrDevice e × (new ≡ old)
IsNoted quotas old (Reopen worker) Reopened new = IsServing old × (new ≡ old)
IsNoted quotas old (Reopen worker) (Refused e) new = IsServing old × IsMemoryOrDevice e × (new ≡ old)
IsNoted quotas old (SettleBegin id) (Begun number) new =
    (life : Life) × Lives old life × (number ≡ steps_in life) × (old.begun id ≡ None) × (new ≡ settling id (Some number) old)
IsNoted quotas old (SettleNext id) Turned new = IsServing old × (old.begun id ≢ None) × (new ≡ old)
IsNoted quotas old (SettleNext id) (Settled number) new =
    (life : Life) × (begun : ℕ) × Lives old life × (old.begun id ≡ Some begun) × (begun ≤ number) × (number ≤ steps_in life) × (new ≡ settled_by id number old)
IsNoted quotas old (SettleNext id) (Refused e) new = IsServing old × (old.begun id ≢ None) × IsMemoryOrDevice e × (new ≡ settling id None old)
IsNoted quotas old CheckBegin (CheckBegun number) new =
    (life : Life) × Lives old life × (number ≡ steps_in life) × (old.check ≡ None) × (new ≡ checking (Some number) old)
IsNoted quotas old CheckBegin (Refused e) new = IsServing old × (old.check ≡ None) × (e ≡ Memory) × (new ≡ old)
IsNoted quotas old CheckStep CheckTurned new = IsServing old × (old.check ≢ None) × (new ≡ old)
IsNoted quotas old CheckStep (CheckWrites number) new =
    (life : Life) × (begun : ℕ) × Lives old life × (old.check ≡ Some begun) × (begun ≤ number) × (number ≡ steps_in life) × (new ≡ old)
IsNoted quotas old CheckStep (CheckTold t) new =
    (life : Life) × (e : Event) × Lives old life × (old.check ≢ None) × IsOfScan life e × HasOrder quotas (with_event life e t)
    × ((new ≡ living (with_event life e t) old) ⊎ (new ≡ living (with_event life e t) (checking None old)))
IsNoted quotas old CheckStep CheckAdded new = IsServing old × (old.check ≢ None) × (new ≡ old)
IsNoted quotas old CheckStep (CheckEnded number) new =
    (life : Life) × (begun : ℕ) × Lives old life × (old.check ≡ Some begun) × (begun ≤ number) × (number ≡ steps_in life) × (new ≡ old)
IsNoted quotas old CheckStep TurnEnded new = IsServing old × (old.check ≢ None) × (new ≡ checking None old)
IsNoted quotas old CheckStep (Refused e) new = IsServing old × (old.check ≢ None) × StopsTurn e × (new ≡ checking None old)
IsNoted quotas old CheckStep NoSuch new = ((¬ IsServing old) ⊎ (old.check ≡ None)) × (new ≡ old)
IsNoted quotas old (Crash images) NoSuch new = new ≡ checking None old
IsNoted quotas old (Core e) NoSuch new = (¬ IsServing old) × (new ≡ old)
IsNoted quotas old (Move op) NoSuch new = (¬ IsServing old) × (new ≡ old)
IsNoted quotas old Tidy NoSuch new = (¬ IsServing old) × (new ≡ old)
IsNoted quotas old (SettleBegin id) NoSuch new = ((¬ IsServing old) ⊎ (old.begun id ≢ None)) × (new ≡ old)
IsNoted quotas old (SettleNext id) NoSuch new = ((¬ IsServing old) ⊎ (old.begun id ≡ None)) × (new ≡ old)
IsNoted quotas old (Crash images) (Recovered r) new =
    (old.settled ≤ r.cutoff) × (r.cutoff ≤ r.resume) × AreLeftOf quotas (past_of old.now).life (min (past_of old.now).kept r.cutoff) (pairs_of r.pairs.items)
    × (new ≡ crashed_to (Ok (life_from (pairs_of r.pairs.items) r.resume)) old)
IsNoted quotas old (Crash images) (Refused e) new =
    IsMemoryOrDevice e × ((past : Past) × MayKeep old.settled (past_of old.now) past × (new ≡ crashed_to (Err past) old))
IsNoted quotas old event NoSuch new = new ≡ old
IsNoted quotas old event note new = ⊥

-- events with what was noted of each
abbrev pub Notes : Type 0
Notes = List (StoreEvent × StoreNote)

-- they lead from one standing to another
abbrev pub NotesLead : Quotas → Standing → Notes → Standing → Type 0
NotesLead quotas old [] new = new ≡ old
NotesLead quotas old (x ∷ notes) new = (mid : Standing) × IsNoted quotas old x.0 x.1 mid × NotesLead quotas mid notes new

-- they are those of a store that began without pairs, and lived as long as they go
abbrev pub HasLives : Quotas → Notes → Type 0
HasLives quotas notes = (standing : Standing) × NotesLead quotas new_standing notes standing
