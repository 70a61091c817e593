-- What ties a run's story to the state that it led to.
use Rattle.std.specs.{Prelude.{◌≡◌, ◌≢◌, ℕ, ◌<◌, ◌≤◌, ◌^◌, true, false, ◌∷◌, [], Option, Some, None, IsSome}, List.All, Ordering.nat_cmp}
use Rattle.std.specs.BTreeMap.{BTreeMap, get}
use Rattle.mt_runs.specs.{declared.event.Answer.Answer, declared.event.Event.Event, declared.event.Event.TheVariants.{Begin, Step}, declared.event.Told.Told}
use Rattle.mt_runs.specs.declared.event.Told.TheVariants.{Begun, Refused, NoSuch, Moved, Again, NoMemory, Spent, Done}
use Rattle.mt_runs.specs.{Runs.{Run, Story, last_step, owner, Finished, IsFirst, IsLast}, Placings.{Quotas, Maps}, Right.Right}
use Rattle.mt_operation.specs.{Operations.OperationView, Phases.is_unplaced}
use Rattle.mt_state.specs.{Views.{StateView, Shown, op_at, map_of, changed_at, quota_of}, Steps.change_in}
use Rattle.mt_state.specs.{Promises.{IsStep, IsHeldByOther, HasStep, IsPlacedToGrow}, Refused.{IsAdmissible, IsRefusal}, Begins.{IsWorker, Begins, Takes}}

-- for what each name of a run stands: nothing was begun by it, its operation's answer was taken, or its operation has this id
abbrev pub Names : Type 0
Names = ℕ → Option (Option ℕ)

-- before any begin
abbrev pub no_names : Names
no_names o = None

-- one name stands for this from now on, and every other for what it did
pub record Renames (old new : Names) (o : ℕ) (stands : Option ℕ) : Type 0 where
  pub here : new o ≡ Some stands
  pub others : (q : ℕ) → q ≢ o → new q ≡ old q

-- every operation of a table has a name
abbrev pub AreNamed : Names → Shown → Type 0
AreNamed names table = (n : ℕ) (op : OperationView) → op_at table n ≡ Some op → (o : ℕ) × (names o ≡ Some (Some n))

-- every operation that has a name is in the table
abbrev pub AreHeld : Names → Shown → Type 0
AreHeld names table = (o n : ℕ) → names o ≡ Some (Some n) → IsSome (op_at table n)

-- a map from ids has the name of each operation that has one
abbrev pub AreById : BTreeMap ℕ ℕ → Names → Type 0
AreById ids names = (o n : ℕ) → names o ≡ Some (Some n) → get nat_cmp ids n ≡ Some o

-- what a run's story tells of an open operation by its name: its command, its first and its last step, or that it has made none,
-- that it is not finished, and that the change which it remembers, if any, is the one that it made; it remembers none as long as it may place one
pub record StoryTells (story : Story) (v : StateView) (o : ℕ) (op : OperationView) : Type 0 where
  pub asked_so : story.asked o ≡ Some (record { tenant = op.tenant; command = op.command })
  pub first : 0 < op.first → IsFirst story o op.first
  pub last : 0 < op.last → IsLast story o op.last
  pub still : op.first ≡ 0 → (m : ℕ) → owner story m ≢ Some o
  pub unfinished : (a : Answer) → Finished story o a → ⊥
  pub changes : (m : ℕ) → changed_at v m ≡ true → owner story m ≡ Some o → change_in op ≡ Some m
  pub own : (m : ℕ) → change_in op ≡ Some m → owner story m ≡ Some o
  pub placed : (m : ℕ) → change_in op ≡ Some m → is_unplaced op.phase ≡ false

-- a right story led to this state: its quotas and numbers are the state's, and its names stand for the state's operations
pub record History (quotas : Quotas) (first : Maps) (story : Story) (names : Names) (v : StateView) : Type 0 where
  pub right : Right quotas first story (map_of v) (changed_at v)
  pub quota : (t : ℕ) → quota_of v t ≡ quotas t
  pub count : last_step story ≡ v.steps
  pub made : All (λ e. e.step ≤ v.steps) v.tape.entries
  pub told : (o n : ℕ) → names o ≡ Some (Some n) → (op : OperationView) × (op_at v.table n ≡ Some op) × StoryTells story v o op
  pub apart : (o p n : ℕ) → names o ≡ Some (Some n) → names p ≡ Some (Some n) → o ≡ p
  pub all : AreNamed names v.table
  pub free : (o : ℕ) → names o ≡ None → story.asked o ≡ None
  pub owners : (m o : ℕ) → owner story m ≡ Some o → names o ≢ None

-- what an event may answer, by the names and the state before and after it; every answer but Begun, Moved and Done changes nothing; a begin by a
-- name that is known is none, and one is refused for its first cause alone
abbrev pub TellsEvent : Names → StateView → Names → StateView → Event → Told → Type 0
TellsEvent names old now new (Begin o worker tenant command) Begun =
    (n : ℕ) × (names o ≡ None) × Renames names now o (Some n) × Begins old new n worker tenant command × IsAdmissible old tenant command
TellsEvent names old now new (Begin o worker tenant command) (Refused refusal) =
    (names o ≡ None) × (now ≡ names) × (new ≡ old) × IsRefusal old tenant command refusal
TellsEvent names old now new (Begin o worker tenant command) NoSuch = (names o ≢ None) × (now ≡ names) × (new ≡ old)
TellsEvent names old now new (Step o) Moved = (n : ℕ) × (names o ≡ Some (Some n)) × (now ≡ names) × IsStep old new n false
TellsEvent names old now new (Step o) (Done answer) =
    (n : ℕ) × (mid : StateView) × (names o ≡ Some (Some n)) × Renames names now o None × IsStep old mid n true × Takes mid new n answer
TellsEvent names old now new (Step o) (Again q) =
    (n : ℕ) × (m : ℕ) × (names o ≡ Some (Some n)) × (names q ≡ Some (Some m)) × IsHeldByOther old n m × (now ≡ names) × (new ≡ old)
TellsEvent names old now new (Step o) NoMemory = (n : ℕ) × (names o ≡ Some (Some n)) × IsPlacedToGrow old n × (now ≡ names) × (new ≡ old)
TellsEvent names old now new (Step o) Spent = (n : ℕ) × (names o ≡ Some (Some n)) × (old.steps ≡ 2 ^ 59) × (now ≡ names) × (new ≡ old)
TellsEvent names old now new (Step o) NoSuch = ((n : ℕ) → names o ≡ Some (Some n) → ¬ HasStep old n) × (now ≡ names) × (new ≡ old)
TellsEvent names old now new _ _ = ⊥

-- a run leads from a state to another
abbrev pub BringsTo : Names → StateView → Run → Names → StateView → Type 0
BringsTo names old [] now new = (now ≡ names) × (new ≡ old)
BringsTo names old (x ∷ run) now new = (next : Names) × (mid : StateView) × TellsEvent names old next mid x.0 x.1 × BringsTo next mid run now new

-- an event's worker is one of those that the logs have
abbrev pub IsServed : ℕ → Event → Type 0
IsServed logs (Begin op worker tenant command) = IsWorker logs worker
IsServed logs (Step op) = Unit {0}
