-- What a store with named operations does by the steps of one of them, and what is said of it.
use Rattle.std.specs.Prelude.{◌≡◌, ℕ, zero, suc, ◌≤◌, ◌^◌, true, false, [], Option, Some, None, is_some}
use Rattle.mt_rows.specs.Accounts.{Accounts}
use Rattle.mt_runs.specs.declared.event.Answer.{Answer}
use Rattle.mt_state.specs.{declared.moves.Move.Move, Views.{StateView, Shown, op_at}, Promises.{IsStep, Tells}, Begins.{new_state, Takes, IsEnded}}
use Rattle.mt_operation.specs.declared.phase.Phase.{Phase}
use Rattle.mt_core.specs.{Shows.phase_at, Tidies.Tidies}
use Rattle.mt_lines.specs.{declared.response.Response.Response, declared.response.Response.TheVariants.{At, Moved, Again, NoMemory, Spent, NoSuch, Done}}
use Rattle.mt_lines.specs.Names.{Tickets, shows_of, operation_of, FreesName}
use Rattle.mt_state.specs.declared.moves.Move.TheVariants as moves

-- a store, and the names of its operations
pub record StoreView : Type 0 where
  pub state : StateView
  pub named : Tickets

-- a store of these tenants in which nothing has happened
abbrev pub new_store : Accounts → StoreView
new_store tenants = record { state = new_state 0 tenants; named = [] }

-- the operation of an id was begun, and its answer not taken
abbrev pub IsInTable : Shown → ℕ → Type 0
IsInTable table o = is_some (op_at table o) ≡ true

-- the names in use are exactly those of the open operations: each open operation has one name, and each name stands for an open operation
pub record HaveOneName (table : Shown) (named : Tickets) : Type 0 where
  pub each : (o : ℕ) → IsInTable table o → (name : ℕ) × (operation_of named name ≡ Some o)
  pub one : (a b o : ℕ) → operation_of named a ≡ Some o → operation_of named b ≡ Some o → a ≡ b
  pub open_ones : (name o : ℕ) → operation_of named name ≡ Some o → IsInTable table o

-- the same names, and the same operations
pub record IsAsBefore (old new : StoreView) : Type 0 where
  pub names : new.named ≡ old.named
  pub operations : (o : ℕ) → op_at new.state.table o ≡ op_at old.state.table o
  pub stands : new.state ≡ record old.state { table = new.state.table }

-- the last step of an operation: its answer is taken, and the store tidied
pub record Ends (old new : StateView) (o : ℕ) (answer : Answer) : Type 0 where
  pub made : StateView
  pub taken : StateView
  pub last : IsStep old made o true
  pub takes : Takes made taken o answer
  pub tidies : Tidies taken new

-- what a step tells; all numbers are given where there are as many steps as can be
abbrev pub TellsMove : StateView → StateView → ℕ → Move → Type 0
TellsMove old new o moves.Spent = (new ≡ old) × (2 ^ 59 ≤ old.steps)
TellsMove old new o move = Tells old new o move

-- What is said of a step of the operation of a name is what it tells. `again` says the holder's own name. `done` frees the name; its answer shows the stamp of a
-- row, or doesn't, as was asked with the name.
abbrev pub TellsStep : StoreView → StoreView → ℕ → ℕ → Response → Type 0
TellsStep old new name o Moved = TellsMove old.state new.state o moves.Moved × (new.named ≡ old.named)
TellsStep old new name o (Again other) =
    (holder : ℕ) × TellsMove old.state new.state o (moves.Again holder) × (operation_of old.named other ≡ Some holder) × (new.named ≡ old.named)
TellsStep old new name o NoMemory = TellsMove old.state new.state o moves.NoMemory × (new.named ≡ old.named)
TellsStep old new name o Spent = TellsMove old.state new.state o moves.Spent × (new.named ≡ old.named)
TellsStep old new name o NoSuch = TellsMove old.state new.state o moves.NoSuch × (new.named ≡ old.named)
TellsStep old new name o (Done answer stamps) = Ends old.state new.state o answer × FreesName old.named new.named name × (stamps ≡ shows_of old.named name)
TellsStep old new name o _ = ⊥

-- an operation whose next phase is this stands where it is to stop, if it is to stop anywhere
abbrev pub StopsAt : Option Phase → Option Phase → Type 0
StopsAt None here = ⊥
StopsAt (Some phase) here = here ≡ Some phase

-- so many steps that moved the operation on, each from where it was not to stop
abbrev pub Walks : Option Phase → ℕ → StateView → StateView → ℕ → Type 0
Walks stop zero old new o = new ≡ old
Walks stop (suc n) old new o = (mid : StateView) × Walks stop n old mid o × ¬ StopsAt stop (phase_at mid.table o) × IsStep mid new o false

-- how a walk ends: it stops, or a step tells anything but that the operation moved on
abbrev pub EndsWalk : Option Phase → StateView → StateView → ℕ → Move → Type 0
EndsWalk stop mid new o moves.Moved = (new ≡ mid) × StopsAt stop (phase_at mid.table o)
EndsWalk stop mid new o move = TellsMove mid new o move

-- a walk and its end
pub record IsWalk (stop : Option Phase) (old new : StateView) (o : ℕ) (move : Move) : Type 0 where
  pub steps : ℕ
  pub mid : StateView
  pub walks : Walks stop steps old mid o
  pub ends : EndsWalk stop mid new o move

-- what is said of a walk's end
abbrev pub SaysEnd : Option Phase → StoreView → StoreView → ℕ → ℕ → Response → Type 0
SaysEnd stop mid new name o (At phase) = (stop ≡ Some phase) × (new ≡ mid) × (phase_at mid.state.table o ≡ Some phase)
SaysEnd stop mid new name o Moved = ⊥
SaysEnd stop mid new name o response = TellsStep mid new name o response

-- what is said of a walk: steps of the operation alone, and then what is said of its end
pub record TellsWalk (stop : Option Phase) (old new : StoreView) (name o : ℕ) (response : Response) : Type 0 where
  pub steps : ℕ
  pub mid : StateView
  pub walks : Walks stop steps old.state mid o
  pub says : SaysEnd stop (record { state = mid; named = old.named }) new name o response

-- of a name in use this is told of its operation; of another, `none` is said, and nothing changes
abbrev pub TellsNamed : Option ℕ → StoreView → StoreView → Response → (ℕ → Type 0) → Type 0
TellsNamed None old new response told = (response ≡ NoSuch) × (new ≡ old)
TellsNamed (Some o) old new response told = told o

-- a name is free: an operation may be begun by it
abbrev pub IsFree : StoreView → ℕ → Type 0
IsFree store name = operation_of store.named name ≡ None

-- the operation that is said of is there: for `done` it has ended, and for `again` its holder is open
abbrev pub CanSay : StateView → ℕ → Move → Type 0
CanSay v o moves.Done = IsEnded v.table o
CanSay v o (moves.Again holder) = IsInTable v.table holder
CanSay v o _ = Unit {0}

-- an operation that ended was taken with its answer, and the store tidied; its name is free
pub record GivesUp (old new : StoreView) (name o : ℕ) (answer : Answer) : Type 0 where
  pub taken : StateView
  pub takes : Takes old.state taken o answer
  pub tidies : Tidies taken new.state
  pub frees : FreesName old.named new.named name

-- what is said of a step's answer, in the store that the step left
abbrev pub SaysMove : StoreView → StoreView → ℕ → ℕ → Move → Response → Type 0
SaysMove old new name o moves.Moved response = (response ≡ Moved) × (new ≡ old)
SaysMove old new name o (moves.Again holder) response = (other : ℕ) × (response ≡ Again other) × (operation_of old.named other ≡ Some holder) × (new ≡ old)
SaysMove old new name o moves.NoMemory response = (response ≡ NoMemory) × (new ≡ old)
SaysMove old new name o moves.Done response = (answer : Answer) × (response ≡ Done answer (shows_of old.named name)) × GivesUp old new name o answer
SaysMove old new name o moves.Spent response = (response ≡ Spent) × (new ≡ old)
SaysMove old new name o moves.NoSuch response = (response ≡ NoSuch) × (new ≡ old)
