-- What a drain, a tidying and an operation's event make of a store that serves.
use Rattle.std.specs.Prelude.{◌≡◌, ℕ, true, Some, None}
use Rattle.mt_runs.specs.{declared.event.Event.Event, declared.event.Event.TheVariants.Step, declared.event.Told.{Told as Answered}, declared.event.Told.TheVariants.Done}
use Rattle.mt_state.specs.{Views.StateView, Promises.IsStep, Begins.{IsEnded, Takes}, Histories.{Names, Renames, AreById, TellsEvent}}
use Rattle.mt_rows.specs.declared.record.Batch.{Batch}
use Rattle.mt_core.specs.{Drains.Drains, Tidies.Tidies, Rights.IsRightState, Tickets.named}
use Rattle.mt_lives.specs.{declared.events.StoreEvent.StoreEvent, declared.events.StoreEvent.TheVariants.{Move, Take}, declared.events.StoreNote.StoreNote}
use Rattle.mt_lives.specs.{declared.events.StoreNote.TheVariants.{Told, Finished, Took, NoSuch}, declared.serving.Serving.Serving}

-- its state is drained, and still right, and nothing else has changed
pub record DrainsServing (old new : Serving) (worker : ℕ) (batch : Batch) : Type 0 where
  pub state : Drains old.state new.state worker batch
  pub right : IsRightState new.state
  pub roster : new.roster ≡ old.roster
  pub settles : new.settles ≡ old.settles
  pub generation : new.generation ≡ old.generation

-- its state gave up the writes that neither an operation nor a log needs any more, and nothing else has changed
pub record TidiesServing (old new : Serving) : Type 0 where
  pub state : Tidies old.state new.state
  pub right : IsRightState new.state
  pub roster : new.roster ≡ old.roster
  pub settles : new.settles ≡ old.settles
  pub generation : new.generation ≡ old.generation

-- an event of an operation was answered, and the names and the state are right
pub record TellsServing (old new : Serving) (e : Event) (t : Answered) : Type 0 where
  pub tells : TellsEvent (named old.roster.tickets) old.state (named new.roster.tickets) new.state e t
  pub by_id : AreById new.roster.names (named new.roster.tickets)
  pub right : IsRightState new.state
  pub settles : new.settles ≡ old.settles
  pub generation : new.generation ≡ old.generation

-- What a step by a name is noted as. The answer of a last step is not taken with it.
abbrev pub Moves : Names → StateView → StateView → ℕ → StoreNote → Type 0
Moves names old new op (Told (Done answer)) = ⊥
Moves names old new op (Told told) = TellsEvent names old names new (Step op) told
Moves names old new op Finished = (n : ℕ) × (names op ≡ Some (Some n)) × IsStep old new n true
Moves names old new op note = ⊥

-- The answer of the operation of a name is taken, or no step of it was the last one.
abbrev pub TakesBy : Names → StateView → Names → StateView → ℕ → StoreNote → Type 0
TakesBy names old now new op (Took answer) = (n : ℕ) × (names op ≡ Some (Some n)) × Renames names now op None × Takes old new n answer
TakesBy names old now new op NoSuch = ((n : ℕ) → names op ≡ Some (Some n) → ¬ IsEnded old.table n) × (now ≡ names) × (new ≡ old)
TakesBy names old now new op note = ⊥

-- a step and a take by a name
abbrev pub Does : Names → StateView → Names → StateView → StoreEvent → StoreNote → Type 0
Does names old now new (Move op) note = (now ≡ names) × Moves names old new op note
Does names old now new (Take op) note = TakesBy names old now new op note
Does names old now new event note = ⊥

-- it was done, and the names and the state are right
pub record DoesServing (old new : Serving) (event : StoreEvent) (note : StoreNote) : Type 0 where
  pub does : Does (named old.roster.tickets) old.state (named new.roster.tickets) new.state event note
  pub by_id : AreById new.roster.names (named new.roster.tickets)
  pub right : IsRightState new.state
  pub settles : new.settles ≡ old.settles
  pub generation : new.generation ≡ old.generation
