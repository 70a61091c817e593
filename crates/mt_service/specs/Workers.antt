-- Which worker is which, and after how many settled answers of theirs and how many bytes a checkpoint is written.
use Rattle.std.specs.Prelude.{◌≡◌, ℕ, zero, suc, List, Option, Some, None, slice_get}
use Rattle.mt_options.specs.declared.options.StorePlace.{StorePlace}

-- the number of the worker at a place: the place if so many logs are kept, else 0
abbrev pub number_of : ℕ → ℕ → ℕ
number_of zero place = 0
number_of (suc logs) place = place

-- a pass and a keeper are those of the worker at a place, and it has the baton at a place of its own
pub record AreOfWorker (logs place pass keeper runner : ℕ) : Type 0 where
  pub pass_is : pass ≡ number_of logs place
  pub keeper_is : keeper ≡ number_of logs place
  pub runner_is : runner ≡ place

-- what a worker asks, and what it keeps its answers in, is of the server's book, logs and turns, and it serves the server's tenants
pub record IsWired {B K T Q : Type 0} (book : B) (logs : K) (turns : T) (tenants : Q) (asked kept_of : B) (kept_in : K) (counted_in : T) (served : Q) : Type 0 where
  pub desk : asked ≡ book
  pub keeper : kept_of ≡ book
  pub logs_are : kept_in ≡ logs
  pub turns_are : counted_in ≡ turns
  pub tenants_are : served ≡ tenants

-- P of each element of a list, with its place
abbrev pub EachAt : {X : Type 0} → List X → (ℕ → X → Type 0) → Type 0
EachAt {X} xs P = (place : ℕ) (x : X) → slice_get xs place ≡ Some x → P place x

-- as many as the store's place says, and none without a store
abbrev pub every_of : Option StorePlace → ℕ
every_of (Some place) = place.checkpoint
every_of None = 0

-- and by how many bytes the logs grow
abbrev pub bytes_of : Option StorePlace → ℕ
bytes_of (Some place) = place.checkpoint_bytes
bytes_of None = 0
