-- The calls of a system on an open file, and what is told of them.
use Rattle.std.specs.Prelude.{◌≡◌, ◌⊎◌, ◌++◌, Bool, true, false, if◌then◌else◌, List, [], ◌∷◌, ℕ, ℤ, pos, Option, Some, None, Result, Ok, Err, is_err}
use Rattle.std.specs.{Ordering.int_eq, IoError.raw_os_error, declared.io.Error.Error}
use Rattle.mt_disk.specs.{declared.system.FileFault.FileFault, declared.system.FileFault.TheVariants.{NotMade, Failed}}

-- A call on an open file, with what it was on and gave. One that gave an error tells its number alone, if it has one.
pub data FileCall : Type 0 where
  Measured : ℕ → FileCall
  Read : ℕ → List ℕ → FileCall
  Wrote : ℕ → List ℕ → FileCall
  SetLength : ℕ → FileCall
  Synced : FileCall
  DroppedCache : FileCall
  GaveError : Option ℤ → FileCall

-- After the calls before come these. A system may cease to tell its calls, and begins at no later one.
abbrev pub Adds : {Call : Type 0} → Option (List Call) → Option (List Call) → List Call → Type 0
Adds before None more = Unit {0}
Adds None (Some after) more = ⊥
Adds (Some before) (Some after) more = after ≡ before ++ more

-- the call that had an answer, by what was to be told of it
abbrev pub call_of : {T : Type 0} → (T → FileCall) → Result T Error → FileCall
call_of told (Ok value) = told value
call_of told (Err error) = GaveError (raw_os_error error)

-- the call to drop the cache that had this number for its answer
abbrev pub advice_of : ℤ → FileCall
advice_of number = if int_eq number (pos 0) then DroppedCache else GaveError (Some number)

-- what a file shows: the calls on it, whether its length may not have been written, and the number of its last error
pub record OsFileState : Type 0 where
  pub made : Option (List FileCall)
  pub is_doubtful : Bool
  pub last_error : Option ℤ

-- what a function does to a file, with its result
abbrev pub Step : Type 0 → Type 1
Step T = Result T FileFault → OsFileState → OsFileState → Type 0

-- A call is made, and told as it went. If it gave an error, the number is kept.
abbrev pub Tells : {T : Type 0} → (T → FileCall) → Step T
Tells call (Ok value) old new = Adds old.made new.made (call value ∷ []) × (new.last_error ≡ old.last_error)
Tells call (Err Failed) old new = Adds old.made new.made (GaveError new.last_error ∷ [])
Tells call (Err NotMade) old new = ⊥

-- a call that leaves open what was open
abbrev pub Calls : {T : Type 0} → (T → FileCall) → Step T
Calls call result old new = Tells call result old new × (new.is_doubtful ≡ old.is_doubtful)

-- a sync, which may not have written the length if it failed
abbrev pub CallsSync : Step Unit
CallsSync result old new = Tells (λ _. Synced) result old new × (new.is_doubtful ≡ is_err result)

-- one step, and another one only if it went well
abbrev pub Then : {T U : Type 0} → Step T → (T → Step U) → Step U
Then {T} first next result old new =
    ((fault : FileFault) × first (Err fault) old new × (result ≡ Err fault))
    ⊎ ((value : T) × (mid : OsFileState) × first (Ok value) old mid × next value result mid new)

-- The length is set to what it is.
abbrev pub WritesLength : Step Unit
WritesLength result old new = Then (Calls Measured) (λ len. Calls (λ _. SetLength len)) result old new

-- A sync. The length is written first if it is in doubt.
abbrev pub SyncsAll : Bool → Step Unit
SyncsAll false result old new = CallsSync result old new
SyncsAll true result old new = Then WritesLength (λ _. CallsSync) result old new

-- The cache is dropped, but only after a sync that went well.
abbrev pub DropsCache : Bool → Step Unit
DropsCache is_doubtful result old new = Then (SyncsAll is_doubtful) (λ _. Calls (λ _. DroppedCache)) result old new
