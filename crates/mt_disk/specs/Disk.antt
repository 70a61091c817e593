-- What a disk holds, and what a crash may make of it.
use Rattle.std.specs.Prelude.{◌≡◌, ◌⊎◌, ℕ, ◌+◌, ◌-◌, ◌^◌, ◌<◌, ◌≤◌, Bool, false, nat_lt, not, ◌&&◌, List, [], ◌∷◌, ◌++◌, length, take, drop, Option, Some, None, Result, MatchResult, OnOk}
use Rattle.std.specs.List.{slice_get, list_any, sum_by, All, Contains}

-- the bytes from one place up to another, that one not among them
abbrev pub Range : Type 0
Range = ℕ × ℕ

-- whether the byte at a place lies in one of these ranges
abbrev pub is_dirty : List Range → ℕ → Bool
is_dirty ranges place = list_any (λ range. not (nat_lt place range.0) && nat_lt place range.1) ranges

-- what the last sync made durable, and the ranges written since
pub record Moment : Type 0 where
  pub durable : List ℕ
  pub dirty : List Range

-- how many bytes are dirty at a moment, each as often as it was written
abbrev pub debt : Moment → ℕ
debt m = sum_by (λ range. range.1 - range.0) m.dirty

-- What a crash may leave at a moment. Where nothing was written since the last sync: just what it made
-- durable. Else: any image that keeps each durable byte outside the written ranges. So a written range
-- and what lies past the durable end may hold any bytes, and the length may be any that keeps the others.
pub record MayLeave (m : Moment) (image : List ℕ) : Type 0 where
  pub untouched : m.dirty ≡ [] → image ≡ m.durable
  pub keeps : (place : ℕ) → place < length m.durable → is_dirty m.dirty place ≡ false → slice_get image place ≡ slice_get m.durable place

-- a disk: what a read gives, the moment now, and the moments before it, the oldest first
pub record DiskState : Type 0 where
  pub image : List ℕ
  pub now : Moment
  pub past : List Moment

-- a disk as it is found: this image, all of it durable, and no moment before
abbrev pub found_with : List ℕ → DiskState
found_with image = record { image = image; now = record { durable = image; dirty = [] }; past = [] }

-- all moments so far, the present one last
abbrev pub moments : DiskState → List Moment
moments s = s.past ++ s.now ∷ []

-- the moment after a range was written, whole or in part
abbrev pub dirtied : Range → Moment → Moment
dirtied range m = record { durable = m.durable; dirty = m.dirty ++ range ∷ [] }

-- the image with these bytes at a place
abbrev pub overwritten : ℕ → List ℕ → List ℕ → List ℕ
overwritten at bytes image = take at image ++ bytes ++ drop (at + length bytes) image

-- a range was written, whole or in part: one moment more, and a read gives what a crash may leave
pub record Dirties (range : Range) (old new : DiskState) : Type 0 where
  pub now : new.now ≡ dirtied range old.now
  pub past : new.past ≡ moments old
  pub reads : MayLeave old.now old.image → MayLeave new.now new.image

-- a write or a cut: at Ok the range was written; at Err it was, whole or in part, or nothing happened
abbrev pub Attempts : {T E : Type 0} → Range → Result T E → DiskState → DiskState → Type 0
Attempts range result old new = MatchResult result (λ _. Dirties range old new) (λ _. (new ≡ old) ⊎ Dirties range old new)

-- the range that a cut writes: all that is durable past the new end
abbrev pub cut_range : ℕ → DiskState → Range
cut_range len s = (len, length s.now.durable)

-- a disk of which this image is durable, and what a read gives, with the moments that it had before
abbrev pub found_again : List ℕ → DiskState → DiskState
found_again image s = record { image = image; now = record { durable = image; dirty = [] }; past = moments s }

-- after a sync: what a read gives is durable, and nothing is dirty
abbrev pub synced : DiskState → DiskState
synced s = found_again s.image s

-- a read: the range lies within the file, and `new` is what stands there
pub record Reads (at : ℕ) (image old new : List ℕ) : Type 0 where
  pub within : at + length old ≤ length image
  pub bytes : new ≡ take (length old) (drop at image)

-- a count that goes up by one, unless it has reached the largest 64 bits tell
abbrev pub GoesUp : ℕ → ℕ → Type 0
GoesUp old new = (new ≡ old + 1) ⊎ ((new ≡ old) × (old + 1 ≡ 2 ^ 64))

-- the count of failures goes up at each Err, and at no Ok
abbrev pub CountsFailure : {T E : Type 0} → Result T E → ℕ → ℕ → Type 0
CountsFailure result old new = MatchResult result (λ _. new ≡ old) (λ _. GoesUp old new)

-- the number of its last call, and which calls it is told to fail
pub record Plan : Type 0 where
  pub calls : ℕ
  pub fails : List ℕ
  pub stop : Option ℕ

-- whether a call is told to fail: its number is in the list, or it is the one numbered `stop` or a later one
abbrev pub IsToldToFail : List ℕ → Option ℕ → ℕ → Type 0
IsToldToFail fails stop call = Contains fails call ⊎ ((first : ℕ) × (stop ≡ Some first) × (first ≤ call))

-- the next call of a disk with a plan: it has the next number, unless the largest 64 bits tell was
-- reached, and it is made only where it isn't told to fail
pub record IsNextCall {T E : Type 0} (result : Result T E) (old new : Plan) : Type 0 where
  pub number : GoesUp old.calls new.calls
  pub fails : new.fails ≡ old.fails
  pub stop : new.stop ≡ old.stop
  pub made : OnOk result (¬ IsToldToFail new.fails new.stop new.calls)

-- a call of a disk that keeps its plan, where it has one
abbrev pub FollowsPlan : {T E : Type 0} → Result T E → Option Plan → Option Plan → Type 0
FollowsPlan result None new = Unit {0}
FollowsPlan result (Some old) None = ⊥
FollowsPlan result (Some old) (Some new) = IsNextCall result old new

-- at a moment a crash leaves only images that have P
abbrev pub LeavesOnlyAt : (List ℕ → Type 0) → Moment → Type 0
LeavesOnlyAt P m = (image : List ℕ) → MayLeave m image → P image

-- at each moment since an old state a crash leaves only images that have P
pub record LeavesOnlySince (P : List ℕ → Type 0) (old new : DiskState) : Type 0 where
  pub since : List Moment
  pub goes_on : moments new ≡ moments old ++ since
  pub each : All (LeavesOnlyAt P) since

-- Since an old state, and now, a crash leaves only images that have P; and a read gives one of these.
pub record LeavesOnly (P : List ℕ → Type 0) (old new : DiskState) : Type 0 where
  pub so_far : LeavesOnlySince P old new
  pub now : LeavesOnlyAt P new.now
  pub reads : MayLeave new.now new.image

-- all that a read gives is durable
abbrev pub IsDurable : DiskState → Type 0
IsDurable s = s.now ≡ record { durable = s.image; dirty = [] }
