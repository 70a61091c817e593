-- Changes of a file: what each writes, and what a cut leaves of those that are remembered.
use Rattle.std.specs.Prelude.{ℕ, ◌+◌, ◌-◌, ◌≤◌, Bool, nat_lt, List, [], ◌∷◌, ◌++◌, length, take, map}
use Rattle.std.specs.List.{filter}
use Rattle.mt_disk.specs.{declared.edit.Edit.Edit, declared.edit.Edit.TheVariants.{Write, Cut}}
use Rattle.mt_disk.specs.Disk.{Range, DiskState, overwritten, cut_range}

-- a change of a file: these bytes written at a place, or the file cut to a length
pub data FileEdit : Type 0 where
  Wrote : ℕ → List ℕ → FileEdit
  CutTo : ℕ → FileEdit

abbrev pub edit_of : Edit → FileEdit
edit_of (Write at bytes) = Wrote at bytes.items
edit_of (Cut len) = CutTo len

abbrev pub edits_of : List Edit → List FileEdit
edits_of edits = map edit_of edits

-- how many bytes they hold
abbrev pub bytes_in : List FileEdit → ℕ
bytes_in [] = 0
bytes_in (Wrote at bytes ∷ rest) = length bytes + bytes_in rest
bytes_in (CutTo len ∷ rest) = bytes_in rest

-- the range that it writes
abbrev pub range_of : FileEdit → DiskState → Range
range_of (Wrote at bytes) s = (at, at + length bytes)
range_of (CutTo len) s = cut_range len s

-- it begins within the file
abbrev pub BeginsWithin : FileEdit → List ℕ → Type 0
BeginsWithin (Wrote at bytes) image = at ≤ length image
BeginsWithin (CutTo len) image = len ≤ length image

-- the image after it
abbrev pub edited : FileEdit → List ℕ → List ℕ
edited (Wrote at bytes) image = overwritten at bytes image
edited (CutTo len) image = take len image

-- whether it changes anything before a place
abbrev pub begins_before : ℕ → FileEdit → Bool
begins_before len (Wrote at bytes) = nat_lt at len
begins_before len (CutTo to) = nat_lt to len

-- what it changes before a place
abbrev pub shortened : ℕ → FileEdit → FileEdit
shortened len (Wrote at bytes) = Wrote at (take (len - at) bytes)
shortened len (CutTo to) = CutTo to

-- what changes leave before a place: those that begin at it or past it are gone
abbrev pub cut_back : ℕ → List FileEdit → List FileEdit
cut_back len edits = map (shortened len) (filter (begins_before len) edits)

-- the changes since the last sync, with one more: a cut lets go of what was changed past the new end
abbrev pub remembered : FileEdit → List FileEdit → List FileEdit
remembered (Wrote at bytes) edits = edits ++ Wrote at bytes ∷ []
remembered (CutTo len) edits = cut_back len edits ++ CutTo len ∷ []

-- the image after changes, made one after the other
abbrev pub image_after : List FileEdit → List ℕ → List ℕ
image_after [] image = image
image_after (e ∷ rest) image = image_after rest (edited e image)

-- each begins within the image that those before it leave
abbrev pub AllBeginWithin : List FileEdit → List ℕ → Type 0
AllBeginWithin [] image = Unit {0}
AllBeginWithin (e ∷ rest) image = BeginsWithin e image × AllBeginWithin rest (edited e image)
