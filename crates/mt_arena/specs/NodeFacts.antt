-- What holds of one node after every step, grouped by what the facts read: a change passes the groups whole whose fields it leaves alone.
use Rattle.std.specs.{Prelude.{◌≡◌, ◌≢◌, ℕ, ◌<◌, ◌≤◌, Bool, true, false, List, [], length, Option, Some, None, is_some, slice_index}, List.All}
use Rattle.mt_border.specs.{declared.entry.Entry.Entry, Held.{Held, Stable, Unstable, Link}, Entries.{IsBorder, slices}}
use Rattle.mt_lists.specs.Rising.{IsRising}
use Rattle.mt_interior.specs.{Node.IsInterior, Fences.{end_of, bounds_of}}

-- a pair that is on its way to a tree of its own
abbrev pub IsUnstable : Held → Type 0
IsUnstable (Stable pair) = ⊥
IsUnstable (Unstable pair tree) = Unit {0}
IsUnstable (Link tree) = ⊥

-- what the node names is there, among so many
pub record AreThere (count : ℕ) (after before above : Option ℕ) (below : List ℕ) : Type 0 where
  pub next : (j : ℕ) → after ≡ Some j → j < count
  pub previous : (j : ℕ) → before ≡ Some j → j < count
  pub parent : (j : ℕ) → above ≡ Some j → j < count
  pub children : (i : ℕ) → i < length below → slice_index below i < count

-- it is locked where an operation holds it, and only a held node is marked or has an unstable slot
pub record IsGuarded (lock insert split : Bool) (holder : Option ℕ) (entries : List Entry) : Type 0 where
  pub locked : lock ≡ is_some holder
  pub inserting : insert ≡ true → holder ≢ None
  pub splitting : split ≡ true → holder ≢ None
  pub stable : holder ≡ None → All (λ e. ¬ IsUnstable e.held) entries

-- its version tells its kind
pub record TellsKind (is_border : Bool) (level : ℕ) : Type 0 where
  pub border : is_border ≡ true → level ≡ 0
  pub interior : is_border ≡ false → 0 < level

-- each slice of the slots is one of these
abbrev pub AreWithin : List Entry → ℕ → ℕ → Type 0
AreWithin entries low end = (i : ℕ) → i < length entries → (low ≤ slice_index (slices entries) i) × (slice_index (slices entries) i < end)

-- a border node's keys rise and lie within its fences
pub record FitsSlots (level low : ℕ) (high : Option ℕ) (entries : List Entry) : Type 0 where
  pub border : IsBorder entries
  pub within : AreWithin entries low (end_of high)
  pub slotless : 0 < level → entries ≡ []

-- an interior node's separators rise strictly between its fences, one for each two children; only one without range has no child
pub record FitsChildren (level low : ℕ) (high : Option ℕ) (separators below : List ℕ) : Type 0 where
  pub childless : level ≡ 0 → below ≡ []
  pub interior : IsInterior separators below
  pub rise : below ≢ [] → IsRising (bounds_of low separators high)
  pub peopled : 0 < level → low < end_of high → below ≢ []

-- its high fence lies within its reach, and is its reach unless it is being split
pub record FitsReach (high reach : Option ℕ) (split : Bool) : Type 0 where
  pub within : end_of high ≤ end_of reach
  pub exact : split ≡ false → reach ≡ high

-- the last border node of a tree has no high fence, and the first one begins at 0
pub record FitsChain (level low : ℕ) (high after before : Option ℕ) (deleted : Bool) : Type 0 where
  pub last : level ≡ 0 → low < end_of high → after ≡ None → high ≡ None
  pub first : level ≡ 0 → low < end_of high → deleted ≡ false → before ≡ None → low ≡ 0
