-- What a walk remembers is there, or was taken out after the operation's birth: so it is in no place that may be given out.
use Rattle.std.specs.Prelude.{◌≡◌, ℕ, ◌+◌, ◌<◌, ◌⊎◌, List, length}
use Rattle.mt_arena.specs.{declared.retired.Retired.Retired, Idle.{RetiredPlaces, place_of_idle}, Forests.tree_at, Arena.ArenaView, Accesses.at}
use Rattle.mt_arena.specs.Given.{step_of_idle, IsNodeOutFrom, IsTreeOutFrom, GivesOut}
use Rattle.mt_operation.specs.declared.walk.Walk.{Walk}
use Rattle.mt_descent.specs.Remembered.{RemembersNode, RemembersTree}

-- all that a walk remembers, by the birth of its operation
pub record RemembersKept (birth : ℕ) (v : ArenaView) (w : Walk) : Type 0 where
  pub nodes : (k : ℕ) → RemembersNode w.phase w k → IsNodeOutFrom (birth + 1) v.retired k
  pub trees : (t : ℕ) → RemembersTree w.phase v w t → IsTreeOutFrom (birth + 1) v.retired t

-- the place stands in the list, by this step
pub record IsListed (gone : List Retired) (place step : ℕ) : Type 0 where
  pub index : ℕ
  pub within : index < length gone
  pub place_is : place_of_idle gone index ≡ place
  pub step_is : step_of_idle gone index ≡ step

-- each place of the second list stands in the first one, by the same step, or a step above the birth took it out
abbrev pub ListsAfter : ℕ → List Retired → List Retired → Type 0
ListsAfter birth old new = (i : ℕ) → i < length new → IsListed old (place_of_idle new i) (step_of_idle new i) ⊎ (birth < step_of_idle new i)

-- so it is in each of the three lists
pub record RetiresAfter (birth : ℕ) (old new : RetiredPlaces) : Type 0 where
  pub borders : ListsAfter birth old.borders new.borders
  pub interiors : ListsAfter birth old.interiors new.interiors
  pub trees : ListsAfter birth old.trees new.trees

-- places were given out, and none of a node or a tree that is there, or that was taken out after the birth
pub record GivesOutBefore (birth : ℕ) (old new : ArenaView) : Type 0 where
  pub gives : GivesOut old new
  pub nodes : (k : ℕ) → IsNodeOutFrom (birth + 1) old.retired k → at new k ≡ at old k
  pub trees : (t : ℕ) → IsTreeOutFrom (birth + 1) old.retired t → tree_at new.trees t ≡ tree_at old.trees t
