-- What the step does that takes an empty layer out: CleanLayer.
use Rattle.std.specs.Prelude.{◌≡◌, ◌≢◌, ◌⊎◌, ℕ, [], Some, None}
use Rattle.mt_rows.specs.Rows.{Bytes}
use Rattle.mt_border.specs.{Held.Link, declared.entry.FoundKind.TheVariants.{Link as LinkKind}}
use Rattle.mt_arena.specs.{NodeView.{NodeView, place_at}, Layers.slot_at, Arena.ArenaView, Accesses.at, Removals.without_layer}
use Rattle.mt_operation.specs.{declared.phase.Phase.TheVariants.Unlock, declared.walk.Walk.Walk, declared.removal.Removal.Removal}
use Rattle.mt_descent.specs.{KeptWalks.IsInSlot, WalkMoves.KeepsPairs}
use Rattle.mt_held.specs.Moves.{walk_at}
use Rattle.mt_remove.specs.{KeptRemovals.{HoldsRemoval, KeptRemoval}, RemovalEdits.{with_lock, root_of, GoesOnEmptied}}

-- a slot of the node leads the key to this tree
pub record LeadsTo (n : NodeView) (key : Bytes) (layer tree slot : ℕ) : Type 0 where
  pub in_slot : IsInSlot n slot key layer LinkKind
  pub link : (slot_at n (place_at n slot)).held ≡ Link tree

-- no slot does so: nothing is done
pub record FindsNoLink (old new : ArenaView) (key : Bytes) (before after : Walk) (s t : Removal) (tree : ℕ) : Type 0 where
  pub none : (slot : ℕ) → ¬ LeadsTo (at old before.place.node) key before.layer tree slot
  pub is : new ≡ old
  pub walk : after ≡ walk_at Unlock before
  pub removal : t ≡ s

-- the tree's root, which nobody held, is locked: it has a key, or stands over others
pub record FindsKeys (op : ℕ) (old new : ArenaView) (key : Bytes) (before after : Walk) (s t : Removal) (tree : ℕ) : Type 0 where
  pub slot : ℕ
  pub leads : LeadsTo (at old before.place.node) key before.layer tree slot
  pub free : (at old (root_of old tree)).holder ≡ None
  pub full : (at old (root_of old tree)).level ≡ 0 → (at old (root_of old tree)).slots ≢ []
  pub is : new ≡ with_lock old (root_of old tree) op
  pub walk : after ≡ walk_at Unlock before
  pub removal : t ≡ record s { below = Some (root_of old tree) }

-- the tree's root, which nobody held, is an empty border node: it is locked, and the link was taken out with the tree and that root
pub record DropsLayer (op step : ℕ) (old new : ArenaView) (key : Bytes) (before after : Walk) (s t : Removal) (tree : ℕ) : Type 0 where
  pub free : (at old (root_of old tree)).holder ≡ None
  pub empty : ((at old (root_of old tree)).level ≡ 0) × ((at old (root_of old tree)).slots ≡ [])
  pub slot : ℕ
  pub leads : LeadsTo (at old before.place.node) key before.layer tree slot
  pub is : new ≡ without_layer (with_lock old (root_of old tree) op) before.place.node (place_at (at old before.place.node) slot) tree step
  pub goes : GoesOnEmptied new before after (record s { below = Some (root_of old tree) }) t

-- one of these, for the tree that the operation goes to take out
pub record IsCleanLayer (op step : ℕ) (old new : ArenaView) (key : Bytes) (before after : Walk) (s t : Removal) : Type 0 where
  pub tree : ℕ
  pub cleans : s.cleans ≡ Some tree
  pub is : FindsNoLink old new key before after s t tree ⊎ FindsKeys op old new key before after s t tree ⊎ DropsLayer op step old new key before after s t tree
  pub keeps : KeepsPairs op old new before after
  pub kept : KeptRemoval after.phase new op key after t
  pub holds : HoldsRemoval old op before s → HoldsRemoval new op after t
