-- What each phase of a removal makes of the arena, and where it leads.
use Rattle.std.specs.Prelude.{◌≡◌, ◌<◌, ◌↔◌, ℕ, true, [], ◌==◌, if◌then◌else◌, length, Option, Some, None}
use Rattle.mt_arena.specs.{NodeView.NodeView, Edits.{locked, unlocked}, Arena.ArenaView, Accesses.{at, with_node}, Forests.tree_at}
use Rattle.mt_operation.specs.{declared.phase.Phase.Phase, declared.phase.Phase.TheVariants.{Unlock, FixNext, Collapse, LockPrev}, declared.walk.Walk.Walk}
use Rattle.mt_operation.specs.declared.removal.Removal.{Removal}
use Rattle.mt_held.specs.Moves.{walk_at}
use Rattle.mt_remove.specs.KeptRemovals.{IsAmong}

-- the arena with the lock of a node taken
abbrev pub with_lock : ArenaView → ℕ → ℕ → ArenaView
with_lock v k op = with_node v k (locked (at v k) op)

-- after Unlock: the locks of all nodes of the removal were given back, and nothing else was done
pub record ReturnsRemoval (old new : ArenaView) (w : Walk) (r : Removal) : Type 0 where
  pub count : length new.nodes ≡ length old.nodes
  pub given : (k : ℕ) → IsAmong w r k → at new k ≡ unlocked (at old k)
  pub others : (k : ℕ) → ¬ IsAmong w r k → at new k ≡ at old k
  pub trees : new.trees ≡ old.trees
  pub retired : new.retired ≡ old.retired

-- what comes next once the node was taken out: a root with one child gives way to it
abbrev pub for_rest : NodeView → Phase
for_rest p = if p.version.root then (if length p.children == 1 then Collapse else Unlock) else Unlock

-- after Unlink: a node behind still names the one that was taken out
abbrev pub after_unlink : Option ℕ → NodeView → Phase
after_unlink None p = for_rest p
after_unlink (Some behind) p = FixNext

-- the root of a tree, as its record names it
abbrev pub root_of : ArenaView → ℕ → ℕ
root_of v tree = (tree_at v.trees tree).root

-- the node is empty, and begins behind the parent that it names: so it is not that one's first child
pub record IsToUnlink (v : ArenaView) (k : ℕ) : Type 0 where
  pub empty : (at v k).slots ≡ []
  pub parent : ℕ
  pub parent_is : (at v k).parent ≡ Some parent
  pub behind : (at v parent).low < (at v k).low

-- once a slot was taken out of the border node: it is taken out too, or all is given back; and whether it is empty is remembered
pub record GoesOnEmptied (v : ArenaView) (before after : Walk) (s t : Removal) : Type 0 where
  pub unlinks : IsToUnlink v before.place.node → after ≡ walk_at LockPrev before
  pub returns : ¬ IsToUnlink v before.place.node → after ≡ walk_at Unlock before
  pub emptied : t.emptied ≡ true ↔ (at v before.place.node).slots ≡ []
  pub removal : t ≡ record s { emptied = t.emptied }
