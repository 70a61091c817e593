-- Which nodes and trees a walk remembers at its phase: those of which something is kept; and what a look comes to remember.
use Rattle.std.specs.Prelude.{◌≡◌, ℕ, ◌<◌, ◌⊎◌, false, length, Some}
use Rattle.mt_border.specs.{Held.Link as LinkTo, Slots.held_in}
use Rattle.mt_arena.specs.{declared.tree.Standing.TheVariants.Live, NodeView.{NodeView, place_at}, Forests.tree_at, Layers.slot_at}
use Rattle.mt_arena.specs.{Arena.ArenaView, Accesses.at, Given.{NamesNode, GivesOut}}
use Rattle.mt_operation.specs.{declared.phase.Phase.Phase, declared.phase.Phase.TheVariants.{Enter, Child, Verify, Load, Confirm, Forward, Done}}
use Rattle.mt_operation.specs.{declared.walk.Taken.TheVariants.Link, declared.walk.Walk.Walk}
use Rattle.mt_descent.specs.Seen.{Stands}

-- the nodes: none before the first one, and none at the end
abbrev pub RemembersNode : Phase → Walk → ℕ → Type 0
RemembersNode Enter w k = ⊥
RemembersNode Child w k = (k ≡ w.place.node) ⊎ (k ≡ w.child)
RemembersNode Verify w k = (k ≡ w.place.node) ⊎ (k ≡ w.child)
RemembersNode Forward w k = (k ≡ w.place.node) ⊎ (w.next ≡ Some k)
RemembersNode Done w k = ⊥
RemembersNode _ w k = k ≡ w.place.node

-- the slot leads to tree u: it is live, or it is free and holds what it held
abbrev pub LeadsIn : NodeView → ℕ → ℕ → Type 0
LeadsIn n slot u =
    ((place_at n slot < length n.slots) × ((slot_at n (place_at n slot)).held ≡ LinkTo u))
    ⊎ ((¬ (place_at n slot < length n.slots)) × (held_in n.cells.helds slot ≡ LinkTo u))

-- the version stands that the walk has seen of its node
abbrev pub StandsHere : ArenaView → Walk → Type 0
StandsHere v w = Stands (at v w.place.node) w.place.seen

-- The trees. A walk remembers its own. As long as its node's version stands, it also remembers the one to which its slot leads, or that of the link that
-- it took. Else it comes to no such tree.
abbrev pub RemembersTree : Phase → ArenaView → Walk → ℕ → Type 0
RemembersTree Load v w t = (t ≡ w.place.tree) ⊎ (StandsHere v w × LeadsIn (at v w.place.node) w.slot t)
RemembersTree Confirm v w t = (t ≡ w.place.tree) ⊎ (StandsHere v w × (w.taken ≡ Link t))
RemembersTree Done v w t = ⊥
RemembersTree _ v w t = t ≡ w.place.tree

-- places were given out, and none that the walk remembers at this phase
pub record IsGivenElsewhere (old new : ArenaView) (phase : Phase) (w : Walk) : Type 0 where
  pub gives : GivesOut old new
  pub nodes : (k : ℕ) → RemembersNode phase w k → at new k ≡ at old k
  pub trees : (t : ℕ) → RemembersTree phase old w t → tree_at new.trees t ≡ tree_at old.trees t

-- what a look may come to remember: what is live, what it remembers, and what a node names that it remembers
abbrev pub MayLearnNode : ArenaView → Walk → ℕ → Type 0
MayLearnNode v w k =
    ((at v k).version.deleted ≡ false) ⊎ (RemembersNode w.phase w k) ⊎ ((from : ℕ) × RemembersNode w.phase w from × NamesNode (at v from) k)

abbrev pub MayLearnTree : ArenaView → Walk → ℕ → Type 0
MayLearnTree v w t = ((tree_at v.trees t).standing ≡ Live) ⊎ (RemembersTree w.phase v w t)

-- the walk has come to remember nothing else
pub record Learns (v : ArenaView) (before after : Walk) : Type 0 where
  pub nodes : (k : ℕ) → RemembersNode after.phase after k → MayLearnNode v before k
  pub trees : (t : ℕ) → RemembersTree after.phase v after t → MayLearnTree v before t
