-- A remembered version beside the one that its node has now.
use Rattle.std.specs.Prelude.{◌≡◌, ◌≢◌, ◌<◌, ◌≤◌, ◌⊎◌, ℕ, true, false, [], Option, Some, None, length, slice_index}
use Rattle.mt_version.specs.{Parts.Parts, Changes.{Ages, range_age, insert_age}}
use Rattle.mt_interior.specs.{Places.place_of, Fences.end_of}
use Rattle.mt_arena.specs.{NodeView.NodeView, Arena.ArenaView, Accesses.at}

-- the range stands: the node is live, and was not marked for a split, nor split, since the version was seen
pub record RangeStands (n : NodeView) (seen : Parts) : Type 0 where
  pub live : n.version.deleted ≡ false
  pub range : range_age n.version ≡ range_age seen

-- the version stands: nor were its keys or children changed since
pub record Stands (n : NodeView) (seen : Parts) : Type 0 where
  pub in_range : RangeStands n seen
  pub insertion : insert_age n.version ≡ insert_age seen

-- the node was deleted or split since the version was seen
abbrev pub IsOutdated : NodeView → Parts → Type 0
IsOutdated n seen = (n.version.deleted ≡ true) ⊎ (n.version.splits ≢ seen.splits)

-- the version was the node's once, unmarked
pub record WasSeen (n : NodeView) (seen : Parts) : Type 0 where
  pub whole : seen.splitting ≡ false
  pub still : seen.inserting ≡ false
  pub ages : Ages seen n.version

-- node k of tree t was seen live with this version; its range begins at the slice or before it; an interior node has a child
pub record IsRemembered (v : ArenaView) (t k : ℕ) (seen : Parts) (slice : ℕ) : Type 0 where
  pub there : k < length v.nodes
  pub tree_is : (at v k).tree ≡ t
  pub was : WasSeen (at v k) seen
  pub undeleted : seen.deleted ≡ false
  pub from : (at v k).low ≤ slice
  pub peopled : 0 < (at v k).level → (at v k).children ≢ []

-- and the range, as long as it stands, has the slice
pub record Covers (v : ArenaView) (t k : ℕ) (seen : Parts) (slice : ℕ) : Type 0 where
  pub remembered : IsRemembered v t k seen slice
  pub below : RangeStands (at v k) seen → slice < end_of (at v k).high

-- the child of an interior node to which a slice belongs
abbrev pub child_for : NodeView → ℕ → ℕ
child_for n slice = slice_index n.children (place_of n.separators slice)

-- node c is the child for the slice, as long as the version stands
pub record IsPicked (v : ArenaView) (k : ℕ) (seen : Parts) (slice c : ℕ) : Type 0 where
  pub there : c < length v.nodes
  pub is : Stands (at v k) seen → c ≡ child_for (at v k) slice

-- the next node of border node k of tree t, remembered together with the version: as long as the range stands, it begins at the node's end
-- or before it, and where there is none, the node has no end
pub record HasNext (v : ArenaView) (t k : ℕ) (seen : Parts) (next : Option ℕ) : Type 0 where
  pub there : (j : ℕ) → next ≡ Some j → j < length v.nodes
  pub tree_is : (j : ℕ) → next ≡ Some j → (at v j).tree ≡ t
  pub border : (j : ℕ) → next ≡ Some j → (at v j).level ≡ 0
  pub after : (j : ℕ) → next ≡ Some j → (at v k).low < (at v j).low
  pub meets : (j : ℕ) → next ≡ Some j → RangeStands (at v k) seen → (at v j).low ≤ end_of (at v k).high
  pub last : next ≡ None → RangeStands (at v k) seen → end_of None ≤ end_of (at v k).high
