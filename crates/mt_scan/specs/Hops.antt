-- How a scan comes to the next border node: what it keeps on its way there, and where Hop leads.
use Rattle.std.specs.{Prelude.{◌≡◌, ◌≢◌, ◌+◌, ◌^◌, ◌<◌, ◌≤◌, ◌++◌, ℕ, length, if◌then◌else◌, Option, Some, None}, Int.{w64, to_be_bytes}}
use Rattle.mt_version.specs.Changes.{IsStable}
use Rattle.mt_slices.specs.{Keys.IsStoredKey, Slices.slice_of, Fences.least_from}
use Rattle.mt_rows.specs.{Rows.Bytes, Stamps.Stamped}
use Rattle.mt_arena.specs.{declared.tree.Standing.TheVariants.Made, NodeView.NodeView, Forests.tree_at, Arena.ArenaView, Accesses.at}
use Rattle.mt_operation.specs.{declared.phase.Phase.Phase, declared.phase.Phase.TheVariants.{Check, Hop}, declared.walk.Walk.Walk, declared.scan.Stop.Stop}
use Rattle.mt_descent.specs.{Seen.Stands, Pasts.Past, KeptWalks.{GoesThrough, IsAtBorder, KeptAt}, WalkMoves.{AnswersAgain, walk_into, walk_onto}}
use Rattle.mt_scan.specs.Snaps.{prefix_in}
use Rattle.mt_operation.specs.declared.scan.Stop.TheVariants as stops

-- node x was the next one, as the scan read the one before: a border node of the tree, which begins at the slice
pub record IsNextFrom (v : ArenaView) (tree slice x : ℕ) : Type 0 where
  pub there : x < length v.nodes
  pub tree_is : (at v x).tree ≡ tree
  pub border : (at v x).level ≡ 0
  pub begins : (at v x).low ≡ slice

-- on its way there: the fence goes through the tree, and its slice is the one at which that node begins
pub record IsAtHop (v : ArenaView) (tree layer : ℕ) (key : Bytes) (x : ℕ) : Type 0 where
  pub through : GoesThrough v tree layer key
  pub next : IsNextFrom v tree (slice_of key layer) x

-- a link of this slice leads to a tree: nobody is making it, and its keys begin with these bytes and the slice
pub record LeadsBelow (v : ArenaView) (prefix : Bytes) (slice tree : ℕ) : Type 0 where
  pub there : tree < length v.trees
  pub unmade : (q : ℕ) → (tree_at v.trees tree).standing ≢ Made q
  pub prefix_is : (tree_at v.trees tree).prefix ≡ prefix ++ to_be_bytes w64 slice

-- the link at which a stretch ended has this slice, which is not before the fence: some stored key goes on behind it, and as long as the node's version
-- stands, it leads to its tree
pub record KnowsLink (v : ArenaView) (key : Bytes) (w : Walk) (slice tree : ℕ) : Type 0 where
  pub fits : slice < 2 ^ 64
  pub from : slice_of key w.layer ≤ slice
  pub short : length (prefix_in v w) ≤ 246
  pub leads : Stands (at v w.place.node) w.place.seen → LeadsBelow v (prefix_in v w) slice tree

-- the node that follows the stretch begins at this slice, with which some stored key of the tree goes on
pub record LeadsNext (v : ArenaView) (w : Walk) (slice : ℕ) : Type 0 where
  pub fits : slice < 2 ^ 64
  pub node : ℕ
  pub is : w.next ≡ Some node
  pub begins : IsNextFrom v w.place.tree slice node
  pub short : length (least_from (prefix_in v w) slice) ≤ 255
  pub whole : 4 ≤ length (least_from (prefix_in v w) slice)

-- what is kept of the end of the stretch that a scan has seen: as long as the node's version stands, where its link leads, or which node is the next
abbrev pub KnowsEnd : ArenaView → Bytes → Walk → Stop → Type 0
KnowsEnd v key w (stops.Link slice tree) = KnowsLink v key w slice tree
KnowsEnd v key w (stops.Next slice) = Stands (at v w.place.node) w.place.seen → LeadsNext v w slice
KnowsEnd v key w _ = Unit {0}

-- at Check
pub record IsAtCheck (v : ArenaView) (key : Bytes) (w : Walk) (stop : Stop) : Type 0 where
  pub at_border : IsAtBorder v key w
  pub end : KnowsEnd v key w stop

-- at Hop: the fence goes through the link's tree, or the next node begins at its slice; from the top any stored key can be looked for
abbrev pub KeptHop : ArenaView → Bytes → Walk → Stop → Type 0
KeptHop v key w (stops.Link slice tree) = GoesThrough v tree (w.layer + 1) key
KeptHop v key w (stops.Next slice) = (x : ℕ) × (w.next ≡ Some x) × IsAtHop v w.place.tree w.layer key x
KeptHop v key w _ = IsStoredKey key

-- what is kept of a scan's walk by its next phase
abbrev pub KeptScan : Phase → ArenaView → Past → Bytes → Option Stamped → Walk → Stop → Type 0
KeptScan Check v past key row w stop = IsAtCheck v key w stop
KeptScan Hop v past key row w stop = KeptHop v key w stop
KeptScan phase v past key row w stop = KeptAt phase v past key row w

-- after Hop to the next node: there, where it was not deleted, else from the top
abbrev pub after_next : Walk → ℕ → NodeView → Walk
after_next w j m = if m.version.deleted then walk_into w 0 0 else walk_onto w j m.version

-- a step of Hop: into the link's tree, to the next node, or from the top
abbrev pub HopsTo : ArenaView → Stop → Walk → Walk → Type 0
HopsTo v (stops.Link slice tree) w x = x ≡ walk_into w tree (w.layer + 1)
HopsTo v (stops.Next slice) w x = (j : ℕ) × (w.next ≡ Some j) × IsStable (at v j).version × (x ≡ after_next w j (at v j))
HopsTo v _ w x = x ≡ walk_into w 0 0

-- who is in the way of Hop: whoever has marked the next node, and nobody where it goes to none
abbrev pub AnswersHop : ArenaView → Stop → Walk → Walk → Option ℕ → Type 0
AnswersHop v (stops.Next slice) before after held = (j : ℕ) → before.next ≡ Some j → AnswersAgain (at v j) before after held
AnswersHop v _ before after held = held ≡ None
