-- A live node stands above live nodes of all lower levels, so its level is below the number of live ones: for the law
-- `a_level_needs_a_node`, and for `grow_root`, whose level must fit its type.
use Rattle.std.proofs.Common.{◌≡◌, ℕ, zero, suc, ◌+◌, ◌<◌, ◌≤◌, List, [], ◌∷◌, length, get_or, Bool, true, false, refl, sym, ◌∙◌, inl, inr, arith}
use Rattle.std.proofs.lemmas.Bool.{cases_eq, cases_lt}
use Rattle.std.specs.Prelude.{if◌then◌else◌, nat_lt}
use Rattle.mt_interior.specs.Fences.{end_of}
use Rattle.mt_border.proofs.Edits.{step_on, step_off}
use Rattle.mt_arena.specs.{declared.tree.Tree.Tree, declared.tree.Standing.TheVariants.Live, NodeView.{NodeView, node_at}, Nodes.{AreNodes, IsChild, HasRange}}
use Rattle.mt_arena.specs.{Ranges.AreRanged, Forests.{IsRoot, tree_at}, Arena.{IsArena, live_count}}
use Rattle.mt_arena.proofs.Grow.{not_none}

-- how many live nodes are of a lower level
abbrev one : Bool → ℕ → ℕ → ℕ
one true l m = 0
one false l m = if nat_lt l m then 1 else 0

abbrev count : ℕ → List NodeView → ℕ
count m [] = 0
count m (n ∷ ns) = one n.version.deleted n.level m + count m ns

one_le : (b : Bool) (l m : ℕ) → one b l m ≤ (if b then 0 else 1)
one_le true l m = omega arith
one_le false l m = elim (cases_lt l m) [
  | inl lt ↦ omega (arith, step_on l m 0 lt)
  | inr ge ↦ omega (arith, step_off l m 0 ge)
]

one_more : (b : Bool) (l m : ℕ) → one b l m ≤ one b l (suc m)
one_more true l m = omega arith
one_more false l m = elim (cases_lt l m) [
  | inl lt ↦ omega (arith, step_on l m 0 lt, step_on l (suc m) 0 (omega (arith, lt)))
  | inr ge ↦ omega (arith, step_off l m 0 ge)
]

-- a live node of this level is counted one level up
one_hit : (b : Bool) (l m : ℕ) → b ≡ false → l ≡ m → one b l m < one b l (suc m)
one_hit true l m live is = absurd (cc)
one_hit false l m live is = omega (arith, step_off l m 0 (omega (arith, is)), step_on l (suc m) 0 (omega (arith, is)))

count_le : (m : ℕ) (ns : List NodeView) → count m ns ≤ live_count ns
count_le m [] = omega arith
count_le m (n ∷ ns) = omega (arith, one_le n.version.deleted n.level m, count_le m ns)

count_up : (m : ℕ) (ns : List NodeView) → count m ns ≤ count (suc m) ns
count_up m [] = omega arith
count_up m (n ∷ ns) = omega (arith, one_more n.version.deleted n.level m, count_up m ns)

-- one more, where a live node is of this level
count_hit : (m : ℕ) (ns : List NodeView) (d : ℕ) → d < length ns → (node_at ns d).version.deleted ≡ false → (node_at ns d).level ≡ m
    → count m ns < count (suc m) ns
count_hit m [] d lt live is = absurd (omega (arith, lt))
count_hit m (n ∷ ns) zero lt live is = omega (arith, one_hit n.version.deleted n.level m live is, count_up m ns)
count_hit m (n ∷ ns) (suc d) lt live is = omega (arith, one_more n.version.deleted n.level m, count_hit m ns d (omega (arith, lt)) live is)

-- a live node of the level is there
abbrev HasLevel : List NodeView → ℕ → Type 0
HasLevel ns m = (d : ℕ) × (d < length ns) × ((node_at ns d).version.deleted ≡ false) × ((node_at ns d).level ≡ m)

all_levels : (ns : List NodeView) (l : ℕ) → ((m : ℕ) → m < l → HasLevel ns m) → l ≤ count l ns
all_levels ns zero each = omega arith
all_levels ns (suc l) each =
    let h = each l (omega arith) in
    omega (arith, all_levels ns l (λ m lt. each m (omega (arith, lt))), count_hit l ns h.0 h.1 h.2 h.3)

live_le : (b : Bool) → (if b then 0 else 1) ≤ 1
live_le true = omega arith
live_le false = omega arith

-- no more nodes are live than there are
live_count_le : (ns : List NodeView) → live_count ns ≤ length ns
live_count_le [] = omega arith
live_count_le (n ∷ ns) = omega (arith, live_le n.version.deleted, live_count_le ns)

module _ (xs : List NodeView) (nodes : AreNodes xs) (ranged : AreRanged xs) where
  -- on each level up to that of a live node with a range a live node stands: the first child's first child, and so on
  down : (l k : ℕ) → k < length xs → (node_at xs k).version.deleted ≡ false → HasRange (node_at xs k) → (node_at xs k).level ≡ l → (m : ℕ) → m < suc l
      → HasLevel xs m
  down zero k lk live range is m lt = (k, lk, live, omega (arith, is, lt))
  down (suc l) k lk live range is m lt = elim (cases_eq m (suc l)) [
    | inl same ↦ (k, lk, live, is ∙ sym same)
    | inr other ↦
        let n = node_at xs k in
        let h = nodes.each k lk in
        let some : 0 < length n.children = not_none n.children (h.children.peopled (omega (arith, is)) range) in
        let c : ℕ = get_or n.children 0 0 in
        let lc : c < length xs = h.names.children 0 some in
        let child : IsChild n 0 (node_at xs c) = (nodes.pairs k c lk lc).child 0 some refl live in
        down l c lc child.live ((ranged.each c lc).parent child.knows) (omega (arith, child.level, is)) m (omega (arith, lt, other))
  ]

  -- the level of a live node with a range is below the number of live nodes
  pub below_live : (k : ℕ) → k < length xs → (node_at xs k).version.deleted ≡ false → HasRange (node_at xs k) → (node_at xs k).level < live_count xs
  below_live k lk live range =
      let l : ℕ = (node_at xs k).level in
      omega (arith, all_levels xs (suc l) (down l k lk live range refl), count_le (suc l) xs)

  -- and so below the number of nodes
  pub level_few : (k : ℕ) → k < length xs → (node_at xs k).version.deleted ≡ false → HasRange (node_at xs k) → (node_at xs k).level < length xs
  level_few k lk live range = omega (arith, below_live k lk live range, live_count_le xs)

  -- a live node without a range is a border node, so this holds of each live node
  pub any_below_live : (k : ℕ) → k < length xs → (node_at xs k).version.deleted ≡ false → (node_at xs k).level < live_count xs
  any_below_live k lk live =
      let n = node_at xs k in
      elim (cases_lt n.low (end_of n.high)) [
        | inl range ↦ below_live k lk live range
        | inr none ↦ elim (cases_eq n.level 0) [
          | inl border ↦ omega (arith, border, count_hit 0 xs k lk live border, count_le 1 xs)
          | inr above ↦ absurd (let range = (ranged.each k lk).interior (omega (arith, above)) live in omega (arith, range, none))
        ]
      ]

-- the root of a live tree is a live node
pub root_below_live : (nodes : List NodeView) (trees : List Tree) (t : ℕ) → IsArena nodes trees → t < length trees → (tree_at trees t).standing ≡ Live
    → let r = (tree_at trees t).root in (r < length nodes) × ((node_at nodes r).level < live_count nodes)
root_below_live nodes trees t arena lt stands =
    let r : ℕ = (tree_at trees t).root in
    let lr : r < length nodes = (arena.forest.each t lt).root_there in
    let root : IsRoot (node_at nodes r) = (arena.forest.homes r t lr lt).root_is refl (λ dead. absurd (let is = stands in cc)) in
    (lr, any_below_live nodes arena.nodes arena.ranged r lr root.live)
