-- A live tree has a live node on each of its levels, and no two trees have one node, so the levels of all live trees are together no more than the live nodes:
-- for the law `levels_are_few`, and for whoever goes down from layer to layer.
use Rattle.std.proofs.Common.{◌≡◌, ◌≢◌, ℕ, zero, suc, ◌+◌, ◌<◌, ◌≤◌, List, [], ◌∷◌, length, get_or, Bool, true, false, refl, sym, ap, ◌∙◌, inl, inr, arith}
use Rattle.std.proofs.lemmas.Bool.{cases_eq, cases_lt, eq-eqb, ne_eqb, lt-ltb, le-ltb}
use Rattle.std.specs.Prelude.{if◌then◌else◌, nat_lt, ◌==◌}
use Rattle.mt_border.proofs.Edits.{step_on, step_off}
use Rattle.mt_arena.specs.{declared.tree.Tree.Tree, declared.tree.Standing.Standing, declared.tree.Standing.TheVariants.{Dead, Live}}
use Rattle.mt_arena.specs.{NodeView.{NodeView, node_at}, Nodes.{IsChild, HasRange}, Contents.is_live, Forests.{IsRoot, layer_of, tree_at}}
use Rattle.mt_arena.specs.{Arena.{IsArena, live_count}, RootLevels.{levels_of, levels_if, levels_among, levels_above}}
use Rattle.mt_arena.proofs.Grow.{not_none}

-- how many live nodes of this tree are of a lower level, and how many live nodes are of an earlier tree
abbrev one : Bool → ℕ → ℕ → ℕ
one true l m = 0
one false l m = if nat_lt l m then 1 else 0

abbrev one_in : ℕ → ℕ → NodeView → ℕ
one_in t m n = if n.tree == t then one n.version.deleted n.level m else 0

abbrev count_in : ℕ → ℕ → List NodeView → ℕ
count_in t m [] = 0
count_in t m (n ∷ ns) = one_in t m n + count_in t m ns

abbrev before : ℕ → NodeView → ℕ
before t n = one n.version.deleted n.tree t

abbrev count_before : ℕ → List NodeView → ℕ
count_before t [] = 0
count_before t (n ∷ ns) = before t n + count_before t ns

one_more : (b : Bool) (l m : ℕ) → one b l m ≤ one b l (suc m)
one_more true l m = omega arith
one_more false l m = elim (cases_lt l m) [
  | inl lt ↦ omega (arith, step_on l m 0 lt, step_on l (suc m) 0 (omega (arith, lt)))
  | inr ge ↦ omega (arith, step_off l m 0 ge)
]

one_most : (b : Bool) (l m : ℕ) → one b l m ≤ 1
one_most true l m = omega arith
one_most false l m = elim (cases_lt l m) [
  | inl lt ↦ omega (arith, step_on l m 0 lt)
  | inr ge ↦ omega (arith, step_off l m 0 ge)
]

one_hit : (b : Bool) (l m : ℕ) → b ≡ false → l ≡ m → one b l m < one b l (suc m)
one_hit true l m live is = absurd (cc)
one_hit false l m live is = omega (arith, step_off l m 0 (omega (arith, is)), step_on l (suc m) 0 (omega (arith, is)))

cond_le : (b : Bool) (x y : ℕ) → x ≤ y → (if b then x else 0) ≤ (if b then y else 0)
cond_le true x y le = le
cond_le false x y le = omega arith

in_more : (t m : ℕ) (n : NodeView) → one_in t m n ≤ one_in t (suc m) n
in_more t m n = cond_le (n.tree == t) (one n.version.deleted n.level m) (one n.version.deleted n.level (suc m)) (one_more n.version.deleted n.level m)

in_hit : (t m : ℕ) (n : NodeView) → n.tree ≡ t → n.version.deleted ≡ false → n.level ≡ m → one_in t m n < one_in t (suc m) n
in_hit t m n of live is =
    let same : (n.tree == t) ≡ true = eq-eqb n.tree t of in
    let hit = one_hit n.version.deleted n.level m live is in
    let low = ap (λ b. if b then one n.version.deleted n.level m else 0) same in
    let high = ap (λ b. if b then one n.version.deleted n.level (suc m) else 0) same in
    omega (arith, hit, low, high)

count_up : (t m : ℕ) (ns : List NodeView) → count_in t m ns ≤ count_in t (suc m) ns
count_up t m [] = omega arith
count_up t m (n ∷ ns) = omega (arith, in_more t m n, count_up t m ns)

count_hit : (t m : ℕ) (ns : List NodeView) (d : ℕ) → d < length ns → (node_at ns d).tree ≡ t → (node_at ns d).version.deleted ≡ false → (node_at ns d).level ≡ m
    → count_in t m ns < count_in t (suc m) ns
count_hit t m [] d lt of live is = absurd (omega (arith, lt))
count_hit t m (n ∷ ns) zero lt of live is = omega (arith, in_hit t m n of live is, count_up t m ns)
count_hit t m (n ∷ ns) (suc d) lt of live is = omega (arith, in_more t m n, count_hit t m ns d (omega (arith, lt)) of live is)

-- a live node of the tree and the level is there
abbrev HasLevel : List NodeView → ℕ → ℕ → Type 0
HasLevel ns t m = (d : ℕ) × (d < length ns) × ((node_at ns d).tree ≡ t) × ((node_at ns d).version.deleted ≡ false) × ((node_at ns d).level ≡ m)

all_levels : (ns : List NodeView) (t l : ℕ) → ((m : ℕ) → m < l → HasLevel ns t m) → l ≤ count_in t l ns
all_levels ns t zero each = omega arith
all_levels ns t (suc l) each =
    let h = each l (omega arith) in
    omega (arith, all_levels ns t l (λ m lt. each m (omega (arith, lt))), count_hit t l ns h.0 h.1 h.2 h.3 h.4)

-- the live nodes of this tree are behind those of the earlier ones
one_behind : (b : Bool) (u t l m : ℕ) → one b u t + (if u == t then one b l m else 0) ≤ one b u (suc t)
one_behind true u t l m = by (u == t)
  where
    by : (same : Bool) → one true u t + (if same then one true l m else 0) ≤ one true u (suc t)
    by true = omega arith
    by false = omega arith
one_behind false u t l m = elim (cases_eq u t) [
  | inl same ↦
      let is : (u == t) ≡ true = eq-eqb u t same in
      let on = ap (λ b. if b then one false l m else 0) is in
      omega (arith, on, one_most false l m, step_off u t 0 (omega (arith, same)), step_on u (suc t) 0 (omega (arith, same)))
  | inr other ↦
      let is : (u == t) ≡ false = ne_eqb u t other in
      let off = ap (λ b. if b then one false l m else 0) is in
      omega (arith, off, one_more false u t)
]

count_behind : (t m : ℕ) (ns : List NodeView) → count_before t ns + count_in t m ns ≤ count_before (suc t) ns
count_behind t m [] = omega arith
count_behind t m (n ∷ ns) = omega (arith, one_behind n.version.deleted n.tree t n.level m, count_behind t m ns)

live_most : (b : Bool) (l m : ℕ) → one b l m ≤ (if b then 0 else 1)
live_most true l m = omega arith
live_most false l m = one_most false l m

before_most : (t : ℕ) (ns : List NodeView) → count_before t ns ≤ live_count ns
before_most t [] = omega arith
before_most t (n ∷ ns) = omega (arith, live_most n.version.deleted n.tree t, before_most t ns)

module _ (nodes : List NodeView) (trees : List Tree) (arena : IsArena nodes trees) where
  -- a live node without a range is a border node
  level_range : (k : ℕ) → k < length nodes → (node_at nodes k).version.deleted ≡ false → 0 < (node_at nodes k).level → HasRange (node_at nodes k)
  level_range k lk live above = (arena.ranged.each k lk).interior above live

  -- on each level up to that of a live node a live node of its tree stands: the first child's first child, and so on
  down : (l k : ℕ) → k < length nodes → (node_at nodes k).version.deleted ≡ false → (node_at nodes k).level ≡ l → (m : ℕ) → m < suc l
      → HasLevel nodes (node_at nodes k).tree m
  down zero k lk live is m lt = (k, lk, refl, live, omega (arith, is, lt))
  down (suc l) k lk live is m lt = elim (cases_eq m (suc l)) [
    | inl same ↦ (k, lk, refl, live, is ∙ sym same)
    | inr other ↦
        let n = node_at nodes k in
        let h = arena.nodes.each k lk in
        let some : 0 < length n.children = not_none n.children (h.children.peopled (omega (arith, is)) (level_range k lk live (omega (arith, is)))) in
        let c : ℕ = get_or n.children 0 0 in
        let lc : c < length nodes = h.names.children 0 some in
        let child : IsChild n 0 (node_at nodes c) = (arena.nodes.pairs k c lk lc).child 0 some refl live in
        let deep = down l c lc child.live (omega (arith, child.level, is)) m (omega (arith, lt, other)) in
        (deep.0, deep.1, deep.2 ∙ child.tree, deep.3, deep.4)
  ]

  -- so many live nodes a live tree has at least as it has levels
  tree_levels : (t m : ℕ) → t < length trees → (tree_at trees t).standing ≡ Live → levels_of nodes (tree_at trees t) ≤ count_in t (levels_of nodes (tree_at trees t)) nodes
  tree_levels t m lt stands =
      let r : ℕ = (tree_at trees t).root in
      let lr : r < length nodes = (arena.forest.each t lt).root_there in
      let home = arena.forest.homes r t lr lt in
      let alive : (tree_at trees t).standing ≢ Dead = λ dead. absurd (let is = sym stands ∙ dead in cc) in
      let of : (node_at nodes r).tree ≡ t = home.root_tree refl alive in
      let root : IsRoot (node_at nodes r) = home.root_is refl alive in
      all_levels nodes t (levels_of nodes (tree_at trees t)) (λ m below.
      let h = down (node_at nodes r).level r lr root.live refl m (omega (arith, below)) in (h.0, h.1, h.2 ∙ of, h.3, h.4))

  levels_live : (b : Bool) (layer t x : ℕ) (tree : Tree) → x ≤ levels_of nodes tree → (b ≡ true → levels_of nodes tree ≤ count_in t (levels_of nodes tree) nodes)
      → (if b then x else 0) ≤ count_in t (levels_of nodes tree) nodes
  levels_live true layer t x tree most few = omega (arith, most, few refl)
  levels_live false layer t x tree most few = omega arith

  upper_most : (b : Bool) (x : ℕ) → (if b then x else 0) ≤ x
  upper_most true x = omega arith
  upper_most false x = omega arith

  live_is : (s : Standing) → is_live s ≡ true → s ≡ Live
  live_is Live e = refl
  live_is _ e = absurd (cc)

  among_few : (layer t : ℕ) → t ≤ length trees → levels_among nodes trees layer t ≤ count_before t nodes
  among_few layer zero le = omega arith
  among_few layer (suc t) le =
      let tree = tree_at trees t in
      let levels = levels_of nodes tree in
      let one = levels_live (is_live tree.standing) layer t (if nat_lt (layer_of tree.prefix) layer then levels else 0) tree (upper_most (nat_lt (layer_of tree.prefix) layer) levels)
      (λ e. tree_levels t 0 (omega (arith, le)) (live_is tree.standing e)) in
      omega (arith, among_few layer t (omega (arith, le)), one, count_behind t levels nodes)

  -- the levels of the trees of all upper layers are no more than the live nodes
  pub above_few : (layer : ℕ) → levels_above nodes trees layer ≤ live_count nodes
  above_few layer = omega (arith, among_few layer (length trees) (omega arith), before_most (length trees) nodes)

module _ (nodes : List NodeView) (trees : List Tree) where
  cond_none : (b : Bool) → ◌≡◌ {A = ℕ} (if b then 0 else 0) 0
  cond_none true = refl
  cond_none false = refl

  -- above the first layer is none
  if_top : (tree : Tree) → levels_if nodes 0 tree ≡ 0
  if_top tree = ap (λ b. if is_live tree.standing then (if b then levels_of nodes tree else 0) else 0) (le-ltb (layer_of tree.prefix) 0 (omega arith)) ∙ cond_none (is_live tree.standing)

  among_top : (t : ℕ) → levels_among nodes trees 0 t ≡ 0
  among_top zero = refl
  among_top (suc t) = omega (arith, among_top t, if_top (tree_at trees t))

  pub above_top : levels_above nodes trees 0 ≡ 0
  above_top = among_top (length trees)

  upper : (a layer x : ℕ) → (if nat_lt a layer then x else 0) ≤ (if nat_lt a (layer + 1) then x else 0)
  upper a layer x = elim (cases_lt a layer) [
    | inl lt ↦
        let low = ap (λ b. if b then x else 0) (lt-ltb a layer lt) in
        let high = ap (λ b. if b then x else 0) (lt-ltb a (layer + 1) (omega (arith, lt))) in
        omega (arith, low, high)
    | inr ge ↦ let low = ap (λ b. if b then x else 0) (le-ltb a layer ge) in omega (arith, low)
  ]

  if_more : (layer : ℕ) (tree : Tree) → levels_if nodes layer tree ≤ levels_if nodes (layer + 1) tree
  if_more layer tree = cond_le (is_live tree.standing) (if nat_lt (layer_of tree.prefix) layer then levels_of nodes tree else 0) (if nat_lt (layer_of tree.prefix) (layer + 1) then levels_of nodes tree else 0)
      (upper (layer_of tree.prefix) layer (levels_of nodes tree))

  among_more : (layer t : ℕ) → levels_among nodes trees layer t ≤ levels_among nodes trees (layer + 1) t
  among_more layer zero = omega arith
  among_more layer (suc t) = omega (arith, among_more layer t, if_more layer (tree_at trees t))

  -- a live tree adds its levels to those of the layers above it
  if_live : (layer : ℕ) (tree : Tree) → tree.standing ≡ Live → layer_of tree.prefix ≡ layer → levels_if nodes layer tree + levels_of nodes tree ≤ levels_if nodes (layer + 1) tree
  if_live layer tree stands of =
      let live : is_live tree.standing ≡ true = ap is_live stands in
      let off = ap (λ b. if is_live tree.standing then (if b then levels_of nodes tree else 0) else 0) (le-ltb (layer_of tree.prefix) layer (omega (arith, of))) in
      let on = ap (λ b. if is_live tree.standing then (if b then levels_of nodes tree else 0) else 0) (lt-ltb (layer_of tree.prefix) (layer + 1) (omega (arith, of))) in
      let low = cond_none (is_live tree.standing) in
      let high = ap (λ b. if b then levels_of nodes tree else 0) live in
      omega (arith, off, on, low, high)

  among_live : (layer t count : ℕ) → t < count → (tree_at trees t).standing ≡ Live → layer_of (tree_at trees t).prefix ≡ layer
      → levels_among nodes trees layer count + levels_of nodes (tree_at trees t) ≤ levels_among nodes trees (layer + 1) count
  among_live layer t zero lt stands of = absurd (omega (arith, lt))
  among_live layer t (suc count) lt stands of = elim (cases_eq t count) [
    | inl same ↦
        let here = if_live layer (tree_at trees t) stands of in
        let low = ap (λ u. levels_if nodes layer (tree_at trees u)) same in
        let high = ap (λ u. levels_if nodes (layer + 1) (tree_at trees u)) same in
        omega (arith, among_more layer count, here, low, high)
    | inr other ↦ omega (arith, among_live layer t count (omega (arith, lt, other)) stands of, if_more layer (tree_at trees count))
  ]

  pub above_live : (layer t : ℕ) → t < length trees → (tree_at trees t).standing ≡ Live → layer_of (tree_at trees t).prefix ≡ layer
      → levels_above nodes trees layer + levels_of nodes (tree_at trees t) ≤ levels_above nodes trees (layer + 1)
  above_live layer t lt stands of = among_live layer t (length trees) lt stands of
