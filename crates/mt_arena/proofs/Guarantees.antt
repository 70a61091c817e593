-- The guarantees of two steps join to one, and which changes give one: for the clause `step` of every call, and for the laws.
use Rattle.std.proofs.Common.{◌≡◌, ◌≢◌, ℕ, ◌+◌, ◌<◌, ◌≤◌, List, [], ◌∷◌, ◌++◌, length, set, Bool, true, false, Some, None, refl, sym, ap, subst, ◌∙◌, inl, inr, arith, length-append}
use Rattle.std.proofs.{lemmas.Bool.{cases_eq, cases_lt}, lemmas.List.{length-set, get_or_past}}
use Rattle.mt_version.specs.Changes.{range_age, insert_age}
use Rattle.mt_border.proofs.KeptEntries.{entries_none, entries_two}
use Rattle.mt_arena.specs.{declared.tree.Tree.Tree, declared.tree.Standing.Standing, declared.tree.Standing.TheVariants.{Made, Live, Dead}}
use Rattle.mt_arena.specs.{NodeView.{NodeView, node_at}, Forests.{tree_at, no_tree}}
use Rattle.mt_arena.specs.Guarantee.{NodesGuarantee, Changes, TreeChanges, IsUntouched, HasSameKeys, PointsOnly, LosesHeld, LoseHeld}
use Rattle.mt_arena.proofs.{Pairs.{here, there, last, before}}
use Rattle.mt_version.proofs.CallerLemmas as versions

-- a node that stays as it is
pub untouched : (n : NodeView) → IsUntouched n n
untouched n = record { holder = refl; version = refl; slots = refl; cells = refl; separators = refl; children = refl; next = refl; high = refl; reach = refl; parented = λ some. some; orphaned = λ none. none }

untouched_on : (n m p : NodeView) → IsUntouched n m → IsUntouched m p → IsUntouched n p
untouched_on n m p a b = record {
  holder = b.holder ∙ a.holder;
  version = b.version ∙ a.version;
  slots = b.slots ∙ a.slots;
  cells = b.cells ∙ a.cells;
  separators = b.separators ∙ a.separators;
  children = b.children ∙ a.children;
  next = b.next ∙ a.next;
  high = b.high ∙ a.high;
  reach = b.reach ∙ a.reach;
  parented = λ some. b.parented (a.parented some);
  orphaned = λ none. b.orphaned (a.orphaned none);
}

-- a node has the keys and children that it has
pub same_keys : (n : NodeView) → HasSameKeys n n
same_keys n = record { slots = entries_none n.slots n.cells; separators = refl; children = refl }

same_keys_on : (n m p : NodeView) → HasSameKeys n m → HasSameKeys m p → HasSameKeys n p
same_keys_on n m p a b = record {
  slots = entries_two n.slots n.cells m.slots m.cells p.slots p.cells a.slots b.slots;
  separators = b.separators ∙ a.separators;
  children = b.children ∙ a.children;
}

-- a node that is live now was live
pub was_live : (a b : Bool) → (a ≡ true → b ≡ true) → b ≡ false → a ≡ false
was_live true b stays live = absurd (let dead = stays refl in cc)
was_live false b stays live = refl

-- a node that stays as it is keeps to what a step may change
pub changes_none : (op : ℕ) (n : NodeView) → Changes op n n
changes_none op n = record {
  tree = refl;
  level = refl;
  low = refl;
  ages = versions.ages_refl n.version;
  peopled = λ some. some;
  widens = λ same whole live. omega arith;
  keys = λ range insertion whole still. same_keys n;
  held = λ q other e. untouched n;
  taken = λ q other e. e;
}

-- two changes, one after the other
pub changes_on : (op : ℕ) (n m p : NodeView) → Changes op n m → Changes op m p → Changes op n p
changes_on op n m p a b = record {
  tree = b.tree ∙ a.tree;
  level = b.level ∙ a.level;
  low = b.low ∙ a.low;
  ages = versions.ages_trans n.version m.version p.version a.ages b.ages;
  peopled = λ some. b.peopled (a.peopled some);
  widens = λ same whole live.
      let first : range_age n.version ≡ range_age m.version = omega (arith, a.ages.range, b.ages.range, same) in
      let second : range_age m.version ≡ range_age p.version = omega (arith, a.ages.range, b.ages.range, same) in
      let still = sym (versions.range_age_tells n.version m.version first).1 ∙ whole in
      let was = was_live m.version.deleted p.version.deleted b.ages.deleted live in
      omega (arith, a.widens first whole was, b.widens second still live);
  keys = λ range insertion whole still.
      let first : range_age n.version ≡ range_age m.version = omega (arith, a.ages.range, b.ages.range, range) in
      let second : range_age m.version ≡ range_age p.version = omega (arith, a.ages.range, b.ages.range, range) in
      let up = a.ages.insertion first in
      let on = b.ages.insertion second in
      let one : insert_age n.version ≡ insert_age m.version = omega (arith, up, on, insertion) in
      let two : insert_age m.version ≡ insert_age p.version = omega (arith, up, on, insertion) in
      same_keys_on n m p (a.keys first one whole still)
      (b.keys second two (sym (versions.range_age_tells n.version m.version first).1 ∙ whole) (sym (versions.insert_age_tells n.version m.version one).1 ∙ still));
  held = λ q other e. let kept = a.held q other e in untouched_on n m p kept (b.held q other (kept.holder ∙ e));
  taken = λ q other e. a.taken q other (b.taken q other e);
}

-- and so does a tree
pub tree_changes_none : (op : ℕ) (tree : Tree) → TreeChanges op tree tree
tree_changes_none op tree = record { prefix = refl; dead = λ e. refl; made = λ q other e. refl; live = λ e q f. absurd (let both = sym e ∙ f in cc) }

-- a step that does nothing leaves all to others
pub guarantee_none : (op : ℕ) (nodes : List NodeView) (trees : List Tree) → NodesGuarantee op nodes nodes trees trees
guarantee_none op nodes trees = record {
  count = omega arith;
  tree_count = omega arith;
  nodes = λ k lt. changes_none op (node_at nodes k);
  trees = λ t lt. tree_changes_none op (tree_at trees t);
  made = λ k q lt other e. refl;
  made_new = λ k q from lt. absurd (omega (arith, from, lt));
  taken_new = λ k q from lt. absurd (omega (arith, from, lt));
}

-- a tree that is not being made never is again
stays_unmade : (op : ℕ) (b c : Tree) → ((q : ℕ) → b.standing ≢ Made q) → TreeChanges op b c → (s : Standing) → b.standing ≡ s → (q : ℕ) → c.standing ≢ Made q
stays_unmade op b c unmade second (Made by) is q e = unmade by is
stays_unmade op b c unmade second Live is q e = second.live is q e
stays_unmade op b c unmade second Dead is q e = absurd (let same = sym is ∙ ap (λ (t : Tree). t.standing) (sym (second.dead is)) ∙ e in cc)

-- a tree that is being made is there
pub made_there : (trees : List Tree) (t q : ℕ) → (tree_at trees t).standing ≡ Made q → t < length trees
made_there trees t q made = elim (cases_lt t (length trees)) [
  | inl within ↦ within
  | inr beyond ↦ absurd (let none = sym (ap (λ (u : Tree). u.standing) (get_or_past trees t no_tree beyond)) ∙ made in cc)
]

tree_changes_on : (op : ℕ) (a b c : Tree) → TreeChanges op a b → TreeChanges op b c → TreeChanges op a c
tree_changes_on op a b c first second = record {
  prefix = second.prefix ∙ first.prefix;
  dead = λ e. let same = first.dead e in second.dead (ap (λ (t : Tree). t.standing) same ∙ e) ∙ same;
  made = λ q other e. let same = first.made q other e in second.made q other (ap (λ (t : Tree). t.standing) same ∙ e) ∙ same;
  live = λ e. stays_unmade op b c (first.live e) second b.standing refl;
}

-- two steps, one after the other
pub guarantee_on : (op : ℕ) (old mid new : List NodeView) (were between are : List Tree) → NodesGuarantee op old mid were between
    → NodesGuarantee op mid new between are → ((k : ℕ) → k < length old → (node_at old k).tree < length were)
    → NodesGuarantee op old new were are
guarantee_on op old mid new were between are a b inside = record {
  count = omega (arith, a.count, b.count);
  tree_count = omega (arith, a.tree_count, b.tree_count);
  nodes = λ k lt. changes_on op (node_at old k) (node_at mid k) (node_at new k) (a.nodes k lt) (b.nodes k (omega (arith, lt, a.count)));
  trees = λ t lt. tree_changes_on op (tree_at were t) (tree_at between t) (tree_at are t) (a.trees t lt) (b.trees t (omega (arith, lt, a.tree_count)));
  made = λ k q lt other e.
      let same = a.made k q lt other e in
      let stands = (a.trees (node_at old k).tree (inside k lt)).made q other e in
      b.made k q (omega (arith, lt, a.count)) other (ap (λ (n : NodeView). (tree_at between n.tree).standing) same ∙ ap (λ (t : Tree). t.standing) stands ∙ e) ∙ same;
  made_new = λ k q from lt other e. elim (cases_lt k (length mid)) [
    | inl was ↦ a.made_new k q from was other (ap (λ t. (tree_at were t).standing) (sym (b.nodes k was).tree) ∙ e)
    | inr new_one ↦
        let t : ℕ = (node_at new k).tree in
        b.made_new k q new_one lt other (ap (λ (u : Tree). u.standing) ((a.trees t (made_there were t q e)).made q other e) ∙ e)
  ];
  taken_new = λ k q from lt other e. elim (cases_lt k (length mid)) [
    | inl was ↦ a.taken_new k q from was other ((b.nodes k was).taken q other e)
    | inr new_one ↦ b.taken_new k q new_one lt other e
  ];
}

-- one node changes, of a tree that no other operation is making
pub guarantee_set : (op : ℕ) (xs : List NodeView) (trees : List Tree) (i : ℕ) (y : NodeView) → i < length xs → Changes op (node_at xs i) y
    → ((q : ℕ) → (tree_at trees (node_at xs i).tree).standing ≡ Made q → q ≡ op) → NodesGuarantee op xs (set xs i y) trees trees
guarantee_set op xs trees i y within change mine = record {
  count = omega (arith, length-set xs i y);
  tree_count = omega arith;
  nodes = λ k lt. elim (cases_eq k i) [
    | inl same ↦ rw (same, here xs i y within) change
    | inr differ ↦ rw (there xs i k y differ) (changes_none op (node_at xs k))
  ];
  trees = λ t lt. tree_changes_none op (tree_at trees t);
  made = λ k q lt other e. elim (cases_eq k i) [
    | inl same ↦ absurd (other (mine q (subst (λ k. (tree_at trees (node_at xs k).tree).standing ≡ Made q) same e)))
    | inr differ ↦ there xs i k y differ
  ];
  made_new = λ k q from lt. absurd (omega (arith, from, lt, length-set xs i y));
  taken_new = λ k q from lt. absurd (omega (arith, from, lt, length-set xs i y));
}

-- a node more, and a tree more with its root
pub guarantee_push : (op : ℕ) (xs : List NodeView) (trees : List Tree) (y : NodeView) → ((q : ℕ) → (tree_at trees y.tree).standing ≡ Made q → q ≡ op)
    → ((q : ℕ) → q ≢ op → y.holder ≢ Some q) → NodesGuarantee op xs (xs ++ y ∷ []) trees trees
guarantee_push op xs trees y mine holder = record {
  count = omega (arith, length-append xs (y ∷ []));
  tree_count = omega arith;
  nodes = λ k lt. rw (before xs y k lt) (changes_none op (node_at xs k));
  trees = λ t lt. tree_changes_none op (tree_at trees t);
  made = λ k q lt other e. before xs y k lt;
  made_new =
      λ k q from lt other e. other (mine q (ap (λ (n : NodeView). (tree_at trees n.tree).standing) (sym (last xs y)) ∙ ap (λ k. (tree_at trees (node_at (xs ++ y ∷ []) k).tree).standing) {x = length xs} {y = k} (omega (arith, from, lt, length-append xs (y ∷ []))) ∙ e));
  taken_new =
      λ k q from lt other e. holder q other (ap (λ (n : NodeView). n.holder) (sym (last xs y)) ∙ ap (λ k. (node_at (xs ++ y ∷ []) k).holder) {x = length xs} {y = k} (omega (arith, from, lt, length-append xs (y ∷ []))) ∙ e);
}

-- one node changes and names the same neighbours and the same parent, or others that the operation holds
pub record PointsSo (op : ℕ) (nodes : List NodeView) (x y : NodeView) : Type 0 where
  pub previous : (j : ℕ) → y.previous ≡ Some j → (node_at nodes j).holder ≢ Some op → x.previous ≡ Some j
  pub parent : (j : ℕ) → y.parent ≡ Some j → (node_at nodes j).holder ≢ Some op → x.parent ≡ Some j

-- one changed node names its neighbour and its parent as a step may, where that one does
pub points_set : (op : ℕ) (xs : List NodeView) (i : ℕ) (y : NodeView) → i < length xs → PointsSo op (set xs i y) (node_at xs i) y
    → PointsOnly op xs (set xs i y)
points_set op xs i y within so = record {
  previous = λ k j lt _ e not_mine. elim (cases_eq k i) [
    | inl same ↦ ap (λ k. (node_at xs k).previous) same ∙ so.previous j (ap (λ (n : NodeView). n.previous) (sym (here xs i y within)) ∙ ap (λ k. (node_at (set xs i y) k).previous) (sym same) ∙ e) not_mine
    | inr differ ↦ ap (λ (n : NodeView). n.previous) (sym (there xs i k y differ)) ∙ e
  ];
  parent = λ k j lt _ e not_mine. elim (cases_eq k i) [
    | inl same ↦ ap (λ k. (node_at xs k).parent) same ∙ so.parent j (ap (λ (n : NodeView). n.parent) (sym (here xs i y within)) ∙ ap (λ k. (node_at (set xs i y) k).parent) (sym same) ∙ e) not_mine
    | inr differ ↦ ap (λ (n : NodeView). n.parent) (sym (there xs i k y differ)) ∙ e
  ];
  new_previous = λ k j from lt. absurd (omega (arith, from, lt, length-set xs i y));
  new_parent = λ k j from lt. absurd (omega (arith, from, lt, length-set xs i y));
}

-- a new node names no parent, and nobody before it but one that the operation holds
pub points_push : (op : ℕ) (xs : List NodeView) (y : NodeView) → ((j : ℕ) → j < length xs → y.previous ≡ Some j → (node_at xs j).holder ≡ Some op)
    → y.parent ≡ None → PointsOnly op xs (xs ++ y ∷ [])
points_push op xs y previous parent =
    let size : length (xs ++ y ∷ []) ≡ length xs + 1 = length-append xs (y ∷ []) in
    record {
      previous = λ k j lt _ e not_mine. ap (λ (n : NodeView). n.previous) (sym (before xs y k lt)) ∙ e;
      parent = λ k j lt _ e not_mine. ap (λ (n : NodeView). n.parent) (sym (before xs y k lt)) ∙ e;
      new_previous = λ k j from lt lt_j e.
          let is : k ≡ length xs = omega arith in
          ap (λ (n : NodeView). n.holder) (before xs y j lt_j) ∙ previous j lt_j (ap (λ (n : NodeView). n.previous) (sym (last xs y)) ∙ ap (λ k. (node_at (xs ++ y ∷ []) k).previous) (sym is) ∙ e);
      new_parent = λ k j from lt _ e.
          let is : k ≡ length xs = omega arith in
          absurd (let at = sym parent ∙ ap (λ (n : NodeView). n.parent) (sym (last xs y)) ∙ ap (λ k. (node_at (xs ++ y ∷ []) k).parent) (sym is) ∙ e in cc);
    }

-- a node that keeps its entries loses none
pub lost_none : (n : NodeView) → LosesHeld n n
lost_none n whole slot live gone = absurd (gone live)

pub lost_same : (n m : NodeView) → m.slots ≡ n.slots → m.cells ≡ n.cells → LosesHeld n m
lost_same n m slots cells whole slot live gone = absurd (gone (rw (slots, cells) live))

pub lost_all : (xs : List NodeView) → LoseHeld xs xs
lost_all xs k lt = lost_none (node_at xs k)

-- one node changes, and a node more
pub lost_set : (xs : List NodeView) (i : ℕ) (y : NodeView) → i < length xs → LosesHeld (node_at xs i) y → LoseHeld xs (set xs i y)
lost_set xs i y within lost k lt = elim (cases_eq k i) [
  | inl same ↦ rw (same, here xs i y within) lost
  | inr differ ↦ rw (there xs i k y differ) (lost_none (node_at xs k))
]

pub lost_push : (old new : List NodeView) (g : NodeView) → length old ≤ length new → LoseHeld old new → LoseHeld old (new ++ g ∷ [])
lost_push old new g more lost k lt = rw (before new g k (omega (arith, lt, more))) (lost k lt)

-- a node that has the entries and the cells that it had, and isn't split meanwhile
pub record HasSameCells (n m : NodeView) : Type 0 where
  pub slots : m.slots ≡ n.slots
  pub cells : m.cells ≡ n.cells
  pub whole : n.version.splitting ≡ false → m.version.splitting ≡ false

-- two steps, of which the first one leaves all cells as they were
pub lost_then : (old mid new : List NodeView) → length old ≤ length mid → ((k : ℕ) → k < length old → HasSameCells (node_at old k) (node_at mid k)) → LoseHeld mid new → LoseHeld old new
lost_then old mid new more same lost k lt =
    let s = same k lt in
    by (node_at old k) (node_at mid k) (node_at new k) s.slots s.cells s.whole (lost k (omega (arith, lt, more)))
  where
    by : (n m p : NodeView) → m.slots ≡ n.slots → m.cells ≡ n.cells → (n.version.splitting ≡ false → m.version.splitting ≡ false) → LosesHeld m p → LosesHeld n p
    by n m p slots cells still lost whole = rw (← slots, ← cells) (lost (still whole))
