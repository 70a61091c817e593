-- What each step of a removal leaves of all nodes, by what its call ensures: no pair moves, and no version counts a change.
use Rattle.std.proofs.Common.{◌≡◌, ℕ, ◌+◌, ◌<◌, ◌⊎◌, inl, inr, Bool, true, false, cond, List, [], length, set, Some, refl, sym, ap, subst, ◌∙◌, arith}
use Rattle.std.proofs.{lemmas.Bool.{both_ways, cases_eq}, lemmas.List.{length-set, get_or-set_same, get_or-set_other}, lemmas.List.Elements.All-from_get_or}
use Rattle.std.specs.List.{All, remove}
use Rattle.mt_border.{specs.{declared.entry.Entry.Entry, Entries.{without, place_in}, Entry.order_of}, proofs.Edits.{any_entry, All-remove}}
use Rattle.mt_arena.specs.{declared.tree.Tree.Tree, declared.tree.Standing.Standing, declared.tree.Standing.TheVariants.{Live, Dead}, NodeView.NodeView}
use Rattle.mt_arena.specs.{Layers.slot_at, Forests.{no_tree, tree_at}, Contents.{counts, is_live}, Edits.{pointed, locked, retired, with_slots, cells_without, inserting}}
use Rattle.mt_arena.specs.{Arena.{ArenaView, content_of, Guarantee}, Accesses.{at, tree_of, IsHeld, with_node}}
use Rattle.mt_arena.specs.{Removals.{without_node, without_root, without_layer}, Unlinks.{joined, without_child}, Collapses.crowned}
use Rattle.mt_arena.proofs.Pairs.{here, there as there_other}
use Rattle.mt_state.specs.KeptBack.{Retires, TakesLive}
use Rattle.mt_state.specs.{Views.Core, Invariant.{IsCountedUpTo, DeletedAreEmpty, StateInvariant}}
use Rattle.mt_state.proofs.{Quiet.{AreSlotsOf, HasPairsOf, LeavesPairs}, Climbing.each_set, Growing.changes_on}

-- the same tree; each slot is one that was there, and none is left if the node was taken out; the version's counts stay; and a lock is taken of a live
-- node alone
pub record Stays (o : ℕ) (x y : NodeView) : Type 0 where
  pub slots : AreSlotsOf x y
  pub tree : y.tree ≡ x.tree
  pub gone : x.version.deleted ≡ true → y.version.deleted ≡ true
  pub emptied : y.version.deleted ≡ true → y.slots ≡ []
  pub inserts : y.version.inserts ≡ x.version.inserts
  pub splits : y.version.splits ≡ x.version.splits
  pub taken : y.holder ≡ Some o → (x.holder ≡ Some o) ⊎ (x.version.deleted ≡ false)

-- all nodes stay so, and each tree that is live was live, with the same prefix
pub record LeavesNodes (o : ℕ) (old new : ArenaView) : Type 0 where
  pub count : length new.nodes ≡ length old.nodes
  pub each : (k : ℕ) → k < length old.nodes → Stays o (at old k) (at new k)
  pub trees : length new.trees ≡ length old.trees
  pub prefix : (t : ℕ) → (tree_at new.trees t).prefix ≡ (tree_at old.trees t).prefix
  pub standing : (t : ℕ) → (tree_at new.trees t).standing ≡ Live → (tree_at old.trees t).standing ≡ Live

pub stays_same : (o : ℕ) (x : NodeView) → (x.version.deleted ≡ true → x.slots ≡ []) → Stays o x x
stays_same o x emptied = record {
  slots = λ i within. (i, within, refl);
  tree = refl;
  gone = λ gone. gone;
  emptied = emptied;
  inserts = refl;
  splits = refl;
  taken = λ held. inl held;
}

-- a live node counts in a live tree alone
counted_both : (trees : List Tree) (n : NodeView) → counts trees n ≡ true → (n.version.deleted ≡ false) × ((tree_at trees n.tree).standing ≡ Live)
counted_both trees n = by n.version.deleted (tree_at trees n.tree).standing
  where
    by : (deleted : Bool) (standing : Standing) → cond deleted false (is_live standing) ≡ true → (deleted ≡ false) × (standing ≡ Live)
    by true standing e = absurd (cc)
    by false Live e = (refl, refl)
    by false Dead e = absurd (cc)
    by false _ e = absurd (cc)

counted_of : (trees : List Tree) (n : NodeView) → n.version.deleted ≡ false → (tree_at trees n.tree).standing ≡ Live → counts trees n ≡ true
counted_of trees n live standing = ap (λ d. cond d false (is_live (tree_at trees n.tree).standing)) live ∙ ap is_live standing

not_gone : (b : Bool) → (b ≡ true → false ≡ true) → b ≡ false
not_gone false never = refl
not_gone true never = absurd (let no = never refl in cc)

module _ (c : Core) (o : ℕ) (h : StateInvariant c) (new : ArenaView) (l : LeavesNodes o c.arena new) where
  pub stood : (k : ℕ) → k < length new.nodes → counts new.trees (at new k) ≡ true → HasPairsOf c.arena new k
  stood k within counted =
      let was : k < length c.arena.nodes = omega (arith, within, l.count) in
      let n = l.each k was in
      let both = counted_both new.trees (at new k) counted in
      record {
        there = was;
        counted = counted_of c.arena.trees (at c.arena k) (not_gone (at c.arena k).version.deleted (λ gone. sym both.0 ∙ n.gone gone))
            (ap (λ t. (tree_at c.arena.trees t).standing) (sym n.tree) ∙ l.standing (at new k).tree both.1);
        prefix = l.prefix (at new k).tree ∙ ap (λ t. (tree_at c.arena.trees t).prefix) n.tree;
        slots = n.slots;
      }

  pub versions : (k : ℕ) → k < length new.nodes → IsCountedUpTo (c.steps + 1) (at new k)
  versions k within =
      let was : k < length c.arena.nodes = omega (arith, within, l.count) in
      let n = l.each k was in let v = h.versions k was in record { inserts = omega (arith, n.inserts, v.inserts); splits = omega (arith, n.splits, v.splits) }

  -- what it holds then it held before, or it was live
  pub removal_takes : TakesLive o c.arena new
  removal_takes k within holds = let was : k < length c.arena.nodes = omega (arith, within, l.count) in inl (was, (l.each k was).taken holds)

  -- what a step of a removal leaves
  pub removal_leaves : Guarantee o c.arena new → content_of new ≡ content_of c.arena → Retires c.steps c.arena.retired new.retired → LeavesPairs c o new
  removal_leaves guarantee contents taken_out = record {
    changes = changes_on c o new l.count l.trees guarantee taken_out;
    contents = contents;
    stood = λ k within counted. inl (stood k within counted);
    versions = versions;
    deleted = λ k within gone. (l.each k (omega (arith, within, l.count))).emptied gone;
    taken_out = taken_out;
    takes = removal_takes;
    makes =
        let count = l.count in
        let trees = l.trees in
        record { nodes_stay = omega (arith, count); one_node = omega (arith, count); trees_stay = omega (arith, trees); one_tree = omega (arith, trees) };
  }

module _ (o : ℕ) (v : ArenaView) (deleted : DeletedAreEmpty v) where
  all_same : (k : ℕ) → k < length v.nodes → Stays o (at v k) (at v k)
  all_same k within = stays_same o (at v k) (deleted k within)

  -- nothing happened
  pub none_leaves : LeavesNodes o v v
  none_leaves = record { count = refl; each = all_same; trees = refl; prefix = λ t. refl; standing = λ t live. live }

  -- a node was replaced by one that stays so
  pub one_leaves : (k : ℕ) (y : NodeView) → Stays o (at v k) y → LeavesNodes o v (with_node v k y)
  one_leaves k y stays = record {
    count = length-set v.nodes k y;
    each = each_set (λ j m. Stays o (at v j) m) v.nodes k y all_same stays;
    trees = refl;
    prefix = λ t. refl;
    standing = λ t live. live;
  }

  -- a live node was locked that nobody held
  pub lock_leaves : (k : ℕ) → k < length v.nodes → (at v k).version.deleted ≡ false → LeavesNodes o v (with_node v k (locked (at v k) o))
  lock_leaves k within live = one_leaves k (locked (at v k) o) (record {
    slots = λ i inside. (i, inside, refl);
    tree = refl;
    gone = λ gone. gone;
    emptied = deleted k within;
    inserts = refl;
    splits = refl;
    taken = λ held. inr live;
  })

  -- the node behind names another one as the one before
  pub named_leaves : (k left : ℕ) → k < length v.nodes → LeavesNodes o v (with_node v k (pointed (at v k) (Some left) (at v k).parent))
  named_leaves k left within = one_leaves k (pointed (at v k) (Some left) (at v k).parent) (record {
    slots = λ i inside. (i, inside, refl);
    tree = refl;
    gone = λ gone. gone;
    emptied = deleted k within;
    inserts = refl;
    splits = refl;
    taken = λ held. inl held;
  })

-- the slots without one are slots that were there
pub slots_removed : (n m : NodeView) (i : ℕ) → m.slots ≡ remove n.slots i → AreSlotsOf n m
slots_removed n m i same j within =
    let all : All (λ e. (k : ℕ) × (k < length n.slots) × (e ≡ slot_at n k)) n.slots = All-from_get_or (λ e. (k : ℕ) × (k < length n.slots) × (e ≡ slot_at n k)) n.slots any_entry (λ k inside. (k, inside, refl)) in
    subst (λ (s : List Entry). All (λ e. (k : ℕ) × (k < length n.slots) × (e ≡ slot_at n k)) s) (sym same)
    (All-remove (λ e. (k : ℕ) × (k < length n.slots) × (e ≡ slot_at n k)) n.slots i all) j any_entry within

-- a tree among others of which one is another
tree_set : (trees : List Tree) (t : ℕ) (y : Tree) → t < length trees → (u : ℕ)
    → ((u ≡ t) × (tree_at (set trees t y) u ≡ y)) ⊎ (tree_at (set trees t y) u ≡ tree_at trees u)
tree_set trees t y within u = elim (cases_eq u t) [
  | inl is ↦ inl (is, ap (tree_at (set trees t y)) is ∙ get_or-set_same trees t y no_tree within)
  | inr other ↦ inr (get_or-set_other trees t u y no_tree other)
]

module _ (o : ℕ) (v : ArenaView) (deleted : DeletedAreEmpty v) where
  -- an empty border node was taken out, with its left neighbour and its parent held
  pub unlink_leaves : (parent left node step : ℕ) → IsHeld v parent o → IsHeld v left o → IsHeld v node o → (at v node).slots ≡ []
      → LeavesNodes o v (without_node v parent left node step)
  unlink_leaves parent left node step parent_held left_held node_held empty =
      let x = at v node in
      let size_1 = length-set v.nodes left (joined (at v left) x) in
      let size_2 = length-set (set v.nodes left (joined (at v left) x)) node (retired x) in
      let size_3 = length-set (set (set v.nodes left (joined (at v left) x)) node (retired x)) parent _ in
      record {
        count = size_3 ∙ size_2 ∙ size_1;
        each = λ k within.
            each_set (λ j m. Stays o (at v j) m) (set (set v.nodes left (joined (at v left) x)) node (retired x)) parent _
            (λ j inside. each_set (λ j m. Stays o (at v j) m) (set v.nodes left (joined (at v left) x)) node (retired x)
            (λ i there. each_set (λ j m. Stays o (at v j) m) v.nodes left (joined (at v left) x) (all_same o v deleted) new_left i (omega (arith, there, size_1)))
            new_node j (omega (arith, inside, size_2)))
            (new_parent _) k (omega (arith, within, size_1, size_2));
        trees = refl;
        prefix = λ t. refl;
        standing = λ t live. live;
      }
    where
      new_left : Stays o (at v left) (joined (at v left) (at v node))
      new_left = record {
        slots = λ i inside. (i, inside, refl);
        tree = refl;
        gone = λ gone. gone;
        emptied = deleted left left_held.there;
        inserts = refl;
        splits = refl;
        taken = λ held. inl left_held.holder;
      }

      new_node : Stays o (at v node) (retired (at v node))
      new_node = record {
        slots = λ i inside. (i, inside, refl);
        tree = refl;
        gone = λ gone. refl;
        emptied = λ gone. empty;
        inserts = refl;
        splits = refl;
        taken = λ held. inl node_held.holder;
      }

      new_parent : (a : ℕ) → Stays o (at v parent) (without_child (inserting (at v parent)) a)
      new_parent a = record {
        slots = λ i inside. (i, inside, refl);
        tree = refl;
        gone = λ gone. gone;
        emptied = deleted parent parent_held.there;
        inserts = refl;
        splits = refl;
        taken = λ held. inl parent_held.holder;
      }

  -- a root gave way to its only child
  pub collapse_leaves : (root child step : ℕ) → IsHeld v root o → IsHeld v child o → (at v root).slots ≡ [] → (at v root).tree < length v.trees
      → LeavesNodes o v (without_root v root child step)
  collapse_leaves root child step root_held child_held empty tree_there =
      let size_1 = length-set v.nodes root (retired (at v root)) in
      let size_2 = length-set (set v.nodes root (retired (at v root))) child (crowned (at v child)) in
      let rooted = record (tree_of v root) { root = child } in
      record {
        count = size_2 ∙ size_1;
        each = λ k within.
            each_set (λ j m. Stays o (at v j) m) (set v.nodes root (retired (at v root))) child (crowned (at v child))
            (λ j inside. each_set (λ j m. Stays o (at v j) m) v.nodes root (retired (at v root)) (all_same o v deleted) new_root j (omega (arith, inside, size_1)))
            new_child k (omega (arith, within, size_1));
        trees = length-set v.trees (at v root).tree rooted;
        prefix = λ t. elim (tree_set v.trees (at v root).tree rooted tree_there t) [
          | inl same ↦ ap (λ (x : Tree). x.prefix) same.1 ∙ ap (λ u. (tree_at v.trees u).prefix) (sym same.0)
          | inr other ↦ ap (λ (x : Tree). x.prefix) other
        ];
        standing = λ t live. elim (tree_set v.trees (at v root).tree rooted tree_there t) [
          | inl same ↦ ap (λ u. (tree_at v.trees u).standing) same.0 ∙ ap (λ (x : Tree). x.standing) (sym same.1) ∙ live
          | inr other ↦ ap (λ (x : Tree). x.standing) (sym other) ∙ live
        ];
      }
    where
      new_root : Stays o (at v root) (retired (at v root))
      new_root = record {
        slots = λ i inside. (i, inside, refl);
        tree = refl;
        gone = λ gone. refl;
        emptied = λ gone. empty;
        inserts = refl;
        splits = refl;
        taken = λ held. inl root_held.holder;
      }

      new_child : Stays o (at v child) (crowned (at v child))
      new_child = record {
        slots = λ i inside. (i, inside, refl);
        tree = refl;
        gone = λ gone. gone;
        emptied = deleted child child_held.there;
        inserts = refl;
        splits = refl;
        taken = λ held. inl child_held.holder;
      }

  -- an empty layer was taken out, once the root of its tree was locked
  module _ (node i u step : ℕ) (node_held : IsHeld v node o) (live : (at v node).version.deleted ≡ false) (tree_there : u < length v.trees) (root_there : (tree_at v.trees u).root < length v.nodes)
      (empty : (at v (tree_at v.trees u).root).slots ≡ []) (root_live : (at v (tree_at v.trees u).root).version.deleted ≡ false) where
    abbrev root : ℕ
    root = (tree_at v.trees u).root

    abbrev locking : ArenaView
    locking = with_node v root (locked (at v root) o)

    abbrev without_link : NodeView
    without_link = with_slots (at locking node) (without (at locking node).slots (slot_at (at locking node) i)) (cells_without (at locking node).cells i)

    locks : LeavesNodes o v locking
    locks = lock_leaves o v deleted root root_there root_live

    -- the node is live as before
    still_live : (at locking node).version.deleted ≡ false
    still_live = elim (cases_eq node root) [
      | inl same ↦ ap (λ j. (at locking j).version.deleted) same ∙ ap (λ (n : NodeView). n.version.deleted) (here v.nodes root (locked (at v root) o) root_there)
          ∙ ap (λ j. (at v j).version.deleted) (sym same) ∙ live
      | inr other ↦ ap (λ (n : NodeView). n.version.deleted) (there_other v.nodes root node (locked (at v root) o) other) ∙ live
    ]

    new_node : Stays o (at v node) without_link
    new_node =
        let s = locks.each node node_held.there in
        record {
          slots = λ j inside.
              let r = slots_removed (at locking node) without_link (place_in (at locking node).slots (order_of (slot_at (at locking node) i))) refl j inside in
              let w = s.slots r.0 r.1 in (w.0, w.1, r.2 ∙ w.2);
          tree = s.tree;
          gone = s.gone;
          emptied = λ gone. absurd (both_ways _ still_live gone);
          inserts = s.inserts;
          splits = s.splits;
          taken = λ held. inl node_held.holder;
        }

    new_root : Stays o (at v root) (retired (at locking root))
    new_root =
        let is : at locking root ≡ locked (at v root) o = here v.nodes root (locked (at v root) o) root_there in
        subst (λ (n : NodeView). Stays o (at v root) (retired n)) (sym is) (record {
          slots = λ j inside. (j, inside, refl);
          tree = refl;
          gone = λ gone. refl;
          emptied = λ gone. empty;
          inserts = refl;
          splits = refl;
          taken = λ held. inr root_live;
        })

    pub clean_leaves : LeavesNodes o v (without_layer locking node i u step)
    clean_leaves =
        let size_1 = length-set v.nodes root (locked (at v root) o) in
        let size_2 = length-set locking.nodes node without_link in
        let size_3 = length-set (set locking.nodes node without_link) root (retired (at locking root)) in
        let dead = record (tree_at v.trees u) { standing = Dead } in
        record {
          count = size_3 ∙ size_2 ∙ size_1;
          each = λ k within.
              each_set (λ j m. Stays o (at v j) m) (set locking.nodes node without_link) root (retired (at locking root))
              (λ j inside. each_set (λ j m. Stays o (at v j) m) locking.nodes node without_link
              (λ j inside. locks.each j (omega (arith, inside, size_1))) new_node j (omega (arith, inside, size_2)))
              new_root k (omega (arith, within, size_1, size_2));
          trees = length-set v.trees u dead;
          prefix = λ t. elim (tree_set v.trees u dead tree_there t) [
            | inl same ↦ ap (λ (x : Tree). x.prefix) same.1 ∙ ap (λ j. (tree_at v.trees j).prefix) (sym same.0)
            | inr other ↦ ap (λ (x : Tree). x.prefix) other
          ];
          standing = λ t live. elim (tree_set v.trees u dead tree_there t) [
            | inl same ↦ absurd (let no = ap (λ (x : Tree). x.standing) (sym same.1) ∙ live in cc)
            | inr other ↦ ap (λ (x : Tree). x.standing) (sym other) ∙ live
          ];
        }
