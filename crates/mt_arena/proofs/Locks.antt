-- The whole invariant and the guarantee where a lock is taken or given back, for `lock` and `unlock`; and where a node is marked for readers of its range, for the calls that split one.
use Rattle.mt_arena.proofs.{Pairs.{here, there}, Guarantees.{lost_none, HasSameCells}}
use Rattle.mt_border.proofs.KeptEntries.{entries_none}
use Rattle.std.proofs.{Common.{◌≡◌, ◌≢◌, ℕ, ◌<◌, List, length, set, false, Option, Some, None, refl, sym, ap, ◌∙◌, inl, inr, arith}, lemmas.Option.same_Some, lemmas.Bool.cases_eq}
use Rattle.mt_interior.specs.Fences.{end_of}
use Rattle.mt_arena.specs.{Nodes.HasRange, Settled.IsSettled, declared.tree.Tree.Tree, Idle.{RetiredPlaces, Rooms}, NodeView.{NodeView, node_at}}
use Rattle.mt_arena.specs.{Guarantee.Changes, Edits.{locked, unlocked, splitting}, Invariant.ArenaInvariant, Arena.{IsArena, ArenaView, Guarantee}}
use Rattle.mt_arena.specs.Accesses.{at, IsOpen, with_node}
use Rattle.mt_arena.proofs.{Quiet.{nodes_locked, nodes_splitting}, Ranged.{ranged_locked, ranged_unlocked, ranged_marked}, Unlock.nodes_unlocked}
use Rattle.mt_arena.proofs.{LinkEdits.same_links, Steps.{sound_set, own_keys, step_set}}
use Rattle.mt_version.proofs.Aging.{ages-locked, ages-unlocked, ages-marked_splitting}

-- the whole invariant stands as a lock is taken
pub sound_locked : (xs : List NodeView) (trees : List Tree) (gone : RetiredPlaces) (room : Rooms) (i op : ℕ) → i < length xs → ArenaInvariant xs trees gone room
    → (node_at xs i).holder ≡ None → ArenaInvariant (set xs i (locked (node_at xs i) op)) trees gone room
sound_locked xs trees gone room i op within sound free =
    let x = node_at xs i in
    sound_set xs trees gone room i (locked x op) within sound (nodes_locked xs i op within sound.arena.nodes) (ranged_locked xs i op within sound.arena.nodes sound.arena.ranged free)
    record { tree = refl; level = refl; low = refl; deleted = refl; flag = refl; root = λ r. record { live = r.live; flag = r.flag; parentless = r.parentless; low = r.low; reach = r.reach } }
    (own_keys xs trees i within sound.arena.forest)
    record { tree = refl; deleted = refl; forth = same_links x.slots; back = same_links x.slots }
    record { next = refl; children = refl }

changes_locked : (op : ℕ) (x : NodeView) → x.holder ≡ None → Changes op x (locked x op)
changes_locked op x free = record {
  tree = refl;
  level = refl;
  low = refl;
  ages = ages-locked x.version;
  peopled = λ some. some;
  widens = λ same whole live. omega arith;
  keys = λ range insertion whole still. record { slots = entries_none _ _; separators = refl; children = refl };
  held = λ q other e. absurd (let none = free in cc);
  taken = λ q other e. absurd (other (sym (let is = e in cc)));
}

-- what a lock that is taken leaves to others
pub step_locked : (v : ArenaView) (i op : ℕ) → i < length v.nodes → (at v i).holder ≡ None → IsOpen v i op → Guarantee op v (with_node v i (locked (at v i) op))
step_locked v i op within free mine =
    step_set op v i (locked (at v i) op) within (changes_locked op (at v i) free) mine (record { previous = λ j e not_mine. e; parent = λ j e not_mine. e }) (lost_none (at v i))

-- all nodes have the cells that they had
pub same_locked : (xs : List NodeView) (i op : ℕ) → i < length xs → (k : ℕ) → k < length xs → HasSameCells (node_at xs k) (node_at (set xs i (locked (node_at xs i) op)) k)
same_locked xs i op within k lt = elim (cases_eq k i) [
  | inl same ↦ rw (same, here xs i (locked (node_at xs i) op) within) (record { slots = refl; cells = refl; whole = λ whole. whole })
  | inr differ ↦ rw (there xs i k (locked (node_at xs i) op) differ) (record { slots = refl; cells = refl; whole = λ whole. whole })
]

-- a live node behind which nothing lags has a range: it has a parent, or is a root
settled_range : (xs : List NodeView) (trees : List Tree) (i : ℕ) → i < length xs → IsArena xs trees → IsSettled xs i (node_at xs i)
    → (node_at xs i).version.deleted ≡ false → HasRange (node_at xs i)
settled_range xs trees i within arena settled live = by (node_at xs i).parent refl
  where
    by : (p : Option ℕ) → (node_at xs i).parent ≡ p → HasRange (node_at xs i)
    by (Some p) is = (arena.ranged.each i within).parent (λ none. absurd (let both = sym is ∙ none in cc))
    by None is =
        let x = node_at xs i in
        let home = arena.forest.homes i x.tree within (arena.forest.tree_there i within) in
        let root = home.root_is (home.root_named refl live (settled.rooted live is)) (home.standing refl live) in
        omega (arith, root.low, ap end_of (sym settled.reach ∙ root.reach))

-- a lock is given back
pub sound_unlocked : (xs : List NodeView) (trees : List Tree) (gone : RetiredPlaces) (room : Rooms) (i : ℕ) → i < length xs → ArenaInvariant xs trees gone room
    → IsSettled xs i (node_at xs i) → ArenaInvariant (set xs i (unlocked (node_at xs i))) trees gone room
sound_unlocked xs trees gone room i within sound settled =
    let x = node_at xs i in
    sound_set xs trees gone room i (unlocked x) within sound (nodes_unlocked xs i within sound.arena.nodes settled) (ranged_unlocked xs i within sound.arena.ranged settled (settled_range xs trees i within sound.arena settled))
    record { tree = refl; level = refl; low = refl; deleted = refl; flag = refl; root = λ r. record { live = r.live; flag = r.flag; parentless = r.parentless; low = r.low; reach = r.reach } }
    (own_keys xs trees i within sound.arena.forest)
    record { tree = refl; deleted = refl; forth = same_links x.slots; back = same_links x.slots }
    record { next = refl; children = refl }

-- what another operation would hold is not this one's
pub not_others : (op q : ℕ) (x : NodeView) → x.holder ≡ Some op → q ≢ op → x.holder ≢ Some q
not_others op q x mine other e = other (same_Some q op (sym e ∙ mine))

changes_unlocked : (op : ℕ) (x : NodeView) → x.holder ≡ Some op → Changes op x (unlocked x)
changes_unlocked op x mine = record {
  tree = refl;
  level = refl;
  low = refl;
  ages = ages-unlocked x.version;
  peopled = λ some. some;
  widens = λ same whole live. omega arith;
  keys = λ range insertion whole still. record { slots = entries_none _ _; separators = refl; children = refl };
  held = λ q other e. absurd (not_others op q x mine other e);
  taken = λ q other e. absurd (cc);
}

-- and one that is given back
pub step_unlocked : (v : ArenaView) (i op : ℕ) → i < length v.nodes → (at v i).holder ≡ Some op → IsOpen v i op
    → Guarantee op v (with_node v i (unlocked (at v i)))
step_unlocked v i op within held mine =
    step_set op v i (unlocked (at v i)) within (changes_unlocked op (at v i) held) mine (record { previous = λ j e not_mine. e; parent = λ j e not_mine. e }) (lost_none (at v i))

-- the mark that readers of the range wait for
pub sound_splitting : (xs : List NodeView) (trees : List Tree) (gone : RetiredPlaces) (room : Rooms) (i : ℕ) → i < length xs → ArenaInvariant xs trees gone room
    → (node_at xs i).holder ≢ None → ArenaInvariant (set xs i (splitting (node_at xs i))) trees gone room
sound_splitting xs trees gone room i within sound held =
    let x = node_at xs i in
    sound_set xs trees gone room i (splitting x) within sound (nodes_splitting xs i within sound.arena.nodes held) (ranged_marked xs i x.slots x.cells (splitting x).version within sound.arena.ranged refl (λ _. refl) (λ e. absurd (cc)))
    record { tree = refl; level = refl; low = refl; deleted = refl; flag = refl; root = λ r. record { live = r.live; flag = r.flag; parentless = r.parentless; low = r.low; reach = r.reach } }
    (own_keys xs trees i within sound.arena.forest)
    record { tree = refl; deleted = refl; forth = same_links x.slots; back = same_links x.slots }
    record { next = refl; children = refl }

pub changes_splitting : (op : ℕ) (x : NodeView) → x.holder ≡ Some op → Changes op x (splitting x)
changes_splitting op x mine = record {
  tree = refl;
  level = refl;
  low = refl;
  ages = ages-marked_splitting x.version;
  peopled = λ some. some;
  widens = λ same whole live. omega arith;
  keys = λ range insertion whole still. record { slots = entries_none _ _; separators = refl; children = refl };
  held = λ q other e. absurd (not_others op q x mine other e);
  taken = λ q other e. e;
}

-- who holds a node holds it
pub is_held : (op : ℕ) (x : NodeView) → x.holder ≡ Some op → x.holder ≢ None
is_held op x mine none = absurd (cc)
