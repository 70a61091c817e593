-- The whole invariant and the guarantee where the node before another one or its parent is written: for `set_previous` and `set_parent`.
use Rattle.mt_arena.proofs.Guarantees.{lost_none}
use Rattle.mt_border.proofs.KeptEntries.{entries_none}
use Rattle.std.proofs.Common.{◌≡◌, ◌≢◌, ℕ, ◌<◌, ◌⊎◌, List, length, set, true, false, Option, Some, None, refl, sym, ap, ◌∙◌, inl, inr, arith}
use Rattle.std.proofs.{lemmas.Bool.cases_eq, lemmas.Option.same_Some}
use Rattle.mt_arena.specs.{declared.tree.Tree.Tree, Idle.{RetiredPlaces, Rooms}, NodeView.{NodeView, node_at}, Nodes.HasRange, Ranges.Waits}
use Rattle.mt_arena.specs.{Guarantee.Changes, Edits.{pointed, Points}, Invariant.ArenaInvariant, Arena.{ArenaView, Guarantee}, Accesses.{at, IsOpen, with_node}}
use Rattle.mt_arena.proofs.{Pairs.{here, there}, Point.nodes_pointed, Ranged.ranged_pointed, LinkEdits.same_links, Steps.{sound_set, own_keys, step_set}}
use Rattle.mt_version.proofs.CallerLemmas as versions

-- where a live root keeps its want of a parent
pub sound_pointed : (xs : List NodeView) (trees : List Tree) (gone : RetiredPlaces) (room : Rooms) (i : ℕ) (previous parent : Option ℕ) → i < length xs
    → ArenaInvariant xs trees gone room → Points xs (node_at xs i) previous parent
    → ((node_at xs i).version.root ≡ true → parent ≡ (node_at xs i).parent) → (parent ≢ None → HasRange (node_at xs i))
    → (Waits (node_at xs i) → previous ≡ (node_at xs i).previous)
    → ArenaInvariant (set xs i (pointed (node_at xs i) previous parent)) trees gone room
sound_pointed xs trees gone room i previous parent within sound points no_root range tied =
    let x = node_at xs i in
    sound_set xs trees gone room i (pointed x previous parent) within sound (nodes_pointed xs i previous parent within sound.arena.nodes points) (ranged_pointed xs i previous parent within sound.arena.ranged range tied)
    record { tree = refl; level = refl; low = refl; deleted = refl; flag = refl; root = λ r. record { live = r.live; flag = r.flag; parentless = no_root r.flag ∙ r.parentless; low = r.low; reach = r.reach } }
    (own_keys xs trees i within sound.arena.forest)
    record { tree = refl; deleted = refl; forth = same_links x.slots; back = same_links x.slots }
    record { next = refl; children = refl }

changes_pointed : (op : ℕ) (x : NodeView) (previous parent : Option ℕ) → (parent ≡ None → x.parent ≡ None)
    → ((q : ℕ) → q ≢ op → x.holder ≡ Some q → x.parent ≡ None → parent ≡ None) → Changes op x (pointed x previous parent)
changes_pointed op x previous parent stays first = record {
  tree = refl;
  level = refl;
  low = refl;
  ages = versions.ages_refl x.version;
  peopled = λ some. some;
  widens = λ same whole live. omega arith;
  keys = λ range insertion whole still. record { slots = entries_none _ _; separators = refl; children = refl };
  held =
      λ q other e. record { holder = refl; version = refl; slots = refl; cells = refl; separators = refl; children = refl; next = refl; high = refl; reach = refl; parented = λ some none. some (stays none); orphaned = first q other e };
  taken = λ q other e. e;
}

-- a write of neighbours leaves all holders
holder_pointed : (xs : List NodeView) (i j : ℕ) (previous parent : Option ℕ) → i < length xs
    → (node_at (set xs i (pointed (node_at xs i) previous parent)) j).holder ≡ (node_at xs j).holder
holder_pointed xs i j previous parent within = elim (cases_eq j i) [
  | inl is ↦ ap (λ k. (node_at (set xs i (pointed (node_at xs i) previous parent)) k).holder) is ∙ ap (λ (n : NodeView). n.holder) (here xs i _ within) ∙ ap (λ k. (node_at xs k).holder) (sym is)
  | inr other ↦ ap (λ (n : NodeView). n.holder) (there xs i j _ other)
]

-- the node comes to name what it named, or a node that the operation holds
pub record NamesOwn (op : ℕ) (nodes : List NodeView) (was is : Option ℕ) : Type 0 where
  pub names : (j : ℕ) → is ≡ Some j → (was ≡ Some j) ⊎ ((node_at nodes j).holder ≡ Some op)

own_or_old : (op : ℕ) (nodes : List NodeView) (was is : Option ℕ) (j : ℕ) → NamesOwn op nodes was is → is ≡ Some j
    → (node_at nodes j).holder ≢ Some op → was ≡ Some j
own_or_old op nodes was is j own e not_mine = elim (own.names j e) [
  | inl old ↦ old
  | inr mine ↦ absurd (not_mine mine)
]

-- what another neighbour and another parent of a node leave to others
pub step_pointed : (v : ArenaView) (i op : ℕ) (previous parent : Option ℕ) → i < length v.nodes → IsOpen v i op
    → NamesOwn op v.nodes (at v i).previous previous → NamesOwn op v.nodes (at v i).parent parent
    → (parent ≡ None → (at v i).parent ≡ None) → ((q : ℕ) → q ≢ op → (at v i).holder ≡ Some q → (at v i).parent ≡ None → parent ≡ None)
    → Guarantee op v (with_node v i (pointed (at v i) previous parent))
step_pointed v i op previous parent within mine before above stays first =
    let x = at v i in
    step_set op v i (pointed x previous parent) within (changes_pointed op x previous parent stays first) mine (record {
      previous =
          λ j e not_mine. own_or_old op v.nodes x.previous previous j before e (λ held. not_mine (holder_pointed v.nodes i j previous parent within ∙ held));
      parent = λ j e not_mine. own_or_old op v.nodes x.parent parent j above e (λ held. not_mine (holder_pointed v.nodes i j previous parent within ∙ held));
    }) (lost_none x)

-- a node names what it named, or one that the operation holds
pub names_same : (op : ℕ) (nodes : List NodeView) (was : Option ℕ) → NamesOwn op nodes was was
names_same op nodes was = record { names = λ j e. inl e }

-- to name a node that the operation holds is its own to do
pub names_own : (op : ℕ) (nodes : List NodeView) (was : Option ℕ) (k : ℕ) → (node_at nodes k).holder ≡ Some op → NamesOwn op nodes was (Some k)
names_own op nodes was k held = record { names = λ j e. inr (ap (λ k. (node_at nodes k).holder) (sym (same_Some k j e)) ∙ held) }

-- the neighbour before a node is one that the operation holds
pub sound_previous : (xs : List NodeView) (trees : List Tree) (gone : RetiredPlaces) (room : Rooms) (i k op : ℕ) → i < length xs → k < length xs
    → (node_at xs k).holder ≡ Some op → ArenaInvariant xs trees gone room
    → (Waits (node_at xs i) → (node_at xs i).previous ≡ Some k)
    → ArenaInvariant (set xs i (pointed (node_at xs i) (Some k) (node_at xs i).parent)) trees gone room
sound_previous xs trees gone room i k op within inside held sound tied =
    let h = sound.arena.nodes.each i within in
    sound_pointed xs trees gone room i (Some k) (node_at xs i).parent within sound record {
      previous_there = λ j e. omega (arith, same_Some k j e, inside);
      parent_there = h.names.parent;
      previous_held = λ j e. inr (λ none. absurd (let at = ap (λ k. (node_at xs k).holder) (same_Some k j e) in cc));
      parent_held = λ j e. inl e;
      previous_stays = λ none. absurd (cc);
      parent_stays = λ none. none;
    } (λ root. refl) (sound.arena.ranged.each i within).parent (λ waits. sym (tied waits))

-- another neighbour before a node
pub step_previous : (v : ArenaView) (i k op : ℕ) → i < length v.nodes → (at v k).holder ≡ Some op → IsOpen v i op
    → Guarantee op v (with_node v i (pointed (at v i) (Some k) (at v i).parent))
step_previous v i k op within held mine =
    step_pointed v i op (Some k) (at v i).parent within mine (names_own op v.nodes (at v i).previous k held) (names_same op v.nodes (at v i).parent) (λ none. none) (λ q other e none. none)

-- the parent of a node that is no root is one that the operation holds
pub sound_parent : (xs : List NodeView) (trees : List Tree) (gone : RetiredPlaces) (room : Rooms) (i k op : ℕ) → i < length xs → k < length xs
    → (node_at xs k).holder ≡ Some op → ArenaInvariant xs trees gone room
    → (node_at xs i).version.root ≡ false → HasRange (node_at xs i)
    → ArenaInvariant (set xs i (pointed (node_at xs i) (node_at xs i).previous (Some k))) trees gone room
sound_parent xs trees gone room i k op within inside held sound no_root range =
    let h = sound.arena.nodes.each i within in
    sound_pointed xs trees gone room i (node_at xs i).previous (Some k) within sound record {
      previous_there = h.names.previous;
      parent_there = λ j e. omega (arith, same_Some k j e, inside);
      previous_held = λ j e. inl e;
      parent_held = λ j e. inr (λ none. absurd (let at = ap (λ k. (node_at xs k).holder) (same_Some k j e) in cc));
      previous_stays = λ none. none;
      parent_stays = λ none. absurd (cc);
    } (λ root. absurd (cc)) (λ some. range) (λ waits. refl)

-- and another parent
pub step_parent : (v : ArenaView) (i k op : ℕ) → i < length v.nodes → (at v k).holder ≡ Some op → IsOpen v i op
    → ((q : ℕ) → (at v i).holder ≡ Some q → q ≢ op → (at v i).parent ≢ None)
    → Guarantee op v (with_node v i (pointed (at v i) (at v i).previous (Some k)))
step_parent v i k op within held mine theirs =
    step_pointed v i op (at v i).previous (Some k) within mine (names_same op v.nodes (at v i).previous) (names_own op v.nodes (at v i).parent k held) (λ none. absurd (cc)) (λ q other e none. absurd (theirs q e other none))
