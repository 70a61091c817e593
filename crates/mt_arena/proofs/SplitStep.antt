-- The facts of nodes, trees and links, and the guarantee, where a border node is split: for `Halving`.
use Rattle.mt_border.specs.Slots.{Slotted}
use Rattle.std.proofs.Common.{◌≡◌, ◌≢◌, ◌⊎◌, ℕ, ◌<◌, ◌++◌, List, [], length, get_or, set, Some, true, false, refl, sym, ap, subst, ◌∙◌, inl, inr, arith}
use Rattle.std.proofs.{lemmas.Bool.cases_eq, lemmas.List.length-set}
use Rattle.mt_slices.specs.{Slices.piece_bytes, declared.mark.Mark.TheVariants.Long}
use Rattle.mt_border.{specs.{declared.entry.Entry.Entry, Held.Link}, proofs.Edits.any_entry}
use Rattle.mt_arena.specs.{declared.tree.Tree.Tree, declared.tree.Standing.TheVariants.Made, Idle.{RetiredPlaces, Rooms}, NodeView.{NodeView, node_at}}
use Rattle.mt_arena.specs.{Forests.{IsForest, tree_at, HaveKeys}, Layers.{AreLayered, AreLinks, HasLink, slot_at}, Guarantee.{NodesGuarantee, Changes}}
use Rattle.mt_arena.specs.{Invariant.ArenaInvariant, Splits.{Splits, left_half, right_half}}
use Rattle.mt_arena.proofs.{Pairs.{here, there}, Homes.{KeepsHome, forest_set, live_keys}, LinkEdits.{HasSlot, HasLinksOf}, Retiring.retired_set, Naming.each_set2, NamedLate.{KeepsNames, names_stand, named_kept}}
use Rattle.mt_arena.proofs.{RangedEdits.ranged_split_move, Move.nodes_split_move, Guarantees.{guarantee_set, guarantee_on}}
use Rattle.mt_arena.proofs.HeldChanges.{changes_left_half, changes_right_half}

module _ (xs : List NodeView) (trees : List Tree) (i j : ℕ) (kept moved : List Entry) (kept_cells moved_cells : Slotted) (li : i < length xs) (lj : j < length xs) (differ : i ≢ j)
    (s : Splits (node_at xs i) (node_at xs j) kept moved) where
  abbrev x : NodeView
  x = node_at xs i

  abbrev r : NodeView
  r = node_at xs j

  abbrev y : NodeView
  y = left_half x kept kept_cells r.low j

  abbrev z : NodeView
  z = right_half x r moved moved_cells i

  abbrev ys : List NodeView
  ys = set xs i y

  abbrev zs : List NodeView
  zs = set ys j z

  size : length zs ≡ length xs
  size = length-set ys j z ∙ length-set xs i y

  ljy : j < length ys
  ljy = omega (arith, lj, length-set xs i y)

  old_j : node_at ys j ≡ r
  old_j = there xs i j y (λ e. differ (sym e))

  at_i : node_at zs i ≡ y
  at_i = there ys j i z differ ∙ here xs i y li

  at_j : node_at zs j ≡ z
  at_j = here ys j z ljy

  at : (k : ℕ) → k ≢ i → k ≢ j → node_at zs k ≡ node_at xs k
  at k ni nj = there ys j k z nj ∙ there xs i k y ni

  forest_split : IsForest xs trees → HaveKeys (tree_at trees x.tree).prefix kept → HaveKeys (tree_at trees r.tree).prefix moved
      → r.version.root ≡ false → IsForest zs trees
  forest_split forest left right no_root =
      let one = forest_set xs trees i y li forest (record { tree = refl; level = refl; low = refl; deleted = refl; flag = refl; root = λ h. record { live = h.live; flag = h.flag; parentless = h.parentless; low = h.low; reach = h.reach } }) (live_keys trees y s.live left) in
      forest_set ys trees j z ljy one
      (subst (λ (n : NodeView). KeepsHome n z) (sym old_j) (record { tree = refl; level = refl; low = refl; deleted = refl; flag = refl; root = λ h. absurd (let e = h.flag in cc) })) (live_keys trees z s.right_live right)

  layers_split : AreLayered xs trees → r.slots ≡ [] → HasLinksOf x.slots kept → HasLinksOf x.slots moved
      → ((a u : ℕ) → a < length x.slots → (get_or x.slots a any_entry).held ≡ Link u → HasSlot kept u (get_or x.slots a any_entry).slice ⊎ HasSlot moved u (get_or x.slots a any_entry).slice)
      → AreLayered zs trees
  layers_split layers empty back_kept back_moved forth = record {
    links = λ k lt. elim (cases_eq k i) [
      | inl is ↦ rw (is, at_i) (left_links (layers.links i li))
      | inr ni ↦ elim (cases_eq k j) [
        | inl is ↦ rw (is, at_j) (right_links (layers.links i li))
        | inr nj ↦ rw (at k ni nj) (layers.links k (omega (arith, lt, size)))
      ]
    ];
    linked = λ u lt live deep. moved_link u (layers.linked u lt live deep);
  }
    where
      left_links : AreLinks trees x → AreLinks trees y
      left_links links live a u lt is =
          let was = back_kept a u lt is in
          let leads = links live was.slot u was.in_range was.is in
          record { from = leads.from; there = leads.there; live = leads.live; prefix = leads.prefix ∙ ap (λ c. (tree_at trees x.tree).prefix ++ piece_bytes c Long) was.slice_is }

      right_links : AreLinks trees x → AreLinks trees z
      right_links links live a u lt is =
          let was = back_moved a u lt is in
          let leads = links s.live was.slot u was.in_range was.is in
          record {
            from = ap (λ t. (tree_at trees t).standing) s.right_tree ∙ leads.from;
            there = leads.there;
            live = leads.live;
            prefix =
                leads.prefix ∙ ap (λ c. (tree_at trees x.tree).prefix ++ piece_bytes c Long) was.slice_is ∙ ap (λ t. (tree_at trees t).prefix ++ piece_bytes (slot_at z a).slice Long) (sym s.right_tree);
          }

      moved_link : (u : ℕ) → HasLink xs u → HasLink zs u
      moved_link u h = elim (cases_eq h.node i) [
        | inl is ↦ elim (forth h.slot u (subst (λ k. h.slot < length (node_at xs k).slots) is h.in_range) (subst (λ k. (slot_at (node_at xs k) h.slot).held ≡ Link u) is h.is)) [
          | inl new ↦ record {
            node = i;
            slot = new.slot;
            there = omega (arith, li, size);
            live = ap (λ (n : NodeView). n.version.deleted) at_i ∙ s.live;
            in_range = subst (λ (n : NodeView). new.slot < length n.slots) (sym at_i) new.in_range;
            is = ap (λ (n : NodeView). (slot_at n new.slot).held) at_i ∙ new.is;
          }
          | inr new ↦ record {
            node = j;
            slot = new.slot;
            there = omega (arith, lj, size);
            live = ap (λ (n : NodeView). n.version.deleted) at_j ∙ s.right_live;
            in_range = subst (λ (n : NodeView). new.slot < length n.slots) (sym at_j) new.in_range;
            is = ap (λ (n : NodeView). (slot_at n new.slot).held) at_j ∙ new.is;
          }
        ]
        | inr ni ↦ elim (cases_eq h.node j) [
          | inl is ↦ absurd (omega (arith, subst (λ (es : List Entry). h.slot < length es) empty (subst (λ k. h.slot < length (node_at xs k).slots) is h.in_range)))
          | inr nj ↦
              let same = at h.node ni nj in
              record {
                node = h.node;
                slot = h.slot;
                there = omega (arith, size, h.there);
                live = ap (λ (n : NodeView). n.version.deleted) same ∙ h.live;
                in_range = subst (λ (n : NodeView). h.slot < length n.slots) (sym same) h.in_range;
                is = ap (λ (n : NodeView). (slot_at n h.slot).held) same ∙ h.is;
              }
        ]
      ]

  pub sound_split : (gone : RetiredPlaces) (room : Rooms) → ArenaInvariant xs trees gone room → r.slots ≡ [] → r.version.root ≡ false
      → HaveKeys (tree_at trees x.tree).prefix kept → HaveKeys (tree_at trees r.tree).prefix moved → HasLinksOf x.slots kept
      → HasLinksOf x.slots moved
      → ((a u : ℕ) → a < length x.slots → (get_or x.slots a any_entry).held ≡ Link u → HasSlot kept u (get_or x.slots a any_entry).slice ⊎ HasSlot moved u (get_or x.slots a any_entry).slice)
      → ArenaInvariant zs trees gone room
  sound_split gone room sound empty no_root left right back_kept back_moved forth = record {
    arena = record {
      nodes = nodes_split_move xs i j kept moved kept_cells moved_cells li lj differ sound.arena.nodes s;
      ranged = ranged_split_move xs i j kept moved kept_cells moved_cells li lj differ sound.arena.ranged s;
      forest = forest_split sound.arena.forest left right no_root;
      layers = layers_split sound.arena.layers empty back_kept back_moved forth;
    };
    retired = retired_set ys trees gone j z ljy (retired_set xs trees gone i y li sound.retired refl refl) (ap (λ (n : NodeView). n.version.deleted) (sym old_j))
        (ap (λ (n : NodeView). n.level) (sym old_j));
    named = named_kept xs zs trees trees gone sound.retired (record {
      nodes = each_set2 (λ k n. (node_at xs k).version.deleted ≡ true → KeepsNames (node_at xs k) n) xs i j y z li lj differ
          (λ out. absurd (let live = s.live in cc)) (λ out. absurd (let live = s.right_live in cc)) (λ k lt ni nj out. names_stand (node_at xs k));
      trees = λ t lt dead. refl;
    }) sound.named;
    enough = omega (arith, size, sound.enough);
    trees_enough = sound.trees_enough;
  }

  pub guarantee_split : (op : ℕ) → x.holder ≡ Some op → r.holder ≡ Some op → IsForest xs trees
      → ((q : ℕ) → (tree_at trees x.tree).standing ≡ Made q → q ≡ op) → NodesGuarantee op xs zs trees trees
  guarantee_split op held also forest mine =
      guarantee_on op xs ys zs trees trees trees
      (guarantee_set op xs trees i y li (changes_left_half op x kept kept_cells r.low j held s.marked) mine)
      (guarantee_set op ys trees j z ljy (subst (λ (n : NodeView). Changes op n z) (sym old_j) (changes_right_half op x r moved moved_cells i also s.right_marked))
      (λ q e. mine q (ap (λ t. (tree_at trees t).standing) (sym s.right_tree) ∙ ap (λ (n : NodeView). (tree_at trees n.tree).standing) (sym old_j) ∙ e)))
      forest.tree_there
