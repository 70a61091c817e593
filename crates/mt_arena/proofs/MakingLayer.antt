-- The facts of nodes, trees and links are kept where a tree is made with one slot in its root, each of the two in an old place or in a new one: for
-- `LayerAt`.
use Rattle.std.proofs.Common.{◌≡◌, ◌≢◌, ℕ, ◌<◌, List, [], ◌∷◌, length, true, false, refl, sym, ap, subst, ◌∙◌, inl, inr, arith}
use Rattle.std.proofs.{lemmas.Bool.cases_eq}
use Rattle.mt_rows.specs.Rows.{Bytes}
use Rattle.mt_version.specs.Parts.{Parts}
use Rattle.mt_border.specs.{declared.entry.Entry.Entry, Held.{Held, Stable, Unstable, Link}, Entry.{IsEntry, IsStablePair}, Entries.IsBorder}
use Rattle.mt_border.{proofs.Edits.any_entry}
use Rattle.mt_arena.specs.{declared.tree.Tree.Tree, declared.tree.Standing.TheVariants.Dead}
use Rattle.mt_arena.specs.{NodeView.{NodeView, node_at}, Nodes.{AreNodes, IsNode, IsPair, AllPairs, Holds, HasRange}, Ranges.{AreRanged, AreTied}, NodeFacts.IsUnstable}
use Rattle.mt_arena.specs.{Forests.{IsForest, IsHome, ArePeers, HaveKeys, BeginsAtKey, tree_at, layer_of}, Layers.{AreLayered, LeadsTo, HasLink, slot_at}}
use Rattle.mt_arena.specs.{Contents.live_pairs}
use Rattle.mt_arena.specs.{Idle.Rooms}
use Rattle.mt_arena.specs.{Invariant.ArenaInvariant, Arena.{IsArena, ArenaView}, Layering.{MayMakeLayer, layer_tree}}
use Rattle.mt_arena.proofs.{Pairs.{there, last}, Groups.{node_more, there_none, names_none}, Push.no_children, Links.slice_of_lt, NextLayer.only}
use Rattle.mt_arena.proofs.{Slots.{no_link, within_all}, Ranged.{no_wait, with_range}, Homes.tree_more, Begins.{begins_at, begins_each}, Growing.no_keys}
use Rattle.mt_arena.proofs.{Counted.{pairs-gone, pairs-made, pairs-of_tree}}
use Rattle.mt_arena.proofs.LayerIn.{HasNodeAt, HasTreeAt, IsOfRoot, root_with}

-- a stable pair is not unstable
not_unstable : (held : Held) → IsStablePair held → IsUnstable held → ⊥
not_unstable (Stable pair) stable unstable = unstable
not_unstable (Unstable pair tree) stable unstable = stable
not_unstable (Link tree) stable unstable = stable

-- one entry is a border node's row
border_of : (e : Entry) → IsEntry e → IsBorder (e ∷ [])
border_of e entry = record {
  within = omega arith;
  each = λ k d lt. only IsEntry e d k lt entry;
  rising = λ i j lt within. absurd (omega arith);
}

module _ (v : ArenaView) (room : Rooms) (op : ℕ) (prefix : Bytes) (e : Entry) (sound : ArenaInvariant v.nodes v.trees v.retired room) (may : MayMakeLayer v prefix e)
    (zs : List NodeView) (us : List Tree) (h t : ℕ) (version : Parts) (of_root : IsOfRoot version) (n : HasNodeAt v.nodes zs h (root_with version t e))
    (b : HasTreeAt v.trees us t (layer_tree prefix h op)) where
  abbrev xs : List NodeView
  xs = v.nodes

  abbrev trees : List Tree
  trees = v.trees

  abbrev y : NodeView
  y = root_with version t e

  abbrev u : Tree
  u = layer_tree prefix h op

  abbrev forest : IsForest xs trees
  forest = sound.arena.forest

  -- a tree that stands is another one, and so is that of a live node
  apart : (s : ℕ) → (tree_at trees s).standing ≢ Dead → s ≢ t
  apart s stands is = stands (ap (λ r. (tree_at trees r).standing) is ∙ b.vacant)

  live_apart : (k : ℕ) → k < length xs → (node_at xs k).version.deleted ≡ false → (node_at xs k).tree ≢ t
  live_apart k lk live = apart (node_at xs k).tree ((forest.homes k (node_at xs k).tree lk (forest.tree_there k lk)).standing refl live)

  same_tree : (s : ℕ) → s < length trees → s ≢ t → tree_at us s ≡ tree_at trees s
  same_tree s ls other = (b.others s (omega (arith, ls, b.more)) other).1

  -- the root
  slice_fits : Holds y e.slice
  slice_fits =
      let has = may.keys.keys 0 e (omega arith) in
      let fits = slice_of_lt has.0 (layer_of prefix) has.1.of_tree.stored.are_bytes in
      (omega arith, omega (arith, has.1.slice, fits))

  root_node : IsNode (length zs) y
  root_node = record {
    names = there_none;
    lock = record {
      locked = of_root.locked;
      inserting = λ e. absurd (let both = sym of_root.inserting ∙ e in cc);
      splitting = λ e. absurd (let both = sym of_root.splitting ∙ e in cc);
      stable = λ free k d lt. only (λ (e : Entry). ¬ IsUnstable e.held) e d k lt (not_unstable e.held may.stable);
    };
    kind = record { border = λ e. refl; interior = λ e. absurd (let both = sym of_root.border ∙ e in cc) };
    slots = record {
      border = border_of e may.entry;
      within = within_all y (e ∷ []) (λ k d lt. only (λ (e : Entry). Holds y e.slice) e d k lt slice_fits);
      slotless = λ level. absurd (omega arith);
    };
    children = record { childless = λ level. refl; interior = no_children; rise = λ some. absurd (some refl); peopled = λ level range. absurd (omega arith) };
    reach = record { within = omega arith; exact = λ e. refl };
    chain = record { last = λ level range none. refl; first = λ level range live none. refl };
    rooted = λ live free none. of_root.root;
  }

  root_from : (k : ℕ) (m : NodeView) → (h ≢ k → m.version.deleted ≡ false → m.tree ≢ t) → IsPair h y k m
  root_from k m new = record {
    next = λ _ e. absurd (cc);
    named = λ _ _. names_none;
    child = λ i lt. absurd (omega arith);
    apart = λ differ same level live also. absurd (new differ also (sym same));
  }

  root_to : (k : ℕ) → k < length xs → IsPair k (node_at xs k) h y
  root_to k lk = record {
    next = λ live e. absurd (n.unnamed.next k lk live e);
    named = λ live free. record {
      back = λ e. absurd (n.unnamed.previous k lk live e);
      live = λ e. absurd (n.unnamed.previous k lk live e);
      knows = λ e. absurd (n.unnamed.parent k lk live e);
    };
    child = λ i lt e live. absurd (n.unnamed.child k i lk live lt e);
    apart = λ differ same level live also. absurd (live_apart k lk live same);
  }

  pairs : AllPairs IsPair zs
  pairs k j lk lj = elim (cases_eq k h) [
    | inl k_h ↦ elim (cases_eq j h) [
      | inl j_h ↦ rw (k_h, j_h, n.is) (root_from h y (λ differ. absurd (differ refl)))
      | inr j_other ↦ let was = n.others j lj j_other in rw (k_h, n.is, was.1) (root_from j (node_at xs j) (λ differ. live_apart j was.0))
    ]
    | inr k_other ↦
        let was = n.others k lk k_other in
        elim (cases_eq j h) [
          | inl j_h ↦ rw (j_h, n.is, was.1) (root_to k was.0)
          | inr j_other ↦ let also = n.others j lj j_other in rw (was.1, also.1) (sound.arena.nodes.pairs k j was.0 also.0)
        ]
  ]

  nodes_layer : AreNodes zs
  nodes_layer = record {
    each = λ k lk. elim (cases_eq k h) [
      | inl is ↦ rw (is, n.is) root_node
      | inr other ↦ let was = n.others k lk other in rw was.1 (node_more (length xs) (length zs) (node_at xs k) n.more (sound.arena.nodes.each k was.0))
    ];
    pairs = pairs;
  }

  -- ranges
  root_range : HasRange y
  root_range = omega arith

  root_ties : (k : ℕ) (m : NodeView) → AreTied h y k m
  root_ties k m = record { next = λ _ e. absurd (cc); left = λ _ waits. absurd (no_wait y root_range waits) }

  ties_root : (k : ℕ) → k < length xs → AreTied k (node_at xs k) h y
  ties_root k lk = record { next = λ live e. absurd (n.unnamed.next k lk live e); left = λ e waits. absurd (n.unnamed.previous k lk waits.0 e) }

  ranged_layer : AreRanged zs
  ranged_layer = record {
    each = λ k lk. elim (cases_eq k h) [
      | inl is ↦ rw (is, n.is) (with_range y root_range (omega arith))
      | inr other ↦ let was = n.others k lk other in rw was.1 (sound.arena.ranged.each k was.0)
    ];
    ties = λ k j lk lj. elim (cases_eq k h) [
      | inl k_h ↦ rw (k_h, n.is) (root_ties j (node_at zs j))
      | inr k_other ↦
          let was = n.others k lk k_other in
          elim (cases_eq j h) [
            | inl j_h ↦ rw (j_h, n.is, was.1) (ties_root k was.0)
            | inr j_other ↦ let also = n.others j lj j_other in rw (was.1, also.1) (sound.arena.ranged.ties k j was.0 also.0)
          ]
    ];
  }

  -- no other tree begins at the root
  unrooted : (s : ℕ) → s < length trees → (tree_at trees s).root ≡ h → (tree_at trees s).standing ≢ Dead → ⊥
  unrooted s ls e stands =
      let within : h < length xs = omega (arith, e, (forest.each s ls).root_there) in
      n.kept h within ((forest.homes h s within ls).root_is e stands).live refl

  root_home : IsHome h y t u
  root_home = record {
    root_tree = λ e standing. refl;
    root_is = λ e standing. record { live = of_root.deleted; flag = of_root.root; parentless = refl; low = refl; reach = refl };
    root_named = λ e live flag. refl;
    standing = λ e live dead. absurd (cc);
    keys = λ e. may.keys;
  }

  root_away : (s : ℕ) → s < length trees → s ≢ t → IsHome h y s (tree_at trees s)
  root_away s ls other = record {
    root_tree = λ e standing. absurd (unrooted s ls e standing);
    root_is = λ e standing. absurd (unrooted s ls e standing);
    root_named = λ e live flag. absurd (other (sym e));
    standing = λ e live. absurd (other (sym e));
    keys = λ e. absurd (other (sym e));
  }

  other_home : (k : ℕ) → k < length xs → k ≢ h → IsHome k (node_at xs k) t u
  other_home k lk other = record {
    root_tree = λ e standing. absurd (other (sym e));
    root_is = λ e standing. absurd (other (sym e));
    root_named = λ e live flag. absurd (live_apart k lk live e);
    standing = λ e live. absurd (live_apart k lk live e);
    keys = λ e. by (node_at xs k).version.deleted refl e;
  }
    where
      by : (d : _) → (node_at xs k).version.deleted ≡ d → (node_at xs k).tree ≡ t → HaveKeys prefix (node_at xs k).slots
      by true out e = no_keys prefix (node_at xs k).slots (forest.emptied k lk out)
      by false live e = absurd (live_apart k lk live e)

  begins_layer : (k : ℕ) → k < length zs → BeginsAtKey (tree_at us (node_at zs k).tree).prefix (node_at zs k)
  begins_layer k lk = elim (cases_eq k h) [
    | inl is ↦ rw (is, n.is) (λ live border over. absurd (omega (arith, over)))
    | inr other ↦
        let was = n.others k lk other in
        rw was.1 (λ live. rw (same_tree (node_at xs k).tree (forest.tree_there k was.0) (live_apart k was.0 live)) (begins_at xs trees k was.0 forest.begins live))
  ]

  peers_layer : (a c : ℕ) → a < length us → c < length us → ArePeers a (tree_at us a) c (tree_at us c)
  peers_layer a c la lc = elim (cases_eq a t) [
    | inl is ↦ rw (is, b.is) (record { one_live = λ differ live. absurd (cc) })
    | inr a_other ↦ elim (cases_eq c t) [
      | inl is ↦ rw (is, b.is) (record { one_live = λ differ live also. absurd (cc) })
      | inr c_other ↦ let was = b.others a la a_other in let also = b.others c lc c_other in rw (was.1, also.1) (forest.peers a c was.0 also.0)
    ]
  ]

  top_apart : 0 ≢ t
  top_apart = apart 0 (λ dead. absurd (let both = sym forest.top.live ∙ dead in cc))

  forest_layer : IsForest zs us
  forest_layer = record {
    tree_there = λ k lk. elim (cases_eq k h) [
      | inl is ↦ rw (is, n.is) b.inside
      | inr other ↦ let was = n.others k lk other in rw was.1 (omega (arith, forest.tree_there k was.0, b.more))
    ];
    homes = λ k s lk ls. elim (cases_eq k h) [
      | inl is ↦ elim (cases_eq s t) [
        | inl s_t ↦ rw (is, s_t, n.is, b.is) root_home
        | inr s_other ↦ let tree = b.others s ls s_other in rw (is, n.is, tree.1) (root_away s tree.0 s_other)
      ]
      | inr other ↦
          let was = n.others k lk other in
          elim (cases_eq s t) [
            | inl s_t ↦ rw (s_t, b.is, was.1) (other_home k was.0 other)
            | inr s_other ↦ let tree = b.others s ls s_other in rw (was.1, tree.1) (forest.homes k s was.0 tree.0)
          ]
    ];
    begins = begins_each zs us begins_layer;
    emptied = λ k lk. elim (cases_eq k h) [
      | inl is ↦ rw (is, n.is) (λ out. absurd (let both = sym of_root.deleted ∙ out in cc))
      | inr other ↦ let was = n.others k lk other in rw was.1 (forest.emptied k was.0)
    ];
    each = λ s ls. elim (cases_eq s t) [
      | inl is ↦ rw (is, b.is) (record { root_there = n.inside; whole = may.prefix_is.whole })
      | inr other ↦ let was = b.others s ls other in rw was.1 (tree_more (length xs) (length zs) (tree_at trees s) n.more (forest.each s was.0))
    ];
    peers = peers_layer;
    top = record {
      there = omega (arith, forest.top.there, b.more);
      live = rw (same_tree 0 forest.top.there top_apart) forest.top.live;
      prefix = rw (same_tree 0 forest.top.there top_apart) forest.top.prefix;
    };
  }

  -- links
  no_root_link : (i w : ℕ) → i < length y.slots → (slot_at y i).held ≢ Link w
  no_root_link i w lt = only (λ (d : Entry). d.held ≢ Link w) e any_entry i lt (λ link. no_link e.held may.stable w link)

  leads_still : (k i w : ℕ) → k < length xs → LeadsTo trees (node_at xs k) i w → LeadsTo us (node_at xs k) i w
  leads_still k i w lk leads =
      let from = same_tree (node_at xs k).tree (forest.tree_there k lk) (apart (node_at xs k).tree (λ dead. absurd (let both = sym leads.from ∙ dead in cc))) in
      let to = same_tree w leads.there (apart w (λ dead. absurd (let both = sym leads.live ∙ dead in cc))) in
      record {
        from = ap (λ (s : Tree). s.standing) from ∙ leads.from;
        there = omega (arith, leads.there, b.more);
        live = ap (λ (s : Tree). s.standing) to ∙ leads.live;
        prefix = rw (to, from) leads.prefix;
      }

  link_still : (w : ℕ) → HasLink xs w → HasLink zs w
  link_still w link =
      let other = n.kept link.node link.there link.live in
      let same = (n.others link.node (omega (arith, link.there, n.more)) other).1 in
      record {
        node = link.node;
        slot = link.slot;
        there = omega (arith, link.there, n.more);
        live = ap (λ (m : NodeView). m.version.deleted) same ∙ link.live;
        in_range = subst (λ (m : NodeView). link.slot < length m.slots) (sym same) link.in_range;
        is = ap (λ (m : NodeView). (slot_at m link.slot).held) same ∙ link.is;
      }

  layers_layer : AreLayered zs us
  layers_layer = record {
    links = λ k lk. elim (cases_eq k h) [
      | inl is ↦ rw (is, n.is) (λ live i w lt link. absurd (no_root_link i w lt link))
      | inr other ↦ let was = n.others k lk other in rw was.1 (λ live i w lt link. leads_still k i w was.0 (sound.arena.layers.links k was.0 live i w lt link))
    ];
    linked = λ s ls. elim (cases_eq s t) [
      | inl is ↦ rw (is, b.is) (λ live. absurd (cc))
      | inr other ↦ let was = b.others s ls other in rw was.1 (λ live deep. link_still s (sound.arena.layers.linked s was.0 live deep))
    ];
  }

  pub arena_layer : IsArena zs us
  arena_layer = record { nodes = nodes_layer; ranged = ranged_layer; forest = forest_layer; layers = layers_layer }

  -- the pairs of the nodes that were there
  pub pairs_still : (k : ℕ) → k < length xs → live_pairs us (node_at xs k) ≡ live_pairs trees (node_at xs k)
  pairs_still k lk = by (node_at xs k).version.deleted refl
    where
      by : (d : _) → (node_at xs k).version.deleted ≡ d → live_pairs us (node_at xs k) ≡ live_pairs trees (node_at xs k)
      by true out = pairs-gone us (node_at xs k) out ∙ sym (pairs-gone trees (node_at xs k) out)
      by false live = pairs-of_tree us trees (node_at xs k) (same_tree (node_at xs k).tree (forest.tree_there k lk) (live_apart k lk live))

  pub root_pairs : live_pairs us y ≡ []
  root_pairs = pairs-made us y op (ap (λ (s : Tree). s.standing) b.is)
