-- The whole invariant, the guarantee and the contents where a tree is taken out with its root and the link to it: for `drop_layer`.
use Rattle.std.proofs.Common.{◌≡◌, ◌≢◌, ℕ, zero, suc, ◌<◌, ◌++◌, List, [], length, get_or, set, true, false, Some, refl, sym, ap, subst, ◌∙◌, inl, inr, arith}
use Rattle.std.proofs.{lemmas.Bool.cases_eq, lemmas.List.{length-set, get_or-set_same, get_or-set_other, get_or_default}}
use Rattle.std.specs.{Prelude.{◌⊎◌}, List.{All, remove}}
use Rattle.mt_slices.specs.{Slices.piece_bytes, declared.mark.Mark.TheVariants.{Short, Long}}
use Rattle.mt_rows.specs.Rows.{Bytes}
use Rattle.mt_border.specs.{declared.entry.Entry.Entry, Held.Link, Keeps.KeepsEntries, Contents.HasKey, Entries.{IsBorder, slices, without}}
use Rattle.mt_border.proofs.Edits.{any_entry, All-remove, border_without, without_at}
use Rattle.mt_arena.specs.{Idle.{Rooms, AreRetired, has_ended, is_idle_tree, with_border, with_tree}, Given.{IsNodeOutFrom, NamesNode, IsNamedLate, AreOutUpTo}}
use Rattle.mt_arena.specs.{declared.tree.Tree.Tree, declared.tree.Standing.TheVariants.{Live, Dead}, NodeView.{NodeView, node_at}}
use Rattle.mt_arena.specs.{Nodes.{AreNodes, Holds, HasRange}, Ranges.{AreRanged, Waits}, Forests.{IsForest, IsRoot, HaveKeys, tree_at, no_tree, layer_of}}
use Rattle.mt_arena.specs.{Layers.{AreLayered, AreLinks, HasLink, LeadsTo, slot_at}, Contents.content, Guarantee.{TreeChanges, LosesHeld}, Edits.{retired, with_slots, cells_without}}
use Rattle.mt_arena.specs.{Invariant.ArenaInvariant, Arena.{ArenaView, Guarantee}, Accesses.at, NodeFacts.IsUnstable, Settled.IsSettled}
use Rattle.mt_arena.specs.{Lags.{Follows, IsUnder}, Removals.{MayDropLayer, nodes_above, without_layer}}
use Rattle.mt_arena.proofs.{Pairs.{here, there}, Locks.is_held, Quiet.nodes_slots, Slots.{within_each, within_all, changes_slots}}
use Rattle.mt_arena.proofs.{Ranged.{no_wait, ranged_marked, ranged_retired}, Retire.nodes_retired, Collapse.{is_true, root_left}}
use Rattle.mt_arena.proofs.{Steps.keys_of, SlotPlaces.{was_at, at_still}, OneLink.{IsLinkTo, leads, differs, below_top, one_link}}
use Rattle.mt_arena.proofs.{DeadTree.{dead, stood, forest_dead}, TakenOut.{changes_retired, same_of_trees}}
use Rattle.mt_arena.proofs.{Homes.{forest_set, live_keys}, Grow.not_none, Retiring.{retired_set, border_retired, tree_retired}, Out.node_out_border}
use Rattle.mt_arena.proofs.NamedLate.{KeepsNames, names_stand, roots_set, live_out, named_kept, named_live, named_border, named_tree}
use Rattle.mt_arena.proofs.{Guarantees.{PointsSo, guarantee_on, lost_none}, Naming.{names_same, points_each, each_set2}, Several.{MayTurn, guarantee_set2}}
use Rattle.mt_arena.proofs.{TopNodes.guarantee_record, Settling.{NamesNoMore, names_none_more, follows_was, under_was, settled_same}}
use Rattle.mt_arena.proofs.ContentQuiet.{stands_unlinked, stands_without_slots, stands_tree_left}

-- two links that are one lead to one tree
pub same_link : {t u : ℕ} → Link t ≡ Link u → t ≡ u
same_link same = cc

module _ (v : ArenaView) (room : Rooms) (node i u step op : ℕ) (sound : ArenaInvariant v.nodes v.trees v.retired room) (may : MayDropLayer v node i u op) where
  abbrev xs : List NodeView
  xs = v.nodes

  abbrev n : NodeView
  n = at v node

  abbrev tree : Tree
  tree = tree_at v.trees u

  abbrev r : ℕ
  r = tree.root

  abbrev x : NodeView
  x = at v r

  abbrev e : Entry
  e = slot_at n i

  abbrev es : List Entry
  es = without n.slots e

  abbrev y : NodeView
  y = with_slots n es (cells_without n.cells i)

  abbrev w : NodeView
  w = retired x

  abbrev ys : List NodeView
  ys = set xs node y

  abbrev new : List NodeView
  new = set ys r w

  abbrev ts : List Tree
  ts = set v.trees u (dead tree)

  ln : node < length xs
  ln = may.held.there

  pub lr : r < length xs
  lr = may.root_held.there

  nodes : AreNodes xs
  nodes = sound.arena.nodes

  forest : IsForest xs v.trees
  forest = sound.arena.forest

  this : IsLinkTo xs node i u
  this = record { there = ln; live = may.live; in_range = may.in_range; is = may.link }

  pub lu : u < length v.trees
  lu = (leads xs v.trees sound.arena node i u this).there

  live_tree : tree.standing ≡ Live
  live_tree = (leads xs v.trees sound.arena node i u this).live

  live_above : (tree_at v.trees n.tree).standing ≡ Live
  live_above = (leads xs v.trees sound.arena node i u this).from

  -- it is no dead tree yet
  pub idle_not : is_idle_tree tree ≡ false
  idle_not = ap has_ended live_tree

  stands : tree.standing ≢ Dead
  stands d = absurd (let both = sym live_tree ∙ d in cc)

  away : n.tree ≢ u
  away = differs xs v.trees sound.arena node i u this

  root_tree : x.tree ≡ u
  root_tree = (forest.homes r u lr lu).root_tree refl stands

  root : IsRoot x
  root = (forest.homes r u lr lu).root_is refl stands

  pub live_root : x.version.deleted ≡ false
  live_root = root.live

  pub apart : node ≢ r
  apart same = away (ap (λ k. (at v k).tree) same ∙ root_tree)

  at_root : node_at ys r ≡ x
  at_root = there xs node r y (λ same. apart (sym same))

  size_ys : length ys ≡ length xs
  size_ys = length-set xs node y

  size : length new ≡ length xs
  size = length-set ys r w ∙ size_ys

  lr_ys : r < length ys
  lr_ys = omega (arith, lr, size_ys)

  new_root : node_at new r ≡ w
  new_root = here ys r w lr_ys

  new_node : node_at new node ≡ y
  new_node = there ys r node w apart ∙ here xs node y ln

  new_other : (k : ℕ) → k ≢ node → k ≢ r → node_at new k ≡ node_at xs k
  new_other k nn nr = there ys r k w nr ∙ there xs node k y nn

  -- the slots that are left
  was_border : IsBorder n.slots
  was_border = (nodes.each node ln).slots.border

  left_are : es ≡ remove n.slots i
  left_are = without_at n.slots i e was_border.rising may.in_range (get_or_default n.slots i any_entry e may.in_range)

  inside : (k : ℕ) → k < length es → Holds n (get_or (slices es) k 0)
  inside =
      within_all n es (subst (All (λ (d : Entry). Holds n d.slice)) (sym left_are) (All-remove (λ (d : Entry). Holds n d.slice) n.slots i (within_each n n.slots (nodes.each node ln).slots.within)))

  keys : HaveKeys (tree_at v.trees n.tree).prefix es
  keys =
      let was = keys_of xs v.trees node ln forest in
      let prefix : Bytes = (tree_at v.trees n.tree).prefix in
      subst (HaveKeys prefix) (sym left_are) (record {
        keys = All-remove (λ d. (key : Bytes) × HasKey prefix (layer_of prefix) d key) n.slots i was.keys;
        begun = All-remove (λ (d : Entry). d.mark ≢ Short 0) n.slots i was.begun;
      })

  -- nodes and their ranges
  nodes_ys : AreNodes ys
  nodes_ys = nodes_slots xs node es y.cells ln nodes (is_held op n may.held.holder) may.border (border_without n.slots e was_border) inside

  ranged_ys : AreRanged ys
  ranged_ys = ranged_marked xs node es y.cells y.version ln sound.arena.ranged refl (λ splits. splits) (λ whole. whole)

  nodes_out : AreNodes new
  nodes_out =
      subst (λ (m : NodeView). AreNodes (set ys r (retired m))) at_root
      (nodes_retired ys r lr_ys nodes_ys (λ none. is_held op x may.root_held.holder (sym (ap (λ (m : NodeView). m.holder) at_root) ∙ none))
      (root_left ys r lr_ys nodes_ys ranged_ys (ap (λ (m : NodeView). m.low) at_root ∙ root.low) (ap (λ (m : NodeView). m.parent) at_root ∙ root.parentless)))

  alone_ys : (k : ℕ) → k < length ys → (node_at ys k).tree ≡ u → (node_at ys k).version.deleted ≡ false → k ≡ r
  alone_ys k lk = elim (cases_eq k node) [
    | inl is ↦ rw (is, here xs node y ln) (λ in_tree live. absurd (away in_tree))
    | inr other ↦ rw (there xs node k y other) (may.alone k (omega (arith, lk, size_ys)))
  ]

  -- no right half waits at the root: it would be a live node of the tree
  unawaited : (k : ℕ) → k < length ys → (node_at ys k).previous ≡ Some r → Waits (node_at ys k) → ⊥
  unawaited k lk before waits =
      let half = (ranged_ys.ties k r lk lr_ys).left before waits in
      let same = alone_ys k lk (sym half.tree ∙ ap (λ (m : NodeView). m.tree) at_root ∙ root_tree) waits.0 in
      no_wait (node_at ys k) (subst (λ j. HasRange (node_at ys j)) (sym same) half.range) waits

  ranged_out : AreRanged new
  ranged_out = subst (λ (m : NodeView). AreRanged (set ys r (retired m))) at_root (ranged_retired ys r lr_ys ranged_ys unawaited)

  -- trees
  forest_ys : IsForest ys v.trees
  forest_ys =
      forest_set xs v.trees node y ln forest (record { tree = refl; level = refl; low = refl; deleted = refl; flag = refl; root = λ h. record { live = h.live; flag = h.flag; parentless = h.parentless; low = h.low; reach = h.reach } }) (live_keys v.trees y may.live keys)

  forest_out : IsForest new ts
  forest_out = subst (λ (m : NodeView). IsForest (set ys r (retired m)) ts) at_root
      (forest_dead ys v.trees u r forest_ys lu live_tree (below_top xs v.trees sound.arena node i u this) refl alone_ys (ap (λ (m : NodeView). m.slots) at_root ∙ may.empty))

  -- links
  same_prefix : (t : ℕ) → (tree_at ts t).prefix ≡ (tree_at v.trees t).prefix
  same_prefix = same_of_trees (λ (t : Tree). t.prefix) v.trees u (dead tree) lu refl

  same_standing : (t : ℕ) → t ≢ u → (tree_at ts t).standing ≡ (tree_at v.trees t).standing
  same_standing t other = ap (λ (t : Tree). t.standing) (get_or-set_other v.trees u t (dead tree) no_tree other)

  trees_size : length ts ≡ length v.trees
  trees_size = length-set v.trees u (dead tree)

  no_slot : (k m : ℕ) → k ≡ r → m < length (at v k).slots → ⊥
  no_slot k m is lt = omega (arith, lt, ap (λ k. length (at v k).slots) is, ap length may.empty)

  still_leads : (k m t : ℕ) → IsLinkTo xs k m t → (k ≡ node → m ≢ i) → LeadsTo ts (at v k) m t
  still_leads k m t link other =
      let was = leads xs v.trees sound.arena k m t link in
      let elsewhere : t ≢ u = λ is. (let same = one_link xs v.trees sound.arena k m node i u (subst (IsLinkTo xs k m) is link) this in other same.0 same.1) in
      let above : (at v k).tree ≢ u = λ is. no_slot k m (may.alone k link.there is link.live) link.in_range in
      record {
        from = same_standing (at v k).tree above ∙ was.from;
        there = omega (arith, was.there, trees_size);
        live = same_standing t elsewhere ∙ was.live;
        prefix = same_prefix t ∙ was.prefix ∙ ap (λ (p : Bytes). p ++ piece_bytes (slot_at (at v k) m).slice Long) (sym (same_prefix (at v k).tree));
      }

  node_links : AreLinks ts y
  node_links live j t lt is =
      let old = was_at n.slots i j may.in_range (subst (λ (ds : List Entry). j < length ds) left_are lt) in
      let same : slot_at y j ≡ slot_at n old.place = ap (λ (ds : List Entry). get_or ds j any_entry) left_are ∙ old.same in
      let leads_on = still_leads node old.place t (record { there = ln; live = may.live; in_range = old.in_range; is = ap (λ (d : Entry). d.held) (sym same) ∙ is }) (λ _. old.other) in
      record {
        from = leads_on.from;
        there = leads_on.there;
        live = leads_on.live;
        prefix = leads_on.prefix ∙ ap (λ (d : Entry). (tree_at ts n.tree).prefix ++ piece_bytes d.slice Long) (sym same);
      }

  links_out : (k : ℕ) → k < length xs → AreLinks ts (node_at new k)
  links_out k lk = elim (cases_eq k node) [
    | inl k_node ↦ rw (k_node, new_node) node_links
    | inr nn ↦ elim (cases_eq k r) [
      | inl k_root ↦ rw (k_root, new_root) (λ live. absurd (cc))
      | inr nr ↦ rw (new_other k nn nr) (λ live j t lt is. still_leads k j t (record { there = lk; live = live; in_range = lt; is = is }) (λ same. absurd (nn same)))
    ]
  ]

  linked_out : (t : ℕ) → t < length v.trees → t ≢ u → HasLink xs t → HasLink new t
  linked_out t lt other h = elim (cases_eq h.node node) [
    | inl is ↦
        let held : (slot_at n h.slot).held ≡ Link t = subst (λ k. (slot_at (at v k) h.slot).held ≡ Link t) is h.is in
        let in_range : h.slot < length n.slots = subst (λ k. h.slot < length (at v k).slots) is h.in_range in
        let moved : h.slot ≢ i = λ same. other (same_link (sym held ∙ ap (λ s. (slot_at n s).held) same ∙ may.link)) in
        let now = at_still n.slots i h.slot may.in_range in_range moved in
        record {
          node = node;
          slot = now.place;
          there = omega (arith, ln, size);
          live = ap (λ (m : NodeView). m.version.deleted) new_node ∙ may.live;
          in_range =
              subst (λ (m : NodeView). now.place < length m.slots) (sym new_node) (subst (λ (ds : List Entry). now.place < length ds) (sym left_are) now.in_range);
          is =
              ap (λ (m : NodeView). (slot_at m now.place).held) new_node ∙ ap (λ (ds : List Entry). (get_or ds now.place any_entry).held) left_are ∙ ap (λ (d : Entry). d.held) now.same ∙ held;
        }
    | inr nn ↦ elim (cases_eq h.node r) [
      | inl is ↦ absurd (no_slot h.node h.slot is h.in_range)
      | inr nr ↦
          let same = new_other h.node nn nr in
          record {
            node = h.node;
            slot = h.slot;
            there = omega (arith, h.there, size);
            live = ap (λ (m : NodeView). m.version.deleted) same ∙ h.live;
            in_range = subst (λ (m : NodeView). h.slot < length m.slots) (sym same) h.in_range;
            is = ap (λ (m : NodeView). (slot_at m h.slot).held) same ∙ h.is;
          }
    ]
  ]

  layers_out : AreLayered new ts
  layers_out = record {
    links = λ k lk. links_out k (omega (arith, lk, size));
    linked = λ t lt live deep.
        let was = stood v.trees u t lu live in
        let within : t < length v.trees = omega (arith, lt, trees_size) in
        linked_out t within was.0 (sound.arena.layers.linked t within was.1 (λ none. deep (same_prefix t ∙ none)));
  }

  -- the root has no child, which would be a live node of the tree too
  root_level : x.level ≡ 0
  root_level = by x.level refl
    where
      by : (level : ℕ) → x.level ≡ level → x.level ≡ 0
      by zero is = is
      by (suc level) is =
          let above : 0 < x.level = omega (arith, is) in
          let some = not_none x.children ((nodes.each r lr).children.peopled above ((sound.arena.ranged.each r lr).interior above root.live)) in
          let child = get_or x.children 0 0 in
          let lc : child < length xs = (nodes.each r lr).names.children 0 some in
          let below = (nodes.pairs r child lr lc).child 0 some refl root.live in
          let same : child ≡ r = may.alone child lc (below.tree ∙ root_tree) below.live in
          omega (arith, below.level, ap (λ k. (at v k).level) same)

  retired_out : AreRetired new ts (with_tree (with_border v.retired r step) u step)
  retired_out =
      tree_retired new v.trees (with_border v.retired r step) u step (dead tree) lu
      (subst (λ (m : NodeView). AreRetired (set ys r (retired m)) v.trees (with_border v.retired r step)) at_root
      (border_retired ys v.trees v.retired r step lr_ys (retired_set xs v.trees v.retired node y ln sound.retired refl refl)
      (ap (λ (m : NodeView). m.version.deleted) at_root ∙ root.live) (ap (λ (m : NodeView). m.level) at_root ∙ root_level)))
      idle_not refl

  -- what the root names is live, the tree names the root, and each other one that was taken out keeps its names
  named_out : AreOutUpTo step v.retired → IsNamedLate new ts (with_tree (with_border v.retired r step) u step)
  named_out upto =
      named_tree new ts (with_border v.retired r step) u step
      (subst (IsNodeOutFrom step (with_border v.retired r step)) (sym (ap (λ (t : Tree). t.root) (get_or-set_same v.trees u (dead tree) no_tree lu)))
      (node_out_border step v.retired r step r (omega arith) (live_out xs v.trees v.retired step r sound.retired root.live)))
      (named_border new ts v.retired r step upto
      (λ k names. named_live xs v.trees v.retired step r lr nodes sound.retired root.live k (subst (λ (m : NodeView). NamesNode m k) new_root names))
      (named_kept xs new v.trees ts v.retired sound.retired (record {
        nodes = each_set2 (λ k m. (at v k).version.deleted ≡ true → KeepsNames (at v k) m) xs node r y w ln lr apart
            (λ out. record { next = refl; children = refl }) (λ out. record { next = refl; children = refl }) (λ k lk nn nr out. names_stand (at v k));
        trees = λ t lt. roots_set v.trees u (dead tree) lu (λ _. refl) t;
      }) sound.named))

  pub sound_dropped_layer : AreOutUpTo step v.retired → ArenaInvariant (nodes_above xs node i r) ts (with_tree (with_border v.retired r step) u step) room
  sound_dropped_layer upto = record {
    arena = record { nodes = nodes_out; ranged = ranged_out; forest = forest_out; layers = layers_out };
    retired = retired_out;
    named = named_out upto;
    enough = omega (arith, size, sound.enough);
    trees_enough = omega (arith, trees_size, sound.trees_enough);
  }

  -- what others rely on
  turns_node : KeepsEntries n.slots n.cells es y.cells → MayTurn op v.trees n y
  turns_node keeps = record { changes = changes_slots op n es y.cells may.held.holder (λ still. keeps); mine = λ q made. absurd (let both = sym live_above ∙ made in cc) }

  turns_root : MayTurn op v.trees x w
  turns_root = record {
    changes = changes_retired op x may.root_held.holder;
    mine = λ q made. absurd (let both = sym live_tree ∙ ap (λ t. (tree_at v.trees t).standing) (sym root_tree) ∙ made in cc);
  }

  record_changes : TreeChanges op tree (dead tree)
  record_changes = record {
    prefix = refl;
    dead = λ d. absurd (stands d);
    made = λ q other made. absurd (let both = sym live_tree ∙ made in cc);
    live = λ _ q f. absurd (cc);
  }

  pub step_dropped_layer : KeepsEntries n.slots n.cells es y.cells → LosesHeld n y → Guarantee op v (without_layer v node i u step)
  step_dropped_layer keeps lost = record {
    nodes = guarantee_on op xs new new v.trees v.trees ts (guarantee_set2 op xs v.trees node r y w ln lr apart forest.tree_there (turns_node keeps) turns_root)
        (guarantee_record op new v.trees u (dead tree) lu record_changes) forest.tree_there;
    points = points_each op xs new size (each_set2 (λ k m. PointsSo op new (at v k) m) xs node r y w ln lr apart
        (names_same op new n y refl refl) (names_same op new x w refl refl) (λ k lk nn nr. names_same op new (at v k) (at v k) refl refl));
    lost = each_set2 (λ k m. LosesHeld (at v k) m) xs node r y w ln lr apart lost (lost_none x) (λ k lk nn nr. lost_none (at v k));
  }

  -- the contents: no node of the tree has a pair any more
  emptied : (k : ℕ) → k < length new → (node_at new k).tree ≡ u → ((node_at new k).version.deleted ≡ true) ⊎ ((node_at new k).slots ≡ [])
  emptied k lk = elim (cases_eq k node) [
    | inl k_node ↦ rw (k_node, new_node) (λ in_tree. absurd (away in_tree))
    | inr nn ↦ elim (cases_eq k r) [
      | inl k_root ↦ rw (k_root, new_root) (λ in_tree. inl refl)
      | inr nr ↦ rw (new_other k nn nr) (λ in_tree. inl (is_true (at v k).version.deleted (λ live. nr (may.alone k (omega (arith, lk, size)) in_tree live))))
    ]
  ]

  pub content_dropped_layer : content ts (nodes_above xs node i r) ≡ content v.trees xs
  content_dropped_layer =
      stands_tree_left v.trees new u (dead tree) emptied
      ∙ stands_without_slots v.trees ys r w (ap (λ (m : NodeView). m.slots) at_root ∙ may.empty) may.empty
      ∙ stands_unlinked v.trees xs node i u y may.link (record { slots = left_are; deleted = refl; tree = refl })

  -- what lags behind the two
  each : (k : ℕ) → k < length xs → NamesNoMore (at v k) (node_at new k)
  each = each_set2 (λ k m. NamesNoMore (at v k) m) xs node r y w ln lr apart (record { previous = refl; parent = λ k is. is; live = λ live. live })
      (record { previous = refl; parent = λ k is. is; live = λ live. absurd (cc) }) (λ k lk nn nr. names_none_more (at v k))

  pub node_dropped_layer : IsSettled xs node n → IsSettled new node (node_at new node)
  node_dropped_layer settled = subst (λ (m : NodeView). IsSettled new node m) (sym new_node) (record {
    previous = λ k lt is live. let was = follows_was xs new size each node k (lt, is, live) in settled.previous k was.0 was.1 was.2;
    previous_live = λ k lt is live. let was = follows_was xs new size each node k (lt, is, live) in settled.previous_live k was.0 was.1 was.2;
    parent = λ k lt is live. let was = under_was xs new size each node k (lt, is, live) in settled.parent k was.0 was.1 was.2;
    reach = settled.reach;
    stable = subst (All (λ (d : Entry). ¬ IsUnstable d.held)) (sym left_are) (All-remove (λ (d : Entry). ¬ IsUnstable d.held) n.slots i settled.stable);
    rooted = settled.rooted;
  })

  -- nobody names the lower root: it has no next node, and no child lives
  no_follower : IsSettled xs r x → (k : ℕ) → Follows new r k → ⊥
  no_follower settled k is =
      let was = follows_was xs new size each r k is in
      let meets = ((nodes.pairs r k lr was.0).next root.live (settled.previous k was.0 was.1 was.2)).meets in
      absurd (let both = sym root.reach ∙ settled.reach ∙ meets in cc)

  no_child : IsSettled xs r x → (k : ℕ) → IsUnder new r k → ⊥
  no_child settled k is =
      let was = under_was xs new size each r k is in
      let c = settled.parent k was.0 was.1 was.2 in
      let below = (nodes.pairs r k lr was.0).child c.place c.in_range c.is root.live in
      let same = may.alone k was.0 (below.tree ∙ root_tree) below.live in
      omega (arith, below.level, ap (λ k. (at v k).level) same)

  pub root_dropped_layer : IsSettled xs r x → IsSettled new r (node_at new r)
  root_dropped_layer settled = subst (λ (m : NodeView). IsSettled new r m) (sym new_root) (record {
    previous = λ k lt is live. absurd (no_follower settled k (lt, is, live));
    previous_live = λ k lt is live. absurd (no_follower settled k (lt, is, live));
    parent = λ k lt is live. absurd (no_child settled k (lt, is, live));
    reach = settled.reach;
    stable = settled.stable;
    rooted = λ live. absurd (cc);
  })

  pub others_dropped_layer : (k : ℕ) → k ≢ node → k ≢ r → IsSettled xs k (at v k) → IsSettled new k (node_at new k)
  others_dropped_layer k nn nr = settled_same xs new size each k (new_other k nn nr)

-- the tree that was read in the slot is the one
pub the_link : (v : ArenaView) (node i u t op : ℕ) → (slot_at (at v node) i).held ≡ Link t → MayDropLayer v node i u op → MayDropLayer v node i t op
the_link v node i u t op is may = subst (λ u. MayDropLayer v node i u op) (same_link (sym may.link ∙ is)) may
