-- The whole invariant, the guarantee and the contents where a root gives way to its only child: for `collapse`.
use Rattle.mt_border.proofs.KeptEntries.{entries_none}
use Rattle.mt_arena.specs.{Idle.{Rooms, AreRetired, with_interior}, Given.{NamesNode, IsNamedLate, AreOutUpTo}}
use Rattle.mt_arena.specs.Guarantee.{LosesHeld}
use Rattle.std.proofs.Common.{◌≡◌, ◌≢◌, ℕ, ◌<◌, List, [], ◌∷◌, length, get_or, set, true, Some, None, refl, sym, ap, subst, ◌∙◌, inl, inr, arith}
use Rattle.std.proofs.{lemmas.Bool.cases_eq, lemmas.List.{length-set, get_or-set_same, get_or-set_other}}
use Rattle.mt_version.proofs.Aging.{ages-made_root}
use Rattle.mt_interior.specs.Fences.{end_of, bounds_of}
use Rattle.mt_arena.specs.{declared.tree.Tree.Tree, declared.tree.Standing.TheVariants.Dead, NodeView.{NodeView, node_at}, Nodes.{IsChild, HasChild, bounds}}
use Rattle.mt_arena.specs.{Forests.{IsForest, IsHome, IsRoot, IsTree, AllBegin, tree_at, no_tree}, Layers.AreLayered, Contents.content}
use Rattle.mt_arena.specs.{Guarantee.{Changes, TreeChanges}, Edits.retired, Collapses.{Collapses, crowned}}
use Rattle.mt_arena.specs.{Invariant.ArenaInvariant, Arena.{ArenaView, Guarantee}, Accesses.{at, tree_of}, Ways.HasSlots, Settled.IsSettled}
use Rattle.mt_arena.specs.{Lags.{Follows, IsUnder}, Removals.{MayCollapse, nodes_under, without_root}}
use Rattle.mt_arena.proofs.{Pairs.{here, there}, Begins.{KeepsSeat, begins_set, begins_trees}, Locks.is_held, Collapse.{nodes_collapsed, ranged_collapsed}}
use Rattle.mt_arena.proofs.{LinkEdits.{KeepsLinks, same_links, layers_set, layers_empty}, Retiring.{retired_set, interior_retired, retired_tree_set}}
use Rattle.mt_arena.proofs.NamedLate.{KeepsNames, names_stand, roots_set, named_kept, named_live, named_interior}
use Rattle.mt_arena.proofs.{TakenOut.{changes_retired, same_of_trees}, HeldChanges.changes_held, Guarantees.{PointsSo, guarantee_on, lost_none}}
use Rattle.mt_arena.proofs.{Naming.{names_same, points_each, each_set2}, Several.{MayTurn, guarantee_set2}, TopNodes.{layers_trees, guarantee_record}}
use Rattle.mt_arena.proofs.Settling.{NamesNoMore, names_none_more, follows_was, under_was, settled_same}
use Rattle.mt_arena.proofs.ContentQuiet.{stands_unchanged, stands_without_slots, stands_tree_set}

-- where there are no separators, the only range ends at the high fence
only_bound : (n : NodeView) → n.separators ≡ [] → get_or (bounds n) 1 0 ≡ end_of n.high
only_bound n none = ap (λ ss. get_or (bounds_of n.low ss n.high) 1 0) none

no_numbers : (xs : List ℕ) → length xs ≡ 0 → xs ≡ []
no_numbers [] none = refl
no_numbers (x ∷ xs) none = absurd (omega (arith, none))

-- a child that the operation holds becomes the root
changes_crowned : (op : ℕ) (x : NodeView) → x.holder ≡ Some op → Changes op x (crowned x)
changes_crowned op x held =
    changes_held op x (crowned x) held held refl refl refl (ages-made_root x.version) (λ some. some) (λ whole live. omega arith) (λ whole still. record { slots = entries_none _ _; separators = refl; children = refl })

module _ (v : ArenaView) (room : Rooms) (root child step op : ℕ) (sound : ArenaInvariant v.nodes v.trees v.retired room) (may : MayCollapse v root child op) where
  abbrev xs : List NodeView
  xs = v.nodes

  abbrev p : NodeView
  p = at v root

  abbrev x : NodeView
  x = at v child

  abbrev t : ℕ
  t = p.tree

  abbrev rooted : Tree
  rooted = record (tree_of v root) { root = child }

  abbrev ts : List Tree
  ts = set v.trees t rooted

  abbrev w : NodeView
  w = retired p

  abbrev y : NodeView
  y = crowned x

  abbrev ys : List NodeView
  ys = set xs root w

  abbrev new : List NodeView
  new = set ys child y

  lr : root < length xs
  lr = may.held.there

  lc : child < length xs
  lc = may.child_held.there

  lt_t : t < length v.trees
  lt_t = sound.arena.forest.tree_there root lr

  home : IsHome root p t (tree_of v root)
  home = sound.arena.forest.homes root t lr lt_t

  stands : (tree_of v root).standing ≢ Dead
  stands = home.standing refl may.live

  was_root : IsRoot p
  was_root = home.root_is may.is_root stands

  one : length p.children ≡ 1
  one = ap length may.only

  first : get_or p.children 0 0 ≡ child
  first = ap (λ cs. get_or cs 0 0) may.only

  is_child : HasChild p child
  is_child = record { live = may.live; place = 0; in_range = omega (arith, one); is = first }

  below : IsChild p 0 x
  below = (sound.arena.nodes.pairs root child lr lc).child 0 (omega (arith, one)) first may.live

  no_separators : p.separators ≡ []
  no_separators = no_numbers p.separators (omega (arith, (sound.arena.nodes.each root lr).children.interior.between, one))

  -- the child has the whole range
  pub ends_nowhere : end_of x.reach ≡ 18446744073709551616
  ends_nowhere =
      let high : p.high ≡ None = sym ((sound.arena.nodes.each root lr).reach.exact may.whole) ∙ was_root.reach in
      below.reach ∙ only_bound p no_separators ∙ ap end_of high

  begins : x.low ≡ 0
  begins = below.low ∙ was_root.low

  is_interior : 0 < p.level
  is_interior = omega (arith, below.level)

  slotless : p.slots ≡ []
  slotless = (sound.arena.nodes.each root lr).slots.slotless is_interior

  pub apart : root ≢ child
  apart e = omega (arith, below.level, ap (λ k. (node_at xs k).level) e)

  collapses : Collapses xs child root
  collapses = record {
    child_there = lc;
    root_there = lr;
    root_held = is_held op p may.held.holder;
    root_low = was_root.low;
    parentless = was_root.parentless;
    child = is_child;
  }

  at_child : node_at ys child ≡ x
  at_child = there xs root child w (λ e. apart (sym e))

  size_ys : length ys ≡ length xs
  size_ys = length-set xs root w

  size : length new ≡ length xs
  size = length-set ys child y ∙ size_ys

  new_root : node_at new root ≡ w
  new_root = there ys child root y apart ∙ here xs root w lr

  new_child : node_at new child ≡ y
  new_child = here ys child y (omega (arith, lc, size_ys))

  new_other : (k : ℕ) → k ≢ root → k ≢ child → node_at new k ≡ node_at xs k
  new_other k nr nc = there ys child k y nc ∙ there xs root k w nr

  same_prefix : (u : ℕ) → (tree_at ts u).prefix ≡ (tree_at v.trees u).prefix
  same_prefix = same_of_trees (λ (u : Tree). u.prefix) v.trees t rooted lt_t refl

  same_standing : (u : ℕ) → (tree_at ts u).standing ≡ (tree_at v.trees u).standing
  same_standing = same_of_trees (λ (u : Tree). u.standing) v.trees t rooted lt_t refl

  -- each node and the tree whose root is taken out
  root_home : IsHome root w t rooted
  root_home = record {
    root_tree = λ e standing. absurd (apart (sym e));
    root_is = λ e standing. absurd (apart (sym e));
    root_named = λ e live. absurd (cc);
    standing = λ e live. absurd (cc);
    keys = home.keys;
  }

  other_home : (k : ℕ) → k < length xs → k ≢ root → k ≢ child → IsHome k (node_at xs k) t rooted
  other_home k lt nr nc =
      let h = sound.arena.forest.homes k t lt lt_t in
      record {
        root_tree = λ e standing. absurd (nc (sym e));
        root_is = λ e standing. absurd (nc (sym e));
        root_named = λ e live flag. absurd (nr (sym (h.root_named e live flag) ∙ may.is_root));
        standing = h.standing;
        keys = h.keys;
      }

  -- and any other tree
  root_away : (u : ℕ) → u < length v.trees → u ≢ t → IsHome root w u (tree_at v.trees u)
  root_away u lt other =
      let h = sound.arena.forest.homes root u lr lt in
      record {
        root_tree = h.root_tree;
        root_is = λ e standing. absurd (other (sym (h.root_tree e standing)));
        root_named = λ e live. absurd (cc);
        standing = λ e live. absurd (cc);
        keys = h.keys;
      }

  child_away : (u : ℕ) → u < length v.trees → u ≢ t → IsHome child y u (tree_at v.trees u)
  child_away u lt other =
      let h = sound.arena.forest.homes child u lc lt in
      record {
        root_tree = h.root_tree;
        root_is = λ e standing. absurd (other (sym (h.root_tree e standing) ∙ below.tree));
        root_named = λ e live flag. absurd (other (sym e ∙ below.tree));
        standing = h.standing;
        keys = h.keys;
      }

  tree_t : tree_at ts t ≡ rooted
  tree_t = get_or-set_same v.trees t rooted no_tree lt_t

  tree_u : (u : ℕ) → u ≢ t → tree_at ts u ≡ tree_at v.trees u
  tree_u u other = get_or-set_other v.trees t u rooted no_tree other

  module _ (endless : x.reach ≡ None) where
    child_home : IsHome child y t rooted
    child_home =
        let h = sound.arena.forest.homes child t lc lt_t in
        record {
          root_tree = λ e standing. below.tree;
          root_is = λ e standing. record { live = below.live; flag = refl; parentless = refl; low = begins; reach = endless };
          root_named = λ e live flag. refl;
          standing = λ e live. stands;
          keys = h.keys;
        }

    home_at : (k : ℕ) → k < length xs → (u : ℕ) → u < length v.trees → IsHome k (node_at new k) u (tree_at ts u)
    home_at k lk u lu = elim (cases_eq u t) [
      | inl is ↦ rw (is, tree_t) (elim (cases_eq k root) [
        | inl k_root ↦ rw (k_root, new_root) root_home
        | inr nr ↦ elim (cases_eq k child) [
          | inl k_child ↦ rw (k_child, new_child) child_home
          | inr nc ↦ rw (new_other k nr nc) (other_home k lk nr nc)
        ]
      ])
      | inr other ↦ rw (tree_u u other) (elim (cases_eq k root) [
        | inl k_root ↦ rw (k_root, new_root) (root_away u lu other)
        | inr nr ↦ elim (cases_eq k child) [
          | inl k_child ↦ rw (k_child, new_child) (child_away u lu other)
          | inr nc ↦ rw (new_other k nr nc) (sound.arena.forest.homes k u lk lu)
        ]
      ])
    ]

    tree_of_node : (k : ℕ) → k < length xs → (node_at new k).tree < length v.trees
    tree_of_node k lk = elim (cases_eq k root) [
      | inl k_root ↦ rw (k_root, new_root) lt_t
      | inr nr ↦ elim (cases_eq k child) [
        | inl k_child ↦ rw (k_child, new_child) (sound.arena.forest.tree_there child lc)
        | inr nc ↦ rw (new_other k nr nc) (sound.arena.forest.tree_there k lk)
      ]
    ]

    each_tree : (u : ℕ) → u < length v.trees → IsTree (length new) (tree_at ts u)
    each_tree u lu = elim (cases_eq u t) [
      | inl is ↦ rw (is, tree_t) (record { root_there = omega (arith, lc, size); whole = (sound.arena.forest.each t lt_t).whole })
      | inr other ↦ rw (tree_u u other) (record { root_there = omega (arith, size, (sound.arena.forest.each u lu).root_there); whole = (sound.arena.forest.each u lu).whole })
    ]

    -- both nodes begin where they began
    begins_new : AllBegin new v.trees
    begins_new =
        begins_set ys v.trees child y (omega (arith, lc, size_ys)) (subst (λ (n : NodeView). KeepsSeat n y) (sym at_child) (record { tree = refl; level = refl; low = refl; live = λ live. live }))
        (begins_set xs v.trees root w lr (record { tree = refl; level = refl; low = refl; live = λ live. absurd (cc) }) sound.arena.forest.begins)

    forest_out : IsForest new ts
    forest_out =
        let forest = sound.arena.forest in
        let trees_size = length-set v.trees t rooted in
        record {
          tree_there = λ k lk. omega (arith, tree_of_node k (omega (arith, lk, size)), trees_size);
          homes = λ k u lk lu. home_at k (omega (arith, lk, size)) u (omega (arith, lu, trees_size));
          begins = begins_trees new v.trees ts (λ k lk. same_prefix (node_at new k).tree) begins_new;
          emptied = λ k lk. elim (cases_eq k root) [
            | inl k_root ↦ rw (k_root, new_root) (λ out. slotless)
            | inr nr ↦ elim (cases_eq k child) [
              | inl k_child ↦ rw (k_child, new_child) (forest.emptied child lc)
              | inr nc ↦ rw (new_other k nr nc) (forest.emptied k (omega (arith, lk, size)))
            ]
          ];
          each = λ u lu. each_tree u (omega (arith, lu, trees_size));
          peers = λ b d lb ld. record {
            one_live = λ differ live also e. (forest.peers b d (omega (arith, lb, trees_size)) (omega (arith, ld, trees_size))).one_live differ
                (sym (same_standing b) ∙ live) (sym (same_standing d) ∙ also) (sym (same_prefix b) ∙ e ∙ same_prefix d);
          };
          top = record { there = omega (arith, forest.top.there, trees_size); live = same_standing 0 ∙ forest.top.live; prefix = same_prefix 0 ∙ forest.top.prefix };
        }

    keeps_child : KeepsLinks x y
    keeps_child = record { tree = refl; deleted = refl; forth = same_links x.slots; back = same_links x.slots }

    layers_out : AreLayered new ts
    layers_out =
        layers_trees new v.trees ts (length-set v.trees t rooted) same_prefix same_standing
        (layers_set ys v.trees child y (omega (arith, lc, size_ys)) (layers_empty xs v.trees root w lr sound.arena.layers (record { old = slotless; new = slotless }))
        (subst (λ (n : NodeView). KeepsLinks n y) (sym at_child) keeps_child))

    retired_out : AreRetired new ts (with_interior v.retired root step)
    retired_out =
        retired_tree_set new v.trees (with_interior v.retired root step) t rooted lt_t
        (retired_set ys v.trees (with_interior v.retired root step) child y (omega (arith, lc, size_ys))
        (interior_retired xs v.trees v.retired root step lr sound.retired may.live is_interior)
        (ap (λ (n : NodeView). n.version.deleted) (sym at_child)) (ap (λ (n : NodeView). n.level) (sym at_child))) refl

    -- what the root names is live, and each other one that was taken out keeps its names
    named_out : AreOutUpTo step v.retired → IsNamedLate new ts (with_interior v.retired root step)
    named_out upto =
        named_interior new ts v.retired root step upto
        (λ k names. named_live xs v.trees v.retired step root lr sound.arena.nodes sound.retired may.live k (subst (λ (n : NodeView). NamesNode n k) new_root names))
        (named_kept xs new v.trees ts v.retired sound.retired (record {
          nodes = each_set2 (λ k n. (at v k).version.deleted ≡ true → KeepsNames (at v k) n) xs root child w y lr lc apart
              (λ out. record { next = refl; children = refl }) (λ out. record { next = refl; children = refl }) (λ k lt nr nc out. names_stand (at v k));
          trees = λ u lu. roots_set v.trees t rooted lt_t (λ dead. absurd (stands dead)) u;
        }) sound.named)

    pub sound_collapsed : AreOutUpTo step v.retired → ArenaInvariant (nodes_under xs root child) ts (with_interior v.retired root step) room
    sound_collapsed upto = record {
      arena = record {
        nodes = nodes_collapsed xs child root sound.arena.nodes sound.arena.ranged collapses;
        ranged = ranged_collapsed xs child root sound.arena.nodes sound.arena.ranged collapses;
        forest = forest_out;
        layers = layers_out;
      };
      retired = retired_out;
      named = named_out upto;
      enough = omega (arith, size, sound.enough);
      trees_enough = omega (arith, length-set v.trees t rooted, sound.trees_enough);
    }

  -- what others rely on
  turns_root : MayTurn op v.trees p w
  turns_root = record { changes = changes_retired op p may.held.holder; mine = may.mine }

  turns_child : MayTurn op v.trees x y
  turns_child = record {
    changes = changes_crowned op x may.child_held.holder;
    mine = λ r e. may.mine r (ap (λ u. (tree_at v.trees u).standing) (sym below.tree) ∙ e);
  }

  record_changes : TreeChanges op (tree_of v root) rooted
  record_changes = record {
    prefix = refl;
    dead = λ e. absurd (stands e);
    made = λ q other e. absurd (other (may.mine q e));
    live = λ e q f. absurd (let both = sym e ∙ f in cc);
  }

  names_none : PointsSo op new x y
  names_none = record { previous = λ j e not_mine. e; parent = λ j e. absurd (cc) }

  pub step_collapsed : Guarantee op v (without_root v root child step)
  step_collapsed = record {
    nodes = guarantee_on op xs new new v.trees v.trees ts (guarantee_set2 op xs v.trees root child w y lr lc apart sound.arena.forest.tree_there turns_root turns_child)
        (guarantee_record op new v.trees t rooted lt_t record_changes) sound.arena.forest.tree_there;
    points = points_each op xs new size (each_set2 (λ k n. PointsSo op new (at v k) n) xs root child w y lr lc apart
        (names_same op new p w refl refl) names_none (λ k lt nr nc. names_same op new (at v k) (at v k) refl refl));
    lost = each_set2 (λ k n. LosesHeld (at v k) n) xs root child w y lr lc apart (lost_none p) (lost_none x) (λ k lt nr nc. lost_none (at v k));
  }

  pub content_collapsed : content ts (nodes_under xs root child) ≡ content v.trees xs
  content_collapsed =
      stands_tree_set v.trees new t rooted lt_t refl refl
      ∙ stands_unchanged v.trees ys child y (subst (λ (n : NodeView). HasSlots n y n.slots) (sym at_child) (record { slots = refl; deleted = refl; tree = refl }))
      ∙ stands_without_slots v.trees xs root w slotless slotless

  -- what lags behind the two
  each : (k : ℕ) → k < length xs → NamesNoMore (at v k) (node_at new k)
  each = each_set2 (λ k n. NamesNoMore (at v k) n) xs root child w y lr lc apart (record { previous = refl; parent = λ k e. e; live = λ live. absurd (cc) })
      (record { previous = refl; parent = λ k e. absurd (cc); live = λ live. live }) (λ k lt nr nc. names_none_more (at v k))

  pub child_collapsed : IsSettled xs child x → IsSettled new child (node_at new child)
  child_collapsed settled = subst (λ (n : NodeView). IsSettled new child n) (sym new_child) (record {
    previous = λ k lt e live. let was = follows_was xs new size each child k (lt, e, live) in settled.previous k was.0 was.1 was.2;
    previous_live = λ k lt e live. let was = follows_was xs new size each child k (lt, e, live) in settled.previous_live k was.0 was.1 was.2;
    parent = λ k lt e live. let was = under_was xs new size each child k (lt, e, live) in settled.parent k was.0 was.1 was.2;
    reach = settled.reach;
    stable = settled.stable;
    rooted = λ live none. refl;
  })

  -- nobody names the old root: its only child has no parent any more, and it has no next node
  no_follower : IsSettled xs root p → (k : ℕ) → Follows new root k → ⊥
  no_follower settled k is =
      let was = follows_was xs new size each root k is in
      let high : p.high ≡ None = sym ((sound.arena.nodes.each root lr).reach.exact may.whole) ∙ was_root.reach in
      let meets = ((sound.arena.nodes.pairs root k lr was.0).next may.live (settled.previous k was.0 was.1 was.2)).meets in
      absurd (let both = sym high ∙ meets in cc)

  no_child : IsSettled xs root p → (k : ℕ) → IsUnder new root k → ⊥
  no_child settled k is =
      let was = under_was xs new size each root k is in
      let c = settled.parent k was.0 was.1 was.2 in
      let place : c.place ≡ 0 = omega (arith, c.in_range, one) in
      let same : k ≡ child = sym c.is ∙ ap (λ b. get_or p.children b 0) place ∙ first in
      let none : (node_at new k).parent ≡ None = ap (λ k. (node_at new k).parent) same ∙ ap (λ (n : NodeView). n.parent) new_child in
      absurd (let both = sym none ∙ is.1 in cc)

  pub root_collapsed : IsSettled xs root p → IsSettled new root (node_at new root)
  root_collapsed settled = subst (λ (n : NodeView). IsSettled new root n) (sym new_root) (record {
    previous = λ k lt e live. absurd (no_follower settled k (lt, e, live));
    previous_live = λ k lt e live. absurd (no_follower settled k (lt, e, live));
    parent = λ k lt e live. absurd (no_child settled k (lt, e, live));
    reach = settled.reach;
    stable = settled.stable;
    rooted = λ live. absurd (cc);
  })

  pub others_collapsed : (k : ℕ) → k ≢ root → k ≢ child → IsSettled xs k (at v k) → IsSettled new k (node_at new k)
  others_collapsed k nr nc = settled_same xs new size each k (new_other k nr nc)
