-- The whole invariant, the guarantee and the contents where a border node is taken out, and what lags behind its neighbours: for `unlink`.
use Rattle.mt_arena.specs.{Idle.{Rooms, AreRetired, with_border}, Given.{NamesNode, IsNamedLate, AreOutUpTo}}
use Rattle.mt_arena.specs.Guarantee.{LosesHeld}
use Rattle.std.proofs.{Common.{◌≡◌, ◌≢◌, ℕ, ◌-◌, ◌<◌, List, [], length, set, true, false, None, refl, sym, ap, subst, ◌∙◌, arith}, lemmas.List.{length-set, set-set}}
use Rattle.std.proofs.lemmas.Option.{same_Some}
use Rattle.mt_interior.specs.{Fences.end_of, Places.place_of}
use Rattle.mt_arena.specs.{declared.tree.Standing.TheVariants.Dead, NodeView.{NodeView, node_at}, Nodes.{AreNodes, IsChild, HasChild, HasRange}}
use Rattle.mt_arena.specs.{Ranges.AreRanged, Forests.{IsForest, IsRoot, tree_at}, Layers.AreLayered, Contents.content, Edits.{inserting, retired}}
use Rattle.mt_arena.specs.{Unlinks.{Unlinks, joined, without_child}, Invariant.ArenaInvariant, Arena.{ArenaView, Guarantee}, Accesses.at, Ways.HasSlots}
use Rattle.mt_arena.specs.{Settled.IsSettled, Lags.IsFollowedBy, Removals.{MayUnlink, nodes_without, without_node}}
use Rattle.mt_arena.proofs.{Pairs.{here, there}, Quiet.nodes_inserting, ChildPlace.child_place, Ranged.ranged_marked, RangedEdits.ranged_unlinked}
use Rattle.mt_arena.proofs.{Unlink.nodes_unlinked, Locks.is_held, Homes.{KeepsHome, forest_set}, Steps.own_keys}
use Rattle.mt_arena.proofs.{LinkEdits.{KeepsLinks, same_links, layers_set, layers_empty}, Retiring.{retired_set, border_retired}}
use Rattle.mt_arena.proofs.NamedLate.{KeepsNames, names_stand, named_kept, named_live, named_border}
use Rattle.mt_arena.proofs.{TakenOut.{forest_retired, changes_retired, standing_dead}, Slots.changes_inserting, HeldChanges.{changes_joined, changes_without_child}}
use Rattle.mt_arena.proofs.{Guarantees.{changes_on, PointsSo, lost_none}, Naming.{names_same, points_each, each_set3}, Several.{MayTurn, guarantee_set3}}
use Rattle.mt_arena.proofs.Settling.{NamesNoMore, names_none_more, follows_was, under_was, settled_same, child_less}
use Rattle.mt_arena.proofs.ContentQuiet.{stands_unchanged, stands_without_slots}

module _ (v : ArenaView) (room : Rooms) (parent left node step op : ℕ) (sound : ArenaInvariant v.nodes v.trees v.retired room) (may : MayUnlink v parent left node op) where
  abbrev xs : List NodeView
  xs = v.nodes

  abbrev l : NodeView
  l = at v left

  abbrev x : NodeView
  x = at v node

  abbrev p : NodeView
  p = at v parent

  abbrev a : ℕ
  a = may.beside.place

  abbrev y : NodeView
  y = joined l x

  abbrev w : NodeView
  w = retired x

  abbrev q : NodeView
  q = without_child (inserting p) a

  abbrev ys : List NodeView
  ys = set xs left y

  abbrev us : List NodeView
  us = set ys node w

  abbrev new : List NodeView
  new = set us parent q

  li : left < length xs
  li = may.left_held.there

  lj : node < length xs
  lj = may.node_held.there

  lq : parent < length xs
  lq = may.held.there

  nodes : AreNodes xs
  nodes = sound.arena.nodes

  ranged : AreRanged xs
  ranged = sound.arena.ranged

  unlinks : Unlinks xs left node parent a
  unlinks = record {
    left_there = li;
    removed_there = lj;
    parent_there = lq;
    left_held = is_held op l may.left_held.holder;
    removed_held = is_held op x may.node_held.holder;
    parent_held = is_held op p may.held.holder;
    removed_live = may.live;
    parent_live = may.beside.live;
    border = may.border;
    removed_whole = may.whole;
    next = may.next;
    not_first = may.beside.not_first;
    in_range = may.beside.in_range;
    child = may.beside.right_is;
    left_child = may.beside.left_is;
  }

  child : IsChild p a x
  child = (nodes.pairs parent node lq lj).child a may.beside.in_range may.beside.right_is may.beside.live

  left_child : IsChild p (a - 1) l
  left_child = (nodes.pairs parent left lq li).child (a - 1) (omega (arith, may.beside.in_range)) may.beside.left_is may.beside.live

  pub left_border : l.level ≡ 0
  left_border = omega (arith, left_child.level, child.level, may.border)

  range : HasRange x
  range = (ranged.each node lj).parent child.knows

  meet : end_of l.high ≡ x.low
  meet = ap end_of ((nodes.pairs left node li lj).next left_child.live may.next).meets

  left_range : HasRange l
  left_range = (ranged.each left li).parent left_child.knows

  -- the three are three
  pub apart_nodes : left ≢ node
  apart_nodes e = omega (arith, left_range, meet, ap (λ k. (node_at xs k).low) e)

  pub apart_left : left ≢ parent
  apart_left e = omega (arith, left_child.level, ap (λ k. (node_at xs k).level) e)

  pub apart_node : node ≢ parent
  apart_node e = omega (arith, child.level, ap (λ k. (node_at xs k).level) e)

  -- the removed node's place among the children is where its low fence belongs
  pub place_is : place_of p.separators x.low ≡ a
  place_is = child_place xs parent node a nodes lq lj may.beside.live may.beside.in_range may.beside.right_is

  -- what the other nodes were, and the changed ones before
  at_node : node_at ys node ≡ x
  at_node = there xs left node y (λ e. apart_nodes (sym e))

  at_parent : node_at us parent ≡ p
  at_parent = there ys node parent w (λ e. apart_node (sym e)) ∙ there xs left parent y (λ e. apart_left (sym e))

  size_ys : length ys ≡ length xs
  size_ys = length-set xs left y

  size_us : length us ≡ length xs
  size_us = length-set ys node w ∙ size_ys

  new_is : nodes_without xs parent left node ≡ new
  new_is = ap (λ b. set us parent (without_child (inserting p) b)) place_is

  -- nodes and their ranges
  marked : set (set us parent (without_child p a)) parent (inserting (node_at (set us parent (without_child p a)) parent)) ≡ new
  marked =
      ap (λ (n : NodeView). set (set us parent (without_child p a)) parent (inserting n)) (here us parent (without_child p a) (omega (arith, lq, size_us)))
      ∙ set-set us parent (without_child p a) q

  nodes_out : AreNodes new
  nodes_out =
      let zs = set us parent (without_child p a) in
      let size = length-set us parent (without_child p a) in
      subst AreNodes marked (nodes_inserting zs parent (omega (arith, lq, size_us, size)) (nodes_unlinked xs left node parent a nodes ranged unlinks)
      (λ none. is_held op p may.held.holder (sym (ap (λ (n : NodeView). n.holder) (here us parent (without_child p a) (omega (arith, lq, size_us)))) ∙ none)))

  ranged_out : AreRanged new
  ranged_out =
      let zs : List NodeView = set us parent (without_child p a) in
      let size = length-set us parent (without_child p a) in
      let z = node_at zs parent in
      subst AreRanged marked (ranged_marked zs parent z.slots z.cells (inserting z).version (omega (arith, lq, size_us, size)) (ranged_unlinked xs left node parent a nodes ranged unlinks) refl (λ splits. splits) (λ whole. whole))

  -- trees: a node that has a parent is no root
  same_root : (n m : NodeView) → m.version.deleted ≡ n.version.deleted → m.version.root ≡ n.version.root → m.parent ≡ n.parent → m.low ≡ n.low
      → m.reach ≡ n.reach → (IsRoot n → IsRoot m)
  same_root n m deleted flag above low reach h = record {
    live = deleted ∙ h.live;
    flag = flag ∙ h.flag;
    parentless = above ∙ h.parentless;
    low = low ∙ h.low;
    reach = reach ∙ h.reach;
  }

  keeps_parent : KeepsHome p q
  keeps_parent = record { tree = refl; level = refl; low = refl; deleted = refl; flag = refl; root = same_root p q refl refl refl refl refl }

  forest_ys : IsForest ys v.trees
  forest_ys =
      forest_set xs v.trees left y li sound.arena.forest (record { tree = refl; level = refl; low = refl; deleted = refl; flag = refl; root = λ root. absurd (left_child.knows root.parentless) }) (own_keys xs v.trees left li sound.arena.forest)

  no_root : (t : ℕ) → t < length v.trees → (tree_at v.trees t).root ≡ node → (tree_at v.trees t).standing ≡ Dead
  no_root t lt is = standing_dead ((tree_at v.trees t).standing) (λ stands. child.knows ((sound.arena.forest.homes node t lj lt).root_is is stands).parentless)

  forest_us : IsForest us v.trees
  forest_us =
      subst (λ (n : NodeView). IsForest (set ys node (retired n)) v.trees) at_node (forest_retired ys v.trees node (omega (arith, lj, size_ys)) forest_ys (ap (λ (n : NodeView). n.slots) at_node ∙ may.empty) no_root)

  forest_out : IsForest new v.trees
  forest_out =
      forest_set us v.trees parent q (omega (arith, lq, size_us)) forest_us (subst (λ (n : NodeView). KeepsHome n q) (sym at_parent) keeps_parent) (own_keys xs v.trees parent lq sound.arena.forest)

  -- links, and the list of the retired
  keeps_left : KeepsLinks l y
  keeps_left = record { tree = refl; deleted = refl; forth = same_links l.slots; back = same_links l.slots }

  keeps_above : KeepsLinks p q
  keeps_above = record { tree = refl; deleted = refl; forth = same_links p.slots; back = same_links p.slots }

  layers_out : AreLayered new v.trees
  layers_out =
      layers_set us v.trees parent q (omega (arith, lq, size_us))
      (layers_empty ys v.trees node w (omega (arith, lj, size_ys)) (layers_set xs v.trees left y li sound.arena.layers keeps_left) (record { old = ap (λ (n : NodeView). n.slots) at_node ∙ may.empty; new = may.empty }))
      (subst (λ (n : NodeView). KeepsLinks n q) (sym at_parent) keeps_above)

  retired_out : AreRetired new v.trees (with_border v.retired node step)
  retired_out =
      retired_set us v.trees (with_border v.retired node step) parent q (omega (arith, lq, size_us))
      (subst (λ (n : NodeView). AreRetired (set ys node (retired n)) v.trees (with_border v.retired node step)) at_node
      (border_retired ys v.trees v.retired node step (omega (arith, lj, size_ys)) (retired_set xs v.trees v.retired left y li sound.retired refl refl)
      (ap (λ (n : NodeView). n.version.deleted) at_node ∙ may.live) (ap (λ (n : NodeView). n.level) at_node ∙ may.border)))
      (ap (λ (n : NodeView). n.version.deleted) (sym at_parent)) (ap (λ (n : NodeView). n.level) (sym at_parent))

  -- what the node names is live, and each other one that was taken out keeps its names
  named_out : AreOutUpTo step v.retired → IsNamedLate new v.trees (with_border v.retired node step)
  named_out upto =
      named_border new v.trees v.retired node step upto
      (λ k names. named_live xs v.trees v.retired step node lj nodes sound.retired may.live k
      (subst (λ (n : NodeView). NamesNode n k) (there us parent node q apart_node ∙ here ys node w (omega (arith, lj, size_ys))) names))
      (named_kept xs new v.trees v.trees v.retired sound.retired (record {
        nodes = each_set3 (λ k n. (at v k).version.deleted ≡ true → KeepsNames (at v k) n) xs left node parent y w q li lj lq apart_nodes apart_left apart_node
            (λ out. absurd (let live : l.version.deleted ≡ false = left_child.live in cc)) (λ out. record { next = refl; children = refl }) (λ out. absurd (let live = may.beside.live in cc))
            (λ k lt ni nj nq out. names_stand (at v k));
        trees = λ t lt dead. refl;
      }) sound.named)

  pub sound_unlinked : AreOutUpTo step v.retired → ArenaInvariant (nodes_without xs parent left node) v.trees (with_border v.retired node step) room
  sound_unlinked upto = subst (λ (ns : List NodeView). ArenaInvariant ns v.trees (with_border v.retired node step) room) (sym new_is) (record {
    arena = record { nodes = nodes_out; ranged = ranged_out; forest = forest_out; layers = layers_out };
    retired = retired_out;
    named = named_out upto;
    enough = omega (arith, length-set us parent q, size_us, sound.enough);
    trees_enough = sound.trees_enough;
  })

  -- what others rely on
  turns_left : MayTurn op v.trees l y
  turns_left = record {
    changes = changes_joined op l x may.left_held.holder (omega (arith, meet, range));
    mine = λ r e. may.mine r (ap (λ t. (tree_at v.trees t).standing) (sym left_child.tree) ∙ e);
  }

  turns_node : MayTurn op v.trees x w
  turns_node = record {
    changes = changes_retired op x may.node_held.holder;
    mine = λ r e. may.mine r (ap (λ t. (tree_at v.trees t).standing) (sym child.tree) ∙ e);
  }

  turns_parent : MayTurn op v.trees p q
  turns_parent = record {
    changes =
        changes_on op p (inserting p) q (changes_inserting op p may.held.holder) (changes_without_child op (inserting p) a may.held.holder refl may.beside.not_first may.beside.in_range);
    mine = may.mine;
  }

  guarantee_out : Guarantee op v (record (without_node v parent left node step) { nodes = new })
  guarantee_out = record {
    nodes =
        guarantee_set3 op xs v.trees left node parent y w q li lj lq apart_nodes apart_left apart_node sound.arena.forest.tree_there turns_left turns_node turns_parent;
    points =
        points_each op xs new (length-set us parent q ∙ size_us) (each_set3 (λ k n. PointsSo op new (at v k) n) xs left node parent y w q li lj lq apart_nodes apart_left apart_node
        (names_same op new l y refl refl) (names_same op new x w refl refl) (names_same op new p q refl refl) (λ k lt ni nj nq. names_same op new (at v k) (at v k) refl refl));
    lost = each_set3 (λ k n. LosesHeld (at v k) n) xs left node parent y w q li lj lq apart_nodes apart_left apart_node (lost_none l) (lost_none x) (lost_none p) (λ k lt ni nj nq. lost_none (at v k));
  }

  pub step_unlinked : Guarantee op v (without_node v parent left node step)
  step_unlinked = subst (λ (ns : List NodeView). Guarantee op v (record (without_node v parent left node step) { nodes = ns })) (sym new_is) guarantee_out

  pub content_unlinked : content v.trees (nodes_without xs parent left node) ≡ content v.trees xs
  content_unlinked =
      ap (content v.trees) new_is
      ∙ stands_unchanged v.trees us parent q (subst (λ (n : NodeView). HasSlots n q n.slots) (sym at_parent) (record { slots = refl; deleted = refl; tree = refl }))
      ∙ stands_without_slots v.trees ys node w (ap (λ (n : NodeView). n.slots) at_node ∙ may.empty) may.empty
      ∙ stands_unchanged v.trees xs left y (record { slots = refl; deleted = refl; tree = refl })

  -- what lags behind the three
  size : length new ≡ length xs
  size = length-set us parent q ∙ size_us

  new_left : node_at new left ≡ y
  new_left = there us parent left q apart_left ∙ there ys node left w apart_nodes ∙ here xs left y li

  new_node : node_at new node ≡ w
  new_node = there us parent node q apart_node ∙ here ys node w (omega (arith, lj, size_ys))

  new_parent : node_at new parent ≡ q
  new_parent = here us parent q (omega (arith, lq, size_us))

  each : (k : ℕ) → k < length xs → NamesNoMore (at v k) (node_at new k)
  each = each_set3 (λ k n. NamesNoMore (at v k) n) xs left node parent y w q li lj lq apart_nodes apart_left apart_node
      (record { previous = refl; parent = λ k e. e; live = λ live. live }) (record { previous = refl; parent = λ k e. e; live = λ live. absurd (cc) }) (record { previous = refl; parent = λ k e. e; live = λ live. live })
      (λ k lt ni nj nq. names_none_more (at v k))

  -- the removed node names nobody
  other_than : (k : ℕ) → (node_at new k).version.deleted ≡ false → node ≢ k
  other_than k live same =
      absurd (let dead = sym (ap (λ (n : NodeView). n.version.deleted) new_node) ∙ ap (λ k. (node_at new k).version.deleted) same ∙ live in cc)

  parent_settled : IsSettled xs parent p → IsSettled new parent (node_at new parent)
  parent_settled settled = subst (λ (n : NodeView). IsSettled new parent n) (sym new_parent) (record {
    previous = λ k lt e live. let was = follows_was xs new size each parent k (lt, e, live) in settled.previous k was.0 was.1 was.2;
    previous_live = λ k lt e live. let was = follows_was xs new size each parent k (lt, e, live) in settled.previous_live k was.0 was.1 was.2;
    parent = λ k lt e live.
        let was = under_was xs new size each parent k (lt, e, live) in
        child_less p a k may.beside.in_range (λ is. other_than k live (sym may.beside.right_is ∙ is)) (settled.parent k was.0 was.1 was.2);
    reach = settled.reach;
    stable = settled.stable;
    rooted = settled.rooted;
  })

  childless : (n : NodeView) (k : ℕ) → n.children ≡ [] → HasChild n k → ⊥
  childless n k none c = omega (arith, c.in_range, ap length none)

  left_followed : IsSettled xs left l → IsFollowedBy new left (node_at new left) None
  left_followed settled = subst (λ (n : NodeView). IsFollowedBy new left n None) (sym new_left) (record {
    followers =
        λ k is. let was = follows_was xs new size each left k is in absurd (other_than k is.2 (same_Some _ _ (sym may.next ∙ settled.previous k was.0 was.1 was.2)));
    children =
        λ k is. let was = under_was xs new size each left k is in absurd (childless l k ((nodes.each left li).children.childless left_border) (settled.parent k was.0 was.1 was.2));
    reach = (nodes.each node lj).reach.exact may.whole;
    stable = settled.stable;
    rooted = settled.rooted;
  })

  node_followed : IsSettled xs node x → IsFollowedBy new node (node_at new node) x.next
  node_followed settled = subst (λ (n : NodeView). IsFollowedBy new node n x.next) (sym new_node) (record {
    followers = λ k is. let was = follows_was xs new size each node k is in settled.previous k was.0 was.1 was.2;
    children =
        λ k is. let was = under_was xs new size each node k is in absurd (childless x k ((nodes.each node lj).children.childless may.border) (settled.parent k was.0 was.1 was.2));
    reach = settled.reach;
    stable = settled.stable;
    rooted = λ live. absurd (cc);
  })

  pub settled_unlinked : IsSettled xs parent p → IsSettled (nodes_without xs parent left node) parent (node_at (nodes_without xs parent left node) parent)
  settled_unlinked settled = subst (λ (ns : List NodeView). IsSettled ns parent (node_at ns parent)) (sym new_is) (parent_settled settled)

  pub left_unlinked : IsSettled xs left l → IsFollowedBy (nodes_without xs parent left node) left (node_at (nodes_without xs parent left node) left) None
  left_unlinked settled = subst (λ (ns : List NodeView). IsFollowedBy ns left (node_at ns left) None) (sym new_is) (left_followed settled)

  pub node_unlinked : IsSettled xs node x → IsFollowedBy (nodes_without xs parent left node) node (node_at (nodes_without xs parent left node) node) x.next
  node_unlinked settled = subst (λ (ns : List NodeView). IsFollowedBy ns node (node_at ns node) x.next) (sym new_is) (node_followed settled)

  pub others_unlinked : (k : ℕ) → k ≢ parent → k ≢ left → k ≢ node → IsSettled xs k (at v k)
      → IsSettled (nodes_without xs parent left node) k (node_at (nodes_without xs parent left node) k)
  others_unlinked k np nl nn settled = subst (λ (ns : List NodeView). IsSettled ns k (node_at ns k)) (sym new_is)
      (settled_same xs new size each k (there us parent k q np ∙ there ys node k w nn ∙ there xs left k y nl) settled)
