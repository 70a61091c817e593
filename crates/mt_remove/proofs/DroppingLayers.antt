-- That the layer to which a slot leads may be taken out once its empty root is held, and what is kept then: for `clean_layer`.
use Rattle.std.proofs.{Common.{◌≡◌, ◌≢◌, ℕ, ◌<◌, [], length, set, None, refl, sym, ap, subst, ◌∙◌, inl, inr, arith}, lemmas.Bool.cases_eq}
use Rattle.std.proofs.lemmas.List.{length-set}
use Rattle.mt_border.specs.{Held.Link, Entries.without}
use Rattle.mt_arena.specs.{declared.tree.Standing.TheVariants.Dead, NodeView.{NodeView, place_at}, Settled.IsSettled, Forests.tree_at, Layers.{slot_at, LeadsTo}}
use Rattle.mt_arena.specs.{Edits.{locked, retired, with_slots, cells_without}, Ways.IsFreeRoot, Removals.{MayDropLayer, without_layer}, Arena.{ArenaView, IsArena, Guarantee}}
use Rattle.mt_arena.specs.Accesses.{at, IsOpen}
use Rattle.mt_arena.proofs.{Pairs.{here, there}, SettledEdits.settled_locked, Alone.alone, OneLink.{IsLinkTo, leads, differs}, Guarantees.{guarantee_on, lost_then}, Locks.same_locked}
use Rattle.mt_arena.proofs.Naming.{points_on}
use Rattle.mt_held.proofs.Returns.{settled_still, stays_whole, names_no_more}
use Rattle.mt_remove.{specs.{KeptRemovals.HoldsLink, RemovalEdits.{with_lock, root_of}}, proofs.Held.{same_at, new_at}}

-- a held link, and the root of the tree to which it leads
module _ (v : ArenaView) (op node slot tree : ℕ) (arena : IsArena v.nodes v.trees) (h : HoldsLink v op node slot tree) where
  abbrev r : ℕ
  r = root_of v tree

  link : IsLinkTo v.nodes node slot tree
  link = record { there = h.held.there; live = h.live; in_range = h.in_range; is = h.link }

  leading : LeadsTo v.trees (at v node) slot tree
  leading = leads v.nodes v.trees arena node slot tree link

  pub tree_there : tree < length v.trees
  tree_there = leading.there

  stands : (tree_at v.trees tree).standing ≢ Dead
  stands dead = absurd (let both = sym leading.live ∙ dead in cc)

  pub root_there : r < length v.nodes
  root_there = (arena.forest.each tree tree_there).root_there

  pub root_tree : (at v r).tree ≡ tree
  root_tree = (arena.forest.homes r tree root_there tree_there).root_tree refl stands

  -- it is of another tree than the link
  pub root_apart : (at v r).tree ≢ (at v node).tree
  root_apart same = differs v.nodes v.trees arena node slot tree link (sym same ∙ root_tree)

  pub root_open : IsOpen v r op
  root_open q making = absurd (let both = sym leading.live ∙ ap (λ t. (tree_at v.trees t).standing) (sym root_tree) ∙ making in cc)

  -- the operation that holds the link's node alone doesn't hold it
  pub root_other : r ≢ node
  root_other same = root_apart (ap (λ k. (at v k).tree) same)

  module _ (free : (at v r).holder ≡ None) where
    abbrev m : ArenaView
    m = with_lock v r op

    pub node_still : at m node ≡ at v node
    node_still = same_at v op r arena root_there free node h.held

    pub root_now : at m r ≡ locked (at v r) op
    root_now = new_at v op r arena root_there free

    -- an empty border root is the only live node of its tree
    pub may_drop : (at m r).level ≡ 0 → (at m r).slots ≡ [] → MayDropLayer m node slot tree op
    may_drop border empty =
        let free_root : IsFreeRoot v.nodes v.trees r = record {
          there = root_there;
          root = ap (λ t. (tree_at v.trees t).root) root_tree;
          stands = λ dead. stands (ap (λ t. (tree_at v.trees t).standing) (sym root_tree) ∙ dead);
          border = ap (λ (n : NodeView). n.level) (sym root_now) ∙ border;
          free = free;
        } in
        record {
          held = record { there = omega (arith, h.held.there, length-set v.nodes r (locked (at v r) op)); holder = ap (λ (n : NodeView). n.holder) node_still ∙ h.held.holder };
          live = ap (λ (n : NodeView). n.version.deleted) node_still ∙ h.live;
          border = ap (λ (n : NodeView). n.level) node_still ∙ h.border;
          in_range = subst (λ (n : NodeView). slot < length n.slots) (sym node_still) h.in_range;
          link = ap (λ (n : NodeView). (slot_at n slot).held) node_still ∙ h.link;
          root_held = record { there = omega (arith, root_there, length-set v.nodes r (locked (at v r) op)); holder = ap (λ (n : NodeView). n.holder) root_now };
          empty = empty;
          alone = λ k lt of live. elim (cases_eq k r) [
            | inl same ↦ same
            | inr other ↦
                let is = there v.nodes r k (locked (at v r) op) other in
                let gone = alone v.nodes v.trees arena r free_root k (omega (arith, lt, length-set v.nodes r (locked (at v r) op))) other (ap (λ (n : NodeView). n.tree) (sym is) ∙ of ∙ sym root_tree) in
                absurd (let both = sym gone ∙ ap (λ (n : NodeView). n.version.deleted) (sym is) ∙ live in cc)
          ];
        }

    -- as the lock is taken nothing comes to lag behind any node
    pub settled_on : (k : ℕ) → k < length v.nodes → IsSettled v.nodes k (at v k) → IsSettled m.nodes k (at m k)
    settled_on k within settled = elim (cases_eq k r) [
      | inl same ↦ subst (λ j. IsSettled m.nodes j (at m j)) (sym same) (settled_locked v.nodes r op root_there arena.nodes free)
      | inr other ↦ settled_still v.nodes m.nodes k (stays_whole (at v k) (at m k) (there v.nodes r k (locked (at v r) op) other))
          (names_no_more v.nodes r k (locked (at v r) op) root_there (λ live. live) (λ e. e) (λ e. e)) settled
    ]

    module _ (step : ℕ) where
      abbrev u : ArenaView
      u = without_layer m node slot tree step

      abbrev y : NodeView
      y = with_slots (at m node) (without (at m node).slots (slot_at (at m node) slot)) (cells_without (at m node).cells slot)

      pub drop_size : length u.nodes ≡ length v.nodes
      drop_size = length-set (set m.nodes node y) r (retired (at m r)) ∙ length-set m.nodes node y ∙ length-set v.nodes r (locked (at v r) op)

      -- the node without the link, and its root, which is held still
      pub node_after : at u node ≡ y
      node_after = there (set m.nodes node y) r node (retired (at m r)) (λ same. root_other (sym same)) ∙ here m.nodes node y (omega (arith, h.held.there, length-set v.nodes r (locked (at v r) op)))

      pub root_after : at u r ≡ retired (at m r)
      root_after = here (set m.nodes node y) r (retired (at m r)) (omega (arith, root_there, length-set m.nodes node y, length-set v.nodes r (locked (at v r) op)))

      -- two steps are one
      pub clean_step : Guarantee op v m → Guarantee op m u → Guarantee op v u
      clean_step one two = record {
        nodes = guarantee_on op v.nodes m.nodes u.nodes v.trees m.trees u.trees one.nodes two.nodes arena.forest.tree_there;
        points = points_on op v.nodes m.nodes u.nodes one.nodes.count one.points two.points (λ j lt holder. elim (cases_eq j r) [
          | inl same ↦ ap (λ k. (at u k).holder) same ∙ ap (λ (n : NodeView). n.holder) root_after ∙ ap (λ k. (at m k).holder) (sym same) ∙ holder
          | inr not_root ↦ elim (cases_eq j node) [
            | inl same ↦ ap (λ k. (at u k).holder) same ∙ ap (λ (n : NodeView). n.holder) node_after ∙ ap (λ k. (at m k).holder) (sym same) ∙ holder
            | inr not_node ↦ ap (λ (n : NodeView). n.holder) (there (set m.nodes node y) r j (retired (at m r)) not_root ∙ there m.nodes node j y not_node) ∙ holder
          ]
        ]);
        lost = lost_then v.nodes m.nodes u.nodes one.nodes.count (same_locked v.nodes r op root_there) two.lost;
      }

-- the lock of the root that a tree's record names
pub locked_is : (v m : ArenaView) (op root tree : ℕ) → root ≡ root_of v tree → m ≡ with_lock v root op → m ≡ with_lock v (root_of v tree) op
locked_is v m op root tree same is = is ∙ ap (λ k. with_lock v k op) same

pub free_is : (v : ArenaView) (root tree : ℕ) → root ≡ root_of v tree → (at v root).holder ≡ None → (at v (root_of v tree)).holder ≡ None
free_is v root tree same free = subst (λ k. (at v k).holder ≡ None) same free

-- the same, of the arenas that the calls leave
module _ (v m u : ArenaView) (op node slot tree : ℕ) (arena : IsArena v.nodes v.trees) (h : HoldsLink v op node slot tree) (free : (at v (root_of v tree)).holder ≡ None) where
  pub link_still : m ≡ with_lock v (root_of v tree) op → (slot_at (at m node) slot).held ≡ Link tree
  link_still is = ap (λ (a : ArenaView). (slot_at (at a node) slot).held) is ∙ ap (λ (n : NodeView). (slot_at n slot).held) (node_still v op node slot tree arena h free) ∙ h.link

  pub dropped_settled : (step : ℕ) → m ≡ with_lock v (root_of v tree) op → u ≡ without_layer m node slot tree step
      → (IsSettled m.nodes node (at m node) → IsSettled u.nodes node (at u node))
      → (IsSettled m.nodes (root_of m tree) (at m (root_of m tree)) → IsSettled u.nodes (root_of m tree) (at u (root_of m tree)))
      → ((k : ℕ) → k ≢ node → k ≢ root_of m tree → IsSettled m.nodes k (at m k) → IsSettled u.nodes k (at u k))
      → (k : ℕ) → k < length v.nodes → IsSettled v.nodes k (at v k) → IsSettled u.nodes k (at u k)
  dropped_settled step is drops of_node of_root of_others k within settled =
      let mid : IsSettled m.nodes k (at m k) = subst (λ (a : ArenaView). IsSettled a.nodes k (at a k)) (sym is) (settled_on v op node slot tree arena h free k within settled) in
      elim (cases_eq k node) [
        | inl same ↦ subst (λ j. IsSettled u.nodes j (at u j)) (sym same) (of_node (subst (λ j. IsSettled m.nodes j (at m j)) same mid))
        | inr not_node ↦ elim (cases_eq k (root_of m tree)) [
          | inl same ↦ subst (λ j. IsSettled u.nodes j (at u j)) (sym same) (of_root (subst (λ j. IsSettled m.nodes j (at m j)) same mid))
          | inr not_root ↦ of_others k not_node not_root mid
        ]
      ]

  pub dropped_step : (step : ℕ) → m ≡ with_lock v (root_of v tree) op → u ≡ without_layer m node slot tree step → Guarantee op v m → Guarantee op m u → Guarantee op v u
  dropped_step step is drops one two =
      let after : u ≡ without_layer (with_lock v (root_of v tree) op) node slot tree step = drops ∙ ap (λ (a : ArenaView). without_layer a node slot tree step) is in
      subst (λ (a : ArenaView). Guarantee op v a) (sym after)
      (clean_step v op node slot tree arena h free step
      (subst (λ (a : ArenaView). Guarantee op v a) is one)
      (subst (λ (a : ArenaView). Guarantee op a (without_layer (with_lock v (root_of v tree) op) node slot tree step)) is (subst (λ (a : ArenaView). Guarantee op m a) after two)))

-- a slot stands where it stood
pub slot_kept : (v m : ArenaView) (op node place slot tree : ℕ) (arena : IsArena v.nodes v.trees) (h : HoldsLink v op node place tree) (free : (at v (root_of v tree)).holder ≡ None) → m ≡ with_lock v (root_of v tree) op
    → place_at (at m node) slot ≡ place_at (at v node) slot
slot_kept v m op node place slot tree arena h free is = ap (λ (a : ArenaView). place_at (at a node) slot) is ∙ ap (λ (n : NodeView). place_at n slot) (node_still v op node place tree arena h free)

-- the link of a held node as another lock is taken
pub link_there : (v m : ArenaView) (op node slot tree : ℕ) (arena : IsArena v.nodes v.trees) (h : HoldsLink v op node slot tree) (free : (at v (root_of v tree)).holder ≡ None) → m ≡ with_lock v (root_of v tree) op → (slot_at (at m node) slot).held ≡ Link tree
link_there v m op node slot tree arena h free is = link_still v m v op node slot tree arena h free is
