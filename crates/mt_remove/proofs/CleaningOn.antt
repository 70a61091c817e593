-- What is kept once the root of the layer below is held, and once the layer was taken out: for `clean_layer`.
use Rattle.std.proofs.{Common.{◌≡◌, ◌≢◌, ◌⊎◌, ℕ, ◌<◌, length, set, Some, None, false, refl, sym, ap, subst, ◌∙◌, inl, inr, arith}, lemmas.Bool.cases_eq}
use Rattle.std.proofs.{lemmas.Option.same_Some, lemmas.List.{length-set, get_or-set_same, get_or-set_other}}
use Rattle.mt_rows.specs.Rows.{Bytes}
use Rattle.mt_border.specs.{Contents.IsOfTree, Held.Link, Entries.without}
use Rattle.mt_arena.specs.{declared.tree.Tree.Tree, declared.tree.Standing.TheVariants.Dead, NodeView.NodeView, Settled.IsSettled, Forests.{tree_at, no_tree}}
use Rattle.mt_arena.specs.{Edits.{locked, retired, with_slots, cells_without}, Layers.slot_at, Arena.{ArenaView, IsArena}, Accesses.{at, IsOpen}, Removals.without_layer}
use Rattle.mt_arena.proofs.{Pairs.there, Settled.settled_free}
use Rattle.mt_operation.specs.{declared.phase.Phase.Phase, declared.phase.Phase.TheVariants.{LockPrev, Unlock}, declared.walk.Walk.Walk}
use Rattle.mt_operation.specs.declared.removal.Removal.{Removal}
use Rattle.mt_held.specs.{Holds.MayReturn, Moves.walk_at}
use Rattle.mt_remove.specs.KeptRemovals.{HoldsRemoval, HoldsLink, IsEmptyChild, IsLowerRoot, IsRemoving, IsAtCleanLayer, KeptRemoval}
use Rattle.mt_remove.specs.RemovalEdits.{with_lock, root_of}
use Rattle.mt_remove.proofs.DroppingLayers.{tree_there, root_there, root_other, root_tree, root_apart, root_open, root_now, node_still, node_after, root_after, drop_size}

module _ (v : ArenaView) (op slot tree : ℕ) (key : Bytes) (w : Walk) (r : Removal) (arena : IsArena v.nodes v.trees) (kept : IsAtCleanLayer v op key w r) (mine : IsOpen v w.place.node op) (h : HoldsLink v op w.place.node slot tree) (free : (at v (root_of v tree)).holder ≡ None) where
  abbrev k : ℕ
  k = w.place.node

  abbrev b : ℕ
  b = root_of v tree

  abbrev m : ArenaView
  m = with_lock v b op

  node_tree : (at v k).tree ≡ w.place.tree
  node_tree = kept.holds.judged.at_border.covers.remembered.tree_is

  -- what is kept at the end, of an arena in which both nodes are held still
  module _ (u : ArenaView) (size : length u.nodes ≡ length v.nodes) (trees : length u.trees ≡ length v.trees)
      (node_holder : (at u k).holder ≡ (at v k).holder) (node_level : (at u k).level ≡ (at v k).level) (node_same : (at u k).tree ≡ (at v k).tree)
      (root_holder : (at u b).holder ≡ Some op) (root_same : (at u b).tree ≡ (at v b).tree)
      (standing : (tree_at u.trees w.place.tree).standing ≡ (tree_at v.trees w.place.tree).standing) (prefix : (tree_at u.trees w.place.tree).prefix ≡ (tree_at v.trees w.place.tree).prefix)
      (open_below : IsOpen u b op)
      (settled : (j : ℕ) → j < length v.nodes → IsSettled v.nodes j (at v j) → IsSettled u.nodes j (at u j)) (root_settled : IsSettled u.nodes b (at u b)) where
    node_back : MayReturn u op 0 k
    node_back = record {
      held = record { there = omega (arith, h.held.there, size); holder = node_holder ∙ h.held.holder };
      level_is = node_level ∙ h.border;
      tree_there = omega (arith, arena.forest.tree_there k h.held.there, node_same, trees);
      mine = λ q making. mine q (ap (λ t. (tree_at v.trees t).standing) node_tree ∙ sym standing ∙ ap (λ t. (tree_at u.trees t).standing) (sym (node_same ∙ node_tree)) ∙ making);
      settled = settled k h.held.there kept.holds.settled;
    }

    root_back : MayReturn u op (at u b).level b
    root_back = record {
      held = record { there = omega (arith, root_there v op k slot tree arena h, size); holder = root_holder };
      level_is = refl;
      tree_there = omega (arith, arena.forest.tree_there b (root_there v op k slot tree arena h), root_same, trees);
      mine = open_below;
      settled = root_settled;
    }

    pub removing : (phase : Phase) (e : Removal) → e.below ≡ Some b → IsRemoving u op key (walk_at phase w) e
    removing phase e below =
        let t = kept.holds.judged.at_border.through in
        record {
          through = record {
            there = omega (arith, t.there, trees);
            unmade = λ q making. t.unmade q (sym standing ∙ making);
            of_tree = subst (λ (p : Bytes). IsOfTree p w.layer key) (sym prefix) t.of_tree;
            begun = t.begun;
          };
          below = λ j is. subst (λ i. IsLowerRoot u op (walk_at phase w) i) (same_Some _ _ (sym below ∙ is)) (record {
            level = (at u b).level;
            returns = root_back;
            apart = λ same. root_apart v op k slot tree arena h (sym root_same ∙ same ∙ sym node_tree);
          });
        }

    pub cleaned_unlock : (e : Removal) → e.left ≡ None → e.parent ≡ None → e.below ≡ Some b → KeptRemoval Unlock u op key (walk_at Unlock w) e
    cleaned_unlock e no_left no_above below = record {
      removes = removing Unlock e below;
      node = record { returns = node_back; tree = node_same ∙ node_tree };
      left = λ j is. absurd (let both = sym no_left ∙ is in cc);
      parent = λ j is. absurd (let both = sym no_above ∙ is in cc);
    }

    pub cleaned_empty : (e : Removal) → e.left ≡ None → e.parent ≡ None → e.below ≡ Some b → (at u k).version.deleted ≡ false → (at u k).version.splitting ≡ false → IsEmptyChild (at u k) → KeptRemoval LockPrev u op key (walk_at LockPrev w) e
    cleaned_empty e no_left no_above below live whole child = record {
      removes = removing LockPrev e below;
      node = record {
        node = record { returns = node_back; tree = node_same ∙ node_tree };
        live = live;
        whole = whole;
        empty = child.empty;
        later = child.later;
        child = child.child;
      };
      no_left = no_left;
      no_above = no_above;
    }

  -- the root has a key: it is held
  pub kept_held : (settled : (j : ℕ) → j < length v.nodes → IsSettled v.nodes j (at v j) → IsSettled m.nodes j (at m j)) → IsSettled v.nodes b (at v b) → KeptRemoval Unlock m op key (walk_at Unlock w) (record r { below = Some b })
  kept_held settled root_settled =
      let node_is = node_still v op k slot tree arena h free in
      let root_is = root_now v op k slot tree arena h free in
      cleaned_unlock m (length-set v.nodes b (locked (at v b) op)) refl (ap (λ (n : NodeView). n.holder) node_is) (ap (λ (n : NodeView). n.level) node_is) (ap (λ (n : NodeView). n.tree) node_is)
      (ap (λ (n : NodeView). n.holder) root_is) (ap (λ (n : NodeView). n.tree) root_is) refl refl
      (λ q making. root_open v op k slot tree arena h q (ap (λ (n : NodeView). (tree_at v.trees n.tree).standing) (sym root_is) ∙ making))
      settled (settled b (root_there v op k slot tree arena h) root_settled)
      (record r { below = Some b }) kept.no_left kept.no_above refl

  -- it was empty: the layer was taken out
  module _ (step : ℕ) where
    abbrev y : ArenaView
    y = without_layer m k slot tree step

    abbrev dead : Tree
    dead = record (tree_at v.trees tree) { standing = Dead }

    away : w.place.tree ≢ tree
    away same = root_apart v op k slot tree arena h (root_tree v op k slot tree arena h ∙ sym same ∙ sym node_tree)

    tree_now : tree_at y.trees w.place.tree ≡ tree_at v.trees w.place.tree
    tree_now = get_or-set_other v.trees tree w.place.tree dead no_tree away

    tree_gone : (tree_at y.trees tree).standing ≡ Dead
    tree_gone = ap (λ (t : Tree). t.standing) (get_or-set_same v.trees tree dead no_tree (tree_there v op k slot tree arena h))

    abbrev node_is : at y k ≡ with_slots (at m k) (without (at m k).slots (slot_at (at m k) slot)) (cells_without (at m k).cells slot)
    node_is = node_after v op k slot tree arena h free step

    abbrev root_is : at y b ≡ retired (at m b)
    root_is = root_after v op k slot tree arena h free step

    below_open : IsOpen y b op
    below_open q making = absurd (
        let e = sym tree_gone ∙ ap (λ t. (tree_at y.trees t).standing) (sym (ap (λ (n : NodeView). n.tree) root_is ∙ ap (λ (n : NodeView). n.tree) (root_now v op k slot tree arena h free) ∙ root_tree v op k slot tree arena h)) ∙ making in cc)

    module _ (settled : (j : ℕ) → j < length v.nodes → IsSettled v.nodes j (at v j) → IsSettled y.nodes j (at y j)) (root_settled : IsSettled v.nodes b (at v b)) where
      still : at m k ≡ at v k
      still = node_still v op k slot tree arena h free

      -- what comes next by what is left of the node
      pub kept_dropped : (phase : Phase) (e : Removal) → (phase ≡ LockPrev) ⊎ (phase ≡ Unlock) → (phase ≡ LockPrev → IsEmptyChild (at y k)) → e.left ≡ None → e.parent ≡ None → e.below ≡ Some b → KeptRemoval phase y op key (walk_at phase w) e
      kept_dropped phase e either child no_left no_above below = elim either [
        | inl prev ↦ rw prev (cleaned_empty y (drop_size v op k slot tree arena h free step) (length-set v.trees tree dead)
            (ap (λ (n : NodeView). n.holder) node_is ∙ ap (λ (n : NodeView). n.holder) still) (ap (λ (n : NodeView). n.level) node_is ∙ ap (λ (n : NodeView). n.level) still) (ap (λ (n : NodeView). n.tree) node_is ∙ ap (λ (n : NodeView). n.tree) still)
            (ap (λ (n : NodeView). n.holder) root_is ∙ ap (λ (n : NodeView). n.holder) (root_now v op k slot tree arena h free)) (ap (λ (n : NodeView). n.tree) root_is ∙ ap (λ (n : NodeView). n.tree) (root_now v op k slot tree arena h free))
            (ap (λ (t : Tree). t.standing) tree_now) (ap (λ (t : Tree). t.prefix) tree_now) below_open settled (settled b (root_there v op k slot tree arena h) root_settled)
            e no_left no_above below
            (ap (λ (n : NodeView). n.version.deleted) node_is ∙ ap (λ (n : NodeView). n.version.deleted) still ∙ h.live)
            (ap (λ (n : NodeView). n.version.splitting) node_is ∙ ap (λ (n : NodeView). n.version.splitting) still ∙ kept.holds.judged.still.1)
            (child prev))
        | inr last ↦ rw last (cleaned_unlock y (drop_size v op k slot tree arena h free step) (length-set v.trees tree dead)
            (ap (λ (n : NodeView). n.holder) node_is ∙ ap (λ (n : NodeView). n.holder) still) (ap (λ (n : NodeView). n.level) node_is ∙ ap (λ (n : NodeView). n.level) still) (ap (λ (n : NodeView). n.tree) node_is ∙ ap (λ (n : NodeView). n.tree) still)
            (ap (λ (n : NodeView). n.holder) root_is ∙ ap (λ (n : NodeView). n.holder) (root_now v op k slot tree arena h free)) (ap (λ (n : NodeView). n.tree) root_is ∙ ap (λ (n : NodeView). n.tree) (root_now v op k slot tree arena h free))
            (ap (λ (t : Tree). t.standing) tree_now) (ap (λ (t : Tree). t.prefix) tree_now) below_open settled (settled b (root_there v op k slot tree arena h) root_settled)
            e no_left no_above below)
      ]

-- the held link that was found
pub held_link : (v : ArenaView) (op slot tree : ℕ) (key : Bytes) (w : Walk) (r : Removal) → IsAtCleanLayer v op key w r → slot < length (at v w.place.node).slots → (slot_at (at v w.place.node) slot).held ≡ Link tree → HoldsLink v op w.place.node slot tree
held_link v op slot tree key w r kept in_range link = record {
  held = kept.holds.judged.held;
  live = kept.holds.judged.stands.live;
  border = kept.holds.judged.at_border.border;
  in_range = in_range;
  link = link;
}

-- nobody else is making the tree of the node that is judged
pub open_judged : (v : ArenaView) (op : ℕ) (key : Bytes) (w : Walk) (r : Removal) → IsAtCleanLayer v op key w r → IsOpen v w.place.node op
open_judged v op key w r kept q making =
    absurd (kept.holds.judged.at_border.through.unmade q (ap (λ t. (tree_at v.trees t).standing) (sym kept.holds.judged.at_border.covers.remembered.tree_is) ∙ making))

-- the operation that holds the node alone doesn't hold the lower root
pub root_another : (v : ArenaView) (op slot tree holder root : ℕ) (key : Bytes) (w : Walk) (r : Removal) → IsArena v.nodes v.trees → IsAtCleanLayer v op key w r → HoldsLink v op w.place.node slot tree → root ≡ root_of v tree → (at v root).holder ≡ Some holder → HoldsRemoval v op w r → holder ≢ op
root_another v op slot tree holder root key w r arena kept h same is holds mine =
    let within : root < length v.nodes = omega (arith, same, root_there v op w.place.node slot tree arena h) in
    elim (holds root within (is ∙ ap (λ (o : ℕ). Some o) mine)) [
      | inl node ↦ root_other v op w.place.node slot tree arena h (sym same ∙ node)
      | inr rest ↦ elim rest [
        | inl e ↦ absurd (let both = sym kept.no_left ∙ e in cc)
        | inr more ↦ elim more [
          | inl e ↦ absurd (let both = sym kept.no_above ∙ e in cc)
          | inr e ↦ absurd (let both = sym kept.no_below ∙ e in cc)
        ]
      ]
    ]

-- what is kept, of the numbers and the arena that the calls leave
pub held_done : (v u : ArenaView) (op slot tree root : ℕ) (key : Bytes) (w : Walk) (r : Removal) → IsArena v.nodes v.trees → IsAtCleanLayer v op key w r → HoldsLink v op w.place.node slot tree → root ≡ root_of v tree → (at v root).holder ≡ None → u ≡ with_lock v root op
    → ((j : ℕ) → j < length v.nodes → IsSettled v.nodes j (at v j) → IsSettled u.nodes j (at u j)) → KeptRemoval Unlock u op key (walk_at Unlock w) (record r { below = Some root })
held_done v u op slot tree root key w r arena kept h same none is settled =
    let free : (at v (root_of v tree)).holder ≡ None = ap (λ k. (at v k).holder) (sym same) ∙ none in
    let now : u ≡ with_lock v (root_of v tree) op = is ∙ ap (λ k. with_lock v k op) same in
    let b_settled = settled_free v.nodes (root_of v tree) (root_there v op w.place.node slot tree arena h) arena.nodes free in
    let last = kept_held v op slot tree key w r arena kept (open_judged v op key w r kept) h free (λ j lt s. subst (λ (a : ArenaView). IsSettled a.nodes j (at a j)) now (settled j lt s)) b_settled in
    subst (λ k. KeptRemoval Unlock u op key (walk_at Unlock w) (record r { below = Some k })) (sym same) (subst (λ (a : ArenaView). KeptRemoval Unlock a op key (walk_at Unlock w) (record r { below = Some (root_of v tree) })) (sym now) last)

pub dropped_done : (v u : ArenaView) (op slot tree root step : ℕ) (key : Bytes) (w after : Walk) (r e : Removal) → IsArena v.nodes v.trees → IsAtCleanLayer v op key w r → HoldsLink v op w.place.node slot tree → root ≡ root_of v tree → (at v root).holder ≡ None
    → u ≡ without_layer (with_lock v root op) w.place.node slot tree step → ((j : ℕ) → j < length v.nodes → IsSettled v.nodes j (at v j) → IsSettled u.nodes j (at u j))
    → after ≡ walk_at after.phase w → (after.phase ≡ LockPrev) ⊎ (after.phase ≡ Unlock) → (after.phase ≡ LockPrev → IsEmptyChild (at u w.place.node)) → e ≡ record r { below = Some root; emptied = e.emptied }
    → KeptRemoval after.phase u op key after e
dropped_done v u op slot tree root step key w after r e arena kept h same none is settled walk either child removal =
    let free : (at v (root_of v tree)).holder ≡ None = ap (λ k. (at v k).holder) (sym same) ∙ none in
    let now : u ≡ without_layer (with_lock v (root_of v tree) op) w.place.node slot tree step = is ∙ ap (λ k. without_layer (with_lock v k op) w.place.node slot tree step) same in
    let b_settled = settled_free v.nodes (root_of v tree) (root_there v op w.place.node slot tree arena h) arena.nodes free in
    subst (λ (x : Walk). KeptRemoval after.phase u op key x e) (sym walk)
    (subst (λ (a : ArenaView). KeptRemoval after.phase a op key (walk_at after.phase w) e) (sym now)
    (kept_dropped v op slot tree key w r arena kept (open_judged v op key w r kept) h free step (λ j lt s. subst (λ (a : ArenaView). IsSettled a.nodes j (at a j)) now (settled j lt s)) b_settled
    after.phase e either (λ prev. subst (λ (a : ArenaView). IsEmptyChild (at a w.place.node)) now (child prev))
    (ap (λ (x : Removal). x.left) removal ∙ kept.no_left) (ap (λ (x : Removal). x.parent) removal ∙ kept.no_above) (ap (λ (x : Removal). x.below) removal ∙ ap (λ (k : ℕ). Some k) same)))

-- and whom the operation holds then
pub dropped_holds : (v u : ArenaView) (op slot tree root step : ℕ) (key : Bytes) (w after : Walk) (r e : Removal) → IsArena v.nodes v.trees → IsAtCleanLayer v op key w r → HoldsLink v op w.place.node slot tree → root ≡ root_of v tree
    → u ≡ without_layer (with_lock v root op) w.place.node slot tree step → after ≡ walk_at after.phase w → e ≡ record r { below = Some root; emptied = e.emptied } → HoldsRemoval v op w r → HoldsRemoval u op after e
dropped_holds v u op slot tree root step key w after r e arena kept h same is walk removal holds =
    let b : ℕ = root_of v tree in
    let n : ℕ = w.place.node in
    let m : ArenaView = with_lock v b op in
    let y : NodeView = with_slots (at m n) (without (at m n).slots (slot_at (at m n) slot)) (cells_without (at m n).cells slot) in
    let now : u ≡ without_layer m n slot tree step = is ∙ ap (λ k. without_layer (with_lock v k op) n slot tree step) same in
    let size : length (without_layer m n slot tree step).nodes ≡ length v.nodes
    = length-set (set m.nodes n y) b (retired (at m b)) ∙ length-set m.nodes n y ∙ length-set v.nodes b (locked (at v b) op) in
    subst (λ (a : ArenaView). HoldsRemoval a op after e) (sym now) (λ j lt holder. elim (cases_eq j b) [
      | inl is_root ↦ inr (inr (inr (ap (λ (x : Removal). x.below) removal ∙ ap (λ (k : ℕ). Some k) (same ∙ sym is_root))))
      | inr not_root ↦ elim (cases_eq j n) [
        | inl is_node ↦ inl (is_node ∙ sym (ap (λ (x : Walk). x.place.node) walk))
        | inr not_node ↦
            let was : (at v j).holder ≡ Some op
            = ap (λ (x : NodeView). x.holder) (sym (there (set m.nodes n y) b j (retired (at m b)) not_root ∙ there m.nodes n j y not_node ∙ there v.nodes b j (locked (at v b) op) not_root)) ∙ holder in
            elim (holds j (omega (arith, lt, size)) was) [
              | inl node ↦ absurd (not_node node)
              | inr rest ↦ elim rest [
                | inl f ↦ absurd (let both = sym kept.no_left ∙ f in cc)
                | inr more ↦ elim more [
                  | inl f ↦ absurd (let both = sym kept.no_above ∙ f in cc)
                  | inr f ↦ absurd (let both = sym kept.no_below ∙ f in cc)
                ]
              ]
            ]
      ]
    ])

pub held_holds : (v u : ArenaView) (op slot tree root : ℕ) (key : Bytes) (w : Walk) (r : Removal) → IsArena v.nodes v.trees → IsAtCleanLayer v op key w r → HoldsLink v op w.place.node slot tree → root ≡ root_of v tree
    → u ≡ with_lock v root op → HoldsRemoval v op w r → HoldsRemoval u op (walk_at Unlock w) (record r { below = Some root })
held_holds v u op slot tree root key w r arena kept h same is holds =
    subst (λ (a : ArenaView). HoldsRemoval a op (walk_at Unlock w) (record r { below = Some root })) (sym is) (λ j lt holder. elim (cases_eq j root) [
      | inl is_root ↦ inr (inr (inr (ap (λ (k : ℕ). Some k) (sym is_root))))
      | inr not_root ↦
          let was : (at v j).holder ≡ Some op = ap (λ (x : NodeView). x.holder) (sym (there v.nodes root j (locked (at v root) op) not_root)) ∙ holder in
          elim (holds j (omega (arith, lt, length-set v.nodes root (locked (at v root) op))) was) [
            | inl node ↦ inl node
            | inr rest ↦ elim rest [
              | inl f ↦ absurd (let both = sym kept.no_left ∙ f in cc)
              | inr more ↦ elim more [
                | inl f ↦ absurd (let both = sym kept.no_above ∙ f in cc)
                | inr f ↦ absurd (let both = sym kept.no_below ∙ f in cc)
              ]
            ]
          ]
    ])
