-- What a removal keeps as it takes one more lock itself.
use Rattle.std.proofs.{Common.{◌≡◌, ◌≢◌, ℕ, ◌<◌, length, Some, None, sym, ap, subst, ◌∙◌, arith}, lemmas.List.length-set}
use Rattle.mt_rows.specs.Rows.{Bytes}
use Rattle.mt_arena.specs.{NodeView.NodeView, Edits.locked, Forests.tree_at, Arena.{ArenaView, IsArena}, Accesses.{at, IsHeld, IsOpen}}
use Rattle.mt_arena.proofs.{Pairs.{here, there}, SettledEdits.settled_locked}
use Rattle.mt_operation.specs.{declared.walk.Walk.Walk, declared.removal.Removal.Removal}
use Rattle.mt_descent.specs.KeptWalks.{GoesThrough}
use Rattle.mt_held.{specs.Holds.MayReturn, proofs.Returns.{NamesNoMoreOf, trees_same, stays_whole, returnable_still, names_no_more}}
use Rattle.mt_remove.specs.{KeptRemovals.{IsOurs, IsLowerRoot, IsRemoving, HoldsEmpty, HoldsLeft}, RemovalEdits.with_lock}

-- the lock of a node that nobody holds is taken
module _ (v : ArenaView) (op m : ℕ) (arena : IsArena v.nodes v.trees) (within : m < length v.nodes) (free : (at v m).holder ≡ None) where
  abbrev u : ArenaView
  u = with_lock v m op

  -- what is held is another node
  pub not_held : (k : ℕ) → IsHeld v k op → k ≢ m
  not_held k h same = absurd (let e = sym h.holder ∙ ap (λ j. (at v j).holder) same ∙ free in cc)

  pub same_at : (k : ℕ) → IsHeld v k op → at u k ≡ at v k
  same_at k h = there v.nodes m k (locked (at v m) op) (not_held k h)

  pub new_at : at u m ≡ locked (at v m) op
  new_at = here v.nodes m (locked (at v m) op) within

  size : length u.nodes ≡ length v.nodes
  size = length-set v.nodes m (locked (at v m) op)

  names : (k : ℕ) → NamesNoMoreOf v.nodes u.nodes k
  names k = names_no_more v.nodes m k (locked (at v m) op) within (λ live. live) (λ e. e) (λ e. e)

  pub return_still : (level k : ℕ) → MayReturn v op level k → MayReturn u op level k
  return_still level k h = returnable_still v u op (omega (arith, size)) (trees_same v.trees) level k (stays_whole (at v k) (at u k) (same_at k h.held)) (names k) h

  -- and this one may be given back
  pub return_new : (level : ℕ) → (at v m).level ≡ level → (at v m).tree < length v.trees → IsOpen v m op → MayReturn u op level m
  return_new level level_is tree_there mine = record {
    held = record { there = omega (arith, within, size); holder = ap (λ (n : NodeView). n.holder) new_at };
    level_is = ap (λ (n : NodeView). n.level) new_at ∙ level_is;
    tree_there = subst (λ t. t < length v.trees) (sym (ap (λ (n : NodeView). n.tree) new_at)) tree_there;
    mine = λ q making. mine q (ap (λ (n : NodeView). (tree_at v.trees n.tree).standing) (sym new_at) ∙ making);
    settled = settled_locked v.nodes m op within arena.nodes free;
  }

  pub ours_still : (w : Walk) (level k : ℕ) → IsOurs v op w level k → IsOurs u op w level k
  ours_still w level k h = record { returns = return_still level k h.returns; tree = ap (λ (n : NodeView). n.tree) (same_at k h.returns.held) ∙ h.tree }

  lower_still : (w : Walk) (k : ℕ) → IsLowerRoot v op w k → IsLowerRoot u op w k
  lower_still w k h = record {
    level = h.level;
    returns = return_still h.level k h.returns;
    apart = λ e. h.apart (ap (λ (n : NodeView). n.tree) (sym (same_at k h.returns.held)) ∙ e);
  }

  pub through_still : (t layer : ℕ) (key : Bytes) → GoesThrough v t layer key → GoesThrough u t layer key
  through_still t layer key h = record { there = h.there; unmade = h.unmade; of_tree = h.of_tree; begun = h.begun }

  pub removes_still : (key : Bytes) (w : Walk) (r : Removal) → IsRemoving v op key w r → IsRemoving u op key w r
  removes_still key w r h = record { through = through_still w.place.tree w.layer key h.through; below = λ k is. lower_still w k (h.below k is) }

  pub empty_still : (w : Walk) → HoldsEmpty v op w → HoldsEmpty u op w
  empty_still w h =
      let is = same_at w.place.node h.node.returns.held in
      record {
        node = ours_still w 0 w.place.node h.node;
        live = ap (λ (n : NodeView). n.version.deleted) is ∙ h.live;
        whole = ap (λ (n : NodeView). n.version.splitting) is ∙ h.whole;
        empty = ap (λ (n : NodeView). n.slots) is ∙ h.empty;
        later = omega (arith, h.later, ap (λ (n : NodeView). n.low) is);
        child = λ none. h.child (ap (λ (n : NodeView). n.parent) (sym is) ∙ none);
      }

  pub left_still : (w : Walk) (left : ℕ) → HoldsLeft v op w left → HoldsLeft u op w left
  left_still w left h =
      let is = same_at left h.node.returns.held in
      record {
        node = ours_still w 0 left h.node;
        live = ap (λ (n : NodeView). n.version.deleted) is ∙ h.live;
        next = ap (λ (n : NodeView). n.next) is ∙ h.next;
        differ = h.differ;
      }

  -- who holds a node held it, but for this one
  pub held_before : (k : ℕ) → k ≢ m → k < length u.nodes → (at u k).holder ≡ Some op → (k < length v.nodes) × ((at v k).holder ≡ Some op)
  held_before k other lt holder = (omega (arith, lt, size), ap (λ (n : NodeView). n.holder) (sym (there v.nodes m k (locked (at v m) op) other)) ∙ holder)
