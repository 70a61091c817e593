-- What a removal keeps stays when places are given out. The nodes that it holds are as they were, with their trees, and a blank node names nobody.
use Rattle.std.proofs.Common.{◌≡◌, ◌≢◌, ℕ, ◌<◌, Option, Some, None, sym, ap, subst, ◌∙◌}
use Rattle.mt_rows.specs.Rows.{Bytes}
use Rattle.mt_border.specs.{Held.Stable, declared.entry.FoundKind.TheVariants.ThisKey}
use Rattle.mt_arena.specs.{NodeView.{NodeView, place_at}, Nodes.HasChild, Forests.tree_at, Layers.slot_at}
use Rattle.mt_arena.specs.{Lags.IsFollowedBy, Removals.AreBeside, Arena.ArenaView, Accesses.{at, IsHeld}}
use Rattle.mt_arena.specs.Given.{GivesOut, GivesOutBeside}
use Rattle.mt_operation.specs.declared.phase.Phase.{Phase}
use Rattle.mt_operation.specs.{declared.phase.Phase.TheVariants.{LockPrev, LockAbove, Unlink, FixNext, Collapse, CleanLayer, Unlock}, declared.walk.Walk.Walk}
use Rattle.mt_operation.specs.{declared.task.Task.Task, declared.prepared.Prepared.Prepared, declared.removal.Removal.Removal}
use Rattle.mt_descent.specs.KeptWalks.{IsInSlot}
use Rattle.mt_descent.proofs.Given.{through_given}
use Rattle.mt_held.proofs.Given.{held_same, holder_given, followed_given, held_given, open_given, return_given, judge_given}
use Rattle.mt_remove.specs.KeptRemovals.{HoldsRemoval, IsAtDropKey, IsOurs, IsLowerRoot, IsRemoving, HoldsEmpty, HoldsLeft, HoldsAbove, IsNamedBy, KeptRemoval, IsCleaning}

module _ (o : ℕ) (old new : ArenaView) (g : GivesOutBeside o old new) where
  stays : (k : ℕ) → IsHeld old k o → at new k ≡ at old k
  stays k h = held_same old new g.gives k o h

  -- a node that may be given back, of the walk's tree and of another one
  ours : (w : Walk) (level k : ℕ) → IsOurs old o w level k → IsOurs new o w level k
  ours w level k h = record {
    returns = return_given o old new g level k h.returns;
    tree = ap (λ (n : NodeView). n.tree) (stays k h.returns.held) ∙ h.tree;
  }

  lower : (w : Walk) (k : ℕ) → IsLowerRoot old o w k → IsLowerRoot new o w k
  lower w k h = record {
    level = h.level;
    returns = return_given o old new g h.level k h.returns;
    apart = subst (λ (n : NodeView). n.tree ≢ w.place.tree) (sym (stays k h.returns.held)) h.apart;
  }

  -- the walk's tree is that of a node which the removal holds
  removes : (key : Bytes) (w : Walk) (r : Removal) (k : ℕ) → IsHeld old k o → (at old k).tree ≡ w.place.tree → IsRemoving old o key w r → IsRemoving new o key w r
  removes key w r k held is h = record {
    through = through_given old new g.gives.count g.gives.tree_count w.place.tree w.layer key
        (subst (λ t. tree_at new.trees t ≡ tree_at old.trees t) is (g.trees k held.there held.holder)) h.through;
    below = λ b below_is. lower w b (h.below b below_is);
  }

  empty : (w : Walk) → HoldsEmpty old o w → HoldsEmpty new o w
  empty w h =
      let as_it_was = stays w.place.node h.node.returns.held in
      record {
        node = ours w 0 w.place.node h.node;
        live = ap (λ (n : NodeView). n.version.deleted) as_it_was ∙ h.live;
        whole = ap (λ (n : NodeView). n.version.splitting) as_it_was ∙ h.whole;
        empty = ap (λ (n : NodeView). n.slots) as_it_was ∙ h.empty;
        later = subst (λ (n : NodeView). 0 < n.low) (sym as_it_was) h.later;
        child = subst (λ (n : NodeView). n.parent ≢ None) (sym as_it_was) h.child;
      }

  lefts : (w : Walk) (left : ℕ) → HoldsLeft old o w left → HoldsLeft new o w left
  lefts w left h =
      let as_it_was = stays left h.node.returns.held in
      record {
        node = ours w 0 left h.node;
        live = ap (λ (n : NodeView). n.version.deleted) as_it_was ∙ h.live;
        next = ap (λ (n : NodeView). n.next) as_it_was ∙ h.next;
        differ = h.differ;
      }

  above : (w : Walk) (parent : ℕ) → HoldsAbove old o w parent → HoldsAbove new o w parent
  above w parent h =
      let as_it_was = stays parent h.node.returns.held in
      record {
        node = ours w 1 parent h.node;
        live = ap (λ (n : NodeView). n.version.deleted) as_it_was ∙ h.live;
        whole = ap (λ (n : NodeView). n.version.splitting) as_it_was ∙ h.whole;
      }

  named : (w : Walk) (k : ℕ) (by : Option ℕ) → IsNamedBy old o w k by → IsNamedBy new o w k by
  named w k by h =
      let as_it_was = stays k h.held in
      record {
        held = held_given o old new g k h.held;
        border = ap (λ (n : NodeView). n.level) as_it_was ∙ h.border;
        tree = ap (λ (n : NodeView). n.tree) as_it_was ∙ h.tree;
        mine = open_given o old new g k h.held h.mine;
        followed = subst (λ (n : NodeView). IsFollowedBy new.nodes k n by) (sym as_it_was) (followed_given old new g.gives k (at old k) by h.followed);
      }

  -- at DropKey
  pub drop_key_given : (task : Task) (prepared : Prepared) (w : Walk) → IsAtDropKey old o task prepared w → IsAtDropKey new o task prepared w
  drop_key_given task prepared w h =
      let as_it_was = stays w.place.node h.holds.judged.held in
      record {
        holds = judge_given o old new g task.key w h.holds;
        in_slot = subst (λ (n : NodeView). IsInSlot n w.slot task.key w.layer ThisKey) (sym as_it_was) h.in_slot;
        pair = h.pair;
        stable = subst (λ (n : NodeView). (slot_at n (place_at n w.slot)).held ≡ Stable h.pair) (sym as_it_was) h.stable;
        ready = h.ready;
      }

  -- at each phase after it
  pub removal_given : (key : Bytes) (w : Walk) (r : Removal) (phase : Phase) → KeptRemoval phase old o key w r → KeptRemoval phase new o key w r
  removal_given key w r LockPrev h = record {
    removes = removes key w r w.place.node h.node.node.returns.held h.node.node.tree h.removes;
    node = empty w h.node;
    no_left = h.no_left;
    no_above = h.no_above;
  }
  removal_given key w r LockAbove h = record {
    removes = removes key w r w.place.node h.node.node.returns.held h.node.node.tree h.removes;
    node = empty w h.node;
    left = h.left;
    left_is = h.left_is;
    has_left = lefts w h.left h.has_left;
    no_above = h.no_above;
  }
  removal_given key w r Unlink h = record {
    removes = removes key w r w.place.node h.node.node.returns.held h.node.node.tree h.removes;
    node = empty w h.node;
    left = h.left;
    left_is = h.left_is;
    has_left = lefts w h.left h.has_left;
    parent = h.parent;
    parent_is = h.parent_is;
    has_above = above w h.parent h.has_above;
    beside = subst (λ (n : NodeView). AreBeside n h.left w.place.node) (sym (stays h.parent h.has_above.node.returns.held)) h.beside;
  }
  removal_given key w r FixNext h = record {
    removes = removes key w r w.place.node h.node.held h.node.tree h.removes;
    left = h.left;
    left_is = h.left_is;
    parent = h.parent;
    parent_is = h.parent_is;
    behind = h.behind;
    next = ap (λ (n : NodeView). n.next) (stays h.left h.has_left.held) ∙ h.next;
    node = named w w.place.node (Some h.behind) h.node;
    gone = ap (λ (n : NodeView). n.version.deleted) (stays w.place.node h.node.held) ∙ h.gone;
    has_left = named w h.left None h.has_left;
    live = ap (λ (n : NodeView). n.version.deleted) (stays h.left h.has_left.held) ∙ h.live;
    differ = h.differ;
    has_above = above w h.parent h.has_above;
    child = subst (λ (n : NodeView). HasChild n h.left) (sym (stays h.parent h.has_above.node.returns.held)) h.child;
  }
  removal_given key w r Collapse h =
      let as_it_was = stays h.parent h.has_above.node.returns.held in
      record {
        removes = removes key w r w.place.node h.node.returns.held h.node.tree h.removes;
        left = h.left;
        left_is = h.left_is;
        parent = h.parent;
        parent_is = h.parent_is;
        node = ours w 0 w.place.node h.node;
        has_left = ours w 0 h.left h.has_left;
        differ = h.differ;
        has_above = above w h.parent h.has_above;
        root = ap (λ (n : NodeView). n.version.root) as_it_was ∙ h.root;
        only = ap (λ (n : NodeView). n.children) as_it_was ∙ h.only;
      }
  removal_given key w r CleanLayer h = record {
    holds = judge_given o old new g key w h.holds;
    tree = h.tree;
    cleans = h.cleans;
    no_left = h.no_left;
    no_above = h.no_above;
    no_below = h.no_below;
  }
  removal_given key w r Unlock h = record {
    removes = removes key w r w.place.node h.node.returns.held h.node.tree h.removes;
    node = ours w 0 w.place.node h.node;
    left = λ k is. (ours w 0 k (h.left k is).0, (h.left k is).1);
    parent = λ k is. ours w 1 k (h.parent k is);
  }
  removal_given key w r _ h = absurd h

-- on its way to a link it holds nothing: the tree of that link is as it was
pub cleaning_given : (old new : ArenaView) (key : Bytes) (r : Removal) → GivesOut old new → ((t : ℕ) → r.cleans ≡ Some t → tree_at new.trees t ≡ tree_at old.trees t)
    → IsCleaning old key r → IsCleaning new key r
cleaning_given old new key r g trees h = record {
  tree = h.tree;
  layer = h.layer;
  cleans = h.cleans;
  through = through_given old new g.count g.tree_count h.tree h.layer key (trees h.tree h.cleans) h.through;
  no_left = h.no_left;
  no_above = h.no_above;
  no_below = h.no_below;
}

-- an operation comes to hold no node that is given out
pub removal_holds_given : (o : ℕ) (old new : ArenaView) (w : Walk) (r : Removal) → GivesOut old new → HoldsRemoval old o w r → HoldsRemoval new o w r
removal_holds_given o old new w r g holds k within holder = let was = holder_given old new g k o within holder in holds k was.there was.holder
