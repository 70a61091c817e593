-- What a removal keeps stays under each step of another operation, by what that step leaves to others alone: for the laws.
use Rattle.std.proofs.{Common.{◌≡◌, ◌≢◌, ℕ, ◌-◌, ◌<◌, List, length, get_or, Option, Some, None, sym, ap, subst, ◌∙◌, inl, inr, arith}, lemmas.Bool.cases_lt}
use Rattle.mt_version.specs.Parts.{Parts}
use Rattle.mt_slices.specs.Slices.{slice_of, mark_of, suffix_of}
use Rattle.mt_rows.specs.Rows.{Bytes}
use Rattle.mt_border.specs.{declared.entry.Entry.Entry, Held.Stable, declared.entry.FoundKind.TheVariants.ThisKey, Entry.IsKind}
use Rattle.mt_arena.specs.{NodeView.NodeView, Nodes.HasChild, Layers.slot_at, Guarantee.IsUntouched, Removals.AreBeside, Arena.{ArenaView, Guarantee}}
use Rattle.mt_order.specs.Places.{Places, place_of_slot}
use Rattle.mt_border.specs.Slots.{Slotted}
use Rattle.mt_arena.specs.Accesses.{at}
use Rattle.mt_descent.specs.KeptWalks.{walk_place}
use Rattle.mt_arena.proofs.Settling.{followed_stays}
use Rattle.mt_operation.specs.declared.phase.Phase.{Phase}
use Rattle.mt_operation.specs.{declared.phase.Phase.TheVariants.{LockPrev, LockAbove, Unlink, FixNext, Collapse, CleanLayer, Unlock}, declared.walk.Walk.Walk}
use Rattle.mt_operation.specs.{declared.task.Task.Task, declared.prepared.Prepared.Prepared, declared.removal.Removal.Removal}
use Rattle.mt_held.proofs.Rely.{held, in_slot_stays, open_here, through_stays, untouched, held_stays, return_stays}
use Rattle.mt_remove.specs.KeptRemovals.{HoldsRemoval, IsAtDropKey, IsOurs, IsLowerRoot, IsRemoving, HoldsEmpty, HoldsLeft, HoldsAbove, IsNamedBy, KeptRemoval, IsCleaning}

-- two children stay beside each other
beside_stays : (n m : NodeView) (left right : ℕ) → IsUntouched n m → AreBeside n left right → AreBeside m left right
beside_stays n m left right u b = record {
  live = ap (λ (v : Parts). v.deleted) u.version ∙ b.live;
  place = b.place;
  not_first = b.not_first;
  in_range = subst (λ (cs : List ℕ). b.place < length cs) (sym u.children) b.in_range;
  left_is = ap (λ cs. get_or cs (b.place - 1) 0) u.children ∙ b.left_is;
  right_is = ap (λ cs. get_or cs b.place 0) u.children ∙ b.right_is;
}

child_stays : (n m : NodeView) (k : ℕ) → IsUntouched n m → HasChild n k → HasChild m k
child_stays n m k u c = record {
  live = ap (λ (v : Parts). v.deleted) u.version ∙ c.live;
  place = c.place;
  in_range = subst (λ (cs : List ℕ). c.place < length cs) (sym u.children) c.in_range;
  is = ap (λ cs. get_or cs c.place 0) u.children ∙ c.is;
}

module _ (op o : ℕ) (old new : ArenaView) (g : Guarantee op old new) (other : o ≢ op) where
  -- a node that may be given back, of the walk's tree and of another one
  ours : (w : Walk) (level k : ℕ) → IsOurs old o w level k → IsOurs new o w level k
  ours w level k h = record {
    returns = return_stays op o old new g other level k h.returns;
    tree = (g.nodes.nodes k h.returns.held.there).tree ∙ h.tree;
  }

  lower : (w : Walk) (k : ℕ) → IsLowerRoot old o w k → IsLowerRoot new o w k
  lower w k h = record {
    level = h.level;
    returns = return_stays op o old new g other h.level k h.returns;
    apart = λ e. h.apart (sym (g.nodes.nodes k h.returns.held.there).tree ∙ e);
  }

  removes : (key : Bytes) (w : Walk) (r : Removal) → IsRemoving old o key w r → IsRemoving new o key w r
  removes key w r h = record {
    through = through_stays op o old new g other w.place.tree w.layer key h.through;
    below = λ k is. lower w k (h.below k is);
  }

  empty : (w : Walk) → HoldsEmpty old o w → HoldsEmpty new o w
  empty w h =
      let k = w.place.node in
      let u = untouched op o old new g other k h.node.returns.held in
      record {
        node = ours w 0 k h.node;
        live = ap (λ (v : Parts). v.deleted) u.version ∙ h.live;
        whole = ap (λ (v : Parts). v.splitting) u.version ∙ h.whole;
        empty = u.slots ∙ h.empty;
        later = omega (arith, h.later, (g.nodes.nodes k h.node.returns.held.there).low);
        child = u.parented h.child;
      }

  lefts : (w : Walk) (left : ℕ) → HoldsLeft old o w left → HoldsLeft new o w left
  lefts w left h =
      let u = untouched op o old new g other left h.node.returns.held in
      record {
        node = ours w 0 left h.node;
        live = ap (λ (v : Parts). v.deleted) u.version ∙ h.live;
        next = u.next ∙ h.next;
        differ = h.differ;
      }

  above : (w : Walk) (parent : ℕ) → HoldsAbove old o w parent → HoldsAbove new o w parent
  above w parent h =
      let u = untouched op o old new g other parent h.node.returns.held in
      record {
        node = ours w 1 parent h.node;
        live = ap (λ (v : Parts). v.deleted) u.version ∙ h.live;
        whole = ap (λ (v : Parts). v.splitting) u.version ∙ h.whole;
      }

  named : (w : Walk) (k : ℕ) (by : Option ℕ) → (at old k).tree < length old.trees → IsNamedBy old o w k by → IsNamedBy new o w k by
  named w k by there h =
      let c = g.nodes.nodes k h.held.there in
      record {
        held = held_stays op o old new g other k h.held;
        border = c.level ∙ h.border;
        tree = c.tree ∙ h.tree;
        mine = open_here op o old new g other k h.held.there there h.mine;
        followed = followed_stays op o old.nodes new.nodes old.trees new.trees k by g.nodes g.points other h.held.there h.held.holder h.followed;
      }

  -- at DropKey
  pub drop_key : (task : Task) (prepared : Prepared) (w : Walk) → IsAtDropKey old o task prepared w → IsAtDropKey new o task prepared w
  drop_key task prepared w h =
      let k = w.place.node in
      let n = at old k in
      let u = untouched op o old new g other k h.holds.judged.held in
      let order = ap (λ (c : Slotted). c.order) (sym u.cells) in
      record {
        holds = held op o old new g other task.key w h.holds;
        in_slot = in_slot_stays n (at new w.place.node) w.slot task.key w.layer ThisKey (sym u.slots) order h.in_slot;
        pair = h.pair;
        stable =
            subst (λ (s : List Entry). (slot_at (record n { slots = s }) (walk_place new w)).held ≡ Stable h.pair) (sym u.slots)
            (subst (λ (p : Places). (slot_at n (place_of_slot p.live w.slot)).held ≡ Stable h.pair) order h.stable);
        ready = h.ready;
      }

  -- the tree of the walk is there
  tree_there : (key : Bytes) (w : Walk) (r : Removal) (k : ℕ) → IsRemoving old o key w r → (at old k).tree ≡ w.place.tree → (at old k).tree < length old.trees
  tree_there key w r k h is = subst (λ t. t < length old.trees) (sym is) h.through.there

  -- at each phase behind it
  pub removal : (key : Bytes) (w : Walk) (r : Removal) (phase : Phase) → KeptRemoval phase old o key w r → KeptRemoval phase new o key w r
  removal key w r LockPrev h = record { removes = removes key w r h.removes; node = empty w h.node; no_left = h.no_left; no_above = h.no_above }
  removal key w r LockAbove h = record {
    removes = removes key w r h.removes;
    node = empty w h.node;
    left = h.left;
    left_is = h.left_is;
    has_left = lefts w h.left h.has_left;
    no_above = h.no_above;
  }
  removal key w r Unlink h = record {
    removes = removes key w r h.removes;
    node = empty w h.node;
    left = h.left;
    left_is = h.left_is;
    has_left = lefts w h.left h.has_left;
    parent = h.parent;
    parent_is = h.parent_is;
    has_above = above w h.parent h.has_above;
    beside = beside_stays (at old h.parent) (at new h.parent) h.left w.place.node (untouched op o old new g other h.parent h.has_above.node.returns.held) h.beside;
  }
  removal key w r FixNext h = record {
    removes = removes key w r h.removes;
    left = h.left;
    left_is = h.left_is;
    parent = h.parent;
    parent_is = h.parent_is;
    behind = h.behind;
    next = (untouched op o old new g other h.left h.has_left.held).next ∙ h.next;
    node = named w w.place.node (Some h.behind) (tree_there key w r w.place.node h.removes h.node.tree) h.node;
    gone = ap (λ (v : Parts). v.deleted) (untouched op o old new g other w.place.node h.node.held).version ∙ h.gone;
    has_left = named w h.left None (tree_there key w r h.left h.removes h.has_left.tree) h.has_left;
    live = ap (λ (v : Parts). v.deleted) (untouched op o old new g other h.left h.has_left.held).version ∙ h.live;
    differ = h.differ;
    has_above = above w h.parent h.has_above;
    child = child_stays (at old h.parent) (at new h.parent) h.left (untouched op o old new g other h.parent h.has_above.node.returns.held) h.child;
  }
  removal key w r Collapse h =
      let u = untouched op o old new g other h.parent h.has_above.node.returns.held in
      record {
        removes = removes key w r h.removes;
        left = h.left;
        left_is = h.left_is;
        parent = h.parent;
        parent_is = h.parent_is;
        node = ours w 0 w.place.node h.node;
        has_left = ours w 0 h.left h.has_left;
        differ = h.differ;
        has_above = above w h.parent h.has_above;
        root = ap (λ (v : Parts). v.root) u.version ∙ h.root;
        only = u.children ∙ h.only;
      }
  removal key w r CleanLayer h = record {
    holds = held op o old new g other key w h.holds;
    tree = h.tree;
    cleans = h.cleans;
    no_left = h.no_left;
    no_above = h.no_above;
    no_below = h.no_below;
  }
  removal key w r Unlock h = record {
    removes = removes key w r h.removes;
    node = ours w 0 w.place.node h.node;
    left = λ k is. (ours w 0 k (h.left k is).0, (h.left k is).1);
    parent = λ k is. ours w 1 k (h.parent k is);
  }
  removal key w r _ h = absurd h

  -- on the way to a link
  pub cleaning : (key : Bytes) (r : Removal) → IsCleaning old key r → IsCleaning new key r
  cleaning key r h = record {
    tree = h.tree;
    layer = h.layer;
    cleans = h.cleans;
    through = through_stays op o old new g other h.tree h.layer key h.through;
    no_left = h.no_left;
    no_above = h.no_above;
    no_below = h.no_below;
  }

-- an operation comes to hold no other node by the steps of others
pub removal_holds : (op o : ℕ) (old new : ArenaView) (w : Walk) (r : Removal) → Guarantee op old new → o ≢ op → HoldsRemoval old o w r → HoldsRemoval new o w r
removal_holds op o old new w r g other holds k within holder = elim (cases_lt k (length old.nodes)) [
  | inl was ↦ holds k was ((g.nodes.nodes k was).taken o other holder)
  | inr new_one ↦ absurd (g.nodes.taken_new k o new_one within other holder)
]
