-- What the steps that make a layer leave of all nodes, by what their calls ensure, and where they lead: for `build_done`.
use Rattle.std.proofs.Common.{List, None, Option, Some, [], ap, arith, false, inl, inr, length, length-append, refl, set, subst, sym, ℕ, ◌+◌, ◌<◌, ◌∙◌, ◌∷◌, ◌≡◌, ◌≢◌, ◌≤◌, true}
use Rattle.std.proofs.{lemmas.Bool.{cases_lt, both_ways}, lemmas.List.length-set}
use Rattle.std.specs.Prelude.{◌⊎◌}
use Rattle.mt_rows.specs.Rows.{Bytes}
use Rattle.mt_border.specs.{declared.entry.Entry.Entry, Held.Held, Held.{Link as LinkTo, Unstable}}
use Rattle.mt_arena.specs.{declared.tree.Tree.Tree, declared.tree.Standing.TheVariants.{Dead, Live, Made}, NodeView.{NodeView, node_at}, Forests.tree_at}
use Rattle.mt_arena.specs.Layering.{border_number, layer_tree, placed_tree, prefix_below, root_of, tree_number, with_held, with_layer_at, with_link, with_slot}
use Rattle.mt_arena.specs.{Arena.{ArenaView, content_of}, Idle.{AreRetired, chosen, number_of}, Given.{AreForgotten, StepsFrom}, Edits.{again, placed}}
use Rattle.mt_arena.specs.Accesses.{IsHeld, at}
use Rattle.mt_arena.proofs.{Pairs.{before as as_before}, Giving.{chosen_place, chosen_tree, steps_from_none}}
use Rattle.mt_operation.specs.{declared.phase.Phase.Phase, declared.phase.Phase.TheVariants.{Done, Link, MakeLayer, MarkLayer, MarkUnstable, Unlock}}
use Rattle.mt_operation.specs.{declared.walk.Taken.Taken, declared.walk.Taken.TheVariants.{Link as LinkTaken}}
use Rattle.mt_operation.specs.{declared.walk.Walk.Walk, declared.outcome.Outcome.Outcome, Operations.{OperationView, SplitsView}, Phases.{IsLayerPhase, MayFollow}}
use Rattle.mt_operation.specs.declared.removal.Removal.{Removal}
use Rattle.mt_descent.specs.{KeptWalks.walk_place, WalkMoves.Continues}
use Rattle.mt_held.specs.Holds.{HoldsOnly}
use Rattle.mt_insert.proofs.InsertingChildren.{at_p}
use Rattle.mt_layer.specs.{KeptLayers.KeptLayer, NewLayers.{KeepsStamps, entry_below, walk_at}, Builds.{IsLayerFrom, IsMakeLayer, KeepsLayer, BeginsLayer}}
use Rattle.mt_state.specs.{Touches.Touches, Invariant.{IsCountedUpTo, DeletedAreEmpty}, Phases.{ScanStep, LeadsTo, BeginsTree}, Growth.MakesFew, Given.idle_of, KeptBack.TakesLive}
use Rattle.mt_state.proofs.{Growing.{makes_same, makes_set}, Giving.{GivesFirsts, MakesUnchosen, makes_none, gives_layer, gives_none}, Climbing.{each_set, pushed_at}, Touching.{AreTouched, layer_touched}}

-- a node's level and its version's counts stay, it is not taken out, and no lock is taken
pub record Stays (o : ℕ) (x y : NodeView) : Type 0 where
  pub level : y.level ≡ x.level
  pub deleted : y.version.deleted ≡ x.version.deleted
  pub emptied : x.version.deleted ≡ true → y.slots ≡ x.slots
  pub inserts : y.version.inserts ≡ x.version.inserts
  pub splits : y.version.splits ≡ x.version.splits
  pub taken : y.holder ≡ Some o → x.holder ≡ Some o

stays_same : (o : ℕ) (x : NodeView) → Stays o x x
stays_same o x = record { level = refl; deleted = refl; emptied = λ gone. refl; inserts = refl; splits = refl; taken = λ held. held }

-- a node that was taken out and that nobody held, and the root of a new tree in its place, which counts one split more
pub record RootAgain (x y : NodeView) : Type 0 where
  pub out : x.version.deleted ≡ true
  pub free : x.holder ≡ None
  pub level : y.level ≡ 0
  pub live : y.version.deleted ≡ false
  pub inserts : y.version.inserts ≡ x.version.inserts
  pub splits : y.version.splits ≡ x.version.splits + 1

-- the root of a new tree
pub record IsRoot (n : NodeView) : Type 0 where
  pub level : n.level ≡ 0
  pub live : n.version.deleted ≡ false
  pub inserts : n.version.inserts ≡ 0
  pub splits : n.version.splits ≡ 0

-- all nodes stay so, or a root comes in the place of one that was taken out; those that were added are roots of new trees, and none is taken out
pub record LeavesNodes (least o : ℕ) (old new : ArenaView) : Type 0 where
  pub each : (k : ℕ) → k < length old.nodes → Stays o (at old k) (at new k) ⊎ RootAgain (at old k) (at new k)
  pub fresh : (k : ℕ) → length old.nodes ≤ k → k < length new.nodes → IsRoot (at new k)
  pub makes : MakesFew old new
  pub retired : GivesFirsts old.retired new.retired
  pub last : MakesUnchosen least old new

-- one more at most, in a new place or in an old one
placed_more : (place : Option ℕ) (zs : List NodeView) (n : NodeView) → (length zs ≤ length (placed place zs n)) × (length (placed place zs n) ≤ length zs + 1)
placed_more None zs n = let size = length-append zs (n ∷ []) in (omega (arith, size), omega (arith, size))
placed_more (Some p) zs n = let size = length-set zs p (again (node_at zs p) n) in (omega (arith, size), omega (arith, size))

trees_more : (place : Option ℕ) (ts : List Tree) (t : Tree) → (length ts ≤ length (placed_tree place ts t)) × (length (placed_tree place ts t) ≤ length ts + 1)
trees_more None ts t = let size = length-append ts (t ∷ []) in (omega (arith, size), omega (arith, size))
trees_more (Some p) ts t = let size = length-set ts p t in (omega (arith, size), omega (arith, size))

-- so if a tree is made, whose root comes in the place that is chosen by this step, or else in a new one
made_leaves : (least o : ℕ) (v : ArenaView) (prefix : Bytes) (e : Entry) → AreRetired v.nodes v.trees v.retired → AreForgotten least v
    → LeavesNodes least o v (with_layer_at v prefix e least o)
made_leaves least o v prefix e retired forgotten = record {
  each = by (chosen v.retired.borders least) refl;
  fresh = new (chosen v.retired.borders least);
  makes =
      let nodes = placed_more (chosen v.retired.borders least) v.nodes root in
      let trees = trees_more (chosen v.retired.trees least) v.trees (layer_tree prefix (border_number least v) o) in
      record { nodes_stay = nodes.0; one_node = nodes.1; trees_stay = trees.0; one_tree = trees.1 };
  retired = gives_layer v.retired least;
  last = record { nodes = unchosen (chosen v.retired.borders least) refl; trees = unchosen_tree (chosen v.retired.trees least) refl };
}
  where
    root : NodeView
    root = root_of (tree_number least v) e

    by : (place : Option ℕ) → chosen v.retired.borders least ≡ place → (k : ℕ) → k < length v.nodes
        → Stays o (at v k) (node_at (placed place v.nodes root) k) ⊎ RootAgain (at v k) (node_at (placed place v.nodes root) k)
    by None none k lt = inl (subst (Stays o (at v k)) (sym (as_before v.nodes root k lt)) (stays_same o (at v k)))
    by (Some p) is k lt =
        let vacant = chosen_place v least p retired is forgotten in
        each_set (λ j n. Stays o (at v j) n ⊎ RootAgain (at v j) n) v.nodes p (again (at v p) root) (λ j _. inl (stays_same o (at v j)))
        (inr (record { out = vacant.out; free = vacant.free; level = refl; live = refl; inserts = refl; splits = refl })) k lt

    unchosen : (place : Option ℕ) → chosen v.retired.borders least ≡ place → (k : ℕ) → length v.nodes ≤ k → k < length (placed place v.nodes root)
        → chosen (idle_of (node_at (placed place v.nodes root) k) v.retired) least ≡ None
    unchosen None none k from within =
        ap (λ (m : NodeView). chosen (idle_of m v.retired) least) (pushed_at v.nodes root (length v.nodes) k refl from within) ∙ none
    unchosen (Some p) is k from within = absurd (omega (arith, from, within, length-set v.nodes p (again (node_at v.nodes p) root)))

    unchosen_tree : (place : Option ℕ) → chosen v.retired.trees least ≡ place
        → length v.trees < length (placed_tree place v.trees (layer_tree prefix (border_number least v) o)) → chosen v.retired.trees least ≡ None
    unchosen_tree None none more = none
    unchosen_tree (Some t) is more = absurd (omega (arith, more, length-set v.trees t (layer_tree prefix (border_number least v) o)))

    new : (place : Option ℕ) (k : ℕ) → length v.nodes ≤ k → k < length (placed place v.nodes root) → IsRoot (node_at (placed place v.nodes root) k)
    new None k from within =
        subst IsRoot (sym (pushed_at v.nodes root (length v.nodes) k refl from within)) (record { level = refl; live = refl; inserts = refl; splits = refl })
    new (Some p) k from within = absurd (omega (arith, from, within, length-set v.nodes p (again (at v p) root)))

module _ (o : ℕ) (v : ArenaView) (k i : ℕ) (mine : IsHeld v k o) (live : (at v k).version.deleted ≡ false) where
  held_each : (held : Held) (j : ℕ) → j < length v.nodes → Stays o (at v j) (node_at (set v.nodes k (with_held (at v k) i held)) j)
  held_each held = each_set (λ j m. Stays o (at v j) m) v.nodes k (with_held (at v k) i held) (λ j lt. stays_same o (at v j))
      (record { level = refl; deleted = refl; emptied = λ gone. absurd (both_ways _ live gone); inserts = refl; splits = refl; taken = λ held. held })

  held_fresh : (held : Held) (j : ℕ) → length v.nodes ≤ j → j < length (set v.nodes k (with_held (at v k) i held))
      → IsRoot (node_at (set v.nodes k (with_held (at v k) i held)) j)
  held_fresh held j from within = absurd (omega (arith, from, within, length-set v.nodes k (with_held (at v k) i held)))

  -- where a slot of the held node holds something else
  slot_leaves : (least : ℕ) (held : Held) → LeavesNodes least o v (with_slot v k i held)
  slot_leaves least held = record {
    each = λ j lt. inl (held_each held j lt);
    fresh = held_fresh held;
    makes = makes_set v k (with_held (at v k) i held);
    retired = gives_none v.retired;
    last = makes_none least v (with_slot v k i held) (length-set v.nodes k (with_held (at v k) i held)) refl;
  }

  -- and where it is a link to a tree, which is live
  link_leaves : (least t : ℕ) → LeavesNodes least o v (with_link v k i t)
  link_leaves least t = record {
    each = λ j lt. inl (held_each (LinkTo t) j lt);
    fresh = held_fresh (LinkTo t);
    makes = makes_same v (with_link v k i t) (length-set v.nodes k (with_held (at v k) i (LinkTo t))) (length-set v.trees t tree);
    retired = gives_none v.retired;
    last = makes_none least v (with_link v k i t) (length-set v.nodes k (with_held (at v k) i (LinkTo t))) (length-set v.trees t tree);
  }
    where
      tree : Tree
      tree = record (tree_at v.trees t) { standing = Live }

module _ (least o : ℕ) (old new : ArenaView) (l : LeavesNodes least o old new) where
  versions : (steps : ℕ) → ((k : ℕ) → k < length old.nodes → IsCountedUpTo steps (at old k)) → (k : ℕ) → k < length new.nodes → IsCountedUpTo (steps + 1) (at new k)
  versions steps were k within = elim (cases_lt k (length old.nodes)) [
    | inl was ↦ let c = were k was in elim (l.each k was) [
      | inl n ↦ record { inserts = omega (arith, n.inserts, c.inserts); splits = omega (arith, n.splits, c.splits) }
      | inr root ↦ record { inserts = omega (arith, root.inserts, c.inserts); splits = omega (arith, root.splits, c.splits) }
    ]
    | inr late ↦ let n = l.fresh k late within in record { inserts = omega (arith, n.inserts); splits = omega (arith, n.splits) }
  ]

  takes : TakesLive o old new
  takes k within holds = elim (cases_lt k (length old.nodes)) [
    | inl was ↦ elim (l.each k was) [
      | inl n ↦ inl (was, inl (n.taken holds))
      | inr root ↦ inr root.live
    ]
    | inr late ↦ inr (l.fresh k late within).live
  ]

  deleted : DeletedAreEmpty old → DeletedAreEmpty new
  deleted all k within gone = elim (cases_lt k (length old.nodes)) [
    | inl was ↦ elim (l.each k was) [
      | inl n ↦ let went = sym n.deleted ∙ gone in n.emptied went ∙ all k was went
      | inr root ↦ absurd (both_ways _ root.live gone)
    ]
    | inr late ↦ absurd (both_ways _ (l.fresh k late within).live gone)
  ]

-- a layer came one step nearer: its tree was made, or its slot became unstable, was given the tree's number, or became a link to it
pub record BuildsLayer (least o : ℕ) (old new : ArenaView) (key : Bytes) (before after : Walk) : Type 0 where
  pub steps : StepsFrom least o old new
  pub contents : content_of new ≡ content_of old
  pub touches : (op : OperationView) → op.phase ≡ before.phase → Touches op o old new
  pub stamps : KeepsStamps old new
  pub versions : (steps : ℕ) → ((k : ℕ) → k < length old.nodes → IsCountedUpTo steps (at old k)) → (k : ℕ) → k < length new.nodes
      → IsCountedUpTo (steps + 1) (at new k)
  pub deleted : DeletedAreEmpty old → DeletedAreEmpty new
  pub retired : GivesFirsts old.retired new.retired
  pub follows : MayFollow before.phase after.phase
  pub on : after.phase ≢ Done
  pub same : Continues before after
  pub here : after.place.node ≡ before.place.node
  pub kept : KeptLayer after.phase new o key after
  pub holds : HoldsOnly old o before.place.node → HoldsOnly new o after.place.node
  pub makes : MakesFew old new
  pub last : MakesUnchosen least old new
  pub takes : TakesLive o old new

-- what is left, by the phase
pub layer_leaves : (p : Phase) → IsLayerPhase p → (least o : ℕ) (key : Bytes) (old new : ArenaView) (before after : Walk) → AreRetired old.nodes old.trees old.retired
    → AreForgotten least old → KeptLayer p old o key before → IsLayerFrom p least o key old new before after → LeavesNodes least o old new
layer_leaves MakeLayer i least o key old new before after retired forgotten kept b =
    subst (LeavesNodes least o old) (sym (b.is kept.pair kept.stable)) (made_leaves least o old (prefix_below old before.place.node (walk_place old before)) (entry_below kept.pair) retired forgotten)
layer_leaves MarkUnstable i least o key old new before after retired forgotten kept b =
    subst (LeavesNodes least o old) (sym (b.is kept.pair kept.makes.layer.slot.is)) (slot_leaves o old before.place.node (walk_place old before) kept.makes.layer.slot.held kept.makes.layer.slot.live least (Unstable kept.pair None))
layer_leaves Link i least o key old new before after retired forgotten kept b =
    subst (LeavesNodes least o old) (sym (b.is kept.pair kept.tree kept.makes.taken kept.makes.layer.slot.is)) (slot_leaves o old before.place.node (walk_place old before) kept.makes.layer.slot.held kept.makes.layer.slot.live least (Unstable kept.pair (Some kept.tree)))
layer_leaves MarkLayer i least o key old new before after retired forgotten kept b =
    subst (LeavesNodes least o old) (sym (b.is kept.tree kept.makes.taken)) (link_leaves o old before.place.node (walk_place old before) kept.makes.layer.slot.held kept.makes.layer.slot.live least kept.tree)
layer_leaves _ i least o key old new before after retired forgotten kept b = absurd i

-- what they do alike, those that make no tree among them
keeps_makes : (least o : ℕ) (old new : ArenaView) (before after : Walk) → KeepsLayer o old new before after → BeginsLayer least o old new before after
keeps_makes least o old new before after on = record {
  same = on.keeps.same;
  steps = steps_from_none least o old new on.keeps.guarantee;
  contents = on.keeps.contents;
  stamps = on.stamps;
  holds = on.holds;
}

pub layer_makes : (p : Phase) → IsLayerPhase p → (least o : ℕ) (key : Bytes) (old new : ArenaView) (before after : Walk)
    → IsLayerFrom p least o key old new before after → BeginsLayer least o old new before after
layer_makes MakeLayer i least o key old new before after b = b.on
layer_makes MarkUnstable i least o key old new before after b = keeps_makes least o old new before after b.on
layer_makes Link i least o key old new before after b = keeps_makes least o old new before after b.on
layer_makes MarkLayer i least o key old new before after b = keeps_makes least o old new before after b.on
layer_makes _ i least o key old new before after b = absurd i

-- the phase to which each leads
abbrev pub layer_next : Phase → Phase
layer_next MakeLayer = MarkUnstable
layer_next MarkUnstable = Link
layer_next Link = MarkLayer
layer_next _ = Unlock

-- the walk then: it is at the same node, in the same layer
pub record GoesTo (before after : Walk) (q : Phase) : Type 0 where
  pub at : after.phase ≡ q
  pub layer : after.layer ≡ before.layer
  pub here : after.place.node ≡ before.place.node

at_phase : (before after : Walk) (q : Phase) → after ≡ walk_at q before → GoesTo before after q
at_phase before after q goes = record { at = ap (λ (w : Walk). w.phase) goes; layer = ap (λ (w : Walk). w.layer) goes; here = ap (λ (w : Walk). w.place.node) goes }

pub layer_goes : (p : Phase) → IsLayerPhase p → (least o : ℕ) (key : Bytes) (old new : ArenaView) (before after : Walk)
    → IsLayerFrom p least o key old new before after → GoesTo before after (layer_next p)
layer_goes MakeLayer i least o key old new before after b = record { at = ap (λ (w : Walk). w.phase) b.walk; layer = ap (λ (w : Walk). w.layer) b.walk; here = ap (λ (w : Walk). w.place.node) b.walk }
layer_goes MarkUnstable i least o key old new before after b = at_phase before after Link b.walk
layer_goes Link i least o key old new before after b = at_phase before after MarkLayer b.walk
layer_goes MarkLayer i least o key old new before after b = at_phase before after Unlock b.walk
layer_goes _ i least o key old new before after b = absurd i

-- the tree that is made is a new one, or it comes in the record of a dead one
idle_tree : (least : ℕ) (v : ArenaView) → AreRetired v.nodes v.trees v.retired → (tree_number least v ≡ length v.trees) ⊎ ((tree_at v.trees (tree_number least v)).standing ≡ Dead)
idle_tree least v retired = by (chosen v.retired.trees least) refl
  where
    by : (place : Option ℕ) → chosen v.retired.trees least ≡ place
        → (number_of place (length v.trees) ≡ length v.trees) ⊎ ((tree_at v.trees (number_of place (length v.trees))).standing ≡ Dead)
    by None none = inl refl
    by (Some t) is = inr (chosen_tree v least t retired is).dead

begins_tree : (least o : ℕ) (key : Bytes) (old new : ArenaView) (before after : Walk) → AreRetired old.nodes old.trees old.retired → IsMakeLayer least o key old new before after
    → BeginsTree o old new before after
begins_tree least o key old new before after retired b =
    let same : b.kept.tree ≡ tree_number least old = same_Link b.kept.tree (tree_number least old) (sym b.kept.makes.taken ∙ ap (λ (w : Walk). w.taken) b.walk) in
    record {
      tree = tree_number least old;
      idle = idle_tree least old retired;
      made = subst (λ t. (tree_at new.trees t).standing ≡ Made o) same b.kept.makes.layer.layer.mine;
      goes = b.walk;
    }
  where
    same_Link : (t u : ℕ) → ◌≡◌ {A = Taken} (LinkTaken t) (LinkTaken u) → t ≡ u
    same_Link t u e = cc

pub layer_leads : (p : Phase) → IsLayerPhase p → (least o : ℕ) (key : Bytes) (old new : ArenaView) (before after : Walk) → AreRetired old.nodes old.trees old.retired
    → IsLayerFrom p least o key old new before after → (step : ℕ) (told : Option Outcome) (s : SplitsView) (rem : Removal) (g : ScanStep) → LeadsTo p old new o step key told s rem g before after
layer_leads MakeLayer i least o key old new before after retired b step told s rem g = inl (begins_tree least o key old new before after retired b)
layer_leads MarkUnstable i least o key old new before after retired b step told s rem g = b.walk
layer_leads Link i least o key old new before after retired b step told s rem g = b.walk
layer_leads MarkLayer i least o key old new before after retired b step told s rem g = b.walk
layer_leads _ i least o key old new before after retired b step told s rem g = absurd i

-- what is kept then
kept_next : (p : Phase) → IsLayerPhase p → (least o : ℕ) (key : Bytes) (old new : ArenaView) (before after : Walk) → KeptLayer p old o key before
    → IsLayerFrom p least o key old new before after → KeptLayer (layer_next p) new o key after
kept_next MakeLayer i least o key old new before after kept b = b.kept
kept_next MarkUnstable i least o key old new before after kept b = b.kept key kept
kept_next Link i least o key old new before after kept b = b.kept key kept
kept_next MarkLayer i least o key old new before after kept b = b.kept key kept
kept_next _ i least o key old new before after kept b = absurd i

next_follows : (p : Phase) → IsLayerPhase p → MayFollow p (layer_next p) × (layer_next p ≢ Done)
next_follows MakeLayer i = (tt, λ e. absurd (cc))
next_follows MarkUnstable i = (tt, λ e. absurd (cc))
next_follows Link i = (tt, λ e. absurd (cc))
next_follows MarkLayer i = (tt, λ e. absurd (cc))
next_follows _ i = absurd i

pub builds_by : (p : Phase) → IsLayerPhase p → (least o : ℕ) (key : Bytes) (old new : ArenaView) (before after : Walk) → before.phase ≡ p
    → AreRetired old.nodes old.trees old.retired → AreForgotten least old → KeptLayer p old o key before → IsLayerFrom p least o key old new before after
    → BuildsLayer least o old new key before after
builds_by p i least o key old new before after at_p retired forgotten kept b =
    let leaves = layer_leaves p i least o key old new before after retired forgotten kept b in
    let on = layer_makes p i least o key old new before after b in
    let goes = layer_goes p i least o key old new before after b in
    let next = next_follows p i in
    record {
      steps = on.steps;
      contents = on.contents;
      touches = λ op is. subst (λ (q : Phase). AreTouched q op o old new.nodes) (sym (is ∙ at_p)) (layer_touched op o old new p i least key before after retired forgotten kept b);
      stamps = on.stamps;
      versions = versions least o old new leaves;
      deleted = deleted least o old new leaves;
      retired = leaves.retired;
      follows = subst (λ (q : Phase). MayFollow q after.phase) (sym at_p) (subst (MayFollow p) (sym goes.at) next.0);
      on = λ done. next.1 (sym goes.at ∙ done);
      same = on.same;
      here = goes.here;
      kept = subst (λ (q : Phase). KeptLayer q new o key after) (sym goes.at) (kept_next p i least o key old new before after kept b);
      holds = on.holds;
      makes = leaves.makes;
      last = leaves.last;
      takes = takes least o old new leaves;
    }
