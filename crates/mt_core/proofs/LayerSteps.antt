-- The steps of an operation that makes a layer, and that they bring it on: for `Inner::build` and `leave`.
use Rattle.std.proofs.Common.{List, None, Option, Some, [], ap, arith, false, inl, inr, length, refl, set, subst, sym, true, ℕ, ◌+◌, ◌<◌, ◌∙◌, ◌∷◌, ◌≡◌, ◌≤◌}
use Rattle.std.proofs.lemmas.Bool.{cases_lt, both_ways}
use Rattle.std.specs.Prelude.{min, ◌*◌, ◌^◌}
use Rattle.mt_slices.specs.Keys.{IsStoredKey}
use Rattle.mt_rows.specs.{declared.reply.Reply.TheVariants.NoMemory, Rows.Bytes}
use Rattle.mt_arena.specs.{NodeView.NodeView, Edits.unlocked, Arena.{ArenaView, IsArena}, Accesses.at, Idle.AreRetired, Given.AreForgotten}
use Rattle.mt_operation.proofs.Phases.{by_layer}
use Rattle.mt_operation.specs.{declared.phase.Phase.Phase, declared.phase.Phase.TheVariants.{Enter, Link, MakeLayer, MarkLayer, MarkUnstable, Unlock}}
use Rattle.mt_operation.specs.{declared.walk.Walk.Walk, declared.splits.Halves.Halves, declared.splits.Splits.Splits, declared.outcome.Outcome.Outcome}
use Rattle.mt_operation.specs.{declared.operation.Operation.Operation, Operations.{moved, noted, splits_of}, Phases.{IsLayerPhase, IsOfKind}}
use Rattle.mt_operation.specs.{Tables.{Table, IsLeastBirth, op_at as operation_at}, declared.walk.Aim.Aim}
use Rattle.mt_descent.specs.{KeptWalks.walk_place, WalkMoves.walk_into}
use Rattle.mt_held.specs.Unlock.{GoesInto, IsUnlock}
use Rattle.mt_layer.specs.{KeptLayers.{IsAtLeave, KeptLayer}, Builds.{IsLayerFrom, IsLeave}}
use Rattle.mt_state.specs.{declared.moves.Move.TheVariants.{Moved, Done as DoneMove}, Views.{Core, StateView, shown}, KeptBack.ArenaFacts, Invariant.StateInvariant}
use Rattle.mt_state.specs.{KeptOperations.{IsKeptAt, IsLeaving, IsReturning}, Phases.{GoesFromUnlock, LeadsTo}}
use Rattle.mt_state.proofs.{Giving.are_forgotten, OneNode.replaced_all, Needs.{layer_kept, leave_kept}, Telling.Gives, LayerSteps.{build_done, leave_done, make_stopped}}
use Rattle.mt_state.proofs.LayerNodes.{LeavesNodes, layer_makes, layer_goes, layer_leads, layer_leaves, layer_next}
use Rattle.mt_core.specs.Budgets.{AreBelow, IsLiveTree, above, astray, before_unlock}
use Rattle.mt_core.specs.Points.{HasMade, HasRemoved, IsFreeOfOthers, IsRemovalAt, IsAtPoint, MayHaveGrown, Nears, StepsOn}
use Rattle.mt_core.proofs.{Following.{IsSound, sound_by, IsOver, made, write_no_scan}, Leading.{no_step, leads_over}, LookPoints.{next_layer, shallow_below}}
use Rattle.mt_core.proofs.Points.{below_at, few_at, free_from, free_on, nears_by, rounds_at, point_at, point_first}
use Rattle.mt_arena.proofs.OneLink as OneLink
use Rattle.mt_operation.specs.declared.walk.Aim.TheVariants as aims

module _ (least o : ℕ) (old new : ArenaView) (l : LeavesNodes least o old new) where
  -- all nodes stand below a level where one did
  stays_below : (height : ℕ) → 0 < height → AreBelow old height → AreBelow new height
  stays_below height some below k within live = elim (cases_lt k (length old.nodes)) [
    | inl was ↦ elim (l.each k was) [
      | inl n ↦ omega (arith, n.level, below k was (sym n.deleted ∙ live))
      | inr root ↦ omega (arith, root.level, some)
    ]
    | inr late ↦ omega (arith, (l.fresh k late within).level, some)
  ]

-- no root was made before a step of a layer
layer_ungrown : (p : Phase) → IsLayerPhase p → (halves : List Halves) → ¬ MayHaveGrown p halves
layer_ungrown Unlock i halves grown = i
layer_ungrown _ i halves grown = grown

-- the number of steps after it
layer_made : (p : Phase) → IsLayerPhase p → (old new : ArenaView) (before after : Walk) (s : Splits) (height n : ℕ)
    → above height after ≡ above height before → HasMade p height n old before s → HasMade (layer_next p) height (n + 1) new after s
layer_made MakeLayer i old new before after s height n alike few = omega (arith, alike, few)
layer_made MarkUnstable i old new before after s height n alike few = omega (arith, alike, few)
layer_made Link i old new before after s height n alike few = omega (arith, alike, few)
layer_made MarkLayer i old new before after s height n alike few = by s.halves.items
  where
    by : (halves : List Halves) → n + 1 ≤ above height after + before_unlock halves height
    by [] = omega (arith, alike, few)
    by (half ∷ halves) = omega (arith, alike, few)
layer_made _ i old new before after s height n alike few = absurd i

-- so it comes nearer
layer_nears : (p : Phase) → IsLayerPhase p → (least o : ℕ) (key : Bytes) (old new : ArenaView) (before after : Walk) (s : Splits) → before.phase ≡ p
    → before.place.node < length old.nodes → (at old before.place.node).version.deleted ≡ false → AreRetired old.nodes old.trees old.retired → AreForgotten least old
    → KeptLayer p old o key before → IsLayerFrom p least o key old new before after
    → (height n : ℕ) → IsAtPoint height n old before s → IsAtPoint height (n + 1) new after s
layer_nears p i least o key old new before after s at_p within live retired forgotten kept b height n point =
    let goes = layer_goes p i least o key old new before after b in
    let below : AreBelow old height = below_at height n old before s p at_p (layer_ungrown p i s.halves.items) point in
    let some : 0 < height = omega (arith, below before.place.node within live) in
    point_at height (n + 1) new after s (layer_next p) goes.at (λ other. stays_below least o old new (layer_leaves p i least o key old new before after retired forgotten kept b) height some below)
    (layer_made p i old new before after s height n (ap (λ l. astray height + min l 31 * (3 * height + 12)) goes.layer) (few_at height n old before s p at_p point))

-- the node of an operation that makes a layer is there
layer_there : (p : Phase) → IsLayerPhase p → (v : ArenaView) (o : ℕ) (key : Bytes) (w : Walk) → KeptLayer p v o key w → w.place.node < length v.nodes
layer_there MakeLayer i v o key w kept = kept.holds.judged.held.there
layer_there MarkUnstable i v o key w kept = kept.makes.layer.slot.held.there
layer_there Link i v o key w kept = kept.makes.layer.slot.held.there
layer_there MarkLayer i v o key w kept = kept.makes.layer.slot.held.there
layer_there _ i v o key w kept = absurd i

-- and live
layer_live : (p : Phase) → IsLayerPhase p → (v : ArenaView) (o : ℕ) (key : Bytes) (w : Walk) → KeptLayer p v o key w → (at v w.place.node).version.deleted ≡ false
layer_live MakeLayer i v o key w kept = kept.holds.judged.stands.live
layer_live MarkUnstable i v o key w kept = kept.makes.layer.slot.live
layer_live Link i v o key w kept = kept.makes.layer.slot.live
layer_live MarkLayer i v o key w kept = kept.makes.layer.slot.live
layer_live _ i v o key w kept = absurd i

-- no removal makes a layer
-- and none but a put makes one
layer_writes : (p : Phase) → IsLayerPhase p → (aim : Aim) → IsOfKind p aim → aim ≡ aims.Write
layer_writes p i aim = by_layer (λ p. IsOfKind p aim → aim ≡ aims.Write) (λ k. k) (λ k. k) (λ k. k) (λ k. k) p i

layer_none : (p : Phase) → IsLayerPhase p → (height round made : ℕ) (v : ArenaView) (w : Walk) → HasRemoved p height round made v w → ⊥
layer_none p i height round made v w = by_layer (λ p. HasRemoved p height round made v w → ⊥) (λ k. k) (λ k. k) (λ k. k) (λ k. k) p i

-- what an operation that leaves its layer has made until then
unsplit_few : (halves : List Halves) (n height rest : ℕ) → halves ≡ [] → n ≤ rest + before_unlock halves height → n ≤ rest + (3 * height + 7)
unsplit_few halves n height rest none few = subst (λ (hs : List Halves). n ≤ rest + before_unlock hs height) none few

module _ (c now : Core) (o : ℕ) (is : c ≡ now) (h : StateInvariant c) (few : now.steps < 2 ^ 59) (x : Operation) (there : operation_at c.table o ≡ Some x) where
  gives_now : (new : Core) (done : _) → Gives (shown c) new o done → Gives (shown now) new o done
  gives_now new done = subst (λ (v : StateView). Gives v new o done) (ap shown is)

  few_inside : c.steps < 2 ^ 59
  few_inside = subst (λ (v : Core). v.steps < 2 ^ 59) (sym is) few

  steps_on : (arena : ArenaView) (w : Walk) (table : Table) → IsOver c.table table o (moved x (c.steps + 1) w) → (IsFreeOfOthers c.arena o → IsFreeOfOthers arena o)
      → ((height n : ℕ) → IsAtPoint height n c.arena x.walk x.splits → IsAtPoint height (n + 1) arena w x.splits)
      → ((height n : ℕ) → IsRemovalAt height n c.arena x.walk x.outcome x.removal → ⊥)
      → ((aim : Aim) → IsOfKind x.walk.phase aim → aim ≡ aims.Write)
      → LeadsTo x.walk.phase c.arena arena o (c.steps + 1) x.task.key x.outcome (splits_of x.splits) x.removal (no_step x) x.walk w
      → Gives (shown c) (made c arena c.tape c.accounts (set c.table o (Some (moved x (c.steps + 1) w)))) o false
      → IsSound c.arena (made c arena c.tape c.accounts table) × StepsOn now (made c arena c.tape c.accounts table) o Moved
  steps_on arena w table over frees brings none write leads g =
      let after = moved x (c.steps + 1) w in
      let new = made c arena c.tape c.accounts table in
      let told : Gives (shown now) new o false = gives_now new false (subst (λ (all : Table). Gives (shown c) (made c arena c.tape c.accounts all) o false) (sym over.is) g) in (
        sound_by c now new o false is told,
        record {
          tells = told.1;
          nears = subst (λ (v : Core). Nears v new o Moved) is
              (nears_by c new o x after there over.there frees refl (λ height n point. point_first height (n + 1) arena w x.splits after.walk.first (brings height n point)) (λ removes height n r. absurd (none height n r))
              (λ scans. absurd (both_ways _ (write_no_scan c o h x there x.walk.phase refl write) scans)));
          leads = leads_over c o h x there x.walk.phase refl now is arena c.tape c.accounts table after over w leads refl refl;
        },
      )

  -- a layer that came one step nearer
  pub build_made : ArenaFacts c.arena → IsLayerPhase x.walk.phase → (arena : ArenaView) (w : Walk) (table : Table) (least : ℕ) → IsLeastBirth c.table c.steps least
      → IsLayerFrom x.walk.phase least o x.task.key c.arena arena x.walk w
      → IsOver c.table table o (moved x (c.steps + 1) w) → IsSound c.arena (made c arena c.tape c.accounts table) × StepsOn now (made c arena c.tape c.accounts table) o Moved
  build_made facts layer arena w table least is_least b over =
      let p = x.walk.phase in
      let kept = layer_kept c o h x there p refl layer in
      steps_on arena w table over (free_from least o c.arena arena (layer_makes p layer least o x.task.key c.arena arena x.walk w b).steps)
      (λ height n. layer_nears p layer least o x.task.key c.arena arena x.walk w x.splits refl (layer_there p layer c.arena o x.task.key x.walk kept) (layer_live p layer c.arena o x.task.key x.walk kept) facts.retired (are_forgotten c h facts least is_least.below) kept b height n)
      (λ height n r. layer_none p layer height r.round n c.arena x.walk r.few) (layer_writes p layer)
      (layer_leads p layer least o x.task.key c.arena arena x.walk w facts.retired b (c.steps + 1) x.outcome (splits_of x.splits) x.removal (no_step x))
      (build_done c o h few_inside x there arena w least facts is_least layer b)

  -- no memory for it
  pub stop_made : (arena : ArenaView) (w : Walk) (table : Table) → x.walk.phase ≡ MakeLayer → IsUnlock o c.arena arena x.walk w
      → IsOver c.table table o (noted (moved x (c.steps + 1) w) (Some (record { reply = NoMemory; at = c.steps + 1 })))
      → IsSound c.arena (made c arena c.tape c.accounts table) × StepsOn now (made c arena c.tape c.accounts table) o DoneMove
  stop_made arena w table at_make t over =
      let new = made c arena c.tape c.accounts table in
      let told : Gives (shown now) new o true = gives_now new true (subst (λ (all : Table). Gives (shown c) (made c arena c.tape c.accounts all) o true) (sym over.is) (make_stopped c o h few_inside x there at_make arena w t)) in (
        sound_by c now new o true is told,
        record { tells = told.1; nears = tt; leads = leads_over c o h x there MakeLayer at_make now is arena c.tape c.accounts table _ over w (inr t.walk) refl refl },
      )

  -- one that leaves its layer has split nothing
  unsplit : x.walk.phase ≡ Unlock → x.outcome ≡ None → x.splits.halves.items ≡ []
  unsplit at_unlock untold =
      let leaving : IsLeaving c o x = subst (λ (told : Option Outcome). IsReturning told c o x) untold (subst (λ (p : Phase). IsKeptAt p c o x) at_unlock (h.ops o x there).kept) in
      leaving.unsplit.halves

  -- its lock was given back, and it goes on in the tree of the next layer
  pub leave_made : IsArena c.arena.nodes c.arena.trees → x.walk.phase ≡ Unlock → x.outcome ≡ None
      → (arena : ArenaView) (w : Walk) (table : Table) → IsLeave o c.arena arena x.walk w → IsOver c.table table o (moved x (c.steps + 1) w)
      → IsSound c.arena (made c arena c.tape c.accounts table) × StepsOn now (made c arena c.tape c.accounts table) o Moved
  leave_made is_arena at_unlock untold arena w table t over = steps_on arena w table over (free_on o c.arena arena g.keeps.guarantee) brings
      (λ height n r. (rounds_at height n c.arena x.walk x.outcome x.removal Unlock at_unlock r).1 untold)
      (λ aim. subst (λ (p : Phase). IsOfKind p aim → aim ≡ aims.Write) (sym at_unlock) (λ kind. kind)) leads
      (leave_done c o h few_inside x there at_unlock untold arena w t)
    where
      leaves : IsAtLeave c.arena o x.task.key x.walk
      leaves = leave_kept c o h x there at_unlock untold

      g : GoesInto o leaves.tree c.arena arena x.walk w
      g = t.goes leaves.tree leaves.taken

      leads : LeadsTo x.walk.phase c.arena arena o (c.steps + 1) x.task.key x.outcome (splits_of x.splits) x.removal (no_step x) x.walk w
      leads = subst (λ (p : Phase). LeadsTo p c.arena arena o (c.steps + 1) x.task.key x.outcome (splits_of x.splits) x.removal (no_step x) x.walk w) (sym at_unlock)
          (subst (λ (told : Option Outcome). GoesFromUnlock told c.arena (splits_of x.splits) x.removal x.walk w) (sym untold) (leaves.tree, leaves.taken, g.walk))

      k : ℕ
      k = x.walk.place.node

      live : IsLiveTree arena leaves.tree
      live = subst (λ (v : ArenaView). IsLiveTree v leaves.tree) (sym g.is)
          (OneLink.leads c.arena.nodes c.arena.trees is_arena k (walk_place c.arena x.walk) leaves.tree (record { there = leaves.unlock.held.there; live = leaves.live; in_range = leaves.in_range; is = leaves.link })).live

      none : x.splits.halves.items ≡ []
      none = unsplit at_unlock untold

      stored : IsStoredKey x.task.key
      stored = (h.ops o x there).always.stored

      brings : (height n : ℕ) → IsAtPoint height n c.arena x.walk x.splits → IsAtPoint height (n + 1) arena w x.splits
      brings height n point =
          let within = leaves.unlock.held.there in
          let below : AreBelow c.arena height = below_at height n c.arena x.walk x.splits Unlock at_unlock (λ grown. subst (MayHaveGrown Unlock) none grown) point in
          let few : n ≤ above height x.walk + (3 * height + 7) = unsplit_few x.splits.halves.items n height (above height x.walk) none (few_at height n c.arena x.walk x.splits Unlock at_unlock point) in
          let deeper : n + 1 ≤ astray height + min (x.walk.layer + 1) 31 * (3 * height + 12) = next_layer height x.walk.layer n (shallow_below x.walk.layer x.task.key stored leaves.through.begun) (omega (arith, few)) in
          let stays : AreBelow arena height = subst (λ (v : ArenaView). AreBelow v height) (sym g.is)
          (replaced_all c.arena k within (unlocked (at c.arena k)) (λ (m : NodeView). m.version.deleted ≡ false → m.level < height) (below k within) below) in
          subst (λ (y : Walk). IsAtPoint height (n + 1) arena y x.splits) (sym g.walk)
          (point_at height (n + 1) arena (walk_into x.walk leaves.tree (x.walk.layer + 1)) x.splits Enter refl (λ other. stays) (inl (live, deeper)))
