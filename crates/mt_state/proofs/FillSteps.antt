-- The step of a put that writes its pair into a free slot: it changes no pair.
use Rattle.std.proofs.Common.{◌≡◌, ℕ, ◌+◌, ◌<◌, inl, inr, false, length, Some, refl, sym, ap, subst, ◌∙◌, arith}
use Rattle.std.specs.Prelude.{◌^◌}
use Rattle.mt_arena.specs.{NodeView.NodeView, Edits.with_filled, Arena.{ArenaView, content_of, Guarantee}, Accesses.{at, with_node}}
use Rattle.mt_operation.specs.{declared.phase.Phase.Phase, declared.phase.Phase.TheVariants.{Enter, Fill, Publish}}
use Rattle.mt_operation.specs.{declared.walk.Walk.Walk, declared.prepared.Prepared.Prepared, declared.operation.Operation.Operation, Operations.view_of}
use Rattle.mt_operation.specs.{Phases.{is_done, MayFollow, IsOfKind}, Tables.{op_at as operation_at}}
use Rattle.mt_insert.{specs.{KeptPuts.IsAtPublish, Fill.IsFill}, proofs.Filling.held_ready}
use Rattle.mt_state.specs.{Views.{StateView, Core, shown}, Notes.Notes, Touches.Touches}
use Rattle.mt_state.specs.KeptOperations.{IsOpenOperation, IsFilling, IsPublishing, IsKeptAt}
use Rattle.mt_state.specs.{Invariant.{IsCountedUpTo, HoldsAt, StateInvariant}, KeptBack.IsBackAt}
use Rattle.mt_state.proofs.{Telling.Gives, Quiet.LeavesPairs, Moved.went, Reading.walk_same, Locking.{ready_one, unsplit_at}}
use Rattle.mt_state.proofs.OneNode.{stepped, replaced_holds, replaced_touches, replaced_leaves, holds_here, quiet_gives}
use Rattle.mt_operation.specs.declared.walk.Aim.TheVariants as aims

module _ (c : Core) (now : StateView) (o : ℕ) (is : shown c ≡ now) (h : StateInvariant c) (room : now.steps < 2 ^ 59) (op : Operation) (there : operation_at c.table o ≡ Some op)
    (at_fill : op.walk.phase ≡ Fill) where
  abbrev k : ℕ
  k = op.walk.place.node

  abbrev n : NodeView
  n = at c.arena op.walk.place.node

  always : IsOpenOperation c op
  always = (h.ops o op there).always

  filling : IsFilling c o op
  filling = subst (λ (p : Phase). IsKeptAt p c o op) at_fill (h.ops o op there).kept

  within : k < length c.arena.nodes
  within = filling.fills.holds.judged.held.there

  begun_fill : 0 < op.walk.first
  begun_fill = always.begun (λ enters. absurd (let no : Fill ≡ Enter = sym at_fill ∙ enters in cc))

  fills_on : op.walk.aim ≡ aims.Write
  fills_on = subst (λ (p : Phase). IsOfKind p op.walk.aim) at_fill always.kind

  module _ (prepared rest : Prepared) (arena : ArenaView) (w : Walk) (t : IsFill o op.task prepared rest c.arena arena op.walk w) where
    abbrev y : NodeView
    y = with_filled n (held_ready prepared)

    abbrev after : Operation
    after = went op (c.steps + 1) w op.outcome (Some rest)

    abbrev new : Core
    new = stepped c arena c.tape c.accounts o after

    ends : w.phase ≡ Publish
    ends = ap (λ (x : Walk). x.phase) t.walk

    place : w.place.node ≡ k
    place = ap (λ (x : Walk). x.place.node) t.walk

    counted : IsCountedUpTo (c.steps + 1) y
    counted = let was = h.versions k within in record { inserts = omega (arith, was.inserts); splits = omega (arith, was.splits) }

    leaves : LeavesPairs c o (with_node c.arena k y)
    leaves = replaced_leaves c o h k within y refl refl refl counted (λ held. inl held)
        (subst (Guarantee o c.arena) t.is t.keeps.guarantee) (subst (λ (v : ArenaView). content_of v ≡ content_of c.arena) t.is t.keeps.contents)

    -- it holds its border node alone, as before
    held_alone : (j : ℕ) → j < length (with_node c.arena k y).nodes → (at (with_node c.arena k y) j).holder ≡ Some o → j ≡ k
    held_alone j inside holds = elim (replaced_holds c.arena k within y o j inside holds) [
      | inl same ↦ same.0
      | inr was ↦ holds_here c now o is h room op there Fill at_fill j was.0 was.1
    ]

    own : IsPublishing new o after
    own = record {
      prepared = rest;
      has = refl;
      publishes = subst (IsAtPublish arena o op.task rest) (sym (walk_same c op always w begun_fill t.keeps.same.first)) t.kept;
      put = filling.put;
      untold = filling.untold;
    }

    pub fill_done : Gives now new o false
    fill_done =
        quiet_gives c now o is h room op there arena c.tape.reserved w op.outcome (Some rest)
        (subst (LeavesPairs c o) (sym t.is) leaves) (ap is_done at_fill)
        (subst (λ (p : Phase). MayFollow p w.phase) (sym at_fill) (subst (MayFollow Fill) (sym ends) tt))
        t.keeps.same.aim (subst (λ (p : Phase). IsOfKind p w.aim) (sym ends) (t.keeps.same.aim ∙ fills_on)) refl
        (subst (λ (p : Phase). Notes (shown c) (view_of op) p w.phase op.outcome) (sym at_fill)
        (subst (λ (p : Phase). Notes (shown c) (view_of op) Fill p op.outcome) (sym ends) (filling.untold, filling.untold)))
        (λ j inside holds. subst (λ (p : Phase). HoldsAt p after j) (sym ends) (held_alone j (subst (λ (v : ArenaView). j < length v.nodes) t.is inside) (subst (λ (v : ArenaView). (at v j).holder ≡ Some o) t.is holds) ∙ sym place))
        (subst (λ (p : Phase). IsKeptAt p new o after) (sym ends) own)
        (λ facts. subst (λ (p : Phase). IsBackAt p arena after) (sym ends) tt)
        (unsplit_at c now o is h room op there Fill at_fill refl)
        (let one = ready_one op Fill at_fill refl in let also = ready_one after Publish ends refl in omega (arith, one, also))
        (subst (Touches (view_of op) o c.arena) (sym t.is) (replaced_touches c.arena k within y (view_of op) o (inl filling.fills.holds.judged.held.holder)))
        false (sym (ap is_done ends))
