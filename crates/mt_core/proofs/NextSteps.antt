-- The operation whose next step is made, by its phase: for `step`.
use Rattle.std.{proofs.{Common.{◌≡◌, ℕ, false, Option, Some, None, refl, sym, subst, ◌∙◌}, lemmas.Option.same_Some}, specs.Option.option_map}
use Rattle.mt_operation.specs.{declared.phase.Phase.Phase, declared.phase.Phase.TheVariants.Done, declared.operation.Operation.Operation, Operations.view_of}
use Rattle.mt_operation.specs.{Phases.is_done, Tables.{op_at as operation_at}}
use Rattle.mt_state.{specs.{Views.{Core, shown}, Promises.HasStep}, proofs.Shown.shown_there}
use Rattle.mt_core.specs.Shows.{next_phase, phase_in}

-- an operation that has a next phase has a step left
next_of : (p phase : Phase) → next_phase p ≡ Some phase → (p ≡ phase) × (is_done p ≡ false)
next_of Done phase e = absurd (cc)
next_of p phase e = (same_Some _ _ e, refl)

-- the operation that is there, at its next phase
abbrev IsThere : Option Operation → Phase → Type 0
IsThere w phase = (op : Operation) × (w ≡ Some op) × (op.walk.phase ≡ phase) × (is_done op.walk.phase ≡ false)

next_in : (w : Option Operation) (phase : Phase) → phase_in (option_map view_of w) ≡ Some phase → IsThere w phase
next_in None phase e = absurd (cc)
next_in (Some op) phase e = let n = next_of op.walk.phase phase e in (op, refl, n.0, n.1)

module _ (c now : Core) (o : ℕ) (is : c ≡ now) (found : Option Phase) (phase : Phase)
    (finds : found ≡ phase_in (option_map view_of (operation_at c.table o))) (has : found ≡ Some phase) where
  next : IsThere (operation_at now.table o) phase
  next = subst (λ (v : Core). IsThere (operation_at v.table o) phase) is (next_in (operation_at c.table o) phase (sym finds ∙ has))

  -- it has a step left
  pub next_left : HasStep (shown now) o
  next_left = (view_of next.0, shown_there now.table o next.0 next.1, next.3)
