-- That a step after which its operation is to be stepped again shows what the next one does, for a desk's `step`.
use Rattle.std.proofs.Common.{◌≡◌, ℕ, IsSome, false, Option, Some, refl, sym, subst}
use Rattle.mt_operation.specs.{declared.phase.Phase.Phase, declared.phase.Phase.TheVariants.Done, Operations.OperationView, Phases.{is_done, IsToGrow}}
use Rattle.mt_state.specs.{declared.moves.Move.Move, declared.moves.Move.TheVariants.{Moved, Again, NoMemory}, Views.{StateView, Shown, op_at}, Promises.Tells}
use Rattle.mt_core.{specs.Shows.{next_phase, phase_at, phase_in}, proofs.AloneRuns.stepped}
use Rattle.mt_book.specs.Periods.{ShowsNext}

-- an operation with a step left has a next phase
phase_left : (p : Phase) → is_done p ≡ false → IsSome (next_phase p)
phase_left Done left = absurd (cc)
phase_left _ left = refl

grows_left : (p : Phase) → IsToGrow p → is_done p ≡ false
grows_left Done grows = absurd grows
grows_left _ grows = refl

-- so one that is in the table shows it
shown_left : (table : Shown) (o : ℕ) (op : OperationView) → op_at table o ≡ Some op → is_done op.phase ≡ false → IsSome (phase_at table o)
shown_left table o op there left = subst (λ (w : Option OperationView). IsSome (phase_in w)) (sym there) (phase_left op.phase left)

next_shown : (old new : StateView) (o : ℕ) (made : Move) → Tells old new o made → ShowsNext made (phase_at new.table o)
next_shown old new o Moved s = shown_left new.table o s.after (stepped old new o false s) (sym s.ends)
next_shown old new o (Again holder) t = subst (λ (v : StateView). IsSome (phase_at v.table o)) (sym t.0) (shown_left old.table o t.1.0 t.1.1 t.1.2)
next_shown old new o NoMemory t =
    subst (λ (v : StateView). IsSome (phase_at v.table o)) (sym t.0) (shown_left old.table o t.1.op t.1.there (grows_left t.1.op.phase t.1.grows))
next_shown old new o _ t = tt

pub shows_next : (old new : StateView) (o : ℕ) (made : Move) (next : Option Phase) → Tells old new o made → next ≡ phase_at new.table o → ShowsNext made next
shows_next old new o made next t is = subst (ShowsNext made) (sym is) (next_shown old new o made t)
