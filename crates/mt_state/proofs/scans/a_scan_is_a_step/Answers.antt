use Rattle.std.proofs.Common.{inl, inr, sym, subst, ◌+◌, true, false, Some}
use Rattle.mt_operation.specs.declared.task.Task.{Task}
use Rattle.mt_rows.specs.declared.reply.Reply.TheVariants.{Pairs, NoMemory}
use Rattle.mt_state.specs.{Views.shown, Writes.scanned}
use Rattle.mt_state.proofs.{Telling.Gives, ScanLooks.{snap_done, snap_stopped, hop_done}, ScanChecks.{check_keeps, check_ends, check_drops, check_stopped}}
use Rattle.mt_state.proofs.scans.a_scan_is_a_step.Goals as goal

pub returns-clause-snaps : goal.returns-clause-snaps
returns-clause-snaps c = λ core o op w scan h arena few there at_snap s kept.
    let g = snap_done core o h few op there at_snap arena w scan s kept in record { invariant = g.0; step = g.1 }

pub returns-clause-keeps : goal.returns-clause-keeps
returns-clause-keeps c = λ core o op from after count columns task w scan h few there at_check asks check still same hops kept.
    let g = subst (λ (t : Task). Gives (shown core) (scanned core o op t w scan op.outcome) o false) (sym still.asked)
    (check_keeps core o h few op there at_check from after count columns asks task.key still.stored w scan same check hops kept) in
    record { invariant = g.0; step = g.1 }

pub returns-clause-ends : goal.returns-clause-ends
returns-clause-ends c = λ core o op from after count columns task w scan left h few there at_check asks check still same ends.
    let g = subst (λ (t : Task). Gives (shown core) (scanned core o op t w left (Some (record { reply = Pairs scan.collected.items; at = core.steps + 1 }))) o true) (sym still.asked)
    (check_ends core o h few op there at_check from after count columns asks task.key still.stored w scan same check left ends) in
    record { invariant = g.0; step = g.1 }

pub returns-clause-drops : goal.returns-clause-drops
returns-clause-drops c = λ core o op from after count columns task w scan h few there at_check asks check still same no_hop no_end kept.
    let g = subst (λ (t : Task). Gives (shown core) (scanned core o op t w scan op.outcome) o false) (sym still.asked)
    (check_drops core o h few op there at_check from after count columns asks task.key still.stored w scan same check no_hop no_end kept) in
    record { invariant = g.0; step = g.1 }

pub returns-clause-hops : goal.returns-clause-hops
returns-clause-hops c = λ core o op w h arena few there at_hop goes same kept.
    let g = hop_done core o h few op there at_hop arena w goes same kept in record { invariant = g.0; step = g.1 }

pub returns-clause-stops : goal.returns-clause-stops
returns-clause-stops c = λ core o op task w left h few there at still tenant done same.
    let g = subst (λ (t : Task). Gives (shown core) (scanned core o op t w left (Some (record { reply = NoMemory; at = core.steps + 1 }))) o true) (sym still.asked)
    (elim at [
      | inl at_snap ↦ snap_stopped core o h few op there at_snap task.key still.stored tenant w left done same
      | inr at_check ↦ check_stopped core o h few op there at_check task.key still.stored tenant w left done same
    ]) in
    record { invariant = g.0; step = g.1 }
