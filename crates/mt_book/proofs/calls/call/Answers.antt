use Rattle.std.proofs.Common.{refl}
use Rattle.mt_book.{specs.Calls.asked_by, proofs.Gating.ungated}
use Rattle.mt_book.proofs.calls.call.Goals as goal

pub returns-clause-gated : goal.returns-clause-gated
returns-clause-gated g c = c.ran-told.ensures.gated (asked_by c.args.pass.now.worker c.args.tenant c.args.command) refl
    (record { tenant_is = c.prepare_in-opening.ensures.tenant; made = c.prepare_in-opening.ensures.made; refused = c.prepare_in-opening.ensures.refused })

pub returns-clause-periods : goal.returns-clause-periods
returns-clause-periods g c =
    ungated (g.G.Gate.turned c.args.gate.now) g.D.Desk.does c.args.desk.now c.ran-told.new.desk c.args.pass.now.seen (asked_by c.args.pass.now.worker c.args.tenant c.args.command) c.ran-told.result (returns-clause-gated g c)
