-- a new state is put the pairs, keeps the logs and counts anew
use Rattle.std.proofs.Common.{◌≡◌, ℕ, None, sym, ap, subst, ◌∙◌}
use Rattle.mt_rows.specs.TenantPairs.{pairs_of, KeepsQuotas}
use Rattle.mt_border.specs.Restamps.{new_stamp}
use Rattle.mt_arena.specs.Arena.{IsArena, content_of}
use Rattle.mt_operation.specs.Tables.{op_at as operation_at}
use Rattle.mt_state.{specs.{Views.{Core, StateView, shown, contents_of, granted}, Invariant.StateInvariant}, proofs.HistoryStart.content-new}
use Rattle.mt_core.{specs.Renumbers.{AreGivenUpto, core_renumbered}, proofs.Restoring.{idle_inside, given_upto, is_restored}}
use Rattle.mt_core.proofs.restore.restored.Goals as goal

pub put_all-requires-clause-fresh : goal.put_all-requires-clause-fresh
put_all-requires-clause-fresh c = ap contents_of c.in_ok-inner.ensures ∙ content-new

pub put_all-requires-clause-quotas : goal.put_all-requires-clause-quotas
put_all-requires-clause-quotas c = subst (λ (v : StateView). KeepsQuotas (granted v) (pairs_of c.args.pairs.items)) (sym c.in_ok-inner.ensures) c.requires.quotas

pub renumber-requires-clause-idle : goal.renumber-requires-clause-idle
renumber-requires-clause-idle c =
    subst (λ (core : Core). (o : ℕ) → operation_at core.table o ≡ None) (sym c.in_ok-keep_logs.ensures) (idle_inside c.put_all.new.inner.table c.in_ok-stamps.ensures.idle)

pub renumber-requires-clause-stamps : goal.renumber-requires-clause-stamps
renumber-requires-clause-stamps c =
    subst (λ (core : Core). AreGivenUpto c.args.steps (new_stamp c.in_ok-stamps.stamps) (content_of core.arena)) (sym c.in_ok-keep_logs.ensures)
    (given_upto c.args.steps (new_stamp c.in_ok-stamps.stamps) (contents_of (shown c.put_all.new.inner)) c.args.pairs.items c.requires.stamps c.in_ok-stamps.ensures.contents)

pub returns : goal.returns
returns c =
    let is = c.in_ok-keep_logs.ensures in
    is_restored c.args.steps c.args.logs c.args.tenants c.args.pairs.items c.in_ok-stamps.stamps (shown c.in_ok-inner.inner) c.put_all.new.inner c.in_ok-inner.ensures
    c.in_ok-stamps.ensures (subst StateInvariant is c.kept.ensures.invariant) (subst (λ (core : Core). IsArena core.arena.nodes core.arena.trees) is c.kept.ensures.arena) c.renumber.new.self
    (c.renumber.ensures ∙ ap (core_renumbered c.args.steps (new_stamp c.in_ok-stamps.stamps)) is)
