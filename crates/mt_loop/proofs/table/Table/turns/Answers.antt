use Rattle.std.proofs.Common.{ℕ, sym, subst, ◌∙◌}
use Rattle.mt_loop.specs.{Deeds.{Led}, Tables.{Beginning, HaveSessions, AreQueued}}
use Rattle.mt_loop.specs.declared.{sharing.Shared.Shared, table.Table.Table}
use Rattle.mt_loop.proofs.{Deeds.led_then, Settles.queued_turn}
use Rattle.mt_loop.proofs.table.Table.turns.Goals.{in-Some, in_default}
use Rattle.mt_loop.proofs.table.Table.turns.Goals as goal

pub loop-preserved : goal.loop-preserved
loop-preserved g c =
    let old = c.args.caller.now.caller in
    let next = c.match-pop_front in
    let Now = λ (beginnings : ℕ → Beginning g.row.C.Denot) (table : Table g.row.S.Denot) (caller : Shared g.row.C.Denot). HaveSessions g.C.Caller.exchanges g.C.Sharing.resumes g.C.Sharing.opened g.S.Stream.remaining g.S.Stream.contents beginnings table caller.caller in
    let LedTo = λ (caller : Shared g.row.C.Denot). Led g.C.Caller.exchanges g.C.Sharing.resumes old caller.caller in
    elim c.match-pop_front.branch [
      | in-Some w ↦ record {
        sessions = λ beginnings have. subst (λ x. Now beginnings x next.caller) (sym w.self-is) (subst (λ x. Now beginnings w.turn.new.self x) (sym w.caller-is) (w.turn.ensures.sessions beginnings (c.loop.invariant.sessions beginnings have)));
        queued = λ queued. subst AreQueued (sym w.self-is) (queued_turn c.loop.self w.turn.new.self c.pop_front.new.self.items w.in-Some.key (rw w.in-Some.is at c.pop_front.ensures.items) w.turn.ensures.others w.turn.ensures.queued w.turn.ensures.awaits w.turn.ensures.settling (c.loop.invariant.queued queued));
        led = subst LedTo (sym w.caller-is) (led_then g.C.Caller.exchanges g.C.Sharing.resumes old c.loop.caller.caller w.turn.new.caller.caller c.loop.invariant.led w.turn.ensures.led);
      }
      | in_default w ↦ record {
        sessions = λ beginnings have. subst (λ x. Now beginnings x next.caller) (sym w.self-is) (subst (λ x. Now beginnings (record c.loop.self { queue = c.pop_front.new.self }) x) (sym w.caller-is) (c.loop.invariant.sessions beginnings have));
        queued = λ queued. subst AreQueued (sym w.self-is) (λ key entry at a. let ((before, after, i), f) = c.loop.invariant.queued queued key entry at a in ((before, after, sym (rw w.in_default.is at c.pop_front.ensures.items) ∙ i), f));
        led = subst LedTo (sym w.caller-is) c.loop.invariant.led;
      }
    ]
