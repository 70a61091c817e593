use Rattle.std.proofs.Common.{◌≡◌, ◌<◌, ℕ, false, [], get_or, length, drop, inr, refl, sym, subst, ◌∙◌, arith}
use Rattle.std.specs.VecDeque.{deque_len}
use Rattle.std.proofs.Math.ListN.{drop_of_length-le}
use Rattle.mt_wire.specs.Replies.{reply_spelling}
use Rattle.mt_caller.specs.Exchanges.{Settles}
use Rattle.mt_loop.specs.{Deeds.{ButSettles}}
use Rattle.mt_loop.proofs.{Deeds.{led_none, led_then, led_exchange, led_any}, Settles.{none_told, picked, not_picked, way_begins, way_goes_on, await_goes_on, way_ends, await_ends}}
use Rattle.mt_loop.proofs.table.Table.settle.Goals.{in-Some, in_default}
use Rattle.mt_loop.proofs.table.Table.settle.Goals as goal

pub loop-index-init : goal.loop-index-init
loop-index-init g c = record {
  sessions = λ beginnings have.
      none_told g.C.Caller.exchanges g.C.Sharing.resumes g.C.Sharing.opened g.S.Stream.remaining g.S.Stream.contents beginnings c.args.self.now c.args.caller.now.caller c.settle.new.self c.settle.result c.settle.ensures have;
  led = led_none (ButSettles g.C.Caller.exchanges) g.C.Sharing.resumes c.settle.new.self;
  way = λ queued. way_begins (reply_spelling c.settled-reply.result) c.args.self.now (record c.args.self.now { is_settling = false }) refl queued;
  queue = refl;
}

pub loop-index-preserved : goal.loop-index-preserved
loop-index-preserved g c =
    let old = c.args.self.now in
    let keys = old.queue.items in
    let index = c.loop-index.index in
    let same = c.loop-index.invariant.queue in
    let few : index < length keys = omega (arith, c.loop-index-test.true, c.len-index-end.ensures, old.queue.ok.0) in
    let from = c.args.caller.now.caller in
    let mid = c.settle.new.self in
    let now = c.loop-index.caller.caller in
    elim c.match-copied.branch [
      | in-Some w ↦ (
          let key = w.in-Some.key in
          let told = w.tell_settled.ensures in
          let is : get_or keys index key ≡ key = picked c.get.result keys index key (sym c.copied.ensures ∙ w.in-Some.is) (rw same at c.get.ensures.lookup) in
          rw (w.self-is, w.caller-is) (record {
            sessions = λ beginnings have.
                told.sessions beginnings from mid c.settle.result c.settled-reply.ensures c.settle.ensures (led_any g.C.Caller.exchanges g.C.Sharing.resumes mid now c.loop-index.invariant.led) (c.loop-index.invariant.sessions beginnings have);
            led = led_then (ButSettles g.C.Caller.exchanges) g.C.Sharing.resumes mid now w.tell_settled.new.caller.caller c.loop-index.invariant.led told.led;
            way = λ queued. (
              way_goes_on c.settled-reply.result old c.loop-index.self w.tell_settled.new.self index key keys few is told.others told.settled (c.loop-index.invariant.way queued).0,
              await_goes_on c.settled-reply.result c.loop-index.self w.tell_settled.new.self index key keys few is told.others told.settled told.none (c.loop-index.invariant.way queued).1,
            );
            queue = told.queue ∙ same;
          }))
      | in_default w ↦ absurd (not_picked c.get.result (sym c.copied.ensures ∙ w.in_default.is) (c.get.ensures.variant.1 (subst (λ q. index < deque_len q) (sym same) (subst (λ (n : ℕ). index < n) c.len-index-end.ensures c.loop-index-test.true))))
    ]

pub returns-clause-sessions : goal.returns-clause-sessions
returns-clause-sessions g c = λ beginnings have key entry at. (c.loop-index.invariant.sessions beginnings have key entry at).1

pub returns-clause-asked : goal.returns-clause-asked
returns-clause-asked g c = λ queued.
    let old = c.args.self.now in
    let keys = old.queue.items in
    let none : drop c.loop-index.index keys ≡ [] = drop_of_length-le keys (omega (arith, c.loop-index-test.false, c.len-index-end.ensures, old.queue.ok.0)) in
    let (way, await) = c.loop-index.invariant.way queued in
    inr (c.settle.result, c.settle.new.self, c.settle.ensures, c.loop-index.invariant.led, rw c.settled-reply.ensures at (way_ends (reply_spelling c.settled-reply.result) old c.loop-index.self c.loop-index.index keys none way), await_ends c.loop-index.self c.loop-index.index keys none await)

pub returns-clause-led : goal.returns-clause-led
returns-clause-led g c =
    led_then g.C.Caller.exchanges g.C.Sharing.resumes c.args.caller.now.caller c.settle.new.self c.loop-index.caller.caller (led_exchange g.C.Caller.exchanges g.C.Sharing.resumes c.args.caller.now.caller c.settle.new.self (Settles c.settle.result) c.settle.ensures)
    (led_any g.C.Caller.exchanges g.C.Sharing.resumes c.settle.new.self c.loop-index.caller.caller c.loop-index.invariant.led)
