use Rattle.std.proofs.Common.{[], ◌++◌, take, refl}
use Rattle.mt_streams.proofs.{StreamLemmas.{Appends-nil, Appends-trans, moves_front, kept_appends}, FailureLemmas.{NoFewer-refl, NoFewer-trans}}
use Rattle.mt_loop.proofs.unsent.Unsent.send_to.Goals.{in-Ok, in-Err+in-Interrupted}
use Rattle.mt_loop.proofs.unsent.Unsent.send_to.Goals as goal

pub loop-init : goal.loop-init
loop-init g c = record { sent = ([], Appends-nil _, refl); failures = NoFewer-refl _ }

pub loop-preserved : goal.loop-preserved
loop-preserved g c =
    let (sent, appended, split) = c.loop.invariant.sent in
    let rest = c.loop.self.bytes.items in
    record {
      sent = elim c.match-send.branch [
        | in-Ok w ↦ (
            let n = w.in-Ok.count in
            rw (w.self-is, w.advance.ensures.items) (sent ++ take n rest, Appends-trans _ _ _ _ _ appended (rw c.as_slice.ensures at w.in-Ok.ensures.bytes), moves_front c.args.self.now.bytes.items sent rest n split))
        | in-Err+in-Interrupted w ↦ rw w.self-is (sent, kept_appends _ _ _ _ appended w.in-Err.ensures.bytes, split)
      ];
      failures = NoFewer-trans _ _ _ c.loop.invariant.failures c.send.ensures.failures;
    }
