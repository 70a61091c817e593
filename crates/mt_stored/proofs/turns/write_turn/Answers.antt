-- The logs did not all go to the generation; or they did, and the checkpoint was not written; or it was, and the turn did not end.
use Rattle.std.proofs.Common.{Result, Ok, Err, inl, inr, refl, subst}
use Rattle.mt_stored.specs.{TurnParts.TellsEnd, declared.turns.TurnStop.TurnStop}
use Rattle.mt_stored.proofs.turns.write_turn.Goals as goal

pub returns-in-Err-clause-err : goal.returns-in-Err-clause-err
returns-in-Err-clause-err g c = inl (record { stops = c.in-Err.ensures.err; same = refl })

pub returns-in-Ok-settle_and_give_up-clause-ok : goal.returns-in-Ok-settle_and_give_up-clause-ok
returns-in-Ok-settle_and_give_up-clause-ok g c =
    let told : Result (Unit {0}) TurnStop = Ok tt in
    record {
      closed = c.in-Ok.closed;
      begun = c.begin_next.new.logs;
      before = c.begin_next.new.digests;
      begins = c.in-Ok.ensures.ok;
      kept = c.write_slot.new.digests;
      writes = c.in-Ok-write_slot.ensures.ok;
      ends =
          subst (λ owed. TellsEnd g.S.Logs.does g.G.Digests.does (g.S.Logs.logs c.args.logs.now) owed c.in-Ok.closed c.begin_next.new.logs c.write_slot.new.digests c.settle_and_give_up.new.logs c.settle_and_give_up.new.digests told) c.owed.ensures
          (subst (λ n. TellsEnd g.S.Logs.does g.G.Digests.does n c.owed.result c.in-Ok.closed c.begin_next.new.logs c.write_slot.new.digests c.settle_and_give_up.new.logs c.settle_and_give_up.new.digests told) c.begin_next.ensures.same c.in-Ok-settle_and_give_up.ensures.ends);
    }

pub returns-in-Err-settle_and_give_up-clause-err : goal.returns-in-Err-settle_and_give_up-clause-err
returns-in-Err-settle_and_give_up-clause-err g c =
    let told : Result (Unit {0}) TurnStop = Err c.in-Err-settle_and_give_up.stop in
    inr (inr (record {
      closed = c.in-Ok.closed;
      begun = c.begin_next.new.logs;
      before = c.begin_next.new.digests;
      begins = c.in-Ok.ensures.ok;
      kept = c.write_slot.new.digests;
      writes = c.in-Ok-write_slot.ensures.ok;
      ends =
          subst (λ owed. TellsEnd g.S.Logs.does g.G.Digests.does (g.S.Logs.logs c.args.logs.now) owed c.in-Ok.closed c.begin_next.new.logs c.write_slot.new.digests c.settle_and_give_up.new.logs c.settle_and_give_up.new.digests told) c.owed.ensures
          (subst (λ n. TellsEnd g.S.Logs.does g.G.Digests.does n c.owed.result c.in-Ok.closed c.begin_next.new.logs c.write_slot.new.digests c.settle_and_give_up.new.logs c.settle_and_give_up.new.digests told) c.begin_next.ensures.same c.in-Err-settle_and_give_up.ensures.ends);
    }))
