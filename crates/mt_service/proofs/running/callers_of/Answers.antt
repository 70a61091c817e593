-- One worker's pass and clerks more are given back.
use Rattle.std.{proofs.Common.{◌≡◌, ◌∷◌, [], map, rules, ap, ◌∙◌}, specs.List.flat_map}
use Rattle.mt_service.specs.Sessions.{pass_in, clerks_in}
use Rattle.mt_service.proofs.ShareLemmas.{one_moves, some_move}
use Rattle.mt_service.proofs.running.callers_of.Goals as goal

pub loop-one-preserved : goal.loop-one-preserved
loop-one-preserved g c =
    let one = c.in-Some.one in
    let left = c.next.new.self.rest.items in
    let held = c.into_held.result in
    let goes : c.loop-one.one-iterator.rest.items ≡ one ∷ left = search rules in
    record {
      passes = one_moves pass_in c.loop-one.passes.items c.add-in-loop-one.new.passes.items (c.args.turner.pass ∷ map pass_in c.args.served.items) c.loop-one.one-iterator.rest.items left one held.pass c.loop-one.invariant.passes goes c.in_ok-add-2.ensures.passes c.into_held.ensures.pass;
      clerks =
          some_move clerks_in c.loop-one.clerks.items c.add-in-loop-one.new.clerks.items (c.args.first ∷ c.args.turner.clerk ∷ c.args.turner.logs ∷ flat_map clerks_in c.args.served.items) c.loop-one.one-iterator.rest.items left one (held.clerk ∷ held.logs ∷ []) c.loop-one.invariant.clerks goes c.in_ok-add-2.ensures.clerks
          (ap (λ x. x ∷ held.logs ∷ []) c.into_held.ensures.clerk ∙ ap (λ x. one.worker.caller.desk ∷ x ∷ []) c.into_held.ensures.logs);
    }
