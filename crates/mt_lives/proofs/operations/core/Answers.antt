use Rattle.std.proofs.Common.{refl, ap, is_some}
use Rattle.mt_lives.{specs.{declared.serving.Serving.Serving, Serving.TellsServing}, proofs.{Noting.held, Told.told}}
use Rattle.mt_lives.proofs.operations.core.Goals as goal

pub tell-requires-clause-held : goal.tell-requires-clause-held
tell-requires-clause-held c = λ o n named.
    let h = c.requires.held in
    ap is_some ((held h.1.0 h.1.1 h.1.2 h.0 c.args.serving.now h.1.3).serves.history.told o n named).1

pub returns : goal.returns
returns c =
    let now : Serving = record { state = c.tell.new.state; roster = c.tell.new.roster; settles = c.args.serving.now.settles; generation = c.args.serving.now.generation } in
    let tells : TellsServing c.args.serving.now now c.args.event.now c.in_ok-told.told =
    record { tells = c.in_ok-told.ensures.tells; by_id = c.in_ok-told.ensures.by_id; right = c.facts.ensures; settles = refl; generation = refl } in
    record {
      tells = tells;
      goes = λ accounts slots logs served standing h. told accounts slots standing logs c.args.serving.now h now c.args.event.now c.in_ok-told.told tells served;
    }
