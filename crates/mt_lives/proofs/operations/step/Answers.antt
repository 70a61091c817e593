use Rattle.std.proofs.Common.{refl}
use Rattle.mt_lives.specs.{declared.events.StoreEvent.TheVariants.Move, declared.serving.Serving.Serving, Serving.DoesServing}
use Rattle.mt_lives.proofs.{Noting.held, Moving.moves}
use Rattle.mt_lives.proofs.operations.step.Goals as goal

pub step_by-note-requires : goal.step_by-note-requires
step_by-note-requires c =
    let h = c.requires in
    let k = held h.1.0 h.1.1 h.1.2 h.0 c.args.serving.now h.1.3 in
    record { named = k.serves.history.all; by_id = k.by_id }

pub returns : goal.returns
returns c =
    let h = c.requires in
    let now : Serving = record { state = c.step_by-note.new.state; roster = c.args.serving.now.roster; settles = c.args.serving.now.settles; generation = c.args.serving.now.generation } in
    let does : DoesServing c.args.serving.now now (Move c.args.op) c.step_by-note.result =
    record { does = (refl, c.step_by-note.ensures); by_id = (held h.1.0 h.1.1 h.1.2 h.0 c.args.serving.now h.1.3).by_id; right = c.facts.ensures; settles = refl; generation = refl } in
    record {
      does = does;
      goes = λ accounts slots logs standing holds. moves accounts slots standing logs c.args.serving.now holds now c.args.op c.step_by-note.result does;
    }
