use Rattle.std.proofs.Common.{refl}
use Rattle.mt_core.specs.Tickets.{named}
use Rattle.mt_lives.specs.{declared.events.StoreEvent.TheVariants.Take, declared.serving.Serving.Serving, Serving.DoesServing}
use Rattle.mt_lives.proofs.{Noting.held, Moving.{takes, taken_by_id}}
use Rattle.mt_lives.proofs.operations.take.Goals as goal

pub returns : goal.returns
returns c =
    let h = c.requires in
    let was : Serving = c.args.serving.now in
    let now : Serving =
    record { state = c.take_by-note.new.state; roster = record { tickets = c.take_by-note.new.tickets; names = was.roster.names }; settles = was.settles; generation = was.generation } in
    let does : DoesServing was now (Take c.args.op) c.take_by-note.result = record {
      does = c.take_by-note.ensures;
      by_id =
          taken_by_id was.roster.names (named was.roster.tickets) (named c.take_by-note.new.tickets) was.state c.take_by-note.new.state c.args.op c.take_by-note.result
          (held h.1.0 h.1.1 h.1.2 h.0 was h.1.3).by_id c.take_by-note.ensures;
      right = c.facts.ensures;
      settles = refl;
      generation = refl;
    } in
    record {
      does = does;
      goes = λ accounts slots logs standing holds. takes accounts slots standing logs was holds now c.args.op c.take_by-note.result does;
    }
