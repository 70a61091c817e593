use Rattle.std.proofs.Common.{◌≡◌, OnErr, List, ℕ, subst, rules, append_assoc}
use Rattle.mt_service.specs.Lines.{Begins, last_line}
use Rattle.mt_service.proofs.running.say_last.Goals as goal

pub returns-in-Ok-clause-err : goal.returns-in-Ok-clause-err
returns-in-Ok-clause-err g c =
    let same : c.as_str.result.now ≡ last_line c.args.sessions c.args.answers = search (rules, append_assoc) in
    let P : List ℕ → Type 0 = λ text. OnErr c.say.result (Begins (g.W.Sink.contents c.args.out.now) (g.W.Sink.contents c.say.new.out) text) in
    subst P same c.say.ensures.err
