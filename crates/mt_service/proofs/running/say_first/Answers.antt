use Rattle.std.proofs.Common.{◌∙◌, OnErr, List, ℕ, subst}
use Rattle.mt_service.specs.Lines.{Begins}
use Rattle.mt_service.proofs.running.say_first.Goals as goal

pub returns-in-Ok-clause-err : goal.returns-in-Ok-clause-err
returns-in-Ok-clause-err g c =
    let P : List ℕ → Type 0 = λ text. OnErr c.say.result (Begins (g.W.Sink.contents c.args.out.now) (g.W.Sink.contents c.say.new.out) text) in
    subst P (c.as_str.ensures.value ∙ c.in-Ok.ensures.ok) c.say.ensures.err
