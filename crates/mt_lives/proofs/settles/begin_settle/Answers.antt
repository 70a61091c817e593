use Rattle.std.proofs.Common.{inr, refl, sym, rules, ◌∙◌}
use Rattle.mt_lives.{specs.{declared.serving.Serving.Serving, declared.serving.Settle.Settle}, proofs.Settling.{begins, no_entry, an_entry, is_open}}
use Rattle.mt_lives.proofs.settles.begin_settle.Goals as goal

pub returns : goal.returns
returns c =
    let now : Serving = record { state = c.args.serving.now.state; roster = c.args.serving.now.roster; settles = c.insert.new.self; generation = c.args.serving.now.generation } in
    let settle : Settle = record { begun = c.steps-begun.result; next = 0; least = 18446744073709551615 } in
    record {
      goes = λ accounts slots logs standing h.
          begins accounts slots standing logs c.args.serving.now h now refl refl refl c.args.id settle
          (no_entry _ (sym c.contains_key.ensures ∙ c.if-contains_key.false)) c.steps-begun.ensures.value refl (search rules) c.in_ok-insert.ensures.updates;
    }

pub returns-then-contains_key : goal.returns-then-contains_key
returns-then-contains_key c = record {
  goes = λ accounts slots logs standing h.
      let was = c.args.serving.now in
      let open_one = an_entry _ (sym c.contains_key.ensures ∙ c.if-contains_key.true) in
      (standing, (inr (is_open accounts slots standing logs was h was refl refl refl c.args.id open_one.0 open_one.1), refl), h);
}
