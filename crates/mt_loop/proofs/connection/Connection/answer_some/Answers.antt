use Rattle.std.proofs.Common.{◌≡◌, ◌≢◌, ◌<◌, ◌⊎◌, length, refl, sym, ap, subst, ◌∙◌, inl, inr, ⊎_elim, arith}
use Rattle.mt_loop.specs.{Deeds.ButSettles, declared.connection.Connection.Connection, declared.connection.State.TheVariants.Goes}
use Rattle.mt_loop.proofs.Deeds.{asked_none, asked_then}
use Rattle.mt_loop.proofs.connection.Connection.answer_some.Goals.{in-Goes, in_default}
use Rattle.mt_loop.proofs.connection.Connection.answer_some.Goals as goal

pub loop-init : goal.loop-init
loop-init g c = record { session = λ before left held holds start session. session; asked = asked_none (ButSettles g.C.Caller.exchanges) c.args.caller.now; silent = refl; cause = λ e. refl; others = λ n. refl; onward = inl (refl, refl) }

pub loop-preserved : goal.loop-preserved
loop-preserved g c =
    let goes : c.loop.self.state ≡ Goes =
    elim c.match-matches.branch [ in-Goes w ↦ w.in-Goes.is | in_default w ↦ (let f = c.if-not-matches.false in let m = w.matches-is in absurd cc) ] in
    let now = c.answer_one.new.self in
    let onward : (now.state ≢ Goes) ⊎ (length now.input.items < length c.args.self.now.input.items) =
    ⊎_elim (λ n. inl n) (λ less. inr (⊎_elim (λ p. subst (λ (x : Connection). length now.input.items < length x.input.items) p.1 less) (λ p. ⊎_elim (λ n. absurd (n goes)) (λ shorter. omega arith) p.1) c.loop.invariant.onward)) c.answer_one.ensures.onward in
    record {
      session = λ before left held holds start session. c.answer_one.ensures.session before left held holds start (c.loop.invariant.session before left held holds start session);
      asked = asked_then (ButSettles g.C.Caller.exchanges) c.args.caller.now c.loop.caller c.answer_one.new.caller c.loop.invariant.asked c.answer_one.ensures.asked;
      silent = c.answer_one.ensures.silent ∙ c.loop.invariant.silent;
      cause = λ e. absurd (c.answer_one.ensures.cause e);
      others = λ n. absurd (n (sym (ap (λ (x : Connection). x.state) (c.loop.invariant.others n)) ∙ goes));
      onward = inr (omega arith, onward);
    }
