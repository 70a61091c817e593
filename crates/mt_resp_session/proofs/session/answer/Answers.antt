use Rattle.std.proofs.Common.{◌≡◌, ◌<◌, ◌≤◌, [], length, inl, inr, ⊎_elim, refl, ap, sym, ◌∙◌, subst, arith}
use Rattle.mt_resp_commands.specs.Links.{ButSettles}
use Rattle.mt_resp_session.proofs.{Calls.{answers_none, answers_one, call_ends}, Asking.{asked_none, asked_then}}
use Rattle.mt_resp_session.proofs.session.answer.Goals as goal

pub loop-init : goal.loop-init
loop-init g c =
    (answers_none g.C.Caller.exchanges g.C.Knows.knows c.args.input.now.items c.args.session.now.link c.args.caller.now c.args.output.now.items, refl, asked_none (ButSettles g.C.Caller.exchanges) c.args.caller.now, inl (refl, refl, refl))

pub loop-preserved : goal.loop-preserved
loop-preserved g c =
    let (answers, settle, asked, on) = c.loop.invariant in
    let (words, text, reads, goes, answer, told, less, same) = rw c.in_default.is at c.answer_front.ensures.front in (
      answers_one g.C.Caller.exchanges g.C.Knows.knows _ _ _ _ _ _ text words _ _ _ _ _ _ answers reads goes answer told,
      same ∙ settle,
      asked_then (ButSettles g.C.Caller.exchanges) _ _ _ asked c.answer_front.ensures.asked,
      inr (omega arith, ⊎_elim (λ p. let same = ap length p.1 in omega arith) (λ p. omega arith) on),
    )

pub returns-in-Some-clause-answered : goal.returns-in-Some-clause-answered
returns-in-Some-clause-answered g c =
    let (answers, settle, asked, on) = c.loop.invariant in
    call_ends g.C.Caller.exchanges g.C.Knows.knows _ c.loop.input.items _ _ c.loop.output.items _ c.args.session.now c.loop.session _ _ c.loop.caller _ c.in-Some.stop answers settle (rw c.in-Some.is at c.answer_front.ensures.front)

pub returns-in-Some-clause-asked : goal.returns-in-Some-clause-asked
returns-in-Some-clause-asked g c =
    let (answers, settle, asked, on) = c.loop.invariant in
    asked_then (ButSettles g.C.Caller.exchanges) _ _ _ asked c.answer_front.ensures.asked

pub returns-then-len-most-clause-onward : goal.returns-then-len-most-clause-onward
returns-then-len-most-clause-onward g c e some room =
    let (answers, settle, asked, on) = c.loop.invariant in ⊎_elim (λ p. let same = ap length p.2 in omega arith) (λ p. p.1) on

pub returns-clause-onward : goal.returns-clause-onward
returns-clause-onward g c e some room =
    let (answers, settle, asked, on) = c.loop.invariant in ⊎_elim (λ p. omega arith) (λ p. p.1) on
