use Rattle.std.proofs.Common.{inl, refl, rules}
use Rattle.mt_resp.specs.Replies.{told_text}
use Rattle.mt_resp_commands.specs.Answers.{IsOne, AskedFor}
use Rattle.mt_resp_commands.proofs.{Asking.asked_of_all, Leading.led_for, Results.on_ok}
use Rattle.mt_resp_commands.proofs.answers.answer.Goals as goal

pub returns-in_err-one-in_default-clause-led : goal.returns-in_err-one-in_default-clause-led
returns-in_err-one-in_default-clause-led g c =
    let led : AskedFor g.C.Caller.exchanges c.args.asked c.args.caller.now c.tell.new.caller = search rules in
    (led_for g.C.Caller.exchanges c.args.asked c.args.caller.now c.tell.new.caller led).0

pub returns-in_err-one-in_default-clause-others : goal.returns-in_err-one-in_default-clause-others
returns-in_err-one-in_default-clause-others g c =
    let led : AskedFor g.C.Caller.exchanges c.args.asked c.args.caller.now c.tell.new.caller = search rules in
    (led_for g.C.Caller.exchanges c.args.asked c.args.caller.now c.tell.new.caller led).1

pub returns-in-Each-clause-led : goal.returns-in-Each-clause-led
returns-in-Each-clause-led g c = asked_of_all g.C.Caller.exchanges c.args.caller.now c.write_each.new.caller c.write_each.ensures.led

pub returns-in_ok-one-in_default-clause-ok : goal.returns-in_ok-one-in_default-clause-ok
returns-in_ok-one-in_default-clause-ok g c =
    let one = c.in_ok-one-in_default.one in
    let told : IsOne g.C.Caller.exchanges g.C.Knows.knows c.args.link.now c.args.caller.now c.args.asked one c.tell.new.link c.tell.new.caller = search rules in
    on_ok c.write_told.result (λ put. (told_text one, inl (one, told, refl), put)) c.write_told.ensures.ok

pub returns-in_ok-one-in_default-clause-led : goal.returns-in_ok-one-in_default-clause-led
returns-in_ok-one-in_default-clause-led g c =
    let led : AskedFor g.C.Caller.exchanges c.args.asked c.args.caller.now c.tell.new.caller = search rules in
    (led_for g.C.Caller.exchanges c.args.asked c.args.caller.now c.tell.new.caller led).0

pub returns-in_ok-one-in_default-clause-others : goal.returns-in_ok-one-in_default-clause-others
returns-in_ok-one-in_default-clause-others g c =
    let led : AskedFor g.C.Caller.exchanges c.args.asked c.args.caller.now c.tell.new.caller = search rules in
    (led_for g.C.Caller.exchanges c.args.asked c.args.caller.now c.tell.new.caller led).1
