-- All came back, so the history is known whole.
use Rattle.std.{proofs.Common.{◌≡◌, ◌+◌, List, length, subst, rules, arith}, specs.List.{AllByRecursion, sum_by}}
use mathlib.Core.List.{IsPrefix}
use Rattle.mt_state.specs.Views.{StateView}
use Rattle.mt_book.specs.declared.shared.Clerk.{Clerk}
use Rattle.mt_book.proofs.Gathering.{whole_of}
use Rattle.mt_book.proofs.shared.gather.Goals as goal

pub returns-in-Ok-clause-whole : goal.returns-in-Ok-clause-whole
returns-in-Ok-clause-whole g c =
    let clerks = c.args.clerks in
    let log = c.audit.new.self.log in
    let all = c.audit.new.all.amount in
    let same : c.take_all_back.new.kept.log ≡ log = search rules in
    let sum : all ≡ sum_by (λ (d : Clerk g.row.L.Denot g.row.J.Denot). d.mark.made) clerks.items + length clerks.items =
    omega (arith, c.audit.ensures.amount, c.take_all_back.ensures.amount, c.take_parts-parts.ensures.amount, clerks.ok.0) in
    let seen = subst (λ (l : List StateView). AllByRecursion (λ (d : Clerk g.row.L.Denot g.row.J.Denot). IsPrefix d.mark.log l) clerks.items) same c.take_all_back.ensures.seen in
    let taken : c.audit.new.self.state.answers ≡ c.in-Ok.answers = search rules in
    whole_of (λ (d : Clerk g.row.L.Denot g.row.J.Denot). d.mark) clerks.items log c.audit.new.self.state c.in-Ok.answers all c.audit.ensures.legal c.audit.ensures.begins c.audit.ensures.ends c.audit.ensures.counted sum seen taken
