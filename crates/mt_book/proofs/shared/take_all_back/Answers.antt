-- One clerk more comes back.
use Rattle.std.{proofs.{Common.{◌≡◌, ◌∙◌, ◌∷◌, [], length, sym, ap, subst, rules, arith}, lemmas.List.{append-nil, nil_from_length}, lemmas.List.Sums.sum_by-cons}, specs.List.{AllByRecursion, sum_by}}
use mathlib.Core.List.{IsPrefix}
use Rattle.mt_book.specs.declared.shared.Clerk.{Clerk}
use Rattle.mt_book.proofs.Gathering.{one_back}
use Rattle.mt_book.proofs.shared.take_all_back.Goals as goal

pub loop-clerk-preserved : goal.loop-clerk-preserved
loop-clerk-preserved g c =
    let one = c.in-Some.clerk in
    let left = c.next.new.self.rest.items in
    let so = c.loop-clerk.invariant in
    let back = c.take_back.ensures in
    let made = λ (d : Clerk g.row.L.Denot g.row.J.Denot). d.mark.made in
    let goes : c.loop-clerk.clerk-iterator.rest.items ≡ one ∷ left = search rules in
    let fewer = ap length goes in
    let sum = ap (sum_by made) goes ∙ sum_by-cons made one left in (
      back.state ∙ so.0,
      one_back (λ (d : Clerk g.row.L.Denot g.row.J.Denot). d.mark) c.args.clerks.items c.loop-clerk.clerk-iterator.rest.items left one c.loop-clerk.kept.log c.take_back.new.self.log so.1 goes back.upto back.seen,
      omega (arith, so.2, back.parts, fewer),
      omega (arith, so.3, back.amount, fewer, sum),
    )

pub returns-clause-seen : goal.returns-clause-seen
returns-clause-seen g c =
    let log = c.loop-clerk.kept.log in
    let rest = c.loop-clerk.clerk-iterator.rest in
    let len = c.in-None.ensures.steps.0 in
    let none : rest.items ≡ [] = nil_from_length rest.items (omega (arith, len, rest.ok.0)) in
    c.loop-clerk.invariant.1 log ([], append-nil log) (subst (AllByRecursion (λ (d : Clerk g.row.L.Denot g.row.J.Denot). IsPrefix d.mark.log log)) (sym none) tt)
