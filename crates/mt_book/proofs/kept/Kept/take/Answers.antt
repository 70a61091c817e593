use Rattle.std.proofs.Common.{◌≡◌, ◌∙◌, Some, sym, ap}
use Rattle.mt_book.specs.{Births.{birth_at, born_at}, Happens.{Acted}, Periods.{taking_period, room_of}}
use Rattle.mt_book.proofs.{Seats.born_cleared, Keeping.{leads_on, ends_now, begins_now}, Serving.{served, own_take, birth_taken}}
use Rattle.mt_book.proofs.kept.Kept.take.Goals as goal

pub add-requires : goal.add-requires
add-requires g c = leads_on c.self.inside.tip c.self.inside.book.state c.state.result.now c.take-taking.new.self.state c.self.invariant.0 c.facts.ensures.state (Acted (taking_period c.args.ticket.id (room_of c.args.displaced.now) c.take-taking.result)) c.take-taking.ensures.does c.state.ensures

pub returns-clause-does : goal.returns-clause-does
returns-clause-does g c =
    let was = c.self.inside.book.state in
    let now = c.take-taking.new.self.state in
    let t = c.take-taking.result in
    let id = c.args.ticket.id in
    let birth = c.args.birth in
    let room = room_of c.args.displaced.now in
    let there = ap (λ births. born_at births c.args.pass.now.seat) (sym c.deref.ensures.value) ∙ c.expect_own.ensures.own in
    let own : birth_at was.table id ≡ Some birth = c.self.invariant.5.open_so c.args.pass.now.seat (record { id = id; birth = birth }) there in
    served (taking_period id room t) c.args.mark.now c.add.new.mark c.self.inside.tip c.add.new.self was now c.state.result.now birth birth c.self.invariant.0 c.facts.ensures.state c.take-taking.ensures.does c.state.ensures c.add.ensures.before c.add.ensures.adds c.add.ensures.seen c.add.ensures.made
    (own_take was.table birth id own room t.told) (birth_taken was.table birth id t.steps room t.told)

pub invariant_of-self : goal.invariant_of-self
invariant_of-self g c =
    let was = c.self.inside.book.state in
    let now = c.take-taking.new.self.state in
    let there = ap (λ births. born_at births c.args.pass.now.seat) (sym c.deref.ensures.value) ∙ c.expect_own.ensures.own in
    let births = born_cleared was now c.self.inside.births.items c.args.pass.now.seat c.args.ticket.id c.args.birth (room_of c.args.displaced.now) c.take-taking.result.told there c.take-taking.ensures.does.1 c.self.invariant.5 in
    (ends_now c.self.inside.tip c.add.new.self c.state.result.now now c.add.ensures.adds c.state.ensures, begins_now c.self.inside.tip c.add.new.self c.state.result.now c.add.ensures.adds c.self.invariant.1, c.self.invariant.2, c.self.invariant.3, c.self.invariant.4, rw c.clear.ensures births)
