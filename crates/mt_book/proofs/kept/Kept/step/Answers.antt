use Rattle.std.proofs.Common.{◌≡◌, ◌∙◌, Some, sym, ap}
use Rattle.mt_book.specs.{Births.{birth_at, born_at}, Happens.{Acted}, Periods.{step_period}}
use Rattle.mt_book.proofs.{Seats.{born_kept, stay_stepped}, Keeping.{leads_on, ends_now, begins_now}, Serving.{served, own_step, birth_stepped}}
use Rattle.mt_book.proofs.kept.Kept.step.Goals as goal

pub add-requires : goal.add-requires
add-requires g c = leads_on c.self.inside.tip c.self.inside.book.state c.state.result.now c.step-stepping.new.self.state c.self.invariant.0 c.facts.ensures.state (Acted (step_period c.args.ticket.now.id c.args.turned c.step-stepping.result)) c.step-stepping.ensures.does c.state.ensures

pub returns-clause-does : goal.returns-clause-does
returns-clause-does g c =
    let was = c.self.inside.book.state in
    let now = c.step-stepping.new.self.state in
    let s = c.step-stepping.result in
    let id = c.args.ticket.now.id in
    let birth = c.args.birth in
    let turned = c.args.turned in
    let there = ap (λ births. born_at births c.args.pass.now.seat) (sym c.deref.ensures.value) ∙ c.expect_own.ensures.own in
    let own : birth_at was.table id ≡ Some birth = c.self.invariant.5.open_so c.args.pass.now.seat (record { id = id; birth = birth }) there in
    served (step_period id turned s) c.args.mark.now c.add.new.mark c.self.inside.tip c.add.new.self was now c.state.result.now birth birth c.self.invariant.0 c.facts.ensures.state c.step-stepping.ensures.does c.state.ensures c.add.ensures.before c.add.ensures.adds c.add.ensures.seen c.add.ensures.made
    (own_step was.table birth id own turned s.move_made s.phase) (birth_stepped was.table birth id s.steps turned s.move_made s.phase)

pub invariant_of-self : goal.invariant_of-self
invariant_of-self g c =
    let was = c.self.inside.book.state in
    let now = c.step-stepping.new.self.state in
    let s = c.step-stepping.result in
    let stay = stay_stepped was now c.args.ticket.now.id c.args.turned s.move_made s.phase c.step-stepping.ensures.does.1 in
    (ends_now c.self.inside.tip c.add.new.self c.state.result.now now c.add.ensures.adds c.state.ensures, begins_now c.self.inside.tip c.add.new.self c.state.result.now c.add.ensures.adds c.self.invariant.1, c.self.invariant.2, c.self.invariant.3, c.self.invariant.4, born_kept was.table now.table c.self.inside.births.items stay c.self.invariant.5)
