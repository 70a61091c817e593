use Rattle.mt_book.specs.{Happens.{Acted}, Periods.{admission_period}}
use Rattle.mt_book.proofs.{Seats.born_noted, Keeping.{leads_on, ends_now, begins_now}, Serving.{served, own_admission}}
use Rattle.mt_book.proofs.kept.Kept.admit.Goals as goal

pub add-requires : goal.add-requires
add-requires g c = leads_on c.self.inside.tip c.self.inside.book.state c.state.result.now c.admit-admission.new.self.state c.self.invariant.0 c.facts.ensures.state (Acted (admission_period c.args.opening c.admit-admission.result)) c.admit-admission.ensures.does c.state.ensures

pub returns-clause-does : goal.returns-clause-does
returns-clause-does g c =
    let was = c.self.inside.book.state in
    let now = c.admit-admission.new.self.state in
    let a = c.admit-admission.result in
    let opening = c.args.opening in
    let birth = c.args.birth.now in
    served (admission_period opening a) c.args.mark.now c.add.new.mark c.self.inside.tip c.add.new.self was now c.state.result.now birth c.note.new.birth c.self.invariant.0 c.facts.ensures.state c.admit-admission.ensures.does c.state.ensures c.add.ensures.before c.add.ensures.adds c.add.ensures.seen c.add.ensures.made
    (own_admission was.table birth 0 opening a.logs a.told) (c.note.ensures.birth opening)

pub invariant_of-self : goal.invariant_of-self
invariant_of-self g c =
    let was = c.self.inside.book.state in
    let now = c.admit-admission.new.self.state in
    let a = c.admit-admission.result in
    let does = c.admit-admission.ensures.does in
    let births = born_noted was now c.self.inside.births.items c.args.pass.now.seat a.steps a.logs c.args.opening a.told does.0 does.1 c.self.invariant.5 in
    (ends_now c.self.inside.tip c.add.new.self c.state.result.now now c.add.ensures.adds c.state.ensures, begins_now c.self.inside.tip c.add.new.self c.state.result.now c.add.ensures.adds c.self.invariant.1, c.self.invariant.2, c.self.invariant.3, c.self.invariant.4, rw c.note.ensures.births births)
