use Rattle.mt_book.specs.Happens.{Given}
use Rattle.mt_book.proofs.{Keeping.{leads_on, ends_now, begins_now}, Seats.{born_kept, stay_drained}}
use Rattle.mt_book.proofs.kept.Kept.drain.Goals as goal

pub add-requires : goal.add-requires
add-requires g c = leads_on c.self.inside.tip c.self.inside.book.state c.state.result.now c.drain.new.self.state c.self.invariant.0 c.facts.ensures.state (Given c.args.worker c.in-Ok.drained.batch) c.in-Ok.ensures.drains c.state.ensures

pub invariant_of-self : goal.invariant_of-self
invariant_of-self g c =
    let was = c.self.inside.book.state in
    let now = c.drain.new.self.state in
    let stay = stay_drained was now c.args.worker c.in-Ok.drained.batch c.in-Ok.ensures.drains in
    (ends_now c.self.inside.tip c.add.new.self c.state.result.now now c.add.ensures.adds c.state.ensures, begins_now c.self.inside.tip c.add.new.self c.state.result.now c.add.ensures.adds c.self.invariant.1, c.self.invariant.2, c.self.invariant.3, c.self.invariant.4, born_kept was.table now.table c.self.inside.births.items stay c.self.invariant.5)
