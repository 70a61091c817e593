use Rattle.mt_book.proofs.{Seats.{born_kept, stay_same}, Keeping.{ends_now, begins_now}}
use Rattle.mt_book.proofs.kept.Kept.look.Goals as goal

pub invariant_of-self : goal.invariant_of-self
invariant_of-self g c =
    let was = c.self.inside.book.state in
    let now = c.look-look.new.self.state in
    (ends_now c.self.inside.tip c.add.new.self c.state.result.now now c.add.ensures.adds c.state.ensures, begins_now c.self.inside.tip c.add.new.self c.state.result.now c.add.ensures.adds c.self.invariant.1, c.self.invariant.2, c.self.invariant.3, c.self.invariant.4, born_kept was.table now.table c.self.inside.births.items (stay_same was now c.look-look.ensures.1.0) c.self.invariant.5)
