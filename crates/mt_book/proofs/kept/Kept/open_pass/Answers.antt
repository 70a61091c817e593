use Rattle.std.proofs.Common.{arith}
use Rattle.mt_book.proofs.{Keeping.{ends_now, begins_now}, Seats.{born_kept, stay_places}}
use Rattle.mt_book.proofs.kept.Kept.open_pass.Goals as goal

pub invariant_of-self-2 : goal.invariant_of-self-2
invariant_of-self-2 g c =
    let part = c.split_off.ensures in
    let was = c.self.inside.book.state in
    let now = c.open_pass.new.self.state in
    let own = c.self.invariant in (
      ends_now c.self.inside.tip c.add.new.self c.state.result.now c.open_pass.new.self.state c.add.ensures.adds c.state.ensures,
      begins_now c.self.inside.tip c.add.new.self c.state.result.now c.add.ensures.adds own.1,
      omega (arith, part.parts_left, own.2),
      omega (arith, part.amount_left, own.3),
      own.4,
      born_kept was.table now.table c.seated.new.births.items (stay_places was.table now.table c.open_pass.ensures.state.same) (c.seated.ensures was.table own.5),
    )
