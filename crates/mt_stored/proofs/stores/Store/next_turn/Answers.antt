use Rattle.std.proofs.Common.{sym, subst, arith}
use Rattle.mt_stored.specs.NextTurns.{IsNextTurn}
use Rattle.mt_stored.proofs.NextTurns.{next_turn_told}
use Rattle.mt_stored.proofs.stores.Store.next_turn.Goals as goal

pub returns : goal.returns
returns g c =
    subst (IsNextTurn c.args.self.now.logs.items) (sym c.unwrap_or.ensures)
    (next_turn_told g.D.Disk.is_honest g.D.Disk.state g.D.Disk.failures (λ s. s.source) (λ s. s.logs.items) c.args.self.now c.next_generation.result c.args.self.now.logs.len (omega (arith, c.args.self.now.logs.ok.0)) c.next_generation.ensures)
