-- The text that the file is begun with is the header and a closed batch gate.
use Rattle.std.proofs.Common.{List, ℕ, subst}
use Rattle.mt_disk.specs.Disk.{LeavesOnly}
use Rattle.mt_gates.specs.Gates.{IsLeftOf, IsLeftOfEither}
use Rattle.mt_log_generations.proofs.log_generation.begin_generation.Goals as goal

pub returns-clause-leaves : goal.returns-clause-leaves
returns-clause-leaves g c honest first =
    subst (λ (t : List ℕ). LeavesOnly (IsLeftOf t) first (g.D.Disk.state c.args.disk.now) → LeavesOnly (IsLeftOf t) first (g.D.Disk.state c.begin_file.new.disk))
    c.begun-text.ensures (c.begin_file.ensures.leaves honest first)

pub returns-clause-over : goal.returns-clause-over
returns-clause-over g c honest other first some kept =
    subst (λ (t : List ℕ). LeavesOnly (IsLeftOfEither other t) first (g.D.Disk.state c.begin_file.new.disk)) c.begun-text.ensures (c.begin_file.ensures.over honest other first some kept)
