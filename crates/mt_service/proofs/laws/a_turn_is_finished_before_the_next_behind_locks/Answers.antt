use Rattle.std.proofs.Common.{ap, ⊎_elim}
use Rattle.mt_stored.proofs.SharedTurns.{each_goes}
use Rattle.mt_service.proofs.laws.a_turn_is_finished_before_the_next_behind_locks.Goals as goal

pub returns-clause-whole : goal.returns-clause-whole
returns-clause-whole g c = λ tenants due old new left m. (
  ap (λ t. t.next) m.same,
  (
    m.mid,
    m.came.begins.next,
    λ log less. each_goes g.D.Disk.is_honest g.D.Disk.state g.D.Disk.failures g.D.Disk.was_refused (λ logs. logs.book.clerk.mark) old.next _ m.mid m.came.begun m.came.begins.then.0 log less,
  ),
)

pub returns-clause-stopped : goal.returns-clause-stopped
returns-clause-stopped g c = λ tenants due old new told tells. ⊎_elim (λ none. ap (λ t. t.next) none.1) (λ m. ap (λ t. t.next) m.same) tells
