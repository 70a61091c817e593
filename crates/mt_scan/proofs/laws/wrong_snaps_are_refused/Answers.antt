use Rattle.std.{proofs.Common.{List, sym, subst}, specs.List.Contains}
use Rattle.mt_rows.specs.{Rows.Bytes, Stamps.Stamped}
use Rattle.mt_arena.specs.Accesses.{at}
use Rattle.mt_scan.specs.Snaps.{StopsAt}
use Rattle.mt_scan.proofs.laws.wrong_snaps_are_refused.Goals as goal

pub returns-clause-drops_a_pair : goal.returns-clause-drops_a_pair
returns-clause-drops_a_pair c =
    λ v before after was is pair among missing snap. missing (subst (λ (xs : List (Bytes × Stamped)). Contains xs pair) (sym snap.seen) among)

pub returns-clause-adds_a_pair : goal.returns-clause-adds_a_pair
returns-clause-adds_a_pair c = λ v before after was is pair missing among snap. missing (subst (λ (xs : List (Bytes × Stamped)). Contains xs pair) snap.seen among)

pub returns-clause-reads_over_an_unstable_slot : goal.returns-clause-reads_over_an_unstable_slot
returns-clause-reads_over_an_unstable_slot c = λ v before after was is x among unstable snap. snap.settled x among unstable

pub returns-clause-ends_before_a_link : goal.returns-clause-ends_before_a_link
returns-clause-ends_before_a_link c = λ v before after was is link stops own tenant snap.
    own ((subst (StopsAt (at v before.place.node) was before.layer) tenant snap.stops).0 link stops)

pub returns-clause-runs_into_another_tenant : goal.returns-clause-runs_into_another_tenant
returns-clause-runs_into_another_tenant c =
    λ v before after was is slice over next snap. (subst (StopsAt (at v before.place.node) was before.layer) next snap.stops).2 over
