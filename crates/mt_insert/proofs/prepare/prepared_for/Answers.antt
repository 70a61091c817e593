-- That the stamp of a slot's row was met, and what is made ready over a slot of the border node, told of its view.
use Rattle.std.proofs.{Common.{ℕ, Option, subst}, lemmas.Result.IfOk-weaker}
use Rattle.mt_rows.specs.Stamps.{Stamped, stamp_in}
use Rattle.mt_arena.specs.Accesses.{at}
use Rattle.mt_operation.specs.Tasks.{ask}
use Rattle.mt_insert.{specs.{Puts.MeetsStamp, Judge.standing_in}, proofs.Looks.{ready_over, standing_there}}
use Rattle.mt_insert.proofs.prepare.prepared_for.Goals as goal

pub prepared_over-requires-clause-met : goal.prepared_over-requires-clause-met
prepared_over-requires-clause-met c =
    subst (λ (row : Option Stamped). MeetsStamp (ask c.args.task.now) (stamp_in row))
    (standing_there (at c.args.arena.now c.args.walk.now.place.node) c.border.result.now _ _ _ _ c.in-Some.slot c.border.ensures)
    (subst (λ (s : Option ℕ). MeetsStamp (ask c.args.task.now) (stamp_in (standing_in (at c.args.arena.now c.args.walk.now.place.node) s))) c.in-Some.is c.requires.met)

pub prepared_new-requires-clause-met : goal.prepared_new-requires-clause-met
prepared_new-requires-clause-met c =
    subst (λ (s : Option ℕ). MeetsStamp (ask c.args.task.now) (stamp_in (standing_in (at c.args.arena.now c.args.walk.now.place.node) s))) c.in-None.is c.requires.met

pub returns-in-Some : goal.returns-in-Some
returns-in-Some c = rw c.in-Some.is (IfOk-weaker c.prepared_over.result _ _
    (λ prepared h. ready_over (at c.args.arena.now c.args.walk.now.place.node) c.border.result.now _ _ _ _ c.args.task.now c.args.walk.now.layer c.in-Some.slot prepared c.border.ensures h)
    c.prepared_over.ensures)
