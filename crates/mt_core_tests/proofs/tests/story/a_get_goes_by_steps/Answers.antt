use Rattle.std.{proofs.Common.{length, sym, subst, arith}, specs.Prelude.{Result, Ok, Err}}
use Rattle.mt_rows.specs.{declared.command.Command.Command, declared.refusal.Refusal.Refusal}
use Rattle.mt_operation.specs.Operations.{OperationView}
use Rattle.mt_state.specs.{Views.StateView, Begins.IsWorker}
use Rattle.mt_core.specs.Admitted.{IsMadeOf, MayAdmit}
use Rattle.mt_core_tests.proofs.tests.story.a_get_goes_by_steps.Goals as goal

-- what was made of a command may be admitted, for worker 0
may_admit : (v : StateView) (command : Command) (made : Result OperationView Refusal) → IsMadeOf made 0 7 command → MayAdmit v made
may_admit v command (Ok op) is = subst (λ (x : OperationView). IsWorker (length v.logs) x.worker) (sym is) (omega arith)
may_admit v command (Err refusal) is = tt

pub admit-requires : goal.admit-requires
admit-requires g c = may_admit c.args.state.now c.get.result c.prepare-opening.result.made c.prepare-opening.ensures.made
