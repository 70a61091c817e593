-- What is made of a command before its operation is begun, and which refusals a begin of it answers.
use Rattle.std.specs.{Prelude.{◌≡◌, ◌≢◌, ℕ, ◌^◌, Box, length, Option, Some, None, IsSome, Result, Ok, Err, IsOk}, Global.Global}
use Rattle.mt_slices.specs.Keys.{IsStoredKey, tenant_of}
use Rattle.mt_rows.specs.{declared.command.Command.Command, declared.refusal.Refusal.Refusal, declared.refusal.Refusal.TheVariants.{Memory, NoTenant, Spent}}
use Rattle.mt_rows.specs.{declared.tenants.Account.Account, Accounts.account_of, Commands.{key_of, HasColumns, HasShortColumns, HasCount, IsTaken}}
use Rattle.mt_border.specs.Contents.{owned}
use Rattle.mt_operation.specs.{declared.task.Request.Request, declared.operation.Operation.Operation, Tasks.{command_of, ask, aim_of}}
use Rattle.mt_operation.specs.{Operations.{OperationView, view_of, IsUnsplit}, Walks.walk_from_top}
use Rattle.mt_state.specs.{Views.StateView, Begins.{begun, Begins, IsWorker}}
use Rattle.mt_core.specs.{declared.answers.Ticket.Ticket, Places.HasPlaces}

-- a request of a command that is taken
pub record IsRequest (request : Request) (command : Command) : Type 0 where
  pub is : command_of request ≡ command
  pub taken : IsTaken command

-- an operation before its first step, with its key in stored form
pub record IsAdmitted (op : Operation) : Type 0 where
  pub is_begun : view_of op ≡ begun op.task.worker op.task.tenant (ask op.task) op.birth
  pub walk : op.walk ≡ walk_from_top (aim_of (ask op.task)) 0
  pub unprepared : op.prepared ≡ None
  pub unsplit : IsUnsplit op.splits
  pub stored : IsStoredKey op.task.key
  pub tenant_is : tenant_of op.task.key ≡ op.task.tenant
  pub owner : owned op.task.key ≡ (op.task.tenant, key_of (ask op.task))
  pub columns : HasColumns (ask op.task)
  pub short : HasShortColumns (ask op.task)
  pub counts : HasCount (ask op.task)

-- what is shown of the operation in a box
abbrev pub view_in : Box Operation Global → OperationView
view_in op = view_of op.value

-- what a begin would begin, as it is shown, or for which fault it is refused; and for which tenant
pub record OpeningView : Type 0 where
  pub tenant : ℕ
  pub made : Result OperationView Refusal

-- the operation is one of the opening's tenant before its first step
pub record IsOpening (tenant : ℕ) (op : Operation) : Type 0 where
  pub tenant_is : op.task.tenant ≡ tenant
  pub admitted : IsAdmitted op

abbrev pub IsRightOpening : ℕ → Result (Box Operation Global) Refusal → Type 0
IsRightOpening tenant (Ok op) = IsOpening tenant op.value
IsRightOpening tenant (Err refusal) = Unit {0}

-- what is made of a command that has no fault; its birth is written as it is admitted
abbrev pub IsMadeOf : Result OperationView Refusal → ℕ → ℕ → Command → Type 0
IsMadeOf (Ok op) worker tenant command = op ≡ begun worker tenant command 0
IsMadeOf (Err refusal) worker tenant command = Unit {0}

-- the operation of an opening is of a worker of the state
abbrev pub MayAdmit : StateView → Result OperationView Refusal → Type 0
MayAdmit v (Ok op) = IsWorker (length v.logs) op.worker
MayAdmit v (Err refusal) = Unit {0}

-- what an opening may answer: a refused one changes nothing
abbrev pub TellsAdmitted : StateView → StateView → OpeningView → Result Ticket Refusal → Type 0
TellsAdmitted old new opening (Ok ticket) = (op : OperationView) × (opening.made ≡ Ok op) × Begins old new ticket.id op.worker op.tenant op.command
TellsAdmitted old new opening (Err refusal) = new ≡ old

-- the operation of an opening may be begun, where there is memory for it
pub record IsAccepted (v : StateView) (opening : OpeningView) (op : Operation) : Type 0 where
  pub made : opening.made ≡ Ok (view_of op)
  pub right : IsOpening opening.tenant op
  pub tenant : IsSome (account_of v.accounts opening.tenant)
  pub steps : v.steps ≢ 2 ^ 59

-- why an opening is refused whose tenant is there: its own fault; else no step has a number any more, or memory where there was no place for its operation
abbrev pub IsRefusalMade : StateView → Result OperationView Refusal → Refusal → Type 0
IsRefusalMade v (Err fault) refusal = refusal ≡ fault
IsRefusalMade v (Ok op) Memory = (v.steps ≢ 2 ^ 59) × ¬ HasPlaces v 1
IsRefusalMade v (Ok op) Spent = v.steps ≡ 2 ^ 59
IsRefusalMade v (Ok op) refusal = ⊥

-- the first cause, by its tenant and the account of that
abbrev pub IsRefusedFor : ℕ → Option Account → StateView → Result OperationView Refusal → Refusal → Type 0
IsRefusedFor tenant None v made refusal = refusal ≡ NoTenant tenant
IsRefusedFor tenant (Some account) v made refusal = IsRefusalMade v made refusal

-- an opening is refused for its first cause alone, and begun only where there is none
abbrev pub RefusesOpening : StateView → OpeningView → Result Ticket Refusal → Type 0
RefusesOpening v opening (Ok ticket) = IsSome (account_of v.accounts opening.tenant) × IsOk opening.made × (v.steps ≢ 2 ^ 59)
RefusesOpening v opening (Err refusal) = IsRefusedFor opening.tenant (account_of v.accounts opening.tenant) v opening.made refusal
