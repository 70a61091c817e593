-- A step leaves every other tenant's map as it was, whatever it answers: for `State::step`.
use Rattle.std.proofs.Common.{◌≡◌, ◌≢◌, ℕ, Some, false, true, ap}
use Rattle.mt_rows.specs.Tenants.{tenant_map}
use Rattle.mt_operation.specs.Operations.{OperationView}
use Rattle.mt_state.specs.{declared.moves.Move.Move, declared.moves.Move.TheVariants.{Moved, Again, NoMemory, Done, Spent, NoSuch}}
use Rattle.mt_state.specs.{Views.{StateView, contents_of, op_at}, Promises.Tells}
use Rattle.mt_state.proofs.Apart.{maps_apart}

-- a call that makes no step changes nothing, and a step changes its own tenant's map alone
pub others_stay : (old new : StateView) (o : ℕ) (answer : Move) → Tells old new o answer → (op : OperationView) (t : ℕ) → op_at old.table o ≡ Some op
    → t ≢ op.tenant → tenant_map t (contents_of new) ≡ tenant_map t (contents_of old)
others_stay old new o Moved tells op t there apart = maps_apart old new o t false op tells there apart
others_stay old new o Done tells op t there apart = maps_apart old new o t true op tells there apart
others_stay old new o (Again holder) tells op t there apart = ap (λ v. tenant_map t (contents_of v)) tells.0
others_stay old new o NoMemory tells op t there apart = ap (λ v. tenant_map t (contents_of v)) tells.0
others_stay old new o Spent tells op t there apart = ap (λ v. tenant_map t (contents_of v)) tells.0
others_stay old new o NoSuch tells op t there apart = ap (λ v. tenant_map t (contents_of v)) tells.0
