-- Which refusal a begin answers, and when.
use Rattle.std.specs.Prelude.{◌≡◌, ◌≢◌, ℕ, ◌^◌, None, IsSome, Result, Ok, Err}
use Rattle.mt_rows.specs.{declared.command.Command.Command, declared.refusal.Refusal.Refusal, declared.refusal.Refusal.TheVariants.{Memory, NoTenant, Spent}}
use Rattle.mt_rows.specs.{Commands.{IsTaken, IsFirstFault}, Accounts.account_of}
use Rattle.mt_state.specs.Views.{StateView}

-- why nothing is made of a command: its first fault, or want of memory where it has none
abbrev pub IsFault : Command → Refusal → Type 0
IsFault command Memory = IsTaken command
IsFault command refusal = IsFirstFault command refusal

-- something is made of a command that has no fault, and of no other
abbrev pub Makes : {T : Type 0} → Command → Result T Refusal → Type 0
Makes command (Ok made) = IsTaken command
Makes command (Err refusal) = IsFault command refusal

-- nothing refuses a begin: its tenant is there, its command has no fault, and a step is left that has a number
pub record IsAdmissible (v : StateView) (tenant : ℕ) (command : Command) : Type 0 where
  pub there : IsSome (account_of v.accounts tenant)
  pub taken : IsTaken command
  pub numbered : v.steps ≢ 2 ^ 59

-- the first cause for which a begin is refused; Memory may stand in place of Spent and of a success, and never of a fault
abbrev pub IsRefusal : StateView → ℕ → Command → Refusal → Type 0
IsRefusal v tenant command (NoTenant named) = (named ≡ tenant) × (account_of v.accounts tenant ≡ None)
IsRefusal v tenant command Spent = IsSome (account_of v.accounts tenant) × IsTaken command × (v.steps ≡ 2 ^ 59)
IsRefusal v tenant command refusal = IsSome (account_of v.accounts tenant) × IsFault command refusal

-- a begin succeeds only where nothing refuses it
abbrev pub Refuses : {T : Type 0} → StateView → ℕ → Command → Result T Refusal → Type 0
Refuses v tenant command (Ok begun) = IsAdmissible v tenant command
Refuses v tenant command (Err refusal) = IsRefusal v tenant command refusal
