-- A begin is refused as its opening is, and its opening as its command: for `State::begin`.
use Rattle.std.{proofs.Common.{◌≡◌, ℕ, Option, Some, None, IsSome, Result, Ok, Err, refl, sym, ap, subst}, specs.Prelude.IsOk}
use Rattle.mt_rows.specs.{declared.command.Command.Command, declared.refusal.Refusal.Refusal, declared.refusal.Refusal.TheVariants.{Memory, NoTenant, Spent}}
use Rattle.mt_rows.specs.{declared.tenants.Account.Account, Commands.IsTaken, Accounts.account_of}
use Rattle.mt_operation.specs.Operations.{OperationView}
use Rattle.mt_state.specs.{Views.StateView, Refused.{IsFault, Makes, IsRefusal}}
use Rattle.mt_core.specs.{declared.answers.Ticket.Ticket, Admitted.{OpeningView, IsRefusalMade, IsRefusedFor, RefusesOpening}, Tickets.TellsRefusal}

module _ (v : StateView) (tenant : ℕ) (command : Command) where
  -- a command's fault is handed on where its tenant is there
  of_fault : (fault : Refusal) → IsSome (account_of v.accounts tenant) → IsFault command fault → IsRefusal v tenant command fault
  of_fault Memory there is = (there, is)
  of_fault (NoTenant named) there is = absurd is
  of_fault Spent there is = absurd is
  of_fault _ there is = (there, is)

  -- what was made of a command without fault is refused for want of numbers, or of memory
  of_made : (op : OperationView) (refusal : Refusal) → IsSome (account_of v.accounts tenant) → IsTaken command → IsRefusalMade v (Ok op) refusal
      → IsRefusal v tenant command refusal
  of_made op Memory there taken is = (there, taken)
  of_made op Spent there taken is = (there, taken, is)
  of_made op _ there taken is = absurd is

  by_made : (made : Result OperationView Refusal) (refusal : Refusal) → IsSome (account_of v.accounts tenant) → Makes command made
      → IsRefusalMade v made refusal → IsRefusal v tenant command refusal
  by_made (Ok op) refusal there makes is = of_made op refusal there makes is
  by_made (Err fault) refusal there makes is = subst (IsRefusal v tenant command) (sym is) (of_fault fault there makes)

  by_account : (named : ℕ) (account : Option Account) (made : Result OperationView Refusal) (refusal : Refusal) → named ≡ tenant
      → account_of v.accounts tenant ≡ account → Makes command made → IsRefusedFor named account v made refusal → IsRefusal v tenant command refusal
  by_account named None made refusal names same makes is = subst (IsRefusal v tenant command) (sym is) (names, same)
  by_account named (Some account) made refusal names same makes is = by_made made refusal (subst IsSome (sym same) refl) makes is

  of_ok : (made : Result OperationView Refusal) → IsOk made → Makes command made → IsTaken command
  of_ok (Ok op) ok makes = makes
  of_ok (Err fault) ok makes = absurd (cc)

  -- what a begin of a command's opening answers
  pub refused_by : (opening : OpeningView) (told : Result Ticket Refusal) → opening.tenant ≡ tenant → Makes command opening.made
      → RefusesOpening v opening told → TellsRefusal v tenant command told
  refused_by opening (Ok ticket) same makes h = record {
    there = subst (λ t. IsSome (account_of v.accounts t)) same h.0;
    taken = of_ok opening.made h.1 makes;
    numbered = h.2;
  }
  refused_by opening (Err refusal) same makes h =
      by_account opening.tenant (account_of v.accounts opening.tenant) opening.made refusal same (ap (account_of v.accounts) (sym same)) makes h
