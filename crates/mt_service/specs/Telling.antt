-- What a session is told of a call's result.
use Rattle.std.specs.Prelude.{Result, Ok, Err}
use Rattle.mt_rows.specs.{declared.reply.Reply.Reply, declared.refusal.Refusal.TheVariants.Spent}
use Rattle.mt_runs.specs.declared.event.Answer.{Answer}
use Rattle.mt_book.specs.declared.calls.CallFault.{CallFault}
use Rattle.mt_caller.specs.declared.caller.CallerFault.{CallerFault}
use Rattle.mt_book.specs.declared.calls.CallFault.TheVariants as faults
use Rattle.mt_caller.specs.declared.caller.CallerFault.TheVariants as callers

-- the reply of its answer, or the refusal; Spent if all step numbers are given
abbrev pub told_of : Result Answer CallFault → Result Reply CallerFault
told_of (Ok answer) = Ok answer.reply
told_of (Err (faults.Refused refusal)) = Err (callers.Refused refusal)
told_of (Err (faults.Spent ticket)) = Err (callers.Refused Spent)
