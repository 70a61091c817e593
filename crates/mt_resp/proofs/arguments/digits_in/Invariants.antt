use Rattle.std.proofs.Common.{◌≡◌, ◌≤◌, drop}
use Rattle.mt_resp.specs.Arguments.{digits_of}
use Rattle.mt_resp.proofs.arguments.digits_in.Given as goal

abbrev pub invariant-loop-digit : goal.invariant-loop-digit
invariant-loop-digit l = record {
  same : digits_of l.most l.value (drop l.digit-index l.digits) ≡ digits_of l.most l.begun l.digits;
  small : l.value ≤ l.most;
}
