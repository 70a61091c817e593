use Rattle.std.proofs.Common.{◌≡◌, ◌+◌, length, vec_len}
use Rattle.mt_stored.proofs.shared.locked_logs.Given as goal

-- as many locks so far as logs were taken
abbrev pub invariant-loop-log : goal.invariant-loop-log
invariant-loop-log g l = vec_len l.locks + length l.log-iterator.rest.items ≡ vec_len l.fn.logs
