use Rattle.std.proofs.Common.{◌≡◌, ◌+◌, length, vec_len}
use Rattle.mt_stored.proofs.shared.unlocked_logs.Given as goal

-- as many logs so far as locks were taken
abbrev pub invariant-loop-lock : goal.invariant-loop-lock
invariant-loop-lock g l = vec_len l.logs + length l.lock-iterator.rest.items ≡ vec_len l.fn.locks
