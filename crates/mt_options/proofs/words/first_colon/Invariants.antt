use Rattle.std.{proofs.Common.{◌≡◌, ◌+◌, drop}, specs.List.prefix_len}
use Rattle.mt_options.specs.Words.{is_no_colon}
use Rattle.mt_options.proofs.words.first_colon.Given as goal

-- none so far is the colon
abbrev pub invariant-loop-place : goal.invariant-loop-place
invariant-loop-place l = prefix_len is_no_colon l.word ≡ l.place + prefix_len is_no_colon (drop l.place l.word)
