use Rattle.std.{proofs.Common.{◌≡◌, ◌≤◌, drop}, specs.Str.all_ascii_digits}
use Rattle.mt_lines.specs.Words.{digits_behind}
use Rattle.mt_lines.proofs.words.long_number.Given as goal

-- the digits so far write the value
abbrev pub invariant-loop-byte : goal.invariant-loop-byte
invariant-loop-byte l = record {
  digits : all_ascii_digits l.word ≡ all_ascii_digits (drop l.byte-index l.word);
  value : digits_behind 0 l.word ≡ digits_behind l.value (drop l.byte-index l.word);
  small : l.value ≤ l.most;
}
