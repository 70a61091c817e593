use Rattle.std.{proofs.Common.{◌∙◌, ap, arith, codes, sym, subst, Bor, Bool, List, ℕ, Some, option_map}, specs.Str.Parse.{ParsesUnsigned, ExplainsUnsignedError, HasUnsignedDigitsIfOk}}
use Rattle.clap.specs.Words.{found_of, rows_of}
use Rattle.mt_command_line.{specs.{Given.IsFlag, Reads.NoCheckpoint}, proofs.MatchLemmas.{flag_is, folder_is, large_number_is, none_found, number_if_any_is, or_zero, some_found}}
use Rattle.mt_command_line.proofs.reading.store_of.Goals as goal

pub returns-in_ok-from_str-in-Some : goal.returns-in_ok-from_str-in-Some
returns-in_ok-from_str-in-Some c = λ may.
    let f = found_of c.args.matches.now in
    let folder = folder_is f (codes "store") c.get_str.result c.get_str.ensures ∙ ap (option_map (λ (s : Bor (List ℕ)). s.now)) c.in-Some.is in
    let checkpoint = number_if_any_is _ (λ bs r. ParsesUnsigned 32 10 bs r × ExplainsUnsignedError 10 bs r × HasUnsignedDigitsIfOk bs r) 32 0 4294967295
    f (codes "checkpoint") c.get_one-checkpoint.result (λ t x g. g.0) (omega arith) c.get_one-checkpoint.ensures.none c.get_one-checkpoint.ensures.value may.checkpoint in
    let bytes = large_number_is _ (λ bs r. ParsesUnsigned 64 10 bs r × ExplainsUnsignedError 10 bs r × HasUnsignedDigitsIfOk bs r) 0 18446744073709551615
    f (codes "checkpoint-bytes") c.get_one-bytes.result (λ t x g. g.0) c.get_one-bytes.ensures.none c.get_one-bytes.ensures.value may.bytes in
    let settle = number_if_any_is _ (λ bs r. ParsesUnsigned 32 10 bs r × ExplainsUnsignedError 10 bs r × HasUnsignedDigitsIfOk bs r) 32 0 4294967295
    f (codes "settle-every") c.get_one-settle_every.result (λ t x g. g.0) (omega arith) c.get_one-settle_every.ensures.none c.get_one-settle_every.ensures.value may.settle in
    record {
      folder = folder ∙ sym (ap Some c.in_ok-from_str-in-Some.ensures.ok);
      create = flag_is f (codes "create") _ c.get_flag-create.ensures.none c.get_flag-create.ensures.value c.get_flag-create.ensures.other;
      checkpoint = rw c.unwrap_or.ensures (or_zero (codes "checkpoint") 4294967295 (rows_of f) _ checkpoint);
      bytes = rw c.unwrap_or-in-Some.ensures (or_zero (codes "checkpoint-bytes") 18446744073709551615 (rows_of f) _ bytes);
      settle = rw c.unwrap_or-in-Some-2.ensures (or_zero (codes "settle-every") 4294967295 (rows_of f) _ settle);
    }

pub returns-in-None : goal.returns-in-None
returns-in-None c = λ may.
    let f = found_of c.args.matches.now in
    let folder = folder_is f (codes "store") c.get_str.result c.get_str.ensures ∙ ap (option_map (λ (s : Bor (List ℕ)). s.now)) c.in-None.is in
    let flag = flag_is f (codes "create") _ c.get_flag-create.ensures.none c.get_flag-create.ensures.value c.get_flag-create.ensures.other in
    (folder, subst (λ (b : Bool). IsFlag (codes "create") (rows_of f) b) c.if-create.true flag)

pub returns-in-None-2 : goal.returns-in-None-2
returns-in-None-2 c = λ may.
    let f = found_of c.args.matches.now in
    let folder = folder_is f (codes "store") c.get_str.result c.get_str.ensures ∙ ap (option_map (λ (s : Bor (List ℕ)). s.now)) c.in-None.is in
    let flag = flag_is f (codes "create") _ c.get_flag-create.ensures.none c.get_flag-create.ensures.value c.get_flag-create.ensures.other in
    let checkpoint = number_if_any_is _ (λ bs r. ParsesUnsigned 32 10 bs r × ExplainsUnsignedError 10 bs r × HasUnsignedDigitsIfOk bs r) 32 0 4294967295
    f (codes "checkpoint") c.get_one-checkpoint.result (λ t x g. g.0) (omega arith) c.get_one-checkpoint.ensures.none c.get_one-checkpoint.ensures.value may.checkpoint in
    ((folder, subst (λ (b : Bool). IsFlag (codes "create") (rows_of f) b) c.if-create.false flag), some_found (codes "checkpoint") 0 4294967295 (rows_of f) _ checkpoint (sym c.is_some-by_answers.ensures ∙ c.if-by_answers.true))

pub returns-in-None-3 : goal.returns-in-None-3
returns-in-None-3 c = λ may.
    let f = found_of c.args.matches.now in
    let folder = folder_is f (codes "store") c.get_str.result c.get_str.ensures ∙ ap (option_map (λ (s : Bor (List ℕ)). s.now)) c.in-None.is in
    let flag = flag_is f (codes "create") _ c.get_flag-create.ensures.none c.get_flag-create.ensures.value c.get_flag-create.ensures.other in
    let checkpoint = number_if_any_is _ (λ bs r. ParsesUnsigned 32 10 bs r × ExplainsUnsignedError 10 bs r × HasUnsignedDigitsIfOk bs r) 32 0 4294967295
    f (codes "checkpoint") c.get_one-checkpoint.result (λ t x g. g.0) (omega arith) c.get_one-checkpoint.ensures.none c.get_one-checkpoint.ensures.value may.checkpoint in
    let bytes = large_number_is _ (λ bs r. ParsesUnsigned 64 10 bs r × ExplainsUnsignedError 10 bs r × HasUnsignedDigitsIfOk bs r) 0 18446744073709551615
    f (codes "checkpoint-bytes") c.get_one-bytes.result (λ t x g. g.0) c.get_one-bytes.ensures.none c.get_one-bytes.ensures.value may.bytes in
    let create = subst (λ (b : Bool). IsFlag (codes "create") (rows_of f) b) c.if-create.false flag in
    (((folder, create), none_found (codes "checkpoint") 0 4294967295 (rows_of f) _ checkpoint (sym c.is_some-by_answers.ensures ∙ c.if-by_answers.false)), some_found (codes "checkpoint-bytes") 0 18446744073709551615 (rows_of f) _ bytes (sym c.is_some-by_bytes.ensures ∙ c.if-by_bytes.true))

pub returns-in-None-4 : goal.returns-in-None-4
returns-in-None-4 c = λ may.
    let f = found_of c.args.matches.now in
    let folder = folder_is f (codes "store") c.get_str.result c.get_str.ensures ∙ ap (option_map (λ (s : Bor (List ℕ)). s.now)) c.in-None.is in
    let flag = flag_is f (codes "create") _ c.get_flag-create.ensures.none c.get_flag-create.ensures.value c.get_flag-create.ensures.other in
    let checkpoint = number_if_any_is _ (λ bs r. ParsesUnsigned 32 10 bs r × ExplainsUnsignedError 10 bs r × HasUnsignedDigitsIfOk bs r) 32 0 4294967295
    f (codes "checkpoint") c.get_one-checkpoint.result (λ t x g. g.0) (omega arith) c.get_one-checkpoint.ensures.none c.get_one-checkpoint.ensures.value may.checkpoint in
    let bytes = large_number_is _ (λ bs r. ParsesUnsigned 64 10 bs r × ExplainsUnsignedError 10 bs r × HasUnsignedDigitsIfOk bs r) 0 18446744073709551615
    f (codes "checkpoint-bytes") c.get_one-bytes.result (λ t x g. g.0) c.get_one-bytes.ensures.none c.get_one-bytes.ensures.value may.bytes in
    let settle = number_if_any_is _ (λ bs r. ParsesUnsigned 32 10 bs r × ExplainsUnsignedError 10 bs r × HasUnsignedDigitsIfOk bs r) 32 0 4294967295
    f (codes "settle-every") c.get_one-settle_every.result (λ t x g. g.0) (omega arith) c.get_one-settle_every.ensures.none c.get_one-settle_every.ensures.value may.settle in
    let create = subst (λ (b : Bool). IsFlag (codes "create") (rows_of f) b) c.if-create.false flag in
    let none : NoCheckpoint (rows_of f) = ((folder, create), none_found (codes "checkpoint") 0 4294967295 (rows_of f) _ checkpoint (sym c.is_some-by_answers.ensures ∙ c.if-by_answers.false)) in
    ((none, none_found (codes "checkpoint-bytes") 0 18446744073709551615 (rows_of f) _ bytes (sym c.is_some-by_bytes.ensures ∙ c.if-by_bytes.false)), some_found (codes "settle-every") 0 4294967295 (rows_of f) _ settle (sym c.is_some-by_clock.ensures ∙ c.if-by_clock.true))

pub returns-in-None-5 : goal.returns-in-None-5
returns-in-None-5 c = λ may.
    let f = found_of c.args.matches.now in
    let folder = folder_is f (codes "store") c.get_str.result c.get_str.ensures ∙ ap (option_map (λ (s : Bor (List ℕ)). s.now)) c.in-None.is in
    let flag = flag_is f (codes "create") _ c.get_flag-create.ensures.none c.get_flag-create.ensures.value c.get_flag-create.ensures.other in
    let checkpoint = number_if_any_is _ (λ bs r. ParsesUnsigned 32 10 bs r × ExplainsUnsignedError 10 bs r × HasUnsignedDigitsIfOk bs r) 32 0 4294967295
    f (codes "checkpoint") c.get_one-checkpoint.result (λ t x g. g.0) (omega arith) c.get_one-checkpoint.ensures.none c.get_one-checkpoint.ensures.value may.checkpoint in
    let bytes = large_number_is _ (λ bs r. ParsesUnsigned 64 10 bs r × ExplainsUnsignedError 10 bs r × HasUnsignedDigitsIfOk bs r) 0 18446744073709551615
    f (codes "checkpoint-bytes") c.get_one-bytes.result (λ t x g. g.0) c.get_one-bytes.ensures.none c.get_one-bytes.ensures.value may.bytes in
    let settle = number_if_any_is _ (λ bs r. ParsesUnsigned 32 10 bs r × ExplainsUnsignedError 10 bs r × HasUnsignedDigitsIfOk bs r) 32 0 4294967295
    f (codes "settle-every") c.get_one-settle_every.result (λ t x g. g.0) (omega arith) c.get_one-settle_every.ensures.none c.get_one-settle_every.ensures.value may.settle in
    let create = subst (λ (b : Bool). IsFlag (codes "create") (rows_of f) b) c.if-create.false flag in
    let none : NoCheckpoint (rows_of f) = ((folder, create), none_found (codes "checkpoint") 0 4294967295 (rows_of f) _ checkpoint (sym c.is_some-by_answers.ensures ∙ c.if-by_answers.false)) in
    ((none, none_found (codes "checkpoint-bytes") 0 18446744073709551615 (rows_of f) _ bytes (sym c.is_some-by_bytes.ensures ∙ c.if-by_bytes.false)), none_found (codes "settle-every") 0 4294967295 (rows_of f) _ settle (sym c.is_some-by_clock.ensures ∙ c.if-by_clock.false))
