use Rattle.std.proofs.{Common.{◌≡◌, ◌≢◌, ℕ, ◌<◌, Bool, true, List, [], length, get_or, refl, sym, ap, subst, ◌∙◌, arith}, lemmas.List.{length-map, get_or-map}}
use Rattle.mt_rows.specs.{declared.command.Command.Command, declared.command.Command.TheVariants.Scan, declared.reply.Reply.Reply}
use Rattle.mt_rows.specs.{declared.reply.Reply.TheVariants.{Pairs, NoMemory}, Rows.Bytes, Stamps.Stamped, Maps.{Map, is_scan}}
use Rattle.mt_runs.specs.Scans.{Shown, IsLawful, IsLawfulScan}
use Rattle.mt_walks.specs.Walked.{IsWithin}
use Rattle.mt_operation.specs.{declared.outcome.Outcome.Outcome, Operations.OperationView}
use Rattle.mt_state.specs.{Views.{StateView, map_of}, Promises.IsAnswer}
use Rattle.std.specs.FinMap as pairs
use Rattle.mt_state.proofs.scans.wrong_scans_are_refused.Goals as goal

-- a scan's reply is one of two
other_reply : (maps : ℕ → Map) (Between : ℕ → Type 0) (command : Command) (reply : Reply) → is_scan command ≡ true → reply ≢ NoMemory
    → ((ps : Shown) → reply ≢ Pairs ps) → IsLawfulScan maps Between command reply → ⊥
other_reply maps Between (Scan from after count columns) (Pairs ps) scans stopped shows h = shows ps refl
other_reply maps Between (Scan from after count columns) NoMemory scans stopped shows h = stopped refl
other_reply maps Between (Scan from after count columns) _ scans stopped shows h = absurd h
other_reply maps Between _ reply scans stopped shows h = absurd (cc)

-- what a scan shows is lawful
lawful_pairs : (v : StateView) (op : OperationView) (told : Outcome) (from : Bytes) (after : Bool) (count : ℕ) (columns : List ℕ) (ps : Shown)
    → op.command ≡ Scan from after count columns → told.reply ≡ Pairs ps → IsAnswer v op told
    → IsLawful (map_of v op.tenant) (IsWithin op.first op.last) from after count columns ps
lawful_pairs v op told from after count columns ps asks shows h =
    subst (IsLawfulScan (map_of v op.tenant) (IsWithin op.first op.last) (Scan from after count columns)) shows
    (subst (λ (command : Command). IsLawfulScan (map_of v op.tenant) (IsWithin op.first op.last) command told.reply) asks h.lawful)

pub returns-clause-another_reply : goal.returns-clause-another_reply
returns-clause-another_reply c = λ v op told scans stopped shows h.
    other_reply (map_of v op.tenant) (IsWithin op.first op.last) op.command told.reply scans stopped shows h.lawful

pub returns-clause-leaves_out : goal.returns-clause-leaves_out
returns-clause-leaves_out c = λ v op told from after count columns ps key asks shows few walked stayed missing h.
    missing ((lawful_pairs v op told from after count columns ps asks shows h).whole key walked (λ full. absurd (omega (arith, few, full))) stayed)

pub returns-clause-makes_up : goal.returns-clause-makes_up
returns-clause-makes_up c = λ v op told from after count columns ps key asks shows has absent h.
    let first : Bytes × Stamped = (key, record { stamp = 0; row = [] }) in
    let within : has.0 < length ps = let count = length-map ps (λ (p : Bytes × Stamped). p.0) in let in_range = has.1 in omega (arith, count, in_range) in
    let real = (lawful_pairs v op told from after count columns ps asks shows h).real has.0 first within in
    let same : (get_or ps has.0 first).0 ≡ key = sym (get_or-map (λ (p : Bytes × Stamped). p.0) ps has.0 first key within) ∙ has.2 in
    let both = sym (absent real.0 real.1) ∙ ap (pairs.get (map_of v op.tenant real.0)) (sym same) ∙ real.2.1 in cc
