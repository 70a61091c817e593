-- One log more.
use Rattle.std.proofs.{Common.{rules, ◌≡◌, ◌+◌, ◌<◌, ◌∷◌, [], ◌++◌, ℕ, List, Option, Some, take, map, length, get_or, max, sym, ◌∙◌, ap, subst, arith}, lemmas.{List.{take_more, length-take-le, length-map}, Option.{slice_get-map, slice_get-get_or}}}
use Rattle.std.specs.{Prelude.slice_get, Option.option_map}
use Rattle.mt_log.specs.Contents.{contents_of}
use Rattle.mt_recover.specs.{Merges.{IsHighest, first_of}, declared.lanes.Lane.Lane}
use Rattle.std.proofs.lemmas.Bool.{true≢false}
use Rattle.mt_recover.proofs.{Places.there, LeastLemmas.{highest_on, highest_more}}
use Rattle.mt_recover.proofs.records.highest_with.Goals.{then-begins_with, else-begins_with}
use Rattle.mt_recover.proofs.records.highest_with.Goals as goal

pub loop-log-preserved : goal.loop-log-preserved
loop-log-preserved c =
    let k = c.loop-log.log in
    let logs = map contents_of c.args.fronts.now in
    let ls = take k c.args.lanes.now in
    let lane = c.index-lanes-log.result in
    let grown : take (k + 1) c.args.lanes.now ≡ ls ++ lane ∷ [] = take_more c.args.lanes.now k lane c.loop-log-test.true ∙ ap (λ (x : Lane). ls ++ x ∷ []) (sym c.index-lanes-log.is) in
    let whole : length ls ≡ k = length-take-le k c.args.lanes.now (omega (arith, c.loop-log-test.true)) in
    let done : IsHighest logs (ls ++ lane ∷ []) c.args.stamp c.if-begins_with.highest = elim c.if-begins_with.branch [
      | then-begins_with w ↦
          let front = get_or c.args.fronts.now k w.index-fronts-log.result in
          let some : k < length c.args.fronts.now = omega (arith, c.loop-log-test.true, c.requires) in
          let at : slice_get logs (length ls) ≡ Some (contents_of front) =
          ap (slice_get logs) whole ∙ slice_get-map contents_of c.args.fronts.now k ∙ ap (option_map contents_of) (slice_get-get_or c.args.fronts.now k w.index-fronts-log.result some) in
          subst (λ (n : ℕ). IsHighest logs (ls ++ lane ∷ []) c.args.stamp n) (search (rules, w.index-fronts-log.is, w.highest-is, w.max-highest.ensures))
          (highest_more ls lane logs c.args.stamp c.loop-log.highest c.loop-log.invariant (contents_of front) at (c.begins_with.ensures.0 w.if-begins_with.true))
      | else-begins_with w ↦
          let log = there logs (length ls) (omega (arith, whole, c.loop-log-test.true, c.requires, length-map c.args.fronts.now contents_of)) in
          subst (λ (n : ℕ). IsHighest logs (ls ++ lane ∷ []) c.args.stamp n) (sym w.highest-is) (highest_on ls lane logs c.args.stamp c.loop-log.highest c.loop-log.invariant log.0 log.1 (λ first. true≢false (sym (c.begins_with.ensures.1 first) ∙ w.if-begins_with.false)))
    ] in
    subst (λ (xs : List Lane). IsHighest logs xs c.args.stamp c.if-begins_with.highest) (sym grown) done
