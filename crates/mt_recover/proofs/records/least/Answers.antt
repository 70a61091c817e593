-- One log more.
use Rattle.std.proofs.{Common.{rules, ◌≡◌, ◌+◌, ◌<◌, ◌∷◌, [], ◌++◌, ℕ, List, Option, Some, None, take, length, get_or, sym, ◌∙◌, ap, subst, arith, refl}, lemmas.List.{take_more, length-take-le}}
use Rattle.mt_recover.specs.{Merges.{IsLeast, first_of, lesser}, declared.{lanes.Lane.Lane, records.Next.Next}}
use Rattle.mt_recover.proofs.LeastLemmas.{least_on, least_more, first_some, first_none}
use Rattle.mt_recover.proofs.records.least.Goals.{in-Some, in_default}
use Rattle.mt_recover.proofs.records.least.Goals as goal

pub loop-log-preserved : goal.loop-log-preserved
loop-log-preserved c =
    let k = c.loop-log.log in
    let ls = take k c.args.lanes.now in
    let lane = c.index-lanes-log.result in
    let grown : take (k + 1) c.args.lanes.now ≡ ls ++ lane ∷ [] = take_more c.args.lanes.now k lane c.loop-log-test.true ∙ ap (λ (x : Lane). ls ++ x ∷ []) (sym c.index-lanes-log.is) in
    let whole : length ls ≡ k = length-take-le k c.args.lanes.now (omega (arith, c.loop-log-test.true)) in
    let read = get_or c.args.lanes.now k lane in
    let here : first_of lane.left.items ≡ first_of read.left.items = ap (λ (l : Lane). first_of l.left.items) c.index-lanes-log.is in
    let was : IsLeast ls c.loop-log.least = c.loop-log.invariant in
    let done : IsLeast (ls ++ lane ∷ []) c.match-front.least = elim c.match-front.branch [
      | in-Some w ↦
          subst (λ (o : Option Next). IsLeast (ls ++ lane ∷ []) o)
          (ap (λ (n : ℕ). Some (lesser c.loop-log.least n w.in-Some.record.now.stamp)) whole ∙ ap (λ (n : Next). Some n) (sym w.lesser.ensures) ∙ sym w.least-is)
          (least_more ls lane w.in-Some.record.now.stamp (here ∙ first_some read.left.items w.in-Some.record.now w.in-Some.ensures.item.3.0 w.in-Some.ensures.item.1) c.loop-log.least was)
      | in_default w ↦ subst (λ (o : Option Next). IsLeast (ls ++ lane ∷ []) o) (sym w.least-is) (least_on ls lane c.loop-log.least was (here ∙ first_none read.left.items w.in_default.ensures.item.3))
    ] in
    let all : IsLeast (take (k + 1) c.args.lanes.now) c.match-front.least = subst (λ (xs : List Lane). IsLeast xs c.match-front.least) (sym grown) done in
    all
