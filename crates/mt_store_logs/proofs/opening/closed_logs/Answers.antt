-- One log more is closed.
use Rattle.std.proofs.{Common.{◌≡◌, ◌∙◌, ◌++◌, ◌∷◌, [], length, vec_len, rules, sym, ap, subst, arith}, lemmas.List.length-append}
use Rattle.mt_turns.specs.Logs.{IsWith}
use Rattle.mt_store_logs.{specs.Opens.{IsClosedOn, AreClosedOn}, proofs.Closed.{SoFar, closed_more, closed_none, closed_all, none_left}}
use Rattle.mt_store_logs.proofs.opening.closed_logs.Goals as goal

pub loop-one-init : goal.loop-one-init
loop-one-init g c =
    let files = c.args.files.items in
    let rest = c.into_iter-one-iterator.ensures.into_iter_gives.0 in
    let none = c.new-logs.ensures.items in
    let a = ap length rest in
    let b = ap length none in
    record {
      so_far = subst (λ ls. SoFar (length files) files ls c.into_iter-one-iterator.result.rest.items) (sym none) (subst (λ fs. SoFar (length files) files [] fs) (sym rest) (closed_none (length files) files));
      count = omega (arith, a, b);
    }

pub loop-one-preserved : goal.loop-one-preserved
loop-one-preserved g c =
    let files = c.args.files.items in
    let logs = c.loop-one.logs.items in
    let one = c.in-Some.one in
    let new = c.new-in-loop-one.result in
    let rest = c.next.new.self.rest.items in
    let i = c.loop-one.invariant in
    let goes : c.loop-one.one-iterator.rest.items ≡ one ∷ rest = search rules in
    let pushed : c.push.new.self.items ≡ logs ++ new ∷ [] = c.in_ok-push.ensures.items in
    let longer = ap length pushed ∙ length-append logs (new ∷ []) in
    let shorter = ap length goes in
    let at = c.len-worker.ensures in
    let len = c.loop-one.logs.ok.0 in
    let count = i.count in
    let many = c.len-count.ensures in
    let size = c.args.files.ok.0 in
    let few = c.requires in
    let closed : IsClosedOn (length logs) (length files) one new = record {
      log = subst (λ l. IsWith (length logs) (length files) 0 one l) (sym c.new-in-loop-one.ensures.log)
          (record { worker = c.new.ensures.worker ∙ omega (arith, at, len); logs = c.new.ensures.logs ∙ omega (arith, many, size); generation = c.new.ensures.generation; files = c.new.ensures.files });
      none = c.new-in-loop-one.ensures.none;
      sure = c.new-in-loop-one.ensures.sure;
      oldest = c.new-in-loop-one.ensures.oldest ∙ c.new.ensures.generation;
    } in
    record {
      so_far =
          subst (λ items. SoFar (length files) files items rest) (sym pushed)
          (closed_more (length files) files logs one rest new closed (subst (λ fs. SoFar (length files) files logs fs) goes i.so_far));
      count = omega (arith, count, longer, shorter);
    }

pub returns-clause-logs : goal.returns-clause-logs
returns-clause-logs g c =
    let files = c.args.files.items in
    let logs = c.loop-one.logs.items in
    let no_more = c.in-None.ensures.steps.0 in
    let left = c.loop-one.one-iterator.rest.ok.0 in
    let none = none_left c.loop-one.one-iterator.rest.items (omega (arith, no_more, left)) in
    let size : length files ≡ vec_len c.args.files = sym c.args.files.ok.0 in
    subst (λ n. AreClosedOn n files logs) size (closed_all (length files) files logs (subst (λ fs. SoFar (length files) files logs fs) none c.loop-one.invariant.so_far))
