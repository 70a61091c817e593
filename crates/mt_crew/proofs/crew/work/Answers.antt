use Rattle.std.proofs.Common.{sym, subst, ◌+◌}
use Rattle.mt_crew.specs.Servings.{IsServed}
use Rattle.mt_crew.proofs.Sessions.{session_counted, session_uncounted}
use Rattle.mt_crew.proofs.crew.work.Goals.{then-served-lt4294967295, else-served-lt4294967295}
use Rattle.mt_crew.proofs.crew.work.Goals as goal

pub loop-stream-preserved : goal.loop-stream-preserved
loop-stream-preserved g c =
    let serves = g.W.Worker.serves in
    let old = c.loop-stream.served in
    let is_right = c.serve-is_right.result in
    let new = c.serve-is_right.new.self in
    let so_far = c.loop-stream.invariant.served in
    let one_more = c.serve-is_right.ensures in
    record {
      can_next = tt;
      is_finite = tt;
      served =
          elim c.if-served-lt4294967295.branch [
            | then-served-lt4294967295 w ↦ subst (IsServed serves c.args.worker) (sym w.served-is) (subst (λ n. IsServed serves c.args.worker (record { worker = new; sessions = old.sessions + 1; others = old.others + n })) (sym w.from.ensures) (session_counted serves c.args.worker new old is_right so_far one_more w.if-served-lt4294967295.true))
            | else-served-lt4294967295 w ↦ subst (IsServed serves c.args.worker) (sym w.served-is) (session_uncounted serves c.args.worker new old is_right so_far one_more w.if-served-lt4294967295.false)
          ];
    }
