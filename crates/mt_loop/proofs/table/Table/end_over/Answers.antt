use Rattle.std.proofs.Common.{sym, ap, ◌∙◌, rules}
use Rattle.slab.specs.Slab.{get}
use Rattle.mt_loop.specs.Limits.{IsOver}
use Rattle.mt_loop.proofs.Looks.{retained}
use Rattle.mt_loop.proofs.table.Table.end_over.Goals as goal

pub returns-clause-ended : goal.returns-clause-ended
returns-clause-ended g c = λ key entry found.
    (retained _ (IsOver c.args.self.now.idle_seconds c.args.now) _ (λ key shown left keep next called. search rules) _ _ 0 c.retain.ensures.retained key entry).0 (ap (λ s. get s key) (sym c.count.ensures.entries) ∙ found)

pub returns-clause-kept : goal.returns-clause-kept
returns-clause-kept g c = λ key entry found over.
    ap (λ s. get s key) c.count.ensures.entries ∙ (retained _ (IsOver c.args.self.now.idle_seconds c.args.now) _ (λ key shown left keep next called. search rules) _ _ 0 c.retain.ensures.retained key entry).1 found over
