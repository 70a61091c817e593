-- What the calls in turn leave is what the cut leaves.
use Rattle.std.proofs.Common.{rules}
use Rattle.mt_disk.proofs.CutLaws.{cut_in_turn}
use Rattle.mt_disk.proofs.edit.cut_back.Goals as goal

pub returns-clause-items : goal.returns-clause-items
returns-clause-items c = cut_in_turn _ c.args.len _ (λ x b t y h.
    let met = h.called.met in
    let shows = h.shows in
    let leaves = h.leaves in
    (search rules, search rules, λ yes. search rules)) _ _ c.retain_mut.ensures.filtered
