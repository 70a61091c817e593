use Rattle.std.proofs.Common.{sym, ◌∙◌}
use Rattle.mt_resp.proofs.Stars.{takes_on}
use Rattle.mt_resp.proofs.patterns.taken_part.Goals as goal

pub loop-rest-preserved : goal.loop-rest-preserved
loop-rest-preserved c =
    takes_on c.args.pattern.now c.args.text.now c.loop-rest.others.now c.loop-rest.rest.now c.in_ok-others.others.now c.in-len1-up.len_at_least (sym c.at_star.ensures ∙ c.if-at_star.false) (sym (rw c.in_ok-others.was at c.after_item.ensures)) c.loop-rest.invariant
