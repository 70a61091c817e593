use Rattle.std.proofs.lemmas.Result.{IfOk-weaker}
use Rattle.mt_stored.proofs.PageKeys.{page_keys}
use Rattle.mt_stored.proofs.checkpoints.take_page.Goals as goal

pub returns-clause-keys : goal.returns-clause-keys
returns-clause-keys c =
    IfOk-weaker c.take.result _ _ (λ pairs takes. page_keys _ c.args.page.now _ _ pairs.items c.as_slice-pairs.ensures.limits takes) c.take.ensures.ok
