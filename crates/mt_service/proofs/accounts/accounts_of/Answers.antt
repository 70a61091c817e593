use Rattle.std.proofs.{Common.{refl, sym, subst}, lemmas.Option.slice_get-get_or}
use Rattle.mt_service.{specs.Faults.IsOfTenants, proofs.AccountLemmas.{had_none, at_fault, one_more}}
use Rattle.mt_service.proofs.accounts.accounts_of.Goals as goal

pub returns-in-Err : goal.returns-in-Err
returns-in-Err c = record {
  accounts = tt;
  empty = tt;
  fault =
      let there = slice_get-get_or c.args.tenants.now c.loop-one.one-index _ c.loop-one-test.true in
      subst (IsOfTenants c.args.tenants.now) (sym c.from.ensures) (at_fault _ _ _ _ c.in-Err.refusal there c.loop-one.invariant c.in-Err.ensures.no_other);
}

pub loop-one-preserved : goal.loop-one-preserved
loop-one-preserved c =
    let there = slice_get-get_or c.args.tenants.now c.loop-one.one-index _ c.loop-one-test.true in
    one_more _ _ _ _ _ there (had_none _ _ refl c.in-Ok.ensures.there) c.in-Ok.ensures.added c.in-Ok.ensures.others c.loop-one.invariant
