-- A store was read, and its report stands after what was said of its files; or why it was not read.
use Rattle.std.proofs.{Common.{◌≡◌, ◌∙◌, Err, List, length, ap, subst}, lemmas.Result.err_from_is_err_and}
use Rattle.mt_options.specs.declared.tenants.TenantQuota.{TenantQuota}
use Rattle.mt_streams.proofs.StreamLemmas.{Appends-trans}
use Rattle.mt_service.{specs.Accounts.AreAccountsOf, proofs.TellingStores.{told_of_text, told_of_reading}}
use Rattle.mt_service.proofs.verifying.verify_store.Goals as goal

pub returns-in-Ok-recover_in-clause-ok : goal.returns-in-Ok-recover_in-clause-ok
returns-in-Ok-recover_in-clause-ok g c =
    record {
      accounts = c.in_ok-tenants.tenants;
      tenants = subst (λ (ts : List TenantQuota). AreAccountsOf (length ts) ts c.in_ok-tenants.tenants) c.as_slice.ensures.value c.in_ok-tenants.ensures.accounts;
      state = c.in-Ok-recover_in.store.source.state;
      logs = c.in-Ok-recover_in.store.logs.items;
      slots = c.in-Ok-recover_in.store.slots;
      recovered = c.in-Ok-recover_in.ensures.ok;
      files = c.as_str.result.now;
      report = c.in_ok-_report-in-Ok-recover_in._report;
      steps = c.in_ok-_report-in-Ok-recover_in.ensures.steps;
      count = c.in_ok-_report-in-Ok-recover_in.ensures.tenants ∙ ap length c.as_slice-in-Ok-recover_in.ensures.value;
      says = Appends-trans _ _ _ _ _ c.in_ok-say.ensures.ok c.in_ok-_report-in-Ok-recover_in.ensures.ok;
    }

pub returns-in_err-_report-in-Ok-recover_in-clause-fault : goal.returns-in_err-_report-in-Ok-recover_in-clause-fault
returns-in_err-_report-in-Ok-recover_in-clause-fault g c =
    let p = err_from_is_err_and c.from_residual-in_err-_report-in-Ok-recover_in.result c.from_residual-in_err-_report-in-Ok-recover_in.ensures.1 in
    let is : c.from_residual-in_err-_report-in-Ok-recover_in.result ≡ Err c.in_err-_report-in-Ok-recover_in.field-0.0 = p.1 ∙ ap Err p.2 in
    rw is (told_of_text c.args.options.now c.args.folder.now _ _ _ _ c.in_ok-say.ensures.failures c.in_err-_report-in-Ok-recover_in.ensures.cause)

pub returns-clause-fault : goal.returns-clause-fault
returns-clause-fault g c =
    told_of_reading c.args.options.now c.in_ok-tenants.tenants c.args.folder.now _ c.in-Err-recover_in.fault c.told_of-in-Err-recover_in.result
    (subst (λ (ts : List TenantQuota). AreAccountsOf (length ts) ts c.in_ok-tenants.tenants) c.as_slice.ensures.value c.in_ok-tenants.ensures.accounts) c.in-Err-recover_in.ensures.err c.told_of-in-Err-recover_in.ensures
