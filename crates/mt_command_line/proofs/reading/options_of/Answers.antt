use Rattle.std.{proofs.Common.{◌≡◌, ◌∙◌, ap, arith, codes, rules, subst, Err, List, []}, specs.Str.Parse.{ParsesUnsigned, ExplainsUnsignedError, HasUnsignedDigitsIfOk}}
use Rattle.clap.specs.Words.{Text, found_of}
use Rattle.mt_options.specs.Tenants.{AreTenants}
use Rattle.mt_command_line.specs.declared.faults.OptionsFault.{OptionsFault}
use Rattle.mt_command_line.specs.declared.faults.OptionsFault.TheVariants.{CreateAlone, CheckpointAlone, CheckpointBytesAlone, SettleEveryAlone, VerifyAndServe, Memory}
use Rattle.mt_command_line.{specs.{CommandLine.{faults_in, found_in, tenant_words}, Given.IsGiven, Reads.{IsFoldersFault, IsTold, NamesFolders}}, proofs.MatchLemmas.number_is}
use Rattle.mt_command_line.proofs.reading.options_of.Goals as goal

-- a fault of the folders is one that the command line has
told : (words : List Text) (fault : OptionsFault) → faults_in words ≡ [] → IsFoldersFault (found_in words) fault → IsTold words fault
told words CreateAlone faultless is = (faultless, is)
told words CheckpointAlone faultless is = (faultless, is)
told words CheckpointBytesAlone faultless is = (faultless, is)
told words SettleEveryAlone faultless is = (faultless, is)
told words VerifyAndServe faultless is = (faultless, is)
told words Memory faultless is = tt
told words fault faultless is = absurd is.1

pub returns-in_err-verify : goal.returns-in_err-verify
returns-in_err-verify c = λ words are.
    let is : c.from_residual-in_err-verify.result ≡ Err c.in_err-verify.field-0.0 = search rules in
    rw is (told words c.in_err-verify.field-0.0 are.faultless (subst (λ rows. IsFoldersFault rows c.in_err-verify.field-0.0) are.rows (c.in_err-verify.ensures are.may)))

pub returns : goal.returns
returns c = λ words are.
    let found = found_of c.args.matches.now in
    let port = number_is _ (λ bs r. ParsesUnsigned 16 10 bs r × ExplainsUnsignedError 10 bs r × HasUnsignedDigitsIfOk bs r) 16 0 65535 7411
    found (codes "port") (found_in words) c.get_one.result (λ t x g. g.0) (omega arith) c.get_one.ensures.value are.port are.rows in
    let workers = number_is _ (λ bs r. ParsesUnsigned 8 10 bs r × ExplainsUnsignedError 10 bs r × HasUnsignedDigitsIfOk bs r) 8 1 64 4
    found (codes "workers") (found_in words) c.get_one-2.result (λ t x g. g.0) (omega arith) c.get_one-2.ensures.value are.workers are.rows in
    let sessions = number_is _ (λ bs r. ParsesUnsigned 32 10 bs r × ExplainsUnsignedError 10 bs r × HasUnsignedDigitsIfOk bs r) 32 0 4294967295 0
    found (codes "sessions") (found_in words) c.get_one-3.result (λ t x g. g.0) (omega arith) c.get_one-3.ensures.value are.sessions are.rows in
    let given : IsGiven (codes "workers") 1 64 (found_in words) c.unwrap_or-2.result = rw c.unwrap_or-2.ensures workers in
    let same : c.clamp.result ≡ c.unwrap_or-2.result = c.clamp.ensures ∙ omega (arith, given.4, given.5) in
    let connections = c.in_ok-connections.ensures.asked words are in
    record {
      faultless = are.faultless;
      port = rw c.unwrap_or.ensures port;
      workers = rw same given;
      sessions = rw c.unwrap_or-3.ensures sessions;
      connections = connections.0;
      ends_silent = connections.1;
      folders = subst (λ rows. NamesFolders rows c.in_ok-verify.verify c.in_ok-verify.store) are.rows (c.in_ok-verify.ensures are.may);
      tenants = subst (λ ws. AreTenants ws c.in_ok-tenants.tenants.items) (ap tenant_words are.rows) c.in_ok-tenants.ensures;
    }
