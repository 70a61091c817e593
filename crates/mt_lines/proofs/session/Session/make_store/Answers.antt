-- That a new store stands where tenants were gathered, and that none are from then on.
use Rattle.std.proofs.Common.{rules}
use Rattle.mt_lines.proofs.session.Session.make_store.Goals as goal

pub returns-in_ok-self-inside : goal.returns-in_ok-self-inside
returns-in_ok-self-inside c = search rules
