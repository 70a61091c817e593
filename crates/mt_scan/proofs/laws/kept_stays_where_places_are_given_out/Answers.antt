use Rattle.mt_scan.proofs.Given.{check_given, kept_hop_given}
use Rattle.mt_scan.proofs.laws.kept_stays_where_places_are_given_out.Goals as goal

pub returns-clause-check : goal.returns-clause-check
returns-clause-check c = check_given

pub returns-clause-hop : goal.returns-clause-hop
returns-clause-hop c = kept_hop_given
