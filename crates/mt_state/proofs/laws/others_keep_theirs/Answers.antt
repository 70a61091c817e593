use Rattle.mt_state.proofs.{Stamps.stamped_now, Others.{kept_over, back_over}}
use Rattle.mt_state.proofs.Rely.{scan_stays, answer_stays}
use Rattle.mt_state.proofs.laws.others_keep_theirs.Goals as goal

pub returns-clause-kept : goal.returns-clause-kept
returns-clause-kept c = λ old new o q op before arena stamps g other later there back. kept_over old new o q before arena g other op there back (stamped_now new stamps arena) later

pub returns-clause-scanned : goal.returns-clause-scanned
returns-clause-scanned c = λ old new o q op arena stamps g other later. scan_stays old new o q arena (stamped_now new stamps arena) g other later op

pub returns-clause-remembered : goal.returns-clause-remembered
returns-clause-remembered c = λ old new o q op before facts g other there back. back_over old new o q before facts.arena g other op there back facts

pub returns-clause-answers : goal.returns-clause-answers
returns-clause-answers c = λ old new op told g. answer_stays old new g op told
