use Rattle.std.proofs.Common.{inl, inr, sym, ◌∙◌}
use Rattle.mt_readings.proofs.tenants.wrong_readings_are_refused.Goals as goal

pub returns-clause-missed : goal.returns-clause-missed
returns-clause-missed c = λ contents prefix layer fence after reached xs key row stored ahead upto there missing tells. elim (tells.whole key stored ahead upto) [
  | inl pair ↦ missing pair.x pair.among pair.has
  | inr absent ↦ let both = sym there ∙ absent in cc
]

pub returns-clause-missed_of_its_tenant : goal.returns-clause-missed_of_its_tenant
returns-clause-missed_of_its_tenant c = λ contents t prefix layer fence after reached xs key row stored own ahead upto there missing tells. elim (tells.whole key stored own ahead upto) [
  | inl pair ↦ missing pair.x pair.among pair.has
  | inr absent ↦ let both = sym there ∙ absent in cc
]

pub returns-clause-another_row : goal.returns-clause-another_row
returns-clause-another_row c = λ contents t prefix layer fence after reached xs x among other tells. let is = tells.real x among in other is.0 is.1 is.3
