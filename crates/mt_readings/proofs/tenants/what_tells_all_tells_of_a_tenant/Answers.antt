use Rattle.mt_readings.proofs.Ends.{of_all}
use Rattle.mt_readings.proofs.tenants.what_tells_all_tells_of_a_tenant.Goals as goal

pub returns : goal.returns
returns c = λ all t prefix layer fence after reached es h. of_all all t prefix layer fence after reached es h
