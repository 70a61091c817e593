use Rattle.mt_state.proofs.ScanChecks.{check_shows}
use Rattle.mt_state.proofs.scans.a_scan_shows_pairs.Goals as goal

pub returns : goal.returns
returns c = λ core o op from after count columns task w scan h few there at_check asks check still same ends.
    check_shows core o h few op there at_check from after count columns asks task.key still.stored w scan same check ends
