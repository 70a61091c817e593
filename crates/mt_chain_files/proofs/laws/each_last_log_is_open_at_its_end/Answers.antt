-- By the lemmas on each worker's last log.
use Rattle.mt_chain_files.proofs.Lasts as lasts
use Rattle.mt_chain_files.proofs.laws.each_last_log_is_open_at_its_end.Goals as goal

pub returns : goal.returns
returns q c slots old new chains opens =
    let is_honest = q.D.Disk.is_honest in
    let state = q.D.Disk.state in
    let failures = q.D.Disk.failures in (
      lasts.open_at_ends is_honest state failures slots old new chains opens,
      lasts.as_many_places is_honest state failures slots old new chains opens,
      lasts.as_many_chains is_honest state failures slots old new chains opens,
      lasts.as_many_begun is_honest state failures slots old new chains opens,
    )
