-- A store whose second reading stopped: its logs were only read.
use Rattle.std.proofs.Common.{ℕ, false, List, ap, subst, ◌∙◌, ◌<◌}
use Rattle.mt_disk.specs.{declared.mem.MemDisk.MemDisk, Mem.mem_state}
use Rattle.mt_crashes.{specs.Stores.{LogNow, Store}, proofs.Invariant.within_place}
use Rattle.mt_chain_files.proofs.StillShown.{shown_again}
use Rattle.mt_store_logs.specs.{declared.store_log.StoreLog.StoreLog, Rereads.{LogIsRead, LogsAreRead}}
use Rattle.mt_lives.{specs.{Bases.Whole, Holds.IsLogDown}, proofs.{Flushing.{keeps_rules, failures_of, within}, Leaving.AllDown}}

-- a log that was only read stands as it stood
log_read_down : (g : ℕ) (h : Whole) (now : LogNow) (was is : StoreLog MemDisk) → LogIsRead keeps_rules mem_state failures_of false was is → IsLogDown g h now was → IsLogDown g h now is
log_read_down g h now was is read down = record {
  files = down.files;
  turn = down.turn;
  shows = shown_again keeps_rules mem_state failures_of false down.files was.log.files is.log.files read.files down.shows;
  begins = down.begins;
  owner = (ap (λ (l : StoreLog MemDisk). l.log.owner.worker) read.rest ∙ down.owner.0, ap (λ (l : StoreLog MemDisk). l.log.owner.logs) read.rest ∙ down.owner.1);
}

pub read_down : (g : ℕ) (h : Whole) (s : Store) (mid new : List (StoreLog MemDisk)) → LogsAreRead keeps_rules mem_state failures_of false mid new → AllDown g h s mid → AllDown g h s new
read_down g h s mid new read all worker now log there at =
    let was = within_place mid worker (subst (λ (n : ℕ). worker < n) read.len (within new worker log at)) in
    log_read_down g h now was.0 log (read.each worker was.0 log (within mid worker was.0 was.1) was.1 at) (all worker now was.0 there was.1)
