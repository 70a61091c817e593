-- What appends, drains and reopenings make of a worker's log in its part of a turn.
use Rattle.std.proofs.Common.{◌≡◌, ◌≢◌, ◌⊎◌, ⊎_elim, ℕ, Bool, true, false, Some, None, sym, ◌∙◌}
use Rattle.std.proofs.lemmas.Option.{same_Some}
use Rattle.mt_rows.specs.{declared.record.Batch.Batch, declared.refusal.Refusal.Refusal}
use Rattle.mt_batches.specs.Batches.{IsInOrder}
use Rattle.mt_disk.specs.{declared.mem.MemDisk.MemDisk, Mem.mem_state}
use Rattle.mt_log.specs.Contents.{mark_of}
use Rattle.mt_crashes.{specs.Stores.LogNow, proofs.Members.no_some}
use Rattle.mt_recover.specs.{declared.resuming.LogSlot.LogSlot, declared.resuming.LogSlot.TheVariants.{Open, Failed, Closed, Away}}
use Rattle.mt_log_files.specs.Shows.{Shows, IsHonest}
use Rattle.mt_chain_files.specs.Turns.{FilesNow}
use Rattle.mt_store_logs.specs.{declared.store_log.StoreLog.StoreLog, Places.{slot_of, mark_in, OnLast}, Waits.{AppendsKept, FailsToAppend}}
use Rattle.mt_store_logs.specs.{Turns.{ReopensLog, FailsToReopenLog}, Shows.{WaitsIn, drained_upto, IsIn, IsInDoubt, ComesToRest}}
use Rattle.mt_store_logs.specs.Ends.{StandsInTurn, KeepStarts, keeping}
use Rattle.mt_store_logs.proofs.{EndLaws.{mark, waits}, TurnLaws.{where_is, is_sure, drained_in_turn, append_in_turn, append_failed_in_turn}}
use Rattle.mt_store_logs.proofs.NextLaws.{reopened_in_turn, not_reopened_in_turn}
use Rattle.mt_lives.{specs.{Lives.IsMemoryOrDevice}, proofs.Turning.part_kept}
use Rattle.mt_rows.specs.declared.refusal.Refusal.TheVariants as refusals
use Rattle.mt_lives.specs.Turning.{Part, IsPart}

-- disks in memory keep the rules
abbrev pub keeps_rules : MemDisk → Bool
keeps_rules d = true

abbrev pub failures_of : MemDisk → ℕ
failures_of d = d.failures

no_both : (b : Bool) → b ≡ true → b ≡ false → ⊥
no_both true a b = absurd cc
no_both false a b = absurd cc

-- ---- a worker's log in a turn

-- it stands so, and its files are in this part
pub record IsAt (from : ℕ) (part : Part) (now : LogNow) (log : StoreLog MemDisk) : Type 0 where
  pub files : FilesNow
  pub stands : StandsInTurn keeps_rules mem_state from now files log
  pub begins : IsPart from part files

module _ (from : ℕ) (part : Part) (now : LogNow) (log : StoreLog MemDisk) (at : IsAt from part now log) where
  -- what waits for it goes on where it ends
  pub waiting : WaitsIn now log.kept
  waiting = let s = at.stands.stands in waits now s.last log.kept s.is_end s.stands.waits

  pub place_shows : (last : LogNow) × Shows mem_state last (slot_of log) × IsHonest keeps_rules (slot_of log)
  place_shows = let s = at.stands.stands in (s.last, s.stands.shows, s.stands.honest)

  -- its last log is closed as long as the next one may be there
  pub shut_in_doubt : log.next_in_doubt ≡ true → mark_in (slot_of log) ≡ None
  shut_in_doubt doubt = ⊎_elim
      (λ sure. absurd (no_both log.next_in_doubt doubt (is_sure keeps_rules mem_state sure.0 from at.files log sure.1)))
      (λ unsure. unsure.2.shut)
      (where_is keeps_rules mem_state from now at.files log at.stands)

-- the mark of an open log
last_mark : (last : LogNow) (slot : LogSlot MemDisk) (n : ℕ) → Shows mem_state last slot → mark_in slot ≡ Some n → (last.doubt ≡ None) × (n ≡ mark_of last.had)
last_mark last (Open log) n shows is = (shows.0, sym (same_Some log.mark n is) ∙ shows.1.mark)
last_mark last (Failed log) n shows is = absurd (no_some n is)
last_mark last (Closed disk) n shows is = absurd (no_some n is)
last_mark last Away n shows is = absurd shows

-- an open log is at rest, and goes up to its mark
pub open_mark : (from : ℕ) (part : Part) (now : LogNow) (log : StoreLog MemDisk) (n : ℕ) → IsAt from part now log → mark_in (slot_of log) ≡ Some n
    → (now.doubt ≡ None) × (n ≡ mark_of now.had)
open_mark from part now log n at is =
    let s = at.stands.stands in
    let m = last_mark s.last (slot_of log) n s.stands.shows is in
    (sym s.is_end.doubt ∙ m.0, m.1 ∙ mark now s.last s.is_end)

-- ---- what is done to it

module _ (from : ℕ) (part : Part) (now : LogNow) (old new : StoreLog MemDisk) (at : IsAt from part now old) where
  -- with these files it is in the same part
  then_at : (next : LogNow) (files : FilesNow) → StandsInTurn keeps_rules mem_state from next files new → KeepStarts at.files files → IsAt from part next new
  then_at next files stands keep = record { files = files; stands = stands; begins = part_kept from part at.files files keep at.begins }

  pub appended_in : OnLast (AppendsKept keeps_rules mem_state failures_of) old new
      → (next : LogNow) × IsAt from part next new × IsIn old.kept now next × (drained_upto next new.kept ≡ drained_upto now old.kept)
  appended_in on =
      let r = append_in_turn keeps_rules mem_state failures_of from now at.files old new at.stands on in
      (r.0, then_at r.0 r.1 r.2 r.3, r.4, r.5)

  pub not_appended_in : (e : Refusal) → OnLast (FailsToAppend keeps_rules mem_state failures_of e) old new
      → (next : LogNow) × IsAt from part next new × IsInDoubt old.kept now next × (new.kept ≡ old.kept) × ((n : ℕ) → e ≢ refusals.WrongTurn n)
  not_appended_in e on =
      let r = append_failed_in_turn keeps_rules mem_state failures_of from now at.files e old new at.stands on in
      (r.0, then_at r.0 r.1 r.2 r.3, r.4, r.5, r.6)

  pub reopened_in : ReopensLog keeps_rules mem_state failures_of old new
      → (mid next : LogNow) × ComesToRest now mid × IsAt from part next new × IsIn old.kept mid next × (drained_upto next new.kept ≡ drained_upto now old.kept)
  reopened_in opens =
      let r = reopened_in_turn keeps_rules mem_state failures_of from now at.files old new at.stands opens in
      (r.0, r.1, r.3, then_at r.1 r.2 r.4 r.5, r.6, r.7)

  pub not_reopened_in : (e : Refusal) → FailsToReopenLog keeps_rules mem_state failures_of e old new
      → (mid next : LogNow) × (mid ≡ now ⊎ ComesToRest now mid) × IsAt from part next new × IsInDoubt old.kept mid next × (new.kept ≡ old.kept)
      × IsMemoryOrDevice e
  not_reopened_in e f =
      let r = not_reopened_in_turn keeps_rules mem_state failures_of from now at.files e old new at.stands f in
      (r.0, r.1, r.3, then_at r.1 r.2 r.4 r.5, r.6, r.7, r.8)

pub drained_in : (from : ℕ) (part : Part) (now : LogNow) (log : StoreLog MemDisk) (b : Batch) → IsAt from part now log → log.kept ≡ None → IsInOrder b
    → b.from ≡ drained_upto now log.kept → IsAt from part now (keeping b log)
drained_in from part now log b at none order turn = record {
  files = at.files;
  stands = drained_in_turn keeps_rules mem_state from now at.files log b at.stands none order turn;
  begins = at.begins;
}
