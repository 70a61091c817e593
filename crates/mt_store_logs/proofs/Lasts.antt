-- A worker's last log that was taken out and put back: its other files stay.
use Rattle.std.proofs.Common.{◌≡◌, refl, sym, ◌∙◌, ap, subst}
use Rattle.mt_recover.specs.{declared.resuming.LogSlot.LogSlot, declared.resuming.LogSlot.TheVariants.Away}
use Rattle.mt_log_files.specs.{declared.worker.WorkerFiles.WorkerFiles, Slots.with_file}
use Rattle.mt_turns.specs.declared.worker_log.WorkerLog.{WorkerLog}
use Rattle.mt_turns.proofs.Places.{file_is, file_again}
use Rattle.mt_store_logs.specs.{declared.last_log.LastLog.LastLog, declared.store_log.StoreLog.StoreLog}
use Rattle.mt_store_logs.specs.Places.{log_with, worker_of, slot_of, last_log_of, with_last, without_last, OnLast}

module _ {D : Type 0} where
  abbrev back : LastLog D → StoreLog D → StoreLog D
  back last old = with_last last (without_last old)

  slot_back : (old : StoreLog D) (last : LastLog D) → slot_of (back last old) ≡ last.slot
  slot_back old last = file_is old.log.generation last.slot (with_file old.log.generation Away old.log.files)

  pub last_back : (old : StoreLog D) (last : LastLog D) → last.worker ≡ worker_of old → last.generation ≡ old.log.generation → last ≡ last_log_of (back last old)
  last_back old last whose of = λ i. log_with (whose i) (of i) (sym (slot_back old last) i) last.kept

  abbrev with_files : StoreLog D → WorkerFiles D → WorkerLog D
  with_files old files = record old.log { generation = old.log.generation; files = files }

  pub on_last : (Does : LastLog D → LastLog D → Type 0) (old : StoreLog D) (last : LastLog D) (new : StoreLog D) → new ≡ back last old
      → last.worker ≡ worker_of old → last.generation ≡ old.log.generation → Does (last_log_of old) last → OnLast Does old new
  on_last Does old last new is whose of does = subst (OnLast Does old) (sym is) (record {
    does = subst (Does (last_log_of old)) (last_back old last whose of) does;
    rest =
        ap (with_files old) (file_again old.log.generation last.slot Away old.log.files)
        ∙ ap (λ (s : LogSlot D). with_files old (with_file old.log.generation s old.log.files)) (sym (slot_back old last));
    doubts = refl;
    oldest = refl;
  })

  -- it was taken out, something was made of it, and it was put back
  pub taken_and_put : (Does : LastLog D → LastLog D → Type 0) (old mid new : StoreLog D) (taken last : LastLog D) → taken ≡ last_log_of old → mid ≡ without_last old
      → new ≡ with_last last mid → last.worker ≡ taken.worker → last.generation ≡ taken.generation → Does taken last → OnLast Does old new
  taken_and_put Does old mid new taken last is gone put whose of does =
      on_last Does old last new (put ∙ ap (with_last last) gone) (whose ∙ ap (λ (l : LastLog D). l.worker) is) (of ∙ ap (λ (l : LastLog D). l.generation) is)
      (subst (λ (l : LastLog D). Does l last) is does)
