-- A worker's log whose files were taken out and put back, and the file for its next log opened in between.
use Rattle.std.proofs.Common.{◌≡◌, ◌⊎◌, inl, inr, ℕ, ◌+◌, ◌<◌, ◌≤◌, Bool, Option, Some, sym, ◌∙◌, ap, subst}
use Rattle.std.proofs.Math.Bridge.{le_prop}
use Rattle.mt_disk.specs.Disk.{DiskState}
use Rattle.mt_log_generations.specs.Headers.{parity_of}
use Rattle.mt_log.specs.declared.batch.Front.{Front}
use Rattle.mt_recover.specs.declared.resuming.LogSlot.{LogSlot}
use Rattle.mt_log_files.specs.{declared.worker.WorkerFiles.WorkerFiles, Slots.{disk_in, file_of, with_file, OpensNumbered}}
use Rattle.mt_turns.specs.{declared.log_owner.LogOwner.LogOwner, declared.worker_log.WorkerLog.WorkerLog, Logs.{next_of, TurnsTo}}
use Rattle.mt_store_logs.specs.{Places.no_files, Turns.{FindsNext, FindsNoNext}}

-- ---- whose log it is

abbrev owner : (w l : ℕ) → w < l → l ≤ 64 → LogOwner
owner w l whose few = record { worker = w; logs = l; whose = whose; few = few }

with_facts : (w l : ℕ) (h i : w < l) (f k : l ≤ 64) → owner w l h f ≡ owner w l i k
with_facts w l h i f k = λ j. owner w l (le_prop h i j) (le_prop f k j)

same_owner : (a b : LogOwner) → a.worker ≡ b.worker → a.logs ≡ b.logs → a ≡ b
same_owner a b w l =
    subst (λ (n : ℕ). (h : n < b.logs) → a ≡ owner n b.logs h b.few) w
    (λ h. subst (λ (m : ℕ). (i : a.worker < m) (f : m ≤ 64) → a ≡ owner a.worker m i f) l (λ i f. with_facts a.worker a.logs a.whose i a.few f) h b.few)
    b.whose

module _ {D : Type 0} where
  pub turned : (old new : WorkerLog D) (generation : ℕ) (files : WorkerFiles D) → new.owner.worker ≡ old.owner.worker → new.owner.logs ≡ old.owner.logs
      → new.generation ≡ generation → new.files ≡ files → TurnsTo generation files old new
  turned old new generation files w l last places =
      let whose = same_owner new.owner old.owner w l in
      λ i. record { owner = whose i; generation = last i; files = places i }

  -- ---- the file for the next log

  pub put_back : (old mid new : WorkerLog D) (taken files : WorkerFiles D) (g n : ℕ) → g ≡ old.generation → taken ≡ old.files → TurnsTo 0 no_files old mid
      → files ≡ with_file (g + 1) (file_of (g + 1) files) taken → TurnsTo n files mid new
      → TurnsTo n (with_file (old.generation + 1) (file_of (g + 1) files) old.files) old new
  put_back old mid new taken files g n same is away opened put =
      put
      ∙ ap (λ (l : WorkerLog D). record l { generation = n; files = files }) away
      ∙ ap (λ (fs : WorkerFiles D). record old { generation = n; files = fs })
      (opened
      ∙ ap (with_file (g + 1) (file_of (g + 1) files)) is
      ∙ ap (λ (m : ℕ). with_file (m + 1) (file_of (g + 1) files) old.files) same)

  module _ (is_honest : D → Bool) (state : D → DiskState) (failures : D → ℕ) where
    pub opens_next : (old : WorkerLog D) (taken : WorkerFiles D) (g : ℕ) (slot : LogSlot D) (found : Option Front) → g ≡ old.generation → taken ≡ old.files
        → OpensNumbered is_honest state failures (parity_of (g + 1)) (disk_in (file_of (g + 1) taken)) slot found
        → OpensNumbered is_honest state failures (parity_of (old.generation + 1)) (disk_in (next_of old)) slot found
    opens_next old taken g slot found same is opens =
        subst (λ (m : ℕ). OpensNumbered is_honest state failures (parity_of (m + 1)) (disk_in (file_of (m + 1) old.files)) slot found) same
        (subst (λ (fs : WorkerFiles D). OpensNumbered is_honest state failures (parity_of (g + 1)) (disk_in (file_of (g + 1) fs)) slot found) is opens)

    -- the log that was found is the last one, or none was
    pub finds : (old mid new : WorkerLog D) (taken files : WorkerFiles D) (g n : ℕ) (found : Option Front) → g ≡ old.generation → taken ≡ old.files
        → TurnsTo 0 no_files old mid → files ≡ with_file (g + 1) (file_of (g + 1) files) taken
        → OpensNumbered is_honest state failures (parity_of (g + 1)) (disk_in (file_of (g + 1) taken)) (file_of (g + 1) files) found
        → ((front : Front) × (found ≡ Some front) × (front.generation ≡ g + 1) × (n ≡ g + 1))
        ⊎ (((front : Front) → found ≡ Some front → front.generation ≡ g + 1 → ⊥) × (n ≡ g)) → TurnsTo n files mid new
        → FindsNext is_honest state failures old new ⊎ FindsNoNext is_honest state failures old new
    finds old mid new taken files g n found same is away opened opens (inl (front, some, of, last)) put =
        let slot = file_of (g + 1) files in
        let there = opens_next old taken g slot found same is opens in
        let stands = put_back old mid new taken files g n same is away opened put in
        inl (record {
          slot = slot;
          front = front;
          opens = record { opens = subst (OpensNumbered is_honest state failures (parity_of (old.generation + 1)) (disk_in (next_of old)) slot) some there };
          of = of ∙ ap (λ (m : ℕ). m + 1) same;
          stands = subst (λ (m : ℕ). TurnsTo m (with_file (old.generation + 1) slot old.files) old new) (last ∙ ap (λ (m : ℕ). m + 1) same) stands;
        })
    finds old mid new taken files g n found same is away opened opens (inr (none, last)) put =
        let slot = file_of (g + 1) files in
        let stands = put_back old mid new taken files g n same is away opened put in
        inr (record {
          slot = slot;
          found = found;
          opens = record { opens = opens_next old taken g slot found same is opens };
          none = λ front some of. none front some (of ∙ ap (λ (m : ℕ). m + 1) (sym same));
          stands = subst (λ (m : ℕ). TurnsTo m (with_file (old.generation + 1) slot old.files) old new) (last ∙ same) stands;
        })
