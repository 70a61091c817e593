-- What all files of a worker's log show after they were made or opened, and after they have crashed.
use Rattle.std.proofs.Common.{◌≡◌, ◌⊎◌, ⊎_elim, inl, inr, ℕ, ◌+◌, [], Bool, IsTrue, true, false, Option, Some, None, refl, sym, ◌∙◌, ap, subst, arith}
use Rattle.std.proofs.lemmas.List.{append-nil}
use Rattle.mt_rows.specs.Rows.{Bytes}
use Rattle.mt_disk.specs.{declared.mem.MemDisk.MemDisk, Disk.{DiskState, LeavesOnly, found_with, moments}, Mem.mem_state}
use Rattle.mt_disk.proofs.CrashLaws.{started}
use Rattle.mt_gates.specs.Gates.{IsLeftOf}
use Rattle.mt_log_generations.specs.declared.header.{Parity.Parity, Parity.TheVariants.{Even, Odd}}
use Rattle.mt_log.specs.{Contents.{Contents, no_batches}, Numbered.text_of}
use Rattle.mt_crashes.{specs.Stores.{LogNow, at_rest}, proofs.Members.no_some}
use Rattle.mt_generations.specs.Chains.{EndsLog}
use Rattle.mt_recover.specs.{declared.resuming.LogSlot.LogSlot, declared.resuming.LogSlot.TheVariants.{Open, Failed, Closed, Away}}
use Rattle.mt_slots.specs.Crashes.{IsFoundWith}
use Rattle.mt_log_files.specs.{declared.worker.WorkerFiles.WorkerFiles, Slots.file_of, Shows.{Shows, IsHonest}, Files.{FileNow, Spare, Has, MayHave, LeavesText, ShowsFile}}
use Rattle.mt_chain_files.{specs.Turns.{FilesNow, now_of, AreOfTurn, ShowsPlain, ShowFiles}, proofs.TurnLaws.first_turn}
use Rattle.mt_store_logs.specs.{declared.crashing.FileImages.FileImages, declared.store_log.StoreLog.StoreLog, Places.{disk_in, worker_of, slot_of}}
use Rattle.mt_store_logs.specs.{Crashes.{IsCrashedOn, IsCrashed}, Opens.{MakesSpare, MakesLog}, Ends.{Rests, IsNextFile, StandsInTurn}, Shows.WaitsIn}
use Rattle.mt_store_logs.proofs.{CallerLemmas.{makes, crashed}, EndLaws.itself, FilePlaces.has_shown}

-- ---- a crash

abbrev keeps_rules : MemDisk → Bool
keeps_rules d = true

found_leaves : (P : Bytes → Type 0) (image : Bytes) → P image → LeavesOnly P (found_with image) (found_with image)
found_leaves P image has = record {
  so_far = record { since = []; goes_on = sym (append-nil (moments (found_with image))); each = λ k d within. absurd (omega (arith, within)) };
  now = λ left may. subst P (sym (may.untouched refl)) has;
  reads = record { untouched = λ none. refl; keeps = λ place within clean. refl };
}

crashed_text : (c : Contents) (image : Bytes) (old disk : MemDisk) → LeavesText mem_state c old → IsFoundWith image old disk → LeavesText mem_state c disk
crashed_text c image old disk l found = record {
  first = found_with image;
  leaves = subst (λ (s : DiskState). LeavesOnly (IsLeftOf (text_of c)) (found_with image) s) (sym found.state)
      (found_leaves (IsLeftOf (text_of c)) image (l.leaves.now image found.left));
}

crashed_honest : (image : Bytes) (disk : Option MemDisk) (new : LogSlot MemDisk) → IsCrashedOn image disk new → IsHonest keeps_rules new
crashed_honest image None new found = absurd found
crashed_honest image (Some old) (Closed disk) found = refl
crashed_honest image (Some old) (Open log) found = absurd found
crashed_honest image (Some old) (Failed log) found = absurd found
crashed_honest image (Some old) Away found = absurd found

crashed_spare : (parity : Parity) (image : Bytes) (old new : LogSlot MemDisk) → ShowsFile mem_state parity Spare old → IsCrashedOn image (disk_in old) new
    → ShowsFile mem_state parity Spare new
crashed_spare parity image (Closed old) (Closed disk) shows found = λ c is. crashed_text c image old disk (shows c is) found
crashed_spare parity image (Closed old) (Open log) shows found = absurd found
crashed_spare parity image (Closed old) (Failed log) shows found = absurd found
crashed_spare parity image (Closed old) Away shows found = absurd found
crashed_spare parity image (Open log) new shows found = absurd shows
crashed_spare parity image (Failed log) new shows found = absurd shows
crashed_spare parity image Away new shows found = absurd shows

crashed_may : (parity : Parity) (c : Contents) (image : Bytes) (old new : LogSlot MemDisk) → ShowsFile mem_state parity (MayHave c) old
    → IsCrashedOn image (disk_in old) new → ShowsFile mem_state parity (MayHave c) new
crashed_may parity c image (Closed old) (Closed disk) shows found = (shows.0, crashed_text c image old disk shows.1 found)
crashed_may parity c image (Closed old) (Open log) shows found = absurd found
crashed_may parity c image (Closed old) (Failed log) shows found = absurd found
crashed_may parity c image (Closed old) Away shows found = absurd found
crashed_may parity c image (Open log) new shows found = absurd shows
crashed_may parity c image (Failed log) new shows found = absurd shows
crashed_may parity c image Away new shows found = absurd shows

crashed_file : (parity : Parity) (file : FileNow) (image : Bytes) (old new : LogSlot MemDisk) → ShowsFile mem_state parity file old
    → IsCrashedOn image (disk_in old) new → ShowsFile mem_state parity file new
crashed_file parity Spare image old new shows found = crashed_spare parity image old new shows found
crashed_file parity (Has now) image old new shows found = (crashed now image old new shows.0 found, shows.1)
crashed_file parity (MayHave c) image old new shows found = crashed_may parity c image old new shows found

crashed_plain : (file : FileNow) (image : Bytes) (old new : LogSlot MemDisk) → ShowsPlain keeps_rules mem_state file old → IsCrashedOn image (disk_in old) new
    → ShowsPlain keeps_rules mem_state file new
crashed_plain Spare image old new shows found = tt
crashed_plain (Has now) image old new shows found = (crashed_honest image (disk_in old) new found, crashed now image old new shows.1 found)
crashed_plain (MayHave c) image old new shows found = tt

pub crashed_files : (files : FilesNow) (images : FileImages) (old new : StoreLog MemDisk) → ShowFiles (λ (d : MemDisk). true) mem_state files old.log.files
    → IsCrashed images old new → ShowFiles (λ (d : MemDisk). true) mem_state files new.log.files
crashed_files files images old new shows c = record {
  plain = crashed_plain files.plain images.plain.items old.log.files.plain new.log.files.plain shows.plain c.files.plain;
  even = (
    crashed_honest images.even.items (disk_in old.log.files.even) new.log.files.even c.files.even,
    crashed_file Even files.even images.even.items old.log.files.even new.log.files.even shows.even.1 c.files.even,
  );
  odd = (
    crashed_honest images.odd.items (disk_in old.log.files.odd) new.log.files.odd c.files.odd,
    crashed_file Odd files.odd images.odd.items old.log.files.odd new.log.files.odd shows.odd.1 c.files.odd,
  );
}

-- ---- a log that was made

module _ {D : Type 0} (is_honest : D → Bool) (state : D → DiskState) (failures : D → ℕ) where
  spare_of : (parity : Parity) (disk : D) (new : LogSlot D) → IsTrue (is_honest disk) → MakesSpare is_honest state failures (Some disk) new
      → IsHonest is_honest new × ShowsFile state parity Spare new
  spare_of parity disk (Closed new) honest made =
      let gone = made.gone honest in (
        subst IsTrue (sym made.honest) honest,
        λ c is. record { first = state new; leaves = started (IsLeftOf (text_of c)) (state new) gone.durable (inl (record { behind = []; whole = gone.image })) },
      )
  spare_of parity disk (Open log) honest made = absurd made
  spare_of parity disk (Failed log) honest made = absurd made
  spare_of parity disk Away honest made = absurd made

  made_spare : (parity : Parity) (old new : LogSlot D) → IsHonest is_honest old → MakesSpare is_honest state failures (disk_in old) new
      → IsHonest is_honest new × ShowsFile state parity Spare new
  made_spare parity (Open log) new honest made = spare_of parity log.disk new honest made
  made_spare parity (Failed log) new honest made = spare_of parity log.disk new honest made
  made_spare parity (Closed disk) new honest made = spare_of parity disk new honest made
  made_spare parity Away new honest made = absurd honest

  -- the disks of all three files keep the rules
  abbrev AreHonest : WorkerFiles D → Type 0
  AreHonest files = IsHonest is_honest files.plain × IsHonest is_honest files.even × IsHonest is_honest files.odd

  abbrev first_log : ℕ → ℕ → LogNow
  first_log worker count = at_rest (no_batches worker count)

  abbrev first_files : ℕ → ℕ → FilesNow
  first_files worker count = record { plain = Has (first_log worker count); even = Spare; odd = Spare }

  pub made_files : (worker count : ℕ) (old new : StoreLog D) → AreHonest old.log.files → MakesLog is_honest state failures worker count old new
      → AreOfTurn 0 (first_log worker count) (first_files worker count) × ShowFiles is_honest state (first_files worker count) new.log.files
  made_files worker count old new honest made = (
    first_turn (first_log worker count) refl,
    record {
      plain = makes is_honest state failures worker count old.log.files.plain new.log.files.plain honest.0 made.does.plain;
      even = made_spare Even old.log.files.even new.log.files.even honest.1 made.does.even;
      odd = made_spare Odd old.log.files.odd new.log.files.odd honest.2 made.does.odd;
    },
  )

  -- the place of the last log is that of the plain file
  last_is_plain : (new : StoreLog D) → new.log.generation ≡ 0 → new.log.files.plain ≡ slot_of new
  last_is_plain new of = ap (λ (n : ℕ). file_of n new.log.files) (sym of)

  pub made_in_turn : (worker count : ℕ) (old new : StoreLog D) → AreHonest old.log.files → worker_of old ≡ worker → old.log.owner.logs ≡ count
      → new.next_in_doubt ≡ false → MakesLog is_honest state failures worker count old new
      → StandsInTurn is_honest state 0 (first_log worker count) (first_files worker count) new
  made_in_turn worker count old new honest whose many sure made =
      let files = made_files worker count old new honest made in
      let slot = last_is_plain new made.log.generation in
      let now = first_log worker count in
      record {
        stands = record {
          last = now;
          is_end = itself now;
          of = sym made.log.generation;
          stands = record {
            honest = subst (IsHonest is_honest) slot files.1.plain.0;
            shows = subst (Shows state now) slot files.1.plain.1;
            waits = subst (WaitsIn now) (sym made.none) refl;
          };
        };
        turn = files.0;
        shows = files.1;
        has = ap (λ (n : ℕ). now_of n (first_files worker count)) made.log.generation;
        in_turn = inl (made.log.generation, subst (λ (b : Bool). IsNextFile b now Spare new) (sym sure) refl);
        past = λ b told. absurd (no_some b told);
        owner = (made.log.worker ∙ whose, made.log.logs ∙ many);
      }

  -- ---- a log that was opened

  -- in a turn, the last log is that of the first generation, and the file of the next one is spare; or it is the next one's, and the older one rests
  abbrev IsOpenedIn : ℕ → FilesNow → StoreLog D → Type 0
  IsOpenedIn g files log =
      ((log.log.generation ≡ g) × (now_of (g + 1) files ≡ Spare)) ⊎ ((log.log.generation ≡ g + 1) × Rests (now_of g files))

  pub opened_in_turn : (g : ℕ) (whole last : Contents) (files : FilesNow) (log : StoreLog D) → AreOfTurn g (at_rest whole) files
      → ShowFiles is_honest state files log.log.files → now_of log.log.generation files ≡ Has (at_rest last) → last.generation ≡ log.log.generation
      → EndsLog whole last → IsOpenedIn g files log → log.next_in_doubt ≡ false → log.kept ≡ None
      → (log.log.owner.worker ≡ whole.worker) × (log.log.owner.logs ≡ whole.logs) → StandsInTurn is_honest state g (at_rest whole) files log
  opened_in_turn g whole last files log turn shows has of ends opened sure none owner =
      let shown = has_shown is_honest state log.log.generation (at_rest last) files log.log.files shows has in
      record {
        stands = record {
          last = at_rest last;
          is_end = record { ends = ends; doubt = refl };
          of = of;
          stands = record { honest = shown.0; shows = shown.1; waits = subst (WaitsIn (at_rest last)) (sym none) refl };
        };
        turn = turn;
        shows = shows;
        has = has;
        in_turn = ⊎_elim
            (λ first. inl (first.0, subst (λ (b : Bool). IsNextFile b (at_rest whole) (now_of (g + 1) files) log) (sym sure) first.1))
            (λ next. inr (next.0, sure, next.1))
            opened;
        past = λ b told. absurd (no_some b told);
        owner = owner;
      }
