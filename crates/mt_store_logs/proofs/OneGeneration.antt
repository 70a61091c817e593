-- One generation of a worker's log in a turn is left, as its older log is given up.
use Rattle.std.proofs.Common.{◌≡◌, ⊎_elim, ℕ, ◌+◌, ◌-◌, Bool, false, refl, sym, ◌∙◌, subst, arith}
use Rattle.std.proofs.lemmas.Bool.{cases_eq}
use Rattle.mt_rows.specs.declared.refusal.Refusal.{Refusal}
use Rattle.mt_disk.specs.Disk.{DiskState}
use Rattle.mt_crashes.specs.Stores.{LogNow}
use Rattle.mt_log_files.specs.Files.{Spare}
use Rattle.mt_chain_files.specs.Turns.{FilesNow, now_of}
use Rattle.mt_store_logs.specs.{declared.store_log.StoreLog.StoreLog, Turns.{GivesUpOlderLog, FailsToGiveUpOlderLog}, Ends.{IsNextFile, StandsInTurn}}
use Rattle.mt_store_logs.proofs.{NextTurn.{turned, turned_back}, OlderLaws.{given_up_in_turn, not_given_up_in_turn}}

module _ {D : Type 0} (is_honest : D → Bool) (state : D → DiskState) (failures : D → ℕ) where
  abbrev In : ℕ → LogNow → FilesNow → StoreLog D → Type 0
  In g now files log = StandsInTurn is_honest state g now files log

  abbrev Gives : StoreLog D → StoreLog D → Type 0
  Gives old new = GivesUpOlderLog is_honest state failures old new

  -- this generation alone is left, with the same log
  abbrev pub Left : ℕ → LogNow → FilesNow → StoreLog D → Type 0
  Left g now files new = (then : FilesNow) × In g now then new × (now_of g then ≡ now_of g files) × (now_of (g + 1) then ≡ Spare)

  -- the last log is that of the turn's next generation
  pub left_of_next : (g : ℕ) (now : LogNow) (files : FilesNow) (old new : StoreLog D) → In g now files old → old.log.generation ≡ g + 1 → Gives old new
      → Left (g + 1) now files new
  left_of_next g now files old new s of gives =
      let r = given_up_in_turn is_honest state failures g now files old new s of gives in
      let t = turned is_honest state g now r.0 new r.1 r.2 in
      (r.0, t.0, r.3, t.1)

  -- or that of the first one: then the file for the next one is spare
  next_spare : (g : ℕ) (now : LogNow) (files : FilesNow) (log : StoreLog D) → In g now files log → log.log.generation ≡ g → log.next_in_doubt ≡ false → now_of (g + 1) files ≡ Spare
  next_spare g now files log s of known =
      ⊎_elim
      (λ first. subst (λ (flag : Bool). IsNextFile flag now (now_of (g + 1) files) log) known first.1)
      (λ next. let other = next.0 in absurd (omega (arith, of, other)))
      s.in_turn

  -- no generation is before 0
  same_log : (old new : StoreLog D) → old.log.generation ≡ 0 → Gives old new → new ≡ old
  same_log old new of gives =
      let same : new.log ≡ old.log = ⊎_elim (λ older. let before = older.older in absurd (omega (arith, of, before))) (λ none. none.1) gives.does in
      let oldest : new.oldest ≡ old.oldest = gives.oldest ∙ omega (arith, of) in
      λ i. record { log = same i; kept = gives.kept i; next_in_doubt = gives.doubts i; oldest = oldest i }

  left_of_later : (g : ℕ) (now : LogNow) (files : FilesNow) (old new : StoreLog D) → In (g + 1) now files old → old.log.generation ≡ g + 1 → old.next_in_doubt ≡ false
      → Gives old new → Left (g + 1) now files new
  left_of_later g now files old new s of known gives =
      let back = turned_back is_honest state g now files old s (next_spare (g + 1) now files old s of known) known in
      let r = left_of_next g now back.0 old new back.1 of gives in
      (r.0, r.1, r.2 ∙ back.3, r.3)

  pub left_of_first : (g : ℕ) (now : LogNow) (files : FilesNow) (old new : StoreLog D) → In g now files old → old.log.generation ≡ g → old.next_in_doubt ≡ false
      → Gives old new → Left g now files new
  left_of_first g now files old new s of known gives = ⊎_elim
      (λ none. (files, subst (In g now files) (sym (same_log old new (of ∙ none) gives)) s, refl, next_spare g now files old s of known))
      (λ some.
      let is : g ≡ (g - 1) + 1 = omega (arith, some) in
      subst (λ (n : ℕ). Left n now files new) (sym is) (left_of_later (g - 1) now files old new (subst (λ (n : ℕ). In n now files old) is s) (of ∙ is) known gives))
      (cases_eq g 0)

  -- It is not given up: the log is in the turn before, and that file may be there.
  pub not_left : (g : ℕ) (now : LogNow) (files : FilesNow) (e : Refusal) (old new : StoreLog D) → In (g + 1) now files old → old.log.generation ≡ g + 1 → old.next_in_doubt ≡ false
      → FailsToGiveUpOlderLog is_honest state failures e old new
      → (then : FilesNow) × In g now then new × (now_of (g + 1) then ≡ now_of (g + 1) files)
  not_left g now files e old new s of known fails =
      let back = turned_back is_honest state g now files old s (next_spare (g + 1) now files old s of known) known in
      let r = not_given_up_in_turn is_honest state failures g now back.0 e old new back.1 of fails in
      (r.0, r.1, r.2 ∙ back.3)
