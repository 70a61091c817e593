-- The files of a store in its first turn, and in the turn after one.
use Rattle.std.proofs.Common.{◌≡◌, ◌≢◌, inl, ⊎_elim, ℕ, zero, suc, ◌+◌, ◌<◌, ◌==◌, ◌%◌, cond, refl, sym, ◌∙◌, subst, arith}
use Rattle.std.proofs.lemmas.Bool.{eq-eqb, ne_eqb, cases_eq, cond-true, cond-false}
use Rattle.mt_crashes.specs.Stores.{LogNow}
use Rattle.mt_log_files.specs.{Files.{FileNow, Spare, Has}, Workers.AreFilesOf}
use Rattle.mt_log_files.proofs.WorkerLaws.{whole_files, turned_files}
use Rattle.mt_chain_files.specs.Turns.{FilesNow, now_of, IsOfGeneration, AreOfTurn}

pub first_turn : (now : LogNow) → now.had.generation ≡ 0 → AreOfTurn 0 now (record { plain = Has now; even = Spare; odd = Spare })
first_turn now is = record { are = whole_files now; first = is; next = tt; no_other = λ none. refl; rests = inl refl }

module _ (files : FilesNow) where
  pub numbered_now : (k : ℕ) → 0 < k → now_of k files ≡ cond (k % 2 == 0) files.even files.odd
  numbered_now k over = cond-false (k == 0) files.plain (cond (k % 2 == 0) files.even files.odd) (ne_eqb k 0 (λ e. omega (arith, e, over)))

  -- the generation after the next one goes into the file of the first, which is given up
  after_next : (g : ℕ) → (g ≡ 0 → files.even ≡ Spare) → now_of g files ≡ Spare → now_of (g + 1 + 1) files ≡ Spare
  after_next zero other spare = other refl
  after_next (suc g) other spare =
      ⊎_elim
      (λ (even : suc g % 2 ≡ 0). (
      let later : (suc g + 1 + 1) % 2 ≡ 0 = omega (arith, even) in
      numbered_now (suc g + 1 + 1) (omega arith) ∙ cond-true ((suc g + 1 + 1) % 2 == 0) files.even files.odd (eq-eqb ((suc g + 1 + 1) % 2) 0 later)
      ∙ sym (cond-true (suc g % 2 == 0) files.even files.odd (eq-eqb (suc g % 2) 0 even)) ∙ sym (numbered_now (suc g) (omega arith)) ∙ spare
      ))
      (λ (odd : suc g % 2 ≢ 0). (
      let later : (suc g + 1 + 1) % 2 ≢ 0 = λ e. odd (omega (arith, e)) in
      numbered_now (suc g + 1 + 1) (omega arith) ∙ cond-false ((suc g + 1 + 1) % 2 == 0) files.even files.odd (ne_eqb ((suc g + 1 + 1) % 2) 0 later)
      ∙ sym (cond-false (suc g % 2 == 0) files.even files.odd (ne_eqb (suc g % 2) 0 odd)) ∙ sym (numbered_now (suc g) (omega arith)) ∙ spare
      ))
      (cases_eq (suc g % 2) 0)

  pub next_turn : (g : ℕ) (now next : LogNow) → AreOfTurn g now files → now_of g files ≡ Spare → now_of (g + 1) files ≡ Has next → AreOfTurn (g + 1) now files
  next_turn g now next turn spare has =
      let later = after_next g turn.no_other spare in
      record {
        are = subst (λ (f : FileNow). AreFilesOf (g + 1) now (now_of (g + 1) files) f) (sym later)
            (subst (λ (f : FileNow). AreFilesOf (g + 1) now f Spare) (sym has)
            (turned_files g now next
            (subst (λ (f : FileNow). AreFilesOf g now Spare f) has (subst (λ (f : FileNow). AreFilesOf g now f (now_of (g + 1) files)) spare turn.are))));
        first = turn.next;
        next = subst (IsOfGeneration (g + 1 + 1)) (sym later) tt;
        no_other = λ none. absurd (omega (arith, none));
        rests = inl later;
      }
