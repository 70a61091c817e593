-- The place of one of a worker's files, if another was put for it or for the file of the generation after.
use Rattle.std.proofs.Common.{◌≡◌, ⊎_elim, ℕ, ◌+◌, ◌%◌, ◌==◌, Bool, true, false, not, cond, refl, sym, ◌∙◌, ap, arith}
use Rattle.std.proofs.lemmas.Bool.{eq-eqb, ne_eqb, cases_eq}
use Rattle.mt_recover.specs.{declared.resuming.LogSlot.LogSlot}
use Rattle.mt_log_files.specs.{declared.worker.WorkerFiles.WorkerFiles, Slots.{file_of, with_file}}

-- ---- numbers

over_none : (g : ℕ) → (g + 1 == 0) ≡ false
over_none g = ne_eqb (g + 1) 0 (λ e. omega (arith, e))

other_parity : (g : ℕ) → (((g + 1) % 2) == 0) ≡ not (g % 2 == 0)
other_parity g = ⊎_elim
    (λ even. ne_eqb ((g + 1) % 2) 0 (λ e. omega (arith, e, even)) ∙ sym (ap not (eq-eqb (g % 2) 0 even)))
    (λ odd. eq-eqb ((g + 1) % 2) 0 (omega (arith, odd)) ∙ sym (ap not (ne_eqb (g % 2) 0 odd)))
    (cases_eq (g % 2) 0)

same_parity : (g : ℕ) → ((g + 1 + 1) % 2 == 0) ≡ (g % 2 == 0)
same_parity g = other_parity (g + 1) ∙ ap not (other_parity g) ∙ twice (g % 2 == 0)
  where
    twice : (b : Bool) → not (not b) ≡ b
    twice true = refl
    twice false = refl

module _ {D : Type 0} where
  -- one of three places, by whether the generation is 0, and whether it is even
  abbrev place : Bool → Bool → WorkerFiles D → LogSlot D
  place none even files = cond none files.plain (cond even files.even files.odd)

  abbrev placed : Bool → Bool → LogSlot D → WorkerFiles D → WorkerFiles D
  placed none even slot files = cond none (record files { plain = slot }) (cond even (record files { even = slot }) (record files { odd = slot }))

  is_placed : (a b : Bool) (slot : LogSlot D) (files : WorkerFiles D) → place a b (placed a b slot files) ≡ slot
  is_placed true b slot files = refl
  is_placed false true slot files = refl
  is_placed false false slot files = refl

  pub file_is : (g : ℕ) (slot : LogSlot D) (files : WorkerFiles D) → file_of g (with_file g slot files) ≡ slot
  file_is g slot files = is_placed (g == 0) (g % 2 == 0) slot files

  placed_again : (a b : Bool) (slot other : LogSlot D) (files : WorkerFiles D) → placed a b slot (placed a b other files) ≡ placed a b slot files
  placed_again true b slot other files = refl
  placed_again false true slot other files = refl
  placed_again false false slot other files = refl

  -- what is put last stands
  pub file_again : (g : ℕ) (slot other : LogSlot D) (files : WorkerFiles D) → with_file g slot (with_file g other files) ≡ with_file g slot files
  file_again g slot other files = placed_again (g == 0) (g % 2 == 0) slot other files

  -- ---- the file of the next generation is another one

  next_place : (g : ℕ) (files : WorkerFiles D) → file_of (g + 1) files ≡ place false (not (g % 2 == 0)) files
  next_place g files = λ i. place (over_none g i) (other_parity g i) files

  next_placed : (g : ℕ) (slot : LogSlot D) (files : WorkerFiles D) → with_file (g + 1) slot files ≡ placed false (not (g % 2 == 0)) slot files
  next_placed g slot files = λ i. placed (over_none g i) (other_parity g i) slot files

  other_stays : (a b : Bool) (slot : LogSlot D) (files : WorkerFiles D) → place false (not b) (placed a b slot files) ≡ place false (not b) files
  other_stays true b slot files = refl
  other_stays false true slot files = refl
  other_stays false false slot files = refl

  first_stays : (a b : Bool) (slot : LogSlot D) (files : WorkerFiles D) → place a b (placed false (not b) slot files) ≡ place a b files
  first_stays true true slot files = refl
  first_stays true false slot files = refl
  first_stays false true slot files = refl
  first_stays false false slot files = refl

  -- the next file stays if another place is put for the first one
  pub next_stays : (g : ℕ) (slot : LogSlot D) (files : WorkerFiles D) → file_of (g + 1) (with_file g slot files) ≡ file_of (g + 1) files
  next_stays g slot files =
      next_place g (with_file g slot files) ∙ other_stays (g == 0) (g % 2 == 0) slot files ∙ sym (next_place g files)

  -- and the first one if another is put for the next one
  pub before_stays : (g : ℕ) (slot : LogSlot D) (files : WorkerFiles D) → file_of g (with_file (g + 1) slot files) ≡ file_of g files
  before_stays g slot files =
      ap (file_of g) (next_placed g slot files) ∙ first_stays (g == 0) (g % 2 == 0) slot files

  -- the file of the next generation but one is the same, after generation 0
  pub two_on : (g : ℕ) (files : WorkerFiles D) → (g ≡ 0 → ⊥) → file_of (g + 1 + 1) files ≡ file_of g files
  two_on g files some =
      (λ i. place (over_none (g + 1) i) (same_parity g i) files) ∙ sym (ap (λ (b : Bool). place b (g % 2 == 0) files) (ne_eqb g 0 some))
