-- A plain file that was given up is no log: if plain files are needed, it leaves nothing to choose.
use Rattle.std.proofs.Common.{◌≡◌, ◌≢◌, ◌⊎◌, inl, inr, ⊎_elim, ℕ, zero, suc, ◌<◌, ◌≤◌, ◌==◌, Bool, List, [], ◌∷◌, length, map, refl, sym, ◌∙◌, ap, subst, arith, Option, Some, None}
use Rattle.std.proofs.lemmas.{Bool.{ne_eqb, cond-false}, Option.same_Some}
use Rattle.std.specs.{Prelude.slice_get, List.AllZip, Option.option_map}
use Rattle.mt_disk.specs.Disk.{DiskState}
use Rattle.mt_log.specs.Contents.{contents_of}
use Rattle.mt_crashes.{specs.Bases.Slots, proofs.{Members.{no_some, place_in}, Invariant.{within_place, place_map}}}
use Rattle.mt_generations.specs.Standings.{Standing, AllHave, AgreeFrom, IsLast, CanBegin, HaveNoChoice}
use Rattle.mt_generations.proofs.Deciding.{have_all, all_from}
use Rattle.mt_recover.specs.declared.resuming.LogSlot.{LogSlot}
use Rattle.mt_chains.specs.{declared.worker_logs.WorkerLogs.WorkerLogs, Files.{standing_of, numbered_log, SameNumbered}}
use Rattle.mt_log_files.specs.{declared.worker.WorkerFiles.WorkerFiles, Slots.{disk_in, OpensPlain}}
use Rattle.mt_log_files.proofs.PlainLaws.{opened_has}
use Rattle.mt_chain_files.specs.{declared.headers.Told.Told, Headers.first_counting, Rounds.{ComesTo, ReadsNumbered}}
use Rattle.mt_chain_files.specs.{declared.fault.FilesFault.FilesFault, declared.opening.Chains.Chains, Numbered.OpensNumberedFiles, Plain.{OpensPlainFiles, StopsPlainFilesAt, IsGivenUpAt}}
use Rattle.mt_chain_files.specs.Chosen.{NeedPlain, RefuseToBegin, ReadsPlain, OpensChains, StopsAtPlain, RefusesFiles}
use Rattle.mt_chain_files.proofs.{Loops.get_within, Agreeing.{agree_self, agree_back, agree_later, from_agree, have_agree}}
use Rattle.mt_rows.specs.declared.refusal.Refusal.TheVariants as refusals

-- what was read of the numbered files stands as it did
agree_numbered : (first logs : List WorkerLogs) → AllZip SameNumbered first logs → AgreeFrom 1 (map standing_of first) (map standing_of logs)
agree_numbered [] [] same = tt
agree_numbered [] (x ∷ logs) same = absurd same
agree_numbered (w ∷ first) [] same = absurd same
agree_numbered (w ∷ first) (x ∷ logs) same = (λ h le. later x h le ∙ ap (numbered_log h) (sym same.0) ∙ sym (later w h le), agree_numbered first logs same.1)
  where
    later : (one : WorkerLogs) (h : ℕ) → 1 ≤ h → standing_of one h ≡ numbered_log h one.numbered
    later one h le = cond-false (h == 0) (option_map contents_of one.plain) (numbered_log h one.numbered) (ne_eqb h 0 (λ e. omega (arith, e, le)))

-- a worker without a plain log has none of generation 0
not_first : (g place : ℕ) (one : WorkerLogs) (logs : List WorkerLogs) → slice_get logs place ≡ Some one → one.plain ≡ None → AllHave g (map standing_of logs) → 0 < g
not_first zero place one logs there none have =
    let c = have (standing_of one) (place_in (standing_of one) place (map standing_of logs) (place_map standing_of logs place one there)) in
    absurd (no_some c.0 (sym (ap (option_map contents_of) none) ∙ c.1))
not_first (suc before) place one logs there none have = omega arith

module _ {D : Type 0} (is_honest : D → Bool) (state : D → DiskState) (failures : D → ℕ) (slots : Slots) (place : ℕ) where
  abbrev IsGivenUp : List (WorkerFiles D) → Type 0
  IsGivenUp files = IsGivenUpAt is_honest state failures place files

  -- a plain file that is as it was
  same_given_up : (old new : List (WorkerFiles D)) → length new ≡ length old
      → ((was is : WorkerFiles D) → slice_get old place ≡ Some was → slice_get new place ≡ Some is → is.plain ≡ was.plain) → IsGivenUp old → IsGivenUp new
  same_given_up old new len same given =
      let within = get_within old place given.places given.there in
      let is = within_place new place (omega (arith, within, len)) in
      record {
        places = is.0;
        there = is.1;
        disk = given.disk;
        on = ap (λ (slot : LogSlot D). disk_in slot) (same given.places is.0 given.there is.1) ∙ given.on;
        honest = given.honest;
        none = given.none;
      }

  opened_given_up : (from : ℕ) (told : List Told) (old new : List (WorkerFiles D)) (logs : List WorkerLogs) → OpensNumberedFiles is_honest state failures from told old new logs
      → IsGivenUp old → IsGivenUp new
  opened_given_up from told old new logs opens =
      same_given_up old new opens.each.len (λ was is there then. (opens.each.each place was is (get_within old place was there) there then).2.2.plain)

  come_given_up : (told : List Told) (looked before : List (WorkerFiles D)) (from : ℕ) → ComesTo is_honest state failures slots told looked before from → IsGivenUp looked → IsGivenUp before
  come_given_up told looked before from (inl at) given = subst IsGivenUp (sym at.0) given
  come_given_up told looked before from (inr again) given = opened_given_up (first_counting told) told looked before again.1.0 again.1.1 given

  -- the numbered files were opened, and it is as it was
  still_given_up : (old between : List (WorkerFiles D)) (first : List WorkerLogs) → ReadsNumbered is_honest state failures slots old between first → IsGivenUp old → IsGivenUp between
  still_given_up old between first r given =
      let c = r.counting in
      opened_given_up c.from r.told c.before between first c.opens
      (come_given_up r.told r.looked c.before c.from c.comes
      (same_given_up old r.looked r.looks.each.len (λ was is there then. (r.looks.each.each place was is (get_within old place was there) there then).2.plain) given))

  -- nothing was read of it
  none_read : (between new : List (WorkerFiles D)) (logs : List WorkerLogs) → OpensPlainFiles is_honest state failures between new logs → IsGivenUp between
      → (one : WorkerLogs) × (slice_get logs place ≡ Some one) × (one.plain ≡ None)
  none_read between new logs plain given =
      let within = get_within between place given.places given.there in
      let len = plain.len in
      let is = within_place new place (omega (arith, within, len)) in
      let p = plain.each place given.places is.0 within given.there is.1 in (
        p.0,
        p.1,
        opened_has is_honest state failures given.disk is.0.plain p.0.plain given.honest given.none
            (subst (λ (d : Option D). OpensPlain is_honest state failures d is.0.plain p.0.plain) given.on p.2.0),
      )

  no_choice : (between new : List (WorkerFiles D)) (first logs : List WorkerLogs) → ReadsPlain is_honest state failures slots between new first logs
      → NeedPlain (map standing_of first) slots → IsGivenUp between → HaveNoChoice (map standing_of logs) slots
  no_choice between new first logs (inr unread) need given g chains chosen = unread.0 need
  no_choice between new first logs (inl read) need given g chains chosen =
      let one = none_read between new logs read.1 given in
      let have = have_all g (map standing_of logs) chains chosen.0 in
      let over = not_first g place one.0 logs one.1 one.2 have in
      let agree : AgreeFrom g (map standing_of logs) (map standing_of first) =
      agree_later 1 g (map standing_of logs) (map standing_of first) (omega (arith, over)) (agree_back 1 (map standing_of first) (map standing_of logs) (agree_numbered first logs read.2)) in
      let stands = have_agree g (map standing_of logs) (map standing_of first) agree have in
      ⊎_elim
      (λ (none : (n : ℕ) → ¬ AllHave n (map standing_of first)). none g stands)
      (λ (last : IsLast 1 (map standing_of first) × (¬ CanBegin 1 (map standing_of first) slots)). (
      let most = last.0.1 g stands in
      let is : g ≡ 1 = omega (arith, most, over) in
      last.1 (subst (λ (n : ℕ). CanBegin n (map standing_of first) slots) is (chains, from_agree g (map standing_of logs) (map standing_of first) chains agree chosen.0, chosen.1))
      ))
      need

  -- so there are no chains
  pub not_needed : (old new : List (WorkerFiles D)) (chains : Chains) → IsGivenUp old → (o : OpensChains is_honest state failures slots old new chains)
      → ¬ NeedPlain (map standing_of o.reads.first) slots
  not_needed old new chains given o need =
      let r = o.reads in
      no_choice r.between new r.first r.logs r.plain need (still_given_up old r.between r.first r.numbered given) chains.generation (map contents_of chains.fronts.items)
      (o.chosen (map standing_of r.logs) (agree_self chains.generation (map standing_of r.logs))).chosen

  -- and why is told
  pub told : (e : FilesFault) (old new : List (WorkerFiles D)) → IsGivenUp old → (r : RefusesFiles is_honest state failures slots e old new)
      → NeedPlain (map standing_of r.reads.first) slots
      → (e ≡ record { log = None; refusal = refusals.LogCount }) ⊎ (e ≡ record { log = None; refusal = refusals.Memory })
  told e old new given refuses need =
      let r = refuses.reads in
      let standings = map standing_of r.logs in
      ⊎_elim inr
      (λ why. by standings (no_choice r.between new r.first r.logs r.plain need (still_given_up old r.between r.first r.numbered given))
      (why standings ((λ needed. refl), agree_self 1 standings)))
      refuses.why
    where
      by : (standings : List Standing) → HaveNoChoice standings slots → RefuseToBegin standings slots e
          → (e ≡ record { log = None; refusal = refusals.LogCount }) ⊎ (e ≡ record { log = None; refusal = refusals.Memory })
      by standings none (inl lacks) = inl lacks.1
      by standings none (inr falls) =
          let fall = falls.2 in
          let from = all_from fall.generation standings fall.has in
          absurd (none fall.generation from.0 (fall.chosen from.0 from.1))

  -- never a bad log
  pub never_bad : (e : FilesFault) (old new : List (WorkerFiles D)) (number offset : ℕ) → IsGivenUp old → StopsAtPlain is_honest state failures slots e old new
      → e.log ≡ Some place → e.refusal ≢ refusals.BadLog number offset
  never_bad e old new number offset given stops at bad =
      let between = still_given_up old stops.between stops.first stops.numbered given in
      let s = subst (λ (log : Option ℕ). StopsPlainFilesAt is_honest state failures log e.refusal stops.between new) at stops.plain.1 in
      let same : between.places ≡ s.was = same_Some between.places s.was (sym between.there ∙ s.was_there) in
      s.fails.0.1 number offset between.disk bad (ap (λ (w : WorkerFiles D). disk_in w.plain) (sym same) ∙ between.on) between.honest between.none
