-- Where a worker's last log ends: where its whole log does.
use Rattle.std.proofs.Common.{◌≡◌, ⊎_elim, inl, inr, ℕ, zero, suc, ◌+◌, ◌^◌, ◌≤◌, Bool, cond, List, [], ◌∷◌, ◌++◌, Some, None, refl, sym, ◌∙◌, ap, subst, arith}
use Rattle.std.proofs.lemmas.{Bool.{eq-eqb, ne_eqb}, List.append-nil}
use Rattle.mt_disk.specs.Disk.{DiskState}
use Rattle.mt_log.specs.{declared.batch.LogBatch.LogBatch}
use Rattle.mt_log.specs.{declared.log_file.LogFile.LogFile, Contents.{Contents, IsContents, AreNumbers, mark_of}}
use Rattle.mt_crashes.{specs.Stores.{at_rest, MayLeaveFront}, proofs.Members.no_some}
use Rattle.mt_generations.{specs.{Chains.{Chain, EndsLog}, Standings.{Standing}, Turns.with_log}, proofs.Parts.same_end}
use Rattle.mt_recover.proofs.Limits.{last_within}
use Rattle.mt_recover.specs.{declared.resuming.LogSlot.TheVariants.{Open}}
use Rattle.mt_log_files.specs.{Shows.{Shows}, Files.{Spare, Has}, Workers.{nothing_stands, AreFilesOf}}
use Rattle.mt_turns.specs.{declared.worker_log.WorkerLog.WorkerLog, Logs.{last_of}}
use Rattle.mt_turns.specs.Turns.{IsSpent}
use Rattle.mt_turns.specs.Shows.{ShowsWorker}
use Rattle.mt_turns.proofs.{Beginnings.open_of}

-- what rests is left alone
rest_is : (c front : Contents) → MayLeaveFront (at_rest c) front → front ≡ c
rest_is c front (inl same) = same
rest_is c front (inr more) = absurd (no_some more.0 more.1)

at_log : (g : ℕ) (c : Chain) (f : Standing) → with_log g c f g ≡ Some c
at_log g c f = ap (λ (b : Bool). cond b (Some c) (f g)) (eq-eqb g g refl)

no_next : (g : ℕ) (c : Chain) → with_log g c nothing_stands (g + 1) ≡ None
no_next g c = ap (λ (b : Bool). cond b (Some c) None) (ne_eqb (g + 1) g (λ same. omega (arith, same)))

-- a log alone ends the whole one
pub ends : (g : ℕ) (log first : Contents) → AreFilesOf g (at_rest log) (Has (at_rest first)) Spare → mark_of first ≡ mark_of log
ends g log first are =
    let a = are (Some first) None (first, inl refl, refl) refl in
    let s = a.2 in
    let part = s.has_first first (at_log g first nothing_stands) in
    let none = s.not_begun (no_next g first) in
    let chain : EndsLog a.0 first = record {
      given = s.given;
      parts = s.parts ∙ ap (λ (bs : List LogBatch). s.given ++ bs) (ap (λ (bs : List LogBatch). s.first ++ bs) none ∙ append-nil s.first ∙ sym part.batches_are);
      start = part.start;
      owner = part.owner;
    } in
    same_end a.0 first chain ∙ ap mark_of (rest_is log a.0 a.1)

generation_within : (version generation start : ℕ) → AreNumbers version generation start → generation ≤ 2 ^ 59
generation_within version zero start numbers = omega arith
generation_within version (suc before) start numbers = numbers.1

-- a log in the format ends at a step, and is of a generation
within : (c : Contents) → IsContents c → (mark_of c ≤ 2 ^ 59) × (c.generation ≤ 2 ^ 59)
within c is = (
  omega (arith, last_within (c ∷ []) (λ d at. ⊎_elim (λ same. subst IsContents (sym same) is) (λ none. absurd none) at)),
  generation_within c.version c.generation c.start is.numbers,
)

module _ {D : Type 0} (is_honest : D → Bool) (state : D → DiskState) where
  -- an open last log has the mark of the whole one
  pub last_mark : (log first : Contents) (old : WorkerLog D) (file : LogFile D) → ShowsWorker is_honest state old.generation (at_rest log) (Has (at_rest first)) Spare old
      → last_of old ≡ Open file → file.mark ≡ mark_of log
  last_mark log first old file s is_open =
      let shows = subst (Shows state (at_rest first)) is_open s.first_shows.shows in
      shows.1.mark ∙ ends old.generation log first s.whole

  pub spent_is : (log first : Contents) (old : WorkerLog D) → ShowsWorker is_honest state old.generation (at_rest log) (Has (at_rest first)) Spare old → IsSpent old
      → old.generation ≡ 2 ^ 59
  spent_is log first old s spent =
      let file = open_of (last_of old) spent.mark spent.ends in
      let shows = subst (Shows state (at_rest first)) file.1 s.first_shows.shows in
      let few = within first shows.1.contents in
      ⊎_elim (λ last. omega (arith, last, few.1, s.first_shows.of)) (λ past. absurd (omega (arith, past, few.0, shows.1.mark, file.2))) spent.spent
