-- A new store: its logs were made, and nothing has happened.
use Rattle.std.proofs.{Common.{◌≡◌, ℕ, ◌+◌, ◌<◌, ◌≤◌, inl, inr, List, length, Some, refl, sym, ap, subst, ◌∙◌, arith}, lemmas.List.Elements.All-nil}
use Rattle.std.specs.{Prelude.slice_get, FinMap.{empty, len, get-empty, len-empty}, Ordering.nat_cmp, Cmp.Lexicographic.slice_cmp}
use Rattle.mt_rows.specs.{Accounts.Accounts, Stamps.Stamped, Tenants.owned_cmp, TenantPairs.{quota_in, HasTenants, KeepsQuotas}}
use Rattle.mt_disk.specs.{declared.mem.MemDisk.MemDisk, Mem.mem_state}
use Rattle.mt_log.specs.Contents.{Contents, mark_of, no_batches}
use Rattle.mt_state.{specs.{Views.StateView, Begins.new_state}, proofs.HistoryStart.{content-new, tenant_map-empty}}
use Rattle.mt_core.specs.Rights.{IsRightState}
use Rattle.mt_crashes.{specs.{Histories.Placed, Stores.{LogNow, at_rest, MayLeaveFront, new_store}}, proofs.{Members.no_some, Invariant.{within_place, new_at, new_long}}}
use Rattle.mt_recover.specs.{declared.resuming.LogSlot.LogSlot, declared.resuming.LogSlot.TheVariants.{Open, Failed, Closed, Away}}
use Rattle.mt_log_files.specs.{declared.worker.WorkerFiles.WorkerFiles, Shows.IsHonest, Files.{Spare, Has}}
use Rattle.mt_chain_files.{specs.Turns.FilesNow, proofs.Reading.found_first}
use Rattle.mt_slots.{specs.{declared.store_slots.StoreSlots.StoreSlots, Calls.MakesBoth, Keeps.no_checkpoints}, proofs.Keeping.{made as slots_are_made}}
use Rattle.mt_store_logs.specs.{declared.store_log.StoreLog.StoreLog, Places.disk_in, Opens.{AreClosedOn, Makes, MakesSpare, MakesAll}, Ends.StandsInTurn}
use Rattle.mt_store_logs.proofs.FirstAndCrashed.{made_in_turn}
use Rattle.mt_lives.specs.{declared.live_slots.LiveSlots.TheVariants.Rest, declared.serving.Serving.Serving, Lives.new_standing, Holds.{Holds}, Returns.IsFresh}
use Rattle.mt_lives.proofs.{Flushing.{keeps_rules, failures_of, within}, Opening.{IsLogOpen, AllOpen}, Living.{RestAt, reach_all, BeginsWith, begins_serving}}
use Rattle.mt_lives.specs.{Bases.{Whole, BeginsBy}, Turning.only_whole}

begins_new : (logs : ℕ) (accounts : Accounts) → BeginsWith accounts empty 0 logs (new_state logs accounts)
begins_new logs accounts = record {
  steps_are = refl;
  logs_are = refl;
  quiet = refl;
  floor = refl;
  table_is = refl;
  contents_are = content-new;
  quotas = λ t. refl;
  tenants = λ t. refl;
}

-- no pair keeps every quota
has_none : (accounts : Accounts) → HasTenants (quota_in accounts) empty
has_none accounts key there = absurd (there (get-empty owned_cmp key))

keeps_none : (accounts : Accounts) → KeepsQuotas (quota_in accounts) empty
keeps_none accounts t most is = let none = ap len (tenant_map-empty t) ∙ len-empty (slice_cmp nat_cmp) Stamped in omega (arith, none)

rest_new : (count : ℕ) → RestAt 0 (new_store count).logs
rest_new count = record {
  rest = λ k now there. let at = new_at count 0 count k now there in at.0 ∙ ap at_rest (ap (λ (l : LogNow). l.had) (sym at.0));
  marks = λ k now there. let at = new_at count 0 count k now there in ap (λ (l : LogNow). mark_of l.had) at.0;
}

-- the disk of a file that was made is there, and keeps the rules
made_plain : (worker count : ℕ) (old new : LogSlot MemDisk) → Makes keeps_rules mem_state failures_of worker count (disk_in old) new → IsHonest keeps_rules old
made_plain worker count (Open log) new made = refl
made_plain worker count (Failed log) new made = refl
made_plain worker count (Closed disk) new made = refl
made_plain worker count Away new made = absurd made

made_spare : (old new : LogSlot MemDisk) → MakesSpare keeps_rules mem_state failures_of (disk_in old) new → IsHonest keeps_rules old
made_spare (Open log) new made = refl
made_spare (Failed log) new made = refl
made_spare (Closed disk) new made = refl
made_spare Away new made = absurd made

-- the files of a worker's first log, which begins at step 0
abbrev pub first_files : ℕ → ℕ → FilesNow
first_files worker count = record { plain = Has (at_rest (no_batches worker count)); even = Spare; odd = Spare }

-- nothing was given up of them
abbrev pub at_start : Whole
at_start = record { generation = 0; starts = 0 }

begins_first : (worker count : ℕ) → BeginsBy 0 at_start (first_files worker count)
begins_first worker count x y (front, left, is) none = (front, found_first 0 x y ∙ is, begins (start left))
  where
    begins : front.start ≡ 0 → front.start ≤ 0
    begins same = omega (arith, same)

    start : MayLeaveFront (at_rest (no_batches worker count)) front → front.start ≡ 0
    start (inl same) = ap (λ (c : Contents). c.start) same
    start (inr more) = absurd (no_some more.0 more.1)

module _ (accounts : Accounts) (files : List (WorkerFiles MemDisk)) (old new : List (StoreLog MemDisk)) (some : 0 < length files) (few : length files ≤ 64)
    (closed : AreClosedOn (length files) files old) (made : MakesAll keeps_rules mem_state failures_of old new) where
  len_new : length new ≡ length files
  len_new = made.len ∙ closed.count

  count_new : length (new_store (length new)).logs ≡ length new
  count_new = new_long (length new) 0 (length new)

  -- a log was made of one on the files of its worker
  log_new : (worker : ℕ) (log : StoreLog MemDisk) → slice_get new worker ≡ Some log → IsLogOpen 0 at_start (at_rest (no_batches worker (length new))) log
  log_new worker log at =
      let below : worker < length old = subst (λ n. worker < n) made.len (within new worker log at) in
      let was = within_place old worker below in
      let one = within_place files worker (subst (λ n. worker < n) closed.count below) in
      let c = closed.each worker one.0 was.0 one.1 was.1 in
      let m = made.each worker was.0 log below was.1 at in
      let honest : IsHonest keeps_rules was.0.log.files.plain × IsHonest keeps_rules was.0.log.files.even × IsHonest keeps_rules was.0.log.files.odd = (
        made_plain worker (length old) was.0.log.files.plain log.log.files.plain m.does.plain,
        made_spare was.0.log.files.even log.log.files.even m.does.even,
        made_spare was.0.log.files.odd log.log.files.odd m.does.odd,
      ) in
      let stands : StandsInTurn keeps_rules mem_state 0 (at_rest (no_batches worker (length old))) (first_files worker (length old)) log =
      made_in_turn keeps_rules mem_state failures_of worker (length old) was.0 log honest c.log.worker (c.log.logs ∙ sym closed.count) m.sure m in
      subst (λ n. IsLogOpen 0 at_start (at_rest (no_batches worker n)) log) (sym made.len)
      (record { files = first_files worker (length old); stands = stands; begins = begins_first worker (length old); none = m.none; sure = m.sure })

  all_new : AllOpen 0 at_start (new_store (length new)) new
  all_new = λ worker now log there at.
      let is = new_at (length new) 0 (length new) worker now there in
      let place : worker ≡ 0 + worker = omega arith in
      subst (λ (n : LogNow). IsLogOpen 0 at_start n log) (ap (λ k. at_rest (no_batches k (length new))) place ∙ sym is.0) (log_new worker log at)

  -- the first turn goes to generation 1
  pub holds_new : (v : StateView) → v ≡ new_state (length new) accounts → IsRightState v → (serving : Serving) → serving.state ≡ v → IsFresh serving → serving.generation ≡ 1
      → (bare slots : StoreSlots MemDisk) → MakesBoth keeps_rules mem_state failures_of bare slots → Holds accounts (Rest slots) new_standing new (Some serving)
  holds_new v is right serving state fresh turns_to bare slots slots_made = record {
    s = new_store (length new);
    from = 0;
    turning = only_whole at_start;
    some = subst (λ n. 0 < n) (sym len_new) some;
    few = subst (λ n. n ≤ 64) (sym len_new) few;
    come = (0, refl);
    count = count_new;
    stand = (refl, record { mays = no_checkpoints; shown = refl; keeps = slots_are_made keeps_rules mem_state failures_of bare slots (λ slot. refl) slots_made });
    base = (omega arith, inl (inl refl));
    settled = reach_all (new_store (length new)) 0 (rest_new (length new));
    keeps = λ m. (has_none accounts, keeps_none accounts);
    now =
        begins_serving accounts empty 0 (length new) v (subst (BeginsWith accounts empty 0 (length new)) (sym is) (begins_new (length new) accounts)) right
        (new_store (length new)) refl refl count_new
        (rest_new (length new)) (All-nil (λ (p : Placed). p.change.stamp ≤ 0)) refl serving state 0 at_start new fresh turns_to all_new;
  }
