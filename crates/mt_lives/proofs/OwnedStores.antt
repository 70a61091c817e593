-- What holds of a store that is owned alone when it was just made, and after it was recovered.
use Rattle.std.proofs.Common.{◌≡◌, ◌+◌, ◌<◌, ◌≤◌, List, map, length, Option, Some, refl, sym, ap, subst, ◌∙◌, inl}
use Rattle.std.proofs.lemmas.Option.{same_Some}
use Rattle.mt_rows.specs.Accounts.{Accounts}
use Rattle.mt_disk.specs.{declared.mem.MemDisk.MemDisk, Mem.mem_state}
use Rattle.mt_state.specs.{Views.StateView, Begins.new_state}
use Rattle.mt_core.specs.{Restores.IsRestored, Rights.IsRightState}
use Rattle.mt_crashes.{specs.{Stores.new_store, Invariants.IsStore}, proofs.{Invariant.{within_place, place_map}, NewStore.new_is, Kept.leads}}
use Rattle.mt_recover.specs.declared.recovering.Recovered.{Recovered as Found}
use Rattle.mt_slots.specs.{declared.store_slots.StoreSlots.StoreSlots, Calls.MakesBoth}
use Rattle.mt_log_files.specs.declared.worker.WorkerFiles.{WorkerFiles}
use Rattle.mt_chain_files.specs.Turns.{ShowFiles}
use Rattle.mt_store_logs.specs.{declared.store_log.StoreLog.StoreLog, Opens.AreClosedOn, Taking.files_of, Recovers.ServesAgain}
use Rattle.mt_stored.specs.Stores.{IsNewStore, IsRecoveredStore}
use Rattle.mt_lives.specs.{declared.events.CrashImages.CrashImages, declared.events.StoreEvent.TheVariants.Crash, declared.events.StoreNote.TheVariants.Recovered}
use Rattle.mt_lives.specs.{declared.live_slots.LiveSlots.TheVariants.Rest, declared.serving.Serving.Serving, Lives.{Standing, past_of, new_standing}}
use Rattle.mt_lives.specs.{Holds.Holds, Returns.IsFresh, Forced.AllCrash, Steps.GoesOn}
use Rattle.mt_lives.proofs.{Flushing.{keeps_rules, failures_of, within}, Walking.map_length, Leaving.IsLeft, Crashing.Leaves, LeavingOne.left_len, Returning.{left_by, recovered_up}, Beginning.holds_new}

-- ---- it was just made

pub owned_new : (accounts : Accounts) (files : List (WorkerFiles MemDisk)) (bare slots : StoreSlots MemDisk) (v : StateView) (logs : List (StoreLog MemDisk)) (serving : Serving)
    → 0 < length files → length files ≤ 64 → IsNewStore keeps_rules mem_state failures_of files bare accounts v logs (Some slots) → IsRightState v → serving.state ≡ v
    → IsFresh serving → serving.generation ≡ 1 → Holds accounts (Rest slots) new_standing logs (Some serving)
owned_new accounts files bare slots v logs serving some few new right state fresh turns_to =
    let is : v ≡ new_state (length logs) accounts = new.state_is ∙ ap (λ n. new_state n accounts) (sym (new.logs_are.len ∙ new.closed_so.count)) in
    holds_new accounts files new.closed logs some few new.closed_so new.logs_are v is right serving state fresh turns_to bare slots
    (subst (MakesBoth keeps_rules mem_state failures_of bare) (sym (same_Some slots new.made new.slots_are)) new.slots_made)

-- ---- it was recovered

-- closed logs on the files that a crash left are as the store tells too
left_closed : (accounts : Accounts) (slots : StoreSlots MemDisk) (standing : Standing) (left closed : List (StoreLog MemDisk)) → Leaves accounts slots standing left
    → AreClosedOn (length (map files_of left)) (map files_of left) closed → Leaves accounts slots standing closed
left_closed accounts slots standing left closed l are = record {
  s = l.s;
  from = l.from;
  whole = l.whole;
  base = l.base;
  left = subst (λ n. IsLeft accounts standing.settled (past_of standing.now) n l.s) (sym len) l.left;
  each = λ k now other there at.
      let log = within_place left k (subst (λ n. k < n) len (within closed k other at)) in
      let down = l.each k now log.0 there log.1 in
      let c = are.each k (files_of log.0) other (place_map files_of left k log.0 log.1) at in
      let owner = (is.logs k now there now.had (inl refl)).owner in
      record {
        files = down.files;
        turn = down.turn;
        shows = subst (ShowFiles keeps_rules mem_state down.files) (sym c.log.files) down.shows;
        begins = down.begins;
        owner = (c.log.worker ∙ sym owner.0, c.log.logs ∙ map_length files_of left ∙ sym l.left.len ∙ sym owner.1);
      };
  stand = l.stand;
}
  where
    len : length closed ≡ length left
    len = are.count ∙ map_length files_of left

    is : IsStore l.s
    is = leads l.left.come.0 (new_store (length left)) l.s (new_is (length left) l.left.some l.left.few) l.left.come.1

pub owned_recovered : (accounts : Accounts) (slots found now : StoreSlots MemDisk) (old left new : List (StoreLog MemDisk)) (was : Option Serving)
    (images : CrashImages) (serving : Serving) → AllCrash images old slots left found
    → (is : IsRecoveredStore keeps_rules mem_state failures_of (map files_of left) found accounts serving.state new (Some now)) → serving.generation ≡ is.generation + 1
    → IsRightState serving.state → IsFresh serving
    → (r : Found) × GoesOn accounts (Rest slots) (Rest now) (Crash images) (Recovered r) old was new (Some serving)
owned_recovered accounts slots found now old left new was images serving crashed is next right fresh =
    let r = is.recovered in
    let serves : ServesAgain keeps_rules mem_state failures_of accounts r is.generation is.closed found new now =
    subst (λ kept. ServesAgain keeps_rules mem_state failures_of accounts r is.generation is.closed found new kept) (sym (same_Some now is.kept is.slots_are)) is.serves in
    let a = is.serves in
    let len : length new ≡ length (map files_of left) = left_len a.chains.begun.items a.resumed new a.leaves ∙ a.resumes.len ∙ a.opens.back.len ∙ is.closed_so.count in
    let restored : IsRestored r.resume (length new) accounts r.pairs.items serving.state = subst (λ n. IsRestored r.resume n accounts r.pairs.items serving.state) (sym len) is.restored in (
      r,
      λ standing h.
          let l = left_closed accounts found standing left is.closed (left_by accounts slots found now old left new was images crashed standing h) is.closed_so in
          let up = recovered_up accounts found standing is.closed l r is.generation new now serves serving.state restored right serving refl fresh next in
          (up.0, (up.1, up.2, up.3, up.4), up.5),
    )
