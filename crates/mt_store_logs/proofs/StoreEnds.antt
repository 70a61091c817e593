-- What a store comes to by a second reading of logs that were opened and of slots that were looked at.
use Rattle.std.proofs.Common.{◌≡◌, inl, inr, ℕ, ◌<◌, Bool, true, false, List, refl, sym, ap, subst, Option}
use Rattle.mt_rows.specs.Accounts.{Accounts}
use Rattle.mt_disk.specs.Disk.{DiskState}
use Rattle.mt_checkpoint.specs.declared.checkpoint.Checkpoint.{Checkpoint}
use Rattle.mt_recover.specs.declared.recovering.Recovered.{Recovered}
use Rattle.mt_slots.specs.{declared.store_slots.StoreSlots.StoreSlots, Places.{Both, in_order}, Calls.ReadsBoth}
use Rattle.mt_chain_files.specs.declared.opening.Chains.{Chains}
use Rattle.mt_store_logs.specs.{declared.fault.StoreRefusal.StoreRefusal, declared.store_log.StoreLog.StoreLog}
use Rattle.mt_store_logs.specs.{Places.{worker_of, workers_of}, Taking.OpensLogs, Rereads.{KeepPlain, LogIsRead, LogsAreRead, KeepRules}, Recovers.{slots_of, IsAgain, IsRecoveredOf, IsNotRecovered}}
use Rattle.mt_store_logs.specs.Seconds.{AreReady, ReadsAgain, GivesNone}
use Rattle.mt_store_logs.proofs.{Loops.each_map, Rereading.logs_same, SecondReadings.{again_by, recovered_by, stops_by, still_opens, are_ready}}

module _ {D : Type 0} (is_honest : D → Bool) (state : D → DiskState) (failures : D → ℕ) where
  -- logs that are read are of the same workers
  pub same_workers : (well : Bool) (old new : List (StoreLog D)) → LogsAreRead is_honest state failures well old new → workers_of new ≡ workers_of old
  same_workers well old new read =
      each_map worker_of (λ k was is. LogIsRead is_honest state failures well was is) old new (λ k was is r. ap worker_of r.rest) read

  module _ (accounts : Accounts) (seen : List (Option Checkpoint)) (found : Both (Option Checkpoint)) (told : seen ≡ in_order found) (old mid new : List (StoreLog D))
      (slots rested now : StoreSlots D) (reads : ReadsBoth is_honest state failures slots rested found) (chains : Chains)
      (opens : OpensLogs is_honest state failures (slots_of seen) old mid chains) where
    abbrev opened : List (Option Checkpoint) → Type 0
    opened read = OpensLogs is_honest state failures (slots_of read) old mid chains

    ready : (well : Bool) (logs : List (StoreLog D)) → LogsAreRead is_honest state failures well mid logs → KeepRules is_honest state failures logs slots
        → AreReady is_honest state failures mid rested chains (slots_of seen)
    ready well logs read rules =
        subst (λ (s : List (Option Checkpoint)). AreReady is_honest state failures mid rested chains (slots_of s)) (sym told)
        (are_ready is_honest state failures (slots_of (in_order found)) old mid chains (subst opened told opens) well logs read slots rested found reads rules)

    -- the store was recovered
    pub opens_new : LogsAreRead is_honest state failures true mid new → (0 < chains.generation → KeepPlain mid new)
        → OpensLogs is_honest state failures (slots_of seen) old new chains
    opens_new read plain = still_opens is_honest state failures (slots_of seen) old mid chains opens new read plain

    pub opens_found : LogsAreRead is_honest state failures true mid new → (0 < chains.generation → KeepPlain mid new)
        → OpensLogs is_honest state failures (slots_of (in_order found)) old new chains
    opens_found read plain = subst (λ (s : List (Option Checkpoint)). OpensLogs is_honest state failures (slots_of s) old new chains) told (opens_new read plain)

    pub recovers_new : (r : Recovered) → ReadsAgain is_honest state failures accounts chains (slots_of seen) mid rested new now r
        → IsRecoveredOf (KeepRules is_honest state failures new slots) accounts (slots_of seen) chains.fronts.items r
    recovers_new r again =
        recovered_by (AreReady is_honest state failures mid rested chains (slots_of seen)) (KeepRules is_honest state failures new slots) accounts (slots_of seen) chains.fronts.items r
        (ready true new again.read) again.recovers

    pub recovers_found : (r : Recovered) → ReadsAgain is_honest state failures accounts chains (slots_of seen) mid rested new now r
        → IsRecoveredOf (KeepRules is_honest state failures new slots) accounts (slots_of (in_order found)) chains.fronts.items r
    recovers_found r again =
        subst (λ (s : List (Option Checkpoint)). IsRecoveredOf (KeepRules is_honest state failures new slots) accounts (slots_of s) chains.fronts.items r) told (recovers_new r again)

    pub reads_found : (r : Recovered) → ReadsAgain is_honest state failures accounts chains (slots_of seen) mid rested new now r → ReadsBoth is_honest state failures slots now found
    reads_found r again = again.both slots found reads

    -- it was not
    pub none_workers : (e : StoreRefusal) → GivesNone is_honest state failures accounts chains (slots_of seen) mid rested new now e → workers_of new ≡ workers_of mid
    none_workers e (inl refused) = same_workers true mid new refused.read
    none_workers e (inr stops) = same_workers false mid new stops.read

    pub none_recovered : (e : StoreRefusal) → GivesNone is_honest state failures accounts chains (slots_of seen) mid rested new now e
        → IsNotRecovered is_honest state failures accounts e old slots new now
    none_recovered e (inl refused) =
        subst (λ (x : StoreRefusal). IsNotRecovered is_honest state failures accounts x old slots new now) (sym refused.all)
        (inl (record {
          found = found;
          reads = refused.both slots found reads;
          why = inr (inl (record {
            all = refl;
            chains = chains;
            opens = opens_found refused.read refused.plain;
            now = refused.fronts;
            loaded = refused.loaded;
            again =
                subst (λ (s : List (Option Checkpoint)). IsAgain (KeepRules is_honest state failures new slots) (slots_of s) chains.fronts.items refused.fronts refused.loaded) told
                (again_by (AreReady is_honest state failures mid rested chains (slots_of seen)) (KeepRules is_honest state failures new slots) (slots_of seen) refused.loaded chains.fronts.items
                refused.fronts (ready true new refused.read) refused.again);
            refused = refused.refused;
          }));
        }))
    none_recovered e (inr stops) = inr (record {
      rested = rested;
      found = found;
      reads = reads;
      mid = mid;
      chains = chains;
      opens = subst opened told opens;
      read = stops.read;
      stay = stops.stay;
      why = stops_by (AreReady is_honest state failures mid rested chains (slots_of seen)) (KeepRules is_honest state failures mid slots) e
          (ready true mid (logs_same is_honest state failures true mid)) stops.why;
    })
