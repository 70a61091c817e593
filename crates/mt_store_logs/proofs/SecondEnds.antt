-- What a second reading comes to at its end.
use Rattle.std.proofs.Common.{◌≡◌, inl, inr, ℕ, ◌<◌, ◌≤◌, ◌^◌, Bool, true, false, List, map, refl, sym, ◌∙◌, ap, subst, Option, Some, None}
use Rattle.std.specs.{Prelude.{Result, Ok, Err, is_none, is_ok, IsOk, IfOk, IfErr}, List.All}
use Rattle.mt_rows.specs.{Accounts.Accounts, declared.refusal.Refusal.Refusal, TenantPairs.{pairs_of, quota_in, HasTenants, KeepsQuotas, IsTenantPair, AreStampedUpto}}
use Rattle.mt_disk.specs.Disk.{DiskState}
use Rattle.mt_log.specs.{declared.batch.Front.Front, Contents.{contents_of}}
use Rattle.mt_generations.specs.Chains.{IsRecoveredOver}
use Rattle.mt_checkpoint.specs.declared.checkpoint.Checkpoint.{Checkpoint}
use Rattle.mt_recover.specs.{declared.recovering.Recovered.Recovered, Pairs.Ascend, Outlines.AreAgain, Sources.{AreLeft}, Loads.{views, IsLoaded}, Refusals.{StopsRecovery}, Limits.AreContents}
use Rattle.mt_slots.specs.declared.store_slots.StoreSlots.{StoreSlots}
use Rattle.mt_chain_files.specs.declared.{chain_reader.ChainReader.ChainReader, opening.Chains.Chains}
use Rattle.mt_store_logs.specs.{declared.fault.StoreRefusal.StoreRefusal, declared.fault.StoreRefusal.TheVariants.{Logs as OfLogs}, declared.fault.LogRefusal.LogRefusal}
use Rattle.mt_store_logs.specs.{declared.second_reading.SecondReading.SecondReading, declared.store_log.StoreLog.StoreLog, Recovers.{slots_of, IsAgain}}
use Rattle.mt_store_logs.specs.{Rereads.{readers_of, AreNumbered, KeepPlain, Told, LogsAreRead, IsLeft, Holds, Follows}, Seconds.{AreReady, ReadsAgain, GivesNone}}
use Rattle.mt_store_logs.proofs.Rereading.{readers_numbered, logs_after, logs_same}

-- of a result that is Ok
ok_of : {A E : Type 0} (res : Result A E) (x : A) (P : A → Type 0) → res ≡ Ok x → IfOk res P → P x
ok_of res x P is holds = subst (λ (r : Result _ _). IfOk r P) is holds

err_of : {A E : Type 0} (res : Result A E) (e : E) (P : E → Type 0) → res ≡ Err e → IfErr res P → P e
err_of res e P is holds = subst (λ (r : Result _ _). IfErr r P) is holds

-- by a value in between
pub by_way : {A : Type 0} (x y z : A) → x ≡ y → y ≡ z → x ≡ z
by_way x y z first second = first ∙ second

module _ {D : Type 0} (is_honest : D → Bool) (state : D → DiskState) (failures : D → ℕ) (accounts : Accounts) (chains : Chains) (seen : List (Option Checkpoint))
    (start now : SecondReading D) (follows : Follows is_honest state failures start now) (readers : start.readers.now ≡ readers_of chains) where
  -- ---- as the calls left it

  well : now.fault ≡ None → LogsAreRead is_honest state failures true start.logs.now now.logs.now
  well none = subst (λ (b : Bool). LogsAreRead is_honest state failures b start.logs.now now.logs.now) (ap is_none none) follows.reads

  plain : 0 < chains.generation → KeepPlain start.logs.now now.logs.now
  plain some = (follows.plain (subst AreNumbered (sym readers) (readers_numbered chains.generation chains.begun.items some))).1

  abbrev Ready : Type 0
  Ready = AreReady is_honest state failures start.logs.now start.slots.now chains (slots_of seen)

  -- what is known of a reading of these fronts, which the chains have
  module _ (fronts new_fronts : List Front) (are : fronts ≡ chains.fronts.items)
      (same : AreLeft (IsLeft is_honest state failures start.logs.now start.readers.now) (map contents_of fronts) → map contents_of new_fronts ≡ map contents_of fronts) where
    left_of : Ready → AreLeft (IsLeft is_honest state failures start.logs.now start.readers.now) (map contents_of fronts)
    left_of ready =
        subst (λ (rs : List ChainReader). AreLeft (IsLeft is_honest state failures start.logs.now rs) (map contents_of fronts)) (sym readers)
        (subst (λ (fs : List Front). AreLeft (IsLeft is_honest state failures start.logs.now (readers_of chains)) (map contents_of fs)) (sym are) ready.0)

    again_of : (loaded : List (Option Checkpoint)) → IsLoaded (Holds is_honest state failures start.slots.now) seen loaded
        → IsAgain Ready (slots_of seen) chains.fronts.items (map contents_of new_fronts) (views loaded)
    again_of loaded is = record {
      numbers = is.numbers;
      same = λ ready. (same (left_of ready) ∙ ap (map contents_of) are, is.same ready.1);
    }

    recovers_so : (res : Result Recovered Refusal) (r : Recovered) → res ≡ Ok r → now.fault ≡ None
        → IfOk res (λ r. (loaded : List (Option Checkpoint)) × IsLoaded (Holds is_honest state failures start.slots.now) seen loaded
        × IsRecoveredOver (map contents_of new_fronts) (views loaded) r.cutoff r.resume r.used (pairs_of r.pairs.items))
        → AreAgain (map contents_of fronts) (map contents_of new_fronts) → IfOk res (λ r. Ascend r.pairs.items)
        → IfOk res (λ r. HasTenants (quota_in accounts) (pairs_of r.pairs.items) × KeepsQuotas (quota_in accounts) (pairs_of r.pairs.items))
        → IfOk res (λ r. All IsTenantPair r.pairs.items) → IfOk res (λ r. AreStampedUpto r.resume r.pairs.items) → IfOk res (λ r. r.resume ≤ 2 ^ 59)
        → ReadsAgain is_honest state failures accounts chains (slots_of seen) start.logs.now start.slots.now now.logs.now now.slots.now r
    recovers_so res r is none recovered again ascend quotas limits stamped last =
        let so = ok_of res r (λ r. (loaded : List (Option Checkpoint)) × IsLoaded (Holds is_honest state failures start.slots.now) seen loaded
        × IsRecoveredOver (map contents_of new_fronts) (views loaded) r.cutoff r.resume r.used (pairs_of r.pairs.items)) is recovered in
        let kept = ok_of res r (λ r. HasTenants (quota_in accounts) (pairs_of r.pairs.items) × KeepsQuotas (quota_in accounts) (pairs_of r.pairs.items)) is quotas in
        record {
          read = well none;
          plain = plain;
          both = follows.well none;
          recovers = record {
            now = map contents_of new_fronts;
            loaded = views so.0;
            again = again_of so.0 so.1;
            outlines = subst (λ (fs : List Front). AreAgain (map contents_of fs) (map contents_of new_fronts)) are again;
            over = so.2;
            ascend = ok_of res r (λ r. Ascend r.pairs.items) is ascend;
            tenants = kept.0;
            quotas = kept.1;
            limits = ok_of res r (λ r. All IsTenantPair r.pairs.items) is limits;
            stamped = ok_of res r (λ r. AreStampedUpto r.resume r.pairs.items) is stamped;
            last = ok_of res r (λ r. r.resume ≤ 2 ^ 59) is last;
          };
        }

    refused_so : (e : Refusal) → now.fault ≡ None
        → StopsRecovery (λ (s : SecondReading D) (x : Refusal). Told s.fault) (Holds is_honest state failures start.slots.now)
        (AreLeft (IsLeft is_honest state failures start.logs.now start.readers.now) (map contents_of fronts)) seen now (map contents_of new_fronts) (quota_in accounts) e
        → GivesNone is_honest state failures accounts chains (slots_of seen) start.logs.now start.slots.now now.logs.now now.slots.now (OfLogs (record { log = None; refusal = e }))
    refused_so e none (inl told) = absurd (subst Told none told)
    refused_so e none (inr (inl differs)) = inr (record {
      read = logs_after is_honest state failures true false start.logs.now now.logs.now now.logs.now (well none) (logs_same is_honest state failures false now.logs.now);
      stay = follows.stay;
      why = inr (ap (λ (x : Refusal). OfLogs (record { log = None; refusal = x })) differs.0, λ ready. differs.1 (left_of ready, ready.1));
    })
    refused_so e none (inr (inr refused)) = inl (record {
      read = well none;
      plain = plain;
      both = follows.well none;
      refusal = e;
      all = refl;
      fronts = map contents_of new_fronts;
      loaded = views refused.0;
      again = again_of refused.0 refused.1;
      refused = refused.2;
    })

  -- a call has failed
  fault_so : (e : StoreRefusal) → now.fault ≡ Some e → GivesNone is_honest state failures accounts chains (slots_of seen) start.logs.now start.slots.now now.logs.now now.slots.now e
  fault_so e is = inr (record {
    read = subst (λ (b : Bool). LogsAreRead is_honest state failures b start.logs.now now.logs.now) (ap is_none is) follows.reads;
    stay = follows.stay;
    why = inl (follows.why e is);
  })

  -- ---- the same, of logs and slots that are let go then

  module _ (logs : List (StoreLog D)) (slots : StoreSlots D) (from : start.logs.now ≡ logs) (of : start.slots.now ≡ slots) (new : List (StoreLog D)) (left : StoreSlots D)
      (ends : new ≡ now.logs.now) (both : left ≡ now.slots.now) where
    at_end : (P : List (StoreLog D) → StoreSlots D → List (StoreLog D) → StoreSlots D → Type 0) → P start.logs.now start.slots.now now.logs.now now.slots.now → P logs slots new left
    at_end P holds =
        subst (λ (l : List (StoreLog D)). P l slots new left) from
        (subst (λ (s : StoreSlots D). P start.logs.now s new left) of
        (subst (λ (l : List (StoreLog D)). P start.logs.now start.slots.now l left) (sym ends)
        (subst (λ (s : StoreSlots D). P start.logs.now start.slots.now now.logs.now s) (sym both) holds)))

    pub fault_gives : (e : StoreRefusal) → now.fault ≡ Some e → GivesNone is_honest state failures accounts chains (slots_of seen) logs slots new left e
    fault_gives e is = at_end (λ l s n t. GivesNone is_honest state failures accounts chains (slots_of seen) l s n t e) (fault_so e is)

    module _ (fronts new_fronts : List Front) (are : fronts ≡ chains.fronts.items)
        (same : AreLeft (IsLeft is_honest state failures start.logs.now start.readers.now) (map contents_of fronts) → map contents_of new_fronts ≡ map contents_of fronts)
        (none : now.fault ≡ None) where
      pub recovery_gives : (res : Result Recovered Refusal) (r : Recovered) → res ≡ Ok r
          → IfOk res (λ r. (loaded : List (Option Checkpoint)) × IsLoaded (Holds is_honest state failures start.slots.now) seen loaded
          × IsRecoveredOver (map contents_of new_fronts) (views loaded) r.cutoff r.resume r.used (pairs_of r.pairs.items))
          → (IsOk res → AreAgain (map contents_of fronts) (map contents_of new_fronts)) → IfOk res (λ r. Ascend r.pairs.items)
          → IfOk res (λ r. HasTenants (quota_in accounts) (pairs_of r.pairs.items) × KeepsQuotas (quota_in accounts) (pairs_of r.pairs.items))
          → AreContents (map contents_of chains.fronts.items) → (AreContents (map contents_of fronts) → IfOk res (λ r. All IsTenantPair r.pairs.items))
          → IfOk res (λ r. AreStampedUpto r.resume r.pairs.items) → (AreContents (map contents_of fronts) → IfOk res (λ r. r.resume ≤ 2 ^ 59))
          → ReadsAgain is_honest state failures accounts chains (slots_of seen) logs slots new left r
      recovery_gives res r is recovered again ascend quotas format limits stamped last =
          let in_format = subst (λ (fs : List Front). AreContents (map contents_of fs)) (sym are) format in
          at_end (λ l s n t. ReadsAgain is_honest state failures accounts chains (slots_of seen) l s n t r)
          (recovers_so fronts new_fronts are same res r is none recovered (again (ap is_ok is)) ascend quotas (limits in_format) stamped (last in_format))

      pub refusal_gives : (res : Result Recovered Refusal) (e : Refusal) (told : LogRefusal) → res ≡ Err e → told ≡ record { log = None; refusal = e }
          → IfErr res (StopsRecovery (λ (s : SecondReading D) (x : Refusal). Told s.fault) (Holds is_honest state failures start.slots.now)
          (AreLeft (IsLeft is_honest state failures start.logs.now start.readers.now) (map contents_of fronts)) seen now (map contents_of new_fronts) (quota_in accounts))
          → GivesNone is_honest state failures accounts chains (slots_of seen) logs slots new left (OfLogs told)
      refusal_gives res e told is says refused =
          at_end (λ l s n t. GivesNone is_honest state failures accounts chains (slots_of seen) l s n t (OfLogs told))
          (subst (λ (x : LogRefusal). GivesNone is_honest state failures accounts chains (slots_of seen) start.logs.now start.slots.now now.logs.now now.slots.now (OfLogs x)) (sym says)
          (refused_so fronts new_fronts are same e none (err_of res e _ is refused)))
