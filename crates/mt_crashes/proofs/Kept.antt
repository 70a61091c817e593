-- Whatever happens to a store keeps its invariant, and no log goes back.
use Rattle.std.proofs.Common.{inl, inr, ℕ, zero, suc, sym, subst, Some}
use Rattle.mt_log.specs.{declared.batch.LogBatch.TheVariants.{Records, Resume}, Contents.mark_of}
use Rattle.mt_crashes.specs.{Stores.{Store, at_rest, Happens, Leads, ReachesAt}, Invariants.IsStore}
use Rattle.mt_crashes.proofs.{Steps.{steps_on, places}, OneLog.{with_log, one_reach}, Batches.{appended, appends, resumed, resumes, rested, rests}}
use Rattle.mt_crashes.proofs.{Recovery.{recovers, serves}, Slots.writes_slot}

pub happens : (old new : Store) → IsStore old → Happens old new → IsStore new
happens old new is (inl h) = steps_on old new is h
happens old new is (inr (inl h)) = places old new is h
happens old new is (inr (inr (inl h))) = appends old new is h
happens old new is (inr (inr (inr (inl h)))) = rests old new is h
happens old new is (inr (inr (inr (inr (inl h))))) = recovers old new is h
happens old new is (inr (inr (inr (inr (inr (inl h)))))) = resumes old new is h
happens old new is (inr (inr (inr (inr (inr (inr (inl h))))))) = serves old new is h
happens old new is (inr (inr (inr (inr (inr (inr (inr h))))))) = writes_slot old new is h

pub leads : (n : ℕ) (old new : Store) → IsStore old → Leads n old new → IsStore new
leads zero old new is e = subst IsStore (sym e) is
leads (suc n) old new is h = leads n h.0 new (happens old h.0 is h.1) h.2

-- and no log goes back, whatever a crash leaves of it
reaches_on : (k w : ℕ) (old new : Store) → IsStore old → Happens old new → ReachesAt k old w → ReachesAt k new w
unfolding with_log
reaches_on k w old new is (inl h) before = subst (λ (s : Store). ReachesAt k s w) (sym h.stands) before
reaches_on k w old new is (inr (inl h)) before = subst (λ (s : Store). ReachesAt k s w) (sym h.stands) before
reaches_on k w old new is (inr (inr (inl h))) before = subst (λ (s : Store). ReachesAt k s w) (sym h.stands)
    (one_reach old h.worker (at_rest h.had) (record { had = h.had; doubt = Some (Records h.batch) }) (appended old new h is) k w before)
reaches_on k w old new is (inr (inr (inr (inl h)))) before =
    subst (λ (s : Store). ReachesAt k s w) (sym h.stands) (one_reach old h.worker h.log (at_rest h.front) (rested old new h is) k w before)
reaches_on k w old new is (inr (inr (inr (inr (inl h))))) before = subst (λ (s : Store). ReachesAt k s w) (sym h.stands) before
reaches_on k w old new is (inr (inr (inr (inr (inr (inl h)))))) before = subst (λ (s : Store). ReachesAt k s w) (sym h.stands)
    (one_reach old h.worker (at_rest h.had) (record { had = h.had; doubt = Some (Resume (mark_of h.had) old.reached h.kept) })
    (resumed old new h is) k w before)
reaches_on k w old new is (inr (inr (inr (inr (inr (inr (inl h))))))) before = subst (λ (s : Store). ReachesAt k s w) (sym h.stands) before
reaches_on k w old new is (inr (inr (inr (inr (inr (inr (inr h))))))) before = subst (λ (s : Store). ReachesAt k s w) (sym h.stands) before

pub reaches_ever : (n k w : ℕ) (old new : Store) → IsStore old → Leads n old new → ReachesAt k old w → ReachesAt k new w
reaches_ever zero k w old new is e before = subst (λ (s : Store). ReachesAt k s w) (sym e) before
reaches_ever (suc n) k w old new is h before = reaches_ever n k w h.0 new (happens old h.0 is h.1) h.2 (reaches_on k w old h.0 is h.1 before)
