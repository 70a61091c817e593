-- A store whose logs rest is recovered: up to the cutoff it is as it was, and nothing else is left of the life that ended.
use Rattle.std.proofs.Common.{◌≡◌, ℕ, ◌≤◌, min, false, not, ◌&&◌, List, [], ◌∷◌, map, Option, refl, sym, ap, subst, ◌∙◌, arith, inl, inr, ⊎_elim}
use Rattle.std.proofs.lemmas.Bool.{cases_lt, lt-ltb, le-ltb}
use Rattle.std.specs.{Prelude.nat_lt, List.AllZip, FinMap.empty}
use Rattle.mt_rows.specs.{Accounts.Accounts, Tenants.{Contents as Pairs}, TenantPairs.{quota_in, HasTenants, KeepsQuotas}, declared.refusal.Refusal.Refusal}
use Rattle.mt_log.specs.Contents.{Contents}
use Rattle.mt_crashes.specs.{Fronts.{cutoff_of, after_changes}, Histories.{Placed, upto, changes_of, pairs_upto, after_recovery}}
use Rattle.mt_crashes.specs.{Recoveries.resume_of, Stores.{Store, new_store, at_rest, only_this, MayLeaveFronts, MayLeaveSlots, Recovers, AllReach}, Invariants.IsStore}
use Rattle.mt_crashes.specs.Bases.{Slots}
use Rattle.mt_crashes.proofs.{Members.{filter_filter, filter_same}, Heart.settled, NewStore.new_is, Kept.leads}
use Rattle.mt_generations.{specs.Chains.{Chain, EndsLog, HasUse, IsRecoveredOver}, proofs.Whole.recovered_over}
use Rattle.mt_recover.{specs.Refusals.IsRefusal, proofs.OwnFiles.memory_over}
use Rattle.mt_lives.specs.{Lives.{Past, AreLeftOf, KeepsUpto}, Holds.{quotas_of, LeadsTo}}
use Rattle.mt_lives.proofs.{Comes.{stays_here, one_more, comes_on}, Logged.all_on, Walking.rest_leaves, Leaving.IsLeft}
use Rattle.mt_rows.specs.declared.refusal.Refusal.TheVariants as refusals

-- ---- two cutoffs

both_tests : (first next n : ℕ) → (not (nat_lt first n) && not (nat_lt next n)) ≡ not (nat_lt (min next first) n)
both_tests first next n = ⊎_elim
    (λ over. ap (λ b. not b && not (nat_lt next n)) (lt-ltb first n over) ∙ sym (ap not (lt-ltb (min next first) n (omega (arith, over)))))
    (λ within. ap (λ b. not b && not (nat_lt next n)) (le-ltb first n within) ∙ ⊎_elim
    (λ over. ap not (lt-ltb next n over) ∙ sym (ap not (lt-ltb (min next first) n (omega (arith, over)))))
    (λ below. ap not (le-ltb next n below) ∙ sym (ap not (le-ltb (min next first) n (omega (arith, within, below)))))
    (cases_lt next n))
    (cases_lt first n)

-- what a recovery left, up to a number
pub upto_twice : (next first : ℕ) (history : List Placed) → upto next (upto first history) ≡ upto (min next first) history
upto_twice next first history =
    filter_filter (λ (p : Placed). not (nat_lt next p.change.stamp)) (λ (p : Placed). not (nat_lt first p.change.stamp)) history
    ∙ filter_same (λ (p : Placed). not (nat_lt first p.change.stamp) && not (nat_lt next p.change.stamp)) (λ (p : Placed). not (nat_lt (min next first) p.change.stamp)) history
    (λ p at. both_tests first next p.change.stamp)

pub pairs_twice : (next first : ℕ) (history : List Placed) → pairs_upto next (upto first history) ≡ pairs_upto (min next first) history
pairs_twice next first history = ap (λ ps. after_changes empty (changes_of ps)) (upto_twice next first history)

-- ---- the recovery

-- a store as a recovery leaves it
abbrev pub recovered_from : List Contents → Slots → Store → Store
recovered_from fronts read s = record {
  steps = resume_of fronts read;
  history = after_recovery (cutoff_of fronts) s.history;
  logs = s.logs;
  slots = s.slots;
  serving = false;
  placed = upto (resume_of fronts read) s.placed;
  voids = (cutoff_of fronts, resume_of fronts read) ∷ s.voids;
  reached = resume_of fronts read;
}

-- what is kept of a life that ended
abbrev pub kept_upto : ℕ → Past → Past
kept_upto cutoff past = record { life = past.life; kept = min past.kept cutoff }

-- a slot that surely has something may be left with that
pub sure_leaves : (read : Slots) → MayLeaveSlots (map only_this read) read
sure_leaves [] = tt
sure_leaves (x ∷ read) = (inl refl, sure_leaves read)

module _ (accounts : Accounts) (settled_by : ℕ) (past : Past) (count : ℕ) (s : Store) (fronts : List Contents) (chains : List Chain) (read : Slots) (l : IsLeft accounts settled_by past count s)
    (rest : s.logs ≡ map at_rest fronts) (rest_slots : s.slots ≡ map only_this read) (ends : AllZip EndsLog fronts chains) where
  is : IsStore s
  is = leads l.come.0 (new_store count) s (new_is count l.some l.few) l.come.1

  left_fronts : MayLeaveFronts s.logs fronts
  left_fronts = subst (λ ls. MayLeaveFronts ls fronts) (sym rest) (rest_leaves fronts)

  left_slots : MayLeaveSlots s.slots read
  left_slots = subst (λ ss. MayLeaveSlots ss read) (sym rest_slots) (sure_leaves read)

  -- what all logs reach is kept
  reached : (n : ℕ) → AllReach n s → n ≤ cutoff_of fronts
  reached n all = settled count l.come.0 n s fronts l.some l.few l.come.1 all left_fronts

  pub settled_kept : settled_by ≤ cutoff_of fronts
  settled_kept = reached settled_by l.settled_so

  pub base_kept : past.life.base ≤ cutoff_of fronts
  base_kept = reached past.life.base l.down.reach

  -- why it may be refused
  pub refused : HasUse chains read → (e : Refusal) → IsRefusal chains read (quota_in accounts) e → e ≡ refusals.Memory
  refused has e why = memory_over count l.come.0 s fronts chains l.some l.few l.come.1 left_fronts ends (quota_in accounts) read left_slots has l.keeps e why

  -- what is found, and by which numbers: those of the whole logs
  pub found_so : (cutoff resume : ℕ) (used : Option ℕ) (found : Pairs) → IsRecoveredOver chains read cutoff resume used found
      → (found ≡ pairs_upto cutoff s.history) × (cutoff ≡ cutoff_of fronts) × (resume ≡ resume_of fronts read)
  found_so cutoff resume used found r = recovered_over s fronts chains is left_fronts ends read cutoff resume used found left_slots r

  pub recovers_to : LeadsTo s (recovered_from fronts read s)
  recovers_to =
      let r : Recovers s (recovered_from fronts read s) = record { fronts = fronts; read = read; rest = rest; rest_slots = rest_slots; stands = refl } in
      one_more s s (recovered_from fronts read s) (stays_here s s refl) (inr (inr (inr (inr (inl r)))))

  pub left_recovered : IsLeft accounts settled_by (kept_upto (cutoff_of fronts) past) count (recovered_from fronts read s)
  left_recovered =
      let t = recovered_from fronts read s in
      let cutoff = cutoff_of fronts in
      record {
        some = l.some;
        few = l.few;
        come = comes_on count s t l.come recovers_to;
        len = l.len;
        settled_so = all_on count settled_by s t l.some l.few l.come recovers_to l.settled_so;
        keeps = λ m. subst (λ (c : Pairs). HasTenants (quota_in accounts) c × KeepsQuotas (quota_in accounts) c) (sym (pairs_twice m cutoff s.history)) (l.keeps (min m cutoff));
        down = record {
          left = λ next le.
              let was = l.down.left (min next cutoff) (omega (arith, le, base_kept)) in
              let number : min past.kept (min next cutoff) ≡ min (min past.kept cutoff) next = omega arith in
              subst (λ n. AreLeftOf (quotas_of accounts) past.life n (pairs_upto next (upto cutoff s.history))) number
              (subst (AreLeftOf (quotas_of accounts) past.life (min past.kept (min next cutoff))) (sym (pairs_twice next cutoff s.history)) was);
          reach = all_on count past.life.base s t l.some l.few l.come recovers_to l.down.reach;
        };
      }

  -- what is kept of the life
  pub keeps_upto : KeepsUpto settled_by past (kept_upto (cutoff_of fronts) past)
  keeps_upto = record { cutoff = cutoff_of fronts; settled_so = settled_kept; same = refl; kept = refl }

  -- and what is found are its pairs
  pub found_left : (cutoff resume : ℕ) (used : Option ℕ) (found : Pairs) → IsRecoveredOver chains read cutoff resume used found
      → AreLeftOf (quotas_of accounts) past.life (min past.kept cutoff) found
  found_left cutoff resume used found r =
      let so = found_so cutoff resume used found r in
      let same = so.1 in
      subst (AreLeftOf (quotas_of accounts) past.life (min past.kept cutoff)) (sym so.0)
      (l.down.left cutoff (omega (arith, same, base_kept)))
