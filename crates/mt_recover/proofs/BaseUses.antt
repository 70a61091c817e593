-- A recovery has a base; and of logs that begin at step 0 it is as of whole ones: for the laws.
use Rattle.std.proofs.Common.{◌≡◌, ◌⊎◌, inl, inr, ⊎_elim, ℕ, List, refl, sym, ◌∙◌, arith, Option, Some, None}
use Rattle.mt_rows.specs.{Tenants.{Contents as Pairs}, declared.refusal.Refusal.Refusal}
use Rattle.mt_log.specs.Contents.{Contents}
use Rattle.mt_crashes.specs.{Bases.Slots, Recoveries.{IsRecovered, AreSet}}
use Rattle.mt_crashes.proofs.{Members.{no_some}}
use Rattle.mt_generations.{specs.Chains.{BeginBy, HasUse, IsUsedOver, IsRecoveredOver}, proofs.Whole.whole_over}
use Rattle.mt_recover.specs.{Refusals.{AreSound, Falls, Recovers, IsRefusal}}
use Rattle.mt_recover.proofs.{OlderLemmas.not_both}
use Rattle.mt_rows.specs.declared.refusal.Refusal.TheVariants as refusals

use_there : (fronts : List Contents) (read : Slots) (used : Option ℕ) → IsUsedOver fronts read used → HasUse fronts read
use_there fronts read None is = inl is.0
use_there fronts read (Some k) is = inr (k, is.0, is.1, is.2)

pub recovers_over_base : (fronts : List Contents) (read : Slots) (cutoff resume : ℕ) (used : Option ℕ) (found : Pairs)
    → IsRecoveredOver fronts read cutoff resume used found → HasUse fronts read
recovers_over_base fronts read cutoff resume used found is = use_there fronts read used is.used_is

module _ (fronts : List Contents) (read : Slots) (quota : ℕ → Option ℕ) where
  module _ (sound : AreSound fronts) (none : ¬ HasUse fronts read) where
    pub refused_for_none : (e : Refusal) → IsRefusal fronts read quota e → (e ≡ refusals.LogCount) ⊎ (e ≡ refusals.Memory)
    refused_for_none refusals.LogCount why = inl refl
    refused_for_none refusals.Memory why = inr refl
    refused_for_none (refusals.StampsFall worker stamp) why = absurd (by why.1)
      where
        by : Falls fronts worker stamp → ⊥
        by (inl falls) = no_some (worker, stamp) (sym sound.rise ∙ falls)
        by (inr (inl one)) = not_both fronts worker stamp sound.level one.1
        by (inr (inr two)) = let twice = two.2 in omega (arith, twice.lower.1, sound.apart stamp twice.lower.0 worker twice.lower.2 twice.stands)
    refused_for_none (refusals.NoTenant t) why = let r = why.1.1 in absurd (none (recovers_over_base fronts read r.0 r.1 r.2 why.1.0 r.3))
    refused_for_none (refusals.OverQuota t) why = let r = why.1.1 in absurd (none (recovers_over_base fronts read r.0 r.1 r.2 why.1.0 r.3))
    refused_for_none refusals.KeyLong why = absurd why
    refused_for_none refusals.TenantThere why = absurd why
    refused_for_none refusals.Column why = absurd why
    refused_for_none refusals.ColumnLong why = absurd why
    refused_for_none refusals.Quota why = absurd why
    refused_for_none refusals.ScanCount why = absurd why
    refused_for_none refusals.Spent why = absurd why
    refused_for_none refusals.Device why = absurd why
    refused_for_none (refusals.WrongTurn m) why = absurd why
    refused_for_none (refusals.BadLog k o) why = absurd why
    refused_for_none refusals.BadFrame why = absurd why
    refused_for_none refusals.NotOpen why = absurd why
    refused_for_none refusals.OpenTwice why = absurd why
    refused_for_none refusals.NoRoom why = absurd why
    refused_for_none refusals.NoStore why = absurd why

  module _ (begin : BeginBy 0 fronts) where
    pub no_set_alone : IsRefusal fronts read quota refusals.LogCount → ¬ AreSet fronts
    no_set_alone why set = ⊎_elim (λ none. none set) (λ none. none.1 (inl begin)) why

    pub recovers_whole : (found : Pairs) → Recovers fronts read found
        → (cutoff resume : ℕ) × (used : Option ℕ) × IsRecovered fronts read cutoff resume used found
    recovers_whole found r = (r.0, r.1, r.2, whole_over fronts begin read r.0 r.1 r.2 found r.3)
