-- Logs of which one is older are refused for that alone: for the laws.
use Rattle.std.proofs.Common.{◌≡◌, inl, inr, ⊎_elim, ℕ, ◌<◌, List, refl, sym, ◌∙◌, subst, arith, Option, None}
use Rattle.mt_rows.specs.declared.refusal.Refusal.{Refusal}
use Rattle.mt_log.specs.Contents.{Contents, mark_of}
use Rattle.mt_crashes.{specs.{Fronts.{In, ServedFrom, IsLastServed}, Bases.Slots, Recoveries.AreSet}, proofs.Members.no_some}
use Rattle.mt_generations.specs.Chains.{NoneOlderOver}
use Rattle.mt_recover.specs.{Examples.{fronts_with_copy, fronts_with_new, fronts_with_ended, fronts_with_next, fronts_resumed_twice}, Falls.first_fall}
use Rattle.mt_recover.specs.Older.{Lacks, IsFirstOlder}
use Rattle.mt_recover.specs.Refusals.{AreSound, Falls, IsRefusal}
use Rattle.mt_recover.proofs.{OlderLemmas.{has_not, none_is_older, one_is_older, not_both, reaches_served}, FallLaws.joins_and_rises, FallLemmas.front_falls_not}
use Rattle.mt_rows.specs.declared.refusal.Refusal.TheVariants as refusals

pub not_sound : (n : ℕ) (fronts : List Contents) (g : Contents) → 0 < n → IsLastServed fronts n → In g fronts → Lacks n g → ¬ AreSound fronts
not_sound n fronts g over last in_g lacks sound = has_not n g (sound.level n g over last in_g) lacks

pub not_sound_before : (n : ℕ) (fronts : List Contents) (f g : Contents) → In f fronts → ServedFrom n f → In g fronts → mark_of g < n → ¬ AreSound fronts
not_sound_before n fronts f g in_f served in_g ends sound =
    omega (
      arith,
      ends,
      reaches_served n fronts f g sound.level in_f served in_g (joins_and_rises g (front_falls_not fronts g sound.rise in_g)),
    )

-- one log is told, with one number
one_worker : (fronts : List Contents) (worker other stamp later : ℕ) → IsFirstOlder fronts worker stamp → IsFirstOlder fronts other later
    → (worker ≡ other) × (stamp ≡ later)
one_worker fronts worker other stamp later a b = (
  omega (
    arith,
    a.least b.log b.given (subst (λ (n : ℕ). Lacks n b.log) (sym same) b.lacks),
    b.least a.log a.given (subst (λ (n : ℕ). Lacks n a.log) same a.lacks),
    a.owner,
    b.owner,
  ),
  same,
)
  where
    same : stamp ≡ later
    same = omega (arith, a.served.1 later b.served.0, b.served.1 stamp a.served.0)

module _ (worker stamp : ℕ) (fronts : List Contents) (set : AreSet fronts) (rise : first_fall fronts ≡ None) (older : IsFirstOlder fronts worker stamp) (read : Slots)
    (quota : ℕ → Option ℕ) where
  not_level : NoneOlderOver fronts → ⊥
  not_level none = not_both fronts worker stamp none older

  pub refused_for_it : (e : Refusal) → IsRefusal fronts read quota e → e ≡ refusals.StampsFall worker stamp
  refused_for_it (refusals.StampsFall w s) is = by is.1
    where
      by : Falls fronts w s → refusals.StampsFall w s ≡ refusals.StampsFall worker stamp
      by (inl falls) = absurd (no_some (w, s) (sym rise ∙ falls))
      by (inr (inl one)) = let same = one_worker fronts w worker s stamp one.1 older in λ i. refusals.StampsFall (same.0 i) (same.1 i)
      by (inr (inr two)) = absurd (not_level two.1)
  refused_for_it refusals.Memory is = absurd (not_level is.2)
  refused_for_it refusals.LogCount is = absurd (⊎_elim (λ none. none set) (λ none. not_level none.0.level) is)
  refused_for_it (refusals.NoTenant t) is = absurd (not_level is.0.level)
  refused_for_it (refusals.OverQuota t) is = absurd (not_level is.0.level)
  refused_for_it refusals.KeyLong is = absurd is
  refused_for_it refusals.TenantThere is = absurd is
  refused_for_it refusals.Column is = absurd is
  refused_for_it refusals.ColumnLong is = absurd is
  refused_for_it refusals.Quota is = absurd is
  refused_for_it refusals.ScanCount is = absurd is
  refused_for_it refusals.Spent is = absurd is
  refused_for_it refusals.Device is = absurd is
  refused_for_it (refusals.WrongTurn m) is = absurd is
  refused_for_it (refusals.BadLog k o) is = absurd is
  refused_for_it refusals.BadFrame is = absurd is
  refused_for_it refusals.NotOpen is = absurd is
  refused_for_it refusals.OpenTwice is = absurd is
  refused_for_it refusals.NoRoom is = absurd is
  refused_for_it refusals.NoStore is = absurd is

-- ---- examples

pub copy_is_older : IsFirstOlder fronts_with_copy 1 2
copy_is_older = one_is_older fronts_with_copy 1 refl

pub new_is_older : IsFirstOlder fronts_with_new 1 2
new_is_older = one_is_older fronts_with_new 1 refl

pub ended_is_older : IsFirstOlder fronts_with_ended 1 4
ended_is_older = one_is_older fronts_with_ended 1 refl

pub resumed_twice_are_level : NoneOlderOver fronts_resumed_twice
resumed_twice_are_level = none_is_older fronts_resumed_twice refl

pub next_is_level : NoneOlderOver fronts_with_next
next_is_level = none_is_older fronts_with_next refl
