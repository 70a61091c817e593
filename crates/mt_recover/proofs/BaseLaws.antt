-- The pairs of a checkpoint in the format ascend, and so do those with which a replay begins: for `gathered_of`.
use Rattle.std.proofs.Common.{◌≡◌, ℕ, suc, ◌+◌, Bool, true, false, cond, nat_lt, List, [], ◌∷◌, map, length, Option, Some, None, refl, ap, subst, arith}
use Rattle.std.specs.{Prelude.slice_get, List.AllByRecursion, List.Sorted.IsStrictlySortedBy, declared.cmp.Ordering.TheVariants.Less}
use Rattle.mt_rows.specs.{Tenants.owned_cmp, declared.record.TenantPair.TenantPair, TenantPairs.owner_of}
use Rattle.mt_checkpoint.specs.{declared.checkpoint.Checkpoint.Checkpoint, Checkpoints.Rise}
use Rattle.mt_log.specs.Contents.{Contents}
use Rattle.mt_recover.{specs.{Bases.{Chosen, may_use, usable, latest}, Limits.IsReadSlot, Pairs.Ascend}, proofs.Merges.all_later}

-- a checkpoint that is used is one that was read
usable_is_read : (fronts : List Contents) (start cutoff : ℕ) (o : Option Checkpoint) → IsReadSlot o → IsReadSlot (usable fronts start cutoff o)
usable_is_read fronts start cutoff o is = by (may_use fronts start cutoff o)
  where
    by : (b : Bool) → IsReadSlot (cond b o None)
    by true = is
    by false = tt

-- what is begun with is a checkpoint that was read, or nothing
abbrev IsRead : Chosen → Type 0
IsRead ch = IsReadSlot ch.1

either_is_read : (a b : Option Checkpoint) → IsReadSlot a → IsReadSlot b → IsReadSlot (latest a b).1
either_is_read None None is_a is_b = tt
either_is_read None (Some d) is_a is_b = is_b
either_is_read (Some c) None is_a is_b = is_a
either_is_read (Some c) (Some d) is_a is_b = by (nat_lt c.last d.last)
  where
    by : (b : Bool) → IsRead (cond b (Some 1, Some d) (Some 0, Some c))
    by true = is_b
    by false = is_a

pub latest_is_read : (fronts : List Contents) (start cutoff : ℕ) (first second : Option Checkpoint) → IsReadSlot first → IsReadSlot second
    → IsReadSlot (latest (usable fronts start cutoff first) (usable fronts start cutoff second)).1
latest_is_read fronts start cutoff first second is_first is_second =
    either_is_read (usable fronts start cutoff first) (usable fronts start cutoff second) (usable_is_read fronts start cutoff first is_first)
    (usable_is_read fronts start cutoff second is_second)

-- pairs of which each is before the next ascend
rise_behind : (p : TenantPair) (ps : List TenantPair) → Rise (p ∷ ps) → Rise ps
rise_behind p ps rise i q r at_q at_r =
    let next : suc (i + 1) ≡ suc i + 1 = omega arith in
    rise (suc i) q r at_q (subst (λ (k : ℕ). slice_get (p ∷ ps) k ≡ Some r) next at_r)

after_first : (p : TenantPair) (ps : List TenantPair) → Rise (p ∷ ps) → AllByRecursion (λ o. owned_cmp (owner_of p) o ≡ Less) (map owner_of ps)
after_first p [] rise = tt
after_first p (q ∷ ps) rise =
    let next : owned_cmp (owner_of p) (owner_of q) ≡ Less = rise 0 p q refl refl in
    (next, all_later (owner_of p) (owner_of q) (map owner_of ps) next (after_first q ps (rise_behind p (q ∷ ps) rise)))

pub rising_ascends : (ps : List TenantPair) → Rise ps → Ascend ps
unfolding IsStrictlySortedBy
rising_ascends [] rise = tt
rising_ascends (p ∷ ps) rise = (after_first p ps rise, rising_ascends ps (rise_behind p ps rise))

pub nothing_ascends : (ps : List TenantPair) → ps ≡ [] → Ascend ps
unfolding IsStrictlySortedBy
nothing_ascends [] none = tt
nothing_ascends (p ∷ ps) none = absurd (omega (arith, ap length none))
