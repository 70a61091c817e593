-- What a crash leaves of all logs of a store holds its history up to the cutoff, and nothing else that counts.
use Rattle.std.proofs.Common.{◌≡◌, ⊎_elim, inl, ℕ, ◌<◌, ◌≤◌, Bool, true, false, not, ltb, List, [], ◌∷◌, length, refl, sym, ◌∙◌, ap, subst, arith, Option, Some, None}
use Rattle.std.proofs.{lemmas.Bool.{ltb-false, and_parts, and_from, not-true, not_from_false, true≢false}, lemmas.Option.{same_Some, slice_get_within}}
use Rattle.std.specs.{Prelude.slice_get, List.AllZip}
use Rattle.mt_rows.specs.{declared.record.Record.Record, Tenants.{Contents as Pairs}, TenantPairs.{HasTenants, KeepsQuotas}}
use Rattle.mt_log.specs.Contents.{Contents, IsContents, JoinsAndRises}
use Rattle.mt_crashes.specs.Fronts.{cutoff_of, is_void, all_voids, records_of, all_records, is_replayed, In, Rise, IsReplay, HoldResume, after_replay}
use Rattle.mt_crashes.specs.{Histories.{Placed, upto, changes_of, pairs_upto}, Recoveries.{IsUsed, IsBaseOf, IsRecovered, AreSet, StandsTwice, NoneOlder}}
use Rattle.mt_crashes.specs.{Bases.{over, CheckpointView, Slots, IsBase}, Walks.AreWalked}
use Rattle.mt_crashes.specs.Stores.{Store, LogNow, SlotNow, MayLeaveFront, MayLeaveFronts, MayLeaveSlots, new_store, Leads, ReachesAt, AllReach}
use Rattle.mt_crashes.specs.Invariants.{by_worker, RisePlaced, IsFrontOf, IsStore}
use Rattle.mt_crashes.proofs.{Bases.{over_base, empty_base}, Walks.walked_base}
use Rattle.mt_crashes.proofs.Members.{in_filter, filter_in, in_map, map_in, in_flat_map, flat_map_in, in_place, place_in, permuted_in, in_permuted}
use Rattle.mt_crashes.proofs.FrontLaws.{from_cutoff, all_void, void_of_some, ends_cutoff}
use Rattle.mt_crashes.proofs.{Invariant.{zip_left, zip_right, within_place, rise_filter, rise_changes, same_members, same_stamp}, NewStore.new_is}
use Rattle.mt_crashes.proofs.Kept.{leads, reaches_ever}

-- a front that a crash may leave is one of a worker's log
front_of : (s : Store) (fronts : List Contents) (k : ℕ) (f : Contents) → IsStore s → MayLeaveFronts s.logs fronts → slice_get fronts k ≡ Some f
    → IsFrontOf s k f
front_of s fronts k f is left there = let at = zip_right MayLeaveFront s.logs fronts k f left there in is.logs k at.0 at.1 f at.2

-- a void number up to the cutoff is void by some log that the crash left
void_left : (s : Store) (fronts : List Contents) (n : ℕ) → IsStore s → MayLeaveFronts s.logs fronts → n ≤ cutoff_of fronts → is_void s.voids n ≡ true
    → is_void (all_voids fronts) n ≡ true
void_left s fronts n is left upto void =
    let g = is.guards n void in
    let at = zip_left MayLeaveFront s.logs fronts g.0 g.1 left g.2 in
    ⊎_elim
    (λ under. absurd (omega (arith, under, upto, from_cutoff at.0 fronts (place_in at.0 g.0 fronts at.1))))
    (λ has. all_void n at.0 fronts (place_in at.0 g.0 fronts at.1) has)
    (g.3 at.0 at.2)

-- and nothing else is
left_void : (s : Store) (fronts : List Contents) (n : ℕ) → IsStore s → MayLeaveFronts s.logs fronts → is_void (all_voids fronts) n ≡ true
    → is_void s.voids n ≡ true
left_void s fronts n is left void =
    let f = void_of_some n fronts void in
    let k = in_place f.0 fronts f.1 in
    (front_of s fronts k.0 f.0 is left k.1).voids n f.2

live : (s : Store) (fronts : List Contents) (n : ℕ) → IsStore s → MayLeaveFronts s.logs fronts → n ≤ cutoff_of fronts
    → is_void (all_voids fronts) n ≡ false → is_void s.voids n ≡ false
live s fronts n is left upto not_void = by (is_void s.voids n) refl
  where
    by : (b : Bool) → is_void s.voids n ≡ b → b ≡ false
    by true h = sym (void_left s fronts n is left upto h) ∙ not_void
    by false h = refl

still_live : (s : Store) (fronts : List Contents) (n : ℕ) → IsStore s → MayLeaveFronts s.logs fronts → is_void s.voids n ≡ false
    → is_void (all_voids fronts) n ≡ false
still_live s fronts n is left not_void = by (is_void (all_voids fronts) n) refl
  where
    by : (b : Bool) → is_void (all_voids fronts) n ≡ b → b ≡ false
    by true h = sym (left_void s fronts n is left h) ∙ not_void
    by false h = refl

-- what is replayed was placed and not taken out
replayed_is : (base : ℕ) (s : Store) (fronts : List Contents) (r : Record) → IsStore s → MayLeaveFronts s.logs fronts → In r (all_records fronts)
    → is_replayed (all_voids fronts) base (cutoff_of fronts) r ≡ true → In r (changes_of (over base (upto (cutoff_of fronts) s.history)))
replayed_is base s fronts r is left at counts =
    let f = in_flat_map records_of r fronts at in
    let k = in_place f.0 fronts f.1 in
    let tests = and_parts _ _ counts in
    let within = (and_parts _ _ tests.0).1 in
    let below = ltb-false (cutoff_of fronts) r.stamp (not-true _ within) in
    let placed = (front_of s fronts k.0 f.0 is left k.1).only r f.2 in
    let lives = live s fronts r.stamp is left below (not-true _ tests.1) in
    let told = subst (In (by_worker k.0 r)) (sym is.left)
    (filter_in (λ (p : Placed). not (is_void s.voids p.change.stamp)) (by_worker k.0 r) s.placed placed (not_from_false _ lives)) in
    in_map (λ (p : Placed). p.change) (by_worker k.0 r) _
    (filter_in (λ (p : Placed). ltb base p.change.stamp) (by_worker k.0 r) (upto (cutoff_of fronts) s.history)
    (filter_in (λ (p : Placed). not (ltb (cutoff_of fronts) p.change.stamp)) (by_worker k.0 r) s.history told within) (and_parts _ _ tests.0).0)

-- and all of that is
is_replayed_all : (base : ℕ) (s : Store) (fronts : List Contents) (r : Record) → IsStore s → MayLeaveFronts s.logs fronts
    → In r (changes_of (over base (upto (cutoff_of fronts) s.history)))
    → In r (all_records fronts) × (is_replayed (all_voids fronts) base (cutoff_of fronts) r ≡ true)
is_replayed_all base s fronts r is left at =
    let p = map_in (λ (x : Placed). x.change) r _ at in
    let in_over = in_filter (λ (x : Placed). ltb base x.change.stamp) p.0 (upto (cutoff_of fronts) s.history) p.1 in
    let in_history = in_filter (λ (x : Placed). not (ltb (cutoff_of fronts) x.change.stamp)) p.0 s.history in_over.0 in
    let in_placed = in_filter (λ (x : Placed). not (is_void s.voids x.change.stamp)) p.0 s.placed (subst (In p.0) is.left in_history.0) in
    let below = ltb-false (cutoff_of fronts) p.0.change.stamp (not-true _ in_history.1) in
    let log = within_place s.logs p.0.worker (is.workers p.0 in_placed.0) in
    let f = zip_left MayLeaveFront s.logs fronts p.0.worker log.0 left log.1 in
    let here = place_in f.0 p.0.worker fronts f.1 in
    let has = (is.logs p.0.worker log.0 log.1 f.0 f.2).has p.0.change in_placed.0 (omega (arith, below, from_cutoff f.0 fronts here))
    (not-true _ in_placed.1) in
    let lives = still_live s fronts p.0.change.stamp is left (not-true _ in_placed.1) in
    let stands : In p.0.change (all_records fronts) = flat_map_in records_of p.0.change f.0 fronts here has in
    let counts : is_replayed (all_voids fronts) base (cutoff_of fronts) p.0.change ≡ true =
    and_from _ _ (and_from _ _ in_over.1 in_history.1) (not_from_false _ lives) in (
      subst (λ (x : Record). In x (all_records fronts)) (sym p.2) stands,
      subst (λ (x : Record). is_replayed (all_voids fronts) base (cutoff_of fronts) x ≡ true) (sym p.2) counts,
    )

-- So what is replayed, in the order of its stamps, is the history up to the cutoff.
pub replay_is : (base : ℕ) (s : Store) (fronts : List Contents) (rs : List Record) → IsStore s → MayLeaveFronts s.logs fronts
    → IsReplay base fronts rs → rs ≡ changes_of (over base (upto (cutoff_of fronts) s.history))
replay_is base s fronts rs is left replay =
    same_members base 0 rs (changes_of (over base (upto (cutoff_of fronts) s.history))) replay.rises rising
    (λ r at. let kept = in_filter (is_replayed (all_voids fronts) base (cutoff_of fronts)) r (all_records fronts)
    (permuted_in _ rs r replay.same at) in replayed_is base s fronts r is left kept.0 kept.1)
    (λ r at. let kept = is_replayed_all base s fronts r is left at in
    in_permuted _ rs r replay.same (filter_in (is_replayed (all_voids fronts) base (cutoff_of fronts)) r (all_records fronts) kept.0 kept.1))
  where
    rising : Rise 0 (changes_of (over base (upto (cutoff_of fronts) s.history)))
    rising = rise_changes 0 _ (rise_filter (λ (p : Placed). ltb base p.change.stamp) 0 _
        (rise_filter (λ (p : Placed). not (ltb (cutoff_of fronts) p.change.stamp)) 0 s.history
        (subst (RisePlaced 0) (sym is.left) (rise_filter (λ (p : Placed). not (is_void s.voids p.change.stamp)) 0 s.placed is.rises))))

history_rises : (s : Store) → IsStore s → RisePlaced 0 s.history
history_rises s is = subst (RisePlaced 0) (sym is.left) (rise_filter (λ (p : Placed). not (is_void s.voids p.change.stamp)) 0 s.placed is.rises)

-- over any base that ends by the cutoff
over_any : (from to : ℕ) (s : Store) (fronts : List Contents) (base : Pairs) (rs : List Record) → IsStore s → MayLeaveFronts s.logs fronts
    → from ≤ to → to ≤ cutoff_of fronts → IsBase from to s.history base → IsReplay from fronts rs
    → after_replay base rs ≡ pairs_upto (cutoff_of fronts) s.history
over_any from to s fronts base rs is left le within base_is replay =
    ap (after_replay base) (replay_is from s fronts rs is left replay)
    ∙ over_base from to (cutoff_of fronts) s.history base (history_rises s is) le within base_is

-- over the base that is used
over_used : (s : Store) (fronts : List Contents) (read : Slots) (used : Option ℕ) (from : ℕ) (base : Pairs) (rs : List Record) → IsStore s
    → MayLeaveFronts s.logs fronts → MayLeaveSlots s.slots read
    → IsUsed fronts read used → IsBaseOf read used from base → IsReplay from fronts rs
    → after_replay base rs ≡ pairs_upto (cutoff_of fronts) s.history
over_used s fronts read None from base rs is left left_slots used base_is replay =
    over_any from from s fronts base rs is left (omega arith) (omega (arith, base_is.0))
    (subst (λ (n : ℕ). IsBase n n s.history base) (sym base_is.0)
    (subst (IsBase 0 0 s.history) (sym base_is.1) (empty_base s.history (history_rises s is)))) replay
over_used s fronts read (Some k) from base rs is left left_slots used base_is replay =
    let slot = zip_right (λ (slot : SlotNow) (x : Option CheckpointView). In x slot) s.slots read k (Some used.0) left_slots used.1 in
    let c = is.slots k slot.0 slot.1 used.0 slot.2 in
    let same : base_is.0 ≡ used.0 = same_Some base_is.0 used.0 (same_Some (Some base_is.0) (Some used.0) (sym base_is.1 ∙ used.1)) in
    let walked : IsBase used.0.from used.0.to s.history used.0.pairs =
    ⊎_elim (λ void. absurd (true≢false (sym void ∙ live s fronts used.0.to is left used.2.whole used.2.live))) (λ b. b) c.base in
    let from_is : from ≡ used.0.from = base_is.2 ∙ ap (λ (x : CheckpointView). x.from) same in
    let base_same : base ≡ used.0.pairs = base_is.3 ∙ ap (λ (x : CheckpointView). x.pairs) same in
    over_any from used.0.to s fronts base rs is left (omega (arith, from_is, c.order)) used.2.whole
    (subst (λ (n : ℕ). IsBase n used.0.to s.history base) (sym from_is)
    (subst (IsBase used.0.from used.0.to s.history) (sym base_same) walked)) replay

pub recovered : (count n : ℕ) (s : Store) (fronts : List Contents) (read : Slots) (cutoff resume : ℕ) (used : Option ℕ) (found : Pairs) → 0 < count
    → count ≤ 64 → Leads n (new_store count) s
    → MayLeaveFronts s.logs fronts → MayLeaveSlots s.slots read → IsRecovered fronts read cutoff resume used found
    → found ≡ pairs_upto cutoff s.history
recovered count n s fronts read cutoff resume used found some few h left left_slots r =
    r.pairs_are ∙ over_used s fronts read used r.from r.base r.replayed
    (leads n (new_store count) s (new_is count some few) h) left left_slots r.used_is r.base_is r.replay
    ∙ ap (λ (m : ℕ). pairs_upto m s.history) (sym r.cutoff_is)

-- ---- Settle

least_reached : (k : ℕ) (s : Store) (fronts : List Contents) → IsStore s → AllReach k s → MayLeaveFronts s.logs fronts → k ≤ cutoff_of fronts
least_reached k s fronts is all left =
    let first = within_place s.logs 0 is.some in
    let there = zip_left MayLeaveFront s.logs fronts 0 first.0 left first.1 in
    let f = ends_cutoff fronts (omega (arith, slice_get_within fronts 0 there.0 there.1)) in
    let at = in_place f.0 fronts f.1 in
    let log = zip_right MayLeaveFront s.logs fronts at.0 f.0 left at.1 in
    omega (arith, f.2, all at.0 log.0 log.1 f.0 log.2)

pub never_back : (count m n k w : ℕ) (s t : Store) → 0 < count → count ≤ 64 → Leads m (new_store count) s → ReachesAt k s w → Leads n s t
    → ReachesAt k t w
never_back count m n k w s t some few before reach after =
    reaches_ever n k w s t (leads m (new_store count) s (new_is count some few) before) after reach

pub settled : (count n k : ℕ) (s : Store) (fronts : List Contents) → 0 < count → count ≤ 64 → Leads n (new_store count) s → AllReach k s
    → MayLeaveFronts s.logs fronts → k ≤ cutoff_of fronts
settled count n k s fronts some few h all left = least_reached k s fronts (leads n (new_store count) s (new_is count some few) h) all left

-- ---- a recovery refuses nothing

-- no stamp stands in two logs
pub one_log : (s : Store) (fronts : List Contents) (i j : ℕ) (f g : Contents) (r q : Record) → IsStore s → MayLeaveFronts s.logs fronts
    → slice_get fronts i ≡ Some f → slice_get fronts j ≡ Some g
    → In r (records_of f) → In q (records_of g) → r.stamp ≡ q.stamp → i ≡ j
one_log s fronts i j f g r q is left at_f at_g in_f in_g same =
    ap (λ (p : Placed). p.worker)
    (same_stamp 0 s.placed (by_worker i r) (by_worker j q) is.rises ((front_of s fronts i f is left at_f).only r in_f)
    ((front_of s fronts j g is left at_g).only q in_g) same)

zip_long : {A B : Type 0} (R : A → B → Type 0) (xs : List A) (ys : List B) → AllZip R xs ys → length xs ≡ length ys
zip_long R [] [] all = refl
zip_long R [] (y ∷ ys) all = absurd all
zip_long R (x ∷ xs) [] all = absurd all
zip_long R (x ∷ xs) (y ∷ ys) all = omega (arith, zip_long R xs ys all.1)

pub are_set : (count n : ℕ) (s : Store) (fronts : List Contents) → 0 < count → count ≤ 64 → Leads n (new_store count) s → MayLeaveFronts s.logs fronts
    → AreSet fronts
are_set count n s fronts some few h left =
    let is = leads n (new_store count) s (new_is count some few) h in
    let long = zip_long MayLeaveFront s.logs fronts left in
    record {
      some = omega (arith, is.some, long);
      count = λ k f at. (front_of s fronts k f is left at).owner.1 ∙ long;
      apart = λ i j f g at_f at_g same. sym (front_of s fronts i f is left at_f).owner.0 ∙ same ∙ (front_of s fronts j g is left at_g).owner.0;
    }

pub never_twice : (count n stamp i j : ℕ) (s : Store) (fronts : List Contents) → 0 < count → count ≤ 64 → Leads n (new_store count) s
    → MayLeaveFronts s.logs fronts → StandsTwice fronts stamp i j → ⊥
never_twice count n stamp i j s fronts some few h left t =
    let is = leads n (new_store count) s (new_is count some few) h in
    t.other (one_log s fronts i j t.one.0 t.two.0 t.one.1 t.two.1 is left t.one.2 t.two.2 t.one.3 t.two.3 (t.one.4 ∙ sym t.two.4))

-- no log is older than the others
pub none_older : (count n : ℕ) (s : Store) (fronts : List Contents) → 0 < count → count ≤ 64 → Leads n (new_store count) s
    → MayLeaveFronts s.logs fronts → NoneOlder fronts
none_older count n s fronts some few h left m g over last in_g =
    let is = leads n (new_store count) s (new_is count some few) h in
    let f = last.0 in
    let i = in_place f.0 fronts f.1 in
    let j = in_place g fronts in_g in
    let one = zip_right MayLeaveFront s.logs fronts i.0 f.0 left i.1 in
    let other = zip_right MayLeaveFront s.logs fronts j.0 g left j.1 in
    let all = is.level i.0 one.0 one.1 f.0 one.2 m over f.2 in
    subst (λ (k : ℕ). HoldResume k g.batches) (omega (arith, all.1, last.1 all.0 (f.0, f.1, all.2))) (all.3 j.0 other.0 other.1 g other.2)

-- each log that a crash leaves is its worker's, in the format, and its batches join and rise
pub owned : (count n k : ℕ) (s : Store) (fronts : List Contents) (f : Contents) → 0 < count → count ≤ 64 → Leads n (new_store count) s
    → MayLeaveFronts s.logs fronts
    → slice_get fronts k ≡ Some f → IsContents f × (f.worker ≡ k)
owned count n k s fronts f some few h left there =
    let is = front_of s fronts k f (leads n (new_store count) s (new_is count some few) h) left there in (is.contents, is.owner.0)

-- and it begins at step 0
pub begins_at_0 : (count n k : ℕ) (s : Store) (fronts : List Contents) (f : Contents) → 0 < count → count ≤ 64 → Leads n (new_store count) s
    → MayLeaveFronts s.logs fronts
    → slice_get fronts k ≡ Some f → (f.generation ≡ 0) × (f.start ≡ 0)
begins_at_0 count n k s fronts f some few h left there = (front_of s fronts k f (leads n (new_store count) s (new_is count some few) h) left there).whole

-- so does a log as it stands
pub log_begins_at_0 : (count n k : ℕ) (s : Store) (now : LogNow) → 0 < count → count ≤ 64 → Leads n (new_store count) s → slice_get s.logs k ≡ Some now
    → (now.had.generation ≡ 0) × (now.had.start ≡ 0)
log_begins_at_0 count n k s now some few h there = ((leads n (new_store count) s (new_is count some few) h).logs k now there now.had (inl refl)).whole

pub all_join : (count n k : ℕ) (s : Store) (fronts : List Contents) (f : Contents) → 0 < count → count ≤ 64 → Leads n (new_store count) s
    → MayLeaveFronts s.logs fronts
    → slice_get fronts k ≡ Some f → JoinsAndRises f
all_join count n k s fronts f some few h left there = (front_of s fronts k f (leads n (new_store count) s (new_is count some few) h) left there).joins

-- and what is recovered keeps the quotas that the history keeps
pub quotas_kept : (quota : ℕ → Option ℕ) (count n : ℕ) (s : Store) (fronts : List Contents) (read : Slots) (cutoff resume : ℕ) (used : Option ℕ)
    (found : Pairs) → 0 < count → count ≤ 64 → Leads n (new_store count) s → MayLeaveFronts s.logs fronts → MayLeaveSlots s.slots read
    → IsRecovered fronts read cutoff resume used found
    → ((m : ℕ) → HasTenants quota (pairs_upto m s.history) × KeepsQuotas quota (pairs_upto m s.history))
    → HasTenants quota found × KeepsQuotas quota found
quotas_kept quota count n s fronts read cutoff resume used found some few h left left_slots r keeps =
    subst (λ (m : Pairs). HasTenants quota m × KeepsQuotas quota m)
    (sym (recovered count n s fronts read cutoff resume used found some few h left left_slots r))
    (keeps cutoff)

-- ---- checkpoints

pub walked : (count n from to page : ℕ) (s : Store) (base : Pairs) → 0 < count → count ≤ 64 → Leads n (new_store count) s → from ≤ to
    → AreWalked from to page s.history base → IsBase from to s.history base
walked count n from to page s base some few h le w =
    walked_base from to page s.history base (history_rises s (leads n (new_store count) s (new_is count some few) h)) le w
