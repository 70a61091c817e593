-- Records that are taken of all logs by their stamps: how each step leaves them, and what two logs with one stamp tell. For `take_record`.
use Rattle.std.proofs.Common.{◌≡◌, ◌≢◌, ◌⊎◌, inl, inr, ⊎_elim, ℕ, zero, suc, ◌+◌, ◌<◌, ◌≤◌, true, false, List, [], ◌∷◌, ◌++◌, length, take, drop, map, refl, sym, ◌∙◌, ap, subst, arith, Option, Some, None}
use Rattle.std.proofs.lemmas.{Bool.{cases_lt}, List.{append-nil, append_assoc, length-set, set_past, take-append-drop, take_all, drop_all}, List.Concat.flat_map-append, Option.{same_Some, slice_get_within}}
use Rattle.std.specs.{Prelude.{slice_get, set}, List.flat_map}
use Rattle.mt_rows.specs.declared.record.Record.{Record}
use Rattle.mt_log.specs.{declared.batch.LogBatch.LogBatch, Contents.Contents}
use Rattle.mt_crashes.specs.{Fronts.{In, Rise, records_in, records_of}, Recoveries.AreSet}
use Rattle.mt_crashes.proofs.Members.{in_left, in_right, in_either, in_map, in_place, place_in, no_some}
use Rattle.mt_recover.specs.{Falls.{fall_of, first_fall}, Twice.{Stands, AreApart, IsFirstTwice}, Lanes.{IsLane, IsFull}, Takes.IsWithout, declared.lanes.Lane.{Lane}, declared.records.Next.{Next}}
use Rattle.mt_recover.specs.Merges.{Taken, all_taken, taken_of, last_stamp, AreMerging, first_of, first_at, AreAtEnd, IsNext, IsHighest}
use Rattle.mt_recover.proofs.{FallLemmas.{front_falls_not, none_falls, log_rises}, Places.{put_here, put_elsewhere, same_or_not, there}}
use Rattle.mt_recover.proofs.Rising.{rise_across, rise_more, last_more, under_last, taken_once, all_more, own_more, other_more, in_taken}

-- ---- one log

-- what was taken of a log, what is left, and what was not read again yet
pub log_parts : (taken : List Record) (log : Contents) (lane : Lane) → IsLane taken log lane → records_of log ≡ taken ++ (lane.left.items ++ flat_map records_in (drop lane.read log.batches))
log_parts taken log lane is =
    ap (flat_map records_in) (sym (take-append-drop lane.read log.batches)) ∙ flat_map-append records_in (take lane.read log.batches) (drop lane.read log.batches)
    ∙ ap (λ (l : List Record). l ++ flat_map records_in (drop lane.read log.batches)) is.parts ∙ append_assoc taken lane.left.items (flat_map records_in (drop lane.read log.batches))

-- what is left comes after what was taken
pub left_after : (taken : List Record) (log : Contents) (lane : Lane) (r q : Record) → fall_of log ≡ None → IsLane taken log lane → In r taken → In q lane.left.items → r.stamp < q.stamp
left_after taken log lane r q none is at_r at_q =
    rise_across 0 taken (lane.left.items ++ flat_map records_in (drop lane.read log.batches)) r q (subst (Rise 0) (log_parts taken log lane is) (log_rises log none))
    at_r (in_left q lane.left.items (flat_map records_in (drop lane.read log.batches)) at_q)

-- the first that is left comes before all others that were not taken
pub first_before : (taken : List Record) (log : Contents) (lane : Lane) (r q : Record) (rs : List Record) → fall_of log ≡ None → IsLane taken log lane → lane.left.items ≡ r ∷ rs
    → In q (rs ++ flat_map records_in (drop lane.read log.batches)) → r.stamp < q.stamp
first_before taken log lane r q rs none is first at =
    let rest = flat_map records_in (drop lane.read log.batches) in
    let parts : records_of log ≡ (taken ++ r ∷ []) ++ (rs ++ rest) =
    log_parts taken log lane is ∙ ap (λ (l : List Record). taken ++ (l ++ rest)) first ∙ sym (append_assoc taken (r ∷ []) (rs ++ rest)) in
    rise_across 0 (taken ++ r ∷ []) (rs ++ rest) r q (subst (Rise 0) parts (log_rises log none)) (in_right r taken (r ∷ []) (inl refl)) at

-- ---- first stamps

pub first_there : (lanes : List Lane) (k : ℕ) (lane : Lane) → slice_get lanes k ≡ Some lane → first_at lanes k ≡ first_of lane.left.items
first_there [] k lane at = absurd (no_some lane at)
first_there (l ∷ lanes) zero lane at = ap (λ (x : Lane). first_of x.left.items) (same_Some l lane at)
first_there (l ∷ lanes) (suc k) lane at = first_there lanes k lane at

record HasFirst (lanes : List Lane) (k stamp : ℕ) : Type 0 where
  lane : Lane
  at : slice_get lanes k ≡ Some lane
  record_ : Record
  rest : List Record
  left : lane.left.items ≡ record_ ∷ rest
  stamped : record_.stamp ≡ stamp

has_first : (lanes : List Lane) (k stamp : ℕ) → first_at lanes k ≡ Some stamp → HasFirst lanes k stamp
has_first [] k stamp is = absurd (no_some stamp is)
has_first (l ∷ lanes) zero stamp is = by l.left.items refl is
  where
    by : (rs : List Record) → l.left.items ≡ rs → first_of rs ≡ Some stamp → HasFirst (l ∷ lanes) zero stamp
    by [] left none = absurd (no_some stamp none)
    by (r ∷ rs) left some = record { lane = l; at = refl; record_ = r; rest = rs; left = left; stamped = same_Some r.stamp stamp some }
has_first (l ∷ lanes) (suc k) stamp is = let h = has_first lanes k stamp is in record { lane = h.lane; at = h.at; record_ = h.record_; rest = h.rest; left = h.left; stamped = h.stamped }

pub is_there : (lanes : List Lane) (k stamp : ℕ) → first_at lanes k ≡ Some stamp → k < length lanes
is_there lanes k stamp is = let h = has_first lanes k stamp is in slice_get_within lanes k h.lane h.at

none_left : (rs : List Record) → first_of rs ≡ None → rs ≡ []
none_left [] none = refl
none_left (r ∷ rs) none = absurd (no_some r.stamp (sym none))

-- ---- one record more

pub rises_put : (logs : List Contents) (k : ℕ) (now : Contents) → first_fall logs ≡ None → fall_of now ≡ None → first_fall (set logs k now) ≡ None
rises_put logs k now rise none = none_falls (set logs k now) (λ f at. by f (in_place f (set logs k now) at))
  where
    by : (f : Contents) → (j : ℕ) × (slice_get (set logs k now) j ≡ Some f) → fall_of f ≡ None
    by f at = ⊎_elim
        (λ here. by_cases here)
        (λ apart. front_falls_not logs f rise (place_in f at.0 logs (sym (put_elsewhere logs k at.0 now apart) ∙ at.1)))
        (same_or_not at.0 k)
      where
        by_cases : at.0 ≡ k → fall_of f ≡ None
        by_cases here = ⊎_elim
            (λ lt. ap fall_of (sym (same_Some now f (sym (put_here logs k now lt) ∙ ap (slice_get (set logs k now)) (sym here) ∙ at.1))) ∙ none)
            (λ past. front_falls_not logs f rise (place_in f at.0 logs (ap (λ (cs : List Contents). slice_get cs at.0) (sym (set_past logs k now past)) ∙ at.1)))
            (cases_lt k (length logs))

module _ (taken : List Taken) (logs : List Contents) (lanes : List Lane) (m : AreMerging taken logs lanes) where
  -- nothing falls in any log
  pub falls_not : (k : ℕ) (log : Contents) → slice_get logs k ≡ Some log → fall_of log ≡ None
  falls_not k log at = front_falls_not logs log m.rise (place_in log k logs at)

  module _ (k : ℕ) (log : Contents) (lane : Lane) (at_log : slice_get logs k ≡ Some log) (at_lane : slice_get lanes k ≡ Some lane)
      (r : Record) (mid : Lane) (without : IsWithout r lane mid) (least : (j : ℕ) (other : Lane) (q : Record) → j ≢ k → slice_get lanes j ≡ Some other → In q other.left.items → r.stamp < q.stamp)
      (now : Contents) (further : Lane) (none : fall_of now ≡ None) (full : IsFull now further)
      (on : (ts : List Record) → IsLane ts log mid → IsLane ts now further) where
    more : IsLane (taken_of k taken ++ r ∷ []) now further
    more =
        let is = (m.lane k log lane at_log at_lane).0 in
        on (taken_of k taken ++ r ∷ []) (record {
          within = omega (arith, without.read, is.within);
          parts = ap (λ (n : ℕ). flat_map records_in (take n log.batches)) without.read ∙ is.parts ∙ ap (λ (l : List Record). taken_of k taken ++ l) without.left
              ∙ sym (append_assoc (taken_of k taken) (r ∷ []) mid.left.items);
        })

    own : IsLane (taken_of k (taken ++ (k, r) ∷ [])) now further
    own = subst (λ (l : List Record). IsLane l now further) (sym (own_more k r taken)) more

    lane_at : (j : ℕ) (c : Contents) (l : Lane) → slice_get (set logs k now) j ≡ Some c → slice_get (set lanes k further) j ≡ Some l
        → IsLane (taken_of j (taken ++ (k, r) ∷ [])) c l × IsFull c l
    lane_at j c l at_c at_l = by (same_or_not j k)
      where
        by : (j ≡ k) ⊎ (j ≢ k) → IsLane (taken_of j (taken ++ (k, r) ∷ [])) c l × IsFull c l
        by (inl here) =
            let same_c : now ≡ c = same_Some now c (sym (put_here logs k now (slice_get_within logs k log at_log)) ∙ ap (slice_get (set logs k now)) (sym here) ∙ at_c) in
            let same_l : further ≡ l = same_Some further l (sym (put_here lanes k further (slice_get_within lanes k lane at_lane)) ∙ ap (slice_get (set lanes k further)) (sym here) ∙ at_l) in (
              subst (λ (n : ℕ). IsLane (taken_of n (taken ++ (k, r) ∷ [])) c l) (sym here) (subst (λ (x : Lane). IsLane (taken_of k (taken ++ (k, r) ∷ [])) c x) same_l (subst (λ (x : Contents). IsLane (taken_of k (taken ++ (k, r) ∷ [])) x further) same_c own)),
              subst (λ (x : Lane). IsFull c x) same_l (subst (λ (x : Contents). IsFull x further) same_c full),
            )
        by (inr apart) =
            let was = m.lane j c l (sym (put_elsewhere logs k j now apart) ∙ at_c) (sym (put_elsewhere lanes k j further apart) ∙ at_l) in
            (subst (λ (ts : List Record). IsLane ts c l) (sym (other_more j k r taken apart)) was.0, was.1)

    ahead_at : (j : ℕ) (l : Lane) (q : Record) → slice_get (set lanes k further) j ≡ Some l → In q l.left.items → r.stamp < q.stamp
    ahead_at j l q at_l at_q = by (same_or_not j k)
      where
        by : (j ≡ k) ⊎ (j ≢ k) → r.stamp < q.stamp
        by (inl here) =
            let same_l : further ≡ l = same_Some further l (sym (put_here lanes k further (slice_get_within lanes k lane at_lane)) ∙ ap (slice_get (set lanes k further)) (sym here) ∙ at_l) in
            left_after (taken_of k taken ++ r ∷ []) now further r q none more (in_right r (taken_of k taken) (r ∷ []) (inl refl)) (subst (λ (x : Lane). In q x.left.items) (sym same_l) at_q)
        by (inr apart) = least j l q apart (sym (put_elsewhere lanes k j further apart) ∙ at_l) at_q

    -- the logs after the least record was taken
    pub one_taken : AreMerging (taken ++ (k, r) ∷ []) (set logs k now) (set lanes k further)
    one_taken = record {
      count = length-set lanes k further ∙ m.count ∙ sym (length-set logs k now);
      rise = rises_put logs k now m.rise none;
      order = subst (Rise 0) (sym (all_more taken k r)) (rise_more 0 (all_taken taken) r m.order (m.ahead k lane r at_lane (subst (In r) (sym without.left) (inl refl))));
      known = λ t at. ⊎_elim (λ l. omega (arith, m.known t l, length-set logs k now)) (λ own. ⊎_elim (λ e. omega (arith, ap (λ (x : Taken). x.0) e, slice_get_within logs k log at_log, length-set logs k now)) (λ never. absurd never) own)
          (in_either t taken ((k, r) ∷ []) at);
      lane = lane_at;
      ahead = λ j l q at_l at_q. (let less = ahead_at j l q at_l at_q in omega (arith, less, ap (last_stamp 0) (all_more taken k r), last_more 0 (all_taken taken) r));
    }

  -- ---- where stamps stand

  -- a stamp of a log was taken, with the place of the log
  record WasTaken (worker stamp : ℕ) : Type 0 where
    place : ℕ
    log : Contents
    at : slice_get logs place ≡ Some log
    owner : log.worker ≡ worker
    change : Record
    taken_ : In {X = Taken} (place, change) taken
    stamped : change.stamp ≡ stamp

  -- it was taken of one log alone
  one_log : (stamp i j : ℕ) → WasTaken i stamp → WasTaken j stamp → i ≡ j
  one_log stamp i j a b =
      let same = taken_once 0 taken (a.place, a.change) (b.place, b.change) m.order a.taken_ b.taken_ (a.stamped ∙ sym b.stamped) in
      let logs_same : a.log ≡ b.log = same_Some a.log b.log (sym a.at ∙ ap (λ (t : Taken). slice_get logs t.0) same ∙ b.at) in
      sym a.owner ∙ ap (λ (c : Contents). c.worker) logs_same ∙ b.owner

  -- at the end all were
  at_end : AreAtEnd lanes → (k : ℕ) (log : Contents) → slice_get logs k ≡ Some log → records_of log ≡ taken_of k taken
  at_end none k log at =
      let l = there lanes k (omega (arith, slice_get_within logs k log at, m.count)) in
      let is = m.lane k log l.0 at l.1 in
      let left : l.0.left.items ≡ [] = none_left l.0.left.items (sym (first_there lanes k l.0 l.1) ∙ none k) in
      let read : l.0.read ≡ length log.batches = is.1 left in
      ap (flat_map records_in) (sym (take_all l.0.read log.batches (omega (arith, read)))) ∙ is.0.parts ∙ ap (λ (l : List Record). taken_of k taken ++ l) left ∙ append-nil (taken_of k taken)

  end_taken : AreAtEnd lanes → (worker stamp : ℕ) → Stands logs worker stamp → WasTaken worker stamp
  end_taken none worker stamp is =
      let p = in_place is.log logs is.given in
      record { place = p.0; log = is.log; at = p.1; owner = is.owner; change = is.change; taken_ = in_taken p.0 taken is.change (subst (In is.change) (at_end none p.0 is.log p.1) is.logged); stamped = is.stamped }

  -- so no stamp stands in two logs
  pub are_apart : AreAtEnd lanes → AreApart logs
  are_apart none stamp i j at_i at_j = one_log stamp i j (end_taken none i stamp at_i) (end_taken none j stamp at_j)

  pub all_at_end : AreAtEnd lanes → (k : ℕ) (log : Contents) → slice_get logs k ≡ Some log → records_of log ≡ taken_of k taken
  all_at_end = at_end

  -- ---- one stamp in two logs

  module _ (next : Next) (is : IsNext lanes next) where
    -- a stamp up to the first was taken, or is the first
    placed : (k : ℕ) (log : Contents) (r : Record) → slice_get logs k ≡ Some log → In r (records_of log) → r.stamp ≤ next.stamp
        → In {X = Taken} (k, r) taken ⊎ (first_at lanes k ≡ Some r.stamp)
    placed k log r at at_r upto = ⊎_elim (λ old. inl (in_taken k taken r old)) (λ new. inr (by l.0.left.items refl new))
        (in_either r (taken_of k taken) (l.0.left.items ++ flat_map records_in (drop l.0.read log.batches)) (subst (In r) (log_parts (taken_of k taken) log l.0 here.0) at_r))
      where
        l : (x : Lane) × (slice_get lanes k ≡ Some x)
        l = there lanes k (omega (arith, slice_get_within logs k log at, m.count))

        here : IsLane (taken_of k taken) log l.0 × IsFull log l.0
        here = m.lane k log l.0 at l.1

        by : (rs : List Record) → l.0.left.items ≡ rs → In r (rs ++ flat_map records_in (drop l.0.read log.batches)) → first_at lanes k ≡ Some r.stamp
        by [] none new = absurd (subst (λ (bs : List LogBatch). In r (flat_map records_in bs)) (drop_all l.0.read log.batches (omega (arith, here.1 none))) new)
        by (q ∷ qs) left (inl e) = first_there lanes k l.0 l.1 ∙ ap first_of left ∙ ap (λ (x : Record). Some x.stamp) (sym e)
        by (q ∷ qs) left (inr more) =
            let later = first_before (taken_of k taken) log l.0 q r qs (falls_not k log at) here.0 left more in
            let low = is.least k q.stamp (first_there lanes k l.0 l.1 ∙ ap first_of left) in
            absurd (omega (arith, later, low, upto))

    -- what was taken is under it
    under : (k : ℕ) (r : Record) → In {X = Taken} (k, r) taken → r.stamp < next.stamp
    under k r at =
        let f = has_first lanes next.log next.stamp is.first in
        let less = m.ahead next.log f.lane f.record_ f.at (subst (In f.record_) (sym f.left) (inl refl)) in
        let upto = under_last 0 (all_taken taken) r m.order (in_map (λ (t : Taken). t.1) (k, r) taken at) in
        omega (arith, less, upto, f.stamped)

    -- a log with the stamp before it
    stands_first : (k : ℕ) (log : Contents) → slice_get logs k ≡ Some log → first_at lanes k ≡ Some next.stamp → Stands logs log.worker next.stamp
    stands_first k log at first =
        let f = has_first lanes k next.stamp first in
        let here = m.lane k log f.lane at f.at in
        record {
          log = log;
          given = place_in log k logs at;
          owner = refl;
          change = f.record_;
          logged = subst (In f.record_) (sym (log_parts (taken_of k taken) log f.lane here.0))
              (in_right f.record_ (taken_of k taken) (f.lane.left.items ++ flat_map records_in (drop f.lane.read log.batches))
              (in_left f.record_ f.lane.left.items (flat_map records_in (drop f.lane.read log.batches)) (subst (In f.record_) (sym f.left) (inl refl))));
          stamped = f.stamped;
        }

    before : (worker stamp : ℕ) → stamp < next.stamp → Stands logs worker stamp → WasTaken worker stamp
    before worker stamp less at =
        let p = in_place at.log logs at.given in
        record {
          place = p.0;
          log = at.log;
          at = p.1;
          owner = at.owner;
          change = at.change;
          taken_ = ⊎_elim (λ old. old) (λ first. (let low = is.least p.0 at.change.stamp first in absurd (omega (arith, low, less, at.stamped))))
              (placed p.0 at.log at.change p.1 at.logged (omega (arith, less, at.stamped)));
          stamped = at.stamped;
        }

    pub is_first_twice : (worker : ℕ) → AreSet logs → next.twice ≡ true → IsHighest logs lanes next.stamp worker → IsFirstTwice logs worker next.stamp
    is_first_twice worker set twice high = record {
      stands = subst (λ (w : ℕ). Stands logs w next.stamp) top.4 (stands_first top.0 top.1 top.2 top.3);
      highest = upto;
      lower = lower;
      least = λ less i j under_it at_i at_j. one_log less i j (before i less under_it at_i) (before j less under_it at_j);
    }
      where
        second : (k : ℕ) × (k ≢ next.log) × (first_at lanes k ≡ Some next.stamp)
        second = is.other twice

        log_at : (k : ℕ) → first_at lanes k ≡ Some next.stamp → (log : Contents) × (slice_get logs k ≡ Some log)
        log_at k first = let f = has_first lanes k next.stamp first in there logs k (omega (arith, slice_get_within lanes k f.lane f.at, m.count))

        a : (log : Contents) × (slice_get logs next.log ≡ Some log)
        a = log_at next.log is.first

        b : (log : Contents) × (slice_get logs second.0 ≡ Some log)
        b = log_at second.0 second.2

        differ : a.0.worker ≢ b.0.worker
        differ e = second.1 (sym (set.apart next.log second.0 a.0 b.0 a.1 b.1 e))

        low_a : a.0.worker ≤ worker
        low_a = high.upto next.log a.0 a.1 is.first

        low_b : b.0.worker ≤ worker
        low_b = high.upto second.0 b.0 b.1 second.2

        top : (k : ℕ) × (log : Contents) × (slice_get logs k ≡ Some log) × (first_at lanes k ≡ Some next.stamp) × (log.worker ≡ worker)
        top = high.there (omega (arith, differ, low_a, low_b))

        upto : (other : ℕ) → Stands logs other next.stamp → other ≤ worker
        upto other at =
            let p = in_place at.log logs at.given in
            ⊎_elim
            (λ old. absurd (omega (arith, under p.0 at.change old, at.stamped)))
            (λ first. omega (arith, high.upto p.0 at.log p.1 (first ∙ ap (λ (n : ℕ). Some n) at.stamped), at.owner))
            (placed p.0 at.log at.change p.1 at.logged (omega (arith, at.stamped)))

        lower : (other : ℕ) × (other < worker) × Stands logs other next.stamp
        lower = ⊎_elim
            (λ less. (a.0.worker, less, stands_first next.log a.0 a.1 is.first))
            (λ most. (b.0.worker, omega (arith, most, differ, low_a, low_b), stands_first second.0 b.0 b.1 second.2))
            (cases_lt a.0.worker worker)
