-- Logs that are read on, one at a time: for `begin` and `take_record`.
use Rattle.std.proofs.Common.{◌≡◌, ◌≢◌, ◌⊎◌, inl, inr, ⊎_elim, ℕ, zero, suc, ◌+◌, ◌<◌, ◌≤◌, List, [], ◌∷◌, ◌++◌, length, take, drop, map, refl, sym, ◌∙◌, ap, subst, arith, Option, Some, None}
use Rattle.std.proofs.lemmas.{List.{map-set, length-set, length_push}, Option.{same_Some, slice_get-map, slice_get_within}}
use Rattle.std.specs.{Prelude.{slice_get, set}, List.flat_map, Option.option_map}
use Rattle.mt_rows.specs.{declared.record.Record.Record, declared.refusal.Refusal.{Refusal}, declared.refusal.Refusal.TheVariants.{Device}}
use Rattle.mt_log.specs.{declared.batch.LogBatch.LogBatch, Contents.{Contents, IsContents}}
use Rattle.mt_crashes.{specs.Fronts.{In, Rise, records_in}, proofs.Members.{in_left, in_place, place_in, no_some}}
use Rattle.mt_recover.specs.{Falls.{fall_of, first_fall}, Limits.AreContents, Outlines.{outline_of, AreAgain}, Sources.{AreLeft, Goes}, Lanes.{IsLane, IsFull, HasLeft, ReadsOn, StopsReading}}
use Rattle.mt_recover.specs.{Merges.{AreMerging, last_stamp}, Takes.{HaveLeft, ReadAgain, StopsTaking}, declared.lanes.Lane.{Lane}}
use Rattle.mt_recover.proofs.{Agreements.set_there, FallLemmas.{front_falls_not, log_rises}, LaneLemmas.{goes_on, goes_not}, Places.{put_here, put_elsewhere, same_or_not, there}, Rising.rise_in, TakeLemmas.{rises_put, log_parts}}

-- logs in which one was read on keep their outlines
again_put : (first fs : List Contents) (k : ℕ) (f now : Contents) → slice_get fs k ≡ Some f → outline_of now ≡ outline_of f → fall_of now ≡ None → AreAgain first fs → AreAgain first (set fs k now)
again_put first fs k f now at same none was = record {
  same = map-set outline_of fs k now ∙ ap (set (map outline_of fs) k) same
      ∙ set_there (map outline_of fs) k (outline_of f) (slice_get-map outline_of fs k ∙ ap (option_map outline_of) at) ∙ was.same;
  rise = rises_put fs k now was.rise none;
}

format_put : (first fs : List Contents) (k : ℕ) (f now : Contents) → slice_get fs k ≡ Some f → (IsContents f → IsContents now) → (AreContents first → AreContents fs) → AreContents first → AreContents (set fs k now)
format_put first fs k f now at keeps was all c there = by (in_place c (set fs k now) there)
  where
    by : (j : ℕ) × (slice_get (set fs k now) j ≡ Some c) → IsContents c
    by p = ⊎_elim
        (λ here. subst IsContents (same_Some now c (sym (put_here fs k now (slice_get_within fs k f at)) ∙ ap (slice_get (set fs k now)) (sym here) ∙ p.1)) (keeps (was all f (place_in f k fs at))))
        (λ apart. was all c (place_in c p.0 fs (sym (put_elsewhere fs k p.0 now apart) ∙ p.1)))
        (same_or_not p.0 k)

-- what stands in a list before its last, and the last
before_push : {X : Type 0} (xs : List X) (x : X) (i : ℕ) (y : X) → i ≢ length xs → slice_get (xs ++ x ∷ []) i ≡ Some y → slice_get xs i ≡ Some y
before_push [] x zero y apart at = absurd (apart refl)
before_push [] x (suc i) y apart at = absurd (no_some y at)
before_push (z ∷ xs) x zero y apart at = at
before_push (z ∷ xs) x (suc i) y apart at = before_push xs x i y (λ e. apart (ap suc e)) at

last_push : {X : Type 0} (xs : List X) (x : X) → slice_get (xs ++ x ∷ []) (length xs) ≡ Some x
last_push [] x = refl
last_push (z ∷ xs) x = last_push xs x

module _ {S : Type 0} (logs : S → ℕ) (follows : S → S → Type 0) (left : S → ℕ → List LogBatch → Type 0) where
  pub nothing_read : (s : S) (fs : List Contents) (has : Type 0) → first_fall fs ≡ None → ReadAgain logs follows left s fs has s fs
  nothing_read s fs has rise = record { goes = goes_not logs follows left s; again = record { same = refl; rise = rise }; format = λ all. all; same = λ h. refl }

  module _ (s : S) (first : List Contents) (has : Type 0) (t : S) (fs : List Contents) (was : ReadAgain logs follows left s first has t fs)
      (k : ℕ) (f : Contents) (at : slice_get fs k ≡ Some f) (lane : Lane) (here : has → HasLeft logs follows left k t f lane) where
    -- one is read on
    pub read_on : (u : S) (now : Contents) (further : Lane) → ReadsOn logs follows left k t f lane u now further → ReadAgain logs follows left s first has u (set fs k now)
    read_on u now further on = record {
      goes = goes_on logs follows left s t u was.goes on.goes;
      again = again_put first fs k f now at on.outline on.rises was.again;
      format = format_put first fs k f now at on.format was.format;
      same = λ h. ap (set fs k) (on.same (here h)).0 ∙ set_there fs k f at ∙ was.same h;
    }

    -- or that stops
    module _ (refused : S → Refusal → Type 0) (u : S) (now : Contents) (e : Refusal) (stop : StopsReading logs follows left refused k t f lane u now e) where
      pub read_stops : ReadAgain logs follows left s first has u (set fs k now)
      read_stops = record {
        goes = goes_on logs follows left s t u was.goes stop.goes;
        again = again_put first fs k f now at stop.outline stop.rises was.again;
        format = format_put first fs k f now at stop.format was.format;
        same = λ h. ap (set fs k) (stop.same (here h)) ∙ set_there fs k f at ∙ was.same h;
      }

      pub why_stops : StopsTaking logs follows left refused has u (set fs k now) e
      why_stops = ⊎_elim (λ by. inl by) (λ changed. inr (inl (changed.0, λ h. changed.1 (here h)))) stop.cause

  -- what is left of all logs after one was read on
  pub left_on : (t u : S) (fs : List Contents) (lanes : List Lane) (k : ℕ) (f now : Contents) (lane mid further : Lane) → slice_get fs k ≡ Some f → slice_get lanes k ≡ Some lane → mid.read ≡ lane.read
      → ReadsOn logs follows left k t f mid u now further → HaveLeft logs follows left t fs lanes → HaveLeft logs follows left u (set fs k now) (set lanes k further)
  left_on t u fs lanes k f now lane mid further at at_lane read on had j c l at_c at_l = ⊎_elim
      (λ here.
      let same_c : now ≡ c = same_Some now c (sym (put_here fs k now (slice_get_within fs k f at)) ∙ ap (slice_get (set fs k now)) (sym here) ∙ at_c) in
      let same_l : further ≡ l = same_Some further l (sym (put_here lanes k further (slice_get_within lanes k lane at_lane)) ∙ ap (slice_get (set lanes k further)) (sym here) ∙ at_l) in
      let has : HasLeft logs follows left k t f mid = subst (λ (n : ℕ). left t k (drop n f.batches)) (sym read) (had k f lane at at_lane) in
      subst (λ (n : ℕ). HasLeft logs follows left n u c l) (sym here)
      (subst (λ (x : Lane). HasLeft logs follows left k u c x) same_l (subst (λ (x : Contents). HasLeft logs follows left k u x further) same_c (on.same has).1)))
      (λ apart. on.others j (drop l.read c.batches) apart (had j c l (sym (put_elsewhere fs k j now apart) ∙ at_c) (sym (put_elsewhere lanes k j further apart) ∙ at_l)))
      (same_or_not j k)

  -- ---- the first logs are begun, the others are not

  pub record Begun (s : S) (first : List Contents) (t : S) (fs : List Contents) (lanes : List Lane) (place : ℕ) : Type 0 where
    pub read : ReadAgain logs follows left s first (AreLeft (left s) first) t fs
    pub count : length lanes ≡ place
    pub each : (k : ℕ) (f : Contents) (lane : Lane) → slice_get fs k ≡ Some f → slice_get lanes k ≡ Some lane → IsLane [] f lane × IsFull f lane
    pub done : AreLeft (left s) first → HaveLeft logs follows left t fs lanes
    pub rest : AreLeft (left s) first → (k : ℕ) (f : Contents) → place ≤ k → slice_get fs k ≡ Some f → left t k f.batches

  pub none_begun : (s : S) (fs : List Contents) (lanes : List Lane) → lanes ≡ [] → first_fall fs ≡ None → Begun s fs s fs lanes 0
  none_begun s fs lanes none rise = subst (λ (ls : List Lane). Begun s fs s fs ls 0) (sym none) (record {
    read = nothing_read s fs (AreLeft (left s) fs) rise;
    count = refl;
    each = λ k f lane at never. absurd (no_some lane never);
    done = λ h k f lane at never. absurd (no_some lane never);
    rest = λ h k f le at. h k f at;
  })

  module _ (s : S) (first : List Contents) (t : S) (fs : List Contents) (lanes : List Lane) (k : ℕ) (b : Begun s first t fs lanes k) (f : Contents) (at : slice_get fs k ≡ Some f)
      (fresh : Lane) (read : fresh.read ≡ 0) (none : fresh.left.items ≡ []) where
    pub fresh_left : AreLeft (left s) first → HasLeft logs follows left k t f fresh
    fresh_left h = subst (λ (n : ℕ). left t k (drop n f.batches)) (sym read) (b.rest h k f (omega arith) at)

    fresh_lane : IsLane [] f fresh
    fresh_lane = record { within = omega (arith, read); parts = ap (λ (n : ℕ). flat_map records_in (take n f.batches)) read ∙ sym none }

    pub one_begun : (u : S) (now : Contents) (further : Lane) → ReadsOn logs follows left k t f fresh u now further → IsFull now further → Begun s first u (set fs k now) (lanes ++ further ∷ []) (k + 1)
    one_begun u now further on full = record {
      read = read_on s first (AreLeft (left s) first) t fs b.read k f at fresh fresh_left u now further on;
      count = omega (arith, length_push lanes further, b.count);
      each = λ j c l at_c at_l. ⊎_elim
          (λ here. (let two = own j c l here at_c at_l in (two.0, two.1)))
          (λ apart. b.each j c l (sym (put_elsewhere fs k j now apart) ∙ at_c) (old j l apart at_l))
          (same_or_not j k);
      done = λ h j c l at_c at_l. ⊎_elim
          (λ here. subst (λ (n : ℕ). HasLeft logs follows left n u c l) (sym here) (own_left h j c l here at_c at_l))
          (λ apart. on.others j (drop l.read c.batches) apart (b.done h j c l (sym (put_elsewhere fs k j now apart) ∙ at_c) (old j l apart at_l)))
          (same_or_not j k);
      rest = λ h j c le at_c. on.others j c.batches (λ e. omega (arith, e, le)) (b.rest h j c (omega (arith, le)) (sym (put_elsewhere fs k j now (λ e. omega (arith, e, le))) ∙ at_c));
    }
      where
        old : (j : ℕ) (l : Lane) → j ≢ k → slice_get (lanes ++ further ∷ []) j ≡ Some l → slice_get lanes j ≡ Some l
        old j l apart at_l = before_push lanes further j l (λ e. apart (e ∙ b.count)) at_l

        same_lane : (j : ℕ) (l : Lane) → j ≡ k → slice_get (lanes ++ further ∷ []) j ≡ Some l → further ≡ l
        same_lane j l here at_l = same_Some further l (sym (last_push lanes further) ∙ ap (slice_get (lanes ++ further ∷ [])) (b.count ∙ sym here) ∙ at_l)

        same_log : (j : ℕ) (c : Contents) → j ≡ k → slice_get (set fs k now) j ≡ Some c → now ≡ c
        same_log j c here at_c = same_Some now c (sym (put_here fs k now (slice_get_within fs k f at)) ∙ ap (slice_get (set fs k now)) (sym here) ∙ at_c)

        own : (j : ℕ) (c : Contents) (l : Lane) → j ≡ k → slice_get (set fs k now) j ≡ Some c → slice_get (lanes ++ further ∷ []) j ≡ Some l → IsLane [] c l × IsFull c l
        own j c l here at_c at_l = subst (λ (x : Lane). IsLane [] c x × IsFull c x) (same_lane j l here at_l)
            (subst (λ (x : Contents). IsLane [] x further × IsFull x further) (same_log j c here at_c) (on.parts [] fresh_lane, full))

        own_left : AreLeft (left s) first → (j : ℕ) (c : Contents) (l : Lane) → j ≡ k → slice_get (set fs k now) j ≡ Some c → slice_get (lanes ++ further ∷ []) j ≡ Some l → HasLeft logs follows left k u c l
        own_left h j c l here at_c at_l = subst (λ (x : Lane). HasLeft logs follows left k u c x) (same_lane j l here at_l)
            (subst (λ (x : Contents). HasLeft logs follows left k u x further) (same_log j c here at_c) (on.same (fresh_left h)).1)

  -- all are begun
  pub all_begun : (s : S) (first : List Contents) (t : S) (fs : List Contents) (lanes : List Lane) → Begun s first t fs lanes (length fs) → AreMerging [] fs lanes
  all_begun s first t fs lanes b = record {
    count = b.count;
    rise = b.read.again.rise;
    order = tt;
    known = λ t never. absurd never;
    lane = b.each;
    ahead = λ k lane r at_l at_r. (
        let f = there fs k (omega (arith, slice_get_within lanes k lane at_l, b.count)) in
        rise_in 0 (lane.left.items ++ flat_map records_in (drop lane.read f.0.batches)) r
        (subst (Rise 0) (log_parts [] f.0 lane (b.each k f.0 lane f.1 at_l).0) (log_rises f.0 (front_falls_not fs f.0 b.read.again.rise (place_in f.0 k fs f.1))))
        (in_left r lane.left.items (flat_map records_in (drop lane.read f.0.batches)) at_r)
        );
  }
