-- The log with the least first stamp gives its first record, and is read on: for `take_record`.
use Rattle.std.proofs.Common.{◌≡◌, ◌≢◌, ◌⊎◌, inl, inr, ⊎_elim, ℕ, zero, suc, ◌+◌, ◌<◌, ◌≤◌, false, List, [], ◌∷◌, ◌++◌, length, drop, refl, sym, ◌∙◌, ap, subst, arith, Option, Some, None, Result, Ok, Err, IfOk, IfErr, OnOk}
use Rattle.std.proofs.lemmas.Option.{same_Some, slice_get_within}
use Rattle.std.specs.{Prelude.{slice_get, set}, List.flat_map}
use Rattle.mt_rows.specs.{declared.record.Record.Record, declared.refusal.Refusal.{Refusal}}
use Rattle.mt_log.specs.{declared.batch.LogBatch.LogBatch, Contents.Contents}
use Rattle.mt_crashes.{specs.Fronts.{In, records_in}, proofs.Members.{in_left, no_some}}
use Rattle.mt_recover.specs.{Lanes.{IsLane, IsFull, work, ReadsOn, StopsReading}, Merges.{Taken, taken_of, AreMerging, first_of, first_at, IsNext, works}, Takes.{HaveLeft, IsWithout, ReadAgain, StopsTaking, Takes}}
use Rattle.mt_recover.specs.declared.{lanes.Lane.Lane, records.Next.Next}
use Rattle.mt_recover.proofs.{Places.there, ReadLemmas.{nothing_read, read_on, read_stops, why_stops, left_on}, TakeLemmas.{falls_not, first_before, first_there, one_taken}}

-- less is left of all logs if less is left of one
pub works_put : (fs : List Contents) (lanes : List Lane) (k : ℕ) (f now : Contents) (lane further : Lane) → slice_get fs k ≡ Some f → slice_get lanes k ≡ Some lane → work now further < work f lane
    → works (set fs k now) (set lanes k further) < works fs lanes
works_put [] lanes k f now lane further at at_lane less = absurd (no_some f at)
works_put (g ∷ fs) [] k f now lane further at at_lane less = absurd (no_some lane at_lane)
works_put (g ∷ fs) (l ∷ lanes) zero f now lane further at at_lane less =
    let same : work g l ≡ work f lane = λ i. work (same_Some g f at i) (same_Some l lane at_lane i) in
    omega (arith, less, same)
works_put (g ∷ fs) (l ∷ lanes) (suc k) f now lane further at at_lane less = omega (arith, works_put fs lanes k f now lane further at at_lane less)

-- a log that has a first stamp has a record left
pub some_left : (lanes : List Lane) (k stamp : ℕ) (lane : Lane) → slice_get lanes k ≡ Some lane → first_at lanes k ≡ Some stamp → lane.left.items ≢ []
some_left lanes k stamp lane at first none = no_some stamp (ap first_of (sym none) ∙ sym (first_there lanes k lane at) ∙ first)

-- two facts of what is there give a third one
pub of_both : {T E : Type 0} (result : Result T E) (A C : T → Type 0) (B : Type 0) → IfOk result A → OnOk result B → ((x : T) → A x → B → C x) → IfOk result C
of_both (Ok x) A C B a b f = f x a b
of_both (Err e) A C B a b f = tt

pub on_both : {T E : Type 0} (result : Result T E) (A : T → Type 0) (B : Type 0) → IfOk result A → ((x : T) → A x → B) → OnOk result B
on_both (Ok x) A B a f = f x a
on_both (Err e) A B a f = tt

pub of_either : {T E : Type 0} (result : Result T E) (A : T → Type 0) (B : E → Type 0) (C : Type 0) → IfOk result A → IfErr result B → ((x : T) → A x → C) → ((e : E) → B e → C) → C
of_either (Ok x) A B C a b f g = f x a
of_either (Err e) A B C a b f g = g e b

module _ {S : Type 0} (logs : S → ℕ) (follows : S → S → Type 0) (left : S → ℕ → List LogBatch → Type 0) (s : S) (fs : List Contents) (lanes : List Lane)
    (sofar : List Taken) (m : AreMerging sofar fs lanes) (next : Next) (is : IsNext lanes next) (alone : next.twice ≡ false)
    (f : Contents) (at : slice_get fs next.log ≡ Some f) (lane : Lane) (at_lane : slice_get lanes next.log ≡ Some lane) (u : S) (now : Contents) (further : Lane) where
  abbrev pub TakesFirst : Option Record → Type 0
  TakesFirst first = (r : Record) × (mid : Lane) × (first ≡ Some r) × IsWithout r lane mid × ReadsOn logs follows left next.log s f mid u now further

  abbrev has : Type 0
  has = HaveLeft logs follows left s fs lanes

  here : (mid : Lane) → mid.read ≡ lane.read → has → left s next.log (drop mid.read f.batches)
  here mid read had = subst (λ (n : ℕ). left s next.log (drop n f.batches)) (sym read) (had next.log f lane at at_lane)

  pub first_read : (first : Option Record) → TakesFirst first → ReadAgain logs follows left s fs has u (set fs next.log now)
  first_read first t = read_on logs follows left s fs has s fs (nothing_read logs follows left s fs has m.rise) next.log f at t.1 (here t.1 t.3.read) u now further t.4

  pub first_left : (first : Option Record) → TakesFirst first → has → HaveLeft logs follows left u (set fs next.log now) (set lanes next.log further)
  first_left first t had = left_on logs follows left s u fs lanes next.log f now lane t.1 further at at_lane t.3.read t.4 had

  module _ (refused : S → Refusal → Type 0) (e : Refusal) (stop : StopsReading logs follows left refused next.log s f lane u now e) where
    pub stop_read : ReadAgain logs follows left s fs has u (set fs next.log now)
    stop_read = read_stops logs follows left s fs has s fs (nothing_read logs follows left s fs has m.rise) next.log f at lane (here lane refl) refused u now e stop

    pub stop_why : StopsTaking logs follows left refused has u (set fs next.log now) e
    stop_why = why_stops logs follows left s fs has s fs (nothing_read logs follows left s fs has m.rise) next.log f at lane (here lane refl) refused u now e stop

  module _ (r : Record) (mid : Lane) (without : IsWithout r lane mid) where
    -- it is the first record with the least stamp
    stamped : r.stamp ≡ next.stamp
    stamped = same_Some r.stamp next.stamp (ap first_of (sym without.left) ∙ sym (first_there lanes next.log lane at_lane) ∙ is.first)

    after_least : (j : ℕ) (other : Lane) (q : Record) → j ≢ next.log → slice_get lanes j ≡ Some other → In q other.left.items → r.stamp < q.stamp
    after_least j other q apart at_o at_q = by other.left.items refl at_q
      where
        log_j : (log : Contents) × (slice_get fs j ≡ Some log)
        log_j = there fs j (omega (arith, slice_get_within lanes j other at_o, m.count))

        is_j : IsLane (taken_of j sofar) log_j.0 other × IsFull log_j.0 other
        is_j = m.lane j log_j.0 other log_j.1 at_o

        by : (rs : List Record) → other.left.items ≡ rs → In q rs → r.stamp < q.stamp
        by [] left_is never = absurd never
        by (p ∷ ps) left_is where_q =
            let first : first_at lanes j ≡ Some p.stamp = first_there lanes j other at_o ∙ ap first_of left_is in
            let low = is.least j p.stamp first in
            let over : p.stamp ≢ next.stamp = λ e. apart (is.alone alone j (first ∙ ap (λ (n : ℕ). Some n) e)) in
            ⊎_elim
            (λ e. omega (arith, low, over, stamped, ap (λ (x : Record). x.stamp) e))
            (λ more. omega (
              arith,
              low,
              over,
              stamped,
              first_before (taken_of j sofar) log_j.0 other p q ps (falls_not sofar fs lanes m j log_j.0 log_j.1) is_j.0 left_is (in_left q ps (flat_map records_in (drop other.read log_j.0.batches)) more),
            ))
            where_q

  pub first_taken : (first : Option Record) → TakesFirst first → IsFull now further → (taken : List Taken) → AreMerging taken fs lanes → Takes taken first (set fs next.log now) (set lanes next.log further)
  first_taken first t full taken merging =
      subst (λ (o : Option Record). Takes taken o (set fs next.log now) (set lanes next.log further)) (sym t.2)
      (next.log, one_taken taken fs lanes merging next.log f lane at at_lane t.0 t.1 t.3 (after_least t.0 t.1 t.3) now further t.4.rises full t.4.parts)
