-- What a log is given: records gathered from the place of the first later write on, and in order.
use Rattle.std.proofs.Common.{◌≡◌, ℕ, suc, zero, ◌+◌, ◌<◌, ◌≤◌, ◌^◌, ◌⊎◌, Bool, true, false, cond, not, ◌&&◌, List, [], ◌∷◌, ◌++◌, map, length, drop, get_or, Option, Some, None, refl, sym, ◌∙◌, ap, subst, true≢false, inl, inr, ⊎_elim, append_assoc, arith}
use Rattle.std.proofs.{lemmas.Bool.{ltb-true, ltb-false, lt-ltb, le-ltb}, lemmas.List.{append-nil, drop_all}}
use Rattle.std.proofs.lemmas.List.Elements.{All-filter, All-map, All-weaker, All-append, filter_passes, filter-append}
use Rattle.std.proofs.lemmas.Option.{same_Some, none-some, slice_get_within, get_or_from_slice_get}
use Rattle.std.specs.{Prelude.{nat_lt, ◌==◌, slice_index, slice_get}, List.{All, filter}, Option.unwrap_or, List.Sorted.IsStrictlyIncreasing}
use Rattle.mt_rows.specs.{declared.record.Record.Record, declared.record.Batch.Batch, Commands.IsKey, Limits.AreRecords}
use Rattle.mt_batches.specs.Batches.{IsRecord, IsBounded, BringsOn}
use Rattle.mt_tape.specs.{declared.entry.Entry.Entry, Tapes.{RisesOver, last_step_over, later_entries}}
use Rattle.mt_tape.proofs.{EntryLaws.{rises_lower, rises_all, all_upto_last}, SearchLaws.over_floor}
use Rattle.mt_drains.specs.Drains.{record_of, records_of, is_between, records_between, IsNextBatch, Gathers}

-- ---- stamps that rise

-- the steps of a tape's entries are stamps that rise
rising_stamps : (floor : ℕ) (entries : List Entry) → RisesOver floor entries → IsStrictlyIncreasing (map (λ r. r.stamp) (map record_of entries))
rising_stamps floor [] h k lt = absurd (omega (arith, lt))
rising_stamps floor (e ∷ []) h k lt = absurd (omega (arith, lt))
rising_stamps floor (e ∷ f ∷ entries) h zero lt = h.1.0
rising_stamps floor (e ∷ f ∷ entries) h (suc k) lt =
    let stamps : List ℕ = map (λ r. r.stamp) (map record_of (e ∷ f ∷ entries)) in
    let next : suc (k + 1) ≡ suc k + 1 = omega arith in
    subst (λ n. slice_index stamps (suc k) < slice_index stamps n) next (rising_stamps e.step (f ∷ entries) h.1 k (omega (arith, lt)))

rises_filtered : (p : Entry → Bool) (floor : ℕ) (entries : List Entry) → RisesOver floor entries → RisesOver floor (filter p entries)
rises_filtered p floor [] h = tt
rises_filtered p floor (e ∷ entries) h = by (p e) (rises_filtered p e.step entries h.1)
  where
    by : (b : Bool) → RisesOver e.step (filter p entries) → RisesOver floor (cond b (e ∷ filter p entries) (filter p entries))
    by true rest = (h.0, rest)
    by false rest = rises_lower floor e.step (filter p entries) (omega (arith, h.0)) rest

-- entries that pass a test are records, as they are logged
are_records_of : (p : Entry → Bool) (floor : ℕ) (entries : List Entry) → RisesOver floor entries → All (λ e. IsKey e.key) entries
    → AreRecords (map record_of (filter p entries))
are_records_of p floor entries rises keys = record {
  keys = All-map (λ r. IsKey r.key) record_of (filter p entries) (All-filter p (λ e. IsKey e.key) entries keys);
  stamps = rising_stamps floor (filter p entries) (rises_filtered p floor entries rises);
}

-- ---- between two steps

-- a change between two steps is over the one, and not over the other
parts : (a b c : Bool) → (a && b && not c) ≡ true → (b ≡ true) × (c ≡ false)
parts true true false e = (refl, refl)
parts true true true e = absurd (true≢false (sym e))
parts true false c e = absurd (true≢false (sym e))
parts false b c e = absurd (true≢false (sym e))

within : (worker from to : ℕ) (entries : List Entry) → All (λ r. (from < r.stamp) × (r.stamp ≤ to)) (records_between worker from to entries)
within worker from to entries =
    All-map (λ r. (from < r.stamp) × (r.stamp ≤ to)) record_of (filter (is_between worker from to) entries)
    (All-weaker (λ (e : Entry). is_between worker from to e ≡ true) (λ e. (from < e.step) × (e.step ≤ to))
    (λ e t. let p = parts (e.worker == worker) (nat_lt from e.step) (nat_lt to e.step) t in (ltb-true from e.step p.0, ltb-false to e.step p.1))
    (filter (is_between worker from to) entries) (filter_passes (is_between worker from to) entries))

-- a record that is kept by a step
abbrev upto : ℕ → Record → Bool
upto to r = not (nat_lt to r.stamp)

-- of the later changes those up to a step
between_upto : (worker from to : ℕ) (entries : List Entry)
    → records_between worker from to entries ≡ filter (upto to) (records_of worker (later_entries from entries))
between_upto worker from to [] = refl
between_upto worker from to (e ∷ entries) = by (e.worker == worker) (nat_lt from e.step) (nat_lt to e.step) refl refl (between_upto worker from to entries)
  where
    kept : List Entry
    kept = filter (is_between worker from to) entries

    later : List Entry
    later = later_entries from entries

    own : List Entry
    own = filter (λ x. x.worker == worker) later

    by : (a b c : Bool) → (e.worker == worker) ≡ a → nat_lt to e.step ≡ c → map record_of kept ≡ filter (upto to) (map record_of own)
        → map record_of (cond (a && b && not c) (e ∷ kept) kept)
        ≡ filter (upto to) (map record_of (filter (λ x. x.worker == worker) (cond b (e ∷ later) later)))
    by true true c is so same =
        ap_cond c so same ∙ ap (λ t. filter (upto to) (map record_of (cond t (e ∷ own) own))) (sym is)
      where
        ap_cond : (d : Bool) → nat_lt to e.step ≡ d → map record_of kept ≡ filter (upto to) (map record_of own)
            → map record_of (cond (not d) (e ∷ kept) kept) ≡ cond (upto to (record_of e)) (record_of e ∷ filter (upto to) (map record_of own)) (filter (upto to) (map record_of own))
        ap_cond true q ih = ih ∙ ap (λ t. cond (not t) (record_of e ∷ filter (upto to) (map record_of own)) (filter (upto to) (map record_of own))) (sym q)
        ap_cond false q ih = ap (λ rs. record_of e ∷ rs) ih ∙ ap (λ t. cond (not t) (record_of e ∷ filter (upto to) (map record_of own)) (filter (upto to) (map record_of own))) (sym q)
    by false true c is so same = same ∙ ap (λ t. filter (upto to) (map record_of (cond t (e ∷ own) own))) (sym is)
    by true false c is so same = same
    by false false c is so same = same

keeps_all : (p : Record → Bool) (rs : List Record) → All (λ r. p r ≡ true) rs → filter p rs ≡ rs
keeps_all p [] all = refl
keeps_all p (r ∷ rs) all =
    ap (λ b. cond b (r ∷ filter p rs) (filter p rs)) (all 0 r (omega arith)) ∙ ap (λ l. r ∷ l) (keeps_all p rs (λ k d lt. all (suc k) d (omega (arith, lt))))

keeps_none : (p : Record → Bool) (rs : List Record) → All (λ r. p r ≡ false) rs → filter p rs ≡ []
keeps_none p [] all = refl
keeps_none p (r ∷ rs) all =
    ap (λ b. cond b (r ∷ filter p rs) (filter p rs)) (all 0 r (omega arith)) ∙ keeps_none p rs (λ k d lt. all (suc k) d (omega (arith, lt)))

-- records up to a step that stand before later ones are all up to that step
split_upto : (to : ℕ) (records rest : List Record) → All (λ r. r.stamp ≤ to) records → All (λ r. to < r.stamp) rest
    → filter (upto to) (records ++ rest) ≡ records
split_upto to records rest low high =
    filter-append (upto to) records rest
    ∙ ap (λ l. l ++ filter (upto to) rest) (keeps_all (upto to) records
    (All-weaker (λ (r : Record). r.stamp ≤ to) (λ r. upto to r ≡ true) (λ r le. ap not (le-ltb to r.stamp le)) records low))
    ∙ ap (λ l. records ++ l) (keeps_none (upto to) rest (All-weaker (λ (r : Record). to < r.stamp) (λ r. upto to r ≡ false) (λ r lt. ap not (lt-ltb to r.stamp lt)) rest high))
    ∙ append-nil records

-- ---- places

-- a later entry has a later step
pub in_turn : (floor : ℕ) (entries : List Entry) (i j : ℕ) (d e : Entry) → RisesOver floor entries → i < j → slice_get entries i ≡ Some d
    → slice_get entries j ≡ Some e → d.step < e.step
in_turn floor [] i j d e rises lt at_i at_j = absurd (none-some d at_i)
in_turn floor (x ∷ entries) i zero d e rises lt at_i at_j = absurd (omega (arith, lt))
in_turn floor (x ∷ entries) zero (suc j) d e rises lt at_i at_j =
    subst (λ (y : Entry). y.step < e.step) (same_Some x d at_i) (over_floor x.step entries j e rises.1 at_j)
in_turn floor (x ∷ entries) (suc i) (suc j) d e rises lt at_i at_j = in_turn x.step entries i j d e rises.1 (omega (arith, lt)) at_i at_j

drop_at_place : (entries : List Entry) (place : ℕ) (e : Entry) → slice_get entries place ≡ Some e → drop place entries ≡ e ∷ drop (place + 1) entries
drop_at_place [] place e at = absurd (none-some e at)
drop_at_place (d ∷ entries) zero e at = ap (λ (x : Entry). x ∷ entries) (same_Some d e at)
drop_at_place (d ∷ entries) (suc place) e at =
    let one : suc (place + 1) ≡ suc place + 1 = omega arith in
    drop_at_place entries place e at ∙ ap (λ (n : ℕ). e ∷ drop n (d ∷ entries)) one

-- what stands behind a place rises over it
rises_behind : (floor : ℕ) (entries : List Entry) (place : ℕ) (e : Entry) → RisesOver floor entries → slice_get entries place ≡ Some e
    → RisesOver e.step (drop (place + 1) entries)
rises_behind floor [] place e rises at = absurd (none-some e at)
rises_behind floor (d ∷ entries) zero e rises at = subst (λ (x : Entry). RisesOver x.step entries) (same_Some d e at) rises.1
rises_behind floor (d ∷ entries) (suc place) e rises at =
    let one : suc (place + 1) ≡ suc place + 1 = omega arith in
    subst (λ (n : ℕ). RisesOver e.step (drop n (d ∷ entries))) one (rises_behind d.step entries place e rises.1 at)

records_split : (worker : ℕ) (e : Entry) (rest : List Entry) → records_of worker (e ∷ rest) ≡ records_of worker (e ∷ []) ++ records_of worker rest
records_split worker e rest = by (e.worker == worker)
  where
    by : (b : Bool) → map record_of (cond b (e ∷ filter (λ x. x.worker == worker) rest) (filter (λ x. x.worker == worker) rest)) ≡ map record_of (cond b (e ∷ []) []) ++ records_of worker rest
    by true = refl
    by false = refl

-- one write more
pub one_more : (worker : ℕ) (entries : List Entry) (place : ℕ) (e : Entry) (records now all : List Record) → slice_get entries place ≡ Some e
    → now ≡ records ++ records_of worker (e ∷ []) → records ++ records_of worker (drop place entries) ≡ all → now ++ records_of worker (drop (place + 1) entries) ≡ all
one_more worker entries place e records now all at taken so_far =
    ap (λ (l : List Record). l ++ records_of worker (drop (place + 1) entries)) taken ∙ append_assoc records (records_of worker (e ∷ [])) (records_of worker (drop (place + 1) entries))
    ∙ ap (λ (l : List Record). records ++ l) (sym (records_split worker e (drop (place + 1) entries)))
    ∙ ap (λ (l : List Entry). records ++ records_of worker l) (sym (drop_at_place entries place e at)) ∙ so_far

-- none is left behind the last one
pub all_gathered : (worker : ℕ) (entries : List Entry) (place : ℕ) (records all : List Record) → length entries ≤ place → records ++ records_of worker (drop place entries) ≡ all → records ≡ all
all_gathered worker entries place records all past so_far =
    sym (append-nil records) ∙ ap (λ (l : List Entry). records ++ records_of worker l) (sym (drop_all place entries past)) ∙ so_far

-- a write is at most one record, with its stamp
pub few_more : (worker : ℕ) (e : Entry) → length (records_of worker (e ∷ [])) ≤ 1
few_more worker e = by (e.worker == worker)
  where
    by : (b : Bool) → length (map record_of (cond b (e ∷ []) [])) ≤ 1
    by true = omega arith
    by false = omega arith

pub all_more : (P : Record → Type 0) (worker : ℕ) (e : Entry) → P (record_of e) → All P (records_of worker (e ∷ []))
all_more P worker e p = by (e.worker == worker)
  where
    by : (b : Bool) → All P (map record_of (cond b (e ∷ []) []))
    by true zero d lt = p
    by true (suc k) d lt = absurd (omega (arith, lt))
    by false k d lt = absurd (omega (arith, lt))

-- the records so far, and one write more
pub all_now : (P : Record → Type 0) (worker : ℕ) (e : Entry) (records now : List Record) → now ≡ records ++ records_of worker (e ∷ []) → All P records → P (record_of e) → All P now
all_now P worker e records now taken all p = subst (All P) (sym taken) (All-append P records (records_of worker (e ∷ [])) all (all_more P worker e p))

-- ---- the next batch

-- all of the later changes, up to the last step
none_over : (worker from to : ℕ) (entries : List Entry) → All (λ e. e.step ≤ to) entries
    → All (λ r. r.stamp ≤ to) (records_of worker (later_entries from entries))
none_over worker from to entries made =
    All-map (λ r. r.stamp ≤ to) record_of (filter (λ e. e.worker == worker) (later_entries from entries))
    (All-filter (λ e. e.worker == worker) (λ e. e.step ≤ to) (later_entries from entries) (All-filter (λ e. nat_lt from e.step) (λ e. e.step ≤ to) entries made))

gathered : (worker from steps floor place : ℕ) (entries : List Entry) (records : List Record) (full : Option ℕ) → RisesOver floor entries
    → last_step_over floor entries ≤ steps → later_entries from entries ≡ drop place entries → Gathers worker place entries records full
    → records ≡ records_between worker from (unwrap_or full steps) entries
gathered worker from steps floor place entries records None rises made later is =
    let upto_all = All-weaker (λ (e : Entry). e.step ≤ last_step_over floor entries) (λ e. e.step ≤ steps) (λ e le. omega (arith, le, made)) entries (all_upto_last floor entries rises) in
    let all = records_of worker (later_entries from entries) in
    is ∙ ap (records_of worker) (sym later)
    ∙ sym (keeps_all (upto steps) all (All-weaker (λ (r : Record). r.stamp ≤ steps) (λ r. upto steps r ≡ true) (λ r le. ap not (le-ltb steps r.stamp le)) all (none_over worker from steps entries upto_all)))
    ∙ sym (between_upto worker from steps entries)
gathered worker from steps floor place entries records (Some step) rises made later (last, e, at, is, full, low, split) =
    let rest = drop (last + 1) entries in
    let behind : RisesOver step rest = subst (λ n. RisesOver n rest) is (rises_behind floor entries last e rises at) in
    let high : All (λ r. step < r.stamp) (records_of worker rest) =
    All-map (λ r. step < r.stamp) record_of (filter (λ x. x.worker == worker) rest) (All-filter (λ x. x.worker == worker) (λ x. step < x.step) rest (rises_all step rest behind)) in
    let under : All (λ r. r.stamp ≤ step) records = All-weaker (λ (r : Record). r.stamp < step + 1) (λ r. r.stamp ≤ step) (λ r lt. omega (arith, lt)) records low in
    sym (split_upto step records (records_of worker rest) under high)
    ∙ ap (filter (upto step)) (split ∙ ap (records_of worker) (sym later))
    ∙ sym (between_upto worker from step entries)

-- where it ended lies within the steps
ends_within : (worker from steps floor place : ℕ) (entries : List Entry) (records : List Record) (full : Option ℕ) → RisesOver floor entries
    → last_step_over floor entries ≤ steps → from ≤ steps → Gathers worker place entries records full → records ≡ records_between worker from (unwrap_or full steps) entries
    → (from ≤ unwrap_or full steps) × (unwrap_or full steps ≤ steps) × ((unwrap_or full steps ≡ steps) ⊎ (length records ≡ 4096))
ends_within worker from steps floor place entries records None rises made order gathers is = (order, omega arith, inl refl)
ends_within worker from steps floor place entries records (Some step) rises made order (last, e, at, same, full, low, split) is =
    let all = subst (All (λ r. (from < r.stamp) × (r.stamp ≤ step))) (sym is) (within worker from step entries) in
    let first = all 0 (record_of e) (omega (arith, full)) in
    let there = all_upto_last floor entries rises last e (slice_get_within entries last e at) in
    let this : get_or entries last e ≡ e = get_or_from_slice_get entries last e e at in
    let low_enough : e.step ≤ last_step_over floor entries = subst (λ (x : Entry). x.step ≤ last_step_over floor entries) this there in
    (omega (arith, first.0, first.1), omega (arith, low_enough, same, made), inr full)

-- so what was gathered is the next batch
pub is_next : (worker from steps floor place : ℕ) (entries : List Entry) (records : List Record) (full : Option ℕ) → RisesOver floor entries
    → last_step_over floor entries ≤ steps → from ≤ steps → later_entries from entries ≡ drop place entries → Gathers worker place entries records full
    → IsNextBatch worker from steps entries (record { from = from; to = unwrap_or full steps; records = records })
is_next worker from steps floor place entries records full rises made order later gathers =
    let is = gathered worker from steps floor place entries records full rises made later gathers in
    let ends = ends_within worker from steps floor place entries records full rises made order gathers is in
    record { begins = refl; records = is; made = ends.1; ends = ends.2 }

-- and bounded
pub is_bounded : (worker from steps floor place : ℕ) (entries : List Entry) (records : List Record) (full : Option ℕ) → RisesOver floor entries
    → All (λ e. IsKey e.key) entries → last_step_over floor entries ≤ steps → from ≤ steps → steps ≤ 2 ^ 59 → later_entries from entries ≡ drop place entries
    → Gathers worker place entries records full → length records ≤ 4096 → All (λ r. IsKey r.key → IsRecord r) records
    → IsBounded (record { from = from; to = unwrap_or full steps; records = records })
is_bounded worker from steps floor place entries records full rises keys made order few later gathers short limits =
    let to = unwrap_or full steps in
    let is = gathered worker from steps floor place entries records full rises made later gathers in
    let ends = ends_within worker from steps floor place entries records full rises made order gathers is in
    let are : AreRecords records = subst AreRecords (sym is) (are_records_of (is_between worker from to) floor entries rises keys) in
    record {
      in_order = record {
        order = ends.0;
        last = omega (arith, ends.1, few);
        records = record {
          limits = are;
          within = subst (All (λ r. (from < r.stamp) × (r.stamp ≤ to))) (sym is) (within worker from to entries);
          each = λ k d lt. limits k d lt (are.keys k d lt);
        };
      };
      few = short;
    }

-- and brings a log on towards any step that was made
pub brings : (upto steps : ℕ) (entries : List Entry) (worker from : ℕ) (b : Batch) → upto ≤ steps → IsNextBatch worker from steps entries b → BringsOn upto b
brings upto steps entries worker from b le next = ⊎_elim (λ all. inl (omega (arith, le, all))) inr next.ends

-- what is gathered are records
pub are_gathered : (worker from steps floor place : ℕ) (entries : List Entry) (records : List Record) (full : Option ℕ) → RisesOver floor entries
    → All (λ e. IsKey e.key) entries → last_step_over floor entries ≤ steps → later_entries from entries ≡ drop place entries
    → Gathers worker place entries records full → AreRecords records
are_gathered worker from steps floor place entries records full rises keys made later gathers =
    subst AreRecords (sym (gathered worker from steps floor place entries records full rises made later gathers))
    (are_records_of (is_between worker from (unwrap_or full steps)) floor entries rises keys)
