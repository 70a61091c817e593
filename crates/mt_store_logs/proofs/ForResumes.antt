-- What a recovery may ask of the logs that were opened for it.
use Rattle.std.proofs.Common.{◌≡◌, ℕ, ◌≤◌, ◌<◌, Bool, List, map, length, sym, ◌∙◌, ap, subst, arith, Option, Some, None}
use Rattle.std.proofs.lemmas.List.{length-map}
use Rattle.std.specs.{Prelude.{slice_get, slice_index_or}, List.AllByRecursion, Option.option_map}
use Rattle.mt_checkpoint.specs.{declared.checkpoint.Checkpoint.Checkpoint, Checkpoints.{IsWalkOrNone, walk_of}}
use Rattle.mt_slots.specs.{declared.slot.Slot.TheVariants.{First, Second}, declared.store_slots.StoreSlots.StoreSlots, Places.{Both, in_order}, Calls.ReadsBoth}
use Rattle.mt_disk.specs.Disk.{DiskState}
use Rattle.mt_log.specs.{declared.batch.Front.Front, Contents.{Contents, mark_of, contents_of}}
use Rattle.mt_rows.specs.{Accounts.Accounts, Tenants.{Contents as Pairs}, TenantPairs.pairs_of}
use Rattle.mt_crashes.specs.{Fronts.last_end, Bases.Slots}
use Rattle.mt_crashes.proofs.{Members.{in_map, place_in}, FrontLaws.{upto_last, cutoff_upto_last}, Invariant.within_place}
use Rattle.mt_generations.specs.Chains.{IsRecoveredOver}
use Rattle.mt_recover.specs.{declared.resuming.LogSlot.LogSlot, declared.resuming.LogSlot.TheVariants.{Open, Failed, Closed, Away}, Resumes.IsOpenUpto}
use Rattle.mt_recover.{specs.{Limits.IsReadSlot, declared.recovering.Recovered.Recovered}, proofs.Outlines.same_end}
use Rattle.mt_log_files.specs.Slots.{file_of}
use Rattle.mt_chain_files.{specs.{declared.opening.Chains.Chains, Lasts.{last_generation_of, EndsAt}}, proofs.Lasts.{open_at_ends, as_many_chains}}
use Rattle.mt_store_logs.{specs.{declared.store_log.StoreLog.StoreLog, Places.slot_of, Taking.{files_of, OpensLogs}, Recovers.IsRecoveredOf}, proofs.Loops.read_or}

-- a log that ends where a chain does is open up to each later step
open_upto : {D : Type 0} (to : ℕ) (c : Contents) (slot : LogSlot D) → EndsAt c slot → mark_of c ≤ to → IsOpenUpto to slot
open_upto to c (Open log) ends within = omega (arith, ends, within)
open_upto to c (Failed log) ends within = absurd ends
open_upto to c (Closed disk) ends within = absurd ends
open_upto to c Away ends within = absurd ends

module _ {D : Type 0} (is_honest : D → Bool) (state : D → DiskState) (failures : D → ℕ) where
  pub are_open_upto : (slots : Slots) (old mid : List (StoreLog D)) (chains : Chains) (to : ℕ) → OpensLogs is_honest state failures slots old mid chains
      → last_end (map contents_of chains.fronts.items) ≤ to → (k : ℕ) (d : StoreLog D) → k < length mid → IsOpenUpto to (slot_of (slice_index_or mid k d))
  are_open_upto slots old mid chains to o last k d below =
      let fronts = chains.fronts.items in
      let is = slice_index_or mid k d in
      let len = o.back.len in
      let within : k < length old = omega (arith, below, len) in
      let was = within_place old k within in
      let has = o.back.each k was.0 is within was.1 (read_or mid k d below) in
      let count = as_many_chains is_honest state failures slots (map files_of old) o.files chains o.opens in
      let many = length-map old files_of in
      let front = within_place fronts k (omega (arith, within, count, many)) in
      let ends = open_at_ends is_honest state failures slots (map files_of old) o.files chains o.opens k front.0 has.one front.1 has.there in
      let upto = upto_last (contents_of front.0) (map contents_of fronts) (in_map contents_of front.0 fronts (place_in front.0 k fronts front.1)) in
      let place : slot_of is ≡ file_of (last_generation_of chains.generation (slice_get chains.begun.items k)) has.one =
      ap (λ (n : ℕ). file_of n is.log.files) has.stands.generation
      ∙ ap (file_of (last_generation_of chains.generation (slice_get chains.begun.items k))) has.stands.files in
      subst (IsOpenUpto to) (sym place)
      (open_upto to (contents_of front.0) (file_of (last_generation_of chains.generation (slice_get chains.begun.items k)) has.one) ends (omega (arith, upto, last)))

  -- both checkpoints that were read are in the format
  pub both_in_format : (old new : StoreSlots D) (found : Both (Option Checkpoint)) → ReadsBoth is_honest state failures old new found
      → AllByRecursion IsReadSlot (in_order found)
  both_in_format old new found reads = (read_slot found.first (reads.each First).format, (read_slot found.second (reads.each Second).format, tt))
    where
      read_slot : (x : Option Checkpoint) → IsWalkOrNone (option_map walk_of x) → IsReadSlot x
      read_slot None is = tt
      read_slot (Some c) is = is

-- a recovery goes on from where the last chain ends, or later
pub resumes_last : (chains : List Contents) (read : Slots) (cutoff resume : ℕ) (used : Option ℕ) (found : Pairs) → IsRecoveredOver chains read cutoff resume used found
    → last_end chains ≤ resume
resumes_last chains read cutoff resume used found is = let told = is.resume_is in omega (arith, told)

pub cutoff_within : (chains : List Contents) (read : Slots) (cutoff resume : ℕ) (used : Option ℕ) (found : Pairs) → IsRecoveredOver chains read cutoff resume used found
    → cutoff ≤ resume
cutoff_within chains read cutoff resume used found is =
    let least = is.cutoff_is in
    let last = resumes_last chains read cutoff resume used found is in
    let below = cutoff_upto_last chains in
    omega (arith, least, last, below)

-- so of fronts that are read again: their outlines stay
pub resumes_fronts : (rules : Type 0) (accounts : Accounts) (seen : Slots) (fronts : List Front) (r : Recovered) → IsRecoveredOf rules accounts seen fronts r
    → last_end (map contents_of fronts) ≤ r.resume
resumes_fronts rules accounts seen fronts r is =
    let same = same_end (map contents_of fronts) is.now is.outlines.same in
    let last = resumes_last is.now is.loaded r.cutoff r.resume r.used (pairs_of r.pairs.items) is.over in
    omega (arith, same, last)

pub cutoff_recovered : (rules : Type 0) (accounts : Accounts) (seen : Slots) (fronts : List Front) (r : Recovered) → IsRecoveredOf rules accounts seen fronts r → r.cutoff ≤ r.resume
cutoff_recovered rules accounts seen fronts r is = cutoff_within is.now is.loaded r.cutoff r.resume r.used (pairs_of r.pairs.items) is.over
