-- What was opened and looked at is ready to be read a second time, and stays opened.
use Rattle.std.proofs.Common.{◌≡◌, inl, inr, ℕ, ◌<◌, ◌==◌, ◌%◌, Bool, true, false, cond, IsTrue, List, length, map, refl, sym, ◌∙◌, ap, subst, arith, Option, Some}
use Rattle.std.proofs.lemmas.{List.length-map, Option.same_Some}
use Rattle.std.specs.{Prelude.{slice_get}}
use Rattle.mt_rows.specs.{Accounts.Accounts, TenantPairs.pairs_of, declared.refusal.Refusal.Refusal}
use Rattle.mt_generations.specs.Chains.{IsRecoveredOver}
use Rattle.mt_disk.specs.Disk.{DiskState}
use Rattle.mt_log.specs.{declared.batch.Front.Front, Contents.{Contents, contents_of}}
use Rattle.mt_crashes.{specs.Bases.{Slots}, proofs.Invariant.{within_place, map_place, place_map}}
use Rattle.mt_checkpoint.specs.declared.checkpoint.Checkpoint.{Checkpoint}
use Rattle.mt_recover.specs.{declared.resuming.LogSlot.LogSlot, declared.recovering.Recovered.Recovered, Sources.AreLeft, Refusals.IsRefusal}
use Rattle.mt_slots.specs.{declared.store_slots.StoreSlots.StoreSlots, Places.{Both, in_order}, Calls.ReadsBoth}
use Rattle.mt_slots.proofs.Settling.{both_read}
use Rattle.mt_log_files.specs.{declared.worker.WorkerFiles.WorkerFiles, Slots.{disk_in, file_of}}
use Rattle.mt_chain_files.specs.{declared.opening.Chains.Chains}
use Rattle.mt_chain_files.specs.{Chosen.OpensChains, Rereads.{reader_from, ChainIsAhead, AreHonest, SlotIsRead, FilesAreRead, AllAreRead, PlainStay}}
use Rattle.mt_chain_files.proofs.{StillOpen.opened_again, ChainsAhead.ahead_of, Lasts.{as_many_places, as_many_chains, as_many_begun}}
use Rattle.mt_store_logs.specs.{declared.fault.StoreRefusal.StoreRefusal, declared.store_log.StoreLog.StoreLog, Taking.{files_of, OpensLogs}, Recovers.{slots_of, IsAgain, IsRecoveredOf, StopsAgain}}
use Rattle.mt_store_logs.specs.{Rereads.{readers_of, KeepPlain, LogsAreRead, KeepRules, IsLeft}, Seconds.AreReady}
use Rattle.mt_store_logs.proofs.Loops.{get_within, made_of}

-- ---- by other rules

pub again_by : (P Q : Type 0) (seen loaded : Slots) (fronts : List Front) (now : List Contents) → (Q → P) → IsAgain P seen fronts now loaded → IsAgain Q seen fronts now loaded
again_by P Q seen loaded fronts now so is = record { numbers = is.numbers; same = λ q. is.same (so q) }

pub recovered_by : (P Q : Type 0) (accounts : Accounts) (seen : Slots) (fronts : List Front) (r : Recovered) → (Q → P) → IsRecoveredOf P accounts seen fronts r
    → IsRecoveredOf Q accounts seen fronts r
recovered_by P Q accounts seen fronts r so is = record {
  now = is.now;
  loaded = is.loaded;
  again = again_by P Q seen is.loaded fronts is.now so is.again;
  outlines = is.outlines;
  over = is.over;
  ascend = is.ascend;
  tenants = is.tenants;
  quotas = is.quotas;
  limits = is.limits;
  stamped = is.stamped;
  last = is.last;
}

-- ---- what was seen first

pub recovered_over : (rules : Type 0) (accounts : Accounts) (seen : Slots) (fronts : List Front) (r : Recovered) → rules → IsRecoveredOf rules accounts seen fronts r
    → IsRecoveredOver (map contents_of fronts) seen r.cutoff r.resume r.used (pairs_of r.pairs.items)
recovered_over rules accounts seen fronts r so is =
    let same = is.again.same so in
    subst (λ (s : Slots). IsRecoveredOver (map contents_of fronts) s r.cutoff r.resume r.used (pairs_of r.pairs.items)) same.1
    (subst (λ (now : List Contents). IsRecoveredOver now is.loaded r.cutoff r.resume r.used (pairs_of r.pairs.items)) same.0 is.over)

pub refused_of : (rules : Type 0) (seen loaded : Slots) (fronts : List Front) (now : List Contents) (quota : ℕ → Option ℕ) (e : Refusal) → rules
    → IsAgain rules seen fronts now loaded → IsRefusal now loaded quota e → IsRefusal (map contents_of fronts) seen quota e
refused_of rules seen loaded fronts now quota e so again refused =
    let same = again.same so in
    subst (λ (s : Slots). IsRefusal (map contents_of fronts) s quota e) same.1 (subst (λ (n : List Contents). IsRefusal n loaded quota e) same.0 refused)

pub stops_by : (P Q : Type 0) (e : StoreRefusal) → (Q → P) → StopsAgain P e → StopsAgain Q e
stops_by P Q e so (inl fault) = inl fault
stops_by P Q e so (inr other) = inr (other.0, λ q. other.1 (so q))

module _ {D : Type 0} (is_honest : D → Bool) (state : D → DiskState) (failures : D → ℕ) where
  -- ---- one worker's files

  place_read : (well a b : Bool) (old new : WorkerFiles D) → FilesAreRead is_honest state failures well old new
      → SlotIsRead is_honest state failures well (cond a old.plain (cond b old.even old.odd)) (cond a new.plain (cond b new.even new.odd))
  place_read well true b old new read = read.plain
  place_read well false true old new read = read.even
  place_read well false false old new read = read.odd

  slot_honest : (well : Bool) (old new : LogSlot D) → SlotIsRead is_honest state failures well old new → ((disk : D) → disk_in new ≡ Some disk → IsTrue (is_honest disk))
      → (disk : D) → disk_in old ≡ Some disk → IsTrue (is_honest disk)
  slot_honest well old new (inl same) honest disk on = honest disk (ap disk_in same ∙ on)
  slot_honest well old new (inr l) honest disk on =
      subst (λ (d : D). IsTrue (is_honest d)) (same_Some l.was.disk disk (sym (ap disk_in l.from) ∙ on)) (subst IsTrue l.only.honest (honest l.is.disk (ap disk_in l.to)))

  -- files that are read keep the rules if they did after it
  files_honest : (well : Bool) (old new : WorkerFiles D) → FilesAreRead is_honest state failures well old new → AreHonest is_honest new → AreHonest is_honest old
  files_honest well old new read honest g =
      slot_honest well (file_of g old) (file_of g new) (place_read well (g == 0) (g % 2 == 0) old new read) (honest g)

  module _ (slots : Slots) (old mid : List (StoreLog D)) (chains : Chains) (o : OpensLogs is_honest state failures slots old mid chains) where
    -- ---- as many as there are

    many_old : length (map files_of old) ≡ length mid
    many_old = length-map old files_of ∙ sym o.back.len

    pub many_fronts : length chains.fronts.items ≡ length mid
    many_fronts = as_many_chains is_honest state failures slots (map files_of old) o.files chains o.opens ∙ many_old

    pub many_begun : length chains.begun.items ≡ length mid
    many_begun = as_many_begun is_honest state failures slots (map files_of old) o.files chains o.opens ∙ many_old

    many_files : length o.files ≡ length mid
    many_files = as_many_places is_honest state failures slots (map files_of old) o.files chains o.opens ∙ many_old

    -- the files of a log
    files_at : (k : ℕ) (log : StoreLog D) → slice_get mid k ≡ Some log → slice_get o.files k ≡ Some (files_of log)
    files_at k log there =
        let within = get_within mid k log there in
        let len = o.back.len in
        let was = within_place old k (omega (arith, within, len)) in
        let has = o.back.each k was.0 log (get_within old k was.0 was.1) was.1 there in
        has.there ∙ ap Some (sym has.stands.files)

    files_are : o.files ≡ map files_of mid
    files_are = made_of files_of mid o.files many_files files_at

    -- ---- they stay opened

    module _ (new : List (StoreLog D)) (read : LogsAreRead is_honest state failures true mid new) (plain : 0 < chains.generation → KeepPlain mid new) where
      all_read : AllAreRead is_honest state failures true (map files_of mid) (map files_of new)
      all_read = record {
        len = length-map new files_of ∙ read.len ∙ sym (length-map mid files_of);
        each = λ k was is below there then.
            let a = map_place files_of mid k was there in
            let b = map_place files_of new k is then in
            subst (λ (f : WorkerFiles D). FilesAreRead is_honest state failures true f is) (sym a.2)
            (subst (FilesAreRead is_honest state failures true (files_of a.0)) (sym b.2) (read.each k a.0 b.0 (get_within mid k a.0 a.1) a.1 b.1).files);
      }

      plain_stay : 0 < chains.generation → PlainStay (map files_of mid) (map files_of new)
      plain_stay some = record {
        len = length-map new files_of ∙ read.len ∙ sym (length-map mid files_of);
        each = λ k was is below there then.
            let a = map_place files_of mid k was there in
            let b = map_place files_of new k is then in
            ap (λ (f : WorkerFiles D). f.plain) b.2 ∙ (plain some).each k a.0 b.0 (get_within mid k a.0 a.1) a.1 b.1 ∙ sym (ap (λ (f : WorkerFiles D). f.plain) a.2);
      }

      pub still_opens : OpensLogs is_honest state failures slots old new chains
      still_opens = record {
        files = map files_of new;
        opens =
            opened_again is_honest state failures slots (map files_of old) (map files_of mid) (map files_of new) chains all_read plain_stay
            (subst (λ (fs : List (WorkerFiles D)). OpensChains is_honest state failures slots (map files_of old) fs chains) files_are o.opens);
        back = record {
          len = read.len ∙ o.back.len;
          each = λ k was is below there then.
              let within = get_within new k is then in
              let len = read.len in
              let m = within_place mid k (omega (arith, within, len)) in
              let has = o.back.each k was m.0 below there m.1 in
              let rest = (read.each k m.0 is (get_within mid k m.0 m.1) m.1 then).rest in
              record {
                one = files_of is;
                there = place_map files_of new k is then;
                stands = record {
                  worker = ap (λ (l : StoreLog D). l.log.owner.worker) rest ∙ has.stands.worker;
                  logs = ap (λ (l : StoreLog D). l.log.owner.logs) rest ∙ has.stands.logs;
                  generation = ap (λ (l : StoreLog D). l.log.generation) rest ∙ has.stands.generation;
                  files = refl;
                };
                oldest = ap (λ (l : StoreLog D). l.oldest) rest ∙ has.oldest;
                rest = record { sure = ap (λ (l : StoreLog D). l.next_in_doubt) rest ∙ has.rest.sure; none = ap (λ (l : StoreLog D). l.kept) rest ∙ has.rest.none };
              };
        };
      }

    -- ---- they are ready

    module _ (well : Bool) (new : List (StoreLog D)) (read : LogsAreRead is_honest state failures well mid new) (before rested : StoreSlots D) (found : Both (Option Checkpoint))
        (reads : ReadsBoth is_honest state failures before rested found) where
      left_at : KeepRules is_honest state failures new before → AreLeft (IsLeft is_honest state failures mid (readers_of chains)) (map contents_of chains.fronts.items)
      left_at rules k c there =
          let front = map_place contents_of chains.fronts.items k c there in
          let within = get_within chains.fronts.items k front.0 front.1 in
          let fronts = many_fronts in
          let begun = many_begun in
          let log = within_place mid k (omega (arith, within, fronts)) in
          let told = within_place chains.begun.items k (omega (arith, within, fronts, begun)) in
          let at = get_within mid k log.0 log.1 in
          let len = read.len in
          let is = within_place new k (omega (arith, at, len)) in
          record {
            log = log.0;
            there = log.1;
            reader = reader_from chains.generation (Some told.0);
            reads = place_map (λ (b : Bool). reader_from chains.generation (Some b)) chains.begun.items k told.0 told.1;
            ahead =
                subst (λ (d : Contents). ChainIsAhead is_honest state d.batches (files_of log.0) (reader_from chains.generation (Some told.0))) (sym front.2)
                (ahead_of is_honest state failures slots (map files_of old) o.files chains o.opens k front.0 (files_of log.0) front.1 (files_at k log.0 log.1)
                (files_honest well (files_of log.0) (files_of is.0) (read.each k log.0 is.0 at log.1 is.1).files (rules.files k is.0 is.1)) told.0 told.1);
          }

      pub are_ready : KeepRules is_honest state failures new before → AreReady is_honest state failures mid rested chains (slots_of (in_order found))
      are_ready rules = (
        left_at rules,
        λ k v there. record { found = found; keeps = both_read is_honest state failures rules.mays before rested rules.both found reads; is = there },
      )
