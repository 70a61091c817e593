-- The chains with which a recovery begins are in the format, and their generation is within its limit.
use Rattle.std.proofs.Common.{◌≡◌, inl, inr, ℕ, zero, suc, ◌+◌, ◌<◌, ◌≤◌, ◌==◌, ◌^◌, Bool, true, false, cond, List, [], ◌∷◌, ◌++◌, length, map, refl, sym, ◌∙◌, ap, subst, arith, Option, Some, None}
use Rattle.std.proofs.lemmas.{Bool.{eqb-true, ne_eqb, cond-false}, List.length-map, Option.same_Some}
use Rattle.std.specs.{Prelude.slice_get, List.{AllByRecursion}, Option.option_map}
use Rattle.mt_disk.specs.Disk.{DiskState}
use Rattle.mt_log_generations.specs.{declared.header.Parity.Parity, declared.header.Parity.TheVariants.{Even, Odd}}
use Rattle.mt_log.specs.{declared.batch.Front.Front, declared.batch.LogBatch.LogBatch, declared.batch.LogBatch.TheVariants.{Records, Resume, OldRecords}}
use Rattle.mt_log.specs.Contents.{Contents, AreNumbers, IsContents, IsLogBatch, contents_of}
use Rattle.mt_crashes.{specs.{Fronts.In, Bases.Slots}, proofs.{Members.{no_some, map_in, in_place, place_in}, Invariant.{zip_right, within_place}}}
use Rattle.mt_generations.{specs.{Chains.Chain, Standings.{Standing, joined, chain_from, AreFrom}}, proofs.Deciding.have_all}
use Rattle.mt_recover.specs.{declared.resuming.LogSlot.LogSlot, declared.resuming.LogSlot.TheVariants.{Open, Failed, Closed, Away}, Limits.AreContents}
use Rattle.mt_chains.specs.{declared.worker_logs.WorkerLogs.WorkerLogs, Files.{standing_of, numbered_log, SameNumbered}}
use Rattle.mt_log_files.specs.{declared.worker.WorkerFiles.WorkerFiles, Slots.{disk_in, OpensPlain, OpensNumbered}}
use Rattle.mt_chain_files.specs.{declared.headers.Told.Told, declared.opening.Chains.Chains, Numbered.{OpensFrom, OpensWorker, OpensNumberedFiles}, Chosen.{ReadsPlain, OpensChains}}
use Rattle.mt_chain_files.proofs.{Loops.zip_count, Agreeing.agree_self, Lasts.as_many_chains}
use Rattle.mt_store_logs.proofs.Loops.{get_within}

-- ---- one log after another

-- a log of a later generation is of format 3
version_three : (version generation start : ℕ) → 1 ≤ generation → AreNumbers version generation start → version ≡ 3
version_three version zero start later numbers = absurd (omega (arith, later))
version_three version (suc before) start later numbers = numbers.0

generation_fits : (version generation start : ℕ) → AreNumbers version generation start → generation ≤ 2 ^ 59
generation_fits version zero start numbers = omega arith
generation_fits version (suc before) start numbers = numbers.1

-- and a batch of that format is one of any format
any_batch : (version : ℕ) (b : LogBatch) → IsLogBatch 3 b → IsLogBatch version b
any_batch version (Records b) is = is
any_batch version (OldRecords b) is = absurd (let old = is.0 in omega (arith, old))
any_batch version (Resume from to kept) is = is

more_batches : (version : ℕ) (bs more : List LogBatch) → AllByRecursion (IsLogBatch version) bs → AllByRecursion (IsLogBatch 3) more
    → AllByRecursion (IsLogBatch version) (bs ++ more)
more_batches version [] [] are next = tt
more_batches version [] (b ∷ more) are next = (any_batch version b next.0, more_batches version [] more tt next.1)
more_batches version (b ∷ bs) more are next = (are.0, more_batches version bs more are.1 next)

-- ---- a worker's logs

-- a log in the format, of this generation
abbrev IsLogOf : ℕ → Contents → Type 0
IsLogOf h c = IsContents c × (c.generation ≡ h)

-- each log that stands is one
abbrev AreLogs : Standing → Type 0
AreLogs f = (h : ℕ) (c : Contents) → f h ≡ Some c → IsLogOf h c

chain_is : (g : ℕ) (x y : Option Chain) (c : Chain) → ((d : Contents) → x ≡ Some d → IsContents d) → ((d : Contents) → y ≡ Some d → IsLogOf (g + 1) d)
    → joined x y ≡ Some c → IsContents c
chain_is g None y c first next from = absurd (no_some c from)
chain_is g (Some a) None c first next from = first c from
chain_is g (Some a) (Some b) c first next from =
    let one = first a refl in
    let more = next b refl in
    let of = more.1 in
    subst IsContents (same_Some (record a { batches = a.batches ++ b.batches }) c from)
    (record {
      numbers = one.numbers;
      worker = one.worker;
      logs = one.logs;
      batches =
          more_batches a.version a.batches b.batches one.batches
          (subst (λ (v : ℕ). AllByRecursion (IsLogBatch v) b.batches) (version_three b.version b.generation b.start (omega (arith, of)) more.0.numbers) more.0.batches);
    })

chains_are : (g : ℕ) (files : List Standing) (chains : List Chain) → ((f : Standing) → In f files → AreLogs f) → AreFrom g files chains → AreContents chains
chains_are g [] [] logs are c at = absurd at
chains_are g [] (d ∷ chains) logs are c at = absurd are
chains_are g (f ∷ files) [] logs are c at = absurd at
chains_are g (f ∷ files) (d ∷ chains) logs are c (inl e) =
    subst IsContents (sym e)
    (chain_is g (f g) (f (g + 1)) d (λ x there. (logs f (inl refl) g x there).0) (λ x there. logs f (inl refl) (g + 1) x there) are.0)
chains_are g (f ∷ files) (d ∷ chains) logs are c (inr at) = chains_are g files chains (λ x there. logs x (inr there)) are.1 c at

-- ---- what was read of a worker's files

abbrev IsPlainLog : Option Front → Type 0
IsPlainLog found = (front : Front) → found ≡ Some front → IsLogOf 0 (contents_of front)

abbrev IsNumberedLog : Option Front → Type 0
IsNumberedLog found = (front : Front) → found ≡ Some front → IsContents (contents_of front)

-- is in the format
record AreRead (one : WorkerLogs) : Type 0 where
  plain : IsPlainLog one.plain
  numbered : AllByRecursion IsNumberedLog one.numbered

plain_stands : (found : Option Front) (c : Contents) → IsPlainLog found → option_map contents_of found ≡ Some c → IsLogOf 0 c
plain_stands None c read is = absurd (no_some c is)
plain_stands (Some front) c read is = subst (IsLogOf 0) (same_Some (contents_of front) c is) (read front refl)

numbered_stands : (h : ℕ) (logs : List (Option Front)) (c : Contents) → AllByRecursion IsNumberedLog logs → numbered_log h logs ≡ Some c → IsLogOf h c
numbered_stands h [] c read is = absurd (no_some c is)
numbered_stands h (None ∷ logs) c read is = numbered_stands h logs c read.1 is
numbered_stands h (Some front ∷ logs) c read is = by (front.generation == h) refl is (λ later. numbered_stands h logs c read.1 later)
  where
    by : (b : Bool) → (front.generation == h) ≡ b → cond b (Some (contents_of front)) (numbered_log h logs) ≡ Some c → (numbered_log h logs ≡ Some c → IsLogOf h c)
        → IsLogOf h c
    by true same e rest = subst (IsLogOf h) (same_Some (contents_of front) c e) (read.0 front refl, eqb-true front.generation h same)
    by false same e rest = rest e

-- so each log of it that stands is
logs_are : (one : WorkerLogs) → AreRead one → AreLogs (standing_of one)
logs_are one read zero c is = plain_stands one.plain c read.plain is
logs_are one read (suc n) c is =
    numbered_stands (suc n) one.numbered c read.numbered
    (sym (cond-false (suc n == 0) (option_map contents_of one.plain) (numbered_log (suc n) one.numbered) (ne_eqb (suc n) 0 (λ e. omega (arith, e)))) ∙ is)

module _ {D : Type 0} (is_honest : D → Bool) (state : D → DiskState) (failures : D → ℕ) where
  plain_read : (old : Option D) (new : LogSlot D) (found : Option Front) → OpensPlain is_honest state failures old new found → IsPlainLog found
  plain_read old new None o front there = absurd (no_some front there)
  plain_read (Some disk) (Open log) (Some read) o front there =
      subst (λ (f : Front). IsLogOf 0 (contents_of f)) (same_Some read front there) (o.contents, o.of_kind)
  plain_read (Some disk) (Failed log) (Some read) o front there = absurd o
  plain_read (Some disk) (Closed new) (Some read) o front there = absurd o
  plain_read (Some disk) Away (Some read) o front there = absurd o
  plain_read None (Open log) (Some read) o front there = absurd o
  plain_read None (Failed log) (Some read) o front there = absurd o
  plain_read None (Closed new) (Some read) o front there = absurd o
  plain_read None Away (Some read) o front there = absurd o

  numbered_read : (parity : Parity) (old : Option D) (new : LogSlot D) (found : Option Front) → OpensNumbered is_honest state failures parity old new found
      → IsNumberedLog found
  numbered_read parity old new None o front there = absurd (no_some front there)
  numbered_read parity (Some disk) (Open log) (Some read) o front there = subst (λ (f : Front). IsContents (contents_of f)) (same_Some read front there) o.0.contents
  numbered_read parity (Some disk) (Failed log) (Some read) o front there = absurd o
  numbered_read parity (Some disk) (Closed new) (Some read) o front there = absurd o
  numbered_read parity (Some disk) Away (Some read) o front there = absurd o
  numbered_read parity None (Open log) (Some read) o front there = absurd o
  numbered_read parity None (Failed log) (Some read) o front there = absurd o
  numbered_read parity None (Closed new) (Some read) o front there = absurd o
  numbered_read parity None Away (Some read) o front there = absurd o

  -- also if an older one was passed over
  from_read : (from told : ℕ) (parity : Parity) (old new : LogSlot D) (found : Option Front) → OpensFrom is_honest state failures from told parity old new found
      → IsNumberedLog found
  from_read from told parity old new found (inl over) front there = absurd (no_some front (sym over.2 ∙ there))
  from_read from told parity old new found (inr opens) front there = numbered_read parity (disk_in old) new found opens.1 front there

  -- a worker's numbered files that count were opened
  worker_read : (from : ℕ) (told : Told) (old new : WorkerFiles D) (one : WorkerLogs) → OpensWorker is_honest state failures from told old new one → AreRead one
  worker_read from told old new one o = record {
    plain = λ front at. absurd (no_some front (sym (ap (λ (w : WorkerLogs). w.plain) o.read) ∙ at));
    numbered =
        subst (AllByRecursion IsNumberedLog) (sym (ap (λ (w : WorkerLogs). w.numbered) o.read))
        (from_read from told.even Even old.even new.even o.even o.opens_even, (from_read from told.odd Odd old.odd new.odd o.odd o.opens_odd, tt));
  }

  -- those of the worker at a place
  first_read : (from : ℕ) (told : List Told) (old between : List (WorkerFiles D)) (first : List WorkerLogs) → OpensNumberedFiles is_honest state failures from told old between first
      → (k : ℕ) (one : WorkerLogs) → slice_get first k ≡ Some one → AreRead one
  first_read from told old between first numbered k one there =
      let within = get_within first k one there in
      let count = numbered.count in
      let len = numbered.each.len in
      let below : k < length old = omega (arith, within, count) in
      let was = within_place old k below in
      let is = within_place between k (omega (arith, below, len)) in
      let r = numbered.each.each k was.0 is.0 below was.1 is.1 in
      subst AreRead (same_Some r.0 one (sym r.1 ∙ there)) (worker_read from r.2.0 was.0 is.0 r.0 r.2.2)

  module _ (slots : Slots) where
    -- and the plain one, if it is needed
    all_read : (from : ℕ) (told : List Told) (old between new : List (WorkerFiles D)) (first logs : List WorkerLogs) → OpensNumberedFiles is_honest state failures from told old between first
        → ReadsPlain is_honest state failures slots between new first logs → (k : ℕ) (one : WorkerLogs) → slice_get logs k ≡ Some one → AreRead one
    all_read from told old between new first logs numbered (inr unread) k one there =
        first_read from told old between first numbered k one (subst (λ (l : List WorkerLogs). slice_get l k ≡ Some one) unread.2 there)
    all_read from told old between new first logs numbered (inl read) k one there =
        let was = zip_right SameNumbered first logs k one read.2 there in
        let within = get_within first k was.0 was.1 in
        let count = numbered.count in
        let len = numbered.each.len in
        let more = read.1.len in
        let below : k < length between = omega (arith, within, count, len) in
        let mid = within_place between k below in
        let is = within_place new k (omega (arith, below, more)) in
        let p = read.1.each k mid.0 is.0 below mid.1 is.1 in
        let same = same_Some p.0 one (sym p.1 ∙ there) in
        record {
          plain = subst (λ (w : WorkerLogs). IsPlainLog w.plain) same (plain_read (disk_in mid.0.plain) is.0.plain p.0.plain p.2.0);
          numbered = subst (AllByRecursion IsNumberedLog) was.2 (first_read from told old between first numbered k was.0 was.1).numbered;
        }

    module _ (old new : List (WorkerFiles D)) (chains : Chains) (opens : OpensChains is_honest state failures slots old new chains) where
      all_are : (f : Standing) → In f (map standing_of opens.reads.logs) → AreLogs f
      all_are f at =
          let r = opens.reads in
          let n = r.numbered.counting in
          let one = map_in standing_of f r.logs at in
          let place = in_place one.0 r.logs one.1 in
          subst AreLogs (sym one.2) (logs_are one.0 (all_read n.from r.numbered.told n.before r.between new r.first r.logs n.opens r.plain place.0 one.0 place.1))

      are_from : AreFrom chains.generation (map standing_of opens.reads.logs) (map contents_of chains.fronts.items)
      are_from =
          let logs = opens.reads.logs in
          (opens.chosen (map standing_of logs) (agree_self chains.generation (map standing_of logs))).chosen.0

      -- the chains that were opened
      pub chains_in_format : AreContents (map contents_of chains.fronts.items)
      chains_in_format = chains_are chains.generation (map standing_of opens.reads.logs) (map contents_of chains.fronts.items) all_are are_from

      -- and their generation
      pub generation_within : 0 < length old → chains.generation ≤ 2 ^ 59
      generation_within some =
          let files = map standing_of opens.reads.logs in
          let fronts = map contents_of chains.fronts.items in
          let count = as_many_chains is_honest state failures slots old new chains opens in
          let many = length-map chains.fronts.items contents_of in
          let same = zip_count (λ (f : Standing) (c : Chain). chain_from chains.generation f ≡ Some c) files fronts are_from in
          let f = within_place files 0 (omega (arith, some, count, many, same)) in
          let at = place_in f.0 0 files f.1 in
          let c = have_all chains.generation files fronts are_from f.0 at in
          let is = all_are f.0 at chains.generation c.0 c.1 in
          subst (λ (n : ℕ). n ≤ 2 ^ 59) is.1 (generation_fits c.0.version c.0.generation c.0.start is.0.numbers)
