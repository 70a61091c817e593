-- What was opened stays opened if its logs are only read again.
use Rattle.std.proofs.Common.{◌≡◌, inl, inr, ℕ, zero, suc, ◌<◌, Bool, true, IsTrue, List, [], ◌∷◌, map, length, refl, sym, ◌∙◌, ap, subst, arith, Option, Some, None}
use Rattle.std.proofs.lemmas.{Option.same_Some}
use Rattle.std.specs.Prelude.{slice_get}
use Rattle.mt_disk.specs.Disk.{DiskState, LeavesOnly}
use Rattle.mt_log_generations.specs.declared.header.{Parity.Parity, Parity.TheVariants.{Even, Odd}}
use Rattle.mt_log.specs.{declared.batch.Front.Front, declared.log_file.LogFile.LogFile, declared.reader.FileKind.FileKind}
use Rattle.mt_log.specs.{Contents.{Contents, log_bytes, contents_of}, Fronts.IsAtRest, Logs.{IsLogOf, Opened}, Numbered.StillLeavesText, Rereading.IsOnlyRead}
use Rattle.mt_crashes.{specs.Bases.Slots, proofs.{Members.no_some, Invariant.within_place}}
use Rattle.mt_recover.specs.{declared.resuming.LogSlot.LogSlot, declared.resuming.LogSlot.TheVariants.{Open, Failed, Closed, Away}}
use Rattle.mt_chains.specs.{declared.worker_logs.WorkerLogs.WorkerLogs, Files.standing_of}
use Rattle.mt_log_files.specs.{declared.worker.WorkerFiles.WorkerFiles, Slots.{disk_in, OpensPlain, OpensNumbered}, Looks.Looks}
use Rattle.mt_chain_files.specs.{declared.headers.Told.Told, declared.opening.Chains.Chains, Headers.{LooksAtFiles, LooksAtWorker}, Rounds.{ComesTo, ReadsNumbered}}
use Rattle.mt_chain_files.specs.{Numbered.{IsOlder, OpensFrom, OpensWorker, OpensNumberedFiles}, Plain.{KeepsNumbered, OpensPlainFiles}, Chosen.{NeedPlain, ReadsPlain, OpensChains}}
use Rattle.mt_chain_files.specs.Rereads.{SlotIsRead, AllAreRead, PlainStay}
use Rattle.mt_chain_files.proofs.Loops.{get_within}
use Rattle.mt_log.specs.declared.reader.FileKind.TheVariants as kinds

-- ---- places of two lists in one

-- the numbered files of one list, and the plain ones of another
with_plain : {D : Type 0} → List (WorkerFiles D) → List (WorkerFiles D) → List (WorkerFiles D)
with_plain [] news = []
with_plain (b ∷ bs) [] = []
with_plain (b ∷ bs) (n ∷ ns) = record n { plain = b.plain } ∷ with_plain bs ns

with_plain_len : {D : Type 0} (bs ns : List (WorkerFiles D)) → length ns ≡ length bs → length (with_plain bs ns) ≡ length bs
unfolding with_plain
with_plain_len [] ns len = refl
with_plain_len (b ∷ bs) [] len = absurd (omega (arith, len))
with_plain_len (b ∷ bs) (n ∷ ns) len = ap suc (with_plain_len bs ns (omega (arith, len)))

-- what stands at a place
record Both {D : Type 0} (k : ℕ) (bs ns : List (WorkerFiles D)) (x : WorkerFiles D) : Type 0 where
  old : WorkerFiles D
  there : slice_get bs k ≡ Some old
  new : WorkerFiles D
  then : slice_get ns k ≡ Some new
  is : x ≡ record new { plain = old.plain }

with_plain_at : {D : Type 0} (k : ℕ) (bs ns : List (WorkerFiles D)) (x : WorkerFiles D) → slice_get (with_plain bs ns) k ≡ Some x → Both k bs ns x
unfolding with_plain
with_plain_at k [] ns x at = absurd (no_some x at)
with_plain_at k (b ∷ bs) [] x at = absurd (no_some x at)
with_plain_at zero (b ∷ bs) (n ∷ ns) x at = record { old = b; there = refl; new = n; then = refl; is = sym (same_Some (record n { plain = b.plain }) x at) }
with_plain_at (suc k) (b ∷ bs) (n ∷ ns) x at =
    let rest = with_plain_at k bs ns x at in
    record { old = rest.old; there = rest.there; new = rest.new; then = rest.then; is = rest.is }

leaves_same : (P : List ℕ → Type 0) (first old new : DiskState) → new ≡ old → LeavesOnly P first old → LeavesOnly P first new
leaves_same P first old new same leaves = subst (LeavesOnly P first) (sym same) leaves

module _ {D : Type 0} (is_honest : D → Bool) (state : D → DiskState) (failures : D → ℕ) where
  -- ---- one log

  pub log_stays : (c : Contents) (old new : LogFile D) → IsOnlyRead is_honest state old new → IsTrue (is_honest old.disk) → IsLogOf state c old → IsLogOf state c new
  log_stays c old new read h is = record {
    contents = is.contents;
    rest =
        subst (λ (n : ℕ). IsAtRest (log_bytes c) n (state new.disk)) (sym read.end)
        (subst (λ (s : DiskState). IsAtRest (log_bytes c) old.end s) (sym (read.same h)) is.rest);
    mark = read.mark ∙ is.mark;
  }

  opened_stays : (kind : FileKind) (disk : D) (old new : LogFile D) (front : Front) → IsOnlyRead is_honest state old new → failures new.disk ≡ failures old.disk
      → Opened kind is_honest state failures disk old front → Opened kind is_honest state failures disk new front
  opened_stays kind disk old new front read count o = record {
    contents = o.contents;
    of_kind = o.of_kind;
    mark = read.mark ∙ o.mark;
    read = o.read;
    has = λ h. log_stays (contents_of front) old new read (subst IsTrue (sym o.honest) h) (o.has h);
    reads = o.reads;
    leaves = λ h c b first is left. leaves_same _ first (state old.disk) (state new.disk) (read.same (subst IsTrue (sym o.honest) h)) (o.leaves h c b first is left);
    count = count ∙ o.count;
    honest = read.honest ∙ o.honest;
  }

  text_stays : (disk : D) (old new : LogFile D) → is_honest old.disk ≡ is_honest disk → IsOnlyRead is_honest state old new → StillLeavesText is_honest state failures disk old.disk
      → StillLeavesText is_honest state failures disk new.disk
  text_stays disk old new same read leaves h c first is left =
      leaves_same _ first (state old.disk) (state new.disk) (read.same (subst IsTrue (sym same) h)) (leaves h c first is left)

  -- ---- one place

  plain_log : (old : Option D) (was is : LogFile D) (found : Option Front) → IsOnlyRead is_honest state was is → failures is.disk ≡ failures was.disk
      → OpensPlain is_honest state failures old (Open was) found → OpensPlain is_honest state failures old (Open is) found
  plain_log (Some disk) was is (Some front) read count o = opened_stays kinds.Plain disk was is front read count o
  plain_log (Some disk) was is None read count o = absurd o
  plain_log None was is (Some front) read count o = absurd o
  plain_log None was is None read count o = absurd o

  plain_stays : (disk : Option D) (old new : LogSlot D) (found : Option Front) → SlotIsRead is_honest state failures true old new
      → OpensPlain is_honest state failures disk old found → OpensPlain is_honest state failures disk new found
  plain_stays disk old new found (inl same) o = subst (λ (s : LogSlot D). OpensPlain is_honest state failures disk s found) (sym same) o
  plain_stays disk old new found (inr l) o =
      subst (λ (s : LogSlot D). OpensPlain is_honest state failures disk s found) (sym l.to)
      (plain_log disk l.was l.is found l.only l.count (subst (λ (s : LogSlot D). OpensPlain is_honest state failures disk s found) l.from o))

  numbered_log : (parity : Parity) (old : Option D) (was is : LogFile D) (found : Option Front) → IsOnlyRead is_honest state was is → failures is.disk ≡ failures was.disk
      → OpensNumbered is_honest state failures parity old (Open was) found → OpensNumbered is_honest state failures parity old (Open is) found
  numbered_log parity (Some disk) was is (Some front) read count o =
      (opened_stays (kinds.Numbered parity) disk was is front read count o.0, text_stays disk was is o.0.honest read o.1)
  numbered_log parity (Some disk) was is None read count o = absurd o
  numbered_log parity None was is (Some front) read count o = absurd o
  numbered_log parity None was is None read count o = absurd o

  numbered_stays : (parity : Parity) (disk : Option D) (old new : LogSlot D) (found : Option Front) → SlotIsRead is_honest state failures true old new
      → OpensNumbered is_honest state failures parity disk old found → OpensNumbered is_honest state failures parity disk new found
  numbered_stays parity disk old new found (inl same) o = subst (λ (s : LogSlot D). OpensNumbered is_honest state failures parity disk s found) (sym same) o
  numbered_stays parity disk old new found (inr l) o =
      subst (λ (s : LogSlot D). OpensNumbered is_honest state failures parity disk s found) (sym l.to)
      (numbered_log parity disk l.was l.is found l.only l.count (subst (λ (s : LogSlot D). OpensNumbered is_honest state failures parity disk s found) l.from o))

  -- a place that is passed over has no open log
  abbrev IsShut : ℕ → ℕ → Parity → LogSlot D → Type 0
  IsShut from told parity slot = IsOlder from parity told → (log : LogFile D) → slot ≡ Open log → ⊥

  from_stays : (from told : ℕ) (parity : Parity) (before old new : LogSlot D) (found : Option Front) → IsShut from told parity before
      → SlotIsRead is_honest state failures true old new → OpensFrom is_honest state failures from told parity before old found
      → OpensFrom is_honest state failures from told parity before new found
  from_stays from told parity before old new found shut (inl same) (inl over) = inl (over.0, same ∙ over.1, over.2)
  from_stays from told parity before old new found shut (inr l) (inl over) = absurd (shut over.0 l.was (sym over.1 ∙ l.from))
  from_stays from told parity before old new found shut read (inr opens) = inr (opens.0, numbered_stays parity (disk_in before) old new found read opens.1)

  -- ---- a worker's files

  abbrev AreShut : ℕ → Told → WorkerFiles D → Type 0
  AreShut from told before = IsShut from told.even Even before.even × IsShut from told.odd Odd before.odd

  -- the numbered files are read, and the plain one stays
  record NumberedRead (old new : WorkerFiles D) : Type 0 where
    plain : new.plain ≡ old.plain
    even : SlotIsRead is_honest state failures true old.even new.even
    odd : SlotIsRead is_honest state failures true old.odd new.odd

  worker_stays : (from : ℕ) (told : Told) (before old new : WorkerFiles D) (logs : WorkerLogs) → AreShut from told before → NumberedRead old new
      → OpensWorker is_honest state failures from told before old logs → OpensWorker is_honest state failures from told before new logs
  worker_stays from told before old new logs shut read o = record {
    plain = read.plain ∙ o.plain;
    even = o.even;
    opens_even = from_stays from told.even Even before.even old.even new.even o.even shut.0 read.even o.opens_even;
    odd = o.odd;
    opens_odd = from_stays from told.odd Odd before.odd old.odd new.odd o.odd shut.1 read.odd o.opens_odd;
    read = o.read;
  }

  -- a file whose header was read is closed
  looked_shut : (disk : Option D) (slot : LogSlot D) (told : ℕ) → Looks is_honest state failures disk slot told → (log : LogFile D) → slot ≡ Open log → ⊥
  looked_shut (Some old) (Closed new) told looks log is = cc
  looked_shut (Some old) (Open l) told looks log is = looks
  looked_shut (Some old) (Failed l) told looks log is = looks
  looked_shut (Some old) Away told looks log is = looks
  looked_shut None slot told looks log is = looks

  none_older : (told : ℕ) (parity : Parity) (slot : LogSlot D) → IsShut 0 told parity slot
  none_older told parity slot older log is = let below = older.1 in absurd (omega (arith, below))

  -- so each file that is passed over is closed
  all_shut : (told : List Told) (old looked before : List (WorkerFiles D)) (from : ℕ) (slots : Slots) → LooksAtFiles is_honest state failures old looked told
      → ComesTo is_honest state failures slots told looked before from → (k : ℕ) (by : Told) (was : WorkerFiles D) → slice_get told k ≡ Some by → slice_get before k ≡ Some was
      → AreShut from by was
  all_shut told old looked before from slots looks (inr all) k by was there at =
      subst (λ (n : ℕ). AreShut n by was) (sym all.0) (none_older by.even Even was.even, none_older by.odd Odd was.odd)
  all_shut told old looked before from slots looks (inl first) k by was there at =
      let within = get_within told k by there in
      let count = looks.count in
      let below : k < length old = omega (arith, within, count) in
      let o = within_place old k below in
      let l = looks.each.each k o.0 was below o.1 (subst (λ (fs : List (WorkerFiles D)). slice_get fs k ≡ Some was) first.0 at) in
      let w = subst (λ (t : Told). LooksAtWorker is_honest state failures o.0 was t) (same_Some l.0 by (sym l.1 ∙ there)) l.2 in
      ((λ older. looked_shut (disk_in o.0.even) was.even by.even w.even), (λ older. looked_shut (disk_in o.0.odd) was.odd by.odd w.odd))

  -- ---- the files of all workers

  all_numbered : (from : ℕ) (told : List Told) (before old new : List (WorkerFiles D)) (logs : List WorkerLogs)
      → ((k : ℕ) (by : Told) (was : WorkerFiles D) → slice_get told k ≡ Some by → slice_get before k ≡ Some was → AreShut from by was)
      → length new ≡ length old → ((k : ℕ) (was is : WorkerFiles D) → slice_get old k ≡ Some was → slice_get new k ≡ Some is → NumberedRead was is)
      → OpensNumberedFiles is_honest state failures from told before old logs → OpensNumberedFiles is_honest state failures from told before new logs
  all_numbered from told before old new logs shut len read o = record {
    count = o.count;
    each = record {
      len = len ∙ o.each.len;
      each = λ k was is below there then.
          let many = o.each.len in
          let mid = within_place old k (omega (arith, below, many)) in
          let one = o.each.each k was mid.0 below there mid.1 in
          (one.0, one.1, (one.2.0, one.2.1, worker_stays from one.2.0 was mid.0 is one.0 (shut k one.2.0 was one.2.1 there) (read k mid.0 is mid.1 then) one.2.2));
    };
  }

  module _ (slots : Slots) where
    reads_numbered : (old mid new : List (WorkerFiles D)) (first : List WorkerLogs) → length new ≡ length mid
        → ((k : ℕ) (was is : WorkerFiles D) → slice_get mid k ≡ Some was → slice_get new k ≡ Some is → NumberedRead was is)
        → ReadsNumbered is_honest state failures slots old mid first → ReadsNumbered is_honest state failures slots old new first
    reads_numbered old mid new first len read r =
        let n = r.counting in
        record {
          told = r.told;
          looked = r.looked;
          looks = r.looks;
          counting = record {
            from = n.from;
            before = n.before;
            comes = n.comes;
            opens = all_numbered n.from r.told n.before mid new first (all_shut r.told old r.looked n.before n.from slots r.looks n.comes) len read n.opens;
            enough = n.enough;
          };
        }

    -- the plain files were opened, and then some logs were read
    plain_files : (between mid new : List (WorkerFiles D)) (logs : List WorkerLogs) → AllAreRead is_honest state failures true mid new
        → OpensPlainFiles is_honest state failures between mid logs → OpensPlainFiles is_honest state failures (with_plain between new) new logs
    plain_files between mid new logs read o = record {
      len = read.len ∙ o.len ∙ sym (with_plain_len between new (read.len ∙ o.len));
      each = λ k was is below there then.
          let b = with_plain_at k between new was there in
          let within = get_within between k b.old b.there in
          let len = o.len in
          let m = within_place mid k (omega (arith, within, len)) in
          let one = o.each k b.old m.0 within b.there m.1 in
          let r = read.each k m.0 is (get_within mid k m.0 m.1) m.1 then in
          let same : b.new ≡ is = same_Some b.new is (sym b.then ∙ then) in (
            one.0,
            one.1,
            subst (λ (w : WorkerFiles D). OpensPlain is_honest state failures (disk_in w.plain) is.plain one.0.plain × KeepsNumbered is_honest state failures w is)
                (sym (b.is ∙ ap (λ (n : WorkerFiles D). record n { plain = b.old.plain }) same))
                (plain_stays (disk_in b.old.plain) m.0.plain is.plain one.0.plain r.plain one.2.0, (refl, refl)),
          );
    }

    -- what was read is read of the files as they are now
    still_read : (old between mid new : List (WorkerFiles D)) (first logs : List WorkerLogs) → AllAreRead is_honest state failures true mid new
        → (¬ NeedPlain (map standing_of first) slots → PlainStay mid new) → ReadsNumbered is_honest state failures slots old between first → ReadsPlain is_honest state failures slots between mid first logs
        → (then : List (WorkerFiles D)) × ReadsNumbered is_honest state failures slots old then first × ReadsPlain is_honest state failures slots then new first logs
    still_read old between mid new first logs read plain numbered (inl opened) = (
      with_plain between new,
      reads_numbered old between (with_plain between new) first (with_plain_len between new (read.len ∙ opened.1.len))
          (λ k was is there then.
          let b = with_plain_at k between new is then in
          let within = get_within between k was there in
          let len = opened.1.len in
          let m = within_place mid k (omega (arith, within, len)) in
          let kept = (opened.1.each k was m.0 within there m.1).2.1 in
          let r = read.each k m.0 b.new (get_within mid k m.0 m.1) m.1 b.then in
          let same : b.old ≡ was = same_Some b.old was (sym b.there ∙ there) in
          subst (NumberedRead was) (sym b.is) (record {
            plain = ap (λ (w : WorkerFiles D). w.plain) same;
            even = subst (λ (s : LogSlot D). SlotIsRead is_honest state failures true s b.new.even) kept.0 r.even;
            odd = subst (λ (s : LogSlot D). SlotIsRead is_honest state failures true s b.new.odd) kept.1 r.odd;
          })) numbered,
      inl (opened.0, plain_files between mid new logs read opened.1, opened.2),
    )
    still_read old between mid new first logs read plain numbered (inr unread) = (
      new,
      reads_numbered old between new first (read.len ∙ ap length unread.1)
          (λ k was is there then.
          let m = subst (λ (fs : List (WorkerFiles D)). slice_get fs k ≡ Some was) (sym unread.1) there in
          let within = get_within mid k was m in
          let r = read.each k was is within m then in
          record { plain = (plain unread.0).each k was is within m then; even = r.even; odd = r.odd }) numbered,
      inr (unread.0, refl, unread.2),
    )

    pub opened_again : (old mid new : List (WorkerFiles D)) (chains : Chains) → AllAreRead is_honest state failures true mid new → (0 < chains.generation → PlainStay mid new)
        → OpensChains is_honest state failures slots old mid chains → OpensChains is_honest state failures slots old new chains
    opened_again old mid new chains read plain o =
        let r = o.reads in
        let s = still_read old r.between mid new r.first r.logs read (λ none. plain (o.numbered none)) r.numbered r.plain in
        record {
          reads = record { between = s.0; first = r.first; numbered = s.1; logs = r.logs; plain = s.2 };
          numbered = o.numbered;
          begun = o.begun;
          chosen = o.chosen;
        }
