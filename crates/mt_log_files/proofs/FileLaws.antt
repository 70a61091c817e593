-- What each call makes of a numbered file: it leaves what a crash might leave before, or what it says.
use Rattle.std.proofs.Common.{◌≡◌, ◌≢◌, ⊎_elim, inl, inr, ℕ, zero, suc, ◌<◌, ◌≤◌, [], ◌∷◌, ◌++◌, length, Bool, IsTrue, Option, Some, None, refl, sym, ◌∙◌, ap, subst, arith, append_assoc, length-append}
use Rattle.std.proofs.lemmas.Option.{same_Some}
use Rattle.std.specs.{Prelude.slice_index_or, List.{slice_get, flat_map}, Option.option_map}
use Rattle.mt_rows.specs.{Rows.Bytes, declared.refusal.Refusal.Refusal}
use Rattle.mt_disk.{specs.Disk.{DiskState, IsDurable, LeavesOnly}, proofs.CrashLaws.started}
use Rattle.mt_gates.{specs.Gates.{IsClosed, IsLeftOf, HasOpen, IsSyncedOrSame}, proofs.Crash.{by_first, counts, tried_sync}}
use Rattle.mt_log_generations.specs.{declared.header.{Header.Header, Parity.Parity, Parity.TheVariants.{Even, Odd}}, Headers.{header_with, begun_text, parity_of, IsHeader, IsLog}}
use Rattle.mt_log.specs.{declared.batch.Front.Front, declared.batch.LogBatch.LogBatch, declared.batch.LogBatch.TheVariants.Resume}
use Rattle.mt_log.specs.declared.log_file.LogFile.{LogFile}
use Rattle.mt_log.specs.{Format.{beginning, body, open_batch, batch_bytes}, Contents.{Contents, AreNumbers, IsContents, IsLogBatch, log_bytes, with_batch, contents_of}}
use Rattle.mt_log.specs.{Fronts.{HasFront, IsOfKind, IsBadLog, IsLeft}, Numbered.{begun_log, text_of, StillLeavesText, StillLeavesNumbered}}
use Rattle.mt_log.proofs.{FrontLaws.{front_not_bad, one_front, contents_more, only_synced}, NumberedLaws.{opens, left_opens, left_whole, begun_contents, begun_is_text, rest_left, text_some}}
use Rattle.mt_crashes.specs.Stores.{at_rest}
use Rattle.mt_recover.specs.{declared.resuming.LogSlot.LogSlot, declared.resuming.LogSlot.TheVariants.{Open, Failed, Closed, Away}}
use Rattle.mt_log_files.specs.Slots.{disk_in, OpensNumbered, FailsOnNumbered, FailsToOpenNumbered, Begins, NotBegun, FindsNotSpare, GivesUp, NotGivenUp}
use Rattle.mt_log_files.specs.{Shows.{ShowsClosed, IsHonest}, Files.{FileNow, Spare, Has, MayHave, MayLeaveFile, found_as, LeavesText, IsNumbered, ShowsFile, TellsLog}}
use Rattle.mt_log_files.specs.Looks.{TellsGeneration, LooksAt, Looks, FailsToLook}
use Rattle.mt_log_files.proofs.ShowLaws.{reads, not_bad, open_shows, failed_shows}
use Rattle.mt_log.specs.declared.reader.FileKind.TheVariants as kinds
use Rattle.mt_rows.specs.declared.refusal.Refusal.TheVariants as refusals

-- ---- logs

-- a log with one batch more is another
longer : (c : Contents) (b : LogBatch) → c ≡ with_batch b c → ⊥
longer c b same = omega (arith, ap (λ (d : Contents). length d.batches) same, length-append c.batches (b ∷ []))

abbrev nothing : LogBatch
nothing = Resume 0 0 0

is_batch : (version : ℕ) → IsLogBatch version nothing
is_batch version = record { first = omega arith; last = omega arith; past = omega arith }

-- a log that may stand in a file of this parity
abbrev header_in : Parity → Header
header_in Even = header_with 0 1 2 0
header_in Odd = header_with 0 1 1 0

header_is : (parity : Parity) → IsHeader (header_in parity) × (parity_of (header_in parity).generation ≡ parity)
header_is Even = (record { worker = omega arith; logs = omega arith; numbered = omega arith; generation = omega arith; start = omega arith }, refl)
header_is Odd = (record { worker = omega arith; logs = omega arith; numbered = omega arith; generation = omega arith; start = omega arith }, refl)

some_log : (parity : Parity) → (c : Contents) × IsNumbered parity c
some_log parity =
    let h = header_is parity in
    (begun_log (header_in parity), (begun_contents (header_in parity) h.0, (h.0.numbered, h.1)))

-- the header of a log, which stands at its front
abbrev header_of : Contents → Header
header_of c = header_with c.worker c.logs c.generation c.start

log_of : (c : Contents) (x image : Bytes) → IsContents c → 1 ≤ c.generation → image ≡ log_bytes c ++ x → IsLog (header_of c) image
log_of c x image is some whole = by c.generation some is.numbers whole
  where
    by : (g : ℕ) → 1 ≤ g → AreNumbers c.version g c.start → image ≡ (beginning c.version c.worker c.logs g c.start ++ flat_map batch_bytes c.batches) ++ x
        → IsLog (header_with c.worker c.logs g c.start) image
    by zero over numbers e = absurd (omega (arith, over))
    by (suc before) over numbers e = record {
      header = record { worker = is.worker; logs = is.logs; numbered = omega arith; generation = numbers.1; start = numbers.2 };
      behind = flat_map batch_bytes c.batches ++ x;
      whole = e ∙ append_assoc (beginning c.version c.worker c.logs (suc before) c.start) (flat_map batch_bytes c.batches) x;
    }

module _ {D : Type 0} (is_honest : D → Bool) (state : D → DiskState) (failures : D → ℕ) where
  -- ---- a file by its disk

  -- what the disk of a file shows, as if it was closed
  abbrev ShowsDisk : Parity → FileNow → D → Type 0
  ShowsDisk parity Spare disk = (c : Contents) → IsContents c → LeavesText state c disk
  ShowsDisk parity (Has now) disk = (IsContents now.had × ShowsClosed state now.had now.doubt disk) × IsOfKind (kinds.Numbered parity) now.had.generation
  ShowsDisk parity (MayHave c) disk = IsNumbered parity c × LeavesText state c disk

  -- what is left of a text now
  text_now : (c : Contents) (disk : D) → LeavesText state c disk → IsLeftOf (text_of c) (state disk).image
  text_now c disk l = l.leaves.now (state disk).image l.leaves.reads

  -- a log whose append may have failed begins with an open gate
  has_open : (had : Contents) (doubt : Option LogBatch) (disk : D) → 1 ≤ had.generation → ShowsClosed state had doubt disk → slice_get (state disk).image 0 ≡ Some 1
  has_open had None disk some shows =
      let l = shows nothing (is_batch had.version) in
      left_opens had nothing (state disk).image some (l.leaves.now (state disk).image l.leaves.reads)
  has_open had (Some b) disk some shows = left_opens had b (state disk).image some (shows.1.leaves.now (state disk).image shows.1.leaves.reads)

  -- ---- an opening

  -- a front that was read of a spare file: there is none
  spare_front : (f : Contents) (disk : D) → 1 ≤ f.generation → HasFront f (state disk).image → ((c : Contents) → IsContents c → LeavesText state c disk) → ⊥
  spare_front f disk some front spare =
      let d = with_batch nothing f in
      let is_d : IsContents d = contents_more f nothing front.contents (is_batch f.version) in
      ⊎_elim
      (λ none. none (opens f (front.gate ∷ front.behind) (state disk).image some front.whole))
      (λ other. longer f nothing (one_front f d (state disk).image front other))
      (left_whole d (state disk).image is_d some (text_now d disk (spare d is_d)))

  -- of one that may have a log: that log
  front_of_text : (c f : Contents) (disk : D) → IsContents c → 1 ≤ c.generation → 1 ≤ f.generation → HasFront f (state disk).image → LeavesText state c disk → f ≡ c
  front_of_text c f disk is some some_f front l =
      ⊎_elim
      (λ none. absurd (none (opens f (front.gate ∷ front.behind) (state disk).image some_f front.whole)))
      (λ other. one_front f c (state disk).image front other)
      (left_whole c (state disk).image is some (text_now c disk l))

  -- a closed file that is durable is spare
  closed_spare : (disk : D) → IsDurable (state disk) → IsClosed (state disk).image → (c : Contents) → IsContents c → LeavesText state c disk
  closed_spare disk durable closed c is = record { first = state disk; leaves = started (IsLeftOf (text_of c)) (state disk) durable (inl closed) }

  -- nothing is left of an empty file
  left_some : (text image : Bytes) → IsLeftOf text image → image ≡ [] → ⊥
  left_some text image (inl closed) none = omega (arith, ap length (sym none ∙ closed.whole))
  left_some text image (inr gated) none = omega (arith, ap length (sym none ∙ gated.whole))

  moved : (c : Contents) (old new : D) → IsTrue (is_honest old) → IsContents c → StillLeavesText is_honest state failures old new → LeavesText state c old → LeavesText state c new
  moved c old new honest is text l = record { first = l.first; leaves = text honest c l.first is l.leaves }

  abbrev IsFoundIn : Parity → FileNow → Option Front → LogSlot D → Type 0
  IsFoundIn parity file found new =
      MayLeaveFile file (option_map contents_of found) × IsHonest is_honest new × ShowsFile state parity (found_as (option_map contents_of found)) new

  found_log : (parity : Parity) (file : FileNow) (old : D) (log : LogFile D) (front : Front) → IsTrue (is_honest old) → ShowsDisk parity file old
      → OpensNumbered is_honest state failures parity (Some old) (Open log) (Some front) → IsFoundIn parity file (Some front) (Open log)
  found_log parity Spare old log front honest shows o = absurd (spare_front (contents_of front) old o.0.of_kind.0 (o.0.read honest) shows)
  found_log parity (Has now) old log front honest shows o = (
    (contents_of front, reads is_honest state now.had now.doubt old (contents_of front) honest shows.0.0 shows.0.1 o.0.reads, refl),
    subst IsTrue (sym o.0.honest) honest,
    ((refl, o.0.has honest), o.0.of_kind),
  )
  found_log parity (MayHave c) old log front honest shows o = (
    inr (ap Some (front_of_text c (contents_of front) old shows.0.0 shows.0.1.0 o.0.of_kind.0 (o.0.read honest) shows.1)),
    subst IsTrue (sym o.0.honest) honest,
    ((refl, o.0.has honest), o.0.of_kind),
  )

  found_none : (parity : Parity) (file : FileNow) (old new : D) → IsTrue (is_honest old) → ShowsDisk parity file old
      → OpensNumbered is_honest state failures parity (Some old) (Closed new) None → IsFoundIn parity file None (Closed new)
  found_none parity Spare old new honest shows o =
      (refl, subst IsTrue (sym o.0.honest) honest, (λ c is. moved c old new honest is o.1 (shows c is)))
  found_none parity (Has now) old new honest shows o = absurd (o.0.none honest (has_open now.had now.doubt old shows.1.0 shows.0.1))
  found_none parity (MayHave c) old new honest shows o =
      let l = moved c old new honest shows.0.0 o.1 shows.1 in
      let closed : IsClosed (state new).image = ⊎_elim (λ none. absurd (left_some (text_of c) (state new).image (text_now c new l) none)) (λ closed. closed) (o.0.closed honest) in
      (inl refl, subst IsTrue (sym o.0.honest) honest, closed_spare new (o.0.durable honest) closed)

  opened_disk : (parity : Parity) (file : FileNow) (old : D) (new : LogSlot D) (found : Option Front) → IsTrue (is_honest old) → ShowsDisk parity file old
      → OpensNumbered is_honest state failures parity (Some old) new found → IsFoundIn parity file found new
  opened_disk parity file old (Open log) (Some front) honest shows o = found_log parity file old log front honest shows o
  opened_disk parity file old (Closed new) None honest shows o = found_none parity file old new honest shows o
  opened_disk parity file old (Open log) None honest shows o = absurd o
  opened_disk parity file old (Closed new) (Some front) honest shows o = absurd o
  opened_disk parity file old (Failed log) found honest shows o = absurd o
  opened_disk parity file old Away found honest shows o = absurd o

  -- the disk of a place shows what the place does
  abbrev OnDisk : (D → Type 0) → Option D → Type 0
  OnDisk P None = ⊥
  OnDisk P (Some disk) = IsTrue (is_honest disk) × P disk

  on_disk : (parity : Parity) (file : FileNow) (slot : LogSlot D) → IsHonest is_honest slot → ShowsFile state parity file slot → OnDisk (ShowsDisk parity file) (disk_in slot)
  on_disk parity Spare (Open log) honest shows = absurd shows
  on_disk parity Spare (Failed log) honest shows = absurd shows
  on_disk parity Spare (Closed disk) honest shows = (honest, shows)
  on_disk parity Spare Away honest shows = absurd shows
  on_disk parity (Has now) (Open log) honest shows = (honest, (open_shows is_honest state now log shows.0, shows.1))
  on_disk parity (Has now) (Failed log) honest shows = (honest, (failed_shows is_honest state now log shows.0, shows.1))
  on_disk parity (Has now) (Closed disk) honest shows = (honest, shows)
  on_disk parity (Has now) Away honest shows = absurd honest
  on_disk parity (MayHave c) (Open log) honest shows = absurd shows
  on_disk parity (MayHave c) (Failed log) honest shows = absurd shows
  on_disk parity (MayHave c) (Closed disk) honest shows = (honest, shows)
  on_disk parity (MayHave c) Away honest shows = absurd shows

  opened_at : (parity : Parity) (file : FileNow) (old : Option D) (new : LogSlot D) (found : Option Front) → OnDisk (ShowsDisk parity file) old
      → OpensNumbered is_honest state failures parity old new found → IsFoundIn parity file found new
  opened_at parity file (Some old) new found on o = opened_disk parity file old new found on.0 on.1 o
  opened_at parity file None new found on o = absurd on

  pub opened : (parity : Parity) (file : FileNow) (old new : LogSlot D) (found : Option Front) → IsHonest is_honest old → ShowsFile state parity file old
      → OpensNumbered is_honest state failures parity (disk_in old) new found → IsFoundIn parity file found new
  opened parity file old new found honest shows o = opened_at parity file (disk_in old) new found (on_disk parity file old honest shows) o

  -- ---- an opening that fails

  bad_text : (parity : Parity) (c : Contents) (disk : D) (number offset : ℕ) → IsNumbered parity c → LeavesText state c disk → slice_get (state disk).image 0 ≡ Some 1
      → IsBadLog (kinds.Numbered parity) (state disk).image number offset → ⊥
  bad_text parity c disk number offset is l open_gate bad =
      ⊎_elim
      (λ none. none open_gate)
      (λ front. front_not_bad (kinds.Numbered parity) c (state disk).image number offset is.1 front bad)
      (left_whole c (state disk).image is.0 is.1.0 (text_now c disk l))

  never_bad : (parity : Parity) (file : FileNow) (disk : D) (number offset : ℕ) → ShowsDisk parity file disk → slice_get (state disk).image 0 ≡ Some 1
      → IsBadLog (kinds.Numbered parity) (state disk).image number offset → ⊥
  never_bad parity Spare disk number offset shows open_gate bad =
      let c = some_log parity in
      bad_text parity c.0 disk number offset c.1 (shows c.0 c.1.0) open_gate bad
  never_bad parity (Has now) disk number offset shows open_gate bad =
      not_bad is_honest state (kinds.Numbered parity) now.had now.doubt disk number offset shows.1 shows.0.0 shows.0.1 bad
  never_bad parity (MayHave c) disk number offset shows open_gate bad = bad_text parity c disk number offset shows.0 shows.1 open_gate bad

  still_either : (had : Contents) (doubt : Option LogBatch) (old new : D) → IsTrue (is_honest old) → 1 ≤ had.generation → IsContents had → ShowsClosed state had doubt old
      → StillLeavesNumbered is_honest state failures old new → ShowsClosed state had doubt new
  still_either had None old new honest some is shows leaves = λ b batch.
      let l = shows b batch in
      record { first = l.first; leaves = leaves honest had b l.first some (contents_more had b is batch) l.leaves }
  still_either had (Some b) old new honest some is shows leaves =
      let l = shows.1 in
      (shows.0, record { first = l.first; leaves = leaves honest had b l.first some (contents_more had b is shows.0) l.leaves })

  stays : (parity : Parity) (file : FileNow) (old new : D) → IsTrue (is_honest old) → ShowsDisk parity file old → StillLeavesNumbered is_honest state failures old new
      → StillLeavesText is_honest state failures old new → ShowsFile state parity file (Closed new)
  stays parity Spare old new honest shows leaves text = λ c is. moved c old new honest is text (shows c is)
  stays parity (Has now) old new honest shows leaves text =
      ((shows.0.0, still_either now.had now.doubt old new honest shows.1.0 shows.0.0 shows.0.1 leaves), shows.1)
  stays parity (MayHave c) old new honest shows leaves text = (shows.0, moved c old new honest shows.0.0 text shows.1)

  abbrev IsNotFound : Parity → FileNow → Refusal → LogSlot D → Type 0
  IsNotFound parity file e new = IsHonest is_honest new × ShowsFile state parity file new × ((number offset : ℕ) → e ≢ refusals.BadLog number offset)

  failed_disk : (parity : Parity) (file : FileNow) (e : Refusal) (old new : D) → IsTrue (is_honest old) → ShowsDisk parity file old
      → FailsOnNumbered is_honest state failures parity e old new → StillLeavesText is_honest state failures old new → IsNotFound parity file e (Closed new)
  failed_disk parity file refusals.Device old new honest shows f text =
      (subst IsTrue (sym f.2) honest, stays parity file old new honest shows f.0 text, (λ number offset bad. absurd cc))
  failed_disk parity file refusals.Memory old new honest shows f text =
      (subst IsTrue (sym f.2) honest, stays parity file old new honest shows f.0 text, (λ number offset bad. absurd cc))
  failed_disk parity file (refusals.BadLog number offset) old new honest shows f text =
      absurd (never_bad parity file old number offset shows (f.1 honest) (f.0.bad honest))
  failed_disk parity file refusals.KeyLong old new honest shows f text = absurd f
  failed_disk parity file refusals.TenantThere old new honest shows f text = absurd f
  failed_disk parity file (refusals.NoTenant t) old new honest shows f text = absurd f
  failed_disk parity file refusals.Column old new honest shows f text = absurd f
  failed_disk parity file refusals.ColumnLong old new honest shows f text = absurd f
  failed_disk parity file refusals.Quota old new honest shows f text = absurd f
  failed_disk parity file refusals.ScanCount old new honest shows f text = absurd f
  failed_disk parity file refusals.Spent old new honest shows f text = absurd f
  failed_disk parity file (refusals.WrongTurn m) old new honest shows f text = absurd f
  failed_disk parity file (refusals.StampsFall n x) old new honest shows f text = absurd f
  failed_disk parity file (refusals.OverQuota t) old new honest shows f text = absurd f
  failed_disk parity file refusals.LogCount old new honest shows f text = absurd f
  failed_disk parity file refusals.BadFrame old new honest shows f text = absurd f
  failed_disk parity file refusals.NotOpen old new honest shows f text = absurd f
  failed_disk parity file refusals.OpenTwice old new honest shows f text = absurd f
  failed_disk parity file refusals.NoRoom old new honest shows f text = absurd f
  failed_disk parity file refusals.NoStore old new honest shows f text = absurd f

  failed_at : (parity : Parity) (file : FileNow) (e : Refusal) (old : Option D) (new : LogSlot D) → OnDisk (ShowsDisk parity file) old
      → FailsToOpenNumbered is_honest state failures parity e old new → IsNotFound parity file e new
  failed_at parity file e (Some old) (Closed new) on f = failed_disk parity file e old new on.0 on.1 f.0 f.1
  failed_at parity file e (Some old) (Open log) on f = absurd f
  failed_at parity file e (Some old) (Failed log) on f = absurd f
  failed_at parity file e (Some old) Away on f = absurd f
  failed_at parity file e None new on f = absurd on

  pub fails_to_open : (parity : Parity) (file : FileNow) (e : Refusal) (old new : LogSlot D) → IsHonest is_honest old → ShowsFile state parity file old
      → FailsToOpenNumbered is_honest state failures parity e (disk_in old) new → IsNotFound parity file e new
  fails_to_open parity file e old new honest shows f = failed_at parity file e (disk_in old) new (on_disk parity file old honest shows) f

  -- ---- a log that is begun

  begun_at : (parity : Parity) (h : Header) (old : Option D) (new : LogSlot D) → IsHeader h → parity_of h.generation ≡ parity → OnDisk (ShowsDisk parity Spare) old
      → Begins is_honest state failures h old new → IsHonest is_honest new × ShowsFile state parity (Has (at_rest (begun_log h))) new
  begun_at parity h (Some old) (Open log) is same on b = (subst IsTrue (sym b.honest) on.0, ((refl, b.has on.0), (is.numbered, same)))
  begun_at parity h (Some old) (Closed new) is same on b = absurd b
  begun_at parity h (Some old) (Failed log) is same on b = absurd b
  begun_at parity h (Some old) Away is same on b = absurd b
  begun_at parity h None new is same on b = absurd on

  pub begun : (parity : Parity) (h : Header) (old new : LogSlot D) → IsHeader h → parity_of h.generation ≡ parity → IsHonest is_honest old
      → ShowsFile state parity Spare old → Begins is_honest state failures h (disk_in old) new → IsHonest is_honest new × ShowsFile state parity (Has (at_rest (begun_log h))) new
  begun parity h old new is same honest shows b = begun_at parity h (disk_in old) new is same (on_disk parity Spare old honest shows) b

  not_begun_at : (parity : Parity) (h : Header) (old : Option D) (new : LogSlot D) → IsHeader h → parity_of h.generation ≡ parity → OnDisk (ShowsDisk parity Spare) old
      → NotBegun is_honest state failures h old new → IsHonest is_honest new × ShowsFile state parity (MayHave (begun_log h)) new
  not_begun_at parity h (Some old) (Closed new) is same on b =
      let c = begun_log h in
      let l = on.1 c (begun_contents h is) in
      let text = begun_is_text h is in (
        subst IsTrue (sym b.honest) on.0,
        (
          (begun_contents h is, (is.numbered, same)),
          record {
            first = l.first;
            leaves = subst (λ (t : Bytes). LeavesOnly (IsLeftOf t) l.first (state new)) (sym text)
                (b.leaves.leaves on.0 l.first (subst (λ (t : Bytes). LeavesOnly (IsLeftOf t) l.first (state old)) text l.leaves));
          },
        ),
      )
  not_begun_at parity h (Some old) (Open log) is same on b = absurd b
  not_begun_at parity h (Some old) (Failed log) is same on b = absurd b
  not_begun_at parity h (Some old) Away is same on b = absurd b
  not_begun_at parity h None new is same on b = absurd on

  pub not_begun : (parity : Parity) (h : Header) (old new : LogSlot D) → IsHeader h → parity_of h.generation ≡ parity → IsHonest is_honest old
      → ShowsFile state parity Spare old → NotBegun is_honest state failures h (disk_in old) new → IsHonest is_honest new × ShowsFile state parity (MayHave (begun_log h)) new
  not_begun parity h old new is same honest shows b = not_begun_at parity h (disk_in old) new is same (on_disk parity Spare old honest shows) b

  -- a spare file has a closed gate: no two logs stand after one gate
  spare_shut : (disk : D) → ((c : Contents) → IsContents c → LeavesText state c disk) → IsClosed (state disk).image
  spare_shut disk spare = one_of (left 1 (omega arith, omega arith)) (left 2 (omega arith, omega arith))
    where
      left : (logs : ℕ) → (0 < logs) × (logs ≤ 64) → IsLeftOf (begun_text (header_with 0 logs 1 0)) (state disk).image
      left logs few =
          let h = header_with 0 logs 1 0 in
          let is : IsHeader h = record { worker = few.0; logs = few.1; numbered = omega arith; generation = omega arith; start = omega arith } in
          subst (λ (t : Bytes). IsLeftOf t (state disk).image) (begun_is_text h is) (text_now (begun_log h) disk (spare (begun_log h) (begun_contents h is)))

      one_of : IsLeftOf (begun_text (header_with 0 1 1 0)) (state disk).image → IsLeftOf (begun_text (header_with 0 2 1 0)) (state disk).image → IsClosed (state disk).image
      one_of (inl closed) other = closed
      one_of (inr gated) (inl closed) = closed
      one_of (inr gated) (inr other) = absurd (omega (arith, ap (λ (l : Bytes). slice_index_or l 8 0) (sym gated.whole ∙ other.whole)))

  never_refused_at : (parity : Parity) (old : Option D) (new : LogSlot D) → OnDisk (ShowsDisk parity Spare) old → FindsNotSpare is_honest state failures old new → ⊥
  never_refused_at parity (Some old) (Closed new) on f = f.gate on.0 (ap (λ (l : Bytes). slice_get l 0) (spare_shut old on.1).whole)
  never_refused_at parity (Some old) (Open log) on f = absurd f
  never_refused_at parity (Some old) (Failed log) on f = absurd f
  never_refused_at parity (Some old) Away on f = absurd f
  never_refused_at parity None new on f = absurd on

  pub never_refused : (parity : Parity) (old new : LogSlot D) → IsHonest is_honest old → ShowsFile state parity Spare old → FindsNotSpare is_honest state failures (disk_in old) new → ⊥
  never_refused parity old new honest shows f = never_refused_at parity (disk_in old) new (on_disk parity Spare old honest shows) f

  -- ---- a file that is given up

  given_up_at : (parity : Parity) (old : Option D) (new : LogSlot D) → OnDisk (λ disk. IsTrue (is_honest disk)) old → GivesUp is_honest state failures old new
      → IsHonest is_honest new × ShowsFile state parity Spare new
  given_up_at parity (Some old) (Closed new) on g =
      let gone = g.gone on.0 in
      (subst IsTrue (sym g.honest) on.0, closed_spare new gone.durable (record { behind = []; whole = gone.image }))
  given_up_at parity (Some old) (Open log) on g = absurd g
  given_up_at parity (Some old) (Failed log) on g = absurd g
  given_up_at parity (Some old) Away on g = absurd g
  given_up_at parity None new on g = absurd on

  honest_disk : (slot : LogSlot D) → IsHonest is_honest slot → OnDisk (λ disk. IsTrue (is_honest disk)) (disk_in slot)
  honest_disk (Open log) honest = (honest, honest)
  honest_disk (Failed log) honest = (honest, honest)
  honest_disk (Closed disk) honest = (honest, honest)
  honest_disk Away honest = absurd honest

  pub given_up : (parity : Parity) (old new : LogSlot D) → IsHonest is_honest old → GivesUp is_honest state failures (disk_in old) new
      → IsHonest is_honest new × ShowsFile state parity Spare new
  given_up parity old new honest g = given_up_at parity (disk_in old) new (honest_disk old honest) g

  left_text : (parity : Parity) (c : Contents) (old : D) (new : LogSlot D) → IsTrue (is_honest old) → IsNumbered parity c → LeavesText state c old
      → NotGivenUp is_honest state failures (Some old) new → IsHonest is_honest new × ShowsFile state parity (MayHave c) new
  left_text parity c old (Closed new) honest is l g =
      (subst IsTrue (sym g.honest) honest, (is, record { first = l.first; leaves = g.leaves honest (text_of c) l.first (text_some c) l.leaves }))
  left_text parity c old (Open log) honest is l g = absurd g
  left_text parity c old (Failed log) honest is l g = absurd g
  left_text parity c old Away honest is l g = absurd g

  pub not_given_up : (parity : Parity) (c : Contents) (log : LogFile D) (new : LogSlot D) → IsHonest is_honest (Open log)
      → ShowsFile state parity (Has (at_rest c)) (Open log) → NotGivenUp is_honest state failures (Some log.disk) new → IsHonest is_honest new × ShowsFile state parity (MayHave c) new
  not_given_up parity c log new honest shows g =
      let has = shows.0.1 in
      left_text parity c log.disk new honest (has.contents, shows.1) (record { first = state log.disk; leaves = rest_left c log.end (state log.disk) has.rest }) g

  pub not_given_up_again : (parity : Parity) (c : Contents) (disk : D) (new : LogSlot D) → IsHonest is_honest (Closed disk)
      → ShowsFile state parity (MayHave c) (Closed disk) → NotGivenUp is_honest state failures (Some disk) new → IsHonest is_honest new × ShowsFile state parity (MayHave c) new
  not_given_up_again parity c disk new honest shows g = left_text parity c disk new honest shows.0 shows.1 g

  -- ---- a header that was read

  -- it moved by a sync at most
  still_numbered : (old new : D) → (IsTrue (is_honest old) → IsSyncedOrSame (state old) (state new)) → StillLeavesNumbered is_honest state failures old new
  still_numbered old new moves honest c b first some is leaves = only_synced c b first (state old) (state new) leaves (moves honest)

  still_text : (old new : D) → (IsTrue (is_honest old) → IsSyncedOrSame (state old) (state new)) → StillLeavesText is_honest state failures old new
  still_text old new moves honest c first is leaves = tried_sync (text_of c) first (state old) (state new) leaves (moves honest)

  only_looked : (parity : Parity) (file : FileNow) (old new : D) → IsTrue (is_honest old) → ShowsDisk parity file old → (IsTrue (is_honest old) → IsSyncedOrSame (state old) (state new))
      → is_honest new ≡ is_honest old → IsHonest is_honest (Closed new) × ShowsFile state parity file (Closed new)
  only_looked parity file old new honest shows moves kept =
      (subst IsTrue (sym kept) honest, stays parity file old new honest shows (still_numbered old new moves) (still_text old new moves))

  -- the generation of a log that stands whole at the front is told
  told_of : (c : Contents) (x : Bytes) (disk : D) (told : ℕ) → IsContents c → 1 ≤ c.generation → (state disk).image ≡ log_bytes c ++ x
      → TellsGeneration told (state disk).image → c.generation ≡ told
  told_of c x disk told is some whole tells = tells.of (header_of c) (log_of c x (state disk).image is some whole)

  told_left : (had : Contents) (b : LogBatch) (disk : D) (told : ℕ) → IsContents had → 1 ≤ had.generation → IsLeft had b (state disk).image
      → TellsGeneration told (state disk).image → had.generation ≡ told
  told_left had b disk told is some (inl torn) tells = told_of had (torn.gate ∷ torn.behind) disk told is some torn.whole tells
  told_left had b disk told is some (inr shut) tells =
      told_of had (open_batch (body b) ++ (0 ∷ shut.behind)) disk told is some
      (shut.whole ∙ append_assoc (log_bytes had) (open_batch (body b)) (0 ∷ shut.behind)) tells

  told_has : (had : Contents) (doubt : Option LogBatch) (disk : D) (told : ℕ) → IsContents had → 1 ≤ had.generation → ShowsClosed state had doubt disk
      → TellsGeneration told (state disk).image → had.generation ≡ told
  told_has had None disk told is some shows tells =
      let l = shows nothing (is_batch had.version) in
      told_left had nothing disk told is some (l.leaves.now (state disk).image l.leaves.reads) tells
  told_has had (Some b) disk told is some shows tells = told_left had b disk told is some (shows.1.leaves.now (state disk).image shows.1.leaves.reads) tells

  -- a log that may be there is there, if it is told, and rests
  whole_text : (c : Contents) (image : Bytes) → 1 ≤ c.generation → IsLeftOf (text_of c) image → slice_get image 0 ≡ Some 1
      → (behind : Bytes) × (image ≡ log_bytes c ++ (0 ∷ behind))
  whole_text c image some left opened = ⊎_elim
      (λ none. absurd (none opened))
      (λ (open_text : HasOpen (text_of c) image). (
      let begins = by_first (log_bytes c ++ 0 ∷ []) 1 (opens c (0 ∷ []) (log_bytes c ++ 0 ∷ []) some refl) in (
        open_text.behind,
        open_text.whole ∙ ap (λ (l : Bytes). l ++ open_text.behind) (sym begins) ∙ append_assoc (log_bytes c) (0 ∷ []) open_text.behind,
      )
      ))
      (counts (text_of c) image left)

  rests_closed : (c : Contents) (behind : Bytes) (disk : D) → IsDurable (state disk) → (state disk).image ≡ log_bytes c ++ (0 ∷ behind) → ShowsClosed state c None disk
  rests_closed c behind disk durable whole b batch = record {
    first = state disk;
    leaves =
        started (IsLeft c b) (state disk) durable
        (inl (record { gate = 0; behind = behind; is_shut = λ e. omega (arith, e); whole = whole; torn = λ open_gate. absurd (open_gate refl) }));
  }

  tells_disk : (parity : Parity) (file : FileNow) (old new : D) (told : ℕ) → IsTrue (is_honest old) → ShowsDisk parity file old → LooksAt is_honest state failures old new told
      → ShowsFile state parity file (Closed new) → 0 < told → TellsLog state parity file told (Closed new)
  tells_disk parity Spare old new told honest shows looks now some =
      let log = (looks.tells honest).log some in
      absurd (omega (arith, same_Some 1 0 (sym (ap (λ (l : Bytes). slice_get l 0) log.1.whole) ∙ ap (λ (l : Bytes). slice_get l 0) (spare_shut old shows).whole)))
  tells_disk parity (Has n) old new told honest shows looks now some = record {
    log = n.had;
    left = (n.had, inl refl, refl);
    of = told_has n.had n.doubt old told shows.0.0 shows.1.0 shows.0.1 (looks.tells honest);
    rests = λ none. ((now.0.0, subst (λ (d : Option LogBatch). ShowsClosed state n.had d new) none now.0.1), now.1);
  }
  tells_disk parity (MayHave c) old new told honest shows looks now some =
      let log = (looks.tells honest).log some in
      let opened = ap (λ (l : Bytes). slice_get l 0) log.1.whole in
      let text = whole_text c (state old).image shows.0.1.0 (text_now c old shows.1) opened in
      record {
        log = c;
        left = inr refl;
        of = told_of c (0 ∷ text.0) old told shows.0.0 shows.0.1.0 text.1 (looks.tells honest);
        rests = λ none. (
          (
            shows.0.0,
            rests_closed c text.0 new (subst IsDurable (sym (looks.moves honest)) refl) (ap (λ (s : DiskState). s.image) (looks.moves honest) ∙ text.1),
          ),
          shows.0.1,
        );
      }

  abbrev IsLookedAt : Parity → FileNow → ℕ → LogSlot D → Type 0
  IsLookedAt parity file told new = IsHonest is_honest new × ShowsFile state parity file new × (0 < told → TellsLog state parity file told new)

  looked_at : (parity : Parity) (file : FileNow) (old : Option D) (new : LogSlot D) (told : ℕ) → OnDisk (ShowsDisk parity file) old
      → Looks is_honest state failures old new told → IsLookedAt parity file told new
  looked_at parity file (Some old) (Closed new) told on looks =
      let now = only_looked parity file old new on.0 on.1 (λ h. inr (looks.moves h)) looks.honest in
      (now.0, now.1, tells_disk parity file old new told on.0 on.1 looks now.1)
  looked_at parity file (Some old) (Open log) told on looks = absurd looks
  looked_at parity file (Some old) (Failed log) told on looks = absurd looks
  looked_at parity file (Some old) Away told on looks = absurd looks
  looked_at parity file None new told on looks = absurd on

  pub looked : (parity : Parity) (file : FileNow) (old new : LogSlot D) (told : ℕ) → IsHonest is_honest old → ShowsFile state parity file old
      → Looks is_honest state failures (disk_in old) new told → IsLookedAt parity file told new
  looked parity file old new told honest shows looks = looked_at parity file (disk_in old) new told (on_disk parity file old honest shows) looks

  not_looked_at : (parity : Parity) (file : FileNow) (old : Option D) (new : LogSlot D) → OnDisk (ShowsDisk parity file) old → FailsToLook is_honest state failures old new
      → IsHonest is_honest new × ShowsFile state parity file new
  not_looked_at parity file (Some old) (Closed new) on fails = only_looked parity file old new on.0 on.1 fails.moves fails.honest
  not_looked_at parity file (Some old) (Open log) on fails = absurd fails
  not_looked_at parity file (Some old) (Failed log) on fails = absurd fails
  not_looked_at parity file (Some old) Away on fails = absurd fails
  not_looked_at parity file None new on fails = absurd on

  pub not_looked : (parity : Parity) (file : FileNow) (old new : LogSlot D) → IsHonest is_honest old → ShowsFile state parity file old
      → FailsToLook is_honest state failures (disk_in old) new → IsHonest is_honest new × ShowsFile state parity file new
  not_looked parity file old new honest shows fails = not_looked_at parity file (disk_in old) new (on_disk parity file old honest shows) fails
