-- How a checkpoint is written over a desk that is in use, and how it is given up.
use Rattle.std.specs.Prelude.{◌≡◌, ◌⊎◌, ℕ, ◌+◌, max, Bool, false, List, [], ◌++◌, Option, Some, None, Result, Ok, Err, Vec, slice_get}
use Rattle.std.specs.Global.{Global}
use Rattle.mt_rows.specs.{Rows.Bytes, Stamps.Stamped, declared.record.TenantPair.TenantPair, declared.command.Command.Command, declared.reply.Reply.TheVariants.Pairs}
use Rattle.mt_rows.specs.{declared.refusal.Refusal.Refusal, declared.refusal.Refusal.TheVariants.{Memory, Spent}}
use Rattle.mt_disk.specs.Disk.{DiskState}
use Rattle.mt_runs.specs.declared.event.Answer.{Answer}
use Rattle.mt_checkpoint.specs.Writes.{TellsDigest}
use Rattle.mt_pages.specs.{declared.walk.PageWalk.PageWalk, Scans.next_scan, Pages.TakesAt}
use Rattle.mt_slots.specs.{declared.store_slots.StoreSlots.StoreSlots, declared.checkpointing.Checkpointing.Checkpointing, declared.fault.SlotFault.SlotFault}
use Rattle.mt_slots.specs.{Places.{refusal_for, next_slot}, Calls.{Begins, FailsToBeginIn, Adds, FailsToAddIn, Ends, FailsToEndIn, GivesUpIn}}
use Rattle.mt_stored.specs.{declared.checkpoints.CheckpointStop.CheckpointStop, declared.checkpoints.CheckpointStop.TheVariants.{Slot, Scan}}
use Rattle.mt_book.specs.{declared.calls.CallFault.CallFault, Periods.{Looked, Period}, Calls.{Calls, asked_by, answers_of}}
use Rattle.mt_stored.specs.Digests.{FileDigest}
use Rattle.mt_book.specs.declared.calls.CallFault.TheVariants as faults

-- a desk, and the pass by which it is scanned: the last step that it knows of, and the answers that it counts
pub record Scanner (S : Type 0) : Type 0 where
  pub desk : S
  pub seen : ℕ
  pub counted : ℕ

abbrev pub scanner : {S : Type 0} → S → ℕ → ℕ → Scanner S
scanner desk seen counted = record { desk = desk; seen = seen; counted = counted }

-- the last step that a pass knows of after a call
abbrev pub seen_after : ℕ → Result Answer CallFault → ℕ
seen_after seen (Ok answer) = max seen answer.last
seen_after seen (Err fault) = seen

-- a walk that begins at the first key of the first of these tenants
pub record IsAtTheStart (tenants : List ℕ) (walk : PageWalk) : Type 0 where
  pub tenants_are : walk.tenants.items ≡ tenants
  pub place : walk.place ≡ 0
  pub from : walk.from ≡ []
  pub after : walk.after ≡ false

-- a walk that has ended
abbrev pub IsAtTheEnd : PageWalk → Type 0
IsAtTheEnd walk = next_scan walk.tenants.items walk.place walk.from walk.after ≡ None

-- the refusal that tells why a scan showed no page, or why its page wasn't taken
abbrev pub IsCauseOf : Result Answer CallFault → Refusal → Type 0
IsCauseOf (Ok answer) refusal = refusal ≡ Memory
IsCauseOf (Err (faults.Refused cause)) refusal = refusal ≡ cause
IsCauseOf (Err (faults.Spent ticket)) refusal = refusal ≡ Spent

-- the refusal that tells why a checkpoint was not written
abbrev pub refusal_in : CheckpointStop → Refusal
refusal_in (Slot fault) = refusal_for fault.cause
refusal_in (Scan refusal) = refusal

module _ {S : Type 0} (does : S → Period → S → Type 0) (worker : ℕ) where
  -- the desk showed that so many steps were made
  pub record Looks (old : Scanner S) (steps : ℕ) (new : Scanner S) : Type 0 where
    pub logs : ℕ
    pub looked : does old.desk (record { steps = steps; deed = Looked logs }) new.desk
    pub same : new ≡ record old { desk = new.desk }

  -- the walk's next scan was asked of the desk by one call of the worker, and this came of it
  pub record Scans (old : Scanner S) (walk : PageWalk) (told : Result Answer CallFault) (new : Scanner S) : Type 0 where
    pub tenant : ℕ
    pub command : Command
    pub next : next_scan walk.tenants.items walk.place walk.from walk.after ≡ Some (tenant, command)
    pub calls : Calls does old.desk new.desk old.seen (asked_by worker tenant command) told
    pub seen : new.seen ≡ seen_after old.seen told
    pub counted : new.counted ≡ old.counted + answers_of told

  -- it showed a page, whose pairs the walk took
  pub record Shows (old : Scanner S) (walk : PageWalk) (pairs : List TenantPair) (new : Scanner S) (on : PageWalk) : Type 0 where
    pub answer : Answer
    pub page : List (Bytes × Stamped)
    pub scans : Scans old walk (Ok answer) new
    pub shown : answer.reply ≡ Pairs page
    pub takes : TakesAt (slice_get walk.tenants.items walk.place) page walk on pairs

  -- no page is told, for this refusal: memory was refused before the scan, or this came of the scan
  abbrev pub ShowsNone : Scanner S → PageWalk → Refusal → Scanner S → Type 0
  ShowsNone old walk refusal new =
      ((refusal ≡ Memory) × (new ≡ old)) ⊎ ((told : Result Answer CallFault) × Scans old walk told new × IsCauseOf told refusal)

  -- what is told of the next page
  abbrev pub TellsPage : Scanner S → PageWalk → Result (Option (Vec TenantPair Global)) Refusal → Scanner S → PageWalk → Type 0
  TellsPage old walk (Ok (Some pairs)) new on = Shows old walk pairs.items new on
  TellsPage old walk (Ok None) new on = IsAtTheEnd walk × (new ≡ old) × (on ≡ walk)
  TellsPage old walk (Err refusal) new on = ShowsNone old walk refusal new

module _ {S D : Type 0} (does : S → Period → S → Type 0) (worker : ℕ) (is_honest : D → Bool) (state : D → DiskState) (failures : D → ℕ) where
  -- Pages were shown one after the other, and their pairs were added to the checkpoint in that order: these in all.
  pub data AddsPages : Scanner S → PageWalk → Checkpointing D → List TenantPair → Scanner S → PageWalk → Checkpointing D → Type 0 where
    NoPage : {at : Scanner S} {walk : PageWalk} {writing : Checkpointing D} → AddsPages at walk writing [] at walk writing
    OnePage : {old at new : Scanner S} {start walk on : PageWalk} {begun writing more : Checkpointing D} {pairs page : List TenantPair}
        → AddsPages old start begun pairs at walk writing → Shows does worker at walk page new on → Adds is_honest state failures writing page more
        → AddsPages old start begun (pairs ++ page) new on more

  -- all pages were added, up to the walk's end
  abbrev pub AddsToTheEnd : Scanner S → PageWalk → Checkpointing D → Scanner S → PageWalk → Checkpointing D → Type 0
  AddsToTheEnd old start begun new walk writing = (pairs : List TenantPair) × AddsPages old start begun pairs new walk writing × IsAtTheEnd walk

  -- some pages were added; the next one was not shown, and the checkpoint was given up
  pub record StopsAtScan (old : Scanner S) (start : PageWalk) (begun : Checkpointing D) (stop : CheckpointStop) (new : Scanner S) (left : StoreSlots D) : Type 0 where
    pub pairs : List TenantPair
    pub at : Scanner S
    pub walk : PageWalk
    pub writing : Checkpointing D
    pub refusal : Refusal
    pub adds : AddsPages old start begun pairs at walk writing
    pub none : ShowsNone does worker at walk refusal new
    pub gives_up : GivesUpIn is_honest state failures writing left
    pub cause : stop ≡ Scan refusal

  -- some pages were added; the next one was shown, and was not added
  pub record StopsAtAdd (old : Scanner S) (start : PageWalk) (begun : Checkpointing D) (stop : CheckpointStop) (new : Scanner S) (left : StoreSlots D) : Type 0 where
    pub pairs : List TenantPair
    pub page : List TenantPair
    pub at : Scanner S
    pub walk : PageWalk
    pub on : PageWalk
    pub writing : Checkpointing D
    pub fault : SlotFault
    pub adds : AddsPages old start begun pairs at walk writing
    pub shows : Shows does worker at walk page new on
    pub fails : FailsToAddIn is_honest state failures fault writing left
    pub cause : stop ≡ Slot fault

  -- not all pages were added
  abbrev pub StopsAdding : Scanner S → PageWalk → Checkpointing D → CheckpointStop → Scanner S → StoreSlots D → Type 0
  StopsAdding old start begun stop new left = StopsAtScan old start begun stop new left ⊎ StopsAtAdd old start begun stop new left

  -- a checkpoint was begun, with the number of steps that the desk showed before the first scan of a walk over these tenants
  pub record BeginsWalk (old : Scanner S) (tenants : List ℕ) (slots : StoreSlots D) (first : ℕ) (at : Scanner S) (start : PageWalk) (begun : Checkpointing D) : Type 0 where
    pub first_is : Looks does worker old first at
    pub begins : Begins is_honest state failures slots first begun
    pub starts : IsAtTheStart tenants start

  -- it got all pairs of the walk, and was ended with the number of steps that the desk showed after the last scan; its digest was told
  pub record WritesCheckpoint (old : Scanner S) (tenants : List ℕ) (slots : StoreSlots D) (digest : FileDigest) (new : Scanner S) (left : StoreSlots D) : Type 0 where
    pub first : ℕ
    pub last : ℕ
    pub looked : Scanner S
    pub shown : Scanner S
    pub start : PageWalk
    pub walk : PageWalk
    pub begun : Checkpointing D
    pub writing : Checkpointing D
    pub begins : BeginsWalk old tenants slots first looked start begun
    pub adds : AddsToTheEnd looked start begun shown walk writing
    pub last_is : Looks does worker shown last new
    pub ends : Ends is_honest state failures writing last left
    pub told : TellsDigest is_honest state failures writing.writer last digest

  -- it was not begun
  pub record StopsAtBegin (old : Scanner S) (slots : StoreSlots D) (stop : CheckpointStop) (new : Scanner S) (left : StoreSlots D) : Type 0 where
    pub first : ℕ
    pub fault : SlotFault
    pub first_is : Looks does worker old first new
    pub fails : FailsToBeginIn is_honest state failures slots left
    pub slot : fault.slot ≡ next_slot slots.newest
    pub cause : stop ≡ Slot fault

  -- it was begun, and not all of its pages were added
  pub record StopsInWalk (old : Scanner S) (tenants : List ℕ) (slots : StoreSlots D) (stop : CheckpointStop) (new : Scanner S) (left : StoreSlots D) : Type 0 where
    pub first : ℕ
    pub looked : Scanner S
    pub start : PageWalk
    pub begun : Checkpointing D
    pub begins : BeginsWalk old tenants slots first looked start begun
    pub stops : StopsAdding looked start begun stop new left

  -- it got all pairs, and was not ended
  pub record StopsAtEnd (old : Scanner S) (tenants : List ℕ) (slots : StoreSlots D) (stop : CheckpointStop) (new : Scanner S) (left : StoreSlots D) : Type 0 where
    pub first : ℕ
    pub last : ℕ
    pub looked : Scanner S
    pub shown : Scanner S
    pub start : PageWalk
    pub walk : PageWalk
    pub begun : Checkpointing D
    pub writing : Checkpointing D
    pub fault : SlotFault
    pub begins : BeginsWalk old tenants slots first looked start begun
    pub adds : AddsToTheEnd looked start begun shown walk writing
    pub last_is : Looks does worker shown last new
    pub fails : FailsToEndIn is_honest state failures fault writing last left
    pub cause : stop ≡ Slot fault

  -- it was given up, and this stopped it
  abbrev pub GivesUp : Scanner S → List ℕ → StoreSlots D → CheckpointStop → Scanner S → StoreSlots D → Type 0
  GivesUp old tenants slots stop new left =
      StopsAtBegin old slots stop new left ⊎ StopsInWalk old tenants slots stop new left ⊎ StopsAtEnd old tenants slots stop new left
