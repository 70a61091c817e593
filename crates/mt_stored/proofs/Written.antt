-- What a crash may leave of both slots while a checkpoint is written over a desk, and after that.
use Rattle.std.proofs.Common.{◌≡◌, ◌⊎◌, ◌∙◌, ℕ, Bool, List, [], ◌∷◌, Some, inl, inr, refl, subst}
use Rattle.mt_rows.specs.declared.record.TenantPair.{TenantPair}
use Rattle.mt_disk.specs.Disk.{DiskState}
use Rattle.mt_checkpoint.specs.Checkpoints.{Walk}
use Rattle.mt_pages.specs.declared.walk.PageWalk.{PageWalk}
use Rattle.mt_slots.specs.{declared.store_slots.StoreSlots.StoreSlots, declared.checkpointing.Checkpointing.Checkpointing}
use Rattle.mt_slots.specs.{Places.{next_slot, with}, Keeps.{Mays, KeepsSlots, KeepsWriting, or_none}, Calls.Ends}
use Rattle.mt_slots.proofs.{Keeping.{begun as keeps_begun, not_begun, added}, Settling.{ended, not_added, gave_up}}
use Rattle.mt_book.specs.Periods.{Period}
use Rattle.mt_stored.specs.declared.checkpoints.CheckpointStop.{CheckpointStop}
use Rattle.mt_stored.specs.Checkpoints.{Scanner, BeginsWalk, AddsPages, NoPage, OnePage, StopsAtBegin, StopsInWalk, StopsAdding}

module _ {S D : Type 0} (does : S → Period → S → Type 0) (worker : ℕ) (is_honest : D → Bool) (state : D → DiskState) (failures : D → ℕ) where
  abbrev Keeps : Mays → StoreSlots D → Type 0
  Keeps = KeepsSlots is_honest state failures

  abbrev Adds : Scanner S → PageWalk → Checkpointing D → List TenantPair → Scanner S → PageWalk → Checkpointing D → Type 0
  Adds = AddsPages does worker is_honest state failures

  -- the pages that were added are kept, each after those before it
  pages : (mays : Mays) (first : ℕ) {old new : Scanner S} {start walk : PageWalk} {begun writing : Checkpointing D} {pairs : List TenantPair}
      → Adds old start begun pairs new walk writing → KeepsWriting is_honest state failures mays first [] begun
      → KeepsWriting is_honest state failures mays first pairs writing
  pages mays first NoPage kept = kept
  pages mays first (OnePage before shows more) kept = added is_honest state failures mays first _ _ _ _ (pages mays first before kept) more

  -- the newest checkpoint is as it was
  newest : {old new : Scanner S} {start walk : PageWalk} {begun writing : Checkpointing D} {pairs : List TenantPair}
      → Adds old start begun pairs new walk writing → writing.newest ≡ begun.newest
  newest NoPage = refl
  newest (OnePage before shows more) = more.newest ∙ newest before

  pub written : (mays : Mays) (old looked shown : Scanner S) (tenants : List ℕ) (slots left : StoreSlots D) (start walk : PageWalk) (begun writing : Checkpointing D) (w : Walk)
      → Keeps mays slots → BeginsWalk does worker is_honest state failures old tenants slots w.first looked start begun
      → Adds looked start begun w.pairs shown walk writing → Ends is_honest state failures writing w.last left
      → Keeps (with (next_slot slots.newest) (Some w ∷ []) (or_none (next_slot slots.newest) mays)) left
  written mays old looked shown tenants slots left start walk begun writing w kept begins adds ends =
      let begin = keeps_begun is_honest state failures mays w.first slots begun kept begins.begins in
      let all = pages (or_none (next_slot slots.newest) mays) w.first adds begin in
      let same : writing.newest ≡ slots.newest = newest adds ∙ begins.begins.newest in
      subst (λ o. Keeps (with (next_slot o) (Some w ∷ []) (or_none (next_slot slots.newest) mays)) left) same
      (ended is_honest state failures (or_none (next_slot slots.newest) mays) w writing left all ends)

  -- one that was given up in its walk
  stopped : (mays : Mays) (first : ℕ) (looked new : Scanner S) (start : PageWalk) (begun : Checkpointing D) (left : StoreSlots D) (stop : CheckpointStop)
      → KeepsWriting is_honest state failures mays first [] begun → StopsAdding does worker is_honest state failures looked start begun stop new left → Keeps mays left
  stopped mays first looked new start begun left stop kept (inl scan) =
      gave_up is_honest state failures mays first scan.pairs scan.writing left (pages mays first scan.adds kept) scan.gives_up
  stopped mays first looked new start begun left stop kept (inr add) =
      not_added is_honest state failures mays first add.pairs add.fault add.writing left (pages mays first add.adds kept) add.fails

  pub given : (mays : Mays) (old new : Scanner S) (tenants : List ℕ) (slots left : StoreSlots D) (stop : CheckpointStop) → Keeps mays slots
      → StopsAtBegin does worker is_honest state failures old slots stop new left ⊎ StopsInWalk does worker is_honest state failures old tenants slots stop new left
      → Keeps (or_none (next_slot slots.newest) mays) left
  given mays old new tenants slots left stop kept (inl begin) = not_begun is_honest state failures mays slots left kept begin.fails
  given mays old new tenants slots left stop kept (inr walk) =
      stopped (or_none (next_slot slots.newest) mays) walk.first walk.looked new walk.start walk.begun left stop
      (keeps_begun is_honest state failures mays walk.first slots walk.begun kept walk.begins.begins) walk.stops
