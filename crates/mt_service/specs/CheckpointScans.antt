-- The scans of a checkpoint in the story of a history.
use Rattle.std.specs.Prelude.{◌≡◌, ℕ, ◌<◌, ◌≤◌, Bool, List, [], Some}
use Rattle.mt_rows.specs.{Rows.Bytes, Stamps.Stamped, declared.command.Command.Command, declared.record.TenantPair.TenantPair}
use Rattle.mt_disk.specs.Disk.{DiskState}
use Rattle.mt_runs.specs.{declared.event.Answer.Answer, Runs.{Story, owner, Finished}, Scans.IsLawful, Placings.{Quotas, Maps, HasOneOrder, map_upto}}
use Rattle.mt_book.specs.Periods.{Period}
use Rattle.mt_pages.specs.declared.walk.PageWalk.{PageWalk}
use Rattle.mt_slots.specs.declared.checkpointing.Checkpointing.{Checkpointing}
use Rattle.mt_stored.specs.Checkpoints.{Scanner, AddsPages, NoPage, OnePage}

-- in a story that began with these maps, after one number and up to another
module _ (quotas : Quotas) (maps : Maps) (story : Story) (first last : ℕ) where
  -- A walk's scan is an operation of the story. It finished with this answer, and made all its steps after the first number and up to the last one. In whichever
  -- order explains the story the page that it showed is lawful by its tenant's maps between the two.
  pub record IsMadeBetween (walk : PageWalk) (tenant : ℕ) (command : Command) (answer : Answer) (page : List (Bytes × Stamped)) : Type 0 where
    pub name : ℕ
    pub asked_so : story.asked name ≡ Some (record { tenant = tenant; command = command })
    pub finished : Finished story name answer
    pub between : (m : ℕ) → owner story m ≡ Some name → (first < m) × (m ≤ last)
    pub lawful : (order : HasOneOrder quotas maps story) → IsLawful (map_upto quotas maps story order.0 tenant) (λ m. (first < m) × (m ≤ last)) walk.from walk.after 64 [] page

  -- so is the scan of each page that was added
  abbrev pub AreMadeBetween : {S D : Type 0} {does : S → Period → S → Type 0} {worker : ℕ} {is_honest : D → Bool} {state : D → DiskState} {failures : D → ℕ} {old new : Scanner S} {start walk : PageWalk}
      {begun writing : Checkpointing D} {pairs : List TenantPair} → AddsPages does worker is_honest state failures old start begun pairs new walk writing → Type 0
  AreMadeBetween NoPage = Unit {0}
  AreMadeBetween (OnePage {walk = walk} adds shows more) =
      AreMadeBetween adds × IsMadeBetween walk shows.scans.tenant shows.scans.command shows.answer shows.page
