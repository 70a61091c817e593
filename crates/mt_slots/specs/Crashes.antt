-- What a crash makes of slots in memory.
use Rattle.std.specs.Prelude.{◌≡◌, ◌⊎◌, None}
use Rattle.mt_rows.specs.Rows.{Bytes}
use Rattle.mt_disk.specs.{declared.mem.MemDisk.MemDisk, Disk.{MayLeave, found_with}, Mem.{mem_state, plan_of, plan_found}}
use Rattle.mt_slots.specs.declared.store_slots.StoreSlots.{StoreSlots}

-- a disk is found with an image after a crash, by the plan that it had
pub record IsFoundWith (image : Bytes) (old disk : MemDisk) : Type 0 where
  pub left : MayLeave (mem_state old).now image
  pub state : mem_state disk ≡ found_with image
  pub plan : plan_of disk ≡ plan_found (plan_of old)
  pub failures : disk.failures ≡ old.failures

-- a crash now may leave these files
abbrev pub MayLeaveBoth : Bytes → Bytes → StoreSlots MemDisk → Type 0
MayLeaveBoth first second slots = MayLeave (mem_state slots.first).now first × MayLeave (mem_state slots.second).now second

-- it left them
pub record AreCrashed (first second : Bytes) (old new : StoreSlots MemDisk) : Type 0 where
  pub first_so : IsFoundWith first old.first new.first
  pub second_so : IsFoundWith second old.second new.second
  pub newest : new.newest ≡ None
  pub owed : new.owed ≡ 0

-- each is as it was, or crashed
pub record AreLeftOrCrashed (first second : Bytes) (old new : StoreSlots MemDisk) : Type 0 where
  pub first_so : (new.first ≡ old.first) ⊎ IsFoundWith first old.first new.first
  pub second_so : (new.second ≡ old.second) ⊎ IsFoundWith second old.second new.second
