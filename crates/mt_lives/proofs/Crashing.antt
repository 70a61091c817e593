-- What a crash ends: whatever the store was, it holds of it that no life is served.
use Rattle.std.proofs.Common.{◌≡◌, ℕ, ◌<◌, ◌≤◌, List, length, refl, Option, Some, None, Result, Ok, Err, sym, subst, ◌∙◌}
use Rattle.mt_rows.specs.{Accounts.Accounts, Rows.Bytes}
use Rattle.mt_disk.specs.{declared.mem.MemDisk.MemDisk, Disk.{MayLeave, found_with}, Mem.mem_state}
use Rattle.mt_slots.specs.{declared.slot.Slot.Slot, declared.slot.Slot.TheVariants.{First, Second}, declared.store_slots.StoreSlots.StoreSlots}
use Rattle.mt_slots.specs.Places.{at, disk_of}
use Rattle.mt_slots.proofs.Settling.{crashed as slots_crashed}
use Rattle.mt_core.specs.Tickets.{named}
use Rattle.mt_crashes.{specs.Stores.{Store, LogNow, SlotNow}, proofs.Invariant.within_place}
use Rattle.mt_store_logs.specs.{declared.crashing.FileImages.FileImages, declared.store_log.StoreLog.StoreLog, Crashes.{IsCrashed, AreCrashed}}
use Rattle.mt_store_logs.proofs.FirstAndCrashed.{crashed_files}
use Rattle.mt_lives.specs.{declared.serving.Serving.Serving, Lives.{Life, Past, Standing, past_of, crashed_to}}
use Rattle.mt_lives.specs.{declared.live_slots.LiveSlots.TheVariants.Rest, Checks.SlotsStand, Holds.{HasCome, IsDown, IsLogDown, HoldsNow, Holds}}
use Rattle.mt_generations.specs.Turns.{HasBase}
use Rattle.mt_lives.proofs.{Bases.base_left, Served.ends, Flushing.{within, keeps_rules, failures_of}, Leaving.{AllDown, log_at_down, IsLeft}}
use Rattle.mt_slots.specs.Crashes as slots_of
use Rattle.mt_lives.specs.{Bases.Whole, Turning.{Turning, part_of, only_whole}}

-- what holds of a store that serves no life
pub holds_left : (accounts : Accounts) (slots : StoreSlots MemDisk) (standing : Standing) (past : Past) (g : ℕ) (h : Whole) (logs : List (StoreLog MemDisk)) (s : Store)
    → HasBase s h.starts → IsLeft accounts standing.settled past (length logs) s → SlotsStand s.slots slots → AllDown g h s logs → Holds accounts (Rest slots) (crashed_to (Err past) standing) logs None
holds_left accounts slots standing past g h logs s base l stand each = record {
  s = s;
  from = g;
  turning = only_whole h;
  some = l.some;
  few = l.few;
  come = l.come;
  count = l.len;
  stand = (refl, stand);
  base = base;
  settled = l.settled_so;
  keeps = l.keeps;
  now = record { down = l.down; each = each };
}

-- ---- the crash

ended : (accounts : Accounts) (g : ℕ) (turning : Turning) (begun : ℕ → Option ℕ) (now : Result Life Past) (s : Store) (logs : List (StoreLog MemDisk)) (serving : Option Serving)
    → HoldsNow g turning accounts begun now s logs serving → IsDown accounts (past_of now) s × AllDown g turning.whole s logs
ended accounts g turning begun (Ok life) s logs (Some serving) holds = (
  ends accounts life s serving.state (named serving.roster.tickets) holds.serves,
  λ worker now log there at. log_at_down g (part_of turning worker) s serving.state.logs worker now log (holds.each worker now log there at),
)
ended accounts g turning begun (Err past) s logs None holds = (holds.down, holds.each)
ended accounts g turning begun (Ok life) s logs None holds = absurd holds
ended accounts g turning begun (Err past) s logs (Some serving) holds = absurd holds

-- a crash changes nothing of what a log's files show
log_crashed : (g : ℕ) (h : Whole) (now : LogNow) (images : FileImages) (old new : StoreLog MemDisk) → IsLogDown g h now old → IsCrashed images old new → IsLogDown g h now new
log_crashed g h now images old new down c = record {
  files = down.files;
  turn = down.turn;
  shows = crashed_files down.files images old new down.shows c;
  begins = down.begins;
  owner = (c.log.worker ∙ down.owner.0, c.log.logs ∙ down.owner.1);
}

down_crashed : (g : ℕ) (h : Whole) (s : Store) (logs now_logs : List (StoreLog MemDisk)) (images : List FileImages) → AllDown g h s logs → AreCrashed images logs now_logs → AllDown g h s now_logs
down_crashed g h s logs now_logs images each c = λ worker now log there at.
    let lt : worker < length logs = subst (λ n. worker < n) c.len (within now_logs worker log at) in
    let was = within_place logs worker lt in
    let one = c.each worker was.0 log lt was.1 at in
    log_crashed g h now one.0 was.0 log (each worker now was.0 there was.1) one.2

-- what a crash leaves
pub record Leaves (accounts : Accounts) (slots : StoreSlots MemDisk) (standing : Standing) (logs : List (StoreLog MemDisk)) : Type 0 where
  pub s : Store
  pub from : ℕ
  pub whole : Whole
  pub base : HasBase s whole.starts
  pub left : IsLeft accounts standing.settled (past_of standing.now) (length logs) s
  pub each : AllDown from whole s logs
  pub stand : SlotsStand s.slots slots

-- a crash changes nothing of what the slots may have
stand_crashed : (now : List SlotNow) (first second : Bytes) (slots crashed_slots : StoreSlots MemDisk) → SlotsStand now slots → slots_of.AreCrashed first second slots crashed_slots
    → SlotsStand now crashed_slots
stand_crashed now first second slots crashed_slots s c = record {
  mays = s.mays;
  shown = s.shown;
  keeps = slots_crashed keeps_rules mem_state failures_of s.mays (record { first = first; second = second }) slots crashed_slots s.keeps
      (record {
        left = λ slot. by_left slot;
        found = λ slot. by_found slot;
        honest = λ slot. refl;
        newest = c.newest;
        owed = c.owed;
      });
}
  where
    by_left : (slot : Slot) → MayLeave (mem_state (disk_of slot slots)).now (at slot (record { first = first; second = second }))
    by_left First = c.first_so.left
    by_left Second = c.second_so.left

    by_found : (slot : Slot) → mem_state (disk_of slot crashed_slots) ≡ found_with (at slot (record { first = first; second = second }))
    by_found First = c.first_so.state
    by_found Second = c.second_so.state

pub leaves : (accounts : Accounts) (slots crashed_slots : StoreSlots MemDisk) (standing : Standing) (logs now_logs : List (StoreLog MemDisk)) (serving : Option Serving)
    (images : List FileImages) (first second : Bytes) → Holds accounts (Rest slots) standing logs serving → AreCrashed images logs now_logs
    → slots_of.AreCrashed first second slots crashed_slots → Leaves accounts crashed_slots standing now_logs
leaves accounts slots crashed_slots standing logs now_logs serving images first second h c sc =
    let e = ended accounts h.from h.turning standing.begun standing.now h.s logs serving h.now in
    record {
      s = h.s;
      from = h.from;
      whole = h.turning.whole;
      base = base_left standing.now h.from h.turning (Rest slots) h.s h.base;
      left = record {
        some = subst (λ n. 0 < n) (sym c.len) h.some;
        few = subst (λ n. n ≤ 64) (sym c.len) h.few;
        come = subst (λ n. HasCome n h.s) (sym c.len) h.come;
        len = h.count ∙ sym c.len;
        settled_so = h.settled;
        keeps = h.keeps;
        down = e.0;
      };
      each = down_crashed h.from h.turning.whole h.s logs now_logs images e.1 c;
      stand = stand_crashed h.s.slots first second slots crashed_slots h.stand.1 sc;
    }
