-- What the core keeps of a run and of the maps that it held, from which one order follows.
use Rattle.std.specs.Prelude.{◌≡◌, ℕ, suc, ◌≤◌, Bool, true, false, Option, Some}
use Rattle.mt_rows.specs.Maps.{Map, is_change, is_scan}
use Rattle.mt_runs.specs.declared.event.Answer.{Answer}
use Rattle.mt_runs.specs.Runs.{Story, Asked, last_step, step_of, owner, Finished, IsSinceFirst, IsUpToLast, IsFirst, IsLast, IsBetween, with_step}
use Rattle.mt_runs.specs.{Scans.IsLawfulScan, Placings.{Quotas, Maps, is_placed, reply_in, maps_after_one}}

-- the maps of all tenants after a step: map_at t m is tenant t's map after step m
abbrev pub maps_at : (ℕ → ℕ → Map) → ℕ → Maps
maps_at map_at m = λ t. map_at t m

-- step m + 1 made its operation's change, on the maps after step m
pub record IsChangeAfter (quotas : Quotas) (story : Story) (map_at : ℕ → ℕ → Map) (m : ℕ) : Type 0 where
  pub op : ℕ
  pub own : owner story (suc m) ≡ Some op
  pub what : Asked
  pub asked_so : story.asked op ≡ Some what
  pub not_scan : is_scan what.command ≡ false
  pub changes : is_change (reply_in quotas what (maps_at map_at m)) ≡ true
  pub makes : (t : ℕ) → map_at t (suc m) ≡ maps_after_one quotas (suc m) (Some what) (maps_at map_at m) t
  pub told : (answer : Answer) → Finished story op answer → (answer.command ≡ what.command) × (answer.reply ≡ reply_in quotas what (maps_at map_at m)) × (answer.at ≡ suc m)

-- a finished operation was told of its own command, with the numbers of its first and last step; unless it is a scan or memory stopped it, it stands
-- between these, at the step that changed its map, or else where its map gives its reply
pub record IsAnswered (quotas : Quotas) (story : Story) (map_at : ℕ → ℕ → Map) (changed : ℕ → Bool) (o : ℕ) (answer : Answer) : Type 0 where
  pub what : Asked
  pub asked_so : story.asked o ≡ Some what
  pub command : answer.command ≡ what.command
  pub first : IsFirst story o answer.first
  pub last : IsLast story o answer.last
  pub since : is_placed answer ≡ true → IsSinceFirst story o answer.at
  pub upto : is_placed answer ≡ true → IsUpToLast story o answer.at
  pub looked : is_placed answer ≡ true → is_change answer.reply ≡ false → answer.reply ≡ reply_in quotas what (maps_at map_at answer.at)
  pub changed_so : is_placed answer ≡ true → is_change answer.reply ≡ true → (changed answer.at ≡ true) × (owner story answer.at ≡ Some o)

-- a run that began with these maps is right by the maps that it went through, and by which of its steps changed one
pub record Right (quotas : Quotas) (first : Maps) (story : Story) (map_at : ℕ → ℕ → Map) (changed : ℕ → Bool) : Type 0 where
  pub start : (t : ℕ) → map_at t story.base ≡ first t
  pub stays : (m t : ℕ) → story.base ≤ m → suc m ≤ last_step story → changed (suc m) ≡ false → map_at t (suc m) ≡ map_at t m
  pub changes : (m : ℕ) → story.base ≤ m → suc m ≤ last_step story → changed (suc m) ≡ true → IsChangeAfter quotas story map_at m
  pub once : (m n o : ℕ) → changed m ≡ true → changed n ≡ true → owner story m ≡ Some o → owner story n ≡ Some o → m ≡ n
  pub last_end : (m k o : ℕ) (a : Answer) → step_of story m ≡ Some (record { op = o; answer = Some a }) → owner story k ≡ Some o → k ≤ m
  pub answers : (o : ℕ) (answer : Answer) → Finished story o answer → IsAnswered quotas story map_at changed o answer
  pub scans : (o : ℕ) (answer : Answer) (a : Asked) → Finished story o answer → story.asked o ≡ Some a → IsLawfulScan (map_at a.tenant) (IsBetween story o) a.command answer.reply

-- what the step that a story grows by did to the maps
pub record IsGrowth (quotas : Quotas) (story : Story) (map_at now_at : ℕ → ℕ → Map) (changed now_changed : ℕ → Bool) (o : ℕ) (answer : Option Answer) : Type 0 where
  -- no map and no change since the run began is another one
  pub maps : (t m : ℕ) → story.base ≤ m → m ≤ last_step story → now_at t m ≡ map_at t m
  pub changes : (m : ℕ) → story.base ≤ m → m ≤ last_step story → now_changed m ≡ changed m
  -- its operation wasn't finished
  pub open_still : (a : Answer) → Finished story o a → ⊥
  -- it changed nothing, or it made its operation's one change
  pub quiet : (t : ℕ) → now_changed (suc (last_step story)) ≡ false → now_at t (suc (last_step story)) ≡ now_at t (last_step story)
  pub change : now_changed (suc (last_step story)) ≡ true → IsChangeAfter quotas (with_step story o answer) now_at (last_step story)
  pub first_change : (m : ℕ) → now_changed (suc (last_step story)) ≡ true → changed m ≡ true → owner story m ≡ Some o → ⊥
  -- where it finished its operation, the answer is one of that operation
  pub told : (m : ℕ) (a : Answer) (c : IsChangeAfter quotas story map_at m) → changed (suc m) ≡ true → answer ≡ Some a → c.op ≡ o
      → (a.command ≡ c.what.command) × (a.reply ≡ reply_in quotas c.what (maps_at map_at m)) × (a.at ≡ suc m)
  pub answered : (a : Answer) → answer ≡ Some a → IsAnswered quotas (with_step story o answer) now_at now_changed o a
  pub scanned : (a : Answer) (w : Asked) → answer ≡ Some a → story.asked o ≡ Some w → IsLawfulScan (now_at w.tenant) (IsBetween (with_step story o answer) o) w.command a.reply
