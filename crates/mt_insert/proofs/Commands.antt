-- What a put's write is to the maps of the tenants: the command's change of its own one, with the command's reply; and what one is told that meets another
-- stamp. For the laws of both.
use Rattle.std.proofs.{Common.{◌≡◌, ◌≢◌, ℕ, ◌<◌, ◌≤◌, true, cond, Option, Some, None, sym, ap, ◌∙◌}, lemmas.Bool.{lt-ltb, le-ltb}}
use Rattle.std.specs.FinMap.{get, len, insert}
use Rattle.mt_rows.specs.{declared.command.Command.TheVariants.{Put, PutIf}, declared.reply.Reply.TheVariants.{New, Replaced, Full, Stale}}
use Rattle.mt_rows.specs.{Rows.Bytes, Changes.Named, Commands.key_of, Stamps.{Stamped, stamp_in, written}}
use Rattle.mt_rows.specs.{Maps.{Map, reply_of, map_after, told_of_put, map_after_put}, Tenants.{Contents, tenant_map}}
use Rattle.mt_rows.proofs.{CommandLaws.{put_if_put, put_if_stale}, ContentLaws.{get-tenant_map, tenant_map-insert, tenant_map-insert_other}}
use Rattle.mt_border.specs.Contents.{owned}
use Rattle.mt_tape.specs.Histories.{with_write}
use Rattle.mt_operation.specs.declared.task.Request.{Request}
use Rattle.mt_operation.specs.declared.task.Request.TheVariants.{Get as GetOf, Put as PutOf, PutIf as PutIfOf, Remove as RemoveOf, Scan as ScanOf}
use Rattle.mt_operation.specs.{declared.task.Task.Task, Tasks.{command_of, ask}}
use Rattle.mt_insert.specs.Puts.{change_of, is_put, IsPut, MeetsStamp, write_of}

-- a put of a key that is there
there : (quota step : ℕ) (key : Bytes) (change : Named) (m : Map) (row : Stamped) → get m key ≡ Some row
    → (reply_of quota (Put key change) m ≡ Replaced) × (map_after quota step (Put key change) m ≡ insert m key (written step change (Some row)))
unfolding reply_of map_after
there quota step key change m row is = (ap (told_of_put quota (len m)) is, ap (map_after_put quota step key change m) is)

-- of a new key, with room for it
new : (quota step : ℕ) (key : Bytes) (change : Named) (m : Map) → get m key ≡ None → len m < quota
    → (reply_of quota (Put key change) m ≡ New) × (map_after quota step (Put key change) m ≡ insert m key (written step change None))
unfolding reply_of map_after
new quota step key change m none lt = (
  ap (told_of_put quota (len m)) none ∙ ap (λ b. cond b New Full) (lt-ltb (len m) quota lt),
  ap (map_after_put quota step key change m) none ∙ ap (λ b. cond b (insert m key (written step change None)) m) (lt-ltb (len m) quota lt),
)

-- and without
full : (quota step : ℕ) (key : Bytes) (change : Named) (m : Map) → get m key ≡ None → quota ≤ len m
    → (reply_of quota (Put key change) m ≡ Full) × (map_after quota step (Put key change) m ≡ m)
unfolding reply_of map_after
full quota step key change m none le = (
  ap (told_of_put quota (len m)) none ∙ ap (λ b. cond b New Full) (le-ltb (len m) quota le),
  ap (map_after_put quota step key change m) none ∙ ap (λ b. cond b (insert m key (written step change None)) m) (le-ltb (len m) quota le),
)

-- and so each that may be placed where what is there stands
pub put_there : (quota step : ℕ) (r : Request) (m : Map) (row : Stamped) → is_put (command_of r) ≡ true → get m (key_of (command_of r)) ≡ Some row
    → MeetsStamp (command_of r) row.stamp
    → (reply_of quota (command_of r) m ≡ Replaced) × (map_after quota step (command_of r) m ≡ insert m (key_of (command_of r)) (written step (change_of (command_of r)) (Some row)))
put_there quota step (PutOf key change) m row e is met = there quota step key change m row is
put_there quota step (PutIfOf key stamp change) m row e is met =
    let p = put_if_put quota step key stamp change m (ap stamp_in is ∙ met) in
    let q = there quota step key change m row is in
    (p.0 ∙ q.0, p.1 ∙ q.1)
put_there quota step (GetOf key columns) m row e is met = absurd (cc)
put_there quota step (ScanOf from after count columns) m row e is met = absurd (cc)
put_there quota step (RemoveOf key) m row e is met = absurd (cc)

pub put_new : (quota step : ℕ) (r : Request) (m : Map) → is_put (command_of r) ≡ true → get m (key_of (command_of r)) ≡ None → MeetsStamp (command_of r) 0
    → len m < quota
    → (reply_of quota (command_of r) m ≡ New) × (map_after quota step (command_of r) m ≡ insert m (key_of (command_of r)) (written step (change_of (command_of r)) None))
put_new quota step (PutOf key change) m e none met lt = new quota step key change m none lt
put_new quota step (PutIfOf key stamp change) m e none met lt =
    let p = put_if_put quota step key stamp change m (ap stamp_in none ∙ met) in
    let q = new quota step key change m none lt in
    (p.0 ∙ q.0, p.1 ∙ q.1)
put_new quota step (GetOf key columns) m e none met lt = absurd (cc)
put_new quota step (ScanOf from after count columns) m e none met lt = absurd (cc)
put_new quota step (RemoveOf key) m e none met lt = absurd (cc)

pub put_full : (quota step : ℕ) (r : Request) (m : Map) → is_put (command_of r) ≡ true → get m (key_of (command_of r)) ≡ None → MeetsStamp (command_of r) 0
    → quota ≤ len m → (reply_of quota (command_of r) m ≡ Full) × (map_after quota step (command_of r) m ≡ m)
put_full quota step (PutOf key change) m e none met le = full quota step key change m none le
put_full quota step (PutIfOf key stamp change) m e none met le =
    let p = put_if_put quota step key stamp change m (ap stamp_in none ∙ met) in
    let q = full quota step key change m none le in
    (p.0 ∙ q.0, p.1 ∙ q.1)
put_full quota step (GetOf key columns) m e none met le = absurd (cc)
put_full quota step (ScanOf from after count columns) m e none met le = absurd (cc)
put_full quota step (RemoveOf key) m e none met le = absurd (cc)

-- one that asks for another stamp is told the one that stands there
pub put_stale : (quota step : ℕ) (r : Request) (m : Map) (stamp : ℕ) → is_put (command_of r) ≡ true → stamp_in (get m (key_of (command_of r))) ≡ stamp
    → ¬ MeetsStamp (command_of r) stamp → (reply_of quota (command_of r) m ≡ Stale stamp) × (map_after quota step (command_of r) m ≡ m)
put_stale quota step (PutOf key change) m stamp e is other = absurd (other tt)
put_stale quota step (PutIfOf key asked change) m stamp e is other =
    let p = put_if_stale quota step key asked change m (λ same. other (sym is ∙ same)) in
    (p.0 ∙ ap (λ (s : ℕ). Stale s) is, p.1)
put_stale quota step (GetOf key columns) m stamp e is other = absurd (cc)
put_stale quota step (ScanOf from after count columns) m stamp e is other = absurd (cc)
put_stale quota step (RemoveOf key) m stamp e is other = absurd (cc)

module _ (quota step : ℕ) (contents : Contents) (task : Task) (put : IsPut task) where
  abbrev m : Map
  m = tenant_map task.tenant contents

  -- the tenant's map has at the key what the contents have
  at_key : get m (key_of (ask task)) ≡ get contents (owned task.key)
  at_key = get-tenant_map task.tenant contents (key_of (ask task)) ∙ ap (λ (q : ℕ × Bytes). get contents q) (sym put.owner)

  -- after the write it has the put's row there, with the step as its stamp
  after_write : (before : Option Stamped) → get contents (owned task.key) ≡ before
      → tenant_map task.tenant (with_write contents (write_of task contents step)) ≡ insert m (key_of (ask task)) (written step (change_of (ask task)) before)
  after_write before is =
      tenant_map-insert task.tenant contents (key_of (ask task)) (written step (change_of (ask task)) (get contents (owned task.key)))
      ∙ ap (λ (b : Option Stamped). insert m (key_of (ask task)) (written step (change_of (ask task)) b)) is

  -- over a row
  pub over_row : (row : Stamped) → get contents (owned task.key) ≡ Some row → MeetsStamp (ask task) row.stamp
      → (reply_of quota (ask task) m ≡ Replaced) × (map_after quota step (ask task) m ≡ tenant_map task.tenant (with_write contents (write_of task contents step)))
  over_row row is met =
      let p = put_there quota step task.request m row put.put_is (at_key ∙ is) met in
      (p.0, p.1 ∙ sym (after_write (Some row) is))

  -- where the key is missing, and there is room
  pub over_none : get contents (owned task.key) ≡ None → MeetsStamp (ask task) 0 → len m < quota
      → (reply_of quota (ask task) m ≡ New) × (map_after quota step (ask task) m ≡ tenant_map task.tenant (with_write contents (write_of task contents step)))
  over_none none met lt =
      let p = put_new quota step task.request m put.put_is (at_key ∙ none) met lt in
      (p.0, p.1 ∙ sym (after_write None none))

  -- and where there is none
  pub at_quota : get contents (owned task.key) ≡ None → MeetsStamp (ask task) 0 → quota ≤ len m → (reply_of quota (ask task) m ≡ Full) × (map_after quota step (ask task) m ≡ m)
  at_quota none met le = put_full quota step task.request m put.put_is (at_key ∙ none) met le

  -- where another stamp stands
  pub stale : (stamp : ℕ) → stamp_in (get contents (owned task.key)) ≡ stamp → ¬ MeetsStamp (ask task) stamp
      → (reply_of quota (ask task) m ≡ Stale stamp) × (map_after quota step (ask task) m ≡ m)
  stale stamp is other = put_stale quota step task.request m stamp put.put_is (ap stamp_in at_key ∙ is) other

  -- other tenants' maps stay
  pub others : (t : ℕ) → t ≢ task.tenant → tenant_map t (with_write contents (write_of task contents step)) ≡ tenant_map t contents
  others t other =
      tenant_map-insert_other t task.tenant contents (key_of (ask task)) (written step (change_of (ask task)) (get contents (owned task.key))) (λ same. other (sym same))
