-- What gets and puts are told, and what they leave, by the row of their key: for the phases.
use Rattle.std.proofs.{Common.{◌≡◌, ℕ, ◌<◌, ◌≤◌, true, false, cond, List, Option, Some, None, refl, sym, ap, ◌∙◌}, lemmas.Option.same_Some}
use Rattle.std.proofs.lemmas.Bool.{lt-ltb, le-ltb, both_ways}
use Rattle.std.specs.FinMap.{get, len, insert, remove}
use Rattle.mt_rows.proofs.CommandLaws.{put_if_put, put_if_stale}
use Rattle.mt_rows.specs.{declared.command.Command.Command, declared.command.Command.TheVariants.{Get, Put, PutIf, Remove, Scan}}
use Rattle.mt_rows.specs.{declared.reply.Reply.TheVariants.{Absent, Removed, Found, New, Replaced, Full, Stale}, Rows.Bytes, Changes.Named}
use Rattle.mt_rows.specs.Stamps.{Stamped, as_shown, stamp_in, written}
use Rattle.mt_rows.specs.{Commands.key_of, Maps.{Map, reply_of, map_after, is_change, is_get, told_of_row, told_of_put, map_after_put, told_of_remove}}
use Rattle.mt_operation.specs.declared.task.Request.{Request}
use Rattle.mt_operation.specs.{declared.task.Request.TheVariants.{Get as GetOf, Put as PutOf, PutIf as PutIfOf, Remove as RemoveOf, Scan as ScanOf}, Tasks.{command_of, aim_of}}
use Rattle.mt_insert.specs.Puts.{change_of, is_put, MeetsStamp}
use Rattle.mt_state.specs.Notes.{columns_asked}
use Rattle.mt_remove.specs.Writes.{is_remove}
use Rattle.mt_operation.specs.declared.walk.Aim.TheVariants as aims

looks : (columns : List ℕ) (row : Option Stamped) → is_change (told_of_row columns row) ≡ false
looks columns None = refl
looks columns (Some row) = refl

-- the reply to a get tells of no change
pub get_looks : (quota : ℕ) (c : Command) (m : Map) → is_get c ≡ true → is_change (reply_of quota c m) ≡ false
unfolding reply_of
get_looks quota (Get key columns) m e = looks columns (get m key)
get_looks quota (Put key change) m e = absurd (cc)
get_looks quota (PutIf key stamp change) m e = absurd (cc)
get_looks quota (Remove key) m e = absurd (cc)
get_looks quota (Scan from after count columns) m e = absurd (cc)

-- a command that changes its map comes to write
pub change_writes : (quota : ℕ) (c : Command) (m : Map) → is_change (reply_of quota c m) ≡ true → aim_of c ≡ aims.Write
unfolding reply_of
change_writes quota (Get key columns) m changes = absurd (both_ways _ (get_looks quota (Get key columns) m refl) changes)
change_writes quota (Put key change) m changes = refl
change_writes quota (PutIf key stamp change) m changes = refl
change_writes quota (Remove key) m changes = refl
change_writes quota (Scan from after count columns) m changes = absurd (cc)

-- a get of a key that is not there
pub get_absent : (quota : ℕ) (c : Command) (m : Map) → is_get c ≡ true → get m (key_of c) ≡ None → Absent ≡ reply_of quota c m
unfolding reply_of
get_absent quota (Get key columns) m e none = ap (told_of_row columns) (sym none)
get_absent quota (Put key change) m e none = absurd (cc)
get_absent quota (PutIf key stamp change) m e none = absurd (cc)
get_absent quota (Remove key) m e none = absurd (cc)
get_absent quota (Scan from after count columns) m e none = absurd (cc)

-- a get of a row
pub get_found : (quota : ℕ) (c : Command) (m : Map) (columns : List ℕ) (row : Stamped) → columns_asked c ≡ Some columns → get m (key_of c) ≡ Some row
    → Found (as_shown columns row) ≡ reply_of quota c m
unfolding reply_of
get_found quota (Get key asked) m columns row e is =
    ap (λ w. told_of_row w (Some row)) (sym (same_Some asked columns e)) ∙ ap (told_of_row asked) (sym is)
get_found quota (Put key change) m columns row e is = absurd (cc)
get_found quota (PutIf key stamp change) m columns row e is = absurd (cc)
get_found quota (Remove key) m columns row e is = absurd (cc)
get_found quota (Scan from after count asked) m columns row e is = absurd (cc)

-- the columns that a get asks
pub get_asks : (c : Command) → is_get c ≡ true → (columns : List ℕ) × (columns_asked c ≡ Some columns)
get_asks (Get key columns) e = (columns, refl)
get_asks (Put key change) e = absurd (cc)
get_asks (PutIf key stamp change) e = absurd (cc)
get_asks (Remove key) e = absurd (cc)
get_asks (Scan from after count columns) e = absurd (cc)

-- a plain put of a key that is there
plain_there : (quota number : ℕ) (key : Bytes) (change : Named) (m : Map) (row : Stamped) → get m key ≡ Some row
    → (Replaced ≡ reply_of quota (Put key change) m) × (map_after quota number (Put key change) m ≡ insert m key (written number change (Some row)))
unfolding reply_of map_after
plain_there quota number key change m row is = (ap (told_of_put quota (len m)) (sym is), ap (map_after_put quota number key change m) is)

-- a plain put of a new key, with room for it
plain_new : (quota number : ℕ) (key : Bytes) (change : Named) (m : Map) → get m key ≡ None → len m < quota
    → (New ≡ reply_of quota (Put key change) m) × (map_after quota number (Put key change) m ≡ insert m key (written number change None))
unfolding reply_of map_after
plain_new quota number key change m none lt = (
  sym (ap (told_of_put quota (len m)) none ∙ ap (λ b. cond b New Full) (lt-ltb (len m) quota lt)),
  ap (map_after_put quota number key change m) none ∙ ap (λ b. cond b (insert m key (written number change None)) m) (lt-ltb (len m) quota lt),
)

-- and without
plain_full : (quota : ℕ) (key : Bytes) (change : Named) (m : Map) → get m key ≡ None → quota ≤ len m → Full ≡ reply_of quota (Put key change) m
unfolding reply_of
plain_full quota key change m none le = sym (ap (told_of_put quota (len m)) none ∙ ap (λ b. cond b New Full) (le-ltb (len m) quota le))

-- a put of a key that is there, with the stamp that it asks for
pub put_there : (quota number : ℕ) (r : Request) (m : Map) (row : Stamped) → is_put (command_of r) ≡ true → MeetsStamp (command_of r) row.stamp → get m (key_of (command_of r)) ≡ Some row
    → (Replaced ≡ reply_of quota (command_of r) m)
    × (map_after quota number (command_of r) m ≡ insert m (key_of (command_of r)) (written number (change_of (command_of r)) (Some row)))
put_there quota number (PutOf key change) m row e met is = plain_there quota number key change m row is
put_there quota number (PutIfOf key stamp change) m row e met is =
    let same = put_if_put quota number key stamp change m (ap stamp_in is ∙ met) in
    let plain = plain_there quota number key change m row is in
    (plain.0 ∙ sym same.0, same.1 ∙ plain.1)
put_there quota number (GetOf key columns) m row e met is = absurd (cc)
put_there quota number (ScanOf from after count columns) m row e met is = absurd (cc)
put_there quota number (RemoveOf key) m row e met is = absurd (cc)

-- a put of a new key, with room for it, which asks for no stamp, or for 0
pub put_new : (quota number : ℕ) (r : Request) (m : Map) → is_put (command_of r) ≡ true → MeetsStamp (command_of r) 0 → get m (key_of (command_of r)) ≡ None → len m < quota
    → (New ≡ reply_of quota (command_of r) m)
    × (map_after quota number (command_of r) m ≡ insert m (key_of (command_of r)) (written number (change_of (command_of r)) None))
put_new quota number (PutOf key change) m e met none lt = plain_new quota number key change m none lt
put_new quota number (PutIfOf key stamp change) m e met none lt =
    let same = put_if_put quota number key stamp change m (ap stamp_in none ∙ met) in
    let plain = plain_new quota number key change m none lt in
    (plain.0 ∙ sym same.0, same.1 ∙ plain.1)
put_new quota number (GetOf key columns) m e met none lt = absurd (cc)
put_new quota number (ScanOf from after count columns) m e met none lt = absurd (cc)
put_new quota number (RemoveOf key) m e met none lt = absurd (cc)

-- and without
pub put_full : (quota : ℕ) (r : Request) (m : Map) → is_put (command_of r) ≡ true → MeetsStamp (command_of r) 0 → get m (key_of (command_of r)) ≡ None → quota ≤ len m
    → Full ≡ reply_of quota (command_of r) m
put_full quota (PutOf key change) m e met none le = plain_full quota key change m none le
put_full quota (PutIfOf key stamp change) m e met none le = plain_full quota key change m none le ∙ sym (put_if_put quota 0 key stamp change m (ap stamp_in none ∙ met)).0
put_full quota (GetOf key columns) m e met none le = absurd (cc)
put_full quota (ScanOf from after count columns) m e met none le = absurd (cc)
put_full quota (RemoveOf key) m e met none le = absurd (cc)

-- a put that asks for another stamp than the one that stands there
pub put_stale : (quota : ℕ) (r : Request) (m : Map) (stamp : ℕ) → ¬ MeetsStamp (command_of r) stamp → stamp_in (get m (key_of (command_of r))) ≡ stamp
    → Stale stamp ≡ reply_of quota (command_of r) m
put_stale quota (PutOf key change) m stamp stale is = absurd (stale tt)
put_stale quota (PutIfOf key asked change) m stamp stale is =
    sym ((put_if_stale quota 0 key asked change m (λ same. stale (sym is ∙ same))).0 ∙ ap Stale is)
put_stale quota (GetOf key columns) m stamp stale is = absurd (stale tt)
put_stale quota (ScanOf from after count columns) m stamp stale is = absurd (stale tt)
put_stale quota (RemoveOf key) m stamp stale is = absurd (stale tt)

-- a removal of a key that is missing
pub remove_missing : (quota : ℕ) (r : Request) (m : Map) → is_remove (command_of r) ≡ true → get m (key_of (command_of r)) ≡ None
    → Absent ≡ reply_of quota (command_of r) m
unfolding reply_of
remove_missing quota (RemoveOf key) m e none = sym (ap told_of_remove none)
remove_missing quota (GetOf key columns) m e none = absurd (cc)
remove_missing quota (ScanOf from after count columns) m e none = absurd (cc)
remove_missing quota (PutOf key change) m e none = absurd (cc)
remove_missing quota (PutIfOf key stamp change) m e none = absurd (cc)

-- and of one that is there
pub remove_there : (quota number : ℕ) (r : Request) (m : Map) (row : Stamped) → is_remove (command_of r) ≡ true → get m (key_of (command_of r)) ≡ Some row
    → (Removed ≡ reply_of quota (command_of r) m) × (map_after quota number (command_of r) m ≡ remove m (key_of (command_of r)))
unfolding reply_of map_after
remove_there quota number (RemoveOf key) m row e is = (sym (ap told_of_remove is), refl)
remove_there quota number (GetOf key columns) m row e is = absurd (cc)
remove_there quota number (ScanOf from after count columns) m row e is = absurd (cc)
remove_there quota number (PutOf key change) m row e is = absurd (cc)
remove_there quota number (PutIfOf key stamp change) m row e is = absurd (cc)
