-- Which commands are no scans, and that a scan stays lawful: for all phases.
use Rattle.std.proofs.Common.{◌≡◌, ◌≢◌, ℕ, true, false, refl, sym, ◌∙◌}
use Rattle.mt_rows.specs.{declared.command.Command.Command, declared.command.Command.TheVariants.{Get, Put, PutIf, Remove, Scan}, declared.reply.Reply.Reply}
use Rattle.mt_rows.specs.{Maps.{Map, reply_of, is_change, is_get, is_scan}, Commands.key_of}
use Rattle.mt_runs.specs.Scans.{IsLawfulScan}
use Rattle.mt_operation.specs.{declared.walk.Aim.Aim, declared.operation.Operation.Operation, Tasks.{ask, aim_of}}
use Rattle.mt_insert.specs.Puts.{is_put}
use Rattle.mt_remove.specs.Writes.{is_remove}
use Rattle.mt_border.specs.Contents.{owned}
use Rattle.mt_state.specs.{Views.Core, KeptOperations.IsOpenOperation}
use Rattle.mt_rows.specs.declared.reply.Reply.TheVariants as replies
use Rattle.mt_operation.specs.declared.walk.Aim.TheVariants as aims

-- what comes to do anything else is no scan
pub aim_no_scan : (command : Command) → aim_of command ≢ aims.Scan → is_scan command ≡ false
aim_no_scan (Get key columns) other = refl
aim_no_scan (Put key change) other = refl
aim_no_scan (PutIf key stamp change) other = refl
aim_no_scan (Remove key) other = refl
aim_no_scan (Scan from after count columns) other = absurd (other refl)

-- and a scan removes nothing
pub scan_no_remove : (command : Command) → is_scan command ≡ true → is_remove command ≡ false
scan_no_remove (Get key columns) e = refl
scan_no_remove (Put key change) e = refl
scan_no_remove (PutIf key stamp change) e = refl
scan_no_remove (Remove key) e = absurd (cc)
scan_no_remove (Scan from after count columns) e = refl

-- neither is a get, a put or a removal
pub get_no_scan : (command : Command) → is_get command ≡ true → is_scan command ≡ false
get_no_scan (Get key columns) e = refl
get_no_scan _ e = absurd (cc)

pub put_no_scan : (command : Command) → is_put command ≡ true → is_scan command ≡ false
put_no_scan (Put key change) e = refl
put_no_scan (PutIf key stamp change) e = refl
put_no_scan _ e = absurd (cc)

pub remove_no_scan : (command : Command) → is_remove command ≡ true → is_scan command ≡ false
remove_no_scan (Remove key) e = refl
remove_no_scan _ e = absurd (cc)

-- nor what makes a change
pub change_no_scan : (quota : ℕ) (command : Command) (m : Map) → is_change (reply_of quota command m) ≡ true → is_scan command ≡ false
unfolding reply_of
change_no_scan quota (Get key columns) m e = refl
change_no_scan quota (Put key change) m e = refl
change_no_scan quota (PutIf key stamp change) m e = refl
change_no_scan quota (Remove key) m e = refl
change_no_scan quota (Scan from after count columns) m e = absurd (cc)

-- an operation whose aim is another one is about its command's key
pub owner_of : (c : Core) (op : Operation) → IsOpenOperation c op → (aim : Aim) → op.walk.aim ≡ aim → aim ≢ aims.Scan
    → owned op.task.key ≡ (op.task.tenant, key_of (ask op.task))
owner_of c op k aim at_aim other = k.owner (aim_no_scan (ask op.task) (λ scans. other (sym at_aim ∙ k.aim ∙ scans)))

-- who runs no scan has no scan's answer to be right
pub scan_free : (maps : ℕ → Map) (Between : ℕ → Type 0) (command : Command) (reply : Reply) → is_scan command ≡ false → IsLawfulScan maps Between command reply
scan_free maps Between (Scan from after count columns) reply e = absurd (cc)
scan_free maps Between _ reply e = tt

-- nor has what memory stopped
pub stopped_free : (maps : ℕ → Map) (Between : ℕ → Type 0) (command : Command) → IsLawfulScan maps Between command replies.NoMemory
stopped_free maps Between (Scan from after count columns) = tt
stopped_free maps Between _ = tt

-- no scan answers a change
pub lawful_change : (maps : ℕ → Map) (Between : ℕ → Type 0) (command : Command) (reply : Reply) → IsLawfulScan maps Between command reply
    → is_change reply ≡ true → is_scan command ≡ false
lawful_change maps Between (Scan from after count columns) replies.New h e = absurd h
lawful_change maps Between (Scan from after count columns) replies.Replaced h e = absurd h
lawful_change maps Between (Scan from after count columns) replies.Removed h e = absurd h
lawful_change maps Between (Scan from after count columns) _ h e = absurd (cc)
lawful_change maps Between _ reply h e = refl

-- what was lawful by the maps of some steps is so by those of more
pub lawful_more : (maps : ℕ → Map) (Between Within : ℕ → Type 0) → ((m : ℕ) → Between m → Within m) → (command : Command) (reply : Reply)
    → IsLawfulScan maps Between command reply → IsLawfulScan maps Within command reply
lawful_more maps Between Within more (Scan from after count columns) (replies.Pairs ps) h = record {
  few = h.few;
  rises = h.rises;
  walked = h.walked;
  real = λ k d lt. let w = h.real k d lt in (w.0, more w.0 w.1, w.2);
  whole = λ key walked reached stayed. h.whole key walked reached (λ m between. stayed m (more m between));
}
lawful_more maps Between Within more _ _ h = h

-- what comes to scan is one
pub aim_scan : (command : Command) → aim_of command ≡ aims.Scan → is_scan command ≡ true
aim_scan (Get key columns) e = absurd (cc)
aim_scan (Put key change) e = absurd (cc)
aim_scan (PutIf key stamp change) e = absurd (cc)
aim_scan (Remove key) e = absurd (cc)
aim_scan (Scan from after count columns) e = refl
