-- A right story of gets alone, from no pairs on, changes no map, and each of its answers finds nothing: for `gets_of_a_new_state_find_nothing`.
use Rattle.std.proofs.Common.{◌≡◌, ℕ, zero, suc, ◌<◌, ◌≤◌, ◌⊎◌, inl, inr, Bool, true, false, not, ◌&&◌, List, Option, Some, None, refl, ap, ◌∙◌, arith}
use Rattle.std.proofs.lemmas.Bool.{both_ways}
use Rattle.std.specs.{FinMap.{empty, get-empty}, Ordering.nat_cmp, Cmp.Lexicographic.slice_cmp}
use Rattle.mt_rows.specs.{declared.command.Command.Command, declared.command.Command.TheVariants.Get, declared.reply.Reply.Reply}
use Rattle.mt_rows.specs.{declared.reply.Reply.TheVariants.{Absent, NoMemory}, Stamps.Stamped}
use Rattle.mt_rows.specs.Maps.{Map, reply_of, told_of_row, is_change, is_get, is_scan, is_no_memory}
use Rattle.mt_runs.specs.{declared.event.Answer.Answer, Runs.{Run, Asked, story_of, last_step, Finished}, Placings.{Quotas, no_pairs, is_placed}}
use Rattle.mt_runs.specs.Right.{Right, IsAnswered}
use Rattle.mt_runs.proofs.Steps.{owner_in}
use Rattle.mt_state.proofs.Lawful.{get_no_scan}

looks_only : (columns : List ℕ) (row : Option Stamped) → is_change (told_of_row columns row) ≡ false
looks_only columns None = refl
looks_only columns (Some row) = refl

-- a get changes nothing
get_looks : (quota : ℕ) (command : Command) (m : Map) → is_get command ≡ true → is_change (reply_of quota command m) ≡ false
unfolding reply_of
get_looks quota (Get key columns) m e = looks_only columns _
get_looks quota _ m e = absurd (cc)

-- and finds nothing where there is no pair
pub get_absent : (quota : ℕ) (command : Command) → is_get command ≡ true → reply_of quota command empty ≡ Absent
unfolding reply_of
get_absent quota (Get key columns) e = ap (told_of_row columns) (get-empty (slice_cmp nat_cmp) key)
get_absent quota _ e = absurd (cc)

stopped : (reply : Reply) → is_no_memory reply ≡ true → reply ≡ NoMemory
stopped NoMemory e = refl
stopped _ e = absurd (cc)

module _ (quotas : Quotas) (run : Run) (map_at : ℕ → ℕ → Map) (changed : ℕ → Bool) (right : Right quotas no_pairs (story_of 0 run) map_at changed)
    (gets : (q : ℕ) (w : Asked) → (story_of 0 run).asked q ≡ Some w → is_get w.command ≡ true) where
  -- no step changes a map
  unchanged : (m : ℕ) → suc m ≤ last_step (story_of 0 run) → changed (suc m) ≡ false
  unchanged m le = by (changed (suc m)) refl
    where
      by : (b : Bool) → changed (suc m) ≡ b → b ≡ false
      by false e = refl
      by true e =
          let c = right.changes m (omega arith) le e in
          absurd (both_ways _ (get_looks (quotas c.what.tenant) c.what.command (map_at c.what.tenant m) (gets c.op c.what c.asked_so)) c.changes)

  -- so there are no pairs after any
  still : (t m : ℕ) → m ≤ last_step (story_of 0 run) → map_at t m ≡ no_pairs t
  still t zero le = right.start t
  still t (suc m) le = right.stays m t (omega arith) le (unchanged m le) ∙ still t m (omega arith)

  never : (m : ℕ) → 0 < m → m ≤ last_step (story_of 0 run) → changed m ≡ true → ⊥
  never zero lt le e = omega (arith, lt)
  never (suc m) lt le e = both_ways _ (unchanged m le) e

  absent : (o : ℕ) (a : Answer) → IsAnswered quotas (story_of 0 run) map_at changed o a → is_placed a ≡ true → (b : Bool) → is_change a.reply ≡ b
      → a.reply ≡ Absent
  absent o a t placed true e =
      let so = t.changed_so placed e in
      let inside = owner_in (story_of 0 run) a.at o so.1 in
      absurd (never a.at inside.0 inside.1 so.0)
  absent o a t placed false e =
      let upto = t.upto placed in
      let inside = owner_in (story_of 0 run) upto.0 o upto.2 in
      t.looked placed e ∙ ap (reply_of (quotas t.what.tenant) t.what.command) (still t.what.tenant a.at (omega (arith, inside.1, upto.1)))
      ∙ get_absent (quotas t.what.tenant) t.what.command (gets o t.what t.asked_so)

  -- and every answer tells of none
  pub found_nothing : (o : ℕ) (a : Answer) → Finished (story_of 0 run) o a → (a.reply ≡ Absent) ⊎ (a.reply ≡ NoMemory)
  found_nothing o a fin = by (is_no_memory a.reply) refl
    where
      by : (b : Bool) → is_no_memory a.reply ≡ b → (a.reply ≡ Absent) ⊎ (a.reply ≡ NoMemory)
      by true e = inr (stopped a.reply e)
      by false e =
          let t = right.answers o a fin in
          let plain : is_scan a.command ≡ false = ap is_scan t.command ∙ get_no_scan t.what.command (gets o t.what t.asked_so) in
          let placed : is_placed a ≡ true = ap (λ b. not b && not (is_no_memory a.reply)) plain ∙ ap not e in
          inl (absent o a t placed (is_change a.reply) refl)
