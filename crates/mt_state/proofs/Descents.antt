-- Where an operation goes that looks for the node of its key: for `descend`, and for the steps of gets.
use Rattle.std.{proofs.Common.{◌≡◌, ℕ, inl, inr, Bool, true, false, cond, Option, refl, sym, subst}, specs.Prelude.nat_le}
use Rattle.mt_version.specs.Parts.{Parts}
use Rattle.mt_rows.specs.{Rows.Bytes, Stamps.Stamped}
use Rattle.mt_arena.specs.{declared.tree.Standing.Standing, declared.tree.Standing.TheVariants.{Made, Live, Dead}, NodeView.NodeView, Arena.ArenaView}
use Rattle.mt_operation.specs.{declared.walk.Aim.Aim, declared.phase.Phase.Phase}
use Rattle.mt_operation.specs.{declared.phase.Phase.TheVariants.{Enter, Pick, Verify, Search, Forward, Lock, Snap}, declared.walk.Walk.Walk}
use Rattle.mt_operation.specs.Phases.{MayFollow, IsOfKind, IsDescent}
use Rattle.mt_operation.proofs.Phases.{by_descent}
use Rattle.mt_descent.specs.WalkMoves.{Continues, arrival, arrival_at, walk_anew, walk_here, walk_to_next, after_enter, after_change, after_forward, Verifies}
use Rattle.mt_descent.specs.{Pasts.Past, KeptWalks.KeptAt}
use Rattle.mt_descent.proofs.Decides.{same_or_not, outdated_or_not}
use Rattle.mt_state.specs.Ways.{IsOnWay, Descends}
use Rattle.mt_operation.specs.declared.walk.Aim.TheVariants as aims

-- what a walk may go on with from a phase, by whether it comes to lock
abbrev pub Leads : Phase → Phase → Aim → Type 0
Leads from to aim = IsOnWay to × MayFollow from to × IsOfKind to aim

-- a walk that came to a node
arrives : (from : Phase) → MayFollow from Pick → MayFollow from Search → MayFollow from Lock → MayFollow from Snap → (border : Bool) (aim : Aim)
    → Leads from (arrival_at border aim) aim
arrives from pick search lock snap true aims.Write = (tt, lock, refl)
arrives from pick search lock snap true aims.Read = (tt, search, refl)
arrives from pick search lock snap true aims.Scan = (tt, snap, refl)
arrives from pick search lock snap false aim = (tt, pick, tt)

turns : (from : Phase) → MayFollow from Search → MayFollow from Lock → MayFollow from Snap → (aim : Aim) → Leads from (arrival aim) aim
turns from search lock snap aims.Write = (tt, lock, refl)
turns from search lock snap aims.Read = (tt, search, refl)
turns from search lock snap aims.Scan = (tt, snap, refl)

-- the same, told of the walks
pub descends : (before after : Walk) → Continues before after → Leads before.phase after.phase after.aim → Descends before after
descends before after same leads = record { on_way = leads.0; same = same; follows = leads.1; kind = leads.2 }

pub entered : (from : Phase) → from ≡ Enter → (standing : Standing) (w : Walk) (root : ℕ) (seen : Parts) (after : Walk)
    → after ≡ after_enter standing w root seen → Leads from after.phase after.aim
entered from e standing w root seen after is =
    subst (λ (p : Phase). Leads p after.phase after.aim) (sym e) (subst (λ (x : Walk). Leads Enter x.phase x.aim) (sym is) (by standing))
  where
    by : (standing : Standing) → Leads Enter (after_enter standing w root seen).phase (after_enter standing w root seen).aim
    by Dead = (tt, tt, tt)
    by Live = arrives Enter tt tt tt tt seen.border w.aim
    by (Made q) = arrives Enter tt tt tt tt seen.border w.aim

pub verified : (n : NodeView) (w after : Walk) → w.phase ≡ Verify → Verifies n w after → Leads w.phase after.phase after.aim
verified n w after e v = subst (λ (p : Phase). Leads p after.phase after.aim) (sym e) (elim (same_or_not n.version w.place.seen) [
  | inl same ↦ subst (λ (x : Walk). Leads Verify x.phase x.aim) (sym (v.same same)) (arrives Verify tt tt tt tt w.child_seen.border w.aim)
  | inr other ↦ elim (outdated_or_not n w.place.seen) [
    | inl outdated ↦ subst (λ (x : Walk). Leads Verify x.phase x.aim) (sym (v.outdated other outdated)) (tt, tt, tt)
    | inr whole ↦ subst (λ (x : Walk). Leads Verify x.phase x.aim) (sym (v.changed other whole)) (tt, tt, tt)
  ]
])

-- a border node that changed leads on
pub changed_leads : (from : Phase) → MayFollow from Enter → MayFollow from Forward → (w : Walk) (seen : Parts) (next : Option ℕ)
    → Leads from (after_change w seen next).phase (after_change w seen next).aim
changed_leads from enter forward w seen next = by seen.deleted
  where
    by : (deleted : Bool) → Leads from (cond deleted (walk_anew w) (record w { place = record w.place { seen = seen }; next = next; phase = Forward })).phase (cond deleted (walk_anew w) (record w { place = record w.place { seen = seen }; next = next; phase = Forward })).aim
    by true = (tt, enter, tt)
    by false = (tt, forward, tt)

pub forwarded : (w : Walk) (slice j : ℕ) (m : NodeView) → Leads Forward (after_forward w slice j m).phase (after_forward w slice j m).aim
forwarded w slice j m = by m.version.deleted (nat_le m.low slice)
  where
    by : (deleted reached : Bool)
        → Leads Forward (cond deleted (walk_anew w) (cond reached (walk_to_next w j m) (walk_here w))).phase (cond deleted (walk_anew w) (cond reached (walk_to_next w j m) (walk_here w))).aim
    by true reached = (tt, tt, tt)
    by false true = (tt, tt, tt)
    by false false = turns Forward tt tt tt w.aim

pub stayed : (w : Walk) → Leads Forward (walk_here w).phase (walk_here w).aim
stayed w = turns Forward tt tt tt w.aim

-- what holds of each phase on the way
pub by_way : (P : Phase → Type 0) → ((p : Phase) → IsDescent p → P p) → P Search → P Lock → P Snap → (p : Phase) → IsOnWay p → P p
by_way P descent search lock snap Search on = search
by_way P descent search lock snap Lock on = lock
by_way P descent search lock snap Snap on = snap
by_way P descent search lock snap p on = descent p on

-- what is kept of a walk on its way does not speak of its first step
pub first_aside : (p : Phase) → IsOnWay p → (v : ArenaView) (past : Past) (key : Bytes) (row : Option Stamped) (w : Walk) (n : ℕ)
    → KeptAt p v past key row w → KeptAt p v past key row (record w { first = n })
first_aside p on v past key row w n =
    by_way (λ q. KeptAt q v past key row w → KeptAt q v past key row (record w { first = n })) (by_descent _
    (λ k. k)
    (λ k. record { through = k.through; covers = k.covers; interior = k.interior })
    (λ k. record { above = record { through = k.above.through; covers = k.above.covers; interior = k.above.interior }; picked = k.picked })
    (λ k. record { above = record { through = k.above.through; covers = k.above.covers; interior = k.above.interior }; picked = k.picked; child = k.child })
    (λ k. record { through = k.through; remembered = k.remembered; border = k.border; next = k.next }))
    (λ k. record { through = k.through; covers = k.covers; border = k.border })
    (λ k. record { through = k.through; covers = k.covers; border = k.border })
    (λ k. record { through = k.through; covers = k.covers; border = k.border })
    p on
