-- What the bounds of a walk say at each phase on the way: few steps are made, and none is too many to begin with.
use Rattle.std.proofs.Common.{ℕ, ◌+◌, ◌≤◌, ◌⊎◌, inl, inr, arith}
use Rattle.mt_arena.specs.{Arena.{ArenaView, live_count}, Accesses.at}
use Rattle.mt_operation.specs.declared.phase.Phase.{Phase}
use Rattle.mt_operation.specs.declared.phase.Phase.TheVariants.{Enter, Pick, Child, Verify, Search, Load, Confirm, Forward, Lock, Snap}
use Rattle.mt_operation.specs.{declared.walk.Walk.Walk, Phases.{Kind, row}}
use Rattle.mt_core.{specs.Budgets.{Budget, WalksBy, astray, until}, proofs.Astray.behind_most}
use Rattle.mt_operation.specs.Phases as kinds

-- a walk has come so far at most, or still finds its way
pub few_walked : (p : Phase) (b : Budget) (made : ℕ) (v : ArenaView) (w : Walk) → WalksBy p b made v w → (made ≤ until b w + 2) ⊎ (made ≤ b.lost)
few_walked Enter b made v w few = elim few [ inl now ↦ inl (omega (arith, now.1)) | inr strays ↦ inr (omega (arith, strays)) ]
few_walked Pick b made v w few = elim few [ inl now ↦ inl (omega (arith, now.1)) | inr strays ↦ inr (omega (arith, strays)) ]
few_walked Child b made v w few = elim few [ inl now ↦ inl (omega (arith, now.1)) | inr strays ↦ inr (omega (arith, strays)) ]
few_walked Verify b made v w few = elim few [
  | inl now ↦ inl (omega (arith, now.2))
  | inr lost ↦ elim lost [ inl sees ↦ inr (omega (arith, sees.1)) | inr strays ↦ inr (omega (arith, strays)) ]
]
few_walked Search b made v w few = elim few [ inl now ↦ inl (omega (arith, now.1)) | inr strays ↦ inr (omega (arith, strays)) ]
few_walked Snap b made v w few = elim few [ inl now ↦ inl (omega (arith, now.1)) | inr strays ↦ inr (omega (arith, strays)) ]
few_walked Load b made v w few = elim few [ inl now ↦ inl (omega (arith, now.2)) | inr strays ↦ inr (omega (arith, strays)) ]
few_walked Confirm b made v w few = elim few [ inl now ↦ inl (omega (arith, now.2)) | inr strays ↦ inr (omega (arith, strays)) ]
few_walked Forward b made v w few = elim few [ inl now ↦ inr (omega (arith, now.1)) | inr strays ↦ inr (omega (arith, strays)) ]
few_walked Lock b made v w few = elim few [ inl now ↦ inl (omega (arith, now.1)) | inr strays ↦ inr (omega (arith, strays)) ]
few_walked _ b made v w few = absurd few

-- a walk that has made no step may find its way again, wherever it stands
abbrev pub IsWalkKind : Kind → Type 0
IsWalkKind kinds.Descends = Unit {0}
IsWalkKind kinds.Reads = Unit {0}
IsWalkKind kinds.Locks = Unit {0}
IsWalkKind _ = ⊥

pub none_walked : (p : Phase) → IsWalkKind (row p).kind → (b : Budget) (v : ArenaView) (w : Walk) → astray (live_count v.nodes) ≤ b.lost → WalksBy p b 0 v w
none_walked Enter is b v w lost = inr (omega (arith, lost))
none_walked Pick is b v w lost = inr (omega (arith, lost))
none_walked Child is b v w lost = inr (omega (arith, lost))
none_walked Verify is b v w lost = inr (inr (omega (arith, lost, behind_most v.nodes (at v w.child).low)))
none_walked Search is b v w lost = inr (omega (arith, lost, behind_most v.nodes (at v w.place.node).low))
none_walked Load is b v w lost = inr (omega (arith, lost, behind_most v.nodes (at v w.place.node).low))
none_walked Confirm is b v w lost = inr (omega (arith, lost, behind_most v.nodes (at v w.place.node).low))
none_walked Forward is b v w lost = inr (omega (arith, lost, behind_most v.nodes (at v w.place.node).low))
none_walked Lock is b v w lost = inr (omega (arith, lost, behind_most v.nodes (at v w.place.node).low))
none_walked _ is b v w lost = absurd is

-- the phases of which the bounds of a walk speak are those of a way
abbrev pub IsWayKind : Kind → Type 0
IsWayKind kinds.Scans = Unit {0}
IsWayKind kind = IsWalkKind kind

pub walk_kind : (p : Phase) (b : Budget) (made : ℕ) (v : ArenaView) (w : Walk) → WalksBy p b made v w → IsWayKind (row p).kind
walk_kind Enter b made v w few = tt
walk_kind Pick b made v w few = tt
walk_kind Child b made v w few = tt
walk_kind Verify b made v w few = tt
walk_kind Search b made v w few = tt
walk_kind Load b made v w few = tt
walk_kind Confirm b made v w few = tt
walk_kind Forward b made v w few = tt
walk_kind Lock b made v w few = tt
walk_kind Snap b made v w few = tt
walk_kind _ b made v w few = absurd few
