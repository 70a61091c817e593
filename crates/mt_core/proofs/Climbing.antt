-- How near a step of a climb brings its operation, and that no level is new: for `Inner::climb`.
use Rattle.std.proofs.{Common.{List, [], ap, arith, inl, inr, length, refl, subst, sym, false, ℕ, ◌*◌, ◌+◌, ◌<◌, ◌∷◌, ◌∙◌, ◌≡◌, ◌≢◌, ◌≤◌}, lemmas.Bool.cases_lt}
use Rattle.mt_arena.specs.{NodeView.NodeView, Arena.ArenaView, Accesses.at}
use Rattle.mt_operation.proofs.Phases.{by_climb}
use Rattle.mt_operation.specs.{declared.phase.Phase.Phase, declared.phase.Phase.TheVariants.Unlock, declared.walk.Walk.Walk, declared.splits.Halves.Halves}
use Rattle.mt_operation.specs.{declared.splits.Splits.Splits, declared.walk.Aim.Aim, Phases.{IsOfKind, IsClimb}}
use Rattle.mt_insert.specs.KeptSplits.{HasSplits, KeptSplit}
use Rattle.mt_held.specs.Moves.{walk_at}
use Rattle.mt_core.specs.{Budgets.{AreBelow, before_unlock}, Points.{HasMade, HasRemoved, IsAtPoint, MayHaveGrown}}
use Rattle.mt_core.proofs.Points.{below_at, few_at, point_at}
use Rattle.mt_state.proofs.Climbing.{ComesAgain, LeavesNodes}
use Rattle.mt_operation.specs.declared.walk.Aim.TheVariants as aims

-- the node stands on the level of a live one that was there
pub record IsOnLevel (old : ArenaView) (n : NodeView) : Type 0 where
  pub beside : ℕ
  pub there : beside < length old.nodes
  pub live : (at old beside).version.deleted ≡ false
  pub level : n.level ≡ (at old beside).level

-- so does each node that was added, or that came in a place that was given out
pub record AreOnLevels (old new : ArenaView) : Type 0 where
  pub added : (k : ℕ) → length old.nodes ≤ k → k < length new.nodes → IsOnLevel old (at new k)
  pub again : (k : ℕ) → k < length old.nodes → ComesAgain (at old k) (at new k) → IsOnLevel old (at new k)

module _ (least o : ℕ) (old new : ArenaView) (l : LeavesNodes least o old new) where
  -- all nodes stand below a level, where each new one stands on the level of another
  pub stays_below : AreOnLevels old new → (height : ℕ) → AreBelow old height → AreBelow new height
  stays_below levels height below k within live = elim (cases_lt k (length old.nodes)) [
    | inl was ↦ elim (l.each k was) [
      | inl n ↦ omega (arith, n.level, below k was (sym n.deleted ∙ live))
      | inr again ↦ let on = levels.again k was again in omega (arith, on.level, below on.beside on.there on.live)
    ]
    | inr late ↦ let on = levels.added k late within in omega (arith, on.level, below on.beside on.there on.live)
  ]

-- no root was made before a step of a climb
pub climb_ungrown : (p : Phase) → IsClimb p → (l : List Halves) → ¬ MayHaveGrown p l
climb_ungrown Unlock i l grown = i
climb_ungrown _ i l grown = grown

-- one may have been made before the locks of splits are given back
unlock_grown : (l : List Halves) → l ≢ [] → MayHaveGrown Unlock l
unlock_grown [] some = absurd (some refl)
unlock_grown (x ∷ l) some = tt

-- and so many steps are made before that
pub unlock_most : (l : List Halves) (height : ℕ) → l ≢ [] → before_unlock l height ≡ 23 * height + 7
unlock_most [] height some = absurd (some refl)
unlock_most (x ∷ l) height some = refl

-- there are halves at such a phase
pub climbed : (p : Phase) → IsClimb p → (v : ArenaView) (op : ℕ) (s : Splits) → KeptSplit p v op s → HasSplits v op s
climbed p i v op s = by_climb (λ p. KeptSplit p v op s → HasSplits v op s)
    (λ k. k.splits) (λ k. k.named.splits) (λ k. k.at_parent.named.splits) (λ k. k.at_parent.named.splits) (λ k. k.splits) (λ k. k.at_root.named.splits) p i

-- no removal makes such a step
pub climb_none : (p : Phase) → IsClimb p → (height round made : ℕ) (v : ArenaView) (w : Walk) → HasRemoved p height round made v w → ⊥
climb_none p i height round made v w = by_climb (λ p. HasRemoved p height round made v w → ⊥) (λ k. k) (λ k. k) (λ k. k) (λ k. k) (λ k. k) (λ k. k) p i

-- so a step from one phase to another comes nearer, by what it leaves of the nodes and how many steps were made
pub nears_on : (least op : ℕ) (old new : ArenaView) (before after : Walk) (s t : Splits) (p q : Phase) → before.phase ≡ p → IsClimb p → after ≡ walk_at q before
    → LeavesNodes least op old new → (q ≢ Unlock → AreOnLevels old new) → t.halves.items ≢ []
    → ((height made : ℕ) → AreBelow old height → HasMade p height made old before s → HasMade q height (made + 1) new (walk_at q before) t)
    → (height made : ℕ) → IsAtPoint height made old before s → IsAtPoint height (made + 1) new after t
nears_on least op old new before after s t p q at_p climb goes leaves levels some counts_on height made point =
    let at_q : after.phase ≡ q = ap (λ (w : Walk). w.phase) goes in
    let below : AreBelow old height = below_at height made old before s p at_p (climb_ungrown p climb s.halves.items) point in
    point_at height (made + 1) new after t q at_q
    (λ ungrown. stays_below least op old new leaves (levels (λ is. ungrown (subst (λ (x : Phase). MayHaveGrown x t.halves.items) (sym is) (unlock_grown t.halves.items some)))) height below)
    (subst (λ (w : Walk). HasMade q height (made + 1) new w t) (sym goes) (counts_on height made below (few_at height made old before s p at_p point)))

-- and none but a put makes one
pub climb_writes : (p : Phase) → IsClimb p → (aim : Aim) → IsOfKind p aim → aim ≡ aims.Write
climb_writes p i aim = by_climb (λ p. IsOfKind p aim → aim ≡ aims.Write) (λ k. k) (λ k. k) (λ k. k) (λ k. k) (λ k. k) (λ k. k) p i
