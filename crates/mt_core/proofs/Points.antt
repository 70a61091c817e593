-- How a step brings an operation on that nobody is in the way of: by the point to which its walk came. For each phase of `Inner`.
use Rattle.std.proofs.{Common.{◌≡◌, ℕ, ◌+◌, inl, inr, Bool, true, false, length, Option, Some, refl, sym, ap, subst, ◌∙◌}, lemmas.Bool.{cases_lt, cases_eq}}
use Rattle.std.proofs.lemmas.Option.{same_Some}
use Rattle.mt_arena.specs.{NodeView.NodeView, Arena.{ArenaView, Guarantee}, Given.StepsFrom}
use Rattle.mt_operation.specs.{declared.phase.Phase.Phase, declared.phase.Phase.TheVariants.Enter, declared.walk.Walk.Walk, declared.splits.Splits.Splits}
use Rattle.mt_operation.specs.{Tasks.ask, declared.operation.Operation.Operation, Tables.{op_at as operation_at}, declared.outcome.Outcome.Outcome}
use Rattle.mt_operation.specs.declared.removal.Removal.{Removal}
use Rattle.mt_rows.specs.{declared.command.Command.Command, Maps.is_scan}
use Rattle.mt_state.{proofs.{Lawful.remove_no_scan, Rely.held_was}, specs.{declared.moves.Move.TheVariants.Moved, Views.Core}}
use Rattle.mt_core.specs.{ScanPoints.IsScanAt, Budgets.AreBelow}
use Rattle.mt_core.specs.Points.{HasMade, HasRemoved, MayHaveGrown, IsAtPoint, IsFreeOfOthers, IsRemovalAt, IsSoFar, IsComing, Nears, RoundsAt}
use Rattle.mt_remove.specs.Writes.{is_remove}

-- the number of the first step says nothing of the point
made_first : (p : Phase) (height made : ℕ) (v : ArenaView) (w : Walk) (s : Splits) (first : ℕ) → HasMade p height made v w s
    → HasMade p height made v (record w { first = first }) s
made_first Enter height made v w s first h = h
made_first _ height made v w s first h = h

pub point_first : (height made : ℕ) (v : ArenaView) (w : Walk) (s : Splits) (first : ℕ) → IsAtPoint height made v w s
    → IsAtPoint height made v (record w { first = first }) s
point_first height made v w s first p = record {
  below = p.below;
  few = made_first w.phase height made v w s first p.few;
}

-- the point of a walk at this phase
pub point_at : (height made : ℕ) (v : ArenaView) (w : Walk) (s : Splits) (p : Phase) → w.phase ≡ p
    → (¬ MayHaveGrown p s.halves.items → AreBelow v height) → HasMade p height made v w s → IsAtPoint height made v w s
point_at height made v w s p is below few = record {
  below = λ other. below (subst (λ (q : Phase). ¬ MayHaveGrown q s.halves.items) is other);
  few = subst (λ (q : Phase). HasMade q height made v w s) (sym is) few;
}

-- and what it says of that phase
module _ (height made : ℕ) (v : ArenaView) (w : Walk) (s : Splits) (p : Phase) (is : w.phase ≡ p) where
  pub below_at : ¬ MayHaveGrown p s.halves.items → IsAtPoint height made v w s → AreBelow v height
  below_at other point = point.below (subst (λ (q : Phase). ¬ MayHaveGrown q s.halves.items) (sym is) other)

  pub few_at : IsAtPoint height made v w s → HasMade p height made v w s
  few_at point = subst (λ (q : Phase). HasMade q height made v w s) is point.few

-- what brings a get or a put on, and what a removal, by which of them it is
so_far : (b : Bool) (height made : ℕ) (v new : ArenaView) (op after : Operation)
    → (IsAtPoint height made v op.walk op.splits → IsAtPoint height (made + 1) new after.walk after.splits)
    → (b ≡ true → IsRemovalAt height made v op.walk op.outcome op.removal → IsRemovalAt height (made + 1) new after.walk after.outcome after.removal)
    → IsSoFar b height made v op → IsSoFar b height (made + 1) new after
so_far true height made v new op after brings removes point = removes refl point
so_far false height made v new op after brings removes point = brings point

-- how far a removal has come that is at this phase
module _ (height made : ℕ) (v : ArenaView) (w : Walk) (told : Option Outcome) (r : Removal) (p : Phase) (is : w.phase ≡ p) (point : IsRemovalAt height made v w told r) where
  pub removed_at : HasRemoved p height point.round made v w
  removed_at = subst (λ (q : Phase). HasRemoved q height point.round made v w) is point.few

  pub rounds_at : RoundsAt p told point.round v w r
  rounds_at = subst (λ (q : Phase). RoundsAt q told point.round v w r) is point.rounds

-- the number of the first step says nothing of it
removed_first : (p : Phase) (height round made : ℕ) (v : ArenaView) (w : Walk) (first : ℕ) → HasRemoved p height round made v w
    → HasRemoved p height round made v (record w { first = first })
removed_first Enter height round made v w first h = h
removed_first _ height round made v w first h = h

rounds_first : (p : Phase) (told : Option Outcome) (round : ℕ) (v : ArenaView) (w : Walk) (first : ℕ) (r : Removal) → RoundsAt p told round v w r
    → RoundsAt p told round v (record w { first = first }) r
rounds_first Enter told round v w first r h = h
rounds_first _ told round v w first r h = h

pub removal_first : (height made : ℕ) (v : ArenaView) (w : Walk) (told : Option Outcome) (r : Removal) (first : ℕ) → IsRemovalAt height made v w told r
    → IsRemovalAt height made v (record w { first = first }) told r
removal_first height made v w told r first p = record {
  round = p.round;
  most = p.most;
  live = p.live;
  rounds = rounds_first w.phase told p.round v w first r p.rounds;
  few = removed_first w.phase height p.round made v w first p.few;
}

-- nobody else comes to hold a node by a step of the operation
pub free_on : (o : ℕ) (old new : ArenaView) → Guarantee o old new → IsFreeOfOthers old o → IsFreeOfOthers new o
free_on o old new g free k q within holds = elim (cases_eq q o) [
  | inl is ↦ is
  | inr other ↦ elim (cases_lt k (length old.nodes)) [
    | inl was ↦ free k q was ((g.nodes.nodes k was).taken q other holds)
    | inr late ↦ absurd (g.nodes.taken_new k q late within other holds)
  ]
]

-- nor if it gives places out, since nobody holds what comes there
pub free_from : (least o : ℕ) (old new : ArenaView) → StepsFrom least o old new → IsFreeOfOthers old o → IsFreeOfOthers new o
free_from least o old new s free = free_on o s.mid new s.step (λ k q within holds. let was = held_was q k old s.mid s.gives within holds in
    free k q was.0 (ap (λ (n : NodeView). n.holder) (sym was.1) ∙ holds))

module _ (c new : Core) (o : ℕ) (op after : Operation) (there : operation_at c.table o ≡ Some op) (came : operation_at new.table o ≡ Some after)
    (stays_free : IsFreeOfOthers c.arena o → IsFreeOfOthers new.arena o) (asked : ask after.task ≡ ask op.task) where
  -- a scan that comes to its next point
  abbrev pub BringsScan : Type 0
  BringsScan = (height trees made : ℕ) → IsScanAt height trees made c.arena op.walk op.scan.stop op.task.key
      → IsScanAt height trees (made + 1) new.arena after.walk after.scan.stop after.task.key

  -- a step brings the operation on whose walk came to the next point, or which has come further with its removal, or with its scan
  pub nears_by : ((height made : ℕ) → IsAtPoint height made c.arena op.walk op.splits → IsAtPoint height (made + 1) new.arena after.walk after.splits)
      → (is_remove (ask op.task) ≡ true → (height made : ℕ) → IsRemovalAt height made c.arena op.walk op.outcome op.removal
      → IsRemovalAt height (made + 1) new.arena after.walk after.outcome after.removal)
      → (is_scan (ask op.task) ≡ true → BringsScan) → Nears c new o Moved
  nears_by brings removes scans height trees made u = record {
    op = after;
    there = came;
    free = stays_free u.free;
    point = subst (λ (command : Command). IsComing (is_scan command) height trees (made + 1) new.arena after) (sym asked)
        (by (is_scan (ask op.task)) refl (subst (λ (x : Operation). IsComing (is_scan (ask x.task)) height trees made c.arena x) (same_Some u.op op (sym u.there ∙ there)) u.point));
  }
    where
      by : (b : Bool) → is_scan (ask op.task) ≡ b → IsComing b height trees made c.arena op → IsComing b height trees (made + 1) new.arena after
      by true is scan = scans is height trees made scan
      by false is point = subst (λ (command : Command). IsSoFar (is_remove command) height (made + 1) new.arena after) (sym asked)
          (so_far (is_remove (ask op.task)) height made c.arena new.arena op after (brings height made) (λ is. removes is height made) point)

  -- a removal alone, by what brings it on
  pub nears_removal : is_remove (ask op.task) ≡ true → ((height made : ℕ) → IsRemovalAt height made c.arena op.walk op.outcome op.removal
      → IsRemovalAt height (made + 1) new.arena after.walk after.outcome after.removal)
      → Nears c new o Moved
  nears_removal is removes height trees made u = record {
    op = after;
    there = came;
    free = stays_free u.free;
    point = subst (λ (command : Command). IsComing (is_scan command) height trees (made + 1) new.arena after) (sym asked)
        (by (is_scan (ask op.task)) (remove_no_scan (ask op.task) is)
        (subst (λ (x : Operation). IsComing (is_scan (ask x.task)) height trees made c.arena x) (same_Some u.op op (sym u.there ∙ there)) u.point));
  }
    where
      by : (b : Bool) → b ≡ false → IsComing b height trees made c.arena op → IsComing b height trees (made + 1) new.arena after
      by true plain scan = absurd (cc)
      by false plain point = subst (λ (command : Command). IsSoFar (is_remove command) height (made + 1) new.arena after) (sym asked)
          (subst (λ (b : Bool). IsSoFar b height (made + 1) new.arena after) (sym is) (removes height made
          (subst (λ (b : Bool). IsSoFar b height made c.arena op) is point)))

  -- and a scan alone
  pub nears_scan : is_scan (ask op.task) ≡ true → BringsScan → Nears c new o Moved
  nears_scan is scans height trees made u = record {
    op = after;
    there = came;
    free = stays_free u.free;
    point = subst (λ (command : Command). IsComing (is_scan command) height trees (made + 1) new.arena after) (sym asked)
        (subst (λ (b : Bool). IsComing b height trees (made + 1) new.arena after) (sym is) (scans height trees made
        (subst (λ (b : Bool). IsComing b height trees made c.arena op) is
        (subst (λ (x : Operation). IsComing (is_scan (ask x.task)) height trees made c.arena x) (same_Some u.op op (sym u.there ∙ there)) u.point))));
  }
