-- How far an operation has come that nobody is in the way of, also where it was disturbed before, and that each of its steps brings it on.
use Rattle.std.specs.Prelude.{◌≡◌, ◌≢◌, ℕ, ◌+◌, ◌-◌, ◌*◌, ◌<◌, ◌≤◌, min, List, ◌∷◌, length, Option, None, Some, Bool, true, false}
use Rattle.mt_arena.specs.{Arena.{ArenaView, live_count}, RootLevels.{levels_above, levels_of}, Accesses.at, Forests.{layer_of, tree_at}}
use Rattle.mt_operation.specs.{declared.phase.Phase.Phase, declared.phase.Phase.TheVariants.{Reparent, Unlock}, declared.walk.Walk.Walk}
use Rattle.mt_operation.specs.{declared.splits.Halves.Halves, declared.splits.Splits.Splits, declared.operation.Operation.Operation}
use Rattle.mt_operation.specs.{Tables.{op_at as operation_at}, Tasks.ask, declared.outcome.Outcome.Outcome, declared.removal.Removal.Removal}
use Rattle.mt_operation.specs.Phases.{Kind, row}
use Rattle.mt_insert.specs.KeptSplits.{last_of}
use Rattle.mt_state.specs.{declared.moves.Move.Move, declared.moves.Move.TheVariants.Moved, Views.{Core, shown}, Promises.Tells, Phases.LeadsOn}
use Rattle.mt_rows.specs.Maps.{is_scan}
use Rattle.mt_remove.specs.Writes.{is_remove}
use Rattle.mt_core.specs.{Budgets.{AreBelow, astray, split_level, above, before_unlock, Budget, until, WalksBy, budget_of}, ScanPoints.IsScanAt}
use Rattle.mt_operation.specs.Phases as kinds

-- how many children of the last right half are still to be told of it
abbrev pub untold : Phase → ArenaView → Splits → ℕ
untold Reparent v s = length (at v (last_of s).right).children - s.moved
untold _ v s = 0

-- How many steps a get or a put has made at most that comes to a phase of this kind: on its way those of a walk; once it holds its border node as many more
-- as the phase's rank tells, and twenty for each level up to which it has split nodes.
abbrev pub MadeBy : Kind → Phase → ℕ → ℕ → ArenaView → Walk → Splits → Type 0
MadeBy kinds.Descends p height made v w s = WalksBy p (budget_of height) made v w
MadeBy kinds.Reads p height made v w s = WalksBy p (budget_of height) made v w
MadeBy kinds.Scans p height made v w s = WalksBy p (budget_of height) made v w
MadeBy kinds.Locks p height made v w s = WalksBy p (budget_of height) made v w
MadeBy kinds.Judges p height made v w s = made ≤ above height w + 3 * height + (row p).rank
MadeBy kinds.Writes p height made v w s = made ≤ above height w + 3 * height + (row p).rank
MadeBy kinds.Begins p height made v w s = made ≤ above height w + 3 * height + (row p).rank
MadeBy kinds.Splits p height made v w s = made ≤ above height w + 3 * height + (row p).rank
MadeBy kinds.Layers p height made v w s = made ≤ above height w + 3 * height + (row p).rank
MadeBy kinds.Climbs p height made v w s = made + untold p v s ≤ above height w + 3 * height + 20 * split_level v s + (row p).rank
MadeBy kinds.Returns p height made v w s = made ≤ above height w + before_unlock s.halves.items height
MadeBy _ p height made v w s = ⊥

abbrev pub HasMade : Phase → ℕ → ℕ → ArenaView → Walk → Splits → Type 0
HasMade p height made v w s = MadeBy (row p).kind p height made v w s

-- the step before may have made a root
abbrev pub MayHaveGrown : Phase → List Halves → Type 0
MayHaveGrown Unlock (_ ∷ _) = Unit {0}
MayHaveGrown _ halves = ⊥

-- how far it has come; a root is made only in the step before the last
pub record IsAtPoint (height made : ℕ) (v : ArenaView) (w : Walk) (s : Splits) : Type 0 where
  pub below : ¬ MayHaveGrown w.phase s.halves.items → AreBelow v height
  pub few : HasMade w.phase height made v w s

-- How many steps a removal has made at most before its rounds to the links of empty layers: in so many, among so many live nodes. In each it goes down the
-- trees of the layers above, which have no more levels together than nodes are live, and takes out what is empty there.
abbrev pub before_round : ℕ → ℕ → ℕ
before_round height round = astray height + 3 * height + round * (3 * height + 404)

-- a removal in its round of this number
abbrev pub round_budget : ℕ → ℕ → ArenaView → Budget
round_budget height round v = record {
  lost = astray height;
  enters = λ layer. before_round height round + 3 * min (levels_above v.nodes v.trees layer) height + 12 * min layer 31;
  tall = λ t. min (levels_of v.nodes (tree_at v.trees t)) height;
}

-- how many steps a removal has made at most that comes to a phase of this kind in its round of this number
abbrev pub RemovedBy : Kind → Phase → ℕ → ℕ → ℕ → ArenaView → Walk → Type 0
RemovedBy kinds.Descends p height round made v w = WalksBy p (round_budget height round v) made v w
RemovedBy kinds.Reads p height round made v w = WalksBy p (round_budget height round v) made v w
RemovedBy kinds.Scans p height round made v w = WalksBy p (round_budget height round v) made v w
RemovedBy kinds.Locks p height round made v w = WalksBy p (round_budget height round v) made v w
RemovedBy kinds.Judges p height round made v w = made ≤ until (round_budget height round v) w + (row p).rank
RemovedBy kinds.Drops p height round made v w = made + 12 ≤ before_round height (round + 1) + (row p).rank
RemovedBy kinds.Unlinks p height round made v w = made + 12 ≤ before_round height (round + 1) + (row p).rank
RemovedBy kinds.Cleans p height round made v w = made + 12 ≤ before_round height (round + 1) + (row p).rank
RemovedBy kinds.Returns p height round made v w = made + 12 ≤ before_round height (round + 1) + (row p).rank
RemovedBy _ p height round made v w = ⊥

abbrev pub HasRemoved : Phase → ℕ → ℕ → ℕ → ArenaView → Walk → Type 0
HasRemoved p height round made v w = RemovedBy (row p).kind p height round made v w

-- so many rounds are behind it as layers above which it has still to look
abbrev pub HasRounds : Option Outcome → ℕ → ArenaView → Removal → Type 0
HasRounds None round v r = round ≡ 0
HasRounds (Some told) round v r = (t : ℕ) → r.cleans ≡ Some t → round + layer_of (tree_at v.trees t).prefix ≤ 32

abbrev pub RoundsBy : Kind → Option Outcome → ℕ → ArenaView → Walk → Removal → Type 0
RoundsBy kinds.Drops told round v w r = round + w.layer ≤ 31
RoundsBy kinds.Unlinks told round v w r = round + w.layer ≤ 31
RoundsBy kinds.Cleans told round v w r = round + w.layer ≤ 31
RoundsBy kinds.Returns told round v w r = (round + w.layer ≤ 31) × (told ≢ None)
RoundsBy kind told round v w r = HasRounds told round v r

abbrev pub RoundsAt : Phase → Option Outcome → ℕ → ArenaView → Walk → Removal → Type 0
RoundsAt p told round v w r = RoundsBy (row p).kind told round v w r

-- how far a removal has come
pub record IsRemovalAt (height made : ℕ) (v : ArenaView) (w : Walk) (told : Option Outcome) (r : Removal) : Type 0 where
  pub round : ℕ
  pub most : round ≤ 32
  pub live : live_count v.nodes ≤ height
  pub rounds : RoundsAt w.phase told round v w r
  pub few : HasRemoved w.phase height round made v w

-- how far an operation has come
abbrev pub IsSoFar : Bool → ℕ → ℕ → ArenaView → Operation → Type 0
IsSoFar true height made v op = IsRemovalAt height made v op.walk op.outcome op.removal
IsSoFar false height made v op = IsAtPoint height made v op.walk op.splits

-- how far an operation has come, by whether it scans
abbrev pub IsComing : Bool → ℕ → ℕ → ℕ → ArenaView → Operation → Type 0
IsComing true height trees made v op = IsScanAt height trees made v op.walk op.scan.stop op.task.key
IsComing false height trees made v op = IsSoFar (is_remove (ask op.task)) height made v op

-- nobody but this operation holds a node
abbrev pub IsFreeOfOthers : ArenaView → ℕ → Type 0
IsFreeOfOthers v o = (k q : ℕ) → k < length v.nodes → (at v k).holder ≡ Some q → q ≡ o

-- operation o has made so many steps, and nobody else holds a node
pub record IsUnhindered (c : Core) (o height trees made : ℕ) : Type 0 where
  pub op : Operation
  pub there : operation_at c.table o ≡ Some op
  pub free : IsFreeOfOthers c.arena o
  pub point : IsComing (is_scan (ask op.task)) height trees made c.arena op

-- a step that moves the operation brings it on
abbrev pub Nears : Core → Core → ℕ → Move → Type 0
Nears old new o Moved = (height trees made : ℕ) → IsUnhindered old o height trees made → IsUnhindered new o height trees (made + 1)
Nears old new o answer = Unit {0}

-- what a step answers, where it leads, and that it brings on whom nobody is in the way of
pub record StepsOn (old new : Core) (o : ℕ) (answer : Move) : Type 0 where
  pub tells : Tells (shown old) (shown new) o answer
  pub nears : Nears old new o answer
  pub leads : LeadsOn (shown old) (shown new) o answer
