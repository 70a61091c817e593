-- The steps of a removal that take an empty node or an empty layer out: for a removal that has its outcome.
use Rattle.std.proofs.{Common.{◌≡◌, ◌≢◌, ℕ, ◌+◌, ◌<◌, inl, Bool, true, false, List, [], Option, Some, refl, sym, subst, ◌∙◌, arith}, lemmas.Bool.both_ways}
use Rattle.std.specs.Prelude.{◌^◌}
use Rattle.mt_rows.specs.Rows.{Bytes}
use Rattle.mt_arena.specs.Arena.{ArenaView, IsArena}
use Rattle.mt_operation.specs.{declared.walk.Aim.Aim, declared.phase.Phase.Phase}
use Rattle.mt_operation.specs.declared.phase.Phase.TheVariants.{LockPrev, LockAbove, Unlink, FixNext, Collapse, CleanLayer, Unlock, Done, Enter}
use Rattle.mt_operation.specs.{declared.walk.Walk.Walk, declared.removal.Removal.Removal, declared.outcome.Outcome.Outcome, declared.splits.Halves.Halves}
use Rattle.mt_operation.specs.{declared.operation.Operation.Operation, Tasks.ask, Operations.{view_of, IsUnsplit, OperationView}}
use Rattle.mt_operation.specs.Phases.{is_done, MayFollow, IsOfKind, FitsAim, Kind, change_at, holds_of, row, is_unplaced, is_to_come, IsRemovalKind, IsRemovalPhase}
use Rattle.mt_operation.specs.Tables.{op_at as operation_at}
use Rattle.mt_operation.proofs.Phases.{IsBehindBy, behind_removal, by_removal}
use Rattle.mt_descent.specs.WalkMoves.{KeepsPairs}
use Rattle.mt_remove.specs.{Writes.is_remove, KeptRemovals.{IsAmong as IsOfRemoval, HoldsRemoval, KeptRemoval}, Steps.IsRemovalFrom}
use Rattle.mt_state.specs.{Views.{StateView, Core, shown}, Notes.{Notes, Keeps}, Touches.Touches}
use Rattle.mt_state.specs.KeptOperations.{IsOpenOperation, HasAnswer, MayUnlock, MayUnlockUnsplit, IsUnlinking, IsKeptAt, IsKeptFor}
use Rattle.mt_state.specs.{Invariant.{HoldsAt, HoldsBy, HoldsLast, StateInvariant}, Writes.removing, KeptBack.{IsWalkBack, IsBackAt, Retires}}
use Rattle.mt_state.proofs.{Telling.Gives, Moved.went_on, Bound.answered_on, Still.{IsUnready, unready_none, IsUnreadyBy}, Reading.walk_same}
use Rattle.mt_state.proofs.{OneNode.{returning_by, quiet_grows, holds_here, quiet_gives_on}, RemovalNodes.{LeavesNodes, removal_leaves}}
use Rattle.mt_state.proofs.RemovalBy.{removes_by, retires_by, cleans_by}
use Rattle.mt_operation.specs.declared.walk.Aim.TheVariants as aims
use Rattle.mt_operation.specs.Phases as kinds

-- a removal takes a node or a layer out at this phase, or is to give its locks back
abbrev pub HasRemovalBy : Kind → Type 0
HasRemovalBy kinds.Unlinks = Unit {0}
HasRemovalBy kinds.Cleans = Unit {0}
HasRemovalBy kinds.Returns = Unit {0}
HasRemovalBy _ = ⊥

abbrev pub HasRemoval : Phase → Type 0
HasRemoval p = HasRemovalBy (row p).kind

pub takes_removal : (p : Phase) → IsRemovalPhase p → HasRemoval p
takes_removal p i = by (row p).kind i
  where
    by : (of : Kind) → IsRemovalKind of → HasRemovalBy of
    by kinds.Unlinks i = tt
    by kinds.Cleans i = tt
    by _ i = absurd i

-- so it is at each phase at which anything is kept of it
pub has_removal : (p : Phase) (v : ArenaView) (o : ℕ) (key : Bytes) (w : Walk) (r : Removal) → KeptRemoval p v o key w r → HasRemoval p
has_removal LockPrev v o key w r k = tt
has_removal LockAbove v o key w r k = tt
has_removal Unlink v o key w r k = tt
has_removal FixNext v o key w r k = tt
has_removal Collapse v o key w r k = tt
has_removal CleanLayer v o key w r k = tt
has_removal Unlock v o key w r k = tt
has_removal _ v o key w r k = absurd k

pub removal_kind : (p : Phase) → HasRemoval p → (aim : Aim) → aim ≡ aims.Write → IsOfKind p aim
removal_kind p i aim is = by (row p).kind i
  where
    by : (of : Kind) → HasRemovalBy of → FitsAim of aim
    by kinds.Unlinks i = is
    by kinds.Cleans i = is
    by kinds.Returns i = is
    by _ i = absurd i

pub removal_writes : (p : Phase) → HasRemoval p → (aim : Aim) → IsOfKind p aim → aim ≡ aims.Write
removal_writes p i aim kind = by (row p).kind i kind
  where
    by : (of : Kind) → HasRemovalBy of → FitsAim of aim → aim ≡ aims.Write
    by kinds.Unlinks i kind = kind
    by kinds.Cleans i kind = kind
    by kinds.Returns i kind = kind
    by _ i kind = absurd i

pub removal_open : (p : Phase) → HasRemoval p → is_done p ≡ false
removal_open Done i = absurd i
removal_open _ i = refl

pub removal_begun : (p : Phase) → HasRemoval p → p ≢ Enter
removal_begun Enter i e = i
removal_begun _ i e = absurd (cc)

pub removal_unready : (p : Phase) → HasRemoval p → IsUnready p
removal_unready p i = by (row p).kind i
  where
    by : (of : Kind) → HasRemovalBy of → IsUnreadyBy (change_at of)
    by kinds.Unlinks i = tt
    by kinds.Cleans i = tt
    by kinds.Returns i = tt
    by _ i = absurd i

pub removal_settled : (p : Phase) → HasRemoval p → (told : Option Outcome) → Keeps (is_unplaced p) told told
removal_settled p i told = by (row p).kind i
  where
    by : (of : Kind) → HasRemovalBy of → Keeps (is_to_come (change_at of)) told told
    by kinds.Unlinks i = refl
    by kinds.Cleans i = refl
    by kinds.Returns i = refl
    by _ i = absurd i

-- its walk tells nothing of what it remembers
pub removal_back : (p : Phase) → HasRemoval p → (v : ArenaView) (op : Operation) → IsBackAt p v op
removal_back p i v op = by (row p).kind i
  where
    by : (of : Kind) → HasRemovalBy of → IsWalkBack of p v op
    by kinds.Unlinks i = tt
    by kinds.Cleans i = tt
    by kinds.Returns i = tt
    by _ i = absurd i

removal_notes : (p q : Phase) → IsRemovalPhase p → HasRemoval q → (old : StateView) (op : OperationView) → Notes old op p q op.outcome
removal_notes p q i j old op = by_removal (λ p. Notes old op p q op.outcome) settled settled settled settled settled settled p i
  where
    settled : Keeps (is_unplaced q) op.outcome op.outcome
    settled = removal_settled q j op.outcome

-- it holds nodes of its removal; at CleanLayer its border node alone
pub removal_holds : (p : Phase) → IsRemovalPhase p → (op : Operation) (k : ℕ) → HoldsAt p op k → IsOfRemoval op.walk op.removal k
removal_holds p i op k holds = by (row p).kind i holds
  where
    by : (of : Kind) → IsRemovalKind of → HoldsBy (holds_of of) op k → IsOfRemoval op.walk op.removal k
    by kinds.Unlinks i holds = holds
    by kinds.Cleans i holds = inl holds
    by _ i holds = absurd i

pub removal_held : (p : Phase) → IsBehindBy (row p).kind → (op : Operation) (k : ℕ) → op.splits.halves.items ≡ [] → IsOfRemoval op.walk op.removal k
    → HoldsAt p op k
removal_held p i op k none is = by (row p).kind i
  where
    by : (of : Kind) → IsBehindBy of → HoldsBy (holds_of of) op k
    by kinds.Unlinks i = is
    by kinds.Returns i = subst (λ (halves : List Halves). HoldsLast halves op k) (sym none) is
    by _ i = absurd i

-- what is kept of it is what is kept of the removal, and its answer
pub removal_kept : (p : Phase) (c : Core) (o : ℕ) (op : Operation) → is_remove (ask op.task) ≡ true → IsUnsplit op.splits
    → KeptRemoval p c.arena o op.task.key op.walk op.removal → HasAnswer c op → IsKeptAt p c o op
removal_kept LockPrev c o op removes unsplit kept answer = record { removes = removes; kept = kept; answer = answer }
removal_kept LockAbove c o op removes unsplit kept answer = record { removes = removes; kept = kept; answer = answer }
removal_kept Unlink c o op removes unsplit kept answer = record { removes = removes; kept = kept; answer = answer }
removal_kept FixNext c o op removes unsplit kept answer = record { removes = removes; kept = kept; answer = answer }
removal_kept Collapse c o op removes unsplit kept answer = record { removes = removes; kept = kept; answer = answer }
removal_kept CleanLayer c o op removes unsplit kept answer = record { removes = removes; kept = kept; answer = answer }
removal_kept Unlock c o op removes unsplit kept answer =
    returning_by op.outcome answer.outcome answer.told c o op (record {
      unlocks = subst (λ (halves : List Halves). MayUnlock halves c.arena o op) (sym unsplit.halves)
          (subst (λ (b : Bool). MayUnlockUnsplit b c.arena o op) (sym removes) kept, unsplit);
      answer = answer;
    })
removal_kept _ c o op removes unsplit kept answer = absurd kept

-- what is kept of one that takes a node or a layer out
pub unlinking_of : (p : Phase) → IsRemovalPhase p → (c : Core) (o : ℕ) (op : Operation) → IsKeptAt p c o op → IsUnlinking c o op p
unlinking_of p i c o op kept = by (row p).kind i kept
  where
    by : (of : Kind) → IsRemovalKind of → IsKeptFor of p c o op → IsUnlinking c o op p
    by kinds.Unlinks i kept = kept
    by kinds.Cleans i kept = kept
    by _ i kept = absurd i

module _ (c : Core) (o : ℕ) (h : StateInvariant c) (few : c.steps < 2 ^ 59) (op : Operation) (there : operation_at c.table o ≡ Some op) where
  always : IsOpenOperation c op
  always = (h.ops o op there).always

  module _ (takes : IsRemovalPhase op.walk.phase) where
    unlinking : IsUnlinking c o op op.walk.phase
    unlinking = unlinking_of op.walk.phase takes c o op (h.ops o op there).kept

    -- it has split nothing
    unsplit : IsUnsplit op.splits
    unsplit = (h.ops o op there).unsplit (by (row op.walk.phase).kind takes)
      where
        by : (of : Kind) → IsRemovalKind of → kinds.may_be_parts (holds_of of) ≡ false
        by kinds.Unlinks i = refl
        by kinds.Cleans i = refl
        by _ i = absurd i

    -- all that it holds are nodes of its removal
    pub holds_removal : HoldsRemoval c.arena o op.walk op.removal
    holds_removal k within held = removal_holds op.walk.phase takes op k (holds_here c (shown c) o refl h few op there op.walk.phase refl k within held)

    -- it goes on so
    pub removed_on : (arena : ArenaView) (w : Walk) (r : Removal) → LeavesNodes o c.arena arena → Retires c.steps c.arena.retired arena.retired → r.cleans ≡ op.removal.cleans → KeepsPairs o c.arena arena op.walk w
        → MayFollow op.walk.phase w.phase → KeptRemoval w.phase arena o op.task.key w r → HoldsRemoval arena o w r → Touches (view_of op) o c.arena arena
        → Gives (shown c) (removing c arena c.tape c.accounts o op w op.outcome op.prepared r) o false
    removed_on arena w r leaves taken_out cleans keeps follows kept holds touches =
        let p = op.walk.phase in
        let after = went_on op (c.steps + 1) w op.outcome op.prepared op.splits r in
        let new = removing c arena c.tape c.accounts o op w op.outcome op.prepared r in
        let was = takes_removal p takes in
        let leads = has_removal w.phase arena o op.task.key w r kept in
        let whole = walk_same c op always w (always.begun (removal_begun p was)) keeps.same.first in
        let answer = answered_on c new op always (quiet_grows c o arena c.tape.reserved after keeps.contents) w op.prepared op.splits r unlinking.answer.unprepared unlinking.answer in
        quiet_gives_on c (shown c) o refl h few op there arena c.tape.reserved w op.outcome op.prepared op.splits r
        (removal_leaves c o h arena leaves keeps.guarantee keeps.contents taken_out)
        (λ puts. absurd (both_ways _ puts unlinking.removes))
        (removal_open p was) follows keeps.same.aim
        (removal_kind w.phase leads w.aim (keeps.same.aim ∙ removal_writes p was op.walk.aim always.kind)) refl
        (removal_notes p w.phase takes leads (shown c) (view_of op))
        (λ k within held. removal_held w.phase (behind_removal p w.phase takes follows).0 after k unsplit.halves
        (subst (λ (x : Walk). IsOfRemoval x r k) (sym whole) (holds k within held)))
        (removal_kept w.phase new o after unlinking.removes unsplit (subst (λ (x : Walk). KeptRemoval w.phase arena o op.task.key x r) (sym whole) kept) answer)
        (λ facts. removal_back w.phase leads arena after)
        (λ facts u is. (h.remembered o op there).cleans u (sym cleans ∙ is))
        (λ none. unsplit)
        (let none = unready_none op p refl (removal_unready p was) in let no = unready_none after w.phase refl (removal_unready w.phase leads) in omega (arith, none, no))
        touches false (sym (removal_open w.phase leads))

    -- by what its call ensures
    pub removed_done : IsArena c.arena.nodes c.arena.trees → (arena : ArenaView) (w : Walk) (r : Removal)
        → IsRemovalFrom op.walk.phase o (c.steps + 1) op.task.key c.arena arena op.walk w op.removal r
        → Gives (shown c) (removing c arena c.tape c.accounts o op w op.outcome op.prepared r) o false
    removed_done is_arena arena w r from =
        let b = removes_by o (c.steps + 1) op.task.key c.arena arena op.walk w op.removal r is_arena h.deleted op.walk.phase takes unlinking.kept from in
        removed_on arena w r b.leaves
        (retires_by o c.steps op.task.key c.arena arena op.walk w op.removal r is_arena h.deleted h.late op.walk.phase takes unlinking.kept from)
        (cleans_by o (c.steps + 1) op.task.key c.arena arena op.walk w op.removal r is_arena h.deleted op.walk.phase takes unlinking.kept from)
        b.keeps b.follows b.kept (b.holds holds_removal) (b.touched (view_of op) refl)
