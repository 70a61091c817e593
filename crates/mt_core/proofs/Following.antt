-- The table after a step, the state that it leaves, and who may be in its way: for each step that an operation makes in its place.
use Rattle.std.proofs.Common.{◌≡◌, ℕ, zero, suc, ◌+◌, ◌<◌, Bool, false, List, [], ◌∷◌, length, set, Option, Some, None, refl, sym, ap, subst, ◌∙◌}
use Rattle.std.specs.Prelude.{slice_index_or}
use Rattle.mt_rows.specs.{Accounts.Accounts, Maps.is_scan}
use Rattle.mt_tape.specs.Tapes.{Kept}
use Rattle.mt_arena.specs.{NodeView.NodeView, Arena.ArenaView, Accesses.at}
use Rattle.mt_operation.specs.declared.phase.Phase.{Phase}
use Rattle.mt_operation.specs.{declared.phase.Phase.TheVariants.{Load, Lock, LockParent, LockPrev, LockAbove, CleanLayer, Done, Snap}, declared.walk.Walk.Walk}
use Rattle.mt_operation.specs.{declared.operation.Operation.Operation, Operations.{SplitsView, ScanView}, Phases.{is_done, IsOfKind}, declared.walk.Aim.Aim}
use Rattle.mt_operation.specs.{Tasks.ask, Tables.{Table, op_at as operation_at}, declared.removal.Removal.Removal}
use Rattle.mt_state.{proofs.{Lawful.aim_no_scan, Telling.Gives}, specs.{Views.{Core, shown}, Promises.{Blocks, IsInTheWay}, Invariant.{HoldsAt, StateInvariant}, KeptBack.ArenaFacts}}
use Rattle.mt_operation.specs.declared.walk.Aim.TheVariants as aims

-- what is written over itself stays
pub set_back : {A : Type 0} (table : List (Option A)) (o : ℕ) (x : A) → slice_index_or table o None ≡ Some x → set table o (Some x) ≡ table
set_back [] o x is = refl
set_back (y ∷ table) zero x is = ap (λ z. z ∷ table) (sym is)
set_back (y ∷ table) (suc o) x is = ap (λ t. y ∷ t) (set_back table o x is)

-- the table has this operation at the id, and all others as they were
pub record IsOver (old table : Table) (o : ℕ) (x : Operation) : Type 0 where
  pub is : table ≡ set old o (Some x)
  pub there : operation_at table o ≡ Some x

-- who holds a node has a step left
pub holder_open : (p : Phase) (op : Operation) (k : ℕ) → HoldsAt p op k → is_done p ≡ false
holder_open Done op k holds = absurd holds
holder_open _ op k holds = refl

-- and who is in the way of a step holds one
pub in_the_way : (v : ArenaView) (p : Phase) (w : Walk) (s : SplitsView) (rem : Removal) (g : ScanView) (holder : ℕ) → IsInTheWay v p w s rem g holder
    → (k : ℕ) × (k < length v.nodes) × ((at v k).holder ≡ Some holder)
in_the_way v p w s rem g holder way = (way.0, way.2, held_by p (at v way.0) way.3)
  where
    held_by : (q : Phase) (n : NodeView) → Blocks q n w g holder → n.holder ≡ Some holder
    held_by Lock n blocks = blocks
    held_by LockParent n blocks = blocks
    held_by LockPrev n blocks = blocks
    held_by LockAbove n blocks = blocks
    held_by CleanLayer n blocks = blocks
    held_by Load n blocks = blocks.by
    held_by Snap n blocks = blocks.by
    held_by _ n blocks = blocks.by

-- the state keeps its invariant, by what its arena keeps before and after the step
abbrev pub IsSound : ArenaView → Core → Type 0
IsSound was new = ArenaFacts was → ArenaFacts new.arena → StateInvariant new

-- the same, where the step was told of the state as it is shown
pub sound_by : (c now new : Core) (o : ℕ) (done : Bool) → c ≡ now → Gives (shown now) new o done → IsSound c.arena new
sound_by c now new o done is g = λ were are. g.0 (subst (λ (v : Core). ArenaFacts v.arena) is were) are

-- the state after the step, by what is left of it
abbrev pub made : Core → ArenaView → Kept → Accounts → Table → Core
made c arena tape accounts table = record c { steps = c.steps + 1; accounts = accounts; arena = arena; tape = tape; table = table }

-- an operation at a phase of writes is no scan
pub write_no_scan : (c : Core) (o : ℕ) → StateInvariant c → (op : Operation) → operation_at c.table o ≡ Some op → (p : Phase) → op.walk.phase ≡ p
    → ((aim : Aim) → IsOfKind p aim → aim ≡ aims.Write) → is_scan (ask op.task) ≡ false
write_no_scan c o h op there p at_p writes =
    let always = (h.ops o op there).always in
    let aim = writes op.walk.aim (subst (λ (q : Phase). IsOfKind q op.walk.aim) at_p always.kind) in
    aim_no_scan (ask op.task) (λ scans. let both : aims.Scan ≡ aims.Write = sym scans ∙ sym always.aim ∙ aim in cc)
