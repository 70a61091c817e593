use Rattle.std.proofs.{Common.{◌≡◌, ◌≢◌, ℕ, false, inl, inr, Some, refl, sym, ap, subst, ◌∙◌}, lemmas.Bool.both_ways, lemmas.Option.same_Some}
use Rattle.mt_version.specs.{Parts.Parts, Changes.{IsMarked, IsStable}}
use Rattle.mt_arena.specs.{NodeView.NodeView, Arena.ArenaView, Accesses.at}
use Rattle.mt_operation.specs.{declared.phase.Phase.Phase, declared.phase.Phase.TheVariants.{Load, Lock, LockParent, LockPrev, LockAbove, CleanLayer, Snap, SplitPrev, FixNext, Reparent}}
use Rattle.mt_operation.specs.{declared.walk.Walk.Walk, Operations.{OperationView, ScanView}}
use Rattle.mt_state.specs.{Promises.Blocks, Touches.{NamesAnew, locks_next}}
use Rattle.mt_state.proofs.laws.wrong_steps_are_refused.Goals as goal

unmarked : (p : Parts) → IsStable p → IsMarked p → ⊥
unmarked p stable (inl inserting) = both_ways _ stable.0 inserting
unmarked p stable (inr splitting) = both_ways _ stable.1 splitting

-- the holder of the node that blocks a step is the one that is told
held_by : (p : Phase) (n : NodeView) (w : Walk) (g : ScanView) (holder : ℕ) → Blocks p n w g holder → n.holder ≡ Some holder
held_by Lock n w g holder blocks = blocks
held_by LockParent n w g holder blocks = blocks
held_by Load n w g holder blocks = blocks.by
held_by Snap n w g holder blocks = blocks.by
held_by LockPrev n w g holder blocks = blocks
held_by LockAbove n w g holder blocks = blocks
held_by CleanLayer n w g holder blocks = blocks
held_by _ n w g holder blocks = blocks.by

-- and the node is marked, where it is only to be read
marked_by : (p : Phase) (n : NodeView) (w : Walk) (g : ScanView) (holder : ℕ) → locks_next p ≡ false → p ≢ Load → p ≢ Snap → Blocks p n w g holder → IsMarked n.version
marked_by Lock n w g holder lock load snap blocks = absurd (cc)
marked_by LockParent n w g holder lock load snap blocks = absurd (cc)
marked_by LockPrev n w g holder lock load snap blocks = absurd (cc)
marked_by LockAbove n w g holder lock load snap blocks = absurd (cc)
marked_by CleanLayer n w g holder lock load snap blocks = absurd (cc)
marked_by Load n w g holder lock load snap blocks = absurd (load refl)
marked_by Snap n w g holder lock load snap blocks = absurd (snap refl)
marked_by _ n w g holder lock load snap blocks = blocks.marked

-- a node that names another one anew keeps its keys
same_slots : (p : Phase) (op : OperationView) (v : ArenaView) (k : ℕ) (m : NodeView) → NamesAnew p op v k m → m.slots ≡ (at v k).slots
same_slots SplitPrev op v k m names = ap (λ (n : NodeView). n.slots) names.1
same_slots FixNext op v k m names = ap (λ (n : NodeView). n.slots) names.3
same_slots Reparent op v k m names = ap (λ (n : NodeView). n.slots) names.1
same_slots _ op v k m names = absurd names

-- no other phase does so
names_none : (p : Phase) → p ≢ SplitPrev → p ≢ FixNext → p ≢ Reparent → (op : OperationView) (v : ArenaView) (k : ℕ) (m : NodeView) → ¬ NamesAnew p op v k m
names_none SplitPrev previous fix reparent op v k m names = absurd (previous refl)
names_none FixNext previous fix reparent op v k m names = absurd (fix refl)
names_none Reparent previous fix reparent op v k m names = absurd (reparent refl)
names_none _ previous fix reparent op v k m names = names

pub returns-clause-for_another_node : goal.returns-clause-for_another_node
returns-clause-for_another_node c = λ v phase w s r g k holder needs other way.
    let same = same_Some way.0 k (sym way.1 ∙ needs) in
    other (ap (λ j. (at v j).holder) (sym same) ∙ held_by phase (at v way.0) w g holder way.3)

pub returns-clause-for_none : goal.returns-clause-for_none
returns-clause-for_none c = λ v phase w s r g holder none way. absurd (let no = sym none ∙ way.1 in cc)

pub returns-clause-lock_alone : goal.returns-clause-lock_alone
returns-clause-lock_alone c = λ v phase w s r g k holder lock load snap needs stable way.
    let same = same_Some way.0 k (sym way.1 ∙ needs) in
    unmarked (at v way.0).version (subst (λ j. IsStable (at v j).version) (sym same) stable) (marked_by phase (at v way.0) w g holder lock load snap way.3)

pub returns-clause-of_another : goal.returns-clause-of_another
returns-clause-of_another c = λ op o q k old new touches within other held free. elim (touches k within) [
  | inl same ↦ ap (λ (n : NodeView). n.slots) same
  | inr (inl (inl mine)) ↦ absurd (other (same_Some q o (sym held ∙ mine)))
  | inr (inl (inr (locks, mine))) ↦ absurd (free mine)
  | inr (inr (inl names)) ↦ same_slots op.phase op old k (at new k) names
  | inr (inr (inr (makes, given))) ↦ absurd (let none = sym given.free ∙ held in cc)
]

pub returns-clause-of_nobody : goal.returns-clause-of_nobody
returns-clause-of_nobody c = λ op o k old new touches within previous fix reparent live apart free. elim (touches k within) [
  | inl same ↦ same
  | inr (inl (inl mine)) ↦ absurd (apart mine)
  | inr (inl (inr (locks, mine))) ↦ absurd (free mine)
  | inr (inr (inl names)) ↦ absurd (names_none op.phase previous fix reparent op old k (at new k) names)
  | inr (inr (inr (makes, given))) ↦ absurd (both_ways _ live given.out)
]
