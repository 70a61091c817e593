-- The one change of an operation by the outcome that it remembers, phase by phase: for HistorySteps.
use Rattle.std.proofs.{Common.{◌≡◌, ℕ, inl, inr, Bool, true, false, cond, Option, Some, None, sym, refl, ap, ◌∙◌, ◌⊎◌}, lemmas.Option.same_Some}
use Rattle.mt_rows.specs.{declared.reply.Reply.Reply, Maps.is_change}
use Rattle.mt_operation.specs.declared.phase.Phase.{Phase}
use Rattle.mt_operation.specs.declared.phase.Phase.TheVariants.{Enter, Search, Load, Confirm, Forward, Judge, Store, Publish, SplitStart, SplitMove, SplitPrev, LockParent, MakeLayer, DropKey, LockPrev, Unlock, Snap, Check, Hop, Done}
use Rattle.mt_operation.specs.{declared.outcome.Outcome.Outcome, Operations.OperationView, Phases.{MayFollow, is_unplaced}}
use Rattle.mt_state.specs.{Views.StateView, Steps.told_change, Notes.{Says, Notes, Keeps, EndsJudging, EndsScan, stamp_there}}
use Rattle.mt_rows.specs.declared.reply.Reply.TheVariants as replies

-- the change of which an outcome tells, by its number
pub told_change-of : (reply : Reply) (at : ℕ) → is_change reply ≡ true → told_change (Some (record { reply = reply; at = at })) ≡ Some at
told_change-of reply at e = ap (λ b. cond b (Some at) None) e

pub told_change-is : (reply : Reply) (at m : ℕ) → told_change (Some (record { reply = reply; at = at })) ≡ Some m → (is_change reply ≡ true) × (at ≡ m)
told_change-is reply at m e = by (is_change reply) refl e
  where
    by : (b : Bool) → is_change reply ≡ b → cond b (Some at) None ≡ Some m → (is_change reply ≡ true) × (at ≡ m)
    by true is e = (is, same_Some at m e)
    by false is e = absurd (cc)

-- an outcome that tells of no change
untold : (told : Option Outcome) (reply : Reply) (at m : ℕ) → Says told reply at → is_change reply ≡ false → told_change told ≡ Some m → ⊥
untold told reply at m says none e = let both = told_change-is reply at m (sym (ap told_change says) ∙ e) in let no = sym both.0 ∙ none in cc

unnoted : (told : Option Outcome) (m : ℕ) → told ≡ None → told_change told ≡ Some m → ⊥
unnoted told m none e = let no = sym (ap told_change none) ∙ e in cc

keeps_placed : (b : Bool) (had told : Option Outcome) (m : ℕ) → Keeps b had told → told_change told ≡ Some m → b ≡ false
keeps_placed true had told m n e = absurd (unnoted told m n.0 e)
keeps_placed false had told m n e = refl

keeps_same : (b : Bool) (had told : Option Outcome) → Keeps b had told → told ≡ had
keeps_same true had told n = n.0 ∙ sym n.1
keeps_same false had told n = n

-- a step that remembers a change has placed it
pub placed_after : (old : StateView) (op : OperationView) (p q : Phase) (told : Option Outcome) (m : ℕ) → MayFollow p q → Notes old op p q told
    → told_change told ≡ Some m → is_unplaced q ≡ false
placed_after old op Search Confirm told m follows n e = absurd (untold told replies.Absent _ m n.says refl e)
placed_after old op Load Confirm told m follows (inl n) e = absurd (untold told _ n.number m n.says refl e)
placed_after old op Load Confirm told m follows (inr n) e = absurd (unnoted told m n.none e)
placed_after old op Load Done told m follows n e = refl
placed_after old op Confirm Enter told m follows n e = refl
placed_after old op Confirm Forward told m follows n e = refl
placed_after old op Judge Done told m follows n e = refl
placed_after old op Store Unlock told m follows n e = refl
placed_after old op Publish Unlock told m follows n e = refl
placed_after old op SplitStart Done told m follows n e = refl
placed_after old op SplitMove SplitPrev told m follows n e = refl
placed_after old op SplitMove LockParent told m follows n e = refl
placed_after old op SplitMove q told m follows n e = absurd follows
placed_after old op MakeLayer Done told m follows n e = refl
placed_after old op DropKey LockPrev told m follows n e = refl
placed_after old op DropKey Unlock told m follows n e = refl
placed_after old op DropKey q told m follows n e = absurd follows
placed_after old op Snap Done told m follows n e = refl
placed_after old op Check Done told m follows n e = refl
placed_after old op Check q told m follows n e = absurd (unnoted told m n.0 e)
placed_after old op Hop q told m follows n e = absurd (unnoted told m n.0 e)
placed_after old op p q told m follows n e = keeps_placed (is_unplaced q) op.outcome told m n e

-- a judgement that ends an operation which remembers a change, before it or behind it, keeps its outcome
judged_same : (old : StateView) (op : OperationView) (had told : Option Outcome) (m : ℕ) → EndsJudging had old op told
    → (told_change told ≡ Some m) ⊎ (told_change had ≡ Some m) → told ≡ op.outcome
judged_same old op (Some had) told m n e = n
judged_same old op None told m n (inr e) = absurd (cc)
judged_same old op None told m (inl stopped) (inl e) = absurd (untold told replies.NoMemory _ m stopped refl e)
judged_same old op None told m (inr (inl absent)) (inl e) = absurd (untold told replies.Absent _ m absent.1 refl e)
judged_same old op None told m (inr (inr stale)) (inl e) = absurd (untold told (replies.Stale (stamp_there old op)) _ m stale.says refl e)

-- a scan tells of no change
scan_untold : (old : StateView) (told : Option Outcome) (m : ℕ) → EndsScan old told → told_change told ≡ Some m → ⊥
scan_untold old told m (inl stopped) e = untold told replies.NoMemory _ m stopped refl e
scan_untold old told m (inr (ps, shows)) e = untold told (replies.Pairs ps) _ m shows refl e

-- a step that ends its operation with a change ends it with the one that it remembers
pub same_at_end : (old : StateView) (op : OperationView) (p : Phase) (told : Option Outcome) (m : ℕ) → MayFollow p Done → Notes old op p Done told
    → told_change told ≡ Some m → told ≡ op.outcome
same_at_end old op Load told m follows n e = absurd (untold told replies.NoMemory _ m n refl e)
same_at_end old op SplitStart told m follows n e = absurd (untold told replies.NoMemory _ m n refl e)
same_at_end old op MakeLayer told m follows n e = absurd (untold told replies.NoMemory _ m n refl e)
same_at_end old op Judge told m follows n e = judged_same old op op.outcome told m n (inl e)
same_at_end old op SplitMove told m follows n e = absurd follows
same_at_end old op DropKey told m follows n e = absurd follows
same_at_end old op Snap told m follows n e = absurd (untold told replies.NoMemory _ m n refl e)
same_at_end old op Check told m follows n e = absurd (scan_untold old told m n e)
same_at_end old op Hop told m follows n e = absurd follows
same_at_end old op _ told m follows n e = n

-- where its change may be placed already, a step keeps the outcome of its operation, or it ends it as it judges
pub noted_placed : (old : StateView) (op : OperationView) (p q : Phase) (told : Option Outcome) → is_unplaced p ≡ false → Notes old op p q told
    → Keeps (is_unplaced q) op.outcome told ⊎ ((p ≡ Judge) × (q ≡ Done) × EndsJudging op.outcome old op told)
noted_placed old op Search q told placed n = absurd (cc)
noted_placed old op Load q told placed n = absurd (cc)
noted_placed old op Confirm q told placed n = absurd (cc)
noted_placed old op Store q told placed n = absurd (cc)
noted_placed old op Publish q told placed n = absurd (cc)
noted_placed old op SplitStart q told placed n = absurd (cc)
noted_placed old op SplitMove q told placed n = absurd (cc)
noted_placed old op MakeLayer q told placed n = absurd (cc)
noted_placed old op DropKey q told placed n = absurd (cc)
noted_placed old op Snap q told placed n = absurd (cc)
noted_placed old op Check q told placed n = absurd (cc)
noted_placed old op Hop q told placed n = absurd (cc)
noted_placed old op Judge Done told placed n = inr (refl, refl, n)
noted_placed old op p q told placed n = inl n

-- so an operation that remembers a change keeps its outcome
pub same_when_placed : (old : StateView) (op : OperationView) (p q : Phase) (told : Option Outcome) (m : ℕ) → is_unplaced p ≡ false
    → Notes old op p q told → told_change op.outcome ≡ Some m → told ≡ op.outcome
same_when_placed old op p q told m placed n e = elim (noted_placed old op p q told placed n) [
  | inl keeps ↦ keeps_same (is_unplaced q) op.outcome told keeps
  | inr ends ↦ judged_same old op op.outcome told m ends.2 (inr e)
]
