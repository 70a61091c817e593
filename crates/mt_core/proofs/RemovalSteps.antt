-- The steps of a removal by the ensures of the calls that they make: for `Inner::judge_removal`, `drop_key`, `take_out`, `unlock_removal`, `lock_back` and `judge_back`.
use Rattle.std.proofs.Common.{IsSome, List, None, Option, Some, [], ap, arith, false, inl, inr, length, refl, set, subst, suc, sym, true, zero, ℕ, ◌+◌, ◌<◌, ◌∙◌, ◌∷◌, ◌≡◌, ◌≢◌}
use Rattle.std.proofs.lemmas.Bool.{cases_eq}
use Rattle.std.specs.{Prelude.{IfSome, ◌^◌, ◌⊎◌, ◌≤◌}, Option.option_map}
use Rattle.mt_state.proofs.{SplitSteps.is_held_or_not, Telling.Gives}
use Rattle.mt_state.proofs.Needs.{drop_removes, judge_kept, lock_kept, removal_kept_at, removal_of, removal_unlock_kept, removal_unlock_room}
use Rattle.mt_state.proofs.{RemovalBy.{removal_leads, removes_by}, RemovalDrop.drop_done}
use Rattle.mt_state.proofs.RemovalLooks.{back_ended, drop_missing, drop_ready, going_back, lock_back, removal_returned, empties_or_not}
use Rattle.mt_state.proofs.RemovalSteps.{removed_done, unlinking_of}
use Rattle.mt_state.specs.{declared.moves.Move.Move, declared.moves.Move.TheVariants.{Done as DoneMove, Moved}, Views.{Core, StateView, shown}}
use Rattle.mt_state.specs.{Promises.{IsInTheWay, IsStep}, Phases.{GoesFromUnlock, JudgesBy, Leads, LocksBy, ReturnsBy}, KeptOperations.{IsKeptAt, IsOnItsWay}}
use Rattle.mt_state.specs.Invariant.{StateInvariant}
use Rattle.mt_version.specs.Changes.{CanUnlock}
use Rattle.mt_rows.specs.{declared.command.Command.Command, declared.reply.Reply.TheVariants.{Absent, Removed}, Accounts.Accounts}
use Rattle.mt_tape.specs.Tapes.{Kept}
use Rattle.mt_arena.specs.{NodeView.{NodeView, node_at}, Arena.{ArenaView, Guarantee, IsArena, live_count}, Forests.tree_at, Accesses.at}
use Rattle.mt_arena.proofs.Elsewhere.{layer_is}
use Rattle.mt_operation.specs.{declared.phase.Phase.Phase, declared.phase.Phase.TheVariants.{CleanLayer, Done, DropKey, Enter, Judge, Lock, Unlock}}
use Rattle.mt_operation.specs.{declared.walk.Walk.Walk, declared.splits.Halves.Halves, declared.removal.Removal.Removal, declared.outcome.Outcome.Outcome}
use Rattle.mt_operation.specs.{declared.prepared.Prepared.Prepared, declared.operation.Operation.Operation}
use Rattle.mt_operation.specs.Operations.{SplitsView, ScanView, made_ready, moved, noted, splits_of, with_nothing_ready, with_removal}
use Rattle.mt_operation.specs.{Phases.{IsRemovalPhase, is_done}, Tables.{Table, op_at as operation_at}, Tasks.ask}
use Rattle.mt_remove.specs.{DropKey.IsDropKey, Judge.{FindsAbsent, IsMadeReady}, KeptRemovals.{IsAmong, IsAtUnlockRemoval, KeptRemoval}, RemovalEdits.root_of}
use Rattle.mt_remove.specs.{Steps.IsRemovalFrom, Unlock.IsUnlockRemoval, Ways.{Follows, IsLockWay}, Writes.is_remove}
use Rattle.mt_core.specs.{Nexts.ending, Points.{IsRemovalAt, Nears, StepsOn}}
use Rattle.mt_core.proofs.{Following.{IsOver, IsSound, made}, Leading.{no_step, leads_over}, Points.{free_on, nears_removal, removal_first, removed_at, rounds_at}}
use Rattle.mt_core.proofs.RemovalNears.{back_lock, back_removal, emptied_removal, live_fewer, live_stays, ready_removal, shallow_layer, taken_removal, taken_walk, tree_layer, tree_stands}
use Rattle.mt_core.proofs.PutSteps.{judges_none, link_made}

-- a node that is held is there
held_there : (nodes : List NodeView) (k o : ℕ) → (node_at nodes k).holder ≡ Some o → k < length nodes
held_there [] k o held = absurd (cc)
held_there (n ∷ nodes) zero o held = omega arith
held_there (n ∷ nodes) (suc k) o held = omega (arith, held_there nodes k o held)

-- who holds the root of the layer below is in the way of its removal
pub cleaning_waits : (v : ArenaView) (w : Walk) (r : Removal) → w.phase ≡ CleanLayer → (result : Option ℕ)
    → IfSome result (λ holder. (tree : ℕ) × (r.cleans ≡ Some tree) × ((at v (root_of v tree)).holder ≡ Some holder))
    → IfSome result (λ holder. (s : SplitsView) (g : ScanView) → IsInTheWay v w.phase w s r g holder)
cleaning_waits v w r at_clean None held = tt
cleaning_waits v w r at_clean (Some holder) held = λ s g. subst (λ (p : Phase). IsInTheWay v p w s r g holder) (sym at_clean)
    (root_of v held.0, ap (option_map (λ tree. root_of v tree)) held.1, held_there v.nodes (root_of v held.0) holder held.2, held.2)

-- what is there is not none
pub some_ready : (ready : Option Prepared) → IsSome ready → ready ≢ None
some_ready None some e = absurd (cc)
some_ready (Some prepared) some e = absurd (cc)

-- whether a node is one of a removal can be told
among_or_not : (w : Walk) (r : Removal) (k : ℕ) → IsAmong w r k ⊎ ¬ IsAmong w r k
among_or_not w r k = elim (cases_eq k w.place.node) [
  | inl node ↦ inl (inl node)
  | inr no_node ↦ elim (is_held_or_not r.left k) [
    | inl left ↦ inl (inr (inl left))
    | inr no_left ↦ elim (is_held_or_not r.parent k) [
      | inl parent ↦ inl (inr (inr (inl parent)))
      | inr no_parent ↦ elim (is_held_or_not r.below k) [
        | inl below ↦ inl (inr (inr (inr below)))
        | inr no_below ↦ inr (λ among. elim among [
          | inl node ↦ no_node node
          | inr (inl left) ↦ no_left left
          | inr (inr (inl parent)) ↦ no_parent parent
          | inr (inr (inr below)) ↦ no_below below
        ])
      ]
    ]
  ]
]

-- where a removal goes from Unlock that has split nothing
returns_from : (told : Option Outcome) → told ≢ None → (halves : List Halves) → halves ≡ [] → (o : ℕ) (v u : ArenaView) (w x : Walk) (r t : Removal)
    → IsUnlockRemoval o v u w x r t → (s : SplitsView) → s.halves ≡ halves → GoesFromUnlock told v s r w x
returns_from None some halves none o v u w x r t is s same = absurd (some refl)
returns_from (Some told) some halves none o v u w x r t is s same =
    subst (λ (hs : List Halves). ReturnsBy hs v r w x) (sym (same ∙ none)) (record { cleans = λ e. (is.cleans e).0; ends = λ e. (is.ends e).0 })

-- one that was told something goes back as it locks, so it removes
lock_removes : (c : Core) (o : ℕ) → StateInvariant c → (x : Operation) → operation_at c.table o ≡ Some x → x.walk.phase ≡ Lock → x.outcome ≢ None
    → is_remove (ask x.task) ≡ true
lock_removes c o h x there at_lock told =
    let way : IsOnItsWay c x = subst (λ (p : Phase). IsKeptAt p c o x) at_lock (h.ops o x there).kept in (going_back x.outcome told c x way.bound).removes

-- and so does one that takes a node or a layer out
take_removes : (c : Core) (o : ℕ) → StateInvariant c → (x : Operation) → operation_at c.table o ≡ Some x → IsRemovalPhase x.walk.phase
    → is_remove (ask x.task) ≡ true
take_removes c o h x there takes = (unlinking_of x.walk.phase takes c o x (h.ops o x there).kept).removes

module _ (c now : Core) (o : ℕ) (is : c ≡ now) (h : StateInvariant c) (few : now.steps < 2 ^ 59) (x : Operation) (there : operation_at c.table o ≡ Some x) where
  few_here : c.steps < 2 ^ 59
  few_here = subst (λ (v : Core). v.steps < 2 ^ 59) (sym is) few

  -- a step brings the removal on
  nears_by_removal : is_remove (ask x.task) ≡ true → (arena : ArenaView) (tape : Kept) (accounts : Accounts) (table : Table) (after : Operation)
      → IsOver c.table table o after → after.task ≡ x.task → Guarantee o c.arena arena
      → ((height n : ℕ) → IsRemovalAt height n c.arena x.walk x.outcome x.removal → IsRemovalAt height (n + 1) arena after.walk after.outcome after.removal)
      → Nears now (made c arena tape accounts table) o Moved
  nears_by_removal removes arena tape accounts table after over asked guarantee brings = subst (λ (v : Core). Nears v (made c arena tape accounts table) o Moved) is
      (nears_removal c (made c arena tape accounts table) o x after there over.there (free_on o c.arena arena guarantee) (ap ask asked) removes brings)

  -- what is told of one that moves, and of one that ends
  moves_on : (new : Core) → Gives (shown c) new o false → Nears now new o Moved → Leads (shown now) (shown new) o → IsSound c.arena new × StepsOn now new o Moved
  moves_on new g nears leads = (g.0, record { tells = subst (λ (v : StateView). IsStep v (shown new) o false) (ap shown is) g.1; nears = nears; leads = leads })

  ends_it : (new : Core) → Gives (shown c) new o true → Leads (shown now) (shown new) o → IsSound c.arena new × StepsOn now new o DoneMove
  ends_it new g leads = (g.0, record { tells = subst (λ (v : StateView). IsStep v (shown new) o true) (ap shown is) g.1; nears = tt; leads = leads })

  -- Judge: all that was made ready, or no key
  module _ (at_judge : x.walk.phase ≡ Judge) (untold : x.outcome ≡ None) (removes : is_remove (ask x.task) ≡ true) where
    pub removal_ready : IsArena c.arena.nodes c.arena.trees → (arena : ArenaView) (tape : Kept) (w : Walk) (prepared : Prepared) (table : Table)
        → IsMadeReady o x.task c.arena arena c.tape tape x.walk w prepared → IsOver c.table table o (made_ready (moved x (c.steps + 1) w) prepared)
        → IsSound c.arena (made c arena tape c.accounts table) × StepsOn now (made c arena tape c.accounts table) o Moved
    removal_ready is_arena arena tape w prepared table t over =
        let judged = (judge_kept c o h x there at_judge).judged in
        let through = judged.at_border.through in
        let of = judged.at_border.covers.remembered.tree_is in
        let after = made_ready (moved x (c.steps + 1) w) prepared in
        moves_on (made c arena tape c.accounts table)
        (subst (λ (all : Table). Gives (shown c) (made c arena tape c.accounts all) o false) (sym over.is)
        (drop_ready c o h few_here x there at_judge untold (removal_of c o h x there removes) removes arena tape w prepared t))
        (nears_by_removal removes arena tape c.accounts table after over refl t.keeps.guarantee (λ height n point. removal_first height (n + 1) arena w x.outcome x.removal after.walk.first
        (subst (λ (v : ArenaView). IsRemovalAt height (n + 1) v w x.outcome x.removal) (sym t.stays) (subst (λ (told : Option Outcome). IsRemovalAt height (n + 1) c.arena w told x.removal) (sym untold)
        (ready_removal c.arena x.walk w t.slot x.removal t.walk at_judge is_arena through.there (tree_stands c.arena is_arena x.task.key x.walk through judged.held.there of judged.stands.live)
        (tree_layer c.arena is_arena x.task.key x.walk through judged.held.there of judged.stands.live) (shallow_layer x.walk.layer x.task.key (h.ops o x there).always.stored through.begun) height n
        (subst (λ (told : Option Outcome). IsRemovalAt height n c.arena x.walk told x.removal) untold point))))))
        (leads_over c o h x there Judge at_judge now is arena tape c.accounts table _ over w
        (judges_none untold (inr (inr (inr (inl (record { slot = t.slot; stands = t.in_slot; goes = t.walk })))))) refl refl)

    pub removal_missing : (arena : ArenaView) (tape : Kept) (w : Walk) (table : Table) → tape ≡ c.tape → FindsAbsent o x.task c.arena arena x.walk w
        → IsOver c.table table o (noted (moved x (c.steps + 1) w) (Some (record { reply = Absent; at = c.steps + 1 })))
        → IsSound c.arena (made c arena tape c.accounts table) × StepsOn now (made c arena tape c.accounts table) o DoneMove
    removal_missing arena tape w table keeps t over =
        let told : Outcome = record { reply = Absent; at = c.steps + 1 } in
        ends_it (made c arena tape c.accounts table)
        (subst (λ (all : Table). Gives (shown c) (made c arena tape c.accounts all) o true) (sym over.is)
        (subst (λ (k : Kept). Gives (shown c) (made c arena k c.accounts (set c.table o (Some (noted (moved x (c.steps + 1) w) (Some told))))) o true) (sym keeps)
        (drop_missing c o h few_here x there at_judge untold (removal_of c o h x there removes) removes arena w t)))
        (leads_over c o h x there Judge at_judge now is arena tape c.accounts table _ over w
        (judges_none untold (inr (inr (inr (inr (inl (record { found = t.found; finds = t.finds; absent = t.absent; goes = t.unlocks.walk }))))))) refl refl)

  -- Judge on the way back: a link is followed, or there is none
  module _ (at_judge : x.walk.phase ≡ Judge) (told : x.outcome ≢ None) where
    pub follow_made : IsArena c.arena.nodes c.arena.trees → (arena : ArenaView) (w : Walk) (table : Table) → Follows o x.task.key c.arena arena x.walk w
        → IsOver c.table table o (moved x (c.steps + 1) w)
        → (answer : Move) → answer ≡ ending w.phase
        → IsSound c.arena (made c arena c.tape c.accounts table) × StepsOn now (made c arena c.tape c.accounts table) o answer
    follow_made is_arena arena w table (inl t) over answer says =
        subst (λ (a : Move). IsSound c.arena (made c arena c.tape c.accounts table) × StepsOn now (made c arena c.tape c.accounts table) o a)
        (sym (says ∙ ap (λ (y : Walk). ending y.phase) t.goes.walk)) (link_made c now o is h few x there at_judge is_arena arena c.tape w table refl t over)
    follow_made is_arena arena w table (inr t) over answer says =
        subst (λ (a : Move). IsSound c.arena (made c arena c.tape c.accounts table) × StepsOn now (made c arena c.tape c.accounts table) o a)
        (sym (says ∙ ap (λ (y : Walk). ending y.phase) t.unlocks.walk)) (ends_it (made c arena c.tape c.accounts table)
        (subst (λ (all : Table). Gives (shown c) (made c arena c.tape c.accounts all) o true) (sym over.is) (back_ended c o h few_here x there at_judge told arena w t))
        (leads_over c o h x there Judge at_judge now is arena c.tape c.accounts table _ over w (judged_none x.outcome _ _ told) refl refl))
      where
        judged_none : (had : Option Outcome) (command : Command) (standing : ℕ) → had ≢ None → JudgesBy had command standing (at c.arena x.walk.place.node) x.task.key x.walk w
        judged_none None command standing some = absurd (some refl)
        judged_none (Some had) command standing some = inr (record { none = t.none; goes = t.unlocks.walk })

  -- Lock on the way back
  module _ (at_lock : x.walk.phase ≡ Lock) (told : x.outcome ≢ None) where
    pub back_made : IsArena c.arena.nodes c.arena.trees → (arena : ArenaView) (w : Walk) (table : Table) → IsLockWay o x.task.key c.arena arena x.walk w x.removal
        → IsOver c.table table o (moved x (c.steps + 1) w)
        → IsSound c.arena (made c arena c.tape c.accounts table) × StepsOn now (made c arena c.tape c.accounts table) o Moved
    back_made is_arena arena w table t over =
        let after = moved x (c.steps + 1) w in
        moves_on (made c arena c.tape c.accounts table)
        (subst (λ (all : Table). Gives (shown c) (made c arena c.tape c.accounts all) o false) (sym over.is) (lock_back c o h few_here x there at_lock told arena w t))
        (nears_by_removal (lock_removes c o h x there at_lock told) arena c.tape c.accounts table after over refl t.locks.keeps.guarantee (λ height n point.
        removal_first height (n + 1) arena w x.outcome x.removal after.walk.first (back_lock o x.task.key c.arena arena x.walk w x.outcome x.removal at_lock is_arena (lock_kept c o h x there at_lock) told t height n point)))
        (leads_over c o h x there Lock at_lock now is arena c.tape c.accounts table _ over w (t.locks.free, locked_back x.outcome told) refl refl)
      where
        locked_back : (had : Option Outcome) → had ≢ None → LocksBy had o c.arena arena x.removal x.walk w
        locked_back None some = absurd (some refl)
        locked_back (Some had) some = record {
          tree = t.tree;
          cleans_is = t.cleans_is;
          reached = t.reached;
          locks = t.locks.locks;
          cleans = λ both. t.cleans both.0 both.1;
          goes = λ other. t.goes (λ at_reached below. other (at_reached, below));
        }

  -- DropKey: the pair is taken out, with what it had ready
  pub drop_made : x.walk.phase ≡ DropKey → IsArena c.arena.nodes c.arena.trees → (arena : ArenaView) → IsArena arena.nodes arena.trees → (tape : Kept) (accounts : Accounts) (w : Walk) (r : Removal) (table : Table)
      → IsDropKey o (c.steps + 1) x.task c.arena arena c.tape tape c.accounts accounts x.walk w x.removal r
      → IsOver c.table table o (with_removal (noted (moved (with_nothing_ready x) (c.steps + 1) w) (Some (record { reply = Removed; at = c.steps + 1 }))) r)
      → IsSound c.arena (made c arena tape accounts table) × StepsOn now (made c arena tape accounts table) o Moved
  drop_made at_drop was arena is_now tape accounts w r table d over =
      let told : Outcome = record { reply = Removed; at = c.steps + 1 } in
      let after = with_removal (noted (moved (with_nothing_ready x) (c.steps + 1) w) (Some told)) r in
      let removes : is_remove (ask x.task) ≡ true = ap is_remove (drop_removes c o h x there at_drop).is in
      moves_on (made c arena tape accounts table)
      (subst (λ (all : Table). Gives (shown c) (made c arena tape accounts all) o false) (sym over.is)
      (drop_done c o h few_here x there at_drop was arena is_now tape accounts w r d))
      (nears_by_removal removes arena tape accounts table after over refl d.guarantee (λ height n point. removal_first height (n + 1) arena w (Some told) r after.walk.first
      (emptied_removal arena x.walk w x.removal r (Some told) height (n + 1) point.round d.goes (λ e. absurd (cc))
      (subst (λ (v : ArenaView). live_count v.nodes ≤ height) (sym d.is) (live_stays c.arena x.walk.place.node _ refl refl height point.live))
      (rounds_at height n c.arena x.walk x.outcome x.removal DropKey at_drop point)
      (let few = removed_at height n c.arena x.walk x.outcome x.removal DropKey at_drop point in omega (arith, few)))))
      (leads_over c o h x there DropKey at_drop now is arena tape accounts table _ over w (record { unlinks = d.goes.unlinks; returns = d.goes.returns }) refl refl)

  -- behind it, till all is given back
  module _ (at_removal : IsRemovalPhase x.walk.phase) where
    pub take_kept : KeptRemoval x.walk.phase c.arena o x.task.key x.walk x.removal
    take_kept = removal_kept_at c o h x there x.walk.phase refl at_removal

    pub take_made : IsArena c.arena.nodes c.arena.trees → (arena : ArenaView) (w : Walk) (r : Removal)
        → IsRemovalFrom x.walk.phase o (c.steps + 1) x.task.key c.arena arena x.walk w x.removal r
        → (last : Table) → IsOver c.table last o (with_removal (moved x (c.steps + 1) w) r)
        → IsSound c.arena (made c arena c.tape c.accounts last) × StepsOn now (made c arena c.tape c.accounts last) o Moved
    take_made is_arena arena w r from last over =
        let p = x.walk.phase in
        let after = with_removal (moved x (c.steps + 1) w) r in
        let leads = removal_leads o (c.steps + 1) x.task.key c.arena arena x.walk w x.removal r is_arena h.deleted p at_removal take_kept from x.outcome (splits_of x.splits) (no_step x) in
        let brings = removes_by o (c.steps + 1) x.task.key c.arena arena x.walk w x.removal r is_arena h.deleted p at_removal take_kept from in
        let told = (unlinking_of p at_removal c o x (h.ops o x there).kept).answer.told in
        moves_on (made c arena c.tape c.accounts last)
        (subst (λ (all : Table). Gives (shown c) (made c arena c.tape c.accounts all) o false) (sym over.is) (removed_done c o h few_here x there at_removal is_arena arena w r from))
        (nears_by_removal (take_removes c o h x there at_removal) arena c.tape c.accounts last after over refl brings.keeps.guarantee (λ height n point. removal_first height (n + 1) arena w x.outcome r after.walk.first
        (taken_removal p at_removal c.arena arena x.walk w x.outcome x.removal r refl brings.follows
        (taken_walk o (c.steps + 1) x.task.key c.arena arena x.walk w x.removal p at_removal x.outcome (splits_of x.splits) (no_step x) leads) (λ none. absurd (let no = sym told ∙ none in cc))
        (live_fewer c.arena.nodes arena.nodes brings.leaves.count (λ k lt. (brings.leaves.each k lt).gone)) height n point)))
        (leads_over c o h x there p refl now is arena c.tape c.accounts last _ over w leads refl refl)

  -- Unlock: all locks were given back
  module _ (at_unlock : x.walk.phase ≡ Unlock) (removes : is_remove (ask x.task) ≡ true) (told : x.outcome ≢ None) (none : x.splits.halves.items ≡ []) where
    pub return_kept : IsAtUnlockRemoval c.arena o x.task.key x.walk x.removal
    return_kept = removal_unlock_kept c o h x there at_unlock removes told none

    pub return_room : (k : ℕ) → IsAmong x.walk x.removal k → CanUnlock (at c.arena k).version
    return_room = removal_unlock_room c o h x there at_unlock removes told none

    -- a node that was taken out stays so
    returned_gone : (arena : ArenaView) (w : Walk) (r : Removal) → IsUnlockRemoval o c.arena arena x.walk w x.removal r → (k : ℕ) → k < length c.arena.nodes
        → (at c.arena k).version.deleted ≡ true → (at arena k).version.deleted ≡ true
    returned_gone arena w r t k within gone = elim (among_or_not x.walk x.removal k) [
      | inl among ↦ ap (λ (n : NodeView). n.version.deleted) (t.is.given k among) ∙ gone
      | inr other ↦ ap (λ (n : NodeView). n.version.deleted) (t.is.others k other) ∙ gone
    ]

    pub return_made : IsArena c.arena.nodes c.arena.trees → (arena : ArenaView) (w : Walk) (r : Removal) → IsUnlockRemoval o c.arena arena x.walk w x.removal r
        → (last : Table) → IsOver c.table last o (with_removal (moved x (c.steps + 1) w) r)
        → (answer : Move) → answer ≡ ending w.phase
        → IsSound c.arena (made c arena c.tape c.accounts last) × StepsOn now (made c arena c.tape c.accounts last) o answer
    return_made is_arena arena w r t last over answer says =
        let new = made c arena c.tape c.accounts last in
        let gives : Gives (shown c) new o (is_done w.phase) = subst (λ (all : Table). Gives (shown c) (made c arena c.tape c.accounts all) o (is_done w.phase)) (sym over.is)
        (removal_returned c o h few_here x there at_unlock removes told none arena w r t) in
        let leads = leads_over c o h x there Unlock at_unlock now is arena c.tape c.accounts last _ over w
        (returns_from x.outcome told x.splits.halves.items none o c.arena arena x.walk w x.removal r t (splits_of x.splits) refl) refl refl in
        elim (empties_or_not c o h few_here x there at_unlock removes told none) [
          | inl empties ↦
              let goes = t.cleans empties in
              let at_enter : w.phase ≡ Enter = ap (λ (y : Walk). y.phase) goes.0 in
              let after = with_removal (moved x (c.steps + 1) w) r in
              subst (λ (a : Move). IsSound c.arena new × StepsOn now new o a) (sym (says ∙ ap ending at_enter)) (moves_on new (subst (λ (p : Phase). Gives (shown c) new o (is_done p)) at_enter gives)
              (nears_by_removal removes arena c.tape c.accounts last after over refl t.keeps.guarantee (λ height n point. removal_first height (n + 1) arena w x.outcome r after.walk.first
              (back_removal c.arena arena x.walk w x.outcome x.removal r at_unlock goes.0 (ap (λ (y : Removal). y.cleans) goes.1) is_arena t.is.trees
              (layer_is (tree_at c.arena.trees x.walk.place.tree).prefix x.task.key x.walk.layer return_kept.removes.through.of_tree)
              (live_fewer c.arena.nodes arena.nodes t.is.count (returned_gone arena w r t)) height n point)))
              leads)
          | inr keeps ↦
              let at_done : w.phase ≡ Done = ap (λ (y : Walk). y.phase) (t.ends keeps).0 in
              subst (λ (a : Move). IsSound c.arena new × StepsOn now new o a) (sym (says ∙ ap ending at_done)) (ends_it new (subst (λ (p : Phase). Gives (shown c) new o (is_done p)) at_done gives) leads)
        ]
