-- The phases of a split by what their steps tell: for `Inner::write`.
use Rattle.std.proofs.Common.{List, None, Option, Some, [], ap, arith, false, inl, inr, length, refl, set, subst, suc, sym, true, zero, ℕ, ◌*◌, ◌+◌, ◌<◌, ◌∙◌, ◌∷◌, ◌≡◌, ◌≢◌, ◌≤◌}
use Rattle.std.proofs.{lemmas.Option.same_Some, lemmas.List.length-set, lemmas.Bool.both_ways}
use Rattle.std.specs.Prelude.{◌^◌}
use Rattle.mt_rows.specs.{declared.reply.Reply.Reply, declared.reply.Reply.TheVariants.{Full, New, NoMemory}, Rows.Columns, Accounts.Accounts}
use Rattle.mt_border.specs.declared.entry.Entry.{Entry}
use Rattle.mt_tape.specs.Tapes.{Kept}
use Rattle.mt_arena.specs.{NodeView.{NodeView, node_at}, Splits.{left_half, right_half}, Several.AreHalved}
use Rattle.mt_arena.specs.{Arena.{ArenaView, Guarantee, IsArena}, Accesses.{IsHeld, at, with_half_at}, Idle.AreRetired, Given.AreForgotten}
use Rattle.mt_version.specs.{Parts.Parts, Changes.CanUnlock}
use Rattle.mt_operation.specs.{declared.phase.Phase.Phase, declared.phase.Phase.TheVariants.{SplitMove, SplitStart, Unlock}, declared.walk.Walk.Walk}
use Rattle.mt_operation.specs.{declared.prepared.Prepared.Prepared, declared.splits.Halves.Halves, declared.splits.Splits.Splits}
use Rattle.mt_operation.specs.{declared.operation.Operation.Operation, Operations.{IsUnsplit, moved, noted, splits_of, with_nothing_ready, with_splits}}
use Rattle.mt_operation.specs.{Phases.has_splits, Tables.{Table, IsLeastBirth, op_at as operation_at}}
use Rattle.mt_insert.specs.{KeptPuts.IsAtSplitStart, Unlock.IsUnlockAll, KeptSplits.{IsAmong, IsAtSplitMove, IsAtUnlockAll, last_of}}
use Rattle.mt_insert.specs.{SplitMove.{IsSplitMove, IsSplitMoveFull, after_parting}, SplitStart.{IsSplitStart, IsSplitStopped}}
use Rattle.mt_held.specs.Moves.{walk_at}
use Rattle.mt_state.specs.{declared.moves.Move.TheVariants.{Done as DoneMove, Moved}, Views.{Core, shown}, Phases.Leads}
use Rattle.mt_state.specs.{KeptOperations.{IsKeptAt, IsSplitMoving, IsSplitStarting, IsUnlocking, MayUnlock}, KeptBack.ArenaFacts, Invariant.StateInvariant}
use Rattle.mt_state.specs.Writes.{splitting as split_core}
use Rattle.mt_state.proofs.{Telling.Gives, OneNode.returning_told, Needs.put_at, Locking.may_unlock, SplitSteps.{return_done, start_done, stop_done}}
use Rattle.mt_state.proofs.{Parting.{fill_done, part_done}, ClimbingNodes.{begun_leaves, half_added, half_comes_again}, Giving.are_forgotten}
use Rattle.mt_core.specs.{Budgets.{AreBelow, above}, Points.{HasMade, Nears, StepsOn}}
use Rattle.mt_core.proofs.{Points.{below_at, few_at, free_from, free_on, nears_by, removed_at, point_at, point_first}, Climbing.stays_below}
use Rattle.mt_core.proofs.{Following.{IsSound, IsOver, made, write_no_scan}, Leading.{done_from, leads_over}}

-- no level is new if a right half is made of a node that the operation holds
half_below : (o least : ℕ) (v : ArenaView) (k low : ℕ) → IsHeld v k o → (at v k).version.deleted ≡ false → AreRetired v.nodes v.trees v.retired → AreForgotten least v → (height : ℕ)
    → AreBelow v height → AreBelow (with_half_at v k low least o) height
half_below o least v k low held live retired forgotten = stays_below least o v (with_half_at v k low least o) (begun_leaves o v k low least held retired forgotten) (record {
  added = λ j from lt. record { beside = k; there = held.there; live = live; level = half_added o v k low least held j from lt };
  again = λ j lt again. record { beside = k; there = held.there; live = live; level = half_comes_again o v k low least held j lt again };
})

-- where one node is another of its level, each level stays
level_set : (xs : List NodeView) (i : ℕ) (y : NodeView) → y.level ≡ (node_at xs i).level → (k : ℕ) → (node_at (set xs i y) k).level ≡ (node_at xs k).level
level_set [] i y e k = refl
level_set (x ∷ xs) zero y e zero = e
level_set (x ∷ xs) zero y e (suc k) = refl
level_set (x ∷ xs) (suc i) y e zero = refl
level_set (x ∷ xs) (suc i) y e (suc k) = level_set xs i y e k

-- and where it is one of its version, each version
version_set : (xs : List NodeView) (i : ℕ) (y : NodeView) → y.version ≡ (node_at xs i).version → (k : ℕ) → (node_at (set xs i y) k).version ≡ (node_at xs k).version
version_set [] i y e k = refl
version_set (x ∷ xs) zero y e zero = e
version_set (x ∷ xs) zero y e (suc k) = refl
version_set (x ∷ xs) (suc i) y e zero = refl
version_set (x ∷ xs) (suc i) y e (suc k) = version_set xs i y e k

-- so it does where the keys of a node are parted
halved_below : (all : List Entry) (old new : ArenaView) (left right : ℕ) → AreHalved all old.nodes new.nodes left right → (height : ℕ)
    → AreBelow old height → AreBelow new height
halved_below all old new left right parted height below k within live =
    let x = node_at old.nodes left in
    let r = node_at old.nodes right in
    let y = left_half x parted.kept parted.kept_cells r.low right in
    let z = right_half x r parted.moved parted.moved_cells left in
    let mid = set old.nodes left y in
    let size : length new.nodes ≡ length old.nodes = ap (λ (xs : List NodeView). length xs) parted.is ∙ length-set mid right z ∙ length-set old.nodes left y in
    let same : (node_at new.nodes k).level ≡ (node_at old.nodes k).level = ap (λ (xs : List NodeView). (node_at xs k).level) parted.is ∙ level_set mid right z (sym (level_set old.nodes left y refl right)) k ∙ level_set old.nodes left y refl k in
    let alike : (node_at new.nodes k).version ≡ (node_at old.nodes k).version = ap (λ (xs : List NodeView). (node_at xs k).version) parted.is ∙ version_set mid right z (sym (version_set old.nodes left y refl right)) k ∙ version_set old.nodes left y refl k in
    subst (λ l. l < height) (sym same) (below k (omega (arith, within, size)) (ap (λ (p : Parts). p.deleted) (sym alike) ∙ live))

-- the number of steps after the keys were parted
made_parted : (next : Option ℕ) (height made : ℕ) (v : ArenaView) (w : Walk) (s : Splits) → made ≤ above height w + 3 * height + 3
    → HasMade (after_parting next) height (made + 1) v w s
made_parted None height made v w s few = omega (arith, few)
made_parted (Some behind) height made v w s few = omega (arith, few)

-- an operation that has split nodes gives back those of its splits, which it holds
all_of : (l : List Halves) (v : ArenaView) (o : ℕ) (op : Operation) → l ≢ [] → MayUnlock l v o op → IsAtUnlockAll v o op.splits
all_of [] v o op some may = absurd (some refl)
all_of (x ∷ l) v o op some may = may.0

-- and it holds each of them
among_held : (v : ArenaView) (o : ℕ) (s : Splits) → IsAtUnlockAll v o s → (k : ℕ) → IsAmong s k → IsHeld v k o
among_held v o s all k among = elim among [
  | inl half ↦ let both = all.halves half.place half.in_range in elim half.is [
    | inl left ↦ subst (λ j. IsHeld v j o) left both.left.held
    | inr right ↦ subst (λ j. IsHeld v j o) right both.right.held
  ]
  | inr above ↦ (all.above k above).held
]

module _ (c now : Core) (o : ℕ) (is : c ≡ now) (h : StateInvariant c) (few : now.steps < 2 ^ 59) (op : Operation) (there : operation_at c.table o ≡ Some op) where
  few_here : c.steps < 2 ^ 59
  few_here = subst (λ (v : Core). v.steps < 2 ^ 59) (sym is) few

  -- a step that moves the operation, and one that ends it
  moves_on : (new : Core) → Gives (shown c) new o false → Nears c new o Moved → Leads (shown c) (shown new) o → IsSound c.arena new × StepsOn now new o Moved
  moves_on new gives nears leads = (gives.0, subst (λ (v : Core). StepsOn v new o Moved) is (record { tells = gives.1; nears = nears; leads = leads }))

  ends_it : (new : Core) → Gives (shown c) new o true → Leads (shown c) (shown new) o → IsSound c.arena new × StepsOn now new o DoneMove
  ends_it new gives leads = (gives.0, subst (λ (v : Core). StepsOn v new o DoneMove) is (record { tells = gives.1; nears = tt; leads = leads }))

  module _ (at_start : op.walk.phase ≡ SplitStart) where
    starting : IsSplitStarting c o op
    starting = subst (λ (p : Phase). IsKeptAt p c o op) at_start (h.ops o op there).kept

    -- what `split_start` asks
    pub start_asks : (prepared : Prepared) × IsAtSplitStart c.arena o op.task prepared op.walk
    start_asks = (starting.prepared, starting.starts)

    pub start_none : IsUnsplit op.splits
    start_none = (h.ops o op there).unsplit (ap has_splits at_start)

    module _ (arena : ArenaView) (tape : Kept) (w : Walk) (t : Splits) (table : Table) where
      -- the right half of the full node is made, and nobody's level rises
      pub start_made : (least : ℕ) → ArenaFacts c.arena → IsLeastBirth c.table c.steps least → IsSplitStart least o op.task.key c.arena arena c.tape tape op.walk w op.splits t → IsOver c.table table o (moved (with_splits op t) (c.steps + 1) w)
          → IsSound c.arena (made c arena tape c.accounts table) × StepsOn now (made c arena tape c.accounts table) o Moved
      start_made least facts is_least b over =
          let after = moved (with_splits op t) (c.steps + 1) w in
          let moves : w.phase ≡ SplitMove = ap (λ (x : Walk). x.phase) b.walk in
          moves_on (made c arena tape c.accounts table)
          (subst (λ (all : Table). Gives (shown c) (made c arena tape c.accounts all) o false) (sym over.is) (start_done c o h few_here op there at_start arena tape w t least facts is_least b))
          (nears_by c (made c arena tape c.accounts table) o op after there over.there (free_from least o c.arena arena b.steps) refl (λ height made point.
          let was = few_at height made c.arena op.walk op.splits SplitStart at_start point in
          point_first height (made + 1) arena w t after.walk.first (point_at height (made + 1) arena w t SplitMove moves
          (λ _. subst (λ (v : ArenaView). AreBelow v height) (sym b.is.is)
          (half_below o least c.arena op.walk.place.node b.is.low starting.starts.holds.judged.held starting.starts.holds.judged.stands.live facts.retired (are_forgotten c h facts least is_least.below) height (below_at height made c.arena op.walk op.splits SplitStart at_start (λ grown. grown) point)))
          (subst (λ (x : Walk). HasMade SplitMove height (made + 1) arena x t) (sym b.walk) (omega (arith, was)))))
          (λ removes height made r. absurd (removed_at height made c.arena op.walk op.outcome op.removal SplitStart at_start r))
          (λ scans. absurd (both_ways _ (write_no_scan c o h op there SplitStart at_start (λ aim kind. kind)) scans)))
          (leads_over c o h op there SplitStart at_start c refl arena tape c.accounts table after over w (inl b.walk) refl refl)

      -- there is no memory for it
      pub start_stopped : IsSplitStopped o c.arena arena c.tape tape op.walk w t
          → IsOver c.table table o (noted (moved (with_nothing_ready (with_splits op t)) (c.steps + 1) w) (Some (record { reply = NoMemory; at = c.steps + 1 })))
          → IsSound c.arena (made c arena tape c.accounts table) × StepsOn now (made c arena tape c.accounts table) o DoneMove
      start_stopped stops over =
          ends_it (made c arena tape c.accounts table)
          (subst (λ (all : Table). Gives (shown c) (made c arena tape c.accounts all) o true) (sym over.is) (stop_done c o h few_here op there at_start arena tape w t stops))
          (leads_over c o h op there SplitStart at_start c refl arena tape c.accounts table _ over w (inr stops.unlocks.walk) refl refl)

  module _ (at_move : op.walk.phase ≡ SplitMove) where
    moving : IsSplitMoving c o op
    moving = subst (λ (p : Phase). IsKeptAt p c o op) at_move (h.ops o op there).kept

    -- it has all ready
    pub move_ready : op.prepared ≢ None
    move_ready none = let no = sym moving.has ∙ none in cc

    -- what is kept of it is what `split_move` asks
    pub move_kept : (prepared : Prepared) → op.prepared ≡ Some prepared → IsAtSplitMove c.arena o op.task prepared op.walk op.splits
    move_kept prepared has = subst (λ (x : Prepared). IsAtSplitMove c.arena o op.task x op.walk op.splits) (same_Some moving.prepared prepared (sym moving.has ∙ has)) moving.moves

    module _ (arena : ArenaView) (tape : Kept) (accounts : Accounts) (w : Walk) (table : Table) where
      -- the keys are parted: no level is another one then, and the walk goes on by the node behind the halves
      by_reply : (reply : Reply) → IsOver c.table table o (noted (moved (with_nothing_ready op) (c.steps + 1) w) (Some (record { reply = reply; at = c.steps + 1 })))
          → (all : List Entry) → AreHalved all c.arena.nodes arena.nodes op.walk.place.node (last_of op.splits).right
          → w ≡ walk_at (after_parting (at c.arena op.walk.place.node).next) op.walk → Guarantee o c.arena arena
          → Gives (shown c) (split_core c arena tape accounts o op w (Some (record { reply = reply; at = c.steps + 1 })) None op.splits) o false
          → IsSound c.arena (made c arena tape accounts table) × StepsOn now (made c arena tape accounts table) o Moved
      by_reply reply over all halved goes step gives =
          let next = (at c.arena op.walk.place.node).next in
          let phase : w.phase ≡ after_parting next = ap (λ (x : Walk). x.phase) goes in
          let after = noted (moved (with_nothing_ready op) (c.steps + 1) w) (Some (record { reply = reply; at = c.steps + 1 })) in
          moves_on (made c arena tape accounts table)
          (subst (λ (all : Table). Gives (shown c) (made c arena tape accounts all) o false) (sym over.is) gives)
          (nears_by c (made c arena tape accounts table) o op after there over.there (free_on o c.arena arena step) refl (λ height made point.
          point_first height (made + 1) arena w op.splits after.walk.first (point_at height (made + 1) arena w op.splits (after_parting next) phase
          (λ _. halved_below all c.arena arena op.walk.place.node (last_of op.splits).right halved height (below_at height made c.arena op.walk op.splits SplitMove at_move (λ grown. grown) point))
          (subst (λ (x : Walk). HasMade (after_parting next) height (made + 1) arena x op.splits) (sym goes)
          (made_parted next height made arena (walk_at (after_parting next) op.walk) op.splits (few_at height made c.arena op.walk op.splits SplitMove at_move point)))))
          (λ removes height made r. absurd (removed_at height made c.arena op.walk op.outcome op.removal SplitMove at_move r))
          (λ scans. absurd (both_ways _ (write_no_scan c o h op there SplitMove at_move (λ aim kind. kind)) scans)))
          (leads_over c o h op there SplitMove at_move c refl arena tape accounts table after over w goes refl refl)

      -- with the new pair
      pub parts_with : IsArena c.arena.nodes c.arena.trees → (row : Columns)
          → IsSplitMove o (c.steps + 1) op.task row c.arena arena c.tape tape c.accounts accounts op.walk w op.splits
          → IsOver c.table table o (noted (moved (with_nothing_ready op) (c.steps + 1) w) (Some (record { reply = New; at = c.steps + 1 })))
          → IsSound c.arena (made c arena tape accounts table) × StepsOn now (made c arena tape accounts table) o Moved
      parts_with is_arena row parts over =
          by_reply New over _ parts.is parts.parts.walk parts.parts.guarantee (part_done c o h few_here op there (put_at c o h op there SplitMove at_move tt) at_move arena tape accounts w row is_arena parts)

      -- and without it
      pub parts_without : IsSplitMoveFull o op.task c.arena arena c.tape tape c.accounts accounts op.walk w op.splits
          → IsOver c.table table o (noted (moved (with_nothing_ready op) (c.steps + 1) w) (Some (record { reply = Full; at = c.steps + 1 })))
          → IsSound c.arena (made c arena tape accounts table) × StepsOn now (made c arena tape accounts table) o Moved
      parts_without parts over =
          by_reply Full over _ parts.is parts.parts.walk parts.parts.guarantee (fill_done c o h few_here op there (put_at c o h op there SplitMove at_move tt) at_move arena tape accounts w parts)

  module _ (at_unlock : op.walk.phase ≡ Unlock) (told : op.outcome ≢ None) (some : op.splits.halves.items ≢ []) where
    unlocking : IsUnlocking c o op
    unlocking = returning_told op.outcome told c o op (subst (λ (p : Phase). IsKeptAt p c o op) at_unlock (h.ops o op there).kept)

    pub all_unlock : IsAtUnlockAll c.arena o op.splits
    all_unlock = all_of op.splits.halves.items c.arena o op some unlocking.unlocks

    pub all_room : (k : ℕ) → IsAmong op.splits k → CanUnlock (at c.arena k).version
    all_room k among = may_unlock c h k (among_held c.arena o op.splits all_unlock k among).there

    -- the locks of all nodes of the splits are given back
    pub returns_made : (arena : ArenaView) (w : Walk) (t : Splits) (table : Table) → IsUnlockAll o c.arena arena op.walk w op.splits t
        → IsOver c.table table o (moved (with_splits op t) (c.steps + 1) w)
        → IsSound c.arena (made c arena c.tape c.accounts table) × StepsOn now (made c arena c.tape c.accounts table) o DoneMove
    returns_made arena w t table returns over =
        ends_it (made c arena c.tape c.accounts table)
        (subst (λ (all : Table). Gives (shown c) (made c arena c.tape c.accounts all) o true) (sym over.is) (return_done c o h few_here op there at_unlock told some arena w t returns))
        (leads_over c o h op there Unlock at_unlock c refl arena c.tape c.accounts table _ over w
        (done_from op.outcome c.arena (splits_of op.splits) op.removal op.walk w told (inl some) returns.walk) refl refl)
