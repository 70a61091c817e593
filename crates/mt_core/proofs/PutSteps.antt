-- The phases of a put by what their steps tell: for `Inner::write`.
use Rattle.std.proofs.Common.{Bool, None, Option, Some, [], ap, arith, cond, eqb, false, inl, inr, length, refl, set, subst, sym, true, ℕ, ◌+◌, ◌<◌, ◌∙◌, ◌≡◌, ◌≢◌}
use Rattle.std.proofs.lemmas.Bool.{both_ways}
use Rattle.std.specs.Prelude.{List, ◌*◌, ◌^◌, ◌≤◌, ◌⊎◌}
use Rattle.mt_rows.specs.{declared.reply.Reply.Reply, declared.command.Command.Command, declared.reply.Reply.TheVariants.{Full, New, NoMemory, Replaced, Stale}, Rows.{Bytes, Columns}}
use Rattle.mt_rows.specs.{Accounts.Accounts, Maps.is_scan}
use Rattle.mt_border.specs.declared.entry.FoundKind.TheVariants.{OtherLong}
use Rattle.mt_slices.specs.Keys.{IsStoredKey}
use Rattle.mt_tape.specs.Tapes.{Kept}
use Rattle.mt_arena.{specs.{NodeView.{NodeView, place_at}, Edits.{locked, unlocked}, Arena.{ArenaView, Guarantee, IsArena}, Accesses.{at, with_node}}, proofs.OneLink.leads}
use Rattle.mt_operation.specs.{declared.walk.Aim.Aim, declared.phase.Phase.Phase}
use Rattle.mt_operation.specs.declared.phase.Phase.TheVariants.{Enter, Fill, Forward, Judge, Lock, MakeLayer, Publish, SplitStart, Store, Unlock}
use Rattle.mt_operation.specs.{declared.walk.Walk.Walk, declared.splits.Halves.Halves, declared.splits.Splits.Splits, declared.outcome.Outcome.Outcome}
use Rattle.mt_operation.specs.{declared.prepared.Prepared.Prepared, declared.operation.Operation.Operation}
use Rattle.mt_operation.specs.{Operations.{made_ready, moved, noted, splits_of, with_nothing_ready}, Phases.{IsOfKind, has_splits}}
use Rattle.mt_operation.specs.{Tables.{Table, op_at as operation_at}, declared.task.Request.Request}
use Rattle.mt_operation.specs.declared.task.Request.TheVariants.{Get as GetOf, Put as PutOf, PutIf as PutIfOf, Remove as RemoveOf, Scan as ScanOf}
use Rattle.mt_operation.specs.Tasks.{ask, command_of, aim_of}
use Rattle.mt_descent.specs.{Seen.IsOutdated, KeptWalks.IsInSlot, WalkMoves.{IsLock, Locks, walk_anew, walk_into}}
use Rattle.mt_insert.specs.{Puts.{is_put, IsPut, MeetsStamp}, Judge.{FindsStale, IsMadeReady, MeetsOther, StandsIn, after_judge}, Fill.IsFill, Publish.{IsPublish, IsPublishFull}, Store.IsStore}
use Rattle.mt_remove.specs.Writes.{is_remove}
use Rattle.mt_version.specs.Parts.{Parts}
use Rattle.mt_held.specs.{Moves.{walk_at, walk_placed}, Unlock.{MeetsLink, IsUnlock}}
use Rattle.mt_state.specs.{declared.moves.Move.TheVariants.{Moved, Done as DoneMove}, Views.{Core, shown}, Phases.{JudgesBy, JudgesLink, Leads, LocksBy}}
use Rattle.mt_state.specs.Invariant.{StateInvariant}
use Rattle.mt_descent.proofs.Decides.{outdated_or_not}
use Rattle.mt_state.proofs.{Telling.Gives, OneNode.replaced_all, Staling.judge_stale}
use Rattle.mt_state.proofs.{FillSteps.fill_done, Locking.{judge_ready, judge_refused, lock_done, publish_full, unlock_done}, LayerSteps.{below_done, meet_done}}
use Rattle.mt_state.proofs.{Putting.{publish_done, store_done}, Needs.{fill_kept, judge_kept, lock_kept, publish_kept, put_at, store_kept}, Bound.put_no_remove}
use Rattle.mt_core.specs.Budgets.{AreBelow, IsLiveTree, SeesNow, above, astray, before_unlock, behind}
use Rattle.mt_core.specs.Points.{HasMade, HasRemoved, IsRemovalAt, IsAtPoint, MayHaveGrown, Nears, StepsOn}
use Rattle.mt_core.proofs.Points.{below_at, few_at, free_on, nears_by, point_at, point_first, removal_first, removed_at}
use Rattle.mt_core.proofs.{RemovalNears.{link_removal, lock_removal, tree_layer, tree_stands}, LookPoints.{next_layer, shallow_below}}
use Rattle.mt_core.proofs.{Following.{IsSound, sound_by, IsOver, made, write_no_scan}, Leading.{done_from, leads_over}}
use Rattle.mt_operation.specs.declared.walk.Aim.TheVariants as aims

-- the walk of a put that takes its lock, that goes on to the next node, or that begins anew where its own was deleted
lock_brings : (o : ℕ) (v arena : ArenaView) (w x : Walk) (s : Splits) → Locks o v arena x w → x.phase ≡ Lock → x.place.node < length v.nodes
    → x.place.seen.deleted ≡ false
    → (height n : ℕ) → IsAtPoint height n v x s → IsAtPoint height (n + 1) arena w s
lock_brings o v arena w x s locks at_lock within undeleted height n point = elim (outdated_or_not (at v x.place.node) x.place.seen) [
  | inl outdated ↦ elim few [
    | inl now ↦ absurd (elim outdated [
      | inl deleted ↦ both_ways _ undeleted (ap (λ (p : Parts). p.deleted) now.0 ∙ deleted)
      | inr split ↦ split (ap (λ p. p.splits) (sym now.0))
    ])
    | inr strays ↦ onward outdated (omega (arith, strays))
  ]
  | inr stands ↦ takes stands
]
  where
    k : ℕ
    k = x.place.node

    below : AreBelow v height
    below = below_at height n v x s Lock at_lock (λ grown. grown) point

    few : (SeesNow v x × (n ≤ above height x + 3 * height)) ⊎ (n + (3 + behind v x.place.node) ≤ astray height)
    few = few_at height n v x s Lock at_lock point

    upto : n ≤ above height x + 3 * height
    upto = elim few [
      | inl now ↦ now.1
      | inr strays ↦ omega (arith, strays)
    ]

    takes : ¬ IsOutdated (at v x.place.node) x.place.seen → IsAtPoint height (n + 1) arena w s
    takes stands = subst (λ (a : ArenaView). IsAtPoint height (n + 1) a w s) (sym (locks.takes stands))
        (subst (λ (y : Walk). IsAtPoint height (n + 1) (with_node v k (locked (at v k) o)) y s) (sym (locks.judges stands)) (point_at height (n + 1) _ (record x { phase = Judge }) s Judge refl
        (λ other. replaced_all v k within (locked (at v k) o) (λ (m : NodeView). m.version.deleted ≡ false → m.level < height) (below k within) below) (omega (arith, upto))))

    onward : IsOutdated (at v x.place.node) x.place.seen → n + 1 + (2 + behind v x.place.node) ≤ astray height → IsAtPoint height (n + 1) arena w s
    onward outdated strays = subst (λ (a : ArenaView). IsAtPoint height (n + 1) a w s) (sym (locks.leaves outdated))
        (subst (λ (y : Walk). IsAtPoint height (n + 1) v y s) (sym (locks.goes_on outdated)) (by (at v k).version.deleted))
      where
        by : (deleted : Bool)
            → IsAtPoint height (n + 1) v (cond deleted (walk_anew x) (record x { place = record x.place { seen = (at v k).version }; next = (at v k).next; phase = Forward })) s
        by true = record { below = λ other. below; few = inr (omega (arith, strays)) }
        by false = record { below = λ other. below; few = inl (refl, omega (arith, strays)) }

-- of one that has made all ready
judge_brings : (v : ArenaView) (m : NodeView) (slot : Option ℕ) (w x : Walk) (s : Splits) → w ≡ after_judge m slot x → x.phase ≡ Judge
    → (height n : ℕ) → IsAtPoint height n v x s → IsAtPoint height (n + 1) v w s
judge_brings v m slot w x s goes at_judge height n point = subst (λ (y : Walk). IsAtPoint height (n + 1) v y s) (sym goes) (by_slot slot)
  where
    few : HasMade Judge height n v x s
    few = few_at height n v x s Judge at_judge point

    below : AreBelow v height
    below = below_at height n v x s Judge at_judge (λ grown. grown) point

    by_full : (full : Bool) → IsAtPoint height (n + 1) v (record x { phase = cond full SplitStart Fill }) s
    by_full true = point_at height (n + 1) v _ s SplitStart refl (λ other. below) (omega (arith, few))
    by_full false = point_at height (n + 1) v _ s Fill refl (λ other. below) (omega (arith, few))

    by_slot : (slot : Option ℕ) → IsAtPoint height (n + 1) v (after_judge m slot x) s
    by_slot (Some i) = point_at height (n + 1) v _ s Store refl (λ other. below) (omega (arith, few))
    by_slot None = by_full (eqb (length m.slots) 15)

-- of one that meets another long key in the place of its own
meet_brings : (v : ArenaView) (slot : ℕ) (w x : Walk) (s : Splits) → w ≡ record x { slot = slot; phase = MakeLayer } → x.phase ≡ Judge
    → (height n : ℕ) → IsAtPoint height n v x s → IsAtPoint height (n + 1) v w s
meet_brings v slot w x s goes at_judge height n point =
    let few : HasMade Judge height n v x s = few_at height n v x s Judge at_judge point in
    let below = below_at height n v x s Judge at_judge (λ grown. grown) point in
    subst (λ (y : Walk). IsAtPoint height (n + 1) v y s) (sym goes) (point_at height (n + 1) v _ s MakeLayer refl (λ other. below) (omega (arith, few)))

-- of one that gives its lock back, and goes on in the tree of a link
link_brings : (v : ArenaView) (key : Bytes) (tree : ℕ) (w x : Walk) (s : Splits) → w ≡ walk_into x tree (x.layer + 1) → x.phase ≡ Judge
    → x.place.node < length v.nodes → IsStoredKey key → 8 * w.layer < length key → IsLiveTree v tree
    → (height n : ℕ) → IsAtPoint height n v x s → IsAtPoint height (n + 1) (with_node v x.place.node (unlocked (at v x.place.node))) w s
link_brings v key tree w x s goes at_judge within stored begun live height n point =
    let k = x.place.node in
    let few : HasMade Judge height n v x s = few_at height n v x s Judge at_judge point in
    let below = below_at height n v x s Judge at_judge (λ grown. grown) point in
    let reaches : 8 * (x.layer + 1) < length key = subst (λ (y : Walk). 8 * y.layer < length key) goes begun in
    subst (λ (y : Walk). IsAtPoint height (n + 1) (with_node v k (unlocked (at v k))) y s) (sym goes) (point_at height (n + 1) _ (walk_into x tree (x.layer + 1)) s Enter refl
    (λ other. replaced_all v k within (unlocked (at v k)) (λ (m : NodeView). m.version.deleted ≡ false → m.level < height) (below k within) below)
    (inl (live, next_layer height x.layer n (shallow_below x.layer key stored reaches) (omega (arith, few)))))

-- a node that keeps its level keeps all below
levels_stay : (v arena : ArenaView) (k : ℕ) (m : NodeView) → k < length v.nodes → arena ≡ with_node v k m → m.level ≡ (at v k).level
    → m.version.deleted ≡ (at v k).version.deleted → (height : ℕ)
    → AreBelow v height → AreBelow arena height
levels_stay v arena k m within is same alike height below = subst (λ (a : ArenaView). AreBelow a height) (sym is)
    (replaced_all v k within m (λ (x : NodeView). x.version.deleted ≡ false → x.level < height)
    (λ live. subst (λ (l : ℕ). l < height) (sym same) (below k within (sym alike ∙ live))) below)

-- of one that has written its pair into a free slot
fill_brings : (v arena : ArenaView) (w x : Walk) (s : Splits) → w ≡ walk_at Publish x → x.phase ≡ Fill → ((height : ℕ) → AreBelow v height → AreBelow arena height)
    → (height n : ℕ) → IsAtPoint height n v x s → IsAtPoint height (n + 1) arena w s
fill_brings v arena w x s goes at_fill stays height n point =
    let few : HasMade Fill height n v x s = few_at height n v x s Fill at_fill point in
    subst (λ (y : Walk). IsAtPoint height (n + 1) arena y s) (sym goes) (point_at height (n + 1) arena (walk_at Publish x) s Publish refl
    (λ other. stays height (below_at height n v x s Fill at_fill (λ grown. grown) point)) (omega (arith, few)))

-- of one that has placed its change, or found its quota full: nothing is split
place_brings : (v arena : ArenaView) (w x : Walk) (s : Splits) (p : Phase) → x.phase ≡ p → w ≡ walk_placed x → s.halves.items ≡ []
    → ¬ MayHaveGrown p s.halves.items → ((height : ℕ) → AreBelow v height → AreBelow arena height)
    → ((height n : ℕ) → IsAtPoint height n v x s → n < above height x + 3 * height + 4) → (height n : ℕ) → IsAtPoint height n v x s
    → IsAtPoint height (n + 1) arena w s
place_brings v arena w x s p at_p goes none other stays least height n point =
    let few = least height n point in
    let made : n + 1 ≤ above height x + before_unlock [] height = omega (arith, few) in
    subst (λ (y : Walk). IsAtPoint height (n + 1) arena y s) (sym goes) (point_at height (n + 1) arena (walk_placed x) s Unlock refl
    (λ ungrown. stays height (below_at height n v x s p at_p other point))
    (subst (λ (halves : List Halves). n + 1 ≤ above height x + before_unlock halves height) (sym none) made))

-- where an operation goes that follows a link, whether it was told something or not
judges_link : (told : Option Outcome) → (command : Command) → (standing : ℕ) → {n : NodeView} → {key : Bytes} → {w x : Walk} → JudgesLink n key w x → JudgesBy told command standing n key w x
judges_link None command standing goes = inr (inr (inl goes))
judges_link (Some told) command standing goes = inl goes

-- and one that was told nothing
pub judges_none : {told : Option Outcome} → told ≡ None → {command : Command} → {standing : ℕ} → {n : NodeView} → {key : Bytes} → {w x : Walk} → JudgesBy None command standing n key w x
    → JudgesBy told command standing n key w x
judges_none {told} untold {command} {standing} {n} {key} {w} {x} goes = subst (λ (t : Option Outcome). JudgesBy t command standing n key w x) (sym untold) goes

-- an operation that judges, and removes nothing, puts
put_of : (r : Request) → is_remove (command_of r) ≡ false → aim_of (command_of r) ≡ aims.Write → is_put (command_of r) ≡ true
put_of (GetOf key columns) stays writes = absurd (cc)
put_of (ScanOf from after count columns) stays writes = absurd (cc)
put_of (PutOf key change) stays writes = refl
put_of (PutIfOf key stamp change) stays writes = refl
put_of (RemoveOf key) stays writes = absurd (cc)

pub judged_put : (c : Core) (o : ℕ) → StateInvariant c → (x : Operation) → operation_at c.table o ≡ Some x → x.walk.phase ≡ Judge → is_remove (ask x.task) ≡ false
    → is_put (ask x.task) ≡ true
judged_put c o h x there at_judge stays =
    let always = (h.ops o x there).always in put_of x.task.request stays (sym always.aim ∙ subst (λ (p : Phase). IsOfKind p x.walk.aim) at_judge always.kind)

module _ (c now : Core) (o : ℕ) (is : c ≡ now) (h : StateInvariant c) (few : now.steps < 2 ^ 59) (x : Operation) (there : operation_at c.table o ≡ Some x) where
  few_inside : c.steps < 2 ^ 59
  few_inside = subst (λ (v : Core). v.steps < 2 ^ 59) (sym is) few

  -- a step that moves the operation brings it on, by the point to which its walk came
  nears_made : (after : Operation) → after.task ≡ x.task → (arena : ArenaView) (tape : Kept) (accounts : Accounts) (table : Table)
      → IsOver c.table table o after → Guarantee o c.arena arena
      → ((height n : ℕ) → IsAtPoint height n c.arena x.walk x.splits → IsAtPoint height (n + 1) arena after.walk after.splits)
      → (is_remove (ask x.task) ≡ true → (height n : ℕ) → IsRemovalAt height n c.arena x.walk x.outcome x.removal → IsRemovalAt height (n + 1) arena after.walk after.outcome after.removal)
      → is_scan (ask x.task) ≡ false → Nears now (made c arena tape accounts table) o Moved
  nears_made after asked arena tape accounts table over guarantee brings removes plain = subst (λ (v : Core). Nears v (made c arena tape accounts table) o Moved) is
      (nears_by c (made c arena tape accounts table) o x after there over.there (free_on o c.arena arena guarantee) (ap ask asked) brings removes (λ scans. absurd (both_ways _ plain scans)))

  -- what is told of it, and that
  steps_on : (new : Core) → Gives (shown now) new o false → Nears now new o Moved → Leads (shown now) (shown new) o
      → IsSound c.arena new × StepsOn now new o Moved
  steps_on new g nears leads = (sound_by c now new o false is g, record { tells = g.1; nears = nears; leads = leads })

  -- and of one that ends
  ends_it : (new : Core) → Gives (shown now) new o true → Leads (shown now) (shown new) o → IsSound c.arena new × StepsOn now new o DoneMove
  ends_it new g leads = (sound_by c now new o true is g, record { tells = g.1; nears = tt; leads = leads })

  -- what a step tells that leaves the tape, by the table that is left
  gives_on : (arena : ArenaView) (tape : Kept) (w : Walk) (table : Table) → IsOver c.table table o (moved x (c.steps + 1) w) → tape ≡ c.tape
      → Gives (shown c) (made c arena c.tape c.accounts (set c.table o (Some (moved x (c.steps + 1) w)))) o false
      → Gives (shown now) (made c arena tape c.accounts table) o false
  gives_on arena tape w table over keeps g =
      let after = moved x (c.steps + 1) w in
      subst (λ (all : Table). Gives (shown now) (made c arena tape c.accounts all) o false) (sym over.is)
      (subst (λ (v : Core). Gives (shown v) (made c arena tape c.accounts (set c.table o (Some after))) o false) is
      (subst (λ (t : Kept). Gives (shown c) (made c arena t c.accounts (set c.table o (Some after))) o false) (sym keeps) g))

  -- a lock that was taken, or not because the node was deleted or split
  pub lock_made : x.walk.phase ≡ Lock → x.outcome ≡ None → (arena : ArenaView) (w : Walk) (table : Table) → IsLock o x.task.key c.arena arena x.walk w
      → IsOver c.table table o (moved x (c.steps + 1) w) → IsSound c.arena (made c arena c.tape c.accounts table) × StepsOn now (made c arena c.tape c.accounts table) o Moved
  lock_made at_lock untold arena w table t over =
      let remembered = (lock_kept c o h x there at_lock).covers.remembered in
      let after = moved x (c.steps + 1) w in
      steps_on (made c arena c.tape c.accounts table)
      (subst (λ (all : Table). Gives (shown now) (made c arena c.tape c.accounts all) o false) (sym over.is)
      (lock_done c (shown now) o (ap shown is) h few x there at_lock arena w t))
      (nears_made after refl arena c.tape c.accounts table over t.keeps.guarantee
      (λ height n point. point_first height (n + 1) arena w x.splits after.walk.first (lock_brings o c.arena arena w x.walk x.splits t.locks at_lock remembered.there remembered.undeleted height n point))
      (λ removes height n r. removal_first height (n + 1) arena w x.outcome x.removal after.walk.first (lock_removal o c.arena arena x.walk w x.outcome x.removal at_lock remembered.undeleted t.locks height n r))
      (write_no_scan c o h x there Lock at_lock (λ aim kind. kind)))
      (leads_over c o h x there Lock at_lock now is arena c.tape c.accounts table after over w (t.free, subst (λ (told : Option Outcome). LocksBy told o c.arena arena x.removal x.walk w) (sym untold) t.locks) refl refl)

  -- a lock that was given back
  pub unlock_made : x.walk.phase ≡ Unlock → is_remove (ask x.task) ≡ false → x.outcome ≢ None → x.splits.halves.items ≡ []
      → (arena : ArenaView) (w : Walk) (table : Table) → IsUnlock o c.arena arena x.walk w → IsOver c.table table o (moved x (c.steps + 1) w)
      → IsSound c.arena (made c arena c.tape c.accounts table) × StepsOn now (made c arena c.tape c.accounts table) o DoneMove
  unlock_made at_unlock stays told none arena w table t over =
      ends_it (made c arena c.tape c.accounts table)
      (subst (λ (all : Table). Gives (shown now) (made c arena c.tape c.accounts all) o true) (sym over.is)
      (unlock_done c (shown now) o (ap shown is) h few x there at_unlock stays told none arena w t))
      (leads_over c o h x there Unlock at_unlock now is arena c.tape c.accounts table _ over w
      (done_from x.outcome c.arena (splits_of x.splits) x.removal x.walk w told (inr ((h.ops o x there).always.light stays)) t.walk) refl refl)

  -- all that was made ready
  pub ready_made : x.walk.phase ≡ Judge → x.outcome ≡ None → is_put (ask x.task) ≡ true → (arena : ArenaView) (tape : Kept) (w : Walk) (prepared : Prepared) (table : Table)
      → IsMadeReady o x.task c.arena arena c.tape tape x.walk w prepared → IsOver c.table table o (made_ready (moved x (c.steps + 1) w) prepared)
      → IsSound c.arena (made c arena tape c.accounts table) × StepsOn now (made c arena tape c.accounts table) o Moved
  ready_made at_judge untold put arena tape w prepared table t over =
      let after = made_ready (moved x (c.steps + 1) w) prepared in
      steps_on (made c arena tape c.accounts table)
      (subst (λ (all : Table). Gives (shown now) (made c arena tape c.accounts all) o false) (sym over.is)
      (judge_ready c (shown now) o (ap shown is) h few x there at_judge untold put arena tape w prepared t))
      (nears_made after refl arena tape c.accounts table over t.keeps.guarantee
      (λ height n point. point_first height (n + 1) arena w x.splits after.walk.first
      (subst (λ (v : ArenaView). IsAtPoint height (n + 1) v w x.splits) (sym t.stays) (judge_brings c.arena (at c.arena x.walk.place.node) t.slot w x.walk x.splits t.walk at_judge height n point)))
      (λ removes. absurd (both_ways _ (put_no_remove (ask x.task) put) removes)) (write_no_scan c o h x there Judge at_judge (λ aim kind. kind)))
      (leads_over c o h x there Judge at_judge now is arena tape c.accounts table after over w (judges_none untold (inl (record { slot = t.slot; stands = t.stands; goes = t.walk }))) refl refl)

  -- another long key in the key's place
  meets_made : x.walk.phase ≡ Judge → x.outcome ≡ None → is_remove (ask x.task) ≡ false → (arena : ArenaView) (tape : Kept) (w : Walk) (table : Table) → tape ≡ c.tape
      → MeetsOther o x.task.key c.arena arena x.walk w → IsOver c.table table o (moved x (c.steps + 1) w)
      → IsSound c.arena (made c arena tape c.accounts table) × StepsOn now (made c arena tape c.accounts table) o Moved
  meets_made at_judge untold stays arena tape w table keeps t over =
      let after = moved x (c.steps + 1) w in
      steps_on (made c arena tape c.accounts table)
      (gives_on arena tape w table over keeps (meet_done c o h few_inside x there at_judge untold stays arena w t))
      (nears_made after refl arena tape c.accounts table over t.keeps.guarantee
      (λ height n point. point_first height (n + 1) arena w x.splits after.walk.first
      (subst (λ (v : ArenaView). IsAtPoint height (n + 1) v w x.splits) (sym t.stays) (meet_brings c.arena t.slot w x.walk x.splits t.walk at_judge height n point)))
      (λ removes. absurd (both_ways _ stays removes)) (write_no_scan c o h x there Judge at_judge (λ aim kind. kind)))
      (leads_over c o h x there Judge at_judge now is arena tape c.accounts table after over w (judges_none untold (inr (inl (record { slot = t.slot; stands = stands; goes = t.walk })))) refl refl)
    where
      stands : IsInSlot (at c.arena x.walk.place.node) t.slot x.task.key x.walk.layer OtherLong
      stands = subst (λ (y : Walk). IsInSlot (at c.arena y.place.node) y.slot x.task.key y.layer OtherLong) t.walk t.kept.in_slot

  -- a link that leads on
  pub link_made : x.walk.phase ≡ Judge → IsArena c.arena.nodes c.arena.trees → (arena : ArenaView) (tape : Kept) (w : Walk) (table : Table) → tape ≡ c.tape
      → MeetsLink o x.task.key c.arena arena x.walk w → IsOver c.table table o (moved x (c.steps + 1) w)
      → IsSound c.arena (made c arena tape c.accounts table) × StepsOn now (made c arena tape c.accounts table) o Moved
  link_made at_judge is_arena arena tape w table keeps t over =
      let judged = (judge_kept c o h x there at_judge).judged in
      let through = judged.at_border.through in
      let live = leads c.arena.nodes c.arena.trees is_arena x.walk.place.node (place_at (at c.arena x.walk.place.node) t.slot) t.tree (record { there = judged.held.there; live = judged.stands.live; in_range = t.in_slot.in_range; is = t.leads }) in
      let stored = (h.ops o x there).always.stored in
      let after = moved x (c.steps + 1) w in
      steps_on (made c arena tape c.accounts table)
      (gives_on arena tape w table over keeps (below_done c o h few_inside x there at_judge arena w t))
      (nears_made after refl arena tape c.accounts table over t.goes.keeps.guarantee
      (λ height n point. point_first height (n + 1) arena w x.splits after.walk.first
      (subst (λ (v : ArenaView). IsAtPoint height (n + 1) v w x.splits) (sym t.goes.is) (link_brings c.arena x.task.key t.tree w x.walk x.splits t.goes.walk at_judge judged.held.there stored t.kept.begun live.live height n point)))
      (λ removes height n r. removal_first height (n + 1) arena w x.outcome x.removal after.walk.first (subst (λ (v : ArenaView). IsRemovalAt height (n + 1) v w x.outcome x.removal) (sym t.goes.is)
      (link_removal c.arena x.task.key t.tree w x.walk x.outcome x.removal t.goes.walk at_judge is_arena through.there (tree_stands c.arena is_arena x.task.key x.walk through judged.held.there judged.at_border.covers.remembered.tree_is judged.stands.live)
      (tree_layer c.arena is_arena x.task.key x.walk through judged.held.there judged.at_border.covers.remembered.tree_is judged.stands.live)
      (shallow_below x.walk.layer x.task.key stored (subst (λ (y : Walk). 8 * y.layer < length x.task.key) t.goes.walk t.kept.begun)) live.live height n r)))
      (write_no_scan c o h x there Judge at_judge (λ aim kind. kind)))
      (leads_over c o h x there Judge at_judge now is arena tape c.accounts table after over w (judges_link x.outcome _ _ (record { slot = t.slot; stands = t.in_slot; tree = t.tree; leads = t.leads; goes = t.goes.walk })) refl refl)

  -- either of them: it goes on
  pub on_made : x.walk.phase ≡ Judge → IsArena c.arena.nodes c.arena.trees → x.outcome ≡ None → is_remove (ask x.task) ≡ false
      → (arena : ArenaView) (tape : Kept) (w : Walk) (table : Table) → tape ≡ c.tape
      → MeetsOther o x.task.key c.arena arena x.walk w ⊎ MeetsLink o x.task.key c.arena arena x.walk w → IsOver c.table table o (moved x (c.steps + 1) w)
      → IsSound c.arena (made c arena tape c.accounts table) × StepsOn now (made c arena tape c.accounts table) o Moved
  on_made at_judge is_arena untold stays arena tape w table keeps (inl t) over = meets_made at_judge untold stays arena tape w table keeps t over
  on_made at_judge is_arena untold stays arena tape w table keeps (inr t) over = link_made at_judge is_arena arena tape w table keeps t over

  -- no memory for it
  pub refused_made : x.walk.phase ≡ Judge → x.outcome ≡ None → (arena : ArenaView) (tape : Kept) (w : Walk) (table : Table) → tape ≡ c.tape
      → IsUnlock o c.arena arena x.walk w → (slot : Option ℕ) → StandsIn (at c.arena x.walk.place.node) x.task.key x.walk.layer slot
      → IsOver c.table table o (noted (moved x (c.steps + 1) w) (Some (record { reply = NoMemory; at = c.steps + 1 })))
      → IsSound c.arena (made c arena tape c.accounts table) × StepsOn now (made c arena tape c.accounts table) o DoneMove
  refused_made at_judge untold arena tape w table keeps t slot stands over =
      ends_it (made c arena tape c.accounts table)
      (subst (λ (all : Table). Gives (shown now) (made c arena tape c.accounts all) o true) (sym over.is)
      (judge_refused c (shown now) o (ap shown is) h few x there at_judge untold arena tape w keeps t))
      (leads_over c o h x there Judge at_judge now is arena tape c.accounts table _ over w
      (judges_none untold (inr (inr (inr (inr (inr (inl (record { slot = slot; stands = stands; goes = t.walk })))))))) refl refl)

  -- another stamp than the one that it asks for
  pub stale_made : x.walk.phase ≡ Judge → x.outcome ≡ None → IsPut x.task → (stamp : ℕ) → (arena : ArenaView) (tape : Kept) (w : Walk) (table : Table) → tape ≡ c.tape
      → FindsStale o x.task stamp c.arena arena x.walk w
      → IsOver c.table table o (noted (moved x (c.steps + 1) w) (Some (record { reply = Stale stamp; at = c.steps + 1 })))
      → IsSound c.arena (made c arena tape c.accounts table) × StepsOn now (made c arena tape c.accounts table) o DoneMove
  stale_made at_judge untold put stamp arena tape w table keeps t over =
      let after = noted (moved x (c.steps + 1) w) (Some (record { reply = Stale stamp; at = c.steps + 1 })) in
      ends_it (made c arena tape c.accounts table)
      (subst (λ (all : Table). Gives (shown now) (made c arena tape c.accounts all) o true) (sym over.is)
      (subst (λ (v : Core). Gives (shown v) (made c arena tape c.accounts (set c.table o (Some after))) o true) is
      (subst (λ (k : Kept). Gives (shown c) (made c arena k c.accounts (set c.table o (Some after))) o true) (sym keeps)
      (judge_stale c o h few_inside x there at_judge put arena w stamp t untold))))
      (leads_over c o h x there Judge at_judge now is arena tape c.accounts table _ over w
      (judges_none untold (inr (inr (inr (inr (inr (inr (record {
        slot = t.slot;
        stands = t.stands;
        stale = subst (λ (s : ℕ). ¬ MeetsStamp (ask x.task) s) (sym t.standing) t.stale;
        goes = t.unlocks.walk;
      })))))))) refl refl)

  -- a put that has placed its change, or found its quota full, comes to give its lock back
  module _ (p : Phase) (at_p : x.walk.phase ≡ p) where
    unsplit : has_splits p ≡ false → x.splits.halves.items ≡ []
    unsplit none = ((h.ops o x there).unsplit (ap has_splits at_p ∙ none)).halves

    nears_placed : ((aim : Aim) → IsOfKind p aim → aim ≡ aims.Write) → ((height round n : ℕ) (v : ArenaView) (y : Walk) → HasRemoved p height round n v y → ⊥) → (arena : ArenaView) (tape : Kept) (accounts : Accounts) (w : Walk) (told : Option Outcome) (table : Table)
        → IsOver c.table table o (noted (moved (with_nothing_ready x) (c.steps + 1) w) told) → Guarantee o c.arena arena → w ≡ walk_placed x.walk
        → has_splits p ≡ false → ¬ MayHaveGrown p x.splits.halves.items → ((height : ℕ) → AreBelow c.arena height → AreBelow arena height)
        → ((height n : ℕ) → IsAtPoint height n c.arena x.walk x.splits → n < above height x.walk + 3 * height + 4)
        → Nears now (made c arena tape accounts table) o Moved
    nears_placed write none_removes arena tape accounts w told table over guarantee goes none other stays least =
        let after = noted (moved (with_nothing_ready x) (c.steps + 1) w) told in
        nears_made after refl arena tape accounts table over guarantee
        (λ height n point. point_first height (n + 1) arena w x.splits after.walk.first (place_brings c.arena arena w x.walk x.splits p at_p goes (unsplit none) other stays least height n point))
        (λ removes height n r. absurd (none_removes height r.round n c.arena x.walk (removed_at height n c.arena x.walk x.outcome x.removal p at_p r)))
        (write_no_scan c o h x there p at_p write)

  -- a row that was written over the one of its key
  pub store_made : x.walk.phase ≡ Store → (prepared : Prepared) → x.prepared ≡ Some prepared → (arena : ArenaView) (tape : Kept) (w : Walk) (before : Columns) (table : Table)
      → IsArena c.arena.nodes c.arena.trees → IsStore o (c.steps + 1) x.task prepared.row c.arena arena c.tape tape x.walk w before
      → IsOver c.table table o (noted (moved (with_nothing_ready x) (c.steps + 1) w) (Some (record { reply = Replaced; at = c.steps + 1 })))
      → IsSound c.arena (made c arena tape c.accounts table) × StepsOn now (made c arena tape c.accounts table) o Moved
  store_made at_store prepared has arena tape w before table is_arena st over =
      let sk = store_kept c o h x there at_store prepared has in
      steps_on (made c arena tape c.accounts table)
      (subst (λ (all : Table). Gives (shown now) (made c arena tape c.accounts all) o false) (sym over.is)
      (store_done c (shown now) o (ap shown is) h few x there (put_at c o h x there Store at_store tt) at_store arena tape w prepared.row before is_arena st))
      (nears_placed Store at_store (λ aim kind. kind) (λ height round n v y few. few) arena tape c.accounts w _ table over st.guarantee st.walk refl (λ grown. grown)
      (levels_stay c.arena arena x.walk.place.node _ sk.holds.judged.held.there (st.is sk.pair sk.stable) refl refl) (λ height n point. let few = few_at height n c.arena x.walk x.splits Store at_store point in omega (arith, few)))
      (leads_over c o h x there Store at_store now is arena tape c.accounts table _ over w st.walk refl refl)

  -- a pair that was written into a free slot
  pub fill_made : x.walk.phase ≡ Fill → (prepared rest : Prepared) → x.prepared ≡ Some prepared → (arena : ArenaView) (w : Walk) (table : Table)
      → IsFill o x.task prepared rest c.arena arena x.walk w → IsOver c.table table o (made_ready (moved x (c.steps + 1) w) rest)
      → IsSound c.arena (made c arena c.tape c.accounts table) × StepsOn now (made c arena c.tape c.accounts table) o Moved
  fill_made at_fill prepared rest has arena w table t over =
      let after = made_ready (moved x (c.steps + 1) w) rest in
      let fk = fill_kept c o h x there at_fill prepared has in
      steps_on (made c arena c.tape c.accounts table)
      (subst (λ (all : Table). Gives (shown now) (made c arena c.tape c.accounts all) o false) (sym over.is)
      (fill_done c (shown now) o (ap shown is) h few x there at_fill prepared rest arena w t))
      (nears_made after refl arena c.tape c.accounts table over t.keeps.guarantee
      (λ height n point. point_first height (n + 1) arena w x.splits after.walk.first
      (fill_brings c.arena arena w x.walk x.splits t.walk at_fill (levels_stay c.arena arena x.walk.place.node _ fk.holds.judged.held.there t.is refl refl) height n point))
      (λ removes height n r. absurd (removed_at height n c.arena x.walk x.outcome x.removal Fill at_fill r))
      (write_no_scan c o h x there Fill at_fill (λ aim kind. kind)))
      (leads_over c o h x there Fill at_fill now is arena c.tape c.accounts table after over w t.walk refl refl)

  module _ (at_publish : x.walk.phase ≡ Publish) (prepared : Prepared) (has : x.prepared ≡ Some prepared) (arena : ArenaView) (tape : Kept) (accounts : Accounts) (w : Walk) (table : Table) where
    by_outcome : (reply : Reply) → IsOver c.table table o (noted (moved (with_nothing_ready x) (c.steps + 1) w) (Some (record { reply = reply; at = c.steps + 1 })))
        → Guarantee o c.arena arena → w ≡ walk_placed x.walk → ((height : ℕ) → AreBelow c.arena height → AreBelow arena height)
        → Gives (shown now) (made c arena tape accounts (set c.table o (Some (noted (moved (with_nothing_ready x) (c.steps + 1) w) (Some (record { reply = reply; at = c.steps + 1 })))))) o false
        → IsSound c.arena (made c arena tape accounts table) × StepsOn now (made c arena tape accounts table) o Moved
    by_outcome reply over guarantee goes stays gives =
        steps_on (made c arena tape accounts table)
        (subst (λ (all : Table). Gives (shown now) (made c arena tape accounts all) o false) (sym over.is) gives)
        (nears_placed Publish at_publish (λ aim kind. kind) (λ height round n v y few. few) arena tape accounts w _ table over guarantee goes refl (λ grown. grown) stays (λ height n point. let few = few_at height n c.arena x.walk x.splits Publish at_publish point in omega (arith, few)))
        (leads_over c o h x there Publish at_publish now is arena tape accounts table _ over w goes refl refl)

    -- a pair that was made live
    pub publish_made : IsArena c.arena.nodes c.arena.trees → IsPublish o (c.steps + 1) x.task prepared.row c.arena arena c.tape tape c.accounts accounts x.walk w
        → IsOver c.table table o (noted (moved (with_nothing_ready x) (c.steps + 1) w) (Some (record { reply = New; at = c.steps + 1 })))
        → IsSound c.arena (made c arena tape accounts table) × StepsOn now (made c arena tape accounts table) o Moved
    publish_made is_arena pb over =
        let pk = publish_kept c o h x there at_publish prepared has in
        by_outcome New over pb.guarantee pb.walk (levels_stay c.arena arena x.walk.place.node _ pk.holds.judged.held.there pb.is refl refl)
        (publish_done c (shown now) o (ap shown is) h few x there (put_at c o h x there Publish at_publish tt) at_publish arena tape accounts w prepared.row is_arena pb)

    -- a quota that had no room
    pub full_made : IsPublishFull o x.task c.arena arena c.tape tape c.accounts accounts x.walk w
        → IsOver c.table table o (noted (moved (with_nothing_ready x) (c.steps + 1) w) (Some (record { reply = Full; at = c.steps + 1 })))
        → IsSound c.arena (made c arena tape accounts table) × StepsOn now (made c arena tape accounts table) o Moved
    full_made ff over =
        by_outcome Full over ff.guarantee ff.walk (λ height. subst (λ (v : ArenaView). AreBelow v height) (sym ff.stays))
        (publish_full c (shown now) o (ap shown is) h few x there at_publish (put_at c o h x there Publish at_publish tt) arena tape accounts w ff)
