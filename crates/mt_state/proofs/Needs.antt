-- What the calls of a put's phases ask, by the invariant: for `State::lock`, `judge`, `store`, `publish` and `unlock`, and
-- for those that make a layer.
use Rattle.std.proofs.Common.{◌≡◌, ◌≢◌, ℕ, ◌+◌, ◌<◌, Bool, true, false, List, [], Option, Some, None, IsSome, is_some, refl, sym, ap, subst, ◌∙◌, arith, inl, inr, nat_cmp, length}
use Rattle.std.proofs.{lemmas.Option.{same_Some, none-some}, lemmas.Bool.cases_eq}
use Rattle.std.specs.{FinMap.{get, len, empty_of_len, get-empty}, Cmp.Lexicographic.slice_cmp}
use Rattle.mt_version.specs.Changes.{CanUnlock}
use Rattle.mt_rows.specs.{Maps.Map, Rows.Bytes, Stamps.Stamped, declared.command.Command.TheVariants.Remove, declared.tenants.Account.Account, Commands.key_of}
use Rattle.mt_rows.specs.{Accounts.{account_of, HasPairs}, Tenants.tenant_map}
use Rattle.mt_rows.proofs.ContentLaws.{get-tenant_map}
use Rattle.mt_border.specs.Contents.{row_of}
use Rattle.mt_tape.specs.Tapes.{last_write}
use Rattle.mt_arena.specs.{Accesses.{at, tree_of}, Arena.{IsArena, content_of}, Forests.layer_of}
use Rattle.mt_operation.specs.{declared.phase.Phase.Phase, declared.phase.Phase.TheVariants.{Lock, Judge, Store, Fill, Publish, Unlock, Done, DropKey}}
use Rattle.mt_operation.specs.{declared.outcome.Outcome.Outcome, declared.prepared.Prepared.Prepared, declared.splits.Halves.Halves}
use Rattle.mt_operation.specs.{declared.operation.Operation.Operation, Tasks.{ask, command_of}, Operations.{view_of, splits_of, scan_of}}
use Rattle.mt_operation.specs.{Phases.{is_done, IsLayerPhase, is_prepared, IsLayerKind, Kind, row, IsRemovalPhase}, Tables.{op_at as operation_at}}
use Rattle.mt_operation.specs.declared.task.Request.{Request}
use Rattle.mt_operation.specs.declared.task.Request.TheVariants.{Get as GetOf, Put as PutOf, PutIf as PutIfOf, Remove as RemoveOf, Scan as ScanOf}
use Rattle.mt_operation.specs.declared.removal.Removal.{Removal}
use Rattle.mt_descent.specs.KeptWalks.{IsAtBorder, KeptAt, HoldsNothing, walk_place}
use Rattle.mt_insert.specs.{Puts.{IsPut, is_put}, KeptPuts.{IsAtStore, IsAtFill, IsAtPublish}}
use Rattle.mt_held.{specs.Holds.{HoldsBorder, IsAtUnlock}, proofs.Places.may_store}
use Rattle.mt_layer.specs.KeptLayers.{IsAtLeave, KeptLayer}
use Rattle.mt_state.specs.{Views.{Core, shown, past_of}, Promises.{IsInTheWay, IsHeldByOther, HasStep}}
use Rattle.mt_state.specs.KeptOperations.{IsOpenOperation, IsOnItsWay, IsJudging, IsStoring, IsFilling, IsPublishing, MayUnlock, IsUnlocking, IsLayering, IsLeaving, IsReturning, IsKeptAt, IsKeptFor, IsWritingAt, MayUnlockUnsplit, IsDropping}
use Rattle.mt_state.specs.Invariant.{HoldsAt, StateInvariant}
use Rattle.mt_state.proofs.{Shown.shown_there, Locking.{may_unlock, room_for}, Stamps.row_stands, RemovalSteps.{unlinking_of, removal_holds}}
use Rattle.mt_state.proofs.{RemovalLooks.going_back, Lawful.{put_no_scan, remove_no_scan}}
use Rattle.mt_remove.specs.Writes.{is_remove, IsRemoval}
use Rattle.mt_remove.specs.KeptRemovals.{IsAtDropKey, IsUnburdened, KeptRemoval, HoldsRemoval, IsAtUnlockRemoval, IsCleaning, IsAmong as IsOfRemoval}
use Rattle.mt_operation.specs.Phases as kinds

-- a phase in which an operation has all ready for a put
abbrev IsOfPutKind : Kind → Type 0
IsOfPutKind kinds.Writes = Unit {0}
IsOfPutKind kinds.Begins = Unit {0}
IsOfPutKind kinds.Splits = Unit {0}
IsOfPutKind _ = ⊥

abbrev pub IsOfPut : Phase → Type 0
IsOfPut p = IsOfPutKind (row p).kind

pub writing_put : (p : Phase) (c : Core) (o : ℕ) (op : Operation) → IsWritingAt p c o op → is_put (ask op.task) ≡ true
writing_put Store c o op k = k.put
writing_put Fill c o op k = k.put
writing_put _ c o op k = k.put

kept_put : (of : Kind) (p : Phase) → IsOfPutKind of → (c : Core) (o : ℕ) (op : Operation) → IsKeptFor of p c o op → is_put (ask op.task) ≡ true
kept_put kinds.Writes p i c o op k = writing_put p c o op k
kept_put kinds.Begins p i c o op k = k.put
kept_put kinds.Splits p i c o op k = k.put
kept_put _ p i c o op k = absurd i

-- who holds a node has a step left
holder_open : (p : Phase) (op : Operation) (k : ℕ) → HoldsAt p op k → is_done p ≡ false
holder_open Done op k holds = absurd holds
holder_open _ op k holds = refl

-- one that was told something is not to leave a layer
unlocking : (told : Option Outcome) → told ≢ None → (c : Core) (o : ℕ) (op : Operation) → IsReturning told c o op → IsUnlocking c o op
unlocking None some c o op k = absurd (some refl)
unlocking (Some told) some c o op k = k

layering : (p : Phase) → IsLayerPhase p → (c : Core) (o : ℕ) (op : Operation) → IsKeptAt p c o op → IsLayering c o op p
layering p makes c o op kept = by (row p).kind makes kept
  where
    by : (k : Kind) → IsLayerKind k → IsKeptFor k p c o op → IsLayering c o op p
    by kinds.Layers makes kept = kept
    by _ makes kept = absurd makes

-- the command of a removal
request_removes : (r : Request) → is_remove (command_of r) ≡ true → command_of r ≡ Remove (key_of (command_of r))
request_removes (RemoveOf key) removes = refl
request_removes (GetOf key columns) removes = absurd (cc)
request_removes (ScanOf from after count columns) removes = absurd (cc)
request_removes (PutOf key change) removes = absurd (cc)
request_removes (PutIfOf key stamp change) removes = absurd (cc)

-- a map with a key has some
len_some : (m : Map) (key : Bytes) (row : Stamped) → get m key ≡ Some row → 0 < len m
len_some m key row is = elim (cases_eq (len m) 0) [
  | inl none ↦ absurd (none-some row (sym (ap (λ (x : Map). get x key) (empty_of_len m none) ∙ get-empty (slice_cmp nat_cmp) key) ∙ is))
  | inr some ↦ omega (arith, some)
]

module _ (c : Core) (o : ℕ) (h : StateInvariant c) (op : Operation) (there : operation_at c.table o ≡ Some op) where
  always : IsOpenOperation c op
  always = (h.ops o op there).always

  -- the operation is a put
  pub put_at : (p : Phase) → op.walk.phase ≡ p → IsOfPut p → IsPut op.task
  put_at p at_p of_put = record {
    put_is = kept_put (row p).kind p of_put c o op (subst (λ (q : Phase). IsKeptAt q c o op) at_p (h.ops o op there).kept);
    owner = always.owner (put_no_scan (ask op.task) (kept_put (row p).kind p of_put c o op (subst (λ (q : Phase). IsKeptAt q c o op) at_p (h.ops o op there).kept)));
  }

  -- the next step is later than all writes
  pub step_later : last_write c.tape < c.steps + 1
  step_later = omega (arith, h.tape.made)

  -- it stands at a border node, and holds nothing
  pub lock_kept : op.walk.phase ≡ Lock → IsAtBorder c.arena op.task.key op.walk
  lock_kept at_lock =
      let way : IsOnItsWay c op = subst (λ (p : Phase). IsKeptAt p c o op) at_lock (h.ops o op there).kept in
      subst (λ (p : Phase). KeptAt p c.arena (past_of c) op.task.key None op.walk) at_lock way.kept

  pub lock_free_hands : op.walk.phase ≡ Lock → HoldsNothing c.arena o
  lock_free_hands at_lock k within held =
      let f = h.holders k o within held in
      let same = same_Some f.0 op (sym f.1 ∙ there) in
      subst (λ (p : Phase). HoldsAt p op k) at_lock (subst (λ (x : Operation). HoldsAt x.walk.phase x k) same f.2)

  -- whoever holds the node is another operation, which has a step left
  pub lock_blocked : op.walk.phase ≡ Lock → (holder : ℕ) → (at c.arena op.walk.place.node).holder ≡ Some holder → IsHeldByOther (shown c) o holder
  lock_blocked at_lock holder held =
      let within = (lock_kept at_lock).covers.remembered.there in
      let f = h.holders op.walk.place.node holder within held in
      record {
        other = λ same. lock_free_hands at_lock op.walk.place.node within (held ∙ ap Some same);
        unfinished = (view_of f.0, shown_there c.table holder f.0 f.1, holder_open f.0.walk.phase f.0 op.walk.place.node f.2);
        op = view_of op;
        there = shown_there c.table o op there;
        holds = subst (λ (p : Phase). IsInTheWay c.arena p op.walk (splits_of op.splits) op.removal (scan_of op.task op.scan) holder) (sym at_lock) (op.walk.place.node, refl, within, held);
      }

  -- it holds its border node
  pub judge_kept : op.walk.phase ≡ Judge → HoldsBorder c.arena o op.task.key op.walk
  judge_kept at_judge = let k : IsJudging c o op = subst (λ (p : Phase). IsKeptAt p c o op) at_judge (h.ops o op there).kept in k.judges

  -- what it has made ready is the put over its key's row
  pub store_kept : op.walk.phase ≡ Store → (prepared : Prepared) → op.prepared ≡ Some prepared → IsAtStore c.arena o op.task prepared op.walk
  store_kept at_store prepared has =
      let k : IsStoring c o op = subst (λ (p : Phase). IsKeptAt p c o op) at_store (h.ops o op there).kept in
      subst (λ (x : Prepared). IsAtStore c.arena o op.task x op.walk) (same_Some k.prepared prepared (sym k.has ∙ has)) k.stores

  -- or over no row
  pub fill_kept : op.walk.phase ≡ Fill → (prepared : Prepared) → op.prepared ≡ Some prepared → IsAtFill c.arena o op.task prepared op.walk
  fill_kept at_fill prepared has =
      let k : IsFilling c o op = subst (λ (p : Phase). IsKeptAt p c o op) at_fill (h.ops o op there).kept in
      subst (λ (x : Prepared). IsAtFill c.arena o op.task x op.walk) (same_Some k.prepared prepared (sym k.has ∙ has)) k.fills

  -- and what is left of that stands beside the slot that has its pair
  pub publish_kept : op.walk.phase ≡ Publish → (prepared : Prepared) → op.prepared ≡ Some prepared → IsAtPublish c.arena o op.task prepared op.walk
  publish_kept at_publish prepared has =
      let k : IsPublishing c o op = subst (λ (p : Phase). IsKeptAt p c o op) at_publish (h.ops o op there).kept in
      subst (λ (x : Prepared). IsAtPublish c.arena o op.task x op.walk) (same_Some k.prepared prepared (sym k.has ∙ has)) k.publishes

  -- it is there
  pub store_ready : op.walk.phase ≡ Store → IsSome op.prepared
  store_ready at_store = let k : IsStoring c o op = subst (λ (p : Phase). IsKeptAt p c o op) at_store (h.ops o op there).kept in ap is_some k.has

  pub fill_ready : op.walk.phase ≡ Fill → IsSome op.prepared
  fill_ready at_fill = let k : IsFilling c o op = subst (λ (p : Phase). IsKeptAt p c o op) at_fill (h.ops o op there).kept in ap is_some k.has

  pub publish_ready : op.walk.phase ≡ Publish → IsSome op.prepared
  publish_ready at_publish = let k : IsPublishing c o op = subst (λ (p : Phase). IsKeptAt p c o op) at_publish (h.ops o op there).kept in ap is_some k.has

  -- and the tape has room for its write
  pub write_room : (p : Phase) → op.walk.phase ≡ p → is_prepared p ≡ true → 0 < c.tape.reserved
  write_room p at_p ready = room_for c h o op p there at_p ready

  returning : op.walk.phase ≡ Unlock → IsReturning op.outcome c o op
  returning at_unlock = subst (λ (p : Phase). IsKeptAt p c o op) at_unlock (h.ops o op there).kept

  -- where it was told something it may give its lock back, where it has split nothing
  pub unlock_kept : op.walk.phase ≡ Unlock → is_remove (ask op.task) ≡ false → op.outcome ≢ None → op.splits.halves.items ≡ [] → IsAtUnlock c.arena o op.walk
  unlock_kept at_unlock puts told none =
      let both : MayUnlock [] c.arena o op = subst (λ (halves : List Halves). MayUnlock halves c.arena o op) none (unlocking op.outcome told c o op (returning at_unlock)).unlocks in
      subst (λ (removes : Bool). MayUnlockUnsplit removes c.arena o op) puts both.0

  pub unlock_room : op.walk.phase ≡ Unlock → is_remove (ask op.task) ≡ false → op.outcome ≢ None → op.splits.halves.items ≡ []
      → CanUnlock (at c.arena op.walk.place.node).version
  unlock_room at_unlock puts told none = may_unlock c h op.walk.place.node (unlock_kept at_unlock puts told none).held.there

  -- what is kept of one that makes a layer
  pub layer_kept : (p : Phase) → op.walk.phase ≡ p → IsLayerPhase p → KeptLayer p c.arena o op.task.key op.walk
  layer_kept p at_p makes = (layering p makes c o op (subst (λ (q : Phase). IsKeptAt q c o op) at_p (h.ops o op there).kept)).makes

  -- where it was told nothing it has made one, and may give its lock back
  pub leave_kept : op.walk.phase ≡ Unlock → op.outcome ≡ None → IsAtLeave c.arena o op.task.key op.walk
  leave_kept at_unlock untold =
      let k : IsLeaving c o op = subst (λ (told : Option Outcome). IsReturning told c o op) untold (returning at_unlock) in k.layering.makes

  pub leave_room : op.walk.phase ≡ Unlock → op.outcome ≡ None → CanUnlock (at c.arena op.walk.place.node).version
  leave_room at_unlock untold = may_unlock c h op.walk.place.node (leave_kept at_unlock untold).unlock.held.there

  -- what an operation that removes asks
  pub removal_of : is_remove (ask op.task) ≡ true → IsRemoval op.task
  removal_of removes = record { is = request_removes op.task.request removes; owner = always.owner (remove_no_scan (ask op.task) removes) }

  -- what it has made ready is the removal of its key's row
  dropping : op.walk.phase ≡ DropKey → IsDropping c o op
  dropping at_drop = subst (λ (p : Phase). IsKeptAt p c o op) at_drop (h.ops o op there).kept

  pub drop_kept : op.walk.phase ≡ DropKey → (prepared : Prepared) → op.prepared ≡ Some prepared → IsAtDropKey c.arena o op.task prepared op.walk
  drop_kept at_drop prepared has =
      let k = dropping at_drop in subst (λ (x : Prepared). IsAtDropKey c.arena o op.task x op.walk) (same_Some k.prepared prepared (sym k.has ∙ has)) k.drops

  pub drop_ready : op.walk.phase ≡ DropKey → IsSome op.prepared
  drop_ready at_drop = ap is_some (dropping at_drop).has

  pub drop_removes : op.walk.phase ≡ DropKey → IsRemoval op.task
  drop_removes at_drop = removal_of (dropping at_drop).removes

  pub drop_light : op.walk.phase ≡ DropKey → IsUnburdened op.removal
  drop_light at_drop =
      let light = (dropping at_drop).light in
      record { left = ap (λ (r : Removal). r.left) light; parent = ap (λ (r : Removal). r.parent) light; below = ap (λ (r : Removal). r.below) light }

  -- its tenant has the pair
  pub drop_counted : IsArena c.arena.nodes c.arena.trees → op.walk.phase ≡ DropKey → HasPairs (account_of c.accounts op.task.tenant)
  drop_counted arena at_drop = by (account_of c.accounts op.task.tenant) refl always.tenant
    where
      k : IsDropping c o op
      k = dropping at_drop

      row : get (tenant_map op.task.tenant (content_of c.arena)) (key_of (ask op.task)) ≡ Some (row_of k.drops.pair)
      row =
          let may = may_store c.arena o op.task.key op.walk arena k.drops.holds op.walk.slot k.drops.pair k.drops.in_slot k.drops.stable in
          get-tenant_map op.task.tenant (content_of c.arena) (key_of (ask op.task)) ∙ ap (get (content_of c.arena)) (sym (always.owner (remove_no_scan (ask op.task) k.removes)))
          ∙ row_stands c h.stamps arena op.task.key (layer_of (tree_of c.arena op.walk.place.node).prefix) op.walk.place.node (walk_place c.arena op.walk) k.drops.pair may.stands

      by : (account : Option Account) → account_of c.accounts op.task.tenant ≡ account → IsSome account → HasPairs account
      by None is some = absurd (cc)
      by (Some account) is some = let counted = h.counts op.task.tenant account is in let more = len_some (tenant_map op.task.tenant (content_of c.arena)) (key_of (ask op.task)) (row_of k.drops.pair) row in omega (arith, counted.0, more)

  -- what is kept of one that takes a node or a layer out, and that it holds these nodes alone
  pub removal_kept_at : (p : Phase) → op.walk.phase ≡ p → IsRemovalPhase p → KeptRemoval p c.arena o op.task.key op.walk op.removal
  removal_kept_at p at_p takes = (unlinking_of p takes c o op (subst (λ (q : Phase). IsKeptAt q c o op) at_p (h.ops o op there).kept)).kept

  pub removal_held_at : IsRemovalPhase op.walk.phase → HoldsRemoval c.arena o op.walk op.removal
  removal_held_at takes k within held =
      let f = h.holders k o within held in
      removal_holds op.walk.phase takes op k (subst (λ (x : Operation). HoldsAt x.walk.phase x k) (same_Some f.0 op (sym f.1 ∙ there)) f.2)

  -- an operation that holds a node has a step left
  pub holder_left : (k holder : ℕ) → k < length c.arena.nodes → (at c.arena k).holder ≡ Some holder → HasStep (shown c) holder
  holder_left k holder within held =
      let f = h.holders k holder within held in (view_of f.0, shown_there c.table holder f.0 f.1, holder_open f.0.walk.phase f.0 k f.2)

  -- where it was told something it may give the locks of its removal back
  pub removal_unlock_kept : op.walk.phase ≡ Unlock → is_remove (ask op.task) ≡ true → op.outcome ≢ None → op.splits.halves.items ≡ []
      → IsAtUnlockRemoval c.arena o op.task.key op.walk op.removal
  removal_unlock_kept at_unlock removes told none =
      let both : MayUnlock [] c.arena o op = subst (λ (halves : List Halves). MayUnlock halves c.arena o op) none (unlocking op.outcome told c o op (returning at_unlock)).unlocks in
      subst (λ (b : Bool). MayUnlockUnsplit b c.arena o op) removes both.0

  pub removal_unlock_room : op.walk.phase ≡ Unlock → is_remove (ask op.task) ≡ true → op.outcome ≢ None → op.splits.halves.items ≡ []
      → (k : ℕ) → IsOfRemoval op.walk op.removal k → CanUnlock (at c.arena k).version
  removal_unlock_room at_unlock removes told none k among =
      let u = removal_unlock_kept at_unlock removes told none in
      elim among [
        | inl node ↦ may_unlock c h k (subst (λ i. i < length c.arena.nodes) (sym node) u.node.returns.held.there)
        | inr (inl left) ↦ may_unlock c h k (u.left k left).0.returns.held.there
        | inr (inr (inl parent)) ↦ may_unlock c h k (u.parent k parent).returns.held.there
        | inr (inr (inr below)) ↦ may_unlock c h k (u.removes.below k below).returns.held.there
      ]

  -- on its way back it goes to take out a link
  pub lock_cleans : op.walk.phase ≡ Lock → op.outcome ≢ None → IsCleaning c.arena op.task.key op.removal
  lock_cleans at_lock told =
      let way : IsOnItsWay c op = subst (λ (p : Phase). IsKeptAt p c o op) at_lock (h.ops o op there).kept in (going_back op.outcome told c op way.bound).cleans
