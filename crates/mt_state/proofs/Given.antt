-- What is kept of an operation stays where places are given out that it does not remember: then the rely goes on as for any other step.
use Rattle.std.proofs.Common.{◌≡◌, ℕ, arith, inl, List, [], ◌∷◌, Option, None, Some, refl, sym, ap, subst, ◌∙◌, Bool, true, false}
use Rattle.mt_rows.specs.{Stamps.Stamped, Tenants.{Contents, tenant_map}}
use Rattle.mt_tape.specs.Histories.{contents_at}
use Rattle.mt_arena.specs.{declared.tree.Tree.Tree, NodeView.NodeView, Arena.{ArenaView, IsArena}, Accesses.at, Forests.tree_at}
use Rattle.mt_operation.specs.{declared.outcome.Outcome.Outcome, declared.operation.Operation.Operation, declared.phase.Phase.Phase}
use Rattle.mt_operation.specs.{declared.phase.Phase.TheVariants.{Enter, Load, Confirm, Store, Fill, Unlock, Check, Hop}, declared.splits.Halves.Halves}
use Rattle.mt_operation.specs.{Operations.{view_of, scan_of}, Tasks.ask, Phases.{Kind, row}}
use Rattle.mt_descent.specs.{Pasts.Past, Seen.RangeStands, KeptWalks.{IsKept, HasSlot}, Remembered.RemembersNode}
use Rattle.mt_scan.{specs.Snaps.prefix_in, proofs.Given.{check_given, kept_hop_given}}
use Rattle.mt_stretches.specs.Scanned.{HasSeen}
use Rattle.mt_state.proofs.Rely.{answer_stays}
use Rattle.mt_state.specs.{Views.{Core, shown, past_of, KeepsPast}, Given.{with_given, SparesOneWalk, SparesScan, SparesWalk, SparesOperation}}
use Rattle.mt_state.specs.KeptOperations.{IsOpenOperation, IsOnItsWay, HasAnswer, IsBound, MayUnlock, MayUnlockUnsplit, IsUnlinking, IsClimbing, IsLayering, IsReturning, IsPlacedOnce, IsKeptOf, IsKeptFor, IsReadingAt, IsScanningAt, IsWritingAt}
use Rattle.mt_remove.specs.Writes.{is_remove}
use Rattle.mt_descent.proofs.Given as walks
use Rattle.mt_held.proofs.Given as held
use Rattle.mt_insert.proofs.Given as insert
use Rattle.mt_layer.proofs.Given as layers
use Rattle.mt_remove.proofs.Given as removals
use Rattle.mt_operation.specs.Phases as kinds

module _ (c : Core) (mid : ArenaView) (q : ℕ) (op : Operation) (arena : IsArena c.arena.nodes c.arena.trees) (s : SparesOperation c.arena mid q op) where
  abbrev new : Core
  new = with_given c mid

  -- the contents stand, so all that was is told as before
  past_same : past_of new ≡ past_of c
  past_same = ap (λ (all : Contents). record { steps = c.steps; contents = contents_at c.tape.entries all }) s.contents

  keeps : KeepsPast (shown c) (shown new)
  keeps = record {
    steps = omega arith;
    quotas = λ t. refl;
    maps = λ t m le. ap (λ (all : Contents). tenant_map t (contents_at c.tape.entries all m)) s.contents;
    changes = λ m le. refl;
  }

  told_given : IsOpenOperation c op → HasAnswer c op → HasAnswer new op
  told_given k h = record {
    outcome = h.outcome;
    told = h.told;
    right = answer_stays (shown c) (shown new) keeps (view_of op) h.outcome k.made h.right;
    unprepared = h.unprepared;
  }

  -- what it is bound for
  bound_given : (told : Option Outcome) → IsOpenOperation c op → IsBound told c op → IsBound told new op
  bound_given None k h = h
  bound_given (Some told) k h = record {
    removes = h.removes;
    answer = told_given k h.answer;
    cleans = removals.cleaning_given c.arena mid op.task.key op.removal s.beside.gives s.cleans h.cleans;
  }

  -- an operation that holds nothing
  walk_given : SparesOneWalk c.arena mid op → (row : Option Stamped) → IsKept c.arena (past_of c) op.task.key row op.walk → IsKept mid (past_of new) op.task.key row op.walk
  walk_given away row h = subst (λ (past : Past). IsKept mid past op.task.key row op.walk) (sym past_same)
      (walks.kept_given c.arena mid (past_of c) op.task.key row op.walk op.walk.phase away h)

  way_given : SparesOneWalk c.arena mid op → IsOpenOperation c op → IsOnItsWay c op → IsOnItsWay new op
  way_given away k h = record { kept = walk_given away None h.kept; bound = bound_given op.outcome k h.bound; unprepared = h.unprepared }

  reading_given : (p : Phase) → op.walk.phase ≡ p → SparesOneWalk c.arena mid op → IsOpenOperation c op → IsReadingAt p c op → IsReadingAt p new op
  reading_given Load is away k h = record {
    way = way_given away k h.way;
    found = λ now. subst (λ (n : NodeView). HasSlot n op.walk.slot op.task.key op.walk.layer)
        (sym (away.nodes op.walk.place.node (subst (λ p. RemembersNode p op.walk op.walk.place.node) (sym is) refl))) (h.found now);
  }
  reading_given Confirm is away k h = record { row = h.row; kept = walk_given away h.row h.kept; tells = h.tells; unprepared = h.unprepared }
  reading_given _ is away k h = way_given away k h

  -- what it scans
  scanning_given : (p : Phase) → SparesScan p c.arena mid op → IsOpenOperation c op → IsScanningAt p c op → IsScanningAt p new op
  scanning_given Check away k h =
      let node : at mid op.walk.place.node ≡ at c.arena op.walk.place.node = away.nodes op.walk.place.node (inl refl) in
      let tree : tree_at mid.trees op.walk.place.tree ≡ tree_at c.arena.trees op.walk.place.tree = away.trees op.walk.place.tree (inl refl) in
      record {
        kept = check_given c.arena mid op.task.key op.walk op.scan.stop away h.kept;
        seen = λ stands. subst (λ (past : Past). HasSeen past op.walk.first (prefix_in mid op.walk) (scan_of op.task op.scan)) (sym past_same)
            (subst (λ (t : Tree). HasSeen (past_of c) op.walk.first t.prefix (scan_of op.task op.scan)) (sym tree)
            (h.seen (subst (λ (n : NodeView). RangeStands n op.walk.place.seen) node stands)));
        untold = h.untold;
        unprepared = h.unprepared;
      }
  scanning_given Hop away k h = record { kept = kept_hop_given c.arena mid op.task.key op.walk op.scan.stop away h.kept; untold = h.untold; unprepared = h.unprepared }
  scanning_given _ away k h = way_given away k h

  -- one that holds nodes: what it is to write
  writing_given : (p : Phase) → IsWritingAt p c q op → IsWritingAt p new q op
  writing_given Store h = record {
    prepared = h.prepared;
    has = h.has;
    stores = insert.store_given q c.arena mid s.beside op.task h.prepared op.walk h.stores;
    put = h.put;
    untold = h.untold;
  }
  writing_given Fill h = record {
    prepared = h.prepared;
    has = h.has;
    fills = insert.fill_given q c.arena mid s.beside op.task h.prepared op.walk h.fills;
    put = h.put;
    untold = h.untold;
  }
  writing_given _ h = record {
    prepared = h.prepared;
    has = h.has;
    publishes = insert.publish_given q c.arena mid s.beside op.task h.prepared op.walk h.publishes;
    put = h.put;
    untold = h.untold;
  }

  -- what it climbs with
  climbing_given : (p : Phase) → IsOpenOperation c op → IsClimbing c q op p → IsClimbing new q op p
  climbing_given p k h = record { stays = h.stays; climbs = insert.split_given q c.arena mid s.beside p op.splits h.climbs; answer = told_given k h.answer }

  -- what it makes a layer with
  layering_given : (p : Phase) → (p ≡ Enter → tree_at mid.trees op.walk.place.tree ≡ tree_at c.arena.trees op.walk.place.tree) → IsLayering c q op p → IsLayering new q op p
  layering_given p entered h = record {
    stays = h.stays;
    makes = layers.layer_given q c.arena mid s.beside s.making arena op.task.key op.walk p entered h.makes;
    light = h.light;
    untold = h.untold;
    unprepared = h.unprepared;
  }

  -- what it takes a node or a layer out with
  unlinking_given : (p : Phase) → IsOpenOperation c op → IsUnlinking c q op p → IsUnlinking new q op p
  unlinking_given p k h = record {
    removes = h.removes;
    kept = removals.removal_given q c.arena mid s.beside op.task.key op.walk op.removal p h.kept;
    answer = told_given k h.answer;
  }

  -- what it may give back, by its outcome
  unsplit_given : (removes : Bool) → MayUnlockUnsplit removes c.arena q op → MayUnlockUnsplit removes mid q op
  unsplit_given true h = removals.removal_given q c.arena mid s.beside op.task.key op.walk op.removal Unlock h
  unsplit_given false h = held.unlock_given q c.arena mid s.beside op.walk h

  unlocks_given : (halves : List Halves) → MayUnlock halves c.arena q op → MayUnlock halves mid q op
  unlocks_given [] h = (unsplit_given (is_remove (ask op.task)) h.0, h.1)
  unlocks_given (x ∷ halves) h = (insert.split_given q c.arena mid s.beside Unlock op.splits h.0, h.1)

  returning_given : (told : Option Outcome) → IsOpenOperation c op → IsReturning told c q op → IsReturning told new q op
  returning_given None k h = record { layering = layering_given Unlock (λ e. absurd (cc)) h.layering; unsplit = h.unsplit }
  returning_given (Some told) k h = record { unlocks = unlocks_given op.splits.halves.items h.unlocks; answer = told_given k h.answer }

  -- by what its next step does
  kept_for_given : (of : Kind) (p : Phase) → op.walk.phase ≡ p → SparesWalk of p c.arena mid op → IsOpenOperation c op → IsKeptFor of p c q op → IsKeptFor of p new q op
  kept_for_given kinds.Descends p is away k h = way_given away k h
  kept_for_given kinds.Locks p is away k h = way_given away k h
  kept_for_given kinds.Reads p is away k h = reading_given p is away k h
  kept_for_given kinds.Scans p is away k h = scanning_given p away k h
  kept_for_given kinds.Judges p is away k h =
      record { judges = held.judge_given q c.arena mid s.beside op.task.key op.walk h.judges; bound = bound_given op.outcome k h.bound; unprepared = h.unprepared }
  kept_for_given kinds.Writes p is away k h = writing_given p h
  kept_for_given kinds.Begins p is away k h = record {
    prepared = h.prepared;
    has = h.has;
    starts = insert.split_start_given q c.arena mid s.beside op.task h.prepared op.walk h.starts;
    put = h.put;
    untold = h.untold;
  }
  kept_for_given kinds.Splits p is away k h = record {
    prepared = h.prepared;
    has = h.has;
    moves = insert.move_given q c.arena mid s.beside op.task h.prepared op.walk op.splits h.moves;
    put = h.put;
    untold = h.untold;
  }
  kept_for_given kinds.Climbs p is away k h = climbing_given p k h
  kept_for_given kinds.Layers p is away k h = layering_given p (λ e. s.enter (is ∙ e)) h
  kept_for_given kinds.Drops p is away k h = record {
    prepared = h.prepared;
    has = h.has;
    drops = removals.drop_key_given q c.arena mid s.beside op.task h.prepared op.walk h.drops;
    removes = h.removes;
    light = h.light;
    untold = h.untold;
  }
  kept_for_given kinds.Unlinks p is away k h = unlinking_given p k h
  kept_for_given kinds.Cleans p is away k h = unlinking_given p k h
  kept_for_given kinds.Returns p is away k h = returning_given op.outcome k h
  kept_for_given kinds.Ends p is away k h = told_given k h

  open_given : IsOpenOperation c op → IsOpenOperation new op
  open_given h = record {
    stored = h.stored;
    tenant_is = h.tenant_is;
    owner = h.owner;
    columns = h.columns;
    tenant = h.tenant;
    aim = h.aim;
    kind = h.kind;
    order = h.order;
    made = h.made;
    born = h.born;
    birth = h.birth;
    floor = h.floor;
    begun = h.begun;
    short = h.short;
    counts = h.counts;
    light = h.light;
  }

  placed_once_given : (m : ℕ) → IsPlacedOnce c op m → IsPlacedOnce new op m
  placed_once_given m h = record {
    entry = h.entry;
    there = h.there;
    step_is = h.step_is;
    worker = h.worker;
    tenant = h.tenant;
    key_is = h.key_is;
    makes = h.makes;
    keeps = h.keeps;
    was = h.was;
    met = h.met;
  }

  -- all that is kept of it
  pub given : IsKeptOf c q op → IsKeptOf new q op
  given h = record {
    always = open_given h.always;
    kept = kept_for_given (row op.walk.phase).kind op.walk.phase refl s.walk h.always h.kept;
    unsplit = h.unsplit;
    placed = λ m is. placed_once_given m (h.placed m is);
  }
