-- Rely and guarantee: what is kept of an operation stays under each step of another one, by what that step leaves to others alone.
use Rattle.std.proofs.Common.{◌≡◌, ◌≢◌, ℕ, ◌-◌, ◌<◌, ◌≤◌, inl, inr, List, [], ◌∷◌, length, Option, None, Some, sym, ap, subst, ◌∙◌, arith, Bool, true, false}
use Rattle.std.proofs.lemmas.Bool.{cases_lt}
use Rattle.mt_rows.specs.{declared.command.Command.Command, declared.reply.Reply.Reply, Rows.Bytes, Stamps.Stamped, Maps.reply_of}
use Rattle.mt_rows.specs.Tenants.{Contents, tenant_map}
use Rattle.mt_tape.specs.Histories.{contents_at}
use Rattle.mt_runs.proofs.Lawful.{lawful_by}
use Rattle.mt_walks.specs.Walked.{IsWithin}
use Rattle.mt_arena.specs.{Given.GivesOut, Arena.{ArenaView, Guarantee, IsArena}, Accesses.at}
use Rattle.mt_operation.specs.{declared.outcome.Outcome.Outcome, declared.operation.Operation.Operation, declared.phase.Phase.Phase}
use Rattle.mt_operation.specs.{declared.phase.Phase.TheVariants.{Load, Confirm, Store, Fill, Unlock, Check, Hop}, declared.splits.Halves.Halves}
use Rattle.mt_operation.specs.{Operations.{OperationView, view_of, scan_of}, Tasks.ask, Phases.{Kind, row}}
use Rattle.mt_descent.specs.{Pasts.{ExtendsPast, AreStamped}, KeptWalks.{IsKept, IsAtBorder}}
use Rattle.mt_scan.{specs.Snaps.prefix_in, proofs.Staying.{check_stays, kept_hop_stays}}
use Rattle.mt_stretches.{specs.Scanned.HasSeen, proofs.Beginning.seen_stays}
use Rattle.mt_state.proofs.{ScanKept.scanned_for_stays, Granted.quota_stays}
use Rattle.mt_state.specs.{Views.{StateView, Core, shown, past_of, map_of, quota_of, KeepsPast, IsPlaced}, Promises.IsAnswer}
use Rattle.mt_state.specs.KeptOperations.{IsOpenOperation, IsOnItsWay, HasAnswer, IsBound, MayUnlock, MayUnlockUnsplit, IsUnlinking, IsClimbing, IsLayering, IsReturning, IsKeptAt, IsPlacedOnce, IsKeptOf, IsKeptFor, IsReadingAt, IsChecking, IsScanningAt, IsWritingAt, IsScanKept}
use Rattle.mt_state.specs.{Given.with_given, Invariant.StateGuarantee}
use Rattle.mt_remove.specs.Writes.{is_remove}
use Rattle.mt_descent.proofs.Rely as descent
use Rattle.mt_held.proofs.Rely as held
use Rattle.mt_insert.proofs.Rely as insert
use Rattle.mt_insert.proofs.SplitRely as splits
use Rattle.mt_layer.proofs.Rely as layers
use Rattle.mt_remove.proofs.Rely as removals
use Rattle.mt_operation.specs.Phases as kinds

-- what is placed stays so
pub placed_stays : (old new : StateView) → KeepsPast old new → (t : ℕ) (c : Command) (at : ℕ) (reply : Reply) → at ≤ old.steps
    → IsPlaced old t c at reply → IsPlaced new t c at reply
placed_stays old new g t c at reply le h = record {
  changes = λ e. let w = h.changes e in (
    g.changes at le ∙ w.0,
    w.1 ∙ ap (λ q. reply_of q c (map_of old t (at - 1))) (sym (quota_stays old new g t)) ∙ ap (reply_of (quota_of new t) c) (sym (g.maps t (at - 1) (omega arith))),
  );
  looks = λ e. h.looks e ∙ ap (λ q. reply_of q c (map_of old t at)) (sym (quota_stays old new g t)) ∙ ap (reply_of (quota_of new t) c) (sym (g.maps t at le));
}

-- so is an answer
pub answer_stays : (old new : StateView) → KeepsPast old new → (op : OperationView) (told : Outcome) → op.last ≤ old.steps → IsAnswer old op told
    → IsAnswer new op told
answer_stays old new g op told made h = record {
  begun = h.begun;
  since = h.since;
  upto = h.upto;
  placed = λ real plain. placed_stays old new g op.tenant op.command told.at told.reply (omega (arith, h.upto, made)) (h.placed real plain);
  lawful = lawful_by (map_of old op.tenant) (map_of new op.tenant) (IsWithin op.first op.last) (IsWithin op.first op.last)
      (λ m between. sym (g.maps op.tenant m (let upto = between.1 in omega (arith, upto, made)))) (λ m between. between) (λ m between. between) op.command told.reply h.lawful;
}

-- who holds a node after a step of another one held it before
pub holder_was : (op q k : ℕ) (old new : ArenaView) → Guarantee op old new → k < length new.nodes → (at new k).holder ≡ Some q → q ≢ op
    → (k < length old.nodes) × ((at old k).holder ≡ Some q)
holder_was op q k old new g within holds other = elim (cases_lt k (length old.nodes)) [
  | inl was ↦ (was, (g.nodes.nodes k was).taken q other holds)
  | inr new_one ↦ absurd (g.nodes.taken_new k q new_one within other holds)
]

-- who holds a node once places were given out held it before, and it is the same one
pub held_was : (q k : ℕ) (old mid : ArenaView) → GivesOut old mid → k < length mid.nodes → (at mid k).holder ≡ Some q
    → (k < length old.nodes) × (at mid k ≡ at old k)
held_was q k old mid g within holds =
    let there : k < length old.nodes = omega (arith, within, g.count) in (
      there,
      elim (g.nodes k there) [
        | inl same ↦ same
        | inr given ↦ absurd (let none = sym given.blank.free ∙ holds in cc)
      ],
    )

-- one operation, and a step of another one, from where places were given out
module _ (old new : Core) (o q : ℕ) (arena : IsArena new.arena.nodes new.arena.trees) (stamped : AreStamped (past_of new) new.arena) (g : StateGuarantee old new o) (other : q ≢ o) (later : old.steps < new.steps) (op : Operation) where
  abbrev start : Core
  start = with_given old g.arena.mid

  grows : KeepsPast (shown start) (shown new)
  grows = record {
    steps = g.grows.steps;
    quotas = g.grows.quotas;
    maps = λ t m le. g.grows.maps t m le ∙ ap (λ (all : Contents). tenant_map t (contents_at old.tape.entries all m)) (sym g.arena.gives.contents);
    changes = g.grows.changes;
  }

  past_stays : ExtendsPast op.walk.first (past_of start) (past_of new)
  past_stays = record {
    steps = g.past.steps;
    same = λ n from upto. g.past.same n (omega arith) upto ∙ ap (λ (all : Contents). contents_at old.tape.entries all n) (sym g.arena.gives.contents);
  }

  walk_stays : (row : Option Stamped) → IsKept start.arena (past_of start) op.task.key row op.walk → IsKept new.arena (past_of new) op.task.key row op.walk
  walk_stays row h = descent.kept_stays o start.arena new.arena g.arena.step.nodes (past_of start) (past_of new) op.task.key row op.walk op.walk.phase past_stays
      (λ loads. record { sound = arena; stamped = stamped; lost = g.arena.step.lost }) h

  told_stays : IsOpenOperation start op → HasAnswer start op → HasAnswer new op
  told_stays k h = record {
    outcome = h.outcome;
    told = h.told;
    right = answer_stays (shown start) (shown new) grows (view_of op) h.outcome k.made h.right;
    unprepared = h.unprepared;
  }

  -- what it is bound for
  bound_stays : (told : Option Outcome) → IsOpenOperation start op → IsBound told start op → IsBound told new op
  bound_stays None k h = h
  bound_stays (Some told) k h = record {
    removes = h.removes;
    answer = told_stays k h.answer;
    cleans = removals.cleaning o q start.arena new.arena g.arena.step other op.task.key op.removal h.cleans;
  }

  way_stays : IsOpenOperation start op → IsOnItsWay start op → IsOnItsWay new op
  way_stays k h = record { kept = walk_stays None h.kept; bound = bound_stays op.outcome k h.bound; unprepared = h.unprepared }

  -- what it climbs with
  climbing_stays : (p : Phase) → IsOpenOperation start op → IsClimbing start q op p → IsClimbing new q op p
  climbing_stays p k h = record { stays = h.stays; climbs = splits.split o q start.arena new.arena g.arena.step other p op.splits h.climbs; answer = told_stays k h.answer }

  -- what it may give back
  unsplit_stays : (removes : Bool) → MayUnlockUnsplit removes start.arena q op → MayUnlockUnsplit removes new.arena q op
  unsplit_stays true h = removals.removal o q start.arena new.arena g.arena.step other op.task.key op.walk op.removal Unlock h
  unsplit_stays false h = held.unlock o q start.arena new.arena g.arena.step other op.walk h

  unlocks_stay : (halves : List Halves) → MayUnlock halves start.arena q op → MayUnlock halves new.arena q op
  unlocks_stay [] h = (unsplit_stays (is_remove (ask op.task)) h.0, h.1)
  unlocks_stay (x ∷ halves) h = (splits.split o q start.arena new.arena g.arena.step other Unlock op.splits h.0, h.1)

  -- what it makes a layer with
  layering_stays : (p : Phase) → IsLayering start q op p → IsLayering new q op p
  layering_stays p h = record {
    stays = h.stays;
    makes = layers.layer o q start.arena new.arena g.arena.step other arena op.task.key op.walk p h.makes;
    light = h.light;
    untold = h.untold;
    unprepared = h.unprepared;
  }

  -- what it takes a node or a layer out with
  unlinking_stays : (p : Phase) → IsOpenOperation start op → IsUnlinking start q op p → IsUnlinking new q op p
  unlinking_stays p k h = record {
    removes = h.removes;
    kept = removals.removal o q start.arena new.arena g.arena.step other op.task.key op.walk op.removal p h.kept;
    answer = told_stays k h.answer;
  }

  -- what it gives back, by its outcome
  returning_stays : (told : Option Outcome) → IsOpenOperation start op → IsReturning told start q op → IsReturning told new q op
  returning_stays None k h = record { layering = layering_stays Unlock h.layering; unsplit = h.unsplit }
  returning_stays (Some told) k h = record { unlocks = unlocks_stay op.splits.halves.items h.unlocks; answer = told_stays k h.answer }

  -- what it reads, and what it is to write
  reading_stays : (p : Phase) → IsOpenOperation start op → IsReadingAt p start op → IsReadingAt p new op
  reading_stays Load k h = record { way = way_stays k h.way; found = λ now. absurd (omega (arith, k.made, later, now)) }
  reading_stays Confirm k h = record { row = h.row; kept = walk_stays h.row h.kept; tells = h.tells; unprepared = h.unprepared }
  reading_stays _ k h = way_stays k h

  -- what it scans
  abbrev node : ℕ
  node = op.walk.place.node

  prefix_same : IsAtBorder start.arena op.task.key op.walk → prefix_in new.arena op.walk ≡ prefix_in start.arena op.walk
  prefix_same h = (g.arena.step.nodes.trees op.walk.place.tree h.through.there).prefix

  checking_stays : IsChecking start op → IsChecking new op
  checking_stays h =
      let at_border = h.kept.at_border in
      let there = at_border.covers.remembered.there in
      record {
        kept = check_stays o start.arena new.arena g.arena.step.nodes op.task.key op.walk op.scan.stop h.kept;
        seen = λ stands. subst (λ (prefix : Bytes). HasSeen (past_of new) op.walk.first prefix (scan_of op.task op.scan)) (sym (prefix_same at_border))
            (seen_stays (past_of start) (past_of new) op.walk.first past_stays (prefix_in start.arena op.walk) (scan_of op.task op.scan)
            (h.seen (descent.range_stood o (at start.arena node) (at new.arena node) (g.arena.step.nodes.nodes node there) op.walk.place.seen at_border.covers.remembered.was stands)));
        untold = h.untold;
        unprepared = h.unprepared;
      }

  scanning_stays : (p : Phase) → IsOpenOperation start op → IsScanningAt p start op → IsScanningAt p new op
  scanning_stays Check k h = checking_stays h
  scanning_stays Hop k h =
      record { kept = kept_hop_stays o start.arena new.arena g.arena.step.nodes op.task.key op.walk op.scan.stop h.kept; untold = h.untold; unprepared = h.unprepared }
  scanning_stays _ k h = way_stays k h

  writing_stays : (p : Phase) → IsWritingAt p start q op → IsWritingAt p new q op
  writing_stays Store h = record {
    prepared = h.prepared;
    has = h.has;
    stores = insert.store o q start.arena new.arena g.arena.step other op.task h.prepared op.walk h.stores;
    put = h.put;
    untold = h.untold;
  }
  writing_stays Fill h = record {
    prepared = h.prepared;
    has = h.has;
    fills = insert.fill o q start.arena new.arena g.arena.step other op.task h.prepared op.walk h.fills;
    put = h.put;
    untold = h.untold;
  }
  writing_stays _ h = record {
    prepared = h.prepared;
    has = h.has;
    publishes = insert.publish o q start.arena new.arena g.arena.step other op.task h.prepared op.walk h.publishes;
    put = h.put;
    untold = h.untold;
  }

  -- by what its next step does
  kept_for_stays : (of : Kind) (p : Phase) → IsOpenOperation start op → IsKeptFor of p start q op → IsKeptFor of p new q op
  kept_for_stays kinds.Descends p k h = way_stays k h
  kept_for_stays kinds.Locks p k h = way_stays k h
  kept_for_stays kinds.Reads p k h = reading_stays p k h
  kept_for_stays kinds.Scans p k h = scanning_stays p k h
  kept_for_stays kinds.Judges p k h = record { judges = held.held o q start.arena new.arena g.arena.step other op.task.key op.walk h.judges; bound = bound_stays op.outcome k h.bound; unprepared = h.unprepared }
  kept_for_stays kinds.Writes p k h = writing_stays p h
  kept_for_stays kinds.Begins p k h = record {
    prepared = h.prepared;
    has = h.has;
    starts = insert.split_start o q start.arena new.arena g.arena.step other op.task h.prepared op.walk h.starts;
    put = h.put;
    untold = h.untold;
  }
  kept_for_stays kinds.Splits p k h = record {
    prepared = h.prepared;
    has = h.has;
    moves = splits.move o q start.arena new.arena g.arena.step other op.task h.prepared op.walk op.splits h.moves;
    put = h.put;
    untold = h.untold;
  }
  kept_for_stays kinds.Climbs p k h = climbing_stays p k h
  kept_for_stays kinds.Layers p k h = layering_stays p h
  kept_for_stays kinds.Drops p k h = record {
    prepared = h.prepared;
    has = h.has;
    drops = removals.drop_key o q start.arena new.arena g.arena.step other op.task h.prepared op.walk h.drops;
    removes = h.removes;
    light = h.light;
    untold = h.untold;
  }
  kept_for_stays kinds.Unlinks p k h = unlinking_stays p k h
  kept_for_stays kinds.Cleans p k h = unlinking_stays p k h
  kept_for_stays kinds.Returns p k h = returning_stays op.outcome k h
  kept_for_stays kinds.Ends p k h = told_stays k h

  pub kept_stays : (p : Phase) → IsOpenOperation start op → IsKeptAt p start q op → IsKeptAt p new q op
  kept_stays p k h = kept_for_stays (row p).kind p k h

  -- what is kept of every operation
  pub open_stays : IsOpenOperation start op → IsOpenOperation new op
  open_stays h = record {
    stored = h.stored;
    tenant_is = h.tenant_is;
    owner = h.owner;
    columns = h.columns;
    tenant = g.accounts op.task.tenant h.tenant;
    aim = h.aim;
    kind = h.kind;
    order = h.order;
    made = omega (arith, h.made, later);
    born = omega (arith, h.born, later);
    birth = h.birth;
    floor = λ begun. subst (λ n. n < op.walk.first) (sym g.floor) (h.floor begun);
    begun = h.begun;
    short = h.short;
    counts = h.counts;
    light = h.light;
  }

  placed_once_stays : (m : ℕ) → IsPlacedOnce start op m → IsPlacedOnce new op m
  placed_once_stays m h = record {
    entry = h.entry;
    there = g.writes h.entry h.there;
    step_is = h.step_is;
    worker = h.worker;
    tenant = h.tenant;
    key_is = h.key_is;
    makes = h.makes;
    keeps = h.keeps;
    was = h.was;
    met = h.met;
  }

  -- what a scan has done
  pub scan_stays : IsScanKept old op → IsScanKept new op
  scan_stays h = record {
    fresh = h.fresh;
    walked = λ begun unfinished.
        scanned_for_stays (past_of old) (past_of new) op.walk.first (record { steps = g.past.steps; same = λ n from upto. g.past.same n (omega arith) upto })
        (ask op.task) (scan_of op.task op.scan) (h.walked begun unfinished);
  }

  -- the rely: all that is kept of an operation is stable under any step of another
  pub stays : IsKeptOf start q op → IsKeptOf new q op
  stays h = record { always = open_stays h.always; kept = kept_stays op.walk.phase h.always h.kept; unsplit = h.unsplit; placed = λ m is. placed_once_stays m (h.placed m is) }
