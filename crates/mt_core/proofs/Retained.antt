-- What is kept of an operation stays where only the table, the logs and the count of answers are others, and the tape goes back as far as the operation needs: for `Inner::admit`, `take`, `drain` and `tidy`.
use Rattle.std.proofs.Common.{◌≡◌, ◌≢◌, ℕ, ◌+◌, ◌-◌, ◌<◌, ◌≤◌, Bool, true, false, List, Option, None, Some, sym, refl, ap, ◌∙◌, arith}
use Rattle.std.proofs.lemmas.Option.{same_Some, none-some}
use Rattle.std.specs.{Prelude.{if◌then◌else◌}, List.Contains}
use Rattle.mt_rows.specs.{declared.command.Command.Command, declared.reply.Reply.Reply, Rows.Bytes, Stamps.Stamped, Maps.{reply_of, is_change}, Tenants.tenant_map}
use Rattle.mt_tape.specs.{declared.entry.Entry.{Entry as TapeEntry}, Tapes.Kept, Histories.{contents_at, is_changed}}
use Rattle.mt_arena.specs.Arena.{ArenaView, content_of}
use Rattle.mt_operation.specs.{declared.outcome.Outcome.Outcome, declared.operation.Operation.Operation, declared.phase.Phase.Phase}
use Rattle.mt_operation.specs.{declared.phase.Phase.TheVariants.{Enter, Load, Confirm, Check, Hop, Store, Fill, Unlock, Done}, declared.walk.Walk.Walk}
use Rattle.mt_operation.specs.{declared.walk.Taken.Taken, declared.walk.Taken.TheVariants.{Missing, Row, Link, Nothing}, Operations.{view_of, scan_of}}
use Rattle.mt_operation.specs.{Tasks.ask, Tables.Table, Phases.{Kind, row}}
use Rattle.mt_runs.proofs.Lawful.{lawful_by}
use Rattle.mt_walks.specs.Walked.{IsWithin}
use Rattle.mt_scan.specs.Snaps.{prefix_in}
use Rattle.mt_stretches.proofs.Beginning.{seen_stays}
use Rattle.mt_state.proofs.{ScanKept.scanned_for_stays, Still.nothing_changes}
use Rattle.mt_state.specs.{Views.{Core, shown, past_of, map_of, quota_of, IsPlaced}, Steps.{change_in, told_change}}
use Rattle.mt_state.specs.KeptOperations.{IsOpenOperation, IsOnItsWay, HasAnswer, TellsTaken, IsLayering, IsReturning, IsKeptOf, IsKeptFor, IsReadingAt, IsScanningAt, IsChecking, IsScanKept, IsWritingAt, IsBound, IsUnlinking}
use Rattle.mt_descent.specs.{Pasts.{Past, ExtendsPast}, KeptWalks.{IsKept, KeptAt}}
use Rattle.mt_descent.proofs.Rely as descent
use Rattle.mt_operation.specs.Phases as kinds

-- the same state with another count of answers, other logs, another tape and another table
abbrev retaped : Core → ℕ → List ℕ → Kept → Table → Core
retaped c answers logs tape table = record c { answers = answers; logs = logs; tape = tape; table = table }

-- a tape that tells of an operation that has begun what the state's own one tells: the contents from just before its first step on, and the writes from that step on
pub record TellsOf (c : Core) (tape : Kept) (op : Operation) : Type 0 where
  pub floor : 0 < op.walk.first → tape.floor < op.walk.first
  pub contents : 0 < op.walk.first → (n : ℕ) → op.walk.first ≤ n + 1
      → contents_at tape.entries (content_of c.arena) n ≡ contents_at c.tape.entries (content_of c.arena) n
  pub changes : 0 < op.walk.first → (n : ℕ) → op.walk.first ≤ n → is_changed tape.entries n ≡ is_changed c.tape.entries n
  pub writes : 0 < op.walk.first → (e : TapeEntry) → op.walk.first ≤ e.step → Contains c.tape.entries e → Contains tape.entries e

-- a walk that has begun goes on by a past that tells the same from its first step on
kept_past : (v : ArenaView) (old new : Past) (key : Bytes) (row : Option Stamped) (w : Walk) (p : Phase) → (p ≢ Enter → ExtendsPast w.first old new)
    → KeptAt p v old key row w → KeptAt p v new key row w
kept_past v old new key row w Confirm past h = descent.kept_stays 0 v v (nothing_changes 0 v).nodes old new key row w Confirm (past (λ e. cc)) (λ e. absurd (cc)) h
kept_past v old new key row w Done past h = descent.kept_stays 0 v v (nothing_changes 0 v).nodes old new key row w Done (past (λ e. cc)) (λ e. absurd (cc)) h
kept_past v old new key row w Load past h = descent.load_longer v old new key w (past (λ e. cc)) h
kept_past v old new key row w _ past h = h

-- a change that was made is told with the reply
module _ (c : Core) (o : ℕ) (op : Operation) where
  no_change : op.outcome ≡ None → (m : ℕ) → change_in (view_of op) ≡ Some m → ⊥
  no_change untold m is = none-some m (ap told_change (sym untold) ∙ is)

  looked : (told : Outcome) → told_change (Some told) ≡ None → op.outcome ≡ Some told → (m : ℕ) → change_in (view_of op) ≡ Some m → ⊥
  looked told none says m is = none-some m (sym none ∙ ap told_change (sym says) ∙ is)

  told_at : (told : Outcome) (m : ℕ) → told_change (Some told) ≡ Some m → told.at ≡ m
  told_at told m is = at_of (is_change told.reply) is
    where
      at_of : (b : Bool) → (if b then Some told.at else None) ≡ Some m → told.at ≡ m
      at_of true e = same_Some told.at m e
      at_of false e = absurd (none-some m e)

  taken_none : (row : Option Stamped) (taken : Taken) → TellsTaken op row taken → (m : ℕ) → change_in (view_of op) ≡ Some m → ⊥
  taken_none row Missing h m is = looked _ refl h m is
  taken_none row Row h m is = looked _ refl h.4 m is
  taken_none row (Link u) h m is = no_change h m is
  taken_none row Nothing h m is = no_change h m is

  answered : HasAnswer c op → (m : ℕ) → change_in (view_of op) ≡ Some m → (0 < op.walk.first) × (op.walk.first ≤ m)
  answered h m is =
      let same = told_at h.outcome m (ap told_change (sym h.told) ∙ is) in
      (h.right.begun, omega (arith, h.right.since, same))

  -- one that is to give its locks back has made a layer, or has its answer
  returned : (told : Option Outcome) → IsReturning told c o op → (m : ℕ) → change_in (view_of op) ≡ Some m → (0 < op.walk.first) × (op.walk.first ≤ m)
  returned None h m is = absurd (no_change h.layering.untold m is)
  returned (Some told) h m is = answered h.answer m is

  -- one that is on its way has made none, or has its answer and goes back
  bound_since : (told : Option Outcome) → op.outcome ≡ told → IsBound told c op → (m : ℕ) → change_in (view_of op) ≡ Some m → (0 < op.walk.first) × (op.walk.first ≤ m)
  bound_since None e h m is = absurd (no_change e m is)
  bound_since (Some told) e h m is = answered h.answer m is

  -- so has one that reads, or what it took tells none
  reading : (p : Phase) → IsReadingAt p c op → (m : ℕ) → change_in (view_of op) ≡ Some m → (0 < op.walk.first) × (op.walk.first ≤ m)
  reading Load h m is = bound_since op.outcome refl h.way.bound m is
  reading Confirm h m is = absurd (taken_none h.row op.walk.taken h.tells m is)
  reading _ h m is = bound_since op.outcome refl h.bound m is

  -- and one that scans
  scanning : (p : Phase) → IsScanningAt p c op → (m : ℕ) → change_in (view_of op) ≡ Some m → (0 < op.walk.first) × (op.walk.first ≤ m)
  scanning Check h m is = absurd (no_change h.untold m is)
  scanning Hop h m is = absurd (no_change h.untold m is)
  scanning _ h m is = bound_since op.outcome refl h.bound m is

  writing : (p : Phase) → IsWritingAt p c o op → (m : ℕ) → change_in (view_of op) ≡ Some m → ⊥
  writing Store h m is = no_change h.untold m is
  writing Fill h m is = no_change h.untold m is
  writing _ h m is = no_change h.untold m is

  -- a change was made by the first step or a later one
  change_since : (of : Kind) (p : Phase) → IsKeptFor of p c o op → (m : ℕ) → change_in (view_of op) ≡ Some m → (0 < op.walk.first) × (op.walk.first ≤ m)
  change_since kinds.Descends p h m is = bound_since op.outcome refl h.bound m is
  change_since kinds.Locks p h m is = bound_since op.outcome refl h.bound m is
  change_since kinds.Reads p h m is = reading p h m is
  change_since kinds.Scans p h m is = scanning p h m is
  change_since kinds.Judges p h m is = bound_since op.outcome refl h.bound m is
  change_since kinds.Writes p h m is = absurd (writing p h m is)
  change_since kinds.Begins p h m is = absurd (no_change h.untold m is)
  change_since kinds.Splits p h m is = absurd (no_change h.untold m is)
  change_since kinds.Climbs p h m is = answered h.answer m is
  change_since kinds.Layers p h m is = absurd (no_change h.untold m is)
  change_since kinds.Drops p h m is = absurd (no_change h.untold m is)
  change_since kinds.Unlinks p h m is = answered h.answer m is
  change_since kinds.Cleans p h m is = answered h.answer m is
  change_since kinds.Returns p h m is = returned op.outcome h m is
  change_since kinds.Ends p h m is = answered h m is

module _ (c : Core) (answers : ℕ) (logs : List ℕ) (tape : Kept) (table : Table) (q : ℕ) (op : Operation) (t : TellsOf c tape op) (k : IsOpenOperation c op) where
  abbrev new : Core
  new = retaped c answers logs tape table

  past_stays : 0 < op.walk.first → ExtendsPast op.walk.first (past_of c) (past_of new)
  past_stays begun = record { steps = omega arith; same = λ n from upto. t.contents begun n (omega (arith, from)) }

  walk_stays : (row : Option Stamped) → IsKept c.arena (past_of c) op.task.key row op.walk → IsKept new.arena (past_of new) op.task.key row op.walk
  walk_stays row h = kept_past c.arena (past_of c) (past_of new) op.task.key row op.walk op.walk.phase (λ other. past_stays (k.begun other)) h

  same_map : 0 < op.walk.first → (u m : ℕ) → op.walk.first ≤ m + 1 → map_of (shown new) u m ≡ map_of (shown c) u m
  same_map begun u m from = ap (tenant_map u) (t.contents begun m from)

  placed_stays : 0 < op.walk.first → (u : ℕ) (command : Command) (at : ℕ) (reply : Reply) → op.walk.first ≤ at → IsPlaced (shown c) u command at reply
      → IsPlaced (shown new) u command at reply
  placed_stays begun u command at reply from h = record {
    changes =
        λ e. let w = h.changes e in (t.changes begun at from ∙ w.0, w.1 ∙ ap (reply_of (quota_of (shown c) u) command) (sym (same_map begun u (at - 1) (omega (arith, from)))));
    looks = λ e. h.looks e ∙ ap (reply_of (quota_of (shown c) u) command) (sym (same_map begun u at (omega (arith, from))));
  }

  told_stays : HasAnswer c op → HasAnswer new op
  told_stays h = record {
    outcome = h.outcome;
    told = h.told;
    right = record {
      begun = h.right.begun;
      since = h.right.since;
      upto = h.right.upto;
      placed = λ real plain. placed_stays h.right.begun (view_of op).tenant (view_of op).command h.outcome.at h.outcome.reply h.right.since (h.right.placed real plain);
      lawful = lawful_by (map_of (shown c) op.task.tenant) (map_of (shown new) op.task.tenant) (IsWithin op.walk.first op.last) (IsWithin op.walk.first op.last)
          (λ m between. sym (same_map h.right.begun op.task.tenant m (let since = between.0 in omega (arith, since)))) (λ m between. between) (λ m between. between) (ask op.task) h.outcome.reply h.right.lawful;
    };
    unprepared = h.unprepared;
  }

  bound_stays : (told : Option Outcome) → IsBound told c op → IsBound told new op
  bound_stays None h = h
  bound_stays (Some told) h = record { removes = h.removes; answer = told_stays h.answer; cleans = h.cleans }

  unlinking_stays : (p : Phase) → IsUnlinking c q op p → IsUnlinking new q op p
  unlinking_stays p h = record { removes = h.removes; kept = h.kept; answer = told_stays h.answer }

  way_stays : IsOnItsWay c op → IsOnItsWay new op
  way_stays h = record { kept = walk_stays None h.kept; bound = bound_stays op.outcome h.bound; unprepared = h.unprepared }

  layering_stays : (p : Phase) → IsLayering c q op p → IsLayering new q op p
  layering_stays p h = record { stays = h.stays; makes = h.makes; light = h.light; untold = h.untold; unprepared = h.unprepared }

  returning_stays : (told : Option Outcome) → IsReturning told c q op → IsReturning told new q op
  returning_stays None h = record { layering = layering_stays Unlock h.layering; unsplit = h.unsplit }
  returning_stays (Some told) h = record { unlocks = h.unlocks; answer = told_stays h.answer }

  reading_stays : (p : Phase) → IsReadingAt p c op → IsReadingAt p new op
  reading_stays Load h = record { way = way_stays h.way; found = h.found }
  reading_stays Confirm h = record { row = h.row; kept = walk_stays h.row h.kept; tells = h.tells; unprepared = h.unprepared }
  reading_stays _ h = way_stays h

  -- a scan that has seen pairs has made a step
  checking_stays : op.walk.phase ≡ Check → IsChecking c op → IsChecking new op
  checking_stays at_check h = record {
    kept = h.kept;
    seen = λ stands. seen_stays (past_of c) (past_of new) op.walk.first (past_stays (k.begun (λ enters. absurd (let no : Check ≡ Enter = sym at_check ∙ enters in cc))))
        (prefix_in c.arena op.walk) (scan_of op.task op.scan) (h.seen stands);
    untold = h.untold;
    unprepared = h.unprepared;
  }

  scanning_stays : (p : Phase) → op.walk.phase ≡ p → IsScanningAt p c op → IsScanningAt p new op
  scanning_stays Check e h = checking_stays e h
  scanning_stays Hop e h = record { kept = h.kept; untold = h.untold; unprepared = h.unprepared }
  scanning_stays _ e h = way_stays h

  -- what a scan has done stays too
  pub scan_retained : IsScanKept c op → IsScanKept new op
  scan_retained h = record {
    fresh = h.fresh;
    walked = λ begun left. scanned_for_stays (past_of c) (past_of new) op.walk.first (past_stays begun) (ask op.task) (scan_of op.task op.scan) (h.walked begun left);
  }

  writing_stays : (p : Phase) → IsWritingAt p c q op → IsWritingAt p new q op
  writing_stays Store h = record { prepared = h.prepared; has = h.has; stores = h.stores; put = h.put; untold = h.untold }
  writing_stays Fill h = record { prepared = h.prepared; has = h.has; fills = h.fills; put = h.put; untold = h.untold }
  writing_stays _ h = record { prepared = h.prepared; has = h.has; publishes = h.publishes; put = h.put; untold = h.untold }

  kept_stays : (of : Kind) (p : Phase) → op.walk.phase ≡ p → IsKeptFor of p c q op → IsKeptFor of p new q op
  kept_stays kinds.Descends p e h = way_stays h
  kept_stays kinds.Locks p e h = way_stays h
  kept_stays kinds.Reads p e h = reading_stays p h
  kept_stays kinds.Scans p e h = scanning_stays p e h
  kept_stays kinds.Judges p e h = record { judges = h.judges; bound = bound_stays op.outcome h.bound; unprepared = h.unprepared }
  kept_stays kinds.Writes p e h = writing_stays p h
  kept_stays kinds.Begins p e h = record { prepared = h.prepared; has = h.has; starts = h.starts; put = h.put; untold = h.untold }
  kept_stays kinds.Splits p e h = record { prepared = h.prepared; has = h.has; moves = h.moves; put = h.put; untold = h.untold }
  kept_stays kinds.Climbs p e h = record { stays = h.stays; climbs = h.climbs; answer = told_stays h.answer }
  kept_stays kinds.Layers p e h = layering_stays p h
  kept_stays kinds.Drops p e h = record { prepared = h.prepared; has = h.has; drops = h.drops; removes = h.removes; light = h.light; untold = h.untold }
  kept_stays kinds.Unlinks p e h = unlinking_stays p h
  kept_stays kinds.Cleans p e h = unlinking_stays p h
  kept_stays kinds.Returns p e h = returning_stays op.outcome h
  kept_stays kinds.Ends p e h = told_stays h

  open_retained : IsOpenOperation new op
  open_retained = record {
    stored = k.stored;
    tenant_is = k.tenant_is;
    owner = k.owner;
    columns = k.columns;
    tenant = k.tenant;
    aim = k.aim;
    kind = k.kind;
    order = k.order;
    made = k.made;
    born = k.born;
    birth = k.birth;
    floor = t.floor;
    begun = k.begun;
    short = k.short;
    counts = k.counts;
    light = k.light;
  }

  -- all that is kept of the operation
  pub retained : IsKeptOf c q op → IsKeptOf new q op
  retained h = record {
    always = open_retained;
    kept = kept_stays (row op.walk.phase).kind op.walk.phase refl h.kept;
    unsplit = h.unsplit;
    placed = λ m is.
        let once = h.placed m is in
        let since = change_since c q op (row op.walk.phase).kind op.walk.phase h.kept m is in
        record {
          entry = once.entry;
          there = t.writes since.0 once.entry (omega (arith, since.1, once.step_is)) once.there;
          step_is = once.step_is;
          worker = once.worker;
          tenant = once.tenant;
          key_is = once.key_is;
          makes = once.makes;
          keeps = once.keeps;
          was = once.was;
          met = once.met;
        };
  }

-- a state's own tape tells of each operation that is kept
pub own_tape : (c : Core) (op : Operation) → IsOpenOperation c op → TellsOf c c.tape op
own_tape c op k = record { floor = k.floor; contents = λ begun n from. refl; changes = λ begun n from. refl; writes = λ begun e from there. there }
