-- What the steps of a scan ask of the invariant, and what they tell: for `Inner::look`.
use Rattle.std.{proofs.Common.{◌≡◌, ◌≢◌, ℕ, ◌+◌, ◌<◌, inl, inr, Bool, true, false, set, Option, Some, None, refl, sym, ap, subst, ◌∙◌}, specs.Prelude.{◌^◌}}
use Rattle.mt_slices.specs.Keys.{IsStoredKey, tenant_of}
use Rattle.mt_rows.specs.{declared.reply.Reply.TheVariants.{NoMemory, Pairs}, Maps.{is_scan, Map}, Rows.Bytes, Stamps.Stamped}
use Rattle.mt_arena.specs.{Arena.{ArenaView, IsArena}, Accesses.at}
use Rattle.mt_operation.specs.{declared.phase.Phase.Phase, declared.phase.Phase.TheVariants.{Snap, Check, Hop, Done}, declared.walk.Walk.Walk}
use Rattle.mt_operation.specs.{declared.task.Task.Task, declared.scan.Scan.Scan, declared.scan.Stop.Stop, declared.outcome.Outcome.Outcome}
use Rattle.mt_operation.specs.{declared.operation.Operation.Operation, Tasks.ask, Operations.{ScanView, splits_of, scan_of, moved, counted}}
use Rattle.mt_operation.specs.{Phases.{IsOfKind, is_done, row}, Tables.{Table, op_at as operation_at}}
use Rattle.mt_operation.proofs.Tables.{set_is}
use Rattle.mt_descent.specs.{Pasts.Past, KeptWalks.KeptAt, Seen.Stands}
use Rattle.mt_held.specs.Moves.{walk_done}
use Rattle.mt_scan.specs.{Snaps.prefix_in, Checks.{Asks, IsCheck}, Hops.{KeptHop, KeptScan}}
use Rattle.mt_state.specs.{declared.moves.Move.Move, declared.moves.Move.TheVariants.{Moved, Done as DoneMove}, Views.{Core, StateView, shown, past_of}}
use Rattle.mt_state.specs.{Ways.IsOnWay, Phases.{LeadsTo, ChecksBy, StaysScanned}, Invariant.StateInvariant, KeptOperations.{IsChecking, IsKeptAt}}
use Rattle.mt_state.proofs.{Telling.Gives, Lawful.aim_scan, Descents.changed_leads, ScanNeeds.{snap_kept, check_kept, hop_kept, may_check}}
use Rattle.mt_state.proofs.ScanLooks.{snap_done, snap_stopped, hop_done, hop_leads}
use Rattle.mt_state.proofs.{ScanChecks.{check_keeps, check_ends, check_drops, check_stopped, check_shows, changed_else}}
use Rattle.mt_core.specs.{Nexts.ending, Looks.{MaySnap, MayCompare, MayHop, IsStopped, TellsSnapped, Compares, TellsCompared, TellsHopped}}
use Rattle.mt_core.specs.{Points.{Nears, StepsOn}, ScanPoints.IsScanAt}
use Rattle.mt_core.proofs.{Following.{IsSound, IsOver}, Leading.{scan_step, leads_scanned}, PhaseTests.{done_or, hop_or, other_moves, way_moves}}
use Rattle.mt_core.proofs.{Points.nears_scan, ScanNears.{scan_first, scan_aim, snap_nears, check_nears, hop_nears}}
use Rattle.mt_stretches.specs.Scanned.{IsSeenTo, maps_of}
use Rattle.mt_operation.specs.declared.walk.Aim.TheVariants as aims

-- on its way a scan keeps what any walk does
on_way_kept : (p : Phase) → IsOnWay p → (v : ArenaView) (past : Past) (key : Bytes) (row : Option Stamped) (w : Walk) (stop : Stop) → KeptScan p v past key row w stop
    → KeptAt p v past key row w
on_way_kept Check on v past key row w stop h = absurd on
on_way_kept Hop on v past key row w stop h = absurd on
on_way_kept _ on v past key row w stop h = h

module _ (c now : Core) (o : ℕ) (is : c ≡ now) (h : StateInvariant c) (room : now.steps < 2 ^ 59) (op : Operation) (there : operation_at c.table o ≡ Some op) where
  few : c.steps < 2 ^ 59
  few = subst (λ (v : Core). v.steps < 2 ^ 59) (sym is) room

  -- an operation at a phase of scans is a scan
  scanning : (p : Phase) → op.walk.phase ≡ p → (IsOfKind p op.walk.aim → op.walk.aim ≡ aims.Scan) → is_scan (ask op.task) ≡ true
  scanning p at_p scans =
      let always = (h.ops o op there).always in
      aim_scan (ask op.task) (sym always.aim ∙ scans (subst (λ (q : Phase). IsOfKind q op.walk.aim) at_p always.kind))

  -- the operation with this task, walk, outcome and this of what it scans; and the table with it
  abbrev went : Task → Walk → Option Outcome → Scan → Operation
  went task w told scan = record (moved op (c.steps + 1) w) { task = task; outcome = told; scan = scan }

  abbrev went_table : Task → Walk → Option Outcome → Scan → Table
  went_table task w told scan = set c.table o (Some (went task w told scan))

  abbrev stepped : Table → Core
  stepped table = record c { steps = c.steps + 1; table = table }

  abbrev StepGives : Table → Move → Type 0
  StepGives table answer = IsSound c.arena (stepped table) × StepsOn now (stepped table) o answer

  -- where the table of phases leads it
  abbrev GoesOn : Phase → Walk → ScanView → Type 0
  GoesOn p w now_scan = LeadsTo p c.arena c.arena o (c.steps + 1) op.task.key op.outcome (splits_of op.splits) op.removal (scan_step op now_scan) op.walk w

  gives_now : (new : Core) (done : Bool) → Gives (shown c) new o done → Gives (shown now) new o done
  gives_now new done = subst (λ (v : StateView). Gives v new o done) (ap shown is)

  went_over : (task : Task) (w : Walk) (told : Option Outcome) (scan : Scan) → IsOver c.table (went_table task w told scan) o (went task w told scan)
  went_over task w told scan = record { is = refl; there = set_is c.table o (went task w told scan) op there }

  -- the walk comes to the next point of a scan, with this fence and this end of its stretch
  abbrev BringsScan : Task → Walk → Scan → Type 0
  BringsScan task w scan = (height trees made : ℕ) → IsScanAt height trees made c.arena op.walk op.scan.stop op.task.key
      → IsScanAt height trees (made + 1) c.arena w scan.stop task.key

  -- a step of a scan that goes on, and one that ends it
  moves_on : (p : Phase) → op.walk.phase ≡ p → is_scan (ask op.task) ≡ true → (task : Task) (w : Walk) (told : Option Outcome) (scan : Scan)
      → Gives (shown c) (stepped (went_table task w told scan)) o false → GoesOn p w (scan_of task scan) → StaysScanned (row p).kind (scan_of op.task op.scan) (scan_of task scan)
      → ask task ≡ ask op.task → BringsScan task w scan → (table : Table) → table ≡ went_table task w told scan → StepGives table Moved
  moves_on p at_p scans task w told scan g goes stays asked brings table e = subst (λ (t : Table). StepGives t Moved) (sym e) (
    g.0,
    record {
      tells = (gives_now (stepped (went_table task w told scan)) false g).1;
      nears = subst (λ (x : Core). Nears x (stepped (went_table task w told scan)) o Moved) is
          (nears_scan c (stepped (went_table task w told scan)) o op (went task w told scan) there (set_is c.table o (went task w told scan) op there) (λ free. free) asked scans
          (λ height trees made r. scan_first height trees (made + 1) (went task w told scan).walk.first c.arena w scan.stop task.key (brings height trees made r)));
      leads = leads_scanned c o h op there p at_p now is c.arena c.tape c.accounts (went_table task w told scan) _ (went_over task w told scan) w goes stays refl;
    },
  )

  ends_it : (p : Phase) → op.walk.phase ≡ p → (task : Task) (w : Walk) (told : Option Outcome) (scan : Scan)
      → Gives (shown c) (stepped (went_table task w told scan)) o true → GoesOn p w (scan_of task scan) → StaysScanned (row p).kind (scan_of op.task op.scan) (scan_of task scan)
      → (table : Table) → table ≡ went_table task w told scan → StepGives table DoneMove
  ends_it p at_p task w told scan g goes stays table e = subst (λ (t : Table). StepGives t DoneMove) (sym e) (
    g.0,
    record {
      tells = (gives_now (stepped (went_table task w told scan)) true g).1;
      nears = tt;
      leads = leads_scanned c o h op there p at_p now is c.arena c.tape c.accounts (went_table task w told scan) _ (went_over task w told scan) w goes stays refl;
    },
  )

  -- what the step of a body gives, by what the body tells
  abbrev Comes : (Operation → Operation → Type 0) → Type 0
  Comes Tells =
      (after : Operation) → Tells op after → (table : Table) → table ≡ set c.table o (Some (counted after (c.steps + 1) op.walk.first)) → (answer : Move) → answer ≡ ending after.walk.phase → StepGives table answer

  -- the table that it makes of a scan that has become so
  came_table : (after : Operation) (task : Task) (w : Walk) (told : Option Outcome) (scan : Scan) → after ≡ record op { walk = w; task = task; outcome = told; scan = scan }
      → (table : Table) → table ≡ set c.table o (Some (counted after (c.steps + 1) op.walk.first)) → table ≡ went_table task w told scan
  came_table after task w told scan others table e = e ∙ ap (λ (x : Operation). set c.table o (Some (counted x (c.steps + 1) op.walk.first))) others

  -- one that memory stopped is done
  stop_comes : (p : Phase) → op.walk.phase ≡ p → ((scan : Scan) → Gives (shown c) (stepped (went_table op.task (walk_done op.walk) (Some (record { reply = NoMemory; at = c.steps + 1 })) scan)) o true)
      → ((scan : ScanView) → GoesOn p (walk_done op.walk) scan) → ((scan : ScanView) → StaysScanned (row p).kind (scan_of op.task op.scan) scan) → Comes (IsStopped (c.steps + 1))
  stop_comes p at_p gives goes stays after t table e answer ends =
      let told : Option Outcome = Some (record { reply = NoMemory; at = c.steps + 1 }) in
      subst (StepGives table) (sym (ends ∙ ap (λ (x : Operation). ending x.walk.phase) t.is))
      (ends_it p at_p op.task (walk_done op.walk) told t.scan (gives t.scan) (goes (scan_of op.task t.scan)) (stays (scan_of op.task t.scan)) table
      (came_table after op.task (walk_done op.walk) told t.scan t.is table e))

  stored : IsStoredKey op.task.key
  stored = (h.ops o op there).always.stored

  -- one that reads its border node
  pub snap_comes : IsArena c.arena.nodes c.arena.trees → op.walk.phase ≡ Snap → Comes (TellsSnapped c.arena (c.steps + 1))
  snap_comes arena at_snap after t table e answer ends = elim t [
    | inl sees ↦
        let checks : after.walk.phase ≡ Check = ap (λ (x : Walk). x.phase) sees.sees.walk in
        subst (StepGives table) (sym (ends ∙ ap ending checks))
        (moves_on Snap at_snap (scanning Snap at_snap (λ kind. kind)) op.task after.walk op.outcome after.scan
        (snap_done c o h few op there at_snap arena after.walk after.scan sees.sees sees.kept) (inl sees.sees) tt refl
        (λ height trees made r. snap_nears c.arena arena height trees made op.walk after.walk op.task.key op.task.key op.scan.stop (scan_of op.task op.scan) (scan_of op.task after.scan) at_snap
        (snap_kept c o h op there at_snap) sees.sees r)
        table
        (came_table after op.task after.walk op.outcome after.scan sees.others table e))
    | inr stops ↦
        stop_comes Snap at_snap (λ scan. snap_stopped c o h few op there at_snap op.task.key stored refl (walk_done op.walk) scan refl (record { aim = refl; first = refl }))
        (λ scan. inr (stops.0, refl)) (λ scan. tt) after stops.1 table e answer ends
  ]

  -- one that compares its version
  module _ (at_check : op.walk.phase ≡ Check) (arena : IsArena c.arena.nodes c.arena.trees) where
    scans : is_scan (ask op.task) ≡ true
    scans = scanning Check at_check (λ kind. kind)

    -- the command by which it was asked
    asks : Asks op.task (may_check c o h op there at_check).count (may_check c o h op there at_check).columns
    asks = (may_check c o h op there at_check).asks

    module _ (after : Operation) (t : Compares c.arena (c.steps + 1) op after) where
      abbrev w : Walk
      w = after.walk

      check : IsCheck (at c.arena op.walk.place.node) (prefix_in c.arena op.walk) (may_check c o h op there at_check).count (may_check c o h op there at_check).columns op.walk w (scan_of op.task op.scan) (scan_of t.task t.scan)
      check = t.checks _ _ asks

      -- where the table leads it
      goes : (left : ScanView) → (is_done w.phase ≡ false → left ≡ scan_of t.task t.scan) → GoesOn Check w left
      goes left same = inl (subst (λ command. ChecksBy command (at c.arena op.walk.place.node) (prefix_in c.arena op.walk) (scan_step op left) op.walk w) (sym asks.is)
          (record { kept = scan_of t.task t.scan; checks = check; left = same }))

      done : w.phase ≡ Done → (table : Table) → table ≡ set c.table o (Some (counted after (c.steps + 1) op.walk.first)) → StepGives table DoneMove
      done ends table e =
          let told : Option Outcome = Some (record { reply = Pairs t.scan.collected.items; at = c.steps + 1 }) in
          ends_it Check at_check t.task w told after.scan
          (subst (λ (task : Task). Gives (shown c) (stepped (went_table task w told after.scan)) o true) (sym t.still.asked)
          (check_ends c o h few op there at_check asks.from asks.after _ _ asks.is t.task.key t.still.stored w t.scan t.same check after.scan ends))
          (goes (scan_of t.task after.scan) (λ left. absurd (let is_end = ap is_done ends in let no = sym left ∙ is_end in cc))) tt table
          (came_table after t.task w told after.scan (t.ends ends) table e)

      -- what it has seen was right after some step, where the node stands
      seen : Stands (at c.arena op.walk.place.node) op.walk.place.seen → (m : Map) × IsSeenTo m (scan_of op.task op.scan) (prefix_in c.arena op.walk) op.scan.stop
      seen stands =
          let checking : IsChecking c op = subst (λ (p : Phase). IsKeptAt p c o op) at_check (h.ops o op there).kept in
          let has = checking.seen stands.in_range in
          (maps_of (past_of c) (tenant_of op.task.key) has.step, has.seen)

      on : w.phase ≢ Done → (table : Table) → table ≡ set c.table o (Some (counted after (c.steps + 1) op.walk.first)) → StepGives table Moved
      on other table e =
          moves_on Check at_check scans t.task w op.outcome t.scan
          (subst (λ (task : Task). Gives (shown c) (stepped (went_table task w op.outcome t.scan)) o false) (sym t.still.asked) gives)
          (goes (scan_of t.task t.scan) (λ left. refl)) tt (ap ask t.still.asked)
          (λ height trees made r. check_nears c.arena arena height trees made op.walk w op.task.key at_check (scan_of op.task op.scan) (scan_of t.task t.scan)
          (check_kept c o h op there at_check) refl _ _ check other seen r)
          table
          (came_table after t.task w op.outcome t.scan (t.goes_on other) table e)
        where
          gives : Gives (shown c) (stepped (went_table (record op.task { key = t.task.key }) w op.outcome t.scan)) o false
          gives = elim (hop_or w.phase) [
            | inl hops ↦
                let kept : KeptHop c.arena t.task.key w t.scan.stop = subst (λ (p : Phase). KeptScan p c.arena (past_of c) t.task.key None w t.scan.stop) hops (t.kept other (past_of c) None) in
                check_keeps c o h few op there at_check asks.from asks.after _ _ asks.is t.task.key t.still.stored w t.scan t.same check hops kept
            | inr no_hop ↦
                let changed = check.changed (changed_else (at c.arena op.walk.place.node) (prefix_in c.arena op.walk) _ _ op.walk w (scan_of op.task op.scan) (scan_of t.task t.scan) check no_hop other) in
                let on_way : IsOnWay w.phase = subst (λ (x : Walk). IsOnWay x.phase) (sym changed.1)
                (changed_leads Check tt tt op.walk (at c.arena op.walk.place.node).version (at c.arena op.walk.place.node).next).0 in
                check_drops c o h few op there at_check asks.from asks.after _ _ asks.is t.task.key t.still.stored w t.scan t.same check no_hop other
                (λ past. on_way_kept w.phase on_way c.arena past t.task.key None w t.scan.stop (t.kept other past None))
          ]

    pub check_comes : Comes (TellsCompared c.arena (c.steps + 1))
    check_comes after t table e answer ends = elim t [
      | inl compares ↦ elim (done_or after.walk.phase) [
        | inl at_end ↦ subst (StepGives table) (sym (ends ∙ ap ending at_end)) (done after compares at_end table e)
        | inr other ↦ subst (StepGives table) (sym (ends ∙ other_moves after.walk.phase other)) (on after compares other table e)
      ]
      | inr stops ↦
          stop_comes Check at_check (λ scan. check_stopped c o h few op there at_check op.task.key stored refl (walk_done op.walk) scan refl (record { aim = refl; first = refl }))
          (λ scan. inr (stops.0, refl)) (λ scan. tt) after stops.1 table e answer ends
    ]

  pub may_compare : op.walk.phase ≡ Check → MayCompare c.arena op
  may_compare at_check = record {
    phase = at_check;
    kept = check_kept c o h op there at_check;
    asked = may_check c o h op there at_check;
    shows = λ task w scan count columns asked checks still same ends.
        check_shows c o h few op there at_check asked.from asked.after count columns asked.is task.key still.stored w scan same checks ends;
  }

  -- and one that goes on behind what it has kept
  pub hop_comes : IsArena c.arena.nodes c.arena.trees → op.walk.phase ≡ Hop → Comes (TellsHopped c.arena)
  hop_comes arena at_hop after t table e answer ends =
      let scans = scanning Hop at_hop (λ kind. kind) in
      subst (StepGives table) (sym (ends ∙ way_moves after.walk.phase (hop_leads c o h few op there at_hop arena op.scan.stop (hop_kept c o h op there at_hop) after.walk t.hops).0))
      (moves_on Hop at_hop scans op.task after.walk op.outcome op.scan
      (hop_done c o h few op there at_hop arena after.walk t.hops t.same t.kept) (t.hops, refl) tt refl
      (λ height trees made r. hop_nears c.arena arena height trees made op.walk after.walk op.task.key op.scan.stop at_hop stored (hop_kept c o h op there at_hop) t.hops
      (hop_leads c o h few op there at_hop arena op.scan.stop (hop_kept c o h op there at_hop) after.walk t.hops).2 (t.same.aim ∙ (h.ops o op there).always.aim ∙ scan_aim (ask op.task) scans) op.task.key r)
      table
      (came_table after op.task after.walk op.outcome op.scan t.others table e))

  pub may_snap : op.walk.phase ≡ Snap → MaySnap c.arena op
  may_snap at_snap = record { phase = at_snap; kept = snap_kept c o h op there at_snap }

  pub may_hop : op.walk.phase ≡ Hop → MayHop c.arena op
  may_hop at_hop = record { phase = at_hop; kept = hop_kept c o h op there at_hop }
