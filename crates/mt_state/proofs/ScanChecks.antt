-- A scan that compares its border node's version: it keeps what it has seen and goes on, is done and shows it, or drops it: for `State::check`.
use Rattle.std.proofs.Common.{◌≡◌, ◌≢◌, ℕ, ◌+◌, ◌<◌, ◌⊎◌, inl, inr, Bool, true, false, cond, List, length, Option, Some, None, refl, sym, ap, subst, ◌∙◌, arith}
use Rattle.std.proofs.lemmas.Bool.{both_ways, cases_eq}
use Rattle.std.specs.{Prelude.{◌^◌}, Ordering.{nat_cmp, is_lt}, Cmp.Lexicographic.slice_cmp}
use Rattle.mt_version.specs.Changes.{SameButLock}
use Rattle.mt_slices.specs.{Keys.{IsStoredKey, tenant_of}, Fences.least_through}
use Rattle.mt_rows.specs.{declared.command.Command.Command, declared.command.Command.TheVariants.Scan, declared.reply.Reply.TheVariants.{Pairs, NoMemory}}
use Rattle.mt_rows.specs.{Rows.Bytes, Maps.Map, Commands.HasCount, Limits.ArePairs}
use Rattle.mt_runs.specs.Scans.{IsLawful, IsLawfulScan}
use Rattle.mt_walks.specs.Walked.{IsWithin}
use Rattle.mt_arena.specs.{NodeView.NodeView, Accesses.at}
use Rattle.mt_operation.specs.{declared.phase.Phase.Phase, declared.phase.Phase.TheVariants.{Enter, Check, Hop, Done}, declared.walk.Walk.Walk}
use Rattle.mt_operation.specs.{declared.scan.Scan.{Scan as Memory}, declared.scan.Stop.Stop, declared.outcome.Outcome.Outcome}
use Rattle.mt_operation.specs.{declared.operation.Operation.Operation, Tasks.ask, Operations.{ScanView, view_of, scan_of, moved}}
use Rattle.mt_operation.specs.{Phases.{is_done, MayFollow, IsOfKind}, Tables.{op_at as operation_at}}
use Rattle.mt_descent.{specs.{Pasts.Past, KeptWalks.IsKept, WalkMoves.{Continues, after_change}}, proofs.Ways.same_stands}
use Rattle.mt_scan.specs.{Snaps.prefix_in, Checks.{collects, kept_seen, at_fence, walk_to, GoesBehind, IsCheck}, Hops.KeptHop}
use Rattle.mt_stretches.specs.Scanned.{maps_of, HasScanned, IsSeenTo, HasSeen}
use Rattle.mt_stretches.proofs.{Beginning.seen_stays, Checking.{checked_on, checked_off, checked_short, dropped}}
use Rattle.mt_state.specs.{Views.{Core, shown, past_of}, Steps.told_change, Notes.Notes, Ways.IsOnWay}
use Rattle.mt_state.specs.{KeptOperations.{HasScannedFor, IsOpenOperation, IsChecking, IsHopping, HasAnswer, IsKeptAt}, Invariant.StateInvariant}
use Rattle.mt_descent.proofs.Decides.{same_or_not}
use Rattle.mt_state.proofs.{Descents.{Leads, changed_leads}, Telling.Gives, Quiet.quiet, Moved.{first_begun, first_upto, first_same}}
use Rattle.mt_state.proofs.{Still.{IsFree, IsUnready}, Reading.walk_same, Scanning.{went_scan, scans, next_past, longer, still_scanned, scan_gives}}
use Rattle.mt_state.proofs.{ScanLooks.{scan_leads, scan_stopped}, ScanNeeds.sorted_pairs, KeptBack.{scan_look_back, walk_of_scan}}
use Rattle.mt_state.specs.KeptBack.{ScanRemembersKept, IsBackAt}
use Rattle.mt_scan.proofs.Learning.{learns_behind, learns_changed}
use Rattle.mt_scan.specs.Remembered.{Learns}
use Rattle.mt_operation.specs.declared.walk.Aim.TheVariants as aims
use Rattle.mt_operation.specs.declared.scan.Stop.TheVariants as stops

-- where the version stands, the scan goes on by Hop, or is done
hops_or_ends : (prefix : Bytes) (stop : Stop) (s is : ScanView) (w x : Walk) → GoesBehind prefix stop s is w x → (x.phase ≡ Hop) ⊎ (x.phase ≡ Done)
hops_or_ends prefix (stops.Link slice tree) s is w x goes = inl (ap (λ (y : Walk). y.phase) goes.1)
hops_or_ends prefix (stops.Next slice) s is w x goes = inl (ap (λ (y : Walk). y.phase) goes.1)
hops_or_ends prefix stops.Tree s is w x (inl goes) = inl (ap (λ (y : Walk). y.phase) goes.1)
hops_or_ends prefix stops.Tree s is w x (inr goes) = inr (ap (λ (y : Walk). y.phase) goes.2)
hops_or_ends prefix stops.Tenant s is w x goes = inr (ap (λ (y : Walk). y.phase) goes.1)

-- no walk is at both
apart : (x w : Walk) → x.phase ≡ Done → x ≡ walk_to Hop w → ⊥
apart x w ends hops = let both : Done ≡ Hop = sym ends ∙ ap (λ (y : Walk). y.phase) hops in cc

-- where it is done, its fence is the one that it was
ends_at_fence : (prefix : Bytes) (stop : Stop) (s is : ScanView) (w x : Walk) → GoesBehind prefix stop s is w x → x.phase ≡ Done → is.fence ≡ s.fence
ends_at_fence prefix (stops.Link slice tree) s is w x goes ends = absurd (apart x w ends goes.1)
ends_at_fence prefix (stops.Next slice) s is w x goes ends = absurd (apart x w ends goes.1)
ends_at_fence prefix stops.Tree s is w x (inl goes) ends = absurd (apart x w ends goes.1)
ends_at_fence prefix stops.Tree s is w x (inr goes) ends = ap (λ (y : ScanView). y.fence) goes.1
ends_at_fence prefix stops.Tenant s is w x goes ends = ap (λ (y : ScanView). y.fence) goes.0

-- and where it goes on, the next one is of the same tenant
same_tenant : (m : Map) (prefix : Bytes) (stop : Stop) (s k is : ScanView) (w x : Walk) → k.fence ≡ s.fence → IsSeenTo m s prefix stop → GoesBehind prefix stop k is w x
    → tenant_of is.fence ≡ tenant_of s.fence
same_tenant m prefix (stops.Link slice tree) s k is w x same seen goes =
    ap (λ (y : ScanView). tenant_of y.fence) goes.0 ∙ by (is_lt (slice_cmp nat_cmp k.fence (least_through prefix slice)))
  where
    by : (ahead : Bool) → tenant_of (cond ahead (at_fence k (least_through prefix slice)) k).fence ≡ tenant_of s.fence
    by true = seen.owner
    by false = ap tenant_of same
same_tenant m prefix (stops.Next slice) s k is w x same seen goes = ap (λ (y : ScanView). tenant_of y.fence) goes.0 ∙ seen.upto.owner
same_tenant m prefix stops.Tree s k is w x same seen (inl goes) =
    ap (λ (y : ScanView). tenant_of y.fence) goes.0.at ∙ (seen.0 goes.0.fence goes.0.behind).upto.owner
same_tenant m prefix stops.Tree s k is w x same seen (inr goes) = ap (λ (y : ScanView). tenant_of y.fence) goes.1 ∙ ap tenant_of same
same_tenant m prefix stops.Tenant s k is w x same seen goes = ap (λ (y : ScanView). tenant_of y.fence) goes.0 ∙ ap tenant_of same

module _ (n : NodeView) (prefix : Bytes) (count : ℕ) (columns : List ℕ) (w x : Walk) (s is : ScanView) (check : IsCheck n prefix count columns w x s is) where
  -- where it goes on or is done, the version stands
  abbrev Stood : Type 0
  Stood = SameButLock n.version w.place.seen

  pub stood_at_hop : x.phase ≡ Hop → Stood
  stood_at_hop hops = elim (same_or_not n.version w.place.seen) [
    | inl same ↦ same
    | inr other ↦ absurd (off (check.changed other).1 (changed_leads Check tt tt w n.version n.next).0)
  ]
    where
      off : x ≡ after_change w n.version n.next → IsOnWay (after_change w n.version n.next).phase → ⊥
      off goes on = subst IsOnWay (ap (λ (y : Walk). y.phase) (sym goes) ∙ hops) on

  pub stood_at_end : x.phase ≡ Done → Stood
  stood_at_end ends = elim (same_or_not n.version w.place.seen) [
    | inl same ↦ same
    | inr other ↦ absurd (off (check.changed other).1 (changed_leads Check tt tt w n.version n.next).0)
  ]
    where
      off : x ≡ after_change w n.version n.next → IsOnWay (after_change w n.version n.next).phase → ⊥
      off goes on = subst IsOnWay (ap (λ (y : Walk). y.phase) (sym goes) ∙ ends) on

  -- else it has changed
  pub changed_else : x.phase ≢ Hop → x.phase ≢ Done → ¬ Stood
  changed_else no_hop no_end same = elim (cases_eq (length (collects count columns s)) count) [
    | inl full ↦ no_end (ap (λ (y : Walk). y.phase) (check.full same full).1)
    | inr short ↦ elim (hops_or_ends prefix s.stop (kept_seen count columns s) is w x (check.goes same short)) [
      | inl hops ↦ no_hop hops
      | inr ends ↦ no_end ends
    ]
  ]

  pub fence_at_end : x.phase ≡ Done → is.fence ≡ s.fence
  fence_at_end ends = elim (cases_eq (length (collects count columns s)) count) [
    | inl full ↦ ap (λ (y : ScanView). y.fence) (check.full (stood_at_end ends) full).0
    | inr short ↦ ends_at_fence prefix s.stop (kept_seen count columns s) is w x (check.goes (stood_at_end ends) short) ends
  ]

  pub tenant_at_hop : (m : Map) → IsSeenTo m s prefix s.stop → x.phase ≡ Hop → tenant_of is.fence ≡ tenant_of s.fence
  tenant_at_hop m seen hops = elim (cases_eq (length (collects count columns s)) count) [
    | inl full ↦ absurd (let both : Hop ≡ Done = sym hops ∙ ap (λ (y : Walk). y.phase) (check.full (stood_at_hop hops) full).1 in cc)
    | inr short ↦ same_tenant m prefix s.stop s (kept_seen count columns s) is w x refl seen (check.goes (stood_at_hop hops) short)
  ]

module _ (c : Core) (o : ℕ) (h : StateInvariant c) (few : c.steps < 2 ^ 59) (op : Operation) (there : operation_at c.table o ≡ Some op) (at_check : op.walk.phase ≡ Check) where
  always : IsOpenOperation c op
  always = (h.ops o op there).always

  checking : IsChecking c op
  checking = subst (λ (p : Phase). IsKeptAt p c o op) at_check (h.ops o op there).kept

  check_free : IsFree op.walk.phase
  check_free = subst IsFree (sym at_check) tt

  check_scans : op.walk.aim ≡ aims.Scan
  check_scans = subst (λ (p : Phase). IsOfKind p op.walk.aim) at_check always.kind

  begun : 0 < op.walk.first
  begun = always.begun (λ enters. absurd (let no : Check ≡ Enter = sym at_check ∙ enters in cc))

  pub check_stopped : (key : Bytes) → IsStoredKey key → tenant_of key ≡ tenant_of op.task.key → (w : Walk) (left : Memory) → w.phase ≡ Done → Continues op.walk w
      → Gives (shown c) (quiet c c.arena c.tape.reserved o (went_scan op (c.steps + 1) key w left (Some (record { reply = NoMemory; at = c.steps + 1 })))) o true
  check_stopped = scan_stopped c o h few op there Check at_check tt tt check_scans checking.untold checking.unprepared (inl refl)

  abbrev node : NodeView
  node = at c.arena op.walk.place.node

  -- what it remembers
  check_back : ScanRemembersKept op.birth c.arena op.walk.phase op.walk op.scan.stop
  check_back = subst (λ (p : Phase). ScanRemembersKept op.birth c.arena p op.walk op.scan.stop) (sym at_check)
      (subst (λ (p : Phase). IsBackAt p c.arena op) at_check (h.remembered o op there).walk)

  -- the past as the step leaves it
  abbrev past : Past
  past = next_past c o h few op there check_free check_scans

  abbrev was : ScanView
  was = scan_of op.task op.scan

  abbrev prefix : Bytes
  prefix = prefix_in c.arena op.walk

  -- what it has seen was right, where the version stands
  seen_so : SameButLock node.version op.walk.place.seen → HasSeen past op.walk.first prefix was
  seen_so same = seen_stays (past_of c) past op.walk.first (longer c o h few op there check_free check_scans) prefix was
      (checking.seen (same_stands node op.walk.place.seen checking.kept.at_border.covers.remembered.undeleted same).in_range)

  module _ (from : Bytes) (after_from : Bool) (count : ℕ) (columns : List ℕ) (asks : ask op.task ≡ Scan from after_from count columns)
      (key : Bytes) (stored : IsStoredKey key) (w : Walk) (scan : Memory) (same : Continues op.walk w)
      (check : IsCheck node prefix count columns op.walk w was (scan_of (record op.task { key = key }) scan)) where
    abbrev now : ScanView
    now = scan_of (record op.task { key = key }) scan

    -- what it has scanned so far
    scanned_so : HasScanned past op.walk.first from after_from count columns was
    scanned_so =
        subst (λ (command : Command). HasScannedFor command past op.walk.first was) asks
        (subst (λ first. HasScannedFor (ask op.task) past first was) (first_same c op always w begun)
        (still_scanned c o h few op there check_free check_scans begun w))

    -- what a scan of this command has done
    done_so : HasScanned past op.walk.first from after_from count columns now
        → HasScannedFor (ask op.task) past (moved op (c.steps + 1) w).walk.first now
    done_so has =
        subst (λ first. HasScannedFor (ask op.task) past first now) (sym (first_same c op always w begun))
        (subst (λ (command : Command). HasScannedFor command past op.walk.first now) (sym asks) has)

    -- where it goes on it comes to remember nothing that it did not
    learns_on : SameButLock node.version op.walk.place.seen → w.phase ≡ Hop → Learns c.arena op.walk w op.scan.stop scan.stop
    learns_on stood hops = elim (cases_eq (length (collects count columns was)) count) [
      | inl full ↦ absurd (let both : Hop ≡ Done = sym hops ∙ ap (λ (y : Walk). y.phase) (check.full stood full).1 in cc)
      | inr short ↦ learns_behind c.arena op.walk at_check prefix (kept_seen count columns was) now w (check.goes stood short)
    ]

    -- it keeps what it has seen, and goes on from its next fence
    pub check_keeps : w.phase ≡ Hop → KeptHop c.arena key w scan.stop
        → Gives (shown c) (quiet c c.arena c.tape.reserved o (went_scan op (c.steps + 1) key w scan op.outcome)) o false
    check_keeps hops kept =
        let after = went_scan op (c.steps + 1) key w scan op.outcome in
        let new = quiet c c.arena c.tape.reserved o after in
        let stood = stood_at_hop node prefix count columns op.walk w was now check hops in
        let seen = seen_so stood in
        let tenant : tenant_of key ≡ tenant_of op.task.key =
        tenant_at_hop node prefix count columns op.walk w was now check (maps_of past (tenant_of op.task.key) seen.step) seen.seen hops in
        let whole : after.walk ≡ w = walk_same c op always w begun same.first in
        let own : IsHopping new after =
        record { kept = subst (λ (x : Walk). KeptHop c.arena key x scan.stop) (sym whole) kept; untold = checking.untold; unprepared = checking.unprepared } in
        scan_gives c o h few op there check_free check_scans key stored tenant w scan op.outcome
        (subst (λ (q : Phase). MayFollow q w.phase) (sym at_check) (subst (MayFollow Check) (sym hops) tt))
        (subst IsUnready (sym hops) tt) same.aim (subst (λ (q : Phase). IsOfKind q w.aim) (sym hops) (same.aim ∙ check_scans)) checking.untold (ap told_change checking.untold)
        (subst (λ (q : Phase). Notes (shown c) (view_of op) q w.phase op.outcome) (sym at_check)
        (subst (λ (q : Phase). Notes (shown c) (view_of op) Check q op.outcome) (sym hops) (checking.untold, checking.untold)))
        (subst (λ (q : Phase). IsKeptAt q new o after) (sym hops) own)
        (λ facts. subst (λ (q : Phase). IsBackAt q c.arena after) (sym hops) (subst (λ (x : Walk). ScanRemembersKept op.birth c.arena Hop x scan.stop) (sym whole)
        (subst (λ (p : Phase). ScanRemembersKept op.birth c.arena p w scan.stop) hops
        (scan_look_back op.birth c.arena op.walk w op.scan.stop scan.stop facts (learns_on stood hops) check_back))))
        (λ unfinished. done_so
        (checked_on past op.walk.first from after_from node prefix count columns op.walk w was now scanned_so check seen stood stored hops))
        false (sym (ap is_done hops))

    -- what it has is lawful where it is done
    abbrev Shows : Command → ℕ → ℕ → Type 0
    Shows command t first = IsLawfulScan (maps_of past t) (IsWithin first past.steps) command (Pairs scan.collected.items)

    lawful_at_end : w.phase ≡ Done → IsLawful (maps_of past (tenant_of op.task.key)) (IsWithin op.walk.first past.steps) from after_from count columns scan.collected.items
    lawful_at_end ends =
        let stood = stood_at_end node prefix count columns op.walk w was now check ends in
        checked_off past op.walk.first from after_from node prefix count columns op.walk w was now scanned_so check (seen_so stood) stood ends

    -- it is done, and shows all that it has
    pub check_ends : (left : Memory) → w.phase ≡ Done
        → Gives (shown c) (quiet c c.arena c.tape.reserved o (went_scan op (c.steps + 1) key w left (Some (record { reply = Pairs scan.collected.items; at = c.steps + 1 })))) o true
    check_ends left ends =
        let told : Option Outcome = Some (record { reply = Pairs scan.collected.items; at = c.steps + 1 }) in
        let after = went_scan op (c.steps + 1) key w left told in
        let new = quiet c c.arena c.tape.reserved o after in
        let tenant : tenant_of key ≡ tenant_of op.task.key = ap tenant_of (fence_at_end node prefix count columns op.walk w was now check ends) in
        let lawful : Shows (ask op.task) op.task.tenant after.walk.first =
        subst (λ t. Shows (ask op.task) t after.walk.first) always.tenant_is
        (subst (Shows (ask op.task) (tenant_of op.task.key)) (sym (first_same c op always w begun))
        (subst (λ (command : Command). Shows command (tenant_of op.task.key) op.walk.first) (sym asks) (lawful_at_end ends))) in
        let own : HasAnswer new after = record {
          outcome = record { reply = Pairs scan.collected.items; at = c.steps + 1 };
          told = refl;
          right = record {
            begun = first_begun c op always w;
            since = first_upto c op always w;
            upto = omega arith;
            placed = λ real plain. absurd (both_ways _ plain (scans c o h few op there check_free check_scans));
            lawful = lawful;
          };
          unprepared = checking.unprepared;
        } in
        scan_gives c o h few op there check_free check_scans key stored tenant w left told
        (subst (λ (q : Phase). MayFollow q w.phase) (sym at_check) (subst (MayFollow Check) (sym ends) tt))
        (subst IsUnready (sym ends) tt) same.aim (subst (λ (q : Phase). IsOfKind q w.aim) (sym ends) tt) checking.untold refl
        (subst (λ (q : Phase). Notes (shown c) (view_of op) q w.phase told) (sym at_check)
        (subst (λ (q : Phase). Notes (shown c) (view_of op) Check q told) (sym ends) (inr (scan.collected.items, refl))))
        (subst (λ (q : Phase). IsKeptAt q new o after) (sym ends) own)
        (λ facts. subst (λ (q : Phase). IsBackAt q c.arena after) (sym ends) tt)
        (λ unfinished. absurd (let is = ap is_done ends in let no = sym unfinished ∙ is in cc)) true (sym (ap is_done ends))

    -- those are pairs that may be shown
    pub check_shows : w.phase ≡ Done → ArePairs scan.collected.items
    check_shows ends =
        let stood = stood_at_end node prefix count columns op.walk w was now check ends in
        let lawful = lawful_at_end ends in
        let counts : HasCount (Scan from after_from count columns) = subst HasCount asks always.counts in
        record {
          few = omega (arith, lawful.few, counts.1);
          keys = checked_short past op.walk.first from after_from node prefix count columns op.walk w was now scanned_so check (seen_so stood) stood;
          rising = sorted_pairs scan.collected.items lawful.rises;
        }

    -- the version has changed: it drops what it has seen, and goes on its way
    pub check_drops : w.phase ≢ Hop → w.phase ≢ Done → ((past : Past) → IsKept c.arena past key None w)
        → Gives (shown c) (quiet c c.arena c.tape.reserved o (went_scan op (c.steps + 1) key w scan op.outcome)) o false
    check_drops no_hop no_end kept =
        let other = changed_else node prefix count columns op.walk w was now check no_hop no_end in
        let changed = check.changed other in
        let leads : Leads Check w.phase w.aim = subst (λ (x : Walk). Leads Check x.phase x.aim) (sym changed.1) (changed_leads Check tt tt op.walk node.version node.next) in
        scan_leads c o h few op there Check at_check tt check_scans begun checking.untold checking.unprepared
        key stored (ap (λ (y : ScanView). tenant_of y.fence) changed.0) w scan same leads notes kept
        (λ facts. walk_of_scan op.birth c.arena w scan.stop leads.0
        (scan_look_back op.birth c.arena op.walk w op.scan.stop scan.stop facts
        (subst (λ (x : Walk). Learns c.arena op.walk x op.scan.stop scan.stop) (sym changed.1) (learns_changed c.arena op.walk at_check node.version op.scan.stop scan.stop)) check_back))
        (done_so (dropped past op.walk.first from after_from node prefix count columns op.walk w was now scanned_so check other))
      where
        notes : (q : Phase) → MayFollow Check q → is_done q ≡ false → Notes (shown c) (view_of op) Check q op.outcome
        notes Done follows unfinished = absurd (cc)
        notes _ follows unfinished = (checking.untold, checking.untold)
