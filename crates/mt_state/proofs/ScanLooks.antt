-- A scan that sees the pairs of its border node, hops on behind them, or has no memory: for `State::snap`, `check` and `hop`.
use Rattle.std.proofs.{Common.{◌≡◌, ◌≢◌, ℕ, ◌+◌, ◌<◌, Bool, true, false, cond, Option, Some, None, refl, sym, ap, subst, ◌∙◌, arith}, lemmas.Option.same_Some}
use Rattle.std.specs.Prelude.{◌^◌}
use Rattle.mt_slices.specs.Keys.{IsStoredKey, tenant_of}
use Rattle.mt_rows.specs.{declared.reply.Reply.TheVariants.NoMemory, Rows.Bytes}
use Rattle.mt_version.specs.Parts.{Parts}
use Rattle.mt_walks.specs.Walked.{IsWithin}
use Rattle.mt_arena.specs.{NodeFacts.TellsKind, Arena.IsArena, Accesses.at}
use Rattle.mt_operation.specs.{declared.walk.Aim.Aim, declared.phase.Phase.Phase, declared.phase.Phase.TheVariants.{Enter, Snap, Check, Hop, Done}}
use Rattle.mt_operation.specs.{declared.walk.Walk.Walk, declared.scan.Scan.{Scan as Memory}, declared.scan.Stop.Stop, declared.outcome.Outcome.Outcome}
use Rattle.mt_operation.specs.{declared.operation.Operation.Operation, Tasks.ask, Operations.{view_of, scan_of, moved}, Phases.{is_done, MayFollow, IsOfKind}}
use Rattle.mt_operation.specs.Tables.{op_at as operation_at}
use Rattle.mt_descent.specs.{Pasts.Past, Seen.RangeStands, KeptWalks.{IsAtBorder, KeptAt, IsKept}, WalkMoves.{Continues, arrival_at, walk_into, walk_onto}}
use Rattle.mt_scan.specs.{Snaps.{prefix_in, IsSnap}, Hops.{IsAtHop, IsAtCheck, KeptHop, HopsTo}}
use Rattle.mt_stretches.{specs.Scanned.HasSeen, proofs.Snapping.snap_sees}
use Rattle.mt_state.specs.{Views.{Core, shown, map_of, past_of}, Steps.told_change, Notes.Notes}
use Rattle.mt_state.specs.KeptOperations.{HasScannedFor, IsOpenOperation, IsOnItsWay, IsChecking, IsHopping, HasAnswer, IsBound, IsKeptAt}
use Rattle.mt_state.specs.{Invariant.StateInvariant, Ways.IsOnWay, KeptBack.{ArenaFacts, ScanRemembersKept, IsBackAt}}
use Rattle.mt_descent.specs.KeptBack.{RemembersKept}
use Rattle.mt_scan.proofs.Learning.{learns_snap, learns_hop}
use Rattle.mt_state.proofs.KeptBack.{on_walk, first_aside_back, scan_look_back, scan_of_walk, walk_of_scan}
use Rattle.mt_state.proofs.{Lawful.{stopped_free, scan_no_remove}, Descents.{Leads, first_aside}, Telling.Gives, Quiet.quiet, Moved.{first_begun, first_upto}}
use Rattle.mt_state.proofs.{Still.{IsFree, IsUnready}, Reading.{reads_untold, walk_same, now_is, on_way_unready, on_way_open, kept_on_way}}
use Rattle.mt_state.proofs.Scanning.{went_scan, seen_aside, scans, still_scanned, scan_gives}
use Rattle.mt_operation.specs.declared.walk.Aim.TheVariants as aims
use Rattle.mt_operation.specs.declared.scan.Stop.TheVariants as stops

-- an operation that scans doesn't write
pub scan_not_write : (aim : Aim) → aim ≡ aims.Scan → aim ≢ aims.Write
scan_not_write aim scans writes = absurd (let no : aims.Scan ≡ aims.Write = sym scans ∙ writes in cc)

module _ (c : Core) (o : ℕ) (h : StateInvariant c) (few : c.steps < 2 ^ 59) (op : Operation) (there : operation_at c.table o ≡ Some op) where
  always : IsOpenOperation c op
  always = (h.ops o op there).always

  -- a scan that goes on to look for the node of its fence, or is there
  pub scan_leads : (p : Phase) → op.walk.phase ≡ p → IsFree p → op.walk.aim ≡ aims.Scan → 0 < op.walk.first → op.outcome ≡ None → op.prepared ≡ None
      → (key : Bytes) → IsStoredKey key → tenant_of key ≡ tenant_of op.task.key
      → (w : Walk) (scan : Memory) → Continues op.walk w → Leads p w.phase w.aim
      → ((q : Phase) → MayFollow p q → is_done q ≡ false → Notes (shown c) (view_of op) p q op.outcome)
      → ((past : Past) → IsKept c.arena past key None w) → (ArenaFacts c.arena → RemembersKept op.birth c.arena w)
      → HasScannedFor (ask op.task) (past_of (quiet c c.arena c.tape.reserved o op)) (moved op (c.steps + 1) w).walk.first (scan_of (record op.task { key = key }) scan)
      → Gives (shown c) (quiet c c.arena c.tape.reserved o (went_scan op (c.steps + 1) key w scan op.outcome)) o false
  scan_leads p at_p free scanning begun untold unprepared key stored same_tenant w scan same leads notes kept back brings =
      let is_free : IsFree op.walk.phase = subst IsFree (sym at_p) free in
      let after = went_scan op (c.steps + 1) key w scan op.outcome in
      let new = quiet c c.arena c.tape.reserved o after in
      let on : IsOnItsWay new after = record {
        kept = first_aside w.phase leads.0 c.arena (past_of new) key None w after.walk.first (kept (past_of new));
        bound = subst (λ told. IsBound told new after) (sym untold) (always.light (scan_no_remove (ask op.task) (scans c o h few op there is_free scanning)));
        unprepared = unprepared;
      } in
      scan_gives c o h few op there is_free scanning key stored same_tenant w scan op.outcome
      (subst (λ (q : Phase). MayFollow q w.phase) (sym at_p) leads.1)
      (on_way_unready w.phase leads.0) same.aim leads.2 untold (ap told_change untold)
      (subst (λ (q : Phase). Notes (shown c) (view_of op) q w.phase op.outcome) (sym at_p) (notes w.phase leads.1 (on_way_open w.phase leads.0)))
      (kept_on_way w.phase leads.0 new o after on)
      (λ facts. on_walk w.phase leads.0 c.arena after (first_aside_back op.birth c.arena w after.walk.first (back facts)))
      (λ unfinished. brings) false (sym (on_way_open w.phase leads.0))

  -- there is no memory for what it sees, or keeps
  pub scan_stopped : (p : Phase) → op.walk.phase ≡ p → IsFree p → MayFollow p Done → op.walk.aim ≡ aims.Scan → op.outcome ≡ None → op.prepared ≡ None
      → Notes (shown c) (view_of op) p Done (Some (record { reply = NoMemory; at = c.steps + 1 }))
      → (key : Bytes) → IsStoredKey key → tenant_of key ≡ tenant_of op.task.key → (w : Walk) (left : Memory) → w.phase ≡ Done → Continues op.walk w
      → Gives (shown c) (quiet c c.arena c.tape.reserved o (went_scan op (c.steps + 1) key w left (Some (record { reply = NoMemory; at = c.steps + 1 })))) o true
  scan_stopped p at_p free follows scanning untold unprepared notes key stored same_tenant w left done same =
      let told : Option Outcome = Some (record { reply = NoMemory; at = c.steps + 1 }) in
      let is_free : IsFree op.walk.phase = subst IsFree (sym at_p) free in
      let after = went_scan op (c.steps + 1) key w left told in
      let new = quiet c c.arena c.tape.reserved o after in
      let own : HasAnswer new after = record {
        outcome = record { reply = NoMemory; at = c.steps + 1 };
        told = refl;
        right = record {
          begun = first_begun c op always w;
          since = first_upto c op always w;
          upto = omega arith;
          placed = λ real plain. absurd (cc);
          lawful = stopped_free (map_of (shown new) op.task.tenant) (IsWithin after.walk.first after.last) (ask op.task);
        };
        unprepared = unprepared;
      } in
      scan_gives c o h few op there is_free scanning key stored same_tenant w left told
      (subst (λ (q : Phase). MayFollow q w.phase) (sym at_p) (subst (MayFollow p) (sym done) follows))
      (subst IsUnready (sym done) tt) same.aim (subst (λ (q : Phase). IsOfKind q w.aim) (sym done) tt) untold refl
      (subst (λ (q : Phase). Notes (shown c) (view_of op) q w.phase told) (sym at_p) (subst (λ (q : Phase). Notes (shown c) (view_of op) p q told) (sym done) notes))
      (subst (λ (q : Phase). IsKeptAt q new o after) (sym done) own)
      (λ facts. subst (λ (q : Phase). IsBackAt q c.arena after) (sym done) tt)
      (λ unfinished. absurd (let is = ap is_done done in let no = sym unfinished ∙ is in cc)) true (sym (ap is_done done))

  module _ (at_snap : op.walk.phase ≡ Snap) where
    snap_free : IsFree op.walk.phase
    snap_free = subst IsFree (sym at_snap) tt

    snap_scans : op.walk.aim ≡ aims.Scan
    snap_scans = subst (λ (p : Phase). IsOfKind p op.walk.aim) at_snap always.kind

    way : IsOnItsWay c op
    way = subst (λ (p : Phase). IsKeptAt p c o op) at_snap (h.ops o op there).kept

    border : IsAtBorder c.arena op.task.key op.walk
    border = subst (λ (p : Phase). KeptAt p c.arena (past_of c) op.task.key None op.walk) at_snap way.kept

    begun : 0 < op.walk.first
    begun = always.begun (λ enters. absurd (let no : Snap ≡ Enter = sym at_snap ∙ enters in cc))

    untold : op.outcome ≡ None
    untold = reads_untold c op always (scan_not_write op.walk.aim snap_scans) way.bound

    pub snap_stopped : (key : Bytes) → IsStoredKey key → tenant_of key ≡ tenant_of op.task.key → (w : Walk) (left : Memory) → w.phase ≡ Done → Continues op.walk w
        → Gives (shown c) (quiet c c.arena c.tape.reserved o (went_scan op (c.steps + 1) key w left (Some (record { reply = NoMemory; at = c.steps + 1 })))) o true
    snap_stopped = scan_stopped Snap at_snap tt tt snap_scans untold way.unprepared refl

    -- what it remembers at its node
    snap_back : (stop : Stop) → ScanRemembersKept op.birth c.arena op.walk.phase op.walk stop
    snap_back stop = scan_of_walk op.birth c.arena op.walk stop (subst IsOnWay (sym at_snap) tt)
        (subst (λ (p : Phase). IsBackAt p c.arena op) at_snap (h.remembered o op there).walk)

    -- it has seen the pairs of its node
    pub snap_done : IsArena c.arena.nodes c.arena.trees → (w : Walk) (scan : Memory) → IsSnap c.arena op.walk w (scan_of op.task op.scan) (scan_of op.task scan)
        → IsAtCheck c.arena op.task.key w scan.stop
        → Gives (shown c) (quiet c c.arena c.tape.reserved o (went_scan op (c.steps + 1) op.task.key w scan op.outcome)) o false
    snap_done arena w scan s k =
        let after = went_scan op (c.steps + 1) op.task.key w scan op.outcome in
        let new = quiet c c.arena c.tape.reserved o after in
        let checks : w.phase ≡ Check = ap (λ (x : Walk). x.phase) s.walk in
        let aim : w.aim ≡ op.walk.aim = ap (λ (x : Walk). x.aim) s.walk in
        let whole : after.walk ≡ w = walk_same c op always w begun (ap (λ (x : Walk). x.first) s.walk) in
        let own : IsChecking new after = record {
          kept = subst (λ (x : Walk). IsAtCheck c.arena op.task.key x scan.stop) (sym whole) k;
          seen =
              subst (λ (x : Walk). RangeStands (at c.arena x.place.node) x.place.seen → HasSeen (past_of new) x.first (prefix_in c.arena x) (scan_of op.task scan))
              (sym (whole ∙ s.walk))
              (λ stands. snap_sees c.arena op.walk (scan_of op.task op.scan) arena border stands (past_of new) (c.steps + 1) w (scan_of op.task scan)
              (now_is c h new refl refl refl) (omega (arith, always.order, always.made)) s);
          untold = untold;
          unprepared = way.unprepared;
        } in
        scan_gives c o h few op there snap_free snap_scans op.task.key always.stored refl w scan op.outcome
        (subst (λ (q : Phase). MayFollow q w.phase) (sym at_snap) (subst (MayFollow Snap) (sym checks) tt))
        (subst IsUnready (sym checks) tt) aim (subst (λ (q : Phase). IsOfKind q w.aim) (sym checks) (aim ∙ snap_scans)) untold (ap told_change untold)
        (subst (λ (q : Phase). Notes (shown c) (view_of op) q w.phase op.outcome) (sym at_snap)
        (subst (λ (q : Phase). Notes (shown c) (view_of op) Snap q op.outcome) (sym checks) (untold, untold)))
        (subst (λ (q : Phase). IsKeptAt q new o after) (sym checks) own)
        (λ facts. subst (λ (q : Phase). IsBackAt q c.arena after) (sym checks) (snapped_back facts))
        (λ unfinished. subst (HasScannedFor (ask op.task) (past_of new) after.walk.first) (sym s.rest)
        (seen_aside (ask op.task) (past_of new) after.walk.first (scan_of op.task op.scan) (scan_of op.task scan).seen (scan_of op.task scan).stop
        (still_scanned c o h few op there snap_free snap_scans begun w)))
        false (sym (ap is_done checks))
      where
        snapped_back : ArenaFacts c.arena → ScanRemembersKept op.birth c.arena Check (went_scan op (c.steps + 1) op.task.key w scan op.outcome).walk scan.stop
        snapped_back facts =
            let learns = learns_snap c.arena op.walk (scan_of op.task op.scan) arena border at_snap (h.deleted op.walk.place.node border.covers.remembered.there) w (scan_of op.task scan) s in
            let at_check : ScanRemembersKept op.birth c.arena w.phase w scan.stop = scan_look_back op.birth c.arena op.walk w op.scan.stop scan.stop facts learns (snap_back op.scan.stop) in
            subst (λ (x : Walk). ScanRemembersKept op.birth c.arena Check x scan.stop) (sym (walk_same c op always w begun (ap (λ (x : Walk). x.first) s.walk)))
            (subst (λ (p : Phase). ScanRemembersKept op.birth c.arena p w scan.stop) (ap (λ (x : Walk). x.phase) s.walk) at_check)

  module _ (at_hop : op.walk.phase ≡ Hop) where
    hopping : IsHopping c op
    hopping = subst (λ (p : Phase). IsKeptAt p c o op) at_hop (h.ops o op there).kept

    hop_free : IsFree op.walk.phase
    hop_free = subst IsFree (sym at_hop) tt

    hop_scans : op.walk.aim ≡ aims.Scan
    hop_scans = subst (λ (p : Phase). IsOfKind p op.walk.aim) at_hop always.kind

    hop_begun : 0 < op.walk.first
    hop_begun = always.begun (λ enters. absurd (let no : Hop ≡ Enter = sym at_hop ∙ enters in cc))

    -- it goes to the top of a tree, or to a border node
    pub hop_leads : IsArena c.arena.nodes c.arena.trees → (stop : Stop) → KeptHop c.arena op.task.key op.walk stop → (w : Walk) → HopsTo c.arena stop op.walk w
        → Leads Hop w.phase w.aim
    hop_leads arena (stops.Link slice tree) kept w goes = subst (λ (x : Walk). Leads Hop x.phase x.aim) (sym goes) (tt, tt, tt)
    hop_leads arena stops.Tree kept w goes = subst (λ (x : Walk). Leads Hop x.phase x.aim) (sym goes) (tt, tt, tt)
    hop_leads arena stops.Tenant kept w goes = subst (λ (x : Walk). Leads Hop x.phase x.aim) (sym goes) (tt, tt, tt)
    hop_leads arena (stops.Next slice) kept w goes =
        let j = goes.0 in
        let same : kept.0 ≡ j = same_Some kept.0 j (sym kept.1 ∙ goes.1) in
        let next = subst (λ x. IsAtHop c.arena op.walk.place.tree op.walk.layer op.task.key x) same kept.2 in
        subst (λ (x : Walk). Leads Hop x.phase x.aim) (sym goes.3)
        (by (at c.arena j).version.deleted (at c.arena j).version
        (is_border (at c.arena j).version.border (at c.arena j).level (arena.nodes.each j next.next.there).kind next.next.border))
      where
        is_border : (border : Bool) (level : ℕ) → TellsKind border level → level ≡ 0 → border ≡ true
        is_border true level kind lowest = refl
        is_border false level kind lowest = absurd (let up = kind.interior refl in omega (arith, up, lowest))

        arrives : (border : Bool) → border ≡ true → (aim : Aim) → aim ≡ aims.Scan → Leads Hop (arrival_at border aim) aim
        arrives true is aims.Scan scans = (tt, tt, refl)
        arrives true is aims.Read scans = absurd (cc)
        arrives true is aims.Write scans = absurd (cc)
        arrives false is aim scans = absurd (cc)

        by : (deleted : Bool) (seen : Parts) → seen.border ≡ true
            → Leads Hop (cond deleted (walk_into op.walk 0 0) (walk_onto op.walk goes.0 seen)).phase
            (cond deleted (walk_into op.walk 0 0) (walk_onto op.walk goes.0 seen)).aim
        by true seen is = (tt, tt, tt)
        by false seen is = arrives seen.border is op.walk.aim hop_scans

    pub hop_done : IsArena c.arena.nodes c.arena.trees → (w : Walk) → HopsTo c.arena op.scan.stop op.walk w → Continues op.walk w
        → ((past : Past) → IsKept c.arena past op.task.key None w)
        → Gives (shown c) (quiet c c.arena c.tape.reserved o (went_scan op (c.steps + 1) op.task.key w op.scan op.outcome)) o false
    hop_done arena w goes same kept =
        scan_leads Hop at_hop tt hop_scans hop_begun hopping.untold hopping.unprepared op.task.key always.stored refl w op.scan same
        (hop_leads arena op.scan.stop hopping.kept w goes)
        (λ q follows unfinished. (hopping.untold, hopping.untold)) kept
        (λ facts. walk_of_scan op.birth c.arena w op.scan.stop (hop_leads arena op.scan.stop hopping.kept w goes).0
        (scan_look_back op.birth c.arena op.walk w op.scan.stop op.scan.stop facts (learns_hop c.arena op.walk arena at_hop op.scan.stop w goes)
        (subst (λ (p : Phase). ScanRemembersKept op.birth c.arena p op.walk op.scan.stop) (sym at_hop)
        (subst (λ (p : Phase). IsBackAt p c.arena op) at_hop (h.remembered o op there).walk))))
        (still_scanned c o h few op there hop_free hop_scans hop_begun w)
