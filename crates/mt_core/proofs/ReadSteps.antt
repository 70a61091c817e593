-- What the steps of an operation that holds nothing ask of the invariant, and what they tell: for `Inner::look`.
use Rattle.mt_operation.specs.declared.walk.Aim.TheVariants as aims
use Rattle.std.proofs.Common.{◌≡◌, ◌≢◌, ℕ, ◌+◌, ◌<◌, ◌≤◌, ◌⊎◌, inl, inr, true, false, not, set, Option, Some, None, refl, sym, ap, subst, ◌∙◌, arith}
use Rattle.std.proofs.lemmas.Bool.{both_ways}
use Rattle.std.specs.Prelude.{◌^◌}
use Rattle.mt_rows.specs.{declared.reply.Reply.TheVariants.{Absent, NoMemory}, Stamps.Stamped, Commands.HasColumns, Maps.{is_get, is_scan}}
use Rattle.mt_border.specs.{declared.entry.Find.Find, declared.entry.FoundKind.TheVariants.{ThisKey, OtherLong, Link as ToTree}}
use Rattle.mt_version.specs.Changes.{IsStable}
use Rattle.mt_arena.specs.{Arena.IsArena, Accesses.at}
use Rattle.mt_operation.specs.declared.phase.Phase.{Phase}
use Rattle.mt_operation.specs.declared.phase.Phase.TheVariants.{Enter, Pick, Child, Verify, Forward, Search, Load, Confirm, Done, Snap, Check, Hop}
use Rattle.mt_operation.specs.{declared.walk.Walk.Walk, declared.outcome.Outcome.Outcome, declared.operation.Operation.Operation, Tasks.ask}
use Rattle.mt_operation.specs.{Operations.{view_of, splits_of, scan_of, is_unfinished, moved, counted, noted}, Phases.{is_done, IsDescent, IsOfKind, IsNoLook}}
use Rattle.mt_operation.specs.Tables.{Table, AreBefore, op_at as operation_at}
use Rattle.mt_operation.proofs.Tables.{set_is}
use Rattle.mt_table.specs.{declared.steps.Made.Made, declared.steps.Made.TheVariants.{Step, Blocked, NoMemory as NoMemoryMade, Nothing}}
use Rattle.mt_descent.specs.{Pasts.{Past, IsNow, AreStamped}, KeptWalks.{IsAtBorder, IsAtLoad as WalksLoad, IsAtConfirm as WalksConfirm, KeptAt, IsKept}}
use Rattle.mt_descent.specs.WalkMoves.{Continues, FindsIn, after_search, Confirms}
use Rattle.mt_descent.proofs.Looks.{kept_loads}
use Rattle.mt_state.specs.{declared.moves.Move.Move, declared.moves.Move.TheVariants.{Moved, Again, Done as DoneMove}, Views.{Core, shown, past_of}}
use Rattle.mt_state.specs.{Promises.{Tells, IsInTheWay}, Phases.LeadsTo, Notes.Says, Ways.{Descends, ShowsTaken}}
use Rattle.mt_state.specs.{KeptOperations.{IsOnItsWay, IsAtLoad, IsAtConfirm, IsKeptAt}, Invariant.StateInvariant}
use Rattle.mt_state.proofs.{Shown.shown_there, Telling.Gives, Still.{IsFree, holds_nothing}}
use Rattle.mt_state.proofs.{Reading.{way_of, descend_done, search_missing, search_found}, Loading.{load_taken, load_stopped}}
use Rattle.mt_descent.specs.Remembered.{Learns}
use Rattle.mt_state.proofs.Learning.{descent_learns}
use Rattle.mt_state.proofs.{Confirming.{get_of, confirm_done, confirm_back}, Lawful.get_no_scan, Bound.get_no_remove}
use Rattle.mt_core.specs.Nexts.{ending}
use Rattle.mt_core.specs.Looks.{Looks, LooksAt, MayDescend, MayLook, led_to, TellsDescended, TellsSearched, TellsLoaded, TellsConfirmed, TellsSnapped, TellsCompared, TellsHopped, IsStopped}
use Rattle.mt_core.specs.{Points.{IsAtPoint, Nears, StepsOn, IsRemovalAt}, ScanPoints.IsScanAt}
use Rattle.mt_core.proofs.{Points.{point_first, removal_first, nears_by}, ScanNears.{scan_first, scan_aim, down_nears}, RemovalNears.descent_removal}
use Rattle.mt_core.proofs.{Following.{IsSound, sound_by, IsOver, holder_open, in_the_way}, Leading.{no_step, leads_over}}
use Rattle.mt_core.proofs.PhaseTests.{free_unfinished, confirm_or, done_or, other_moves, way_moves}
use Rattle.mt_core.proofs.ScanSteps.{may_snap, may_compare, may_hop, snap_comes, check_comes, hop_comes}
use Rattle.mt_core.proofs.LookPoints.{search_nears, load_nears, confirm_nears, descent_nears}
use Rattle.mt_remove.specs.Writes.{is_remove}
use Rattle.mt_border.specs.declared.entry.Find.TheVariants as finds

-- a state that has made one more step, with this table
abbrev stepped : Core → Table → Core
stepped c table = record c { steps = c.steps + 1; table = table }

module _ (c now : Core) (o : ℕ) (is : c ≡ now) (h : StateInvariant c) (room : now.steps < 2 ^ 59) (op : Operation) (there : operation_at c.table o ≡ Some op) where
  -- where another operation is in the way, nothing happens
  pub blocked : IsFree op.walk.phase → (holder : ℕ) → IsInTheWay c.arena op.walk.phase op.walk (splits_of op.splits) op.removal (scan_of op.task op.scan) holder → (answer : Move)
      → answer ≡ Again holder → StepsOn now now o answer
  blocked free holder way answer again =
      let held = in_the_way c.arena op.walk.phase op.walk (splits_of op.splits) op.removal (scan_of op.task op.scan) holder way in
      let by = h.holders held.0 holder held.1 held.2 in
      let tells : Tells (shown c) (shown c) o (Again holder) = (
        refl,
        (view_of op, shown_there c.table o op there, free_unfinished op.walk.phase free),
        record {
          other = λ same. holds_nothing c (shown now) o (ap shown is) h room op there free held.0 held.1 (held.2 ∙ ap Some same);
          unfinished = (view_of by.0, shown_there c.table holder by.0 by.1, holder_open by.0.walk.phase by.0 held.0 by.2);
          op = view_of op;
          there = shown_there c.table o op there;
          holds = way;
        },
      ) in
      subst (λ (a : Move). StepsOn now now o a) (sym again) (record { tells = subst (λ (x : Core). Tells (shown x) (shown x) o (Again holder)) is tells; nears = tt; leads = tt })

  -- the table with the operation's walk and its outcome
  abbrev led : Walk → Option Outcome → Table
  led w told = set c.table o (Some (noted (moved op (c.steps + 1) w) told))

  -- what a step gives that leaves all nodes as they were: the invariant, and what it answers
  abbrev StepGives : Table → Move → Type 0
  StepGives table answer = IsSound c.arena (stepped c table) × StepsOn now (stepped c table) o answer

  -- the walk comes to the next point
  abbrev BringsOn : Walk → Type 0
  BringsOn w = (height made : ℕ) → IsAtPoint height made c.arena op.walk op.splits → IsAtPoint height (made + 1) c.arena w op.splits

  -- and so it does where it removes
  abbrev BringsRemoval : Walk → Option Outcome → Type 0
  BringsRemoval w told = is_remove (ask op.task) ≡ true → (height made : ℕ) → IsRemovalAt height made c.arena op.walk op.outcome op.removal
      → IsRemovalAt height (made + 1) c.arena w told op.removal

  -- or where it scans
  abbrev BringsScan : Walk → Type 0
  BringsScan w = is_scan (ask op.task) ≡ true → (height trees made : ℕ) → IsScanAt height trees made c.arena op.walk op.scan.stop op.task.key
      → IsScanAt height trees (made + 1) c.arena w op.scan.stop op.task.key

  -- no get scans, and none removes
  get_scans : (p : Phase) → op.walk.phase ≡ p → (IsOfKind p op.walk.aim → op.walk.aim ≡ aims.Read) → (w : Walk) → BringsScan w
  get_scans p at_p reads w scans =
      let always = (h.ops o op there).always in
      let gets = get_of (ask op.task) op.walk.aim always.aim (reads (subst (λ (q : Phase). IsOfKind q op.walk.aim) at_p always.kind)) in
      absurd (both_ways _ (get_no_scan (ask op.task) gets) scans)

  reads_get : (p : Phase) → op.walk.phase ≡ p → (IsOfKind p op.walk.aim → op.walk.aim ≡ aims.Read) → (w : Walk) (told : Option Outcome) → BringsRemoval w told
  reads_get p at_p reads w told removes =
      let always = (h.ops o op there).always in
      let gets = get_of (ask op.task) op.walk.aim always.aim (reads (subst (λ (q : Phase). IsOfKind q op.walk.aim) at_p always.kind)) in
      absurd (both_ways _ (get_no_remove (ask op.task) gets) removes)

  -- where the table of phases leads it
  abbrev GoesOn : Phase → Walk → Type 0
  GoesOn p w = LeadsTo p c.arena c.arena o (c.steps + 1) op.task.key op.outcome (splits_of op.splits) op.removal (no_step op) op.walk w

  led_over : (w : Walk) (told : Option Outcome) → IsOver c.table (led w told) o (noted (moved op (c.steps + 1) w) told)
  led_over w told = record { is = refl; there = set_is c.table o (noted (moved op (c.steps + 1) w) told) op there }

  moved_gives : (w : Walk) (told : Option Outcome) → Gives (shown now) (stepped c (led w told)) o false → BringsOn w → BringsRemoval w told → BringsScan w → GoesOn op.walk.phase w
      → (table : Table) → table ≡ led w told → StepGives table Moved
  moved_gives w told g brings removes scans goes table e = subst (λ (t : Table). StepGives t Moved) (sym e) (
    sound_by c now (stepped c (led w told)) o false is g,
    record {
      tells = g.1;
      nears = subst (λ (x : Core). Nears x (stepped c (led w told)) o Moved) is nears;
      leads = leads_over c o h op there op.walk.phase refl now is c.arena c.tape c.accounts (led w told) _ (led_over w told) w goes refl refl;
    },
  )
    where
      nears : Nears c (stepped c (led w told)) o Moved
      nears =
          let after = noted (moved op (c.steps + 1) w) told in
          nears_by c (stepped c (led w told)) o op after there (set_is c.table o after op there) (λ free. free) refl
          (λ height made point. point_first height (made + 1) c.arena w op.splits after.walk.first (brings height made point))
          (λ is height made r. removal_first height (made + 1) c.arena w told op.removal after.walk.first (removes is height made r))
          (λ is height trees made r. scan_first height trees (made + 1) after.walk.first c.arena w op.scan.stop op.task.key (scans is height trees made r))

  done_gives : (w : Walk) (told : Option Outcome) → Gives (shown now) (stepped c (led w told)) o true → GoesOn op.walk.phase w → (table : Table)
      → table ≡ led w told → StepGives table DoneMove
  done_gives w told g goes table e = subst (λ (t : Table). StepGives t DoneMove) (sym e) (
    sound_by c now (stepped c (led w told)) o true is g,
    record {
      tells = g.1;
      nears = tt;
      leads = leads_over c o h op there op.walk.phase refl now is c.arena c.tape c.accounts (led w told) _ (led_over w told) w goes refl refl;
    },
  )

  goes_at : (p : Phase) → op.walk.phase ≡ p → (w : Walk) → GoesOn p w → GoesOn op.walk.phase w
  goes_at p at_p w = subst (λ (q : Phase). GoesOn q w) (sym at_p)

  -- what is kept of an operation that goes down
  pub descent_kept : IsDescent op.walk.phase → IsKept c.arena (past_of c) op.task.key None op.walk
  descent_kept descent = (way_of op.walk.phase descent c o op (h.ops o op there).kept).kept

  -- a step down
  pub descent_gives : (w : Walk) → IsDescent op.walk.phase → Descends op.walk w → Learns c.arena op.walk w → ((past : Past) → IsKept c.arena past op.task.key None w)
      → BringsOn w → BringsRemoval w op.outcome → BringsScan w → GoesOn op.walk.phase w → (table : Table) → table ≡ set c.table o (Some (moved op (c.steps + 1) w)) → StepGives table Moved
  descent_gives w descent goes learns kept brings = moved_gives w op.outcome (descend_done c (shown now) o (ap shown is) h room op there w descent goes learns kept) brings

  -- what is kept of an operation that is to search
  pub search_kept : op.walk.phase ≡ Search → IsAtBorder c.arena op.task.key op.walk
  search_kept at_search =
      let way : IsOnItsWay c op = subst (λ (p : Phase). IsKeptAt p c o op) at_search (h.ops o op there).kept in
      subst (λ (p : Phase). KeptAt p c.arena (past_of c) op.task.key None op.walk) at_search way.kept

  -- of one that is to load, which is a get
  pub load_kept : op.walk.phase ≡ Load → WalksLoad c.arena (past_of c) op.task.key op.walk
  load_kept at_load =
      let loading : IsAtLoad c op = subst (λ (p : Phase). IsKeptAt p c o op) at_load (h.ops o op there).kept in
      subst (λ (p : Phase). KeptAt p c.arena (past_of c) op.task.key None op.walk) at_load loading.way.kept

  pub load_gets : op.walk.phase ≡ Load → is_get (ask op.task) ≡ true
  load_gets at_load =
      let always = (h.ops o op there).always in
      get_of (ask op.task) op.walk.aim always.aim (subst (λ (p : Phase). IsOfKind p op.walk.aim) at_load always.kind)

  pub asked_columns : HasColumns (ask op.task)
  asked_columns = (h.ops o op there).always.columns

  -- and of one that is to confirm what it took
  confirming : op.walk.phase ≡ Confirm → (row : Option Stamped) × WalksConfirm c.arena (past_of c) op.task.key row op.walk
  confirming at_confirm =
      let k : IsAtConfirm c op = subst (λ (p : Phase). IsKeptAt p c o op) at_confirm (h.ops o op there).kept in
      (k.row, subst (λ (p : Phase). KeptAt p c.arena (past_of c) op.task.key k.row op.walk) at_confirm k.kept)

  pub confirm_kept : op.walk.phase ≡ Confirm → IsAtBorder c.arena op.task.key op.walk
  confirm_kept at_confirm = (confirming at_confirm).1.at_border

  -- a search that found nothing
  pub search_gives_missing : IsArena c.arena.nodes c.arena.trees → (at_search : op.walk.phase ≡ Search) → (w : Walk)
      → (found : (f : Find) × FindsIn (at c.arena op.walk.place.node) op.task.key op.walk.layer f × (w ≡ after_search f op.walk (c.steps + 1)))
      → ((past : Past) (row : Option Stamped) → AreStamped past c.arena → IsNow past (c.steps + 1) c.arena → op.walk.first ≤ c.steps + 1 → IsKept c.arena past op.task.key row w)
      → w.phase ≡ Confirm
      → (told : Outcome) → told ≡ record { reply = Absent; at = c.steps + 1 } → (table : Table) → table ≡ led w (Some told) → StepGives table Moved
  search_gives_missing arena at_search w found kept confirms told says table e =
      moved_gives w (Some (record { reply = Absent; at = c.steps + 1 })) (search_missing c (shown now) o (ap shown is) h room arena op there at_search w found.0 found.1 found.2 kept confirms)
      (λ height made point. search_nears c.arena op.task.key op.walk w found.0 (c.steps + 1) at_search found.1 found.2 height made op.splits point)
      (reads_get Search at_search (λ kind. kind) w (Some (record { reply = Absent; at = c.steps + 1 })))
      (get_scans Search at_search (λ kind. kind) w)
      (goes_at Search at_search w found)
      table (e ∙ ap (λ (x : Outcome). led w (Some x)) says)

  -- a search that found a slot
  pub search_gives_found : IsArena c.arena.nodes c.arena.trees → (at_search : op.walk.phase ≡ Search) → (w : Walk)
      → (found : (f : Find) × FindsIn (at c.arena op.walk.place.node) op.task.key op.walk.layer f × (w ≡ after_search f op.walk (c.steps + 1)))
      → ((past : Past) (row : Option Stamped) → AreStamped past c.arena → IsNow past (c.steps + 1) c.arena → op.walk.first ≤ c.steps + 1 → IsKept c.arena past op.task.key row w)
      → w.phase ≢ Confirm
      → (table : Table) → table ≡ set c.table o (Some (moved op (c.steps + 1) w)) → StepGives table Moved
  search_gives_found arena at_search w found kept other =
      moved_gives w op.outcome (search_found c (shown now) o (ap shown is) h room arena op there at_search w found.0 found.1 found.2 kept (loads found.0 found.2))
      (λ height made point. search_nears c.arena op.task.key op.walk w found.0 (c.steps + 1) at_search found.1 found.2 height made op.splits point)
      (reads_get Search at_search (λ kind. kind) w op.outcome)
      (get_scans Search at_search (λ kind. kind) w)
      (goes_at Search at_search w found)
    where
      loads : (f : Find) → w ≡ after_search f op.walk (c.steps + 1) → w.phase ≡ Load
      loads finds.Missing is_after = absurd (other (ap (λ (x : Walk). x.phase) is_after))
      loads (finds.Slot slot OtherLong) is_after = absurd (other (ap (λ (x : Walk). x.phase) is_after))
      loads (finds.Slot slot ThisKey) is_after = ap (λ (x : Walk). x.phase) is_after
      loads (finds.Slot slot ToTree) is_after = ap (λ (x : Walk). x.phase) is_after

  -- a get that has confirmed what it took
  pub confirm_gives_done : (at_confirm : op.walk.phase ≡ Confirm) → IsStable (at c.arena op.walk.place.node).version → (w : Walk)
      → Continues op.walk w → Confirms (at c.arena op.walk.place.node) op.walk w
      → ((past : Past) (row : Option Stamped) → WalksConfirm c.arena past op.task.key row op.walk → IsKept c.arena past op.task.key row w) → w.phase ≡ Done
      → (table : Table) → table ≡ set c.table o (Some (moved op (c.steps + 1) w)) → StepGives table DoneMove
  confirm_gives_done at_confirm stable w same confirms kept done =
      done_gives w op.outcome (confirm_done c (shown now) o (ap shown is) h room op there at_confirm w same confirms kept done) (goes_at Confirm at_confirm w (stable, confirms))

  -- or goes on its way
  pub confirm_gives_back : (at_confirm : op.walk.phase ≡ Confirm) → IsStable (at c.arena op.walk.place.node).version → (w : Walk)
      → Continues op.walk w → Confirms (at c.arena op.walk.place.node) op.walk w
      → ((past : Past) (row : Option Stamped) → WalksConfirm c.arena past op.task.key row op.walk → IsKept c.arena past op.task.key row w) → w.phase ≢ Done
      → (table : Table) → table ≡ led w None → StepGives table Moved
  confirm_gives_back at_confirm stable w same confirms kept other =
      moved_gives w None (confirm_back c (shown now) o (ap shown is) h room op there at_confirm w same confirms kept other)
      (λ height made point. let k = confirming at_confirm in confirm_nears c.arena (past_of c) op.task.key k.0 op.walk w (h.ops o op there).always.stored at_confirm k.1 confirms other height made op.splits point)
      (reads_get Confirm at_confirm (λ kind. kind) w None)
      (get_scans Confirm at_confirm (λ kind. kind) w)
      (goes_at Confirm at_confirm w (stable, confirms))

  -- a load
  pub load_gives : IsArena c.arena.nodes c.arena.trees → (at_load : op.walk.phase ≡ Load) → (after : Operation) → TellsLoaded c.arena (c.steps + 1) op after
      → (table : Table) → table ≡ led after.walk after.outcome → (answer : Move) → answer ≡ ending after.walk.phase → StepGives table answer
  load_gives arena at_load after t table e answer ends = elim t.told [
    | inl (same, shows) ↦ taken same shows
    | inr (same, some, says) ↦ stopped same some says
  ]
    where
      same_now : Continues op.walk t.walk
      same_now = record { aim = ap (λ (x : Walk). x.aim) t.loads.is; first = ap (λ (x : Walk). x.first) t.loads.is }

      taken : after.walk ≡ t.walk → ShowsTaken op t.row t.walk after.outcome → StepGives table answer
      taken same shows =
          subst (StepGives table) (sym (ends ∙ ap (λ (x : Walk). ending x.phase) same ∙ ap (λ (x : Walk). ending x.phase) t.loads.is))
          (moved_gives t.walk after.outcome
          (load_taken c (shown now) o (ap shown is) h room arena op there at_load t.walk t.row after.outcome t.loads shows same_now
          (λ past loading. kept_loads c.arena op.task.key op.walk t.walk past t.row loading t.loads))
          (λ height made point. load_nears c.arena op.task.key op.walk t.walk t.row arena (load_kept at_load).at_border at_load t.loads height made op.splits point)
          (reads_get Load at_load (λ kind. kind) t.walk after.outcome)
          (get_scans Load at_load (λ kind. kind) t.walk)
          (goes_at Load at_load t.walk (record { row = t.row; taken = t.walk; loads = t.loads; goes = inl refl }))
          table (e ∙ ap (λ (x : Walk). led x after.outcome) same))

      stopped : after.walk ≡ record t.walk { phase = Done } → t.row ≢ None → Says after.outcome NoMemory (c.steps + 1) → StepGives table answer
      stopped same some says =
          let walk : Walk = record t.walk { phase = Done } in
          subst (StepGives table) (sym (ends ∙ ap (λ (x : Walk). ending x.phase) same))
          (done_gives walk (Some (record { reply = NoMemory; at = c.steps + 1 }))
          (load_stopped c (shown now) o (ap shown is) h room arena op there at_load walk refl (record { aim = same_now.aim; first = same_now.first }))
          (goes_at Load at_load walk (record { row = t.row; taken = t.walk; loads = t.loads; goes = inr (some, refl) }))
          table (e ∙ ap (λ (x : Walk). led x after.outcome) same ∙ ap (led walk) says))

  -- what the step of a body gives, by what the body tells
  abbrev Comes : (Operation → Operation → Type 0) → Type 0
  Comes Tells =
      (after : Operation) → Tells op after → (table : Table) → table ≡ set c.table o (Some (counted after (c.steps + 1) op.walk.first)) → (answer : Move) → answer ≡ ending after.walk.phase → StepGives table answer

  -- the table that it makes of an operation that has walked on, with this outcome or none
  led_table : (after : Operation) (w : Walk) (told : Option Outcome) → after ≡ led_to op w told → (table : Table)
      → table ≡ set c.table o (Some (counted after (c.steps + 1) op.walk.first)) → table ≡ led w told
  led_table after w told others table e = e ∙ ap (λ (x : Operation). set c.table o (Some (counted x (c.steps + 1) op.walk.first))) others

  -- a body that goes down
  pub descent_comes : IsArena c.arena.nodes c.arena.trees → IsDescent op.walk.phase → Comes (TellsDescended c.arena)
  descent_comes arena descent after t table e answer ends =
      subst (StepGives table) (sym (ends ∙ way_moves after.walk.phase t.goes.on_way))
      (descent_gives after.walk descent t.goes
      (descent_learns c.arena (past_of c) op.task.key o (c.steps + 1) op.outcome (splits_of op.splits) op.removal (no_step op) op.walk after.walk arena descent (descent_kept descent)
      (t.leads o (c.steps + 1) op.outcome (splits_of op.splits) op.removal (no_step op)))
      t.kept (descent_nears c.arena op.walk after.walk op.splits arena descent t.nears)
      (λ removes. descent_removal c.arena op.walk after.walk op.outcome op.removal arena descent t.nears)
      (λ scans height trees made r. down_nears c.arena arena height trees made op.walk after.walk op.scan.stop op.task.key descent t.goes.kind
      (t.goes.same.aim ∙ (h.ops o op there).always.aim ∙ scan_aim (ask op.task) scans) t.nears r)
      (t.leads o (c.steps + 1) op.outcome (splits_of op.splits) op.removal (no_step op)) table (led_table after after.walk op.outcome t.others table e))

  -- one that searches
  pub search_comes : IsArena c.arena.nodes c.arena.trees → op.walk.phase ≡ Search → Comes (TellsSearched c.arena (c.steps + 1))
  search_comes arena at_search after t table e answer ends = elim (confirm_or after.walk.phase) [
    | inl confirms ↦
        subst (StepGives table) (sym (ends ∙ ap ending confirms))
        (search_gives_missing arena at_search after.walk t.found t.kept confirms (record { reply = Absent; at = c.steps + 1 }) refl table
        (led_table after after.walk (Some (record { reply = Absent; at = c.steps + 1 })) (t.missing confirms) table e))
    | inr other ↦
        subst (StepGives table) (sym (ends ∙ search_moves t.found.0 t.found.2))
        (search_gives_found arena at_search after.walk t.found t.kept other table (led_table after after.walk op.outcome (t.there other) table e))
  ]
    where
      search_moves : (f : Find) → after.walk ≡ after_search f op.walk (c.steps + 1) → ending after.walk.phase ≡ Moved
      search_moves finds.Missing is_after = ap (λ (x : Walk). ending x.phase) is_after
      search_moves (finds.Slot slot OtherLong) is_after = ap (λ (x : Walk). ending x.phase) is_after
      search_moves (finds.Slot slot ThisKey) is_after = ap (λ (x : Walk). ending x.phase) is_after
      search_moves (finds.Slot slot ToTree) is_after = ap (λ (x : Walk). ending x.phase) is_after

  -- one that loads
  pub load_comes : IsArena c.arena.nodes c.arena.trees → op.walk.phase ≡ Load → Comes (TellsLoaded c.arena (c.steps + 1))
  load_comes arena at_load after t table e answer ends =
      load_gives arena at_load after t table (led_table after after.walk after.outcome t.others table e) answer ends

  -- and one that confirms what was taken
  pub confirm_comes : op.walk.phase ≡ Confirm → Comes (TellsConfirmed c.arena)
  confirm_comes at_confirm after t table e answer ends = elim (done_or after.walk.phase) [
    | inl done ↦
        subst (StepGives table) (sym (ends ∙ ap ending done))
        (confirm_gives_done at_confirm t.stable after.walk t.same t.confirms t.kept done table (led_table after after.walk op.outcome (t.done done) table e))
    | inr other ↦
        subst (StepGives table) (sym (ends ∙ other_moves after.walk.phase other))
        (confirm_gives_back at_confirm t.stable after.walk t.same t.confirms t.kept other table (led_table after after.walk None (t.goes_on other) table e))
  ]

  -- who is about to look may do so
  may_descend : IsDescent op.walk.phase → MayDescend c.arena op
  may_descend phase = record { phase = phase; kept = (past_of c, descent_kept phase) }

  pub may_look : (p : Phase) → op.walk.phase ≡ p → MayLook p c.arena op
  may_look Enter e = may_descend (subst IsDescent (sym e) tt)
  may_look Pick e = may_descend (subst IsDescent (sym e) tt)
  may_look Child e = may_descend (subst IsDescent (sym e) tt)
  may_look Verify e = may_descend (subst IsDescent (sym e) tt)
  may_look Forward e = may_descend (subst IsDescent (sym e) tt)
  may_look Search e = record { phase = e; kept = search_kept e }
  may_look Load e = record { phase = e; get = load_gets e; columns = asked_columns; kept = (past_of c, load_kept e) }
  may_look Confirm e = record { phase = e; kept = confirm_kept e }
  may_look Snap e = may_snap c now o is h room op there e
  may_look Check e = may_compare c now o is h room op there e
  may_look Hop e = may_hop c now o is h room op there e
  may_look _ e = tt

  -- a look is made by an operation with a step left
  pub look_unfinished : (p : Phase) → op.walk.phase ≡ p → (step : ℕ) (after : Operation) → LooksAt p c.arena step op Step after → is_unfinished op ≡ true
  look_unfinished Done e step after t = absurd (let no_step : ◌≡◌ {A = Made} Step Nothing = t.0 in cc)
  look_unfinished _ e step after t = ap (λ (q : Phase). not (is_done q)) e

  -- it leaves the number of the first step
  loaded_first : (step : ℕ) (after : Operation) → TellsLoaded c.arena step op after → after.walk.first ≡ op.walk.first
  loaded_first step after t = walk_first t.told ∙ ap (λ (w : Walk). w.first) t.loads.is
    where
      walk_first : ((after.walk ≡ t.walk) × ShowsTaken op t.row t.walk after.outcome) ⊎ ((after.walk ≡ record t.walk { phase = Done }) × (t.row ≢ None) × Says after.outcome NoMemory step)
          → after.walk.first ≡ t.walk.first
      walk_first (inl told) = ap (λ (w : Walk). w.first) told.0
      walk_first (inr told) = ap (λ (w : Walk). w.first) told.0

  stopped_first : (step : ℕ) (after : Operation) → IsStopped step op after → after.walk.first ≡ op.walk.first
  stopped_first step after t = ap (λ (x : Operation). x.walk.first) t.is

  pub look_first : (p : Phase) (step : ℕ) (after : Operation) → LooksAt p c.arena step op Step after → after.walk.first ≡ op.walk.first
  look_first Enter step after t = t.goes.same.first
  look_first Pick step after t = t.goes.same.first
  look_first Child step after t = t.goes.same.first
  look_first Verify step after t = t.goes.same.first
  look_first Forward step after t = t.goes.same.first
  look_first Search step after t = t.same.first
  look_first Load step after t = loaded_first step after t
  look_first Confirm step after t = t.same.first
  look_first Snap step after t = elim t [ inl sees ↦ sees.same.first | inr stops ↦ stopped_first step after stops.1 ]
  look_first Check step after t = elim t [ inl compares ↦ compares.same.first | inr stops ↦ stopped_first step after stops.1 ]
  look_first Hop step after t = t.same.first
  look_first _ step after t = absurd (let no_step : ◌≡◌ {A = Made} Step Nothing = t.0 in cc)

  -- and its birth
  descended_birth : (after : Operation) → TellsDescended c.arena op after → after.birth ≡ op.birth
  descended_birth after t = ap (λ (x : Operation). x.birth) t.others

  searched_birth : (step : ℕ) (after : Operation) → TellsSearched c.arena step op after → after.birth ≡ op.birth
  searched_birth step after t = elim (confirm_or after.walk.phase) [
    | inl confirms ↦ ap (λ (x : Operation). x.birth) (t.missing confirms)
    | inr other ↦ ap (λ (x : Operation). x.birth) (t.there other)
  ]

  confirmed_birth : (after : Operation) → TellsConfirmed c.arena op after → after.birth ≡ op.birth
  confirmed_birth after t = elim (done_or after.walk.phase) [
    | inl done ↦ ap (λ (x : Operation). x.birth) (t.done done)
    | inr other ↦ ap (λ (x : Operation). x.birth) (t.goes_on other)
  ]

  stopped_birth : (step : ℕ) (after : Operation) → IsStopped step op after → after.birth ≡ op.birth
  stopped_birth step after t = ap (λ (x : Operation). x.birth) t.is

  compared_birth : (step : ℕ) (after : Operation) → TellsCompared c.arena step op after → after.birth ≡ op.birth
  compared_birth step after (inl t) = elim (done_or after.walk.phase) [
    | inl done ↦ ap (λ (x : Operation). x.birth) (t.ends done)
    | inr other ↦ ap (λ (x : Operation). x.birth) (t.goes_on other)
  ]
  compared_birth step after (inr t) = stopped_birth step after t.1

  step_birth : (p : Phase) (step : ℕ) (after : Operation) → LooksAt p c.arena step op Step after → after.birth ≡ op.birth
  step_birth Enter step after t = descended_birth after t
  step_birth Pick step after t = descended_birth after t
  step_birth Child step after t = descended_birth after t
  step_birth Verify step after t = descended_birth after t
  step_birth Forward step after t = descended_birth after t
  step_birth Search step after t = searched_birth step after t
  step_birth Load step after t = ap (λ (x : Operation). x.birth) t.others
  step_birth Confirm step after t = confirmed_birth after t
  step_birth Snap step after t = elim t [ inl sees ↦ ap (λ (x : Operation). x.birth) sees.others | inr stops ↦ stopped_birth step after stops.1 ]
  step_birth Check step after t = compared_birth step after t
  step_birth Hop step after t = ap (λ (x : Operation). x.birth) t.others
  step_birth _ step after t = absurd (let no_step : ◌≡◌ {A = Made} Step Nothing = t.0 in cc)

  -- and leaves it as it was where none is made
  looks_leave : (Tells : Operation → Operation → Type 0) (made : Made) (after : Operation) → made ≢ Step → Looks c.arena Tells op made after → after ≡ op
  looks_leave Tells Step after other t = absurd (other refl)
  looks_leave Tells (Blocked holder) after other t = t.1
  looks_leave Tells NoMemoryMade after other t = absurd t
  looks_leave Tells Nothing after other t = absurd t

  pub look_leaves : (p : Phase) (step : ℕ) (made : Made) (after : Operation) → made ≢ Step → LooksAt p c.arena step op made after → after ≡ op
  look_leaves Enter step made after other t = looks_leave (TellsDescended c.arena) made after other t
  look_leaves Pick step made after other t = looks_leave (TellsDescended c.arena) made after other t
  look_leaves Child step made after other t = looks_leave (TellsDescended c.arena) made after other t
  look_leaves Verify step made after other t = looks_leave (TellsDescended c.arena) made after other t
  look_leaves Forward step made after other t = looks_leave (TellsDescended c.arena) made after other t
  look_leaves Search step made after other t = looks_leave (TellsSearched c.arena step) made after other t
  look_leaves Load step made after other t = looks_leave (TellsLoaded c.arena step) made after other t
  look_leaves Confirm step made after other t = looks_leave (TellsConfirmed c.arena) made after other t
  look_leaves Snap step made after other t = looks_leave (TellsSnapped c.arena step) made after other t
  look_leaves Check step made after other t = looks_leave (TellsCompared c.arena step) made after other t
  look_leaves Hop step made after other t = looks_leave (TellsHopped c.arena) made after other t
  look_leaves _ step made after other t = t.1

  -- so it leaves its birth, whatever comes of it
  pub look_birth : (p : Phase) (step : ℕ) (made : Made) (after : Operation) → LooksAt p c.arena step op made after → after.birth ≡ op.birth
  look_birth p step Step after t = step_birth p step after t
  look_birth p step (Blocked holder) after t = ap (λ (x : Operation). x.birth) (look_leaves p step (Blocked holder) after (λ e. absurd (cc)) t)
  look_birth p step NoMemoryMade after t = ap (λ (x : Operation). x.birth) (look_leaves p step NoMemoryMade after (λ e. absurd (cc)) t)
  look_birth p step Nothing after t = ap (λ (x : Operation). x.birth) (look_leaves p step Nothing after (λ e. absurd (cc)) t)

  -- no look is refused memory so that it stands
  pub look_granted : (p : Phase) (step : ℕ) (after : Operation) → LooksAt p c.arena step op NoMemoryMade after → ⊥
  look_granted Enter step after t = t
  look_granted Pick step after t = t
  look_granted Child step after t = t
  look_granted Verify step after t = t
  look_granted Forward step after t = t
  look_granted Search step after t = t
  look_granted Load step after t = t
  look_granted Confirm step after t = t
  look_granted Snap step after t = t
  look_granted Check step after t = t
  look_granted Hop step after t = t
  look_granted _ step after t = let none : ◌≡◌ {A = Made} NoMemoryMade Nothing = t.0 in cc

  -- what a look gives that was made
  pub look_comes : IsArena c.arena.nodes c.arena.trees → (p : Phase) → op.walk.phase ≡ p → Comes (λ x after. LooksAt p c.arena (c.steps + 1) x Step after)
  look_comes arena Enter e = descent_comes arena (subst IsDescent (sym e) tt)
  look_comes arena Pick e = descent_comes arena (subst IsDescent (sym e) tt)
  look_comes arena Child e = descent_comes arena (subst IsDescent (sym e) tt)
  look_comes arena Verify e = descent_comes arena (subst IsDescent (sym e) tt)
  look_comes arena Forward e = descent_comes arena (subst IsDescent (sym e) tt)
  look_comes arena Search e = search_comes arena e
  look_comes arena Load e = load_comes arena e
  look_comes arena Confirm e = confirm_comes e
  look_comes arena Snap e = snap_comes c now o is h room op there arena e
  look_comes arena Check e = check_comes c now o is h room op there e arena
  look_comes arena Hop e = hop_comes c now o is h room op there arena e
  look_comes arena _ e = λ after t. absurd (let no_step : ◌≡◌ {A = Made} Step Nothing = t.0 in cc)

  -- where somebody is in the way, that one is told
  pub look_blocked : (p : Phase) → op.walk.phase ≡ p → (step holder : ℕ) (after : Operation) → LooksAt p c.arena step op (Blocked holder) after
      → (answer : Move) → answer ≡ Again holder → StepsOn now now o answer
  look_blocked Enter e step holder after t = blocked (subst IsFree (sym e) tt) holder t.0
  look_blocked Pick e step holder after t = blocked (subst IsFree (sym e) tt) holder t.0
  look_blocked Child e step holder after t = blocked (subst IsFree (sym e) tt) holder t.0
  look_blocked Verify e step holder after t = blocked (subst IsFree (sym e) tt) holder t.0
  look_blocked Forward e step holder after t = blocked (subst IsFree (sym e) tt) holder t.0
  look_blocked Search e step holder after t = blocked (subst IsFree (sym e) tt) holder t.0
  look_blocked Load e step holder after t = blocked (subst IsFree (sym e) tt) holder t.0
  look_blocked Confirm e step holder after t = blocked (subst IsFree (sym e) tt) holder t.0
  look_blocked Snap e step holder after t = blocked (subst IsFree (sym e) tt) holder t.0
  look_blocked Check e step holder after t = blocked (subst IsFree (sym e) tt) holder t.0
  look_blocked Hop e step holder after t = blocked (subst IsFree (sym e) tt) holder t.0
  look_blocked _ e step holder after t = λ answer again. absurd (let no_block : ◌≡◌ {A = Made} (Blocked holder) Nothing = t.0 in cc)

  -- and a step that is left to others is no look
  pub look_left : (p : Phase) (step : ℕ) (after : Operation) → LooksAt p c.arena step op Nothing after → IsNoLook p
  look_left Enter step after t = absurd t
  look_left Pick step after t = absurd t
  look_left Child step after t = absurd t
  look_left Verify step after t = absurd t
  look_left Forward step after t = absurd t
  look_left Search step after t = absurd t
  look_left Load step after t = absurd t
  look_left Confirm step after t = absurd t
  look_left Snap step after t = absurd t
  look_left Check step after t = absurd t
  look_left Hop step after t = absurd t
  look_left _ step after t = tt

  -- a look at the operation as it is, by what a call tells that was lent it
  pub look_told : (step : ℕ) (made : Made) (shown left after : Operation) → shown ≡ op → left ≡ after → LooksAt shown.walk.phase c.arena step shown made left → LooksAt op.walk.phase c.arena step op made after
  look_told step made shown left after shows leaves met = subst (λ (x : Operation). LooksAt x.walk.phase c.arena step x made after) shows (subst (λ (y : Operation). LooksAt shown.walk.phase c.arena step shown made y) leaves met)

-- no first step has the number of the next step
pub are_before : (c : Core) (h : StateInvariant c) → AreBefore c.table (c.steps + 1)
are_before c h q op there = let k = (h.ops q op there).always in omega (arith, k.order, k.made)
