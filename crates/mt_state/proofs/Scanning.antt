-- A step of a scan, which holds nothing and leaves all nodes as they were: for `State::snap`, `check` and `hop`.
use Rattle.std.proofs.Common.{◌≡◌, ℕ, ◌+◌, ◌<◌, inl, inr, Bool, true, false, List, Option, Some, None, refl, sym, ap, subst, ◌∙◌, arith}
use Rattle.std.proofs.lemmas.Bool.{both_ways}
use Rattle.std.specs.Prelude.{◌^◌}
use Rattle.mt_slices.specs.Keys.{IsStoredKey, tenant_of}
use Rattle.mt_rows.specs.{declared.command.Command.Command, declared.command.Command.TheVariants.{Get, Put, PutIf, Remove, Scan}, Rows.Bytes, Stamps.Stamped, Maps.is_scan}
use Rattle.mt_operation.specs.{declared.walk.Walk.Walk, declared.scan.Scan.{Scan as Memory}, declared.scan.Stop.Stop, declared.outcome.Outcome.Outcome}
use Rattle.mt_operation.specs.{declared.operation.Operation.Operation, Tasks.ask, Operations.{ScanView, view_of, scan_of, moved}}
use Rattle.mt_operation.specs.{Phases.{is_done, MayFollow, IsOfKind}, Tables.{op_at as operation_at}}
use Rattle.mt_descent.specs.Pasts.{Past, ExtendsPast}
use Rattle.mt_state.specs.{Views.{Core, shown, past_of}, Steps.{told_change, change_in}, Notes.Notes}
use Rattle.mt_state.specs.{KeptOperations.{HasScannedFor, KeepsScan, IsOpenOperation, IsKeptAt, IsKeptOf}, Invariant.StateInvariant}
use Rattle.mt_state.proofs.{Lawful.aim_scan, ScanKept.scanned_for_stays, Quiet.{quiet, quiet_move, is_quiet}, Telling.{Gives, gives}}
use Rattle.mt_state.specs.KeptBack.{ArenaFacts, IsBackAt}
use Rattle.mt_state.proofs.Moved.{open_moved, first_same}
use Rattle.mt_state.proofs.Still.{IsFree, IsUnready, floor_made, leaves_all, free_open, free_unsplit, free_unready, unready_none, holds_nothing}
use Rattle.mt_operation.specs.declared.walk.Aim.TheVariants as aims

-- a scan that has walked on by the step of this number, with this fence, this of what it remembers, and an outcome or none
abbrev pub went_scan : Operation → ℕ → Bytes → Walk → Memory → Option Outcome → Operation
went_scan op step key w scan told = record (moved op step w) { task = record op.task { key = key }; scan = scan; outcome = told }

-- what it has seen is none of what it has scanned
pub seen_aside : (command : Command) (past : Past) (first : ℕ) (s : ScanView) (seen : List (Bytes × Stamped)) (stop : Stop)
    → HasScannedFor command past first s → HasScannedFor command past first (record s { seen = seen; stop = stop })
seen_aside (Scan from after count columns) past first s seen stop h = record { stored = h.stored; walked = h.walked; behind = h.behind; few = h.few; short = h.short }
seen_aside (Get key columns) past first s seen stop h = tt
seen_aside (Put key change) past first s seen stop h = tt
seen_aside (PutIf key stamp change) past first s seen stop h = tt
seen_aside (Remove key) past first s seen stop h = tt

module _ (c : Core) (o : ℕ) (h : StateInvariant c) (few : c.steps < 2 ^ 59) (op : Operation) (there : operation_at c.table o ≡ Some op)
    (free : IsFree op.walk.phase) (scanning : op.walk.aim ≡ aims.Scan) where
  pub scan_open : IsOpenOperation c op
  scan_open = (h.ops o op there).always

  -- its command is a scan
  pub scans : is_scan (ask op.task) ≡ true
  scans = aim_scan (ask op.task) (sym scan_open.aim ∙ scanning)

  -- the past, as the next step leaves it
  abbrev pub next_past : Past
  next_past = past_of (quiet c c.arena c.tape.reserved o op)

  pub longer : ExtendsPast op.walk.first (past_of c) next_past
  longer = record { steps = omega arith; same = λ n from upto. refl }

  -- what it has done is kept in that
  pub still_scanned : 0 < op.walk.first → (w : Walk)
      → HasScannedFor (ask op.task) next_past (moved op (c.steps + 1) w).walk.first (scan_of op.task op.scan)
  still_scanned begun w =
      subst (λ first. HasScannedFor (ask op.task) next_past first (scan_of op.task op.scan)) (sym (first_same c op scan_open w begun))
      (scanned_for_stays (past_of c) next_past op.walk.first longer (ask op.task) (scan_of op.task op.scan)
      ((h.scans o op there).walked begun (free_open op.walk.phase free)))

  -- a step that leads it on so
  module _ (key : Bytes) (stored : IsStoredKey key) (same : tenant_of key ≡ tenant_of op.task.key) (w : Walk) (scan : Memory) (told : Option Outcome) where
    abbrev pub after : Operation
    after = went_scan op (c.steps + 1) key w scan told

    abbrev pub new : Core
    new = quiet c c.arena c.tape.reserved o after

    -- the scan, with that fence and what it remembers
    abbrev fenced : Operation
    fenced = record op { task = record op.task { key = key }; scan = scan }

    fenced_open : IsOpenOperation c fenced
    fenced_open = record {
      stored = stored;
      tenant_is = same ∙ scan_open.tenant_is;
      owner = λ plain. absurd (both_ways _ plain scans);
      columns = scan_open.columns;
      tenant = scan_open.tenant;
      aim = scan_open.aim;
      kind = scan_open.kind;
      order = scan_open.order;
      made = scan_open.made;
      born = scan_open.born;
      birth = scan_open.birth;
      floor = scan_open.floor;
      begun = scan_open.begun;
      short = scan_open.short;
      counts = scan_open.counts;
      light = scan_open.light;
    }

    pub scan_gives : MayFollow op.walk.phase w.phase → IsUnready w.phase → w.aim ≡ op.walk.aim → IsOfKind w.phase w.aim
        → op.outcome ≡ None → told_change told ≡ None → Notes (shown c) (view_of op) op.walk.phase w.phase told → IsKeptAt w.phase new o after
        → (ArenaFacts c.arena → IsBackAt w.phase c.arena after) → (is_done w.phase ≡ false → KeepsScan new after)
        → (done : Bool) → done ≡ is_done w.phase → Gives (shown c) new o done
    scan_gives follows unready aim kind untold no_change notes kept back brings done ends =
        let k = h.ops o op there in
        let leaves = leaves_all c o h in
        let same_change : change_in (view_of after) ≡ change_in (view_of op) = no_change ∙ sym (ap told_change untold) in
        let own : IsKeptOf new o after = record {
          always = open_moved c fenced fenced_open w new told op.prepared refl refl (λ t some. some) (floor_made c h.tape) aim kind;
          kept = kept;
          unsplit = λ none. k.unsplit (free_unsplit op.walk.phase free);
          placed = λ m placed. absurd (let no = sym no_change ∙ placed in cc);
        } in
        gives (shown c) c new o op after refl h few
        (quiet_move c o op after c.arena c.tape.reserved h leaves (record {
          there = there;
          unfinished = free_open op.walk.phase free;
          asked = refl;
          scan = inr brings;
          held = λ j within held. absurd (holds_nothing c (shown c) o refl h few op there free j within held);
          kept = own;
          back = record { birth = refl; walk = back; cleans = λ facts. (h.remembered o op there).cleans };
          reserved =
              let none = unready_none op op.walk.phase refl (free_unready op.walk.phase free) in
              let no = unready_none after w.phase refl unready in
              omega (arith, none, no);
        }))
        (record {
          logs = refl;
          moves = record { asked = record { worker = refl; tenant = refl; command = refl }; birth = refl; first = refl; last = refl; follows = follows };
          notes = notes;
          touches = λ j within. inl refl;
          effect = inl (is_quiet c o op after c.arena c.tape.reserved h leaves same_change);
          makes = leaves.makes;
        })
        done ends
