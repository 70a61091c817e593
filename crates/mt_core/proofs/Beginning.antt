-- A begin that was not refused: the invariant with an operation more, and what it tells: for `Inner::admit`.
use Rattle.std.proofs.Common.{◌≡◌, ◌≢◌, ℕ, ◌+◌, ◌≤◌, length, Option, None, Some, IsSome, Result, Ok, Err, refl, sym, ap, subst, ◌∙◌, arith}
use Rattle.std.proofs.lemmas.Option.{none-some}
use Rattle.std.specs.Option.{option_map}
use Rattle.mt_rows.specs.{declared.refusal.Refusal.Refusal, declared.refusal.Refusal.TheVariants.Memory, declared.tenants.Account.Account, Accounts.account_of}
use Rattle.mt_rows.specs.Rows.{Bytes}
use Rattle.mt_slices.specs.Keys.{IsStoredKey}
use Rattle.mt_arena.{specs.{Idle.AreRetired, Arena.{ArenaView, IsArena}}, proofs.Down.goes_on_top}
use Rattle.mt_descent.{specs.KeptBack.RemembersKept, proofs.KeptBack.kept_at_top}
use Rattle.mt_state.specs.KeptBack.{IsBackAt, IsKeptBack}
use Rattle.mt_operation.specs.{declared.operation.Operation.Operation, declared.walk.Walk.Walk, Tasks.ask, Operations.{OperationView, view_of, born}}
use Rattle.mt_operation.specs.{Tables.{Table, AreBornUpTo, op_at as operation_at}, declared.outcome.Outcome.Outcome, Phases.IsOfKind}
use Rattle.mt_descent.specs.KeptWalks.{GoesThrough, KeptAt}
use Rattle.mt_state.specs.{Views.{Core, StateView, shown, past_of}, KeptOperations.{IsBound, IsKeptAt, IsKeptOf, IsScanKept}, Steps.change_in}
use Rattle.mt_state.specs.{Invariant.{StateInvariant, one_if_prepared}, Begins.{Begins, begun}}
use Rattle.mt_state.proofs.Shown.{shown_at, shown_there}
use Rattle.mt_core.specs.{declared.answers.Ticket.Ticket, Admitted.{IsAdmitted, OpeningView, IsAccepted, TellsAdmitted, IsRefusedFor, RefusesOpening}}
use Rattle.mt_core.specs.Places.{HasPlaces, TakesPlace}
use Rattle.mt_core.proofs.{Reserving.{no_place, place_taken}, Tabling.{with_table, begun_sound}}
use Rattle.mt_operation.specs.Tables as tables

-- a stored key goes through the top tree
through_top : (v : ArenaView) (key : Bytes) → IsArena v.nodes v.trees → IsStoredKey key → GoesThrough v 0 0 key
through_top v key arena stored =
    let goes = goes_on_top v.nodes v.trees key arena stored in
    record {
      there = goes.there;
      unmade = λ q made. absurd (let no = sym goes.live ∙ made in cc);
      of_tree = goes.of_tree;
      begun = goes.begun;
    }

-- an opening's operation that a state accepts which shows this
module _ (c : Core) (now : StateView) (opening : OpeningView) (op : Operation) (is : shown c ≡ now) (accepted : IsAccepted now opening op) where
  module _ (h : StateInvariant c) (arena : IsArena c.arena.nodes c.arena.trees) (o : ℕ) (table : Table) (vacant : operation_at c.table o ≡ None) (there : operation_at table o ≡ Some (born op c.steps))
      (others : (q : ℕ) → q ≢ o → operation_at table q ≡ operation_at c.table q) where
    a : IsAdmitted op
    a = accepted.right.admitted

    -- what is shown of it, with its birth
    is_begun : view_of (born op c.steps) ≡ begun op.task.worker op.task.tenant (ask op.task) c.steps
    is_begun = ap (λ (v : OperationView). record v { birth = c.steps }) a.is_begun

    known_tenant : IsSome (account_of c.accounts op.task.tenant)
    known_tenant =
        subst (λ t. IsSome (account_of c.accounts t)) (sym accepted.right.tenant_is) (subst (λ (v : StateView). IsSome (account_of v.accounts opening.tenant)) (sym is) accepted.tenant)

    kept_begun : IsKeptOf (with_table c c.answers table) o (born op c.steps)
    kept_begun = record {
      always = record {
        stored = a.stored;
        tenant_is = a.tenant_is;
        owner = λ plain. a.owner;
        columns = a.columns;
        tenant = known_tenant;
        aim = ap (λ (w : Walk). w.aim) a.walk;
        kind = subst (λ (w : Walk). IsOfKind w.phase w.aim) (sym a.walk) tt;
        order = let first = ap (λ (w : Walk). w.first) a.walk in omega (arith, first);
        made = let last = ap (λ (v : OperationView). v.last) a.is_begun in omega (arith, last);
        born = omega arith;
        birth = λ begun. let first = ap (λ (w : Walk). w.first) a.walk in absurd (omega (arith, first, begun));
        floor = λ begun. let first = ap (λ (w : Walk). w.first) a.walk in absurd (omega (arith, first, begun));
        begun = λ other. absurd (other (ap (λ (w : Walk). w.phase) a.walk));
        short = a.short;
        counts = a.counts;
        light = λ none. ap (λ (v : OperationView). v.removal) a.is_begun;
      };
      kept = subst (λ p. IsKeptAt p (with_table c c.answers table) o (born op c.steps)) (sym (ap (λ (w : Walk). w.phase) a.walk)) (record {
        kept = subst (λ (w : Walk). KeptAt w.phase c.arena (past_of c) op.task.key None w) (sym a.walk) (through_top c.arena op.task.key arena a.stored);
        bound =
            subst (λ (told : Option Outcome). IsBound told (with_table c c.answers table) (born op c.steps)) (sym (ap (λ (v : OperationView). v.outcome) a.is_begun)) (ap (λ (v : OperationView). v.removal) a.is_begun);
        unprepared = a.unprepared;
      });
      unsplit = λ none. a.unsplit;
      placed = λ m made. absurd (none-some m (sym (ap change_in a.is_begun) ∙ made));
    }

    -- it has scanned nothing
    scan_begun : IsScanKept (with_table c c.answers table) (born op c.steps)
    scan_begun = record {
      fresh = λ none. ap (λ (v : OperationView). v.scan) a.is_begun;
      walked = λ begun. let first = ap (λ (w : Walk). w.first) a.walk in absurd (omega (arith, first, begun));
    }

    -- it remembers the top tree alone
    back_begun : AreRetired c.arena.nodes c.arena.trees c.arena.retired → IsKeptBack c.arena o (born op c.steps)
    back_begun retired = record {
      walk = subst (λ p. IsBackAt p c.arena (born op c.steps)) (sym (ap (λ (w : Walk). w.phase) a.walk))
          (subst (λ (w : Walk). RemembersKept c.steps c.arena w) (sym a.walk) (kept_at_top c.arena retired c.steps _ _ arena.forest.top.live));
      held = λ k within holds. let w = h.holders k o within holds in absurd (none-some w.0 (sym vacant ∙ w.1));
      cleans = λ t is. absurd (let none = sym (ap (λ (v : OperationView). v.removal.cleans) a.is_begun) ∙ is in cc);
    }

    -- the invariant with it
    pub begun_keeps : AreRetired c.arena.nodes c.arena.trees c.arena.retired → StateInvariant (with_table c c.answers table)
    begun_keeps retired =
        begun_sound c o (born op c.steps) table h vacant there others (ap (λ (w : Walk). w.first) a.walk) (ap (λ (w : Walk). one_if_prepared (Some (record op { walk = w }))) a.walk) kept_begun scan_begun (back_begun retired)

    -- and what is told of it
    pub begun_tells : (ticket : Ticket) → ticket.id ≡ o → TellsAdmitted now (shown (with_table c c.answers table)) opening (Ok ticket)
    begun_tells ticket ticket_is = (
      view_of op,
      accepted.made,
      subst (λ (v : StateView). Begins v (shown (with_table c c.answers table)) ticket.id op.task.worker op.task.tenant (ask op.task)) is
          (subst (λ i. Begins (shown c) (shown (with_table c c.answers table)) i op.task.worker op.task.tenant (ask op.task)) (sym ticket_is) (record {
            free = shown_at c.table o ∙ ap (option_map view_of) vacant;
            there = shown_there table o (born op c.steps) there ∙ ap Some is_begun;
            others = λ q other. shown_at table q ∙ ap (option_map view_of) (others q other) ∙ sym (shown_at c.table q);
            stands = refl;
          })),
    )

  -- where there was no place for it, it is refused for memory
  pub refused_for_memory : (told : Result Ticket Refusal) → told ≡ Err Memory → (tables.HasPlaces c.table 1 → ⊥) → RefusesOpening now opening told
  refused_for_memory told told_is none =
      subst (RefusesOpening now opening) (sym told_is) (subst (λ made. IsRefusedFor opening.tenant (account_of now.accounts opening.tenant) now made Memory) (sym accepted.made) (by_account (account_of now.accounts opening.tenant) accepted.tenant))
    where
      by_account : (account : Option Account) → IsSome account → IsRefusedFor opening.tenant account now (Ok (view_of op)) Memory
      by_account None some = absurd (cc)
      by_account (Some account) some = (accepted.steps, subst (λ v. HasPlaces v 1 → ⊥) is (no_place c none))

  -- else it takes one
  pub begun_takes : (table : Table) → tables.open_count table ≡ tables.open_count c.table + 1 → length c.table ≤ length table
      → TakesPlace now (shown (with_table c c.answers table))
  begun_takes table one more = subst (λ v. TakesPlace v (shown (with_table c c.answers table))) is (place_taken c table one more)

-- no operation of a state was begun after the steps that it has made
pub born_upto : (c : Core) → StateInvariant c → AreBornUpTo c.table c.steps
born_upto c h o op there = (h.ops o op there).always.born
