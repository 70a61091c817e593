-- A step of an operation that holds nothing, which leaves all nodes as they were: for `State::descend`, `search`, `load` and `confirm`.
use Rattle.std.proofs.{Common.{◌≡◌, ℕ, ◌+◌, ◌<◌, ◌≤◌, inl, Bool, false, length, Option, Some, refl, sym, ap, subst, ◌∙◌, arith}, lemmas.Option.same_Some}
use Rattle.std.specs.Prelude.{◌^◌, if◌then◌else◌}
use Rattle.mt_tape.proofs.EntryLaws.{floor_upto_last}
use Rattle.mt_arena.{specs.{Arena.{ArenaView, Guarantee}, Accesses.at}, proofs.Guarantees.{guarantee_none, lost_all}}
use Rattle.mt_operation.specs.{declared.phase.Phase.Phase, declared.phase.Phase.TheVariants.Done, declared.walk.Walk.Walk, declared.outcome.Outcome.Outcome}
use Rattle.mt_operation.specs.{declared.operation.Operation.Operation, Operations.view_of}
use Rattle.mt_operation.specs.Phases.{is_done, MayFollow, IsOfKind, has_splits, Change, Kind, Ready, change_at, holds_of, is_ready, may_be_parts, row}
use Rattle.mt_operation.specs.Tables.{op_at as operation_at}
use Rattle.mt_state.specs.{Views.{StateView, Core, shown}, Steps.change_in, Notes.Notes, KeptOperations.{IsKeptAt, IsKeptOf}, KeptBack.{ArenaFacts, IsBackAt}}
use Rattle.mt_state.specs.Invariant.{IsTape, HoldsAt, StateInvariant, one_if_prepared, HoldsBy}
use Rattle.mt_state.proofs.{Quiet.{quiet, LeavesPairs, quiet_move, is_quiet}, Telling.{Gives, gives}, Moved.{went, open_moved, has_moved}, Growing.{makes_same, retires_same, changes_on}}
use Rattle.mt_operation.specs.Phases as kinds

-- the tape's floor is a step that was made
pub floor_made : (c : Core) → IsTape c → c.tape.floor ≤ c.steps
floor_made c tape = omega (arith, tape.made, floor_upto_last c.tape.floor c.tape.entries tape.rises)

-- nothing of an arena changes
pub nothing_changes : (o : ℕ) (v : ArenaView) → Guarantee o v v
nothing_changes o v = record {
  nodes = guarantee_none o v.nodes v.trees;
  points = record {
    previous = λ k j within there is free. is;
    parent = λ k j within there is free. is;
    new_previous = λ k j out within there is. absurd (omega arith);
    new_parent = λ k j out within there is. absurd (omega arith);
  };
  lost = lost_all v.nodes;
}

pub leaves_all : (c : Core) (o : ℕ) → StateInvariant c → LeavesPairs c o c.arena
leaves_all c o h = record {
  changes = changes_on c o c.arena refl refl (nothing_changes o c.arena) (retires_same c c.arena h.late refl);
  contents = refl;
  stood = λ k within counted. inl (record { there = within; counted = counted; prefix = refl; slots = λ i inside. (i, inside, refl) });
  versions = λ k within. let was = h.versions k within in record { inserts = omega (arith, was.inserts); splits = omega (arith, was.splits) };
  deleted = h.deleted;
  taken_out = retires_same c c.arena h.late refl;
  takes = λ k within holds. inl (within, inl holds);
  makes = makes_same c.arena c.arena refl refl;
}

-- an operation at this phase holds nothing, has nothing made ready, and has a step left
abbrev pub IsFreeBy : Kind → Type 0
IsFreeBy kinds.Descends = Unit {0}
IsFreeBy kinds.Reads = Unit {0}
IsFreeBy kinds.Scans = Unit {0}
IsFreeBy kinds.Locks = Unit {0}
IsFreeBy _ = ⊥

abbrev pub IsFree : Phase → Type 0
IsFree p = IsFreeBy (row p).kind

pub free_open : (p : Phase) → IsFree p → is_done p ≡ false
free_open Done f = absurd f
free_open _ f = refl

free_holds : (p : Phase) (op : Operation) (k : ℕ) → IsFree p → HoldsAt p op k → ⊥
free_holds p op k f holds = by (row p).kind f holds
  where
    by : (of : Kind) → IsFreeBy of → HoldsBy (holds_of of) op k → ⊥
    by kinds.Descends f holds = holds
    by kinds.Reads f holds = holds
    by kinds.Scans f holds = holds
    by kinds.Locks f holds = holds
    by _ f holds = absurd f

pub free_unsplit : (p : Phase) → IsFree p → has_splits p ≡ false
free_unsplit p f = by (row p).kind f
  where
    by : (of : Kind) → IsFreeBy of → may_be_parts (holds_of of) ≡ false
    by kinds.Descends f = refl
    by kinds.Reads f = refl
    by kinds.Scans f = refl
    by kinds.Locks f = refl
    by _ f = absurd f

-- who is free, or done, or is to judge, or has placed its change, has nothing made ready
abbrev pub IsUnreadyBy : Change → Type 0
IsUnreadyBy Ready = ⊥
IsUnreadyBy _ = Unit {0}

abbrev pub IsUnready : Phase → Type 0
IsUnready p = IsUnreadyBy (change_at (row p).kind)

abbrev readied : Change → ℕ
readied of = if is_ready of then 1 else 0

unready_by : (of : Change) → IsUnreadyBy of → readied of ≡ 0
unready_by Ready u = absurd u
unready_by _ u = refl

pub unready_none : (op : Operation) (p : Phase) → op.walk.phase ≡ p → IsUnready p → one_if_prepared (Some op) ≡ 0
unready_none op p is u = ap (λ (q : Phase). readied (change_at (row q).kind)) is ∙ unready_by (change_at (row p).kind) u

pub free_unready : (p : Phase) → IsFree p → IsUnready p
free_unready p f = by (row p).kind f
  where
    by : (of : Kind) → IsFreeBy of → IsUnreadyBy (change_at of)
    by kinds.Descends f = tt
    by kinds.Reads f = tt
    by kinds.Scans f = tt
    by kinds.Locks f = tt
    by _ f = absurd f

module _ (c : Core) (now : StateView) (o : ℕ) (is : shown c ≡ now) (h : StateInvariant c) (room : now.steps < 2 ^ 59) (op : Operation) (there : operation_at c.table o ≡ Some op) (free : IsFree op.walk.phase) where
  few : c.steps < 2 ^ 59
  few = subst (λ (v : StateView). v.steps < 2 ^ 59) (sym is) room

  -- it holds nothing
  pub holds_nothing : (k : ℕ) → k < length c.arena.nodes → (at c.arena k).holder ≡ Some o → ⊥
  holds_nothing k within held =
      let f = h.holders k o within held in
      let same = same_Some f.0 op (sym f.1 ∙ there) in
      free_holds op.walk.phase op k free (subst (λ (w : Operation). HoldsAt w.walk.phase w k) same f.2)

  -- what it leaves
  abbrev pub still : Walk → Option Outcome → Core
  still w told = quiet c c.arena c.tape.reserved o (went op (c.steps + 1) w told op.prepared)

  -- a step that leads it on so
  pub still_gives : (w : Walk) (told : Option Outcome) → MayFollow op.walk.phase w.phase → IsUnready w.phase → w.aim ≡ op.walk.aim
      → IsOfKind w.phase w.aim → change_in (view_of (went op (c.steps + 1) w told op.prepared)) ≡ change_in (view_of op)
      → Notes (shown c) (view_of op) op.walk.phase w.phase told
      → IsKeptAt w.phase (still w told) o (went op (c.steps + 1) w told op.prepared)
      → (ArenaFacts c.arena → IsBackAt w.phase c.arena (went op (c.steps + 1) w told op.prepared))
      → (done : Bool) → done ≡ is_done w.phase → Gives now (still w told) o done
  still_gives w told follows unready writes kind same notes kept back done ends =
      let after = went op (c.steps + 1) w told op.prepared in
      let k = h.ops o op there in
      let leaves = leaves_all c o h in
      let own : IsKeptOf (still w told) o after = record {
        always = open_moved c op k.always w (still w told) told op.prepared refl refl (λ t some. some) (floor_made c h.tape) writes kind;
        kept = kept;
        unsplit = λ none. k.unsplit (free_unsplit op.walk.phase free);
        placed = λ m placed. let once = k.placed m (sym same ∙ placed) in record {
          entry = once.entry;
          there = once.there;
          step_is = once.step_is;
          worker = once.worker;
          tenant = once.tenant;
          key_is = once.key_is;
          makes = once.makes;
          keeps = once.keeps;
          was = once.was;
          met = once.met;
        };
      } in
      gives now c (still w told) o op after is h few
      (quiet_move c o op after c.arena c.tape.reserved h leaves (record {
        there = there;
        unfinished = free_open op.walk.phase free;
        asked = refl;
        scan = inl (refl, refl);
        held = λ k within held. absurd (holds_nothing k within held);
        kept = own;
        back = record { birth = refl; walk = back; cleans = λ facts. (h.remembered o op there).cleans };
        reserved =
            let none = unready_none op op.walk.phase refl (free_unready op.walk.phase free) in let no = unready_none after w.phase refl unready in omega (arith, none, no);
      }))
      (record {
        logs = refl;
        moves = has_moved c op k.always w told op.prepared follows;
        notes = notes;
        touches = λ k within. inl refl;
        effect = inl (is_quiet c o op after c.arena c.tape.reserved h leaves same);
        makes = leaves.makes;
      })
      done ends
