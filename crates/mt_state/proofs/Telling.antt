-- What a step that was made may tell of itself: for all phases.
use Rattle.std.{proofs.Common.{◌≡◌, ℕ, ◌+◌, ◌<◌, ◌≤◌, Bool, true, List, Some, sym, ap, subst, ◌∙◌, arith}, specs.Prelude.{◌^◌}}
use Rattle.mt_rows.specs.Tenants.{tenant_map}
use Rattle.mt_tape.proofs.TapeLaws.{contents_at-now}
use Rattle.mt_arena.specs.Arena.{content_of}
use Rattle.mt_operation.specs.{declared.phase.Phase.Phase, declared.phase.Phase.TheVariants.Done, declared.operation.Operation.Operation, Operations.view_of}
use Rattle.mt_operation.specs.Phases.{is_done}
use Rattle.mt_state.specs.{Views.{StateView, Core, shown, map_of}, Promises.IsStep, KeptOperations.{HasAnswer, IsKeptAt}}
use Rattle.mt_state.specs.{Invariant.{AreLogs, IsTape, StateInvariant}, Moves.{IsMove, IsTold}, KeptBack.ArenaFacts}
use Rattle.mt_state.proofs.{Shown.{shown_table, shown_there, shown_set}, Moving.invariant_stays}

-- a step leaves the logs as they are
pub logs_later : (logs : List ℕ) (floor steps : ℕ) → AreLogs logs floor steps → AreLogs logs floor (steps + 1)
logs_later logs floor steps h = record { few = h.few; made = λ i d within. omega (arith, h.made i d within); reached = h.reached }

-- from the last step on a tenant's map is that of now
pub map_now : (c : Core) → IsTape c → (t m : ℕ) → c.steps ≤ m → map_of (shown c) t m ≡ tenant_map t (content_of c.arena)
map_now c tape t m le = ap (tenant_map t) (contents_at-now c.tape.floor m c.tape.entries (content_of c.arena) tape.rises (omega (arith, tape.made)))

-- what the step gives: a state with the invariant, as its arena has its own, and a step that may be told
abbrev pub Gives : StateView → Core → ℕ → Bool → Type 0
Gives now new o done = (ArenaFacts now.arena → ArenaFacts new.arena → StateInvariant new) × IsStep now (shown new) o done

-- who is done has an answer
answer_of : (c : Core) (o : ℕ) (op : Operation) (p : Phase) → IsKeptAt p c o op → is_done p ≡ true → HasAnswer c op
answer_of c o op Done h e = h
answer_of c o op _ h e = absurd (cc)

-- a step that brings what it has to, and tells what it did
pub gives : (now : StateView) (old new : Core) (o : ℕ) (before after : Operation) → shown old ≡ now → StateInvariant old → old.steps < 2 ^ 59
    → IsMove old new o before after → IsTold old new o before after → (done : Bool) → done ≡ is_done after.walk.phase → Gives now new o done
gives now old new o before after view h few m t done ends = (
  λ was are. invariant_stays old new o before after h m t few (subst (λ (v : StateView). ArenaFacts v.arena) (sym view) was) are,
  subst (λ v. IsStep v (shown new) o done) view (record {
    before = view_of before;
    after = view_of after;
    there = shown_there old.table o before m.there;
    unfinished = m.unfinished;
    moves = t.moves;
    notes = t.notes;
    table = ap shown_table m.table ∙ shown_set old.table o (Some after);
    number = m.number;
    answers = m.answers;
    logs = t.logs;
    grows = m.leaves.grows;
    arena = m.leaves.arena;
    touches = t.touches;
    effect = t.effect;
    ends = ends;
    answer = λ is. let w = answer_of new o after after.walk.phase m.kept.kept (sym ends ∙ is) in (w.outcome, w.told, w.right);
    present = λ tenant. map_now new m.tape tenant new.steps (omega arith);
    floor = m.leaves.floor;
    makes = t.makes;
  }),
)
