-- What a run of the only open operation leaves, and which answers it can't have: for `finish`.
use Rattle.std.proofs.Common.{◌≡◌, ◌≢◌, ℕ, zero, suc, ◌+◌, ◌≤◌, inl, inr, Bool, true, false, length, set, Option, Some, None, Ok, Err, is_some, refl, sym, ap, subst, ◌∙◌, arith}
use Rattle.std.proofs.{lemmas.Bool.cases_eq, lemmas.Option.same_Some, lemmas.List.Elements.All-contains}
use Rattle.mt_rows.specs.{Accounts.{Accounts, account_of}, Tenants.tenant_map}
use Rattle.mt_tape.{specs.{declared.entry.Entry.{Entry as TapeEntry}, Tapes.last_write}, proofs.EntryLaws.all_upto_last}
use Rattle.mt_runs.specs.declared.event.Answer.{Answer}
use Rattle.mt_arena.specs.Arena.{ArenaView, content_of}
use Rattle.mt_operation.specs.{declared.outcome.Outcome.Outcome, declared.phase.Phase.Phase, declared.phase.Phase.TheVariants.{InteriorSplit, RootGrow}}
use Rattle.mt_operation.specs.{Operations.OperationView, Phases.{is_unplaced, IsToGrow}}
use Rattle.mt_operation.proofs.Tables.{set_there, set_none}
use Rattle.mt_state.specs.declared.moves.Move.TheVariants.{Again, NoMemory as NoMemoryMove, Done as DoneMove, Spent as SpentMove, NoSuch}
use Rattle.mt_state.specs.{Views.{StateView, Shown, contents_of, op_at, granted_in}, Steps.{change_in, told_change}, Promises.{IsStep, HasStep, IsPlacedToGrow}}
use Rattle.mt_state.specs.Begins.{Takes, IsEnded}
use Rattle.mt_state.proofs.HistoryChanges.{told_change-of}
use Rattle.mt_core.specs.{declared.answers.Ticket.Ticket, Alone.{IsChain, Runs, IsAlone, EndsAlone}, Rights.IsRightState, Tidies.Tidies}
use Rattle.mt_core.proofs.AloneRuns.{stepped, stays}
use Rattle.mt_alone.specs.{declared.runs.Unfinished.TheVariants.{Spent, Stuck}, Runs.{Keeps, IsIdle, IsOnly, IsSettled, TellsRun, Finishes}}

-- a state keeps what it keeps itself, and what two calls keep, both keep
pub keeps_same : (v : StateView) → Keeps v v
keeps_same v = record { steps = omega arith; nodes = omega arith; trees = omega arith; logs = refl; tenants = λ t. refl }

pub keeps_on : (u v w : StateView) → Keeps u v → Keeps v w → Keeps u w
keeps_on u v w h k = record {
  steps = omega (arith, h.steps, k.steps);
  nodes = omega (arith, h.nodes, k.nodes);
  trees = omega (arith, h.trees, k.trees);
  logs = k.logs ∙ h.logs;
  tenants = λ t. k.tenants t ∙ h.tenants t;
}

-- what is none is no value
no_value : {A : Type 0} {a : A} → ◌≡◌ {A = Option A} None (Some a) → ⊥
no_value e = cc

-- a step keeps what is to be kept
module _ (v w : StateView) (o : ℕ) (done : Bool) (s : IsStep v w o done) where
  step_keeps : Keeps v w
  step_keeps = record { steps = omega (arith, s.number); nodes = s.makes.nodes_stay; trees = s.makes.trees_stay; logs = s.logs; tenants = s.grows.quotas }

  -- and all other operations
  step_beside : (q : ℕ) → q ≢ o → op_at w.table q ≡ op_at v.table q
  step_beside q ne = ap (λ (t : Shown). op_at t q) s.table ∙ set_there v.table o q (Some s.after) ne

  -- one of an operation that places nothing any more leaves the contents
  step_settled : IsSettled v o → IsSettled w o × (contents_of w ≡ contents_of v)
  step_settled h =
      let same : h.op ≡ s.before = same_Some h.op s.before (sym h.there ∙ s.there) in
      let has : s.before.outcome ≡ Some h.told = ap (λ (x : OperationView). x.outcome) (sym same) ∙ h.has in
      let placed : is_unplaced s.before.phase ≡ false = ap (λ (x : OperationView). is_unplaced x.phase) (sym same) ∙ h.placed in
      let on : (is_unplaced s.after.phase ≡ false) × (s.after.outcome ≡ s.before.outcome) = stays v s.before s.before.phase s.after.phase s.after.outcome h.told has placed s.moves.follows s.notes in
      let was : change_in h.op ≡ change_in s.after = ap change_in same ∙ ap told_change (sym on.1) in (
        record { op = s.after; there = stepped v w o done s; placed = on.0; told = h.told; has = on.1 ∙ has; made = λ m e. omega (arith, h.made m (was ∙ e), s.number) },
        elim s.effect [
          | inl quiet ↦ quiet.contents
          | inr p ↦ absurd (omega (arith, h.made (v.steps + 1) (was ∙ ap told_change p.outcome ∙ told_change-of p.reply (v.steps + 1) p.changes)))
        ],
      )

-- what steps of one operation leave, none of which was its last
record IsCarried (old new : StateView) (o : ℕ) : Type 0 where
  pub keeps : Keeps old new
  pub unfinished : HasStep new o
  pub beside : (q : ℕ) → q ≢ o → op_at new.table q ≡ op_at old.table q
  pub settled : IsSettled old o → IsSettled new o × (contents_of new ≡ contents_of old)

carried : (made : ℕ) (old new : StateView) (o : ℕ) → HasStep old o → IsChain made old new o → IsCarried old new o
carried zero old new o has e = subst (λ (v : StateView). IsCarried old v o) (sym e) (record { keeps = keeps_same old; unfinished = has; beside = λ q ne. refl; settled = λ h. (h, refl) })
carried (suc made) old new o has (mid, chain, s) =
    let c = carried made old mid o has chain in
    record {
      keeps = keeps_on old mid new c.keeps (step_keeps mid new o false s);
      unfinished = (s.after, stepped mid new o false s, sym s.ends);
      beside = λ q ne. step_beside mid new o false s q ne ∙ c.beside q ne;
      settled = λ h.
          let was = c.settled h in
          let on = step_settled mid new o false s was.0 in
          (on.0, on.1 ∙ was.1);
    }

-- the only operation that is open is so after them
only_on : (old new : StateView) (o : ℕ) → IsOnly old o → IsCarried old new o → IsOnly new o
only_on old new o only c = record { unfinished = c.unfinished; others = λ q ne. c.beside q ne ∙ only.others q ne }

-- such a run answers no NoSuch, and not that another operation is in the way
pub not_absent : (old new : StateView) (o : ℕ) → IsOnly old o → Runs old new o NoSuch → ⊥
not_absent old new o only r = r.tells.1 (carried r.made old r.mid o only.unfinished r.chain).unfinished

pub not_held : (old new : StateView) (o holder : ℕ) → IsOnly old o → Runs old new o (Again holder) → ⊥
not_held old new o holder only r =
    let held = r.tells.2 in
    let c = carried r.made old r.mid o only.unfinished r.chain in
    no_value (sym (only.others holder held.other) ∙ sym (c.beside holder held.other) ∙ held.unfinished.1)

-- one that is done has an answer to be taken
pub is_ended : (old new : StateView) (o : ℕ) → Runs old new o DoneMove → IsEnded new.table o
is_ended old new o r = let s = r.tells in (s.after, stepped r.mid new o true s, sym s.ends)

-- which is taken, and the tape is tidied
module _ (old done taken new : StateView) (o : ℕ) (answer : Answer) (only : IsOnly old o) (r : Runs old done o DoneMove) (t : Takes done taken o answer) (tidied : Tidies taken new) where
  abbrev s : IsStep r.mid done o true
  s = r.tells

  abbrev c : IsCarried old r.mid o
  c = carried r.made old r.mid o only.unfinished r.chain

  arena_stands : new.arena ≡ done.arena
  arena_stands = tidied.leaves.arena ∙ ap (λ (v : StateView). v.arena) t.gone

  contents_stand : contents_of new ≡ contents_of done
  contents_stand = ap content_of arena_stands

  taken_keeps : Keeps done new
  taken_keeps = record {
    steps = omega (arith, tidied.leaves.steps, ap (λ (v : StateView). v.steps) t.gone);
    nodes = let e : length new.arena.nodes ≡ length done.arena.nodes = ap (λ (v : ArenaView). length v.nodes) arena_stands in omega (arith, e);
    trees = let e : length new.arena.trees ≡ length done.arena.trees = ap (λ (v : ArenaView). length v.trees) arena_stands in omega (arith, e);
    logs = tidied.leaves.logs ∙ ap (λ (v : StateView). v.logs) t.gone;
    tenants = λ n. ap (λ (a : Accounts). granted_in (account_of a n)) (tidied.leaves.accounts ∙ ap (λ (v : StateView). v.accounts) t.gone);
  }

  idle_now : IsIdle new
  idle_now q = ap (λ (x : Shown). op_at x q) (tidied.leaves.table ∙ ap (λ (v : StateView). v.table) t.gone) ∙ elim (cases_eq q o) [
    | inl same ↦ ap (op_at (set done.table o None)) same ∙ set_none done.table o
    | inr ne ↦ set_there done.table o q None ne ∙ step_beside r.mid done o true s q ne ∙ c.beside q ne ∙ only.others q ne
  ]

  told_now : (op : OperationView) → EndsAlone old done o op DoneMove → TellsRun old new op (Ok answer.reply)
  told_now op e =
      let same : e.after ≡ t.op = same_Some e.after t.op (sym e.there ∙ t.there) in
      let told : e.makes.told ≡ record { reply = answer.reply; at = answer.at } = same_Some e.makes.told (record { reply = answer.reply; at = answer.at }) (sym e.makes.has ∙ ap (λ (x : OperationView). x.outcome) same ∙ t.told.told) in
      let reply : e.makes.told.reply ≡ answer.reply = ap (λ (x : Outcome). x.reply) told in
      elim e.makes.outcome [
        | inl none ↦ inl (sym reply ∙ none.0, contents_stand ∙ none.1)
        | inr run ↦ inr (
          e.makes.told.at,
          record {
            since = run.since;
            upto = omega (arith, run.upto, taken_keeps.steps);
            told = sym reply ∙ run.told;
            makes = λ n. ap (tenant_map n) contents_stand ∙ run.makes n;
          },
        )
      ]

  pub finishes_done : ((op : OperationView) → IsAlone old o op → EndsAlone old done o op DoneMove) → Finishes old new o (Ok answer.reply)
  finishes_done alone = record {
    keeps = keeps_on old done new (keeps_on old r.mid done c.keeps (step_keeps r.mid done o true s)) taken_keeps;
    ends = idle_now;
    alone = λ op h. told_now op (alone op h);
    stands = λ h. let was = c.settled h in contents_stand ∙ (step_settled r.mid done o true s was.0).1 ∙ was.1;
    settled = λ h. tt;
  }

-- one for whose next step no number is left
pub finishes_spent : (old new : StateView) (ticket : Ticket) → IsOnly old ticket.id → Runs old new ticket.id SpentMove → ((op : OperationView) → IsAlone old ticket.id op → EndsAlone old new ticket.id op SpentMove)
    → Finishes old new ticket.id (Err (Spent ticket))
finishes_spent old new ticket only r alone =
    let o = ticket.id in
    let here = carried r.made old r.mid o only.unfinished r.chain in
    let c : IsCarried old new o = subst (λ (v : StateView). IsCarried old v o) (sym r.tells.0) here in
    record {
      keeps = c.keeps;
      ends = (refl, only_on old new o only c, ap (λ (v : StateView). v.steps) r.tells.0 ∙ r.tells.2);
      alone = λ op h. (alone op h).makes;
      stands = λ h. (c.settled h).1;
      settled = λ h. (c.settled h).0;
    }

to_grow_placed : (p : Phase) → IsToGrow p → is_unplaced p ≡ false
to_grow_placed InteriorSplit grows = refl
to_grow_placed RootGrow grows = refl
to_grow_placed _ grows = absurd grows

some_is : {A : Type 0} (x : Option A) → is_some x ≡ true → (y : A) × (x ≡ Some y)
some_is None e = absurd (cc)
some_is (Some y) e = (y, refl)

-- one that has placed its change, and finds no memory for a node
pub finishes_stuck : (old new : StateView) (ticket : Ticket) → IsOnly old ticket.id → Runs old new ticket.id NoMemoryMove → ((op : OperationView) → IsAlone old ticket.id op → EndsAlone old new ticket.id op NoMemoryMove)
    → IsRightState new → Finishes old new ticket.id (Err (Stuck ticket))
finishes_stuck old new ticket only r alone right =
    let o = ticket.id in
    let here = carried r.made old r.mid o only.unfinished r.chain in
    let c : IsCarried old new o = subst (λ (v : StateView). IsCarried old v o) (sym r.tells.0) here in
    let p : IsPlacedToGrow new o = subst (λ (v : StateView). IsPlacedToGrow v o) (sym r.tells.0) r.tells.1 in
    let told = some_is p.op.outcome p.told in
    let upto : (m : ℕ) → change_in p.op ≡ Some m → m ≤ new.steps = λ m e.
    let entry = (right.operations o p.op p.there).placed m e in
    let last : entry.entry.step ≤ last_write new.tape = All-contains (λ (x : TapeEntry). x.step ≤ last_write new.tape) new.tape.entries entry.entry (all_upto_last new.tape.floor new.tape.entries right.tape.rises) entry.there in
    omega (arith, last, entry.step_is, right.tape.made) in
    let settled : IsSettled new o = record { op = p.op; there = p.there; placed = to_grow_placed p.op.phase p.grows; told = told.0; has = told.1; made = upto } in
    record {
      keeps = c.keeps;
      ends = (refl, only_on old new o only c, settled, p);
      alone = λ op h. elim ((alone op h).makes.outcome) [
        | inl none ↦ inl none.1
        | inr run ↦ inr ((alone op h).makes.told.reply, (alone op h).makes.told.at, run)
      ];
      stands = λ h. (c.settled h).1;
      settled = λ h. settled;
    }
