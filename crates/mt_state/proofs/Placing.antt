-- A step that places a change: what it leaves to others, and that the invariant stays: for Store, Publish, SplitMove and DropKey.
use Rattle.std.proofs.Common.{◌≡◌, ◌≢◌, ℕ, ◌+◌, ◌-◌, ◌<◌, ◌≤◌, Bool, true, false, cond, eqb, [], ◌∷◌, ◌++◌, length, set, Option, Some, IsSome, refl, sym, ap, subst, ◌∙◌, arith, inl}
use Rattle.std.proofs.{lemmas.Bool.{both_ways, eq-eqb, eqb-true}, lemmas.List.length-drop, lemmas.List.Elements.{All-push, Contains-push, Contains-append_left}}
use Rattle.std.specs.FinMap.{get, len, insert}
use Rattle.mt_rows.specs.{declared.reply.Reply.Reply, declared.tenants.Account.Account, Rows.Bytes, Stamps.{Stamped, stamp_in, written}, Commands.{key_of, IsKey}}
use Rattle.mt_rows.specs.{Maps.{reply_of, map_after, is_change, is_scan}, Accounts.{Accounts, account_of}, Tenants.{Contents, tenant_map}}
use Rattle.mt_border.specs.Contents.{owned}
use Rattle.mt_tape.specs.declared.entry.Entry.{Entry as Write}
use Rattle.mt_tape.specs.Histories.{IsNextWrite, with_write, written_key, contents_at, IsLegalTape, with_row, is_changed, after_of}
use Rattle.mt_tape.proofs.EntryLaws.{rises-push, last_step_over-push, is_changed-push, is_changed-push_other}
use Rattle.mt_tape.proofs.TapeLaws.{contents_at-push, legal-push, untouched-push, untouched-past_last, get-with_row_same, tenant_map-with_row, tenant_map-with_row_other}
use Rattle.mt_arena.specs.{Arena.{ArenaView, content_of, Guarantee}, Accesses.at}
use Rattle.mt_operation.specs.{declared.task.Task.Task, declared.operation.Operation.Operation, Tasks.ask, Operations.view_of, Phases.is_done}
use Rattle.mt_operation.specs.Tables.{op_at as operation_at}
use Rattle.mt_insert.specs.Puts.{IsPut, MeetsStamp, change_of, write_of}
use Rattle.mt_held.specs.Taping.{pushed}
use Rattle.mt_state.specs.{Views.{Core, shown, map_of, quota_of, granted_in, KeepsPast}, Notes.key_asked, Promises.{IsPlacing, IsAnswer}, Given.ChangesArena}
use Rattle.mt_state.specs.KeptOperations.{IsKeptOf, IsPlacedOnce}
use Rattle.mt_state.specs.Invariant.{IsStampOf, IsTape, AreStamps, IsCountedUpTo, HoldsAt, DeletedAreEmpty, StateInvariant, StateGuarantee, one_if_prepared}
use Rattle.mt_state.specs.{Moves.IsMove, Written.{row_left, change_kept}, KeptBack.{Retires, TakesLive}}
use Rattle.mt_state.proofs.{KeptBack.{BringsBack, own_back}}
use Rattle.mt_state.proofs.{Lawful.{scan_free, change_no_scan}, Telling.{logs_later, map_now}, Granted.quota_same, Writing.{row_left_put, change_kept_put}, Bound.put_no_remove}
use Rattle.mt_walks.specs.Walked.{IsWithin}
use Rattle.mt_remove.specs.Writes.{is_remove}

-- the accounts after the step: tenants and quotas stay, and each count is that of the pairs
pub record Counts (c : Core) (accounts : Accounts) (contents : Contents) : Type 0 where
  pub quotas : (t : ℕ) → granted_in (account_of accounts t) ≡ granted_in (account_of c.accounts t)
  pub there : (t : ℕ) → IsSome (account_of c.accounts t) → IsSome (account_of accounts t)
  pub counted : (t : ℕ) (a : Account) → account_of accounts t ≡ Some a → (a.count ≡ len (tenant_map t contents)) × (a.count ≤ a.quota)

-- an operation places its change by this write in the next step
pub record IsWriteOf (c : Core) (op : Operation) (write : Write) : Type 0 where
  pub step : write.step ≡ c.steps + 1
  pub worker : write.worker ≡ op.task.worker
  pub tenant : write.tenant ≡ op.task.tenant
  pub key : write.key ≡ key_of (ask op.task)
  pub owner : owned op.task.key ≡ (op.task.tenant, key_of (ask op.task))
  pub before : write.before ≡ get (content_of c.arena) (owned op.task.key)
  pub leaves : after_of write ≡ row_left write.step (ask op.task) write.before
  pub keeps : write.change ≡ change_kept (ask op.task) write.before
  pub was : is_remove (ask op.task) ≡ true → IsSome write.before

-- what the step leaves
abbrev pub placed_by : Core → ArenaView → Accounts → ℕ → Write → Operation → Core
placed_by c arena accounts o write after = record {
  steps = c.steps + 1;
  answers = c.answers;
  logs = c.logs;
  accounts = accounts;
  arena = arena;
  tape = pushed c.tape write;
  table = set c.table o (Some after);
}

-- what it makes of the arena and of the accounts
pub record Places (c : Core) (o : ℕ) (write : Write) (after : Operation) (arena : ArenaView) (accounts : Accounts) : Type 0 where
  pub changes : ChangesArena (shown c) o arena
  pub contents : content_of arena ≡ with_write (content_of c.arena) write
  pub stamps : AreStamps (placed_by c arena accounts o write after)
  pub versions : (k : ℕ) → k < length arena.nodes → IsCountedUpTo (c.steps + 1) (at arena k)
  pub deleted : DeletedAreEmpty arena
  pub taken_out : Retires c.steps c.arena.retired arena.retired
  pub takes : TakesLive o c.arena arena
  pub counts : Counts c accounts (content_of arena)

-- what it brings of its own operation
pub record IsPlacer (c new : Core) (o : ℕ) (before after : Operation) : Type 0 where
  pub there : operation_at c.table o ≡ Some before
  pub unfinished : is_done before.walk.phase ≡ false
  pub task : after.task ≡ before.task
  pub scan : after.scan ≡ before.scan
  pub held : (k : ℕ) → k < length new.arena.nodes → (at new.arena k).holder ≡ Some o → HoldsAt after.walk.phase after k
  pub kept : IsKeptOf new o after
  pub back : BringsBack c new.arena before after
  pub reserved : c.tape.reserved - 1 + one_if_prepared (Some before) ≡ c.tape.reserved + one_if_prepared (Some after)

-- a task that is the same is asked the same
same_asked : (t u : Task) → t ≡ u → t ≡ record u { key = t.key }
same_asked t u same = ap (λ (x : Task). record x { key = t.key }) same

-- the write of a step that places a change, and the tape with it
module _ (c : Core) (before : Operation) (h : StateInvariant c) (write : Write) (is : IsWriteOf c before write) where
  -- the write is that of the operation's key
  pub key_is : written_key write ≡ owned before.task.key
  key_is = (λ i. (is.tenant i, is.key i)) ∙ sym is.owner

  pub is_next : IsNextWrite c.tape.floor c.tape.entries (content_of c.arena) write
  is_next = record { later = let step = is.step in omega (arith, h.tape.made, step); before = ap (get (content_of c.arena)) key_is ∙ sym is.before }

  -- what stood untouched at another key stands so
  pub beside_write : (q : ℕ × Bytes) (s : ℕ) → q ≢ owned before.task.key → IsStampOf c.steps c.tape q s → IsStampOf (c.steps + 1) (pushed c.tape write) q s
  beside_write q s other w = (
    omega (arith, w.0),
    untouched-push c.tape.entries write q s w.1 (λ is. other (sym is ∙ key_is)),
    λ lt. let wrote = w.2 lt in (wrote.0, Contains-append_left c.tape.entries (write ∷ []) wrote.0 wrote.1, wrote.2, wrote.3),
  )

  -- and no key was touched after the step
  pub at_write : IsStampOf (c.steps + 1) (pushed c.tape write) (owned before.task.key) (c.steps + 1)
  at_write = (
    omega arith,
    untouched-past_last c.tape.floor (c.tape.entries ++ write ∷ []) (owned before.task.key) (c.steps + 1)
        (rises-push c.tape.floor c.tape.entries write h.tape.rises is_next.later)
        (let step = is.step in omega (arith, last_step_over-push c.tape.floor c.tape.entries write, step)),
    λ lt. (write, Contains-push c.tape.entries write, is.step, key_is),
  )

module _ (c : Core) (o : ℕ) (before after : Operation) (arena : ArenaView) (accounts : Accounts) (h : StateInvariant c) (wrote : Write) (is : IsWriteOf c before wrote) (p : Places c o wrote after arena accounts) where
  abbrev pub new : Core
  new = placed_by c arena accounts o wrote after

  past_stands : (n : ℕ) → n ≤ c.steps → contents_at new.tape.entries (content_of arena) n ≡ contents_at c.tape.entries (content_of c.arena) n
  past_stands n upto = ap (λ (all : Contents). contents_at (c.tape.entries ++ wrote ∷ []) all n) p.contents
      ∙ contents_at-push c.tape.floor n c.tape.entries (content_of c.arena) wrote (is_next c before h wrote is) (let step = is.step in omega (arith, upto, step))

  pub wrote_grows : KeepsPast (shown c) (shown new)
  wrote_grows = record {
    steps = omega arith;
    quotas = p.counts.quotas;
    maps = λ t m le. ap (tenant_map t) (past_stands m le);
    changes = λ m le. is_changed-push_other m c.tape.entries wrote (let step = is.step in omega (arith, le, step));
  }

  pub wrote_guarantee : StateGuarantee c new o
  wrote_guarantee = record {
    arena = p.changes;
    grows = wrote_grows;
    past = record { steps = omega arith; same = λ n from upto. past_stands n upto };
    writes = λ e there. Contains-append_left c.tape.entries (wrote ∷ []) e there;
    accounts = p.counts.there;
    floor = refl;
  }

  -- the key that it writes is a user's, since it was stored
  wrote_key : operation_at c.table o ≡ Some before → IsKey wrote.key
  wrote_key there =
      let behind = ap (λ q. length q.1) (key_is c before h wrote is) ∙ length-drop 4 before.task.key in
      omega (arith, behind, (h.ops o before there).always.stored.within)

  wrote_tape : operation_at c.table o ≡ Some before → IsTape new
  wrote_tape there = record {
    rises = rises-push c.tape.floor c.tape.entries wrote h.tape.rises (is_next c before h wrote is).later;
    made = let step = is.step in omega (arith, last_step_over-push c.tape.floor c.tape.entries wrote, step);
    legal =
        subst (λ (all : Contents). IsLegalTape (c.tape.entries ++ wrote ∷ []) all) (sym p.contents) (legal-push c.tape.floor c.tape.entries (content_of c.arena) wrote h.tape.rises (is_next c before h wrote is) h.tape.legal);
    keys = All-push (λ e. IsKey e.key) c.tape.entries wrote h.tape.keys (wrote_key there);
    logs = logs_later c.logs c.tape.floor c.steps h.tape.logs;
  }

  pub wrote_move : IsPlacer c new o before after → IsMove c new o before after
  wrote_move own = record {
    there = own.there;
    unfinished = own.unfinished;
    asked = same_asked after.task before.task own.task;
    scan = inl (own.task, own.scan);
    table = refl;
    number = refl;
    answers = refl;
    leaves = wrote_guarantee;
    tape = wrote_tape own.there;
    stamps = p.stamps;
    versions = p.versions;
    held = own.held;
    counts = p.counts.counted;
    kept = own.kept;
    reserved = own.reserved;
    deleted = p.deleted;
    late = p.taken_out.upto;
    remembered = own_back c o before h own.there arena p.changes p.taken_out p.takes after own.back;
  }

  -- the tenant's map just before the step
  map_before : map_of (shown new) before.task.tenant (c.steps + 1 - 1) ≡ tenant_map before.task.tenant (content_of c.arena)
  map_before =
      ap (map_of (shown new) before.task.tenant) (omega arith) ∙ wrote_grows.maps before.task.tenant c.steps (omega arith) ∙ map_now c h.tape before.task.tenant c.steps (omega arith)

  contents_are : content_of arena ≡ with_row (content_of c.arena) (before.task.tenant, key_of (ask before.task)) (after_of wrote)
  contents_are = p.contents ∙ ap (λ q. with_row (content_of c.arena) q (after_of wrote)) (key_is c before h wrote is ∙ is.owner)

  module _ (reply : Reply) (changes : is_change reply ≡ true)
      (told : reply ≡ reply_of (quota_of (shown c) before.task.tenant) (ask before.task) (tenant_map before.task.tenant (content_of c.arena)))
      (makes : map_after (quota_of (shown c) before.task.tenant) (c.steps + 1) (ask before.task) (tenant_map before.task.tenant (content_of c.arena)) ≡ with_row (tenant_map before.task.tenant (content_of c.arena)) (key_of (ask before.task)) (after_of wrote)) where
    -- the reply is right at the step
    pub wrote_right : 0 < after.walk.first → after.walk.first ≤ c.steps + 1 → after.last ≡ c.steps + 1 → after.task ≡ before.task
        → IsAnswer (shown new) (view_of after) (record { reply = reply; at = c.steps + 1 })
    wrote_right begun since last task = record {
      begun = begun;
      since = since;
      upto = omega (arith, last);
      lawful = scan_free (map_of (shown new) after.task.tenant) (IsWithin after.walk.first after.last) (ask after.task) reply
          (ap (λ (t : Task). is_scan (ask t)) task
          ∙ change_no_scan (quota_of (shown c) before.task.tenant) (ask before.task) (tenant_map before.task.tenant (content_of c.arena)) (sym (ap is_change told) ∙ changes));
      placed = λ real plain. record {
        changes = λ e. (
          ap (is_changed (c.tape.entries ++ wrote ∷ [])) (sym is.step) ∙ is_changed-push c.tape.entries wrote,
          told
              ∙ ap (λ q. reply_of q (ask before.task) (tenant_map before.task.tenant (content_of c.arena))) (sym (quota_same (account_of accounts before.task.tenant) (account_of c.accounts before.task.tenant) (p.counts.quotas before.task.tenant)))
              ∙ ap (reply_of (quota_of (shown new) before.task.tenant) (ask before.task)) (sym map_before)
              ∙ ap (λ (t : Task). reply_of (quota_of (shown new) t.tenant) (ask t) (map_of (shown new) t.tenant (c.steps + 1 - 1))) (sym task),
        );
        looks = λ e. absurd (both_ways _ e changes);
      };
    }

    made : (t : ℕ) (b : Bool) → eqb t before.task.tenant ≡ b → tenant_map t (content_of arena)
        ≡ cond (eqb t before.task.tenant) (map_after (quota_of (shown c) t) (c.steps + 1) (ask before.task) (tenant_map t (content_of c.arena))) (tenant_map t (content_of c.arena))
    made t true e =
        let own : t ≡ before.task.tenant = eqb-true t before.task.tenant e in
        ap (tenant_map t) contents_are
        ∙ subst (λ u. tenant_map u (with_row (content_of c.arena) (before.task.tenant, key_of (ask before.task)) (after_of wrote)) ≡ map_after (quota_of (shown c) u) (c.steps + 1) (ask before.task) (tenant_map u (content_of c.arena))) (sym own)
        (tenant_map-with_row before.task.tenant (content_of c.arena) (key_of (ask before.task)) (after_of wrote) ∙ sym makes)
        ∙ sym (ap (λ b. cond b (map_after (quota_of (shown c) t) (c.steps + 1) (ask before.task) (tenant_map t (content_of c.arena))) (tenant_map t (content_of c.arena))) e)
    made t false e =
        ap (tenant_map t) contents_are
        ∙ tenant_map-with_row_other t before.task.tenant (content_of c.arena) (key_of (ask before.task)) (after_of wrote) (λ own. both_ways _ e (eq-eqb t before.task.tenant (sym own)))
        ∙ sym (ap (λ b. cond b (map_after (quota_of (shown c) t) (c.steps + 1) (ask before.task) (tenant_map t (content_of c.arena))) (tenant_map t (content_of c.arena))) e)

    -- and the step is a placing one
    pub is_writing : after.outcome ≡ Some (record { reply = reply; at = c.steps + 1 }) → IsPlacing (shown c) (shown new) (view_of before) (view_of after)
    is_writing outcome = record {
      reply = reply;
      told = told;
      changes = changes;
      outcome = outcome;
      makes = λ t. made t (eqb t before.task.tenant) refl;
      writes = ap (λ (all : Contents). get all (key_asked (view_of before))) contents_are
          ∙ get-with_row_same (content_of c.arena) (before.task.tenant, key_of (ask before.task)) (after_of wrote)
          ∙ is.leaves ∙ ap (λ number. row_left number (ask before.task) wrote.before) is.step
          ∙ ap (row_left (c.steps + 1) (ask before.task)) (is.before ∙ ap (get (content_of c.arena)) is.owner);
      entry = wrote;
      pushes = refl;
      step = is.step;
      worker = is.worker;
      tenant = is.tenant;
      key_is = is.key;
    }

  -- the change has its one write in the tape, over a row with the stamp that it asks for
  pub wrote_once : MeetsStamp (ask before.task) (stamp_in wrote.before) → after.task ≡ before.task → IsPlacedOnce new after (c.steps + 1)
  wrote_once met task = record {
    entry = wrote;
    there = Contains-push c.tape.entries wrote;
    step_is = is.step;
    worker = is.worker ∙ ap (λ (t : Task). t.worker) (sym task);
    tenant = is.tenant ∙ ap (λ (t : Task). t.tenant) (sym task);
    key_is = is.key ∙ ap (λ (t : Task). key_of (ask t)) (sym task);
    makes = subst (λ (t : Task). after_of wrote ≡ row_left wrote.step (ask t) wrote.before) (sym task) is.leaves;
    keeps = subst (λ (t : Task). wrote.change ≡ change_kept (ask t) wrote.before) (sym task) is.keeps;
    was = λ removes. is.was (ap (λ (t : Task). is_remove (ask t)) (sym task) ∙ removes);
    met = subst (λ (t : Task). MeetsStamp (ask t) (stamp_in wrote.before)) (sym task) met;
  }

-- what a put leaves by the next step over this row, or over none
abbrev pub put_over : Core → Operation → Option Stamped → Stamped
put_over c op before = written (c.steps + 1) (change_of (ask op.task)) before

-- what a put writes that places its change in the next step
abbrev pub next_write : Core → Operation → Write
next_write c op = write_of op.task (content_of c.arena) (c.steps + 1)

pub put_writes : (c : Core) (op : Operation) → IsPut op.task → IsWriteOf c op (next_write c op)
put_writes c op put = record {
  step = refl;
  worker = refl;
  tenant = refl;
  key = refl;
  owner = put.owner;
  before = refl;
  leaves = sym (row_left_put (c.steps + 1) op.task.request put.put_is (get (content_of c.arena) (owned op.task.key)));
  keeps = change_kept_put op.task.request put.put_is (get (content_of c.arena) (owned op.task.key));
  was = λ removes. absurd (both_ways _ (put_no_remove (ask op.task) put.put_is) removes);
}

-- what such a step leaves
abbrev pub placed : Core → ArenaView → Accounts → ℕ → Operation → Operation → Core
placed c arena accounts o before after = placed_by c arena accounts o (next_write c before) after

abbrev pub PlacesPair : Core → ℕ → Operation → Operation → ArenaView → Accounts → Type 0
PlacesPair c o before after arena accounts = Places c o (next_write c before) after arena accounts

module _ (c : Core) (before : Operation) (h : StateInvariant c) (put : IsPut before.task) where
  pub untouched_beside : (q : ℕ × Bytes) (s : ℕ) → q ≢ owned before.task.key → IsStampOf c.steps c.tape q s
      → IsStampOf (c.steps + 1) (pushed c.tape (next_write c before)) q s
  untouched_beside = beside_write c before h (next_write c before) (put_writes c before put)

  pub untouched_now : IsStampOf (c.steps + 1) (pushed c.tape (next_write c before)) (owned before.task.key) (c.steps + 1)
  untouched_now = at_write c before h (next_write c before) (put_writes c before put)

module _ (c : Core) (o : ℕ) (before after : Operation) (arena : ArenaView) (accounts : Accounts) (h : StateInvariant c) (put : IsPut before.task) (p : PlacesPair c o before after arena accounts) where
  abbrev write : Write
  write = next_write c before

  pub placed_move : IsPlacer c (placed c arena accounts o before after) o before after → IsMove c (placed c arena accounts o before after) o before after
  placed_move = wrote_move c o before after arena accounts h write (put_writes c before put) p

  abbrev pub row : Stamped
  row = put_over c before (get (content_of c.arena) (owned before.task.key))

  module _ (reply : Reply) (changes : is_change reply ≡ true)
      (told : reply ≡ reply_of (quota_of (shown c) before.task.tenant) (ask before.task) (tenant_map before.task.tenant (content_of c.arena)))
      (makes : map_after (quota_of (shown c) before.task.tenant) (c.steps + 1) (ask before.task) (tenant_map before.task.tenant (content_of c.arena)) ≡ insert (tenant_map before.task.tenant (content_of c.arena)) (key_of (ask before.task)) row) where
    pub placed_right : 0 < after.walk.first → after.walk.first ≤ c.steps + 1 → after.last ≡ c.steps + 1 → after.task ≡ before.task
        → IsAnswer (shown (placed c arena accounts o before after)) (view_of after) (record { reply = reply; at = c.steps + 1 })
    placed_right = wrote_right c o before after arena accounts h write (put_writes c before put) p reply changes told makes

    pub is_placing : after.outcome ≡ Some (record { reply = reply; at = c.steps + 1 })
        → IsPlacing (shown c) (shown (placed c arena accounts o before after)) (view_of before) (view_of after)
    is_placing = is_writing c o before after arena accounts h write (put_writes c before put) p reply changes told makes

  pub placed_once : MeetsStamp (ask before.task) (stamp_in (get (content_of c.arena) (owned before.task.key))) → after.task ≡ before.task
      → IsPlacedOnce (placed c arena accounts o before after) after (c.steps + 1)
  placed_once = wrote_once c o before after arena accounts h write (put_writes c before put) p
