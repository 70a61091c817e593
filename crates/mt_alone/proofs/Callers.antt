-- What a caller over one state answers, by what the runs of its commands leave: for `Alone` and its private functions.
use Rattle.std.proofs.Common.{◌≡◌, ◌≢◌, ℕ, ◌<◌, inl, inr, Bool, true, false, cond, eqb, length, Option, Some, None, Result, Ok, Err, is_some, refl, sym, ap, subst, ◌∙◌, arith}
use Rattle.std.proofs.lemmas.Bool.{eqb-true}
use Rattle.std.specs.Prelude.{◌^◌, IsSome}
use Rattle.mt_rows.specs.{declared.command.Command.Command, declared.reply.Reply.Reply, declared.refusal.Refusal.Refusal, declared.tenants.Account.Account}
use Rattle.mt_rows.specs.{Accounts.{Accounts, account_of}, Maps.{reply_of, map_after}, Tenants.{Contents, tenant_map}}
use Rattle.mt_runs.specs.Placings.{Maps}
use Rattle.mt_caller.specs.{declared.caller.CallerFault.CallerFault, declared.caller.CallerFault.TheVariants.{Refused, Stuck}}
use Rattle.mt_arena.specs.{Arena.ArenaView, Accesses.at}
use Rattle.mt_operation.specs.Operations.{OperationView}
use Rattle.mt_state.specs.{Views.{StateView, contents_of, quota_in, quota_of, granted, granted_in}, Begins.{Begins, begun, new_state}, Promises.IsPlacedToGrow}
use Rattle.mt_state.specs.Refused.{IsAdmissible, IsRefusal}
use Rattle.mt_state.proofs.HistoryStart.{content-new, tenant_map-empty}
use Rattle.mt_core.specs.{declared.answers.Ticket.Ticket, Alone.{IsAlone, IsRun, MayHaveRun}, Rights.IsRightState}
use Rattle.mt_alone.specs.{declared.runs.Unfinished.Unfinished, TenantMaps.{TenantMaps, tenant_maps, fresh_maps, with_map, after_command, Applies, GivesNumbers, MayApply, MapsRefusal, MapsAnswer}}
use Rattle.mt_alone.specs.Runs.{Keeps, IsIdle, IsOnly, IsSettled, TellsRun, Finishes}
use Rattle.mt_alone.specs.Callers.{maps_in, AreOpen, LeavesStuck, ClearsTo, Clears, Answers}
use Rattle.mt_alone.proofs.RunLemmas.{keeps_same, keeps_on}
use mathlib.Core.Path.{fun_ext}
use Rattle.mt_rows.specs.declared.refusal.Refusal.TheVariants as refusals
use Rattle.mt_alone.specs.declared.runs.Unfinished.TheVariants as unfinished

no_value : {A : Type 0} {a : A} → ◌≡◌ {A = Option A} None (Some a) → ⊥
no_value e = cc

-- a tenant that is there has a quota
has_quota : (v : StateView) (tenant : ℕ) → IsSome (account_of v.accounts tenant) → (quota : ℕ) × (granted v tenant ≡ Some quota) × (quota_of v tenant ≡ quota)
has_quota v tenant some = known (account_of v.accounts tenant) some
  where
    known : (a : Option Account) → IsSome a → (quota : ℕ) × (granted_in a ≡ Some quota) × (quota_in a ≡ quota)
    known None e = absurd (cc)
    known (Some a) e = (a.quota, refl, refl)

-- the maps are those that they were where the contents are
same_maps : (old new : StateView) (opened : Option ℕ) → Keeps old new → contents_of new ≡ contents_of old → GivesNumbers (maps_in old opened) (maps_in new opened)
same_maps old new opened k same = (
  k.steps,
  ap (λ (q : ℕ → Option ℕ). tenant_maps q (λ t. tenant_map t (contents_of new)) opened new.steps) (fun_ext k.tenants)
      ∙ ap (λ (x : Contents). tenant_maps (granted old) (λ t. tenant_map t x) opened new.steps) same,
)

-- a command that is stuck is the only one that is open
still_open : (v : StateView) (o : ℕ) (ticket : Ticket) → ticket.id ≡ o → IsOnly v o → IsSettled v o → AreOpen v (Some ticket)
still_open v o ticket same only settled = (subst (IsOnly v) (sym same) only, subst (IsSettled v) (sym same) settled)

-- a begin that is refused
refused_for : (v : StateView) (tenant quota : ℕ) (command : Command) (refusal : Refusal) → IsSome (account_of v.accounts tenant) → IsRefusal v tenant command refusal
    → MapsRefusal tenant quota (maps_in v (Some tenant)) command refusal (maps_in v (Some tenant))
refused_for v tenant quota command (refusals.NoTenant named) there is = absurd (let none = ap is_some is.1 in cc)
refused_for v tenant quota command refusals.Spent there is = (is.1, is.2, inr (omega arith, refl))
refused_for v tenant quota command refusals.Memory there is = (is.1, (omega arith, refl))
refused_for v tenant quota command _ there is = (is.1, (omega arith, refl))

pub answers_refused : (v : StateView) (stuck : Option Ticket) (tenant : ℕ) (command : Command) (refusal : Refusal) → IsSome (account_of v.accounts tenant) → AreOpen v stuck → (v.steps ≢ 2 ^ 59 → stuck ≡ None)
    → IsRefusal v tenant command refusal → Answers v v tenant command (Err (Refused refusal)) stuck
answers_refused v stuck tenant command refusal there alone free is = record {
  keeps = keeps_same v;
  alone = alone;
  leaves = free;
  by_maps = let q = has_quota v tenant there in (q.0, q.1, refused_for v tenant q.0 command refusal there is);
}

-- no operation is open before a begin, as long as a number is left
pub idle_before : (v : StateView) (stuck : Option Ticket) → AreOpen v stuck → (v.steps ≢ 2 ^ 59 → stuck ≡ None) → v.steps ≢ 2 ^ 59 → IsIdle v
idle_before v stuck alone free left = subst (AreOpen v) (free left) alone left

-- a begin in a state in which no operation is open, as long as a number is left
module _ (old mid : StateView) (o tenant : ℕ) (command : Command) (right : IsRightState old) (idle : old.steps ≢ 2 ^ 59 → IsIdle old) (b : Begins old mid o 0 tenant command) (may : IsAdmissible old tenant command) where
  abbrev op : OperationView
  op = begun 0 tenant command old.steps

  arena_stands : mid.arena ≡ old.arena
  arena_stands = ap (λ (v : StateView). v.arena) b.stands

  begin_keeps : Keeps old mid
  begin_keeps = subst (Keeps old) (sym b.stands) (record { steps = omega arith; nodes = omega arith; trees = omega arith; logs = refl; tenants = λ t. refl })

  -- and nobody holds a node
  free_before : (k : ℕ) → k < length old.arena.nodes → (at old.arena k).holder ≡ None
  free_before k inside = known (at old.arena k).holder refl
    where
      known : (holder : Option ℕ) → (at old.arena k).holder ≡ holder → holder ≡ None
      known None e = refl
      known (Some q) e = absurd (no_value (sym (idle may.numbered q) ∙ (right.holders k q inside e).1))

  begun_alone : IsAlone mid o op
  begun_alone = record {
    there = b.there;
    first = refl;
    enters = refl;
    free = subst (λ (v : ArenaView). (k : ℕ) → k < length v.nodes → (at v k).holder ≡ None) (sym arena_stands) free_before;
  }

  module _ (new : StateView) (result : Result Reply Unfinished) (f : Finishes mid new o result) where
    keeps : Keeps old new
    keeps = keeps_on old mid new begin_keeps f.keeps

    told : TellsRun (record old { table = mid.table }) new op result
    told = subst (λ (v : StateView). TellsRun v new op result) b.stands (f.alone op begun_alone)

    there : IsSome (account_of old.accounts tenant)
    there = may.there

    abbrev quota : ℕ
    quota = (has_quota old tenant there).0

    quota_is : quota_of old tenant ≡ quota
    quota_is = (has_quota old tenant there).2

    abbrev was : TenantMaps
    was = maps_in old (Some tenant)

    -- the map after the command
    map_now : (number : ℕ) (reply : Reply) → IsRun (record old { table = mid.table }) new op number reply → (t : ℕ) → tenant_map t (contents_of new) ≡ with_map tenant (map_after quota number command (was.maps tenant)) was.maps t
    map_now number reply run t = run.makes t ∙ by (eqb t tenant) refl
      where
        by : (b : Bool) → eqb t tenant ≡ b → cond b (map_after (quota_of old t) number command (was.maps t)) (was.maps t) ≡ cond b (map_after quota number command (was.maps tenant)) (was.maps t)
        by false e = refl
        by true e =
            ap (λ u. map_after (quota_of old u) number command (was.maps u)) (eqb-true t tenant e)
            ∙ ap (λ q. map_after q number command (was.maps tenant)) quota_is

    maps_now : (number : ℕ) (reply : Reply) → IsRun (record old { table = mid.table }) new op number reply → Applies tenant quota command was (maps_in new (Some tenant))
    maps_now number reply run = (
      number,
      run.since,
      run.upto,
      ap (λ (q : ℕ → Option ℕ). tenant_maps q (λ t. tenant_map t (contents_of new)) (Some tenant) new.steps) (fun_ext keeps.tenants)
          ∙ ap (λ (m : Maps). tenant_maps (granted old) m (Some tenant) new.steps) (fun_ext (map_now number reply run)),
    )

    reply_now : (number : ℕ) (reply : Reply) → IsRun (record old { table = mid.table }) new op number reply → reply ≡ reply_of quota command (was.maps tenant)
    reply_now number reply run = run.told ∙ ap (λ q. reply_of q command (was.maps tenant)) quota_is

    granted_is : was.quotas tenant ≡ Some quota
    granted_is = (has_quota old tenant there).1

    -- one that is not finished has taken effect, or nothing has changed
    may_apply : MayHaveRun (record old { table = mid.table }) new op → MayApply tenant quota command was (maps_in new (Some tenant))
    may_apply may = elim may [
      | inl none ↦ inr (same_maps old new (Some tenant) keeps none)
      | inr run ↦ inl (maps_now run.1 run.0 run.2)
    ]

  -- it is answered
  pub answers_done : (new : StateView) (reply : Reply) → Finishes mid new o (Ok reply) → Answers old new tenant command (Ok reply) None
  answers_done new reply f = record {
    keeps = keeps new (Ok reply) f;
    alone = λ left. f.ends;
    leaves = refl;
    by_maps = (
      quota new (Ok reply) f,
      granted_is new (Ok reply) f,
      (
        may.taken,
        elim (told new (Ok reply) f) [
          | inl none ↦ inr (none.0, same_maps old new (Some tenant) (keeps new (Ok reply) f) none.1)
          | inr run ↦ inl (reply_now new (Ok reply) f run.0 reply run.1, maps_now new (Ok reply) f run.0 reply run.1)
        ],
      ),
    );
  }

  -- there is no memory for a node
  pub answers_stuck : (new : StateView) (ticket : Ticket) → Finishes mid new o (Err (unfinished.Stuck ticket)) → Answers old new tenant command (Err Stuck) (Some ticket)
  answers_stuck new ticket f = record {
    keeps = keeps new (Err (unfinished.Stuck ticket)) f;
    alone = still_open new o ticket f.ends.0 f.ends.1 f.ends.2;
    leaves = (ticket, refl, subst (IsPlacedToGrow new) (sym f.ends.0) f.ends.3);
    by_maps = (
      quota new (Err (unfinished.Stuck ticket)) f,
      granted_is new (Err (unfinished.Stuck ticket)) f,
      may_apply new (Err (unfinished.Stuck ticket)) f (told new (Err (unfinished.Stuck ticket)) f),
    );
  }

  -- no number is left for its next step
  pub answers_spent : (new : StateView) (ticket : Ticket) → Finishes mid new o (Err (unfinished.Spent ticket)) → Answers old new tenant command (Err (Refused refusals.Spent)) None
  answers_spent new ticket f = record {
    keeps = keeps new (Err (unfinished.Spent ticket)) f;
    alone = λ left. absurd (left f.ends.2);
    leaves = λ left. refl;
    by_maps = (
      quota new (Err (unfinished.Spent ticket)) f,
      granted_is new (Err (unfinished.Spent ticket)) f,
      (may.taken, f.ends.2, may_apply new (Err (unfinished.Spent ticket)) f (told new (Err (unfinished.Spent ticket)) f)),
    );
  }

-- a command after one that is stuck again: its maps stand
pub answers_held : (old new : StateView) (stuck : Option Ticket) (tenant : ℕ) (command : Command) (fault : CallerFault) → Clears old new stuck (Err fault) → IsSome (account_of old.accounts tenant)
    → Answers old new tenant command (Err fault) stuck
answers_held old new stuck tenant command fault c is_there = record {
  keeps = c.keeps;
  alone = c.alone;
  leaves = left fault c.ends;
  by_maps = let q = has_quota old tenant is_there in (q.0, q.1, held q.0 fault c.ends);
}
  where
    left : (fault : CallerFault) → ClearsTo new stuck (Err fault) → LeavesStuck new stuck (Err fault)
    left (Refused refusal) is = absurd is
    left Stuck is = is

    held : (quota : ℕ) (fault : CallerFault) → ClearsTo new stuck (Err fault) → MapsAnswer tenant quota (maps_in old (Some tenant)) command (Err fault) (maps_in new (Some tenant))
    held most (Refused refusal) is = absurd is
    held most Stuck e = inr (same_maps old new (Some tenant) c.keeps c.stands)

-- numbers that were given and nothing else, before a command: it is answered by the maps as they were before that
numbers_on : (was now new : TenantMaps) → GivesNumbers was now → GivesNumbers now new → GivesNumbers was new
numbers_on was now new g h = (omega (arith, g.0, h.0), h.1 ∙ ap (λ (x : TenantMaps). record x { last = new.last }) g.1)

applies_on : (was now new : TenantMaps) (tenant quota : ℕ) (command : Command) → GivesNumbers was now → Applies tenant quota command now new → Applies tenant quota command was new
applies_on was now new tenant quota command g a =
    (a.0, omega (arith, g.0, a.1), a.2, a.3 ∙ ap (λ (x : TenantMaps). after_command tenant quota a.0 new.last command x) g.1)

may_on : (was now new : TenantMaps) (tenant quota : ℕ) (command : Command) → GivesNumbers was now → MayApply tenant quota command now new → MayApply tenant quota command was new
may_on was now new tenant quota command g a = elim a [
  | inl h ↦ inl (applies_on was now new tenant quota command g h)
  | inr h ↦ inr (numbers_on was now new g h)
]

refusal_on : (was now new : TenantMaps) (tenant quota : ℕ) (command : Command) (refusal : Refusal) → GivesNumbers was now → MapsRefusal tenant quota now command refusal new
    → MapsRefusal tenant quota was command refusal new
refusal_on was now new tenant most command refusals.Spent g a = (a.0, a.1, may_on was now new tenant most command g a.2)
refusal_on was now new tenant most command _ g a = (a.0, numbers_on was now new g a.1)

answer_on : (was now new : TenantMaps) (tenant quota : ℕ) (command : Command) (result : Result Reply CallerFault) → GivesNumbers was now → MapsAnswer tenant quota now command result new
    → MapsAnswer tenant quota was command result new
answer_on was now new tenant quota command (Ok reply) g a = (
  a.0,
  elim a.1 [
    | inl h ↦ inl (h.0 ∙ ap (λ (x : TenantMaps). reply_of quota command (x.maps tenant)) g.1, applies_on was now new tenant quota command g h.1)
    | inr h ↦ inr (h.0, numbers_on was now new g h.1)
  ],
)
answer_on was now new tenant quota command (Err (Refused refusal)) g a = refusal_on was now new tenant quota command refusal g a
answer_on was now new tenant quota command (Err Stuck) g a = may_on was now new tenant quota command g a

-- a command after one that is done with
pub answers_behind : (old mid new : StateView) (kept stuck : Option Ticket) (tenant : ℕ) (command : Command) (result : Result Reply CallerFault) (done : Unit {0}) → Clears old mid kept (Ok done)
    → Answers mid new tenant command result stuck → Answers old new tenant command result stuck
answers_behind old mid new kept stuck tenant command result done c a =
    let same : GivesNumbers (maps_in old (Some tenant)) (maps_in mid (Some tenant)) = same_maps old mid (Some tenant) c.keeps c.stands in
    record {
      keeps = keeps_on old mid new c.keeps a.keeps;
      alone = a.alone;
      leaves = a.leaves;
      by_maps =
          let m = a.by_maps in (
            m.0,
            sym (ap (λ (x : TenantMaps). x.quotas tenant) same.1) ∙ m.1,
            answer_on (maps_in old (Some tenant)) (maps_in mid (Some tenant)) (maps_in new (Some tenant)) tenant m.0 command result same m.2,
          );
    }

-- all maps are empty in a new state
pub maps_new : (accounts : Accounts) → maps_in (new_state 0 accounts) None ≡ fresh_maps (λ t. granted_in (account_of accounts t))
maps_new accounts = ap (λ (m : Maps). tenant_maps (λ t. granted_in (account_of accounts t)) m None 0) (fun_ext (λ t. ap (tenant_map t) content-new ∙ tenant_map-empty t))
