-- What the steps of one operation have made of a state, where all of them were its own: for `Inner::run_alone`.
use Rattle.std.proofs.Common.{◌≡◌, ℕ, ◌+◌, ◌<◌, ◌≤◌, ◌⊎◌, inl, inr, Bool, true, false, cond, eqb, Option, Some, None, refl, sym, ap, subst, ◌∙◌, arith}
use Rattle.std.proofs.{lemmas.Bool.{cases_lt, eqb-true}, lemmas.Option.same_Some}
use Rattle.mt_rows.specs.{declared.command.Command.Command, declared.reply.Reply.Reply, declared.command.Command.TheVariants.Scan}
use Rattle.mt_rows.specs.{declared.reply.Reply.TheVariants.{NoMemory, Pairs}, Maps.{Map, reply_of, map_after, is_change, is_no_memory, is_scan}}
use Rattle.mt_rows.specs.Tenants.{Contents, tenant_map}
use Rattle.mt_rows.proofs.CommandLaws.{same_map_after}
use Rattle.mt_runs.specs.{Scans.IsLawfulScan, Placings.maps_after_one}
use Rattle.mt_walks.{specs.Walked.IsWithin, proofs.Exact.exact}
use Rattle.mt_operation.specs.{declared.outcome.Outcome.Outcome, declared.phase.Phase.Phase, Operations.OperationView, Phases.{MayFollow, is_unplaced}}
use Rattle.mt_operation.proofs.Tables.{set_is}
use Rattle.mt_state.specs.{Views.{StateView, Shown, contents_of, op_at, map_of, quota_of, KeepsPast}, Steps.{IsSameAsked, change_in, told_change}}
use Rattle.mt_state.specs.{Notes.{EndsJudging, Keeps, Notes}, Promises.{IsQuiet, IsPlacing, IsAnswer, IsStep}}
use Rattle.mt_state.proofs.{Granted.quota_stays, Moved.first_is, HistoryChanges.{noted_placed, placed_after}}
use Rattle.mt_core.specs.Alone.{IsAlone, IsRun}

-- the operation once it has made the step
pub stepped : (v w : StateView) (o : ℕ) (done : Bool) (s : IsStep v w o done) → op_at w.table o ≡ Some s.after
stepped v w o done s = ap (λ (t : Shown). op_at t o) s.table ∙ set_is v.table o s.after s.before s.there

-- what is asked of the same map is the same, and so is what it makes
module _ (v old : StateView) (a op : OperationView) (same : IsSameAsked op a) (quotas : (t : ℕ) → quota_of v t ≡ quota_of old t) (x : Contents) where
  same_reply : reply_of (quota_of v a.tenant) a.command (tenant_map a.tenant x) ≡ reply_of (quota_of old op.tenant) op.command (tenant_map op.tenant x)
  same_reply =
      ap (λ t. reply_of (quota_of v t) a.command (tenant_map t x)) same.tenant
      ∙ ap (λ (r : Command). reply_of (quota_of v op.tenant) r (tenant_map op.tenant x)) same.command
      ∙ ap (λ q. reply_of q op.command (tenant_map op.tenant x)) (quotas op.tenant)

  same_maps : (m t : ℕ) → maps_after_one (quota_of v) m (Some (record { tenant = a.tenant; command = a.command })) (λ u. tenant_map u x) t
      ≡ maps_after_one (quota_of old) m (Some (record { tenant = op.tenant; command = op.command })) (λ u. tenant_map u x) t
  same_maps m t =
      ap (λ u. cond (eqb t u) (map_after (quota_of v t) m a.command (tenant_map t x)) (tenant_map t x)) same.tenant
      ∙ ap (λ (r : Command). cond (eqb t op.tenant) (map_after (quota_of v t) m r (tenant_map t x)) (tenant_map t x)) same.command
      ∙ ap (λ q. cond (eqb t op.tenant) (map_after q m op.command (tenant_map t x)) (tenant_map t x)) (quotas t)

-- a command whose reply tells of no change makes the maps that were there, whatever its number
maps_stay : (old : StateView) (op : OperationView) (m : ℕ) → is_change (reply_of (quota_of old op.tenant) op.command (tenant_map op.tenant (contents_of old))) ≡ false
    → (t : ℕ)
    → tenant_map t (contents_of old) ≡ maps_after_one (quota_of old) m (Some (record { tenant = op.tenant; command = op.command })) (λ u. tenant_map u (contents_of old)) t
maps_stay old op m look t = by (eqb t op.tenant) refl
  where
    by : (b : Bool) → eqb t op.tenant ≡ b
        → tenant_map t (contents_of old) ≡ cond b (map_after (quota_of old t) m op.command (tenant_map t (contents_of old))) (tenant_map t (contents_of old))
    by false e = refl
    by true e =
        subst (λ u. tenant_map u (contents_of old) ≡ map_after (quota_of old u) m op.command (tenant_map u (contents_of old))) (sym (eqb-true t op.tenant e))
        (sym (same_map_after (quota_of old op.tenant) m op.command (tenant_map op.tenant (contents_of old)) look))

-- the operation has changed nothing so far, nor has any other
pub record HasLeft (old v : StateView) (after : OperationView) : Type 0 where
  pub contents : contents_of v ≡ contents_of old
  pub change : change_in after ≡ None
  pub maps : (t m : ℕ) → old.steps < m → m ≤ v.steps → map_of v t m ≡ tenant_map t (contents_of old)

-- or it has made its change, and has the outcome that it had then
pub record HasPlaced (old v : StateView) (op after : OperationView) : Type 0 where
  pub reply : Reply
  pub number : ℕ
  pub placed : is_unplaced after.phase ≡ false
  pub outcome : after.outcome ≡ Some (record { reply = reply; at = number })
  pub made : number ≤ v.steps
  pub run : IsRun old v op number reply

-- the run so far: all steps were the operation's own
pub record IsRunning (old v : StateView) (o : ℕ) (op : OperationView) (made : ℕ) : Type 0 where
  pub number : v.steps ≡ old.steps + made
  pub grows : KeepsPast old v
  pub after : OperationView
  pub there : op_at v.table o ≡ Some after
  pub asked : IsSameAsked op after
  pub first : ((made ≡ 0) × (after.first ≡ 0)) ⊎ (after.first ≡ old.steps + 1)
  pub so_far : HasLeft old v after ⊎ HasPlaced old v op after

-- what is none is no value
pub no_value : {A : Type 0} {a : A} → ◌≡◌ {A = Option A} None (Some a) → ⊥
no_value e = cc

-- before its first step an operation that is alone has changed nothing
pub running_first : (old : StateView) (o : ℕ) (op : OperationView) → IsAlone old o op → op.outcome ≡ None → IsRunning old old o op 0
running_first old o op alone untold = record {
  number = omega arith;
  grows = record { steps = omega arith; quotas = λ t. refl; maps = λ t m le. refl; changes = λ m le. refl };
  after = op;
  there = alone.there;
  asked = record { worker = refl; tenant = refl; command = refl };
  first = inl (refl, alone.first);
  so_far = inl (record { contents = refl; change = ap told_change untold; maps = λ t m gt le. absurd (omega (arith, gt, le)) });
}

no_told : (b : Bool) (m : ℕ) → cond b (Some m) None ≡ None → b ≡ false
no_told false m e = refl
no_told true m e = absurd (cc)

memory_is : (reply : Reply) → is_no_memory reply ≡ true → reply ≡ NoMemory
memory_is NoMemory e = refl
memory_is _ e = absurd (cc)

-- an outcome that tells of a change names the number of its step
told_is : (b : Bool) (m : ℕ) → b ≡ true → cond b (Some m) None ≡ Some m
told_is true m is = refl
told_is false m is = absurd (cc)

-- an outcome that is there is kept by a phase whose change is not to come
keeps_told : (b : Bool) (had told : Option Outcome) (outcome : Outcome) → had ≡ Some outcome → Keeps b had told → (b ≡ false) × (told ≡ had)
keeps_told true had told outcome is kept = absurd (no_value (sym kept.1 ∙ is))
keeps_told false had told outcome is kept = (refl, kept)

ends_told : (old : StateView) (op : OperationView) (had told : Option Outcome) (outcome : Outcome) → had ≡ Some outcome → EndsJudging had old op told → told ≡ op.outcome
ends_told old op None told outcome is ends = absurd (no_value is)
ends_told old op (Some had) told outcome is ends = ends

-- from a phase on in which nothing is placed any more nothing is placed, and the outcome stays
pub stays : (old : StateView) (op : OperationView) (p q : Phase) (told : Option Outcome) (outcome : Outcome) → op.outcome ≡ Some outcome
    → is_unplaced p ≡ false → MayFollow p q → Notes old op p q told
    → (is_unplaced q ≡ false) × (told ≡ op.outcome)
stays old op p q told outcome is placed follows notes = elim (noted_placed old op p q told placed notes) [
  | inl keeps ↦ keeps_told (is_unplaced q) op.outcome told outcome is keeps
  | inr ends ↦ (ap is_unplaced ends.1, ends_told old op op.outcome told outcome is ends.2)
]

module _ (old v w : StateView) (o : ℕ) (op : OperationView) (made : ℕ) (done : Bool) (r : IsRunning old v o op made) (s : IsStep v w o done) where
  same : r.after ≡ s.before
  same = same_Some r.after s.before (sym r.there ∙ s.there)

  asked : IsSameAsked op s.before
  asked = subst (λ (x : OperationView). IsSameAsked op x) same r.asked

  first_before : ((made ≡ 0) × (s.before.first ≡ 0)) ⊎ (s.before.first ≡ old.steps + 1)
  first_before = subst (λ (x : OperationView). ((made ≡ 0) × (x.first ≡ 0)) ⊎ (x.first ≡ old.steps + 1)) same r.first

  before : HasLeft old v s.before ⊎ HasPlaced old v op s.before
  before = subst (λ (x : OperationView). HasLeft old v x ⊎ HasPlaced old v op x) same r.so_far

  grows_after : KeepsPast old w
  grows_after = record {
    steps = omega (arith, s.grows.steps, r.grows.steps);
    quotas = λ t. s.grows.quotas t ∙ r.grows.quotas t;
    maps = λ t m le. s.grows.maps t m (omega (arith, le, r.grows.steps)) ∙ r.grows.maps t m le;
    changes = λ m le. s.grows.changes m (omega (arith, le, r.grows.steps)) ∙ r.grows.changes m le;
  }

  first_after : s.after.first ≡ old.steps + 1
  first_after = elim first_before [
    | inl (none, unbegun) ↦ elim (first_is s.before.first (v.steps + 1)) [
      | inl (_, is) ↦ omega (arith, s.moves.first ∙ is, none, r.number)
      | inr (some, _) ↦ absurd (omega (arith, some, unbegun))
    ]
    | inr first ↦ elim (first_is s.before.first (v.steps + 1)) [
      | inl (unbegun, _) ↦ absurd (omega (arith, unbegun, first))
      | inr (_, is) ↦ s.moves.first ∙ is ∙ first
    ]
  ]

  -- a step that changes nothing leaves all maps since the run began
  maps_after : HasLeft old v s.before → contents_of w ≡ contents_of v → (t m : ℕ) → old.steps < m → m ≤ w.steps → map_of w t m ≡ tenant_map t (contents_of old)
  maps_after u still t m gt le = elim (cases_lt v.steps m) [
    | inl last ↦ let is : m ≡ w.steps = omega (arith, s.number, last, le) in ap (map_of w t) is ∙ s.present t ∙ ap (tenant_map t) (still ∙ u.contents)
    | inr earlier ↦ s.grows.maps t m earlier ∙ u.maps t m gt earlier
  ]

  -- an operation that has changed nothing tells of no change after a step that changes nothing
  change_after : HasLeft old v s.before → IsQuiet v w s.before s.after → change_in s.after ≡ None
  change_after u q = q.change ∙ u.change

  -- a step that places the operation's change makes it of the maps of before, with its own number
  placed_run : HasLeft old v s.before → (p : IsPlacing v w s.before s.after) → IsRun old w op (v.steps + 1) p.reply
  placed_run u p = record {
    since = omega (arith, r.number);
    upto = omega (arith, s.number);
    told =
        p.told ∙ ap (λ x. reply_of (quota_of v s.before.tenant) s.before.command (tenant_map s.before.tenant x)) u.contents ∙ same_reply v old s.before op asked (quota_stays old v r.grows) (contents_of old);
    makes = λ t.
        p.makes t
        ∙ ap (λ x. maps_after_one (quota_of v) (v.steps + 1) (Some (record { tenant = s.before.tenant; command = s.before.command })) (λ u. tenant_map u x) t) u.contents
        ∙ same_maps v old s.before op asked (quota_stays old v r.grows) (contents_of old) (v.steps + 1) t;
  }

  -- and nothing is placed behind it
  placed_now : HasLeft old v s.before → (p : IsPlacing v w s.before s.after) → is_unplaced s.after.phase ≡ false
  placed_now u p = placed_after v s.before s.before.phase s.after.phase s.after.outcome (v.steps + 1) s.moves.follows s.notes
      (ap told_change p.outcome ∙ told_is (is_change p.reply) (v.steps + 1) p.changes)

  module _ (p : HasPlaced old v op s.before) where
    stood : (is_unplaced s.after.phase ≡ false) × (s.after.outcome ≡ s.before.outcome)
    stood = stays v s.before s.before.phase s.after.phase s.after.outcome (record { reply = p.reply; at = p.number }) p.outcome p.placed s.moves.follows s.notes

    -- the outcome is that of an earlier step, so this one has placed nothing
    quiet_behind : contents_of w ≡ contents_of v
    quiet_behind = elim s.effect [
      | inl q ↦ q.contents
      | inr again ↦
          let is = same_Some (record { reply = again.reply; at = v.steps + 1 }) (record { reply = p.reply; at = p.number }) (sym again.outcome ∙ stood.1 ∙ p.outcome) in
          absurd (omega (arith, ap (λ (x : Outcome). x.at) is, p.made))
    ]

    still_placed : HasPlaced old w op s.after
    still_placed = record {
      reply = p.reply;
      number = p.number;
      placed = stood.0;
      outcome = stood.1 ∙ p.outcome;
      made = omega (arith, p.made, s.number);
      run = record { since = p.run.since; upto = omega (arith, p.run.upto, s.number); told = p.run.told; makes = λ t. ap (tenant_map t) quiet_behind ∙ p.run.makes t };
    }

  -- the run goes on with a step
  pub running_on : IsRunning old w o op (made + 1)
  running_on = record {
    number = omega (arith, s.number, r.number);
    grows = grows_after;
    after = s.after;
    there = stepped v w o done s;
    asked = record {
      worker = s.moves.asked.worker ∙ asked.worker;
      tenant = s.moves.asked.tenant ∙ asked.tenant;
      command = s.moves.asked.command ∙ asked.command;
    };
    first = inr first_after;
    so_far = elim before [
      | inl u ↦ elim s.effect [
        | inl q ↦ inl (record { contents = q.contents ∙ u.contents; change = change_after u q; maps = maps_after u q.contents })
        | inr p ↦ inr (record { reply = p.reply; number = v.steps + 1; placed = placed_now u p; outcome = p.outcome; made = omega (arith, s.number); run = placed_run u p })
      ]
      | inr p ↦ inr (still_placed p)
    ];
  }

-- what a scan shows of a map that stays is what the map tells
scan_reply : (quota : ℕ) (maps : ℕ → Map) (Between : ℕ → Type 0) (m : Map) → ((n : ℕ) → Between n → maps n ≡ m) → (command : Command) (reply : Reply)
    → is_scan command ≡ true → is_no_memory reply ≡ false → IsLawfulScan maps Between command reply → reply ≡ reply_of quota command m
unfolding reply_of
scan_reply quota maps Between m still (Scan from after count columns) (Pairs ps) scans real h = ap Pairs (exact maps m Between from after count columns ps still h)
scan_reply quota maps Between m still (Scan from after count columns) NoMemory scans real h = absurd (cc)
scan_reply quota maps Between m still (Scan from after count columns) _ scans real h = absurd h
scan_reply quota maps Between m still _ reply scans real h = absurd (cc)

-- how a run ends whose operation has a right outcome
module _ (old v : StateView) (o : ℕ) (op : OperationView) (made : ℕ) (r : IsRunning old v o op made) (told : Outcome) (has : r.after.outcome ≡ Some told) (answer : IsAnswer v r.after told) where
  first_begun : r.after.first ≡ old.steps + 1
  first_begun = elim r.first [
    | inl (_, unbegun) ↦ absurd (omega (arith, unbegun, answer.begun))
    | inr first ↦ first
  ]

  -- an operation that changed nothing was told what the maps say
  looked : HasLeft old v r.after → r.after.last ≤ v.steps → is_no_memory told.reply ≡ false → IsRun old v op told.at told.reply
  looked u upto real =
      let look : is_change told.reply ≡ false = no_told (is_change told.reply) told.at (sym (ap told_change has) ∙ u.change) in
      let is : told.reply ≡ reply_of (quota_of old op.tenant) op.command (tenant_map op.tenant (contents_of old)) =
      by u upto real look (is_scan r.after.command) refl ∙ same_reply v old r.after op r.asked (quota_stays old v r.grows) (contents_of old) in
      record {
        since = omega (arith, answer.since, first_begun);
        upto = omega (arith, answer.upto, upto);
        told = is;
        makes = λ t. ap (tenant_map t) u.contents ∙ maps_stay old op told.at (ap is_change (sym is) ∙ look) t;
      }
    where
      -- a scan shows what its map has, which stayed the same
      by : (u : HasLeft old v r.after) → r.after.last ≤ v.steps → is_no_memory told.reply ≡ false → is_change told.reply ≡ false → (b : Bool) → is_scan r.after.command ≡ b
          → told.reply ≡ reply_of (quota_of v r.after.tenant) r.after.command (tenant_map r.after.tenant (contents_of old))
      by u upto real look false plain =
          (answer.placed real plain).looks look
          ∙ ap (reply_of (quota_of v r.after.tenant) r.after.command) (u.maps r.after.tenant told.at (omega (arith, answer.since, first_begun)) (omega (arith, answer.upto, upto)))
      by u upto real look true scans = scan_reply (quota_of v r.after.tenant) (map_of v r.after.tenant) (IsWithin r.after.first r.after.last) (tenant_map r.after.tenant (contents_of old))
          (λ n between. u.maps r.after.tenant n (let since = between.0 in omega (arith, since, first_begun)) (let last = between.1 in omega (arith, last, upto)))
          r.after.command told.reply scans real answer.lawful

  -- with the reply of its command, or for want of memory with nothing changed
  pub run_outcome : r.after.last ≤ v.steps → ((told.reply ≡ NoMemory) × (contents_of v ≡ contents_of old)) ⊎ IsRun old v op told.at told.reply
  run_outcome upto = elim r.so_far [
    | inl u ↦ by u (is_no_memory told.reply) refl
    | inr p ↦
        let said : told ≡ record { reply = p.reply; at = p.number } = same_Some told (record { reply = p.reply; at = p.number }) (sym has ∙ p.outcome) in
        inr (subst (λ (x : Outcome). IsRun old v op x.at x.reply) (sym said) p.run)
  ]
    where
      by : HasLeft old v r.after → (b : Bool) → is_no_memory told.reply ≡ b
          → ((told.reply ≡ NoMemory) × (contents_of v ≡ contents_of old)) ⊎ IsRun old v op told.at told.reply
      by u true e = inl (memory_is told.reply e, u.contents)
      by u false e = inr (looked u upto e)
