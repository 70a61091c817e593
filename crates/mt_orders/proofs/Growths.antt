-- What the step of an operation that is shown does to the story, by the maps of the states before and after it: for Steps.
-- (As `HistorySteps` of mt_state, but nothing is asked of the maps before the state's floor.)
use Rattle.std.proofs.Common.{◌≡◌, ℕ, suc, ◌+◌, ◌-◌, ◌≤◌, ◌⊎◌, inl, inr, Bool, true, false, not, ◌&&◌, cond, eqb, Option, Some, None, IsSome, sym, refl, ap, subst, ◌∙◌, arith}
use Rattle.std.proofs.{lemmas.Bool.{both_ways, eqb-false, eqb-true}, lemmas.Option.same_Some}
use Rattle.mt_rows.specs.{declared.reply.Reply.Reply, declared.reply.Reply.TheVariants.{New, Replaced, Removed}}
use Rattle.mt_rows.specs.{Maps.{reply_of, is_change, is_scan, is_no_memory}, Tenants.tenant_map, declared.command.Command.Command}
use Rattle.mt_runs.specs.{declared.event.Answer.Answer, Runs.{Story, Asked, Finished, last_step, step_of, owner, with_step, IsFirst, IsLast, IsBetween}, Scans.IsLawfulScan}
use Rattle.mt_runs.specs.{Placings.{Quotas, is_placed, reply_in, maps_after_one}, Right.{IsChangeAfter, IsAnswered, IsGrowth, maps_at}}
use Rattle.mt_runs.proofs.{Steps.{owner_in, owner_stays, owner_cases, new_owner, new_step, finished_cases}}
use Rattle.mt_walks.specs.Walked.{IsWithin}
use Rattle.mt_operation.specs.{declared.phase.Phase.Phase, Phases.{is_done, MayFollow}}
use Rattle.mt_state.specs.{Views.{StateView, contents_of, map_of, changed_at, quota_of, IsPlaced}, Steps.{told_change, change_in}, Notes.Notes}
use Rattle.mt_state.specs.{Promises.{IsQuiet, IsPlacing, IsAnswer, IsStep}, Begins.IsAnswerOf, Histories.StoryTells}
use Rattle.mt_orders.proofs.Past.{Knows}
use Rattle.mt_state.proofs.{Granted.quota_stays, Lawful.{change_no_scan, lawful_change, lawful_more}}
use Rattle.mt_state.proofs.HistoryChanges.{told_change-of, told_change-is, placed_after, same_at_end, same_when_placed}
use Rattle.mt_state.proofs.HistoryMaps.{AreMade, map_of-now, map-quiet, changed-quiet, map-placing, changed-placing}
use mathlib.Core.Path.{fun_ext}

real_change : (reply : Reply) → is_change reply ≡ true → is_no_memory reply ≡ false
real_change New e = refl
real_change Replaced e = refl
real_change Removed e = refl
real_change _ e = absurd (cc)

both_not : (b d : Bool) → (not b && not d) ≡ true → (b ≡ false) × (d ≡ false)
both_not true d e = absurd (cc)
both_not false true e = absurd (cc)
both_not false false e = (refl, refl)

-- an answer that is placed is one that memory did not stop
placed_real : (a : Answer) → is_placed a ≡ true → is_no_memory a.reply ≡ false
placed_real a e = (both_not (is_scan a.command) (is_no_memory a.reply) e).1

-- and no scan's
placed_plain : (a : Answer) → is_placed a ≡ true → is_scan a.command ≡ false
placed_plain a e = (both_not (is_scan a.command) (is_no_memory a.reply) e).0

module _ (quotas : Quotas) (story : Story) (old new : StateView) (o n : ℕ) (done : Bool) (answer : Option Answer)
    (quota : (t : ℕ) → quota_of old t ≡ quotas t) (count : last_step story ≡ old.steps) (made : AreMade old.tape.entries old.steps) (s : IsStep old new n done) (k : StoryTells story old o s.before)
    (ends : (a : Answer) → answer ≡ Some a → IsAnswerOf s.after a) where
  next : suc (last_step story) ≡ old.steps + 1
  next = omega (arith, count)

  abbrev what : Asked
  what = record { tenant = s.before.tenant; command = s.before.command }

  same_quotas : quota_of old ≡ quotas
  same_quotas = fun_ext quota

  -- the maps and changes of the steps before
  same_map : (t m : ℕ) → m ≤ last_step story → map_of new t m ≡ map_of old t m
  same_map t m le = s.grows.maps t m (omega (arith, count))

  same_change : (m : ℕ) → m ≤ last_step story → changed_at new m ≡ changed_at old m
  same_change m le = s.grows.changes m (omega (arith, count))

  -- those of the step before this one are the ones of now
  last_maps : maps_at (map_of new) (last_step story) ≡ (λ u. tenant_map u (contents_of old))
  last_maps = fun_ext (λ t. same_map t (last_step story) (omega arith) ∙ map_of-now old t (last_step story) (subst (AreMade old.tape.entries) (sym count) made))

  -- a change that an operation has made before
  earlier : (m : ℕ) → changed_at old m ≡ true → owner story m ≡ Some o → change_in s.before ≡ Some m
  earlier m e own = k.changes m e own

  -- it has made none at this step before it
  not_before : change_in s.before ≡ Some (old.steps + 1) → ⊥
  not_before e = let inside = owner_in story (old.steps + 1) o (k.own (old.steps + 1) e) in omega (arith, inside.1, count)

  placed_now : IsPlacing old new s.before s.after → change_in s.after ≡ Some (old.steps + 1)
  placed_now p = ap told_change p.outcome ∙ told_change-of p.reply (old.steps + 1) p.changes

  placing_once : (m : ℕ) → change_in s.before ≡ Some m → IsPlacing old new s.before s.after → ⊥
  placing_once m e p =
      let same = same_when_placed old s.before s.before.phase s.after.phase s.after.outcome m (k.placed m e) s.notes e in
      not_before (sym (ap told_change same) ∙ placed_now p)

  -- a placing step ends nothing
  placing_goes_on : (a : Answer) → answer ≡ Some a → IsPlacing old new s.before s.after → ⊥
  placing_goes_on a now p =
      let finished = (ends a now).finished in
      let notes = subst (λ (q : Phase). Notes old s.before s.before.phase q s.after.outcome) finished s.notes in
      let follows = subst (λ (q : Phase). MayFollow s.before.phase q) finished s.moves.follows in
      not_before (sym (ap told_change (same_at_end old s.before s.before.phase s.after.outcome (old.steps + 1) follows notes (placed_now p))) ∙ placed_now p)

  -- the number of the operation's first step, which is this one where it has made none
  pub first_number : IsFirst (with_step story o answer) o s.after.first
  first_number = subst (IsFirst (with_step story o answer) o) (sym s.moves.first) (by (eqb s.before.first 0) refl)
    where
      by : (b : Bool) → eqb s.before.first 0 ≡ b → IsFirst (with_step story o answer) o (cond b (old.steps + 1) s.before.first)
      by true e = (
        new_owner story o answer (old.steps + 1) (sym next),
        λ m own. elim (owner_cases story o answer m o own) [
          | inl (le, was) ↦ absurd (k.still (eqb-true s.before.first 0 e) m was)
          | inr (last, is) ↦ omega (arith, last, next)
        ],
      )
      by false e =
          let ne = eqb-false s.before.first 0 e in
          let f = k.first (omega (arith, ne)) in
          let inside = owner_in story s.before.first o f.0 in (
            owner_stays story o answer s.before.first o f.0,
            λ m own. elim (owner_cases story o answer m o own) [
              | inl (le, was) ↦ f.1 m was
              | inr (last, is) ↦ omega (arith, inside.1, last)
            ],
          )

  -- the number of its last one is this
  pub last_number : IsLast (with_step story o answer) o (old.steps + 1)
  last_number = (
    new_owner story o answer (old.steps + 1) (sym next),
    λ m own. elim (owner_cases story o answer m o own) [
      | inl (le, was) ↦ omega (arith, le, next)
      | inr (last, is) ↦ omega (arith, last, next)
    ],
  )

  new_change : changed_at new (suc (last_step story)) ≡ true → IsChangeAfter quotas (with_step story o answer) (map_of new) (last_step story)
  new_change e = elim s.effect [
    | inl q ↦ absurd (both_ways _ (changed-quiet old new s.before s.after s.number made q) (ap (changed_at new) (sym next) ∙ e))
    | inr p ↦ record {
      op = o;
      own = new_owner story o answer (suc (last_step story)) refl;
      what = what;
      asked_so = k.asked_so;
      not_scan = change_no_scan (quota_of old s.before.tenant) s.before.command (tenant_map s.before.tenant (contents_of old)) (sym (ap is_change p.told) ∙ p.changes);
      changes =
          ap (λ w. is_change (reply_in quotas what w)) last_maps
          ∙ ap (λ q. is_change (reply_of q (s.before.command) (tenant_map s.before.tenant (contents_of old)))) (sym (quota s.before.tenant))
          ∙ ap is_change (sym p.told) ∙ p.changes;
      makes = λ t.
          ap (map_of new t) next ∙ map-placing old new s.before s.after s.number made t p ∙ p.makes t
          ∙ ap (λ number. maps_after_one (quota_of old) number (Some what) (λ u. tenant_map u (contents_of old)) t) (sym next)
          ∙ ap (λ q. maps_after_one q (suc (last_step story)) (Some what) (λ u. tenant_map u (contents_of old)) t) same_quotas
          ∙ ap (λ w. maps_after_one quotas (suc (last_step story)) (Some what) w t) (sym last_maps);
      told = λ a fin. elim (finished_cases story o answer o a fin) [
        | inl before ↦ absurd (k.unfinished a before)
        | inr (is, now) ↦ absurd (placing_goes_on a now p)
      ];
    }
  ]

  -- the answer's reply, by the tenant's quota of the run
  quota_now : quota_of new s.before.tenant ≡ quotas s.before.tenant
  quota_now = quota_stays old new s.grows s.before.tenant ∙ quota s.before.tenant

  -- the answer of a step that ends its operation is right
  right_answer : (a : Answer) → answer ≡ Some a → IsAnswer new s.after (record { reply = a.reply; at = a.at })
  right_answer a now =
      let w = s.answer (s.ends ∙ ap is_done (ends a now).finished) in
      subst (IsAnswer new s.after) (same_Some w.0 _ (sym w.1 ∙ (ends a now).told)) w.2

  right_placed : (a : Answer) → answer ≡ Some a → is_no_memory a.reply ≡ false → is_scan s.before.command ≡ false
      → IsPlaced new s.before.tenant s.before.command a.at a.reply
  right_placed a now real plain =
      subst (λ t. IsPlaced new t s.before.command a.at a.reply) s.moves.asked.tenant
      (subst (λ (c : Command). IsPlaced new s.after.tenant c a.at a.reply) s.moves.asked.command ((right_answer a now).placed real (ap is_scan s.moves.asked.command ∙ plain)))

  -- a scan's is lawful
  right_lawful : (a : Answer) → answer ≡ Some a → IsLawfulScan (map_of new s.before.tenant) (IsWithin s.after.first s.after.last) s.before.command a.reply
  right_lawful a now =
      subst (λ t. IsLawfulScan (map_of new t) (IsWithin s.after.first s.after.last) s.before.command a.reply) s.moves.asked.tenant
      (subst (λ (c : Command). IsLawfulScan (map_of new s.after.tenant) (IsWithin s.after.first s.after.last) c a.reply) s.moves.asked.command (right_answer a now).lawful)

  -- an answer to the change that the operation made
  told_of_change : (m : ℕ) (a : Answer) → suc m ≤ last_step story → change_in s.before ≡ Some (suc m) → answer ≡ Some a
      → (a.command ≡ s.before.command) × (a.reply ≡ reply_of (quotas s.before.tenant) (s.before.command) (map_of old s.before.tenant m)) × (a.at ≡ suc m)
  told_of_change m a le was now = elim s.effect [
    | inr p ↦ absurd (placing_once (suc m) was p)
    | inl q ↦
        let end = ends a now in
        let both = told_change-is a.reply a.at (suc m) (sym (ap told_change end.told) ∙ q.change ∙ was) in
        let plain = lawful_change (map_of new s.before.tenant) (IsWithin s.after.first s.after.last) s.before.command a.reply (right_lawful a now) both.0 in
        let placed = right_placed a now (real_change a.reply both.0) plain in (
          end.command ∙ s.moves.asked.command,
          (placed.changes both.0).1 ∙ ap (λ q. reply_of q (s.before.command) (map_of new s.before.tenant (a.at - 1))) quota_now
              ∙ ap (λ n. reply_of (quotas s.before.tenant) (s.before.command) (map_of new s.before.tenant n)) (omega (arith, both.1))
              ∙ ap (reply_of (quotas s.before.tenant) (s.before.command)) (same_map s.before.tenant m (omega arith)),
          both.1,
        )
  ]

  -- the answer of a step that ends its operation
  answered : (a : Answer) → answer ≡ Some a → IsAnswered quotas (with_step story o answer) (map_of new) (changed_at new) o a
  answered a now =
      let end = ends a now in
      let ans = right_answer a now in
      let plain : is_placed a ≡ true → is_scan s.before.command ≡ false = λ placed. ap is_scan (sym (end.command ∙ s.moves.asked.command)) ∙ placed_plain a placed in
      record {
        what = what;
        asked_so = k.asked_so;
        command = end.command ∙ s.moves.asked.command;
        first = subst (IsFirst (with_step story o answer) o) (sym end.first) first_number;
        last = subst (IsLast (with_step story o answer) o) (sym (end.last ∙ s.moves.last)) last_number;
        since = λ placed. (s.after.first, ans.since, first_number.0);
        upto = λ placed. (old.steps + 1, subst (λ n. a.at ≤ n) s.moves.last ans.upto, new_owner story o answer (old.steps + 1) (sym next));
        looked =
            λ placed look. (right_placed a now (placed_real a placed) (plain placed)).looks look ∙ ap (λ q. reply_of q (s.before.command) (map_of new s.before.tenant a.at)) quota_now;
        changed_so = λ placed is. (
          ((right_placed a now (placed_real a placed) (plain placed)).changes is).0,
          elim s.effect [
            | inr p ↦ absurd (placing_goes_on a now p)
            | inl q ↦ owner_stays story o answer a.at o (k.own a.at (sym q.change ∙ ap told_change end.told ∙ told_change-of a.reply a.at is))
          ],
        );
      }

  -- what the step did to the maps of the states
  pub growth : IsGrowth quotas story (map_of old) (map_of new) (changed_at old) (changed_at new) o answer
  growth = record {
    maps = λ t m from le. same_map t m le;
    changes = λ m from le. same_change m le;
    open_still = k.unfinished;
    quiet = λ t e. elim s.effect [
      | inl q ↦ ap (map_of new t) next ∙ map-quiet old new s.before s.after s.number made t q ∙ sym (ap (λ w. w t) last_maps)
      | inr p ↦ absurd (both_ways _ (ap (changed_at new) (sym next) ∙ e) (changed-placing old new s.before s.after s.number made p))
    ];
    change = new_change;
    first_change = λ m e f own. elim s.effect [
      | inl q ↦ both_ways _ (changed-quiet old new s.before s.after s.number made q) (ap (changed_at new) (sym next) ∙ e)
      | inr p ↦ placing_once m (earlier m f own) p
    ];
    told = λ m a c e now same.
        let one : what ≡ c.what = same_Some what c.what (sym k.asked_so ∙ ap story.asked (sym same) ∙ c.asked_so) in
        let inside = owner_in story (suc m) c.op c.own in
        let so = told_of_change m a inside.1 (earlier (suc m) e (c.own ∙ ap (λ q. Some q) same)) now in
        subst (λ (w : Asked). (a.command ≡ w.command) × (a.reply ≡ reply_of (quotas w.tenant) w.command (map_of old w.tenant m)) × (a.at ≡ suc m)) one so;
    answered = answered;
    scanned = λ a w now asked_w.
        let one : what ≡ w = same_Some what w (sym k.asked_so ∙ asked_w) in
        subst (λ (x : Asked). IsLawfulScan (map_of new x.tenant) (IsBetween (with_step story o answer) o) x.command a.reply) one
        (lawful_more (map_of new s.before.tenant) (IsWithin s.after.first s.after.last) (IsBetween (with_step story o answer) o)
        (λ m within. (
          (s.after.first, within.0, first_number.0),
          (old.steps + 1, subst (λ n. m ≤ n) s.moves.last within.1, new_owner story o answer (old.steps + 1) (sym next)),
        )) s.before.command a.reply (right_lawful a now));
  }

  -- what the story tells of the operation that stepped, where its last step has an answer
  pub own_told : (done ≡ true → IsSome answer) → Knows (with_step story o answer) (changed_at new) o s.after
  own_told answers = record {
    asked_so = k.asked_so ∙ same_asked;
    first = λ lt. first_number;
    last = λ lt. subst (IsLast (with_step story o answer) o) (sym s.moves.last) last_number;
    still = λ none. let inside = owner_in (with_step story o answer) s.after.first o first_number.0 in absurd (omega (arith, inside.0, none));
    unfinished = λ left a fin. elim (finished_cases story o answer o a fin) [
      | inl before ↦ k.unfinished a before
      | inr (is, now) ↦ both_ways _ left (ap is_done (ends a now).finished)
    ];
    ended = λ over. ended_by answer refl (answers (s.ends ∙ over));
    changes = λ m e own. elim (owner_cases story o answer m o own) [
      | inr (last, is) ↦ made_now m (last ∙ next) e s.effect
      | inl (le, was) ↦ made_before m (earlier m (sym (same_change m le) ∙ e) was) s.effect
    ];
    own = λ m e. elim s.effect [
      | inl q ↦ owner_stays story o answer m o (k.own m (sym q.change ∙ e))
      | inr p ↦
          let both = told_change-is p.reply (old.steps + 1) m (sym (ap told_change p.outcome) ∙ e) in
          new_owner story o answer m (sym both.1 ∙ sym next)
    ];
    placed = λ m e. placed_after old s.before s.before.phase s.after.phase s.after.outcome m s.moves.follows s.notes e;
  }
    where
      ended_by : (w : Option Answer) → answer ≡ w → IsSome w → (a : Answer) × IsAnswerOf s.after a × Finished (with_step story o answer) o a
      ended_by None e some = absurd (cc)
      ended_by (Some a) e some = (
        a,
        ends a e,
        (
          suc (last_step story),
          subst (λ w. step_of (with_step story o answer) (suc (last_step story)) ≡ Some (record { op = o; answer = w })) e (new_step story o answer (suc (last_step story)) refl),
        ),
      )

      same_asked : ◌≡◌ {A = Option Asked} (Some what) (Some (record { tenant = s.after.tenant; command = s.after.command }))
      same_asked = λ i. Some (record { tenant = sym s.moves.asked.tenant i; command = sym s.moves.asked.command i })

      made_now : (m : ℕ) → m ≡ old.steps + 1 → changed_at new m ≡ true → (IsQuiet old new s.before s.after) ⊎ (IsPlacing old new s.before s.after)
          → change_in s.after ≡ Some m
      made_now m is e (inl q) = absurd (both_ways _ (changed-quiet old new s.before s.after s.number made q) (ap (changed_at new) (sym is) ∙ e))
      made_now m is e (inr p) = placed_now p ∙ ap (λ n. Some n) (sym is)

      made_before : (m : ℕ) → change_in s.before ≡ Some m → (IsQuiet old new s.before s.after) ⊎ (IsPlacing old new s.before s.after)
          → change_in s.after ≡ Some m
      made_before m was (inl q) = q.change ∙ was
      made_before m was (inr p) = absurd (placing_once m was p)
