-- How a story is right (at its start, as an operation begins, and by one numbered step): for the three laws by which a core keeps its run right.
use Rattle.std.proofs.Common.{◌≡◌, ℕ, suc, ◌≤◌, ◌⊎◌, Bool, true, false, cond, eqb, [], Option, Some, None, sym, ap, subst, ◌∙◌, inl, inr, arith}
use Rattle.std.proofs.{lemmas.Option.same_Some, lemmas.Bool.cases_lt}
use Rattle.mt_rows.specs.Maps.{Map, is_change}
use Rattle.mt_runs.specs.declared.event.Answer.{Answer}
use Rattle.mt_runs.specs.{Runs.{Made, Asked, Story, first_of, last_step, step_of, owner, Finished, IsBetween, with_begin, with_step}, Scans.IsLawfulScan}
use Rattle.mt_runs.specs.{Placings.{Quotas, Maps, is_placed, reply_in, maps_after_one}, Right.{maps_at, IsChangeAfter, IsAnswered, Right, IsGrowth}}
use Rattle.mt_runs.proofs.{Lawful.lawful_by, Steps.{step_in, owner_in, more_steps, owner_stays, step_cases, owner_cases, finished_cases}}
use mathlib.Core.Path.{fun_ext}

-- the story of a run in which nothing has happened
abbrev pub no_story : ℕ → Story
no_story base = record { base = base; steps = []; asked = λ o. None }

-- a run in which nothing has happened is right
pub right_start : (quotas : Quotas) (first : Maps) (base : ℕ) (map_at : ℕ → ℕ → Map) (changed : ℕ → Bool) → ((t : ℕ) → map_at t base ≡ first t) → Right quotas first (no_story base) map_at changed
right_start quotas first base map_at changed begun =
    let unowned : (m o : ℕ) → owner (no_story base) m ≡ Some o → ⊥ = λ m o own. let inside = owner_in (no_story base) m o own in absurd (omega arith) in
    let unfinished : (o : ℕ) (answer : Answer) → Finished (no_story base) o answer → ⊥ = λ o answer done. let inside = step_in base [] done.0 _ done.1 in absurd (omega arith) in
    record {
      start = begun;
      stays = λ m t from le e. absurd (omega arith);
      changes = λ m from le e. absurd (omega arith);
      once = λ m n o e f own owns. absurd (unowned m o own);
      last_end = λ m k o a e own. absurd (unfinished o a (m, e));
      answers = λ o answer done. absurd (unfinished o answer done);
      scans = λ o answer a done asked_a. absurd (unfinished o answer done);
    }

-- what an operation was begun with stays so
pub asked_stays : (story : Story) (o : ℕ) (what : Asked) (q : ℕ) (w : Asked) → story.asked q ≡ Some w → (with_begin story o what).asked q ≡ Some w
asked_stays story o what q w e = ap (λ x. first_of x (cond (eqb o q) (Some what) None)) e

-- a story in which one more operation begins stays right
pub right_asked : (quotas : Quotas) (first : Maps) (story : Story) (map_at : ℕ → ℕ → Map) (changed : ℕ → Bool) (o : ℕ) (what : Asked)
    → Right quotas first story map_at changed → Right quotas first (with_begin story o what) map_at changed
right_asked quotas first story map_at changed o what r = record {
  start = r.start;
  stays = r.stays;
  changes = λ m from le e. let c = r.changes m from le e in record {
    op = c.op;
    own = c.own;
    what = c.what;
    asked_so = asked_stays story o what c.op c.what c.asked_so;
    not_scan = c.not_scan;
    changes = c.changes;
    makes = c.makes;
    told = c.told;
  };
  once = r.once;
  last_end = r.last_end;
  answers = λ q a done. let h = r.answers q a done in record {
    what = h.what;
    asked_so = asked_stays story o what q h.what h.asked_so;
    command = h.command;
    first = h.first;
    last = h.last;
    since = h.since;
    upto = h.upto;
    looked = h.looked;
    changed_so = h.changed_so;
  };
  scans = λ q a w done asked_w.
      let h = r.answers q a done in
      let same : h.what ≡ w = same_Some h.what w (sym (asked_stays story o what q h.what h.asked_so) ∙ asked_w) in
      r.scans q a w done (h.asked_so ∙ ap (λ x. Some x) same);
}

-- q made step k of a story that grew by a step of o; and k ended q with answer w
abbrev OwnsAt : Story → ℕ → ℕ → ℕ → Type 0
OwnsAt story o q k = ((k ≤ last_step story) × (owner story k ≡ Some q)) ⊎ ((k ≡ suc (last_step story)) × (q ≡ o))

abbrev EndsAt : Story → ℕ → Option Answer → ℕ → ℕ → Answer → Type 0
EndsAt story o answer q k w = ((k ≤ last_step story) × (step_of story k ≡ Some (record { op = q; answer = Some w })))
    ⊎ ((k ≡ suc (last_step story)) × (◌≡◌ {A = Made} (record { op = q; answer = Some w }) (record { op = o; answer = answer })))

module _ (quotas : Quotas) (first : Maps) (story : Story) (map_at now_at : ℕ → ℕ → Map) (changed now_changed : ℕ → Bool) (o : ℕ) (answer : Option Answer)
    (r : Right quotas first story map_at changed) (g : IsGrowth quotas story map_at now_at changed now_changed o answer) where
  -- the maps since the run began are the old ones
  same_maps : (m : ℕ) → story.base ≤ m → m ≤ last_step story → maps_at now_at m ≡ maps_at map_at m
  same_maps m from le = fun_ext (λ t. g.maps t m from le)

  -- an old change is one of the longer story
  change_stays : (m : ℕ) → story.base ≤ m → suc m ≤ last_step story → changed (suc m) ≡ true → IsChangeAfter quotas story map_at m → IsChangeAfter quotas (with_step story o answer) now_at m
  change_stays m from le e c =
      let same = same_maps m from (omega arith) in
      record {
        op = c.op;
        own = owner_stays story o answer (suc m) c.op c.own;
        what = c.what;
        asked_so = c.asked_so;
        not_scan = c.not_scan;
        changes = ap (λ w. is_change (reply_in quotas c.what w)) same ∙ c.changes;
        makes = λ t. g.maps t (suc m) (omega arith) le ∙ c.makes t ∙ ap (λ w. maps_after_one quotas (suc m) (Some c.what) w t) (sym same);
        told = λ a done.
            let Told : Maps → Type 0 = λ w. (a.command ≡ c.what.command) × (a.reply ≡ reply_in quotas c.what w) × (a.at ≡ suc m) in
            let found : Told (maps_at map_at m) = elim (finished_cases story o answer c.op a done) [
              | inl before ↦ c.told a before
              | inr (is, now) ↦ g.told m a c e now is
            ] in subst Told (sym same) found;
      }

  -- and so is an old answer
  answer_stays : (q : ℕ) (a : Answer) → Finished story q a → IsAnswered quotas story map_at changed q a → IsAnswered quotas (with_step story o answer) now_at now_changed q a
  answer_stays q a done h =
      let other : (q ≡ o) → ⊥ = λ is. g.open_still a (subst (λ n. Finished story n a) is done) in
      let since : is_placed a ≡ true → story.base ≤ a.at = λ placed. let s = h.since placed in omega (arith, (owner_in story s.0 q s.2).0) in
      let upto : is_placed a ≡ true → a.at ≤ last_step story = λ placed. let u = h.upto placed in omega (arith, (owner_in story u.0 q u.2).1) in
      record {
        what = h.what;
        asked_so = h.asked_so;
        command = h.command;
        first = (owner_stays story o answer a.first q h.first.0, λ m own. elim (owner_cases story o answer m q own) [ inl (le, was) ↦ h.first.1 m was | inr (last, is) ↦ absurd (other is) ]);
        last = (owner_stays story o answer a.last q h.last.0, λ m own. elim (owner_cases story o answer m q own) [ inl (le, was) ↦ h.last.1 m was | inr (last, is) ↦ absurd (other is) ]);
        since = λ placed. let s = h.since placed in (s.0, s.1, owner_stays story o answer s.0 q s.2);
        upto = λ placed. let u = h.upto placed in (u.0, u.1, owner_stays story o answer u.0 q u.2);
        looked = λ placed look. h.looked placed look ∙ ap (reply_in quotas h.what) (sym (same_maps a.at (since placed) (upto placed)));
        changed_so = λ placed change. let c = h.changed_so placed change in (g.changes a.at (since placed) (upto placed) ∙ c.0, owner_stays story o answer a.at q c.1);
      }

  -- where the new step made a change, no earlier step of its operation did
  both_changes : (m n q : ℕ) → now_changed m ≡ true → now_changed n ≡ true → owner (with_step story o answer) m ≡ Some q → owner (with_step story o answer) n ≡ Some q → m ≡ n
  both_changes m n q e f own owns = by (owner_cases story o answer m q own) (owner_cases story o answer n q owns)
    where
      before : (k : ℕ) → now_changed k ≡ true → k ≤ last_step story → owner story k ≡ Some q → changed k ≡ true
      before k ek le at = let inside = owner_in story k q at in sym (g.changes k (omega arith) le) ∙ ek

      never : (k l : ℕ) → now_changed k ≡ true → now_changed l ≡ true → k ≤ last_step story → owner story k ≡ Some q → l ≡ suc (last_step story) → q ≡ o → ⊥
      never k l ek el le at last is = g.first_change k (subst (λ n. now_changed n ≡ true) last el) (before k ek le at) (at ∙ ap (λ n. Some n) is)

      by : OwnsAt story o q m → OwnsAt story o q n → m ≡ n
      by (inl (le, at)) (inl (lo, too)) = r.once m n q (before m e le at) (before n f lo too) at too
      by (inr (last, is)) (inr (end, so)) = last ∙ sym end
      by (inl (le, at)) (inr (last, is)) = absurd (never m n e f le at last is)
      by (inr (last, is)) (inl (le, at)) = absurd (never n m f e le at last is)

  -- an operation's end is its last step
  last_ends : (m k q : ℕ) (a : Answer) → step_of (with_step story o answer) m ≡ Some (record { op = q; answer = Some a }) → owner (with_step story o answer) k ≡ Some q → k ≤ m
  last_ends m k q a e own = by (step_cases story o answer m _ e) (owner_cases story o answer k q own)
    where
      by : EndsAt story o answer q m a → OwnsAt story o q k → k ≤ m
      by (inl (le, at)) (inl (lo, was)) = r.last_end m k q a at was
      by (inl (le, at)) (inr (last, is)) = absurd (g.open_still a (subst (λ n. Finished story n a) is (m, at)))
      by (inr (last, is)) (inl (lo, was)) = omega arith
      by (inr (last, is)) (inr (end, so)) = omega arith

  -- an old scan is as lawful by the longer story
  scan_stays : (q : ℕ) (a : Answer) (w : Asked) → Finished story q a → story.asked q ≡ Some w → IsLawfulScan (now_at w.tenant) (IsBetween (with_step story o answer) q) w.command a.reply
  scan_stays q a w done asked_w =
      let other : (q ≡ o) → ⊥ = λ is. g.open_still a (subst (λ n. Finished story n a) is done) in
      let before : (k : ℕ) → owner (with_step story o answer) k ≡ Some q → owner story k ≡ Some q = λ k at. elim (owner_cases story o answer k q at) [ inl (le, was) ↦ was | inr (last, is) ↦ absurd (other is) ] in
      lawful_by (map_at w.tenant) (now_at w.tenant) (IsBetween story q) (IsBetween (with_step story o answer) q)
      (λ m b. sym (g.maps w.tenant m (omega (arith, b.0.1, (owner_in story b.0.0 q b.0.2).0)) (omega (arith, b.1.1, (owner_in story b.1.0 q b.1.2).1))))
      (λ m b. ((b.0.0, b.0.1, owner_stays story o answer b.0.0 q b.0.2), (b.1.0, b.1.1, owner_stays story o answer b.1.0 q b.1.2)))
      (λ m b. ((b.0.0, b.0.1, before b.0.0 b.0.2), (b.1.0, b.1.1, before b.1.0 b.1.2)))
      w.command a.reply (r.scans q a w done asked_w)

  -- a story that grows by a step stays right
  pub right_step : Right quotas first (with_step story o answer) now_at now_changed
  right_step = record {
    start = λ t. g.maps t story.base (omega arith) (omega arith) ∙ r.start t;
    stays = λ m t from le e. elim (cases_lt m (last_step story)) [
      | inl lt ↦ g.maps t (suc m) (omega arith) lt ∙ r.stays m t from lt (sym (g.changes (suc m) (omega arith) lt) ∙ e) ∙ sym (g.maps t m from (omega arith))
      | inr ge ↦
          let last : last_step story ≡ m = omega (arith, more_steps story o answer) in
          subst (λ n. now_at t (suc n) ≡ now_at t n) last (g.quiet t (subst (λ n. now_changed (suc n) ≡ false) (sym last) e))
    ];
    changes = λ m from le e. elim (cases_lt m (last_step story)) [
      | inl lt ↦ let old : changed (suc m) ≡ true = sym (g.changes (suc m) (omega arith) lt) ∙ e in change_stays m from lt old (r.changes m from lt old)
      | inr ge ↦
          let last : last_step story ≡ m = omega (arith, more_steps story o answer) in
          subst (IsChangeAfter quotas (with_step story o answer) now_at) last (g.change (subst (λ n. now_changed (suc n) ≡ true) (sym last) e))
    ];
    once = both_changes;
    last_end = last_ends;
    answers = λ q a done. elim (finished_cases story o answer q a done) [
      | inl before ↦ answer_stays q a before (r.answers q a before)
      | inr (is, now) ↦ subst (λ n. IsAnswered quotas (with_step story o answer) now_at now_changed n a) (sym is) (g.answered a now)
    ];
    scans = λ q a w done asked_w. elim (finished_cases story o answer q a done) [
      | inl before ↦ scan_stays q a w before asked_w
      | inr (is, now) ↦ subst (λ n. IsLawfulScan (now_at w.tenant) (IsBetween (with_step story o answer) n) w.command a.reply) (sym is) (g.scanned a w now (subst (λ n. story.asked n ≡ Some w) is asked_w))
    ];
  }
