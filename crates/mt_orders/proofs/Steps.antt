-- A numbered step keeps what is remembered of a history: for Happenings.
use Rattle.std.proofs.Common.{◌≡◌, ◌≢◌, ℕ, suc, ◌<◌, ◌≤◌, inl, inr, Bool, true, cond, leb, Option, Some, IsSome, sym, ap, subst, ◌∙◌, arith}
use Rattle.std.proofs.{lemmas.Bool.{cases_lt, cases_eq, le-leb, lt-leb}, lemmas.Option.same_Some}
use Rattle.mt_rows.specs.Maps.{Map, is_change}
use Rattle.mt_tape.proofs.EntryLaws.{floor_upto_last, all_upto_last}
use Rattle.mt_runs.specs.{declared.event.Answer.Answer, Runs.{Story, last_step, owner, with_step, IsBetween}, Placings.{Quotas, Maps, reply_in, maps_after_one}}
use Rattle.mt_runs.specs.Right.{Right, IsChangeAfter, IsGrowth, maps_at}
use Rattle.mt_runs.proofs.{Lawful.lawful_by, Growth.right_step, Steps.{step_in, old_step, owner_stays, owner_cases, finished_cases, more_steps}}
use Rattle.mt_operation.{specs.Operations.OperationView, proofs.Tables.{set_is, set_there}}
use Rattle.mt_state.specs.{Views.{StateView, op_at, map_of, changed_at}, Promises.IsStep, Begins.IsAnswerOf, Histories.StoryTells}
use Rattle.mt_state.proofs.{Granted.quota_stays, HistoryMaps.AreMade}
use Rattle.mt_core.specs.Rights.{IsRightState}
use Rattle.mt_orders.{specs.Stories.Ids, proofs.{Past.{Knows, Remembers}, Growths.{growth, own_told}}}
use mathlib.Core.Path.{fun_ext}

-- the entries of a right state's tape are of steps that were made
pub made_right : (v : StateView) → IsRightState v → AreMade v.tape.entries v.steps
made_right v r = λ k d lt. let up = all_upto_last v.tape.floor v.tape.entries r.tape.rises k d lt in omega (arith, up, r.tape.made)

-- and its floor is a step that was made
pub floor_right : (v : StateView) → IsRightState v → v.tape.floor ≤ v.steps
floor_right v r = let low = floor_upto_last v.tape.floor v.tape.entries r.tape.rises in omega (arith, low, r.tape.made)

-- a change by maps that are the same before and after it
change_by : (quotas : Quotas) (story : Story) (map_at now_at : ℕ → ℕ → Map) (m : ℕ) → ((t : ℕ) → now_at t m ≡ map_at t m) → ((t : ℕ) → now_at t (suc m) ≡ map_at t (suc m))
    → IsChangeAfter quotas story map_at m → IsChangeAfter quotas story now_at m
change_by quotas story map_at now_at m same next c =
    let all : maps_at now_at m ≡ maps_at map_at m = fun_ext same in
    record {
      op = c.op;
      own = c.own;
      what = c.what;
      asked_so = c.asked_so;
      not_scan = c.not_scan;
      changes = subst (λ (w : Maps). is_change (reply_in quotas c.what w) ≡ true) (sym all) c.changes;
      makes = λ t. next t ∙ c.makes t ∙ ap (λ w. maps_after_one quotas (suc m) (Some c.what) w t) (sym all);
      told = λ a fin. let w = c.told a fin in (w.0, w.1 ∙ ap (reply_in quotas c.what) (sym all), w.2);
    }

-- what is known of an operation, by changes that are the same at its own steps
knows_by : (story : Story) (changed now_changed : ℕ → Bool) (name : ℕ) (op : OperationView) → ((m : ℕ) → owner story m ≡ Some name → now_changed m ≡ changed m)
    → Knows story changed name op → Knows story now_changed name op
knows_by story changed now_changed name op same k = record {
  asked_so = k.asked_so;
  first = k.first;
  last = k.last;
  still = k.still;
  unfinished = k.unfinished;
  ended = k.ended;
  changes = λ m e own. k.changes m (sym (same m own) ∙ e) own;
  own = k.own;
  placed = k.placed;
}

module _ (quotas : Quotas) (first : Maps) (story : Story) (place : ℕ) (ids : Ids) (old new : StateView) (name n : ℕ) (done : Bool) (answer : Option Answer)
    (h : Remembers quotas first story place ids old) (right : IsRightState old) (s : IsStep old new n done) (named : ids n ≡ Some name) (k : Knows story h.changed name s.before)
    (ends : (a : Answer) → answer ≡ Some a → IsAnswerOf s.after a) (answers : done ≡ true → IsSome answer) where
  made : AreMade old.tape.entries old.steps
  made = made_right old right

  floor_made : old.tape.floor ≤ last_step story
  floor_made = let low = floor_right old right in omega (arith, low, h.count)

  -- the operation's own steps come after the floor
  over : (m : ℕ) → owner story m ≡ Some name → old.tape.floor < m
  over m own = elim (cases_lt 0 s.before.first) [
    | inl lt ↦ let upto = (k.first lt).1 m own in let low = (right.operations n s.before s.there).floor lt in omega (arith, upto, low)
    | inr le ↦ absurd (k.still (omega (arith, le)) m own)
  ]

  over_now : (m : ℕ) → owner (with_step story name answer) m ≡ Some name → old.tape.floor < m
  over_now m own = elim (owner_cases story name answer m name own) [
    | inl (le, was) ↦ over m was
    | inr (last, is) ↦ omega (arith, last, floor_made)
  ]

  -- as the state tells it
  told_before : StoryTells story old name s.before
  told_before = record {
    asked_so = k.asked_so;
    first = k.first;
    last = k.last;
    still = k.still;
    unfinished = k.unfinished s.unfinished;
    changes = λ m e own. k.changes m (h.changes m (over m own) ∙ e) own;
    own = k.own;
    placed = k.placed;
  }

  -- the past with this step: up to the step before it what it was, and then what the state has
  abbrev map_now : ℕ → ℕ → Map
  map_now t m = cond (leb m (last_step story)) (h.map_at t m) (map_of new t m)

  abbrev changed_now : ℕ → Bool
  changed_now m = cond (leb m (last_step story)) (h.changed m) (changed_at new m)

  map_before : (t m : ℕ) → m ≤ last_step story → map_now t m ≡ h.map_at t m
  map_before t m le = ap (λ b. cond b (h.map_at t m) (map_of new t m)) (le-leb m (last_step story) le)

  map_since : (t m : ℕ) → last_step story < m → map_now t m ≡ map_of new t m
  map_since t m lt = ap (λ b. cond b (h.map_at t m) (map_of new t m)) (lt-leb m (last_step story) lt)

  change_before : (m : ℕ) → m ≤ last_step story → changed_now m ≡ h.changed m
  change_before m le = ap (λ b. cond b (h.changed m) (changed_at new m)) (le-leb m (last_step story) le)

  change_since : (m : ℕ) → last_step story < m → changed_now m ≡ changed_at new m
  change_since m lt = ap (λ b. cond b (h.changed m) (changed_at new m)) (lt-leb m (last_step story) lt)

  -- it agrees with the state from the floor on
  agree : (t m : ℕ) → old.tape.floor ≤ m → map_now t m ≡ map_of new t m
  agree t m from = elim (cases_lt (last_step story) m) [
    | inl lt ↦ map_since t m lt
    | inr le ↦ map_before t m le ∙ h.maps t m from ∙ sym (s.grows.maps t m (omega (arith, le, h.count)))
  ]

  agree_changes : (m : ℕ) → old.tape.floor < m → changed_now m ≡ changed_at new m
  agree_changes m from = elim (cases_lt (last_step story) m) [
    | inl lt ↦ change_since m lt
    | inr le ↦ change_before m le ∙ h.changes m from ∙ sym (s.grows.changes m (omega (arith, le, h.count)))
  ]

  -- so do the maps of all tenants
  same_past : (m : ℕ) → old.tape.floor ≤ m → maps_at (map_of old) m ≡ maps_at h.map_at m
  same_past m from = fun_ext (λ t. sym (h.maps t m from))

  same_now : (m : ℕ) → old.tape.floor ≤ m → maps_at (map_of new) m ≡ maps_at map_now m
  same_now m from = fun_ext (λ t. sym (agree t m from))

  -- what the step did, by the state, and by the past
  by_state : IsGrowth quotas story (map_of old) (map_of new) (changed_at old) (changed_at new) name answer
  by_state = growth quotas story old new name n done answer h.quota h.count made s told_before ends

  by_past : IsGrowth quotas story h.map_at map_now h.changed changed_now name answer
  unfolding change_by
  by_past =
      let here = agree_changes (suc (last_step story)) (omega (arith, floor_made)) in
      record {
        maps = λ t m from le. map_before t m le;
        changes = λ m from le. change_before m le;
        open_still = by_state.open_still;
        quiet = λ t e.
            map_since t (suc (last_step story)) (omega arith) ∙ by_state.quiet t (sym here ∙ e) ∙ sym (agree t (last_step story) floor_made);
        change = λ e. change_by quotas (with_step story name answer) (map_of new) map_now (last_step story) (λ t. agree t (last_step story) floor_made)
            (λ t. map_since t (suc (last_step story)) (omega arith)) (by_state.change (sym here ∙ e));
        first_change = λ m e f own. by_state.first_change m (sym here ∙ e) (sym (h.changes m (over m own)) ∙ f) own;
        told = λ m a c e now same.
            let low = over (suc m) (c.own ∙ ap (λ q. Some q) same) in
            let was = change_by quotas story h.map_at (map_of old) m (λ t. sym (h.maps t m (omega (arith, low)))) (λ t. sym (h.maps t (suc m) (omega (arith, low)))) c in
            let so = by_state.told m a was (sym (h.changes (suc m) low) ∙ e) now same in
            (so.0, so.1 ∙ ap (reply_in quotas c.what) (same_past m (omega (arith, low))), so.2);
        answered = λ a now. let w = by_state.answered a now in record {
          what = w.what;
          asked_so = w.asked_so;
          command = w.command;
          first = w.first;
          last = w.last;
          since = w.since;
          upto = w.upto;
          looked = λ placed look.
              let begun = w.since placed in
              let low = over_now begun.0 begun.2 in
              w.looked placed look ∙ ap (reply_in quotas w.what) (same_now a.at (omega (arith, low, begun.1)));
          changed_so = λ placed is. let c = w.changed_so placed is in (agree_changes a.at (over_now a.at c.1) ∙ c.0, c.1);
        };
        scanned = λ a w now asked_w.
            lawful_by (map_of new w.tenant) (map_now w.tenant) (IsBetween (with_step story name answer) name) (IsBetween (with_step story name answer) name)
            (λ m b. let low = over_now b.0.0 b.0.2 in sym (agree w.tenant m (omega (arith, low, b.0.1)))) (λ m b. b) (λ m b. b)
            w.command a.reply (by_state.scanned a w now asked_w);
      }

  right_now : Right quotas first (with_step story name answer) map_now changed_now
  right_now = right_step quotas first story h.map_at map_now h.changed changed_now name answer h.right by_past

  -- the operation that stepped
  own_known : Knows (with_step story name answer) changed_now name s.after
  own_known = knows_by (with_step story name answer) (changed_at new) changed_now name s.after (λ m own. agree_changes m (over_now m own))
      (own_told quotas story old new name n done answer h.quota h.count made s told_before ends answers)

  -- and any other
  other_known : (q : ℕ) (op : OperationView) → q ≢ name → Knows story h.changed q op → Knows (with_step story name answer) changed_now q op
  other_known q op other w = record {
    asked_so = w.asked_so;
    first = λ lt. (owner_stays story name answer op.first q (w.first lt).0, λ m own. (w.first lt).1 m (before m own));
    last = λ lt. (owner_stays story name answer op.last q (w.last lt).0, λ m own. (w.last lt).1 m (before m own));
    still = λ none m own. w.still none m (before m own);
    unfinished = λ left a fin. elim (finished_cases story name answer q a fin) [
      | inl before ↦ w.unfinished left a before
      | inr (is, now) ↦ other is
    ];
    ended = λ all.
        let e = w.ended all in
        (e.0, e.1, (e.2.0, old_step story name answer e.2.0 (step_in story.base story.steps e.2.0 _ e.2.1).1 ∙ e.2.1));
    changes = λ m e own. elim (owner_cases story name answer m q own) [
      | inl (le, was) ↦ w.changes m (sym (change_before m le) ∙ e) was
      | inr (last, is) ↦ absurd (other is)
    ];
    own = λ m e. owner_stays story name answer m q (w.own m e);
    placed = w.placed;
  }
    where
      before : (m : ℕ) → owner (with_step story name answer) m ≡ Some q → owner story m ≡ Some q
      before m own = elim (owner_cases story name answer m q own) [
        | inl (le, was) ↦ was
        | inr (last, is) ↦ absurd (other is)
      ]

  -- the operation that stepped is the one at its id
  there : op_at new.table n ≡ Some s.after
  there = ap (λ t. op_at t n) s.table ∙ set_is old.table n s.after s.before s.there

  elsewhere : (m : ℕ) → m ≢ n → op_at new.table m ≡ op_at old.table m
  elsewhere m ne = ap (λ t. op_at t m) s.table ∙ set_there old.table n m (Some s.after) ne

  -- a step keeps it
  pub remembers_step : Remembers quotas first (with_step story name answer) (suc place) ids new
  remembers_step = record {
    map_at = map_now;
    changed = changed_now;
    right = right_now;
    maps = λ t m from. agree t m (omega (arith, from, s.floor));
    changes = λ m from. agree_changes m (omega (arith, from, s.floor));
    quota = λ t. quota_stays old new s.grows t ∙ h.quota t;
    count = omega (arith, more_steps story name answer, h.count, s.number);
    known = λ m op at. elim (cases_eq m n) [
      | inl is ↦
          let same : s.after ≡ op = same_Some s.after op (sym there ∙ ap (op_at new.table) (sym is) ∙ at) in
          (name, ap ids is ∙ named, subst (Knows (with_step story name answer) changed_now name) same own_known)
      | inr ne ↦
          let w = h.known m op (sym (elsewhere m ne) ∙ at) in
          (w.0, w.1, other_known w.0 op (λ is. ne (h.apart m n name (w.1 ∙ ap (λ q. Some q) is) named)) w.2)
    ];
    apart = h.apart;
    given = λ m q e. let low = h.given m q e in omega (arith, low);
    free = λ q le. h.free q (omega (arith, le));
    owners = λ m q own. elim (owner_cases story name answer m q own) [
      | inl (le, was) ↦ let low = h.owners m q was in omega (arith, low)
      | inr (last, is) ↦ let low = h.given n name named in omega (arith, low, is)
    ];
  }
