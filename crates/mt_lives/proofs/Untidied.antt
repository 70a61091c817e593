-- A state as it would be if it had given up no write of its life: what happens to the state, happens to that one too.
use Rattle.std.proofs.Common.{◌≡◌, ◌≢◌, ℕ, ◌+◌, ◌-◌, ◌<◌, ◌≤◌, ◌⊎◌, ◌||◌, Bool, true, false, cond, eqb, ◌∷◌, [], ◌++◌, List, Option, Some, None, refl, sym, ap, subst, ◌∙◌, arith, inl, inr}
use Rattle.std.proofs.{lemmas.Bool.{cases_lt, eqb-false}, lemmas.List.append_assoc, lemmas.List.Elements.Contains-append_right, lemmas.List.Folds.list_any-append}
use Rattle.std.specs.{List.All, FinMap.get}
use Rattle.mt_rows.specs.{declared.command.Command.Command, declared.refusal.Refusal.Refusal, declared.refusal.Refusal.TheVariants.{NoTenant, Spent as SpentRefusal}}
use Rattle.mt_rows.specs.{Rows.Bytes, Commands.key_of, Stamps.Stamped, Maps.{Map, reply_of}, Tenants.{tenant_map}}
use Rattle.mt_slices.specs.Keys.{stored_key}
use Rattle.mt_tape.specs.{declared.entry.Entry.{Entry}, Tapes.{RisesOver, later_entries}, Histories.{undone, contents_at, is_changed}}
use Rattle.mt_tape.proofs.EntryLaws.{floor_upto_last, rises-push}
use Rattle.mt_runs.{specs.{declared.event.Answer.Answer, declared.event.Event.Event, declared.event.Event.TheVariants.{Begin, Step}, declared.event.Told.{Told as Answered}}, proofs.Lawful.lawful_by}
use Rattle.mt_runs.specs.declared.event.Told.TheVariants.{Begun, Refused, NoSuch, Moved, Again, NoMemory, Spent, Done as Ended}
use Rattle.mt_walks.specs.Walked.{IsWithin}
use Rattle.mt_arena.specs.Arena.{ArenaView}
use Rattle.mt_operation.specs.declared.phase.Phase.{Phase}
use Rattle.mt_operation.specs.declared.phase.Phase.TheVariants.{Enter, Search, Load, Confirm, Forward, Judge, Store, Publish, SplitStart, SplitMove, MakeLayer, DropKey, Unlock, Snap, Check, Hop, Done}
use Rattle.mt_operation.{specs.{declared.walk.Walk.Walk, declared.outcome.Outcome.Outcome, Operations.OperationView}, proofs.Tables.set_here}
use Rattle.mt_state.specs.{Views.{StateView, contents_of, op_at, map_of, changed_at, quota_of}, Given.ChangesArena}
use Rattle.mt_state.specs.Notes.{LacksKey, HasLink, StoodSince, ShowsRow, ShowsNone, EndsJudging, Notes}
use Rattle.mt_state.specs.{Promises.{IsQuiet, IsPlacing, IsAnswer, IsStep, IsHeldByOther, IsPlacedToGrow}, Refused.{IsAdmissible, IsRefusal}, Begins.{IsAnswerOf, Takes}}
use Rattle.mt_state.specs.Histories.{Names, TellsEvent}
use Rattle.mt_state.proofs.HistoryMaps.{unchanged-after}
use Rattle.mt_core.specs.Rights.{IsRightState}
use Rattle.mt_lives.{specs.Earlier.untidied, proofs.{Served.same_maps, Tapes.{whole_since, whole_before}}}

-- ---- what is said of a state

module _ (gone : List Entry) (base floor : ℕ) (over : All (λ e. e.step ≤ floor) gone) (v : StateView) where
  abbrev whole : StateView
  whole = untidied gone base v

  -- from the floor on its maps and its changes are those of the state
  map_since : (t m : ℕ) → floor ≤ m → map_of whole t m ≡ map_of v t m
  map_since t m from = ap (tenant_map t) (whole_since floor m gone v.tape.entries (contents_of v) over from)

  change_since : (m : ℕ) → floor < m → changed_at whole m ≡ changed_at v m
  change_since m from =
      list_any-append (λ (e : Entry). eqb e.step m) gone v.tape.entries
      ∙ ap (λ b. b || changed_at v m) (unchanged-after gone floor m from over)

  -- an answer that is right by the one is right by the other
  answer_so : (op : OperationView) (told : Outcome) → floor < op.first → IsAnswer v op told → IsAnswer whole op told
  answer_so op told low w =
      let since = w.since in
      record {
        begun = w.begun;
        since = w.since;
        upto = w.upto;
        placed = λ real plain.
            let p = w.placed real plain in
            record {
              changes = λ is. (
                change_since told.at (omega (arith, low, since)) ∙ (p.changes is).0,
                (p.changes is).1 ∙ ap (reply_of (quota_of v op.tenant) op.command) (sym (map_since op.tenant (told.at - 1) (omega (arith, low, since)))),
              );
              looks = λ look. p.looks look ∙ ap (reply_of (quota_of v op.tenant) op.command) (sym (map_since op.tenant told.at (omega (arith, low, since))));
            };
        lawful =
            lawful_by (map_of v op.tenant) (map_of whole op.tenant) (IsWithin op.first op.last) (IsWithin op.first op.last)
            (λ m within. let from = within.0 in sym (map_since op.tenant m (omega (arith, low, from)))) (λ m within. within) (λ m within. within)
            op.command told.reply w.lawful;
      }

  -- the notes of a step
  lacks_so : (w : Walk) (key : Bytes) → LacksKey v w key → LacksKey whole w key
  lacks_so w key l = record { through = l.through; there = l.there; tree_is = l.tree_is; border = l.border; from = l.from; missing = l.missing }

  stood_so : (op : OperationView) (row : Stamped) (number : ℕ) → floor ≤ number → StoodSince v op row number → StoodSince whole op row number
  stood_so op row number low s = record {
    key = s.key;
    there = s.there;
    made = s.made;
    stood = λ m from. ap (λ (c : Map). get c s.key.1) (map_since s.key.0 m (omega (arith, low, from))) ∙ s.stood m from;
    wrote = λ later. let e = s.wrote later in (e.0, Contains-append_right gone v.tape.entries e.0 e.1, e.2, e.3, e.4);
    own = s.own;
  }

  shows_so : (op : OperationView) (told : Option Outcome) → floor < op.first → ShowsRow v op told → ShowsRow whole op told
  shows_so op told low s =
      let since = s.since in
      let from : floor ≤ s.number = omega (arith, low, since) in
      record {
        columns = s.columns;
        asked = s.asked;
        row = s.row;
        number = s.number;
        says = s.says;
        from = s.from;
        since = s.since;
        live = λ within. stood_so op s.row s.number from (s.live within);
        dropped = λ out stands.
            let had = s.dropped out stands in
            (had.0, ap (λ (c : Map). get c (key_of op.command)) (map_since op.tenant s.number from) ∙ had.1);
      }

  none_so : (op : OperationView) (told : Option Outcome) → ShowsNone v op told → ShowsNone whole op told
  none_so op told s = by s.why
    where
      by : HasLink v op.walk (stored_key op.tenant (key_of op.command)) ⊎ (op.last ≢ v.steps) → ShowsNone whole op told
      by (inl link) = record { none = s.none; why = inl (record { there = link.there; in_slot = link.in_slot }) }
      by (inr later) = record { none = s.none; why = inr later }

  ends_so : (op : OperationView) (had told : Option Outcome) → EndsJudging had v op told → EndsJudging had whole op told
  ends_so op None told (inl stopped) = inl stopped
  ends_so op None told (inr (inl misses)) = inr (inl misses)
  ends_so op None told (inr (inr stale)) = inr (inr (record { stale = stale.stale; says = stale.says }))
  ends_so op (Some had) told same = same

  notes_so : (op : OperationView) (p q : Phase) (told : Option Outcome) → (p ≡ Load → floor < op.first) → Notes v op p q told → Notes whole op p q told
  notes_so op Search Confirm told low n = record { says = n.says; lacks = lacks_so op.walk (stored_key op.tenant (key_of op.command)) n.lacks }
  notes_so op Load Confirm told low (inl row) = inl (shows_so op told (low refl) row)
  notes_so op Load Confirm told low (inr none) = inr (none_so op told none)
  notes_so op Load Done told low n = n
  notes_so op Confirm Enter told low n = n
  notes_so op Confirm Forward told low n = n
  notes_so op Judge Done told low n = ends_so op op.outcome told n
  notes_so op Store Unlock told low n = n
  notes_so op Publish Unlock told low n = n
  notes_so op SplitStart Done told low n = n
  notes_so op SplitMove q told low n = n
  notes_so op MakeLayer Done told low n = n
  notes_so op DropKey q told low n = n
  notes_so op Snap Done told low n = n
  notes_so op Check Done told low n = n
  notes_so op Check q told low n = n
  notes_so op Hop q told low n = n
  notes_so op p q told low n = n

  -- the arena and the operations are the same
  arena_so : (o : ℕ) (new : ArenaView) → ChangesArena v o new → ChangesArena whole o new
  arena_so o new a = record {
    mid = a.mid;
    gives = record { least = a.gives.least; before = a.gives.before; given = a.gives.given; contents = a.gives.contents; lists = a.gives.lists };
    step = a.step;
    retires = a.retires;
    last = record { nodes = a.last.nodes; trees = a.last.trees };
  }

  held_so : (o holder : ℕ) → IsHeldByOther v o holder → IsHeldByOther whole o holder
  held_so o holder h = record { other = h.other; unfinished = h.unfinished; op = h.op; there = h.there; holds = h.holds }

  grows_so : (o : ℕ) → IsPlacedToGrow v o → IsPlacedToGrow whole o
  grows_so o h = record { op = h.op; there = h.there; grows = h.grows; told = h.told }

  admits_so : (tenant : ℕ) (command : Command) → IsAdmissible v tenant command → IsAdmissible whole tenant command
  admits_so tenant command a = record { there = a.there; taken = a.taken; numbered = a.numbered }

  refuses_so : (tenant : ℕ) (command : Command) (refusal : Refusal) → IsRefusal v tenant command refusal → IsRefusal whole tenant command refusal
  refuses_so tenant command (NoTenant named) r = r
  refuses_so tenant command SpentRefusal r = r
  refuses_so tenant command refusal r = r

-- ---- a step

module _ (gone : List Entry) (base : ℕ) (old new : StateView) (n : ℕ) (done : Bool) (right : IsRightState old) (over : All (λ e. e.step ≤ old.tape.floor) gone)
    (starts : (op : OperationView) → op_at old.table n ≡ Some op → op.first ≡ 0 → op.phase ≡ Enter) (s : IsStep old new n done) where
  floor_made : old.tape.floor ≤ old.steps
  floor_made = let low = floor_upto_last old.tape.floor old.tape.entries right.tape.rises in omega (arith, low, right.tape.made)

  rises_by : IsQuiet old new s.before s.after ⊎ IsPlacing old new s.before s.after → RisesOver old.tape.floor new.tape.entries
  rises_by (inl q) = subst (RisesOver old.tape.floor) (sym q.entries) right.tape.rises
  rises_by (inr p) = subst (RisesOver old.tape.floor) (sym p.pushes)
      (rises-push old.tape.floor old.tape.entries p.entry right.tape.rises (omega (arith, right.tape.made, p.step)))

  since : (m : ℕ) → m ≤ old.steps → contents_at new.tape.entries (contents_of new) m ≡ contents_at old.tape.entries (contents_of old) m
  since m le = same_maps _ _ (λ t. s.grows.maps t m le)

  -- the pairs after each step before it are as they were
  pub whole_same : (m : ℕ) → m ≤ old.steps → contents_at (gone ++ new.tape.entries) (contents_of new) m ≡ contents_at (gone ++ old.tape.entries) (contents_of old) m
  whole_same m le = elim (cases_lt m old.tape.floor) [
    | inl lt ↦
        whole_before old.tape.floor m gone new.tape.entries (contents_of new) (rises_by s.effect) (omega (arith, lt))
        ∙ ap (undone (later_entries m gone)) (since old.tape.floor floor_made)
        ∙ sym (whole_before old.tape.floor m gone old.tape.entries (contents_of old) right.tape.rises (omega (arith, lt)))
    | inr ge ↦
        whole_since old.tape.floor m gone new.tape.entries (contents_of new) over ge ∙ since m le
        ∙ sym (whole_since old.tape.floor m gone old.tape.entries (contents_of old) over ge)
  ]

  -- the tape goes back before the operation's first step
  pub first_over : old.tape.floor < s.after.first
  first_over = subst (λ m. old.tape.floor < m) (sym s.moves.first) (by (eqb s.before.first 0) refl)
    where
      by : (b : Bool) → eqb s.before.first 0 ≡ b → old.tape.floor < cond b (old.steps + 1) s.before.first
      by true e = omega (arith, floor_made)
      by false e = let ne = eqb-false s.before.first 0 e in (right.operations n s.before s.there).floor (omega (arith, ne))

  loads : s.before.phase ≡ Load → old.tape.floor < s.before.first
  loads is = elim (cases_lt 0 s.before.first) [
    | inl lt ↦ (right.operations n s.before s.there).floor lt
    | inr le ↦ let not : Enter ≡ Load = sym (starts s.before s.there (omega (arith, le))) ∙ is in absurd (cc)
  ]

  effect_so : IsQuiet old new s.before s.after ⊎ IsPlacing old new s.before s.after
      → IsQuiet (untidied gone base old) (untidied gone base new) s.before s.after ⊎ IsPlacing (untidied gone base old) (untidied gone base new) s.before s.after
  effect_so (inl q) = inl (record { contents = q.contents; entries = ap (λ es. gone ++ es) q.entries; change = q.change })
  effect_so (inr p) = inr
      (record {
        reply = p.reply;
        told = p.told;
        changes = p.changes;
        outcome = p.outcome;
        makes = p.makes;
        writes = p.writes;
        entry = p.entry;
        pushes = ap (λ es. gone ++ es) p.pushes ∙ sym (append_assoc gone old.tape.entries (p.entry ∷ []));
        step = p.step;
        worker = p.worker;
        tenant = p.tenant;
        key_is = p.key_is;
      })

  pub step_so : IsStep (untidied gone base old) (untidied gone base new) n done
  step_so = record {
    before = s.before;
    after = s.after;
    there = s.there;
    unfinished = s.unfinished;
    moves = s.moves;
    notes = notes_so gone base old.tape.floor over old s.before s.before.phase s.after.phase s.after.outcome loads s.notes;
    table = s.table;
    number = s.number;
    answers = s.answers;
    logs = s.logs;
    grows = record {
      steps = s.grows.steps;
      quotas = s.grows.quotas;
      maps = λ t m le. ap (tenant_map t) (whole_same m le);
      changes = λ m le.
          list_any-append (λ (e : Entry). eqb e.step m) gone new.tape.entries
          ∙ ap (λ b. is_changed gone m || b) (s.grows.changes m le)
          ∙ sym (list_any-append (λ (e : Entry). eqb e.step m) gone old.tape.entries);
    };
    arena = arena_so gone base old.tape.floor over old n new.arena s.arena;
    touches = s.touches;
    effect = effect_so s.effect;
    ends = s.ends;
    answer = λ is. let w = s.answer is in (w.0, w.1, answer_so gone base old.tape.floor over new s.after w.0 first_over w.2);
    present = λ t. map_since gone base old.tape.floor over new t new.steps (omega (arith, floor_made, s.number)) ∙ s.present t;
    floor = refl;
    makes = s.makes;
  }

  -- and its operation ends with the same answer
  pub answer_of : (a : Answer) → IsAnswerOf s.after a → IsAnswerOf step_so.after a
  unfolding step_so
  answer_of a is = is

-- ---- a take

-- of an operation that has made its last step before
pub takes_now : (gone : List Entry) (base : ℕ) (v : StateView) → IsRightState v → All (λ e. e.step ≤ v.tape.floor) gone → (new : StateView) (n : ℕ) (a : Answer) → Takes v new n a
    → Takes (untidied gone base v) (untidied gone base new) n a
takes_now gone base v right over new n a t = record {
  op = t.op;
  there = t.there;
  told = t.told;
  right =
      answer_so gone base v.tape.floor over v t.op (record { reply = a.reply; at = a.at }) ((right.operations n t.op t.there).floor t.right.begun) t.right;
  gone = ap (untidied gone base) t.gone;
}

-- ---- events

module _ (gone : List Entry) (base : ℕ) (names : Names) (v : StateView) (right : IsRightState v) (over : All (λ e. e.step ≤ v.tape.floor) gone)
    (starts : (n : ℕ) (op : OperationView) → op_at v.table n ≡ Some op → op.first ≡ 0 → op.phase ≡ Enter) where
  abbrev to : StateView → StateView
  to = untidied gone base

  takes_so : (mid new : StateView) (n : ℕ) (a : Answer) → IsStep v mid n true → Takes mid new n a → Takes (to mid) (to new) n a
  takes_so mid new n a s t = record {
    op = t.op;
    there = t.there;
    told = t.told;
    right =
        answer_so gone base v.tape.floor over mid t.op (record { reply = a.reply; at = a.at })
        (subst (λ (op : OperationView). v.tape.floor < op.first) (sym same) (first_over gone base v mid n true right over (starts n) s)) t.right;
    gone = ap to t.gone;
  }
    where
      same : t.op ≡ s.after
      same = sym (set_here v.table n s.after t.op (ap (λ w. op_at w n) (sym s.table) ∙ t.there))

  -- the same event is answered so by both
  pub tells_so : (e : Event) (told : Answered) (new : StateView) (now : Names) → TellsEvent names v now new e told → TellsEvent names (to v) now (to new) e told
  tells_so (Begin o w tenant command) Begun new now t =
      let b = t.3 in
      (t.0, t.1, t.2, record { free = b.free; there = b.there; others = b.others; stands = ap to b.stands }, admits_so gone base v.tape.floor over v tenant command t.4)
  tells_so (Begin o w tenant command) (Refused refusal) new now t = (t.0, t.1, ap to t.2, refuses_so gone base v.tape.floor over v tenant command refusal t.3)
  tells_so (Begin o w tenant command) NoSuch new now t = (t.0, t.1, ap to t.2)
  tells_so (Step o) Moved new now t = (t.0, t.1, t.2, step_so gone base v new t.0 false right over (starts t.0) t.3)
  tells_so (Step o) (Ended a) new now t =
      (t.0, to t.1, t.2, t.3, step_so gone base v t.1 t.0 true right over (starts t.0) t.4, takes_so t.1 new t.0 a t.4 t.5)
  tells_so (Step o) (Again q) new now t = (t.0, t.1, t.2, t.3, held_so gone base v.tape.floor over v t.0 t.1 t.4, t.5, ap to t.6)
  tells_so (Step o) NoMemory new now t = (t.0, t.1, grows_so gone base v.tape.floor over v t.0 t.2, t.3, ap to t.4)
  tells_so (Step o) Spent new now t = (t.0, t.1, t.2, t.3, ap to t.4)
  tells_so (Step o) NoSuch new now t = (t.0, t.1, ap to t.2)
  tells_so e told new now t = absurd t
