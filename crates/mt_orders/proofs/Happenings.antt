-- Whatever happens to a state keeps what is remembered of its history, and stands in the story: for Explaining.
use Rattle.std.proofs.Common.{◌≡◌, ℕ, suc, ◌+◌, ◌<◌, ◌≤◌, inl, inr, ◌⊎◌, Bool, true, false, [], ◌∷◌, ◌++◌, Option, Some, None, Ok, Err, set, sym, refl, ap, subst, ◌∙◌, arith}
use Rattle.std.proofs.{lemmas.Bool.cases_eq, lemmas.Option.same_Some}
use Rattle.std.specs.Option.{option_map}
use Rattle.mt_rows.specs.{declared.command.Command.Command, Accounts.account_of}
use Rattle.mt_runs.specs.{declared.event.Answer.Answer, declared.event.Event.Event, declared.event.Event.TheVariants.{Step}, declared.event.Told.Told}
use Rattle.mt_runs.specs.{declared.event.Told.TheVariants.{Moved, Done}, Runs.{Run, Story, owner, Finished, story_of}, Placings.{Quotas, Maps}}
use Rattle.mt_runs.proofs.{Events.{story_begin, story_moved, story_done}, Steps.{owner_in}}
use Rattle.mt_operation.{specs.{declared.phase.Phase.Phase, declared.outcome.Outcome.Outcome, Operations.OperationView, Phases.is_done}, proofs.Tables.{set_is, set_there, set_none}}
use Rattle.mt_operation.specs.declared.phase.Phase.TheVariants as phases
use Rattle.mt_state.specs.{Views.{StateView, op_at, quota_in}, Promises.{IsStep}, Begins.{begun as before_any, Begins, IsAnswerOf, Takes}}
use Rattle.mt_core.specs.{declared.answers.Ticket.Ticket, Admitted.OpeningView, Rights.IsRightState, Tidies.{Leaves}}
use Rattle.mt_book.specs.{declared.gates.Turned.Turned, Periods.{Deed, Looked, Began, Rested, Stepped, Took, Kept}, Does.Did, Happens.{Happening, Acted, Opened, Given, Happens}}
use Rattle.mt_orders.specs.{Stories.{Ids, ids_by, ids_after, answer_of, answer_in, begin_by, done_by, event_by, event_of}, Explained.{IsMadeAt, IsTakenAt, StandsBy, Stands}}
use Rattle.mt_orders.proofs.{Past.{Remembers}, Steps.remembers_step, Quiet.{carried, remembers_same, remembers_begin, asked_here, unowned}, Longer.{followed_by, finished_more, deed_more}}
use Rattle.mt_state.specs.declared.moves.Move.TheVariants as moves

no_value : {A : Type 0} {a : A} → ◌≡◌ {A = Option A} None (Some a) → ⊥
no_value e = cc

done_is : (p : Phase) → is_done p ≡ true → p ≡ phases.Done
done_is phases.Done e = refl
done_is _ e = absurd (cc)

-- the event of a step that moved
abbrev moved_by : Option ℕ → Option (Event × Told)
moved_by name = option_map (λ n. (Step n, Moved)) name

-- two answers of one operation are one
same_answer : (op : OperationView) (a b : Answer) → IsAnswerOf op a → IsAnswerOf op b → a ≡ b
same_answer op a b x y =
    let told = same_Some _ _ (sym x.told ∙ y.told) in
    λ i. record {
      command = (x.command ∙ sym y.command) i;
      reply = ap (λ (o : Outcome). o.reply) told i;
      first = (x.first ∙ sym y.first) i;
      at = ap (λ (o : Outcome). o.at) told i;
      last = (x.last ∙ sym y.last) i;
    }

-- no operation is open that wasn't
pub record IsNoBegin (ids now : Ids) (old new : StateView) : Type 0 where
  pub same : now ≡ ids
  pub was : (n : ℕ) (op : OperationView) → op_at new.table n ≡ Some op → (before : OperationView) × (op_at old.table n ≡ Some before)

-- or one is, which stands in the story by the name of this place
pub record IsBegin (story : Story) (place : ℕ) (old new : StateView) : Type 0 where
  pub id : ℕ
  pub worker : ℕ
  pub tenant : ℕ
  pub command : Command
  pub begins : Begins old new id worker tenant command
  pub asked_so : story.asked place ≡ Some (record { tenant = tenant; command = command })
  pub later : (m : ℕ) → owner story m ≡ Some place → old.steps < m

-- what is remembered after a happening at a place
pub record Went (quotas : Quotas) (first : Maps) (place : ℕ) (ids now_ids : Ids) (old new : StateView) (story : Story) : Type 0 where
  pub now : Remembers quotas first story (suc place) now_ids new
  pub kind : IsNoBegin ids now_ids old new ⊎ IsBegin story place old new
  pub rises : old.steps ≤ new.steps

module _ (quotas : Quotas) (first : Maps) (base : ℕ) (before : Run) (place : ℕ) (ids : Ids) (old new : StateView)
    (h : Remembers quotas first (story_of base before) place ids old) (right : IsRightState old) where
  abbrev story : Story
  story = story_of base before

  abbrev Goes : Deed → Type 0
  Goes deed = Went quotas first place ids (ids_by place ids deed) old new (story_of base (followed_by before (event_by place ids new.table deed)))

  -- what begins nothing and makes no step
  quiet : Remembers quotas first story (suc place) ids new → new.steps ≡ old.steps → ((n : ℕ) (op : OperationView) → op_at new.table n ≡ Some op → op_at old.table n ≡ Some op)
      → Went quotas first place ids ids old new story
  quiet now steps table = record {
    now = now;
    kind = inl (record { same = refl; was = λ n op at. (op, table n op at) });
    rises = omega (arith, steps);
  }

  same : new ≡ old → Went quotas first place ids ids old new story
  same is = quiet (remembers_same quotas first story place ids old new h is) (ap (λ (v : StateView). v.steps) is) (λ n op at. ap (λ (v : StateView). op_at v.table n) (sym is) ∙ at)

  -- an opening that is begun
  began : (opening : OpeningView) (logs : ℕ) (ticket : Ticket) (next : Option Phase) (op : OperationView) → opening.made ≡ Ok op
      → Begins old new ticket.id op.worker op.tenant op.command → Goes (Began opening logs (Ok ticket) next)
  began opening logs ticket next op is b =
      let now_ids = ids_by place ids (Began opening logs (Ok ticket) next) in
      subst (λ w. Went quotas first place ids now_ids old new (story_of base (followed_by before (begin_by place w)))) (sym is)
      (subst (Went quotas first place ids now_ids old new) (sym (story_begin base before place op.worker op.tenant op.command)) (record {
        now = remembers_begin quotas first story place ids old new ticket.id op.worker op.tenant op.command h b;
        kind = inr (record {
          id = ticket.id;
          worker = op.worker;
          tenant = op.tenant;
          command = op.command;
          begins = b;
          asked_so = asked_here quotas first story place ids old new ticket.id op.worker op.tenant op.command h b;
          later = λ m own. absurd (unowned quotas first story place ids old new ticket.id op.worker op.tenant op.command h b m own);
        });
        rises = let steps = ap (λ (v : StateView). v.steps) b.stands in omega (arith, steps);
      }))

  -- no step opens an operation
  was_open : (id : ℕ) (done : Bool) → IsStep old new id done → (n : ℕ) (op : OperationView) → op_at new.table n ≡ Some op
      → (was : OperationView) × (op_at old.table n ≡ Some was)
  was_open id done s n op at = elim (cases_eq n id) [
    | inl is ↦ (s.before, ap (op_at old.table) is ∙ s.there)
    | inr ne ↦ (op, sym (set_there old.table id n (Some s.after) ne) ∙ ap (λ t. op_at t n) (sym s.table) ∙ at)
  ]

  -- a step after which its operation goes on
  moved : (id : ℕ) (turned : Turned) (next : Option Phase) → IsStep old new id false → Goes (Stepped id turned moves.Moved next)
  moved id turned next s =
      let w = h.known id s.before s.there in
      let event : event_by place ids new.table (Stepped id turned moves.Moved next) ≡ Some (Step w.0, Moved) = ap moved_by w.1 in
      subst (λ e. Went quotas first place ids ids old new (story_of base (followed_by before e))) (sym event)
      (subst (Went quotas first place ids ids old new) (sym (story_moved base before w.0)) (record {
        now = remembers_step quotas first story place ids old new w.0 id false None h right s w.1 w.2 (λ a e. absurd (no_value e)) (λ e. absurd (cc));
        kind = inl (record { same = refl; was = was_open id false s });
        rises = omega (arith, s.number);
      }))

  -- a step that ends it
  over : (id : ℕ) (turned : Turned) (next : Option Phase) → IsStep old new id true → Goes (Stepped id turned moves.Done next)
  over id turned next s =
      let w = h.known id s.before s.there in
      let told = s.answer refl in
      let a = answer_of s.after told.0 in
      let there : op_at new.table id ≡ Some s.after = ap (λ t. op_at t id) s.table ∙ set_is old.table id s.after s.before s.there in
      let event : event_by place ids new.table (Stepped id turned moves.Done next) ≡ Some (Step w.0, Done a) =
      ap (λ name. done_by name (answer_in (op_at new.table id))) w.1
      ∙ ap (λ op. done_by (Some w.0) (answer_in op)) there
      ∙ ap (λ o. done_by (Some w.0) (option_map (answer_of s.after) o)) told.1 in
      subst (λ e. Went quotas first place ids ids old new (story_of base (followed_by before e))) (sym event)
      (subst (Went quotas first place ids ids old new) (sym (story_done base before w.0 a)) (record {
        now = remembers_step quotas first story place ids old new w.0 id true (Some a) h right s w.1 w.2
            (λ b e. subst (IsAnswerOf s.after) (same_Some a b e) (record { finished = done_is s.after.phase (sym s.ends); told = told.1; command = refl; first = refl; last = refl }))
            (λ e. refl);
        kind = inl (record { same = refl; was = was_open id true s });
        rises = omega (arith, s.number);
      }))

  -- an answer that is taken, with the tidying behind it
  took : (id : ℕ) (answer : Answer) (mid : StateView) → Takes old mid id answer → Leaves mid new → Went quotas first place ids ids old new story
  took id answer mid t l = subst (λ (m : StateView). Leaves m new → Went quotas first place ids ids old new story) (sym t.gone) (left id) l
    where
      left : (id : ℕ) → Leaves (record old { answers = old.answers + 1; table = set old.table id None }) new → Went quotas first place ids ids old new story
      left id l =
          let table : (n : ℕ) (op : OperationView) → op_at new.table n ≡ Some op → op_at old.table n ≡ Some op = λ n op at. elim (cases_eq n id) [
            | inl is ↦ absurd (no_value (sym (set_none old.table id) ∙ ap (op_at (set old.table id None)) (sym is) ∙ ap (λ t. op_at t n) (sym l.table) ∙ at))
            | inr ne ↦ sym (set_there old.table id n None ne) ∙ ap (λ t. op_at t n) (sym l.table) ∙ at
          ] in
          quiet (carried quotas first story place ids old new h l.steps (λ u. ap (λ accounts. quota_in (account_of accounts u)) l.accounts) l.rises l.maps l.changes table) l.steps table

  pub deed_goes : (deed : Deed) → Did old new deed → Goes deed
  deed_goes (Looked logs) d = same d.0
  deed_goes (Began opening logs (Ok ticket) next) d = began opening logs ticket next d.1.0 d.1.1 d.1.2
  deed_goes (Began opening logs (Err refusal) next) d = same d.1
  deed_goes (Rested id) d = same d
  deed_goes (Stepped id turned moves.Moved next) d = moved id turned next d.0
  deed_goes (Stepped id turned moves.Done next) d = over id turned next d.0
  deed_goes (Stepped id turned (moves.Again holder) next) d = same d.0.0
  deed_goes (Stepped id turned moves.NoMemory next) d = same d.0.0
  deed_goes (Stepped id turned moves.Spent next) d = same d.0.0
  deed_goes (Stepped id turned moves.NoSuch next) d = same d.0.0
  deed_goes (Took id room answer) d = took id answer d.0 d.1 d.2.2.leaves
  deed_goes (Kept id) d = same d.0

  -- whatever happens
  pub happening_goes : (what : Happening) → Happens old what new
      → Went quotas first place ids (ids_after place ids what) old new (story_of base (followed_by before (event_of place ids new what)))
  happening_goes (Acted p) d = deed_goes p.deed d.1
  happening_goes Opened d =
      let table : (n : ℕ) (op : OperationView) → op_at new.table n ≡ Some op → op_at old.table n ≡ Some op = λ n op at. sym (d.same n) ∙ at in
      quiet
      (subst (Remembers quotas first story (suc place) ids) (sym d.stands)
      (carried quotas first story place ids old (record old { table = new.table }) h refl (λ t. refl) (omega arith) (λ t m from. refl) (λ m from. refl) table))
      (ap (λ (v : StateView). v.steps) d.stands) table
  happening_goes (Given worker batch) d =
      quiet
      (subst (Remembers quotas first story (suc place) ids) (sym d.stands)
      (carried quotas first story place ids old (record old { logs = set old.logs worker batch.to }) h refl (λ t. refl) (omega arith) (λ t m from. refl) (λ m from. refl) (λ n op at. at)))
      (ap (λ (v : StateView). v.steps) d.stands) (λ n op at. ap (λ (v : StateView). op_at v.table n) (sym d.stands) ∙ at)

  -- an answer that is taken is the one of its operation
  take_stands : (steps id : ℕ) (answer : Answer) (mid : StateView) → steps ≡ old.steps → Takes old mid id answer → IsTakenAt story ids steps id answer
  take_stands steps id answer mid number t =
      let w = h.known id t.op t.there in
      let ended = w.2.ended (ap is_done t.told.finished) in
      let is = same_answer t.op ended.0 answer ended.1 t.told in
      let born = t.right.begun in
      let since = t.right.since in
      let upto = t.right.upto in
      let last = owner_in story t.op.last w.0 (w.2.last (omega (arith, born, since, upto))).0 in
      record {
        name = w.0;
        is = w.1;
        finished = subst (Finished story w.0) is ended.2;
        made = omega (arith, t.told.last, last.1, h.count, number);
      }

  module _ (event : Option (Event × Told)) (now_ids : Ids) (w : Went quotas first place ids now_ids old new (story_of base (followed_by before event))) where
    abbrev later_story : Story
    later_story = story_of base (followed_by before event)

    -- a begin that is told of the place is the one that the run has there
    begin_told : (steps : ℕ) (opening : OpeningView) (logs : ℕ) (ticket : Ticket) (next : Option Phase) (op : OperationView) → steps ≡ old.steps → opening.made ≡ Ok op
        → Begins old new ticket.id op.worker op.tenant op.command → StandsBy later_story place ids steps (Began opening logs (Ok ticket) next)
    begin_told steps opening logs ticket next op number is b = by w.kind
      where
        by : IsNoBegin ids now_ids old new ⊎ IsBegin later_story place old new → StandsBy later_story place ids steps (Began opening logs (Ok ticket) next)
        by (inl k) = let was = k.was ticket.id _ b.there in absurd (no_value (sym b.free ∙ was.1))
        by (inr k) = elim (cases_eq ticket.id k.id) [
          | inr ne ↦ absurd (no_value (sym b.free ∙ sym (k.begins.others ticket.id ne) ∙ b.there))
          | inl one ↦
              let same : before_any k.worker k.tenant k.command old.steps ≡ before_any op.worker op.tenant op.command old.steps =
              same_Some _ _ (sym k.begins.there ∙ ap (op_at new.table) (sym one) ∙ b.there) in (
                op,
                is,
                record {
                  asked_so = subst (λ (x : OperationView). later_story.asked place ≡ Some (record { tenant = x.tenant; command = x.command })) same k.asked_so;
                  later = λ m own. let low = k.later m own in omega (arith, low, number);
                },
              )
        ]

    -- and so is a step
    step_told : (steps id : ℕ) (done : Bool) → steps ≡ old.steps → IsStep old new id done → IsMadeAt later_story ids steps id
    step_told steps id done number s = by w.kind
      where
        there : op_at new.table id ≡ Some s.after
        there = ap (λ t. op_at t id) s.table ∙ set_is old.table id s.after s.before s.there

        by : IsNoBegin ids now_ids old new ⊎ IsBegin later_story place old new → IsMadeAt later_story ids steps id
        by (inl k) =
            let known = w.now.known id s.after there in
            let last = known.2.last (omega (arith, s.moves.last)) in
            let here : s.after.last ≡ steps + 1 = omega (arith, s.moves.last, number) in
            (known.0, ap (λ (f : Ids). f id) (sym k.same) ∙ known.1, subst (λ m. owner later_story m ≡ Some known.0) here last.0)
        by (inr k) = let steps = ap (λ (v : StateView). v.steps) k.begins.stands in absurd (omega (arith, steps, s.number))

    take_later : (e : Option (Event × Told)) (steps id : ℕ) (answer : Answer) → IsTakenAt story ids steps id answer
        → IsTakenAt (story_of base (followed_by before e)) ids steps id answer
    take_later None steps id answer t = t
    take_later (Some e) steps id answer t = record { name = t.name; is = t.is; finished = finished_more base before (e ∷ []) t.name answer t.finished; made = t.made }

    -- whatever is true of the place stands in the story
    pub deed_told : (steps : ℕ) (deed : Deed) → steps ≡ old.steps → Did old new deed → StandsBy later_story place ids steps deed
    deed_told steps (Looked logs) number d = tt
    deed_told steps (Began opening logs (Ok ticket) next) number d = begin_told steps opening logs ticket next d.1.0 number d.1.1 d.1.2
    deed_told steps (Began opening logs (Err refusal) next) number d = tt
    deed_told steps (Rested id) number d = tt
    deed_told steps (Stepped id turned moves.Moved next) number d = step_told steps id false number d.0
    deed_told steps (Stepped id turned moves.Done next) number d = step_told steps id true number d.0
    deed_told steps (Stepped id turned (moves.Again holder) next) number d = tt
    deed_told steps (Stepped id turned moves.NoMemory next) number d = tt
    deed_told steps (Stepped id turned moves.Spent next) number d = tt
    deed_told steps (Stepped id turned moves.NoSuch next) number d = tt
    deed_told steps (Took id room answer) number d = take_later event steps id answer (take_stands steps id answer d.0 number d.1)
    deed_told steps (Kept id) number d = tt

    -- and in that of each longer run
    pub happening_told : (more : Run) (what : Happening) → Happens old what new → Stands (story_of base (followed_by before event ++ more)) place ids what
    happening_told more (Acted p) d =
        let number = d.0 in
        deed_more base (followed_by before event) more place ids p.steps p.deed (omega (arith, number, w.rises, w.now.count)) (deed_told p.steps p.deed d.0 d.1)
    happening_told more Opened d = tt
    happening_told more (Given worker batch) d = tt
