-- Each thing that happens to a state keeps what its story tells, also while answers wait to be taken.
use Rattle.std.proofs.Common.{◌≡◌, ◌≢◌, ℕ, suc, ◌+◌, inl, inr, Bool, true, false, cond, eqb, set, [], ◌∷◌, ◌++◌, Option, Some, None, sym, refl, ap, subst, ◌∙◌, arith}
use Rattle.std.proofs.{lemmas.Bool.{cases_eq, eq-eqb, ne_eqb, both_ways}, lemmas.Option.same_Some}
use Rattle.std.specs.Option.{option_map}
use Rattle.mt_rows.specs.declared.command.Command.{Command}
use Rattle.mt_runs.specs.{declared.event.Answer.Answer, declared.event.Event.Event, declared.event.Event.TheVariants.{Begin, Step}, declared.event.Told.{Told as Answered}}
use Rattle.mt_runs.specs.declared.event.Told.TheVariants.{Begun, Refused, NoSuch, Moved, Again, NoMemory, Spent, Done}
use Rattle.mt_runs.specs.{Runs.{Run, Story, Asked, Made, numbered, asked_by, owner, last_step, Finished, first_of, story_of, with_begin, with_step}, Placings.{Quotas, Maps}}
use Rattle.mt_runs.proofs.{Events.{story_begin, story_moved, story_done, story_quiet}, Growth.right_asked, Steps.{step_in, old_step, new_step, more_steps, owner_cases}}
use Rattle.mt_operation.specs.{declared.phase.Phase.Phase, declared.phase.Phase.TheVariants.{Done as AtEnd}}
use Rattle.mt_operation.{specs.{declared.outcome.Outcome.Outcome, Operations.OperationView, Phases.is_done}, proofs.Tables.{set_here, set_is, set_there, set_none}}
use Rattle.mt_state.specs.{Views.{StateView, op_at, map_of, changed_at}, Promises.IsStep, Begins.{begun as before_any, Begins, IsAnswerOf, Takes}}
use Rattle.mt_state.specs.Histories.{Names, Renames, StoryTells, History, TellsEvent}
use Rattle.mt_state.proofs.{Granted.quota_stays, HistorySteps.{right_after, own_told, other_told, made_after}}
use Rattle.mt_lives.specs.Remembers.{Knows, Remembers}

no_value : {A : Type 0} {a : A} → ◌≡◌ {A = Option A} None (Some a) → ⊥
no_value e = cc

first_none : (w : Option Asked) → first_of w None ≡ w
first_none None = refl
first_none (Some a) = refl

-- an operation with no step left is at its end
pub done_is : (p : Phase) → is_done p ≡ true → p ≡ AtEnd
done_is AtEnd e = refl
done_is _ e = absurd (cc)

-- where no operation is open
pub remembers_history : (quotas : Quotas) (first : Maps) (story : Story) (names : Names) (v : StateView) → ((n : ℕ) → op_at v.table n ≡ None) → History quotas first story names v
    → Remembers quotas first story names v
remembers_history quotas first story names v none h = record {
  right = h.right;
  quota = h.quota;
  count = h.count;
  made = h.made;
  told = λ o n e. let k = h.told o n e in absurd (no_value (sym (none n) ∙ k.1));
  apart = h.apart;
  all = h.all;
  free = h.free;
  owners = h.owners;
}

-- what a story tells of an operation reads the steps and the tape of a state alone
pub knows_by : (story : Story) (v w : StateView) (o : ℕ) (op : OperationView) → ((m : ℕ) → changed_at w m ≡ changed_at v m) → Knows story v o op → Knows story w o op
knows_by story v w o op same (inl (left, k)) = inl
    (left, record { asked_so = k.asked_so; first = k.first; last = k.last; still = k.still; unfinished = k.unfinished; changes = λ m e own. k.changes m (sym (same m) ∙ e) own; own = k.own; placed = k.placed })
knows_by story v w o op same (inr k) = inr k

-- ---- a begin

module _ (quotas : Quotas) (first : Maps) (story : Story) (old new : StateView) (names now : Names) (o n worker tenant : ℕ) (command : Command)
    (h : Remembers quotas first story names old) (b : Begins old new n worker tenant command) (unknown : names o ≡ None) (r : Renames names now o (Some n)) where
  abbrev what : Asked
  what = record { tenant = tenant; command = command }

  abbrev after : StateView
  after = record old { table = new.table }

  -- what is asked by the name, and by any other
  asked_here : (with_begin story o what).asked o ≡ Some what
  asked_here =
      ap (λ w. first_of w (cond (eqb o o) (Some what) None)) (h.free o unknown)
      ∙ ap (λ t. cond t (Some what) None) (eq-eqb o o refl)

  asked_there : (q : ℕ) → q ≢ o → (with_begin story o what).asked q ≡ story.asked q
  asked_there q ne = ap (λ t. first_of (story.asked q) (cond t (Some what) None)) (ne_eqb o q (λ is. ne (sym is))) ∙ first_none (story.asked q)

  -- a name that stood for something is another one
  other_name : (q : ℕ) → names q ≢ None → q ≢ o
  other_name q known is = known (ap names is ∙ unknown)

  unowned : (m : ℕ) → owner story m ≡ Some o → ⊥
  unowned m own = h.owners m o own unknown

  new_told : StoryTells (with_begin story o what) after o (before_any worker tenant command old.steps)
  new_told = record {
    asked_so = asked_here;
    first = λ lt. absurd (omega (arith, lt));
    last = λ lt. absurd (omega (arith, lt));
    still = λ none m own. unowned m own;
    unfinished = λ a fin. unowned fin.0 (ap (option_map (λ (s : Made). s.op)) fin.1);
    changes = λ m e own. absurd (unowned m own);
    own = λ m e. absurd (no_value e);
    placed = λ m e. absurd (no_value e);
  }

  known_still : (q : ℕ) (op : OperationView) → q ≢ o → Knows story old q op → Knows (with_begin story o what) after q op
  known_still q op ne (inl (left, k)) = inl (
    left,
    record {
      asked_so = asked_there q ne ∙ k.asked_so;
      first = k.first;
      last = k.last;
      still = k.still;
      unfinished = k.unfinished;
      changes = k.changes;
      own = k.own;
      placed = k.placed;
    },
  )
  known_still q op ne (inr k) = inr (record { answer = k.answer; told = k.told; finished = k.finished })

  clash : (q m : ℕ) → q ≢ o → now o ≡ Some (Some m) → now q ≡ Some (Some m) → ⊥
  clash q m ne here e =
      let same : n ≡ m = same_Some n m (same_Some _ _ (sym r.here ∙ here)) in
      let k = h.told q m (sym (r.others q ne) ∙ e) in
      no_value (sym b.free ∙ ap (op_at old.table) same ∙ k.1)

  begun : Remembers quotas first (with_begin story o what) now after
  begun = record {
    right = right_asked quotas first story (map_of old) (changed_at old) o what h.right;
    quota = h.quota;
    count = h.count;
    made = h.made;
    told = λ q m e. elim (cases_eq q o) [
      | inl is ↦
          let same : n ≡ m = same_Some n m (same_Some _ _ (sym r.here ∙ ap now (sym is) ∙ e)) in
          subst (λ p. (op : OperationView) × (op_at new.table m ≡ Some op) × Knows (with_begin story o what) after p op) (sym is)
          (before_any worker tenant command old.steps, ap (op_at new.table) (sym same) ∙ b.there, inl (refl, new_told))
      | inr ne ↦
          let was : names q ≡ Some (Some m) = sym (r.others q ne) ∙ e in
          let k = h.told q m was in
          (k.0, b.others m (λ is. no_value (sym b.free ∙ ap (op_at old.table) (sym is) ∙ k.1)) ∙ k.1, known_still q k.0 ne k.2)
    ];
    apart = λ p q m e f. elim (cases_eq p o) [
      | inl is ↦ elim (cases_eq q o) [
        | inl also ↦ is ∙ sym also
        | inr ne ↦ absurd (clash q m ne (ap now (sym is) ∙ e) f)
      ]
      | inr ne ↦ elim (cases_eq q o) [
        | inl is ↦ absurd (clash p m ne (ap now (sym is) ∙ f) e)
        | inr not ↦ h.apart p q m (sym (r.others p ne) ∙ e) (sym (r.others q not) ∙ f)
      ]
    ];
    all = λ m op at. elim (cases_eq m n) [
      | inl is ↦ (o, r.here ∙ ap (λ k. Some (Some k)) (sym is))
      | inr ne ↦
          let k = h.all m op (sym (b.others m ne) ∙ at) in
          (k.0, r.others k.0 (other_name k.0 (λ e. no_value (sym e ∙ k.1))) ∙ k.1)
    ];
    free = λ q e. elim (cases_eq q o) [
      | inl is ↦ absurd (no_value (sym e ∙ ap now is ∙ r.here))
      | inr ne ↦ asked_there q ne ∙ h.free q (sym (r.others q ne) ∙ e)
    ];
    owners = λ m q own e. elim (cases_eq q o) [
      | inl is ↦ unowned m (own ∙ ap (λ k. Some k) is)
      | inr ne ↦ h.owners m q own (sym (r.others q ne) ∙ e)
    ];
  }

  remembers_begin : Remembers quotas first (with_begin story o what) now new
  remembers_begin = subst (Remembers quotas first (with_begin story o what) now) (sym b.stands) begun

-- ---- a step

module _ (quotas : Quotas) (first : Maps) (story : Story) (names : Names) (old new : StateView) (o n : ℕ) (done : Bool) (answer : Option Answer)
    (h : Remembers quotas first story names old) (known : names o ≡ Some (Some n)) (s : IsStep old new n done)
    (ends : (a : Answer) → answer ≡ Some a → IsAnswerOf s.after a) where
  -- it has a step left
  has_step : (op : OperationView) → op ≡ s.before → Knows story old o op → StoryTells story old o s.before
  has_step op is (inl (left, k)) = subst (StoryTells story old o) is k
  has_step op is (inr k) = absurd (both_ways _ s.unfinished (ap (λ (x : OperationView). is_done x.phase) (sym is) ∙ ap is_done k.told.finished))

  told_before : StoryTells story old o s.before
  told_before = let k = h.told o n known in has_step k.0 (same_Some k.0 s.before (sym k.1 ∙ s.there)) k.2

  -- the operation that stepped is the one at its id
  there : op_at new.table n ≡ Some s.after
  there = ap (λ t. op_at t n) s.table ∙ set_is old.table n s.after s.before s.there

  elsewhere : (m : ℕ) → m ≢ n → op_at new.table m ≡ op_at old.table m
  elsewhere m ne = ap (λ t. op_at t m) s.table ∙ set_there old.table n m (Some s.after) ne

  known_elsewhere : (q : ℕ) (op : OperationView) → q ≢ o → Knows story old q op → Knows (with_step story o answer) new q op
  known_elsewhere q op ne (inl (left, k)) = inl (left, other_told quotas first story old new o n done answer h.right h.quota h.count h.made s told_before ends q op ne k)
  known_elsewhere q op ne (inr k) = inr
      (record {
        answer = k.answer;
        told = k.told;
        finished = (k.finished.0, old_step story o answer k.finished.0 (step_in story.base story.steps k.finished.0 _ k.finished.1).1 ∙ k.finished.1);
      })

  -- it goes on, or it is finished
  pub remembers_step : Knows (with_step story o answer) new o s.after → Remembers quotas first (with_step story o answer) names new
  remembers_step here = record {
    right = right_after quotas first story old new o n done answer h.right h.quota h.count h.made s told_before ends;
    quota = λ t. quota_stays old new s.grows t ∙ h.quota t;
    count = omega (arith, more_steps story o answer, h.count, s.number);
    made = made_after quotas first story old new o n done answer h.right h.quota h.count h.made s told_before ends;
    told = λ q m e. elim (cases_eq q o) [
      | inl is ↦
          let same : n ≡ m = same_Some n m (same_Some _ _ (sym known ∙ ap names (sym is) ∙ e)) in
          subst (λ p. (op : OperationView) × (op_at new.table m ≡ Some op) × Knows (with_step story o answer) new p op) (sym is)
          (s.after, ap (op_at new.table) (sym same) ∙ there, here)
      | inr ne ↦
          let k = h.told q m e in
          (k.0, elsewhere m (λ is. ne (h.apart q o n (e ∙ ap (λ k. Some (Some k)) is) known)) ∙ k.1, known_elsewhere q k.0 ne k.2)
    ];
    apart = h.apart;
    all = λ m op at. elim (cases_eq m n) [
      | inl is ↦ (o, known ∙ ap (λ k. Some (Some k)) (sym is))
      | inr ne ↦ h.all m op (sym (elsewhere m ne) ∙ at)
    ];
    free = h.free;
    owners = λ m q own. elim (owner_cases story o answer m q own) [
      | inl (le, was) ↦ h.owners m q was
      | inr (last, is) ↦ λ e. no_value (sym e ∙ ap names is ∙ known)
    ];
  }

  pub goes_on : is_done s.after.phase ≡ false → ((a : Answer) → answer ≡ Some a → ⊥) → Remembers quotas first (with_step story o answer) names new
  goes_on left not = remembers_step (inl (left, own_told quotas first story old new o n done answer h.right h.quota h.count h.made s told_before ends not))

  pub ends_so : (a : Answer) → answer ≡ Some a → Remembers quotas first (with_step story o answer) names new
  ends_so a is =
      remembers_step
      (inr
      (record {
        answer = a;
        told = ends a is;
        finished = (
          suc (last_step story),
          new_step story o answer (suc (last_step story)) refl ∙ ap (λ (w : Option Answer). Some (record { op = o; answer = w })) is,
        );
      }))

-- ---- an answer is taken

module _ (quotas : Quotas) (first : Maps) (story : Story) (names now : Names) (old new : StateView) (o n : ℕ) (a : Answer)
    (h : Remembers quotas first story names old) (known : names o ≡ Some (Some n)) (t : Takes old new n a) (r : Renames names now o None) where
  other : (q m : ℕ) → now q ≡ Some (Some m) → q ≢ o
  other q m e is = no_value (same_Some None (Some m) (sym r.here ∙ ap now (sym is) ∙ e))

  another : (q m : ℕ) → names q ≡ Some (Some m) → q ≢ o → m ≢ n
  another q m e ne is = ne (h.apart q o n (e ∙ ap (λ k. Some (Some k)) is) known)

  abbrev rest : StateView
  rest = record old { answers = old.answers + 1; table = set old.table n None }

  pub remembers_take : Remembers quotas first story now new
  remembers_take = subst (Remembers quotas first story now) (sym t.gone)
      (record {
        right = h.right;
        quota = h.quota;
        count = h.count;
        made = h.made;
        told = λ q m e.
            let ne = other q m e in
            let was : names q ≡ Some (Some m) = sym (r.others q ne) ∙ e in
            let k = h.told q m was in
            (k.0, set_there old.table n m None (another q m was ne) ∙ k.1, knows_by story old rest q k.0 (λ i. refl) k.2);
        apart = λ p q m e f. h.apart p q m (sym (r.others p (other p m e)) ∙ e) (sym (r.others q (other q m f)) ∙ f);
        all = λ m op at. elim (cases_eq m n) [
          | inl is ↦ absurd (no_value (sym (set_none old.table n) ∙ ap (op_at (set old.table n None)) (sym is) ∙ at))
          | inr ne ↦
              let k = h.all m op (sym (set_there old.table n m None ne) ∙ at) in
              (k.0, r.others k.0 (λ is. ne (sym (same_Some n m (same_Some _ _ (sym known ∙ ap names (sym is) ∙ k.1))))) ∙ k.1)
        ];
        free = λ q e. h.free q (sym (r.others q (λ is. no_value (sym e ∙ ap now is ∙ r.here))) ∙ e);
        owners = λ m q own e. h.owners m q own (sym (r.others q (λ is. no_value (sym e ∙ ap now is ∙ r.here))) ∙ e);
      })

  -- and it was the answer with which the operation finished
  answer_same : (b : Answer) → IsAnswerOf t.op b → a ≡ b
  answer_same b is =
      let told = same_Some _ _ (sym t.told.told ∙ is.told) in
      λ i. record {
        command = (t.told.command ∙ sym is.command) i;
        reply = ap (λ (x : Outcome). x.reply) told i;
        first = (t.told.first ∙ sym is.first) i;
        at = ap (λ (x : Outcome). x.at) told i;
        last = (t.told.last ∙ sym is.last) i;
      }

  finished_by : (op : OperationView) → op ≡ t.op → Knows story old o op → Finished story o a
  finished_by op is (inl (left, k)) = absurd (both_ways _ left (ap (λ (x : OperationView). is_done x.phase) is ∙ ap is_done t.told.finished))
  finished_by op is (inr k) = subst (Finished story o) (sym (answer_same k.answer (subst (λ (x : OperationView). IsAnswerOf x k.answer) is k.told))) k.finished

  pub taken_finished : Finished story o a
  taken_finished = let k = h.told o n known in finished_by k.0 (same_Some k.0 t.op (sym k.1 ∙ t.there)) k.2

-- ---- events

abbrev pub Keeps : Names → StateView → Names → StateView → Event → Answered → Type 0
Keeps names old now new event told = (quotas : Quotas) (first : Maps) (base : ℕ) (run : Run) → Remembers quotas first (story_of base run) names old
    → Remembers quotas first (story_of base (run ++ (event, told) ∷ [])) now new

keeps_quiet : (names now : Names) (old new : StateView) (e : Event) (t : Answered) → numbered (e, t) ≡ None → ((q : ℕ) → asked_by q (e, t) ≡ None)
    → now ≡ names → new ≡ old → Keeps names old now new e t
keeps_quiet names now old new e t no_step no_ask still same = λ quotas first base run h.
    subst (λ (w : Names). Remembers quotas first (story_of base (run ++ (e, t) ∷ [])) w new) (sym still)
    (subst (λ s. Remembers quotas first s names new) (sym (story_quiet base run (e, t) no_step no_ask)) (subst (Remembers quotas first (story_of base run) names) (sym same) h))

keeps_begun : (names now : Names) (old new : StateView) (o n worker tenant : ℕ) (command : Command)
    → Begins old new n worker tenant command → names o ≡ None → Renames names now o (Some n)
    → Keeps names old now new (Begin o worker tenant command) Begun
keeps_begun names now old new o n worker tenant command b unknown r = λ quotas first base run h.
    subst (λ s. Remembers quotas first s now new) (sym (story_begin base run o worker tenant command))
    (remembers_begin quotas first (story_of base run) old new names now o n worker tenant command h b unknown r)

no_answer : (a : Answer) → ◌≡◌ {A = Option Answer} None (Some a) → ⊥
no_answer a e = cc

keeps_moved : (names : Names) (old new : StateView) (o n : ℕ) → names o ≡ Some (Some n) → IsStep old new n false → Keeps names old names new (Step o) Moved
keeps_moved names old new o n known s = λ quotas first base run h.
    subst (λ w. Remembers quotas first w names new) (sym (story_moved base run o))
    (goes_on quotas first (story_of base run) names old new o n false None h known s (λ a e. absurd (no_answer a e)) (sym s.ends) no_answer)

-- a last step: with an answer that is the operation's it stands in the story as done
pub keeps_finished : (names : Names) (old new : StateView) (o n : ℕ) (a : Answer) → names o ≡ Some (Some n) → (s : IsStep old new n true) → IsAnswerOf s.after a
    → Keeps names old names new (Step o) (Done a)
keeps_finished names old new o n a known s told = λ quotas first base run h.
    subst (λ w. Remembers quotas first w names new) (sym (story_done base run o a))
    (ends_so quotas first (story_of base run) names old new o n true (Some a) h known s (λ b e. subst (IsAnswerOf s.after) (same_Some a b e) told) a refl)

keeps_done : (names now : Names) (old mid new : StateView) (o n : ℕ) (a : Answer) → names o ≡ Some (Some n) → IsStep old mid n true → Takes mid new n a
    → Renames names now o None → Keeps names old now new (Step o) (Done a)
keeps_done names now old mid new o n a known s t r = λ quotas first base run h.
    remembers_take quotas first (story_of base (run ++ (Step o, Done a) ∷ [])) names now mid new o n a
    (keeps_finished names old mid o n a known s (subst (λ (op : OperationView). IsAnswerOf op a) same t.told) quotas first base run h) known t r
  where
    same : t.op ≡ s.after
    same = sym (set_here old.table n s.after t.op (ap (λ w. op_at w n) (sym s.table) ∙ t.there))

-- each event keeps it
pub keeps_event : (names now : Names) (old new : StateView) (e : Event) (t : Answered) → TellsEvent names old now new e t → Keeps names old now new e t
keeps_event names now old new (Begin o worker tenant command) Begun h = keeps_begun names now old new o h.0 worker tenant command h.3 h.1 h.2
keeps_event names now old new (Begin o worker tenant command) (Refused refusal) h = keeps_quiet names now old new _ _ refl (λ q. refl) h.1 h.2
keeps_event names now old new (Begin o worker tenant command) NoSuch h = keeps_quiet names now old new _ _ refl (λ q. refl) h.1 h.2
keeps_event names now old new (Step o) Moved h =
    subst (λ (w : Names). Keeps names old w new (Step o) Moved) (sym h.2) (keeps_moved names old new o h.0 h.1 h.3)
keeps_event names now old new (Step o) (Done a) h = keeps_done names now old h.1 new o h.0 a h.2 h.4 h.5 h.3
keeps_event names now old new (Step o) (Again q) h = keeps_quiet names now old new _ _ refl (λ q. refl) h.5 h.6
keeps_event names now old new (Step o) NoMemory h = keeps_quiet names now old new _ _ refl (λ q. refl) h.3 h.4
keeps_event names now old new (Step o) Spent h = keeps_quiet names now old new _ _ refl (λ q. refl) h.3 h.4
keeps_event names now old new (Step o) NoSuch h = keeps_quiet names now old new _ _ refl (λ q. refl) h.1 h.2
keeps_event names now old new _ _ h = absurd h
