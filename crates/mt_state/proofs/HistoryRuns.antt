-- A numbered step keeps the history of a run, and so does one that ends its operation, with the answer taken: for HistoryEvents.
use Rattle.std.proofs.{Common.{◌≡◌, ◌≢◌, ℕ, ◌+◌, inl, inr, Bool, true, set, Option, Some, None, sym, ap, subst, ◌∙◌, arith}, lemmas.Bool.cases_eq}
use Rattle.std.proofs.lemmas.Option.{same_Some}
use Rattle.mt_runs.specs.{declared.event.Answer.Answer, Runs.{Story, owner, last_step, with_step}, Placings.{Quotas, Maps}, Right.Right}
use Rattle.mt_runs.proofs.Steps.{more_steps, owner_cases}
use Rattle.mt_operation.{specs.Operations.OperationView, proofs.Tables.{set_is, set_there, set_none}}
use Rattle.mt_state.specs.{Views.{StateView, Shown, op_at, map_of, changed_at}, Promises.IsStep, Begins.{IsAnswerOf, IsEnded, Takes}}
use Rattle.mt_state.specs.Histories.{Names, Renames, StoryTells, History}
use Rattle.mt_state.proofs.{Granted.quota_stays, HistorySteps.{right_after, own_told, other_told, made_after}}

no_value : {A : Type 0} {a : A} → ◌≡◌ {A = Option A} None (Some a) → ⊥
no_value e = cc

-- what is told of an operation reads no table, and counts no answers
told_without : (story : Story) (v : StateView) (answers : ℕ) (table : Shown) (o : ℕ) (op : OperationView) → StoryTells story v o op
    → StoryTells story (record v { answers = answers; table = table }) o op
told_without story v answers table o op k = record { asked_so = k.asked_so; first = k.first; last = k.last; still = k.still; unfinished = k.unfinished; changes = k.changes; own = k.own; placed = k.placed }

module _ (quotas : Quotas) (first : Maps) (story : Story) (names : Names) (old new : StateView) (o n : ℕ) (done : Bool) (answer : Option Answer)
    (h : History quotas first story names old) (known : names o ≡ Some (Some n)) (s : IsStep old new n done)
    (ends : (a : Answer) → answer ≡ Some a → IsAnswerOf s.after a) where
  told_before : StoryTells story old o s.before
  told_before =
      let k = h.told o n known in
      subst (StoryTells story old o) (same_Some k.0 s.before (sym k.1 ∙ s.there)) k.2

  right_now : Right quotas first (with_step story o answer) (map_of new) (changed_at new)
  right_now = right_after quotas first story old new o n done answer h.right h.quota h.count h.made s told_before ends

  -- the operation that stepped is the one at its id
  there : op_at new.table n ≡ Some s.after
  there = ap (λ t. op_at t n) s.table ∙ set_is old.table n s.after s.before s.there

  elsewhere : (m : ℕ) → m ≢ n → op_at new.table m ≡ op_at old.table m
  elsewhere m ne = ap (λ t. op_at t m) s.table ∙ set_there old.table n m (Some s.after) ne

  -- another name stands for another id
  other_number : (q m : ℕ) → q ≢ o → names q ≡ Some (Some m) → m ≢ n
  other_number q m ne e is = ne (h.apart q o n (e ∙ ap (λ k. Some (Some k)) is) known)

  told_elsewhere : (q m : ℕ) → q ≢ o → names q ≡ Some (Some m)
      → (op : OperationView) × (op_at new.table m ≡ Some op) × StoryTells (with_step story o answer) new q op
  told_elsewhere q m ne e =
      let k = h.told q m e in
      (k.0, elsewhere m (other_number q m ne e) ∙ k.1, other_told quotas first story old new o n done answer h.right h.quota h.count h.made s told_before ends q k.0 ne k.2)

  owned_names : (m q : ℕ) → owner (with_step story o answer) m ≡ Some q → names q ≢ None
  owned_names m q own = elim (owner_cases story o answer m q own) [
    | inl (le, was) ↦ h.owners m q was
    | inr (last, is) ↦ λ e. no_value (sym e ∙ ap names is ∙ known)
  ]

  count_now : last_step (with_step story o answer) ≡ new.steps
  count_now = omega (arith, more_steps story o answer, h.count, s.number)

  -- a step after which its operation goes on
  pub history_moved : ((a : Answer) → answer ≡ Some a → ⊥) → History quotas first (with_step story o answer) names new
  history_moved goes_on = record {
    right = right_now;
    quota = λ t. quota_stays old new s.grows t ∙ h.quota t;
    count = count_now;
    made = made_after quotas first story old new o n done answer h.right h.quota h.count h.made s told_before ends;
    told = λ q m e. elim (cases_eq q o) [
      | inl is ↦
          let same : n ≡ m = same_Some n m (same_Some _ _ (sym known ∙ ap names (sym is) ∙ e)) in
          subst (λ p. (op : OperationView) × (op_at new.table m ≡ Some op) × StoryTells (with_step story o answer) new p op) (sym is)
          (s.after, ap (op_at new.table) (sym same) ∙ there, own_told quotas first story old new o n done answer h.right h.quota h.count h.made s told_before ends goes_on)
      | inr ne ↦ told_elsewhere q m ne e
    ];
    apart = h.apart;
    all = λ m op at. elim (cases_eq m n) [
      | inl is ↦ (o, known ∙ ap (λ k. Some (Some k)) (sym is))
      | inr ne ↦ h.all m op (sym (elsewhere m ne) ∙ at)
    ];
    free = h.free;
    owners = owned_names;
  }

  -- a step that ends its operation, whose answer is then taken
  pub history_done : (last : StateView) (now : Names) (a : Answer) → Takes new last n a → Renames names now o None
      → History quotas first (with_step story o answer) now last
  history_done last now a t r = subst (History quotas first (with_step story o answer) now) (sym t.gone) (record {
    right = right_now;
    quota = λ u. quota_stays old new s.grows u ∙ h.quota u;
    count = count_now;
    made = made_after quotas first story old new o n done answer h.right h.quota h.count h.made s told_before ends;
    told = λ q m e.
        let ne = other q m e in
        let was : names q ≡ Some (Some m) = sym (r.others q ne) ∙ e in
        let k = told_elsewhere q m ne was in
        (k.0, set_there new.table n m None (other_number q m ne was) ∙ k.1, told_without (with_step story o answer) new (new.answers + 1) (set new.table n None) q k.0 k.2);
    apart = λ p q m e f. h.apart p q m (sym (r.others p (other p m e)) ∙ e) (sym (r.others q (other q m f)) ∙ f);
    all = λ m op at. elim (cases_eq m n) [
      | inl is ↦ absurd (no_value (sym (set_none new.table n) ∙ ap (op_at (set new.table n None)) (sym is) ∙ at))
      | inr ne ↦
          let k = h.all m op (sym (elsewhere m ne) ∙ sym (set_there new.table n m None ne) ∙ at) in
          (k.0, r.others k.0 (λ is. ne (sym (same_Some n m (same_Some _ _ (sym known ∙ ap names (sym is) ∙ k.1))))) ∙ k.1)
    ];
    free = λ q e. h.free q (sym (r.others q (λ is. no_value (sym e ∙ ap now is ∙ r.here))) ∙ e);
    owners = λ m q own e. owned_names m q own (sym (r.others q (λ is. no_value (sym e ∙ ap now is ∙ r.here))) ∙ e);
  })
    where
      other : (q m : ℕ) → now q ≡ Some (Some m) → q ≢ o
      other q m e is = no_value (same_Some None (Some m) (sym r.here ∙ ap now (sym is) ∙ e))

-- after a step that ends it, an operation has none left
pub step_ended : (old new : StateView) (n : ℕ) → IsStep old new n true → IsEnded new.table n
step_ended old new n s = (s.after, ap (λ t. op_at t n) s.table ∙ set_is old.table n _ s.before s.there, sym s.ends)
