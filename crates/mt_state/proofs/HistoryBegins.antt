-- A begin keeps the history of a run, under a name by which nothing was begun: for HistoryEvents.
use Rattle.std.proofs.{Common.{◌≡◌, ◌≢◌, ℕ, arith, inl, inr, Option, Some, None, cond, eqb, sym, refl, ap, subst, ◌∙◌}, lemmas.Bool.{cases_eq, eq-eqb, ne_eqb}}
use Rattle.std.proofs.lemmas.Option.{same_Some}
use Rattle.std.specs.Option.{option_map}
use Rattle.mt_rows.specs.declared.command.Command.{Command}
use Rattle.mt_runs.{specs.{Runs.{Story, Asked, Made, owner, first_of, with_begin}, Placings.{Quotas, Maps}}, proofs.Growth.right_asked}
use Rattle.mt_operation.specs.Operations.{OperationView}
use Rattle.mt_state.specs.{Views.{StateView, op_at, map_of, changed_at}, Begins.{begun as before_any, Begins}, Histories.{Names, Renames, StoryTells, History}}

no_value : {A : Type 0} {a : A} → ◌≡◌ {A = Option A} None (Some a) → ⊥
no_value e = cc

first_none : (w : Option Asked) → first_of w None ≡ w
first_none None = refl
first_none (Some a) = refl

module _ (quotas : Quotas) (first : Maps) (story : Story) (old new : StateView) (names now : Names) (o n worker tenant : ℕ) (command : Command)
    (h : History quotas first story names old) (b : Begins old new n worker tenant command) (unknown : names o ≡ None) (r : Renames names now o (Some n)) where
  abbrev what : Asked
  what = record { tenant = tenant; command = command }

  abbrev after : StateView
  after = record old { table = new.table }

  -- what is asked by the name, and by any other
  asked_here : (with_begin story o what).asked o ≡ Some what
  asked_here =
      ap (λ w. first_of w (cond (eqb o o) (Some what) None)) (h.free o unknown)
      ∙ ap (λ t. cond t (Some what) None) (eq-eqb o o refl)

  asked_there : (q : ℕ) → q ≢ o → (with_begin story o what).asked q ≡ story.asked q
  asked_there q ne = ap (λ t. first_of (story.asked q) (cond t (Some what) None)) (ne_eqb o q (λ is. ne (sym is))) ∙ first_none (story.asked q)

  -- a name that stood for something is another one
  other_name : (q : ℕ) → names q ≢ None → q ≢ o
  other_name q known is = known (ap names is ∙ unknown)

  unowned : (m : ℕ) → owner story m ≡ Some o → ⊥
  unowned m own = h.owners m o own unknown

  new_told : StoryTells (with_begin story o what) after o (before_any worker tenant command old.steps)
  new_told = record {
    asked_so = asked_here;
    first = λ lt. absurd (omega (arith, lt));
    last = λ lt. absurd (omega (arith, lt));
    still = λ none m own. unowned m own;
    unfinished = λ a fin. unowned fin.0 (ap (option_map (λ (s : Made). s.op)) fin.1);
    changes = λ m e own. absurd (unowned m own);
    own = λ m e. absurd (no_value e);
    placed = λ m e. absurd (no_value e);
  }

  other_told : (q : ℕ) (op : OperationView) → q ≢ o → StoryTells story old q op → StoryTells (with_begin story o what) after q op
  other_told q op ne k = record {
    asked_so = asked_there q ne ∙ k.asked_so;
    first = k.first;
    last = k.last;
    still = k.still;
    unfinished = k.unfinished;
    changes = k.changes;
    own = k.own;
    placed = k.placed;
  }

  begun : History quotas first (with_begin story o what) now after
  begun = record {
    right = right_asked quotas first story (map_of old) (changed_at old) o what h.right;
    quota = h.quota;
    count = h.count;
    made = h.made;
    told = λ q m e. elim (cases_eq q o) [
      | inl is ↦
          let same : n ≡ m = same_Some n m (same_Some _ _ (sym r.here ∙ ap now (sym is) ∙ e)) in
          subst (λ p. (op : OperationView) × (op_at new.table m ≡ Some op) × StoryTells (with_begin story o what) after p op) (sym is)
          (before_any worker tenant command old.steps, ap (op_at new.table) (sym same) ∙ b.there, new_told)
      | inr ne ↦
          let was : names q ≡ Some (Some m) = sym (r.others q ne) ∙ e in
          let k = h.told q m was in
          (k.0, b.others m (λ is. no_value (sym b.free ∙ ap (op_at old.table) (sym is) ∙ k.1)) ∙ k.1, other_told q k.0 ne k.2)
    ];
    apart = λ p q m e f. elim (cases_eq p o) [
      | inl is ↦ elim (cases_eq q o) [
        | inl also ↦ is ∙ sym also
        | inr ne ↦ absurd (clash q m ne (ap now (sym is) ∙ e) f)
      ]
      | inr ne ↦ elim (cases_eq q o) [
        | inl is ↦ absurd (clash p m ne (ap now (sym is) ∙ f) e)
        | inr not ↦ h.apart p q m (sym (r.others p ne) ∙ e) (sym (r.others q not) ∙ f)
      ]
    ];
    all = λ m op at. elim (cases_eq m n) [
      | inl is ↦ (o, r.here ∙ ap (λ k. Some (Some k)) (sym is))
      | inr ne ↦
          let k = h.all m op (sym (b.others m ne) ∙ at) in
          (k.0, r.others k.0 (other_name k.0 (λ e. no_value (sym e ∙ k.1))) ∙ k.1)
    ];
    free = λ q e. elim (cases_eq q o) [
      | inl is ↦ absurd (no_value (sym e ∙ ap now is ∙ r.here))
      | inr ne ↦ asked_there q ne ∙ h.free q (sym (r.others q ne) ∙ e)
    ];
    owners = λ m q own e. elim (cases_eq q o) [
      | inl is ↦ unowned m (own ∙ ap (λ k. Some k) is)
      | inr ne ↦ h.owners m q own (sym (r.others q ne) ∙ e)
    ];
  }
    where
      clash : (q m : ℕ) → q ≢ o → now o ≡ Some (Some m) → now q ≡ Some (Some m) → ⊥
      clash q m ne here e =
          let same : n ≡ m = same_Some n m (same_Some _ _ (sym r.here ∙ here)) in
          let k = h.told q m (sym (r.others q ne) ∙ e) in
          no_value (sym b.free ∙ ap (op_at old.table) same ∙ k.1)

  -- a begin keeps the history
  pub history_begin : History quotas first (with_begin story o what) now new
  history_begin = subst (History quotas first (with_begin story o what) now) (sym b.stands) begun
