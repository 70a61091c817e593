-- What makes no step and begins nothing keeps what is remembered of a history, if no map and no change is another one from its floor on; and so does a begin: for Happenings.
use Rattle.std.proofs.Common.{◌≡◌, ◌≢◌, ℕ, suc, ◌<◌, ◌≤◌, inl, inr, true, false, Option, Some, None, cond, eqb, sym, refl, ap, subst, ◌∙◌, arith}
use Rattle.std.proofs.{lemmas.Bool.{cases_eq, eq-eqb, ne_eqb}, lemmas.Option.same_Some}
use Rattle.std.specs.Option.{option_map}
use Rattle.mt_rows.specs.declared.command.Command.{Command}
use Rattle.mt_runs.{specs.{Runs.{Story, Asked, Made, owner, first_of, with_begin}, Placings.{Quotas, Maps}}, proofs.Growth.right_asked}
use Rattle.mt_operation.specs.Operations.{OperationView}
use Rattle.mt_state.specs.{Views.{StateView, op_at, map_of, changed_at, quota_of}, Begins.{begun as before_any, Begins}}
use Rattle.mt_orders.{specs.Stories.Ids, proofs.Past.{Knows, Remembers}}

no_value : {A : Type 0} {a : A} → ◌≡◌ {A = Option A} None (Some a) → ⊥
no_value e = cc

first_none : (w : Option Asked) → first_of w None ≡ w
first_none None = refl
first_none (Some a) = refl

module _ (quotas : Quotas) (first : Maps) (story : Story) (place : ℕ) (ids : Ids) (old new : StateView) (h : Remembers quotas first story place ids old) where
  -- a state of as many steps that has given up at most what came up to its floor, and operations
  pub carried : new.steps ≡ old.steps → ((t : ℕ) → quota_of new t ≡ quota_of old t) → old.tape.floor ≤ new.tape.floor
      → ((t m : ℕ) → new.tape.floor ≤ m → map_of new t m ≡ map_of old t m) → ((m : ℕ) → new.tape.floor < m → changed_at new m ≡ changed_at old m)
      → ((n : ℕ) (op : OperationView) → op_at new.table n ≡ Some op → op_at old.table n ≡ Some op) → Remembers quotas first story (suc place) ids new
  carried steps quota rises maps changes table = record {
    map_at = h.map_at;
    changed = h.changed;
    right = h.right;
    maps = λ t m from. h.maps t m (omega (arith, rises, from)) ∙ sym (maps t m from);
    changes = λ m from. h.changes m (omega (arith, rises, from)) ∙ sym (changes m from);
    quota = λ t. quota t ∙ h.quota t;
    count = h.count ∙ sym steps;
    known = λ n op at. h.known n op (table n op at);
    apart = h.apart;
    given = λ n name e. let low = h.given n name e in omega (arith, low);
    free = λ name le. h.free name (omega (arith, le));
    owners = λ m name own. let low = h.owners m name own in omega (arith, low);
  }

-- the same state
pub remembers_same : (quotas : Quotas) (first : Maps) (story : Story) (place : ℕ) (ids : Ids) (old new : StateView) → Remembers quotas first story place ids old → new ≡ old
    → Remembers quotas first story (suc place) ids new
remembers_same quotas first story place ids old new h same =
    subst (Remembers quotas first story (suc place) ids) (sym same)
    (carried quotas first story place ids old old h refl (λ t. refl) (omega arith) (λ t m from. refl) (λ m from. refl) (λ n op at. at))

module _ (quotas : Quotas) (first : Maps) (story : Story) (place : ℕ) (ids : Ids) (old new : StateView) (n worker tenant : ℕ) (command : Command)
    (h : Remembers quotas first story place ids old) (b : Begins old new n worker tenant command) where
  abbrev what : Asked
  what = record { tenant = tenant; command = command }

  abbrev after : StateView
  after = record old { table = new.table }

  -- the ids with that of the operation that begins
  abbrev pub ids_now : Ids
  ids_now = λ id. cond (eqb id n) (Some place) (ids id)

  here : ids_now n ≡ Some place
  here = ap (λ t. cond t (Some place) (ids n)) (eq-eqb n n refl)

  there : (m : ℕ) → m ≢ n → ids_now m ≡ ids m
  there m ne = ap (λ t. cond t (Some place) (ids m)) (ne_eqb m n ne)

  -- what is asked by its name, and by any other
  pub asked_here : (with_begin story place what).asked place ≡ Some what
  asked_here =
      ap (λ w. first_of w (cond (eqb place place) (Some what) None)) (h.free place (omega arith))
      ∙ ap (λ t. cond t (Some what) None) (eq-eqb place place refl)

  asked_there : (q : ℕ) → q ≢ place → (with_begin story place what).asked q ≡ story.asked q
  asked_there q ne = ap (λ t. first_of (story.asked q) (cond t (Some what) None)) (ne_eqb place q (λ is. ne (sym is))) ∙ first_none (story.asked q)

  -- it has made no step
  pub unowned : (m : ℕ) → owner story m ≡ Some place → ⊥
  unowned m own = let low = h.owners m place own in absurd (omega (arith, low))

  new_known : Knows (with_begin story place what) h.changed place (before_any worker tenant command old.steps)
  new_known = record {
    asked_so = asked_here;
    first = λ lt. absurd (omega (arith, lt));
    last = λ lt. absurd (omega (arith, lt));
    still = λ none m own. unowned m own;
    unfinished = λ left a fin. unowned fin.0 (ap (option_map (λ (s : Made). s.op)) fin.1);
    ended = λ over. let no : false ≡ true = over in absurd (cc);
    changes = λ m e own. absurd (unowned m own);
    own = λ m e. absurd (no_value e);
    placed = λ m e. absurd (no_value e);
  }

  other_known : (q : ℕ) (op : OperationView) → q ≢ place → Knows story h.changed q op → Knows (with_begin story place what) h.changed q op
  other_known q op ne k = record {
    asked_so = asked_there q ne ∙ k.asked_so;
    first = k.first;
    last = k.last;
    still = k.still;
    unfinished = k.unfinished;
    ended = k.ended;
    changes = k.changes;
    own = k.own;
    placed = k.placed;
  }

  begun : Remembers quotas first (with_begin story place what) (suc place) ids_now after
  begun = record {
    map_at = h.map_at;
    changed = h.changed;
    right = right_asked quotas first story h.map_at h.changed place what h.right;
    maps = h.maps;
    changes = h.changes;
    quota = h.quota;
    count = h.count;
    known = λ m op at. elim (cases_eq m n) [
      | inl is ↦
          let same : before_any worker tenant command old.steps ≡ op = same_Some _ op (sym b.there ∙ ap (op_at new.table) (sym is) ∙ at) in
          (place, ap ids_now is ∙ here, subst (Knows (with_begin story place what) h.changed place) same new_known)
      | inr ne ↦
          let w = h.known m op (sym (b.others m ne) ∙ at) in
          (w.0, there m ne ∙ w.1, other_known w.0 op (λ is. let low = h.given m w.0 w.1 in absurd (omega (arith, low, is))) w.2)
    ];
    apart = λ i j name e f. elim (cases_eq i n) [
      | inl is ↦ elim (cases_eq j n) [
        | inl also ↦ is ∙ sym also
        | inr ne ↦ absurd (clash i j name is ne e f)
      ]
      | inr ne ↦ elim (cases_eq j n) [
        | inl is ↦ absurd (clash j i name is ne f e)
        | inr not ↦ h.apart i j name (sym (there i ne) ∙ e) (sym (there j not) ∙ f)
      ]
    ];
    given = λ m name e. elim (cases_eq m n) [
      | inl is ↦ let same = same_Some place name (sym here ∙ ap ids_now (sym is) ∙ e) in omega (arith, same)
      | inr ne ↦ let low = h.given m name (sym (there m ne) ∙ e) in omega (arith, low)
    ];
    free = λ name le. asked_there name (λ is. absurd (omega (arith, le, is))) ∙ h.free name (omega (arith, le));
    owners = λ m name own. let low = h.owners m name own in omega (arith, low);
  }
    where
      clash : (i j name : ℕ) → i ≡ n → j ≢ n → ids_now i ≡ Some name → ids_now j ≡ Some name → ⊥
      clash i j name is ne e f =
          let same = same_Some place name (sym here ∙ ap ids_now (sym is) ∙ e) in
          let low = h.given j name (sym (there j ne) ∙ f) in
          absurd (omega (arith, same, low))

  -- a begin keeps it
  pub remembers_begin : Remembers quotas first (with_begin story place what) (suc place) ids_now new
  remembers_begin = subst (Remembers quotas first (with_begin story place what) (suc place) ids_now) (sym b.stands) begun
