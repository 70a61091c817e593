-- Which operation of a run an id and a birth are of: for the law of calls.
use Rattle.std.proofs.{Common.{◌≡◌, ℕ, zero, suc, ◌+◌, ◌<◌, ◌≤◌, ◌⊎◌, inl, inr, List, [], ◌∷◌, Bool, true, false, cond, eqb, Option, Some, None, Ok, Err, set, slice_get, refl, sym, ap, subst, ◌∙◌, arith}, lemmas.Bool.{cases_eq, eq-eqb, ne_eqb}, lemmas.Option.same_Some}
use Rattle.std.specs.Option.{option_map}
use Rattle.mt_rows.specs.declared.command.Command.{Command}
use Rattle.mt_runs.specs.declared.event.Answer.{Answer}
use Rattle.mt_operation.{specs.{declared.phase.Phase.Phase, Operations.OperationView}, proofs.Tables.{set_is, set_there, set_none}}
use Rattle.mt_state.specs.{Views.{StateView, op_at}, Promises.IsStep, Begins.{begun as before_any, Begins, Takes}}
use Rattle.mt_core.specs.{declared.answers.Ticket.Ticket, Admitted.OpeningView, Tidies.Leaves}
use Rattle.mt_book.specs.{Periods.{Deed, Looked, Began, Rested, Stepped, Took, Kept}, Does.Did, Births.birth_at, Happens.{Happening, Acted, Opened, Given, Happens}, OneRun.Through}
use Rattle.mt_orders.specs.{Stories.{Ids, ids_by, ids_after, ids_from}, Explained.HappensAt}
use Rattle.mt_state.specs.declared.moves.Move.TheVariants as moves

no_value : {A : Type 0} {a : A} → ◌≡◌ {A = Option A} None (Some a) → ⊥
no_value e = cc

module _ (birth id name : ℕ) where
  -- The operation of this id and birth is open, and begun at this place. It has made no step, or its first one after its birth.
  pub record IsNamed (ids : Ids) (v : StateView) : Type 0 where
    pub named : ids id ≡ Some name
    pub op : OperationView
    pub there : op_at v.table id ≡ Some op
    pub born : op.birth ≡ birth
    pub made : birth ≤ v.steps
    pub since : (op.first ≡ 0) ⊎ ((birth < op.first) × (birth < v.steps))

  -- it is over: each operation of this id was begun later
  pub record IsOver (v : StateView) : Type 0 where
    pub made : birth < v.steps
    pub later : (op : OperationView) → op_at v.table id ≡ Some op → birth < op.birth

  abbrev pub IsTracked : Ids → StateView → Type 0
  IsTracked ids v = IsNamed ids v ⊎ IsOver v

  -- ---- whatever happens keeps track of it

  module _ (place : ℕ) (ids : Ids) (old new : StateView) where
    -- what leaves the number of steps and the operation of the id
    track_same : new.steps ≡ old.steps → op_at new.table id ≡ op_at old.table id → (now : Ids) → now id ≡ ids id → IsTracked ids old → IsTracked now new
    track_same steps table now kept (inl n) =
        let made = n.made in
        inl (record {
          named = kept ∙ n.named;
          op = n.op;
          there = table ∙ n.there;
          born = n.born;
          made = omega (arith, made, steps);
          since = elim n.since [ inl none ↦ inl none | inr lt ↦ let low = lt.1 in inr (lt.0, omega (arith, low, steps)) ];
        })
    track_same steps table now kept (inr o) = let made = o.made in inr (record { made = omega (arith, made, steps); later = λ op at. o.later op (sym table ∙ at) })

    track_kept : new ≡ old → IsTracked ids old → IsTracked ids new
    track_kept is = track_same (ap (λ (v : StateView). v.steps) is) (ap (λ (v : StateView). op_at v.table id) is) ids refl

    first_after : (first now : ℕ) → (first ≡ 0) ⊎ ((birth < first) × (birth < old.steps)) → birth ≤ old.steps → now ≡ cond (eqb first 0) (old.steps + 1) first → birth < now
    first_after first now (inl none) made is = let same : now ≡ old.steps + 1 = is ∙ ap (λ n. cond (eqb n 0) (old.steps + 1) n) none in omega (arith, same, made)
    first_after first now (inr lt) made is =
        let low = lt.0 in
        let same : now ≡ first = is ∙ ap (λ b. cond b (old.steps + 1) first) (ne_eqb first 0 (λ none. absurd (omega (arith, none, low)))) in
        omega (arith, same, low)

    module _ (q : ℕ) (done : Bool) (s : IsStep old new q done) where
      here : id ≡ q → op_at new.table id ≡ Some s.after
      here is = ap (op_at new.table) is ∙ ap (λ t. op_at t q) s.table ∙ set_is old.table q s.after s.before s.there

      was : id ≡ q → op_at old.table id ≡ Some s.before
      was is = ap (op_at old.table) is ∙ s.there

      there : (id ≡ q → ⊥) → op_at new.table id ≡ op_at old.table id
      there ne = ap (λ t. op_at t id) s.table ∙ set_there old.table q id (Some s.after) ne

      track_step : IsTracked ids old → IsTracked ids new
      track_step (inl n) =
          let made = n.made in
          let number = s.number in
          elim (cases_eq id q) [
            | inl is ↦
                let same = same_Some n.op s.before (sym n.there ∙ was is) in
                let since = subst (λ (x : OperationView). (x.first ≡ 0) ⊎ ((birth < x.first) × (birth < old.steps))) same n.since in
                inl (record {
                  named = n.named;
                  op = s.after;
                  there = here is;
                  born = s.moves.birth ∙ ap (λ (x : OperationView). x.birth) (sym same) ∙ n.born;
                  made = omega (arith, made, number);
                  since = inr (first_after s.before.first s.after.first since made s.moves.first, omega (arith, made, number));
                })
            | inr ne ↦ inl (record {
              named = n.named;
              op = n.op;
              there = there ne ∙ n.there;
              born = n.born;
              made = omega (arith, made, number);
              since = elim n.since [ inl none ↦ inl none | inr lt ↦ inr (lt.0, omega (arith, made, number)) ];
            })
          ]
      track_step (inr o) =
          let made = o.made in
          let number = s.number in
          inr (record {
            made = omega (arith, made, number);
            later = λ op at. elim (cases_eq id q) [
              | inl is ↦
                  let low = o.later s.before (was is) in
                  let same = ap (λ (x : OperationView). x.birth) (same_Some s.after op (sym (here is) ∙ at)) in
                  let stays = s.moves.birth in
                  omega (arith, low, same, stays)
              | inr ne ↦ o.later op (sym (there ne) ∙ at)
            ];
          })

    track_begin : (opening : OpeningView) (logs : ℕ) (ticket : Ticket) (next : Option Phase) (worker tenant : ℕ) (command : Command) → Begins old new ticket.id worker tenant command
        → IsTracked ids old → IsTracked (ids_by place ids (Began opening logs (Ok ticket) next)) new
    track_begin opening logs ticket next worker tenant command b tracked =
        let now = ids_by place ids (Began opening logs (Ok ticket) next) in
        let steps = ap (λ (v : StateView). v.steps) b.stands in
        elim (cases_eq id ticket.id) [
          | inr ne ↦ track_same steps (b.others id ne) now (ap (λ t. cond t (Some place) (ids id)) (ne_eqb id ticket.id ne)) tracked
          | inl is ↦ elim tracked [
            | inl n ↦ absurd (no_value (sym b.free ∙ ap (op_at old.table) (sym is) ∙ n.there))
            | inr o ↦
                let made = o.made in
                inr (record {
                  made = omega (arith, made, steps);
                  later = λ op at.
                      let same = ap (λ (x : OperationView). x.birth) (same_Some (before_any worker tenant command old.steps) op (sym b.there ∙ ap (op_at new.table) (sym is) ∙ at)) in
                      omega (arith, made, same);
                })
          ]
        ]

    track_take : (q : ℕ) (answer : Answer) (mid : StateView) → Takes old mid q answer → Leaves mid new → IsTracked ids old → IsTracked ids new
    track_take q answer mid t l tracked =
        let gone : new.table ≡ set old.table q None = l.table ∙ ap (λ (v : StateView). v.table) t.gone in
        let steps : new.steps ≡ old.steps = l.steps ∙ ap (λ (v : StateView). v.steps) t.gone in
        elim (cases_eq id q) [
          | inr ne ↦ track_same steps (ap (λ table. op_at table id) gone ∙ set_there old.table q id None ne) ids refl tracked
          | inl is ↦
              let none : op_at new.table id ≡ None = ap (λ table. op_at table id) gone ∙ ap (op_at (set old.table q None)) is ∙ set_none old.table q in
              let later : (op : OperationView) → op_at new.table id ≡ Some op → birth < op.birth = λ op at. absurd (no_value (sym none ∙ at)) in
              elim tracked [
                | inl n ↦ elim n.since [
                  | inl still ↦
                      let same = ap (λ (x : OperationView). x.first) (same_Some n.op t.op (sym n.there ∙ ap (op_at old.table) is ∙ t.there)) in
                      let begun = t.right.begun in
                      absurd (omega (arith, still, same, begun))
                  | inr lt ↦ let low = lt.1 in inr (record { made = omega (arith, low, steps); later = later })
                ]
                | inr o ↦ let made = o.made in inr (record { made = omega (arith, made, steps); later = later })
              ]
        ]

    track_deed : (deed : Deed) → Did old new deed → IsTracked ids old → IsTracked (ids_by place ids deed) new
    track_deed (Looked logs) d = track_kept d.0
    track_deed (Began opening logs (Ok ticket) next) d = track_begin opening logs ticket next _ _ _ d.1.2
    track_deed (Began opening logs (Err refusal) next) d = track_kept d.1
    track_deed (Rested q) d = track_kept d
    track_deed (Stepped q turned moves.Moved next) d = track_step q false d.0
    track_deed (Stepped q turned moves.Done next) d = track_step q true d.0
    track_deed (Stepped q turned (moves.Again holder) next) d = track_kept d.0.0
    track_deed (Stepped q turned moves.NoMemory next) d = track_kept d.0.0
    track_deed (Stepped q turned moves.Spent next) d = track_kept d.0.0
    track_deed (Stepped q turned moves.NoSuch next) d = track_kept d.0.0
    track_deed (Took q room answer) d = track_take q answer d.0 d.1 d.2.2.leaves
    track_deed (Kept q) d = track_kept d.0

    track : (what : Happening) → Happens old what new → IsTracked ids old → IsTracked (ids_after place ids what) new
    track (Acted p) d = track_deed p.deed d.1
    track Opened d = track_same (ap (λ (v : StateView). v.steps) d.stands) (d.same id) ids refl
    track (Given worker batch) d = track_same (ap (λ (v : StateView). v.steps) d.stands) (ap (λ (v : StateView). op_at v.table id) d.stands) ids refl

    -- ---- only a begin of this id opens it

    open_kept : new ≡ old → op_at old.table id ≡ None → op_at new.table id ≡ None
    open_kept is none = ap (λ (v : StateView). op_at v.table id) is ∙ none

    open_step : (q : ℕ) (done : Bool) → IsStep old new q done → op_at old.table id ≡ None → op_at new.table id ≡ None
    open_step q done s none = elim (cases_eq id q) [ inl is ↦ absurd (no_value (sym none ∙ was q done s is)) | inr ne ↦ there q done s ne ∙ none ]

    open_deed : (deed : Deed) → Did old new deed → op_at old.table id ≡ None → (op_at new.table id ≡ None) ⊎ (ids_by place ids deed id ≡ Some place)
    open_deed (Looked logs) d none = inl (open_kept d.0 none)
    open_deed (Began opening logs (Ok ticket) next) d none = elim (cases_eq id ticket.id) [
      | inl is ↦ inr (ap (λ t. cond t (Some place) (ids id)) (eq-eqb id ticket.id is))
      | inr ne ↦ inl (d.1.2.others id ne ∙ none)
    ]
    open_deed (Began opening logs (Err refusal) next) d none = inl (open_kept d.1 none)
    open_deed (Rested q) d none = inl (open_kept d none)
    open_deed (Stepped q turned moves.Moved next) d none = inl (open_step q false d.0 none)
    open_deed (Stepped q turned moves.Done next) d none = inl (open_step q true d.0 none)
    open_deed (Stepped q turned (moves.Again holder) next) d none = inl (open_kept d.0.0 none)
    open_deed (Stepped q turned moves.NoMemory next) d none = inl (open_kept d.0.0 none)
    open_deed (Stepped q turned moves.Spent next) d none = inl (open_kept d.0.0 none)
    open_deed (Stepped q turned moves.NoSuch next) d none = inl (open_kept d.0.0 none)
    open_deed (Took q room answer) d none =
        let gone : new.table ≡ set old.table q None = d.2.2.leaves.table ∙ ap (λ (v : StateView). v.table) d.1.gone in
        inl (elim (cases_eq id q) [
          | inl is ↦ ap (λ table. op_at table id) gone ∙ ap (op_at (set old.table q None)) is ∙ set_none old.table q
          | inr ne ↦ ap (λ table. op_at table id) gone ∙ set_there old.table q id None ne ∙ none
        ])
    open_deed (Kept q) d none = inl (open_kept d.0 none)

    opened_by : (what : Happening) → Happens old what new → op_at old.table id ≡ None → (op_at new.table id ≡ None) ⊎ (ids_after place ids what id ≡ Some place)
    opened_by (Acted p) d none = open_deed p.deed d.1 none
    opened_by Opened d none = inl (d.same id ∙ none)
    opened_by (Given worker batch) d none = inl (ap (λ (v : StateView). op_at v.table id) d.stands ∙ none)

  -- ---- at each later state the one of this birth is the one that was begun at this place

  named_now : (ids : Ids) (v : StateView) → IsTracked ids v → birth_at v.table id ≡ Some birth → IsNamed ids v
  named_now ids v (inl n) own = n
  named_now ids v (inr o) own = absurd (none (op_at v.table id) refl own)
    where
      none : (found : Option OperationView) → op_at v.table id ≡ found → option_map (λ (x : OperationView). x.birth) found ≡ Some birth → ⊥
      none None at is = no_value is
      none (Some op) at is = let low = o.later op at in let same = same_Some op.birth birth is in absurd (omega (arith, low, same))

  named_later : (log : List StateView) (run : List Happening) (v w : StateView) (place k : ℕ) (ids : Ids) → Through v log run → IsTracked ids v → slice_get (v ∷ log) k ≡ Some w
      → birth_at w.table id ≡ Some birth → IsNamed (ids_from place ids run k) w
  named_later log run v w place zero ids through tracked is own =
      let same = same_Some v w is in
      subst (IsNamed ids) same (named_now ids v tracked (ap (λ (x : StateView). birth_at x.table id) same ∙ own))
  named_later [] [] v w place (suc k) ids through tracked is own = absurd (no_value is)
  named_later (t ∷ log) (what ∷ run) v w place (suc k) ids through tracked is own =
      named_later log run t w (suc place) k (ids_after place ids what) through.1 (track place ids v t what through.0 tracked) is own
  named_later [] (what ∷ run) v w place (suc k) ids through tracked is own = absurd through
  named_later (t ∷ log) [] v w place (suc k) ids through tracked is own = absurd through

-- the operation of a begin's id and birth is named by the begin's place
pub named_from : (opening : OpeningView) (logs : ℕ) (ticket : Ticket) (next : Option Phase) (log : List StateView) (run : List Happening) (v w : StateView)
    (place j k name birth : ℕ) (ids : Ids) → name ≡ place + j → Through v log run → j < k → HappensAt v log j (Acted (record { steps = birth; deed = Began opening logs (Ok ticket) next }))
    → slice_get (v ∷ log) k ≡ Some w → birth_at w.table ticket.id ≡ Some birth → IsNamed birth ticket.id name (ids_from place ids run k) w
named_from opening logs ticket next [] [] v w place j k name birth ids at through lt d is own = absurd d
named_from opening logs ticket next (t ∷ log) (what ∷ run) v w place j zero name birth ids at through lt d is own = absurd (omega (arith, lt))
named_from opening logs ticket next (t ∷ log) (what ∷ run) v w place zero (suc k) name birth ids at through lt d is own =
    let op : OperationView = d.1.1.0 in
    let b : Begins v t ticket.id op.worker op.tenant op.command = d.1.1.2 in
    let here : place ≡ name = omega (arith, at) in
    let count : birth ≡ v.steps = d.0 in
    let steps = ap (λ (x : StateView). x.steps) b.stands in
    named_later birth ticket.id name log run t w (suc place) k (ids_after place ids what) through.1
    (inl (record {
      named = elim (opened_by birth ticket.id name place ids v t what through.0 b.free) [ inl none ↦ absurd (no_value (sym none ∙ b.there)) | inr named ↦ named ∙ ap Some here ];
      op = before_any op.worker op.tenant op.command v.steps;
      there = b.there;
      born = sym count;
      made = omega (arith, count, steps);
      since = inl refl;
    }))
    is own
named_from opening logs ticket next (t ∷ log) (what ∷ run) v w place (suc j) (suc k) name birth ids at through lt d is own =
    named_from opening logs ticket next log run t w (suc place) j k name birth (ids_after place ids what) (omega (arith, at)) through.1 (omega (arith, lt)) d is own
named_from opening logs ticket next [] (what ∷ run) v w place j k name birth ids at through lt d is own = absurd through
named_from opening logs ticket next (t ∷ log) [] v w place j k name birth ids at through lt d is own = absurd through
