-- What a period leaves of the passes' own operations: for `Kept`.
use Rattle.std.proofs.{Common.{◌≡◌, ◌≢◌, ℕ, inl, inr, Bool, true, false, List, set, Option, Some, None, sym, ap, ◌∙◌}, lemmas.Bool.cases_eq}
use Rattle.std.specs.Option.{option_map}
use Rattle.mt_operation.{specs.{declared.phase.Phase.Phase, Operations.OperationView}, proofs.Tables.{set_here, set_is, set_none, set_there}}
use Rattle.mt_runs.specs.declared.event.Answer.{Answer}
use Rattle.mt_rows.specs.{declared.command.Command.Command, declared.record.Batch.Batch}
use Rattle.mt_state.specs.{declared.moves.Move.Move, Views.{StateView, Shown, op_at}, Promises.IsStep, Begins.{Begins, Takes}}
use Rattle.mt_core.specs.{Admitted.OpeningView, Drains.Drains, Tidies.Leaves}
use Rattle.mt_book.specs.{declared.births.Born.Born, declared.desks.Admitted.Admitted, declared.desks.Taken.Taken, declared.gates.Turned.Turned}
use Rattle.mt_book.specs.{Periods.{admission_deed, step_deed, taken_deed}, Does.Did, Births.{birth_at, born_at, AreBorn, noted, cleared}}
use Rattle.mt_book.specs.declared.desks.Admitted.TheVariants as admitted
use Rattle.mt_book.specs.declared.desks.Taken.TheVariants as taken
use Rattle.mt_state.specs.declared.moves.Move.TheVariants as moves

no_value : {A : Type 0} {a : A} → ◌≡◌ {A = Option A} None (Some a) → ⊥
no_value e = cc

abbrev birth_in : Option OperationView → Option ℕ
birth_in op = option_map (λ (x : OperationView). x.birth) op

-- every birth stays
abbrev pub BirthsStay : Shown → Shown → Type 0
BirthsStay old new = (id birth : ℕ) → birth_at old id ≡ Some birth → birth_at new id ≡ Some birth

pub born_kept : (old new : Shown) (births : List (Option Born)) → BirthsStay old new → AreBorn old births → AreBorn new births
born_kept old new births stay are = record { open_so = λ seat own e. stay own.id own.birth (are.open_so seat own e); apart = are.apart }

pub stay_same : (old new : StateView) → new ≡ old → BirthsStay old.table new.table
stay_same old new is id birth e = ap (λ (v : StateView). birth_at v.table id) is ∙ e

pub stay_places : (old new : Shown) → ((id : ℕ) → op_at new id ≡ op_at old id) → BirthsStay old new
stay_places old new same id birth e = ap birth_in (same id) ∙ e

pub stay_drained : (old new : StateView) (worker : ℕ) (batch : Batch) → Drains old new worker batch → BirthsStay old.table new.table
stay_drained old new worker batch d id birth e = ap (λ (v : StateView). birth_at v.table id) d.stands ∙ e

-- a step leaves all births
stay_step : (old new : StateView) (id : ℕ) (done : Bool) → IsStep old new id done → BirthsStay old.table new.table
stay_step old new id done s other birth e = elim (cases_eq other id) [
  | inl is ↦
      let now : op_at new.table other ≡ Some s.after = ap (op_at new.table) is ∙ ap (λ t. op_at t id) s.table ∙ set_is old.table id s.after s.before s.there in
      let was : op_at old.table other ≡ Some s.before = ap (op_at old.table) is ∙ s.there in
      ap birth_in now ∙ ap Some s.moves.birth ∙ sym (ap birth_in was) ∙ e
  | inr ne ↦ ap birth_in (ap (λ t. op_at t other) s.table ∙ set_there old.table id other (Some s.after) ne) ∙ e
]

pub stay_stepped : (old new : StateView) (id : ℕ) (turned : Turned) (made : Option Move) (next : Option Phase) → Did old new (step_deed id turned made next) → BirthsStay old.table new.table
stay_stepped old new id turned None next d = stay_same old new d
stay_stepped old new id turned (Some moves.Moved) next d = stay_step old new id false d.0
stay_stepped old new id turned (Some moves.Done) next d = stay_step old new id true d.0
stay_stepped old new id turned (Some (moves.Again holder)) next d = stay_same old new d.0.0
stay_stepped old new id turned (Some moves.NoMemory) next d = stay_same old new d.0.0
stay_stepped old new id turned (Some moves.Spent) next d = stay_same old new d.0.0
stay_stepped old new id turned (Some moves.NoSuch) next d = stay_same old new d.0.0

-- an operation that is begun stands at its pass's seat, and nobody else's has its id
module _ (old new : StateView) (births : List (Option Born)) (seat steps id worker tenant : ℕ) (command : Command) (number : steps ≡ old.steps)
    (b : Begins old new id worker tenant command) (are : AreBorn old.table births) where
  abbrev one : Born
  one = record { id = id; birth = steps }

  abbrev now : List (Option Born)
  now = set births seat (Some one)

  here : (k : ℕ) (own : Born) → k ≡ seat → born_at now k ≡ Some own → one ≡ own
  here k own is e = set_here births seat one own (sym (ap (born_at now) is) ∙ e)

  was : (k : ℕ) (own : Born) → k ≢ seat → born_at now k ≡ Some own → born_at births k ≡ Some own
  was k own ne e = sym (set_there births seat k (Some one) ne) ∙ e

  fresh : (k : ℕ) (own : Born) → born_at births k ≡ Some own → own.id ≢ id
  fresh k own e is = no_value (sym (ap birth_in b.free) ∙ sym (ap (birth_at old.table) is) ∙ are.open_so k own e)

  open_now : (k : ℕ) (own : Born) → born_at now k ≡ Some own → birth_at new.table own.id ≡ Some own.birth
  open_now k own e = elim (cases_eq k seat) [
    | inl is ↦
        let same = here k own is e in
        ap (λ (x : Born). birth_at new.table x.id) (sym same) ∙ ap birth_in b.there ∙ ap Some (sym number) ∙ ap (λ (x : Born). Some x.birth) same
    | inr ne ↦ let so = was k own ne e in ap birth_in (b.others own.id (fresh k own so)) ∙ are.open_so k own so
  ]

  -- an operation at another seat has another id
  other : (j k : ℕ) (own its : Born) → j ≡ seat → k ≢ seat → born_at now j ≡ Some own → born_at now k ≡ Some its → own.id ≡ its.id → ⊥
  other j k own its is ne e f same = fresh k its (was k its ne f) (sym same ∙ sym (ap (λ (x : Born). x.id) (here j own is e)))

  pub born_begun : AreBorn new.table now
  born_begun = record {
    open_so = open_now;
    apart = λ j k own its e f same. elim (cases_eq j seat) [
      | inl is ↦ elim (cases_eq k seat) [ inl also ↦ is ∙ sym also | inr ne ↦ absurd (other j k own its is ne e f same) ]
      | inr ne ↦ elim (cases_eq k seat) [ inl is ↦ absurd (other k j its own is ne f e (sym same)) | inr not ↦ are.apart j k own its (was j own ne e) (was k its not f) same ]
    ];
  }

pub born_noted : (old new : StateView) (births : List (Option Born)) (seat steps logs : ℕ) (opening : OpeningView) (told : Admitted) → steps ≡ old.steps
    → Did old new (admission_deed opening logs told) → AreBorn old.table births → AreBorn new.table (noted births seat steps told)
born_noted old new births seat steps logs opening (admitted.Early back) number d are = born_kept old.table new.table births (stay_same old new d.0) are
born_noted old new births seat steps logs opening (admitted.Begun ticket phase) number d are = born_begun old new births seat steps ticket.id d.1.0.worker d.1.0.tenant d.1.0.command number d.1.2 are
born_noted old new births seat steps logs opening (admitted.Refused refusal) number d are = born_kept old.table new.table births (stay_same old new d.1) are

-- one whose answer was taken is gone, and from its seat too
born_gone : (old mid new : StateView) (births : List (Option Born)) (seat id birth : ℕ) (answer : Answer) → born_at births seat ≡ Some (record { id = id; birth = birth })
    → Takes old mid id answer → Leaves mid new → AreBorn old.table births → AreBorn new.table (set births seat None)
born_gone old mid new births seat id birth answer own t l are = record {
  open_so = λ k its e.
      let was = left k its e in
      ap birth_in (ap (λ table. op_at table its.id) gone ∙ set_there old.table id its.id None (λ same. elsewhere k its e (are.apart k seat its _ was own same))) ∙ are.open_so k its was;
  apart = λ j k mine its e f same. are.apart j k mine its (left j mine e) (left k its f) same;
}
  where
    gone : new.table ≡ set old.table id None
    gone = l.table ∙ ap (λ (v : StateView). v.table) t.gone

    elsewhere : (k : ℕ) (its : Born) → born_at (set births seat None) k ≡ Some its → k ≢ seat
    elsewhere k its e is = no_value (sym (set_none births seat) ∙ sym (ap (born_at (set births seat None)) is) ∙ e)

    left : (k : ℕ) (its : Born) → born_at (set births seat None) k ≡ Some its → born_at births k ≡ Some its
    left k its e = sym (set_there births seat k None (elsewhere k its e)) ∙ e

pub born_cleared : (old new : StateView) (births : List (Option Born)) (seat id birth room : ℕ) (told : Taken) → born_at births seat ≡ Some (record { id = id; birth = birth })
    → Did old new (taken_deed id room told) → AreBorn old.table births → AreBorn new.table (cleared births seat told)
born_cleared old new births seat id birth room (taken.Early back) own d are = born_kept old.table new.table births (stay_same old new d) are
born_cleared old new births seat id birth room (taken.Open back) own d are = born_kept old.table new.table births (stay_same old new d.0) are
born_cleared old new births seat id birth room (taken.Answered answer) own d are = born_gone old d.0 new births seat id birth answer own d.1 d.2.2.leaves are
