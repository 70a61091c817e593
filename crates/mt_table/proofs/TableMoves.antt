-- A table stays one, and shows what it is to show: for the calls of table.rt.
use Rattle.std.proofs.Common.{◌≡◌, ◌≢◌, ℕ, zero, suc, ◌-◌, ◌<◌, ◌≤◌, ◌⊎◌, inl, inr, true, false, ◌==◌, set, Box, Global, Option, Some, None, is_some, refl, sym, ap, subst, ◌∙◌, arith}
use Rattle.std.proofs.{lemmas.Bool.{cases_eq, eqb-true}, lemmas.Option.same_Some}
use Rattle.slab.specs.Slab.{Slab, Updates}
use Rattle.mt_operation.specs.{declared.walk.Walk.Walk, declared.operation.Operation.Operation, Operations.moved, Tables.{Table, op_at, MayMove, IsFloorNeeded}}
use Rattle.mt_operation.proofs.Tables.{set_is, set_there, set_none}
use Rattle.mt_table.specs.{declared.queue.Seat.Seat, declared.queue.Ends.Ends, declared.queue.Queue.TheVariants.{FirstSteps, Begins}}
use Rattle.mt_table.specs.Seats.{Seats, seat_at, with_operation, operation_in, table_of, padded, first_in, first_at, is_still, no_links, after_in, before_in, after_of, before_of, IsEndOrSeat}
use Rattle.mt_table.specs.Queues.{IsInQueue, queue_number, ComesNext, IsStepQueue, SameLinks, CutsOut, LinksLast, Becomes}
use Rattle.mt_table.proofs.{Links.{op_seat, table_set, seat_there, written_in}, Places.{shown_op, shown_at, padded_set}}
use Rattle.mt_table.proofs.QueueLaws.{some_none, in_follows, same_queue, cut_queue, behind_queue}

none_op : {op : Operation} → ◌≡◌ {A = Option Operation} None (Some op) → ⊥
none_op e = cc

none_seat : {seat : Seat} → ◌≡◌ {A = Option Seat} None (Some seat) → ⊥
none_seat e = cc

-- an operation with a first step is there
first_some : (x : Option Operation) → 0 < first_in x → is_some x ≡ true
first_some None lt = absurd (omega (arith, lt))
first_some (Some op) lt = refl

queue_seat : (seats : Seats) (s : Option ℕ) → IsInQueue (first_at (table_of seats)) s → IsEndOrSeat seats s
queue_seat seats None here = tt
queue_seat seats (Some o) here = sym (seat_there seats o) ∙ first_some (op_at (table_of seats) o) here

-- the queue's last operation is there, and is none that has made no step
pub last_seat : (seats : Seats) (ends : Ends) → IsStepQueue seats ends → IsEndOrSeat seats ends.last
last_seat seats ends h = queue_seat seats ends.last ((h.befores None tt).0)

still_first : (x : Option Seat) → is_still x ≡ true → first_in (operation_in x) ≡ 0
still_first None e = absurd (cc)
still_first (Some seat) e = eqb-true seat.operation.value.walk.first 0 e

-- an operation that has made no step is not the queue's last
pub last_new : (seats : Seats) (ends : Ends) (o : ℕ) → IsStepQueue seats ends → is_still (seat_at seats o) ≡ true → ends.last ≢ Some o
last_new seats ends o h still is =
    let here = subst (IsInQueue (first_at (table_of seats))) is ((h.befores None tt).0) in
    absurd (omega (arith, here, ap first_in (op_seat seats o), still_first (seat_at seats o) still))

-- the seat of an operation that is there
opened : (x : Option Seat) (op : Operation) → operation_in x ≡ Some op → (seat : Seat) × (x ≡ Some seat) × (seat.operation.value ≡ op)
opened None op e = absurd (none_op e)
opened (Some seat) op e = (seat, refl, same_Some seat.operation.value op e)

closed : (x : Option Seat) → operation_in x ≡ None → x ≡ None
closed None e = refl
closed (Some seat) e = absurd (none_op (sym e))

-- one operation becomes what f makes of it
module _ (mid new : Seats) (o : ℕ) (f : Operation → Operation) (becomes : Becomes mid new o f) where
  -- what the table shows then
  pub became_table : (n : ℕ) (old : Seats) (now : Table) (op : Operation) → padded n (table_of old) ≡ now → table_of mid ≡ table_of old → op_at now o ≡ Some op → padded n (table_of new) ≡ set now o (Some (f op))
  became_table n old now op is same there =
      let w = opened (seat_at mid o) op (sym (shown_op n mid now o (ap (padded n) same ∙ is)) ∙ there) in
      ap (λ p. padded n (table_of p)) (becomes w.0 w.1)
      ∙ ap (padded n) (table_set mid o (Some (with_operation w.0 (f w.0.operation.value))))
      ∙ padded_set n (table_of mid) o w.0.operation.value (Some (f w.0.operation.value)) (op_seat mid o ∙ ap operation_in w.1)
      ∙ ap (λ t. set t o (Some (f w.0.operation.value))) (ap (padded n) same ∙ is)
      ∙ ap (λ (x : Operation). set now o (Some (f x))) w.2

  -- the links stay
  afters_became : (ends : Ends) (seat : Seat) → seat_at mid o ≡ Some seat → (s : Option ℕ) → after_of FirstSteps new ends s ≡ after_of FirstSteps mid ends s
  afters_became ends seat at None = refl
  afters_became ends seat at (Some q) = ap (λ p. after_in FirstSteps (seat_at p q)) (becomes seat at) ∙ written_in (after_in FirstSteps) mid o q seat (with_operation seat (f seat.operation.value)) at refl

  befores_became : (ends : Ends) (seat : Seat) → seat_at mid o ≡ Some seat → (s : Option ℕ) → before_of FirstSteps new ends s ≡ before_of FirstSteps mid ends s
  befores_became ends seat at None = refl
  befores_became ends seat at (Some q) = ap (λ p. before_in FirstSteps (seat_at p q)) (becomes seat at) ∙ written_in (before_in FirstSteps) mid o q seat (with_operation seat (f seat.operation.value)) at refl

-- the first steps of all others stay
other_first : (table new : Table) (o : ℕ) (op : Operation) → new ≡ set table o (Some op) → (q : ℕ) → q ≢ o → first_at new q ≡ first_at table q
other_first table new o op e q ne = ap (λ u. first_at u q) e ∙ ap first_in (set_there table o q (Some op) ne)

-- and its own where the walk begins when it did
first_kept : (table new : Table) (o : ℕ) (op now : Operation) → op_at table o ≡ Some op → now.walk.first ≡ op.walk.first → new ≡ set table o (Some now) → (q : ℕ) → first_at new q ≡ first_at table q
first_kept table new o op now there same e q = elim (cases_eq q o) [
  | inl here ↦ ap (λ n. first_at new n) here ∙ ap (λ t. first_at t o) e ∙ ap first_in (set_is table o now op there) ∙ same ∙ sym (ap first_in there) ∙ ap (λ n. first_at table n) (sym here)
  | inr other ↦ other_first table new o now e q other
]

-- a change that leaves an operation its walk keeps the table one
module _ (p0 p1 : Seats) (ends : Ends) (o : ℕ) (f : Operation → Operation) (h : IsStepQueue p0 ends) (same_walk : (op : Operation) → (f op).walk ≡ op.walk)
    (becomes : Becomes p0 p1 o f) (none : seat_at p0 o ≡ None → p1 ≡ p0) where
  changed_by : (x : Option Seat) → seat_at p0 o ≡ x → IsStepQueue p1 ends
  changed_by None at = subst (λ p. IsStepQueue p ends) (sym (none at)) h
  changed_by (Some seat) at =
      let there : op_at (table_of p0) o ≡ Some seat.operation.value = op_seat p0 o ∙ ap operation_in at in
      let table = became_table p0 p1 o f becomes 0 p0 (table_of p0) seat.operation.value refl refl there in
      same_queue (first_at (table_of p0)) (first_at (table_of p1)) (after_of FirstSteps p0 ends) (after_of FirstSteps p1 ends) (before_of FirstSteps p0 ends) (before_of FirstSteps p1 ends)
      (first_kept (table_of p0) (table_of p1) o seat.operation.value (f seat.operation.value) there (ap (λ (w : Walk). w.first) (same_walk seat.operation.value)) table)
      (λ t here. afters_became p0 p1 o f becomes ends seat at t)
      (λ t here. befores_became p0 p1 o f becomes ends seat at t)
      h

  -- the table with the operation changed
  pub changed_sound : IsStepQueue p1 ends
  changed_sound = changed_by (seat_at p0 o) refl

-- the operation of an id moves, and may have another outcome
module _ (n : ℕ) (p0 p1 : Seats) (e0 : Ends) (now : Table) (o step : ℕ) (walk : Walk) (is : padded n (table_of p0) ≡ now) (h : IsStepQueue p0 e0) (may : MayMove now o step)
    (f : Operation → Operation) (same_walk : (op : Operation) → (f op).walk ≡ (moved op step walk).walk) (becomes : Becomes p0 p1 o f) where
  there_at : (seat : Seat) → seat_at p0 o ≡ Some seat → op_at (table_of p0) o ≡ Some seat.operation.value
  there_at seat at = op_seat p0 o ∙ ap operation_in at

  early_at : (seat : Seat) → seat_at p0 o ≡ Some seat → seat.operation.value.walk.first < step
  early_at seat at = may.later o seat.operation.value (shown_at n p0 now o is ∙ there_at seat at)

  table_at : (seat : Seat) → seat_at p0 o ≡ Some seat → table_of p1 ≡ set (table_of p0) o (Some (f seat.operation.value))
  table_at seat at = became_table p0 p1 o f becomes 0 p0 (table_of p0) seat.operation.value refl refl (there_at seat at)

  seat_in : (x : Option Seat) → seat_at p0 o ≡ x → is_still x ≡ true → (seat : Seat) × (seat_at p0 o ≡ Some seat) × ((seat.operation.value.walk.first == 0) ≡ true)
  seat_in None at still = absurd (cc)
  seat_in (Some seat) at still = (seat, at, still)

  still_seat : is_still (seat_at p0 o) ≡ true → (seat : Seat) × (seat_at p0 o ≡ Some seat) × ((seat.operation.value.walk.first == 0) ≡ true)
  still_seat still = seat_in (seat_at p0 o) refl still

  -- it is there still
  pub moved_there : is_still (seat_at p0 o) ≡ true → IsEndOrSeat p1 (Some o)
  moved_there still = let s = still_seat still in seat_here s.0 s.1
    where
      seat_here : (seat : Seat) → seat_at p0 o ≡ Some seat → IsEndOrSeat p1 (Some o)
      seat_here seat at = ap (λ p. is_some (seat_at p o)) (becomes seat at) ∙ ap is_some (set_is p0 o (with_operation seat (f seat.operation.value)) seat at)

  -- and so is the queue's last
  pub moved_last : is_still (seat_at p0 o) ≡ true → IsEndOrSeat p1 e0.last
  moved_last still = let s = still_seat still in seat_last s.0 s.1 e0.last (last_seat p0 e0 h)
    where
      seat_last : (seat : Seat) → seat_at p0 o ≡ Some seat → (s : Option ℕ) → IsEndOrSeat p0 s → IsEndOrSeat p1 s
      seat_last seat at None here = tt
      seat_last seat at (Some q) here = ap (λ p. is_some (seat_at p q)) (becomes seat at) ∙ written_in is_some p0 o q seat (with_operation seat (f seat.operation.value)) at refl ∙ here

  -- where this is its first step, and it is put behind all others, the table stays one
  pub moved_first : (p2 : Seats) (e1 : Ends) → is_still (seat_at p0 o) ≡ true → LinksLast FirstSteps p1 e0 p2 e1 o → IsStepQueue p2 e1
  moved_first p2 e1 still l = let s = still_seat still in first_by s.0 s.1 s.2
    where
      first_step : (op : Operation) → (op.walk.first == 0) ≡ true → (f op).walk.first ≡ step
      first_step op e = ap (λ (w : Walk). w.first) (same_walk op) ∙ rw e refl

      first_by : (seat : Seat) → seat_at p0 o ≡ Some seat → (seat.operation.value.walk.first == 0) ≡ true → IsStepQueue p2 e1
      first_by seat at still =
          let there = there_at seat at in
          let table : table_of p2 ≡ set (table_of p0) o (Some (f seat.operation.value)) = l.table ∙ table_at seat at in
          let first : first_at (table_of p2) o ≡ step =
          ap (λ t. first_at t o) table ∙ ap first_in (set_is (table_of p0) o (f seat.operation.value) seat.operation.value there) ∙ first_step seat.operation.value still in
          behind_queue (first_at (table_of p0)) (first_at (table_of p2)) (after_of FirstSteps p0 e0) (after_of FirstSteps p2 e1) (before_of FirstSteps p0 e0) (before_of FirstSteps p2 e1) o h
          (ap first_in there ∙ eqb-true seat.operation.value.walk.first 0 still)
          (omega (arith, first, early_at seat at))
          (λ q. omega (arith, first, below q (op_at (table_of p0) q) refl))
          (λ q ne. other_first (table_of p0) (table_of p2) o (f seat.operation.value) table q ne)
          l.after l.ends l.before l.last
          (λ s ne other. l.afters s ne other ∙ afters_became p0 p1 o f becomes e0 seat at s)
          (λ s ne other. l.befores s ne other ∙ befores_became p0 p1 o f becomes e0 seat at s)
        where
          -- every first step of before is earlier
          below : (q : ℕ) (x : Option Operation) → op_at (table_of p0) q ≡ x → first_in (op_at (table_of p0) q) < step
          below q None e = omega (arith, ap first_in e, early_at seat at)
          below q (Some op) e = omega (arith, ap first_in e, may.later q op (shown_at n p0 now q is ∙ e))

  -- and where it has made one, and no link is another
  pub moved_later : (seat_at p0 o ≡ None → p1 ≡ p0) → is_still (seat_at p0 o) ≡ false → IsStepQueue p1 e0
  moved_later none begun = later_by (seat_at p0 o) refl begun
    where
      first_stays : (op : Operation) → (op.walk.first == 0) ≡ false → (f op).walk.first ≡ op.walk.first
      first_stays op e = ap (λ (w : Walk). w.first) (same_walk op) ∙ rw e refl

      later_by : (x : Option Seat) → seat_at p0 o ≡ x → is_still x ≡ false → IsStepQueue p1 e0
      later_by None at begun = subst (λ p. IsStepQueue p e0) (sym (none at)) h
      later_by (Some seat) at begun =
          let table = table_at seat at in
          same_queue (first_at (table_of p0)) (first_at (table_of p1)) (after_of FirstSteps p0 e0) (after_of FirstSteps p1 e0) (before_of FirstSteps p0 e0) (before_of FirstSteps p1 e0)
          (first_kept (table_of p0) (table_of p1) o seat.operation.value (f seat.operation.value) (there_at seat at) (first_stays seat.operation.value begun) table)
          (λ t here. afters_became p0 p1 o f becomes e0 seat at t)
          (λ t here. befores_became p0 p1 o f becomes e0 seat at t)
          h

-- an operation more, which has made no step
module _ (old new : Slab Seat) (ends : Ends) (o : ℕ) (op : Box Operation Global) (h : IsStepQueue old.slots ends) (vacant : seat_at old.slots o ≡ None)
    (updates : Updates old new o (Some (record { operation = op; first_steps = no_links; begins = no_links }))) (still : op.value.walk.first ≡ 0) where
  -- the table stays one
  pub kept_sound : IsStepQueue new.slots ends
  kept_sound = same_queue (first_at (table_of old.slots)) (first_at (table_of new.slots)) (after_of FirstSteps old.slots ends) (after_of FirstSteps new.slots ends) (before_of FirstSteps old.slots ends) (before_of FirstSteps new.slots ends)
      (λ q. elim (cases_eq q o) [
        | inl is ↦ ap (λ n. first_at (table_of new.slots) n) is ∙ ap first_in (op_seat new.slots o ∙ ap operation_in updates.changed) ∙ still ∙ sym (ap first_in (op_seat old.slots o ∙ ap operation_in vacant)) ∙ ap (λ n. first_at (table_of old.slots) n) (sym is)
        | inr other ↦ ap first_in (op_seat new.slots q ∙ ap operation_in (updates.others q other) ∙ sym (op_seat old.slots q))
      ])
      afters
      befores
      h
    where
      new_here : (q : ℕ) → IsInQueue (first_at (table_of old.slots)) (Some q) → q ≢ o
      new_here q here is = absurd (omega (arith, here, ap (first_at (table_of old.slots)) is, ap first_in (op_seat old.slots o ∙ ap operation_in vacant)))

      afters : (s : Option ℕ) → IsInQueue (first_at (table_of old.slots)) s → after_of FirstSteps new.slots ends s ≡ after_of FirstSteps old.slots ends s
      afters None here = refl
      afters (Some q) here = ap (after_in FirstSteps) (updates.others q (new_here q here))

      befores : (s : Option ℕ) → IsInQueue (first_at (table_of old.slots)) s → before_of FirstSteps new.slots ends s ≡ before_of FirstSteps old.slots ends s
      befores None here = refl
      befores (Some q) here = ap (before_in FirstSteps) (updates.others q (new_here q here))

  -- what the table shows then
  pub kept_there : (m : ℕ) (p2 : Seats) → table_of p2 ≡ table_of new.slots → op_at (padded m (table_of p2)) o ≡ Some op.value
  kept_there m p2 same = shown_op m new.slots (padded m (table_of p2)) o (ap (padded m) (sym same)) ∙ ap operation_in updates.changed

  -- every other id has what it had
  pub kept_others : (n m : ℕ) (now : Table) (p2 : Seats) → padded n (table_of old.slots) ≡ now → table_of p2 ≡ table_of new.slots → (q : ℕ) → q ≢ o → op_at (padded m (table_of p2)) q ≡ op_at now q
  kept_others n m now p2 is same q ne = shown_op m new.slots (padded m (table_of p2)) q (ap (padded m) (sym same)) ∙ ap operation_in (updates.others q ne) ∙ sym (shown_op n old.slots now q is)

-- an operation less
module _ (p0 p1 : Seats) (e0 : Ends) (o : ℕ) (seat : Seat) (h : IsStepQueue p0 e0) (at : seat_at p0 o ≡ Some seat) (gone : p1 ≡ set p0 o None) where
  there : op_at (table_of p0) o ≡ Some seat.operation.value
  there = op_seat p0 o ∙ ap operation_in at

  table_gone : table_of p1 ≡ set (table_of p0) o None
  table_gone = ap table_of gone ∙ table_set p0 o None

  -- what the table shows without it
  pub gone_shows : (n : ℕ) (now : Table) (p2 : Seats) → padded n (table_of p0) ≡ now → table_of p2 ≡ table_of p1 → padded n (table_of p2) ≡ set now o None
  gone_shows n now p2 is same = ap (padded n) (same ∙ table_gone) ∙ padded_set n (table_of p0) o seat.operation.value None there ∙ ap (λ t. set t o None) is

  -- its neighbours are there still
  still_there : (s : Option ℕ) → IsInQueue (first_at (table_of p0)) s → s ≢ Some o → IsEndOrSeat p1 s
  still_there None here ne = tt
  still_there (Some q) here ne = ap (λ p. is_some (seat_at p q)) gone ∙ ap is_some (set_there p0 o q None (λ is. ne (ap (λ n. Some n) is))) ∙ queue_seat p0 (Some q) here

  ahead : 0 < seat.operation.value.walk.first → ComesNext (first_at (table_of p0)) seat.first_steps.before (Some o)
  ahead begun = subst (λ x. ComesNext (first_at (table_of p0)) (before_in FirstSteps x) (Some o)) at (h.befores (Some o) (omega (arith, begun, ap first_in there)))

  behind : 0 < seat.operation.value.walk.first → ComesNext (first_at (table_of p0)) (Some o) seat.first_steps.after
  behind begun = subst (λ x. ComesNext (first_at (table_of p0)) (Some o) (after_in FirstSteps x)) at (h.afters (Some o) (omega (arith, begun, ap first_in there)))

  -- the operation before it in the queue is there
  pub before_there : 0 < seat.operation.value.walk.first → IsEndOrSeat p1 seat.first_steps.before
  before_there begun = still_there seat.first_steps.before (ahead begun).0 (λ is. absurd (omega (arith, ap (queue_number (first_at (table_of p0))) is, (ahead begun).1)))

  not_behind : (t : Option ℕ) → ComesNext (first_at (table_of p0)) (Some o) t → t ≢ Some o
  not_behind None f is = some_none (sym is)
  not_behind (Some q) f is = absurd (omega (arith, f.1, ap (first_at (table_of p0)) (same_Some q o is)))

  -- and so is the one after it
  pub after_there : 0 < seat.operation.value.walk.first → IsEndOrSeat p1 seat.first_steps.after
  after_there begun = still_there seat.first_steps.after (in_follows (first_at (table_of p0)) (Some o) seat.first_steps.after (behind begun)) (not_behind seat.first_steps.after (behind begun))

  none_first : (p2 : Seats) → table_of p2 ≡ table_of p1 → first_at (table_of p2) o ≡ 0
  none_first p2 same = ap (λ t. first_at t o) (same ∙ table_gone) ∙ ap first_in (set_none (table_of p0) o)

  others_first : (p2 : Seats) → table_of p2 ≡ table_of p1 → (q : ℕ) → q ≢ o → first_at (table_of p2) q ≡ first_at (table_of p0) q
  others_first p2 same q ne = ap (λ t. first_at t q) (same ∙ table_gone) ∙ ap first_in (set_there (table_of p0) o q None ne)

  afters_gone : (s : Option ℕ) → s ≢ Some o → after_of FirstSteps p1 e0 s ≡ after_of FirstSteps p0 e0 s
  afters_gone None ne = refl
  afters_gone (Some q) ne = ap (λ p. after_in FirstSteps (seat_at p q)) gone ∙ ap (after_in FirstSteps) (set_there p0 o q None (λ is. ne (ap (λ n. Some n) is)))

  befores_gone : (s : Option ℕ) → s ≢ Some o → before_of FirstSteps p1 e0 s ≡ before_of FirstSteps p0 e0 s
  befores_gone None ne = refl
  befores_gone (Some q) ne = ap (λ p. before_in FirstSteps (seat_at p q)) gone ∙ ap (before_in FirstSteps) (set_there p0 o q None (λ is. ne (ap (λ n. Some n) is)))

  cut_by : (p2 : Seats) (e2 : Ends) → 0 < seat.operation.value.walk.first → CutsOut FirstSteps p1 e0 p2 e2 seat.first_steps → IsStepQueue p2 e2
  cut_by p2 e2 begun u =
      let before_is : before_of FirstSteps p0 e0 (Some o) ≡ seat.first_steps.before = ap (before_in FirstSteps) at in
      let after_is : after_of FirstSteps p0 e0 (Some o) ≡ seat.first_steps.after = ap (after_in FirstSteps) at in
      cut_queue (first_at (table_of p0)) (first_at (table_of p2)) (after_of FirstSteps p0 e0) (after_of FirstSteps p2 e2) (before_of FirstSteps p0 e0) (before_of FirstSteps p2 e2) o h
      (omega (arith, begun, ap first_in there)) (none_first p2 u.table) (others_first p2 u.table)
      (ap (after_of FirstSteps p2 e2) before_is ∙ u.after ∙ sym after_is) (ap (before_of FirstSteps p2 e2) after_is ∙ u.before ∙ sym before_is)
      (λ s ne other. u.afters s (λ is. ne (is ∙ sym before_is)) ∙ afters_gone s other) (λ s ne other. u.befores s (λ is. ne (is ∙ sym after_is)) ∙ befores_gone s other)

  left_by : seat.operation.value.walk.first ≡ 0 → IsStepQueue p1 e0
  left_by still =
      same_queue (first_at (table_of p0)) (first_at (table_of p1)) (after_of FirstSteps p0 e0) (after_of FirstSteps p1 e0) (before_of FirstSteps p0 e0) (before_of FirstSteps p1 e0)
      (λ q. elim (cases_eq q o) [
        | inl is ↦ ap (first_at (table_of p1)) is ∙ none_first p1 refl ∙ sym still ∙ sym (ap first_in there) ∙ ap (first_at (table_of p0)) (sym is)
        | inr other ↦ others_first p1 refl q other
      ])
      (λ s here. afters_gone s (not_here s here)) (λ s here. befores_gone s (not_here s here)) h
    where
      not_here : (s : Option ℕ) → IsInQueue (first_at (table_of p0)) s → s ≢ Some o
      not_here None here is = some_none (sym is)
      not_here (Some q) here is = absurd (omega (arith, here, still, ap first_in there, ap (first_at (table_of p0)) (same_Some q o is)))

  cases_first : (n : ℕ) → (0 < n) ⊎ (n ≡ 0)
  cases_first zero = inr refl
  cases_first (suc n) = inl (omega arith)

  -- what is left is a table
  pub gone_sound : (p2 : Seats) (e2 : Ends) → (0 < seat.operation.value.walk.first → CutsOut FirstSteps p1 e0 p2 e2 seat.first_steps) → (seat.operation.value.walk.first ≡ 0 → (p2 ≡ p1) × (e2 ≡ e0)) → IsStepQueue p2 e2
  gone_sound p2 e2 unlinks same = elim (cases_first seat.operation.value.walk.first) [
    | inl begun ↦ cut_by p2 e2 begun (unlinks begun)
    | inr still ↦ let s = same still in subst (λ e. IsStepQueue p2 e) (sym s.1) (subst (λ p. IsStepQueue p e0) (sym s.0) (left_by still))
  ]

  -- cutting it out of the queue changes no operation
  pub gone_table : (p2 : Seats) (e2 : Ends) → (0 < seat.operation.value.walk.first → CutsOut FirstSteps p1 e0 p2 e2 seat.first_steps) → (seat.operation.value.walk.first ≡ 0 → (p2 ≡ p1) × (e2 ≡ e0)) → table_of p2 ≡ table_of p1
  gone_table p2 e2 unlinks same = elim (cases_first seat.operation.value.walk.first) [
    | inl begun ↦ (unlinks begun).table
    | inr still ↦ ap table_of (same still).0
  ]

  -- nor any link of another queue
  pub gone_links : (p2 : Seats) (e2 : Ends) → (0 < seat.operation.value.walk.first → CutsOut FirstSteps p1 e0 p2 e2 seat.first_steps) → (seat.operation.value.walk.first ≡ 0 → (p2 ≡ p1) × (e2 ≡ e0)) → SameLinks Begins p1 p2
  gone_links p2 e2 unlinks same = elim (cases_first seat.operation.value.walk.first) [
    | inl begun ↦ (unlinks begun).leaves Begins (λ e. absurd (cc))
    | inr still ↦ subst (SameLinks Begins p1) (sym (same still).0) (record { afters = λ q. refl; befores = λ q. refl })
  ]

-- the floor that is needed where no operation has made a step
pub floor_none : (n : ℕ) (seats : Seats) (ends : Ends) (now : Table) (steps : ℕ) → padded n (table_of seats) ≡ now → IsStepQueue seats ends → ends.first ≡ None → IsFloorNeeded now steps steps
floor_none n seats ends now steps is h none =
    let f = subst (ComesNext (first_at (table_of seats)) None) none (h.afters None tt) in
    record {
      made = omega arith;
      before = λ o op at begun. absurd (omega (arith, f.1 o, ap first_in (sym (shown_at n seats now o is) ∙ at), begun));
      greatest = λ k le before. le;
    }

-- and where one did so first
module _ (seats : Seats) (ends : Ends) (o : ℕ) (h : IsStepQueue seats ends) (first : ends.first ≡ Some o) where
  first_follows : ComesNext (first_at (table_of seats)) None (Some o)
  first_follows = subst (ComesNext (first_at (table_of seats)) None) first (h.afters None tt)

  -- the queue's first operation is there
  pub first_there : seat_at seats o ≡ None → ⊥
  first_there none = absurd (omega (arith, first_follows.1, ap first_in (op_seat seats o ∙ ap operation_in none)))

  -- it has made a step
  pub first_begun : (seat : Seat) → seat_at seats o ≡ Some seat → 1 ≤ seat.operation.value.walk.first
  first_begun seat at = omega (arith, first_follows.1, ap first_in (op_seat seats o ∙ ap operation_in at))

  -- and the number before that one is the floor
  pub floor_first : (n : ℕ) (seat : Seat) (now : Table) (steps : ℕ) → padded n (table_of seats) ≡ now → ((q : ℕ) (op : Operation) → op_at now q ≡ Some op → op.walk.first ≤ steps) → seat_at seats o ≡ Some seat → IsFloorNeeded now steps (seat.operation.value.walk.first - 1)
  floor_first n seat now steps is made at =
      let there : op_at now o ≡ Some seat.operation.value = shown_op n seats now o is ∙ ap operation_in at in
      let first_is : first_at (table_of seats) o ≡ seat.operation.value.walk.first = ap first_in (op_seat seats o ∙ ap operation_in at) in
      record {
        made = omega (arith, made o seat.operation.value there);
        before = λ q op at_q begun. elim (first_follows.2 q) [
          | inl le ↦ absurd (omega (arith, le, begun, ap first_in (sym (shown_at n seats now q is) ∙ at_q)))
          | inr over ↦ omega (arith, over, first_is, first_begun seat at, ap first_in (sym (shown_at n seats now q is) ∙ at_q))
        ];
        greatest = λ k le before. omega (arith, before o seat.operation.value there (first_begun seat at));
      }
