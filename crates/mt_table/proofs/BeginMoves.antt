-- The queue of begins stays one, and its first operation has the least birth: for the calls of table.rt.
use Rattle.std.proofs.{Common.{◌≡◌, ◌≢◌, ℕ, ◌≤◌, ◌<◌, Bool, true, false, [], set, Box, Global, Option, Some, None, is_some, refl, sym, ap, subst, ◌∙◌, arith}, lemmas.Option.same_Some}
use Rattle.slab.specs.Slab.{Slab, Updates}
use Rattle.mt_operation.specs.{declared.operation.Operation.Operation, Operations.counted, Tables.{Table, op_at, AreBornUpTo, IsLeastBirth}}
use Rattle.mt_operation.proofs.Tables.{set_there, set_none}
use Rattle.mt_table.specs.{declared.queue.Seat.Seat, declared.queue.Ends.Ends, declared.queue.Queue.Queue, declared.queue.Queue.TheVariants.{FirstSteps, Begins}}
use Rattle.mt_table.specs.{declared.steps.Made.Made, declared.steps.Made.TheVariants.{Step, Blocked as BlockedBy, NoMemory as RefusedBy, Nothing}}
use Rattle.mt_table.specs.{declared.steps.Stepped.Stepped, declared.steps.Stepped.TheVariants.{To, Blocked, NoMemory, Left, Absent}}
use Rattle.mt_table.specs.Seats.{Seats, seat_at, with_operation, operation_in, table_of, padded, first_at, birth_in, birth_at, no_links, after_in, before_in, after_of, before_of, IsEndOrSeat}
use Rattle.mt_table.specs.Queues.{IsInQueue, queue_number, ComesNext, IsStepQueue, IsBeginQueue, IsTable, SameLinks, CutsOut, LinksLast}
use Rattle.mt_table.specs.Bodies.{Body, KeepsBirth, SeatStepsBy}
use Rattle.mt_table.proofs.Links.{op_seat, table_set, seat_there, seat_kept, written_in, same_after, same_before, links_written}
use Rattle.mt_table.proofs.{Places.{shown_op, shown_at}, QueueLaws.same_queue, BeginOrder.{first_born, none_born, same_order, order_begun, order_ended}}

-- the two queues are not one
pub not_begins : ◌≡◌ {A = Queue} FirstSteps Begins → ⊥
not_begins e = cc

pub not_first_steps : ◌≡◌ {A = Queue} Begins FirstSteps → ⊥
not_first_steps e = cc

some_none : {o : ℕ} → ◌≡◌ {A = Option ℕ} (Some o) None → ⊥
some_none e = cc

false_true : ◌≡◌ {A = Bool} false true → ⊥
false_true e = cc

-- a table of nobody
abbrev no_ends : Ends
no_ends = record { first = None; last = None }

no_ranks : ℕ → ℕ
no_ranks o = 0

none_after : (s : Option ℕ) → IsInQueue no_ranks s → ComesNext no_ranks s (after_of Begins [] no_ends s)
unfolding no_ranks
none_after None here = (tt, λ r. omega arith)
none_after (Some o) here = absurd (omega (arith, here))

none_before : (s : Option ℕ) → IsInQueue no_ranks s → ComesNext no_ranks (before_of Begins [] no_ends s) s
unfolding no_ranks
none_before None here = (tt, λ r. omega arith)
none_before (Some o) here = absurd (omega (arith, here))

begins_none : IsBeginQueue [] no_ends
unfolding no_ranks
begins_none = record {
  rank = no_ranks;
  queue = record { apart = λ o q here same. absurd (omega (arith, here)); afters = none_after; befores = none_before };
  opened = λ o b is. absurd (some_none (sym is));
  closed = λ o none. refl;
  rises = λ o q b c is_o is_q le. absurd (some_none (sym is_o));
}

no_first_after : (s : Option ℕ) → IsInQueue (first_at []) s → ComesNext (first_at []) s (after_of FirstSteps [] no_ends s)
no_first_after None here = (tt, λ r. omega arith)
no_first_after (Some o) here = absurd (omega (arith, here))

no_first_before : (s : Option ℕ) → IsInQueue (first_at []) s → ComesNext (first_at []) (before_of FirstSteps [] no_ends s) s
no_first_before None here = (tt, λ r. omega arith)
no_first_before (Some o) here = absurd (omega (arith, here))

pub table_none : IsTable [] no_ends no_ends
table_none = record {
  first_steps = record { apart = λ o q here same. absurd (omega (arith, here)); afters = no_first_after; befores = no_first_before };
  begins = begins_none;
}

-- a change of the links of one queue leaves the other one
pub steps_stay : (p0 p1 : Seats) (ends : Ends) → IsStepQueue p0 ends → table_of p1 ≡ table_of p0 → SameLinks FirstSteps p0 p1 → IsStepQueue p1 ends
steps_stay p0 p1 ends h table links =
    same_queue (first_at (table_of p0)) (first_at (table_of p1)) (after_of FirstSteps p0 ends) (after_of FirstSteps p1 ends) (before_of FirstSteps p0 ends) (before_of FirstSteps p1 ends)
    (λ q. ap (λ t. first_at t q) table) (λ s here. same_after FirstSteps p0 p1 links ends s) (λ s here. same_before FirstSteps p0 p1 links ends s) h

begins_by_births : (p0 p1 : Seats) (ends : Ends) → IsBeginQueue p0 ends → ((q : ℕ) → birth_at (table_of p1) q ≡ birth_at (table_of p0) q) → SameLinks Begins p0 p1 → IsBeginQueue p1 ends
begins_by_births p0 p1 ends h births links =
    same_order (birth_at (table_of p0)) (after_of Begins p0 ends) (before_of Begins p0 ends) h (birth_at (table_of p1)) (after_of Begins p1 ends) (before_of Begins p1 ends)
    births (same_after Begins p0 p1 links ends) (same_before Begins p0 p1 links ends)

pub begins_stay : (p0 p1 : Seats) (ends : Ends) → IsBeginQueue p0 ends → table_of p1 ≡ table_of p0 → SameLinks Begins p0 p1 → IsBeginQueue p1 ends
begins_stay p0 p1 ends h table links = begins_by_births p0 p1 ends h (λ q. ap (λ t. birth_at t q) table) links

-- the birth of a seat's operation
born_at : (seats : Seats) (o : ℕ) (seat : Seat) → seat_at seats o ≡ Some seat → birth_at (table_of seats) o ≡ Some seat.operation.value.birth
born_at seats o seat at = ap birth_in (op_seat seats o ∙ ap operation_in at)

-- who is in the queue is there
begun_seat : (seats : Seats) (ends : Ends) (h : IsBeginQueue seats ends) (s : Option ℕ) → IsInQueue h.rank s → IsEndOrSeat seats s
begun_seat seats ends h None here = tt
begun_seat seats ends h (Some o) here = sym (seat_there seats o) ∙ some_of (op_at (table_of seats) o) refl
  where
    some_of : (x : Option Operation) → op_at (table_of seats) o ≡ x → is_some (op_at (table_of seats) o) ≡ true
    some_of None e = absurd (omega (arith, here, h.closed o (ap birth_in e)))
    some_of (Some op) e = ap is_some e

-- an operation more, whose birth is not below the others'
module _ (old new : Slab Seat) (ends : Ends) (o : ℕ) (op : Box Operation Global) (h : IsBeginQueue old.slots ends) (vacant : seat_at old.slots o ≡ None)
    (updates : Updates old new o (Some (record { operation = op; first_steps = no_links; begins = no_links }))) where
  pub born_there : IsEndOrSeat new.slots (Some o)
  born_there = ap is_some updates.changed

  last_seat : IsEndOrSeat old.slots ends.last
  last_seat = begun_seat old.slots ends h ends.last ((h.queue.befores None tt).0)

  pub born_new : ends.last ≢ Some o
  born_new is = false_true (sym (ap is_some vacant) ∙ subst (IsEndOrSeat old.slots) is last_seat)

  kept_seat : (s : Option ℕ) → s ≢ Some o → IsEndOrSeat old.slots s → IsEndOrSeat new.slots s
  kept_seat None ne here = tt
  kept_seat (Some q) ne here = ap is_some (updates.others q (λ is. ne (ap (λ n. Some n) is))) ∙ here

  pub born_last : IsEndOrSeat new.slots ends.last
  born_last = kept_seat ends.last born_new last_seat

  born_afters : (s : Option ℕ) → s ≢ Some o → after_of Begins new.slots ends s ≡ after_of Begins old.slots ends s
  born_afters None ne = refl
  born_afters (Some q) ne = ap (after_in Begins) (updates.others q (λ is. ne (ap (λ n. Some n) is)))

  born_befores : (s : Option ℕ) → s ≢ Some o → before_of Begins new.slots ends s ≡ before_of Begins old.slots ends s
  born_befores None ne = refl
  born_befores (Some q) ne = ap (before_in Begins) (updates.others q (λ is. ne (ap (λ n. Some n) is)))

  module _ (n : ℕ) (now : Table) (is : padded n (table_of old.slots) ≡ now) (latest : AreBornUpTo now op.value.birth) where
    born_upto : (q c : ℕ) (x : Option Operation) → op_at (table_of old.slots) q ≡ x → birth_in x ≡ Some c → c ≤ op.value.birth
    born_upto q c None at open_one = absurd (some_none (sym open_one))
    born_upto q c (Some other) at open_one = subst (λ b. b ≤ op.value.birth) (same_Some other.birth c open_one) (latest q other (shown_at n old.slots now q is ∙ at))

    -- the queue with it
    pub born_sound : (p2 : Seats) (e2 : Ends) → LinksLast Begins new.slots ends p2 e2 o → IsBeginQueue p2 e2
    born_sound p2 e2 l =
        order_begun (birth_at (table_of old.slots)) (birth_at (table_of p2)) (after_of Begins old.slots ends) (after_of Begins p2 e2) (before_of Begins old.slots ends) (before_of Begins p2 e2) o op.value.birth h
        (ap birth_in (op_seat old.slots o ∙ ap operation_in vacant))
        (ap (λ t. birth_at t o) l.table ∙ ap birth_in (op_seat new.slots o ∙ ap operation_in updates.changed))
        (λ q ne. ap (λ t. birth_at t q) l.table ∙ ap birth_in (op_seat new.slots q ∙ ap operation_in (updates.others q ne) ∙ sym (op_seat old.slots q)))
        (λ q c open_one. born_upto q c (op_at (table_of old.slots) q) refl open_one)
        l.after l.ends l.before l.last
        (λ s ne other. l.afters s ne other ∙ born_afters s ne)
        (λ s ne other. l.befores s ne other ∙ born_befores s ne)

-- an operation less
module _ (p0 p1 : Seats) (ends : Ends) (o : ℕ) (seat : Seat) (h : IsBeginQueue p0 ends) (at : seat_at p0 o ≡ Some seat) (gone : p1 ≡ set p0 o None) where
  table_gone : table_of p1 ≡ set (table_of p0) o None
  table_gone = ap table_of gone ∙ table_set p0 o None

  ranked : 0 < h.rank o
  ranked = h.opened o seat.operation.value.birth (born_at p0 o seat at)

  ahead : ComesNext h.rank seat.begins.before (Some o)
  ahead = subst (λ x. ComesNext h.rank (before_in Begins x) (Some o)) at (h.queue.befores (Some o) ranked)

  behind : ComesNext h.rank (Some o) seat.begins.after
  behind = subst (λ x. ComesNext h.rank (Some o) (after_in Begins x)) at (h.queue.afters (Some o) ranked)

  still_there : (s : Option ℕ) → IsInQueue h.rank s → s ≢ Some o → IsEndOrSeat p1 s
  still_there None here ne = tt
  still_there (Some q) here ne = ap (λ p. is_some (seat_at p q)) gone ∙ ap is_some (set_there p0 o q None (λ is. ne (ap (λ n. Some n) is))) ∙ begun_seat p0 ends h (Some q) here

  behind_there : (t : Option ℕ) → ComesNext h.rank (Some o) t → IsEndOrSeat p1 t
  behind_there None f = tt
  behind_there (Some q) f = still_there (Some q) (omega (arith, f.1)) (λ is. absurd (omega (arith, f.1, ap (queue_number h.rank) is)))

  -- its neighbours are there still
  pub earlier_there : (p2 : Seats) → table_of p2 ≡ table_of p1 → IsEndOrSeat p2 seat.begins.before
  earlier_there p2 same = seat_kept p1 p2 seat.begins.before same (still_there seat.begins.before ahead.0 (λ is. absurd (omega (arith, ap (queue_number h.rank) is, ahead.1))))

  pub later_there : (p2 : Seats) → table_of p2 ≡ table_of p1 → IsEndOrSeat p2 seat.begins.after
  later_there p2 same = seat_kept p1 p2 seat.begins.after same (behind_there seat.begins.after behind)

  afters_gone : (s : Option ℕ) → s ≢ Some o → after_of Begins p1 ends s ≡ after_of Begins p0 ends s
  afters_gone None ne = refl
  afters_gone (Some q) ne = ap (λ p. after_in Begins (seat_at p q)) gone ∙ ap (after_in Begins) (set_there p0 o q None (λ is. ne (ap (λ n. Some n) is)))

  befores_gone : (s : Option ℕ) → s ≢ Some o → before_of Begins p1 ends s ≡ before_of Begins p0 ends s
  befores_gone None ne = refl
  befores_gone (Some q) ne = ap (λ p. before_in Begins (seat_at p q)) gone ∙ ap (before_in Begins) (set_there p0 o q None (λ is. ne (ap (λ n. Some n) is)))

  -- the queue without it
  pub ended_sound : (p2 p3 : Seats) (e3 : Ends) → table_of p2 ≡ table_of p1 → SameLinks Begins p1 p2 → CutsOut Begins p2 ends p3 e3 seat.begins → IsBeginQueue p3 e3
  ended_sound p2 p3 e3 same links u =
      let before_is : before_of Begins p0 ends (Some o) ≡ seat.begins.before = ap (before_in Begins) at in
      let after_is : after_of Begins p0 ends (Some o) ≡ seat.begins.after = ap (after_in Begins) at in
      let table : table_of p3 ≡ set (table_of p0) o None = u.table ∙ same ∙ table_gone in
      order_ended (birth_at (table_of p0)) (birth_at (table_of p3)) (after_of Begins p0 ends) (after_of Begins p3 e3) (before_of Begins p0 ends) (before_of Begins p3 e3) o seat.operation.value.birth h
      (born_at p0 o seat at)
      (ap (λ t. birth_at t o) table ∙ ap birth_in (set_none (table_of p0) o))
      (λ q ne. ap (λ t. birth_at t q) table ∙ ap birth_in (set_there (table_of p0) o q None ne))
      (ap (after_of Begins p3 e3) before_is ∙ u.after ∙ sym after_is) (ap (before_of Begins p3 e3) after_is ∙ u.before ∙ sym before_is)
      (λ s ne other. u.afters s (λ is. ne (is ∙ sym before_is)) ∙ same_after Begins p1 p2 links ends s ∙ afters_gone s other)
      (λ s ne other. u.befores s (λ is. ne (is ∙ sym after_is)) ∙ same_before Begins p1 p2 links ends s ∙ befores_gone s other)

-- a body's step leaves all births
module _ (Makes : Body) (n : ℕ) (p0 p1 : Seats) (now : Table) (o : ℕ) (is : padded n (table_of p0) ≡ now) (keeps : KeepsBirth Makes now o) (ends : Ends) (h : IsBeginQueue p0 ends) where
  begins_written : (seat : Seat) → seat_at p0 o ≡ Some seat → (after : Operation) → after.birth ≡ seat.operation.value.birth → p1 ≡ set p0 o (Some (with_operation seat after)) → IsBeginQueue p1 ends
  begins_written seat at after birth slots =
      begins_by_births p0 p1 ends h
      (λ q. ap (λ p. birth_at (table_of p) q) slots ∙ ap birth_in (op_seat (set p0 o (Some (with_operation seat after))) q)
      ∙ written_in (λ x. birth_in (operation_in x)) p0 o q seat (with_operation seat after) at (ap (λ (b : ℕ). Some b) birth) ∙ sym (ap birth_in (op_seat p0 q)))
      (subst (SameLinks Begins p0) (sym slots) (links_written Begins p0 o seat (with_operation seat after) at refl))

  kept_birth : (seat : Seat) → seat_at p0 o ≡ Some seat → (made : Made) (after : Operation) → Makes seat.operation.value made after → after.birth ≡ seat.operation.value.birth
  kept_birth seat at made after makes = keeps seat.operation.value after made (shown_op n p0 now o is ∙ ap operation_in at) makes

  pub begins_by : (step : ℕ) (is_first : Bool) (stepped : Stepped) → SeatStepsBy Makes p0 p1 o step is_first stepped → IsBeginQueue p1 ends
  begins_by step is_first (To phase) s = begins_written s.seat s.there (counted s.after step s.seat.operation.value.walk.first) (kept_birth s.seat s.there Step s.after s.makes) s.slots
  begins_by step is_first (Blocked holder) s = begins_written s.seat s.there s.after (kept_birth s.seat s.there (BlockedBy holder) s.after s.makes) s.slots
  begins_by step is_first NoMemory s = begins_written s.seat s.there s.after (kept_birth s.seat s.there RefusedBy s.after s.makes) s.slots
  begins_by step is_first Left s = begins_written s.seat s.there s.after (kept_birth s.seat s.there Nothing s.after s.makes) s.slots
  begins_by step is_first Absent s = subst (λ p. IsBeginQueue p ends) (sym s.1) h

-- the least birth
module _ (n : ℕ) (seats : Seats) (ends : Ends) (now : Table) (steps : ℕ) (is : padded n (table_of seats) ≡ now) (h : IsBeginQueue seats ends) where
  birth_shown : (q : ℕ) (op : Operation) → op_at now q ≡ Some op → birth_at (table_of seats) q ≡ Some op.birth
  birth_shown q op at = ap birth_in (sym (shown_at n seats now q is) ∙ at)

  -- where no operation is open
  pub least_none : ends.first ≡ None → IsLeastBirth now steps steps
  least_none none = record {
    made = omega arith;
    below = λ q op at. absurd (none_born (birth_at (table_of seats)) (after_of Begins seats ends) (before_of Begins seats ends) h none q op.birth (birth_shown q op at));
    greatest = λ k le all. le;
  }

  module _ (o : ℕ) (first : ends.first ≡ Some o) where
    -- the queue's first operation is there
    pub begins_there : seat_at seats o ≡ None → ⊥
    begins_there none =
        let f = subst (ComesNext h.rank None) first (h.queue.afters None tt) in
        absurd (omega (arith, f.1, h.closed o (ap birth_in (op_seat seats o ∙ ap operation_in none))))

    -- and its birth is the least
    pub least_first : (seat : Seat) → seat_at seats o ≡ Some seat → AreBornUpTo now steps → IsLeastBirth now steps seat.operation.value.birth
    least_first seat at made =
        let there : op_at now o ≡ Some seat.operation.value = shown_op n seats now o is ∙ ap operation_in at in
        record {
          made = made o seat.operation.value there;
          below = λ q op at_q. first_born (birth_at (table_of seats)) (after_of Begins seats ends) (before_of Begins seats ends) h o seat.operation.value.birth first (born_at seats o seat at) q op.birth (birth_shown q op at_q);
          greatest = λ k le all. all o seat.operation.value there;
        }
