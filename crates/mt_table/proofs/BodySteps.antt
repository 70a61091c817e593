-- A step that a body makes in a seat, and what it makes of the table: for step_by of table.rt.
use Rattle.std.proofs.{Common.{◌≡◌, ◌≢◌, ℕ, Bool, true, false, set, Some, None, refl, sym, ap, subst, ◌∙◌}, lemmas.Option.same_Some}
use Rattle.mt_operation.specs.{declared.phase.Phase.Phase, declared.walk.Walk.Walk, declared.operation.Operation.Operation, Operations.counted}
use Rattle.mt_operation.specs.Tables.{Table, op_at, AreBefore, MayMove}
use Rattle.mt_operation.proofs.Tables.{set_same}
use Rattle.mt_table.specs.{declared.queue.Seat.Seat, declared.queue.Ends.Ends, declared.queue.Queue.TheVariants.FirstSteps, declared.steps.Made.Made}
use Rattle.mt_table.specs.{declared.steps.Made.TheVariants.{Step, Blocked as BlockedBy, NoMemory as RefusedBy, Nothing}, declared.steps.Stepped.Stepped}
use Rattle.mt_table.specs.declared.steps.Stepped.TheVariants.{To, Blocked, NoMemory, Left, Absent}
use Rattle.mt_table.specs.{Seats.{Seats, seat_at, with_operation, operation_in, table_of, padded, is_still, IsEndOrSeat}, Queues.{IsStepQueue, LinksLast, Becomes}}
use Rattle.mt_table.specs.Bodies.{Body, MovesUnfinished, KeepsWalk, LeavesElse, MovesBy, StaysBy, GrowsBy, StepsBy, SeatMovesBy, SeatStaysBy, SeatStepsBy}
use Rattle.mt_table.proofs.{Places.shown_op, TableMoves.{became_table, changed_sound, last_new, moved_there, moved_last, moved_first, moved_later}}

module _ (Makes : Body) (n : ℕ) (p0 p1 : Seats) (now : Table) (o : ℕ) (is : padded n (table_of p0) ≡ now) where
  -- the operation of a seat, as the table shows it
  pub shown_there : (seat : Seat) → seat_at p0 o ≡ Some seat → op_at now o ≡ Some seat.operation.value
  shown_there seat at = shown_op n p0 now o is ∙ ap operation_in at

  module _ (leaves : LeavesElse Makes now o) (is_first : Bool) (made : Made) (other : made ≢ Step) (granted : made ≢ RefusedBy) (s : SeatStaysBy Makes p0 p1 o is_first made) where
    same : s.after ≡ s.seat.operation.value
    same = leaves s.seat.operation.value s.after made other granted (shown_there s.seat s.there) s.makes

    -- where the body makes no step, nothing has changed
    stays_same : p1 ≡ p0
    stays_same = s.slots ∙ ap (λ (op : Operation). set p0 o (Some (with_operation s.seat op))) same ∙ set_same p0 o (Some s.seat) s.there

    stays_by : StaysBy Makes now o made
    stays_by = record { op = s.seat.operation.value; there = shown_there s.seat s.there; makes = subst (λ op. Makes s.seat.operation.value made op) same s.makes }

  -- where memory is refused, its walk has not changed
  module _ (keeps : KeepsWalk Makes now o) (is_first : Bool) (s : SeatStaysBy Makes p0 p1 o is_first RefusedBy) where
    abbrev grown : Operation → Operation
    grown op = record s.after { walk = op.walk }

    is_grown : s.after ≡ grown s.seat.operation.value
    is_grown = ap (λ (w : Walk). record s.after { walk = w }) (keeps s.seat.operation.value s.after (shown_there s.seat s.there) s.makes)

    grows : Becomes p0 p1 o grown
    grows seat at = s.slots ∙ ap (λ (op : Operation). set p0 o (Some (with_operation s.seat op))) is_grown
        ∙ ap (λ (x : Seat). set p0 o (Some (with_operation x (grown x.operation.value)))) (same_Some s.seat seat (sym s.there ∙ at))

    -- the table stays one
    grown_table : (ends : Ends) → IsStepQueue p0 ends → IsStepQueue p1 ends
    grown_table ends h = changed_sound p0 p1 ends o grown h (λ op. refl) grows (λ none. absurd (gone none))
      where
        gone : seat_at p0 o ≡ None → ⊥
        gone none = let e = sym none ∙ s.there in cc

    grows_by : (p2 : Seats) → table_of p2 ≡ table_of p1 → GrowsBy Makes now (padded n (table_of p2)) o
    grows_by p2 shows = record {
      op = s.seat.operation.value;
      there = shown_there s.seat s.there;
      after = s.after;
      makes = s.makes;
      table = ap (padded n) shows ∙ became_table p0 p1 o grown grows n p0 now s.seat.operation.value is refl (shown_there s.seat s.there)
          ∙ ap (λ (op : Operation). set now o (Some op)) (sym is_grown);
    }

  module _ (ends : Ends) (step : ℕ) (h : IsStepQueue p0 ends) (later : AreBefore now step) (moves : MovesUnfinished Makes now o) (is_first : Bool) (phase : Phase) (s : SeatMovesBy Makes p0 p1 o step is_first phase) where
    abbrev to : Operation → Operation
    to op = counted s.after step op.walk.first

    becomes : Becomes p0 p1 o to
    becomes seat at = s.slots ∙ ap (λ (x : Seat). set p0 o (Some (with_operation x (to x.operation.value)))) (same_Some s.seat seat (sym s.there ∙ at))

    still_is : is_still (seat_at p0 o) ≡ is_first
    still_is = ap is_still s.there ∙ sym s.first

    may : MayMove now o step
    may = record {
      later = later;
      unfinished = λ op there. moves op s.after there (subst (λ (x : Operation). Makes x Step s.after) (same_Some s.seat.operation.value op (sym (shown_there s.seat s.there) ∙ there)) s.makes);
    }

    move_there : is_first ≡ true → IsEndOrSeat p1 (Some o)
    move_there first = moved_there n p0 p1 ends now o step s.after.walk is h may to (λ op. refl) becomes (still_is ∙ first)

    move_last : is_first ≡ true → IsEndOrSeat p1 ends.last
    move_last first = moved_last n p0 p1 ends now o step s.after.walk is h may to (λ op. refl) becomes (still_is ∙ first)

    move_new : is_first ≡ true → ends.last ≡ Some o → ⊥
    move_new first = last_new p0 ends o h (still_is ∙ first)

    -- the table stays one
    move_first : (p2 : Seats) (e1 : Ends) → is_first ≡ true → LinksLast FirstSteps p1 ends p2 e1 o → IsStepQueue p2 e1
    move_first p2 e1 first l = moved_first n p0 p1 ends now o step s.after.walk is h may to (λ op. refl) becomes p2 e1 (still_is ∙ first) l

    move_later : is_first ≡ false → IsStepQueue p1 ends
    move_later still = moved_later n p0 p1 ends now o step s.after.walk is h may to (λ op. refl) becomes (λ none. absurd (gone none)) (still_is ∙ still)
      where
        gone : seat_at p0 o ≡ None → ⊥
        gone none = let e = sym none ∙ s.there in cc

    -- and shows what the body made
    moves_by : (p2 : Seats) → table_of p2 ≡ table_of p1 → MovesBy Makes now (padded n (table_of p2)) o step phase
    moves_by p2 shows = record {
      op = s.seat.operation.value;
      there = shown_there s.seat s.there;
      after = s.after;
      makes = s.makes;
      phase_is = s.phase_is;
      table = ap (padded n) shows ∙ became_table p0 p1 o to becomes n p0 now s.seat.operation.value is refl (shown_there s.seat s.there);
    }

  -- whatever comes of it
  module _ (ends : Ends) (step : ℕ) (h : IsStepQueue p0 ends) (later : AreBefore now step) (moves : MovesUnfinished Makes now o) (keeps : KeepsWalk Makes now o) (leaves : LeavesElse Makes now o) (is_first : Bool) where
    no_first : (b : Bool) → b ≡ false → b ≡ true → ⊥
    no_first b e f = let no : false ≡ true = sym e ∙ f in cc

    -- the operation that makes its first step is to be put behind all others
    pub first_there : (stepped : Stepped) → SeatStepsBy Makes p0 p1 o step is_first stepped → is_first ≡ true → IsEndOrSeat p1 (Some o)
    first_there (To phase) s first = move_there ends step h later moves is_first phase s first
    first_there (Blocked holder) s first = absurd (no_first is_first s.first first)
    first_there NoMemory s first = absurd (no_first is_first s.first first)
    first_there Left s first = absurd (no_first is_first s.first first)
    first_there Absent s first = absurd (no_first is_first s.2 first)

    pub first_last : (stepped : Stepped) → SeatStepsBy Makes p0 p1 o step is_first stepped → is_first ≡ true → IsEndOrSeat p1 ends.last
    first_last (To phase) s first = move_last ends step h later moves is_first phase s first
    first_last (Blocked holder) s first = absurd (no_first is_first s.first first)
    first_last NoMemory s first = absurd (no_first is_first s.first first)
    first_last Left s first = absurd (no_first is_first s.first first)
    first_last Absent s first = absurd (no_first is_first s.2 first)

    pub first_new : (stepped : Stepped) → SeatStepsBy Makes p0 p1 o step is_first stepped → is_first ≡ true → ends.last ≡ Some o → ⊥
    first_new (To phase) s first = move_new ends step h later moves is_first phase s first
    first_new (Blocked holder) s first = absurd (no_first is_first s.first first)
    first_new NoMemory s first = absurd (no_first is_first s.first first)
    first_new Left s first = absurd (no_first is_first s.first first)
    first_new Absent s first = absurd (no_first is_first s.2 first)

    -- the table stays one
    pub first_table : (stepped : Stepped) → SeatStepsBy Makes p0 p1 o step is_first stepped → is_first ≡ true → (p2 : Seats) (e1 : Ends) → LinksLast FirstSteps p1 ends p2 e1 o → IsStepQueue p2 e1
    first_table (To phase) s first p2 e1 l = move_first ends step h later moves is_first phase s p2 e1 first l
    first_table (Blocked holder) s first p2 e1 l = absurd (no_first is_first s.first first)
    first_table NoMemory s first p2 e1 l = absurd (no_first is_first s.first first)
    first_table Left s first p2 e1 l = absurd (no_first is_first s.first first)
    first_table Absent s first p2 e1 l = absurd (no_first is_first s.2 first)

    pub later_table : (stepped : Stepped) → SeatStepsBy Makes p0 p1 o step is_first stepped → is_first ≡ false → IsStepQueue p1 ends
    later_table (To phase) s still = move_later ends step h later moves is_first phase s still
    later_table (Blocked holder) s still = subst (λ (p : Seats). IsStepQueue p ends) (sym (stays_same leaves is_first (BlockedBy holder) (λ e. absurd (cc)) (λ e. absurd (cc)) s)) h
    later_table NoMemory s still = grown_table keeps is_first s ends h
    later_table Left s still = subst (λ (p : Seats). IsStepQueue p ends) (sym (stays_same leaves is_first Nothing (λ e. absurd (cc)) (λ e. absurd (cc)) s)) h
    later_table Absent s still = subst (λ (p : Seats). IsStepQueue p ends) (sym s.1) h

    -- and shows what has come of it
    pub steps_by : (stepped : Stepped) → SeatStepsBy Makes p0 p1 o step is_first stepped → (p2 : Seats) → table_of p2 ≡ table_of p1 → StepsBy Makes now (padded n (table_of p2)) o step stepped
    unfolding stays_by
    steps_by (To phase) s p2 shows = moves_by ends step h later moves is_first phase s p2 shows
    steps_by (Blocked holder) s p2 shows = (
      stays_by leaves is_first (BlockedBy holder) (λ e. absurd (cc)) (λ e. absurd (cc)) s,
      ap (padded n) (shows ∙ ap table_of (stays_same leaves is_first (BlockedBy holder) (λ e. absurd (cc)) (λ e. absurd (cc)) s)) ∙ is,
    )
    steps_by NoMemory s p2 shows = grows_by keeps is_first s p2 shows
    steps_by Left s p2 shows = (
      stays_by leaves is_first Nothing (λ e. absurd (cc)) (λ e. absurd (cc)) s,
      ap (padded n) (shows ∙ ap table_of (stays_same leaves is_first Nothing (λ e. absurd (cc)) (λ e. absurd (cc)) s)) ∙ is,
    )
    steps_by Absent s p2 shows = (shown_op n p0 now o is ∙ ap operation_in s.0, ap (padded n) (shows ∙ ap table_of s.1) ∙ is)
