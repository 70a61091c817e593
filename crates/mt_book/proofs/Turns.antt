-- What one period more makes of a call: for the loops of `start`, `stepped` and `answered`.
use Rattle.std.{proofs.Common.{◌≡◌, ◌≤◌, ℕ, Bool, Option, Some, None, IsSome, unwrap_or, Ok, Err, refl, sym, ap, subst}, specs.List.AllByRecursion}
use Rattle.mt_rows.specs.declared.refusal.Refusal.{Refusal}
use Rattle.mt_runs.specs.declared.event.Answer.{Answer}
use Rattle.mt_operation.specs.declared.phase.Phase.{Phase}
use Rattle.mt_state.specs.{declared.moves.Move.Move, declared.moves.Move.TheVariants.{Moved, Again, NoMemory}}
use Rattle.mt_core.specs.{declared.answers.Ticket.Ticket, Admitted.OpeningView}
use Rattle.mt_book.specs.{declared.desks.Admission.Admission, declared.desks.Admitted.Admitted, declared.desks.Stepping.Stepping, declared.desks.Taking.Taking}
use Rattle.mt_book.specs.{declared.desks.Taken.Taken, declared.gates.Turned.Turned}
use Rattle.mt_book.specs.Periods.{Began, Rested, Stepped, Took, Looked, Period, least_room, admission_deed, admission_period, FitsAdmitted, FitsAdmission, step_deed, step_period, ShowsNext, FitsMove, FitsStepping, taken_deed, taking_period, FitsTaken, FitsTaking}
use Rattle.mt_book.specs.Calls.{IsBefore, LeadsOn, IsGiven, IsTurnBy, AreTurns, Opens, last_move, Ends, Led, IsRest, IsTaken}
use Rattle.mt_book.proofs.Chains.{led_more, all_snoc, turns_snoc}
use Rattle.mt_book.specs.declared.desks.Admitted.TheVariants as admitted
use Rattle.mt_book.specs.declared.desks.Taken.TheVariants as taken

module _ {S : Type 0} (does : S → Period → S → Type 0) (old mid new : S) (seen worker : ℕ) (opening : OpeningView) (a : Admission)
    (led : Led does old mid (AllByRecursion (IsBefore seen worker))) (d : does mid (admission_period opening a) new) (fits : FitsAdmission seen worker opening a) where
  told_is : (told : Admitted) → a.told ≡ told → does mid (record { steps = a.steps; deed = admission_deed opening a.logs told }) new
  told_is told e = subst (λ (t : Admitted). does mid (record { steps = a.steps; deed = admission_deed opening a.logs t }) new) e d

  fits_is : (told : Admitted) → a.told ≡ told → FitsAdmitted seen worker opening a.steps a.logs told
  fits_is told e = subst (FitsAdmitted seen worker opening a.steps a.logs) e fits

  -- the operation was begun
  pub opens_begun : (ticket : Ticket) (phase : Phase) → a.told ≡ admitted.Begun ticket phase → Led does old new (λ ps. Opens seen worker opening (Ok ticket) (Some phase) ps a.steps)
  opens_begun ticket phase e =
      let period : Period = record { steps = a.steps; deed = Began opening a.logs (Ok ticket) (Some phase) } in
      led_more does old mid new period (AllByRecursion (IsBefore seen worker)) (λ ps. Opens seen worker opening (Ok ticket) (Some phase) ps a.steps)
      (λ ps early. record { before = ps; logs = a.logs; parts = refl; early = early; ready = fits_is (admitted.Begun ticket phase) e }) led (told_is (admitted.Begun ticket phase) e)

  -- it was refused
  pub opens_refused : (refusal : Refusal) → a.told ≡ admitted.Refused refusal → Led does old new (λ ps. (shown : ℕ) × Opens seen worker opening (Err refusal) None ps shown)
  opens_refused refusal e =
      let period : Period = record { steps = a.steps; deed = Began opening a.logs (Err refusal) None } in
      led_more does old mid new period (AllByRecursion (IsBefore seen worker)) (λ ps. (shown : ℕ) × Opens seen worker opening (Err refusal) None ps shown)
      (λ ps early. (a.steps, record { before = ps; logs = a.logs; parts = refl; early = early; ready = fits_is (admitted.Refused refusal) e })) led (told_is (admitted.Refused refusal) e)

  -- it was too early, and the opening came back
  pub opens_early : (back : OpeningView) → a.told ≡ admitted.Early back → (back ≡ opening) × Led does old new (AllByRecursion (IsBefore seen worker))
  opens_early back e =
      let period : Period = record { steps = a.steps; deed = Looked a.logs } in
      let f = fits_is (admitted.Early back) e in (
        f.0,
        led_more does old mid new period (AllByRecursion (IsBefore seen worker)) (AllByRecursion (IsBefore seen worker))
            (λ ps early. all_snoc (IsBefore seen worker) ps period early f.1) led (told_is (admitted.Early back) e),
      )

-- no move, or one that leads on
abbrev pub MayLeadOn : Option Move → Type 0
MayLeadOn None = Unit {0}
MayLeadOn (Some made) = LeadsOn made

-- what is shown is what a default gives way to
some_is : (told : Option Phase) (left : Phase) → IsSome told → told ≡ Some (unwrap_or told left)
some_is None left h = absurd (cc)
some_is (Some phase) left h = refl

-- a move that leads on shows what the next step does
shown_next : (made : Move) (told : Option Phase) (left : Phase) → LeadsOn made → ShowsNext made told → told ≡ Some (unwrap_or told left)
shown_next Moved told left on shows = some_is told left shows
shown_next (Again holder) told left on shows = some_is told left shows
shown_next NoMemory told left on shows = some_is told left shows
shown_next made told left on shows = absurd on

module _ {S : Type 0} (does : S → Period → S → Type 0) (old mid new : S) (seen ticket shown : ℕ) (next : Phase) (last : ℕ) (left : Phase) (turned : Turned) (s : Stepping)
    (led : Led does old mid (λ ps. AreTurns seen ticket shown next ps last left)) (given : IsGiven turned ticket last left) (d : does mid (step_period ticket turned s) new) (fits : FitsStepping seen s) where
  move_is : (m : Option Move) → s.move_made ≡ m → does mid (record { steps = s.steps; deed = step_deed ticket turned m s.phase }) new
  move_is m e = subst (λ (x : Option Move). does mid (record { steps = s.steps; deed = step_deed ticket turned x s.phase }) new) e d

  fits_move : (m : Option Move) → s.move_made ≡ m → FitsMove seen s.steps m s.phase
  fits_move m e = subst (λ (x : Option Move). FitsMove seen s.steps x s.phase) e fits

  turn_is : (m : Option Move) (told : Option Phase) → FitsMove seen s.steps m told → MayLeadOn m → IsTurnBy seen ticket last left s.steps (step_deed ticket turned m told) (unwrap_or told left)
  turn_is None told f on = (refl, f.0, ap (λ (x : Option Phase). unwrap_or x left) f.1)
  turn_is (Some made) told f on = (refl, given, f.0, on, shown_next made told left on f.1)

  -- one step more, or none
  pub turns_more : (following : Phase) → following ≡ unwrap_or s.phase left → MayLeadOn s.move_made → Led does old new (λ ps. AreTurns seen ticket shown next ps s.steps following)
  turns_more following is on =
      let period : Period = step_period ticket turned s in
      let turn = subst (IsTurnBy seen ticket last left s.steps period.deed) (sym is) (turn_is s.move_made s.phase fits on) in
      led_more does old mid new period (λ ps. AreTurns seen ticket shown next ps last left) (λ ps. AreTurns seen ticket shown next ps s.steps following)
      (λ ps turns. turns_snoc seen ticket shown next last left ps period following turns turn) led d

  -- the last step
  pub turns_end : (done : Bool) → s.move_made ≡ Some (last_move done) → Led does old new (Ends seen ticket shown next done)
  turns_end done e =
      let period : Period = record { steps = s.steps; deed = Stepped ticket turned (last_move done) s.phase } in
      let f = fits_move (Some (last_move done)) e in
      led_more does old mid new period (λ ps. AreTurns seen ticket shown next ps last left) (Ends seen ticket shown next done)
      (λ ps turns. record { between = ps; last = last; left = left; turned = turned; told = s.phase; steps = s.steps; parts = refl; turns = turns; given = given; late = f.0 })
      led (move_is (Some (last_move done)) e)

module _ {S : Type 0} (does : S → Period → S → Type 0) (old mid new : S) (seen : ℕ) (ticket : Ticket) (room : ℕ) (t : Taking)
    (led : Led does old mid (AllByRecursion (IsRest seen ticket.id))) (d : does mid (taking_period ticket.id room t) new) (fits : FitsTaking seen ticket t) where
  taken_is : (told : Taken) → t.told ≡ told → does mid (record { steps = t.steps; deed = taken_deed ticket.id room told }) new
  taken_is told e = subst (λ (x : Taken). does mid (record { steps = t.steps; deed = taken_deed ticket.id room x }) new) e d

  suits : (told : Taken) → t.told ≡ told → FitsTaken seen ticket t.steps told
  suits told e = subst (FitsTaken seen ticket t.steps) e fits

  -- the answer was taken
  pub takes_answer : (answer : Answer) → t.told ≡ taken.Answered answer → least_room ≤ room → Led does old new (IsTaken seen ticket.id answer)
  takes_answer answer e roomy =
      let period : Period = record { steps = t.steps; deed = Took ticket.id room answer } in
      led_more does old mid new period (AllByRecursion (IsRest seen ticket.id)) (IsTaken seen ticket.id answer)
      (λ ps early. record { rests = ps; steps = t.steps; room = room; parts = refl; early = early; late = suits (taken.Answered answer) e; roomy = roomy }) led (taken_is (taken.Answered answer) e)

  -- it was too early, and the ticket came back
  pub takes_early : (back : Ticket) → t.told ≡ taken.Early back → (back ≡ ticket) × Led does old new (AllByRecursion (IsRest seen ticket.id))
  takes_early back e =
      let period : Period = record { steps = t.steps; deed = Rested ticket.id } in
      let f = suits (taken.Early back) e in (
        f.0,
        led_more does old mid new period (AllByRecursion (IsRest seen ticket.id)) (AllByRecursion (IsRest seen ticket.id))
            (λ ps early. all_snoc (IsRest seen ticket.id) ps period early (refl, f.1)) led (taken_is (taken.Early back) e),
      )
