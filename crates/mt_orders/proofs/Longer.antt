-- What a run's story tells is told by that of a longer run too: for Happenings and Explaining.
use Rattle.std.proofs.{Common.{◌≡◌, ℕ, ◌+◌, ◌≤◌, [], ◌∷◌, ◌++◌, Option, Some, None, Ok, Err, refl, sym, ap, ◌∙◌, arith, inl, inr}, lemmas.List.append_assoc, lemmas.List.Elements.filter_map-append}
use Rattle.std.proofs.lemmas.Bool.{cases_lt}
use Rattle.std.specs.{List.cons_option, Option.option_map}
use Rattle.mt_runs.specs.{declared.event.Answer.Answer, declared.event.Event.Event, declared.event.Told.Told}
use Rattle.mt_runs.specs.Runs.{Run, Asked, Made, numbered, steps_of, asked_by, first_of, asked, step_at, step_of, owner, Finished, last_step, story_of}
use Rattle.mt_runs.proofs.Steps.{step_in, owner_in, step_at-before_more}
use Rattle.mt_book.specs.{Periods.{Deed, Looked, Began, Rested, Stepped, Took, Kept}}
use Rattle.mt_orders.specs.{Stories.{Ids}, Explained.{StandsBy}}
use Rattle.mt_state.specs.declared.moves.Move.TheVariants as moves

-- a run that goes on with an event, if there is one
abbrev pub followed_by : Run → Option (Event × Told) → Run
followed_by run None = run
followed_by run (Some e) = run ++ e ∷ []

pub followed_by-append : (run : Run) (e : Option (Event × Told)) (more : Run) → followed_by run e ++ more ≡ run ++ cons_option e more
followed_by-append run None more = refl
followed_by-append run (Some e) more = append_assoc run (e ∷ []) more

first_of-more : (x y z : Option Asked) (w : Asked) → (y ≡ Some w → z ≡ Some w) → first_of x y ≡ Some w → first_of x z ≡ Some w
first_of-more None y z w more e = more e
first_of-more (Some a) y z w more e = e

asked_more : (run more : Run) (q : ℕ) (w : Asked) → asked run q ≡ Some w → asked (run ++ more) q ≡ Some w
asked_more [] more q w e = absurd (cc)
asked_more (x ∷ run) more q w e = first_of-more (asked_by q x) (asked run q) (asked (run ++ more) q) w (asked_more run more q w) e

module _ (base : ℕ) (run more : Run) where
  -- a step stays the one of its number
  step_stays : (m : ℕ) → m ≤ last_step (story_of base run) → step_of (story_of base (run ++ more)) m ≡ step_of (story_of base run) m
  step_stays m le = ap (λ ss. step_at base ss m) (filter_map-append numbered run more) ∙ step_at-before_more base (steps_of run) (steps_of more) m le

  owner_same : (m : ℕ) → m ≤ last_step (story_of base run) → owner (story_of base (run ++ more)) m ≡ owner (story_of base run) m
  owner_same m le = ap (option_map (λ (s : Made). s.op)) (step_stays m le)

  owner_more : (m q : ℕ) → owner (story_of base run) m ≡ Some q → owner (story_of base (run ++ more)) m ≡ Some q
  owner_more m q e = owner_same m (owner_in (story_of base run) m q e).1 ∙ e

  pub finished_more : (q : ℕ) (a : Answer) → Finished (story_of base run) q a → Finished (story_of base (run ++ more)) q a
  finished_more q a fin = (fin.0, step_stays fin.0 (step_in base (steps_of run) fin.0 _ fin.1).1 ∙ fin.1)

  -- what stands in the story stands in the longer one
  pub deed_more : (place : ℕ) (ids : Ids) (steps : ℕ) (deed : Deed) → steps ≤ last_step (story_of base run) → StandsBy (story_of base run) place ids steps deed
      → StandsBy (story_of base (run ++ more)) place ids steps deed
  deed_more place ids steps (Began opening logs (Ok ticket) next) upto w = (
    w.0,
    w.1,
    record {
      asked_so = asked_more run more place _ w.2.asked_so;
      later = λ m own. elim (cases_lt steps m) [
        | inl lt ↦ lt
        | inr le ↦ w.2.later m (sym (owner_same m (omega (arith, le, upto))) ∙ own)
      ];
    },
  )
  deed_more place ids steps (Began opening logs (Err refusal) next) upto w = tt
  deed_more place ids steps (Stepped id turned moves.Moved next) upto w = (w.0, w.1, owner_more (steps + 1) w.0 w.2)
  deed_more place ids steps (Stepped id turned moves.Done next) upto w = (w.0, w.1, owner_more (steps + 1) w.0 w.2)
  deed_more place ids steps (Stepped id turned (moves.Again holder) next) upto w = tt
  deed_more place ids steps (Stepped id turned moves.NoMemory next) upto w = tt
  deed_more place ids steps (Stepped id turned moves.Spent next) upto w = tt
  deed_more place ids steps (Stepped id turned moves.NoSuch next) upto w = tt
  deed_more place ids steps (Took id room answer) upto w = record { name = w.name; is = w.is; finished = finished_more w.name answer w.finished; made = w.made }
  deed_more place ids steps (Looked logs) upto w = tt
  deed_more place ids steps (Rested id) upto w = tt
  deed_more place ids steps (Kept id) upto w = tt
