-- What a story keeps by one event more: what an operation was begun with, and whose its steps are.
use Rattle.std.proofs.Common.{◌≡◌, ℕ, ◌+◌, ◌<◌, ◌≤◌, cond, eqb, List, [], ◌∷◌, ◌++◌, Option, Some, None, refl, sym, ap, subst, ◌∙◌, arith, ⊎_elim}
use Rattle.std.proofs.lemmas.{Bool.{cases_lt, eq-eqb}, List.Elements.filter_map-append}
use Rattle.std.specs.{List.filter_map, Option.option_map}
use Rattle.mt_rows.specs.declared.command.Command.{Command}
use Rattle.mt_runs.specs.{declared.event.Event.Event, declared.event.Event.TheVariants.{Begin, Step}, declared.event.Told.Told, declared.event.Told.TheVariants.{Begun, Done}}
use Rattle.mt_runs.specs.{declared.event.Answer.Answer, Runs.{Run, Made, Story, Asked, numbered, asked_by, asked, first_of, steps_of, story_of, step_at, last_step, owner, Finished}}
use Rattle.mt_runs.proofs.{Steps.{step_at-before_more, new_step}, Events.{story_begin, story_done}}
use Rattle.mt_crashes.proofs.Members.{no_some}
use Rattle.mt_pages.specs.declared.walk.PageWalk.{PageWalk}
use Rattle.mt_lives.specs.{declared.live_slots.CheckStage.CheckStage, declared.live_slots.CheckStage.TheVariants.{Begins, Scans, Adds}, Lives.{Life, with_event, steps_in}}
use Rattle.mt_lives.specs.Checks.{HasScan}

-- ---- an operation that was begun

asked_on : (run : Run) (x : Event × Told) (o : ℕ) (a : Asked) → asked run o ≡ Some a → asked (run ++ x ∷ []) o ≡ Some a
asked_on [] x o a at = absurd (no_some a at)
asked_on (y ∷ run) x o a at = by (asked_by o y) at (λ e. asked_on run x o a e)
  where
    by : (w : Option Asked) → first_of w (asked run o) ≡ Some a → (asked run o ≡ Some a → asked (run ++ x ∷ []) o ≡ Some a) → first_of w (asked (run ++ x ∷ []) o) ≡ Some a
    by None at rest = rest at
    by (Some w) at rest = at

owner_before : (base : ℕ) (run : Run) (x : Event × Told) (m : ℕ) → m ≤ last_step (story_of base run) → owner (story_of base (run ++ x ∷ [])) m ≡ owner (story_of base run) m
owner_before base run x m le =
    ap (λ (steps : List Made). option_map (λ (s : Made). s.op) (step_at base steps m)) (filter_map-append numbered run (x ∷ []))
    ∙ ap (option_map (λ (s : Made). s.op)) (step_at-before_more base (steps_of run) (filter_map numbered (x ∷ [])) m le)

since_on : (base : ℕ) (run : Run) (x : Event × Told) (o first : ℕ) → first ≤ last_step (story_of base run) → ((m : ℕ) → owner (story_of base run) m ≡ Some o → first < m)
    → (m : ℕ) → owner (story_of base (run ++ x ∷ [])) m ≡ Some o → first < m
since_on base run x o first le since m own = ⊎_elim
    (λ lt. omega (arith, lt, le))
    (λ upto. since m (sym (owner_before base run x m upto) ∙ own))
    (cases_lt (last_step (story_of base run)) m)

-- a walk's scan goes on
pub scan_on : (life : Life) (e : Event) (t : Told) (first : ℕ) (walk : PageWalk) (stage : CheckStage) → first ≤ steps_in life → HasScan life first walk stage
    → HasScan (with_event life e t) first walk stage
scan_on life e t first walk Begins le h = tt
scan_on life e t first walk (Adds pairs) le h = tt
scan_on life e t first walk (Scans name) le h = record {
  tenant = h.tenant;
  there = h.there;
  asked_so = asked_on life.run (e, t) name _ h.asked_so;
  since = since_on life.base life.run (e, t) name first le h.since;
}

-- ---- one that is begun now

module _ (base : ℕ) (run : Run) (o worker tenant : ℕ) (command : Command) where
  pub asked_now : asked run o ≡ None → (story_of base (run ++ (Begin o worker tenant command, Begun) ∷ [])).asked o ≡ Some (record { tenant = tenant; command = command })
  asked_now free =
      ap (λ (s : Story). s.asked o) (story_begin base run o worker tenant command)
      ∙ ap (λ (w : Option Asked). first_of w (cond (eqb o o) (Some (record { tenant = tenant; command = command })) None)) free
      ∙ ap (λ b. cond b (Some (record { tenant = tenant; command = command })) None) (eq-eqb o o refl)

  pub owner_now : (m : ℕ) → owner (story_of base (run ++ (Begin o worker tenant command, Begun) ∷ [])) m ≡ owner (story_of base run) m
  owner_now m = ap (λ (s : Story). owner s m) (story_begin base run o worker tenant command)

-- ---- one that is done now

pub finished_now : (base : ℕ) (run : Run) (o : ℕ) (a : Answer) → Finished (story_of base (run ++ (Step o, Done a) ∷ [])) o a
finished_now base run o a =
    let story = story_of base run in
    let m = Rattle.std.proofs.Common.suc (last_step story) in
    subst (λ (s : Story). Finished s o a) (sym (story_done base run o a)) (m, new_step story o (Some a) m refl)
