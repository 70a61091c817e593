-- Each kind of event keeps the history of the run before it: for `told_runs_have_one_order`.
use Rattle.std.proofs.{Common.{◌≡◌, ℕ, true, false, [], ◌∷◌, ◌++◌, Option, Some, None, refl, sym, ap, subst, ◌∙◌}, lemmas.List.{append-nil, append_assoc}}
use Rattle.std.proofs.lemmas.Option.{same_Some}
use Rattle.mt_rows.specs.declared.command.Command.{Command}
use Rattle.mt_runs.specs.{declared.event.Answer.Answer, declared.event.Event.Event, declared.event.Event.TheVariants.{Begin, Step}, declared.event.Told.Told}
use Rattle.mt_runs.specs.declared.event.Told.TheVariants.{Begun, Refused, NoSuch, Moved, Again, NoMemory, Spent, Done}
use Rattle.mt_runs.specs.{Runs.{Run, numbered, asked_by, story_of}, Placings.{Quotas, Maps}}
use Rattle.mt_runs.proofs.Events.{story_begin, story_moved, story_done, story_quiet}
use Rattle.mt_operation.{specs.Operations.OperationView, proofs.Tables.set_here}
use Rattle.mt_state.specs.{Views.{StateView, op_at}, Promises.IsStep, Begins.{Begins, IsAnswerOf, Takes}}
use Rattle.mt_state.specs.Histories.{Names, Renames, History, TellsEvent, BringsTo}
use Rattle.mt_state.proofs.{HistoryBegins.history_begin, HistoryRuns.{history_moved, history_done}}

-- an event with what it answered keeps the history of any run before it
abbrev pub Keeps : Names → StateView → Names → StateView → Event → Told → Type 0
Keeps names old now new event told = (quotas : Quotas) (first : Maps) (base : ℕ) (run : Run) → History quotas first (story_of base run) names old
    → History quotas first (story_of base (run ++ (event, told) ∷ [])) now new

-- an event that begins nothing and makes no step
keeps_quiet : (names now : Names) (old new : StateView) (e : Event) (t : Told) → numbered (e, t) ≡ None → ((q : ℕ) → asked_by q (e, t) ≡ None)
    → now ≡ names → new ≡ old → Keeps names old now new e t
keeps_quiet names now old new e t no_step no_ask still same = λ quotas first base run h.
    subst (λ (w : Names). History quotas first (story_of base (run ++ (e, t) ∷ [])) w new) (sym still)
    (subst (λ s. History quotas first s names new) (sym (story_quiet base run (e, t) no_step no_ask)) (subst (History quotas first (story_of base run) names) (sym same) h))

-- a begin
keeps_begun : (names now : Names) (old new : StateView) (o n worker tenant : ℕ) (command : Command)
    → Begins old new n worker tenant command → names o ≡ None → Renames names now o (Some n)
    → Keeps names old now new (Begin o worker tenant command) Begun
keeps_begun names now old new o n worker tenant command b unknown r = λ quotas first base run h.
    subst (λ s. History quotas first s now new) (sym (story_begin base run o worker tenant command))
    (history_begin quotas first (story_of base run) old new names now o n worker tenant command h b unknown r)

no_answer : (a : Answer) → ◌≡◌ {A = Option Answer} None (Some a) → ⊥
no_answer a e = cc

-- a step after which its operation goes on
keeps_moved : (names : Names) (old new : StateView) (o n : ℕ) → names o ≡ Some (Some n) → IsStep old new n false → Keeps names old names new (Step o) Moved
keeps_moved names old new o n known s = λ quotas first base run h.
    subst (λ w. History quotas first w names new) (sym (story_moved base run o))
    (history_moved quotas first (story_of base run) names old new o n false None h known s (λ a e. absurd (no_answer a e)) no_answer)

-- a step that ends its operation, whose answer is then taken
keeps_done : (names now : Names) (old mid new : StateView) (o n : ℕ) (a : Answer) → names o ≡ Some (Some n) → IsStep old mid n true
    → Takes mid new n a → Renames names now o None
    → Keeps names old now new (Step o) (Done a)
keeps_done names now old mid new o n a known s t r = λ quotas first base run h.
    subst (λ w. History quotas first w now new) (sym (story_done base run o a))
    (history_done quotas first (story_of base run) names old mid o n true (Some a) h known s
    (λ b e. subst (IsAnswerOf s.after) (same_Some a b e) (subst (λ (op : OperationView). IsAnswerOf op a) same t.told))
    new now a t r)
  where
    same : t.op ≡ s.after
    same = sym (set_here old.table n s.after t.op (ap (λ w. op_at w n) (sym s.table) ∙ t.there))

-- each event keeps the history
pub keeps_event : (names now : Names) (old new : StateView) (e : Event) (t : Told) → TellsEvent names old now new e t → Keeps names old now new e t
keeps_event names now old new (Begin o worker tenant command) Begun h = keeps_begun names now old new o h.0 worker tenant command h.3 h.1 h.2
keeps_event names now old new (Begin o worker tenant command) (Refused refusal) h = keeps_quiet names now old new _ _ refl (λ q. refl) h.1 h.2
keeps_event names now old new (Begin o worker tenant command) NoSuch h = keeps_quiet names now old new _ _ refl (λ q. refl) h.1 h.2
keeps_event names now old new (Step o) Moved h =
    subst (λ (w : Names). Keeps names old w new (Step o) Moved) (sym h.2) (keeps_moved names old new o h.0 h.1 h.3)
keeps_event names now old new (Step o) (Done a) h = keeps_done names now old h.1 new o h.0 a h.2 h.4 h.5 h.3
keeps_event names now old new (Step o) (Again q) h = keeps_quiet names now old new _ _ refl (λ q. refl) h.5 h.6
keeps_event names now old new (Step o) NoMemory h = keeps_quiet names now old new _ _ refl (λ q. refl) h.3 h.4
keeps_event names now old new (Step o) Spent h = keeps_quiet names now old new _ _ refl (λ q. refl) h.3 h.4
keeps_event names now old new (Step o) NoSuch h = keeps_quiet names now old new _ _ refl (λ q. refl) h.1 h.2
keeps_event names now old new _ _ h = absurd h

-- and so does a run, after any other
pub keeps_run : (run : Run) (names now : Names) (old new : StateView) → BringsTo names old run now new
    → (quotas : Quotas) (first : Maps) (base : ℕ) (before : Run)
    → History quotas first (story_of base before) names old → History quotas first (story_of base (before ++ run)) now new
keeps_run [] names now old new (same, stands) quotas first base before h =
    subst (λ (r : Run). History quotas first (story_of base r) now new) (sym (append-nil before))
    (subst (λ (w : Names). History quotas first (story_of base before) w new) (sym same) (subst (History quotas first (story_of base before) names) (sym stands) h))
keeps_run (x ∷ run) names now old new (next, mid, tells, rest) quotas first base before h =
    subst (λ (r : Run). History quotas first (story_of base r) now new) (append_assoc before (x ∷ []) run)
    (keeps_run run next now mid new rest quotas first base (before ++ x ∷ []) (keeps_event names next old mid x.0 x.1 tells quotas first base before h))

-- a run with one event more
pub leads_more : (names : Names) (old : StateView) (run : Run) (mids : Names) (mid : StateView) (now : Names) (new : StateView) (e : Event) (t : Told)
    → BringsTo names old run mids mid → TellsEvent mids mid now new e t → BringsTo names old (run ++ (e, t) ∷ []) now new
leads_more names old [] mids mid now new e t h s =
    (now, new, subst (λ (w : Names). TellsEvent w old now new e t) h.0 (subst (λ (v : StateView). TellsEvent mids v now new e t) h.1 s), (refl, refl))
leads_more names old (x ∷ run) mids mid now new e t h s = (h.0, h.1, h.2, leads_more h.0 h.1 run mids mid now new e t h.3 s)
