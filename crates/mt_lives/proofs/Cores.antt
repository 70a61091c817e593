-- An event of an operation, at a store that serves a life: one event more of that life, which one order explains.
use Rattle.std.proofs.Common.{◌≡◌, ℕ, ◌+◌, ◌<◌, ◌≤◌, Bool, true, false, List, [], ◌∷◌, ◌++◌, map, length, Some, None, refl, sym, ap, subst, ◌∙◌, arith, inl, inr}
use Rattle.std.specs.List.{All}
use Rattle.std.proofs.lemmas.List.{append_assoc, map-append}
use Rattle.mt_rows.specs.{declared.command.Command.Command, Accounts.Accounts, Tenants.Contents, TenantPairs.{quota_in, HasTenants}}
use Rattle.mt_tape.specs.{declared.entry.Entry.Entry, Histories.contents_at}
use Rattle.mt_runs.specs.{declared.event.Answer.Answer, declared.event.Event.Event, declared.event.Event.TheVariants.{Begin, Step}, declared.event.Told.{Told as Answered}, Runs.{Run, Finished, story_of}}
use Rattle.mt_operation.specs.declared.outcome.Outcome.{Outcome}
use Rattle.mt_runs.specs.declared.event.Told.TheVariants.{Begun, Refused, NoSuch, Moved, Again, NoMemory, Spent, Done}
use Rattle.mt_state.specs.{Views.{StateView, contents_of, granted}, Begins.{Begins, IsAnswerOf, Takes}, Promises.{IsAnswer, IsStep, IsQuiet, IsPlacing}}
use Rattle.mt_state.specs.Histories.{Names, Renames, TellsEvent, IsServed}
use Rattle.mt_core.specs.Rights.{IsRightState}
use Rattle.mt_crashes.specs.{Histories.{Placed, pairs_upto}, Stores.Store}
use Rattle.mt_lives.specs.{Lives.{Life, with_event, firsts, story_in}, Earlier.untidied, Remembers.Remembers, Holds.{quotas_of, placed_of, Serves, KeepsAll}}
use Rattle.mt_lives.proofs.{Served.{floor_made, now_pairs}, Untidied.{whole_same, first_over, step_so, answer_of, takes_now, tells_so}, Remembering.{done_is, keeps_event, keeps_finished, remembers_take, taken_finished}, Workers.{AreAll, IsBelow, all_same, all_begun, all_step, all_taken}}
use Rattle.mt_lives.proofs.{Growing.{Grows, grows_not, stepped, grows_step, placing, grows_placing, before_change, keeps_placing}, Tenants.{has_tenants, keeps_quotas}}

-- a state whose tape, numbers and tenants are those of another
record KeepsTape (old new : StateView) : Type 0 where
  steps : new.steps ≡ old.steps
  logs : new.logs ≡ old.logs
  floor : new.tape.floor ≡ old.tape.floor
  entries : new.tape.entries ≡ old.tape.entries
  tenants : (t : ℕ) → granted new t ≡ granted old t
  contents : contents_of new ≡ contents_of old

keeps_same : (old new : StateView) → new ≡ old → KeepsTape old new
keeps_same old new same = record {
  steps = ap (λ (v : StateView). v.steps) same;
  logs = ap (λ (v : StateView). v.logs) same;
  floor = ap (λ (v : StateView). v.tape.floor) same;
  entries = ap (λ (v : StateView). v.tape.entries) same;
  tenants = λ t. ap (λ (v : StateView). granted v t) same;
  contents = ap contents_of same;
}

keeps_begun : (old new : StateView) (n worker tenant : ℕ) (command : Command) → Begins old new n worker tenant command → KeepsTape old new
keeps_begun old new n worker tenant command b = record {
  steps = ap (λ (v : StateView). v.steps) b.stands;
  logs = ap (λ (v : StateView). v.logs) b.stands;
  floor = ap (λ (v : StateView). v.tape.floor) b.stands;
  entries = ap (λ (v : StateView). v.tape.entries) b.stands;
  tenants = λ t. ap (λ (v : StateView). granted v t) b.stands;
  contents = ap contents_of b.stands;
}

keeps_taken : (old new : StateView) (n : ℕ) (answer : _) → Takes old new n answer → KeepsTape old new
keeps_taken old new n answer k = record {
  steps = ap (λ (v : StateView). v.steps) k.gone;
  logs = ap (λ (v : StateView). v.logs) k.gone;
  floor = ap (λ (v : StateView). v.tape.floor) k.gone;
  entries = ap (λ (v : StateView). v.tape.entries) k.gone;
  tenants = λ t. ap (λ (v : StateView). granted v t) k.gone;
  contents = ap contents_of k.gone;
}

module _ (accounts : Accounts) (life : Life) (s : Store) (v : StateView) (names : Names) (h : Serves accounts life s v names) (all : KeepsAll accounts s)
    (some : 0 < length s.logs) where
  -- the store goes on with a life
  abbrev pub Grown : Life → StateView → Names → Type 0
  Grown now_life new now = (t : Store) × Grows s t × Serves accounts now_life t new now × KeepsAll accounts t × (new.logs ≡ v.logs)

  all_before : AreAll (IsBelow (length s.logs)) v.table
  all_before = λ n op there. (h.workers n op there, h.starts n op there)

  -- an operation that has made a step is of the same worker, and has one
  goes : (mid : StateView) (n : ℕ) (done : Bool) (step : IsStep v mid n done) → IsBelow (length s.logs) step.before → IsBelow (length s.logs) step.after
  goes mid n done step was = (
    subst (λ w. w < length s.logs) (sym step.moves.asked.worker) was.0,
    λ none. let low = first_over h.gone life.base v mid n done h.right h.given_up (h.starts n) step in absurd (omega (arith, low, none)),
  )

  all_moved : (mid : StateView) (n : ℕ) (done : Bool) → IsStep v mid n done → AreAll (IsBelow (length s.logs)) mid.table
  all_moved mid n done step = all_step (IsBelow (length s.logs)) v mid n done step (goes mid n done step) all_before

  -- with another run
  abbrev pub goes_by : Run → Life
  goes_by run = record { first = life.first; base = life.base; run = run }

  module _ (run : Run) (new : StateView) (now : Names) (history : Remembers (quotas_of accounts) (firsts life) (story_of life.base run) now (untidied h.gone life.base new))
      (right : IsRightState new) where
    -- the pairs up to the floor, at a store with the same history up to there
    pairs_on : (history : List Placed) → new.tape.floor ≡ v.tape.floor → ((cutoff : ℕ) → cutoff ≤ v.steps → pairs_upto cutoff history ≡ pairs_upto cutoff s.history)
        → ((cutoff : ℕ) → cutoff ≤ v.steps
        → contents_at (h.gone ++ new.tape.entries) (contents_of new) cutoff ≡ contents_at (h.gone ++ v.tape.entries) (contents_of v) cutoff)
        → (cutoff : ℕ) → life.base ≤ cutoff → cutoff ≤ new.tape.floor → pairs_upto cutoff history ≡ contents_at (h.gone ++ new.tape.entries) (contents_of new) cutoff
    pairs_on history floor same stay cutoff from le =
        let low = floor_made accounts life s v names h in
        same cutoff (omega (arith, low, le, floor)) ∙ h.pairs cutoff from (omega (arith, le, floor)) ∙ sym (stay cutoff (omega (arith, low, le, floor)))

    -- nothing was placed, and no step was made
    serves_still : KeepsTape v new → AreAll (IsBelow (length s.logs)) new.table → Serves accounts (goes_by run) s new now
    serves_still k all_now = record {
      serving = h.serving;
      steps = k.steps ∙ h.steps;
      logs = ap length k.logs ∙ h.logs;
      gone = h.gone;
      history = history;
      tenants = λ t. k.tenants t ∙ h.tenants t;
      right = right;
      floor = subst (λ n. life.base ≤ n) (sym k.floor) h.floor;
      given_up = subst (λ n. All (λ (x : Entry). x.step ≤ n) h.gone) (sym k.floor) h.given_up;
      workers = λ n op there. (all_now n op there).0;
      starts = λ n op there. (all_now n op there).1;
      before = h.before;
      ended = subst (λ n. All (λ (p : Placed). p.change.stamp ≤ n) h.before) (sym k.floor) h.ended;
      holds = h.holds ∙ ap (λ es. h.before ++ map placed_of es) (sym k.entries);
      pairs = pairs_on s.history k.floor (λ cutoff le. refl)
          (λ cutoff le. ap (λ es. contents_at (h.gone ++ es) (contents_of new) cutoff) k.entries ∙ ap (λ c. contents_at (h.gone ++ v.tape.entries) c cutoff) k.contents);
      reach = h.reach;
    }

    still : KeepsTape v new → AreAll (IsBelow (length s.logs)) new.table → Grown (goes_by run) new now
    still k all_now = (s, grows_not s, serves_still k all_now, all, k.logs)

    same : new ≡ v → Grown (goes_by run) new now
    same is = still (keeps_same v new is) (all_same (IsBelow (length s.logs)) v.table new.table (ap (λ (w : StateView). w.table) is) all_before)

    -- a step
    module _ (mid : StateView) (n : ℕ) (done : Bool) (step : IsStep v mid n done) (k : KeepsTape mid new) (all_now : AreAll (IsBelow (length s.logs)) new.table) where
      logs_same : new.logs ≡ v.logs
      logs_same = k.logs ∙ step.logs

      tenants_same : (t : ℕ) → granted new t ≡ quota_in accounts t
      tenants_same t = k.tenants t ∙ step.grows.quotas t ∙ h.tenants t

      number : new.steps ≡ s.steps + 1
      number = k.steps ∙ step.number ∙ ap (λ m. m + 1) h.steps

      floor_same : new.tape.floor ≡ v.tape.floor
      floor_same = k.floor ∙ step.floor

      stay : (cutoff : ℕ) → cutoff ≤ v.steps → contents_at (h.gone ++ new.tape.entries) (contents_of new) cutoff ≡ contents_at (h.gone ++ v.tape.entries) (contents_of v) cutoff
      stay cutoff le =
          ap (λ es. contents_at (h.gone ++ es) (contents_of new) cutoff) k.entries ∙ ap (λ c. contents_at (h.gone ++ mid.tape.entries) c cutoff) k.contents
          ∙ whole_same h.gone life.base v mid n done h.right h.given_up (h.starts n) step cutoff le

      quiet : IsQuiet v mid step.before step.after → Grown (goes_by run) new now
      quiet q = (
        stepped s,
        grows_step s h.serving,
        record {
          serving = h.serving;
          steps = number;
          logs = ap length logs_same ∙ h.logs;
          gone = h.gone;
          history = history;
          tenants = tenants_same;
          right = right;
          floor = subst (λ m. life.base ≤ m) (sym floor_same) h.floor;
          given_up = subst (λ m. All (λ (x : Entry). x.step ≤ m) h.gone) (sym floor_same) h.given_up;
          workers = λ q op there. (all_now q op there).0;
          starts = λ q op there. (all_now q op there).1;
          before = h.before;
          ended = subst (λ m. All (λ (x : Placed). x.change.stamp ≤ m) h.before) (sym floor_same) h.ended;
          holds = h.holds ∙ ap (λ es. h.before ++ map placed_of es) (sym (k.entries ∙ q.entries));
          pairs = pairs_on s.history floor_same (λ cutoff le. refl) stay;
          reach = h.reach;
        },
        all,
        logs_same,
      )

      module _ (p : IsPlacing v mid step.before step.after) where
        stamp : p.entry.step ≡ s.steps + 1
        stamp = p.step ∙ ap (λ m. m + 1) h.steps

        worker : p.entry.worker < length s.logs
        worker = subst (λ w. w < length s.logs) (sym p.worker) (h.workers n step.before step.there)

        holds : s.history ++ placed_of p.entry ∷ [] ≡ h.before ++ map placed_of new.tape.entries
        holds =
            ap (λ ps. ps ++ placed_of p.entry ∷ []) h.holds
            ∙ append_assoc h.before (map placed_of v.tape.entries) (placed_of p.entry ∷ [])
            ∙ ap (λ ps. h.before ++ ps) (sym (map-append placed_of v.tape.entries (p.entry ∷ [])))
            ∙ ap (λ es. h.before ++ map placed_of es) (sym (k.entries ∙ p.pushes))

        serves : Serves accounts (goes_by run) (placing (placed_of p.entry) s) new now
        serves = record {
          serving = h.serving;
          steps = number;
          logs = ap length logs_same ∙ h.logs;
          gone = h.gone;
          history = history;
          tenants = tenants_same;
          right = right;
          floor = subst (λ m. life.base ≤ m) (sym floor_same) h.floor;
          given_up = subst (λ m. All (λ (x : Entry). x.step ≤ m) h.gone) (sym floor_same) h.given_up;
          workers = λ q op there. (all_now q op there).0;
          starts = λ q op there. (all_now q op there).1;
          before = h.before;
          ended = subst (λ m. All (λ (x : Placed). x.change.stamp ≤ m) h.before) (sym floor_same) h.ended;
          holds = holds;
          pairs = pairs_on (placing (placed_of p.entry) s).history floor_same (λ cutoff le. let later : cutoff < p.entry.step = omega (arith, le, p.step) in before_change cutoff s.history (placed_of p.entry) later) stay;
          reach = h.reach;
        }

        had : HasTenants (quota_in accounts) (contents_of v)
        had = subst (λ (c : Contents). HasTenants (quota_in accounts) c) (now_pairs accounts life s v names h v.steps (omega arith)) (all v.steps).0

        has : HasTenants (quota_in accounts) (contents_of new)
        has = subst (λ (c : Contents). HasTenants (quota_in accounts) c) (sym k.contents) (has_tenants accounts v mid step.before step.after p h.tenants had)

        placed : Grown (goes_by run) new now
        placed = (
          placing (placed_of p.entry) s,
          grows_placing s (placed_of p.entry) h.serving stamp worker,
          serves,
          keeps_placing accounts s (placed_of p.entry) (contents_of new) all stamp
              (λ m le. now_pairs accounts (goes_by run) (placing (placed_of p.entry) s) new now serves m (subst (λ k. k ≤ m) (sym number) le))
              (has, keeps_quotas accounts new right tenants_same),
          logs_same,
        )

      moved : Grown (goes_by run) new now
      moved = elim step.effect [
        | inl q ↦ quiet q
        | inr p ↦ placed p
      ]

  module _ (e : Event) (told : Answered) (new : StateView) (now : Names) (tells : TellsEvent names v now new e told) where
    history_of : Remembers (quotas_of accounts) (firsts life) (story_in (with_event life e told)) now (untidied h.gone life.base new)
    history_of =
        keeps_event names now (untidied h.gone life.base v) (untidied h.gone life.base new) e told
        (tells_so h.gone life.base names v h.right h.given_up h.starts e told new now tells) (quotas_of accounts) (firsts life) life.base life.run h.history

  -- each event
  pub grown : (e : Event) (told : Answered) (new : StateView) (now : Names) → TellsEvent names v now new e told → IsRightState new → IsServed (length s.logs) e
      → Grown (with_event life e told) new now
  grown (Begin o w tenant command) Begun new now tells right served =
      still (with_event life (Begin o w tenant command) Begun).run new now (history_of (Begin o w tenant command) Begun new now tells) right
      (keeps_begun v new tells.0 w tenant command tells.3)
      (all_begun (IsBelow (length s.logs)) v new tells.0 w tenant command (omega (arith, served, some), λ none. refl) tells.3 all_before)
  grown (Begin o w tenant command) (Refused refusal) new now tells right served =
      same (with_event life (Begin o w tenant command) (Refused refusal)).run new now (history_of (Begin o w tenant command) (Refused refusal) new now tells) right tells.2
  grown (Begin o w tenant command) NoSuch new now tells right served =
      same (with_event life (Begin o w tenant command) NoSuch).run new now (history_of (Begin o w tenant command) NoSuch new now tells) right tells.2
  grown (Step o) Moved new now tells right served =
      moved (with_event life (Step o) Moved).run new now (history_of (Step o) Moved new now tells) right new tells.0 false tells.3 (keeps_same new new refl)
      (all_moved new tells.0 false tells.3)
  grown (Step o) (Done a) new now tells right served =
      moved (with_event life (Step o) (Done a)).run new now (history_of (Step o) (Done a) new now tells) right tells.1 tells.0 true tells.4 (keeps_taken tells.1 new tells.0 a tells.5)
      (all_taken (IsBelow (length s.logs)) tells.1 new tells.0 a tells.5 (all_moved tells.1 tells.0 true tells.4))
  grown (Step o) (Again q) new now tells right served =
      same (with_event life (Step o) (Again q)).run new now (history_of (Step o) (Again q) new now tells) right tells.6
  grown (Step o) NoMemory new now tells right served = same (with_event life (Step o) NoMemory).run new now (history_of (Step o) NoMemory new now tells) right tells.4
  grown (Step o) Spent new now tells right served = same (with_event life (Step o) Spent).run new now (history_of (Step o) Spent new now tells) right tells.4
  grown (Step o) NoSuch new now tells right served = same (with_event life (Step o) NoSuch).run new now (history_of (Step o) NoSuch new now tells) right tells.2
  grown e told new now tells right served = absurd tells

  -- a last step, whose answer is not taken yet
  module _ (o n : ℕ) (new : StateView) (known : names o ≡ Some (Some n)) (step : IsStep v new n true) (right : IsRightState new) where
    -- the answer that waits
    ended : (told : Outcome) × (step.after.outcome ≡ Some told) × IsAnswer new step.after told
    ended = step.answer refl

    pub waiting : Answer
    waiting = record { command = step.after.command; reply = ended.0.reply; first = step.after.first; at = ended.0.at; last = step.after.last }

    is_answer : IsAnswerOf step.after waiting
    unfolding waiting
    is_answer = record { finished = done_is step.after.phase (sym step.ends); told = ended.1; command = refl; first = refl; last = refl }

    pub finished : Grown (with_event life (Step o) (Done waiting)) new names
    finished =
        moved (with_event life (Step o) (Done waiting)).run new names
        (keeps_finished names (untidied h.gone life.base v) (untidied h.gone life.base new) o n waiting known (step_so h.gone life.base v new n true h.right h.given_up (h.starts n) step)
        (answer_of h.gone life.base v new n true h.right h.given_up (h.starts n) step waiting is_answer)
        (quotas_of accounts) (firsts life) life.base life.run h.history)
        right new n true step (keeps_same new new refl) (all_moved new n true step)

  -- an answer that waited is taken
  module _ (o n : ℕ) (answer : Answer) (new : StateView) (now : Names) (known : names o ≡ Some (Some n)) (t : Takes v new n answer) (r : Renames names now o None) (right : IsRightState new) where
    taken_so : Takes (untidied h.gone life.base v) (untidied h.gone life.base new) n answer
    taken_so = takes_now h.gone life.base v h.right h.given_up new n answer t

    pub taken : Serves accounts life s new now
    taken =
        serves_still life.run new now
        (remembers_take (quotas_of accounts) (firsts life) (story_in life) names now (untidied h.gone life.base v) (untidied h.gone life.base new) o n answer h.history known taken_so r)
        right (keeps_taken v new n answer t) (all_taken (IsBelow (length s.logs)) v new n answer t all_before)

    pub told_so : Finished (story_in life) o answer
    told_so = taken_finished (quotas_of accounts) (firsts life) (story_in life) names now (untidied h.gone life.base v) (untidied h.gone life.base new) o n answer h.history known taken_so r
