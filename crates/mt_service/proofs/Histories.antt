-- The history of which all callers came back is one, and one order explains it: for the server.
use Rattle.std.{proofs.Common.{◌≡◌, ◌≢◌, ◌∙◌, ℕ, ◌+◌, ◌%◌, arith, inl, inr, Bool, List, [], ◌∷◌, length, Option, Some, None, Result, Ok, Err, IfOk, OnOk, refl, sym, ap, subst}, proofs.lemmas.Option.none-some, proofs.lemmas.List.append-nil, proofs.lemmas.List.Sums.sum_by-cons, specs.List.{AllByRecursion, AllZip, flat_map, sum_by}}
use mathlib.Core.List.{IsPrefix}
use Rattle.mt_disk.specs.Disk.{DiskState}
use Rattle.mt_rows.specs.{declared.command.Command.Command, declared.reply.Reply.Reply, declared.refusal.Refusal.Refusal}
use Rattle.mt_runs.specs.declared.event.Answer.{Answer}
use Rattle.mt_state.specs.Views.{StateView}
use Rattle.mt_history.{proofs.Fronts.{prefix_trans}}
use Rattle.mt_book.{specs.{declared.calls.CallFault.CallFault, declared.shared.Clerk.Clerk, Periods.Period, OneRun.AreTold, Keeping.IsWhole, Serves.clerk_of}, proofs.OneRuns.one_run}
use Rattle.mt_orders.proofs.{Explaining.explained, Calling.{calls_views, chain_front}}
use Rattle.mt_crew.specs.{Servings.IsServed, declared.crew.Served.Served}
use Rattle.mt_caller.specs.{declared.caller.CallerFault.CallerFault, Exchanges.{Exchange, Opens, Calls, Settles}}
use Rattle.mt_options.specs.declared.tenants.TenantQuota.{TenantQuota}
use Rattle.mt_settle.specs.Turns.{Turn}
use Rattle.mt_stored.specs.{declared.shared.SharedLogs.SharedLogs, Checkpoints.Scanner, Digests.DigestCall, Keeping.{Kept, GivesTurns}}
use Rattle.mt_service.specs.{declared.callers.DeskCaller.DeskCaller, declared.workers.SessionWorker.SessionWorker, Sessions.{AsksBook, IsSession, SeesFront, LogsSeeFront, SeeFronts, acts, turns, logs_of, asker_of, clerks_in, answers_in}, Histories.HaveOneHistory, Loops.{Resumes, IsLed}, Beginnings.{IsNewWorker, IsNewTurner}, Workers.EachAt, Asking.{Asker, AsksOpened, KeepsAnswer, OpensTenant}, Turning.Turning, Turners.Leaves}
use Rattle.mt_service.proofs.{Sessions.served_inside, Deeds.{all_led_inside, resumed_front}, SettledNumbers.{turn_front, settle_front}, TurnFronts.any_front, TurnsInside.leaves_inside}

no_told : (s : StateView) (log : List StateView) → AreTold (λ k. None) s log
no_told s [] = tt
no_told s (t ∷ log) = ((λ h is. absurd (none-some h is)), no_told t log)

front_same : {A : Type 0} (xs ys : List A) → ys ≡ xs → IsPrefix xs ys
front_same xs ys is = subst (λ zs. IsPrefix xs zs) (sym is) ([], append-nil xs)

-- what a worker's caller has seen of the book it has seen ever after
module _ (L J R : Type 0) {D : Type 0} (K : Type 0) (is_honest : D → Bool) (state : D → DiskState) (failures : D → ℕ) (was_refused : D → Bool) where
  abbrev Caller : Type 0
  Caller = DeskCaller L R (Clerk L J) (SharedLogs L J R D) K

  opens_desk : {S C : Type 0} (old new : Asker S C) (tenant : ℕ) (refusal : Option Refusal) → OpensTenant old tenant refusal new → new.desk ≡ old.desk
  opens_desk old new tenant None x = ap (λ a. a.desk) x.1
  opens_desk old new tenant (Some refusal) x = ap (λ a. a.desk) x.2

  call_grows : (old new : Caller) (opened : Option ℕ) (keeps : SharedLogs L J R D → Turn → SharedLogs L J R D → Type 0) (logs : SharedLogs L J R D → ℕ) (command : Command) (told : Result Reply CallerFault)
      → AsksOpened acts keeps logs (asker_of old) opened command told (asker_of new) → IsPrefix old.desk.mark.log new.desk.mark.log
  call_grows old new (Some tenant) keeps logs command told x =
      let views = calls_views (λ (c : Clerk L J). clerk_of c.mark c.birth) old.desk new.desk _ _ x.result x.calls in
      chain_front (clerk_of old.desk.mark old.desk.birth) (clerk_of new.desk.mark new.desk.birth) views.periods views.chain
  call_grows old new None keeps logs command told x =
      front_same old.desk.mark.log new.desk.mark.log (ap (λ (a : Asker (Clerk L J) (SharedLogs L J R D)). a.desk.mark.log) x.1)

  grows : (old new : Caller) (e : Exchange) → AsksBook is_honest state failures was_refused old e new → IsPrefix old.desk.mark.log new.desk.mark.log
  grows old new (Opens tenant refusal) x =
      front_same old.desk.mark.log new.desk.mark.log (ap (λ (c : Clerk L J). c.mark.log) (opens_desk (asker_of old) (asker_of new) tenant refusal x))
  grows old new (Calls command told) x = call_grows old new old.opened _ _ command told x
  grows old new (Settles told) x = front_same old.desk.mark.log new.desk.mark.log (ap (λ (a : Asker (Clerk L J) (SharedLogs L J R D)). a.desk.mark.log) x.same)

  -- and so has the clerk of its logs
  abbrev shared_log : SharedLogs L J R D → List StateView
  shared_log logs = logs.book.clerk.mark.log

  same_logs : (old new : Kept (SharedLogs L J R D)) → new.logs ≡ old.logs → IsPrefix (shared_log old.logs) (shared_log new.logs)
  same_logs old new is = front_same (shared_log old.logs) (shared_log new.logs) (ap shared_log is)

  turns_grow : (old new : Kept (SharedLogs L J R D)) → GivesTurns (turns is_honest state failures was_refused) logs_of old new → IsPrefix (shared_log old.logs) (shared_log new.logs)
  turns_grow old new g =
      let own = turn_front is_honest state failures was_refused old.worker g.own.0 old.logs.book.clerk.mark g.mid.book.clerk.mark g.own.1 in
      elim (g.other) [
        | inl (is, same) ↦ subst (λ logs. IsPrefix (shared_log old.logs) (shared_log logs)) (sym same) own
        | inr (ne, turn) ↦
            prefix_trans (shared_log old.logs) (shared_log g.mid) (shared_log new.logs) own
            (turn_front is_honest state failures was_refused (old.next % logs_of old.logs) turn.0 g.mid.book.clerk.mark new.logs.book.clerk.mark turn.1)
      ]

  answer_grows : (old new : Kept (SharedLogs L J R D)) (result : Result Answer CallFault) → KeepsAnswer (turns is_honest state failures was_refused) logs_of old result new
      → IsPrefix (shared_log old.logs) (shared_log new.logs)
  answer_grows old new (Ok answer) (inl on) = same_logs old new (ap (λ (k : Kept (SharedLogs L J R D)). k.logs) on.1)
  answer_grows old new (Ok answer) (inr (inl anew)) = same_logs old new (ap (λ (k : Kept (SharedLogs L J R D)). k.logs) anew.2)
  answer_grows old new (Ok answer) (inr (inr gives)) = turns_grow old new gives
  answer_grows old new (Err fault) is = same_logs old new (ap (λ (k : Kept (SharedLogs L J R D)). k.logs) is)

  abbrev Asking : Type 0
  Asking = Asker (Clerk L J) (SharedLogs L J R D)

  opens_logs : (old new : Asking) (tenant : ℕ) (refusal : Option Refusal) → OpensTenant old tenant refusal new → new.kept.logs ≡ old.kept.logs
  opens_logs old new tenant None x = ap (λ (a : Asking). a.kept.logs) x.1
  opens_logs old new tenant (Some refusal) x = ap (λ (a : Asking). a.kept.logs) x.2

  call_logs_grow : (old new : Asking) (opened : Option ℕ) (command : Command) (told : Result Reply CallerFault) → AsksOpened acts (turns is_honest state failures was_refused) logs_of old opened command told new
      → IsPrefix (shared_log old.kept.logs) (shared_log new.kept.logs)
  call_logs_grow old new (Some tenant) command told x = answer_grows old.kept new.kept x.result x.kept
  call_logs_grow old new None command told x = same_logs old.kept new.kept (ap (λ (a : Asking). a.kept.logs) x.1)

  logs_grow : (old new : Caller) (e : Exchange) → AsksBook is_honest state failures was_refused old e new → IsPrefix (shared_log old.keeper.logs) (shared_log new.keeper.logs)
  logs_grow old new (Opens tenant refusal) x = same_logs (asker_of old).kept (asker_of new).kept (opens_logs (asker_of old) (asker_of new) tenant refusal x)
  logs_grow old new (Calls command told) x = call_logs_grow (asker_of old) (asker_of new) old.opened command told x
  logs_grow old new (Settles told) x =
      prefix_trans (shared_log old.keeper.logs) (shared_log x.learned) (shared_log new.keeper.logs) x.learns_so.this
      (settle_front is_honest state failures was_refused (λ (s : SharedLogs L J R D). s.book.clerk.mark) _ x.learned new.keeper.logs told x.settles)

  seen_before : (history : List StateView) (old new : Caller) (e : Exchange) → AsksBook is_honest state failures was_refused old e new → SeeFronts history new → SeeFronts history old
  seen_before history old new e x front = (
    prefix_trans old.desk.mark.log new.desk.mark.log history (grows old new e x) front.0,
    prefix_trans (shared_log old.keeper.logs) (shared_log new.keeper.logs) history (logs_grow old new e x) front.1,
  )

-- what holds of a result's value, twice, is enough for what it leads to
pub on_values : {A E : Type 0} (r : Result A E) (P R : A → Type 0) (Q : Type 0) → IfOk r P → IfOk r R → ((a : A) → P a → R a → Q) → OnOk r Q
on_values (Ok a) P R Q holds more leads = leads a holds more
on_values (Err e) P R Q holds more leads = tt

tail : {C : Type 0} (P : C → Type 0) (c : C) (cs : List C) → AllByRecursion P (c ∷ cs) → AllByRecursion P cs
tail P c cs all = all.1

head : {C : Type 0} (P : C → Type 0) (c : C) (cs : List C) → AllByRecursion P (c ∷ cs) → P c
head P c cs all = all.0

head_is : (mark first : StateView) (log seen : List StateView) → seen ≡ mark ∷ [] → IsPrefix seen (first ∷ log) → first ≡ mark
head_is mark first log seen is front =
    let f : IsPrefix (mark ∷ []) (first ∷ log) = subst (λ (l : List StateView). IsPrefix l (first ∷ log)) is front in
    cc (f.1)

module _ (L J R : Type 0) {D : Type 0} (is_honest : D → Bool) (state : D → DiskState) (failures : D → ℕ) (was_refused : D → Bool) where
  abbrev Worker : Type 0
  Worker = SessionWorker L J R D

  fronts : (whole : List StateView) (served : List (Served Worker)) → AllByRecursion (λ (c : Clerk L J). IsPrefix c.mark.log whole) (flat_map clerks_in served)
      → AllByRecursion (λ (one : Served Worker). SeeFronts whole one.worker.caller) served
  fronts whole [] all = tt
  fronts whole (s ∷ ss) all =
      let P : Clerk L J → Type 0 = λ c. IsPrefix c.mark.log whole in
      let logs = s.worker.caller.keeper.logs.book.clerk in
      ((all.0, all.1.0), fronts whole ss (tail P logs (flat_map clerks_in ss) (tail P s.worker.caller.desk (logs ∷ flat_map clerks_in ss) all)))

  -- what the turner's clerks have seen they have seen ever after
  clerk_before : (history : List StateView) (old : Clerk L J) (p : Period) (new : Clerk L J) → acts old p new → SeesFront history new → SeesFront history old
  clerk_before history old p new a front =
      let after = clerk_of new.mark new.birth in
      prefix_trans old.mark.log new.mark.log history (chain_front (clerk_of old.mark old.birth) after (p ∷ []) (after, a, refl)) front

  logs_before : (history : List StateView) (old : SharedLogs L J R D) (turn : Turn) (new : SharedLogs L J R D) → turns is_honest state failures was_refused old turn new
      → LogsSeeFront history new → LogsSeeFront history old
  logs_before history old turn new t front =
      let was = old.book.clerk.mark in
      let is = new.book.clerk.mark in
      prefix_trans was.log is.log history (any_front is_honest state failures was_refused was turn is t) front

  -- the clerk that began the history looked once
  all_added : (one turner logs : Clerk L J) (rest : List (Clerk L J)) → one.mark.made ≡ 0 → (n : ℕ)
      → n ≡ sum_by (λ (c : Clerk L J). c.mark.made) (one ∷ turner ∷ logs ∷ rest) + length (one ∷ turner ∷ logs ∷ rest)
      → n ≡ sum_by (λ (c : Clerk L J). c.mark.made) (turner ∷ logs ∷ rest) + length (turner ∷ logs ∷ rest) + 1
  all_added one turner logs rest none n is =
      let sum = sum_by-cons (λ (c : Clerk L J). c.mark.made) one (turner ∷ logs ∷ rest) in
      omega (arith, is, none, sum)

  -- all that the sessions of these workers were told stands in one history from the state that the first clerk has seen, with all that a turner did
  pub one_history : {G : Type 0} (calls : G → DigestCall → G → Type 0) (digests : G) (tenants : List TenantQuota) (one turner logs : Clerk L J) (begun : List Worker) (served : List (Served Worker))
      (answers workers connections log_count next : ℕ) → IsWhole (λ (c : Clerk L J). c.mark) (one ∷ turner ∷ logs ∷ flat_map clerks_in served) answers
      → (connections ≡ 1 → AllZip (IsServed (λ (old : Worker) right (new : Worker). IsSession (AsksBook is_honest state failures was_refused) right old.caller new.caller)) begun served)
      → (connections ≢ 1 → AllZip (λ (old : Worker) (done : Served Worker). IsLed is_honest state failures was_refused old done.worker) begun served)
      → length begun ≡ workers → EachAt begun (IsNewWorker log_count tenants)
      → (made : Turning (Clerk L J) (SharedLogs L J R D) G) → IsNewTurner log_count next digests made → (desk : Scanner (Clerk L J)) (left : SharedLogs L J R D)
      → Leaves acts is_honest state failures (turns is_honest state failures was_refused) logs_of calls tenants made desk left → turner ≡ desk.desk → logs ≡ left.book.clerk
      → answers ≡ desk.counted + answers_in served
      → (first : StateView) → one.mark.log ≡ first ∷ [] → one.mark.made ≡ 0 → HaveOneHistory L J R is_honest state failures was_refused calls digests tenants workers connections log_count next first
  one_history calls digests tenants one turner logs begun served answers workers connections log_count next w z led many new made fresh desk left turned same_clerk same_logs shares first is none =
      let whole = w.first ∷ w.log in
      let P : Clerk L J → Type 0 = SeesFront whole in
      let after_one = tail P one (turner ∷ logs ∷ flat_map clerks_in served) w.seen in
      let after_turner = tail P turner (logs ∷ flat_map clerks_in served) after_one in
      let rest = tail P logs (flat_map clerks_in served) after_turner in
      let desk_front : SeesFront whole desk.desk = subst P same_clerk (head P turner (logs ∷ flat_map clerks_in served) after_one) in
      let logs_front : LogsSeeFront whole left = subst P same_logs (head P logs (flat_map clerks_in served) after_turner) in
      let all = one_run (λ k. None) w.first w.log w.legal (no_told w.first w.log) in
      let same : w.first ≡ first = head_is first w.first w.log one.mark.log is w.seen.0 in
      subst (λ (s : StateView). HaveOneHistory L J R is_honest state failures was_refused calls digests tenants workers connections log_count next s) same (record {
        log = w.log;
        legal = w.legal;
        run = all.run;
        through = all.through;
        explained = λ other through. explained w.first w.log other w.unasked.idle w.legal through;
        begun = begun;
        many = many;
        new = new;
        served = served;
        alone = λ is.
            served_inside (AsksBook is_honest state failures was_refused) (SeeFronts whole) (seen_before L J R D is_honest state failures was_refused whole) (λ (x : Worker). x.caller) begun served (z is)
            (fronts whole served rest);
        sharing = λ more.
            all_led_inside (AsksBook is_honest state failures was_refused) Resumes (SeeFronts whole) (seen_before L J R D is_honest state failures was_refused whole) (resumed_front whole) (λ (x : Worker). x.caller) begun served (led more)
            (fronts whole served rest);
        turner = made;
        fresh = fresh;
        desk = desk;
        logs = left;
        turned =
            leaves_inside acts is_honest state failures (turns is_honest state failures was_refused) calls (SeesFront whole) (clerk_before whole) (LogsSeeFront whole) (logs_before whole) logs_of tenants made desk left turned
            desk_front logs_front;
        seen = (desk_front, logs_front);
        added =
            all_added one turner logs (flat_map clerks_in served) none (length w.log) w.added
            ∙ cc (same_clerk, same_logs);
        taken = w.taken ∙ shares;
      })
