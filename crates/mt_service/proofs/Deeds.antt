-- Deeds of sessions that share a caller: if it held to something before each, it did so all the time.
use Rattle.std.{proofs.Common.{ℕ, Bool, List, [], ◌∷◌, map, Option, Some, None, ap, sym, subst}, specs.List.{AllByRecursion, AllZip, FoldsTo}}
use Rattle.mt_disk.specs.Disk.{DiskState}
use Rattle.mt_state.specs.Views.{StateView}
use Rattle.mt_caller.specs.Exchanges.{Exchange, CallerRelation}
use Rattle.mt_crew.specs.{Servings.IsServed, declared.crew.Served.Served}
use Rattle.mt_book.specs.declared.shared.Clerk.{Clerk}
use Rattle.mt_stored.specs.declared.shared.SharedLogs.{SharedLogs}
use Rattle.mt_loop.specs.Deeds.{Does, Led}
use Rattle.mt_service.specs.{declared.callers.DeskCaller.DeskCaller, declared.workers.SessionWorker.SessionWorker, declared.loops.{LoopWorker.LoopWorker, Workers.Workers, Workers.TheVariants.{Alone, Sharing}}, Sessions.{Within, SeesFront, LogsSeeFront, SeeFronts}, Loops.{Resumes, IsLed, AreServed, AreAlone, AreLoopsOf}}

module _ {S : Type 0} (exchanges : CallerRelation S) (resumes : S → S → Type 0) (Front : S → Type 0) (before : (old new : S) (e : Exchange) → exchanges old e new → Front new → Front old)
    (resumed : (old new : S) → resumes old new → Front new → Front old) where
  abbrev Inside : CallerRelation S
  Inside = Within Front exchanges

  deeds_inside : (old : S) (deeds : List (Option Exchange)) (new : S) → FoldsTo (Does exchanges resumes) old deeds new → Front new
      → FoldsTo (Does Inside resumes) old deeds new × Front old
  deeds_inside old [] new is front = (is, subst Front (sym is) front)
  deeds_inside old (Some e ∷ deeds) new (mid, does, more) front =
      let later = deeds_inside mid deeds new more front in
      ((mid, (does, later.1), later.0), before old mid e does later.1)
  deeds_inside old (None ∷ deeds) new (mid, does, more) front =
      let later = deeds_inside mid deeds new more front in
      ((mid, does, later.0), resumed old mid does later.1)

  led_inside : (old new : S) → Led exchanges resumes old new → Front new → Led Inside resumes old new
  led_inside old new (deeds, folds) front = (deeds, (deeds_inside old deeds new folds front).0)

  module _ {W : Type 0} (caller_of : W → S) where
    -- and so of all workers that came back
    pub all_led_inside : (begun : List W) (served : List (Served W)) → AllZip (λ old done. Led exchanges resumes (caller_of old) (caller_of done.worker)) begun served
        → AllByRecursion (λ (one : Served W). Front (caller_of one.worker)) served → AllZip (λ old done. Led Inside resumes (caller_of old) (caller_of done.worker)) begun served
    all_led_inside [] [] z all = tt
    all_led_inside (w ∷ ws) (s ∷ ss) z all = (led_inside (caller_of w) (caller_of s.worker) z.0 all.0, all_led_inside ws ss z.1 all.1)
    all_led_inside [] (s ∷ ss) z all = absurd z
    all_led_inside (w ∷ ws) [] z all = absurd z

-- a session that resumes has its caller see nothing more
pub resumed_front : {L J R D K : Type 0} (history : List StateView) (old new : DeskCaller L R (Clerk L J) (SharedLogs L J R D) K) → Resumes old new → SeeFronts history new → SeeFronts history old
resumed_front {L = L} {J = J} {R = R} {D = D} {K = K} history old new is front = (
  subst (λ (c : Clerk L J). SeesFront history c) (ap (λ (c : DeskCaller L R (Clerk L J) (SharedLogs L J R D) K). c.desk) is) front.0,
  subst (λ (s : SharedLogs L J R D). LogsSeeFront history s) (ap (λ (c : DeskCaller L R (Clerk L J) (SharedLogs L J R D) K). c.keeper.logs) is) front.1,
)

-- what holds of what some things have holds of these
zip_mapped : {A B C : Type 0} (f : A → B) (P : B → C → Type 0) (xs : List A) (ys : List C) → AllZip (λ x y. P (f x) y) xs ys → AllZip P (map f xs) ys
zip_mapped f P [] [] z = tt
zip_mapped f P (x ∷ xs) (y ∷ ys) z = (z.0, zip_mapped f P xs ys z.1)
zip_mapped f P [] (y ∷ ys) z = absurd z
zip_mapped f P (x ∷ xs) [] z = absurd z

module _ {L J R D : Type 0} (is_honest : D → Bool) (state : D → DiskState) (failures : D → ℕ) (was_refused : D → Bool) (serves : SessionWorker L J R D → Bool → SessionWorker L J R D → Type 0) (workers : List (SessionWorker L J R D))
    (served : List (Served (SessionWorker L J R D))) where
  -- workers that serve alone were led by their sessions, and those that their loops left by the deeds of these
  pub alone_served : (made : Workers (SessionWorker L J R D) (LoopWorker L J R D)) → AreAlone workers made
      → AreServed serves (λ one new. IsLed is_honest state failures was_refused one.worker new) made served → AllZip (IsServed serves) workers served
  alone_served (Alone others) own z = subst (λ (ws : List (SessionWorker L J R D)). AllZip (IsServed serves) ws served) own z
  alone_served (Sharing loops doors) own z = absurd own

  pub loops_led : (made : Workers (SessionWorker L J R D) (LoopWorker L J R D)) → AreLoopsOf workers made
      → AreServed serves (λ one new. IsLed is_honest state failures was_refused one.worker new) made served → AllZip (λ old done. IsLed is_honest state failures was_refused old done.worker) workers served
  loops_led (Alone others) own z = absurd own
  loops_led (Sharing loops doors) own z =
      let P : SessionWorker L J R D → Served (SessionWorker L J R D) → Type 0 = λ old done. IsLed is_honest state failures was_refused old done.worker in
      subst (λ (ws : List (SessionWorker L J R D)). AllZip P ws served) own (zip_mapped (λ (one : LoopWorker L J R D). one.worker) P loops.items served z)
