-- A settled number is at least the last step of each answer in what the logs had learned before the Settle: for the law.
use Rattle.std.proofs.Common.{◌≡◌, ℕ, zero, suc, ◌+◌, ◌≤◌, Bool, List, [], ◌∷◌, ◌++◌, length, inl, inr, None, Result, Ok, Err, refl, sym, ap, subst, ◌∙◌, arith}
use Rattle.std.proofs.lemmas.{Option.none-some, List.append-nil, List.Elements.{All-cons, All-nil, All-weaker}}
use Rattle.std.specs.List.{All}
use mathlib.Core.List.{IsPrefix}
use Rattle.mt_disk.specs.Disk.{DiskState}
use Rattle.mt_rows.specs.declared.refusal.Refusal.{Refusal}
use Rattle.mt_runs.specs.declared.event.Answer.{Answer}
use Rattle.mt_state.specs.Views.{StateView}
use Rattle.mt_core.specs.Restores.{IsIdle}
use Rattle.mt_history.{specs.Legal.{Along, IsLegal, last_from, EndsWith}, proofs.Fronts.prefix_trans}
use Rattle.mt_book.{specs.{declared.shared.Clerk.Clerk, Happens.{Happening, Acted, Given, Leads, Adds}, Periods.{Period, Took}, Calls.{Asked, Calls}, OneRun.AreTold, Serves.{ClerkView, Serves, clerk_of}}, proofs.OneRuns.one_run}
use Rattle.mt_orders.{specs.{Stories.{ids_at, story_along}, Explained.{HappensAt, IsTakenAt}}, proofs.{Explaining.explained, Calling.{answered_in, calls_views}, Preceding.rises}}
use Rattle.mt_caller.specs.Exchanges.{Settles as SettlesFor}
use Rattle.mt_store_logs.specs.{declared.store_log.StoreLog.StoreLog, declared.last_log.LastLog.LastLog, Places.worker_of, Flushes.{DrainsShort, FailsToDrain, FailsToFlush}, LogTurns.{BringsUp, FailsToBringUp}}
use Rattle.mt_settle.specs.{Turns.{Turn, BroughtUp, Chain}, Settles.{turns_from, Settles}}
use Rattle.mt_stored.specs.{declared.shared.SharedLogs.SharedLogs, Shared.{Seen, gives_batch, UptoSteps, DoesShared}}
use Rattle.mt_service.specs.{declared.callers.DeskCaller.DeskCaller, Sessions.{acts, AsksBook}}

-- ---- steps along a history

-- the steps of a history's last state
abbrev last_steps : List StateView → ℕ
last_steps [] = 0
last_steps (s ∷ log) = (last_from s log).steps

-- no number of steps falls
grows : (s : StateView) (log : List StateView) → Along Leads s log → s.steps ≤ (last_from s log).steps
grows s [] legal = omega arith
grows s (t ∷ log) legal =
    let here = rises s t legal.0.what legal.0.happens in
    let later = grows t log legal.1 in
    omega (arith, here, later)

-- a beginning of a legal history is legal, and has no more steps
along_front : (s : StateView) (xs ys : List StateView) → Along Leads s (xs ++ ys) → Along Leads s xs
along_front s [] ys legal = tt
along_front s (t ∷ xs) ys legal = (legal.0, along_front t xs ys legal.1)

front_steps : (s : StateView) (xs ys : List StateView) → Along Leads s (xs ++ ys) → (last_from s xs).steps ≤ (last_from s (xs ++ ys)).steps
front_steps s [] ys legal = grows s ys legal
front_steps s (t ∷ xs) ys legal = front_steps t xs ys legal.1

legal_front : (x : StateView) (xs ys : List StateView) → IsLegal Leads ys → IsPrefix (x ∷ xs) ys → IsLegal Leads (x ∷ xs)
legal_front x xs ys legal p = along_front x xs p.0 (subst (IsLegal Leads) (sym p.1) legal)

fewer : (xs ys : List StateView) → IsLegal Leads ys → IsPrefix xs ys → last_steps xs ≤ last_steps ys
fewer [] ys legal p = omega arith
fewer (x ∷ xs) ys legal p =
    subst (λ (l : List StateView). (last_from x xs).steps ≤ last_steps l) p.1 (front_steps x xs p.0 (subst (IsLegal Leads) (sym p.1) legal))

-- so of two beginnings of it, one of which begins the other
between : (zs xs ys : List StateView) → IsLegal Leads ys → IsPrefix xs ys → IsPrefix zs xs → last_steps zs ≤ last_steps xs
between [] xs ys legal p q = omega arith
between (z ∷ zs) [] ys legal p q = absurd (cc (q.1))
between (z ∷ zs) (x ∷ xs) ys legal p q = fewer (z ∷ zs) (x ∷ xs) (legal_front x xs ys legal p) q

ends_steps : (log : List StateView) (v : StateView) → EndsWith log v → last_steps log ≡ v.steps
ends_steps [] v ends = absurd ends
ends_steps (s ∷ log) v ends = ap (λ (u : StateView). u.steps) ends

front_same : (xs ys : List StateView) → ys ≡ xs → IsPrefix xs ys
front_same xs ys is = subst (λ (zs : List StateView). IsPrefix xs zs) (sym is) ([], append-nil xs)

-- ---- an answer

no_told : (s : StateView) (log : List StateView) → AreTold (λ k. None) s log
no_told s [] = tt
no_told s (t ∷ log) = ((λ h is. absurd (none-some h is)), no_told t log)

-- a period of a history shows no more steps than its last state has
shows_upto : (s : StateView) (log : List StateView) (k : ℕ) (p : Period) → Along Leads s log → HappensAt s log k (Acted p) → p.steps ≤ (last_from s log).steps
shows_upto s [] k p legal d = absurd d
shows_upto s (t ∷ log) zero p legal d =
    let number = d.0 in
    let here = rises s t (Acted p) d in
    let later = grows t log legal.1 in
    omega (arith, number, here, later)
shows_upto s (t ∷ log) (suc k) p legal d = shows_upto t log k p legal.1 d

module _ (first : StateView) (idle : IsIdle first) (old new : ClerkView) (seen : ℕ) (asked : Asked) (answer : Answer) (calls : Calls Serves old new seen asked (Ok answer)) where
  -- the last step of an answer was made in all that its clerk has seen
  answer_made : (log : List StateView) → Along Leads first log → new.mark.log ≡ first ∷ log → answer.last ≤ (last_from first log).steps
  answer_made log legal is =
      let all = one_run (λ k. None) first log legal (no_told first log) in
      let here = answered_in first log all.run idle legal all.through old new seen asked answer calls (front_same new.mark.log (first ∷ log) (sym is)) in
      let p : Period = record { steps = here.takes.steps; deed = Took here.takes.id here.takes.room answer } in
      let took : IsTakenAt (story_along first log all.run) (ids_at all.run here.taken) here.takes.steps here.takes.id answer =
      (explained first log all.run idle legal all.through).stand here.taken (Acted p) here.takes.happens in
      let upto = shows_upto first log here.taken p legal here.takes.happens in
      let made = took.made in
      omega (arith, upto, made)

  answer_seen : (log : List StateView) → Along Leads first log → IsPrefix new.mark.log (first ∷ log) → answer.last ≤ last_steps new.mark.log
  answer_seen log legal front = by new.mark.log refl front
    where
      by : (l : List StateView) → new.mark.log ≡ l → IsPrefix l (first ∷ log) → answer.last ≤ last_steps l
      by [] is p =
          let none = answered_in first [] [] idle tt tt old new seen asked answer calls (subst (λ (l : List StateView). IsPrefix l (first ∷ [])) (sym is) (first ∷ [], refl)) in
          let count = ap length is in
          let upto = none.upto in
          absurd (omega (arith, count, upto))
      by (x ∷ xs) is p =
          let same : x ≡ first = cc (p.1) in
          let rest : xs ++ p.0 ≡ log = cc (p.1) in
          let made = answer_made xs (along_front first xs p.0 (subst (Along Leads first) (sym rest) legal)) (is ∙ ap (λ (s : StateView). s ∷ xs) same) in
          subst (λ (s : StateView). answer.last ≤ (last_from s xs).steps) (sym same) made

-- ---- a Settle

adds_front : (what : Happening) (old new : Seen) → Adds what old new → IsPrefix old.log new.log
adds_front what old new a = prefix_trans old.log a.before new.log a.since (a.to ∷ [], sym a.log)

module _ {D : Type 0} (is_honest : D → Bool) (state : D → DiskState) (failures : D → ℕ) (was_refused : D → Bool) where
  short_front : (worker upto n : ℕ) (old new : LastLog D) (was is : Seen) → DrainsShort is_honest state failures gives_batch worker n upto old new was is → IsPrefix was.log is.log
  short_front worker upto zero old new was is same = front_same was.log is.log (ap (λ (m : Seen). m.log) same.1)
  short_front worker upto (suc n) old new was is (mark, mid, seen, before, last, less) =
      prefix_trans was.log seen.log is.log (short_front worker upto n old mid was seen before) (adds_front (Given worker last.batch) seen is last.given)

  module _ (log mark : ℕ) (old new : Seen) (u : UptoSteps (λ upto. BringsUp is_honest state failures gives_batch upto mark) log old new) where
    drained : IsPrefix u.seen.log new.log
    drained =
        let up = u.turned.does in
        let drains = up.flushes.does.drains.0 in
        prefix_trans u.seen.log drains.between.log new.log
        (short_front (worker_of up.mid) u.look.steps drains.times _ drains.mid u.seen drains.between drains.short) (adds_front (Given (worker_of up.mid) drains.last.batch) drains.between new drains.last.given)

    -- what was seen before is a beginning of what was seen then
    up_front : IsPrefix old.log new.log
    up_front = prefix_trans old.log u.seen.log new.log (adds_front _ old u.seen u.looked) drained

    -- and what a log told that was brought up is at least its steps
    up_tells : (whole : List StateView) → IsLegal Leads whole → IsPrefix new.log whole → last_steps old.log ≤ mark
    up_tells whole legal p =
        let looked = u.looked in
        let upto = prefix_trans looked.before u.seen.log whole (looked.to ∷ [], sym looked.log) (prefix_trans u.seen.log new.log whole drained p) in
        let less = between old.log looked.before whole legal upto looked.since in
        let ends = ends_steps looked.before looked.from looked.ends in
        let number : u.look.steps ≡ looked.from.steps = looked.happens.0 in
        let reach = u.turned.does.flushes.does.drains.1 in
        omega (arith, less, ends, number, reach)

  drain_front : (worker : ℕ) (e : Refusal) (old new : LastLog D) (was is : Seen) → FailsToDrain is_honest state failures gives_batch worker e old new was is → IsPrefix was.log is.log
  drain_front worker e old new was is (inl none) = front_same was.log is.log (ap (λ (m : Seen). m.log) none.same)
  drain_front worker e old new was is (inr kept) = adds_front (Given worker kept.batch) was is kept.given

  flush_front : (worker upto : ℕ) (e : Refusal) (old new : LastLog D) (was is : Seen) → FailsToFlush is_honest state failures gives_batch worker upto e old new was is → IsPrefix was.log is.log
  flush_front worker upto e old new was is (inl waits) = front_same was.log is.log (ap (λ (m : Seen). m.log) waits.same)
  flush_front worker upto e old new was is (inr stops) =
      let f = stops.fails in
      prefix_trans was.log f.between.log is.log (short_front worker upto f.times stops.first f.mid was f.between f.short) (drain_front worker e f.mid new f.between is f.fails)

  fails_front : (upto : ℕ) (e : Refusal) (old new : StoreLog D) (was is : Seen) → FailsToBringUp is_honest state failures gives_batch upto e old new was is → IsPrefix was.log is.log
  fails_front upto e old new was is (inl none) = front_same was.log is.log (ap (λ (m : Seen). m.log) none.same)
  fails_front upto e old new was is (inr f) = flush_front (worker_of f.mid) upto e _ _ was is f.fails.does

  -- so of a log that was not brought up
  pub down_front : (log : ℕ) (e : Refusal) (old new : Seen) → UptoSteps (λ upto. FailsToBringUp is_honest state failures gives_batch upto e) log old new → IsPrefix old.log new.log
  down_front log e old new u =
      prefix_trans old.log u.seen.log new.log (adds_front _ old u.seen u.looked) (fails_front u.look.steps e u.turned.before u.turned.after u.seen new u.turned.does)

  -- whatever a turn told, what was seen before it is a beginning of what was seen then
  pub turn_front : (log : ℕ) (told : Result ℕ Refusal) (old new : Seen) → DoesShared is_honest state failures was_refused old (BroughtUp log told) new → IsPrefix old.log new.log
  turn_front log (Ok mark) old new u = up_front log mark old new u
  turn_front log (Err e) old new (inl (elsewhere, same)) = front_same old.log new.log (ap (λ (m : Seen). m.log) same)
  turn_front log (Err e) old new (inr u) =
      let t = u.turned in
      down_front log t.does.refusal old new (record {
        look = u.look;
        seen = u.seen;
        looked = u.looked;
        turned = record { before = t.before; after = t.after; whose = t.whose; does = t.does.fails };
      })

  module _ {S : Type 0} (seen_by : S → Seen) where
    abbrev DoesSeen : S → Turn → S → Type 0
    DoesSeen s turn t = DoesShared is_honest state failures was_refused (seen_by s) turn (seen_by t)

    front : (old new : S) (log : ℕ) (marks : List ℕ) → Chain DoesSeen old (turns_from log marks) new → IsPrefix (seen_by old).log (seen_by new).log
    front old new log [] chain = front_same (seen_by old).log (seen_by new).log (ap (λ (s : S). (seen_by s).log) chain)
    front old new log (m ∷ ms) (mid, d, rest) =
        prefix_trans (seen_by old).log (seen_by mid).log (seen_by new).log (up_front log m (seen_by old) (seen_by mid) d) (front mid new (log + 1) ms rest)

    stop_front : (old new : S) (log at : ℕ) (e : Refusal) (marks : List ℕ) → Chain DoesSeen old (turns_from log marks ++ BroughtUp at (Err e) ∷ []) new → IsPrefix (seen_by old).log (seen_by new).log
    stop_front old new log at e [] (mid, d, same) =
        subst (λ (s : S). IsPrefix (seen_by old).log (seen_by s).log) (sym same) (turn_front at (Err e) (seen_by old) (seen_by mid) d)
    stop_front old new log at e (m ∷ ms) (mid, d, rest) =
        prefix_trans (seen_by old).log (seen_by mid).log (seen_by new).log (up_front log m (seen_by old) (seen_by mid) d) (stop_front mid new (log + 1) at e ms rest)

    -- and so is what was seen before a Settle
    pub settle_front : (count : ℕ) (old new : S) (told : Result ℕ Refusal) → Settles DoesSeen count old new told → IsPrefix (seen_by old).log (seen_by new).log
    settle_front count old new (Ok n) s = front old new 0 s.marks s.turns
    settle_front count old new (Err e) (inl none) = front_same (seen_by old).log (seen_by new).log (ap (λ (s : S). (seen_by s).log) none.2)
    settle_front count old new (Err e) (inr s) = stop_front old new 0 (length s.marks) e s.marks s.turns

    module _ (whole : List StateView) (legal : IsLegal Leads whole) where
      -- each log tells at least the steps of what was seen before all of them
      each_tells : (old new : S) (log : ℕ) (marks : List ℕ) → Chain DoesSeen old (turns_from log marks) new → IsPrefix (seen_by new).log whole
          → All (λ m. last_steps (seen_by old).log ≤ m) marks
      each_tells old new log [] chain p = All-nil (λ m. last_steps (seen_by old).log ≤ m)
      each_tells old new log (m ∷ ms) (mid, d, rest) p =
          let seen = prefix_trans (seen_by mid).log (seen_by new).log whole (front mid new (log + 1) ms rest) p in
          let less = between (seen_by old).log (seen_by mid).log whole legal seen (up_front log m (seen_by old) (seen_by mid) d) in
          All-cons (λ k. last_steps (seen_by old).log ≤ k) m ms (up_tells log m (seen_by old) (seen_by mid) d whole legal seen)
          (All-weaker (λ k. last_steps (seen_by mid).log ≤ k) (λ k. last_steps (seen_by old).log ≤ k) (λ k e. omega (arith, less, e)) ms (each_tells mid new (log + 1) ms rest p))

    pub covers : (first : StateView) (log : List StateView) → IsIdle first → Along Leads first log → (count n : ℕ) (learned settled : S) → Settles DoesSeen count learned settled (Ok n)
        → IsPrefix (seen_by settled).log (first ∷ log) → (old new : ClerkView) (seen : ℕ) (asked : Asked) (answer : Answer) → Calls Serves old new seen asked (Ok answer)
        → IsPrefix new.mark.log (seen_by learned).log → answer.last ≤ n
    covers first log idle legal count n learned settled s whole old new seen asked answer calls front_new =
        let learned_front = prefix_trans (seen_by learned).log (seen_by settled).log (first ∷ log) (front learned settled 0 s.marks s.turns) whole in
        let made = answer_seen first idle old new seen asked answer calls log legal (prefix_trans new.mark.log (seen_by learned).log (first ∷ log) front_new learned_front) in
        let less = between new.mark.log (seen_by learned).log (first ∷ log) legal learned_front front_new in
        let k = s.least.among.0 in
        let told = subst (λ (m : ℕ). last_steps (seen_by learned).log ≤ m) s.least.among.2 (each_tells (first ∷ log) legal learned settled 0 s.marks s.turns whole k n s.least.among.1) in
        omega (arith, made, less, told)

  -- so that of a session does, of each answer that its own clerk had seen
  pub session_covers : {L J R K : Type 0} (first : StateView) (log : List StateView) → IsIdle first → Along Leads first log
      → (old new : DeskCaller L R (Clerk L J) (SharedLogs L J R D) K) (n : ℕ) → AsksBook is_honest state failures was_refused old (SettlesFor (Ok n)) new
      → IsPrefix new.keeper.logs.book.clerk.mark.log (first ∷ log) → (before after : Clerk L J) (seen : ℕ) (asked : Asked) (answer : Answer)
      → Calls acts before after seen asked (Ok answer)
      → IsPrefix after.mark.log old.desk.mark.log → answer.last ≤ n
  session_covers {L} {J} {R} {K} first log idle legal old new n asks whole before after seen asked answer calls front_new =
      covers (λ (x : SharedLogs L J R D). x.book.clerk.mark) first log idle legal _ n asks.learned new.keeper.logs asks.settles whole (clerk_of before.mark before.birth) (clerk_of after.mark after.birth) seen asked answer
      (calls_views (λ (c : Clerk L J). clerk_of c.mark c.birth) before after seen asked (Ok answer) calls)
      (prefix_trans after.mark.log old.desk.mark.log asks.learned.book.clerk.mark.log front_new asks.learns_so.that)
