-- What a flush makes of all that holds of a store, drain by drain.
use Rattle.std.proofs.Common.{◌≡◌, ◌⊎◌, ℕ, zero, suc, ◌+◌, ◌≤◌, List, Some, None, Ok, refl, sym, ap, subst, ◌∙◌, inl, inr, ⊎_elim, arith}
use Rattle.std.specs.Prelude.{slice_get, slice_set}
use Rattle.mt_rows.specs.{Accounts.Accounts, declared.refusal.Refusal.Refusal}
use Rattle.mt_disk.specs.{declared.mem.MemDisk.MemDisk, Mem.mem_state}
use Rattle.mt_lives.specs.declared.live_slots.LiveSlots.{LiveSlots}
use Rattle.mt_state.specs.Views.{StateView}
use Rattle.mt_core.specs.Tickets.{named}
use Rattle.mt_crashes.specs.Stores.{ReachesAt}
use Rattle.mt_store_logs.specs.{declared.store_log.StoreLog.StoreLog, Places.OnLast, Waits.AppendsKept, Turns.ReopensLog}
use Rattle.mt_lives.specs.{declared.serving.Serving.Serving, Serving.DrainsServing, Lives.{Life, Standing, IsMemoryOrDevice, steps_in}, Holds.Holds}
use Rattle.mt_lives.proofs.{Comes.{set_there, set_twice}, Served.last, Flushing.{keeps_rules, failures_of}, Noting.{life_served, lives_so, held}}
use Rattle.mt_lives.proofs.LogDrains.{DrainsLog, DrainsLogShort, HasDrainedLog, FailsToDrainLog, FailsInLogDrains, Drains, FailsToDrainUpto, TurnsLog, FailsToTurn}
use Rattle.mt_lives.proofs.Noted.{none_waits, kept_again, waits_again, drained_again, keeps_again, reopen_noted, reopen_fails}

-- drains leave the Settles
short_settles : (worker n upto : ℕ) (old new : StoreLog MemDisk) (was is : Serving) → DrainsLogShort keeps_rules mem_state failures_of DrainsServing worker n upto old new was is
    → is.settles ≡ was.settles
short_settles worker zero upto old new was is s = ap (λ (x : Serving). x.settles) s.1
short_settles worker (suc n) upto old new was is (mark, mid, between, rest, d, less) = d.given.settles ∙ short_settles worker n upto old mid was between rest

-- and so does a flush
pub flush_settles : (worker upto mark : ℕ) (old new : StoreLog MemDisk) (was is : Serving) → Drains keeps_rules mem_state failures_of DrainsServing worker upto mark old new was is
    → is.settles ≡ was.settles
flush_settles worker upto mark old new was is f =
    let h = f.drains in
    h.last.given.settles ∙ short_settles worker h.times upto f.first h.mid was h.between h.short

-- and a turn
pub turn_settles : (worker upto mark : ℕ) (old new : StoreLog MemDisk) (was is : Serving) → TurnsLog keeps_rules mem_state failures_of DrainsServing worker upto mark old new was is
    → is.settles ≡ was.settles
turn_settles worker upto mark old new was is b = flush_settles worker upto mark b.mid new was is b.flushes

module _ (accounts : Accounts) (slots : LiveSlots) (standing : Standing) (worker : ℕ) where
  -- All holds of a store whose log is this one; no batch waits for it, and the Settles are those.
  pub record Rests (logs : List (StoreLog MemDisk)) (was : Serving) (log : StoreLog MemDisk) (now : Serving) : Type 0 where
    pub holds : Holds accounts slots standing (slice_set logs worker log) (Some now)
    pub none : log.kept ≡ None
    pub settles : now.settles ≡ was.settles
    pub generation : now.generation ≡ was.generation
    pub steps : now.state.steps ≡ was.state.steps

  module _ (logs : List (StoreLog MemDisk)) (was : Serving) (here : (log : StoreLog MemDisk) → slice_get (slice_set logs worker log) worker ≡ Some log) where
    -- a log in place of another in its place
    twice : (log new : StoreLog MemDisk) (now : Serving) → Holds accounts slots standing (slice_set (slice_set logs worker log) worker new) (Some now)
        → Holds accounts slots standing (slice_set logs worker new) (Some now)
    twice log new now h = subst (λ ls. Holds accounts slots standing ls (Some now)) (set_twice logs worker log new) h

    -- one drain more
    more : (upto mark : ℕ) (log new : StoreLog MemDisk) (now next : Serving) → Rests logs was log now
        → DrainsLog keeps_rules mem_state failures_of DrainsServing worker upto mark log new now next → Rests logs was new next
    more upto mark log new now next r d =
        let a = drained_again accounts slots standing (slice_set logs worker log) now r.holds worker log new (here log) next upto mark r.none d in
        record {
          holds = twice log new next a.0.again;
          none = d.appended.does.appends.none;
          settles = d.given.settles ∙ r.settles;
          generation = d.given.generation ∙ r.generation;
          steps = ap (λ (v : StateView). v.steps) d.given.state.stands ∙ r.steps;
        }

    short_rests : (n upto : ℕ) (log new : StoreLog MemDisk) (now next : Serving) → Rests logs was log now
        → DrainsLogShort keeps_rules mem_state failures_of DrainsServing worker n upto log new now next → Rests logs was new next
    short_rests zero upto log new now next r s =
        subst (λ (l : StoreLog MemDisk). Rests logs was l next) (sym s.0) (subst (λ (x : Serving). Rests logs was log x) (sym s.1) r)
    short_rests (suc n) upto log new now next r (mark, mid, between, rest, d, less) =
        more upto mark mid new between next (short_rests n upto log mid now between r rest) d

    -- what a flush tells, and where the store stands then
    pub record Flushed (upto mark : ℕ) (new : StoreLog MemDisk) (now : Serving) : Type 0 where
      pub holds : Holds accounts slots standing (slice_set logs worker new) (Some now)
      pub reach : ReachesAt mark holds.s worker
      pub settles : now.settles ≡ was.settles
      pub generation : now.generation ≡ was.generation
      pub made : mark ≤ was.state.steps
      pub reaches : upto ≤ mark
      pub given : (mark ≡ was.state.steps) ⊎ ((life : Life) × (standing.now ≡ Ok life) × (life.base + 4096 ≤ mark))

    -- what it was refused for
    pub record Refuses (e : Refusal) (new : StoreLog MemDisk) (now : Serving) : Type 0 where
      pub holds : Holds accounts slots standing (slice_set logs worker new) (Some now)
      pub settles : now.settles ≡ was.settles
      pub generation : now.generation ≡ was.generation
      pub memory : IsMemoryOrDevice e

    drains_rest : (upto mark : ℕ) (log new : StoreLog MemDisk) (now next : Serving) → Rests logs was log now
        → HasDrainedLog keeps_rules mem_state failures_of DrainsServing worker upto mark log new now next → upto ≤ mark → Flushed upto mark new next
    drains_rest upto mark log new now next r h reaches =
        let before = short_rests h.times upto log h.mid now h.between r h.short in
        let d = h.last in
        let a = drained_again accounts slots standing (slice_set logs worker h.mid) h.between before.holds worker h.mid new (here h.mid) next upto mark before.none d in
        let same = set_twice logs worker h.mid new in
        let life = life_served accounts slots standing (slice_set logs worker h.mid) h.between before.holds in
        let lives = lives_so accounts slots standing (slice_set logs worker h.mid) h.between before.holds in
        let all = moved_to (slice_set (slice_set logs worker h.mid) worker new) (slice_set logs worker new) same next mark a.0.again a.0.so in
        record {
          holds = all.0;
          reach = all.1;
          settles = d.given.settles ∙ before.settles;
          generation = d.given.generation ∙ before.generation;
          made = let le = a.1 in let steps = before.steps in omega (arith, le, steps);
          reaches = reaches;
          given = ⊎_elim (λ all. inl (all ∙ before.steps)) (λ full. inr (life, lives, full)) a.2;
        }
      where
        moved_to : (old_logs new_logs : List (StoreLog MemDisk)) → old_logs ≡ new_logs → (serving : Serving) (n : ℕ) (h : Holds accounts slots standing old_logs (Some serving))
            → ReachesAt n h.s worker → (k : Holds accounts slots standing new_logs (Some serving)) × ReachesAt n k.s worker
        moved_to old_logs new_logs same serving n h reach =
            subst (λ ls. (k : Holds accounts slots standing ls (Some serving)) × ReachesAt n k.s worker) same (h, reach)

    drains_stop : (upto : ℕ) (e : Refusal) (log new : StoreLog MemDisk) (now next : Serving) → Rests logs was log now
        → FailsInLogDrains keeps_rules mem_state failures_of DrainsServing worker upto e log new now next → Refuses e new next
    drains_stop upto e log new now next r f = by f.fails
      where
        before : Rests logs was f.mid f.between
        before = short_rests f.times upto log f.mid now f.between r f.short

        by : FailsToDrainLog keeps_rules mem_state failures_of DrainsServing worker e f.mid new f.between next → Refuses e new next
        by (inl none) = record {
          holds =
              subst (λ (l : StoreLog MemDisk). Holds accounts slots standing (slice_set logs worker l) (Some next)) (sym none.same_log)
              (subst (λ (x : Serving). Holds accounts slots standing (slice_set logs worker f.mid) (Some x)) (sym none.same) before.holds);
          settles = ap (λ (x : Serving). x.settles) none.same ∙ before.settles;
          generation = ap (λ (x : Serving). x.generation) none.same ∙ before.generation;
          memory = inl none.told;
        }
        by (inr keeps) =
            let a = keeps_again accounts slots standing (slice_set logs worker f.mid) f.between before.holds worker f.mid new (here f.mid) next e before.none keeps in
            record {
              holds = twice f.mid new next a.0.again;
              settles = keeps.given.settles ∙ before.settles;
              generation = keeps.given.generation ∙ before.generation;
              memory = a.1;
            }

-- a flush of a worker's log
module _ (accounts : Accounts) (slots : LiveSlots) (standing : Standing) (logs : List (StoreLog MemDisk)) (serving : Serving) (h : Holds accounts slots standing logs (Some serving))
    (worker : ℕ) (log : StoreLog MemDisk) (here : slice_get logs worker ≡ Some log) where
  pub there : (new : StoreLog MemDisk) → slice_get (slice_set logs worker new) worker ≡ Some new
  there new = set_there logs worker log new here

  first_rests : (first : StoreLog MemDisk) → OnLast (AppendsKept keeps_rules mem_state failures_of) log first → Rests accounts slots standing worker logs serving first serving
  first_rests first a =
      let r = kept_again accounts slots standing logs serving h worker log first here a in
      record { holds = r.again; none = a.does.none; settles = refl; generation = refl; steps = refl }

  pub flush_noted : (upto mark : ℕ) (new : StoreLog MemDisk) (now : Serving) → Drains keeps_rules mem_state failures_of DrainsServing worker upto mark log new serving now
      → Flushed accounts slots standing worker logs serving there upto mark new now
  flush_noted upto mark new now f =
      drains_rest accounts slots standing worker logs serving there upto mark f.first new serving now (first_rests f.first f.kept) f.drains f.reaches

  pub flush_fails : (upto : ℕ) (e : Refusal) (new : StoreLog MemDisk) (now : Serving) → FailsToDrainUpto keeps_rules mem_state failures_of DrainsServing worker upto e log new serving now
      → Refuses accounts slots standing worker logs serving there e new now
  flush_fails upto e new now (inl f) =
      let r = waits_again accounts slots standing logs serving h worker log new here e f.fails in
      record {
        holds = subst (λ (x : Serving). Holds accounts slots standing (slice_set logs worker new) (Some x)) (sym f.same) r.0.again;
        settles = ap (λ (x : Serving). x.settles) f.same;
        generation = ap (λ (x : Serving). x.generation) f.same;
        memory = r.1;
      }
  flush_fails upto e new now (inr f) = drains_stop accounts slots standing worker logs serving there upto e f.first new serving now (first_rests f.first f.kept) f.fails

  -- ---- a turn

  -- the log is open
  reopen_rests : (mid : StoreLog MemDisk) → ReopensLog keeps_rules mem_state failures_of log mid → Rests accounts slots standing worker logs serving mid serving
  reopen_rests mid r =
      let a = reopen_noted accounts slots standing logs serving h worker log mid here r in
      record { holds = a.again; none = none_waits log mid r; settles = refl; generation = refl; steps = refl }

  -- and then it is flushed
  then_first : (mid first : StoreLog MemDisk) → Rests accounts slots standing worker logs serving mid serving → OnLast (AppendsKept keeps_rules mem_state failures_of) mid first
      → Rests accounts slots standing worker logs serving first serving
  then_first mid first r a =
      let k = kept_again accounts slots standing (slice_set logs worker mid) serving r.holds worker mid first (there mid) a in
      record { holds = twice accounts slots standing worker logs serving there mid first serving k.again; none = a.does.none; settles = refl; generation = refl; steps = refl }

  pub turn_noted : (upto mark : ℕ) (new : StoreLog MemDisk) (now : Serving) → TurnsLog keeps_rules mem_state failures_of DrainsServing worker upto mark log new serving now
      → Flushed accounts slots standing worker logs serving there upto mark new now
  turn_noted upto mark new now b =
      let f = b.flushes in
      drains_rest accounts slots standing worker logs serving there upto mark f.first new serving now (then_first b.mid f.first (reopen_rests b.mid b.opens) f.kept)
      f.drains f.reaches

  pub turn_fails : (upto : ℕ) (e : Refusal) (new : StoreLog MemDisk) (now : Serving)
      → FailsToTurn keeps_rules mem_state failures_of DrainsServing worker upto e log new serving now → Refuses accounts slots standing worker logs serving there e new now
  turn_fails upto e new now (inl f) =
      let r = reopen_fails accounts slots standing logs serving h worker log new here e f.fails in
      record {
        holds = subst (λ (x : Serving). Holds accounts slots standing (slice_set logs worker new) (Some x)) (sym f.same) r.0.again;
        settles = ap (λ (x : Serving). x.settles) f.same;
        generation = ap (λ (x : Serving). x.generation) f.same;
        memory = r.1;
      }
  turn_fails upto e new now (inr f) = by f.fails
    where
      open_now : Rests accounts slots standing worker logs serving f.mid serving
      open_now = reopen_rests f.mid f.opens

      by : FailsToDrainUpto keeps_rules mem_state failures_of DrainsServing worker upto e f.mid new serving now → Refuses accounts slots standing worker logs serving there e new now
      by (inl w) =
          let r = waits_again accounts slots standing (slice_set logs worker f.mid) serving open_now.holds worker f.mid new (there f.mid) e w.fails in
          record {
            holds =
                subst (λ (x : Serving). Holds accounts slots standing (slice_set logs worker new) (Some x)) (sym w.same)
                (twice accounts slots standing worker logs serving there f.mid new serving r.0.again);
            settles = ap (λ (x : Serving). x.settles) w.same;
            generation = ap (λ (x : Serving). x.generation) w.same;
            memory = r.1;
          }
      by (inr s) = drains_stop accounts slots standing worker logs serving there upto e s.first new serving now (then_first f.mid s.first open_now s.kept) s.fails

  -- the steps of the life are those of its state
  pub steps_so : steps_in (life_served accounts slots standing logs serving h) ≡ serving.state.steps
  steps_so =
      let k = held accounts slots standing logs serving h in
      last accounts (life_served accounts slots standing logs serving h) h.s serving.state (named serving.roster.tickets) k.serves
