-- What an event of an operation makes of all that holds of a store, and what is noted of it.
use Rattle.std.{proofs.Common.{◌≡◌, ℕ, ◌<◌, ◌≤◌, List, ◌++◌, length, Option, Some, None, Result, Ok, refl, sym, ap, subst, ◌∙◌, inl, inr, ⊎_elim, arith}, specs.Prelude.slice_get}
use Rattle.mt_rows.specs.{Accounts.Accounts, declared.record.Batch.Batch}
use Rattle.mt_disk.specs.declared.mem.MemDisk.{MemDisk}
use Rattle.mt_lives.specs.{declared.live_slots.LiveSlots.LiveSlots, declared.live_slots.LiveSlots.TheVariants.{Rest, Turns, Writes, Away}}
use Rattle.mt_runs.{specs.{declared.event.Event.Event, declared.event.Told.{Told as Answered}}, proofs.Order.one_order}
use Rattle.mt_state.specs.{Views.{map_of, changed_at}, Histories.{AreById, IsServed}}
use Rattle.mt_core.specs.Tickets.{named}
use Rattle.mt_pages.proofs.Walked.{stays}
use Rattle.mt_crashes.specs.Stores.{Store}
use Rattle.mt_store_logs.specs.declared.store_log.StoreLog.{StoreLog}
use Rattle.mt_lives.specs.{declared.events.StoreEvent.TheVariants.Core, declared.events.StoreNote.TheVariants.Told, declared.serving.Serving.Serving}
use Rattle.mt_lives.specs.{Serving.TellsServing, Lives.{Life, Past, Standing, with_event, firsts, story_in, steps_in, HasOrder, checking, living, IsNoted}}
use Rattle.mt_lives.specs.{Checks.{first_of, pending, BeganBy, SlotsStand, LiveSlotsStand}, Holds.{quotas_of, HoldsKept, Serves, Holds}}
use Rattle.mt_lives.proofs.{Comes.comes_on, Growing.Grows, Cores.{Grown, grown}, Logged.{EachAt, all_on, settles_on}, Noting.{life_served, lives_so, held}, Served.{whole, last}, Stories.scan_on}
use Rattle.mt_lives.{specs.Turning.{Turning, IsTurning, StandsOnBase}, proofs.Bases.{is_come, turning_stays}}

-- the logs stand as they did
kept_grown : (s t : Store) (worker : ℕ) (kept : Option Batch) → Grows s t → HoldsKept s worker kept → HoldsKept t worker kept
kept_grown s t worker None grows h = h
kept_grown s t worker (Some b) grows h = grows.holds worker b h

each_grown : (from : ℕ) (turning : Turning) (s t : Store) (given now_given : List ℕ) (logs : List (StoreLog MemDisk)) → Grows s t → now_given ≡ given → EachAt from turning s given logs
    → EachAt from turning t now_given logs
each_grown from turning s t given now_given logs grows same all worker now log is_now is_log =
    let a = all worker now log (ap (λ ls. slice_get ls worker) (sym grows.logs) ∙ is_now) is_log in
    record {
      files = a.files;
      stands = a.stands;
      begins = a.begins;
      given_so = ap (λ g. slice_get g worker) same ∙ a.given_so;
      kept = kept_grown s t worker log.kept grows a.kept;
    }

-- a turn that began goes on while steps are made
began_on : (check : Option ℕ) (m n : ℕ) → m ≤ n → BeganBy check m → BeganBy check n
began_on None m n le none = absurd none
began_on (Some begun) m n le upto = omega (arith, le, upto)

-- A life that has gone on by an event of an operation: with whatever slots stand by the store then, all of it holds again.
module _ (accounts : Accounts) (slots : LiveSlots) (standing : Standing) (logs : List (StoreLog MemDisk)) (serving : Serving) (h : Holds accounts slots standing logs (Some serving)) where
  abbrev pub life_at : Life
  life_at = life_served accounts slots standing logs serving h

  pub record LivesOn (now : Serving) (e : Event) (answer : Answered) : Type 0 where
    pub t : Store
    pub grows : Grows h.s t
    pub serves : Serves accounts (with_event life_at e answer) t now.state (named now.roster.tickets)
    pub order : HasOrder (quotas_of accounts) (with_event life_at e answer)
    pub turning : IsTurning h.from h.turning slots t
    pub holds : (now_slots : LiveSlots) (check : Option ℕ) → IsTurning h.from h.turning now_slots t → LiveSlotsStand accounts check (Ok (with_event life_at e answer)) t.slots t.history t.steps now_slots
        → Holds accounts now_slots (living (with_event life_at e answer) (checking check standing)) logs (Some now)

  -- some logs
  pub few_logs : 0 < length h.s.logs
  few_logs = subst (λ n. 0 < n) (sym h.count) h.some

  -- what the life has grown by
  abbrev pub GrownBy : Life → Serving → Type 0
  GrownBy life now =
      Grown accounts life_at h.s serving.state (named serving.roster.tickets) (held accounts slots standing logs serving h).serves h.keeps few_logs life now.state (named now.roster.tickets)

  pub lives_by : (now : Serving) (e : Event) (answer : Answered) → GrownBy (with_event life_at e answer) now → AreById now.roster.names (named now.roster.tickets)
      → now.settles ≡ serving.settles → now.generation ≡ serving.generation → LivesOn now e answer
  lives_by now e answer g by_id settles generation =
      let life = life_served accounts slots standing logs serving h in
      let was = held accounts slots standing logs serving h in
      let s = h.s in
      let now_names = named now.roster.tickets in
      let count = length logs in
      let t : Store = g.0 in
      let grows : Grows s t = g.1 in
      let serves : Serves accounts (with_event life e answer) t now.state now_names = g.2 in
      let length_so : length t.logs ≡ length s.logs = ap length grows.logs in
      let base : (h.turning.starts ≤ s.steps) × IsTurning h.from h.turning slots s =
      subst (λ (n : Result Life Past). StandsOnBase n h.from h.turning slots s) (lives_so accounts slots standing logs serving h) h.base in
      let begun = base.0 in
      let more = grows.steps in
      record {
        t = t;
        grows = grows;
        serves = serves;
        order = one_order (quotas_of accounts) (firsts life) (story_in (with_event life e answer)) (map_of (whole accounts (with_event life e answer) t now.state now_names serves))
            (changed_at (whole accounts (with_event life e answer) t now.state now_names serves)) serves.history.right;
        turning =
            turning_stays h.from h.turning slots s t (is_come count s h.some h.few h.come) grows.leads grows.slots grows.voids grows.reached length_so base.1;
        holds = λ now_slots check turns stand. record {
          s = t;
          from = h.from;
          turning = h.turning;
          some = h.some;
          few = h.few;
          come = comes_on count s t h.come grows.leads;
          count = length_so ∙ h.count;
          stand = stand;
          base = (omega (arith, begun, more), turns);
          settled = all_on count standing.settled s t h.some h.few h.come grows.leads h.settled;
          keeps = g.3;
          now = record {
            serves = serves;
            by_id = by_id;
            each = each_grown h.from h.turning s t serving.state.logs now.state.logs logs grows g.4 was.each;
            turns_to = generation ∙ was.turns_to;
            settles =
                subst (λ m. Rattle.mt_lives.specs.Holds.AreSettles t standing.begun m) (sym settles)
                (settles_on count s t h.some h.few h.come grows.leads grows.steps length_so standing.begun serving.settles was.settles);
          };
        };
      }

  pub lives_on : (now : Serving) (e : Event) (answer : Answered) → TellsServing serving now e answer → IsServed (length logs) e → LivesOn now e answer
  lives_on now e answer tells served =
      lives_by now e answer
      (grown accounts life_at h.s serving.state (named serving.roster.tickets) (held accounts slots standing logs serving h).serves h.keeps few_logs e answer now.state
      (named now.roster.tickets) tells.tells tells.right (subst (λ n. IsServed n e) (sym h.count) served))
      tells.by_id tells.settles tells.generation

  -- a number of steps that were made
  pub within : (n : ℕ) → n ≤ h.s.steps → n ≤ steps_in life_at
  within n le =
      let serves = (held accounts slots standing logs serving h).serves in
      let made = serves.steps in
      let count = last accounts (life_served accounts slots standing logs serving h) h.s serving.state (named serving.roster.tickets) serves in
      omega (arith, le, made, count)

  -- the slots stand as they did
  pub slots_on : (now : Serving) (e : Event) (answer : Answered) (on : LivesOn now e answer)
      → LiveSlotsStand accounts standing.check (Ok (with_event life_at e answer)) on.t.slots on.t.history on.t.steps slots
  slots_on now e answer on = by slots (subst (λ (n : Result Life Past). LiveSlotsStand accounts standing.check n h.s.slots h.s.history h.s.steps slots)
      (lives_so accounts slots standing logs serving h) h.stand)
    where
      by : (ss : LiveSlots) → LiveSlotsStand accounts standing.check (Ok life_at) h.s.slots h.s.history h.s.steps ss
          → LiveSlotsStand accounts standing.check (Ok (with_event life_at e answer)) on.t.slots on.t.history on.t.steps ss
      by (Rest ss) stand = (stand.0, subst (λ now. SlotsStand now ss) (sym on.grows.slots) stand.1)
      by (Turns turn) stand = (
        began_on standing.check h.s.steps on.t.steps on.grows.steps stand.0,
        stand.1,
        subst (λ now. SlotsStand now turn.slots) (sym on.grows.slots) stand.2,
      )
      by (Writes c) stand = (
        stand.0,
        record {
          mays = stand.1.mays;
          shown_so = on.grows.slots ∙ stand.1.shown_so;
          pairs = stand.1.pairs;
          keeps = stand.1.keeps;
          found = stays h.s.history on.t.history (first_of c) h.s.steps on.t.steps on.grows.steps on.grows.maps c.walk.tenants.items c.walk.place c.walk.from c.walk.after
              (stand.1.pairs ++ pending c.stage) stand.1.found;
          all = stand.1.all;
          some = stand.1.some;
          moved = ⊎_elim (λ none. inl none) (λ lt. let more = on.grows.steps in inr (omega (arith, lt, more))) stand.1.moved;
          scan = scan_on life_at e answer (first_of c) c.walk c.stage (within (first_of c) stand.1.found.made) stand.1.scan;
        },
      )
      by Away stand = absurd stand

pub told : (accounts : Accounts) (slots : LiveSlots) (standing : Standing) (logs : List (StoreLog MemDisk)) (serving : Serving) (h : Holds accounts slots standing logs (Some serving))
    (now : Serving) (e : Event) (answer : Answered) → TellsServing serving now e answer → IsServed (length logs) e
    → (next : Standing) × IsNoted (quotas_of accounts) standing (Core e) (Told answer) next × Holds accounts slots next logs (Some now)
told accounts slots standing logs serving h now e answer tells served =
    let life = life_served accounts slots standing logs serving h in
    let on = lives_on accounts slots standing logs serving h now e answer tells served in (
      living (with_event life e answer) standing,
      (life, lives_so accounts slots standing logs serving h, on.order, refl),
      on.holds slots standing.check on.turning (slots_on accounts slots standing logs serving h now e answer on),
    )
