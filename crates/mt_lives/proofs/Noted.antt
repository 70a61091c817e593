-- What an append, a drain and a reopening make of all that holds of a store.
use Rattle.std.proofs.Common.{◌≡◌, ◌≢◌, ◌⊎◌, ℕ, ◌+◌, ◌≤◌, List, Option, Some, None, refl, sym, ap, subst, ◌∙◌, inl, inr, ⊎_elim, arith}
use Rattle.std.proofs.lemmas.Option.{same_Some}
use Rattle.std.specs.Prelude.{slice_get, slice_set}
use Rattle.mt_rows.specs.{Accounts.Accounts, declared.record.Batch.Batch, declared.refusal.Refusal.Refusal}
use Rattle.mt_disk.specs.{declared.mem.MemDisk.MemDisk, Mem.mem_state}
use Rattle.mt_log.specs.Contents.{mark_of}
use Rattle.mt_state.specs.{Views.StateView, Histories.Names}
use Rattle.mt_core.specs.Tickets.{named}
use Rattle.mt_crashes.{specs.Stores.{Store, LogNow, Reaches, ReachesAt}, proofs.Members.no_some}
use Rattle.mt_recover.specs.{declared.resuming.LogSlot.LogSlot, declared.resuming.LogSlot.TheVariants.{Open, Failed, Closed, Away}}
use Rattle.mt_store_logs.specs.{declared.last_log.LastLog.LastLog, declared.store_log.StoreLog.StoreLog, Places.{last_log_of, slot_of, OnLast}}
use Rattle.mt_store_logs.specs.Waits.{AppendsKept, FailsToAppend, ReopensAt}
use Rattle.mt_store_logs.specs.{Turns.{ReopensLog, FailsToReopenLog}, Shows.{WaitsIn, drained_upto, ComesToRest}}
use Rattle.mt_lives.specs.{declared.serving.Serving.Serving, Serving.DrainsServing, Lives.{Life, Standing, IsMemoryOrDevice}}
use Rattle.mt_lives.specs.Holds.{IsLogAt, HoldsKept, Serves, Holds}
use Rattle.mt_lives.proofs.{Comes.{with_log, set_there, GoesTo, and_then, rests, is_in, is_in_doubt}, Logged.{set_other, serves_drained}}
use Rattle.mt_lives.proofs.{LogDrains.{DrainsLog, KeepsDrainedLog}, TurnLogs.{IsAt, waiting, reopened_in, not_reopened_in}}
use Rattle.mt_lives.proofs.Flushing.{keeps_rules, failures_of, doubt_drained, Moves, stands_at, as_log_at, kept_moves, waits_moves, full_or_all, flushed, keeps_moves}
use Rattle.mt_lives.proofs.Noting.{life_served, held, HoldsAgain, found, at, moved}
use Rattle.mt_lives.specs.declared.live_slots.LiveSlots.{LiveSlots}
use Rattle.mt_lives.specs.Turning.{part_of}

-- ---- the batch that waits

none_left : (slot : LogSlot MemDisk) (old new : LastLog MemDisk) → ReopensAt keeps_rules mem_state failures_of slot old new → new.kept ≡ None
none_left (Failed log) old new r = r.appends.none
none_left (Closed disk) old new r = r.appends.none
none_left (Open log) old new r = r.none
none_left Away old new r = r.none

pub none_waits : (old new : StoreLog MemDisk) → ReopensLog keeps_rules mem_state failures_of old new → new.kept ≡ None
none_waits old new r = none_left (slot_of r.mid) (last_log_of r.mid) (last_log_of new) r.reopens.does

kept_on : (s : Store) (worker : ℕ) (next : LogNow) (kept : Option Batch) → HoldsKept s worker kept → HoldsKept (with_log worker next s) worker kept
kept_on s worker next None h = h
kept_on s worker next (Some b) h = record { made = h.made; records = h.records }

same_had : (now mid : LogNow) → now.doubt ≡ None → ComesToRest now mid → mid.had ≡ now.had
same_had now mid none rest = ⊎_elim (λ same. same) (λ more. absurd (no_some more.0 (sym none ∙ more.1))) rest.left

-- a log that came to rest goes on where the batch that waits ends
rest_drained : (now mid : LogNow) (kept : Option Batch) → WaitsIn now kept → (mid ≡ now) ⊎ ComesToRest now mid → drained_upto mid kept ≡ drained_upto now kept
rest_drained now mid kept waits (inl same) = ap (λ (l : LogNow). drained_upto l kept) same
rest_drained now mid None none (inr rest) = ap mark_of (same_had now mid none rest)
rest_drained now mid (Some b) waits (inr rest) = refl

-- ---- one log

module _ (accounts : Accounts) (slots : LiveSlots) (standing : Standing) (logs : List (StoreLog MemDisk)) (serving : Serving) (h : Holds accounts slots standing logs (Some serving))
    (worker : ℕ) (log new : StoreLog MemDisk) (here : slice_get logs worker ≡ Some log) where
  life : Life
  life = life_served accounts slots standing logs serving h

  v : StateView
  v = serving.state

  names : Names
  names = named serving.roster.tickets

  serves : Serves accounts life h.s v names
  unfolding life v names
  serves = (held accounts slots standing logs serving h).serves

  now : LogNow
  now = (found accounts slots standing logs serving h worker log new here).0

  there : slice_get h.s.logs worker ≡ Some now
  unfolding now
  there = (found accounts slots standing logs serving h worker log new here).1

  log_at : IsLogAt h.from (part_of h.turning worker) h.s v.logs worker now log
  unfolding v now
  log_at = at accounts slots standing logs serving h worker log new here

  -- all holds again with the log as it is, of a store of which P is so
  abbrev pub Again : Serving → (Store → Type 0) → Type 0
  Again now_serving P = HoldsAgain accounts slots standing logs serving h (slice_set logs worker new) now_serving P

  abbrev pub AnyStore : Store → Type 0
  AnyStore s = Unit {0}

  -- its state was not drained
  undrained : (now_serving : Serving) → now_serving ≡ serving → Moves h.from (part_of h.turning worker) h.s v.logs worker new → Again now_serving AnyStore
  unfolding life v names
  undrained now_serving same m =
      let a = moved accounts slots standing logs serving h worker log new here serving m serves refl refl refl (λ k other. refl) in
      subst (λ (x : Serving). Again x AnyStore) (sym same) (record { again = a.again; so = tt })

  -- it was
  module _ (now_serving : Serving) (batch : Batch) (given : DrainsServing serving now_serving worker batch) where
    others : (k : ℕ) → k ≢ worker → slice_get now_serving.state.logs k ≡ slice_get serving.state.logs k
    others k other = ap (λ (w : StateView). slice_get w.logs k) given.state.stands ∙ set_other serving.state.logs worker k batch.to other

    now_serves : Serves accounts life h.s now_serving.state (named now_serving.roster.tickets)
    unfolding life v names
    now_serves =
        subst (λ r. Serves accounts life h.s now_serving.state (named r.tickets)) (sym given.roster)
        (serves_drained accounts life h.s v names serves now_serving.state worker batch given.state given.right)

    drained_on : (m : Moves h.from (part_of h.turning worker) h.s now_serving.state.logs worker new) → Again now_serving (λ s. slice_get s.logs worker ≡ Some m.next)
    unfolding life v
    drained_on m = moved accounts slots standing logs serving h worker log new here now_serving m now_serves given.roster given.settles given.generation others

  -- ---- appends and drains

  -- the batch that waited is in the log
  pub kept_again : OnLast (AppendsKept keeps_rules mem_state failures_of) log new → Again serving AnyStore
  unfolding life v names
  kept_again a = undrained serving refl (kept_moves h.from (part_of h.turning worker) accounts life h.s v names serves worker now log there log_at new a)

  -- it still waits
  pub waits_again : (e : Refusal) → OnLast (FailsToAppend keeps_rules mem_state failures_of e) log new → Again serving AnyStore × IsMemoryOrDevice e
  unfolding life v names
  waits_again e f = let r = waits_moves h.from (part_of h.turning worker) accounts life h.s v names serves worker now log there log_at e new f in (undrained serving refl r.0, r.1)

  -- the worker was drained once, and its batch is in the log
  pub drained_again : (now_serving : Serving) (upto mark : ℕ) → log.kept ≡ None → DrainsLog keeps_rules mem_state failures_of DrainsServing worker upto mark log new serving now_serving
      → Again now_serving (λ s. ReachesAt mark s worker) × (mark ≤ serving.state.steps)
      × ((mark ≡ serving.state.steps) ⊎ ((life_served accounts slots standing logs serving h).base + 4096 ≤ mark))
  unfolding life v names
  drained_again now_serving upto mark none d =
      let r = flushed h.from (part_of h.turning worker) accounts life h.s v names serves worker now log there log_at none now_serving.state d.batch d.given.state d.bounded new d.appended in
      let all = full_or_all h.from (part_of h.turning worker) accounts life h.s v names serves worker now log there log_at none now_serving.state d.batch d.given.state d.bounded in
      let a = drained_on now_serving d.batch d.given r.0 in (
        record {
          again = a.again;
          so = λ l is. subst (λ n. Reaches n l) (sym d.told) (subst (Reaches d.batch.to) (same_Some r.0.next l (sym a.so ∙ is)) r.1);
        },
        omega (arith, all.0, d.told),
        ⊎_elim (λ same. inl (d.told ∙ same)) (λ more. inr (omega (arith, more, d.told))) all.1,
      )

  -- its batch waits
  pub keeps_again : (now_serving : Serving) (e : Refusal) → log.kept ≡ None → KeepsDrainedLog keeps_rules mem_state failures_of DrainsServing worker e log new serving now_serving
      → Again now_serving AnyStore × IsMemoryOrDevice e
  unfolding life v names
  keeps_again now_serving e none k =
      let r = keeps_moves h.from (part_of h.turning worker) accounts life h.s v names serves worker now log there log_at none now_serving.state k.batch k.given.state k.bounded new e k.fails in
      let a = drained_on now_serving k.batch k.given r.0 in
      (record { again = a.again; so = tt }, r.1)

  -- ---- reopenings

  stands : IsAt h.from (part_of h.turning worker) now log
  unfolding v
  stands = stands_at h.from (part_of h.turning worker) h.s v.logs worker now log log_at

  pub reopen_noted : ReopensLog keeps_rules mem_state failures_of log new → Again serving (λ s. Unit {0})
  unfolding v
  reopen_noted r =
      let o = reopened_in h.from (part_of h.turning worker) now log new stands r in
      let mid : LogNow = o.0 in
      let next : LogNow = o.1 in
      let goes : GoesTo worker next h.s =
      and_then worker h.s now mid next there (rests worker h.s now mid there o.2)
      (is_in worker (with_log worker mid h.s) mid next log.kept serves.serving (set_there h.s.logs worker now mid there) (kept_on h.s worker mid log.kept log_at.kept) o.4) in
      undrained serving refl (record {
        next = next;
        goes = goes;
        at = as_log_at h.from (part_of h.turning worker) (with_log worker next h.s) v.logs worker next new o.3 (log_at.given_so ∙ ap Some (sym o.5))
            (subst (HoldsKept (with_log worker next h.s) worker) (sym (none_waits log new r)) tt);
      })

  pub reopen_fails : (e : Refusal) → FailsToReopenLog keeps_rules mem_state failures_of e log new → Again serving (λ s. Unit {0}) × IsMemoryOrDevice e
  unfolding v
  reopen_fails e f =
      let o = not_reopened_in h.from (part_of h.turning worker) now log new stands e f in
      let mid : LogNow = o.0 in
      let next : LogNow = o.1 in
      let first : GoesTo worker mid h.s = ⊎_elim
      (λ same. is_in_doubt worker h.s now mid None serves.serving there tt same)
      (λ rest. rests worker h.s now mid there rest)
      o.2 in
      let goes : GoesTo worker next h.s =
      and_then worker h.s now mid next there first
      (is_in_doubt worker (with_log worker mid h.s) mid next log.kept serves.serving (set_there h.s.logs worker now mid there) (kept_on h.s worker mid log.kept log_at.kept) o.4) in
      let upto : drained_upto next new.kept ≡ drained_upto now log.kept = doubt_drained log.kept new.kept mid next o.4 o.5 ∙ rest_drained now mid log.kept (waiting h.from (part_of h.turning worker) now log stands) o.2 in (
        undrained serving refl (record {
          next = next;
          goes = goes;
          at = as_log_at h.from (part_of h.turning worker) (with_log worker next h.s) v.logs worker next new o.3 (log_at.given_so ∙ ap Some (sym upto))
              (subst (HoldsKept (with_log worker next h.s) worker) (sym o.5) (kept_on h.s worker next log.kept log_at.kept));
        }),
        o.6,
      )
