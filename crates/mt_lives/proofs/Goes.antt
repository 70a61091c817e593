-- Where a store stands behind a flush, a reopening and a turn of a Settle.
use Rattle.std.proofs.Common.{◌≡◌, ◌⊎◌, ℕ, ◌+◌, ◌≤◌, List, length, Some, None, Result, Ok, Err, refl, sym, ap, subst, ◌∙◌, inl, inr, ⊎_elim, arith}
use Rattle.std.specs.{Prelude.{slice_get, slice_set}, Ordering.nat_cmp, BTreeMap.{get, Updates}}
use Rattle.mt_rows.specs.{Accounts.Accounts, declared.refusal.Refusal.Refusal}
use Rattle.mt_disk.specs.{declared.mem.MemDisk.MemDisk, Mem.mem_state}
use Rattle.mt_lives.specs.declared.live_slots.LiveSlots.{LiveSlots}
use Rattle.mt_crashes.specs.Stores.{ReachesAt}
use Rattle.mt_store_logs.specs.{declared.store_log.StoreLog.StoreLog, Turns.{ReopensLog, FailsToReopenLog}}
use Rattle.mt_lives.specs.{declared.events.StoreEvent.StoreEvent, declared.events.StoreEvent.TheVariants.{Flush, Reopen, SettleNext}}
use Rattle.mt_lives.specs.{declared.events.StoreNote.StoreNote, declared.events.StoreNote.TheVariants.{Flushed, Reopened, Turned, Settled, Refused}}
use Rattle.mt_lives.specs.{declared.serving.Serving.Serving, declared.serving.Settle.Settle, Serving.DrainsServing}
use Rattle.mt_lives.specs.{Lives.{Life, Past, Standing, IsServing, IsNoted, settling, steps_in}, Holds.{quotas_of, Holds}, Steps.Turns}
use Rattle.mt_lives.proofs.{Flushing.{keeps_rules, failures_of}, Noting.{life_served, lives_so}, Noted.{reopen_noted, reopen_fails}}
use Rattle.mt_lives.proofs.LogDrains.{Drains, FailsToDrainUpto, TurnsLog, FailsToTurn}
use Rattle.mt_lives.proofs.Draining as drains
use Rattle.mt_lives.proofs.Settling as settling_of

abbrev pub ok_life : Life → Result Life Past → Life
ok_life life (Ok other) = other
ok_life life (Err past) = life

-- ---- where it goes

module _ (accounts : Accounts) (slots : LiveSlots) (standing : Standing) (logs : List (StoreLog MemDisk)) (serving : Serving) (h : Holds accounts slots standing logs (Some serving)) where
  serves : IsServing standing
  serves = (life_served accounts slots standing logs serving h, lives_so accounts slots standing logs serving h)

  pub same_life : (now_logs : List (StoreLog MemDisk)) (now : Serving) (again : Holds accounts slots standing now_logs (Some now))
      → life_served accounts slots standing logs serving h ≡ life_served accounts slots standing now_logs now again
  same_life now_logs now again =
      ap (ok_life (life_served accounts slots standing logs serving h)) (sym (lives_so accounts slots standing logs serving h) ∙ lives_so accounts slots standing now_logs now again)

  abbrev pub Goes : StoreEvent → StoreNote → List (StoreLog MemDisk) → Serving → Type 0
  Goes event note now_logs now = (next : Standing) × IsNoted (quotas_of accounts) standing event note next × Holds accounts slots next now_logs (Some now)

  module _ (worker : ℕ) (log new : StoreLog MemDisk) (here : slice_get logs worker ≡ Some log) where
    pub reopen_goes : ReopensLog keeps_rules mem_state failures_of log new → Goes (Reopen worker) Reopened (slice_set logs worker new) serving
    reopen_goes r = (standing, (serves, refl), (reopen_noted accounts slots standing logs serving h worker log new here r).again)

    pub reopen_stops : (e : Refusal) → FailsToReopenLog keeps_rules mem_state failures_of e log new → Goes (Reopen worker) (Refused e) (slice_set logs worker new) serving
    reopen_stops e f =
        let r = reopen_fails accounts slots standing logs serving h worker log new here e f in
        (standing, (serves, r.1, refl), r.0.again)

    module _ (now : Serving) where
      pub flush_goes : (mark : ℕ) → Drains keeps_rules mem_state failures_of DrainsServing worker 0 mark log new serving now
          → Goes (Flush worker) (Flushed mark) (slice_set logs worker new) now
      flush_goes mark f =
          let r = drains.flush_noted accounts slots standing logs serving h worker log here 0 mark new now f in
          let life = life_served accounts slots standing logs serving h in
          let steps = drains.steps_so accounts slots standing logs serving h worker log here in
          let given : (mark ≡ steps_in life) ⊎ (life.base + 4096 ≤ mark) =
          ⊎_elim (λ all. inl (all ∙ sym steps))
          (λ (full : (other : Life) × (standing.now ≡ Ok other) × (other.base + 4096 ≤ mark)). inr (subst (λ (x : Life). x.base + 4096 ≤ mark)
          (ap (ok_life life) (sym full.1 ∙ lives_so accounts slots standing logs serving h)) full.2))
          r.given in
          let made = r.made in
          (standing, (life, lives_so accounts slots standing logs serving h, omega (arith, made, steps), given, refl), r.holds)

      pub flush_stops : (e : Refusal) → FailsToDrainUpto keeps_rules mem_state failures_of DrainsServing worker 0 e log new serving now
          → Goes (Flush worker) (Refused e) (slice_set logs worker new) now
      flush_stops e f =
          let r = drains.flush_fails accounts slots standing logs serving h worker log here 0 e new now f in
          (standing, (serves, r.memory, refl), r.holds)

      -- of a Settle
      module _ (id : ℕ) (settle : Settle) (there : get nat_cmp serving.settles id ≡ Some settle) (next : settle.next ≡ worker) (end : Serving) (state : end.state ≡ now.state)
          (roster : end.roster ≡ now.roster) (generation : end.generation ≡ now.generation) where
        now_there : now.settles ≡ serving.settles → get nat_cmp now.settles id ≡ Some settle
        now_there same = ap (λ m. get nat_cmp m id) same ∙ there

        pub settle_goes : (mark : ℕ) → TurnsLog keeps_rules mem_state failures_of DrainsServing worker serving.state.steps mark log new serving now
            → (note : StoreNote) → Turns (length (slice_set logs worker new)) id settle mark now.settles end.settles note → Goes (SettleNext id) note (slice_set logs worker new) end
        settle_goes mark f note t = by note t
          where
            r : drains.Flushed accounts slots standing worker logs serving (drains.there accounts slots standing logs serving h worker log here) serving.state.steps mark new now
            r = drains.turn_noted accounts slots standing logs serving h worker log here serving.state.steps mark new now f

            open_so : get nat_cmp now.settles id ≡ Some settle
            open_so = now_there r.settles

            at_last : mark ≡ steps_in (life_served accounts slots standing (slice_set logs worker new) now r.holds)
            at_last =
                let made = r.made in
                let reaches = r.reaches in
                let steps = drains.steps_so accounts slots standing logs serving h worker log here in
                let all : mark ≡ steps_in (life_served accounts slots standing logs serving h) = omega (arith, made, reaches, steps) in
                all ∙ ap steps_in (same_life (slice_set logs worker new) now r.holds)

            reach : ReachesAt mark r.holds.s settle.next
            reach = subst (λ w. ReachesAt mark r.holds.s w) (sym next) r.reach

            by : (note : StoreNote) → Turns (length (slice_set logs worker new)) id settle mark now.settles end.settles note → Goes (SettleNext id) note (slice_set logs worker new) end
            by Turned t = settling_of.turns accounts slots standing (slice_set logs worker new) now r.holds end state roster generation id settle open_so mark reach at_last t.0 t.1
            by (Settled number) t =
                subst (λ n. Goes (SettleNext id) (Settled n) (slice_set logs worker new) end) (sym t.1)
                (settling_of.settles accounts slots standing (slice_set logs worker new) now r.holds end state roster generation id settle open_so mark reach at_last t.0 t.2)
            by note t = absurd t

        pub settle_stops : (e : Refusal) → FailsToTurn keeps_rules mem_state failures_of DrainsServing worker serving.state.steps e log new serving now
            → Updates nat_cmp now.settles end.settles id None → Goes (SettleNext id) (Refused e) (slice_set logs worker new) end
        settle_stops e f u =
            let r = drains.turn_fails accounts slots standing logs serving h worker log here serving.state.steps e new now f in
            let open_so : get nat_cmp now.settles id ≡ Some settle = now_there r.settles in (
              settling id None standing,
              (serves, settling_of.is_open accounts slots standing (slice_set logs worker new) now r.holds end state roster generation id settle open_so, r.memory, refl),
              settling_of.ends accounts slots standing (slice_set logs worker new) now r.holds end state roster generation id settle open_so u,
            )
