-- A checkpoint was written or given up over a desk. If the desk holds to something in the end, and did before each period after which it does, it did all the time.
use Rattle.std.proofs.Common.{◌≡◌, inl, inr, ℕ, Bool, List, [], ◌∷◌, Result, Ok, Err, subst}
use Rattle.mt_rows.specs.{declared.record.TenantPair.TenantPair, declared.refusal.Refusal.Refusal}
use Rattle.mt_disk.specs.Disk.{DiskState}
use Rattle.mt_runs.specs.declared.event.Answer.{Answer}
use Rattle.mt_book.specs.{declared.calls.CallFault.CallFault, Periods.{Looked, Period, Chain}, Calls.{Asked, Calls}}
use Rattle.mt_pages.specs.declared.walk.PageWalk.{PageWalk}
use Rattle.mt_slots.specs.{declared.store_slots.StoreSlots.StoreSlots, declared.checkpointing.Checkpointing.Checkpointing}
use Rattle.mt_stored.specs.{declared.checkpoints.CheckpointStop.CheckpointStop, Digests.{FileDigest, DigestCall}, TurnParts.{WritesAndKeeps, WritesSlot, StopsSlot}}
use Rattle.mt_stored.specs.Checkpoints.{Scanner, Looks, Scans, Shows, ShowsNone, AddsPages, NoPage, OnePage, StopsAdding, WritesCheckpoint, GivesUp}
use Rattle.mt_stored.specs.{declared.turns.TurnStop.TurnStop, declared.turns.TurnStop.TheVariants.{Checkpoint, Digest, Logs}, declared.digests.Digested.TheVariants.{OfLogs, OfSlot}}
use Rattle.mt_service.specs.Sessions.{Within}

module _ {S : Type 0} (does : S → Period → S → Type 0) (Front : S → Type 0) (before : (old : S) (p : Period) (new : S) → does old p new → Front new → Front old) where
  abbrev Inside : S → Period → S → Type 0
  Inside = Within Front does

  same_desk : (old new : Scanner S) → new ≡ old → Front new.desk → Front old.desk
  same_desk old new is front = subst (λ (s : Scanner S). Front s.desk) is front

  chain_inside : (old : S) (ps : List Period) (new : S) → Chain does old ps new → Front new → Chain Inside old ps new × Front old
  chain_inside old [] new c front = (c, subst Front c front)
  chain_inside old (p ∷ ps) new c front =
      let later = chain_inside c.0 ps new c.2 front in
      ((c.0, (c.1, later.1), later.0), before old p c.0 c.1 later.1)

  calls_inside : (old new : S) (seen : ℕ) (asked : Asked) (result : Result Answer CallFault) → Calls does old new seen asked result → Front new
      → Calls Inside old new seen asked result × Front old
  calls_inside old new seen asked result c front =
      let chain = chain_inside old c.periods new c.chain front in
      (record { periods = c.periods; chain = chain.0; tells = c.tells }, chain.1)

  module _ (worker : ℕ) where
    pub looks_inside : (old : Scanner S) (steps : ℕ) (new : Scanner S) → Looks does worker old steps new → Front new.desk → Looks Inside worker old steps new × Front old.desk
    looks_inside old steps new l front = (
      record { logs = l.logs; looked = (l.looked, front); same = l.same },
      before old.desk (record { steps = steps; deed = Looked l.logs }) new.desk l.looked front,
    )

    scans_inside : (old : Scanner S) (walk : PageWalk) (told : Result Answer CallFault) (new : Scanner S) → Scans does worker old walk told new → Front new.desk
        → Scans Inside worker old walk told new × Front old.desk
    scans_inside old walk told new s front =
        let calls = calls_inside old.desk new.desk old.seen _ told s.calls front in
        (record { tenant = s.tenant; command = s.command; next = s.next; calls = calls.0; seen = s.seen; counted = s.counted }, calls.1)

    shows_inside : (old : Scanner S) (walk : PageWalk) (pairs : List TenantPair) (new : Scanner S) (on : PageWalk) → Shows does worker old walk pairs new on → Front new.desk
        → Shows Inside worker old walk pairs new on × Front old.desk
    shows_inside old walk pairs new on s front =
        let scans = scans_inside old walk (Ok s.answer) new s.scans front in
        (record { answer = s.answer; page = s.page; scans = scans.0; shown = s.shown; takes = s.takes }, scans.1)

    none_inside : (old : Scanner S) (walk : PageWalk) (refusal : Refusal) (new : Scanner S) → ShowsNone does worker old walk refusal new → Front new.desk
        → ShowsNone Inside worker old walk refusal new × Front old.desk
    none_inside old walk refusal new (inl (memory, same)) front = (inl (memory, same), same_desk old new same front)
    none_inside old walk refusal new (inr (told, scans, cause)) front =
        let here = scans_inside old walk told new scans front in
        (inr (told, here.0, cause), here.1)

    module _ {D : Type 0} (is_honest : D → Bool) (state : D → DiskState) (failures : D → ℕ) where
      pages_inside : {old new : Scanner S} {start walk : PageWalk} {begun writing : Checkpointing D} {pairs : List TenantPair}
          → AddsPages does worker is_honest state failures old start begun pairs new walk writing → Front new.desk
          → AddsPages Inside worker is_honest state failures old start begun pairs new walk writing × Front old.desk
      pages_inside NoPage front = (NoPage, front)
      pages_inside (OnePage adds shows more) front =
          let here = shows_inside _ _ _ _ _ shows front in
          let earlier = pages_inside adds here.1 in
          (OnePage earlier.0 here.0 more, earlier.1)

      stops_inside : (old : Scanner S) (start : PageWalk) (begun : Checkpointing D) (stop : CheckpointStop) (new : Scanner S) (left : StoreSlots D)
          → StopsAdding does worker is_honest state failures old start begun stop new left → Front new.desk
          → StopsAdding Inside worker is_honest state failures old start begun stop new left × Front old.desk
      stops_inside old start begun stop new left (inl s) front =
          let none = none_inside s.at s.walk s.refusal new s.none front in
          let adds = pages_inside s.adds none.1 in (
            inl (record {
              pairs = s.pairs;
              at = s.at;
              walk = s.walk;
              writing = s.writing;
              refusal = s.refusal;
              adds = adds.0;
              none = none.0;
              gives_up = s.gives_up;
              cause = s.cause;
            }),
            adds.1,
          )
      stops_inside old start begun stop new left (inr s) front =
          let shows = shows_inside s.at s.walk s.page new s.on s.shows front in
          let adds = pages_inside s.adds shows.1 in (
            inr (record {
              pairs = s.pairs;
              page = s.page;
              at = s.at;
              walk = s.walk;
              on = s.on;
              writing = s.writing;
              fault = s.fault;
              adds = adds.0;
              shows = shows.0;
              fails = s.fails;
              cause = s.cause;
            }),
            adds.1,
          )

      checkpoint_inside : (old : Scanner S) (tenants : List ℕ) (slots : StoreSlots D) (digest : FileDigest) (new : Scanner S) (left : StoreSlots D)
          → WritesCheckpoint does worker is_honest state failures old tenants slots digest new left → Front new.desk
          → WritesCheckpoint Inside worker is_honest state failures old tenants slots digest new left × Front old.desk
      checkpoint_inside old tenants slots digest new left w front =
          let last = looks_inside w.shown w.last new w.last_is front in
          let adds = pages_inside w.adds.1 last.1 in
          let first = looks_inside old w.first w.looked w.begins.first_is adds.1 in (
            record {
              first = w.first;
              last = w.last;
              looked = w.looked;
              shown = w.shown;
              start = w.start;
              walk = w.walk;
              begun = w.begun;
              writing = w.writing;
              begins = record { first_is = first.0; begins = w.begins.begins; starts = w.begins.starts };
              adds = (w.adds.0, adds.0, w.adds.2);
              last_is = last.0;
              ends = w.ends;
              told = w.told;
            },
            first.1,
          )

      gives_up_inside : (old : Scanner S) (tenants : List ℕ) (slots : StoreSlots D) (stop : CheckpointStop) (new : Scanner S) (left : StoreSlots D)
          → GivesUp does worker is_honest state failures old tenants slots stop new left → Front new.desk
          → GivesUp Inside worker is_honest state failures old tenants slots stop new left × Front old.desk
      gives_up_inside old tenants slots stop new left (inl s) front =
          let first = looks_inside old s.first new s.first_is front in
          (inl (record { first = s.first; fault = s.fault; first_is = first.0; fails = s.fails; slot = s.slot; cause = s.cause }), first.1)
      gives_up_inside old tenants slots stop new left (inr (inl s)) front =
          let stops = stops_inside s.looked s.start s.begun stop new left s.stops front in
          let first = looks_inside old s.first s.looked s.begins.first_is stops.1 in (
            inr (inl (record {
              first = s.first;
              looked = s.looked;
              start = s.start;
              begun = s.begun;
              begins = record { first_is = first.0; begins = s.begins.begins; starts = s.begins.starts };
              stops = stops.0;
            })),
            first.1,
          )
      gives_up_inside old tenants slots stop new left (inr (inr s)) front =
          let last = looks_inside s.shown s.last new s.last_is front in
          let adds = pages_inside s.adds.1 last.1 in
          let first = looks_inside old s.first s.looked s.begins.first_is adds.1 in (
            inr (inr (record {
              first = s.first;
              last = s.last;
              looked = s.looked;
              shown = s.shown;
              start = s.start;
              walk = s.walk;
              begun = s.begun;
              writing = s.writing;
              fault = s.fault;
              begins = record { first_is = first.0; begins = s.begins.begins; starts = s.begins.starts };
              adds = (s.adds.0, adds.0, s.adds.2);
              last_is = last.0;
              fails = s.fails;
              cause = s.cause;
            })),
            first.1,
          )

      module _ {G : Type 0} (calls : G → DigestCall → G → Type 0) (tenants : List ℕ) where
        keeps_inside : (told : Result (Unit {0}) Refusal) (old : Scanner S) (slots : StoreSlots D) (new : Scanner S) (left : StoreSlots D) (is cleared : G)
            → WritesAndKeeps does worker is_honest state failures calls tenants told old slots new left is cleared → Front new.desk
            → WritesAndKeeps Inside worker is_honest state failures calls tenants told old slots new left is cleared × Front old.desk
        keeps_inside told old slots new left is cleared (digest, writes, keeps) front =
            let here = checkpoint_inside old tenants slots digest new left writes front in
            ((digest, here.0, keeps), here.1)

        pub slot_inside : (old : Scanner S) (slots : StoreSlots D) (was : G) (new : Scanner S) (left : StoreSlots D) (is : G)
            → WritesSlot does worker is_honest state failures calls tenants old slots was new left is → Front new.desk
            → WritesSlot Inside worker is_honest state failures calls tenants old slots was new left is × Front old.desk
        slot_inside old slots was new left is w front =
            let then = keeps_inside (Ok tt) old slots new left is w.cleared w.then front in
            (record { cleared = w.cleared; clears = w.clears; then = then.0 }, then.1)

        pub stops_slot_inside : (stop : TurnStop) (old : Scanner S) (slots : StoreSlots D) (was : G) (new : Scanner S) (left : StoreSlots D) (is : G)
            → StopsSlot does worker is_honest state failures calls tenants stop old slots was new left is → Front new.desk
            → StopsSlot Inside worker is_honest state failures calls tenants stop old slots was new left is × Front old.desk
        stops_slot_inside (Checkpoint stop) old slots was new left is w front =
            let here = gives_up_inside old tenants slots stop new left w.then.0 front in
            (record { cleared = w.cleared; clears = w.clears; then = (here.0, w.then.1) }, here.1)
        stops_slot_inside (Digest (OfSlot slot) refusal) old slots was new left is (at, inl (clears, same, kept)) front =
            ((at, inl (clears, same, kept)), same_desk old new same front)
        stops_slot_inside (Digest (OfSlot slot) refusal) old slots was new left is (at, inr w) front =
            let then = keeps_inside (Err refusal) old slots new left is w.cleared w.then front in
            ((at, inr (record { cleared = w.cleared; clears = w.clears; then = then.0 })), then.1)
        stops_slot_inside (Digest (OfLogs g) refusal) old slots was new left is w front = absurd w
        stops_slot_inside (Logs refusal) old slots was new left is w front = absurd w
