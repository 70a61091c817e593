-- A turner's desk and logs held to something in all that it did, if they do in the end, and did before each period and turn after which they do.
use Rattle.std.{proofs.Common.{inl, inr, ℕ, Bool, List, [], ◌∷◌, Result, Ok, Err, ap, sym, subst}, specs.List.FoldsTo}
use Rattle.mt_disk.specs.Disk.{DiskState}
use Rattle.mt_book.specs.Periods.{Period}
use Rattle.mt_options.specs.declared.tenants.TenantQuota.{TenantQuota}
use Rattle.mt_slots.specs.declared.store_slots.StoreSlots.{StoreSlots}
use Rattle.mt_settle.specs.Turns.{Turn}
use Rattle.mt_stored.specs.{declared.checks.DueTurn.DueTurn, declared.turns.TurnStop.TurnStop, Checkpoints.Scanner, Digests.DigestCall, WholeTurns.{Parts, parts, WritesAnd, StopsTurn}}
use Rattle.mt_service.specs.{Sessions.Within, Turning.{Turning, ComesTo, BeginsNoTurn, MakesTurn, TellsTurn, SettlesByClock}}
use Rattle.mt_service.specs.Turners.{TurnerDeed, BySettling, ByTurn, DoesDeed, Leaves}
use Rattle.mt_service.proofs.{ScansInside.{looks_inside, slot_inside, stops_slot_inside}, LogsInside.{settles_inside, owed_inside, unready_inside, begins_inside, stops_beginning_inside, ends_inside}}

module _ {S K D G : Type 0} (does : S → Period → S → Type 0) (is_honest : D → Bool) (state : D → DiskState) (failures : D → ℕ) (keeps : K → Turn → K → Type 0) (calls : G → DigestCall → G → Type 0)
    (Front : S → Type 0) (before : (old : S) (p : Period) (new : S) → does old p new → Front new → Front old)
    (LogsFront : K → Type 0) (logs_before : (old : K) (turn : Turn) (new : K) → keeps old turn new → LogsFront new → LogsFront old) where
  abbrev Inside : S → Period → S → Type 0
  Inside = Within Front does

  abbrev LogsInside : K → Turn → K → Type 0
  LogsInside = Within LogsFront keeps

  -- ---- a turn, whole or stopped

  module _ (worker count generation : ℕ) (tenants : List ℕ) where
    writes_inside : (told : Result (Unit {0}) TurnStop) (old new : Parts K S D G) → WritesAnd keeps does worker is_honest state failures calls count generation tenants told old new
        → Front new.desk.desk → LogsFront new.logs
        → WritesAnd LogsInside Inside worker is_honest state failures calls count generation tenants told old new × Front old.desk.desk × LogsFront old.logs
    writes_inside told old new w front logs_front =
        let ends = ends_inside keeps LogsFront logs_before calls count generation new.slots.owed w.closed w.begun w.kept new.logs new.digests told w.ends logs_front in
        let begins = begins_inside keeps LogsFront logs_before calls count generation w.closed old.logs old.digests w.begun w.before w.begins ends.1 in
        let writes = slot_inside does Front before worker is_honest state failures calls tenants old.desk old.slots w.before new.desk new.slots w.kept w.writes front in (
          record {
            closed = w.closed;
            begun = w.begun;
            before = w.before;
            begins = begins.0;
            kept = w.kept;
            writes = writes.0;
            ends = ends.0;
          },
          writes.1,
          begins.1,
        )

    stops_inside : (stop : TurnStop) (old new : Parts K S D G) → StopsTurn keeps does worker is_honest state failures calls count generation tenants stop old new → Front new.desk.desk → LogsFront new.logs
        → StopsTurn LogsInside Inside worker is_honest state failures calls count generation tenants stop old new × Front old.desk.desk × LogsFront old.logs
    stops_inside stop old new (inl s) front logs_front =
        let begins = stops_beginning_inside keeps LogsFront logs_before calls count generation stop old.logs old.digests new.logs new.digests s.stops logs_front in
        (inl (record { stops = begins.0; same = s.same }), subst Front (ap (λ (p : Parts K S D G). p.desk.desk) s.same) front, begins.1)
    stops_inside stop old new (inr (inl s)) front logs_front =
        let begins = begins_inside keeps LogsFront logs_before calls count generation s.closed old.logs old.digests new.logs s.before s.begins logs_front in
        let stops = stops_slot_inside does Front before worker is_honest state failures calls tenants stop old.desk old.slots s.before new.desk new.slots new.digests s.stops front in
        (inr (inl (record { closed = s.closed; before = s.before; begins = begins.0; stops = stops.0 })), stops.1, begins.1)
    stops_inside stop old new (inr (inr w)) front logs_front =
        let here = writes_inside (Err stop) old new w front logs_front in
        (inr (inr here.0), here.1, here.2)

  module _ (count : K → ℕ) (tenants : List TenantQuota) where
    comes_inside : (worker logs generation : ℕ) (numbers : List ℕ) (told : Result (StoreSlots D) (TurnStop × StoreSlots D)) (new : StoreSlots D → Parts K S D G) (old : Parts K S D G)
        → ComesTo does is_honest state failures keeps count calls tenants worker logs generation numbers told new old
        → ((left : StoreSlots D) → Front (new left).desk.desk) → ((left : StoreSlots D) → LogsFront (new left).logs)
        → ComesTo Inside is_honest state failures LogsInside count calls tenants worker logs generation numbers told new old × Front old.desk.desk × LogsFront old.logs
    comes_inside worker logs generation numbers (Ok left) new old c front logs_front = writes_inside worker logs generation numbers (Ok tt) old (new left) c (front left) (logs_front left)
    comes_inside worker logs generation numbers (Err told) new old c front logs_front = stops_inside worker logs generation numbers told.0 old (new told.1) c (front told.1) (logs_front told.1)

    -- ---- a deed

    makes_inside : (due : DueTurn D) (old : Turning S K G) (told : Result (StoreSlots D) (TurnStop × StoreSlots D)) (new : Turning S K G)
        → MakesTurn does is_honest state failures keeps count calls tenants due old told new → Front new.desk.desk → LogsFront new.logs
        → MakesTurn Inside is_honest state failures LogsInside count calls tenants due old told new × Front old.desk.desk × LogsFront old.logs
    makes_inside due old told new m front logs_front =
        let came = comes_inside old.worker (count m.mid) old.next m.numbers told (λ left. parts new.logs new.desk left new.digests) (parts m.mid old.desk due.slots old.digests) m.came (λ left. front) (λ left. logs_front) in
        let settles = owed_inside keeps LogsFront logs_before count due.settled due.slots.owed old.logs (Ok m.number) m.mid m.settles came.2 in (
          record {
            mid = m.mid;
            numbers = m.numbers;
            number = m.number;
            owed = m.owed;
            settles = settles.0;
            rising = m.rising;
            came = came.0;
            same = m.same;
          },
          came.1,
          settles.1,
        )

    begins_none : (due : DueTurn D) (old : Turning S K G) (told : TurnStop × StoreSlots D) (new : Turning S K G)
        → BeginsNoTurn does is_honest state failures keeps count calls tenants due old told new → Front new.desk.desk → LogsFront new.logs
        → BeginsNoTurn Inside is_honest state failures LogsInside count calls tenants due old told new × Front old.desk.desk × LogsFront old.logs
    begins_none due old told new (slots, same, (refusal, is, ready)) front logs_front =
        let here = unready_inside keeps LogsFront logs_before count tenants due.settled due.slots.owed old.logs refusal new.logs ready logs_front in
        ((slots, same, (refusal, is, here.0)), subst Front (ap (λ (t : Turning S K G). t.desk.desk) same) front, here.1)

    tells_inside : (due : DueTurn D) (old : Turning S K G) (told : Result (StoreSlots D) (TurnStop × StoreSlots D)) (new : Turning S K G)
        → TellsTurn does is_honest state failures keeps count calls tenants due old told new → Front new.desk.desk → LogsFront new.logs
        → TellsTurn Inside is_honest state failures LogsInside count calls tenants due old told new × Front old.desk.desk × LogsFront old.logs
    tells_inside due old (Ok left) new m front logs_front = makes_inside due old (Ok left) new m front logs_front
    tells_inside due old (Err told) new (inl none) front logs_front =
        let here = begins_none due old told new none front logs_front in
        (inl here.0, here.1, here.2)
    tells_inside due old (Err told) new (inr m) front logs_front =
        let here = makes_inside due old (Err told) new m front logs_front in
        (inr here.0, here.1, here.2)

    clock_inside : (old new : Turning S K G) → SettlesByClock does keeps count old new → Front new.desk.desk → LogsFront new.logs
        → SettlesByClock Inside LogsInside count old new × Front old.desk.desk × LogsFront old.logs
    clock_inside old new s front logs_front =
        let looks = looks_inside does Front before old.worker old.desk s.steps new.desk s.looked front in
        elim (s.settles) [
          | inl (few, same) ↦ (
            record { steps = s.steps; looked = looks.0; settles = inl (few, same) },
            looks.1,
            subst LogsFront (ap (λ (t : Turning S K G). t.logs) same) logs_front,
          )
          | inr (more, settled) ↦
              let settles = settles_inside keeps LogsFront logs_before (count old.logs) old.logs new.logs settled.0 settled.1 logs_front in
              (record { steps = s.steps; looked = looks.0; settles = inr (more, (settled.0, settles.0, settled.2)) }, looks.1, settles.1)
        ]

    deed_inside : (old : Turning S K G) (deed : TurnerDeed) (new : Turning S K G) → DoesDeed does is_honest state failures keeps count calls tenants old deed new → Front new.desk.desk → LogsFront new.logs
        → DoesDeed Inside is_honest state failures LogsInside count calls tenants old deed new × Front old.desk.desk × LogsFront old.logs
    deed_inside old BySettling new d front logs_front = clock_inside old new d front logs_front
    deed_inside old ByTurn new (due, told, tells) front logs_front =
        let here = tells_inside due old told new tells front logs_front in
        ((due, told, here.0), here.1, here.2)

    folds_inside : (old : Turning S K G) (deeds : List TurnerDeed) (new : Turning S K G) → FoldsTo (DoesDeed does is_honest state failures keeps count calls tenants) old deeds new
        → Front new.desk.desk → LogsFront new.logs
        → FoldsTo (DoesDeed Inside is_honest state failures LogsInside count calls tenants) old deeds new × Front old.desk.desk × LogsFront old.logs
    folds_inside old [] new is front logs_front =
        (is, subst (λ (t : Turning S K G). Front t.desk.desk) (sym is) front, subst (λ (t : Turning S K G). LogsFront t.logs) (sym is) logs_front)
    folds_inside old (deed ∷ deeds) new f front logs_front =
        let later = folds_inside f.0 deeds new f.2 front logs_front in
        let here = deed_inside old deed f.0 f.1 later.1 later.2 in
        ((f.0, here.0, later.0), here.1, here.2)

    -- all that led a turner to what is left of it
    pub leaves_inside : (old : Turning S K G) (desk : Scanner S) (logs : K) → Leaves does is_honest state failures keeps count calls tenants old desk logs → Front desk.desk → LogsFront logs
        → Leaves Inside is_honest state failures LogsInside count calls tenants old desk logs
    leaves_inside old desk logs l front logs_front =
        let works = folds_inside old l.works.0 l.last l.works.1 (subst (λ (s : Scanner S). Front s.desk) (sym l.desk_is) front) (subst LogsFront (sym l.logs_are) logs_front) in
        record { last = l.last; works = (l.works.0, works.0); desk_is = l.desk_is; logs_are = l.logs_are }
