-- A checkpoint of a store that serves a life: how the slots change, and what is found at its end.
use Rattle.std.proofs.Common.{◌≡◌, ℕ, suc, ◌<◌, ◌≤◌, ◌^◌, Bool, true, false, cond, eqb, List, [], ◌∷◌, ◌++◌, map, length, Option, Some, None, Result, refl, sym, ap, subst, ◌∙◌, arith, inl, inr}
use Rattle.std.proofs.lemmas.{Bool.eqb-true, Bool.Decides.nat_tests, List.append-nil}
use Rattle.std.specs.{Prelude.{slice_get, slice_set}, Option.option_map, Ordering.{nat_cmp, is_eq}, FinMap.get}
use Rattle.mt_rows.specs.{Stamps.Stamped, Accounts.{Accounts, account_of, numbers_of}, TenantPairs.{quota_in, pairs_of}, declared.record.TenantPair.TenantPair, declared.record.Batch.Batch}
use Rattle.mt_rows.proofs.ContentLaws.{get-tenant_map}
use Rattle.mt_disk.specs.{declared.mem.MemDisk.MemDisk}
use Rattle.mt_checkpoint.specs.Checkpoints.{Walk, IsWalk}
use Rattle.mt_crashes.specs.{Histories.{map_upto, pairs_upto}, Bases.IsBase, SlotDisks.{slot_now, with_slot}, Stores.{Store, SlotNow}}
use Rattle.mt_crashes.proofs.{Members.no_some, Heart.walked, SlotDisks.{begins, ends, rests}}
use Rattle.mt_slots.specs.{declared.slot.Slot.Slot, declared.slot.Slot.TheVariants.{First, Second}}
use Rattle.mt_slots.specs.{Places.{at, with, in_order, number_of}, Keeps.{Mays}}
use Rattle.mt_store_logs.specs.declared.store_log.StoreLog.{StoreLog}
use Rattle.mt_pages.specs.{declared.walk.PageWalk.PageWalk, Walked.{Finds, OthersAreEmpty}}
use Rattle.mt_pages.proofs.Based.{walk_is, are_walked}
use Rattle.mt_chain_files.specs.Turns.{FilesNow}
use Rattle.mt_lives.specs.{declared.live_slots.LiveSlots.LiveSlots, Turning.{IsPart, Turning, part_of, IsTurning, StandsOnBase}}
use Rattle.mt_lives.specs.{declared.serving.Serving.Serving, Lives.{Life, Past, Standing, checking}, Checks.{LiveSlotsStand}}
use Rattle.mt_lives.specs.Holds.{LeadsTo, HoldsKept, IsLogAt, EachLog, HoldsServing, HoldsNow, KeepsAll, Holds}
use Rattle.mt_lives.proofs.{Comes.{set_there, set_twice, stays_here, one_more, comes_on}, Flushing.within, Logged.{all_on, settles_on}}
use Rattle.mt_lives.proofs.{Noting.{life_served, lives_so, held}, SlotReading.with_slots}

-- ---- other slots of a store that serves

module _ (accounts : Accounts) (slots : LiveSlots) (standing : Standing) (logs : List (StoreLog MemDisk)) (serving : Serving) (h : Holds accounts slots standing logs (Some serving)) where
  -- how far its turn is, and on what base
  pub base_now : (h.turning.starts ≤ h.s.steps) × IsTurning h.from h.turning slots h.s
  base_now = subst (λ (n : Result Life Past). StandsOnBase n h.from h.turning slots h.s) (lives_so accounts slots standing logs serving h) h.base

  -- each worker's files have their part of this turn too
  abbrev pub HaveParts : Turning → Type 0
  HaveParts turning = (worker : ℕ) (files : FilesNow) → worker < length h.s.logs → IsPart h.from (part_of h.turning worker) files → IsPart h.from (part_of turning worker) files

  pub parts_stay : HaveParts h.turning
  parts_stay worker files among part = part

  -- so the logs stand in it, with whatever slots
  each_on : (turning : Turning) (shown : List SlotNow) → HaveParts turning
      → EachLog (λ worker. IsLogAt h.from (part_of turning worker) (with_slots shown h.s) serving.state.logs worker) (with_slots shown h.s) logs
  each_on turning shown parts worker now log is_now is_log =
      let a = (held accounts slots standing logs serving h).each worker now log is_now is_log in
      record {
        files = a.files;
        stands = a.stands;
        begins = parts worker a.files (within h.s.logs worker now is_now) a.begins;
        given_so = a.given_so;
        kept = kept_on worker log.kept a.kept;
      }
    where
      kept_on : (worker : ℕ) (kept : Option Batch) → HoldsKept h.s worker kept → HoldsKept (with_slots shown h.s) worker kept
      kept_on worker None k = k
      kept_on worker (Some b) k = record { made = k.made; records = k.records }

  -- all of it holds with other slots, to which things led, and with another turn
  pub holds_with : (turning : Turning) → HaveParts turning → (shown : List SlotNow) (check : Option ℕ) (now : LiveSlots) → LeadsTo h.s (with_slots shown h.s) → turning.starts ≤ h.s.steps
      → IsTurning h.from turning now (with_slots shown h.s) → LiveSlotsStand accounts check standing.now shown h.s.history h.s.steps now
      → Holds accounts now (checking check standing) logs (Some serving)
  holds_with turning parts shown check now leads starts base stand =
      let s = h.s in
      let t = with_slots shown s in
      let count = length logs in
      let life = life_served accounts slots standing logs serving h in
      let was = held accounts slots standing logs serving h in
      let holds_now : HoldsServing h.from turning accounts standing.begun life t logs serving = record {
        serves = record {
          serving = was.serves.serving;
          steps = was.serves.steps;
          logs = was.serves.logs;
          gone = was.serves.gone;
          history = was.serves.history;
          tenants = was.serves.tenants;
          right = was.serves.right;
          floor = was.serves.floor;
          given_up = was.serves.given_up;
          workers = was.serves.workers;
          starts = was.serves.starts;
          before = was.serves.before;
          ended = was.serves.ended;
          holds = was.serves.holds;
          pairs = was.serves.pairs;
          reach = all_on count life.base s t h.some h.few h.come leads was.serves.reach;
        };
        by_id = was.by_id;
        each = each_on turning shown parts;
        turns_to = was.turns_to;
        settles = settles_on count s t h.some h.few h.come leads (omega arith) refl standing.begun serving.settles was.settles;
      } in
      record {
        s = t;
        from = h.from;
        turning = turning;
        some = h.some;
        few = h.few;
        come = comes_on count s t h.come leads;
        count = h.count;
        stand = stand;
        base = subst (λ (n : Result Life Past). StandsOnBase n h.from turning now t) (sym (lives_so accounts slots standing logs serving h)) (starts, base);
        settled = all_on count standing.settled s t h.some h.few h.come leads h.settled;
        keeps = h.keeps;
        now = subst (λ (n : Result Life Past). HoldsNow h.from turning accounts standing.begun n t logs (Some serving)) (sym (lives_so accounts slots standing logs serving h)) holds_now;
      }

  -- or with what the same slots stand by
  pub holds_same : (turning : Turning) → HaveParts turning → (check : Option ℕ) (now : LiveSlots) → turning.starts ≤ h.s.steps → IsTurning h.from turning now h.s
      → LiveSlotsStand accounts check standing.now h.s.slots h.s.history h.s.steps now → Holds accounts now (checking check standing) logs (Some serving)
  holds_same turning parts check now starts base stand = holds_with turning parts h.s.slots check now (stays_here h.s h.s refl) starts base stand

-- ---- one slot

-- what a slot may have stands at its place
there : (shown : List SlotNow) (mays : Mays) (slot : Slot) → shown ≡ map slot_now (in_order mays) → slice_get shown (number_of slot) ≡ Some (slot_now (at slot mays))
there shown mays First e = ap (λ ss. slice_get ss 0) e
there shown mays Second e = ap (λ ss. slice_get ss 1) e

set_one : (shown : List SlotNow) (mays : Mays) (slot : Slot) (may : List (Option Walk)) → shown ≡ map slot_now (in_order mays)
    → slice_set shown (number_of slot) (slot_now may) ≡ map slot_now (in_order (with slot may mays))
set_one shown mays First may e = ap (λ ss. slice_set ss 0 (slot_now may)) e
set_one shown mays Second may e = ap (λ ss. slice_set ss 1 (slot_now may)) e

module _ (s : Store) (mays : Mays) (slot : Slot) (shown : s.slots ≡ map slot_now (in_order mays)) (serving : s.serving ≡ true) where
  -- both slots, of which this one may have these
  abbrev pub shown_with : List (Option Walk) → List SlotNow
  shown_with may = map slot_now (in_order (with slot may mays))

  to_these : (may : List (Option Walk)) → LeadsTo s (with_slot (number_of slot) (slot_now may) s) → LeadsTo s (with_slots (shown_with may) s)
  to_these may leads = subst (λ ss. LeadsTo s (with_slots ss s)) (set_one s.slots mays slot may shown) leads

  -- a checkpoint is begun
  pub begins_in : LeadsTo s (with_slots (shown_with (None ∷ at slot mays)) s)
  begins_in = to_these (None ∷ at slot mays)
      (one_more s s _ (stays_here s s refl) (begins s (number_of slot) (at slot mays) (there s.slots mays slot shown) serving))

  module _ (w : Walk) (order : w.first ≤ w.last) (made : w.last ≤ s.steps) (base : IsBase w.first w.last s.history (pairs_of w.pairs)) where
    abbrev doubted : Store
    doubted = with_slot (number_of slot) (slot_now (None ∷ Some w ∷ [])) s

    in_doubt : LeadsTo s doubted
    in_doubt = one_more s s doubted (stays_here s s refl) (ends s (number_of slot) (at slot mays) (there s.slots mays slot shown) w serving order made base)

    -- it is ended, or not
    pub ends_in_doubt : LeadsTo s (with_slots (shown_with (None ∷ Some w ∷ [])) s)
    ends_in_doubt = to_these (None ∷ Some w ∷ []) in_doubt

    -- it is ended
    pub ends_in : LeadsTo s (with_slots (shown_with (Some w ∷ [])) s)
    ends_in =
        let now = slot_now (Some w ∷ []) in
        let both = slot_now (None ∷ Some w ∷ []) in
        let k = number_of slot in
        to_these (Some w ∷ [])
        (subst (λ ss. LeadsTo s (with_slots ss s)) (set_twice s.slots k both now)
        (one_more s doubted (with_slot k now doubted) in_doubt
        (rests doubted k (None ∷ Some w ∷ []) (set_there s.slots k (slot_now (at slot mays)) both (there s.slots mays slot shown)) (Some w) (inr (inl refl)))))

-- ---- what a walk has found at its end

-- a tenant that has no number has no account
same_number : (t k : ℕ) → is_eq (nat_cmp t k) ≡ eqb k t
same_number t k = grind (arith, nat_tests)

no_account : (accounts : Accounts) (t : ℕ) → ((k : ℕ) → slice_get (numbers_of accounts) k ≡ Some t → ⊥) → account_of accounts t ≡ None
no_account [] t none = refl
no_account (e ∷ accounts) t none = by (eqb e.0 t) refl (no_account accounts t (λ k here. none (suc k) here))
  where
    by : (b : Bool) → eqb e.0 t ≡ b → account_of accounts t ≡ None → account_of (e ∷ accounts) t ≡ None
    by true is rest = absurd (none 0 (ap Some (eqb-true e.0 t is)))
    by false other rest = ap (λ b. cond b (Some e.1) (account_of accounts t)) (same_number t e.0 ∙ other) ∙ rest

-- so it has no pairs
pub others_empty : (accounts : Accounts) (s : Store) (tenants : List ℕ) → KeepsAll accounts s → tenants ≡ numbers_of accounts → OthersAreEmpty s.history tenants
others_empty accounts s tenants keeps all t none m key = by (get (pairs_upto m s.history) (t, key)) refl
  where
    no_quota : quota_in accounts t ≡ None
    no_quota = ap (option_map (λ (a : Rattle.mt_rows.specs.declared.tenants.Account.Account). a.quota))
        (no_account accounts t (λ k here. none k (ap (λ ts. slice_get ts k) all ∙ here)))

    by : (row : Option Stamped) → get (pairs_upto m s.history) (t, key) ≡ row → get (map_upto m s.history t) key ≡ None
    by None is = get-tenant_map t (pairs_upto m s.history) key ∙ is
    by (Some row) is = absurd ((keeps m).0 (t, key) (λ e. no_some row (sym e ∙ is)) no_quota)

module _ (accounts : Accounts) (slots : LiveSlots) (standing : Standing) (logs : List (StoreLog MemDisk)) (serving : Serving) (h : Holds accounts slots standing logs (Some serving)) where
  pub serves_so : h.s.serving ≡ true
  serves_so = (held accounts slots standing logs serving h).serves.serving

  module _ (first : ℕ) (walk : PageWalk) (pairs : List TenantPair) (found : Finds h.s.history first h.s.steps walk (pairs ++ []))
      (none : slice_get walk.tenants.items walk.place ≡ None) (all : walk.tenants.items ≡ numbers_of accounts) where
    abbrev pub walk_found : Walk
    walk_found = record { first = first; last = h.s.steps; pairs = pairs }

    found_so : Finds h.s.history first h.s.steps walk pairs
    found_so = subst (λ ps. Finds h.s.history first h.s.steps walk ps) (append-nil pairs) found

    pub is_walk : h.s.steps ≤ 2 ^ 59 → IsWalk walk_found
    is_walk most = walk_is h.s.history first h.s.steps walk.tenants.items walk.place walk.from walk.after pairs found_so most

    pub is_base : IsBase first h.s.steps h.s.history (pairs_of pairs)
    is_base =
        walked (length logs) h.come.0 first h.s.steps 64 h.s (pairs_of pairs) h.some h.few h.come.1 found.made
        (are_walked h.s.history first h.s.steps walk.tenants.items walk.place walk.from walk.after pairs found_so none
        (others_empty accounts h.s walk.tenants.items h.keeps all))
