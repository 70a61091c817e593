-- A Settle of a store that is owned alone is a Settle of the events.
use Rattle.std.proofs.Common.{◌≡◌, ◌≢◌, ◌⊎◌, ℕ, zero, suc, ◌+◌, ◌<◌, max, cond, List, [], ◌∷◌, ◌++◌, length, replicate, Option, Some, None, Result, Ok, Err, refl, sym, ap, subst, ◌∙◌, inl, inr, arith}
use Rattle.std.proofs.lemmas.Bool.{cases_eq, eq-eqb, ne_eqb}
use Rattle.std.specs.{Ordering.nat_cmp, BTreeMap.get}
use Rattle.mt_rows.specs.{Accounts.Accounts, declared.refusal.Refusal.Refusal}
use Rattle.mt_disk.specs.{declared.mem.MemDisk.MemDisk, Mem.mem_state}
use Rattle.mt_lives.specs.declared.live_slots.LiveSlots.{LiveSlots}
use Rattle.mt_runs.specs.Placings.{Quotas}
use Rattle.mt_state.specs.Views.{StateView}
use Rattle.mt_core.specs.Tickets.{named}
use Rattle.mt_crashes.{specs.Stores.AllReach, proofs.{Invariant.within_place, Members.no_some}}
use Rattle.mt_store_logs.specs.declared.store_log.StoreLog.{StoreLog}
use Rattle.mt_settle.specs.{Turns.BroughtUp, Settles.{turns_from, Settles}}
use Rattle.mt_stored.{specs.{declared.source.OwnState.OwnState, Stores.IsSettled}, proofs.StoreTurns.settled}
use Rattle.mt_lives.specs.{declared.events.StoreEvent.TheVariants.{SettleBegin, SettleNext}, declared.events.StoreNote.StoreNote}
use Rattle.mt_lives.specs.{declared.events.StoreNote.TheVariants.{Begun, Turned, Settled, Refused}, declared.serving.Serving.Serving}
use Rattle.mt_lives.specs.Lives.{Life, Standing, with_settle, settling, settled_by, steps_in, IsMemoryOrDevice, IsNoted, NotesLead}
use Rattle.mt_lives.specs.{Holds.{quotas_of, IsSettleIn, AreSettles, Holds}, Owned.{with_state, IsWholeSettle}, Turning.part_of}
use Rattle.mt_lives.proofs.{Served.last, Flushing.{keeps_rules, failures_of, within, rests_at_mark, stands_at}, TurnLogs.open_mark, Noting.{life_served, lives_so, held}}
use Rattle.mt_lives.proofs.{Settling.{reaches_both, resettled}, Owning.{Keeps, does, turn_keeps, turns_keep, last_turn, keeps_at_first}}

-- ---- what open logs reach

-- logs that go up to the last step reach it
settled_reach : (accounts : Accounts) (slots : LiveSlots) (standing : Standing) (logs : List (StoreLog MemDisk)) (serving : Serving) (h : Holds accounts slots standing logs (Some serving))
    → IsSettled serving.state logs → AllReach serving.state.steps h.s
settled_reach accounts slots standing logs serving h up worker now there =
    let log = within_place logs worker (subst (λ n. worker < n) h.count (within h.s.logs worker now there)) in
    let at = stands_at h.from (part_of h.turning worker) h.s serving.state.logs worker now log.0 ((held accounts slots standing logs serving h).each worker now log.0 there log.1) in
    let o = open_mark h.from (part_of h.turning worker) now log.0 serving.state.steps at (up worker log.0 log.1) in
    rests_at_mark now serving.state.steps o.0 (sym o.1)

-- ---- the notes

module _ (quotas : Quotas) (mid next : Standing) (id : ℕ) (note : StoreNote) (turned : IsNoted quotas mid (SettleNext id) Turned mid) (last : IsNoted quotas mid (SettleNext id) note next) where
  turns_lead : (turns : ℕ) → NotesLead quotas mid (replicate turns (SettleNext id, Turned) ++ (SettleNext id, note) ∷ []) next
  turns_lead zero = (next, last, refl)
  turns_lead (suc turns) = (mid, turned, turns_lead turns)

-- a Settle that began is open, and one that has ended is not
is_begun : (id : ℕ) (at : Option ℕ) (begun : ℕ → Option ℕ) → with_settle id at begun id ≡ at
is_begun id at begun = ap (λ t. cond t at (begun id)) (eq-eqb id id refl)

-- one that began and ended is as if it never was
none_again : (id : ℕ) (at : Option ℕ) (begun : ℕ → Option ℕ) → begun id ≡ None → (q : ℕ) → with_settle id None (with_settle id at begun) q ≡ begun q
none_again id at begun none q = by (cases_eq q id)
  where
    by : (q ≡ id) ⊎ (q ≢ id) → with_settle id None (with_settle id at begun) q ≡ begun q
    by (inl same) = ap (λ t. cond t None (cond t at (begun q))) (eq-eqb q id same) ∙ sym (ap begun same ∙ none)
    by (inr other) = ap (λ t. cond t None (cond t at (begun q))) (ne_eqb q id other)

-- ---- the store

module _ (accounts : Accounts) (slots : LiveSlots) (standing : Standing) (logs : List (StoreLog MemDisk)) (serving : Serving) (h : Holds accounts slots standing logs (Some serving))
    (id : ℕ) (none : standing.begun id ≡ None) where
  abbrev life : Life
  life = life_served accounts slots standing logs serving h

  abbrev steps : ℕ
  steps = serving.state.steps

  abbrev lives : standing.now ≡ Ok life
  lives = lives_so accounts slots standing logs serving h

  steps_so : steps_in life ≡ steps
  steps_so =
      let k = held accounts slots standing logs serving h in
      last accounts life h.s serving.state (named serving.roster.tickets) k.serves

  -- the Settle has begun
  abbrev mid : Standing
  mid = settling id (Some steps) standing

  begins : IsNoted (quotas_of accounts) standing (SettleBegin id) (Begun steps) mid
  begins = (life, lives, sym steps_so, none, refl)

  is_open : mid.begun id ≡ Some steps
  is_open = is_begun id (Some steps) standing.begun

  not_none : mid.begun id ≢ None
  not_none shut = no_some steps (sym shut ∙ is_open)

  goes : IsNoted (quotas_of accounts) mid (SettleNext id) Turned mid
  goes = ((life, lives), not_none, refl)

  ends_ok : (n : ℕ) → n ≡ steps → IsNoted (quotas_of accounts) mid (SettleNext id) (Settled n) (settled_by id n mid)
  ends_ok n same = (life, steps, lives, is_open, omega (arith, same), omega (arith, same, steps_so), refl)

  ends_err : (e : Refusal) → IsMemoryOrDevice e → IsNoted (quotas_of accounts) mid (SettleNext id) (Refused e) (settling id None mid)
  ends_err e why = ((life, lives), not_none, why, refl)

  -- and what the store holds behind it
  module _ (now_logs : List (StoreLog MemDisk)) (now : Serving) (k : Holds accounts slots standing now_logs (Some now)) where
    abbrev ended : ℕ → Option ℕ
    ended = with_settle id None (with_settle id (Some steps) standing.begun)

    as_before : AreSettles k.s ended now.settles
    as_before q =
        subst (λ at. IsSettleIn k.s at (get nat_cmp now.settles q)) (sym (none_again id (Some steps) standing.begun none q))
        ((held accounts slots standing now_logs now k).settles q)

    holds_ok : (n : ℕ) → AllReach n k.s → Holds accounts slots (settled_by id n mid) now_logs (Some now)
    holds_ok n all =
        resettled accounts slots standing now_logs now k now refl refl refl id ended (max standing.settled n)
        (λ worker. reaches_both standing.settled n worker k.s (k.settled worker) (all worker)) as_before

    holds_err : Holds accounts slots (settling id None mid) now_logs (Some now)
    holds_err = resettled accounts slots standing now_logs now k now refl refl refl id ended standing.settled k.settled as_before

-- one less
one_less : (n : ℕ) → 0 < n → (k : ℕ) × (k + 1 ≡ n)
one_less zero some = absurd (omega (arith, some))
one_less (suc k) some = (k, omega arith)

module _ (accounts : Accounts) (slots : LiveSlots) (standing : Standing) (serving : Serving) (id : ℕ) (none : standing.begun id ≡ None) {S : Type 0} (source : S → OwnState)
    (logs : S → List (StoreLog MemDisk)) (old new : S) (h : Holds accounts slots standing (logs old) (Some serving)) (same : (source old).state ≡ serving.state) where
  abbrev now : Serving
  now = with_state (source new).state serving

  abbrev count : ℕ
  count = length (logs old)

  abbrev steps_then : ℕ
  steps_then = (source old).state.steps

  abbrev Kept : S → Type 0
  Kept s = Keeps accounts slots standing serving count steps_then (source s) (logs s)

  first : Kept old
  first = keeps_at_first accounts slots standing serving (source old) (logs old) h same

  steps_same : steps_then ≡ serving.state.steps
  steps_same = ap (λ (v : StateView). v.steps) same

  abbrev Whole : Result ℕ Refusal → Type 0
  Whole r = IsWholeSettle accounts slots standing id serving.state.steps count r (logs new) now

  by_ok : (n : ℕ) → Settles (does source logs) count old new (Ok n) → Whole (Ok n)
  by_ok n s =
      let k : Kept new = turns_keep accounts slots standing serving count steps_then source logs 0 s.marks old new first s.turns in
      let up = settled keeps_rules mem_state failures_of source logs n count old new (omega arith) s in
      let turns = one_less count h.some in
      let number : n ≡ serving.state.steps = up.0 ∙ steps_same in
      let reach : AllReach (source new).state.steps k.holds.s = settled_reach accounts slots standing (logs new) now k.holds up.1 in
      let all : AllReach n k.holds.s = subst (λ m. AllReach m k.holds.s) (k.ready.made ∙ sym up.0) reach in
      let next = settled_by id n (mid accounts slots standing (logs old) serving h id none) in
      record {
        turns = turns.0;
        before = turns.1;
        next = next;
        lead = (
          mid accounts slots standing (logs old) serving h id none,
          begins accounts slots standing (logs old) serving h id none,
          turns_lead (quotas_of accounts) (mid accounts slots standing (logs old) serving h id none) next id (Settled n) (goes accounts slots standing (logs old) serving h id none)
              (ends_ok accounts slots standing (logs old) serving h id none n number) turns.0,
        );
        holds = holds_ok accounts slots standing (logs old) serving h id none (logs new) now k.holds n all;
      }

  by_err : (e : Refusal) → Settles (does source logs) count old new (Err e) → Whole (Err e)
  by_err e (inl no_logs) = absurd (let some = h.some in omega (arith, some, no_logs.0))
  by_err e (inr s) =
      let l = last_turn (does source logs) (turns_from 0 s.marks) (BroughtUp (length s.marks) (Err e)) old new s.turns in
      let k : Kept l.0 = turns_keep accounts slots standing serving count steps_then source logs 0 s.marks old l.0 first l.1 in
      let t = turn_keeps accounts slots standing serving count steps_then (length s.marks) (Err e) (source l.0) (logs l.0) (source new) (logs new) k l.2 in
      let next = settling id None (mid accounts slots standing (logs old) serving h id none) in
      record {
        turns = length s.marks;
        before = s.before;
        next = next;
        lead = (
          mid accounts slots standing (logs old) serving h id none,
          begins accounts slots standing (logs old) serving h id none,
          turns_lead (quotas_of accounts) (mid accounts slots standing (logs old) serving h id none) next id (Refused e) (goes accounts slots standing (logs old) serving h id none)
              (ends_err accounts slots standing (logs old) serving h id none e t.1) (length s.marks),
        );
        holds = holds_err accounts slots standing (logs old) serving h id none (logs new) now t.0.holds;
      }

  by_told : (told : Result ℕ Refusal) → Settles (does source logs) count old new told → Whole told
  by_told (Ok n) s = by_ok n s
  by_told (Err e) s = by_err e s

-- a Settle of whatever has a state and its logs
pub owned_settle : {S : Type 0} (old new : S) (source : S → OwnState) (logs : S → List (StoreLog MemDisk)) (count : ℕ) → count ≡ length (logs old)
    → (accounts : Accounts) (slots : LiveSlots) (standing : Standing) (serving : Serving) (id : ℕ) (told : Result ℕ Refusal) → Holds accounts slots standing (logs old) (Some serving)
    → (source old).state ≡ serving.state → standing.begun id ≡ None → Settles (does source logs) count old new told
    → IsWholeSettle accounts slots standing id (source old).state.steps count told (logs new) (with_state (source new).state serving)
owned_settle old new source logs count all accounts slots standing serving id told h same none s =
    let end = with_state (source new).state serving in
    subst (λ n. IsWholeSettle accounts slots standing id n count told (logs new) end) (sym (ap (λ (v : StateView). v.steps) same))
    (subst (λ n. IsWholeSettle accounts slots standing id serving.state.steps n told (logs new) end) (sym all)
    (by_told accounts slots standing serving id none source logs old new h same told (subst (λ n. Settles (does source logs) n old new told) all s)))
