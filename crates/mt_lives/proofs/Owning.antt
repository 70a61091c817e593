-- What turns of a store that is owned alone make of all that holds of a store.
use Rattle.std.proofs.Common.{◌≡◌, ℕ, zero, suc, ◌+◌, ◌<◌, List, [], ◌∷◌, ◌++◌, length, Some, Result, Ok, Err, refl, sym, ap, subst, ◌∙◌, inl, inr}
use Rattle.std.proofs.lemmas.List.{length-set}
use Rattle.std.specs.Prelude.{IfErr}
use Rattle.mt_rows.specs.{Accounts.Accounts, declared.record.Batch.Batch, declared.refusal.Refusal.Refusal}
use Rattle.mt_disk.specs.{declared.mem.MemDisk.MemDisk, Mem.mem_state}
use Rattle.mt_lives.specs.declared.live_slots.LiveSlots.{LiveSlots}
use Rattle.mt_batches.specs.Batches.{IsBounded}
use Rattle.mt_state.specs.Views.{StateView}
use Rattle.mt_core.specs.Rights.{IsRightState}
use Rattle.mt_store_logs.specs.{declared.store_log.StoreLog.StoreLog, Places.worker_of, LogTurns.{BringsUp, FailsToBringUp}}
use Rattle.mt_settle.specs.{Turns.{Turn, BroughtUp, Chain}, Settles.turns_from}
use Rattle.mt_stored.specs.{declared.source.OwnState.OwnState, Stores.{gives_own, DoesStore}}
use Rattle.mt_lives.specs.{declared.serving.Serving.Serving, Serving.DrainsServing, Lives.{Standing, IsMemoryOrDevice}, Holds.Holds, Owned.with_state}
use Rattle.mt_lives.proofs.{Righted.right_drained, Flushing.{keeps_rules, failures_of, within}, Noting.held}
use Rattle.mt_lives.proofs.LogDrains.{DrainsLog, FailsToDrainLog, DrainsLogShort, Drains, FailsToDrainUpto, TurnsLog, FailsToTurn, log_turns, log_not_turned}
use Rattle.mt_lives.proofs.Draining as drains

-- a state is right, has so many logs, and has made so many steps
pub record IsReady (count steps : ℕ) (s : OwnState) : Type 0 where
  pub right : IsRightState s.state
  pub logs : length s.state.logs ≡ count
  pub made : s.state.steps ≡ steps

-- ---- what a turn does to a state that is owned alone, it does to what serves by that state

module _ (serving : Serving) (count steps worker : ℕ) (there : worker < count) where
  abbrev by_state : OwnState → Serving
  by_state s = with_state s.state serving

  drained : (was is : OwnState) (batch : Batch) → IsReady count steps was → IsBounded batch → gives_own was is worker batch
      → DrainsServing (by_state was) (by_state is) worker batch × IsReady count steps is
  drained was is batch r b d =
      let right = right_drained was.state is.state worker batch r.right (subst (λ n. worker < n) (sym r.logs) there) b.in_order.order d in (
        record { state = d; right = right; roster = refl; settles = refl; generation = refl },
        record {
          right = right;
          logs = ap (λ (v : StateView). length v.logs) d.stands ∙ length-set was.state.logs worker batch.to ∙ r.logs;
          made = ap (λ (v : StateView). v.steps) d.stands ∙ r.made;
        },
      )

  pub drains_in : (upto mark : ℕ) (log new : StoreLog MemDisk) (was is : OwnState) → IsReady count steps was
      → DrainsLog keeps_rules mem_state failures_of gives_own worker upto mark log new was is
      → DrainsLog keeps_rules mem_state failures_of DrainsServing worker upto mark log new (by_state was) (by_state is) × IsReady count steps is
  drains_in upto mark log new was is r d =
      let g = drained was is d.batch r d.bounded d.given in
      (record { batch = d.batch; given = g.0; bounded = d.bounded; brings = d.brings; appended = d.appended; told = d.told }, g.1)

  drains_short : (n upto : ℕ) (log new : StoreLog MemDisk) (was is : OwnState) → IsReady count steps was
      → DrainsLogShort keeps_rules mem_state failures_of gives_own worker n upto log new was is
      → DrainsLogShort keeps_rules mem_state failures_of DrainsServing worker n upto log new (by_state was) (by_state is) × IsReady count steps is
  drains_short zero upto log new was is r s = ((s.0, ap by_state s.1), subst (IsReady count steps) (sym s.1) r)
  drains_short (suc n) upto log new was is r (mark, mid, between, rest, d, less) =
      let a = drains_short n upto log mid was between r rest in
      let b = drains_in upto mark mid new between is a.1 d in
      ((mark, mid, by_state between, a.0, b.0, less), b.1)

  fails_to_drain : (e : Refusal) (log new : StoreLog MemDisk) (was is : OwnState) → IsReady count steps was
      → FailsToDrainLog keeps_rules mem_state failures_of gives_own worker e log new was is
      → FailsToDrainLog keeps_rules mem_state failures_of DrainsServing worker e log new (by_state was) (by_state is) × IsReady count steps is
  fails_to_drain e log new was is r (inl none) =
      (inl (record { same_log = none.same_log; same = ap by_state none.same; told = none.told }), subst (IsReady count steps) (sym none.same) r)
  fails_to_drain e log new was is r (inr keeps) =
      let g = drained was is keeps.batch r keeps.bounded keeps.given in
      (inr (record { batch = keeps.batch; given = g.0; bounded = keeps.bounded; fails = keeps.fails }), g.1)

  flushes : (upto mark : ℕ) (log new : StoreLog MemDisk) (was is : OwnState) → IsReady count steps was
      → Drains keeps_rules mem_state failures_of gives_own worker upto mark log new was is
      → Drains keeps_rules mem_state failures_of DrainsServing worker upto mark log new (by_state was) (by_state is) × IsReady count steps is
  flushes upto mark log new was is r f =
      let h = f.drains in
      let a = drains_short h.times upto f.first h.mid was h.between r h.short in
      let b = drains_in upto mark h.mid new h.between is a.1 h.last in (
        record {
          first = f.first;
          kept = f.kept;
          drains = record { times = h.times; mid = h.mid; between = by_state h.between; short = a.0; last = b.0 };
          reaches = f.reaches;
        },
        b.1,
      )

  fails_to_flush : (upto : ℕ) (e : Refusal) (log new : StoreLog MemDisk) (was is : OwnState) → IsReady count steps was
      → FailsToDrainUpto keeps_rules mem_state failures_of gives_own worker upto e log new was is
      → FailsToDrainUpto keeps_rules mem_state failures_of DrainsServing worker upto e log new (by_state was) (by_state is) × IsReady count steps is
  fails_to_flush upto e log new was is r (inl w) = (inl (record { fails = w.fails; same = ap by_state w.same }), subst (IsReady count steps) (sym w.same) r)
  fails_to_flush upto e log new was is r (inr s) =
      let f = s.fails in
      let a = drains_short f.times upto s.first f.mid was f.between r f.short in
      let b = fails_to_drain e f.mid new f.between is a.1 f.fails in (
        inr (record {
          first = s.first;
          kept = s.kept;
          fails = record { times = f.times; mid = f.mid; between = by_state f.between; short = a.0; fails = b.0 };
        }),
        b.1,
      )

  pub turns_up : (upto mark : ℕ) (log new : StoreLog MemDisk) (was is : OwnState) → worker_of log ≡ worker → IsReady count steps was
      → BringsUp keeps_rules mem_state failures_of gives_own upto mark log new was is
      → TurnsLog keeps_rules mem_state failures_of DrainsServing worker upto mark log new (by_state was) (by_state is) × IsReady count steps is
  turns_up upto mark log new was is whose r b =
      let t = log_turns keeps_rules mem_state failures_of gives_own worker upto mark log new was is whose b in
      let f = flushes upto mark t.mid new was is r t.flushes in
      (record { mid = t.mid; opens = t.opens; flushes = f.0 }, f.1)

  -- the same, told of the words for a log
  turn_fails : (upto : ℕ) (e : Refusal) (log new : StoreLog MemDisk) (was is : OwnState) → IsReady count steps was
      → FailsToTurn keeps_rules mem_state failures_of gives_own worker upto e log new was is
      → FailsToTurn keeps_rules mem_state failures_of DrainsServing worker upto e log new (by_state was) (by_state is) × IsReady count steps is
  turn_fails upto e log new was is r (inl shut) = (inl (record { fails = shut.fails; same = ap by_state shut.same }), subst (IsReady count steps) (sym shut.same) r)
  turn_fails upto e log new was is r (inr not) =
      let f = fails_to_flush upto e not.mid new was is r not.fails in
      (inr (record { mid = not.mid; opens = not.opens; fails = f.0 }), f.1)

  pub fails_to_turn : (upto : ℕ) (e : Refusal) (log new : StoreLog MemDisk) (was is : OwnState) → worker_of log ≡ worker → IsReady count steps was
      → FailsToBringUp keeps_rules mem_state failures_of gives_own upto e log new was is
      → FailsToTurn keeps_rules mem_state failures_of DrainsServing worker upto e log new (by_state was) (by_state is) × IsReady count steps is
  fails_to_turn upto e log new was is whose r f =
      turn_fails upto e log new was is r (log_not_turned keeps_rules mem_state failures_of gives_own worker upto e log new was is whose f)

-- ---- the store

-- a turn of a store that is owned alone, over disks in memory
abbrev pub DoesInMemory : Turn → OwnState → List (StoreLog MemDisk) → OwnState → List (StoreLog MemDisk) → Type 0
DoesInMemory turn was old is new = DoesStore keeps_rules mem_state failures_of turn was old is new

-- the same of whatever has a state and its logs
abbrev pub does : {S : Type 0} → (S → OwnState) → (S → List (StoreLog MemDisk)) → S → Turn → S → Type 0
does source logs old turn new = DoesInMemory turn (source old) (logs old) (source new) (logs new)

module _ (accounts : Accounts) (slots : LiveSlots) (standing : Standing) (serving : Serving) (count steps : ℕ) where
  -- all holds of the store with this state and these logs
  pub record Keeps (s : OwnState) (logs : List (StoreLog MemDisk)) : Type 0 where
    pub holds : Holds accounts slots standing logs (Some (with_state s.state serving))
    pub ready : IsReady count steps s
    pub len : length logs ≡ count

  pub turn_keeps : (worker : ℕ) (told : Result ℕ Refusal) (was : OwnState) (old : List (StoreLog MemDisk)) (is : OwnState) (new : List (StoreLog MemDisk))
      → Keeps was old → DoesInMemory (BroughtUp worker told) was old is new → Keeps is new × IfErr told IsMemoryOrDevice
  turn_keeps worker (Ok mark) was old is new k d =
      let b = turns_up serving count steps worker (subst (λ n. worker < n) k.len (within old worker d.before d.there)) was.state.steps mark d.before d.after was is d.whose k.ready d.turns in
      let f = drains.turn_noted accounts slots standing old (with_state was.state serving) k.holds worker d.before d.there was.state.steps mark d.after (with_state is.state serving) b.0 in (
        record {
          holds = subst (λ ls. Holds accounts slots standing ls (Some (with_state is.state serving))) (sym d.stands) f.holds;
          ready = b.1;
          len = ap (λ (ls : List (StoreLog MemDisk)). length ls) d.stands ∙ length-set old worker d.after ∙ k.len;
        },
        tt,
      )
  turn_keeps worker (Err e) was old is new k d =
      let b = fails_to_turn serving count steps worker (subst (λ n. worker < n) k.len (within old worker d.before d.there)) was.state.steps e d.before d.after was is d.whose k.ready d.turns in
      let f = drains.turn_fails accounts slots standing old (with_state was.state serving) k.holds worker d.before d.there was.state.steps e d.after (with_state is.state serving) b.0 in (
        record {
          holds = subst (λ ls. Holds accounts slots standing ls (Some (with_state is.state serving))) (sym d.stands) f.holds;
          ready = b.1;
          len = ap (λ (ls : List (StoreLog MemDisk)). length ls) d.stands ∙ length-set old worker d.after ∙ k.len;
        },
        f.memory,
      )

  module _ {S : Type 0} (source : S → OwnState) (logs : S → List (StoreLog MemDisk)) where
    pub turns_keep : (log : ℕ) (marks : List ℕ) (old new : S) → Keeps (source old) (logs old) → Chain (does source logs) old (turns_from log marks) new → Keeps (source new) (logs new)
    turns_keep log [] old new k c = subst (λ (s : S). Keeps (source s) (logs s)) (sym c) k
    turns_keep log (mark ∷ marks) old new k (mid, d, rest) =
        turns_keep (log + 1) marks mid new (turn_keeps log (Ok mark) (source old) (logs old) (source mid) (logs mid) k d).0 rest

-- the last of some turns
pub last_turn : {S : Type 0} (does : S → Turn → S → Type 0) (turns : List Turn) (turn : Turn) (old new : S) → Chain does old (turns ++ turn ∷ []) new
    → (mid : S) × Chain does old turns mid × does mid turn new
last_turn does [] turn old new (mid, d, rest) = (old, refl, subst (does old turn) (sym rest) d)
last_turn does (x ∷ turns) turn old new (mid, d, rest) =
    let r = last_turn does turns turn mid new rest in
    (r.0, (mid, d, r.1), r.2)

-- how a store begins that serves by this state
pub keeps_at_first : (accounts : Accounts) (slots : LiveSlots) (standing : Standing) (serving : Serving) (s : OwnState) (logs : List (StoreLog MemDisk)) → Holds accounts slots standing logs (Some serving)
    → s.state ≡ serving.state → Keeps accounts slots standing serving (length logs) s.state.steps s logs
keeps_at_first accounts slots standing serving s logs h same =
    let was = held accounts slots standing logs serving h in record {
      holds = subst (λ (v : StateView). Holds accounts slots standing logs (Some (with_state v serving))) (sym same) h;
      ready = record {
        right = subst IsRightState (sym same) was.serves.right;
        logs = ap (λ (v : StateView). length v.logs) same ∙ was.serves.logs ∙ h.count;
        made = refl;
      };
      len = refl;
    }
