-- A log of a store that serves comes to be another one: what the store tells of the others, and of its life, stays.
use Rattle.std.proofs.Common.{◌≡◌, ◌≢◌, ◌⊎◌, ℕ, zero, suc, ◌<◌, ◌≤◌, List, [], ◌∷◌, ◌++◌, map, length, Option, Some, None, refl, sym, ap, subst, ◌∙◌, arith, inl, inr}
use Rattle.std.proofs.{lemmas.Bool.cases_eq, lemmas.List.length-set, lemmas.Option.same_Some}
use Rattle.std.specs.{Prelude.{slice_get, slice_set}, List.All, Ordering.nat_cmp, BTreeMap.{BTreeMap, get}}
use Rattle.mt_rows.specs.{Accounts.Accounts, declared.record.Batch.Batch}
use Rattle.mt_disk.specs.declared.mem.MemDisk.{MemDisk}
use Rattle.mt_tape.specs.{declared.entry.Entry.Entry, Histories.contents_at}
use Rattle.mt_state.specs.{Views.{StateView, contents_of, op_at, granted}, Histories.Names}
use Rattle.mt_core.specs.{Drains.Drains, Rights.IsRightState}
use Rattle.mt_crashes.specs.{Histories.{Placed, pairs_upto}, Stores.{Store, LogNow, AllReach}}
use Rattle.mt_store_logs.specs.declared.store_log.StoreLog.{StoreLog}
use Rattle.mt_lives.specs.{declared.serving.Settle.Settle, Lives.{Life, firsts, story_in}, Earlier.untidied, Remembers.Remembers}
use Rattle.mt_lives.specs.Holds.{quotas_of, HasCome, LeadsTo, placed_of, HoldsKept, IsLogAt, EachLog, IsSettleIn, AreSettles, Serves}
use Rattle.mt_lives.proofs.{Comes.{set_there, with_log, reached_on}, Remembering.knows_by}
use Rattle.mt_lives.specs.Turning.{Turning, part_of}

pub set_other : {X : Type 0} (xs : List X) (i k : ℕ) (y : X) → k ≢ i → slice_get (slice_set xs i y) k ≡ slice_get xs k
set_other [] i k y other = refl
set_other (x ∷ xs) zero zero y other = absurd (other refl)
set_other (x ∷ xs) zero (suc k) y other = refl
set_other (x ∷ xs) (suc i) zero y other = refl
set_other (x ∷ xs) (suc i) (suc k) y other = set_other xs i k y (λ e. other (ap suc e))

pub set_length : {X : Type 0} (xs : List X) (i : ℕ) (y : X) → length (slice_set xs i y) ≡ length xs
set_length xs i y = length-set xs i y

-- what reaches a number does so in whatever the store comes to
pub all_on : (count k : ℕ) (s t : Store) → 0 < count → count ≤ 64 → HasCome count s → LeadsTo s t → AllReach k s → AllReach k t
all_on count k s t some few come leads all = λ worker. reached_on count k worker s t some few come leads (all worker)

-- the Settles stand
settle_on : (count : ℕ) (s t : Store) → 0 < count → count ≤ 64 → HasCome count s → LeadsTo s t → s.steps ≤ t.steps → length t.logs ≡ length s.logs
    → (begun : Option ℕ) (settle : Option Settle) → IsSettleIn s begun settle → IsSettleIn t begun settle
settle_on count s t some few come leads steps len None None h = h
settle_on count s t some few come leads steps len (Some begun) (Some settle) h = record {
  same = h.same;
  made = omega (arith, steps, h.made);
  least = h.least;
  next = subst (λ n. settle.next < n) (sym len) h.next;
  before = λ worker lt. reached_on count settle.least worker s t some few come leads (h.before worker lt);
}
settle_on count s t some few come leads steps len None (Some settle) h = h
settle_on count s t some few come leads steps len (Some begun) None h = h

pub settles_on : (count : ℕ) (s t : Store) → 0 < count → count ≤ 64 → HasCome count s → LeadsTo s t → s.steps ≤ t.steps → length t.logs ≡ length s.logs
    → (begun : ℕ → Option ℕ) (settles : BTreeMap ℕ Settle) → AreSettles s begun settles → AreSettles t begun settles
settles_on count s t some few come leads steps len begun settles all = λ id.
    settle_on count s t some few come leads steps len (begun id) (get nat_cmp settles id) (all id)

module _ (accounts : Accounts) (life : Life) (s : Store) (v : StateView) (names : Names) (h : Serves accounts life s v names) where
  -- the life goes on at the store with another log
  pub serves_logged : (count worker : ℕ) (next : LogNow) → 0 < count → count ≤ 64 → HasCome count s → LeadsTo s (with_log worker next s)
      → Serves accounts life (with_log worker next s) v names
  serves_logged count worker next some few come leads =
      let len : length (slice_set s.logs worker next) ≡ length s.logs = set_length s.logs worker next in
      record {
        serving = h.serving;
        steps = h.steps;
        logs = h.logs ∙ sym len;
        gone = h.gone;
        history = h.history;
        tenants = h.tenants;
        right = h.right;
        floor = h.floor;
        given_up = h.given_up;
        workers = λ n op there. subst (λ m. op.worker < m) (sym len) (h.workers n op there);
        starts = h.starts;
        before = h.before;
        ended = h.ended;
        holds = h.holds;
        pairs = h.pairs;
        reach = all_on count life.base s (with_log worker next s) some few come leads h.reach;
      }

  -- and by a state that was drained
  pub serves_drained : (new : StateView) (worker : ℕ) (batch : Batch) → Drains v new worker batch → IsRightState new → Serves accounts life s new names
  serves_drained new worker batch d right =
      let drained : StateView = record v { logs = slice_set v.logs worker batch.to } in
      let history : Remembers (quotas_of accounts) (firsts life) (story_in life) names (untidied h.gone life.base drained) = record {
        right = h.history.right;
        quota = h.history.quota;
        count = h.history.count;
        made = h.history.made;
        told = λ o n e.
            let t = h.history.told o n e in
            (t.0, t.1, knows_by (story_in life) (untidied h.gone life.base v) (untidied h.gone life.base drained) o t.0 (λ m. refl) t.2);
        apart = h.history.apart;
        all = h.history.all;
        free = h.history.free;
        owners = h.history.owners;
      } in
      let same = sym d.stands in
      record {
        serving = h.serving;
        steps = ap (λ (w : StateView). w.steps) d.stands ∙ h.steps;
        logs = ap (λ (w : StateView). length w.logs) d.stands ∙ set_length v.logs worker batch.to ∙ h.logs;
        gone = h.gone;
        history = subst (λ (w : StateView). Remembers (quotas_of accounts) (firsts life) (story_in life) names (untidied h.gone life.base w)) same history;
        tenants = λ t. ap (λ (w : StateView). granted w t) d.stands ∙ h.tenants t;
        right = right;
        floor = subst (λ (w : StateView). life.base ≤ w.tape.floor) same h.floor;
        given_up = subst (λ (w : StateView). All (λ (e : Entry). e.step ≤ w.tape.floor) h.gone) same h.given_up;
        workers = λ n op there. h.workers n op (ap (λ (w : StateView). op_at w.table n) same ∙ there);
        starts = λ n op there. h.starts n op (ap (λ (w : StateView). op_at w.table n) same ∙ there);
        before = h.before;
        ended = subst (λ (w : StateView). All (λ (p : Placed). p.change.stamp ≤ w.tape.floor) h.before) same h.ended;
        holds = h.holds ∙ ap (λ (w : StateView). h.before ++ map placed_of w.tape.entries) same;
        pairs =
            subst (λ (w : StateView). (cutoff : ℕ) → life.base ≤ cutoff → cutoff ≤ w.tape.floor
            → pairs_upto cutoff s.history ≡ contents_at (h.gone ++ w.tape.entries) (contents_of w) cutoff)
            same h.pairs;
        reach = h.reach;
      }

-- each log stands in its part of a turn, and was given this
abbrev pub EachAt : ℕ → Turning → Store → List ℕ → List (StoreLog MemDisk) → Type 0
EachAt from turning s given logs = EachLog (λ k. IsLogAt from (part_of turning k) s given k) s logs

-- each log but one stands as it did
pub each_logged : (from : ℕ) (turning : Turning) (s : Store) (logs : List (StoreLog MemDisk)) (given now_given : List ℕ) (worker : ℕ) (was next : LogNow) (old new : StoreLog MemDisk)
    → slice_get s.logs worker ≡ Some was → slice_get logs worker ≡ Some old → IsLogAt from (part_of turning worker) (with_log worker next s) now_given worker next new
    → ((k : ℕ) → k ≢ worker → slice_get now_given k ≡ slice_get given k)
    → EachAt from turning s given logs → EachAt from turning (with_log worker next s) now_given (slice_set logs worker new)
each_logged from turning s logs given now_given worker was next old new there here at others all k now log is_now is_log = by (cases_eq k worker)
  where
    kept : (kept : Option Batch) → HoldsKept s k kept → HoldsKept (with_log worker next s) k kept
    kept None h = h
    kept (Some b) h = record { made = h.made; records = h.records }

    by : (k ≡ worker) ⊎ (k ≢ worker) → IsLogAt from (part_of turning k) (with_log worker next s) now_given k now log
    by (inl same) =
        let n : next ≡ now = same_Some next now (sym (set_there s.logs worker was next there) ∙ subst (λ j. slice_get (slice_set s.logs worker next) j ≡ Some now) same is_now) in
        let l : new ≡ log = same_Some new log (sym (set_there logs worker old new here) ∙ subst (λ j. slice_get (slice_set logs worker new) j ≡ Some log) same is_log) in
        subst (λ (x : StoreLog MemDisk). IsLogAt from (part_of turning k) (with_log worker next s) now_given k now x) l
        (subst (λ (x : LogNow). IsLogAt from (part_of turning k) (with_log worker next s) now_given k x new) n
        (subst (λ j. IsLogAt from (part_of turning j) (with_log worker next s) now_given j next new) (sym same) at))
    by (inr other) =
        let a = all k now log (sym (set_other s.logs worker k next other) ∙ is_now) (sym (set_other logs worker k new other) ∙ is_log) in
        record { files = a.files; stands = a.stands; begins = a.begins; given_so = others k other ∙ a.given_so; kept = kept log.kept a.kept }
