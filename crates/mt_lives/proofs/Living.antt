-- A store that was recovered serves its next life, with a state that was restored from what was found.
use Rattle.std.proofs.Common.{◌≡◌, ℕ, zero, suc, ◌+◌, ◌<◌, ◌≤◌, true, false, not, List, [], ◌++◌, map, length, replicate, get_or, Option, Some, None, refl, sym, ap, subst, ◌∙◌, arith, inl, inr}
use Rattle.std.proofs.{lemmas.Bool.{not-true, ltb-false}, lemmas.List.{append-nil, length-replicate}, lemmas.List.Elements.{All-nil, filter_passes}}
use Rattle.std.proofs.lemmas.Option.{slice_get-get_or}
use Rattle.std.specs.{Prelude.{slice_get, nat_lt}, List.All, Option.option_map, Ordering.{nat_cmp, is_eq}, Map.lookup, BTreeMap.{BTreeMap, get}}
use Rattle.std.specs.FinMap.{empty, len}
use Rattle.mt_rows.specs.{Accounts.{Accounts, account_of}, Tenants.{Contents as Pairs, tenant_map}, TenantPairs.{quota_in, pairs_of}}
use Rattle.mt_rows.specs.{declared.record.TenantPair.TenantPair, declared.tenants.Account.Account}
use Rattle.mt_disk.specs.declared.mem.MemDisk.{MemDisk}
use Rattle.mt_log.specs.Contents.{Contents, mark_of}
use Rattle.mt_tape.specs.{declared.entry.Entry.Entry, Tapes.Kept, Histories.contents_at}
use Rattle.mt_runs.specs.Runs.{story_of}
use Rattle.mt_state.specs.{Views.{StateView, contents_of, op_at, granted, granted_in, quota_of}, Histories.{Names, no_names}}
use Rattle.mt_state.proofs.HistoryStart.{history_start}
use Rattle.mt_core.{specs.{Restores.{counting, IsRestored}, Rights.IsRightState, Tickets.named}, proofs.EventRuns.{leads_first, by_id_first}}
use Rattle.mt_crashes.specs.{Fronts.{after_changes, HoldResume}, Histories.{Placed, upto, changes_of}, Stores.{Store, LogNow, at_rest, AllReach}}
use Rattle.mt_crashes.proofs.{Invariant.{map_place, left_at_rest}, Members.no_some}
use Rattle.mt_store_logs.specs.{declared.store_log.StoreLog.StoreLog, Shows.drained_upto}
use Rattle.mt_lives.specs.{declared.serving.Serving.Serving, declared.serving.Settle.Settle, Lives.{Life, life_from, firsts, story_in}}
use Rattle.mt_lives.specs.{Earlier.untidied, Remembers.Remembers, Holds.{quotas_of, LeadsTo, placed_of, HoldsKept, IsSettleIn, HoldsServing}, Returns.IsFresh}
use Rattle.mt_lives.proofs.{Comes.{stays_here, one_more}, Tapes.upto_ended, Remembering.remembers_history, Logged.EachAt, Flushing.within, Walking.resting_logs, Opening.AllOpen}
use mathlib.Core.Path.{fun_ext}
use Rattle.mt_state.specs.Views as views
use Rattle.mt_crashes.specs.Stores as stores
use Rattle.mt_lives.specs.Holds as holds
use Rattle.mt_lives.{specs.{Bases.Whole, Turning.only_whole}, proofs.Turning.new_part}

-- ---- the store serves

-- all logs rest where a store goes on
pub record RestAt (number : ℕ) (logs : List LogNow) : Type 0 where
  pub rest : (k : ℕ) (now : LogNow) → slice_get logs k ≡ Some now → now ≡ at_rest now.had
  pub marks : (k : ℕ) (now : LogNow) → slice_get logs k ≡ Some now → mark_of now.had ≡ number

abbrev had_of : LogNow → Contents
had_of l = l.had

-- the store that serves
abbrev pub served : Store → Store
served t = record t { serving = true }

pub serves_now : (t : Store) → t.serving ≡ false → RestAt t.reached t.logs
    → ((k : ℕ) (now : LogNow) → slice_get t.logs k ≡ Some now → HoldResume t.reached now.had.batches) → LeadsTo t (served t)
serves_now t off r held =
    let fronts = map had_of t.logs in
    let s : stores.Serves t (served t) = record {
      recovers = off;
      fronts = fronts;
      rest = resting_logs t.logs r.rest;
      resumed = λ k d lt.
          let at = map_place had_of t.logs k (get_or fronts k d) (slice_get-get_or fronts k d lt) in
          subst (λ (c : Contents). HoldResume t.reached c.batches) (sym at.2) (held k at.0 at.1);
      stands = refl;
    } in
    one_more t t (served t) (stays_here t t refl) (inr (inr (inr (inr (inr (inr (inl s)))))))

pub reach_all : (t : Store) (number : ℕ) → RestAt number t.logs → AllReach number t
reach_all t number r = λ worker now there front left.
    let same = left_at_rest now.had front (subst (λ (l : LogNow). stores.MayLeaveFront l front) (r.rest worker now there) left) in
    omega (arith, r.marks worker now there, ap mark_of same)

-- ---- its history

-- a history up to a number
pub made_upto : (n : ℕ) (history : List Placed) → All (λ p. p.change.stamp ≤ n) (upto n history)
made_upto n history = λ k d lt.
    let p : Placed = get_or (upto n history) k d in
    let passes = filter_passes (λ (x : Placed). not (nat_lt n x.change.stamp)) history k d lt in
    ltb-false n p.change.stamp (not-true _ passes)

-- ---- the state

-- an account that counts other pairs has the same quota
count_quota : (count : ℕ) (a : Option Account) → views.quota_in (option_map (counting count) a) ≡ views.quota_in a
count_quota count None = refl
count_quota count (Some a) = refl

count_granted : (count : ℕ) (a : Option Account) → granted_in (option_map (counting count) a) ≡ granted_in a
count_granted count None = refl
count_granted count (Some a) = refl

replicate_there : (n k x : ℕ) → k < n → slice_get (replicate n x) k ≡ Some x
replicate_there zero k x lt = absurd (omega (arith, lt))
replicate_there (suc n) zero x lt = refl
replicate_there (suc n) (suc k) x lt = replicate_there n k x (omega (arith, lt))

no_settle : (settles : BTreeMap ℕ Settle) (id : ℕ) → settles.entries ≡ [] → get nat_cmp settles id ≡ None
no_settle settles id none = ap (λ es. lookup (λ q. is_eq (nat_cmp id q)) es) none

-- a state that begins a life with some pairs
pub record BeginsWith (accounts : Accounts) (first : Pairs) (steps logs : ℕ) (v : StateView) : Type 0 where
  pub steps_are : v.steps ≡ steps
  pub logs_are : v.logs ≡ replicate logs steps
  pub quiet : v.tape.entries ≡ []
  pub floor : v.tape.floor ≡ steps
  pub table_is : v.table ≡ []
  pub contents_are : contents_of v ≡ first
  pub quotas : (t : ℕ) → quota_of v t ≡ quotas_of accounts t
  pub tenants : (t : ℕ) → granted v t ≡ quota_in accounts t

pub begins_restored : (accounts : Accounts) (steps logs : ℕ) (ps : List TenantPair) (v : StateView) → IsRestored steps logs accounts ps v
    → BeginsWith accounts (pairs_of ps) steps logs v
begins_restored accounts steps logs ps v is = record {
  steps_are = is.steps_are;
  logs_are = is.logs_are;
  quiet = ap (λ (t : Kept). t.entries) is.tape_is;
  floor = ap (λ (t : Kept). t.floor) is.tape_is;
  table_is = is.table_is;
  contents_are = is.contents_are;
  quotas = λ t. ap views.quota_in (is.accounts_are t) ∙ count_quota (len (tenant_map t (pairs_of ps))) (account_of accounts t);
  tenants = λ t. ap granted_in (is.accounts_are t) ∙ count_granted (len (tenant_map t (pairs_of ps))) (account_of accounts t);
}

module _ (accounts : Accounts) (first : Pairs) (steps logs : ℕ) (v : StateView) (is : BeginsWith accounts first steps logs v) (right : IsRightState v) where
  abbrev life : Life
  life = life_from first steps

  none_there : (n : ℕ) → op_at v.table n ≡ None
  none_there n = ap (λ table. op_at table n) is.table_is

  begins : Remembers (quotas_of accounts) (firsts life) (story_in life) no_names (untidied [] steps v)
  begins =
      subst (λ q. Remembers q (firsts life) (story_of steps []) no_names (untidied [] steps v)) (fun_ext is.quotas)
      (subst (λ n. Remembers (quota_of v) (firsts life) (story_of n []) no_names (untidied [] steps v)) is.steps_are
      (remembers_history (quota_of v) (firsts life) (story_of v.steps []) no_names (untidied [] steps v) none_there
      (history_start (untidied [] steps v) (firsts life) none_there is.quiet (λ t. ap (tenant_map t) is.contents_are))))

  module _ (s : Store) (serving : s.serving ≡ true) (steps_so : s.steps ≡ steps) (count : length s.logs ≡ logs) (rest : RestAt steps s.logs)
      (ended : All (λ p. p.change.stamp ≤ steps) s.history) (found : first ≡ after_changes empty (changes_of s.history)) where
    serves_life : (names : Names) → names ≡ no_names → holds.Serves accounts life s v names
    serves_life names none = record {
      serving = serving;
      steps = is.steps_are ∙ sym steps_so;
      logs = ap length is.logs_are ∙ length-replicate logs steps ∙ sym count;
      gone = [];
      history = subst (λ (n : Names). Remembers (quotas_of accounts) (firsts life) (story_in life) n (untidied [] steps v)) (sym none) begins;
      tenants = is.tenants;
      right = right;
      floor = omega (arith, is.floor);
      given_up = All-nil (λ (e : Entry). e.step ≤ v.tape.floor);
      workers = λ n op there. absurd (no_some op (sym (none_there n) ∙ there));
      starts = λ n op there. absurd (no_some op (sym (none_there n) ∙ there));
      before = s.history;
      ended = subst (λ n. All (λ (p : Placed). p.change.stamp ≤ n) s.history) (sym is.floor) ended;
      holds = sym (append-nil s.history) ∙ ap (λ es. s.history ++ map placed_of es) (sym is.quiet);
      pairs = λ cutoff from le.
          ap (λ ps. after_changes empty (changes_of ps)) (upto_ended steps cutoff s.history ended from)
          ∙ sym found ∙ sym is.contents_are ∙ ap (λ es. contents_at es (contents_of v) cutoff) (sym is.quiet);
      reach = reach_all s steps rest;
    }

    module _ (now_serving : Serving) (state : now_serving.state ≡ v) (g : ℕ) (h : Whole) (new : List (StoreLog MemDisk)) (fresh : IsFresh now_serving) (turns_to : now_serving.generation ≡ g + 1)
        (each : AllOpen g h s new) where
      each_log : EachAt g (only_whole h) s v.logs new
      each_log = λ worker now log there at.
          let o = each worker now log there at in
          record {
            files = o.files;
            stands = o.stands;
            begins = new_part g h worker o.files o.begins;
            given_so =
                ap (λ ls. slice_get ls worker) is.logs_are
                ∙ replicate_there logs worker steps (subst (λ n. worker < n) count (within s.logs worker now there))
                ∙ ap Some (sym (ap (drained_upto now) o.none ∙ rest.marks worker now there));
            kept = subst (HoldsKept s worker) (sym o.none) tt;
          }

      pub begins_serving : HoldsServing g (only_whole h) accounts (λ id. None) life s new now_serving
      begins_serving = record {
        serves =
            subst (λ (w : StateView). holds.Serves accounts life s w (named now_serving.roster.tickets)) (sym state)
            (serves_life (named now_serving.roster.tickets) (leads_first v now_serving.roster.tickets fresh.tickets).0);
        by_id = by_id_first now_serving.roster.names now_serving.roster.tickets fresh.tickets;
        each = subst (λ (w : StateView). EachAt g (only_whole h) s w.logs new) (sym state) each_log;
        turns_to = turns_to;
        settles = λ id. subst (IsSettleIn s None) (sym (no_settle now_serving.settles id fresh.settles)) tt;
      }
