-- What happens to a store when a batch goes into a log, or comes in doubt, and when a log comes to rest.
use Rattle.std.proofs.Common.{◌≡◌, ℕ, zero, suc, ◌<◌, ◌≤◌, true, List, [], ◌∷◌, inl, inr, Option, Some, None, refl, sym, ap, subst, ◌∙◌}
use Rattle.std.proofs.lemmas.Option.{same_Some}
use Rattle.std.specs.Prelude.{slice_get, slice_set}
use Rattle.mt_rows.specs.declared.record.Batch.{Batch}
use Rattle.mt_log.specs.{declared.batch.LogBatch.TheVariants.Records, Contents.{Contents, with_batch}}
use Rattle.mt_crashes.specs.Stores.{Store, LogNow, at_rest, Happens, Leads, Appends, Rests, MayLeaveFront, new_store, ReachesAt}
use Rattle.mt_crashes.proofs.{Members.no_some, Heart.never_back}
use Rattle.mt_store_logs.specs.Shows.{MayBegin, begun, appended, IsIn, IsInDoubt, ComesToRest}
use Rattle.mt_lives.specs.Holds.{HoldsChanges, HasCome, LeadsTo, HoldsKept}

-- ---- places

pub set_there : {X : Type 0} (xs : List X) (k : ℕ) (x y : X) → slice_get xs k ≡ Some x → slice_get (slice_set xs k y) k ≡ Some y
set_there [] k x y e = absurd (no_some x e)
set_there (z ∷ xs) zero x y e = refl
set_there (z ∷ xs) (suc k) x y e = set_there xs k x y e

pub set_same : {X : Type 0} (xs : List X) (k : ℕ) (x : X) → slice_get xs k ≡ Some x → slice_set xs k x ≡ xs
set_same [] k x e = refl
set_same (z ∷ xs) zero x e = ap (λ y. y ∷ xs) (sym (same_Some z x e))
set_same (z ∷ xs) (suc k) x e = ap (λ ys. z ∷ ys) (set_same xs k x e)

pub set_twice : {X : Type 0} (xs : List X) (k : ℕ) (x y : X) → slice_set (slice_set xs k x) k y ≡ slice_set xs k y
set_twice [] k x y = refl
set_twice (z ∷ xs) zero x y = refl
set_twice (z ∷ xs) (suc k) x y = ap (λ ys. z ∷ ys) (set_twice xs k x y)

-- ---- one thing after the other

leads_more : (n : ℕ) (a b c : Store) → Leads n a b → Happens b c → Leads (suc n) a c
leads_more zero a b c leads h = (c, subst (λ (s : Store). Happens s c) leads h, refl)
leads_more (suc n) a b c leads h = (leads.0, leads.1, leads_more n leads.0 b c leads.2 h)

leads_all : (m n : ℕ) (a b c : Store) → Leads m a b → Leads n b c → LeadsTo a c
leads_all zero n a b c first rest = (n, subst (λ (s : Store). Leads n s c) first rest)
leads_all (suc m) n a b c first rest = let more = leads_all m n first.0 b c first.2 rest in (suc more.0, (first.0, first.1, more.1))

pub stays_here : (s t : Store) → t ≡ s → LeadsTo s t
stays_here s t same = (0, same)

pub one_more : (a b c : Store) → LeadsTo a b → Happens b c → LeadsTo a c
one_more a b c leads h = (suc leads.0, leads_more leads.0 a b c leads.1 h)

pub then_to : (a b c : Store) → LeadsTo a b → LeadsTo b c → LeadsTo a c
then_to a b c first rest = leads_all first.0 rest.0 a b c first.1 rest.1

-- what has come goes on, and what was reached stays so
pub comes_on : (count : ℕ) (s t : Store) → HasCome count s → LeadsTo s t → HasCome count t
comes_on count s t come leads = leads_all come.0 leads.0 (new_store count) s t come.1 leads.1

pub reached_on : (count k worker : ℕ) (s t : Store) → 0 < count → count ≤ 64 → HasCome count s → LeadsTo s t → ReachesAt k s worker → ReachesAt k t worker
reached_on count k worker s t some few come leads reach = never_back count come.0 leads.0 k worker s t some few come.1 reach leads.1

-- ---- one log

-- a store with another log at a worker's place
abbrev pub with_log : ℕ → LogNow → Store → Store
with_log worker next s = record s { logs = slice_set s.logs worker next }

-- which is where things led to
abbrev pub GoesTo : ℕ → LogNow → Store → Type 0
GoesTo worker next s = LeadsTo s (with_log worker next s)

same_log : (worker : ℕ) (s : Store) (now next : LogNow) → slice_get s.logs worker ≡ Some now → next ≡ now → GoesTo worker next s
same_log worker s now next there same =
    stays_here s (with_log worker next s) (ap (λ (l : LogNow). with_log worker l s) same ∙ ap (λ ls. record s { logs = ls }) (set_same s.logs worker now there))

resting : (now : LogNow) → now.doubt ≡ None → now ≡ at_rest now.had
resting now rests = ap (λ d. record { had = now.had; doubt = d }) rests

-- an append begins
appends : (s : Store) (worker : ℕ) (now : LogNow) (b : Batch) → s.serving ≡ true → slice_get s.logs worker ≡ Some now → HoldsChanges s worker b → MayBegin now b
    → Appends s (with_log worker (begun now b) s)
appends s worker now b serves there holds may = record {
  serves = serves;
  worker = worker;
  had = now.had;
  rests = there ∙ ap Some (resting now may.rests);
  batch = b;
  fits = may.fits;
  turn = may.turn;
  made = holds.made;
  records = holds.records;
  stands = refl;
}

begins : (worker : ℕ) (s : Store) (now : LogNow) (b : Batch) → s.serving ≡ true → slice_get s.logs worker ≡ Some now → HoldsChanges s worker b → MayBegin now b
    → GoesTo worker (begun now b) s
begins worker s now b serves there holds may =
    let t = with_log worker (begun now b) s in
    one_more s s t (stays_here s s refl) (inr (inr (inl (appends s worker now b serves there holds may))))

-- a log comes to rest with what a crash might have left of it
pub to_rest : (worker : ℕ) (s : Store) (now : LogNow) (front : Contents) → slice_get s.logs worker ≡ Some now → MayLeaveFront now front → GoesTo worker (at_rest front) s
to_rest worker s now front there left =
    let t = with_log worker (at_rest front) s in
    let r : Rests s t = record { worker = worker; log = now; there = there; front = front; left = left; stands = refl } in
    one_more s s t (stays_here s s refl) (inr (inr (inr (inl r))))

pub rests : (worker : ℕ) (s : Store) (now next : LogNow) → slice_get s.logs worker ≡ Some now → ComesToRest now next → GoesTo worker next s
rests worker s now next there r = subst (λ (l : LogNow). GoesTo worker l s) (sym (resting next r.rests)) (to_rest worker s now next.had there r.left)

-- one after the other at one log
pub and_then : (worker : ℕ) (s : Store) (now mid next : LogNow) → slice_get s.logs worker ≡ Some now → GoesTo worker mid s → GoesTo worker next (with_log worker mid s)
    → GoesTo worker next s
and_then worker s now mid next there first rest =
    subst (λ ls. LeadsTo s (record s { logs = ls })) (set_twice s.logs worker mid next)
    (then_to s (with_log worker mid s) (with_log worker next (with_log worker mid s)) first rest)

-- a batch goes into the log: it comes in doubt, and then the log comes to rest with it
goes_in : (worker : ℕ) (s : Store) (now : LogNow) (b : Batch) → s.serving ≡ true → slice_get s.logs worker ≡ Some now → HoldsChanges s worker b → MayBegin now b
    → GoesTo worker (appended now b) s
goes_in worker s now b serves there holds may =
    let mid = with_log worker (begun now b) s in
    and_then worker s now (begun now b) (appended now b) there (begins worker s now b serves there holds may)
    (to_rest worker mid (begun now b) (with_batch (Records b) now.had) (set_there s.logs worker now (begun now b) there) (inr (Records b, refl, refl)))

pub is_in : (worker : ℕ) (s : Store) (now next : LogNow) (kept : Option Batch) → s.serving ≡ true → slice_get s.logs worker ≡ Some now → HoldsKept s worker kept
    → IsIn kept now next → GoesTo worker next s
is_in worker s now next None serves there holds same = same_log worker s now next there same
is_in worker s now next (Some b) serves there holds (inl same) = same_log worker s now next there same.0
is_in worker s now next (Some b) serves there holds (inr more) =
    subst (λ (l : LogNow). GoesTo worker l s) (sym more.1) (goes_in worker s now b serves there holds more.0)

pub is_in_doubt : (worker : ℕ) (s : Store) (now next : LogNow) (kept : Option Batch) → s.serving ≡ true → slice_get s.logs worker ≡ Some now → HoldsKept s worker kept
    → IsInDoubt kept now next → GoesTo worker next s
is_in_doubt worker s now next None serves there holds same = same_log worker s now next there same
is_in_doubt worker s now next (Some b) serves there holds (inl same) = same_log worker s now next there same
is_in_doubt worker s now next (Some b) serves there holds (inr more) =
    subst (λ (l : LogNow). GoesTo worker l s) (sym more.1) (begins worker s now b serves there holds more.0)
