-- Where a store stands behind many events.
use Rattle.std.{proofs.Common.{◌≡◌, zero, suc, ℕ, ◌+◌, ◌<◌, List, [], ◌∷◌, ◌++◌, take, length, get_or, Option, refl, sym, ap, subst, arith}, specs.List.zip}
use Rattle.mt_rows.specs.Accounts.{Accounts}
use Rattle.mt_disk.specs.declared.mem.MemDisk.{MemDisk}
use Rattle.mt_runs.specs.Placings.{Quotas}
use Rattle.mt_lives.specs.declared.live_slots.LiveSlots.{LiveSlots}
use Rattle.mt_store_logs.specs.declared.store_log.StoreLog.{StoreLog}
use Rattle.mt_lives.specs.{declared.events.StoreEvent.StoreEvent, declared.events.StoreNote.StoreNote, declared.serving.Serving.Serving}
use Rattle.mt_lives.specs.{Lives.{Standing, IsNoted, Notes, NotesLead}, Holds.{quotas_of, Holds}, Steps.{GoesOn, NotesGoOn}}

-- ---- lists

zip_suc : {A B : Type 0} (es : List A) (ts : List B) (i : ℕ) (e : A) (t : B) → i < length es → e ≡ get_or es i e → length ts ≡ i
    → zip (take (suc i) es) (ts ++ t ∷ []) ≡ zip (take i es) ts ++ (e, t) ∷ []
zip_suc [] ts i e t lt same is = absurd (omega arith)
zip_suc {A} (x ∷ es) [] zero e t lt same is = ap (λ (w : A). (w, t) ∷ []) (sym same)
zip_suc (x ∷ es) [] (suc i) e t lt same is = absurd (omega arith)
zip_suc (x ∷ es) (u ∷ ts) zero e t lt same is = absurd (omega arith)
zip_suc (x ∷ es) (u ∷ ts) (suc i) e t lt same is = ap (λ w. (x, u) ∷ w) (zip_suc es ts i e t (omega arith) same (omega arith))

-- one event more of a list, with its note
pub zip_more : (es : List StoreEvent) (ts : List StoreNote) (i : ℕ) (e : StoreEvent) (t : StoreNote) → i < length es → e ≡ get_or es i e → length ts ≡ i
    → zip (take (i + 1) es) (ts ++ t ∷ []) ≡ zip (take i es) ts ++ (e, t) ∷ []
zip_more es ts i e t lt same is =
    subst (λ n. zip (take n es) (ts ++ t ∷ []) ≡ zip (take i es) ts ++ (e, t) ∷ []) {x = suc i} (omega arith) (zip_suc es ts i e t lt same is)

-- ---- notes

-- one note more
pub leads_more : (quotas : Quotas) (old mid new : Standing) (notes : Notes) (event : StoreEvent) (note : StoreNote) → NotesLead quotas old notes mid
    → IsNoted quotas mid event note new → NotesLead quotas old (notes ++ (event, note) ∷ []) new
leads_more quotas old mid new [] event note leads noted = (new, subst (λ (s : Standing). IsNoted quotas s event note new) leads noted, refl)
leads_more quotas old mid new (x ∷ notes) event note leads noted = (leads.0, leads.1, leads_more quotas leads.0 mid new notes event note leads.2 noted)

module _ (accounts : Accounts) (slots : LiveSlots) (logs : List (StoreLog MemDisk)) (serving : Option Serving) where
  pub none_yet : NotesGoOn accounts slots slots [] logs serving logs serving
  none_yet standing h = (standing, refl, h)

  pub one_more : (notes : Notes) (mid_slots now_slots : LiveSlots) (mid_logs now_logs : List (StoreLog MemDisk)) (mid_serving now_serving : Option Serving)
      (event : StoreEvent) (note : StoreNote)
      → NotesGoOn accounts slots mid_slots notes logs serving mid_logs mid_serving → GoesOn accounts mid_slots now_slots event note mid_logs mid_serving now_logs now_serving
      → NotesGoOn accounts slots now_slots (notes ++ (event, note) ∷ []) logs serving now_logs now_serving
  one_more notes mid_slots now_slots mid_logs now_logs mid_serving now_serving event note all one standing h =
      let a = all standing h in
      let b = one a.0 a.2 in
      (b.0, leads_more (quotas_of accounts) standing a.0 b.0 notes event note a.1 b.1, b.2)

  pub stands_on : (notes : Notes) (now_slots : LiveSlots) (now_logs : List (StoreLog MemDisk)) (now_serving : Option Serving)
      → (standing : Standing) × Holds accounts slots standing logs serving
      → NotesGoOn accounts slots now_slots notes logs serving now_logs now_serving → (standing : Standing) × Holds accounts now_slots standing now_logs now_serving
  stands_on notes now_slots now_logs now_serving held all = let a = all held.0 held.1 in (a.0, a.2)
