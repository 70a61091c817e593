-- To which generation the first turn goes of a new store, and of one that was recovered.
use Rattle.std.proofs.Common.{◌≡◌, ◌⊎◌, inl, inr, ⊎_elim, ℕ, suc, ◌+◌, ◌-◌, ◌<◌, Bool, true, false, List, [], ◌∷◌, length, map, Option, Some, None, refl, sym, ap, ◌∙◌, subst, arith}
use Rattle.std.proofs.{Math.Nat.max-eq_right, lemmas.List.{length-map, Elements.{All-cons, All-nil, length_all_zip}}, lemmas.Option.slice_get_within}
use Rattle.std.specs.List.{All}
use Rattle.std.specs.Prelude.{slice_get}
use Rattle.mt_rows.specs.Accounts.{Accounts}
use Rattle.mt_disk.specs.Disk.{DiskState}
use Rattle.mt_state.specs.Views.{StateView}
use Rattle.mt_crashes.proofs.Invariant.{within_place}
use Rattle.mt_log_files.specs.declared.worker.WorkerFiles.{WorkerFiles}
use Rattle.mt_chains.specs.{declared.worker_logs.WorkerLogs.WorkerLogs, Files.SameNumbered}
use Rattle.mt_crashes.specs.Bases.{Slots}
use Rattle.mt_chain_files.specs.{Chosen.{ReadsPlain, ReadsFiles}, Lasts.last_generation_of}
use Rattle.mt_chain_files.proofs.Agreeing.{count_numbered_logs}
use Rattle.mt_turns.specs.declared.worker_log.WorkerLog.{WorkerLog}
use Rattle.mt_slots.specs.declared.store_slots.StoreSlots.{StoreSlots}
use Rattle.mt_store_logs.specs.{declared.store_log.StoreLog.StoreLog, Leaves.LeavesOne, Taking.files_of}
use Rattle.mt_stored.specs.{Stores.{IsNewStore, IsRecoveredStore}, NextTurns.{IsNear, GoOnTo}}
use Rattle.mt_stored.proofs.{NextTurns.{all_of, of_them, of_all, clash}, TurnEnds.{gives_same, on_to_next, back_to_same}}

pub goes_to_first : {D : Type 0} (is_honest : D → Bool) (state : D → DiskState) (failures : D → ℕ) (files : List (WorkerFiles D)) (bare : StoreSlots D) (accounts : Accounts) (v : StateView)
    (logs : List (StoreLog D)) (slots : Option (StoreSlots D)) → 0 < length files → IsNewStore is_honest state failures files bare accounts v logs slots → GoOnTo 1 logs
goes_to_first {D} is_honest state failures files bare accounts v logs slots some new = record {
  near = λ k log there. (let m = made k log there in let first = m.0 in let least = m.1 in record { oldest = omega (arith, first, least); at = inl (omega (arith, first)) });
  tell = λ told tell. record {
    whole = λ m are.
        let len = new.logs_are.len in
        let count = new.closed_so.count in
        let at = within_place logs 0 (omega (arith, len, count, some)) in
        let of = (of_them m logs told tell are 0 at.0 at.1).0 in
        let first = (made 0 at.0 at.1).0 in
        omega (arith, of, first);
    half = λ never. absurd (never 0 (all_of 0 logs told tell (λ k log there. (let m = made k log there in let first = m.0 in (first, omega (arith, first))))));
  };
}
  where
    made : (k : ℕ) (log : StoreLog D) → slice_get logs k ≡ Some log → (log.log.generation ≡ 0) × (log.oldest ≡ 0)
    made k log there =
        let within = slice_get_within logs k log there in
        let len = new.logs_are.len in
        let below : k < length new.closed = omega (arith, within, len) in
        let was = within_place new.closed k below in
        let m = new.logs_are.each k was.0 log below was.1 there in
        (m.log.generation, m.oldest)

-- ---- one that was recovered

-- some worker is told to have begun the next generation, or none is
some_begun : (begun : List Bool) → ((k : ℕ) × (slice_get begun k ≡ Some true)) ⊎ All (λ (b : Bool). b ≡ false) begun
some_begun [] = inr (All-nil (λ (b : Bool). b ≡ false))
some_begun (true ∷ bs) = inl (0, refl)
some_begun (false ∷ bs) = ⊎_elim (λ some. inl (suc some.0, some.1)) (λ none. inr (All-cons (λ (b : Bool). b ≡ false) false bs refl none)) (some_begun bs)

-- as many are told of as there are files
count_plain : {D : Type 0} (is_honest : D → Bool) (state : D → DiskState) (failures : D → ℕ) (slots : Slots) (between new : List (WorkerFiles D)) (first logs : List WorkerLogs)
    → ReadsPlain is_honest state failures slots between new first logs → length logs ≡ length first
count_plain is_honest state failures slots between new first logs (inl read) = sym (length_all_zip SameNumbered first logs read.2)
count_plain is_honest state failures slots between new first logs (inr unread) = ap length unread.2

count_logs : {D : Type 0} (is_honest : D → Bool) (state : D → DiskState) (failures : D → ℕ) (slots : Slots) (old new : List (WorkerFiles D)) (r : ReadsFiles is_honest state failures slots old new)
    → length r.logs ≡ length old
count_logs is_honest state failures slots old new r = count_plain is_honest state failures slots r.between new r.first r.logs r.plain ∙ count_numbered_logs is_honest state failures slots old r.between r.first r.numbered

-- the generation of a last log: the next one if it is told to be begun
last_is : (g : ℕ) (told : Option Bool) → (last_generation_of g told ≡ g) ⊎ (last_generation_of g told ≡ g + 1)
last_is g (Some true) = inr refl
last_is g (Some false) = inl refl
last_is g None = inl refl

last_none : (g : ℕ) (begun : List Bool) (k : ℕ) → All (λ (b : Bool). b ≡ false) begun → last_generation_of g (slice_get begun k) ≡ g
last_none g begun k none = by (slice_get begun k) refl
  where
    by : (told : Option Bool) → slice_get begun k ≡ told → last_generation_of g (slice_get begun k) ≡ g
    by (Some true) is = absurd (clash (of_all (λ (b : Bool). b ≡ false) begun k true none is))
    by (Some false) is = ap (last_generation_of g) is
    by None is = ap (last_generation_of g) is

module _ {D : Type 0} (is_honest : D → Bool) (state : D → DiskState) (failures : D → ℕ) (files : List (WorkerFiles D)) (found : StoreSlots D) (accounts : Accounts) (v : StateView)
    (logs : List (StoreLog D)) (slots : Option (StoreSlots D)) (some : 0 < length files) (up : IsRecoveredStore is_honest state failures files found accounts v logs slots) where
  record IsResumed (k : ℕ) (log : StoreLog D) : Type 0 where
    generation : log.log.generation ≡ last_generation_of up.serves.chains.generation (slice_get up.serves.chains.begun.items k)
    oldest : log.oldest ≡ last_generation_of up.serves.chains.generation (slice_get up.serves.chains.begun.items k) - 1
    sure : log.next_in_doubt ≡ false

  many : length up.serves.resumed ≡ length files
  many = up.serves.resumes.len ∙ up.serves.opens.back.len ∙ up.closed_so.count

  resumed : (k : ℕ) (log : StoreLog D) → slice_get up.serves.resumed k ≡ Some log → IsResumed k log
  resumed k log there =
      let s = up.serves in
      let within = slice_get_within s.resumed k log there in
      let first = s.resumes.len in
      let second = s.opens.back.len in
      let below_mid : k < length s.mid = omega (arith, within, first) in
      let below_closed : k < length up.closed = omega (arith, within, first, second) in
      let mid = within_place s.mid k below_mid in
      let was = within_place up.closed k below_closed in
      let has = s.opens.back.each k was.0 mid.0 below_closed was.1 mid.1 in
      let on = s.resumes.each k mid.0 log below_mid mid.1 there in
      record {
        generation = ap (λ (l : WorkerLog D). l.generation) on.rest ∙ has.stands.generation;
        oldest = on.oldest ∙ has.oldest;
        sure = on.doubts ∙ has.rest.sure;
      }

  pub goes_on : GoOnTo (up.generation + 1) logs
  goes_on = subst (λ (n : ℕ). GoOnTo (n + 1) logs) (sym up.serves.from) (by up.serves.leaves)
    where
      by : LeavesOne is_honest state failures up.serves.chains.begun.items up.serves.resumed logs → GoOnTo (up.serves.chains.generation + 1) logs
      by (inl left) =
          let len = left.1.len in
          let all = many in
          let at = λ (k : ℕ) (log : StoreLog D) (there : slice_get logs k ≡ Some log). given k log there in
          on_to_next up.serves.chains.generation logs
          (record {
            near = λ k log there. (let l = at k log there in let e = l.1 in record { oldest = omega (arith, e); at = inr (l.0, l.2) });
            gone = λ k log there. (at k log there).0;
            left = λ k log less there. (let e = (at k log there).1 in omega (arith, e));
          })
          (omega (arith, len, all, some))
        where
          given : (k : ℕ) (log : StoreLog D) → slice_get logs k ≡ Some log
              → (log.log.generation ≡ up.serves.chains.generation) × (log.oldest ≡ log.log.generation) × (log.next_in_doubt ≡ false)
          given k log there =
              let within = slice_get_within logs k log there in
              let len = left.1.len in
              let below : k < length up.serves.resumed = omega (arith, within, len) in
              let was = within_place up.serves.resumed k below in
              let r = resumed k was.0 was.1 in
              let gives = left.1.each k was.0 log below was.1 there in
              let is : was.0.log.generation ≡ up.serves.chains.generation = r.generation ∙ last_none up.serves.chains.generation up.serves.chains.begun.items k left.0 in
              let same = gives_same is_honest state failures was.0 log gives in
              let least = r.oldest in
              let last = r.generation in
              (same ∙ is, gives.oldest ∙ max-eq_right (omega (arith, least, last)) ∙ sym same, gives.doubts ∙ r.sure)
      by (inr kept) = subst (GoOnTo (up.serves.chains.generation + 1)) (sym kept.1)
          (⊎_elim
          (λ one.
          let s = up.serves in
          let within = slice_get_within s.chains.begun.items one.0 true one.1 in
          let told : length s.chains.begun.items ≡ length s.opens.opens.reads.logs = ap length s.opens.opens.begun ∙ length-map s.opens.opens.reads.logs _ in
          let read : length s.opens.opens.reads.logs ≡ length (map files_of up.closed) = count_logs is_honest state failures _ _ _ s.opens.opens.reads in
          let closed : length (map files_of up.closed) ≡ length up.closed = length-map up.closed files_of in
          let count = up.closed_so.count in
          let all = many in
          let at = within_place s.resumed one.0 (omega (arith, within, told, read, closed, count, all)) in
          let r = resumed one.0 at.0 at.1 in
          let is : at.0.log.generation ≡ s.chains.generation + 1 = r.generation ∙ ap (last_generation_of s.chains.generation) one.1 in
          let least = r.oldest in
          let last = r.generation in
          back_to_same (s.chains.generation + 1) s.resumed one.0 at.0
          (λ k log there. near k log (resumed k log there))
          at.1 is (omega (arith, least, last, is)))
          (λ none. absurd (kept.0 none))
          (some_begun up.serves.chains.begun.items))
        where
          near : (k : ℕ) (log : StoreLog D) → IsResumed k log → IsNear (up.serves.chains.generation + 1) log
          near k log r =
              let least = r.oldest in
              let last = r.generation in
              record {
                oldest = omega (arith, least, last);
                at = ⊎_elim (λ e. inl (ap (λ (n : ℕ). n + 1) (r.generation ∙ e))) (λ e. inr (r.generation ∙ e, r.sure))
                    (last_is up.serves.chains.generation (slice_get up.serves.chains.begun.items k));
              }
