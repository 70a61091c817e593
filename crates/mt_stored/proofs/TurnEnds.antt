-- To which generation the next turn of a store goes after a whole turn, and after one that was stopped.
use Rattle.std.proofs.Common.{◌≡◌, ◌≢◌, inl, inr, ⊎_elim, ℕ, zero, suc, ◌+◌, ◌<◌, ◌≤◌, Bool, List, [], ◌∷◌, length, Some, Ok, Err, refl, sym, ap, ◌∙◌, subst, arith}
use Rattle.std.proofs.{Math.Nat.max-eq_right, lemmas.List.length-set, lemmas.Bool.cases_eq, lemmas.Option.{same_Some, slice_get_within}}
use Rattle.std.proofs.lemmas.List.Elements.{All-nil}
use Rattle.std.specs.Prelude.{slice_get, slice_set}
use Rattle.mt_rows.specs.declared.refusal.Refusal.{Refusal}
use Rattle.mt_disk.specs.Disk.{DiskState}
use Rattle.mt_crashes.proofs.Invariant.{within_place}
use Rattle.mt_turns.specs.{declared.worker_log.WorkerLog.WorkerLog}
use Rattle.mt_store_logs.specs.{declared.store_log.StoreLog.StoreLog, Turns.{GivesUpOlderLog, FailsToGiveUpOlderLog}}
use Rattle.mt_settle.specs.{Turns.{Turn}, Settles.{Settles, SettlesAll}, Parts.{EachOf, GivesUpOne, TellsBegun}, Next.{TellsNext}}
use Rattle.mt_book.specs.Periods.{Period}
use Rattle.mt_stored.specs.{declared.source.OwnState.OwnState, Stores.DoesStore, NextTurns.{IsNear, AreNear, AllTell, GoOnTo}}
use Rattle.mt_stored.specs.{Digests.DigestCall, TurnParts.{Begins, StopsBeginning, TellsEnd}, WholeTurns.{Parts, WritesTurn, StopsTurn}}
use Rattle.mt_stored.specs.{declared.turns.TurnStop.TurnStop, declared.turns.TurnStop.TheVariants.{Checkpoint, Digest, Logs}, declared.digests.Digested.TheVariants.{OfLogs, OfSlot}}
use Rattle.mt_stored.proofs.{StoreTurns.{set_there, set_other}, NextTurns.{AllGo, near_after, settle_goes, Gone, all_begin, begins_told, stay_gone, all_tell, one_next, all_of, of_them, greatest_of, below, OfIt, still}}

-- ---- one log

module _ {D : Type 0} (is_honest : D → Bool) (state : D → DiskState) (failures : D → ℕ) where
  pub gives_same : (old new : StoreLog D) → GivesUpOlderLog is_honest state failures old new → new.log.generation ≡ old.log.generation
  gives_same old new gives = ⊎_elim (λ older. ap (λ (l : WorkerLog D). l.generation) older.stands) (λ none. ap (λ (l : WorkerLog D). l.generation) none.1) gives.does

  fails_same : (e : Refusal) (old new : StoreLog D) → FailsToGiveUpOlderLog is_honest state failures e old new → new.log.generation ≡ old.log.generation
  fails_same e old new fails = ap (λ (l : WorkerLog D). l.generation) fails.does.1.stands

  gives_near : (g : ℕ) (old new : StoreLog D) → IsNear g old → GivesUpOlderLog is_honest state failures old new → IsNear g new × (new.oldest ≡ new.log.generation)
  gives_near g old new near gives =
      let same = gives_same old new gives in
      let is : new.oldest ≡ new.log.generation = gives.oldest ∙ max-eq_right near.oldest ∙ sym same in (
        record {
          oldest = omega (arith, is);
          at = ⊎_elim (λ e. inl (ap (λ (n : ℕ). n + 1) same ∙ e)) (λ gone. inr (same ∙ gone.0, gives.doubts ∙ gone.1)) near.at;
        },
        is,
      )

  fails_near : (g : ℕ) (e : Refusal) (old new : StoreLog D) → IsNear g old → FailsToGiveUpOlderLog is_honest state failures e old new
      → IsNear g new × (new.oldest < new.log.generation)
  fails_near g e old new near fails =
      let same = fails_same e old new fails in
      let oldest = fails.oldest in
      let older = fails.does.1.older in (
        record {
          oldest = omega (arith, oldest, same);
          at = ⊎_elim (λ e. inl (ap (λ (n : ℕ). n + 1) same ∙ e)) (λ gone. inr (same ∙ gone.0, fails.doubts ∙ gone.1)) near.at;
        },
        omega (arith, oldest, same, older),
      )

-- ---- all logs

-- All logs are near a generation, and of it. Of the first so many no older one stands.
pub record Left {D : Type 0} (g count : ℕ) (logs : List (StoreLog D)) : Type 0 where
  pub near : AreNear g logs
  pub gone : (k : ℕ) (log : StoreLog D) → slice_get logs k ≡ Some log → log.log.generation ≡ g
  pub left : (k : ℕ) (log : StoreLog D) → k < count → slice_get logs k ≡ Some log → log.log.generation ≤ log.oldest

-- of all logs no older one stands: the next turn goes to the generation after
pub on_to_next : {D : Type 0} (g : ℕ) (logs : List (StoreLog D)) → Left g (length logs) logs → 0 < length logs → GoOnTo (g + 1) logs
on_to_next g logs l some = record {
  near = λ k log there. (let low = (l.near k log there).oldest in let is = l.gone k log there in record { oldest = low; at = inl (ap (λ (n : ℕ). n + 1) is) });
  tell = λ told tell.
      let are = all_of g logs told tell (λ k log there. (l.gone k log there, l.left k log (slice_get_within logs k log there) there)) in
      record {
        whole = λ m of.
            let first = within_place logs 0 some in
            let of_m = (of_them m logs told tell of 0 first.0 first.1).0 in
            let of_g = l.gone 0 first.0 first.1 in
            omega (arith, of_m, of_g);
        half = λ never. absurd (never g are);
      };
}

-- an older one stands of some log that has gone to a generation: the next turn goes to the same one
pub back_to_same : {D : Type 0} (g : ℕ) (logs : List (StoreLog D)) (at : ℕ) (one : StoreLog D) → AreNear g logs → slice_get logs at ≡ Some one → one.log.generation ≡ g
    → one.oldest < one.log.generation → GoOnTo g logs
back_to_same g logs at one near there gone older = record {
  near = near;
  tell = λ told tell. record {
    whole = λ m of.
        let least = (of_them m logs told tell of at one there).1 in
        absurd (omega (arith, least, older));
    half = λ never. greatest_of g at logs told one tell there gone (λ k log is. below g log (near k log is));
  };
}

-- something holds of each log with another one in its place
set_holds : {D : Type 0} (P : ℕ → StoreLog D → Type 0) (log : ℕ) (old new : List (StoreLog D)) (before after : StoreLog D) → slice_get old log ≡ Some before
    → new ≡ slice_set old log after → P log after → ((k : ℕ) (l : StoreLog D) → slice_get old k ≡ Some l → k ≢ log → P k l)
    → (k : ℕ) (l : StoreLog D) → slice_get new k ≡ Some l → P k l
set_holds {D} P log old new before after was stands here others k l there =
    let is_set : slice_get (slice_set old log after) k ≡ Some l = ap (λ (ls : List (StoreLog D)). slice_get ls k) (sym stands) ∙ there in
    ⊎_elim
    (λ (e : k ≡ log).
    let now : after ≡ l = same_Some after l (sym (set_there old log after (slice_get_within old log before was)) ∙ ap (slice_get (slice_set old log after)) (sym e) ∙ is_set) in
    subst (λ (n : ℕ). P n l) (sym e) (subst (P log) now here))
    (λ other. others k l (sym (set_other old log k after other) ∙ is_set) other)
    (cases_eq k log)

-- there is a log
some_log : {D : Type 0} (g : ℕ) (logs : List (StoreLog D)) → GoOnTo g logs → 0 < length logs
some_log g [] goes =
    let none : AllTell [] [] = record { count = refl; each = λ k log t there. absurd (let within = slice_get_within [] k log there in omega (arith, within)) } in
    let is = goes.tell [] none in
    let zero_is = is.whole 0 (All-nil (OfIt 0)) in
    let one_is = is.whole 1 (All-nil (OfIt 1)) in
    absurd (omega (arith, zero_is, one_is))
some_log g (log ∷ logs) goes = omega arith

module _ {D S : Type 0} (is_honest : D → Bool) (state : D → DiskState) (failures : D → ℕ) (source : S → OwnState) (logs : S → List (StoreLog D)) (g : ℕ) where
  abbrev does : S → Turn → S → Type 0
  does old turn new = DoesStore is_honest state failures turn (source old) (logs old) (source new) (logs new)

  all_left : (count : ℕ) (old new : S) → Left g 0 (logs old) → EachOf (GivesUpOne does) count old new → Left g count (logs new) × (length (logs new) ≡ length (logs old))
  all_left zero old new l same = (
    subst (λ (s : S). Left g 0 (logs s)) (sym same) l,
    ap (λ (s : S). length (logs s)) same,
  )
  all_left (suc log) old new l (mid, before, t) =
      let a = all_left log old mid l before in
      let n = gives_near is_honest state failures g t.before t.after (a.0.near log t.before t.there) t.turns.0 in
      let same = gives_same is_honest state failures t.before t.after t.turns.0 in
      let is = n.1 in (
        record {
          near = set_holds (λ k x. IsNear g x) log (logs mid) (logs new) t.before t.after t.there t.stands n.0 (λ k x there other. a.0.near k x there);
          gone = set_holds (λ k x. x.log.generation ≡ g) log (logs mid) (logs new) t.before t.after t.there t.stands (same ∙ a.0.gone log t.before t.there) (λ k x there other. a.0.gone k x there);
          left = λ k x less there.
              set_holds (λ k x. k < suc log → x.log.generation ≤ x.oldest) log (logs mid) (logs new) t.before t.after t.there t.stands (λ within. omega (arith, is))
              (λ k x there other within. a.0.left k x (omega (arith, within, other)) there) k x there less;
        },
        ap (λ (ls : List (StoreLog D)). length ls) t.stands ∙ length-set (logs mid) log t.after ∙ a.1,
      )

  -- ---- the parts of a turn

  the_generation : (generation : ℕ) (s : S) → GoOnTo g (logs s) → TellsNext does (length (logs s)) s (Ok generation) → generation ≡ g
  the_generation generation s goes next =
      one_next generation g next.0 next.2 (goes.tell next.0 (all_tell is_honest state failures source logs g next.0 s next.1))

  begun_all : (generation : ℕ) (old new : S) → GoOnTo g (logs old) → TellsNext does (length (logs old)) old (Ok generation)
      → TellsBegun does generation (length (logs old)) old new (Ok tt) → Gone is_honest state failures source logs g (length (logs old)) old new
  begun_all generation old new goes next each =
      all_begin is_honest state failures source logs g (length (logs old)) old new goes.near
      (subst (λ (n : ℕ). TellsBegun does n (length (logs old)) old new (Ok tt)) (the_generation generation old goes next) each)

  begun_some : (generation : ℕ) (e : Refusal) (old new : S) → GoOnTo g (logs old) → TellsNext does (length (logs old)) old (Ok generation)
      → TellsBegun does generation (length (logs old)) old new (Err e) → GoOnTo g (logs new)
  begun_some generation e old new goes next stops =
      still g (logs old) (logs new) goes
      (begins_told is_honest state failures source logs g (Err e) (length (logs old)) old new goes.near
      (subst (λ (n : ℕ). TellsBegun does n (length (logs old)) old new (Err e)) (the_generation generation old goes next) stops))

  same_goes : (old new : S) → GoOnTo g (logs old) → new ≡ old → GoOnTo g (logs new)
  same_goes old new goes same = subst (λ (s : S). GoOnTo g (logs s)) (sym same) goes

  -- after a Settle all logs are of the generation still
  settled_left : (n : ℕ) (old begun settled : S) → Gone is_honest state failures source logs g (length (logs old)) old begun
      → Settles does (length (logs old)) begun settled (Ok n) → Left g 0 (logs settled) × AllGo g (logs begun) (logs settled)
  settled_left n old begun settled gone s =
      let near = near_after g (logs old) (logs begun) gone.all in
      let all = settle_goes is_honest state failures source logs g (Ok n) (length (logs old)) begun settled near s in
      let len = gone.all.len in (
        record {
          near = near_after g (logs begun) (logs settled) all;
          gone = stay_gone is_honest state failures source logs g begun settled all (λ k log there.
              let within = slice_get_within (logs begun) k log there in
              gone.gone k log (omega (arith, within, len)) there);
          left = λ k log less. absurd (omega (arith, less));
        },
        all,
      )

  -- a Settle and what follows it
  module _ {G : Type 0} (calls : G → DigestCall → G → Type 0) (old begun new : S) (was is : G) (owed closed : ℕ) (goes : GoOnTo g (logs old))
      (gone : Gone is_honest state failures source logs g (length (logs old)) old begun) where
    begun_goes : GoOnTo g (logs begun)
    begun_goes = still g (logs old) (logs begun) goes gone.all

    ends_whole : TellsEnd does calls (length (logs old)) owed closed begun was new is (Ok tt) → GoOnTo (g + 1) (logs new)
    ends_whole (inl none) = absurd none
    ends_whole (inr ends) =
        let l = settled_left ends.number old begun ends.settled gone ends.settles in
        let len = l.1.len in
        let first = gone.all.len in
        let some = some_log g (logs old) goes in
        let a = all_left (length (logs old)) ends.settled new l.0 ends.older.1.gives in
        let long = a.1 in
        on_to_next g (logs new) (subst (λ (n : ℕ). Left g n (logs new)) (omega (arith, long, len, first)) a.0) (omega (arith, long, len, first, some))

    settled_goes : (number : ℕ) (settled : S) → SettlesAll does (length (logs old)) begun settled number → GoOnTo g (logs settled)
    settled_goes number settled settles = still g (logs begun) (logs settled) begun_goes (settled_left number old begun settled gone settles).1

    ends_stopped : (stop : TurnStop) → TellsEnd does calls (length (logs old)) owed closed begun was new is (Err stop) → GoOnTo g (logs new)
    ends_stopped (Logs e) (inl stops) =
        still g (logs begun) (logs new) begun_goes
        (settle_goes is_honest state failures source logs g (Err e) (length (logs old)) begun new begun_goes.near stops.0)
    ends_stopped (Digest d e) (inl none) = absurd none
    ends_stopped (Checkpoint c) (inl none) = absurd none
    ends_stopped (Checkpoint c) (inr ends) = absurd ends.older
    ends_stopped (Digest (OfSlot slot) e) (inr ends) = absurd ends.older
    ends_stopped (Digest (OfLogs h) e) (inr ends) = same_goes ends.settled new (settled_goes ends.number ends.settled ends.settles) ends.older.3
    ends_stopped (Logs e) (inr ends) =
        let l = settled_left ends.number old begun ends.settled gone ends.settles in
        ⊎_elim
        (λ short. same_goes ends.settled new (settled_goes ends.number ends.settled ends.settles) short.2)
        (λ stops.
        let given = stops.1.gives in
        let a = (all_left given.log ends.settled given.mid l.0 given.before).0 in
        let t = given.refuses in
        let n = fails_near is_honest state failures g e t.before t.after (a.near given.log t.before t.there) t.turns.0 in
        let same = fails_same is_honest state failures e t.before t.after t.turns.0 in
        back_to_same g (logs new) given.log t.after
        (set_holds (λ k x. IsNear g x) given.log (logs given.mid) (logs new) t.before t.after t.there t.stands n.0 (λ k x there other. a.near k x there))
        (ap (λ (ls : List (StoreLog D)). slice_get ls given.log) t.stands ∙ set_there (logs given.mid) given.log t.after (slice_get_within (logs given.mid) given.log t.before t.there))
        (same ∙ a.gone given.log t.before t.there)
        n.1)
        ends.older

-- ---- a whole turn, and one that was stopped

module _ {D S T K G : Type 0} (is_honest : D → Bool) (state : D → DiskState) (failures : D → ℕ) (source : S → OwnState) (logs : S → List (StoreLog D)) (g : ℕ)
    (shows : T → Period → T → Type 0) (worker : ℕ) (keeps_rules : K → Bool) (found : K → DiskState) (errors : K → ℕ) (calls : G → DigestCall → G → Type 0) (h : ℕ) (tenants : List ℕ) (old new : Parts S T K G) where
  abbrev turns : S → Turn → S → Type 0
  turns was turn is = DoesStore is_honest state failures turn (source was) (logs was) (source is) (logs is)

  abbrev count : ℕ
  count = length (logs old.logs)

  begun_gone : (closed : ℕ) (begun : S) (was is : G) → GoOnTo g (logs old.logs) → Begins turns calls count h closed old.logs was begun is
      → Gone is_honest state failures source logs g count old.logs begun
  begun_gone closed begun was is goes b = begun_all is_honest state failures source logs g h old.logs begun goes b.next b.then.0

  pub after_whole : GoOnTo g (logs old.logs) → WritesTurn turns shows worker keeps_rules found errors calls count h tenants old new → (h ≡ g) × GoOnTo (g + 1) (logs new.logs)
  after_whole goes w = (
    the_generation is_honest state failures source logs g h old.logs goes w.begins.next,
    ends_whole is_honest state failures source logs g calls old.logs w.begun new.logs w.kept new.digests new.slots.owed w.closed goes
        (begun_gone w.closed w.begun old.digests w.before goes w.begins) w.ends,
  )

  stopped_before : (stop : TurnStop) → GoOnTo g (logs old.logs) → StopsBeginning turns calls count h stop old.logs old.digests new.logs new.digests → GoOnTo g (logs new.logs)
  stopped_before (Logs e) goes (inl none) = same_goes is_honest state failures source logs g old.logs new.logs goes none.1
  stopped_before (Logs e) goes (inr c) = begun_some is_honest state failures source logs g h e old.logs new.logs goes c.next c.then.0
  stopped_before (Digest (OfLogs k) e) goes (inl none) = same_goes is_honest state failures source logs g old.logs new.logs goes none.3
  stopped_before (Digest (OfLogs k) e) goes (inr c) =
      still g (logs old.logs) (logs new.logs) goes (begun_all is_honest state failures source logs g h old.logs new.logs goes c.next c.then.0).all
  stopped_before (Digest (OfSlot k) e) goes none = absurd none
  stopped_before (Checkpoint c) goes none = absurd none

  pub after_stopped : (stop : TurnStop) → GoOnTo g (logs old.logs) → StopsTurn turns shows worker keeps_rules found errors calls count h tenants stop old new → GoOnTo g (logs new.logs)
  after_stopped stop goes (inl before) = stopped_before stop goes before.stops
  after_stopped stop goes (inr (inl w)) = still g (logs old.logs) (logs new.logs) goes (begun_gone w.closed new.logs old.digests w.before goes w.begins).all
  after_stopped stop goes (inr (inr w)) =
      ends_stopped is_honest state failures source logs g calls old.logs w.begun new.logs w.kept new.digests new.slots.owed w.closed goes
      (begun_gone w.closed w.begun old.digests w.before goes w.begins) stop w.ends
