-- A log that goes on in a turn of its store, and to which generation the next turn of all logs goes.
use Rattle.std.proofs.Common.{◌≡◌, ◌≢◌, ◌⊎◌, inl, inr, ⊎_elim, ℕ, zero, suc, ◌+◌, ◌<◌, ◌≤◌, Bool, true, false, List, [], ◌∷◌, ◌++◌, length, map, Some, Result, Ok, Err, refl, sym, ap, ◌∙◌, subst, arith}
use Rattle.std.proofs.{lemmas.List.{length-map, length-set}, lemmas.Bool.{cases_eq, cases_lt, lt-ltb, ltb-true}, lemmas.Option.{same_Some, slice_get_within, slice_get-get_or, slice_get-map}}
use Rattle.std.proofs.lemmas.List.Elements.{All-cons, All-nil, All-head, All-tail, All-contains}
use Rattle.std.specs.{Prelude.{slice_get, slice_set, nat_lt}, List.{All, Contains}, Option.option_map, Result.result_unwrap_or}
use Rattle.mt_rows.specs.{declared.record.Batch.Batch, declared.refusal.Refusal.Refusal}
use Rattle.mt_disk.specs.Disk.{DiskState}
use Rattle.mt_crashes.proofs.Invariant.{within_place}
use Rattle.mt_turns.specs.{declared.worker_log.WorkerLog.WorkerLog}
use Rattle.mt_store_logs.specs.{declared.last_log.LastLog.LastLog, declared.store_log.StoreLog.StoreLog, declared.standing.Generations.Generations, Places.OnLast, Standing.TellsOf}
use Rattle.mt_store_logs.specs.{LogTurns.{BringsUp, FailsToBringUp}, Turns.{LooksForNext, FailsToLook, ReopensLog, FailsToReopenLog, BeginsNextLog, FailsToBeginNextLog}}
use Rattle.mt_settle.specs.{Turns.{Turn, BroughtUp, Told, Chain}, Settles.{turns_from, Settles}, Parts.{EachOf, BeginsOne, TellsBegun}}
use Rattle.mt_settle.specs.Next.{AreOf, IsGreatest, IsNextOf, Tell, TellAll, TellsNext}
use Rattle.mt_stored.specs.{declared.source.OwnState.OwnState, Begins.{BringsUpAndBegins, FailsToBringUpAndBegin}, Stores.{gives_own, DoesStore}, NextTurns.{IsNear, AreNear, AllTell, GoOnTo, IsNextTurn}}
use Rattle.mt_stored.proofs.StoreTurns.{set_there, set_other}

pub clash : true ≡ false → ⊥
clash e = absurd cc

none_there : {X : Type 0} (k : ℕ) (x : X) → slice_get [] k ≡ Some x → ⊥
none_there k x there = let within = slice_get_within [] k x there in omega (arith, within)

-- ---- one log

-- It is near the same generation still, is of the same one as before or of a later one, and the oldest one that may stand is the same.
pub record Goes {D : Type 0} (g : ℕ) (old new : StoreLog D) : Type 0 where
  pub near : IsNear g new
  pub oldest : new.oldest ≡ old.oldest
  pub up : old.log.generation ≤ new.log.generation

module _ {D : Type 0} (g : ℕ) where
  stays : (old new : StoreLog D) → IsNear g old → new.oldest ≡ old.oldest → new.log.generation ≡ old.log.generation → new.next_in_doubt ≡ old.next_in_doubt → Goes g old new
  stays old new near oldest same doubts =
      let before = near.oldest in
      record {
        near = record {
          oldest = omega (arith, before, oldest, same);
          at = ⊎_elim (λ e. inl (ap (λ (n : ℕ). n + 1) same ∙ e)) (λ gone. inr (same ∙ gone.0, doubts ∙ gone.1)) near.at;
        };
        oldest = oldest;
        up = omega (arith, same);
      }

  itself : (log : StoreLog D) → IsNear g log → Goes g log log
  itself log near = stays log log near refl refl refl

  chain : (a b c : StoreLog D) → Goes g a b → Goes g b c → Goes g a c
  chain a b c one two = let x = one.up in let y = two.up in record { near = two.near; oldest = two.oldest ∙ one.oldest; up = omega (arith, x, y) }

  in_doubt : (log : StoreLog D) → IsNear g log → log.next_in_doubt ≡ true → log.log.generation + 1 ≡ g
  in_doubt log near doubt = ⊎_elim (λ before. before) (λ gone. absurd (clash (sym doubt ∙ gone.1))) near.at

  is_before : (log : StoreLog D) → IsNear g log → log.log.generation < g → log.log.generation + 1 ≡ g
  is_before log near less = ⊎_elim (λ before. before) (λ gone. let e = gone.0 in absurd (omega (arith, less, e))) near.at

  has_gone : (log : StoreLog D) → IsNear g log → g ≤ log.log.generation → log.log.generation ≡ g
  has_gone log near more = ⊎_elim (λ before. absurd (omega (arith, before, more))) (λ gone. gone.0) near.at

  -- the same generation and oldest log, and the next one may be in doubt
  doubted : (old new : StoreLog D) → IsNear g old → new.oldest ≡ old.oldest → new.log.generation ≡ old.log.generation → old.log.generation + 1 ≡ g → Goes g old new
  doubted old new near oldest same before =
      let least = near.oldest in
      record { near = record { oldest = omega (arith, least, oldest, same); at = inl (ap (λ (n : ℕ). n + 1) same ∙ before) }; oldest = oldest; up = omega (arith, same) }

  -- the next one, of which none is in doubt
  next_one : (old new : StoreLog D) → IsNear g old → new.oldest ≡ old.oldest → new.log.generation ≡ old.log.generation + 1 → old.log.generation + 1 ≡ g → new.next_in_doubt ≡ false → Goes g old new
  next_one old new near oldest next before sure =
      let least = near.oldest in
      record { near = record { oldest = omega (arith, least, oldest, next); at = inr (next ∙ before, sure) }; oldest = oldest; up = omega (arith, next) }

  on_last : {Does : LastLog D → LastLog D → Type 0} (old new : StoreLog D) → IsNear g old → OnLast Does old new → Goes g old new
  on_last old new near on = stays old new near on.oldest (ap (λ (l : WorkerLog D). l.generation) on.rest) on.doubts

  last_same : {Does : LastLog D → LastLog D → Type 0} (old new : StoreLog D) → OnLast Does old new → new.log.generation ≡ old.log.generation
  last_same old new on = ap (λ (l : WorkerLog D). l.generation) on.rest

  module _ (is_honest : D → Bool) (state : D → DiskState) (failures : D → ℕ) where
    looked : (old new : StoreLog D) → IsNear g old → LooksForNext is_honest state failures old new → Goes g old new
    looked old new near (inl same) = subst (Goes g old) (sym same.1) (itself old near)
    looked old new near (inr look) =
        let before = in_doubt old near look.0 in
        ⊎_elim
        (λ found. next_one old new near look.1.oldest (ap (λ (l : WorkerLog D). l.generation) found.stands) before look.1.doubts)
        (λ none. doubted old new near look.1.oldest (ap (λ (l : WorkerLog D). l.generation) none.stands) before)
        look.1.does

    not_looked : (e : Refusal) (old new : StoreLog D) → IsNear g old → FailsToLook is_honest state failures e old new → Goes g old new
    not_looked e old new near look =
        doubted old new near look.1.oldest (ap (λ (l : WorkerLog D). l.generation) look.1.does.stands) (in_doubt old near look.0)

    reopened : (old new : StoreLog D) → IsNear g old → ReopensLog is_honest state failures old new → Goes g old new
    reopened old new near r =
        let first = looked old r.mid near r.looks in
        chain old r.mid new first (on_last r.mid new first.near r.reopens)

    not_reopened : (e : Refusal) (old new : StoreLog D) → IsNear g old → FailsToReopenLog is_honest state failures e old new → Goes g old new
    not_reopened e old new near (inl look) = not_looked e old new near look
    not_reopened e old new near (inr shut) =
        let first = looked old shut.mid near shut.looks in
        chain old shut.mid new first (on_last shut.mid new first.near shut.fails)

    begun : (old new : StoreLog D) → IsNear g old → old.log.generation < g → BeginsNextLog is_honest state failures old new → Goes g old new
    begun old new near less on =
        next_one old new near on.oldest (ap (λ (l : WorkerLog D). l.generation) on.does.stands) (is_before old near less) on.doubts

    not_begun : (e : Refusal) (old new : StoreLog D) → IsNear g old → old.log.generation < g → FailsToBeginNextLog is_honest state failures e old new → Goes g old new
    not_begun e old new near less (inl none) = subst (Goes g old) (sym none.1) (itself old near)
    not_begun e old new near less (inr (inl failed)) =
        doubted old new near failed.1.oldest (ap (λ (l : WorkerLog D). l.generation) failed.1.does.stands) (is_before old near less)
    not_begun e old new near less (inr (inr found)) =
        stays old new near found.1.oldest (ap (λ (l : WorkerLog D). l.generation) found.1.does.stands) found.1.doubts

    module _ {S : Type 0} (gives : S → S → ℕ → Batch → Type 0) (upto : ℕ) where
      brought_up : (mark : ℕ) (old new : StoreLog D) (was is : S) → IsNear g old → BringsUp is_honest state failures gives upto mark old new was is → Goes g old new
      brought_up mark old new was is near b =
          let first = reopened old b.mid near b.opens in
          chain old b.mid new first (on_last b.mid new first.near b.flushes)

      not_brought_up : (e : Refusal) (old new : StoreLog D) (was is : S) → IsNear g old → FailsToBringUp is_honest state failures gives upto e old new was is → Goes g old new
      not_brought_up e old new was is near (inl shut) = not_reopened e old new near shut.fails
      not_brought_up e old new was is near (inr not) =
          let first = reopened old not.mid near not.opens in
          chain old not.mid new first (on_last not.mid new first.near not.fails)

      begins : (mark : ℕ) (old new : StoreLog D) (was is : S) → IsNear g old → BringsUpAndBegins is_honest state failures gives upto g mark old new was is
          → Goes g old new × (new.log.generation ≡ g)
      begins mark old new was is near b = ⊎_elim
          (λ next.
          let less = next.0 in
          let flushed = on_last b.mid next.1.mid first.near next.1.flushes in
          let same = last_same b.mid next.1.mid next.1.flushes in
          let last = begun next.1.mid new flushed.near (omega (arith, less, same)) next.1.begins in
          let up : new.log.generation ≡ next.1.mid.log.generation + 1 = ap (λ (l : WorkerLog D). l.generation) next.1.begins.does.stands in
          (chain old b.mid new first (chain b.mid next.1.mid new flushed last), up ∙ is_before next.1.mid flushed.near (omega (arith, less, same))))
          (λ there.
          let more = there.0 in
          let flushed = on_last b.mid new first.near there.1 in
          let same = last_same b.mid new there.1 in
          (chain old b.mid new first flushed, has_gone new flushed.near (omega (arith, more, same))))
          b.begins
        where
          first : Goes g old b.mid
          first = reopened old b.mid near b.opens

      begins_not : (e : Refusal) (old new : StoreLog D) (was is : S) → IsNear g old → FailsToBringUpAndBegin is_honest state failures gives upto g e old new was is → Goes g old new
      begins_not e old new was is near (inl shut) = not_reopened e old new near shut.fails
      begins_not e old new was is near (inr opens) =
          let first = reopened old opens.mid near opens.opens in
          chain old opens.mid new first
          (⊎_elim
          (λ next.
          let less = next.0 in
          ⊎_elim
          (λ not. on_last opens.mid new first.near not)
          (λ only.
          let flushed = on_last opens.mid only.mid first.near only.flushes in
          let same = last_same opens.mid only.mid only.flushes in
          chain opens.mid only.mid new flushed (not_begun e only.mid new flushed.near (omega (arith, less, same)) only.fails))
          next.1)
          (λ there. on_last opens.mid new first.near there.1)
          opens.fails)

-- ---- all logs

pub record AllGo {D : Type 0} (g : ℕ) (old new : List (StoreLog D)) : Type 0 where
  pub len : length new ≡ length old
  pub each : (k : ℕ) (was is : StoreLog D) → slice_get old k ≡ Some was → slice_get new k ≡ Some is → Goes g was is

module _ {D : Type 0} (g : ℕ) where
  all_same : (logs : List (StoreLog D)) → AreNear g logs → AllGo g logs logs
  all_same logs near = record {
    len = refl;
    each = λ k was is there then. subst (Goes g was) (same_Some was is (sym there ∙ then)) (itself g was (near k was there));
  }

  all_chain : (a b c : List (StoreLog D)) → AllGo g a b → AllGo g b c → AllGo g a c
  all_chain a b c one two = record {
    len = two.len ∙ one.len;
    each = λ k was is there then.
        let within = slice_get_within a k was there in
        let len = one.len in
        let mid = within_place b k (omega (arith, within, len)) in
        chain g was mid.0 is (one.each k was mid.0 there mid.1) (two.each k mid.0 is mid.1 then);
  }

  pub near_after : (old new : List (StoreLog D)) → AllGo g old new → AreNear g new
  near_after old new all k is there =
      let within = slice_get_within new k is there in
      let len = all.len in
      let was = within_place old k (omega (arith, within, len)) in
      (all.each k was.0 is was.1 there).near

  set_goes : (log : ℕ) (old new : List (StoreLog D)) (before after : StoreLog D) → slice_get old log ≡ Some before → new ≡ slice_set old log after → AreNear g old
      → Goes g before after → AllGo g old new
  set_goes log old new before after there stands near goes = record {
    len = ap (λ (ls : List (StoreLog D)). length ls) stands ∙ length-set old log after;
    each = λ k was is was_there is_there. (
        let is_set : slice_get (slice_set old log after) k ≡ Some is = ap (λ (ls : List (StoreLog D)). slice_get ls k) (sym stands) ∙ is_there in
        ⊎_elim
        (λ (e : k ≡ log).
        let own : before ≡ was = same_Some before was (sym there ∙ ap (slice_get old) (sym e) ∙ was_there) in
        let now : after ≡ is = same_Some after is (sym (set_there old log after (slice_get_within old log before there)) ∙ ap (slice_get (slice_set old log after)) (sym e) ∙ is_set) in
        subst (λ x. Goes g x is) own (subst (Goes g before) now goes))
        (λ other.
        let same : was ≡ is = same_Some was is (sym was_there ∙ sym (set_other old log k after other) ∙ is_set) in
        subst (Goes g was) same (itself g was (near k was was_there)))
        (cases_eq k log)
        );
  }

-- ---- turns of a store

module _ {D S : Type 0} (is_honest : D → Bool) (state : D → DiskState) (failures : D → ℕ) (source : S → OwnState) (logs : S → List (StoreLog D)) (g : ℕ) where
  abbrev does : S → Turn → S → Type 0
  does old turn new = DoesStore is_honest state failures turn (source old) (logs old) (source new) (logs new)

  same_logs : (old new : S) → new ≡ old → AreNear g (logs old) → AllGo g (logs old) (logs new)
  same_logs old new same near = subst (λ (s : S). AllGo g (logs old) (logs s)) (sym same) (all_same g (logs old) near)

  up : (log : ℕ) (told : Result ℕ Refusal) (old new : S) → AreNear g (logs old) → does old (BroughtUp log told) new → AllGo g (logs old) (logs new)
  up log (Ok mark) old new near t =
      set_goes g log (logs old) (logs new) t.before t.after t.there t.stands near
      (brought_up g is_honest state failures gives_own (source old).state.steps mark t.before t.after (source old) (source new) (near log t.before t.there) t.turns)
  up log (Err e) old new near t =
      set_goes g log (logs old) (logs new) t.before t.after t.there t.stands near
      (not_brought_up g is_honest state failures gives_own (source old).state.steps e t.before t.after (source old) (source new) (near log t.before t.there) t.turns)

  chain_up : (log : ℕ) (marks : List ℕ) (old new : S) → AreNear g (logs old) → Chain does old (turns_from log marks) new → AllGo g (logs old) (logs new)
  chain_up log [] old new near turns = same_logs old new turns near
  chain_up log (m ∷ ms) old new near (mid, d, rest) =
      let first = up log (Ok m) old mid near d in
      all_chain g (logs old) (logs mid) (logs new) first (chain_up (log + 1) ms mid new (near_after g (logs old) (logs mid) first) rest)

  chain_stops : (log last : ℕ) (e : Refusal) (marks : List ℕ) (old new : S) → AreNear g (logs old) → Chain does old (turns_from log marks ++ BroughtUp last (Err e) ∷ []) new
      → AllGo g (logs old) (logs new)
  chain_stops log last e [] old new near (mid, d, same) =
      let first = up last (Err e) old mid near d in
      all_chain g (logs old) (logs mid) (logs new) first (same_logs mid new same (near_after g (logs old) (logs mid) first))
  chain_stops log last e (m ∷ ms) old new near (mid, d, rest) =
      let first = up log (Ok m) old mid near d in
      all_chain g (logs old) (logs mid) (logs new) first (chain_stops (log + 1) last e ms mid new (near_after g (logs old) (logs mid) first) rest)

  pub settle_goes : (told : Result ℕ Refusal) (count : ℕ) (old new : S) → AreNear g (logs old) → Settles does count old new told → AllGo g (logs old) (logs new)
  settle_goes (Ok n) count old new near s = chain_up 0 s.marks old new near s.turns
  settle_goes (Err e) count old new near (inl none) = same_logs old new none.2 near
  settle_goes (Err e) count old new near (inr stops) = chain_stops 0 (length stops.marks) e stops.marks old new near stops.turns

  -- the first so many logs are of the generation
  pub record Gone (count : ℕ) (old new : S) : Type 0 where
    pub all : AllGo g (logs old) (logs new)
    pub gone : (k : ℕ) (log : StoreLog D) → k < count → slice_get (logs new) k ≡ Some log → log.log.generation ≡ g

  pub all_begin : (count : ℕ) (old new : S) → AreNear g (logs old) → EachOf (BeginsOne does g) count old new → Gone count old new
  all_begin zero old new near each = record { all = same_logs old new each near; gone = λ k log less. absurd (omega (arith, less)) }
  all_begin (suc log) old new near (mid, before, (mark, t)) =
      let a = all_begin log old mid near before in
      let near_mid = near_after g (logs old) (logs mid) a.all in
      let b = begins g is_honest state failures gives_own (source mid).state.steps mark t.before t.after (source mid) (source new) (near_mid log t.before t.there) t.turns in
      let one = set_goes g log (logs mid) (logs new) t.before t.after t.there t.stands near_mid b.0 in
      record {
        all = all_chain g (logs old) (logs mid) (logs new) a.all one;
        gone = λ k is less there. (
            let is_set : slice_get (slice_set (logs mid) log t.after) k ≡ Some is = ap (λ (ls : List (StoreLog D)). slice_get ls k) (sym t.stands) ∙ there in
            ⊎_elim
            (λ (e : k ≡ log).
            let now : t.after ≡ is =
            same_Some t.after is (sym (set_there (logs mid) log t.after (slice_get_within (logs mid) log t.before t.there)) ∙ ap (slice_get (slice_set (logs mid) log t.after)) (sym e) ∙ is_set) in
            ap (λ (l : StoreLog D). l.log.generation) (sym now) ∙ b.1)
            (λ other. a.gone k is (omega (arith, less, other)) (sym (set_other (logs mid) log k t.after other) ∙ is_set))
            (cases_eq k log)
            );
      }

  pub begins_told : (told : Result (Unit {0}) Refusal) (count : ℕ) (old new : S) → AreNear g (logs old) → TellsBegun does g count old new told → AllGo g (logs old) (logs new)
  begins_told (Ok x) count old new near each = (all_begin count old new near each).all
  begins_told (Err e) count old new near stops =
      let a = (all_begin stops.log old stops.mid near stops.before).all in
      let near_mid = near_after g (logs old) (logs stops.mid) a in
      let t = stops.refuses in
      all_chain g (logs old) (logs stops.mid) (logs new) a
      (set_goes g stops.log (logs stops.mid) (logs new) t.before t.after t.there t.stands near_mid
      (begins_not g is_honest state failures gives_own (source stops.mid).state.steps e t.before t.after (source stops.mid) (source new) (near_mid stops.log t.before t.there) t.turns))

  -- logs that went to it stay there
  pub stay_gone : (old new : S) → AllGo g (logs old) (logs new) → ((k : ℕ) (log : StoreLog D) → slice_get (logs old) k ≡ Some log → log.log.generation ≡ g)
      → (k : ℕ) (log : StoreLog D) → slice_get (logs new) k ≡ Some log → log.log.generation ≡ g
  stay_gone old new all gone k log there =
      let within = slice_get_within (logs new) k log there in
      let len = all.len in
      let was = within_place (logs old) k (omega (arith, within, len)) in
      let goes = all.each k was.0 log was.1 there in
      let before = gone k was.0 was.1 in
      let more = goes.up in
      has_gone g log goes.near (omega (arith, before, more))

  -- ---- what logs tell

  tells_at : (log k : ℕ) (told : List Generations) (s : S) (t : Generations) → Tell does log told s → slice_get told k ≡ Some t → does s (Told (log + k) (Ok t)) s
  tells_at log k [] s t tell there = absurd (none_there k t there)
  tells_at log zero (u ∷ told) s t tell there =
      subst (λ (n : ℕ). does s (Told n (Ok t)) s) (omega arith) (subst (λ (x : Generations). does s (Told log (Ok x)) s) (same_Some u t there) tell.0)
  tells_at log (suc k) (u ∷ told) s t tell there = subst (λ (n : ℕ). does s (Told n (Ok t)) s) (omega arith) (tells_at (log + 1) k told s t tell.1 there)

  pub all_tell : (told : List Generations) (s : S) → TellAll does (length (logs s)) told s → AllTell (logs s) told
  all_tell told s tell = record {
    count = tell.all;
    each = λ k log t there then. (
        let d = subst (λ (n : ℕ). does s (Told n (Ok t)) s) (omega arith) (tells_at 0 k told s t tell.tell then) in
        subst (λ (l : StoreLog D). TellsOf l t) (same_Some d.0 log (sym d.1 ∙ there)) d.2
        );
  }

-- ---- to which generation the next turn goes

all_by : {X : Type 0} (P : X → Type 0) (xs : List X) → ((k : ℕ) (x : X) → slice_get xs k ≡ Some x → P x) → All P xs
all_by P [] each = All-nil P
all_by P (x ∷ xs) each = All-cons P x xs (each 0 x refl) (all_by P xs (λ k y there. each (suc k) y there))

pub of_all : {X : Type 0} (P : X → Type 0) (xs : List X) (k : ℕ) (x : X) → All P xs → slice_get xs k ≡ Some x → P x
of_all P [] k x all there = absurd (none_there k x there)
of_all P (y ∷ xs) zero x all there = subst P (same_Some y x there) (All-head P y xs all)
of_all P (y ∷ xs) (suc k) x all there = of_all P xs k x (All-tail P y xs all) there

contained : {X : Type 0} (xs : List X) (k : ℕ) (x : X) → slice_get xs k ≡ Some x → Contains xs x
contained xs k x there =
    let within = slice_get_within xs k x there in
    (k, within, same_Some _ x (sym (slice_get-get_or xs k x within) ∙ there))

placed : {X : Type 0} (xs : List X) (x : X) → Contains xs x → (k : ℕ) × (slice_get xs k ≡ Some x)
placed xs x (k, within, is) = (k, slice_get-get_or xs k x within ∙ ap Some is)

abbrev pub OfIt : ℕ → Generations → Type 0
OfIt m t = (t.last ≡ m) × (t.has_older ≡ false)

all_or_not : (m : ℕ) (told : List Generations) → AreOf m told ⊎ (AreOf m told → ⊥)
all_or_not m [] = inl (All-nil (OfIt m))
all_or_not m (t ∷ told) = by t.has_older refl (cases_eq t.last m) (all_or_not m told)
  where
    by : (flag : Bool) → t.has_older ≡ flag → (t.last ≡ m) ⊎ (t.last ≡ m → ⊥) → AreOf m told ⊎ (AreOf m told → ⊥) → AreOf m (t ∷ told) ⊎ (AreOf m (t ∷ told) → ⊥)
    by true some e rest = inr (λ are. clash (sym some ∙ (All-head (OfIt m) t told are).1))
    by false none (inr other) rest = inr (λ are. other (All-head (OfIt m) t told are).0)
    by false none (inl same) (inl rest) = inl (All-cons (OfIt m) t told (same, none) rest)
    by false none (inl same) (inr not) = inr (λ are. not (All-tail (OfIt m) t told are))

one_or_not : (told : List Generations) → ((m : ℕ) × AreOf m told) ⊎ ((m : ℕ) → AreOf m told → ⊥)
one_or_not [] = inl (0, All-nil (OfIt 0))
one_or_not (t ∷ told) = ⊎_elim
    (λ are. inl (t.last, are))
    (λ not. inr (λ m are. not (subst (λ (n : ℕ). AreOf n (t ∷ told)) (sym (All-head (OfIt m) t told are).0) are)))
    (all_or_not t.last (t ∷ told))

greatest_below : (a b : ℕ) (told : List Generations) → IsGreatest a told → IsGreatest b told → a ≤ b
greatest_below a b told x y =
    let below = All-contains (λ (t : Generations). t.last ≤ b) told x.log y.all x.among in
    let is = x.last in
    omega (arith, below, is)

-- there is one
pub one_next : (a b : ℕ) (told : List Generations) → IsNextOf told a → IsNextOf told b → a ≡ b
one_next a b told x y = ⊎_elim
    (λ one. x.whole one.0 one.1 ∙ sym (y.whole one.0 one.1))
    (λ none.
    let below = greatest_below a b told (x.half none) (y.half none) in
    let above = greatest_below b a told (y.half none) (x.half none) in
    omega (arith, below, above))
    (one_or_not told)

module _ {D : Type 0} where
  abbrev tell_of : StoreLog D → Generations
  tell_of log = record { last = log.log.generation; has_older = nat_lt log.oldest log.log.generation }

  -- no older log stands
  none_older : (log : StoreLog D) (t : Generations) → TellsOf log t → t.has_older ≡ false → log.log.generation ≤ log.oldest
  none_older log t tells none = ⊎_elim (λ less. absurd (clash (sym (tells.older.1 less) ∙ none))) (λ more. more) (cases_lt log.oldest log.log.generation)

  no_older : (log : StoreLog D) (t : Generations) → TellsOf log t → log.log.generation ≤ log.oldest → t.has_older ≡ false
  no_older log t tells more = by t.has_older refl
    where
      by : (flag : Bool) → t.has_older ≡ flag → t.has_older ≡ false
      by true some = let less = tells.older.0 some in absurd (omega (arith, less, more))
      by false none = none

  some_older : (log : StoreLog D) (t : Generations) → TellsOf log t → log.oldest < log.log.generation → t.has_older ≡ true
  some_older log t tells less = tells.older.1 less

  -- what is told at a place is told of the log there
  told_at : (logs : List (StoreLog D)) (told : List Generations) → AllTell logs told → (k : ℕ) (t : Generations) → slice_get told k ≡ Some t
      → (log : StoreLog D) × (slice_get logs k ≡ Some log) × TellsOf log t
  told_at logs told tell k t there =
      let within = slice_get_within told k t there in
      let count = tell.count in
      let log = within_place logs k (omega (arith, within, count)) in
      (log.0, log.1, tell.each k log.0 t log.1 there)

  tells_at_log : (logs : List (StoreLog D)) (told : List Generations) → AllTell logs told → (k : ℕ) (log : StoreLog D) → slice_get logs k ≡ Some log
      → (t : Generations) × (slice_get told k ≡ Some t) × TellsOf log t
  tells_at_log logs told tell k log there =
      let within = slice_get_within logs k log there in
      let count = tell.count in
      let t = within_place told k (omega (arith, within, count)) in
      (t.0, t.1, tell.each k log t.0 there t.1)

  pub all_of : (m : ℕ) (logs : List (StoreLog D)) (told : List Generations) → AllTell logs told
      → ((k : ℕ) (log : StoreLog D) → slice_get logs k ≡ Some log → (log.log.generation ≡ m) × (log.log.generation ≤ log.oldest)) → AreOf m told
  all_of m logs told tell each = all_by (OfIt m) told (λ k t there.
      let at = told_at logs told tell k t there in
      let log = each k at.0 at.1 in
      (at.2.last ∙ log.0, no_older at.0 t at.2 log.1))

  pub of_them : (m : ℕ) (logs : List (StoreLog D)) (told : List Generations) → AllTell logs told → AreOf m told
      → (k : ℕ) (log : StoreLog D) → slice_get logs k ≡ Some log → (log.log.generation ≡ m) × (log.log.generation ≤ log.oldest)
  of_them m logs told tell are k log there =
      let t = tells_at_log logs told tell k log there in
      let of = of_all (OfIt m) told k t.0 are t.1 in
      (sym t.2.last ∙ of.0, none_older log t.0 t.2 of.1)

  -- the greatest generation
  pub greatest_of : (g k : ℕ) (logs : List (StoreLog D)) (told : List Generations) (log : StoreLog D) → AllTell logs told → slice_get logs k ≡ Some log → log.log.generation ≡ g
      → ((k : ℕ) (log : StoreLog D) → slice_get logs k ≡ Some log → log.log.generation ≤ g) → IsGreatest g told
  greatest_of g k logs told log tell there is below =
      let t = tells_at_log logs told tell k log there in
      record {
        log = t.0;
        among = contained told k t.0 t.1;
        last = t.2.last ∙ is;
        all = all_by (λ (t : Generations). t.last ≤ g) told (λ j u at.
            let l = told_at logs told tell j u at in
            let same = l.2.last in
            let less = below j l.0 l.1 in
            omega (arith, same, less));
      }

  -- some log is of this generation, or none is
  some_or_none : (g : ℕ) (logs : List (StoreLog D)) → ((k : ℕ) × (log : StoreLog D) × (slice_get logs k ≡ Some log) × (log.log.generation ≡ g))
      ⊎ ((k : ℕ) (log : StoreLog D) → slice_get logs k ≡ Some log → log.log.generation ≢ g)
  some_or_none g [] = inr (λ k log there. absurd (none_there k log there))
  some_or_none g (x ∷ logs) = ⊎_elim
      (λ same. inl (0, x, refl, same))
      (λ other. ⊎_elim
      (λ some. inl (suc some.0, some.1, some.2, some.3))
      (λ none. inr (by other none))
      (some_or_none g logs))
      (cases_eq x.log.generation g)
    where
      by : (x.log.generation ≡ g → ⊥) → ((k : ℕ) (log : StoreLog D) → slice_get logs k ≡ Some log → log.log.generation ≢ g)
          → (k : ℕ) (log : StoreLog D) → slice_get (x ∷ logs) k ≡ Some log → log.log.generation ≢ g
      by other none zero log there is = other (ap (λ (l : StoreLog D). l.log.generation) (same_Some x log there) ∙ is)
      by other none (suc k) log there is = none k log there is

  tells_itself : (log : StoreLog D) → TellsOf log (tell_of log)
  tells_itself log = record { last = refl; older = (ltb-true log.oldest log.log.generation, lt-ltb log.oldest log.log.generation) }

  told_of : (logs : List (StoreLog D)) → AllTell logs (map tell_of logs)
  told_of logs = record {
    count = length-map logs tell_of;
    each = λ k log t there then. (
        let is : tell_of log ≡ t = same_Some (tell_of log) t (sym (slice_get-map tell_of logs k ∙ ap (option_map tell_of) there) ∙ then) in
        subst (TellsOf log) is (tells_itself log)
        );
  }

  pub below : (g : ℕ) (log : StoreLog D) → IsNear g log → log.log.generation ≤ g
  below g log near = ⊎_elim (λ before. omega (arith, before)) (λ gone. let e = gone.0 in omega (arith, e)) near.at

  -- while logs go on, the next turn goes to the same generation
  pub still : (g : ℕ) (old new : List (StoreLog D)) → GoOnTo g old → AllGo g old new → GoOnTo g new
  still g old new goes all = record { near = near; tell = λ told tell. record { whole = whole told tell; half = half told tell } }
    where
      near : AreNear g new
      near = near_after g old new all

      was : IsNextOf (map tell_of old) g
      was = goes.tell (map tell_of old) (told_of old)

      whole : (told : List Generations) → AllTell new told → (m : ℕ) → AreOf m told → g ≡ m + 1
      whole told tell m are = by old refl
        where
          of_new : (k : ℕ) (log : StoreLog D) → slice_get new k ≡ Some log → (log.log.generation ≡ m) × (log.log.generation ≤ log.oldest)
          of_new = of_them m new told tell are

          by : (first : List (StoreLog D)) → old ≡ first → g ≡ m + 1
          by [] none =
              let zero_is = was.whole 0 (all_of 0 old (map tell_of old) (told_of old) (λ k log there. absurd (none_there k log (ap (λ (ls : List (StoreLog D)). slice_get ls k) (sym none) ∙ there)))) in
              let one_is = was.whole 1 (all_of 1 old (map tell_of old) (told_of old) (λ k log there. absurd (none_there k log (ap (λ (ls : List (StoreLog D)). slice_get ls k) (sym none) ∙ there)))) in
              absurd (omega (arith, zero_is, one_is))
          by (x ∷ xs) some =
              let len = all.len in
              let long : length old ≡ suc (length xs) = ap (λ (ls : List (StoreLog D)). length ls) some in
              let at = within_place new 0 (omega (arith, len, long)) in
              let first = of_new 0 at.0 at.1 in
              ⊎_elim
              (λ before. let e = first.0 in omega (arith, before, e))
              (λ gone.
              let e : m ≡ g = sym first.0 ∙ gone.0 in
              let again : g ≡ g + 1 = was.whole g (all_of g old (map tell_of old) (told_of old) (λ k log there.
              let within = slice_get_within old k log there in
              let is = within_place new k (omega (arith, within, len)) in
              let goes_on = all.each k log is.0 there is.1 in
              let of = of_new k is.0 is.1 in
              let last = of.0 in
              let least = of.1 in
              let same = goes_on.oldest in
              let up = goes_on.up in
              let low = (goes.near k log there).oldest in
              (omega (arith, e, last, least, same, up, low), omega (arith, e, last, least, same, up, low)))) in
              absurd (omega (arith, again)))
              (near 0 at.0 at.1).at

      half : (told : List Generations) → AllTell new told → ((m : ℕ) → AreOf m told → ⊥) → IsGreatest g told
      half told tell never = ⊎_elim
          (λ some. greatest_of g some.0 new told some.1 tell some.2 some.3 (λ k log there. below g log (near k log there)))
          (λ none. absurd (no_log none))
          (some_or_none g new)
        where
          no_log : ((k : ℕ) (log : StoreLog D) → slice_get new k ≡ Some log → log.log.generation ≢ g) → ⊥
          no_log none =
              let before = λ (k : ℕ) (log : StoreLog D) (there : slice_get new k ≡ Some log). ⊎_elim (λ e. e) (λ gone. absurd (none k log there gone.0)) (near k log there).at in
              let never_old = λ (m : ℕ) (are : AreOf m (map tell_of old)). never m (all_of m new told tell (λ k log there.
              let within = slice_get_within new k log there in
              let len = all.len in
              let was_at = within_place old k (omega (arith, within, len)) in
              let of = of_them m old (map tell_of old) (told_of old) are k was_at.0 was_at.1 in
              let goes_on = all.each k was_at.0 log was_at.1 there in
              let e = before k log there in
              let up = goes_on.up in
              let same = goes_on.oldest in
              let last = of.0 in
              let least = of.1 in
              let old_at : was_at.0.log.generation + 1 ≡ g = ⊎_elim (λ x. x) (λ gone. let f = gone.0 in absurd (omega (arith, f, e, up))) (goes.near k was_at.0 was_at.1).at in
              (omega (arith, old_at, e, last), omega (arith, old_at, e, least, same)))) in
              let greatest = was.half never_old in
              let at = placed (map tell_of old) greatest.log greatest.among in
              let log = told_at old (map tell_of old) (told_of old) at.0 greatest.log at.1 in
              let within = slice_get_within old at.0 log.0 log.1 in
              let len = all.len in
              let is = within_place new at.0 (omega (arith, within, len)) in
              let e = before at.0 is.0 is.1 in
              let up = (all.each at.0 log.0 is.0 log.1 is.1).up in
              let last = greatest.last in
              let same = log.2.last in
              omega (arith, e, up, last, same)

-- to which generation the next turn goes, by what is told of it
module _ {D S : Type 0} (is_honest : D → Bool) (state : D → DiskState) (failures : D → ℕ) (source : S → OwnState) (logs : S → List (StoreLog D)) (s : S) where
  abbrev turns : S → Turn → S → Type 0
  turns old turn new = DoesStore is_honest state failures turn (source old) (logs old) (source new) (logs new)

  next_told : (told : Result ℕ Refusal) → TellsNext turns (length (logs s)) s told → IsNextTurn (logs s) (result_unwrap_or told 0)
  next_told (Ok n) tells = inl (tells.0, all_tell is_honest state failures source logs n tells.0 s tells.1, tells.2)
  next_told (Err e) (inl none) = inr (refl, inl none.0)
  next_told (Err e) (inr (inl stops)) = absurd stops.refuses
  next_told (Err e) (inr (inr spent)) = inr (refl, inr (spent.1, all_tell is_honest state failures source logs 0 spent.1 s spent.2, spent.3))

  pub next_turn_told : (told : Result ℕ Refusal) (count : ℕ) → count ≡ length (logs s) → TellsNext turns count s told → IsNextTurn (logs s) (result_unwrap_or told 0)
  next_turn_told told count is tells = next_told told (subst (λ (n : ℕ). TellsNext turns n s told) is tells)
