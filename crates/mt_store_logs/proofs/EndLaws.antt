-- What is made of the end of a log is made of the whole one.
use Rattle.std.proofs.Common.{◌≡◌, ◌≢◌, ◌⊎◌, inl, inr, ℕ, ◌++◌, ◌∷◌, [], List, Bool, Option, Some, None, refl, sym, ◌∙◌, ap, subst, append_assoc}
use Rattle.mt_rows.specs.{declared.record.Batch.Batch, declared.refusal.Refusal.Refusal}
use Rattle.mt_batches.specs.Batches.{IsInOrder}
use Rattle.mt_disk.specs.Disk.{DiskState}
use Rattle.mt_log.specs.{declared.batch.LogBatch.LogBatch, declared.batch.LogBatch.TheVariants.Records, Contents.{Contents, mark_of, with_batch}}
use Rattle.mt_crashes.specs.{Stores.{LogNow, at_rest, MayLeaveFront}, Fronts.In}
use Rattle.mt_crashes.proofs.Members.{in_right}
use Rattle.mt_generations.{specs.Chains.EndsLog, proofs.Parts.same_end}
use Rattle.mt_store_logs.specs.{declared.store_log.StoreLog.StoreLog, Places.{last_log_of, OnLast}}
use Rattle.mt_store_logs.specs.Waits.{AppendsKept, FailsToAppend, Reopens, FailsToReopen}
use Rattle.mt_store_logs.specs.Shows.{WaitsIn, drained_upto, MayBegin, begun, appended, IsIn, IsInDoubt, ComesToRest}
use Rattle.mt_store_logs.proofs.CallerLemmas as logs
use Rattle.mt_store_logs.specs.Ends.{IsEndOf, Stands, keeping}
use Rattle.mt_rows.specs.declared.refusal.Refusal.TheVariants as refusals

-- ---- contents

pub itself : (log : LogNow) → IsEndOf log log
itself log = record { ends = record { given = []; parts = refl; start = refl; owner = (refl, refl) }; doubt = refl }

pub mark : (whole last : LogNow) → IsEndOf whole last → mark_of last.had ≡ mark_of whole.had
mark whole last is = same_end whole.had last.had is.ends

-- a log that ends elsewhere is not the end of a whole one
pub not_there : (whole last : LogNow) → mark_of last.had ≢ mark_of whole.had → ¬ IsEndOf whole last
not_there whole last elsewhere is = elsewhere (mark whole last is)

-- nor is one with a batch that the whole one lacks
pub not_with : (whole last : LogNow) (b : LogBatch) → In b last.had.batches → ¬ In b whole.had.batches → ¬ IsEndOf whole last
not_with whole last b has lacks is = lacks (subst (In b) (sym is.ends.parts) (in_right b is.ends.given last.had.batches has))

pub longer : (whole last : Contents) (b : LogBatch) → EndsLog whole last → EndsLog (with_batch b whole) (with_batch b last)
longer whole last b e = record {
  given = e.given;
  parts = ap (λ (bs : List LogBatch). bs ++ b ∷ []) e.parts ∙ append_assoc e.given last.batches (b ∷ []);
  start = e.start;
  owner = e.owner;
}

pub drained : (whole last : LogNow) (kept : Option Batch) → IsEndOf whole last → drained_upto last kept ≡ drained_upto whole kept
drained whole last None is = mark whole last is
drained whole last (Some b) is = refl

pub waits : (whole last : LogNow) (kept : Option Batch) → IsEndOf whole last → WaitsIn last kept → WaitsIn whole kept
waits whole last None is none = sym is.doubt ∙ none
waits whole last (Some b) is w = record {
  in_order = w.in_order;
  turn = w.turn ∙ mark whole last is;
  only = subst (λ (d : Option LogBatch). (d ≡ None) ⊎ (d ≡ Some (Records b))) is.doubt w.only;
}

pub front : (whole last : LogNow) (f : Contents) → IsEndOf whole last → MayLeaveFront last f → (all : Contents) × MayLeaveFront whole all × EndsLog all f
front whole last f is (inl same) = (whole.had, inl refl, subst (λ (c : Contents). EndsLog whole.had c) (sym same) is.ends)
front whole last f is (inr (b, told, more)) = (
  with_batch b whole.had,
  inr (b, sym is.doubt ∙ told, refl),
  subst (λ (c : Contents). EndsLog (with_batch b whole.had) c) (sym more) (longer whole.had last.had b is.ends),
)

-- ---- what happens to a log

pub begins : (whole last : LogNow) (b : Batch) → IsEndOf whole last → MayBegin last b → MayBegin whole b
begins whole last b is may = record {
  rests = sym is.doubt ∙ may.rests;
  fits = may.fits;
  turn = may.turn ∙ mark whole last is;
  past = λ same. may.past (same ∙ sym (mark whole last is));
}

pub is_in : (whole last next : LogNow) (kept : Option Batch) → IsEndOf whole last → IsIn kept last next → (all : LogNow) × IsIn kept whole all × IsEndOf all next
is_in whole last next None is same = (whole, refl, subst (IsEndOf whole) (sym same) is)
is_in whole last next (Some b) is (inl there) = (whole, inl (refl, sym (mark whole last is) ∙ there.1), subst (IsEndOf whole) (sym there.0) is)
is_in whole last next (Some b) is (inr added) = (
  appended whole b,
  inr (begins whole last b is added.0, refl),
  subst (IsEndOf (appended whole b)) (sym added.1) (record { ends = longer whole.had last.had (Records b) is.ends; doubt = refl }),
)

pub in_doubt : (whole last next : LogNow) (kept : Option Batch) → IsEndOf whole last → IsInDoubt kept last next
    → (all : LogNow) × IsInDoubt kept whole all × IsEndOf all next
in_doubt whole last next None is same = (whole, refl, subst (IsEndOf whole) (sym same) is)
in_doubt whole last next (Some b) is (inl same) = (whole, inl refl, subst (IsEndOf whole) (sym same) is)
in_doubt whole last next (Some b) is (inr added) = (
  begun whole b,
  inr (begins whole last b is added.0, refl),
  subst (IsEndOf (begun whole b)) (sym added.1) (record { ends = is.ends; doubt = refl }),
)

pub rests : (whole last next : LogNow) → IsEndOf whole last → ComesToRest last next → (all : LogNow) × ComesToRest whole all × IsEndOf all next
rests whole last next is r =
    let f = front whole last next.had is r.left in
    (at_rest f.0, record { rests = refl; left = f.1 }, record { ends = f.2; doubt = r.rests })

-- ---- of one generation

pub in_of : (last next : LogNow) (kept : Option Batch) → IsIn kept last next → next.had.generation ≡ last.had.generation
in_of last next None same = ap (λ (n : LogNow). n.had.generation) same
in_of last next (Some b) (inl there) = ap (λ (n : LogNow). n.had.generation) there.0
in_of last next (Some b) (inr added) = ap (λ (n : LogNow). n.had.generation) added.1

pub doubt_of : (last next : LogNow) (kept : Option Batch) → IsInDoubt kept last next → next.had.generation ≡ last.had.generation
doubt_of last next None same = ap (λ (n : LogNow). n.had.generation) same
doubt_of last next (Some b) (inl same) = ap (λ (n : LogNow). n.had.generation) same
doubt_of last next (Some b) (inr added) = ap (λ (n : LogNow). n.had.generation) added.1

pub front_of : (last : LogNow) (f : Contents) → MayLeaveFront last f → f.generation ≡ last.had.generation
front_of last f (inl same) = ap (λ (c : Contents). c.generation) same
front_of last f (inr (b, told, more)) = ap (λ (c : Contents). c.generation) more

-- ---- a store's log

module _ {D : Type 0} (is_honest : D → Bool) (state : D → DiskState) where
  -- a call on the last log leaves the generation
  same_generation : {Does : _} (old new : StoreLog D) → OnLast Does old new → new.log.generation ≡ old.log.generation
  same_generation old new on = ap (λ l. l.generation) on.rest

  pub drained_waits : (whole : LogNow) (log : StoreLog D) (b : Batch) → Stands is_honest state whole log → log.kept ≡ None → IsInOrder b
      → b.from ≡ drained_upto whole log.kept → Stands is_honest state whole (keeping b log)
  drained_waits whole log b s none order turn = record {
    last = s.last;
    is_end = s.is_end;
    of = s.of;
    stands = logs.drained is_honest state s.last (last_log_of log) b s.stands none order (turn ∙ sym (drained whole s.last log.kept s.is_end));
  }

  module _ (failures : D → ℕ) where
    pub append_whole : (whole : LogNow) (old new : StoreLog D) → Stands is_honest state whole old → OnLast (AppendsKept is_honest state failures) old new
        → (all : LogNow) × Stands is_honest state all new × IsIn old.kept whole all × (drained_upto all new.kept ≡ drained_upto whole old.kept)
    append_whole whole old new s on =
        let l = logs.appends is_honest state failures s.last (last_log_of old) (last_log_of new) s.stands on.does in
        let w = is_in whole s.last l.0 old.kept s.is_end l.2 in (
          w.0,
          record { last = l.0; is_end = w.2; of = in_of s.last l.0 old.kept l.2 ∙ s.of ∙ sym (same_generation old new on); stands = l.1 },
          w.1,
          sym (drained w.0 l.0 new.kept w.2) ∙ l.3 ∙ drained whole s.last old.kept s.is_end,
        )

    pub append_failed : (whole : LogNow) (e : Refusal) (old new : StoreLog D) → Stands is_honest state whole old → OnLast (FailsToAppend is_honest state failures e) old new
        → (all : LogNow) × Stands is_honest state all new × IsInDoubt old.kept whole all × (new.kept ≡ old.kept) × ((n : ℕ) → e ≢ refusals.WrongTurn n)
    append_failed whole e old new s on =
        let l = logs.fails_to_append is_honest state failures s.last e (last_log_of old) (last_log_of new) s.stands on.does in
        let w = in_doubt whole s.last l.0 old.kept s.is_end l.2 in (
          w.0,
          record { last = l.0; is_end = w.2; of = doubt_of s.last l.0 old.kept l.2 ∙ s.of ∙ sym (same_generation old new on); stands = l.1 },
          w.1,
          l.3,
          l.4,
        )

    pub reopened_whole : (whole : LogNow) (old new : StoreLog D) → Stands is_honest state whole old → OnLast (Reopens is_honest state failures) old new
        → (mid all : LogNow) × ComesToRest whole mid × Stands is_honest state all new × IsIn old.kept mid all
        × (drained_upto all new.kept ≡ drained_upto whole old.kept)
    reopened_whole whole old new s on =
        let l = logs.reopens is_honest state failures s.last (last_log_of old) (last_log_of new) s.stands on.does in
        let m = rests whole s.last l.0 s.is_end l.2 in
        let w = is_in m.0 l.0 l.1 old.kept m.2 l.4 in (
          m.0,
          w.0,
          m.1,
          record {
            last = l.1;
            is_end = w.2;
            of = in_of l.0 l.1 old.kept l.4 ∙ front_of s.last l.0.had l.2.left ∙ s.of ∙ sym (same_generation old new on);
            stands = l.3;
          },
          w.1,
          sym (drained w.0 l.1 new.kept w.2) ∙ l.5 ∙ drained whole s.last old.kept s.is_end,
        )

    -- the log as it was, or at rest with what a crash might have left of it
    rested : (whole last mid : LogNow) → IsEndOf whole last → mid ≡ last ⊎ ComesToRest last mid
        → (all : LogNow) × (all ≡ whole ⊎ ComesToRest whole all) × IsEndOf all mid × (mid.had.generation ≡ last.had.generation)
    rested whole last mid is (inl same) = (whole, inl refl, subst (IsEndOf whole) (sym same) is, ap (λ (n : LogNow). n.had.generation) same)
    rested whole last mid is (inr r) = let w = rests whole last mid is r in (w.0, inr w.1, w.2, front_of last mid.had r.left)

    pub not_reopened_whole : (whole : LogNow) (e : Refusal) (old new : StoreLog D) → Stands is_honest state whole old
        → OnLast (FailsToReopen is_honest state failures e) old new
        → (mid all : LogNow) × (mid ≡ whole ⊎ ComesToRest whole mid) × Stands is_honest state all new × IsInDoubt old.kept mid all × (new.kept ≡ old.kept)
        × ((number offset : ℕ) → e ≢ refusals.BadLog number offset) × ((mark : ℕ) → e ≢ refusals.WrongTurn mark)
    not_reopened_whole whole e old new s on =
        let l = logs.fails_to_reopen is_honest state failures s.last e (last_log_of old) (last_log_of new) s.of s.stands on.does in
        let m = rested whole s.last l.0 s.is_end l.2 in
        let w = in_doubt m.0 l.0 l.1 old.kept m.2 l.4 in (
          m.0,
          w.0,
          m.1,
          record { last = l.1; is_end = w.2; of = doubt_of l.0 l.1 old.kept l.4 ∙ m.3 ∙ s.of ∙ sym (same_generation old new on); stands = l.3 },
          w.1,
          l.5,
          l.6,
          l.7,
        )
