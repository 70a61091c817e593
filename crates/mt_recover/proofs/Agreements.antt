-- A batch that was read again in the place of the first one: for `take`.
use Rattle.std.proofs.Common.{◌≡◌, ℕ, zero, suc, ◌+◌, ◌<◌, ◌≤◌, ◌==◌, Bool, true, false, not, ◌&&◌, cond, List, [], ◌∷◌, ◌++◌, length, take, drop, map, refl, sym, ◌∙◌, ap, subst, arith, Option, Some, None}
use Rattle.std.proofs.lemmas.Bool.{and_parts, and_from, eqb-true, eq-eqb, not-true, true≢false}
use Rattle.std.proofs.{lemmas.Option.{same_Some, slice_get-map, slice_get_within}, lemmas.List.{map-set, length-set, take_more_set, flat_map_more, drop-set-lt}}
use Rattle.std.specs.{Prelude.{slice_get, set, is_some}, List.{flat_map, AllByRecursion}, Option.option_map}
use Rattle.mt_rows.specs.declared.record.{Record.Record, Batch.Batch}
use Rattle.mt_log.specs.{declared.batch.LogBatch.LogBatch, declared.batch.LogBatch.TheVariants.{Records, OldRecords, Resume}, Contents.{Contents, IsContents, IsLogBatch, from_of, to_of}}
use Rattle.mt_crashes.{specs.Fronts.records_in, proofs.Members.no_some}
use Rattle.mt_recover.specs.{Falls.{first_of, goes_on, stamp_fall, batch_fall, fall_behind, fall_of}, Outlines.{outline, outline_of, rises_again, is_again, Agrees, with_batch_at}}
use Rattle.mt_recover.proofs.FallLemmas.{none_first, tested}

none_there : {X : Type 0} (o : Option X) → is_some o ≡ false → o ≡ None
none_there None is = refl
none_there (Some x) is = absurd (true≢false is)

-- ---- what the test tells

pub record IsAgain (first again : LogBatch) : Type 0 where
  pub outline : outline again ≡ outline first
  pub fall : stamp_fall again ≡ None

record Numbers (first again : Batch) : Type 0 where
  from : again.from ≡ first.from
  to : again.to ≡ first.to
  fall : stamp_fall (Records again) ≡ None

numbers : (first again : Batch) → rises_again first again ≡ true → Numbers first again
numbers first again is =
    let parts = and_parts _ _ is in
    let both = and_parts _ _ parts.0 in
    record { from = sym (eqb-true first.from again.from both.0); to = sym (eqb-true first.to again.to both.1); fall = none_there _ (not-true _ parts.1) }

pub told_again : (first again : LogBatch) → is_again first again ≡ true → IsAgain first again
told_again (Records a) (Records b) is = let n = numbers a b is in record { outline = λ i. Records (record { from = n.from i; to = n.to i; records = [] }); fall = n.fall }
told_again (OldRecords a) (OldRecords b) is = let n = numbers a b is in record { outline = λ i. OldRecords (record { from = n.from i; to = n.to i; records = [] }); fall = n.fall }
told_again (Resume f t k) (Resume g u l) is =
    let parts = and_parts ((f == g) && (t == u)) (k == l) is in
    let both = and_parts (f == g) (t == u) parts.0 in
    let from : g ≡ f = sym (eqb-true f g both.0) in
    let to : u ≡ t = sym (eqb-true t u both.1) in
    let kept : l ≡ k = sym (eqb-true k l parts.1) in
    record { outline = λ i. Resume (from i) (to i) (kept i); fall = refl }
told_again (Records a) (OldRecords b) is = absurd (true≢false (sym is))
told_again (Records a) (Resume g u l) is = absurd (true≢false (sym is))
told_again (OldRecords a) (Records b) is = absurd (true≢false (sym is))
told_again (OldRecords a) (Resume g u l) is = absurd (true≢false (sym is))
told_again (Resume f t k) (Records b) is = absurd (true≢false (sym is))
told_again (Resume f t k) (OldRecords b) is = absurd (true≢false (sym is))

same_rises : (b : Batch) → stamp_fall (Records b) ≡ None → rises_again b b ≡ true
same_rises b none = and_from _ _ (and_from _ _ (eq-eqb b.from b.from refl) (eq-eqb b.to b.to refl)) (ap (λ (o : Option ℕ). not (is_some o)) none)

-- a batch agrees with itself
pub same_again : (b : LogBatch) → stamp_fall b ≡ None → is_again b b ≡ true
same_again (Records b) none = same_rises b none
same_again (OldRecords b) none = same_rises b none
same_again (Resume f t k) none = and_from _ _ (and_from _ _ (eq-eqb f f refl) (eq-eqb t t refl)) (eq-eqb k k refl)

-- ---- a log with such a batch

from_outline : (b : LogBatch) → from_of b ≡ from_of (outline b)
from_outline (Records b) = refl
from_outline (OldRecords b) = refl
from_outline (Resume f t k) = refl

to_outline : (b : LogBatch) → to_of b ≡ to_of (outline b)
to_outline (Records b) = refl
to_outline (OldRecords b) = refl
to_outline (Resume f t k) = refl

goes_outline : (b : LogBatch) → goes_on b ≡ goes_on (outline b)
goes_outline (Records b) = refl
goes_outline (OldRecords b) = refl
goes_outline (Resume f t k) = refl

-- nothing falls in it
no_fall_put : (mark : ℕ) (bs : List LogBatch) (k : ℕ) (first again : LogBatch) → slice_get bs k ≡ Some first → IsAgain first again → fall_behind mark bs ≡ None
    → fall_behind mark (set bs k again) ≡ None
no_fall_put mark [] k first again at is none = absurd (no_some first at)
no_fall_put mark (b ∷ bs) zero first again at is none =
    let same : outline again ≡ outline b = is.outline ∙ ap outline (sym (same_Some b first at)) in
    let both = none_first _ _ none in
    let test : (from_of again == mark && goes_on again) ≡ true =
    (λ i. (from_outline again ∙ ap from_of same ∙ sym (from_outline b)) i == mark && (goes_outline again ∙ ap goes_on same ∙ sym (goes_outline b)) i) ∙ (tested _ _ _ both.0).0 in
    let head : batch_fall mark again ≡ None = ap (λ (t : Bool). cond t (stamp_fall again) (Some (from_of again))) test ∙ is.fall in
    ap (λ (o : Option ℕ). first_of o (fall_behind (to_of again) bs)) head
    ∙ ap (λ (n : ℕ). fall_behind n bs) (to_outline again ∙ ap to_of same ∙ sym (to_outline b)) ∙ both.1
no_fall_put mark (b ∷ bs) (suc k) first again at is none =
    let both = none_first _ _ none in
    ap (λ (o : Option ℕ). first_of o (fall_behind (to_of b) (set bs k again))) both.0 ∙ no_fall_put (to_of b) bs k first again at is both.1

-- the batch at a place falls nowhere
no_fall_at : (mark : ℕ) (bs : List LogBatch) (k : ℕ) (b : LogBatch) → slice_get bs k ≡ Some b → fall_behind mark bs ≡ None → stamp_fall b ≡ None
no_fall_at mark [] k b at none = absurd (no_some b at)
no_fall_at mark (x ∷ bs) zero b at none = ap stamp_fall (sym (same_Some x b at)) ∙ (tested _ _ _ (none_first _ _ none).0).1
no_fall_at mark (x ∷ bs) (suc k) b at none = no_fall_at (to_of x) bs k b at (none_first _ _ none).1

-- what stands at a place, put there
pub set_there : {X : Type 0} (xs : List X) (k : ℕ) (x : X) → slice_get xs k ≡ Some x → set xs k x ≡ xs
set_there [] k x at = refl
set_there {X} (y ∷ ys) zero x at = ap (λ (z : X). z ∷ ys) (sym (same_Some y x at))
set_there {X} (y ∷ ys) (suc k) x at = ap (λ (l : List X). y ∷ l) (set_there ys k x at)

-- the part of a list from a place on
pub drop_there : {X : Type 0} (xs : List X) (k : ℕ) (x : X) → slice_get xs k ≡ Some x → drop k xs ≡ x ∷ drop (k + 1) xs
drop_there [] k x at = absurd (no_some x at)
drop_there {X} (y ∷ ys) zero x at = ap (λ (z : X). z ∷ ys) (same_Some y x at)
drop_there {X} (y ∷ ys) (suc k) x at = let next : suc (k + 1) ≡ suc k + 1 = omega arith in drop_there ys k x at ∙ ap (λ (n : ℕ). x ∷ drop n (y ∷ ys)) next

-- all batches are in the format
kept_format : (version : ℕ) (first again : LogBatch) → is_again first again ≡ true → (other : ℕ) → IsLogBatch other again → IsLogBatch version first → IsLogBatch version again
kept_format version (Records a) (Records b) is other read was = read
kept_format version (OldRecords a) (OldRecords b) is other read was = (was.0, read.1)
kept_format version (Resume f t k) (Resume g u l) is other read was = read
kept_format version (Records a) (OldRecords b) is other read was = absurd (true≢false (sym is))
kept_format version (Records a) (Resume g u l) is other read was = absurd (true≢false (sym is))
kept_format version (OldRecords a) (Records b) is other read was = absurd (true≢false (sym is))
kept_format version (OldRecords a) (Resume g u l) is other read was = absurd (true≢false (sym is))
kept_format version (Resume f t k) (Records b) is other read was = absurd (true≢false (sym is))
kept_format version (Resume f t k) (OldRecords b) is other read was = absurd (true≢false (sym is))

format_put : (version : ℕ) (bs : List LogBatch) (k : ℕ) (first again : LogBatch) → slice_get bs k ≡ Some first → is_again first again ≡ true
    → (other : ℕ) → IsLogBatch other again → AllByRecursion (IsLogBatch version) bs → AllByRecursion (IsLogBatch version) (set bs k again)
format_put version [] k first again at is other read all = all
format_put version (b ∷ bs) zero first again at is other read all = (kept_format version first again is other read (subst (IsLogBatch version) (same_Some b first at) all.0), all.1)
format_put version (b ∷ bs) (suc k) first again at is other read all = (all.0, format_put version bs k first again at is other read all.1)

module _ (log : Contents) (k : ℕ) (first again : LogBatch) (at : slice_get log.batches k ≡ Some first) (is : is_again first again ≡ true) where
  pub put_outline : outline_of (with_batch_at log k again) ≡ outline_of log
  put_outline = ap (λ (bs : List LogBatch). record log { batches = bs })
      (map-set outline log.batches k again ∙ ap (set (map outline log.batches) k) (told_again first again is).outline
      ∙ set_there (map outline log.batches) k (outline first) (slice_get-map outline log.batches k ∙ ap (option_map outline) at))

  pub put_rises : fall_of log ≡ None → fall_of (with_batch_at log k again) ≡ None
  put_rises none = no_fall_put log.start log.batches k first again at (told_again first again is) none

  pub put_format : (other : ℕ) → IsLogBatch other again → IsContents log → IsContents (with_batch_at log k again)
  put_format other read all = record { numbers = all.numbers; worker = all.worker; logs = all.logs; batches = format_put log.version log.batches k first again at is other read all.batches }

  inside : k < length log.batches
  inside = slice_get_within log.batches k first at

  pub put_records : flat_map records_in (take (k + 1) (set log.batches k again)) ≡ flat_map records_in (take k log.batches) ++ records_in again
  put_records = ap (flat_map records_in) (take_more_set log.batches k again inside) ∙ sym (flat_map_more records_in [] (take k log.batches) again)

  pub put_rest : drop (k + 1) (set log.batches k again) ≡ drop (k + 1) log.batches
  put_rest = drop-set-lt (k + 1) log.batches k again (omega arith)

-- the batch that stands there agrees with itself
pub itself_agrees : (log : Contents) (k : ℕ) (first : LogBatch) → slice_get log.batches k ≡ Some first → fall_of log ≡ None → is_again first first ≡ true
itself_agrees log k first at none = same_again first (no_fall_at log.start log.batches k first at none)

-- where no batch stands, or one that the test refuses, none agrees
pub none_agrees_past : (b : LogBatch) (bs : List LogBatch) (k : ℕ) → length bs ≤ k → ¬ Agrees b bs k
none_agrees_past b bs k past a = let lt = slice_get_within bs k a.0 a.1 in omega (arith, past, lt)

pub none_agrees : (b first : LogBatch) (bs : List LogBatch) (k : ℕ) → slice_get bs k ≡ Some first → is_again first b ≡ false → ¬ Agrees b bs k
none_agrees b first bs k at isnt a = true≢false (sym a.2 ∙ ap (λ (x : LogBatch). is_again x b) (same_Some a.0 first (sym a.1 ∙ at)) ∙ isnt)
