-- What is ahead of a reader of a log at rest, and what its calls give.
use Rattle.std.proofs.Common.{◌≡◌, ℕ, inl, inr, Bool, IsTrue, Option, Some, None, List, [], ◌∷◌, ◌++◌, length, drop, refl, sym, ◌∙◌, ap, subst, arith, append_assoc, Result, Ok, Err, IfOk}
use Rattle.std.proofs.lemmas.List.{drop-drop}
use Rattle.std.specs.List.{flat_map, AllByRecursion}
use Rattle.mt_rows.specs.Rows.{Bytes}
use Rattle.mt_disk.specs.Disk.{DiskState}
use Rattle.mt_log.specs.{declared.batch.LogBatch.LogBatch, declared.batch.ReadBatch.ReadBatch, declared.batch_reader.BatchReader.BatchReader, declared.fault.ReadFault.ReadFault}
use Rattle.mt_log.specs.{declared.reader.FileKind.FileKind, declared.reader.Head.Head, declared.reader.Start.Start}
use Rattle.mt_log.specs.{Format.{beginning, batch_bytes}, Contents.{Contents, IsContents, IsLogBatch, log_bytes}, Fronts.{IsOfKind, IsBadGate}}
use Rattle.mt_log.specs.Rereading.{AreAhead, GivesFirst, GivesAll, IsNotBad}
use Rattle.mt_log.specs.Stops.{IsHead, begin_bytes, IsStart, IsNoBatch, WentOver, IsFoundBy, IsGivenBy, OfImage, IsFaultOf}
use Rattle.mt_log.proofs.{FrontLaws.{first, one_batch, same_beginning, front_not_bad}}
use Rattle.mt_log.specs.declared.reader.Head.TheVariants as heads
use Rattle.mt_log.specs.declared.fault.ReadFault.TheVariants as reads

-- ---- at a gate

-- a batch that stands at a gate is none that isn't in the format
not_bad : (version : ℕ) (bytes rest : Bytes) (b : LogBatch) → IsLogBatch version b → bytes ≡ batch_bytes b ++ rest → IsBadGate version bytes → ⊥
not_bad version bytes rest b is e (inl nothing) = omega (arith, ap length (sym nothing ∙ e))
not_bad version bytes rest b is e (inr gate) = gate.2 b rest is (ap (λ (l : Bytes). drop 1 l) (sym gate.1 ∙ e))

one_stands : (version : ℕ) (bytes rest : Bytes) (b : LogBatch) (head : Head) → IsLogBatch version b → bytes ≡ batch_bytes b ++ rest → IsNoBatch version bytes head → ⊥
one_stands version bytes rest b (heads.Shut gate) is e none = none.is_shut (ap first (sym none.whole ∙ e))
one_stands version bytes rest b (heads.Open size) is e none = not_bad version bytes rest b is e none
one_stands version bytes rest b heads.Bad is e none = not_bad version bytes rest b is e none

-- ---- what a call gives

gives_none : (batches : List LogBatch) (image : Bytes) (old new : BatchReader) → new ≡ old → AreAhead batches image old
    → IsNoBatch old.version (drop old.place image) old.head → GivesFirst batches image None new
gives_none [] image old new same is none = subst (AreAhead [] image) (sym same) is
gives_none (b ∷ bs) image old new same is none =
    let more = flat_map batch_bytes bs in
    one_stands old.version (drop old.place image) (more ++ (is.gate ∷ is.behind)) b old.head is.each.0 (is.parts ∙ append_assoc (batch_bytes b) more (is.gate ∷ is.behind)) none

gives_some : (batches : List LogBatch) (image : Bytes) (old new : BatchReader) (read : ReadBatch) → new.version ≡ old.version → new.len ≡ old.len
    → IsLogBatch old.version read.batch → AreAhead batches image old → WentOver read.batch image old new → GivesFirst batches image (Some read) new
gives_some [] image old new read version len fits is over = is.is_shut (ap first (sym is.parts ∙ over.batch.parts))
gives_some (b ∷ bs) image old new read version len fits is over =
    let more = flat_map batch_bytes bs ++ (is.gate ∷ is.behind) in
    let rest = drop over.size (drop old.place image) in
    let here : batch_bytes b ++ more ≡ batch_bytes read.batch ++ rest = sym (append_assoc (batch_bytes b) (flat_map batch_bytes bs) (is.gate ∷ is.behind)) ∙ sym is.parts ∙ over.batch.parts in
    let same = one_batch old.version b read.batch more rest is.each.0 fits (ap (λ (l : Bytes). drop 1 l) here) in
    let at : drop new.place image ≡ rest = ap (λ (n : ℕ). drop n image) over.place ∙ sym (drop-drop over.size old.place image) in (
      sym same.0,
      record {
        each = subst (λ (v : ℕ). AllByRecursion (IsLogBatch v) bs) (sym version) is.each.1;
        gate = is.gate;
        behind = is.behind;
        is_shut = is.is_shut;
        parts = at ∙ sym same.1;
        head = subst (λ (l : Bytes). IsHead l new.head) (sym at) over.batch.next;
        len = len ∙ is.len;
      },
    )

gives : (given : Option ReadBatch) (batches : List LogBatch) (image : Bytes) (old new : BatchReader) → new.version ≡ old.version → new.len ≡ old.len
    → IsGivenBy old given new → AreAhead batches image old → IsFoundBy image old given new → GivesFirst batches image given new
gives None batches image old new version len given is found = gives_none batches image old new given is found
gives (Some read) batches image old new version len given is found = gives_some batches image old new read version len given.0 is found

-- over an honest disk a call gives the first batch that is ahead
pub given_first : (old new : BatchReader) {D : Type 0} (is_honest : D → Bool) (state : D → DiskState) (disk : D) (r : Result (Option ReadBatch) ReadFault)
    → new.version ≡ old.version → new.len ≡ old.len → IfOk r (λ given. IsGivenBy old given new)
    → IfOk r (λ given. OfImage is_honest state disk old.len (λ image. IsHead (drop old.place image) old.head → IsFoundBy image old given new))
    → IsTrue (is_honest disk) → (batches : List LogBatch) → AreAhead batches (state disk).image old → IfOk r (λ given. GivesFirst batches (state disk).image given new)
given_first old new is_honest state disk (Ok given) version len goes told honest batches is = gives given batches (state disk).image old new version len goes is (told honest is.len is.head)
given_first old new is_honest state disk (Err e) version len goes told honest batches is = tt

-- ---- where a reader begins

module _ (kind : FileKind) (c : Contents) (image : Bytes) (contents : IsContents c) (rest : image ≡ log_bytes c ++ 0 ∷ []) where
  -- all batches of the log are ahead
  pub all_ahead : (start : Start) (reader : BatchReader) → IsStart kind image start → reader.version ≡ start.version → reader.len ≡ length image
      → reader.place ≡ start.place → reader.head ≡ start.head → AreAhead c.batches image reader
  all_ahead s reader is version len place head =
      let begun = beginning c.version c.worker c.logs c.generation c.start in
      let more = flat_map batch_bytes c.batches in
      let same = same_beginning c.version c.worker c.logs c.generation c.start s.version s.worker s.logs s.generation s.start (more ++ 0 ∷ []) (drop s.place image) contents.numbers is.limits.numbers
      (sym (append_assoc begun more (0 ∷ [])) ∙ sym rest ∙ is.header) in
      let at : drop reader.place image ≡ drop s.place image = ap (λ (n : ℕ). drop n image) place in
      record {
        each = subst (λ (v : ℕ). AllByRecursion (IsLogBatch v) c.batches) (same.0 ∙ sym version) contents.batches;
        gate = 0;
        behind = [];
        is_shut = λ e. omega (arith, e);
        parts = at ∙ sym same.5;
        head = subst (IsHead (drop reader.place image)) (sym head) (subst (λ (l : Bytes). IsHead l s.head) (sym at) is.head);
        len = len;
      }

  -- and the file is a log
  pub is_log : {D : Type 0} (is_honest : D → Bool) (state : D → DiskState) (disk : D) (len : ℕ) (e : ReadFault) → IsOfKind kind c.generation → IsTrue (is_honest disk) → (state disk).image ≡ image
      → len ≡ length image → IsFaultOf kind is_honest state disk len e → IsNotBad e
  is_log is_honest state disk len reads.Device of honest same whole bad = tt
  is_log is_honest state disk len reads.Memory of honest same whole bad = tt
  is_log is_honest state disk len (reads.Bad number offset) of honest same whole bad =
      front_not_bad kind c (state disk).image number offset of (record { contents = contents; gate = 0; behind = []; is_shut = λ e. omega (arith, e); whole = same ∙ rest }) (bad honest (whole ∙ ap length (sym same)))

-- ---- up to none

-- what calls gave up to none is what was ahead
pub all_given : (given batches : List LogBatch) (image : Bytes) (reader : BatchReader) → AreAhead batches image reader → GivesAll image reader given → given ≡ batches
all_given [] [] image reader is calls = refl
all_given [] (b ∷ bs) image reader is calls = absurd (calls.1 (b ∷ bs) is)
all_given (g ∷ given) [] image reader is calls = absurd (calls.3 [] is)
all_given (g ∷ given) (b ∷ bs) image reader is calls =
    let first = calls.3 (b ∷ bs) is in
    λ i. (sym calls.2 ∙ first.0) i ∷ all_given given bs image calls.0 first.1 calls.4 i
