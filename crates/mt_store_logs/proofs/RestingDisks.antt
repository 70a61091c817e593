-- What a closed disk leaves of a log at rest, of which no append was begun: that log, as the text of its file.
use Rattle.std.proofs.Common.{◌≡◌, ⊎_elim, inl, inr, ℕ, ◌≤◌, [], ◌∷◌, ◌++◌, length, drop, Bool, Option, None, refl, sym, ◌∙◌, ap, subst, arith, append_assoc, length-append}
use Rattle.std.proofs.lemmas.{Bool.cases_eq, Option.same_Some, List.{append-nil, append_cancel_left}}
use Rattle.std.specs.List.{slice_get}
use Rattle.mt_rows.specs.Rows.{Bytes}
use Rattle.mt_disk.specs.Disk.{DiskState, MayLeave, moments}
use Rattle.mt_gates.specs.Gates.{IsLeftOf}
use Rattle.mt_log.specs.{declared.batch.LogBatch.LogBatch, declared.batch.LogBatch.TheVariants.Resume, Format.{body, told_body, batch_bytes}}
use Rattle.mt_log.specs.{Contents.{Contents, IsContents, IsLogBatch, mark_of, log_bytes, with_batch}, Fronts.{HasFront, IsLeft, IsTorn, IsShut}, Numbered.text_of}
use Rattle.mt_log.proofs.FrontLaws.{contents_more, more_bytes, one_front}
use Rattle.mt_crashes.{specs.Stores.LogNow, proofs.FrontLaws.mark_more}
use Rattle.mt_log_files.specs.{Shows.{LeavesEither, ShowsClosed}, Files.LeavesText}

-- ---- two batches

abbrev one : LogBatch
one = Resume 0 0 0

abbrev other : LogBatch
other = Resume 0 1 0

one_is : (version : ℕ) → IsLogBatch version one
one_is version = record { first = omega arith; last = omega arith; past = omega arith }

other_is : (version : ℕ) → IsLogBatch version other
other_is version = record { first = omega arith; last = omega arith; past = omega arith }

-- what a batch ends with tells it from another
not_both : (c : Contents) → with_batch one c ≡ with_batch other c → ⊥
not_both c same =
    let zero = mark_more one c in
    let first = mark_more other c in
    let marks = ap mark_of same in
    omega (arith, zero, first, marks)

longer : (c : Contents) (b : LogBatch) → c ≡ with_batch b c → ⊥
longer c b same = omega (arith, ap (λ (d : Contents). length d.batches) same, length-append c.batches (b ∷ []))

-- ---- an image that may be left with either batch

-- the image as it were if its torn gate was open
opened : (c : Contents) (b : LogBatch) (behind more : Bytes) → IsContents (with_batch b c) → behind ≡ told_body (body b) ++ 0 ∷ more
    → HasFront (with_batch b c) (log_bytes c ++ (1 ∷ behind))
opened c b behind more is torn = record {
  contents = is;
  gate = 0;
  behind = more;
  is_shut = λ e. omega (arith, e);
  whole =
      ap (λ (l : Bytes). log_bytes c ++ (1 ∷ l)) torn ∙ sym (append_assoc (log_bytes c) (batch_bytes b) (0 ∷ more))
      ∙ ap (λ (l : Bytes). l ++ (0 ∷ more)) (sym (more_bytes c b));
}

head_of : (a b : ℕ) (x y : Bytes) → a ∷ x ≡ b ∷ y → a ≡ b
head_of a b x y same = same_Some a b (ap (λ (l : Bytes). slice_get l 0) same)

tail_of : (a b : ℕ) (x y : Bytes) → a ∷ x ≡ b ∷ y → x ≡ y
tail_of a b x y same = ap (λ (l : Bytes). drop 1 l) same

both_torn : (c : Contents) (image : Bytes) → IsContents c → IsTorn (log_bytes c) (body one) image → IsTorn (log_bytes c) (body other) image
    → (behind : Bytes) × (image ≡ log_bytes c ++ (0 ∷ behind))
both_torn c image is s t = ⊎_elim
    (λ shut. (s.behind, s.whole ∙ ap (λ (g : ℕ). log_bytes c ++ (g ∷ s.behind)) shut))
    (λ torn. (
    let same = append_cancel_left (log_bytes c) (s.gate ∷ s.behind) (t.gate ∷ t.behind) (sym s.whole ∙ t.whole) in
    let first = s.torn torn in
    let second = t.torn (λ e. torn (head_of s.gate t.gate s.behind t.behind same ∙ e)) in
    let a = opened c one s.behind first.0 (contents_more c one is (one_is c.version)) first.1 in
    let b = opened c other s.behind second.0 (contents_more c other is (other_is c.version)) (tail_of s.gate t.gate s.behind t.behind same ∙ second.1) in
    absurd (not_both c (one_front (with_batch one c) (with_batch other c) (log_bytes c ++ (1 ∷ s.behind)) a b))
    ))
    (cases_eq s.gate 0)

torn_front : (c : Contents) (b : LogBatch) (image : Bytes) → IsContents c → IsTorn (log_bytes c) (body b) image → HasFront c image
torn_front c b image is torn = record { contents = is; gate = torn.gate; behind = torn.behind; is_shut = torn.is_shut; whole = torn.whole }

shut_front : (c : Contents) (b : LogBatch) (image : Bytes) → IsContents (with_batch b c) → IsShut (log_bytes c ++ batch_bytes b) image → HasFront (with_batch b c) image
shut_front c b image is shut = record {
  contents = is;
  gate = 0;
  behind = shut.behind;
  is_shut = λ e. omega (arith, e);
  whole = shut.whole ∙ ap (λ (l : Bytes). l ++ (0 ∷ shut.behind)) (sym (more_bytes c b));
}

left_by_both : (c : Contents) (image : Bytes) → IsContents c → IsLeft c one image → IsLeft c other image → (behind : Bytes) × (image ≡ log_bytes c ++ (0 ∷ behind))
left_by_both c image is (inl s) (inl t) = both_torn c image is s t
left_by_both c image is (inl s) (inr t) =
    absurd (longer c other (one_front c (with_batch other c) image (torn_front c one image is s) (shut_front c other image (contents_more c other is (other_is c.version)) t)))
left_by_both c image is (inr s) (inl t) =
    absurd (longer c one (one_front c (with_batch one c) image (torn_front c other image is t) (shut_front c one image (contents_more c one is (one_is c.version)) s)))
left_by_both c image is (inr s) (inr t) =
    absurd (not_both c (one_front (with_batch one c) (with_batch other c) image (shut_front c one image (contents_more c one is (one_is c.version)) s)
    (shut_front c other image (contents_more c other is (other_is c.version)) t)))

-- ---- the text of the log

by_head : (l : Bytes) → 1 ≤ length l → (g : ℕ) × (l ≡ g ∷ drop 1 l)
by_head [] some = absurd (omega (arith, some))
by_head (x ∷ l) some = (x, refl)

is_text : (c : Contents) (image behind : Bytes) → image ≡ log_bytes c ++ (0 ∷ behind) → IsLeftOf (text_of c) image
is_text c image behind whole =
    let head = by_head (log_bytes c ++ 0 ∷ []) (omega (arith, length-append (log_bytes c) (0 ∷ []))) in
    inr (record {
      gate = head.0;
      behind = behind;
      whole = whole ∙ sym (append_assoc (log_bytes c) (0 ∷ []) behind) ∙ ap (λ (l : Bytes). l ++ behind) head.1;
    })

module _ {D : Type 0} (is_honest : D → Bool) (state : D → DiskState) where
  text_by_both : (c : Contents) (disk : D) → IsContents c → LeavesEither state c one disk → LeavesEither state c other disk → LeavesText state c disk
  text_by_both c disk is a b =
      let now : (image : Bytes) → MayLeave (state disk).now image → IsLeftOf (text_of c) image = λ image left.
      let closed = left_by_both c image is (a.leaves.now image left) (b.leaves.now image left) in
      is_text c image closed.0 closed.1 in
      record {
        first = state disk;
        leaves = record {
          so_far = record { since = []; goes_on = sym (append-nil (moments (state disk))); each = λ k d within. absurd (omega (arith, within)) };
          now = now;
          reads = a.leaves.reads;
        };
      }

  pub rest_text : (now : LogNow) (disk : D) → now.doubt ≡ None → IsContents now.had × ShowsClosed state now.had now.doubt disk → LeavesText state now.had disk
  rest_text now disk rests shows =
      let closed = subst (λ (d : Option LogBatch). ShowsClosed state now.had d disk) rests shows.1 in
      text_by_both now.had disk shows.0 (closed one (one_is now.had.version)) (closed other (other_is now.had.version))
