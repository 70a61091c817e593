-- What is read of a log from gate to gate, and what an opening made of it.
use Rattle.std.proofs.Common.{◌≡◌, ◌⊎◌, ⊎_elim, inl, inr, ℕ, zero, suc, ◌+◌, ◌-◌, ◌<◌, ◌≤◌, Bool, true, false, IsTrue, ◌↔◌, ◌^◌, Some, None, List, [], ◌∷◌, ◌++◌, length, take, drop, get_or, refl, sym, ◌∙◌, ap, subst, arith, append_assoc, length-append, Result, Ok, Err, OnErr, IfOk, IfErr, MatchResult}
use Rattle.std.proofs.{lemmas.Bool.{ltb-true, le-ltb}, Math.Seq.drop-append_seam}
use Rattle.std.proofs.lemmas.List.{take-append-drop, take-append-le, take_all, drop-take, length-take, length-take-le, drop-drop, length-drop, flat_map_more, append-nil}
use Rattle.std.specs.{List.{flat_map, All}, Prelude.nat_lt, Int.{w32, to_be_bytes, from_be_bytes}}
use Rattle.mt_rows.specs.{Rows.Bytes, declared.record.Batch.Batch}
use Rattle.mt_disk.specs.Disk.{DiskState, IsDurable, LeavesOnly, GoesUp, synced}
use Rattle.mt_batches.specs.Batches.{IsRecord}
use Rattle.mt_fields.proofs.FieldLaws.{IsBytes, IsBytes-rest, IsBytes-take, wide32, number_again}
use Rattle.mt_log.specs.{declared.batch.LogBatch.LogBatch, declared.batch.LogBatch.TheVariants.Records, declared.fault.ReadFault.ReadFault}
use Rattle.mt_log.specs.{declared.reader.FileKind.FileKind, declared.reader.Head.Head, declared.reader.Start.Start, declared.batch_reader.BatchReader.BatchReader, declared.windows.Found.Found}
use Rattle.mt_log.specs.Format.{record_bytes, body, told_body, batch_bytes}
use Rattle.mt_log.specs.Contents.{Contents, IsContents, IsBatch, IsLogBatch, to_of, log_bytes, with_batch, contents_of}
use Rattle.mt_log.specs.Fronts.{HasNoBatch, IsBadGate, IsOfKind, IsBadLog, IsShut, IsTorn, IsBeforeOrAfter, IsLeft, IsOldOrNew, IsFound, IsAtRest}
use Rattle.mt_log.specs.Reading.{batch_in, batch_at, are_steps, rise_within}
use Rattle.mt_log.specs.Stops.{IsOpenGate, IsNoHead, IsHead, begin_bytes, BeginsSo, IsWithinLimits, IsStart, IsBadStart, IsBody, IsOpenBatch, IsNoBatch, WentOver, AreBatches, StandBefore, IsStop, IsFoundAt, IsRead, IsBadRead, OfImage, IsStartOf, IsStopOf, IsFrontOf, IsFaultOf}
use Rattle.mt_log.specs.Rereading.{CountsFault, CountsReads}
use Rattle.mt_log.specs.Logs.{IsSyncedOf, FailsToSync, Opened, GivesDiskBack, fault_with}
use Rattle.mt_disk.proofs.CrashLaws.{after_sync}
use Rattle.mt_gates.{specs.Gates.IsLeftOf}
use Rattle.mt_log.specs.Numbered.{StillLeavesText, text_of}
use Rattle.mt_log.proofs.NumberedLaws.{opening_text}
use Rattle.mt_log.proofs.{Tests.{steps_from_test, records_from_test, test_of_batch}, BatchLaws.{body_takes, batch_again}}
use Rattle.mt_log_generations.specs.{Headers.{header_bytes}}
use Rattle.mt_log.proofs.FrontLaws.{begin_short, each_more, end_more, opening, only_synced}
use Rattle.mt_row_fields.proofs.Tests.{below}
use Rattle.mt_log.specs.declared.fault.ReadFault.TheVariants as reads
use Rattle.mt_log.specs.declared.reader.Head.TheVariants as heads
use Rattle.mt_log.specs.declared.reader.FileKind.TheVariants as kinds

-- what holds at an error, whatever the result
pub on_err : {T E : Type 0} (result : Result T E) {P : Type 0} → P → OnErr result P
on_err (Ok x) has = tt
on_err (Err e) has = has

-- one item more of a list, spelled behind the others
pub spelled_more : {A : Type 0} (f : A → Bytes) (xs : List A) (i : ℕ) (x : A) → i < length xs → x ≡ get_or xs i x
    → flat_map f (take (i + 1) xs) ≡ flat_map f (take i xs) ++ f x
spelled_more f [] i x lt is = absurd (omega arith)
spelled_more f (y ∷ ys) zero x lt is = append-nil (f y) ∙ ap f (sym is)
spelled_more f (y ∷ ys) (suc i) x lt is =
    let one : suc i + 1 ≡ suc (i + 1) = omega arith in
    ap (λ (n : ℕ). flat_map f (take n (y ∷ ys))) one ∙ ap (λ (l : Bytes). f y ++ l) (spelled_more f ys i x (omega arith) is) ∙ sym (append_assoc (f y) (flat_map f (take i ys)) (f x))

regroup : (o a b d t : Bytes) → ((((o ++ 2 ∷ []) ++ a) ++ b) ++ d) ++ t ≡ o ++ (2 ∷ (a ++ (b ++ (d ++ t))))
regroup o a b d t = simp append_assoc

-- a body that was written part by part
pub parts_joined : (o p q r s new a b d t : Bytes) → p ≡ o ++ 2 ∷ [] → q ≡ p ++ a → r ≡ q ++ b → s ≡ r ++ d → new ≡ s ++ t
    → new ≡ o ++ (2 ∷ (a ++ (b ++ (d ++ t))))
parts_joined o p q r s new a b d t e f g h i =
    i ∙ ap (λ (l : Bytes). l ++ t) (h ∙ ap (λ (l : Bytes). l ++ d) (g ∙ ap (λ (l : Bytes). l ++ b) (f ∙ ap (λ (l : Bytes). l ++ a) e))) ∙ regroup o a b d t

-- and fields that were written one behind the other
pub fields_joined : (o p q r new a b d t : Bytes) → p ≡ o ++ a → q ≡ p ++ b → r ≡ q ++ d → new ≡ r ++ t → new ≡ o ++ (a ++ (b ++ (d ++ t)))
fields_joined o p q r new a b d t e f g h =
    h ∙ ap (λ (l : Bytes). l ++ t) (g ∙ ap (λ (l : Bytes). l ++ d) (f ∙ ap (λ (l : Bytes). l ++ b) e)) ∙ simp append_assoc

-- and a body behind its length
pub told_joined : (o s new bytes : Bytes) (len : ℕ) → len ≡ length bytes → s ≡ o ++ to_be_bytes w32 len → new ≡ s ++ bytes → new ≡ o ++ told_body bytes
told_joined o s new bytes len is e f =
    f ∙ ap (λ (l : Bytes). l ++ bytes) (e ∙ ap (λ (n : ℕ). o ++ to_be_bytes w32 n) is) ∙ append_assoc o (to_be_bytes w32 (length bytes)) bytes

-- how many bytes a body of records has
pub body_len : (b : Batch) (len : ℕ) → len ≡ length (flat_map record_bytes b.records) → 21 + len ≡ length (body (Records b))
body_len b len is = omega (arith, is)

-- a batch that passes the tests has a place in a log
pub batch_fits : (b : Batch) (len : ℕ) → are_steps b.from b.to ≡ true → rise_within b.from b.to b.records ≡ true → length b.records < 2 ^ 32
    → All IsRecord b.records → len ≡ length (flat_map record_bytes b.records) → IsTrue (nat_lt (21 + len) (2 ^ 32)) ↔ IsBatch b
batch_fits b len steps rise few each is =
    let total = body_len b len is in
    let order = steps_from_test b.from b.to steps in
    let records = records_from_test b.from b.to b.records rise in (
      λ h. record { order = order.0; last = order.1; records = record { limits = records.0; within = records.1; each = each }; few = few; short = subst (λ n. n < 2 ^ 32) total (ltb-true (21 + len) (2 ^ 32) h) },
      λ fits. below (21 + len) (2 ^ 32) (subst (λ n. n < 2 ^ 32) (sym total) fits.short),
    )

-- and such a batch passes them
pub batch_rises : (b : Batch) → IsBatch b → rise_within b.from b.to b.records ≡ true
batch_rises b is = test_of_batch b.from b.to b.records is.records.limits is.records.within

-- ---- gates

-- what stands at the front of the first five bytes or more stands at the front of them all
pub head_longer : (n : ℕ) (bytes : Bytes) (head : Head) → 5 ≤ n → IsHead (take n bytes) head → IsHead bytes head
head_longer n bytes (heads.Shut gate) some is =
    record { is_shut = is.is_shut; behind = is.behind ++ drop n bytes; whole = sym (take-append-drop n bytes) ∙ ap (λ (l : Bytes). l ++ drop n bytes) is.whole }
head_longer n bytes (heads.Open size) some is =
    record { fits = is.fits; behind = is.behind ++ drop n bytes; whole = sym (take-append-drop n bytes) ∙ ap (λ (l : Bytes). l ++ drop n bytes) is.whole }
head_longer n bytes heads.Bad some is =
    let short = is.short in
    let few : length bytes ≤ n = omega (arith, length-take n bytes) in
    subst IsNoHead (take_all n bytes few) is

-- a length of four bytes
four_bytes : (bytes : Bytes) (size : ℕ) → IsBytes bytes → 4 ≤ length bytes
    → size ≡ from_be_bytes w32 (get_or bytes 0 0 ∷ get_or bytes 1 0 ∷ get_or bytes 2 0 ∷ get_or bytes 3 0 ∷ [])
    → (size < 2 ^ 32) × (bytes ≡ to_be_bytes w32 size ++ drop 4 bytes)
four_bytes (a ∷ b ∷ d ∷ e ∷ rest) size fits long is =
    let text : Bytes = a ∷ b ∷ d ∷ e ∷ [] in
    let each : IsBytes text = IsBytes-take 4 (a ∷ b ∷ d ∷ e ∷ rest) fits in
    let back : to_be_bytes w32 size ≡ text = ap (to_be_bytes w32) is ∙ wide32.back text refl each in
    (subst (λ (n : ℕ). n < 2 ^ 32) (sym is) (wide32.below text each), ap (λ (l : Bytes). l ++ rest) (sym back))
four_bytes [] size fits long is = absurd (omega arith)
four_bytes (a ∷ []) size fits long is = absurd (omega arith)
four_bytes (a ∷ b ∷ []) size fits long is = absurd (omega arith)
four_bytes (a ∷ b ∷ d ∷ []) size fits long is = absurd (omega arith)

-- an open gate, and four bytes behind it
pub open_gate_is : (bytes behind : Bytes) (size : ℕ) → IsBytes bytes → 1 ≤ length bytes → behind ≡ take (length bytes - 1) (drop 1 bytes) → 4 ≤ length behind
    → get_or bytes 0 0 ≡ 1 → size ≡ from_be_bytes w32 (get_or behind 0 0 ∷ get_or behind 1 0 ∷ get_or behind 2 0 ∷ get_or behind 3 0 ∷ []) → IsOpenGate bytes size
open_gate_is [] behind size fits some parts long is_open is = absurd (omega arith)
open_gate_is (gate ∷ rest) behind size fits some parts long is_open is =
    let whole : behind ≡ rest = parts ∙ take_all (length (gate ∷ rest) - 1) rest (omega arith) in
    let text = four_bytes behind size (subst IsBytes (sym whole) (IsBytes-rest gate rest fits)) long is in
    record { fits = text.0; behind = drop 4 behind; whole = ap (λ (n : ℕ). n ∷ rest) is_open ∙ ap (λ (l : Bytes). 1 ∷ l) (sym whole ∙ text.1) }

-- where no batch was read, none stands
no_batch : (version : ℕ) (behind : Bytes) → batch_at version behind ≡ None → HasNoBatch version behind
no_batch version behind none =
    λ b more is e. (let made : LogBatch × Bytes = (b, more) in let both : Some made ≡ None = sym (batch_again version b more is) ∙ ap (batch_at version) (sym e) ∙ none in absurd cc)

-- no gate, or no whole length behind an open one
pub no_head_bad : (version : ℕ) (bytes : Bytes) → IsNoHead bytes → IsBadGate version bytes
no_head_bad version bytes is =
    let short = is.short in
    ⊎_elim (λ none. inl none) (λ gate. inr (gate.0, gate.1, λ b more fits e. absurd (omega (arith, short, ap length gate.1, ap length e)))) is.gate

-- no batch stands at a gate that isn't open
pub not_open : (version : ℕ) (bytes : Bytes) (head : Head) → ((size : ℕ) → head ≡ heads.Open size → ⊥) → IsHead bytes head → IsNoBatch version bytes head
not_open version bytes (heads.Shut gate) closed is = is
not_open version bytes (heads.Open size) closed is = absurd (closed size refl)
not_open version bytes heads.Bad closed is = no_head_bad version bytes is

-- if none stands at an open one, or at none, that is a bad one
pub bad_gate : (version : ℕ) (bytes : Bytes) (head : Head) → ((size : ℕ) × (head ≡ heads.Open size)) ⊎ (head ≡ heads.Bad) → IsNoBatch version bytes head
    → IsBadGate version bytes
bad_gate version bytes head which none =
    ⊎_elim (λ opened. subst (IsNoBatch version bytes) opened.1 none) (λ bad. subst (IsNoBatch version bytes) bad none) which

-- a length past the end
pub past_end_bad : (version : ℕ) (bytes : Bytes) (size : ℕ) → IsOpenGate bytes size → length bytes < 5 + size → IsBadGate version bytes
unfolding batch_at
past_end_bad version bytes size is short =
    let behind = is.behind in
    let long : nat_lt (length behind) size ≡ true = below (length behind) size (omega (arith, short, ap length is.whole)) in
    let none : batch_at version (to_be_bytes w32 size ++ behind) ≡ None = rw (number_again w32 (2 ^ 32) wide32 size behind is.fits, long) refl in
    inr (to_be_bytes w32 size ++ behind, is.whole, no_batch version (to_be_bytes w32 size ++ behind) none)

-- the front of a window
front_of_window : (size more : ℕ) (rest : Bytes) → size ≤ length rest → take size (take (size + more) rest) ≡ take size rest
front_of_window size more rest fits =
    sym (take-append-le size (take (size + more) rest) (drop (size + more) rest) (omega (arith, length-take (size + more) rest))) ∙ ap (take size) (take-append-drop (size + more) rest)

-- a body in which no batch was read
pub no_body_bad : (version : ℕ) (bytes : Bytes) (size : ℕ) → IsOpenGate bytes size → 5 + size ≤ length bytes → batch_in version (take size (take (size + 5) (drop 5 bytes))) ≡ None
    → IsBadGate version bytes
unfolding batch_at
no_body_bad version bytes size is fits nothing =
    let behind = is.behind in
    let rest : drop 5 bytes ≡ behind = ap (drop 5) is.whole in
    let long : size ≤ length behind = omega (arith, fits, ap length is.whole) in
    let here : batch_in version (take size behind) ≡ None = ap (batch_in version) (sym (front_of_window size 5 behind long) ∙ ap (λ (l : Bytes). take size (take (size + 5) l)) (sym rest)) ∙ nothing in
    let few : nat_lt (length behind) size ≡ false = le-ltb (length behind) size long in
    let none : batch_at version (to_be_bytes w32 size ++ behind) ≡ None = rw (number_again w32 (2 ^ 32) wide32 size behind is.fits, few, here) refl in
    inr (to_be_bytes w32 size ++ behind, is.whole, no_batch version (to_be_bytes w32 size ++ behind) none)

-- and one in which a batch was read
pub body_is_batch : (version : ℕ) (bytes : Bytes) (size : ℕ) (b : LogBatch) (next : Head) → IsOpenGate bytes size → 5 + size ≤ length bytes
    → IsBody version size (take (size + 5) (drop 5 bytes)) b next → IsOpenBatch bytes b (5 + size) next
body_is_batch version bytes size b next is fits read =
    let behind = is.behind in
    let rest : drop 5 bytes ≡ behind = ap (drop 5) is.whole in
    let long : size ≤ length behind = omega (arith, fits, ap length is.whole) in
    let text : take size behind ≡ body b = sym (front_of_window size 5 behind long) ∙ ap (λ (l : Bytes). take size (take (size + 5) l)) (sym rest) ∙ read.whole in
    let len : size ≡ length (body b) = sym (length-take-le size behind long) ∙ ap length text in
    let after : drop size behind ≡ drop (5 + size) bytes = ap (drop size) (sym rest) ∙ drop-drop size 5 bytes in
    let parts : behind ≡ body b ++ drop (5 + size) bytes = sym (take-append-drop size behind) ∙ ap (λ (l : Bytes). l ++ drop size behind) text ∙ ap (λ (l : Bytes). body b ++ l) after in
    record {
      parts =
          is.whole ∙ ap (λ (l : Bytes). 1 ∷ (to_be_bytes w32 size ++ l)) parts ∙ ap (λ (n : ℕ). 1 ∷ (to_be_bytes w32 n ++ (body b ++ drop (5 + size) bytes))) len;
      within = fits;
      next =
          head_longer 5 (drop (5 + size) bytes) next (omega arith) (subst (λ (l : Bytes). IsHead l next) (drop-take size 5 (drop 5 bytes) ∙ ap (take 5) (drop-drop size 5 bytes)) read.next);
    }

-- a batch that was read as a body
pub body_read : (version : ℕ) (bytes text behind : Bytes) (size : ℕ) (b : LogBatch) (next : Head) → IsBytes bytes → size < 2 ^ 32 → size ≤ length bytes
    → text ≡ take size bytes → behind ≡ drop size bytes → batch_in version text ≡ Some b → IsHead behind next → IsBody version size bytes b next
body_read version bytes text behind size b next fits few long front back read head =
    let t = body_takes version text b (subst IsBytes (sym front) (IsBytes-take size bytes fits)) read in
    let len : length (body b) ≡ size = ap length (sym t.0 ∙ front) ∙ length-take-le size bytes long in
    record { batch = t.1 (omega (arith, len, few)); whole = sym front ∙ t.0; next = subst (λ (l : Bytes). IsHead l next) back head }

-- what was read behind a gate and its length
module _ (version : ℕ) (image w : Bytes) (place size : ℕ) (is : IsOpenGate (drop place image) size) (long : place + (5 + size) ≤ length image)
    (read : w ≡ take (size + 5) (drop (place + 5) image)) where
  within : 5 + size ≤ length (drop place image)
  within = omega (arith, long, length-drop place image)

  window : w ≡ take (size + 5) (drop 5 (drop place image))
  window = read ∙ ap (take (size + 5)) (sym (drop-drop 5 place image))

  pub none_in_window : batch_in version (take size w) ≡ None → IsBadGate version (drop place image)
  none_in_window none = no_body_bad version (drop place image) size is within (subst (λ (l : Bytes). batch_in version (take size l) ≡ None) window none)

  pub batch_in_window : (b : LogBatch) (next : Head) → IsBody version size w b next → IsOpenBatch (drop place image) b (5 + size) next
  batch_in_window b next has = body_is_batch version (drop place image) size b next is within (subst (λ (l : Bytes). IsBody version size l b next) window has)

-- one batch more
pub stand_more : (from place : ℕ) (image : Bytes) (bs : List LogBatch) (b : LogBatch) (len : ℕ) (next : Head) → StandBefore from place image bs
    → IsOpenBatch (drop place image) b len next → StandBefore from (place + len) image (bs ++ b ∷ [])
stand_more from place image bs b len next stand is =
    let front = flat_map batch_bytes bs in
    let fits = is.within in
    let at = stand.len in
    let after : length (drop len (drop place image)) ≡ length (drop place image) - len = length-drop len (drop place image) in
    let sum : length (drop place image) ≡ length (batch_bytes b) + length (drop len (drop place image)) = ap length is.parts ∙ length-append (batch_bytes b) (drop len (drop place image)) in
    let more : front ++ batch_bytes b ≡ flat_map batch_bytes (bs ++ b ∷ []) = flat_map_more batch_bytes [] bs b in
    let total : length front + length (batch_bytes b) ≡ length (flat_map batch_bytes (bs ++ b ∷ [])) = sym (length-append front (batch_bytes b)) ∙ ap length more in
    record {
      parts =
          stand.parts ∙ ap (λ (l : Bytes). front ++ l) (is.parts ∙ ap (λ (l : Bytes). batch_bytes b ++ l) (drop-drop len place image)) ∙ sym (append_assoc front (batch_bytes b) (drop (place + len) image)) ∙ ap (λ (l : Bytes). l ++ drop (place + len) image) more;
      len = omega arith;
    }

-- as a reader goes over it
pub stand_over : (from : ℕ) (image : Bytes) (bs : List LogBatch) (b : LogBatch) (old new : BatchReader) → StandBefore from old.place image bs
    → WentOver b image old new → StandBefore from new.place image (bs ++ b ∷ []) × IsHead (drop new.place image) new.head
stand_over from image bs b old new stand over = (
  subst (λ (n : ℕ). StandBefore from n image (bs ++ b ∷ [])) (sym over.place) (stand_more from old.place image bs b over.size new.head stand over.batch),
  subst (λ (l : Bytes). IsHead l new.head) (drop-drop over.size old.place image ∙ ap (λ (n : ℕ). drop n image) (sym over.place)) over.batch.next,
)

-- and in the format
pub batches_more : (version start mark : ℕ) (bs : List LogBatch) (b : LogBatch) → AreBatches version start mark bs → IsLogBatch version b → AreBatches version start (to_of b) (bs ++ b ∷ [])
batches_more version start mark bs b are is = record { each = each_more version bs b are.each is; last = sym (end_more start bs b) }

-- ---- fronts

-- a log that begins so, with these batches
abbrev whole_log : Start → List LogBatch → Contents
whole_log s bs =
    record { version = s.version; worker = s.worker; logs = s.logs; generation = s.generation; start = s.start; batches = bs }

whole_image : (image : Bytes) (s : Start) (place : ℕ) (bs : List LogBatch) → BeginsSo image s → StandBefore s.place place image bs
    → image ≡ log_bytes (whole_log s bs) ++ drop place image
whole_image image s place bs head stand =
    head ∙ ap (λ (l : Bytes). begin_bytes s ++ l) stand.parts ∙ sym (append_assoc (begin_bytes s) (flat_map batch_bytes bs) (drop place image))

whole_len : (image : Bytes) (s : Start) (place : ℕ) (bs : List LogBatch) → IsWithinLimits s → StandBefore s.place place image bs → place ≡ length (log_bytes (whole_log s bs))
whole_len image s place bs is stand =
    let at = stand.len in
    let front = is.place in
    omega (arith, at, front, length-append (begin_bytes s) (flat_map batch_bytes bs))

-- the batches of a log stop at what isn't in the format
pub stopped_bad : (kind : FileKind) (image : Bytes) (s : Start) (place mark : ℕ) (bs : List LogBatch) → IsOfKind kind s.generation → IsWithinLimits s → AreBatches s.version s.start mark bs
    → BeginsSo image s → StandBefore s.place place image bs → IsBadGate s.version (drop place image) → IsBadLog kind image s.worker place
stopped_bad kind image s place mark bs of is are head stand bad =
    inr (
      whole_log s bs,
      of,
      record {
        contents = record { numbers = is.numbers; worker = is.worker; logs = is.logs; batches = are.each };
        rest = drop place image;
        whole = whole_image image s place bs head stand;
        bad = bad;
      },
      refl,
      whole_len image s place bs is stand,
    )

-- ---- beginnings

-- what the first bytes of an image begin with, it does
pub start_longer : (kind : FileKind) (image : Bytes) (s : Start) → IsStart kind (take 30 image) s → IsStart kind image s
start_longer kind image s is =
    let p = s.place in
    let short : p ≤ 25 = omega (arith, is.limits.place, begin_short s.version s.worker s.logs s.generation s.start) in
    let whole : image ≡ begin_bytes s ++ (drop p (take 30 image) ++ drop 30 image) = sym (take-append-drop 30 image) ∙ ap (λ (l : Bytes). l ++ drop 30 image) is.header ∙ append_assoc (begin_bytes s) (drop p (take 30 image)) (drop 30 image) in
    let rest : drop p image ≡ drop p (take 30 image) ++ drop 30 image =
    ap (drop p) whole ∙ ap (λ n. drop n (begin_bytes s ++ (drop p (take 30 image) ++ drop 30 image))) is.limits.place ∙ drop-append_seam (begin_bytes s) (drop p (take 30 image) ++ drop 30 image) in
    let sum : 30 ≡ p + (30 - p) = omega (arith, short) in
    let cut : drop p (take 30 image) ≡ take (30 - p) (drop p image) = ap (λ n. drop p (take n image)) sum ∙ drop-take p (30 - p) image in
    record {
      of_kind = is.of_kind;
      limits = is.limits;
      header = whole ∙ ap (λ (l : Bytes). begin_bytes s ++ l) (sym rest);
      head = head_longer (30 - p) (drop p image) s.head (omega (arith, short)) (subst (λ (l : Bytes). IsHead l s.head) cut is.head);
    }

-- and where these are no log's beginning, it isn't one
pub bad_start_longer : (kind : FileKind) (image : Bytes) (number offset : ℕ) → IsBadStart kind (take 30 image) (reads.Bad number offset) → IsBadLog kind image number offset
bad_start_longer kinds.Plain image number offset (inl none, at) =
    inl (inl (λ version worker logs more known e. none.0 version worker logs (take 22 more) known (ap (take 30) e), none.1), at)
bad_start_longer kinds.Plain image number offset (inr strange, at) =
    inl (inr (record { version = strange.version; known = strange.known; logs = strange.logs; more = strange.more ++ drop 30 image; whole = sym (take-append-drop 30 image) ∙ ap (λ (l : Bytes). l ++ drop 30 image) strange.whole; wrong = strange.wrong }), at)
bad_start_longer (kinds.Numbered parity) image number offset (inl none, at) = inl (inl (λ h more fits e. none.0 h (take 5 more) fits (ap (take 30) e), none.1), at)
bad_start_longer (kinds.Numbered parity) image number offset (inr far, at) =
    inl (
      inr (record {
        header = far.header;
        more = far.more ++ drop 30 image;
        fits = far.fits;
        whole = sym (take-append-drop 30 image) ∙ ap (λ (l : Bytes). l ++ drop 30 image) far.whole ∙ ap (λ (l : Bytes). 1 ∷ l) (append_assoc (header_bytes far.header) far.more (drop 30 image));
        wrong = far.wrong;
        named = far.named;
      }),
      at,
    )

-- ---- disks

module _ {D : Type 0} (is_honest : D → Bool) (state : D → DiskState) (old : D) (len : ℕ) where
  -- what was read of a beginning
  pub start_of_image : (kind : FileKind) (w : Bytes) (start : Start) → OfImage is_honest state old len (λ image. w ≡ take 30 image) → IsStart kind w start
      → OfImage is_honest state old len (λ image. IsStart kind image start)
  start_of_image kind w start told is honest has = start_longer kind (state old).image start (subst (λ (l : Bytes). IsStart kind l start) (told honest has) is)

  pub fault_of_start : (kind : FileKind) (w : Bytes) (e : ReadFault) → OfImage is_honest state old len (λ image. w ≡ take 30 image) → IsBadStart kind w e
      → IsFaultOf kind is_honest state old len e
  fault_of_start kind w reads.Device told bad = tt
  fault_of_start kind w reads.Memory told bad = tt
  fault_of_start kind w (reads.Bad number offset) told bad =
      λ honest has. bad_start_longer kind (state old).image number offset (subst (λ (l : Bytes). IsBadStart kind l (reads.Bad number offset)) (told honest has) bad)

  module _ (new : D) (same : IsTrue (is_honest old) → state new ≡ state old) (kept : is_honest new ≡ is_honest old) where
    -- the image of a disk that was only read
    pub of_same : (P : Bytes → Type 0) → OfImage is_honest state new len P → OfImage is_honest state old len P
    of_same P told honest has =
        let image : (state new).image ≡ (state old).image = ap (λ (t : DiskState). t.image) (same honest) in
        subst P image (told (subst IsTrue (sym kept) honest) (has ∙ ap length (sym image)))

    -- the batches behind a beginning, and where they stop
    module _ (kind : FileKind) (start : Start) (bs : List LogBatch) (reader : BatchReader) (mark : ℕ) (begins : IsStartOf kind is_honest state old len start) (stops : IsStopOf is_honest state new len start bs reader mark) where
      stopped : IsTrue (is_honest old) → len ≡ length (state old).image → IsStop start.version start.place (state old).image bs reader
      stopped honest has =
          of_same (λ (image : Bytes). IsHead (drop start.place image) start.head → IsStop start.version start.place image bs reader) stops.told honest has (begins.told honest has).head

      module _ (r : Result Found ReadFault)
          (told : (k : FileKind) (image : Bytes) → IsOfKind k start.generation → BeginsSo image start → IsStop start.version start.place image bs reader
          → MatchResult r (IsRead image) (IsBadRead k image)) where
        of_image : IsTrue (is_honest old) → len ≡ length (state old).image → MatchResult r (IsRead (state old).image) (IsBadRead kind (state old).image)
        of_image honest has = told kind (state old).image begins.of_kind (begins.told honest has).header (stopped honest has)

      abbrev Told : Result Found ReadFault → Type 0
      Told r = (k : FileKind) (image : Bytes) → IsOfKind k start.generation → BeginsSo image start → IsStop start.version start.place image bs reader
          → MatchResult r (IsRead image) (IsBadRead k image)

      pub front_found : (r : Result Found ReadFault) → Told r → IfOk r (λ found. found.front.generation ≡ start.generation) → IfOk r (IsFoundAt reader.place)
          → IfOk r (IsFrontOf kind is_honest state old len)
      front_found (Ok found) told of ok =
          record { contents = ok.contents; of_kind = subst (IsOfKind kind) (sym of) begins.of_kind; mark = ok.mark; within = subst (λ n. n ≤ len) (sym ok.end) stops.within; told = λ h e. of_image (Ok found) told h e }
      front_found (Err e) told of ok = tt

      pub fault_found : (r : Result Found ReadFault) → Told r → IfErr r (IsFaultOf kind is_honest state old len)
      fault_found (Ok found) told = tt
      fault_found (Err reads.Device) told = tt
      fault_found (Err reads.Memory) told = tt
      fault_found (Err (reads.Bad number offset)) told = λ h e. of_image (Err (reads.Bad number offset)) told h e

-- a front that was found, or a bad log, counts no failure
pub no_failure : (r : Result Found ReadFault) (worker place old new : ℕ) → IfErr r (λ e. e ≡ reads.Bad worker place) → new ≡ old → CountsReads r old new
no_failure (Ok found) worker place old new err same = same
no_failure (Err e) worker place old new err same = subst (λ (x : ReadFault). CountsFault x old new) (sym err) same

-- ---- openings

module _ {D : Type 0} (kind : FileKind) (is_honest : D → Bool) (state : D → DiskState) (failures : D → ℕ) (old : D) where
  -- a disk that was not read
  pub not_synced : (new : D) (e : ReadFault) → FailsToSync is_honest state failures old new e → GivesDiskBack kind is_honest state failures old (fault_with new e)
  not_synced new reads.Device f = (λ honest c b first is before. only_synced c b first (state old) (state new) before (f.moves honest), f.count, f.honest)
  not_synced new reads.Memory f = (λ honest c b first is before. only_synced c b first (state old) (state new) before (f.moves honest), f.count, f.honest)
  not_synced new (reads.Bad number offset) f = absurd f.count

  -- it was synced, and then read
  module _ (synced_at mid : D) (len : ℕ) (s : IsSyncedOf is_honest state failures old synced_at len)
      (same : IsTrue (is_honest synced_at) → state mid ≡ state synced_at) (kept : is_honest mid ≡ is_honest synced_at) where
    still : IsTrue (is_honest old) → IsTrue (is_honest synced_at)
    still h = subst IsTrue (sym s.honest) h

    done : IsTrue (is_honest old) → state mid ≡ synced (state old)
    done h = same (still h) ∙ s.moves h

    image_is : IsTrue (is_honest old) → (state synced_at).image ≡ (state old).image
    image_is h = ap (λ (t : DiskState). t.image) (s.moves h)

    of_synced : (P : Bytes → Type 0) → OfImage is_honest state synced_at len P → IsTrue (is_honest old) → P (state old).image
    of_synced P told h = subst P (image_is h) (told (still h) (s.told h ∙ ap length (sym (image_is h))))

    -- it failed, there was no memory, or the image is no log
    pub not_log : (e : ReadFault) → IsFaultOf kind is_honest state synced_at len e → CountsFault e (failures synced_at) (failures mid)
        → GivesDiskBack kind is_honest state failures old (fault_with mid e)
    not_log reads.Device bad up =
        (λ honest c b first is before. only_synced c b first (state old) (state mid) before (inr (done honest)), subst (λ n. GoesUp n (failures mid)) s.count up, kept ∙ s.honest)
    not_log reads.Memory bad count = (λ honest c b first is before. only_synced c b first (state old) (state mid) before (inr (done honest)), count ∙ s.count, kept ∙ s.honest)
    not_log (reads.Bad number offset) bad count =
        record { bad = of_synced (λ (l : Bytes). IsBadLog kind l number offset) bad; moves = done; count = count ∙ s.count; honest = kept ∙ s.honest }

    -- what was only synced leaves what it may have been, of a log that is begun or given up
    pub synced_text : StillLeavesText is_honest state failures old mid
    synced_text h c first is before = after_sync (IsLeftOf (text_of c)) first (state old) (state mid) before (done h)

    module _ (found : Found) (i : IsFrontOf kind is_honest state synced_at len found) where
      is_read : IsTrue (is_honest old) → IsRead (state old).image found
      is_read h = of_synced (λ (l : Bytes). IsRead l found) i.told h

      -- the log that was read, on its disk
      found_at : IsTrue (is_honest old) → IsFound (log_bytes (contents_of found.front)) found.gate found.end (state mid)
      found_at h =
          let r = is_read h in
          record {
            behind = r.behind;
            image = ap (λ (t : DiskState). t.image) (done h) ∙ r.whole;
            durable = subst IsDurable (sym (done h)) refl;
            end = r.end;
          }

      module _ (new : D)
          (shut : IsTrue (is_honest mid) → (front : Bytes) → IsFound front found.gate found.end (state mid) → found.gate ≡ 0 → LeavesOnly (IsShut front) (state mid) (state new))
          (torn : IsTrue (is_honest mid) → (front text : Bytes) → IsFound front found.gate found.end (state mid) → IsTorn front text (state mid).image → LeavesOnly (IsBeforeOrAfter front text) (state mid) (state new)) where
        -- what its opening leaves, and which front it is
        leaves : IsTrue (is_honest old) → (c : Contents) (b : LogBatch) (first : DiskState) → IsContents (with_batch b c)
            → LeavesOnly (IsLeft c b) first (state old)
            → LeavesOnly (IsLeft c b) first (state new) × IsOldOrNew c b (contents_of found.front)
        leaves h c b first is before =
            let f = contents_of found.front in
            let here = subst IsTrue (sym kept) (still h) in
            let at = found_at h in
            opening c b f found.gate found.end first (state old) (state mid) (state new) is i.contents (is_read h).is_shut at before (done h) (shut here (log_bytes f) at) (λ text. torn here (log_bytes f) text at)

        -- its end was set right, but for a failure
        pub failed_right : failures mid ≡ failures synced_at → GoesUp (failures mid) (failures new) → is_honest new ≡ is_honest mid
            → GivesDiskBack kind is_honest state failures old (fault_with new reads.Device)
        failed_right count up honest =
            (λ h c b first is before. (leaves h c b first is before).0, subst (λ n. GoesUp n (failures new)) (count ∙ s.count) up, honest ∙ kept ∙ s.honest)

        -- its end was set right
        pub opened_right : (IsTrue (is_honest mid) → (front : Bytes) → IsFound front found.gate found.end (state mid) → IsAtRest front found.end (state new))
            → failures mid ≡ failures synced_at → failures new ≡ failures mid → is_honest new ≡ is_honest mid
            → Opened kind is_honest state failures old (record { disk = new; end = found.end; mark = found.mark }) found.front
        opened_right rest read count honest = record {
          contents = i.contents;
          of_kind = i.of_kind;
          mark = i.mark;
          read = λ h. (let r = is_read h in record { contents = i.contents; gate = found.gate; behind = r.behind; is_shut = r.is_shut; whole = r.whole });
          has =
              λ h. record { contents = i.contents; rest = rest (subst IsTrue (sym kept) (still h)) (log_bytes (contents_of found.front)) (found_at h); mark = i.mark };
          reads = λ h c b first is before. (leaves h c b first is before).1;
          leaves = λ h c b first is before. (leaves h c b first is before).0;
          count = count ∙ read ∙ s.count;
          honest = honest ∙ kept ∙ s.honest;
        }

        -- what it leaves of a log that is begun or given up
        pub right_text : StillLeavesText is_honest state failures old new
        right_text h c first is before =
            let f = contents_of found.front in
            let here = subst IsTrue (sym kept) (still h) in
            let at = found_at h in
            opening_text c f found.gate found.end first (state old) (state mid) (state new) is i.contents (is_read h).is_shut at before (done h) (shut here (log_bytes f) at)
