-- An image has one front, or is no log; and what an append or an opening may leave has the old front or the new one.
use Rattle.std.proofs.Common.{◌≡◌, ◌≢◌, ◌⊎◌, ◌<◌, ◌≤◌, ◌^◌, inl, inr, ⊎_elim, ℕ, zero, suc, List, [], ◌∷◌, ◌++◌, length, drop, get_or, refl, sym, ◌∙◌, ap, subst, arith, append_assoc}
use Rattle.std.proofs.{lemmas.List.flat_map_more, lemmas.Option.same_Some}
use Rattle.std.specs.List.{flat_map, AllByRecursion}
use Rattle.mt_rows.specs.{Rows.Bytes, declared.record.Batch.Batch}
use Rattle.mt_disk.{specs.Disk.{DiskState, LeavesOnly, synced}, proofs.CrashLaws.{after_sync, joined, widened}}
use Rattle.mt_log.specs.{declared.batch.LogBatch.LogBatch, declared.batch.LogBatch.TheVariants.{Records, Resume}}
use Rattle.mt_log.specs.Format.{beginning, body, told_body, open_batch, batch_bytes}
use Rattle.mt_log_generations.{specs.{declared.header.Header.Header, declared.header.Parity.Parity, Headers.{parity_of, header_with, header_bytes, IsHeader, FitsEightBytes}}, proofs.HeaderLaws.one_header}
use Rattle.mt_log.specs.Contents.{Contents, AreNumbers, IsContents, IsBatch, IsLogBatch, JoinsAndRises, Rises, from_of, to_of, Join, end_of, log_bytes, with_batch}
use Rattle.mt_log.specs.{declared.reader.FileKind.FileKind, Fronts.{HasFront, HasNoPlainHeader, IsOfKind, IsOfNoGeneration, IsBadBeginning, IsBadGate, IsBadLog, IsShut, IsTorn, IsBeforeOrAfter, IsLeft, IsOldOrNew, IsFound}, Reading.batch_at}
use Rattle.mt_log.specs.declared.reader.FileKind.TheVariants as kinds
use Rattle.mt_log.proofs.BatchLaws.{batch_again}

-- ---- batches that join

pub join_more : (mark : ℕ) (bs : List LogBatch) (b : LogBatch) → Join mark bs → from_of b ≡ end_of mark bs → Rises b → Join mark (bs ++ b ∷ [])
join_more mark [] b join turn is = (turn, is, tt)
join_more mark (x ∷ bs) b join turn is = (join.0, join.1, join_more (to_of x) bs b join.2 turn is)

pub join_front : (mark : ℕ) (bs : List LogBatch) (b : LogBatch) → Join mark (bs ++ b ∷ []) → Join mark bs
join_front mark [] b join = tt
join_front mark (x ∷ bs) b join = (join.0, join.1, join_front (to_of x) bs b join.2)

pub end_more : (mark : ℕ) (bs : List LogBatch) (b : LogBatch) → end_of mark (bs ++ b ∷ []) ≡ to_of b
end_more mark [] b = refl
end_more mark (x ∷ bs) b = end_more (to_of x) bs b

-- batches in the format, and one more
pub each_more : (version : ℕ) (bs : List LogBatch) (b : LogBatch) → AllByRecursion (IsLogBatch version) bs → IsLogBatch version b → AllByRecursion (IsLogBatch version) (bs ++ b ∷ [])
each_more version [] b each is = (is, tt)
each_more version (x ∷ bs) b each is = (each.0, each_more version bs b each.1 is)

each_front : (version : ℕ) (bs : List LogBatch) (b : LogBatch) → AllByRecursion (IsLogBatch version) (bs ++ b ∷ []) → AllByRecursion (IsLogBatch version) bs
each_front version [] b each = tt
each_front version (x ∷ bs) b each = (each.0, each_front version bs b each.1)

-- a batch that an append takes is in the format, and rises
pub in_format : (b : Batch) → IsBatch b → (version : ℕ) → IsLogBatch version (Records b)
in_format b is version =
    let order = is.order in
    let last = is.last in
    record { first = omega arith; last = is.last; each = is.records.each; few = is.few; short = is.short }

pub batch_in_order : (b : Batch) → IsBatch b → Rises (Records b)
batch_in_order b is = (is.order, record { rising = is.records.limits.stamps; within = is.records.within })

pub in_steps : (from to kept : ℕ) → from ≤ to → to ≤ 2 ^ 59 → kept ≤ to → (version : ℕ) → IsLogBatch version (Resume from to kept)
in_steps from to kept order last small version = record { first = omega arith; last = last; past = omega arith }

each_last : (version : ℕ) (bs : List LogBatch) (b : LogBatch) → AllByRecursion (IsLogBatch version) (bs ++ b ∷ []) → IsLogBatch version b
each_last version [] b each = each.0
each_last version (x ∷ bs) b each = each_last version bs b each.1

pub contents_front : (c : Contents) (b : LogBatch) → IsContents (with_batch b c) → IsContents c
contents_front c b is = record { numbers = is.numbers; worker = is.worker; logs = is.logs; batches = each_front c.version c.batches b is.batches }

pub added_in_format : (c : Contents) (b : LogBatch) → IsContents (with_batch b c) → IsLogBatch c.version b
added_in_format c b is = each_last c.version c.batches b is.batches

pub contents_more : (c : Contents) (b : LogBatch) → IsContents c → IsLogBatch c.version b → IsContents (with_batch b c)
contents_more c b is batch = record { numbers = is.numbers; worker = is.worker; logs = is.logs; batches = each_more c.version c.batches b is.batches batch }

-- a log with one batch more, as bytes
pub more_bytes : (c : Contents) (b : LogBatch) → log_bytes (with_batch b c) ≡ log_bytes c ++ batch_bytes b
more_bytes c b = sym (flat_map_more batch_bytes (beginning c.version c.worker c.logs c.generation c.start) c.batches b)

-- ---- one front

pub one_batch : (version : ℕ) (b c : LogBatch) (x y : Bytes) → IsLogBatch version b → IsLogBatch version c → told_body (body b) ++ x ≡ told_body (body c) ++ y → (b ≡ c) × (x ≡ y)
one_batch version b c x y is_b is_c e =
    let same = same_Some (b, x) (c, y) (sym (batch_again version b x is_b) ∙ ap (batch_at version) e ∙ batch_again version c y is_c) in
    (ap (λ (p : LogBatch × Bytes). p.0) same, ap (λ (p : LogBatch × Bytes). p.1) same)

abbrev pub first : Bytes → ℕ
first bytes = get_or bytes 0 0

-- batches before a gate that isn't open are these alone
once : (version : ℕ) (bs cs : List LogBatch) (g k : ℕ) (t u : Bytes) → AllByRecursion (IsLogBatch version) bs → AllByRecursion (IsLogBatch version) cs → g ≢ 1 → k ≢ 1
    → flat_map batch_bytes bs ++ (g ∷ t) ≡ flat_map batch_bytes cs ++ (k ∷ u) → (bs ≡ cs) × (g ≡ k)
once version [] [] g k t u join_b join_c shut_g shut_k same = (refl, ap first same)
once version [] (c ∷ cs) g k t u join_b join_c shut_g shut_k same = absurd (shut_g (ap first same))
once version (b ∷ bs) [] g k t u join_b join_c shut_g shut_k same = absurd (shut_k (sym (ap first same)))
once version (b ∷ bs) (c ∷ cs) g k t u join_b join_c shut_g shut_k same =
    let behind = ap (λ (l : Bytes). drop 1 l) same in
    let parts = one_batch version b c (flat_map batch_bytes bs ++ (g ∷ t)) (flat_map batch_bytes cs ++ (k ∷ u)) join_b.0 join_c.0
    (sym (append_assoc (told_body (body b)) (flat_map batch_bytes bs) (g ∷ t)) ∙ behind ∙ append_assoc (told_body (body c)) (flat_map batch_bytes cs) (k ∷ u)) in
    let rest = once version bs cs g k t u join_b.1 join_c.1 shut_g shut_k parts.1 in
    ((λ i. parts.0 i ∷ rest.0 i), rest.1)

-- and no gate is bad behind them
clash : (version : ℕ) (bs cs : List LogBatch) (g : ℕ) (t rest : Bytes) → AllByRecursion (IsLogBatch version) bs → AllByRecursion (IsLogBatch version) cs → g ≢ 1 → IsBadGate version rest
    → flat_map batch_bytes bs ++ (g ∷ t) ≡ flat_map batch_bytes cs ++ rest → ⊥
clash version [] [] g t rest join_b join_c shut (inl none) same = omega (arith, ap length same, ap length none)
clash version [] [] g t rest join_b join_c shut (inr bad) same = shut (ap first (same ∙ bad.1))
clash version [] (c ∷ cs) g t rest join_b join_c shut bad same = shut (ap first same)
clash version (b ∷ bs) [] g t rest join_b join_c shut (inl none) same = omega (arith, ap length same, ap length none)
clash version (b ∷ bs) [] g t rest join_b join_c shut (inr bad) same =
    let behind : (told_body (body b) ++ flat_map batch_bytes bs) ++ (g ∷ t) ≡ bad.0 = ap (λ (l : Bytes). drop 1 l) (same ∙ bad.1) in
    bad.2 b (flat_map batch_bytes bs ++ (g ∷ t)) join_b.0 (sym behind ∙ append_assoc (told_body (body b)) (flat_map batch_bytes bs) (g ∷ t))
clash version (b ∷ bs) (c ∷ cs) g t rest join_b join_c shut bad same =
    let behind = ap (λ (l : Bytes). drop 1 l) same in
    let parts = one_batch version b c (flat_map batch_bytes bs ++ (g ∷ t)) (flat_map batch_bytes cs ++ rest) join_b.0 join_c.0
    (sym (append_assoc (told_body (body b)) (flat_map batch_bytes bs) (g ∷ t)) ∙ behind ∙ append_assoc (told_body (body c)) (flat_map batch_bytes cs) rest) in
    clash version bs cs g t rest join_b.1 join_c.1 shut bad parts.1

-- ---- beginnings

-- what stands before the first gate of the log of a generation
pub numbered_bytes : (w n i s : ℕ) → 1 ≤ i → beginning 3 w n i s ≡ 1 ∷ header_bytes (header_with w n i s)
numbered_bytes w n zero s some = absurd (omega arith)
numbered_bytes w n (suc i) s some = refl

numbers_fit : (i s : ℕ) → 1 ≤ i → i ≤ 2 ^ 59 → s ≤ 2 ^ 59 → AreNumbers 3 i s
numbers_fit zero s some most start = absurd (omega arith)
numbers_fit (suc i) s some most start = (refl, most, start)

pub numbered_limits : (h : Header) → IsHeader h → AreNumbers 3 h.generation h.start
numbered_limits h is = numbers_fit h.generation h.start is.numbered is.generation is.start

-- where the first gate stands
pub begin_short : (v w n i s : ℕ) → length (beginning v w n i s) ≤ 25
begin_short v w n zero s = omega arith
begin_short v w n (suc i) s = omega arith

fits_eight : (w n i s : ℕ) → i ≤ 2 ^ 59 → s ≤ 2 ^ 59 → FitsEightBytes (header_with w n i s)
fits_eight w n i s most start = record { generation = omega arith; start = omega arith }

-- what was read of two beginnings that are the same
abbrev pub AreSame : ℕ → ℕ → ℕ → ℕ → ℕ → ℕ → ℕ → ℕ → ℕ → ℕ → Bytes → Bytes → Type 0
AreSame f v m i s g w n j t x y = (f ≡ g) × (v ≡ w) × (m ≡ n) × (i ≡ j) × (s ≡ t) × (x ≡ y)

pub same_beginning : (f v m i s g w n j t : ℕ) (x y : Bytes) → AreNumbers f i s → AreNumbers g j t → beginning f v m i s ++ x ≡ beginning g w n j t ++ y
    → AreSame f v m i s g w n j t x y
same_beginning f v m zero s g w n zero t x y is_f is_g e =
    (ap (λ (l : Bytes). get_or l 5 0) e, ap (λ (l : Bytes). get_or l 6 0) e, ap (λ (l : Bytes). get_or l 7 0) e, refl, is_f.1 ∙ sym is_g.1, ap (λ (l : Bytes). drop 8 l) e)
same_beginning f v m zero s g w n (suc j) t x y is_f is_g e = absurd (omega (arith, ap first e))
same_beginning f v m (suc i) s g w n zero t x y is_f is_g e = absurd (omega (arith, ap first e))
same_beginning f v m (suc i) s g w n (suc j) t x y is_f is_g e =
    let h = header_with v m (suc i) s in
    let k = header_with w n (suc j) t in
    let same : h ≡ k = one_header h k x y (fits_eight v m (suc i) s is_f.1 is_f.2) (fits_eight w n (suc j) t is_g.1 is_g.2) (ap (λ (l : Bytes). drop 1 l) e) in (
      is_f.0 ∙ sym is_g.0,
      ap (λ (a : Header). a.worker) same,
      ap (λ (a : Header). a.logs) same,
      ap (λ (a : Header). a.generation) same,
      ap (λ (a : Header). a.start) same,
      ap (λ (l : Bytes). drop 25 l) e,
    )

-- a log's beginning is no bad one, in a file of its kind
begins : (kind : FileKind) (v w n i s number : ℕ) (x image : Bytes) → AreNumbers v i s → w < n → n ≤ 64 → IsOfKind kind i
    → image ≡ beginning v w n i s ++ x → IsBadBeginning kind image number → ⊥
begins kinds.Plain v w n zero s number x image is under most of whole (inl none) = none.0 v w n x is.0 whole
begins kinds.Plain v w n zero s number x image is under most of whole (inr strange) =
    let e = sym whole ∙ strange.whole in
    let named : w ≡ number = ap (λ (l : Bytes). get_or l 6 0) e in
    let count : n ≡ strange.logs = ap (λ (l : Bytes). get_or l 7 0) e in
    strange.wrong (omega (arith, named, count, under)) (omega (arith, count, most))
begins kinds.Plain v w n (suc i) s number x image is under most of whole bad = omega (arith, of)
begins (kinds.Numbered parity) v w n zero s number x image is under most of whole bad = omega (arith, of.0)
begins (kinds.Numbered parity) v w n (suc i) s number x image is under most of whole (inl none) =
    none.0 (header_with w n (suc i) s) x (fits_eight w n (suc i) s is.1 is.2) whole
begins (kinds.Numbered parity) v w n (suc i) s number x image is under most of whole (inr past) =
    let h = header_with w n (suc i) s in
    let same = one_header h past.header x past.more (fits_eight w n (suc i) s is.1 is.2) past.fits (ap (λ (l : Bytes). drop 1 l) (sym whole ∙ past.whole)) in
    past.wrong (subst IsHeader same (record { worker = under; logs = most; numbered = omega arith; generation = is.1; start = is.2 }))
    (subst (λ (k : Header). parity_of k.generation ≡ parity) same of.1)

-- the log of a generation begins as no plain one
no_plain : (v w n i s : ℕ) (x image : Bytes) → 1 ≤ i → image ≡ beginning v w n i s ++ x → HasNoPlainHeader image
no_plain v w n zero s x image some whole version worker logs more known e = omega (arith, some)
no_plain v w n (suc i) s x image some whole version worker logs more known e = omega (arith, ap first (sym whole ∙ e))

-- and in the file of the other parity as a misplaced one
misplaced : (parity : Parity) (v w n i s : ℕ) (x image : Bytes) → AreNumbers v i s → 1 ≤ i → parity_of i ≢ parity → image ≡ beginning v w n i s ++ x
    → IsOfNoGeneration parity image w
misplaced parity v w n zero s x image is some other whole = absurd (omega (arith, some))
misplaced parity v w n (suc i) s x image is some other whole = record {
  header = header_with w n (suc i) s;
  more = x;
  fits = fits_eight w n (suc i) s is.1 is.2;
  whole = whole;
  wrong = λ within same. other same;
  named = refl;
}

-- ---- one front

-- the beginnings of two logs whose bytes are the same
same_logs : (c d : Contents) (x y : Bytes) → IsContents c → IsContents d → log_bytes c ++ x ≡ log_bytes d ++ y
    → AreSame c.version c.worker c.logs c.generation c.start d.version d.worker d.logs d.generation d.start (flat_map batch_bytes c.batches ++ x) (flat_map batch_bytes d.batches ++ y)
same_logs c d x y is_c is_d e =
    let b = beginning c.version c.worker c.logs c.generation c.start in
    let k = beginning d.version d.worker d.logs d.generation d.start in
    same_beginning c.version c.worker c.logs c.generation c.start d.version d.worker d.logs d.generation d.start (flat_map batch_bytes c.batches ++ x) (flat_map batch_bytes d.batches ++ y) is_c.numbers is_d.numbers
    (sym (append_assoc b (flat_map batch_bytes c.batches) x) ∙ e ∙ append_assoc k (flat_map batch_bytes d.batches) y)

same_contents : (c d : Contents) → c.version ≡ d.version → c.worker ≡ d.worker → c.logs ≡ d.logs → c.generation ≡ d.generation → c.start ≡ d.start → c.batches ≡ d.batches → c ≡ d
same_contents c d o p q r s t i = record { version = o i; worker = p i; logs = q i; generation = r i; start = s i; batches = t i }

pub one_whole : (c d : Contents) (g k : ℕ) (t u : Bytes) → IsContents c → IsContents d → g ≢ 1 → k ≢ 1 → log_bytes c ++ (g ∷ t) ≡ log_bytes d ++ (k ∷ u)
    → (c ≡ d) × (g ≡ k)
one_whole c d g k t u is_c is_d shut_g shut_k e =
    let heads = same_logs c d (g ∷ t) (k ∷ u) is_c is_d e in
    let also : AllByRecursion (IsLogBatch c.version) d.batches = subst (λ v. AllByRecursion (IsLogBatch v) d.batches) (sym heads.0) is_d.batches in
    let tails = once c.version c.batches d.batches g k t u is_c.batches also shut_g shut_k heads.5 in
    (same_contents c d heads.0 heads.1 heads.2 heads.3 heads.4 tails.0, tails.1)

-- an image has one front
pub one_front : (c d : Contents) (image : Bytes) → HasFront c image → HasFront d image → c ≡ d
one_front c d image one other =
    (one_whole c d one.gate other.gate one.behind other.behind one.contents other.contents one.is_shut other.is_shut (sym one.whole ∙ other.whole)).0

-- and an image that has one is a log, in a file of its kind
pub front_not_bad : (kind : FileKind) (c : Contents) (image : Bytes) (number offset : ℕ) → IsOfKind kind c.generation → HasFront c image → IsBadLog kind image number offset → ⊥
front_not_bad kind c image number offset of front (inl bad) =
    let is = front.contents in
    let whole = front.whole ∙ append_assoc (beginning c.version c.worker c.logs c.generation c.start) (flat_map batch_bytes c.batches) (front.gate ∷ front.behind) in
    begins kind c.version c.worker c.logs c.generation c.start number (flat_map batch_bytes c.batches ++ (front.gate ∷ front.behind)) image is.numbers is.worker is.logs of whole bad.0
front_not_bad kind c image number offset of front (inr bad) =
    let d = bad.0 in
    let after = bad.2 in
    let heads = same_logs c d (front.gate ∷ front.behind) after.rest front.contents after.contents (sym front.whole ∙ after.whole) in
    clash c.version c.batches d.batches front.gate front.behind after.rest front.contents.batches
    (subst (λ v. AllByRecursion (IsLogBatch v) d.batches) (sym heads.0) after.contents.batches) front.is_shut (subst (λ v. IsBadGate v after.rest) (sym heads.0) after.bad) heads.5

-- the log of a generation is none in a plain file
pub numbered_is_bad : (c : Contents) (image : Bytes) → 1 ≤ c.generation → HasFront c image → IsBadLog kinds.Plain image 0 0
numbered_is_bad c image some front =
    let whole = front.whole ∙ append_assoc (beginning c.version c.worker c.logs c.generation c.start) (flat_map batch_bytes c.batches) (front.gate ∷ front.behind) in
    inl (inl (no_plain c.version c.worker c.logs c.generation c.start (flat_map batch_bytes c.batches ++ (front.gate ∷ front.behind)) image some whole, refl), refl)

-- nor in the numbered file of the other parity
pub misplaced_is_bad : (parity : Parity) (c : Contents) (image : Bytes) → 1 ≤ c.generation → parity_of c.generation ≢ parity → HasFront c image
    → IsBadLog (kinds.Numbered parity) image c.worker 0
misplaced_is_bad parity c image some other front =
    let whole = front.whole ∙ append_assoc (beginning c.version c.worker c.logs c.generation c.start) (flat_map batch_bytes c.batches) (front.gate ∷ front.behind) in
    inl (inr (misplaced parity c.version c.worker c.logs c.generation c.start (flat_map batch_bytes c.batches ++ (front.gate ∷ front.behind)) image front.contents.numbers some other whole), refl)

-- ---- what may be left

shut_whole : (c : Contents) (b : LogBatch) (image : Bytes) → (shut : IsShut (log_bytes c ++ open_batch (body b)) image)
    → image ≡ log_bytes (with_batch b c) ++ (0 ∷ shut.behind)
shut_whole c b image shut = shut.whole ∙ ap (λ (l : Bytes). l ++ (0 ∷ shut.behind)) (sym (more_bytes c b))

-- what may be left of an append has the old front or the new one
pub left_front : (c : Contents) (b : LogBatch) (image : Bytes) → IsContents (with_batch b c) → IsLeft c b image
    → HasFront c image ⊎ HasFront (with_batch b c) image
left_front c b image is (inl torn) =
    inl (record { contents = contents_front c b is; gate = torn.gate; behind = torn.behind; is_shut = torn.is_shut; whole = torn.whole })
left_front c b image is (inr shut) =
    inr (record { contents = is; gate = 0; behind = shut.behind; is_shut = λ e. omega (arith, e); whole = shut_whole c b image shut })

-- and so its front joins and rises where the new one does
pub left_joins : (c front : Contents) (b : LogBatch) (image : Bytes) → IsContents (with_batch b c) → JoinsAndRises (with_batch b c) → IsLeft c b image
    → HasFront front image → JoinsAndRises front
left_joins c front b image is joins left has =
    ⊎_elim
    (λ old. subst JoinsAndRises (one_front c front image old has) (join_front c.start c.batches b joins))
    (λ new. subst JoinsAndRises (one_front (with_batch b c) front image new has) joins)
    (left_front c b image is left)

-- which of the two a front is that was read
abbrev IsWhich : Contents → LogBatch → Contents → ℕ → Bytes → Type 0
IsWhich c b f gate image = ((f ≡ c) × IsTorn (log_bytes c) (body b) image) ⊎ ((f ≡ with_batch b c) × (gate ≡ 0))

which : (c : Contents) (b : LogBatch) (f : Contents) (gate : ℕ) (behind image : Bytes) → IsContents (with_batch b c) → IsContents f → gate ≢ 1
    → image ≡ log_bytes f ++ (gate ∷ behind) → IsLeft c b image → IsWhich c b f gate image
which c b f gate behind image is is_f shut whole (inl torn) =
    inl ((one_whole f c gate torn.gate behind torn.behind is_f (contents_front c b is) shut torn.is_shut (sym whole ∙ torn.whole)).0, torn)
which c b f gate behind image is is_f shut whole (inr after) =
    inr (one_whole f (with_batch b c) gate 0 behind after.behind is_f is shut (λ e. omega (arith, e)) (sym whole ∙ shut_whole c b image after))

-- An opening that synced what may be left, and read this front, leaves what may be left, and the front is
-- the old one or the new one.
pub opening : (c : Contents) (b : LogBatch) (f : Contents) (gate place : ℕ) (first old mid new : DiskState) → IsContents (with_batch b c)
    → IsContents f → gate ≢ 1 → IsFound (log_bytes f) gate place mid
    → LeavesOnly (IsLeft c b) first old → mid ≡ synced old
    → (gate ≡ 0 → LeavesOnly (IsShut (log_bytes f)) mid new)
    → ((bytes : Bytes) → IsTorn (log_bytes f) bytes mid.image → LeavesOnly (IsBeforeOrAfter (log_bytes f) bytes) mid new)
    → LeavesOnly (IsLeft c b) first new × IsOldOrNew c b f
opening c b f gate place first old mid new is is_f shut found before done when_shut when_torn =
    let P = IsLeft c b in
    let kept = after_sync P first old mid before done in
    ⊎_elim
    (λ h. (joined P first mid new kept (subst (λ (x : Contents). LeavesOnly (IsBeforeOrAfter (log_bytes x) (body b)) mid new) h.0 (when_torn (body b) (subst (λ (x : Contents). IsTorn (log_bytes x) (body b) mid.image) (sym h.0) h.1))), inl h.0))
    (λ h. (joined P first mid new kept (widened (IsShut (log_bytes f)) P mid new (λ image has. inr (subst (λ (l : Bytes). IsShut l image) (ap log_bytes h.0 ∙ more_bytes c b) has)) (when_shut h.1)), inr h.0))
    (which c b f gate found.behind mid.image is is_f shut found.image (kept.now mid.image kept.reads))

-- and one that ended before it read, or could not
pub only_synced : (c : Contents) (b : LogBatch) (first old new : DiskState) → LeavesOnly (IsLeft c b) first old → (new ≡ old) ⊎ (new ≡ synced old)
    → LeavesOnly (IsLeft c b) first new
only_synced c b first old new before (inl same) = subst (LeavesOnly (IsLeft c b) first) (sym same) before
only_synced c b first old new before (inr done) = after_sync (IsLeft c b) first old new before done
