-- The log of a generation: its bytes when it is begun, and what is left of it when it is given up.
use Rattle.std.proofs.Common.{◌≡◌, ◌≢◌, ◌⊎◌, ◌↔◌, inl, inr, ℕ, zero, suc, ◌<◌, ◌≤◌, Bool, IsTrue, [], ◌∷◌, ◌++◌, length, drop, Option, Some, refl, sym, ◌∙◌, ap, subst, arith, append_assoc, length-append}
use Rattle.std.proofs.{lemmas.Option.same_Some, lemmas.List.append-nil}
use Rattle.std.specs.List.{slice_get}
use Rattle.mt_rows.specs.Rows.{Bytes}
use Rattle.mt_disk.{specs.Disk.{DiskState, LeavesOnly, synced}, proofs.CrashLaws.{started, after_sync, joined, widened}}
use Rattle.mt_gates.{specs.Gates.{IsClosed, IsGated, IsLeftOf, HasDurably}, proofs.Crash.counts}
use Rattle.mt_gates.specs.{Beginnings.{StopsOver, CountsFault}, declared.gated.BeginFault.{BeginFault, TheVariants.{Device, NotShut}}}
use Rattle.mt_log_generations.specs.{declared.header.Header.Header, Headers.{header_bytes, begun_text, IsHeader, IsNoLog}}
use Rattle.mt_log.specs.{declared.batch.LogBatch.LogBatch}
use Rattle.mt_log.specs.Format.{beginning, body, open_batch, batch_bytes}
use Rattle.mt_log.specs.Contents.{Contents, IsContents, log_bytes}
use Rattle.mt_log.specs.{Fronts.{HasFront, IsAtRest, IsLeft, IsShut, IsFound}, Numbered.{begun_log, text_of, LeavesBegun, IsNotBegun}}
use Rattle.mt_log.proofs.FrontLaws.{numbered_bytes, numbered_limits, one_whole}
use Rattle.std.specs.List.{flat_map}

-- ---- the first byte

abbrev first : Bytes → Option ℕ
first bytes = slice_get bytes 0

begins_open : (v w n i s : ℕ) (x image : Bytes) → 1 ≤ i → image ≡ beginning v w n i s ++ x → first image ≡ Some 1
begins_open v w n zero s x image some whole = absurd (omega arith)
begins_open v w n (suc i) s x image some whole = ap first whole

begins_numbered : (v w n i s : ℕ) (x image : Bytes) → image ≡ beginning v w n i s ++ x → first image ≡ Some 1 → 1 ≤ i
begins_numbered v w n zero s x image whole opened = absurd (omega (arith, same_Some 77 1 (sym (ap first whole) ∙ opened)))
begins_numbered v w n (suc i) s x image whole opened = omega arith

-- the bytes of a log begin with its beginning
behind_begin : (c : Contents) (x image : Bytes) → image ≡ log_bytes c ++ x → image ≡ beginning c.version c.worker c.logs c.generation c.start ++ (flat_map batch_bytes c.batches ++ x)
behind_begin c x image whole = whole ∙ append_assoc (beginning c.version c.worker c.logs c.generation c.start) (flat_map batch_bytes c.batches) x

pub opens : (c : Contents) (x image : Bytes) → 1 ≤ c.generation → image ≡ log_bytes c ++ x → first image ≡ Some 1
opens c x image some whole = begins_open c.version c.worker c.logs c.generation c.start (flat_map batch_bytes c.batches ++ x) image some (behind_begin c x image whole)

pub is_numbered : (c : Contents) (x image : Bytes) → image ≡ log_bytes c ++ x → first image ≡ Some 1 → 1 ≤ c.generation
is_numbered c x image whole opened =
    begins_numbered c.version c.worker c.logs c.generation c.start (flat_map batch_bytes c.batches ++ x) image (behind_begin c x image whole) opened

-- what an append to it may leave begins with the open gate
pub left_opens : (c : Contents) (b : LogBatch) (image : Bytes) → 1 ≤ c.generation → IsLeft c b image → first image ≡ Some 1
left_opens c b image some (inl torn) = opens c (torn.gate ∷ torn.behind) image some torn.whole
left_opens c b image some (inr shut) =
    opens c (open_batch (body b) ++ (0 ∷ shut.behind)) image some (shut.whole ∙ append_assoc (log_bytes c) (open_batch (body b)) (0 ∷ shut.behind))

-- a log is no log of a generation just if it has none
pub no_generation : (c : Contents) (image : Bytes) → HasFront c image → IsNoLog image ↔ (c.generation ≡ 0)
no_generation c image front = (to, from)
  where
    from_number : (n : ℕ) → (1 ≤ n → ⊥) → n ≡ 0
    from_number zero none = refl
    from_number (suc n) none = absurd (none (omega arith))

    to : IsNoLog image → c.generation ≡ 0
    to none = from_number c.generation (λ some. none (opens c (front.gate ∷ front.behind) image some front.whole))

    from : c.generation ≡ 0 → IsNoLog image
    from none opened = (let some = is_numbered c (front.gate ∷ front.behind) image front.whole opened in omega (arith, some, none))

-- ---- a log that is begun

begun_bytes : (h : Header) → IsHeader h → log_bytes (begun_log h) ≡ 1 ∷ header_bytes h
begun_bytes h is = append-nil (beginning 3 h.worker h.logs h.generation h.start) ∙ numbered_bytes h.worker h.logs h.generation h.start is.numbered

pub begun_contents : (h : Header) → IsHeader h → IsContents (begun_log h)
begun_contents h is = record { numbers = numbered_limits h is; worker = is.worker; logs = is.logs; batches = tt }

pub begun_is_text : (h : Header) → IsHeader h → text_of (begun_log h) ≡ begun_text h
begun_is_text h is = ap (λ (l : Bytes). drop 1 (l ++ 0 ∷ [])) (begun_bytes h is)

pub begun_rest : (h : Header) (s : DiskState) → IsHeader h → HasDurably (begun_text h) s → IsAtRest (log_bytes (begun_log h)) 25 s
begun_rest h s is has = record {
  image = has.image ∙ sym (ap (λ (l : Bytes). l ++ 0 ∷ []) (begun_bytes h is));
  durable = has.durable;
  end = omega (arith, ap length (begun_bytes h is));
}

-- why a log was not begun
pub not_begun : {D : Type 0} (is_honest : D → Bool) (state : D → DiskState) (failures : D → ℕ) (old new : D) (h : Header) (fault : BeginFault)
    → (IsTrue (is_honest old) → StopsOver fault (state old) (state new)) → LeavesBegun is_honest state failures old new h → CountsFault fault (failures old) (failures new)
    → is_honest new ≡ is_honest old → IsNotBegun is_honest state failures fault old h new
not_begun is_honest state failures old new h Device gate leaves count honest = record { gate = gate; leaves = leaves; count = count; honest = honest }
not_begun is_honest state failures old new h NotShut gate leaves count honest =
    record { gate = λ is. (gate is).0; moves = λ is. (gate is).1; count = count; honest = honest }

-- ---- a log that is given up

begin_some : (v w n i s : ℕ) → 8 ≤ length (beginning v w n i s)
begin_some v w n zero s = omega arith
begin_some v w n (suc i) s = omega arith

-- a list with an item, by its first
by_head : (l : Bytes) → 1 ≤ length l → (g : ℕ) × (l ≡ g ∷ drop 1 l)
by_head [] some = absurd (omega arith)
by_head (x ∷ l) some = (x, refl)

log_some : (c : Contents) → 8 ≤ length (log_bytes c)
log_some c =
    omega (arith, begin_some c.version c.worker c.logs c.generation c.start, length-append (beginning c.version c.worker c.logs c.generation c.start) (flat_map batch_bytes c.batches))

rest_by_head : (c : Contents) → (g : ℕ) × (log_bytes c ++ 0 ∷ [] ≡ g ∷ text_of c)
rest_by_head c = by_head (log_bytes c ++ 0 ∷ []) (omega (arith, log_some c, length-append (log_bytes c) (0 ∷ [])))

pub text_some : (c : Contents) → 0 < length (text_of c)
text_some c = omega (arith, log_some c, length-append (log_bytes c) (0 ∷ []), ap length (rest_by_head c).1)

-- a log at rest is left as it is
pub rest_left : (c : Contents) (place : ℕ) (s : DiskState) → IsAtRest (log_bytes c) place s → LeavesOnly (IsLeftOf (text_of c)) s s
rest_left c place s rest =
    let head = rest_by_head c in
    started (IsLeftOf (text_of c)) s rest.durable
    (inr (record { gate = head.0; behind = []; whole = rest.image ∙ head.1 ∙ ap (λ (l : Bytes). head.0 ∷ l) (sym (append-nil (text_of c))) }))

-- what may be left of it is no log, or it
pub left_whole : (c : Contents) (image : Bytes) → IsContents c → 1 ≤ c.generation → IsLeftOf (text_of c) image → IsNoLog image ⊎ HasFront c image
left_whole c image is some left =
    let head = rest_by_head c in
    let gate : head.0 ≡ 1 = same_Some head.0 1 (sym (ap first head.1) ∙ opens c (0 ∷ []) (log_bytes c ++ 0 ∷ []) some refl) in
    elim (counts (text_of c) image left) [
      | inl none ↦ inl none
      | inr opened ↦ inr (record {
        contents = is;
        gate = 0;
        behind = opened.behind;
        is_shut = λ e. omega (arith, e);
        whole = opened.whole ∙ sym (ap (λ (l : Bytes). l ++ opened.behind) (head.1 ∙ ap (λ (n : ℕ). n ∷ text_of c) gate)) ∙ append_assoc (log_bytes c) (0 ∷ []) opened.behind;
      })
    ]

-- ---- what an opening leaves of a log that is begun or given up

abbrev second : Bytes → Option ℕ
second bytes = slice_get bytes 1

-- beginnings with the same second byte have the same first
by_second : (v w n i s y m k j t : ℕ) (x z : Bytes) → second (beginning v w n i s ++ x) ≡ second (beginning y m k j t ++ z)
    → first (beginning v w n i s ++ x) ≡ first (beginning y m k j t ++ z)
by_second v w n zero s y m k zero t x z e = refl
by_second v w n zero s y m k (suc j) t x z e = absurd (omega (arith, same_Some 84 77 e))
by_second v w n (suc i) s y m k zero t x z e = absurd (omega (arith, same_Some 77 84 e))
by_second v w n (suc i) s y m k (suc j) t x z e = refl

logs_by_second : (c d : Contents) (x y : Bytes) → second (log_bytes c ++ x) ≡ second (log_bytes d ++ y) → first (log_bytes c ++ x) ≡ first (log_bytes d ++ y)
logs_by_second c d x y e =
    let p = behind_begin c x (log_bytes c ++ x) refl in
    let q = behind_begin d y (log_bytes d ++ y) refl in
    ap first p ∙ by_second c.version c.worker c.logs c.generation c.start d.version d.worker d.logs d.generation d.start (flat_map batch_bytes c.batches ++ x) (flat_map batch_bytes d.batches ++ y) (sym (ap second p) ∙ e ∙ ap second q) ∙ sym (ap first q)

-- no log begins with a closed gate
begins_some : (v w n i s : ℕ) (x : Bytes) → first (beginning v w n i s ++ x) ≡ Some 0 → ⊥
begins_some v w n zero s x e = omega (arith, same_Some 77 0 e)
begins_some v w n (suc i) s x e = omega (arith, same_Some 1 0 e)

not_closed : (c : Contents) (x image : Bytes) → image ≡ log_bytes c ++ x → IsClosed image → ⊥
not_closed c x image whole closed =
    begins_some c.version c.worker c.logs c.generation c.start (flat_map batch_bytes c.batches ++ x) (sym (ap first (behind_begin c x image whole)) ∙ ap first closed.whole)

-- the text of a log with a front after its first byte is that log
same_text : (c f : Contents) (gate g : ℕ) (behind more image : Bytes) → IsContents c → IsContents f → gate ≢ 1 → image ≡ log_bytes f ++ (gate ∷ behind)
    → image ≡ g ∷ (text_of c ++ more) → (f ≡ c) × (gate ≡ 0)
same_text c f gate g behind more image is_c is_f shut whole gated =
    let head = rest_by_head c in
    let log : log_bytes c ++ (0 ∷ more) ≡ head.0 ∷ (text_of c ++ more) = sym (append_assoc (log_bytes c) (0 ∷ []) more) ∙ ap (λ (l : Bytes). l ++ more) head.1 in
    let firsts = logs_by_second f c (gate ∷ behind) (0 ∷ more) (ap second (sym whole ∙ gated) ∙ sym (ap second log)) in
    let same : g ≡ head.0 = same_Some g head.0 (ap first (sym gated ∙ whole) ∙ firsts ∙ ap first log) in
    one_whole f c gate 0 behind more is_f is_c shut (λ e. omega (arith, e)) (sym whole ∙ gated ∙ ap (λ (n : ℕ). n ∷ (text_of c ++ more)) same ∙ sym log)

text_stays : (c : Contents) (image : Bytes) → IsShut (log_bytes c) image → IsGated (text_of c) image
text_stays c image has =
    let head = rest_by_head c in
    record { gate = head.0; behind = has.behind; whole = has.whole ∙ sym (append_assoc (log_bytes c) (0 ∷ []) has.behind) ∙ ap (λ (l : Bytes). l ++ has.behind) head.1 }

-- An opening that synced what may be left, and read a front, leaves what may be left.
pub opening_text : (c f : Contents) (gate place : ℕ) (since old mid new : DiskState) → IsContents c → IsContents f → gate ≢ 1 → IsFound (log_bytes f) gate place mid
    → LeavesOnly (IsLeftOf (text_of c)) since old → mid ≡ synced old → (gate ≡ 0 → LeavesOnly (IsShut (log_bytes f)) mid new)
    → LeavesOnly (IsLeftOf (text_of c)) since new
opening_text c f gate place since old mid new is_c is_f shut found before done when_shut =
    let P = IsLeftOf (text_of c) in
    let kept = after_sync P since old mid before done in
    elim (kept.now mid.image kept.reads) [
      | inl closed ↦ absurd (not_closed f (gate ∷ found.behind) mid.image found.image closed)
      | inr gated ↦
          let same = same_text c f gate gated.gate found.behind gated.behind mid.image is_c is_f shut found.image gated.whole in
          joined P since mid new kept
          (widened (IsShut (log_bytes f)) P mid new (λ image has. inr (text_stays c image (subst (λ (d : Contents). IsShut (log_bytes d) image) same.0 has))) (when_shut same.1))
    ]
