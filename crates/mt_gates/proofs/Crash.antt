-- What a crash leaves of a file behind a gate in each step of the calls on it.
use Rattle.std.proofs.Common.{◌≡◌, ◌≢◌, ◌⊎◌, inl, inr, ℕ, suc, ◌<◌, ◌≤◌, Bool, true, false, not, List, [], ◌∷◌, ◌++◌, length, take, drop, get_or, Option, Some, None, Result, Ok, Err, OnOk, refl, sym, ◌∙◌, ap, subst, arith, append_assoc, length-append}
use Rattle.std.specs.{Prelude.nat_eq, Option.option_eq, List.slice_get}
use Rattle.std.proofs.lemmas.Option.{same_Some, none-some}
use Rattle.std.proofs.lemmas.List.{append-nil}
use Rattle.std.proofs.lemmas.List.Folds.{list_any-append}
use Rattle.std.proofs.lemmas.Bool.{cases_eq, eqb-true, true≢false}
use Rattle.std.proofs.lemmas.Bool.Decides.{nat_tests}
use Rattle.mt_disk.specs.Disk.{Range, Moment, MayLeave, DiskState, is_dirty, dirtied, overwritten, Dirties, Attempts, LeavesOnlyAt, LeavesOnly, IsDurable, synced}
use Rattle.mt_disk.proofs.CrashLaws.{started, reads_durable, after_write, after_sync, joined, widened}
use Rattle.mt_gates.specs.Gates.{IsClosed, IsGated, IsLeftOf, IsLeftOfEither, HasOpen, HasDurably, IsShut, IsBehindGate, IsClosedAtRest, IsStaged, IsGivenUp, IsSyncedOrSame, ClosesGate}

-- ---- bytes

abbrev first : List ℕ → ℕ
first bytes = get_or bytes 0 0

-- a text by its first byte
pub by_first : (text : List ℕ) (b : ℕ) → slice_get text 0 ≡ Some b → text ≡ b ∷ drop 1 text
by_first [] b e = absurd (none-some b e)
by_first (x ∷ text) b e = ap (λ (n : ℕ). n ∷ text) (same_Some x b e)

-- a text that has the bytes of another one has it in front
pub has_in_front : (s c : List ℕ) → ((i : ℕ) → i < length s → slice_get c i ≡ slice_get s i) → (more : List ℕ) × (c ≡ s ++ more)
has_in_front [] c same = (c, refl)
has_in_front (x ∷ s) [] same = absurd (none-some x (same 0 (omega arith)))
has_in_front (x ∷ s) (y ∷ c) same =
    let rest = has_in_front s c (λ i lt. same (suc i) (omega (arith, lt))) in
    (rest.0, (λ k. same_Some y x (same 0 (omega arith)) k ∷ rest.1 k))

-- one that has them but for the first
but_first : (g : ℕ) (s c : List ℕ) → 0 < length s → ((i : ℕ) → i < length s → slice_get c (suc i) ≡ slice_get s i) → (other : ℕ) × (more : List ℕ) × (c ≡ other ∷ (s ++ more))
but_first g [] c some same = absurd (omega arith)
but_first g (b ∷ s) [] some same = absurd (none-some b (same 0 (omega arith)))
but_first g (b ∷ s) (y ∷ c) some same =
    let rest = has_in_front (b ∷ s) c same in
    (y, rest.0, ap (λ (l : List ℕ). y ∷ l) rest.1)

-- ---- the closed gate

-- the test whether a gate is closed
pub is_shut : (x : Option ℕ) → option_eq nat_eq x (Some 0) ≡ true → x ≡ Some 0
is_shut None e = absurd cc
is_shut (Some n) e = ap (λ (k : ℕ). Some k) (eqb-true n 0 e)

pub not_shut : (x : Option ℕ) → option_eq nat_eq x (Some 0) ≡ false → x ≢ Some 0
not_shut x e same = true≢false (sym (ap (λ (y : Option ℕ). option_eq nat_eq y (Some 0)) same) ∙ e)

pub was_shut : (x : Option ℕ) → not (option_eq nat_eq x (Some 0)) ≡ false → x ≡ Some 0
was_shut x e = is_shut x (of_not (option_eq nat_eq x (Some 0)) e)
  where
    of_not : (b : Bool) → not b ≡ false → b ≡ true
    of_not true e = refl
    of_not false e = absurd (true≢false e)

elsewhere : (i : ℕ) → is_dirty ((0, 1) ∷ []) (suc i) ≡ false
elsewhere i = grind (arith, nat_tests)

not_before : (range : Range) → 1 ≤ range.0 → is_dirty (range ∷ []) 0 ≡ false
not_before range le = grind (arith, nat_tests)

-- a write after the gate
pub shut_more : (range : Range) (m : Moment) → IsShut m → 1 ≤ range.0 → IsShut (dirtied range m)
shut_more range m shut le = record {
  closed = shut.closed;
  clean = list_any-append _ m.dirty (range ∷ []) ∙ rw (shut.clean, not_before range le) refl;
}

-- no crash opens it
pub shut_closed : (m : Moment) → IsShut m → LeavesOnlyAt IsClosed m
shut_closed m shut image left =
    let text = by_first m.durable 0 shut.closed in
    let there : 0 < length m.durable = omega (arith, ap length text) in
    let same : slice_get image 0 ≡ Some 0 = left.keeps 0 there shut.clean ∙ shut.closed in
    record { behind = drop 1 image; whole = by_first image 0 same }

pub shut_durable : (s : DiskState) (text : List ℕ) → IsDurable s → s.image ≡ 0 ∷ text → IsShut s.now
shut_durable s text durable is = subst IsShut (sym durable) (record { closed = ap (λ (l : List ℕ). slice_get l 0) is; clean = refl })

pub behind_gate : (text : List ℕ) (s : DiskState) → IsBehindGate text s → LeavesOnly IsClosed s s
behind_gate text s b = record {
  so_far = record { since = []; goes_on = sym (append-nil _); each = λ k x lt. absurd (omega (arith, lt)) };
  now = shut_closed s.now b.shut;
  reads = b.reads;
}

closed_of : (text image : List ℕ) → image ≡ 0 ∷ text → IsClosed image
closed_of text image is = record { behind = text; whole = is }

pub rest_behind : (s : DiskState) → (rest : IsClosedAtRest s) → IsBehindGate rest.closed.behind s
rest_behind s rest = record {
  image = rest.closed.whole;
  shut = shut_durable s rest.closed.behind rest.durable rest.closed.whole;
  reads = reads_durable s rest.durable;
}

-- ---- writes after it

module _ (text : List ℕ) (s : DiskState) (b : IsBehindGate text s) where
  -- a write or a cut after the gate leaves it closed
  pub write_leaves : {T E : Type 0} (range : Range) (result : Result T E) (new : DiskState) → 1 ≤ range.0 → Attempts range result s new → LeavesOnly IsClosed s new
  write_leaves range result new le tried =
      after_write IsClosed range result s s new (behind_gate text s b) (shut_closed (dirtied range s.now) (shut_more range s.now b.shut le)) tried

  pub behind_again : (range : Range) (new : DiskState) (more : List ℕ) → 1 ≤ range.0 → Dirties range s new → new.image ≡ 0 ∷ more → IsBehindGate more new
  behind_again range new more le done is = record {
    image = is;
    shut = subst IsShut (sym done.now) (shut_more range s.now b.shut le);
    reads = done.reads b.reads;
  }

  -- a cut after the gate
  pub cut_text : {T E : Type 0} (result : Result T E) (to : ℕ) (new : DiskState) → Attempts (1, to) result s new → (1 ≤ length s.image → OnOk result (new.image ≡ take 1 s.image))
      → OnOk result (IsBehindGate [] new)
  cut_text (Ok x) to new tried image =
      behind_again (1, to) new [] (omega arith) tried (image (omega (arith, ap length b.image)) ∙ ap (λ (l : List ℕ). take 1 l) b.image)
  cut_text (Err e) to new tried image = tt

  -- what follows it made durable
  pub made_durable : {T E : Type 0} (result : Result T E) (new : DiskState) → OnOk result (new ≡ synced s) → OnOk result (IsStaged text new)
  made_durable (Ok x) new done = subst (IsStaged text) (sym done) (record { image = b.image; durable = refl })
  made_durable (Err e) new done = tt

-- ---- the gate itself

-- whatever a write of the first byte leaves before a text
gate_write : (text : List ℕ) (gate : ℕ) (behind : List ℕ) (s : DiskState) → 0 < length text → IsDurable s → s.image ≡ gate ∷ (text ++ behind) → LeavesOnlyAt (IsGated text) (dirtied (0, 1) s.now)
gate_write text gate behind s some durable whole image left =
    let here : MayLeave (dirtied (0, 1) (record { durable = s.image; dirty = [] })) image = subst (λ m. MayLeave (dirtied (0, 1) m) image) durable left in
    let found = but_first gate (text ++ behind) image (omega (arith, some, length-append text behind)) (λ i lt. here.keeps (suc i) (omega (arith, lt, ap length whole)) (elsewhere i) ∙ ap (λ (l : List ℕ). slice_get l (suc i)) whole) in
    record { gate = found.0; behind = behind ++ found.1; whole = found.2 ∙ ap (λ (l : List ℕ). found.0 ∷ l) (append_assoc text behind found.1) }

pub gate_closed : {T E : Type 0} (result : Result T E) (s mid new : DiskState) → mid.image ≡ overwritten 0 (0 ∷ []) s.image → OnOk result (new ≡ synced mid)
    → OnOk result (ClosesGate s new)
gate_closed (Ok x) s mid new is done = subst (ClosesGate s) (sym done) (record { image = is; durable = refl })
gate_closed (Err e) s mid new is done = tt

pub close_written : {T E : Type 0} (text : List ℕ) (s : DiskState) → 0 < length text → IsDurable s → (gated : IsGated text s.image) → (result : Result T E) (new : DiskState) → Attempts (0, 1) result s new
    → LeavesOnly (IsGated text) s new
close_written text s some durable gated result new tried =
    after_write (IsGated text) (0, 1) result s s new (started (IsGated text) s durable gated) (gate_write text gated.gate gated.behind s some durable gated.whole) tried

-- opening it, once what follows it is durable
module _ (text : List ℕ) (s : DiskState) (staged : IsStaged text s) where
  whole_staged : s.image ≡ 0 ∷ (text ++ [])
  whole_staged = staged.image ∙ ap (λ (l : List ℕ). 0 ∷ l) (sym (append-nil text))

  -- the text stands after the closed gate
  pub staged_left : IsLeftOf text s.image
  staged_left = inl (record { behind = text; whole = staged.image })

  pub open_written : {T E : Type 0} (result : Result T E) (new : DiskState) → 0 < length text → Attempts (0, 1) result s new → LeavesOnly (IsLeftOf text) s new
  open_written result new some tried =
      after_write (IsLeftOf text) (0, 1) result s s new (started (IsLeftOf text) s staged.durable staged_left) (λ image left. inr (gate_write text 0 [] s some staged.durable whole_staged image left)) tried

  pub gate_opened : {T E : Type 0} (result : Result T E) (mid new : DiskState) → mid.image ≡ overwritten 0 (1 ∷ []) s.image → OnOk result (new ≡ synced mid)
      → OnOk result (HasDurably text new)
  gate_opened (Ok x) mid new image done = subst (HasDurably text) (sym done) (record { image = image ∙ ap (λ (l : List ℕ). 1 ∷ drop 1 l) staged.image; durable = refl })
  gate_opened (Err e) mid new image done = tt

-- ---- shutting

pub counts : (text image : List ℕ) → IsLeftOf text image → (slice_get image 0 ≢ Some 1) ⊎ HasOpen text image
counts text image (inl closed) = inl (λ e. omega (arith, same_Some 0 1 (sym (ap (λ (l : List ℕ). slice_get l 0) closed.whole) ∙ e)))
counts text image (inr g) =
    elim (cases_eq g.gate 1) [
      | inl opened ↦ inr (record { behind = g.behind; whole = g.whole ∙ ap (λ (n : ℕ). n ∷ (text ++ g.behind)) opened })
      | inr shut ↦ inl (λ e. shut (same_Some g.gate 1 (sym (ap (λ (l : List ℕ). slice_get l 0) g.whole) ∙ e)))
    ]

pub closed_rest : (old mid : DiskState) → mid ≡ synced old → slice_get old.image 0 ≡ Some 0 → IsClosedAtRest mid
closed_rest old mid done e = record {
  closed = closed_of (drop 1 mid.image) mid.image (by_first mid.image 0 (ap (λ (s : DiskState). slice_get s.image 0) done ∙ e));
  durable = subst IsDurable (sym done) refl;
}

pub tried_sync : (text : List ℕ) (since old new : DiskState) → LeavesOnly (IsLeftOf text) since old → IsSyncedOrSame old new → LeavesOnly (IsLeftOf text) since new
tried_sync text since old new kept (inl same) = subst (LeavesOnly (IsLeftOf text) since) (sym same) kept
tried_sync text since old new kept (inr done) = after_sync (IsLeftOf text) since old new kept done

pub close_leaves : (text : List ℕ) (since old mid new : DiskState) → LeavesOnly (IsLeftOf text) since old → mid ≡ synced old → slice_get old.image 0 ≢ Some 0
    → (IsGated text mid.image → IsDurable mid → LeavesOnly (IsGated text) mid new) → LeavesOnly (IsLeftOf text) since new
close_leaves text since old mid new kept done other closing =
    let at = tried_sync text since old mid kept (inr done) in
    let durable : IsDurable mid = subst IsDurable (sym done) refl in
    joined (IsLeftOf text) since mid new at
    (widened (IsGated text) (IsLeftOf text) mid new (λ image is. inr is) (closing (not_closed (at.now mid.image at.reads)) durable))
  where
    not_closed : IsLeftOf text mid.image → IsGated text mid.image
    not_closed (inl closed) = absurd (other (ap (λ (s : DiskState). slice_get s.image 0) (sym done) ∙ ap (λ (l : List ℕ). slice_get l 0) closed.whole))
    not_closed (inr g) = g

-- a file that was cut after its closed gate, and synced
pub emptied : (s mid new : DiskState) → (rest : IsClosedAtRest s) → mid.image ≡ take 1 s.image → new ≡ synced mid → IsGivenUp new
emptied s mid new rest is done = subst IsGivenUp (sym done) (record {
  image = is ∙ ap (λ (l : List ℕ). take 1 l) rest.closed.whole;
  durable = refl;
})

-- ---- a file that is begun

-- one over which it is begun stands among what may be left of either text
module _ (old text : List ℕ) (first mid : DiskState) (shut : LeavesOnly (IsLeftOf old) first mid) where
  pub either_shut : LeavesOnly (IsLeftOfEither old text) first mid
  either_shut = widened (IsLeftOf old) (IsLeftOfEither old text) first mid (λ image is. inl is) shut

  pub either_begun : (new : DiskState) → LeavesOnly (IsLeftOf text) mid new → LeavesOnly (IsLeftOfEither old text) first new
  either_begun new begun =
      joined (IsLeftOfEither old text) first mid new either_shut (widened (IsLeftOf text) (IsLeftOfEither old text) mid new (λ image is. inr is) begun)
