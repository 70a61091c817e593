-- What a crash leaves of a slot in each step of the calls on it.
use Rattle.std.proofs.Common.{◌≡◌, ◌≢◌, inl, inr, ⊎_elim, ℕ, suc, ◌<◌, ◌≤◌, true, false, List, [], ◌∷◌, ◌++◌, length, take, drop, get_or, Option, Some, None, Result, Ok, Err, OnOk, refl, sym, ◌∙◌, ap, subst, arith, append_assoc}
use Rattle.std.proofs.{lemmas.Option.{same_Some, none-some}, lemmas.List.{append-nil}, lemmas.List.Folds.list_any-append}
use Rattle.std.proofs.{lemmas.Bool.{cases_eq, eqb-true, true≢false}, lemmas.Bool.Decides.nat_tests}
use Rattle.std.specs.{Prelude.nat_eq, Option.option_eq, List.slice_get}
use Rattle.mt_rows.specs.Rows.{Bytes}
use Rattle.mt_disk.specs.Disk.{Range, Moment, MayLeave, DiskState, is_dirty, dirtied, overwritten, Dirties, Attempts, LeavesOnlyAt, LeavesOnly, IsDurable, synced, found_with}
use Rattle.mt_disk.proofs.CrashLaws.{started, reads_durable, after_write, after_sync, joined, widened}
use Rattle.mt_checkpoint.specs.Checkpoints.{Walk, IsWalk, IsSpelledIn, walk_bytes, HasWalk, HasNone, Has, In, IsClosed, IsGated, IsOneOf, IsShut, IsBehindGate, IsClosedAtRest, IsStaged}
use Rattle.mt_checkpoint.specs.Slots.{IsSyncedOrSame, ClosesGate, HasDurably, SettlesOnSlot}
use Rattle.mt_checkpoint.proofs.Walks.{one_walk}

-- ---- bytes

abbrev first : Bytes → ℕ
first bytes = get_or bytes 0 0

-- a text by its first byte
pub by_first : (text : Bytes) (b : ℕ) → slice_get text 0 ≡ Some b → text ≡ b ∷ drop 1 text
by_first [] b e = absurd (none-some b e)
by_first (x ∷ text) b e = ap (λ (n : ℕ). n ∷ text) (same_Some x b e)

-- a text that has the bytes of another one has it in front
pub has_in_front : (s c : Bytes) → ((i : ℕ) → i < length s → slice_get c i ≡ slice_get s i) → (more : Bytes) × (c ≡ s ++ more)
has_in_front [] c same = (c, refl)
has_in_front (x ∷ s) [] same = absurd (none-some x (same 0 (omega arith)))
has_in_front (x ∷ s) (y ∷ c) same =
    let rest = has_in_front s c (λ i lt. same (suc i) (omega (arith, lt))) in
    (rest.0, (λ k. same_Some y x (same 0 (omega arith)) k ∷ rest.1 k))

-- one that has them but for the first
but_first : (g : ℕ) (s c : Bytes) → 0 < length s → ((i : ℕ) → i < length s → slice_get c (suc i) ≡ slice_get s i) → (other : ℕ) × (more : Bytes) × (c ≡ other ∷ (s ++ more))
but_first g [] c some same = absurd (omega arith)
but_first g (b ∷ s) [] some same = absurd (none-some b (same 0 (omega arith)))
but_first g (b ∷ s) (y ∷ c) some same =
    let rest = has_in_front (b ∷ s) c same in
    (y, rest.0, ap (λ (l : Bytes). y ∷ l) rest.1)

-- ---- the closed gate

-- the test whether a gate is closed
pub is_shut : (x : Option ℕ) → option_eq nat_eq x (Some 0) ≡ true → x ≡ Some 0
is_shut None e = absurd cc
is_shut (Some n) e = ap (λ (k : ℕ). Some k) (eqb-true n 0 e)

pub not_shut : (x : Option ℕ) → option_eq nat_eq x (Some 0) ≡ false → x ≢ Some 0
not_shut x e same = true≢false (sym (ap (λ (y : Option ℕ). option_eq nat_eq y (Some 0)) same) ∙ e)

elsewhere : (i : ℕ) → is_dirty ((0, 1) ∷ []) (suc i) ≡ false
elsewhere i = grind (arith, nat_tests)

not_before : (range : Range) → 1 ≤ range.0 → is_dirty (range ∷ []) 0 ≡ false
not_before range le = grind (arith, nat_tests)

-- a write after the gate
pub shut_more : (range : Range) (m : Moment) → IsShut m → 1 ≤ range.0 → IsShut (dirtied range m)
shut_more range m shut le = record {
  closed = shut.closed;
  clean = list_any-append _ m.dirty (range ∷ []) ∙ rw (shut.clean, not_before range le) refl;
}

-- no crash opens it
pub shut_closed : (m : Moment) → IsShut m → LeavesOnlyAt IsClosed m
shut_closed m shut image left =
    let text = by_first m.durable 0 shut.closed in
    let there : 0 < length m.durable = omega (arith, ap length text) in
    let same : slice_get image 0 ≡ Some 0 = left.keeps 0 there shut.clean ∙ shut.closed in
    record { behind = drop 1 image; whole = by_first image 0 same }

pub shut_durable : (s : DiskState) (text : Bytes) → IsDurable s → s.image ≡ 0 ∷ text → IsShut s.now
shut_durable s text durable is = subst IsShut (sym durable) (record { closed = ap (λ (l : Bytes). slice_get l 0) is; clean = refl })

pub behind_gate : (text : Bytes) (s : DiskState) → IsBehindGate text s → LeavesOnly IsClosed s s
behind_gate text s b = record {
  so_far = record { since = []; goes_on = sym (append-nil _); each = λ k x lt. absurd (omega (arith, lt)) };
  now = shut_closed s.now b.shut;
  reads = b.reads;
}

closed_of : (text image : Bytes) → image ≡ 0 ∷ text → IsClosed image
closed_of text image is = record { behind = text; whole = is }

pub rest_behind : (s : DiskState) → (rest : IsClosedAtRest s) → IsBehindGate rest.closed.behind s
rest_behind s rest = record {
  image = rest.closed.whole;
  shut = shut_durable s rest.closed.behind rest.durable rest.closed.whole;
  reads = reads_durable s rest.durable;
}

-- ---- writes after it

module _ (text : Bytes) (s : DiskState) (b : IsBehindGate text s) where
  -- a write or a cut after the gate leaves it closed
  pub write_leaves : {T E : Type 0} (range : Range) (result : Result T E) (new : DiskState) → 1 ≤ range.0 → Attempts range result s new → LeavesOnly IsClosed s new
  write_leaves range result new le tried =
      after_write IsClosed range result s s new (behind_gate text s b) (shut_closed (dirtied range s.now) (shut_more range s.now b.shut le)) tried

  place_behind : (end : ℕ) → end ≡ length s.image → 1 ≤ end
  place_behind end is = omega (arith, is, ap length b.image)

  pub more_leaves : {T E : Type 0} (end to : ℕ) (result : Result T E) (new : DiskState) → end ≡ length s.image → Attempts (end, to) result s new → LeavesOnly IsClosed s new
  more_leaves end to result new is tried = write_leaves (end, to) result new (place_behind end is) tried

  pub behind_again : (range : Range) (new : DiskState) (more : Bytes) → 1 ≤ range.0 → Dirties range s new → new.image ≡ 0 ∷ more → IsBehindGate more new
  behind_again range new more le done is = record {
    image = is;
    shut = subst IsShut (sym done.now) (shut_more range s.now b.shut le);
    reads = done.reads b.reads;
  }

  -- a cut after the gate
  pub cut_text : {T E : Type 0} (result : Result T E) (to : ℕ) (new : DiskState) → Attempts (1, to) result s new → (1 ≤ length s.image → OnOk result (new.image ≡ take 1 s.image))
      → OnOk result (IsBehindGate [] new)
  cut_text (Ok x) to new tried image =
      behind_again (1, to) new [] (omega arith) tried (image (omega (arith, ap length b.image)) ∙ ap (λ (l : Bytes). take 1 l) b.image)
  cut_text (Err e) to new tried image = tt

  -- and a sync
  pub staged_text : (new : DiskState) → new ≡ synced s → IsStaged text new
  staged_text new done = subst (IsStaged text) (sym done) (record { image = b.image; durable = refl })

-- ---- the gate itself

-- every walk is spelled in format 2
spelled_new : (w : Walk) → IsSpelledIn 2 w
spelled_new w = record { known = (omega arith, omega arith); stamps = λ old. absurd (omega (arith, old)) }

-- a gate before a whole checkpoint, where the slot may also have none
wider_gate : (may : List (Option Walk)) (image : Bytes) → IsGated may image → IsOneOf (None ∷ may) image
wider_gate may image g =
    inr (record { walk = g.walk; among = inr g.among; is = g.is; version = g.version; spelled = g.spelled; gate = g.gate; behind = g.behind; whole = g.whole; open_or = inr (inl refl) })

-- whatever a write of the first byte leaves before a whole checkpoint
gate_write : (w : Walk) (is : IsWalk w) (version : ℕ) (spelled : IsSpelledIn version w) (may : List (Option Walk)) (gate : ℕ) (behind : Bytes) (s : DiskState) → IsDurable s
    → s.image ≡ gate ∷ (walk_bytes version w ++ behind)
    → In (Some w) may → In None may → LeavesOnlyAt (IsOneOf may) (dirtied (0, 1) s.now)
gate_write w is version spelled may gate behind s durable whole among none image left =
    let here : MayLeave (dirtied (0, 1) (record { durable = s.image; dirty = [] })) image = subst (λ m. MayLeave (dirtied (0, 1) m) image) durable left in
    let text = walk_bytes version w ++ behind in
    let found = but_first gate text image (omega arith) (λ i lt. here.keeps (suc i) (omega (arith, lt, ap length whole)) (elsewhere i) ∙ ap (λ (l : Bytes). slice_get l (suc i)) whole) in
    inr (record {
      walk = w;
      among = among;
      is = is;
      version = version;
      spelled = spelled;
      gate = found.0;
      behind = behind ++ found.1;
      whole = found.2 ∙ ap (λ (l : Bytes). found.0 ∷ l) (append_assoc (walk_bytes version w) behind found.1);
      open_or = inr none;
    })

gate_text : (b : ℕ) (s : DiskState) → overwritten 0 (b ∷ []) s.image ≡ b ∷ drop 1 s.image
gate_text b s = refl

pub gate_closed : {T E : Type 0} (result : Result T E) (s mid new : DiskState) → mid.image ≡ overwritten 0 (0 ∷ []) s.image → OnOk result (new ≡ synced mid)
    → OnOk result (ClosesGate s new)
gate_closed (Ok x) s mid new is done =
    subst (ClosesGate s) (sym done) (record { image = is ∙ gate_text 0 s; durable = refl })
gate_closed (Err e) s mid new is done = tt

-- closing the gate before a whole checkpoint
module _ (may : List (Option Walk)) (s : DiskState) (durable : IsDurable s) (gated : IsGated may s.image) where
  wide_gated : IsOneOf (None ∷ may) s.image
  wide_gated = wider_gate may s.image gated

  close_at : LeavesOnlyAt (IsOneOf (None ∷ may)) (dirtied (0, 1) s.now)
  close_at = gate_write gated.walk gated.is gated.version gated.spelled (None ∷ may) gated.gate gated.behind s durable gated.whole (inr gated.among) (inl refl)

  pub close_written : {T E : Type 0} (result : Result T E) (new : DiskState) → Attempts (0, 1) result s new → LeavesOnly (IsOneOf (None ∷ may)) s new
  close_written result new tried = after_write (IsOneOf (None ∷ may)) (0, 1) result s s new (started (IsOneOf (None ∷ may)) s durable wide_gated) close_at tried

-- opening it
module _ (w : Walk) (is : IsWalk w) (s : DiskState) (staged : IsStaged (walk_bytes 2 w) s) where
  abbrev pub both : List (Option Walk)
  both = None ∷ Some w ∷ []

  whole_staged : s.image ≡ 0 ∷ (walk_bytes 2 w ++ [])
  whole_staged = staged.image ∙ ap (λ (l : Bytes). 0 ∷ l) (sym (append-nil (walk_bytes 2 w)))

  pub open_started : LeavesOnly (IsOneOf both) s s
  open_started = started (IsOneOf both) s staged.durable (inl (inl refl, closed_of (walk_bytes 2 w) s.image staged.image))

  pub open_written : {T E : Type 0} (result : Result T E) (new : DiskState) → Attempts (0, 1) result s new → LeavesOnly (IsOneOf both) s new
  open_written result new tried =
      after_write (IsOneOf both) (0, 1) result s s new open_started (gate_write w is 2 (spelled_new w) both 0 [] s staged.durable whole_staged (inr (inl refl)) (inl refl)) tried

  pub gate_opened : {T E : Type 0} (result : Result T E) (mid new : DiskState) → mid.image ≡ overwritten 0 (1 ∷ []) s.image → OnOk result (new ≡ synced mid)
      → OnOk result (HasDurably w new)
  gate_opened (Ok x) mid new image done =
      subst (HasDurably w) (sym done) (record {
        has = record { is = is; version = 2; spelled = spelled_new w; behind = []; whole = image ∙ gate_text 1 s ∙ ap (λ (l : Bytes). 1 ∷ drop 1 l) whole_staged };
        durable = refl;
      })
  gate_opened (Err e) mid new image done = tt

-- ---- what is left of a slot

pub wider : (may : List (Option Walk)) (image : Bytes) → IsOneOf may image → IsOneOf (None ∷ may) image
wider may image (inl closed) = inl (inl refl, closed.1)
wider may image (inr g) = wider_gate may image g

pub closed_has_none : (image : Bytes) (w : Walk) → IsClosed image → HasWalk w image → ⊥
closed_has_none image w closed has = omega (arith, ap {B = ℕ} first (sym closed.whole ∙ has.whole))

gated_has : (may : List (Option Walk)) (image : Bytes) (g : IsGated may image) → g.gate ≡ 1 → HasWalk g.walk image
gated_has may image g opened = record {
  is = g.is;
  version = g.version;
  spelled = g.spelled;
  behind = g.behind;
  whole = g.whole ∙ ap (λ (n : ℕ). n ∷ (walk_bytes g.version g.walk ++ g.behind)) opened;
}

shut_has_none : (image : Bytes) (gate : ℕ) (text : Bytes) → image ≡ gate ∷ text → gate ≢ 1 → HasNone image
shut_has_none image gate text is shut w has = shut (ap {B = ℕ} first (sym is ∙ has.whole))

pub one_of_these : (may : List (Option Walk)) (image : Bytes) → IsOneOf may image → (x : Option Walk) × In x may × Has x image
one_of_these may image (inl closed) = (None, closed.0, λ w has. closed_has_none image w closed.1 has)
one_of_these may image (inr g) =
    elim (cases_eq g.gate 1) [
      | inl opened ↦ (Some g.walk, g.among, gated_has may image g opened)
      | inr shut ↦ (None, ⊎_elim (λ e. absurd (shut e)) (λ at. at) g.open_or, shut_has_none image g.gate (walk_bytes g.version g.walk ++ g.behind) g.whole shut)
    ]

-- a slot that is found again
pub found_again : (P : Bytes → Type 0) (image : Bytes) → P image → LeavesOnly P (found_with image) (found_with image)
found_again P image has = started P (found_with image) refl has

pub made_slot : (s : DiskState) → IsClosedAtRest s → LeavesOnly (IsOneOf (None ∷ [])) s s
made_slot s rest = started (IsOneOf (None ∷ [])) s rest.durable (inl (inl refl, rest.closed))

pub only_walk : (w : Walk) (image : Bytes) → HasWalk w image → IsOneOf (Some w ∷ []) image
only_walk w image has =
    inr (record { walk = w; among = inl refl; is = has.is; version = has.version; spelled = has.spelled; gate = 1; behind = has.behind; whole = has.whole; open_or = inl refl })

pub ended_slot : (w : Walk) (s : DiskState) → HasDurably w s → LeavesOnly (IsOneOf (Some w ∷ [])) s s
ended_slot w s h = started (IsOneOf (Some w ∷ [])) s h.durable (only_walk w s.image h.has)

-- ---- beginning

module _ (may : List (Option Walk)) (since old : DiskState) (kept : LeavesOnly (IsOneOf may) since old) where
  pub tried_sync : (new : DiskState) → IsSyncedOrSame old new → LeavesOnly (IsOneOf may) since new
  tried_sync new (inl same) = subst (LeavesOnly (IsOneOf may) since) (sym same) kept
  tried_sync new (inr done) = after_sync (IsOneOf may) since old new kept done

  pub widely : (new : DiskState) → LeavesOnly (IsOneOf may) since new → LeavesOnly (IsOneOf (None ∷ may)) since new
  widely new h = widened (IsOneOf may) (IsOneOf (None ∷ may)) since new (wider may) h

  module _ (mid : DiskState) (done : mid ≡ synced old) where
    image_is : mid.image ≡ old.image
    image_is = ap (λ (t : DiskState). t.image) done

    durable : IsDurable mid
    durable = subst IsDurable (sym done) refl

    here : IsOneOf may mid.image
    here = let at = tried_sync mid (inr done) in at.now mid.image at.reads

    -- whatever is left that isn't closed stands before a whole checkpoint
    not_closed : slice_get old.image 0 ≢ Some 0 → IsOneOf may mid.image → IsGated may mid.image
    not_closed other (inl closed) = absurd (other (ap (λ (l : Bytes). slice_get l 0) (sym image_is ∙ closed.1.whole)))
    not_closed other (inr gated) = gated

    -- a gate is closed that isn't
    pub close_leaves : (new : DiskState) → slice_get old.image 0 ≢ Some 0
        → ((may : List (Option Walk)) → IsGated may mid.image → IsDurable mid → LeavesOnly (IsOneOf (None ∷ may)) mid new)
        → LeavesOnly (IsOneOf (None ∷ may)) since new
    close_leaves new other closing =
        joined (IsOneOf (None ∷ may)) since mid new (widely mid (tried_sync mid (inr done))) (closing may (not_closed other here) durable)

-- a gate that is read as closed
pub closed_rest : (old mid : DiskState) → mid ≡ synced old → slice_get old.image 0 ≡ Some 0 → IsClosedAtRest mid
closed_rest old mid done e = record {
  closed =
      closed_of (drop 1 mid.image) mid.image (by_first mid.image 0 (ap (λ (s : DiskState). slice_get s.image 0) done ∙ e));
  durable = subst IsDurable (sym done) refl;
}

-- ---- reading

-- a gate that is neither open nor closed stands before a checkpoint only where there may be none
pub narrower : (may : List (Option Walk)) (image : Bytes) → In None may → IsOneOf (None ∷ may) image → IsOneOf may image
narrower may image none (inl closed) = inl (none, closed.1)
narrower may image none (inr g) = inr (record { walk = g.walk; among = ⊎_elim (λ e. absurd (none-some g.walk (sym e))) (λ at. at) g.among; is = g.is; version = g.version; spelled = g.spelled; gate = g.gate; behind = g.behind; whole = g.whole; open_or = inr none })

gate_is : (may : List (Option Walk)) (image : Bytes) (gate : ℕ) (g : IsGated may image) → slice_get image 0 ≡ Some gate → g.gate ≡ gate
gate_is may image gate g e = same_Some g.gate gate (sym (ap (λ (l : Bytes). slice_get l 0) g.whole) ∙ e)

none_of : (may : List (Option Walk)) (image : Bytes) (gate : ℕ) → slice_get image 0 ≡ Some gate → gate ≢ 1 → IsOneOf may image → In None may
none_of may image gate e shut (inl closed) = closed.0
none_of may image gate e shut (inr g) = ⊎_elim (λ opened. absurd (shut (sym (gate_is may image gate g e) ∙ opened))) (λ at. at) g.open_or

-- what an open gate is found before
open_settles : (may : List (Option Walk)) (x : Option Walk) (s : DiskState) → IsDurable s → slice_get s.image 0 ≡ Some 1 → IsOneOf may s.image → Has x s.image
    → In x may × LeavesOnly (IsOneOf (x ∷ [])) s s
open_settles may x s is_durable e (inl closed) has = absurd (omega (arith, same_Some 0 1 (sym (ap (λ (l : Bytes). slice_get l 0) closed.1.whole) ∙ e)))
open_settles may None s is_durable e (inr g) has = absurd (has g.walk (gated_has may s.image g (gate_is may s.image 1 g e)))
open_settles may (Some w) s is_durable e (inr g) has =
    let same : g.walk ≡ w = one_walk g.walk w s.image (gated_has may s.image g (gate_is may s.image 1 g e)) has in
    (subst (λ (v : Walk). In (Some v) may) same g.among, ended_slot w s (record { has = has; durable = is_durable }))

-- any other gate stands before none
pub other_has_none : (image : Bytes) (gate : ℕ) → slice_get image 0 ≡ Some gate → gate ≢ 1 → HasNone image
other_has_none image gate e shut = shut_has_none image gate (drop 1 image) (by_first image gate e) shut

pub nothing_has_none : (image : Bytes) → slice_get image 0 ≡ None → HasNone image
nothing_has_none image e w has = none-some 1 (sym e ∙ ap (λ (l : Bytes). slice_get l 0) has.whole)

module _ (may : List (Option Walk)) (since old mid : DiskState) (done : mid ≡ synced old) (kept : LeavesOnly (IsOneOf may) since old) where
  image_at : slice_get mid.image 0 ≡ slice_get old.image 0
  image_at = ap (λ (s : DiskState). slice_get s.image 0) done

  left : LeavesOnly (IsOneOf may) since mid
  left = tried_sync may since old kept mid (inr done)

  mid_durable : IsDurable mid
  mid_durable = subst IsDurable (sym done) refl

  mid_is : IsOneOf may mid.image
  mid_is = left.now mid.image left.reads

  -- a slot without a byte is none that this store made
  pub read_nothing : slice_get old.image 0 ≡ None → SettlesOnSlot None may since mid
  read_nothing e = absurd (no_byte mid.image (image_at ∙ e) mid_is)
    where
      no_byte : (image : Bytes) → slice_get image 0 ≡ None → IsOneOf may image → ⊥
      no_byte image none (inl closed) = none-some 0 (sym none ∙ ap (λ (l : Bytes). slice_get l 0) closed.1.whole)
      no_byte image none (inr g) = none-some g.gate (sym none ∙ ap (λ (l : Bytes). slice_get l 0) g.whole)

  pub read_shut : slice_get old.image 0 ≡ Some 0 → SettlesOnSlot None may since mid
  read_shut e = record {
    among = none_of may mid.image 0 (image_at ∙ e) (λ k. omega (arith, k)) mid_is;
    leaves = left;
    now = made_slot mid (closed_rest old mid done e);
  }

  -- what was read after an open gate
  pub read_opened : (x : Option Walk) (new : DiskState) → new ≡ mid → slice_get old.image 0 ≡ Some 1 → Has x mid.image → SettlesOnSlot x may since new
  read_opened x new same e has =
      let at = open_settles may x mid mid_durable (image_at ∙ e) mid_is has in
      subst (SettlesOnSlot x may since) (sym same) (record { among = at.0; leaves = left; now = at.1 })

  module _ (gate : ℕ) (e : slice_get old.image 0 ≡ Some gate) (not_open : gate ≢ 1) (not_closed_gate : gate ≢ 0) (new : DiskState)
      (closing : (m : List (Option Walk)) → IsGated m mid.image → IsDurable mid → LeavesOnly (IsOneOf (None ∷ m)) mid new) where
    none_here : In None may
    none_here = none_of may mid.image gate (image_at ∙ e) not_open mid_is

    -- a torn gate was being closed
    pub torn_leaves : LeavesOnly (IsOneOf may) since new
    torn_leaves =
        widened (IsOneOf (None ∷ may)) (IsOneOf may) since new (λ image is. narrower may image none_here is)
        (close_leaves may since old kept mid done new (λ k. not_closed_gate (same_Some gate 0 (sym e ∙ k))) closing)

    pub read_torn : ClosesGate mid new → SettlesOnSlot None may since new
    read_torn closed = record {
      among = none_here;
      leaves = torn_leaves;
      now = made_slot new (record { closed = closed_of (drop 1 mid.image) new.image closed.image; durable = closed.durable });
    }
