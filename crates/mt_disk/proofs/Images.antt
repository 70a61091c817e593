-- Writes and cuts of a `MemDisk` change only their range, so that they are writes and cuts of a disk.
use Rattle.std.proofs.Common.{◌≡◌, ◌⊎◌, ◌↔◌, inl, inr, ⊎_elim, ℕ, zero, suc, ◌+◌, ◌<◌, ◌≤◌, false, nat_lt, not, ◌&&◌, List, [], ◌∷◌, ◌++◌, length, take, drop, refl, sym, ◌∙◌, ap, subst, arith, length-append, Result, Ok, Err}
use Rattle.std.proofs.{lemmas.Option.slice_get_past, lemmas.List.append-nil, lemmas.List.Folds.list_any-append, lemmas.Bool.or_parts}
use Rattle.std.proofs.lemmas.Bool.Decides.{nat_tests}
use Rattle.std.specs.List.{slice_get}
use Rattle.mt_disk.specs.Disk.{Range, Moment, MayLeave, DiskState, Dirties, Attempts, is_dirty, dirtied, overwritten, moments, cut_range}

-- what stands behind the bytes that were put first
past_bytes : (bytes image : List ℕ) (i : ℕ) → length bytes ≤ i → slice_get (bytes ++ drop (length bytes) image) i ≡ slice_get image i
past_bytes [] image i le = refl
past_bytes (b ∷ bs) image zero le = absurd (omega arith)
past_bytes (b ∷ bs) [] (suc i) le = ap (λ (l : List ℕ). slice_get l i) (append-nil bs) ∙ slice_get_past bs i (omega arith)
past_bytes (b ∷ bs) (t ∷ ts) (suc i) le = past_bytes bs ts i (omega arith)

-- a write leaves the bytes before it and behind it
pub kept_by_write : (at : ℕ) (bytes image : List ℕ) (i : ℕ) → at ≤ length image → (i < at) ⊎ (at + length bytes ≤ i) → slice_get (overwritten at bytes image) i ≡ slice_get image i
kept_by_write zero bytes image i le (inl before) = absurd (omega arith)
kept_by_write zero bytes image i le (inr behind) =
    let none : 0 + length bytes ≡ length bytes = omega arith in
    ap (λ (n : ℕ). slice_get (bytes ++ drop n image) i) none ∙ past_bytes bytes image i (omega (arith, behind))
kept_by_write (suc at) bytes [] i le where_is = absurd (omega arith)
kept_by_write (suc at) bytes (t ∷ ts) zero le where_is = refl
kept_by_write (suc at) bytes (t ∷ ts) (suc i) le where_is =
    let one : suc at + length bytes ≡ suc (at + length bytes) = omega arith in
    ap (λ (n : ℕ). slice_get (take at ts ++ bytes ++ drop n (t ∷ ts)) i) one ∙ kept_by_write at bytes ts i (omega arith) (⊎_elim (λ before. inl (omega (arith, before))) (λ behind. inr (omega (arith, behind))) where_is)

-- a cut leaves the bytes before the new end
pub kept_by_cut : (len : ℕ) (image : List ℕ) (i : ℕ) → i < len → slice_get (take len image) i ≡ slice_get image i
kept_by_cut zero image i lt = absurd (omega arith)
kept_by_cut (suc len) [] i lt = refl
kept_by_cut (suc len) (t ∷ ts) zero lt = refl
kept_by_cut (suc len) (t ∷ ts) (suc i) lt = kept_by_cut len ts i (omega arith)

-- a byte in no range of a list of one lies before it or behind it
pub outside : (range : Range) (i : ℕ) → is_dirty (range ∷ []) i ≡ false → (i < range.0) ⊎ (range.1 ≤ i)
outside range i none = grind (arith, nat_tests)

not_nil : (ranges : List Range) (range : Range) → ranges ++ range ∷ [] ≡ [] → ⊥
not_nil ranges range e = omega (arith, ap length e, length-append ranges (range ∷ []))

-- an image that keeps the bytes outside the range keeps what it has to
-- an image that changed in the range alone may be left once the range is dirty
pub still_left : (m : Moment) (range : Range) (old new : List ℕ) → ((i : ℕ) → i < length m.durable → (i < range.0) ⊎ (range.1 ≤ i) → slice_get new i ≡ slice_get old i) → MayLeave m old → MayLeave (dirtied range m) new
still_left m range old new same left = record {
  untouched = λ e. absurd (not_nil m.dirty range e);
  keeps = λ i within none.
      let parts = or_parts (is_dirty m.dirty i) (is_dirty (range ∷ []) i) (sym (list_any-append (λ r. not (nat_lt i r.0) && nat_lt i r.1) m.dirty (range ∷ [])) ∙ none) in
      same i within (outside range i parts.1) ∙ left.keeps i within parts.0;
}

-- a write that failed, and changed nothing that a read gives
pub wrote_nothing : (old new : DiskState) (range : Range) → new.now ≡ dirtied range old.now → new.past ≡ moments old → new.image ≡ old.image → Dirties range old new
wrote_nothing old new range now past image = record {
  now = now;
  past = past;
  reads = λ left. subst (λ m. MayLeave m new.image) (sym now) (subst (λ t. MayLeave (dirtied range old.now) t) (sym image) (still_left old.now range old.image old.image (λ i within out. refl) left));
}

-- a write that was made
pub wrote : (old new : DiskState) (at : ℕ) (bytes : List ℕ) → new.now ≡ dirtied (at, at + length bytes) old.now → new.past ≡ moments old → at ≤ length old.image → new.image ≡ overwritten at bytes old.image → Dirties (at, at + length bytes) old new
wrote old new at bytes now past le image = record {
  now = now;
  past = past;
  reads = λ left. subst (λ m. MayLeave m new.image) (sym now) (subst (λ t. MayLeave (dirtied (at, at + length bytes) old.now) t) (sym image)
      (still_left old.now (at, at + length bytes) old.image (overwritten at bytes old.image) (λ i within out. kept_by_write at bytes old.image i le out) left));
}

-- a cut that was made
pub cut_off : (old new : DiskState) (len : ℕ) → new.now ≡ dirtied (cut_range len old) old.now → new.past ≡ moments old → new.image ≡ take len old.image → Dirties (cut_range len old) old new
cut_off old new len now past image = record {
  now = now;
  past = past;
  reads = λ left. subst (λ m. MayLeave m new.image) (sym now) (subst (λ t. MayLeave (dirtied (cut_range len old) old.now) t) (sym image)
      (still_left old.now (cut_range len old) old.image (take len old.image) (λ i within out. kept_by_cut len old.image i (⊎_elim (λ before. before) (λ behind. absurd (omega (arith, behind, within))) out)) left));
}

-- where nothing is dirty, what may be left is just what is durable
pub all_durable : (m : Moment) (image : List ℕ) → m.dirty ≡ [] → (image ≡ m.durable) ↔ MayLeave m image
all_durable m image none = (λ same. record { untouched = λ w. same; keeps = λ i within out. ap (λ (l : List ℕ). slice_get l i) same }, λ left. left.untouched none)

-- a write that happened is one that was tried
pub tried : {T E : Type 0} (range : Range) (result : Result T E) (old new : DiskState) → Dirties range old new → Attempts range result old new
tried range (Ok x) old new happened = happened
tried range (Err e) old new happened = inr happened

-- what stands in front of more bytes
front_bytes : (front more : List ℕ) (i : ℕ) → i < length front → slice_get (front ++ more) i ≡ slice_get front i
front_bytes [] more i lt = absurd (omega arith)
front_bytes (f ∷ fs) more zero lt = refl
front_bytes (f ∷ fs) more (suc i) lt = front_bytes fs more i (omega arith)

-- the durable image with more behind it may be left once anything is dirty
pub left_with_more : (m : Moment) (range : Range) (more : List ℕ) → MayLeave (dirtied range m) (m.durable ++ more)
left_with_more m range more = record {
  untouched = λ e. absurd (not_nil m.dirty range e);
  keeps = λ i within none. front_bytes m.durable more i within;
}
