-- What the bytes after an open gate tell of a file.
use Rattle.std.proofs.Common.{◌≡◌, inl, inr, ℕ, Bool, IsTrue, List, ◌∷◌, ◌++◌, take, drop, Some, sym, ◌∙◌, ap}
use Rattle.std.proofs.lemmas.List.{take-append-drop}
use Rattle.std.specs.List.{slice_get}
use Rattle.mt_disk.specs.Disk.{DiskState}
use Rattle.mt_log_generations.specs.{declared.header.Header.Header, declared.fault.HeaderFault.HeaderFault, Headers.{header_bytes, IsLog, IsBad}}
use Rattle.mt_log_generations.specs.Reading.{IsHeaderIn, AreBad, IsFaultAfterGate}
use Rattle.mt_log_generations.specs.declared.fault.HeaderFault.TheVariants.{Device, Bad}

module _ (image behind : List ℕ) (is : image ≡ 1 ∷ behind) where
  opened : slice_get image 0 ≡ Some 1
  opened = ap (λ (l : List ℕ). slice_get l 0) is

  -- 24 bytes after the gate are a header
  whole : (h : Header) → take 24 (drop 1 image) ≡ header_bytes h → image ≡ 1 ∷ (header_bytes h ++ drop 24 behind)
  whole h e =
      let front : take 24 behind ≡ header_bytes h = ap (λ (l : List ℕ). take 24 (drop 1 l)) (sym is) ∙ e in
      is ∙ ap (λ (l : List ℕ). 1 ∷ l) (sym (take-append-drop 24 behind)) ∙ ap (λ (l : List ℕ). 1 ∷ (l ++ drop 24 behind)) front

  pub log_after : (bytes : List ℕ) (h : Header) → bytes ≡ take 24 (drop 1 image) → IsHeaderIn bytes h → IsLog h image
  log_after bytes h from spelled = record { header = spelled.header; behind = drop 24 behind; whole = whole h (sym from ∙ spelled.whole) }

  -- or none
  pub bad_after : (bytes : List ℕ) (number : ℕ) → bytes ≡ take 24 (drop 1 image) → AreBad bytes (Bad number) → IsBad image number
  bad_after bytes number from (inl none) = record {
    opened = opened;
    why = inl (λ h more fits e. none.0 h fits (from ∙ ap (λ (l : List ℕ). take 24 (drop 1 l)) e), none.1);
  }
  bad_after bytes number from (inr past) = record {
    opened = opened;
    why = inr (record {
      header = past.header;
      more = drop 24 behind;
      fits = past.fits;
      whole = whole past.header (sym from ∙ past.whole);
      wrong = past.wrong;
      named = past.named;
    });
  }

-- why 24 bytes after the gate were refused
pub fault_after : {D : Type 0} (is_honest : D → Bool) (state : D → DiskState) (disk : D) (len : ℕ) (bytes : List ℕ) (e : HeaderFault)
    → (IsTrue (is_honest disk) → bytes ≡ take 24 (drop 1 (state disk).image)) → AreBad bytes e → IsFaultAfterGate is_honest state disk len e
fault_after is_honest state disk len bytes Device told bad = tt
fault_after is_honest state disk len bytes (Bad number) told bad = λ honest long behind is. bad_after (state disk).image behind is bytes number (told honest) bad
