-- What a header tells of a file, and what looking at it leaves.
use Rattle.std.proofs.Common.{◌≡◌, ◌≢◌, inr, ℕ, ◌<◌, ◌≤◌, Bool, IsTrue, List, ◌++◌, length, take, drop, Option, Some, None, sym, ◌∙◌, ap, subst, arith}
use Rattle.std.proofs.lemmas.Option.{same_Some, none-some}
use Rattle.std.specs.List.{slice_get}
use Rattle.mt_disk.specs.Disk.{DiskState, GoesUp, synced}
use Rattle.mt_gates.{specs.Gates.{IsGateOf}, proofs.Crash.by_first}
use Rattle.mt_log_generations.specs.{declared.header.Header.Header, declared.fault.HeaderFault.HeaderFault, Headers.{header_bytes, IsLog}}
use Rattle.mt_log_generations.specs.{Reading.{IsHeaderIn, AreBad}, declared.fault.HeaderFault.TheVariants.{Device, Bad}}
use Rattle.mt_log_generations.proofs.{HeaderLaws.{one, not_bad}, Openings.{log_after, bad_after}}
use Rattle.mt_log_files.specs.Looks.{TellsGeneration, LooksAt, FailsToLookAt}

-- ---- what the bytes tell

-- a log's gate is open, and its header follows
log_opens : (h : Header) (image : List ℕ) → IsLog h image → slice_get image 0 ≡ Some 1
log_opens h image log = ap (λ (l : List ℕ). slice_get l 0) log.whole

log_long : (h : Header) (image : List ℕ) → IsLog h image → 24 < length image
log_long h image log = omega (arith, ap length log.whole)

-- if there is no log, 0 tells that
tells_none : (image : List ℕ) → ((h : Header) → IsLog h image → ⊥) → TellsGeneration 0 image
tells_none image none = record { of = λ h log. absurd (none h log); log = λ some. absurd (omega (arith, some)) }

pub not_open : (image : List ℕ) → slice_get image 0 ≢ Some 1 → TellsGeneration 0 image
not_open image shut = tells_none image (λ h log. shut (log_opens h image log))

pub too_short : (image : List ℕ) → length image ≤ 24 → TellsGeneration 0 image
too_short image short = tells_none image (λ h log. (let long = log_long h image log in omega (arith, short, long)))

pub no_header : (image bytes : List ℕ) (e : HeaderFault) → bytes ≡ take 24 (drop 1 image) → AreBad bytes e → TellsGeneration 0 image
no_header image bytes Device from bad = absurd bad
no_header image bytes (Bad number) from bad =
    tells_none image (λ h log. not_bad h image number log (bad_after image (header_bytes h ++ log.behind) log.whole bytes number from bad))

pub has_header : (image bytes : List ℕ) (h : Header) → bytes ≡ take 24 (drop 1 image) → slice_get image 0 ≡ Some 1 → IsHeaderIn bytes h → TellsGeneration h.generation image
has_header image bytes h from opened spelled =
    let log = log_after image (drop 1 image) (by_first image 1 opened) bytes h from spelled in
    record { of = λ k other. ap (λ (x : Header). x.generation) (one k h image other log); log = λ some. (h, log) }

-- ---- a disk

module _ {D : Type 0} (is_honest : D → Bool) (state : D → DiskState) (failures : D → ℕ) (old mid : D) (len : ℕ) (gate : Option ℕ)
    (at : IsGateOf is_honest state old mid (len, gate)) (kept : is_honest mid ≡ is_honest old) (count : failures mid ≡ failures old) where
  still : IsTrue (is_honest old) → IsTrue (is_honest mid)
  still h = subst IsTrue (sym kept) h

  image_is : IsTrue (is_honest old) → (state mid).image ≡ (state old).image
  image_is h = ap (λ (s : DiskState). s.image) (at.moves h)

  -- nothing more was read
  told_none : (IsTrue (is_honest old) → TellsGeneration 0 (state old).image) → LooksAt is_honest state failures old mid 0
  told_none tells = record { tells = tells; moves = at.moves; count = count; honest = kept }

  pub look_empty : gate ≡ None → LooksAt is_honest state failures old mid 0
  look_empty e = told_none (λ h. not_open (state old).image (λ opened. none-some 1 (sym e ∙ at.gate h ∙ opened)))

  pub look_shut : (g : ℕ) → gate ≡ Some g → g ≢ 1 → LooksAt is_honest state failures old mid 0
  look_shut g e shut = told_none (λ h. not_open (state old).image (λ opened. shut (same_Some g 1 (sym e ∙ at.gate h ∙ opened))))

  pub look_short : len ≤ 24 → LooksAt is_honest state failures old mid 0
  look_short short = told_none (λ h. too_short (state old).image (subst (λ (n : ℕ). n ≤ 24) (at.len h) short))

  -- the header was read, or not
  module _ (new : D) (same : IsTrue (is_honest mid) → state new ≡ state mid) (honest : is_honest new ≡ is_honest mid) where
    moved : IsTrue (is_honest old) → state new ≡ synced (state old)
    moved h = same (still h) ∙ at.moves h

    pub look_failed : GoesUp (failures mid) (failures new) → FailsToLookAt is_honest state failures old new
    look_failed up = record { moves = λ h. inr (moved h); count = subst (λ (n : ℕ). GoesUp n (failures new)) count up; honest = honest ∙ kept }

    module _ (bytes : List ℕ) (told : IsTrue (is_honest mid) → bytes ≡ take 24 (drop 1 (state mid).image)) (again : failures new ≡ failures mid) where
      from : IsTrue (is_honest old) → bytes ≡ take 24 (drop 1 (state old).image)
      from h = told (still h) ∙ ap (λ (l : List ℕ). take 24 (drop 1 l)) (image_is h)

      pub look_bad : (e : HeaderFault) → AreBad bytes e → LooksAt is_honest state failures old new 0
      look_bad e bad =
          record { tells = λ h. no_header (state old).image bytes e (from h) bad; moves = moved; count = again ∙ count; honest = honest ∙ kept }

      pub look_log : (h : Header) → gate ≡ Some 1 → IsHeaderIn bytes h → LooksAt is_honest state failures old new h.generation
      look_log h e spelled =
          record { tells = λ is. has_header (state old).image bytes h (from is) (sym (at.gate is) ∙ e) spelled; moves = moved; count = again ∙ count; honest = honest ∙ kept }
