-- What is read of a digest file.
use Rattle.std.proofs.Common.{◌≡◌, ◌⊎◌, inl, inr, ℕ, ◌≤◌, ◌==◌, Bool, true, false, if◌then◌else◌, List, [], ◌∷◌, ◌++◌, length, take, drop, Option, Some, None, refl, sym, ◌∙◌, ap, subst, arith, length-append}
use Rattle.std.specs.{Prelude.nat_lt, List.slice_index_or}
use Rattle.std.proofs.{lemmas.List.{append-nil, take_all, take-append-le}, lemmas.Nat.from_be_bytes-to_be_bytes_8, lemmas.Bool.eqb-true, lemmas.Bool.Decides.nat_tests}
use Rattle.mt_disk.specs.Disk.{DiskState}
use Rattle.mt_gates.specs.Gates.{IsClosed, IsLeftOf, HasDurably}
use Rattle.mt_digests.specs.{declared.file_digest.FileDigest.FileDigest, Digests.{IsFileDigest, digest_of, open_digest, digest_bytes, digest_after_gate, digest_in}}

either_way : {T : Type 0} (b : Bool) (x : T) → (if b then x else x) ≡ x
either_way true x = refl
either_way false x = refl

at_least : (n : ℕ) → 41 ≤ n → nat_lt n 41 ≡ false
at_least n le = grind (arith, nat_tests)

open_by : (image : List ℕ) (b : Bool) → (slice_index_or image 0 0 == 0) ≡ b → (slice_index_or image 0 0 ≡ 0 → ⊥) → open_digest image ≡ Some (digest_of (drop 1 image))
open_by image true e other = absurd (other (eqb-true (slice_index_or image 0 0) 0 e))
open_by image false e other =
    let none : Option FileDigest = None in
    ap (λ (b : Bool). if b then none else Some (digest_of (drop 1 image))) e

-- the digest of a file whose first byte isn't 00
pub open_has_one : (image : List ℕ) → (slice_index_or image 0 0 ≡ 0 → ⊥) → open_digest image ≡ Some (digest_of (drop 1 image))
open_has_one image = open_by image (slice_index_or image 0 0 == 0) refl

-- a closed gate
pub closed_has_none : (image : List ℕ) → IsClosed image → digest_in image ≡ None
closed_has_none image closed =
    let none : Option FileDigest = None in
    ap digest_in closed.whole ∙ either_way (nat_lt (length (0 ∷ closed.behind)) 41) none

module _ (digest : FileDigest) (is : IsFileDigest digest) where
  -- the digest stands after an open gate
  pub opened_has_it : (behind : List ℕ) → digest_in (1 ∷ (digest_bytes digest ++ behind)) ≡ Some digest
  opened_has_it behind =
      let image = 1 ∷ (digest_bytes digest ++ behind) in
      let long : 41 ≤ length image = omega (arith, length-append digest.sha256 behind, is.size) in
      let number = from_be_bytes-to_be_bytes_8 digest.len is.len in
      let hash : take 32 (digest.sha256 ++ behind) ≡ digest.sha256 = take-append-le 32 digest.sha256 behind (omega (arith, is.size)) ∙ take_all 32 digest.sha256 (omega (arith, is.size)) in
      let spelled : digest_after_gate image ≡ digest = λ i. record { len = number i; sha256 = hash i } in
      rw (at_least (length image) long) (ap (λ (d : FileDigest). Some d) spelled)

  -- after any gate
  gated_has_it_or_none : (gate : ℕ) (behind : List ℕ) (b : Bool) → (gate == 1) ≡ b
      → (digest_in (gate ∷ (digest_bytes digest ++ behind)) ≡ None) ⊎ (digest_in (gate ∷ (digest_bytes digest ++ behind)) ≡ Some digest)
  gated_has_it_or_none gate behind true e = inr (ap (λ n. digest_in (n ∷ (digest_bytes digest ++ behind))) (eqb-true gate 1 e) ∙ opened_has_it behind)
  gated_has_it_or_none gate behind false e =
      let none : Option FileDigest = None in
      inl (rw e (either_way (nat_lt (length (gate ∷ (digest_bytes digest ++ behind))) 41) none))

  pub left_has_it_or_none : (image : List ℕ) → IsLeftOf (digest_bytes digest) image → (digest_in image ≡ None) ⊎ (digest_in image ≡ Some digest)
  left_has_it_or_none image (inl closed) = inl (closed_has_none image closed)
  left_has_it_or_none image (inr gated) =
      subst (λ (l : List ℕ). (digest_in l ≡ None) ⊎ (digest_in l ≡ Some digest)) (sym gated.whole) (gated_has_it_or_none gated.gate gated.behind (gated.gate == 1) refl)

  pub durable_has_it : (s : DiskState) → HasDurably (digest_bytes digest) s → digest_in s.image ≡ Some digest
  durable_has_it s has = ap digest_in (has.image ∙ ap (λ (l : List ℕ). 1 ∷ l) (sym (append-nil (digest_bytes digest)))) ∙ opened_has_it []
