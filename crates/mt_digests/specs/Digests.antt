-- Digests of files behind a gate, and what a digest file has.
use Rattle.std.specs.{Prelude.{◌≡◌, ℕ, ◌<◌, ◌^◌, ◌==◌, nat_lt, if◌then◌else◌, List, ◌++◌, length, take, drop, slice_index_or, Option, Some, None}, Int.{to_be_bytes, from_be_bytes, w64}}
use Rattle.sha2.specs.Sha256.{sha256}
use Rattle.mt_digests.specs.declared.file_digest.FileDigest.{FileDigest}

-- the digest of some bytes
abbrev pub digest_of : List ℕ → FileDigest
digest_of bytes = record { len = length bytes; sha256 = sha256 bytes }

-- The digest of what follows a file's first byte: none if there is no byte, or that one is 00. A plain log begins with its header, and no gate is closed there.
abbrev pub open_digest : List ℕ → Option FileDigest
open_digest image = if slice_index_or image 0 0 == 0 then None else Some (digest_of (drop 1 image))

-- a length of eight bytes and 32 bytes of SHA-256
pub record IsFileDigest (digest : FileDigest) : Type 0 where
  pub len : digest.len < 2 ^ 64
  pub size : length digest.sha256 ≡ 32

-- what follows the gate of a digest file: the length, its highest byte first, and the SHA-256
abbrev pub digest_bytes : FileDigest → List ℕ
digest_bytes digest = to_be_bytes w64 digest.len ++ digest.sha256

-- the digest that these bytes spell after a gate
abbrev pub digest_after_gate : List ℕ → FileDigest
digest_after_gate image = record { len = from_be_bytes w64 (take 8 (drop 1 image)); sha256 = take 32 (drop 9 image) }

-- the digest that a digest file has: none if it has less than 41 bytes, or its gate isn't open
abbrev pub digest_in : List ℕ → Option FileDigest
digest_in image = if nat_lt (length image) 41 then None else if slice_index_or image 0 0 == 1 then Some (digest_after_gate image) else None

-- a file agrees with its digest: one of them has none, or both have the same
abbrev pub DoAgree : Option FileDigest → Option FileDigest → Type 0
DoAgree (Some kept) (Some found) = found ≡ kept
DoAgree kept found = Unit {0}
