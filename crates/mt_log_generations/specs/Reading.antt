-- What the bytes after an open gate are, and what is read of them.
use Rattle.std.specs.Prelude.{◌≡◌, ◌⊎◌, ℕ, Bool, IsTrue, List, ◌∷◌, length, Option, Some, None, Result, MatchResult}
use Rattle.mt_disk.specs.Disk.{DiskState, GoesUp}
use Rattle.mt_log_generations.specs.{declared.header.Header.Header, declared.fault.HeaderFault.HeaderFault, Headers.{header_bytes, IsHeader, FitsEightBytes, IsLog, IsBad}}
use Rattle.mt_log_generations.specs.declared.fault.HeaderFault.TheVariants.{Device, Bad}

-- 24 bytes are this header
pub record IsHeaderIn (bytes : List ℕ) (h : Header) : Type 0 where
  pub header : IsHeader h
  pub whole : bytes ≡ header_bytes h

-- they are none
abbrev pub AreNoHeader : List ℕ → Type 0
AreNoHeader bytes = (h : Header) → FitsEightBytes h → bytes ≡ header_bytes h → ⊥

-- or one with a number past its limits
pub record ArePastLimits (bytes : List ℕ) (worker : ℕ) : Type 0 where
  pub header : Header
  pub fits : FitsEightBytes header
  pub whole : bytes ≡ header_bytes header
  pub wrong : IsHeader header → ⊥
  pub named : worker ≡ header.worker

-- why they are no header of a log
abbrev pub AreBad : List ℕ → HeaderFault → Type 0
AreBad bytes Device = ⊥
AreBad bytes (Bad number) = (AreNoHeader bytes × (number ≡ 0)) ⊎ ArePastLimits bytes number

-- a header was read of a disk whose file has this length and an open gate
abbrev pub IsReadAfterGate : {D : Type 0} → (D → Bool) → (D → DiskState) → D → ℕ → Option Header → Type 0
IsReadAfterGate is_honest state old len None = ⊥
IsReadAfterGate is_honest state old len (Some h) =
    IsHeader h × (IsTrue (is_honest old) → len ≡ length (state old).image → (behind : List ℕ) → (state old).image ≡ 1 ∷ behind → IsLog h (state old).image)

-- why none was
abbrev pub IsFaultAfterGate : {D : Type 0} → (D → Bool) → (D → DiskState) → D → ℕ → HeaderFault → Type 0
IsFaultAfterGate is_honest state old len Device = Unit {0}
IsFaultAfterGate is_honest state old len (Bad number) =
    IsTrue (is_honest old) → len ≡ length (state old).image → (behind : List ℕ) → (state old).image ≡ 1 ∷ behind → IsBad (state old).image number

-- the count of failures goes up if the disk failed, and at nothing else
abbrev pub CountsFault : HeaderFault → ℕ → ℕ → Type 0
CountsFault Device old new = GoesUp old new
CountsFault (Bad number) old new = new ≡ old

abbrev pub CountsReads : {T : Type 0} → Result T HeaderFault → ℕ → ℕ → Type 0
CountsReads result old new = MatchResult result (λ _. new ≡ old) (λ e. CountsFault e old new)
