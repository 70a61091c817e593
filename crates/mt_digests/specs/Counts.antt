-- What a reading of a file counts of its disk, and a comparison with its digest of both disks.
use Rattle.std.specs.Prelude.{◌≡◌, ℕ, Result, MatchResult}
use Rattle.mt_disk.specs.Disk.{GoesUp}
use Rattle.mt_digests.specs.{declared.fault.DigestFault.DigestFault, declared.fault.DigestFault.TheVariants.{Device, DigestDevice, Memory}}

-- a file was not read: the count of failures goes up if its disk failed, and at nothing else
abbrev pub CountsFault : DigestFault → ℕ → ℕ → Type 0
CountsFault Device old new = GoesUp old new
CountsFault DigestDevice old new = ⊥
CountsFault Memory old new = new ≡ old

abbrev pub CountsReading : {T : Type 0} → Result T DigestFault → ℕ → ℕ → Type 0
CountsReading result old new = MatchResult result (λ _. new ≡ old) (λ e. CountsFault e old new)

-- the counts of a file's disk and of its digest file's: the one that failed goes up
abbrev pub CountsEither : DigestFault → ℕ → ℕ → ℕ → ℕ → Type 0
CountsEither Device old new old_digest new_digest = GoesUp old new × (new_digest ≡ old_digest)
CountsEither DigestDevice old new old_digest new_digest = (new ≡ old) × GoesUp old_digest new_digest
CountsEither Memory old new old_digest new_digest = (new ≡ old) × (new_digest ≡ old_digest)

abbrev pub CountsComparing : {T : Type 0} → Result T DigestFault → ℕ → ℕ → ℕ → ℕ → Type 0
CountsComparing result old new old_digest new_digest =
    MatchResult result (λ _. (new ≡ old) × (new_digest ≡ old_digest)) (λ e. CountsEither e old new old_digest new_digest)
