-- How the program ends where no server is started.
use Rattle.std.specs.Prelude.{◌≡◌, ◌⊎◌, ℕ}
use Rattle.clap.specs.{Words.kind_of, declared.error.kind.ErrorKind.ErrorKind, declared.error.kind.ErrorKind.TheVariants.{DisplayHelp, DisplayVersion}}
use Rattle.mt_command_line.specs.declared.faults.OptionsFault.{OptionsFault}
use Rattle.mt_command_line.specs.declared.faults.OptionsFault.TheVariants.{Words, CreateAlone, CheckpointAlone, CheckpointBytesAlone, SettleEveryAlone, VerifyAndServe, IdleAlone, Malformed, Refused, Memory}

-- the words ask for help or for a version, and are no fault
abbrev pub AsksForHelp : ErrorKind → Type 0
AsksForHelp kind = (kind ≡ DisplayHelp) ⊎ (kind ≡ DisplayVersion)

-- the program ends with this status: 0 for help or the version, 1 where memory is short, 2 for every other fault
abbrev pub HasStatus : OptionsFault → ℕ → Type 0
HasStatus (Words error) status = (AsksForHelp (kind_of error) → status ≡ 0) × (¬ AsksForHelp (kind_of error) → status ≡ 2)
HasStatus CreateAlone status = status ≡ 2
HasStatus CheckpointAlone status = status ≡ 2
HasStatus CheckpointBytesAlone status = status ≡ 2
HasStatus SettleEveryAlone status = status ≡ 2
HasStatus VerifyAndServe status = status ≡ 2
HasStatus IdleAlone status = status ≡ 2
HasStatus (Malformed word before why) status = status ≡ 2
HasStatus (Refused word before refusal) status = status ≡ 2
HasStatus Memory status = status ≡ 1
