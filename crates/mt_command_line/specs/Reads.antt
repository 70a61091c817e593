-- What is read from the words of a command line: options, or a fault.
use Rattle.std.specs.{Prelude.{◌≡◌, ◌⊎◌, true, false, List, [], Option, Some, None, IsSome, Result, Ok, Err, String, Vec, codes, slice_get}, Global.Global}
use Rattle.clap.specs.Words.{IsAmong, Row, Text, kind_of}
use Rattle.mt_options.specs.{declared.options.Options.Options, declared.options.StorePlace.StorePlace, declared.tenants.TenantQuota.TenantQuota}
use Rattle.mt_options.specs.Tenants.{AreTenants, IsFirstFault}
use Rattle.mt_command_line.specs.declared.faults.OptionsFault.{OptionsFault}
use Rattle.mt_command_line.specs.declared.faults.OptionsFault.TheVariants.{Words, CreateAlone, CheckpointAlone, CheckpointBytesAlone, SettleEveryAlone, VerifyAndServe, IdleAlone, Malformed, Refused, Memory}
use Rattle.mt_command_line.specs.{CommandLine.{faults_in, folder_in, found_in, given_for, tenant_words, verified_in}, Given.{EndsSilent, IsFlag, IsGiven, IsGivenOrZero, IsIdleAlone, IsThere}}
use Rattle.mt_options.specs.declared.tenants.TenantsFault.TheVariants as tenants_fault

-- The place of a store is the folder that is found for `--store`, with the flag `--create`. When a checkpoint is written, and when all is settled, is found
-- for three options.
pub record IsPlace (rows : List Row) (place : StorePlace) : Type 0 where
  pub folder : folder_in rows ≡ Some place.folder.bytes.items
  pub create : IsFlag (codes "create") rows place.create
  pub checkpoint : IsGivenOrZero (codes "checkpoint") 4294967295 rows place.checkpoint
  pub bytes : IsGivenOrZero (codes "checkpoint-bytes") 18446744073709551615 rows place.checkpoint_bytes
  pub settle : IsGivenOrZero (codes "settle-every") 4294967295 rows place.settle_every

-- no folder is found, and no `--create`
abbrev pub NoCreate : List Row → Type 0
NoCreate rows = (folder_in rows ≡ None) × IsFlag (codes "create") rows false

-- and no `--checkpoint`
abbrev pub NoCheckpoint : List Row → Type 0
NoCheckpoint rows = NoCreate rows × (given_for (codes "checkpoint") rows ≡ None)

-- and no `--checkpoint-bytes`
abbrev pub NoCheckpointBytes : List Row → Type 0
NoCheckpointBytes rows = NoCheckpoint rows × (given_for (codes "checkpoint-bytes") rows ≡ None)

-- and no `--settle-every`
abbrev pub NoSettleEvery : List Row → Type 0
NoSettleEvery rows = NoCheckpointBytes rows × (given_for (codes "settle-every") rows ≡ None)

-- the place of a store is named; if no folder is found there is none, and no option asks for one
abbrev pub NamesStore : List Row → Option StorePlace → Type 0
NamesStore rows (Some place) = IsPlace rows place
NamesStore rows None = NoSettleEvery rows

-- why no store's place is made: no folder is found, and this option is the first that asks for one; or memory is short
abbrev pub IsStoreFault : List Row → OptionsFault → Type 0
IsStoreFault rows CreateAlone = (folder_in rows ≡ None) × IsFlag (codes "create") rows true
IsStoreFault rows CheckpointAlone = NoCreate rows × IsThere (codes "checkpoint") rows
IsStoreFault rows CheckpointBytesAlone = NoCheckpoint rows × IsThere (codes "checkpoint-bytes") rows
IsStoreFault rows SettleEveryAlone = NoCheckpointBytes rows × IsThere (codes "settle-every") rows
IsStoreFault rows Memory = Unit {0}
IsStoreFault rows fault = ⊥

-- the folder of a store that is only read is the one that is found for `--verify`, and nothing is found for `--store` and `--create`; or there is none
abbrev pub NamesVerified : List Row → Option (String Global) → Type 0
NamesVerified rows (Some folder) = (verified_in rows ≡ Some folder.bytes.items) × NoCreate rows
NamesVerified rows None = verified_in rows ≡ None

-- why that folder isn't named: `--verify` is found, and so is `--store` or `--create`; or memory is short
abbrev pub IsVerifyFault : List Row → OptionsFault → Type 0
IsVerifyFault rows VerifyAndServe = IsSome (verified_in rows) × (IsSome (folder_in rows) ⊎ IsFlag (codes "create") rows true)
IsVerifyFault rows Memory = Unit {0}
IsVerifyFault rows fault = ⊥

-- a store that is only read is named, and none that is served; or else one that is served may be
abbrev pub NamesFolders : List Row → Option (String Global) → Option StorePlace → Type 0
NamesFolders rows None store = NamesVerified rows None × NamesStore rows store
NamesFolders rows verify None = NamesVerified rows verify
NamesFolders rows verify (Some place) = ⊥

-- the fault is that of the first of the tenants' words that has one; the fault tells this word, and how many stand before it
abbrev pub IsTenantsFault : List Text → OptionsFault → Type 0
IsTenantsFault words (Malformed word before why) = IsFirstFault words (tenants_fault.Malformed before why) × (slice_get words before ≡ Some word.bytes.items)
IsTenantsFault words (Refused word before refusal) = IsFirstFault words (tenants_fault.Refused before refusal) × (slice_get words before ≡ Some word.bytes.items)
IsTenantsFault words Memory = Unit {0}
IsTenantsFault words fault = ⊥

-- the words name these tenants, or the first of them with a fault has this one
abbrev pub Names : List Text → Result (Vec TenantQuota Global) OptionsFault → Type 0
Names words (Ok tenants) = AreTenants words tenants.items
Names words (Err fault) = IsTenantsFault words fault

-- the command line has no fault, and asks for these options
pub record AsksFor (words : List Text) (options : Options) : Type 0 where
  pub faultless : faults_in words ≡ []
  pub port : IsGiven (codes "port") 0 65535 (found_in words) options.port
  pub workers : IsGiven (codes "workers") 1 64 (found_in words) options.workers
  pub sessions : IsGiven (codes "sessions") 0 4294967295 (found_in words) options.sessions
  pub connections : IsGiven (codes "connections") 1 65536 (found_in words) options.connections
  pub ends_silent : EndsSilent (found_in words) options.connections options.idle
  pub folders : NamesFolders (found_in words) options.verify options.store
  pub tenants : AreTenants (tenant_words (found_in words)) options.tenants.items

-- why neither is named: for the one that is only read; or, if no `--verify` is found, for the one that is served; or memory is short
abbrev pub IsFoldersFault : List Row → OptionsFault → Type 0
IsFoldersFault rows VerifyAndServe = IsVerifyFault rows VerifyAndServe
IsFoldersFault rows Memory = Unit {0}
IsFoldersFault rows fault = (verified_in rows ≡ None) × IsStoreFault rows fault

-- the command line has no fault of a single option, and this one of its folders
abbrev pub IsToldOfFolders : List Text → OptionsFault → Type 0
IsToldOfFolders words fault = (faults_in words ≡ []) × IsFoldersFault (found_in words) fault

-- The fault is one that the command line has. It is of a single option, of `--idle` beside one connection, of a store to be read and served, or of an option
-- of a store without a folder. Or else it is of the first of its tenants' words.
abbrev pub IsTold : List Text → OptionsFault → Type 0
IsTold words (Words error) = IsAmong (kind_of error) (faults_in words)
IsTold words CreateAlone = IsToldOfFolders words CreateAlone
IsTold words CheckpointAlone = IsToldOfFolders words CheckpointAlone
IsTold words CheckpointBytesAlone = IsToldOfFolders words CheckpointBytesAlone
IsTold words SettleEveryAlone = IsToldOfFolders words SettleEveryAlone
IsTold words VerifyAndServe = IsToldOfFolders words VerifyAndServe
IsTold words IdleAlone = (faults_in words ≡ []) × IsIdleAlone (found_in words)
IsTold words (Malformed word before why) = (faults_in words ≡ []) × IsTenantsFault (tenant_words (found_in words)) (Malformed word before why)
IsTold words (Refused word before refusal) = (faults_in words ≡ []) × IsTenantsFault (tenant_words (found_in words)) (Refused word before refusal)
IsTold words Memory = Unit {0}
