-- The file of a worker's log, by the generation of that.
use Rattle.std.specs.Prelude.{ℕ, zero, suc}
use Rattle.mt_log_generations.specs.Headers.{parity_of}
use Rattle.mt_store_files.specs.{declared.names.StoreFile.StoreFile, declared.names.StoreFile.TheVariants.{Log, Numbered}}

-- the plain file of generation 0, and the even or odd one of any later generation
abbrev pub log_file : ℕ → ℕ → StoreFile
log_file worker zero = Log worker
log_file worker (suc before) = Numbered worker (parity_of (suc before))
