-- What clap found in the words of a command line for the options that have numbers.
use Rattle.std.specs.Prelude.{◌≡◌, ℕ, List, [], Some, codes, pos}
use Rattle.clap.specs.Words.{IsSignedIn, IsUnsignedIn, Text, found_of, one_text, rows_of, without_minus}
use Rattle.clap.specs.{declared.parser.matches.ArgMatches.ArgMatches, declared.parser.matches.Found.Found}
use Rattle.mt_command_line.specs.CommandLine.{faults_in, found_in}

-- what clap found for the option is a number from `least` to `most`, as clap reads it
abbrev pub HasNumber : Found → Text → ℕ → ℕ → Type 0
HasNumber found name least most = (text : Text) × (one_text found name ≡ Some (without_minus text)) × IsSignedIn (pos least) (pos most) text

-- what clap found for the option, if it found anything, is such a number
abbrev pub MayHaveNumber : Found → Text → ℕ → ℕ → Type 0
MayHaveNumber found name least most =
    (found_text : Text) → one_text found name ≡ Some found_text → (text : Text) × (found_text ≡ without_minus text) × IsSignedIn (pos least) (pos most) text

-- the same of a number that may be greater than an `i64`, which is read as it is written
abbrev pub MayHaveLargeNumber : Found → Text → ℕ → ℕ → Type 0
MayHaveLargeNumber found name least most = (text : Text) → one_text found name ≡ Some text → IsUnsignedIn least most text

-- the same of the numbers without a default
pub record MayHaveNumbers (found : Found) : Type 0 where
  pub checkpoint : MayHaveNumber found (codes "checkpoint") 0 4294967295
  pub bytes : MayHaveLargeNumber found (codes "checkpoint-bytes") 0 18446744073709551615
  pub settle : MayHaveNumber found (codes "settle-every") 0 4294967295

-- these are the matches of the command line, which has no fault
pub record AreMatches (words : List Text) (matches : ArgMatches) : Type 0 where
  pub faultless : faults_in words ≡ []
  pub rows : rows_of (found_of matches) ≡ found_in words
  pub port : HasNumber (found_of matches) (codes "port") 0 65535
  pub workers : HasNumber (found_of matches) (codes "workers") 1 64
  pub sessions : HasNumber (found_of matches) (codes "sessions") 0 4294967295
  pub connections : HasNumber (found_of matches) (codes "connections") 1 65536
  pub idle : HasNumber (found_of matches) (codes "idle") 0 4294967
  pub may : MayHaveNumbers (found_of matches)
