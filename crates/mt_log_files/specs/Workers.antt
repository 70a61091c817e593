-- What a crash leaves of a worker's log in the files of two generations, and of all workers of a store.
use Rattle.std.specs.{Prelude.{ℕ, ◌+◌, List, map, Option, Some, None}, List.AllZip}
use Rattle.mt_log.specs.Contents.{Contents}
use Rattle.mt_crashes.specs.Stores.{LogNow, MayLeaveFront}
use Rattle.mt_generations.specs.{Standings.{Standing, StandsFor}, Turns.with_log}
use Rattle.mt_log_files.specs.Files.{FileNow, MayLeaveFile}

-- no log of any generation
abbrev pub nothing_stands : Standing
nothing_stands = λ g. None

-- a worker's logs with what was found of a generation, if that is a log
abbrev pub with_found : ℕ → Option Contents → Standing → Standing
with_found g None f = f
with_found g (Some c) f = with_log g c f

-- what was found of a generation, and of the next one, and nothing else
abbrev pub standing_of : ℕ → Option Contents → Option Contents → Standing
standing_of g first next = with_found (g + 1) next (with_found g first nothing_stands)

-- The files of a generation and of the next one are those of a worker's log. Whatever a crash leaves of them, stands for the whole log, with the batch
-- that was in doubt or without.
abbrev pub AreFilesOf : ℕ → LogNow → FileNow → FileNow → Type 0
AreFilesOf g now first next = (x y : Option Contents) → MayLeaveFile first x → MayLeaveFile next y
    → (log : Contents) × MayLeaveFront now log × StandsFor g log (standing_of g x y)

-- a worker's two files, and what was found of them
abbrev pub Files : Type 0
Files = FileNow × FileNow

abbrev pub Found : Type 0
Found = Option Contents × Option Contents

-- each worker has its files
abbrev pub AllHaveFiles : ℕ → List LogNow → List Files → Type 0
AllHaveFiles g logs files = AllZip (λ now f. AreFilesOf g now f.0 f.1) logs files

-- what a crash may leave of all of them
abbrev pub MayLeaveFiles : List Files → List Found → Type 0
MayLeaveFiles files found = AllZip (λ f x. MayLeaveFile f.0 x.0 × MayLeaveFile f.1 x.1) files found

-- and what stands then
abbrev pub standings_of : ℕ → List Found → List Standing
standings_of g found = map (λ x. standing_of g x.0 x.1) found
