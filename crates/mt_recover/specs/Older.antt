-- Logs that are older than the others: which one is told, and with which number.
use Rattle.std.specs.{Prelude.{◌≡◌, ℕ, ◌<◌, ◌≤◌, ◌==◌, min, max, Bool, false, not, ◌&&◌, nat_lt, List, [], ◌∷◌, map, Option, Some, None, if◌then◌else◌}, List.list_any}
use Rattle.mt_log.specs.{declared.batch.LogBatch.LogBatch, declared.batch.LogBatch.TheVariants.{Records, OldRecords, Resume}, Contents.Contents}
use Rattle.mt_crashes.specs.Fronts.{In, greatest, HoldResume, IsLastServed}

-- A log lacks the resume batch up to a number: none stands in it, and it begins before that number. If it began there or later, the batch may have been
-- given up.
abbrev pub Lacks : ℕ → Contents → Type 0
Lacks n log = (log.start < n) × ¬ HoldResume n log.batches

-- the last number from which the store has served, as any log tells, and the least worker whose log lacks the resume batch up to it
pub record IsFirstOlder (fronts : List Contents) (worker stamp : ℕ) : Type 0 where
  pub some : 0 < stamp
  pub served : IsLastServed fronts stamp
  pub log : Contents
  pub given : In log fronts
  pub owner : log.worker ≡ worker
  pub lacks : Lacks stamp log
  pub least : (other : Contents) → In other fronts → Lacks stamp other → worker ≤ other.worker

-- how far the resume batches go that records follow, if earlier ones went up to a number
abbrev pub served_in : ℕ → List LogBatch → ℕ
served_in resumed [] = 0
served_in resumed (Records b ∷ bs) = max resumed (served_in resumed bs)
served_in resumed (OldRecords b ∷ bs) = max resumed (served_in resumed bs)
served_in resumed (Resume from to kept ∷ bs) = served_in (max resumed to) bs

-- the last number from which the store has served, 0 of none
abbrev pub last_served : List Contents → ℕ
last_served fronts = greatest (map (λ f. served_in 0 f.batches) fronts)

-- whether a resume batch up to a number stands among batches
abbrev pub is_resume_to : ℕ → LogBatch → Bool
is_resume_to n (Records b) = false
is_resume_to n (OldRecords b) = false
is_resume_to n (Resume from to kept) = to == n

abbrev pub holds_resume : ℕ → List LogBatch → Bool
holds_resume n bs = list_any (is_resume_to n) bs

-- whether a log lacks the resume batch up to a number
abbrev pub lacks_resume : ℕ → Contents → Bool
lacks_resume n c = nat_lt c.start n && not (holds_resume n c.batches)

-- the lower of two workers, if there are two
abbrev pub lower : Option ℕ → ℕ → Option ℕ
lower None worker = Some worker
lower (Some other) worker = Some (min other worker)

-- the least worker whose log lacks the resume batch up to a number, or that was found before these logs
abbrev pub least_without : ℕ → Option ℕ → List Contents → Option ℕ
least_without number found [] = found
least_without number found (c ∷ cs) = least_without number (if lacks_resume number c then lower found c.worker else found) cs
