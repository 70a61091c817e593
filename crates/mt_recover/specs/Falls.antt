-- What a recovery finds wrong in a single log: its first number that falls.
use Rattle.std.specs.Prelude.{ℕ, ◌==◌, Bool, not, ◌&&◌, nat_lt, List, [], ◌∷◌, map, Option, Some, None, if◌then◌else◌}
use Rattle.mt_log.specs.{declared.batch.LogBatch.LogBatch, declared.batch.LogBatch.TheVariants.{Records, OldRecords, Resume}, Contents.{Contents, from_of, to_of}, Falls.fall_in}

-- the first of two, if it is there, else the second
abbrev pub first_of : {X : Type 0} → Option X → Option X → Option X
first_of None other = other
first_of (Some x) other = Some x

-- whether a batch doesn't go back, and keeps no more than it ends at
abbrev pub goes_on : LogBatch → Bool
goes_on (Records b) = not (nat_lt b.to b.from)
goes_on (OldRecords b) = not (nat_lt b.to b.from)
goes_on (Resume from to kept) = not (nat_lt to from) && not (nat_lt to kept)

-- the first stamp of a batch that falls
abbrev pub stamp_fall : LogBatch → Option ℕ
stamp_fall (Records b) = fall_in b.from b.to (map (λ r. r.stamp) b.records)
stamp_fall (OldRecords b) = fall_in b.from b.to (map (λ r. r.stamp) b.records)
stamp_fall (Resume from to kept) = None

-- What is wrong in a batch behind a mark: where it begins, if that isn't the mark or it doesn't go on; else its first stamp that falls.
abbrev pub batch_fall : ℕ → LogBatch → Option ℕ
batch_fall mark b = if from_of b == mark && goes_on b then stamp_fall b else Some (from_of b)

-- and in batches one behind the other
abbrev pub fall_behind : ℕ → List LogBatch → Option ℕ
fall_behind mark [] = None
fall_behind mark (b ∷ bs) = first_of (batch_fall mark b) (fall_behind (to_of b) bs)

-- and in a log, from its start on
abbrev pub fall_of : Contents → Option ℕ
fall_of c = fall_behind c.start c.batches

-- a number of a worker's log
abbrev pub Fall : Type 0
Fall = ℕ × ℕ

-- a log's fall, with its worker
abbrev pub with_worker : ℕ → Option ℕ → Option Fall
with_worker worker None = None
with_worker worker (Some stamp) = Some (worker, stamp)

-- and in the logs, in the order in which they are given
abbrev pub first_fall : List Contents → Option Fall
first_fall [] = None
first_fall (c ∷ cs) = first_of (with_worker c.worker (fall_of c)) (first_fall cs)
