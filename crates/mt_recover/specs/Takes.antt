-- What taking records of all logs does to these, and to the source that they are read from.
use Rattle.std.specs.Prelude.{◌≡◌, ◌⊎◌, ℕ, List, [], ◌∷◌, ◌++◌, drop, Option, Some, None, slice_get}
use Rattle.mt_rows.specs.{declared.record.Record.Record, declared.refusal.Refusal.{Refusal}, declared.refusal.Refusal.TheVariants.{Device, Memory, StampsFall}}
use Rattle.mt_log.specs.{declared.batch.LogBatch.LogBatch, Contents.{Contents}}
use Rattle.mt_recover.specs.{Twice.IsFirstTwice, Limits.AreContents, Outlines.AreAgain, Sources.Goes, Lanes.HasLeft, Merges.{Taken, AreMerging, AreAtEnd}, declared.lanes.Lane.{Lane}}

module _ {S : Type 0} (logs : S → ℕ) (follows : S → S → Type 0) (left : S → ℕ → List LogBatch → Type 0) where
  -- a source has left of each log what its lane has not read
  abbrev pub HaveLeft : S → List Contents → List Lane → Type 0
  HaveLeft s fronts lanes = (k : ℕ) (log : Contents) (lane : Lane) → slice_get fronts k ≡ Some log → slice_get lanes k ≡ Some lane → HasLeft logs follows left k s log lane

  -- More of the logs was read again. Of a source that has their batches left they are the same logs.
  pub record ReadAgain (s : S) (fronts : List Contents) (has : Type 0) (t : S) (now : List Contents) : Type 0 where
    pub goes : Goes logs follows s t
    pub again : AreAgain fronts now
    pub format : AreContents fronts → AreContents now
    pub same : has → now ≡ fronts

  -- Why no record is taken: the source refused a call, or it gave what does not agree with what was read first; or a stamp stands in two logs.
  abbrev pub StopsTaking : (S → Refusal → Type 0) → Type 0 → S → List Contents → Refusal → Type 0
  StopsTaking refused has t now e = refused t e ⊎ ((e ≡ Device) × ¬ has) ⊎ ((worker stamp : ℕ) × (e ≡ StampsFall worker stamp) × IsFirstTwice now worker stamp)

-- what was taken of logs, and how they then stand
abbrev pub Takes : List Taken → Option Record → List Contents → List Lane → Type 0
Takes taken None now lanes = AreMerging taken now lanes × AreAtEnd lanes
Takes taken (Some r) now lanes = (place : ℕ) × AreMerging (taken ++ (place, r) ∷ []) now lanes

-- a lane from which its first record was taken
pub record IsWithout (r : Record) (old new : Lane) : Type 0 where
  pub read : new.read ≡ old.read
  pub left : old.left.items ≡ r ∷ new.left.items
