-- What stands in a vector whose slice was given away, and how many logs; for a store that is made or recovered.
use Rattle.std.proofs.{Common.{◌≡◌, ◌∙◌, ℕ, List, ◌++◌, length, take, sym, ap}, lemmas.List.length-map, Math.Seq.take-append_seam}
use Rattle.mt_store_logs.specs.{declared.store_log.StoreLog.StoreLog, Places.{worker_of, workers_of}}

pub whole : {X : Type 0} (n : ℕ) (new rest : List X) → n ≡ length new → take n (new ++ rest) ≡ new
whole n new rest e = ap (λ (k : ℕ). take k (new ++ rest)) e ∙ take-append_seam new rest

-- logs of the same workers are as many
pub same_count : {D : Type 0} (old new : List (StoreLog D)) → workers_of new ≡ workers_of old → length new ≡ length old
same_count old new same = sym (length-map new worker_of) ∙ ap length same ∙ length-map old worker_of
