-- Two logs of a store that was recovered once, one of which is older than the other; and two that were resumed twice.
use Rattle.std.specs.Prelude.{List, [], ◌∷◌}
use Rattle.mt_log.specs.{declared.batch.LogBatch.LogBatch, declared.batch.LogBatch.TheVariants.{Records, Resume}, Contents.Contents}
use Rattle.mt_crashes.specs.Examples.{change, batch}

-- The first log ended at 2 when the store was recovered, and the second at 1. The store went on from 2, and the first log has a record since. The
-- second has these batches.
abbrev pub fronts_with : List LogBatch → List Contents
fronts_with batches =
    record { version = 2; worker = 0; logs = 2; generation = 0; start = 0; batches = Records (batch 0 2) ∷ Resume 2 2 1 ∷ Records (batch 2 4) ∷ [] }
    ∷ record { version = 2; worker = 1; logs = 2; generation = 0; start = 0; batches = batches } ∷ []

-- The second is a copy that was made before the recovery.
abbrev pub fronts_with_copy : List Contents
fronts_with_copy = fronts_with (Records (batch 0 1) ∷ [])

-- The second was made anew.
abbrev pub fronts_with_new : List Contents
fronts_with_new = fronts_with []

-- The store ended in order at 4, and was recovered from there. The first log has a record since. The second is a copy that was made before the recovery.
abbrev pub fronts_with_ended : List Contents
fronts_with_ended =
    record { version = 2; worker = 0; logs = 2; generation = 0; start = 0; batches = Records (batch 0 4) ∷ Resume 4 4 4 ∷ Records (batch 4 5) ∷ [] }
    ∷ record { version = 2; worker = 1; logs = 2; generation = 0; start = 0; batches = Records (record { from = 0; to = 4; records = change 3 ∷ [] }) ∷ [] } ∷ []

-- The second was begun at 2, where it ended after the recovery: its resume batch was given up, with what came before.
abbrev pub fronts_with_next : List Contents
fronts_with_next = record { version = 2; worker = 0; logs = 2; generation = 0; start = 0; batches = Records (batch 0 2) ∷ Resume 2 2 1 ∷ Records (batch 2 4) ∷ [] }
    ∷ record { version = 3; worker = 1; logs = 2; generation = 1; start = 2; batches = [] } ∷ []

-- Two recoveries crashed, of which the second goes on from 3, as a checkpoint told. The second log has a resume batch of the first of them alone.
abbrev pub fronts_resumed_twice : List Contents
fronts_resumed_twice =
    record { version = 2; worker = 0; logs = 2; generation = 0; start = 0; batches = Records (batch 0 2) ∷ Resume 2 2 1 ∷ Resume 2 3 1 ∷ [] }
    ∷ record { version = 2; worker = 1; logs = 2; generation = 0; start = 0; batches = Records (batch 0 1) ∷ Resume 1 2 1 ∷ [] } ∷ []
