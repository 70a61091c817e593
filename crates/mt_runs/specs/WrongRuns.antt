-- Eight runs of a new state that have no one order, each for a reason of its own; all else in them is as it should be.
use Rattle.std.specs.Prelude.{ℕ, false, [], ◌∷◌}
use Rattle.mt_rows.specs.{declared.command.Command.Command, declared.command.Command.TheVariants.{Get, Put, Scan, PutIf}, declared.reply.Reply.Reply}
use Rattle.mt_rows.specs.{declared.reply.Reply.TheVariants.{Absent, Found, New, Pairs, Replaced}, Rows.{Bytes, Columns}, Changes.Named, Stamps.Stamped}
use Rattle.mt_runs.specs.{declared.event.Event.Event, declared.event.Event.TheVariants.{Begin, Step}, declared.event.Told.Told}
use Rattle.mt_runs.specs.{declared.event.Told.TheVariants.{Begun, Moved, Done}, Runs.Run}

-- the key k, and a row of one column v
abbrev pub key_k : Bytes
key_k = 107 ∷ []

abbrev pub row_v : Columns
row_v = (118 ∷ []) ∷ []

-- this row, stamped
abbrev pub row_at : ℕ → Stamped
row_at stamp = record { stamp = stamp; row = row_v }

-- a get of the key's whole row, and a put that makes that row
abbrev pub get_k : Command
get_k = Get key_k []

abbrev pub change_v : Named
change_v = (0, 118 ∷ []) ∷ []

abbrev pub put_k : Command
put_k = Put key_k change_v

-- the same put, of a row with this stamp
abbrev pub put_k_if : ℕ → Command
put_k_if stamp = PutIf key_k stamp change_v

-- a scan of up to two pairs from the least key on
abbrev pub scan_two : Command
scan_two = Scan [] false 2 []

-- worker 0 begins an operation of tenant 7
abbrev pub begins : ℕ → Command → Event × Told
begins o command = (Begin o 0 7 command, Begun)

-- an operation makes its last step, and is told a reply by a step's number between its first and last one
abbrev pub ends_told : ℕ → Command → Reply → ℕ → ℕ → ℕ → Event × Told
ends_told o command reply first at last = (Step o, Done (record { command = command; reply = reply; first = first; at = at; last = last }))

-- a get of an empty store is told of a row
abbrev pub row_from_nowhere : Run
row_from_nowhere = begins 1 get_k ∷ ends_told 1 get_k (Found (row_at 1)) 1 1 1 ∷ []

-- a get that is begun after a put was told New is told Absent
abbrev pub missed_write : Run
missed_write = begins 1 put_k ∷ ends_told 1 put_k New 1 1 1 ∷ begins 2 get_k ∷ ends_told 2 get_k Absent 2 2 2 ∷ []

-- the same, but the finished put moves once more, as if it could stand there, behind the get
abbrev pub step_after_the_end : Run
step_after_the_end = begins 1 put_k ∷ ends_told 1 put_k New 1 3 3 ∷ begins 2 get_k ∷ ends_told 2 get_k Absent 2 2 2 ∷ (Step 1, Moved) ∷ []

-- a get is told of a row at step 2, where a put makes it, but the get's own last step was step 1
abbrev pub row_from_the_future : Run
row_from_the_future = begins 1 get_k ∷ begins 2 put_k ∷ ends_told 1 get_k (Found (row_at 2)) 1 2 1 ∷ ends_told 2 put_k New 2 2 2 ∷ []

-- a scan of an empty store shows a pair
abbrev pub pair_from_nowhere : Run
pair_from_nowhere = begins 1 scan_two ∷ ends_told 1 scan_two (Pairs ((key_k, row_at 1) ∷ [])) 1 1 1 ∷ []

-- a scan that is begun after a put was told New shows nothing
abbrev pub missed_pair : Run
missed_pair = begins 1 put_k ∷ ends_told 1 put_k New 1 1 1 ∷ begins 2 scan_two ∷ ends_told 2 scan_two (Pairs []) 2 2 2 ∷ []

-- a get that is begun after a put was told New is told the put's row with another stamp
abbrev pub another_stamp : Run
another_stamp = begins 1 put_k ∷ ends_told 1 put_k New 1 1 1 ∷ begins 2 get_k ∷ ends_told 2 get_k (Found (row_at 2)) 2 2 2 ∷ []

-- two puts that asked for the stamp of one row are both told that they changed it
abbrev pub lost_update : Run
lost_update = begins 1 put_k ∷ ends_told 1 put_k New 1 1 1 ∷ begins 2 (put_k_if 1) ∷ begins 3 (put_k_if 1) ∷ ends_told 2 (put_k_if 1) Replaced 2 2 2
    ∷ ends_told 3 (put_k_if 1) Replaced 3 3 3 ∷ []
