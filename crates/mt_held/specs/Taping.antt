-- What becomes of the tape as room for a write is made or given back, and as a write takes its room.
use Rattle.std.specs.Prelude.{◌+◌, ◌-◌, [], ◌∷◌, ◌++◌}
use Rattle.mt_tape.specs.{declared.entry.Entry.{Entry as Write}, Tapes.Kept}

-- a tape with room for one more write, one that gives a room back, and one with a write that took its room
abbrev pub reserving : Kept → Kept
reserving tape = record tape { reserved = tape.reserved + 1 }

abbrev pub released : Kept → Kept
released tape = record tape { reserved = tape.reserved - 1 }

abbrev pub pushed : Kept → Write → Kept
pushed tape e = record tape { entries = tape.entries ++ e ∷ []; reserved = tape.reserved - 1 }
