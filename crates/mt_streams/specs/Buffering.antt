-- A text that is put into a buffer, which keeps it back till it is full or flushed.
use Rattle.std.specs.{Prelude.{◌≡◌, ◌≤◌, ℕ, List, ◌++◌, length, Option, Result, Ok, Err}, Io.KnownBytes.Appends}
use Rattle.mt_streams.specs.Failures.{NoFewer, Failed}

-- a front of the text was written
abbrev pub WritesFront : Option (List ℕ) → Option (List ℕ) → List ℕ → Type 0
WritesFront held holds text = (front : List ℕ) × (lost : List ℕ) × (text ≡ front ++ lost) × Appends held holds front

-- a text came after what the buffer kept: a front of all that was written, and the buffer keeps the rest. It keeps
-- at most 65,536 bytes if it kept no more before.
abbrev pub Buffers : Option (List ℕ) → Option (List ℕ) → List ℕ → List ℕ → List ℕ → Type 0
Buffers held holds kept keeps text = (front : List ℕ) × Appends held holds front × (kept ++ text ≡ front ++ keeps) × (length kept ≤ 65536 → length keeps ≤ 65536)

-- what did not fail failed no less often than before, and what failed, more often
abbrev pub Counts : {U E : Type 0} → Option ℕ → Option ℕ → Result U E → Type 0
Counts failures then (Ok done) = NoFewer failures then
Counts failures then (Err fault) = Failed failures then

-- A text was put into the buffer. Or the writer failed, and a front of what the buffer kept and of the text was written.
abbrev pub Puts : {U E : Type 0} → Option (List ℕ) → Option (List ℕ) → Option ℕ → Option ℕ → List ℕ → List ℕ → List ℕ → Result U E → Type 0
Puts held holds failures then kept keeps text (Ok done) = Buffers held holds kept keeps text × NoFewer failures then
Puts held holds failures then kept keeps text (Err fault) = WritesFront held holds (kept ++ text) × Failed failures then
