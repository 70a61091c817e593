-- Format 3 of a log: a numbered file's header, and what such a file is. All numbers have their highest byte first.
use Rattle.std.specs.{Prelude.{◌≡◌, ◌≢◌, ◌⊎◌, ℕ, ◌<◌, ◌≤◌, ◌^◌, ◌%◌, ◌==◌, if◌then◌else◌, List, [], ◌∷◌, ◌++◌, Option, Some, None}, Int.{to_be_bytes, w64}, List.slice_get}
use Rattle.mt_log_generations.specs.declared.header.{Header.Header, Parity.Parity, Parity.TheVariants.{Even, Odd}}

-- a header with these numbers
abbrev pub header_with : ℕ → ℕ → ℕ → ℕ → Header
header_with worker logs generation start = record { worker = worker; logs = logs; generation = generation; start = start }

-- which of a worker's two files has the log of a generation
abbrev pub parity_of : ℕ → Parity
parity_of generation = if generation % 2 == 0 then Even else Odd

-- what follows the outer gate: MTLOG, the format's number, the worker, the number of logs, the generation and the start
abbrev pub header_bytes : Header → List ℕ
header_bytes h = 77 ∷ 84 ∷ 76 ∷ 79 ∷ 71 ∷ 3 ∷ h.worker ∷ h.logs ∷ (to_be_bytes w64 h.generation ++ to_be_bytes w64 h.start)

-- the text of a log without batches: its header and the first batch gate, closed
abbrev pub begun_text : Header → List ℕ
begun_text h = header_bytes h ++ 0 ∷ []

-- one of 1 to 64 logs, of a generation from 1 on, that begins at a step
pub record IsHeader (h : Header) : Type 0 where
  pub worker : h.worker < h.logs
  pub logs : h.logs ≤ 64
  pub numbered : 1 ≤ h.generation
  pub generation : h.generation ≤ 2 ^ 59
  pub start : h.start ≤ 2 ^ 59

-- its two numbers fit eight bytes each
pub record FitsEightBytes (h : Header) : Type 0 where
  pub generation : h.generation < 2 ^ 64
  pub start : h.start < 2 ^ 64

-- A file is the log of a generation: its outer gate is open, and this header follows it. Its batches follow that.
pub record IsLog (h : Header) (image : List ℕ) : Type 0 where
  pub header : IsHeader h
  pub behind : List ℕ
  pub whole : image ≡ 1 ∷ (header_bytes h ++ behind)

-- a file is no log: it is empty, or its outer gate isn't open
abbrev pub IsNoLog : List ℕ → Type 0
IsNoLog image = slice_get image 0 ≢ Some 1

-- what a file has: the log of a generation, or none
abbrev pub Has : Option Header → List ℕ → Type 0
Has None image = IsNoLog image
Has (Some h) image = IsLog h image

-- no header follows the outer gate, whatever numbers it might name
abbrev pub HasNoHeader : List ℕ → Type 0
HasNoHeader image = (h : Header) (more : List ℕ) → FitsEightBytes h → image ≡ 1 ∷ (header_bytes h ++ more) → ⊥

-- a header of this worker follows it, and some number of it is past its limits
pub record IsPastLimits (image : List ℕ) (worker : ℕ) : Type 0 where
  pub header : Header
  pub more : List ℕ
  pub fits : FitsEightBytes header
  pub whole : image ≡ 1 ∷ (header_bytes header ++ more)
  pub wrong : IsHeader header → ⊥
  pub named : worker ≡ header.worker

-- A file is neither: its outer gate is open, and no header follows it, then the number is 0; or one past its limits does.
pub record IsBad (image : List ℕ) (number : ℕ) : Type 0 where
  pub opened : slice_get image 0 ≡ Some 1
  pub why : (HasNoHeader image × (number ≡ 0)) ⊎ IsPastLimits image number
