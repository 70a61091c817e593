-- The one spelling of each request. All numbers have their highest byte first.
use Rattle.std.specs.{Prelude.{◌≡◌, ℕ, ◌<◌, ◌≤◌, ◌^◌, Bool, if◌then◌else◌, List, [], ◌∷◌, ◌++◌, length}, List.{flat_map, All}, Int.{w32, to_be_bytes, w64}}
use Rattle.mt_rows.specs.{Rows.Bytes, Changes.Named, declared.command.Command.Command, declared.command.Command.TheVariants.{Get, Put, Remove, Scan, PutIf}}
use Rattle.mt_fields.specs.Fields.{string}
use Rattle.mt_wire.specs.{declared.message.Request.Request, declared.message.Request.TheVariants.{Open, Call, Settle, GetStamped}, Frames.frame}

-- the indexes of columns that are asked for: a byte of count, and that many bytes
abbrev pub asked_columns : List ℕ → Bytes
asked_columns indexes = length indexes ∷ indexes

-- a column by its index
abbrev pub named_column : ℕ × Bytes → Bytes
named_column c = c.0 ∷ string c.1

-- columns by index: a byte of count, and that many columns
abbrev pub named_columns : Named → Bytes
named_columns cs = length cs ∷ flat_map named_column cs

-- where a scan starts: 0 at its key, 1 after it
abbrev pub start_flag : Bool → ℕ
start_flag after = if after then 1 else 0

-- the body of a command's frame
abbrev pub command_body : Command → Bytes
command_body (Get key columns) = 2 ∷ (string key ++ asked_columns columns)
command_body (Put key cs) = 3 ∷ (string key ++ named_columns cs)
command_body (PutIf key stamp cs) = 8 ∷ (string key ++ (to_be_bytes w64 stamp ++ named_columns cs))
command_body (Remove key) = 4 ∷ string key
command_body (Scan from after count columns) = 5 ∷ start_flag after ∷ (string from ++ (count ∷ asked_columns columns))

-- the body of a request's frame
abbrev pub request_body : Request → Bytes
request_body (Open tenant) = 1 ∷ to_be_bytes w32 tenant
request_body (Call command) = command_body command
request_body (GetStamped key columns) = 7 ∷ (string key ++ asked_columns columns)
request_body Settle = 6 ∷ []

-- the spelling of a request: its frame
abbrev pub spelling : Request → Bytes
spelling request = frame (request_body request)

-- the lengths of a command's fields fit their bytes
abbrev pub CommandFits : Command → Type 0
CommandFits (Get key columns) = (length key < 2 ^ 16) × (length columns < 2 ^ 8)
CommandFits (Put key cs) = (length key < 2 ^ 16) × (length cs < 2 ^ 8) × All (λ c. length c.1 < 2 ^ 16) cs
CommandFits (PutIf key stamp cs) = (length key < 2 ^ 16) × (stamp < 2 ^ 64) × (length cs < 2 ^ 8) × All (λ c. length c.1 < 2 ^ 16) cs
CommandFits (Remove key) = length key < 2 ^ 16
CommandFits (Scan from after count columns) = (length from < 2 ^ 16) × (length columns < 2 ^ 8)

-- and so do a request's
abbrev pub RequestFits : Request → Type 0
RequestFits (Open tenant) = tenant < 2 ^ 32
RequestFits (Call command) = CommandFits command
RequestFits (GetStamped key columns) = (length key < 2 ^ 16) × (length columns < 2 ^ 8)
RequestFits Settle = Unit {0}

-- a request that has a spelling: its fields fit, and its body has at most 32,768 bytes
pub record IsSpellable (request : Request) : Type 0 where
  pub fields : RequestFits request
  pub short : length (request_body request) ≤ 32768

-- the body of a request that has a spelling
abbrev pub IsRequestBody : Bytes → Type 0
IsRequestBody bytes = (request : Request) × IsSpellable request × (bytes ≡ request_body request)
