-- The one spelling of each reply.
use Rattle.std.specs.{Prelude.{◌≡◌, ℕ, ◌+◌, ◌<◌, ◌≤◌, ◌^◌, [], ◌∷◌, ◌++◌, length}, List.{flat_map, All}, Int.{w64, to_be_bytes}}
use Rattle.mt_rows.specs.{Rows.{Bytes, Columns, IsRow}, Limits.ArePairs, Stamps.{Stamped, unstamped}}
use Rattle.mt_fields.specs.Fields.{string}
use Rattle.mt_row_fields.specs.Format.{row_bytes}
use Rattle.mt_wire.specs.{declared.message.WireReply.WireReply, declared.message.WireReply.TheVariants.{Opened, Told, Settled, Refused}, Frames.frame}
use Rattle.mt_wire.specs.declared.message.Shown.TheVariants.{Absent, FoundStamped, Found, Full, New, NoMemory, Pairs, Removed, Replaced, Stale}
use Rattle.mt_wire.specs.declared.message.Shown.{Shown}

-- a shown pair: its key and its row
abbrev pub shown_pair : Bytes × Columns → Bytes
shown_pair p = string p.0 ++ row_bytes p.1

-- a pair with its stamp, as it is shown
abbrev pub shown_stamped : Bytes × Stamped → Bytes
shown_stamped p = shown_pair (unstamped p)

-- the body of the frame of a reply to a command
abbrev pub told_body : Shown → Bytes
told_body Absent = 1 ∷ []
told_body (Found columns) = 2 ∷ row_bytes columns
told_body (FoundStamped row) = 10 ∷ (to_be_bytes w64 row.stamp ++ row_bytes row.row)
told_body New = 3 ∷ []
told_body Replaced = 4 ∷ []
told_body Removed = 5 ∷ []
told_body (Pairs pairs) = 6 ∷ length pairs ∷ flat_map shown_pair pairs
told_body Full = 8 ∷ []
told_body NoMemory = 9 ∷ []
told_body (Stale stamp) = 11 ∷ to_be_bytes w64 stamp

-- the body of a reply's frame
abbrev pub reply_body : WireReply → Bytes
reply_body Opened = 0 ∷ []
reply_body (Told reply) = told_body reply
reply_body (Settled number) = 7 ∷ to_be_bytes w64 number
reply_body (Refused number) = (128 + number) ∷ []

-- the spelling of a reply: its frame
abbrev pub reply_spelling : WireReply → Bytes
reply_spelling reply = frame (reply_body reply)

-- a refusal's number has seven bits, and is not 0
abbrev pub IsRefusalNumber : ℕ → Type 0
IsRefusalNumber number = (1 ≤ number) × (number ≤ 127)

-- a reply to a command keeps the limits of its type: those of a row, and of a scan's pairs
abbrev pub ToldFits : Shown → Type 0
ToldFits (Found columns) = IsRow columns
ToldFits (FoundStamped row) = (row.stamp < 2 ^ 64) × IsRow row.row
ToldFits (Stale stamp) = stamp < 2 ^ 64
ToldFits (Pairs pairs) = ArePairs pairs × All (λ p. IsRow p.1) pairs
ToldFits _ = Unit {0}

-- a reply that has a spelling: each reply of the program, since these limits stand in its types
abbrev pub IsSpellableReply : WireReply → Type 0
IsSpellableReply Opened = Unit {0}
IsSpellableReply (Told reply) = ToldFits reply
IsSpellableReply (Settled number) = number < 2 ^ 64
IsSpellableReply (Refused number) = IsRefusalNumber number

-- the body of a reply that has a spelling
abbrev pub IsReplyBody : Bytes → Type 0
IsReplyBody bytes = (reply : WireReply) × IsSpellableReply reply × (bytes ≡ reply_body reply)
