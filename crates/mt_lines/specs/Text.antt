-- How answers are written.
use Rattle.std.specs.{Prelude.{◌≡◌, ℕ, ◌+◌, nat_lt, Bool, true, false, if◌then◌else◌, List, [], ◌∷◌, ◌++◌, length, codes, decimal, slice_get}, Option.unwrap_or}
use Rattle.hex.specs.Hex.{encode_lower}
use Rattle.mt_rows.specs.{declared.command.Command.Command, declared.command.Command.TheVariants.{Get, Put, PutIf, Remove, Scan}, declared.reply.Reply.Reply}
use Rattle.mt_rows.specs.{declared.reply.Reply.TheVariants.{Absent, Found, New, Replaced, Full, Removed, Stale, Pairs, NoMemory as NoMemoryReply}, Refusals.number_of, Stamps.Stamped}
use Rattle.mt_runs.specs.declared.event.Answer.{Answer}
use Rattle.mt_core.specs.{declared.shape.ShapeLine.ShapeLine, Shapes.line_text}
use Rattle.mt_lines.specs.declared.response.Response.{Response}
use Rattle.mt_lines.specs.declared.response.Response.TheVariants.{Taken, Refused, Begun, At, Moved, Again, NoMemory, Spent, NoSuch, Done, Shape, BadLine}
use Rattle.mt_operation.specs.Phases as phases

-- the columns that a command names, none for all
abbrev pub columns_asked : Command → List ℕ
columns_asked (Get key columns) = columns
columns_asked (Put key change) = []
columns_asked (PutIf key stamp change) = []
columns_asked (Remove key) = []
columns_asked (Scan from after count columns) = columns

-- the index of the column at a place of a row: the one asked for, or the place itself
abbrev pub index_at : List ℕ → ℕ → ℕ
index_at asked place = unwrap_or (slice_get asked place) place

-- a column: its index, and its bytes in digits
abbrev pub cell_text : ℕ → List ℕ → List ℕ
cell_text index column = decimal index ++ codes "=" ++ encode_lower column

-- what stands before the column at a place
abbrev pub comma : ℕ → List ℕ
comma place = if nat_lt 0 place then codes "," else []

-- the columns of a row from a place on
abbrev pub row_text : List ℕ → ℕ → List (List ℕ) → List ℕ
row_text asked place [] = []
row_text asked place (column ∷ columns) = comma place ++ cell_text (index_at asked place) column ++ row_text asked (place + 1) columns

-- a key, `-` for the empty one
abbrev pub key_text : List ℕ → List ℕ
key_text [] = codes "-"
key_text (byte ∷ bytes) = encode_lower (byte ∷ bytes)

-- pairs, each behind a space, without their rows' stamps
abbrev pub each_pair_text : List ℕ → List (List ℕ × Stamped) → List ℕ
each_pair_text asked [] = []
each_pair_text asked (pair ∷ pairs) = codes " " ++ key_text pair.0 ++ codes ":" ++ row_text asked 0 pair.1.row ++ each_pair_text asked pairs

-- the number of pairs, and the pairs
abbrev pub pairs_text : List ℕ → List (List ℕ × Stamped) → List ℕ
pairs_text asked pairs = codes "pairs " ++ decimal (length pairs) ++ each_pair_text asked pairs

-- what stands before a row that was found: its stamp too, or not
abbrev pub found_text : Bool → ℕ → List ℕ
found_text true stamp = codes "found@" ++ decimal stamp ++ codes " "
found_text false stamp = codes "found "

-- a reply, where these columns were asked for, with the stamp of a row that was found or without
abbrev pub reply_text : Bool → List ℕ → Reply → List ℕ
reply_text stamps asked Absent = codes "absent"
reply_text stamps asked (Found found) = found_text stamps found.stamp ++ row_text asked 0 found.row
reply_text stamps asked New = codes "new"
reply_text stamps asked Replaced = codes "replaced"
reply_text stamps asked Full = codes "full"
reply_text stamps asked Removed = codes "removed"
reply_text stamps asked (Stale stamp) = codes "stale " ++ decimal stamp
reply_text stamps asked (Pairs list) = pairs_text asked list
reply_text stamps asked NoMemoryReply = codes "memory"

-- the line of an operation that is done
abbrev pub answer_text : Bool → Answer → List ℕ
answer_text stamps answer = codes "done " ++ reply_text stamps (columns_asked answer.command) answer.reply ++ codes "\n"

-- the tree, line by line
abbrev pub tree_text : List ShapeLine → List ℕ
tree_text [] = []
tree_text (line ∷ lines) = line_text line ++ codes "\n" ++ tree_text lines

-- the text of a response
abbrev pub IsText : Response → List ℕ → Type 0
IsText Taken text = text ≡ codes "ok\n"
IsText (Refused refusal) text = text ≡ codes "refused E" ++ decimal (number_of refusal) ++ codes "\n"
IsText (Begun name) text = text ≡ codes "begun " ++ decimal name ++ codes "\n"
IsText (At phase) text = text ≡ codes "at " ++ phases.name_of phase ++ codes "\n"
IsText Moved text = text ≡ codes "moved\n"
IsText (Again name) text = text ≡ codes "again " ++ decimal name ++ codes "\n"
IsText NoMemory text = text ≡ codes "memory\n"
IsText Spent text = text ≡ codes "spent\n"
IsText NoSuch text = text ≡ codes "none\n"
IsText (Done answer stamps) text = text ≡ answer_text stamps answer
IsText (Shape lines) text = text ≡ tree_text lines.items
IsText BadLine text = text ≡ codes "bad line\n"

-- new is old with a text at its end, of which P holds
abbrev pub Adds : List ℕ → List ℕ → (List ℕ → Type 0) → Type 0
Adds old new P = (text : List ℕ) × P text × (new ≡ old ++ text)
