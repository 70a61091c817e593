-- A row is read, changed, and put back if its stamp still stands; and a string that is taken.
use Rattle.std.specs.Prelude.{◌≡◌, ℕ, zero, suc, ◌<◌, ◌⊎◌, Option, Some, None}
use Rattle.mt_rows.specs.{Rows.Bytes, Stamps.Stamped, declared.command.Command.Command, declared.reply.Reply.Reply}
use Rattle.mt_rows.specs.declared.command.Command.TheVariants as commands
use Rattle.mt_rows.specs.declared.reply.Reply.TheVariants as replies
use Rattle.mt_caller.specs.Exchanges.{CallerRelation}
use Rattle.mt_resp.specs.{Making.get, Edits.edited_of, Shapes.told_of, declared.{asked.Edit.Edit, edits.Edited.Edited, told.Told.Told}}
use Rattle.mt_resp.specs.declared.edits.Edited.TheVariants as edits
use Rattle.mt_resp.specs.declared.told.Told.TheVariants as told
use Rattle.mt_resp.specs.declared.told.Failure.TheVariants as failures
use Rattle.mt_resp.specs.declared.told.Shape.TheVariants as shapes
use Rattle.mt_resp_commands.specs.{declared.link.{Link.Link, Said.Said, Said.TheVariants.{Replied, Refused}}, Links.{IsSaid, refused}}

-- the stamp of a row that was found, 0 if none was
abbrev pub stamp_of : Option Stamped → ℕ
stamp_of None = 0
stamp_of (Some row) = row.stamp

-- what is told of a put that an edit asked for; nothing if the row was changed meanwhile
abbrev pub put_told : Told → Said → Option Told
put_told one (Replied replies.New) = Some one
put_told one (Replied replies.Replaced) = Some one
put_told one (Replied (replies.Stale stamp)) = None
put_told one (Replied replies.Full) = Some (told.Failed failures.OverQuota)
put_told one (Replied replies.NoMemory) = Some (told.Failed failures.NoMemory)
put_told one (Replied reply) = Some (told.Failed failures.Strange)
put_told one (Refused refusal) = Some (refused refusal)

-- What an edit asks for is put, if the row still has this stamp, or nothing is.
abbrev pub IsEdited : {S : Type 0} → CallerRelation S → Link → S → Bytes → ℕ → Edited → Option Told → Link → S → Type 0
IsEdited exchanges link old key stamp (edits.Kept one) done next new = (done ≡ Some one) × (next ≡ link) × (new ≡ old)
IsEdited exchanges link old key stamp (edits.Put change one) done next new =
    (said : Said) × IsSaid exchanges link old (commands.PutIf key stamp change) said next new × (done ≡ put_told one said)

-- The row of a key was looked up, and is changed as the edit says.
abbrev pub IsEditedThen : {S : Type 0} → CallerRelation S → Said → Link → S → Bytes → Edit → Option Told → Link → S → Type 0
IsEditedThen exchanges (Replied (replies.Found row)) link old key edit done next new = IsEdited exchanges link old key row.stamp (edited_of edit (Some row)) done next new
IsEditedThen exchanges (Replied replies.Absent) link old key edit done next new = IsEdited exchanges link old key 0 (edited_of edit None) done next new
IsEditedThen exchanges (Replied replies.NoMemory) link old key edit done next new = (done ≡ Some (told.Failed failures.NoMemory)) × (next ≡ link) × (new ≡ old)
IsEditedThen exchanges (Replied reply) link old key edit done next new = (done ≡ Some (told.Failed failures.Strange)) × (next ≡ link) × (new ≡ old)
IsEditedThen exchanges (Refused refusal) link old key edit done next new = (done ≡ Some (refused refusal)) × (next ≡ link) × (new ≡ old)

-- One round of a change: what is told at its end, or nothing if the row was changed meanwhile.
abbrev pub IsTried : {S : Type 0} → CallerRelation S → Link → S → Bytes → Edit → Option Told → Link → S → Type 0
IsTried {S = S} exchanges link old key edit done next new =
    (said : Said) × (between : Link) × (mid : S) × IsSaid exchanges link old (get key) said between mid × IsEditedThen exchanges said between mid key edit done next new

-- so many rounds, each of which was late: the row was changed meanwhile
abbrev pub AreLate : {S : Type 0} → ℕ → CallerRelation S → Link → S → Bytes → Edit → Link → S → Type 0
AreLate zero exchanges link old key edit next new = (next ≡ link) × (new ≡ old)
AreLate {S = S} (suc n) exchanges link old key edit next new =
    (between : Link) × (mid : S) × AreLate n exchanges link old key edit between mid × IsTried exchanges between mid key edit None next new

-- A change: rounds that were late, and one that was not. After 64 that were late the client is told that it is busy.
abbrev pub IsChanged : {S : Type 0} → CallerRelation S → Link → S → Bytes → Edit → Told → Link → S → Type 0
IsChanged {S = S} exchanges link old key edit one next new =
    (late : ℕ) × (between : Link) × (mid : S) × AreLate late exchanges link old key edit between mid
    × (((late < 64) × IsTried exchanges between mid key edit (Some one) next new)
    ⊎ ((late ≡ 64) × (one ≡ told.Failed failures.Busy) × (next ≡ between) × (new ≡ mid)))

-- what is told of a string that was found, when its row was to be removed
abbrev pub taken_told : Stamped → Said → Told
taken_told row (Replied replies.Removed) = told.Value row
taken_told row (Replied replies.Absent) = told.Nil
taken_told row (Replied reply) = told_of shapes.Removed reply
taken_told row (Refused refusal) = refused refusal

-- the row of a key was looked up, and is removed if it was found
abbrev pub IsTakenThen : {S : Type 0} → CallerRelation S → Said → Link → S → Bytes → Told → Link → S → Type 0
IsTakenThen exchanges (Replied (replies.Found row)) link old key one next new =
    (said : Said) × IsSaid exchanges link old (commands.Remove key) said next new × (one ≡ taken_told row said)
IsTakenThen exchanges (Replied reply) link old key one next new = (one ≡ told_of shapes.Value reply) × (next ≡ link) × (new ≡ old)
IsTakenThen exchanges (Refused refusal) link old key one next new = (one ≡ refused refusal) × (next ≡ link) × (new ≡ old)

-- A string is got, and then its row is removed. That is no single step.
abbrev pub IsTaken : {S : Type 0} → CallerRelation S → Link → S → Bytes → Told → Link → S → Type 0
IsTaken {S = S} exchanges link old key one next new =
    (said : Said) × (between : Link) × (mid : S) × IsSaid exchanges link old (get key) said between mid × IsTakenThen exchanges said between mid key one next new
