-- What a session tells for the requests that its bytes spell.
use Rattle.std.specs.{Prelude.{◌≡◌, ℕ, Bool, true, false, List, [], ◌∷◌, ◌++◌, Option, Some, None, Result, Ok, Err, ◌⊎◌}, List.{flat_map, AllByRecursion}}
use Rattle.mt_rows.specs.{Rows.Bytes, Refusals.number_of, declared.reply.Reply.Reply, declared.refusal.Refusal.Refusal}
use Rattle.mt_rows.specs.{declared.refusal.Refusal.TheVariants.{NotOpen, OpenTwice}, declared.command.Command.TheVariants.Get, declared.command.Command.Command}
use Rattle.mt_wire.specs.{declared.message.Request.Request, declared.message.Request.TheVariants.{Open, Call, Settle, GetStamped}}
use Rattle.mt_wire.specs.{declared.message.WireReply.WireReply, declared.message.WireReply.TheVariants.{Opened, Told, Settled, Refused}}
use Rattle.mt_wire.specs.{Requests.{spelling, IsSpellable}, Replies.reply_spelling, Asked.shown_as}
use Rattle.mt_caller.specs.{declared.caller.CallerFault.CallerFault, Exchanges.{Opens, Calls, Settles, CallerRelation}}
use Rattle.mt_caller.specs.declared.caller.CallerFault.TheVariants as callers

-- the reply that refuses for this reason
abbrev pub refused : Refusal → WireReply
refused refusal = Refused (number_of refusal)

-- the reply to an Open, by the refusal that the caller answered, or none
abbrev pub open_told : Option Refusal → WireReply
open_told None = Opened
open_told (Some refusal) = refused refusal

-- whether the session is open after an Open that was so answered
abbrev pub open_after : Option Refusal → Bool
open_after None = true
open_after (Some refusal) = false

-- the reply to a command, with the stamp of the row found or without, by what the caller answered; none where it is stuck
abbrev pub call_told : Bool → Result Reply CallerFault → Option WireReply
call_told stamps (Ok reply) = Some (Told (shown_as stamps reply))
call_told stamps (Err (callers.Refused refusal)) = Some (refused refusal)
call_told stamps (Err callers.Stuck) = None

-- a command of an open session, whose reply shows the stamp of the row found or doesn't
abbrev pub IsCall : {S : Type 0} → CallerRelation S → S → Command → Bool → WireReply → Bool → S → Type 0
IsCall exchanges old command stamps reply now_open new =
    (answer : Result Reply CallerFault) × exchanges old (Calls command answer) new × (call_told stamps answer ≡ Some reply) × (now_open ≡ true)

-- the reply to a Settle, by what the caller answered
abbrev pub settle_told : Result ℕ Refusal → WireReply
settle_told (Ok number) = Settled number
settle_told (Err refusal) = refused refusal

-- The reply to one request, of a session that is open or not, over a caller in the state old; then it is open or
-- not, and the caller is new. A session that is not open asks its caller to open the tenant of an Open, and
-- refuses all else with NotOpen; an open one refuses an Open with OpenTwice, and asks its caller for all else.
abbrev pub IsReply : {S : Type 0} → CallerRelation S → Bool → S → Request → WireReply → Bool → S → Type 0
IsReply exchanges false old (Open tenant) reply now_open new =
    (refusal : Option Refusal) × exchanges old (Opens tenant refusal) new × (reply ≡ open_told refusal) × (now_open ≡ open_after refusal)
IsReply exchanges false old (Call command) reply now_open new = (reply ≡ refused NotOpen) × (now_open ≡ false) × (new ≡ old)
IsReply exchanges false old (GetStamped key columns) reply now_open new = (reply ≡ refused NotOpen) × (now_open ≡ false) × (new ≡ old)
IsReply exchanges false old Settle reply now_open new = (reply ≡ refused NotOpen) × (now_open ≡ false) × (new ≡ old)
IsReply exchanges true old (Open tenant) reply now_open new = (reply ≡ refused OpenTwice) × (now_open ≡ true) × (new ≡ old)
IsReply exchanges true old (Call command) reply now_open new = IsCall exchanges old command false reply now_open new
IsReply exchanges true old (GetStamped key columns) reply now_open new = IsCall exchanges old (Get key columns) true reply now_open new
IsReply exchanges true old Settle reply now_open new =
    (answer : Result ℕ Refusal) × exchanges old (Settles answer) new × (reply ≡ settle_told answer) × (now_open ≡ true)

-- a command of an open session that the caller could not finish: it has no reply
abbrev pub IsStuck : {S : Type 0} → CallerRelation S → Bool → S → Request → S → Type 0
IsStuck exchanges true old (Call command) new = exchanges old (Calls command (Err callers.Stuck)) new
IsStuck exchanges true old (GetStamped key columns) new = exchanges old (Calls (Get key columns) (Err callers.Stuck)) new
IsStuck exchanges was_open old request new = ⊥

-- the replies to requests, one each, in their order
abbrev pub AreReplies : {S : Type 0} → CallerRelation S → Bool → S → List Request → List WireReply → Bool → S → Type 0
AreReplies exchanges was_open old [] [] now_open new = (now_open ≡ was_open) × (new ≡ old)
AreReplies {S = S} exchanges was_open old (request ∷ requests) (reply ∷ replies) now_open new =
    (mid_open : Bool) × (mid : S) × IsReply exchanges was_open old request reply mid_open mid × AreReplies exchanges mid_open mid requests replies now_open new
AreReplies exchanges was_open old [] (reply ∷ replies) now_open new = ⊥
AreReplies exchanges was_open old (request ∷ requests) [] now_open new = ⊥

-- The session's text: bytes are the spellings of requests and then rest, and text is the spellings of the replies
-- to these requests.
pub record Transcript {S : Type 0} (exchanges : CallerRelation S) (bytes : Bytes) (was_open : Bool) (old : S) (rest : Bytes) (now_open : Bool) (new : S) (text : Bytes) : Type 0 where
  pub requests : List Request
  pub replies : List WireReply
  -- each request is one that has a spelling
  pub each : AllByRecursion IsSpellable requests
  pub spelled : bytes ≡ flat_map spelling requests ++ rest
  pub told : text ≡ flat_map reply_spelling replies
  -- and has its reply, one and in its place
  pub run : AreReplies exchanges was_open old requests replies now_open new
