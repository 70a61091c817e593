-- How a session ends, and what it is as a whole.
use Rattle.std.specs.Prelude.{◌≡◌, ◌≢◌, ◌-◌, ◌≤◌, ◌^◌, length, Bool, false, ◌⊎◌, [], ◌++◌, Option, Result, Ok, Err}
use Rattle.std.specs.Io.KnownBytes.{Consumes, Appends, IsAtEnd}
use Rattle.mt_rows.specs.{Rows.Bytes, declared.refusal.Refusal.TheVariants.BadFrame}
use Rattle.mt_wire.specs.{declared.message.Request.Request, declared.message.WireReply.WireReply, Requests.{spelling, IsSpellable}, Fronts.{IsPartial, IsBad}}
use Rattle.mt_wire.specs.Replies.{reply_spelling}
use Rattle.mt_caller.specs.Exchanges.{CallerRelation}
use Rattle.mt_session.specs.{declared.ended.Ended.Ended, declared.ended.ServeFault.ServeFault, Sessions.{refused, IsReply, IsStuck, Transcript}}
use Rattle.mt_session.specs.declared.ended.Ended.TheVariants as ends
use Rattle.mt_session.specs.declared.ended.ServeFault.TheVariants as faults

-- the reply to what is no frame of a request
abbrev pub bad_frame_reply : Bytes
bad_frame_reply = reply_spelling (refused BadFrame)

-- what was written is a beginning of the text
abbrev pub IsBeginning : Bytes → Bytes → Type 0
IsBeginning written text = (lost : Bytes) × (written ++ lost ≡ text)

-- the request at the front of rest has a reply that is not in the text, or is stuck; the caller is new since then
pub record IsUntold {S : Type 0} (exchanges : CallerRelation S) (was_open : Bool) (old : S) (rest : Bytes) (new : S) : Type 0 where
  pub request : Request
  pub more : Bytes
  pub fits : IsSpellable request
  pub spelled : rest ≡ spelling request ++ more
  pub run : ((reply : WireReply) × (now_open : Bool) × IsReply exchanges was_open old request reply now_open new) ⊎ IsStuck exchanges was_open old request new

-- the caller stayed as it was, or was asked for the request at the front of rest, and for nothing behind that
abbrev pub AsksAtMostOne : {S : Type 0} → CallerRelation S → Bool → S → Bytes → S → Type 0
AsksAtMostOne exchanges was_open old rest new = (new ≡ old) ⊎ IsUntold exchanges was_open old rest new

-- How a session ends that has the text for all requests before rest. The reader has left; the caller was mid then,
-- and is new.
-- Closed: at the end of the input, where nothing is left over, with the text written.
-- Cut: at the end of the input, where less than a frame is left over, with the text written and no reply to that.
-- Refused: where no frame of a request is next, with the text and then the reply to that written, and nothing behind.
-- Read: where less than a frame is left over, with the text written.
-- Memory: with the text written; the caller may have been asked for one request more.
-- Write: with a beginning of the text, or of the text and the reply to what is no frame; likewise one request more.
abbrev pub EndsAs : {S : Type 0} → CallerRelation S → Result Ended ServeFault → Option Bytes → Bytes → Bytes → Bytes → Bool → S → S → Type 0
EndsAs exchanges (Ok ends.Closed) left rest text written is_open mid new = IsAtEnd left × (rest ≡ []) × (written ≡ text) × (new ≡ mid)
EndsAs exchanges (Ok ends.Cut) left rest text written is_open mid new = IsAtEnd left × (rest ≢ []) × IsPartial rest × (written ≡ text) × (new ≡ mid)
EndsAs exchanges (Ok ends.Refused) left rest text written is_open mid new = IsBad rest × (written ≡ text ++ bad_frame_reply) × (new ≡ mid)
EndsAs exchanges (Err faults.Read) left rest text written is_open mid new = IsPartial rest × (written ≡ text) × (new ≡ mid)
EndsAs exchanges (Err faults.Write) left rest text written is_open mid new =
    (IsBeginning written text ⊎ (IsBad rest × IsBeginning written (text ++ bad_frame_reply))) × AsksAtMostOne exchanges is_open mid rest new
EndsAs exchanges (Err faults.Memory) left rest text written is_open mid new = (written ≡ text) × AsksAtMostOne exchanges is_open mid rest new

-- Why it ended so. Read: the reader failed, or gave 2^64 - 1 bytes. Write: the writer failed. Of the others nothing
-- is said here; that of Memory is a growth that was refused, or a command that is stuck.
abbrev pub IsCause : Result Ended ServeFault → Bytes → Type 0 → Type 0 → Type 0
IsCause (Ok ended) read reader_failed writer_failed = Unit {0}
IsCause (Err faults.Read) read reader_failed writer_failed = reader_failed ⊎ (2 ^ 64 - 1 ≤ length read)
IsCause (Err faults.Write) read reader_failed writer_failed = writer_failed
IsCause (Err faults.Memory) read reader_failed writer_failed = Unit {0}

-- A session: what it read is what the reader lost, what it wrote is what the writer gained, and that is the text for
-- what it read, as far as its end says. The reader had the bytes before and has those left; the writer held some, and
-- holds; each where it tells. The caller was old, and is new.
pub record Serves {S : Type 0} (exchanges : CallerRelation S) (before left held holds : Option Bytes) (reader_failed writer_failed : Type 0) (old new : S) (result : Result Ended ServeFault) : Type 0 where
  -- all that was read, and all that was written
  pub read : Bytes
  pub written : Bytes
  -- what was read behind the last request of the transcript, and the replies to its requests
  pub rest : Bytes
  pub text : Bytes
  -- behind that request: whether the session is open, and the caller's state
  pub is_open : Bool
  pub mid : S
  pub consumed : Consumes before left read
  pub appended : Appends held holds written
  pub transcript : Transcript exchanges read false old rest is_open mid text
  pub ends : EndsAs exchanges result left rest text written is_open mid new
  pub cause : IsCause result read reader_failed writer_failed
