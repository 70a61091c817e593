-- What a call of `answer` does: the requests that it answers, and why it stops.
use Rattle.std.specs.Prelude.{◌≡◌, ℕ, Bool, ◌++◌, ◌⊎◌, length, Option, Result, Ok, Err}
use Rattle.mt_rows.specs.Rows.{Bytes}
use Rattle.mt_streams.specs.Buffering.{Buffers, WritesFront}
use Rattle.mt_wire.specs.Fronts.{IsPartial, IsBad}
use Rattle.mt_caller.specs.Exchanges.{CallerRelation}
use Rattle.mt_session.specs.{declared.answering.Stop.Stop, declared.answering.Stop.TheVariants.{Waits, Full, Refused, Memory}, declared.ended.ServeFault.ServeFault}
use Rattle.mt_session.specs.{Sessions.Transcript, Endings.{AsksAtMostOne, bad_frame_reply}}
use Rattle.mt_session.specs.declared.ended.ServeFault.TheVariants as faults

-- a transcript of so many requests
pub record TranscriptOf {S : Type 0} (exchanges : CallerRelation S) (count : ℕ) (bytes : Bytes) (was_open : Bool) (old : S) (rest : Bytes) (now_open : Bool) (new : S) (text : Bytes) : Type 0 where
  pub transcript : Transcript exchanges bytes was_open old rest now_open new text
  pub many : length transcript.requests ≡ count

-- A call answers so many requests of the input, and stops. The writer held some bytes, and holds; the output kept some,
-- and keeps. The replies come after what the output kept, but for those that the writer failed to take.
-- Waits: the rest is less than a frame.
-- Full: of the rest nothing is said.
-- Refused: the rest begins with no frame of a request, and the reply to that comes last.
-- Memory: bytes is what the answered requests left of the input, in a session that was mid_open and over a caller in the
-- state mid. The caller may have been asked for one request more.
-- Write: a front was written of what the output kept and of the replies, or of these and the reply to no frame.
abbrev pub IsAnswered : {S : Type 0} → CallerRelation S → ℕ → Bytes → Bool → S → Option Bytes → Bytes → Result Stop ServeFault → Bytes → Bool → S → Option Bytes → Bytes → Type 0
IsAnswered exchanges count input was_open old held kept (Ok Waits) rest now_open new holds keeps =
    (text : Bytes) × TranscriptOf exchanges count input was_open old rest now_open new text × Buffers held holds kept keeps text × IsPartial rest
IsAnswered exchanges count input was_open old held kept (Ok Full) rest now_open new holds keeps =
    (text : Bytes) × TranscriptOf exchanges count input was_open old rest now_open new text × Buffers held holds kept keeps text
IsAnswered exchanges count input was_open old held kept (Ok Refused) rest now_open new holds keeps =
    (text : Bytes) × TranscriptOf exchanges count input was_open old rest now_open new text × Buffers held holds kept keeps (text ++ bad_frame_reply) × IsBad rest
IsAnswered {S = S} exchanges count input was_open old held kept (Ok Memory) rest now_open new holds keeps =
    (text : Bytes) × (bytes : Bytes) × (mid_open : Bool) × (mid : S) × TranscriptOf exchanges count input was_open old bytes mid_open mid text
    × Buffers held holds kept keeps text × AsksAtMostOne exchanges mid_open mid bytes new
IsAnswered exchanges count input was_open old held kept (Err fault) rest now_open new holds keeps =
    (fault ≡ faults.Write) × (text : Bytes) × TranscriptOf exchanges count input was_open old rest now_open new text
    × (WritesFront held holds (kept ++ text) ⊎ (IsBad rest × WritesFront held holds (kept ++ (text ++ bad_frame_reply))))
