-- What one call of `answer` does, and one command of it.
use Rattle.std.specs.Prelude.{◌≡◌, ℕ, ◌<◌, ◌≤◌, ◌++◌, ◌⊎◌, true, false, List, length, drop, Option, Some, None, Result, Ok, Err}
use Rattle.mt_caller.specs.Exchanges.{CallerRelation}
use Rattle.mt_resp.specs.{Grammar.Bytes, Commands.command_at, Asking.meaning, Replies.told_text, Refused.failure_text}
use Rattle.mt_resp.specs.declared.{asked.Asked.Asked, stop.Fault.Fault}
use Rattle.mt_resp.specs.declared.asked.Asked.TheVariants as asks
use Rattle.mt_resp.specs.declared.told.Told.TheVariants as told
use Rattle.mt_resp.specs.declared.told.Failure.TheVariants as failures
use Rattle.mt_resp.specs.declared.stop.Stop.TheVariants as reads
use Rattle.mt_resp_commands.specs.{declared.link.Link.Link, Knowing.KnowledgeRelation, Links.{Asked as WasAsked, ButSettles}, Answers.IsAnswer}
use Rattle.mt_resp_session.specs.{declared.session.{Session.Session, Stop.Stop}, Transcripts.{Transcript, Same, is_end}}
use Rattle.mt_resp_session.specs.declared.session.Stop.TheVariants as stops

-- less than a command is there
abbrev pub IsPart : Bytes → Type 0
IsPart bytes = command_at bytes ≡ Err reads.Partial

-- no command begins so, and what is told of that
abbrev pub IsBad : Bytes → Bytes → Type 0
IsBad bytes text = (fault : Fault) × (command_at bytes ≡ Err (reads.Bad fault)) × (text ≡ failure_text (failures.Protocol fault))

-- the bytes begin with a command that asks for the end, and what is told of it
pub record IsEnd (bytes : Bytes) (text rest : Bytes) : Type 0 where
  pub words : List Bytes
  pub reads : command_at bytes ≡ Ok (words, rest)
  pub ends : ((meaning words ≡ asks.Quit) × (text ≡ told_text told.Fine)) ⊎ ((meaning words ≡ asks.Close) × (text ≡ told_text told.Nothing))

-- the bytes begin with a Settle, of so many bytes
pub record IsAtSettle (bytes : Bytes) (len : ℕ) : Type 0 where
  pub words : List Bytes
  pub reads : command_at bytes ≡ Ok (words, drop len bytes)
  pub asks : meaning words ≡ asks.Settle
  pub some : 0 < len
  pub inside : len ≤ length bytes

module _ {S : Type 0} (exchanges : CallerRelation S) (knows : KnowledgeRelation S) where
  -- Commands at the front of the bytes are answered, and their texts come after what the output held.
  pub record Answers (bytes : Bytes) (link : Link) (old : S) (held rest : Bytes) (next : Link) (new : S) (holds : Bytes) : Type 0 where
    pub text : Bytes
    pub transcript : Transcript exchanges knows Same bytes link old rest next new text
    pub told : holds ≡ held ++ text

  -- What a call of `answer` does: commands are answered, and it stops for this.
  -- Waits: less than a command is left. Goes: as far as the call is to go. Settles: a Settle is next, which isn't answered.
  -- Quits: the next command asked for the end, and was told of it. Refused: no command is next, and that was told.
  -- Memory: the caller may have been asked for one command more, which has no answer.
  abbrev pub IsAnswered : Bytes → Session → S → Bytes → Stop → Bytes → Session → S → Bytes → Type 0
  IsAnswered bytes old_session old held stops.Waits rest session new holds =
      Answers bytes old_session.link old held rest session.link new holds × (session.settle ≡ 0) × IsPart rest
  IsAnswered bytes old_session old held stops.Goes rest session new holds =
      Answers bytes old_session.link old held rest session.link new holds × (session.settle ≡ 0)
  IsAnswered bytes old_session old held stops.Settles rest session new holds =
      Answers bytes old_session.link old held rest session.link new holds × IsAtSettle rest session.settle
  IsAnswered bytes old_session old held stops.Quits rest session new holds =
      (left : Bytes) × (between : Bytes) × (text : Bytes) × Answers bytes old_session.link old held left session.link new between × IsEnd left text rest × (holds ≡ between ++ text)
  IsAnswered bytes old_session old held stops.Refused rest session new holds =
      (between : Bytes) × (text : Bytes) × Answers bytes old_session.link old held rest session.link new between × IsBad rest text × (holds ≡ between ++ text)
  IsAnswered bytes old_session old held stops.Memory rest session new holds =
      (left : Bytes) × (between : Link) × (mid : S) × Answers bytes old_session.link old held left between mid holds × WasAsked (ButSettles exchanges) mid new

  -- What is done with the command at the front: it is answered, or the call stops for it.
  abbrev pub IsFront : Bytes → Session → S → Bytes → Option Stop → Bytes → Session → S → Bytes → Type 0
  IsFront bytes old_session old held None rest session new holds =
      (words : List Bytes) × (text : Bytes) × (command_at bytes ≡ Ok (words, rest)) × (is_end (meaning words) ≡ false)
      × IsAnswer exchanges knows old_session.link old (meaning words) text session.link new × (holds ≡ held ++ text) × (length rest < length bytes) × (session.settle ≡ old_session.settle)
  IsFront bytes old_session old held (Some stops.Goes) rest session new holds = ⊥
  IsFront bytes old_session old held (Some stops.Waits) rest session new holds =
      (rest ≡ bytes) × (session ≡ old_session) × (new ≡ old) × (holds ≡ held) × IsPart bytes
  IsFront bytes old_session old held (Some stops.Settles) rest session new holds =
      (rest ≡ bytes) × (session.link ≡ old_session.link) × (new ≡ old) × (holds ≡ held) × IsAtSettle bytes session.settle
  IsFront bytes old_session old held (Some stops.Quits) rest session new holds =
      (text : Bytes) × (session.link ≡ old_session.link) × (new ≡ old) × IsEnd bytes text rest × (holds ≡ held ++ text)
  IsFront bytes old_session old held (Some stops.Refused) rest session new holds =
      (text : Bytes) × (rest ≡ bytes) × (session.link ≡ old_session.link) × (new ≡ old) × IsBad bytes text × (holds ≡ held ++ text)
  IsFront bytes old_session old held (Some stops.Memory) rest session new holds = (holds ≡ held) × WasAsked (ButSettles exchanges) old new

  -- The answer to what was asked was put, and the call goes on or ends with it; or memory ran out, and nothing was put.
  abbrev pub IsPut : Link → S → Asked → Bytes → Option Stop → Link → S → Bytes → Type 0
  IsPut link old asked held None next new holds =
      (text : Bytes) × (is_end asked ≡ false) × IsAnswer exchanges knows link old asked text next new × (holds ≡ held ++ text)
  IsPut link old asked held (Some stops.Quits) next new holds =
      (text : Bytes) × (is_end asked ≡ true) × IsAnswer exchanges knows link old asked text next new × (holds ≡ held ++ text)
  IsPut link old asked held (Some stops.Memory) next new holds = (holds ≡ held) × WasAsked (ButSettles exchanges) old new
  IsPut link old asked held (Some stop) next new holds = ⊥

-- what is told of bytes that are no command was put, or memory ran out
abbrev pub IsBadPut : Fault → Bytes → Stop → Bytes → Type 0
IsBadPut fault held stops.Refused holds = holds ≡ held ++ failure_text (failures.Protocol fault)
IsBadPut fault held stops.Memory holds = holds ≡ held
IsBadPut fault held stop holds = ⊥
