-- What a session tells for the commands that its bytes spell.
use Rattle.std.specs.{Prelude.{◌≡◌, ℕ, Bool, true, false, List, [], ◌∷◌, Result, Ok}, List.flat_map}
use Rattle.mt_caller.specs.Exchanges.{CallerRelation}
use Rattle.mt_resp.specs.{Grammar.Bytes, Commands.command_at, Asking.meaning, Replies.told_text, declared.asked.Asked.Asked}
use Rattle.mt_resp.specs.declared.asked.Asked.TheVariants as asks
use Rattle.mt_resp.specs.declared.told.Told.TheVariants as told
use Rattle.mt_resp_commands.specs.{declared.link.Link.Link, Knowing.KnowledgeRelation, Answers.IsAnswer}

-- whether it asks for the end of the connection
abbrev pub is_end : Asked → Bool
is_end asks.Quit = true
is_end asks.Close = true
is_end asked = false

-- the state of a caller that nobody else asks, between two commands
abbrev pub Same : {S : Type 0} → S → S → Type 0
Same old new = new ≡ old

module _ {S : Type 0} (exchanges : CallerRelation S) (knows : KnowledgeRelation S) (rests : S → S → Type 0) where
  -- The texts for the commands at the front of the bytes, one each, in their order. Each command is read, and answered in its place; none
  -- asks for the end. Before each of them, and after the last one, the caller may become what it may while the session rests.
  abbrev pub Run : Bytes → Link → S → List Bytes → Bytes → Link → S → Type 0
  Run bytes link old [] rest next new = (rest ≡ bytes) × (next ≡ link) × rests old new
  Run bytes link old (text ∷ texts) rest next new =
      (words : List Bytes) × (more : Bytes) × (from : S) × (between : Link) × (mid : S) × (command_at bytes ≡ Ok (words, more)) × (is_end (meaning words) ≡ false)
      × rests old from × IsAnswer exchanges knows link from (meaning words) text between mid × Run more between mid texts rest next new

  -- The session's text for some bytes, of which it leaves a rest. The connection had the link before and has the next one then; the caller was
  -- old, and is new.
  pub record Transcript (bytes : Bytes) (link : Link) (old : S) (rest : Bytes) (next : Link) (new : S) (text : Bytes) : Type 0 where
    pub texts : List Bytes
    pub told : text ≡ flat_map (λ t. t) texts
    pub run : Run bytes link old texts rest next new
