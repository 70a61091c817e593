-- The command at the front of the input, and commands that were answered before one for which the call stops.
use Rattle.std.proofs.Common.{◌≡◌, ◌<◌, ◌⊎◌, Bool, true, false, List, [], ◌++◌, length, Option, Some, None, Ok, inl, inr, refl, sym, ap, subst, ◌∙◌, append_assoc, append-nil}
use Rattle.mt_caller.specs.Exchanges.{CallerRelation}
use Rattle.mt_resp.specs.{Grammar.Bytes, Commands.command_at, Asking.meaning, Replies.told_text, declared.asked.Asked.Asked}
use Rattle.mt_resp_commands.specs.{declared.link.Link.Link, Knowing.KnowledgeRelation, Answers.IsAnswer}
use Rattle.mt_resp_session.specs.{declared.session.{Session.Session, Stop.Stop}, Transcripts.{Transcript, Same, is_end}, Answering.{Answers, IsFront, IsAnswered, IsPart, IsBad, IsAtSettle, IsEnd, IsPut}}
use Rattle.mt_resp.specs.declared.asked.Asked.TheVariants as asks
use Rattle.mt_resp.specs.declared.told.Told.TheVariants as told
use Rattle.mt_resp_session.specs.declared.session.Stop.TheVariants as stops
use Rattle.mt_resp_session.proofs.Transcripts.{transcript_none, transcript_one, transcript_then, same_joins}

ends_by : (asked : Asked) → is_end asked ≡ true → (asked ≡ asks.Quit) ⊎ (asked ≡ asks.Close)
ends_by asks.Quit e = inl refl
ends_by asks.Close e = inr refl
ends_by asked e = absurd cc

module _ {S : Type 0} (exchanges : CallerRelation S) (knows : KnowledgeRelation S) where
  -- what is told of a command that asks for the end
  quit_told : (link next : Link) (s t : S) (text : Bytes) → IsAnswer exchanges knows link s asks.Quit text next t → (text ≡ told_text told.Fine) × (next ≡ link) × (t ≡ s)
  quit_told link next s t text (inl (one, (o, l, n), e)) = (e ∙ ap told_text o, l, n)
  quit_told link next s t text (inr listed) = absurd listed

  close_told : (link next : Link) (s t : S) (text : Bytes) → IsAnswer exchanges knows link s asks.Close text next t → (text ≡ told_text told.Nothing) × (next ≡ link) × (t ≡ s)
  close_told link next s t text (inl (one, (o, l, n), e)) = (e ∙ ap told_text o, l, n)
  close_told link next s t text (inr listed) = absurd listed

  -- what was put for the command at the front
  pub front_put : (bytes rest held holds : Bytes) (words : List Bytes) (asked : Asked) (session : Session) (next : Link) (s t : S) (result : Option Stop)
      → command_at bytes ≡ Ok (words, rest) → asked ≡ meaning words → length rest < length bytes
      → IsPut exchanges knows session.link s asked held result next t holds
      → IsFront exchanges knows bytes session s held result rest (record session { link = next }) t holds
  front_put bytes rest held holds words asked session next s t None reads means less (text, goes, answer, told) =
      (words, text, reads, ap is_end (sym means) ∙ goes, subst (λ (x : Asked). IsAnswer exchanges knows session.link s x text next t) means answer, told, less, refl)
  front_put bytes rest held holds words asked session next s t (Some stops.Quits) reads means less (text, ends, answer, put) =
      elim (ends_by asked ends) [
        | inl quits ↦
            let (e, l, n) = quit_told session.link next s t text (subst (λ (x : Asked). IsAnswer exchanges knows session.link s x text next t) quits answer) in
            (text, l, n, record { words = words; reads = reads; ends = inl (sym means ∙ quits, e) }, put)
        | inr closes ↦
            let (e, l, n) = close_told session.link next s t text (subst (λ (x : Asked). IsAnswer exchanges knows session.link s x text next t) closes answer) in
            (text, l, n, record { words = words; reads = reads; ends = inr (sym means ∙ closes, e) }, put)
      ]
  front_put bytes rest held holds words asked session next s t (Some stops.Memory) reads means less (same, was) = (same, was)
  front_put bytes rest held holds words asked session next s t (Some stops.Waits) reads means less put = absurd put
  front_put bytes rest held holds words asked session next s t (Some stops.Goes) reads means less put = absurd put
  front_put bytes rest held holds words asked session next s t (Some stops.Settles) reads means less put = absurd put
  front_put bytes rest held holds words asked session next s t (Some stops.Refused) reads means less put = absurd put

  -- nothing is answered
  pub answers_none : (bytes : Bytes) (link : Link) (s : S) (held : Bytes) → Answers exchanges knows bytes link s held bytes link s held
  answers_none bytes link s held = record { text = []; transcript = transcript_none exchanges knows Same bytes link s s refl; told = sym (append-nil held) }

  -- one command more is answered
  pub answers_one : (bytes mid rest held between holds text : Bytes) (words : List Bytes) (link n next : Link) (s m t : S)
      → Answers exchanges knows bytes link s held mid n m between
      → command_at mid ≡ Ok (words, rest) → is_end (meaning words) ≡ false → IsAnswer exchanges knows n m (meaning words) text next t → holds ≡ between ++ text
      → Answers exchanges knows bytes link s held rest next t holds
  answers_one bytes mid rest held between holds text words link n next s m t p reads goes answer told = record {
    text = p.text ++ text;
    transcript = transcript_then exchanges knows Same same_joins bytes mid rest p.text text link n next s m t p.transcript (transcript_one exchanges knows Same mid rest text words n next m m t t reads goes refl answer refl);
    told = told ∙ ap (λ (x : Bytes). x ++ text) p.told ∙ append_assoc held p.text text;
  }

  -- the same, as far as another rest, link, state and output that are these
  answers_as : (bytes mid rest held between holds : Bytes) (link n next : Link) (s m t : S)
      → Answers exchanges knows bytes link s held mid n m between → rest ≡ mid → next ≡ n → t ≡ m → holds ≡ between
      → Answers exchanges knows bytes link s held rest next t holds
  answers_as bytes mid rest held between holds link n next s m t p e f g h =
      subst (λ (x : Bytes). Answers exchanges knows bytes link s held x next t holds) (sym e)
      (subst (λ (x : Link). Answers exchanges knows bytes link s held mid x t holds) (sym f)
      (subst (λ x. Answers exchanges knows bytes link s held mid n x holds) (sym g)
      (subst (λ (x : Bytes). Answers exchanges knows bytes link s held mid n m x) (sym h) p)))

  -- the call stops for the command at the front
  pub call_ends : (bytes mid rest held between holds : Bytes) (old middle session : Session) (s m t : S) (stop : Stop)
      → Answers exchanges knows bytes old.link s held mid middle.link m between → middle.settle ≡ 0
      → IsFront exchanges knows mid middle m between (Some stop) rest session t holds
      → IsAnswered exchanges knows bytes old s held stop rest session t holds
  call_ends bytes mid rest held between holds old middle session s m t stops.Waits p z (a, b, c, d, part) =
      (answers_as bytes mid rest held between holds old.link middle.link session.link s m t p a (ap (λ (x : Session). x.link) b) c d, ap (λ (x : Session). x.settle) b ∙ z, subst IsPart (sym a) part)
  call_ends bytes mid rest held between holds old middle session s m t stops.Goes p z e = absurd e
  call_ends bytes mid rest held between holds old middle session s m t stops.Settles p z (a, b, c, d, at) =
      (answers_as bytes mid rest held between holds old.link middle.link session.link s m t p a b c d, subst (λ (x : Bytes). IsAtSettle x session.settle) (sym a) at)
  call_ends bytes mid rest held between holds old middle session s m t stops.Quits p z (text, b, c, end, d) =
      (mid, between, text, answers_as bytes mid mid held between between old.link middle.link session.link s m t p refl b c refl, end, d)
  call_ends bytes mid rest held between holds old middle session s m t stops.Refused p z (text, a, b, c, bad, d) =
      (between, text, answers_as bytes mid rest held between between old.link middle.link session.link s m t p a b c refl, subst (λ (x : Bytes). IsBad x text) (sym a) bad, d)
  call_ends bytes mid rest held between holds old middle session s m t stops.Memory p z (d, asked) =
      (mid, middle.link, m, answers_as bytes mid mid held between holds old.link middle.link middle.link s m m p refl refl refl d, asked)
