-- Transcripts: how they begin, go on by a command, and follow one another.
use Rattle.std.proofs.Common.{◌≡◌, false, List, [], ◌∷◌, ◌++◌, Result, Ok, refl, sym, ap, subst, ◌∙◌, append_assoc, append-nil}
use Rattle.std.proofs.lemmas.List.Concat.{flat_map-cons, flat_map-append}
use Rattle.std.specs.List.{flat_map}
use Rattle.mt_caller.specs.Exchanges.{CallerRelation}
use Rattle.mt_resp.{specs.{Grammar.Bytes, Commands.command_at, Asking.meaning, Laws.Takes}, proofs.Commands.command_exact}
use Rattle.mt_resp_commands.specs.{declared.link.Link.Link, Knowing.KnowledgeRelation, Answers.IsAnswer}
use Rattle.mt_resp_session.specs.Transcripts.{Run, Transcript, Same, is_end}

-- a command is read from the front, whatever follows
reads_more : (bytes rest more : Bytes) (words : List Bytes) → command_at bytes ≡ Ok (words, rest) → command_at (bytes ++ more) ≡ Ok (words, rest ++ more)
reads_more bytes rest more words e =
    let t = command_exact bytes rest words e in
    ap (λ (x : Bytes). command_at (x ++ more)) t.parts ∙ ap command_at (append_assoc t.text rest more) ∙ t.again (rest ++ more)

module _ {S : Type 0} (exchanges : CallerRelation S) (knows : KnowledgeRelation S) (rests : S → S → Type 0) where
  -- nothing is asked and nothing told
  pub transcript_none : (bytes : Bytes) (link : Link) (s t : S) → rests s t → Transcript exchanges knows rests bytes link s bytes link t []
  transcript_none bytes link s t r = record { texts = []; told = refl; run = (refl, refl, r) }

  run_more : (texts : List Bytes) (bytes rest more : Bytes) (link next : Link) (s t : S)
      → Run exchanges knows rests bytes link s texts rest next t → Run exchanges knows rests (bytes ++ more) link s texts (rest ++ more) next t
  run_more [] bytes rest more link next s t (e, f, g) = (ap (λ (x : Bytes). x ++ more) e, f, g)
  run_more (text ∷ texts) bytes rest more link next s t (words, left, from, n, m, reads, goes, r, answer, run) =
      (words, left ++ more, from, n, m, reads_more bytes left more words reads, goes, r, answer, run_more texts left rest more n next m t run)

  -- more comes after the rest: the text stays as it is
  pub transcript_more : (bytes rest more text : Bytes) (link next : Link) (s t : S)
      → Transcript exchanges knows rests bytes link s rest next t text → Transcript exchanges knows rests (bytes ++ more) link s (rest ++ more) next t text
  transcript_more bytes rest more text link next s t transcript = record {
    texts = transcript.texts;
    told = transcript.told;
    run = run_more transcript.texts bytes rest more link next s t transcript.run;
  }

  -- the caller may rest once more before a transcript
  run_rested : ((a b c : S) → rests a b → rests b c → rests a c) → (texts : List Bytes) (bytes rest : Bytes) (link next : Link) (s m t : S)
      → rests s m → Run exchanges knows rests bytes link m texts rest next t → Run exchanges knows rests bytes link s texts rest next t
  run_rested joins [] bytes rest link next s m t r (e, f, g) = (e, f, joins s m t r g)
  run_rested joins (text ∷ texts) bytes rest link next s m t r (words, left, from, n, x, reads, goes, q, answer, run) =
      (words, left, from, n, x, reads, goes, joins s m from r q, answer, run)

  run_then : ((a b c : S) → rests a b → rests b c → rests a c) → (texts others : List Bytes) (bytes mid rest : Bytes) (link n next : Link) (s m t : S)
      → Run exchanges knows rests bytes link s texts mid n m → Run exchanges knows rests mid n m others rest next t → Run exchanges knows rests bytes link s (texts ++ others) rest next t
  run_then joins [] others bytes mid rest link n next s m t (e, f, g) run =
      run_rested joins others bytes rest link next s m t g
      (subst (λ (x : Bytes). Run exchanges knows rests x link m others rest next t) e (subst (λ (x : Link). Run exchanges knows rests mid x m others rest next t) f run))
  run_then joins (text ∷ texts) others bytes mid rest link n next s m t (words, left, from, k, x, reads, goes, r, answer, run) more =
      (words, left, from, k, x, reads, goes, r, answer, run_then joins texts others left mid rest k n next x m t run more)

  -- a transcript, and then one of what it left
  pub transcript_then : ((a b c : S) → rests a b → rests b c → rests a c) → (bytes mid rest text more : Bytes) (link n next : Link) (s m t : S)
      → Transcript exchanges knows rests bytes link s mid n m text → Transcript exchanges knows rests mid n m rest next t more → Transcript exchanges knows rests bytes link s rest next t (text ++ more)
  transcript_then joins bytes mid rest text more link n next s m t p q = record {
    texts = p.texts ++ q.texts;
    told = ap (λ (x : Bytes). x ++ more) p.told ∙ ap (λ (x : Bytes). flat_map (λ (t : Bytes). t) p.texts ++ x) q.told ∙ sym (flat_map-append (λ (t : Bytes). t) p.texts q.texts);
    run = run_then joins p.texts q.texts bytes mid rest link n next s m t p.run q.run;
  }

  -- one command
  pub transcript_one : (bytes rest text : Bytes) (words : List Bytes) (link next : Link) (s from mid t : S)
      → command_at bytes ≡ Ok (words, rest) → is_end (meaning words) ≡ false → rests s from → IsAnswer exchanges knows link from (meaning words) text next mid → rests mid t
      → Transcript exchanges knows rests bytes link s rest next t text
  transcript_one bytes rest text words link next s from mid t reads goes r answer q =
      record { texts = text ∷ []; told = sym (append-nil text) ∙ sym (flat_map-cons (λ (t : Bytes). t) text []); run = (words, rest, from, next, mid, reads, goes, r, answer, (refl, refl, q)) }

  -- bytes in two pieces: the text of the first, and then that of what it left with the second
  pub two_pieces : ((a b c : S) → rests a b → rests b c → rests a c) → (bytes more mid rest text other : Bytes) (link n next : Link) (old m new : S)
      → Transcript exchanges knows rests bytes link old mid n m text → Transcript exchanges knows rests (mid ++ more) n m rest next new other
      → Transcript exchanges knows rests (bytes ++ more) link old rest next new (text ++ other)
  two_pieces joins bytes more mid rest text other link n next old m new p q =
      transcript_then joins (bytes ++ more) (mid ++ more) rest text other link n next old m new (transcript_more bytes mid more text link n old m p) q

-- states that are the same, one after another
pub same_joins : {S : Type 0} (a b c : S) → Same a b → Same b c → Same a c
same_joins a b c e f = f ∙ e

module _ {S : Type 0} (exchanges : CallerRelation S) (knows : KnowledgeRelation S) (rests : S → S → Type 0) (stays : (s : S) → rests s s) where
  run_wide : (texts : List Bytes) (bytes rest : Bytes) (link next : Link) (s t : S)
      → Run exchanges knows Same bytes link s texts rest next t → Run exchanges knows rests bytes link s texts rest next t
  run_wide [] bytes rest link next s t (e, f, g) = (e, f, subst (λ x. rests s x) (sym g) (stays s))
  run_wide (text ∷ texts) bytes rest link next s t (words, left, from, n, m, reads, goes, r, answer, run) =
      (words, left, from, n, m, reads, goes, subst (λ x. rests s x) (sym r) (stays s), answer, run_wide texts left rest n next m t run)

  -- what is told while nobody else asks is told also if others may
  pub transcript_wide : (bytes rest text : Bytes) (link next : Link) (s t : S)
      → Transcript exchanges knows Same bytes link s rest next t text → Transcript exchanges knows rests bytes link s rest next t text
  transcript_wide bytes rest text link next s t p = record { texts = p.texts; told = p.told; run = run_wide p.texts bytes rest link next s t p.run }
