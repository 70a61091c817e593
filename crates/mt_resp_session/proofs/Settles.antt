-- A Settle is answered, and a command is answered once.
use Rattle.std.proofs.Common.{◌≡◌, ◌≢◌, ℕ, true, false, List, [], ◌∷◌, ◌++◌, drop, Result, Ok, Err, refl, sym, ap, subst, ◌∙◌, inl, ⊎_elim, append-nil, arith}
use Rattle.std.specs.{List.flat_map}
use Rattle.std.proofs.lemmas.List.Concat.{flat_map-cons}
use Rattle.mt_caller.specs.Exchanges.{CallerRelation, Settles}
use Rattle.mt_rows.specs.declared.refusal.Refusal.{Refusal}
use Rattle.mt_resp.proofs.Steps.{same_ok}
use Rattle.mt_resp.{specs.{Grammar.{Bytes, IsSpelling}, Commands.command_at, Asking.meaning, Replies.told_text}, proofs.Commands.spelling_is_read}
use Rattle.mt_resp.specs.declared.asked.Asked.{Asked}
use Rattle.mt_resp.specs.declared.asked.Asked.TheVariants as asks
use Rattle.mt_resp_commands.specs.{declared.link.Link.Link, Knowing.KnowledgeRelation, Answers.{IsAnswer, settle_told}}
use Rattle.mt_resp_session.specs.{Transcripts.{Run, Transcript, Same, is_end}, Answering.{IsAtSettle, IsEnd}}
use Rattle.mt_resp_session.proofs.Transcripts.{transcript_one, transcript_then}

-- a command is read in one way
read_once : (bytes more rest : Bytes) (words others : List Bytes) → command_at bytes ≡ Ok (words, more) → command_at bytes ≡ Ok (others, rest) → (words ≡ others) × (more ≡ rest)
read_once bytes more rest words others e f =
    let same = same_ok (words, more) (others, rest) (sym e ∙ f) in (ap (λ (x : List Bytes × Bytes). x.0) same, ap (λ (x : List Bytes × Bytes). x.1) same)

-- nothing is read of no bytes
nothing_of_nothing : (rest : Bytes) (words : List Bytes) → command_at [] ≡ Ok (words, rest) → ⊥
unfolding command_at
nothing_of_nothing rest words reads = absurd cc

nothing_read : (bytes rest : Bytes) (words : List Bytes) → bytes ≡ [] → command_at bytes ≡ Ok (words, rest) → ⊥
nothing_read bytes rest words e reads = nothing_of_nothing rest words (subst (λ (x : Bytes). command_at x ≡ Ok (words, rest)) e reads)

true_not : true ≡ false → ⊥
true_not e = absurd cc

-- a command that asks for the end is none that goes on
ends_not : (bytes left last more : Bytes) (words : List Bytes) → IsEnd bytes last left → command_at bytes ≡ Ok (words, more) → is_end (meaning words) ≡ false → ⊥
ends_not bytes left last more words end reads goes =
    let same = read_once bytes more left words end.words reads end.reads in
    let goes = sym (ap (λ (x : List Bytes). is_end (meaning x)) same.0) ∙ goes in
    ⊎_elim (λ q. true_not (sym (ap is_end q.0) ∙ goes)) (λ q. true_not (sym (ap is_end q.0) ∙ goes)) end.ends

module _ {S : Type 0} (exchanges : CallerRelation S) (knows : KnowledgeRelation S) where
  run_of_one : (texts : List Bytes) (bytes text : Bytes) (words : List Bytes) (link next : Link) (s t : S) → command_at bytes ≡ Ok (words, [])
      → text ≡ flat_map (λ (t : Bytes). t) texts → Run exchanges knows Same bytes link s texts [] next t → IsAnswer exchanges knows link s (meaning words) text next t
  run_of_one [] bytes text words link next s t reads told (e, f, g) = absurd (nothing_read bytes [] words (sym e) reads)
  run_of_one (one ∷ []) bytes text words link next s t reads told (others, more, from, between, mid, front, goes, r, answer, (e, f, g)) =
      subst (λ (x : List Bytes). IsAnswer exchanges knows link s (meaning x) text next t) (read_once bytes more [] others words front reads).0
      (subst (λ (x : Bytes). IsAnswer exchanges knows link s (meaning others) x next t) (sym (told ∙ flat_map-cons (λ (t : Bytes). t) one [] ∙ append-nil one))
      (subst (λ (x : Link). IsAnswer exchanges knows link s (meaning others) one x t) (sym f)
      (subst (λ x. IsAnswer exchanges knows link s (meaning others) one between x) (sym g) (subst (λ x. IsAnswer exchanges knows link x (meaning others) one between mid) r answer))))
  run_of_one (one ∷ (two ∷ texts)) bytes text words link next s t reads told (others, more, from, between, mid, front, goes, r, answer, (third, left, x, n, m, back, on, q, next_answer, run)) =
      absurd (nothing_read more left third (read_once bytes more [] others words front reads).1 back)

  -- the text for the bytes of one command is the answer to it
  pub one_answer : (bytes text : Bytes) (words : List Bytes) (link next : Link) (s t : S)
      → IsSpelling bytes words → Transcript exchanges knows Same bytes link s [] next t text → IsAnswer exchanges knows link s (meaning words) text next t
  one_answer bytes text words link next s t spells p =
      run_of_one p.texts bytes text words link next s t (ap command_at (sym (append-nil bytes)) ∙ spelling_is_read bytes [] words spells) p.told p.run

module _ {S : Type 0} (exchanges : CallerRelation S) (knows : KnowledgeRelation S) (rests : S → S → Type 0) where
  run_at_end : (texts : List Bytes) (bytes rest left last text : Bytes) (link next : Link) (s t : S) → IsEnd bytes last left
      → text ≡ flat_map (λ (t : Bytes). t) texts → Run exchanges knows rests bytes link s texts rest next t → (text ≡ []) × (rest ≡ bytes)
  run_at_end [] bytes rest left last text link next s t end told (e, f, g) = (told, e)
  run_at_end (one ∷ texts) bytes rest left last text link next s t end told (words, more, from, between, mid, reads, goes, r, answer, run) = absurd (ends_not bytes left last more words end reads goes)

  -- nothing after a command that asks for the end is answered
  pub nothing_after : (bytes rest left last text : Bytes) (link next : Link) (s t : S)
      → IsEnd bytes last left → Transcript exchanges knows rests bytes link s rest next t text → (text ≡ []) × (rest ≡ bytes)
  nothing_after bytes rest left last text link next s t end p = run_at_end p.texts bytes rest left last text link next s t end p.told p.run

  -- the Settle at the front is answered
  pub settle_on : ((a b c : S) → rests a b → rests b c → rests a c) → ((a : S) → rests a a) → (bytes rest text : Bytes) (len : ℕ) (link next : Link) (s m t : S) (answer : Result ℕ Refusal)
      → Transcript exchanges knows rests bytes link s rest next m text → IsAtSettle rest len → exchanges m (Settles answer) t
      → Transcript exchanges knows rests bytes link s (drop len rest) next t (text ++ told_text (settle_told answer))
  settle_on joins stays bytes rest text len link next s m t answer p at asked =
      transcript_then exchanges knows rests joins bytes rest (drop len rest) text (told_text (settle_told answer)) link next next s m t p
      (transcript_one exchanges knows rests rest (drop len rest) (told_text (settle_told answer)) at.words next next m m t t at.reads (ap is_end at.asks) (stays m)
      (subst (λ (x : Asked). IsAnswer exchanges knows next m x (told_text (settle_told answer)) next t) (sym at.asks) (inl (settle_told answer, (answer, asked, refl, refl), refl))) (stays t))
