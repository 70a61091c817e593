-- A script on its way: for `run_script`.
use Rattle.std.proofs.Common.{◌≡◌, ℕ, ◌+◌, ◌≤◌, ◌==◌, Bool, true, false, cond, List, [], ◌∷◌, ◌++◌, length, Option, Ok, refl, sym, ap, ◌∙◌, subst, append_assoc, append-nil, arith}
use Rattle.std.proofs.lemmas.List.{length-append}
use Rattle.std.specs.{Io.BufRead.strip_last, Io.KnownBytes.{Consumes, Appends}}
use Rattle.mt_lines.specs.{Lines.{Front, front_of, with_byte, without_return}, Scripts.{Cut, cut_of, IsLineAnswered, AreLinesAnswered}}
use Rattle.mt_lines.specs.{Sessions.{SessionView, fresh}, Turns.{AnswersFront, TakesByte}}
use Rattle.mt_lines.proofs.CutLemmas.{cut_of-more, with_byte-front, FrontTells, ended_tells}
use Rattle.mt_rows.specs.Rows.{Bytes}
use Rattle.mt_streams.proofs.StreamLemmas.{Consumes-nil, Appends-nil, Appends-trans, Consumes-trans}

-- one line more is answered
pub AreLinesAnswered-more : (old mid new : SessionView) (lines : List Bytes) (line text answer : Bytes) → AreLinesAnswered old lines mid text
    → IsLineAnswered mid line new answer → AreLinesAnswered old (lines ++ line ∷ []) new (text ++ answer)
AreLinesAnswered-more old mid new [] line text answer (stays, none) a =
    (new, answer, [], subst (λ (s : SessionView). IsLineAnswered s line new answer) stays a, (refl, refl), ap (λ t. t ++ answer) none ∙ sym (append-nil answer))
AreLinesAnswered-more old mid new (first ∷ lines) line text answer (next, said, rest, b, others, parts) a =
    (next, said, rest ++ answer, b, AreLinesAnswered-more next mid new lines line rest answer others a, ap (λ t. t ++ answer) parts ∙ append_assoc said rest answer)

-- what the front of a line is answered is the answer to the line
pub front_answered : (front : Front) (line : Bytes) (old new : SessionView) (text : Bytes) → FrontTells front line → AnswersFront old front new text
    → IsLineAnswered old line new text
front_answered front line old new text t a = rw (← t.silent, ← t.asked) a

-- A script on its way: all lines that ended in what was read are answered, and the front of the last is kept.
pub record Progress (before left held holds : Option Bytes) (session : SessionView) (front : Front) (count : ℕ) : Type 0 where
  pub read : Bytes
  pub text : Bytes
  pub consumed : Consumes before left read
  pub appended : Appends held holds text
  pub counted : count ≤ length read
  pub answered : AreLinesAnswered fresh (cut_of read).ended session text
  pub front_is : front ≡ front_of (cut_of read).last

-- at its start
pub starts : (before held : Option Bytes) → Progress before before held held fresh (front_of []) 0
starts before held = record {
  read = [];
  text = [];
  consumed = Consumes-nil before;
  appended = Appends-nil held;
  counted = omega arith;
  answered = (refl, refl);
  front_is = refl;
}

counted_more : (read : Bytes) (byte count : ℕ) → count ≤ length read → count + 1 ≤ length (read ++ byte ∷ [])
counted_more read byte count h = omega (arith, length-append read (byte ∷ []))

-- the lines where another byte was read
pub other_cut : (read : Bytes) (byte : ℕ) → (byte == 10) ≡ false
    → cut_of (read ++ byte ∷ []) ≡ record { ended = (cut_of read).ended; last = (cut_of read).last ++ byte ∷ [] }
other_cut read byte other =
    cut_of-more read byte ∙ ap (λ (b : Bool). cond b (record { ended = (cut_of read).ended ++ strip_last 13 (cut_of read).last ∷ []; last = [] }) (record { ended = (cut_of read).ended; last = (cut_of read).last ++ byte ∷ [] })) other

-- a byte more of the line
takes_other : (before a b held h k : Option Bytes) (old new : SessionView) (front left : Front) (byte count : ℕ) (writer_failed : Type 0)
    → (byte == 10) ≡ false → Progress before a held h old front count → Consumes a b (byte ∷ [])
    → TakesByte false byte old new front left h k writer_failed (Ok tt) → Progress before b held k new left (count + 1)
takes_other before a b held h k old new front left byte count writer_failed other p read t =
    let cut = other_cut p.read byte other in
    record {
      read = p.read ++ byte ∷ [];
      text = p.text;
      consumed = Consumes-trans before a b p.read (byte ∷ []) p.consumed read;
      appended = subst (λ (x : Bytes). Appends held k x) (append-nil p.text) (Appends-trans held h k p.text [] p.appended t.1);
      counted = counted_more p.read byte count p.counted;
      answered =
          subst (λ (c : Cut). AreLinesAnswered fresh c.ended new p.text) (sym cut) (subst (λ (s : SessionView). AreLinesAnswered fresh (cut_of p.read).ended s p.text) (sym t.0) p.answered);
      front_is = t.2 ∙ ap (λ f. with_byte f byte) p.front_is ∙ with_byte-front (cut_of p.read).last byte ∙ ap (λ (c : Cut). front_of c.last) (sym cut);
    }

-- the lines where a line feed was read
pub feed_cut : (read : Bytes) (byte : ℕ) → (byte == 10) ≡ true
    → cut_of (read ++ byte ∷ []) ≡ record { ended = (cut_of read).ended ++ strip_last 13 (cut_of read).last ∷ []; last = [] }
feed_cut read byte feed =
    cut_of-more read byte ∙ ap (λ (b : Bool). cond b (record { ended = (cut_of read).ended ++ strip_last 13 (cut_of read).last ∷ []; last = [] }) (record { ended = (cut_of read).ended; last = (cut_of read).last ++ byte ∷ [] })) feed

-- the answer to the line that ended
pub feed_answered : (read : Bytes) (front : Front) (old new : SessionView) (text : Bytes) → front ≡ front_of (cut_of read).last
    → AnswersFront old (without_return front) new text → IsLineAnswered old (strip_last 13 (cut_of read).last) new text
feed_answered read front old new text e a =
    front_answered (without_return (front_of (cut_of read).last)) (strip_last 13 (cut_of read).last) old new text (ended_tells (cut_of read).last) (subst (λ (f : Front). AnswersFront old (without_return f) new text) e a)

-- a byte that ends the line
takes_feed : (before a b held h k : Option Bytes) (old new : SessionView) (front left : Front) (byte count : ℕ) (writer_failed : Type 0)
    → (byte == 10) ≡ true → Progress before a held h old front count → Consumes a b (byte ∷ [])
    → TakesByte true byte old new front left h k writer_failed (Ok tt) → Progress before b held k new left (count + 1)
takes_feed before a b held h k old new front left byte count writer_failed feed p read t =
    let (answer, says, more) = t.0 in
    let cut = feed_cut p.read byte feed in
    record {
      read = p.read ++ byte ∷ [];
      text = p.text ++ answer;
      consumed = Consumes-trans before a b p.read (byte ∷ []) p.consumed read;
      appended = Appends-trans held h k p.text answer p.appended more;
      counted = counted_more p.read byte count p.counted;
      answered = subst (λ (c : Cut). AreLinesAnswered fresh c.ended new (p.text ++ answer)) (sym cut)
          (AreLinesAnswered-more fresh old new (cut_of p.read).ended (strip_last 13 (cut_of p.read).last) p.text answer p.answered (feed_answered p.read front old new answer p.front_is says));
      front_is = t.1 ∙ ap (λ (c : Cut). front_of c.last) (sym cut);
    }

-- a byte is taken
pub takes : (before a b held h k : Option Bytes) (old new : SessionView) (front left : Front) (byte count : ℕ) (writer_failed : Type 0) (feeds : Bool)
    → (byte == 10) ≡ feeds → Progress before a held h old front count → Consumes a b (byte ∷ [])
    → TakesByte feeds byte old new front left h k writer_failed (Ok tt) → Progress before b held k new left (count + 1)
takes before a b held h k old new front left byte count writer_failed true e p read t =
    takes_feed before a b held h k old new front left byte count writer_failed e p read t
takes before a b held h k old new front left byte count writer_failed false e p read t =
    takes_other before a b held h k old new front left byte count writer_failed e p read t
