-- The ways in which a script ends: for `run_script`; and how an answer is written: for `answer`.
use Rattle.std.proofs.Common.{◌≡◌, ℕ, ◌-◌, ◌^◌, ◌≤◌, ◌⊎◌, ◌==◌, Bool, true, false, List, [], ◌∷◌, ◌++◌, Option, Result, Ok, Err, OnOk, OnErr, IsErrAnd, MatchResult, refl, sym, ap, ◌∙◌, subst, append_assoc, append-nil, inl, inr, ⊎_elim, arith}
use Rattle.std.specs.{declared.io.Error.Error, Io.BufRead.strip_last, Io.KnownBytes.{Consumes, Appends, Keeps, IsAtEnd}}
use Rattle.mt_lines.specs.{declared.script.ScriptFault.ScriptFault, declared.script.ScriptFault.TheVariants.{Read, Write, Memory}}
use Rattle.mt_lines.specs.{Lines.{Front, front_of, without_return}, Scripts.{Cut, cut_of, lines_of, AreLinesAnswered, IsLineAnswered, IsUnread, RunsScript}}
use Rattle.mt_lines.specs.{Sessions.{SessionView, fresh}, Turns.{AnswersFront, Writes, TakesByte}}
use Rattle.mt_lines.proofs.{CutLemmas.last_tells, ScriptLemmas.{Progress, AreLinesAnswered-more, front_answered, feed_cut, feed_answered, other_cut}}
use Rattle.mt_rows.specs.Rows.{Bytes}
use Rattle.mt_streams.proofs.StreamLemmas.{Appends-nil, Appends-trans, Consumes-nil, Consumes-trans, Consumes-kept}

-- the reader failed, or gave as many bytes as can be counted
pub read_fails : (before a b held h : Option Bytes) (session : SessionView) (front : Front) (count : ℕ) (reader_failed writer_failed : Type 0) (error : _)
    → Progress before a held h session front count → Keeps a b
    → (reader_failed ⊎ (2 ^ 64 - 1 ≤ count)) → RunsScript before b held h reader_failed writer_failed (Err (Read error))
read_fails before a b held h session front count reader_failed writer_failed error p kept cause = record {
  read = p.read;
  written = p.text;
  consumed = Consumes-kept before a b p.read p.consumed kept;
  appended = p.appended;
  whole = tt;
  beginning = record {
    before = (cut_of p.read).ended;
    line = (cut_of p.read).last;
    behind = [];
    session = session;
    text = p.text;
    front = [];
    lines = refl;
    unread = refl;
    answered = p.answered;
    front_of_answer = refl;
    written_is = sym (append-nil p.text);
  };
  cause = ⊎_elim (λ f. inl f) (λ n. inr (omega (arith, p.counted))) cause;
}

-- A script is on its way to a line: those before it are answered, and this was read and written.
record IsAt (before left held holds : Option Bytes) (session : SessionView) (line : Bytes) (behind : List Bytes) : Type 0 where
  read : Bytes
  text : Bytes
  lines_before : List Bytes
  consumed : Consumes before left read
  appended : Appends held holds text
  answered : AreLinesAnswered fresh lines_before session text
  lines : lines_of read ≡ lines_before ++ line ∷ behind

-- it stops there with nothing of that line written, where a growth was refused
memory_fails : (before left held holds now : Option Bytes) (session : SessionView) (line : Bytes) (behind : List Bytes) (reader_failed writer_failed : Type 0)
    → IsUnread Memory behind → IsAt before left held holds session line behind
    → Appends holds now [] → RunsScript before left held now reader_failed writer_failed (Err Memory)
memory_fails before left held holds now session line behind reader_failed writer_failed unread p none = record {
  read = p.read;
  written = p.text ++ [];
  consumed = p.consumed;
  appended = Appends-trans held holds now p.text [] p.appended none;
  whole = tt;
  beginning = record { before = p.lines_before; line = line; behind = behind; session = session; text = p.text; front = []; lines = p.lines; unread = unread; answered = p.answered; front_of_answer = refl; written_is = refl };
  cause = tt;
}

-- it stops there with a front of the answer written, where the writer failed
write_fails : (before left held holds now : Option Bytes) (session new : SessionView) (line : Bytes) (behind : List Bytes) (front lost : Bytes) (reader_failed writer_failed : Type 0) (error : _)
    → IsUnread (Write error) behind
    → IsAt before left held holds session line behind → IsLineAnswered session line new (front ++ lost) → Appends holds now front → writer_failed
    → RunsScript before left held now reader_failed writer_failed (Err (Write error))
write_fails before left held holds now session new line behind front lost reader_failed writer_failed error unread p a more failed = record {
  read = p.read;
  written = p.text ++ front;
  consumed = p.consumed;
  appended = Appends-trans held holds now p.text front p.appended more;
  whole = tt;
  beginning = record { before = p.lines_before; line = line; behind = behind; session = session; text = p.text; front = front; lines = p.lines; unread = unread; answered = p.answered; front_of_answer = (new, lost, a); written_is = refl };
  cause = failed;
}

-- what was to be written of the line was not
line_fails : (before left held holds now : Option Bytes) (session new : SessionView) (line : Bytes) (behind : List Bytes) (kept : Front) (reader_failed writer_failed failing : Type 0) (fault : ScriptFault)
    → (failing → writer_failed)
    → ((behind ≡ []) ⊎ (behind ≡ [] ∷ [])) → IsAt before left held holds session line behind
    → ((text : Bytes) → AnswersFront session kept new text → IsLineAnswered session line new text)
    → Writes (AnswersFront session kept new) holds now failing (Err fault) → RunsScript before left held now reader_failed writer_failed (Err fault)
line_fails before left held holds now session new line behind kept reader_failed writer_failed failing (Read e) since unread p says w = absurd w
line_fails before left held holds now session new line behind kept reader_failed writer_failed failing (Write e) since unread p says (front, lost, a, more, failed) =
    write_fails before left held holds now session new line behind front lost reader_failed writer_failed e unread p (says (front ++ lost) a) more (since failed)
line_fails before left held holds now session new line behind kept reader_failed writer_failed failing Memory since unread p says w =
    memory_fails before left held holds now session line behind reader_failed writer_failed unread p w

-- at a line that ended
at_feed : (before a b held h : Option Bytes) (session : SessionView) (front : Front) (byte count : ℕ) (p : Progress before a held h session front count)
    → (byte == 10) ≡ true → Consumes a b (byte ∷ []) → IsAt before b held h session (strip_last 13 (cut_of p.read).last) ([] ∷ [])
at_feed before a b held h session front byte count p feed read = record {
  read = p.read ++ byte ∷ [];
  text = p.text;
  lines_before = (cut_of p.read).ended;
  consumed = Consumes-trans before a b p.read (byte ∷ []) p.consumed read;
  appended = p.appended;
  answered = p.answered;
  lines =
      ap (λ (c : Cut). c.ended ++ c.last ∷ []) (feed_cut p.read byte feed) ∙ append_assoc (cut_of p.read).ended (strip_last 13 (cut_of p.read).last ∷ []) ([] ∷ []);
}

-- at a line that has one byte more
at_other : (before a b held h : Option Bytes) (session : SessionView) (front : Front) (byte count : ℕ) (p : Progress before a held h session front count)
    → (byte == 10) ≡ false → Consumes a b (byte ∷ []) → IsAt before b held h session ((cut_of p.read).last ++ byte ∷ []) []
at_other before a b held h session front byte count p other read = record {
  read = p.read ++ byte ∷ [];
  text = p.text;
  lines_before = (cut_of p.read).ended;
  consumed = Consumes-trans before a b p.read (byte ∷ []) p.consumed read;
  appended = p.appended;
  answered = p.answered;
  lines = ap (λ (c : Cut). c.ended ++ c.last ∷ []) (other_cut p.read byte other);
}

-- a byte could not be taken
pub take_fails : (before a b held h k : Option Bytes) (old new : SessionView) (front left : Front) (byte count : ℕ) (reader_failed writer_failed failing : Type 0) (fault : ScriptFault) (feeds : Bool)
    → (failing → writer_failed) → (byte == 10) ≡ feeds → Progress before a held h old front count → Consumes a b (byte ∷ [])
    → TakesByte feeds byte old new front left h k failing (Err fault) → RunsScript before b held k reader_failed writer_failed (Err fault)
take_fails before a b held h k old new front left byte count reader_failed writer_failed failing fault true since e p read t =
    line_fails before b held h k old new (strip_last 13 (cut_of p.read).last) ([] ∷ []) (without_return front) reader_failed writer_failed failing fault since (inr refl) (at_feed before a b held h old front byte count p e read)
    (λ text says. feed_answered p.read front old new text p.front_is says) t.0
take_fails before a b held h k old new front left byte count reader_failed writer_failed failing fault false since e p read t =
    rw t.3 (memory_fails before b held h k old ((cut_of p.read).last ++ byte ∷ []) [] reader_failed writer_failed (inl refl) (at_other before a b held h old front byte count p e read) t.1)

-- at the last line
at_end : (before a b held h : Option Bytes) (session : SessionView) (front : Front) (count : ℕ) (p : Progress before a held h session front count)
    → Keeps a b → IsAt before b held h session (cut_of p.read).last []
at_end before a b held h session front count p kept = record {
  read = p.read;
  text = p.text;
  lines_before = (cut_of p.read).ended;
  consumed = Consumes-kept before a b p.read p.consumed kept;
  appended = p.appended;
  answered = p.answered;
  lines = refl;
}

-- the answer to the last line
last_answered : (read : Bytes) (front : Front) (old new : SessionView) (text : Bytes) → front ≡ front_of (cut_of read).last
    → AnswersFront old front new text → IsLineAnswered old (cut_of read).last new text
last_answered read front old new text e a =
    front_answered (front_of (cut_of read).last) (cut_of read).last old new text (last_tells (cut_of read).last) (subst (λ (f : Front). AnswersFront old f new text) e a)

-- all was read
pub ends : (before a b held h k : Option Bytes) (old new : SessionView) (front : Front) (count : ℕ) (reader_failed writer_failed failing : Type 0) (result : Result (Unit {0}) ScriptFault)
    → (failing → writer_failed) → Progress before a held h old front count → Keeps a b → IsAtEnd b
    → Writes (AnswersFront old front new) h k failing result → RunsScript before b held k reader_failed writer_failed result
ends before a b held h k old new front count reader_failed writer_failed failing (Ok u) since p kept done (answer, says, more) = record {
  read = p.read;
  written = p.text ++ answer;
  consumed = Consumes-kept before a b p.read p.consumed kept;
  appended = Appends-trans held h k p.text answer p.appended more;
  whole =
      (done, (new, AreLinesAnswered-more fresh old new (cut_of p.read).ended (cut_of p.read).last p.text answer p.answered (last_answered p.read front old new answer p.front_is says)));
  beginning = tt;
  cause = tt;
}
ends before a b held h k old new front count reader_failed writer_failed failing (Err fault) since p kept done w =
    line_fails before b held h k old new (cut_of p.read).last [] front reader_failed writer_failed failing fault since (inl refl) (at_end before a b held h old front count p kept) (λ text says. last_answered p.read front old new text p.front_is says) w

-- nothing was read or written, since a growth was refused before
pub none_begun : (before held : Option Bytes) (reader_failed writer_failed : Type 0)
    → RunsScript before before held held reader_failed writer_failed (Err Memory)
none_begun before held reader_failed writer_failed =
    memory_fails before before held held held fresh [] [] reader_failed writer_failed (inl refl)
    (record { read = []; text = []; lines_before = []; consumed = Consumes-nil before; appended = Appends-nil held; answered = (refl, refl); lines = refl }) (Appends-nil held)

-- a text was written whole, or a front of it where the writer failed
pub text_written : (P : Bytes → Type 0) (text : Bytes) (held holds : Option Bytes) (failed : Type 0) (written : Result (Unit {0}) Error) (result : Result (Unit {0}) ScriptFault)
    (gives : Error → ScriptFault → Type 0) → P text → OnOk written (Appends held holds text)
    → OnErr written ((front : Bytes) × (lost : Bytes) × (text ≡ front ++ lost) × Appends held holds front) → OnErr written failed
    → MatchResult written (λ (x : Unit {0}). result ≡ Ok x) (λ e. IsErrAnd result (gives e)) → ((e : Error) (fault : ScriptFault) → gives e fault → fault ≡ Write e)
    → Writes P held holds failed result
text_written P text held holds failed (Ok x) result gives says whole part cause cases as_write = rw cases (text, says, whole)
text_written P text held holds failed (Err e) (Ok x) gives says whole part cause cases as_write = absurd cases
text_written P text held holds failed (Err e) (Err fault) gives says whole (front, lost, parts, appended) cause cases as_write =
    rw (as_write e fault cases) (front, lost, subst P parts says, appended, cause)
