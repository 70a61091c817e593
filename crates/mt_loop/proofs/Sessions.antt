-- How a connection's session goes on: by a send, a read, and an answer.
use Rattle.std.proofs.Common.{◌≡◌, ◌≢◌, ◌⊎◌, ℕ, Bool, false, [], ◌++◌, Option, Some, Result, Ok, Err, refl, sym, ap, subst, ◌∙◌, append_assoc, append-nil, inl, inr, ⊎_elim, arith}
use Rattle.std.specs.Io.KnownBytes.{Consumes, Appends, Keeps, IsAtEnd}
use Rattle.mt_rows.specs.Rows.{Bytes}
use Rattle.mt_wire.specs.Fronts.{IsPartial}
use Rattle.mt_caller.specs.Exchanges.{CallerRelation}
use Rattle.mt_streams.proofs.StreamLemmas.{Keeps-refl, Appends-nil, Appends-trans, Consumes-nil, Consumes-trans, Consumes-kept}
use Rattle.mt_session.specs.{declared.answering.Stop.Stop, declared.ended.Ended.Ended, declared.ended.ServeFault.ServeFault}
use Rattle.mt_session.specs.{Sessions.Transcript, Endings.{Serves, EndsAs, IsBeginning, bad_frame_reply}, Answering.IsAnswered}
use Rattle.mt_session.specs.declared.answering.Stop.TheVariants as stops
use Rattle.mt_session.specs.declared.ended.Ended.TheVariants as ends
use Rattle.mt_session.specs.declared.ended.ServeFault.TheVariants as faults
use Rattle.mt_session.proofs.{Transcripts.{transcript_none, transcript_more, transcript_then}, Servings.{Serving, read_on, is_closed, fails, round_ends, round_fails}, Rounds.round_written}
use Rattle.mt_loop.specs.declared.connection.{State.State, State.TheVariants.{Waits, Goes, Ended as HasEnded}}
use Rattle.mt_loop.specs.{Connections.Stands, Steps.{IsSent, IsAfterRead, IsRead, IsTold, state_of}}

-- a session so far, by the parts of its connection
abbrev pub Session : {S : Type 0} → CallerRelation S → Option Bytes → Option Bytes → Option Bytes → Option Bytes → S → Bytes → State → Bytes → Bool → S → Type 0
Session exchanges before left held holds start unsent state rest opened new =
    (written : Bytes) × Appends held holds written × Stands exchanges before left (written ++ unsent) start state rest opened new

-- before its first read
pub begins : {S : Type 0} (exchanges : CallerRelation S) (before held : Option Bytes) (start : S) (unsent rest : Bytes) (state : State) (opened : Bool)
    → state ≡ Waits → rest ≡ [] → unsent ≡ [] → opened ≡ false → Session exchanges before before held held start unsent state rest opened start
begins exchanges before held start unsent rest state opened w r u o =
    rw (w, r, u, o) ([], Appends-nil held, ([], Consumes-nil before, transcript_none exchanges [] false start, inl (omega arith)))

-- where it has ended, and all is sent
pub served : {S : Type 0} (exchanges : CallerRelation S) (before left held holds : Option Bytes) (start new : S) (unsent rest : Bytes) (state : State) (opened : Bool) (result : Result Ended ServeFault)
    → state ≡ HasEnded result → unsent ≡ [] → Session exchanges before left held holds start unsent state rest opened new
    → Serves exchanges before left held holds (Unit {0}) (Unit {0}) start new result
served exchanges before left held holds start new unsent rest state opened result is none (written, some, stands) =
    let ended = subst (λ (x : State). Stands exchanges before left (written ++ unsent) start x rest opened new) is stands in record {
      read = ended.read;
      written = ended.written;
      rest = ended.rest;
      text = ended.text;
      is_open = ended.is_open;
      mid = ended.mid;
      consumed = ended.consumed;
      appended = subst (λ (x : Bytes). Appends held holds x) (sym (append-nil written) ∙ ap (λ (x : Bytes). written ++ x) (sym none) ∙ ended.appended) some;
      transcript = ended.transcript;
      ends = ended.ends;
      cause = ended.cause;
    }

-- a beginning of a beginning
beginning_of : (a b c : Bytes) → IsBeginning a b → IsBeginning b c → IsBeginning a c
beginning_of a b c (lost, e) (more, f) = (lost ++ more, sym (append_assoc a lost more) ∙ ap (λ (x : Bytes). x ++ more) e ∙ f)

-- the whole is a beginning
all_of : (a b : Bytes) → a ≡ b → IsBeginning a b
all_of a b e = ([], append-nil a ∙ e)

-- whatever the end, what was written is a beginning of the text
ends_failed : {S : Type 0} (exchanges : CallerRelation S) (result : Result Ended ServeFault) (left : Option Bytes) (rest text written : Bytes) (is_open : Bool) (mid new : S)
    → EndsAs exchanges result left rest text written is_open mid new → EndsAs exchanges (Err faults.Write) left rest text written is_open mid new
ends_failed exchanges (Ok ends.Closed) left rest text written is_open mid new (at_end, none, same, stays) = (inl (all_of written text same), inl stays)
ends_failed exchanges (Ok ends.Cut) left rest text written is_open mid new (at_end, some, partial, same, stays) = (inl (all_of written text same), inl stays)
ends_failed exchanges (Ok ends.Refused) left rest text written is_open mid new (bad, same, stays) = (inr (bad, all_of written (text ++ bad_frame_reply) same), inl stays)
ends_failed exchanges (Err faults.Read) left rest text written is_open mid new (partial, same, stays) = (inl (all_of written text same), inl stays)
ends_failed exchanges (Err faults.Write) left rest text written is_open mid new e = e
ends_failed exchanges (Err faults.Memory) left rest text written is_open mid new (same, one) = (inl (all_of written text same), one)

-- a writer that failed took less
ends_shorter : {S : Type 0} (exchanges : CallerRelation S) (left : Option Bytes) (rest text written part : Bytes) (is_open : Bool) (mid new : S)
    → IsBeginning part written → EndsAs exchanges (Err faults.Write) left rest text written is_open mid new → EndsAs exchanges (Err faults.Write) left rest text part is_open mid new
ends_shorter exchanges left rest text written part is_open mid new b (of_text, one) =
    (⊎_elim (λ p. inl (beginning_of part written text b p)) (λ p. inr (p.0, beginning_of part written (text ++ bad_frame_reply) b p.1)) of_text, one)

-- the session of a writer that took only a part of what was told
stands_failed : {S : Type 0} (exchanges : CallerRelation S) (before left : Option Bytes) (told part rest : Bytes) (start new : S) (state : State) (opened : Bool)
    → IsBeginning part told → Stands exchanges before left told start state rest opened new → Serves exchanges before left (Some []) (Some part) (Unit {0}) (Unit {0}) start new (Err faults.Write)
stands_failed exchanges before left told part rest start new Waits opened b (read, consumed, transcript, partial) =
    record { read = read; written = part; rest = rest; text = told; is_open = opened; mid = new; consumed = consumed; appended = refl; transcript = transcript; ends = (inl b, inl refl); cause = tt }
stands_failed exchanges before left told part rest start new Goes opened b (read, consumed, transcript) =
    record { read = read; written = part; rest = rest; text = told; is_open = opened; mid = new; consumed = consumed; appended = refl; transcript = transcript; ends = (inl b, inl refl); cause = tt }
stands_failed exchanges before left told part rest start new (HasEnded result) opened b ended = record {
  read = ended.read;
  written = part;
  rest = ended.rest;
  text = ended.text;
  is_open = ended.is_open;
  mid = ended.mid;
  consumed = ended.consumed;
  appended = refl;
  transcript = ended.transcript;
  ends =
      ends_shorter exchanges left ended.rest ended.text ended.written part ended.is_open ended.mid new (subst (λ (x : Bytes). IsBeginning part x) ended.appended b) (ends_failed exchanges result left ended.rest ended.text ended.written ended.is_open ended.mid new ended.ends);
  cause = tt;
}

-- a session whose connection sent
pub sent_on : {S : Type 0} (exchanges : CallerRelation S) (before left held holds last : Option Bytes) (start new : S) (unsent kept sent rest : Bytes) (was now : State) (opened : Bool)
    → Session exchanges before left held holds start unsent was rest opened new → Appends holds last sent → IsSent unsent was sent kept now
    → Session exchanges before left held last start kept now rest opened new
sent_on exchanges before left held holds last start new unsent kept sent rest was now opened (written, some, stands) more (inl (split, same)) = (
  written ++ sent,
  Appends-trans held holds last written sent some more,
  subst (λ (s : State). Stands exchanges before left ((written ++ sent) ++ kept) start s rest opened new) (sym same)
      (subst (λ (x : Bytes). Stands exchanges before left x start was rest opened new) (ap (λ (x : Bytes). written ++ x) split ∙ sym (append_assoc written sent kept)) stands),
)
sent_on exchanges before left held holds last start new unsent kept sent rest was now opened (written, some, stands) more (inr ((lost, part), none, failed)) = (
  written ++ sent,
  Appends-trans held holds last written sent some more,
  subst (λ (s : State). Stands exchanges before left ((written ++ sent) ++ kept) start s rest opened new) (sym failed)
      (stands_failed exchanges before left (written ++ unsent) ((written ++ sent) ++ kept) rest start new was opened (
        lost,
        ap (λ (x : Bytes). x ++ lost) (ap (λ (x : Bytes). (written ++ sent) ++ x) none ∙ append-nil (written ++ sent)) ∙ append_assoc written sent lost ∙ ap (λ (x : Bytes). written ++ x) part,
      ) stands),
)

-- a session that goes on, over a writer that holds what was told
serving : {S : Type 0} (exchanges : CallerRelation S) (before left : Option Bytes) (told rest read : Bytes) (start new : S) (opened : Bool)
    → Consumes before left read → Transcript exchanges read false start rest opened new told → Serving exchanges before left (Some []) (Some told) start new rest opened 0
serving exchanges before left told rest read start new opened consumed transcript = record {
  read = read;
  text = told;
  many = omega arith;
  consumed = consumed;
  appended = refl;
  transcript = transcript;
}

-- how a connection stands that has read more
after_read_on : {S : Type 0} (exchanges : CallerRelation S) (before mid left : Option Bytes) (told rest next read more : Bytes) (start new : S) (opened : Bool) (now : State)
    → Consumes before mid read → Transcript exchanges read false start rest opened new told → IsPartial rest → Consumes mid left more → (more ≡ [] → IsAtEnd left) → IsAfterRead rest more next now
    → Stands exchanges before left told start now next opened new
after_read_on exchanges before mid left told rest next read more start new opened Waits consumed transcript partial c at_end after = absurd after
after_read_on exchanges before mid left told rest next read more start new opened Goes consumed transcript partial c at_end (some, after) = (
  read ++ more,
  Consumes-trans before mid left read more consumed c,
  subst (λ (x : Bytes). Transcript exchanges (read ++ more) false start x opened new told) (sym after) (transcript_more exchanges read rest told more false opened start new transcript),
)
after_read_on exchanges before mid left told rest next read more start new opened (HasEnded (Ok ends.Closed)) consumed transcript partial c at_end (none, same, empty) =
    let all = read_on exchanges 0 0 before mid left (Some []) (Some told) start new rest more next opened (serving exchanges before mid told rest read start new opened consumed transcript) c (same ∙ sym (append-nil rest) ∙ ap (λ (x : Bytes). rest ++ x) (sym none)) (omega arith) in
    is_closed exchanges 0 (Unit {0}) (Unit {0}) before left (Some []) (Some told) start new next opened all (at_end none) empty
after_read_on exchanges before mid left told rest next read more start new opened (HasEnded (Ok ends.Cut)) consumed transcript partial c at_end (none, same, some) =
    let all = read_on exchanges 0 0 before mid left (Some []) (Some told) start new rest more next opened (serving exchanges before mid told rest read start new opened consumed transcript) c (same ∙ sym (append-nil rest) ∙ ap (λ (x : Bytes). rest ++ x) (sym none)) (omega arith) in
    record { read = all.read; written = all.text; rest = next; text = all.text; is_open = opened; mid = new; consumed = all.consumed; appended = all.appended; transcript = all.transcript; ends = (at_end none, some, subst IsPartial (sym same) partial, refl, refl); cause = tt }
after_read_on exchanges before mid left told rest next read more start new opened (HasEnded (Ok ends.Refused)) consumed transcript partial c at_end after = absurd after
after_read_on exchanges before mid left told rest next read more start new opened (HasEnded (Err faults.Memory)) consumed transcript partial c at_end after = record {
  read = read ++ more;
  written = told;
  rest = rest ++ more;
  text = told;
  is_open = opened;
  mid = new;
  consumed = Consumes-trans before mid left read more consumed c;
  appended = refl;
  transcript = transcript_more exchanges read rest told more false opened start new transcript;
  ends = (refl, inl refl);
  cause = tt;
}
after_read_on exchanges before mid left told rest next read more start new opened (HasEnded (Err faults.Read)) consumed transcript partial c at_end after = absurd after
after_read_on exchanges before mid left told rest next read more start new opened (HasEnded (Err faults.Write)) consumed transcript partial c at_end after = absurd after

-- how a connection stands after its read
stands_read : {S : Type 0} (exchanges : CallerRelation S) (failed : Type 0) (before mid left : Option Bytes) (told rest next : Bytes) (start new : S) (opened : Bool) (was now : State)
    → Stands exchanges before mid told start was rest opened new → IsRead failed mid left rest was next now → Stands exchanges before left told start now next opened new
stands_read exchanges failed before mid left told rest next start new opened was now stands (inl (w, l, r, n)) = rw (l, r, n) stands
stands_read exchanges failed before mid left told rest next start new opened was now stands (inr (inl (w, f, kept, r, inl n))) =
    let (read, consumed, transcript, partial) = rw w at stands in rw (r, n) (read, Consumes-kept before mid left read consumed kept, transcript, partial)
stands_read exchanges failed before mid left told rest next start new opened was now stands (inr (inl (w, f, kept, r, inr n))) =
    let (read, consumed, transcript, partial) = rw w at stands in
    rw (r, n) (fails exchanges 0 (Unit {0}) (Unit {0}) before left (Some []) (Some told) start new rest opened faults.Read (serving exchanges before left told rest read start new opened (Consumes-kept before mid left read consumed kept) transcript) partial (λ e. inl tt) (λ e. tt))
stands_read exchanges failed before mid left told rest next start new opened was now stands (inr (inr (w, more, c, at_end, after))) =
    let (read, consumed, transcript, partial) = rw w at stands in
    after_read_on exchanges before mid left told rest next read more start new opened now consumed transcript partial c at_end after

-- a session whose connection read once
pub read_once : {S : Type 0} (exchanges : CallerRelation S) (failed : Type 0) (before mid left held holds : Option Bytes) (start new : S) (unsent rest next : Bytes) (was now : State) (opened : Bool)
    → Session exchanges before mid held holds start unsent was rest opened new → IsRead failed mid left rest was next now
    → Session exchanges before left held holds start unsent now next opened new
read_once exchanges failed before mid left held holds start new unsent rest next was now opened (written, some, stands) r =
    (written, some, stands_read exchanges failed before mid left (written ++ unsent) rest next start new opened was now stands r)

-- what came after the unsent came after all that was told
behind : (written unsent now text : Bytes) → now ≡ unsent ++ text → written ++ now ≡ (written ++ unsent) ++ text
behind written unsent now text e = ap (λ (x : Bytes). written ++ x) e ∙ sym (append_assoc written unsent text)

-- how a connection stands that answered requests
stands_told : {S : Type 0} (exchanges : CallerRelation S) (before left : Option Bytes) (written unsent now rest next : Bytes) (start s t : S) (opened o : Bool) (result : Result Stop ServeFault)
    → Stands exchanges before left (written ++ unsent) start Goes rest opened s → IsTold exchanges rest opened s result next o t unsent now
    → Stands exchanges before left (written ++ now) start (state_of result) next o t
stands_told exchanges before left written unsent now rest next start s t opened o (Ok stops.Full) (read, consumed, transcript) (text, more, e) = (
  read,
  consumed,
  subst (λ (x : Bytes). Transcript exchanges read false start next o t x) (sym (behind written unsent now text e)) (transcript_then exchanges read rest next (written ++ unsent) text false opened o start s t transcript more),
)
stands_told exchanges before left written unsent now rest next start s t opened o (Ok stops.Waits) (read, consumed, transcript) (text, more, e, partial) = (
  read,
  consumed,
  subst (λ (x : Bytes). Transcript exchanges read false start next o t x) (sym (behind written unsent now text e)) (transcript_then exchanges read rest next (written ++ unsent) text false opened o start s t transcript more),
  partial,
)
stands_told exchanges before left written unsent now rest next start s t opened o (Ok stops.Refused) (read, consumed, transcript) (text, more, e, bad) =
    round_ends exchanges 0 (Unit {0}) (Unit {0}) before left (Some []) (Some (written ++ unsent)) (Some (written ++ now)) start s t rest next opened o ends.Refused (serving exchanges before left (written ++ unsent) rest read start s opened consumed transcript) (text, more, behind written unsent now _ e, bad)
stands_told exchanges before left written unsent now rest next start s t opened o (Ok stops.Memory) (read, consumed, transcript) (text, bytes, b, m, more, e, asks) =
    round_fails exchanges 0 (Unit {0}) (Unit {0}) before left (Some []) (Some (written ++ unsent)) (Some (written ++ now)) start s t rest next opened o faults.Memory (serving exchanges before left (written ++ unsent) rest read start s opened consumed transcript) (text, bytes, b, m, more, behind written unsent now _ e, asks) (λ e. tt)
stands_told exchanges before left written unsent now rest next start s t opened o (Err faults.Memory) (read, consumed, transcript) (text, bytes, b, m, more, e, asks) =
    round_fails exchanges 0 (Unit {0}) (Unit {0}) before left (Some []) (Some (written ++ unsent)) (Some (written ++ now)) start s t rest next opened o faults.Memory (serving exchanges before left (written ++ unsent) rest read start s opened consumed transcript) (text, bytes, b, m, more, behind written unsent now _ e, asks) (λ e. tt)
stands_told exchanges before left written unsent now rest next start s t opened o (Err faults.Write) (read, consumed, transcript) (text, bytes, b, m, done, more, e, part, asks) =
    round_fails exchanges 0 (Unit {0}) (Unit {0}) before left (Some []) (Some (written ++ unsent)) (Some (written ++ now)) start s t rest next opened o faults.Write (serving exchanges before left (written ++ unsent) rest read start s opened consumed transcript) (text, bytes, b, m, done, more, behind written unsent now _ e, part, asks) (λ e. tt)
stands_told exchanges before left written unsent now rest next start s t opened o (Err faults.Read) stands told = absurd told

-- a session whose connection answered requests
pub answered_on : {S : Type 0} (exchanges : CallerRelation S) (before left held holds : Option Bytes) (start s t : S) (unsent now rest next : Bytes) (state : State) (opened o : Bool) (result : Result Stop ServeFault)
    → state ≡ Goes → Session exchanges before left held holds start unsent state rest opened s → IsTold exchanges rest opened s result next o t unsent now
    → Session exchanges before left held holds start now (state_of result) next o t
answered_on exchanges before left held holds start s t unsent now rest next state opened o result is (written, some, stands) told =
    (written, some, stands_told exchanges before left written unsent now rest next start s t opened o result (subst (λ (x : State). Stands exchanges before left (written ++ unsent) start x rest opened s) is stands) told)

-- a call whose output was flushed
pub flushed : {S : Type 0} (exchanges : CallerRelation S) (i : ℕ) (input rest k p : Bytes) (opened o : Bool) (s t : S) (unsent meanwhile now : Bytes) (stop : Stop)
    → k ≡ [] → IsAnswered exchanges i input opened s (Some unsent) k (Ok stop) rest o t (Some meanwhile) p → Appends (Some meanwhile) (Some now) p
    → IsTold exchanges input opened s (Ok stop) rest o t unsent now
flushed exchanges i input rest k p opened o s t unsent meanwhile now stops.Full e (text, one, (front, some, split, within)) h =
    (text, one.transcript, Appends-trans (Some unsent) (Some meanwhile) (Some now) front p some h ∙ ap (λ (x : Bytes). unsent ++ x) (sym split ∙ ap (λ (x : Bytes). x ++ text) e))
flushed exchanges i input rest k p opened o s t unsent meanwhile now stops.Waits e a h = round_written exchanges i input rest k p opened o s t (Some unsent) (Some meanwhile) (Some now) stops.Waits (λ e. absurd cc) e a h
flushed exchanges i input rest k p opened o s t unsent meanwhile now stops.Refused e a h = round_written exchanges i input rest k p opened o s t (Some unsent) (Some meanwhile) (Some now) stops.Refused (λ e. absurd cc) e a h
flushed exchanges i input rest k p opened o s t unsent meanwhile now stops.Memory e a h = round_written exchanges i input rest k p opened o s t (Some unsent) (Some meanwhile) (Some now) stops.Memory (λ e. absurd cc) e a h

-- a session that has ended reads nothing
ended_reads_none : (failed : Type 0) (before left : Option Bytes) (input rest : Bytes) (was now : State) (result : Result Ended ServeFault)
    → was ≡ HasEnded result → IsRead failed before left input was rest now → Keeps before left
ended_reads_none failed before left input rest was now result ended (inl (w, same, r, n)) = subst (λ (x : Option Bytes). Keeps before x) (sym same) (Keeps-refl before)
ended_reads_none failed before left input rest was now result ended (inr (inl (w, f, kept, r, n))) = absurd cc
ended_reads_none failed before left input rest was now result ended (inr (inr (w, more, c, at_end, after))) = absurd cc

-- what was sent before and after a read: all that was unsent, and more, or nothing was read
pub pressed : (failed : Type 0) (held holds last before left : Option Bytes) (unsent kept sent more input rest : Bytes) (was mid now : State)
    → Appends held holds sent → IsSent unsent was sent kept mid → kept ≡ [] → IsRead failed before left input mid rest now → Appends holds last more
    → (x : Bytes) × Appends held last x × (IsBeginning unsent x ⊎ Keeps before left)
pressed failed held holds last before left unsent kept sent more input rest was mid now some (inl (split, same)) none r then =
    (sent ++ more, Appends-trans held holds last sent more some then, inl (more, ap (λ (x : Bytes). x ++ more) (split ∙ ap (λ (x : Bytes). sent ++ x) none ∙ append-nil sent)))
pressed failed held holds last before left unsent kept sent more input rest was mid now some (inr (b, e, ended)) none r then =
    (sent ++ more, Appends-trans held holds last sent more some then, inr (ended_reads_none failed before left input rest mid now (Err faults.Write) ended r))

-- an answer fails no read
pub fails_no_read : {S : Type 0} (exchanges : CallerRelation S) (unsent now rest next : Bytes) (s t : S) (opened o : Bool) (result : Result Stop ServeFault)
    → IsTold exchanges rest opened s result next o t unsent now → state_of result ≢ HasEnded (Err faults.Read)
fails_no_read exchanges unsent now rest next s t opened o (Ok stops.Waits) told e = absurd cc
fails_no_read exchanges unsent now rest next s t opened o (Ok stops.Full) told e = absurd cc
fails_no_read exchanges unsent now rest next s t opened o (Ok stops.Refused) told e = absurd cc
fails_no_read exchanges unsent now rest next s t opened o (Ok stops.Memory) told e = absurd cc
fails_no_read exchanges unsent now rest next s t opened o (Err faults.Read) told e = absurd told
fails_no_read exchanges unsent now rest next s t opened o (Err faults.Write) told e = absurd cc
fails_no_read exchanges unsent now rest next s t opened o (Err faults.Memory) told e = absurd cc
