-- A session over one caller is a session over another one that explains it, as a store is explained by its tenants' maps.
-- For the callers of the crates above.
use Rattle.std.proofs.Common.{◌≡◌, Bool, true, false, List, [], ◌∷◌, Option, Result, Ok, Err, ap, subst, inl, inr}
use Rattle.mt_rows.specs.Rows.{Bytes}
use Rattle.mt_wire.specs.{declared.message.Request.Request, declared.message.Request.TheVariants.{Open, Call, Settle, GetStamped}}
use Rattle.mt_wire.specs.declared.message.WireReply.{WireReply}
use Rattle.mt_caller.specs.Exchanges.{Exchange, CallerRelation}
use Rattle.mt_session.specs.{declared.ended.Ended.Ended, declared.ended.ServeFault.ServeFault}
use Rattle.mt_session.specs.{Sessions.{IsReply, IsStuck, AreReplies, Transcript}, Endings.{AsksAtMostOne, EndsAs, Serves}}
use Rattle.mt_session.specs.declared.ended.Ended.TheVariants as ends
use Rattle.mt_session.specs.declared.ended.ServeFault.TheVariants as faults

-- As long as the one caller is well, as one that has not run out of numbers is: each of its exchanges, from state to state, is one of the other between
-- their views; and who is well after an exchange was so before it.
module _ {S T : Type 0} (exchanges : CallerRelation S) (other : CallerRelation T) (view : S → T) (well : S → Type 0)
    (along : (s : S) (e : Exchange) (t : S) → exchanges s e t → well t → other (view s) e (view t)) (back : (s : S) (e : Exchange) (t : S) → exchanges s e t → well t → well s) where
  -- who stays as it is was well
  same_back : (s t : S) → t ≡ s → well t → well s
  same_back s t same h = subst well same h

  -- a reply by one is a reply by the other
  reply_along : (opened o : Bool) (s t : S) (request : Request) (reply : WireReply) → IsReply exchanges opened s request reply o t → well t
      → IsReply other opened (view s) request reply o (view t) × well s
  reply_along false o s t (Open tenant) reply p h = ((p.0, along s _ t p.1 h, p.2, p.3), back s _ t p.1 h)
  reply_along true o s t (Open tenant) reply p h = ((p.0, p.1, ap view p.2), same_back s t p.2 h)
  reply_along false o s t (Call command) reply p h = ((p.0, p.1, ap view p.2), same_back s t p.2 h)
  reply_along true o s t (Call command) reply p h = ((p.0, along s _ t p.1 h, p.2, p.3), back s _ t p.1 h)
  reply_along false o s t (GetStamped key columns) reply p h = ((p.0, p.1, ap view p.2), same_back s t p.2 h)
  reply_along true o s t (GetStamped key columns) reply p h = ((p.0, along s _ t p.1 h, p.2, p.3), back s _ t p.1 h)
  reply_along false o s t Settle reply p h = ((p.0, p.1, ap view p.2), same_back s t p.2 h)
  reply_along true o s t Settle reply p h = ((p.0, along s _ t p.1 h, p.2, p.3), back s _ t p.1 h)

  -- and so are replies one after the other
  replies_along : (opened o : Bool) (s t : S) (requests : List Request) (replies : List WireReply)
      → AreReplies exchanges opened s requests replies o t → well t → AreReplies other opened (view s) requests replies o (view t) × well s
  replies_along opened o s t [] [] p h = ((p.0, ap view p.1), same_back s t p.1 h)
  replies_along opened o s t (request ∷ requests) (reply ∷ replies) (mid, m, step, run) h =
      let rest = replies_along mid o m t requests replies run h in
      let one = reply_along opened mid s m request reply step rest.1 in
      ((mid, view m, one.0, rest.0), one.1)
  replies_along opened o s t [] (reply ∷ replies) p h = absurd p
  replies_along opened o s t (request ∷ requests) [] p h = absurd p

  -- a transcript over one is a transcript over the other
  transcript_along : (bytes rest text : Bytes) (opened o : Bool) (s t : S) → Transcript exchanges bytes opened s rest o t text → well t
      → Transcript other bytes opened (view s) rest o (view t) text
  transcript_along bytes rest text opened o s t transcript h = record {
    requests = transcript.requests;
    replies = transcript.replies;
    each = transcript.each;
    spelled = transcript.spelled;
    told = transcript.told;
    run = (replies_along opened o s t transcript.requests transcript.replies transcript.run h).0;
  }

  -- a command that is stuck for one is stuck for the other
  stuck_along : (opened : Bool) (s t : S) (request : Request) → IsStuck exchanges opened s request t → well t
      → IsStuck other opened (view s) request (view t) × well s
  stuck_along true s t (Call command) p h = (along s _ t p h, back s _ t p h)
  stuck_along true s t (GetStamped key columns) p h = (along s _ t p h, back s _ t p h)
  stuck_along true s t (Open tenant) p h = absurd p
  stuck_along true s t Settle p h = absurd p
  stuck_along false s t request p h = absurd p

  -- and the one request without a written reply
  one_along : (opened : Bool) (rest : Bytes) (s t : S) → AsksAtMostOne exchanges opened s rest t → well t
      → AsksAtMostOne other opened (view s) rest (view t) × well s
  one_along opened rest s t (inl same) h = (inl (ap view same), same_back s t same h)
  one_along opened rest s t (inr p) h = elim p.run [
    | inl a ↦ let one = reply_along opened a.1 s t p.request a.0 a.2 h in
        (inr (record { request = p.request; more = p.more; fits = p.fits; spelled = p.spelled; run = inl (a.0, a.1, one.0) }), one.1)
    | inr a ↦ let one = stuck_along opened s t p.request a h in
        (inr (record { request = p.request; more = p.more; fits = p.fits; spelled = p.spelled; run = inr one.0 }), one.1)
  ]

  -- a session ends over one as over the other
  ending_along : (result : Result Ended ServeFault) (left : Option Bytes) (rest text written : Bytes) (opened : Bool) (t new : S)
      → EndsAs exchanges result left rest text written opened t new → well new
      → EndsAs other result left rest text written opened (view t) (view new) × well t
  ending_along (Ok ends.Closed) left rest text written opened t new p h = ((p.0, p.1, p.2, ap view p.3), same_back t new p.3 h)
  ending_along (Ok ends.Cut) left rest text written opened t new p h = ((p.0, p.1, p.2, p.3, ap view p.4), same_back t new p.4 h)
  ending_along (Ok ends.Refused) left rest text written opened t new p h = ((p.0, p.1, ap view p.2), same_back t new p.2 h)
  ending_along (Err faults.Read) left rest text written opened t new p h = ((p.0, p.1, ap view p.2), same_back t new p.2 h)
  ending_along (Err faults.Write) left rest text written opened t new p h = let one = one_along opened rest t new p.1 h in ((p.0, one.0), one.1)
  ending_along (Err faults.Memory) left rest text written opened t new p h = let one = one_along opened rest t new p.1 h in ((p.0, one.0), one.1)

  -- A session over a caller that is well at its end, and whose every exchange is then one of `other`, seen by `view`, is a session over `other`. It is
  -- all that a caller over a store has to cite: two lemmas about its own calls are `along` and `back`, and bytes don't come in.
  pub serves_along : (before left held holds : Option Bytes) (reader_failed writer_failed : Type 0) (old new : S) (result : Result Ended ServeFault)
      → Serves exchanges before left held holds reader_failed writer_failed old new result → well new
      → Serves other before left held holds reader_failed writer_failed (view old) (view new) result
  serves_along before left held holds reader_failed writer_failed old new result p h =
      let ending = ending_along result left p.rest p.text p.written p.is_open p.mid new p.ends h in
      record {
        read = p.read;
        written = p.written;
        rest = p.rest;
        text = p.text;
        is_open = p.is_open;
        mid = view p.mid;
        consumed = p.consumed;
        appended = p.appended;
        transcript = transcript_along p.read p.rest p.text false p.is_open old p.mid p.transcript ending.1;
        ends = ending.0;
        cause = p.cause;
      }
