-- A session as its caller sees it, and as one over a history.
use Rattle.std.{proofs.Common.{◌≡◌, Bool, true, false, List, [], ◌∷◌, inl, inr, Option, Result, Ok, Err, sym, subst}, specs.List.{AllByRecursion, AllZip, FoldsTo}}
use Rattle.mt_rows.specs.Rows.{Bytes}
use Rattle.mt_wire.specs.{declared.message.Request.Request, declared.message.Request.TheVariants.{Open, Call, Settle, GetStamped}, declared.message.WireReply.WireReply}
use Rattle.mt_crew.specs.{Servings.IsServed, declared.crew.Served.Served}
use Rattle.mt_caller.specs.Exchanges.{Exchange, CallerRelation}
use Rattle.mt_session.specs.{declared.ended.Ended.Ended, declared.ended.ServeFault.ServeFault, Sessions.{IsReply, IsStuck, AreReplies}}
use Rattle.mt_session.specs.Endings.{EndsAs, Serves, AsksAtMostOne}
use Rattle.mt_service.specs.Sessions.{IsSession, Within}
use Rattle.mt_session.specs.declared.ended.Ended.TheVariants as ends
use Rattle.mt_session.specs.declared.ended.ServeFault.TheVariants as faults

module _ {S : Type 0} (exchanges : CallerRelation S) where
  asks_at_end : (result : Result Ended ServeFault) (left : Option Bytes) (rest text written : Bytes) (is_open : Bool) (mid new : S)
      → EndsAs exchanges result left rest text written is_open mid new → AsksAtMostOne exchanges is_open mid rest new
  asks_at_end (Ok ends.Closed) left rest text written is_open mid new e = inl e.3
  asks_at_end (Ok ends.Cut) left rest text written is_open mid new e = inl e.4
  asks_at_end (Ok ends.Refused) left rest text written is_open mid new e = inl e.2
  asks_at_end (Err faults.Read) left rest text written is_open mid new e = inl e.2
  asks_at_end (Err faults.Write) left rest text written is_open mid new e = e.1
  asks_at_end (Err faults.Memory) left rest text written is_open mid new e = e.1

  closed_at_end : (result : Result Ended ServeFault) (left : Option Bytes) (rest text written : Bytes) (is_open : Bool) (mid new : S) → result ≡ Ok ends.Closed
      → EndsAs exchanges result left rest text written is_open mid new → (rest ≡ []) × (new ≡ mid)
  closed_at_end result left rest text written is_open mid new is e =
      let closed : EndsAs exchanges (Ok ends.Closed) left rest text written is_open mid new = subst (λ r. EndsAs exchanges r left rest text written is_open mid new) is e in
      (closed.1, closed.3)

  -- what a session's contract says of its caller
  pub session_of : (before left held holds : Option Bytes) (reader_failed writer_failed : Type 0) (old new : S) (result : Result Ended ServeFault)
      → Serves exchanges before left held holds reader_failed writer_failed old new result → (right : Bool) → (right ≡ true → result ≡ Ok ends.Closed)
      → IsSession exchanges right old new
  session_of before left held holds reader_failed writer_failed old new result s right closed = record {
    read = s.read;
    rest = s.rest;
    text = s.text;
    is_open = s.is_open;
    mid = s.mid;
    transcript = s.transcript;
    more = asks_at_end result left s.rest s.text s.written s.is_open s.mid new s.ends;
    whole = λ is. closed_at_end result left s.rest s.text s.written s.is_open s.mid new (closed is) s.ends;
  }

-- Sessions whose caller held to something before each exchange if it did after it, and does in the end, held to it all the time.
module _ {S : Type 0} (exchanges : CallerRelation S) (Front : S → Type 0) (before : (old new : S) (e : Exchange) → exchanges old e new → Front new → Front old) where
  abbrev Inside : CallerRelation S
  Inside = Within Front exchanges

  same_front : (old new : S) → new ≡ old → Front new → Front old
  same_front old new is front = subst Front is front

  reply_inside : (was_open : Bool) (old : S) (request : Request) (reply : WireReply) (now_open : Bool) (new : S) → IsReply exchanges was_open old request reply now_open new
      → Front new → IsReply Inside was_open old request reply now_open new × Front old
  reply_inside false old (Open tenant) reply now_open new r front = ((r.0, (r.1, front), r.2, r.3), before old new _ r.1 front)
  reply_inside false old (Call command) reply now_open new r front = (r, same_front old new r.2 front)
  reply_inside false old (GetStamped key columns) reply now_open new r front = (r, same_front old new r.2 front)
  reply_inside false old Settle reply now_open new r front = (r, same_front old new r.2 front)
  reply_inside true old (Open tenant) reply now_open new r front = (r, same_front old new r.2 front)
  reply_inside true old (Call command) reply now_open new r front = ((r.0, (r.1, front), r.2, r.3), before old new _ r.1 front)
  reply_inside true old (GetStamped key columns) reply now_open new r front = ((r.0, (r.1, front), r.2, r.3), before old new _ r.1 front)
  reply_inside true old Settle reply now_open new r front = ((r.0, (r.1, front), r.2, r.3), before old new _ r.1 front)

  replies_inside : (was_open : Bool) (old : S) (requests : List Request) (replies : List WireReply) (now_open : Bool) (new : S)
      → AreReplies exchanges was_open old requests replies now_open new → Front new → AreReplies Inside was_open old requests replies now_open new × Front old
  replies_inside was_open old [] [] now_open new r front = (r, same_front old new r.1 front)
  replies_inside was_open old (request ∷ requests) (reply ∷ replies) now_open new r front =
      let later = replies_inside r.0 r.1 requests replies now_open new r.3 front in
      let here = reply_inside was_open old request reply r.0 r.1 r.2 later.1 in
      ((r.0, r.1, here.0, later.0), here.1)
  replies_inside was_open old [] (reply ∷ replies) now_open new r front = absurd r
  replies_inside was_open old (request ∷ requests) [] now_open new r front = absurd r

  stuck_inside : (was_open : Bool) (old : S) (request : Request) (new : S) → IsStuck exchanges was_open old request new → Front new
      → IsStuck Inside was_open old request new × Front old
  stuck_inside true old (Call command) new x front = ((x, front), before old new _ x front)
  stuck_inside true old (GetStamped key columns) new x front = ((x, front), before old new _ x front)
  stuck_inside true old (Open tenant) new x front = absurd x
  stuck_inside true old Settle new x front = absurd x
  stuck_inside false old (Open tenant) new x front = absurd x
  stuck_inside false old (Call command) new x front = absurd x
  stuck_inside false old (GetStamped key columns) new x front = absurd x
  stuck_inside false old Settle new x front = absurd x

  asks_inside : (is_open : Bool) (old : S) (rest : Bytes) (new : S) → AsksAtMostOne exchanges is_open old rest new → Front new → AsksAtMostOne Inside is_open old rest new × Front old
  asks_inside is_open old rest new (inl same) front = (inl same, same_front old new same front)
  asks_inside is_open old rest new (inr u) front = elim (u.run) [
    | inl r ↦
        let here = reply_inside is_open old u.request r.0 r.1 new r.2 front in
        (inr (record { request = u.request; more = u.more; fits = u.fits; spelled = u.spelled; run = inl (r.0, r.1, here.0) }), here.1)
    | inr stuck ↦
        let here = stuck_inside is_open old u.request new stuck front in
        (inr (record { request = u.request; more = u.more; fits = u.fits; spelled = u.spelled; run = inr here.0 }), here.1)
  ]

  session_inside : (right : Bool) (old new : S) → IsSession exchanges right old new → Front new → IsSession Inside right old new × Front old
  session_inside right old new s front =
      let last = asks_inside s.is_open s.mid s.rest new s.more front in
      let t = s.transcript in
      let all = replies_inside false old t.requests t.replies s.is_open s.mid t.run last.1 in (
        record {
          read = s.read;
          rest = s.rest;
          text = s.text;
          is_open = s.is_open;
          mid = s.mid;
          transcript = record { requests = t.requests; replies = t.replies; each = t.each; spelled = t.spelled; told = t.told; run = all.0 };
          more = last.0;
          whole = s.whole;
        },
        all.1,
      )

  module _ {W : Type 0} (caller_of : W → S) where
    abbrev Over : W → Bool → W → Type 0
    Over old right new = IsSession exchanges right (caller_of old) (caller_of new)

    abbrev pub OverInside : W → Bool → W → Type 0
    OverInside old right new = IsSession Inside right (caller_of old) (caller_of new)

    sessions_inside : (old : W) (ends : List Bool) (new : W) → FoldsTo Over old ends new → Front (caller_of new) → FoldsTo OverInside old ends new × Front (caller_of old)
    sessions_inside old [] new is front = (is, subst (λ (w : W). Front (caller_of w)) (sym is) front)
    sessions_inside old (right ∷ ends) new f front =
        let later = sessions_inside f.0 ends new f.2 front in
        let here = session_inside right (caller_of old) (caller_of f.0) f.1 later.1 in
        ((f.0, here.0, later.0), here.1)

    -- and so are those of all workers that came back
    pub served_inside : (begun : List W) (served : List (Served W)) → AllZip (IsServed Over) begun served
        → AllByRecursion (λ (one : Served W). Front (caller_of one.worker)) served → AllZip (IsServed OverInside) begun served
    served_inside [] [] z all = tt
    served_inside (w ∷ ws) (s ∷ ss) z all =
        let one = z.0 in (
          record { ends = one.ends; led = (sessions_inside w one.ends s.worker one.led all.0).0; sessions = one.sessions; others = one.others },
          served_inside ws ss z.1 all.1,
        )
    served_inside [] (s ∷ ss) z all = absurd z
    served_inside (w ∷ ws) [] z all = absurd z
