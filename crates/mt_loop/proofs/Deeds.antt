-- Deeds on a shared caller, one after the other; and a session whose caller was led on by the turns of others.
use Rattle.std.proofs.Common.{ℕ, Bool, true, false, List, [], ◌∷◌, ◌++◌, Option, Some, None, Result, Ok, Err, inl, inr, refl, sym, subst, ◌∙◌}
use Rattle.std.specs.List.{FoldsTo}
use Rattle.mt_rows.specs.{Rows.Bytes, declared.command.Command.TheVariants.Get}
use Rattle.mt_wire.specs.{declared.message.Request.Request, declared.message.Request.TheVariants.{Open, Call, Settle, GetStamped}, declared.message.WireReply.WireReply}
use Rattle.mt_caller.specs.{Exchanges.{Exchange, Opens, Calls, Settles, CallerRelation}, declared.caller.CallerFault.TheVariants.Stuck}
use Rattle.mt_session.specs.{Sessions.{IsReply, IsStuck, AreReplies, Transcript}, Endings.{AsksAtMostOne, EndsAs}}
use Rattle.mt_session.specs.{declared.ended.Ended.Ended, declared.ended.ServeFault.ServeFault}
use Rattle.mt_session.specs.declared.ended.Ended.TheVariants as ends
use Rattle.mt_session.specs.declared.ended.ServeFault.TheVariants as faults
use Rattle.mt_loop.specs.{Connections.{Stands, IsSession, IsFresh}, Deeds.{Asked, ButSettles, Does, Led, Resumed, SharedExchanges}}
use Rattle.mt_loop.specs.declared.{sharing.Shared.Shared, connection.Connection.Connection, connection.State.State, connection.State.TheVariants.{Waits, Goes, Ended as HasEnded}}
use Rattle.mt_loop.proofs.Sessions.{begins}

folds_then : {P A : Type 0} (R : P → A → P → Type 0) (p q r : P) (xs ys : List A) → FoldsTo R p xs q → FoldsTo R q ys r → FoldsTo R p (xs ++ ys) r
folds_then R p q r [] ys e f = subst (λ x. FoldsTo R x ys r) (sym e) f
folds_then R p q r (x ∷ xs) ys (j, h, e) f = (j, h, folds_then R j q r xs ys e f)

-- exchanges of none, and of some and then more
pub asked_none : {S : Type 0} (exchanges : CallerRelation S) (s : S) → Asked exchanges s s
asked_none exchanges s = ([], refl)

pub asked_then : {S : Type 0} (exchanges : CallerRelation S) (s m t : S) → Asked exchanges s m → Asked exchanges m t → Asked exchanges s t
asked_then exchanges s m t (xs, a) (ys, b) = (xs ++ ys, folds_then exchanges s m t xs ys a b)

-- what is asked but Settles is asked
but_settles : {S : Type 0} (exchanges : CallerRelation S) (s t : S) (exchange : Exchange) → ButSettles exchanges s exchange t → exchanges s exchange t
but_settles exchanges s t (Opens tenant refusal) a = a
but_settles exchanges s t (Calls command told) a = a
but_settles exchanges s t (Settles told) a = absurd a

pub asked_any : {S : Type 0} (exchanges : CallerRelation S) (s t : S) → Asked (ButSettles exchanges) s t → Asked exchanges s t
asked_any exchanges s t ([], e) = ([], e)
asked_any exchanges s t (x ∷ xs, (j, a, more)) = let (ys, b) = asked_any exchanges j t (xs, more) in (x ∷ ys, (j, but_settles exchanges s j x a, b))

pub led_any : {S : Type 0} (exchanges : CallerRelation S) (resumes : S → S → Type 0) (s t : S) → Led (ButSettles exchanges) resumes s t → Led exchanges resumes s t
led_any exchanges resumes s t ([], e) = ([], e)
led_any exchanges resumes s t (Some x ∷ xs, (j, a, more)) = let (ys, b) = led_any exchanges resumes j t (xs, more) in (Some x ∷ ys, (j, but_settles exchanges s j x a, b))
led_any exchanges resumes s t (None ∷ xs, (j, a, more)) = let (ys, b) = led_any exchanges resumes j t (xs, more) in (None ∷ ys, (j, a, b))

-- a connection that is new begins a session
pub fresh_session : {S : Type 0} (exchanges : CallerRelation S) (before held : Option Bytes) (s : S) (c : Connection) → IsFresh c → IsSession exchanges before before held held s c s
fresh_session exchanges before held s c (w, r, u, o) = begins exchanges before held s c.unsent.bytes.items c.input.items c.state c.opened w r u o

module _ {S : Type 0} (exchanges : CallerRelation S) (resumes : S → S → Type 0) where
  pub led_none : (s : S) → Led exchanges resumes s s
  led_none s = ([], refl)

  pub led_then : (s m t : S) → Led exchanges resumes s m → Led exchanges resumes m t → Led exchanges resumes s t
  led_then s m t (xs, a) (ys, b) = (xs ++ ys, folds_then (Does exchanges resumes) s m t xs ys a b)

  pub led_exchange : (s t : S) (exchange : Exchange) → exchanges s exchange t → Led exchanges resumes s t
  led_exchange s t exchange a = (Some exchange ∷ [], (t, a, refl))

  pub led_resumed : (s t : S) → resumes s t → Led exchanges resumes s t
  led_resumed s t a = (None ∷ [], (t, a, refl))

module _ {S : Type 0} (exchanges : CallerRelation S) (resumes : S → S → Type 0) (opened : S → Option ℕ) where
  pub resumed_none : (s : S) → Resumed exchanges resumes opened s s
  resumed_none s = (led_none exchanges resumes s, refl)

  pub resumed_then : (s m t : S) → Resumed exchanges resumes opened s m → Resumed exchanges resumes opened m t → Resumed exchanges resumes opened s t
  resumed_then s m t (a, e) (b, f) = (led_then exchanges resumes s m t a b, f ∙ e)

  exchange_led : (s t : Shared S) (exchange : Exchange) → SharedExchanges exchanges resumes opened s exchange t → Led exchanges resumes s.caller t.caller
  exchange_led s t (Opens tenant refusal) (mid, a, (l, o)) = led_then exchanges resumes s.caller mid t.caller (led_exchange exchanges resumes s.caller mid _ a) l
  exchange_led s t (Calls command told) (mid, a, (l, o)) = led_then exchanges resumes s.caller mid t.caller (led_exchange exchanges resumes s.caller mid _ a) l
  exchange_led s t (Settles told) (from, mid, before, a, l, o) =
      led_then exchanges resumes s.caller from t.caller before (led_then exchanges resumes from mid t.caller (led_exchange exchanges resumes from mid _ a) l)

  -- what sessions exchange are deeds on their caller
  pub asked_led : (s t : Shared S) → Asked (SharedExchanges exchanges resumes opened) s t → Led exchanges resumes s.caller t.caller
  asked_led s t ([], e) = subst (λ (x : Shared S). Led exchanges resumes s.caller x.caller) e (led_none exchanges resumes s.caller)
  asked_led s t (x ∷ xs, (j, one, more)) = led_then exchanges resumes s.caller j.caller t.caller (exchange_led s j x one) (asked_led j t (xs, more))

  -- an exchange, and then turns of others
  exchange_resumed : (s t u : Shared S) (exchange : Exchange) → SharedExchanges exchanges resumes opened s exchange t → Resumed exchanges resumes opened t.caller u.caller → SharedExchanges exchanges resumes opened s exchange u
  exchange_resumed s t u (Opens tenant refusal) (mid, a, r) later = (mid, a, resumed_then mid t.caller u.caller r later)
  exchange_resumed s t u (Calls command told) (mid, a, r) later = (mid, a, resumed_then mid t.caller u.caller r later)
  exchange_resumed s t u (Settles told) (from, mid, before, a, l, o) (more, e) = (from, mid, before, a, led_then exchanges resumes mid t.caller u.caller l more, e ∙ o)

  -- A session's reply, and then turns of others. If its caller was not asked, they were before it.
  reply_resumed : (was_open now_open : Bool) (s t u : Shared S) (request : Request) (reply : WireReply)
      → IsReply (SharedExchanges exchanges resumes opened) was_open s request reply now_open t → Resumed exchanges resumes opened t.caller u.caller
      → (begin : Shared S) × Resumed exchanges resumes opened s.caller begin.caller × IsReply (SharedExchanges exchanges resumes opened) was_open begin request reply now_open u
  reply_resumed false now_open s t u (Open tenant) reply (refusal, a, e, o) later = (s, resumed_none s.caller, (refusal, exchange_resumed s t u (Opens tenant refusal) a later, e, o))
  reply_resumed false now_open s t u (Call command) reply (e, o, n) later = (u, subst (λ (x : Shared S). Resumed exchanges resumes opened x.caller u.caller) n later, (e, o, refl))
  reply_resumed false now_open s t u (GetStamped key columns) reply (e, o, n) later = (u, subst (λ (x : Shared S). Resumed exchanges resumes opened x.caller u.caller) n later, (e, o, refl))
  reply_resumed false now_open s t u Settle reply (e, o, n) later = (u, subst (λ (x : Shared S). Resumed exchanges resumes opened x.caller u.caller) n later, (e, o, refl))
  reply_resumed true now_open s t u (Open tenant) reply (e, o, n) later = (u, subst (λ (x : Shared S). Resumed exchanges resumes opened x.caller u.caller) n later, (e, o, refl))
  reply_resumed true now_open s t u (Call command) reply (answer, a, e, o) later = (s, resumed_none s.caller, (answer, exchange_resumed s t u (Calls command answer) a later, e, o))
  reply_resumed true now_open s t u (GetStamped key columns) reply (answer, a, e, o) later = (s, resumed_none s.caller, (answer, exchange_resumed s t u (Calls (Get key columns) answer) a later, e, o))
  reply_resumed true now_open s t u Settle reply (answer, a, e, o) later = (s, resumed_none s.caller, (answer, exchange_resumed s t u (Settles answer) a later, e, o))

  stuck_resumed : (was_open : Bool) (s t u : Shared S) (request : Request)
      → IsStuck (SharedExchanges exchanges resumes opened) was_open s request t → Resumed exchanges resumes opened t.caller u.caller → IsStuck (SharedExchanges exchanges resumes opened) was_open s request u
  stuck_resumed true s t u (Call command) a later = exchange_resumed s t u (Calls command (Err Stuck)) a later
  stuck_resumed true s t u (GetStamped key columns) a later = exchange_resumed s t u (Calls (Get key columns) (Err Stuck)) a later
  stuck_resumed true s t u (Open tenant) a later = absurd a
  stuck_resumed true s t u Settle a later = absurd a
  stuck_resumed false s t u request a later = absurd a

  replies_resumed : (was_open now_open : Bool) (s t u : Shared S) (requests : List Request) (replies : List WireReply)
      → AreReplies (SharedExchanges exchanges resumes opened) was_open s requests replies now_open t → Resumed exchanges resumes opened t.caller u.caller
      → (begin : Shared S) × Resumed exchanges resumes opened s.caller begin.caller × AreReplies (SharedExchanges exchanges resumes opened) was_open begin requests replies now_open u
  replies_resumed was_open now_open s t u [] [] (o, n) later = (u, subst (λ (x : Shared S). Resumed exchanges resumes opened x.caller u.caller) n later, (o, refl))
  replies_resumed was_open now_open s t u (request ∷ requests) (reply ∷ replies) (mid_open, mid, one, run) later =
      let (m, r, more) = replies_resumed mid_open now_open mid t u requests replies run later in
      let (begin, b, first) = reply_resumed was_open mid_open s mid m request reply one r in (begin, b, (mid_open, m, first, more))
  replies_resumed was_open now_open s t u [] (reply ∷ replies) run later = absurd run
  replies_resumed was_open now_open s t u (request ∷ requests) [] run later = absurd run

  transcript_resumed : (bytes rest text : Bytes) (was_open now_open : Bool) (s t u : Shared S)
      → Transcript (SharedExchanges exchanges resumes opened) bytes was_open s rest now_open t text → Resumed exchanges resumes opened t.caller u.caller
      → (begin : Shared S) × Resumed exchanges resumes opened s.caller begin.caller × Transcript (SharedExchanges exchanges resumes opened) bytes was_open begin rest now_open u text
  transcript_resumed bytes rest text was_open now_open s t u transcript later =
      let (begin, b, run) = replies_resumed was_open now_open s t u transcript.requests transcript.replies transcript.run later in
      (begin, b, record { requests = transcript.requests; replies = transcript.replies; each = transcript.each; spelled = transcript.spelled; told = transcript.told; run = run })

  asks_resumed : (was_open : Bool) (s t u : Shared S) (rest : Bytes)
      → AsksAtMostOne (SharedExchanges exchanges resumes opened) was_open s rest t → Resumed exchanges resumes opened t.caller u.caller
      → (begin : Shared S) × Resumed exchanges resumes opened s.caller begin.caller × AsksAtMostOne (SharedExchanges exchanges resumes opened) was_open begin rest u
  asks_resumed was_open s t u rest (inl n) later = (u, subst (λ (x : Shared S). Resumed exchanges resumes opened x.caller u.caller) n later, inl refl)
  asks_resumed was_open s t u rest (inr untold) later =
      elim untold.run [
        | inl (reply, now_open, one) ↦
            let (begin, b, first) = reply_resumed was_open now_open s t u untold.request reply one later in
            (begin, b, inr (record { request = untold.request; more = untold.more; fits = untold.fits; spelled = untold.spelled; run = inl (reply, now_open, first) }))
        | inr stuck ↦ (s, resumed_none s.caller, inr (record { request = untold.request; more = untold.more; fits = untold.fits; spelled = untold.spelled; run = inr (stuck_resumed was_open s t u untold.request stuck later) }))
      ]

  ends_resumed : (result : Result Ended ServeFault) (left : Option Bytes) (rest text written : Bytes) (is_open : Bool) (s t u : Shared S)
      → EndsAs (SharedExchanges exchanges resumes opened) result left rest text written is_open s t → Resumed exchanges resumes opened t.caller u.caller
      → (begin : Shared S) × Resumed exchanges resumes opened s.caller begin.caller × EndsAs (SharedExchanges exchanges resumes opened) result left rest text written is_open begin u
  ends_resumed (Ok ends.Closed) left rest text written is_open s t u (a, b, c, n) later = (u, subst (λ (x : Shared S). Resumed exchanges resumes opened x.caller u.caller) n later, (a, b, c, refl))
  ends_resumed (Ok ends.Cut) left rest text written is_open s t u (a, b, c, d, n) later = (u, subst (λ (x : Shared S). Resumed exchanges resumes opened x.caller u.caller) n later, (a, b, c, d, refl))
  ends_resumed (Ok ends.Refused) left rest text written is_open s t u (a, b, n) later = (u, subst (λ (x : Shared S). Resumed exchanges resumes opened x.caller u.caller) n later, (a, b, refl))
  ends_resumed (Err faults.Read) left rest text written is_open s t u (a, b, n) later = (u, subst (λ (x : Shared S). Resumed exchanges resumes opened x.caller u.caller) n later, (a, b, refl))
  ends_resumed (Err faults.Write) left rest text written is_open s t u (a, asks) later =
      let (begin, b, more) = asks_resumed is_open s t u rest asks later in (begin, b, (a, more))
  ends_resumed (Err faults.Memory) left rest text written is_open s t u (a, asks) later =
      let (begin, b, more) = asks_resumed is_open s t u rest asks later in (begin, b, (a, more))

  stands_resumed : (before left : Option Bytes) (told rest : Bytes) (s t u : Shared S) (state : State) (is_open : Bool)
      → Stands (SharedExchanges exchanges resumes opened) before left told s state rest is_open t → Resumed exchanges resumes opened t.caller u.caller
      → (begin : Shared S) × Resumed exchanges resumes opened s.caller begin.caller × Stands (SharedExchanges exchanges resumes opened) before left told begin state rest is_open u
  stands_resumed before left told rest s t u Waits is_open (read, consumed, transcript, partial) later =
      let (begin, b, more) = transcript_resumed read rest told false is_open s t u transcript later in (begin, b, (read, consumed, more, partial))
  stands_resumed before left told rest s t u Goes is_open (read, consumed, transcript) later =
      let (begin, b, more) = transcript_resumed read rest told false is_open s t u transcript later in (begin, b, (read, consumed, more))
  stands_resumed before left told rest s t u (HasEnded result) is_open serves later =
      let (mid, m, ended) = ends_resumed result left serves.rest serves.text serves.written serves.is_open serves.mid t u serves.ends later in
      let (begin, b, more) = transcript_resumed serves.read serves.rest serves.text false serves.is_open s serves.mid mid serves.transcript m in (
        begin,
        b,
        record { read = serves.read; written = serves.written; rest = serves.rest; text = serves.text; is_open = serves.is_open; mid = mid; consumed = serves.consumed; appended = serves.appended; transcript = more; ends = ended; cause = serves.cause },
      )

  -- a session whose caller was led on by the turns of others
  pub session_resumed : (before left held holds : Option Bytes) (s t u : Shared S) (c : Connection)
      → IsSession (SharedExchanges exchanges resumes opened) before left held holds s c t → Resumed exchanges resumes opened t.caller u.caller
      → (begin : Shared S) × Resumed exchanges resumes opened s.caller begin.caller × IsSession (SharedExchanges exchanges resumes opened) before left held holds begin c u
  session_resumed before left held holds s t u c (written, some, stands) later =
      let (begin, b, more) = stands_resumed before left (written ++ c.unsent.bytes.items) c.input.items s t u c.state c.opened stands later in (begin, b, (written, some, more))
