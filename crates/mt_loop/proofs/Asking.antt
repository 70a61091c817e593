-- What one request asked the caller, if it is no Settle of an open session.
use Rattle.std.proofs.Common.{◌≡◌, ◌≢◌, ◌≤◌, ◌<◌, ℕ, Bool, true, false, List, [], ◌∷◌, ◌++◌, length, Option, Result, Ok, Err, inl, inr, refl, sym, ap, subst, ◌∙◌, append-nil, arith}
use Rattle.std.proofs.lemmas.List.{Concat.flat_map-cons}
use Rattle.std.specs.List.{flat_map}
use Rattle.mt_rows.specs.{Rows.Bytes, declared.command.Command.TheVariants.Get}
use Rattle.mt_wire.specs.{declared.message.Request.Request, declared.message.Request.TheVariants.{Open, Call, Settle, GetStamped}, declared.message.WireReply.WireReply, Requests.spelling}
use Rattle.mt_caller.specs.{Exchanges.{Exchange, Opens, Calls, CallerRelation}, declared.caller.CallerFault.TheVariants.Stuck}
use Rattle.mt_session.specs.{Sessions.{IsReply, IsStuck, AreReplies}, Endings.{AsksAtMostOne}, Answering.{IsAnswered}}
use Rattle.mt_session.specs.{declared.answering.Stop.Stop, declared.ended.ServeFault.ServeFault}
use Rattle.mt_session.specs.declared.answering.Stop.TheVariants as stops
use Rattle.mt_loop.specs.{Connections.BeginsWithSettle, Deeds.{Asked, ButSettles}}

module _ {S : Type 0} (exchanges : CallerRelation S) where
  asked_one : (s t : S) (exchange : Exchange) → ButSettles exchanges s exchange t → Asked (ButSettles exchanges) s t
  asked_one s t exchange a = (exchange ∷ [], (t, a, refl))

  asked_same : (s t : S) → t ≡ s → Asked (ButSettles exchanges) s t
  asked_same s t n = ([], sym n)

  asked_reply : (was_open now_open : Bool) (s t : S) (request : Request) (reply : WireReply) → (was_open ≡ true → request ≢ Settle)
      → IsReply exchanges was_open s request reply now_open t → Asked (ButSettles exchanges) s t
  asked_reply false now_open s t (Open tenant) reply other (refusal, a, e, o) = asked_one s t (Opens tenant refusal) a
  asked_reply false now_open s t (Call command) reply other (e, o, n) = asked_same s t n
  asked_reply false now_open s t (GetStamped key columns) reply other (e, o, n) = asked_same s t n
  asked_reply false now_open s t Settle reply other (e, o, n) = asked_same s t n
  asked_reply true now_open s t (Open tenant) reply other (e, o, n) = asked_same s t n
  asked_reply true now_open s t (Call command) reply other (answer, a, e, o) = asked_one s t (Calls command answer) a
  asked_reply true now_open s t (GetStamped key columns) reply other (answer, a, e, o) = asked_one s t (Calls (Get key columns) answer) a
  asked_reply true now_open s t Settle reply other step = absurd (other refl refl)

  asked_stuck : (was_open : Bool) (s t : S) (request : Request) → IsStuck exchanges was_open s request t → Asked (ButSettles exchanges) s t
  asked_stuck true s t (Call command) a = asked_one s t (Calls command (Err Stuck)) a
  asked_stuck true s t (GetStamped key columns) a = asked_one s t (Calls (Get key columns) (Err Stuck)) a
  asked_stuck true s t (Open tenant) a = absurd a
  asked_stuck true s t Settle a = absurd a
  asked_stuck false s t request a = absurd a

  -- the request at the front is no Settle
  front : (was_open : Bool) (input rest : Bytes) (request : Request) → input ≡ spelling request ++ rest → (was_open ≡ true → BeginsWithSettle input → ⊥) → was_open ≡ true → request ≢ Settle
  front was_open input rest request e other is_open settles = other is_open (rest, e ∙ ap (λ (r : Request). spelling r ++ rest) settles)

  -- one request at most was answered
  asked_replies : (was_open now_open : Bool) (s t : S) (input rest : Bytes) (requests : List Request) (replies : List WireReply) → length requests ≤ 1 → (was_open ≡ true → BeginsWithSettle input → ⊥)
      → input ≡ flat_map spelling requests ++ rest → AreReplies exchanges was_open s requests replies now_open t → Asked (ButSettles exchanges) s t
  asked_replies was_open now_open s t input rest [] [] few other e (o, n) = asked_same s t n
  asked_replies was_open now_open s t input rest (request ∷ []) (reply ∷ []) few other e (mid_open, mid, one, (o, n)) =
      let spelled : input ≡ spelling request ++ rest = e ∙ ap (λ (x : Bytes). x ++ rest) (flat_map-cons spelling request [] ∙ append-nil (spelling request)) in
      subst (λ (x : S). Asked (ButSettles exchanges) s x) (sym n) (asked_reply was_open mid_open s mid request reply (front was_open input rest request spelled other) one)
  asked_replies was_open now_open s t input rest (request ∷ []) (reply ∷ next ∷ replies) few other e (mid_open, mid, one, run) = absurd run
  asked_replies was_open now_open s t input rest (request ∷ next ∷ requests) replies few other e run = absurd (omega arith)
  asked_replies was_open now_open s t input rest [] (reply ∷ replies) few other e run = absurd run
  asked_replies was_open now_open s t input rest (request ∷ []) [] few other e run = absurd run

  -- none was answered, and memory ran out
  asked_untold : (was_open mid_open : Bool) (s mid t : S) (input rest : Bytes) (requests : List Request) (replies : List WireReply) → length requests ≤ 0 → (was_open ≡ true → BeginsWithSettle input → ⊥)
      → input ≡ flat_map spelling requests ++ rest → AreReplies exchanges was_open s requests replies mid_open mid → AsksAtMostOne exchanges mid_open mid rest t → Asked (ButSettles exchanges) s t
  asked_untold was_open mid_open s mid t input rest [] [] few other e (o, n) (inl same) = asked_same s t (same ∙ n)
  asked_untold was_open mid_open s mid t input rest [] [] few other e (o, n) (inr some) =
      let untold = rw (o, n) at some in
      elim untold.run [
        | inl (reply, now_open, one) ↦ asked_reply was_open now_open s t untold.request reply (front was_open input untold.more untold.request (e ∙ untold.spelled) other) one
        | inr stuck ↦ asked_stuck was_open s t untold.request stuck
      ]
  asked_untold was_open mid_open s mid t input rest [] (reply ∷ replies) few other e run asks = absurd run
  asked_untold was_open mid_open s mid t input rest (request ∷ requests) replies few other e run asks = absurd (omega arith)

  pub asked_answered : (count : ℕ) (input rest kept keeps : Bytes) (was_open now_open : Bool) (s t : S) (held holds : Option Bytes) (result : Result Stop ServeFault) → count ≤ 1 → (result ≡ Ok stops.Memory → count < 1)
      → (was_open ≡ true → BeginsWithSettle input → ⊥) → IsAnswered exchanges count input was_open s held kept result rest now_open t holds keeps → Asked (ButSettles exchanges) s t
  asked_answered count input rest kept keeps was_open now_open s t held holds (Ok stops.Waits) few last other (text, one, more, partial) =
      asked_replies was_open now_open s t input rest one.transcript.requests one.transcript.replies (let many = one.many in omega arith) other one.transcript.spelled one.transcript.run
  asked_answered count input rest kept keeps was_open now_open s t held holds (Ok stops.Full) few last other (text, one, more) =
      asked_replies was_open now_open s t input rest one.transcript.requests one.transcript.replies (let many = one.many in omega arith) other one.transcript.spelled one.transcript.run
  asked_answered count input rest kept keeps was_open now_open s t held holds (Ok stops.Refused) few last other (text, one, more, bad) =
      asked_replies was_open now_open s t input rest one.transcript.requests one.transcript.replies (let many = one.many in omega arith) other one.transcript.spelled one.transcript.run
  asked_answered count input rest kept keeps was_open now_open s t held holds (Ok stops.Memory) few last other (text, bytes, mid_open, mid, one, puts, asks) =
      asked_untold was_open mid_open s mid t input bytes one.transcript.requests one.transcript.replies (let many = one.many in let none = last refl in omega arith) other one.transcript.spelled one.transcript.run asks
  asked_answered count input rest kept keeps was_open now_open s t held holds (Err fault) few last other (is, text, one, more) =
      asked_replies was_open now_open s t input rest one.transcript.requests one.transcript.replies (let many = one.many in omega arith) other one.transcript.spelled one.transcript.run
