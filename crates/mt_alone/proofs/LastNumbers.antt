-- A session over sorted maps is refused nothing for want of numbers unless the last one is given. For the law `spent_at_the_last_number`.
use Rattle.std.proofs.Common.{◌≡◌, ◌≢◌, ℕ, ◌<◌, ◌≤◌, Bool, true, false, List, [], ◌∷◌, Option, None, Some, Result, Ok, Err, refl, sym, ap, subst, ◌∙◌, inl, inr, arith}
use Rattle.std.proofs.lemmas.Option.{same_Some}
use Rattle.std.specs.{Prelude.◌^◌, List.AllByRecursion}
use Rattle.mt_rows.specs.{Rows.Bytes, declared.command.Command.Command, declared.command.Command.TheVariants.Get, declared.reply.Reply.Reply, Refusals.number_of}
use Rattle.mt_rows.specs.{declared.refusal.Refusal.Refusal, declared.refusal.Refusal.TheVariants.{NoTenant, NotOpen, OpenTwice, NoStore, Spent}}
use Rattle.mt_wire.specs.{declared.message.Request.Request, declared.message.Request.TheVariants.{Open, Call, GetStamped, Settle}, declared.message.WireReply.WireReply}
use Rattle.mt_caller.specs.{declared.caller.CallerFault.CallerFault, declared.caller.CallerFault.TheVariants.{Refused, Stuck}}
use Rattle.mt_session.specs.Sessions.{IsReply, AreReplies, Transcript, refused, call_told, open_told, settle_told}
use Rattle.mt_alone.specs.TenantMaps.{TenantMaps, MayApply, MapsOpen, MapsRefusal, MapsAnswer, MapsCall, MapsExchange}

-- numbers don't fall, and what is told is no refusal for want of numbers unless the last one is given
record IsNumbered (d : TenantMaps) (w : WireReply) (e : TenantMaps) : Type 0 where
  pub rises : d.last ≤ e.last
  pub spent : w ≡ refused Spent → 2 ^ 59 ≤ e.last

-- a refusal is known by its number
ninth : (r : Refusal) → number_of r ≡ 9 → r ≡ Spent
ninth Spent is = refl
ninth _ is = absurd (omega (arith, is))

refused_so : (r : Refusal) → refused r ≡ refused Spent → r ≡ Spent
refused_so r is = ninth r (let number : number_of r ≡ number_of Spent = cc in number)

-- another refusal, of maps that stay
other_told : (d e : TenantMaps) (r : Refusal) (w : WireReply) → r ≢ Spent → w ≡ refused r → e ≡ d → IsNumbered d w e
other_told d e r w other told stays = record {
  rises = omega (arith, ap (λ (x : TenantMaps). x.last) stays);
  spent = λ is. absurd (other (refused_so r (sym told ∙ is)));
}

may_rise : (tenant quota : ℕ) (command : Command) (d e : TenantMaps) → MayApply tenant quota command d e → d.last ≤ e.last
may_rise tenant quota command d e (inl a) = omega (arith, a.1, a.2)
may_rise tenant quota command d e (inr g) = g.0

refusal_rises : (tenant quota : ℕ) (command : Command) (d : TenantMaps) (r : Refusal) (e : TenantMaps) → MapsRefusal tenant quota d command r e → d.last ≤ e.last
refusal_rises tenant quota command d Spent e p = may_rise tenant quota command d e p.2
refusal_rises tenant quota command d _ e p = p.1.0

-- what opens a tenant
open_numbered : (quota : Option ℕ) (tenant : ℕ) (d : TenantMaps) (a : Option Refusal) (e : TenantMaps) (w : WireReply) → MapsOpen quota d tenant a e → w ≡ open_told a → IsNumbered d w e
open_numbered None tenant d a e w p told = other_told d e (NoTenant tenant) w (λ is. absurd (cc)) (told ∙ ap open_told p.0) p.1
open_numbered (Some quota) tenant d a e w p told = record {
  rises = omega (arith, ap (λ (x : TenantMaps). x.last) p.1);
  spent = λ is. absurd (let no = sym (told ∙ ap open_told p.0) ∙ is in cc);
}

-- a command
answer_numbered : (stamps : Bool) (tenant quota : ℕ) (d : TenantMaps) (command : Command) (a : Result Reply CallerFault) (e : TenantMaps) (w : WireReply)
    → MapsAnswer tenant quota d command a e → call_told stamps a ≡ Some w → IsNumbered d w e
answer_numbered stamps tenant quota d command (Ok reply) e w p told = record {
  rises = elim p.1 [
    | inl h ↦ may_rise tenant quota command d e (inl h.1)
    | inr h ↦ h.1.0
  ];
  spent = λ is. absurd (cc);
}
answer_numbered stamps tenant quota d command (Err (Refused r)) e w p told = record {
  rises = refusal_rises tenant quota command d r e p;
  spent = λ is.
      let same : r ≡ Spent = refused_so r (same_Some (refused r) w told ∙ is) in
      let all = subst (λ x. MapsRefusal tenant quota d command x e) same p in
      omega (arith, all.1);
}
answer_numbered stamps tenant quota d command (Err Stuck) e w p told = absurd (cc)

call_numbered : (stamps : Bool) (opened : Option ℕ) (d : TenantMaps) (command : Command) (a : Result Reply CallerFault) (e : TenantMaps) (w : WireReply)
    → MapsCall opened d command a e → call_told stamps a ≡ Some w → IsNumbered d w e
call_numbered stamps None d command a e w p told =
    other_told d e NotOpen w (λ is. absurd (cc)) (sym (same_Some (refused NotOpen) w (sym (ap (call_told stamps) p.0) ∙ told))) p.1
call_numbered stamps (Some tenant) d command a e w (quota, at, p) told = answer_numbered stamps tenant quota d command a e w p told

-- a request has a reply that is so
reply_numbered : (r : Request) (o : Bool) (d : TenantMaps) (w : WireReply) (p : Bool) (e : TenantMaps) → IsReply MapsExchange o d r w p e → IsNumbered d w e
reply_numbered (Open tenant) false d w p e (a, given, told, stands) = open_numbered (d.quotas tenant) tenant d a e w given told
reply_numbered (Open tenant) true d w p e (told, stands, stays) = other_told d e OpenTwice w (λ is. absurd (cc)) told stays
reply_numbered (Call command) false d w p e (told, stands, stays) = other_told d e NotOpen w (λ is. absurd (cc)) told stays
reply_numbered (Call command) true d w p e (a, given, told, stands) = call_numbered false d.opened d command a e w given told
reply_numbered (GetStamped key columns) false d w p e (told, stands, stays) = other_told d e NotOpen w (λ is. absurd (cc)) told stays
reply_numbered (GetStamped key columns) true d w p e (a, given, told, stands) = call_numbered true d.opened d (Get key columns) a e w given told
reply_numbered Settle false d w p e (told, stands, stays) = other_told d e NotOpen w (λ is. absurd (cc)) told stays
reply_numbered Settle true d w p e (a, given, told, stands) = other_told d e NoStore w (λ is. absurd (cc)) (told ∙ ap settle_told given.0) given.1

replies_numbered : (rs : List Request) (ws : List WireReply) (o : Bool) (d : TenantMaps) (p : Bool) (e : TenantMaps) → AreReplies MapsExchange o d rs ws p e
    → (d.last ≤ e.last) × (e.last < 2 ^ 59 → AllByRecursion (λ w. w ≢ refused Spent) ws)
replies_numbered [] [] o d p e a = (omega (arith, ap (λ (x : TenantMaps). x.last) a.1), λ few. tt)
replies_numbered (r ∷ rs) (w ∷ ws) o d p e (n, m, step, run) =
    let one = reply_numbered r o d w n m step in
    let rest = replies_numbered rs ws n m p e run in
    (omega (arith, one.rises, rest.0), λ few. (λ is. omega (arith, one.spent is, rest.0, few), rest.1 few))
replies_numbered [] (w ∷ ws) o d p e a = absurd a
replies_numbered (r ∷ rs) [] o d p e a = absurd a

pub never_spent : (bytes rest text : Bytes) (d e : TenantMaps) (o : Bool) (a : Transcript MapsExchange bytes false d rest o e text) → e.last < 2 ^ 59
    → AllByRecursion (λ w. w ≢ refused Spent) a.replies
never_spent bytes rest text d e o a few = (replies_numbered a.requests a.replies false d o e a.run).1 few
