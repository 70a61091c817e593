-- A session over sorted maps writes one text, where no reply tells of want and no request asks for a stamp. For the law `one_text`.
use Rattle.std.proofs.Common.{◌≡◌, ◌⊎◌, ℕ, Bool, true, false, cond, eqb, List, [], ◌∷◌, Option, None, Some, Result, Ok, Err, refl, sym, ap, subst, ◌∙◌, inl, inr}
use Rattle.std.proofs.lemmas.Option.{same_Some}
use Rattle.std.specs.List.{flat_map, AllByRecursion}
use Rattle.mt_rows.specs.{Rows.Bytes, declared.command.Command.Command, declared.reply.Reply.Reply, declared.reply.Reply.TheVariants.NoMemory}
use Rattle.mt_rows.specs.{declared.refusal.Refusal.Refusal, declared.refusal.Refusal.TheVariants.{Memory, Spent}, Commands.IsFirstFault, Maps.{reply_of, map_after}}
use Rattle.mt_wire.specs.{declared.message.Request.Request, declared.message.Request.TheVariants.{Open, Call, GetStamped, Settle}, declared.message.WireReply.WireReply}
use Rattle.mt_wire.specs.{declared.message.WireReply.TheVariants.Told, Asked.shown_as, Fronts.IsReadingEnd, Replies.reply_spelling}
use Rattle.mt_wire.proofs.{FrameLaws.one_reading, RequestLaws.requests}
use Rattle.mt_caller.specs.{declared.caller.CallerFault.CallerFault, declared.caller.CallerFault.TheVariants.{Refused, Stuck}}
use Rattle.mt_session.specs.Sessions.{IsReply, AreReplies, Transcript, refused, call_told, open_told, open_after, settle_told}
use Rattle.mt_session.proofs.PlainCallers.{fault_not_taken, fault_same}
use Rattle.mt_alone.specs.TenantMaps.{TenantMaps, Applies, GivesNumbers, MapsOpen, MapsRefusal, MapsAnswer, MapsCall, MapsExchange}
use Rattle.mt_alone.specs.Texts.{IsAmple, IsWithoutStamp, AsksNoStamp, HaveSameRows, AreSameButStamps}
use Rattle.mt_alone.proofs.Rows.{same_reply, same_after}

-- what stays is the same as before
stays_same : (d c e f : TenantMaps) → e ≡ d → f ≡ c → AreSameButStamps d c → AreSameButStamps e f
stays_same d c e f is becomes s = subst (λ (x : TenantMaps). AreSameButStamps x f) (sym is) (subst (λ (x : TenantMaps). AreSameButStamps d x) (sym becomes) s)

-- and what stays but for numbers that were given
numbers_same : (d c e f : TenantMaps) → GivesNumbers d e → GivesNumbers c f → AreSameButStamps d c → AreSameButStamps e f
numbers_same d c e f g h s =
    stays_same (record d { last = e.last }) (record c { last = f.last }) e f g.1 h.1 (record { quotas = s.quotas; opened = s.opened; rows = s.rows })

-- what opens a tenant is one answer
open_same : (quota : Option ℕ) (tenant : ℕ) (d c : TenantMaps) (a b : Option Refusal) (e f : TenantMaps) → AreSameButStamps d c → MapsOpen quota d tenant a e → MapsOpen quota c tenant b f → (a ≡ b) × AreSameButStamps e f
open_same None tenant d c a b e f s p q = (p.0 ∙ sym q.0, stays_same d c e f p.1 q.1 s)
open_same (Some quota) tenant d c a b e f s p q = (
  p.0 ∙ sym q.0,
  stays_same (record d { opened = Some tenant }) (record c { opened = Some tenant }) e f p.1 q.1 (record { quotas = s.quotas; opened = refl; rows = s.rows }),
)

-- a refusal that tells of no want is a first fault, and leaves the maps
pub first_fault : (tenant quota : ℕ) (d : TenantMaps) (command : Command) (refusal : Refusal) (e : TenantMaps) (w : WireReply)
    → MapsRefusal tenant quota d command refusal e → call_told false (Err (Refused refusal)) ≡ Some w → IsAmple w → IsFirstFault command refusal × GivesNumbers d e
first_fault tenant quota d command Memory e w is told ample = absurd (ample.1 (sym (same_Some (refused Memory) w told)))
first_fault tenant quota d command Spent e w is told ample = absurd (ample.2 (sym (same_Some (refused Spent) w told)))
first_fault tenant quota d command _ e w is told ample = is

-- a reply that was given by the map, where memory sufficed
by_map : (tenant quota : ℕ) (d : TenantMaps) (command : Command) (reply : Reply) (e : TenantMaps) (w : WireReply)
    → ((reply ≡ reply_of quota command (d.maps tenant)) × Applies tenant quota command d e) ⊎ ((reply ≡ NoMemory) × GivesNumbers d e)
    → call_told false (Ok reply) ≡ Some w → IsAmple w
    → (w ≡ Told (shown_as false (reply_of quota command (d.maps tenant)))) × Applies tenant quota command d e
by_map tenant quota d command reply e w (inl h) told ample = (sym (same_Some (Told (shown_as false reply)) w told) ∙ ap (λ r. Told (shown_as false r)) h.0, h.1)
by_map tenant quota d command reply e w (inr h) told ample = absurd (ample.0 (sym (same_Some (Told (shown_as false reply)) w told) ∙ ap (λ r. Told (shown_as false r)) h.0))

-- a command of a tenant leaves the same rows, whatever its number
applied_same : (tenant quota : ℕ) (command : Command) (d c e f : TenantMaps) → AreSameButStamps d c → IsWithoutStamp command → Applies tenant quota command d e → Applies tenant quota command c f → AreSameButStamps e f
applied_same tenant quota command d c e f s free a b =
    stays_same _ _ e f a.3 b.3 (record { quotas = s.quotas; opened = s.opened; rows = λ t. by t (eqb t tenant) })
  where
    by : (t : ℕ) (x : Bool) → HaveSameRows (cond x (map_after quota a.0 command (d.maps tenant)) (d.maps t)) (cond x (map_after quota b.0 command (c.maps tenant)) (c.maps t))
    by t true = same_after quota a.0 b.0 command (d.maps tenant) (c.maps tenant) (s.rows tenant) free
    by t false = s.rows t

-- a tenant's command has one answer
answer_same : (tenant quota : ℕ) (d c : TenantMaps) (command : Command) (a b : Result Reply CallerFault) (e f : TenantMaps) (w v : WireReply) → AreSameButStamps d c → IsWithoutStamp command
    → MapsAnswer tenant quota d command a e → MapsAnswer tenant quota c command b f → call_told false a ≡ Some w → call_told false b ≡ Some v → IsAmple w → IsAmple v → (w ≡ v) × AreSameButStamps e f
answer_same tenant quota d c command (Ok r) (Ok y) e f w v s free p q told said ample enough =
    let one = by_map tenant quota d command r e w p.1 told ample in
    let two = by_map tenant quota c command y f v q.1 said enough in
    (one.0 ∙ ap Told (same_reply quota command (d.maps tenant) (c.maps tenant) (s.rows tenant) free) ∙ sym two.0, applied_same tenant quota command d c e f s free one.1 two.1)
answer_same tenant quota d c command (Ok r) (Err (Refused g)) e f w v s free p q told said ample enough = absurd (fault_not_taken command g p.0 (first_fault tenant quota c command g f v q said enough).0)
answer_same tenant quota d c command (Err (Refused g)) (Ok y) e f w v s free p q told said ample enough = absurd (fault_not_taken command g q.0 (first_fault tenant quota d command g e w p told ample).0)
answer_same tenant quota d c command (Err (Refused g)) (Err (Refused h)) e f w v s free p q told said ample enough =
    let one = first_fault tenant quota d command g e w p told ample in
    let two = first_fault tenant quota c command h f v q said enough in
    let same = fault_same command g h one.0 two.0 in
    (same_Some w v (sym told ∙ ap (λ (r : Refusal). call_told false (Err (Refused r))) same ∙ said), numbers_same d c e f one.1 two.1 s)
answer_same tenant quota d c command (Err Stuck) b e f w v s free p q told said ample enough = absurd (cc)
answer_same tenant quota d c command (Ok r) (Err Stuck) e f w v s free p q told said ample enough = absurd (cc)
answer_same tenant quota d c command (Err (Refused g)) (Err Stuck) e f w v s free p q told said ample enough = absurd (cc)

-- and so has a command of the opened tenant
call_same : (opened : Option ℕ) (command : Command) (d c : TenantMaps) (a b : Result Reply CallerFault) (e f : TenantMaps) (w v : WireReply) → AreSameButStamps d c → IsWithoutStamp command
    → MapsCall opened d command a e → MapsCall opened c command b f → call_told false a ≡ Some w → call_told false b ≡ Some v → IsAmple w → IsAmple v → (w ≡ v) × AreSameButStamps e f
call_same None command d c a b e f w v s free p q told said ample enough =
    let same : a ≡ b = p.0 ∙ sym q.0 in
    (same_Some w v (sym told ∙ ap (call_told false) same ∙ said), stays_same d c e f p.1 q.1 s)
call_same (Some tenant) command d c a b e f w v s free (x, at, p) (y, here, q) told said ample enough =
    let same : y ≡ x = same_Some y x (sym here ∙ ap (λ (g : ℕ → Option ℕ). g tenant) s.quotas ∙ at) in
    answer_same tenant x d c command a b e f w v s free p (subst (λ (n : ℕ). MapsAnswer tenant n c command b f) same q) told said ample enough

-- a request has one reply
reply_same : (r : Request) (o : Bool) (d c : TenantMaps) (w v : WireReply) (p q : Bool) (e f : TenantMaps) → AreSameButStamps d c → AsksNoStamp r
    → IsReply MapsExchange o d r w p e → IsReply MapsExchange o c r v q f → IsAmple w → IsAmple v → (w ≡ v) × (p ≡ q) × AreSameButStamps e f
reply_same (Open tenant) false d c w v p q e f s free (a, given, told, stands) (b, gave, said, opened) ample enough =
    let same = open_same (d.quotas tenant) tenant d c a b e f s given (subst (λ (g : ℕ → Option ℕ). MapsOpen (g tenant) c tenant b f) s.quotas gave) in
    (told ∙ ap open_told same.0 ∙ sym said, stands ∙ ap open_after same.0 ∙ sym opened, same.1)
reply_same (Open tenant) true d c w v p q e f s free (told, stands, stays) (said, opened, stayed) ample enough = (told ∙ sym said, stands ∙ sym opened, stays_same d c e f stays stayed s)
reply_same (Call command) false d c w v p q e f s free (told, stands, stays) (said, opened, stayed) ample enough = (told ∙ sym said, stands ∙ sym opened, stays_same d c e f stays stayed s)
reply_same (Call command) true d c w v p q e f s free (a, given, told, stands) (b, gave, said, opened) ample enough =
    let same = call_same d.opened command d c a b e f w v s free given (subst (λ (x : Option ℕ). MapsCall x c command b f) s.opened gave) told said ample enough in
    (same.0, stands ∙ sym opened, same.1)
reply_same (GetStamped key columns) o d c w v p q e f s free a b ample enough = absurd free
reply_same Settle false d c w v p q e f s free (told, stands, stays) (said, opened, stayed) ample enough = (told ∙ sym said, stands ∙ sym opened, stays_same d c e f stays stayed s)
reply_same Settle true d c w v p q e f s free (a, given, told, stands) (b, gave, said, opened) ample enough =
    (told ∙ ap settle_told (given.0 ∙ sym gave.0) ∙ sym said, stands ∙ sym opened, stays_same d c e f given.1 gave.1 s)

-- and so have requests one after the other
replies_same : (rs : List Request) (ws vs : List WireReply) (o : Bool) (d c : TenantMaps) (p q : Bool) (e f : TenantMaps) → AreSameButStamps d c → AllByRecursion AsksNoStamp rs
    → AreReplies MapsExchange o d rs ws p e → AreReplies MapsExchange o c rs vs q f → AllByRecursion IsAmple ws → AllByRecursion IsAmple vs → (ws ≡ vs) × AreSameButStamps e f
replies_same [] [] [] o d c p q e f s free a b ample enough = (refl, stays_same d c e f a.1 b.1 s)
replies_same (r ∷ rs) (w ∷ ws) (v ∷ vs) o d c p q e f s free (n, m, step, run) (k, l, move, walk) ample enough =
    let one = reply_same r o d c w v n k m l s free.0 step move ample.0 enough.0 in
    let heads = one.0 in
    let walked = subst (λ (x : Bool). AreReplies MapsExchange x l rs vs q f) (sym one.1) walk in
    let others = replies_same rs ws vs n m l p q e f one.2 free.1 run walked ample.1 enough.1 in
    let tails = others.0 in
    (cc, others.1)
replies_same [] (w ∷ ws) vs o d c p q e f s free a b ample enough = absurd a
replies_same (r ∷ rs) [] vs o d c p q e f s free a b ample enough = absurd a
replies_same [] [] (v ∷ vs) o d c p q e f s free a b ample enough = absurd b
replies_same (r ∷ rs) (w ∷ ws) [] o d c p q e f s free a b ample enough = absurd b

-- the bytes have one text
pub one_text : (bytes rest left text words : Bytes) (d c e f : TenantMaps) (o p : Bool) (a : Transcript MapsExchange bytes false d rest o e text) (b : Transcript MapsExchange bytes false c left p f words)
    → AreSameButStamps d c → IsReadingEnd rest → IsReadingEnd left → AllByRecursion AsksNoStamp a.requests → AllByRecursion IsAmple a.replies → AllByRecursion IsAmple b.replies
    → (text ≡ words) × (rest ≡ left) × AreSameButStamps e f
one_text bytes rest left text words d c e f o p a b s stops ends free ample enough =
    let read = one_reading requests a.requests b.requests rest left a.each b.each stops ends (sym a.spelled ∙ b.spelled) in
    let walk = subst (λ (rs : List Request). AreReplies MapsExchange false c rs b.replies p f) (sym read.0) b.run in
    let same = replies_same a.requests a.replies b.replies false d c o p e f s free a.run walk ample enough in
    (a.told ∙ ap (flat_map reply_spelling) same.0 ∙ sym b.told, read.1, same.1)
