-- A session over plain maps writes one text, where memory suffices. For the law `one_text`.
use Rattle.std.proofs.Common.{◌≡◌, ◌⊎◌, ℕ, Bool, true, false, List, [], ◌∷◌, Option, None, Some, Result, Ok, Err, refl, sym, ap, subst, ◌∙◌, inl, inr}
use Rattle.std.proofs.lemmas.Option.{same_Some}
use Rattle.std.specs.{Prelude.slice_set, List.{flat_map, AllByRecursion}}
use Rattle.mt_rows.specs.{Rows.Bytes, declared.command.Command.Command, declared.reply.Reply.Reply, declared.reply.Reply.TheVariants.NoMemory}
use Rattle.mt_rows.specs.{declared.refusal.Refusal.Refusal, declared.refusal.Refusal.TheVariants.{KeyLong, Column, ColumnLong, ScanCount}}
use Rattle.mt_rows.specs.{Commands.{IsTaken, IsFirstFault}, Maps.{reply_of, map_after}, declared.command.Command.TheVariants.Get}
use Rattle.mt_wire.specs.{declared.message.Request.Request, declared.message.Request.TheVariants.{Open, Call, Settle, GetStamped}}
use Rattle.mt_wire.specs.{declared.message.WireReply.WireReply, declared.message.WireReply.TheVariants.Told, Fronts.IsReadingEnd, Replies.reply_spelling}
use Rattle.mt_wire.specs.Asked.{shown_as}
use Rattle.mt_wire.proofs.{FrameLaws.one_reading, RequestLaws.requests}
use Rattle.mt_caller.specs.{declared.caller.CallerFault.CallerFault, declared.caller.CallerFault.TheVariants.{Refused, Stuck}}
use Rattle.mt_session.specs.{declared.plain.PlainTenant.PlainTenant, Sessions.{IsReply, AreReplies, Transcript, call_told, open_told, open_after, settle_told}}
use Rattle.mt_session.specs.Plain.{PlainTenants, place_of, PlainOpens, TenantCalls, PlainCalls, PlainExchanges, IsAmple, next_number}

-- a command that is taken has no fault
pub fault_not_taken : (command : Command) (fault : Refusal) → IsTaken command → IsFirstFault command fault → ⊥
fault_not_taken command KeyLong t p = p t.key
fault_not_taken command Column t p = p.1 t.columns
fault_not_taken command ColumnLong t p = p.2 t.short
fault_not_taken command ScanCount t p = p.3 t.count
fault_not_taken command _ t p = absurd p

-- a command has one first fault
pub fault_same : (command : Command) (f g : Refusal) → IsFirstFault command f → IsFirstFault command g → f ≡ g
fault_same command KeyLong KeyLong p q = refl
fault_same command KeyLong Column p q = absurd (p q.0)
fault_same command KeyLong ColumnLong p q = absurd (p q.0)
fault_same command KeyLong ScanCount p q = absurd (p q.0)
fault_same command KeyLong _ p q = absurd q
fault_same command Column KeyLong p q = absurd (q p.0)
fault_same command Column Column p q = refl
fault_same command Column ColumnLong p q = absurd (p.1 q.1)
fault_same command Column ScanCount p q = absurd (p.1 q.1)
fault_same command Column _ p q = absurd q
fault_same command ColumnLong KeyLong p q = absurd (q p.0)
fault_same command ColumnLong Column p q = absurd (q.1 p.1)
fault_same command ColumnLong ColumnLong p q = refl
fault_same command ColumnLong ScanCount p q = absurd (p.2 q.2)
fault_same command ColumnLong _ p q = absurd q
fault_same command ScanCount KeyLong p q = absurd (q p.0)
fault_same command ScanCount Column p q = absurd (q.1 p.1)
fault_same command ScanCount ColumnLong p q = absurd (q.2 p.2)
fault_same command ScanCount ScanCount p q = refl
fault_same command ScanCount _ p q = absurd q
fault_same command _ g p q = absurd p

-- what opens a tenant is one answer
open_same : (place : Option ℕ) (d : PlainTenants) (t : ℕ) (a b : Option Refusal) (e f : PlainTenants) → PlainOpens place d t a e → PlainOpens place d t b f
    → (a ≡ b) × (e ≡ f)
open_same None d t a b e f p q = (p.0 ∙ sym q.0, p.1 ∙ sym q.1)
open_same (Some place) d t a b e f p q = (p.0 ∙ sym q.0, p.1 ∙ sym q.1)

-- a reply that was given by the map, where memory sufficed
by_map : (stamps : Bool) (x : PlainTenant) (number : ℕ) (command : Command) (reply : Reply) (e : PlainTenant) (w : WireReply)
    → ((reply ≡ reply_of x.quota command x.map) × (e ≡ record x { map = map_after x.quota number command x.map })) ⊎ ((reply ≡ NoMemory) × (e ≡ x))
    → call_told stamps (Ok reply) ≡ Some w → IsAmple w
    → (w ≡ Told (shown_as stamps (reply_of x.quota command x.map))) × (e ≡ record x { map = map_after x.quota number command x.map })
by_map stamps x number command reply e w (inl h) told ample = (sym (same_Some (Told (shown_as stamps reply)) w told) ∙ ap (λ r. Told (shown_as stamps r)) h.0, h.1)
by_map stamps x number command reply e w (inr h) told ample = absurd (ample (sym (same_Some (Told (shown_as stamps reply)) w told) ∙ ap (λ r. Told (shown_as stamps r)) h.0))

-- a tenant's command has one answer
tenant_same : (stamps : Bool) (x : PlainTenant) (number : ℕ) (command : Command) (a b : Result Reply CallerFault) (e f : PlainTenant) (w v : WireReply) → TenantCalls x number command a e
    → TenantCalls x number command b f → call_told stamps a ≡ Some w → call_told stamps b ≡ Some v → IsAmple w → IsAmple v → (w ≡ v) × (e ≡ f)
tenant_same stamps x number command (Ok r) (Ok y) e f w v p q s t ample enough =
    let one = by_map stamps x number command r e w p.1 s ample in
    let two = by_map stamps x number command y f v q.1 t enough in
    (one.0 ∙ sym two.0, one.1 ∙ sym two.1)
tenant_same stamps x number command (Ok r) (Err (Refused g)) e f w v p q s t ample enough = absurd (fault_not_taken command g p.0 q.0)
tenant_same stamps x number command (Err (Refused g)) (Ok y) e f w v p q s t ample enough = absurd (fault_not_taken command g q.0 p.0)
tenant_same stamps x number command (Err (Refused g)) (Err (Refused h)) e f w v p q s t ample enough = let same = fault_same command g h p.0 q.0 in (cc, p.1 ∙ sym q.1)
tenant_same stamps x number command (Err Stuck) b e f w v p q s t ample enough = absurd p
tenant_same stamps x number command (Ok r) (Err Stuck) e f w v p q s t ample enough = absurd q
tenant_same stamps x number command (Err (Refused g)) (Err Stuck) e f w v p q s t ample enough = absurd q

-- and so has a command of the opened tenant
call_same : (stamps : Bool) (opened : Option ℕ) (command : Command) (d : PlainTenants) (a b : Result Reply CallerFault) (e f : PlainTenants) (w v : WireReply)
    → PlainCalls opened d command a e → PlainCalls opened d command b f → call_told stamps a ≡ Some w → call_told stamps b ≡ Some v → IsAmple w → IsAmple v
    → (w ≡ v) × (e ≡ f)
call_same stamps None command d a b e f w v p q s t ample enough = let same : a ≡ b = p.0 ∙ sym q.0 in (same_Some w v (sym s ∙ ap (call_told stamps) same ∙ t), p.1 ∙ sym q.1)
call_same stamps (Some place) command d a b e f w v (x, u, at, p, is) (y, z, here, q, becomes) s t ample enough =
    let same : y ≡ x = same_Some y x (sym here ∙ at) in
    let one = tenant_same stamps x (next_number d.last) command a b u z w v p (subst (λ k. TenantCalls k (next_number d.last) command b z) same q) s t ample enough in
    (one.0, is ∙ ap (λ k. record d { list = slice_set d.list place k; last = next_number d.last }) one.1 ∙ sym becomes)

-- a request has one reply
reply_same : (r : Request) (o : Bool) (d : PlainTenants) (w v : WireReply) (p q : Bool) (e f : PlainTenants) → IsReply PlainExchanges o d r w p e
    → IsReply PlainExchanges o d r v q f → IsAmple w → IsAmple v → (w ≡ v) × (p ≡ q) × (e ≡ f)
reply_same (Open tenant) false d w v p q e f (a, given, told, stands) (b, gave, said, opened) ample enough =
    let same = open_same (place_of d.list tenant) d tenant a b e f given gave in
    (told ∙ ap open_told same.0 ∙ sym said, stands ∙ ap open_after same.0 ∙ sym opened, same.1)
reply_same (Open tenant) true d w v p q e f (told, stands, stays) (said, opened, stayed) ample enough =
    (told ∙ sym said, stands ∙ sym opened, stays ∙ sym stayed)
reply_same (Call command) false d w v p q e f (told, stands, stays) (said, opened, stayed) ample enough =
    (told ∙ sym said, stands ∙ sym opened, stays ∙ sym stayed)
reply_same (Call command) true d w v p q e f (a, given, told, stands) (b, gave, said, opened) ample enough =
    let same = call_same false d.opened command d a b e f w v given gave told said ample enough in
    (same.0, stands ∙ sym opened, same.1)
reply_same (GetStamped key columns) false d w v p q e f (told, stands, stays) (said, opened, stayed) ample enough =
    (told ∙ sym said, stands ∙ sym opened, stays ∙ sym stayed)
reply_same (GetStamped key columns) true d w v p q e f (a, given, told, stands) (b, gave, said, opened) ample enough =
    let same = call_same true d.opened (Get key columns) d a b e f w v given gave told said ample enough in
    (same.0, stands ∙ sym opened, same.1)
reply_same Settle false d w v p q e f (told, stands, stays) (said, opened, stayed) ample enough = (told ∙ sym said, stands ∙ sym opened, stays ∙ sym stayed)
reply_same Settle true d w v p q e f (a, given, told, stands) (b, gave, said, opened) ample enough =
    (told ∙ ap settle_told (given.0 ∙ sym gave.0) ∙ sym said, stands ∙ sym opened, given.1 ∙ sym gave.1)

-- and so have requests one after the other
replies_same : (rs : List Request) (ws vs : List WireReply) (o : Bool) (d : PlainTenants) (p q : Bool) (e f : PlainTenants)
    → AreReplies PlainExchanges o d rs ws p e → AreReplies PlainExchanges o d rs vs q f → AllByRecursion IsAmple ws → AllByRecursion IsAmple vs
    → (ws ≡ vs) × (e ≡ f)
replies_same [] [] [] o d p q e f a b ample enough = (refl, a.1 ∙ sym b.1)
replies_same (r ∷ rs) (w ∷ ws) (v ∷ vs) o d p q e f (n, m, step, run) (k, l, move, walk) ample enough =
    let one = reply_same r o d w v n k m l step move ample.0 enough.0 in
    let heads = one.0 in
    let walked = subst (λ (x : Bool). AreReplies PlainExchanges x m rs vs q f) (sym one.1) (subst (λ (x : PlainTenants). AreReplies PlainExchanges k x rs vs q f) (sym one.2) walk) in
    let others = replies_same rs ws vs n m p q e f run walked ample.1 enough.1 in
    let tails = others.0 in
    (cc, others.1)
replies_same [] (w ∷ ws) vs o d p q e f a b ample enough = absurd a
replies_same (r ∷ rs) [] vs o d p q e f a b ample enough = absurd a
replies_same [] [] (v ∷ vs) o d p q e f a b ample enough = absurd b
replies_same (r ∷ rs) (w ∷ ws) [] o d p q e f a b ample enough = absurd b

-- where memory suffices, the bytes have one text
pub one_text : (bytes rest left text words : Bytes) (d e f : PlainTenants) (o p : Bool) (a : Transcript PlainExchanges bytes false d rest o e text) (b : Transcript PlainExchanges bytes false d left p f words)
    → IsReadingEnd rest → IsReadingEnd left → AllByRecursion IsAmple a.replies → AllByRecursion IsAmple b.replies
    → (text ≡ words) × (rest ≡ left) × (e ≡ f)
one_text bytes rest left text words d e f o p a b stops ends ample enough =
    let read = one_reading requests a.requests b.requests rest left a.each b.each stops ends (sym a.spelled ∙ b.spelled) in
    let walk = subst (λ (rs : List Request). AreReplies PlainExchanges false d rs b.replies p f) (sym read.0) b.run in
    let same = replies_same a.requests a.replies b.replies false d o p e f a.run walk ample enough in
    (a.told ∙ ap (flat_map reply_spelling) same.0 ∙ sym b.told, read.1, same.1)
