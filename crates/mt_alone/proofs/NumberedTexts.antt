-- A session over sorted maps is one by some numbers, and by these it writes one text, also if it asks for stamps. For the law `one_text_by_numbers`.
use Rattle.std.proofs.Common.{◌≡◌, ◌≢◌, ◌⊎◌, ℕ, Bool, true, false, List, [], ◌∷◌, Option, None, Some, Result, Ok, Err, refl, sym, ap, subst, ◌∙◌, inl, inr}
use Rattle.std.proofs.lemmas.Option.{same_Some}
use Rattle.std.specs.List.{flat_map, AllByRecursion}
use Rattle.mt_rows.specs.{Rows.Bytes, declared.command.Command.Command, declared.command.Command.TheVariants.Get, declared.reply.Reply.Reply, declared.reply.Reply.TheVariants.NoMemory}
use Rattle.mt_rows.specs.{declared.refusal.Refusal.Refusal, declared.refusal.Refusal.TheVariants.NotOpen, Maps.{reply_of, map_after}}
use Rattle.mt_runs.specs.Placings.{Maps}
use Rattle.mt_wire.specs.{declared.message.Request.Request, declared.message.Request.TheVariants.{Open, Call, GetStamped, Settle}, declared.message.WireReply.WireReply}
use Rattle.mt_wire.specs.{declared.message.WireReply.TheVariants.Told, Asked.shown_as, Fronts.IsReadingEnd, Replies.reply_spelling}
use Rattle.mt_wire.proofs.{FrameLaws.one_reading, RequestLaws.requests}
use Rattle.mt_caller.specs.{declared.caller.CallerFault.CallerFault, declared.caller.CallerFault.TheVariants.{Refused, Stuck}, Exchanges.Calls}
use Rattle.mt_session.specs.Sessions.{IsReply, AreReplies, Transcript, call_told, open_told, open_after, settle_told}
use Rattle.mt_session.proofs.PlainCallers.{fault_not_taken, fault_same}
use Rattle.mt_alone.specs.TenantMaps.{TenantMaps, with_map, Applies, GivesNumbers, MapsOpen, MapsAnswer, MapsCall, MapsExchange}
use Rattle.mt_alone.specs.{Texts.IsAmple, Numbers.{NumberedMaps, numbered_maps, AppliesBy, TakesNumber, NumberedExchange, AreSameButLast}}
use Rattle.mt_alone.proofs.Texts.{first_fault}

-- ---- each session has its numbers

-- what is answered by a map has taken effect by its number
applies_by : (tenant quota : ℕ) (command : Command) (d e : TenantMaps) → d.opened ≡ Some tenant → d.quotas tenant ≡ Some quota → (a : Applies tenant quota command d e) → AppliesBy a.0 command d e
applies_by tenant quota command d e opened at a t q is there =
    let same : tenant ≡ t = same_Some tenant t (sym opened ∙ is) in
    let quotas : quota ≡ q = same_Some quota q (sym at ∙ ap d.quotas same ∙ there) in
    ap (λ (x : TenantMaps). x.maps) a.3
    ∙ ap (λ u. with_map u (map_after quota a.0 command (d.maps u)) d.maps) same
    ∙ ap (λ n. with_map t (map_after n a.0 command (d.maps t)) d.maps) quotas

-- a command takes a number, whatever numbers are to come
numbered_call : (ns : List ℕ) (opened : Option ℕ) (command : Command) (d e : TenantMaps) (answer : Result Reply CallerFault) → d.opened ≡ opened → MapsCall opened d command answer e
    → (ks : List ℕ) × TakesNumber (Calls command answer) (numbered_maps d ks) (numbered_maps e ns)
numbered_call ns opened command d e (Err fault) is p = (ns, refl)
numbered_call ns None command d e (Ok reply) is p = absurd (let no = p.0 in cc)
numbered_call ns (Some tenant) command d e (Ok reply) is (quota, at, p) = elim p.1 [
  | inl h ↦ (h.1.0 ∷ ns, (h.1.0, refl, λ real. applies_by tenant quota command d e is at h.1))
  | inr h ↦ (0 ∷ ns, (0, refl, λ real. absurd (real h.0)))
]

asked_numbered : (ns : List ℕ) (command : Command) (d e : TenantMaps) (answer : Result Reply CallerFault) → MapsExchange d (Calls command answer) e
    → (ks : List ℕ) × NumberedExchange (numbered_maps d ks) (Calls command answer) (numbered_maps e ns)
asked_numbered ns command d e answer p = let n = numbered_call ns d.opened command d e answer refl p in (n.0, record { answers = p; takes = n.1 })

-- a request takes one at most
reply_numbered : (ns : List ℕ) (r : Request) (o : Bool) (d : TenantMaps) (w : WireReply) (p : Bool) (e : TenantMaps) → IsReply MapsExchange o d r w p e
    → (ks : List ℕ) × IsReply NumberedExchange o (numbered_maps d ks) r w p (numbered_maps e ns)
reply_numbered ns (Open tenant) false d w p e (a, given, told, stands) = (ns, (a, record { answers = given; takes = refl }, told, stands))
reply_numbered ns (Open tenant) true d w p e (told, stands, stays) = (ns, (told, stands, ap (λ x. numbered_maps x ns) stays))
reply_numbered ns (Call command) false d w p e (told, stands, stays) = (ns, (told, stands, ap (λ x. numbered_maps x ns) stays))
reply_numbered ns (Call command) true d w p e (a, given, told, stands) = let n = asked_numbered ns command d e a given in (n.0, (a, n.1, told, stands))
reply_numbered ns (GetStamped key columns) false d w p e (told, stands, stays) = (ns, (told, stands, ap (λ x. numbered_maps x ns) stays))
reply_numbered ns (GetStamped key columns) true d w p e (a, given, told, stands) = let n = asked_numbered ns (Get key columns) d e a given in (n.0, (a, n.1, told, stands))
reply_numbered ns Settle false d w p e (told, stands, stays) = (ns, (told, stands, ap (λ x. numbered_maps x ns) stays))
reply_numbered ns Settle true d w p e (a, given, told, stands) = (ns, (a, record { answers = given; takes = refl }, told, stands))

replies_numbered : (rs : List Request) (ws : List WireReply) (o : Bool) (d : TenantMaps) (p : Bool) (e : TenantMaps) → AreReplies MapsExchange o d rs ws p e
    → (ks : List ℕ) × AreReplies NumberedExchange o (numbered_maps d ks) rs ws p (numbered_maps e [])
replies_numbered [] [] o d p e a = ([], (a.0, ap (λ x. numbered_maps x []) a.1))
replies_numbered (r ∷ rs) (w ∷ ws) o d p e (n, m, step, run) =
    let rest = replies_numbered rs ws n m p e run in
    let one = reply_numbered rest.0 r o d w n m step in
    (one.0, (n, numbered_maps m rest.0, one.1, rest.1))
replies_numbered [] (w ∷ ws) o d p e a = absurd a
replies_numbered (r ∷ rs) [] o d p e a = absurd a

pub some_numbers : (bytes rest text : Bytes) (d e : TenantMaps) (o : Bool) → Transcript MapsExchange bytes false d rest o e text
    → (numbers : List ℕ) × Transcript NumberedExchange bytes false (numbered_maps d numbers) rest o (numbered_maps e []) text
some_numbers bytes rest text d e o a =
    let run = replies_numbered a.requests a.replies false d o e a.run in
    (run.0, record { requests = a.requests; replies = a.replies; each = a.each; spelled = a.spelled; told = a.told; run = run.1 })

-- ---- by its numbers it writes one text

-- what stays is the same as before
stays_same : (d c e f : NumberedMaps) → e ≡ d → f ≡ c → AreSameButLast d c → AreSameButLast e f
stays_same d c e f is becomes s = subst (λ (x : NumberedMaps). AreSameButLast x f) (sym is) (subst (λ (x : NumberedMaps). AreSameButLast d x) (sym becomes) s)

-- and what stays but for the last number
last_same : (d c e f : NumberedMaps) (k l : ℕ) → e.maps ≡ record d.maps { last = k } → f.maps ≡ record c.maps { last = l } → e.numbers ≡ d.numbers → f.numbers ≡ c.numbers
    → AreSameButLast d c → AreSameButLast e f
last_same d c e f k l g h n m s = record {
  quotas = ap (λ (x : TenantMaps). x.quotas) h ∙ s.quotas ∙ sym (ap (λ (x : TenantMaps). x.quotas) g);
  opened = ap (λ (x : TenantMaps). x.opened) h ∙ s.opened ∙ sym (ap (λ (x : TenantMaps). x.opened) g);
  maps = ap (λ (x : TenantMaps). x.maps) h ∙ s.maps ∙ sym (ap (λ (x : TenantMaps). x.maps) g);
  numbers = m ∙ s.numbers ∙ sym n;
}

-- what opens a tenant is one answer
open_same : (quota : Option ℕ) (tenant : ℕ) (d c : NumberedMaps) (a b : Option Refusal) (e f : NumberedMaps) → AreSameButLast d c → MapsOpen quota d.maps tenant a e.maps → MapsOpen quota c.maps tenant b f.maps
    → e.numbers ≡ d.numbers → f.numbers ≡ c.numbers → (a ≡ b) × AreSameButLast e f
open_same None tenant d c a b e f s p q n m = (p.0 ∙ sym q.0, last_same d c e f d.maps.last c.maps.last p.1 q.1 n m s)
open_same (Some quota) tenant d c a b e f s p q n m = (
  p.0 ∙ sym q.0,
  record {
    quotas = ap (λ (x : TenantMaps). x.quotas) q.1 ∙ s.quotas ∙ sym (ap (λ (x : TenantMaps). x.quotas) p.1);
    opened = ap (λ (x : TenantMaps). x.opened) q.1 ∙ sym (ap (λ (x : TenantMaps). x.opened) p.1);
    maps = ap (λ (x : TenantMaps). x.maps) q.1 ∙ s.maps ∙ sym (ap (λ (x : TenantMaps). x.maps) p.1);
    numbers = m ∙ s.numbers ∙ sym n;
  },
)

-- a reply that was given by the map, where memory sufficed
by_map : (stamps : Bool) (tenant quota : ℕ) (d : TenantMaps) (command : Command) (reply : Reply) (e : TenantMaps) (w : WireReply)
    → ((reply ≡ reply_of quota command (d.maps tenant)) × Applies tenant quota command d e) ⊎ ((reply ≡ NoMemory) × GivesNumbers d e)
    → call_told stamps (Ok reply) ≡ Some w → IsAmple w
    → (w ≡ Told (shown_as stamps (reply_of quota command (d.maps tenant)))) × Applies tenant quota command d e × (reply ≢ NoMemory)
by_map stamps tenant quota d command reply e w (inl h) told ample = (
  sym (same_Some (Told (shown_as stamps reply)) w told) ∙ ap (λ r. Told (shown_as stamps r)) h.0,
  h.1,
  λ none. ample.0 (sym (same_Some (Told (shown_as stamps reply)) w told) ∙ ap (λ r. Told (shown_as stamps r)) none),
)
by_map stamps tenant quota d command reply e w (inr h) told ample = absurd (ample.0 (sym (same_Some (Told (shown_as stamps reply)) w told) ∙ ap (λ r. Told (shown_as stamps r)) h.0))

-- a command of a tenant leaves the same map by the same number
applied_same : (tenant quota : ℕ) (command : Command) (d c e f : NumberedMaps) (n m : ℕ) → AreSameButLast d c → d.maps.opened ≡ Some tenant → d.maps.quotas tenant ≡ Some quota
    → Applies tenant quota command d.maps e.maps → Applies tenant quota command c.maps f.maps → d.numbers ≡ n ∷ e.numbers → c.numbers ≡ m ∷ f.numbers
    → AppliesBy n command d.maps e.maps → AppliesBy m command c.maps f.maps → AreSameButLast e f
applied_same tenant quota command d c e f n m s opened at a b here there by also =
    let all : ◌≡◌ {A = List ℕ} (n ∷ e.numbers) (m ∷ f.numbers) = sym here ∙ sym s.numbers ∙ there in
    let heads : m ≡ n = cc in
    let tails : f.numbers ≡ e.numbers = cc in
    record {
      quotas = ap (λ (x : TenantMaps). x.quotas) b.3 ∙ s.quotas ∙ sym (ap (λ (x : TenantMaps). x.quotas) a.3);
      opened = ap (λ (x : TenantMaps). x.opened) b.3 ∙ s.opened ∙ sym (ap (λ (x : TenantMaps). x.opened) a.3);
      maps =
          also tenant quota (s.opened ∙ opened) (ap (λ (g : ℕ → Option ℕ). g tenant) s.quotas ∙ at)
          ∙ ap (λ k. with_map tenant (map_after quota k command (c.maps.maps tenant)) c.maps.maps) heads
          ∙ ap (λ (x : Maps). with_map tenant (map_after quota n command (x tenant)) x) s.maps
          ∙ sym (by tenant quota opened at);
      numbers = tails;
    }

-- a tenant's command has one answer
answer_same : (stamps : Bool) (tenant quota : ℕ) (d c : NumberedMaps) (command : Command) (a b : Result Reply CallerFault) (e f : NumberedMaps) (w v : WireReply) → AreSameButLast d c
    → d.maps.opened ≡ Some tenant → d.maps.quotas tenant ≡ Some quota → MapsAnswer tenant quota d.maps command a e.maps → MapsAnswer tenant quota c.maps command b f.maps
    → TakesNumber (Calls command a) d e → TakesNumber (Calls command b) c f → call_told stamps a ≡ Some w → call_told stamps b ≡ Some v → IsAmple w → IsAmple v → (w ≡ v) × AreSameButLast e f
answer_same stamps tenant quota d c command (Ok r) (Ok y) e f w v s opened at p q t u told said ample enough =
    let one = by_map stamps tenant quota d.maps command r e.maps w p.1 told ample in
    let two = by_map stamps tenant quota c.maps command y f.maps v q.1 said enough in (
      one.0 ∙ ap (λ (x : Maps). Told (shown_as stamps (reply_of quota command (x tenant)))) (sym s.maps) ∙ sym two.0,
      applied_same tenant quota command d c e f t.0 u.0 s opened at one.1 two.1 t.1 u.1 (t.2 one.2) (u.2 two.2),
    )
answer_same stamps tenant quota d c command (Ok r) (Err (Refused g)) e f w v s opened at p q t u told said ample enough =
    absurd (fault_not_taken command g p.0 (first_fault tenant quota c.maps command g f.maps v q said enough).0)
answer_same stamps tenant quota d c command (Err (Refused g)) (Ok y) e f w v s opened at p q t u told said ample enough =
    absurd (fault_not_taken command g q.0 (first_fault tenant quota d.maps command g e.maps w p told ample).0)
answer_same stamps tenant quota d c command (Err (Refused g)) (Err (Refused h)) e f w v s opened at p q t u told said ample enough =
    let one = first_fault tenant quota d.maps command g e.maps w p told ample in
    let two = first_fault tenant quota c.maps command h f.maps v q said enough in
    let same = fault_same command g h one.0 two.0 in
    (same_Some w v (sym told ∙ ap (λ (r : Refusal). call_told stamps (Err (Refused r))) same ∙ said), last_same d c e f e.maps.last f.maps.last one.1.1 two.1.1 t u s)
answer_same stamps tenant quota d c command (Err Stuck) b e f w v s opened at p q t u told said ample enough = absurd (cc)
answer_same stamps tenant quota d c command (Ok r) (Err Stuck) e f w v s opened at p q t u told said ample enough = absurd (cc)
answer_same stamps tenant quota d c command (Err (Refused g)) (Err Stuck) e f w v s opened at p q t u told said ample enough = absurd (cc)

-- where no tenant is opened, a command has the one refusal, and takes no number
none_takes : (command : Command) (a : Result Reply CallerFault) (fault : CallerFault) (d e : NumberedMaps) → a ≡ Err fault → TakesNumber (Calls command a) d e → e.numbers ≡ d.numbers
none_takes command (Ok reply) fault d e is takes = absurd (cc)
none_takes command (Err other) fault d e is takes = takes

call_same : (stamps : Bool) (opened : Option ℕ) (command : Command) (d c : NumberedMaps) (a b : Result Reply CallerFault) (e f : NumberedMaps) (w v : WireReply) → AreSameButLast d c → d.maps.opened ≡ opened
    → MapsCall opened d.maps command a e.maps → MapsCall opened c.maps command b f.maps
    → TakesNumber (Calls command a) d e → TakesNumber (Calls command b) c f → call_told stamps a ≡ Some w → call_told stamps b ≡ Some v → IsAmple w → IsAmple v → (w ≡ v) × AreSameButLast e f
call_same stamps None command d c a b e f w v s is p q t u told said ample enough =
    let same : a ≡ b = p.0 ∙ sym q.0 in (
      same_Some w v (sym told ∙ ap (call_told stamps) same ∙ said),
      last_same d c e f d.maps.last c.maps.last p.1 q.1 (none_takes command a (Refused NotOpen) d e p.0 t) (none_takes command b (Refused NotOpen) c f q.0 u) s,
    )
call_same stamps (Some tenant) command d c a b e f w v s is (x, at, p) (y, here, q) t u told said ample enough =
    let same : y ≡ x = same_Some y x (sym here ∙ ap (λ (g : ℕ → Option ℕ). g tenant) s.quotas ∙ at) in
    answer_same stamps tenant x d c command a b e f w v s is at p (subst (λ (n : ℕ). MapsAnswer tenant n c.maps command b f.maps) same q) t u told said ample enough

asked_same : (stamps : Bool) (command : Command) (d c : NumberedMaps) (a b : Result Reply CallerFault) (e f : NumberedMaps) (w v : WireReply) → AreSameButLast d c
    → NumberedExchange d (Calls command a) e → NumberedExchange c (Calls command b) f → call_told stamps a ≡ Some w → call_told stamps b ≡ Some v → IsAmple w → IsAmple v → (w ≡ v) × AreSameButLast e f
asked_same stamps command d c a b e f w v s given gave told said ample enough =
    call_same stamps d.maps.opened command d c a b e f w v s refl given.answers (subst (λ (x : Option ℕ). MapsCall x c.maps command b f.maps) s.opened gave.answers) given.takes gave.takes told said ample enough

-- a request has one reply
reply_same : (r : Request) (o : Bool) (d c : NumberedMaps) (w v : WireReply) (p q : Bool) (e f : NumberedMaps) → AreSameButLast d c
    → IsReply NumberedExchange o d r w p e → IsReply NumberedExchange o c r v q f → IsAmple w → IsAmple v → (w ≡ v) × (p ≡ q) × AreSameButLast e f
reply_same (Open tenant) false d c w v p q e f s (a, given, told, stands) (b, gave, said, opened) ample enough =
    let same = open_same (d.maps.quotas tenant) tenant d c a b e f s given.answers (subst (λ (g : ℕ → Option ℕ). MapsOpen (g tenant) c.maps tenant b f.maps) s.quotas gave.answers) given.takes gave.takes in
    (told ∙ ap open_told same.0 ∙ sym said, stands ∙ ap open_after same.0 ∙ sym opened, same.1)
reply_same (Open tenant) true d c w v p q e f s (told, stands, stays) (said, opened, stayed) ample enough = (told ∙ sym said, stands ∙ sym opened, stays_same d c e f stays stayed s)
reply_same (Call command) false d c w v p q e f s (told, stands, stays) (said, opened, stayed) ample enough = (told ∙ sym said, stands ∙ sym opened, stays_same d c e f stays stayed s)
reply_same (Call command) true d c w v p q e f s (a, given, told, stands) (b, gave, said, opened) ample enough =
    let same = asked_same false command d c a b e f w v s given gave told said ample enough in
    (same.0, stands ∙ sym opened, same.1)
reply_same (GetStamped key columns) false d c w v p q e f s (told, stands, stays) (said, opened, stayed) ample enough = (told ∙ sym said, stands ∙ sym opened, stays_same d c e f stays stayed s)
reply_same (GetStamped key columns) true d c w v p q e f s (a, given, told, stands) (b, gave, said, opened) ample enough =
    let same = asked_same true (Get key columns) d c a b e f w v s given gave told said ample enough in
    (same.0, stands ∙ sym opened, same.1)
reply_same Settle false d c w v p q e f s (told, stands, stays) (said, opened, stayed) ample enough = (told ∙ sym said, stands ∙ sym opened, stays_same d c e f stays stayed s)
reply_same Settle true d c w v p q e f s (a, given, told, stands) (b, gave, said, opened) ample enough = (
  told ∙ ap settle_told (given.answers.0 ∙ sym gave.answers.0) ∙ sym said,
  stands ∙ sym opened,
  last_same d c e f d.maps.last c.maps.last given.answers.1 gave.answers.1 given.takes gave.takes s,
)

-- and so have requests one after the other
replies_same : (rs : List Request) (ws vs : List WireReply) (o : Bool) (d c : NumberedMaps) (p q : Bool) (e f : NumberedMaps) → AreSameButLast d c
    → AreReplies NumberedExchange o d rs ws p e → AreReplies NumberedExchange o c rs vs q f → AllByRecursion IsAmple ws → AllByRecursion IsAmple vs → (ws ≡ vs) × AreSameButLast e f
replies_same [] [] [] o d c p q e f s a b ample enough = (refl, stays_same d c e f a.1 b.1 s)
replies_same (r ∷ rs) (w ∷ ws) (v ∷ vs) o d c p q e f s (n, m, step, run) (k, l, move, walk) ample enough =
    let one = reply_same r o d c w v n k m l s step move ample.0 enough.0 in
    let heads = one.0 in
    let walked = subst (λ (x : Bool). AreReplies NumberedExchange x l rs vs q f) (sym one.1) walk in
    let others = replies_same rs ws vs n m l p q e f one.2 run walked ample.1 enough.1 in
    let tails = others.0 in
    (cc, others.1)
replies_same [] (w ∷ ws) vs o d c p q e f s a b ample enough = absurd a
replies_same (r ∷ rs) [] vs o d c p q e f s a b ample enough = absurd a
replies_same [] [] (v ∷ vs) o d c p q e f s a b ample enough = absurd b
replies_same (r ∷ rs) (w ∷ ws) [] o d c p q e f s a b ample enough = absurd b

pub one_by_numbers : (bytes rest left text words : Bytes) (d c e f : NumberedMaps) (o p : Bool)
    (a : Transcript NumberedExchange bytes false d rest o e text) (b : Transcript NumberedExchange bytes false c left p f words)
    → AreSameButLast d c → IsReadingEnd rest → IsReadingEnd left → AllByRecursion IsAmple a.replies → AllByRecursion IsAmple b.replies
    → (text ≡ words) × (rest ≡ left) × AreSameButLast e f
one_by_numbers bytes rest left text words d c e f o p a b s stops ends ample enough =
    let read = one_reading requests a.requests b.requests rest left a.each b.each stops ends (sym a.spelled ∙ b.spelled) in
    let walk = subst (λ (rs : List Request). AreReplies NumberedExchange false c rs b.replies p f) (sym read.0) b.run in
    let same = replies_same a.requests a.replies b.replies false d c o p e f s a.run walk ample enough in
    (a.told ∙ ap (flat_map reply_spelling) same.0 ∙ sym b.told, read.1, same.1)
