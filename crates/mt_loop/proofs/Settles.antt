-- A Settle that is told to all that await one.
use Rattle.std.proofs.Common.{◌≡◌, ◌≢◌, ◌<◌, ◌+◌, ◌⊎◌, ℕ, Bool, true, false, List, [], ◌∷◌, ◌++◌, length, drop, get_or, Option, Some, None, IfSome, IsSome, Bor, slice_index_or, Result, Ok, Err, inl, inr, ⊎_elim, refl, sym, ap, subst, ◌∙◌, append_assoc, arith}
use Rattle.std.proofs.lemmas.{Bool.cases_eq, List.drop_more}
use Rattle.std.specs.Option.{option_copied}
use Rattle.slab.specs.Slab.{get, Updates}
use Rattle.mt_rows.specs.{Rows.Bytes, declared.refusal.Refusal.Refusal}
use Rattle.mt_streams.specs.Buffering.{Buffers, WritesFront}
use Rattle.mt_streams.proofs.StreamLemmas.{Appends-trans}
use Rattle.mt_wire.specs.{declared.message.Request.TheVariants.Settle, declared.message.WireReply.WireReply, Requests.{IsSpellable}, Replies.reply_spelling}
use Rattle.mt_caller.specs.Exchanges.{CallerRelation, Settles}
use Rattle.mt_session.specs.{Sessions.{IsReply, Transcript, settle_told}, Endings.IsBeginning, declared.answering.Stop.Stop, declared.ended.ServeFault.ServeFault}
use Rattle.mt_session.specs.declared.answering.Stop.TheVariants as stops
use Rattle.mt_session.specs.declared.ended.ServeFault.TheVariants as faults
use Rattle.mt_session.proofs.Transcripts.{of_one}
use Rattle.mt_loop.specs.{Connections.{IsSession, IsAtSettle, AwaitsSettle}, Steps.{IsSettled, IsTold}, Deeds.{Led, SharedExchanges}, Tables.{Beginning, HasSession, HaveSessions, HaveSessionsSince, AreQueued, AreSettled, IsSettledOrSame, NoneAwaits}}
use Rattle.mt_loop.specs.declared.{sharing.Shared.Shared, table.Entry.Entry, table.Table.Table, connection.Connection.Connection}
use Rattle.mt_loop.proofs.{Sessions.answered_on, Deeds.{led_none, led_then, led_resumed, led_exchange}, Tables.led_on}

-- a front of what was put into an empty buffer was written when the buffer was flushed
pub front_flushed : (a b c kept k text : Bytes) → kept ≡ [] → Buffers (Some a) (Some b) kept k text → WritesFront (Some b) (Some c) k → (part : Bytes) × (c ≡ a ++ part) × IsBeginning part text
front_flushed a b c kept k text e (front, some, split, within) (more, lost, part, written) = (
  front ++ more,
  Appends-trans (Some a) (Some b) (Some c) front more some written,
  (lost, append_assoc front more lost ∙ ap (λ (x : Bytes). front ++ x) (sym part) ∙ sym split ∙ ap (λ (x : Bytes). x ++ text) e),
)

spellable : IsSpellable Settle
spellable = record { fields = tt; short = omega arith }

-- an open session asks its caller for a Settle
settle_reply : {S : Type 0} (exchanges : CallerRelation S) (was_open now_open : Bool) (s t : S) (reply : WireReply) (told : Result ℕ Refusal)
    → was_open ≡ true → now_open ≡ was_open → exchanges s (Settles told) t → reply ≡ settle_told told → IsReply exchanges was_open s Settle reply now_open t
settle_reply exchanges true now_open s t reply told e o a r = (told, a, r, o)
settle_reply exchanges false now_open s t reply told e o a r = absurd cc

-- a session that was at a Settle, and is told
pub settled_on : {S : Type 0} (exchanges : CallerRelation S) (before left held holds : Option Bytes) (start s t : S) (old new : Connection) (reply : WireReply) (told : Result ℕ Refusal)
    → reply ≡ settle_told told → IsAtSettle old → exchanges s (Settles told) t → IsSettled (reply_spelling reply) old new
    → IsSession exchanges before left held holds start old s → IsSession exchanges before left held holds start new t
settled_on exchanges before left held holds start s t old new reply told r (goes, is_open, begins) a settled session =
    let one : Transcript exchanges old.input.items old.opened s new.input.items new.opened t (reply_spelling reply) =
    (of_one exchanges old.input.items new.input.items old.opened new.opened s t Settle reply spellable settled.front (settle_reply exchanges old.opened new.opened s t reply told is_open settled.opened a r)).transcript in
    let on = λ (result : Result Stop ServeFault) (step : IsTold exchanges old.input.items old.opened s result new.input.items new.opened t old.unsent.bytes.items new.unsent.bytes.items).
    answered_on exchanges before left held holds start s t old.unsent.bytes.items new.unsent.bytes.items old.input.items new.input.items old.state old.opened new.opened result goes session step in
    elim settled.told [
      | inl (u, st) ↦ rw (st ∙ goes) (on (Ok stops.Full) (reply_spelling reply, one, u))
      | inr (part, u, b, st) ↦ rw st (on (Err faults.Write) (reply_spelling reply, new.input.items, new.opened, t, part, one, u, inl b, inl refl))
    ]

module _ {C T : Type 0} (exchanges : CallerRelation C) (resumes : C → C → Type 0) (opened : C → Option ℕ) (remaining contents : T → Option Bytes) where
  -- a connection of a table is told a Settle that its caller made for others too
  pub told_settled : (beginning : Beginning C) (old new : Entry T) (from mid now : C) (after : Shared C) (reply : WireReply) (told : Result ℕ Refusal)
      → reply ≡ settle_told told → IsAtSettle old.connection → exchanges from (Settles told) mid → Led exchanges resumes mid now → resumes now after.caller → opened after.caller ≡ old.opened
      → new.stream ≡ old.stream → new.opened ≡ old.opened → IsSettled (reply_spelling reply) old.connection new.connection
      → HasSession exchanges resumes opened remaining contents beginning old from → HasSession exchanges resumes opened remaining contents beginning new after.caller
  told_settled beginning old new from mid now after reply told r at_settle a l resumed o es eo settled has =
      let later = led_then exchanges resumes mid now after.caller l (led_resumed exchanges resumes now after.caller resumed) in
      let step : SharedExchanges exchanges resumes opened has.last (Settles told) after = (from, mid, has.led, a, later, o ∙ has.left) in
      record {
        start = has.start;
        last = after;
        begun = has.begun;
        session = rw es (settled_on (SharedExchanges exchanges resumes opened) beginning.had (remaining old.stream) beginning.held (contents old.stream) has.start has.last after old.connection new.connection reply told r at_settle step settled has.session);
        left = eo ∙ sym o;
        led = led_none exchanges resumes after.caller;
      }

  -- One connection of a table is told it. Whoever awaits it still had its session in the state from.
  pub one_told : (beginnings : ℕ → Beginning C) (old new : Table T) (key : ℕ) (was is : Entry T) (from now later : C)
      → get old.entries key ≡ Some was → Updates old.entries new.entries key (Some is) → Led exchanges resumes now later → (AwaitsSettle is.connection → ⊥)
      → ((AwaitsSettle was.connection → HasSession exchanges resumes opened remaining contents (beginnings key) was from) → HasSession exchanges resumes opened remaining contents (beginnings key) was now
      → HasSession exchanges resumes opened remaining contents (beginnings key) is later)
      → HaveSessionsSince exchanges resumes opened remaining contents beginnings old from now → HaveSessionsSince exchanges resumes opened remaining contents beginnings new from later
  one_told beginnings old new key was is from now later found updates l done goes have other entry at =
      elim (cases_eq other key) [
        | inl same ↦
            let e : Some is ≡ Some entry = sym updates.changed ∙ ap (get new.entries) (sym same) ∙ at in
            let i : is ≡ entry = cc in
            let (since, has) = have key was found in
            let now_has = subst (λ (x : ℕ). HasSession exchanges resumes opened remaining contents (beginnings x) entry later) (sym same) (subst (λ (x : Entry T). HasSession exchanges resumes opened remaining contents (beginnings key) x later) i (goes since has)) in
            (λ awaits. absurd (done (subst (λ (x : Entry T). AwaitsSettle x.connection) (sym i) awaits)), now_has)
        | inr differs ↦
            let (since, has) = have other entry (sym (updates.others other differs) ∙ at) in
            (since, led_on exchanges resumes opened remaining contents (beginnings other) entry now later has l)
      ]

  -- before anybody is told, who has its session now had it before the Settle
  pub none_told : (beginnings : ℕ → Beginning C) (table : Table T) (from mid : C) (told : Result ℕ Refusal) → exchanges from (Settles told) mid
      → HaveSessions exchanges resumes opened remaining contents beginnings table from → HaveSessionsSince exchanges resumes opened remaining contents beginnings table from mid
  none_told beginnings table from mid told a have key entry at =
      (λ awaits. have key entry at, led_on exchanges resumes opened remaining contents (beginnings key) entry from mid (have key entry at) (led_exchange exchanges resumes from mid (Settles told) a))

spelled_some : (reply : WireReply) → reply_spelling reply ≢ []
spelled_some reply e = absurd cc

-- who was told awaits it no more
pub told_awaits_none : {T : Type 0} (reply : WireReply) (was is : Entry T) → IsSettledOrSame (reply_spelling reply) was is → AwaitsSettle is.connection → ⊥
told_awaits_none reply was is (inl ((at_settle, none), settled)) ((goes, is_open, begins), empty) =
    elim settled.told [
      | inl (u, st) ↦ spelled_some reply (sym (sym empty ∙ u ∙ ap (λ (x : Bytes). x ++ reply_spelling reply) none))
      | inr (part, u, b, st) ↦ absurd cc
    ]
told_awaits_none {T = T} reply was is (inr (other, same)) awaits = other (subst (λ (x : Entry T). AwaitsSettle x.connection) same awaits)

-- a key of a queue that is not its first is behind it
behind : (before after rest : List ℕ) (key other : ℕ) → other ≢ key → key ∷ rest ≡ before ++ other ∷ after → (b a : List ℕ) × (rest ≡ b ++ other ∷ a)
behind [] after rest key other n e = absurd (n cc)
behind (x ∷ b) after rest key other n e = (b, after, cc)

-- the first of a queue has its turn
pub queued_turn : {T : Type 0} (old new : Table T) (rest : List ℕ) (key : ℕ) → old.queue.items ≡ key ∷ rest
    → ((other : ℕ) → other ≢ key → get new.entries other ≡ get old.entries other)
    → (new.queue.items ≡ rest) ⊎ (new.queue.items ≡ rest ++ key ∷ [])
    → ((entry : Entry T) → get new.entries key ≡ Some entry → AwaitsSettle entry.connection → (new.queue.items ≡ rest ++ key ∷ []) × (new.is_settling ≡ true))
    → (old.is_settling ≡ true → new.is_settling ≡ true) → AreQueued old → AreQueued new
queued_turn old new rest key e others q awaits flag queued other entry at a =
    elim (cases_eq other key) [
      | inl same ↦ let (i, f) = awaits entry (ap (get new.entries) (sym same) ∙ at) a in ((rest, [], i ∙ ap (λ (x : ℕ). rest ++ x ∷ []) (sym same)), f)
      | inr differs ↦
          let ((before, after, i), f) = queued other entry (sym (others other differs) ∙ at) a in
          let (b, c, j) = behind before after rest key other differs (sym e ∙ i) in
          (⊎_elim (λ same. (b, c, same ∙ j)) (λ more. (b, c ++ key ∷ [], more ∙ ap (λ (x : List ℕ). x ++ key ∷ []) j ∙ append_assoc b (other ∷ c) (key ∷ []))) q, flag f)
    ]

-- the keys of a queue from a place on
abbrev pub IsFrom : ℕ → ℕ → List ℕ → Type 0
IsFrom n key items = (before after : List ℕ) × (drop n items ≡ before ++ key ∷ after)

later_from : (n key other : ℕ) (items : List ℕ) → n < length items → get_or items n key ≡ key → other ≢ key → IsFrom n other items → IsFrom (n + 1) other items
later_from n key other items few is differs (before, after, e) =
    behind before after (drop (n + 1) items) key other differs (sym (ap (λ (x : ℕ). x ∷ drop (n + 1) items) is) ∙ sym (drop_more items n key few) ∙ e)

none_from : (n key : ℕ) (items : List ℕ) → drop n items ≡ [] → IsFrom n key items → ⊥
none_from n key items e ([], after, i) = absurd cc
none_from n key items e (x ∷ before, after, i) = absurd cc

-- While the Settle is told: each connection is as it was, and awaits it only if its key is still to come, or has its reply.
abbrev pub IsOnTheWay : {T : Type 0} → Bytes → Table T → ℕ → List ℕ → Table T → Type 0
IsOnTheWay {T = T} reply old n keys now = (key : ℕ) (was : Entry T) → get old.entries key ≡ Some was
    → (is : Entry T) × (get now.entries key ≡ Some is) × (IsSettledOrSame reply was is ⊎ ((is ≡ was) × (AwaitsSettle was.connection → IsFrom n key keys)))

-- and whoever still awaits it has its key to come
abbrev pub AwaitFrom : {T : Type 0} → ℕ → List ℕ → Table T → Type 0
AwaitFrom {T = T} n keys now = (key : ℕ) (entry : Entry T) → get now.entries key ≡ Some entry → AwaitsSettle entry.connection → IsFrom n key keys

pub way_begins : {T : Type 0} (reply : Bytes) (old now : Table T) → now.entries ≡ old.entries → AreQueued old → IsOnTheWay reply old 0 old.queue.items now × AwaitFrom 0 old.queue.items now
way_begins reply old now e queued = (
  λ key was at. (was, ap (λ s. get s key) e ∙ at, inr (refl, λ a. (queued key was at a).0)),
  λ key entry at a. (queued key entry (sym (ap (λ s. get s key) e) ∙ at) a).0,
)

-- what one connection is told, whether it was told before or not
told_once : {T : Type 0} (reply : WireReply) (was cur is : Entry T) (waits : Type 0) → IsSettledOrSame (reply_spelling reply) was cur ⊎ ((cur ≡ was) × waits) → IsSettledOrSame (reply_spelling reply) cur is
    → IsSettledOrSame (reply_spelling reply) was is
told_once {T = T} reply was cur is waits (inl before) (inl (awaits, settled)) = absurd (told_awaits_none reply was cur before awaits)
told_once {T = T} reply was cur is waits (inl before) (inr (other, same)) = subst (λ (x : Entry T). IsSettledOrSame (reply_spelling reply) was x) (sym same) before
told_once {T = T} reply was cur is waits (inr (same, w)) step = subst (λ (x : Entry T). IsSettledOrSame (reply_spelling reply) x is) same step

pub way_goes_on : {T : Type 0} (reply : WireReply) (old now next : Table T) (n key : ℕ) (keys : List ℕ) → n < length keys → get_or keys n key ≡ key
    → ((other : ℕ) → other ≢ key → get next.entries other ≡ get now.entries other)
    → ((cur : Entry T) → get now.entries key ≡ Some cur → (is : Entry T) × (get next.entries key ≡ Some is) × IsSettledOrSame (reply_spelling reply) cur is)
    → IsOnTheWay (reply_spelling reply) old n keys now → IsOnTheWay (reply_spelling reply) old (n + 1) keys next
way_goes_on {T = T} reply old now next n key keys few is others settled way other was at =
    let (cur, there, how) = way other was at in
    elim (cases_eq other key) [
      | inl same ↦
          let (last, found, step) = settled cur (ap (get now.entries) (sym same) ∙ there) in
          (last, ap (get next.entries) same ∙ found, inl (told_once reply was cur last (AwaitsSettle was.connection → IsFrom n other keys) how step))
      | inr differs ↦
          (cur, others other differs ∙ there, ⊎_elim (λ told. inl told) (λ p. inr (p.0, λ a. later_from n key other keys few is differs (p.1 a))) how)
    ]

-- what the queue has at a place
pub picked : (o : Option (Bor ℕ)) (items : List ℕ) (n key : ℕ) → option_copied o ≡ Some key → IfSome o (λ x. x.now ≡ slice_index_or items n x.now) → get_or items n key ≡ key
picked (Some x) items n key e f = let i : x.now ≡ key = cc in subst (λ (k : ℕ). get_or items n k ≡ k) i (sym f)
picked None items n key e f = absurd cc

pub not_picked : (o : Option (Bor ℕ)) → option_copied o ≡ None → IsSome o → ⊥
not_picked (Some x) e there = absurd cc
not_picked None e there = absurd cc

-- whether there is one
there_is : {A : Type 0} (o : Option A) → (o ≡ None) ⊎ ((x : A) × (o ≡ Some x))
there_is None = inl refl
there_is (Some x) = inr (x, refl)

pub await_goes_on : {T : Type 0} (reply : WireReply) (now next : Table T) (n key : ℕ) (keys : List ℕ) → n < length keys → get_or keys n key ≡ key
    → ((other : ℕ) → other ≢ key → get next.entries other ≡ get now.entries other)
    → ((cur : Entry T) → get now.entries key ≡ Some cur → (is : Entry T) × (get next.entries key ≡ Some is) × IsSettledOrSame (reply_spelling reply) cur is)
    → (get now.entries key ≡ None → get next.entries key ≡ None) → AwaitFrom n keys now → AwaitFrom (n + 1) keys next
await_goes_on {T = T} reply now next n key keys few is others settled none await other entry at a =
    elim (cases_eq other key) [
      | inl same ↦
          elim (there_is (get now.entries key)) [
            | inl gone ↦ let e = none gone in let f = ap (get next.entries) (sym same) ∙ at in absurd cc
            | inr (cur, there) ↦
                let (last, found, step) = settled cur there in
                let both : Some last ≡ Some entry = sym found ∙ ap (get next.entries) (sym same) ∙ at in
                let i : last ≡ entry = cc in
                absurd (told_awaits_none reply cur last step (subst (λ (x : Entry T). AwaitsSettle x.connection) (sym i) a))
          ]
      | inr differs ↦ later_from n key other keys few is differs (await other entry (sym (others other differs) ∙ at) a)
    ]

pub way_ends : {T : Type 0} (reply : Bytes) (old now : Table T) (n : ℕ) (keys : List ℕ) → drop n keys ≡ [] → IsOnTheWay reply old n keys now → AreSettled reply old now
way_ends reply old now n keys e way key was at =
    let (is, there, how) = way key was at in (is, there, ⊎_elim (λ told. told) (λ p. inr (λ a. none_from n key keys e (p.1 a), p.0)) how)

pub await_ends : {T : Type 0} (now : Table T) (n : ℕ) (keys : List ℕ) → drop n keys ≡ [] → AwaitFrom n keys now → NoneAwaits now
await_ends now n keys e await key entry at a = none_from n key keys e (await key entry at a)
