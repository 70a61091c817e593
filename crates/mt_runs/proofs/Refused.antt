-- Why no order explains the wrong runs: for the law that lists them.
use Rattle.std.proofs.Common.{◌≡◌, ℕ, zero, suc, ◌≤◌, ◌⊎◌, Bool, true, false, cond, eqb, [], ◌∷◌, Some, None, sym, refl, ap, subst, ◌∙◌, arith}
use Rattle.std.proofs.{lemmas.Option.same_Some, lemmas.Bool.eqb-true}
use Rattle.std.specs.{Ordering.nat_cmp, Cmp.Lexicographic.slice_cmp, FinMap.{empty, get-empty}}
use Rattle.mt_rows.specs.{declared.reply.Reply.Reply, declared.reply.Reply.TheVariants.{Absent, Found, New, Replaced}, Maps.{reply_of, told_of_row}}
use Rattle.mt_rows.specs.Stamps.{stamp_in, written}
use Rattle.mt_runs.specs.{declared.event.Answer.Answer, Runs.{Story, Asked, story_of, owner, first_of}}
use Rattle.mt_runs.specs.Placings.{Placing, Quotas, no_pairs, Fits, HasReply, IsLegal, HasOneOrder, count_of}
use Rattle.mt_runs.specs.Orders.{Precedes, WasTold, IsWriteOf, NoWriteBetween}
use Rattle.mt_runs.specs.WrongRuns.{key_k, change_v, get_k, put_k, row_from_nowhere, missed_write, step_after_the_end, row_from_the_future, another_stamp, begins, ends_told, lost_update, put_k_if, row_at}
use Rattle.mt_runs.proofs.{Precedence.place_of_answer, OwnWrites.reads_put, MetOnce.met_once}

abbrev asked_get : Asked
asked_get = record { tenant = 7; command = get_k }

abbrev asked_put : Asked
asked_put = record { tenant = 7; command = put_k }

-- the run of one get, with its one answer
abbrev nowhere : Story
nowhere = story_of 0 row_from_nowhere

only_one : (o : ℕ) (what : Asked) → nowhere.asked o ≡ Some what → o ≡ 1
only_one o what e = by (eqb 1 o) refl e
  where
    by : (b : Bool) → eqb 1 o ≡ b → first_of (cond b (Some asked_get) None) None ≡ Some what → o ≡ 1
    by true is h = sym (eqb-true 1 o is)
    by false other h = absurd (cc)

told_absent : (quota : ℕ) → reply_of quota get_k empty ≡ Absent
unfolding reply_of
told_absent quota = ap (told_of_row []) (get-empty (slice_cmp nat_cmp) key_k)

abbrev from_nowhere : Answer
from_nowhere = record { command = get_k; reply = Found (row_at 1); first = 1; at = 1; last = 1 }

-- the get stands first, where its tenant has no pairs
nowhere_refused : (quotas : Quotas) (placing : Placing) → Fits quotas no_pairs nowhere placing → IsLegal quotas no_pairs nowhere placing → ⊥
nowhere_refused quotas [] f l = let one : count_of 1 [] ≡ 1 = f.finished 1 from_nowhere (1, refl) refl in absurd (omega (arith, one))
nowhere_refused quotas (p ∷ ps) f l =
    let one : p.0 ≡ 1 = only_one p.0 f.stands.0.command.0 f.stands.0.command.1 in
    let told : HasReply quotas nowhere no_pairs 0 1 p.1 = subst (λ o. HasReply quotas nowhere no_pairs 0 o p.1) one l.0 in
    let same : ◌≡◌ {A = Reply} (Found (row_at 1)) Absent = (told from_nowhere asked_get (1, refl) refl).1 ∙ told_absent (quotas 7) in
    absurd (cc)

-- a get of an empty store is not told of a row
pub row_from_nowhere_refused : (quotas : Quotas) → HasOneOrder quotas no_pairs (story_of 0 row_from_nowhere) → ⊥
row_from_nowhere_refused quotas h = nowhere_refused quotas h.0 h.1 h.2

-- the run of a put and a get that is told this reply, of which step 1 is the put's and step 2 the get's
abbrev put_then_get : Reply → Story
put_then_get reply = story_of 0 (begins 1 put_k ∷ ends_told 1 put_k New 1 1 1 ∷ begins 2 get_k ∷ ends_told 2 get_k reply 2 2 2 ∷ [])

own_number : (r : Reply) (m o : ℕ) → owner (put_then_get r) m ≡ Some o → m ≡ o
own_number r zero o e = absurd (cc)
own_number r (suc zero) o e = same_Some 1 o e
own_number r (suc (suc zero)) o e = same_Some 2 o e
own_number r (suc (suc (suc m))) o e = absurd (cc)

put_precedes : (r : Reply) → Precedes (put_then_get r) 1 2
put_precedes r m n own owns = omega (arith, own_number r m 1 own, own_number r n 2 owns)

no_other_write : (r : Reply) → NoWriteBetween (put_then_get r) 1 2 7 key_k
no_other_write r q what other asked_so tenant write = by (eqb 1 q) refl (eqb 2 q) refl asked_so
  where
    by : (b : Bool) → eqb 1 q ≡ b → (c : Bool) → eqb 2 q ≡ c → first_of (cond b (Some asked_put) None) (first_of (cond c (Some asked_get) None) None) ≡ Some what
        → Precedes (put_then_get r) q 1 ⊎ Precedes (put_then_get r) 2 q
    by true is c at e = absurd (other (sym (eqb-true 1 q is)))
    by false is true at e = absurd (subst (λ (x : Asked). IsWriteOf key_k x.command) (sym (same_Some asked_get what e)) write)
    by false is false at e = absurd (cc)

-- such a get is told of the put's row, stamped with the put's number
put_was : (r : Reply) → WasTold (put_then_get r) 1 7 put_k New
put_was r = record { begun = refl; answer = record { command = put_k; reply = New; first = 1; at = 1; last = 1 }; finished = (1, refl); told = refl }

get_was : (r : Reply) → WasTold (put_then_get r) 2 7 get_k r
get_was r = record { begun = refl; answer = record { command = get_k; reply = r; first = 2; at = 2; last = 2 }; finished = (2, refl); told = refl }

-- a get that an answered put precedes is not told Absent
pub missed_write_refused : (quotas : Quotas) → HasOneOrder quotas no_pairs (story_of 0 missed_write) → ⊥
unfolding put_was
missed_write_refused quotas h =
    let found = reads_put quotas no_pairs (put_then_get Absent) 1 2 7 key_k change_v [] New Absent h (put_was Absent) refl (get_was Absent) refl (put_precedes Absent) (no_other_write Absent) in
    let wrong : Absent ≡ Found (written 1 change_v found.0) = found.1 in
    absurd (cc)

stamp_told : Reply → ℕ
stamp_told (Found row) = row.stamp
stamp_told _ = 0

-- nor of that row with another stamp
pub another_stamp_refused : (quotas : Quotas) → HasOneOrder quotas no_pairs (story_of 0 another_stamp) → ⊥
unfolding stamp_told put_was
another_stamp_refused quotas h =
    let told : Reply = Found (row_at 2) in
    let found = reads_put quotas no_pairs (put_then_get told) 1 2 7 key_k change_v [] New told h (put_was told) refl (get_was told) refl (put_precedes told) (no_other_write told) in
    let wrong : 2 ≡ 1 = ap stamp_told found.1 in
    absurd (omega (arith, wrong))

-- two puts that asked for one stamp: each met it, or it was told of no change
pub lost_update_refused : (quotas : Quotas) → HasOneOrder quotas no_pairs (story_of 0 lost_update) → ⊥
lost_update_refused quotas h =
    let story : Story = story_of 0 lost_update in
    let was : (o : ℕ) → Answer = λ o. record { command = put_k_if 1; reply = Replaced; first = o; at = o; last = o } in
    let second : WasTold story 2 7 (put_k_if 1) Replaced = record { begun = refl; answer = was 2; finished = (2, refl); told = refl } in
    let third : WasTold story 3 7 (put_k_if 1) Replaced = record { begun = refl; answer = was 3; finished = (3, refl); told = refl } in
    met_once quotas no_pairs story 2 3 7 key_k 1 change_v change_v Replaced Replaced h (subst (λ w. stamp_in w ≤ 0) (sym (get-empty (slice_cmp nat_cmp) key_k)) (omega arith)) (omega arith) (λ is. absurd (omega (arith, is)))
    second refl third refl

-- the put ended at step 1, and moved at step 3: a finished operation makes no step
pub step_after_the_end_refused : (quotas : Quotas) → HasOneOrder quotas no_pairs (story_of 0 step_after_the_end) → ⊥
step_after_the_end_refused quotas h =
    let le : 3 ≤ 1 = h.1.ends 1 3 1 (record { command = put_k; reply = New; first = 1; at = 3; last = 3 }) refl refl in
    absurd (omega (arith, le))

-- the get names step 2, behind its last one: an answer's place is between its operation's steps
pub row_from_the_future_refused : (quotas : Quotas) → HasOneOrder quotas no_pairs (story_of 0 row_from_the_future) → ⊥
row_from_the_future_refused quotas h =
    let answer : Answer = record { command = get_k; reply = Found (row_at 2); first = 1; at = 2; last = 1 } in
    let place = place_of_answer quotas no_pairs (story_of 0 row_from_the_future) h.0 1 answer h.1 (1, refl) refl in
    let le : 2 ≤ 1 = place.2 in
    absurd (omega (arith, le))
