-- Why no order explains the wrong runs that have a scan: for the law that lists the wrong runs.
use Rattle.std.proofs.Common.{◌≡◌, ℕ, zero, suc, ◌+◌, Bool, true, false, cond, eqb, [], ◌∷◌, Some, None, IsSome, sym, refl, ap, subst, ◌∙◌, arith}
use Rattle.std.proofs.{lemmas.Option.same_Some, lemmas.Bool.eqb-true}
use Rattle.std.specs.{Ordering.nat_cmp, Cmp.Lexicographic.slice_cmp, FinMap.get-empty}
use Rattle.mt_rows.specs.{declared.reply.Reply.TheVariants.{New, Pairs}, Maps.{is_change, is_scan}}
use Rattle.mt_runs.specs.{declared.event.Answer.Answer, Runs.{Story, Asked, story_of, owner, first_of}}
use Rattle.mt_runs.specs.Placings.{Placing, Quotas, no_pairs, Along, MayStand, Fits, IsLegal, HasOneOrder, count_of, map_upto}
use Rattle.mt_runs.specs.WrongRuns.{key_k, change_v, put_k, scan_two, pair_from_nowhere, missed_pair, row_at}
use Rattle.mt_runs.proofs.OwnWrites.{row_after_put}
use Rattle.std.specs.FinMap as pairs

abbrev asked_scan : Asked
asked_scan = record { tenant = 7; command = scan_two }

abbrev asked_put : Asked
asked_put = record { tenant = 7; command = put_k }

-- a scan stands nowhere
no_scan : (what : Asked) → asked_scan ≡ what → is_scan what.command ≡ false → ⊥
no_scan what same e = let wrong : true ≡ false = ap (λ (x : Asked). is_scan x.command) same ∙ e in absurd (cc)

-- the run of one scan
abbrev nowhere : Story
nowhere = story_of 0 pair_from_nowhere

nowhere_asked : (o : ℕ) (what : Asked) → nowhere.asked o ≡ Some what → asked_scan ≡ what
nowhere_asked o what e = by (eqb 1 o) e
  where
    by : (b : Bool) → first_of (cond b (Some asked_scan) None) None ≡ Some what → asked_scan ≡ what
    by true h = same_Some asked_scan what h
    by false h = absurd (cc)

nothing_stands : (quotas : Quotas) (placing : Placing) → Along (MayStand quotas nowhere) quotas nowhere no_pairs 0 placing → placing ≡ []
nothing_stands quotas [] h = refl
nothing_stands quotas (p ∷ ps) h = let c = h.0.command in absurd (no_scan c.0 (nowhere_asked p.0 c.0 c.1) c.2)

-- a scan of an empty store shows no pair
pub pair_from_nowhere_refused : (quotas : Quotas) → HasOneOrder quotas no_pairs (story_of 0 pair_from_nowhere) → ⊥
pair_from_nowhere_refused quotas h =
    let answer : Answer = record { command = scan_two; reply = Pairs ((key_k, row_at 1) ∷ []); first = 1; at = 1; last = 1 } in
    let w = (h.3 1 answer asked_scan (1, refl) refl).real 0 (key_k, row_at 1) (omega arith) in
    let none = ap (λ ps. pairs.get (map_upto quotas no_pairs nowhere ps 7 w.0) key_k) (nothing_stands quotas h.0 h.1.stands) ∙ get-empty (slice_cmp nat_cmp) key_k in
    let wrong : None ≡ Some w.2.0 = sym none ∙ w.2.1 in
    absurd (cc)

-- the run of a put and a scan, of which step 1 is the put's and step 2 the scan's
abbrev missed : Story
missed = story_of 0 missed_pair

own_number : (m o : ℕ) → owner missed m ≡ Some o → m ≡ o
own_number zero o e = absurd (cc)
own_number (suc zero) o e = same_Some 1 o e
own_number (suc (suc zero)) o e = same_Some 2 o e
own_number (suc (suc (suc m))) o e = absurd (cc)

-- what is no scan is the put
only_put : (o : ℕ) (what : Asked) → missed.asked o ≡ Some what → is_scan what.command ≡ false → o ≡ 1
only_put o what e other_kind = by (eqb 1 o) refl (eqb 2 o) e
  where
    by : (b : Bool) → eqb 1 o ≡ b → (c : Bool) → first_of (cond b (Some asked_put) None) (first_of (cond c (Some asked_scan) None) None) ≡ Some what → o ≡ 1
    by true is c h = sym (eqb-true 1 o is)
    by false other true h = absurd (no_scan what (same_Some asked_scan what h) other_kind)
    by false other false h = absurd (cc)

abbrev put_answer : Answer
put_answer = record { command = put_k; reply = New; first = 1; at = 1; last = 1 }

-- the put stands at step 1, and nothing else stands
put_alone : (quotas : Quotas) (placing : Placing) → Fits quotas no_pairs missed placing → placing ≡ (1, 1) ∷ []
put_alone quotas [] f = let one : count_of 1 [] ≡ 1 = f.finished 1 put_answer (1, refl) refl in absurd (omega (arith, one))
put_alone quotas (p ∷ []) f =
    let one : p.0 ≡ 1 = only_put p.0 f.stands.0.command.0 f.stands.0.command.1 f.stands.0.command.2 in
    let may : MayStand quotas missed no_pairs 0 1 p.1 = subst (λ o. MayStand quotas missed no_pairs 0 o p.1) one f.stands.0 in
    let at : p.1 ≡ 1 = (may.finished put_answer (1, refl)).1 in
    ap (λ o. (o, p.1) ∷ []) one ∙ ap (λ m. (1, m) ∷ []) at
put_alone quotas (p ∷ q ∷ ps) f =
    let one : p.0 ≡ 1 = only_put p.0 f.stands.0.command.0 f.stands.0.command.1 f.stands.0.command.2 in
    let two : q.0 ≡ 1 = only_put q.0 f.stands.1.0.command.0 f.stands.1.0.command.1 f.stands.1.0.command.2 in
    let same : count_of 1 (p ∷ q ∷ ps) ≡ 2 + count_of 1 ps = ap (λ o. count_of 1 ((o, p.1) ∷ q ∷ ps)) one ∙ ap (λ o. count_of 1 ((1, p.1) ∷ (o, q.1) ∷ ps)) two ∙ omega arith in
    absurd (omega (arith, same, f.others 1))

-- so the put's row is there at step 2, where the scan is
row_there : (quotas : Quotas) → IsLegal quotas no_pairs missed ((1, 1) ∷ []) → (m : ℕ) → m ≡ 2 → IsSome (pairs.get (map_upto quotas no_pairs missed ((1, 1) ∷ []) 7 m) key_k)
row_there quotas legal m is =
    let told = (legal.0 put_answer asked_put (1, refl) refl).1 in
    let row = row_after_put (quotas 7) 1 key_k change_v pairs.empty (ap is_change (sym told)) in
    subst (λ n. IsSome (pairs.get (map_upto quotas no_pairs missed ((1, 1) ∷ []) 7 n) key_k)) (sym is) (subst (λ w. IsSome w) (sym row) refl)

-- a scan that an answered put precedes shows its key
pub missed_pair_refused : (quotas : Quotas) → HasOneOrder quotas no_pairs (story_of 0 missed_pair) → ⊥
missed_pair_refused quotas h =
    let answer : Answer = record { command = scan_two; reply = Pairs []; first = 2; at = 2; last = 2 } in
    let alone = put_alone quotas h.0 h.1 in
    let legal = subst (λ ps. IsLegal quotas no_pairs missed ps) alone h.2 in
    let lawful = h.3 2 answer asked_scan (2, refl) refl in
    let shown = lawful.whole key_k refl (λ full. absurd (omega (arith, full))) (λ m between.
    let is : m ≡ 2 = omega (arith, between.0.1, between.1.1, own_number between.0.0 2 between.0.2, own_number between.1.0 2 between.1.2) in
    subst (λ ps. IsSome (pairs.get (map_upto quotas no_pairs missed ps 7 m) key_k)) (sym alone) (row_there quotas legal m is)) in
    absurd (omega (arith, shown.1))
