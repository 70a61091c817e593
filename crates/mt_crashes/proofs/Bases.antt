-- Changes replayed over a base give what they give over the pairs that stood at the base's first number.
use Rattle.std.proofs.Common.{◌≡◌, ◌≢◌, inl, inr, ℕ, ◌<◌, ◌≤◌, Bool, true, false, not, ◌&&◌, cond, ltb, List, [], ◌∷◌, ◌++◌, refl, sym, ◌∙◌, ap, arith, None, Option, Some, subst, ⊎_elim, ◌⊎◌}
use Rattle.std.proofs.{lemmas.Bool.{ltb-true, ltb-false, lt-ltb, le-ltb, true≢false, not-true}, lemmas.List.{map-append, append-nil}}
use Rattle.std.proofs.lemmas.List.Elements.{filter-append}
use Rattle.std.specs.{FinMap.{get, empty, get-empty}, Ordering.eq_by_cmp}
use Rattle.mt_rows.specs.{Rows.Bytes, Tenants.{owned_cmp, Contents as Pairs}, declared.record.Record.Record, Stamps.{Stamped, stamp_in}}
use Rattle.mt_rows.specs.{declared.record.Write.TheVariants.{Changed, Removed, Whole}, declared.record.Write.Write}
use Rattle.mt_rows.proofs.ContentLaws.{same_contents, same_owner, tied_owner}
use Rattle.mt_tape.proofs.RowLaws.{get-with_row_other, get-with_row_same}
use Rattle.mt_crashes.specs.Fronts.{In, key_of, with_change, after_changes, Rise, after_replay, made, replayed, with_replayed}
use Rattle.mt_crashes.specs.{Histories.{Placed, upto, changes_of, pairs_upto}, Bases.{over, IsBase}, Invariants.RisePlaced}
use Rattle.mt_crashes.proofs.{Members.{filter_filter, filter_same, in_map, in_filter, map_in}, Invariant.{rise_over, rise_changes, rise_filter}}

-- two keys of tenants are one, or not
pub one_or_not : (a b : ℕ × Bytes) → (a ≡ b) ⊎ (a ≢ b)
one_or_not a b = by (eq_by_cmp owned_cmp a b) refl
  where
    by : (d : Bool) → eq_by_cmp owned_cmp a b ≡ d → (a ≡ b) ⊎ (a ≢ b)
    by true is = inl (tied_owner a b is)
    by false is = inr (λ same. absurd (true≢false (sym (same_owner b) ∙ ap (λ x. eq_by_cmp owned_cmp x b) (sym same) ∙ is)))

-- what stands at a key after a change of it, and after one of another
pub change_at : (m : Pairs) (r : Record) (q : ℕ × Bytes) → key_of r ≡ q → get (with_change m r) q ≡ made r.stamp r.write (get m q)
change_at m r q own = ap (get (with_change m r)) (sym own) ∙ get-with_row_same m (key_of r) (made r.stamp r.write (get m (key_of r)))
    ∙ ap (λ k. made r.stamp r.write (get m k)) own

pub change_beside : (m : Pairs) (r : Record) (q : ℕ × Bytes) → key_of r ≢ q → get (with_change m r) q ≡ get m q
change_beside m r q other = get-with_row_other m (key_of r) (made r.stamp r.write (get m (key_of r))) q other

pub replayed_at : (m : Pairs) (r : Record) (q : ℕ × Bytes) → key_of r ≡ q → get (with_replayed m r) q ≡ replayed r.stamp r.write (get m q)
replayed_at m r q own = ap (get (with_replayed m r)) (sym own) ∙ get-with_row_same m (key_of r) (replayed r.stamp r.write (get m (key_of r)))
    ∙ ap (λ k. replayed r.stamp r.write (get m k)) own

pub replayed_beside : (m : Pairs) (r : Record) (q : ℕ × Bytes) → key_of r ≢ q → get (with_replayed m r) q ≡ get m q
replayed_beside m r q other = get-with_row_other m (key_of r) (replayed r.stamp r.write (get m (key_of r))) q other

-- a change over a lesser stamp is made; one that isn't is passed over
pub made_over : (stamp : ℕ) (write : Write) (old : Option Stamped) → stamp_in old < stamp → replayed stamp write old ≡ made stamp write old
made_over stamp write old lt = ap (λ b. cond b (made stamp write old) old) (lt-ltb (stamp_in old) stamp lt)

pub passed_over : (stamp : ℕ) (write : Write) (old : Option Stamped) → stamp ≤ stamp_in old → replayed stamp write old ≡ old
passed_over stamp write old le = ap (λ b. cond b (made stamp write old) old) (le-ltb (stamp_in old) stamp le)

-- what a change makes has its stamp, or is nothing
made_cases : (stamp : ℕ) (write : Write) (old : Option Stamped) → (made stamp write old ≡ None) ⊎ (stamp_in (made stamp write old) ≡ stamp)
made_cases stamp Removed old = inl refl
made_cases stamp (Whole row) old = inr refl
made_cases stamp (Changed change) None = inl refl
made_cases stamp (Changed change) (Some row) = inr refl

pub made_upto : (stamp : ℕ) (write : Write) (old : Option Stamped) → stamp_in (made stamp write old) ≤ stamp
made_upto stamp write old = ⊎_elim (λ none. omega (arith, ap stamp_in none)) (λ is. omega (arith, is)) (made_cases stamp write old)

-- a replayed change keeps a key's stamp within its own
pub replayed_upto : (n : ℕ) (m : Pairs) (r : Record) (q : ℕ × Bytes) → stamp_in (get m q) ≤ n → n < r.stamp → stamp_in (get (with_replayed m r) q) ≤ r.stamp
replayed_upto n m r q low lt = ⊎_elim
    (λ own. subst (λ w. stamp_in w ≤ r.stamp) (sym (replayed_at m r q own ∙ made_over r.stamp r.write (get m q) (omega (arith, low, lt)))) (made_upto r.stamp r.write (get m q)))
    (λ other. subst (λ w. stamp_in w ≤ r.stamp) (sym (replayed_beside m r q other)) (omega (arith, low, lt)))
    (one_or_not (key_of r) q)

-- Replayed over pairs with no later stamp at a key, changes come to what they come to in order.
same_behind : (n : ℕ) (rs : List Record) (x y : Pairs) (q : ℕ × Bytes) → Rise n rs → stamp_in (get x q) ≤ n → get x q ≡ get y q
    → get (after_replay x rs) q ≡ get (after_changes y rs) q
same_behind n [] x y q rises low same = same
same_behind n (r ∷ rs) x y q rises low same = ⊎_elim
    (λ own.
    let step = replayed_at x r q own ∙ made_over r.stamp r.write (get x q) (omega (arith, low, rises.0)) in
    same_behind r.stamp rs (with_replayed x r) (with_change y r) q rises.1 (subst (λ w. stamp_in w ≤ r.stamp) (sym step) (made_upto r.stamp r.write (get x q)))
    (step ∙ ap (made r.stamp r.write) same ∙ sym (change_at y r q own)))
    (λ other.
    let step = replayed_beside x r q other in
    same_behind r.stamp rs (with_replayed x r) (with_change y r) q rises.1 (subst (λ w. stamp_in w ≤ r.stamp) (sym step) (omega (arith, low, rises.0)))
    (step ∙ same ∙ sym (change_beside y r q other)))
    (one_or_not (key_of r) q)

-- nothing, or the same
abbrev IsLower : Option Stamped → Option Stamped → Type 0
IsLower a b = (a ≡ None) ⊎ (a ≡ b)

made_lower : (stamp : ℕ) (write : Write) (a b : Option Stamped) → IsLower a b → IsLower (made stamp write a) (made stamp write b)
made_lower stamp write a b (inr same) = inr (ap (made stamp write) same)
made_lower stamp Removed a b (inl none) = inr refl
made_lower stamp (Whole row) a b (inl none) = inr refl
made_lower stamp (Changed change) a b (inl none) = inl (ap (made stamp (Changed change)) none)

-- Replayed over pairs that lack a key, or have it as others do, they come to nothing there, or to what they come to over those.
lower_behind : (n : ℕ) (rs : List Record) (x y : Pairs) (q : ℕ × Bytes) → Rise n rs → stamp_in (get x q) ≤ n → IsLower (get x q) (get y q)
    → IsLower (get (after_replay x rs) q) (get (after_changes y rs) q)
lower_behind n [] x y q rises low is = is
lower_behind n (r ∷ rs) x y q rises low is = ⊎_elim
    (λ own.
    let step = replayed_at x r q own ∙ made_over r.stamp r.write (get x q) (omega (arith, low, rises.0)) in
    lower_behind r.stamp rs (with_replayed x r) (with_change y r) q rises.1 (subst (λ w. stamp_in w ≤ r.stamp) (sym step) (made_upto r.stamp r.write (get x q)))
    (subst (λ w. IsLower w (get (with_change y r) q)) (sym step) (subst (IsLower (made r.stamp r.write (get x q))) (sym (change_at y r q own)) (made_lower r.stamp r.write (get x q) (get y q) is))))
    (λ other.
    let step = replayed_beside x r q other in
    lower_behind r.stamp rs (with_replayed x r) (with_change y r) q rises.1 (subst (λ w. stamp_in w ≤ r.stamp) (sym step) (omega (arith, low, rises.0)))
    (subst (λ w. IsLower w (get (with_change y r) q)) (sym step) (subst (IsLower (get x q)) (sym (change_beside y r q other)) is)))
    (one_or_not (key_of r) q)

-- what stands at a key stays, if no change of it in the replay has a later stamp
pub passed_at : (rs : List Record) (x : Pairs) (q : ℕ × Bytes) (row : Stamped) → get x q ≡ Some row → ((r : Record) → In r rs → key_of r ≡ q → r.stamp ≤ row.stamp)
    → get (after_replay x rs) q ≡ Some row
passed_at [] x q row is upto = is
passed_at (r ∷ rs) x q row is upto = passed_at rs (with_replayed x r) q row
    (⊎_elim
    (λ own. replayed_at x r q own ∙ passed_over r.stamp r.write (get x q) (omega (arith, upto r (inl refl) own, ap stamp_in is)) ∙ is)
    (λ other. replayed_beside x r q other ∙ is)
    (one_or_not (key_of r) q))
    (λ p at own. upto p (inr at) own)

-- the stamp of a key with a stamp at least, or of a key that isn't there, grows with later changes
grows : (n s : ℕ) (rs : List Record) (m : Pairs) (q : ℕ × Bytes) → Rise n rs → s ≤ n → (get m q ≡ None) ⊎ (s ≤ stamp_in (get m q)) → (row : Stamped)
    → get (after_changes m rs) q ≡ Some row → s ≤ row.stamp
grows n s [] m q rises le is row end =
    ⊎_elim (λ none. let wrong : None ≡ Some row = sym none ∙ end in absurd cc) (λ over. omega (arith, over, ap stamp_in end)) is
grows n s (r ∷ rs) m q rises le is row end = grows r.stamp s rs (with_change m r) q rises.1 (omega (arith, le, rises.0))
    (⊎_elim
    (λ own. ⊎_elim (λ none. inl (change_at m r q own ∙ none)) (λ stamp. inr (omega (arith, ap stamp_in (change_at m r q own), stamp, le, rises.0))) (made_cases r.stamp r.write (get m q)))
    (λ other. subst (λ w. (w ≡ None) ⊎ (s ≤ stamp_in w)) (sym (change_beside m r q other)) is)
    (one_or_not (key_of r) q))
    row end

-- so the stamp of a row is that of the last change of its key, or a later one
pub last_stamp : (n : ℕ) (rs : List Record) (m : Pairs) (q : ℕ × Bytes) (row : Stamped) → Rise n rs → get (after_changes m rs) q ≡ Some row → (r : Record) → In r rs
    → key_of r ≡ q → r.stamp ≤ row.stamp
last_stamp n [] m q row rises end r at own = absurd at
last_stamp n (x ∷ rs) m q row rises end r (inl e) own =
    let mine : key_of x ≡ q = ap key_of (sym e) ∙ own in
    let start : (get (with_change m x) q ≡ None) ⊎ (x.stamp ≤ stamp_in (get (with_change m x) q)) =
    ⊎_elim (λ none. inl (change_at m x q mine ∙ none)) (λ stamp. inr (omega (arith, ap stamp_in (change_at m x q mine), stamp))) (made_cases x.stamp x.write (get m q)) in
    subst (λ (y : Record). y.stamp ≤ row.stamp) (sym e) (grows x.stamp x.stamp rs (with_change m x) q rises.1 (omega arith) start row end)
last_stamp n (x ∷ rs) m q row rises end r (inr at) own = last_stamp x.stamp rs (with_change m x) q row rises.1 end r at own

-- no stamp is over those of the changes
pub stamps_upto : (k : ℕ) (rs : List Record) (m : Pairs) (q : ℕ × Bytes) → stamp_in (get m q) ≤ k → ((r : Record) → In r rs → r.stamp ≤ k) → stamp_in (get (after_changes m rs) q) ≤ k
stamps_upto k [] m q low upto = low
stamps_upto k (r ∷ rs) m q low upto = stamps_upto k rs (with_change m r) q
    (⊎_elim
    (λ own. omega (arith, ap stamp_in (change_at m r q own), made_upto r.stamp r.write (get m q), upto r (inl refl)))
    (λ other. omega (arith, ap stamp_in (change_beside m r q other), low))
    (one_or_not (key_of r) q))
    (λ p at. upto p (inr at))

-- changes of other keys leave a key as it was
pub untouched : (rs : List Record) (m : Pairs) (q : ℕ × Bytes) → ((r : Record) → In r rs → key_of r ≢ q) → get (after_changes m rs) q ≡ get m q
untouched [] m q none = refl
untouched (r ∷ rs) m q none = untouched rs (with_change m r) q (λ x at. none x (inr at)) ∙ change_beside m r q (none r (inl refl))

pub untouched_replay : (rs : List Record) (m : Pairs) (q : ℕ × Bytes) → ((r : Record) → In r rs → key_of r ≢ q) → get (after_replay m rs) q ≡ get m q
untouched_replay [] m q none = refl
untouched_replay (r ∷ rs) m q none = untouched_replay rs (with_replayed m r) q (λ x at. none x (inr at)) ∙ replayed_beside m r q (none r (inl refl))

pub replay_append : (m : Pairs) (rs qs : List Record) → after_replay m (rs ++ qs) ≡ after_replay (after_replay m rs) qs
replay_append m [] qs = refl
replay_append m (r ∷ rs) qs = replay_append (with_replayed m r) rs qs

pub after_append : (m : Pairs) (rs qs : List Record) → after_changes m (rs ++ qs) ≡ after_changes (after_changes m rs) qs
after_append m [] qs = refl
after_append m (r ∷ rs) qs = after_append (with_change m r) rs qs

none_up : (n m : ℕ) (qs : List Placed) → RisePlaced m qs → n ≤ m → upto n qs ≡ []
none_up n m [] h le = refl
none_up n m (q ∷ qs) h le =
    ap (λ (b : Bool). cond (not b) (q ∷ upto n qs) (upto n qs)) (lt-ltb n q.change.stamp (omega (arith, h.0, le)))
    ∙ none_up n q.change.stamp qs h.1 (omega (arith, h.0, le))

and_true : (a b : Bool) → b ≡ true → (a && b) ≡ a
and_true true b e = e
and_true false b e = refl

all_over : (n to m : ℕ) (qs : List Placed) → RisePlaced m qs → n ≤ m → over n (upto to qs) ≡ upto to qs
all_over n to m qs h le = filter_filter (λ (q : Placed). ltb n q.change.stamp) (λ (q : Placed). not (ltb to q.change.stamp)) qs
    ∙ filter_same _ _ qs (λ q at. and_true _ _ (lt-ltb n q.change.stamp (omega (arith, le, rise_over m qs q h at))))

-- a history up to a number is what stood at a lower one, and what came after
pub parted : (from to least : ℕ) (ps : List Placed) → RisePlaced least ps → from ≤ to → upto to ps ≡ upto from ps ++ over from (upto to ps)
parted from to least [] h le = refl
parted from to least (p ∷ ps) h le = by (ltb from p.change.stamp) (ltb to p.change.stamp) refl refl (parted from to p.change.stamp ps h.1 le)
  where
    by : (a b : Bool) → ltb from p.change.stamp ≡ a → ltb to p.change.stamp ≡ b → upto to ps ≡ upto from ps ++ over from (upto to ps) →
        cond (not (ltb to p.change.stamp)) (p ∷ upto to ps) (upto to ps) ≡ cond (not (ltb from p.change.stamp)) (p ∷ upto from ps)
        (upto from ps) ++ over from (cond (not (ltb to p.change.stamp)) (p ∷ upto to ps) (upto to ps))
    by false false is_a is_b rest = rw (is_a, is_b) (rw is_a (ap (λ (l : List Placed). p ∷ l) rest))
    by false true is_a is_b rest = absurd (omega (arith, le, ltb-false _ _ is_a, ltb-true _ _ is_b))
    by true false is_a is_b rest =
        let up = ltb-true _ _ is_a in
        rw (is_a, is_b) (rw is_a (ap (λ (l : List Placed). p ∷ l) (sym (all_over from to p.change.stamp ps h.1 (omega (arith, up))))
        ∙ ap (λ (l : List Placed). l ++ (p ∷ over from (upto to ps))) (sym (none_up from p.change.stamp ps h.1 (omega (arith, up))))))
    by true true is_a is_b rest =
        let up = ltb-true _ _ is_a in
        rw (is_a, is_b) (sym (all_over from to p.change.stamp ps h.1 (omega (arith, up)))
        ∙ ap (λ (l : List Placed). l ++ over from (upto to ps)) (sym (none_up from p.change.stamp ps h.1 (omega (arith, up)))))

-- the changes over a number, of those over a lesser one
over_over : (from m : ℕ) (ps : List Placed) → from ≤ m → over from (over m ps) ≡ over m ps
over_over from m ps le =
    filter_filter (λ (q : Placed). ltb from q.change.stamp) (λ (q : Placed). ltb m q.change.stamp) ps ∙ filter_same _ _ ps (λ q at. both q (ltb m q.change.stamp) refl)
  where
    both : (q : Placed) (b : Bool) → ltb m q.change.stamp ≡ b → (b && ltb from q.change.stamp) ≡ b
    both q true is = lt-ltb from q.change.stamp (omega (arith, le, ltb-true _ _ is))
    both q false is = refl

-- a history from a number on, in two parts
two_parts : (from m to : ℕ) (history : List Placed) → RisePlaced 0 history → from ≤ m → m ≤ to
    → over from (upto to history) ≡ over from (upto m history) ++ over m (upto to history)
two_parts from m to history rises le within =
    ap (over from) (parted m to 0 history rises within)
    ∙ filter-append (λ (q : Placed). ltb from q.change.stamp) (upto m history) (over m (upto to history))
    ∙ ap (λ l. over from (upto m history) ++ l) (over_over from m (upto to history) le)

-- the pairs at a number, by those at a lesser one
pub later_pairs : (from to : ℕ) (history : List Placed) → RisePlaced 0 history → from ≤ to
    → after_changes (pairs_upto from history) (changes_of (over from (upto to history))) ≡ pairs_upto to history
later_pairs from to history rises le = sym (ap (λ (l : List Placed). after_changes empty (changes_of l)) (parted from to 0 history rises le)
    ∙ ap (after_changes empty) (map-append (λ (x : Placed). x.change) (upto from history) (over from (upto to history)))
    ∙ after_append empty (changes_of (upto from history)) (changes_of (over from (upto to history))))

rises_over : (m over_this : ℕ) (ps : List Placed) → RisePlaced over_this ps → ((p : Placed) → In p ps → m < p.change.stamp) → Rise m (changes_of ps)
rises_over m k [] h all = tt
rises_over m k (p ∷ ps) h all = (all p (inl refl), rise_changes p.change.stamp ps h.1)

over_rises : (m to : ℕ) (history : List Placed) → RisePlaced 0 history → Rise m (changes_of (over m (upto to history)))
over_rises m to history rises = rises_over m 0 (over m (upto to history))
    (rise_filter (λ (q : Placed). ltb m q.change.stamp) 0 _ (rise_filter (λ (q : Placed). not (ltb to q.change.stamp)) 0 history rises))
    (λ p at. ltb-true m p.change.stamp (in_filter (λ (q : Placed). ltb m q.change.stamp) p (upto to history) at).1)

upto_rises : (m : ℕ) (history : List Placed) → RisePlaced 0 history → Rise 0 (changes_of (upto m history))
upto_rises m history rises = rise_changes 0 _ (rise_filter (λ (q : Placed). not (ltb m q.change.stamp)) 0 history rises)

-- changes up to a number have no later stamp
pub each_upto : (m : ℕ) (history : List Placed) (r : Record) → In r (changes_of (upto m history)) → r.stamp ≤ m
each_upto m history r at =
    let p = map_in (λ (x : Placed). x.change) r _ at in
    let low = in_filter (λ (x : Placed). not (ltb m x.change.stamp)) p.0 history p.1 in
    omega (arith, ltb-false m p.0.change.stamp (not-true _ low.1), ap (λ (x : Record). x.stamp) p.2)

-- The changes over a base's first number, replayed over the base, give the history up to a number that is at least the base's last.
pub over_base : (from to cutoff : ℕ) (history : List Placed) (base : Pairs) → RisePlaced 0 history → from ≤ to → to ≤ cutoff
    → IsBase from to history base
    → after_replay base (changes_of (over from (upto cutoff history))) ≡ pairs_upto cutoff history
over_base from to cutoff history base rises le within is = same_contents _ _ (λ q.
    let b = is q in
    let m = b.0 in
    let first = changes_of (over from (upto m history)) in
    let second = changes_of (over m (upto cutoff history)) in
    let parts : changes_of (over from (upto cutoff history)) ≡ first ++ second =
    ap changes_of (two_parts from m cutoff history rises b.1 (omega (arith, b.2, within))) ∙ map-append (λ (x : Placed). x.change) (over from (upto m history)) (over m (upto cutoff history)) in
    let mid : get (after_replay base first) q ≡ get (pairs_upto m history) q = by q m b.1 b.3 (get (pairs_upto m history) q) refl in
    let low : stamp_in (get (pairs_upto m history) q) ≤ m = stamps_upto m (changes_of (upto m history)) empty q (omega (arith, ap stamp_in (get-empty owned_cmp q))) (each_upto m history) in
    ap (λ rs. get (after_replay base rs) q) parts ∙ ap (λ w. get w q) (replay_append base first second)
    ∙ same_behind m second (after_replay base first) (pairs_upto m history) q (over_rises m cutoff history rises) (subst (λ w. stamp_in w ≤ m) (sym mid) low) mid
    ∙ ap (λ w. get w q) (later_pairs m cutoff history rises (omega (arith, b.2, within))))
  where
    by : (q : ℕ × Bytes) (m : ℕ) → from ≤ m → get base q ≡ get (pairs_upto m history) q → (w : Option Stamped) → get (pairs_upto m history) q ≡ w
        → get (after_replay base (changes_of (over from (upto m history)))) q ≡ get (pairs_upto m history) q
    by q m above same None none =
        let lower = lower_behind from (changes_of (over from (upto m history))) base (pairs_upto from history) q (over_rises from m history rises)
        (omega (arith, ap stamp_in (same ∙ none))) (inl (same ∙ none)) in
        ⊎_elim (λ gone. gone ∙ sym none) (λ alike. alike ∙ ap (λ w. get w q) (later_pairs from m history rises above)) lower
    by q m above same (Some row) there =
        passed_at (changes_of (over from (upto m history))) base q row (same ∙ there) (λ r at own.
        let p = map_in (λ (x : Placed). x.change) r _ at in
        let in_upto = (in_filter (λ (x : Placed). ltb from x.change.stamp) p.0 (upto m history) p.1).0 in
        last_stamp 0 (changes_of (upto m history)) empty q row (upto_rises m history rises) there r
        (subst (λ (x : Record). In x (changes_of (upto m history))) (sym p.2) (in_map (λ (x : Placed). x.change) p.0 (upto m history) in_upto)) own)
        ∙ sym there

-- nothing at all is the base of the number 0
pub empty_base : (history : List Placed) → RisePlaced 0 history → IsBase 0 0 history empty
empty_base history rises q =
    (0, omega arith, omega arith, ap (λ (l : List Placed). get (after_changes empty (changes_of l)) q) (sym (none_up 0 0 history rises (omega arith))))

-- ---- a base stays one

upto_upto : (n m : ℕ) (ps : List Placed) → n ≤ m → upto n (upto m ps) ≡ upto n ps
upto_upto n m ps le =
    filter_filter (λ (q : Placed). not (ltb n q.change.stamp)) (λ (q : Placed). not (ltb m q.change.stamp)) ps ∙ filter_same _ _ ps (λ q at. both q)
  where
    both : (q : Placed) → (not (ltb m q.change.stamp) && not (ltb n q.change.stamp)) ≡ not (ltb n q.change.stamp)
    both q = by (ltb m q.change.stamp) refl
      where
        by : (b : Bool) → ltb m q.change.stamp ≡ b → (not b && not (ltb n q.change.stamp)) ≡ not (ltb n q.change.stamp)
        by true is = ap not (sym (lt-ltb n q.change.stamp (omega (arith, le, ltb-true _ _ is))))
        by false is = refl

-- what a recovery leaves has the same bases up to its cutoff
pub base_upto : (from to cutoff : ℕ) (history : List Placed) (base : Pairs) → from ≤ to → to ≤ cutoff → IsBase from to history base
    → IsBase from to (upto cutoff history) base
base_upto from to cutoff history base le within is key =
    let b = is key in
    (b.0, b.1, b.2, b.3 ∙ ap (λ (l : List Placed). get (after_changes empty (changes_of l)) key) (sym (upto_upto b.0 cutoff history (omega (arith, b.2, within)))))

-- and so has a history with a later change
pub base_push : (from to : ℕ) (history : List Placed) (p : Placed) (base : Pairs) → from ≤ to → to < p.change.stamp → IsBase from to history base
    → IsBase from to (history ++ p ∷ []) base
base_push from to history p base le later is key =
    let b = is key in (
      b.0,
      b.1,
      b.2,
      b.3 ∙ ap (λ (l : List Placed). get (after_changes empty (changes_of l)) key)
          (sym (filter-append (λ (x : Placed). not (ltb b.0 x.change.stamp)) history (p ∷ [])
          ∙ ap (λ (d : Bool). upto b.0 history ++ cond (not d) (p ∷ []) []) (lt-ltb b.0 p.change.stamp (omega (arith, b.2, later)))
          ∙ append-nil (upto b.0 history))),
    )
