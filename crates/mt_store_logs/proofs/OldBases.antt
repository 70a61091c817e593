-- What is recovered over a checkpoint of format 1: each row as it was at the cutoff, with its own stamp, or with the number of steps before the walk if its own is lower.
use Rattle.std.proofs.Common.{◌≡◌, ◌≢◌, ◌⊎◌, ⊎_elim, inl, inr, ℕ, ◌<◌, ◌≤◌, max, Bool, true, false, not, ◌&&◌, ltb, List, [], ◌∷◌, ◌++◌, Option, Some, None, refl, sym, ◌∙◌, ap, subst, arith}
use Rattle.std.proofs.lemmas.{Bool.{ltb-true, ltb-false, lt-ltb, not-true}, List.map-append, List.Elements.filter-append, Option.same_Some}
use Rattle.std.specs.{Option.option_map, FinMap.{get, empty, get-empty}}
use Rattle.mt_rows.specs.{Rows.{Bytes, Columns}, Changes.changed, Stamps.{Stamped, stamp_in, restamped_row}, Tenants.{owned_cmp, Contents as Pairs}}
use Rattle.mt_rows.specs.{declared.record.Record.Record, declared.record.Write.Write, declared.record.Write.TheVariants.{Removed, Whole, Changed}}
use Rattle.mt_log.specs.Contents.{Contents, IsOldWrite}
use Rattle.mt_crashes.specs.Fronts.{In, Rise, cutoff_of, key_of, made, with_change, with_replayed, after_changes, after_replay}
use Rattle.mt_crashes.specs.{Histories.{Placed, upto, changes_of, pairs_upto}, Bases.{over, CheckpointView, Slots}, Invariants.RisePlaced, Recoveries.{HasSlot, IsRecovered}}
use Rattle.mt_crashes.proofs.Bases.{one_or_not, change_at, change_beside, replayed_at, replayed_beside, made_over, made_upto, stamps_upto, each_upto}
use Rattle.mt_crashes.proofs.Bases.{untouched, untouched_replay, replay_append, parted, later_pairs}
use Rattle.mt_crashes.proofs.{Members.{filter_filter, filter_same, in_filter, map_in, permuted_in, in_permuted}, Invariant.{rise_changes, rise_filter, same_members}}
use Rattle.mt_store_logs.specs.OldBases.{IsOldBase, AreOldUpto, TellHistory}

-- ---- stamps that are raised to a number

-- a row with a number for its stamp, if that is greater
abbrev pub raised : ℕ → Option Stamped → Option Stamped
raised from row = option_map (restamped_row (max from)) row

-- a row with a number for its stamp
abbrev stamped : ℕ → Columns → Option Stamped
stamped stamp row = Some (record { stamp = stamp; row = row })

raised_upto : (from : ℕ) (row : Option Stamped) → stamp_in (raised from row) ≤ max from (stamp_in row)
raised_upto from None = omega arith
raised_upto from (Some r) = omega arith

-- one that has the number, and is of one with no greater stamp
raised_low : (from : ℕ) (row : Option Stamped) → stamp_in row ≤ from → option_map (restamped_row (λ stamp. from)) row ≡ raised from row
raised_low from None low = refl
raised_low from (Some r) low = let e : from ≡ max from r.stamp = omega (arith, low) in ap (λ (n : ℕ). stamped n r.row) e

low_upto : (from : ℕ) (row : Option Stamped) → stamp_in (option_map (restamped_row (λ stamp. from)) row) ≤ from
low_upto from None = omega arith
low_upto from (Some r) = omega arith

-- a change over the number makes the same of both
made_raised : (from stamp : ℕ) (write : Write) (row : Option Stamped) → from < stamp → made stamp write (raised from row) ≡ raised from (made stamp write row)
made_raised from stamp Removed row lt = refl
made_raised from stamp (Whole new) row lt = let e : stamp ≡ max from stamp = omega (arith, lt) in ap (λ (n : ℕ). stamped n new) e
made_raised from stamp (Changed change) None lt = refl
made_raised from stamp (Changed change) (Some r) lt = let e : stamp ≡ max from stamp = omega (arith, lt) in ap (λ (n : ℕ). stamped n (changed change r.row)) e

-- and one that isn't of changed columns makes the same of everything
same_made : (stamp : ℕ) (write : Write) (a b : Option Stamped) → IsOldWrite write → made stamp write a ≡ made stamp write b
same_made stamp Removed a b old = refl
same_made stamp (Whole row) a b old = refl
same_made stamp (Changed change) a b old = absurd old

-- ---- changes over a number

-- If a key stands so before them, it does after them: with its own stamp in the history, and raised in the replay.
keeps_raised : (from n : ℕ) (rs : List Record) (x y : Pairs) (q : ℕ × Bytes) → Rise n rs → from ≤ n → stamp_in (get y q) ≤ n → get x q ≡ raised from (get y q)
    → get (after_replay x rs) q ≡ raised from (get (after_changes y rs) q)
keeps_raised from n [] x y q rises le low same = same
keeps_raised from n (r ∷ rs) x y q rises le low same = ⊎_elim
    (λ own.
    let under = raised_upto from (get y q) in
    let step = replayed_at x r q own ∙ made_over r.stamp r.write (get x q) (omega (arith, ap stamp_in same, under, le, low, rises.0)) in
    keeps_raised from r.stamp rs (with_replayed x r) (with_change y r) q rises.1 (omega (arith, le, rises.0))
    (omega (arith, ap stamp_in (change_at y r q own), made_upto r.stamp r.write (get y q)))
    (step ∙ ap (made r.stamp r.write) same ∙ made_raised from r.stamp r.write (get y q) (omega (arith, le, rises.0)) ∙ ap (raised from) (sym (change_at y r q own))))
    (λ other.
    keeps_raised from r.stamp rs (with_replayed x r) (with_change y r) q rises.1 (omega (arith, le, rises.0))
    (omega (arith, ap stamp_in (change_beside y r q other), low, rises.0))
    (replayed_beside x r q other ∙ same ∙ ap (raised from) (sym (change_beside y r q other))))
    (one_or_not (key_of r) q)

-- none of some changes is of a key
abbrev AreBeside : ℕ × Bytes → List Record → Type 0
AreBeside q rs = (r : Record) → In r rs → key_of r ≢ q

one_beside : (q : ℕ × Bytes) (r : Record) (rs : List Record) → key_of r ≢ q → AreBeside q rs → AreBeside q (r ∷ rs)
one_beside q r rs other rest p (inl e) own = other (ap key_of (sym e) ∙ own)
one_beside q r rs other rest p (inr at) own = rest p at own

-- Changes of which none is of changed columns: none is of the key, or it stands so after them, whatever stood there.
comes_raised : (from n : ℕ) (rs : List Record) (x y : Pairs) (q : ℕ × Bytes) → Rise n rs → from ≤ n → stamp_in (get x q) ≤ n → stamp_in (get y q) ≤ n
    → ((r : Record) → In r rs → IsOldWrite r.write) → AreBeside q rs ⊎ (get (after_replay x rs) q ≡ raised from (get (after_changes y rs) q))
comes_raised from n [] x y q rises le x_low y_low old = inl (λ r at. absurd at)
comes_raised from n (r ∷ rs) x y q rises le x_low y_low old = ⊎_elim
    (λ own.
    let step = replayed_at x r q own ∙ made_over r.stamp r.write (get x q) (omega (arith, x_low, rises.0)) in
    inr (keeps_raised from r.stamp rs (with_replayed x r) (with_change y r) q rises.1 (omega (arith, le, rises.0))
    (omega (arith, ap stamp_in (change_at y r q own), made_upto r.stamp r.write (get y q)))
    (step ∙ same_made r.stamp r.write (get x q) (raised from (get y q)) (old r (inl refl))
    ∙ made_raised from r.stamp r.write (get y q) (omega (arith, le, rises.0)) ∙ ap (raised from) (sym (change_at y r q own)))))
    (λ other.
    ⊎_elim (λ rest. inl (one_beside q r rs other rest)) inr
    (comes_raised from r.stamp rs (with_replayed x r) (with_change y r) q rises.1 (omega (arith, le, rises.0))
    (omega (arith, ap stamp_in (replayed_beside x r q other), x_low, rises.0)) (omega (arith, ap stamp_in (change_beside y r q other), y_low, rises.0))
    (λ p at. old p (inr at))))
    (one_or_not (key_of r) q)

-- ---- a history in parts

over_over : (from m : ℕ) (ps : List Placed) → from ≤ m → over from (over m ps) ≡ over m ps
over_over from m ps le =
    filter_filter (λ (p : Placed). ltb from p.change.stamp) (λ (p : Placed). ltb m p.change.stamp) ps ∙ filter_same _ _ ps (λ p at. both p (ltb m p.change.stamp) refl)
  where
    both : (p : Placed) (b : Bool) → ltb m p.change.stamp ≡ b → (b && ltb from p.change.stamp) ≡ b
    both p true is = lt-ltb from p.change.stamp (omega (arith, le, ltb-true _ _ is))
    both p false is = refl

two_parts : (from m to : ℕ) (history : List Placed) → RisePlaced 0 history → from ≤ m → m ≤ to
    → changes_of (over from (upto to history)) ≡ changes_of (over from (upto m history)) ++ changes_of (over m (upto to history))
two_parts from m to history rises le within =
    ap changes_of (
    ap (over from) (parted m to 0 history rises within)
    ∙ filter-append (λ (p : Placed). ltb from p.change.stamp) (upto m history) (over m (upto to history))
    ∙ ap (λ (l : List Placed). over from (upto m history) ++ l) (over_over from m (upto to history) le)
    )
    ∙ map-append (λ (p : Placed). p.change) (over from (upto m history)) (over m (upto to history))

rises_over : (m low : ℕ) (ps : List Placed) → RisePlaced low ps → ((p : Placed) → In p ps → m < p.change.stamp) → Rise m (changes_of ps)
rises_over m low [] rises all = tt
rises_over m low (p ∷ ps) rises all = (all p (inl refl), rise_changes p.change.stamp ps rises.1)

over_rises : (m to : ℕ) (history : List Placed) → RisePlaced 0 history → Rise m (changes_of (over m (upto to history)))
over_rises m to history rises = rises_over m 0 (over m (upto to history))
    (rise_filter (λ (p : Placed). ltb m p.change.stamp) 0 _ (rise_filter (λ (p : Placed). not (ltb to p.change.stamp)) 0 history rises))
    (λ p at. ltb-true m p.change.stamp (in_filter (λ (p : Placed). ltb m p.change.stamp) p (upto to history) at).1)

-- a change between two numbers is one of the history, up to the second
placed_in : (from m : ℕ) (history : List Placed) (r : Record) → In r (changes_of (over from (upto m history)))
    → (p : Placed) × In p history × (p.change.stamp ≤ m) × (r ≡ p.change)
placed_in from m history r at =
    let p = map_in (λ (x : Placed). x.change) r (over from (upto m history)) at in
    let later = in_filter (λ (x : Placed). ltb from x.change.stamp) p.0 (upto m history) p.1 in
    let within = in_filter (λ (x : Placed). not (ltb m x.change.stamp)) p.0 history later.0 in
    (p.0, within.0, ltb-false m p.0.change.stamp (not-true _ within.1), p.2)

-- ---- a base of format 1

stamps_at : (m : ℕ) (history : List Placed) (q : ℕ × Bytes) → stamp_in (get (pairs_upto m history) q) ≤ m
stamps_at m history q = stamps_upto m (changes_of (upto m history)) empty q (omega (arith, ap stamp_in (get-empty owned_cmp q))) (each_upto m history)

module _ (from to cutoff : ℕ) (history : List Placed) (base : Pairs) (rises : RisePlaced 0 history) (within : to ≤ cutoff) (is : IsOldBase from to history base)
    (old : AreOldUpto to history) (q : ℕ × Bytes) where
  abbrev m : ℕ
  m = (is q).0

  over_from : from ≤ m
  over_from = (is q).1

  upto_to : m ≤ to
  upto_to = (is q).2

  base_at : get base q ≡ option_map (restamped_row (λ stamp. from)) (get (pairs_upto m history) q)
  base_at = (is q).3

  abbrev first : List Record
  first = changes_of (over from (upto m history))

  abbrev second : List Record
  second = changes_of (over m (upto cutoff history))

  -- what the history has at that number
  history_at : get (after_changes (pairs_upto from history) first) q ≡ get (pairs_upto m history) q
  history_at = ap (λ (w : Pairs). get w q) (later_pairs from m history rises over_from)

  -- no change of the key up to there
  beside : AreBeside q first → get (after_replay base first) q ≡ raised from (get (pairs_upto m history) q)
  beside none =
      let same = sym history_at ∙ untouched first (pairs_upto from history) q none in
      untouched_replay first base q none
      ∙ base_at
      ∙ raised_low from (get (pairs_upto m history) q) (omega (arith, ap stamp_in same, stamps_at from history q))

  -- the replay up to there
  mid : get (after_replay base first) q ≡ raised from (get (pairs_upto m history) q)
  mid = ⊎_elim beside (λ so. so ∙ ap (raised from) history_at)
      (comes_raised from from first base (pairs_upto from history) q (over_rises from m history rises) (omega arith)
      (omega (arith, ap stamp_in base_at, low_upto from (get (pairs_upto m history) q))) (stamps_at from history q)
      (λ r at.
      let p = placed_in from m history r at in
      subst (λ (x : Record). IsOldWrite x.write) (sym p.3) (old p.0 p.1 (omega (arith, p.2, upto_to)))))

  pub over_old_base : get (after_replay base (changes_of (over from (upto cutoff history)))) q ≡ raised from (get (pairs_upto cutoff history) q)
  over_old_base =
      ap (λ (rs : List Record). get (after_replay base rs) q) (two_parts from m cutoff history rises over_from (omega (arith, upto_to, within)))
      ∙ ap (λ (w : Pairs). get w q) (replay_append base first second)
      ∙ keeps_raised from m second (after_replay base first) (pairs_upto m history) q (over_rises m cutoff history rises) over_from (stamps_at m history q) mid
      ∙ ap (λ (w : Pairs). raised from (get w q)) (later_pairs m cutoff history rises (omega (arith, upto_to, within)))

-- ---- a recovery that uses it

pub recovered_over : (k cutoff resume : ℕ) (fronts : List Contents) (read : Slots) (found : Pairs) (c : CheckpointView) (history : List Placed) (key : ℕ × Bytes)
    → RisePlaced 0 history → HasSlot read k c → IsOldBase c.from c.to history c.pairs → AreOldUpto c.to history → TellHistory c.from fronts history
    → IsRecovered fronts read cutoff resume (Some k) found → get found key ≡ raised c.from (get (pairs_upto cutoff history) key)
recovered_over k cutoff resume fronts read found c history key rises slot is old tell r =
    let used_same : r.used_is.0 ≡ c = same_Some r.used_is.0 c (same_Some (Some r.used_is.0) (Some c) (sym r.used_is.1 ∙ slot)) in
    let whole : c.to ≤ cutoff_of fronts = subst (λ (x : CheckpointView). x.to ≤ cutoff_of fronts) used_same r.used_is.2.whole in
    let base_same : r.base_is.0 ≡ c = same_Some r.base_is.0 c (same_Some (Some r.base_is.0) (Some c) (sym r.base_is.1 ∙ slot)) in
    let from_is : r.from ≡ c.from = r.base_is.2 ∙ ap (λ (x : CheckpointView). x.from) base_same in
    let base_is : r.base ≡ c.pairs = r.base_is.3 ∙ ap (λ (x : CheckpointView). x.pairs) base_same in
    let told : TellHistory r.from fronts history = subst (λ (n : ℕ). TellHistory n fronts history) (sym from_is) tell in
    let all : r.replayed ≡ changes_of (over r.from (upto (cutoff_of fronts) history)) =
    same_members r.from r.from r.replayed (changes_of (over r.from (upto (cutoff_of fronts) history))) r.replay.rises told.rises
    (λ x at. in_permuted _ _ x told.same (permuted_in _ r.replayed x r.replay.same at))
    (λ x at. in_permuted _ r.replayed x r.replay.same (permuted_in _ _ x told.same at)) in
    let changes_are : r.replayed ≡ changes_of (over c.from (upto (cutoff_of fronts) history)) = all ∙ ap (λ (n : ℕ). changes_of (over n (upto (cutoff_of fronts) history))) from_is in
    ap (λ (w : Pairs). get w key) r.pairs_are
    ∙ ap (λ (w : Pairs). get (after_replay w r.replayed) key) base_is
    ∙ ap (λ (rs : List Record). get (after_replay c.pairs rs) key) changes_are
    ∙ over_old_base c.from c.to (cutoff_of fronts) history c.pairs rises whole is old key
    ∙ ap (λ (n : ℕ). raised c.from (get (pairs_upto n history) key)) (sym r.cutoff_is)
