-- What Check makes of a scan: it goes on from its next fence, ends lawful, or stays where it was.
use Rattle.std.proofs.Common.{◌≡◌, ◌≢◌, ℕ, ◌+◌, ◌-◌, ◌<◌, ◌≤◌, ◌⊎◌, inl, inr, Bool, true, false, List, ◌++◌, length, take, set, get_or, refl, sym, ap, subst, ◌∙◌, arith}
use Rattle.std.proofs.{lemmas.Bool.{cases_lt, cases_eq}, lemmas.List.{length-append, length-map, length-take-le, take_all}, lemmas.List.Folds.list_any_at}
use Rattle.std.proofs.lemmas.List.Elements.{All-append, All-map, All-take}
use Rattle.std.specs.{Prelude.{if◌then◌else◌}, List.{All, Contains}, Ordering.{nat_cmp, is_le, is_lt}, Cmp.Lexicographic.slice_cmp}
use Rattle.mt_version.specs.Changes.{SameButLock}
use Rattle.mt_slices.{specs.{Keys.{IsStoredKey, tenant_of}, Fences.{least_from, least_through, IsBehindAll}}, proofs.Behind.is_behind}
use Rattle.mt_rows.specs.{Commands.IsKey, Rows.Bytes, Stamps.{Stamped, as_shown}, Maps.Map}
use Rattle.mt_runs.specs.Scans.{Shown, IsLawful}
use Rattle.mt_arena.specs.NodeView.{NodeView}
use Rattle.mt_operation.specs.{declared.phase.Phase.TheVariants.{Hop, Done}, declared.walk.Walk.Walk, declared.scan.Stop.Stop, Operations.ScanView}
use Rattle.mt_descent.specs.Pasts.{Past}
use Rattle.mt_walks.{specs.Walked.{IsWithin, HasWalked, IsStretch, IsFront, keys_of, shown_all, is_upto}, proofs.Walks.{lawful, goes_on, goes_on_partly}}
use Rattle.mt_readings.specs.Tenancies.{passed_at}
use Rattle.mt_scan.specs.Checks.{collects, kept_seen, at_fence, AreGreatest, walk_to, GoesBehind, IsCheck}
use Rattle.mt_stretches.specs.Scanned.{maps_of, passed_by, HasScanned, IsSeenIn, IsSeenUpTo, IsSeenTo, HasSeen}
use Rattle.mt_stretches.proofs.Fronts.{front_at, front_all, further, within, contrary}
use Rattle.mt_operation.specs.declared.scan.Stop.TheVariants as stops

-- some key is the least behind all that begin with these bytes, or they are no more than the tenant's four
pub some_behind : (prefix : Bytes) → AreGreatest prefix ⊎ ((fence : Bytes) × IsBehindAll prefix fence)
some_behind prefix = elim (cases_lt 4 (length prefix)) [
  | inl long ↦
      let items = take (length prefix) prefix in
      let value = get_or items (length prefix - 1) 0 in
      let none_more : (i : ℕ) → length prefix ≤ i → i < length prefix → get_or prefix i 0 ≡ 255 = λ i from below. absurd (omega (arith, from, below)) in
      inr (set items (length prefix - 1) (value + 1), is_behind prefix items (length prefix) value refl refl long (omega arith) none_more)
  | inr few ↦ inl (λ i from below. absurd (omega (arith, few, from, below)))
]

-- a key that is at most one of them
upto_yes : (ks : List Bytes) (key k : Bytes) → Contains ks k → is_le (slice_cmp nat_cmp key k) ≡ true → is_upto ks key ≡ true
upto_yes ks key k has le = list_any_at (λ j. is_le (slice_cmp nat_cmp key j)) ks has.0 k has.1 (ap (λ j. is_le (slice_cmp nat_cmp key j)) has.2 ∙ le)

-- no walk is at two phases
not_both : (x w : Walk) → x.phase ≡ Hop → x ≡ walk_to Done w → ⊥
not_both x w hops is_done = let both : Hop ≡ Done = sym hops ∙ ap (λ (y : Walk). y.phase) is_done in cc

not_done : (x w : Walk) → x.phase ≡ Done → x ≡ walk_to Hop w → ⊥
not_done x w is_done hops = let both : Done ≡ Hop = sym is_done ∙ ap (λ (y : Walk). y.phase) hops in cc

module _ (past : Past) (first : ℕ) (from : Bytes) (after : Bool) (count : ℕ) (columns : List ℕ) (prefix : Bytes) (s : ScanView)
    (h : HasScanned past first from after count columns s) (g : HasSeen past first prefix s) where
  -- the tenant, its maps, and the one that was seen
  abbrev t : ℕ
  t = tenant_of s.fence

  abbrev maps : ℕ → Map
  maps = maps_of past t

  abbrev m : Map
  m = maps g.step

  -- the steps so far, and what is said of this scan's asking
  abbrev Between : ℕ → Type 0
  Between = IsWithin first past.steps

  abbrev Scanned : ScanView → Type 0
  Scanned = HasScanned past first from after count columns

  abbrev Lawful : Shown → Type 0
  Lawful = IsLawful maps Between from after count columns

  abbrev Walked : (Bytes → Bool) → Shown → Type 0
  Walked = HasWalked maps Between from after columns

  -- all that it has collected and seen
  abbrev whole : Shown
  whole = s.collected ++ shown_all columns s.seen

  -- it goes on by all that it has seen
  on : (reached : Bytes → Bool) → IsStretch m (passed_by s) reached s.seen → ((key : Bytes) → passed_by s key ≡ true → reached key ≡ true) →
      Walked reached whole
  on reached stretch more = goes_on maps Between from after columns (passed_by s) reached s.collected s.seen g.step
      h.walked (front_at t s.fence s.after) (g.since, g.made) stretch more h.behind

  -- all keys that it has then are users' ones
  keys_short : All (λ p. IsKey p.0) (collects count columns s)
  keys_short =
      let taken = take (count - length s.collected) s.seen in
      All-append (λ (p : Bytes × Stamped). IsKey p.0) s.collected (shown_all columns taken) h.short
      (All-map (λ (p : Bytes × Stamped). IsKey p.0) (λ (p : Bytes × Stamped). (p.0, as_shown columns p.1)) taken
      (All-take (λ (p : Bytes × Stamped). IsKey p.0) (count - length s.collected) s.seen g.short))

  -- which it keeps whole where it has not as many pairs as it was asked for
  module _ (short : length (collects count columns s) ≢ count) where
    kept : (collects count columns s ≡ whole) × (length whole < count)
    kept = elim (cases_lt (length s.seen) (count - length s.collected)) [
      | inl less ↦
          let all : take (count - length s.collected) s.seen ≡ s.seen = take_all (count - length s.collected) s.seen (omega (arith, less)) in
          let size = length-append s.collected (shown_all columns s.seen) in
          let same = length-map {B = Bytes × Stamped} s.seen (λ (p : Bytes × Stamped). (p.0, as_shown columns p.1)) in
          (ap (λ ps. s.collected ++ shown_all columns ps) all, omega (arith, less, size, same))
      | inr enough ↦
          let taken = take (count - length s.collected) s.seen in
          let size = length-append s.collected (shown_all columns taken) in
          let same = length-map {B = Bytes × Stamped} taken (λ (p : Bytes × Stamped). (p.0, as_shown columns p.1)) in
          let long = length-take-le (count - length s.collected) s.seen enough in
          let few = h.few in
          absurd (short (omega (arith, size, same, long, few)))
    ]

    -- from a fence ahead
    at_next : (next : Bytes) → IsSeenUpTo m s next → is_lt (slice_cmp nat_cmp s.fence next) ≡ true → IsStoredKey next
        → Scanned (at_fence (kept_seen count columns s) next)
    at_next next upto ahead stored = record {
      stored = stored;
      walked = subst (λ u. HasWalked (maps_of past u) Between from after columns (passed_at u next false) (collects count columns s)) (sym upto.owner)
          (subst (Walked (passed_at t next false)) (sym kept.0) (on (passed_at t next false) upto.seen (further t s.fence next s.after ahead)));
      behind = λ key ahead_of. h.behind key (contrary (passed_by s key) (passed_at t next false key) (further t s.fence next s.after ahead key)
          (ap (λ u. passed_at u next false key) (sym upto.owner) ∙ ahead_of));
      few = subst (λ (ps : Shown). length ps < count) (sym kept.0) kept.1;
      short = keys_short;
    }

    -- from where it is, which lies behind the link already: so it has seen nothing
    at_same : (next : Bytes) → IsSeenUpTo m s next → is_lt (slice_cmp nat_cmp s.fence next) ≡ false
        → Scanned (kept_seen count columns s)
    at_same next upto not_ahead = record {
      stored = h.stored;
      walked = subst (Walked (passed_by s)) (sym kept.0) (on (passed_by s) (record {
        rises = upto.seen.rises;
        behind = upto.seen.behind;
        below = λ k d lt. within t s.fence next s.after not_ahead (get_or s.seen k d).0 (upto.seen.below k d lt);
        real = upto.seen.real;
        whole = λ key ahead_of is_done. absurd (let both : false ≡ true = sym ahead_of ∙ is_done in cc);
      }) (λ key is_done. is_done));
      behind = h.behind;
      few = subst (λ (ps : Shown). length ps < count) (sym kept.0) kept.1;
      short = keys_short;
    }

    -- from the one of the two that it goes on from behind a link
    past_by : (next : Bytes) (b : Bool) (is : ScanView) → is_lt (slice_cmp nat_cmp s.fence next) ≡ b → IsSeenUpTo m s next → IsStoredKey is.fence
        → is ≡ (if b then at_fence (kept_seen count columns s) next else kept_seen count columns s) → Scanned is
    past_by next true is ahead upto stored e =
        subst Scanned (sym e) (at_next next upto ahead (subst (λ (z : ScanView). IsStoredKey z.fence) e stored))
    past_by next false is ahead upto stored e = subst Scanned (sym e) (at_same next upto ahead)

    -- by how the stretch ends
    goes_by : (stop : Stop) (is : ScanView) (w x : Walk) → IsSeenTo m s prefix stop → GoesBehind prefix stop (kept_seen count columns s) is w x
        → IsStoredKey is.fence → x.phase ≡ Hop
        → Scanned is
    goes_by (stops.Link slice tree) is w x to goes stored hops =
        past_by (least_through prefix slice) (is_lt (slice_cmp nat_cmp s.fence (least_through prefix slice))) is refl to stored goes.0
    goes_by (stops.Next slice) is w x to goes stored hops =
        subst Scanned (sym goes.0)
        (at_next (least_from prefix slice) to.upto to.ahead (subst (λ (z : ScanView). IsStoredKey z.fence) goes.0 stored))
    goes_by stops.Tree is w x to goes stored hops = elim goes [
      | inl on_from ↦
          let b = on_from.0 in
          let seen = to.0 b.fence b.behind in
          subst Scanned (sym b.at) (at_next b.fence seen.upto seen.ahead (subst (λ (z : ScanView). IsStoredKey z.fence) b.at stored))
      | inr ended ↦ absurd (not_both x w hops ended.2)
    ]
    goes_by stops.Tenant is w x to goes stored hops = absurd (not_both x w hops goes.1)

    -- it is lawful where the tenant has no key behind
    ends_all : IsSeenIn m s (λ key. true) → Lawful (collects count columns s)
    ends_all seen = subst Lawful (sym kept.0)
        (lawful maps Between from after count columns (λ key. true) whole (on (λ key. true) seen (λ key is_done. refl))
        (let few = kept.1 in omega (arith, few)) (λ key walked reached. refl))

    -- by how the stretch ends
    ends_by : (stop : Stop) (is : ScanView) (w x : Walk) → IsSeenTo m s prefix stop → GoesBehind prefix stop (kept_seen count columns s) is w x → x.phase ≡ Done
        → Lawful is.collected
    ends_by (stops.Link slice tree) is w x to goes is_done = absurd (not_done x w is_done goes.1)
    ends_by (stops.Next slice) is w x to goes is_done = absurd (not_done x w is_done goes.1)
    ends_by stops.Tree is w x to goes is_done = elim goes [
      | inl on_from ↦ absurd (not_done x w is_done on_from.1)
      | inr ended ↦ subst (λ (z : ScanView). Lawful z.collected) (sym ended.1) (ends_all (to.1 ended.0))
    ]
    ends_by stops.Tenant is w x to goes is_done =
        subst (λ (z : ScanView). Lawful z.collected) (sym goes.0) (ends_all to)

  -- what it has seen goes as far as some front of the keys
  some_stretch : (stop : Stop) → IsSeenTo m s prefix stop → (reached : Bytes → Bool) × IsFront reached × IsStretch m (passed_by s) reached s.seen
  some_stretch (stops.Link slice tree) to = (passed_at t (least_through prefix slice) false, front_at t (least_through prefix slice) false, to.seen)
  some_stretch (stops.Next slice) to = (passed_at t (least_from prefix slice) false, front_at t (least_from prefix slice) false, to.upto.seen)
  some_stretch stops.Tree to = elim (some_behind prefix) [
    | inl greatest ↦ (λ key. true, front_all, to.1 greatest)
    | inr b ↦ (passed_at t b.0 false, front_at t b.0 false, (to.0 b.0 b.1).upto.seen)
  ]
  some_stretch stops.Tenant to = (λ key. true, front_all, to)

  -- it is lawful where it has as many pairs as it was asked for
  ends_full : length (collects count columns s) ≡ count → Lawful (collects count columns s)
  ends_full full =
      let to = some_stretch s.stop g.seen in
      lawful maps Between from after count columns (is_upto (keys_of (collects count columns s))) (collects count columns s)
      (goes_on_partly maps Between from after columns (passed_by s) to.0 s.collected s.seen g.step (count - length s.collected)
      h.walked (front_at t s.fence s.after) to.1 (g.since, g.made) to.2 h.behind)
      (omega (arith, full))
      (λ key walked reached. let last = reached full in upto_yes (keys_of (collects count columns s)) key last.0 last.1 last.2)

module _ (past : Past) (first : ℕ) (from : Bytes) (after : Bool) (n : NodeView) (prefix : Bytes) (count : ℕ) (columns : List ℕ) (w x : Walk) (s is : ScanView)
    (h : HasScanned past first from after count columns s) (check : IsCheck n prefix count columns w x s is) where
  -- it goes on
  pub checked_on : HasSeen past first prefix s → SameButLock n.version w.place.seen → IsStoredKey is.fence → x.phase ≡ Hop
      → HasScanned past first from after count columns is
  checked_on g same stored hops = elim (cases_eq (length (collects count columns s)) count) [
    | inl full ↦ absurd (let ended = check.full same full in not_both x w hops ended.1)
    | inr short ↦ goes_by past first from after count columns prefix s h g short s.stop is w x g.seen (check.goes same short) stored hops
  ]

  -- it is done
  pub checked_off : HasSeen past first prefix s → SameButLock n.version w.place.seen → x.phase ≡ Done
      → IsLawful (maps_of past (tenant_of s.fence)) (IsWithin first past.steps) from after count columns is.collected
  checked_off g same is_done = elim (cases_eq (length (collects count columns s)) count) [
    | inl full ↦
        let ended = check.full same full in
        subst (λ (z : ScanView). IsLawful (maps_of past (tenant_of s.fence)) (IsWithin first past.steps) from after count columns z.collected) (sym ended.0)
        (ends_full past first from after count columns prefix s h g full)
    | inr short ↦ ends_by past first from after count columns prefix s h g short s.stop is w x g.seen (check.goes same short) is_done
  ]

  -- it has dropped what it had seen
  pub dropped : ¬ SameButLock n.version w.place.seen → HasScanned past first from after count columns is
  dropped differs =
      let changed = check.changed differs in
      subst (HasScanned past first from after count columns) (sym changed.0) (record { stored = h.stored; walked = h.walked; behind = h.behind; few = h.few; short = h.short })

  -- the keys of all that it has collected then are users' ones
  pub checked_short : HasSeen past first prefix s → SameButLock n.version w.place.seen → All (λ p. IsKey p.0) is.collected
  checked_short g same = elim (cases_eq (length (collects count columns s)) count) [
    | inl full ↦ let ended = check.full same full in subst (λ (z : ScanView). All (λ p. IsKey p.0) z.collected) (sym ended.0) keys
    | inr short ↦ by s.stop (check.goes same short)
  ]
    where
      keys : All (λ p. IsKey p.0) (collects count columns s)
      keys = keys_short past first from after count columns prefix s h g

      past_by : (prefix : Bytes) (slice : ℕ) (b : Bool) → All (λ p. IsKey p.0) (if b then at_fence (kept_seen count columns s) (least_through prefix slice) else kept_seen count columns s).collected
      past_by prefix slice true = keys
      past_by prefix slice false = keys

      by : (stop : Stop) → GoesBehind prefix stop (kept_seen count columns s) is w x → All (λ p. IsKey p.0) is.collected
      by (stops.Link slice tree) goes = subst (λ (z : ScanView). All (λ p. IsKey p.0) z.collected) (sym goes.0)
          (past_by prefix slice (is_lt (slice_cmp nat_cmp s.fence (least_through prefix slice))))
      by (stops.Next slice) goes = subst (λ (z : ScanView). All (λ p. IsKey p.0) z.collected) (sym goes.0) keys
      by stops.Tree goes = elim goes [
        | inl on_from ↦ subst (λ (z : ScanView). All (λ p. IsKey p.0) z.collected) (sym on_from.0.at) keys
        | inr ended ↦ subst (λ (z : ScanView). All (λ p. IsKey p.0) z.collected) (sym ended.1) keys
      ]
      by stops.Tenant goes = subst (λ (z : ScanView). All (λ p. IsKey p.0) z.collected) (sym goes.0) keys
