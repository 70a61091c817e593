-- How the steps of a scan bring it on that nobody is in the way of: for `Inner::look`.
use Rattle.std.proofs.Common.{◌≡◌, ◌≢◌, ℕ, ◌+◌, ◌*◌, ◌-◌, ◌<◌, ◌≤◌, ◌⊎◌, inl, inr, Bool, true, false, cond, List, length, take, Option, Some, None, refl, sym, ap, subst, ◌∙◌, arith}
use Rattle.std.proofs.{Math.Nat.{mul-le-mul_right, add-mul, mul-add, mul_assoc, mul_comm, min-le_right}, lemmas.Bool.cases_eq, lemmas.Option.same_Some}
use Rattle.std.proofs.lemmas.List.{get_or_default}
use Rattle.std.specs.{Prelude.min, declared.cmp.Ordering.Ordering, Ordering.{nat_cmp, is_lt}, Cmp.Lexicographic.slice_cmp}
use Rattle.mt_version.specs.Parts.{Parts}
use Rattle.mt_slices.specs.{Keys.IsStoredKey, Fences.{least_from, least_through, IsBehindAll}}
use Rattle.mt_rows.specs.{Rows.Bytes, declared.command.Command.Command, declared.command.Command.TheVariants.Scan, Maps.{Map, is_scan}}
use Rattle.mt_border.{specs.declared.entry.Entry.Entry, proofs.Edits.any_entry}
use Rattle.mt_arena.specs.{declared.tree.Standing.Standing, declared.tree.Standing.TheVariants.{Made, Live, Dead}, Forests.tree_at, Layers.slot_at}
use Rattle.mt_arena.specs.{Arena.{ArenaView, IsArena}, Accesses.at}
use Rattle.mt_arena.proofs.OneLink.{leads}
use Rattle.mt_operation.proofs.Phases.{by_descent}
use Rattle.mt_operation.specs.{declared.phase.Phase.Phase, declared.phase.Phase.TheVariants.{Enter, Forward, Snap, Check, Hop, Done}, declared.walk.Aim.Aim}
use Rattle.mt_operation.specs.{declared.walk.Walk.Walk, declared.scan.Stop.Stop, Operations.ScanView, Phases.{IsDescent, IsOfKind, is_done}, Tasks.aim_of}
use Rattle.mt_descent.specs.{Seen.{Stands, IsRemembered}, KeptWalks.{IsAtBorder, GoesThrough, slice_in}, WalkMoves.{walk_into, walk_onto, walk_anew}}
use Rattle.mt_descent.proofs.Ways.{same_stands}
use Rattle.mt_readings.proofs.Readings.{stop_in}
use Rattle.mt_scan.specs.{Snaps.{StopsAt, behind_in, prefix_in, IsSnap}, Checks.{IsCheck, GoesBehind, at_fence, past_link, kept_seen, walk_to, collects}}
use Rattle.mt_scan.specs.Hops.{KnowsEnd, LeadsNext, IsAtCheck, KeptHop, HopsTo, after_next}
use Rattle.mt_stretches.specs.Scanned.{IsSeenTo}
use Rattle.mt_descent.proofs.Decides.{same_or_not}
use Rattle.mt_core.specs.Budgets.{Budget, IsBudget, SeesNow, WalksBy, astray, behind, budget_of, until}
use Rattle.mt_core.specs.ScanPoints.{LeadsOnward, HopsBy, ScansBy, IsScanAt, trees_ahead, nodes_ahead, begin_of, is_behind_tree, round_of}
use Rattle.mt_core.proofs.{WalkBounds.few_walked, Ahead.{behind_all, not_behind, not_below, not_itself, trees_less, trees_fewer, nodes_less, nodes_fewer}}
use Rattle.mt_core.proofs.LookPoints.{height_law, next_layer, shallow_below, same_now, comes_onto}
use Rattle.mt_operation.specs.declared.walk.Aim.TheVariants as aims
use Rattle.mt_operation.specs.declared.scan.Stop.TheVariants as stops

abbrev cmp : Bytes → Bytes → Ordering
cmp = slice_cmp nat_cmp

-- a scan comes to scan
pub scan_aim : (command : Command) → is_scan command ≡ true → aim_of command ≡ aims.Scan
scan_aim (Scan from after count columns) e = refl
scan_aim _ e = absurd (cc)

-- the phases of a way that is to scan are those of which it speaks
walks_of : (p : Phase) → IsDescent p → (stop : Stop) (height n : ℕ) (v : ArenaView) (w : Walk) → ScansBy p stop height n v w → WalksBy p (budget_of height) n v w
walks_of p i stop height n v w = by_descent (λ p. ScansBy p stop height n v w → WalksBy p (budget_of height) n v w) (λ k. k) (λ k. k) (λ k. k) (λ k. k) (λ k. k) p i

pub scans_of : (p : Phase) (aim : Aim) → IsOfKind p aim → aim ≡ aims.Scan → (stop : Stop) (height n : ℕ) (v : ArenaView) (w : Walk) → WalksBy p (budget_of height) n v w
    → ScansBy p stop height n v w
scans_of Check aim kind scans stop height n v w few = absurd few
scans_of Hop aim kind scans stop height n v w few = absurd few
scans_of _ aim kind scans stop height n v w few = few

-- the number of the first step says nothing of it
few_first : (p : Phase) (stop : Stop) (height n first : ℕ) (v : ArenaView) (w : Walk) → ScansBy p stop height n v w → ScansBy p stop height n v (record w { first = first })
few_first Hop (stops.Link slice tree) height n first v w few = few
few_first Hop (stops.Next slice) height n first v w few = few
few_first Hop stops.Tree height n first v w few = few
few_first Hop stops.Tenant height n first v w few = few
few_first Check (stops.Link slice tree) height n first v w few = few
few_first Check (stops.Next slice) height n first v w few = few
few_first Check stops.Tree height n first v w few = few
few_first Check stops.Tenant height n first v w few = few
few_first Enter stop height n first v w few = few
few_first _ stop height n first v w few = few

pub scan_first : (height trees made first : ℕ) (v : ArenaView) (w : Walk) (stop : Stop) (fence : Bytes) → IsScanAt height trees made v w stop fence
    → IsScanAt height trees made v (record w { first = first }) stop fence
scan_first height trees made first v w stop fence s = record {
  live = s.live;
  standing = s.standing;
  below = s.below;
  round = s.round;
  few = few_first w.phase stop height s.round first v w s.few;
  spent = s.spent;
}

-- what it says of a scan at this phase
few_at : (p : Phase) (height trees made : ℕ) (v : ArenaView) (w : Walk) (stop : Stop) (fence : Bytes) → w.phase ≡ p → (s : IsScanAt height trees made v w stop fence)
    → ScansBy p stop height s.round v w
few_at p height trees made v w stop fence at_p s = subst (λ (q : Phase). ScansBy q stop height s.round v w) at_p s.few

module _ (v : ArenaView) (arena : IsArena v.nodes v.trees) (height trees made : ℕ) (w x : Walk) where
  -- a step down
  pub down_nears : (stop : Stop) (fence : Bytes) → IsDescent w.phase → IsOfKind x.phase x.aim → x.aim ≡ aims.Scan
      → ((b : Budget) → IsBudget v b → (n : ℕ) → WalksBy w.phase b n v w → WalksBy x.phase b (n + 1) v x)
      → IsScanAt height trees made v w stop fence → IsScanAt height trees (made + 1) v x stop fence
  down_nears stop fence descends kind scans nears s = record {
    live = s.live;
    standing = s.standing;
    below = s.below;
    round = s.round + 1;
    few = scans_of x.phase x.aim kind scans stop height (s.round + 1) v x
        (nears (budget_of height) (height_law v height arena s.below) s.round (walks_of w.phase descends stop height s.round v w s.few));
    spent = omega (arith, s.spent);
  }

  -- a look at the border node
  pub snap_nears : (fence key : Bytes) (stop : Stop) (was is : ScanView) → w.phase ≡ Snap → IsAtBorder v key w → IsSnap v w x was is → IsScanAt height trees made v w stop fence
      → IsScanAt height trees (made + 1) v x is.stop fence
  snap_nears fence key stop was is at_snap border sees s = record {
    live = s.live;
    standing = s.standing;
    below = s.below;
    round = s.round + 1;
    few = subst (λ (y : Walk). ScansBy y.phase is.stop height (s.round + 1) v y) (sym sees.walk)
        (elim (few_at Snap height trees made v w stop fence at_snap s) [
          | inl now ↦ inl (now.0, onward now.0 is.stop sees.stops, omega (arith, now.1))
          | inr strays ↦ inr (omega (arith, strays))
        ]);
    spent = omega (arith, s.spent);
  }
    where
      k : ℕ
      k = w.place.node

      next_is : Stop → Option ℕ
      next_is (stops.Next slice) = (at v k).next
      next_is _ = None

      onward : SeesNow v w → (end : Stop) → StopsAt (at v k) was w.layer end → LeadsOnward v (record w { next = next_is end; phase = Check }) end
      onward now (stops.Link slice tree) at_link =
          let there = border.covers.remembered.there in
          let live : (at v k).version.deleted ≡ false = ap (λ (p : Parts). p.deleted) (sym now) ∙ border.covers.remembered.undeleted in
          let place = stop_in (behind_in was w.layer) (at v k).slots at_link.link at_link.is in
          let slot_is : slot_at (at v k) place.0 ≡ at_link.link = get_or_default (at v k).slots place.0 any_entry at_link.link place.1 ∙ place.2 in
          (leads v.nodes v.trees arena k place.0 tree (record { there = there; live = live; in_range = place.1; is = ap (λ (e : Entry). e.held) slot_is ∙ at_link.leads })).live
      onward now (stops.Next slice) ends = λ j is_next.
          let there = border.covers.remembered.there in
          let live : (at v k).version.deleted ≡ false = ap (λ (p : Parts). p.deleted) (sym now) ∙ border.covers.remembered.undeleted in
          let j_there = (arena.nodes.each k there).names.next j is_next in
          ((arena.nodes.pairs k j there j_there).next live is_next).live live
      onward now stops.Tree ends = tt
      onward now stops.Tenant ends = tt

-- so many steps a round takes at most
round_most : (height made : ℕ) (w : Walk) → made ≤ until (budget_of height) w + 1 → made + 1 ≤ round_of height
round_most height made w few =
    let capped : min w.layer 31 * (3 * height + 12) ≤ 31 * (3 * height + 12) = mul-le-mul_right (3 * height + 12) (min-le_right w.layer 31) in omega (arith, few, capped)

-- and one tree less ahead takes a whole round less
round_less : (d now was : ℕ) → now + 1 ≤ was → d * now + d ≤ d * was
round_less d now was le = let more = mul-le-mul_right d le in let parts = add-mul now 1 d in let turned = mul_comm d now in let also = mul_comm d was in omega (arith, more, parts, turned, also)

pub rounds_less : (d now was : ℕ) → now ≤ was → d * now ≤ d * was
rounds_less d now was le = let more = mul-le-mul_right d le in let turned = mul_comm d now in let also = mul_comm d was in omega (arith, more, turned, also)

module _ (v : ArenaView) (arena : IsArena v.nodes v.trees) (height trees made : ℕ) (w x : Walk) where
  -- the fence rises, or stays: what is ahead gets no more
  abbrev Spent : ℕ → Bytes → ℕ → Type 0
  Spent n fence round = n + 3 * nodes_ahead v.trees v.nodes fence + round_of height * trees_ahead v.trees fence ≤ round + 3 * height + round_of height * trees

  on_spent : (n round : ℕ) (f g : Bytes) → is_lt (cmp g f) ≡ false → Spent n f round → Spent (n + 1) g (round + 1)
  on_spent n round f g from spent =
      omega (arith, spent, nodes_less v.trees v.nodes f g from, rounds_less (round_of height) (trees_ahead v.trees g) (trees_ahead v.trees f) (trees_less v.trees f g from))

  -- one that compares the version of its node
  module _ (key : Bytes) (at_check : w.phase ≡ Check) (was is : ScanView) (kept : IsAtCheck v key w was.stop) (key_is : was.fence ≡ key)
      (count : ℕ) (columns : List ℕ) (check : IsCheck (at v w.place.node) (prefix_in v w) count columns w x was is) (goes_on : x.phase ≢ Done)
      (seen : Stands (at v w.place.node) w.place.seen → (m : Map) × IsSeenTo m was (prefix_in v w) was.stop)
      (s : IsScanAt height trees made v w was.stop was.fence) where
    abbrev k : ℕ
    k = w.place.node

    few : (SeesNow v w × LeadsOnward v w was.stop × (s.round ≤ until (budget_of height) w + 1)) ⊎ (s.round + (4 + behind v k) ≤ astray height)
    few = few_at Check height trees made v w was.stop was.fence at_check s

    -- the round that it has made is no longer than one
    upto : s.round + 1 ≤ round_of height
    upto = elim few [
      | inl now ↦ round_most height s.round w now.2
      | inr strays ↦ omega (arith, strays)
    ]

    abbrev At : Walk → Stop → Bytes → Type 0
    At y stop fence = IsScanAt height trees (made + 1) v y stop fence

    abbrev prefix : Bytes
    prefix = prefix_in v w

    abbrev kept_all : ScanView
    kept_all = kept_seen count columns was

    -- a scan that goes on by Hop from this fence, with so many steps of its round
    to_hop : (fence : Bytes) (round : ℕ) → HopsBy was.stop height round v (walk_to Hop w) → Spent (made + 1) fence round → At (walk_to Hop w) was.stop fence
    to_hop fence round few spent = record { live = s.live; standing = s.standing; below = s.below; round = round; few = few; spent = spent }

    -- by a link: the fence rises, or is behind the link's own prefix already
    by_link : (slice tree : ℕ) → was.stop ≡ stops.Link slice tree → (ahead : Bool) → is_lt (cmp was.fence (least_through prefix slice)) ≡ ahead
        → let i = cond ahead (at_fence kept_all (least_through prefix slice)) kept_all in At (walk_to Hop w) i.stop i.fence
    by_link slice tree e ahead is = by ahead is
      where
        goes : HopsBy was.stop height (s.round + 1) v (walk_to Hop w)
        goes = subst (λ (end : Stop). HopsBy end height (s.round + 1) v (walk_to Hop w)) (sym e) (elim few [
          | inl now ↦ inl (subst (LeadsOnward v w) e now.1, omega (arith, now.2))
          | inr strays ↦ inr (omega (arith, strays))
        ])

        by : (b : Bool) → is_lt (cmp was.fence (least_through prefix slice)) ≡ b
            → let i = cond b (at_fence kept_all (least_through prefix slice)) kept_all in At (walk_to Hop w) i.stop i.fence
        by true up = to_hop (least_through prefix slice) (s.round + 1) goes
            (on_spent made s.round was.fence (least_through prefix slice) (not_below was.fence (least_through prefix slice) up) s.spent)
        by false stays = to_hop was.fence (s.round + 1) goes (on_spent made s.round was.fence was.fence (not_itself was.fence) s.spent)

    -- by the next node: it is one less that begins ahead of the fence
    by_next : (slice : ℕ) → was.stop ≡ stops.Next slice → LeadsNext v w slice → is_lt (cmp was.fence (least_from prefix slice)) ≡ true
        → At (walk_to Hop w) was.stop (least_from prefix slice)
    by_next slice e knows up = elim few [
      | inl now ↦
          let onward = subst (LeadsOnward v w) e now.1 in
          let j = knows.node in
          let begins : least_from prefix slice ≡ begin_of v.trees (at v j) =
          ap (λ low. least_from prefix low) (sym knows.begins.begins) ∙ ap (λ t. least_from (tree_at v.trees t).prefix (at v j).low) (sym knows.begins.tree_is) in
          let fewer = nodes_fewer v.trees v.nodes j was.fence (least_from prefix slice) knows.begins.there (onward j knows.is) begins up in
          let less = rounds_less (round_of height) (trees_ahead v.trees (least_from prefix slice)) (trees_ahead v.trees was.fence)
          (trees_less v.trees was.fence (least_from prefix slice) (not_below was.fence (least_from prefix slice) up)) in
          to_hop (least_from prefix slice) (s.round - 2)
          (subst (λ (end : Stop). HopsBy end height (s.round - 2) v (walk_to Hop w)) (sym e) (inl (onward, omega (arith, now.2)))) (omega (arith, s.spent, fewer, less))
      | inr strays ↦
          to_hop (least_from prefix slice) (s.round + 1) (subst (λ (end : Stop). HopsBy end height (s.round + 1) v (walk_to Hop w)) (sym e) (inr (omega (arith, strays))))
          (on_spent made s.round was.fence (least_from prefix slice) (not_below was.fence (least_from prefix slice) up) s.spent)
    ]

    -- behind its tree: it is one tree less that is ahead, and a round begins
    by_tree : was.stop ≡ stops.Tree → Stands (at v k) w.place.seen → (fence : Bytes) → IsBehindAll prefix fence → is_lt (cmp was.fence fence) ≡ true
        → At (walk_to Hop w) was.stop fence
    by_tree e stands fence behind_prefix up =
        let from = not_below was.fence fence up in
        let fewer = trees_fewer v.trees w.place.tree was.fence fence through.there tree_live ahead (behind_all prefix fence behind_prefix) from in
        let less = round_less (round_of height) (trees_ahead v.trees fence) (trees_ahead v.trees was.fence) fewer in
        to_hop fence 0 (subst (λ (end : Stop). HopsBy end height 0 v (walk_to Hop w)) (sym e) (omega arith))
        (omega (arith, s.spent, less, upto, nodes_less v.trees v.nodes was.fence fence from))
      where
        through : GoesThrough v w.place.tree w.layer key
        through = kept.at_border.through

        ahead : is_behind_tree prefix was.fence ≡ false
        ahead = ap (λ (p : Bytes). is_behind_tree p was.fence) through.of_tree.begins
            ∙ ap (λ (f : Bytes). is_behind_tree (take (8 * w.layer) key) f) key_is ∙ not_behind (8 * w.layer) key

        tree_live : (tree_at v.trees w.place.tree).standing ≡ Live
        tree_live = by (tree_at v.trees w.place.tree).standing refl
          where
            remembered : IsRemembered v w.place.tree k w.place.seen (slice_in key w)
            remembered = kept.at_border.covers.remembered

            by : (standing : Standing) → (tree_at v.trees w.place.tree).standing ≡ standing → (tree_at v.trees w.place.tree).standing ≡ Live
            by Live is = is
            by (Made q) is = absurd (through.unmade q is)
            by Dead is = absurd ((arena.forest.homes k w.place.tree remembered.there through.there).standing remembered.tree_is stands.in_range.live is)

    -- behind the stretch
    hops : Stands (at v k) w.place.seen → (stop : Stop) → was.stop ≡ stop → KnowsEnd v key w stop → (m : Map) → IsSeenTo m was prefix stop
        → (i : ScanView) → GoesBehind prefix stop kept_all i w x → At x i.stop i.fence
    hops stands (stops.Link slice tree) e knows m sees i goes =
        subst (λ (j : ScanView). At x j.stop j.fence) (sym goes.0) (subst (λ (y : Walk). At y (past_link prefix slice kept_all).stop (past_link prefix slice kept_all).fence) (sym goes.1)
        (by_link slice tree e (is_lt (cmp was.fence (least_through prefix slice))) refl))
    hops stands (stops.Next slice) e knows m sees i goes =
        subst (λ (j : ScanView). At x j.stop j.fence) (sym goes.0) (subst (λ (y : Walk). At y was.stop (least_from prefix slice)) (sym goes.1) (by_next slice e (knows stands) sees.ahead))
    hops stands stops.Tree e knows m sees i (inl goes) =
        let behind_prefix = goes.0 in
        subst (λ (j : ScanView). At x j.stop j.fence) (sym behind_prefix.at) (subst (λ (y : Walk). At y was.stop behind_prefix.fence) (sym goes.1)
        (by_tree e stands behind_prefix.fence behind_prefix.behind (sees.0 behind_prefix.fence behind_prefix.behind).ahead))
    hops stands stops.Tree e knows m sees i (inr goes) = absurd (goes_on (ap (λ (y : Walk). y.phase) goes.2))
    hops stands stops.Tenant e knows m sees i goes = absurd (goes_on (ap (λ (y : Walk). y.phase) goes.1))

    pub check_nears : At x is.stop is.fence
    check_nears = elim (same_or_not (at v k).version w.place.seen) [
      | inl same ↦
          let stands = same_stands (at v k) w.place.seen kept.at_border.covers.remembered.undeleted same in
          elim (cases_eq (length (collects count columns was)) count) [
            | inl full ↦ absurd (goes_on (ap (λ (y : Walk). y.phase) (check.full same full).1))
            | inr short ↦ hops stands was.stop refl kept.end (seen stands).0 (seen stands).1 is (check.goes same short)
          ]
      | inr other ↦ elim few [
        | inl now ↦ absurd (other (same_now v w now.0))
        | inr strays ↦
            let changed = check.changed other in
            subst (λ (i : ScanView). At x i.stop i.fence) (sym changed.0) (subst (λ (y : Walk). At y was.stop was.fence) (sym changed.1) (by strays (at v k).version.deleted))
      ]
    ]
      where
        by : s.round + (4 + behind v k) ≤ astray height → (deleted : Bool)
            → At (cond deleted (walk_anew w) (record w { place = record w.place { seen = (at v k).version }; next = (at v k).next; phase = Forward })) was.stop was.fence
        by strays true = record { live = s.live; standing = s.standing; below = s.below; round = s.round + 1; few = inr (omega (arith, strays)); spent = omega (arith, s.spent) }
        by strays false = record { live = s.live; standing = s.standing; below = s.below; round = s.round + 1; few = inl (refl, omega (arith, strays)); spent = omega (arith, s.spent) }

  -- one that hops
  module _ (key : Bytes) (stop : Stop) (at_hop : w.phase ≡ Hop) (stored : IsStoredKey key) (kept : KeptHop v key w stop) (hops : HopsTo v stop w x) (kind : IsOfKind x.phase x.aim) (scans : x.aim ≡ aims.Scan)
      (fence : Bytes) (s : IsScanAt height trees made v w stop fence) where
    at_round : (n : ℕ) → ScansBy x.phase stop height n v x → s.round + 1 ≤ n + 0 → n ≤ s.round + 1 → IsScanAt height trees (made + 1) v x stop fence
    at_round n few lower upper = record { live = s.live; standing = s.standing; below = s.below; round = n; few = few; spent = omega (arith, s.spent, lower) }

    -- at the top, or at the root of a tree
    from_top : s.round + 2 ≤ astray height → x ≡ walk_into w 0 0 → IsScanAt height trees (made + 1) v x stop fence
    from_top few goes = at_round (s.round + 1) (subst (λ (y : Walk). ScansBy y.phase stop height (s.round + 1) v y) (sym goes) (inr (omega (arith, few)))) (omega arith) (omega arith)

    by_stop : (end : Stop) → stop ≡ end → KeptHop v key w end → HopsTo v end w x → HopsBy end height s.round v w → IsScanAt height trees (made + 1) v x stop fence
    by_stop (stops.Link slice tree) e k goes few = at_round (s.round + 1) (subst (λ (y : Walk). ScansBy y.phase stop height (s.round + 1) v y) (sym goes) (elim few [
      | inl now ↦ inl (now.0, next_layer height w.layer s.round (shallow_below w.layer key stored k.begun) (omega (arith, now.1)))
      | inr strays ↦ inr (omega (arith, strays))
    ])) (omega arith) (omega arith)
    by_stop stops.Tree e k goes few = from_top few goes
    by_stop stops.Tenant e k goes few = from_top few goes
    by_stop (stops.Next slice) e k goes few = next goes.0 goes.1 (at v goes.0).version.deleted refl goes.3
      where
        next : (j : ℕ) → w.next ≡ Some j → (deleted : Bool) → (at v j).version.deleted ≡ deleted → x ≡ after_next w j (at v j)
            → IsScanAt height trees (made + 1) v x stop fence
        next j is true gone to = elim few [
          | inl now ↦ absurd (let both = sym (now.0 j is) ∙ gone in cc)
          | inr strays ↦ from_top strays (to ∙ ap (λ b. cond b (walk_into w 0 0) (walk_onto w j (at v j).version)) gone)
        ]
        next j is false live to =
            let same : k.0 ≡ j = same_Some k.0 j (sym k.1 ∙ is) in
            let low : (at v j).level ≡ 0 = subst (λ i. (at v i).level ≡ 0) same k.2.next.border in
            let onto : x ≡ walk_onto w j (at v j).version = to ∙ ap (λ b. cond b (walk_into w 0 0) (walk_onto w j (at v j).version)) live in
            let upto : s.round + 1 ≤ until (budget_of height) w = elim few [ inl now ↦ now.1 | inr strays ↦ omega (arith, strays) ] in
            let walks = comes_onto v (budget_of height) (height_law v height arena s.below) (s.round + 1) w j (at v j).version refl (omega (arith, upto, low)) in
            at_round (s.round + 1) (scans_of x.phase x.aim kind scans stop height (s.round + 1) v x (subst (λ (y : Walk). WalksBy y.phase (budget_of height) (s.round + 1) v y) (sym onto) walks)) (omega arith) (omega arith)

    pub hop_nears : IsScanAt height trees (made + 1) v x stop fence
    hop_nears = by_stop stop refl kept hops (few_at Hop height trees made v w stop fence at_hop s)

-- a scan has made no more of its round than one takes
capped : (height : ℕ) (w : Walk) → min w.layer 31 * (3 * height + 12) ≤ 31 * (3 * height + 12)
capped height w = mul-le-mul_right (3 * height + 12) (min-le_right w.layer 31)

hop_few : (stop : Stop) (height n : ℕ) (v : ArenaView) (w : Walk) → HopsBy stop height n v w → n ≤ round_of height
hop_few (stops.Link slice tree) height n v w few = elim few [ inl now ↦ omega (arith, now.1, capped height w) | inr strays ↦ omega (arith, strays) ]
hop_few (stops.Next slice) height n v w few = elim few [ inl now ↦ omega (arith, now.1, capped height w) | inr strays ↦ omega (arith, strays) ]
hop_few stops.Tree height n v w few = omega (arith, few)
hop_few stops.Tenant height n v w few = omega (arith, few)

round_few : (p : Phase) (stop : Stop) (height n : ℕ) (v : ArenaView) (w : Walk) → ScansBy p stop height n v w → n ≤ round_of height
round_few Check stop height n v w few = elim few [ inl now ↦ omega (arith, now.2, capped height w) | inr strays ↦ omega (arith, strays) ]
round_few Hop stop height n v w few = hop_few stop height n v w few
round_few p stop height n v w few = elim (few_walked p (budget_of height) n v w few) [ inl now ↦ omega (arith, now, capped height w) | inr strays ↦ omega (arith, strays) ]

-- so it makes few steps in all, and is not done
most_rounds : (height trees made : ℕ) → made ≤ round_of height + 3 * height + round_of height * trees → made < 256 * (height + 64) * (trees + 1)
most_rounds height trees made few =
    let each = add-mul (97 * height) 400 trees in
    let first = mul_assoc 97 height trees in
    let all = mul-add (256 * (height + 64)) trees 1 in
    let whole = mul_assoc 256 (height + 64) trees in
    let parts = add-mul height 64 trees in
    omega (arith, few, each, first, all, whole, parts)

pub scan_few : (height trees made : ℕ) (v : ArenaView) (w : Walk) (stop : Stop) (fence : Bytes) → IsScanAt height trees made v w stop fence
    → made < 256 * (height + 64) * (trees + 1)
scan_few height trees made v w stop fence s = most_rounds height trees made (omega (arith, s.spent, round_few w.phase stop height s.round v w s.few))

pub scan_left : (p : Phase) (stop : Stop) (height n : ℕ) (v : ArenaView) (w : Walk) → ScansBy p stop height n v w → is_done p ≡ false
scan_left Done stop height n v w few = absurd few
scan_left _ stop height n v w few = refl
