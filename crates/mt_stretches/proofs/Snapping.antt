-- What Snap sees of a border node is a stretch of its tenant's map, as long as the node's range stands.
use Rattle.std.proofs.Common.{◌≡◌, ◌≢◌, ℕ, ◌+◌, ◌*◌, ◌<◌, ◌≤◌, ◌^◌, inl, inr, Bool, true, false, length, take, Option, Some, None, refl, sym, ap, subst, ◌∙◌, arith}
use Rattle.std.proofs.{lemmas.Bool.{cases_lt, cases_eq}, lemmas.List.{get_or_default, length-drop, take-take}, lemmas.Option.same_Some}
use Rattle.std.proofs.lemmas.List.Elements.{All-weaker}
use Rattle.std.specs.{declared.cmp.Ordering.Ordering, Ordering.{nat_cmp, is_lt, ordering_then}, Cmp.Lexicographic.slice_cmp, List.All, FinMap.get}
use Rattle.mt_slices.specs.{Keys.{IsStoredKey, stored_key, tenant_of, user_key_of}, Marks.mark_rank, Slices.{slice_of, mark_of, suffix_of, rest_of}}
use Rattle.mt_slices.specs.{declared.mark.Mark.TheVariants.{Long, Short}, Fences.{least_from, least_through, IsBehindAll}}
use Rattle.mt_slices.proofs.{Bytes.AreBytes, Numbers.{number_lt, tenant_of-number}, Order.cmp_below, Rejoin.mark_short, Trimming.bytes_take}
use Rattle.mt_rows.{specs.{Commands.IsKey, Rows.Bytes, Stamps.Stamped, Tenants.{Contents, tenant_map}}, proofs.ContentLaws.get-tenant_map}
use Rattle.mt_stretches.proofs.Checking.{some_behind}
use Rattle.mt_stretches.proofs.Leasts.{from_bytes, from_begins, from_slice, from_long, at_slice, through_long, through_bytes, through_begins, through_slice, at_link}
use Rattle.mt_stretches.specs.Scanned.{IsSeenIn, IsSeenUpTo, IsSeenTo, HasSeen}
use Rattle.mt_border.{specs.{declared.entry.Entry.Entry, Entry.pair_of, Contents.HasKey}, proofs.Edits.any_entry}
use Rattle.mt_interior.specs.Fences.{end_of}
use Rattle.mt_arena.specs.{NodeView.NodeView, Nodes.{IsNeighbour, seat_of}, Forests.tree_at, Contents.content, Arena.{ArenaView, IsArena}, Accesses.at}
use Rattle.mt_arena.specs.Ways.{BelongsIn}
use Rattle.mt_operation.specs.{declared.walk.Walk.Walk, declared.scan.Stop.Stop, Operations.ScanView}
use Rattle.mt_descent.{specs.{Pasts.{Past, IsNow}, Seen.RangeStands, KeptWalks.IsAtBorder}, proofs.Looks.belongs}
use Rattle.mt_readings.specs.{Reading.{is_below, behind_by, is_behind, read, stop}, Spans.{IsScanAt, TellsAll}, Tenancies.{own_pairs, TellsTenant}}
use Rattle.mt_readings.proofs.{Bytewise.nat_less, Readings.stop_ahead, Spanning.{border_is, keys_are, stands, link_long, slice_within, to_link, to_next}}
use Rattle.mt_readings.proofs.{Stored.stored_keys, Joining.stretch}
use Rattle.mt_readings.proofs.Ends.{of_all, before_all, slice_of_lt, slice_from_tenant, tenant_is, same_tenant, prefix_long, to_the_trees_end, to_the_tenants_end, to_the_last_trees_end}
use Rattle.mt_scan.specs.Snaps.{prefix_in, StopsAtLink, HasNoLink, IsOver, StopsAt, IsSnap}
use Rattle.mt_operation.specs.declared.scan.Stop.TheVariants as stops

-- by their bytes
abbrev cmp : Bytes → Bytes → Ordering
cmp = slice_cmp nat_cmp

-- a tenant's number fits 32 bits
tenant_lt : (key : Bytes) → AreBytes key → tenant_of key < 2 ^ 32
tenant_lt key bytes = rw (tenant_of-number key) (number_lt 4 key bytes)

-- a key with the long mark goes on behind its slice
goes_on : (key : Bytes) (layer : ℕ) → mark_of key layer ≡ Long → 8 * layer + 9 ≤ length key
goes_on key layer long = elim (cases_lt 8 (length (rest_of key layer))) [
  | inl more ↦ let size = length-drop (8 * layer) key in omega (arith, more, size)
  | inr few ↦ absurd (let both : Short (length (rest_of key layer)) ≡ Long = sym (mark_short (length (rest_of key layer)) few) ∙ long in cc)
]

-- an entry that the fence isn't behind has no lower slice
slice_ahead : (fence : Bytes) (after : Bool) (layer : ℕ) (e : Entry) → is_behind fence after layer e ≡ false → slice_of fence layer ≤ e.slice
slice_ahead fence after layer e ahead = elim (cases_lt e.slice (slice_of fence layer)) [
  | inl less ↦ absurd (
      let rank : Ordering = nat_cmp (mark_rank e.mark) (mark_rank (mark_of fence layer)) in
      let under = ap (λ o. behind_by (suffix_of fence layer) after (ordering_then o rank) (pair_of e.held)) (nat_less e.slice (slice_of fence layer) less) in
      let both : false ≡ true = sym ahead ∙ under in cc)
  | inr least ↦ least
]

module _ (v : ArenaView) (w : Walk) (s : ScanView) (arena : IsArena v.nodes v.trees) (border : IsAtBorder v s.fence w)
    (range : RangeStands (at v w.place.node) w.place.seen) where
  -- the node, its tree's first bytes, the tenant, the contents, and which entries the scan is done with
  abbrev k : ℕ
  k = w.place.node

  abbrev n : NodeView
  n = at v k

  abbrev prefix : Bytes
  prefix = (tree_at v.trees n.tree).prefix

  abbrev t : ℕ
  t = tenant_of s.fence

  abbrev c : Contents
  c = content v.trees v.nodes

  abbrev behind : Entry → Bool
  behind = is_behind s.fence s.after w.layer

  -- the scan with what it has seen
  abbrev made : Stop → ScanView
  made end = record s { seen = own_pairs t prefix (read behind n.slots); stop = end }

  -- the scan is there
  fence_belongs : BelongsIn v.nodes v.trees s.fence w.layer k
  fence_belongs = belongs v s.fence w arena border range

  scan : IsScanAt v.nodes v.trees k w.layer s.fence
  scan = record {
    border = fence_belongs.border;
    tree_live = fence_belongs.tree_live;
    of_tree = fence_belongs.of_tree;
    begun = fence_belongs.begun;
    from = fence_belongs.holds.0;
  }

  fence_stored : IsStoredKey s.fence
  fence_stored = fence_belongs.of_tree.stored

  -- the prefix has the bytes of the layers above
  long : length prefix ≡ 8 * w.layer
  long = prefix_long v.nodes v.trees k w.layer s.fence s.after t arena scan

  prefix_bytes : AreBytes prefix
  prefix_bytes = subst (λ (xs : Bytes). AreBytes xs) (sym scan.of_tree.begins) (bytes_take (8 * w.layer) s.fence fence_stored.are_bytes)

  -- what the reading tells of the tenant is a stretch
  seen_in : (reached : Bytes → Bool) (end : Stop) → TellsTenant c t prefix w.layer s.fence s.after reached (read behind n.slots)
      → IsSeenIn (tenant_map t c) (made end) (λ key. reached (stored_key t key))
  seen_in reached end tells =
      stretch c t prefix w.layer s.fence s.after reached n.slots (tenant_lt s.fence fence_stored.are_bytes) (stored_keys v.nodes v.trees arena)
      (border_is v.nodes v.trees k w.layer s.fence s.after arena scan) tells

  -- up to a fence of its own
  seen_upto : (fence : Bytes) (end : Stop) → tenant_of fence ≡ t → TellsTenant c t prefix w.layer s.fence s.after (is_below fence false) (read behind n.slots)
      → IsSeenUpTo (tenant_map t c) (made end) fence
  seen_upto fence end owner tells = record { owner = owner; seen = seen_in (is_below fence false) end tells }

  -- bytes that begin as the tree's keys, and in the top tree have a slice of the tenant's, are the tenant's
  owner_of : (reached : Bytes) (slice : ℕ) → AreBytes reached → 4 ≤ length reached → prefix ≡ take (8 * w.layer) reached → slice_of reached w.layer ≡ slice
      → slice_of s.fence w.layer ≤ slice
      → ¬ IsOver t w.layer slice → tenant_of reached ≡ t
  owner_of reached slice bytes four begins is from own = elim (cases_eq w.layer 0) [
    | inl top ↦
        let at_top : slice_of reached 0 ≡ slice = ap (slice_of reached) (sym top) ∙ is in
        let fence_top : slice_of s.fence 0 ≡ slice_of s.fence w.layer = ap (slice_of s.fence) (sym top) in
        let low = slice_from_tenant s.fence fence_stored.has_tenant in
        elim (cases_lt slice ((t + 1) * 4294967296)) [
          | inl below ↦ tenant_is reached t bytes four (omega (arith, at_top, fence_top, low, from)) (omega (arith, at_top, below))
          | inr over ↦ absurd (own (top, over))
        ]
    | inr deeper ↦ same_tenant reached s.fence (
        sym (take-take 4 (8 * w.layer) reached (omega (arith, deeper)))
        ∙ ap (take 4) (sym begins ∙ scan.of_tree.begins)
        ∙ take-take 4 (8 * w.layer) s.fence (omega (arith, deeper)))
  ]

  -- to a link of the tenant's
  module _ (slice tree : ℕ) (h : StopsAtLink n s w.layer slice tree) where
    -- some stored key goes through it
    has_key : (key : Bytes) × HasKey prefix w.layer h.link key
    has_key =
        let there = stands v.nodes v.trees k w.layer s.fence s.after arena scan h.link h.is in
        let of_slot = keys_are v.nodes v.trees k w.layer s.fence s.after arena scan there.0 any_entry there.1 in
        (of_slot.0, subst (λ e. HasKey prefix w.layer e of_slot.0) (get_or_default n.slots there.0 any_entry h.link there.1 ∙ there.2) of_slot.1)

    key_long : 8 * w.layer + 9 ≤ length has_key.0
    key_long = goes_on has_key.0 w.layer (sym has_key.1.mark ∙ link_long v.nodes v.trees k w.layer s.fence s.after arena scan h.link h.is)

    fits : slice < 2 ^ 64
    fits = subst (λ m. m < 18446744073709551616) (sym has_key.1.slice ∙ h.slice_is) (slice_of_lt has_key.0 w.layer has_key.1.of_tree.stored.are_bytes)

    pub to_a_link : IsSeenTo (tenant_map t c) (made (stops.Link slice tree)) prefix (stops.Link slice tree)
    to_a_link =
        let reached = least_through prefix slice in
        let room : 8 * w.layer + 9 ≤ 255 = let most = has_key.1.of_tree.stored.within in omega (arith, key_long, most) in
        let link_at = at_link prefix w.layer slice long fits prefix_bytes room in
        let ahead = slice_ahead s.fence s.after w.layer h.link (stop_ahead behind n.slots h.link h.is) in
        let is = h.slice_is in
        let tells : TellsAll c prefix w.layer s.fence s.after reached (read behind n.slots) =
        to_link v.nodes v.trees k w.layer s.fence s.after arena scan h.link h.is reached
        (record { of_tree = link_at.of_tree; slice_is = link_at.slice_is ∙ sym is; mark_is = link_at.mark_is; suffix_is = link_at.suffix_is }) in
        seen_upto reached (stops.Link slice tree)
        (owner_of reached slice (through_bytes prefix w.layer slice long fits prefix_bytes)
        (let size = through_long prefix w.layer slice long fits prefix_bytes in omega (arith, size))
        (through_begins prefix w.layer slice long fits prefix_bytes) (through_slice prefix w.layer slice long fits prefix_bytes) (omega (arith, ahead, is)) h.own)
        (of_all c t prefix w.layer s.fence s.after reached n.slots tells)

  -- where the node ends within the tenant's keys, the next one begins at a slice
  module _ (slice : ℕ) (links : HasNoLink n s w.layer) (high : n.high ≡ Some slice) (own : ¬ IsOver t w.layer slice) where
    -- no link at all is met: one of a greater tenant would lie behind the end
    no_link : (o : Option Entry) → stop behind n.slots ≡ o → stop behind n.slots ≡ None
    no_link None is = is
    no_link (Some link) is =
        let over = links link is in
        let inside = slice_within v.nodes v.trees k w.layer s.fence s.after arena scan link is in
        let before : link.slice < slice = subst (λ h. link.slice < end_of h) high inside in
        absurd (own (over.0, let far = over.1 in omega (arith, far, before)))

    -- the fence lies before it
    fence_before : slice_of s.fence w.layer < slice
    fence_before = subst (λ h. slice_of s.fence w.layer < end_of h) high fence_belongs.holds.1

    -- it is one of a node with a range
    slice_fits : slice < 2 ^ 64
    slice_fits = by n.next refl
      where
        by : (o : Option ℕ) → n.next ≡ o → slice < 2 ^ 64
        by None e =
            let low = scan.from in
            let below = fence_belongs.holds.1 in
            let none = (arena.nodes.each k scan.border.there).chain.last scan.border.level (omega (arith, low, below)) e in
            absurd (let both = sym none ∙ high in cc)
        by (Some j) e =
            let there = (arena.nodes.each k scan.border.there).names.next j e in
            let beside : IsNeighbour n.high (seat_of n) (seat_of (at v j)) = (arena.nodes.pairs k j scan.border.there there).next scan.border.live e in
            let begins : slice ≡ (at v j).low = same_Some slice (at v j).low (sym high ∙ beside.meets) in
            let some = (arena.ranged.ties k j scan.border.there there).next scan.border.live e in
            let ends = (arena.ranged.each j there).fits some in
            omega (arith, begins, some, ends)

    pub to_the_next : IsSeenTo (tenant_map t c) (made (stops.Next slice)) prefix (stops.Next slice)
    to_the_next =
        let reached = least_from prefix slice in
        let tells : TellsAll c prefix w.layer s.fence s.after reached (read behind n.slots) =
        to_next v.nodes v.trees k w.layer s.fence s.after arena scan slice reached (at_slice prefix w.layer slice long slice_fits prefix_bytes)
        (no_link (stop behind n.slots) refl) high in
        let bytes = from_bytes prefix w.layer slice long slice_fits prefix_bytes in
        let begins = from_begins prefix w.layer slice long slice_fits prefix_bytes in
        let slice_is = from_slice prefix w.layer slice long slice_fits prefix_bytes in
        let before = fence_before in
        let ranks : Ordering = nat_cmp (mark_rank (mark_of s.fence w.layer)) (mark_rank (mark_of reached w.layer)) in
        let rests : Ordering = cmp (suffix_of s.fence w.layer) (suffix_of reached w.layer) in
        record {
          upto = seen_upto reached (stops.Next slice)
              (owner_of reached slice bytes (from_long prefix w.layer slice long slice_fits prefix_bytes) begins slice_is (omega (arith, before)) own)
              (of_all c t prefix w.layer s.fence s.after reached n.slots tells);
          ahead = ap is_lt (cmp_below s.fence reached w.layer fence_stored.are_bytes bytes (sym scan.of_tree.begins ∙ begins)
              ∙ ap (λ o. ordering_then (ordering_then o ranks) rests) (nat_less (slice_of s.fence w.layer) (slice_of reached w.layer) (omega (arith, before, slice_is))));
        }

  -- where the tree ends: behind it, or with the tenant where its keys have the greatest bytes
  module _ (links : HasNoLink n s w.layer) (high : n.high ≡ None) (deeper : w.layer ≢ 0) where
    -- no link is met in a layer below the top
    none_left : (o : Option Entry) → stop behind n.slots ≡ o → stop behind n.slots ≡ None
    none_left None is = is
    none_left (Some link) is = let over = links link is in absurd (deeper over.0)

    -- the tenant's four bytes stay
    four_alike : (fence : Bytes) → IsBehindAll prefix fence → take 4 fence ≡ take 4 s.fence
    four_alike fence b =
        let four = b.tenant in
        let inside = b.in_range in
        sym (take-take 4 b.place fence four) ∙ ap (take 4) b.alike ∙ take-take 4 b.place prefix four
        ∙ ap (take 4) scan.of_tree.begins ∙ take-take 4 (8 * w.layer) s.fence (omega (arith, deeper))

    pub to_the_end : IsSeenTo (tenant_map t c) (made stops.Tree) prefix stops.Tree
    to_the_end = (
      λ fence b. record {
        upto = seen_upto fence stops.Tree (same_tenant fence s.fence (four_alike fence b))
            (to_the_trees_end v.nodes v.trees k w.layer s.fence s.after t arena scan fence (none_left (stop behind n.slots) refl) high b);
        ahead = before_all b.place prefix fence s.fence b.in_range b.long b.alike b.more (ap (λ m. take m s.fence) long ∙ sym scan.of_tree.begins);
      },
      λ greatest. seen_in (λ key. true) stops.Tree
          (to_the_last_trees_end v.nodes v.trees k w.layer s.fence s.after t arena scan (none_left (stop behind n.slots) refl) high refl greatest),
    )

  -- by how the stretch ends
  seen_to : (end : Stop) → StopsAt n s w.layer end → IsSeenTo (tenant_map t c) (made end) prefix end
  seen_to (stops.Link slice tree) h = to_a_link slice tree h
  seen_to (stops.Next slice) h = to_the_next slice h.0 h.1 h.2
  seen_to stops.Tree h = to_the_end h.0 h.1 h.2
  seen_to stops.Tenant h = seen_in (λ key. true) stops.Tenant
      (to_the_tenants_end v.nodes v.trees k w.layer s.fence s.after t arena scan h.1.0 h.1.1 (λ link is. (h.0 link is).1))

  -- each pair that it has seen is one of the tenant's map
  reals : (end : Stop) → IsSeenTo (tenant_map t c) (made end) prefix end → All (λ p. get (tenant_map t c) p.0 ≡ Some p.1) (made end).seen
  reals (stops.Link slice tree) to = to.seen.real
  reals (stops.Next slice) to = to.upto.seen.real
  reals stops.Tree to = elim (some_behind prefix) [
    | inl greatest ↦ (to.1 greatest).real
    | inr b ↦ (to.0 b.0 b.1).upto.seen.real
  ]
  reals stops.Tenant to = to.real

  -- so its key is a user's
  key_short : (p : Bytes × Stamped) → get (tenant_map t c) p.0 ≡ Some p.1 → IsKey p.0
  key_short p there =
      let of = stored_keys v.nodes v.trees arena (t, p.0) p.1 (sym (get-tenant_map t c p.0) ∙ there) in
      let same : user_key_of of.0 ≡ p.0 = ap (λ (q : ℕ × Bytes). q.1) of.2 in
      let most = of.1.within in
      let size = length-drop 4 of.0 in
      subst (λ (k : Bytes). IsKey k) same (omega (arith, most, size))

  -- the walk names the node's tree
  same_prefix : prefix ≡ prefix_in v w
  same_prefix = ap (λ u. (tree_at v.trees u).prefix) border.covers.remembered.tree_is

  -- what a step of Snap has seen
  pub snap_sees : (past : Past) (step : ℕ) (x : Walk) (is : ScanView) → IsNow past step v → w.first ≤ step → IsSnap v w x s is
      → HasSeen past w.first (prefix_in v w) is
  snap_sees past step x is now since snap =
      let pairs = snap.seen ∙ ap (λ p. own_pairs t p (read behind n.slots)) (sym same_prefix) in
      let whole : is ≡ made is.stop = snap.rest ∙ ap (λ xs. record s { seen = xs; stop = is.stop }) pairs in
      let seen : HasSeen past w.first prefix (made is.stop) = record {
        step = step;
        since = since;
        made = now.made;
        seen = subst (λ (m : Contents). IsSeenTo (tenant_map t m) (made is.stop) prefix is.stop) (sym now.contents) (seen_to is.stop snap.stops);
        short = All-weaker (λ p. get (tenant_map t c) p.0 ≡ Some p.1) (λ p. IsKey p.0) key_short (made is.stop).seen (reals is.stop (seen_to is.stop snap.stops));
      } in
      subst (λ p. HasSeen past w.first p is) same_prefix (subst (HasSeen past w.first prefix) (sym whole) seen)
