-- What the reading of a node tells of the contents, up to a fence.
use Rattle.std.proofs.Common.{◌≡◌, ℕ, zero, suc, ◌+◌, ◌-◌, ◌*◌, ◌<◌, ◌≤◌, ◌⊎◌, inl, inr, Bool, true, false, min, List, [], ◌∷◌, length, take, get_or, Some, None, refl, sym, ap, subst, ◌∙◌, arith}
use Rattle.std.proofs.{lemmas.Bool.{cases_lt, cases_eq, ne_eqb}, lemmas.List.{get_or_past, get_or_default, length-drop, get_or-map, nil_from_length}}
use Rattle.std.proofs.{lemmas.List.Elements.All-contains, lemmas.Option.same_Some}
use Rattle.std.specs.{Prelude.{if◌then◌else◌, slice_index}, Int.{w64, to_be_bytes}, List.Contains, FinMap.get, declared.cmp.Ordering.Ordering}
use Rattle.std.specs.{declared.cmp.Ordering.TheVariants.{Less, Equal, Greater}, Ordering.{nat_cmp, is_lt, is_le, ordering_then}, Cmp.Lexicographic.slice_cmp}
use Rattle.mt_slices.specs.{Keys.IsStoredKey, Marks.mark_rank, Slices.{slice_of, mark_of, suffix_of, rest_of, padded}, declared.mark.Mark.Mark}
use Rattle.mt_slices.specs.declared.mark.Mark.TheVariants.{Long, Short}
use Rattle.mt_slices.proofs.{Bytes.bytes-drop, Order.cmp_below, Padding.{slice_bytes, get_or-padded}, Rejoin.{mark_short, mark_long}}
use Rattle.mt_rows.specs.Rows.{Bytes}
use Rattle.mt_border.specs.{Held.{Pair, Held, Stable, Unstable, Link}, declared.entry.Entry.Entry, Entry.{pair_of, order_of, order_at, CanHold, IsEntry}}
use Rattle.mt_border.specs.{Entries.{IsBorder, slices}, Contents.{owned, IsOfTree, HasKey, AreKeys, row_of}}
use Rattle.mt_border.proofs.{Edits.any_entry, ContentsKeys.{is_mark_of, order_of_key}}
use Rattle.mt_interior.specs.Fences.{end_of}
use Rattle.mt_arena.specs.{declared.tree.Tree.Tree, NodeView.{NodeView, node_at}, Forests.tree_at, Layers.slot_at, Arena.IsArena, Contents.content}
use Rattle.mt_arena.specs.Ways.{BelongsIn}
use Rattle.mt_arena.proofs.{Homes.begun, Owners.{none_elsewhere, none_beside, found}, Elsewhere.layer_is}
use Rattle.mt_readings.specs.Reading.{is_below, is_behind, read, stop, HasOther, IsRead, IsStopped, IsAtLink}
use Rattle.mt_readings.specs.Spans.{IsScanAt, HasPair, TellsAll, IsAtSlice, least_in}
use Rattle.mt_readings.proofs.Readings.{in_tree, behind_is, read_in, stop_in, stop_link, before, tells, below_link, behind_link, rank_of, place_cmp}
use Rattle.mt_readings.proofs.Bytewise.{squeeze, shorter, reaches, nat_less, nat_greater, nat_same}

abbrev cmp : Bytes → Bytes → Ordering
cmp = slice_cmp nat_cmp

-- a key that the fence isn't behind isn't below the fence's
pub not_lt : (after : Bool) (o : Ordering) → (if after then is_le o else is_lt o) ≡ false → is_lt o ≡ false
not_lt true Less e = e
not_lt true Equal e = refl
not_lt true Greater e = refl
not_lt false o e = e

module _ (nodes : List NodeView) (trees : List Tree) (k layer : ℕ) (fence : Bytes) (after : Bool) (arena : IsArena nodes trees) (at : IsScanAt nodes trees k layer fence) where
  abbrev n : NodeView
  n = node_at nodes k

  abbrev prefix : Bytes
  prefix = (tree_at trees n.tree).prefix

  abbrev behind : Entry → Bool
  behind = is_behind fence after layer

  pub border_is : IsBorder n.slots
  border_is = (arena.nodes.each k at.border.there).slots.border

  pub keys_are : AreKeys prefix layer n.slots
  keys_are = subst (λ m. AreKeys prefix m n.slots) (layer_is prefix fence layer at.of_tree) ((arena.forest.homes k n.tree at.border.there (arena.forest.tree_there k at.border.there)).keys refl).keys

  -- a key from the fence on and below another of the tree is of the tree, and has a byte in the layer
  module _ (key : Bytes) (stored : IsStoredKey key) (ahead : is_below fence after key ≡ false) where
    from : is_lt (cmp key fence) ≡ false
    from = not_lt after (cmp key fence) ahead

    in_between : (reached : Bytes) → prefix ≡ take (8 * layer) reached → is_below reached false key ≡ true → IsOfTree prefix layer key
    in_between reached begins to =
        let alike = squeeze (8 * layer) fence key reached at.of_tree.reaches (sym at.of_tree.begins ∙ begins) from to in
        record { stored = stored; reaches = reaches (8 * layer) fence key at.of_tree.reaches alike; begins = at.of_tree.begins ∙ sym alike }

    pub has_byte : IsOfTree prefix layer key → 8 * layer < length key
    has_byte of = elim (cases_lt (8 * layer) (length key)) [
      | inl more ↦ more
      | inr few ↦ absurd (let yes_below = shorter (8 * layer) fence key at.begun (sym of.begins ∙ at.of_tree.begins) few in let both = sym from ∙ yes_below in cc)
    ]

    -- its slice isn't below the fence's
    slice_from : IsOfTree prefix layer key → slice_of fence layer ≤ slice_of key layer
    slice_from of = elim (cases_lt (slice_of key layer) (slice_of fence layer)) [
      | inl less ↦ absurd (let under = ap is_lt (in_tree prefix fence after layer at.of_tree key of
          ∙ ap (λ o. ordering_then (ordering_then o (nat_cmp (mark_rank (mark_of key layer)) (mark_rank (mark_of fence layer)))) (cmp (suffix_of key layer) (suffix_of fence layer))) (nat_less (slice_of key layer) (slice_of fence layer) less)) in let both = sym from ∙ under in cc)
      | inr least ↦ least
    ]

    belongs : IsOfTree prefix layer key → slice_of key layer < end_of n.high → BelongsIn nodes trees key layer k
    belongs of below = record {
      border = at.border;
      tree_live = at.tree_live;
      of_tree = of;
      begun = has_byte of;
      holds = (let low = at.from in let more = slice_from of in omega (arith, low, more), below);
    }

    pair_told : IsOfTree prefix layer key → (r : IsRead prefix layer behind n.slots key) → HasPair (content trees nodes) prefix layer (read behind n.slots) key
    pair_told of r =
        let w = read_in behind n.slots r.x r.among in
        let i = w.0.0 in
        let is : slot_at n i ≡ r.x.0 = get_or_any n.slots i r.x.0 w.0.1 ∙ w.0.2 in
        record {
          x = r.x;
          among = r.among;
          has = r.has;
          row = found nodes trees arena (begun nodes trees arena.forest) key layer k i r.x.1 (record {
            there = at.border.there;
            live = at.border.live;
            tree_live = at.tree_live;
            in_range = w.0.1;
            has = subst (λ e. HasKey prefix layer e key) (sym is) r.has;
            pair_is = ap (λ (e : Entry). pair_of e.held) is ∙ w.1;
          });
        }
      where
        get_or_any : (es : List Entry) (i : ℕ) (d : Entry) → i < length es → get_or es i any_entry ≡ get_or es i d
        get_or_any es i d lt = get_or_default es i any_entry d lt

    none_of : (b : BelongsIn nodes trees key layer k) → HasOther n.slots layer key → get (content trees nodes) (owned key) ≡ None
    none_of b o = none_beside nodes trees arena (begun nodes trees arena.forest) key layer k b o.slot o.other
        (record { border = at.border; in_range = o.in_range; slice_is = ap (λ (e : Entry). e.slice) (o.is any_entry) ∙ o.slice_is; mark_is = ap (λ (e : Entry). e.mark) (o.is any_entry) ∙ o.mark_is })
        (ap (λ (e : Entry). pair_of e.held) (o.is any_entry) ∙ o.pair_is) o.differs

    -- of a key in the node's range, the reading tells, or it stopped before it
    pub told_of : (of : IsOfTree prefix layer key) → slice_of key layer < end_of n.high → (IsStopped behind n.slots (order_at (slice_of key layer) (mark_of key layer)) → ⊥) →
        HasPair (content trees nodes) prefix layer (read behind n.slots) key ⊎ (get (content trees nodes) (owned key) ≡ None)
    told_of of below unstopped = elim (tells prefix fence after layer n.slots key border_is keys_are at.of_tree of ahead) [
      | inl r ↦ inl (pair_told of r)
      | inr rest ↦ elim rest [
        | inl missing ↦ inr (none_elsewhere nodes trees arena (begun nodes trees arena.forest) key layer k (belongs of below) missing)
        | inr more ↦ elim more [
          | inl other ↦ inr (none_of (belongs of below) other)
          | inr stopped ↦ absurd (unstopped stopped)
        ]
      ]
    ]

  -- a pair that was read has a key, and its row
  pub real_of : (x : Entry × Pair) → Contains (read behind n.slots) x → (key : Bytes) × HasKey prefix layer x.0 key × (get (content trees nodes) (owned key) ≡ Some (row_of x.1)) × (is_below fence after key ≡ false)
  real_of x among =
      let w = read_in behind n.slots x among in
      let i = w.0.0 in
      let is : slot_at n i ≡ x.0 = get_or_default n.slots i any_entry x.0 w.0.1 ∙ w.0.2 in
      let of_slot = keys_are i any_entry w.0.1 in
      let has : HasKey prefix layer x.0 of_slot.0 = subst (λ e. HasKey prefix layer e of_slot.0) is of_slot.1 in (
        of_slot.0,
        has,
        found nodes trees arena (begun nodes trees arena.forest) of_slot.0 layer k i x.1 (record {
          there = at.border.there;
          live = at.border.live;
          tree_live = at.tree_live;
          in_range = w.0.1;
          has = of_slot.1;
          pair_is = ap (λ (e : Entry). pair_of e.held) is ∙ w.1;
        }),
        sym (behind_is prefix fence after layer at.of_tree x.0 x.1 of_slot.0 has w.1) ∙ w.2,
      )

  -- the link at which the reading stopped has the greatest place of its slice, which lies in the node's range
  long_link : (m : Mark) (h : Held) → CanHold m h → pair_of h ≡ None → m ≡ Long
  long_link m (Stable pair) can none = absurd (cc)
  long_link m (Unstable pair tree) can none = absurd (cc)
  long_link m (Link tree) can none = can

  module _ (link : Entry) (stops : stop behind n.slots ≡ Some link) where
    pub stands : Contains n.slots link
    stands = stop_in behind n.slots link stops

    pub link_long : link.mark ≡ Long
    link_long = long_link link.mark link.held (All-contains IsEntry n.slots link border_is.each stands).held (stop_link behind n.slots link stops)

    link_order : order_of link ≡ 10 * link.slice + 9
    link_order = ap (λ m. 10 * link.slice + mark_rank m) link_long

    pub slice_within : link.slice < end_of n.high
    slice_within =
        let w = (arena.nodes.each k at.border.there).slots.within stands.0 stands.1 in
        let is : slice_index (slices n.slots) stands.0 ≡ link.slice = get_or-map (λ (e : Entry). e.slice) n.slots stands.0 link 0 stands.1 ∙ ap (λ (e : Entry). e.slice) stands.2 in
        subst (λ s. s < end_of n.high) is w.1

    pub to_link : (reached : Bytes) → IsAtLink prefix layer link.slice reached → TellsAll (content trees nodes) prefix layer fence after reached (read behind n.slots)
    to_link reached la = record {
      whole = λ key stored ahead to.
          let of = in_between key stored ahead reached la.of_tree.begins to in
          let lt = under key of to in
          let few = rank_of (mark_of key layer) (is_mark_of key layer) in
          let inside = slice_within in
          told_of key stored ahead of (omega (arith, lt, inside)) (λ s. let one : link ≡ s.link = same_Some link s.link (sym stops ∙ s.stops) in let same = ap order_of one in omega (arith, lt, link_order, same, s.before));
      real = λ x among.
          let w = real_of x among in
          let order = order_of_key prefix layer x.0 w.0 w.1 in
          let lt = before behind n.slots x link border_is.rising among stops in
          (w.0, w.1, w.2, w.3, below_link prefix layer link.slice reached w.0 la w.1.of_tree (omega (arith, lt, order, link_order)));
    }
      where
        under : (key : Bytes) → IsOfTree prefix layer key → is_below reached false key ≡ true → order_at (slice_of key layer) (mark_of key layer) < 10 * link.slice + 9
        under key of to = elim (cases_lt (order_at (slice_of key layer) (mark_of key layer)) (10 * link.slice + 9)) [
          | inl lt ↦ lt
          | inr ge ↦ absurd (let beyond = behind_link prefix layer link.slice reached key la of ge in let both = sym to ∙ beyond in cc)
        ]

  -- the fence at the node's end
  module _ (high : ℕ) (reached : Bytes) (sl : IsAtSlice prefix layer high reached) where
    parts : (key : Bytes) → IsOfTree prefix layer key → cmp key reached ≡ ordering_then (place_cmp (slice_of key layer) (mark_of key layer) high (mark_of reached layer)) (cmp (suffix_of key layer) (suffix_of reached layer))
    parts key of = cmp_below key reached layer of.stored.are_bytes sl.are_bytes (sym of.begins ∙ sl.begins)
        ∙ ap (λ s. ordering_then (place_cmp (slice_of key layer) (mark_of key layer) s (mark_of reached layer)) (cmp (suffix_of key layer) (suffix_of reached layer))) sl.slice_is

    under_slice : (key : Bytes) → IsOfTree prefix layer key → slice_of key layer < high → is_below reached false key ≡ true
    under_slice key of lt = ap is_lt (parts key of
        ∙ ap (λ o. ordering_then (ordering_then o (nat_cmp (mark_rank (mark_of key layer)) (mark_rank (mark_of reached layer)))) (cmp (suffix_of key layer) (suffix_of reached layer))) (nat_less (slice_of key layer) high lt))

    -- a key of the same slice has as many bytes
    as_long : (key : Bytes) → IsOfTree prefix layer key → 8 * layer < length key → slice_of key layer ≡ high → length (rest_of reached layer) ≤ length (rest_of key layer)
    as_long key of byte same = elim sl.least [
      | inl few ↦ let own = own_bytes key of byte in omega (arith, few, own)
      | inr some ↦ elim (cases_lt (length (rest_of reached layer) - 1) (length (rest_of key layer))) [
        | inl inside ↦ omega (arith, inside)
        | inr past ↦
            let j = length (rest_of reached layer) - 1 in
            let few = sl.few in
            let alike : padded (rest_of key layer) ≡ padded (rest_of reached layer) =
            sym (slice_bytes (rest_of key layer) (bytes-drop (8 * layer) key of.stored.are_bytes)) ∙ ap (to_be_bytes w64) (same ∙ sym sl.slice_is) ∙ slice_bytes (rest_of reached layer) (bytes-drop (8 * layer) reached sl.are_bytes) in
            absurd (some (sym (get_or-padded (rest_of reached layer) j (omega (arith, few))) ∙ ap (λ xs. get_or xs j 0) (sym alike) ∙ get_or-padded (rest_of key layer) j (omega (arith, few)) ∙ get_or_past (rest_of key layer) j 0 past))
      ]
    ]
      where
        own_bytes : (key : Bytes) → IsOfTree prefix layer key → 8 * layer < length key → least_in layer ≤ length (rest_of key layer)
        own_bytes key of byte = by layer refl
          where
            by : (m : ℕ) → m ≡ layer → least_in layer ≤ length (rest_of key layer)
            by zero is = let size = length-drop (8 * layer) key in let tenant = of.stored.has_tenant in
                let least : least_in layer ≡ 4 = ap least_in (sym is) in omega (arith, size, tenant, least, is)
            by (suc m) is = let size = length-drop (8 * layer) key in
                let least : least_in layer ≡ 1 = ap least_in (sym is) ∙ ap (λ b. if b then 4 else 1) (ne_eqb (suc m) 0 (λ e. omega (arith, e))) in omega (arith, size, byte, least)

    no_tail : (xs : Bytes) → is_lt (cmp xs []) ≡ false
    no_tail [] = refl
    no_tail (x ∷ xs) = refl

    long_enough : (key : Bytes) → IsOfTree prefix layer key → 8 * layer < length key → slice_of key layer ≡ high → is_below reached false key ≡ false
    long_enough key of byte same =
        let few = sl.few in
        let long = as_long key of byte same in
        let mark_r : mark_of reached layer ≡ Short (length (rest_of reached layer)) = mark_short (length (rest_of reached layer)) few in
        let none : suffix_of reached layer ≡ [] = nil_from_length (suffix_of reached layer) (let size = length-drop 8 (rest_of reached layer) in omega (arith, size, few)) in
        ap is_lt (parts key of)
        ∙ (λ i. is_lt (ordering_then (place_cmp (same i) (mark_of key layer) high (mark_r i)) (cmp (suffix_of key layer) (none i))))
        ∙ ap (λ o. is_lt (ordering_then (ordering_then o (nat_cmp (mark_rank (mark_of key layer)) (length (rest_of reached layer)))) (cmp (suffix_of key layer) []))) (nat_same high)
        ∙ elim (cases_lt (length (rest_of reached layer)) (mark_rank (mark_of key layer))) [
          | inl more ↦ ap (λ o. is_lt (ordering_then o (cmp (suffix_of key layer) []))) (nat_greater (mark_rank (mark_of key layer)) (length (rest_of reached layer)) more)
          | inr at_most ↦
              let eq : mark_rank (mark_of key layer) ≡ length (rest_of reached layer) = let r = rank_at key in omega (arith, r, at_most, long, few) in
              ap (λ r. is_lt (ordering_then (nat_cmp r (length (rest_of reached layer))) (cmp (suffix_of key layer) []))) eq
              ∙ ap (λ o. is_lt (ordering_then o (cmp (suffix_of key layer) []))) (nat_same (length (rest_of reached layer)))
              ∙ no_tail (suffix_of key layer)
        ]
      where
        rank_at : (key : Bytes) → mark_rank (mark_of key layer) ≡ min (length (rest_of key layer)) 9
        rank_at key = elim (cases_lt 8 (length (rest_of key layer))) [
          | inl more ↦ ap mark_rank (mark_long (length (rest_of key layer)) more) ∙ omega (arith, more)
          | inr most ↦ ap mark_rank (mark_short (length (rest_of key layer)) most) ∙ omega (arith, most)
        ]

    pub to_next : stop behind n.slots ≡ None → n.high ≡ Some high → TellsAll (content trees nodes) prefix layer fence after reached (read behind n.slots)
    to_next stops high_is = record {
      whole = λ key stored ahead to.
          let of = in_between key stored ahead reached sl.begins to in
          told_of key stored ahead of (subst (λ h. slice_of key layer < end_of h) (sym high_is) (slice_under key of (has_byte key stored ahead of) to)) (λ s. let both = sym stops ∙ s.stops in cc);
      real = λ x among.
          let w = real_of x among in
          let r = read_in behind n.slots x among in
          let inside = (arena.nodes.each k at.border.there).slots.within r.0.0 r.0.1 in
          let is : slice_index (slices n.slots) r.0.0 ≡ slice_of w.0 layer = get_or-map (λ (e : Entry). e.slice) n.slots r.0.0 x.0 0 r.0.1 ∙ ap (λ (e : Entry). e.slice) r.0.2 ∙ w.1.slice in
          (w.0, w.1, w.2, w.3, under_slice w.0 w.1.of_tree (subst (λ h. slice_of w.0 layer < end_of h) high_is (subst (λ s. s < end_of n.high) is inside.1)));
    }
      where
        slice_under : (key : Bytes) → IsOfTree prefix layer key → 8 * layer < length key → is_below reached false key ≡ true → slice_of key layer < high
        slice_under key of byte to = elim (cases_lt (slice_of key layer) high) [
          | inl lt ↦ lt
          | inr ge ↦ elim (cases_eq (slice_of key layer) high) [
            | inl same ↦ absurd (let over = long_enough key of byte same in let both = sym to ∙ over in cc)
            | inr differ ↦ absurd (let over = ap is_lt (parts key of ∙ ap (λ o. ordering_then (ordering_then o (nat_cmp (mark_rank (mark_of key layer)) (mark_rank (mark_of reached layer)))) (cmp (suffix_of key layer) (suffix_of reached layer))) (nat_greater (slice_of key layer) high (omega (arith, ge, differ)))) in let both = sym to ∙ over in cc)
          ]
        ]
