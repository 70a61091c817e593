-- Stretches that end with their tree, or with their tenant's keys.
use Rattle.std.proofs.Common.{◌≡◌, ℕ, zero, suc, ◌+◌, ◌*◌, ◌<◌, ◌≤◌, inl, inr, Bool, true, false, List, [], ◌∷◌, length, take, Some, None, refl, sym, ap, subst, ◌∙◌, arith}
use Rattle.std.proofs.{lemmas.Bool.{cases_lt, cases_eq}, lemmas.List.{take-take, nil_from_length}, Math.Seq.take-append_seam}
use Rattle.std.specs.{Prelude.slice_index, declared.cmp.Ordering.Ordering, declared.cmp.Ordering.TheVariants.{Less, Greater}}
use Rattle.std.specs.{Ordering.{nat_cmp, is_lt, ordering_then}, Cmp.Lexicographic.slice_cmp, List.Contains, FinMap.get, Int.{w32, to_be_bytes, from_be_bytes}}
use Rattle.mt_slices.specs.{Keys.{IsStoredKey, tenant_of, user_key_of}, Slices.{slice_of, mark_of, rest_of, slice_at}, Fences.IsBehindAll}
use Rattle.mt_slices.proofs.{Bytes.{AreBytes, bytes-drop, bytes-tail}, Tenants.stored_key-again, Numbers.{number, number_lt, slice_at-number, tenant_of-number}}
use Rattle.mt_rows.specs.{Rows.Bytes, Tenants.Contents}
use Rattle.mt_border.{specs.{Held.Pair, declared.entry.Entry.Entry, Entry.pair_of, Contents.{owned, HasKey, IsOfTree, row_of}}, proofs.ContentsKeys.is_mark_of}
use Rattle.mt_arena.{specs.{declared.tree.Tree.Tree, NodeView.{NodeView, node_at}, Forests.tree_at, Arena.IsArena, Contents.content}, proofs.Elsewhere.layer_is}
use Rattle.mt_readings.specs.{Reading.{is_below, is_behind, read, stop}, Spans.{IsScanAt, TellsAll}, Tenancies.TellsTenant}
use Rattle.mt_readings.proofs.{Readings.{read_in, rank_of}, Bytewise.{nat_less, nat_greater, nat_same, reaches}, Spanning.{not_lt, told_of, real_of}}
use Rattle.mt_interior.specs.Fences.{end_of}

abbrev cmp : Bytes → Bytes → Ordering
cmp = slice_cmp nat_cmp

-- what tells all tells of each tenant
pub of_all : (c : Contents) (t : ℕ) (prefix : Bytes) (layer : ℕ) (fence : Bytes) (after : Bool) (reached : Bytes) (es : List Entry) →
    TellsAll c prefix layer fence after reached (read (is_behind fence after layer) es) → TellsTenant c t prefix layer fence after (is_below reached false) (read (is_behind fence after layer) es)
of_all c t prefix layer fence after reached es h = record {
  whole = λ key stored mine ahead to. h.whole key stored ahead to;
  real = λ x among. let w = h.real x among in let r = read_in (is_behind fence after layer) es x among in (w.0, w.1, r.1, w.2, w.3, λ mine. w.4);
}

less_no : (o : Ordering) → o ≡ Less → is_lt o ≡ false → ⊥
less_no o e n = let both = sym (ap is_lt e) ∙ n in cc

more_no : (o : Ordering) → o ≡ Greater → is_lt o ≡ true → ⊥
more_no o e n = let both = sym (ap is_lt e) ∙ n in cc

no_tail : (xs : Bytes) → is_lt (cmp xs []) ≡ false
no_tail [] = refl
no_tail (x ∷ xs) = refl

-- from greatest bytes on a key begins with these
from_full : (ps key : Bytes) → ((i : ℕ) → i < length ps → slice_index ps i ≡ 255) → ((i : ℕ) → slice_index key i < 256) → is_lt (cmp key ps) ≡ false → take (length ps) key ≡ ps
from_full [] key full bytes from = refl
from_full (p ∷ ps) [] full bytes from = absurd (cc)
from_full (p ∷ ps) (c ∷ key) full bytes from =
    let top : p ≡ 255 = full 0 (omega arith) in
    let small : c < 256 = bytes 0 in
    elim (cases_lt c p) [
      | inl below ↦ absurd (less_no (cmp (c ∷ key) (p ∷ ps)) (ap (λ o. ordering_then o (cmp key ps)) (nat_less c p below)) from)
      | inr at_least ↦
          let same : c ≡ p = omega (arith, at_least, top, small) in
          let rest = from_full ps key (λ i lt. full (suc i) (omega (arith, lt))) (λ i. bytes (suc i)) (ap is_lt (sym (ap (λ o. ordering_then o (cmp key ps)) (nat_same p)) ∙ ap (λ x. cmp (x ∷ key) (p ∷ ps)) (sym same)) ∙ from) in
          (λ i. same i ∷ rest i)
    ]

-- and so it does from bytes on of which it has the first so many, and of which the rest are the greatest
from_greatest : (n : ℕ) (ps key : Bytes) → take n key ≡ take n ps → ((i : ℕ) → n ≤ i → i < length ps → slice_index ps i ≡ 255) → ((i : ℕ) → slice_index key i < 256) →
    is_lt (cmp key ps) ≡ false → take (length ps) key ≡ ps
from_greatest zero ps key alike full bytes from = from_full ps key (λ i lt. full i (omega arith) lt) bytes from
from_greatest (suc n) [] key alike full bytes from = refl
from_greatest (suc n) (p ∷ ps) [] alike full bytes from = absurd (let none = ap length alike in cc)
from_greatest (suc n) (p ∷ ps) (c ∷ key) alike full bytes from =
    let same : c ≡ p = cc in
    let rest_alike : take n key ≡ take n ps = cc in
    let rest = from_greatest n ps key rest_alike (λ i more lt. full (suc i) (omega (arith, more)) (omega (arith, lt))) (λ i. bytes (suc i))
    (ap is_lt (sym (ap (λ o. ordering_then o (cmp key ps)) (nat_same p)) ∙ ap (λ x. cmp (x ∷ key) (p ∷ ps)) (sym same)) ∙ from) in
    (λ i. same i ∷ rest i)

-- keys of one tenant begin with the same four bytes
pub first_four : (a b : Bytes) → 4 ≤ length a → 4 ≤ length b → AreBytes a → AreBytes b → tenant_of a ≡ tenant_of b → take 4 a ≡ take 4 b
first_four a b long_a long_b bytes_a bytes_b same = front a long_a bytes_a ∙ ap (to_be_bytes w32) same ∙ sym (front b long_b bytes_b)
  where
    front : (key : Bytes) → 4 ≤ length key → AreBytes key → take 4 key ≡ to_be_bytes w32 (tenant_of key)
    front key long bytes = ap (take 4) (sym (stored_key-again key long bytes)) ∙ take-append_seam (to_be_bytes w32 (tenant_of key)) (user_key_of key)

-- a key between some bytes and the least key behind all that begin so begins so
pub under_all : (place : ℕ) (ps es key : Bytes) → place < length ps → length es ≡ place + 1 → take place es ≡ take place ps → slice_index es place ≡ slice_index ps place + 1 →
    ((i : ℕ) → place < i → i < length ps → slice_index ps i ≡ 255) → ((i : ℕ) → slice_index key i < 256) → is_lt (cmp key ps) ≡ false → is_lt (cmp key es) ≡ true → take (length ps) key ≡ ps
under_all place [] es key in_range long alike more full bytes from to = absurd (omega (arith, in_range))
under_all place (p ∷ ps) [] key in_range long alike more full bytes from to = absurd (omega (arith, long))
under_all place (p ∷ ps) (e ∷ es) [] in_range long alike more full bytes from to = absurd (cc)
under_all zero (p ∷ ps) (e ∷ []) (c ∷ key) in_range long alike more full bytes from to =
    let next : e ≡ p + 1 = more in
    elim (cases_lt c p) [
      | inl below ↦ absurd (less_no (cmp (c ∷ key) (p ∷ ps)) (ap (λ o. ordering_then o (cmp key ps)) (nat_less c p below)) from)
      | inr at_least ↦ elim (cases_eq c p) [
        | inl same ↦
            let rest = from_full ps key (λ i lt. full (suc i) (omega arith) (omega (arith, lt))) (λ i. bytes (suc i)) (ap is_lt (sym (ap (λ o. ordering_then o (cmp key ps)) (nat_same p)) ∙ ap (λ x. cmp (x ∷ key) (p ∷ ps)) (sym same)) ∙ from) in
            (λ i. same i ∷ rest i)
        | inr differ ↦ elim (cases_eq c e) [
          | inl high ↦ absurd (let none = ap is_lt (ap (λ x. cmp (x ∷ key) (e ∷ [])) high ∙ ap (λ o. ordering_then o (cmp key [])) (nat_same e)) ∙ no_tail key in let both = sym none ∙ to in cc)
          | inr over ↦ absurd (more_no (cmp (c ∷ key) (e ∷ [])) (ap (λ o. ordering_then o (cmp key [])) (nat_greater c e (omega (arith, at_least, differ, over, next)))) to)
        ]
      ]
    ]
under_all zero (p ∷ ps) (e ∷ f ∷ es) (c ∷ key) in_range long alike more full bytes from to = absurd (omega (arith, long))
under_all (suc place) (p ∷ ps) (e ∷ es) (c ∷ key) in_range long alike more full bytes from to =
    let equal : e ≡ p = cc in
    let rest_alike : take place es ≡ take place ps = cc in
    elim (cases_lt c p) [
      | inl below ↦ absurd (less_no (cmp (c ∷ key) (p ∷ ps)) (ap (λ o. ordering_then o (cmp key ps)) (nat_less c p below)) from)
      | inr at_least ↦ elim (cases_eq c p) [
        | inl same ↦
            let rest = under_all place ps es key (omega (arith, in_range)) (omega (arith, long)) rest_alike more (λ i lt within. full (suc i) (omega (arith, lt)) (omega (arith, within))) (λ i. bytes (suc i))
            (ap is_lt (sym (ap (λ o. ordering_then o (cmp key ps)) (nat_same p)) ∙ ap (λ x. cmp (x ∷ key) (p ∷ ps)) (sym same)) ∙ from)
            (ap is_lt (sym (ap (λ o. ordering_then o (cmp key es)) (nat_same e)) ∙ ap (λ x. cmp (x ∷ key) (e ∷ es)) (sym (same ∙ sym equal))) ∙ to) in
            (λ i. same i ∷ rest i)
        | inr differ ↦ absurd (more_no (cmp (c ∷ key) (e ∷ es)) (ap (λ o. ordering_then o (cmp key es)) (nat_greater c e (omega (arith, at_least, differ, equal)))) to)
      ]
    ]

-- and each that begins so stands below it
pub before_all : (place : ℕ) (ps es key : Bytes) → place < length ps → length es ≡ place + 1 → take place es ≡ take place ps → slice_index es place ≡ slice_index ps place + 1 → take (length ps) key ≡ ps → is_lt (cmp key es) ≡ true
before_all place [] es key in_range long alike more begins = absurd (omega (arith, in_range))
before_all place (p ∷ ps) [] key in_range long alike more begins = absurd (omega (arith, long))
before_all place (p ∷ ps) (e ∷ es) [] in_range long alike more begins = absurd (let none = ap length begins in cc)
before_all zero (p ∷ ps) (e ∷ es) (c ∷ key) in_range long alike more begins =
    let same : c ≡ p = cc in
    ap is_lt (ap (λ o. ordering_then o (cmp key es)) (nat_less c e (omega (arith, same, more))))
before_all (suc place) (p ∷ ps) (e ∷ es) (c ∷ key) in_range long alike more begins =
    let same : c ≡ p = cc in
    let equal : e ≡ p = cc in
    let rest_alike : take place es ≡ take place ps = cc in
    let rest : take (length ps) key ≡ ps = cc in
    ap is_lt (ap (λ x. cmp (x ∷ key) (e ∷ es)) (same ∙ sym equal) ∙ ap (λ o. ordering_then o (cmp key es)) (nat_same e)) ∙ before_all place ps es key (omega (arith, in_range)) (omega (arith, long)) rest_alike more rest

-- a key from another on is from its first bytes on
pub from_first : (n : ℕ) (f key : Bytes) → is_lt (cmp key f) ≡ false → is_lt (cmp key (take n f)) ≡ false
from_first zero f key from = no_tail key
from_first (suc n) [] key from = from
from_first (suc n) (a ∷ f) [] from = absurd (cc)
from_first (suc n) (a ∷ f) (c ∷ key) from = elim (cases_lt c a) [
  | inl below ↦ absurd (less_no (cmp (c ∷ key) (a ∷ f)) (ap (λ o. ordering_then o (cmp key f)) (nat_less c a below)) from)
  | inr at_least ↦ elim (cases_eq c a) [
    | inl same ↦ ap is_lt (ap (λ x. cmp (x ∷ key) (a ∷ take n f)) same ∙ ap (λ o. ordering_then o (cmp key (take n f))) (nat_same a))
        ∙ from_first n f key (ap is_lt (sym (ap (λ o. ordering_then o (cmp key f)) (nat_same a)) ∙ ap (λ x. cmp (x ∷ key) (a ∷ f)) (sym same)) ∙ from)
    | inr differ ↦ ap is_lt (ap (λ o. ordering_then o (cmp key (take n f))) (nat_greater c a (omega (arith, at_least, differ))))
  ]
]

-- a slice fits 64 bits
pub slice_of_lt : (key : Bytes) (layer : ℕ) → AreBytes key → slice_of key layer < 18446744073709551616
slice_of_lt key layer bytes = by (rest_of key layer) (bytes-drop (8 * layer) key bytes)
  where
    by : (xs : Bytes) → AreBytes xs → slice_at xs < 18446744073709551616
    by xs b = rw (slice_at-number xs) (number_lt 8 xs b)

-- and a tenant's is one of those that begin with its number
pub slice_of_tenant : (key : Bytes) → AreBytes key → 4 ≤ length key → slice_of key 0 < (tenant_of key + 1) * 4294967296
slice_of_tenant key bytes long = rw (slice_at-number key, tenant_of-number key) (by key bytes long)
  where
    by : (xs : Bytes) → AreBytes xs → 4 ≤ length xs → number 8 xs < (number 4 xs + 1) * 4294967296
    by [] b l = absurd (omega (arith, l))
    by (x ∷ []) b l = absurd (omega (arith, l))
    by (x ∷ y ∷ []) b l = absurd (omega (arith, l))
    by (x ∷ y ∷ z ∷ []) b l = absurd (omega (arith, l))
    by (x ∷ y ∷ z ∷ u ∷ xs) b l = let rest = number_lt 4 xs (bytes-tail u xs (bytes-tail z (u ∷ xs) (bytes-tail y (z ∷ u ∷ xs) (bytes-tail x (y ∷ z ∷ u ∷ xs) b)))) in omega (arith, rest)

-- nor is it below the first of them
pub slice_from_tenant : (key : Bytes) → 4 ≤ length key → tenant_of key * 4294967296 ≤ slice_of key 0
slice_from_tenant key long = rw (slice_at-number key, tenant_of-number key) (by key long)
  where
    by : (xs : Bytes) → 4 ≤ length xs → number 4 xs * 4294967296 ≤ number 8 xs
    by [] l = absurd (omega (arith, l))
    by (x ∷ []) l = absurd (omega (arith, l))
    by (x ∷ y ∷ []) l = absurd (omega (arith, l))
    by (x ∷ y ∷ z ∷ []) l = absurd (omega (arith, l))
    by (x ∷ y ∷ z ∷ u ∷ xs) l = omega arith

-- so a key whose slice is one of a tenant's is that tenant's
pub tenant_is : (key : Bytes) (t : ℕ) → AreBytes key → 4 ≤ length key → t * 4294967296 ≤ slice_of key 0 → slice_of key 0 < (t + 1) * 4294967296 → tenant_of key ≡ t
tenant_is key t bytes long low high = let over = slice_from_tenant key long in let under = slice_of_tenant key bytes long in omega (arith, low, high, over, under)

-- and keys that begin with the same four bytes are of one tenant
pub same_tenant : (a b : Bytes) → take 4 a ≡ take 4 b → tenant_of a ≡ tenant_of b
unfolding tenant_of
same_tenant a b alike = ap (from_be_bytes w32) alike

module _ (nodes : List NodeView) (trees : List Tree) (k layer : ℕ) (fence : Bytes) (after : Bool) (t : ℕ) (arena : IsArena nodes trees) (scan : IsScanAt nodes trees k layer fence) where
  abbrev n : NodeView
  n = node_at nodes k

  abbrev prefix : Bytes
  prefix = (tree_at trees n.tree).prefix

  abbrev behind : Entry → Bool
  behind = is_behind fence after layer

  pub prefix_long : length prefix ≡ 8 * layer
  prefix_long =
      let size = (arena.forest.each n.tree (arena.forest.tree_there k scan.border.there)).whole in
      let is = layer_is prefix fence layer scan.of_tree in
      sym size ∙ ap (λ m. 8 * m) is

  real_pairs : (reached : Bytes → Bool) → ((key : Bytes) → IsOfTree prefix layer key → tenant_of key ≡ t → reached key ≡ true) → (x : Entry × Pair) → Contains (read behind n.slots) x →
      (key : Bytes) × HasKey prefix layer x.0 key × (pair_of x.0.held ≡ Some x.1) × (get (content trees nodes) (owned key) ≡ Some (row_of x.1)) × (is_below fence after key ≡ false) × (tenant_of key ≡ t → reached key ≡ true)
  real_pairs reached reach x among =
      let w = real_of nodes trees k layer fence after arena scan x among in
      let r = read_in behind n.slots x among in
      (w.0, w.1, r.1, w.2, w.3, reach w.0 w.1.of_tree)

  -- up to the end of the tree
  pub to_the_trees_end : (reached : Bytes) → stop behind n.slots ≡ None → n.high ≡ None → IsBehindAll prefix reached → TellsTenant (content trees nodes) t prefix layer fence after (is_below reached false) (read behind n.slots)
  to_the_trees_end reached stops end b = record {
    whole = λ key stored mine ahead to.
        let from = not_lt after (cmp key fence) ahead in
        let from_prefix : is_lt (cmp key prefix) ≡ false = subst (λ p. is_lt (cmp key p) ≡ false) (sym scan.of_tree.begins) (from_first (8 * layer) fence key from) in
        let begins = under_all b.place prefix reached key b.in_range b.long b.alike b.more b.full stored.are_bytes from_prefix to in
        let at_layer : take (8 * layer) key ≡ prefix = ap (λ m. take m key) (sym prefix_long) ∙ begins in
        let of : IsOfTree prefix layer key = record { stored = stored; reaches = reaches (8 * layer) fence key scan.of_tree.reaches (at_layer ∙ scan.of_tree.begins); begins = sym at_layer } in
        told_of nodes trees k layer fence after arena scan key stored ahead of (subst (λ h. slice_of key layer < end_of h) (sym end) (slice_of_lt key layer stored.are_bytes)) (λ s. let both = sym stops ∙ s.stops in cc);
    real = real_pairs (is_below reached false) (λ key of mine. before_all b.place prefix reached key b.in_range b.long b.alike b.more (ap (λ m. take m key) prefix_long ∙ sym of.begins));
  }

  -- up to the end of the tenant's keys, where the range of a node of the top tree goes so far
  pub to_the_tenants_end : layer ≡ 0 → (t + 1) * 4294967296 ≤ end_of n.high → ((l : Entry) → stop behind n.slots ≡ Some l → (t + 1) * 4294967296 ≤ l.slice) →
      TellsTenant (content trees nodes) t prefix layer fence after (λ key. true) (read behind n.slots)
  to_the_tenants_end top over links = record {
    whole = λ key stored mine ahead to.
        let of : IsOfTree prefix layer key = record { stored = stored; reaches = omega (arith, top); begins = scan.of_tree.begins ∙ none_alike top key } in
        let low : slice_of key layer < (t + 1) * 4294967296 = subst (λ m. slice_of key m < (t + 1) * 4294967296) (sym top) (subst (λ u. slice_of key 0 < (u + 1) * 4294967296) mine (slice_of_tenant key stored.are_bytes stored.has_tenant)) in
        let few = rank_of (mark_of key layer) (is_mark_of key layer) in
        told_of nodes trees k layer fence after arena scan key stored ahead of (omega (arith, low, over)) (λ s. let far = links s.link s.stops in omega (arith, far, low, few, s.before));
    real = real_pairs (λ key. true) (λ key of mine. refl);
  }
    where
      none_alike : layer ≡ 0 → (key : Bytes) → take (8 * layer) fence ≡ take (8 * layer) key
      none_alike top key = ap (λ m. take (8 * m) fence) top ∙ ap (λ m. take (8 * m) key) (sym top)

  -- up to the end of a tree behind which the tenant has no key: so are all of them from the fence on, since theirs are at most the greatest bytes
  pub to_the_last_trees_end : stop behind n.slots ≡ None → n.high ≡ None → tenant_of fence ≡ t → ((i : ℕ) → 4 ≤ i → i < length prefix → slice_index prefix i ≡ 255) →
      TellsTenant (content trees nodes) t prefix layer fence after (λ key. true) (read behind n.slots)
  to_the_last_trees_end stops end own full = record {
    whole = λ key stored mine ahead to.
        let begins = in_tree key stored mine (not_lt after (cmp key fence) ahead) in
        let of : IsOfTree prefix layer key = record { stored = stored; reaches = reaches (8 * layer) fence key scan.of_tree.reaches (begins ∙ scan.of_tree.begins); begins = sym begins } in
        told_of nodes trees k layer fence after arena scan key stored ahead of (subst (λ h. slice_of key layer < end_of h) (sym end) (slice_of_lt key layer stored.are_bytes)) (λ s. let both = sym stops ∙ s.stops in cc);
    real = real_pairs (λ key. true) (λ key of mine. refl);
  }
    where
      in_tree : (key : Bytes) → IsStoredKey key → tenant_of key ≡ t → is_lt (cmp key fence) ≡ false → take (8 * layer) key ≡ prefix
      in_tree key stored mine from = elim (cases_eq layer 0) [
        | inl top ↦ ap (λ m. take (8 * m) key) top ∙ sym (nil_from_length prefix (let long = prefix_long in omega (arith, long, top)))
        | inr below ↦
            let from_prefix : is_lt (cmp key prefix) ≡ false = subst (λ p. is_lt (cmp key p) ≡ false) (sym scan.of_tree.begins) (from_first (8 * layer) fence key from) in
            let alike : take 4 key ≡ take 4 prefix =
            first_four key fence stored.has_tenant scan.of_tree.stored.has_tenant stored.are_bytes scan.of_tree.stored.are_bytes (mine ∙ sym own)
            ∙ sym (ap (take 4) scan.of_tree.begins ∙ take-take 4 (8 * layer) fence (omega (arith, below))) in
            ap (λ m. take m key) (sym prefix_long) ∙ from_greatest 4 prefix key alike full stored.are_bytes from_prefix
      ]
