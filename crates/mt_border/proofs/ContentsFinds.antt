-- What a find in a border node tells of the contents: for the law of contents and the crates above.
use Rattle.std.proofs.Common.{◌≡◌, ◌≢◌, ℕ, ◌<◌, List, length, get_or, take, Option, Some, None, sym, refl, subst, ◌∙◌, inl, inr, arith}
use Rattle.std.proofs.{lemmas.Bool.{cases_eq, cases_lt}, lemmas.Option.none-some, lemmas.List.{length-map, length-take, get_or-map, get_or-take}}
use Rattle.std.proofs.lemmas.List.Elements.{All-from_get_or}
use Rattle.std.specs.{Prelude.IsSomeAnd, List.All, Option.{ForSome, option_map}, FinMap.get}
use Rattle.mt_lists.specs.Rising.{IsRising}
use Rattle.mt_slices.specs.Slices.{slice_of, mark_of, suffix_of}
use Rattle.mt_rows.specs.{Rows.Bytes, Stamps.Stamped}
use Rattle.mt_border.specs.{Held.{Pair, Held, Stable, Unstable, Link}, declared.entry.Entry.Entry, declared.entry.Find.Find}
use Rattle.mt_border.specs.{declared.entry.Find.TheVariants.{Missing, Slot}, declared.entry.FoundKind.FoundKind}
use Rattle.mt_border.specs.{declared.entry.FoundKind.TheVariants.{ThisKey, OtherLong, Link as ToTree}, Entry.{pair_of, order_at, order_of, IsLink, IsKind}}
use Rattle.mt_border.specs.{Entries.{orders, IsBorder, IsMissing}, Node.{Node, entries_of, entry_at, place_at, IsLive, IsFound, Finds}}
use Rattle.mt_border.specs.Contents.{owned, contents_of, row_found, IsOfTree, HasKey, AreKeys, row_of}
use Rattle.mt_border.proofs.Edits.{any_entry}
use Rattle.mt_border.proofs.ContentsKeys.{IsApart, by_equation, owned_at, has_found_key, order_of_key, apart_by_order, apart_by_suffix, all_apart}
use Rattle.mt_border.proofs.ContentsLists.{get-apart, get-at}

-- entries at two places of a border have two places in the order
pub orders_differ : (es : List Entry) (i j : ℕ) (d f : Entry) → IsRising (orders es) → i < length es → j < length es → i ≢ j → order_of (get_or es i d) ≢ order_of (get_or es j f)
orders_differ es i j d f rising inside within differ same =
    let size = length-map es order_of in
    let here = get_or-map order_of es i d 0 inside in
    let there = get_or-map order_of es j f 0 within in
    elim (cases_lt i j) [
      | inl below ↦ omega (arith, rising i j below (omega arith))
      | inr above ↦ omega (arith, rising j i (omega arith) (omega arith))
    ]

module _ (prefix : Bytes) (layer : ℕ) (es : List Entry) (key : Bytes) (slot : ℕ) (border : IsBorder es) (keys : AreKeys prefix layer es) (of_tree : IsOfTree prefix layer key)
    (live : slot < length es) (place : order_of (get_or es slot any_entry) ≡ order_at (slice_of key layer) (mark_of key layer)) where
  -- the other entries than the one at the key's place stand for other keys
  pub apart_beside : (k : ℕ) (d : Entry) → k < length es → k ≢ slot → IsApart prefix (owned key) (get_or es k d)
  apart_beside k d inside differ =
      let has = keys k d inside in
      apart_by_order prefix layer (get_or es k d) key has.0 has.1 of_tree (λ same. orders_differ es k slot d any_entry border.rising inside live differ (same ∙ sym place))

  -- so do those before it
  pub apart_before : All (IsApart prefix (owned key)) (take slot es)
  apart_before k d inside =
      let size = length-take slot es in
      subst (IsApart prefix (owned key)) (sym (get_or-take slot es k d (omega arith))) (apart_beside k d (omega arith) (omega arith))

  -- and all do, where that one goes on otherwise
  pub apart_with : ForSome (pair_of (get_or es slot any_entry).held) (λ pair. pair.suffix ≢ suffix_of key layer) → All (IsApart prefix (owned key)) es
  apart_with otherwise = All-from_get_or (IsApart prefix (owned key)) es any_entry (λ k inside. elim (cases_eq k slot) [
    | inl same ↦ let has = keys slot any_entry live in rw same (apart_by_suffix prefix layer (get_or es slot any_entry) key has.0 has.1 of_tree otherwise)
    | inr differ ↦ apart_beside k any_entry inside differ
  ])

-- a key with whose slice and mark there is no entry is in no pair
pub find_missing : (prefix : Bytes) (layer : ℕ) (entries : List Entry) (key : Bytes) → AreKeys prefix layer entries → IsOfTree prefix layer key → IsMissing entries (slice_of key layer) (mark_of key layer) → get (contents_of prefix entries) (owned key) ≡ None
find_missing prefix layer entries key keys of_tree missing = get-apart prefix (owned key) entries (all_apart prefix layer entries key keys of_tree missing)

-- a live slot that stands for the key has its row
pub row_at : (prefix : Bytes) (layer : ℕ) (node : Node) (key : Bytes) (slot : ℕ) (pair : Pair) → IsBorder (entries_of node) → AreKeys prefix layer (entries_of node) → IsLive node slot → HasKey prefix layer (entry_at node slot) key → pair_of (entry_at node slot).held ≡ Some pair
    → get (contents_of prefix (entries_of node)) (owned key) ≡ Some (row_of pair)
row_at prefix layer node key slot pair border keys live has is =
    get-at prefix (owned key) (entries_of node) (place_at node slot) any_entry pair live is (owned_at prefix layer (entry_at node slot) key pair has is)
    (apart_before prefix layer (entries_of node) key (place_at node slot) border keys has.of_tree live (order_of_key prefix layer (entry_at node slot) key has))

-- so has one that was found with this key
pub find_here : (prefix : Bytes) (layer : ℕ) (node : Node) (key : Bytes) (slot : ℕ) (pair : Pair) → IsBorder (entries_of node) → AreKeys prefix layer (entries_of node) → IsOfTree prefix layer key → IsFound node (slice_of key layer) (mark_of key layer) (suffix_of key layer) slot ThisKey → pair_of (entry_at node slot).held ≡ Some pair
    → get (contents_of prefix (entries_of node)) (owned key) ≡ Some (row_of pair)
find_here prefix layer node key slot pair border keys of_tree found is =
    row_at prefix layer node key slot pair border keys found.live (has_found_key prefix layer node key slot of_tree found) is

-- another long key, or a link, goes on otherwise
goes_otherwise : (e : Entry) (suffix : List ℕ) (kind : FoundKind) → kind ≢ ThisKey → IsKind e suffix kind → ForSome (pair_of e.held) (λ pair. pair.suffix ≢ suffix)
goes_otherwise e suffix ThisKey other is = absurd (other refl)
goes_otherwise e suffix OtherLong other is = by_equation (λ (pair : Pair). pair.suffix ≢ suffix) (pair_of e.held) is.1
goes_otherwise e suffix ToTree other is = by e.held is.1
  where
    by : (held : Held) → IsLink held → ForSome (pair_of held) (λ pair. pair.suffix ≢ suffix)
    by (Stable pair) is = absurd is
    by (Unstable pair tree) is = absurd is
    by (Link tree) is = λ pair same. absurd (none-some pair same)

-- where a slot was found that holds another long key or a link, the key is in no pair of this node
pub find_other : (prefix : Bytes) (layer : ℕ) (node : Node) (key : Bytes) (slot : ℕ) (kind : FoundKind) → IsBorder (entries_of node) → AreKeys prefix layer (entries_of node) → IsOfTree prefix layer key → kind ≢ ThisKey → IsFound node (slice_of key layer) (mark_of key layer) (suffix_of key layer) slot kind
    → get (contents_of prefix (entries_of node)) (owned key) ≡ None
find_other prefix layer node key slot kind border keys of_tree other found =
    get-apart prefix (owned key) (entries_of node)
    (apart_with prefix layer (entries_of node) key (place_at node slot) border keys of_tree found.live (λ i. order_at (found.slice_is i) (found.mark_is i))
    (goes_otherwise (entry_at node slot) (suffix_of key layer) kind other found.kind_is))

-- whatever a find answers: the contents have the row that it has found
pub find_tells : (prefix : Bytes) (layer : ℕ) (node : Node) (key : Bytes) (found : Find) → IsBorder (entries_of node) → AreKeys prefix layer (entries_of node) → IsOfTree prefix layer key → Finds node (slice_of key layer) (mark_of key layer) (suffix_of key layer) found
    → get (contents_of prefix (entries_of node)) (owned key) ≡ row_found node found
find_tells prefix layer node key Missing border keys of_tree is = find_missing prefix layer (entries_of node) key keys of_tree is
find_tells prefix layer node key (Slot slot OtherLong) border keys of_tree is = find_other prefix layer node key slot OtherLong border keys of_tree (λ same. cc) is
find_tells prefix layer node key (Slot slot ToTree) border keys of_tree is = find_other prefix layer node key slot ToTree border keys of_tree (λ same. cc) is
find_tells prefix layer node key (Slot slot ThisKey) border keys of_tree is = by (pair_of (entry_at node slot).held) refl is.kind_is
  where
    by : (o : Option Pair) → pair_of (entry_at node slot).held ≡ o → IsSomeAnd o (λ pair. pair.suffix ≡ suffix_of key layer) → get (contents_of prefix (entries_of node)) (owned key) ≡ option_map row_of o
    by None none kind = absurd kind
    by (Some pair) some kind = find_here prefix layer node key slot pair border keys of_tree is some

-- a key that is in the contents is found
pub found_where_there : (prefix : Bytes) (layer : ℕ) (node : Node) (key : Bytes) (row : Stamped) (found : Find) → IsBorder (entries_of node) → AreKeys prefix layer (entries_of node) → IsOfTree prefix layer key → get (contents_of prefix (entries_of node)) (owned key) ≡ Some row → Finds node (slice_of key layer) (mark_of key layer) (suffix_of key layer) found
    → (slot : ℕ) × (found ≡ Slot slot ThisKey)
found_where_there prefix layer node key row found border keys of_tree there is = by found (sym (find_tells prefix layer node key found border keys of_tree is) ∙ there)
  where
    by : (f : Find) → row_found node f ≡ Some row → (slot : ℕ) × (f ≡ Slot slot ThisKey)
    by Missing some = absurd (none-some row some)
    by (Slot slot ThisKey) some = (slot, refl)
    by (Slot slot OtherLong) some = absurd (none-some row some)
    by (Slot slot ToTree) some = absurd (none-some row some)
