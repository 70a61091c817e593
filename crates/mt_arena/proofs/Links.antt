-- Each layer has a link on the way to a live tree: for the laws of descents.
use Rattle.std.proofs.Common.{◌≡◌, ℕ, zero, suc, ◌+◌, ◌-◌, ◌*◌, ◌^◌, ◌<◌, ◌≤◌, List, ◌++◌, length, take, drop, replicate, refl, sym, ap, subst, ◌∙◌, inl, inr, arith}
use Rattle.std.proofs.{lemmas.Bool.{cases_eq, cases_lt}, lemmas.Nat.from_be_bytes-to_be_bytes_8}
use Rattle.std.proofs.lemmas.List.{length-append, length-take-le, length-drop, take-take, take_at, drop_at, drop-take, take-append-le, get_or_past}
use Rattle.std.specs.Int.{w64, to_be_bytes, from_be_bytes}
use Rattle.mt_slices.specs.{declared.mark.Mark.Mark, declared.mark.Mark.TheVariants.Long, Slices.{slice_at, slice_of, rest_of}}
use Rattle.mt_slices.proofs.{Bytes.{AreBytes, bytes-drop}, Numbers.{slice_at-number, number_lt}}
use Rattle.mt_rows.specs.Rows.{Bytes}
use Rattle.mt_border.{specs.{declared.entry.Entry.Entry, Held.Link, Entry.CanHold}, proofs.Edits.any_entry}
use Rattle.mt_arena.specs.{declared.tree.Tree.Tree, declared.tree.Standing.TheVariants.{Live, Dead}, NodeView.{NodeView, node_at}}
use Rattle.mt_arena.specs.{Forests.{IsForest, tree_at, no_tree, layer_of}, Layers.{slot_at, HasLink, LeadsTo}, Arena.IsArena, Ways.LinksOn}

-- a live tree is there
pub live_there : (trees : List Tree) (t : ℕ) → (tree_at trees t).standing ≡ Live → t < length trees
live_there trees t live = elim (cases_lt t (length trees)) [
  | inl within ↦ within
  | inr past ↦ let dead : Dead ≡ Live = sym (ap (λ (tree : Tree). tree.standing) (get_or_past trees t no_tree past)) ∙ live in absurd (cc)
]

-- two live trees of one prefix are one
pub one_tree : (nodes : List NodeView) (trees : List Tree) (t u : ℕ) → IsForest nodes trees → (tree_at trees t).standing ≡ Live
    → (tree_at trees u).standing ≡ Live → (tree_at trees t).prefix ≡ (tree_at trees u).prefix → t ≡ u
one_tree nodes trees t u forest live also same = elim (cases_eq t u) [
  | inl is ↦ is
  | inr differ ↦ absurd ((forest.peers t u (live_there trees t live) (live_there trees u also)).one_live differ live also same)
]

-- a slice fits 64 bits
slice_lt : (xs : Bytes) → AreBytes xs → slice_at xs < 2 ^ 64
slice_lt xs bytes = rw (slice_at-number xs) (number_lt 8 xs bytes)

-- a slice is a number of 64 bits
pub slice_of_lt : (key : Bytes) (layer : ℕ) → AreBytes key → slice_of key layer < 2 ^ 64
slice_of_lt key layer bytes = slice_lt (rest_of key layer) (bytes-drop (8 * layer) key bytes)

-- the first n + 8 bytes as n bytes and 8
front_of : (key front back : Bytes) (n : ℕ) → take (n + 8) key ≡ front ++ back → length front ≡ n → front ≡ take n key
front_of key front back n is long = sym (take_at front back n long) ∙ ap (take n) (sym is) ∙ take-take n (n + 8) key (omega arith)

back_of : (key front back : Bytes) (n : ℕ) → take (n + 8) key ≡ front ++ back → length front ≡ n → back ≡ take 8 (drop n key)
back_of key front back n is long = sym (drop_at front back n long) ∙ ap (drop n) (sym is) ∙ drop-take n 8 key

-- the slice whose bytes a key has in a layer is its slice there
slice_again : (xs : Bytes) (slice : ℕ) → 8 ≤ length xs → slice < 2 ^ 64 → to_be_bytes w64 slice ≡ take 8 xs → slice_at xs ≡ slice
unfolding slice_at
slice_again xs slice long fits is =
    ap (from_be_bytes w64) (take-append-le 8 xs (replicate 8 0) long ∙ sym is) ∙ from_be_bytes-to_be_bytes_8 slice fits

-- a mark at which there is a link
pub long_link : (mark : Mark) (e : Entry) (u : ℕ) → CanHold e.mark e.held → e.held ≡ Link u → e.mark ≡ Long
long_link mark e u can is = subst (CanHold e.mark) is can

module _ (nodes : List NodeView) (trees : List Tree) (arena : IsArena nodes trees) (key : Bytes) where
  -- the link to a live tree below the top
  module _ (t layer : ℕ) (live : (tree_at trees t).standing ≡ Live) (prefix : (tree_at trees t).prefix ≡ take (8 * (layer + 1)) key) (reaches : 8 * (layer + 1) ≤ length key) where
    long : length (tree_at trees t).prefix ≡ 8 * (layer + 1)
    long = ap length prefix ∙ length-take-le (8 * (layer + 1)) key reaches

    link : HasLink nodes t
    link = arena.layers.linked t (live_there trees t live) live (λ none. let zero_long = ap length none in omega (arith, long, zero_long))

    abbrev n : NodeView
    n = node_at nodes link.node

    leads : LeadsTo trees n link.slot t
    leads = arena.layers.links link.node link.there link.live link.slot t link.in_range link.is

    abbrev e : Entry
    e = slot_at n link.slot

    front_long : length (tree_at trees n.tree).prefix ≡ 8 * layer
    front_long =
        let parts = ap length leads.prefix ∙ length-append (tree_at trees n.tree).prefix (to_be_bytes w64 e.slice) in
        let eight : length (to_be_bytes w64 e.slice) ≡ 8 = refl in
        omega (arith, parts, eight, long)

    cut : take (8 * layer + 8) key ≡ (tree_at trees n.tree).prefix ++ to_be_bytes w64 e.slice
    cut = (let more : 8 * layer + 8 ≡ 8 * (layer + 1) = omega arith in ap (λ m. take m key) more) ∙ sym prefix ∙ leads.prefix

    slice_fits : e.slice < 2 ^ 64
    slice_fits =
        let home = arena.forest.homes link.node n.tree link.there (arena.forest.tree_there link.node link.there) in
        let has = (home.keys refl).keys link.slot any_entry link.in_range in
        subst (λ s. s < 2 ^ 64) (sym has.1.slice) (slice_of_lt has.0 (layer_of (tree_at trees n.tree).prefix) has.1.of_tree.stored.are_bytes)

    slice_is : e.slice ≡ slice_of key layer
    slice_is =
        sym (slice_again (rest_of key layer) e.slice (omega (arith, length-drop (8 * layer) key, reaches)) slice_fits (back_of key (tree_at trees n.tree).prefix (to_be_bytes w64 e.slice) (8 * layer) cut front_long))

    level : n.level ≡ 0
    level = elim (cases_lt 0 n.level) [
      | inl above ↦ absurd (let none = ap length ((arena.nodes.each link.node link.there).slots.slotless above) in omega (arith, none, link.in_range))
      | inr border ↦ omega (arith, border)
    ]

    pub link_to : LinksOn nodes trees key layer
    link_to = record {
      tree = n.tree;
      node = link.node;
      slot = link.slot;
      to = t;
      live = leads.from;
      prefix = front_of key (tree_at trees n.tree).prefix (to_be_bytes w64 e.slice) (8 * layer) cut front_long;
      stands = record {
        border = record { there = link.there; live = link.live; level = level; tree_is = refl };
        in_range = link.in_range;
        slice_is = slice_is;
        mark_is = long_link e.mark e t ((arena.nodes.each link.node link.there).slots.border.each link.slot any_entry link.in_range).held link.is;
      };
      is = link.is;
      to_live = live;
      to_prefix = prefix;
    }

  -- and those of all layers above it
  links_from : (gap t layer : ℕ) → (tree_at trees t).standing ≡ Live → (tree_at trees t).prefix ≡ take (8 * (layer + gap + 1)) key
      → 8 * (layer + gap + 1) ≤ length key → LinksOn nodes trees key layer
  links_from zero t layer live prefix reaches =
      let same : layer + 0 + 1 ≡ layer + 1 = omega arith in
      link_to t layer live (prefix ∙ ap (λ m. take (8 * m) key) same) (omega arith)
  links_from (suc gap) t layer live prefix reaches =
      let same : layer + suc gap ≡ layer + gap + 1 = omega arith in
      let above = link_to t (layer + suc gap) live prefix reaches in
      links_from gap above.tree layer above.live (above.prefix ∙ ap (λ m. take (8 * m) key) same) (omega arith)

  pub links_above : (t layer above : ℕ) → (tree_at trees t).standing ≡ Live → (tree_at trees t).prefix ≡ take (8 * layer) key → 8 * layer ≤ length key
      → above < layer → LinksOn nodes trees key above
  links_above t layer above live prefix reaches higher =
      let same : layer ≡ above + (layer - above - 1) + 1 = omega arith in
      links_from (layer - above - 1) t above live (prefix ∙ ap (λ m. take (8 * m) key) same) (omega arith)
