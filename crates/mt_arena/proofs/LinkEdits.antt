-- The facts of links are kept where a node changes: for the invariant of every call.
use Rattle.std.proofs.Common.{◌≡◌, ◌≢◌, ℕ, ◌+◌, ◌-◌, ◌<◌, ◌≤◌, List, [], ◌++◌, length, get_or, set, false, refl, sym, ap, subst, ◌∙◌, inl, inr, arith}
use Rattle.std.proofs.{lemmas.Bool.{cases_eq, cases_lt}, lemmas.List.{length-set, get_or-set_same, get_or-set_other}}
use Rattle.std.proofs.lemmas.List.Edits.{length-insert, length-remove, get_or-insert_below, get_or-insert_at, get_or-insert_above, get_or-remove_below, get_or-remove_above}
use Rattle.std.specs.List.{insert, remove}
use Rattle.mt_slices.specs.{Slices.piece_bytes, declared.mark.Mark.TheVariants.Long}
use Rattle.mt_border.{specs.{declared.entry.Entry.Entry, Held.Link}, proofs.Edits.any_entry}
use Rattle.mt_arena.specs.{declared.tree.Tree.Tree, NodeView.{NodeView, node_at}, Forests.tree_at, Layers.{AreLayered, AreLinks, HasLink, slot_at}}
use Rattle.mt_arena.proofs.Pairs.{here, there}

-- an entry of a list is a link to the tree, at the slice
pub record HasSlot (es : List Entry) (u slice : ℕ) : Type 0 where
  pub slot : ℕ
  pub in_range : slot < length es
  pub is : (get_or es slot any_entry).held ≡ Link u
  pub slice_is : (get_or es slot any_entry).slice ≡ slice

-- the links of one list are links of the other
abbrev pub HasLinksOf : List Entry → List Entry → Type 0
HasLinksOf es of = (j u : ℕ) → j < length of → (get_or of j any_entry).held ≡ Link u → HasSlot es u (get_or of j any_entry).slice

-- slots have the links that they have
pub same_links : (es : List Entry) → HasLinksOf es es
same_links es j u lt e = record { slot = j; in_range = lt; is = e; slice_is = refl }

-- one entry more
pub links_insert : (es : List Entry) (at : ℕ) (e : Entry) → at ≤ length es → HasLinksOf (insert es at e) es
links_insert es at e le j u lt is =
    let size = length-insert es at e le in
    elim (cases_lt j at) [
      | inl below ↦ let same = get_or-insert_below es at e any_entry j below le in
          record { slot = j; in_range = omega arith; is = ap (λ (x : Entry). x.held) same ∙ is; slice_is = ap (λ (x : Entry). x.slice) same }
      | inr above ↦ let same = get_or-insert_above es at e any_entry j (omega arith) le in
          record { slot = j + 1; in_range = omega arith; is = ap (λ (x : Entry). x.held) same ∙ is; slice_is = ap (λ (x : Entry). x.slice) same }
    ]

-- which is no link
pub links_insert_back : (es : List Entry) (at : ℕ) (e : Entry) → at ≤ length es → ((u : ℕ) → e.held ≢ Link u) → HasLinksOf es (insert es at e)
links_insert_back es at e le none j u lt is =
    let size = length-insert es at e le in
    elim (cases_eq j at) [
      | inl here_is ↦ absurd (none u (ap (λ (x : Entry). x.held) (sym (get_or-insert_at es at e any_entry le) ∙ ap (λ k. get_or (insert es at e) k any_entry) (sym here_is)) ∙ is))
      | inr other ↦ elim (cases_lt j at) [
        | inl below ↦ let same = get_or-insert_below es at e any_entry j below le in
            record { slot = j; in_range = omega arith; is = ap (λ (x : Entry). x.held) (sym same) ∙ is; slice_is = ap (λ (x : Entry). x.slice) (sym same) }
        | inr above ↦
            let same : get_or (insert es at e) j any_entry ≡ get_or es (j - 1) any_entry = subst (λ k. get_or (insert es at e) k any_entry ≡ get_or es (j - 1) any_entry) {x = j - 1 + 1} (omega arith) (get_or-insert_above es at e any_entry (j - 1) (omega arith) le) in
            record { slot = j - 1; in_range = omega arith; is = ap (λ (x : Entry). x.held) (sym same) ∙ is; slice_is = ap (λ (x : Entry). x.slice) (sym same) }
      ]
    ]

-- another entry in the place of one, neither of them a link
pub links_set : (es : List Entry) (at : ℕ) (e : Entry) → ((u : ℕ) → (get_or es at any_entry).held ≢ Link u) → HasLinksOf (set es at e) es
links_set es at e none j u lt is = elim (cases_eq j at) [
  | inl here_is ↦ absurd (none u (ap (λ k. (get_or es k any_entry).held) (sym here_is) ∙ is))
  | inr other ↦ let same = get_or-set_other es at j e any_entry other in
      record { slot = j; in_range = omega (arith, lt, length-set es at e); is = ap (λ (x : Entry). x.held) same ∙ is; slice_is = ap (λ (x : Entry). x.slice) same }
]

-- an entry without a link put in the place of another leaves no new link
pub links_set_back : (es : List Entry) (at : ℕ) (e : Entry) → at < length es → ((u : ℕ) → e.held ≢ Link u) → HasLinksOf es (set es at e)
links_set_back es at e within none j u lt is = elim (cases_eq j at) [
  | inl here_is ↦ absurd (none u (ap (λ (x : Entry). x.held) (sym (get_or-set_same es at e any_entry within) ∙ ap (λ k. get_or (set es at e) k any_entry) (sym here_is)) ∙ is))
  | inr other ↦ let same = get_or-set_other es at j e any_entry other in
      record { slot = j; in_range = omega (arith, lt, length-set es at e); is = ap (λ (x : Entry). x.held) (sym same) ∙ is; slice_is = ap (λ (x : Entry). x.slice) (sym same) }
]

-- one entry less, which is no link
pub links_remove : (es : List Entry) (at : ℕ) → at < length es → ((u : ℕ) → (get_or es at any_entry).held ≢ Link u) → HasLinksOf (remove es at) es
links_remove es at within none j u lt is =
    let size = length-remove es at within in
    elim (cases_eq j at) [
      | inl here_is ↦ absurd (none u (ap (λ k. (get_or es k any_entry).held) (sym here_is) ∙ is))
      | inr other ↦ elim (cases_lt j at) [
        | inl below ↦ let same = get_or-remove_below es at any_entry j below within in
            record { slot = j; in_range = omega arith; is = ap (λ (x : Entry). x.held) same ∙ is; slice_is = ap (λ (x : Entry). x.slice) same }
        | inr above ↦
            let same : get_or (remove es at) (j - 1) any_entry ≡ get_or es j any_entry = subst (λ k. get_or (remove es at) (j - 1) any_entry ≡ get_or es k any_entry) {x = j - 1 + 1} (omega arith) (get_or-remove_above es at any_entry (j - 1) (omega arith) within) in
            record { slot = j - 1; in_range = omega arith; is = ap (λ (x : Entry). x.held) same ∙ is; slice_is = ap (λ (x : Entry). x.slice) same }
      ]
    ]

-- a slot taken out leaves no new link
pub links_remove_back : (es : List Entry) (at : ℕ) → at < length es → HasLinksOf es (remove es at)
links_remove_back es at within j u lt is =
    let size = length-remove es at within in
    elim (cases_lt j at) [
      | inl below ↦ let same = get_or-remove_below es at any_entry j below within in
          record { slot = j; in_range = omega arith; is = ap (λ (x : Entry). x.held) (sym same) ∙ is; slice_is = ap (λ (x : Entry). x.slice) (sym same) }
      | inr above ↦ let same = get_or-remove_above es at any_entry j (omega arith) within in
          record { slot = j + 1; in_range = omega arith; is = ap (λ (x : Entry). x.held) (sym same) ∙ is; slice_is = ap (λ (x : Entry). x.slice) (sym same) }
    ]

-- what a node that changes keeps of its links
pub record KeepsLinks (x y : NodeView) : Type 0 where
  pub tree : y.tree ≡ x.tree
  pub deleted : y.version.deleted ≡ x.version.deleted
  pub forth : HasLinksOf y.slots x.slots
  pub back : HasLinksOf x.slots y.slots

links_kept : (trees : List Tree) (x y : NodeView) → KeepsLinks x y → AreLinks trees x → AreLinks trees y
links_kept trees x y keeps links live i u lt is =
    let was = keeps.back i u lt is in
    let leads = links (sym keeps.deleted ∙ live) was.slot u was.in_range was.is in
    record {
      from = ap (λ t. (tree_at trees t).standing) keeps.tree ∙ leads.from;
      there = leads.there;
      live = leads.live;
      prefix =
          leads.prefix ∙ ap (λ s. (tree_at trees x.tree).prefix ++ piece_bytes s Long) was.slice_is ∙ ap (λ t. (tree_at trees t).prefix ++ piece_bytes (slot_at y i).slice Long) (sym keeps.tree);
    }

has_link_set : (xs : List NodeView) (i : ℕ) (y : NodeView) (u : ℕ) → i < length xs → KeepsLinks (node_at xs i) y → HasLink xs u → HasLink (set xs i y) u
has_link_set xs i y u within keeps h =
    let size = length-set xs i y in
    elim (cases_eq h.node i) [
      | inl is ↦
          let new = keeps.forth h.slot u (subst (λ k. h.slot < length (node_at xs k).slots) is h.in_range) (subst (λ k. (slot_at (node_at xs k) h.slot).held ≡ Link u) is h.is) in
          let at = here xs i y within in
          record {
            node = i;
            slot = new.slot;
            there = omega arith;
            live = ap (λ (n : NodeView). n.version.deleted) at ∙ keeps.deleted ∙ subst (λ k. (node_at xs k).version.deleted ≡ false) is h.live;
            in_range = subst (λ (n : NodeView). new.slot < length n.slots) (sym at) new.in_range;
            is = ap (λ (n : NodeView). (slot_at n new.slot).held) at ∙ new.is;
          }
      | inr other ↦
          let at = there xs i h.node y other in
          record {
            node = h.node;
            slot = h.slot;
            there = omega (arith, size, h.there);
            live = ap (λ (n : NodeView). n.version.deleted) at ∙ h.live;
            in_range = subst (λ (n : NodeView). h.slot < length n.slots) (sym at) h.in_range;
            is = ap (λ (n : NodeView). (slot_at n h.slot).held) at ∙ h.is;
          }
    ]

-- links and layers stand where one node changes and keeps its links
pub layers_set : (xs : List NodeView) (trees : List Tree) (i : ℕ) (y : NodeView) → i < length xs → AreLayered xs trees → KeepsLinks (node_at xs i) y
    → AreLayered (set xs i y) trees
layers_set xs trees i y within layers keeps = record {
  links = λ k lt. elim (cases_eq k i) [
    | inl is ↦ rw (is, here xs i y within) (links_kept trees (node_at xs i) y keeps (layers.links i within))
    | inr other ↦ rw (there xs i k y other) (layers.links k (omega (arith, lt, length-set xs i y)))
  ];
  linked = λ u lt live deep. has_link_set xs i y u within keeps (layers.linked u lt live deep);
}

-- a node without slots may change and be taken out as it likes
pub record HasNoSlots (x y : NodeView) : Type 0 where
  pub old : x.slots ≡ []
  pub new : y.slots ≡ []

-- a node without slots has no links
pub no_links : (trees : List Tree) (y : NodeView) → y.slots ≡ [] → AreLinks trees y
no_links trees y none live i u lt is = absurd (omega (arith, subst (λ (es : List Entry). i < length es) none lt))

-- and where the node has no slots before and after
pub layers_empty : (xs : List NodeView) (trees : List Tree) (i : ℕ) (y : NodeView) → i < length xs → AreLayered xs trees → HasNoSlots (node_at xs i) y
    → AreLayered (set xs i y) trees
layers_empty xs trees i y within layers empty = record {
  links = λ k lt. elim (cases_eq k i) [
    | inl is ↦ rw (is, here xs i y within) (no_links trees y empty.new)
    | inr other ↦ rw (there xs i k y other) (layers.links k (omega (arith, lt, length-set xs i y)))
  ];
  linked = λ u lt live deep.
      let h = layers.linked u lt live deep in
      elim (cases_eq h.node i) [
        | inl is ↦ absurd (omega (arith, subst (λ (es : List Entry). h.slot < length es) empty.old (subst (λ k. h.slot < length (node_at xs k).slots) is h.in_range)))
        | inr other ↦
            let at = there xs i h.node y other in
            record {
              node = h.node;
              slot = h.slot;
              there = omega (arith, length-set xs i y, h.there);
              live = ap (λ (n : NodeView). n.version.deleted) at ∙ h.live;
              in_range = subst (λ (n : NodeView). h.slot < length n.slots) (sym at) h.in_range;
              is = ap (λ (n : NodeView). (slot_at n h.slot).held) at ∙ h.is;
            }
      ];
}
