-- The whole invariant, the guarantee and the contents where a right half is made: for `begin_split`.
use Rattle.std.proofs.Common.{◌≡◌, ℕ, ◌+◌, ◌<◌, ◌≤◌, List, [], ◌∷◌, ◌++◌, length, set, false, Some, refl, sym, ap, subst, ◌∙◌, inl, inr, arith, length-append}
use Rattle.std.proofs.{lemmas.Bool.cases_eq, lemmas.List.length-set, lemmas.Option.same_Some}
use Rattle.mt_rows.specs.Rows.{Bytes}
use Rattle.mt_border.specs.declared.entry.Entry.{Entry}
use Rattle.mt_arena.specs.{declared.tree.Tree.Tree, declared.tree.Standing.TheVariants.Made, Idle.{RetiredPlaces, Rooms}, NodeView.{NodeView, node_at}}
use Rattle.mt_arena.specs.{Forests.{IsForest, HaveKeys, HasSlice, tree_at}, Layers.{AreLayered, HasLink, slot_at}, Nodes.HasRange}
use Rattle.mt_arena.specs.{Guarantee.{NodesGuarantee, PointsOnly}, Edits.{splitting, fresh_half}, Contents.content}
use Rattle.mt_arena.specs.{Invariant.ArenaInvariant, Arena.{ArenaView, Guarantee}, Accesses.{at, IsOpen, with_half}}
use Rattle.mt_arena.proofs.{Pairs.{here, last, before}, Push.nodes_half, RangedEdits.ranged_half, Homes.forest_push}
use Rattle.mt_arena.proofs.{LinkEdits.no_links, Retiring.retired_push, NamedLate.named_push}
use Rattle.mt_arena.proofs.Guarantees.{guarantee_on, guarantee_set, guarantee_push, points_set, points_push, lost_none, lost_set, lost_push}
use Rattle.mt_arena.proofs.{ContentQuiet.{content-set, stands_pushed}, Locks.{is_held, sound_splitting, changes_splitting}}
use Rattle.mt_arena.proofs.Naming.{points_on}

-- a link stays where a node is added
has_link_push : (xs : List NodeView) (y : NodeView) (u : ℕ) → HasLink xs u → HasLink (xs ++ y ∷ []) u
has_link_push xs y u h =
    let at = before xs y h.node h.there in
    record {
      node = h.node;
      slot = h.slot;
      there = omega (arith, length-append xs (y ∷ []), h.there);
      live = ap (λ (n : NodeView). n.version.deleted) at ∙ h.live;
      in_range = subst (λ (n : NodeView). h.slot < length n.slots) (sym at) h.in_range;
      is = ap (λ (n : NodeView). (slot_at n h.slot).held) at ∙ h.is;
    }

-- one more node without slots leaves links and layers
pub layers_push : (xs : List NodeView) (trees : List Tree) (y : NodeView) → y.slots ≡ [] → AreLayered xs trees → AreLayered (xs ++ y ∷ []) trees
layers_push xs trees y none layers = record {
  links = λ k lt. elim (cases_eq k (length xs)) [
    | inl is ↦ rw (is, last xs y) (no_links trees y none)
    | inr other ↦ rw (before xs y k (omega (arith, lt, other, length-append xs (y ∷ [])))) (layers.links k (omega (arith, lt, other, length-append xs (y ∷ []))))
  ];
  linked = λ u lt live deep. has_link_push xs y u (layers.linked u lt live deep);
}

-- no keys are keys of any tree
pub no_keys : (prefix : Bytes) (slots : List Entry) → slots ≡ [] → HaveKeys prefix slots
no_keys prefix slots none = subst (HaveKeys prefix) (sym none) record { keys = λ k d inside. absurd (omega arith); begun = λ k d inside. absurd (omega arith) }

-- a right half more, beside a live border node that is marked
module _ (xs : List NodeView) (i low op : ℕ) (within : i < length xs) (held : (node_at xs i).holder ≡ Some op) (live : (node_at xs i).version.deleted ≡ false) (level : (node_at xs i).level ≡ 0) where
  abbrev m : NodeView
  m = splitting (node_at xs i)

  abbrev ys : List NodeView
  ys = set xs i m

  abbrev half : NodeView
  half = fresh_half (node_at xs i) i low op

  size_y : length ys ≡ length xs
  size_y = length-set xs i m

  at_m : node_at ys i ≡ m
  at_m = here xs i m within

  pub sound_half : (trees : List Tree) (gone : RetiredPlaces) (room more : Rooms) → ArenaInvariant xs trees gone room → length xs + 1 ≤ more.nodes → length trees ≤ more.trees
      → HasRange (node_at xs i) → HasSlice (tree_at trees (node_at xs i).tree).prefix low → ArenaInvariant (ys ++ half ∷ []) trees gone more
  sound_half trees gone room more sound enough trees_enough range begins =
      let marked = sound_splitting xs trees gone room i within sound (is_held op (node_at xs i) held) in
      let forest = marked.arena.forest in
      let x = node_at xs i in
      let there_is = sound.arena.forest.tree_there i within in
      record {
        arena = record {
          nodes = nodes_half ys x i low op (omega (arith, within, size_y)) (rw at_m (is_held op x held)) level marked.arena.nodes;
          ranged = ranged_half xs i low op within marked.arena.nodes sound.arena.ranged live level range held;
          forest =
              forest_push ys trees half forest there_is ((sound.arena.forest.homes i x.tree within there_is).standing refl live) refl (no_keys (tree_at trees x.tree).prefix [] refl, λ out. refl) (λ _ border over. begins);
          layers = layers_push ys trees half refl marked.arena.layers;
        };
        retired = retired_push ys trees gone half marked.retired refl;
        named = named_push ys trees gone half marked.retired marked.named;
        enough = omega (arith, length-append ys (half ∷ []), size_y, enough);
        trees_enough = trees_enough;
      }

  -- the guarantee: of nodes and trees, and of who names whom
  pub guarantee_half : (trees : List Tree) → IsForest xs trees → ((q : ℕ) → (tree_at trees (node_at xs i).tree).standing ≡ Made q → q ≡ op)
      → NodesGuarantee op xs (ys ++ half ∷ []) trees trees
  guarantee_half trees forest mine =
      guarantee_on op xs ys (ys ++ half ∷ []) trees trees trees
      (guarantee_set op xs trees i m within (changes_splitting op (node_at xs i) held) mine)
      (guarantee_push op ys trees half mine (λ q other e. other (same_Some q op (sym e)))) forest.tree_there

  pub points_half : PointsOnly op xs (ys ++ half ∷ [])
  points_half =
      let pushed = points_push op ys half (λ j lt e. ap (λ k. (node_at ys k).holder) (sym (same_Some _ _ e)) ∙ ap (λ (n : NodeView). n.holder) at_m ∙ held) refl in
      points_on op xs ys (ys ++ half ∷ []) (omega (arith, size_y))
      (points_set op xs i m within (record { previous = λ j e not_mine. e; parent = λ j e not_mine. e })) pushed
      (λ j lt mine. ap (λ (n : NodeView). n.holder) (before ys half j lt) ∙ mine)

  pub content_half : (trees : List Tree) → content trees (ys ++ half ∷ []) ≡ content trees xs
  content_half trees = stands_pushed trees ys half refl ∙ content-set trees xs i m refl

-- what the start of a border split leaves to others
pub step_half : (v : ArenaView) (room : Rooms) (i low op : ℕ) → i < length v.nodes → (at v i).holder ≡ Some op → (at v i).version.deleted ≡ false
    → (at v i).level ≡ 0 → ArenaInvariant v.nodes v.trees v.retired room → IsOpen v i op → Guarantee op v (with_half v i low op)
step_half v room i low op within held live level sound mine = record {
  nodes = guarantee_half v.nodes i low op within held live level v.trees sound.arena.forest mine;
  points = points_half v.nodes i low op within held live level;
  lost = lost_push v.nodes (set v.nodes i (splitting (at v i))) (fresh_half (at v i) i low op) (omega (arith, length-set v.nodes i (splitting (at v i)))) (lost_set v.nodes i (splitting (at v i)) within (lost_none (at v i)));
}
