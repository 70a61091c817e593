-- The lines of a node: its own, and those of its children, one after the other. And which trees have lines: the live ones, each once, since
-- no two of them have one prefix. For `push_node`, `live_trees`, `shape_of` and the `Display`s of separators and prefixes.
use Rattle.std.proofs.Common.{◌≡◌, ◌≢◌, ℕ, zero, suc, ◌+◌, ◌-◌, ◌<◌, Bool, true, false, List, [], ◌∷◌, ◌++◌, length, map, take, get_or, Bor, refl, sym, ap, subst, ◌∙◌, arith}
use Rattle.std.proofs.lemmas.Cmp.{eq_by_cmp_equiv, nat_cmp_total, nat_list_cmp_total, on_total, then_total}
use Rattle.std.proofs.{lemmas.List.{take_more, flat_map_more, get_or-map, get_or_default, length-map}, lemmas.List.Elements.{All-filter, filter_passes}}
use Rattle.std.proofs.{lemmas.List.Kept.AllPairs-filter, lemmas.List.Sorted.{All-permutation, IsPermutation-map}}
use Rattle.std.proofs.{lemmas.Map.Keys.{IsDistinct-from_apart, IsDistinct-IsPermutation, apart_from_distinct, sorted_from_all_adjacent}, lemmas.Simd.map-map}
use Rattle.std.specs.{List.{All, AllPairs, IsDistinct, filter, flat_map}, List.Sorted.{IsPermutation, IsSortedByKey, IsStrictlySortedBy}}
use Rattle.std.specs.{Ordering.{eq_by_cmp, is_eq, is_lt, nat_cmp, ordering_reverse, ordering_then}, declared.cmp.Ordering.Ordering}
use Rattle.std.specs.{declared.cmp.Ordering.TheVariants.{Less, Equal, Greater}, Cmp.IsTotalOrder, Cmp.Lexicographic.{slice_cmp, same_text, texts_ties}}
use Rattle.mt_arena.specs.{declared.tree.Tree.Tree, declared.tree.Standing.Standing, declared.tree.Standing.TheVariants.{Made, Live, Dead}}
use Rattle.mt_arena.specs.{Arena.{ArenaView, IsArena}, Contents.is_live, Forests.{IsRoot, no_tree, tree_at}, Accesses.at}
use Rattle.mt_core.specs.{declared.shape.ShapeLine.TheVariants.Interior, Shapes.{HasLiveRoot, IsListing, lines_from, prefix_cmp}}

-- what comes of the elements so far and of the next one
pub next_piece : {X A : Type 0} (f : X → List A) (xs : List X) (i : ℕ) (d : X) → i < length xs
    → flat_map f (take i xs) ++ f (get_or xs i d) ≡ flat_map f (take (i + 1) xs)
next_piece f xs i d lt = flat_map_more f [] (take i xs) (get_or xs i d) ∙ ap (flat_map f) (sym (take_more xs i d lt))

-- an interior node's line, and those of its children
pub lines_above : (v : ArenaView) (level depth k : ℕ) (below : List ℕ) → level ≢ 0 → below ≡ (at v k).children
    → Interior depth (at v k).separators ∷ flat_map (lines_from (level - 1) v (depth + 1)) below ≡ lines_from level v depth k
lines_above v zero depth k below above are = absurd (above refl)
lines_above v (suc level) depth k below above are =
    let less : suc level - 1 ≡ level = omega arith in
    ap (λ m. Interior depth (at v k).separators ∷ flat_map (lines_from m v (depth + 1)) below) less
    ∙ ap (λ ks. Interior depth (at v k).separators ∷ flat_map (lines_from level v (depth + 1)) ks) are

-- the order of prefixes is total
pub prefix_cmp_total : IsTotalOrder prefix_cmp
prefix_cmp_total = then_total (on_total length nat_cmp_total) nat_list_cmp_total

second_ties : (o p : Ordering) → is_eq (ordering_then o p) ≡ true → is_eq p ≡ true
second_ties Less p tie = absurd cc
second_ties Equal p tie = tie
second_ties Greater p tie = absurd cc

-- prefixes that tie are one
same_prefix : (one other : List ℕ) → is_eq (prefix_cmp one other) ≡ true → one ≡ other
same_prefix one other tie =
    same_text one other (sym (texts_ties one other ∙ second_ties (nat_cmp (length one) (length other)) (slice_cmp nat_cmp one other) tie))

refuted : (b : Bool) → (b ≢ true) → b ≡ false
refuted true differs = absurd (differs refl)
refuted false differs = refl

-- what is not after another, and does not tie with it, is before it
before : (o p : Ordering) → o ≡ ordering_reverse p → is_lt p ≡ false → is_eq o ≡ false → o ≡ Less
before o Less turned after apart = absurd cc
before o Equal turned after apart = absurd (let tie = ap is_eq turned in cc)
before o Greater turned after apart = turned

-- what is sorted by prefixes that differ rises strictly
rises : {X : Type 0} (prefix : X → List ℕ) (xs : List X) (d : X) → IsDistinct (eq_by_cmp prefix_cmp) (map prefix xs)
    → IsSortedByKey prefix prefix_cmp xs → IsStrictlySortedBy prefix_cmp (map prefix xs)
rises prefix xs d apart sorted =
    sorted_from_all_adjacent prefix_cmp_total (map prefix xs) [] (λ k lt.
    let there : k + 1 < length xs = rw length-map at lt in
    let here : k < length xs = omega arith in
    let next = get_or-map prefix xs (k + 1) d [] there in
    let this = get_or-map prefix xs k d [] here in
    let after = sorted k d (omega arith) there in
    let differ = apart_from_distinct (eq_by_cmp prefix_cmp) (map prefix xs) k (k + 1) [] apart (omega arith) lt in
    rw (next, this) (before _ _ (prefix_cmp_total.antisymm (prefix (get_or xs k d)) (prefix (get_or xs (k + 1) d))) after (rw (next, this) at differ)))

-- the live ones of these trees
abbrev pub live_of : List Tree → List Tree
live_of trees = filter (λ t. is_live t.standing) trees

is_live_as : (s : Standing) → is_live s ≡ true → s ≡ Live
is_live_as (Made by) counts = absurd cc
is_live_as Live counts = refl
is_live_as Dead counts = absurd cc

all_live : (trees : List Tree) → All (λ t. t.standing ≡ Live) (live_of trees)
all_live trees k d there = is_live_as _ (filter_passes (λ t. is_live t.standing) trees k d there)

-- where both are live, their prefixes differ
abbrev Differ : Tree → Tree → Type 0
Differ t u = t.standing ≡ Live → u.standing ≡ Live → t.prefix ≢ u.prefix

module _ (v : ArenaView) (arena : IsArena v.nodes v.trees) where
  all_differ : AllPairs Differ v.trees
  all_differ i j d lt below =
      let first : i < length v.trees = omega arith in
      let apart : i ≢ j = λ same. omega (arith, same) in
      let differ : Differ (tree_at v.trees i) (tree_at v.trees j) = (arena.forest.peers i j first below).one_live apart in
      subst (λ t. Differ t (get_or v.trees j d)) (get_or_default v.trees i no_tree d first) (subst (λ t. Differ (tree_at v.trees i) t) (get_or_default v.trees j no_tree d below) differ)

  prefixes_differ : IsDistinct (eq_by_cmp prefix_cmp) (map (λ t. t.prefix) (live_of v.trees))
  prefixes_differ = IsDistinct-from_apart (eq_by_cmp prefix_cmp) (map (λ t. t.prefix) (live_of v.trees)) (λ i j d lt below.
      let second : j < length (live_of v.trees) = rw length-map at below in
      let first : i < length (live_of v.trees) = omega arith in
      let differ = AllPairs-filter Differ (λ t. is_live t.standing) v.trees all_differ i j no_tree lt second (all_live v.trees i no_tree first) (all_live v.trees j no_tree second) in
      rw (get_or-map (λ (t : Tree). t.prefix) (live_of v.trees) i no_tree d first, get_or-map (λ (t : Tree). t.prefix) (live_of v.trees) j no_tree d second) (refuted _ (λ tie. differ (same_prefix _ _ tie))))

  -- the live trees, once they are sorted by their prefixes
  pub listing : (listed : List (Bor Tree)) → IsPermutation (live_of v.trees) (map (λ t. t.now) listed)
      → IsSortedByKey (λ t. t.now.prefix) prefix_cmp listed → IsListing v.trees (map (λ t. t.now) listed)
  listing listed moved sorted =
      let prefixes : map (λ (t : Tree). t.prefix) (map (λ (t : Bor Tree). t.now) listed) ≡ map (λ (t : Bor Tree). t.now.prefix) listed = map-map (λ (t : Tree). t.prefix) (λ (t : Bor Tree). t.now) listed in
      let apart = IsDistinct-IsPermutation (eq_by_cmp prefix_cmp) (eq_by_cmp_equiv prefix_cmp_total).symm _ _ (IsPermutation-map (λ (t : Tree). t.prefix) _ _ moved) prefixes_differ in
      record {
        live = moved;
        rising =
            subst (IsStrictlySortedBy prefix_cmp) (sym prefixes) (rises (λ (t : Bor Tree). t.now.prefix) listed (record { ref_ptr = (0, 0); now = no_tree }) (subst (IsDistinct (eq_by_cmp prefix_cmp)) prefixes apart) sorted);
      }

  live_roots : All (λ t. t.standing ≡ Live → HasLiveRoot v t) v.trees
  live_roots k d lt live =
      let same = get_or_default v.trees k no_tree d lt in
      let standing : (tree_at v.trees k).standing ≡ Live = ap (λ (t : Tree). t.standing) same ∙ live in
      let r : ℕ = (tree_at v.trees k).root in
      let there = (arena.forest.each k lt).root_there in
      let root : IsRoot (at v r) = (arena.forest.homes r k there lt).root_is refl (λ dead. absurd (let is = standing in cc)) in
      subst (HasLiveRoot v) same (record { there = there; live = root.live })

  -- each of the listed trees has its root
  pub root_of : (listed : List (Bor Tree)) → IsListing v.trees (map (λ t. t.now) listed) → (i : ℕ) (d : Bor Tree) → i < length listed
      → HasLiveRoot v (get_or listed i d).now
  root_of listed list i d lt =
      let live : All (HasLiveRoot v) (live_of v.trees) = λ k e there. All-filter (λ t. is_live t.standing) (λ t. t.standing ≡ Live → HasLiveRoot v t) v.trees live_roots k e there (all_live v.trees k e there) in
      let each = All-permutation (HasLiveRoot v) _ _ list.live live in
      subst (HasLiveRoot v) (get_or-map (λ (t : Bor Tree). t.now) listed i d d.now lt) (each i d.now (rw length-map lt))
