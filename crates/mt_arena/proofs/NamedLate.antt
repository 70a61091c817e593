-- What nodes and trees that were taken out name is there, or was taken out no earlier: for the invariant of every call.
use Rattle.std.proofs.Common.{◌≡◌, ◌≢◌, ℕ, suc, ◌<◌, ◌≤◌, List, [], ◌∷◌, ◌++◌, length, set, Bool, true, false, refl, sym, ap, subst, ◌∙◌, inl, inr, arith}
use Rattle.std.proofs.{lemmas.Bool.cases_eq, lemmas.List.{get_or-set_same, get_or-set_other}}
use Rattle.std.specs.Prelude.{◌&&◌, ◌==◌, not, slice_index}
use Rattle.mt_arena.specs.{declared.retired.Retired.Retired, declared.tree.Tree.Tree, declared.tree.Standing.Standing, declared.tree.Standing.TheVariants.{Made, Live, Dead}}
use Rattle.mt_arena.specs.{NodeView.{NodeView, node_at}, Nodes.AreNodes, Forests.{tree_at, no_tree}}
use Rattle.mt_arena.specs.Idle.{RetiredPlaces, AreRetired, no_places, has_ended, is_idle_border, is_idle_interior, place_of_idle, with_retired, with_border, with_interior, with_tree, all_out_at}
use Rattle.mt_arena.specs.Given.{step_of_idle, IsNodeOutFrom, NamesNode, NameLater, IsNamedLate, AreOutUpTo}
use Rattle.mt_arena.proofs.{Pairs.{here, there, before}, Trees.before_tree}
use Rattle.mt_arena.proofs.Out.{last_or_before, place_before, step_before, place_last, step_last, node_out_border, node_out_interior, node_out_border_given, node_out_interior_given, node_out_anew, step_anew}

-- the node names to its readers what it named
pub record KeepsNames (x y : NodeView) : Type 0 where
  pub next : y.next ≡ x.next
  pub children : y.children ≡ x.children

pub names_stand : (x : NodeView) → KeepsNames x x
names_stand x = record { next = refl; children = refl }

names_back : (x y : NodeView) (k : ℕ) → KeepsNames x y → NamesNode y k → NamesNode x k
names_back x y k same (inl next) = inl (sym same.next ∙ next)
names_back x y k same (inr child) = inr (subst (λ (cs : List ℕ). (i : ℕ) × (i < length cs) × (slice_index cs i ≡ k)) same.children child)

-- so does each node that was taken out, and each dead tree has the root that it had
pub record KeepNamesOut (xs ys : List NodeView) (were are : List Tree) : Type 0 where
  pub nodes : (k : ℕ) → k < length xs → (node_at xs k).version.deleted ≡ true → KeepsNames (node_at xs k) (node_at ys k)
  pub trees : (t : ℕ) → t < length were → (tree_at were t).standing ≡ Dead → (tree_at are t).root ≡ (tree_at were t).root

-- an idle node was taken out, and an idle tree is dead
first_true : (a b : Bool) → (a && b) ≡ true → a ≡ true
first_true true b both = refl
first_true false b both = absurd (cc)

pub border_out : (n : NodeView) → is_idle_border n ≡ true → n.version.deleted ≡ true
border_out n idle = first_true n.version.deleted (n.level == 0) idle

pub interior_out : (n : NodeView) → is_idle_interior n ≡ true → n.version.deleted ≡ true
interior_out n idle = first_true n.version.deleted (not (n.level == 0)) idle

pub ended_dead : (s : Standing) → has_ended s ≡ true → s ≡ Dead
ended_dead (Made q) ended = absurd (cc)
ended_dead Live ended = absurd (cc)
ended_dead Dead ended = refl

-- where the lists stand and what was taken out keeps its names, what it names is late as before
pub named_kept : (xs ys : List NodeView) (were are : List Tree) (gone : RetiredPlaces) → AreRetired xs were gone → KeepNamesOut xs ys were are
    → IsNamedLate xs were gone → IsNamedLate ys are gone
named_kept xs ys were are gone listed keeps named = record {
  of_borders = λ i k lt names.
      let p = place_of_idle gone.borders i in
      named.of_borders i k lt (names_back (node_at xs p) (node_at ys p) k (keeps.nodes p (listed.of_borders.there i lt) (border_out (node_at xs p) (listed.of_borders.idle_there i lt))) names);
  of_interiors = λ i k lt names.
      let p = place_of_idle gone.interiors i in
      named.of_interiors i k lt (names_back (node_at xs p) (node_at ys p) k (keeps.nodes p (listed.of_interiors.there i lt) (interior_out (node_at xs p) (listed.of_interiors.idle_there i lt))) names);
  of_trees = λ i lt.
      let t = place_of_idle gone.trees i in
      subst (IsNodeOutFrom (step_of_idle gone.trees i) gone) (sym (keeps.trees t (listed.of_trees.there i lt) (ended_dead (tree_at were t).standing (listed.of_trees.idle_there i lt)))) (named.of_trees i lt);
}

-- a node changes, which is live or keeps its names; and a tree, which isn't dead or keeps its root
pub names_set : (xs : List NodeView) (i : ℕ) (y : NodeView) → i < length xs → ((node_at xs i).version.deleted ≡ true → KeepsNames (node_at xs i) y)
    → (k : ℕ) → (node_at xs k).version.deleted ≡ true → KeepsNames (node_at xs k) (node_at (set xs i y) k)
names_set xs i y within keeps k = elim (cases_eq k i) [
  | inl is ↦ rw (is, here xs i y within) keeps
  | inr other ↦ rw (there xs i k y other) (λ out. names_stand (node_at xs k))
]

pub roots_set : (trees : List Tree) (t : ℕ) (u : Tree) → t < length trees → ((tree_at trees t).standing ≡ Dead → u.root ≡ (tree_at trees t).root)
    → (s : ℕ) → (tree_at trees s).standing ≡ Dead → (tree_at (set trees t u) s).root ≡ (tree_at trees s).root
roots_set trees t u within keeps s = elim (cases_eq s t) [
  | inl is ↦ rw (is, get_or-set_same trees t u no_tree within) keeps
  | inr other ↦ rw (get_or-set_other trees t s u no_tree other) (λ dead. refl)
]

pub named_set : (xs : List NodeView) (trees : List Tree) (gone : RetiredPlaces) (i : ℕ) (y : NodeView) → i < length xs → AreRetired xs trees gone
    → ((node_at xs i).version.deleted ≡ true → KeepsNames (node_at xs i) y) → IsNamedLate xs trees gone → IsNamedLate (set xs i y) trees gone
named_set xs trees gone i y within listed keeps =
    named_kept xs (set xs i y) trees trees gone listed (record { nodes = λ k lt. names_set xs i y within keeps k; trees = λ t lt dead. refl })

pub named_tree_set : (xs : List NodeView) (trees : List Tree) (gone : RetiredPlaces) (t : ℕ) (u : Tree) → t < length trees → AreRetired xs trees gone
    → ((tree_at trees t).standing ≡ Dead → u.root ≡ (tree_at trees t).root) → IsNamedLate xs trees gone → IsNamedLate xs (set trees t u) gone
named_tree_set xs trees gone t u within listed keeps =
    named_kept xs xs trees (set trees t u) gone listed (record { nodes = λ k lt out. names_stand (node_at xs k); trees = λ s lt. roots_set trees t u within keeps s })

-- a node more, and a tree more
pub named_push : (xs : List NodeView) (trees : List Tree) (gone : RetiredPlaces) (y : NodeView) → AreRetired xs trees gone → IsNamedLate xs trees gone
    → IsNamedLate (xs ++ y ∷ []) trees gone
named_push xs trees gone y listed =
    named_kept xs (xs ++ y ∷ []) trees trees gone listed (record { nodes = λ k lt out. rw (before xs y k lt) (names_stand (node_at xs k)); trees = λ t lt dead. refl })

pub named_tree_push : (xs : List NodeView) (trees : List Tree) (gone : RetiredPlaces) (u : Tree) → AreRetired xs trees gone → IsNamedLate xs trees gone
    → IsNamedLate xs (trees ++ u ∷ []) gone
named_tree_push xs trees gone u listed =
    named_kept xs xs trees (trees ++ u ∷ []) gone listed (record { nodes = λ k lt out. names_stand (node_at xs k); trees = λ t lt dead. ap (λ (w : Tree). w.root) (before_tree trees u t lt) })

-- a live node is in no list, and so is what it names to its readers
pub live_out : (xs : List NodeView) (trees : List Tree) (gone : RetiredPlaces) (step k : ℕ) → AreRetired xs trees gone → (node_at xs k).version.deleted ≡ false
    → IsNodeOutFrom step gone k
live_out xs trees gone step k listed live = record {
  border = λ i lt is. absurd (both k is (border_out (node_at xs (place_of_idle gone.borders i)) (listed.of_borders.idle_there i lt)) live);
  interior = λ i lt is. absurd (both k is (interior_out (node_at xs (place_of_idle gone.interiors i)) (listed.of_interiors.idle_there i lt)) live);
}
  where
    both : {p : ℕ} (k : ℕ) → p ≡ k → (node_at xs p).version.deleted ≡ true → (node_at xs k).version.deleted ≡ false → ⊥
    both k same out live = let at = sym out ∙ ap (λ j. (node_at xs j).version.deleted) same ∙ live in cc

pub named_live : (xs : List NodeView) (trees : List Tree) (gone : RetiredPlaces) (step p : ℕ) → p < length xs → AreNodes xs → AreRetired xs trees gone
    → (node_at xs p).version.deleted ≡ false → (k : ℕ) → NamesNode (node_at xs p) k → IsNodeOutFrom step gone k
named_live xs trees gone step p there_p nodes listed live k (inl next) =
    let there_k = (nodes.each p there_p).names.next k next in
    live_out xs trees gone step k listed (((nodes.pairs p k there_p there_k).next live next).live live)
named_live xs trees gone step p there_p nodes listed live k (inr child) =
    let there_k = subst (λ c. c < length xs) child.2 ((nodes.each p there_p).names.children child.0 child.1) in
    live_out xs trees gone step k listed ((nodes.pairs p k there_p there_k).child child.0 child.1 child.2 live).live

-- a step takes one more out, which names what is late enough
name_later : (step : ℕ) (nodes : List NodeView) (gone more : RetiredPlaces) (list : List Retired) → ((i : ℕ) → i < length list → step_of_idle list i ≤ step)
    → ((from k : ℕ) → from ≤ step → IsNodeOutFrom from gone k → IsNodeOutFrom from more k) → NameLater nodes gone list → NameLater nodes more list
name_later step nodes gone more list upto on later i k lt names = on (step_of_idle list i) k (upto i lt) (later i k lt names)

name_more : (step : ℕ) (nodes : List NodeView) (more : RetiredPlaces) (list : List Retired) (place : ℕ) → NameLater nodes more list
    → ((k : ℕ) → NamesNode (node_at nodes place) k → IsNodeOutFrom step more k) → NameLater nodes more (with_retired list place step)
name_more step nodes more list place later late i k lt names = elim (last_or_before list place step i lt) [
  | inl last ↦
      subst (λ from. IsNodeOutFrom from more k) (sym (step_last list place step i last)) (late k (subst (λ p. NamesNode (node_at nodes p) k) (place_last list place step i last) names))
  | inr was ↦
      subst (λ from. IsNodeOutFrom from more k) (sym (step_before list place step i was)) (later i k was (subst (λ p. NamesNode (node_at nodes p) k) (place_before list place step i was) names))
]

pub named_border : (nodes : List NodeView) (trees : List Tree) (gone : RetiredPlaces) (node step : ℕ) → AreOutUpTo step gone
    → ((k : ℕ) → NamesNode (node_at nodes node) k → IsNodeOutFrom step gone k) → IsNamedLate nodes trees gone → IsNamedLate nodes trees (with_border gone node step)
named_border nodes trees gone node step upto late named =
    let more = with_border gone node step in
    let on : (from k : ℕ) → from ≤ step → IsNodeOutFrom from gone k → IsNodeOutFrom from more k = λ from k. node_out_border from gone node step k in
    record {
      of_borders = name_more step nodes more gone.borders node (name_later step nodes gone more gone.borders upto.borders.upto on named.of_borders) (λ k names. on step k (omega arith) (late k names));
      of_interiors = name_later step nodes gone more gone.interiors upto.interiors.upto on named.of_interiors;
      of_trees = λ i lt. on (step_of_idle gone.trees i) (tree_at trees (place_of_idle gone.trees i)).root (upto.trees.upto i lt) (named.of_trees i lt);
    }

pub named_interior : (nodes : List NodeView) (trees : List Tree) (gone : RetiredPlaces) (node step : ℕ) → AreOutUpTo step gone
    → ((k : ℕ) → NamesNode (node_at nodes node) k → IsNodeOutFrom step gone k) → IsNamedLate nodes trees gone → IsNamedLate nodes trees (with_interior gone node step)
named_interior nodes trees gone node step upto late named =
    let more = with_interior gone node step in
    let on : (from k : ℕ) → from ≤ step → IsNodeOutFrom from gone k → IsNodeOutFrom from more k = λ from k. node_out_interior from gone node step k in
    record {
      of_borders = name_later step nodes gone more gone.borders upto.borders.upto on named.of_borders;
      of_interiors = name_more step nodes more gone.interiors node (name_later step nodes gone more gone.interiors upto.interiors.upto on named.of_interiors) (λ k names. on step k (omega arith) (late k names));
      of_trees = λ i lt. on (step_of_idle gone.trees i) (tree_at trees (place_of_idle gone.trees i)).root (upto.trees.upto i lt) (named.of_trees i lt);
    }

pub named_tree : (nodes : List NodeView) (trees : List Tree) (gone : RetiredPlaces) (tree step : ℕ) → IsNodeOutFrom step gone (tree_at trees tree).root
    → IsNamedLate nodes trees gone → IsNamedLate nodes trees (with_tree gone tree step)
named_tree nodes trees gone tree step late named =
    let more = with_tree gone tree step in
    let on : (from k : ℕ) → IsNodeOutFrom from gone k → IsNodeOutFrom from more k = λ from k out. record { border = out.border; interior = out.interior } in
    record {
      of_borders = λ i k lt names. on (step_of_idle gone.borders i) k (named.of_borders i k lt names);
      of_interiors = λ i k lt names. on (step_of_idle gone.interiors i) k (named.of_interiors i k lt names);
      of_trees = λ i lt. elim (last_or_before gone.trees tree step i lt) [
        | inl last ↦ rw (step_last gone.trees tree step i last, place_last gone.trees tree step i last) (on step (tree_at trees tree).root late)
        | inr was ↦
            rw (step_before gone.trees tree step i was, place_before gone.trees tree step i was)
            (on (step_of_idle gone.trees i) (tree_at trees (place_of_idle gone.trees i)).root (named.of_trees i was))
      ];
    }

-- the place of a border node is given out: nothing that is out has changed but that
border_apart : (n : NodeView) → is_idle_border n ≡ true → is_idle_interior n ≡ true → ⊥
border_apart n border interior = by n.version.deleted (n.level == 0) border interior
  where
    by : (a b : Bool) → (a && b) ≡ true → (a && not b) ≡ true → ⊥
    by true true one two = absurd (cc)
    by true false one two = absurd (cc)
    by false b one two = absurd (cc)

pub named_border_given : (xs : List NodeView) (trees : List Tree) (gone : RetiredPlaces) (r : Retired) (rest : List Retired) (y : NodeView)
    → AreRetired xs trees (record gone { borders = r ∷ rest }) → IsNamedLate xs trees (record gone { borders = r ∷ rest })
    → IsNamedLate (set xs r.place y) trees (record gone { borders = rest })
named_border_given xs trees gone r rest y listed named =
    let less : (from k : ℕ) → IsNodeOutFrom from (record gone { borders = r ∷ rest }) k → IsNodeOutFrom from (record gone { borders = rest }) k = λ from k. node_out_border_given from gone r rest k in
    let apart : (i : ℕ) → i < length rest → place_of_idle rest i ≢ r.place = λ i lt is. listed.of_borders.once 0 (suc i) (omega arith) (omega (arith, lt)) (sym is) in
    let other : (i : ℕ) → i < length gone.interiors → place_of_idle gone.interiors i ≢ r.place = λ i lt is.
    border_apart (node_at xs r.place) (listed.of_borders.idle_there 0 (omega arith)) (subst (λ p. is_idle_interior (node_at xs p) ≡ true) is (listed.of_interiors.idle_there i lt)) in
    record {
      of_borders = λ i k lt names.
          less (step_of_idle rest i) k (named.of_borders (suc i) k (omega (arith, lt)) (subst (λ (n : NodeView). NamesNode n k) (there xs r.place (place_of_idle rest i) y (apart i lt)) names));
      of_interiors = λ i k lt names.
          less (step_of_idle gone.interiors i) k (named.of_interiors i k lt (subst (λ (n : NodeView). NamesNode n k) (there xs r.place (place_of_idle gone.interiors i) y (other i lt)) names));
      of_trees = λ i lt. less (step_of_idle gone.trees i) (tree_at trees (place_of_idle gone.trees i)).root (named.of_trees i lt);
    }

-- so is that of an interior node
pub named_interior_given : (xs : List NodeView) (trees : List Tree) (gone : RetiredPlaces) (r : Retired) (rest : List Retired) (y : NodeView)
    → AreRetired xs trees (record gone { interiors = r ∷ rest }) → IsNamedLate xs trees (record gone { interiors = r ∷ rest })
    → IsNamedLate (set xs r.place y) trees (record gone { interiors = rest })
named_interior_given xs trees gone r rest y listed named =
    let less : (from k : ℕ) → IsNodeOutFrom from (record gone { interiors = r ∷ rest }) k → IsNodeOutFrom from (record gone { interiors = rest }) k = λ from k. node_out_interior_given from gone r rest k in
    let apart : (i : ℕ) → i < length rest → place_of_idle rest i ≢ r.place = λ i lt is. listed.of_interiors.once 0 (suc i) (omega arith) (omega (arith, lt)) (sym is) in
    let other : (i : ℕ) → i < length gone.borders → place_of_idle gone.borders i ≢ r.place = λ i lt is.
    border_apart (node_at xs r.place) (subst (λ p. is_idle_border (node_at xs p) ≡ true) is (listed.of_borders.idle_there i lt)) (listed.of_interiors.idle_there 0 (omega arith)) in
    record {
      of_borders = λ i k lt names.
          less (step_of_idle gone.borders i) k (named.of_borders i k lt (subst (λ (n : NodeView). NamesNode n k) (there xs r.place (place_of_idle gone.borders i) y (other i lt)) names));
      of_interiors = λ i k lt names.
          less (step_of_idle rest i) k (named.of_interiors (suc i) k (omega (arith, lt)) (subst (λ (n : NodeView). NamesNode n k) (there xs r.place (place_of_idle rest i) y (apart i lt)) names));
      of_trees = λ i lt. less (step_of_idle gone.trees i) (tree_at trees (place_of_idle gone.trees i)).root (named.of_trees i lt);
    }

-- and a tree's record
pub named_tree_given : (xs : List NodeView) (trees : List Tree) (gone : RetiredPlaces) (r : Retired) (rest : List Retired) (u : Tree)
    → AreRetired xs trees (record gone { trees = r ∷ rest }) → IsNamedLate xs trees (record gone { trees = r ∷ rest })
    → IsNamedLate xs (set trees r.place u) (record gone { trees = rest })
named_tree_given xs trees gone r rest u listed named =
    let still : (from k : ℕ) → IsNodeOutFrom from (record gone { trees = r ∷ rest }) k → IsNodeOutFrom from (record gone { trees = rest }) k = λ from k out. record { border = out.border; interior = out.interior } in
    let apart : (i : ℕ) → i < length rest → place_of_idle rest i ≢ r.place = λ i lt is. listed.of_trees.once 0 (suc i) (omega arith) (omega (arith, lt)) (sym is) in
    record {
      of_borders = λ i k lt names. still (step_of_idle gone.borders i) k (named.of_borders i k lt names);
      of_interiors = λ i k lt names. still (step_of_idle gone.interiors i) k (named.of_interiors i k lt names);
      of_trees = λ i lt. rw (get_or-set_other trees r.place (place_of_idle rest i) u no_tree (apart i lt))
          (still (step_of_idle rest i) (tree_at trees (place_of_idle rest i)).root (named.of_trees (suc i) (omega (arith, lt))));
    }

-- where one step took out all, and where nothing was taken out
pub named_anew : (step : ℕ) (nodes : List NodeView) (trees : List Tree) (gone : RetiredPlaces) → IsNamedLate nodes trees (all_out_at step gone)
named_anew step nodes trees gone = record {
  of_borders = λ i k lt names. rw (step_anew step gone.borders i lt) (node_out_anew step gone k);
  of_interiors = λ i k lt names. rw (step_anew step gone.interiors i lt) (node_out_anew step gone k);
  of_trees = λ i lt. rw (step_anew step gone.trees i lt) (node_out_anew step gone _);
}

pub named_none : (nodes : List NodeView) (trees : List Tree) → IsNamedLate nodes trees no_places
named_none nodes trees = record {
  of_borders = λ i k lt names. absurd (omega arith);
  of_interiors = λ i k lt names. absurd (omega arith);
  of_trees = λ i lt. absurd (omega arith);
}
