-- What a new tree and its root are among the nodes and trees, in old places or in new ones, and what stands there before them for others: for `MakingLayer`.
use Rattle.std.proofs.Common.{◌≢◌, ◌⊎◌, true, false, ◌≡◌, ℕ, ◌+◌, ◌<◌, ◌≤◌, List, [], ◌∷◌, ◌++◌, length, set, Option, Some, None, refl, sym, ap, subst, ◌∙◌, inl, inr, arith, length-append}
use Rattle.std.proofs.{lemmas.Bool.cases_eq, lemmas.List.{length-set, get_or_past, get_or-set_same, get_or-set_other}}
use Rattle.mt_version.specs.Parts.{Parts}
use Rattle.mt_border.specs.{declared.entry.Entry.Entry}
use Rattle.mt_arena.specs.{declared.retired.Retired.Retired, declared.tree.Tree.Tree, declared.tree.Standing.TheVariants.{Made, Dead}}
use Rattle.mt_arena.specs.{NodeView.{NodeView, node_at}}
use Rattle.mt_arena.specs.{Forests.{tree_at, no_tree}, Nodes.AreNodes}
use Rattle.mt_arena.specs.{Contents.{live_pairs, content}, Edits.{again, placed}, Guarantee.{LosesHeld, Changes}}
use Rattle.mt_arena.specs.{Idle.{RetiredPlaces, AreRetired, has_ended, chosen, number_of, given_border, given_layer}, Given.{IsGiven, IsNamedLate, AreForgotten, IsNodeOutBy, IsOutBy}}
use Rattle.mt_arena.specs.{Arena.ArenaView, Accesses.at, Layering.{root_of, placed_tree}}
use Rattle.mt_arena.proofs.{Pairs.{here, there, last, before}}
use Rattle.mt_arena.proofs.{Trees.{last_tree, before_tree}, Counted.pairs-gone, ContentQuiet.{content-set, content-pushed}}
use Rattle.mt_arena.proofs.{Retiring.retired_tree_push, NamedLate.named_tree_push}
use Rattle.mt_arena.proofs.Vacant.{IsUnnamed, apart_vacant, unnamed_vacant, unnamed_new, content_vacant, blank_for, given_blank, changes_blank, lost_blank}
use Rattle.mt_arena.proofs.Giving.{none_left_out, chosen_place, border_out_by, border_kind, chosen_tree, dead_given, named_dead_given, whole_vacant}

-- a node at number h, in a new place or in an old one: all others are as they were
pub record HasNodeAt (xs zs : List NodeView) (h : ℕ) (y : NodeView) : Type 0 where
  pub more : length xs ≤ length zs
  pub inside : h < length zs
  pub is : node_at zs h ≡ y
  pub others : (k : ℕ) → k < length zs → k ≢ h → (k < length xs) × (node_at zs k ≡ node_at xs k)
  pub kept : (k : ℕ) → k < length xs → (node_at xs k).version.deleted ≡ false → k ≢ h
  pub unnamed : IsUnnamed xs h

-- so is a tree's record, where none was or a dead one
pub record HasTreeAt (trees us : List Tree) (t : ℕ) (u : Tree) : Type 0 where
  pub more : length trees ≤ length us
  pub inside : t < length us
  pub is : tree_at us t ≡ u
  pub others : (s : ℕ) → s < length us → s ≢ t → (s < length trees) × (tree_at us s ≡ tree_at trees s)
  pub vacant : (tree_at trees t).standing ≡ Dead

-- the version of a root that nobody holds
pub record IsOfRoot (v : Parts) : Type 0 where
  pub locked : v.locked ≡ false
  pub inserting : v.inserting ≡ false
  pub splitting : v.splitting ≡ false
  pub deleted : v.deleted ≡ false
  pub root : v.root ≡ true
  pub border : v.border ≡ true

-- the root of the tree, with this version
abbrev pub root_with : Parts → ℕ → Entry → NodeView
root_with version t e = record (root_of t e) { version = version }

-- between the old nodes and the new ones, where a place was given out: a blank node stands there
pub record MidNodes (v : ArenaView) (op least h t : ℕ) (ms : List NodeView) (y : NodeView) : Type 0 where
  pub count : length ms ≡ length v.nodes
  pub each : (k : ℕ) → (node_at ms k ≡ at v k) ⊎ IsNodeOutBy least v.retired k
  pub others : (k : ℕ) → k ≢ h → node_at ms k ≡ at v k
  pub given : h < length v.nodes → IsGiven (at v h) (node_at ms h)
  pub tree : h < length v.nodes → (node_at ms h).tree ≡ t
  pub changes : h < length v.nodes → Changes op (node_at ms h) y
  pub lost : h < length v.nodes → LosesHeld (node_at ms h) y
  pub pairs : (ts : List Tree) → content ts ms ≡ content ts v.nodes

-- and between the records: the new one stands there
pub record MidTrees (v : ArenaView) (op least t : ℕ) (ts : List Tree) (u : Tree) : Type 0 where
  pub count : length ts ≡ length v.trees
  pub each : (s : ℕ) → (tree_at ts s ≡ tree_at v.trees s) ⊎ IsOutBy least v.retired.trees s
  pub others : (s : ℕ) → s ≢ t → tree_at ts s ≡ tree_at v.trees s
  pub here : t < length v.trees → tree_at ts t ≡ u
  pub unmade : (q : ℕ) → (tree_at ts t).standing ≡ Made q → q ≡ op

-- the root in the chosen place of a border node, or in a new one
pub record RootIn (v : ArenaView) (op least t : ℕ) (e : Entry) (place : Option ℕ) : Type 0 where
  pub version : Parts
  pub of_root : IsOfRoot version
  pub node : HasNodeAt v.nodes (placed place v.nodes (root_of t e)) (number_of place (length v.nodes)) (root_with version t e)
  pub ms : List NodeView
  pub mid : MidNodes v op least (number_of place (length v.nodes)) t ms (root_with version t e)
  pub pairs : (us : List Tree) → live_pairs us (root_with version t e) ≡ [] → content us (placed place v.nodes (root_of t e)) ≡ content us v.nodes

-- and the tree's record in that of a dead tree, or in a new one
pub record TreeIn (v : ArenaView) (op least : ℕ) (u : Tree) (place : Option ℕ) : Type 0 where
  pub tree : HasTreeAt v.trees (placed_tree place v.trees u) (number_of place (length v.trees)) u
  pub ts : List Tree
  pub mid : MidTrees v op least (number_of place (length v.trees)) ts u
  pub retired : (zs : List NodeView) → AreRetired zs v.trees (given_border v.retired least) → AreRetired zs (placed_tree place v.trees u) (given_layer v.retired least)
  pub named : (zs : List NodeView) → AreRetired zs v.trees (given_border v.retired least) → IsNamedLate zs v.trees (given_border v.retired least)
      → IsNamedLate zs (placed_tree place v.trees u) (given_layer v.retired least)

module _ (v : ArenaView) (op least : ℕ) (e : Entry) (nodes : AreNodes v.nodes) (listed : AreRetired v.nodes v.trees v.retired) (forgotten : AreForgotten least v) where
  abbrev xs : List NodeView
  xs = v.nodes

  abbrev trees : List Tree
  trees = v.trees

  root_new : (t : ℕ) → chosen v.retired.borders least ≡ None → RootIn v op least t e None
  root_new t none =
      let y = root_of t e in
      let size : length (xs ++ y ∷ []) ≡ length xs + 1 = length-append xs (y ∷ []) in
      record {
        version = y.version;
        of_root = record { locked = refl; inserting = refl; splitting = refl; deleted = refl; root = refl; border = refl };
        node = record {
          more = omega (arith, size);
          inside = omega (arith, size);
          is = last xs y;
          others = λ k lk other. let lt : k < length xs = omega (arith, lk, other, size) in (lt, before xs y k lt);
          kept = λ k lk live is. omega (arith, lk, is);
          unnamed = unnamed_new xs nodes;
        };
        ms = xs;
        mid = record {
          count = refl;
          each = λ k. inl refl;
          others = λ k other. refl;
          given = λ lt. absurd (omega (arith, lt));
          tree = λ lt. absurd (omega (arith, lt));
          changes = λ lt. absurd (omega (arith, lt));
          lost = λ lt. absurd (omega (arith, lt));
          pairs = λ ts. refl;
        };
        pairs = λ us nothing. content-pushed us xs y nothing;
      }

  root_old : (t p : ℕ) → chosen v.retired.borders least ≡ Some p → RootIn v op least t e (Some p)
  root_old t p is_chosen =
      let vacant = chosen_place v least p listed is_chosen forgotten in
      let n = root_of t e in
      let y = again (at v p) n in
      let w = blank_for (at v p) n in
      let at_mid : node_at (set xs p w) p ≡ w = here xs p w vacant.there in
      record {
        version = y.version;
        of_root = record { locked = refl; inserting = refl; splitting = refl; deleted = refl; root = refl; border = border_kind v least p nodes listed is_chosen };
        node = record {
          more = omega (arith, length-set xs p y);
          inside = omega (arith, length-set xs p y, vacant.there);
          is = here xs p y vacant.there;
          others = λ k lk other. (omega (arith, lk, length-set xs p y), there xs p k y other);
          kept = λ k lk live is. apart_vacant xs k p vacant live is;
          unnamed = unnamed_vacant xs p nodes vacant;
        };
        ms = set xs p w;
        mid = record {
          count = length-set xs p w;
          each = λ k. elim (cases_eq k p) [
            | inl is ↦ inr (subst (IsNodeOutBy least v.retired) (sym is) (border_out_by v least p is_chosen))
            | inr other ↦ inl (there xs p k w other)
          ];
          others = λ k other. there xs p k w other;
          given = λ lt. subst (IsGiven (at v p)) (sym at_mid) (given_blank (at v p) n vacant.out (whole_vacant xs p nodes vacant) vacant.free);
          tree = λ lt. ap (λ (m : NodeView). m.tree) at_mid;
          changes = λ lt. subst (λ (m : NodeView). Changes op m y) (sym at_mid) (changes_blank op (at v p) n refl (λ q other is. absurd (cc)));
          lost = λ lt. subst (λ (m : NodeView). LosesHeld m y) (sym at_mid) (lost_blank (at v p) n);
          pairs = λ ts. content_vacant xs ts p w vacant refl;
        };
        pairs = λ us nothing. content-set us xs p y (nothing ∙ sym (pairs-gone us (at v p) vacant.out));
      }

  pub root_in : (t : ℕ) → RootIn v op least t e (chosen v.retired.borders least)
  root_in t = by (chosen v.retired.borders least) refl
    where
      by : (place : Option ℕ) → chosen v.retired.borders least ≡ place → RootIn v op least t e place
      by None is = root_new t is
      by (Some p) is = root_old t p is

  abbrev gone : RetiredPlaces
  gone = given_border v.retired least

  tree_new : (u : Tree) → u.standing ≡ Made op → chosen v.retired.trees least ≡ None → TreeIn v op least u None
  tree_new u made_so none =
      let size : length (trees ++ u ∷ []) ≡ length trees + 1 = length-append trees (u ∷ []) in
      let past : (tree_at trees (length trees)).standing ≡ Dead = ap (λ (s : Tree). s.standing) (get_or_past trees (length trees) no_tree (omega arith)) in
      let same : given_layer v.retired least ≡ gone = ap (λ (l : List Retired). record gone { trees = l }) (none_left_out v.retired.trees least none) in
      record {
        tree = record {
          more = omega (arith, size);
          inside = omega (arith, size);
          is = last_tree trees u;
          others = λ s ls other. let lt : s < length trees = omega (arith, ls, other, size) in (lt, before_tree trees u s lt);
          vacant = past;
        };
        ts = trees;
        mid = record {
          count = refl;
          each = λ s. inl refl;
          others = λ s other. refl;
          here = λ lt. absurd (omega (arith, lt));
          unmade = λ q is. absurd (let both = sym past ∙ is in cc);
        };
        retired = λ zs are. subst (AreRetired zs (trees ++ u ∷ [])) (sym same) (retired_tree_push zs trees gone u are (ap has_ended made_so));
        named = λ zs are late. subst (IsNamedLate zs (trees ++ u ∷ [])) (sym same) (named_tree_push zs trees gone u are late);
      }

  tree_old : (u : Tree) (t : ℕ) → u.standing ≡ Made op → chosen v.retired.trees least ≡ Some t → TreeIn v op least u (Some t)
  tree_old u t made_so is_chosen =
      let dead = chosen_tree v least t listed is_chosen in
      let at_t : tree_at (set trees t u) t ≡ u = get_or-set_same trees t u no_tree dead.there in
      record {
        tree = record {
          more = omega (arith, length-set trees t u);
          inside = omega (arith, length-set trees t u, dead.there);
          is = at_t;
          others = λ s ls other. (omega (arith, ls, length-set trees t u), get_or-set_other trees t s u no_tree other);
          vacant = dead.dead;
        };
        ts = set trees t u;
        mid = record {
          count = length-set trees t u;
          each = λ s. elim (cases_eq s t) [
            | inl is ↦ inr (subst (IsOutBy least v.retired.trees) (sym is) dead.by)
            | inr other ↦ inl (get_or-set_other trees t s u no_tree other)
          ];
          others = λ s other. get_or-set_other trees t s u no_tree other;
          here = λ lt. at_t;
          unmade = λ q is. same_maker (sym is ∙ ap (λ (s : Tree). s.standing) at_t ∙ made_so);
        };
        retired = λ zs are. dead_given zs trees gone least t u are is_chosen (ap has_ended made_so);
        named = λ zs are late. named_dead_given zs trees gone least t u are is_chosen late;
      }
    where
      same_maker : {a c : ℕ} → Made a ≡ Made c → a ≡ c
      same_maker is = cc

  pub tree_in : (u : Tree) → u.standing ≡ Made op → TreeIn v op least u (chosen v.retired.trees least)
  tree_in u made_so = by (chosen v.retired.trees least) refl
    where
      by : (place : Option ℕ) → chosen v.retired.trees least ≡ place → TreeIn v op least u place
      by None is = tree_new u made_so is
      by (Some t) is = tree_old u t made_so is
