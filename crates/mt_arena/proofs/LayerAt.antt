-- The whole invariant, the contents and what the step leaves to others where a tree is made in the places that are chosen: for `make_layer`.
use Rattle.std.proofs.Common.{true, ◌≡◌, ℕ, ◌+◌, ◌<◌, ◌≤◌, List, [], ◌∷◌, ◌++◌, length, set, Option, Some, None, refl, sym, ap, subst, ◌∙◌, arith, length-append}
use Rattle.std.proofs.{lemmas.List.length-set}
use Rattle.mt_rows.specs.Rows.{Bytes}
use Rattle.mt_version.specs.Parts.{Parts, fresh_parts}
use Rattle.mt_border.specs.{declared.entry.Entry.Entry}
use Rattle.mt_arena.specs.{declared.retired.Retired.Retired, declared.tree.Tree.Tree}
use Rattle.mt_arena.specs.{NodeView.NodeView}
use Rattle.mt_arena.specs.{Contents.content, Edits.{again, placed, version_in}}
use Rattle.mt_arena.specs.{Idle.{Rooms, AreRetired, chosen, number_of, given_border}, Given.{IsNamedLate, StepsFrom, AreForgotten}}
use Rattle.mt_arena.specs.{Invariant.ArenaInvariant, Arena.ArenaView, Accesses.at, Layering.{MayMakeLayer, root_of, layer_tree, placed_tree, with_layer_at}}
use Rattle.mt_arena.proofs.{Pairs.{there, last}}
use Rattle.mt_arena.proofs.{ContentQuiet.content-agree}
use Rattle.mt_arena.proofs.{Retiring.retired_push, NamedLate.named_push}
use Rattle.mt_arena.proofs.Giving.{none_left_out, chosen_place, outer_given, named_outer_given, chosen_tree}
use Rattle.mt_arena.proofs.LayerIn.{root_with, RootIn, TreeIn, root_in, tree_in}
use Rattle.mt_arena.proofs.MakingLayer.{arena_layer, pairs_still, root_pairs}
use Rattle.mt_arena.proofs.LayerStep.{steps_layer}

module _ (v : ArenaView) (room more : Rooms) (op least : ℕ) (prefix : Bytes) (e : Entry) (sound : ArenaInvariant v.nodes v.trees v.retired room) (may : MayMakeLayer v prefix e)
    (forgotten : AreForgotten least v) where
  abbrev xs : List NodeView
  xs = v.nodes

  abbrev trees : List Tree
  trees = v.trees

  abbrev t : ℕ
  t = number_of (chosen v.retired.trees least) (length trees)

  abbrev h : ℕ
  h = number_of (chosen v.retired.borders least) (length xs)

  abbrev new : ArenaView
  new = with_layer_at v prefix e least op

  n : RootIn v op least t e (chosen v.retired.borders least)
  n = root_in v op least e sound.arena.nodes sound.retired forgotten t

  -- the lists without the root's place
  retired_root : AreRetired new.nodes trees (given_border v.retired least)
  retired_root = by (chosen v.retired.borders least) refl
    where
      by : (place : Option ℕ) → chosen v.retired.borders least ≡ place → AreRetired (placed place xs (root_of t e)) trees (given_border v.retired least)
      by None is = subst (λ (l : List Retired). AreRetired (xs ++ root_of t e ∷ []) trees (record v.retired { borders = l })) (sym (none_left_out v.retired.borders least is)) (retired_push xs trees v.retired (root_of t e) sound.retired refl)
      by (Some p) is = outer_given xs trees v.retired least p (again (at v p) (root_of t e)) sound.retired is refl

  named_root : IsNamedLate new.nodes trees (given_border v.retired least)
  named_root = by (chosen v.retired.borders least) refl
    where
      by : (place : Option ℕ) → chosen v.retired.borders least ≡ place → IsNamedLate (placed place xs (root_of t e)) trees (given_border v.retired least)
      by None is = subst (λ (l : List Retired). IsNamedLate (xs ++ root_of t e ∷ []) trees (record v.retired { borders = l })) (sym (none_left_out v.retired.borders least is)) (named_push xs trees v.retired (root_of t e) sound.retired sound.named)
      by (Some p) is = named_outer_given xs trees v.retired least p (again (at v p) (root_of t e)) sound.retired is sound.named

  b : TreeIn v op least (layer_tree prefix h op) (chosen v.retired.trees least)
  b = tree_in v op least e sound.arena.nodes sound.retired forgotten (layer_tree prefix h op) refl

  pub sound_layer_at : length new.nodes ≤ more.nodes → length new.trees ≤ more.trees → ArenaInvariant new.nodes new.trees new.retired more
  sound_layer_at enough trees_enough = record {
    arena = arena_layer v room op prefix e sound may new.nodes new.trees h t n.version n.of_root n.node b.tree;
    retired = b.retired new.nodes retired_root;
    named = b.named new.nodes retired_root named_root;
    enough = enough;
    trees_enough = trees_enough;
  }

  pub content_layer_at : content new.trees new.nodes ≡ content trees xs
  content_layer_at =
      n.pairs new.trees (root_pairs v room op prefix e sound may new.nodes new.trees h t n.version n.of_root n.node b.tree)
      ∙ content-agree new.trees trees xs (pairs_still v room op prefix e sound may new.nodes new.trees h t n.version n.of_root n.node b.tree)

  pub steps_layer_at : StepsFrom least op v new
  steps_layer_at =
      steps_layer v op least h t new.nodes n.ms new.trees b.ts (root_with n.version t e) (layer_tree prefix h op) new.retired n.node b.tree n.mid b.mid sound.arena.forest refl refl refl refl

  -- it is no more than one node and one tree longer, and no longer where old places are given out
  pub nodes_count : (most : ℕ) → length xs ≤ most → (chosen v.retired.borders least ≡ None → length xs + 1 ≤ most) → length new.nodes ≤ most
  nodes_count most enough one_more = by (chosen v.retired.borders least) refl
    where
      by : (place : Option ℕ) → chosen v.retired.borders least ≡ place → length (placed place xs (root_of t e)) ≤ most
      by None is = omega (arith, length-append xs (root_of t e ∷ []), one_more is)
      by (Some p) is = omega (arith, length-set xs p (again (at v p) (root_of t e)), enough)

  pub trees_count : (most : ℕ) → length trees ≤ most → (chosen v.retired.trees least ≡ None → length trees + 1 ≤ most) → length new.trees ≤ most
  trees_count most enough one_more = by (chosen v.retired.trees least) refl
    where
      by : (place : Option ℕ) → chosen v.retired.trees least ≡ place → length (placed_tree place trees (layer_tree prefix h op)) ≤ most
      by None is = omega (arith, length-append trees (layer_tree prefix h op ∷ []), one_more is)
      by (Some p) is = omega (arith, length-set trees p (layer_tree prefix h op), enough)

  -- the number of the root, and that of the tree, is that of one that is there, or the next one if no place is chosen
  pub root_within : (h ≤ length xs) × (h ≡ length xs → chosen v.retired.borders least ≡ None)
  root_within = by (chosen v.retired.borders least) refl
    where
      by : (place : Option ℕ) → chosen v.retired.borders least ≡ place → (number_of place (length xs) ≤ length xs) × (number_of place (length xs) ≡ length xs → chosen v.retired.borders least ≡ None)
      by None is = (omega arith, λ last. is)
      by (Some p) is = let there_is = (chosen_place v least p sound.retired is forgotten).there in (omega (arith, there_is), λ last. absurd (omega (arith, last, there_is)))

  pub tree_within : (t ≤ length trees) × (t ≡ length trees → chosen v.retired.trees least ≡ None)
  tree_within = by (chosen v.retired.trees least) refl
    where
      by : (place : Option ℕ) → chosen v.retired.trees least ≡ place → (number_of place (length trees) ≤ length trees) × (number_of place (length trees) ≡ length trees → chosen v.retired.trees least ≡ None)
      by None is = (omega arith, λ last. is)
      by (Some p) is = let there_is = (chosen_tree v least p sound.retired is).there in (omega (arith, there_is), λ last. absurd (omega (arith, last, there_is)))

  -- the nodes and the trees as the call leaves them
  pub are_nodes : (ns : List NodeView) (number : ℕ) (version : Parts) → number ≡ h → version ≡ version_in (chosen v.retired.borders least) xs (fresh_parts true true)
      → (number < length xs → ns ≡ set xs number (record (root_of t e) { version = version })) → (number ≡ length xs → ns ≡ xs ++ (record (root_of t e) { version = version }) ∷ [])
      → ns ≡ new.nodes
  are_nodes ns number version is_number is_version old_place new_place = by (chosen v.retired.borders least) refl is_number is_version
    where
      by : (place : Option ℕ) → chosen v.retired.borders least ≡ place → number ≡ number_of place (length xs) → version ≡ version_in place xs (fresh_parts true true) → ns ≡ placed place xs (root_of t e)
      by None is number_is version_is = new_place number_is ∙ ap (λ (w : Parts). xs ++ (record (root_of t e) { version = w }) ∷ []) version_is
      by (Some p) is number_is version_is =
          old_place (omega (arith, number_is, (chosen_place v least p sound.retired is forgotten).there))
          ∙ ap (λ k. set xs k (record (root_of t e) { version = version })) number_is ∙ ap (λ (w : Parts). set xs p (record (root_of t e) { version = w })) version_is

  pub are_trees : (ts : List Tree) (number : ℕ) → number ≡ t → (number < length trees → ts ≡ set trees number (layer_tree prefix h op))
      → (number ≡ length trees → ts ≡ trees ++ layer_tree prefix h op ∷ []) → ts ≡ new.trees
  are_trees ts number is_number old_place new_place = by (chosen v.retired.trees least) refl is_number
    where
      by : (place : Option ℕ) → chosen v.retired.trees least ≡ place → number ≡ number_of place (length trees) → ts ≡ placed_tree place trees (layer_tree prefix h op)
      by None is number_is = new_place number_is
      by (Some p) is number_is =
          old_place (omega (arith, number_is, (chosen_tree v least p sound.retired is).there)) ∙ ap (λ k. set trees k (layer_tree prefix h op)) number_is
