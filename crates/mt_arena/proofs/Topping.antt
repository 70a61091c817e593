-- The whole invariant, the contents and what the step leaves to others where a new root comes over two halves, in an old place or in a new one: for
-- `grow_root`.
use Rattle.std.proofs.Common.{◌≡◌, ◌≢◌, ℕ, ◌+◌, ◌<◌, ◌≤◌, ◌++◌, List, ◌∷◌, [], length, set, Option, Some, None, true, false, refl, sym, ap, subst, ◌∙◌, inl, inr, arith, length-append}
use Rattle.std.proofs.{lemmas.Bool.cases_eq, lemmas.Option.same_Some, lemmas.List.{length-set, set-append_left, set_at}}
use Rattle.mt_version.specs.Parts.{Parts, fresh_parts}
use Rattle.mt_arena.specs.{declared.retired.Retired.Retired, declared.tree.Tree.Tree, declared.tree.Standing.TheVariants.Dead, NodeView.{NodeView, node_at}}
use Rattle.mt_arena.specs.{Nodes.AreNodes, Ranges.AreRanged, Forests.{IsForest, tree_at}, Layers.AreLayered, Contents.content}
use Rattle.mt_arena.specs.{Guarantee.{TreeChanges, LosesHeld}, Settled.IsSettled, Invariant.ArenaInvariant, Arena.{ArenaView, Guarantee}}
use Rattle.mt_arena.specs.{Idle.{RetiredPlaces, Rooms, AreRetired, chosen, number_of, given_interior}, Given.{IsNamedLate, StepsFrom, AreForgotten}}
use Rattle.mt_arena.specs.{Accesses.{at, tree_of}, Edits.{bare, again, placed, version_in}, Growth.{AreRootHalves, left_below, right_below}}
use Rattle.mt_arena.specs.Several.{MayGrow, halves_below, top_over, with_top, with_root, interior_number, with_root_at}
use Rattle.mt_arena.proofs.{Pairs.{here, there, last, before}, Push.nodes_bare, Grow.IsOfTop}
use Rattle.mt_arena.proofs.{Ranged.{IsBeside, all_beside, ranged_more}, RangedEdits.ranged_halves_below, Homes.forest_push, Growing.{layers_push, no_keys}}
use Rattle.mt_arena.proofs.{Retiring.{retired_push, retired_tree_set}, NamedLate.{named_push, named_tree_set}}
use Rattle.mt_arena.proofs.Guarantees.{guarantee_push, guarantee_on, PointsSo, lost_none, lost_push}
use Rattle.mt_arena.proofs.{HeldChanges.{changes_left_below, changes_right_below}, Naming.{names_same, points_each, points_more, each_set2, each_set3}}
use Rattle.mt_arena.proofs.{Several.{AreKept, MayTurn, kept_set2, guarantee_set2, guarantee_set3}, ContentQuiet.{stands_pushed, stands_tree_set}}
use Rattle.mt_arena.proofs.Vacant.{IsVacant, apart_vacant, set_out, unnamed_vacant, unnamed_new, unnamed_push, unnamed_set, nodes_bare_again, ranged_vacant}
use Rattle.mt_arena.proofs.Vacant.{forest_vacant, layers_vacant, content_vacant, blank_for, changes_blank, lost_blank}
use Rattle.mt_arena.proofs.Giving.{none_left_out, steps_from_none, chosen_inner, inner_out, inner_kind, inner_given, named_inner_given, steps_given}
use Rattle.mt_arena.proofs.TopNodes.{HasBare, nodes_top, settled_top_at, forest_top, layers_trees, guarantee_record, same_prefix, same_standing}

module _ (v : ArenaView) (room more : Rooms) (left right least op : ℕ) (sound : ArenaInvariant v.nodes v.trees v.retired room) (may : MayGrow v left right op)
    (forgotten : AreForgotten least v) where
  abbrev xs : List NodeView
  xs = v.nodes

  abbrev l : NodeView
  l = at v left

  abbrev r : NodeView
  r = at v right

  abbrev lists : RetiredPlaces
  lists = given_interior v.retired least

  abbrev f : AreRootHalves xs left right
  f = may.grows

  li : left < length xs
  li = may.held.there

  lj : right < length xs
  lj = may.right_held.there

  lt_t : l.tree < length v.trees
  lt_t = sound.arena.forest.tree_there left li

  stands : (tree_of v left).standing ≢ Dead
  stands = (sound.arena.forest.homes left l.tree li lt_t).standing refl f.left_live

  -- the new root, and what stands at its number before it
  abbrev top : NodeView
  top = top_over xs left right op

  abbrev bare_top : NodeView
  bare_top = bare false l.tree (l.level + 1) 0 op

  -- a root of this number over the halves
  module _ (h : ℕ) where
    abbrev y : NodeView
    y = left_below l h

    abbrev z : NodeView
    z = right_below r h

    abbrev halves : List NodeView
    halves = halves_below xs left right h

    abbrev grown : Tree
    grown = record (tree_of v left) { root = h }

    abbrev ts : List Tree
    ts = set v.trees l.tree grown

    kept : AreKept xs halves v.trees v.retired
    kept =
        kept_set2 xs v.trees v.retired left right y z li lj f.differ (record { slots = refl; deleted = refl; tree = refl }) (record { slots = refl; deleted = refl; tree = refl }) refl refl
        (λ out. record { next = refl; children = refl }) (λ out. record { next = refl; children = refl })

    turn_left : MayTurn op v.trees l y
    turn_left = record { changes = changes_left_below op l h may.held.holder may.marked; mine = may.mine }

    turn_right : MayTurn op v.trees r z
    turn_right = record { changes = changes_right_below op r h may.right_held.holder may.right_marked; mine = λ q e. may.mine q (ap (λ t. (tree_at v.trees t).standing) (sym f.right_tree) ∙ e) }

    record_changes : TreeChanges op (tree_of v left) grown
    record_changes = record {
      prefix = refl;
      dead = λ e. absurd (stands e);
      made = λ q other e. absurd (other (may.mine q e));
      live = λ e q f. absurd (let both = sym e ∙ f in cc);
    }

    -- a half names the new root, which the operation holds
    names_top : (vs : List NodeView) (n m : NodeView) → (node_at vs h).holder ≡ Some op → m.previous ≡ n.previous → m.parent ≡ Some h → PointsSo op vs n m
    names_top vs n m holder same up = record {
      previous = λ j e not_mine. sym same ∙ e;
      parent = λ j e not_mine. absurd (not_mine (ap (λ k. (node_at vs k).holder) (same_Some _ _ (sym e ∙ up)) ∙ holder));
    }

    -- the whole, where the nodes are these
    finished : (vs : List NodeView) (gone : RetiredPlaces) → AreNodes vs → AreRanged vs → IsForest vs ts → AreLayered vs v.trees → AreRetired vs v.trees gone
        → IsNamedLate vs v.trees gone → length vs ≤ more.nodes → length v.trees ≤ more.trees → ArenaInvariant vs ts gone more
    finished vs gone nodes ranged forest layers listed named enough trees_enough = record {
      arena = record {
        nodes = nodes;
        ranged = ranged;
        forest = forest;
        layers = layers_trees vs v.trees ts (length-set v.trees l.tree grown) (same_prefix v.trees l.tree h lt_t) (same_standing v.trees l.tree h lt_t) layers;
      };
      retired = retired_tree_set vs v.trees gone l.tree grown lt_t listed refl;
      named = named_tree_set vs v.trees gone l.tree grown lt_t listed (λ dead. absurd (stands dead)) named;
      enough = enough;
      trees_enough = omega (arith, length-set v.trees l.tree grown, trees_enough);
    }

  -- in a new place
  abbrev n : ℕ
  n = length xs

  abbrev new : List NodeView
  new = with_top xs left right op

  of_new : IsOfTop top.version
  of_new = record { locked = refl; inserting = refl; splitting = refl; deleted = refl; root = refl; border = refl }

  bare_new : HasBare xs (xs ++ bare_top ∷ []) v.trees left right n
  bare_new =
      let size : length (xs ++ bare_top ∷ []) ≡ length xs + 1 = length-append xs (bare_top ∷ []) in
      record {
        nodes = nodes_bare xs false l.tree (l.level + 1) 0 op (record { border = λ e. absurd (cc); interior = λ e. omega arith }) sound.arena.nodes;
        forest = forest_push xs v.trees bare_top sound.arena.forest lt_t stands refl (no_keys (tree_at v.trees l.tree).prefix [] refl, λ out. refl) (λ _ border over. absurd (omega (arith, over)));
        unnamed = unnamed_push xs bare_top (unnamed_new xs sound.arena.nodes) refl refl refl refl;
        inside = omega (arith, size);
        more = omega (arith, size);
        rootless = ap (λ (m : NodeView). m.version.root) (last xs bare_top);
        left = λ e. omega (arith, e, li);
        right = λ e. omega (arith, e, lj);
        at_left = before xs bare_top left li;
        at_right = before xs bare_top right lj;
        others = λ k lk other. let lt : k < length xs = omega (arith, lk, other, size) in (lt, before xs bare_top k lt);
      }

  same_new : set (set (set (xs ++ bare_top ∷ []) left (y n)) right (z n)) n top ≡ new
  same_new =
      ap (λ (vs : List NodeView). set (set vs right (z n)) n top) (set-append_left xs (bare_top ∷ []) left (y n) li)
      ∙ ap (λ (vs : List NodeView). set vs n top) (set-append_left (set xs left (y n)) (bare_top ∷ []) right (z n) (omega (arith, lj, length-set xs left (y n))))
      ∙ set_at (halves n) bare_top [] top n ((kept n).count)

  -- no node names the last number
  beside_new : (k : ℕ) → k < length (halves n) → IsBeside (length (halves n)) (node_at (halves n) k)
  beside_new k lk = subst (λ c. IsBeside c (node_at (halves n) k)) (sym (kept n).count)
      (each_set2 (λ k m. IsBeside n m) xs left right (y n) (z n) li lj f.differ (all_beside xs sound.arena.nodes left li) (all_beside xs sound.arena.nodes right lj)
      (λ k lk _ _. all_beside xs sound.arena.nodes k lk) k (omega (arith, lk, (kept n).count)))

  sound_new : length xs + 1 ≤ more.nodes → length v.trees ≤ more.trees → ArenaInvariant new (ts n) v.retired more
  sound_new enough trees_enough =
      let k = kept n in
      finished n new v.retired
      (subst AreNodes same_new (nodes_top xs (xs ++ bare_top ∷ []) v.trees left right n op top.version of_new f sound.arena.nodes sound.arena.ranged may.is_root may.no_root bare_new))
      (ranged_more (halves n) top beside_new (ranged_halves_below xs left right n sound.arena.ranged f) (omega arith) (omega arith) refl)
      (subst (λ (vs : List NodeView). IsForest vs (ts n)) same_new (forest_top xs (xs ++ bare_top ∷ []) v.trees left right n op top.version of_new f sound.arena.nodes sound.arena.ranged may.is_root may.no_root bare_new))
      (layers_push (halves n) v.trees top refl (k.layers sound.arena.layers))
      (retired_push (halves n) v.trees v.retired top (k.retired sound.retired) refl)
      (named_push (halves n) v.trees v.retired top (k.retired sound.retired) (k.named sound.retired sound.named))
      (omega (arith, length-append (halves n) (top ∷ []), k.count, enough)) trees_enough

  top_is : node_at new n ≡ top
  top_is = ap (node_at new) (sym (kept n).count) ∙ last (halves n) top

  settled_new : IsSettled new n (node_at new n)
  settled_new = subst (λ (m : NodeView). IsSettled new n m) (sym top_is)
      (subst (λ (vs : List NodeView). IsSettled vs n top) same_new (settled_top_at xs (xs ++ bare_top ∷ []) v.trees left right n op top.version of_new f sound.arena.nodes sound.arena.ranged may.is_root may.no_root bare_new))

  step_new : Guarantee op v (with_root v left right op)
  step_new = record {
    nodes =
        guarantee_on op xs new new v.trees v.trees (ts n)
        (guarantee_on op xs (halves n) new v.trees v.trees v.trees
        (guarantee_set2 op xs v.trees left right (y n) (z n) li lj f.differ sound.arena.forest.tree_there (turn_left n) (turn_right n))
        (guarantee_push op (halves n) v.trees top may.mine (λ q other e. other (same_Some q op (sym e)))) sound.arena.forest.tree_there)
        (guarantee_record op new v.trees l.tree (grown n) lt_t (record_changes n)) sound.arena.forest.tree_there;
    points =
        points_more op xs (halves n) top (kept n).count refl refl (each_set2 (λ k m. PointsSo op new (at v k) m) xs left right (y n) (z n) li lj f.differ
        (names_top n new l (y n) (ap (λ (m : NodeView). m.holder) top_is) refl refl) (names_top n new r (z n) (ap (λ (m : NodeView). m.holder) top_is) refl refl) (λ k lt ni nj. names_same op new (at v k) (at v k) refl refl));
    lost = lost_push xs (halves n) top (omega (arith, (kept n).count)) (each_set2 (λ k m. LosesHeld (at v k) m) xs left right (y n) (z n) li lj f.differ (lost_none l) (lost_none r) (λ k lt ni nj. lost_none (at v k)));
  }

  content_new : content (ts n) new ≡ content v.trees xs
  content_new = stands_tree_set v.trees new l.tree (grown n) lt_t refl refl ∙ stands_pushed v.trees (halves n) top refl ∙ (kept n).content

  -- in the old place that is chosen
  module _ (p : ℕ) (is_chosen : chosen v.retired.interiors least ≡ Some p) where
    abbrev g : NodeView
    g = again (at v p) top

    abbrev bare_old : NodeView
    bare_old = again (at v p) bare_top

    abbrev b : NodeView
    b = blank_for (at v p) top

    abbrev old : List NodeView
    old = set (halves p) p g

    vacant : IsVacant xs p
    vacant = chosen_inner v least p sound.retired is_chosen forgotten

    inner : (at v p).version.border ≡ false
    inner = inner_kind v least p sound.arena.nodes sound.retired is_chosen

    ip : left ≢ p
    ip = apart_vacant xs left p vacant f.left_live

    jp : right ≢ p
    jp = apart_vacant xs right p vacant f.right_live

    of_old : IsOfTop g.version
    of_old = record { locked = refl; inserting = refl; splitting = refl; deleted = refl; root = refl; border = inner }

    has_bare_old : HasBare xs (set xs p bare_old) v.trees left right p
    has_bare_old =
        let size : length (set xs p bare_old) ≡ length xs = length-set xs p bare_old in
        record {
          nodes = nodes_bare_again xs p l.tree (l.level + 1) 0 op vacant inner (omega arith) sound.arena.nodes;
          forest = forest_vacant xs v.trees p bare_old vacant refl sound.arena.forest lt_t stands refl (λ _ border over. absurd (omega (arith, over)));
          unnamed = unnamed_set xs p bare_old vacant.there (unnamed_vacant xs p sound.arena.nodes vacant) refl refl refl refl;
          inside = omega (arith, size, vacant.there);
          more = omega (arith, size);
          rootless = ap (λ (m : NodeView). m.version.root) (here xs p bare_old vacant.there);
          left = ip;
          right = jp;
          at_left = there xs p left bare_old ip;
          at_right = there xs p right bare_old jp;
          others = λ k lk other. (omega (arith, lk, size), there xs p k bare_old other);
        }

    same_old : set (set (set (set xs p bare_old) left (y p)) right (z p)) p g ≡ old
    same_old = set_out xs left right p (y p) (z p) bare_old g ip jp

    at_halves : node_at (halves p) p ≡ at v p
    at_halves = there (set xs left (y p)) right p (z p) (λ e. jp (sym e)) ∙ there xs left p (y p) (λ e. ip (sym e))

    vacant_h : IsVacant (halves p) p
    vacant_h = record {
      there = omega (arith, vacant.there, (kept p).count);
      out = ap (λ (m : NodeView). m.version.deleted) at_halves ∙ vacant.out;
      free = ap (λ (m : NodeView). m.holder) at_halves ∙ vacant.free;
    }

    beside_old : (k : ℕ) → k < length (halves p) → (node_at (halves p) k).version.deleted ≡ false → IsBeside p (node_at (halves p) k)
    beside_old k lk =
        let unnamed = unnamed_vacant xs p sound.arena.nodes vacant in
        each_set2 (λ k m. m.version.deleted ≡ false → IsBeside p m) xs left right (y p) (z p) li lj f.differ
        (λ live. (unnamed.next left li live, unnamed.previous left li live)) (λ live. (unnamed.next right lj live, unnamed.previous right lj live))
        (λ k lk ni nj live. (unnamed.next k lk live, unnamed.previous k lk live)) k (omega (arith, lk, (kept p).count))

    sound_old : length xs ≤ more.nodes → length v.trees ≤ more.trees → ArenaInvariant old (ts p) lists more
    sound_old enough trees_enough =
        let k = kept p in
        finished p old lists
        (subst AreNodes same_old (nodes_top xs (set xs p bare_old) v.trees left right p op g.version of_old f sound.arena.nodes sound.arena.ranged may.is_root may.no_root has_bare_old))
        (ranged_vacant (halves p) p g vacant_h.there beside_old (ranged_halves_below xs left right p sound.arena.ranged f) (omega arith) (omega arith) refl)
        (subst (λ (vs : List NodeView). IsForest vs (ts p)) same_old (forest_top xs (set xs p bare_old) v.trees left right p op g.version of_old f sound.arena.nodes sound.arena.ranged may.is_root may.no_root has_bare_old))
        (layers_vacant (halves p) v.trees p g vacant_h refl (k.layers sound.arena.layers))
        (inner_given (halves p) v.trees v.retired least p g (k.retired sound.retired) is_chosen refl)
        (named_inner_given (halves p) v.trees v.retired least p g (k.retired sound.retired) is_chosen (k.named sound.retired sound.named))
        (omega (arith, length-set (halves p) p g, k.count, enough)) trees_enough

    old_is : node_at old p ≡ g
    old_is = here (halves p) p g vacant_h.there

    settled_old : IsSettled old p (node_at old p)
    settled_old = subst (λ (m : NodeView). IsSettled old p m) (sym old_is)
        (subst (λ (vs : List NodeView). IsSettled vs p g) same_old (settled_top_at xs (set xs p bare_old) v.trees left right p op g.version of_old f sound.arena.nodes sound.arena.ranged may.is_root may.no_root has_bare_old))

    content_old : content (ts p) old ≡ content v.trees xs
    content_old = stands_tree_set v.trees old l.tree (grown p) lt_t refl refl ∙ content_vacant (halves p) v.trees p g vacant_h refl ∙ (kept p).content

    -- as if a blank node had stood there
    abbrev mid : List NodeView
    mid = set xs p b

    abbrev end : List NodeView
    end = set (set (set mid left (y p)) right (z p)) p g

    size : length mid ≡ length xs
    size = length-set xs p b

    mi : left < length mid
    mi = omega (arith, size, li)

    mj : right < length mid
    mj = omega (arith, size, lj)

    mp : p < length mid
    mp = omega (arith, size, vacant.there)

    at_i : node_at mid left ≡ l
    at_i = there xs p left b ip

    at_j : node_at mid right ≡ r
    at_j = there xs p right b jp

    at_p : node_at mid p ≡ b
    at_p = here xs p b vacant.there

    inside_mid : (k : ℕ) → k < length mid → (node_at mid k).tree < length v.trees
    inside_mid k lk = elim (cases_eq k p) [
      | inl is ↦ rw (is, at_p) lt_t
      | inr other ↦ rw (there xs p k b other) (sound.arena.forest.tree_there k (omega (arith, lk, size)))
    ]

    end_is : (node_at end p).holder ≡ Some op
    end_is = ap (λ (m : NodeView). m.holder) (here (set (set mid left (y p)) right (z p)) p g (omega (arith, mp, length-set (set mid left (y p)) right (z p), length-set mid left (y p))))

    step_end : Guarantee op (record v { nodes = mid; retired = lists }) (record { nodes = end; trees = ts p; retired = lists })
    step_end = record {
      nodes =
          guarantee_on op mid end end v.trees v.trees (ts p)
          (guarantee_set3 op mid v.trees left right p (y p) (z p) g mi mj mp f.differ ip jp inside_mid
          (subst (λ (m : NodeView). MayTurn op v.trees m (y p)) (sym at_i) (turn_left p))
          (subst (λ (m : NodeView). MayTurn op v.trees m (z p)) (sym at_j) (turn_right p))
          (subst (λ (m : NodeView). MayTurn op v.trees m g) (sym at_p) record { changes = changes_blank op (at v p) top refl (λ q other e. other (same_Some q op (sym e))); mine = may.mine }))
          (guarantee_record op end v.trees l.tree (grown p) lt_t (record_changes p)) inside_mid;
      points = points_each op mid end (length-set (set (set mid left (y p)) right (z p)) p g ∙ length-set (set mid left (y p)) right (z p) ∙ length-set mid left (y p))
          (each_set3 (λ k m. PointsSo op end (node_at mid k) m) mid left right p (y p) (z p) g mi mj mp f.differ ip jp
          (subst (λ (m : NodeView). PointsSo op end m (y p)) (sym at_i) (names_top p end l (y p) end_is refl refl))
          (subst (λ (m : NodeView). PointsSo op end m (z p)) (sym at_j) (names_top p end r (z p) end_is refl refl))
          (subst (λ (m : NodeView). PointsSo op end m g) (sym at_p) (names_same op end b g refl refl))
          (λ k lk ni nj np. names_same op end (node_at mid k) (node_at mid k) refl refl));
      lost = each_set3 (λ k m. LosesHeld (node_at mid k) m) mid left right p (y p) (z p) g mi mj mp f.differ ip jp
          (subst (λ (m : NodeView). LosesHeld m (y p)) (sym at_i) (lost_none l)) (subst (λ (m : NodeView). LosesHeld m (z p)) (sym at_j) (lost_none r))
          (subst (λ (m : NodeView). LosesHeld m g) (sym at_p) (lost_blank (at v p) top)) (λ k lk ni nj np. lost_none (node_at mid k));
    }

    steps_old : StepsFrom least op v (record { nodes = old; trees = ts p; retired = lists })
    steps_old = steps_given v (record { nodes = old; trees = ts p; retired = lists }) least op p top lists sound.arena.nodes vacant (inner_out v least p is_chosen) may.mine
        (subst (λ (ns : List NodeView). Guarantee op (record v { nodes = mid; retired = lists }) (record { nodes = ns; trees = ts p; retired = lists }))
        (set_out xs left right p (y p) (z p) b g ip jp) step_end)

    -- the same, named by what stands there meanwhile
    is_old : old ≡ placed (Some p) (halves p) top
    is_old = ap (λ (m : NodeView). set (halves p) p (again m top)) (sym at_halves)

  -- the arena with the root, wherever it comes
  abbrev root_at : Option ℕ → ArenaView
  root_at place = let h = number_of place n in record { nodes = placed place (halves h) top; trees = ts h; retired = lists }

  old_lists : chosen v.retired.interiors least ≡ None → lists ≡ v.retired
  old_lists e = ap (λ (list : List Retired). record v.retired { interiors = list }) (none_left_out v.retired.interiors least e)

  pub sound_grown : (chosen v.retired.interiors least ≡ None → length xs + 1 ≤ more.nodes) → length xs ≤ more.nodes → length v.trees ≤ more.trees
      → ArenaInvariant (with_root_at v left right least op).nodes (with_root_at v left right least op).trees lists more
  sound_grown room_new enough trees_enough = by (chosen v.retired.interiors least) refl
    where
      by : (place : Option ℕ) → chosen v.retired.interiors least ≡ place → ArenaInvariant (root_at place).nodes (root_at place).trees lists more
      by None e = subst (λ (gone : RetiredPlaces). ArenaInvariant new (ts n) gone more) (sym (old_lists e)) (sound_new (room_new e) trees_enough)
      by (Some p) e = subst (λ (ns : List NodeView). ArenaInvariant ns (ts p) lists more) (is_old p e) (sound_old p e enough trees_enough)

  pub settled_grown : let u = with_root_at v left right least op in IsSettled u.nodes (interior_number least v) (at u (interior_number least v))
  settled_grown = by (chosen v.retired.interiors least) refl
    where
      by : (place : Option ℕ) → chosen v.retired.interiors least ≡ place → IsSettled (root_at place).nodes (number_of place n) (at (root_at place) (number_of place n))
      by None e = settled_new
      by (Some p) e = subst (λ (ns : List NodeView). IsSettled ns p (node_at ns p)) (is_old p e) (settled_old p e)

  pub steps_grown : StepsFrom least op v (with_root_at v left right least op)
  steps_grown = by (chosen v.retired.interiors least) refl
    where
      by : (place : Option ℕ) → chosen v.retired.interiors least ≡ place → StepsFrom least op v (root_at place)
      by None e = subst (λ (gone : RetiredPlaces). StepsFrom least op v (record { nodes = new; trees = ts n; retired = gone })) (sym (old_lists e))
          (steps_from_none least op v (with_root v left right op) step_new)
      by (Some p) e = subst (λ (ns : List NodeView). StepsFrom least op v (record { nodes = ns; trees = ts p; retired = lists })) (is_old p e) (steps_old p e)

  pub content_grown : content (with_root_at v left right least op).trees (with_root_at v left right least op).nodes ≡ content v.trees v.nodes
  content_grown = by (chosen v.retired.interiors least) refl
    where
      by : (place : Option ℕ) → chosen v.retired.interiors least ≡ place → content (root_at place).trees (root_at place).nodes ≡ content v.trees v.nodes
      by None e = content_new
      by (Some p) e = ap (content (ts p)) (sym (is_old p e)) ∙ content_old p e

  -- the nodes as the call leaves them
  abbrev top_of : Parts → NodeView
  top_of version = record top { version = record version { locked = true } }

  pub are_grown : (vs : List NodeView) (number : ℕ) (version : Parts) → number ≡ interior_number least v
      → version ≡ version_in (chosen v.retired.interiors least) xs (fresh_parts true false)
      → (number < length xs → vs ≡ set (halves number) number (top_of version)) → (number ≡ length xs → vs ≡ halves number ++ top_of version ∷ [])
      → vs ≡ (with_root_at v left right least op).nodes
  are_grown vs number version is_number is_version old_place new_place = by (chosen v.retired.interiors least) refl is_number is_version
    where
      by : (place : Option ℕ) → chosen v.retired.interiors least ≡ place → number ≡ number_of place n → version ≡ version_in place xs (fresh_parts true false)
          → vs ≡ (root_at place).nodes
      by None e number_is version_is =
          new_place number_is ∙ ap (λ h. halves h ++ top_of version ∷ []) number_is ∙ ap (λ (w : Parts). halves n ++ top_of w ∷ []) version_is
      by (Some p) e number_is version_is =
          old_place (omega (arith, number_is, (vacant p e).there)) ∙ ap (λ h. set (halves h) h (top_of version)) number_is
          ∙ ap (λ (w : Parts). set (halves p) p (top_of w)) version_is ∙ is_old p e
