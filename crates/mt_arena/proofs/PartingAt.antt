-- The whole invariant, the contents and what the step leaves to others where a full parent is parted and its right half comes into an old place or a new
-- one: for `split_interior`.
use Rattle.std.proofs.Common.{◌≡◌, ◌≢◌, ℕ, ◌+◌, ◌<◌, ◌≤◌, List, length, set, Option, Some, None, true, false, refl, sym, ap, subst, ◌∙◌, inl, inr, arith, [], ◌∷◌, ◌++◌}
use Rattle.std.proofs.{lemmas.Bool.cases_eq, lemmas.List.length-set, lemmas.Option.same_Some}
use Rattle.mt_version.specs.Parts.{Parts, fresh_parts}
use Rattle.mt_arena.specs.{declared.retired.Retired.Retired, NodeView.{NodeView, node_at}, Nodes.AreNodes, Contents.content}
use Rattle.mt_arena.specs.{Idle.{RetiredPlaces, Rooms, AreRetired, chosen, number_of, given_interior}, Given.{StepsFrom, AreForgotten}, Guarantee.LosesHeld}
use Rattle.mt_arena.specs.{Invariant.ArenaInvariant, Arena.{ArenaView, Guarantee}, Accesses.at, Edits.{splitting, again, placed, version_in}}
use Rattle.mt_arena.specs.{Splits.{Inserts, exact, inner_left, inner_right}, Several.{MaySplitInner, wide_parent, parts_left, interior_number, with_parts_at}}
use Rattle.mt_arena.proofs.{Pairs.{here, there}, Child.left_child}
use Rattle.mt_arena.proofs.{Guarantees.{PointsSo, lost_none}, Naming.{names_same, points_each, each_set3}}
use Rattle.mt_arena.proofs.{Several.{MayTurn, guarantee_set3}}
use Rattle.mt_arena.proofs.Parting.{kept, ranges, apart, forest_left, stands, turn_parent, turn_left, sound_parts, step_parts, content_parts}
use Rattle.mt_arena.proofs.Vacant.{IsVacant, apart_vacant, set_out, forest_vacant, layers_vacant, content_vacant}
use Rattle.mt_arena.proofs.Vacant.{blank_for, changes_blank, lost_blank}
use Rattle.mt_arena.proofs.Giving.{none_left_out, steps_from_none, chosen_inner, inner_out, inner_kind, inner_given, named_inner_given, steps_given}
use Rattle.mt_arena.proofs.PartingAgain.{nodes_parts_again, vacant_halves, at_halves, ranged_parts_again}

module _ (v : ArenaView) (room more : Rooms) (parent left right least op : ℕ) (sound : ArenaInvariant v.nodes v.trees v.retired room) (may : MaySplitInner v parent left right op) (forgotten : AreForgotten least v) where
  abbrev x : NodeView
  x = at v parent

  abbrev w : NodeView
  w = wide_parent v.nodes parent right

  abbrev y : NodeView
  y = inner_left w

  abbrev z : NodeView
  z = exact (at v left)

  abbrev halves : List NodeView
  halves = parts_left v.nodes parent left right

  abbrev lists : RetiredPlaces
  lists = given_interior v.retired least

  -- in the old place
  module _ (p : ℕ) (is_chosen : chosen v.retired.interiors least ≡ Some p) where
    abbrev u : NodeView
    u = again (at v p) (inner_right w op)

    abbrev new : List NodeView
    new = set halves p u

    vacant : IsVacant v.nodes p
    vacant = chosen_inner v least p sound.retired is_chosen forgotten

    inner : (at v p).version.border ≡ false
    inner = inner_kind v least p sound.arena.nodes sound.retired is_chosen

    vacant_h : IsVacant halves p
    vacant_h = vacant_halves v.nodes parent left right p op sound.arena.nodes may.inserts may.full may.next vacant inner

    sound_old : length v.nodes ≤ more.nodes → length v.trees ≤ more.trees → ArenaInvariant new v.trees lists more
    sound_old enough trees_enough =
        let k = kept v room more parent left right op sound may in
        let has = ranges v room more parent left right op sound may in
        record {
          arena = record {
            nodes = nodes_parts_again v.nodes parent left right p op sound.arena.nodes may.inserts may.full may.next vacant inner;
            ranged = ranged_parts_again v.nodes parent left right p op sound.arena.nodes may.inserts may.full may.next vacant inner sound.arena.ranged has.0 has.1;
            forest = forest_vacant halves v.trees p u vacant_h refl (forest_left v room more parent left right op sound may) (sound.arena.forest.tree_there parent may.held.there)
                (stands v room more parent left right op sound may) refl (λ _ border over. absurd (omega (arith, border, may.inserts.right_level)));
            layers = layers_vacant halves v.trees p u vacant_h refl (k.layers sound.arena.layers);
          };
          retired = inner_given halves v.trees v.retired least p u (k.retired sound.retired) is_chosen refl;
          named = named_inner_given halves v.trees v.retired least p u (k.retired sound.retired) is_chosen (k.named sound.retired sound.named);
          enough = omega (arith, length-set halves p u, k.count, enough);
          trees_enough = trees_enough;
        }

    content_old : content v.trees new ≡ content v.trees v.nodes
    content_old = content_vacant halves v.trees p u vacant_h refl ∙ (kept v room more parent left right op sound may).content

    -- as if a blank node had stood there
    abbrev b : NodeView
    b = blank_for (at v p) (inner_right w op)

    abbrev mid : List NodeView
    mid = set v.nodes p b

    abbrev end : List NodeView
    end = set (set (set mid parent y) left z) p u

    ip : parent ≢ p
    ip = apart_vacant v.nodes parent p vacant may.inserts.parent_live

    jp : left ≢ p
    jp = apart_vacant v.nodes left p vacant (left_child v.nodes parent left right sound.arena.nodes may.inserts).live

    ij : parent ≢ left
    ij = apart v room more parent left right op sound may

    size : length mid ≡ length v.nodes
    size = length-set v.nodes p b

    li : parent < length mid
    li = omega (arith, size, may.held.there)

    lj : left < length mid
    lj = omega (arith, size, may.left_held.there)

    lp : p < length mid
    lp = omega (arith, size, vacant.there)

    at_i : node_at mid parent ≡ x
    at_i = there v.nodes p parent b ip

    at_j : node_at mid left ≡ at v left
    at_j = there v.nodes p left b jp

    at_p : node_at mid p ≡ b
    at_p = here v.nodes p b vacant.there

    inside : (k : ℕ) → k < length mid → (node_at mid k).tree < length v.trees
    inside k lk = elim (cases_eq k p) [
      | inl is ↦ rw (is, at_p) (sound.arena.forest.tree_there parent may.held.there)
      | inr other ↦ rw (there v.nodes p k b other) (sound.arena.forest.tree_there k (omega (arith, lk, size)))
    ]

    turn_new : MayTurn op v.trees b u
    turn_new = record { changes = changes_blank op (at v p) (inner_right w op) refl (λ q other e. other (same_Some q op (sym e))); mine = may.mine }

    step_end : Guarantee op (record v { nodes = mid; retired = lists }) (record v { nodes = end; retired = lists })
    step_end = record {
      nodes = guarantee_set3 op mid v.trees parent left p y z u li lj lp ij ip jp inside
          (subst (λ (n : NodeView). MayTurn op v.trees n y) (sym at_i) (turn_parent v room more parent left right op sound may))
          (subst (λ (n : NodeView). MayTurn op v.trees n z) (sym at_j) (turn_left v room more parent left right op sound may))
          (subst (λ (n : NodeView). MayTurn op v.trees n u) (sym at_p) turn_new);
      points = points_each op mid end (length-set (set (set mid parent y) left z) p u ∙ length-set (set mid parent y) left z ∙ length-set mid parent y)
          (each_set3 (λ k n. PointsSo op end (node_at mid k) n) mid parent left p y z u li lj lp ij ip jp
          (subst (λ (n : NodeView). PointsSo op end n y) (sym at_i) (names_same op end x y refl refl))
          (subst (λ (n : NodeView). PointsSo op end n z) (sym at_j) (names_same op end (at v left) z refl refl))
          (subst (λ (n : NodeView). PointsSo op end n u) (sym at_p) (names_same op end b u refl refl))
          (λ k lk ni nj np. names_same op end (node_at mid k) (node_at mid k) refl refl));
      lost = each_set3 (λ k n. LosesHeld (node_at mid k) n) mid parent left p y z u li lj lp ij ip jp
          (subst (λ (n : NodeView). LosesHeld n y) (sym at_i) (lost_none x)) (subst (λ (n : NodeView). LosesHeld n z) (sym at_j) (lost_none (at v left)))
          (subst (λ (n : NodeView). LosesHeld n u) (sym at_p) (lost_blank (at v p) (inner_right w op))) (λ k lk ni nj np. lost_none (node_at mid k));
    }

    steps_old : StepsFrom least op v (record v { nodes = new; retired = lists })
    steps_old = steps_given v (record v { nodes = new; retired = lists }) least op p (inner_right w op) lists sound.arena.nodes vacant (inner_out v least p is_chosen) may.mine
        (subst (λ (ns : List NodeView). Guarantee op (record v { nodes = mid; retired = lists }) (record v { nodes = ns; retired = lists }))
        (set_out v.nodes parent left p y z b u ip jp) step_end)

    -- the same, named by what stands there meanwhile
    pub is_old : new ≡ placed (Some p) halves (inner_right w op)
    is_old = ap (λ (n : NodeView). set halves p (again n (inner_right w op))) (sym (at_halves v.nodes parent left right p op sound.arena.nodes may.inserts may.full may.next vacant inner))

  -- wherever it comes
  pub sound_parts_at : (chosen v.retired.interiors least ≡ None → length v.nodes + 1 ≤ more.nodes) → length v.nodes ≤ more.nodes → length v.trees ≤ more.trees
      → ArenaInvariant (with_parts_at v parent left right least op).nodes v.trees lists more
  sound_parts_at room_new enough trees_enough = by (chosen v.retired.interiors least) refl
    where
      by : (place : Option ℕ) → chosen v.retired.interiors least ≡ place → ArenaInvariant (placed place halves (inner_right w op)) v.trees lists more
      by None e = subst (λ (l : List Retired). ArenaInvariant (placed None halves (inner_right w op)) v.trees (record v.retired { interiors = l }) more) (sym (none_left_out v.retired.interiors least e))
          (sound_parts v room more parent left right op sound may (room_new e) trees_enough)
      by (Some p) e = subst (λ (ns : List NodeView). ArenaInvariant ns v.trees lists more) (is_old p e) (sound_old p e enough trees_enough)

  pub steps_parts_at : StepsFrom least op v (with_parts_at v parent left right least op)
  steps_parts_at = by (chosen v.retired.interiors least) refl
    where
      by : (place : Option ℕ) → chosen v.retired.interiors least ≡ place → StepsFrom least op v (record v { nodes = placed place halves (inner_right w op); retired = lists })
      by None e = subst (λ (l : List Retired). StepsFrom least op v (record v { nodes = placed None halves (inner_right w op); retired = record v.retired { interiors = l } })) (sym (none_left_out v.retired.interiors least e))
          (steps_from_none least op v (record v { nodes = placed None halves (inner_right w op) }) (step_parts v room more parent left right op sound may))
      by (Some p) e = subst (λ (ns : List NodeView). StepsFrom least op v (record v { nodes = ns; retired = lists })) (is_old p e) (steps_old p e)

  pub content_parts_at : content v.trees (with_parts_at v parent left right least op).nodes ≡ content v.trees v.nodes
  content_parts_at = by (chosen v.retired.interiors least) refl
    where
      by : (place : Option ℕ) → chosen v.retired.interiors least ≡ place → content v.trees (placed place halves (inner_right w op)) ≡ content v.trees v.nodes
      by None e = content_parts v room more parent left right op sound may
      by (Some p) e = ap (content v.trees) (sym (is_old p e)) ∙ content_old p e

-- the nodes as the call leaves them
pub are_parts_at : (v : ArenaView) (new : List NodeView) (parent left right least op number : ℕ) (version : Parts) → AreNodes v.nodes
    → AreRetired v.nodes v.trees v.retired → AreForgotten least v → Inserts v.nodes parent left right
    → number ≡ interior_number least v → version ≡ version_in (chosen v.retired.interiors least) v.nodes (fresh_parts false false)
    → (number < length v.nodes → new ≡ set (parts_left v.nodes parent left right) number (record (inner_right (wide_parent v.nodes parent right) op) { version = record version { locked = true; splitting = true } }))
    → (number ≡ length v.nodes → new ≡ parts_left v.nodes parent left right ++ (record (inner_right (wide_parent v.nodes parent right) op) { version = record version { locked = true; splitting = true } }) ∷ [])
    → new ≡ (with_parts_at v parent left right least op).nodes
are_parts_at v new parent left right least op number version nodes retired forgotten f is_number is_version old_place new_place =
    by (chosen v.retired.interiors least) refl is_number is_version
  where
    by : (place : Option ℕ) → chosen v.retired.interiors least ≡ place → number ≡ number_of place (length v.nodes) → version ≡ version_in place v.nodes (fresh_parts false false)
        → new ≡ placed place (parts_left v.nodes parent left right) (inner_right (wide_parent v.nodes parent right) op)
    by None e number_is version_is = new_place number_is ∙ ap (λ (w : Parts). parts_left v.nodes parent left right ++ (record (inner_right (wide_parent v.nodes parent right) op) { version = record w { locked = true; splitting = true } }) ∷ []) version_is
    by (Some p) e number_is version_is =
        let vacant = chosen_inner v least p retired e forgotten in
        let ip = apart_vacant v.nodes parent p vacant f.parent_live in
        let jp = apart_vacant v.nodes left p vacant (left_child v.nodes parent left right nodes f).live in
        let at : node_at (parts_left v.nodes parent left right) p ≡ node_at v.nodes p =
        there (set v.nodes parent (inner_left (wide_parent v.nodes parent right))) left p (exact (node_at v.nodes left)) (λ s. jp (sym s)) ∙ there v.nodes parent p (inner_left (wide_parent v.nodes parent right)) (λ s. ip (sym s)) in
        old_place (omega (arith, number_is, vacant.there))
        ∙ ap (λ k. set (parts_left v.nodes parent left right) k (record (inner_right (wide_parent v.nodes parent right) op) { version = record version { locked = true; splitting = true } })) number_is
        ∙ ap (λ (w : Parts). set (parts_left v.nodes parent left right) p (record (inner_right (wide_parent v.nodes parent right) op) { version = record w { locked = true; splitting = true } })) version_is
        ∙ ap (λ (n : NodeView). set (parts_left v.nodes parent left right) p (again n (inner_right (wide_parent v.nodes parent right) op))) (sym at)
