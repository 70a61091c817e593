-- The whole invariant, the guarantee and the contents where a slot becomes a link and its tree goes live: for `mark_layer`.
use Rattle.mt_border.specs.Keeps.{KeepsEntries}
use Rattle.std.proofs.{Common.{◌≡◌, ◌≢◌, ℕ, ◌<◌, ◌++◌, List, length, get_or, set, Some, refl, sym, ap, subst, ◌∙◌, inl, inr, arith}, lemmas.Bool.cases_eq}
use Rattle.std.proofs.{lemmas.Option.none-some, lemmas.List.{length-set, get_or-set_same, get_or-set_other}}
use Rattle.mt_slices.specs.{Slices.piece_bytes, declared.mark.Mark.TheVariants.Long}
use Rattle.mt_rows.specs.Rows.{Bytes}
use Rattle.mt_border.{specs.{declared.entry.Entry.Entry, Held.{Pair, Unstable, Link}, Entry.{CanHold, pair_of}}, proofs.Edits.any_entry}
use Rattle.mt_arena.specs.Idle.{Rooms, has_ended}
use Rattle.mt_arena.specs.{declared.tree.Tree.Tree, declared.tree.Standing.TheVariants.Live, NodeView.{NodeView, node_at}}
use Rattle.mt_arena.specs.{Forests.{IsForest, tree_at, layer_of}, Layers.{AreLayered, AreLinks, HasLink, LeadsTo, slot_at}, Contents.content}
use Rattle.mt_arena.specs.{Invariant.ArenaInvariant, Arena.{ArenaView, Guarantee}, Accesses.{at, tree_of}, Layering.{MayGoLive, with_held, with_link}}
use Rattle.mt_arena.proofs.{Pairs.{here, there}, Locks.is_held, Quiet.nodes_slots, Ranged.ranged_marked}
use Rattle.mt_arena.proofs.{Homes.{forest_set, begun, live_keys}, Retiring.{retired_set, retired_tree_set}, NamedLate.{named_set, named_tree_set}}
use Rattle.mt_arena.proofs.{Slots.{within_all, changes_slots, lost_held}, Guarantees.{guarantee_on, guarantee_set, points_set, lost_set}, TopNodes.guarantee_record}
use Rattle.mt_arena.proofs.{HeldOtherwise.{MayHoldThis, slots_are, border_after, inside_after, keys_after}, NoLayer.link_would_be_here}
use Rattle.mt_arena.proofs.{LiveTree.{alive, trees_size, tree_t, same_prefix, live_stays, was_live, forest_live, goes_live}, GoingLive.layered}

-- two links that are one lead to one tree
same_link : {t u : ℕ} → Link t ≡ Link u → t ≡ u
same_link same = cc

module _ (v : ArenaView) (room : Rooms) (node i t op : ℕ) (key : Bytes) (pair : Pair) (sound : ArenaInvariant v.nodes v.trees v.retired room) (may : MayGoLive v node i t op key pair) where
  abbrev xs : List NodeView
  xs = v.nodes

  abbrev n : NodeView
  n = at v node

  abbrev e : Entry
  e = slot_at n i

  abbrev new_e : Entry
  new_e = record e { held = Link t }

  abbrev y : NodeView
  y = with_held n i (Link t)

  abbrev new : List NodeView
  new = set xs node y

  abbrev tree : Tree
  tree = tree_at v.trees t

  abbrev ts : List Tree
  ts = set v.trees t (alive tree)

  abbrev above : Bytes
  above = (tree_of v node).prefix

  forest : IsForest xs v.trees
  forest = sound.arena.forest

  ln : node < length xs
  ln = may.slot.held.there

  size : length new ≡ length xs
  size = length-set xs node y

  pub lt : t < length v.trees
  lt = subst (λ u. u < length v.trees) may.layer.made.tree (forest.tree_there (tree_at v.trees t).root may.layer.made.there)

  -- the slot's mark is that of a longer key
  can : CanHold e.mark (Unstable pair (Some t))
  can = subst (CanHold e.mark) may.slot.is ((sound.arena.nodes.each node ln).slots.border.each i any_entry may.slot.in_range).held

  holds : MayHoldThis e (Link t)
  holds = record { can = can.0; goes_on = λ other is. absurd (none-some other is) }

  was_no_link : (u : ℕ) → e.held ≢ Link u
  was_no_link u is = absurd (let both = sym may.slot.is ∙ is in cc)

  slots_new : y.slots ≡ set n.slots i new_e
  slots_new = slots_are v room node i op sound (Unstable pair (Some t)) may.slot (Link t) holds

  -- no live tree has the prefix
  fresh : (u : ℕ) → (tree_at v.trees u).standing ≡ Live → (tree_at v.trees u).prefix ≢ tree.prefix
  fresh u live same = link_would_be_here xs v.trees n.tree e.slice node i sound.arena may.slot.tree_live (record {
    border = record { there = ln; live = may.slot.live; level = may.slot.border; tree_is = refl };
    in_range = may.slot.in_range;
    slice_is = refl;
    mark_is = can.0;
  }) was_no_link u live (same ∙ may.prefix)

  -- links
  leads_on : (m : NodeView) (j u : ℕ) → LeadsTo v.trees m j u → LeadsTo ts m j u
  leads_on m j u was = record {
    from = live_stays xs v.trees t op forest lt may.layer.mine fresh m.tree was.from;
    there = omega (arith, was.there, trees_size xs v.trees t op forest lt may.layer.mine fresh);
    live = live_stays xs v.trees t op forest lt may.layer.mine fresh u was.live;
    prefix = same_prefix xs v.trees t op forest lt may.layer.mine fresh u ∙ was.prefix
        ∙ ap (λ (p : Bytes). p ++ piece_bytes (slot_at m j).slice Long) (sym (same_prefix xs v.trees t op forest lt may.layer.mine fresh m.tree));
  }

  slot_here : slot_at y i ≡ new_e
  slot_here = ap (λ (es : List Entry). get_or es i any_entry) slots_new ∙ get_or-set_same n.slots i new_e any_entry may.slot.in_range

  slot_there : (j : ℕ) → j ≢ i → slot_at y j ≡ slot_at n j
  slot_there j other = ap (λ (es : List Entry). get_or es j any_entry) slots_new ∙ get_or-set_other n.slots i j new_e any_entry other

  slots_size : length y.slots ≡ length n.slots
  slots_size = ap length slots_new ∙ length-set n.slots i new_e

  this_leads : LeadsTo ts y i t
  this_leads = record {
    from = live_stays xs v.trees t op forest lt may.layer.mine fresh n.tree may.slot.tree_live;
    there = omega (arith, lt, trees_size xs v.trees t op forest lt may.layer.mine fresh);
    live = ap (λ (w : Tree). w.standing) (tree_t xs v.trees t op forest lt may.layer.mine fresh);
    prefix = same_prefix xs v.trees t op forest lt may.layer.mine fresh t ∙ may.prefix
        ∙ ap (λ (p : Bytes). p ++ piece_bytes e.slice Long) (sym (same_prefix xs v.trees t op forest lt may.layer.mine fresh n.tree))
        ∙ ap (λ (d : Entry). (tree_at ts n.tree).prefix ++ piece_bytes d.slice Long) (sym slot_here);
  }

  node_links : AreLinks ts y
  node_links live j u within is = elim (cases_eq j i) [
    | inl same ↦
        let u_is : t ≡ u = same_link (ap (λ (d : Entry). d.held) (sym slot_here) ∙ ap (λ k. (slot_at y k).held) (sym same) ∙ is) in
        subst (λ k. LeadsTo ts y k u) (sym same) (subst (LeadsTo ts y i) u_is this_leads)
    | inr other ↦
        let was = leads_on n j u (sound.arena.layers.links node ln may.slot.live j u (omega (arith, within, slots_size)) (ap (λ (d : Entry). d.held) (sym (slot_there j other)) ∙ is)) in
        record {
          from = was.from;
          there = was.there;
          live = was.live;
          prefix = was.prefix ∙ ap (λ (d : Entry). (tree_at ts n.tree).prefix ++ piece_bytes d.slice Long) (sym (slot_there j other));
        }
  ]

  links_new : (k : ℕ) → k < length xs → AreLinks ts (node_at new k)
  links_new k lk = elim (cases_eq k node) [
    | inl is ↦ rw (is, here xs node y ln) node_links
    | inr other ↦ rw (there xs node k y other) (λ live j u within is. leads_on (at v k) j u (sound.arena.layers.links k lk live j u within is))
  ]

  this_link : HasLink new t
  this_link =
      let now = here xs node y ln in
      record {
        node = node;
        slot = i;
        there = omega (arith, ln, size);
        live = ap (λ (m : NodeView). m.version.deleted) now ∙ may.slot.live;
        in_range = subst (λ (m : NodeView). i < length m.slots) (sym now) (omega (arith, slots_size, may.slot.in_range));
        is = ap (λ (m : NodeView). (slot_at m i).held) now ∙ ap (λ (d : Entry). d.held) slot_here;
      }

  linked_still : (u : ℕ) → HasLink xs u → HasLink new u
  linked_still u h = elim (cases_eq h.node node) [
    | inl is ↦
        let now = here xs node y ln in
        let held : (slot_at n h.slot).held ≡ Link u = subst (λ k. (slot_at (at v k) h.slot).held ≡ Link u) is h.is in
        let in_range : h.slot < length n.slots = subst (λ k. h.slot < length (at v k).slots) is h.in_range in
        let other : h.slot ≢ i = λ same. was_no_link u (subst (λ j. (slot_at n j).held ≡ Link u) same held) in
        record {
          node = node;
          slot = h.slot;
          there = omega (arith, ln, size);
          live = ap (λ (m : NodeView). m.version.deleted) now ∙ may.slot.live;
          in_range = subst (λ (m : NodeView). h.slot < length m.slots) (sym now) (omega (arith, slots_size, in_range));
          is = ap (λ (m : NodeView). (slot_at m h.slot).held) now ∙ ap (λ (d : Entry). d.held) (slot_there h.slot other) ∙ held;
        }
    | inr other ↦
        let now = there xs node h.node y other in
        record {
          node = h.node;
          slot = h.slot;
          there = omega (arith, h.there, size);
          live = ap (λ (m : NodeView). m.version.deleted) now ∙ h.live;
          in_range = subst (λ (m : NodeView). h.slot < length m.slots) (sym now) h.in_range;
          is = ap (λ (m : NodeView). (slot_at m h.slot).held) now ∙ h.is;
        }
  ]

  layers_new : AreLayered new ts
  layers_new = record {
    links = λ k lk. links_new k (omega (arith, lk, size));
    linked = λ u lu live deep. elim (cases_eq u t) [
      | inl is ↦ subst (HasLink new) (sym is) this_link
      | inr other ↦ linked_still u (sound.arena.layers.linked u (omega (arith, lu, trees_size xs v.trees t op forest lt may.layer.mine fresh))
          (was_live xs v.trees t op forest lt may.layer.mine fresh u other live) (λ none. deep (same_prefix xs v.trees t op forest lt may.layer.mine fresh u ∙ none)))
    ];
  }

  forest_new : IsForest new v.trees
  forest_new =
      forest_set xs v.trees node y ln forest (record { tree = refl; level = refl; low = refl; deleted = refl; flag = refl; root = λ h. record { live = h.live; flag = h.flag; parentless = h.parentless; low = h.low; reach = h.reach } })
      (live_keys v.trees y may.slot.live (keys_after v room node i op sound (Unstable pair (Some t)) may.slot (Link t) holds))

  pub sound_live : ArenaInvariant new ts v.retired room
  sound_live = record {
    arena = record {
      nodes =
          nodes_slots xs node y.slots y.cells ln sound.arena.nodes (is_held op n may.slot.held.holder) may.slot.border (border_after v room node i op sound (Unstable pair (Some t)) may.slot (Link t) holds)
          (within_all n y.slots (inside_after v room node i op sound (Unstable pair (Some t)) may.slot (Link t) holds));
      ranged = ranged_marked xs node y.slots y.cells y.version ln sound.arena.ranged refl (λ marked. marked) (λ whole. whole);
      forest = forest_live new v.trees t op forest_new lt may.layer.mine fresh;
      layers = layers_new;
    };
    retired = retired_tree_set new v.trees v.retired t (alive tree) lt (retired_set xs v.trees v.retired node y ln sound.retired refl refl) (sym (ap has_ended may.layer.made.made));
    named = named_tree_set new v.trees v.retired t (alive tree) lt (retired_set xs v.trees v.retired node y ln sound.retired refl refl) (λ dead. refl)
        (named_set xs v.trees v.retired node y ln sound.retired (λ out. record { next = refl; children = refl }) sound.named);
    enough = omega (arith, size, sound.enough);
    trees_enough = omega (arith, length-set v.trees t (alive tree), sound.trees_enough);
  }

  -- what others rely on
  pub step_live : KeepsEntries n.slots n.cells y.slots y.cells → Guarantee op v (with_link v node i t)
  step_live keeps = record {
    nodes = guarantee_on op xs new new v.trees v.trees ts
        (guarantee_set op xs v.trees node y ln (changes_slots op n y.slots y.cells may.slot.held.holder (λ still. keeps)) (λ q made. absurd (let both = sym may.slot.tree_live ∙ made in cc)))
        (guarantee_record op new v.trees t (alive tree) lt (goes_live xs v.trees t op forest lt may.layer.mine fresh)) forest.tree_there;
    points = points_set op xs node y ln (record { previous = λ j is other. is; parent = λ j is other. is });
    lost = lost_set xs node y ln (lost_held n i new_e (Link t));
  }

  -- the tree has the slot's pair from now on
  pub content_live : content ts new ≡ content v.trees xs
  content_live = layered xs v.trees sound.arena (begun xs v.trees forest) key (layer_of above) node i pair
      (record { there = ln; live = may.slot.live; tree_live = may.slot.tree_live; in_range = may.slot.in_range; has = may.has; pair_is = ap pair_of may.slot.is })
      (layer_of tree.prefix) t tree.root may.layer.made (alive tree) refl refl y new_e refl (record { slots = slots_new; deleted = refl; tree = refl })
