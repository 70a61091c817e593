-- A full parent is split as the right half of its child comes in: it and its own right half are the last halves from then on, and those
-- below may be given back. For `interior_split`.
use Rattle.std.proofs.Common.{◌≡◌, ◌≢◌, ◌⊎◌, ℕ, ◌+◌, ◌-◌, ◌<◌, ◌≤◌, List, [], ◌∷◌, ◌++◌, length, set, Option, Some, None, true, false, refl, sym, ap, subst, ◌∙◌, inl, inr, arith, length-append, length-drop}
use Rattle.std.proofs.{lemmas.Bool.cases_eq, lemmas.List.{length-set, get_or_append_left}, Math.Seq.get_or-append_seam, lemmas.List.Edits.length-insert}
use Rattle.std.proofs.lemmas.Option.{same_Some}
use Rattle.mt_version.specs.Parts.{Parts}
use Rattle.mt_interior.{specs.Places.place_of, proofs.CallerLemmas.place_of-le-length}
use Rattle.mt_arena.specs.{NodeView.{NodeView, node_at}, Nodes.{AreNodes, HasChild, HasRange}, Forests.tree_at, Lags.{IsUnder, AreFollowers}, Edits.{again, placed}}
use Rattle.mt_arena.specs.{Splits.{Inserts, exact, inner_left, inner_right}, Several.{MaySplitInner, wide_parent, parts_left, interior_number, with_parts_at}}
use Rattle.mt_arena.specs.{Idle.{RetiredPlaces, AreRetired, chosen, number_of}, Given.AreForgotten, Arena.ArenaView, Accesses.at}
use Rattle.mt_arena.proofs.{Pairs.{here, there, before, last as pushed}, Lags.child_parted, Parting.ranges_parts, Giving.chosen_inner}
use Rattle.mt_arena.proofs.Vacant.{IsVacant, IsUnnamed, apart_vacant, unnamed_vacant, unnamed_new}
use Rattle.mt_operation.specs.{declared.splits.Halves.Halves, declared.splits.Splits.Splits}
use Rattle.mt_insert.specs.KeptSplits.{halves_at, last_of, HoldsSplits, MayReturnBoth, AreReturnable, AreParted, NothingLags, IsAtParent, IsAtInteriorSplit, IsChildFrom, IsAtReparent}
use Rattle.mt_insert.specs.SplitEdits.{HasOneMore}
use Rattle.mt_insert.proofs.InsertingChildren.{KeepsNames, KeepNames, followed_before, named_before, inserts, open_parent, tree_there, stable, size, at_p, at_l, at_other, children_then, halves_return}

-- the halves of one more split are the last ones, and the others are as they were
module _ (old new : Splits) (left right : ℕ) (one : HasOneMore old new left right) where
  abbrev more : Halves
  more = record { left = left; right = right }

  pub count_more : length new.halves.items ≡ length old.halves.items + 1
  count_more = ap (λ (hs : List Halves). length hs) one.halves ∙ length-append old.halves.items (more ∷ [])

  pub halves_before : (i : ℕ) → i < length old.halves.items → halves_at new.halves.items i ≡ halves_at old.halves.items i
  halves_before i lt =
      ap (λ (hs : List Halves). halves_at hs i) one.halves ∙ get_or_append_left old.halves.items (more ∷ []) (record { left = 0; right = 0 }) i lt

  pub halves_last : halves_at new.halves.items (length old.halves.items) ≡ more
  halves_last =
      ap (λ (hs : List Halves). halves_at hs (length old.halves.items)) one.halves ∙ get_or-append_seam old.halves.items more [] (record { left = 0; right = 0 })

  pub last_more : last_of new ≡ more
  last_more = ap (halves_at new.halves.items) {x = length new.halves.items - 1} {y = length old.halves.items} (omega (arith, count_more)) ∙ halves_last

-- the nodes as the parent is split: its right half has this number, and all but the parent, its child and the right half is as it was
pub record HasParts (v : ArenaView) (ys : List NodeView) (p l q h op : ℕ) : Type 0 where
  pub version : Parts
  pub no_root : version.root ≡ false
  pub live : version.deleted ≡ false
  pub marked : version.splitting ≡ true
  pub differ : p ≢ h
  pub more : length v.nodes ≤ length ys
  pub inside : h < length ys
  pub is_left : node_at ys p ≡ inner_left (wide_parent v.nodes p q)
  pub is_right : node_at ys h ≡ record (inner_right (wide_parent v.nodes p q) op) { version = version }
  pub is_child : node_at ys l ≡ exact (at v l)
  pub is_other : (j : ℕ) → j < length ys → j ≢ p → j ≢ l → j ≢ h → (j < length v.nodes) × (node_at ys j ≡ at v j)
  pub unheld : (j : ℕ) → j < length v.nodes → (at v j).holder ≡ Some op → j ≢ h
  pub unnamed : IsUnnamed v.nodes h

-- at InteriorSplit
module _ (v : ArenaView) (op : ℕ) (s : Splits) (nodes : AreNodes v.nodes) (k : IsAtInteriorSplit v op s) (next : (at v k.p).next ≡ None) where
  abbrev c : IsAtParent v op s k.p
  c = k.at_parent

  abbrev l : ℕ
  l = (last_of s).left

  abbrev q : ℕ
  q = (last_of s).right

  abbrev x : NodeView
  x = at v k.p

  abbrev wide : NodeView
  wide = wide_parent v.nodes k.p q

  abbrev y : NodeView
  y = inner_left wide

  abbrev t : NodeView
  t = inner_right wide op

  abbrev zs : List NodeView
  zs = parts_left v.nodes k.p l q

  comes_in : Inserts v.nodes k.p l q
  comes_in = inserts v op s k.p nodes c

  -- the parent may be split
  pub may_split : MaySplitInner v k.p l q op
  may_split = record {
    inserts = comes_in;
    held = c.parent.held;
    left_held = c.named.splits.parted.left.held;
    mine = open_parent v op s k.p nodes c;
    full = k.full;
    next = next;
  }

  keeps : KeepsNames x y
  keeps = record { previous = refl; parent = refl; deleted = refl; holder = refl }

  lp : k.p < length v.nodes
  lp = c.parent.held.there

  ll : l < length v.nodes
  ll = c.named.splits.parted.left.held.there

  size_z : length zs ≡ length v.nodes
  size_z = size v op s k.p nodes c y keeps

  z_parent : node_at zs k.p ≡ y
  z_parent = at_p v op s k.p nodes c y keeps

  z_child : node_at zs l ≡ exact (at v l)
  z_child = at_l v op s k.p nodes c y keeps

  z_other : (j : ℕ) → j ≢ k.p → j ≢ l → node_at zs j ≡ at v j
  z_other j np nl = at_other v op s k.p nodes c y keeps j np nl

  -- in a new place
  parts_new : HasParts v (zs ++ t ∷ []) k.p l q (length v.nodes) op
  parts_new =
      let size_y : length (zs ++ t ∷ []) ≡ length v.nodes + 1 = omega (arith, length-append zs (t ∷ []), size_z) in
      record {
        version = t.version;
        no_root = refl;
        live = refl;
        marked = refl;
        differ = λ e. omega (arith, lp, e);
        more = omega (arith, size_y);
        inside = omega (arith, size_y);
        is_left = before zs t k.p (omega (arith, lp, size_z)) ∙ z_parent;
        is_right = ap (node_at (zs ++ t ∷ [])) (sym size_z) ∙ pushed zs t;
        is_child = before zs t l (omega (arith, ll, size_z)) ∙ z_child;
        is_other = λ j lj np nl nh. let lt : j < length v.nodes = omega (arith, lj, nh, size_y) in (lt, before zs t j (omega (arith, lt, size_z)) ∙ z_other j np nl);
        unheld = λ j lj mine e. omega (arith, lj, e);
        unnamed = unnamed_new v.nodes nodes;
      }

  -- in an old one
  parts_old : (h : ℕ) → IsVacant v.nodes h → HasParts v (placed (Some h) zs t) k.p l q h op
  parts_old h vacant =
      let u = again (node_at zs h) t in
      let size_y : length (set zs h u) ≡ length v.nodes = length-set zs h u ∙ size_z in
      let ph = apart_vacant v.nodes k.p h vacant c.parent.live in
      let lh = apart_vacant v.nodes l h vacant c.named.splits.parted.left.live in
      record {
        version = u.version;
        no_root = refl;
        live = refl;
        marked = refl;
        differ = ph;
        more = omega (arith, size_y);
        inside = omega (arith, size_y, vacant.there);
        is_left = there zs h k.p u ph ∙ z_parent;
        is_right = here zs h u (omega (arith, vacant.there, size_z));
        is_child = there zs h l u lh ∙ z_child;
        is_other = λ j lj np nl nh. (omega (arith, lj, size_y), there zs h j u nh ∙ z_other j np nl);
        unheld = λ j lj mine e. absurd (let both = sym mine ∙ ap (λ b. (at v b).holder) e ∙ vacant.free in cc);
        unnamed = unnamed_vacant v.nodes h nodes vacant;
      }

  -- wherever it comes
  pub has_parts : (least : ℕ) → AreRetired v.nodes v.trees v.retired → AreForgotten least v
      → HasParts v (with_parts_at v k.p l q least op).nodes k.p l q (interior_number least v) op
  has_parts least retired forgotten = by (chosen v.retired.interiors least) refl
    where
      by : (place : Option ℕ) → chosen v.retired.interiors least ≡ place → HasParts v (placed place zs t) k.p l q (number_of place (length v.nodes)) op
      by None e = parts_new
      by (Some h) e = parts_old h (chosen_inner v least h retired e forgotten)

  ranges : HasRange y × HasRange t
  ranges = ranges_parts v.nodes k.p l q op nodes comes_in k.full next

  -- what the right half has got
  some_moved : 0 < length t.children
  some_moved =
      let a : ℕ = place_of x.separators (at v q).low + 1 in
      let size : length x.children ≡ length x.separators + 1 = omega (arith, (nodes.each k.p c.parent.held.there).children.interior.between, c.parent.child.in_range) in
      let more = length-insert x.children a q (omega (arith, place_of-le-length x.separators (at v q).low, size)) in
      omega (arith, length-drop 9 wide.children, more, size, k.full)

  module _ (ys : List NodeView) (gone : RetiredPlaces) (h : ℕ) (b : HasParts v ys k.p l q h op) where
    abbrev u : ArenaView
    u = record v { nodes = ys; retired = gone }

    -- all but the right half were there, and keep their names
    names_other : (j : ℕ) → j < length ys → j ≢ h → (j < length v.nodes) × KeepsNames (at v j) (node_at ys j)
    names_other j lj nh = elim (cases_eq j k.p) [
      | inl is ↦ rw (is, b.is_left) (lp, keeps)
      | inr np ↦ elim (cases_eq j l) [
        | inl is ↦ rw (is, b.is_child) (ll, record { previous = refl; parent = refl; deleted = refl; holder = refl })
        | inr nl ↦ let was = b.is_other j lj np nl nh in (was.0, rw was.1 (record { previous = refl; parent = refl; deleted = refl; holder = refl }))
      ]
    ]

    same_names : KeepNames v.nodes ys
    same_names = record {
      more = b.more;
      each = λ j lj. elim (cases_eq j h) [
        | inl is ↦ inl (rw (is, b.is_right) (refl, refl))
        | inr nh ↦ inr (names_other j lj nh)
      ];
    }

    -- the parent and its right half are parted
    parents_parted : AreParted u op (length s.halves.items) k.p h
    parents_parted = record {
      left = record {
        held = record { there = omega (arith, lp, b.more); holder = ap (λ (n : NodeView). n.holder) b.is_left ∙ c.parent.held.holder };
        level_is = ap (λ (n : NodeView). n.level) b.is_left ∙ c.parent.level_is;
        live = ap (λ (n : NodeView). n.version.deleted) b.is_left ∙ c.parent.live;
        marked = ap (λ (n : NodeView). n.version.splitting) b.is_left;
        stable = rw b.is_left (stable v op s k.p nodes c);
      };
      right = record {
        held = record { there = b.inside; holder = ap (λ (n : NodeView). n.holder) b.is_right };
        level_is = ap (λ (n : NodeView). n.level) b.is_right ∙ c.parent.level_is;
        live = ap (λ (n : NodeView). n.version.deleted) b.is_right ∙ b.live;
        marked = ap (λ (n : NodeView). n.version.splitting) b.is_right ∙ b.marked;
        stable = rw b.is_right (λ i d lt. absurd (omega arith));
      };
      differ = b.differ;
      tree_there = subst (λ (n : NodeView). n.tree < length v.trees) (sym b.is_left) (tree_there v op s k.p nodes c);
      mine = λ o making. open_parent v op s k.p nodes c o (sym (ap (λ (n : NodeView). (tree_at v.trees n.tree).standing) b.is_left) ∙ making);
      tree = ap (λ (n : NodeView). n.tree) b.is_right ∙ sym (ap (λ (n : NodeView). n.tree) b.is_left);
      no_root = ap (λ (n : NodeView). n.version.root) b.is_right ∙ b.no_root;
      fence = ap (λ (n : NodeView). n.high) b.is_left ∙ sym (ap (λ (n : NodeView). Some n.low) b.is_right);
      reach = ap (λ (n : NodeView). n.reach) b.is_right ∙ sym (ap (λ (n : NodeView). n.reach) b.is_left);
      exact = ap (λ (n : NodeView). n.reach) b.is_right ∙ c.parent.reach ∙ sym (ap (λ (n : NodeView). n.high) b.is_right);
      above = rw (b.is_left, b.is_right) ranges.0;
      below = rw (b.is_left, b.is_right, c.parent.reach) ranges.1;
      rooted = λ none. ap (λ (n : NodeView). n.version.root) b.is_left ∙ c.parent.rooted (sym (ap (λ (n : NodeView). n.parent) b.is_left) ∙ none);
    }

    -- who named the parent is a child of one of the two
    children_parted : (j : ℕ) → IsUnder ys k.p j → HasChild t j ⊎ HasChild y j
    children_parted j is =
        let child = children_then v op s k.p nodes c j (named_before v.nodes ys same_names k.p j is) in
        elim (child_parted wide op j (record { live = child.live; place = child.place; in_range = child.in_range; is = child.is })) [ inl left ↦ inr left | inr right ↦ inl right ]

    -- nobody names the new right half
    nothing_lags : NothingLags ys h
    nothing_lags = record {
      followers = λ j is. let was = followed_before v.nodes ys same_names h j is in absurd (b.unnamed.previous j was.0 was.2 was.1);
      children = λ j is. let was = named_before v.nodes ys same_names h j is in absurd (b.unnamed.parent j was.0 was.2 was.1);
    }

    -- what the operation held is as it was
    others_held : (j : ℕ) → j < length v.nodes → (at v j).holder ≡ Some op → j ≢ k.p → j ≢ l → node_at ys j ≡ at v j
    others_held j lt mine np nl = (b.is_other j (omega (arith, lt, b.more)) np nl (b.unheld j lt mine)).1

    module _ (after : Splits) (one : HasOneMore s after k.p h) where
      is_last : last_of after ≡ (record { left = k.p; right = h })
      is_last = last_more s after k.p h one

      counted : length after.halves.items - 1 ≡ length s.halves.items
      counted = omega (arith, count_more s after k.p h one)

      lower : AreReturnable u op after.halves.items (length after.halves.items - 1)
      lower i lt =
          let below : i < length s.halves.items = omega (arith, lt, counted) in
          subst (λ (d : Halves). MayReturnBoth u op i d) (sym (halves_before s after k.p h one i below))
          (halves_return v op s k.p nodes c ys gone same_names b.is_child others_held i below)

      pub kept_parted : IsAtReparent u op after
      kept_parted = record {
        splits = record {
          some = omega (arith, count_more s after k.p h one);
          lower = lower;
          parted =
              subst (λ (d : Halves). AreParted u op (length after.halves.items - 1) d.left d.right) (sym is_last) (subst (λ level. AreParted u op level k.p h) (sym counted) parents_parted);
        };
        above = one.above;
        more = subst (λ (d : Halves). after.moved < length (at u d.right).children) (sym is_last) (rw (b.is_right, one.moved) some_moved);
        orphan = subst (λ (d : Halves). (at u d.right).parent ≡ None) (sym is_last) (ap (λ (n : NodeView). n.parent) b.is_right);
        followers = subst (λ (d : Halves). AreFollowers ys d.left (at u d.left).next) (sym is_last)
            (λ j is. ap (λ (n : NodeView). n.next) b.is_left ∙ c.parent.followers j (followed_before v.nodes ys same_names k.p j is));
        children = subst (λ (d : Halves). (j : ℕ) → IsUnder ys d.left j → IsChildFrom (at u d.right) after.moved j ⊎ HasChild (at u d.left) j) (sym is_last)
            (λ j is. elim (children_parted j is) [
              | inl right ↦ inl (rw b.is_right (record { place = right.place; since = omega (arith, one.moved); in_range = right.in_range; is = right.is }))
              | inr left ↦ inr (rw b.is_left left)
            ]);
        right = subst (λ (d : Halves). NothingLags ys d.right) (sym is_last) nothing_lags;
      }

      -- and no other node is held
      pub holds_parted : HoldsSplits v op s → HoldsSplits u op after
      holds_parted holds j lt held = elim (cases_eq j h) [
        | inl new_one ↦ inl (record {
          place = length s.halves.items;
          in_range = omega (arith, count_more s after k.p h one);
          is = subst (λ (d : Halves). (d.left ≡ j) ⊎ (d.right ≡ j)) (sym (halves_last s after k.p h one)) (inr (sym new_one));
        })
        | inr nh ↦
            let was = names_other j lt nh in
            elim (holds j was.0 (sym was.1.holder ∙ held)) [
              | inl half ↦
                  let same = halves_before s after k.p h one half.place half.in_range in
                  inl (record {
                    place = half.place;
                    in_range = omega (arith, half.in_range, count_more s after k.p h one);
                    is = subst (λ (d : Halves). (d.left ≡ j) ⊎ (d.right ≡ j)) (sym same) half.is;
                  })
              | inr above ↦ inl (record {
                place = length s.halves.items;
                in_range = omega (arith, count_more s after k.p h one);
                is = subst (λ (d : Halves). (d.left ≡ j) ⊎ (d.right ≡ j)) (sym (halves_last s after k.p h one)) (inl (same_Some _ _ (sym c.above ∙ above)));
              })
            ]
      ]
