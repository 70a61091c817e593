-- A right half comes into the place of the list that waits longest: the whole invariant, the contents, and what the step leaves to others. For
-- `begin_split`.
use Rattle.std.proofs.Common.{◌≡◌, ◌≢◌, ◌⊎◌, ℕ, ◌<◌, ◌≤◌, List, [], ◌∷◌, length, set, Bool, true, false, Option, Some, None, refl, sym, ap, subst, ◌∙◌, inl, inr, arith, eqb-true}
use Rattle.std.proofs.{lemmas.Bool.{cases_eq, leb-true}, lemmas.List.{set-set, set_comm}, lemmas.Option.same_Some}
use Rattle.std.specs.Prelude.{◌==◌, not, nat_le, if◌then◌else◌}
use Rattle.mt_version.specs.Changes.{CanRenew}
use Rattle.mt_arena.specs.{declared.retired.Retired.Retired, declared.tree.Tree.Tree, declared.tree.Standing.TheVariants.{Made, Dead}, NodeView.{NodeView, node_at}, Nodes.{AreNodes, HasRange}}
use Rattle.mt_arena.specs.{Forests.{HasSlice, tree_at}, Contents.content, Idle.{RetiredPlaces, Rooms, AreRetired, is_idle_border, is_idle_interior, has_ended, place_of_idle, chosen, left_of, given_border, given_interior}}
use Rattle.mt_arena.specs.{Given.{IsGiven, IsNamedLate, IsOutBy, IsNodeOutBy, StepsFrom, AreForgotten, MayRenew, step_of_idle}, Arena.{ArenaView, Guarantee}, Invariant.ArenaInvariant}
use Rattle.mt_arena.specs.{Accesses.{at, tree_of, IsHeld, IsOpen, nodes_with_half, with_half_at}, Edits.{splitting, again_half, blank_again}}
use Rattle.mt_arena.proofs.{Pairs.{here, there}, Counted.{pairs-nil, pairs-gone}, ContentQuiet.content-set, NamedLate.{border_out, interior_out, ended_dead, named_border_given, named_interior_given, named_tree_given}}
use Rattle.mt_arena.proofs.{Retiring.{border_given, interior_given, tree_given}, Vacant.{IsVacant, blank_for, gives_blank, content_vacant}}
use Rattle.mt_arena.proofs.Guarantees.{guarantee_none, lost_none}
use Rattle.mt_arena.specs.{Idle.number_of, Several.interior_number}
use Rattle.mt_arena.proofs.Again.{is_border, second_true, gives_again, step_again, sound_given, content_given}

-- a step that gives nothing out
pub steps_from_none : (least op : ℕ) (old new : ArenaView) → Guarantee op old new → StepsFrom least op old new
steps_from_none least op old new step = record {
  mid = old;
  gives = record { count = refl; tree_count = refl; nodes = λ k lt. inl refl; trees = λ t lt. inl refl };
  nodes_out = λ k. inl refl;
  trees_out = λ t. inl refl;
  into = λ k q lt given making. absurd (let both = sym given.out ∙ given.blank.live in cc);
  contents = refl;
  step = step;
}

-- nor does one that changes nothing
pub steps_from_same : (v : ArenaView) (least op : ℕ) → StepsFrom least op v v
steps_from_same v least op = steps_from_none least op v v (record {
  nodes = guarantee_none op v.nodes v.trees;
  points = record {
    previous = λ k j lk lj named other. named;
    parent = λ k j lk lj named other. named;
    new_previous = λ k j new inside lj named. absurd (omega (arith, new, inside));
    new_parent = λ k j new inside lj named. absurd (omega (arith, new, inside));
  };
  lost = λ k lt. lost_none (node_at v.nodes k);
})

-- the chosen place is the first one of the list
pub record IsFirst (gone : List Retired) (least place : ℕ) : Type 0 where
  pub first : Retired
  pub rest : List Retired
  pub is : gone ≡ first ∷ rest
  pub place_is : first.place ≡ place
  pub early : first.step ≤ least
  pub left : left_of gone least ≡ rest

pub is_first : (gone : List Retired) (least place : ℕ) → chosen gone least ≡ Some place → IsFirst gone least place
is_first [] least place e = absurd (cc)
is_first (r ∷ rest) least place e = by (nat_le r.step least) refl e
  where
    by : (b : Bool) → nat_le r.step least ≡ b → (if b then Some r.place else None) ≡ Some place → IsFirst (r ∷ rest) least place
    by true early e = record {
      first = r;
      rest = rest;
      is = refl;
      place_is = same_Some r.place place e;
      early = leb-true r.step least early;
      left = ap (λ b. if b then rest else r ∷ rest) early;
    }
    by false late e = absurd (cc)

-- none is left out if none is chosen
pub none_left_out : (gone : List Retired) (least : ℕ) → chosen gone least ≡ None → left_of gone least ≡ gone
none_left_out [] least e = refl
none_left_out (r ∷ rest) least e = by (nat_le r.step least) e
  where
    by : (b : Bool) → (if b then Some r.place else None) ≡ None → (if b then rest else r ∷ rest) ≡ r ∷ rest
    by true e = absurd (cc)
    by false e = refl

-- the first place is the chosen one, which this step or an earlier one took out
first_by : (gone : List Retired) (least place : ℕ) → chosen gone least ≡ Some place → IsOutBy least gone place
first_by gone least place is_chosen =
    let f = is_first gone least place is_chosen in
    record {
      index = 0;
      within = omega (arith, ap length f.is);
      place_is = ap (λ (gone : List Retired). place_of_idle gone 0) f.is ∙ f.place_is;
      upto = omega (arith, ap (λ (gone : List Retired). step_of_idle gone 0) f.is, f.early);
    }

-- the place was taken out, and nobody holds what stands there
abbrev pub IsChosen : ArenaView → ℕ → Type 0
IsChosen v place = IsVacant v.nodes place

pub chosen_place : (v : ArenaView) (least place : ℕ) → AreRetired v.nodes v.trees v.retired → chosen v.retired.borders least ≡ Some place → AreForgotten least v
    → IsChosen v place
chosen_place v least place retired is_chosen forgotten =
    let by = first_by v.retired.borders least place is_chosen in
    record {
      there = omega (arith, retired.of_borders.there by.index by.within, by.place_is);
      out = border_out (at v place) (subst (λ k. is_idle_border (at v k) ≡ true) by.place_is (retired.of_borders.idle_there by.index by.within));
      free = forgotten place (inl by);
    }

-- the same of an interior node's place
pub chosen_inner : (v : ArenaView) (least place : ℕ) → AreRetired v.nodes v.trees v.retired → chosen v.retired.interiors least ≡ Some place → AreForgotten least v
    → IsChosen v place
chosen_inner v least place retired is_chosen forgotten =
    let by = first_by v.retired.interiors least place is_chosen in
    record {
      there = omega (arith, retired.of_interiors.there by.index by.within, by.place_is);
      out = interior_out (at v place) (subst (λ k. is_idle_interior (at v k) ≡ true) by.place_is (retired.of_interiors.idle_there by.index by.within));
      free = forgotten place (inr by);
    }

pub inner_out : (v : ArenaView) (least place : ℕ) → chosen v.retired.interiors least ≡ Some place → IsNodeOutBy least v.retired place
inner_out v least place is_chosen = inr (first_by v.retired.interiors least place is_chosen)

-- the number is that of a node, or the next one if no place is chosen
module _ (v : ArenaView) (least : ℕ) (retired : AreRetired v.nodes v.trees v.retired) (forgotten : AreForgotten least v) where
  pub inner_within : interior_number least v ≤ length v.nodes
  inner_within = by (chosen v.retired.interiors least) refl
    where
      by : (place : Option ℕ) → chosen v.retired.interiors least ≡ place → number_of place (length v.nodes) ≤ length v.nodes
      by None e = omega arith
      by (Some p) e = omega (arith, (chosen_inner v least p retired e forgotten).there)

  pub inner_none : interior_number least v ≡ length v.nodes → chosen v.retired.interiors least ≡ None
  inner_none = by (chosen v.retired.interiors least) refl
    where
      by : (place : Option ℕ) → chosen v.retired.interiors least ≡ place → number_of place (length v.nodes) ≡ length v.nodes → chosen v.retired.interiors least ≡ None
      by None e last = e
      by (Some p) e last = absurd (omega (arith, last, (chosen_inner v least p retired e forgotten).there))

  pub inner_few : (most : ℕ) → length v.nodes ≤ most → (chosen v.retired.interiors least ≡ None → length v.nodes < most) → interior_number least v < most
  inner_few most enough few = by (chosen v.retired.interiors least) refl
    where
      by : (place : Option ℕ) → chosen v.retired.interiors least ≡ place → number_of place (length v.nodes) < most
      by None e = few e
      by (Some p) e = omega (arith, enough, (chosen_inner v least p retired e forgotten).there)

-- its version says so
is_above : (border : Bool) (level : ℕ) → (border ≡ true → level ≡ 0) → not (level == 0) ≡ true → border ≡ false
is_above false level border above = refl
is_above true level border above = absurd (let both = sym above ∙ ap (λ l. not (l == 0)) (border refl) in cc)

pub inner_kind : (v : ArenaView) (least place : ℕ) → AreNodes v.nodes → AreRetired v.nodes v.trees v.retired → chosen v.retired.interiors least ≡ Some place
    → (at v place).version.border ≡ false
inner_kind v least place nodes retired is_chosen =
    let by = first_by v.retired.interiors least place is_chosen in
    let there_is : place < length v.nodes = omega (arith, retired.of_interiors.there by.index by.within, by.place_is) in
    let idle : is_idle_interior (at v place) ≡ true = subst (λ k. is_idle_interior (at v k) ≡ true) by.place_is (retired.of_interiors.idle_there by.index by.within) in
    is_above (at v place).version.border (at v place).level (nodes.each place there_is).kind.border (second_true (at v place).version.deleted (not ((at v place).level == 0)) idle)

-- what stands in a vacant place is not marked
pub whole_vacant : (xs : List NodeView) (p : ℕ) → AreNodes xs → IsVacant xs p → (node_at xs p).version.splitting ≡ false
whole_vacant xs p nodes vacant = by (node_at xs p).version.splitting refl
  where
    by : (b : Bool) → (node_at xs p).version.splitting ≡ b → (node_at xs p).version.splitting ≡ false
    by false is = is
    by true is = absurd ((nodes.each p vacant.there).lock.splitting is vacant.free)

-- the lists without the place of an interior node, in which a live one stands
pub inner_given : (xs : List NodeView) (trees : List Tree) (gone : RetiredPlaces) (least p : ℕ) (y : NodeView) → AreRetired xs trees gone
    → chosen gone.interiors least ≡ Some p → y.version.deleted ≡ false → AreRetired (set xs p y) trees (given_interior gone least)
inner_given xs trees gone least p y listed is_chosen live =
    let f = is_first gone.interiors least p is_chosen in
    subst (λ (l : List Retired). AreRetired (set xs p y) trees (record gone { interiors = l })) (sym f.left)
    (subst (λ k. AreRetired (set xs k y) trees (record gone { interiors = f.rest })) f.place_is
    (interior_given xs trees gone f.first f.rest y (subst (λ (l : List Retired). AreRetired xs trees (record gone { interiors = l })) f.is listed) live))

pub named_inner_given : (xs : List NodeView) (trees : List Tree) (gone : RetiredPlaces) (least p : ℕ) (y : NodeView) → AreRetired xs trees gone
    → chosen gone.interiors least ≡ Some p → IsNamedLate xs trees gone → IsNamedLate (set xs p y) trees (given_interior gone least)
named_inner_given xs trees gone least p y listed is_chosen named =
    let f = is_first gone.interiors least p is_chosen in
    subst (λ (l : List Retired). IsNamedLate (set xs p y) trees (record gone { interiors = l })) (sym f.left)
    (subst (λ k. IsNamedLate (set xs k y) trees (record gone { interiors = f.rest })) f.place_is
    (named_interior_given xs trees gone f.first f.rest y (subst (λ (l : List Retired). AreRetired xs trees (record gone { interiors = l })) f.is listed)
    (subst (λ (l : List Retired). IsNamedLate xs trees (record gone { interiors = l })) f.is named)))

-- the same of a border node's place
pub border_out_by : (v : ArenaView) (least place : ℕ) → chosen v.retired.borders least ≡ Some place → IsNodeOutBy least v.retired place
border_out_by v least place is_chosen = inl (first_by v.retired.borders least place is_chosen)

pub border_kind : (v : ArenaView) (least place : ℕ) → AreNodes v.nodes → AreRetired v.nodes v.trees v.retired → chosen v.retired.borders least ≡ Some place
    → (at v place).version.border ≡ true
border_kind v least place nodes retired is_chosen =
    let by = first_by v.retired.borders least place is_chosen in
    let there_is : place < length v.nodes = omega (arith, retired.of_borders.there by.index by.within, by.place_is) in
    let idle : is_idle_border (at v place) ≡ true = subst (λ k. is_idle_border (at v k) ≡ true) by.place_is (retired.of_borders.idle_there by.index by.within) in
    is_border (at v place).version.border (at v place).level (nodes.each place there_is).kind.interior (eqb-true (at v place).level 0 (second_true (at v place).version.deleted ((at v place).level == 0) idle))

pub outer_given : (xs : List NodeView) (trees : List Tree) (gone : RetiredPlaces) (least p : ℕ) (y : NodeView) → AreRetired xs trees gone
    → chosen gone.borders least ≡ Some p → y.version.deleted ≡ false → AreRetired (set xs p y) trees (given_border gone least)
outer_given xs trees gone least p y listed is_chosen live =
    let f = is_first gone.borders least p is_chosen in
    subst (λ (l : List Retired). AreRetired (set xs p y) trees (record gone { borders = l })) (sym f.left)
    (subst (λ k. AreRetired (set xs k y) trees (record gone { borders = f.rest })) f.place_is
    (border_given xs trees gone f.first f.rest y (subst (λ (l : List Retired). AreRetired xs trees (record gone { borders = l })) f.is listed) live))

pub named_outer_given : (xs : List NodeView) (trees : List Tree) (gone : RetiredPlaces) (least p : ℕ) (y : NodeView) → AreRetired xs trees gone
    → chosen gone.borders least ≡ Some p → IsNamedLate xs trees gone → IsNamedLate (set xs p y) trees (given_border gone least)
named_outer_given xs trees gone least p y listed is_chosen named =
    let f = is_first gone.borders least p is_chosen in
    subst (λ (l : List Retired). IsNamedLate (set xs p y) trees (record gone { borders = l })) (sym f.left)
    (subst (λ k. IsNamedLate (set xs k y) trees (record gone { borders = f.rest })) f.place_is
    (named_border_given xs trees gone f.first f.rest y (subst (λ (l : List Retired). AreRetired xs trees (record gone { borders = l })) f.is listed)
    (subst (λ (l : List Retired). IsNamedLate xs trees (record gone { borders = l })) f.is named)))

-- and of a dead tree's record
pub record IsChosenTree (v : ArenaView) (least t : ℕ) : Type 0 where
  pub there : t < length v.trees
  pub dead : (tree_at v.trees t).standing ≡ Dead
  pub by : IsOutBy least v.retired.trees t

pub chosen_tree : (v : ArenaView) (least t : ℕ) → AreRetired v.nodes v.trees v.retired → chosen v.retired.trees least ≡ Some t → IsChosenTree v least t
chosen_tree v least t retired is_chosen =
    let by = first_by v.retired.trees least t is_chosen in
    record {
      there = omega (arith, retired.of_trees.there by.index by.within, by.place_is);
      dead = ended_dead (tree_at v.trees t).standing (subst (λ s. has_ended (tree_at v.trees s).standing ≡ true) by.place_is (retired.of_trees.idle_there by.index by.within));
      by = by;
    }

pub dead_given : (xs : List NodeView) (trees : List Tree) (gone : RetiredPlaces) (least t : ℕ) (u : Tree) → AreRetired xs trees gone
    → chosen gone.trees least ≡ Some t → has_ended u.standing ≡ false → AreRetired xs (set trees t u) (record gone { trees = left_of gone.trees least })
dead_given xs trees gone least t u listed is_chosen used =
    let f = is_first gone.trees least t is_chosen in
    subst (λ (l : List Retired). AreRetired xs (set trees t u) (record gone { trees = l })) (sym f.left)
    (subst (λ k. AreRetired xs (set trees k u) (record gone { trees = f.rest })) f.place_is
    (tree_given xs trees gone f.first f.rest u (subst (λ (l : List Retired). AreRetired xs trees (record gone { trees = l })) f.is listed) used))

pub named_dead_given : (xs : List NodeView) (trees : List Tree) (gone : RetiredPlaces) (least t : ℕ) (u : Tree) → AreRetired xs trees gone
    → chosen gone.trees least ≡ Some t → IsNamedLate xs trees gone → IsNamedLate xs (set trees t u) (record gone { trees = left_of gone.trees least })
named_dead_given xs trees gone least t u listed is_chosen named =
    let f = is_first gone.trees least t is_chosen in
    subst (λ (l : List Retired). IsNamedLate xs (set trees t u) (record gone { trees = l })) (sym f.left)
    (subst (λ k. IsNamedLate xs (set trees k u) (record gone { trees = f.rest })) f.place_is
    (named_tree_given xs trees gone f.first f.rest u (subst (λ (l : List Retired). AreRetired xs trees (record gone { trees = l })) f.is listed)
    (subst (λ (l : List Retired). IsNamedLate xs trees (record gone { trees = l })) f.is named)))

-- a step that gives a place out, in which a node of a tree comes that no other operation makes
pub steps_given : (v new : ArenaView) (least op p : ℕ) (n : NodeView) (lists : RetiredPlaces) → AreNodes v.nodes → IsVacant v.nodes p
    → IsNodeOutBy least v.retired p → ((q : ℕ) → (tree_at v.trees n.tree).standing ≡ Made q → q ≡ op)
    → Guarantee op (record v { nodes = set v.nodes p (blank_for (at v p) n); retired = lists }) new → StepsFrom least op v new
steps_given v new least op p n lists nodes vacant out_by mine step =
    let b = blank_for (at v p) n in
    record {
      mid = record v { nodes = set v.nodes p b; retired = lists };
      gives = gives_blank v p n lists vacant (whole_vacant v.nodes p nodes vacant);
      nodes_out = λ k. elim (cases_eq k p) [
        | inl is ↦ inr (subst (IsNodeOutBy least v.retired) (sym is) out_by)
        | inr other ↦ inl (there v.nodes p k b other)
      ];
      trees_out = λ t. inl refl;
      into = λ k q lt given making. elim (cases_eq k p) [
        | inl is ↦ mine q (ap (λ (m : NodeView). (tree_at v.trees m.tree).standing) (sym (ap (node_at (set v.nodes p b)) is ∙ here v.nodes p b vacant.there)) ∙ making)
        | inr other ↦ absurd (let both = sym given.out ∙ ap (λ (m : NodeView). m.version.deleted) (sym (there v.nodes p k b other)) ∙ given.blank.live in cc)
      ];
      contents = content_vacant v.nodes v.trees p b vacant refl;
      step = step;
    }

-- what the call is handed: of the arena, of the chosen place, and of the node that is split
pub record GivesHalf (v : ArenaView) (room : Rooms) (i p low least op : ℕ) : Type 0 where
  pub sound : ArenaInvariant v.nodes v.trees v.retired room
  pub is_chosen : chosen v.retired.borders least ≡ Some p
  pub holds : IsHeld v i op
  pub live : (at v i).version.deleted ≡ false
  pub level : (at v i).level ≡ 0
  pub range : HasRange (at v i)
  pub begins : HasSlice (tree_of v i).prefix low
  pub mine : IsOpen v i op
  pub forgotten : AreForgotten least v
  pub renews : MayRenew least v

pub gives_half : (v now : ArenaView) (room : Rooms) (i p low least op : ℕ) → v ≡ now → ArenaInvariant v.nodes v.trees v.retired room
    → chosen v.retired.borders least ≡ Some p → IsHeld now i op → (at now i).version.deleted ≡ false → (at now i).level ≡ 0 → HasRange (at now i)
    → HasSlice (tree_of now i).prefix low → IsOpen now i op → AreForgotten least now → MayRenew least now → GivesHalf v room i p low least op
gives_half v now room i p low least op is sound is_chosen holds live level range begins mine forgotten renews = record {
  sound = sound;
  is_chosen = is_chosen;
  holds = subst (λ (a : ArenaView). IsHeld a i op) (sym is) holds;
  live = subst (λ (a : ArenaView). (at a i).version.deleted ≡ false) (sym is) live;
  level = subst (λ (a : ArenaView). (at a i).level ≡ 0) (sym is) level;
  range = subst (λ (a : ArenaView). HasRange (at a i)) (sym is) range;
  begins = subst (λ (a : ArenaView). HasSlice (tree_of a i).prefix low) (sym is) begins;
  mine = subst (λ (a : ArenaView). IsOpen a i op) (sym is) mine;
  forgotten = subst (λ (a : ArenaView). AreForgotten least a) (sym is) forgotten;
  renews = subst (λ (a : ArenaView). MayRenew least a) (sym is) renews;
}

-- the chosen place gets the right half of a node that the operation holds
module _ (v : ArenaView) (room : Rooms) (i p low least op : ℕ) (g : GivesHalf v room i p low least op) where
  abbrev f : IsFirst v.retired.borders least p
  f = is_first v.retired.borders least p g.is_chosen

  abbrev sound_first : ArenaInvariant v.nodes v.trees (record v.retired { borders = f.first ∷ f.rest }) room
  sound_first = subst (λ (gone : List Retired). ArenaInvariant v.nodes v.trees (record v.retired { borders = gone }) room) f.is g.sound

  first_there : 0 < length v.retired.borders
  first_there = omega (arith, ap length f.is)

  first_place : place_of_idle v.retired.borders 0 ≡ p
  first_place = ap (λ (gone : List Retired). place_of_idle gone 0) f.is ∙ f.place_is

  first_early : step_of_idle v.retired.borders 0 ≤ least
  first_early = omega (arith, ap (λ (gone : List Retired). step_of_idle gone 0) f.is, f.early)

  pub place_there : p < length v.nodes
  place_there = omega (arith, g.sound.retired.of_borders.there 0 first_there, first_place)

  place_idle : is_idle_border (at v p) ≡ true
  place_idle = subst (λ k. is_idle_border (at v k) ≡ true) first_place (g.sound.retired.of_borders.idle_there 0 first_there)

  place_out : (at v p).version.deleted ≡ true
  place_out = border_out (at v p) place_idle

  out_by : IsNodeOutBy least v.retired p
  out_by = inl (record { index = 0; within = first_there; place_is = first_place; upto = first_early })

  place_free : (at v p).holder ≡ None
  place_free = g.forgotten p out_by

  pub place_kind : (at v p).version.border ≡ true
  place_kind =
      is_border (at v p).version.border (at v p).level (g.sound.arena.nodes.each p place_there).kind.interior (eqb-true (at v p).level 0 (second_true (at v p).version.deleted ((at v p).level == 0) place_idle))

  pub place_renews : CanRenew (at v p).version
  place_renews = g.renews p out_by

  pub place_apart : i ≢ p
  place_apart same = absurd (let both = sym g.live ∙ ap (λ k. (at v k).version.deleted) same ∙ place_out in cc)

  abbrev s : NodeView
  s = splitting (at v i)

  abbrev y : NodeView
  y = again_half (at v p) (at v i) i low op

  abbrev blank : NodeView
  blank = blank_again (at v p) (at v i) low

  abbrev lists : RetiredPlaces
  lists = given_border v.retired least

  abbrev half_again : List NodeView
  half_again = set (set v.nodes i s) p y

  free_first : (node_at v.nodes f.first.place).holder ≡ None
  free_first = subst (λ k. (at v k).holder ≡ None) (sym f.place_is) place_free

  pub sound_again : ArenaInvariant half_again v.trees lists room
  sound_again =
      subst (λ (gone : List Retired). ArenaInvariant half_again v.trees (record v.retired { borders = gone }) room) (sym f.left)
      (subst (λ k. ArenaInvariant (set (set v.nodes i s) k (again_half (at v k) (at v i) i low op)) v.trees (record v.retired { borders = f.rest }) room) f.place_is
      (sound_given v.nodes v.trees v.retired f.first f.rest room i low op sound_first g.holds.there g.live g.level g.holds.holder g.range g.begins free_first))

  pub content_half_again : content v.trees half_again ≡ content v.trees v.nodes
  content_half_again =
      subst (λ k. content v.trees (set (set v.nodes i s) k (again_half (at v k) (at v i) i low op)) ≡ content v.trees v.nodes) f.place_is
      (content_given v.nodes v.trees v.retired f.first f.rest room i low op sound_first g.holds.there g.live g.level g.holds.holder g.range g.begins free_first)

  abbrev mid : ArenaView
  mid = record v { nodes = set v.nodes p blank; retired = lists }

  -- only that place has another node
  mid_given : (k : ℕ) → (k ≡ p) ⊎ (at mid k ≡ at v k)
  mid_given k = elim (cases_eq k p) [
    | inl is ↦ inl is
    | inr other ↦ inr (there v.nodes p k blank other)
  ]

  into_own : (k q : ℕ) → k < length v.nodes → IsGiven (at v k) (at mid k) → (tree_at v.trees (at mid k).tree).standing ≡ Made q → q ≡ op
  into_own k q lt given making = elim (mid_given k) [
    | inl is ↦ g.mine q (ap (λ (n : NodeView). (tree_at v.trees n.tree).standing) (sym (ap (node_at mid.nodes) is ∙ here v.nodes p blank place_there)) ∙ making)
    | inr same ↦ absurd (let both = sym given.out ∙ ap (λ (n : NodeView). n.version.deleted) (sym same) ∙ given.blank.live in cc)
  ]

  same_half : set (set mid.nodes i s) p y ≡ half_again
  same_half = ap (λ (ns : List NodeView). set ns p y) (set_comm v.nodes p i blank s (λ e. place_apart (sym e))) ∙ set-set (set v.nodes i s) p blank y

  pub steps_again : StepsFrom least op v (record v { nodes = half_again; retired = lists })
  steps_again = record {
    mid = mid;
    gives = gives_again v i p low lists place_there place_out place_free;
    nodes_out = λ k. elim (mid_given k) [
      | inl is ↦ inr (subst (IsNodeOutBy least v.retired) (sym is) out_by)
      | inr same ↦ inl same
    ];
    trees_out = λ t. inl refl;
    into = into_own;
    contents = content-set v.trees v.nodes p blank (pairs-nil v.trees blank refl ∙ sym (pairs-gone v.trees (at v p) place_out));
    step = subst (λ (ns : List NodeView). Guarantee op mid (record v { nodes = ns; retired = lists })) same_half
        (step_again v.nodes v.trees i p low op g.holds.there place_there place_apart g.holds.holder g.mine g.sound.arena.forest.tree_there lists);
  }

  pub is_again : record v { nodes = half_again; retired = lists } ≡ with_half_at v i low least op
  is_again = ap (λ (place : Option ℕ). record v { nodes = nodes_with_half place v i low op; retired = lists }) (sym g.is_chosen)
