-- A step that may give places out: what it makes of the lists, that nobody holds what stands there, and what it leaves to others by that.
use Rattle.std.proofs.Common.{◌≡◌, ℕ, zero, suc, ◌+◌, ◌<◌, ◌≤◌, ◌⊎◌, inl, inr, List, [], ◌∷◌, length, Bool, true, false, Option, Some, None, refl, sym, ap, subst, ◌∙◌, arith}
use Rattle.std.specs.Prelude.{◌^◌, nat_le, if◌then◌else◌}
use Rattle.std.proofs.lemmas.Bool.{le-leb}
use Rattle.mt_version.specs.Changes.{CanRenew}
use Rattle.mt_arena.specs.{declared.retired.Retired.Retired, NodeView.NodeView, Idle.{RetiredPlaces, place_of_idle, chosen, left_of, given_border, given_interior, given_layer}}
use Rattle.mt_arena.specs.Given.{AreOutUpTo, RisesUpTo, IsOutBy, IsNodeOutBy, IsOutFrom, AreForgotten, MayRenew, StepsFrom, step_of_idle}
use Rattle.mt_arena.specs.{Arena.{ArenaView, content_of}, Accesses.at}
use Rattle.mt_operation.specs.{declared.operation.Operation.Operation, Operations.{OperationView, view_of}, Tables.{AreBornFrom, IsLeastBirth}}
use Rattle.mt_descent.specs.KeptBack.{ListsAfter, RetiresAfter}
use Rattle.mt_state.specs.{Views.{Core, shown}, Given.{ChangesArena, MakesLast, AreAllKeptBack, idle_of}, KeptBack.{ArenaFacts, Retires}, Invariant.StateInvariant}
use Rattle.mt_state.proofs.{Growing.after_same, Shown.{inside_of, shown_there}}

-- a list is as it was, or without its first place
abbrev pub IsRest : List Retired → List Retired → Type 0
IsRest gone rest = (rest ≡ gone) ⊎ ((first : Retired) × (gone ≡ first ∷ rest))

-- so is each of the three
pub record GivesFirsts (old new : RetiredPlaces) : Type 0 where
  pub borders : IsRest old.borders new.borders
  pub interiors : IsRest old.interiors new.interiors
  pub trees : IsRest old.trees new.trees

pub gives_none : (gone : RetiredPlaces) → GivesFirsts gone gone
gives_none gone = record { borders = inl refl; interiors = inl refl; trees = inl refl }

-- what a giving out leaves of a list
pub rest_left : (gone : List Retired) (least : ℕ) → IsRest gone (left_of gone least)
rest_left [] least = inl refl
rest_left (r ∷ gone) least = by (nat_le r.step least)
  where
    by : (b : Bool) → IsRest (r ∷ gone) (if b then gone else r ∷ gone)
    by true = inr (r, refl)
    by false = inl refl

pub gives_border : (gone : RetiredPlaces) (least : ℕ) → GivesFirsts gone (given_border gone least)
gives_border gone least = record { borders = rest_left gone.borders least; interiors = inl refl; trees = inl refl }

pub gives_interior : (gone : RetiredPlaces) (least : ℕ) → GivesFirsts gone (given_interior gone least)
gives_interior gone least = record { borders = inl refl; interiors = rest_left gone.interiors least; trees = inl refl }

pub gives_layer : (gone : RetiredPlaces) (least : ℕ) → GivesFirsts gone (given_layer gone least)
gives_layer gone least = record { borders = rest_left gone.borders least; interiors = inl refl; trees = rest_left gone.trees least }

-- the steps of what is left rise too, and all of it was listed before
rises_on : (steps : ℕ) (first : Retired) (rest : List Retired) → RisesUpTo steps (first ∷ rest) → RisesUpTo (steps + 1) rest
rises_on steps first rest h = record {
  rises = λ i j before within. h.rises (suc i) (suc j) (omega (arith, before)) (omega (arith, within));
  upto = λ i within. let upto = h.upto (suc i) (omega (arith, within)) in omega (arith, upto);
}

rest_rises : (steps : ℕ) (gone rest : List Retired) → IsRest gone rest → RisesUpTo steps gone → RisesUpTo (steps + 1) rest
rest_rises steps gone rest is h = elim is [
  | inl same ↦ subst (RisesUpTo (steps + 1)) (sym same) (record { rises = h.rises; upto = λ i within. let upto = h.upto i within in omega (arith, upto) })
  | inr (first, whole) ↦ rises_on steps first rest (subst (RisesUpTo steps) whole h)
]

rest_after : (birth : ℕ) (gone rest : List Retired) → IsRest gone rest → ListsAfter birth gone rest
rest_after birth gone rest is i within = elim is [
  | inl same ↦ inl (record {
    index = i;
    within = omega (arith, within, ap (λ (l : List Retired). length l) same);
    place_is = ap (λ (l : List Retired). place_of_idle l i) (sym same);
    step_is = ap (λ (l : List Retired). step_of_idle l i) (sym same);
  })
  | inr (first, whole) ↦ inl (record {
    index = suc i;
    within = omega (arith, within, ap (λ (l : List Retired). length l) whole);
    place_is = ap (λ (l : List Retired). place_of_idle l (suc i)) whole;
    step_is = ap (λ (l : List Retired). step_of_idle l (suc i)) whole;
  })
]

pub retires_given : (steps : ℕ) (old new : RetiredPlaces) → AreOutUpTo steps old → GivesFirsts old new → Retires steps old new
retires_given steps old new late g = record {
  upto = record {
    borders = rest_rises steps old.borders new.borders g.borders late.borders;
    interiors = rest_rises steps old.interiors new.interiors g.interiors late.interiors;
    trees = rest_rises steps old.trees new.trees g.trees late.trees;
  };
  after = λ birth born. record {
    borders = rest_after birth old.borders new.borders g.borders;
    interiors = rest_after birth old.interiors new.interiors g.interiors;
    trees = rest_after birth old.trees new.trees g.trees;
  };
}

-- of the nodes that may be given out none is held, and each may be used once more
module _ (c : Core) (h : StateInvariant c) (facts : ArenaFacts c.arena) (least : ℕ) (born : AreBornFrom c.table least) where
  node_there : (k : ℕ) → IsNodeOutBy least c.arena.retired k → k < length c.arena.nodes
  node_there k out = elim out [
    | inl border ↦ let there = facts.retired.of_borders.there border.index border.within in omega (arith, there, border.place_is)
    | inr interior ↦ let there = facts.retired.of_interiors.there interior.index interior.within in omega (arith, there, interior.place_is)
  ]

  -- who holds a node that is out was begun before that
  not_held : (k q : ℕ) → IsNodeOutBy least c.arena.retired k → (at c.arena k).holder ≡ Some q → ⊥
  not_held k q out holds =
      let within = node_there k out in
      let op = h.holders k q within holds in
      let back = ((h.remembered q op.0 op.1).held k within holds).0 in
      let birth = born q op.0 op.1 in
      elim out [
        | inl border ↦ let from = back.border border.index border.within border.place_is in omega (arith, from, birth, border.upto)
        | inr interior ↦ let from = back.interior interior.index interior.within interior.place_is in omega (arith, from, birth, interior.upto)
      ]

  pub are_forgotten : AreForgotten least c.arena
  are_forgotten k out = by (at c.arena k).holder refl
    where
      by : (holder : Option ℕ) → (at c.arena k).holder ≡ holder → (at c.arena k).holder ≡ None
      by None free = free
      by (Some q) holds = absurd (not_held k q out holds)

  pub may_renew : MayRenew least c.arena
  may_renew k out = let upto = (h.versions k (node_there k out)).splits in omega (arith, upto, h.few)

-- a new place is made only if none of its kind is chosen
pub record MakesUnchosen (least : ℕ) (old new : ArenaView) : Type 0 where
  pub nodes : (k : ℕ) → length old.nodes ≤ k → k < length new.nodes → chosen (idle_of (at new k) old.retired) least ≡ None
  pub trees : length old.trees < length new.trees → chosen old.retired.trees least ≡ None

pub makes_none : (least : ℕ) (old new : ArenaView) → length new.nodes ≡ length old.nodes → length new.trees ≡ length old.trees → MakesUnchosen least old new
makes_none least old new nodes trees = record { nodes = λ k from lt. absurd (omega (arith, from, lt, nodes)); trees = λ more. absurd (omega (arith, more, trees)) }

-- if no place of a list is chosen by the least birth, all are kept back
module _ (c : Core) (least : ℕ) (is_least : IsLeastBirth c.table c.steps least) where
  unchosen : (r : Retired) (gone : List Retired) → chosen (r ∷ gone) least ≡ None → r.step ≤ least → ⊥
  unchosen r gone none upto = by (nat_le r.step least) (le-leb r.step least upto) none
    where
      by : (b : Bool) → b ≡ true → ◌≡◌ {A = Option ℕ} (if b then Some r.place else None) None → ⊥
      by true is none = cc
      by false is none = cc

  all_kept_back : (gone : List Retired) → RisesUpTo c.steps gone → chosen gone least ≡ None → AreAllKeptBack (shown c) gone
  all_kept_back [] rises none i within all = omega (arith, within)
  all_kept_back (r ∷ gone) rises none i within all =
      let out = is_least.greatest (step_of_idle (r ∷ gone) i) (rises.upto i within) (λ q op there. all q (view_of op) (shown_there c.table q op there)) in
      let first = first_before i within in
      unchosen r gone none (omega (arith, first, out))
    where
      first_before : (i : ℕ) → i < length (r ∷ gone) → r.step ≤ step_of_idle (r ∷ gone) i
      first_before zero within = omega arith
      first_before (suc i) within = rises.rises 0 (suc i) (omega arith) within

  makes_last : (arena : ArenaView) → AreOutUpTo c.steps c.arena.retired → MakesUnchosen least c.arena arena → MakesLast (shown c) arena
  makes_last arena late m = record {
    nodes = λ k from lt. by_kind (at arena k).version.border (m.nodes k from lt);
    trees = λ more. all_kept_back c.arena.retired.trees late.trees (m.trees more);
  }
    where
      by_kind : (b : Bool) → chosen (if b then c.arena.retired.borders else c.arena.retired.interiors) least ≡ None
          → AreAllKeptBack (shown c) (if b then c.arena.retired.borders else c.arena.retired.interiors)
      by_kind true none = all_kept_back c.arena.retired.borders late.borders none
      by_kind false none = all_kept_back c.arena.retired.interiors late.interiors none

-- what a step that gives places out leaves to others, what it makes of the lists, and that it makes none where one may be given out
pub changes_from : (c : Core) (least o : ℕ) (arena : ArenaView) → AreOutUpTo c.steps c.arena.retired → IsLeastBirth c.table c.steps least
    → MakesUnchosen least c.arena arena → StepsFrom least o c.arena arena
    → Retires c.steps c.arena.retired arena.retired → ChangesArena (shown c) o arena
changes_from c least o arena late is_least made s out = record {
  mid = record s.mid { retired = arena.retired };
  gives = record {
    least = least;
    before = λ q view there. let op = inside_of c.table q view there in omega (arith, is_least.below q op.0 op.1, ap (λ (v : OperationView). v.birth) op.2);
    given = record {
      gives = record { count = s.gives.count; tree_count = s.gives.tree_count; nodes = s.gives.nodes; trees = s.gives.trees };
      nodes = λ k from. elim (s.nodes_out k) [
        | inl same ↦ same
        | inr (inl by) ↦ absurd (let later = from.border by.index by.within by.place_is in omega (arith, later, by.upto))
        | inr (inr by) ↦ absurd (let later = from.interior by.index by.within by.place_is in omega (arith, later, by.upto))
      ];
      trees = λ t from. elim (s.trees_out t) [
        | inl same ↦ same
        | inr by ↦ absurd (let later = from by.index by.within by.place_is in omega (arith, later, by.upto))
      ];
    };
    contents = s.contents;
    lists = out.after;
  };
  step = record { nodes = s.step.nodes; points = s.step.points; lost = s.step.lost };
  retires = λ birth born. after_same birth arena.retired;
  last = makes_last c least is_least arena late made;
}
