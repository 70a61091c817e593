-- How the steps of an operation that holds nothing bring it on if nobody is in its way: for `looks::go_down` and `ReadSteps`.
use Rattle.std.proofs.Common.{◌≡◌, ◌≢◌, ℕ, ◌+◌, ◌*◌, ◌<◌, ◌≤◌, ◌⊎◌, inl, inr, Bool, true, false, cond, List, [], ◌∷◌, length, Option, Some, None, IsNone, IfNone, refl, sym, ap, subst, ◌∙◌, arith}
use Rattle.std.proofs.Math.Nat.{add-mul, min-eq_left}
use Rattle.std.specs.Prelude.{nat_le, min}
use Rattle.mt_version.specs.{Parts.Parts, Changes.SameButLock}
use Rattle.mt_interior.{specs.Places.place_of, proofs.CallerLemmas.place_of-le-length}
use Rattle.mt_slices.specs.Keys.{IsStoredKey}
use Rattle.mt_rows.specs.{Rows.Bytes, Stamps.Stamped}
use Rattle.mt_border.specs.{declared.entry.Find.Find, declared.entry.FoundKind.TheVariants.{ThisKey, OtherLong, Link as ToTree}}
use Rattle.mt_arena.specs.NodeView.{place_at}
use Rattle.mt_arena.specs.{declared.tree.Standing.Standing, declared.tree.Standing.TheVariants.{Made, Live, Dead}, Nodes.IsChild, Forests.tree_at}
use Rattle.mt_arena.specs.{Arena.{ArenaView, IsArena}, Accesses.at}
use Rattle.mt_arena.proofs.OneLink.{leads}
use Rattle.mt_operation.specs.{Phases.{Kind, row, IsDescent}, declared.walk.Aim.Aim, declared.phase.Phase.Phase}
use Rattle.mt_operation.specs.declared.phase.Phase.TheVariants.{Enter, Pick, Child, Verify, Search, Load, Confirm, Forward, Unlock, Done}
use Rattle.mt_operation.specs.{declared.walk.Taken.Taken, declared.walk.Taken.TheVariants.{Missing, Row, Link, Nothing}, declared.walk.Walk.Walk}
use Rattle.mt_operation.specs.{declared.splits.Halves.Halves, declared.splits.Splits.Splits}
use Rattle.mt_operation.proofs.Phases.{by_descent}
use Rattle.mt_core.proofs.{WalkBounds.{IsWayKind, walk_kind}, Points.{below_at, few_at}, Astray.behind_fewer}
use Rattle.mt_core.specs.Points.{MadeBy, HasMade, MayHaveGrown, IsAtPoint}
use Rattle.mt_core.specs.Budgets.{AreBelow, Budget, SeesNow, SeesSlot, behind, astray, level_of, above, until, IsBudget, IsLiveTree, TookLiveTree, WalksBy, budget_of}
use Rattle.mt_descent.specs.{Seen.{Stands, HasNext, IsRemembered}, Pasts.Past}
use Rattle.mt_descent.specs.KeptWalks.{GoesThrough, slice_in, IsAtVerify, IsAtConfirm, IsAtForward, TakenHolds, KeptAt, IsKept, IsAtBorder, walk_place}
use Rattle.mt_descent.specs.WalkMoves.{FindsIn, arrival, arrival_at, walk_onto, walk_anew, walk_here, walk_to_next, after_enter, after_pick, after_child, after_search, after_confirm, after_forward, Verifies, Confirms, Loads, TakesOut}
use Rattle.mt_descent.proofs.Ways.{same_stands}
use Rattle.mt_descent.proofs.Decides.{same_or_not, outdated_or_not}
use Rattle.mt_border.specs.declared.entry.Find.TheVariants as finds
use Rattle.mt_operation.specs.Phases as kinds
use Rattle.mt_operation.specs.declared.walk.Aim.TheVariants as aims
use Rattle.mt_operation.specs.declared.walk.Taken.TheVariants as takens

-- a version that the node has now is the same but for the lock
pub same_now : (v : ArenaView) (w : Walk) → SeesNow v w → SameButLock (at v w.place.node).version w.place.seen
same_now v w now = ap (λ (p : Parts). record p { locked = true }) (sym now)

-- links to one tree
same_link : (u t : ℕ) → takens.Link u ≡ takens.Link t → u ≡ t
same_link u t e = cc

-- the child for a slice of an interior node that is as it was seen is its child, so it is live and a level below it
is_child : (v : ArenaView) (key : Bytes) (w : Walk) → IsArena v.nodes v.trees → IsAtVerify v key w → Stands (at v w.place.node) w.place.seen
    → IsChild (at v w.place.node) (place_of (at v w.place.node).separators (slice_in key w)) (at v w.child)
is_child v key w arena h stands =
    let k = w.place.node in
    let remembered = h.above.covers.remembered in
    let inside = has_place (at v k).children refl (remembered.peopled h.above.interior) in
    (arena.nodes.pairs k w.child remembered.there h.picked.there).child (place_of (at v k).separators (slice_in key w)) inside (sym (h.picked.is stands)) stands.in_range.live
  where
    has_place : (xs : List ℕ) → (at v w.place.node).children ≡ xs → (at v w.place.node).children ≢ []
        → place_of (at v w.place.node).separators (slice_in key w) < length (at v w.place.node).children
    has_place [] e some = absurd (some e)
    has_place (x ∷ xs) e some =
        let between = (arena.nodes.each w.place.node h.above.covers.remembered.there).children.interior.between in
        omega (arith, place_of-le-length (at v w.place.node).separators (slice_in key w), between, ap length e)

child_level : (v : ArenaView) (key : Bytes) (w : Walk) → IsArena v.nodes v.trees → IsAtVerify v key w → Stands (at v w.place.node) w.place.seen
    → (at v w.child).level + 1 ≡ (at v w.place.node).level
child_level v key w arena h stands = (is_child v key w arena h stands).level

-- what is not deleted
not_deleted : (deleted : Bool) → ¬ (deleted ≡ true) → deleted ≡ false
not_deleted false never = refl
not_deleted true never = absurd (never refl)

-- what it says of a walk at this phase
walks_at : (v : ArenaView) (w : Walk) (p : Phase) → w.phase ≡ p → (b : Budget) (made : ℕ) → WalksBy w.phase b made v w → WalksBy p b made v w
walks_at v w p is b made few = subst (λ (q : Phase). WalksBy q b made v w) is few

module _ (v : ArenaView) (b : Budget) (law : IsBudget v b) (made : ℕ) where
  -- a walk that comes to a node with its version of now
  few_by : (border : Bool) (aim : Aim) (w : Walk) → SeesNow v w → made + 3 * level_of v w ≤ until b w
      → WalksBy (arrival_at border aim) b made v w
  few_by true aims.Write w now few = inl (now, omega (arith, few))
  few_by true aims.Read w now few = inl (now, omega (arith, few))
  few_by true aims.Scan w now few = inl (now, omega (arith, few))
  few_by false aim w now few = inl (now, few)

  pub comes_onto : (w : Walk) (k : ℕ) (seen : Parts) → seen ≡ (at v k).version → made + 3 * (at v k).level ≤ until b w
      → WalksBy (walk_onto w k seen).phase b made v (walk_onto w k seen)
  comes_onto w k seen now few = few_by seen.border w.aim (walk_onto w k seen) now few

  -- and one that comes with an older one
  strays_by : (border : Bool) (aim : Aim) (w : Walk) → made + (5 + behind v w.place.node) ≤ b.lost → WalksBy (arrival_at border aim) b made v w
  strays_by true aims.Write w few = inr (omega (arith, few))
  strays_by true aims.Read w few = inr (omega (arith, few))
  strays_by true aims.Scan w few = inr (omega (arith, few))
  strays_by false aim w few = inr (omega (arith, few))

  -- one that stays at its border node, to search or to lock
  stays_by : (aim : Aim) (w : Walk) → (SeesNow v w × (made ≤ b.lost)) ⊎ (made + (5 + behind v w.place.node) ≤ b.lost)
      → WalksBy (arrival aim) b made v w
  stays_by aims.Write w few = elim few [ inl now ↦ inl (now.0, omega (arith, now.1, law.begins w.layer)) | inr strays ↦ inr (omega (arith, strays)) ]
  stays_by aims.Read w few = elim few [ inl now ↦ inl (now.0, omega (arith, now.1, law.begins w.layer)) | inr strays ↦ inr strays ]
  stays_by aims.Scan w few = elim few [ inl now ↦ inl (now.0, omega (arith, now.1, law.begins w.layer)) | inr strays ↦ inr strays ]

module _ (v : ArenaView) (w after : Walk) where
  -- a walk picks a child, and looks at it
  pub pick_nears : (c : ℕ) → w.phase ≡ Pick → after ≡ after_pick w c → (b : Budget) → IsBudget v b → (made : ℕ) → WalksBy w.phase b made v w
      → WalksBy after.phase b (made + 1) v after
  pick_nears c picks is b law made few = subst (λ (x : Walk). WalksBy x.phase b (made + 1) v x) (sym is)
      (elim (walks_at v w Pick picks b made few) [
        | inl now ↦ inl (now.0, omega (arith, now.1))
        | inr strays ↦ inr (omega (arith, strays))
      ])

  pub child_nears : (r : Option ℕ) → w.phase ≡ Child → IfNone r (after ≡ after_child w (at v w.child).version) → (b : Budget) → IsBudget v b → (made : ℕ)
      → IfNone r (WalksBy w.phase b made v w → WalksBy after.phase b (made + 1) v after)
  child_nears (Some holder) looks is b law made = tt
  child_nears None looks is b law made = λ few. subst (λ (x : Walk). WalksBy x.phase b (made + 1) v x) (sym is)
      (elim (walks_at v w Child looks b made few) [
        | inl now ↦ inl (now.0, refl, omega (arith, now.1))
        | inr strays ↦ inr (inl (refl, omega (arith, strays)))
      ])

module _ (v : ArenaView) (arena : IsArena v.nodes v.trees) (key : Bytes) (past : Past) (w after : Walk) (kept : IsKept v past key None w) where
  -- from its beginning a walk comes to the root, or back to the top where its tree is dead
  pub enter_nears : (r : Option ℕ) → w.phase ≡ Enter
      → IfNone r (after ≡ after_enter (tree_at v.trees w.place.tree).standing w (tree_at v.trees w.place.tree).root (at v (tree_at v.trees w.place.tree).root).version)
      → (b : Budget) → IsBudget v b → (made : ℕ) → IfNone r (WalksBy w.phase b made v w → WalksBy after.phase b (made + 1) v after)
  enter_nears (Some holder) enters is b law made = tt
  enter_nears None enters is b law made = λ few. subst (λ (x : Walk). WalksBy x.phase b (made + 1) v x) (sym is)
      (by b law made (walks_at v w Enter enters b made few) (tree_at v.trees w.place.tree).standing refl)
    where
      through : GoesThrough v w.place.tree w.layer key
      through = subst (λ (p : Phase). KeptAt p v past key None w) enters kept

      k : ℕ
      k = (tree_at v.trees w.place.tree).root

      by : (b : Budget) → IsBudget v b → (made : ℕ) → WalksBy Enter b made v w
          → (standing : Standing) → (tree_at v.trees w.place.tree).standing ≡ standing
          → WalksBy (after_enter standing w k (at v k).version).phase b (made + 1) v (after_enter standing w k (at v k).version)
      by b law made few (Made q) e = absurd (through.unmade q e)
      by b law made few Live e =
          let under = law.roots w.place.tree through.there e in
          let upto : made ≤ b.enters w.layer = elim few [ inl now ↦ now.1 | inr strays ↦ omega (arith, strays, law.begins w.layer) ] in
          comes_onto v b law (made + 1) w k (at v k).version refl (omega (arith, upto, under))
      by b law made few Dead e = elim few [
        | inl now ↦ absurd (let no = sym now.0 ∙ e in cc)
        | inr strays ↦ inl (arena.forest.top.live, omega (arith, strays, law.begins 0))
      ]

  -- the child of a node that was as it is seen is live
  child_live : IsAtVerify v key w → Stands (at v w.place.node) w.place.seen → (at v w.child).version.deleted ≡ false
  child_live verifying stands = (is_child v key w arena verifying stands).live

  -- one that is astray comes to the child where its node is as it was; else it picks again with the version of now, or begins anew
  strays_on : (b : Budget) → IsBudget v b → (made : ℕ) → IsAtVerify v key w → Verifies (at v w.place.node) w after → made + 2 ≤ b.lost
      → (Stands (at v w.place.node) w.place.seen → WalksBy (walk_onto w w.child w.child_seen).phase b (made + 1) v (walk_onto w w.child w.child_seen))
      → WalksBy after.phase b (made + 1) v after
  strays_on b law made verifying is upto onto = elim (same_or_not (at v w.place.node).version w.place.seen) [
    | inl same ↦ subst (λ (x : Walk). WalksBy x.phase b (made + 1) v x) (sym (is.same same))
        (onto (same_stands (at v w.place.node) w.place.seen verifying.above.covers.remembered.undeleted same))
    | inr other ↦ elim (outdated_or_not (at v w.place.node) w.place.seen) [
      | inl outdated ↦ subst (λ (x : Walk). WalksBy x.phase b (made + 1) v x) (sym (is.outdated other outdated)) (inr (omega (arith, upto)))
      | inr whole ↦
          let under = law.under w.place.node verifying.above.covers.remembered.there (not_deleted (at v w.place.node).version.deleted (λ gone. whole (inl gone))) w.layer w.place.tree in
          subst (λ (x : Walk). WalksBy x.phase b (made + 1) v x) (sym (is.changed other whole)) (inl (refl, omega (arith, upto, under)))
    ]
  ]

  -- and so does one that is not
  pub verify_nears : (r : Option ℕ) → w.phase ≡ Verify → IfNone r (Verifies (at v w.place.node) w after) → (b : Budget) → IsBudget v b → (made : ℕ)
      → IfNone r (WalksBy w.phase b made v w → WalksBy after.phase b (made + 1) v after)
  verify_nears (Some holder) verifies is b law made = tt
  verify_nears None verifies is b law made = λ point.
      let verifying : IsAtVerify v key w = subst (λ (p : Phase). KeptAt p v past key None w) verifies kept in
      let few : WalksBy Verify b made v w = walks_at v w Verify verifies b made point in
      elim few [
        | inl now ↦
            let same = same_now v w now.0 in
            let level = child_level v key w arena verifying (same_stands (at v w.place.node) w.place.seen verifying.above.covers.remembered.undeleted same) in
            subst (λ (x : Walk). WalksBy x.phase b (made + 1) v x) (sym (is.same same))
            (comes_onto v b law (made + 1) w w.child w.child_seen now.1 (omega (arith, now.2, level)))
        | inr strays ↦ elim strays [
          | inl sees ↦ strays_on b law made verifying is sees.1 (λ stands.
              let under = law.under w.child verifying.picked.there (child_live verifying stands) w.layer w.place.tree in
              comes_onto v b law (made + 1) w w.child w.child_seen sees.0 (omega (arith, sees.1, under)))
          | inr far ↦ strays_on b law made verifying is (omega (arith, far)) (λ stands. strays_by v b law (made + 1) w.child_seen.border w.aim (walk_onto w w.child w.child_seen) (omega (arith, far)))
        ]
      ]

  -- it goes on to the next border node, which begins behind its own, or stays; or begins anew where that one was deleted
  pub forward_nears : (r : Option ℕ) (slice : ℕ) → w.phase ≡ Forward → (w.next ≡ None → IsNone r × (after ≡ walk_here w))
      → ((j : ℕ) → w.next ≡ Some j → IfNone r (after ≡ after_forward w slice j (at v j)))
      → (b : Budget) → IsBudget v b → (made : ℕ) → IfNone r (WalksBy w.phase b made v w → WalksBy after.phase b (made + 1) v after)
  forward_nears (Some holder) slice forwards last is b law made = tt
  forward_nears None slice forwards last is b law made = λ point.
      let forward : IsAtForward v key w = subst (λ (p : Phase). KeptAt p v past key None w) forwards kept in
      let few : WalksBy Forward b made v w = walks_at v w Forward forwards b made point in
      let here : WalksBy (walk_here w).phase b (made + 1) v (walk_here w) = stays_by v b law (made + 1) w.aim (walk_here w) (elim few [
        | inl now ↦ inl (now.0, omega (arith, now.1))
        | inr strays ↦ inr (omega (arith, strays))
      ]) in
      let upto : made + (2 + behind v w.place.node) ≤ b.lost = elim few [
        | inl now ↦ now.1
        | inr strays ↦ omega (arith, strays)
      ] in
      by_next b made here (λ j e. subst (λ (x : Walk). WalksBy x.phase b (made + 1) v x) (sym (is j e))
      (onward b made forward.next upto here j e (at v j).version.deleted (nat_le (at v j).low slice) refl)) w.next refl
    where
      onward : (b : Budget) (made : ℕ) → HasNext v w.place.tree w.place.node w.place.seen w.next
          → made + (2 + behind v w.place.node) ≤ b.lost → WalksBy (walk_here w).phase b (made + 1) v (walk_here w)
          → (j : ℕ) → w.next ≡ Some j → (deleted near : Bool) → (at v j).version.deleted ≡ deleted
          → let x = cond deleted (walk_anew w) (cond near (walk_to_next w j (at v j)) (walk_here w)) in WalksBy x.phase b (made + 1) v x
      onward b made next upto here j e true near gone = inr (omega (arith, upto))
      onward b made next upto here j e false false live = here
      onward b made next upto here j e false true live =
          let fewer = behind_fewer v.nodes (at v w.place.node).low (at v j).low j (next.after j e) (next.there j e) live refl in
          inl (refl, omega (arith, upto, fewer))

      by_next : (b : Budget) (made : ℕ) → WalksBy (walk_here w).phase b (made + 1) v (walk_here w)
          → ((j : ℕ) → w.next ≡ Some j → WalksBy after.phase b (made + 1) v after) → (next : Option ℕ) → w.next ≡ next
          → WalksBy after.phase b (made + 1) v after
      by_next b made here there None e = subst (λ (x : Walk). WalksBy x.phase b (made + 1) v x) (sym (last e).1) here
      by_next b made here there (Some j) e = there j e

-- a search leaves its walk at the node
pub search_nears : (v : ArenaView) (key : Bytes) (w after : Walk) (f : Find) (step : ℕ) → w.phase ≡ Search → FindsIn (at v w.place.node) key w.layer f → after ≡ after_search f w step
    → (height made : ℕ) (s : Splits) → IsAtPoint height made v w s → IsAtPoint height (made + 1) v after s
search_nears v key w after f step looks found is height made s point = subst (λ (x : Walk). IsAtPoint height (made + 1) v x s) (sym is) (by f found)
  where
    below : AreBelow v height
    below = below_at height made v w s Search looks (λ grown. grown) point

    few : (SeesNow v w × (made ≤ above height w + 3 * height)) ⊎ (made + (5 + behind v w.place.node) ≤ astray height)
    few = few_at height made v w s Search looks point

    load : (slot : ℕ) → place_at (at v w.place.node) slot < length (at v w.place.node).slots
        → (SeesNow v w × SeesSlot v (record w { slot = slot }) × (made + 1 ≤ above height w + 3 * height + 1)) ⊎ (made + 1 + (4 + behind v w.place.node) ≤ astray height)
    load slot live = elim few [
      | inl now ↦ inl (now.0, live, omega (arith, now.1))
      | inr strays ↦ inr (omega (arith, strays))
    ]

    confirm : (SeesNow v w × TookLiveTree v (record w { taken = takens.Missing }) × (made + 1 ≤ above height w + 3 * height + 2)) ⊎ (made + 1 + (3 + behind v w.place.node) ≤ astray height)
    confirm = elim few [
      | inl now ↦ inl (now.0, λ t took. absurd (cc), omega (arith, now.1))
      | inr strays ↦ inr (omega (arith, strays))
    ]

    by : (f : Find) → FindsIn (at v w.place.node) key w.layer f → IsAtPoint height (made + 1) v (after_search f w step) s
    by finds.Missing has = record { below = λ other. below; few = confirm }
    by (finds.Slot slot OtherLong) has = record { below = λ other. below; few = confirm }
    by (finds.Slot slot ThisKey) has = record { below = λ other. below; few = load slot has.in_range }
    by (finds.Slot slot ToTree) has = record { below = λ other. below; few = load slot has.in_range }

-- so does a load that took something
pub load_nears : (v : ArenaView) (key : Bytes) (w after : Walk) (row : Option Stamped) → IsArena v.nodes v.trees → IsAtBorder v key w → w.phase ≡ Load
    → Loads (at v w.place.node) w after row
    → (height made : ℕ) (s : Splits) → IsAtPoint height made v w s → IsAtPoint height (made + 1) v after s
load_nears v key w after row arena border loads t height made s point =
    let below = below_at height made v w s Load loads (λ grown. grown) point in
    let few : (SeesNow v w × SeesSlot v w × (made ≤ above height w + 3 * height + 1)) ⊎ (made + (4 + behind v w.place.node) ≤ astray height) = few_at height made v w s Load loads point in
    subst (λ (x : Walk). IsAtPoint height (made + 1) v x s) (sym t.is) (record {
      below = λ other. below;
      few = elim few [
        | inl now ↦ inl (now.0, took now.0 now.1 after.taken t.takes, omega (arith, now.2))
        | inr strays ↦ inr (omega (arith, strays))
      ];
    })
  where
    remembered : IsRemembered v w.place.tree w.place.node w.place.seen (slice_in key w)
    remembered = border.covers.remembered

    -- a link that stands in a live node leads to a live tree
    took : SeesNow v w → SeesSlot v w → (taken : Taken) → TakesOut (at v w.place.node) w row taken after.right_at → (tree : ℕ) → taken ≡ takens.Link tree → IsLiveTree v tree
    took now here (takens.Link u) takes tree same =
        let live : (at v w.place.node).version.deleted ≡ false = ap (λ (p : Parts). p.deleted) (sym now) ∙ remembered.undeleted in
        subst (IsLiveTree v) (same_link u tree same) (leads v.nodes v.trees arena w.place.node (walk_place v w) u (record { there = remembered.there; live = live; in_range = here; is = sym (t.shown here) ∙ takes.0 })).live
    took now here takens.Missing takes tree same = absurd (cc)
    took now here takens.Row takes tree same = absurd (cc)
    took now here takens.Nothing takes tree same = absurd (cc)

-- a step into the next layer is within what the layers above it may take
layer_more : (height layer made : ℕ) → made ≤ astray height + layer * (3 * height + 12) + 3 * height + 10
    → made + 1 ≤ astray height + (layer + 1) * (3 * height + 12)
layer_more height layer made few = let more = add-mul layer 1 (3 * height + 12) in omega (arith, few, more)

pub next_layer : (height layer made : ℕ) → layer + 1 < 32 → made ≤ astray height + min layer 31 * (3 * height + 12) + 3 * height + 10
    → made + 1 ≤ astray height + min (layer + 1) 31 * (3 * height + 12)
next_layer height layer made shallow few =
    let here : min layer 31 ≡ layer = min-eq_left (omega (arith, shallow)) in
    let next : min (layer + 1) 31 ≡ layer + 1 = min-eq_left (omega (arith, shallow)) in
    subst (λ l. made + 1 ≤ astray height + l * (3 * height + 12)) (sym next) (layer_more height layer made (subst (λ l. made ≤ astray height + l * (3 * height + 12) + 3 * height + 10) here few))

-- a stored key reaches at most 32 layers
pub shallow_below : (layer : ℕ) (key : Bytes) → IsStoredKey key → 8 * (layer + 1) < length key → layer + 1 < 32
shallow_below layer key stored begun = omega (arith, stored.within, begun)

-- a get that goes on from a node that is as it was goes into the tree of a link; from another it goes to the next node, or begins anew
pub confirm_nears : (v : ArenaView) (past : Past) (key : Bytes) (row : Option Stamped) (w after : Walk) → IsStoredKey key → w.phase ≡ Confirm
    → IsAtConfirm v past key row w
    → Confirms (at v w.place.node) w after → after.phase ≢ Done → (height made : ℕ) (s : Splits) → IsAtPoint height made v w s
    → IsAtPoint height (made + 1) v after s
confirm_nears v past key row w after stored confirming h confirms goes_on height made s point =
    elim (same_or_not (at v w.place.node).version w.place.seen) [
      | inl same ↦
          let is = confirms.same same in
          subst (λ (x : Walk). IsAtPoint height (made + 1) v x s) (sym is)
          (onward (same_stands (at v w.place.node) w.place.seen h.at_border.covers.remembered.undeleted same) w.taken refl h.taken (λ done. goes_on (ap (λ (x : Walk). x.phase) is ∙ done)))
      | inr other ↦ elim few [
        | inl now ↦ absurd (other (same_now v w now.0))
        | inr strays ↦
            subst (λ (x : Walk). IsAtPoint height (made + 1) v x s) (sym (confirms.changed other)) (changes_by strays (at v w.place.node).version.deleted)
      ]
    ]
  where
    below : AreBelow v height
    below = below_at height made v w s Confirm confirming (λ grown. grown) point

    few : (SeesNow v w × TookLiveTree v w × (made ≤ above height w + 3 * height + 2)) ⊎ (made + (3 + behind v w.place.node) ≤ astray height)
    few = few_at height made v w s Confirm confirming point

    changes_by : made + (3 + behind v w.place.node) ≤ astray height → (deleted : Bool)
        → IsAtPoint height (made + 1) v (cond deleted (walk_anew w) (record w { place = record w.place { seen = (at v w.place.node).version }; next = (at v w.place.node).next; phase = Forward })) s
    changes_by strays true = record { below = λ grown. below; few = inr (omega (arith, strays)) }
    changes_by strays false = record { below = λ grown. below; few = inl (refl, omega (arith, strays)) }

    onward : Stands (at v w.place.node) w.place.seen → (taken : Taken) → w.taken ≡ taken → TakenHolds v past key row w taken → (after_confirm taken w).phase ≢ Done
        → IsAtPoint height (made + 1) v (after_confirm taken w) s
    onward stands (Link u) e holds on = record {
      below = λ other. below;
      few = elim few [
        | inl now ↦ inl (now.1 u e, next_layer height w.layer made (shallow_below w.layer key stored (holds stands).begun) (omega (arith, now.2)))
        | inr strays ↦ inr (omega (arith, strays))
      ];
    }
    onward stands Missing e holds on = absurd (on refl)
    onward stands Row e holds on = absurd (on refl)
    onward stands Nothing e holds on = absurd (on refl)

-- the bounds of a get or a put hold of it where all live nodes are below the height
pub height_law : (v : ArenaView) (height : ℕ) → IsArena v.nodes v.trees → AreBelow v height → IsBudget v (budget_of height)
height_law v height arena below = record {
  begins = λ layer. omega arith;
  under = λ k there live layer t. let low = below k there live in omega (arith, low);
  roots = λ t there live.
      let root = (arena.forest.each t there).root_there in
      let home = (arena.forest.homes (tree_at v.trees t).root t root there).root_is refl (λ dead. absurd (let no = sym live ∙ dead in cc)) in
      below (tree_at v.trees t).root root home.live;
}

-- the phases on the way are those of which it speaks
pub walks_made : (p : Phase) (height made : ℕ) (v : ArenaView) (w : Walk) (s : Splits) → WalksBy p (budget_of height) made v w → HasMade p height made v w s
walks_made p height made v w s few = by (row p).kind (walk_kind p (budget_of height) made v w few)
  where
    by : (k : Kind) → IsWayKind k → MadeBy k p height made v w s
    by kinds.Descends is = few
    by kinds.Reads is = few
    by kinds.Scans is = few
    by kinds.Locks is = few
    by _ is = absurd is

made_walks : (p : Phase) → IsDescent p → (height made : ℕ) (v : ArenaView) (w : Walk) (s : Splits) → HasMade p height made v w s → WalksBy p (budget_of height) made v w
made_walks p i height made v w s = by_descent (λ p. HasMade p height made v w s → WalksBy p (budget_of height) made v w) (λ k. k) (λ k. k) (λ k. k) (λ k. k) (λ k. k) p i

descent_ungrown : (p : Phase) → IsDescent p → (halves : List Halves) → ¬ MayHaveGrown p halves
descent_ungrown Unlock i halves grown = i
descent_ungrown _ i halves grown = grown

-- a step down brings a get or a put on
pub descent_nears : (v : ArenaView) (w x : Walk) (s : Splits) → IsArena v.nodes v.trees → IsDescent w.phase
    → ((b : Budget) → IsBudget v b → (made : ℕ) → WalksBy w.phase b made v w → WalksBy x.phase b (made + 1) v x)
    → (height made : ℕ) → IsAtPoint height made v w s → IsAtPoint height (made + 1) v x s
descent_nears v w x s arena descent nears height made point =
    let below = point.below (descent_ungrown w.phase descent s.halves.items) in
    record {
      below = λ ungrown. below;
      few = walks_made x.phase height (made + 1) v x s (nears (budget_of height) (height_law v height arena below) made (made_walks w.phase descent height made v w s point.few));
    }
