-- What comes next once a slot was taken out of a border node can be told.
use Rattle.std.proofs.{Common.{◌≡◌, ◌⊎◌, ℕ, List, [], ◌∷◌, Option, Some, None, refl, sym, ap, ◌∙◌, inl, inr, arith}, lemmas.Bool.cases_lt}
use Rattle.std.proofs.lemmas.Option.{same_Some, none-some}
use Rattle.mt_border.specs.declared.entry.Entry.{Entry}
use Rattle.mt_arena.specs.{Arena.ArenaView, Accesses.at}
use Rattle.mt_operation.specs.{declared.phase.Phase.Phase, declared.phase.Phase.TheVariants.{LockPrev, Unlock}, declared.walk.Walk.Walk}
use Rattle.mt_operation.specs.declared.removal.Removal.{Removal}
use Rattle.mt_held.specs.Moves.{walk_at}
use Rattle.mt_remove.specs.{KeptRemovals.IsEmptyChild, RemovalEdits.{IsToUnlink, GoesOnEmptied}}

module _ (v : ArenaView) (k : ℕ) where
  -- it is to be taken out, or not
  by_parent : (slots : List Entry) (parent : Option ℕ) → (at v k).slots ≡ slots → (at v k).parent ≡ parent → IsToUnlink v k ⊎ ¬ IsToUnlink v k
  by_parent (e ∷ slots) parent is named = inr (λ u. absurd (let both = sym is ∙ u.empty in cc))
  by_parent [] None is named = inr (λ u. none-some u.parent (sym named ∙ u.parent_is))
  by_parent [] (Some p) is named = elim (cases_lt (at v p).low (at v k).low) [
    | inl behind ↦ inl (record { empty = is; parent = p; parent_is = named; behind = behind })
    | inr before ↦ inr (λ u. absurd (let same : (at v u.parent).low ≡ (at v p).low = ap (λ j. (at v j).low) (same_Some _ _ (sym u.parent_is ∙ named)) in omega (arith, u.behind, before, same)))
  ]

  pub unlinks_or_not : IsToUnlink v k ⊎ ¬ IsToUnlink v k
  unlinks_or_not = by_parent (at v k).slots (at v k).parent refl refl

module _ (v : ArenaView) (before after : Walk) (s t : Removal) (goes : GoesOnEmptied v before after s t) where
  pub emptied_either : (after.phase ≡ LockPrev) ⊎ (after.phase ≡ Unlock)
  emptied_either = elim (unlinks_or_not v before.place.node) [
    | inl is ↦ inl (ap (λ (w : Walk). w.phase) (goes.unlinks is))
    | inr other ↦ inr (ap (λ (w : Walk). w.phase) (goes.returns other))
  ]

  at_walk : (phase : Phase) → after ≡ walk_at phase before → after ≡ walk_at after.phase before
  at_walk phase is = is ∙ ap (λ (p : Phase). walk_at p before) (sym (ap (λ (w : Walk). w.phase) is))

  pub emptied_walk : after ≡ walk_at after.phase before
  emptied_walk = elim (unlinks_or_not v before.place.node) [ inl is ↦ at_walk LockPrev (goes.unlinks is) | inr other ↦ at_walk Unlock (goes.returns other) ]

  pub emptied_child : after.phase ≡ LockPrev → IsEmptyChild (at v before.place.node)
  emptied_child at_prev = elim (unlinks_or_not v before.place.node) [
    | inl is ↦ record { empty = is.empty; child = λ none. absurd (none-some is.parent (sym none ∙ is.parent_is)); later = omega (arith, is.behind) }
    | inr other ↦ absurd (let no = sym at_prev ∙ ap (λ (w : Walk). w.phase) (goes.returns other) in cc)
  ]
