-- What a caller was asked, one part after another.
use Rattle.std.proofs.Common.{◌≡◌, List, [], ◌∷◌, ◌++◌, refl, sym, subst}
use Rattle.std.specs.List.{FoldsTo}
use Rattle.mt_caller.specs.Exchanges.{Exchange, CallerRelation}
use Rattle.mt_resp_commands.specs.Links.{Asked}

module _ {S : Type 0} (exchanges : CallerRelation S) where
  folds_then : (xs ys : List Exchange) (s m t : S) → FoldsTo exchanges s xs m → FoldsTo exchanges m ys t → FoldsTo exchanges s (xs ++ ys) t
  folds_then [] ys s m t e f = subst (λ x. FoldsTo exchanges x ys t) (sym e) f
  folds_then (x ∷ xs) ys s m t (n, a, e) f = (n, a, folds_then xs ys n m t e f)

  pub asked_none : (s : S) → Asked exchanges s s
  asked_none s = ([], refl)

  pub asked_then : (s m t : S) → Asked exchanges s m → Asked exchanges m t → Asked exchanges s t
  asked_then s m t (xs, e) (ys, f) = (xs ++ ys, folds_then xs ys s m t e f)
