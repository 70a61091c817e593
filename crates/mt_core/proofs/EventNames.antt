-- The names of a run, by the map of their tickets and by the map of their ids: for `begin_by`, `step_by` and `run_events`.
use Rattle.std.proofs.{Common.{◌≡◌, ◌≢◌, ◌∙◌, ℕ, inl, inr, IsSome, true, false, Option, Some, None, is_some, sym, refl, ap}, lemmas.Option.same_Some}
use Rattle.std.proofs.lemmas.Bool.{cases_eq}
use Rattle.std.specs.{declared.cmp.Ordering.Ordering, declared.cmp.Ordering.TheVariants.{Less, Equal, Greater}, Option.option_map, Ordering.{nat_cmp, is_eq}}
use Rattle.std.specs.{FinMap.nat_cmp-IsAntisymmetric, BTreeMap.{BTreeMap, get, Updates}}
use Rattle.mt_core.specs.{declared.answers.Ticket.Ticket, Tickets.named}
use Rattle.mt_state.specs.{Views.{Shown, op_at}, Histories.{Names, Renames, AreHeld, AreById}}

-- what a map has for a name is what the name stands for
abbrev pub id_in : Option (Option Ticket) → Option (Option ℕ)
id_in w = option_map (option_map (λ (t : Ticket). t.id)) w

-- a name stands for the id of its ticket
pub named_by : (names : BTreeMap ℕ (Option Ticket)) (o : ℕ) (t : Ticket) → get nat_cmp names o ≡ Some (Some t) → named names o ≡ Some (Some t.id)
named_by names o t e = ap id_in e

-- a name stands for one operation
pub one_id : (names : BTreeMap ℕ (Option Ticket)) (o n m : ℕ) → named names o ≡ Some (Some n) → named names o ≡ Some (Some m) → n ≡ m
one_id names o n m e f = same_Some n m (same_Some _ _ (sym e ∙ f))

-- a name that the map does not have stands for nothing
pub named_none : (names : BTreeMap ℕ (Option Ticket)) (o : ℕ) → is_some (get nat_cmp names o) ≡ false → named names o ≡ None
named_none names o e = by (get nat_cmp names o) e
  where
    by : (w : Option (Option Ticket)) → is_some w ≡ false → id_in w ≡ None
    by None e = refl
    by (Some t) e = absurd (cc)

-- another key is not the one that is asked for
pub other_key : (o q : ℕ) → q ≢ o → is_eq (nat_cmp o q) ≡ false
other_key o q ne = by (nat_cmp o q) refl
  where
    by : (w : Ordering) → nat_cmp o q ≡ w → is_eq w ≡ false
    by Less e = refl
    by Equal e = absurd (ne (sym (nat_cmp-IsAntisymmetric o q e)))
    by Greater e = refl

-- one entry more, or another one at a name
pub renamed : (old new : BTreeMap ℕ (Option Ticket)) (o : ℕ) (t : Ticket) → Updates nat_cmp old new o (Some (Some t))
    → Renames (named old) (named new) o (Some t.id)
renamed old new o t u = record {
  here = ap id_in u.1;
  others = λ q ne. ap id_in (u.2 q (other_key o q ne));
}

none_named : {n : ℕ} → ◌≡◌ {A = Option (Option ℕ)} (Some None) (Some (Some n)) → ⊥
none_named e = cc

-- a map from ids has the names still where one operation more has one, at an id that none had
pub by_id_begun : (ids now : BTreeMap ℕ ℕ) (old new : Names) (table : Shown) (o n : ℕ) → AreById ids old → AreHeld old table → op_at table n ≡ None
    → Renames old new o (Some n) → Updates nat_cmp ids now n (Some o) → AreById now new
by_id_begun ids now old new table o n by_id held free renames u q m e = elim (cases_eq q o) [
  | inl is ↦
      let same : n ≡ m = same_Some n m (same_Some _ _ (sym renames.here ∙ ap new (sym is) ∙ e)) in
      ap (get nat_cmp now) (sym same) ∙ u.1 ∙ ap (λ w. Some w) (sym is)
  | inr other ↦
      let was = sym (renames.others q other) ∙ e in
      u.2 m (other_key n m (λ is. free_held (sym (ap (λ w. is_some (op_at table w)) is ∙ ap is_some free) ∙ held q m was))) ∙ by_id q m was
]
  where
    free_held : false ≡ true → ⊥
    free_held e = cc

-- and where one has none any more
pub by_id_taken : (ids : BTreeMap ℕ ℕ) (old new : Names) (o : ℕ) → AreById ids old → Renames old new o None → AreById ids new
by_id_taken ids old new o by_id renames q m e = elim (cases_eq q o) [
  | inl is ↦ absurd (none_named (sym renames.here ∙ ap new (sym is) ∙ e))
  | inr other ↦ by_id q m (sym (renames.others q other) ∙ e)
]

-- the name that the map has of an operation stands for it
pub by_id_names : (ids : BTreeMap ℕ ℕ) (names : Names) (o n : ℕ) → AreById ids names → (p : ℕ) × (names p ≡ Some (Some n))
    → get nat_cmp ids n ≡ Some o → names o ≡ Some (Some n)
by_id_names ids names o n by_id (p, e) at = ap names (sym (same_Some p o (sym (by_id p n e) ∙ at))) ∙ e

-- there is one, for an operation that has a name
pub by_id_there : (ids : BTreeMap ℕ ℕ) (names : Names) (n : ℕ) → AreById ids names → (p : ℕ) × (names p ≡ Some (Some n)) → IsSome (get nat_cmp ids n)
by_id_there ids names n by_id (p, e) = ap is_some (by_id p n e)
