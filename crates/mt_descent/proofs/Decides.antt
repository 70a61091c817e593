-- What is so or is not, of versions: for steps that compare them.
use Rattle.std.proofs.{Common.{◌≡◌, ◌≢◌, ℕ, ◌⊎◌, inl, inr, Bool, true, false, refl, ap}, lemmas.Bool.cases_eq}
use Rattle.mt_version.specs.{Parts.Parts, Changes.SameButLock}
use Rattle.mt_arena.specs.NodeView.{NodeView}
use Rattle.mt_descent.specs.Seen.{IsOutdated}

same_bool : (a b : Bool) → (a ≡ b) ⊎ (a ≢ b)
same_bool true true = inl refl
same_bool true false = inr (λ e. cc)
same_bool false true = inr (λ e. cc)
same_bool false false = inl refl

same_counters : (a b x y : ℕ) → ((a ≡ b) × (x ≡ y)) ⊎ (a ≡ b → x ≡ y → ⊥)
same_counters a b x y = elim (cases_eq a b) [
  | inr other ↦ inr (λ e _. other e)
  | inl same ↦ elim (cases_eq x y) [
    | inr differ ↦ inr (λ _ e. differ e)
    | inl also ↦ inl (same, also)
  ]
]

-- versions are the same but for the lock, or not, by what is so of each part
by_parts : (p q : Parts) → (p.inserting ≡ q.inserting) ⊎ (p.inserting ≢ q.inserting) → (p.splitting ≡ q.splitting) ⊎ (p.splitting ≢ q.splitting)
    → (p.deleted ≡ q.deleted) ⊎ (p.deleted ≢ q.deleted) → (p.root ≡ q.root) ⊎ (p.root ≢ q.root) → (p.border ≡ q.border) ⊎ (p.border ≢ q.border)
    → ((p.inserts ≡ q.inserts) × (p.splits ≡ q.splits)) ⊎ (p.inserts ≡ q.inserts → p.splits ≡ q.splits → ⊥) → SameButLock p q ⊎ ¬ SameButLock p q
by_parts p q (inr other) _ _ _ _ _ = inr (λ e. other (ap (λ (v : Parts). v.inserting) e))
by_parts p q (inl inserting) (inr other) _ _ _ _ = inr (λ e. other (ap (λ (v : Parts). v.splitting) e))
by_parts p q (inl inserting) (inl splitting) (inr other) _ _ _ = inr (λ e. other (ap (λ (v : Parts). v.deleted) e))
by_parts p q (inl inserting) (inl splitting) (inl deleted) (inr other) _ _ = inr (λ e. other (ap (λ (v : Parts). v.root) e))
by_parts p q (inl inserting) (inl splitting) (inl deleted) (inl root) (inr other) _ = inr (λ e. other (ap (λ (v : Parts). v.border) e))
by_parts p q (inl inserting) (inl splitting) (inl deleted) (inl root) (inl border) (inr differ) =
    inr (λ e. differ (ap (λ (v : Parts). v.inserts) e) (ap (λ (v : Parts). v.splits) e))
by_parts p q (inl inserting) (inl splitting) (inl deleted) (inl root) (inl border) (inl (inserts, splits)) = inl (λ a. record {
  locked = true;
  inserting = inserting a;
  splitting = splitting a;
  deleted = deleted a;
  root = root a;
  border = border a;
  inserts = inserts a;
  splits = splits a;
})

pub same_or_not : (p q : Parts) → SameButLock p q ⊎ ¬ SameButLock p q
same_or_not p q =
    by_parts p q (same_bool p.inserting q.inserting) (same_bool p.splitting q.splitting) (same_bool p.deleted q.deleted) (same_bool p.root q.root) (same_bool p.border q.border) (same_counters p.inserts q.inserts p.splits q.splits)

-- a node was deleted or split since it was seen, or not
pub outdated_or_not : (n : NodeView) (seen : Parts) → IsOutdated n seen ⊎ ¬ IsOutdated n seen
outdated_or_not n seen = elim (same_bool n.version.deleted true) [
  | inl deleted ↦ inl (inl deleted)
  | inr live ↦ elim (cases_eq n.version.splits seen.splits) [
    | inr split ↦ inl (inr split)
    | inl whole ↦ inr (λ outdated. elim outdated [
      | inl deleted ↦ live deleted
      | inr split ↦ split whole
    ])
  ]
]
