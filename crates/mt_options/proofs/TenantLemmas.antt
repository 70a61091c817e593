-- One more word is read, or is the first with a fault.
use Rattle.std.proofs.Common.{◌≡◌, ℕ, ◌+◌, ◌<◌, List, [], ◌∷◌, ◌++◌, length, take, Some, slice_get, get_or, refl, sym, ap, subst, ◌∙◌, add-one}
use Rattle.std.proofs.Math.Seq.{take-suc}
use Rattle.mt_options.specs.{declared.tenants.TenantQuota.TenantQuota, declared.tenants.TenantsFault.TenantsFault}
use Rattle.mt_options.specs.declared.tenants.TenantsFault.TheVariants.{Malformed, Refused}
use Rattle.mt_options.specs.Tenants.{AreTenants, AddsTenant, IsFirstFault, IsFault, place_of, More}

-- one word more
pub one_more : (words : List (List ℕ)) (at : ℕ) (before after : List TenantQuota) (word : List ℕ) → at < length words → get_or words at [] ≡ word → AreTenants (take at words) before → AddsTenant before after word → AreTenants (take (at + 1) words) after
one_more words at before after word inside is read more =
    subst (λ ws. AreTenants ws after) (sym (ap (λ n. take n words) (add-one at) ∙ take-suc words at [] inside ∙ ap (λ w. take at words ++ w ∷ []) is)) (More word read more)

-- the fault names the word's number
same_place : (before : List TenantQuota) (at : ℕ) (word : List ℕ) (fault : TenantsFault) → IsFault before at word fault → place_of fault ≡ at
same_place before at word (Malformed n why) f = f.0
same_place before at word (Refused n refusal) f = f.0

-- the fault of a word whose number it names
at_place : (before : List TenantQuota) (at : ℕ) (word : List ℕ) (fault : TenantsFault) → IsFault before at word fault → IsFault before (place_of fault) word fault
at_place before at word (Malformed n why) f = (refl, f.1)
at_place before at word (Refused n refusal) f = (refl, f.1, f.2, f.3)

-- the first word with a fault
pub first_fault : (words : List (List ℕ)) (at : ℕ) (before : List TenantQuota) (word : List ℕ) (fault : TenantsFault) → slice_get words at ≡ Some word → AreTenants (take at words) before → IsFault before at word fault → IsFirstFault words fault
first_fault words at before word fault there read f = record {
  before = before;
  word = word;
  read = subst (λ n. AreTenants (take n words) before) (sym (same_place before at word fault f)) read;
  there = ap (slice_get words) (same_place before at word fault f) ∙ there;
  is = at_place before at word fault f;
}
