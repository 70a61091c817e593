-- The keys that are done with at a fence: with each key all lower ones, and more of them the further the fence lies.
use Rattle.std.proofs.Common.{◌≡◌, ℕ, ◌<◌, ◌^◌, Bool, true, false, [], ◌∷◌, ◌++◌, refl, sym, ap, ◌∙◌}
use Rattle.std.specs.{Prelude.{not, if◌then◌else◌}, Int.{w32, to_be_bytes}, declared.cmp.Ordering.Ordering}
use Rattle.std.specs.{declared.cmp.Ordering.TheVariants.{Less, Equal, Greater}, Ordering.{nat_cmp, is_le, is_lt, ordering_then, ordering_reverse}}
use Rattle.std.specs.Cmp.Lexicographic.{slice_cmp}
use Rattle.mt_slices.{specs.Keys.{stored_key, tenant_of}, proofs.Tenants.tenant_of-stored_key}
use Rattle.mt_rows.{specs.{Rows.Bytes, Maps.is_walked}, proofs.CommandLaws.{keys_total, keys_exact}}
use Rattle.mt_walks.specs.Walked.{IsFront}
use Rattle.mt_readings.{specs.{Reading.is_below, Tenancies.passed_at}, proofs.Bytewise.nat_same}

-- by their bytes
abbrev cmp : Bytes → Bytes → Ordering
cmp = slice_cmp nat_cmp

-- whether a key that stands so to a fence is done with
abbrev by_order : Bool → Ordering → Bool
by_order after o = if after then is_le o else is_lt o

-- keys that begin with the same bytes stand as what follows
behind_same : (front a b : Bytes) → cmp (front ++ a) (front ++ b) ≡ cmp a b
behind_same [] a b = refl
behind_same (x ∷ front) a b = ap (λ o. ordering_then o (cmp (front ++ a) (front ++ b))) (nat_same x) ∙ behind_same front a b

-- so a tenant's stored keys stand as its users' keys
stored_same : (t : ℕ) (a b : Bytes) → cmp (stored_key t a) (stored_key t b) ≡ cmp a b
stored_same t a b = behind_same (to_be_bytes w32 t) a b

-- what such an order says
by_less : (after : Bool) (o : Ordering) → o ≡ Less → by_order after o ≡ true
by_less true o e = ap is_le e
by_less false o e = ap is_lt e

by_greater : (after : Bool) → by_order after Greater ≡ true → ⊥
by_greater true e = cc
by_greater false e = cc

by_le : (after : Bool) (o : Ordering) → by_order after o ≡ true → is_le o ≡ true
by_le true o e = e
by_le false Less e = refl
by_le false Equal e = cc
by_le false Greater e = cc

less_of : (o : Ordering) → is_lt o ≡ true → o ≡ Less
less_of Less e = refl
less_of Equal e = cc
less_of Greater e = cc

-- a key at or before one that is done with is done with
done_before : (after : Bool) (fence k key : Bytes) (o p : Ordering) → cmp key k ≡ o → cmp k fence ≡ p → is_le o ≡ true → by_order after p ≡ true
    → by_order after (cmp key fence) ≡ true
done_before after fence k key Less Less e f le is_done = by_less after (cmp key fence) (keys_total.trans key k fence e f)
done_before after fence k key Less Equal e f le is_done = by_less after (cmp key fence) (ap (cmp key) (sym (keys_exact k fence f)) ∙ e)
done_before after fence k key Less Greater e f le is_done = absurd (by_greater after is_done)
done_before after fence k key Equal p e f le is_done = ap (λ x. by_order after (cmp x fence)) (keys_exact key k e) ∙ ap (by_order after) f ∙ is_done
done_before after fence k key Greater p e f le is_done = absurd (cc)

-- and a fence behind another one is behind what is done with there
done_further : (after : Bool) (fence next key : Bytes) → is_lt (cmp fence next) ≡ true → by_order after (cmp key fence) ≡ true → is_lt (cmp key next) ≡ true
done_further after fence next key ahead is_done =
    done_before false next fence key (cmp key fence) (cmp fence next) refl refl (by_le after (cmp key fence) is_done) ahead

-- what stands before another fence that isn't behind it is done with
done_within : (after : Bool) (fence next key : Bytes) (o : Ordering) → cmp fence next ≡ o → is_lt o ≡ false → is_lt (cmp key next) ≡ true
    → by_order after (cmp key fence) ≡ true
done_within after fence next key Less e not_ahead below = absurd (cc)
done_within after fence next key Equal e not_ahead below = by_less after (cmp key fence) (ap (cmp key) (keys_exact fence next e) ∙ less_of (cmp key next) below)
done_within after fence next key Greater e not_ahead below =
    by_less after (cmp key fence) (keys_total.trans key next fence (less_of (cmp key next) below) (keys_total.antisymm next fence ∙ ap ordering_reverse e))

-- the keys that are done with at a fence of a tenant's
pub front_at : (t : ℕ) (fence : Bytes) (after : Bool) → IsFront (passed_at t fence after)
front_at t fence after = record {
  down = λ key k le is_done.
      done_before after fence (stored_key t k) (stored_key t key) (cmp (stored_key t key) (stored_key t k)) (cmp (stored_key t k) fence) refl refl
      (ap is_le (stored_same t key k) ∙ le) is_done;
}

-- all keys are one, too
pub front_all : IsFront (λ (key : Bytes). true)
front_all = record { down = λ key k le is_done. refl }

-- those that are done with stay so at a fence ahead
pub further : (t : ℕ) (fence next : Bytes) (after : Bool) → is_lt (cmp fence next) ≡ true → (key : Bytes) → passed_at t fence after key ≡ true
    → passed_at t next false key ≡ true
further t fence next after ahead key is_done = done_further after fence next (stored_key t key) ahead is_done

-- and those at a fence that isn't ahead were done with
pub within : (t : ℕ) (fence next : Bytes) (after : Bool) → is_lt (cmp fence next) ≡ false → (key : Bytes) → passed_at t next false key ≡ true
    → passed_at t fence after key ≡ true
within t fence next after not_ahead key is_done = done_within after fence next (stored_key t key) (cmp fence next) refl not_ahead is_done

-- what is not done with at a fence was not done with at one before it
pub contrary : (a b : Bool) → (a ≡ true → b ≡ true) → b ≡ false → a ≡ false
contrary true b h e = absurd (let both = sym (h refl) ∙ e in cc)
contrary false b h e = refl

-- at its start a scan is done with just those that it doesn't walk
walked_by : (after : Bool) (o : Ordering) → (if after then is_lt (ordering_reverse o) else is_le (ordering_reverse o)) ≡ not (by_order after o)
walked_by true Less = refl
walked_by true Equal = refl
walked_by true Greater = refl
walked_by false Less = refl
walked_by false Equal = refl
walked_by false Greater = refl

-- for the tenant's keys
pub walked_is : (t : ℕ) (from : Bytes) (after : Bool) (key : Bytes) → t < 2 ^ 32
    → is_walked from after key ≡ not (passed_at (tenant_of (stored_key t from)) (stored_key t from) after key)
walked_is t from after key fits =
    ap (λ o. if after then is_lt o else is_le o) (keys_total.antisymm from key)
    ∙ walked_by after (cmp key from)
    ∙ ap (λ o. not (by_order after o)) (sym (stored_same t key from))
    ∙ ap (λ u. not (is_below (stored_key t from) after (stored_key u key))) (sym (tenant_of-stored_key t from fits))
