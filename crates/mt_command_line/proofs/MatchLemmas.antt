-- What the getters of clap's matches give, by what the command line has.
use Rattle.std.proofs.Common.{◌≡◌, ◌⊎◌, inl, inr, subst, ℕ, ◌≤◌, ◌<◌, ◌^◌, Bool, true, false, List, [], Bor, Option, Some, None, is_some, Result, Ok, Err, map, option_map, codes, MatchResult, IfOk, IfErr, unwrap_or, refl, ap, sym, ◌∙◌, arith}
use Rattle.std.specs.Str.Parse.{ParsesUnsigned}
use Rattle.clap.specs.Words.{without_minus, first_of, first_value, IsUnsignedIn, ReadsOne, Row, Text, matched_of, one_of, one_text, raw_values, rows_of}
use Rattle.clap.specs.declared.parser.matches.Found.{Found}
use Rattle.clap.proofs.{CallerReads.signed_reads, WalkLemmas.{first_value-rows, one_text-rows, raw_values-rows}}
use Rattle.mt_command_line.specs.{CommandLine.{given_for, tenant_words}, Given.{IsFlag, IsGiven, IsGivenOrZero, IsThere}, Matches.{HasNumber, MayHaveLargeNumber, MayHaveNumber}}

-- the words that matches have for tenants, by their rows
pub words_are : (f : Found) (o : Option (Bor (List (Bor Text)))) (d r : Bor (List (Bor Text)))
    → option_map (λ s. map (λ v. v.now) s.now) o ≡ option_map raw_values (matched_of f (codes "tenants")) → r ≡ unwrap_or o d → d.now ≡ []
    → map (λ w. w.now) r.now ≡ tenant_words (rows_of f)
words_are f o d r got is none =
    ap (λ (b : Bor (List (Bor Text))). map (λ w. w.now) b.now) is
    ∙ (values o ∙ ap (λ x. unwrap_or x []) (got ∙ raw_values-rows f (codes "tenants")))
  where
    values : (o : Option (Bor (List (Bor Text)))) → map (λ w. w.now) (unwrap_or o d).now ≡ unwrap_or (option_map (λ s. map (λ v. v.now) s.now) o) []
    values None = ap (map (λ w. w.now)) none
    values (Some s) = refl

-- the number of an option is the one that is found for it
pub number_is : (E : Type 0) (G : List ℕ → Result ℕ E → Type 0) (k least most d : ℕ) (f : Found) (name : Text) (rows : List Row) (o : Option ℕ)
    → ((t : List ℕ) (x : Result ℕ E) → G t x → ParsesUnsigned k 10 t x) → most < 2 ^ k
    → ((t : List ℕ) → one_text f name ≡ Some t → ReadsOne G t o) → HasNumber f name least most → rows_of f ≡ rows
    → IsGiven name least most rows (unwrap_or o d)
number_is E G k least most d f name rows o only fits got has are =
    let read = got (without_minus has.0) has.1 in
    let given : given_for name rows ≡ Some (without_minus has.0) = sym (one_text-rows f name ∙ ap (one_of name) are) ∙ has.1 in
    go o read (signed_reads E G k least most has.0 o read only fits has.2) given
  where
    go : (o : Option ℕ) → ReadsOne G (without_minus has.0) o → (n : ℕ) × (o ≡ Some n) × (least ≤ n) × (n ≤ most)
        → given_for name rows ≡ Some (without_minus has.0) → IsGiven name least most rows (unwrap_or o d)
    go (Some v) read n given =
        let parsed = only (without_minus has.0) (Ok v) read in
        let same : v ≡ n.0 = ap (λ (x : Option ℕ). unwrap_or x 0) n.1 in
        (without_minus has.0, given, parsed.0.0, parsed.1, omega (arith, same, n.2), omega (arith, same, n.3))
    go None read n given = cc

-- the number of an option without a default: none, if none is found, else the one that is found
abbrev pub Finds : Text → ℕ → ℕ → List Row → Option ℕ → Type 0
Finds name least most rows o = ((n : ℕ) × (o ≡ Some n) × IsGiven name least most rows n) ⊎ ((o ≡ None) × (given_for name rows ≡ None))

pub number_if_any_is : (E : Type 0) (G : List ℕ → Result ℕ E → Type 0) (k least most : ℕ) (f : Found) (name : Text) (o : Option ℕ)
    → ((t : List ℕ) (x : Result ℕ E) → G t x → ParsesUnsigned k 10 t x) → most < 2 ^ k
    → (one_text f name ≡ None → o ≡ None) → ((t : List ℕ) → one_text f name ≡ Some t → ReadsOne G t o) → MayHaveNumber f name least most
    → Finds name least most (rows_of f) o
number_if_any_is E G k least most f name o only fits none got has = go (one_text f name) refl
  where
    same : given_for name (rows_of f) ≡ one_text f name
    same = sym (one_text-rows f name)

    go : (t : Option Text) → one_text f name ≡ t → Finds name least most (rows_of f) o
    go None e = inr (none e, same ∙ e)
    go (Some text) e =
        let value = has text e in
        let there : one_text f name ≡ Some (without_minus value.0) = e ∙ ap Some value.1 in
        let read = signed_reads E G k least most value.0 o (got (without_minus value.0) there) only fits value.2 in
        let is = number_is E G k least most read.0 f name (rows_of f) o only fits got (value.0, there, value.2) refl in
        inl (read.0, read.1, subst (λ (n : ℕ). IsGiven name least most (rows_of f) n) (ap (λ (x : Option ℕ). unwrap_or x read.0) read.1) is)

-- so of one whose number may be greater than an `i64`
pub large_number_is : (E : Type 0) (G : List ℕ → Result ℕ E → Type 0) (least most : ℕ) (f : Found) (name : Text) (o : Option ℕ)
    → ((t : List ℕ) (x : Result ℕ E) → G t x → ParsesUnsigned 64 10 t x)
    → (one_text f name ≡ None → o ≡ None) → ((t : List ℕ) → one_text f name ≡ Some t → ReadsOne G t o) → MayHaveLargeNumber f name least most
    → Finds name least most (rows_of f) o
large_number_is E G least most f name o only none got has = go (one_text f name) refl
  where
    same : given_for name (rows_of f) ≡ one_text f name
    same = sym (one_text-rows f name)

    read : (t : Text) (o : Option ℕ) → ReadsOne G t o → IsUnsignedIn least most t → given_for name (rows_of f) ≡ Some t → Finds name least most (rows_of f) o
    read t (Some v) reads is given =
        let parsed = only t (Ok v) reads in
        inl (v, refl, (t, given, parsed.0.0, parsed.1, rw parsed.1 is.2, rw parsed.1 is.3))
    read t None reads is given = absurd (only t (Err reads.0) reads.1 (is.0, is.1))

    go : (t : Option Text) → one_text f name ≡ t → Finds name least most (rows_of f) o
    go None e = inr (none e, same ∙ e)
    go (Some text) e = read text o (got text e) (has text e) (same ∙ e)

-- the number of the options is the one that is found, or 0 if none is
pub or_zero : (name : Text) (most : ℕ) (rows : List Row) (o : Option ℕ) → Finds name 0 most rows o → IsGivenOrZero name most rows (unwrap_or o 0)
or_zero name most rows o (inl found) = inl (subst (λ (n : ℕ). IsGiven name 0 most rows n) (ap (λ (x : Option ℕ). unwrap_or x 0) (sym found.1)) found.2)
or_zero name most rows o (inr none) = inr (none.1, ap (λ (x : Option ℕ). unwrap_or x 0) none.0)

-- something is found if there is a number
pub some_found : (name : Text) (least most : ℕ) (rows : List Row) (o : Option ℕ) → Finds name least most rows o → is_some o ≡ true → IsThere name rows
some_found name least most rows o (inl found) is = (found.2.0, found.2.1)
some_found name least most rows (Some n) (inr none) is = let bad : Some n ≡ None = none.0 in cc
some_found name least most rows None (inr none) is = cc

-- and nothing if there is none
pub none_found : (name : Text) (least most : ℕ) (rows : List Row) (o : Option ℕ) → Finds name least most rows o → is_some o ≡ false → given_for name rows ≡ None
none_found name least most rows o (inr none) is = none.1
none_found name least most rows (Some n) (inl found) is = cc
none_found name least most rows None (inl found) is = let bad : None ≡ Some found.0 = found.1 in cc

-- what holds of either end, end by end
pub parted : {T E : Type 0} (r : Result T E) (P : T → Type 0) (Q : E → Type 0) → MatchResult r P Q → IfOk r P × IfErr r Q
parted (Ok x) P Q h = (h, tt)
parted (Err e) P Q h = (tt, h)

-- a flag, as `get_flag` reads it
pub flag_is : (f : Found) (name : Text) (b : Bool) → (one_text f name ≡ None → b ≡ false) → (one_text f name ≡ Some (codes "true") → b ≡ true)
    → (one_text f name ≡ Some (codes "false") → b ≡ false) → IsFlag name (rows_of f) b
flag_is f name b none value other = record {
  set = λ e. value (one_text-rows f name ∙ e);
  other = λ e. other (one_text-rows f name ∙ e);
  none = λ e. none (one_text-rows f name ∙ e);
}

-- a folder, as `get_str` reads it
pub folder_is : (f : Found) (name : Text) (o : Option (Bor Text)) → option_map (λ s. s.now) o ≡ first_value f name → first_of name (rows_of f) ≡ option_map (λ s. s.now) o
folder_is f name o got = sym (got ∙ first_value-rows f name)
