-- The arguments of the program's command, by the rules that clap reads of them.
use Rattle.std.proofs.Common.{◌≡◌, ◌∙◌, ◌<◌, ◌≤◌, not, ℕ, zero, suc, true, false, List, [], ◌∷◌, Option, Some, None, length, is_some, map, codes, unwrap_or, slice_index_or, pos, refl, sym, ap, subst, inl, inr, arith}
use Rattle.std.proofs.{lemmas.List.{length-map, get_or-map}, lemmas.Slice.Eq.bytes_eq-Decides}
use Rattle.std.specs.{List.position, Str.bytes_eq}
use Rattle.clap.specs.{Texts.items_of, Facts.{WantsDefault, args_of, least_values}, Built.IsParsedFrom, Walk.is_simple_arg, Simple.has_plain_fields}
use Rattle.clap.specs.{Words.{App, IsUnsignedIn, Rule, Text, app_of, found_of, matched_of, one_text, rule_of, without_minus}, declared.builder.arg.Arg.Arg}
use Rattle.clap.specs.{declared.builder.command.Command.Command, declared.builder.command.Command.TheViews.out-Command}
use Rattle.clap.specs.{declared.builder.value_parser.ValueParser.ValueParser, declared.builder.value_parser.ValueParser.TheVariants.{Signed, Unsigned}, declared.parser.matches.ArgMatches.ArgMatches}
use Rattle.clap.specs.{declared.parser.matches.Found.Found, declared.parser.matches.MatchedArg.MatchedArg}
use Rattle.clap.proofs.{SimpleLemmas.{is_false, is_nil}, WalkLemmas.both}
use Rattle.mt_command_line.specs.CommandLine.{number_rule, number_rule_with, value_rule, checkpoint_rule, checkpoint_bytes_rule, settle_every_rule, create_rule, port_rule, server, sessions_rule, store_rule, tenants_rule, verify_rule, connections_rule, idle_rule, workers_rule}
use Rattle.mt_command_line.specs.Matches.{HasNumber, MayHaveLargeNumber, MayHaveNumber}
use Rattle.mt_command_line.proofs.OptionLemmas.{IsOption, option_value, value_if_any}

abbrev pub rules : List Rule
rules = port_rule ∷ workers_rule ∷ sessions_rule ∷ store_rule ∷ create_rule ∷ checkpoint_rule ∷ checkpoint_bytes_rule ∷ settle_every_rule ∷ verify_rule ∷ connections_rule ∷ idle_rule ∷ tenants_rule ∷ []

abbrev pub rule : ℕ → Rule
rule j = slice_index_or rules j port_rule

-- each rule is simple, and no two have one name
simple_at : (j : ℕ) → (rule j).is_simple ≡ true
simple_at zero = refl
simple_at (suc zero) = refl
simple_at (suc (suc zero)) = refl
simple_at (suc (suc (suc zero))) = refl
simple_at (suc (suc (suc (suc zero)))) = refl
simple_at (suc (suc (suc (suc (suc zero))))) = refl
simple_at (suc (suc (suc (suc (suc (suc zero)))))) = refl
simple_at (suc (suc (suc (suc (suc (suc (suc zero))))))) = refl
simple_at (suc (suc (suc (suc (suc (suc (suc (suc zero)))))))) = refl
simple_at (suc (suc (suc (suc (suc (suc (suc (suc (suc zero))))))))) = refl
simple_at (suc (suc (suc (suc (suc (suc (suc (suc (suc (suc zero)))))))))) = refl
simple_at (suc (suc (suc (suc (suc (suc (suc (suc (suc (suc (suc zero))))))))))) = refl
simple_at (suc (suc (suc (suc (suc (suc (suc (suc (suc (suc (suc (suc j)))))))))))) = refl

abbrev place : Text → Option ℕ
place id = position (λ (r : Rule). bytes_eq r.id id) rules

placed : (j : ℕ) → j < 12 → place (rule j).id ≡ Some j
placed zero lt = refl
placed (suc zero) lt = refl
placed (suc (suc zero)) lt = refl
placed (suc (suc (suc zero))) lt = refl
placed (suc (suc (suc (suc zero)))) lt = refl
placed (suc (suc (suc (suc (suc zero))))) lt = refl
placed (suc (suc (suc (suc (suc (suc zero)))))) lt = refl
placed (suc (suc (suc (suc (suc (suc (suc zero))))))) lt = refl
placed (suc (suc (suc (suc (suc (suc (suc (suc zero)))))))) lt = refl
placed (suc (suc (suc (suc (suc (suc (suc (suc (suc zero))))))))) lt = refl
placed (suc (suc (suc (suc (suc (suc (suc (suc (suc (suc zero)))))))))) lt = refl
placed (suc (suc (suc (suc (suc (suc (suc (suc (suc (suc (suc zero))))))))))) lt = refl
placed (suc (suc (suc (suc (suc (suc (suc (suc (suc (suc (suc (suc j)))))))))))) lt = absurd (omega arith)

none_of : {X : Type 0} (o : Option X) → not (is_some o) ≡ true → o ≡ None
none_of None e = refl
none_of (Some x) e = let bad : false ≡ true = e in cc

-- a simple argument has no default under a condition, no group and no delimiter
abbrev IsUnconditional : Arg → Type 0
IsUnconditional a = (a.default_vals_ifs.items ≡ []) × (a.groups.items ≡ []) × (a.val_delim ≡ None)

unconditional : (a : Arg) → is_simple_arg a ≡ true → IsUnconditional a
unconditional a e =
    let overrides = both _ _ e in
    let ifs = both _ _ overrides.1 in
    let groups = both _ _ ifs.1 in
    let delimiter = both _ _ groups.1 in
    (is_nil _ ifs.0, is_nil _ groups.0, none_of _ delimiter.0)

one_value : (a : Arg) → a.num_vals ≡ None → 1 ≤ least_values a
one_value a e = rw e (omega arith)

-- a name that is none of clap's own
abbrev pub IsOwn : Text → Type 0
IsOwn name = (bytes_eq name [] ≡ false) × (bytes_eq name (codes "help") ≡ false) × (bytes_eq name (codes "version") ≡ false)

differ : (x y : Text) → bytes_eq x y ≡ false → x ≡ y → ⊥
differ x y other e = let bad : true ≡ false = sym ((bytes_eq-Decides x y).1 e) ∙ other in cc

first_of_some : (xs : List Arg) → 0 < length xs → Arg
first_of_some [] lt = absurd (omega arith)
first_of_some (x ∷ xs) lt = x

-- what has a text has an entry
has_entry : (f : Found) (id t : Text) → one_text f id ≡ Some t → (x : MatchedArg) × (matched_of f id ≡ Some x)
has_entry f id t there = go (matched_of f id) refl
  where
    go : (x : Option MatchedArg) → matched_of f id ≡ x → (x : MatchedArg) × (matched_of f id ≡ Some x)
    go None e =
        let bad : None ≡ Some t = rw e at there in
        cc
    go (Some x) e = (x, e)

some_is : {x y : Text} → Some x ≡ Some y → x ≡ y
some_is e = ap (λ o. unwrap_or o []) e

module _ (old : Command) (is : app_of old ≡ server) where
  rules_are : map rule_of (args_of old) ≡ rules
  unfolding server
  rules_are = ap (λ (x : App). x.top.rules) is

  plain : has_plain_fields (out-Command old) ≡ true
  unfolding server
  plain = ap (λ (x : App). x.top.is_plain) is

  count : length (args_of old) ≡ 12
  count = sym (length-map (args_of old) rule_of) ∙ ap (λ (rs : List Rule). length rs) rules_are

  rule_at : (j : ℕ) (d : Arg) → j < length (args_of old) → rule_of (slice_index_or (args_of old) j d) ≡ rule j
  rule_at j d lt = sym (get_or-map rule_of (args_of old) j d port_rule lt) ∙ ap (λ (rs : List Rule). slice_index_or rs j port_rule) rules_are

  id_at : (j : ℕ) (d : Arg) → j < length (args_of old) → (slice_index_or (args_of old) j d).id.now ≡ (rule j).id
  id_at j d lt = ap (λ (r : Rule). r.id) (rule_at j d lt)

  facts : (j : ℕ) (d : Arg) → j < length (args_of old) → IsUnconditional (slice_index_or (args_of old) j d)
  facts j d lt = unconditional (slice_index_or (args_of old) j d) (ap (λ (r : Rule). r.is_simple) (rule_at j d lt) ∙ simple_at j)

  -- an argument whose rule is that of an option with a value is one
  option : (k : ℕ) (name : Text) (parser : ValueParser) (values : List Text) (d : Arg) → k < 12 → rule k ≡ value_rule values name parser → IsOwn name
      → IsOption old k d parser × ((slice_index_or (args_of old) k d).id.now ≡ name)
  option k name parser values d lt of own =
      let within : k < length (args_of old) = omega (arith, count) in
      let a = slice_index_or (args_of old) k d in
      let r : rule_of a ≡ value_rule values name parser = rule_at k d within ∙ of in
      let named : a.id.now ≡ name = ap (λ (r : Rule). r.id) r in (
        record {
          globals = is_false _ (both _ _ (both _ _ (both _ _ plain).1).1).0;
          ungrouped = λ j e low. (facts j e low).1;
          groups = is_nil _ (both _ _ plain).0;
          within = within;
          set = ap (λ (r : Rule). r.action) r;
          delimiter = (facts k d within).2;
          least = one_value a (ap (λ (r : Rule). r.range) r);
          parser = ap (λ (r : Rule). r.parser) r;
          unique = λ j e low same.
              let one : (rule j).id ≡ (rule k).id = sym (id_at j e low) ∙ ((bytes_eq-Decides _ _).0 same ∙ id_at k d within) in
              let places : Some j ≡ Some k = sym (placed j (omega (arith, count))) ∙ (ap place one ∙ placed k lt) in
              ap (λ o. unwrap_or o 0) places;
          named = λ e. differ name [] own.0 (sym named ∙ e);
          own = λ auto. elim auto [
            | inl e ↦ differ name (codes "help") own.1 (sym named ∙ e)
            | inr e ↦ differ name (codes "version") own.2 (sym named ∙ e)
          ];
        },
        named,
      )

  -- one with a default has it under no condition
  default : (k least most : ℕ) (name value : Text) (d : Arg) → k < 12 → rule k ≡ number_rule name least most value → WantsDefault (slice_index_or (args_of old) k d)
  default k least most name value d lt of =
      let within : k < length (args_of old) = omega (arith, count) in
      let a = slice_index_or (args_of old) k d in
      let values : length (map (λ s. s.now) (items_of a.default_vals)) ≡ 1 = ap (λ (r : Rule). length r.defaults) (rule_at k d within ∙ of) in
      ((facts k d within).0, omega (arith, values, length-map (items_of a.default_vals) (λ s. s.now)))

  -- the text of such an option is one that clap takes for a number within its bounds
  pub number_found : (m : ArgMatches) → IsParsedFrom old m → (k least most : ℕ) (name value : Text) → k < 12
      → rule k ≡ number_rule name least most value → IsOwn name → HasNumber (found_of m) name least most
  number_found m p k least most name value lt of own =
      let d : Arg = first_of_some (args_of old) (omega (arith, count)) in
      let o = option k name (Signed (pos least) (pos most)) (value ∷ []) d lt of own in
      let v = option_value old m p k d (Signed (pos least) (pos most)) o.0 (default k least most name value d lt of) in
      (v.0, subst (λ (id : Text). one_text (found_of m) id ≡ Some (without_minus v.0)) o.1 v.1, v.2)

  -- so is that of an option without a default, if it has any
  pub number_if_any : (m : ArgMatches) → IsParsedFrom old m → (k least most : ℕ) (name : Text) → k < 12
      → rule k ≡ number_rule_with [] name least most → IsOwn name → MayHaveNumber (found_of m) name least most
  number_if_any m p k least most name lt of own text there =
      let d : Arg = first_of_some (args_of old) (omega (arith, count)) in
      let o = option k name (Signed (pos least) (pos most)) [] d lt of own in
      let entry = has_entry (found_of m) name text there in
      let found = subst (λ (id : Text). matched_of (found_of m) id ≡ Some entry.0) (sym o.1) entry.1 in
      let v = value_if_any old m p k d (Signed (pos least) (pos most)) o.0 entry.0 found in
      let same = subst (λ (id : Text). one_text (found_of m) id ≡ Some (without_minus v.0)) o.1 v.1 in
      (v.0, some_is (sym there ∙ same), v.2)

  -- so is that of one whose number may be greater than an `i64`
  pub large_number_if_any : (m : ArgMatches) → IsParsedFrom old m → (k least most : ℕ) (name : Text) → k < 12
      → rule k ≡ value_rule [] name (Unsigned least most) → IsOwn name → MayHaveLargeNumber (found_of m) name least most
  large_number_if_any m p k least most name lt of own text there =
      let d : Arg = first_of_some (args_of old) (omega (arith, count)) in
      let o = option k name (Unsigned least most) [] d lt of own in
      let entry = has_entry (found_of m) name text there in
      let found = subst (λ (id : Text). matched_of (found_of m) id ≡ Some entry.0) (sym o.1) entry.1 in
      let v = value_if_any old m p k d (Unsigned least most) o.0 entry.0 found in
      let same = subst (λ (id : Text). one_text (found_of m) id ≡ Some v.0) o.1 v.1 in
      subst (λ (t : Text). IsUnsignedIn least most t) (some_is (sym same ∙ there)) v.2
