-- After a parse that succeeds, an option with a default has a value that its parser takes, and one without has such a value if it has any.
use Rattle.std.proofs.Common.{◌≡◌, ◌∙◌, ◌<◌, ◌≤◌, ℕ, zero, suc, Bool, true, false, List, [], ◌∷◌, Bor, Option, Some, None, length, is_some, option_map, slice_get, slice_index_or, refl, sym, ap, subst, inl, inr, arith}
use Rattle.std.proofs.{lemmas.Slice.Eq.bytes_eq-Decides, lemmas.List.Elements.All-get_or}
use Rattle.std.specs.{Prelude.find, List.All, Str.bytes_eq}
use Rattle.clap.specs.Facts.{Entry, EntryPasses, PassesArg, WantsDefault, args_of, groups_of, least_values, parser_of, parser_of_value}
use Rattle.clap.specs.{Built.{IsAuto, IsParsedFrom, NamesNoGroup, SameRules}, Values.{Accepts, read_as, reading_of}, Matches.{found_of, matched_of, one_text}}
use Rattle.clap.specs.{declared.builder.action.ArgAction.TheVariants.{Count, Set}, declared.builder.arg.Arg.Arg, declared.builder.command.Command.Command}
use Rattle.clap.specs.{declared.builder.command.Command.TheViews.out-Command, declared.builder.value_parser.ValueParser.ValueParser}
use Rattle.clap.specs.{declared.parser.matches.ArgMatches.ArgMatches, declared.parser.matches.MatchedArg.MatchedArg}
use Rattle.clap.proofs.CallerLemmas.{default_present, entry_by_id, same_rules_by_id}

-- the caller's argument of this number takes one value, by this parser
pub record IsOption (old : Command) (k : ℕ) (d : Arg) (q : ValueParser) : Type 0 where
  pub globals : (out-Command old).has_globals ≡ false
  pub ungrouped : NamesNoGroup old
  pub groups : groups_of old ≡ []
  pub within : k < length (args_of old)
  pub set : (slice_index_or (args_of old) k d).action ≡ Some Set
  pub delimiter : (slice_index_or (args_of old) k d).val_delim ≡ None
  pub least : 1 ≤ least_values (slice_index_or (args_of old) k d)
  pub parser : (slice_index_or (args_of old) k d).value_parser ≡ Some q
  pub unique : (j : ℕ) (e : Arg) → j < length (args_of old)
      → bytes_eq (slice_index_or (args_of old) j e).id.now (slice_index_or (args_of old) k d).id.now ≡ true → j ≡ k
  pub named : (slice_index_or (args_of old) k d).id.now ≡ [] → ⊥
  pub own : IsAuto (slice_index_or (args_of old) k d) → ⊥

-- an entry with this id is found
found_entry : (xs : List Entry) (id : List ℕ) (i : ℕ) → i < length xs → ((d : Entry) → bytes_eq (slice_index_or xs i d).0.now id ≡ true)
    → is_some (option_map (λ e. e.1) (find (λ e. bytes_eq e.0.now id) xs)) ≡ true
found_entry [] id i lt at = absurd (omega arith)
found_entry (x ∷ xs) id zero lt at = rw (at x) refl
found_entry (x ∷ xs) id (suc i) lt at = go (bytes_eq x.0.now id) refl (found_entry xs id i (omega arith) at)
  where
    go : (b : Bool) → bytes_eq x.0.now id ≡ b → is_some (option_map (λ e. e.1) (find (λ e. bytes_eq e.0.now id) xs)) ≡ true
        → is_some (option_map (λ e. e.1) (find (λ e. bytes_eq e.0.now id) (x ∷ xs))) ≡ true
    go true e rest = rw e refl
    go false e rest = rw e rest

-- the first of some values
first_value : (P : Bor (List ℕ) → Type 0) (vs : List (Bor (List ℕ))) → 0 < length vs → All P vs
    → (v : Bor (List ℕ)) × (slice_get vs 0 ≡ Some v) × P v
first_value P [] lt all = absurd (omega arith)
first_value P (v ∷ vs) lt all = (v, refl, All-get_or P (v ∷ vs) 0 v (omega arith) all)

module _ (old : Command) (m : ArgMatches) (p : IsParsedFrom old m) (k : ℕ) (d : Arg) (q : ValueParser) (o : IsOption old k d q) where
  abbrev a : Arg
  a = slice_index_or (args_of old) k d

  -- an argument of the built command with the option's id has its rules
  rules : (j : ℕ) (y : Arg) → j < length (args_of p.built) → slice_index_or (args_of p.built) j y ≡ y
      → bytes_eq y.id.now a.id.now ≡ true → SameRules a y
  rules = same_rules_by_id old m p k d o.within o.unique o.own

  -- what its entry has
  module _ (e : Entry) (key : e.0.now ≡ a.id.now) (pass : EntryPasses p.built e) where
    no_group : e.1.is_group ≡ true → ⊥
    no_group g = elim (pass.3 g) [
      | inl empty ↦ o.named (sym key ∙ empty)
      | inr lots ↦
          let none : groups_of p.built ≡ [] = (p.from.same_groups o.ungrouped).1 ∙ o.groups in
          let bad : 0 < 0 = rw none at lots in
          absurd (omega arith)
    ]

    has_values : 0 < length e.1.vals.items
    has_values = elim pass.1 [
      | inl group ↦ absurd (no_group group.0)
      | inr (inl some) ↦ some
      | inr (inr (inl counts)) ↦
          let any = counts.1 in
          let s = rules any.0 any.1 any.2 any.3 (rw key at any.4.0) in
          let bad : Set ≡ Count = rw (s.action Set o.set) at any.4.1 in
          cc
      | inr (inr (inr allows)) ↦
          let s = rules allows.0 allows.1 allows.2 allows.3 (rw key at allows.4.0) in
          elim allows.4.1 [
            | inl none ↦
                let one = s.least o.set o.least in
                absurd (omega arith)
            | inr has ↦
                let bad : false ≡ true = rw (s.val_delim, o.delimiter) at has in
                cc
          ]
    ]

    values : All (λ v. PassesArg p.built e.0.now v.now) e.1.vals.items
    values = elim pass.0 [ inl g ↦ absurd (no_group g) | inr all ↦ all ]

    reading : e.1.reading ≡ reading_of q
    reading = elim pass.4 [
      | inl g ↦ absurd (no_group g)
      | inr any ↦
          let s = rules any.0 any.1 any.2 any.3 (rw key at any.4.0) in
          sym any.4.1 ∙ ap reading_of (ap parser_of_value (s.parser q o.parser))
    ]

    accepts : (t : List ℕ) → PassesArg p.built e.0.now t → Accepts a.ignore_case q t
    accepts t any =
        let s = rules any.0 any.1 any.2 any.3 (rw key at any.4.0) in
        let is_q : parser_of any.1 ≡ q = ap parser_of_value (s.parser q o.parser) in
        subst (λ (b : Bool). Accepts b q t) s.ignore_case (subst (λ (w : ValueParser). Accepts any.1.ignore_case w t) is_q any.4.1)

    entry_value : (x : MatchedArg) → matched_of (found_of m) a.id.now ≡ Some x → e.1 ≡ x
        → (t : List ℕ) × (one_text (found_of m) a.id.now ≡ Some (read_as (reading_of q) t)) × Accepts a.ignore_case q t
    entry_value x found same = first_text (first_value (λ v. PassesArg p.built e.0.now v.now) e.1.vals.items has_values values)
      where
        read : x.reading ≡ reading_of q
        read = ap (λ (y : MatchedArg). y.reading) (sym same) ∙ reading

        first_text : (v : Bor (List ℕ)) × (slice_get e.1.vals.items 0 ≡ Some v) × PassesArg p.built e.0.now v.now
            → (t : List ℕ) × (one_text (found_of m) a.id.now ≡ Some (read_as (reading_of q) t)) × Accepts a.ignore_case q t
        first_text v =
            let there : slice_get x.vals.items 0 ≡ Some v.0 = ap (λ (y : MatchedArg). slice_get y.vals.items 0) (sym same) ∙ v.1 in
            (v.0.now, rw (found, there, read) refl, accepts v.0.now v.2)

  -- the option's text, if it has any, which its parser takes
  pub value_if_any : (x : MatchedArg) → matched_of (found_of m) a.id.now ≡ Some x
      → (t : List ℕ) × (one_text (found_of m) a.id.now ≡ Some (read_as (reading_of q) t)) × Accepts a.ignore_case q t
  value_if_any x e =
      let parsed = p.parsed (p.from.globals ∙ o.globals) in
      let got = entry_by_id (EntryPasses p.built) (found_of m).entries.items a.id.now x parsed.values e in
      entry_value got.0 ((bytes_eq-Decides _ _).0 got.2) got.3 x e got.1

  -- the option's text, if it has a default
  pub option_value : WantsDefault (slice_index_or (args_of old) k d) → (t : List ℕ) × (one_text (found_of m) (slice_index_or (args_of old) k d).id.now ≡ Some (read_as (reading_of q) t))
      × Accepts (slice_index_or (args_of old) k d).ignore_case q t
  option_value default =
      let has = default_present old m p o.globals k d o.within default in
      go (matched_of (found_of m) a.id.now) refl (found_entry (found_of m).entries.items a.id.now has.0 has.1 has.2)
    where
      go : (x : Option MatchedArg) → matched_of (found_of m) a.id.now ≡ x → is_some (matched_of (found_of m) a.id.now) ≡ true
          → (t : List ℕ) × (one_text (found_of m) a.id.now ≡ Some (read_as (reading_of q) t)) × Accepts a.ignore_case q t
      go None e some =
          let bad : false ≡ true = rw e at some in
          cc
      go (Some x) e some = value_if_any x e
