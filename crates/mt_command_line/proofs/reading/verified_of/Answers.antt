use Rattle.std.{proofs.Common.{◌≡◌, ◌∙◌, ap, codes, sym, subst, inl, inr, Bor, Bool, true, false, List, ℕ, Option, Some, None, is_some, option_map}, specs.Option.IsSome}
use Rattle.clap.specs.Words.{Text, found_of, rows_of}
use Rattle.mt_command_line.{specs.{CommandLine.{folder_in, verified_in}, Given.IsFlag}, proofs.MatchLemmas.{flag_is, folder_is}}
use Rattle.mt_command_line.proofs.reading.verified_of.Goals.{then-is_made, else-is_made}
use Rattle.mt_command_line.proofs.reading.verified_of.Goals as goal

-- there is a text if one is read
is_there : (o : Option (Bor Text)) (p : Option Text) → p ≡ option_map (λ s. s.now) o → is_some o ≡ true → IsSome p
is_there (Some s) p e is = ap is_some e
is_there None p e is = cc

-- and none if none is
is_none : (o : Option (Bor Text)) (p : Option Text) → p ≡ option_map (λ s. s.now) o → is_some o ≡ false → p ≡ None
is_none None p e is = e
is_none (Some s) p e is = cc

pub returns-in-None : goal.returns-in-None
returns-in-None c =
    folder_is (found_of c.args.matches.now) (codes "verify") c.get_str-2.result c.get_str-2.ensures ∙ ap (option_map (λ (s : Bor (List ℕ)). s.now)) c.in-None.is

pub returns-in-Some : goal.returns-in-Some
returns-in-Some c =
    let f = found_of c.args.matches.now in
    let verify = folder_is f (codes "verify") c.get_str-2.result c.get_str-2.ensures in
    let flag = flag_is f (codes "create") _ c.get_flag-is_made.ensures.none c.get_flag-is_made.ensures.value c.get_flag-is_made.ensures.other in (
      is_there c.get_str-2.result (verified_in (rows_of f)) verify (ap is_some c.in-Some.is),
      elim c.if-is_made.branch [
        | then-is_made w ↦ inr (subst (λ (b : Bool). IsFlag (codes "create") (rows_of f) b) w.if-is_made.true flag)
        | else-is_made w ↦
            let folder = folder_is f (codes "store") w.get_str.result w.get_str.ensures in
            inl (is_there w.get_str.result (folder_in (rows_of f)) folder (sym w.is_some-is_served.ensures ∙ (sym w.is_served-is ∙ c.if-is_served.true)))
      ],
    )

pub returns-in_ok-from_str-in-Some-2 : goal.returns-in_ok-from_str-in-Some-2
returns-in_ok-from_str-in-Some-2 c =
    let f = found_of c.args.matches.now in
    let verify = folder_is f (codes "verify") c.get_str-2.result c.get_str-2.ensures ∙ ap (option_map (λ (s : Bor (List ℕ)). s.now)) c.in-Some-2.is in
    let same = verify ∙ sym (ap (λ (s : Bor (List ℕ)). Some s.now) c.in-Some-2.folder-is) in
    let flag = flag_is f (codes "create") _ c.get_flag-is_made.ensures.none c.get_flag-is_made.ensures.value c.get_flag-is_made.ensures.other in (
      same ∙ sym (ap Some c.in_ok-from_str-in-Some-2.ensures.ok),
      elim c.if-is_made.branch [
        | then-is_made w ↦
            let bad : ⊥ = cc (w.is_served-is, w.if-is_made.true, c.if-is_served.false) in
            absurd bad
        | else-is_made w ↦
            let folder = folder_is f (codes "store") w.get_str.result w.get_str.ensures in (
              is_none w.get_str.result (folder_in (rows_of f)) folder (sym w.is_some-is_served.ensures ∙ (sym w.is_served-is ∙ c.if-is_served.false)),
              subst (λ (b : Bool). IsFlag (codes "create") (rows_of f) b) w.if-is_made.false flag,
            )
      ],
    )
