-- By the tests of sets, falls and older logs.
use Rattle.std.proofs.Common.{◌∙◌, sym, subst, inl, inr, ℕ, Option, MatchOption, map}
use Rattle.mt_log.specs.Contents.{contents_of}
use Rattle.mt_generations.specs.Chains.{NoneOlderOver}
use Rattle.mt_recover.{specs.Older.{IsFirstOlder}, proofs.SetLemmas.{set_of, no_set}}
use Rattle.mt_recover.proofs.recovering.check_files.Goals as goal

pub returns-then-not-is_set : goal.returns-then-not-is_set
returns-then-not-is_set c = no_set (map contents_of c.args.fronts.now) (sym c.is_set.ensures ∙ c.if-not-is_set.true)

pub returns-in-Some : goal.returns-in-Some
returns-in-Some c = (set_of (map contents_of c.args.fronts.now) (sym c.is_set.ensures ∙ c.if-not-is_set.false), inl (sym c.first_fall.ensures ∙ c.in-Some.is))

pub returns-in-Some-first_older : goal.returns-in-Some-first_older
returns-in-Some-first_older c =
    let fronts = map contents_of c.args.fronts.now in (
      set_of fronts (sym c.is_set.ensures ∙ c.if-not-is_set.false),
      inr (
        sym c.first_fall.ensures ∙ c.in_default.is,
        subst (λ (o : Option (ℕ × ℕ)). MatchOption o (NoneOlderOver fronts) (λ f. IsFirstOlder fronts f.0 f.1)) c.in-Some-first_older.is c.first_older.ensures,
      ),
    )

pub returns-in-None : goal.returns-in-None
returns-in-None c =
    let fronts = map contents_of c.args.fronts.now in (
      set_of fronts (sym c.is_set.ensures ∙ c.if-not-is_set.false),
      sym c.first_fall.ensures ∙ c.in_default.is,
      subst (λ (o : Option (ℕ × ℕ)). MatchOption o (NoneOlderOver fronts) (λ f. IsFirstOlder fronts f.0 f.1)) c.in-None.is c.first_older.ensures,
    )
