-- The chains of what stands of whole logs are the ends of these; and where chains begin.
use Rattle.std.proofs.Common.{◌≡◌, inl, inr, ⊎_elim, ℕ, ◌+◌, List, [], ◌∷◌, ◌++◌, refl, sym, ◌∙◌, ap, subst, arith, append_assoc, Option, Some, None}
use Rattle.std.proofs.lemmas.{List.append-nil, Option.same_Some}
use Rattle.std.specs.{List.AllZip}
use Rattle.mt_log.specs.{declared.batch.LogBatch.LogBatch, Contents.{Contents, JoinsAndRises, Join, to_of, end_of, mark_of}}
use Rattle.mt_crashes.proofs.{Members.{no_some}}
use Rattle.mt_generations.specs.Chains.{Chain, EndsLog, BeginBy}
use Rattle.mt_generations.specs.Standings.{Standing, joined, chain_from, AreFrom, StandsFor, StartFalls}
use Rattle.mt_generations.specs.Turns.{AllBegunBy}
use Rattle.mt_generations.proofs.Parts.{end_joined}
use Rattle.mt_generations.proofs.Deciding.{first_there}

module _ (g : ℕ) (log : Contents) (f : Standing) (stands : StandsFor g log f) where
  part_first : (a c : Chain) (y : Option Chain) → f g ≡ Some a → f (g + 1) ≡ y → joined (Some a) y ≡ Some c → EndsLog log c
  part_first a c None has none e =
      let p = stands.has_first a has in
      let same : a ≡ c = same_Some a c e in
      subst (EndsLog log) same (record {
        given = stands.given;
        parts =
            stands.parts
            ∙ ap (λ (bs : List LogBatch). stands.given ++ bs) (ap (λ (bs : List LogBatch). stands.first ++ bs) (stands.not_begun none) ∙ append-nil stands.first ∙ sym p.batches_are);
        start = p.start;
        owner = p.owner;
      })
  part_first a c (Some b) has has_next e =
      let p = stands.has_first a has in
      let q = stands.has_next b has_next in
      subst (EndsLog log) (same_Some (record a { batches = a.batches ++ b.batches }) c e) (record {
        given = stands.given;
        parts = stands.parts ∙ (λ i. stands.given ++ (sym p.batches_are i ++ sym q.batches_are i));
        start = p.start;
        owner = p.owner;
      })

  part_next : (a c : Chain) (y : Option Chain) → f (g + 1) ≡ Some a → f (g + 1 + 1) ≡ y → joined (Some a) y ≡ Some c → EndsLog log c
  part_next a c None has none e =
      let p = stands.has_next a has in
      subst (EndsLog log) (same_Some a c e) (record {
        given = stands.given ++ stands.first;
        parts =
            stands.parts ∙ sym (append_assoc stands.given stands.first stands.next)
            ∙ ap (λ (bs : List LogBatch). (stands.given ++ stands.first) ++ bs) (sym p.batches_are);
        start = p.start;
        owner = p.owner;
      })
  part_next a c (Some b) has has_next e = absurd (⊎_elim (λ h. omega (arith, h)) (λ h. omega (arith, h)) (stands.no_other (g + 1 + 1) b has_next))

  pub part_ends : (h : ℕ) (c : Chain) → chain_from h f ≡ Some c → EndsLog log c
  part_ends h c e =
      let a = first_there (f h) (f (h + 1)) c e in
      ⊎_elim
      (λ same. (
      let there : f g ≡ Some a.0 = ap f (sym same) ∙ a.1 in
      part_first a.0 c (f (g + 1)) there refl (sym (ap (λ (x : Option Chain). joined x (f (g + 1))) there) ∙ ap (λ (n : ℕ). chain_from n f) (sym same) ∙ e)
      ))
      (λ same. (
      let there : f (g + 1) ≡ Some a.0 = ap f (sym same) ∙ a.1 in
      part_next a.0 c (f (g + 1 + 1)) there refl (sym (ap (λ (x : Option Chain). joined x (f (g + 1 + 1))) there) ∙ ap (λ (n : ℕ). chain_from n f) (sym same) ∙ e)
      ))
      (stands.no_other h a.0 a.1)

  -- the next log begins where the one before it ends
  pub never_falls : (h start : ℕ) → ¬ StartFalls h f start
  never_falls h start t =
      let one = stands.no_other h t.first t.has_first in
      let two = stands.no_other (h + 1) t.next t.has_next in
      let same : h ≡ g = ⊎_elim (λ (e : h ≡ g). e) (λ e. ⊎_elim (λ (d : h + 1 ≡ g). omega (arith, e, d)) (λ d. omega (arith, d)) two) one in
      let p = stands.has_first t.first (ap f (sym same) ∙ t.has_first) in
      let q = stands.has_next t.next (ap (λ (n : ℕ). f (n + 1)) (sym same) ∙ t.has_next) in
      t.apart (q.start ∙ end_joined log.start stands.given stands.first ∙ (λ i. end_of (sym p.start i) (sym p.batches_are i)))

-- if it does, and each of both logs joins, so does the chain
pub joined_joins : (a b c : Chain) → JoinsAndRises a → JoinsAndRises b → b.start ≡ mark_of a → joined (Some a) (Some b) ≡ Some c
    → JoinsAndRises c
joined_joins a b c join_a join_b meets e =
    subst JoinsAndRises (same_Some (record a { batches = a.batches ++ b.batches }) c e)
    (both a.start a.batches join_a (subst (λ (n : ℕ). Join n b.batches) meets join_b))
  where
    both : (mark : ℕ) (bs : List LogBatch) → Join mark bs → Join (end_of mark bs) b.batches → Join mark (bs ++ b.batches)
    both mark [] j k = k
    both mark (x ∷ bs) j k = (j.0, j.1, both (to_of x) bs j.2 k)

pub chosen_ends : (g h : ℕ) (fronts : List Contents) (files : List Standing) (chains : List Chain) → AllZip (StandsFor g) fronts files → AreFrom h files chains
    → AllZip EndsLog fronts chains
chosen_ends g h [] [] [] stand are = tt
chosen_ends g h [] [] (c ∷ chains) stand are = absurd are
chosen_ends g h [] (f ∷ files) chains stand are = absurd stand
chosen_ends g h (log ∷ fronts) [] chains stand are = absurd stand
chosen_ends g h (log ∷ fronts) (f ∷ files) [] stand are = absurd are
chosen_ends g h (log ∷ fronts) (f ∷ files) (c ∷ chains) stand are = (part_ends g log f stand.0 h c are.0, chosen_ends g h fronts files chains stand.1 are.1)

-- a chain begins where its first log does
pub chain_start : (x y : Option Chain) (a c : Chain) → x ≡ Some a → joined x y ≡ Some c → c.start ≡ a.start
chain_start None y a c has e = absurd (no_some a has)
chain_start (Some b) None a c has e = ap (λ (d : Chain). d.start) (sym (same_Some b c e) ∙ same_Some b a has)
chain_start (Some b) (Some next) a c has e =
    sym (ap (λ (d : Chain). d.start) (same_Some (record b { batches = b.batches ++ next.batches }) c e))
    ∙ ap (λ (d : Chain). d.start) (same_Some b a has)

pub begun_chains : (g starts : ℕ) (files : List Standing) (chains : List Chain) → AllBegunBy g starts files → AreFrom g files chains → BeginBy starts chains
begun_chains g starts [] [] begun are c at = absurd at
begun_chains g starts [] (d ∷ chains) begun are c at = absurd are
begun_chains g starts (f ∷ files) [] begun are c at = absurd are
begun_chains g starts (f ∷ files) (d ∷ chains) begun are c (inl e) =
    let a = begun f (inl refl) in omega (arith, ap (λ (x : Chain). x.start) e, chain_start (f g) (f (g + 1)) a.0 d a.1 are.0, a.2)
begun_chains g starts (f ∷ files) (d ∷ chains) begun are c (inr at) = begun_chains g starts files chains (λ x there. begun x (inr there)) are.1 c at

pub chains_begun : (g starts : ℕ) (files : List Standing) (chains : List Chain) → BeginBy starts chains → AreFrom g files chains → AllBegunBy g starts files
chains_begun g starts [] chains begin are f at = absurd at
chains_begun g starts (x ∷ files) [] begin are f at = absurd are
chains_begun g starts (x ∷ files) (d ∷ chains) begin are f (inl e) =
    let a = first_there (x g) (x (g + 1)) d are.0 in
    (a.0, ap (λ (y : Standing). y g) e ∙ a.1, omega (arith, begin d (inl refl), chain_start (x g) (x (g + 1)) a.0 d a.1 are.0))
chains_begun g starts (x ∷ files) (d ∷ chains) begin are f (inr at) = chains_begun g starts files chains (λ c there. begin c (inr there)) are.1 f at
