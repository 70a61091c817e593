use Rattle.std.proofs.Common.{inl, inr, refl, sym, subst, ◌∙◌, arith}
use Rattle.mt_slices.specs.Keys.{tenant_of}
use Rattle.mt_stretches.specs.Scanned.{maps_of, IsSeenTo}
use Rattle.mt_stretches.proofs.laws.wrong_scans_are_no_walk.Goals as goal

pub returns-clause-left_behind : goal.returns-clause-left_behind
returns-clause-left_behind c = λ past first from after count columns s key row walked is_done stayed missing h. elim (h.walked.whole key walked is_done) [
  | inl has ↦ missing has
  | inr absent ↦ let both = sym (stayed absent.0 absent.1) ∙ absent.2 in cc
]

pub returns-clause-full : goal.returns-clause-full
returns-clause-full c = λ past first from after count columns s many h. let few = h.few in omega (arith, many, few)

pub returns-clause-unseen_before_the_next : goal.returns-clause-unseen_before_the_next
returns-clause-unseen_before_the_next c = λ past first prefix s slice key row ends ahead upto stayed missing g.
    let seen = subst (IsSeenTo (maps_of past (tenant_of s.fence) g.step) s prefix) ends g.seen in
    elim (seen.upto.seen.whole key ahead upto) [
      | inl has ↦ missing has
      | inr absent ↦ let both = sym (stayed g.step (g.since, g.made)) ∙ absent in cc
    ]

pub returns-clause-unseen_to_the_end : goal.returns-clause-unseen_to_the_end
returns-clause-unseen_to_the_end c = λ past first prefix s key row ends ahead stayed missing g.
    let seen = subst (IsSeenTo (maps_of past (tenant_of s.fence) g.step) s prefix) ends g.seen in
    elim (seen.whole key ahead refl) [
      | inl has ↦ missing has
      | inr absent ↦ let both = sym (stayed g.step (g.since, g.made)) ∙ absent in cc
    ]
