-- a root's word is that of a child with the root's flag
use Rattle.std.proofs.Common.{true, false, sym, ap, ◌∙◌, arith}
use Rattle.mt_version.{specs.{Parts.Parts, Changes.renewed}, proofs.{Bits.renewed_plain, Aging.{ages-renewed, later-renewed, renewed_older}}}
use Rattle.mt_version.proofs.word.Version.renewed.Goals as goal

pub returns-then-root-clause-value : goal.returns-then-root-clause-value
returns-then-root-clause-value c =
    c.made_root.ensures.value
    ∙ ap (λ (p : Parts). record p { root = true }) (renewed_plain c.self.inside.0 (omega arith) ∙ ap (λ p. renewed p false) c.self.view_is)
    ∙ ap (renewed c.args.self) (sym c.if-root.true)

pub returns-then-root-clause-later : goal.returns-then-root-clause-later
returns-then-root-clause-later c = rw (returns-then-root-clause-value c) (later-renewed c.args.self c.args.root)

pub returns-then-root-clause-ages : goal.returns-then-root-clause-ages
returns-then-root-clause-ages c = rw (returns-then-root-clause-value c) (ages-renewed c.args.self c.args.root)

pub returns-then-root-clause-older : goal.returns-then-root-clause-older
returns-then-root-clause-older c = rw (returns-then-root-clause-value c) (renewed_older c.args.self c.args.root)
