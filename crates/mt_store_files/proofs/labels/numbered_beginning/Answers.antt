-- The header after an open gate was read as it stood.
use Rattle.std.proofs.Common.{◌≡◌, ◌∙◌, IsTrue, take, drop, slice_index_or, rules, sym, ap, subst}
use Rattle.mt_disk.specs.Disk.{DiskState}
use Rattle.mt_store_files.proofs.LabelLemmas.{label_after_gate}
use Rattle.mt_store_files.proofs.labels.numbered_beginning.Goals as goal

pub returns-in-Ok : goal.returns-in-Ok
returns-in-Ok g c honest =
    let image = (g.D.Disk.state c.args.disk.now).image in
    let told = c.in_ok-first_byte.ensures.told honest in
    let gate : slice_index_or image 0 0 ≡ 1 = search (rules, told) in
    let first : IsTrue (g.D.Disk.is_honest c.first_byte.new.disk) = subst IsTrue (sym c.first_byte.ensures.honest) honest in
    let second : IsTrue (g.D.Disk.is_honest c.len.new.self) = subst IsTrue (sym c.len.ensures.honest) first in
    let same : g.D.Disk.state c.len.new.self ≡ g.D.Disk.state c.args.disk.now = c.len.ensures.same first ∙ c.first_byte.ensures.same honest in
    let read : c.read.new.out ≡ take 24 (drop 1 image) = (c.in_ok-read.ensures.told second).bytes ∙ ap (λ (s : DiskState). take 24 (drop 1 s.image)) same in
    (gate, label_after_gate image c.read.new.out c.in-Ok.header read c.in-Ok.ensures.ok.whole)
