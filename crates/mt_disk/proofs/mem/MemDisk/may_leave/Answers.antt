-- What `may_leave` answers is what a crash may leave: where nothing is dirty, by comparing the images.
use Rattle.std.proofs.{Common.{rules, ◌≡◌, ◌↔◌, IsTrue, []}, lemmas.List.nil_from_length}
use Rattle.mt_disk.{specs.Mem.mem_state, proofs.Images.all_durable}
use Rattle.mt_disk.proofs.mem.MemDisk.may_leave.Goals as goal

pub returns-then-is_empty : goal.returns-then-is_empty
returns-then-is_empty c =
    let none : c.args.self.now.dirty.items ≡ [] = nil_from_length c.args.self.now.dirty.items (search rules) in
    let told : IsTrue c.eq.result ↔ (c.args.image.now ≡ c.args.self.now.durable.items) = search rules in
    let both = all_durable (mem_state c.args.self.now).now c.args.image.now none in
    (λ yes. both.0 (told.0 yes), λ left. told.1 (both.1 left))
