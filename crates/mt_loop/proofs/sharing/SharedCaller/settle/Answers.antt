use Rattle.std.proofs.Common.{◌∙◌}
use Rattle.mt_loop.proofs.Deeds.{led_none, led_resumed}
use Rattle.mt_loop.proofs.sharing.SharedCaller.settle.Goals as goal

pub returns : goal.returns
returns g c = (
  c.args.self.now.caller,
  c.settle-told.new.self,
  led_none g.C.Caller.exchanges g.C.Sharing.resumes c.args.self.now.caller,
  c.settle-told.ensures,
  led_resumed g.C.Caller.exchanges g.C.Sharing.resumes c.settle-told.new.self c.resume.new.self c.resume.ensures.resumes,
  c.resume.ensures.opened ∙ c.opened-tenant.ensures,
)
