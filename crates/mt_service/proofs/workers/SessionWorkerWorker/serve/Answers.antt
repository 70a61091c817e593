-- A session of a worker is one over its caller, and right if it was closed.
use Rattle.std.proofs.Common.{true, false, rules}
use Rattle.mt_service.{specs.Sessions.AsksBook, proofs.Sessions.session_of}
use Rattle.mt_service.proofs.workers.SessionWorkerWorker.serve.Goals as goal

pub returns-in-Ok-Closed : goal.returns-in-Ok-Closed
returns-in-Ok-Closed g c =
    session_of (AsksBook g.D.Disk.is_honest g.D.Disk.state g.D.Disk.failures g.D.Disk.was_refused) _ _ _ _ _ _ _ _ c.serve_with-served.result c.serve_with-served.ensures true (λ is. search rules)

pub returns-in-Ok-Refused : goal.returns-in-Ok-Refused
returns-in-Ok-Refused g c =
    session_of (AsksBook g.D.Disk.is_honest g.D.Disk.state g.D.Disk.failures g.D.Disk.was_refused) _ _ _ _ _ _ _ _ c.serve_with-served.result c.serve_with-served.ensures false (λ is. absurd (cc (is)))

pub returns-in-Ok-Cut : goal.returns-in-Ok-Cut
returns-in-Ok-Cut g c =
    session_of (AsksBook g.D.Disk.is_honest g.D.Disk.state g.D.Disk.failures g.D.Disk.was_refused) _ _ _ _ _ _ _ _ c.serve_with-served.result c.serve_with-served.ensures false (λ is. absurd (cc (is)))

pub returns-in-Err : goal.returns-in-Err
returns-in-Err g c =
    session_of (AsksBook g.D.Disk.is_honest g.D.Disk.state g.D.Disk.failures g.D.Disk.was_refused) _ _ _ _ _ _ _ _ c.serve_with-served.result c.serve_with-served.ensures false (λ is. absurd (cc (is)))
