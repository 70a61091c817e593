use Rattle.mt_resp_commands.proofs.Pages.{scanned_keys, scanned_none}
use Rattle.mt_resp_commands.proofs.scans.scan.Goals as goal

pub returns-in_ok-cursor-in-Ok-clause-scanned : goal.returns-in_ok-cursor-in-Ok-clause-scanned
returns-in_ok-cursor-in-Ok-clause-scanned g c =
    scanned_keys g.C.Caller.exchanges g.C.Knows.knows c.args.link.now c.page.new.link c.args.caller.now c.page.new.caller c.args.cursor c.args.count c.scan_count-count.result c.in_ok-cursor-in-Ok.cursor c.args.pattern _ c.in-Some.from c.in-Some.after
    c.page_of.result _ c.in-Ok.pairs c.in-Some.is c.scan_count-count.ensures c.page_of.ensures c.in-Ok.is c.in_ok-from.ensures c.in_ok-pairs.ensures.page c.in_ok-cursor-in-Ok.ensures

pub returns-in-Err-clause-scanned : goal.returns-in-Err-clause-scanned
returns-in-Err-clause-scanned g c =
    scanned_none g.C.Caller.exchanges g.C.Knows.knows c.args.link.now c.page.new.link c.args.caller.now c.page.new.caller c.args.cursor c.args.count c.scan_count-count.result c.args.pattern _ c.in-Some.from c.in-Some.after
    c.page_of.result _ c.in-Err.one c.in-Some.is c.scan_count-count.ensures c.page_of.ensures c.in-Err.is c.in_ok-from.ensures c.in_ok-pairs.ensures.page
