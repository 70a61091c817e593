-- The log at a place was read, with its reader.
use Rattle.std.specs.Prelude.{is_ok, slice_index_or}
use Rattle.mt_store_logs.proofs.{Loops.read_or, Rereading.{logs_read, plain_kept, others_left, this_gives}}
use Rattle.mt_store_logs.proofs.second_reading.read_next.Goals as goal

pub returns-clause-given : goal.returns-clause-given
returns-clause-given g c =
    let logs = c.args.logs.now in
    let readers = c.args.readers.now in
    let place = c.args.place in
    let was = slice_index_or logs place c.index-logs-place.result in
    let reader = slice_index_or readers place c.index-readers-place.result in
    this_gives g.D.Disk.is_honest g.D.Disk.state g.D.Disk.failures logs readers place was c.read_again.new.self reader c.read_again.new.reader
    (read_or logs place c.index-logs-place.result c.requires.log) (read_or readers place c.index-readers-place.result c.requires.reader)
    c.read_again.result c.requires.log c.requires.reader c.read_again.ensures.ahead

pub returns-clause-others : goal.returns-clause-others
returns-clause-others g c =
    let logs = c.args.logs.now in
    let readers = c.args.readers.now in
    let place = c.args.place in
    let was = slice_index_or logs place c.index-logs-place.result in
    let reader = slice_index_or readers place c.index-readers-place.result in
    others_left g.D.Disk.is_honest g.D.Disk.state g.D.Disk.failures logs readers place was c.read_again.new.self reader c.read_again.new.reader
    (read_or logs place c.index-logs-place.result c.requires.log) (read_or readers place c.index-readers-place.result c.requires.reader)

pub returns-clause-read : goal.returns-clause-read
returns-clause-read g c =
    let logs = c.args.logs.now in
    let readers = c.args.readers.now in
    let place = c.args.place in
    let was = slice_index_or logs place c.index-logs-place.result in
    let reader = slice_index_or readers place c.index-readers-place.result in
    logs_read g.D.Disk.is_honest g.D.Disk.state g.D.Disk.failures logs readers place was c.read_again.new.self reader c.read_again.new.reader
    (read_or logs place c.index-logs-place.result c.requires.log) (read_or readers place c.index-readers-place.result c.requires.reader)
    (is_ok c.read_again.result) c.read_again.ensures.read

pub returns-clause-plain : goal.returns-clause-plain
returns-clause-plain g c =
    let logs = c.args.logs.now in
    let readers = c.args.readers.now in
    let place = c.args.place in
    let was = slice_index_or logs place c.index-logs-place.result in
    let reader = slice_index_or readers place c.index-readers-place.result in
    plain_kept g.D.Disk.is_honest g.D.Disk.state g.D.Disk.failures logs readers place was c.read_again.new.self reader c.read_again.new.reader
    (read_or logs place c.index-logs-place.result c.requires.log) (read_or readers place c.index-readers-place.result c.requires.reader)
    c.read_again.ensures.plain
