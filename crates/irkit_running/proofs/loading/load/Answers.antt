use Rattle.irkit_running.proofs.ReadLemmas.{unread, loaded}
use Rattle.irkit_running.proofs.loading.load.Goals as goal

pub returns-in_err-bytes-clause-ends : goal.returns-in_err-bytes-clause-ends
returns-in_err-bytes-clause-ends g c =
    unread g.R.Read.remaining c.args.reader.now c.read_to_end.new.reader _ c.read_to_end.result c.args.ctx.now _ _ c.in_err-bytes.was c.read_to_end.ensures c.from_residual.ensures.1

pub returns-clause-ends : goal.returns-clause-ends
returns-clause-ends g c =
    loaded g.R.Read.remaining c.args.reader.now c.read_to_end.new.reader c.in_ok-bytes.bytes.items c.args.ctx.now c.understand.new.ctx c.understand.result
    c.in_ok-bytes.ensures c.understand.ensures.understands

pub returns-clause-writable : goal.returns-clause-writable
returns-clause-writable g c = c.understand.ensures.writable

pub returns-clause-grammar : goal.returns-clause-grammar
returns-clause-grammar g c = c.understand.ensures.grammar
