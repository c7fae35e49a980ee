use Rattle.builtin_ifaces.proofs.symbols.SymbolOpInterface.set_symbol_name.Goals as goal

pub returns-clause-named : goal.returns-clause-named
returns-clause-named g c = record {
  before = c.payload_mut.result.now;
  after = c.put_name.new.data;
  carried = c.payload_mut.ensures.value;
  named = c.in_ok-put_name.ensures.named;
  edited = c.payload_mut.ensures.edits c.put_name.new.data;
}
