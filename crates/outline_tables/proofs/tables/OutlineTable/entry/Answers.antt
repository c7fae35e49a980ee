use Rattle.std.proofs.Common.{◌∙◌, sym, ap}
use Rattle.std.specs.Prelude.{option_map}
use Rattle.outline_tables.specs.Tables.{entry_of}
use Rattle.outline_tables.proofs.TableLemmas.{entry_among-lookup}
use Rattle.outline_tables.proofs.tables.OutlineTable.entry.Goals as goal

pub returns : goal.returns
returns g c = ap (option_map entry_of) c.get.ensures.value ∙ sym (entry_among-lookup c.args.self.now.entries.entries c.args.index)
