use Rattle.std.proofs.Common.{◌∙◌, ap, map, nat_eq}
use Rattle.std.proofs.lemmas.List.{map-append}
use Rattle.indexmap.proofs.CallerLemmas.{insert_entry-new}
use Rattle.outline_tables.specs.Tables.{entry_of}
use Rattle.outline_tables.proofs.TableLemmas.{lookup-none}
use Rattle.outline_tables.proofs.tables.OutlineTable.put.Goals as goal

-- a new index goes last
pub returns-in-Ok-clause-ok : goal.returns-in-Ok-clause-ok
returns-in-Ok-clause-ok g c = ap (map (λ e. (e.0, entry_of e.1)))
    (c.in-Ok.ensures.entries ∙ insert_entry-new nat_eq c.args.self.now.entries c.args.index c.args.entry (lookup-none c.args.self.now.entries.entries c.args.index c.requires))
    ∙ map-append (λ e. (e.0, entry_of e.1)) c.args.self.now.entries.entries _
