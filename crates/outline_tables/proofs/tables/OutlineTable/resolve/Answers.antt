use Rattle.std.proofs.Common.{◌∙◌, ap, subst, sym, Some, List}
use Rattle.std.specs.Prelude.{option_copied, option_map}
use Rattle.ir_names.specs.declared.identifier.Identifier.{Identifier}
use Rattle.outline_tables.specs.Tables.{entry_of, section_of, LacksAttribute}
use Rattle.outline_tables.specs.declared.entries.Reference.{Reference}
use Rattle.outline_tables.proofs.TableLemmas.{leads-nowhere}
use Rattle.outline_tables.proofs.tables.OutlineTable.resolve.Goals as goal

pub returns-in-Err-clause-refused : goal.returns-in-Err-clause-refused
returns-in-Err-clause-refused g c = leads-nowhere (section_of c.args.self.now) c.args.mark c.in-Some-Bracketed.location c.in-Some-Bracketed.attributes.items c.in-Err.error
    (sym c.entry.ensures ∙ ap (option_map entry_of) (ap option_copied c.in-Some-Bracketed.is ∙ ap Some c.in-Some-Bracketed.field-0-is))
    (subst (λ (ms : List (Identifier × Reference g.row.A.Denot)). LacksAttribute (section_of c.args.self.now) ms c.in-Err.error) (c.deref.ensures.value ∙ ap (λ v. v.items) c.in-Some-Bracketed.attributes-is) c.in-Err.ensures.refused)
