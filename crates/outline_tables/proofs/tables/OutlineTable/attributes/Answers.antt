use Rattle.std.proofs.lemmas.Option.{slice_get_read}
use Rattle.std.proofs.Common.{◌≡◌, ◌∙◌, ◌+◌, Some, length, ap, sym, subst, inr, refl}
use Rattle.std.specs.Prelude.{option_copied, option_map}
use Rattle.std.proofs.lemmas.Option.{slice_get-map}
use Rattle.std.proofs.lemmas.List.{map-append}
use Rattle.ir_names.specs.Identifier.{text_of}
use Rattle.outline_tables.specs.Tables.{first_unknown, found_under, member_of, members_of, section_of}
use Rattle.outline_tables.proofs.TableLemmas.{first-missing, next-found-at}
use Rattle.outline_tables.proofs.tables.OutlineTable.attributes.Goals as goal

-- src/tables.rt:97:25
pub returns-in-None-clause-refused : goal.returns-in-None-clause-refused
returns-in-None-clause-refused g c = inr (
  c.len.result,
  refl,
  subst (λ n. first_unknown (section_of c.args.self.now) (members_of c.args.references.now) ≡ Some n) (sym (c.len.ensures ∙ c.loop-member.invariant.1))
      (first-missing (section_of c.args.self.now) (members_of c.args.references.now) c.loop-member.member-index _ _ c.loop-member.invariant.0
      (slice_get-map member_of c.args.references.now c.loop-member.member-index ∙ ap (option_map member_of) (slice_get_read c.args.references.now (length c.args.references.now) c.loop-member.member-index c.member-item.result refl c.loop-member-test.true c.member-item.is))
      (sym c.attribute.ensures ∙ ap option_copied c.in-None.is)),
)

-- src/tables.rt:94:9
pub loop-member-preserved : goal.loop-member-preserved
loop-member-preserved g c = (
  next-found-at (section_of c.args.self.now) (members_of c.args.references.now) c.loop-member.member-index _ _ _ c.loop-member.invariant.0
      (slice_get-map member_of c.args.references.now c.loop-member.member-index ∙ ap (option_map member_of) (slice_get_read c.args.references.now (length c.args.references.now) c.loop-member.member-index c.member-item.result refl c.loop-member-test.true c.member-item.is))
      (sym c.attribute.ensures ∙ ap option_copied c.in-Some.is)
      ∙ ap Some (sym (ap found_under c.in_ok-push-in-Some.ensures.items ∙ map-append (λ m. (text_of m.0.now, m.1.now)) c.loop-member.found.items _)),
  c.in_ok-push-in-Some.ensures.len ∙ ap (λ n. n + 1) c.loop-member.invariant.1,
)
