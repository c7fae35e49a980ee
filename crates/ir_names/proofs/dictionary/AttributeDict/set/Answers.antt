use Rattle.std.proofs.Common.{◌≡◌, true, false, eqb, length, Result, Ok, Err, IfOk, OnOk, OnErr, sym, ◌∙◌, ap, subst}
use Rattle.std.proofs.lemmas.Bool.{eqb-true}
use Rattle.ir_names.specs.Dictionary.{all_entries, is_under, attribute_at, SetsAttribute}
use Rattle.ir_names.specs.Identifier.{text_of}
use Rattle.ir_names.proofs.Entries.{attribute_at-first, attribute_at-string, attribute_at-none, with_attribute-first, with_attribute-others, with_attribute-only, attribute_at-with_attribute, put-entries, put-attribute}
use Rattle.ir_names.proofs.WellNamed.{entries_put}
use Rattle.ir_names.proofs.dictionary.AttributeDict.set.Goals as goal

if_ok_same : {T E : Type 0} (r : Result T E) (v w : T) → v ≡ w → IfOk r (λ x. x ≡ v) → IfOk r (λ x. x ≡ w)
if_ok_same r v w e h = subst (λ v. IfOk r (λ x. x ≡ v)) e h

either : {T E P Q R : Type 0} (r : Result T E) → OnOk r P → OnErr r Q → (P → R) → (Q → R) → R
either (Ok x) p q f g = f p
either (Err e) p q f g = g q

-- an attribute takes the place of the first one
pub returns-then-has_name-clause-old : goal.returns-then-has_name-clause-old
returns-then-has_name-clause-old g c =
    let under : is_under c.self.inside.first (text_of c.args.key) ≡ true = subst (λ key. is_under c.self.inside.first key ≡ true) c.as_str.ensures.text (sym c.has_name.ensures ∙ c.if-has_name.true) in
    rw (← c.self.view_is) (c.replace_attribute.ensures.old ∙ sym (attribute_at-first c.self.inside.first c.self.inside.others (text_of c.args.key) under))

pub returns-then-has_name-clause-entries : goal.returns-then-has_name-clause-entries
returns-then-has_name-clause-entries g c =
    let under : is_under c.self.inside.first (text_of c.args.key) ≡ true = subst (λ key. is_under c.self.inside.first key ≡ true) c.as_str.ensures.text (sym c.has_name.ensures ∙ c.if-has_name.true) in
    rw (← c.self.view_is, c.replace_attribute.ensures.new) (with_attribute-first c.self.inside.first c.self.inside.others (text_of c.args.key) c.args.attr under)

pub returns-then-has_name-clause-set : goal.returns-then-has_name-clause-set
returns-then-has_name-clause-set g c =
    subst (λ es. SetsAttribute c.args.self.now es (text_of c.args.key) c.args.attr) (sym (returns-then-has_name-clause-entries g c)) (attribute_at-with_attribute _ _ _)

pub invariant_of-self : goal.invariant_of-self
invariant_of-self g c =
    let under : is_under c.self.inside.first (text_of c.args.key) ≡ true = subst (λ key. is_under c.self.inside.first key ≡ true) c.as_str.ensures.text (sym c.has_name.ensures ∙ c.if-has_name.true) in
    rw (c.replace_attribute.ensures.new, with_attribute-first c.self.inside.first c.self.inside.others (text_of c.args.key) c.args.attr under) (entries_put _ (text_of c.args.key) c.args.attr c.args.key.valid c.self.invariant)

-- an attribute is the first one
pub returns-then-is_empty-clause-old : goal.returns-then-is_empty-clause-old
returns-then-is_empty-clause-old g c =
    let seen = c.self.view_is in
    let is = c.is_empty.ensures in
    let so = c.if-is_empty.true in
    let empty : eqb (length c.args.self.now) 0 ≡ true = cc in
    attribute_at-none c.args.self.now (text_of c.args.key) (eqb-true (length c.args.self.now) 0 empty)

pub returns-then-is_empty-clause-entries : goal.returns-then-is_empty-clause-entries
returns-then-is_empty-clause-entries g c =
    let seen = c.self.view_is in
    let is = c.is_empty.ensures in
    let so = c.if-is_empty.true in
    let empty : eqb (length c.args.self.now) 0 ≡ true = cc in
    let none : length (all_entries c.self.inside.first c.self.inside.others) ≡ 0 = subst (λ es. length es ≡ 0) (sym seen) (eqb-true (length c.args.self.now) 0 empty) in
    rw (← c.self.view_is) (with_attribute-only c.self.inside.first c.begin.new.entry c.self.inside.others (text_of c.args.key) c.args.attr none c.begin.ensures)

pub returns-then-is_empty-clause-set : goal.returns-then-is_empty-clause-set
returns-then-is_empty-clause-set g c =
    subst (λ es. SetsAttribute c.args.self.now es (text_of c.args.key) c.args.attr) (sym (returns-then-is_empty-clause-entries g c)) (attribute_at-with_attribute _ _ _)

pub invariant_of-self-then-is_empty : goal.invariant_of-self-then-is_empty
invariant_of-self-then-is_empty g c =
    let seen = c.self.view_is in
    let is = c.is_empty.ensures in
    let so = c.if-is_empty.true in
    let empty : eqb (length c.args.self.now) 0 ≡ true = cc in
    let none : length (all_entries c.self.inside.first c.self.inside.others) ≡ 0 = subst (λ es. length es ≡ 0) (sym seen) (eqb-true (length c.args.self.now) 0 empty) in
    rw (with_attribute-only c.self.inside.first c.begin.new.entry c.self.inside.others (text_of c.args.key) c.args.attr none c.begin.ensures)
    (entries_put _ (text_of c.args.key) c.args.attr c.args.key.valid c.self.invariant)

-- an attribute stands among the others
pub returns-clause-old : goal.returns-clause-old
returns-clause-old g c =
    let other : is_under c.self.inside.first (text_of c.args.key) ≡ false = subst (λ key. is_under c.self.inside.first key ≡ false) c.as_str.ensures.text (sym c.has_name.ensures ∙ c.if-has_name.false) in
    if_ok_same c.insert.result _ _ (attribute_at-string c.self.inside.first c.self.inside.others c.into_string.result (text_of c.args.key) c.into_string.ensures.text other ∙ ap (λ es. attribute_at es (text_of c.args.key)) c.self.view_is)
    c.insert.ensures.old

pub returns-clause-entries : goal.returns-clause-entries
returns-clause-entries g c =
    let other : is_under c.self.inside.first (text_of c.args.key) ≡ false = subst (λ key. is_under c.self.inside.first key ≡ false) c.as_str.ensures.text (sym c.has_name.ensures ∙ c.if-has_name.false) in
    put-entries c.insert.result c.self.inside.first c.self.inside.others c.insert.new.self c.args.self.now c.into_string.result (text_of c.args.key) c.args.attr c.into_string.ensures.text other c.self.view_is c.insert.ensures.entries

pub returns-clause-set : goal.returns-clause-set
returns-clause-set g c =
    let other : is_under c.self.inside.first (text_of c.args.key) ≡ false = subst (λ key. is_under c.self.inside.first key ≡ false) c.as_str.ensures.text (sym c.has_name.ensures ∙ c.if-has_name.false) in
    put-attribute c.insert.result c.self.inside.first c.self.inside.others c.insert.new.self c.args.self.now c.into_string.result (text_of c.args.key) c.args.attr c.into_string.ensures.text other c.self.view_is c.insert.ensures.entries

pub invariant_of-self-2 : goal.invariant_of-self-2
invariant_of-self-2 g c =
    let other : is_under c.self.inside.first (text_of c.args.key) ≡ false = subst (λ key. is_under c.self.inside.first key ≡ false) c.as_str.ensures.text (sym c.has_name.ensures ∙ c.if-has_name.false) in
    either c.insert.result c.insert.ensures.entries c.insert.ensures.err
    (λ put. rw (with_attribute-others c.self.inside.first c.self.inside.others _ c.into_string.result (text_of c.args.key) c.args.attr c.into_string.ensures.text other put) (entries_put _ (text_of c.args.key) c.args.attr c.args.key.valid c.self.invariant))
    (λ same. rw same c.self.invariant)
